-- What a table of names answers.
use Rattle.std.proofs.Common.{◌≡◌, refl, sym, ap, ◌∙◌, ℕ, Bool, true, false, cond, List, [], ◌∷◌, ◌++◌, map}
use Rattle.std.proofs.Common.{Option, Some, None, is_some, ◌||◌}
use Rattle.std.specs.Prelude.{option_map, if◌then◌else◌, find}
use Rattle.std.specs.Borrow.{Bor}
use Rattle.std.specs.Cmp.Lexicographic.{nat_list_eq_equiv}
use Rattle.std.specs.Str.{bytes_eq}
use Rattle.std.specs.Map.{lookup}
use Rattle.std.proofs.lemmas.List.{map-append}
use Rattle.indexmap.specs.IndexMap.{insert_entry}
use Rattle.indexmap.proofs.MapLemmas.{absent_from_lookup, insert_entry-absent}
use Rattle.pas_scopes.specs.declared.names.Entity.{Entity as CodeEntity}
use Rattle.pas_rules.specs.Scopes.{Entity, Named, names, entity_in, contains, names_of, required}
use Rattle.pas_scopes.specs.NameViews.{entity_view, IsSmall, IsSmallEntity, AreSmall}
use Rattle.pas_rules.specs.Scopes.{with_new}
use Rattle.pas_tokens.specs.declared.limits.TheConstants.{GREATEST_NUMBER}
use Rattle.std.proofs.Common.{arith, pos, IfSome}
use Rattle.std.proofs.lemmas.Int.{ints}
use Rattle.pas_scopes.specs.NamesInside.{named_view}

abbrev pub Entry : Type 0
Entry = Bor (List ℕ) × CodeEntity

-- whether a key is this name
abbrev pub is_key : List ℕ → Bor (List ℕ) → Bool
is_key name key = bytes_eq name key.now

chosen : (b : Bool) (e : CodeEntity) (name : List ℕ) (rest : Option CodeEntity) (others : Option Named)
    → option_map entity_view rest ≡ option_map (λ (named : Named). named.entity) others
    → option_map entity_view (cond b (Some e) rest)
    ≡ option_map (λ (named : Named). named.entity) (cond b (Some (names name (entity_view e))) others)
chosen true e name rest others h = refl
chosen false e name rest others h = h

pub lookup_view : (name : List ℕ) (entries : List Entry)
    → option_map entity_view (lookup (is_key name) entries) ≡ entity_in (map named_view entries) name
lookup_view name [] = refl
lookup_view name (entry ∷ entries) =
    chosen (is_key name entry.0) entry.1 entry.0.now (lookup (is_key name) entries)
    (find (λ (named : Named). bytes_eq named.name name) (map named_view entries)) (lookup_view name entries)
    ∙ ap (λ b. option_map (λ (named : Named). named.entity) (cond b (Some (named_view entry))
    (find (λ (named : Named). bytes_eq named.name name) (map named_view entries))))
    (nat_list_eq_equiv.symm name entry.0.now)

pub some_lookup : (name : List ℕ) (entries : List Entry)
    → is_some (lookup (is_key name) entries) ≡ contains (names_of (map named_view entries)) name
some_lookup name [] = refl
some_lookup name (entry ∷ entries) =
    by (is_key name entry.0)
    ∙ (λ i. nat_list_eq_equiv.symm name entry.0.now i || some_lookup name entries i)
  where
    by : (b : Bool) → is_some (cond b (Some entry.1) (lookup (is_key name) entries))
        ≡ b || is_some (lookup (is_key name) entries)
    by true = refl
    by false = refl

none_found : {A : Type 0} (found : Option A) → is_some found ≡ false → found ≡ None
none_found None h = refl
none_found (Some x) h = absurd cc

pub with_held : (found : List Named) (name : List ℕ) (entity : Entity) → contains (names_of found) name ≡ true
    → with_new found name entity ≡ found
with_held found name entity h =
    ap (λ b. if b then found else found ++ names name entity ∷ []) h

pub inserted : (key : Bor (List ℕ)) (entity : CodeEntity) (entries : List Entry)
    → contains (names_of (map named_view entries)) key.now ≡ false
    → map named_view (insert_entry (λ one other. bytes_eq one.now other.now) entries key entity)
    ≡ with_new (map named_view entries) key.now (entity_view entity)
inserted key entity entries new =
    ap (map named_view)
    (insert_entry-absent (λ (one other : Bor (List ℕ)). bytes_eq one.now other.now) key entity entries
    (absent_from_lookup (is_key key.now) entries
    (none_found (lookup (is_key key.now) entries) (some_lookup key.now entries ∙ new))))
    ∙ map-append named_view entries ((key, entity) ∷ [])
    ∙ sym (ap (λ b. if b then map named_view entries
    else map named_view entries ++ names key.now (entity_view entity) ∷ [])
    new)

-- constants that are small
small_chosen : (b : Bool) (named : Named) (others : Option Named) → IsSmallEntity named.entity
    → IfSome (option_map (λ (found : Named). found.entity) others) IsSmallEntity
    → IfSome (option_map (λ (found : Named). found.entity) (cond b (Some named) others)) IsSmallEntity
small_chosen true named others h k = h
small_chosen false named others h k = k

pub small_in : (found : List Named) (name : List ℕ) → AreSmall found → IfSome (entity_in found name) IsSmallEntity
small_in [] name h = tt
small_in (named ∷ found) name h =
    small_chosen (bytes_eq named.name name) named (find (λ (other : Named). bytes_eq other.name name) found) h.0
    (small_in found name h.1)

pub small_view : (found : Option CodeEntity) → IfSome (option_map entity_view found) IsSmallEntity
    → IfSome found (λ entity. IsSmallEntity (entity_view entity))
small_view None h = tt
small_view (Some entity) h = h

small_push : (found : List Named) (name : List ℕ) (entity : Entity) → AreSmall found → IsSmallEntity entity
    → AreSmall (found ++ names name entity ∷ [])
small_push [] name entity h k = (k, tt)
small_push (named ∷ found) name entity h k = (h.0, small_push found name entity h.1 k)

small_by : (b : Bool) (found : List Named) (name : List ℕ) (entity : Entity) → AreSmall found → IsSmallEntity entity
    → AreSmall (if b then found else found ++ names name entity ∷ [])
small_by true found name entity h k = h
small_by false found name entity h k = small_push found name entity h k

pub small_new : (found : List Named) (name : List ℕ) (entity : Entity) → AreSmall found → IsSmallEntity entity
    → AreSmall (with_new found name entity)
small_new found name entity h k = small_by (contains (names_of found) name) found name entity h k

small_truth : IsSmall (pos 0) × IsSmall (pos 1)
small_truth = ((omega (arith, ints), omega (arith, ints)), (omega (arith, ints), omega (arith, ints)))

small_greatest : IsSmall (pos GREATEST_NUMBER)
small_greatest = (omega (arith, ints), omega (arith, ints))

pub small_required : AreSmall required
small_required = (
  tt,
  (
    tt,
    (
      tt,
      (
        tt,
        (
          small_truth.0,
          (
            small_truth.1,
            (
              small_greatest,
              (
                tt,
                (
                  tt,
                  (
                    tt,
                    (
                      tt,
                      (
                        tt,
                        (
                          tt,
                          (
                            tt,
                            (
                              tt,
                              (
                                tt,
                                (tt, (tt, (tt, (tt, (tt, (tt, tt)))))),
                              ),
                            ),
                          ),
                        ),
                      ),
                    ),
                  ),
                ),
              ),
            ),
          ),
        ),
      ),
    ),
  ),
)
