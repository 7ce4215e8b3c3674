-- What a set of names answers.
use Rattle.std.proofs.Common.{◌≡◌, refl, sym, ap, ◌∙◌, ℕ, Bool, true, false, List, [], ◌∷◌, ◌++◌, map, ◌||◌}
use Rattle.std.specs.Prelude.{if◌then◌else◌, position}
use Rattle.std.specs.Borrow.{Bor}
use Rattle.std.specs.Cmp.Lexicographic.{nat_list_eq_equiv}
use Rattle.std.specs.Str.{bytes_eq}
use Rattle.std.specs.List.{list_any, position_or_len}
use Rattle.std.proofs.lemmas.List.{map-append, length-map}
use Rattle.std.proofs.Common.{not, cond, nat_lt, Some, None, length, ◌+◌}
use Rattle.indexmap.specs.IndexSet.{insert_key}
use Rattle.pas_rules.specs.Scopes.{contains}
use Rattle.pas_rules.specs.Scopes.{with_name}
use Rattle.pas_scopes.specs.NameSetInside.{spelling_in}

-- whether keys are the same name
abbrev pub is_same_key : Bor (List ℕ) → Bor (List ℕ) → Bool
is_same_key key other = bytes_eq key.now other.now

pub any_view : (name : List ℕ) (keys : List (Bor (List ℕ)))
    → list_any (λ key. bytes_eq name key.now) keys ≡ contains (map spelling_in keys) name
any_view name [] = refl
any_view name (key ∷ keys) = λ i. nat_list_eq_equiv.symm name key.now i || any_view name keys i

place_view : (name : List ℕ) (keys : List (Bor (List ℕ)))
    → position_or_len (λ key. bytes_eq name key.now) keys
    ≡ position_or_len (λ other. bytes_eq other name) (map spelling_in keys)
place_view name [] = refl
place_view name (key ∷ keys) =
    λ i. cond (not (nat_list_eq_equiv.symm name key.now i)) (1 + place_view name keys i) 0

pub position_view : (name : List ℕ) (keys : List (Bor (List ℕ)))
    → position (λ key. bytes_eq name key.now) keys ≡ position (λ other. bytes_eq other name) (map spelling_in keys)
position_view name keys =
    let same : length keys ≡ length (map spelling_in keys) = sym (length-map keys spelling_in) in
    λ i. cond (nat_lt (place_view name keys i) (same i)) (Some (place_view name keys i)) None

added_by : (b : Bool) (keys : List (Bor (List ℕ))) (key : Bor (List ℕ))
    → map spelling_in (if b then keys else keys ++ key ∷ [])
    ≡ (if b then map spelling_in keys else map spelling_in keys ++ key.now ∷ [])
added_by true keys key = refl
added_by false keys key = map-append spelling_in keys (key ∷ [])

pub added : (keys : List (Bor (List ℕ))) (key : Bor (List ℕ))
    → map spelling_in (insert_key is_same_key keys key) ≡ with_name (map spelling_in keys) key.now
added keys key =
    added_by (list_any (is_same_key key) keys) keys key
    ∙ ap (λ (b : Bool). if b then map spelling_in keys else map spelling_in keys ++ key.now ∷ [])
    (any_view key.now keys)
