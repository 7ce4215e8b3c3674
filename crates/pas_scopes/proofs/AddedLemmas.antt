-- Variables that are added one after another, with their names.
use Rattle.std.proofs.Common.{◌≡◌, refl, sym, ap, subst, ◌∙◌, ℕ, suc, ◌+◌, ◌<◌, ◌≤◌, arith, List, [], ◌∷◌, ◌++◌}
use Rattle.std.proofs.Common.{length, length-append, map, take, get_or, Bool, true, false}
use Rattle.std.specs.Prelude.{◌&&◌}
use Rattle.std.proofs.lemmas.List.{append_assoc, append-nil, map-append, take_more, take_all, length-map}
use Rattle.pas_syntax.specs.declared.tree.Ident.{Ident as CodeIdent}
use Rattle.pas_syntax.specs.declared.tree.Behind.{Behind as CodeBehind}
use Rattle.pas_syntax.specs.declared.tree.Separated.{Separated as CodeSeparated}
use Rattle.pas_syntax.specs.Views.{spelled_in, ident_in, separated_in, behind_in}
use Rattle.pas_typed.specs.declared.types.PasType.{PasType as CodePasType}
use Rattle.pas_typed.specs.declared.typed.Home.{Home as CodeHome}
use Rattle.pas_typed.specs.declared.typed.Mode.{Mode as CodeMode}
use Rattle.pas_typed.specs.declared.typed.Variable.{Variable as CodeVariable}
use Rattle.pas_typed.specs.Typed.{Variable}
use Rattle.pas_typed.specs.TypeViews.{type_view}
use Rattle.pas_typed.specs.TypedViews.{home_view, mode_view, variable_view}
use Rattle.pas_rules.specs.Scopes.{Entity, variable, unclear, Named, names, Outer, contains, spellings_of}
use Rattle.pas_rules.specs.Declarations.{variables_of, named_slots, unclear_names, are_parameters}
use Rattle.pas_rules.specs.Scopes.{with_new}
use Rattle.pas_scopes.specs.ScopeViews.{all_idents}
use Rattle.pas_scopes.specs.DeclaredSoFar.{with_each}

-- the names that a loop has come to
abbrev pub no_name : CodeBehind CodeIdent
no_name = record { line = 0; item = record { span = record { first = 0; count = 0 }; line = 0 } }

abbrev pub seen : List ℕ → List CodeIdent → List (List ℕ)
seen spellings idents = map (λ (ident : CodeIdent). spelled_in spellings ident.span) idents

abbrev pub so_far : CodeIdent → List (CodeBehind CodeIdent) → ℕ → List CodeIdent
so_far first more i = first ∷ map (λ (behind : CodeBehind CodeIdent). behind.item) (take i more)

pub so_far_more : (first : CodeIdent) (more : List (CodeBehind CodeIdent)) (i : ℕ) (d : CodeBehind CodeIdent)
    → i < length more → so_far first more (i + 1) ≡ so_far first more i ++ (get_or more i d).item ∷ []
so_far_more first more i d within =
    ap (λ (rest : List CodeIdent). first ∷ rest)
    (ap (map (λ (behind : CodeBehind CodeIdent). behind.item)) (take_more more i d within)
    ∙ map-append (λ (behind : CodeBehind CodeIdent). behind.item) (take i more) (get_or more i d ∷ []))

pub so_far_all : (names : CodeSeparated CodeIdent) (more : List (CodeBehind CodeIdent)) (i : ℕ) → length more ≤ i
    → more ≡ names.more → so_far names.first more i ≡ all_idents names
so_far_all names more i all is =
    ap (λ (rest : List (CodeBehind CodeIdent)).
    names.first ∷ map (λ (behind : CodeBehind CodeIdent). behind.item) rest) (take_all i more all ∙ is)

pub seen_all : (spellings : List ℕ) (names : CodeSeparated CodeIdent)
    → spellings_of (separated_in (ident_in spellings) names) ≡ seen spellings (all_idents names)
seen_all spellings names =
    ap (λ (rest : List (List ℕ)). spelled_in spellings names.first.span ∷ rest) (each names.more)
  where
    each : (more : List (CodeBehind CodeIdent))
        → map (λ ident. ident.name) (map (λ behind. behind.item) (map (behind_in (ident_in spellings)) more))
        ≡ seen spellings (map (λ behind. behind.item) more)
    each [] = refl
    each (behind ∷ more) = ap (λ (rest : List (List ℕ)). spelled_in spellings behind.item.span ∷ rest) (each more)

pub seen_push : (spellings : List ℕ) (idents : List CodeIdent) (ident : CodeIdent)
    → seen spellings (idents ++ ident ∷ []) ≡ seen spellings idents ++ spelled_in spellings ident.span ∷ []
seen_push spellings idents ident =
    map-append (λ (ident : CodeIdent). spelled_in spellings ident.span) idents (ident ∷ [])

pub seen_length : (spellings : List ℕ) (names : CodeSeparated CodeIdent)
    → length (spellings_of (separated_in (ident_in spellings) names)) ≡ length (all_idents names)
seen_length spellings names =
    ap length (seen_all spellings names)
    ∙ length-map (all_idents names) (λ (ident : CodeIdent). spelled_in spellings ident.span)

-- parameters
pub parameters_push : (outer : Outer) (spellings : List (List ℕ)) (name : List ℕ)
    → are_parameters outer (spellings ++ name ∷ []) ≡ (are_parameters outer spellings && contains outer.parameters name)
parameters_push outer [] name = last (contains outer.parameters name)
  where
    last : (b : Bool) → (b && true) ≡ (true && b)
    last true = refl
    last false = refl
parameters_push outer (first ∷ spellings) name =
    ap (λ (b : Bool). contains outer.parameters first && b) (parameters_push outer spellings name)
    ∙ together (contains outer.parameters first) (are_parameters outer spellings) (contains outer.parameters name)
  where
    together : (a b c : Bool) → (a && (b && c)) ≡ ((a && b) && c)
    together true b c = refl
    together false b c = refl

-- names that are declared
pub each_push : (found more : List Named) (last : Named)
    → with_each found (more ++ last ∷ []) ≡ with_new (with_each found more) last.name last.entity
each_push found [] last = refl
each_push found (first ∷ more) last = each_push (with_new found first.name first.entity) more last

unclear_push : (spellings : List (List ℕ)) (name : List ℕ)
    → unclear_names (spellings ++ name ∷ []) ≡ unclear_names spellings ++ names name unclear ∷ []
unclear_push spellings name = map-append (λ (name : List ℕ). names name unclear) spellings (name ∷ [])

-- names of which nothing is known
pub record Unknown (spellings : List ℕ) (old : List Named) (idents : List CodeIdent) (now : List Named)
    : Type 0 where
  pub names_are : now ≡ with_each old (unclear_names (seen spellings idents))

pub unknown_more : (spellings : List ℕ) (old : List Named) (idents : List CodeIdent) (now next : List Named)
    (ident : CodeIdent) → Unknown spellings old idents now
    → next ≡ with_new now (spelled_in spellings ident.span) unclear → Unknown spellings old (idents ++ ident ∷ []) next
unknown_more spellings old idents now next ident h is =
    let name : List ℕ = spelled_in spellings ident.span in
    record {
      names_are = is
          ∙ (ap (λ (found : List Named). with_new found name unclear) h.names_are
          ∙ (sym (each_push old (unclear_names (seen spellings idents)) (names name unclear))
          ∙ ap (with_each old) (sym (unclear_push (seen spellings idents) name)
          ∙ ap unclear_names (sym (seen_push spellings idents ident)))));
    }

-- variables of one type
module _ (home : CodeHome) (mode : CodeMode) (type : CodePasType) where
  abbrev variable_at : CodeIdent → CodeVariable
  variable_at ident = record { name = ident.span; mode = mode; pas_type = type }

  abbrev pub slot_at : ℕ → Entity
  slot_at number =
      variable (record { home = home_view home; number = number; mode = mode_view mode; type = type_view type })

  abbrev made_of : List (List ℕ) → List Variable
  made_of spellings = variables_of (mode_view mode) (type_view type) spellings

  pub slots_push : (n : ℕ) (spellings : List (List ℕ)) (name : List ℕ)
      → named_slots (home_view home) n (made_of (spellings ++ name ∷ []))
      ≡ named_slots (home_view home) n (made_of spellings) ++ names name (slot_at (n + length spellings)) ∷ []
  slots_push n [] name = ap (λ (number : ℕ). names name (slot_at number) ∷ []) (omega arith)
  slots_push n (first ∷ spellings) name =
      ap (λ (rest : List Named). names first (slot_at n) ∷ rest) (slots_push (suc n) spellings name)
      ∙ ap (λ (number : ℕ). names first (slot_at n)
      ∷ (named_slots (home_view home) (suc n) (made_of spellings) ++ names name (slot_at number) ∷ []))
      (omega arith)

  pub record Added (spellings : List ℕ) (old : List Named) (variables : List CodeVariable) (idents : List CodeIdent)
      (now : List Named) (more : List CodeVariable) : Type 0 where
    pub names_are : now ≡ with_each old
        (named_slots (home_view home) (length variables) (made_of (seen spellings idents)))
    pub variables_are : more ≡ variables ++ map variable_at idents

  pub added_none : (spellings : List ℕ) (old : List Named) (variables : List CodeVariable)
      → Added spellings old variables [] old variables
  added_none spellings old variables = record { names_are = refl; variables_are = sym (append-nil variables) }

  pub added_more : (spellings : List ℕ) (old : List Named) (variables : List CodeVariable) (idents : List CodeIdent)
      (now next : List Named) (more later : List CodeVariable) (ident : CodeIdent)
      → Added spellings old variables idents now more
      → next ≡ with_new now (spelled_in spellings ident.span) (slot_at (length more))
      → later ≡ more ++ variable_at ident ∷ []
      → Added spellings old variables (idents ++ ident ∷ []) next later
  added_more spellings old variables idents now next more later ident h is also =
      let name : List ℕ = spelled_in spellings ident.span in
      let n : ℕ = length variables in
      let before : List (List ℕ) = seen spellings idents in
      record {
        names_are = is
            ∙ (ap (λ (number : ℕ). with_new now name (slot_at number))
            (ap length h.variables_are ∙ (length-append variables (map variable_at idents)
            ∙ ap (λ (count : ℕ). n + count) (length-map idents variable_at
            ∙ sym (length-map idents (λ (ident : CodeIdent). spelled_in spellings ident.span)))))
            ∙ (ap (λ (found : List Named). with_new found name (slot_at (n + length before))) h.names_are
            ∙ (sym (each_push old (named_slots (home_view home) n (made_of before))
            (names name (slot_at (n + length before))))
            ∙ ap (with_each old) (sym (slots_push n before name)
            ∙ ap (λ (all : List (List ℕ)). named_slots (home_view home) n (made_of all))
            (sym (seen_push spellings idents ident))))));
        variables_are = also
            ∙ (ap (λ (found : List CodeVariable). found ++ variable_at ident ∷ []) h.variables_are
            ∙ (append_assoc variables (map variable_at idents) (variable_at ident ∷ [])
            ∙ ap (λ (rest : List CodeVariable). variables ++ rest)
            (sym (map-append variable_at idents (ident ∷ [])))));
      }

  -- as the definition has them
  pub added_view : (spellings : List ℕ) (variables more : List CodeVariable) (idents : List CodeIdent)
      → more ≡ variables ++ map variable_at idents
      → map (variable_view spellings) more
      ≡ map (variable_view spellings) variables ++ made_of (seen spellings idents)
  added_view spellings variables more idents is =
      ap (map (variable_view spellings)) is
      ∙ (map-append (variable_view spellings) variables (map variable_at idents)
      ∙ ap (λ (rest : List Variable). map (variable_view spellings) variables ++ rest) (each idents))
    where
      each : (idents : List CodeIdent)
          → map (variable_view spellings) (map variable_at idents) ≡ made_of (seen spellings idents)
      each [] = refl
      each (ident ∷ idents) =
          ap (λ (rest : List Variable). variable_view spellings (variable_at ident) ∷ rest) (each idents)

-- one name more
pub parameter_more : (outer : Outer) (spellings : List ℕ) (first : CodeIdent) (more : List (CodeBehind CodeIdent))
    (i : ℕ) (d : CodeBehind CodeIdent) → i < length more → (all : Bool)
    → all ≡ are_parameters outer (seen spellings (so_far first more i))
    → (all && contains outer.parameters (spelled_in spellings (get_or more i d).item.span))
    ≡ are_parameters outer (seen spellings (so_far first more (i + 1)))
parameter_more outer spellings first more i d within all h =
    let name : List ℕ = spelled_in spellings (get_or more i d).item.span in
    ap (λ (b : Bool). b && contains outer.parameters name) h
    ∙ (sym (parameters_push outer (seen spellings (so_far first more i)) name)
    ∙ ap (are_parameters outer)
    (sym (ap (seen spellings) (so_far_more first more i d within)
    ∙ seen_push spellings (so_far first more i) (get_or more i d).item)))

pub unknown_next : (spellings : List ℕ) (old : List Named) (first : CodeIdent) (more : List (CodeBehind CodeIdent))
    (i : ℕ) (d : CodeBehind CodeIdent) → i < length more → (now next : List Named)
    → Unknown spellings old (so_far first more i) now
    → next ≡ with_new now (spelled_in spellings (get_or more i d).item.span) unclear
    → Unknown spellings old (so_far first more (i + 1)) next
unknown_next spellings old first more i d within now next h is =
    subst (λ (idents : List CodeIdent). Unknown spellings old idents next) (sym (so_far_more first more i d within))
    (unknown_more spellings old (so_far first more i) now next (get_or more i d).item h is)

module _ (home : CodeHome) (mode : CodeMode) (type : CodePasType) where
  pub added_first : (spellings : List ℕ) (old next : List Named) (variables later : List CodeVariable)
      (ident : CodeIdent)
      → next ≡ with_new old (spelled_in spellings ident.span) (slot_at home mode type (length variables))
      → later ≡ variables ++ record { name = ident.span; mode = mode; pas_type = type } ∷ []
      → Added home mode type spellings old variables (ident ∷ []) next later
  added_first spellings old next variables later ident is also =
      added_more home mode type spellings old variables [] old next variables later ident
      (added_none home mode type spellings old variables) is also

  pub added_next : (spellings : List ℕ) (old : List Named) (variables : List CodeVariable) (first : CodeIdent)
      (more : List (CodeBehind CodeIdent)) (i : ℕ) (d : CodeBehind CodeIdent) → i < length more
      → (now next : List Named) (found later : List CodeVariable)
      → Added home mode type spellings old variables (so_far first more i) now found
      → next ≡ with_new now (spelled_in spellings (get_or more i d).item.span) (slot_at home mode type (length found))
      → later ≡ found ++ record { name = (get_or more i d).item.span; mode = mode; pas_type = type } ∷ []
      → Added home mode type spellings old variables (so_far first more (i + 1)) next later
  added_next spellings old variables first more i d within now next found later h is also =
      subst (λ (idents : List CodeIdent). Added home mode type spellings old variables idents next later)
      (sym (so_far_more first more i d within))
      (added_more home mode type spellings old variables (so_far first more i) now next found later
      (get_or more i d).item h is also)

pub parameters_same : (outer other : Outer) → outer.parameters ≡ other.parameters → (spellings : List (List ℕ))
    → are_parameters outer spellings ≡ are_parameters other spellings
parameters_same outer other is [] = refl
parameters_same outer other is (name ∷ spellings) =
    ap (λ (found : List (List ℕ)). contains found name && are_parameters outer spellings) is
    ∙ ap (λ (b : Bool). contains other.parameters name && b) (parameters_same outer other is spellings)
