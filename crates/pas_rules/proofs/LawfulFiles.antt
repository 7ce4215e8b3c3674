-- The files of a program without faults are variables of lawful file types, each once.
use Rattle.std.proofs.Common.{length, ◌<◌}
use Rattle.std.proofs.Common.{◌≡◌, ◌≢◌, refl, sym, ap, subst, ◌∙◌, ℕ, zero, suc, ◌+◌, arith, ◌||◌, Bool, true, false}
use Rattle.std.proofs.Common.{not}
use Rattle.std.proofs.Common.{List, [], ◌∷◌, ◌++◌, map, append_assoc, Option, Some, None, IsSome, IsSomeAnd}
use Rattle.std.proofs.Common.{true≢false}
use Rattle.std.specs.Prelude.{slice_get, flat_map, option_to_list, position}
use Rattle.std.specs.Str.{bytes_eq}
use Rattle.std.proofs.lemmas.Option.{none-some, same_Some, get_or_from_slice_get}
use Rattle.std.proofs.lemmas.List.Quantifiers.{position-Some}
use Rattle.std.proofs.lemmas.List.Folds.{list_any-append}
use Rattle.std.proofs.lemmas.Slice.Eq.{bytes_eq-Decides}
use Rattle.wb_base.specs.declared.faults.TheConstants.{UNKNOWN_NAME, DUPLICATE_NAME, FILE_RULE}
use Rattle.pas_tokens.specs.Cutting.{wrong}
use Rattle.pas_syntax.specs.Tree.{Ident, ProgramParameters}
use Rattle.pas_typed.specs.Types as types
use Rattle.pas_typed.specs.Types.{PasType, Table, component_of, has_component, is_lawful_file}
use Rattle.pas_typed.specs.Typed as typed
use Rattle.pas_typed.specs.Typed.{Variable, Slot}
use Rattle.pas_typed.specs.Lawful.{IsFile}
use Rattle.pas_rules.specs.Marks.{quiet, unless, listed}
use Rattle.pas_rules.specs.Scopes as scope
use Rattle.pas_rules.specs.Scopes.{Entity, variable, Named, Outer, contains, entity_in, idents_of}
use Rattle.pas_rules.specs.Check as spec
use Rattle.pas_rules.proofs.CleanLemmas.{Each, IsClean, joined_clean, listed_clean, no_faults, some_fault}
use Rattle.pas_rules.proofs.CleanLemmas.{holds}
use Rattle.pas_rules.proofs.BodiedRoutines.{AreOnce}
use Rattle.pas_rules.proofs.LinkedGlobals.{AreLinked, slot_of, AreFresh}

-- a name stands for a variable of a lawful file type
pub record IsFileName (outer : Outer) (name : List ℕ) : Type 0 where
  pub slot : Slot
  pub there : entity_in outer.names name ≡ Some (variable slot)
  pub file : is_lawful_file outer.types slot.type ≡ true

file_variable : (table : Table) (entity : Entity) → spec.is_file_variable table entity ≡ true
    → (slot : Slot) × (entity ≡ variable slot) × (is_lawful_file table slot.type ≡ true)
file_variable table (scope.constant base value) is = absurd (cc)
file_variable table (scope.type found) is = absurd (cc)
file_variable table (scope.variable slot) is = (slot, refl, is)
file_variable table (scope.routine number) is = absurd (cc)
file_variable table (scope.function found) is = absurd (cc)
file_variable table (scope.file_test found) is = absurd (cc)
file_variable table (scope.file_step found) is = absurd (cc)
file_variable table (scope.procedure found) is = absurd (cc)
file_variable table scope.unclear is = absurd (cc)

file_name : (outer : Outer) (name : List ℕ) (entity : Option Entity) → entity_in outer.names name ≡ entity
    → spec.parameter_faults outer.types entity ≡ [] → IsFileName outer name
file_name outer name None at is = some_fault (wrong UNKNOWN_NAME) [] is
file_name outer name (Some entity) at is =
    let found = file_variable outer.types entity (holds (spec.is_file_variable outer.types entity) (wrong FILE_RULE)
    is) in
    record { slot = found.0; there = at ∙ ap Some found.1; file = found.2 }

not_true : (b : Bool) → not b ≡ true → b ≡ false
not_true true is = absurd (cc)
not_true false is = refl

each_file : (outer : Outer) (before : List (List ℕ)) (idents : List Ident)
    → Each IsClean (spec.each_parameter outer before idents)
    → AreFresh before (map (λ ident. ident.name) idents)
    × Each (IsFileName outer) (map (λ ident. ident.name) idents)
each_file outer before [] clean = (tt, tt)
each_file outer before (ident ∷ idents) clean =
    let entity : Option Entity = entity_in outer.names ident.name in
    let none = no_faults (unless (not (contains before ident.name)) (wrong DUPLICATE_NAME))
    (spec.parameter_faults outer.types entity) clean.0.still.0 in
    let rest = each_file outer (before ++ ident.name ∷ []) idents clean.1 in (
      (
        not_true (contains before ident.name)
            (holds (not (contains before ident.name)) (wrong DUPLICATE_NAME) none.0),
        rest.0,
      ),
      (file_name outer ident.name entity refl none.1, rest.1),
    )

pub parameters_lawful : (outer : Outer) (parameters : Option ProgramParameters)
    → IsClean (spec.parameter_marks outer parameters)
    → AreFresh [] (map (λ ident. ident.name) (spec.parameter_idents parameters))
    × Each (IsFileName outer) (map (λ ident. ident.name) (spec.parameter_idents parameters))
parameters_lawful outer None clean = (tt, tt)
parameters_lawful outer (Some parameters) clean =
    let idents : List Ident = idents_of parameters.names in
    each_file outer [] idents
    (listed_clean (spec.each_parameter outer [] idents)
    (joined_clean (quiet ∷ listed (spec.each_parameter outer [] idents) ∷ quiet ∷ []) clean).1.0)

-- the variable that a name is
abbrev no_variable : Variable
no_variable = record { name = []; mode = typed.declared; type = types.text }

abbrev pub number_named : List Variable → List ℕ → Option ℕ
number_named globals name = position (λ found. bytes_eq found.name name) globals

pub record IsNumber (found : List Named) (first : ℕ) (globals : List Variable) (name : List ℕ) (number : ℕ) : Type 0
  where
    pub variable : Variable
    pub there : slice_get globals number ≡ Some variable
    pub named : variable.name ≡ name
    pub stands : entity_in found name ≡ Some (slot_of (first + number) variable)

some_at : {A : Type 0} (found : List A) (number : ℕ) → number < length found
    → (each : A) × (slice_get found number ≡ Some each)
some_at [] number less = absurd (omega (arith, less))
some_at (first ∷ found) zero less = (first, refl)
some_at (first ∷ found) (suc number) less = some_at found number (omega (arith, less))

linked_at : (found : List Named) (first : ℕ) (globals : List Variable) (number : ℕ) (each : Variable)
    → AreLinked found first globals → slice_get globals number ≡ Some each
    → entity_in found each.name ≡ Some (slot_of (first + number) each)
linked_at found first [] number each h is = absurd (none-some each is)
linked_at found first (other ∷ globals) zero each h is =
    let same : other ≡ each = same_Some other each is in
    subst (λ (one : Variable). entity_in found one.name ≡ Some (slot_of (first + 0) one)) same
    (h.0 ∙ ap (λ n. Some (slot_of n other)) (omega arith))
linked_at found first (other ∷ globals) (suc number) each h is =
    linked_at found (suc first) globals number each h.1 is ∙ ap (λ n. Some (slot_of n each)) (omega arith)

pub number_at : (found : List Named) (globals : List Variable) (name : List ℕ) (number : ℕ)
    → AreLinked found 0 globals → number_named globals name ≡ Some number → IsNumber found 0 globals name number
number_at found globals name number h is = by_each (some_at globals number (bound no_variable))
  where
    test : Variable → Bool
    test each = bytes_eq each.name name

    bound : Variable → number < length globals
    bound each = (position-Some test globals number each is).0

    by_each : (each : Variable) × (slice_get globals number ≡ Some each) → IsNumber found 0 globals name number
    by_each at =
        let named : at.0.name ≡ name =
        (bytes_eq-Decides at.0.name name).0
        (subst (λ (each : Variable). test each ≡ true) (get_or_from_slice_get globals number at.0 at.0 at.1)
        (position-Some test globals number at.0 is).1) in
        record {
          variable = at.0;
          there = at.1;
          named = named;
          stands = subst (λ one. entity_in found one ≡ Some (slot_of (0 + number) at.0)) named
              (linked_at found 0 globals number at.0 h at.1);
        }

-- the files of names
file_type : (table : Table) (type : PasType) → is_lawful_file table type ≡ true → IsFile table type
file_type table type is = by_component (component_of table type) is
  where
    by_component : (component : Option PasType) → has_component table component ≡ true → IsSome component
    by_component None is = absurd (cc)
    by_component (Some component) is = refl

abbrev pub IsFileNumber : Outer → ℕ → Type 0
IsFileNumber outer number =
    IsSomeAnd (slice_get outer.globals number) (λ found. IsFile outer.types found.type)

abbrev entity_slot : Entity → PasType
entity_slot (scope.variable slot) = slot.type
entity_slot entity = types.text

is_file : (outer : Outer) (name : List ℕ) (number : ℕ) → IsFileName outer name
    → IsNumber outer.names 0 outer.globals name number → IsFileNumber outer number
is_file outer name number is at =
    let same : is.slot.type ≡ at.variable.type =
    ap entity_slot (same_Some _ _ (sym is.there ∙ at.stands)) in
    subst (λ each. IsSomeAnd each (λ found. IsFile outer.types found.type)) (sym at.there)
    (file_type outer.types at.variable.type (subst (λ type. is_lawful_file outer.types type ≡ true) same is.file))

abbrev numbers_of : Outer → List (List ℕ) → List ℕ
numbers_of outer names = flat_map (λ name. option_to_list (number_named outer.globals name)) names

pub files_lawful : (outer : Outer) (names : List (List ℕ)) → AreLinked outer.names 0 outer.globals
    → Each (IsFileName outer) names → Each (IsFileNumber outer) (numbers_of outer names)
files_lawful outer [] h are = tt
files_lawful outer (name ∷ names) h are =
    by_number (number_named outer.globals name) refl (files_lawful outer names h are.1)
  where
    by_number : (number : Option ℕ) → number_named outer.globals name ≡ number
        → Each (IsFileNumber outer) (numbers_of outer names)
        → Each (IsFileNumber outer) (option_to_list number ++ numbers_of outer names)
    by_number None at rest = rest
    by_number (Some number) at rest =
        (is_file outer name number are.0 (number_at outer.names outer.globals name number h at), rest)

-- each is there once
other_name : (before after : List (List ℕ)) (taken name : List ℕ) → contains (before ++ taken ∷ after) name ≡ false
    → taken ≢ name
other_name before after taken name fresh same =
    true≢false (sym (in_it (bytes_eq taken name) (contains before name) (contains after name)
    ((bytes_eq-Decides taken name).1 same))
    ∙ (sym (list_any-append (λ other. bytes_eq other name) before (taken ∷ after)) ∙ fresh))
  where
    in_it : (b one other : Bool) → b ≡ true → (one || (b || other)) ≡ true
    in_it true true other is = refl
    in_it true false other is = refl
    in_it false one other is = absurd (cc)

all_others : (before after : List (List ℕ)) (taken : List ℕ) (names : List (List ℕ))
    → AreFresh (before ++ taken ∷ after) names → Each (λ name. taken ≢ name) names
all_others before after taken [] fresh = tt
all_others before after taken (name ∷ names) fresh = (
  other_name before after taken name fresh.0,
  all_others before (after ++ name ∷ []) taken names
      (subst (λ all. AreFresh all names) (append_assoc before (taken ∷ after) (name ∷ [])) fresh.1),
)

numbers_apart : (outer : Outer) (name : List ℕ) (number : ℕ) (names : List (List ℕ))
    → AreLinked outer.names 0 outer.globals → number_named outer.globals name ≡ Some number
    → Each (λ other. name ≢ other) names → Each (λ other. number ≢ other) (numbers_of outer names)
numbers_apart outer name number [] h at others = tt
numbers_apart outer name number (next ∷ names) h at others =
    by_number (number_named outer.globals next) refl (numbers_apart outer name number names h at others.1)
  where
    by_number : (found : Option ℕ) → number_named outer.globals next ≡ found
        → Each (λ other. number ≢ other) (numbers_of outer names)
        → Each (λ other. number ≢ other) (option_to_list found ++ numbers_of outer names)
    by_number None is rest = rest
    by_number (Some found) is rest = (apart, rest)
      where
        apart : number ≢ found
        apart same =
            let one = number_at outer.names outer.globals name number h at in
            let other = number_at outer.names outer.globals next number h
            (is ∙ ap Some (sym same)) in
            others.0 (sym one.named ∙ (ap (λ (found : Variable). found.name)
            (same_Some one.variable other.variable (sym one.there ∙ other.there)) ∙ other.named))

pub files_once : (outer : Outer) (before names : List (List ℕ)) → AreLinked outer.names 0 outer.globals
    → AreFresh before names → AreOnce (numbers_of outer names)
files_once outer before [] h fresh = tt
files_once outer before (name ∷ names) h fresh =
    by_number (number_named outer.globals name) refl (files_once outer (before ++ name ∷ []) names h fresh.1)
  where
    by_number : (found : Option ℕ) → number_named outer.globals name ≡ found → AreOnce (numbers_of outer names)
        → AreOnce (option_to_list found ++ numbers_of outer names)
    by_number None is rest = rest
    by_number (Some number) is rest =
        (numbers_apart outer name number names h is (all_others before [] name names fresh.1), rest)
