-- Values and places that show no fault are lawful in the program as far as it is declared.
use Rattle.std.proofs.Common.{◌≡◌, inl, inr, refl, sym, ap, subst, ◌∙◌, ℕ, ◌+◌, ◌<◌, ◌≤◌, arith, ◌&&◌}
use Rattle.std.proofs.Common.{Bool, true, false, not, List, [], ◌∷◌, ◌++◌, length, map, Option, Some, None, IfSome}
use Rattle.std.proofs.Common.{IsSome, is_some, pos, neg_ℤ, int_le, IsTrue, IsFalse, eqb-true}
use Rattle.std.proofs.Common.{ap₂, ℤ, ◌≤ℤ◌, T}
use Rattle.std.proofs.lemmas.Int.{ints}
use Rattle.pas_tokens.specs.declared.limits.TheConstants.{GREATEST_NUMBER}
use Rattle.std.specs.Prelude.{⊤, ◌==◌, nat_le, if◌then◌else◌, option_map, option_and_then, slice_get, position, codes}
use Rattle.std.specs.Str.{bytes_eq}
use Rattle.std.proofs.lemmas.Option.{slice_get-map, IfSome_then, same_Some}
use Rattle.wb_base.specs.declared.faults.TheConstants.{WRONG_TYPE, FILE_RULE}
use Rattle.pas_tokens.specs.Cutting.{Wrong, wrong}
use Rattle.pas_syntax.specs.Tree as tree
use Rattle.pas_syntax.specs.Tree.{Ident, Expr, Sum, Term, Factor, Exprs}
use Rattle.pas_syntax.specs.Words.{Word, expr_words, sum_words, term_words, factor_words, variable_words, exprs_words}
use Rattle.pas_typed.specs.Types as types
use Rattle.pas_typed.specs.Types.{Base, integer, PasType, text, same_type, Range, range_of, base_of, is_of}
use Rattle.pas_typed.specs.Types.{is_based_on, are_compatible, are_compatible_by, component_of, elements_of, fields_of}
use Rattle.pas_typed.specs.Types.{Field, ArrayParts, Table, same_base}
use Rattle.pas_typed.specs.Typed as typed
use Rattle.pas_typed.specs.Typed.{Function, FileTest, Mode, Variable, Slot, Value, Place, Passed, Heading, TypedProgram}
use Rattle.pas_typed.specs.TypeOf.{type_of, type_of_place, is_buffer}
use Rattle.pas_typed.specs.Lawful.{IsOrdinal, IsFile, Takes, IsLawfulSlot, IsLawfulValue, IsLawfulPlace}
use Rattle.pas_typed.specs.Lawful.{ArePassed}
use Rattle.pas_rules.specs.Marks.{quiet, shows, joined, listed, unless, Judged, judged, known, both}
use Rattle.pas_rules.specs.Marks.{checked, noted}
use Rattle.pas_rules.specs.Scopes as scope
use Rattle.pas_rules.specs.Scopes.{Entity, Scopes, entity_of, standard_file, global_text, is_global}
use Rattle.pas_rules.specs.TypeForms as forms
use Rattle.pas_rules.specs.Expressions as spec
use Rattle.pas_rules.specs.Expressions.{only, ordinal_only, Demand, Given, Bare, bare, met, value_of, sum_of, term_of}
use Rattle.pas_rules.specs.Expressions.{factor_of, variable_value, place_of, elements_at, values_of, heading_of}
use Rattle.pas_rules.proofs.AsMany.{AsMany}
use Rattle.pas_rules.proofs.ExpressionsAsMany.{sum_many, term_many, factor_many}
use Rattle.pas_rules.proofs.ExpressionWords.{sum_some, term_some, factor_some}
use Rattle.pas_rules.proofs.CleanLemmas.{Each, IsClean, Lawfully, joined_clean, listed_clean, holds}
use Rattle.pas_rules.proofs.CleanLemmas.{known_if, both_if, checked_if, noted_if, some_fault, never_behind, each_append}
use Rattle.pas_rules.proofs.HeldWords.{AreHeld, held_before, held_next}
use Rattle.pas_rules.proofs.LawfulScopes.{so_far, IsLawfulEntity, IsParameter, IsLawfulHeading, variables_in, AreLawful}

-- what demands tell of types
pub based : (base : Base) (found : Option Base) → is_based_on base found ≡ true → IsSome found
based base None is = is
based base (Some other) is = refl

of_range : (range : Option Range) → IsSome (option_map (λ (found : Range). found.base) range) → IsSome range
of_range None is = is
of_range (Some range) is = refl

pub with_base : (table : Table) (type : PasType) → IsSome (base_of table type) → IsOrdinal table type
with_base table type is = of_range (range_of table type) is

pub is_ordinal : (base : Base) (table : Table) (type : PasType) → is_of base table type ≡ true → IsOrdinal table type
is_ordinal base table type is = with_base table type (based base (base_of table type) is)

pub only_ordinal : (base : Base) (table : Table) (value : Value) → only base table value ≡ []
    → IsOrdinal table (type_of value)
only_ordinal base table value is =
    is_ordinal base table (type_of value) (holds (is_of base table (type_of value)) (wrong WRONG_TYPE) is)

pub ordinal_only_ordinal : (table : Table) (value : Value) → ordinal_only table value ≡ []
    → IsOrdinal table (type_of value)
ordinal_only_ordinal table value is =
    with_base table (type_of value) (holds (is_some (base_of table (type_of value))) (wrong WRONG_TYPE) is)

pub base_same : (base other : Base) → same_base base other ≡ true → base ≡ other
base_same types.integer types.integer is = refl
base_same types.integer types.char is = absurd (cc)
base_same types.integer types.boolean is = absurd (cc)
base_same types.char types.integer is = absurd (cc)
base_same types.char types.char is = refl
base_same types.char types.boolean is = absurd (cc)
base_same types.boolean types.integer is = absurd (cc)
base_same types.boolean types.char is = absurd (cc)
base_same types.boolean types.boolean is = refl

pub type_same : (type other : PasType) → same_type type other ≡ true → type ≡ other
type_same (types.whole base) (types.whole other) is = ap types.whole (base_same base other is)
type_same (types.whole base) types.text is = absurd (cc)
type_same (types.whole base) (types.row number) is = absurd (cc)
type_same types.text (types.whole base) is = absurd (cc)
type_same types.text types.text is = refl
type_same types.text (types.row number) is = absurd (cc)
type_same (types.row number) (types.whole base) is = absurd (cc)
type_same (types.row number) types.text is = absurd (cc)
type_same (types.row number) (types.row other) is = ap types.row (eqb-true number other is)

text_file : (table : Table) (type : PasType) → same_type type text ≡ true → IsFile table type
text_file table (types.whole base) is = absurd (cc)
text_file table types.text is = refl
text_file table (types.row number) is = absurd (cc)

compatible_takes : (table : Table) (type other : PasType) (base same : Option Base) → base_of table type ≡ base
    → base_of table other ≡ same → are_compatible_by base same (same_type type other) ≡ true → Takes table type other
compatible_takes table type other (Some base) None of_type of_other is = absurd (cc)
compatible_takes table type other (Some base) (Some found) of_type of_other is =
    inl (with_base table type (ap is_some of_type), with_base table other (ap is_some of_other))
compatible_takes table type other None (Some found) of_type of_other is = absurd (cc)
compatible_takes table type other None None of_type of_other is = inr (type_same type other is)

pub takes_if : (table : Table) (type other : PasType) → are_compatible table type other ≡ true
    → Takes table type other
takes_if table type other is =
    compatible_takes table type other (base_of table type) (base_of table other) refl refl is

pub takes : (table : Table) (type : PasType) (value : Value) → spec.compatible_with table type value ≡ []
    → Takes table type (type_of value)
takes table type value is =
    takes_if table type (type_of value) (holds (are_compatible table type (type_of value)) (wrong WRONG_TYPE) is)

pub ordinal_taken : (table : Table) (type other : PasType) → IsOrdinal table type → Takes table type other
    → IsOrdinal table other
ordinal_taken table type other is (inl both_are) = both_are.1
ordinal_taken table type other is (inr same) = subst (IsOrdinal table) same is

pub both_true : (b c : Bool) → (b && c) ≡ true → (b ≡ true) × (c ≡ true)
both_true true c is = (refl, is)
both_true false c is = absurd (cc)

not_true : (b : Bool) → not b ≡ true → IsFalse b
not_true true is = absurd (cc)
not_true false is = refl

-- constants
abbrev pub IsLawfulConstant : forms.ConstantValue → Type 0
IsLawfulConstant found = IsTrue (types.is_within (types.all_of found.base) found.value)

true_from : (is : Bool) → T is → is ≡ true
true_from true t = refl
true_from false t = absurd t

pub within : (low number high : ℤ) → low ≤ℤ number → number ≤ℤ high → (int_le low number && int_le number high) ≡ true
within low number high above below = ap₂ ◌&&◌ (true_from _ above.le) (true_from _ below.le)

within_bytes : (byte : ℕ) → byte ≤ 255 → (int_le (pos 0) (pos byte) && int_le (pos byte) (pos 255)) ≡ true
within_bytes byte below = within (pos 0) (pos byte) (pos 255) (omega (arith, ints)) (omega (arith, ints, below))

pub within_greatest : (number : ℕ) → number ≤ GREATEST_NUMBER
    → (int_le (neg_ℤ (pos GREATEST_NUMBER)) (pos number) && int_le (pos number) (pos GREATEST_NUMBER)) ≡ true
within_greatest number below =
    within (neg_ℤ (pos GREATEST_NUMBER)) (pos number) (pos GREATEST_NUMBER) (omega (arith, ints))
    (omega (arith, ints, below))

pub char_lawful : (bytes : List ℕ) → Each (λ byte. byte ≤ 255) bytes → Lawfully IsLawfulConstant (forms.char_in bytes)
char_lawful [] h clean = tt
char_lawful (byte ∷ []) h clean = within_bytes byte h.0
char_lawful (byte ∷ (next ∷ bytes)) h clean = tt

pub undoubled_bytes : (behind_quote : Bool) (bytes : List ℕ) → Each (λ byte. byte ≤ 255) bytes
    → Each (λ byte. byte ≤ 255) (forms.text_behind behind_quote bytes)
undoubled_bytes behind_quote [] h = tt
undoubled_bytes true (byte ∷ bytes) h = undoubled_bytes false bytes h.1
undoubled_bytes false (byte ∷ bytes) h = (h.0, undoubled_bytes (byte == forms.single_quote) bytes h.1)

module _ (scopes : Scopes) (lawful : AreLawful scopes) where
  abbrev program : TypedProgram
  program = so_far scopes.outer

  abbrev variables : List Variable
  variables = variables_in scopes.inner

  abbrev table : Table
  table = scopes.outer.types

  abbrev IsValue : Value → Type 0
  IsValue = IsLawfulValue program variables

  abbrev IsPlace : Place → Type 0
  IsPlace = IsLawfulPlace program variables

  -- a value, or a place, that meets a demand
  abbrev pub Meets : Demand → Value → Type 0
  Meets demand value = IsValue value × (demand value ≡ [])

  abbrev pub IsPlaceBy : (Place → List Wrong) → Place → Type 0
  IsPlaceBy demand place = IsPlace place × (demand place ≡ [])

  -- a value that is a place, and the file that it is
  place_lawful : (value : Value) → IsValue value → IfSome (spec.place_in value) IsPlace
  place_lawful (typed.constant base number) is = tt
  place_lawful (typed.read place) is = is
  place_lawful (typed.call routine type passed) is = tt
  place_lawful (typed.applied function argument) is = tt
  place_lawful (typed.tested test place) is = tt
  place_lawful (typed.parenthesized inner) is = tt
  place_lawful (typed.signed sign argument) is = tt
  place_lawful (typed.negated argument) is = tt
  place_lawful (typed.product left op right) is = tt
  place_lawful (typed.addition left op right) is = tt
  place_lawful (typed.comparison left relation right) is = tt

  abbrev pub IsFilePlace : Place → Type 0
  IsFilePlace place = IsPlace place × IsFile table (type_of_place place)

  file_by : (place : Place) (is_file : Bool) → is_file ≡ is_some (component_of table (type_of_place place))
      → IsPlace place → IfSome (if is_file then Some place else None) IsFilePlace
  file_by place true is h = (h, sym is)
  file_by place false is h = tt

  pub file_lawful : (place : Option Place) → IfSome place IsPlace
      → IfSome (option_and_then (spec.file_at table) place) IsFilePlace
  file_lawful None h = tt
  file_lawful (Some place) h = file_by place (spec.is_file table place) refl h

  pub file_in_lawful : (value : Option Value) → IfSome value IsValue
      → IfSome (option_and_then (spec.file_in table) value) IsFilePlace
  file_in_lawful None h = tt
  file_in_lawful (Some value) h = file_lawful (spec.place_in value) (place_lawful value h)

  -- places
  entity_at : (name : List ℕ) → IfSome (entity_of scopes name) (IsLawfulEntity program variables)
  entity_at name = lawful.names name

  as_place_lawful : (entity : Option Entity) → IfSome entity (IsLawfulEntity program variables)
      → Lawfully IsPlace (spec.as_place entity)
  as_place_lawful None h clean = tt
  as_place_lawful (Some (scope.constant base value)) h clean = tt
  as_place_lawful (Some (scope.type found)) h clean = tt
  as_place_lawful (Some (scope.variable found)) h clean = h
  as_place_lawful (Some (scope.routine number)) h clean = tt
  as_place_lawful (Some (scope.function found)) h clean = tt
  as_place_lawful (Some (scope.file_test found)) h clean = tt
  as_place_lawful (Some (scope.file_step found)) h clean = tt
  as_place_lawful (Some (scope.procedure found)) h clean = tt
  as_place_lawful (Some scope.unclear) h clean = tt

  indexed_lawful : (index : Judged Value) (place : Place) (found : Option ArrayParts)
      → elements_of table (type_of_place place) ≡ found → IsPlace place → Lawfully IsValue index
      → Lawfully IsPlace (spec.indexed_by table index place found)
  indexed_lawful index place None is at h clean = tt
  indexed_lawful index place (Some found) is at h clean =
      known_if (Meets (only found.indexes.base table)) IsPlace (typed.element place found.indexes found.element)
      (checked (only found.indexes.base table) index).value
      (λ value known. (at, known.0, is, only_ordinal found.indexes.base table value known.1))
      (checked_if IsValue (only found.indexes.base table) index h clean)

  element_lawful : (index : Judged Value) (place : Option Place) → IfSome place IsPlace → Lawfully IsValue index
      → Lawfully IsPlace (spec.element_by table index place)
  element_lawful index None at h clean = tt
  element_lawful index (Some place) at h clean =
      indexed_lawful index place (elements_of table (type_of_place place)) refl at h clean

  element_of_lawful : (before : Judged Place) (index : Judged Value) → Lawfully IsPlace before
      → Lawfully IsValue index → Lawfully IsPlace (spec.element_of table before index)
  element_of_lawful before index at h clean =
      let part : Judged Place = spec.element_by table index before.value in
      let found : Each IsClean (before.marks ∷ quiet ∷ part.marks ∷ []) =
      joined_clean (before.marks ∷ quiet ∷ part.marks ∷ []) clean in
      element_lawful index before.value (at found.0) h found.1.1.0

  as_array_lawful : (place : Judged Place) → Lawfully IsPlace place → Lawfully IsPlace (spec.as_array table place)
  as_array_lawful place at clean =
      IfSome_then (spec.as_array table place).value (checked_if IsPlace (spec.array_only table) place at clean)
      (λ found is. is.0)

  closed_lawful : (place : Judged Place) → Lawfully IsPlace place → Lawfully IsPlace (spec.closed_by place)
  closed_lawful place at clean = at (joined_clean (place.marks ∷ quiet ∷ []) clean).0

  field_at_lawful : (place : Place) (found : List Field) (number : Option ℕ)
      → fields_of table (type_of_place place) ≡ Some found → IsPlace place
      → IfSome (spec.field_at place found number).value IsPlace
  field_at_lawful place found None is at = tt
  field_at_lawful place found (Some number) is at = by_field (slice_get found number) refl
    where
      by_field : (field : Option Field) → slice_get found number ≡ field
          → IfSome (known (λ field. typed.field place number field.type) field) IsPlace
      by_field None there = tt
      by_field (Some field) there = (
        at,
        ap (option_and_then (λ found. option_map (λ field. field.type) (slice_get found number))) is
            ∙ ap (option_map (λ (field : Field). field.type)) there,
      )

  field_in_lawful : (name : List ℕ) (place : Place) (found : Option (List Field))
      → fields_of table (type_of_place place) ≡ found → IsPlace place
      → IfSome (spec.field_in name place found).value IsPlace
  field_in_lawful name place None is at = tt
  field_in_lawful name place (Some found) is at =
      field_at_lawful place found (position (λ field. bytes_eq field.name name) found) is at

  field_by_lawful : (name : List ℕ) (place : Option Place) → IfSome place IsPlace
      → IfSome (spec.field_by table name place).value IsPlace
  field_by_lawful name None at = tt
  field_by_lawful name (Some place) at =
      field_in_lawful name place (fields_of table (type_of_place place)) refl at

  field_of_lawful : (before : Judged Place) (ident : Ident) → Lawfully IsPlace before
      → Lawfully IsPlace (spec.field_of table before ident)
  field_of_lawful before ident at clean =
      let whole_record : Judged Place = checked (spec.record_only table) before in
      let part : Judged Place = spec.field_by table ident.name whole_record.value in
      let found : Each IsClean (whole_record.marks ∷ quiet ∷ part.marks ∷ []) =
      joined_clean (whole_record.marks ∷ quiet ∷ part.marks ∷ []) clean in
      field_by_lawful ident.name whole_record.value
      (IfSome_then whole_record.value (checked_if IsPlace (spec.record_only table) before at found.0) (λ place is.
      is.0))

  buffer_at_lawful : (place : Place) (component : Option PasType)
      → component_of table (type_of_place place) ≡ component → IsPlace place
      → IfSome (option_map (typed.buffer place) component) IsPlace
  buffer_at_lawful place None is at = tt
  buffer_at_lawful place (Some component) is at = (at, is)

  buffer_of_lawful : (before : Judged Place) → Lawfully IsPlace before → Lawfully IsPlace (spec.buffer_of table before)
  buffer_of_lawful before at clean =
      let found : Judged Place = checked (spec.files_only table) before in
      by_value found.value
      (checked_if IsPlace (spec.files_only table) before at (joined_clean (found.marks ∷ quiet ∷ []) clean).0)
    where
      by_value : (value : Option Place)
          → IfSome value (IsPlaceBy (spec.files_only table))
          → IfSome (option_and_then (spec.buffer_at table) value) IsPlace
      by_value None h = tt
      by_value (Some place) h = buffer_at_lawful place (component_of table (type_of_place place)) refl h.0

  -- arguments
  met_both : (demand : Demand) (found : Option Value) (behind : Option Bare) → IfSome found (Meets demand)
      → IfSome (both (λ value nothing. value) found behind) (Meets demand)
  met_both demand None None h = tt
  met_both demand None (Some nothing) h = tt
  met_both demand (Some value) None h = tt
  met_both demand (Some value) (Some nothing) h = h

  pub met_lawful : (demand : Demand) (argument : Given) → Lawfully IsValue argument.value
      → Lawfully (Meets demand) (met demand argument)
  met_lawful demand argument h clean =
      let found : Judged Value = checked demand argument.value in
      met_both demand found.value argument.behind.value
      (checked_if IsValue demand argument.value h
      (joined_clean (found.marks ∷ argument.behind.marks ∷ []) clean).0)

  -- the values that are given meet their demands
  abbrev pub Meet : List Demand → List Value → Type 0
  Meet [] [] = ⊤
  Meet (demand ∷ demands) (value ∷ values) = Meets demand value × Meet demands values
  Meet demands values = ⊥

  pub given_lawful : (demands : List Demand) (arguments : List Given)
      → Each (λ argument. Lawfully IsValue argument.value) arguments
      → Each IsClean (spec.argument_marks demands arguments) → IfSome (spec.given demands arguments) (Meet demands)
  given_lawful [] [] h clean = tt
  given_lawful [] (argument ∷ arguments) h clean = tt
  given_lawful (demand ∷ demands) [] h clean = tt
  given_lawful (demand ∷ demands) (argument ∷ arguments) h clean =
      both_if (Meets demand) (Meet demands) (Meet (demand ∷ demands)) (λ value values. value ∷ values)
      (met demand argument).value (spec.given demands arguments) (λ value values is are. (is, are))
      (met_lawful demand argument h.0 clean.0) (given_lawful demands arguments h.1 clean.1)

  pub called_lawful : (demands : List Demand) (arguments : List Given)
      → Each (λ argument. Lawfully IsValue argument.value) arguments → IsClean (spec.called demands arguments)
      → IfSome (spec.given demands arguments) (Meet demands)
  called_lawful demands arguments h clean =
      given_lawful demands arguments h
      (listed_clean (spec.argument_marks demands arguments)
      (joined_clean (quiet ∷ quiet ∷ listed (spec.argument_marks demands arguments)
      ∷ shows (unless (nat_le (length demands) (length arguments)) (wrong WRONG_TYPE)) ∷ []) clean).1.1.0)

  pub first_lawful : (demand : Demand) (values : Option (List Value)) → IfSome values (Meet (demand ∷ []))
      → IfSome (option_and_then spec.first_value values) (Meets demand)
  first_lawful demand None h = tt
  first_lawful demand (Some []) h = tt
  first_lawful demand (Some (value ∷ values)) h = h.0

  reference_lawful : (parameter : Variable) (place : Place) (others : Passed) (parameters : List Variable)
      → parameter.mode ≡ typed.by_name → IsPlace place
      → (same_type parameter.type (type_of_place place) && not (is_buffer place)) ≡ true
      → ArePassed program variables others parameters
      → ArePassed program variables (typed.reference place others) (parameter ∷ parameters)
  reference_lawful parameter place others parameters mode at is h =
      let are : (same_type parameter.type (type_of_place place) ≡ true) × (not (is_buffer place) ≡ true) =
      both_true (same_type parameter.type (type_of_place place)) (not (is_buffer place)) is in
      (mode, type_same parameter.type (type_of_place place) are.0, at, not_true (is_buffer place) are.1, h)

  named_lawful : (parameter : Variable) (place : Option Place) (others : Passed) (parameters : List Variable)
      → parameter.mode ≡ typed.by_name → IfSome place IsPlace → spec.is_reference parameter.type place ≡ true
      → ArePassed program variables others parameters
      → ArePassed program variables (spec.passed_place place others) (parameter ∷ parameters)
  named_lawful parameter None others parameters mode at is h = absurd (cc)
  named_lawful parameter (Some place) others parameters mode at is h =
      reference_lawful parameter place others parameters mode at is h

  one_passed : (parameter : Variable) (value : Value) (others : Passed) (parameters : List Variable)
      → IsParameter parameter → IsValue value
      → spec.demand_of_mode table parameter.mode parameter.type value ≡ []
      → ArePassed program variables others parameters
      → ArePassed program variables (spec.passed_by parameter.mode parameter.type value others)
      (parameter ∷ parameters)
  one_passed parameter value others parameters (inl by_value) is met h =
      subst (λ mode. ArePassed program variables (spec.passed_by mode parameter.type value others)
      (parameter ∷ parameters)) (sym by_value) (
        by_value,
        refl,
        is,
        takes table parameter.type value
            (sym (ap (λ mode. spec.demand_of_mode table mode parameter.type value) by_value) ∙ met),
        h,
      )
  one_passed parameter value others parameters (inr by_name) is met h =
      subst (λ mode. ArePassed program variables (spec.passed_by mode parameter.type value others)
      (parameter ∷ parameters)) (sym by_name)
      (named_lawful parameter (spec.place_in value) others parameters by_name (place_lawful value is)
      (holds (spec.is_reference parameter.type (spec.place_in value)) (wrong WRONG_TYPE)
      (sym (ap (λ mode. spec.demand_of_mode table mode parameter.type value) by_name) ∙ met)) h)

  pub all_passed : (parameters : List Variable) (values : List Value) → Each IsParameter parameters
      → Meet (spec.demands_of table parameters) values
      → ArePassed program variables (spec.passed_to parameters values) parameters
  all_passed [] [] are h = tt
  all_passed [] (value ∷ values) are h = absurd h
  all_passed (parameter ∷ parameters) [] are h = absurd h
  all_passed (parameter ∷ parameters) (value ∷ values) are h =
      one_passed parameter value (spec.passed_to parameters values) parameters are.0 h.0.0 h.0.1
      (all_passed parameters values are.1 h.1)

  -- calls
  abbrev pub IsHeading : Option Heading → ℕ → Type 0
  IsHeading heading number = slice_get program.headings number ≡ heading

  pub heading_there : (number : ℕ) → IsHeading (heading_of scopes number) number
  heading_there number = slice_get-map (λ found. found.heading) scopes.outer.routines number

  call_with_lawful : (number : ℕ) (heading : Heading) (arguments : List Given) (result : Option PasType)
      → heading.result ≡ result → IsHeading (Some heading) number → IsLawfulHeading table heading
      → Each (λ argument. Lawfully IsValue argument.value) arguments
      → Lawfully IsValue (spec.call_with scopes number heading arguments result)
  call_with_lawful number heading arguments None is there of_heading h clean = tt
  call_with_lawful number heading arguments (Some type) is there of_heading h clean =
      let demands : List Demand = spec.demands_of table heading.parameters in
      known_if (Meet demands) IsValue (λ values. typed.call number type (spec.passed_to heading.parameters values))
      (spec.given demands arguments)
      (λ values are. (heading, there, is, all_passed heading.parameters values of_heading.parameters are))
      (called_lawful demands arguments h clean)

  function_call_lawful : (number : ℕ) (arguments : List Given) (heading : Option Heading)
      → IsHeading heading number → IfSome heading (IsLawfulHeading table)
      → Each (λ argument. Lawfully IsValue argument.value) arguments
      → Lawfully IsValue (spec.function_call_of scopes number arguments heading)
  function_call_lawful number arguments None there of_heading h clean = tt
  function_call_lawful number arguments (Some heading) there of_heading h clean =
      call_with_lawful number heading arguments heading.result refl there of_heading h clean

  applied_ordinal : (function : Function) (value : Value) → spec.function_demand table function value ≡ []
      → IsOrdinal table (type_of value)
  applied_ordinal typed.ord value is = ordinal_only_ordinal table value is
  applied_ordinal typed.chr value is = only_ordinal integer table value is
  applied_ordinal typed.abs value is = only_ordinal integer table value is
  applied_ordinal typed.odd value is = only_ordinal integer table value is

  call_lawful : (arguments : List Given) (entity : Option Entity)
      → Each (λ argument. Lawfully IsValue argument.value) arguments
      → Lawfully IsValue (spec.as_call scopes arguments entity)
  call_lawful arguments None h clean = tt
  call_lawful arguments (Some (scope.constant base value)) h clean = tt
  call_lawful arguments (Some (scope.type found)) h clean = tt
  call_lawful arguments (Some (scope.variable found)) h clean = tt
  call_lawful arguments (Some (scope.routine number)) h clean =
      function_call_lawful number arguments (heading_of scopes number) (heading_there number)
      (lawful.headings number) h clean
  call_lawful arguments (Some (scope.function found)) h clean =
      let demand : Demand = spec.function_demand table found in
      known_if (Meets demand) IsValue (typed.applied found) (option_and_then spec.first_value (spec.given (demand ∷
      []) arguments))
      (λ value is. (is.0, applied_ordinal found value is.1))
      (first_lawful demand (spec.given (demand ∷ []) arguments) (called_lawful (demand ∷ []) arguments h clean))
  call_lawful arguments (Some (scope.file_test test)) h clean =
      let demand : Demand = spec.test_demand table test in
      let first : Option Value = option_and_then spec.first_value (spec.given (demand ∷ []) arguments) in
      known_if IsFilePlace IsValue (typed.tested test) (option_and_then (spec.file_in table) first) (λ place is. is)
      (file_in_lawful first (IfSome_then first (first_lawful demand (spec.given (demand ∷ []) arguments)
      (called_lawful (demand ∷ []) arguments h clean)) (λ value is. is.0)))
  call_lawful arguments (Some (scope.file_step found)) h clean = tt
  call_lawful arguments (Some (scope.procedure found)) h clean = tt
  call_lawful arguments (Some scope.unclear) h clean = tt

  -- a name by itself
  without_lawful : (number : ℕ) (heading : Heading) (result : Option PasType) (parameters : List Variable)
      → heading.result ≡ result → heading.parameters ≡ parameters → IsHeading (Some heading) number
      → Lawfully IsValue (spec.without_arguments number result parameters)
  without_lawful number heading None parameters is are there clean = tt
  without_lawful number heading (Some type) [] is are there clean =
      (heading, there, is, subst (ArePassed program variables typed.nothing) (sym are) tt)
  without_lawful number heading (Some type) (parameter ∷ parameters) is are there clean =
      never_behind (wrong WRONG_TYPE) quiet clean

  alone_lawful : (number : ℕ) (heading : Option Heading) → IsHeading heading number
      → Lawfully IsValue (spec.function_alone number heading)
  alone_lawful number None there clean = tt
  alone_lawful number (Some heading) there clean =
      without_lawful number heading heading.result heading.parameters refl refl there clean

  abbrev pub IsTextSlot : Slot → Type 0
  IsTextSlot slot = IsLawfulSlot program variables slot × IsFile table slot.type

  slot_if : (slot : Slot) (is : Bool) → (is_global slot.home && same_type slot.type text) ≡ is
      → IsLawfulSlot program variables slot → IfSome (if is then Some slot else None) IsTextSlot
  slot_if slot true is h =
      (h, text_file table slot.type (both_true (is_global slot.home) (same_type slot.type text) is).1)
  slot_if slot false is h = tt

  global_text_lawful : (entity : Option Entity) → IfSome entity (IsLawfulEntity program variables)
      → IfSome (option_and_then global_text entity) IsTextSlot
  global_text_lawful None h = tt
  global_text_lawful (Some (scope.constant base value)) h = tt
  global_text_lawful (Some (scope.type found)) h = tt
  global_text_lawful (Some (scope.variable slot)) h =
      slot_if slot (is_global slot.home && same_type slot.type text) refl h
  global_text_lawful (Some (scope.routine number)) h = tt
  global_text_lawful (Some (scope.function found)) h = tt
  global_text_lawful (Some (scope.file_test found)) h = tt
  global_text_lawful (Some (scope.file_step found)) h = tt
  global_text_lawful (Some (scope.procedure found)) h = tt
  global_text_lawful (Some scope.unclear) h = tt

  pub standard_lawful : (name : List ℕ) → IfSome (standard_file scopes name) IsTextSlot
  standard_lawful name = global_text_lawful (entity_of scopes name) (entity_at name)

  test_lawful : (test : FileTest) (slot : Option Slot) → IfSome slot IsTextSlot
      → Lawfully IsValue (spec.test_alone test slot)
  test_lawful test None h clean = some_fault (wrong FILE_RULE) [] clean.still.0
  test_lawful test (Some slot) h clean = h

  as_value_lawful : (entity : Option Entity) → IfSome entity (IsLawfulEntity program variables)
      → Lawfully IsValue (spec.as_value scopes entity)
  as_value_lawful None h clean = tt
  as_value_lawful (Some (scope.constant base value)) h clean = h
  as_value_lawful (Some (scope.type found)) h clean = tt
  as_value_lawful (Some (scope.variable found)) h clean = h
  as_value_lawful (Some (scope.routine number)) h clean =
      alone_lawful number (heading_of scopes number) (heading_there number) clean
  as_value_lawful (Some (scope.function found)) h clean = never_behind (wrong WRONG_TYPE) quiet clean
  as_value_lawful (Some (scope.file_test test)) h clean =
      test_lawful test (standard_file scopes (codes "input")) (standard_lawful (codes "input")) clean
  as_value_lawful (Some (scope.file_step found)) h clean = tt
  as_value_lawful (Some (scope.procedure found)) h clean = tt
  as_value_lawful (Some scope.unclear) h clean = tt

  read_lawful : (place : Judged Place) → Lawfully IsPlace place → Lawfully IsValue (spec.read_of place)
  read_lawful place h clean = known_if IsPlace IsValue typed.read place.value (λ found is. is) (h clean)

  -- operators
  abbrev pub HasWords : {A : Type 0} → Judged A → Type 0
  HasWords part = 0 < length part.marks.tokens

  twice_lawful : (one_demand other_demand : Demand) (make : Value → Value → Value) (left right : Judged Value)
      → ((one other : Value) → IsValue one → IsValue other → one_demand one ≡ [] → other_demand other ≡ []
      → left.value ≡ Some one → IsValue (make one other))
      → HasWords left → HasWords right → Lawfully IsValue left → Lawfully IsValue right
      → Lawfully IsValue (judged (joined ((noted one_demand left).marks ∷ quiet ∷ (noted other_demand right).marks ∷
      []))
      (both make (noted one_demand left).value (noted other_demand right).value))
  twice_lawful one_demand other_demand make left right gives some other_some h k clean =
      let parts : Each IsClean ((noted one_demand left).marks ∷ quiet ∷ (noted other_demand right).marks ∷ []) =
      joined_clean ((noted one_demand left).marks ∷ quiet ∷ (noted other_demand right).marks ∷ []) clean in
      by_values left.value right.value refl (noted_if IsValue one_demand left some h parts.0)
      (noted_if IsValue other_demand right other_some k parts.1.1.0)
    where
      by_values : (first second : Option Value) → left.value ≡ first
          → IfSome first (Meets one_demand) → IfSome second (Meets other_demand)
          → IfSome (both make first second) IsValue
      by_values None None is one other = tt
      by_values None (Some second) is one other = tt
      by_values (Some first) None is one other = tt
      by_values (Some first) (Some second) is one other = gives first second one.0 other.0 one.1 other.1 is

  once_lawful : (demand : Demand) (make : Value → Value) (operand : Judged Value)
      → ((value : Value) → IsValue value → demand value ≡ [] → IsValue (make value)) → HasWords operand
      → Lawfully IsValue operand
      → Lawfully IsValue (judged (joined (quiet ∷ (noted demand operand).marks ∷ []))
      (known make (noted demand operand).value))
  once_lawful demand make operand gives some h clean =
      known_if (Meets demand) IsValue make operand.value (λ value is. gives value is.0 is.1)
      (noted_if IsValue demand operand some h (joined_clean (quiet ∷ (noted demand operand).marks ∷ []) clean).1.0)

  like_ordinal : (first : Option Value) (one other : Value) → first ≡ Some one → IsOrdinal table (type_of one)
      → spec.like table first other ≡ [] → IsOrdinal table (type_of other)
  like_ordinal None one other is of_one h = absurd (cc)
  like_ordinal (Some first) one other is of_one h =
      ordinal_taken table (type_of first) (type_of other)
      (subst (λ value. IsOrdinal table (type_of value)) (sym (same_Some first one is)) of_one)
      (takes table (type_of first) other h)

  has_words : {A : Type 0} (words : List Word) (part : Judged A) → AsMany words part.marks → 0 < length words
      → HasWords part
  has_words words part many some = omega (arith, many.same, some)

  sum_words_there : (n a : ℕ) (s : Sum) → HasWords (sum_of scopes s)
  sum_words_there n a s = has_words (sum_words n a s) (sum_of scopes s) (sum_many scopes n a s) (sum_some n a s)

  term_words_there : (n a : ℕ) (t : Term) → HasWords (term_of scopes t)
  term_words_there n a t = has_words (term_words n a t) (term_of scopes t) (term_many scopes n a t) (term_some n a t)

  factor_words_there : (n a : ℕ) (f : Factor) → HasWords (factor_of scopes f)
  factor_words_there n a f =
      has_words (factor_words n a f) (factor_of scopes f) (factor_many scopes n a f) (factor_some n a f)

  abbrev pub IsArgument : Given → Type 0
  IsArgument argument = Lawfully IsValue argument.value

  bare_lawful : (values : List (Judged Value)) → Each (Lawfully IsValue) values
      → Each IsArgument (map spec.bare_argument values)
  bare_lawful [] h = tt
  bare_lawful (value ∷ values) h = (h.0, bare_lawful values h.1)

  mutual
    pub value_lawful : (n a : ℕ) (e : Expr) → AreHeld (expr_words n a e) → Lawfully IsValue (value_of scopes e)
    value_lawful n a (tree.sum s) held clean = sum_lawful n a s held clean
    value_lawful n a (tree.relation left op right) held clean =
        twice_lawful (ordinal_only table) (spec.like table (sum_of scopes left).value)
        (λ one other. typed.comparison one op.item other) (sum_of scopes left) (sum_of scopes right)
        (λ one other is are of_one of_other there. (
          is,
          are,
          ordinal_only_ordinal table one of_one,
          like_ordinal (sum_of scopes left).value one other there (ordinal_only_ordinal table one of_one) of_other,
        ))
        (sum_words_there n a left) (sum_words_there n a right)
        (sum_lawful n a left (held_before (sum_words n a left) _ held))
        (sum_lawful n (a + 1) right (held_next (sum_words n a left) _ (sum_words n (a + 1) right) held)) clean

    pub sum_lawful : (n a : ℕ) (s : Sum) → AreHeld (sum_words n a s) → Lawfully IsValue (sum_of scopes s)
    sum_lawful n a (tree.first_term t) held clean = term_lawful n a t held clean
    sum_lawful n a (tree.signed_term lead t) held clean =
        once_lawful (only integer table) (typed.signed lead.item) (term_of scopes t)
        (λ value is demand. (is, only_ordinal integer table value demand)) (term_words_there n a t)
        (term_lawful n (a + 1) t held.1) clean
    sum_lawful n a (tree.more_terms left op t) held clean =
        let base : Base = spec.addition_base op.item in
        twice_lawful (only base table) (only base table) (λ one other. typed.addition one op.item other)
        (sum_of scopes left) (term_of scopes t)
        (λ one other is are of_one of_other there.
        (is, are, only_ordinal base table one of_one, only_ordinal base table other of_other))
        (sum_words_there n a left) (term_words_there n a t)
        (sum_lawful n a left (held_before (sum_words n a left) _ held))
        (term_lawful n (a + 1) t (held_next (sum_words n a left) _ (term_words n (a + 1) t) held)) clean
    sum_lawful n a (tree.membership left line) held clean = tt

    pub term_lawful : (n a : ℕ) (t : Term) → AreHeld (term_words n a t) → Lawfully IsValue (term_of scopes t)
    term_lawful n a (tree.first_factor f) held clean = factor_lawful n a f held clean
    term_lawful n a (tree.more_factors left op f) held clean =
        let base : Base = spec.product_base op.item in
        twice_lawful (only base table) (only base table) (λ one other. typed.product one op.item other)
        (term_of scopes left) (factor_of scopes f)
        (λ one other is are of_one of_other there.
        (is, are, only_ordinal base table one of_one, only_ordinal base table other of_other))
        (term_words_there n a left) (factor_words_there n a f)
        (term_lawful n a left (held_before (term_words n a left) _ held))
        (factor_lawful n (a + 1) f (held_next (term_words n a left) _ (factor_words n (a + 1) f) held)) clean
    term_lawful n a (tree.quotient left line) held clean = tt

    pub factor_lawful : (n a : ℕ) (f : Factor) → AreHeld (factor_words n a f)
        → Lawfully IsValue (factor_of scopes f)
    factor_lawful n a (tree.literal numeral) held clean = within_greatest numeral.value held.0.0
    factor_lawful n a (tree.literal_text quoted) held clean =
        known_if IsLawfulConstant IsValue (λ (text : forms.ConstantValue). typed.constant text.base text.value)
        (forms.char_in (forms.undoubled quoted.text)).value (λ found is. is)
        (char_lawful (forms.undoubled quoted.text) (undoubled_bytes false quoted.text held.0.0) clean)
    factor_lawful n a (tree.parenthesized opened e closed) held clean =
        known_if IsValue IsValue typed.parenthesized (value_of scopes e).value (λ value is. is)
        (value_lawful (n + 1) a e (held_before (expr_words (n + 1) a e) _ held.1)
        (joined_clean (quiet ∷ (value_of scopes e).marks ∷ quiet ∷ []) clean).1.0)
    factor_lawful n a (tree.negated line f) held clean =
        once_lawful (only types.boolean table) typed.negated (factor_of scopes f)
        (λ value is demand. (is, only_ordinal types.boolean table value demand)) (factor_words_there n a f)
        (factor_lawful n (a + 1) f held.1) clean
    factor_lawful n a (tree.variable v) held clean = variable_value_lawful n a v held clean
    factor_lawful n a (tree.function_call name opened arguments closed) held clean =
        call_lawful (map spec.bare_argument (values_of scopes arguments)) (entity_of scopes name.name)
        (bare_lawful (values_of scopes arguments)
        (values_lawful (n + 1) a arguments (held_before (exprs_words (n + 1) a arguments) _ held.1.1))) clean
    factor_lawful n a (tree.set_value line) held clean = tt
    factor_lawful n a (tree.nil line) held clean = tt

    pub variable_value_lawful : (n a : ℕ) (v : tree.Variable) → AreHeld (variable_words n a v)
        → Lawfully IsValue (variable_value scopes v)
    variable_value_lawful n a (tree.whole ident) held clean =
        as_value_lawful (entity_of scopes ident.name) (entity_at ident.name) clean
    variable_value_lawful n a (tree.indexed v opened indexes closed) held clean =
        let array : Judged Place = spec.as_array table (place_of scopes v) in
        read_lawful (spec.closed_by (elements_at scopes array indexes))
        (closed_lawful (elements_at scopes array indexes) (elements_lawful (n + 1) a array indexes
        (as_array_lawful (place_of scopes v) (place_of_lawful n a v (held_before (variable_words n a v) _ held)))
        (held_before (exprs_words (n + 1) a indexes) _
        (held_next (variable_words n a v) _ (exprs_words (n + 1) a indexes ++ _ ∷ []) held)))) clean
    variable_value_lawful n a (tree.field_of v line ident) held clean =
        read_lawful (spec.field_of table (place_of scopes v) ident)
        (field_of_lawful (place_of scopes v) ident
        (place_of_lawful n a v (held_before (variable_words n a v) _ held))) clean
    variable_value_lawful n a (tree.buffer_of v line) held clean =
        read_lawful (spec.buffer_of table (place_of scopes v))
        (buffer_of_lawful (place_of scopes v)
        (place_of_lawful n a v (held_before (variable_words n a v) _ held))) clean

    pub place_of_lawful : (n a : ℕ) (v : tree.Variable) → AreHeld (variable_words n a v)
        → Lawfully IsPlace (place_of scopes v)
    place_of_lawful n a (tree.whole ident) held clean =
        as_place_lawful (entity_of scopes ident.name) (entity_at ident.name) clean
    place_of_lawful n a (tree.indexed v opened indexes closed) held clean =
        closed_lawful (elements_at scopes (spec.as_array table (place_of scopes v)) indexes)
        (elements_lawful (n + 1) a (spec.as_array table (place_of scopes v)) indexes
        (as_array_lawful (place_of scopes v)
        (place_of_lawful n a v (held_before (variable_words n a v) _ held)))
        (held_before (exprs_words (n + 1) a indexes) _
        (held_next (variable_words n a v) _ (exprs_words (n + 1) a indexes ++ _ ∷ []) held))) clean
    place_of_lawful n a (tree.field_of v line ident) held clean =
        field_of_lawful (place_of scopes v) ident
        (place_of_lawful n a v (held_before (variable_words n a v) _ held)) clean
    place_of_lawful n a (tree.buffer_of v line) held clean =
        buffer_of_lawful (place_of scopes v)
        (place_of_lawful n a v (held_before (variable_words n a v) _ held)) clean

    pub elements_lawful : (n a : ℕ) (place : Judged Place) (es : Exprs) → Lawfully IsPlace place
        → AreHeld (exprs_words n a es) → Lawfully IsPlace (elements_at scopes place es)
    elements_lawful n a place (tree.first_expr e) at held clean =
        element_of_lawful place (value_of scopes e) at (value_lawful n a e held) clean
    elements_lawful n a place (tree.more_exprs before line e) at held clean =
        element_of_lawful (elements_at scopes place before) (value_of scopes e)
        (elements_lawful n a place before at (held_before (exprs_words n a before) _ held))
        (value_lawful n a e (held_next (exprs_words n a before) _ (expr_words n a e) held)) clean

    pub values_lawful : (n a : ℕ) (es : Exprs) → AreHeld (exprs_words n a es)
        → Each (Lawfully IsValue) (values_of scopes es)
    values_lawful n a (tree.first_expr e) held = (value_lawful n a e held, tt)
    values_lawful n a (tree.more_exprs before line e) held =
        each_append (Lawfully IsValue) (values_of scopes before) (value_of scopes e ∷ [])
        (values_lawful n a before (held_before (exprs_words n a before) _ held))
        (value_lawful n a e (held_next (exprs_words n a before) _ (expr_words n a e) held), tt)
