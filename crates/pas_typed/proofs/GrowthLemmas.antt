-- What is lawful stays so where a program has more rows, globals or routines behind those that it had.
use Rattle.std.proofs.Common.{◌≡◌, ℕ, zero, suc, List, [], ◌∷◌, ◌++◌, Option, Some, None, IsSome, is_some, IfSome}
use Rattle.std.proofs.Common.{slice_get, slice_index_or}
use Rattle.std.proofs.Common.{option_map, option_and_then, refl, ap, ◌∙◌, inl, inr}
use Rattle.std.proofs.lemmas.Option.{option_and_then_some}
use Rattle.pas_typed.specs.Types as types
use Rattle.pas_typed.specs.Types.{Field, PasType, Structure, TableRow, Table, structure_of, range_of, range_in}
use Rattle.pas_typed.specs.Types.{component_of}
use Rattle.pas_typed.specs.Types.{component_in, elements_of, elements_in, fields_of, fields_in}
use Rattle.pas_typed.specs.Typed as typed
use Rattle.pas_typed.specs.Typed.{Home, Variable, Slot, Value, Place, Passed, Item, Statement, Statements, Arms}
use Rattle.pas_typed.specs.Typed.{Heading}
use Rattle.pas_typed.specs.Typed.{TypedProgram}
use Rattle.pas_typed.specs.TypeOf.{type_of}
use Rattle.pas_typed.specs.Lawful.{IsOrdinal, IsFile, field_type, Takes, IsDeclared, variables_of, IsNumber}
use Rattle.pas_typed.specs.Lawful.{IsLawfulValue, IsLawfulPlace, ArePassed, IsLawfulNumber, IsLawfulFile}
use Rattle.pas_typed.specs.Lawful.{IsLawfulTarget, IsLawfulItem}
use Rattle.pas_typed.specs.Lawful.{IsLawfulStatement, AreLawful, AreLawfulArms}

-- what is there by its number stays there
pub record Stays {A : Type 0} (xs ys : List A) : Type 0 where
  pub each : (number : ℕ) (x : A) → slice_get xs number ≡ Some x → slice_get ys number ≡ Some x

pub stays_behind : {A : Type 0} (xs more : List A) → Stays xs (xs ++ more)
stays_behind xs more = record { each = first xs more }
  where
    first : {A : Type 0} (xs more : List A) (number : ℕ) (x : A) → slice_get xs number ≡ Some x
        → slice_get (xs ++ more) number ≡ Some x
    first [] more number x is = absurd (cc)
    first (each ∷ xs) more zero x is = is
    first (each ∷ xs) more (suc number) x is = first xs more number x is

pub record Grows (program later : TypedProgram) : Type 0 where
  pub types : Stays program.types later.types
  pub globals : Stays program.globals later.globals
  pub headings : Stays program.headings later.headings

some_of : {A : Type 0} (found : Option A) → IsSome found → (x : A) × (found ≡ Some x)
some_of None is = absurd (cc)
some_of (Some x) is = (x, refl)

-- types
module _ (table later : Table) (stays : Stays table later) where
  pub structure_stays : (type : PasType) (structure : Structure) → structure_of table type ≡ Some structure
      → structure_of later type ≡ Some structure
  structure_stays (types.whole base) structure is = absurd (cc)
  structure_stays types.text structure is = absurd (cc)
  structure_stays (types.row number) structure is = of_row (slice_get table number) refl is
    where
      of_row : (row : Option TableRow) → slice_get table number ≡ row
          → option_map (λ (found : TableRow). found.structure) row ≡ Some structure
          → option_map (λ (found : TableRow). found.structure) (slice_get later number) ≡ Some structure
      of_row None there is = absurd (cc)
      of_row (Some row) there is =
          ap (option_map (λ (found : TableRow). found.structure)) (stays.each number row there) ∙ is

  part_stays : {B : Type 0} (f : Structure → Option B) (type : PasType) (y : B)
      → option_and_then f (structure_of table type) ≡ Some y → option_and_then f (structure_of later type) ≡ Some y
  part_stays f type y is =
      option_and_then_some f (structure_of table type) y is
      (λ structure there found. ap (option_and_then f) (structure_stays type structure there) ∙ found)

  pub ordinal_stays : (type : PasType) → IsOrdinal table type → IsOrdinal later type
  ordinal_stays (types.whole base) is = refl
  ordinal_stays types.text is = is
  ordinal_stays (types.row number) is =
      let some = some_of (range_of table (types.row number)) is in
      ap is_some (part_stays range_in (types.row number) some.0 some.1)

  pub component_stays : (type component : PasType) → component_of table type ≡ Some component
      → component_of later type ≡ Some component
  component_stays (types.whole base) component is = absurd (cc)
  component_stays types.text component is = is
  component_stays (types.row number) component is = part_stays component_in (types.row number) component is

  pub file_stays : (type : PasType) → IsFile table type → IsFile later type
  file_stays type is =
      let some = some_of (component_of table type) is in ap is_some (component_stays type some.0 some.1)

  field_stays : (type : PasType) (number : ℕ) (of_field : PasType) → field_type table type number ≡ Some of_field
      → field_type later type number ≡ Some of_field
  field_stays type number of_field is =
      let in_fields : List Field → Option PasType =
      λ found. option_map (λ (field : Field). field.type) (slice_get found number) in
      option_and_then_some in_fields (fields_of table type) of_field is
      (λ found there at. ap (option_and_then in_fields) (part_stays fields_in type found there) ∙ at)

  takes_stays : (target type : PasType) → Takes table target type → Takes later target type
  takes_stays target type (inl ordinal) = inl (ordinal_stays target ordinal.0, ordinal_stays type ordinal.1)
  takes_stays target type (inr same) = inr same

module _ (program later : TypedProgram) (grows : Grows program later) (variables : List Variable) where
  declared_stays : (home : Home) (slot : Slot) → IsDeclared (variables_of program variables home) slot
      → IsDeclared (variables_of later variables home) slot
  declared_stays typed.global slot is = record {
    variable = is.variable;
    there = grows.globals.each slot.number is.variable is.there;
    mode = is.mode;
    type = is.type;
  }
  declared_stays typed.local slot is = is

  stays_number : (found : Value) → IsNumber program variables found → IsNumber later variables found
  stays_number found is = ordinal_stays program.types later.types grows.types (type_of found) is

  mutual
    pub value_stays : (found : Value) → IsLawfulValue program variables found → IsLawfulValue later variables found
    value_stays (typed.constant base number) is = is
    value_stays (typed.read place) is = place_stays place is
    value_stays (typed.call routine type passed) is =
        (is.0, grows.headings.each routine is.0 is.1, is.2, passed_stays passed is.0.parameters is.3)
    value_stays (typed.applied function argument) is = (value_stays argument is.0, stays_number argument is.1)
    value_stays (typed.tested test place) is =
        (place_stays place is.0, file_stays program.types later.types grows.types _ is.1)
    value_stays (typed.parenthesized inner) is = value_stays inner is
    value_stays (typed.signed sign argument) is = (value_stays argument is.0, stays_number argument is.1)
    value_stays (typed.negated argument) is = (value_stays argument is.0, stays_number argument is.1)
    value_stays (typed.product left op right) is =
        (value_stays left is.0, value_stays right is.1, stays_number left is.2, stays_number right is.3)
    value_stays (typed.addition left op right) is =
        (value_stays left is.0, value_stays right is.1, stays_number left is.2, stays_number right is.3)
    value_stays (typed.comparison left relation right) is =
        (value_stays left is.0, value_stays right is.1, stays_number left is.2, stays_number right is.3)

    pub place_stays : (place : Place) → IsLawfulPlace program variables place → IsLawfulPlace later variables place
    place_stays (typed.slot slot) is = declared_stays slot.home slot is
    place_stays (typed.element place range type index) is = (
      place_stays place is.0,
      value_stays index is.1,
      part_stays program.types later.types grows.types elements_in _ _ is.2,
      stays_number index is.3,
    )
    place_stays (typed.field place number type) is =
        (place_stays place is.0, field_stays program.types later.types grows.types _ number type is.1)
    place_stays (typed.buffer place type) is =
        (place_stays place is.0, component_stays program.types later.types grows.types _ type is.1)

    pub passed_stays : (passed : Passed) (parameters : List Variable) → ArePassed program variables passed parameters
        → ArePassed later variables passed parameters
    passed_stays typed.nothing [] is = tt
    passed_stays typed.nothing (parameter ∷ parameters) is = is
    passed_stays (typed.value type argument others) [] is = is
    passed_stays (typed.value type argument others) (parameter ∷ parameters) is = (
      is.0,
      is.1,
      value_stays argument is.2,
      takes_stays program.types later.types grows.types type _ is.3,
      passed_stays others parameters is.4,
    )
    passed_stays (typed.reference place others) [] is = is
    passed_stays (typed.reference place others) (parameter ∷ parameters) is =
        (is.0, is.1, place_stays place is.2, is.3, passed_stays others parameters is.4)

  pub lawful_file_stays : (place : Place) → IsLawfulFile program variables place → IsLawfulFile later variables place
  lawful_file_stays place is = (place_stays place is.0, file_stays program.types later.types grows.types _ is.1)

  pub target_stays : (place : Place) → IsLawfulTarget program variables place → IsLawfulTarget later variables place
  target_stays place is = (place_stays place is.0, ordinal_stays program.types later.types grows.types _ is.1)

  pub number_stays : (found : Value) → IsLawfulNumber program variables found → IsLawfulNumber later variables found
  number_stays found is = (value_stays found is.0, stays_number found is.1)

  width_stays : (width : Option Value) → IfSome width (IsLawfulNumber program variables)
      → IfSome width (IsLawfulNumber later variables)
  width_stays None is = tt
  width_stays (Some found) is = number_stays found is

  pub item_stays : (item : Item) → IsLawfulItem program variables item → IsLawfulItem later variables item
  item_stays (typed.number_item item width) is = (number_stays item is.0, width_stays width is.1)
  item_stays (typed.char_item item width) is = (number_stays item is.0, width_stays width is.1)
  item_stays (typed.string_item bytes width) is = width_stays width is

  module _ (result : Option PasType) where
    mutual
      pub statement_stays : (s : Statement) → IsLawfulStatement program variables result s
          → IsLawfulStatement later variables result s
      statement_stays typed.empty is = tt
      statement_stays (typed.assigns place right) is = (
        place_stays place is.0,
        value_stays right is.1,
        takes_stays program.types later.types grows.types _ _ is.2,
      )
      statement_stays (typed.sets_result cell type right) is = (is.0, is.1, number_stays right is.2)
      statement_stays (typed.calls routine passed) is =
          (is.0, grows.headings.each routine is.0 is.1, passed_stays passed is.0.parameters is.2)
      statement_stays (typed.compound list) is = list_stays list is
      statement_stays (typed.if_then test s) is = (number_stays test is.0, statement_stays s is.1)
      statement_stays (typed.if_else test s t) is =
          (number_stays test is.0, statement_stays s is.1, statement_stays t is.2)
      statement_stays (typed.case selector arms) is = (number_stays selector is.0, arms_stay arms is.1)
      statement_stays (typed.case_others selector arms s) is =
          (number_stays selector is.0, arms_stay arms is.1, statement_stays s is.2)
      statement_stays (typed.while test list) is = (number_stays test is.0, list_stays list is.1)
      statement_stays (typed.repeat list test) is = (list_stays list is.0, number_stays test is.1)
      statement_stays (typed.for slot way first last list) is = (
        declared_stays slot.home slot is.0,
        ordinal_stays program.types later.types grows.types slot.type is.1,
        number_stays first is.2,
        number_stays last is.3,
        list_stays list is.4,
      )
      statement_stays (typed.goto label) is = tt
      statement_stays (typed.goto_last status) is = tt
      statement_stays (typed.file_step step place) is = lawful_file_stays place is
      statement_stays (typed.reads place places) is =
          (lawful_file_stays place is.0, λ k d less. target_stays (slice_index_or places k d) (is.1 k d less))
      statement_stays (typed.reads_line place places) is =
          (lawful_file_stays place is.0, λ k d less. target_stays (slice_index_or places k d) (is.1 k d less))
      statement_stays (typed.writes place written) is =
          (lawful_file_stays place is.0, λ k d less. item_stays (slice_index_or written k d) (is.1 k d less))
      statement_stays (typed.writes_line place written) is =
          (lawful_file_stays place is.0, λ k d less. item_stays (slice_index_or written k d) (is.1 k d less))
      statement_stays (typed.writes_bytes place written) is =
          (lawful_file_stays place is.0, λ k d less. number_stays (slice_index_or written k d) (is.1 k d less))
      statement_stays (typed.halts status) is = number_stays status is

      pub list_stays : (list : Statements) → AreLawful program variables result list
          → AreLawful later variables result list
      list_stays typed.no_statements is = tt
      list_stays (typed.item label s list) is = (statement_stays s is.0, list_stays list is.1)

      pub arms_stay : (arms : Arms) → AreLawfulArms program variables result arms
          → AreLawfulArms later variables result arms
      arms_stay typed.no_arms is = tt
      arms_stay (typed.arm values s arms) is = (statement_stays s is.0, arms_stay arms is.1)
