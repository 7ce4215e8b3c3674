-- Each statement of a lawful program keeps the variables in their shapes, over the whole language.
use Rattle.std.proofs.Common.{◌≡◌, ℕ, List, [], ◌∷◌, Option, true, false, not}
use Rattle.std.proofs.Common.{refl, sym, ◌∙◌, subst, inl}
use Rattle.pas_syntax.specs.declared.operators.Multiplying.TheVariants as multiplying
use Rattle.pas_syntax.specs.declared.operators.Adding.TheVariants as adding
use Rattle.pas_typed.specs.Types.{PasType, whole, boolean}
use Rattle.pas_typed.specs.Typed as typed
use Rattle.pas_typed.specs.Typed.{FileStep, Variable, Slot, Value, Place, Passed, Item, Statement, Statements, Arms}
use Rattle.pas_typed.specs.Typed.{Heading, Body, TypedProgram}
use Rattle.pas_typed.specs.TypeOf.{type_of_place, type_of, is_buffer}
use Rattle.pas_typed.specs.Lawful.{IsOrdinal, IsLawful, IsLawfulValue, IsLawfulPlace, ArePassed}
use Rattle.pas_typed.proofs.ShapeLemmas.{component-ordinal}
use Rattle.pas_meaning.specs.Store.{Datum, undefined, holds, parts, number_of, fits}
use Rattle.pas_meaning.specs.Arithmetic.{function_at, signed, multiplied, added, compared}
use Rattle.pas_meaning.specs.Operands.{element, truth_of}
use Rattle.pas_meaning.specs.Run as run
use Rattle.pas_meaning.specs.Run.{Flow, Entry, Doings, Spot, Argument}
use Rattle.pas_meaning.specs.Standing.{Kinds, Keeps, Knows, KeepsAll, IsOfType, IsSpot, is_window, AreFor}
use Rattle.pas_meaning.proofs.KeepsLemmas.{Answered, keeps_bind, keeps_pure}
use Rattle.pas_meaning.proofs.KeepsLemmas.{keeps_answered, keeps_any, keeps_asked, keeps_number, keeps_if}
use Rattle.pas_meaning.proofs.KeepsLemmas.{keeps_checked, keeps_operand, element_below}
use Rattle.pas_meaning.proofs.PlaceKeeps.{ordinal_holds, may_take, fits_sound}
use Rattle.pas_meaning.proofs.PlaceKeeps.{element_spot, field_spot, keeps_read}
use Rattle.pas_meaning.proofs.CallKeeps.{result_ordinal, keeps_call}

module _ (program : TypedProgram) (lawful : IsLawful program) (limit : Option ℕ) (below : Doings)
    (keeps_below : KeepsAll program below) (variables : List Variable) (result : Option PasType) (kinds : Kinds)
    (knows : Knows program variables result kinds) where
  defined_sound : (type : PasType) (datum : Datum) → IsOrdinal program.types type
      → Answered (IsOfType program.types type) (run.defined_result datum)
  defined_sound type undefined is = tt
  defined_sound type (holds value) is = ordinal_holds program lawful type value is
  defined_sound type (parts found) is = tt

  -- a place by its spot, which is a window where the place is a buffer
  abbrev pub IsSpotOf : Place → Spot → Type 0
  IsSpotOf place spot =
      IsSpot program variables (type_of_place place) spot × (is_window spot ≡ is_buffer place)

  boolean_sound : (source : PasType) (datum : Datum) → IsOfType program.types source datum
      → Answered (IsOfType program.types (whole boolean)) (fits program.types (whole boolean) datum)
  boolean_sound source datum sound = fits_sound program lawful (whole boolean) datum (inl refl)

  mutual
    pub keeps_value : (found : Value) → IsLawfulValue program variables found
        → Keeps kinds kinds (IsOfType program.types (type_of found)) (run.value limit program below found)
    keeps_value (typed.constant base number) is = keeps_pure _ tt
    keeps_value (typed.read place) is =
        keeps_bind (keeps_place place is) (λ spot spot_is.
        keeps_read program lawful variables result kinds knows (type_of_place place) spot spot_is.0)
    keeps_value (typed.call routine type passed) is =
        keeps_bind (keeps_arguments passed is.0.parameters is.3) (λ arguments are.
        keeps_bind (keeps_call program lawful variables result kinds knows limit below keeps_below routine is.0
        arguments is.1 are) (λ found is_found.
        keeps_answered (run.defined_result found) (defined_sound type found
        (result_ordinal program lawful routine is.0 type is.1 is.2))))
    keeps_value (typed.applied typed.ord argument) is =
        keeps_operand number_of (keeps_value argument is.0) (λ found. keeps_number (function_at typed.ord found))
    keeps_value (typed.applied typed.chr argument) is =
        keeps_operand number_of (keeps_value argument is.0) (λ found. keeps_number (function_at typed.chr found))
    keeps_value (typed.applied typed.abs argument) is =
        keeps_operand number_of (keeps_value argument is.0) (λ found. keeps_number (function_at typed.abs found))
    keeps_value (typed.applied typed.odd argument) is =
        keeps_operand number_of (keeps_value argument is.0) (λ found. keeps_number (function_at typed.odd found))
    keeps_value (typed.tested test place) is =
        keeps_bind (keeps_any (run.file_variable place)) (λ file is_file.
        keeps_bind (keeps_asked (run.of_file file (run.test_of test)))
        (λ found is_found. keeps_pure (run.boolean found) tt))
    keeps_value (typed.parenthesized inner) is = keeps_value inner is
    keeps_value (typed.signed sign argument) is =
        keeps_operand number_of (keeps_value argument is.0) (λ found. keeps_number (signed sign found))
    keeps_value (typed.negated argument) is =
        keeps_operand truth_of (keeps_value argument is.0) (λ found. keeps_pure (run.boolean (not found)) tt)
    keeps_value (typed.product left multiplying.And right) is =
        keeps_operand truth_of (keeps_value left is.0) (λ first. keeps_if first
        (keeps_checked (fits program.types (whole boolean)) (keeps_value right is.1) (boolean_sound (type_of right)))
        (keeps_pure (run.boolean false) tt))
    keeps_value (typed.product left multiplying.Times right) is =
        keeps_operand number_of (keeps_value left is.0) (λ first. keeps_operand number_of (keeps_value right is.1)
        (λ second. keeps_number (multiplied multiplying.Times first second)))
    keeps_value (typed.product left multiplying.Div right) is =
        keeps_operand number_of (keeps_value left is.0) (λ first. keeps_operand number_of (keeps_value right is.1)
        (λ second. keeps_number (multiplied multiplying.Div first second)))
    keeps_value (typed.product left multiplying.Mod right) is =
        keeps_operand number_of (keeps_value left is.0) (λ first. keeps_operand number_of (keeps_value right is.1)
        (λ second. keeps_number (multiplied multiplying.Mod first second)))
    keeps_value (typed.addition left adding.Or right) is =
        keeps_operand truth_of (keeps_value left is.0) (λ first. keeps_if first (keeps_pure (run.boolean true) tt)
        (keeps_checked (fits program.types (whole boolean)) (keeps_value right is.1) (boolean_sound (type_of right))))
    keeps_value (typed.addition left adding.Plus right) is =
        keeps_operand number_of (keeps_value left is.0) (λ first. keeps_operand number_of (keeps_value right is.1)
        (λ second. keeps_number (added adding.Plus first second)))
    keeps_value (typed.addition left adding.Minus right) is =
        keeps_operand number_of (keeps_value left is.0) (λ first. keeps_operand number_of (keeps_value right is.1)
        (λ second. keeps_number (added adding.Minus first second)))
    keeps_value (typed.comparison left relation right) is =
        keeps_operand number_of (keeps_value left is.0) (λ first. keeps_operand number_of (keeps_value right is.1)
        (λ second. keeps_pure (run.boolean (compared relation first second)) tt))

    pub keeps_place : (place : Place) → IsLawfulPlace program variables place
        → Keeps kinds kinds (IsSpotOf place) (run.spot_at limit program below place)
    keeps_place (typed.slot slot) is = keeps_pure (run.part slot []) ((is, refl), refl)
    keeps_place (typed.element place range type index) is =
        keeps_bind (keeps_place place is.0) (λ spot spot_is.
        keeps_bind (keeps_checked (element range) (keeps_value index is.1) (λ datum sound. element_below range datum))
        (λ number less. keeps_pure (run.along_part spot number) (
          element_spot program lawful variables result kinds knows
              (type_of_place place) type range spot number spot_is.0
              is.2 less,
          refl,
        )))
    keeps_place (typed.field place number type) is =
        keeps_bind (keeps_place place is.0) (λ spot spot_is. keeps_pure (run.along_part spot number) (
          field_spot program lawful variables result kinds knows (type_of_place place) type spot number spot_is.0 is.1,
          refl,
        ))
    keeps_place (typed.buffer place type) is =
        keeps_bind (keeps_any (run.file_variable place)) (λ file is_file.
        keeps_pure (run.window file type)
        ((refl, component-ordinal program.types (type_of_place place) type lawful.types is.1), refl))

    pub keeps_arguments : (passed : Passed) (parameters : List Variable) → ArePassed program variables passed parameters
        → Keeps kinds kinds (AreFor program variables parameters)
        (run.arguments_of limit program below passed)
    keeps_arguments typed.nothing [] is = keeps_pure [] tt
    keeps_arguments typed.nothing (parameter ∷ parameters) is = absurd is
    keeps_arguments (typed.value type argument others) [] is = absurd is
    keeps_arguments (typed.value type argument others) (parameter ∷ parameters) is =
        keeps_bind (keeps_checked (fits program.types type) (keeps_value argument is.2)
        (λ datum sound. fits_sound program lawful type datum
        (may_take program lawful type (type_of argument) datum is.3 sound))) (λ datum sound.
        keeps_bind (keeps_arguments others parameters is.4) (λ arguments are.
        keeps_pure (run.copied datum ∷ arguments)
        (is.0, subst (λ type. IsOfType program.types type datum) (sym is.1) sound, are)))
    keeps_arguments (typed.reference place others) [] is = absurd is
    keeps_arguments (typed.reference place others) (parameter ∷ parameters) is =
        keeps_bind (keeps_place place is.2) (λ spot spot_is.
        keeps_bind (keeps_arguments others parameters is.4) (λ arguments are.
        keeps_pure (run.meant spot ∷ arguments) (
          is.0,
          subst (λ type. IsSpot program variables type spot) (sym is.1) spot_is.0,
          spot_is.1 ∙ is.3,
          are,
        )))
