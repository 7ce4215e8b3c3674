-- Places over a machine: their selectors one after another.
use Rattle.std.proofs.Common.{◌≡◌, ℕ, ◌+◌, ◌*◌, ◌<◌, ℤ, List, [], ◌∷◌, take, sum_by, Option, Some, None, option_map}
use Rattle.std.proofs.Common.{◌^◌, map, min, length, slice_get, arith, refl, sym, ap, ap₂, ◌∙◌, subst, Result, Ok, Err}
use Rattle.std.proofs.Math.Nat.{mul_comm}
use Rattle.std.proofs.lemmas.List.{take_min, take-map}
use Rattle.std.proofs.lemmas.List.Sums.{sum_by-cons}
use Rattle.std.proofs.lemmas.Option.{same_Some, option_and_then_some}
use Rattle.pas_typed.specs.Types.{PasType, Range, Field, cells_of, elements_of, fields_of, count_of}
use Rattle.pas_typed.specs.Typed as typed
use Rattle.pas_typed.specs.Typed.{Variable, Slot, Value, Place, TypedProgram}
use Rattle.pas_typed.specs.TypeOf.{type_of_place}
use Rattle.pas_typed.specs.declared.typed.Slot.{Slot as CodeSlot}
use Rattle.pas_typed.specs.TypeViews.{counted}
use Rattle.pas_typed.proofs.CountLemmas.{counted-mul}
use Rattle.pas_typed.specs.Lawful.{IsOrdinal, IsLawful, IsLawfulPlace, field_type}
use Rattle.pas_typed.specs.Shapes.{Shape, size, Leads, offset, shape_of}
use Rattle.pas_typed.proofs.ShapeLemmas.{leads_on, offset_on, element_leads, element_begins, field_leads, field_begins}
use Rattle.pas_typed.proofs.ShapeLemmas.{size-shape_of}
use Rattle.pas_meaning.specs.declared.errors.TheConstants.{CALL_LIMIT}
use Rattle.pas_meaning.specs.Outcome.{Doing, pure, ◌>>=◌, ask}
use Rattle.pas_meaning.specs.Store.{Datum, holds, Store}
use Rattle.pas_meaning.specs.Operands.{operand, element}
use Rattle.pas_meaning.specs.Run as meaning
use Rattle.pas_meaning.specs.Run.{Spot, part, window, along_part}
use Rattle.pas_meaning.specs.Laws.{Goes}
use Rattle.pas_meaning.specs.Standing.{Kinds}
use Rattle.pas_meaning.proofs.OnwardLemmas.{goes_ask, goes_pure}
use Rattle.pas_meaning.proofs.GoesLemmas.{goes_place, goes_within, goes_operand_alone}
use Rattle.pas_meaning.proofs.KeepsLemmas.{Answered, element_below}
use Rattle.pas_run.specs.declared.ends.Stop.{Stop}
use Rattle.pas_run.specs.declared.ends.Stop.TheVariants as stop
use Rattle.pas_run.specs.declared.spots.Spot.{Spot as CodeSpot}
use Rattle.pas_run.specs.declared.spots.Spot.TheVariants as code
use Rattle.pas_run.specs.inner.MachineState.{MachineState}
use Rattle.pas_run.specs.inner.Doings.{Same, IsNumber, Answers, Does}
use Rattle.pas_run.specs.inner.Scenes.{IsSpot}
use Rattle.pas_run.specs.inner.Evaluating.{value_of, place_at, MeansSpot, IsBehind, IsCount, IsElement}
use Rattle.pas_run.proofs.DoesLemmas.{does_stop, does_next, does_pure}
use Rattle.pas_run.proofs.OperandLemmas.{does_no_memory, operand_stop, operand_next}
use Rattle.pas_run.proofs.ValueLemmas.{goes_value_of}

pub goes_place_at : (program : TypedProgram) (most : ℕ) (place : Place) → Goes (place_at program most place)
goes_place_at program most place =
    goes_place (Some CALL_LIMIT) program (meaning.within (Some CALL_LIMIT) program most)
    (goes_within (Some CALL_LIMIT) program most) place

-- a place of an ordinal type
pub spot_of : (program : TypedProgram) (variables : List Variable) (type : PasType) (found : CodeSpot) (spot : Spot)
    → IsOrdinal program.types type → MeansSpot program variables type found spot
    → IsSpot program variables type found spot
spot_of program variables type (code.Part found behind) (part slot path) ordinal is =
    (is.0, is.1, ordinal, is.2, is.3)
spot_of program variables type (code.Part found behind) (window slot of_component) ordinal is = absurd is
spot_of program variables type (code.Window found of_code) (part slot path) ordinal is = absurd is
spot_of program variables type (code.Window found of_code) (window slot of_component) ordinal is = is

-- what a place holds
module _ (most : ℕ) (kinds : Kinds) (program : TypedProgram) (variables : List Variable) (place : Place)
    (before : MachineState) where
  abbrev holding : Spot → Doing Store Datum
  holding spot = ask (meaning.read_at program.types (type_of_place place) spot)

  pub read_stop : (now : MachineState) (why : Stop)
      → Does {T = CodeSpot} most kinds kinds (MeansSpot program variables (type_of_place place))
      (place_at program most place) before now (Err why)
      → Does {T = ℤ} most kinds kinds IsNumber (value_of program most (typed.read place)) before now (Err why)
  read_stop now why does =
      does_stop most kinds kinds kinds (MeansSpot program variables (type_of_place place)) IsNumber
      (place_at program most place) holding before now why (λ spot. goes_ask _) does

  pub read_next : (between now : MachineState) (found : CodeSpot) (result : Result ℤ Stop)
      → IsOrdinal program.types (type_of_place place)
      → Does most kinds kinds (MeansSpot program variables (type_of_place place)) (place_at program most place) before
      between (Ok found)
      → ((spot : Spot) → IsSpot program variables (type_of_place place) found spot
      → Does most kinds kinds IsNumber (holding spot) between now result)
      → Does most kinds kinds IsNumber (value_of program most (typed.read place)) before now result
  read_next between now found result ordinal does then_does =
      does_next most kinds kinds kinds (MeansSpot program variables (type_of_place place)) IsNumber
      (place_at program most place) holding before between now found result (goes_place_at program most place) does
      (λ spot is. then_does spot (spot_of program variables (type_of_place place) found spot ordinal is))

-- the part that a selector selects of a part of a variable
module _ (program : TypedProgram) (lawful : IsLawful program) (variables : List Variable) (slot : CodeSlot) where
  abbrev shape : PasType → Shape
  shape type = shape_of program.types type

  behind_step : (type of_part : PasType) (behind number more : ℕ) (spot : Spot)
      → IsBehind program variables slot type behind spot → Leads (shape type) (number ∷ []) (shape of_part)
      → more ≡ behind + offset (shape type) (number ∷ [])
      → IsBehind program variables slot of_part more (along_part spot number)
  behind_step type of_part behind number more (window found of_component) is leads count = absurd is
  behind_step type of_part behind number more (part found path) is leads count = (
    is.0,
    is.1,
    leads_on path (number ∷ []) (shape found.type) (shape type) (shape of_part) is.2 leads,
    omega (arith, count, is.3, offset_on path (number ∷ []) (shape found.type) (shape type) is.2),
  )

  -- an element of an array
  pub element_step : (type : PasType) (range : Range) (of_element : PasType) (behind number more : ℕ) (spot : Spot)
      → elements_of program.types type ≡ Some (record { indexes = range; element = of_element })
      → number < count_of range → more ≡ behind + cells_of program.types of_element * number
      → IsBehind program variables slot type behind spot
      → IsBehind program variables slot of_element more (along_part spot number)
  element_step type range of_element behind number more spot parts less count is =
      let begins = element_begins program.types type _ lawful.types parts number less in
      let cells : size (shape of_element) ≡ cells_of program.types of_element =
      size-shape_of program.types of_element lawful.types in
      let product : number * size (shape of_element) ≡ cells_of program.types of_element * number =
      ap (λ (cells : ℕ). number * cells) cells ∙ mul_comm number (cells_of program.types of_element) in
      behind_step type of_element behind number more spot is
      (element_leads program.types type _ lawful.types parts number less)
      (omega (arith, count, begins, product))

  -- a field of a record
  sum_same : (fields : List Field) → sum_by (λ (field : Field). size (shape field.type)) fields
      ≡ sum_by (λ (field : Field). cells_of program.types field.type) fields
  sum_same [] = refl
  sum_same (field ∷ fields) =
      sum_by-cons (λ (field : Field). size (shape field.type)) field fields
      ∙ ap₂ (λ (one more : ℕ). one + more) (size-shape_of program.types field.type lawful.types) (sum_same fields)
      ∙ sym (sum_by-cons (λ (field : Field). cells_of program.types field.type) field fields)

  pub field_step : (type of_field : PasType) (behind number : ℕ) (result : Result ℕ Stop)
      → field_type program.types type number ≡ Some of_field
      → ((fields : List Field) → fields_of program.types type ≡ Some fields
      → IsCount (behind + sum_by (λ field. cells_of program.types field.type) (take number fields)) result)
      → (more : ℕ) → result ≡ Ok more → (spot : Spot) → IsBehind program variables slot type behind spot
      → IsBehind program variables slot of_field more (along_part spot number)
  field_step type of_field behind number result found count more result_is spot is =
      option_and_then_some (λ found. option_map (λ (field : Field). field.type) (slice_get found number))
      (fields_of program.types type) of_field found (λ fields are there. in_fields fields are
      (slice_get fields number) refl there)
    where
      in_fields : (fields : List Field) → fields_of program.types type ≡ Some fields → (field : Option Field)
          → slice_get fields number ≡ field → option_map (λ (field : Field). field.type) field ≡ Some of_field
          → IsBehind program variables slot of_field more (along_part spot number)
      in_fields fields are None there typed_so = absurd (cc)
      in_fields fields are (Some field) there typed_so =
          behind_step type of_field behind number more spot is
          (subst (λ part. Leads (shape type) (number ∷ []) (shape part)) (same_Some _ _ typed_so)
          (field_leads program.types type fields lawful.types are number field there))
          (subst (IsCount (behind + sum_by (λ field. cells_of program.types field.type) (take number fields)))
          result_is (count fields are)
          ∙ ap (λ (cells : ℕ). behind + cells) (sym (field_begins program.types type fields lawful.types are number
          ∙ sum_same (take number fields))))

-- selectors as steps of a run
module _ (most : ℕ) (kinds : Kinds) (program : TypedProgram) (lawful : IsLawful program) (variables : List Variable)
    (slot : CodeSlot) (place : Place) (first between : MachineState) (behind : ℕ)
    (does : Does most kinds kinds (IsBehind program variables slot (type_of_place place))
    (place_at program most place) first between (Ok behind)) where
  pub does_field : (number : ℕ) (type : PasType) (result : Result ℕ Stop)
      → IsLawfulPlace program variables (typed.field place number type)
      → ((fields : List Field) → fields_of program.types (type_of_place place) ≡ Some fields
      → IsCount (behind + sum_by (λ field. cells_of program.types field.type) (take number fields)) result)
      → Does most kinds kinds (IsBehind program variables slot type)
      (place_at program most (typed.field place number type)) first between result
  does_field number type (Ok more) is count =
      does_next most kinds kinds kinds (IsBehind program variables slot (type_of_place place))
      (IsBehind program variables slot type) (place_at program most place) (λ spot. pure (along_part spot number))
      first between between behind (Ok more) (goes_place_at program most place) does
      (λ spot spot_is. does_pure most kinds (IsBehind program variables slot type) more (along_part spot number) between
      (field_step program lawful variables slot (type_of_place place) type behind number (Ok more) is.1 count more refl
      spot spot_is))
  does_field number type (Err why) is count =
      option_and_then_some (λ found. option_map (λ (field : Field). field.type) (slice_get found number))
      (fields_of program.types (type_of_place place)) type is.1 (λ fields are there. no_memory
      (behind + sum_by (λ (field : Field). cells_of program.types field.type) (take number fields)) why
      (count fields are))
    where
      no_memory : (cells : ℕ) (why : Stop) → IsCount cells (Err why)
          → Does {T = ℕ} most kinds kinds (IsBehind program variables slot type)
          (place_at program most (typed.field place number type)) first between (Err why)
      no_memory cells stop.OutOfMemory is = does_no_memory most kinds kinds _ _ first between
      no_memory cells (stop.Wrong kind) is = absurd is
      no_memory cells (stop.Halted status) is = absurd is
      no_memory cells stop.Going is = absurd is
      no_memory cells stop.TooDeep is = absurd is
      no_memory cells stop.PortFailed is = absurd is

  -- an element: its index, the check of it, and its cells
  module _ (range : Range) (type : PasType) (index : Value)
      (is : IsLawfulPlace program variables (typed.element place range type index)) where
    abbrev Element : MachineState → Result ℕ Stop → Type 0
    Element now result =
        Does most kinds kinds (IsBehind program variables slot type)
        (place_at program most (typed.element place range type index)) first now result

    behind_place : (now : MachineState) (result : Result ℕ Stop)
        → ((spot : Spot) → IsBehind program variables slot (type_of_place place) behind spot
        → Does most kinds kinds (IsBehind program variables slot type)
        (operand (element range) (value_of program most index) >>= (λ number. pure (along_part spot number)))
        between now result) → Element now result
    behind_place now result then_does =
        does_next most kinds kinds kinds (IsBehind program variables slot (type_of_place place))
        (IsBehind program variables slot type) (place_at program most place)
        (λ spot. operand (element range) (value_of program most index) >>= (λ number. pure (along_part spot number)))
        first between now behind result (goes_place_at program most place) does then_does

    pub does_no_index : (now : MachineState) (why : Stop)
        → Does {T = ℤ} most kinds kinds IsNumber (value_of program most index) between now (Err why)
        → Element now (Err why)
    does_no_index now why index_does =
        behind_place now (Err why) (λ spot spot_is.
        does_stop most kinds kinds kinds Same (IsBehind program variables slot type)
        (operand (element range) (value_of program most index)) (λ number. pure (along_part spot number)) between now
        why (λ number. goes_pure _) (operand_stop {T = ℕ} most kinds Same (element range) (value_of program most index)
        between now why index_does))

    module _ (now : MachineState) (found : ℤ)
        (index_does : Does most kinds kinds IsNumber (value_of program most index) between now (Ok found)) where
      wrong_element : (why : Stop) → Answers {T = ℕ} Same (element range (holds found)) (Err why)
          → Element now (Err why)
      wrong_element why answers =
          behind_place now (Err why) (λ spot spot_is.
          does_stop most kinds kinds kinds Same (IsBehind program variables slot type)
          (operand (element range) (value_of program most index)) (λ number. pure (along_part spot number)) between now
          why (λ number. goes_pure _) (operand_next {T = ℕ} most kinds Same (element range)
          (value_of program most index) between now found (Err why) (goes_value_of program most index) index_does
          answers))

      pub does_no_element : (why : Stop) → IsElement (element range (holds found)) (Err why) → Element now (Err why)
      does_no_element stop.OutOfMemory answers = does_no_memory most kinds kinds _ _ first now
      does_no_element (stop.Wrong kind) answers = wrong_element (stop.Wrong kind) answers
      does_no_element (stop.Halted status) answers = absurd answers
      does_no_element stop.Going answers = absurd answers
      does_no_element stop.TooDeep answers = absurd answers
      does_no_element stop.PortFailed answers = absurd answers

      pub does_element : (number : ℕ) (result : Result ℕ Stop) → IsElement (element range (holds found)) (Ok number)
          → IsCount (behind + cells_of program.types type * number) result → Element now result
      does_element number (Ok more) answers count =
          behind_place now (Ok more) (λ spot spot_is.
          does_next most kinds kinds kinds Same (IsBehind program variables slot type)
          (operand (element range) (value_of program most index)) (λ number. pure (along_part spot number)) between now
          now number (Ok more) (goes_operand_alone (element range) (goes_value_of program most index))
          (operand_next most kinds Same (element range) (value_of program most index) between now found (Ok number)
          (goes_value_of program most index) index_does answers)
          (λ value same. does_pure most kinds (IsBehind program variables slot type) more (along_part spot value) now
          (subst (λ (value : ℕ). IsBehind program variables slot type more (along_part spot value)) same
          (element_step program lawful variables slot (type_of_place place) range type behind number more spot is.2
          (subst (λ (value : ℕ). value < count_of range) (sym answers.2)
          (subst (Answered (λ (value : ℕ). value < count_of range)) answers.1 (element_below range (holds found))))
          count spot_is))))
      does_element number (Err stop.OutOfMemory) answers count = does_no_memory most kinds kinds _ _ first now
      does_element number (Err (stop.Wrong kind)) answers count = absurd count
      does_element number (Err (stop.Halted status)) answers count = absurd count
      does_element number (Err stop.Going) answers count = absurd count
      does_element number (Err stop.TooDeep) answers count = absurd count
      does_element number (Err stop.PortFailed) answers count = absurd count

-- the first fields
pub taken_fields : {X Y : Type 0} (view : X → Y) (xs : List X) (number count : ℕ) → count ≡ min (length xs) number
    → take number (map view xs) ≡ map view (take count xs)
taken_fields view xs number count is =
    take-map view number xs
    ∙ ap (map view) (sym (ap (λ (count : ℕ). take count xs) (omega (arith, is)) ∙ take_min number xs))

-- the cells of so many elements, as far as the code counts them
pub counted-product : (cells number one same all : ℕ) → counted cells ≡ one → same ≡ number → same < 2 ^ 64
    → all ≡ counted (one * same) → counted (cells * number) ≡ all
counted-product cells number one same all is equal less also =
    counted-mul cells number one same all (sym is) (omega (arith, equal, less)) also
