-- Selectors of a place one after another, and a buffer at its end.
use Rattle.std.proofs.Common.{◌≡◌, ℕ, ◌+◌, ◌<◌, ◌≤◌, suc, List, [], ◌∷◌, ◌++◌, length, map, take, drop, get_or}
use Rattle.std.proofs.Common.{drop-cons, refl, sym, ap, ◌∙◌, subst, true, false, Ok}
use Rattle.std.proofs.Common.{Err, Option, Some, None, is_some, IsSome, option_map, slice_get}
use Rattle.std.specs.Prelude.{option_and_then}
use Rattle.std.proofs.lemmas.Option.{option_and_then_some}
use Rattle.std.proofs.lemmas.List.{take_more, take_all}
use Rattle.std.proofs.lemmas.List.{map-append, take-append-drop}
use Rattle.std.proofs.lemmas.List.Sums.{fold-append}
use Rattle.pas_syntax.specs.Views.{in_turn}
use Rattle.pas_typed.specs.declared.typed.Part as code_part
use Rattle.pas_typed.specs.declared.typed.Slot.{Slot as CodeSlot}
use Rattle.pas_typed.specs.declared.types.PasType.{PasType as CodeType}
use Rattle.pas_typed.specs.declared.typed.Part.TheOpen.{Part-F}
use Rattle.pas_typed.specs.declared.typed.Part.TheFolds.{fold_out-Part}
use Rattle.pas_typed.specs.Types as types
use Rattle.pas_typed.specs.Types.{PasType, Structure, TableRow, Table, Field, range_of, range_in, component_of}
use Rattle.pas_typed.specs.Types.{component_in, elements_of, fields_of}
use Rattle.pas_typed.specs.Typed as typed
use Rattle.pas_typed.specs.Typed.{Variable, Slot, Value, Place, Passed, TypedProgram}
use Rattle.pas_typed.specs.TypeOf.{type_of_place, is_buffer}
use Rattle.pas_typed.specs.TypeViews.{range_view, type_view}
use Rattle.pas_typed.specs.TypedViews.{OfValues, slot_view, part_step, passed_step, value_step, call_step, place_step}
use Rattle.pas_typed.specs.TypedViews.{part_view}
use Rattle.pas_typed.specs.Lawful.{IsLawful, IsLawfulPlace}
use Rattle.pas_typed.specs.Shapes.{Shapes, one_cell, several, shape_of}
use Rattle.pas_typed.proofs.OrderLemmas.{pushed_in_turn}
use Rattle.pas_typed.proofs.ShapeLemmas.{component-ordinal, shape_of-ordinal, shape_of-array, shape_of-fields}
use Rattle.pas_meaning.specs.Outcome.{World, Outcome, pure, answered}
use Rattle.pas_meaning.specs.Store.{Store}
use Rattle.pas_meaning.specs.Run.{Spot, part, window, file_variable}
use Rattle.pas_meaning.specs.Standing.{Kinds}
use Rattle.pas_meaning.specs.Answers.{fine}
use Rattle.pas_meaning.specs.Outcome.{Doing, ◌>>=◌}
use Rattle.pas_meaning.specs.Operands.{operand, element}
use Rattle.pas_meaning.specs.Run.{along_part}
use Rattle.pas_meaning.proofs.OnwardLemmas.{goes_pure, goes_answered}
use Rattle.pas_meaning.proofs.GoesLemmas.{goes_operand}
use Rattle.pas_run.specs.declared.ends.Stop.{Stop}
use Rattle.pas_run.specs.declared.ends.Stop.TheVariants as stop
use Rattle.pas_run.specs.declared.spots.Spot.{Spot as CodeSpot}
use Rattle.pas_run.specs.declared.spots.Spot.TheVariants as code
use Rattle.wb_ports.specs.PortState.{PortState}
use Rattle.pas_run.specs.inner.MachineState.{MachineState}
use Rattle.pas_run.specs.inner.Doings.{Any, StopsBy, Answers, Does}
use Rattle.pas_run.specs.inner.Evaluating.{value_of, place_at, IsSlot, MeansSpot, IsBehind}
use Rattle.pas_run.proofs.DoesLemmas.{does_stop, does_next, does_answered, does_pure}
use Rattle.pas_run.proofs.ValueLemmas.{goes_value_of}
use Rattle.pas_run.proofs.TestLemmas.{file_slot}

-- all that is selected, at an item on the way; with one item more, or all of them
pub turned_at : {A X : Type 0} (first : A) (view : X → A → A) (xs : List X) (i : ℕ) (x : X) → i < length xs
    → x ≡ get_or xs i x
    → in_turn (view x (in_turn first (map view (take i xs)))) (map view (drop (suc i) xs))
    ≡ in_turn first (map view xs)
turned_at {A = A} first view xs i x within is =
    let behind : drop i xs ≡ x ∷ drop (suc i) xs =
    drop-cons xs i x within ∙ ap (λ (item : _). item ∷ drop (suc i) xs) (sym is) in
    sym (ap (λ (all : List _). in_turn first (map view all)) (sym (take-append-drop i xs))
    ∙ ap (in_turn first) (map-append view (take i xs) (drop i xs))
    ∙ fold-append (λ (found : A) (further : A → A). further found) first (map view (take i xs)) (map view (drop i xs))
    ∙ ap (λ (rest : List _). in_turn (in_turn first (map view (take i xs))) (map view rest)) behind)

pub turned_more : {A X : Type 0} (first : A) (view : X → A → A) (xs : List X) (i : ℕ) (x : X) → i < length xs
    → x ≡ get_or xs i x
    → view x (in_turn first (map view (take i xs))) ≡ in_turn first (map view (take (i + 1) xs))
turned_more first view xs i x within is =
    sym (pushed_in_turn first view (take i xs) (take (i + 1) xs) x
    (take_more xs i x within ∙ ap (λ item. take i xs ++ item ∷ []) (sym is)))

pub turned_all : {A X : Type 0} (first : A) (view : X → A → A) (xs : List X) (i : ℕ) → length xs ≤ i
    → in_turn first (map view (take i xs)) ≡ in_turn first (map view xs)
turned_all first view xs i h = ap (λ (all : List _). in_turn first (map view all)) (take_all i xs h)

-- a selector as a step
part_is : (p : code_part.Part) → (layer : OfValues Part-F) × (part_view p ≡ part_step layer)
part_is p = (
  _,
  fold_out-Part (Place → Place) (Passed → Passed) Value Value Place part_step passed_step value_step call_step
      place_step p,
)

-- what stops, whatever it would have found
module _ {A T U : Type 0} (most : ℕ) (kinds later : Kinds) (Is : T → A → Type 0) (IsOther : U → A → Type 0)
    (doing : Doing Store A) (before now : MachineState) where
  stops_so : (ports : List PortState) (world : World) (outcome : Outcome Store A) (why : Stop)
      → StopsBy later ports Is world outcome now why → StopsBy later ports IsOther world outcome now why
  stops_so ports world outcome (stop.Halted status) h = (h.0, record { same = h.1.same; stands = h.1.stands })
  stops_so ports world outcome stop.Going h = (h.0, record { same = h.1.same; stands = h.1.stands })
  stops_so ports world outcome (stop.Wrong kind) h = (h.0, record { same = h.1.same; stands = h.1.stands })
  stops_so ports world outcome stop.TooDeep h = (h.0, record { same = h.1.same; stands = h.1.stands })
  stops_so ports world outcome stop.PortFailed h = h
  stops_so ports world outcome stop.OutOfMemory h = tt

  pub does_stopped : (why : Stop) → Does most kinds later Is doing before now (Err why)
      → Does most kinds later IsOther doing before now (Err why)
  does_stopped why does = record {
    each = λ ports run stands within.
        stops_so ports run.world (doing run) why (does.each ports run stands within);
  }

-- a buffer is one
pub no_buffer : (file : Place) (type : PasType) → is_buffer (typed.buffer file type) ≡ false → ⊥
no_buffer file type other = cc

-- an ordinal type is no file
no_structure : (structure : Structure) (type : PasType) → IsSome (range_in structure)
    → component_in structure ≡ Some type → ⊥
no_structure (types.subrange range) type ordinal file = cc
no_structure (types.array indexes of_element) type ordinal file = cc
no_structure (types.fields found) type ordinal file = cc
no_structure (types.file component) type ordinal file = cc

no_row : (found : Option TableRow) (type : PasType)
    → IsSome (option_and_then range_in (option_map (λ (found : TableRow). found.structure) found))
    → option_and_then component_in (option_map (λ (found : TableRow). found.structure) found) ≡ Some type → ⊥
no_row None type ordinal file = cc
no_row (Some found) type ordinal file = no_structure found.structure type ordinal file

no_file : (table : Table) (type component : PasType) → IsSome (range_of table type)
    → component_of table type ≡ Some component → ⊥
no_file table (types.whole base) component ordinal file = cc
no_file table types.text component ordinal file = cc
no_file table (types.row number) component ordinal file = no_row (slice_get table number) component ordinal file

-- lawful places: those before a selector; and none behind a buffer
module _ (program : TypedProgram) (lawful : IsLawful program) (variables : List Variable) where
  step_lawful : (layer : OfValues Part-F) (place : Place) → IsLawfulPlace program variables (part_step layer place)
      → IsLawfulPlace program variables place
  step_lawful (Part-F.Element indexes type index) place is = is.0
  step_lawful (Part-F.Field number type) place is = is.0
  step_lawful (Part-F.Buffer type) place is = is.0

  part_lawful : (p : code_part.Part) (place : Place) → IsLawfulPlace program variables (part_view p place)
      → IsLawfulPlace program variables place
  part_lawful p place is =
      step_lawful (part_is p).0 place
      (subst (λ (step : Place → Place). IsLawfulPlace program variables (step place)) (part_is p).1 is)

  pub before_lawful : (parts : List code_part.Part) (place : Place)
      → IsLawfulPlace program variables (in_turn place (map part_view parts)) → IsLawfulPlace program variables place
  before_lawful [] place is = is
  before_lawful (p ∷ parts) place is = part_lawful p place (before_lawful parts (part_view p place) is)

  step_behind_buffer : (layer : OfValues Part-F) (file : Place) (type : PasType)
      → IsLawfulPlace program variables (part_step layer (typed.buffer file type)) → ⊥
  step_behind_buffer (Part-F.Element indexes of_element index) file type is =
      let ordinal = component-ordinal program.types (type_of_place file) type lawful.types is.0.1 in
      let one : shape_of program.types type ≡ one_cell = shape_of-ordinal program.types type lawful.types ordinal in
      let more = shape_of-array program.types type _ lawful.types is.2 in
      one_or_more _ (sym one ∙ more)
    where
      one_or_more : (shapes : Shapes) → one_cell ≡ several shapes → ⊥
      one_or_more shapes same = cc
  step_behind_buffer (Part-F.Field number of_field) file type is =
      let ordinal = component-ordinal program.types (type_of_place file) type lawful.types is.0.1 in
      let one : shape_of program.types type ≡ one_cell = shape_of-ordinal program.types type lawful.types ordinal in
      option_and_then_some (λ found. option_map (λ (field : Field). field.type) (slice_get found number))
      (fields_of program.types type) (type_view of_field) is.1
      (λ fields are there. one_or_more _ (sym one ∙ shape_of-fields program.types type fields lawful.types are))
    where
      one_or_more : (shapes : Shapes) → one_cell ≡ several shapes → ⊥
      one_or_more shapes same = cc
  step_behind_buffer (Part-F.Buffer component) file type is =
      no_file program.types type (type_view component)
      (component-ordinal program.types (type_of_place file) type lawful.types is.0.1) is.1

  pub not_buffer : (parts : List code_part.Part) (place : Place)
      → is_buffer (in_turn place (map part_view parts)) ≡ false
      → IsLawfulPlace program variables (in_turn place (map part_view parts)) → is_buffer place ≡ false
  not_buffer [] place other is = other
  not_buffer (p ∷ parts) (typed.slot slot) other is = refl
  not_buffer (p ∷ parts) (typed.element place range type index) other is = refl
  not_buffer (p ∷ parts) (typed.field place number type) other is = refl
  not_buffer (p ∷ parts) (typed.buffer file type) other is =
      absurd (step_behind_buffer (part_is p).0 file type
      (subst (λ (step : Place → Place). IsLawfulPlace program variables (step (typed.buffer file type))) (part_is p).1
      (before_lawful parts (part_view p (typed.buffer file type)) is)))

  -- what stops at a selector stops the whole
  module _ (most : ℕ) (kinds : Kinds) (before now : MachineState) (why : Stop) where
    abbrev Stops : Place → Type 0
    Stops place = Does {T = ℕ} most kinds kinds Any (place_at program most place) before now (Err why)

    step_stops : (layer : OfValues Part-F) (place : Place) → is_buffer (part_step layer place) ≡ false → Stops place
        → Stops (part_step layer place)
    step_stops (Part-F.Element indexes type index) place other does =
        does_stop {T = ℕ} {U = ℕ} most kinds kinds kinds Any Any (place_at program most place)
        (λ spot. operand (element (range_view indexes)) (value_of program most index) >>= (λ number.
        pure (along_part spot number))) before now why
        (λ spot. goes_operand (element (range_view indexes)) (goes_value_of program most index)
        (λ number. goes_pure (along_part spot number))) does
    step_stops (Part-F.Field number type) place other does =
        does_stop {T = ℕ} {U = ℕ} most kinds kinds kinds Any Any (place_at program most place)
        (λ spot. pure (along_part spot number)) before now why (λ spot. goes_pure (along_part spot number)) does
    step_stops (Part-F.Buffer type) place other does = absurd (cc)

    part_stops : (p : code_part.Part) (place : Place) → is_buffer (part_view p place) ≡ false → Stops place
        → Stops (part_view p place)
    part_stops p place other does =
        subst (λ (step : Place → Place). Stops (step place)) (sym (part_is p).1)
        (step_stops (part_is p).0 place
        (subst (λ (step : Place → Place). is_buffer (step place) ≡ false) (part_is p).1 other) does)

    stops_on : (parts : List code_part.Part) (place : Place)
        → is_buffer (in_turn place (map part_view parts)) ≡ false
        → IsLawfulPlace program variables (in_turn place (map part_view parts)) → Stops place
        → Stops (in_turn place (map part_view parts))
    stops_on [] place other is does = does
    stops_on (p ∷ parts) place other is does =
        stops_on parts (part_view p place) other is
        (part_stops p place (not_buffer parts (part_view p place) other is) does)

    pub all_stops : (Is : ℕ → Spot → Type 0) (parts : List code_part.Part) (place whole : Place)
        → in_turn place (map part_view parts) ≡ whole → is_buffer whole ≡ false
        → IsLawfulPlace program variables whole
        → Does {T = ℕ} most kinds kinds Is (place_at program most place) before now (Err why)
        → Does {T = CodeSpot} most kinds kinds (MeansSpot program variables (type_of_place whole))
        (place_at program most whole) before now (Err why)
    all_stops Is parts place whole same other is does =
        does_stopped {T = ℕ} {U = CodeSpot} most kinds kinds Any (MeansSpot program variables (type_of_place whole))
        (place_at program most whole) before now why
        (subst Stops same
        (stops_on parts place (subst (λ (place : Place). is_buffer place ≡ false) (sym same) other)
        (subst (IsLawfulPlace program variables) (sym same) is)
        (does_stopped {T = ℕ} {U = ℕ} most kinds kinds Is Any (place_at program most place) before now why does)))

  -- a part of a variable as a place
  pub does_part : (most : ℕ) (kinds : Kinds) (slot : CodeSlot) (behind : ℕ) (place : Place) (before now : MachineState)
      → Does most kinds kinds (IsBehind program variables slot (type_of_place place)) (place_at program most place)
      before now (Ok behind)
      → Does most kinds kinds (MeansSpot program variables (type_of_place place)) (place_at program most place)
      before now (Ok (code.Part slot behind))
  does_part most kinds slot behind place before now does = record {
    each = λ ports run stands within.
        let given = does.each ports run stands within in
        record { value = given.value; run = given.run; same = given.same; is = given.is; stands = given.stands };
  }

  pub does_variable : (most : ℕ) (kinds : Kinds) (slot : CodeSlot) (machine : MachineState)
      → IsLawfulPlace program variables (typed.slot (slot_view slot))
      → Does most kinds kinds (IsBehind program variables slot (slot_view slot).type)
      (place_at program most (typed.slot (slot_view slot))) machine machine (Ok 0)
  does_variable most kinds slot machine is =
      does_pure most kinds (IsBehind program variables slot (slot_view slot).type) 0 (part (slot_view slot) []) machine
      (refl, is, refl, refl)

  -- a buffer
  module _ (most : ℕ) (kinds : Kinds) (machine : MachineState) where
    pub buffer_stop : (place : Place) (why : Stop) → is_buffer place ≡ true
        → ((file : Place) (type : PasType) → place ≡ typed.buffer file type
        → Answers {T = CodeSlot} IsSlot (file_variable file) (Err why))
        → Does {T = CodeSpot} most kinds kinds (MeansSpot program variables (type_of_place place))
        (place_at program most place) machine machine (Err why)
    buffer_stop (typed.slot slot) why is answers = absurd (cc)
    buffer_stop (typed.element place range type index) why is answers = absurd (cc)
    buffer_stop (typed.field place number type) why is answers = absurd (cc)
    buffer_stop (typed.buffer file type) why is answers =
        does_stop {T = CodeSlot} most kinds kinds kinds IsSlot (MeansSpot program variables type)
        (answered (file_variable file)) (λ slot. pure (window slot type)) machine machine why
        (λ slot. goes_pure (window slot type))
        (does_answered {T = CodeSlot} most kinds IsSlot (file_variable file) machine (Err why) (answers file type refl))

    pub buffer_next : (place : Place) (found : CodeSlot) (of_code : CodeType) → is_buffer place ≡ true
        → IsLawfulPlace program variables place → type_of_place place ≡ type_view of_code
        → ((file : Place) (type : PasType) → place ≡ typed.buffer file type
        → Answers IsSlot (file_variable file) (Ok found))
        → Does most kinds kinds (MeansSpot program variables (type_of_place place))
        (place_at program most place) machine machine (Ok (code.Window found of_code))
    buffer_next (typed.slot slot) found of_code is lawful_is same answers = absurd (cc)
    buffer_next (typed.element place range type index) found of_code is lawful_is same answers = absurd (cc)
    buffer_next (typed.field place number type) found of_code is lawful_is same answers = absurd (cc)
    buffer_next (typed.buffer file type) found of_code is lawful_is same answers =
        let given = answers file type refl in
        does_next most kinds kinds kinds IsSlot (MeansSpot program variables type)
        (answered (file_variable file)) (λ slot. pure (window slot type)) machine machine machine found
        (Ok (code.Window found of_code)) (goes_answered (file_variable file))
        (does_answered most kinds IsSlot (file_variable file) machine (Ok found) given)
        (λ slot slot_is. does_pure most kinds (MeansSpot program variables type) (code.Window found of_code)
        (window slot type) machine (
          slot_is,
          file_slot program variables file slot (given.1 ∙ ap fine (sym given.2 ∙ slot_is))
              (lawful_is.0, ap is_some lawful_is.1),
          component-ordinal program.types (type_of_place file) type lawful.types lawful_is.1,
          sym same,
          refl,
        ))
