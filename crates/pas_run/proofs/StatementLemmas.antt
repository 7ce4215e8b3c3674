-- What statements do that have no statements in them, and those that choose one.
use Rattle.std.proofs.Common.{◌≡◌, ℕ, ℤ, List, refl, sym}
use Rattle.std.proofs.Common.{subst, Some, Bool, Result, Ok, Err, false}
use Rattle.std.proofs.Common.{inl, inr}
use Rattle.pas_typed.specs.Types.{PasType}
use Rattle.pas_typed.specs.Typed as typed
use Rattle.pas_typed.specs.Typed.{FileStep, Variable, Slot, Value, Place, Statement, Arms, TypedProgram}
use Rattle.pas_typed.specs.TypeOf.{type_of_place, type_of}
use Rattle.pas_typed.specs.Lawful.{IsOrdinal, IsLawfulPlace, IsLawfulValue, IsLawfulTarget, IsLawfulNumber, Takes}
use Rattle.pas_meaning.specs.declared.errors.TheConstants.{CALL_LIMIT, STATUS_OUT_OF_RANGE}
use Rattle.pas_meaning.specs.Answers.{Answer}
use Rattle.pas_meaning.specs.Outcome.{Doing, ◌>>=◌, answered, ask, change, stop, halted}
use Rattle.pas_meaning.specs.Store.{Datum, holds, Store, fits}
use Rattle.pas_meaning.specs.Operands.{operand, byte_of}
use Rattle.pas_meaning.specs.Run as meaning
use Rattle.pas_meaning.specs.Run.{Spot, Flow, file_of, file_variable, on_file, store_at, with_result}
use Rattle.pas_meaning.specs.Laws.{Goes}
use Rattle.pas_meaning.specs.Standing.{Kinds}
use Rattle.pas_meaning.proofs.OnwardLemmas.{goes_ask, goes_answered, goes_stop, goes_change}
use Rattle.pas_meaning.proofs.GoesLemmas.{goes_assigned, goes_store, goes_operand_alone, goes_file_step, goes_on_file}
use Rattle.pas_run.specs.declared.ends.Flow.{Flow as CodeFlow}
use Rattle.pas_run.specs.declared.ends.Stop.{Stop}
use Rattle.pas_run.specs.declared.ends.Stop.TheVariants as code
use Rattle.pas_run.specs.declared.layouts.Scene.{Scene}
use Rattle.pas_typed.specs.declared.typed.Slot.{Slot as CodeSlot}
use Rattle.pas_run.specs.declared.spots.Spot.{Spot as CodeSpot}
use Rattle.pas_run.specs.inner.MachineState.{KeptFile, MachineState, CountFailures}
use Rattle.pas_run.specs.inner.Doings.{Any, Same, IsNumber, Does, Answers, is_failure}
use Rattle.pas_run.specs.inner.Scenes.{IsSpot}
use Rattle.pas_run.specs.inner.Evaluating.{value_of, place_at, MeansSpot, IsSlot}
use Rattle.pas_run.specs.inner.Running.{IsFlow, Runs, statement_of, assigned_to, step_of}
use Rattle.pas_run.proofs.DoesLemmas.{does_stop, does_next, does_answered}
use Rattle.pas_run.proofs.OperandLemmas.{operand_stop, operand_next}
use Rattle.pas_run.proofs.ValueLemmas.{goes_value_of}
use Rattle.pas_run.proofs.PlaceLemmas.{goes_place_at, spot_of}
use Rattle.pas_run.proofs.RunningLemmas.{found_stop, found_next, goes_below}

-- a statement as it is seen, and a result that is told
pub runs_as : (scene : Scene) (found s : Statement) (before now : MachineState) (result answer : Result CodeFlow Stop)
    → found ≡ s → result ≡ answer → Runs scene s before now answer → Runs scene found before now result
runs_as scene found s before now result answer same is does =
    subst (λ (found : Statement). Runs scene found before now result) (sym same)
    (subst (Runs scene s before now) (sym is) does)

-- an answer is no failure of a port
pub quiet_answer : {A T : Type 0} (Is : T → A → Type 0) (answer : Answer A) (why : Stop)
    → Answers {T = T} Is answer (Err why) → is_failure why ≡ false
quiet_answer Is answer (code.Halted status) is = absurd is
quiet_answer Is answer code.Going is = absurd is
quiet_answer Is answer (code.Wrong kind) is = refl
quiet_answer Is answer code.TooDeep is = absurd is
quiet_answer Is answer code.PortFailed is = absurd is
quiet_answer Is answer code.OutOfMemory is = absurd is

-- a run that halts
pub does_halt : {A T : Type 0} (most : ℕ) (kinds : Kinds) (Is : T → A → Type 0) (status : ℕ) (machine : MachineState)
    → Does {T = T} most kinds kinds Is (stop (halted status)) machine machine (Err (code.Halted status))
does_halt most kinds Is status machine = record {
  each = λ ports run stands within. (run.world, record { same = refl; stands = stands.world });
}

module _ (program : TypedProgram) (most : ℕ) (kinds : Kinds) (before : MachineState) where
  -- a status
  pub halts_stop : (status : Value) (now : MachineState) (why : Stop)
      → Does {T = ℤ} most kinds kinds IsNumber (value_of program most status) before now (Err why)
      → Does {T = CodeFlow} most kinds kinds IsFlow (statement_of program most meaning.start (typed.halts status))
      before
      now (Err why)
  halts_stop status now why does =
      found_stop most kinds IsFlow (operand (byte_of STATUS_OUT_OF_RANGE) (value_of program most status))
      (λ found. stop (halted found)) before now why (λ found. goes_stop (halted found))
      (operand_stop {T = ℕ} most kinds Same (byte_of STATUS_OUT_OF_RANGE) (value_of program most status) before now why
      does)

  pub halts_wrong : (status : Value) (now : MachineState) (found : ℤ) (why : Stop)
      → Does most kinds kinds IsNumber (value_of program most status) before now (Ok found)
      → Answers {T = ℕ} Same (byte_of STATUS_OUT_OF_RANGE (holds found)) (Err why)
      → Does {T = CodeFlow} most kinds kinds IsFlow (statement_of program most meaning.start (typed.halts status))
      before
      now (Err why)
  halts_wrong status now found why does answers =
      found_stop most kinds IsFlow (operand (byte_of STATUS_OUT_OF_RANGE) (value_of program most status))
      (λ found. stop (halted found)) before now why (λ found. goes_stop (halted found))
      (operand_next most kinds Same (byte_of STATUS_OUT_OF_RANGE) (value_of program most status) before now found
      (Err why) (goes_value_of program most status) does answers)

  pub halts_next : (status : Value) (now : MachineState) (found : ℤ) (byte : ℕ)
      → Does most kinds kinds IsNumber (value_of program most status) before now (Ok found)
      → Answers Same (byte_of STATUS_OUT_OF_RANGE (holds found)) (Ok byte)
      → Does {T = CodeFlow} most kinds kinds IsFlow (statement_of program most meaning.start (typed.halts status))
      before
      now (Err (code.Halted byte))
  halts_next status now found byte does answers =
      found_next most kinds IsFlow (operand (byte_of STATUS_OUT_OF_RANGE) (value_of program most status))
      (λ found. stop (halted found)) before now now byte (Err (code.Halted byte))
      (goes_operand_alone (byte_of STATUS_OUT_OF_RANGE) (goes_value_of program most status))
      (operand_next most kinds Same (byte_of STATUS_OUT_OF_RANGE) (value_of program most status) before now found
      (Ok byte) (goes_value_of program most status) does answers)
      (does_halt most kinds IsFlow byte now)

  -- v := a number
  goes_stored : (place : Place) (datum : Datum) (spot : Spot)
      → Goes (store_at program.types (type_of_place place) spot datum)
  goes_stored place datum spot = goes_store program.types (type_of_place place) spot datum

  pub goes_assigned_to : (place : Place) (datum : Datum) → Goes (assigned_to program most place datum)
  goes_assigned_to place datum =
      goes_assigned (Some CALL_LIMIT) program (meaning.within (Some CALL_LIMIT) program most)
      (goes_below program most) place datum

  module _ (variables : List Variable) (place : Place) (number : ℤ) where
    pub store_stop : (now : MachineState) (why : Stop)
        → Does {T = CodeSpot} most kinds kinds (MeansSpot program variables (type_of_place place))
        (place_at program most place) before now (Err why)
        → Does {T = Unit {0}} most kinds kinds Any (assigned_to program most place (holds number)) before now (Err why)
    store_stop now why does =
        does_stop most kinds kinds kinds (MeansSpot program variables (type_of_place place)) Any
        (place_at program most place) (λ spot. store_at program.types (type_of_place place) spot (holds number)) before
        now why (goes_stored place (holds number)) does

    pub store_next : (between now : MachineState) (found : CodeSpot) (result : Result (Unit {0}) Stop)
        → IsOrdinal program.types (type_of_place place)
        → Does most kinds kinds (MeansSpot program variables (type_of_place place)) (place_at program most place) before
        between (Ok found)
        → ((spot : Spot) → IsSpot program variables (type_of_place place) found spot
        → Does most kinds kinds Any (store_at program.types (type_of_place place) spot (holds number)) between now
        result)
        → Does most kinds kinds Any (assigned_to program most place (holds number)) before now result
    store_next between now found result ordinal does then_does =
        does_next most kinds kinds kinds (MeansSpot program variables (type_of_place place)) Any
        (place_at program most place) (λ spot. store_at program.types (type_of_place place) spot (holds number)) before
        between now found result (goes_place_at program most place) does
        (λ spot is. then_does spot (spot_of program variables (type_of_place place) found spot ordinal is))

  -- v := e
  pub assign_stop : (place : Place) (right : Value) (now : MachineState) (why : Stop)
      → Does {T = ℤ} most kinds kinds IsNumber (value_of program most right) before now (Err why)
      → Does {T = Unit {0}} most kinds kinds Any (value_of program most right >>= assigned_to program most place) before
      now (Err why)
  assign_stop place right now why does =
      does_stop most kinds kinds kinds IsNumber Any (value_of program most right) (assigned_to program most place)
      before now why (goes_assigned_to place) does

  pub assign_next : (place : Place) (right : Value) (between now : MachineState) (found : ℤ)
      (result : Result (Unit {0}) Stop)
      → Does most kinds kinds IsNumber (value_of program most right) before between (Ok found)
      → Does most kinds kinds Any (assigned_to program most place (holds found)) between now result
      → Does most kinds kinds Any (value_of program most right >>= assigned_to program most place) before now result
  assign_next place right between now found result does then_does =
      does_next most kinds kinds kinds IsNumber Any (value_of program most right) (assigned_to program most place)
      before
      between now found result (goes_value_of program most right) does
      (λ datum is. subst (λ datum. Does most kinds kinds Any (assigned_to program most place datum) between now result)
      (sym is) then_does)

  -- the result of a function
  module _ (type : PasType) (right : Value) (set : Datum → Store → Store) where
    pub result_stop : (now : MachineState) (why : Stop)
        → Does {T = ℤ} most kinds kinds IsNumber (value_of program most right) before now (Err why)
        → Does {T = Unit {0}} most kinds kinds Any
        (operand (fits program.types type) (value_of program most right) >>= (λ datum. change (set datum))) before now
        (Err why)
    result_stop now why does =
        does_stop {T = ℤ} most kinds kinds kinds IsNumber Any
        (operand (fits program.types type) (value_of program most right)) (λ datum. change (set datum)) before now why
        (λ datum. goes_change (set datum))
        (operand_stop {T = ℤ} most kinds IsNumber (fits program.types type) (value_of program most right) before now why
        does)

    pub result_wrong : (now : MachineState) (found : ℤ) (why : Stop)
        → Does most kinds kinds IsNumber (value_of program most right) before now (Ok found)
        → Answers {T = ℤ} IsNumber (fits program.types type (holds found)) (Err why)
        → Does {T = Unit {0}} most kinds kinds Any
        (operand (fits program.types type) (value_of program most right) >>= (λ datum. change (set datum))) before now
        (Err why)
    result_wrong now found why does answers =
        does_stop {T = ℤ} most kinds kinds kinds IsNumber Any
        (operand (fits program.types type) (value_of program most right)) (λ datum. change (set datum)) before now why
        (λ datum. goes_change (set datum))
        (operand_next most kinds IsNumber (fits program.types type) (value_of program most right) before now found
        (Err why) (goes_value_of program most right) does answers)

    pub result_next : (between now : MachineState) (found checked : ℤ)
        → Does most kinds kinds IsNumber (value_of program most right) before between (Ok found)
        → Answers IsNumber (fits program.types type (holds found)) (Ok checked)
        → Does most kinds kinds Any (change (set (holds checked))) between now (Ok (tt {0}))
        → Does most kinds kinds Any
        (operand (fits program.types type) (value_of program most right) >>= (λ datum. change (set datum))) before now
        (Ok (tt {0}))
    result_next between now found checked does answers then_does =
        does_next most kinds kinds kinds IsNumber Any
        (operand (fits program.types type) (value_of program most right)) (λ datum. change (set datum)) before between
        now checked (Ok (tt {0})) (goes_operand_alone (fits program.types type) (goes_value_of program most right))
        (operand_next most kinds IsNumber (fits program.types type) (value_of program most right) before between found
        (Ok checked) (goes_value_of program most right) does answers)
        (λ datum is. subst (λ datum. Does most kinds kinds Any (change (set datum)) between now (Ok (tt {0}))) (sym is)
        then_does)

-- a step of the file that a variable is
module _ (program : TypedProgram) (most : ℕ) where
  pub goes_steps : (step : FileStep) (file : ℕ) → Goes (step_of program most step file)
  goes_steps =
      goes_file_step (Some CALL_LIMIT) program (meaning.within (Some CALL_LIMIT) program most) (goes_below program most)

  pub goes_slot_step : (step : FileStep) (slot : Slot) → Goes (on_file slot (step_of program most step))
  goes_slot_step step slot = goes_on_file slot (step_of program most step) (goes_steps step)

-- something that is done with the file that a variable is
module _ (most : ℕ) (kinds : Kinds) (slot : Slot) (step : ℕ → Doing Store (Unit {0}))
    (goes : (file : ℕ) → Goes (step file)) (before : MachineState) where
  pub on_no_file : (why : Stop) → Does {T = ℕ} most kinds kinds Same (ask (file_of slot)) before before (Err why)
      → Does {T = Unit {0}} most kinds kinds Any (on_file slot step) before before (Err why)
  on_no_file why does = found_stop most kinds Any (ask (file_of slot)) step before before why goes does

  pub on_its_file : (now : MachineState) (file : ℕ) (result : Result (Unit {0}) Stop)
      → Does most kinds kinds Same (ask (file_of slot)) before before (Ok file)
      → Does most kinds kinds Any (step file) before now result
      → Does most kinds kinds Any (on_file slot step) before now result
  on_its_file now file result found does =
      found_next most kinds Any (ask (file_of slot)) step before before now file result (goes_ask _) found does

-- something that is done with the variable that a file is
module _ (most : ℕ) (kinds : Kinds) (place : Place) (step : Slot → Doing Store (Unit {0}))
    (before : MachineState) where
  pub no_file_variable : (why : Stop) → ((file : Slot) → Goes (step file))
      → Answers {T = CodeSlot} IsSlot (file_variable place) (Err why)
      → Does {T = Unit {0}} most kinds kinds Any (answered (file_variable place) >>= step) before before (Err why)
  no_file_variable why goes is =
      does_stop {T = CodeSlot} most kinds kinds kinds IsSlot Any (answered (file_variable place)) step before before why
      goes (does_answered {T = CodeSlot} most kinds IsSlot (file_variable place) before (Err why) is)

  pub its_file_variable : (now : MachineState) (slot : CodeSlot) (result : Result (Unit {0}) Stop)
      → Answers IsSlot (file_variable place) (Ok slot)
      → ((found : Slot) → IsSlot slot found → Does most kinds kinds Any (step found) before now result)
      → Does most kinds kinds Any (answered (file_variable place) >>= step) before now result
  its_file_variable now slot result is does =
      does_next most kinds kinds kinds IsSlot Any (answered (file_variable place)) step before before now slot result
      (goes_answered (file_variable place)) (does_answered most kinds IsSlot (file_variable place) before (Ok slot) is)
      does

-- an assignment to a place of an ordinal type
pub takes_number : (program : TypedProgram) (variables : List Variable) (place : Place) (right : Value)
    → IsOrdinal program.types (type_of_place place) → IsLawfulPlace program variables place
    → IsLawfulValue program variables right → Takes program.types (type_of_place place) (type_of right)
    → IsLawfulTarget program variables place × IsLawfulNumber program variables right
takes_number program variables place right ordinal place_is right_is (inl both) =
    ((place_is, ordinal), (right_is, both.1))
takes_number program variables place right ordinal place_is right_is (inr same) =
    ((place_is, ordinal), (right_is, subst (IsOrdinal program.types) same ordinal))

-- files that stay as they are
pub quiet_still : (failed : Bool) (before now : List KeptFile) → now ≡ before → CountFailures failed before before
    → CountFailures failed before now
quiet_still failed before now same counts = subst (CountFailures failed before) (sym same) counts
