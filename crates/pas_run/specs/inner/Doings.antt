-- What functions of a machine do: the steps of a run that it stands for. This project's own.
use Rattle.std.specs.Prelude.{◌≡◌, ◌≤◌, ℕ, ℤ, List, Bool, true, false, Result, Ok, Err, ⊤}
use Rattle.wb_ports.specs.PortState.{PortState}
use Rattle.pas_typed.specs.Typed.{Slot}
use Rattle.pas_meaning.specs.Answers.{Answer, fine, wrong}
use Rattle.pas_meaning.specs.Outcome.{Output, World, Run, Outcome, gives, ends, errs, Doing, halted, going, too_deep}
use Rattle.pas_meaning.specs.Outcome.{replay, ask}
use Rattle.pas_meaning.specs.Files.{File}
use Rattle.pas_meaning.specs.FileSteps.{file_at}
use Rattle.pas_meaning.specs.Store.{Datum, holds, Store, home_of, along, stored}
use Rattle.pas_meaning.specs.Standing.{Kinds}
use Rattle.pas_meaning.specs.Laws.{Extends, bytes_in, world_of}
use Rattle.pas_run.specs.declared.refusals.Refused.{Refused}
use Rattle.pas_run.specs.declared.refusals.Refused.TheVariants as refused
use Rattle.pas_run.specs.declared.ends.Stop.{Stop}
use Rattle.pas_run.specs.declared.ends.Stop.TheVariants as stop
use Rattle.pas_run.specs.inner.MachineState.{KeptFile, MachineState, AreShown, IsWorld, IsRun}

-- why a run stops where a step of a file is not made
abbrev pub stop_by : Refused → Stop
stop_by (refused.Wrong kind) = stop.Wrong kind
stop_by refused.Failed = stop.PortFailed

abbrev pub stopped : {T : Type 0} → Result T Refused → Result T Stop
stopped (Ok value) = Ok value
stopped (Err refused) = Err (stop_by refused)

-- whether a run stops since a call of a port failed
abbrev pub is_failure : Stop → Bool
is_failure stop.PortFailed = true
is_failure why = false

-- whether a run that stops so came to an end, and was not cut off
abbrev pub is_end : Stop → Bool
is_end stop.PortFailed = false
is_end stop.OutOfMemory = false
is_end why = true

abbrev pub is_port_failed : {T : Type 0} → Result T Stop → Bool
is_port_failed (Ok value) = false
is_port_failed (Err why) = is_failure why

-- the ports tell what the files held at a moment between a world and a later one
pub record IsMoment (files : List KeptFile) (before later : World) : Type 0 where
  pub trail : List Output
  pub from : Extends before.trail trail
  pub until : Extends trail later.trail
  pub shown : (given : List (List ℕ)) → replay given before.trail ≡ bytes_in before
      → AreShown files (replay given trail)

-- what a machine answers stands for an outcome of a run that began with this world: `Is` relates what both give
module _ {A T : Type 0} (later : Kinds) (ports : List PortState) (Is : T → A → Type 0) (before : World)
    (outcome : Outcome Store A) (now : MachineState) where
  pub record Gives (found : T) : Type 0 where
    pub value : A
    pub run : Run Store
    pub same : outcome ≡ gives value run
    pub is : Is found value
    pub stands : IsRun later ports now run

  pub record EndsWith (world : World) (end : Outcome Store A) : Type 0 where
    pub same : outcome ≡ end
    pub stands : IsWorld ports now world

  abbrev pub StopsBy : Stop → Type 0
  StopsBy (stop.Halted status) = (world : World) × EndsWith world (ends (halted status) world)
  StopsBy stop.Going = (world : World) × EndsWith world (ends going world)
  StopsBy (stop.Wrong kind) = (world : World) × EndsWith world (errs kind world)
  StopsBy stop.TooDeep = (world : World) × EndsWith world (ends too_deep world)
  StopsBy stop.PortFailed = IsMoment now.files before (world_of outcome)
  StopsBy stop.OutOfMemory = ⊤

  abbrev pub Done : Result T Stop → Type 0
  Done (Ok found) = Gives found
  Done (Err why) = StopsBy why

-- a machine does this: from each run that it stands for, which has at most so many steps left
pub record Does {A T : Type 0} (most : ℕ) (kinds later : Kinds) (Is : T → A → Type 0) (doing : Doing Store A)
    (before now : MachineState) (result : Result T Stop) : Type 0 where
  pub each : (ports : List PortState) (run : Run Store) → IsRun kinds ports before run → run.world.steps ≤ most
      → Done later ports Is run.world (doing run) now result

-- whatever both give
abbrev pub Any : {A T : Type 0} → T → A → Type 0
Any found value = ⊤

-- the same of both; a number as a datum
abbrev pub Same : {A : Type 0} → A → A → Type 0
Same found value = found ≡ value

abbrev pub IsNumber : ℤ → Datum → Type 0
IsNumber found datum = datum ≡ holds found

-- what an answer of the meaning is to the machine
abbrev pub Answers : {A T : Type 0} → (T → A → Type 0) → Answer A → Result T Stop → Type 0
Answers {A} Is answer (Ok found) = (value : A) × (answer ≡ fine value) × Is found value
Answers Is answer (Err (stop.Wrong kind)) = answer ≡ wrong kind
Answers Is answer (Err why) = ⊥

-- the variables after a datum is stored in the part of one at a path
abbrev pub stored_at : Slot → List ℕ → Datum → Store → Store
stored_at slot path datum store = stored (along (home_of slot store) path) datum store

-- a question to a file
abbrev pub asks : {A : Type 0} → ℕ → (File → Answer A) → Doing Store A
asks number question = ask (λ store world. question (file_at number world))
