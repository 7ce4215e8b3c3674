-- What a run of a program over ports answers, and what the ports tell behind it. This project's own.
use Rattle.std.specs.Prelude.{◌≡◌, ◌⊎◌, ℕ, ◌<◌, List, [], ◌∷◌, length, map, slice_index_or, Option, Some, None, Result}
use Rattle.std.specs.Prelude.{Ok, Err, Bool, true, false, Contains, ⊤}
use Rattle.wb_ports.specs.Counts.{Rose, next_count, grown}
use Rattle.wb_ports.specs.PortState.{PortState}
use Rattle.pas_typed.specs.Typed.{Variable, TypedProgram}
use Rattle.pas_meaning.specs.Outcome.{halted, going, too_deep}
use Rattle.pas_meaning.specs.Trial as trial
use Rattle.pas_meaning.specs.Trial.{Ending, Told, Report, parameters_of, report_of, pascal_trial, pascal_moments}
use Rattle.pas_run.specs.declared.answers.End.{End}
use Rattle.pas_run.specs.declared.answers.End.TheVariants as end
use Rattle.pas_run.specs.declared.answers.RunErr.{RunErr}
use Rattle.pas_run.specs.declared.answers.RunErr.TheVariants as failure

-- the answer of a run that ends so
abbrev pub answer_of : Ending → Result End RunErr
answer_of (trial.ended (halted status)) = Ok (end.Halted status)
answer_of (trial.ended going) = Ok end.Going
answer_of (trial.ended too_deep) = Err failure.TooDeep
answer_of (trial.error kind) = Ok (end.Error kind)

-- a port behind a run, which told this before it: it bears the name of its file, holds what the file holds, was
-- finished once more, and was started as often more as the file was reset or rewritten
pub record IsBehind (found : Variable) (before : PortState) (file : Told) (now : PortState) : Type 0 where
  pub name : now.name ≡ found.name
  pub bytes : now.bytes ≡ file.bytes
  pub finishes : now.finishes ≡ next_count before.finishes
  pub starts : now.starts ≡ grown file.starts before.starts

abbrev pub AreBehind : List Variable → List PortState → List Told → List (Option PortState) → Type 0
AreBehind [] [] [] [] = ⊤
AreBehind (found ∷ parameters) (before ∷ ports) (file ∷ files) (Some now ∷ tells) =
    IsBehind found before file now × AreBehind parameters ports files tells
AreBehind parameters ports files tells = ⊥

-- ports that tell these bytes
abbrev pub Hold : List (List ℕ) → List (Option PortState) → Type 0
Hold [] [] = ⊤
Hold (bytes ∷ files) (Some now ∷ tells) = (now.bytes ≡ bytes) × Hold files tells
Hold files tells = ⊥

module _ (program : TypedProgram) (ports : List PortState) (steps : ℕ) where
  abbrev pub given : List (List ℕ)
  given = map (λ port. port.bytes) ports

  abbrev pub report : Report
  report = report_of (pascal_trial program given steps)

  -- a run that comes to an end: it is the trial's, and so are the ports then
  pub record Ends (result : Result End RunErr) (tells : List (Option PortState)) : Type 0 where
    pub answer : result ≡ answer_of report.ending
    pub behind : AreBehind (parameters_of program) ports report.files tells

  -- a run that a port stopped: the ports hold what the files held at a moment of the trial
  pub record IsCutOff (tells : List (Option PortState)) : Type 0 where
    pub files : List (List ℕ)
    pub among : Contains (pascal_moments program given steps) files
    pub hold : Hold files tells

  -- what a run answers where these ports told before it, and what they tell then; without memory nothing is said
  abbrev pub Reports : Result End RunErr → List (Option PortState) → Type 0
  Reports (Err failure.PortFailed) tells = IsCutOff tells
  Reports (Err failure.OutOfMemory) tells = ⊤
  Reports result tells = Ends result tells

-- the list holds the ports of so many files then, or where no memory was found is as it was
abbrev pub KeepsPorts : {P : Type 0} → Result End RunErr → ℕ → List P → List P → Type 0
KeepsPorts (Err failure.OutOfMemory) count before now = (now ≡ before) ⊎ (length now ≡ count)
KeepsPorts result count before now = length now ≡ count

-- the count of failed calls of one port rose where a port stopped the run; else all are as they were
abbrev pub is_stopped_by_port : Result End RunErr → Bool
is_stopped_by_port (Err failure.PortFailed) = true
is_stopped_by_port result = false

pub record SomeRose (before now : List ℕ) : Type 0 where
  pub number : ℕ
  pub there : number < length before
  pub rose : Rose (slice_index_or before number 0) (slice_index_or now number 0)

abbrev pub CountsFailures : Bool → List ℕ → List ℕ → Type 0
CountsFailures true before now = SomeRose before now
CountsFailures false before now = now ≡ before
