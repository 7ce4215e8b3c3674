-- How a trial ends where a machine stops, which was at its start. This project's own.
use Rattle.std.specs.Prelude.{◌≡◌, ℕ, List, [], ◌∷◌, Option, Some, None, Contains, ⊤}
use Rattle.std.specs.Prelude.{slice_index_or, slice_set}
use Rattle.wb_ports.specs.Counts.{next_count, grown}
use Rattle.wb_ports.specs.Held.{WhereTold, Becomes}
use Rattle.wb_ports.specs.PortState.{PortState, finished_port}
use Rattle.pas_meaning.specs.Files.{File}
use Rattle.pas_meaning.specs.Outcome.{World, halted, going, too_deep, moments}
use Rattle.pas_meaning.specs.Trial as trial
use Rattle.pas_run.specs.declared.ends.Stop.{Stop}
use Rattle.pas_run.specs.declared.ends.Stop.TheVariants as stop
use Rattle.pas_run.specs.inner.MachineState.{KeptFile, MachineState, AreShown, IsWorld}
use Rattle.pas_run.specs.inner.Doings.{IsMoment}

-- a trial that began with this world ends so, and the files hold then what it says; or a moment of it
abbrev pub EndsAs : List PortState → World → trial.Result → MachineState → Stop → Type 0
EndsAs ports first result now (stop.Halted status) =
    (result.ending ≡ trial.ended (halted status)) × IsWorld ports now result.world
EndsAs ports first result now stop.Going = (result.ending ≡ trial.ended going) × IsWorld ports now result.world
EndsAs ports first result now (stop.Wrong kind) = (result.ending ≡ trial.error kind) × IsWorld ports now result.world
EndsAs ports first result now stop.TooDeep = (result.ending ≡ trial.ended too_deep) × IsWorld ports now result.world
EndsAs ports first result now stop.PortFailed = IsMoment now.files first result.world
EndsAs ports first result now stop.OutOfMemory = ⊤

-- a file is as it was, with its port finished once more; so is each; and so is the one with this number
abbrev pub IsFinished : KeptFile → KeptFile → Type 0
IsFinished before now = (now.state ≡ before.state) × WhereTold (Becomes finished_port) before.told now.told

abbrev pub AreFinished : List KeptFile → List KeptFile → Type 0
AreFinished [] [] = ⊤
AreFinished (before ∷ others) (now ∷ files) = IsFinished before now × AreFinished others files
AreFinished others files = ⊥

pub record IsFinishedAt (number : ℕ) (before now : List KeptFile) : Type 0 where
  pub new : KeptFile
  pub finished : IsFinished (slice_index_or before number new) new
  pub same : now ≡ slice_set before number new

-- a port that was bound so, behind a run in which its file came to this
abbrev pub IsFinishedFile : PortState → Option PortState → File → Type 0
IsFinishedFile bound None file = ⊥
IsFinishedFile bound (Some port) file =
    (port.name ≡ bound.name) × (port.bytes ≡ file.bytes) × (port.finishes ≡ next_count bound.finishes)
    × (port.starts ≡ grown file.starts bound.starts)

abbrev pub AreFinishedFiles : List PortState → List KeptFile → List File → Type 0
AreFinishedFiles [] [] [] = ⊤
AreFinishedFiles (bound ∷ ports) (kept ∷ others) (file ∷ files) =
    IsFinishedFile bound kept.told file × AreFinishedFiles ports others files
AreFinishedFiles ports others files = ⊥

-- the ports tell what the files held at a moment of a trial on these bytes
pub record IsCutOff (given : List (List ℕ)) (result : trial.Result) (files : List KeptFile) : Type 0 where
  pub held : List (List ℕ)
  pub among : Contains (moments given result.world.trail) held
  pub shown : AreShown files held

-- a trial on these bytes ends so, and its ports are finished; or a failed call cut it off
abbrev pub EndsFinished : List PortState → List (List ℕ) → trial.Result → MachineState → Stop → Type 0
EndsFinished ports given result now (stop.Halted status) =
    (result.ending ≡ trial.ended (halted status)) × AreFinishedFiles ports now.files result.world.files
EndsFinished ports given result now stop.Going =
    (result.ending ≡ trial.ended going) × AreFinishedFiles ports now.files result.world.files
EndsFinished ports given result now (stop.Wrong kind) =
    (result.ending ≡ trial.error kind) × AreFinishedFiles ports now.files result.world.files
EndsFinished ports given result now stop.TooDeep =
    (result.ending ≡ trial.ended too_deep) × AreFinishedFiles ports now.files result.world.files
EndsFinished ports given result now stop.PortFailed = IsCutOff given result now.files
EndsFinished ports given result now stop.OutOfMemory = ⊤
