-- What a machine holds, and the run that it stands for. This project's own.
use Rattle.std.specs.Prelude.{◌≡◌, ℕ, ◌<◌, List, [], ◌∷◌, length, map, slice_index_or, Option, Bool, true, false, ⊤}
use Rattle.wb_ports.specs.PortState.{PortState}
use Rattle.wb_ports.specs.Counts.{Rose}
use Rattle.pas_meaning.specs.Files.{File}
use Rattle.pas_meaning.specs.Outcome.{World, Run}
use Rattle.pas_meaning.specs.Store.{Store}
use Rattle.pas_meaning.specs.Standing.{Kinds, Stands}
use Rattle.pas_run.specs.declared.files.FileState.{FileState}
use Rattle.pas_run.specs.RunFiles.{IsFile, Shows}
use Rattle.pas_run.specs.inner.FlatStore.{Activations, flat_store}

-- a file: what is kept of it, what its port tells, and how many calls of that failed
pub record KeptFile : Type 0 where
  pub state : FileState
  pub told : Option PortState
  pub failures : ℕ

pub record MachineState : Type 0 where
  pub activations : Activations
  pub steps : ℕ
  pub calls : ℕ
  pub files : List KeptFile

-- the files of a world, each over the port that was bound so; and the bytes that ports tell
abbrev pub AreFiles : List PortState → List KeptFile → List File → Type 0
AreFiles [] [] [] = ⊤
AreFiles (bound ∷ ports) (kept ∷ others) (file ∷ files) =
    IsFile bound kept.state kept.told file × AreFiles ports others files
AreFiles ports others files = ⊥

abbrev pub AreShown : List KeptFile → List (List ℕ) → Type 0
AreShown [] [] = ⊤
AreShown (kept ∷ others) (bytes ∷ more) = Shows bytes kept.told × AreShown others more
AreShown others more = ⊥

-- a machine stands for a world, and for a run of which the variables are of these kinds
pub record IsWorld (ports : List PortState) (machine : MachineState) (world : World) : Type 0 where
  pub steps : machine.steps ≡ world.steps
  pub calls : machine.calls ≡ world.calls
  pub files : AreFiles ports machine.files world.files

pub record IsRun (kinds : Kinds) (ports : List PortState) (machine : MachineState) (run : Run Store) : Type 0 where
  pub activations : machine.activations ≡ flat_store kinds run.store
  pub stands : Stands kinds run.store
  pub world : IsWorld ports machine run.world

-- the count of failed calls of one port rose; or all are as they were. There are as many files
abbrev pub failures_of : List KeptFile → List ℕ
failures_of files = map (λ kept. kept.failures) files

pub record SomeRose (before now : List KeptFile) : Type 0 where
  pub many : length now ≡ length before
  pub number : ℕ
  pub there : number < length before
  pub rose : Rose (slice_index_or (failures_of before) number 0) (slice_index_or (failures_of now) number 0)

abbrev pub CountFailures : Bool → List KeptFile → List KeptFile → Type 0
CountFailures true before now = SomeRose before now
CountFailures false before now = failures_of now ≡ failures_of before
