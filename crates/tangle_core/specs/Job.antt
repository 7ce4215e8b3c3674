-- The tangle job as work over the files: what is loaded, what is left, and how it goes on. The order of work and the
-- names of the files are this project's own.
use Rattle.std.specs.Prelude.{◌≡◌, ℕ, List, [], ◌∷◌, ◌++◌, length, codes, Bool, true, false, Option, Some, None}
use Rattle.std.specs.Prelude.{Result, Ok, Err}
use Rattle.wb_base.specs.declared.faults.Fault.{Fault as Flaw}
use Rattle.wb_ports.specs.Files.{Files}
use Rattle.wb_ports.specs.PortState.{PortState}
use Rattle.wb_ports.specs.declared.shelf.FailedCall.{FailedCall}
use Rattle.tangle_out.specs.Packing.{text_of_lines}
use Rattle.tangle_core.specs.declared.job.Job.{Job}
use Rattle.tangle_core.specs.declared.job.Done.{Done}
use Rattle.tangle_core.specs.declared.job.TangleErr.{TangleErr}
use Rattle.tangle_core.specs.declared.job.TangleErr.TheVariants.{Fault, Failed, OutOfMemory}
use Rattle.tangle_core.specs.Outcome.{Output, Outcome, refused, broken, done, outcome_of}
use Rattle.tangle_core.specs.Work.{Work, loads, does, leaves, World, by_shelf, by_memory, Ends, Stops, Cause}

-- the names of the Pascal file and of the pool
abbrev pub pascal_name : List ℕ → List ℕ
pascal_name base = base ++ codes ".p"

abbrev pub pool_name : List ℕ → List ℕ
pool_name base = base ++ codes ".pool"

-- how the work goes on at a fault, and where the job is done
pub record Going_on : Type 0 where
  pub at_fault : Flaw → Work
  pub at_end : Output → Work

-- a change file is loaded, if there is one; else it is empty
abbrev pub loads_change : Option (List ℕ) → (List ℕ → Work) → Work
loads_change None next = next []
loads_change (Some name) next = loads name next

-- the pool is left, if it is not empty
abbrev pub leaves_pool : List ℕ → List ℕ → Work → Work
leaves_pool name [] rest = rest
leaves_pool name (byte ∷ bytes) rest = does (leaves name (byte ∷ bytes)) rest

-- what tangling comes to is left: the Pascal file, whole or with the lines finished before the fault, and then the pool
abbrev pub leaves_outcome : List ℕ → Going_on → Outcome → Work
leaves_outcome base on (refused fault) = on.at_fault fault
leaves_outcome base on (broken lines fault) =
    does (leaves (pascal_name base) (text_of_lines lines)) (on.at_fault fault)
leaves_outcome base on (done output) =
    does (leaves (pascal_name base) (text_of_lines output.lines))
    (leaves_pool (pool_name base) output.pool (on.at_end output))

-- the web and the change file are loaded, and what they come to is left
abbrev pub tangling : Job → Going_on → Work
tangling job on =
    loads job.web (λ web. loads_change job.change (λ change.
    leaves_outcome job.base on (outcome_of web change job.options)))

-- what is said of the rest from the world in the middle holds of the work from the world before
pub record Reaches (work rest : Work) (before mid : World) : Type 0 where
  pub ends : (status : ℕ) (now : World) → Ends rest status mid now → Ends work status before now
  pub stops : (cause : Cause) (now : World) → Stops rest cause mid now → Stops work cause before now

-- what is told of the output
pub record Tells (made : Done) (output : Output) : Type 0 where
  pub lines : made.lines ≡ length output.lines
  pub strings : made.strings ≡ output.strings
  pub no_output : made.no_output ≡ output.no_output

-- the job was done, and the rest is left to do; or what comes at its fault; or a call of the shelf that failed, or want
-- of memory, stopped it. Memory is wanted before an act only: it cannot stop the job behind a file that was left up to
-- a fault, whatever comes at the fault.
abbrev pub Tangles : Job → Going_on → Result Done TangleErr → Option FailedCall → World → World → Type 0
Tangles job on (Ok made) last before now =
    (output : Output) × (Tells made output × Reaches (tangling job on) (on.at_end output) before now)
Tangles job on (Err (Fault fault)) last before now = Reaches (tangling job on) (on.at_fault fault) before now
Tangles job on (Err Failed) last before now = Stops (tangling job on) (by_shelf last) before now
Tangles job on (Err OutOfMemory) last before now = Stops (tangling job on) by_memory before now

-- the world of a shelf, a console and ports
abbrev pub world_of : Option Files → Option (List ℕ) → List (Option PortState) → World
world_of files console ports = record { files = files; console = console; ports = ports }

-- whether a call of the shelf failed
abbrev pub is_failed_job : {T : Type 0} → Result T TangleErr → Bool
is_failed_job (Ok value) = false
is_failed_job (Err (Fault fault)) = false
is_failed_job (Err Failed) = true
is_failed_job (Err OutOfMemory) = false
