-- What the parts of the job have done of the work, and what is left of it. No public contract cites this.
use Rattle.std.specs.Prelude.{ℕ, List, Option, Result, Ok, Err}
use Rattle.wb_ports.specs.Files.{Files}
use Rattle.wb_ports.specs.PortState.{PortState}
use Rattle.wb_ports.specs.declared.shelf.FailedCall.{FailedCall}
use Rattle.web_scan.specs.Scanned.{Scanned}
use Rattle.tangle_core.specs.declared.job.TangleErr.{TangleErr}
use Rattle.tangle_core.specs.declared.job.TangleErr.TheVariants.{Fault, Failed, OutOfMemory}
use Rattle.tangle_core.specs.Work.{Work, loads, does, leaves, World, by_shelf, by_memory, Stops}
use Rattle.tangle_core.specs.Job.{Going_on, Reaches, loads_change, world_of}

-- a part of the job did the first part of the work; or there is a fault, and what comes at it is left; or a call of the
-- shelf that failed, or want of memory, stopped it
abbrev pub Goes : {T : Type 0} → Work → Going_on → (T → Work) → Result T TangleErr → Option FailedCall → World → World
    → Type 0
Goes work on rest (Ok value) last before now = Reaches work (rest value) before now
Goes work on rest (Err (Fault fault)) last before now = Reaches work (on.at_fault fault) before now
Goes work on rest (Err Failed) last before now = Stops work (by_shelf last) before now
Goes work on rest (Err OutOfMemory) last before now = Stops work by_memory before now

-- the load of a file
abbrev pub Loading : List ℕ → Result (List ℕ) TangleErr → Option FailedCall → Option Files → Option Files → Type 0
Loading name result last before now =
    (on : Going_on) (next : List ℕ → Work) (console : Option (List ℕ)) (ports : List (Option PortState))
    → Goes (loads name next) on next result last (world_of before console ports) (world_of now console ports)

-- the load of a change file, if there is one
abbrev pub LoadingChange : Option (List ℕ) → Result (List ℕ) TangleErr → Option FailedCall → Option Files
    → Option Files → Type 0
LoadingChange change result last before now =
    (on : Going_on) (next : List ℕ → Work) (console : Option (List ℕ)) (ports : List (Option PortState))
    → Goes (loads_change change next) on next result last (world_of before console ports) (world_of now console ports)
