-- What a call has done of the work that is to be done, and what is left of it.
use Rattle.std.specs.Prelude.{ℕ, List, Bool, true, false, Option, Result, Ok, Err}
use Rattle.wb_base.specs.declared.faults.Fault.{Fault as Flaw}
use Rattle.wb_ports.specs.declared.shelf.FailedCall.{FailedCall}
use Rattle.wb_ports.specs.Files.{Files}
use Rattle.wb_ports.specs.PortState.{PortState}
use Rattle.wb_ports.specs.declared.answers.PortErr.{PortErr}
use Rattle.wb_ports.specs.declared.answers.PortErr.TheVariants.{Failed as failed_call}
use Rattle.wb_ports.specs.declared.answers.PortErr.TheVariants.{OutOfMemory as no_memory_for_call}
use Rattle.web_pool.specs.declared.refusals.PoolTypeErr.{PoolTypeErr}
use Rattle.web_pool.specs.declared.refusals.PoolTypeErr.TheVariants.{Fault as of_pool, Failed as failed_listing}
use Rattle.web_pool.specs.Listing.{listing}
use Rattle.web2c_cli.specs.declared.status.Status.{Status}
use Rattle.web2c_cli.specs.declared.status.Status.TheVariants.{Done, Failed, OutOfMemory as no_memory_found}
use Rattle.web2c_cli.specs.Status.{number_of}
use Rattle.web2c_cli.specs.declared.halt.Stop.{Stop}
use Rattle.web2c_cli.specs.declared.halt.Stop.TheVariants.{Shelf, Console, Port, OutOfMemory}
use Rattle.web2c_cli.specs.declared.halt.Halt.{Halt}
use Rattle.web2c_cli.specs.declared.halt.Halt.TheVariants.{Fault, Stopped}
use Rattle.web2c_cli.specs.CommandLine.{Order}
use Rattle.tangle_core.specs.Work.{Work, loads, does, prints, ends, World, Cause, by_shelf, by_console}
use Rattle.tangle_core.specs.Work.{by_port, by_memory, Ends, Stops}
use Rattle.tangle_core.specs.declared.job.TangleErr.{TangleErr}
use Rattle.tangle_core.specs.declared.job.TangleErr.TheVariants as of_tangling
use Rattle.tangle_core.specs.Job.{Reaches, world_of}
use Rattle.web2c_cli.specs.Program.{refused, tangle_work, telling_no_output, printing_listing}

-- what a failed call of the shelf becomes
abbrev pub stop_by_port : PortErr → Stop
stop_by_port failed_call = Shelf
stop_by_port no_memory_for_call = OutOfMemory

-- what a refusal of tangling becomes
abbrev pub halt_by_tangling : TangleErr → Halt
halt_by_tangling (of_tangling.Fault fault) = Fault fault
halt_by_tangling of_tangling.Failed = Stopped Shelf
halt_by_tangling of_tangling.OutOfMemory = Stopped OutOfMemory

-- the status of a run that ended by itself, or was stopped
abbrev pub status_of : Result Status Stop → Status
status_of (Ok status) = status
status_of (Err Shelf) = Failed
status_of (Err Console) = Failed
status_of (Err Port) = Failed
status_of (Err OutOfMemory) = no_memory_found

-- what a refusal of the listing of a pool becomes
abbrev pub halt_by_listing : PoolTypeErr → Halt
halt_by_listing (of_pool fault) = Fault fault
halt_by_listing failed_listing = Stopped Console

-- whether the shelf stopped the work
abbrev pub is_by_shelf : {T : Type 0} → Result T Stop → Bool
is_by_shelf (Ok value) = false
is_by_shelf (Err Shelf) = true
is_by_shelf (Err Console) = false
is_by_shelf (Err Port) = false
is_by_shelf (Err OutOfMemory) = false

-- whether the console stopped the work
abbrev pub is_by_console : {T : Type 0} → Result T Stop → Bool
is_by_console (Ok value) = false
is_by_console (Err Shelf) = false
is_by_console (Err Console) = true
is_by_console (Err Port) = false
is_by_console (Err OutOfMemory) = false

-- whether a port stopped the work
abbrev pub is_by_port : {T : Type 0} → Result T Stop → Bool
is_by_port (Ok value) = false
is_by_port (Err Shelf) = false
is_by_port (Err Console) = false
is_by_port (Err Port) = true
is_by_port (Err OutOfMemory) = false

-- whether the shelf stopped the work, which a fault of an input does not
abbrev pub is_halted_by_shelf : {T : Type 0} → Result T Halt → Bool
is_halted_by_shelf (Ok value) = false
is_halted_by_shelf (Err (Fault fault)) = false
is_halted_by_shelf (Err (Stopped Shelf)) = true
is_halted_by_shelf (Err (Stopped Console)) = false
is_halted_by_shelf (Err (Stopped Port)) = false
is_halted_by_shelf (Err (Stopped OutOfMemory)) = false

-- whether the console stopped the work, which a fault of an input does not
abbrev pub is_halted_by_console : {T : Type 0} → Result T Halt → Bool
is_halted_by_console (Ok value) = false
is_halted_by_console (Err (Fault fault)) = false
is_halted_by_console (Err (Stopped Shelf)) = false
is_halted_by_console (Err (Stopped Console)) = true
is_halted_by_console (Err (Stopped Port)) = false
is_halted_by_console (Err (Stopped OutOfMemory)) = false

-- whether a port stopped the work, which a fault of an input does not
abbrev pub is_halted_by_port : {T : Type 0} → Result T Halt → Bool
is_halted_by_port (Ok value) = false
is_halted_by_port (Err (Fault fault)) = false
is_halted_by_port (Err (Stopped Shelf)) = false
is_halted_by_port (Err (Stopped Console)) = false
is_halted_by_port (Err (Stopped Port)) = true
is_halted_by_port (Err (Stopped OutOfMemory)) = false

-- whether an input has a fault
abbrev pub is_refused : {T : Type 0} → Result T Halt → Bool
is_refused (Ok value) = false
is_refused (Err (Fault fault)) = true
is_refused (Err (Stopped stop)) = false

-- what stopped the work, with the last failed call of the shelf
abbrev pub cause_of : Stop → Option FailedCall → Cause
cause_of Shelf last = by_shelf last
cause_of Console last = by_console
cause_of Port last = by_port
cause_of OutOfMemory last = by_memory

-- a call did the first part of the work, or the work was stopped in it
abbrev pub Performs : {T : Type 0} → Work → (T → Work) → Result T Stop → Option FailedCall → World → World → Type 0
Performs work rest (Ok value) last before now = Reaches work (rest value) before now
Performs work rest (Err stop) last before now = Stops work (cause_of stop last) before now

-- the same, where all that is left may be to refuse the input
abbrev pub Goes : {T : Type 0} → (Flaw → Work) → Work → (T → Work) → Result T Halt → Option FailedCall → World → World
    → Type 0
Goes refusal work rest (Ok value) last before now = Reaches work (rest value) before now
Goes refusal work rest (Err (Fault fault)) last before now = Reaches work (refusal fault) before now
Goes refusal work rest (Err (Stopped stop)) last before now = Stops work (cause_of stop last) before now

-- the work ended by itself, or was stopped
abbrev pub Concludes : Work → Result Status Stop → Option FailedCall → World → World → Type 0
Concludes work (Ok status) last before now = Ends work (number_of status) before now
Concludes work (Err stop) last before now = Stops work (cause_of stop last) before now

-- the load of a file, whatever else there is
abbrev pub Loading : List ℕ → Result (List ℕ) Stop → Option FailedCall → Option Files → Option Files → Type 0
Loading name result last before now =
    (next : List ℕ → Work) (console : Option (List ℕ)) (ports : List (Option PortState))
    → Performs (loads name next) next result last (world_of before console ports) (world_of now console ports)

-- the tangling of a web with a change file, if there is one
abbrev pub Tangling : Order → Result (Unit {0}) Halt → Option FailedCall → World → World → Type 0
Tangling order result last before now =
    Goes (refused order) (tangle_work order) (λ _. ends (number_of Done)) result last before now

-- the printing of a text
abbrev pub Printing : List ℕ → Result (Unit {0}) Stop → Option (List ℕ) → Option (List ℕ) → Type 0
Printing text result before now =
    (rest : Work) (last : Option FailedCall) (files : Option Files) (ports : List (Option PortState))
    → Performs (does (prints text) rest) (λ _. rest) result last (world_of files before ports)
    (world_of files now ports)

-- what is said of a web without output, where it is so
abbrev pub TellingNoOutput : Bool → Result (Unit {0}) Stop → Option (List ℕ) → Option (List ℕ) → Type 0
TellingNoOutput no_output result before now =
    (rest : Work) (last : Option FailedCall) (files : Option Files) (ports : List (Option PortState))
    → Performs (telling_no_output no_output rest) (λ _. rest) result last (world_of files before ports)
    (world_of files now ports)

-- the printing of a fault's line, which concludes the work
abbrev pub Reporting : Order → Flaw → Result Status Stop → Option (List ℕ) → Option (List ℕ) → Type 0
Reporting order fault result before now =
    (last : Option FailedCall) (files : Option Files) (ports : List (Option PortState))
    → Concludes (refused order fault) result last (world_of files before ports) (world_of files now ports)

-- the printing of the listing of a pool
abbrev pub PrintingListing : List ℕ → Result (Unit {0}) Halt → Option (List ℕ) → Option (List ℕ) → Type 0
PrintingListing pool result before now =
    (order : Order) (last : Option FailedCall) (files : Option Files) (ports : List (Option PortState))
    → Goes (refused order) (printing_listing order (listing pool)) (λ _. ends (number_of Done)) result last
    (world_of files before ports) (world_of files now ports)

-- the load of a pool and the printing of its listing
abbrev pub ListingPool : List ℕ → Result (Unit {0}) Halt → Option FailedCall → World → World → Type 0
ListingPool name result last before now = (order : Order)
    → Goes (refused order) (loads name (λ bytes. printing_listing order (listing bytes)))
    (λ _. ends (number_of Done)) result last before now
