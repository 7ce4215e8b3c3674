-- What a call has done of the run of a program, and what is left of it.
use Rattle.std.specs.Prelude.{◌≡◌, ◌⊎◌, ℕ, List, length, Bool, true, false, Option, Some, Result, Ok, Err, ⊤}
use Rattle.wb_base.specs.declared.faults.Fault.{Fault as Flaw}
use Rattle.wb_base.specs.declared.faults.WorkErr.{WorkErr}
use Rattle.wb_base.specs.declared.faults.WorkErr.TheVariants as of_work
use Rattle.wb_ports.specs.Files.{Files}
use Rattle.wb_ports.specs.PortState.{PortState}
use Rattle.wb_ports.specs.declared.shelf.FailedCall.{FailedCall}
use Rattle.pas_typed.specs.Typed.{TypedProgram}
use Rattle.pas_typed.specs.TypedViews.{program_view}
use Rattle.pas_run.specs.declared.answers.End.{End}
use Rattle.pas_run.specs.declared.answers.End.TheVariants as end
use Rattle.pas_run.specs.declared.answers.RunErr.{RunErr}
use Rattle.pas_run.specs.declared.answers.RunErr.TheVariants as run_err
use Rattle.pas_run.specs.WholeRuns.{SomeRose}
use Rattle.tangle_core.specs.Work.{RunEnd, halted, going, error, too_deep, Work, ends, World, PlaysTo, IsCutOff}
use Rattle.tangle_core.specs.Job.{world_of}
use Rattle.web2c_cli.specs.declared.status.Status.{Status}
use Rattle.web2c_cli.specs.declared.status.Status.TheVariants as status
use Rattle.web2c_cli.specs.declared.halt.Stop.{Stop}
use Rattle.web2c_cli.specs.declared.halt.Stop.TheVariants.{Shelf, Console, Port, OutOfMemory}
use Rattle.web2c_cli.specs.declared.halt.Halt.{Halt}
use Rattle.web2c_cli.specs.declared.halt.Halt.TheVariants.{Fault, Stopped}
use Rattle.web2c_cli.specs.declared.ending.Ending.{Ending}
use Rattle.web2c_cli.specs.declared.ending.Ending.TheVariants as ending
use Rattle.web2c_cli.specs.declared.pascal.Pascal.{Pascal as PascalRead}
use Rattle.web2c_cli.specs.Status.{number_of}
use Rattle.web2c_cli.specs.CommandLine.{Order, Request}
use Rattle.web2c_cli.specs.Readings.{Pascal, IsPascal, Readings, AreRight}
use Rattle.web2c_cli.specs.Runs.{play_of, telling_end, NoPortFailed}
use Rattle.web2c_cli.specs.Program.{refused, running, running_read, prun_work, command_work, work_of}
use Rattle.web2c_cli.specs.inner.Reaching.{Performs, Goes, Concludes}

-- what is read, as the definitions have it
abbrev pub pascal_by : PascalRead → Pascal
pascal_by pascal = record { program = program_view pascal.program; line = pascal.line }

-- how a run ended, as the definitions have it
abbrev pub end_by : Ending → RunEnd
end_by (ending.Halted status) = halted status
end_by ending.Going = going
end_by (ending.Error kind) = error kind
end_by ending.TooDeep = too_deep

-- what the answer of a run becomes
abbrev pub ending_of : Result End RunErr → Result Ending Stop
ending_of (Ok (end.Halted status)) = Ok (ending.Halted status)
ending_of (Ok end.Going) = Ok ending.Going
ending_of (Ok (end.Error kind)) = Ok (ending.Error kind)
ending_of (Err run_err.TooDeep) = Ok ending.TooDeep
ending_of (Err run_err.PortFailed) = Err Port
ending_of (Err run_err.OutOfMemory) = Err OutOfMemory

-- what a refusal of a text becomes
abbrev pub halt_by_work : WorkErr → Halt
halt_by_work (of_work.Fault fault) = Fault fault
halt_by_work of_work.OutOfMemory = Stopped OutOfMemory

-- the statuses with which work ends by itself; and those with which the work of a command does, whose inputs have no
-- fault
abbrev pub IsOwn : Status → Type 0
IsOwn status.Failed = ⊥
IsOwn status.OutOfMemory = ⊥
IsOwn other = ⊤

abbrev pub IsWorkDone : Status → Type 0
IsWorkDone status.Refused = ⊥
IsWorkDone status.Usage = ⊥
IsWorkDone other = IsOwn other

-- what the counts of the failed calls of ports say: one rose where a port stopped the work, and else none
abbrev pub CountsPorts : Bool → List ℕ → List ℕ → Type 0
CountsPorts true before now = SomeRose before now
CountsPorts false before now = NoPortFailed before now

-- a program was run over ports, or its run was stopped
abbrev pub Playing : TypedProgram → ℕ → Result Ending Stop → List (Option PortState) → List (Option PortState) → Type 0
Playing program steps (Ok found) before now =
    PlaysTo (length program.files) (play_of program steps) before (end_by found) now
Playing program steps (Err Shelf) before now = ⊥
Playing program steps (Err Console) before now = ⊥
Playing program steps (Err Port) before now = IsCutOff (length program.files) (play_of program steps) before now
Playing program steps (Err OutOfMemory) before now = (now ≡ before) ⊎ (length now ≡ length program.files)

-- the telling of how a run ended, which concludes the work
abbrev pub TellingEnd : ℕ → Ending → Result Status Stop → Option (List ℕ) → Option (List ℕ) → Type 0
TellingEnd steps found result before now =
    (last : Option FailedCall) (files : Option Files) (ports : List (Option PortState))
    → Performs (telling_end steps (end_by found)) (λ status. ends (number_of status)) result last
    (world_of files before ports) (world_of files now ports)

-- the work went on by itself to a status, or no further
abbrev pub GoesToEnd : Order → Work → Result Status Halt → Option FailedCall → World → World → Type 0
GoesToEnd order work result last before now =
    Goes (refused order) work (λ status. ends (number_of status)) result last before now

-- a program was run, if there are ports for its files, and it was told how its run ended
abbrev pub Running : Order → Pascal → Result Status Halt → World → World → Type 0
Running order pascal result before now =
    (last : Option FailedCall) → GoesToEnd order (running order pascal) result last before now

-- a text was read and run; or no memory was found to read it
abbrev pub RunningText : Order → List ℕ → Result Status Halt → World → World → Type 0
RunningText order text result before now =
    ((result ≡ Err (Stopped OutOfMemory)) × (now ≡ before))
    ⊎ ((reading : Result Pascal Flaw) × IsPascal text reading
    × ((last : Option FailedCall) → GoesToEnd order (running_read order (Some reading)) result last before now))

-- a program was loaded, read and run
abbrev pub RunningProgram : Order → Result Status Halt → Option FailedCall → World → World → Type 0
RunningProgram order result last before now =
    (readings : Readings) × AreRight readings × GoesToEnd order (prun_work readings order) result last before now

-- the work of a command
abbrev pub Commanded : Order → Result Status Halt → Option FailedCall → World → World → Type 0
Commanded order result last before now =
    (readings : Readings) × AreRight readings
    × GoesToEnd order (command_work readings order.command order) result last before now

-- the work of a request
abbrev pub ConcludesAs : Request → Result Status Stop → Option FailedCall → World → World → Type 0
ConcludesAs request result last before now =
    (readings : Readings) × AreRight readings × Concludes (work_of readings request) result last before now
