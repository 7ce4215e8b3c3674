-- The program: what is done for each request, in its order. The order of work, the statuses, the console texts and the
-- names of the files are this project's own.
use Rattle.std.specs.Prelude.{ℕ, nat_lt, if◌then◌else◌, Bool, true, false, List, [], ◌∷◌, ◌++◌, length, codes, Option}
use Rattle.std.specs.Prelude.{Some, None, unwrap_or, Result, Ok, Err}
use Rattle.wb_base.specs.declared.places.FileTag.{FileTag}
use Rattle.wb_base.specs.declared.places.FileTag.TheVariants.{Web, Change, Pool, Pas, Header, Code}
use Rattle.wb_base.specs.declared.faults.Fault.{Fault}
use Rattle.wb_base.specs.declared.faults.TheConstants.{FILE_RULE}
use Rattle.wb_base.specs.ConsoleLine.{console_line}
use Rattle.wb_base.specs.FaultAt.{fault_at}
use Rattle.web2c_cli.specs.declared.command_table.Command.{Command}
use Rattle.web2c_cli.specs.declared.command_table.Command.TheVariants.{Tangle, Pooltype, Prun}
use Rattle.web2c_cli.specs.declared.status.Status.TheVariants.{Done, Refused, Usage}
use Rattle.web2c_cli.specs.Status.{number_of}
use Rattle.web2c_cli.specs.FileNames.{base_of, output_name, pascal_name, code_name}
use Rattle.web2c_cli.specs.CommandLine.{Names, Order, Request, ordered, usage, usage_line, options_by_settings}
use Rattle.web2c_cli.specs.CommandLine.{steps_by_settings}
use Rattle.web2c_cli.specs.Readings.{Pascal, Readings, AreRight}
use Rattle.web2c_cli.specs.Runs.{play_of, telling_end}
use Rattle.web_pool.specs.Listing.{Listing, listing}
use Rattle.tangle_core.specs.declared.job.Job.{Job}
use Rattle.tangle_core.specs.Outcome.{Output}
use Rattle.tangle_core.specs.Work.{Work, loads, asks, plays, does, prints, ends, unknown, World, Cause, Ends, Stops}
use Rattle.tangle_core.specs.Job.{Going_on, tangling}

-- the name that is printed with a fault in a file: the word that was given for it, or the name of the output
abbrev pub file_name : Command → Names → FileTag → List ℕ
file_name Tangle names Web = names.first
file_name Tangle names Change = unwrap_or names.second names.first
file_name Tangle names Pool = output_name names.first (codes ".pool")
file_name Tangle names Pas = pascal_name names.first
file_name Tangle names Header = output_name names.first (codes ".h")
file_name Tangle names (Code number) = code_name names.first number
file_name Pooltype names tag = names.first
file_name Prun names tag = names.first

-- the line that reports a fault, with its byte 10
abbrev pub fault_line : Order → Fault → List ℕ
fault_line order fault = console_line fault (file_name order.command order.names fault.file) ++ 10 ∷ []

-- what is done where an input has a fault: its line is printed
abbrev pub refused : Order → Fault → Work
refused order fault = does (prints (fault_line order fault)) (ends (number_of Refused))

-- what the command line asks to tangle
abbrev pub job_of : Order → Job
job_of order = record {
  web = order.names.first;
  change = order.names.second;
  base = base_of order.names.first;
  options = options_by_settings order.settings;
}

-- the line that tells that a web has no Pascal text without a name, with its byte 10
abbrev pub no_output_line : List ℕ
no_output_line = codes "! No output was specified." ++ 10 ∷ []

-- that is told, where it is so
abbrev pub telling_no_output : Bool → Work → Work
telling_no_output true rest = does (prints no_output_line) rest
telling_no_output false rest = rest

-- how tangling goes on: at a fault it is refused; else the work goes on with what was tangled
abbrev pub going_on : Order → (Output → Work) → Going_on
going_on order next = record {
  at_fault = refused order;
  at_end = λ output. telling_no_output output.no_output (next output);
}

-- the work of `tangle`
abbrev pub tangle_work : Order → Work
tangle_work order = tangling (job_of order) (going_on order (λ output. ends (number_of Done)))

-- the fault is reported, or there is none and the work is done
abbrev pub refused_by : Order → Option Fault → Work
refused_by order None = ends (number_of Done)
refused_by order (Some fault) = refused order fault

-- a listing is printed, and then its fault is reported, if it has one
abbrev pub printing_listing : Order → Listing → Work
printing_listing order wanted = does (prints wanted.text) (refused_by order wanted.fault)

-- the work of `pooltype`
abbrev pub pooltype_work : Order → Work
pooltype_work order = loads order.names.first (λ bytes. printing_listing order (listing bytes))

-- a program is run over a port for each of its files, and how it ended is told; where there are fewer ports, its first
-- line has a fault
abbrev pub running : Order → Pascal → Work
running order pascal =
    let files = length pascal.program.files in
    let steps = steps_by_settings order.settings in
    asks (λ ports. if nat_lt ports files
    then refused order (fault_at FILE_RULE (record { file = Pas; line = pascal.line }))
    else plays files (play_of pascal.program steps) (telling_end steps))

-- a text that was read is run, if it has no fault
abbrev pub running_read : Order → Option (Result Pascal Fault) → Work
running_read order None = unknown
running_read order (Some (Err fault)) = refused order fault
running_read order (Some (Ok pascal)) = running order pascal

-- the work of `prun`
abbrev pub prun_work : Readings → Order → Work
prun_work readings order = loads order.names.first (λ text. running_read order (readings text))

-- what each command does
abbrev pub command_work : Readings → Command → Order → Work
command_work readings Tangle order = tangle_work order
command_work readings Pooltype order = pooltype_work order
command_work readings Prun order = prun_work readings order

-- what the program does for a request
abbrev pub work_of : Readings → Request → Work
work_of readings (ordered order) = command_work readings order.command order
work_of readings usage = does (prints usage_line) (ends (number_of Usage))

-- the work of a request ended by itself with this status
abbrev pub EndsAs : Request → ℕ → World → World → Type 0
EndsAs request status before now =
    (readings : Readings) × AreRight readings × Ends (work_of readings request) status before now

-- the work of a request was stopped by this cause
abbrev pub StopsBy : Request → Cause → World → World → Type 0
StopsBy request cause before now =
    (readings : Readings) × AreRight readings × Stops (work_of readings request) cause before now
