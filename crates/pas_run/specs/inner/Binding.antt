-- What is made of the ports of a program before its first step, and what is there then. This project's own.
use Rattle.std.specs.Prelude.{◌≡◌, ◌≤◌, ℕ, List, [], ◌∷◌, length, map, Option, None, Result, Ok, Err, ⊤}
use Rattle.wb_ports.specs.Held.{WhereTold, Becomes}
use Rattle.wb_ports.specs.PortState.{PortState, named_port}
use Rattle.wb_ports.specs.declared.port.TheConstants.{PORT_NAME_LIMIT}
use Rattle.pas_typed.specs.Types.{text, same_type}
use Rattle.pas_typed.specs.Typed.{Variable, TypedProgram}
use Rattle.pas_meaning.specs.Standing.{kinds_at_start}
use Rattle.pas_meaning.specs.Trial.{parameters_of, cells_from}
use Rattle.pas_run.specs.declared.answers.End.{End}
use Rattle.pas_run.specs.declared.answers.End.TheVariants as end
use Rattle.pas_run.specs.declared.answers.RunErr.{RunErr}
use Rattle.pas_run.specs.declared.answers.RunErr.TheVariants as failure
use Rattle.pas_run.specs.declared.ends.Stop.{Stop}
use Rattle.pas_run.specs.declared.ends.Stop.TheVariants as stop
use Rattle.pas_run.specs.declared.files.FileState.{FileState}
use Rattle.pas_run.specs.declared.files.Ahead.TheVariants.{Unknown}
use Rattle.pas_run.specs.declared.files.Usage.TheVariants.{Unused}
use Rattle.pas_run.specs.inner.FlatStore.{Activations, flat_row}

-- the name of a file is one that a port may have
abbrev pub HasPortName : Variable → Type 0
HasPortName found = length found.name ≤ PORT_NAME_LIMIT

-- each port is told the name of its file
abbrev pub AreBound : List Variable → List (Option PortState) → List (Option PortState) → Type 0
AreBound [] [] [] = ⊤
AreBound (found ∷ parameters) (before ∷ others) (now ∷ tells) =
    WhereTold (Becomes (named_port found.name)) before now × AreBound parameters others tells
AreBound parameters others tells = ⊥

-- what is kept of a file that is not in use yet
abbrev pub state_at_start : Variable → FileState
state_at_start found = record {
  is_text = same_type found.type text;
  usage = Unused;
  ahead = Unknown;
  last = None;
  buffer = None;
}

-- the cells of the program's activation at the start
abbrev pub activations_at_start : TypedProgram → Activations
activations_at_start program =
    flat_row (kinds_at_start program) (cells_from program 0 program.globals) ∷ []

-- the answer of a run that stops so
abbrev pub answer_by : Stop → Result End RunErr
answer_by (stop.Halted status) = Ok (end.Halted status)
answer_by stop.Going = Ok end.Going
answer_by (stop.Wrong kind) = Ok (end.Error kind)
answer_by stop.TooDeep = Err failure.TooDeep
answer_by stop.PortFailed = Err failure.PortFailed
answer_by stop.OutOfMemory = Err failure.OutOfMemory
