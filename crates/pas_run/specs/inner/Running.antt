-- What functions of a machine do of statements: what the meaning does, from each scene in which they are lawful. This
-- project's own.
use Rattle.std.specs.Prelude.{◌≡◌, ℕ, ℤ, List, Option, Some, None, Result, Ok, Err}
use Rattle.pas_syntax.specs.declared.operators.Way.{Way}
use Rattle.pas_typed.specs.Types.{PasType, range_of}
use Rattle.pas_typed.specs.Typed as typed
use Rattle.pas_typed.specs.Typed.{FileStep, Variable, Slot, Value, Place, Passed, Item, Statement, Statements}
use Rattle.pas_typed.specs.Typed.{Arms, TypedProgram}
use Rattle.pas_typed.specs.TypeOf.{type_of_place}
use Rattle.pas_typed.specs.TypedViews.{slot_view, value_view, program_view}
use Rattle.pas_typed.specs.Lawful.{IsLawfulStatement, AreLawful, AreLawfulArms, IsLawfulFile, IsLawfulTarget}
use Rattle.pas_typed.specs.Lawful.{IsLawfulNumber, IsLawfulItem}
use Rattle.pas_meaning.specs.declared.errors.TheConstants.{CALL_LIMIT}
use Rattle.pas_meaning.specs.Files as files
use Rattle.pas_meaning.specs.Outcome.{Doing, pure, ◌>>=◌, ◌>>◌, answered, change, take_step}
use Rattle.pas_meaning.specs.FileSteps.{change_file, append}
use Rattle.pas_meaning.specs.Store.{Datum, holds, Store, home_of, stored, fits}
use Rattle.pas_meaning.specs.Operands.{operand}
use Rattle.pas_meaning.specs.Run as meaning
use Rattle.pas_meaning.specs.Run.{Flow, Entry, Doings, start, within, file_variable, on_file, with_result}
use Rattle.pas_meaning.specs.Run.{components_of}
use Rattle.pas_meaning.specs.Standing.{Kinds}
use Rattle.pas_run.specs.declared.ends.Flow.{Flow as CodeFlow}
use Rattle.pas_run.specs.declared.ends.Flow.TheVariants as code
use Rattle.pas_run.specs.declared.ends.Stop.{Stop}
use Rattle.pas_run.specs.declared.layouts.Scene.{Scene}
use Rattle.pas_run.specs.declared.loops.Loop.{Loop as CodeLoop}
use Rattle.pas_run.specs.declared.loops.Loop.TheVariants as loops
use Rattle.pas_run.specs.declared.loops.Turn.{Turn as CodeTurn}
use Rattle.pas_run.specs.declared.loops.Turn.TheVariants as turns
use Rattle.pas_run.specs.inner.MachineState.{MachineState}
use Rattle.pas_run.specs.inner.Doings.{Any, Does}
use Rattle.pas_run.specs.inner.Scenes.{IsScene, IsFileSlot}
use Rattle.pas_run.specs.inner.Evaluating.{value_of}

-- how a statement goes on, as the code has it
abbrev pub flow_view : CodeFlow → Flow
flow_view code.Next = meaning.next
flow_view code.Leaves = meaning.leaves
flow_view (code.Jump label) = meaning.jump label

abbrev pub IsFlow : CodeFlow → Flow → Type 0
IsFlow found flow = flow ≡ flow_view found

-- what a statement does that is entered there, with so many steps left at most; and a list from its begin or a label on
abbrev pub statement_of : TypedProgram → ℕ → Entry → Statement → Doing Store Flow
statement_of program most = meaning.statement (Some CALL_LIMIT) program (within (Some CALL_LIMIT) program most)

abbrev pub list_of : TypedProgram → ℕ → Option ℕ → Statements → Doing Store Flow
list_of program most = meaning.items (Some CALL_LIMIT) program (within (Some CALL_LIMIT) program most)

-- a function does what a lawful tree means, which is told by `doing` for so many steps
abbrev pub RunsBy : {A T : Type 0} → Scene → (List Variable → Option PasType → Type 0) → (T → A → Type 0)
    → (ℕ → Doing Store A) → MachineState → MachineState → Result T Stop → Type 0
RunsBy scene IsTree Is doing before now result =
    (variables : List Variable) (result' : Option PasType) (kinds : Kinds) → IsScene scene variables result' kinds
    → IsTree variables result' → (most : ℕ) → Does most kinds kinds Is (doing most) before now result

-- what a statement does that is entered there, or at its begin; and a list
abbrev pub RunsFrom : Scene → Entry → Statement → MachineState → MachineState → Result CodeFlow Stop → Type 0
RunsFrom scene entry found =
    RunsBy scene (λ variables result. IsLawfulStatement (program_view scene.program.now) variables result found) IsFlow
    (λ most. statement_of (program_view scene.program.now) most entry found)

abbrev pub Runs : Scene → Statement → MachineState → MachineState → Result CodeFlow Stop → Type 0
Runs scene found = RunsFrom scene start found

abbrev pub RunsList : Scene → Option ℕ → Statements → MachineState → MachineState → Result CodeFlow Stop → Type 0
RunsList scene from list =
    RunsBy scene (λ variables result. AreLawful (program_view scene.program.now) variables result list) IsFlow
    (λ most. list_of (program_view scene.program.now) most from list)

-- from a machine on the one thing does what the other does from a later one on, whatever that is
pub record LeadsTo {A T : Type 0} (kinds : Kinds) (Is : T → A → Type 0) (doing rest : ℕ → Doing Store A)
    (before now : MachineState) : Type 0 where
  pub each : (end : MachineState) (result : Result T Stop)
      → ((most : ℕ) → Does most kinds kinds Is (rest most) now end result)
      → (most : ℕ) → Does most kinds kinds Is (doing most) before end result

-- a statement that did not stop goes on behind itself
abbrev pub next_behind : Result (Unit {0}) Stop → Result CodeFlow Stop
next_behind (Ok done) = Ok code.Next
next_behind (Err why) = Err why

-- v := what is given, and v := e
abbrev pub assigned_to : TypedProgram → ℕ → Place → Datum → Doing Store (Unit {0})
assigned_to program most = meaning.assigned (Some CALL_LIMIT) program (within (Some CALL_LIMIT) program most)

abbrev pub Stores : Scene → Place → ℤ → MachineState → MachineState → Result (Unit {0}) Stop → Type 0
Stores scene place number =
    RunsBy scene (λ variables result. IsLawfulTarget (program_view scene.program.now) variables place) Any
    (λ most. assigned_to (program_view scene.program.now) most place (holds number))

abbrev pub Assigns : Scene → Place → Value → MachineState → MachineState → Result (Unit {0}) Stop → Type 0
Assigns scene place right =
    RunsBy scene
    (λ variables result.
    IsLawfulStatement (program_view scene.program.now) variables result (typed.assigns place right)) Any (λ most. value_of (program_view scene.program.now) most right
    >>= assigned_to (program_view scene.program.now) most place)

-- the same where v is an array or a record
abbrev pub AssignsWhole : Scene → Place → Value → MachineState → MachineState → Result (Unit {0}) Stop → Type 0
AssignsWhole scene place right before now result =
    range_of (program_view scene.program.now).types (type_of_place place) ≡ None
    → Assigns scene place right before now result

-- the result of a function, in the cell with this number
abbrev pub SetsResult : Scene → ℕ → PasType → Value → MachineState → MachineState → Result (Unit {0}) Stop → Type 0
SetsResult scene cell type right =
    RunsBy scene (λ variables result.
    IsLawfulStatement (program_view scene.program.now) variables result (typed.sets_result cell type right)) Any
    (λ most. operand (fits (program_view scene.program.now).types type)
    (value_of (program_view scene.program.now) most right) >>= (λ datum. change (with_result cell datum)))

-- a call of a procedure
abbrev pub Calls : Scene → ℕ → Passed → MachineState → MachineState → Result (Unit {0}) Stop → Type 0
Calls scene routine passed =
    RunsBy scene
    (λ variables result.
    IsLawfulStatement (program_view scene.program.now) variables result (typed.calls routine passed)) Any (λ most. meaning.arguments_of (Some CALL_LIMIT) (program_view scene.program.now)
    (within (Some CALL_LIMIT) (program_view scene.program.now) most) passed
    >>= meaning.call (Some CALL_LIMIT) (program_view scene.program.now)
    (within (Some CALL_LIMIT) (program_view scene.program.now) most) routine)

-- a step of the file that a variable is, or a place
abbrev pub step_of : TypedProgram → ℕ → FileStep → ℕ → Doing Store (Unit {0})
step_of program most = meaning.file_step (Some CALL_LIMIT) program (within (Some CALL_LIMIT) program most)

abbrev pub StepsSlot : Scene → FileStep → Slot → MachineState → MachineState → Result (Unit {0}) Stop → Type 0
StepsSlot scene step slot =
    RunsBy scene (λ variables result. IsFileSlot (program_view scene.program.now) variables slot) Any
    (λ most. on_file slot (step_of (program_view scene.program.now) most step))

abbrev pub Steps : Scene → FileStep → Place → MachineState → MachineState → Result (Unit {0}) Stop → Type 0
Steps scene step place =
    RunsBy scene (λ variables result. IsLawfulFile (program_view scene.program.now) variables place) Any
    (λ most. answered (file_variable place)
    >>= (λ file. on_file file (step_of (program_view scene.program.now) most step)))

-- v := e, where v is of an ordinal type
abbrev pub AssignsNumber : Scene → Place → Value → MachineState → MachineState → Result (Unit {0}) Stop → Type 0
AssignsNumber scene place right =
    RunsBy scene (λ variables result. IsLawfulTarget (program_view scene.program.now) variables place
    × IsLawfulNumber (program_view scene.program.now) variables right)
    Any (λ most. value_of (program_view scene.program.now) most right
    >>= assigned_to (program_view scene.program.now) most place)

-- the statement that a number chooses of the elements of a `case`
pub record ChoosesNone (number : ℤ) (arms : Arms) : Type 0 where
  pub same : (program : TypedProgram) (below : Doings) (otherwise : Doing Store Flow)
      → meaning.arm (Some CALL_LIMIT) program below number arms otherwise ≡ otherwise

pub record ChoosesOne (number : ℤ) (arms : Arms) (found : Statement) : Type 0 where
  pub same : (program : TypedProgram) (below : Doings) (otherwise : Doing Store Flow)
      → meaning.arm (Some CALL_LIMIT) program below number arms otherwise
      ≡ meaning.statement (Some CALL_LIMIT) program below start found
  pub is_lawful : (program : TypedProgram) (variables : List Variable) (result : Option PasType)
      → AreLawfulArms program variables result arms → IsLawfulStatement program variables result found

abbrev pub Chooses : ℤ → Arms → Option Statement → Type 0
Chooses number arms None = ChoosesNone number arms
Chooses number arms (Some found) = ChoosesOne number arms found

-- a list from a label on, or all of it
pub record IsFrom (from : Option ℕ) (list rest : Statements) : Type 0 where
  pub same : (program : TypedProgram) (most : ℕ) → list_of program most from list ≡ list_of program most None rest
  pub are_lawful : (program : TypedProgram) (variables : List Variable) (result : Option PasType)
      → AreLawful program variables result list → AreLawful program variables result rest

-- where a list is entered again; and what is done behind it
abbrev pub entry_by : (ℕ → Entry) → Entry → Option ℕ → Entry
entry_by entry turning None = turning
entry_by entry turning (Some label) = entry label

abbrev pub entered_of : TypedProgram → ℕ → Statements → (ℕ → Entry) → Statement → ℕ → Doing Store Flow
entered_of program most = meaning.entered (Some CALL_LIMIT) program (within (Some CALL_LIMIT) program most)

abbrev pub behind_of : TypedProgram → ℕ → Statements → Statement → Flow → Doing Store Flow
behind_of program most = meaning.behind_list (Some CALL_LIMIT) program (within (Some CALL_LIMIT) program most)

abbrev pub looped_of : TypedProgram → ℕ → Statements → (ℕ → Entry) → Entry → Statement → Flow → Doing Store Flow
looped_of program most = meaning.looped (Some CALL_LIMIT) program (within (Some CALL_LIMIT) program most)

-- behind a list it is entered again, where `again` tells what is done from there on, or it is over
abbrev pub IsTurn : Kinds → (Option ℕ → ℕ → Doing Store Flow) → (ℕ → Doing Store Flow) → MachineState → MachineState
    → Result CodeTurn Stop → Type 0
IsTurn kinds again behind before now (Ok (turns.Again from)) =
    LeadsTo kinds IsFlow behind (again from) before now
IsTurn kinds again behind before now (Ok (turns.Over flow)) =
    (most : ℕ) → Does most kinds kinds IsFlow (behind most) before now (Ok flow)
IsTurn kinds again behind before now (Err why) =
    (most : ℕ) → Does {T = CodeFlow} most kinds kinds IsFlow (behind most) before now (Err why)

-- a loop under way: its statement, where it is entered, and what a turn does
abbrev pub loop_view : CodeLoop → Statements → Statement
loop_view (loops.While test) list = typed.while (value_view test.now) list
loop_view (loops.Repeat test) list = typed.repeat list (value_view test.now)
loop_view (loops.For head last) list =
    typed.for (slot_view head.now.slot) head.now.way (value_view head.now.first) (value_view head.now.last) list

abbrev pub turning : CodeLoop → Entry
turning (loops.While test) = meaning.again
turning (loops.Repeat test) = meaning.again
turning (loops.For head last) = meaning.turn last

abbrev pub turn_at : CodeLoop → ℕ → Entry
turn_at (loops.While test) label = meaning.at label
turn_at (loops.Repeat test) label = meaning.at label
turn_at (loops.For head last) label = meaning.turn_at last label

module _ (program : TypedProgram) (most : ℕ) where
  abbrev pub while_turn_of : Value → Option ℕ → Statements → Doing Store Flow
  while_turn_of test None list =
      meaning.while_turn (Some CALL_LIMIT) program (within (Some CALL_LIMIT) program most) test
      (list_of program most None list)
  while_turn_of test (Some label) list = list_of program most (Some label) list

  abbrev pub repeat_turn_of : Value → Option ℕ → Statements → Doing Store Flow
  repeat_turn_of test from list =
      meaning.repeat_turn (Some CALL_LIMIT) program (within (Some CALL_LIMIT) program most) test
      (list_of program most from list)

  abbrev pub for_turn_of : Slot → Way → ℤ → Option ℕ → Statements → Doing Store Flow
  for_turn_of slot way last from list =
      meaning.for_turn (Some CALL_LIMIT) program (within (Some CALL_LIMIT) program most) slot way last
      (list_of program most from list)

  abbrev pub turn_of : CodeLoop → Option ℕ → Statements → Doing Store Flow
  turn_of (loops.While test) from list = while_turn_of (value_view test.now) from list
  turn_of (loops.Repeat test) from list = repeat_turn_of (value_view test.now) from list
  turn_of (loops.For head last) from list = for_turn_of (slot_view head.now.slot) head.now.way last from list

-- a turn of a loop, and all of them
abbrev pub Turns : Scene → CodeLoop → Option ℕ → Statements → MachineState → MachineState → Result CodeFlow Stop
    → Type 0
Turns scene kind from list =
    RunsBy scene (λ variables result.
    IsLawfulStatement (program_view scene.program.now) variables result (loop_view kind list)) IsFlow
    (λ most. turn_of (program_view scene.program.now) most kind from list)

-- what is read into places, and written
module _ (program : TypedProgram) (most : ℕ) where
  abbrev pub reads_of : PasType → Slot → List Place → Doing Store (Unit {0})
  reads_of = meaning.read_items (Some CALL_LIMIT) program (within (Some CALL_LIMIT) program most)

  abbrev pub writes_of : Slot → List Item → Doing Store (Unit {0})
  writes_of = meaning.write_items (Some CALL_LIMIT) program (within (Some CALL_LIMIT) program most)

  abbrev pub bytes_of : PasType → Slot → List Value → Doing Store (Unit {0})
  bytes_of = meaning.write_bytes (Some CALL_LIMIT) program (within (Some CALL_LIMIT) program most)

-- a statement that transfers something from or to the file that a place is
abbrev pub Transfers : Scene → Statement → Place → (ℕ → Slot → Doing Store (Unit {0})) → MachineState → MachineState
    → Result (Unit {0}) Stop → Type 0
Transfers scene found place transfer =
    RunsBy scene (λ variables result. IsLawfulStatement (program_view scene.program.now) variables result found) Any
    (λ most. answered (file_variable place) >>= transfer most)

abbrev pub Reads : Scene → Place → List Place → MachineState → MachineState → Result (Unit {0}) Stop → Type 0
Reads scene place places =
    Transfers scene (typed.reads place places) place (λ most file. reads_of (program_view scene.program.now) most
    (components_of (program_view scene.program.now).types place) file places)

abbrev pub ReadsLine : Scene → Place → List Place → MachineState → MachineState → Result (Unit {0}) Stop → Type 0
ReadsLine scene place places =
    Transfers scene (typed.reads_line place places) place (λ most file. reads_of (program_view scene.program.now) most
    (components_of (program_view scene.program.now).types place) file places
    >> on_file file (λ number. change_file number files.readln))

abbrev pub Writes : Scene → Place → List Item → MachineState → MachineState → Result (Unit {0}) Stop → Type 0
Writes scene place written =
    Transfers scene (typed.writes place written) place
    (λ most file. writes_of (program_view scene.program.now) most file written)

abbrev pub WritesLine : Scene → Place → List Item → MachineState → MachineState → Result (Unit {0}) Stop → Type 0
WritesLine scene place written =
    Transfers scene (typed.writes_line place written) place
    (λ most file. writes_of (program_view scene.program.now) most file written
    >> on_file file (λ number. append number files.writeln))

abbrev pub WritesBytes : Scene → Place → List Value → MachineState → MachineState → Result (Unit {0}) Stop → Type 0
WritesBytes scene place written =
    Transfers scene (typed.writes_bytes place written) place (λ most file. bytes_of (program_view scene.program.now)
    most (components_of (program_view scene.program.now).types place) file written)

-- a loop under way; and something that is done where this loop is lawful
abbrev pub loop_of : TypedProgram → ℕ → CodeLoop → Statements → Doing Store Flow
loop_of program most kind list = statement_of program most (turning kind) (loop_view kind list)

abbrev pub RunsLoop : Scene → CodeLoop → Statements → (ℕ → Doing Store Flow) → MachineState → MachineState
    → Result CodeFlow Stop → Type 0
RunsLoop scene kind list doing =
    RunsBy scene (λ variables result.
    IsLawfulStatement (program_view scene.program.now) variables result (loop_view kind list)) IsFlow doing

-- what tells whether a turn is the last one; and a `for`, whose variable becomes undefined behind its turns
module _ (program : TypedProgram) (most : ℕ) where
  abbrev pub until_of : Value → Doing Store Flow
  until_of = meaning.until (Some CALL_LIMIT) program (within (Some CALL_LIMIT) program most)

  abbrev pub counted_of : Slot → Way → ℤ → Doing Store Flow
  counted_of = meaning.counted (Some CALL_LIMIT) program (within (Some CALL_LIMIT) program most)

  abbrev pub next_stored_of : Slot → Way → ℤ → Doing Store Flow
  next_stored_of = meaning.next_value_stored (Some CALL_LIMIT) program (within (Some CALL_LIMIT) program most)

  abbrev pub for_from_of : Slot → Way → ℤ → ℤ → Doing Store Flow → Doing Store Flow
  for_from_of = meaning.for_from (Some CALL_LIMIT) program (within (Some CALL_LIMIT) program most)

abbrev pub stepped : Doing Store Flow → Doing Store Flow
stepped doing = take_step >> doing

abbrev pub forgetting : Slot → Doing Store Flow → Doing Store Flow
forgetting slot turns =
    turns >>= (λ flow. meaning.go_on flow (change (meaning.forget slot) >> pure meaning.next))

abbrev pub between_of : TypedProgram → Slot → ℤ → ℤ → Doing Store Flow → Doing Store Flow
between_of program slot first last turns = do
  low ← answered (fits program.types slot.type (holds first))
  high ← answered (fits program.types slot.type (holds last))
  change (λ store. stored (home_of slot store) low store)
  forgetting slot turns

-- one item that is read or written, a width, and a field of it
module _ (program : TypedProgram) (most : ℕ) where
  abbrev pub read_item_of : PasType → Slot → Place → Doing Store (Unit {0})
  read_item_of = meaning.read_item (Some CALL_LIMIT) program (within (Some CALL_LIMIT) program most)

  abbrev pub write_byte_of : PasType → Slot → Value → Doing Store (Unit {0})
  write_byte_of = meaning.write_byte (Some CALL_LIMIT) program (within (Some CALL_LIMIT) program most)

  abbrev pub write_item_of : Slot → Item → Doing Store (Unit {0})
  write_item_of = meaning.write_item (Some CALL_LIMIT) program (within (Some CALL_LIMIT) program most)

  abbrev pub width_of : ℕ → Option Value → Doing Store ℤ
  width_of = meaning.width_or (Some CALL_LIMIT) program (within (Some CALL_LIMIT) program most)

  abbrev pub field_of : Slot → (ℕ → List ℕ) → ℤ → Doing Store (Unit {0})
  field_of = meaning.write_field (Some CALL_LIMIT) program (within (Some CALL_LIMIT) program most)

abbrev pub WritesItem : Scene → Slot → Item → MachineState → MachineState → Result (Unit {0}) Stop → Type 0
WritesItem scene slot item =
    RunsBy scene (λ variables result. IsFileSlot (program_view scene.program.now) variables slot
    × IsLawfulItem (program_view scene.program.now) variables item) Any
    (λ most. write_item_of (program_view scene.program.now) most slot item)

-- what is read into places, and the rest of a line passed; and what is written, and a line ended
abbrev pub read_line_of : TypedProgram → ℕ → PasType → Slot → List Place → Doing Store (Unit {0})
read_line_of program most type slot places =
    reads_of program most type slot places >> on_file slot (λ number. change_file number files.readln)

abbrev pub write_line_of : TypedProgram → ℕ → Slot → List Item → Doing Store (Unit {0})
write_line_of program most slot written =
    writes_of program most slot written >> on_file slot (λ number. append number files.writeln)
