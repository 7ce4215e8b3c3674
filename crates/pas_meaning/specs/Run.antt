-- What a program does (ISO 7185, 6.7 to 6.9, in this project's profile). The order of evaluation and of checks, the
-- steps, and the end at the last label are this project's own.
use Rattle.std.specs.Prelude.{ℕ, zero, suc, ◌==◌, ◌||◌, not, ℤ, pos, nat_abs, int_le, ◌+ℤ◌, ◌-ℤ◌, Bool, true, false}
use Rattle.std.specs.Prelude.{if◌then◌else◌, List, [], ◌∷◌, ◌++◌, length, map, drop, find, slice_get, Option, Some}
use Rattle.std.specs.Prelude.{None, unwrap_or, option_to_list}
use Rattle.std.specs.List.{list_any}
use Rattle.pas_syntax.specs.declared.operators.Multiplying.TheVariants as multiplying
use Rattle.pas_syntax.specs.declared.operators.Adding.TheVariants as adding
use Rattle.pas_syntax.specs.declared.operators.Way.{Way}
use Rattle.pas_syntax.specs.declared.operators.Way.TheVariants as way
use Rattle.pas_typed.specs.Types as base
use Rattle.pas_typed.specs.Types.{PasType, Table, whole, char, component_of}
use Rattle.pas_typed.specs.Typed as typed
use Rattle.pas_typed.specs.Typed.{FileTest, FileStep, Variable, Slot, Value, Place, Passed, Item, Statement, Statements}
use Rattle.pas_typed.specs.Typed.{Arms, Heading, Body, TypedProgram}
use Rattle.pas_typed.specs.TypeOf.{type_of_place}
use Rattle.pas_meaning.specs.declared.errors.TheConstants.{OUT_OF_RANGE, NO_CASE_MATCHES, WRONG_MODE, UNDEFINED_RESULT}
use Rattle.pas_meaning.specs.declared.errors.TheConstants.{STATUS_OUT_OF_RANGE}
use Rattle.pas_meaning.specs.Answers.{Answer, fine, wrong, then_answer}
use Rattle.pas_meaning.specs.Files as files
use Rattle.pas_meaning.specs.Files.{File, number_in_field, char_in_field, string_in_field}
use Rattle.pas_meaning.specs.Outcome.{going, halted, World, Doing, ends, pure, ◌>>=◌, ◌>>◌, answered, ask, change}
use Rattle.pas_meaning.specs.Outcome.{changed, take_step, begin_call, end_call, stop}
use Rattle.pas_meaning.specs.FileSteps.{file_at, file_named, change_file, reset, rewrite, append, put}
use Rattle.pas_meaning.specs.Store.{Datum, undefined, holds, Cell, own, refers, Store, top_of, home_of}
use Rattle.pas_meaning.specs.Store.{along, stored, cell_at, with_cell, held_by, number_of, number_at}
use Rattle.pas_meaning.specs.Store.{fits, put_at, fetched_as, blank_of, opened, closed}
use Rattle.pas_meaning.specs.Arithmetic.{truth, within_maxint, signed, multiplied, added, is_same, compared}
use Rattle.pas_meaning.specs.Arithmetic.{function_at}
use Rattle.pas_meaning.specs.Operands.{operand, element, byte_of, truth_of}

-- how a statement goes on: behind itself, or at a label of a list around it; and a turn of a loop also behind the loop
pub data Flow : Type 0 where
  next : Flow
  leaves : Flow
  jump : ℕ → Flow

-- where a statement is entered: at its begin; at a label of its list; a loop behind the step of its next turn; or a
-- `for` that is under way with its last value, likewise
pub data Entry : Type 0 where
  start : Entry
  at : ℕ → Entry
  again : Entry
  turn : ℤ → Entry
  turn_at : ℤ → ℕ → Entry

abbrev pub Doings : Type 0
Doings = Entry → Statement → Doing Store Flow

-- what is done behind a statement, unless it jumps
abbrev pub go_on : Flow → Doing Store Flow → Doing Store Flow
go_on next rest = rest
go_on leaves rest = pure leaves
go_on (jump label) rest = pure (jump label)

-- labels of a list
abbrev pub has : Option ℕ → ℕ → Bool
has None label = false
has (Some own_label) label = own_label == label

abbrev pub has_label : Statements → ℕ → Bool
has_label typed.no_statements label = false
has_label (typed.item own_label s list) label = has own_label label || has_label list label

-- a place with its checked indexes: a part of a variable, or the buffer of a file of components of a type
pub data Spot : Type 0 where
  part : Slot → List ℕ → Spot
  window : Slot → PasType → Spot

abbrev pub slot_of : Spot → Slot
slot_of (part slot path) = slot
slot_of (window slot type) = slot

abbrev pub path_of : Spot → List ℕ
path_of (part slot path) = path
path_of (window slot type) = []

abbrev pub along_part : Spot → ℕ → Spot
along_part spot index = part (slot_of spot) (path_of spot ++ index ∷ [])

-- an argument: what a value parameter gets, or the place that a variable parameter means
pub data Argument : Type 0 where
  copied : Datum → Argument
  meant : Spot → Argument

abbrev pub boolean : Bool → Datum
boolean value = holds (truth value)

-- the variable that a file is, which has no index; and the file's number, which the variable holds from the start
abbrev pub file_variable : Place → Answer Slot
file_variable (typed.slot slot) = fine slot
file_variable place = wrong WRONG_MODE

abbrev pub file_of : Slot → Store → World → Answer ℕ
file_of slot store world =
    then_answer (number_at (home_of slot store) store) (λ value. file_named (nat_abs value) world)

-- what a question to a file answers, and a step of it: each finds the file when it comes to it
abbrev pub of_file : {A : Type 0} → Slot → (File → Answer A) → Store → World → Answer A
of_file file question store world = then_answer (file_of file store world) (λ number. question (file_at number world))

abbrev pub on_file : Slot → (ℕ → Doing Store (Unit {0})) → Doing Store (Unit {0})
on_file file step = do
  number ← ask (file_of file)
  step number

module _ (table : Table) where
  -- a byte of a file as a component
  abbrev pub component : PasType → ℕ → Answer Datum
  component type byte = fits table type (holds (pos byte))

  -- what a place of a type holds
  abbrev pub read_at : PasType → Spot → Store → World → Answer Datum
  read_at type (part slot path) store world = fetched_as table type (along (home_of slot store) path) store
  read_at type (window file of_component) store world =
      then_answer (of_file file files.buffer_read store world) (component of_component)

  -- v := what is given, where v is this place of a type
  abbrev pub store_at : PasType → Spot → Datum → Doing Store (Unit {0})
  store_at type (part slot path) datum =
      changed (λ store. put_at table type (along (home_of slot store) path) datum store)
  store_at type (window file of_component) datum = do
    byte ← answered (then_answer (fits table of_component datum) (byte_of OUT_OF_RANGE))
    on_file file (λ number. change_file number (files.buffer_set byte))

-- calls

-- the cells of an activation: arguments, variables that are blank, and the result of a function
abbrev pub cell_of : Store → Argument → Cell
cell_of store (copied datum) = own datum
cell_of store (meant spot) = refers (along (home_of (slot_of spot) store) (path_of spot))

abbrev pub blank_cell : Table → Variable → Cell
blank_cell table variable = own (blank_of table variable.type)

abbrev pub result_cells : Option Heading → List Cell
result_cells None = []
result_cells (Some heading) = map (λ type. own undefined) (option_to_list heading.result)

abbrev pub cells_for : TypedProgram → Body → List Argument → Store → List Cell
cells_for program body arguments store =
    map (cell_of store) arguments
    ++ map (blank_cell program.types) (drop (length arguments) body.variables)
    ++ result_cells (slice_get program.headings body.routine)

-- the result of the function that runs, in the cell with this number
abbrev pub result_of : ℕ → Store → Datum
result_of cell store = held_by (cell_at (top_of store) cell store)

abbrev pub with_result : ℕ → Datum → Store → Store
with_result cell datum store = with_cell (top_of store) cell (own datum) store

abbrev pub defined_result : Datum → Answer Datum
defined_result (holds value) = fine (holds value)
defined_result datum = wrong UNDEFINED_RESULT

-- the body of a routine
abbrev pub body_of : TypedProgram → ℕ → Option Body
body_of program routine = find (λ body. body.routine == routine) program.bodies

-- a `for`: whether one limit is past the other, and the next value
abbrev pub is_past : Way → ℤ → ℤ → Bool
is_past way.Up first last = not (int_le first last)
is_past way.Down first last = not (int_le last first)

abbrev pub next_value : Way → ℤ → ℤ
next_value way.Up value = value +ℤ pos 1
next_value way.Down value = value -ℤ pos 1

abbrev pub forget : Slot → Store → Store
forget slot store = stored (home_of slot store) undefined store

-- f^ of components of a type, and the type of the components of a file
abbrev pub buffer_of : Slot → PasType → Place
buffer_of file type = typed.buffer (typed.slot file) type

abbrev pub components_of : Table → Place → PasType
components_of table file = unwrap_or (component_of table (type_of_place file)) (whole char)

-- what a test of a file asks
abbrev pub test_of : FileTest → File → Answer Bool
test_of typed.eof = files.eof
test_of typed.eoln = files.eoln

-- the label at which a statement is entered
abbrev pub label_in : Entry → Option ℕ
label_in start = None
label_in (at label) = Some label
label_in again = None
label_in (turn last) = None
label_in (turn_at last label) = Some label

-- what a program does, with a limit on active calls or not; `below` is what its statements do behind a step
module _ (limit : Option ℕ) (program : TypedProgram) (below : Doings) where
  -- a call: the step, and then the depth
  abbrev pub body_run : Option Body → List Argument → Doing Store Datum
  body_run None arguments = pure undefined
  body_run (Some body) arguments = do
    change (λ store. opened (cells_for program body arguments store) store)
    flow ← below start (typed.compound body.statements)
    result ← ask (λ store world. fine (result_of (length body.variables) store))
    change closed
    end_call
    pure result

  abbrev pub call : ℕ → List Argument → Doing Store Datum
  call routine arguments = do
    take_step
    begin_call limit
    body_run (body_of program routine) arguments

  abbrev mutual
    pub value : Value → Doing Store Datum
    value (typed.constant base found) = pure (holds found)
    value (typed.read place) = do
      spot ← spot_at place
      ask (read_at program.types (type_of_place place) spot)
    value (typed.call routine type passed) = do
      arguments ← arguments_of passed
      result ← call routine arguments
      answered (defined_result result)
    value (typed.applied function argument) = do
      found ← operand number_of (value argument)
      result ← answered (function_at function found)
      pure (holds result)
    value (typed.tested test place) = do
      file ← answered (file_variable place)
      found ← ask (of_file file (test_of test))
      pure (boolean found)
    value (typed.parenthesized inner) = value inner
    value (typed.signed sign argument) = do
      found ← operand number_of (value argument)
      result ← answered (signed sign found)
      pure (holds result)
    value (typed.negated argument) = do
      found ← operand truth_of (value argument)
      pure (boolean (not found))
    value (typed.product left multiplying.And right) = do
      first ← operand truth_of (value left)
      (if first then operand (fits program.types (whole base.boolean)) (value right) else pure (boolean false))
    value (typed.product left op right) = do
      first ← operand number_of (value left)
      second ← operand number_of (value right)
      result ← answered (multiplied op first second)
      pure (holds result)
    value (typed.addition left adding.Or right) = do
      first ← operand truth_of (value left)
      (if first then pure (boolean true) else operand (fits program.types (whole base.boolean)) (value right))
    value (typed.addition left op right) = do
      first ← operand number_of (value left)
      second ← operand number_of (value right)
      result ← answered (added op first second)
      pure (holds result)
    value (typed.comparison left relation right) = do
      first ← operand number_of (value left)
      second ← operand number_of (value right)
      pure (boolean (compared relation first second))

    -- a place: its indexes are operands
    pub spot_at : Place → Doing Store Spot
    spot_at (typed.slot slot) = pure (part slot [])
    spot_at (typed.element place range type index) = do
      spot ← spot_at place
      number ← operand (element range) (value index)
      pure (along_part spot number)
    spot_at (typed.field place field type) = do
      spot ← spot_at place
      pure (along_part spot field)
    spot_at (typed.buffer place type) = do
      file ← answered (file_variable place)
      pure (window file type)

    -- arguments, from left to right
    pub arguments_of : Passed → Doing Store (List Argument)
    arguments_of typed.nothing = pure []
    arguments_of (typed.value type argument others) = do
      datum ← operand (fits program.types type) (value argument)
      arguments ← arguments_of others
      pure (copied datum ∷ arguments)
    arguments_of (typed.reference place others) = do
      spot ← spot_at place
      arguments ← arguments_of others
      pure (meant spot ∷ arguments)

  -- v := what is given
  abbrev pub assigned : Place → Datum → Doing Store (Unit {0})
  assigned place datum = do
    spot ← spot_at place
    store_at program.types (type_of_place place) spot datum

  abbrev pub file_step : FileStep → ℕ → Doing Store (Unit {0})
  file_step typed.reset file = reset file
  file_step typed.rewrite file = rewrite file
  file_step typed.get file = change_file file files.get
  file_step typed.put file = put file

  -- read(f, v) is v := f^; get(f)
  abbrev pub read_item : PasType → Slot → Place → Doing Store (Unit {0})
  read_item type file place = do
    datum ← value (typed.read (buffer_of file type))
    assigned place datum
    on_file file (file_step typed.get)

  abbrev pub read_items : PasType → Slot → List Place → Doing Store (Unit {0})
  read_items type file [] = pure tt
  read_items type file (place ∷ places) = read_item type file place >> read_items type file places

  -- what is written on a text: a value, and then its width, if that is given
  abbrev pub width_or : ℕ → Option Value → Doing Store ℤ
  width_or width None = pure (pos width)
  width_or width (Some given) = operand number_of (value given)

  abbrev pub write_field : Slot → (ℕ → List ℕ) → ℤ → Doing Store (Unit {0})
  write_field file bytes_for width = on_file file (λ number. append number (files.written bytes_for width))

  abbrev pub write_item : Slot → Item → Doing Store (Unit {0})
  write_item file (typed.number_item item given) = do
    found ← operand number_of (value item)
    width ← width_or 1 given
    write_field file (λ field. number_in_field field found) width
  write_item file (typed.char_item item given) = do
    found ← operand (byte_of OUT_OF_RANGE) (value item)
    width ← width_or 1 given
    write_field file (λ field. char_in_field field found) width
  write_item file (typed.string_item bytes given) = do
    width ← width_or (length bytes) given
    write_field file (λ field. string_in_field field bytes) width

  abbrev pub write_items : Slot → List Item → Doing Store (Unit {0})
  write_items file [] = pure tt
  write_items file (item ∷ items) = write_item file item >> write_items file items

  -- write(f, e) on a byte file is f^ := e; put(f)
  abbrev pub write_byte : PasType → Slot → Value → Doing Store (Unit {0})
  write_byte type file item = do
    datum ← value item
    assigned (buffer_of file type) datum
    on_file file (file_step typed.put)

  abbrev pub write_bytes : PasType → Slot → List Value → Doing Store (Unit {0})
  write_bytes type file [] = pure tt
  write_bytes type file (item ∷ items) = write_byte type file item >> write_bytes type file items

  -- behind a list, a jump to one of its labels enters it there; its step is taken where it lands
  abbrev pub entered : Statements → (ℕ → Entry) → Statement → ℕ → Doing Store Flow
  entered list entry around label =
      if has_label list label then take_step >> below (entry label) around else pure (jump label)

  abbrev pub behind_list : Statements → Statement → Flow → Doing Store Flow
  behind_list list around (jump label) = entered list at around label
  behind_list list around flow = pure flow

  -- behind a turn of a loop: the step of the next turn, which is entered so, or what stands behind the loop
  abbrev pub looped : Statements → (ℕ → Entry) → Entry → Statement → Flow → Doing Store Flow
  looped list entry turning loop next = take_step >> below turning loop
  looped list entry turning loop leaves = pure next
  looped list entry turning loop (jump label) = entered list entry loop label

  -- turns, of which the list does this: of a `while`, which tests before it; of a `repeat`, which tests behind it; and
  -- of a `for`, which is at its end where the variable has the last value
  abbrev pub while_turn : Value → Doing Store Flow → Doing Store Flow
  while_turn test list = do
    found ← operand truth_of (value test)
    (if found then list else pure leaves)

  abbrev pub until : Value → Doing Store Flow
  until test = do
    found ← operand truth_of (value test)
    (if found then pure leaves else pure next)

  abbrev pub repeat_turn : Value → Doing Store Flow → Doing Store Flow
  repeat_turn test list = do
    flow ← list
    go_on flow (until test)

  abbrev pub next_value_stored : Slot → Way → ℤ → Doing Store Flow
  next_value_stored slot way found = do
    following ← answered (within_maxint (next_value way found))
    store_at program.types slot.type (part slot []) (holds following)
    pure next

  abbrev pub counted : Slot → Way → ℤ → Doing Store Flow
  counted slot way last = do
    found ← ask (λ store world. number_at (home_of slot store) store)
    (if is_same found last then pure leaves else next_value_stored slot way found)

  abbrev pub for_turn : Slot → Way → ℤ → Doing Store Flow → Doing Store Flow
  for_turn slot way last list = do
    flow ← list
    go_on flow (counted slot way last)

  -- the limits of a `for` are both in the range of its variable; behind a normal end that is undefined
  abbrev pub for_from : Slot → Way → ℤ → ℤ → Doing Store Flow → Doing Store Flow
  for_from slot way first last turns =
      if is_past way first last then change (forget slot) >> pure next else (do
        low ← answered (fits program.types slot.type (holds first))
        high ← answered (fits program.types slot.type (holds last))
        change (λ store. stored (home_of slot store) low store)
        flow ← turns
        go_on flow (change (forget slot) >> pure next))

  abbrev mutual
    pub statement : Entry → Statement → Doing Store Flow
    statement from typed.empty = pure next
    statement from (typed.assigns place right) = do
      datum ← value right
      assigned place datum
      pure next
    statement from (typed.sets_result cell type right) = do
      datum ← operand (fits program.types type) (value right)
      change (with_result cell datum)
      pure next
    statement from (typed.calls routine passed) = do
      arguments ← arguments_of passed
      call routine arguments
      pure next
    statement from (typed.compound list) = items (label_in from) list >>= behind_list list (typed.compound list)
    statement from (typed.if_then test s) = do
      found ← operand truth_of (value test)
      (if found then statement start s else pure next)
    statement from (typed.if_else test s t) = do
      found ← operand truth_of (value test)
      (if found then statement start s else statement start t)
    statement from (typed.case selector arms) = do
      found ← operand number_of (value selector)
      arm found arms (answered (wrong NO_CASE_MATCHES))
    statement from (typed.case_others selector arms s) = do
      found ← operand number_of (value selector)
      arm found arms (statement start s)
    statement again (typed.while test list) =
        while_turn test (items None list) >>= looped list at again (typed.while test list)
    statement (at label) (typed.while test list) =
        items (Some label) list >>= looped list at again (typed.while test list)
    statement from (typed.while test list) =
        take_step >> (while_turn test (items None list) >>= looped list at again (typed.while test list))
    statement again (typed.repeat list test) =
        repeat_turn test (items None list) >>= looped list at again (typed.repeat list test)
    statement (at label) (typed.repeat list test) =
        repeat_turn test (items (Some label) list) >>= looped list at again (typed.repeat list test)
    statement from (typed.repeat list test) =
        take_step >> (repeat_turn test (items None list) >>= looped list at again (typed.repeat list test))
    statement (turn last) (typed.for slot way first limit_value list) =
        for_turn slot way last (items None list)
        >>= looped list (turn_at last) (turn last) (typed.for slot way first limit_value list)
    statement (turn_at last label) (typed.for slot way first limit_value list) =
        for_turn slot way last (items (Some label) list)
        >>= looped list (turn_at last) (turn last) (typed.for slot way first limit_value list)
    statement from (typed.for slot way first limit_value list) = do
      low ← operand number_of (value first)
      high ← operand number_of (value limit_value)
      for_from slot way low high (take_step >> (for_turn slot way high (items None list)
          >>= looped list (turn_at high) (turn high) (typed.for slot way first limit_value list)))
    statement from (typed.goto label) = pure (jump label)
    statement from (typed.goto_last status) = stop (halted status)
    statement from (typed.file_step step place) = do
      file ← answered (file_variable place)
      on_file file (file_step step)
      pure next
    statement from (typed.reads place places) = do
      file ← answered (file_variable place)
      read_items (components_of program.types place) file places
      pure next
    statement from (typed.reads_line place places) = do
      file ← answered (file_variable place)
      read_items (components_of program.types place) file places
      on_file file (λ number. change_file number files.readln)
      pure next
    statement from (typed.writes place written) = do
      file ← answered (file_variable place)
      write_items file written
      pure next
    statement from (typed.writes_line place written) = do
      file ← answered (file_variable place)
      write_items file written
      on_file file (λ number. append number files.writeln)
      pure next
    statement from (typed.writes_bytes place written) = do
      file ← answered (file_variable place)
      write_bytes (components_of program.types place) file written
      pure next
    statement from (typed.halts status) = do
      found ← operand (byte_of STATUS_OUT_OF_RANGE) (value status)
      stop (halted found)

    -- the statements of a list in order, or those from a label on
    pub items : Option ℕ → Statements → Doing Store Flow
    items from typed.no_statements = pure next
    items None (typed.item label s list) = do
      flow ← statement start s
      go_on flow (items None list)
    items (Some wanted) (typed.item label s list) =
        if has label wanted then (do
          flow ← statement start s
          go_on flow (items None list)) else items (Some wanted) list

    -- the statement of the element with this constant, or what is done without it
    pub arm : ℤ → Arms → Doing Store Flow → Doing Store Flow
    arm found typed.no_arms otherwise = otherwise
    arm found (typed.arm values s arms) otherwise =
        if list_any (is_same found) values then statement start s else arm found arms otherwise

-- what statements do within a bound of steps
abbrev pub within : Option ℕ → TypedProgram → ℕ → Doings
within limit program zero from s run = ends going run.world
within limit program (suc bound) from s run = statement limit program (within limit program bound) from s run
