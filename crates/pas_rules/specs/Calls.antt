-- Statements that call a procedure (ISO 7185, 6.8.2.3 and 6.9, in this project's profile).
use Rattle.std.specs.Prelude.{ℕ, ◌&&◌, ◌||◌, nat_lt, Bool, true, false, not, if◌then◌else◌, List, [], ◌∷◌, ◌++◌}
use Rattle.std.specs.Prelude.{length, map}
use Rattle.std.specs.Prelude.{codes, Option, Some, None, option_and_then, is_some}
use Rattle.wb_base.specs.declared.faults.TheConstants.{UNKNOWN_NAME, WRONG_TYPE, FILE_RULE, READING_NUMBERS}
use Rattle.pas_tokens.specs.Cutting.{Wrong, wrong}
use Rattle.pas_syntax.specs.Tree as tree
use Rattle.pas_syntax.specs.Tree.{Behind, Separated, Expr}
use Rattle.pas_syntax.specs.Parse.{left_out}
use Rattle.pas_rules.specs.Marks.{Marks, no_token, quiet, shows, with_behind, joined, listed, unless, Judged, judged}
use Rattle.pas_rules.specs.Marks.{means, refuses, known, both, all_known, checked}
use Rattle.pas_typed.specs.Types.{integer, char, PasType, text, same_type, Table, component_of}
use Rattle.pas_typed.specs.Typed as typed
use Rattle.pas_typed.specs.Typed.{FileStep, Variable, Slot, Value, Place, Item, Statement, Heading}
use Rattle.pas_rules.specs.Scopes.{Entity, routine, file_step, procedure, unclear, Procedure, read, readln, write}
use Rattle.pas_rules.specs.Scopes.{writeln, uexit, Scopes, standard_file}
use Rattle.pas_rules.specs.TypeForms.{undoubled}
use Rattle.pas_rules.specs.Expressions.{only, place_in, file_at, file_in}
use Rattle.pas_rules.specs.Expressions.{file_only}
use Rattle.pas_rules.specs.Expressions.{compatible_with, Demand, Bare, bare, Given, met, called, not_called, given}
use Rattle.pas_rules.specs.Expressions.{demands_of, passed_to, heading_of, first_value, value_of}
use Rattle.pas_typed.specs.TypeOf.{type_of, type_of_place}
use Rattle.pas_typed.specs.Types.{is_of, are_compatible}

-- arguments of a procedure: a value, the text of a string of more than one byte, and a width

pub record Actual : Type 0 where
  pub value : Judged Value
  pub text : Option (List ℕ)
  pub width : Option (Judged Value)

abbrev pub long_text : List ℕ → Option (List ℕ)
long_text bytes = if nat_lt 1 (length bytes) then Some bytes else None

abbrev pub text_in : Expr → Option (List ℕ)
text_in (tree.sum (tree.first_term (tree.first_factor (tree.literal_text quoted)))) = long_text (undoubled quoted.text)
text_in expr = None

abbrev pub width_of : Scopes → Option (Behind Expr) → Option (Judged Value)
width_of scopes None = None
width_of scopes (Some behind) = Some (value_of scopes behind.item)

abbrev pub actual_of : Scopes → tree.Argument → Actual
actual_of scopes argument = record {
  value = value_of scopes argument.value;
  text = text_in argument.value;
  width = width_of scopes argument.width;
}

abbrev pub actuals_of : Scopes → Separated tree.Argument → List Actual
actuals_of scopes arguments =
    actual_of scopes arguments.first ∷ map (λ behind. actual_of scopes behind.item) arguments.more

-- a width where none may stand is refused at its colon
abbrev pub no_width : Option (Judged Value) → Judged Bare
no_width None = judged no_token (Some bare)
no_width (Some width) = judged (joined (shows (wrong WRONG_TYPE ∷ []) ∷ width.marks ∷ [])) None

abbrev pub without_width : Actual → Given
without_width actual = record { value = actual.value; behind = no_width actual.width }

-- calls of routines, of the steps of files, and of `uexit`

-- a routine that is called as a statement is no function
abbrev pub procedure_with : Scopes → ℕ → Heading → List Given → Option PasType → Judged Statement
procedure_with scopes number heading arguments (Some type) =
    judged (not_called (wrong WRONG_TYPE ∷ []) arguments) None
procedure_with scopes number heading arguments None =
    let demands = demands_of scopes.outer.types heading.parameters in
    judged (called demands arguments)
    (known (λ values. typed.calls number (passed_to heading.parameters values))
    (given demands arguments))

abbrev pub routine_with : Scopes → ℕ → List Given → Option Heading → Judged Statement
routine_with scopes number arguments None = judged (not_called [] arguments) None
routine_with scopes number arguments (Some heading) =
    procedure_with scopes number heading arguments heading.result

abbrev pub step_with : Table → FileStep → List Given → Judged Statement
step_with table step arguments =
    let demands = file_only table ∷ [] in
    judged (called demands arguments)
    (known (typed.file_step step) (option_and_then (file_in table)
    (option_and_then first_value (given demands arguments))))

abbrev pub halt_with : Table → List Given → Judged Statement
halt_with table arguments =
    let demands = only integer table ∷ [] in
    judged (called demands arguments) (known typed.halts (option_and_then first_value (given demands arguments)))

-- reading and writing

-- the file that a list of arguments begins with, if it does: a variable by itself, as a file is no part of anything
abbrev pub whole_file : Table → Value → Option Place
whole_file table (typed.read (typed.slot slot)) = file_at table (typed.slot slot)
whole_file table value = None

abbrev pub named_file : Table → List Actual → Option Place
named_file table [] = None
named_file table (actual ∷ actuals) = option_and_then (whole_file table) actual.value.value

-- whether items alone are read or written, of which there must be one, or with the end of a line, which only a text has
pub data Extent : Type 0 where
  items_alone : Extent
  whole_line : Extent

abbrev pub demand_on_file : Extent → Demand
demand_on_file items_alone value = []
demand_on_file whole_line value = unless (same_type (type_of value) text) (wrong FILE_RULE)

-- what is read or written: the file, unless it shows a fault; the marks of the procedure's name and of the argument
-- that names the file; and the items
pub record Transfer : Type 0 where
  pub file : Option Place
  pub name : Marks
  pub file_marks : List Marks
  pub items : List Actual

-- on a file that the first argument names, and on a parameter of the program
abbrev pub on_named : Demand → Place → List Actual → Transfer
on_named demand file [] = record { file = Some file; name = quiet; file_marks = []; items = [] }
on_named demand file (actual ∷ actuals) =
    let argument = met demand (without_width actual) in
    record {
      file = known (λ value. file) argument.value;
      name = quiet;
      file_marks = argument.marks ∷ [];
      items = actuals;
    }

abbrev pub on_standard : Option Slot → List Actual → Transfer
on_standard None actuals =
    record { file = None; name = shows (wrong FILE_RULE ∷ []); file_marks = []; items = actuals }
on_standard (Some slot) actuals =
    record { file = Some (typed.slot slot); name = quiet; file_marks = []; items = actuals }

abbrev pub transfer_by : Extent → Option Slot → List Actual → Option Place → Transfer
transfer_by extent standard actuals None = on_standard standard actuals
transfer_by extent standard actuals (Some file) = on_named (demand_on_file extent) file actuals

abbrev pub transfer_of : Extent → Table → Option Slot → List Actual → Transfer
transfer_of extent table standard actuals = transfer_by extent standard actuals (named_file table actuals)

-- too few items show it at the token behind the last argument
abbrev pub missing_items : Extent → List Actual → List Wrong
missing_items items_alone [] = wrong WRONG_TYPE ∷ []
missing_items extent items = []

-- a name, and between parentheses the file and the items
abbrev pub transferred : {A : Type 0} → Extent → Transfer → List (Judged A) → Marks
transferred extent transfer items =
    joined (transfer.name ∷ quiet ∷ listed (transfer.file_marks ++ map (λ item. item.marks) items)
    ∷ shows (missing_items extent transfer.items) ∷ [])

abbrev pub values_if : {A : Type 0} → List Wrong → List (Judged A) → Option (List A)
values_if [] items = all_known (map (λ item. item.value) items)
values_if faults items = None

-- what is read from a text is a char, into a variable; integers are not read. From a byte file a component is read
abbrev pub is_call_by_name : Value → Bool
is_call_by_name (typed.call number type typed.nothing) = true
is_call_by_name value = false

abbrev pub read_from_text : Table → Demand
read_from_text table value =
    if is_of integer table (type_of value) && not (is_call_by_name value) then left_out READING_NUMBERS ∷ []
    else unless (is_some (place_in value) && is_of char table (type_of value)) (wrong WRONG_TYPE)

abbrev pub read_from_bytes : Table → PasType → Demand
read_from_bytes table component value =
    unless (is_some (place_in value) && are_compatible table component (type_of value)) (wrong WRONG_TYPE)

abbrev pub read_component : Table → Option PasType → Demand
read_component table None value = []
read_component table (Some component) value = read_from_bytes table component value

abbrev pub is_text : Place → Bool
is_text file = same_type (type_of_place file) text

abbrev pub read_demand : Table → Option Place → Demand
read_demand table None value = []
read_demand table (Some file) value =
    if is_text file then read_from_text table value
    else read_component table (component_of table (type_of_place file)) value

abbrev pub read_item : Table → Option Place → Actual → Judged Place
read_item table file actual =
    let value = met (read_demand table file) (without_width actual) in
    judged value.marks (option_and_then place_in value.value)

abbrev pub reads_by : Extent → Place → List Place → Statement
reads_by items_alone file places = typed.reads file places
reads_by whole_line file places = typed.reads_line file places

abbrev pub read_with : Extent → Table → Option Slot → List Actual → Judged Statement
read_with extent table standard actuals =
    let transfer = transfer_of extent table standard actuals in
    let items = map (read_item table transfer.file) transfer.items in
    judged (transferred extent transfer items)
    (both (reads_by extent) transfer.file (values_if (missing_items extent transfer.items) items))

-- what is written on a text is an integer, a char or a string, each with a width or not
abbrev pub width_value : Table → Option (Judged Value) → Judged (Option Value)
width_value table None = judged no_token (Some None)
width_value table (Some width) =
    let found = checked (only integer table) width in
    judged (joined (quiet ∷ found.marks ∷ [])) (known Some found.value)

abbrev pub printed_only : Table → Demand
printed_only table value =
    unless (is_of integer table (type_of value) || is_of char table (type_of value)) (wrong WRONG_TYPE)

abbrev pub item_of : Table → Value → Option Value → Item
item_of table value width =
    if is_of char table (type_of value) then typed.char_item value width else typed.number_item value width

abbrev pub item_on_text : Table → Actual → Option (List ℕ) → Judged Item
item_on_text table actual (Some bytes) =
    let width = width_value table actual.width in
    judged (joined (quiet ∷ width.marks ∷ [])) (known (typed.string_item bytes) width.value)
item_on_text table actual None =
    let value = checked (printed_only table) actual.value in
    let width = width_value table actual.width in
    judged (joined (value.marks ∷ width.marks ∷ [])) (both (item_of table) value.value width.value)

abbrev pub write_text : Extent → Table → Transfer → (Place → List Item → Statement) → Judged Statement
write_text extent table transfer make =
    let items = map (λ actual. item_on_text table actual actual.text) transfer.items in
    judged (transferred extent transfer items)
    (both make transfer.file (values_if (missing_items extent transfer.items) items))

-- what is written on a byte file is a component
abbrev pub component_demand : Table → Option PasType → Demand
component_demand table None value = []
component_demand table (Some component) value = compatible_with table component value

abbrev pub write_bytes : Table → Transfer → Option PasType → Judged Statement
write_bytes table transfer component =
    let items = map (λ actual. met (component_demand table component) (without_width actual)) transfer.items in
    judged (transferred items_alone transfer items)
    (both typed.writes_bytes transfer.file (values_if (missing_items items_alone transfer.items) items))

abbrev pub write_items : Table → Transfer → Option Place → Judged Statement
write_items table transfer None = write_bytes table transfer None
write_items table transfer (Some file) =
    if is_text file then write_text items_alone table transfer typed.writes
    else write_bytes table transfer (component_of table (type_of_place file))

abbrev pub write_with : Extent → Table → Option Slot → List Actual → Judged Statement
write_with items_alone table standard actuals =
    let transfer = transfer_of items_alone table standard actuals in write_items table transfer transfer.file
write_with whole_line table standard actuals =
    write_text whole_line table (transfer_of whole_line table standard actuals) typed.writes_line

-- the files that are meant where none is named
abbrev pub input : Scopes → Option Slot
input scopes = standard_file scopes (codes "input")

abbrev pub output : Scopes → Option Slot
output scopes = standard_file scopes (codes "output")

-- id "(" arg {"," arg} ")"
abbrev pub procedure_of : Scopes → Procedure → List Actual → Judged Statement
procedure_of scopes read actuals = read_with items_alone scopes.outer.types (input scopes) actuals
procedure_of scopes readln actuals = read_with whole_line scopes.outer.types (input scopes) actuals
procedure_of scopes write actuals = write_with items_alone scopes.outer.types (output scopes) actuals
procedure_of scopes writeln actuals = write_with whole_line scopes.outer.types (output scopes) actuals
procedure_of scopes uexit actuals = halt_with scopes.outer.types (map without_width actuals)

abbrev pub call_by : Scopes → List Actual → Option Entity → Judged Statement
call_by scopes actuals None = judged (not_called (wrong UNKNOWN_NAME ∷ []) (map without_width actuals)) None
call_by scopes actuals (Some (routine number)) =
    routine_with scopes number (map without_width actuals) (heading_of scopes number)
call_by scopes actuals (Some (file_step step)) = step_with scopes.outer.types step (map without_width actuals)
call_by scopes actuals (Some (procedure found)) = procedure_of scopes found actuals
call_by scopes actuals (Some unclear) = judged (not_called [] (map without_width actuals)) None
call_by scopes actuals (Some entity) =
    judged (not_called (wrong WRONG_TYPE ∷ []) (map without_width actuals)) None

-- a name by itself as a statement
abbrev pub missing_arguments : Marks → Judged Statement
missing_arguments name = judged (with_behind (wrong WRONG_TYPE ∷ []) name) None

abbrev pub line_alone : Transfer → (Place → Statement) → Judged Statement
line_alone transfer make = judged transfer.name (known make transfer.file)

abbrev pub procedure_alone : Scopes → Procedure → Judged Statement
procedure_alone scopes read = missing_arguments (on_standard (input scopes) []).name
procedure_alone scopes readln = line_alone (on_standard (input scopes) []) (λ file. typed.reads_line file [])
procedure_alone scopes write = missing_arguments (on_standard (output scopes) []).name
procedure_alone scopes writeln = line_alone (on_standard (output scopes) []) (λ file. typed.writes_line file [])
procedure_alone scopes uexit = missing_arguments quiet

abbrev pub routine_without : ℕ → Option PasType → List Variable → Judged Statement
routine_without number (Some type) parameters = refuses (wrong WRONG_TYPE)
routine_without number None [] = means (typed.calls number typed.nothing)
routine_without number None parameters = missing_arguments quiet

abbrev pub routine_alone : ℕ → Option Heading → Judged Statement
routine_alone number None = judged quiet None
routine_alone number (Some heading) = routine_without number heading.result heading.parameters

abbrev pub call_alone : Scopes → Option Entity → Judged Statement
call_alone scopes None = refuses (wrong UNKNOWN_NAME)
call_alone scopes (Some (routine number)) = routine_alone number (heading_of scopes number)
call_alone scopes (Some (file_step step)) = missing_arguments quiet
call_alone scopes (Some (procedure found)) = procedure_alone scopes found
call_alone scopes (Some unclear) = judged quiet None
call_alone scopes (Some entity) = refuses (wrong WRONG_TYPE)

-- id ["(" arg {"," arg} ")"]
abbrev pub call_of : Scopes → Option Entity → Option tree.Arguments → Judged Statement
call_of scopes entity None = call_alone scopes entity
call_of scopes entity (Some arguments) = call_by scopes (actuals_of scopes arguments.items) entity
