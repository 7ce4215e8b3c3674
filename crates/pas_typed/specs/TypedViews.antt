-- The places, values, statements and routines of the code as those of the definition.
use Rattle.std.specs.Prelude.{ℕ, List, [], ◌∷◌, map, option_map}
use Rattle.pas_syntax.specs.Views.{spelled_in, in_turn}
use Rattle.pas_typed.specs.declared.typed.Home.{Home as CodeHome}
use Rattle.pas_typed.specs.declared.typed.Home.TheVariants as home
use Rattle.pas_typed.specs.declared.typed.Mode.{Mode as CodeMode}
use Rattle.pas_typed.specs.declared.typed.Mode.TheVariants as mode
use Rattle.pas_typed.specs.declared.typed.Variable.{Variable as CodeVariable}
use Rattle.pas_typed.specs.declared.typed.Slot.{Slot as CodeSlot}
use Rattle.pas_typed.specs.declared.typed.Function.{Function as CodeFunction}
use Rattle.pas_typed.specs.declared.typed.Function.TheVariants as function
use Rattle.pas_typed.specs.declared.typed.FileTest.{FileTest as CodeFileTest}
use Rattle.pas_typed.specs.declared.typed.FileTest.TheVariants as file_test
use Rattle.pas_typed.specs.declared.typed.FileStep.{FileStep as CodeFileStep}
use Rattle.pas_typed.specs.declared.typed.FileStep.TheVariants as file_step
use Rattle.pas_typed.specs.declared.typed.Value as code_value
use Rattle.pas_typed.specs.declared.typed.Place as code_place
use Rattle.pas_typed.specs.declared.typed.Part as code_part
use Rattle.pas_typed.specs.declared.typed.Passed as code_passed
use Rattle.pas_typed.specs.declared.typed.Call as code_call
use Rattle.pas_typed.specs.declared.typed.Part.TheOpen.{Part-F, Passed-F, Value-F, Call-F, Place-F}
use Rattle.pas_typed.specs.declared.typed.Part.TheFolds.{fold-Part, fold-Passed, fold-Value, fold-Call, fold-Place}
use Rattle.pas_typed.specs.declared.typed.Item.{Item as CodeItem}
use Rattle.pas_typed.specs.declared.typed.Item.TheVariants as item
use Rattle.pas_typed.specs.declared.typed.Statement as code_statement
use Rattle.pas_typed.specs.declared.typed.Labelled as code_labelled
use Rattle.pas_typed.specs.declared.typed.Arm as code_arm
use Rattle.pas_typed.specs.declared.typed.Statement.TheOpen.{Statement-F, Arm-F, Labelled-F}
use Rattle.pas_typed.specs.declared.typed.Statement.TheFolds.{fold-Statement, fold-Arm, fold-Labelled}
use Rattle.pas_typed.specs.declared.typed.Heading.{Heading as CodeHeading}
use Rattle.pas_typed.specs.declared.typed.Body.{Body as CodeBody}
use Rattle.pas_typed.specs.declared.typed.TypedProgram.{TypedProgram as CodeProgram}
use Rattle.pas_typed.specs.Typed as typed
use Rattle.pas_typed.specs.Typed.{Home, Mode, Variable, Slot, Function, FileTest, FileStep, Value, Place, Passed, Item}
use Rattle.pas_typed.specs.Typed.{Statement, Statements, Arms, Heading, Body, TypedProgram}
use Rattle.pas_typed.specs.TypeViews.{base_view, range_view, type_view, table_view}
use Rattle.pas_typed.specs.Texts.{undoubled}

abbrev pub home_view : CodeHome → Home
home_view home.Global = typed.global
home_view home.Local = typed.local

abbrev pub mode_view : CodeMode → Mode
mode_view mode.Declared = typed.declared
mode_view mode.ByValue = typed.by_value
mode_view mode.ByName = typed.by_name

abbrev pub slot_view : CodeSlot → Slot
slot_view slot =
    record {
      home = home_view slot.home;
      number = slot.number;
      mode = mode_view slot.mode;
      type = type_view slot.pas_type;
    }

abbrev pub function_view : CodeFunction → Function
function_view function.Ord = typed.ord
function_view function.Chr = typed.chr
function_view function.Abs = typed.abs
function_view function.Odd = typed.odd

abbrev pub file_test_view : CodeFileTest → FileTest
file_test_view file_test.Eof = typed.eof
file_test_view file_test.Eoln = typed.eoln

abbrev pub file_step_view : CodeFileStep → FileStep
file_step_view file_step.Reset = typed.reset
file_step_view file_step.Rewrite = typed.rewrite
file_step_view file_step.Get = typed.get
file_step_view file_step.Put = typed.put

-- all items of a list, each before those behind it
abbrev pub in_order : {A : Type 0} → List (A → A) → A → A
in_order [] last = last
in_order (first ∷ more) last = first (in_order more last)

-- a layer of the code's values, of which the inner ones are those of the definition; a part tells what a place becomes
-- by it, and an argument what those behind it become by it
abbrev pub OfValues : (Type 0 → Type 0 → Type 0 → Type 0 → Type 0 → Type 0) → Type 0
OfValues Layer = Layer (Place → Place) (Passed → Passed) Value Value Place

abbrev pub part_step : OfValues Part-F → Place → Place
part_step (Part-F.Element indexes type index) place =
    typed.element place (range_view indexes) (type_view type) index
part_step (Part-F.Field number type) place = typed.field place number (type_view type)
part_step (Part-F.Buffer type) place = typed.buffer place (type_view type)

abbrev pub passed_step : OfValues Passed-F → Passed → Passed
passed_step (Passed-F.Value type value) others = typed.value (type_view type) value others
passed_step (Passed-F.Reference place) others = typed.reference place others

abbrev pub call_step : OfValues Call-F → Value
call_step call = typed.call call.routine (type_view call.pas_type) (in_order call.passed typed.nothing)

abbrev pub place_step : OfValues Place-F → Place
place_step place = in_turn (typed.slot (slot_view place.slot)) place.parts

abbrev pub value_step : OfValues Value-F → Value
value_step (Value-F.Constant base value) = typed.constant (base_view base) value
value_step (Value-F.Read place) = typed.read place
value_step (Value-F.Call call) = call
value_step (Value-F.Applied function value) = typed.applied (function_view function) value
value_step (Value-F.Tested test place) = typed.tested (file_test_view test) place
value_step (Value-F.Parenthesized value) = typed.parenthesized value
value_step (Value-F.Signed sign value) = typed.signed sign value
value_step (Value-F.Negated value) = typed.negated value
value_step (Value-F.Product left op right) = typed.product left op right
value_step (Value-F.Addition left op right) = typed.addition left op right
value_step (Value-F.Comparison left relation right) = typed.comparison left relation right

abbrev pub part_view : code_part.Part → Place → Place
part_view =
    fold-Part (Place → Place) (Passed → Passed) Value Value Place part_step passed_step value_step call_step place_step

abbrev pub passed_view : code_passed.Passed → Passed → Passed
passed_view =
    fold-Passed (Place → Place) (Passed → Passed) Value Value Place part_step passed_step value_step call_step
    place_step

abbrev pub value_view : code_value.Value → Value
value_view =
    fold-Value (Place → Place) (Passed → Passed) Value Value Place part_step passed_step value_step call_step
    place_step

abbrev pub call_view : code_call.Call → Value
call_view =
    fold-Call (Place → Place) (Passed → Passed) Value Value Place part_step passed_step value_step call_step place_step

abbrev pub place_view : code_place.Place → Place
place_view =
    fold-Place (Place → Place) (Passed → Passed) Value Value Place part_step passed_step value_step call_step
    place_step

-- all arguments of a call
abbrev pub passed_views : List code_passed.Passed → Passed
passed_views passed = in_order (map passed_view passed) typed.nothing

-- a layer of the code's statements, of which the inner ones are those of the definition
abbrev pub OfStatements : (Type 0 → Type 0 → Type 0 → Type 0) → Type 0
OfStatements Layer = Layer Statement (Arms → Arms) (Statements → Statements)

abbrev pub arm_step : OfStatements Arm-F → Arms → Arms
arm_step arm others = typed.arm arm.constants arm.statement others

abbrev pub labelled_step : OfStatements Labelled-F → Statements → Statements
labelled_step labelled others = typed.item labelled.label labelled.statement others

-- all statements of a list, and all elements of a `case`
abbrev pub statements_of : List (Statements → Statements) → Statements
statements_of list = in_order list typed.no_statements

abbrev pub arms_of : List (Arms → Arms) → Arms
arms_of arms = in_order arms typed.no_arms

module _ (spellings : List ℕ) where
  abbrev pub variable_view : CodeVariable → Variable
  variable_view variable =
      record {
        name = spelled_in spellings variable.name;
        mode = mode_view variable.mode;
        type = type_view variable.pas_type;
      }

  abbrev pub item_view : CodeItem → Item
  item_view (item.Number value width) = typed.number_item (value_view value) (option_map value_view width)
  item_view (item.Char value width) = typed.char_item (value_view value) (option_map value_view width)
  item_view (item.Text text width) =
      typed.string_item (undoubled (spelled_in spellings text)) (option_map value_view width)

  abbrev pub statement_step : OfStatements Statement-F → Statement
  statement_step Statement-F.Empty = typed.empty
  statement_step (Statement-F.Assigns place value) = typed.assigns (place_view place) (value_view value)
  statement_step (Statement-F.SetsResult number type value) =
      typed.sets_result number (type_view type) (value_view value)
  statement_step (Statement-F.Calls number passed) = typed.calls number (passed_views passed)
  statement_step (Statement-F.Compound list) = typed.compound (statements_of list)
  statement_step (Statement-F.If value s) = typed.if_then (value_view value) s
  statement_step (Statement-F.IfElse value s t) = typed.if_else (value_view value) s t
  statement_step (Statement-F.Case value arms) = typed.case (value_view value) (arms_of arms)
  statement_step (Statement-F.CaseOthers value arms s) = typed.case_others (value_view value) (arms_of arms) s
  statement_step (Statement-F.While value list) = typed.while (value_view value) (statements_of list)
  statement_step (Statement-F.Repeat list value) = typed.repeat (statements_of list) (value_view value)
  statement_step (Statement-F.For counted list) =
      typed.for (slot_view counted.slot) counted.way (value_view counted.first) (value_view counted.last)
      (statements_of list)
  statement_step (Statement-F.Goto label) = typed.goto label
  statement_step (Statement-F.GotoLast status) = typed.goto_last status
  statement_step (Statement-F.Steps step place) = typed.file_step (file_step_view step) (place_view place)
  statement_step (Statement-F.Reads file places) = typed.reads (place_view file) (map place_view places)
  statement_step (Statement-F.ReadsLine file places) = typed.reads_line (place_view file) (map place_view places)
  statement_step (Statement-F.Writes file items) = typed.writes (place_view file) (map item_view items)
  statement_step (Statement-F.WritesLine file items) = typed.writes_line (place_view file) (map item_view items)
  statement_step (Statement-F.WritesBytes file values) = typed.writes_bytes (place_view file) (map value_view values)
  statement_step (Statement-F.Halts value) = typed.halts (value_view value)

  abbrev pub statement_view : code_statement.Statement → Statement
  statement_view =
      fold-Statement Statement (Arms → Arms) (Statements → Statements) statement_step arm_step labelled_step

  abbrev pub arm_view : code_arm.Arm → Arms → Arms
  arm_view = fold-Arm Statement (Arms → Arms) (Statements → Statements) statement_step arm_step labelled_step

  abbrev pub labelled_view : code_labelled.Labelled → Statements → Statements
  labelled_view = fold-Labelled Statement (Arms → Arms) (Statements → Statements) statement_step arm_step labelled_step

  -- the statements of a list, and the elements of a `case`
  abbrev pub statements_view : List code_labelled.Labelled → Statements
  statements_view list = statements_of (map labelled_view list)

  abbrev pub arms_view : List code_arm.Arm → Arms
  arms_view arms = arms_of (map arm_view arms)

  -- routines
  abbrev pub heading_view : CodeHeading → Heading
  heading_view heading =
      record {
        name = spelled_in spellings heading.name;
        result = option_map type_view heading.result;
        parameters = map variable_view heading.parameters;
      }

  abbrev pub body_view : CodeBody → Body
  body_view body =
      record {
        routine = body.routine;
        variables = map variable_view body.variables;
        labels = body.labels;
        statements = statements_view body.statements;
      }

abbrev pub program_view : CodeProgram → TypedProgram
program_view program =
    record {
      types = table_view program.spellings program.types;
      globals = map (variable_view program.spellings) program.globals;
      files = program.files;
      headings = map (heading_view program.spellings) program.headings;
      bodies = map (body_view program.spellings) program.bodies;
      labels = program.labels;
      statements = statements_view program.spellings program.statements;
    }
