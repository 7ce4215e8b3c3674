-- The types, statements and declarations of the code as those of the definition.
use Rattle.std.specs.Prelude.{ℕ, List, map}
use Rattle.pas_syntax.specs.declared.tree.Ident.{Ident as CodeIdent}
use Rattle.pas_syntax.specs.declared.tree.TypeForm as code_form
use Rattle.pas_syntax.specs.declared.tree.TypeForm.TheOpen.{TypeForm-F, FieldGroup-F, MoreFields-F, RecordForm-F}
use Rattle.pas_syntax.specs.declared.tree.TypeForm.TheFolds.{fold-TypeForm}
use Rattle.pas_syntax.specs.declared.tree.Argument.{Argument as CodeArgument}
use Rattle.pas_syntax.specs.declared.tree.Arguments.{Arguments as CodeArguments}
use Rattle.pas_syntax.specs.declared.tree.Plain as code_plain
use Rattle.pas_syntax.specs.declared.tree.Statement as code_statement
use Rattle.pas_syntax.specs.declared.tree.Statements as code_statements
use Rattle.pas_syntax.specs.declared.tree.MoreStatement as code_more_statement
use Rattle.pas_syntax.specs.declared.tree.Element as code_element
use Rattle.pas_syntax.specs.declared.tree.Elements as code_elements
use Rattle.pas_syntax.specs.declared.tree.MoreElement as code_more_element
use Rattle.pas_syntax.specs.declared.tree.Others as code_others
use Rattle.pas_syntax.specs.declared.tree.Compound as code_compound
use Rattle.pas_syntax.specs.declared.tree.Others.TheOpen.{Others-F, Plain-F, Statement-F, Compound-F, Element-F}
use Rattle.pas_syntax.specs.declared.tree.Others.TheOpen.{Elements-F}
use Rattle.pas_syntax.specs.declared.tree.Others.TheOpen.{MoreElement-F, MoreStatement-F, Statements-F}
use Rattle.pas_syntax.specs.declared.tree.Others.TheFolds.{fold-Compound, fold-Plain, fold-Statement, fold-Statements}
use Rattle.pas_syntax.specs.declared.tree.Others.TheFolds.{fold-MoreStatement, fold-Element, fold-Elements}
use Rattle.pas_syntax.specs.declared.tree.Others.TheFolds.{fold-MoreElement, fold-Others}
use Rattle.pas_syntax.specs.declared.tree.Labels.{Labels as CodeLabels}
use Rattle.pas_syntax.specs.declared.tree.ConstantRow.{ConstantRow as CodeConstantRow}
use Rattle.pas_syntax.specs.declared.tree.TypeRow.{TypeRow as CodeTypeRow}
use Rattle.pas_syntax.specs.declared.tree.VariableRow.{VariableRow as CodeVariableRow}
use Rattle.pas_syntax.specs.declared.tree.Rows.{Rows as CodeRows}
use Rattle.pas_syntax.specs.declared.tree.Parameter.{Parameter as CodeParameter}
use Rattle.pas_syntax.specs.declared.tree.Parameters.{Parameters as CodeParameters}
use Rattle.pas_syntax.specs.declared.tree.Heading.{Heading as CodeHeading}
use Rattle.pas_syntax.specs.declared.tree.Heading.TheVariants as heading
use Rattle.pas_syntax.specs.declared.tree.Body.{Body as CodeBody}
use Rattle.pas_syntax.specs.declared.tree.Body.TheVariants as body
use Rattle.pas_syntax.specs.declared.tree.Routine.{Routine as CodeRoutine}
use Rattle.pas_syntax.specs.declared.tree.ProgramParameters.{ProgramParameters as CodeProgramParameters}
use Rattle.pas_syntax.specs.declared.tree.ProgramTree.{ProgramTree}
use Rattle.pas_syntax.specs.Tree as tree
use Rattle.pas_syntax.specs.Tree.{Ident, Behind, Separated, Idents, Constant, TypeName, TypeForm, Fields, Argument}
use Rattle.pas_syntax.specs.Tree.{Arguments}
use Rattle.pas_syntax.specs.Tree.{Plain, Statement, Statements, Elements, Others, Labels, ConstantRow, TypeRow}
use Rattle.pas_syntax.specs.Tree.{VariableRow}
use Rattle.pas_syntax.specs.Tree.{Rows, Parameter, Parameters, Heading, Compound, Body, Routine, ProgramParameters}
use Rattle.pas_syntax.specs.Tree.{Program}
use Rattle.pas_syntax.specs.Views.{ident_in, numeral_in, in_turn, lined_in, behind_in, separated_in, if_there}
use Rattle.pas_syntax.specs.Views.{constant_in, simple_in, expr_in, variable_in}

-- fields of one type
pub record Group : Type 0 where
  pub names : Idents
  pub colon : ℕ
  pub form : TypeForm

-- a layer of the code's types, of which the inner ones are those of the definition
abbrev pub OfTypes : (Type 0 → Type 0 → Type 0 → Type 0 → Type 0) → Type 0
OfTypes Layer = Layer TypeForm Group (Fields → Fields) TypeForm

module _ (spellings : List ℕ) where
  abbrev pub type_step : OfTypes TypeForm-F → TypeForm
  type_step (TypeForm-F.Simple form) = tree.simple (simple_in spellings form)
  type_step (TypeForm-F.Array head element) =
      tree.array head.packed head.line head.opened (separated_in (simple_in spellings) head.indexes) head.closed
      head.of_line element
  type_step (TypeForm-F.Record form) = form
  type_step (TypeForm-F.File head component) = tree.file head.packed head.line head.of_line component

  abbrev pub group_step : OfTypes FieldGroup-F → Group
  group_step group =
      record { names = separated_in (ident_in spellings) group.names; colon = group.colon; form = group.form }

  abbrev pub more_fields_step : OfTypes MoreFields-F → Fields → Fields
  more_fields_step more fields =
      tree.more_fields fields more.line more.group.names more.group.colon more.group.form

  abbrev pub record_step : OfTypes RecordForm-F → TypeForm
  record_step form =
      tree.record_type form.packed form.line
      (in_turn (tree.first_fields form.first.names form.first.colon form.first.form) form.more) form.semicolon form.end

  abbrev pub type_in : code_form.TypeForm → TypeForm
  type_in = fold-TypeForm TypeForm Group (Fields → Fields) TypeForm type_step group_step more_fields_step record_step

  -- statements
  abbrev pub argument_in : CodeArgument → Argument
  argument_in argument =
      record {
        value = expr_in spellings argument.value;
        width = if_there (behind_in (expr_in spellings)) argument.width;
      }

  abbrev pub arguments_in : CodeArguments → Arguments
  arguments_in arguments =
      record {
        opened = arguments.opened;
        items = separated_in argument_in arguments.items;
        closed = arguments.closed;
      }

-- the constants, the line of the colon and the statement of an element
pub record Arm : Type 0 where
  pub constants : Separated Constant
  pub colon : ℕ
  pub statement : Statement

-- a layer of the code's statements, of which the inner ones are those of the definition
abbrev pub OfStatements : (Type 0 → Type 0 → Type 0 → Type 0 → Type 0 → Type 0 → Type 0 → Type 0 → Type 0 → Type 0)
    → Type 0
OfStatements Layer =
    Layer Others Plain Statement Compound Arm Elements (Elements → Elements) (Statements → Statements) Statements

module _ (spellings : List ℕ) where
  abbrev pub plain_step : OfStatements Plain-F → Plain
  plain_step Plain-F.Empty = tree.empty
  plain_step (Plain-F.Assignment assigned) =
      tree.assignment (variable_in spellings assigned.target) assigned.becomes (expr_in spellings assigned.value)
  plain_step (Plain-F.Call call) =
      tree.procedure_call (ident_in spellings call.name) (if_there (arguments_in spellings) call.arguments)
  plain_step (Plain-F.Compound body) = tree.compound body.begin body.list body.end
  plain_step (Plain-F.If head s) = tree.if_then head.line (expr_in spellings head.value) head.behind s
  plain_step (Plain-F.IfElse head s line t) =
      tree.if_else head.line (expr_in spellings head.value) head.behind s line t
  plain_step (Plain-F.Case head elements others end) =
      tree.case head.line (expr_in spellings head.value) head.behind elements others end
  plain_step (Plain-F.While head s) = tree.while head.line (expr_in spellings head.value) head.behind s
  plain_step (Plain-F.Repeat line list until) =
      tree.repeat line list until.line (expr_in spellings until.item)
  plain_step (Plain-F.For head s) =
      tree.for head.line (ident_in spellings head.name) head.becomes (expr_in spellings head.first)
      (lined_in head.way) (expr_in spellings head.last) head.do_line s
  plain_step (Plain-F.Goto line numeral) = tree.goto line (numeral_in numeral)

  abbrev pub others_step : OfStatements Others-F → Others
  others_step Others-F.Nothing = tree.no_others
  others_step (Others-F.Semicolon line) = tree.semicolon line
  others_step (Others-F.Others head s end) = tree.others head.semicolon head.line head.colon s end

  abbrev pub statement_step : OfStatements Statement-F → Statement
  statement_step (Statement-F.Unlabelled s) = tree.unlabelled s
  statement_step (Statement-F.Labelled label s) = tree.labelled (numeral_in label.numeral) label.colon s

  abbrev pub compound_step : OfStatements Compound-F → Compound
  compound_step body = record { begin = body.begin; list = body.list; end = body.end }

  abbrev pub element_step : OfStatements Element-F → Arm
  element_step element =
      record {
        constants = separated_in (constant_in spellings) element.constants;
        colon = element.colon;
        statement = element.statement;
      }

  abbrev pub elements_step : OfStatements Elements-F → Elements
  elements_step elements =
      in_turn (tree.first_element elements.first.constants elements.first.colon elements.first.statement) elements.more

  abbrev pub more_element_step : OfStatements MoreElement-F → Elements → Elements
  more_element_step more elements =
      tree.more_elements elements more.line more.element.constants more.element.colon more.element.statement

  abbrev pub more_statement_step : OfStatements MoreStatement-F → Statements → Statements
  more_statement_step more list = tree.more_statements list more.line more.statement

  abbrev pub statements_step : OfStatements Statements-F → Statements
  statements_step list = in_turn (tree.first_statement list.first) list.more

  abbrev pub plain_in : code_plain.Plain → Plain
  plain_in = fold-Plain Others Plain Statement Compound Arm Elements (Elements → Elements) (Statements → Statements)
      Statements others_step plain_step statement_step compound_step element_step elements_step more_element_step
      more_statement_step statements_step

  abbrev pub statement_in : code_statement.Statement → Statement
  statement_in = fold-Statement Others Plain Statement Compound Arm Elements (Elements → Elements)
      (Statements → Statements)
      Statements others_step plain_step statement_step compound_step element_step elements_step more_element_step
      more_statement_step statements_step

  abbrev pub statements_in : code_statements.Statements → Statements
  statements_in = fold-Statements Others Plain Statement Compound Arm Elements (Elements → Elements)
      (Statements → Statements)
      Statements others_step plain_step statement_step compound_step element_step elements_step more_element_step
      more_statement_step statements_step

  abbrev pub more_statement_in : code_more_statement.MoreStatement → Statements → Statements
  more_statement_in = fold-MoreStatement Others Plain Statement Compound Arm Elements (Elements → Elements)
      (Statements → Statements)
      Statements others_step plain_step statement_step compound_step element_step elements_step more_element_step
      more_statement_step statements_step

  abbrev pub compound_in : code_compound.Compound → Compound
  compound_in = fold-Compound Others Plain Statement Compound Arm Elements (Elements → Elements)
      (Statements → Statements)
      Statements others_step plain_step statement_step compound_step element_step elements_step more_element_step
      more_statement_step statements_step

  abbrev pub element_in : code_element.Element → Arm
  element_in = fold-Element Others Plain Statement Compound Arm Elements (Elements → Elements) (Statements → Statements)
      Statements others_step plain_step statement_step compound_step element_step elements_step more_element_step
      more_statement_step statements_step

  abbrev pub elements_in : code_elements.Elements → Elements
  elements_in = fold-Elements Others Plain Statement Compound Arm Elements (Elements → Elements)
      (Statements → Statements)
      Statements others_step plain_step statement_step compound_step element_step elements_step more_element_step
      more_statement_step statements_step

  abbrev pub more_element_in : code_more_element.MoreElement → Elements → Elements
  more_element_in = fold-MoreElement Others Plain Statement Compound Arm Elements (Elements → Elements)
      (Statements → Statements)
      Statements others_step plain_step statement_step compound_step element_step elements_step more_element_step
      more_statement_step statements_step

  abbrev pub others_in : code_others.Others → Others
  others_in = fold-Others Others Plain Statement Compound Arm Elements (Elements → Elements) (Statements → Statements)
      Statements others_step plain_step statement_step compound_step element_step elements_step more_element_step
      more_statement_step statements_step

  -- declarations
  abbrev pub labels_in : CodeLabels → Labels
  labels_in labels = record { line = labels.line; numbers = separated_in numeral_in labels.numbers; end = labels.end }

  abbrev pub constant_row_in : CodeConstantRow → ConstantRow
  constant_row_in row =
      record {
        name = ident_in spellings row.name;
        equals = row.equals;
        value = constant_in spellings row.value;
        end = row.end;
      }

  abbrev pub type_row_in : CodeTypeRow → TypeRow
  type_row_in row =
      record {
        name = ident_in spellings row.name;
        equals = row.equals;
        form = type_in spellings row.form;
        end =
            row.end;
      }

  abbrev pub variable_row_in : CodeVariableRow → VariableRow
  variable_row_in row =
      record {
        names = separated_in (ident_in spellings) row.names;
        colon = row.colon;
        form = type_in spellings row.form;
        end = row.end;
      }

  abbrev pub rows_in : {A B : Type 0} → (A → B) → CodeRows A → Rows B
  rows_in row rows = record { line = rows.line; first = row rows.first; more = map row rows.more }

  abbrev pub parameter_in : CodeParameter → Parameter
  parameter_in parameter =
      tree.parameters parameter.by_name (separated_in (ident_in spellings) parameter.names) parameter.colon
      (tree.type_named (ident_in spellings parameter.type_name))

  abbrev pub parameters_in : CodeParameters → Parameters
  parameters_in parameters =
      record {
        opened = parameters.opened;
        items = separated_in parameter_in parameters.items;
        closed = parameters.closed;
      }

  abbrev pub type_name_in : CodeIdent → TypeName
  type_name_in ident = tree.type_named (ident_in spellings ident)

  abbrev pub heading_in : CodeHeading → Heading
  heading_in (heading.Procedure line name parameters) =
      tree.procedure line (ident_in spellings name) (if_there parameters_in parameters)
  heading_in (heading.Function line name parameters result_type) =
      tree.function line (ident_in spellings name) (if_there parameters_in parameters)
      (if_there (behind_in type_name_in) result_type)

  abbrev pub body_in : CodeBody → Body
  body_in (body.Forward line) = tree.forward line
  body_in (body.Block block) =
      tree.block (if_there labels_in block.labels) (if_there (rows_in variable_row_in) block.variables)
      (compound_in block.body)

  abbrev pub routine_in : CodeRoutine → Routine
  routine_in routine =
      record {
        heading = heading_in routine.heading;
        behind_heading = routine.behind_heading;
        body = body_in routine.body;
        end = routine.end;
      }

  abbrev pub program_parameters_in : CodeProgramParameters → ProgramParameters
  program_parameters_in parameters =
      record {
        opened = parameters.opened;
        names = separated_in (ident_in spellings) parameters.names;
        closed = parameters.closed;
      }

  -- a whole program
  abbrev pub program_in : ProgramTree → Program
  program_in program =
      record {
        line = program.head.line;
        name = ident_in spellings program.head.name;
        parameters = if_there program_parameters_in program.head.parameters;
        behind_heading = program.head.end;
        labels = if_there labels_in program.declarations.labels;
        constants = if_there (rows_in constant_row_in) program.declarations.constants;
        types = if_there (rows_in type_row_in) program.declarations.types;
        variables = if_there (rows_in variable_row_in) program.declarations.variables;
        routines = map routine_in program.declarations.routines;
        body = compound_in program.body;
        dot = program.dot;
        end = program.end;
      }
