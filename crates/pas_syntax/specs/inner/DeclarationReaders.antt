-- The readers of declarations and programs, as the code goes. A number of turns bounds each loop and each recursion.
use Rattle.std.specs.Prelude.{ℕ, Bool, true, false, List, [], ◌∷◌, ◌++◌, Option, Some, None}
use Rattle.std.specs.Str.{bytes_eq}
use Rattle.wb_base.specs.declared.faults.TheConstants.{ENUMERATIONS, SETS, POINTERS, ROUTINES_AS_PARAMETERS}
use Rattle.pas_tokens.specs.declared.kinds.Kind.{Kind}
use Rattle.pas_tokens.specs.declared.kinds.Kind.TheVariants as k
use Rattle.pas_tokens.specs.Cutting.{Payload, nothing, spelling}
use Rattle.pas_syntax.specs.Tree as tree
use Rattle.pas_syntax.specs.Tree.{Ident, Numeral, Behind, Separated, Idents, TypeName, TypeForm, Compound, Labels}
use Rattle.pas_syntax.specs.Tree.{ConstantRow, TypeRow, VariableRow, Rows, Parameter, Parameters, Heading, Body}
use Rattle.pas_syntax.specs.Tree.{Routine, ProgramParameters, Program, forward_name}
use Rattle.pas_syntax.specs.inner.Prog.{Prog, done, fail, look, skip, bind, misplaced, shown, Next, more, ends, turns}
use Rattle.pas_syntax.specs.inner.Readers.{ident}
use Rattle.pas_syntax.specs.inner.Marks.{mark, maybe_mark}
use Rattle.pas_syntax.specs.inner.TypeReaders.{pushed, single, behind_item, items_by, idents_by, constant, type_form}
use Rattle.pas_syntax.specs.inner.StatementReaders.{numeral, compound}

-- labels = ["label" number {"," number} ";"]
abbrev pub labels_at : ℕ → Kind → Payload → ℕ → Prog (Option Labels)
labels_at most k.Label nothing line =
    skip (bind (items_by numeral most) (λ numbers. bind (mark k.Semicolon)
    (λ end. done (Some (record { line = line; numbers = numbers; end = end })))))
labels_at most kind payload line = done None

abbrev pub labels : ℕ → Prog (Option Labels)
labels most = look (labels_at most)

-- rows, as many as begin with a name, behind a word of this kind
module _ {A : Type 0} (row_behind : Ident → Prog A) where
  abbrev pub pushed_row : Rows A → A → Rows A
  pushed_row rows row = record { line = rows.line; first = rows.first; more = rows.more ++ row ∷ [] }

  abbrev pub behind_row : Rows A → Kind → Payload → ℕ → Next (Rows A)
  behind_row rows k.Name (spelling name) line =
      more (bind (row_behind (record { name = name; line = line })) (λ row. done (pushed_row rows row)))
  behind_row rows kind payload line = ends

  abbrev pub rows_behind : ℕ → Option ℕ → Prog (Option (Rows A))
  rows_behind most None = done None
  rows_behind most (Some line) =
      bind (bind ident row_behind) (λ first. bind
      (turns behind_row most (record { line = line; first = first; more = [] }))
      (λ rows. done (Some rows)))

  abbrev pub rows_by : ℕ → Kind → Prog (Option (Rows A))
  rows_by most kind = bind (maybe_mark kind) (rows_behind most)

-- id "=" const ";", behind the name
abbrev pub constant_row_behind : Ident → Prog ConstantRow
constant_row_behind name =
    bind (mark k.Equal) (λ equals. bind constant (λ value. bind (mark k.Semicolon)
    (λ end. done (record { name = name; equals = equals; value = value; end = end }))))

-- id "=" type ";", behind the name
abbrev pub type_row_behind : ℕ → Ident → Prog TypeRow
type_row_behind most name =
    bind (mark k.Equal) (λ equals. bind (type_form most 0) (λ form. bind (mark k.Semicolon)
    (λ end. done (record { name = name; equals = equals; form = form; end = end }))))

-- ids ":" type ";", behind the first name
abbrev pub variable_row_behind : ℕ → Ident → Prog VariableRow
variable_row_behind most name =
    bind (turns (behind_item ident) most (single name)) (λ names. bind (mark k.Colon) (λ colon. bind
    (type_form most 0) (λ form. bind (mark k.Semicolon)
    (λ end. done (record { names = names; colon = colon; form = form; end = end })))))

abbrev pub constant_rows : ℕ → Prog (Option (Rows ConstantRow))
constant_rows most = rows_by constant_row_behind most k.Const

abbrev pub type_rows : ℕ → Prog (Option (Rows TypeRow))
type_rows most = rows_by (type_row_behind most) most k.Type

abbrev pub variable_rows : ℕ → Prog (Option (Rows VariableRow))
variable_rows most = rows_by (variable_row_behind most) most k.Var

-- the name of a type
abbrev pub type_name_at : Kind → Payload → ℕ → Prog TypeName
type_name_at k.LeftParenthesis nothing line = fail (shown ENUMERATIONS)
type_name_at k.Set nothing line = fail (shown SETS)
type_name_at k.Caret nothing line = fail (shown POINTERS)
type_name_at kind payload line = bind ident (λ name. done (tree.type_named name))

abbrev pub type_name : Prog TypeName
type_name = look type_name_at

-- param = ["var"] ids ":" id
abbrev pub parameter_by : ℕ → Prog Parameter
parameter_by most =
    bind (maybe_mark k.Var) (λ by_name. bind (idents_by most) (λ names. bind (mark k.Colon) (λ colon. bind type_name
    (λ type. done (tree.parameters by_name names colon type)))))

abbrev pub parameter_at : ℕ → Kind → Payload → ℕ → Prog Parameter
parameter_at most k.Procedure nothing line = fail (shown ROUTINES_AS_PARAMETERS)
parameter_at most k.Function nothing line = fail (shown ROUTINES_AS_PARAMETERS)
parameter_at most kind payload line = parameter_by most

abbrev pub parameter : ℕ → Prog Parameter
parameter most = look (parameter_at most)

-- params = ["(" param {";" param} ")"]
abbrev pub behind_parameter : ℕ → Separated Parameter → Kind → Payload → ℕ → Next (Separated Parameter)
behind_parameter most found k.Semicolon nothing line =
    more (bind (parameter most) (λ next. done (pushed found line next)))
behind_parameter most found kind payload line = ends

abbrev pub parameter_list : ℕ → Prog (Separated Parameter)
parameter_list most = bind (parameter most) (λ first. turns (behind_parameter most) most (single first))

abbrev pub parameters_at : ℕ → Kind → Payload → ℕ → Prog (Option Parameters)
parameters_at most k.LeftParenthesis nothing line =
    skip (bind (parameter_list most) (λ items. bind (mark k.RightParenthesis)
    (λ closed. done (Some (record { opened = line; items = items; closed = closed })))))
parameters_at most kind payload line = done None

abbrev pub parameters : ℕ → Prog (Option Parameters)
parameters most = look (parameters_at most)

-- [":" id]
abbrev pub result_at : Kind → Payload → ℕ → Prog (Option (Behind TypeName))
result_at k.Colon nothing line = skip (bind type_name (λ type. done (Some (record { line = line; item = type }))))
result_at kind payload line = done None

abbrev pub result_type : Prog (Option (Behind TypeName))
result_type = look result_at

-- a heading behind its first word
abbrev pub procedure_behind : ℕ → ℕ → Prog Heading
procedure_behind most line =
    bind ident (λ name. bind (parameters most) (λ all. done (tree.procedure line name all)))

abbrev pub function_behind : ℕ → ℕ → Prog Heading
function_behind most line =
    bind ident (λ name. bind (parameters most) (λ all. bind result_type
    (λ type. done (tree.function line name all type))))

-- "forward" | labels vars compound
abbrev pub forward_if : Bool → ℕ → Prog Body
forward_if true line = skip (done (tree.forward line))
forward_if false line = fail misplaced

abbrev pub block_by : ℕ → Prog Body
block_by most =
    bind (labels most) (λ all. bind (variable_rows most) (λ rows. bind (compound most 0)
    (λ body. done (tree.block all rows body))))

abbrev pub body_at : ℕ → Kind → Payload → ℕ → Prog Body
body_at most k.Name (spelling name) line = forward_if (bytes_eq name forward_name) line
body_at most kind payload line = block_by most

abbrev pub body : ℕ → Prog Body
body most = look (body_at most)

-- routine = heading ";" body ";"
abbrev pub routine_by : ℕ → Prog Heading → Prog Routine
routine_by most heading =
    bind heading (λ head. bind (mark k.Semicolon) (λ behind. bind (body most) (λ all. bind (mark k.Semicolon)
    (λ end. done (record { heading = head; behind_heading = behind; body = all; end = end })))))

abbrev pub behind_routine : ℕ → List Routine → Kind → Payload → ℕ → Next (List Routine)
behind_routine most found k.Procedure nothing line =
    more (bind (routine_by most (procedure_behind most line)) (λ next. done (found ++ next ∷ [])))
behind_routine most found k.Function nothing line =
    more (bind (routine_by most (function_behind most line)) (λ next. done (found ++ next ∷ [])))
behind_routine most found kind payload line = ends

abbrev pub routines : ℕ → Prog (List Routine)
routines most = turns (behind_routine most) most []

-- ["(" id {"," id} ")"]
abbrev pub program_parameters_at : ℕ → Kind → Payload → ℕ → Prog (Option ProgramParameters)
program_parameters_at most k.LeftParenthesis nothing line =
    skip (bind (idents_by most) (λ names. bind (mark k.RightParenthesis)
    (λ closed. done (Some (record { opened = line; names = names; closed = closed })))))
program_parameters_at most kind payload line = done None

abbrev pub program_parameters : ℕ → Prog (Option ProgramParameters)
program_parameters most = look (program_parameters_at most)

-- "program" id ["(" id {"," id} ")"] ";"
pub record ProgramHead : Type 0 where
  pub line : ℕ
  pub name : Ident
  pub parameters : Option ProgramParameters
  pub end : ℕ

abbrev pub program_head : ℕ → Prog ProgramHead
program_head most =
    bind (mark k.Program) (λ line. bind ident (λ name. bind (program_parameters most) (λ all. bind (mark k.Semicolon)
    (λ end. done (record { line = line; name = name; parameters = all; end = end })))))

-- labels consts types vars {routine}
pub record Declarations : Type 0 where
  pub labels : Option Labels
  pub constants : Option (Rows ConstantRow)
  pub types : Option (Rows TypeRow)
  pub variables : Option (Rows VariableRow)
  pub routines : List Routine

abbrev pub declarations : ℕ → Prog Declarations
declarations most =
    bind (labels most) (λ labels. bind (constant_rows most) (λ constants. bind (type_rows most) (λ types. bind
    (variable_rows most) (λ variables. bind (routines most) (λ routines. done (record {
      labels = labels;
      constants = constants;
      types = types;
      variables = variables;
      routines = routines;
    }))))))

-- a program up to its dot
pub record Front : Type 0 where
  pub head : ProgramHead
  pub declarations : Declarations
  pub body : Compound
  pub dot : ℕ

abbrev pub front : ℕ → Prog Front
front most =
    bind (program_head most) (λ head. bind (declarations most) (λ all. bind (compound most 0) (λ body. bind
    (mark k.Dot) (λ dot. done (record { head = head; declarations = all; body = body; dot = dot })))))

abbrev pub program_of : Front → ℕ → Program
program_of front end =
    record {
      line = front.head.line;
      name = front.head.name;
      parameters = front.head.parameters;
      behind_heading = front.head.end;
      labels = front.declarations.labels;
      constants = front.declarations.constants;
      types = front.declarations.types;
      variables = front.declarations.variables;
      routines = front.declarations.routines;
      body = front.body;
      dot = front.dot;
      end = end;
    }

-- the end of the text, before which reading stays
abbrev pub end_at : Front → Kind → Payload → ℕ → Prog Program
end_at front k.EndOfText payload line = done (program_of front line)
end_at front kind payload line = fail misplaced

-- a whole text
unfoldable pub program : ℕ → Prog Program
program most = bind (front most) (λ front. look (end_at front))
