-- How a tree is spelled: its words, an equation for each choice of the grammar (ISO 7185, 6, in this project's
-- profile). A word is a token with what the limits of nesting count at it: the forms that are open, and, at an
-- operator, the operators on the longest way down to it and through its left operand. Which forms count is this
-- project's own.
use Rattle.std.specs.Prelude.{ℕ, ◌+◌, max, List, [], ◌∷◌, ◌++◌, Option, Some, None}
use Rattle.std.specs.List.{flat_map}
use Rattle.wb_base.specs.declared.faults.TheConstants.{REAL_NUMBERS, ENUMERATIONS, SETS, POINTERS, WITH_STATEMENTS}
use Rattle.wb_base.specs.declared.faults.TheConstants.{ROUTINES_AS_PARAMETERS}
use Rattle.pas_tokens.specs.declared.kinds.Kind.{Kind}
use Rattle.pas_tokens.specs.declared.kinds.Kind.TheVariants as k
use Rattle.pas_tokens.specs.Cutting.{Payload, nothing, value, spelling}
use Rattle.pas_tokens.specs.Tokens.{Token}
use Rattle.pas_syntax.specs.declared.operators.Sign.{Sign}
use Rattle.pas_syntax.specs.declared.operators.Sign.TheVariants as sign
use Rattle.pas_syntax.specs.declared.operators.Multiplying.{Multiplying}
use Rattle.pas_syntax.specs.declared.operators.Multiplying.TheVariants as multiplying
use Rattle.pas_syntax.specs.declared.operators.Adding.{Adding}
use Rattle.pas_syntax.specs.declared.operators.Adding.TheVariants as adding
use Rattle.pas_syntax.specs.declared.operators.Relation.{Relation}
use Rattle.pas_syntax.specs.declared.operators.Relation.TheVariants as relates
use Rattle.pas_syntax.specs.declared.operators.Way.{Way}
use Rattle.pas_syntax.specs.declared.operators.Way.TheVariants as way
use Rattle.pas_syntax.specs.Tree as tree
use Rattle.pas_syntax.specs.Tree.{Ident, Numeral, Quoted, Behind, Lined, Separated, Idents, Constant, LeftOutType}
use Rattle.pas_syntax.specs.Tree.{TypeName, Simple, TypeForm, Fields, Expr, Sum, Term, Factor, Variable, Exprs}
use Rattle.pas_syntax.specs.Tree.{Argument, Arguments, Plain, Statement, Statements, Elements, Others, Labels}
use Rattle.pas_syntax.specs.Tree.{ConstantRow, TypeRow, VariableRow, Rows, Parameter, Parameters, Heading, Compound}
use Rattle.pas_syntax.specs.Tree.{Body, Routine, ProgramParameters, Program}

-- a token, how many forms are open at it, how many operators count at it, and the part of Pascal that it shows, where
-- that is left out
pub record Word : Type 0 where
  pub token : Token
  pub forms : ℕ
  pub operators : ℕ
  pub left_out : Option ℕ

-- a token that says something, inside so many forms
abbrev pub says : ℕ → Kind → Payload → ℕ → Word
says n kind payload line =
    record {
      token = record { kind = kind; payload = payload; line = line };
      forms = n;
      operators = 0;
      left_out = None;
    }

-- a reserved word or a sign; an operator at which so many count; and a token that shows what is left out
abbrev pub at : ℕ → Kind → ℕ → Word
at n kind line = says n kind nothing line

abbrev pub operator : ℕ → ℕ → Kind → ℕ → Word
operator n count kind line = record (at n kind line) { operators = count }

abbrev pub shows : ℕ → Kind → ℕ → ℕ → Word
shows n kind line part = record (at n kind line) { left_out = Some part }

-- a name, a number, a string
abbrev pub name_at : ℕ → Ident → Word
name_at n ident = says n k.Name (spelling ident.name) ident.line

abbrev pub number_at : ℕ → Numeral → Word
number_at n numeral = says n k.Number (value numeral.value) numeral.line

abbrev pub text_at : ℕ → Quoted → Word
text_at n quoted = says n k.Text (spelling quoted.text) quoted.line

-- a token that may stand there
abbrev pub maybe : ℕ → Kind → Option ℕ → List Word
maybe n kind None = []
maybe n kind (Some line) = at n kind line ∷ []

-- what may stand there
abbrev pub words_if : {A : Type 0} → (A → List Word) → Option A → List Word
words_if words None = []
words_if words (Some item) = words item

-- items with this separator between them
abbrev pub separated : {A : Type 0} → ℕ → Kind → (A → List Word) → Separated A → List Word
separated n kind words items =
    words items.first ++ flat_map (λ behind. at n kind behind.line ∷ words behind.item) items.more

abbrev pub idents_words : ℕ → Idents → List Word
idents_words n names = separated n k.Comma (λ ident. name_at n ident ∷ []) names

abbrev pub sign_kind : Sign → Kind
sign_kind sign.Plus = k.Plus
sign_kind sign.Minus = k.Minus

-- constants and types

abbrev pub constant_sign : ℕ → Lined Sign → List Word
constant_sign n lead = at n (sign_kind lead.item) lead.line ∷ []

abbrev pub constant_words : ℕ → Constant → List Word
constant_words n (tree.number lead numeral) = words_if (constant_sign n) lead ++ number_at n numeral ∷ []
constant_words n (tree.named lead ident) = words_if (constant_sign n) lead ++ name_at n ident ∷ []
constant_words n (tree.text quoted) = text_at n quoted ∷ []

abbrev pub left_out_type_words : ℕ → LeftOutType → List Word
left_out_type_words n (tree.enumeration line) = shows n k.LeftParenthesis line ENUMERATIONS ∷ []
left_out_type_words n (tree.set line) = shows n k.Set line SETS ∷ []
left_out_type_words n (tree.pointer line) = shows n k.Caret line POINTERS ∷ []

abbrev pub type_name_words : ℕ → TypeName → List Word
type_name_words n (tree.type_named ident) = name_at n ident ∷ []
type_name_words n (tree.no_type_name form) = left_out_type_words n form

abbrev pub simple_words : ℕ → Simple → List Word
simple_words n (tree.simple_named ident) = name_at n ident ∷ []
simple_words n (tree.range low line high) = constant_words n low ++ at n k.Dots line ∷ constant_words n high
simple_words n (tree.no_simple form) = left_out_type_words n form

-- array, record and file types are open forms up to their end, and so is the list of indexes
abbrev mutual
  pub type_words : ℕ → TypeForm → List Word
  type_words n (tree.simple form) = simple_words n form
  type_words n (tree.array packed line opened indexes closed of_line element) =
      maybe n k.Packed packed ++ at (n + 1) k.Array line ∷ (at (n + 2) k.LeftBracket opened
      ∷ (separated (n + 2) k.Comma (simple_words (n + 2)) indexes ++ at (n + 2) k.RightBracket closed
      ∷ (at (n + 1) k.Of of_line ∷ type_words (n + 1) element)))
  type_words n (tree.record_type packed line fields semicolon end) =
      maybe n k.Packed packed ++ at (n + 1) k.Record line ∷ (fields_words (n + 1) fields
      ++ (maybe (n + 1) k.Semicolon semicolon ++ at (n + 1) k.End end ∷ []))
  type_words n (tree.file packed line of_line element) =
      maybe n k.Packed packed ++ at (n + 1) k.File line ∷ (at (n + 1) k.Of of_line ∷ type_words (n + 1) element)

  pub fields_words : ℕ → Fields → List Word
  fields_words n (tree.first_fields names colon form) =
      idents_words n names ++ at n k.Colon colon ∷ type_words n form
  fields_words n (tree.more_fields fields line names colon form) =
      fields_words n fields ++ at n k.Semicolon line
      ∷ (idents_words n names ++ at n k.Colon colon ∷ type_words n form)

-- expressions

abbrev pub multiplying_kind : Multiplying → Kind
multiplying_kind multiplying.Times = k.Star
multiplying_kind multiplying.Div = k.Div
multiplying_kind multiplying.Mod = k.Mod
multiplying_kind multiplying.And = k.And

abbrev pub adding_kind : Adding → Kind
adding_kind adding.Plus = k.Plus
adding_kind adding.Minus = k.Minus
adding_kind adding.Or = k.Or

abbrev pub relation_kind : Relation → Kind
relation_kind relates.Equal = k.Equal
relation_kind relates.NotEqual = k.NotEqual
relation_kind relates.Less = k.Less
relation_kind relates.LessOrEqual = k.LessOrEqual
relation_kind relates.Greater = k.Greater
relation_kind relates.GreaterOrEqual = k.GreaterOrEqual

-- how many operators stand on the longest way down, through parentheses, indexes and arguments too
abbrev mutual
  pub depth_of : Expr → ℕ
  depth_of (tree.sum s) = sum_depth s
  depth_of (tree.relation left op right) = max (sum_depth left) (sum_depth right) + 1

  pub sum_depth : Sum → ℕ
  sum_depth (tree.first_term t) = term_depth t
  sum_depth (tree.signed_term lead t) = term_depth t + 1
  sum_depth (tree.more_terms left op t) = max (sum_depth left) (term_depth t) + 1
  sum_depth (tree.membership left line) = sum_depth left

  pub term_depth : Term → ℕ
  term_depth (tree.first_factor f) = factor_depth f
  term_depth (tree.more_factors left op f) = max (term_depth left) (factor_depth f) + 1
  term_depth (tree.quotient left line) = term_depth left

  pub factor_depth : Factor → ℕ
  factor_depth (tree.literal numeral) = 0
  factor_depth (tree.literal_text quoted) = 0
  factor_depth (tree.parenthesized opened e closed) = depth_of e
  factor_depth (tree.negated line f) = factor_depth f + 1
  factor_depth (tree.variable v) = variable_depth v
  factor_depth (tree.function_call name opened arguments closed) = exprs_depth arguments
  factor_depth (tree.set_value line) = 0
  factor_depth (tree.nil line) = 0

  pub variable_depth : Variable → ℕ
  variable_depth (tree.whole ident) = 0
  variable_depth (tree.indexed v opened indexes closed) = max (variable_depth v) (exprs_depth indexes)
  variable_depth (tree.field_of v line ident) = variable_depth v
  variable_depth (tree.buffer_of v line) = variable_depth v

  pub exprs_depth : Exprs → ℕ
  exprs_depth (tree.first_expr e) = depth_of e
  exprs_depth (tree.more_exprs others line e) = max (exprs_depth others) (depth_of e)

-- inside n open forms and, of the operators read so far, in the operands of `a`
abbrev mutual
  pub expr_words : ℕ → ℕ → Expr → List Word
  expr_words n a (tree.sum s) = sum_words n a s
  expr_words n a (tree.relation left op right) =
      sum_words n a left ++ operator n (a + 1 + sum_depth left) (relation_kind op.item) op.line
      ∷ sum_words n (a + 1) right

  pub sum_words : ℕ → ℕ → Sum → List Word
  sum_words n a (tree.first_term t) = term_words n a t
  sum_words n a (tree.signed_term lead t) =
      operator n (a + 1) (sign_kind lead.item) lead.line ∷ term_words n (a + 1) t
  sum_words n a (tree.more_terms left op t) =
      sum_words n a left ++ operator n (a + 1 + sum_depth left) (adding_kind op.item) op.line
      ∷ term_words n (a + 1) t
  sum_words n a (tree.membership left line) = sum_words n a left ++ shows n k.In line SETS ∷ []

  pub term_words : ℕ → ℕ → Term → List Word
  term_words n a (tree.first_factor f) = factor_words n a f
  term_words n a (tree.more_factors left op f) =
      term_words n a left ++ operator n (a + 1 + term_depth left) (multiplying_kind op.item) op.line
      ∷ factor_words n (a + 1) f
  term_words n a (tree.quotient left line) = term_words n a left ++ shows n k.Slash line REAL_NUMBERS ∷ []

  pub factor_words : ℕ → ℕ → Factor → List Word
  factor_words n a (tree.literal numeral) = number_at n numeral ∷ []
  factor_words n a (tree.literal_text quoted) = text_at n quoted ∷ []
  factor_words n a (tree.parenthesized opened e closed) =
      at (n + 1) k.LeftParenthesis opened ∷ (expr_words (n + 1) a e ++ at (n + 1) k.RightParenthesis closed ∷ [])
  factor_words n a (tree.negated line f) = operator n (a + 1) k.Not line ∷ factor_words n (a + 1) f
  factor_words n a (tree.variable v) = variable_words n a v
  factor_words n a (tree.function_call name opened arguments closed) =
      name_at n name ∷ (at (n + 1) k.LeftParenthesis opened ∷ (exprs_words (n + 1) a arguments
      ++ at (n + 1) k.RightParenthesis closed ∷ []))
  factor_words n a (tree.set_value line) = shows n k.LeftBracket line SETS ∷ []
  factor_words n a (tree.nil line) = shows n k.Nil line POINTERS ∷ []

  pub variable_words : ℕ → ℕ → Variable → List Word
  variable_words n a (tree.whole ident) = name_at n ident ∷ []
  variable_words n a (tree.indexed v opened indexes closed) =
      variable_words n a v ++ at (n + 1) k.LeftBracket opened ∷ (exprs_words (n + 1) a indexes
      ++ at (n + 1) k.RightBracket closed ∷ [])
  variable_words n a (tree.field_of v line ident) = variable_words n a v ++ at n k.Dot line ∷ (name_at n ident ∷ [])
  variable_words n a (tree.buffer_of v line) = variable_words n a v ++ at n k.Caret line ∷ []

  pub exprs_words : ℕ → ℕ → Exprs → List Word
  exprs_words n a (tree.first_expr e) = expr_words n a e
  exprs_words n a (tree.more_exprs others line e) = exprs_words n a others ++ at n k.Comma line ∷ expr_words n a e

-- statements

abbrev pub width_words : ℕ → Behind Expr → List Word
width_words n width = at n k.Colon width.line ∷ expr_words n 0 width.item

abbrev pub argument_words : ℕ → Argument → List Word
argument_words n argument = expr_words n 0 argument.value ++ words_if (width_words n) argument.width

abbrev pub arguments_words : ℕ → Arguments → List Word
arguments_words n arguments =
    at (n + 1) k.LeftParenthesis arguments.opened
    ∷ (separated (n + 1) k.Comma (argument_words (n + 1)) arguments.items
    ++ at (n + 1) k.RightParenthesis arguments.closed ∷ [])

abbrev pub way_kind : Way → Kind
way_kind way.Up = k.To
way_kind way.Down = k.Downto

-- the name `others`
abbrev pub others_word : ℕ → ℕ → Word
others_word n line = says n k.Name (spelling tree.others_name) line

-- a compound and every other structured statement is an open form up to its end
abbrev mutual
  pub plain_words : ℕ → Plain → List Word
  plain_words n tree.empty = []
  plain_words n (tree.assignment v line e) = variable_words n 0 v ++ at n k.Becomes line ∷ expr_words n 0 e
  plain_words n (tree.procedure_call name arguments) = name_at n name ∷ words_if (arguments_words n) arguments
  plain_words n (tree.compound begin list end) =
      at (n + 1) k.Begin begin ∷ (statements_words (n + 1) list ++ at (n + 1) k.End end ∷ [])
  plain_words n (tree.if_then line e then_line s) =
      at (n + 1) k.If line ∷ (expr_words (n + 1) 0 e ++ at (n + 1) k.Then then_line ∷ statement_words (n + 1) s)
  plain_words n (tree.if_else line e then_line s else_line t) =
      at (n + 1) k.If line ∷ (expr_words (n + 1) 0 e ++ at (n + 1) k.Then then_line ∷ (statement_words (n + 1) s
      ++ at (n + 1) k.Else else_line ∷ statement_words (n + 1) t))
  plain_words n (tree.case line e of_line elements tail end) =
      at (n + 1) k.Case line ∷ (expr_words (n + 1) 0 e ++ at (n + 1) k.Of of_line ∷ (elements_words (n + 1) elements
      ++ (others_words (n + 1) tail ++ at (n + 1) k.End end ∷ [])))
  plain_words n (tree.while line e do_line s) =
      at (n + 1) k.While line ∷ (expr_words (n + 1) 0 e ++ at (n + 1) k.Do do_line ∷ statement_words (n + 1) s)
  plain_words n (tree.repeat line list until e) =
      at (n + 1) k.Repeat line ∷ (statements_words (n + 1) list ++ at (n + 1) k.Until until ∷ expr_words (n + 1) 0 e)
  plain_words n (tree.for line name becomes first toward last do_line s) =
      at (n + 1) k.For line ∷ (name_at (n + 1) name ∷ (at (n + 1) k.Becomes becomes ∷ (expr_words (n + 1) 0 first
      ++ at (n + 1) (way_kind toward.item) toward.line ∷ (expr_words (n + 1) 0 last
      ++ at (n + 1) k.Do do_line ∷ statement_words (n + 1) s))))
  plain_words n (tree.goto line numeral) = at n k.Goto line ∷ (number_at n numeral ∷ [])
  plain_words n (tree.with_statement line) = shows n k.With line WITH_STATEMENTS ∷ []

  pub statement_words : ℕ → Statement → List Word
  statement_words n (tree.unlabelled s) = plain_words n s
  statement_words n (tree.labelled numeral colon s) = number_at n numeral ∷ (at n k.Colon colon ∷ plain_words n s)

  pub statements_words : ℕ → Statements → List Word
  statements_words n (tree.first_statement s) = statement_words n s
  statements_words n (tree.more_statements list line s) =
      statements_words n list ++ at n k.Semicolon line ∷ statement_words n s

  pub elements_words : ℕ → Elements → List Word
  elements_words n (tree.first_element constants colon s) =
      separated n k.Comma (constant_words n) constants ++ at n k.Colon colon ∷ statement_words n s
  elements_words n (tree.more_elements elements line constants colon s) =
      elements_words n elements ++ at n k.Semicolon line
      ∷ (separated n k.Comma (constant_words n) constants ++ at n k.Colon colon ∷ statement_words n s)

  pub others_words : ℕ → Others → List Word
  others_words n tree.no_others = []
  others_words n (tree.semicolon line) = at n k.Semicolon line ∷ []
  others_words n (tree.others line others_line colon s semicolon) =
      at n k.Semicolon line ∷ (others_word n others_line ∷ (at n k.Colon colon ∷ (statement_words n s
      ++ maybe n k.Semicolon semicolon)))

-- declarations and the program

abbrev pub labels_words : Labels → List Word
labels_words labels =
    at 0 k.Label labels.line ∷ (separated 0 k.Comma (λ numeral. number_at 0 numeral ∷ []) labels.numbers
    ++ at 0 k.Semicolon labels.end ∷ [])

abbrev pub constant_row_words : ConstantRow → List Word
constant_row_words row =
    name_at 0 row.name ∷ (at 0 k.Equal row.equals ∷ (constant_words 0 row.value ++ at 0 k.Semicolon row.end ∷ []))

abbrev pub type_row_words : TypeRow → List Word
type_row_words row =
    name_at 0 row.name ∷ (at 0 k.Equal row.equals ∷ (type_words 0 row.form ++ at 0 k.Semicolon row.end ∷ []))

abbrev pub variable_row_words : VariableRow → List Word
variable_row_words row =
    idents_words 0 row.names ++ at 0 k.Colon row.colon ∷ (type_words 0 row.form ++ at 0 k.Semicolon row.end ∷ [])

-- a part of the declarations that begins with this word
abbrev pub rows_words : {A : Type 0} → Kind → (A → List Word) → Rows A → List Word
rows_words kind words rows = at 0 kind rows.line ∷ (words rows.first ++ flat_map words rows.more)

abbrev pub parameter_words : ℕ → Parameter → List Word
parameter_words n (tree.parameters by_name names colon type) =
    maybe n k.Var by_name ++ (idents_words n names ++ at n k.Colon colon ∷ type_name_words n type)
parameter_words n (tree.procedure_parameter line) = shows n k.Procedure line ROUTINES_AS_PARAMETERS ∷ []
parameter_words n (tree.function_parameter line) = shows n k.Function line ROUTINES_AS_PARAMETERS ∷ []

abbrev pub parameters_words : Parameters → List Word
parameters_words parameters =
    at 1 k.LeftParenthesis parameters.opened
    ∷ (separated 1 k.Semicolon (parameter_words 1) parameters.items ++ at 1 k.RightParenthesis parameters.closed ∷ [])

abbrev pub result_words : Behind TypeName → List Word
result_words result = at 0 k.Colon result.line ∷ type_name_words 0 result.item

abbrev pub heading_words : Heading → List Word
heading_words (tree.procedure line name parameters) =
    at 0 k.Procedure line ∷ (name_at 0 name ∷ words_if parameters_words parameters)
heading_words (tree.function line name parameters result) =
    at 0 k.Function line ∷ (name_at 0 name ∷ (words_if parameters_words parameters ++ words_if result_words result))

abbrev pub compound_words : Compound → List Word
compound_words body = at 1 k.Begin body.begin ∷ (statements_words 1 body.list ++ at 1 k.End body.end ∷ [])

abbrev pub body_words : Body → List Word
body_words (tree.forward line) = says 0 k.Name (spelling tree.forward_name) line ∷ []
body_words (tree.block labels variables body) =
    words_if labels_words labels ++ (words_if (rows_words k.Var variable_row_words) variables ++ compound_words body)

abbrev pub routine_words : Routine → List Word
routine_words routine =
    heading_words routine.heading ++ at 0 k.Semicolon routine.behind_heading
    ∷ (body_words routine.body ++ at 0 k.Semicolon routine.end ∷ [])

abbrev pub program_parameters_words : ProgramParameters → List Word
program_parameters_words parameters =
    at 1 k.LeftParenthesis parameters.opened ∷ (idents_words 1 parameters.names
    ++ at 1 k.RightParenthesis parameters.closed ∷ [])

-- a program, and the end of the text
unfoldable pub program_words : Program → List Word
program_words program =
    at 0 k.Program program.line ∷ (name_at 0 program.name ∷ (words_if program_parameters_words program.parameters
    ++ at 0 k.Semicolon program.behind_heading ∷ (words_if labels_words program.labels
    ++ (words_if (rows_words k.Const constant_row_words) program.constants
    ++ (words_if (rows_words k.Type type_row_words) program.types
    ++ (words_if (rows_words k.Var variable_row_words) program.variables
    ++ (flat_map routine_words program.routines
    ++ (compound_words program.body ++ at 0 k.Dot program.dot ∷ (at 0 k.EndOfText program.end ∷ [])))))))))
