-- Trees of Pascal: a constructor for each choice of the grammar (ISO 7185, 6, in this project's profile). Each token of
-- a production is there by its line, or with what it says. A form that the profile leaves out is a constructor too, of
-- the one token that shows it; no tree that is read has it.
use Rattle.std.specs.Prelude.{ℕ, List, codes, Option}
use Rattle.pas_syntax.specs.declared.operators.Sign.{Sign}
use Rattle.pas_syntax.specs.declared.operators.Multiplying.{Multiplying}
use Rattle.pas_syntax.specs.declared.operators.Adding.{Adding}
use Rattle.pas_syntax.specs.declared.operators.Relation.{Relation}
use Rattle.pas_syntax.specs.declared.operators.Way.{Way}

-- two names that are not reserved, and have a meaning where the grammar says so
abbrev pub others_name : List ℕ
others_name = codes "others"

abbrev pub forward_name : List ℕ
forward_name = codes "forward"

-- a name, a number and a string, each with its line
pub record Ident : Type 0 where
  pub name : List ℕ
  pub line : ℕ

pub record Numeral : Type 0 where
  pub value : ℕ
  pub line : ℕ

pub record Quoted : Type 0 where
  pub text : List ℕ
  pub line : ℕ

-- something behind a token of which the line is known: a comma, a colon, a semicolon
pub record Behind (A : Type 0) : Type 0 where
  pub line : ℕ
  pub item : A

-- a sign or an operator, and its line
pub record Lined (A : Type 0) : Type 0 where
  pub item : A
  pub line : ℕ

-- items with a separator before each but the first
pub record Separated (A : Type 0) : Type 0 where
  pub first : A
  pub more : List (Behind A)

-- ids = id {"," id}
abbrev pub Idents : Type 0
Idents = Separated Ident

-- const = ["+"|"-"] (number | id) | string
pub data Constant : Type 0 where
  number : Option (Lined Sign) → Numeral → Constant
  named : Option (Lined Sign) → Ident → Constant
  text : Quoted → Constant

-- what stands where a type may stand and is left out: `(` of an enumeration, `set`, or `^` of a pointer
pub data LeftOutType : Type 0 where
  enumeration : ℕ → LeftOutType
  set : ℕ → LeftOutType
  pointer : ℕ → LeftOutType

-- the name of a type, where no other form may stand
pub data TypeName : Type 0 where
  type_named : Ident → TypeName
  no_type_name : LeftOutType → TypeName

-- simple = id | const ".." const
pub data Simple : Type 0 where
  simple_named : Ident → Simple
  range : Constant → ℕ → Constant → Simple
  no_simple : LeftOutType → Simple

-- type = simple
--      | ["packed"] "array" "[" simple {"," simple} "]" "of" type
--      | ["packed"] "record" ids ":" type {";" ids ":" type} [";"] "end"
--      | ["packed"] "file" "of" type
mutual
  pub data TypeForm : Type 0 where
    simple : Simple → TypeForm
    array : Option ℕ → ℕ → ℕ → Separated Simple → ℕ → ℕ → TypeForm → TypeForm
    record_type : Option ℕ → ℕ → Fields → Option ℕ → ℕ → TypeForm
    file : Option ℕ → ℕ → ℕ → TypeForm → TypeForm

  pub data Fields : Type 0 where
    first_fields : Idents → ℕ → TypeForm → Fields
    more_fields : Fields → ℕ → Idents → ℕ → TypeForm → Fields

-- expr   = sum [("="|"<>"|"<"|"<="|">"|">=") sum]
-- sum    = ["+"|"-"] term {("+"|"-"|"or") term}
-- term   = factor {("*"|"div"|"mod"|"and") factor}
-- factor = number | string | "(" expr ")" | "not" factor | var | id "(" expr {"," expr} ")"
-- var    = id {"[" expr {"," expr} "]" | "." id | "^"}
mutual
  pub data Expr : Type 0 where
    sum : Sum → Expr
    relation : Sum → Lined Relation → Sum → Expr

  pub data Sum : Type 0 where
    first_term : Term → Sum
    signed_term : Lined Sign → Term → Sum
    more_terms : Sum → Lined Adding → Term → Sum
    membership : Sum → ℕ → Sum

  pub data Term : Type 0 where
    first_factor : Factor → Term
    more_factors : Term → Lined Multiplying → Factor → Term
    quotient : Term → ℕ → Term

  pub data Factor : Type 0 where
    literal : Numeral → Factor
    literal_text : Quoted → Factor
    parenthesized : ℕ → Expr → ℕ → Factor
    negated : ℕ → Factor → Factor
    variable : Variable → Factor
    function_call : Ident → ℕ → Exprs → ℕ → Factor
    set_value : ℕ → Factor
    nil : ℕ → Factor

  pub data Variable : Type 0 where
    whole : Ident → Variable
    indexed : Variable → ℕ → Exprs → ℕ → Variable
    field_of : Variable → ℕ → Ident → Variable
    buffer_of : Variable → ℕ → Variable

  pub data Exprs : Type 0 where
    first_expr : Expr → Exprs
    more_exprs : Exprs → ℕ → Expr → Exprs

-- arg = expr [":" expr]
pub record Argument : Type 0 where
  pub value : Expr
  pub width : Option (Behind Expr)

pub record Arguments : Type 0 where
  pub opened : ℕ
  pub items : Separated Argument
  pub closed : ℕ

-- list  = stmt {";" stmt}
-- stmt  = [number ":"] plain
-- plain = empty | var ":=" expr | id ["(" arg {"," arg} ")"] | "begin" list "end"
--       | "if" expr "then" stmt ["else" stmt]
--       | "case" expr "of" elem {";" elem} [";" ["others" ":" stmt [";"]]] "end"
--       | "while" expr "do" stmt | "repeat" list "until" expr
--       | "for" id ":=" expr ("to"|"downto") expr "do" stmt | "goto" number
-- elem  = const {"," const} ":" stmt
mutual
  pub data Plain : Type 0 where
    empty : Plain
    assignment : Variable → ℕ → Expr → Plain
    procedure_call : Ident → Option Arguments → Plain
    compound : ℕ → Statements → ℕ → Plain
    if_then : ℕ → Expr → ℕ → Statement → Plain
    if_else : ℕ → Expr → ℕ → Statement → ℕ → Statement → Plain
    case : ℕ → Expr → ℕ → Elements → Others → ℕ → Plain
    while : ℕ → Expr → ℕ → Statement → Plain
    repeat : ℕ → Statements → ℕ → Expr → Plain
    for : ℕ → Ident → ℕ → Expr → Lined Way → Expr → ℕ → Statement → Plain
    goto : ℕ → Numeral → Plain
    with_statement : ℕ → Plain

  pub data Statement : Type 0 where
    unlabelled : Plain → Statement
    labelled : Numeral → ℕ → Plain → Statement

  pub data Statements : Type 0 where
    first_statement : Statement → Statements
    more_statements : Statements → ℕ → Statement → Statements

  pub data Elements : Type 0 where
    first_element : Separated Constant → ℕ → Statement → Elements
    more_elements : Elements → ℕ → Separated Constant → ℕ → Statement → Elements

  -- what stands behind the elements: nothing, a semicolon, or others behind a semicolon, with one behind them or not
  pub data Others : Type 0 where
    no_others : Others
    semicolon : ℕ → Others
    others : ℕ → ℕ → ℕ → Statement → Option ℕ → Others

-- labels = ["label" number {"," number} ";"]
pub record Labels : Type 0 where
  pub line : ℕ
  pub numbers : Separated Numeral
  pub end : ℕ

-- consts = ["const" id "=" const ";" {id "=" const ";"}]
pub record ConstantRow : Type 0 where
  pub name : Ident
  pub equals : ℕ
  pub value : Constant
  pub end : ℕ

-- types = ["type" id "=" type ";" {id "=" type ";"}]
pub record TypeRow : Type 0 where
  pub name : Ident
  pub equals : ℕ
  pub form : TypeForm
  pub end : ℕ

-- vars = ["var" ids ":" type ";" {ids ":" type ";"}]
pub record VariableRow : Type 0 where
  pub names : Idents
  pub colon : ℕ
  pub form : TypeForm
  pub end : ℕ

-- a part of the declarations: its word, and one row or more
pub record Rows (A : Type 0) : Type 0 where
  pub line : ℕ
  pub first : A
  pub more : List A

-- param = ["var"] ids ":" id. A routine as a parameter is left out: `procedure` or `function`
pub data Parameter : Type 0 where
  parameters : Option ℕ → Idents → ℕ → TypeName → Parameter
  procedure_parameter : ℕ → Parameter
  function_parameter : ℕ → Parameter

-- params = "(" param {";" param} ")"
pub record Parameters : Type 0 where
  pub opened : ℕ
  pub items : Separated Parameter
  pub closed : ℕ

-- a routine's heading: "procedure" id [params] | "function" id [params] [":" id]
pub data Heading : Type 0 where
  procedure : ℕ → Ident → Option Parameters → Heading
  function : ℕ → Ident → Option Parameters → Option (Behind TypeName) → Heading

-- a compound statement: "begin" list "end"
pub record Compound : Type 0 where
  pub begin : ℕ
  pub list : Statements
  pub end : ℕ

-- what stands behind the heading: "forward" | labels vars compound
pub data Body : Type 0 where
  forward : ℕ → Body
  block : Option Labels → Option (Rows VariableRow) → Compound → Body

-- routine = heading ";" body ";"
pub record Routine : Type 0 where
  pub heading : Heading
  pub behind_heading : ℕ
  pub body : Body
  pub end : ℕ

-- the parameters of a program: "(" id {"," id} ")"
pub record ProgramParameters : Type 0 where
  pub opened : ℕ
  pub names : Idents
  pub closed : ℕ

-- program = "program" id ["(" id {"," id} ")"] ";" labels consts types vars {routine} compound "."
pub record Program : Type 0 where
  pub line : ℕ
  pub name : Ident
  pub parameters : Option ProgramParameters
  pub behind_heading : ℕ
  pub labels : Option Labels
  pub constants : Option (Rows ConstantRow)
  pub types : Option (Rows TypeRow)
  pub variables : Option (Rows VariableRow)
  pub routines : List Routine
  pub body : Compound
  pub dot : ℕ
  -- the line of the end of the text
  pub end : ℕ
