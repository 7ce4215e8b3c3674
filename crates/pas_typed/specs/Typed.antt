-- Typed programs: the tree of a program in which each name is resolved to a number and each place has its type. Names
-- stay where a translation prints them.
use Rattle.std.specs.Prelude.{ℕ, ℤ, List, Option}
use Rattle.pas_syntax.specs.declared.operators.Sign.{Sign}
use Rattle.pas_syntax.specs.declared.operators.Multiplying.{Multiplying}
use Rattle.pas_syntax.specs.declared.operators.Adding.{Adding}
use Rattle.pas_syntax.specs.declared.operators.Relation.{Relation}
use Rattle.pas_syntax.specs.declared.operators.Way.{Way}
use Rattle.pas_typed.specs.Types.{Base, Range, PasType, Table}

-- whether a variable is one of the program or of the routine
pub data Home : Type 0 where
  global : Home
  local : Home

-- what a variable is: declared as one, a value parameter, or a variable parameter
pub data Mode : Type 0 where
  declared : Mode
  by_value : Mode
  by_name : Mode

pub record Variable : Type 0 where
  pub name : List ℕ
  pub mode : Mode
  pub type : PasType

-- a variable by its home and its number there, where parameters come before declared variables
pub record Slot : Type 0 where
  pub home : Home
  pub number : ℕ
  pub mode : Mode
  pub type : PasType

-- the required functions of one ordinal argument
pub data Function : Type 0 where
  ord : Function
  chr : Function
  abs : Function
  odd : Function

-- the required functions that ask a file, and the steps of files
pub data FileTest : Type 0 where
  eof : FileTest
  eoln : FileTest

pub data FileStep : Type 0 where
  reset : FileStep
  rewrite : FileStep
  get : FileStep
  put : FileStep

-- values, and the places that variables are: an element by the range of its indexes, a field by its number
mutual
  pub data Value : Type 0 where
    constant : Base → ℤ → Value
    read : Place → Value
    call : ℕ → PasType → Passed → Value
    applied : Function → Value → Value
    tested : FileTest → Place → Value
    parenthesized : Value → Value
    signed : Sign → Value → Value
    negated : Value → Value
    product : Value → Multiplying → Value → Value
    addition : Value → Adding → Value → Value
    comparison : Value → Relation → Value → Value

  pub data Place : Type 0 where
    slot : Slot → Place
    element : Place → Range → PasType → Value → Place
    field : Place → ℕ → PasType → Place
    buffer : Place → PasType → Place

  -- the arguments of a call: a value for a parameter of this type, or a place for one by name, and the others
  pub data Passed : Type 0 where
    nothing : Passed
    value : PasType → Value → Passed → Passed
    reference : Place → Passed → Passed

-- an item that is written on a text, with its width if one is given
pub data Item : Type 0 where
  number_item : Value → Option Value → Item
  char_item : Value → Option Value → Item
  string_item : List ℕ → Option Value → Item

-- statements. The body of a loop is the list of a compound, or of one statement. A result is the cell behind the
-- variables of its function, by number; a goto to the last label halts with a status
mutual
  pub data Statement : Type 0 where
    empty : Statement
    assigns : Place → Value → Statement
    sets_result : ℕ → PasType → Value → Statement
    calls : ℕ → Passed → Statement
    compound : Statements → Statement
    if_then : Value → Statement → Statement
    if_else : Value → Statement → Statement → Statement
    case : Value → Arms → Statement
    case_others : Value → Arms → Statement → Statement
    while : Value → Statements → Statement
    repeat : Statements → Value → Statement
    for : Slot → Way → Value → Value → Statements → Statement
    goto : ℕ → Statement
    goto_last : ℕ → Statement
    file_step : FileStep → Place → Statement
    reads : Place → List Place → Statement
    reads_line : Place → List Place → Statement
    writes : Place → List Item → Statement
    writes_line : Place → List Item → Statement
    writes_bytes : Place → List Value → Statement
    halts : Value → Statement

  -- a statement with its label, if it has one, and those behind it
  pub data Statements : Type 0 where
    no_statements : Statements
    item : Option ℕ → Statement → Statements → Statements

  -- an element of a case with its constants, and those behind it
  pub data Arms : Type 0 where
    no_arms : Arms
    arm : List ℤ → Statement → Arms → Arms

-- what a heading tells of a routine: the type of its result, if it is a function, and its parameters
pub record Heading : Type 0 where
  pub name : List ℕ
  pub result : Option PasType
  pub parameters : List Variable

-- the body of a routine, by the routine's number; its variables are the parameters and then those of its declarations
pub record Body : Type 0 where
  pub routine : ℕ
  pub variables : List Variable
  pub labels : List ℕ
  pub statements : Statements

-- a program: its files are the numbers of the globals that its parameters are; the headings of routines stand in the
-- order of the first ones, the bodies in their own order
pub record TypedProgram : Type 0 where
  pub types : Table
  pub globals : List Variable
  pub files : List ℕ
  pub headings : List Heading
  pub bodies : List Body
  pub labels : List ℕ
  pub statements : Statements
