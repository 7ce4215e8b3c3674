-- What Pascal texts come to: the program that a text means, or its first fault. The grammar and its rules are those of
-- ISO 7185 in this project's profile.
use Rattle.std.specs.Prelude.{◌≡◌, ◌⊎◌, ℕ, List, Option, IfSome, Result, Ok, Err}
use Rattle.wb_base.specs.declared.faults.Fault.{Fault}
use Rattle.pas_syntax.specs.Tree.{Program}
use Rattle.pas_syntax.specs.Parse as grammar
use Rattle.pas_typed.specs.Typed.{TypedProgram}
use Rattle.pas_rules.specs.Check as rules

-- a program as its rules give it, and the line of its word `program`
pub record Pascal : Type 0 where
  pub program : TypedProgram
  pub line : ℕ

-- the text means this program, or has this fault: one of the grammar, or else of the rules
abbrev pub IsPascal : List ℕ → Result Pascal Fault → Type 0
IsPascal text (Ok pascal) =
    (tree : Program) × grammar.Means text tree × rules.Means tree pascal.program × (pascal.line ≡ tree.line)
IsPascal text (Err fault) =
    grammar.IsFaultOf text fault ⊎ ((tree : Program) × grammar.Means text tree × rules.IsFaultOf tree fault)

-- what some texts come to
abbrev pub Readings : Type 0
Readings = List ℕ → Option (Result Pascal Fault)

abbrev pub AreRight : Readings → Type 0
AreRight readings = (text : List ℕ) → IfSome (readings text) (IsPascal text)
