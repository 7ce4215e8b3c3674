-- A program as it is read: its tree, of which the spans are parts of the spellings. This project's own.
use Rattle.std.specs.Prelude.{ℕ, List}
use Rattle.pas_syntax.specs.declared.tree.ProgramTree.{ProgramTree}

pub record Parsed : Type 0 where
  pub spellings : List ℕ
  pub tree : ProgramTree
