-- Bytes that are gathered on their way to a writer. No public contract cites this.
use Rattle.std.specs.Prelude.{ℕ, List}

-- what is kept back, and how many bytes there is room for
pub record Gathered : Type 0 where
  pub kept : List ℕ
  pub room : ℕ
