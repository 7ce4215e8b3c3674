-- A port over two streams, as its clauses see it. This project's own.
use Rattle.std.specs.Prelude.{ℕ, List, Bool, Option}
use Rattle.wb_ports.specs.declared.port.Mode.{Mode}

-- what it is in use for; how many bytes it may still give, and whether it has given one; what is left of the stream
-- that is read, and what the one that is written holds, where std knows that; what is read and not yet taken; and how
-- many calls failed
pub record StdPortState : Type 0 where
  pub mode : Mode
  pub left : ℕ
  pub is_taken : Bool
  pub unread : Option (List ℕ)
  pub written : Option (List ℕ)
  pub ahead : List ℕ
  pub failures : ℕ
