-- A sink over a stream, as its clauses see it.
use Rattle.std.specs.Prelude.{ℕ, List, Option}

-- what the stream holds, where std knows that, and how many calls failed
pub record StreamState : Type 0 where
  pub written : Option (List ℕ)
  pub faults : ℕ
