-- A shelf over real files, as its clauses see it.
use Rattle.std.specs.Prelude.{ℕ, Bool, List, Option}

-- whether a file is open, what the open file holds, where std knows that, and how many calls failed
pub record DirState : Type 0 where
  pub is_open : Bool
  pub written : Option (List ℕ)
  pub faults : ℕ
