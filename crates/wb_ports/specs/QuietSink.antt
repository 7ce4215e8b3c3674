-- A sink that never fails, as its clauses see it. This project's own.
use Rattle.std.specs.Prelude.{ℕ, ◌+◌, ◌++◌, List, length, nat_lt, if◌then◌else◌, Option, Some, None}

-- the bytes that it has got, where it tells them, and how many it has room for
pub record QuietState : Type 0 where
  pub told : Option (List ℕ)
  pub room : ℕ

-- what a sink with room for so many bytes tells after a piece: nothing, once a piece was dropped that did not fit
abbrev pub told_after : ℕ → List ℕ → Option (List ℕ) → Option (List ℕ)
told_after room piece None = None
told_after room piece (Some bytes) = if nat_lt room (length bytes + length piece) then None else Some (bytes ++ piece)
