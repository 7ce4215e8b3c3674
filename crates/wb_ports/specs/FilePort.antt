-- A port over a real file, as its clauses see it. This project's own.
use Rattle.std.specs.Prelude.{ℕ, List, [], ◌∷◌, Option, Some, None}
use Rattle.std.specs.Io.KnownBytes.{Keeps, Consumes, IsAtEnd}
use Rattle.wb_ports.specs.declared.port.Mode.{Mode}

-- what it is in use for; how many bytes it may still give; what the file that is written will hold, and what is left
-- of the one that is read, where std knows that; what is put and not yet handed on; what is read and not yet taken; and
-- how many calls failed
pub record FilePortState : Type 0 where
  pub mode : Mode
  pub left : ℕ
  pub written : Option (List ℕ)
  pub unread : Option (List ℕ)
  pub gathered : List ℕ
  pub ahead : List ℕ
  pub failures : ℕ

-- what `take` answers of the known bytes that are left: the next, which it passes; or none at the end
abbrev pub TakesNext : Option ℕ → Option (List ℕ) → Option (List ℕ) → Type 0
TakesNext None before now = Keeps before now × IsAtEnd now
TakesNext (Some byte) before now = Consumes before now (byte ∷ [])
