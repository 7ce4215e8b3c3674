-- Bytes that are read from a file into a text. No public contract cites this.
use Rattle.std.specs.Prelude.{◌≡◌, ℕ, List, ◌++◌, Option, Some, None, ⊤}

-- bytes moved from what a reader has left, where that is known, to the end of a text
abbrev pub Moves : Option (List ℕ) → Option (List ℕ) → List ℕ → List ℕ → Type 0
Moves None left before now = ⊤
Moves (Some all) None before now = ⊥
Moves (Some all) (Some left) before now = now ++ left ≡ before ++ all
