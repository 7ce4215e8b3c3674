-- Bytes that are read by blocks and given one by one. No public contract cites this.
use Rattle.std.specs.Prelude.{◌≡◌, ℕ, ◌+◌, List, [], ◌∷◌, Option, Some, None}

-- what is read and not yet given, and how many bytes may still be given
pub record Unread : Type 0 where
  pub ahead : List ℕ
  pub left : ℕ

-- of what is read the next byte is given, which is one less that may be; or none, where all is given
abbrev pub GivesNext : Option ℕ → Unread → Unread → Type 0
GivesNext None before now = (before.ahead ≡ []) × (now ≡ before)
GivesNext (Some byte) before now = (before.ahead ≡ byte ∷ now.ahead) × (now.left + 1 ≡ before.left)
