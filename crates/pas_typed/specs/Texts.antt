-- The texts of strings (ISO 7185, 6.1.7).
use Rattle.std.specs.Prelude.{ℕ, ◌==◌, Bool, true, false, List, [], ◌∷◌}

-- the text of a string, in which each quote stands twice; it may begin behind the first quote of two
abbrev pub single_quote : ℕ
single_quote = 39

abbrev pub text_behind : Bool → List ℕ → List ℕ
text_behind behind_quote [] = []
text_behind true (byte ∷ bytes) = text_behind false bytes
text_behind false (byte ∷ bytes) = byte ∷ text_behind (byte == single_quote) bytes

abbrev pub undoubled : List ℕ → List ℕ
undoubled bytes = text_behind false bytes
