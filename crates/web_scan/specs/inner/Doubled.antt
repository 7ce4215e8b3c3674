-- Doubled bytes at the begin of a text.
use Rattle.std.specs.Prelude.{ℕ, ◌==◌, ◌&&◌, Bool, false, List, [], ◌∷◌}
use Rattle.web_lex.specs.Codes.{is_one_of}

-- whether a text begins with one of these bytes twice
abbrev pub begins_doubled : List ℕ → List ℕ → Bool
begins_doubled doubled [] = false
begins_doubled doubled (byte ∷ []) = false
begins_doubled doubled (byte ∷ (next ∷ bytes)) = byte == next && is_one_of doubled byte
