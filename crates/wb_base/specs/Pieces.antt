-- A text in pieces. That a text is cut at byte 10 is the WEB profile's.
use Rattle.std.specs.Prelude.{ℕ, ◌==◌, Bool, if◌then◌else◌, List, [], ◌∷◌}
use Rattle.std.specs.List.{onto_first}

-- whether a byte ends a line
abbrev pub ends_line : ℕ → Bool
ends_line byte = byte == 10

-- a text cut at each byte 10; what follows the last byte 10 is a piece only if it is not empty
abbrev pub pieces_of : List ℕ → List (List ℕ)
pieces_of [] = []
pieces_of (byte ∷ bytes) =
    if ends_line byte then [] ∷ pieces_of bytes else onto_first byte (pieces_of bytes)
