-- What a cursor over the lines of a web has before it. No public contract cites this.
use Rattle.std.specs.Prelude.{ℕ, ◌==◌, ◌||◌, Bool, List, [], ◌∷◌, ◌++◌, Option, Some, None}
use Rattle.wb_base.specs.declared.places.Place.{Place}
use Rattle.change_merge.specs.Lines.{Line}
use Rattle.web_lex.specs.Raw.{PlacedByte, raw_line, raw_text}

-- the text that is left, the place of its end, and a number that rises with each byte that is passed
pub record Ahead : Type 0 where
  pub rest : List PlacedByte
  pub end : Place
  pub passed : ℕ

-- the text of these lines, where only these bytes are left of the first
abbrev pub text_from : List Line → List ℕ → List PlacedByte
text_from [] bytes = []
text_from (line ∷ lines) bytes = raw_line line.place bytes ++ raw_text lines

-- the first byte of a text
abbrev pub first_byte : List PlacedByte → Option ℕ
first_byte [] = None
first_byte (byte ∷ rest) = Some byte.byte

-- whether a byte is an at sign
abbrev pub is_at_sign : ℕ → Bool
is_at_sign byte = byte == 64

-- whether a byte may matter in a comment: an at sign, a backslash or a brace
abbrev pub matters_in_comment : ℕ → Bool
matters_in_comment byte = byte == 64 || (byte == 92 || (byte == 123 || byte == 125))
