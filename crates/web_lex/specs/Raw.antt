-- The text of a web as one list of bytes. That the end of a line counts as a space after it is the WEB profile's.
use Rattle.std.specs.Prelude.{ℕ, ◌-◌, Bool, true, false, List, [], ◌∷◌, ◌++◌, map, length, slice_get, unwrap_or}
use Rattle.std.specs.List.{before_first}
use Rattle.wb_base.specs.declared.places.FileTag.TheVariants.{Web}
use Rattle.wb_base.specs.declared.places.Place.{Place}
use Rattle.change_merge.specs.Lines.{Line}

-- a byte, the place of the line that it stands in, and whether it is the space that the end of the line counts as
pub record PlacedByte : Type 0 where
  pub byte : ℕ
  pub place : Place
  pub ends_line : Bool

-- bytes of a line at this place
abbrev pub placed : Place → List ℕ → List PlacedByte
placed place bytes = map (λ byte. record { byte = byte; place = place; ends_line = false }) bytes

-- the space that the end of a line at this place counts as
abbrev pub line_end : Place → PlacedByte
line_end place = record { byte = 32; place = place; ends_line = true }

-- a line as it is read: its bytes and a space after them
abbrev pub raw_line : Place → List ℕ → List PlacedByte
raw_line place bytes = placed place bytes ++ line_end place ∷ []

-- all lines in order
abbrev pub raw_text : List Line → List PlacedByte
raw_text [] = []
raw_text (line ∷ lines) = raw_line line.place line.bytes ++ raw_text lines

-- line 0 of the web, which stands for the web as a whole
abbrev pub whole_web : Place
whole_web = record { file = Web; line = 0 }

-- the place of the end of these lines: that of the last one, or line 0 of the web where there is none
abbrev pub end_of : List Line → Place
end_of lines = unwrap_or (slice_get (map (λ line. line.place) lines) (length lines - 1)) whole_web

-- the place of the first byte of a text, or this one where there is none
abbrev pub place_of : Place → List PlacedByte → Place
place_of end [] = end
place_of end (byte ∷ rest) = byte.place

-- the bytes before the end of the line that a text begins in
abbrev pub bytes_of_line : List PlacedByte → List ℕ
bytes_of_line text = map (λ placed. placed.byte) (before_first (λ placed. placed.ends_line) text)
