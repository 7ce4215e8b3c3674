-- What a packer makes of a piece. No public contract cites this.
use Rattle.std.specs.Prelude.{ℕ, ◌+◌, ◌-◌, ◌≤◌, nat_le, if◌then◌else◌, List, [], ◌∷◌, ◌++◌, length, take, drop}
use Rattle.std.specs.Prelude.{Result, Ok}
use Rattle.tangle_out.specs.declared.pieces.PieceKind.TheVariants.{Break}
use Rattle.tangle_out.specs.Pieces.{Piece}
use Rattle.tangle_out.specs.Packing.{spaced, ends_statement, after_cut, cut_at, line_of, is_forced_line, and_then}
use Rattle.tangle_out.specs.Packer.{WaitingText, PackerState}

abbrev pub nothing_waits : WaitingText
nothing_waits = record { text = []; semicolon = 0; break_place = 0; before = Break }

-- the text with a piece more
abbrev pub text_with : WaitingText → Piece → List ℕ
text_with waiting piece = waiting.text ++ spaced waiting.before piece

-- the greatest break place up to the start of a piece
abbrev pub place_before : WaitingText → Piece → ℕ
place_before waiting piece = if piece.glued then waiting.break_place else length waiting.text

-- what waits with a piece more
abbrev pub with_more : WaitingText → Piece → WaitingText
with_more waiting piece = record {
  text = text_with waiting piece;
  semicolon = if ends_statement piece.kind then length (text_with waiting piece) else waiting.semicolon;
  break_place = if ends_statement piece.kind then length (text_with waiting piece) else place_before waiting piece;
  before = piece.kind;
}

-- what waits from this place on
abbrev pub from_place : ℕ → WaitingText → WaitingText
from_place begin waiting = record {
  text = drop begin waiting.text;
  semicolon = waiting.semicolon - begin;
  break_place = waiting.break_place - begin;
  before = waiting.before;
}

-- what waits is within the width, and its places are within it
pub record IsBounded (width : ℕ) (waiting : WaitingText) : Type 0 where
  pub text : length waiting.text ≤ width
  pub semicolon : waiting.semicolon ≤ length waiting.text
  pub break_place : waiting.break_place ≤ length waiting.text

-- a packer after a piece, and the lines that it finishes
pub record Advanced : Type 0 where
  pub state : PackerState
  pub lines : List (List ℕ)

abbrev pub advanced_to : PackerState → List (List ℕ) → WaitingText → Advanced
advanced_to state lines waiting =
    record { state = record { waiting = waiting; finished = state.finished + length lines }; lines = lines }

-- after a forced line
abbrev pub forced : PackerState → Advanced
forced state = advanced_to state (line_of state.waiting.text) nothing_waits

-- after a cut at this place
abbrev pub cut : PackerState → Piece → ℕ → Advanced
cut state piece place =
    advanced_to state (take place state.waiting.text ∷ [])
    (from_place (after_cut (text_with state.waiting piece) place) (with_more state.waiting piece))

-- where the line is cut by the piece, or the fault
abbrev pub place_of_cut : ℕ → WaitingText → Piece → Result ℕ ℕ
place_of_cut width waiting piece =
    cut_at width 0 (text_with waiting piece) waiting.semicolon (place_before waiting piece)

-- after a piece, or the fault that it shows
abbrev pub advanced : ℕ → PackerState → Piece → Result Advanced ℕ
advanced width state piece =
    if is_forced_line piece.kind then Ok (forced state)
    else (if nat_le (length (text_with state.waiting piece)) width
    then Ok (advanced_to state [] (with_more state.waiting piece))
    else and_then (place_of_cut width state.waiting piece) (λ place. Ok (cut state piece place)))
