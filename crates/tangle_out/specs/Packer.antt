-- What a packer holds, and for which pieces it stands. A caller needs of this only that all clauses of a packer speak
-- of the same: which pieces it stands for, and how many lines it has finished. This project's own.
use Rattle.std.specs.Prelude.{◌≡◌, ℕ, ◌-◌, ◌≤◌, Bool, true, false, List, [], ◌∷◌, length, drop, Result, Ok, Err}
use Rattle.tangle_out.specs.declared.pieces.PieceKind.{PieceKind}
use Rattle.tangle_out.specs.declared.pieces.PieceKind.TheVariants.{Word, Number, Semi, Other, Break}
use Rattle.tangle_out.specs.declared.pieces.OutErr.{OutErr}
use Rattle.tangle_out.specs.declared.pieces.OutErr.TheVariants.{Fault, Failed}
use Rattle.tangle_out.specs.Pieces.{Piece}
use Rattle.tangle_out.specs.Packing.{Packed, nothing_packed, with_pieces, text_of}
use Rattle.tangle_out.specs.Packing.{greatest, semicolon_places, break_places}

-- the bytes of the line that waits, its greatest semicolon place and its greatest break place, 0 where it has none, and
-- what the piece before the next one is
pub record WaitingText : Type 0 where
  pub text : List ℕ
  pub semicolon : ℕ
  pub break_place : ℕ
  pub before : PieceKind

-- what waits, and how many lines are finished
pub record PackerState : Type 0 where
  pub waiting : WaitingText
  pub finished : ℕ

-- the kind of the last of these pieces, after a piece of this kind
abbrev pub last_kind : PieceKind → List Piece → PieceKind
last_kind before [] = before
last_kind before (piece ∷ pieces) = last_kind piece.kind pieces

-- what waits is the rest of the text of the pieces since the last forced line
pub record Waits (waiting : WaitingText) (packed : Packed) : Type 0 where
  pub within : packed.begin ≤ length (text_of packed.pieces)
  pub text : waiting.text ≡ drop packed.begin (text_of packed.pieces)
  pub semicolon : waiting.semicolon ≡ greatest (semicolon_places packed.pieces) - packed.begin
  pub break_place : waiting.break_place ≡ greatest (break_places packed.pieces) - packed.begin
  pub before : waiting.before ≡ last_kind Break packed.pieces

-- a packer stands for these pieces
abbrev pub Stands : ℕ → PackerState → List Piece → Type 0
Stands width state pieces = (packed : Packed) × ((with_pieces width nothing_packed pieces ≡ Ok packed)
    × (Waits state.waiting packed × (state.finished ≡ length packed.lines)))

-- how many bytes the text of a piece may have
abbrev pub longest_text : ℕ → PieceKind → ℕ
longest_text width Word = 50
longest_text width Number = 16
longest_text width Semi = width
longest_text width Other = width
longest_text width Break = width

-- whether a call of the sink failed
abbrev pub is_failed : {T : Type 0} → Result T OutErr → Bool
is_failed (Ok value) = false
is_failed (Err (Fault code)) = false
is_failed (Err Failed) = true
