-- The pieces of the output, as definitions see them.
use Rattle.std.specs.Prelude.{ℕ, Bool, List}
use Rattle.tangle_out.specs.declared.pieces.PieceKind.{PieceKind}
use Rattle.tangle_out.specs.declared.pieces.PieceText.{PieceText}
use Rattle.tangle_out.specs.declared.pieces.PieceText.TheVariants.{Slice, Short}
use Rattle.tangle_out.specs.declared.pieces.OutPiece.{OutPiece}

-- a piece: its bytes, what it is, and whether it may not be parted from the piece before it
pub record Piece : Type 0 where
  pub text : List ℕ
  pub kind : PieceKind
  pub glued : Bool

-- the bytes that a piece's text holds
abbrev pub bytes_of : PieceText → List ℕ
bytes_of (Slice bytes) = bytes.now
bytes_of (Short bytes) = bytes.items

-- the piece that the code holds
abbrev pub piece_of : OutPiece → Piece
piece_of piece = record { text = bytes_of piece.text; kind = piece.kind; glued = piece.glued }
