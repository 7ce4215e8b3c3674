-- The pieces that the code gives, as the definitions see them.
use Rattle.std.specs.Prelude.{map, All, List, [], ◌∷◌, Option, Some, None}
use Rattle.arrayvec.specs.ArrayVec.{ArrayVec}
use Rattle.tangle_out.specs.declared.pieces.OutPiece.{OutPiece}
use Rattle.tangle_out.specs.Pieces.{Piece, piece_of}
use Rattle.tangle_out.specs.Folder.{IsShort}

-- no piece has more bytes than its kind may have
abbrev pub AllShort : ArrayVec OutPiece → Type 0
AllShort pieces = All IsShort (map piece_of pieces.items)

-- the piece, if there is one
abbrev pub pieces_in : Option OutPiece → List Piece
pieces_in None = []
pieces_in (Some piece) = piece_of piece ∷ []
