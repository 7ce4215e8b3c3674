-- Ranges of texts under names of sections.
use Rattle.std.specs.Prelude.{ℕ, zero, suc, List, [], ◌∷◌, ◌++◌, map, All, Vec}
use Rattle.std.specs.declared.alloc.Global.{Global}
use Rattle.web_scan.specs.declared.pieces.Piece.{Piece}
use Rattle.web_scan.specs.Pieces.{IsPieceWithin}

-- the ranges under each name
abbrev pub pieces_in : List (Vec Piece Global) → List (List Piece)
pieces_in named = map (λ pieces. pieces.items) named

-- one more range under the name with this place
abbrev pub with_piece_under : ℕ → Piece → List (List Piece) → List (List Piece)
with_piece_under zero piece [] = (piece ∷ []) ∷ []
with_piece_under zero piece (pieces ∷ others) = (pieces ++ piece ∷ []) ∷ others
with_piece_under (suc name) piece [] = [] ∷ with_piece_under name piece []
with_piece_under (suc name) piece (pieces ∷ others) = pieces ∷ with_piece_under name piece others

-- all ranges lie within so many tokens
abbrev pub AreWithin : ℕ → List (Vec Piece Global) → Type 0
AreWithin size named = All (λ pieces. All (IsPieceWithin size) pieces.items) named
