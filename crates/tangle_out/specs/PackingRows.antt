-- The definition of packing, at work on short lists of pieces and a width of 8.
use Rattle.std.specs.Prelude.{◌≡◌, ℕ, List, [], ◌∷◌, codes, true, false, Ok, Err, refl}
use Rattle.wb_base.specs.declared.faults.TheConstants.{LINE_NOT_CUT}
use Rattle.tangle_out.specs.declared.pieces.PieceKind.{PieceKind}
use Rattle.tangle_out.specs.declared.pieces.PieceKind.TheVariants.{Word, Number, Semi, Other}
use Rattle.tangle_out.specs.Pieces.{Piece}
use Rattle.tangle_out.specs.Packing.{packed_lines, finished_lines, forced_line}

abbrev piece_of : PieceKind → List ℕ → Piece
piece_of kind text = record { text = text; kind = kind; glued = false }

abbrev glued_piece_of : PieceKind → List ℕ → Piece
glued_piece_of kind text = record { text = text; kind = kind; glued = true }

abbrev word : List ℕ → Piece
word text = piece_of Word text

-- a space between words and numbers, and none around signs
pub words_and_signs : packed_lines 8
    (word (codes "a") ∷ word (codes "b") ∷ piece_of Other (codes "+") ∷ piece_of Number (codes "1") ∷ []) ≡ Ok
    (codes "a b+1" ∷ [])
words_and_signs = refl

-- a number with a sign takes no space
pub signed_number : packed_lines 8 (word (codes "a") ∷ piece_of Number (codes "-1") ∷ []) ≡ Ok (codes "a-1" ∷ [])
signed_number = refl

-- a glued piece takes no space
pub glued_word : packed_lines 8 (word (codes "a") ∷ glued_piece_of Word (codes "b") ∷ []) ≡ Ok (codes "ab" ∷ [])
glued_word = refl

-- a line is cut before the piece that passes the width, and the space there is dropped
pub cut_at_space : packed_lines 8 (word (codes "abcd") ∷ word (codes "efgh") ∷ []) ≡ Ok
    (codes "abcd" ∷ codes "efgh" ∷ [])
cut_at_space = refl

-- a line is cut after the last `;` where the rest is short enough
pub cut_at_semicolon : packed_lines 8
    (word (codes "a") ∷ piece_of Semi (codes ";") ∷ word (codes "bcd") ∷ word (codes "efg") ∷ []) ≡ Ok
    (codes "a;" ∷ codes "bcd efg" ∷ [])
cut_at_semicolon = refl

-- else at the last place where the text may be broken
pub rest_too_long : packed_lines 8
    (word (codes "a") ∷ piece_of Semi (codes ";") ∷ word (codes "bcd") ∷ word (codes "efghi") ∷ []) ≡ Ok
    (codes "a;bcd" ∷ codes "efghi" ∷ [])
rest_too_long = refl

-- glued pieces are not parted
pub glued_pieces_stay : packed_lines 8
    (word (codes "abc") ∷ word (codes "def") ∷ glued_piece_of Word (codes "gh") ∷ []) ≡ Ok
    (codes "abc" ∷ codes "defgh" ∷ [])
glued_pieces_stay = refl

-- glued pieces that pass the width together find no place
pub no_place : packed_lines 8 (word (codes "abcde") ∷ glued_piece_of Word (codes "fghi") ∷ []) ≡ Err LINE_NOT_CUT
no_place = refl

-- a forced line finishes what waits, and nothing where nothing waits; no piece stands before the next one
pub forced_lines : packed_lines 8 (word (codes "a") ∷ forced_line ∷ forced_line ∷ word (codes "b") ∷ []) ≡ Ok
    (codes "a" ∷ codes "b" ∷ [])
forced_lines = refl

-- a line that waits is not finished
pub waiting_line : finished_lines 8 (word (codes "abcd") ∷ word (codes "efgh") ∷ word (codes "ij") ∷ []) ≡ Ok
    (codes "abcd" ∷ [])
waiting_line = refl
