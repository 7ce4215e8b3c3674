-- The packing of pieces into lines, as TANGLE breaks its output. That a line is cut at the greatest place of two kinds,
-- and the fault, are this project's own.
use Rattle.std.specs.Prelude.{◌≡◌, ℕ, ◌+◌, ◌-◌, ◌==◌, nat_lt, nat_le, max, Bool, true, false, not, ◌&&◌, if◌then◌else◌}
use Rattle.std.specs.Prelude.{List, [], ◌∷◌, ◌++◌, length, drop, slice_index, slice_range, Result, Ok, Err}
use Rattle.std.specs.List.{fold, flat_map}
use Rattle.std.specs.Char.{is_ascii_digit}
use Rattle.wb_base.specs.declared.faults.TheConstants.{LINE_NOT_CUT}
use Rattle.tangle_out.specs.declared.pieces.PieceKind.{PieceKind}
use Rattle.tangle_out.specs.declared.pieces.PieceKind.TheVariants.{Word, Number, Semi, Other, Break}
use Rattle.tangle_out.specs.Pieces.{Piece}

abbrev pub space : ℕ
space = 32

-- whether a space may stand after a piece of this kind: a word or a number
abbrev pub takes_space_after : PieceKind → Bool
takes_space_after Word = true
takes_space_after Number = true
takes_space_after Semi = false
takes_space_after Other = false
takes_space_after Break = false

-- whether a text begins with a digit
abbrev pub begins_with_digit : List ℕ → Bool
begins_with_digit [] = false
begins_with_digit (byte ∷ bytes) = is_ascii_digit byte

-- whether a space may stand before these bytes of a piece of this kind: a word, or a number that begins with a digit
abbrev pub takes_space_before : PieceKind → List ℕ → Bool
takes_space_before Word text = true
takes_space_before Number text = begins_with_digit text
takes_space_before Semi text = false
takes_space_before Other text = false
takes_space_before Break text = false

-- whether a piece stands a space after a piece of this kind
abbrev pub is_spaced : PieceKind → Piece → Bool
is_spaced before piece = not piece.glued && takes_space_after before && takes_space_before piece.kind piece.text

-- the bytes of a piece after a piece of this kind, with its space
abbrev pub spaced : PieceKind → Piece → List ℕ
spaced before piece = if is_spaced before piece then space ∷ piece.text else piece.text

-- whether a piece is a sign or a mark that ends in `;` or `}`
abbrev pub ends_statement : PieceKind → Bool
ends_statement Word = false
ends_statement Number = false
ends_statement Semi = true
ends_statement Other = false
ends_statement Break = false

-- a piece in its text: the place before its space, and the place after it
pub record Placed : Type 0 where
  pub start : ℕ
  pub end : ℕ
  pub piece : Piece

-- the pieces from this place on, after a piece of this kind
abbrev pub placed_from : ℕ → PieceKind → List Piece → List Placed
placed_from start before [] = []
placed_from start before (piece ∷ pieces) =
    let end = start + length (spaced before piece) in
    record { start = start; end = end; piece = piece } ∷ placed_from end piece.kind pieces

-- the bytes of the pieces after a piece of this kind
abbrev pub text_after : PieceKind → List Piece → List ℕ
text_after before [] = []
text_after before (piece ∷ pieces) = spaced before piece ++ text_after piece.kind pieces

-- the one text of the pieces since a forced line
abbrev pub text_of : List Piece → List ℕ
text_of pieces = text_after Break pieces

-- the places after a sign or a mark that ends in `;` or `}`
abbrev pub semicolon_places_of : Placed → List ℕ
semicolon_places_of placed = if ends_statement placed.piece.kind then placed.end ∷ [] else []

abbrev pub semicolon_places : List Piece → List ℕ
semicolon_places pieces = flat_map semicolon_places_of (placed_from 0 Break pieces)

-- the place before a piece, where it is not glued
abbrev pub start_places : Bool → ℕ → List ℕ
start_places glued start = if glued then [] else start ∷ []

-- the places where a text may be broken: before a piece that is not glued, and at a semicolon place
abbrev pub break_places_of : Placed → List ℕ
break_places_of placed = start_places placed.piece.glued placed.start ++ semicolon_places_of placed

abbrev pub break_places : List Piece → List ℕ
break_places pieces = flat_map break_places_of (placed_from 0 Break pieces)

-- the greatest of these places, 0 where there are none
abbrev pub greatest : List ℕ → ℕ
greatest places = fold max 0 places

-- where the text goes on after a cut: a space at the cut is dropped
abbrev pub after_cut : List ℕ → ℕ → ℕ
after_cut text cut = if slice_index text cut == space then cut + 1 else cut

-- whether a line that begins here may be cut at this place: the place is after the line's begin, and the rest of the
-- text is within the width
abbrev pub may_cut : ℕ → ℕ → List ℕ → ℕ → Bool
may_cut width begin text cut = nat_lt begin cut && nat_le (length text - after_cut text cut) width

-- the place of the cut: the semicolon place, else the break place, else there is none
abbrev pub cut_at : ℕ → ℕ → List ℕ → ℕ → ℕ → Result ℕ ℕ
cut_at width begin text semicolon place =
    if may_cut width begin text semicolon then Ok semicolon
    else (if may_cut width begin text place then Ok place else Err LINE_NOT_CUT)

-- the place at which a piece after these cuts the line that begins here: the greatest semicolon place up to its start,
-- else the greatest break place up to its start; or the fault
abbrev pub cut_by : ℕ → ℕ → List Piece → Piece → Result ℕ ℕ
cut_by width begin pieces piece =
    let text = text_of (pieces ++ piece ∷ []) in
    let start = length (text_of pieces) in
    cut_at width begin text (greatest (semicolon_places pieces))
    (greatest (break_places pieces ++ start_places piece.glued start))

-- the finished lines, the pieces since the last forced line, and the place in their text where the next line begins
pub record Packed : Type 0 where
  pub lines : List (List ℕ)
  pub pieces : List Piece
  pub begin : ℕ

-- a waiting text as a line, if it is not empty
abbrev pub line_of : List ℕ → List (List ℕ)
line_of [] = []
line_of (byte ∷ bytes) = (byte ∷ bytes) ∷ []

-- a forced line: it finishes the waiting text
abbrev pub with_forced_line : Packed → Packed
with_forced_line packed = record {
  lines = packed.lines ++ line_of (drop packed.begin (text_of packed.pieces));
  pieces = [];
  begin = 0;
}

-- a piece that passes the width, where the line is cut at this place
abbrev pub with_cut : Packed → Piece → Result ℕ ℕ → Result Packed ℕ
with_cut packed piece (Ok cut) =
    let text = text_of (packed.pieces ++ piece ∷ []) in
    Ok (record {
      lines = packed.lines ++ slice_range text packed.begin cut ∷ [];
      pieces = packed.pieces ++ piece ∷ [];
      begin = after_cut text cut;
    })
with_cut packed piece (Err fault) = Err fault

-- a piece with bytes: where it ends past the width, the line is cut
abbrev pub with_bytes : ℕ → Packed → Piece → Result Packed ℕ
with_bytes width packed piece =
    if nat_le (length (text_of (packed.pieces ++ piece ∷ [])) - packed.begin) width
    then Ok (record packed { pieces = packed.pieces ++ piece ∷ [] })
    else with_cut packed piece (cut_by width packed.begin packed.pieces piece)

abbrev pub is_forced_line : PieceKind → Bool
is_forced_line Word = false
is_forced_line Number = false
is_forced_line Semi = false
is_forced_line Other = false
is_forced_line Break = true

-- one piece more
abbrev pub with_piece : ℕ → Packed → Piece → Result Packed ℕ
with_piece width packed piece =
    if is_forced_line piece.kind then Ok (with_forced_line packed) else with_bytes width packed piece

-- a step on the value of the one before, whose fault ends the work
abbrev pub and_then : {A B : Type 0} → Result A ℕ → (A → Result B ℕ) → Result B ℕ
and_then (Ok value) step = step value
and_then (Err fault) step = Err fault

-- these pieces more, or the fault that one of them shows
abbrev pub with_pieces : ℕ → Packed → List Piece → Result Packed ℕ
with_pieces width packed [] = Ok packed
with_pieces width packed (piece ∷ pieces) =
    and_then (with_piece width packed piece) (λ next. with_pieces width next pieces)

-- before the first piece
abbrev pub nothing_packed : Packed
nothing_packed = record { lines = []; pieces = []; begin = 0 }

-- the lines that these pieces finish, or the fault that one of them shows
abbrev pub finished_lines : ℕ → List Piece → Result (List (List ℕ)) ℕ
finished_lines width pieces = and_then (with_pieces width nothing_packed pieces) (λ packed. Ok packed.lines)

abbrev pub forced_line : Piece
forced_line = record { text = []; kind = Break; glued = false }

-- all lines: the end finishes the waiting text as a forced line does
abbrev pub packed_lines : ℕ → List Piece → Result (List (List ℕ)) ℕ
packed_lines width pieces = finished_lines width (pieces ++ forced_line ∷ [])

-- the lines as a text, each followed by byte 10
abbrev pub text_of_lines : List (List ℕ) → List ℕ
text_of_lines [] = []
text_of_lines (line ∷ lines) = line ++ 10 ∷ text_of_lines lines

-- these lines come on top of those before
abbrev pub Adds : Result (List (List ℕ)) ℕ → Result (List (List ℕ)) ℕ → List (List ℕ) → Type 0
Adds before after added = (lines : List (List ℕ)) × ((before ≡ Ok lines) × (after ≡ Ok (lines ++ added)))

-- a piece after these finishes these lines
abbrev pub Finishes : ℕ → List Piece → Piece → List (List ℕ) → Type 0
Finishes width pieces piece = Adds (finished_lines width pieces) (finished_lines width (pieces ++ piece ∷ []))

-- the end after these pieces finishes these lines
abbrev pub EndFinishes : ℕ → List Piece → List (List ℕ) → Type 0
EndFinishes width pieces = Adds (finished_lines width pieces) (packed_lines width pieces)
