-- The folding of constants: the pieces that items come to, and the fault that they show. Signed constants next to each
-- other are added, as tangle.web does; which ones, and the faults, are this project's own. Nothing here is a step of a
-- table: each unit gives its pieces by all that stands before it. In a list called `before` the nearest comes first.
use Rattle.std.specs.Prelude.{ℕ, ◌+◌, ◌-◌, ◌==◌, ◌||◌, nat_lt, Bool, true, false, if◌then◌else◌}
use Rattle.std.specs.Prelude.{ℤ, pos, negsuc, suc, List, [], ◌∷◌, ◌++◌, length, reverse, Option, Some, None}
use Rattle.std.specs.Prelude.{Result, Ok, Err, codes, decimal}
use Rattle.std.specs.Option.{unwrap_or}
use Rattle.wb_base.specs.declared.tokens.Joined.{Joined}
use Rattle.wb_base.specs.declared.tokens.Joined.TheVariants.{Dots, Becomes, NotMore, NotLess, Differs, Same}
use Rattle.wb_base.specs.declared.faults.TheConstants.{CONSTANT_TOO_BIG, METACOMMENT_NOT_ENDED, REAL_CONSTANT}
use Rattle.wb_base.specs.declared.faults.TheConstants.{STRAY_END_OF_METACOMMENT, STRING_TOO_LONG}
use Rattle.macro_expand.specs.Items.{Expanded, digit, word, sign, joined, quoted, verbatim}
use Rattle.macro_expand.specs.Items.{meta_open, meta_close, opens, closes}
use Rattle.tangle_out.specs.declared.pieces.PieceKind.{PieceKind}
use Rattle.tangle_out.specs.declared.pieces.PieceKind.TheVariants.{Word, Number, Semi, Other, Break}
use Rattle.tangle_out.specs.declared.folding.TheConstants.{GREATEST_CONSTANT}
use Rattle.tangle_out.specs.declared.packing.TheConstants.{WIDTH}
use Rattle.tangle_out.specs.declared.folding.Sign.{Sign}
use Rattle.tangle_out.specs.declared.folding.Sign.TheVariants.{Plus, Minus}
use Rattle.tangle_out.specs.declared.folding.Lead.{Lead}
use Rattle.tangle_out.specs.declared.folding.Lead.TheVariants.{Signed, Bare}
use Rattle.tangle_out.specs.Pieces.{Piece}
use Rattle.tangle_out.specs.Units.{FoldingUnit, addition, constant, product, joining, other, digits_before}
use Rattle.tangle_out.specs.Units.{unit_of, units_of, is_after_point}
use Rattle.tangle_out.specs.Runs.{stands_alone, run_before, is_after_join, last_signs, terms_of, lead_of, total}
use Rattle.tangle_out.specs.Runs.{fault_of_number, fault_of_sum}

-- a piece of this kind and text that is not glued
abbrev pub loose : PieceKind → List ℕ → Piece
loose kind text = record { text = text; kind = kind; glued = false }

-- the text of a sum: a minus and its digits where it is below 0, else its digits after the lead
abbrev pub sum_text : Lead → ℤ → List ℕ
sum_text lead (negsuc below) = 45 ∷ decimal (suc below)
sum_text Signed (pos value) = 43 ∷ decimal value
sum_text Bare (pos value) = decimal value

-- the piece of a sum
abbrev pub sum_piece : Lead → ℤ → Piece
sum_piece lead value = loose Number (sum_text lead value)

-- the byte of a sign
abbrev pub sign_byte : Sign → ℕ
sign_byte Plus = 43
sign_byte Minus = 45

-- the piece of the signs after the last term, if there are some: one sign, their product
abbrev pub sign_pieces : Option Sign → List Piece
sign_pieces None = []
sign_pieces (Some s) = loose Other (sign_byte s ∷ []) ∷ []

-- the text of a number that stands alone: its digits, after a minus and in parentheses where it is below 0
abbrev pub alone_text : ℤ → List ℕ
alone_text (pos value) = decimal value
alone_text (negsuc below) = 40 ∷ (45 ∷ decimal (suc below) ++ 41 ∷ [])

-- its piece: it is a number only where it is not in parentheses
abbrev pub alone_piece : ℤ → Piece
alone_piece (pos value) = loose Number (alone_text (pos value))
alone_piece (negsuc below) = loose Other (alone_text (negsuc below))

-- the pieces of a run with these terms, the last first, and these signs after them: first the sum of its terms, if it
-- has some, then the signs. The flag says that a product sign or word or a join follows, with which the last of several
-- terms then goes
abbrev pub pieces_of_terms : Bool → Lead → List ℤ → Option Sign → List Piece
pieces_of_terms follows lead [] signs = sign_pieces signs
pieces_of_terms true lead (term ∷ (earlier ∷ terms)) None =
    sum_piece lead (total (earlier ∷ terms)) ∷ (sum_piece Signed term ∷ [])
pieces_of_terms follows lead terms signs = sum_piece lead (total terms) ∷ sign_pieces signs

-- the pieces of a run
abbrev pub pieces_of_run : Bool → List FoldingUnit → List Piece
pieces_of_run follows run = pieces_of_terms follows (unwrap_or (lead_of run) Bare) (terms_of run) (last_signs run)

-- how many metacomments are begun and not ended
abbrev pub depth_of : List FoldingUnit → ℕ
depth_of (other meta_open ∷ before) = depth_of before + 1
depth_of (other meta_close ∷ before) = depth_of before - 1
depth_of (unit ∷ before) = depth_of before
depth_of [] = 0

-- the braces of a mark or a metacomment inside this many metacomments: brackets inside any
abbrev pub opening : ℕ → ℕ
opening depth = if depth == 0 then 123 else 91

abbrev pub closing : ℕ → ℕ
closing depth = if depth == 0 then 125 else 93

-- the kind of a sign or mark that ends in this byte: it matters whether this is `;` or `}`
abbrev pub kind_by_end : ℕ → PieceKind
kind_by_end byte = if byte == 59 || byte == 125 then Semi else Other

-- the bytes of a sign of two bytes
abbrev pub joined_text : Joined → List ℕ
joined_text Dots = codes ".."
joined_text Becomes = codes ":="
joined_text NotMore = codes "<="
joined_text NotLess = codes ">="
joined_text Differs = codes "<>"
joined_text Same = codes "=="

-- the mark at the begin of a piece of the section of this number, and that at its end
abbrev pub begin_text : ℕ → ℕ → List ℕ
begin_text depth section = opening depth ∷ decimal section ++ 58 ∷ (closing depth ∷ [])

abbrev pub end_text : ℕ → ℕ → List ℕ
end_text depth section = opening depth ∷ (58 ∷ decimal section ++ closing depth ∷ [])

-- the piece of a product sign or word or of another item, inside this many metacomments
abbrev pub item_piece : ℕ → Expanded → Piece
item_piece depth (word bytes) = loose Word bytes
item_piece depth (sign byte) = loose (kind_by_end byte) (byte ∷ [])
item_piece depth (joined value) = loose Other (joined_text value)
item_piece depth (quoted bytes) = loose Other bytes
item_piece depth (verbatim bytes) = loose Other bytes
item_piece depth meta_open = loose Other (opening depth ∷ [])
item_piece depth meta_close = loose (kind_by_end (closing (depth - 1))) (closing (depth - 1) ∷ [])
item_piece depth (opens section) = loose (kind_by_end (closing depth)) (begin_text depth section)
item_piece depth (closes section) = loose (kind_by_end (closing depth)) (end_text depth section)
item_piece depth item = loose Break []

-- the fault of another item by itself: a string or verbatim text is too long, or a metacomment ends that was not begun
abbrev pub fault_of_item : ℕ → Expanded → Option ℕ
fault_of_item depth (quoted bytes) = if nat_lt WIDTH (length bytes) then Some STRING_TOO_LONG else None
fault_of_item depth (verbatim bytes) = if nat_lt WIDTH (length bytes) then Some STRING_TOO_LONG else None
fault_of_item depth meta_close = if depth == 0 then Some STRAY_END_OF_METACOMMENT else None
fault_of_item depth item = None

-- whether the unit directly before is a single-quoted string
abbrev pub is_after_string : List FoldingUnit → Bool
is_after_string (other (quoted bytes) ∷ before) = true
is_after_string before = false

-- whether an item is a single-quoted string directly after a single-quoted string
abbrev pub continues_string : List FoldingUnit → Expanded → Bool
continues_string before (quoted bytes) = is_after_string before
continues_string before item = false

-- the piece of an item after these units
abbrev pub piece_after : List FoldingUnit → Expanded → Piece
piece_after before item = record (item_piece (depth_of before) item) { glued = continues_string before item }

-- these pieces, the first of which is glued where it is the first after a join
abbrev pub glued_first : Bool → List Piece → List Piece
glued_first after_join [] = []
glued_first after_join (piece ∷ pieces) = record piece { glued = after_join || piece.glued } ∷ pieces

-- a fault, or else a fault, or else the pieces
abbrev pub unless : Option ℕ → Option ℕ → List Piece → Result (List Piece) ℕ
unless (Some code) later pieces = Err code
unless None (Some code) pieces = Err code
unless None None pieces = Ok pieces

-- the fault of the sum of the run directly before
abbrev pub fault_of_run : List FoldingUnit → Option ℕ
fault_of_run before = fault_of_sum (terms_of (run_before before)) (last_signs (run_before before))

-- what a unit adds after these units, pieces or a fault: a sign or number of a run nothing, any other unit the run that
-- it ends and its own piece
abbrev pub added_by_unit : List FoldingUnit → FoldingUnit → Result (List Piece) ℕ
added_by_unit before (addition s) = unless (fault_of_run before) None []
added_by_unit before (constant value) =
    if stands_alone before then Ok (glued_first (is_after_join before) (alone_piece value ∷ []))
    else unless (fault_of_number (terms_of (run_before before)) (last_signs (run_before before))) None []
added_by_unit before (product item) =
    Ok (glued_first (is_after_join before) (pieces_of_run true (run_before before) ++ piece_after before item ∷ []))
added_by_unit before joining = Ok (glued_first (is_after_join before) (pieces_of_run true (run_before before)))
added_by_unit before (other item) =
    unless (fault_of_run before) (fault_of_item (depth_of before) item)
    (glued_first (is_after_join before) (pieces_of_run false (run_before before) ++ piece_after before item ∷ []))

-- what the end adds after these units
abbrev pub added_by_end : List FoldingUnit → Result (List Piece) ℕ
added_by_end before =
    unless (fault_of_run before) None (glued_first (is_after_join before) (pieces_of_run false (run_before before)))

-- the pieces of both, or the first fault
abbrev pub both : Result (List Piece) ℕ → Result (List Piece) ℕ → Result (List Piece) ℕ
both (Err code) later = Err code
both (Ok pieces) (Err code) = Err code
both (Ok pieces) (Ok later) = Ok (pieces ++ later)

-- what a number that has now ended adds, if there is one, and then what follows it
abbrev pub after_number : Option ℕ → List FoldingUnit → (List FoldingUnit → Result (List Piece) ℕ)
    → Result (List Piece) ℕ
after_number None units next = next units
after_number (Some value) units next =
    both (added_by_unit units (constant (pos value))) (next (constant (pos value) ∷ units))

-- what a digit adds after these items: nothing, if no point is before it and its number is not too big
abbrev pub added_by_digit : List Expanded → ℕ → Result (List Piece) ℕ
added_by_digit before byte =
    if is_after_point before then Err REAL_CONSTANT
    else (if nat_lt GREATEST_CONSTANT (unwrap_or (digits_before (digit byte ∷ before)) 0) then Err CONSTANT_TOO_BIG
    else Ok [])

-- what an item adds after these items, pieces or a fault
abbrev pub added_by_item : List Expanded → Expanded → Result (List Piece) ℕ
added_by_item before (digit byte) = added_by_digit before byte
added_by_item before item =
    after_number (digits_before before) (units_of before) (λ units. added_by_unit units (unit_of item))

-- what the end adds after these items; that a metacomment has not ended is looked at first
abbrev pub added_at_end : List Expanded → Result (List Piece) ℕ
added_at_end before =
    if depth_of (units_of before) == 0 then after_number (digits_before before) (units_of before) added_by_end
    else Err METACOMMENT_NOT_ENDED

-- pieces, and a fault or none; an item that shows a fault gives no piece
pub record Folded : Type 0 where
  pub pieces : List Piece
  pub fault : Option ℕ

-- these pieces with what is added, where there is no fault yet
abbrev pub with_added : List Piece → Option ℕ → Result (List Piece) ℕ → Folded
with_added pieces (Some code) added = record { pieces = pieces; fault = Some code }
with_added pieces None (Ok added) = record { pieces = pieces ++ added; fault = None }
with_added pieces None (Err code) = record { pieces = pieces; fault = Some code }

-- what was folded so far, with what is added
abbrev pub and_then : Folded → Result (List Piece) ℕ → Folded
and_then so_far added = with_added so_far.pieces so_far.fault added

-- the pieces and the fault of the items before, the nearest first
abbrev pub folded_before : List Expanded → Folded
folded_before [] = record { pieces = []; fault = None }
folded_before (item ∷ before) = and_then (folded_before before) (added_by_item before item)

-- the pieces that items have given, and the fault that one of them shows first, or none
abbrev pub folded : List Expanded → Folded
folded items = folded_before (reverse items)

-- the same of items after which the end comes
abbrev pub folded_whole : List Expanded → Folded
folded_whole items = and_then (folded items) (added_at_end (reverse items))
