-- The parts of a change file from a place on, and the block that begins there.
use Rattle.std.proofs.Common.{◌≡◌, ℕ, ◌+◌, ◌-◌, ◌<◌, ◌≤◌, true, suc, not, refl, List, [], ◌∷◌, length, take, drop}
use Rattle.std.proofs.Common.{get_or, ap, ◌∙◌, sym, arith, cond, Err, Option, None, Some, ⊎_elim}
use Rattle.std.specs.List.{position_or_len, prefix_len, before_first, slice_range}
use Rattle.std.specs.Option.{option_and_then, is_some}
use Rattle.std.proofs.lemmas.Bool.{cases_lt}
use Rattle.std.proofs.lemmas.Option.{slice_get-get_or, slice_get_past}
use Rattle.std.proofs.lemmas.List.{drop_more, drop_all, drop-drop, drop-take, length-drop, get_or-drop}
use Rattle.std.proofs.lemmas.List.Sums.{passes_at_first}
use Rattle.wb_base.specs.declared.places.Place.{Place}
use Rattle.change_merge.specs.Lines.{Line}
use Rattle.wb_base.specs.FaultAt.{fault_at}
use Rattle.change_merge.specs.Changes.{Part, part, mark_of, has_mark, is_empty, parts_with, parts_of, old_lines_of}
use Rattle.change_merge.specs.Changes.{block, blocks_of}
use Rattle.change_merge.specs.inner.Spans.{mark_there}
use Rattle.wb_base.specs.Steps.{followed_by}
use Rattle.change_merge.specs.declared.marks.Mark.{Mark}
use Rattle.change_merge.specs.declared.marks.Mark.TheVariants.{Old, New, End}
use Rattle.change_merge.proofs.SearchLemmas.{found_from}
use Rattle.wb_base.specs.declared.faults.TheConstants.{EMPTY_CHANGE, NO_END_OF_CHANGE, NO_NEW_PART, STRAY_CHANGE_MARK}

-- the lines before the first mark are in no part
skips_line : (mark : Option Mark) (line : Line) (lines : List Line) → mark_of line.bytes ≡ mark
    → parts_of lines ≡ parts_of (drop (position_or_len has_mark lines) lines)
    → parts_of (line ∷ lines) ≡ parts_of (drop (position_or_len has_mark (line ∷ lines)) (line ∷ lines))
skips_line None line lines is rest =
    let one_more : position_or_len has_mark (line ∷ lines) ≡ suc (position_or_len has_mark lines) =
    ap (λ m. cond (not (is_some m)) (1 + position_or_len has_mark lines) 0) is ∙ omega arith in
    ap (λ m. parts_with m line.place lines (parts_of lines)) is ∙ rest
    ∙ ap (λ k. parts_of (drop k (line ∷ lines))) (sym one_more)
skips_line (Some mark) line lines is rest =
    ap (λ k. parts_of (drop k (line ∷ lines)))
    (sym (ap (λ m. cond (not (is_some m)) (1 + position_or_len has_mark lines) 0) is))

pub parts_of-skips : (lines : List Line) → parts_of lines ≡ parts_of (drop (position_or_len has_mark lines) lines)
parts_of-skips [] = refl
parts_of-skips (line ∷ lines) = skips_line (mark_of line.bytes) line lines refl (parts_of-skips lines)

pub parts_of-from : (lines : List Line) (from i : ℕ) → i ≡ found_from has_mark lines from
    → parts_of (drop from lines) ≡ parts_of (drop i lines)
parts_of-from lines from i is =
    parts_of-skips (drop from lines)
    ∙ ap parts_of (drop-drop (position_or_len has_mark (drop from lines)) from lines)
    ∙ ap (λ k. parts_of (drop k lines)) (sym is)

-- a mark begins a part
mark_of_line : (lines : List Line) (i : ℕ) (d : Line) → i < length lines
    → mark_there lines i ≡ mark_of (get_or lines i d).bytes
mark_of_line lines i d within = ap (option_and_then (λ line. mark_of line.bytes)) (slice_get-get_or lines i d within)

no_mark_past : (lines : List Line) (i : ℕ) → length lines ≤ i → mark_there lines i ≡ None
no_mark_past lines i past = ap (option_and_then (λ line. mark_of line.bytes)) (slice_get_past lines i past)

pub mark_within : (lines : List Line) (i : ℕ) (mark : Mark) → mark_there lines i ≡ Some mark → i < length lines
mark_within lines i mark is =
    ⊎_elim (λ below. below) (λ past. let none = no_mark_past lines i past in cc) (cases_lt i (length lines))

pub parts_of-mark :
    (lines : List Line) (i : ℕ) (mark : Mark) (d : Line) → mark_there lines i ≡ Some mark
    → parts_of (drop i lines) ≡ part mark (get_or lines i d).place
    (before_first has_mark (drop (i + 1) lines)) ∷ parts_of (drop (i + 1) lines)
parts_of-mark lines i mark d is =
    let within = mark_within lines i mark is in
    ap parts_of (drop_more lines i d within)
    ∙ ap (λ m. parts_with m (get_or lines i d).place (drop (i + 1) lines) (parts_of (drop (i + 1) lines)))
    (sym (mark_of_line lines i d within) ∙ is)

-- a line without a mark begins none
pub parts_of-no_mark : (lines : List Line) (i : ℕ) (d : Line) → i < length lines → mark_there lines i ≡ None
    → parts_of (drop i lines) ≡ parts_of (drop (i + 1) lines)
parts_of-no_mark lines i d within is =
    ap parts_of (drop_more lines i d within)
    ∙ ap (λ m. parts_with m (get_or lines i d).place (drop (i + 1) lines) (parts_of (drop (i + 1) lines)))
    (sym (mark_of_line lines i d within) ∙ is)

-- the mark of the first part
abbrev pub first_mark : List Part → Option Mark
first_mark [] = None
first_mark (part mark place lines ∷ parts) = Some mark

some_mark : (lines : List Line) (i : ℕ) (mark : Option Mark) (d : Line) → mark_there lines i ≡ mark
    → is_some mark ≡ true → first_mark (parts_of (drop i lines)) ≡ mark_there lines i
some_mark lines i None d is some = cc
some_mark lines i (Some mark) d is some = ap first_mark (parts_of-mark lines i mark d is) ∙ sym is

pub first_mark-found : (lines : List Line) (from i : ℕ) (d : Line) → i ≡ found_from has_mark lines from
    → first_mark (parts_of (drop i lines)) ≡ mark_there lines i
first_mark-found lines from i d is =
    ⊎_elim
    (λ (below : i < length lines).
    let there : position_or_len has_mark (drop from lines) < length (drop from lines) =
    omega (arith, length-drop from lines) in
    let passes : is_some (mark_of (get_or lines i d).bytes) ≡ true =
    ap (λ k. is_some (mark_of (get_or lines k d).bytes)) is
    ∙ ap (λ (line : Line). is_some (mark_of line.bytes))
    (sym (get_or-drop from lines (position_or_len has_mark (drop from lines)) d))
    ∙ passes_at_first has_mark (drop from lines) d there in
    some_mark lines i (mark_there lines i) d refl (ap is_some (mark_of_line lines i d below) ∙ passes))
    (λ (past : length lines ≤ i). ap (λ ls. first_mark (parts_of ls)) (drop_all i lines past)
    ∙ sym (no_mark_past lines i past))
    (cases_lt i (length lines))

-- no part of new lines after an old part
pub blocks_of-no_new : (place : Place) (old : List Line) (parts : List Part) → (first_mark parts ≡ Some New → ⊥)
    → blocks_of (part Old place old ∷ parts) ≡ Err (fault_at NO_NEW_PART place)
unfolding blocks_of
blocks_of-no_new place old [] none = refl
blocks_of-no_new place old (part Old at lines ∷ parts) none = refl
blocks_of-no_new place old (part New at lines ∷ parts) none = absurd (none refl)
blocks_of-no_new place old (part End at lines ∷ parts) none = refl

-- no end after a part of new lines
pub blocks_of-no_end : (place at : Place) (old new : List Line) (parts : List Part)
    → (first_mark parts ≡ Some End → ⊥)
    → blocks_of (part Old place old ∷ (part New at new ∷ parts)) ≡ block place (old_lines_of old) new
    (Err (fault_at NO_END_OF_CHANGE place))
unfolding blocks_of
blocks_of-no_end place at old new [] none = refl
blocks_of-no_end place at old new (part Old at' lines ∷ parts) none = refl
blocks_of-no_end place at old new (part New at' lines ∷ parts) none = refl
blocks_of-no_end place at old new (part End at' lines ∷ parts) none = absurd (none refl)

-- no old lines, whatever comes
pub blocks_of-no_old : (place at : Place) (old new : List Line) (parts : List Part) → old_lines_of old ≡ []
    → blocks_of (part Old place old ∷ (part New at new ∷ parts)) ≡ Err (fault_at EMPTY_CHANGE place)
unfolding blocks_of
blocks_of-no_old place at old new [] none = ap (λ ls. block place ls new (Err (fault_at NO_END_OF_CHANGE place))) none
blocks_of-no_old place at old new (part Old at' lines ∷ parts) none =
    ap (λ ls. block place ls new (Err (fault_at NO_END_OF_CHANGE place))) none
blocks_of-no_old place at old new (part New at' lines ∷ parts) none =
    ap (λ ls. block place ls new (Err (fault_at NO_END_OF_CHANGE place))) none
blocks_of-no_old place at old new (part End at' lines ∷ parts) none =
    ap (λ ls. block place ls new (blocks_of parts)) none

pub blocks_of-block : (place at at_end : Place) (old new outside : List Line) (parts : List Part)
    → blocks_of (part Old place old ∷ (part New at new ∷ (part End at_end outside ∷ parts))) ≡ block place
    (old_lines_of old) new (blocks_of parts)
unfolding blocks_of
blocks_of-block place at at_end old new outside parts = refl

pub blocks_of-stray : (place : Place) (mark : Mark) (lines : List Line) (parts : List Part) → (mark ≡ Old → ⊥)
    → blocks_of (part mark place lines ∷ parts) ≡ Err (fault_at STRAY_CHANGE_MARK place)
unfolding blocks_of
blocks_of-stray place Old lines parts other = absurd (other refl)
blocks_of-stray place New lines parts other = refl
blocks_of-stray place End lines parts other = refl

-- the old part that begins at a place of the lines
abbrev pub old_part : List Line → Place → ℕ → List Part
old_part lines place from = part Old place (before_first has_mark (drop from lines)) ∷ parts_of (drop from lines)

range_to_mark : (lines : List Line) (from i : ℕ) → i ≡ found_from has_mark lines from
    → before_first has_mark (drop from lines) ≡ slice_range lines from i
range_to_mark lines from i is = ap (λ n. take n (drop from lines)) (omega arith)

old_part_is : (lines : List Line) (place : Place) (from i : ℕ) → i ≡ found_from has_mark lines from
    → old_part lines place from ≡ part Old place (slice_range lines from i) ∷ parts_of (drop i lines)
old_part_is lines place from i is =
    ap (λ ls. part Old place ls ∷ parts_of (drop from lines)) (range_to_mark lines from i is)
    ∙ ap (λ ps. part Old place (slice_range lines from i) ∷ ps) (parts_of-from lines from i is)

-- its fault where no part of new lines follows
pub old_part-no_new :
    (lines : List Line) (place : Place) (from i : ℕ) (d : Line) → i ≡ found_from has_mark lines from
    → (mark_there lines i ≡ Some New → ⊥)
    → blocks_of (old_part lines place from) ≡ Err (fault_at NO_NEW_PART place)
old_part-no_new lines place from i d is none =
    ap blocks_of (old_part_is lines place from i is)
    ∙ blocks_of-no_new place (slice_range lines from i) (parts_of (drop i lines))
    (λ new. none (sym (first_mark-found lines from i d is) ∙ new))

-- where one follows
with_new :
    (lines : List Line) (place : Place) (from i k : ℕ) (d : Line) → i ≡ found_from has_mark lines from
    → mark_there lines i ≡ Some New
    → k ≡ found_from has_mark lines (i + 1)
    → old_part lines place from ≡ part Old place (slice_range lines from i) ∷
    (part New (get_or lines i d).place (slice_range lines (i + 1) k) ∷ parts_of (drop k lines))
with_new lines place from i k d is new k_is =
    old_part_is lines place from i is
    ∙ ap (λ ps. part Old place (slice_range lines from i) ∷ ps) (parts_of-mark lines i New d new)
    ∙ ap (λ ls. part Old place (slice_range lines from i) ∷
    (part New (get_or lines i d).place ls ∷ parts_of (drop (i + 1) lines))) (range_to_mark lines (i + 1) k k_is)
    ∙ ap (λ ps. part Old place (slice_range lines from i) ∷
    (part New (get_or lines i d).place (slice_range lines (i + 1) k) ∷ ps)) (parts_of-from lines (i + 1) k k_is)

pub old_part-no_old :
    (lines : List Line) (place : Place) (from i : ℕ) (d : Line) → i ≡ found_from has_mark lines from
    → mark_there lines i ≡ Some New
    → old_lines_of (slice_range lines from i) ≡ []
    → blocks_of (old_part lines place from) ≡ Err (fault_at EMPTY_CHANGE place)
old_part-no_old lines place from i d is new none =
    let k : ℕ = found_from has_mark lines (i + 1) in
    ap blocks_of (with_new lines place from i k d is new refl)
    ∙ blocks_of-no_old place (get_or lines i d).place (slice_range lines from i) (slice_range lines (i + 1) k)
    (parts_of (drop k lines)) none

pub old_part-no_end :
    (lines : List Line) (place : Place) (from i k : ℕ) (d first : Line) (others : List Line)
    → i ≡ found_from has_mark lines from → mark_there lines i ≡ Some New
    → old_lines_of (slice_range lines from i) ≡ first ∷ others
    → k ≡ found_from has_mark lines (i + 1) → (mark_there lines k ≡ Some End → ⊥)
    → blocks_of (old_part lines place from) ≡ Err (fault_at NO_END_OF_CHANGE place)
old_part-no_end lines place from i k d first others is new olds k_is none =
    ap blocks_of (with_new lines place from i k d is new k_is)
    ∙ blocks_of-no_end place (get_or lines i d).place (slice_range lines from i) (slice_range lines (i + 1) k)
    (parts_of (drop k lines)) (λ end. none (sym (first_mark-found lines (i + 1) k d k_is) ∙ end))
    ∙ ap (λ ls. block place ls (slice_range lines (i + 1) k) (Err (fault_at NO_END_OF_CHANGE place))) olds

pub old_part-block :
    (lines : List Line) (place : Place) (from i k : ℕ) (d first : Line) (others : List Line)
    → i ≡ found_from has_mark lines from → mark_there lines i ≡ Some New
    → old_lines_of (slice_range lines from i) ≡ first ∷ others
    → k ≡ found_from has_mark lines (i + 1) → mark_there lines k ≡ Some End
    → blocks_of (old_part lines place from)
    ≡ followed_by (record { place = place; first = first; others = others; new = slice_range lines (i + 1) k } ∷ [])
    (blocks_of (parts_of (drop (k + 1) lines)))
old_part-block lines place from i k d first others is new olds k_is ends =
    ap blocks_of (with_new lines place from i k d is new k_is)
    ∙ ap (λ ps. blocks_of
    (part Old place (slice_range lines from i) ∷
    (part New (get_or lines i d).place (slice_range lines (i + 1) k) ∷ ps))) (parts_of-mark lines k End d ends)
    ∙ blocks_of-block place (get_or lines i d).place (get_or lines k d).place (slice_range lines from i)
    (slice_range lines (i + 1) k) (before_first has_mark (drop (k + 1) lines)) (parts_of (drop (k + 1) lines))
    ∙ ap (λ ls. block place ls (slice_range lines (i + 1) k) (blocks_of (parts_of (drop (k + 1) lines)))) olds

-- the old lines, from the first that is not empty
old_lines_are : (lines : List Line) (from i empty : ℕ) → empty ≡ prefix_len is_empty (slice_range lines from i)
    → empty ≤ i - from → old_lines_of (slice_range lines from i) ≡ slice_range lines (from + empty) i
old_lines_are lines from i empty is within =
    ap (λ n. drop n (slice_range lines from i)) (sym is)
    ∙ ap (λ n. drop empty (take n (drop from lines)))
    (let e : i - from ≡ empty + (i - (from + empty)) = omega arith in e)
    ∙ drop-take empty (i - (from + empty)) (drop from lines)
    ∙ ap (take (i - (from + empty))) (drop-drop empty from lines)

pub no_old_lines : (lines : List Line) (from i empty : ℕ) → empty ≡ prefix_len is_empty (slice_range lines from i)
    → empty ≤ i - from → from + empty ≡ i → old_lines_of (slice_range lines from i) ≡ []
no_old_lines lines from i empty is within all =
    old_lines_are lines from i empty is within
    ∙ ap (λ n. take n (drop (from + empty) lines)) (let e : i - (from + empty) ≡ 0 = omega arith in e)

pub some_old_lines :
    (lines : List Line) (from i empty : ℕ) (d : Line) → empty ≡ prefix_len is_empty (slice_range lines from i)
    → empty ≤ i - from → from + empty < i → i ≤ length lines
    → old_lines_of (slice_range lines from i) ≡ get_or lines (from + empty) d ∷ slice_range lines (from + empty + 1) i
some_old_lines lines from i empty d is within some in_lines =
    old_lines_are lines from i empty is within
    ∙ ap (λ n. take n (drop (from + empty) lines))
    (let e : i - (from + empty) ≡ suc (i - (from + empty + 1)) = omega arith in e)
    ∙ ap (take (suc (i - (from + empty + 1)))) (drop_more lines (from + empty) d (omega arith))

-- at a mark that begins no block
pub parts_of-stray : (lines : List Line) (i : ℕ) (mark : Mark) (d : Line) → mark_there lines i ≡ Some mark
    → (mark ≡ Old → ⊥)
    → blocks_of (parts_of (drop i lines)) ≡ Err (fault_at STRAY_CHANGE_MARK (get_or lines i d).place)
parts_of-stray lines i mark d is other =
    ap blocks_of (parts_of-mark lines i mark d is)
    ∙ blocks_of-stray (get_or lines i d).place mark (before_first has_mark (drop (i + 1) lines))
    (parts_of (drop (i + 1) lines)) other
