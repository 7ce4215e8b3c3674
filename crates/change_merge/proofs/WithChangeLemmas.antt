-- Where a block applies, and what it leaves.
use Rattle.std.proofs.Common.{◌≡◌, ℕ, ◌+◌, ◌-◌, ◌<◌, ◌≤◌, Bool, true, false, suc, not, refl, List, [], ◌∷◌}
use Rattle.std.proofs.Common.{length, take, drop, get_or, ap, ◌∙◌, sym, arith, cond, Result, Ok, Err}
use Rattle.std.specs.Str.{bytes_eq}
use Rattle.std.specs.List.{position_or_len, slice_range}
use Rattle.std.proofs.lemmas.Grind.{common_steps}
use Rattle.std.proofs.lemmas.List.{drop_more, drop_all, drop-drop, length-drop, length-take, length-map}
use Rattle.std.proofs.lemmas.List.{take-map, drop-map, take_rest}
use Rattle.std.proofs.lemmas.List.Sums.{passes_at_first}
use Rattle.wb_base.specs.declared.faults.Fault.{Fault}
use Rattle.change_merge.specs.Lines.{Line}
use Rattle.wb_base.specs.FaultAt.{fault_at}
use Rattle.change_merge.specs.Changes.{Change}
use Rattle.change_merge.specs.Merge.{lines_after, with_change}
use Rattle.wb_base.specs.Steps.{◌>>=◌, followed_by}
use Rattle.change_merge.specs.inner.Spans.{line_at, lines_at, change_at, IsInOrder}
use Rattle.change_merge.specs.declared.spans.Span.{Span}
use Rattle.change_merge.specs.declared.blocks.Block.{Block}
use Rattle.wb_base.proofs.StepsLemmas.{followed_by-nil, followed_by-followed_by}
use Rattle.change_merge.proofs.SearchLemmas.{found_from, bytes_of_line}
use Rattle.wb_base.specs.declared.faults.TheConstants.{CHANGE_NOT_FOUND}

-- whether a line equals the first old line
abbrev pub equals_first : Change → Line → Bool
equals_first change line = bytes_eq change.first.bytes line.bytes

abbrev pub Further : Type 0
Further = List Line → Result (List Line) Fault

abbrev Skips : Change → Further → List Line → Type 0
Skips change further lines =
    with_change change further lines ≡ followed_by (take (position_or_len (equals_first change) lines) lines)
    (with_change change further (drop (position_or_len (equals_first change) lines) lines))

skips_one : (b : Bool) (change : Change) (further : Further) (line : Line) (lines : List Line)
    → equals_first change line ≡ b → Skips change further lines → Skips change further (line ∷ lines)
skips_one true change further line lines is rest = grind (arith, common_steps, followed_by-nil)
skips_one false change further line lines is rest =
    let n : ℕ = position_or_len (equals_first change) lines in
    let one_more : position_or_len (equals_first change) (line ∷ lines) ≡ suc n =
    ap (λ b. cond (not b) (1 + n) 0) is ∙ omega arith in
    ap (λ b. cond b (lines_after change.others lines >>= (λ rest'. followed_by change.new (further rest')))
    (followed_by (line ∷ []) (with_change change further lines))) is
    ∙ ap (followed_by (line ∷ [])) rest
    ∙ followed_by-followed_by (line ∷ []) (take n lines) (with_change change further (drop n lines))
    ∙ ap (λ k. followed_by (take k (line ∷ lines)) (with_change change further (drop k (line ∷ lines))))
    (sym one_more)

-- the lines before the first that equals the first old line stay
with_change-skips : (change : Change) (further : Further) (lines : List Line) → Skips change further lines
with_change-skips change further [] = refl
with_change-skips change further (line ∷ lines) =
    skips_one (equals_first change line) change further line lines refl (with_change-skips change further lines)

-- where there is none, the block applies nowhere
pub with_change-nowhere : (change : Change) (further : Further) (lines : List Line)
    → position_or_len (equals_first change) lines ≡ length lines
    → with_change change further lines ≡ Err (fault_at CHANGE_NOT_FOUND change.place)
with_change-nowhere change further lines none =
    with_change-skips change further lines
    ∙ ap (λ k. followed_by (take k lines) (with_change change further (drop k lines))) none
    ∙ ap (λ rest. followed_by (take (length lines) lines) (with_change change further rest))
    (drop_all (length lines) lines (omega arith))

-- else it applies there: what is after its other old lines comes after its new lines
abbrev pub from_first : Change → Further → List Line → Result (List Line) Fault
from_first change further after = lines_after change.others after >>= (λ rest. followed_by change.new (further rest))

pub with_change-here :
    (change : Change) (further : Further) (lines : List Line) (k : ℕ) (d : Line)
    → k ≡ position_or_len (equals_first change) lines → k < length lines
    → with_change change further lines ≡ followed_by (take k lines) (from_first change further (drop (k + 1) lines))
with_change-here change further lines k d is within =
    let found : equals_first change (get_or lines k d) ≡ true =
    rw is (passes_at_first (equals_first change) lines d (rw is at within)) in
    with_change-skips change further lines
    ∙ ap (λ n. followed_by (take n lines) (with_change change further (drop n lines))) (sym is)
    ∙ ap (λ rest. followed_by (take k lines) (with_change change further rest)) (drop_more lines k d within)
    ∙ ap (λ b. followed_by (take k lines)
    (cond b (from_first change further (drop (k + 1) lines))
    (followed_by (get_or lines k d ∷ []) (with_change change further (drop (k + 1) lines))))) found

-- the same in a list of lines, from a place on
pub nowhere_from :
    (change : Change) (further : Further) (lines : List Line) (from first : ℕ) → from ≤ length lines
    → first ≡ found_from (equals_first change) lines from → first ≡ length lines
    → with_change change further (drop from lines) ≡ Err (fault_at CHANGE_NOT_FOUND change.place)
nowhere_from change further lines from first within is ended =
    with_change-nowhere change further (drop from lines) (omega (arith, length-drop from lines))

pub applies_from :
    (change : Change) (further : Further) (lines : List Line) (from first : ℕ) (d : Line) → first < length lines
    → first ≡ found_from (equals_first change) lines from
    → with_change change further (drop from lines) ≡ followed_by (slice_range lines from first)
    (from_first change further (drop (first + 1) lines))
applies_from change further lines from first d within is =
    let same : first - from ≡ position_or_len (equals_first change) (drop from lines) = omega arith in
    let below : first - from < length (drop from lines) = omega (arith, length-drop from lines) in
    let after : drop (first - from + 1) (drop from lines) ≡ drop (first + 1) lines =
    drop-drop (first - from + 1) from lines ∙ ap (λ n. drop n lines) (omega arith) in
    with_change-here change further (drop from lines) (first - from) d same below
    ∙ ap (λ rest. followed_by (slice_range lines from first) (from_first change further rest)) after

-- the lines at a part of the spans
pub lines_at-range : (text : List ℕ) (spans : List Span) (i j : ℕ)
    → lines_at text (slice_range spans i j) ≡ slice_range (lines_at text spans) i j
lines_at-range text spans i j =
    sym (ap (take (j - i)) (drop-map (line_at text) i spans) ∙ take-map (line_at text) (j - i) (drop i spans))

pub lines_at-rest : (text : List ℕ) (spans : List Span) (i : ℕ)
    → lines_at text (slice_range spans i (length spans)) ≡ drop i (lines_at text spans)
lines_at-rest text spans i = ap (lines_at text) (take_rest spans i) ∙ sym (drop-map (line_at text) i spans)

-- a block of a change file, and the first line of the web, from a place on, that equals its first old line
pub record Found (text : List ℕ) (web change : List Span) (block : Block) (from first : ℕ) (d : Span)
    (bytes : List ℕ) : Type 0 where
  pub in_order : IsInOrder (length change) block
  pub within : from ≤ length web
  pub bytes_are : bytes ≡ (line_at text (get_or change block.first_old d)).bytes
  pub first_is : first ≡ found_from (λ (line : Line). bytes_eq bytes line.bytes) (lines_at text web) from

found_by_change : (text : List ℕ) (web change : List Span) (block : Block) (from first : ℕ) (d : Span)
    (bytes : List ℕ) → Found text web change block from first d bytes
    → first ≡ found_from (equals_first (change_at (lines_at text change) block)) (lines_at text web) from
found_by_change text web change block from first d bytes found =
    let there : block.first_old < length change =
    omega (arith, found.in_order.some_old, found.in_order.marks, found.in_order.within) in
    found.first_is
    ∙ ap (λ bs. found_from (λ (line : Line). bytes_eq bs line.bytes) (lines_at text web) from)
    (sym (bytes_of_line text change block.first_old d
    (record { place = block.place; bytes = [] }) bytes there found.bytes_are))

pub block_nowhere :
    (text : List ℕ) (web change : List Span) (block : Block) (from first : ℕ) (d : Span) (bytes : List ℕ)
    → Found text web change block from first d bytes
    → first ≡ length web → (further : Further)
    → with_change (change_at (lines_at text change) block) further (drop from (lines_at text web)) ≡ Err
    (fault_at CHANGE_NOT_FOUND block.place)
block_nowhere text web change block from first d bytes found ended further =
    let within : from ≤ length (lines_at text web) = rw (length-map web (line_at text)) found.within in
    nowhere_from (change_at (lines_at text change) block) further (lines_at text web) from first within
    (found_by_change text web change block from first d bytes found) (rw (length-map web (line_at text)) ended)

-- what stands after its other old lines, by the call that compared them
block_here :
    (text : List ℕ) (web change : List Span) (block : Block) (from first : ℕ) (d : Span) (bytes : List ℕ)
    → Found text web change block from first d bytes
    → first < length web → (further : Further)
    → with_change (change_at (lines_at text change) block) further (drop from (lines_at text web))
    ≡ followed_by (slice_range (lines_at text web) from first)
    (lines_after (lines_at text (slice_range change (block.first_old + 1) block.new_mark))
    (lines_at text (slice_range web (first + 1) (length web)))
    >>= (λ rest. followed_by (change_at (lines_at text change) block).new (further rest)))
block_here text web change block from first d bytes found below further =
    let within : first < length (lines_at text web) = rw (length-map web (line_at text)) below in
    applies_from (change_at (lines_at text change) block) further (lines_at text web) from first
    (line_at text d) within
    (found_by_change text web change block from first d bytes found)
    ∙ ap (λ olds. followed_by (slice_range (lines_at text web) from first)
    (lines_after olds (drop (first + 1) (lines_at text web)) >>=
    (λ rest. followed_by (change_at (lines_at text change) block).new (further rest))))
    (sym (lines_at-range text change (block.first_old + 1) block.new_mark))
    ∙ ap (λ lines. followed_by (slice_range (lines_at text web) from first)
    (lines_after (lines_at text (slice_range change (block.first_old + 1) block.new_mark)) lines >>=
    (λ rest. followed_by (change_at (lines_at text change) block).new (further rest))))
    (sym (lines_at-rest text web (first + 1)))

pub block_differs :
    (text : List ℕ) (web change : List Span) (block : Block) (from first : ℕ) (d : Span) (bytes : List ℕ)
    → Found text web change block from first d bytes
    → first < length web → (fault : Fault)
    → lines_after (lines_at text (slice_range change (block.first_old + 1) block.new_mark))
    (lines_at text (slice_range web (first + 1) (length web))) ≡ Err fault
    → (further : Further)
    → with_change (change_at (lines_at text change) block) further (drop from (lines_at text web)) ≡ Err fault
block_differs text web change block from first d bytes found below fault differs further =
    block_here text web change block from first d bytes found below further
    ∙ ap (λ r. followed_by (slice_range (lines_at text web) from first)
    (r >>= (λ rest. followed_by (change_at (lines_at text change) block).new (further rest)))) differs

-- it replaces its old lines, so many
pub length_of_olds : (change : List Span) (block : Block) → IsInOrder (length change) block
    → length (slice_range change (block.first_old + 1) block.new_mark) + 1 ≡ block.new_mark - block.first_old
length_of_olds change block in_order =
    omega (
      arith,
      in_order.some_old,
      in_order.marks,
      in_order.within,
      length-take
          (block.new_mark - (block.first_old + 1)) (drop (block.first_old + 1) change),
      length-drop
          (block.first_old + 1) change,
    )

pub block_applies :
    (text : List ℕ) (web change : List Span) (block : Block) (from first : ℕ) (d : Span) (bytes : List ℕ)
    → Found text web change block from first d bytes
    → first < length web
    → lines_after (lines_at text (slice_range change (block.first_old + 1) block.new_mark))
    (lines_at text (slice_range web (first + 1) (length web)))
    ≡ Ok (drop (length (slice_range change (block.first_old + 1) block.new_mark))
    (lines_at text (slice_range web (first + 1) (length web))))
    → (further : Further)
    → with_change (change_at (lines_at text change) block) further (drop from (lines_at text web))
    ≡ followed_by (slice_range (lines_at text web) from first)
    (followed_by (change_at (lines_at text change) block).new
    (further (drop (first + (block.new_mark - block.first_old)) (lines_at text web))))
block_applies text web change block from first d bytes found below compared further =
    let many : ℕ = length (slice_range change (block.first_old + 1) block.new_mark) in
    let count : many + 1 ≡ block.new_mark - block.first_old = length_of_olds change block found.in_order in
    let after : drop many (lines_at text (slice_range web (first + 1) (length web))) ≡ drop
    (first + (block.new_mark - block.first_old)) (lines_at text web) =
    ap (drop many) (lines_at-rest text web (first + 1)) ∙ drop-drop many (first + 1) (lines_at text web)
    ∙ ap (λ n. drop n (lines_at text web)) (omega arith) in
    block_here text web change block from first d bytes found below further
    ∙ ap (λ r. followed_by (slice_range (lines_at text web) from first)
    (r >>= (λ rest. followed_by (change_at (lines_at text change) block).new (further rest)))) compared
    ∙ ap (λ rest. followed_by (slice_range (lines_at text web) from first)
    (followed_by (change_at (lines_at text change) block).new (further rest))) after
