-- The merge so far: the lines of the web and of the blocks that stand merged, and the lines and blocks that are left.
use Rattle.std.proofs.Common.{◌≡◌, ℕ, ◌+◌, ◌-◌, ◌<◌, ◌≤◌, List, [], ◌++◌, length, drop, get_or, ap, ◌∙◌, sym, subst}
use Rattle.std.proofs.Common.{arith, Result, Ok, Err}
use Rattle.std.specs.List.{slice_range}
use Rattle.std.proofs.lemmas.List.{drop_more, drop_all, map-append}
use Rattle.std.proofs.lemmas.List.Elements.{All-nil, All-append, All-take, All-drop}
use Rattle.wb_base.specs.declared.faults.Fault.{Fault}
use Rattle.change_merge.specs.Lines.{Line}
use Rattle.change_merge.specs.Merge.{with_change, with_changes}
use Rattle.wb_base.specs.Steps.{followed_by}
use Rattle.change_merge.specs.inner.Spans.{line_at, lines_at, change_at, changes_at, IsWithin, AllInside}
use Rattle.change_merge.specs.declared.spans.Span.{Span}
use Rattle.change_merge.specs.declared.blocks.Block.{Block}
use Rattle.wb_base.proofs.StepsLemmas.{followed_by-nil, followed_by-followed_by}
use Rattle.change_merge.proofs.WithChangeLemmas.{Further, lines_at-range, lines_at-rest}

pub record MergedSoFar (text : List ℕ) (web change : List Span) (blocks : List Block) (merged : List Span)
    (i next : ℕ) : Type 0 where
  pub within : next ≤ length web
  pub inside : AllInside text merged
  pub same :
      with_changes (changes_at (lines_at text change) blocks) (lines_at text web)
      ≡ followed_by (lines_at text merged)
      (with_changes (changes_at (lines_at text change) (drop i blocks)) (drop next (lines_at text web)))

nothing_merged : (text : List ℕ) (web change : List Span) (blocks : List Block)
    → MergedSoFar text web change blocks [] 0 0
nothing_merged text web change blocks = record {
  within = omega arith;
  inside = All-nil (IsWithin (length text));
  same = sym (followed_by-nil (with_changes (changes_at (lines_at text change) blocks) (lines_at text web)));
}

pub MergedSoFar_none : (text : List ℕ) (web change : List Span) (blocks : List Block) (merged : List Span)
    → merged ≡ [] → MergedSoFar text web change blocks merged 0 0
MergedSoFar_none text web change blocks merged none =
    subst (λ (m : List Span). MergedSoFar text web change blocks m 0 0) (sym none)
    (nothing_merged text web change blocks)

-- the block at a place is the next to be applied
next_block :
    (text : List ℕ) (web change : List Span) (blocks : List Block) (merged : List Span) (i next : ℕ) (d : Block)
    → MergedSoFar text web change blocks merged i next
    → i < length blocks
    → with_changes (changes_at (lines_at text change) blocks) (lines_at text web)
    ≡ followed_by (lines_at text merged)
    (with_change (change_at (lines_at text change) (get_or blocks i d))
    (with_changes (changes_at (lines_at text change) (drop (i + 1) blocks))) (drop next (lines_at text web)))
next_block text web change blocks merged i next d so_far within =
    so_far.same
    ∙ ap (λ bs. followed_by (lines_at text merged)
    (with_changes (changes_at (lines_at text change) bs) (drop next (lines_at text web))))
    (drop_more blocks i d within)

-- its fault is that of the merge
pub MergedSoFar_fault :
    (text : List ℕ) (web change : List Span) (blocks : List Block) (merged : List Span) (i next : ℕ) (d : Block)
    → MergedSoFar text web change blocks merged i next
    → i < length blocks → (fault : Fault)
    → ((further : Further)
    → with_change (change_at (lines_at text change) (get_or blocks i d)) further (drop next (lines_at text web))
    ≡ Err fault)
    → with_changes (changes_at (lines_at text change) blocks) (lines_at text web) ≡ Err fault
MergedSoFar_fault text web change blocks merged i next d so_far within fault fails =
    next_block text web change blocks merged i next d so_far within
    ∙ ap (followed_by (lines_at text merged))
    (fails (with_changes (changes_at (lines_at text change) (drop (i + 1) blocks))))

AllInside-range : (text : List ℕ) (spans : List Span) (i j : ℕ) → AllInside text spans
    → AllInside text (slice_range spans i j)
AllInside-range text spans i j inside =
    All-take (IsWithin (length text)) (j - i) (drop i spans) (All-drop (IsWithin (length text)) i spans inside)

-- the spans of the web before it, and those of its new lines
abbrev pub with_block : List Span → List Span → Block → ℕ → ℕ → List Span → List Span
with_block web change block next first merged =
    merged ++ slice_range web next first ++ slice_range change (block.new_mark + 1) block.end_mark

lines_with_block :
    (text : List ℕ) (web change : List Span) (block : Block) (next first : ℕ) (merged : List Span)
    → lines_at text (with_block web change block next first merged)
    ≡ lines_at text merged ++ slice_range (lines_at text web) next first ++
    (change_at (lines_at text change) block).new
lines_with_block text web change block next first merged =
    map-append (line_at text) (merged ++ slice_range web next first)
    (slice_range change (block.new_mark + 1) block.end_mark)
    ∙ ap (λ ls. ls ++ lines_at text (slice_range change (block.new_mark + 1) block.end_mark))
    (map-append (line_at text) merged (slice_range web next first))
    ∙ ap (λ mid. lines_at text merged ++ mid ++ lines_at text
    (slice_range change (block.new_mark + 1) block.end_mark)) (lines_at-range text web next first)
    ∙ ap (λ new. lines_at text merged ++ slice_range (lines_at text web) next first ++ new)
    (lines_at-range text change (block.new_mark + 1) block.end_mark)

pub MergedSoFar_more :
    (text : List ℕ) (web change : List Span) (blocks : List Block) (merged prefix now : List Span)
    (i next first now_next : ℕ) (d : Block) → MergedSoFar text web change blocks merged i next
    → AllInside text web → AllInside text change → i < length blocks
    → ((further : Further)
    → with_change (change_at (lines_at text change) (get_or blocks i d)) further (drop next (lines_at text web))
    ≡ followed_by (slice_range (lines_at text web) next first)
    (followed_by (change_at (lines_at text change) (get_or blocks i d)).new
    (further (drop now_next (lines_at text web)))))
    → now_next ≤ length web
    → prefix ≡ merged ++ slice_range web next first
    → now ≡ prefix ++ slice_range change ((get_or blocks i d).new_mark + 1) (get_or blocks i d).end_mark
    → MergedSoFar text web change blocks now (i + 1) now_next
MergedSoFar_more text web change blocks merged prefix now i next first now_next d so_far web_inside change_inside
    within applies now_within prefix_is now_is =
    let block : Block = get_or blocks i d in
    let rest : Result (List Line) Fault =
    with_changes (changes_at (lines_at text change) (drop (i + 1) blocks)) (drop now_next (lines_at text web)) in
    let more : MergedSoFar text web change blocks (with_block web change block next first merged) (i + 1) now_next =
    record {
      within = now_within;
      inside = All-append (IsWithin (length text)) (merged ++ slice_range web next first)
          (slice_range change (block.new_mark + 1) block.end_mark)
          (All-append (IsWithin (length text)) merged (slice_range web next first) so_far.inside
          (AllInside-range text web next first web_inside))
          (AllInside-range text change (block.new_mark + 1) block.end_mark change_inside);
      same =
          next_block text web change blocks merged i next d so_far within
          ∙ ap (followed_by (lines_at text merged))
          (applies (with_changes (changes_at (lines_at text change) (drop (i + 1) blocks))))
          ∙ followed_by-followed_by (lines_at text merged) (slice_range (lines_at text web) next first)
          (followed_by (change_at (lines_at text change) block).new rest)
          ∙ followed_by-followed_by (lines_at text merged ++ slice_range (lines_at text web) next first)
          (change_at (lines_at text change) block).new rest
          ∙ ap (λ ls. followed_by ls rest) (sym (lines_with_block text web change block next first merged));
    } in
    subst (λ (m : List Span). MergedSoFar text web change blocks m (i + 1) now_next)
    (sym (now_is ∙ ap (λ ss. ss ++ slice_range change (block.new_mark + 1) block.end_mark) prefix_is)) more

-- after the last block
pub MergedSoFar_all :
    (text : List ℕ) (web change : List Span) (blocks : List Block) (merged now : List Span) (i next : ℕ)
    → MergedSoFar text web change blocks merged i next
    → length blocks ≤ i → now ≡ merged ++ slice_range web next (length web)
    → with_changes (changes_at (lines_at text change) blocks) (lines_at text web) ≡ Ok (lines_at text now)
MergedSoFar_all text web change blocks merged now i next so_far ended now_is =
    so_far.same
    ∙ ap (λ bs. followed_by (lines_at text merged)
    (with_changes (changes_at (lines_at text change) bs) (drop next (lines_at text web))))
    (drop_all i blocks ended)
    ∙ ap (λ rest. Ok (lines_at text merged ++ rest)) (sym (lines_at-rest text web next))
    ∙ ap Ok (sym (map-append (line_at text) merged (slice_range web next (length web))))
    ∙ ap (λ m. Ok (lines_at text m)) (sym now_is)

pub MergedSoFar_all_inside :
    (text : List ℕ) (web change : List Span) (blocks : List Block) (merged now : List Span) (i next : ℕ)
    → MergedSoFar text web change blocks merged i next
    → AllInside text web → now ≡ merged ++ slice_range web next (length web) → AllInside text now
MergedSoFar_all_inside text web change blocks merged now i next so_far web_inside now_is =
    subst (λ (m : List Span). AllInside text m) (sym now_is)
    (All-append (IsWithin (length text)) merged (slice_range web next (length web)) so_far.inside
    (AllInside-range text web next (length web) web_inside))
