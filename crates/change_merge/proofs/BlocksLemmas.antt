-- The blocks of a change file as far as a place of its lines.
use Rattle.std.proofs.Common.{◌≡◌, ℕ, ◌+◌, ◌<◌, ◌≤◌, refl, List, [], ◌∷◌, ◌++◌, length, drop, get_or, ap, ◌∙◌, sym}
use Rattle.std.proofs.Common.{subst, arith, Result, Ok, Err, None, Some, All}
use Rattle.std.proofs.lemmas.List.{drop_all, map_push, append-nil, get_or-map, length-map}
use Rattle.std.proofs.lemmas.List.Elements.{All-nil, All-push}
use Rattle.std.specs.List.{before_first}
use Rattle.wb_base.specs.declared.faults.Fault.{Fault}
use Rattle.change_merge.specs.Lines.{Line}
use Rattle.wb_base.specs.FaultAt.{fault_at}
use Rattle.change_merge.specs.Changes.{Change, part, parts_of, blocks_of, has_mark}
use Rattle.wb_base.specs.Steps.{followed_by}
use Rattle.change_merge.specs.inner.Spans.{line_at, lines_at, mark_there, change_at, changes_at, IsInOrder}
use Rattle.change_merge.specs.declared.marks.Mark.{Mark}
use Rattle.change_merge.specs.declared.marks.Mark.TheVariants.{Old}
use Rattle.change_merge.specs.declared.spans.Span.{Span}
use Rattle.change_merge.specs.declared.blocks.Block.{Block}
use Rattle.wb_base.proofs.StepsLemmas.{followed_by-nil, followed_by-followed_by}
use Rattle.change_merge.proofs.PartsLemmas.{parts_of-mark, parts_of-no_mark, parts_of-stray, old_part}
use Rattle.wb_base.specs.declared.faults.TheConstants.{STRAY_CHANGE_MARK}

pub record BlocksSoFar (text : List ℕ) (spans : List Span) (blocks : List Block) (i : ℕ) : Type 0 where
  pub within : i ≤ length spans
  pub in_order : All (IsInOrder (length spans)) blocks
  pub same : blocks_of (parts_of (lines_at text spans)) ≡ followed_by (changes_at (lines_at text spans) blocks)
      (blocks_of (parts_of (drop i (lines_at text spans))))

no_blocks : (text : List ℕ) (spans : List Span) → BlocksSoFar text spans [] 0
no_blocks text spans = record {
  within = omega arith;
  in_order = All-nil (IsInOrder (length spans));
  same = sym (followed_by-nil (blocks_of (parts_of (lines_at text spans))));
}

pub BlocksSoFar_none : (text : List ℕ) (spans : List Span) (blocks : List Block) → blocks ≡ []
    → BlocksSoFar text spans blocks 0
BlocksSoFar_none text spans blocks none =
    subst (λ (b : List Block). BlocksSoFar text spans b 0) (sym none) (no_blocks text spans)

-- past a line without a mark
pub BlocksSoFar_past : (text : List ℕ) (spans : List Span) (blocks : List Block) (i : ℕ) (d : Span)
    → BlocksSoFar text spans blocks i → i < length spans → mark_there (lines_at text spans) i ≡ None
    → BlocksSoFar text spans blocks (i + 1)
BlocksSoFar_past text spans blocks i d so_far below none = record {
  within = omega arith;
  in_order = so_far.in_order;
  same = so_far.same ∙ ap (λ ps. followed_by (changes_at (lines_at text spans) blocks) (blocks_of ps))
      (parts_of-no_mark (lines_at text spans) i (line_at text d) (rw (length-map spans (line_at text)) below) none);
}

-- the fault of the block there is that of all
pub BlocksSoFar_fault : (text : List ℕ) (spans : List Span) (blocks : List Block) (i : ℕ)
    → BlocksSoFar text spans blocks i
    → (fault : Fault) → blocks_of (parts_of (drop i (lines_at text spans))) ≡ Err fault
    → blocks_of (parts_of (lines_at text spans)) ≡ Err fault
BlocksSoFar_fault text spans blocks i so_far fault fails =
    so_far.same ∙ ap (followed_by (changes_at (lines_at text spans) blocks)) fails

-- past a block
pub BlocksSoFar_more :
    (text : List ℕ) (spans : List Span) (blocks now : List Block) (i : ℕ) (block : Block)
    → BlocksSoFar text spans blocks i
    → IsInOrder (length spans) block
    → blocks_of (parts_of (drop i (lines_at text spans))) ≡ followed_by (change_at (lines_at text spans) block ∷ [])
    (blocks_of (parts_of (drop (block.end_mark + 1) (lines_at text spans))))
    → now ≡ blocks ++ block ∷ []
    → BlocksSoFar text spans now (block.end_mark + 1)
BlocksSoFar_more text spans blocks now i block so_far in_order ends now_is =
    let rest : Result (List Change) Fault = blocks_of (parts_of (drop (block.end_mark + 1) (lines_at text spans))) in
    let more : BlocksSoFar text spans (blocks ++ block ∷ []) (block.end_mark + 1) = record {
      within = omega (arith, in_order.within);
      in_order = All-push (IsInOrder (length spans)) blocks block so_far.in_order in_order;
      same =
          so_far.same
          ∙ ap (followed_by (changes_at (lines_at text spans) blocks)) ends
          ∙ followed_by-followed_by (changes_at (lines_at text spans) blocks)
          (change_at (lines_at text spans) block ∷ []) rest
          ∙ ap (λ cs. followed_by cs rest) (sym (map_push (change_at (lines_at text spans)) blocks block));
    } in
    subst (λ (b : List Block). BlocksSoFar text spans b (block.end_mark + 1)) (sym now_is) more

-- at the end of the lines
no_parts : blocks_of [] ≡ Ok []
unfolding blocks_of
no_parts = refl

pub BlocksSoFar_all : (text : List ℕ) (spans : List Span) (blocks : List Block) (i : ℕ)
    → BlocksSoFar text spans blocks i → length spans ≤ i
    → blocks_of (parts_of (lines_at text spans)) ≡ Ok (changes_at (lines_at text spans) blocks)
BlocksSoFar_all text spans blocks i so_far ended =
    so_far.same
    ∙ ap (λ ls. followed_by (changes_at (lines_at text spans) blocks) (blocks_of (parts_of ls)))
    (drop_all i (lines_at text spans) (rw (length-map spans (line_at text)) ended))
    ∙ ap (followed_by (changes_at (lines_at text spans) blocks)) no_parts
    ∙ ap Ok (append-nil (changes_at (lines_at text spans) blocks))

-- the parts that begin with a mark
pub old_part_at : (text : List ℕ) (spans : List Span) (i : ℕ) (d : Span) → i < length spans
    → mark_there (lines_at text spans) i ≡ Some Old
    → parts_of (drop i (lines_at text spans)) ≡ old_part (lines_at text spans) (get_or spans i d).place (i + 1)
old_part_at text spans i d within old =
    parts_of-mark (lines_at text spans) i Old (line_at text d) old
    ∙ ap (λ (line : Line). part Old line.place (before_first has_mark (drop (i + 1) (lines_at text spans))) ∷ parts_of
    (drop (i + 1) (lines_at text spans))) (get_or-map (line_at text) spans i d (line_at text d) within)

pub stray_at : (text : List ℕ) (spans : List Span) (i : ℕ) (d : Span) (mark : Mark) → i < length spans
    → mark_there (lines_at text spans) i ≡ Some mark → (mark ≡ Old → ⊥)
    → blocks_of (parts_of (drop i (lines_at text spans))) ≡ Err (fault_at STRAY_CHANGE_MARK (get_or spans i d).place)
stray_at text spans i d mark within is other =
    parts_of-stray (lines_at text spans) i mark (line_at text d) is other
    ∙ ap (λ (line : Line). Err (fault_at STRAY_CHANGE_MARK line.place))
    (get_or-map (line_at text) spans i d (line_at text d) within)
