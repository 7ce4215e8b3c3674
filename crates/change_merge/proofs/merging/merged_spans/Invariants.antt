-- The spans so far are those of the merge as far as this block.
use Rattle.change_merge.proofs.WithChangesLemmas.{MergedSoFar}
use Rattle.change_merge.proofs.merging.merged_spans.Given as goal

abbrev pub invariant-loop-block : goal.invariant-loop-block
invariant-loop-block l = MergedSoFar l.text l.web l.change l.blocks l.merged.items l.block-index l.next
