-- The blocks so far are those of the lines before this one.
use Rattle.std.proofs.Common.{◌-◌, length}
use Rattle.change_merge.proofs.BlocksLemmas.{BlocksSoFar}
use Rattle.change_merge.proofs.blocks.blocks_in.Given as goal

abbrev pub invariant-loop-index : goal.invariant-loop-index
invariant-loop-index l = BlocksSoFar l.text l.spans l.blocks.items l.index

abbrev pub decreases-loop-index : goal.decreases-loop-index
decreases-loop-index l = length l.spans - l.index
