-- The lines so far are those at the spans, and the others are those of what is left of the text.
use Rattle.std.proofs.Common.{◌-◌, length}
use Rattle.change_merge.proofs.LinesLemmas.{SoFar}
use Rattle.change_merge.proofs.spans.spans_of.Given as goal

abbrev pub invariant-loop-start : goal.invariant-loop-start
invariant-loop-start l = SoFar l.tag l.text l.fn.from l.spans.items l.start

abbrev pub decreases-loop-start : goal.decreases-loop-start
decreases-loop-start l = length l.text - l.start
