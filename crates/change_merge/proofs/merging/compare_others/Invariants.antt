-- What is after the old lines from here on in the lines from here on is what is after all of them.
use Rattle.std.proofs.Common.{◌≡◌, ◌≤◌, drop, length}
use Rattle.change_merge.specs.Merge.{lines_after}
use Rattle.change_merge.specs.inner.Spans.{lines_at}
use Rattle.change_merge.proofs.merging.compare_others.Given as goal

abbrev pub invariant-loop-index : goal.invariant-loop-index
invariant-loop-index l = record {
  within : l.index ≤ length l.web;
  same : lines_after (drop l.index (lines_at l.text l.olds)) (drop l.index (lines_at l.text l.web)) ≡ lines_after
      (lines_at l.text l.olds) (lines_at l.text l.web);
}
