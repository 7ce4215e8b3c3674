-- The lines so far are empty.
use Rattle.std.proofs.Common.{◌≡◌, ◌+◌, drop}
use Rattle.std.specs.List.{prefix_len}
use Rattle.change_merge.specs.Changes.{is_empty}
use Rattle.change_merge.specs.inner.Spans.{lines_at}
use Rattle.change_merge.proofs.blocks.empty_lines.Given as goal

abbrev pub invariant-loop-index : goal.invariant-loop-index
invariant-loop-index l =
    l.index + prefix_len is_empty (drop l.index (lines_at l.text l.spans)) ≡ prefix_len is_empty
    (lines_at l.text l.spans)
