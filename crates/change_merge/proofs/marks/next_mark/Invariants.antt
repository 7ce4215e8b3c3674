-- The search from this line on ends where that from the first line on does.
use Rattle.std.proofs.Common.{◌≡◌}
use Rattle.change_merge.specs.Changes.{has_mark}
use Rattle.change_merge.specs.inner.Spans.{lines_at}
use Rattle.change_merge.proofs.SearchLemmas.{found_from}
use Rattle.change_merge.proofs.marks.next_mark.Given as goal

abbrev pub invariant-loop-index : goal.invariant-loop-index
invariant-loop-index l =
    found_from has_mark (lines_at l.text l.spans) l.index ≡ found_from has_mark (lines_at l.text l.spans) l.fn.from
