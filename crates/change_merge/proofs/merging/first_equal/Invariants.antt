-- The search from this line on ends where that from the first line on does.
use Rattle.std.proofs.Common.{◌≡◌}
use Rattle.std.specs.Str.{bytes_eq}
use Rattle.change_merge.specs.inner.Spans.{lines_at}
use Rattle.change_merge.proofs.SearchLemmas.{found_from}
use Rattle.change_merge.proofs.merging.first_equal.Given as goal

abbrev pub invariant-loop-index : goal.invariant-loop-index
invariant-loop-index l =
    found_from (λ line. bytes_eq l.bytes line.bytes) (lines_at l.text l.spans) l.index ≡ found_from
    (λ line. bytes_eq l.bytes line.bytes) (lines_at l.text l.spans) l.fn.from
