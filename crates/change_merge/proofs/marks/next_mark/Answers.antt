use Rattle.std.proofs.Common.{sym, ap, ◌∙◌}
use Rattle.std.specs.Option.{is_some}
use Rattle.change_merge.specs.Changes.{mark_of}
use Rattle.change_merge.proofs.SearchLemmas.{search_ends, search_goes_on}
use Rattle.change_merge.proofs.marks.next_mark.Goals as goal

pub returns-then-is_some-clause-value : goal.returns-then-is_some-clause-value
returns-then-is_some-clause-value c =
    sym (search_ends (λ bytes. is_some (mark_of bytes)) _ _ _ _ _ c.loop-index-test.true c.line_bytes.ensures
    (ap is_some (sym c.mark_of.ensures) ∙ sym c.if-is_some.ensures)) ∙ c.loop-index.invariant

pub loop-index-preserved : goal.loop-index-preserved
loop-index-preserved c =
    search_goes_on (λ bytes. is_some (mark_of bytes)) _ _ _ _ _ c.loop-index-test.true c.line_bytes.ensures
    (ap is_some (sym c.mark_of.ensures) ∙ sym c.if-is_some.ensures) ∙ c.loop-index.invariant
