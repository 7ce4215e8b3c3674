use Rattle.std.proofs.Common.{sym, ◌∙◌}
use Rattle.std.specs.Str.{bytes_eq}
use Rattle.change_merge.proofs.SearchLemmas.{search_ends, search_goes_on}
use Rattle.change_merge.proofs.merging.first_equal.Goals as goal

pub returns-then-eq-clause-value : goal.returns-then-eq-clause-value
returns-then-eq-clause-value c =
    sym (search_ends (bytes_eq c.args.bytes.now) _ _ _ _ _ c.loop-index-test.true c.line_bytes.ensures
    (sym c.if-eq.ensures)) ∙ c.loop-index.invariant

pub loop-index-preserved : goal.loop-index-preserved
loop-index-preserved c =
    search_goes_on (bytes_eq c.args.bytes.now) _ _ _ _ _ c.loop-index-test.true c.line_bytes.ensures
    (sym c.if-eq.ensures) ∙ c.loop-index.invariant
