use Rattle.std.proofs.Common.{◌==◌, length, sym, ◌∙◌}
use Rattle.change_merge.proofs.SearchLemmas.{row_ends, row_goes_on}
use Rattle.change_merge.proofs.blocks.empty_lines.Goals as goal

pub returns-then-not-is_empty-clause-value : goal.returns-then-not-is_empty-clause-value
returns-then-not-is_empty-clause-value c =
    sym (row_ends (λ bytes. length bytes == 0) _ _ _ _ _ c.loop-index-test.true c.line_bytes.ensures
    (sym c.if-not-is_empty.ensures)) ∙ c.loop-index.invariant

pub loop-index-preserved : goal.loop-index-preserved
loop-index-preserved c =
    row_goes_on (λ bytes. length bytes == 0) _ _ _ _ _ c.loop-index-test.true c.line_bytes.ensures
    (sym c.if-not-is_empty.ensures) ∙ c.loop-index.invariant
