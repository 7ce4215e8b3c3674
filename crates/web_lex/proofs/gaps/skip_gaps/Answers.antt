use Rattle.std.proofs.Common.{ap, ◌∙◌, Ok, sym, arith}
use Rattle.std.proofs.lemmas.Result.{err_from_is_err_and}
use Rattle.web_lex.specs.inner.Steps.{gap_before}
use Rattle.web_lex.proofs.GapLemmas.{StillGaps-more, StillGaps-none, StillGaps-fault}
use Rattle.web_lex.proofs.gaps.skip_gaps.Goals as goal

pub returns-in_err-skip_gap-clause-gaps : goal.returns-in_err-skip_gap-clause-gaps
returns-in_err-skip_gap-clause-gaps c =
    let exit = err_from_is_err_and c.from_residual.result c.from_residual.ensures.1 in
    rw (exit.1, exit.2)
    (StillGaps-fault c.args.cursor.now c.loop.cursor c.in_err-skip_gap.field-0.0 c.loop.invariant.gaps
    c.in_err-skip_gap.ensures.gap)

pub loop-preserved : goal.loop-preserved
loop-preserved c =
    let next = c.skip_gap.new.cursor in
    let shorter = c.in_ok-skip_gap.ensures.shorter (ap Ok c.if-branch.true) in
    record {
      gaps = StillGaps-more c.args.cursor.now c.loop.cursor next c.loop.invariant.gaps
          (c.in_ok-skip_gap.ensures.gap ∙ ap (λ passed. gap_before (Ok passed) next.rest) c.if-branch.true)
          shorter c.skip_gap.ensures.end;
      not_longer = omega arith;
    }

pub returns-clause-gaps : goal.returns-clause-gaps
returns-clause-gaps c =
    let next = c.skip_gap.new.cursor in
    StillGaps-none c.args.cursor.now c.loop.cursor c.loop.invariant.gaps
    (c.in_ok-skip_gap.ensures.gap ∙ ap (λ passed. gap_before (Ok passed) next.rest) c.if-branch.false)
    ∙ ap Ok (sym (c.in_ok-skip_gap.ensures.kept (ap Ok c.if-branch.false)))
