use Rattle.std.proofs.Common.{Vec, Global, ℕ}
use Rattle.std.proofs.lemmas.Result.{err_from_is_err_and}
use Rattle.change_merge.specs.declared.spans.Span.{Span}
use Rattle.wb_base.proofs.WorkResultLemmas.{IfFault-weaker}
use Rattle.change_merge.proofs.WithChangesLemmas.{MergedSoFar_fault, MergedSoFar_more, MergedSoFar_all}
use Rattle.change_merge.proofs.merging.merged_spans.Goals as goal

pub returns-in_err-first-clause-fault : goal.returns-in_err-first-clause-fault
returns-in_err-first-clause-fault c =
    let p = err_from_is_err_and c.from_residual-in_err-first.result c.from_residual-in_err-first.ensures.1 in
    rw (p.1, p.2) (IfFault-weaker ℕ (Vec Span Global) c.in_err-first.field-0.0 _ _
    (λ fault fails. MergedSoFar_fault _ _ _ _ _ _ _ _ c.loop-block.invariant c.loop-block-test.true fault fails)
    c.in_err-first.ensures.fault)

pub loop-block-preserved : goal.loop-block-preserved
loop-block-preserved c =
    MergedSoFar_more _ _ _ _ _ _ _ _ _ _ _ _ c.loop-block.invariant c.requires.web c.requires.change
    c.loop-block-test.true c.in_ok-first.ensures.ok c.in_ok-first.ensures.within
    c.in_ok-extend_from_slice.ensures.items c.in_ok-extend_from_slice-2.ensures.items

pub returns-clause-ok : goal.returns-clause-ok
returns-clause-ok c =
    MergedSoFar_all _ _ _ _ _ _ _ _ c.loop-block.invariant c.loop-block-test.false
    c.in_ok-extend_from_slice-3.ensures.items
