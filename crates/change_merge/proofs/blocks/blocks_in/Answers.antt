use Rattle.std.proofs.Common.{Vec, Global, ◌≡◌, None, sym, ◌∙◌}
use Rattle.std.proofs.lemmas.Result.{err_from_is_err_and}
use Rattle.wb_base.specs.declared.places.FileTag.TheVariants.{Web}
use Rattle.change_merge.specs.inner.Spans.{lines_at, mark_there}
use Rattle.change_merge.specs.declared.blocks.Block.{Block}
use Rattle.wb_base.proofs.WorkResultLemmas.{IfFault-weaker}
use Rattle.change_merge.proofs.BlocksLemmas.{BlocksSoFar_past, BlocksSoFar_fault, BlocksSoFar_more, BlocksSoFar_all}
use Rattle.change_merge.proofs.blocks.blocks_in.Goals as goal

pub loop-index-preserved-in-None : goal.loop-index-preserved-in-None
loop-index-preserved-in-None c =
    let none : mark_there (lines_at c.args.text.now c.args.spans.now) c.loop-index.index ≡ None =
    sym c.mark_at.ensures ∙ c.in-None.is in
    BlocksSoFar_past _ _ _ _
    (record { place = record { file = Web; line = 0 }; start = 0; end = 0 }) c.loop-index.invariant
    c.loop-index-test.true none

pub returns-in_err-block-in-Some-clause-fault : goal.returns-in_err-block-in-Some-clause-fault
returns-in_err-block-in-Some-clause-fault c =
    let p = err_from_is_err_and c.from_residual.result c.from_residual.ensures.1 in
    rw (p.1, p.2) (IfFault-weaker Block (Vec Block Global) c.in_err-block-in-Some.field-0.0 _ _
    (λ fault fails. BlocksSoFar_fault _ _ _ _ c.loop-index.invariant fault fails)
    c.in_err-block-in-Some.ensures.fault)

pub loop-index-preserved : goal.loop-index-preserved
loop-index-preserved c =
    BlocksSoFar_more _ _ _ _ _ _ c.loop-index.invariant c.in_ok-block-in-Some.ensures.in_order
    c.in_ok-block-in-Some.ensures.ok c.in_ok-push-in-Some.ensures.items

pub returns-clause-ok : goal.returns-clause-ok
returns-clause-ok c = BlocksSoFar_all _ _ _ _ c.loop-index.invariant c.loop-index-test.false
