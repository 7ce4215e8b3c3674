use Rattle.std.proofs.Common.{◌≡◌, Some, ap, ◌∙◌}
use Rattle.std.proofs.lemmas.Result.{IfOk-weaker}
use Rattle.change_merge.specs.Changes.{blocks_of}
use Rattle.change_merge.specs.inner.Spans.{lines_at, mark_there}
use Rattle.change_merge.specs.declared.marks.Mark.TheVariants.{Old}
use Rattle.wb_base.proofs.WorkResultLemmas.{IfFault-same_result}
use Rattle.change_merge.proofs.BlocksLemmas.{old_part_at, stray_at}
use Rattle.change_merge.proofs.blocks.block_at.Goals as goal

pub returns-in-Old-clause-ok : goal.returns-in-Old-clause-ok
returns-in-Old-clause-ok c =
    let old : mark_there (lines_at c.args.text.now c.args.spans.now) c.args.index ≡ Some Old =
    c.requires.mark ∙ ap Some c.in-Old.is in
    IfOk-weaker c.block_from.result _ _
    (λ block ends. ap blocks_of
    (old_part_at c.args.text.now c.args.spans.now c.args.index _ c.requires.within old) ∙ ends)
    c.block_from.ensures.ok

pub returns-in-Old-clause-fault : goal.returns-in-Old-clause-fault
returns-in-Old-clause-fault c =
    let old : mark_there (lines_at c.args.text.now c.args.spans.now) c.args.index ≡ Some Old =
    c.requires.mark ∙ ap Some c.in-Old.is in
    IfFault-same_result c.block_from.result _ _
    (λ fault fails. ap blocks_of
    (old_part_at c.args.text.now c.args.spans.now c.args.index _ c.requires.within old) ∙ fails)
    c.block_from.ensures.fault

pub returns-in_default-clause-fault : goal.returns-in_default-clause-fault
returns-in_default-clause-fault c =
    rw (c.into.ensures, c.at.ensures)
    (stray_at c.args.text.now c.args.spans.now c.args.index _ c.args.mark c.requires.within c.requires.mark
    c.in_default.not-Old)
