use Rattle.std.proofs.Common.{ℤ, w32, to_z, of_z, sym, subst, ap, ◌∙◌}
use Rattle.std.specs.List.{list_any}
use Rattle.std.proofs.Math.Facts.{to_z-of_z}
use Rattle.pas_typed.specs.TypedViews.{statement_view, arms_view}
use Rattle.pas_meaning.specs.Arithmetic.{is_same}
use Rattle.pas_run.specs.inner.Running.{ChoosesOne, ChoosesNone}
use Rattle.pas_run.proofs.ListLemmas.{arm_seen, arms_seen, other_arm, this_arm, no_arm}
use Rattle.pas_run.proofs.statements.chosen.Goals as goal

pub returns-then-is_among : goal.returns-then-is_among
returns-then-is_among c spellings =
    subst (λ (number : ℤ). ChoosesOne number (arms_view spellings c.args.arms.now)
    (statement_view spellings c.arm-item.result.statement)) (to_z-of_z c.ranges.number)
    (this_arm (to_z w32 (of_z w32 c.args.number)) (arms_view spellings c.args.arms.now) _ _ _ _
    (c.loop-arm.invariant spellings)
    (arm_seen spellings c.args.arms.now c.loop-arm.arm-index c.arm-item.result c.loop-arm-test.true c.arm-item.is)
    (ap (list_any (is_same (to_z w32 (of_z w32 c.args.number)))) (sym c.as_slice.ensures)
    ∙ sym c.is_among.ensures ∙ c.if-is_among.true))

pub loop-arm-preserved : goal.loop-arm-preserved
loop-arm-preserved c spellings =
    other_arm (to_z w32 (of_z w32 c.args.number)) (arms_view spellings c.args.arms.now) _ _ _ _
    (c.loop-arm.invariant spellings)
    (arm_seen spellings c.args.arms.now c.loop-arm.arm-index c.arm-item.result c.loop-arm-test.true c.arm-item.is)
    (ap (list_any (is_same (to_z w32 (of_z w32 c.args.number)))) (sym c.as_slice.ensures)
    ∙ sym c.is_among.ensures ∙ c.if-is_among.false)

pub returns : goal.returns
returns c spellings =
    subst (λ (number : ℤ). ChoosesNone number (arms_view spellings c.args.arms.now)) (to_z-of_z c.ranges.number)
    (no_arm (to_z w32 (of_z w32 c.args.number)) (arms_view spellings c.args.arms.now) _ (c.loop-arm.invariant spellings)
    (arms_seen spellings c.args.arms.now c.loop-arm.arm-index c.loop-arm-test.false))
