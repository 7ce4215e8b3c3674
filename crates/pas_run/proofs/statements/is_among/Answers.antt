use Rattle.std.proofs.Common.{◌≡◌, ℤ, false, w32, to_z, of_z, sym, subst, ap, ◌∙◌}
use Rattle.std.specs.List.{list_any}
use Rattle.std.proofs.Math.Facts.{to_z-of_z}
use Rattle.std.proofs.lemmas.List.{drop_all}
use Rattle.pas_meaning.specs.Arithmetic.{is_same}
use Rattle.pas_run.proofs.statements.is_among.Goals as goal

pub returns : goal.returns
returns c =
    sym (subst (λ (number : ℤ). list_any (is_same number) c.args.constants.now ≡ false) (to_z-of_z c.ranges.number)
    (c.loop-constant.invariant
    ∙ ap (list_any (is_same (to_z w32 (of_z w32 c.args.number)))) (drop_all c.loop-constant.constant-index
    c.args.constants.now c.loop-constant-test.false)))
