use Rattle.std.proofs.Common.{sym, ◌∙◌}
use Rattle.std.proofs.lemmas.Result.{err_from_is_err_and}
use Rattle.pas_typed.specs.TypedViews.{statements_view}
use Rattle.pas_run.proofs.ListLemmas.{turn_early, jump_caught, jump_stop, jump_past}
use Rattle.pas_run.specs.inner.Doings.{is_port_failed}
use Rattle.pas_run.proofs.DoesLemmas.{quiet_early}
use Rattle.pas_run.proofs.StatementLemmas.{quiet_still}
use Rattle.pas_run.proofs.machine.Machine.entered.Goals as goal

pub returns-in_err-take_step-clause-does : goal.returns-in_err-take_step-clause-does
returns-in_err-take_step-clause-does g c spellings program kinds entry turning around =
    let list = statements_view spellings c.args.list.now in
    turn_early kinds _ _ c.args.self.now c.take_step.new.self c.in_err-take_step.field-0.0 c.from_residual.result
    (err_from_is_err_and _ c.from_residual.ensures.1)
    (λ most. jump_stop program kinds list entry around c.args.label c.args.self.now c.take_step.new.self
    c.in_err-take_step.field-0.0 (sym (c.has_label.ensures spellings) ∙ c.if-has_label.true) most
    (c.in_err-take_step.ensures.does most kinds))

pub returns-in_ok-take_step-clause-does : goal.returns-in_ok-take_step-clause-does
returns-in_ok-take_step-clause-does g c spellings program kinds entry turning around =
    let list = statements_view spellings c.args.list.now in
    jump_caught program kinds list entry around c.args.label c.args.self.now c.take_step.new.self
    (sym (c.has_label.ensures spellings) ∙ c.if-has_label.true) c.in_ok-take_step.ensures.fewer
    (λ most. c.in_ok-take_step.ensures.does most kinds)

pub returns-else-has_label-clause-does : goal.returns-else-has_label-clause-does
returns-else-has_label-clause-does g c spellings program kinds entry turning around =
    let list = statements_view spellings c.args.list.now in
    jump_past program kinds list entry around c.args.label c.args.self.now
    (sym (c.has_label.ensures spellings) ∙ c.if-has_label.false)

pub returns-in_err-take_step-clause-cause : goal.returns-in_err-take_step-clause-cause
returns-in_err-take_step-clause-cause g c =
    quiet_still (is_port_failed c.from_residual.result) c.args.self.now.files c.take_step.new.self.files
    c.in_err-take_step.ensures.files
    (quiet_early c.args.self.now.files c.in_err-take_step.field-0.0 c.from_residual.result
    (err_from_is_err_and _ c.from_residual.ensures.1) c.in_err-take_step.ensures.quiet)
