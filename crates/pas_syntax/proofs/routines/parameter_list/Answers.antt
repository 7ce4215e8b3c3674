use Rattle.std.proofs.Common.{◌∙◌, sym}
use Rattle.std.proofs.lemmas.Result.{err_from_is_err_and}
use Rattle.pas_syntax.proofs.PlaceLemmas.{returned}
use Rattle.pas_syntax.proofs.ParameterSteps.{parameters_unbegun, parameters_begin, parameter_stops, one_parameter_more}
use Rattle.pas_syntax.proofs.ParameterSteps.{parameters_end}
use Rattle.pas_syntax.proofs.routines.parameter_list.Goals as goal

pub returns-in_err-first : goal.returns-in_err-first
returns-in_err-first c =
    returned (err_from_is_err_and _ c.from_residual.ensures.1) (parameters_unbegun c.in_err-first.ensures)

pub more-init : goal.more-init
more-init c = parameters_begin c.new-more.result c.in_ok-first.ensures c.new-more.ensures

pub returns-in_err-item-in-Semicolon : goal.returns-in_err-item-in-Semicolon
returns-in_err-item-in-Semicolon c =
    returned (err_from_is_err_and _ c.from_residual-in_err-item-in-Semicolon.ensures.1)
    (parameter_stops c.in_ok-first.first c.more.more c.more.invariant c.in-Semicolon.ensures.kind
    c.in-Semicolon.ensures.fits c.pass-line.ensures c.in_err-item-in-Semicolon.ensures)

pub more-preserved : goal.more-preserved
more-preserved c =
    one_parameter_more c.in_ok-first.first c.more.more c.push.new.self c.more.invariant c.in-Semicolon.ensures.kind
    c.in-Semicolon.ensures.fits c.pass-line.ensures c.in_ok-item-in-Semicolon.ensures
    c.in_ok-push-in-Semicolon.ensures.ok

pub returns-in_default : goal.returns-in_default
returns-in_default c =
    parameters_end c.more.more c.more.invariant (λ e. c.in_default.not-Semicolon (c.kind.ensures.kind ∙ sym e))
