use Rattle.std.proofs.lemmas.Result.{err_from_is_err_and}
use Rattle.wb_base.specs.declared.faults.TheConstants.{WRONG_TYPE}
use Rattle.pas_typed.specs.TypeViews.{table_view}
use Rattle.pas_typed.specs.TypedViews.{value_view, passed_view}
use Rattle.pas_scopes.specs.Answers.{end_in}
use Rattle.pas_scopes.specs.Arguments.{taken_as, passing_in}
use Rattle.pas_scopes.proofs.AnswerLemmas.{stands_stop}
use Rattle.pas_scopes.proofs.FitLemmas.{fit_fails}
use Rattle.pas_scopes.proofs.functions.passed_by.Goals as goal

pub returns-in_err-stands : goal.returns-in_err-stands
returns-in_err-stands c words part h =
    let spellings = c.args.scopes.now.spellings.now in
    let taker = passing_in spellings (table_view spellings c.args.scopes.now.types) c.args.parameter in
    let why = c.in_err-stands.field-0.0 in
    stands_stop words (taken_as taker part) passed_view why c.from_residual.result
    (err_from_is_err_and _ c.from_residual.ensures.1)
    (fit_fails words taker part (value_view c.args.found.value) (end_in c.args.found.end) (end_in
    c.noted-found.result.end)
    c.fits_parameter-is_fit.result WRONG_TYPE c.fits_parameter-is_fit.ensures c.noted-found.ensures.end h why
    c.in_err-stands.ensures)
