use Rattle.std.proofs.lemmas.Result.{err_from_is_err_and}
use Rattle.wb_base.specs.declared.faults.TheConstants.{WRONG_TYPE}
use Rattle.pas_typed.specs.TypeViews.{table_view}
use Rattle.pas_typed.specs.TypedViews.{value_view, function_view}
use Rattle.pas_rules.specs.Expressions.{function_demand}
use Rattle.pas_scopes.specs.Answers.{end_in}
use Rattle.pas_scopes.specs.Arguments.{taken_as, plainly}
use Rattle.pas_scopes.proofs.AnswerLemmas.{stands_stop}
use Rattle.pas_scopes.proofs.FitLemmas.{fit_fails}
use Rattle.pas_scopes.proofs.functions.taken.Goals as goal

pub returns-in_err-stands : goal.returns-in_err-stands
returns-in_err-stands c words part h =
    let spellings = c.args.scopes.now.spellings.now in
    let table = table_view spellings c.args.scopes.now.types in
    let taker = plainly (function_demand table (function_view c.args.function)) in
    let value = value_view c.args.found.value in
    let why = c.in_err-stands.field-0.0 in
    stands_stop words (taken_as taker part) value_view why c.from_residual.result
    (err_from_is_err_and _ c.from_residual.ensures.1)
    (fit_fails words taker part value (end_in c.args.found.end) (end_in c.noted-found.result.end)
    c.takes-is_fit.result WRONG_TYPE (c.takes-is_fit.ensures value c.pas_type.ensures) c.noted-found.ensures.end h why
    c.in_err-stands.ensures)
