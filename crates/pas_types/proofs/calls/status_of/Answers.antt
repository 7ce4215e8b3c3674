use Rattle.std.proofs.Common.{ap, ◌∙◌, Bool}
use Rattle.std.proofs.lemmas.Result.{err_from_is_err_and}
use Rattle.wb_base.specs.declared.faults.TheConstants.{WRONG_TYPE}
use Rattle.pas_tokens.specs.Cutting.{wrong}
use Rattle.pas_typed.specs.Types.{integer, is_of}
use Rattle.pas_typed.specs.TypeViews.{table_view}
use Rattle.pas_typed.specs.TypedViews.{value_view}
use Rattle.pas_rules.specs.Marks.{unless}
use Rattle.pas_rules.specs.Expressions.{only}
use Rattle.pas_scopes.specs.Answers.{end_in}
use Rattle.pas_scopes.specs.Arguments.{taken_as, plainly}
use Rattle.pas_scopes.proofs.AnswerLemmas.{stands_stop}
use Rattle.pas_scopes.proofs.FitLemmas.{fit_fails, fit_stands}
use Rattle.pas_types.proofs.calls.status_of.Goals as goal

pub returns-in_err-stands : goal.returns-in_err-stands
returns-in_err-stands c words part h =
    let spellings = c.args.scopes.now.spellings.now in
    let table = table_view spellings c.args.scopes.now.types in
    let taker = plainly (only integer table) in
    let why = c.in_err-stands.field-0.0 in
    stands_stop words (taken_as taker part) value_view why
    c.from_residual.result (err_from_is_err_and _ c.from_residual.ensures.1)
    (fit_fails words taker part (value_view c.args.found.value) (end_in c.args.found.end)
    (end_in c.noted-found.result.end) c.is_of-is_fit.result WRONG_TYPE
    (ap (λ (is : Bool). unless is (wrong WRONG_TYPE))
    (ap (is_of integer table) c.pas_type.ensures ∙ c.is_of-is_fit.ensures spellings)) c.noted-found.ensures.end h why
    c.in_err-stands.ensures)

pub returns : goal.returns
returns c words part h =
    let spellings = c.args.scopes.now.spellings.now in
    let table = table_view spellings c.args.scopes.now.types in
    fit_stands words (plainly (only integer table)) part (value_view c.args.found.value) (end_in c.args.found.end)
    (end_in c.noted-found.result.end) c.is_of-is_fit.result WRONG_TYPE
    (ap (λ (is : Bool). unless is (wrong WRONG_TYPE))
    (ap (is_of integer table) c.pas_type.ensures ∙ c.is_of-is_fit.ensures spellings)) c.noted-found.ensures.end h
    (value_view c.noted-found.result.value) c.in_ok-stands.ensures (ap value_view c.noted-found.ensures.value)
