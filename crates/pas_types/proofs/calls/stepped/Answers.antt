use Rattle.std.proofs.Common.{sym, ap, Bool}
use Rattle.std.proofs.lemmas.Result.{err_from_is_err_and}
use Rattle.wb_base.specs.declared.faults.TheConstants.{WRONG_TYPE}
use Rattle.pas_tokens.specs.Cutting.{wrong}
use Rattle.pas_typed.specs.declared.typed.Place as code_place
use Rattle.pas_typed.specs.Typed.{read}
use Rattle.pas_typed.specs.TypeViews.{table_view}
use Rattle.pas_typed.specs.TypedViews.{value_view, place_view}
use Rattle.pas_rules.specs.Marks.{unless}
use Rattle.pas_rules.specs.Expressions.{file_only}
use Rattle.pas_scopes.specs.Answers.{end_in}
use Rattle.pas_scopes.specs.Arguments.{taken_as, plainly}
use Rattle.pas_scopes.proofs.AnswerLemmas.{stands_stop}
use Rattle.pas_scopes.proofs.FitLemmas.{fit_fails}
use Rattle.pas_types.proofs.calls.stepped.Goals as goal

pub returns-in_err-stands : goal.returns-in_err-stands
returns-in_err-stands c words part h =
    let table = table_view c.args.scopes.now.spellings.now c.args.scopes.now.types in
    let taker = plainly (file_only table) in
    let why = c.in_err-stands.field-0.0 in
    stands_stop words (taken_as taker part) (λ (place : code_place.Place). read (place_view place)) why
    c.from_residual.result (err_from_is_err_and _ c.from_residual.ensures.1)
    (fit_fails words taker part (value_view c.args.found.value) (end_in c.args.found.end)
    (end_in c.noted-found.result.end) c.is_file-is_fit.result WRONG_TYPE
    (ap (λ (is : Bool). unless is (wrong WRONG_TYPE)) (sym c.is_file-is_fit.ensures)) c.noted-found.ensures.end h why
    c.in_err-stands.ensures)
