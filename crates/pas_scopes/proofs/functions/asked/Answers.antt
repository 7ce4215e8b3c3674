use Rattle.std.proofs.Common.{◌≡◌, sym, ap, ◌∙◌, ℕ, Bool}
use Rattle.std.proofs.lemmas.Result.{err_from_is_err_and}
use Rattle.pas_tokens.specs.Cutting.{wrong}
use Rattle.pas_typed.specs.declared.typed.Place as code_place
use Rattle.pas_typed.specs.Typed.{read}
use Rattle.pas_typed.specs.TypeViews.{table_view}
use Rattle.pas_typed.specs.TypedViews.{value_view, place_view, file_test_view}
use Rattle.pas_rules.specs.Marks.{unless}
use Rattle.pas_rules.specs.Expressions.{test_demand}
use Rattle.pas_scopes.specs.Answers.{Ending, end_in, noted_end}
use Rattle.pas_scopes.specs.Arguments.{taken_as, plainly, is_asked_of, not_asked}
use Rattle.pas_scopes.proofs.AnswerLemmas.{stands_stop}
use Rattle.pas_scopes.proofs.FitLemmas.{fit_fails, asked_demand}
use Rattle.pas_scopes.proofs.functions.asked.Goals as goal

pub returns-in_err-stands : goal.returns-in_err-stands
returns-in_err-stands c words part h =
    let spellings = c.args.scopes.now.spellings.now in
    let table = table_view spellings c.args.scopes.now.types in
    let test = file_test_view c.args.test in
    let taker = plainly (test_demand table test) in
    let value = value_view c.args.found.value in
    let end : Ending = end_in c.args.found.end in
    let named : Bool = c.is_file-is_file.result in
    let why = c.in_err-stands.field-0.0 in
    let fine : test_demand table test value ≡ unless c.is_asked-is_fit.result (wrong (not_asked named)) =
    asked_demand table test value named _ (sym c.is_file-is_file.ensures)
    (ap (is_asked_of test) c.pas_type.ensures)
    ∙ ap (λ (is : Bool). unless is (wrong (not_asked named))) (sym c.is_asked-is_fit.ensures) in
    stands_stop words (taken_as taker part) (λ (place : code_place.Place). read (place_view place)) why
    c.from_residual.result (err_from_is_err_and _ c.from_residual.ensures.1)
    (fit_fails words taker part value end (end_in c.noted-found.result.end) c.is_asked-is_fit.result (not_asked named)
    fine
    (c.noted-found.ensures.end ∙ ap (λ (code : ℕ). noted_end c.is_asked-is_fit.result code end) c.no_question.ensures)
    h why c.in_err-stands.ensures)
