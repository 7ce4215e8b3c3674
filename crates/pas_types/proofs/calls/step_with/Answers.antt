use Rattle.std.proofs.Common.{sym, subst, ◌+◌}
use Rattle.std.proofs.lemmas.Result.{err_from_is_err_and}
use Rattle.pas_syntax.specs.Words.{expr_words}
use Rattle.pas_syntax.specs.Views.{expr_in}
use Rattle.pas_typed.specs.declared.typed.Place as code_place
use Rattle.pas_typed.specs.Typed as typed
use Rattle.pas_typed.specs.TypedViews.{value_view, place_view, file_step_view, statement_view}
use Rattle.pas_typed.proofs.StatementViews.{statement_view-Steps}
use Rattle.pas_rules.specs.Expressions.{value_of, file_only}
use Rattle.pas_scopes.specs.ScopeViews.{scopes_view}
use Rattle.pas_scopes.specs.Answers.{Means}
use Rattle.pas_scopes.specs.Arguments.{sole_part, plainly}
use Rattle.pas_scopes.proofs.SettleLemmas.{settles_stop, settles_why}
use Rattle.pas_scopes.proofs.CallAnswers.{stopped_fails}
use Rattle.pas_types.proofs.ActualLemmas.{statement_words, actual_givens}
use Rattle.pas_types.proofs.SoleActuals.{value_fails, step_part, step_means}
use Rattle.pas_types.proofs.calls.step_with.Goals as goal

pub returns-in_err-found : goal.returns-in_err-found
returns-in_err-found c clear n name =
    let scopes = scopes_view c.args.scopes.now in
    let spellings = c.args.scopes.now.spellings.now in
    let table = scopes.outer.types in
    let arguments = c.args.arguments.now in
    let words = statement_words scopes spellings n name arguments in
    let givens = actual_givens scopes spellings n name arguments in
    let demand = file_only table in
    let part = sole_part demand givens in
    let expr = expr_in spellings arguments.items.first.value in
    let view = statement_view spellings in
    let why = c.in_err-found.field-0.0 in
    settles_stop words (step_part table (file_step_view c.args.step) givens) view why c.from_residual.result
    (err_from_is_err_and _ c.from_residual.ensures.1)
    (settles_why words part value_view why
    (value_fails scopes spellings n name arguments demand why
    (stopped_fails (expr_words (n + 1) 0 expr) (plainly demand) (value_of scopes expr) why
    (c.in_err-found.ensures clear (n + 1) 0))))

pub returns-in_err-file : goal.returns-in_err-file
returns-in_err-file c clear n name =
    let scopes = scopes_view c.args.scopes.now in
    let spellings = c.args.scopes.now.spellings.now in
    let table = scopes.outer.types in
    let arguments = c.args.arguments.now in
    let words = statement_words scopes spellings n name arguments in
    let givens = actual_givens scopes spellings n name arguments in
    let demand = file_only table in
    let part = sole_part demand givens in
    let expr = expr_in spellings arguments.items.first.value in
    let view = statement_view spellings in
    let why = c.in_err-file.field-0.0 in
    settles_stop words (step_part table (file_step_view c.args.step) givens) view why c.from_residual-in_err-file.result
    (err_from_is_err_and _ c.from_residual-in_err-file.ensures.1)
    (settles_why words part value_view why
    (value_fails scopes spellings n name arguments demand why
    (c.in_err-file.ensures (expr_words (n + 1) 0 expr) (value_of scopes expr)
    (c.in_ok-found.ensures clear (n + 1) 0))))

pub returns-in_err-file-2 : goal.returns-in_err-file-2
returns-in_err-file-2 c clear n name =
    let scopes = scopes_view c.args.scopes.now in
    let spellings = c.args.scopes.now.spellings.now in
    let table = scopes.outer.types in
    let arguments = c.args.arguments.now in
    let words = statement_words scopes spellings n name arguments in
    let givens = actual_givens scopes spellings n name arguments in
    let demand = file_only table in
    let part = sole_part demand givens in
    let expr = expr_in spellings arguments.items.first.value in
    let view = statement_view spellings in
    let why = c.in_err-file-2.field-0.0 in
    settles_stop words (step_part table (file_step_view c.args.step) givens) view why
    c.from_residual-in_err-file-2.result
    (err_from_is_err_and _ c.from_residual-in_err-file-2.ensures.1)
    (c.in_err-file-2.ensures n name demand (λ (place : code_place.Place). typed.read (place_view place))
    (c.in_ok-file.ensures (expr_words (n + 1) 0 expr) (value_of scopes expr)
    (c.in_ok-found.ensures clear (n + 1) 0)))

pub returns : goal.returns
returns c clear n name =
    let scopes = scopes_view c.args.scopes.now in
    let spellings = c.args.scopes.now.spellings.now in
    let table = scopes.outer.types in
    let arguments = c.args.arguments.now in
    let words = statement_words scopes spellings n name arguments in
    let givens = actual_givens scopes spellings n name arguments in
    let demand = file_only table in
    let part = sole_part demand givens in
    let expr = expr_in spellings arguments.items.first.value in
    let view = statement_view spellings in
    subst (Means words (step_part table (file_step_view c.args.step) givens))
    (sym (statement_view-Steps spellings c.args.step c.in_ok-file-2.file))
    (step_means words table (file_step_view c.args.step) givens (place_view c.in_ok-file-2.file)
    (c.in_ok-file-2.ensures n name demand (λ (place : code_place.Place). typed.read (place_view place))
    (c.in_ok-file.ensures (expr_words (n + 1) 0 expr) (value_of scopes expr)
    (c.in_ok-found.ensures clear (n + 1) 0))))
