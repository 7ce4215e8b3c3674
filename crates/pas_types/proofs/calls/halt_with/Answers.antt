use Rattle.std.proofs.Common.{sym, ap, subst, ◌∙◌, ◌+◌}
use Rattle.std.proofs.lemmas.Result.{err_from_is_err_and}
use Rattle.pas_syntax.specs.Words.{expr_words}
use Rattle.pas_syntax.specs.Views.{expr_in}
use Rattle.pas_typed.specs.Types.{integer}
use Rattle.pas_typed.specs.Typed as typed
use Rattle.pas_typed.specs.TypedViews.{value_view, statement_view}
use Rattle.pas_typed.proofs.StatementViews.{statement_view-Halts}
use Rattle.pas_rules.specs.Marks.{judged, known}
use Rattle.pas_rules.specs.Expressions.{value_of, only}
use Rattle.pas_scopes.specs.ScopeViews.{scopes_view}
use Rattle.pas_scopes.specs.Answers.{Means}
use Rattle.pas_scopes.specs.Arguments.{sole_part, plainly}
use Rattle.pas_scopes.proofs.SettleLemmas.{settles_stop, settles_why}
use Rattle.pas_scopes.proofs.CallAnswers.{stopped_fails}
use Rattle.pas_types.proofs.ProcedureCalls.{made_means}
use Rattle.pas_types.proofs.ActualLemmas.{statement_words, actual_givens}
use Rattle.pas_types.proofs.SoleActuals.{value_fails}
use Rattle.pas_types.proofs.calls.halt_with.Goals as goal

pub returns-in_err-found : goal.returns-in_err-found
returns-in_err-found c clear n name =
    let scopes = scopes_view c.args.scopes.now in
    let spellings = c.args.scopes.now.spellings.now in
    let table = scopes.outer.types in
    let arguments = c.args.arguments.now in
    let words = statement_words scopes spellings n name arguments in
    let givens = actual_givens scopes spellings n name arguments in
    let demand = only integer table in
    let part = sole_part demand givens in
    let expr = expr_in spellings arguments.items.first.value in
    let view = statement_view spellings in
    let why = c.in_err-found.field-0.0 in
    settles_stop words (judged part.marks (known typed.halts part.value)) view why c.from_residual.result
    (err_from_is_err_and _ c.from_residual.ensures.1)
    (settles_why words part value_view why
    (value_fails scopes spellings n name arguments demand why
    (stopped_fails (expr_words (n + 1) 0 expr) (plainly demand) (value_of scopes expr) why
    (c.in_err-found.ensures clear (n + 1) 0))))

pub returns-in_err-status : goal.returns-in_err-status
returns-in_err-status c clear n name =
    let scopes = scopes_view c.args.scopes.now in
    let spellings = c.args.scopes.now.spellings.now in
    let table = scopes.outer.types in
    let arguments = c.args.arguments.now in
    let words = statement_words scopes spellings n name arguments in
    let givens = actual_givens scopes spellings n name arguments in
    let demand = only integer table in
    let part = sole_part demand givens in
    let expr = expr_in spellings arguments.items.first.value in
    let view = statement_view spellings in
    let why = c.in_err-status.field-0.0 in
    settles_stop words (judged part.marks (known typed.halts part.value)) view why c.from_residual-in_err-status.result
    (err_from_is_err_and _ c.from_residual-in_err-status.ensures.1)
    (settles_why words part value_view why
    (value_fails scopes spellings n name arguments demand why
    (c.in_err-status.ensures (expr_words (n + 1) 0 expr) (value_of scopes expr)
    (c.in_ok-found.ensures clear (n + 1) 0))))

pub returns-in_err-status-2 : goal.returns-in_err-status-2
returns-in_err-status-2 c clear n name =
    let scopes = scopes_view c.args.scopes.now in
    let spellings = c.args.scopes.now.spellings.now in
    let table = scopes.outer.types in
    let arguments = c.args.arguments.now in
    let words = statement_words scopes spellings n name arguments in
    let givens = actual_givens scopes spellings n name arguments in
    let demand = only integer table in
    let part = sole_part demand givens in
    let expr = expr_in spellings arguments.items.first.value in
    let view = statement_view spellings in
    let why = c.in_err-status-2.field-0.0 in
    settles_stop words (judged part.marks (known typed.halts part.value)) view why
    c.from_residual-in_err-status-2.result
    (err_from_is_err_and _ c.from_residual-in_err-status-2.ensures.1)
    (c.in_err-status-2.ensures n name demand value_view
    (c.in_ok-status.ensures (expr_words (n + 1) 0 expr) (value_of scopes expr)
    (c.in_ok-found.ensures clear (n + 1) 0)))

pub returns : goal.returns
returns c clear n name =
    let scopes = scopes_view c.args.scopes.now in
    let spellings = c.args.scopes.now.spellings.now in
    let table = scopes.outer.types in
    let arguments = c.args.arguments.now in
    let words = statement_words scopes spellings n name arguments in
    let givens = actual_givens scopes spellings n name arguments in
    let demand = only integer table in
    let part = sole_part demand givens in
    let expr = expr_in spellings arguments.items.first.value in
    let view = statement_view spellings in
    subst (Means words (judged part.marks (known typed.halts part.value)))
    (sym (statement_view-Halts spellings c.in_ok-new.field-0
    ∙ ap (λ value. typed.halts (value_view value)) c.in_ok-new.ensures))
    (made_means words typed.halts part (value_view c.in_ok-status-2.status)
    (c.in_ok-status-2.ensures n name demand value_view
    (c.in_ok-status.ensures (expr_words (n + 1) 0 expr) (value_of scopes expr)
    (c.in_ok-found.ensures clear (n + 1) 0))))
