use Rattle.std.proofs.Common.{sym, ap, ◌∙◌, ◌∷◌, ◌++◌, []}
use Rattle.std.proofs.lemmas.Result.{err_from_is_err_and}
use Rattle.pas_typed.specs.Typed as typed
use Rattle.pas_typed.specs.Typed.{Value}
use Rattle.pas_typed.specs.TypedViews.{value_view}
use Rattle.pas_typed.specs.declared.typed.Value as code_value
use Rattle.pas_typed.proofs.ValueViews.{value_view-Parenthesized}
use Rattle.pas_scopes.specs.Answers.{Ending, end_in, closed_end}
use Rattle.pas_scopes.specs.inner.ExpressionAnswers.{parenthesized_of}
use Rattle.pas_scopes.proofs.AnswerLemmas.{answers_stop, ends_moved, enclosed_unclosed, enclosed_closed}
use Rattle.pas_scopes.proofs.expressions.parenthesized.Goals as goal

pub returns-in_err-inner : goal.returns-in_err-inner
returns-in_err-inner c words opened last part at h =
    let end : Ending = end_in c.args.inner.end in
    answers_stop (opened ∷ (words ++ last ∷ [])) (parenthesized_of part) value_view c.in_err-inner.field-0.0
    c.from_residual.result (err_from_is_err_and _ c.from_residual.ensures.1)
    (enclosed_unclosed words opened last typed.parenthesized part (value_view c.args.inner.value) end.line end.refusal
    end.is_short c.in_err-inner.field-0.0 c.in_err-inner.ensures h)

pub returns : goal.returns
returns c words opened last part at h =
    let end : Ending = end_in c.args.inner.end in
    let value : Value = typed.parenthesized (value_view c.args.inner.value) in
    ends_moved (opened ∷ (words ++ last ∷ [])) (parenthesized_of part) value _
    (closed_end last.token.line end) (end_in c.in_ok-inner.inner.end)
    (value_view-Parenthesized _
    ∙ ap (λ (one : code_value.Value). typed.parenthesized (value_view one))
    (c.in_ok-new.ensures ∙ c.in_ok-inner.ensures.1))
    (c.in_ok-inner.ensures.2 ∙ ap (λ line. closed_end line end) (sym at))
    (enclosed_closed words opened last typed.parenthesized part (value_view c.args.inner.value) end
    c.in_ok-inner.ensures.0 h)
