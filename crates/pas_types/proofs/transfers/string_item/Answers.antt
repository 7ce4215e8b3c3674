use Rattle.std.proofs.Common.{sym, ap, subst, List, ℕ, Option, Some, None}
use Rattle.std.proofs.lemmas.Result.{err_from_is_err_and}
use Rattle.pas_syntax.specs.declared.tree.Behind.{Behind as CodeBehind}
use Rattle.pas_syntax.specs.declared.tree.Expr as code_expr
use Rattle.pas_syntax.specs.Views.{if_there, behind_in, expr_in, quoted_in}
use Rattle.pas_syntax.specs.Words.{Word, text_at}
use Rattle.pas_syntax.specs.Tree.{Behind, Expr}
use Rattle.pas_typed.specs.Texts.{undoubled}
use Rattle.pas_typed.specs.Typed.{Item, string_item}
use Rattle.pas_typed.specs.TypedViews.{value_view, item_view}
use Rattle.pas_scopes.specs.ScopeViews.{scopes_view}
use Rattle.pas_scopes.specs.Answers.{Ending, end_in, Stands, StandsAs}
use Rattle.pas_scopes.proofs.AnswerLemmas.{stands_stop}
use Rattle.pas_types.proofs.PrintLemmas.{string_words, string_part, string_fails, string_stands, string_alone}
use Rattle.pas_types.proofs.transfers.string_item.Goals as goal

pub returns-in_err-given-in-Some : goal.returns-in_err-given-in-Some
returns-in_err-given-in-Some c clear n =
    let scopes = scopes_view c.args.scopes.now in
    let spellings = c.args.scopes.now.spellings.now in
    let quoted = quoted_in spellings c.args.quoted in
    let word : Word = text_at n quoted in
    let bytes : List ℕ = undoubled quoted.text in
    let width : Behind Expr = behind_in (expr_in spellings) c.in-Some.width in
    let why = c.in_err-given-in-Some.field-0.0 in
    subst (λ (given : Option (CodeBehind code_expr.Expr)).
    Stands (string_words scopes n word bytes (if_there (behind_in (expr_in spellings)) given))
    (string_part scopes n word bytes (if_there (behind_in (expr_in spellings)) given)) (item_view spellings)
    c.from_residual.result) (sym c.in-Some.is)
    (stands_stop (string_words scopes n word bytes (Some width)) (string_part scopes n word bytes (Some width))
    (item_view spellings) why c.from_residual.result (err_from_is_err_and _ c.from_residual.ensures.1)
    (string_fails scopes n word bytes width why (c.in_err-given-in-Some.ensures clear n)))

pub returns-in_ok-given-in-Some : goal.returns-in_ok-given-in-Some
returns-in_ok-given-in-Some c clear n =
    let scopes = scopes_view c.args.scopes.now in
    let spellings = c.args.scopes.now.spellings.now in
    let quoted = quoted_in spellings c.args.quoted in
    let word : Word = text_at n quoted in
    let bytes : List ℕ = undoubled quoted.text in
    let width : Behind Expr = behind_in (expr_in spellings) c.in-Some.width in
    let given = c.in_ok-given-in-Some.given in
    subst (λ (w : Option (CodeBehind code_expr.Expr)).
    StandsAs (string_words scopes n word bytes (if_there (behind_in (expr_in spellings)) w))
    (string_part scopes n word bytes (if_there (behind_in (expr_in spellings)) w))
    (string_item bytes (Some (value_view given.value))) (end_in given.end)) (sym c.in-Some.is)
    (string_stands scopes n word bytes width (value_view given.value) (end_in given.end)
    (c.in_ok-given-in-Some.ensures clear n))

pub returns-in-None : goal.returns-in-None
returns-in-None c clear n =
    let scopes = scopes_view c.args.scopes.now in
    let spellings = c.args.scopes.now.spellings.now in
    let quoted = quoted_in spellings c.args.quoted in
    let word : Word = text_at n quoted in
    let bytes : List ℕ = undoubled quoted.text in
    subst (λ (w : Option (CodeBehind code_expr.Expr)).
    StandsAs (string_words scopes n word bytes (if_there (behind_in (expr_in spellings)) w))
    (string_part scopes n word bytes (if_there (behind_in (expr_in spellings)) w))
    (item_view spellings c.lawful.result.value) (end_in c.lawful.result.end)) (sym c.in-None.is)
    (subst (λ (item : Item). StandsAs (string_words scopes n word bytes None) (string_part scopes n word bytes None)
    item (end_in c.lawful.result.end)) (sym (ap (item_view spellings) c.lawful.ensures.value))
    (subst (λ (end : Ending). StandsAs (string_words scopes n word bytes None)
    (string_part scopes n word bytes None) (string_item bytes None) end) (sym c.lawful.ensures.end)
    (string_alone scopes n word bytes)))
