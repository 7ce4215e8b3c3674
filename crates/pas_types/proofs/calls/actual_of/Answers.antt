use Rattle.std.proofs.Common.{sym, subst, Option, Some}
use Rattle.std.specs.Prelude.{option_map}
use Rattle.std.specs.Option.{option_copied}
use Rattle.std.proofs.lemmas.Result.{err_from_is_err_and}
use Rattle.pas_syntax.specs.declared.tree.Behind.{Behind as CodeBehind}
use Rattle.pas_syntax.specs.declared.tree.Expr as code_expr
use Rattle.pas_syntax.specs.Words.{argument_words}
use Rattle.pas_syntax.specs.Views.{expr_in, behind_in, if_there}
use Rattle.pas_syntax.specs.ProgramViews.{argument_in}
use Rattle.pas_typed.specs.TypedViews.{passed_view}
use Rattle.pas_scopes.specs.ScopeViews.{scopes_view}
use Rattle.pas_rules.specs.Calls.{actual_of, without_width}
use Rattle.pas_scopes.specs.Answers.{end_in, StandsAs, FailsBy}
use Rattle.pas_scopes.specs.Arguments.{taken_by, passing_in}
use Rattle.pas_scopes.proofs.AnswerLemmas.{stands_stop}
use Rattle.pas_types.proofs.ActualLemmas.{width_fails, no_width_stands, width_refused_by, all_words, with_width}
use Rattle.pas_types.proofs.calls.actual_of.Goals as goal

pub returns-in_err-found : goal.returns-in_err-found
returns-in_err-found c clear n =
    let scopes = scopes_view c.args.scopes.now in
    let spellings = c.args.scopes.now.spellings.now in
    let taker = option_map (passing_in spellings scopes.outer.types) (option_copied c.args.parameter) in
    let argument = argument_in spellings c.args.argument.now in
    let why = c.in_err-found.field-0.0 in
    stands_stop (argument_words n argument) (taken_by taker (without_width (actual_of scopes argument))) passed_view why
    c.from_residual.result (err_from_is_err_and _ c.from_residual.ensures.1)
    (width_fails scopes n argument.value taker argument.width why (c.in_err-found.ensures clear n 0))

pub returns-in-Some : goal.returns-in-Some
returns-in-Some c clear n =
    let scopes = scopes_view c.args.scopes.now in
    let spellings = c.args.scopes.now.spellings.now in
    let taker = option_map (passing_in spellings scopes.outer.types) (option_copied c.args.parameter) in
    let expr = expr_in spellings c.args.argument.now.value in
    let found = c.in_ok-found.found in
    subst (λ (width : Option (CodeBehind code_expr.Expr)).
    FailsBy (all_words scopes n expr (if_there (behind_in (expr_in spellings)) width))
    (taken_by taker (with_width scopes n expr (if_there (behind_in (expr_in spellings)) width))).marks c.fault.result)
    (sym c.in-Some.is)
    (subst (FailsBy (all_words scopes n expr (Some (behind_in (expr_in spellings) c.in-Some.width)))
    (taken_by taker (with_width scopes n expr (Some (behind_in (expr_in spellings) c.in-Some.width)))).marks)
    (sym c.fault.ensures)
    (width_refused_by scopes n expr taker (behind_in (expr_in spellings) c.in-Some.width) (passed_view found.value)
    (end_in found.end) (c.in_ok-found.ensures clear n 0)))

pub returns-in-None : goal.returns-in-None
returns-in-None c clear n =
    let scopes = scopes_view c.args.scopes.now in
    let spellings = c.args.scopes.now.spellings.now in
    let taker = option_map (passing_in spellings scopes.outer.types) (option_copied c.args.parameter) in
    let expr = expr_in spellings c.args.argument.now.value in
    let found = c.in_ok-found.found in
    subst (λ (width : Option (CodeBehind code_expr.Expr)).
    StandsAs (all_words scopes n expr (if_there (behind_in (expr_in spellings)) width))
    (taken_by taker (with_width scopes n expr (if_there (behind_in (expr_in spellings)) width)))
    (passed_view found.value) (end_in found.end))
    (sym c.in-None.is)
    (no_width_stands scopes n expr taker (passed_view found.value) (end_in found.end)
    (c.in_ok-found.ensures clear n 0))
