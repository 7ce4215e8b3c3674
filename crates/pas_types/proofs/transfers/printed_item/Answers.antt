use Rattle.std.proofs.Common.{sym, ap, subst, ◌∙◌, Option, Some, None, List}
use Rattle.std.proofs.lemmas.Result.{err_from_is_err_and}
use Rattle.pas_syntax.specs.declared.tree.Behind.{Behind as CodeBehind}
use Rattle.pas_syntax.specs.declared.tree.Expr as code_expr
use Rattle.pas_syntax.specs.ProgramViews.{argument_in}
use Rattle.pas_syntax.specs.Views.{if_there, behind_in, expr_in}
use Rattle.pas_syntax.specs.Words.{Word, expr_words}
use Rattle.pas_syntax.specs.Tree.{Behind, Expr}
use Rattle.pas_typed.specs.Typed.{Value, Item}
use Rattle.pas_typed.specs.TypedViews.{value_view, item_view}
use Rattle.pas_rules.specs.Marks.{Judged, checked}
use Rattle.pas_rules.specs.Calls.{printed_only, item_of}
use Rattle.pas_rules.specs.Expressions.{value_of}
use Rattle.pas_scopes.specs.ScopeViews.{scopes_view}
use Rattle.pas_scopes.specs.Answers.{end_in, Stands, StandsAs}
use Rattle.pas_scopes.proofs.AnswerLemmas.{stands_stop, stops_fails, checked_stops_by}
use Rattle.pas_scopes.proofs.CallAnswers.{settled_is}
use Rattle.pas_types.proofs.PrintLemmas.{printed, printed_words, printed_fails, printed_unsettled, printed_width}
use Rattle.pas_types.proofs.PrintLemmas.{printed_stands, printed_alone}
use Rattle.pas_types.proofs.transfers.printed_item.Goals as goal

pub returns-in_err-found : goal.returns-in_err-found
returns-in_err-found c clear n =
    let scopes = scopes_view c.args.scopes.now in
    let make = item_of scopes.outer.types in
    let spellings = c.args.scopes.now.spellings.now in
    let argument = argument_in spellings c.args.argument.now in
    let words : List Word = expr_words n 0 argument.value in
    let demand = printed_only scopes.outer.types in
    let value : Judged Value = value_of scopes argument.value in
    let part : Judged Value = checked demand value in
    let why = c.in_err-found.field-0.0 in
    stands_stop (printed_words scopes n words part make argument.width)
    (printed scopes n words part make argument.width)
    (item_view spellings) why c.from_residual.result (err_from_is_err_and _ c.from_residual.ensures.1)
    (printed_fails scopes n words part make argument.width why
    (stops_fails words part why (checked_stops_by words demand value why (c.in_err-found.ensures clear n 0))))

pub returns-in_err-found-2 : goal.returns-in_err-found-2
returns-in_err-found-2 c clear n =
    let scopes = scopes_view c.args.scopes.now in
    let make = item_of scopes.outer.types in
    let spellings = c.args.scopes.now.spellings.now in
    let argument = argument_in spellings c.args.argument.now in
    let words : List Word = expr_words n 0 argument.value in
    let demand = printed_only scopes.outer.types in
    let value : Judged Value = value_of scopes argument.value in
    let part : Judged Value = checked demand value in
    let why = c.in_err-found-2.field-0.0 in
    stands_stop (printed_words scopes n words part make argument.width)
    (printed scopes n words part make argument.width)
    (item_view spellings) why c.from_residual-in_err-found-2.result
    (err_from_is_err_and _ c.from_residual-in_err-found-2.ensures.1)
    (printed_fails scopes n words part make argument.width why
    (c.in_err-found-2.ensures words value (c.in_ok-found.ensures clear n 0)))

pub returns-in_err-value-in-Some : goal.returns-in_err-value-in-Some
returns-in_err-value-in-Some c clear n =
    let scopes = scopes_view c.args.scopes.now in
    let make = item_of scopes.outer.types in
    let spellings = c.args.scopes.now.spellings.now in
    let argument = argument_in spellings c.args.argument.now in
    let words : List Word = expr_words n 0 argument.value in
    let demand = printed_only scopes.outer.types in
    let value : Judged Value = value_of scopes argument.value in
    let part : Judged Value = checked demand value in
    let found = c.in_ok-found-2.found in
    let width : Behind Expr = behind_in (expr_in spellings) c.in-Some.width in
    let stands = c.in_ok-found-2.ensures words value (c.in_ok-found.ensures clear n 0) in
    let why = c.in_err-value-in-Some.field-0.0 in
    subst (λ (given : Option (CodeBehind code_expr.Expr)).
    Stands (printed_words scopes n words part make (if_there (behind_in (expr_in spellings)) given))
    (printed scopes n words part make (if_there (behind_in (expr_in spellings)) given)) (item_view spellings)
    c.from_residual-in_err-value-in-Some.result) (sym c.in-Some.is)
    (stands_stop (printed_words scopes n words part make (Some width)) (printed scopes n words part make (Some width))
    (item_view spellings) why c.from_residual-in_err-value-in-Some.result
    (err_from_is_err_and _ c.from_residual-in_err-value-in-Some.ensures.1)
    (printed_unsettled scopes n words part make width (value_view found.value) (end_in found.end) why stands found.value
    c.in_err-value-in-Some.ensures))

pub returns-in_err-given-in-Some : goal.returns-in_err-given-in-Some
returns-in_err-given-in-Some c clear n =
    let scopes = scopes_view c.args.scopes.now in
    let make = item_of scopes.outer.types in
    let spellings = c.args.scopes.now.spellings.now in
    let argument = argument_in spellings c.args.argument.now in
    let words : List Word = expr_words n 0 argument.value in
    let demand = printed_only scopes.outer.types in
    let value : Judged Value = value_of scopes argument.value in
    let part : Judged Value = checked demand value in
    let found = c.in_ok-found-2.found in
    let width : Behind Expr = behind_in (expr_in spellings) c.in-Some.width in
    let stands = c.in_ok-found-2.ensures words value (c.in_ok-found.ensures clear n 0) in
    let end = end_in found.end in
    let settled = settled_is end.line width.line end.refusal end.is_short found.value c.in_ok-value-in-Some.value
    stands.lawful c.in_ok-value-in-Some.ensures in
    let why = c.in_err-given-in-Some.field-0.0 in
    subst (λ (given : Option (CodeBehind code_expr.Expr)).
    Stands (printed_words scopes n words part make (if_there (behind_in (expr_in spellings)) given))
    (printed scopes n words part make (if_there (behind_in (expr_in spellings)) given)) (item_view spellings)
    c.from_residual-in_err-given-in-Some.result) (sym c.in-Some.is)
    (stands_stop (printed_words scopes n words part make (Some width)) (printed scopes n words part make (Some width))
    (item_view spellings) why c.from_residual-in_err-given-in-Some.result
    (err_from_is_err_and _ c.from_residual-in_err-given-in-Some.ensures.1)
    (printed_width scopes n words part make width (value_view found.value) (end_in found.end) why stands settled.1
    (c.in_err-given-in-Some.ensures clear n)))

pub returns-in_ok-given-in-Some : goal.returns-in_ok-given-in-Some
returns-in_ok-given-in-Some c clear n =
    let scopes = scopes_view c.args.scopes.now in
    let make = item_of scopes.outer.types in
    let spellings = c.args.scopes.now.spellings.now in
    let argument = argument_in spellings c.args.argument.now in
    let words : List Word = expr_words n 0 argument.value in
    let demand = printed_only scopes.outer.types in
    let value : Judged Value = value_of scopes argument.value in
    let part : Judged Value = checked demand value in
    let found = c.in_ok-found-2.found in
    let width : Behind Expr = behind_in (expr_in spellings) c.in-Some.width in
    let stands = c.in_ok-found-2.ensures words value (c.in_ok-found.ensures clear n 0) in
    let end = end_in found.end in
    let settled = settled_is end.line width.line end.refusal end.is_short found.value c.in_ok-value-in-Some.value
    stands.lawful c.in_ok-value-in-Some.ensures in
    let given = c.in_ok-given-in-Some.given in
    let other = value_view given.value in
    subst (λ (w : Option (CodeBehind code_expr.Expr)).
    StandsAs (printed_words scopes n words part make (if_there (behind_in (expr_in spellings)) w))
    (printed scopes n words part make (if_there (behind_in (expr_in spellings)) w))
    (item_view spellings c.item_as.result) (end_in given.end)) (sym c.in-Some.is)
    (subst (λ (item : Item). StandsAs (printed_words scopes n words part make (Some width))
    (printed scopes n words part make (Some width)) item (end_in given.end))
    (sym (c.item_as.ensures ∙ ap (λ (v : _). item_of scopes.outer.types (value_view v) (Some other)) settled.0))
    (printed_stands scopes n words part make width (value_view found.value) other (end_in found.end) (end_in given.end)
    stands settled.1 (c.in_ok-given-in-Some.ensures clear n)))

pub returns-in-None : goal.returns-in-None
returns-in-None c clear n =
    let scopes = scopes_view c.args.scopes.now in
    let make = item_of scopes.outer.types in
    let spellings = c.args.scopes.now.spellings.now in
    let argument = argument_in spellings c.args.argument.now in
    let words : List Word = expr_words n 0 argument.value in
    let demand = printed_only scopes.outer.types in
    let value : Judged Value = value_of scopes argument.value in
    let part : Judged Value = checked demand value in
    let found = c.in_ok-found-2.found in
    let stands = c.in_ok-found-2.ensures words value (c.in_ok-found.ensures clear n 0) in
    subst (λ (w : Option (CodeBehind code_expr.Expr)).
    StandsAs (printed_words scopes n words part make (if_there (behind_in (expr_in spellings)) w))
    (printed scopes n words part make (if_there (behind_in (expr_in spellings)) w))
    (item_view spellings c.item_as-in-None.result) (end_in found.end)) (sym c.in-None.is)
    (subst (λ (item : Item). StandsAs (printed_words scopes n words part make None)
    (printed scopes n words part make None) item
    (end_in found.end)) (sym c.item_as-in-None.ensures)
    (printed_alone scopes n words part make (value_view found.value) (end_in found.end) stands))
