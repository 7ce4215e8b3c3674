use Rattle.std.proofs.Common.{refl, ap, List}
use Rattle.std.proofs.lemmas.Result.{err_from_is_err_and}
use Rattle.pas_syntax.specs.Views.{expr_in}
use Rattle.pas_syntax.specs.Words.{Word, expr_words}
use Rattle.pas_typed.specs.Types.{integer, is_of}
use Rattle.pas_typed.specs.Typed.{Value}
use Rattle.pas_typed.specs.TypeOf.{type_of}
use Rattle.pas_typed.specs.TypedViews.{value_view}
use Rattle.pas_rules.specs.Marks.{Judged, checked}
use Rattle.pas_rules.specs.Expressions.{value_of, only}
use Rattle.pas_scopes.specs.ScopeViews.{scopes_view}
use Rattle.pas_scopes.specs.Answers.{end_in}
use Rattle.pas_scopes.proofs.AnswerLemmas.{stands_stop, stops_fails, checked_stops_by}
use Rattle.pas_types.proofs.TransferLemmas.{noted_fails, noted_stands}
use Rattle.pas_types.proofs.transfers.width_of.Goals as goal

pub returns-in_err-value_of : goal.returns-in_err-value_of
returns-in_err-value_of c clear n =
    let scopes = scopes_view c.args.scopes.now in
    let expr = expr_in c.args.scopes.now.spellings.now c.args.width.now in
    let words : List Word = expr_words n 0 expr in
    let demand = only integer scopes.outer.types in
    let part : Judged Value = value_of scopes expr in
    let why = c.in_err-value_of.field-0.0 in
    stands_stop words (checked demand part) value_view why c.from_residual.result
    (err_from_is_err_and _ c.from_residual.ensures.1)
    (stops_fails words (checked demand part) why (checked_stops_by words demand part why
    (c.in_err-value_of.ensures clear n 0)))

pub returns-in_err-stands : goal.returns-in_err-stands
returns-in_err-stands c clear n =
    let scopes = scopes_view c.args.scopes.now in
    let expr = expr_in c.args.scopes.now.spellings.now c.args.width.now in
    let words : List Word = expr_words n 0 expr in
    let demand = only integer scopes.outer.types in
    let part : Judged Value = value_of scopes expr in
    let found = c.in_ok-value_of.field-0 in
    let why = c.in_err-stands.field-0.0 in
    stands_stop words (checked demand part) value_view why c.from_residual-in_err-stands.result
    (err_from_is_err_and _ c.from_residual-in_err-stands.ensures.1)
    (noted_fails words demand part (value_view found.value) (value_view c.only-found.result.value) (end_in found.end)
    (end_in c.only-found.result.end) (is_of integer scopes.outer.types (type_of (value_view found.value))) refl
    (ap value_view c.only-found.ensures.value) c.only-found.ensures.end (c.in_ok-value_of.ensures clear n 0) why
    c.in_err-stands.ensures)

pub returns : goal.returns
returns c clear n =
    let scopes = scopes_view c.args.scopes.now in
    let expr = expr_in c.args.scopes.now.spellings.now c.args.width.now in
    let words : List Word = expr_words n 0 expr in
    let demand = only integer scopes.outer.types in
    let part : Judged Value = value_of scopes expr in
    let found = c.in_ok-value_of.field-0 in
    noted_stands words demand part (value_view found.value) (value_view c.only-found.result.value) (end_in found.end)
    (end_in c.only-found.result.end) (is_of integer scopes.outer.types (type_of (value_view found.value))) refl
    (ap value_view c.only-found.ensures.value) c.only-found.ensures.end (c.in_ok-value_of.ensures clear n 0)
    c.in_ok-stands.ensures
