use Rattle.std.proofs.Common.{ap, ◌∙◌, Bool, List, Some}
use Rattle.std.proofs.lemmas.Result.{err_from_is_err_and}
use Rattle.wb_base.specs.declared.faults.TheConstants.{WRONG_TYPE}
use Rattle.pas_tokens.specs.Cutting.{Wrong, wrong}
use Rattle.pas_syntax.specs.Views.{expr_in}
use Rattle.pas_syntax.specs.Words.{Word, expr_words}
use Rattle.pas_typed.specs.Types.{are_compatible, PasType}
use Rattle.pas_typed.specs.Typed.{Value}
use Rattle.pas_typed.specs.TypeViews.{type_view, table_view}
use Rattle.pas_typed.specs.TypedViews.{slot_view, value_view}
use Rattle.pas_rules.specs.Marks.{Judged, checked, unless}
use Rattle.pas_rules.specs.Expressions.{value_of}
use Rattle.pas_rules.specs.Statements.{fits_slot}
use Rattle.pas_scopes.specs.ScopeViews.{scopes_view}
use Rattle.pas_scopes.proofs.AnswerLemmas.{checked_stops_by}
use Rattle.pas_scopes.proofs.SettleLemmas.{settles_stop, settles_why}
use Rattle.pas_types.proofs.statements.limit_of.Goals as goal

pub returns-in_err-found : goal.returns-in_err-found
returns-in_err-found c clear n =
    let spellings = c.args.scopes.now.spellings.now in
    let words : List Word = expr_words n 0 (expr_in spellings c.args.expr.now) in
    let part : Judged Value = value_of (scopes_view c.args.scopes.now) (expr_in spellings c.args.expr.now) in
    let demand : Value → List Wrong = fits_slot (table_view spellings c.args.scopes.now.types)
    (Some (slot_view c.args.slot)) in
    let why = c.in_err-found.field-0.0 in
    settles_stop words (checked demand part) value_view why c.from_residual.result
    (err_from_is_err_and _ c.from_residual.ensures.1)
    (settles_why words (checked demand part) value_view why
    (checked_stops_by words demand part why (c.in_err-found.ensures clear n 0)))

pub returns : goal.returns
returns c clear n =
    let spellings = c.args.scopes.now.spellings.now in
    let words : List Word = expr_words n 0 (expr_in spellings c.args.expr.now) in
    let part : Judged Value = value_of (scopes_view c.args.scopes.now) (expr_in spellings c.args.expr.now) in
    let demand : Value → List Wrong = fits_slot (table_view spellings c.args.scopes.now.types)
    (Some (slot_view c.args.slot)) in
    c.fit.ensures.settles words demand part (c.in_ok-found.ensures clear n 0)
    (ap (λ (type : PasType). unless (are_compatible (table_view spellings c.args.scopes.now.types)
    (type_view c.args.slot.pas_type) type)
    (wrong WRONG_TYPE)) c.pas_type.ensures
    ∙ ap (λ (holds : Bool). unless holds (wrong WRONG_TYPE)) (c.are_compatible-is_fit.ensures spellings))
