use Rattle.std.proofs.Common.{◌≡◌, sym, ap, ◌∙◌}
use Rattle.pas_typed.specs.declared.typed.Call as code_call
use Rattle.pas_typed.specs.declared.typed.Passed as code_passed
use Rattle.pas_typed.specs.declared.typed.Value.TheVariants as code_value
use Rattle.pas_typed.specs.Typed.{Passed, call}
use Rattle.pas_typed.specs.TypeViews.{type_view}
use Rattle.pas_typed.specs.TypedViews.{value_view, passed_view, passed_views}
use Rattle.pas_typed.proofs.ValueViews.{passed_view-Value, passed_view-Reference}
use Rattle.pas_rules.specs.Calls.{is_call_by_name}
use Rattle.pas_scopes.proofs.FitLemmas.{call_viewed}
use Rattle.pas_types.proofs.TransferLemmas.{first_passed, none_passed}
use Rattle.pas_types.proofs.transfers.is_call_by_name.Goals as goal

pub returns-in-Some-Value : goal.returns-in-Some-Value
returns-in-Some-Value c =
    let called = c.get.result.now in
    let found = first_passed called.passed c.in-Some-Value.field-0.now c.in-Some-Value.ensures.value in
    let viewed : value_view c.args.value.now
    ≡ call called.routine (type_view called.pas_type) (passed_views called.passed) =
    ap value_view c.in-Call.is ∙ ap (λ (one : code_call.Call). value_view (code_value.Call one)) (sym c.get.ensures)
    ∙ call_viewed called in
    sym (ap is_call_by_name viewed
    ∙ ap (λ (passed : Passed). is_call_by_name (call called.routine (type_view called.pas_type) passed))
    (found.1 ∙ ap (λ (one : code_passed.Passed). passed_view one found.0) c.in-Some-Value.field-0-is
    ∙ ap (λ (step : Passed → Passed). step found.0)
    (passed_view-Value c.in-Some-Value._pas_type c.in-Some-Value._value)))

pub returns-in-Some-Reference : goal.returns-in-Some-Reference
returns-in-Some-Reference c =
    let called = c.get.result.now in
    let found = first_passed called.passed c.in-Some-Reference.field-0.now c.in-Some-Reference.ensures.value in
    let viewed : value_view c.args.value.now
    ≡ call called.routine (type_view called.pas_type) (passed_views called.passed) =
    ap value_view c.in-Call.is ∙ ap (λ (one : code_call.Call). value_view (code_value.Call one)) (sym c.get.ensures)
    ∙ call_viewed called in
    sym (ap is_call_by_name viewed
    ∙ ap (λ (passed : Passed). is_call_by_name (call called.routine (type_view called.pas_type) passed))
    (found.1 ∙ ap (λ (one : code_passed.Passed). passed_view one found.0) c.in-Some-Reference.field-0-is
    ∙ ap (λ (step : Passed → Passed). step found.0) (passed_view-Reference c.in-Some-Reference._place)))

pub returns-in-None : goal.returns-in-None
returns-in-None c =
    let called = c.get.result.now in
    let viewed : value_view c.args.value.now
    ≡ call called.routine (type_view called.pas_type) (passed_views called.passed) =
    ap value_view c.in-Call.is ∙ ap (λ (one : code_call.Call). value_view (code_value.Call one)) (sym c.get.ensures)
    ∙ call_viewed called in
    sym (ap is_call_by_name viewed
    ∙ ap (λ (passed : Passed). is_call_by_name (call called.routine (type_view called.pas_type) passed))
    (none_passed called.passed c.in-None.ensures.value))
