use Rattle.std.proofs.Common.{sym, ap, ◌∙◌, Some, Bool}
use Rattle.std.proofs.lemmas.Result.{err_from_is_err_and}
use Rattle.wb_base.specs.declared.faults.TheConstants.{WRONG_TYPE}
use Rattle.pas_tokens.specs.Cutting.{wrong}
use Rattle.pas_typed.specs.Types.{Table, are_compatible}
use Rattle.pas_typed.specs.TypeViews.{table_view}
use Rattle.pas_typed.specs.TypedViews.{value_view}
use Rattle.pas_rules.specs.Marks.{checked, unless}
use Rattle.pas_rules.specs.Calls.{component_demand}
use Rattle.pas_scopes.specs.Answers.{end_in}
use Rattle.pas_scopes.proofs.AnswerLemmas.{stands_stop}
use Rattle.pas_types.proofs.TransferLemmas.{noted_fails, noted_stands}
use Rattle.pas_types.proofs.transfers.component_only.Goals as goal

pub returns-in_err-stands : goal.returns-in_err-stands
returns-in_err-stands c words part component is h =
    let table : Table = table_view c.args.scopes.now.spellings.now c.args.scopes.now.types in
    let demand = component_demand table (Some component) in
    let why = c.in_err-stands.field-0.0 in
    stands_stop words (checked demand part) value_view why c.from_residual.result
    (err_from_is_err_and _ c.from_residual.ensures.1)
    (noted_fails words demand part (value_view c.args.found.value) (value_view c.noted-found.result.value)
    (end_in c.args.found.end) (end_in c.noted-found.result.end) c.takes-is_fit.result
    (ap (λ (holds : Bool). unless holds (wrong WRONG_TYPE))
    (ap (are_compatible table component) c.pas_type.ensures ∙ sym (c.takes-is_fit.ensures component is)))
    (ap value_view c.noted-found.ensures.value) c.noted-found.ensures.end h why c.in_err-stands.ensures)

pub returns : goal.returns
returns c words part component is h =
    let table : Table = table_view c.args.scopes.now.spellings.now c.args.scopes.now.types in
    let demand = component_demand table (Some component) in
    noted_stands words demand part (value_view c.args.found.value) (value_view c.noted-found.result.value)
    (end_in c.args.found.end) (end_in c.noted-found.result.end) c.takes-is_fit.result
    (ap (λ (holds : Bool). unless holds (wrong WRONG_TYPE))
    (ap (are_compatible table component) c.pas_type.ensures ∙ sym (c.takes-is_fit.ensures component is)))
    (ap value_view c.noted-found.ensures.value) c.noted-found.ensures.end h c.in_ok-stands.ensures
