use Rattle.std.proofs.Common.{refl, ap, ◌∙◌}
use Rattle.wb_base.specs.declared.faults.TheConstants.{WRONG_TYPE}
use Rattle.pas_typed.specs.Types.{Base, is_of}
use Rattle.pas_typed.specs.Typed as typed
use Rattle.pas_typed.specs.TypeViews.{table_view}
use Rattle.pas_typed.specs.TypedViews.{value_view}
use Rattle.pas_typed.specs.declared.typed.Value as code_value
use Rattle.pas_typed.specs.TypeOf.{type_of}
use Rattle.pas_typed.proofs.ValueViews.{value_view-Product}
use Rattle.pas_rules.specs.Expressions.{only, product_base}
use Rattle.pas_scopes.specs.Answers.{end_in, noted_end}
use Rattle.pas_scopes.proofs.OperatorLemmas.{operands_end}
use Rattle.pas_scopes.proofs.expressions.product_of.Goals as goal

pub returns : goal.returns
returns c words more word left right line h k =
    let spellings = c.args.scopes.now.spellings.now in
    let table = table_view spellings c.args.scopes.now.types in
    let base : Base = product_base c.args.multiplying in
    let type = type_of (value_view c.args.second.value) in
    operands_end words more word (λ one other. typed.product one c.args.multiplying other) (only base table)
    (only base table) left right (value_view c.args.first) line value_view c.args.second c.only-second.result
    (is_of base table type) WRONG_TYPE _ refl c.only-second.ensures.value
    (c.only-second.ensures.end
    ∙ ap (λ (found : Base). noted_end (is_of found table type) WRONG_TYPE (end_in c.args.second.end))
    c.product_base.ensures)
    (value_view-Product _ c.args.multiplying _
    ∙ ap (λ (one : code_value.Value). typed.product (value_view one) c.args.multiplying
    (value_view c.in_ok-new-2.field-0)) c.in_ok-new.ensures
    ∙ ap (λ (other : code_value.Value). typed.product (value_view c.args.first) c.args.multiplying (value_view other))
    c.in_ok-new-2.ensures) h k
