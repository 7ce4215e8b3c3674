use Rattle.std.proofs.Common.{refl, ap, ◌∙◌}
use Rattle.wb_base.specs.declared.faults.TheConstants.{WRONG_TYPE}
use Rattle.pas_typed.specs.Types.{Base, is_of}
use Rattle.pas_typed.specs.Typed as typed
use Rattle.pas_typed.specs.TypeViews.{table_view}
use Rattle.pas_typed.specs.TypedViews.{value_view}
use Rattle.pas_typed.specs.declared.typed.Value as code_value
use Rattle.pas_typed.specs.TypeOf.{type_of}
use Rattle.pas_typed.proofs.ValueViews.{value_view-Addition}
use Rattle.pas_rules.specs.Expressions.{only, addition_base}
use Rattle.pas_scopes.specs.Answers.{end_in, noted_end}
use Rattle.pas_scopes.proofs.OperatorLemmas.{operands_end}
use Rattle.pas_scopes.proofs.expressions.addition_of.Goals as goal

pub returns : goal.returns
returns c words more word left right line h k =
    let spellings = c.args.scopes.now.spellings.now in
    let table = table_view spellings c.args.scopes.now.types in
    let base : Base = addition_base c.args.adding in
    let type = type_of (value_view c.args.second.value) in
    operands_end words more word (λ one other. typed.addition one c.args.adding other) (only base table)
    (only base table) left right (value_view c.args.first) line value_view c.args.second c.only-second.result
    (is_of base table type) WRONG_TYPE _ refl c.only-second.ensures.value
    (c.only-second.ensures.end
    ∙ ap (λ (found : Base). noted_end (is_of found table type) WRONG_TYPE (end_in c.args.second.end))
    c.addition_base.ensures)
    (value_view-Addition _ c.args.adding _
    ∙ ap (λ (one : code_value.Value). typed.addition (value_view one) c.args.adding
    (value_view c.in_ok-new-2.field-0)) c.in_ok-new.ensures
    ∙ ap (λ (other : code_value.Value). typed.addition (value_view c.args.first) c.args.adding (value_view other))
    c.in_ok-new-2.ensures) h k
