use Rattle.std.proofs.Common.{◌≡◌, ap, ◌∙◌, Bool, Option}
use Rattle.wb_base.specs.declared.faults.TheConstants.{WRONG_TYPE}
use Rattle.pas_tokens.specs.Cutting.{wrong}
use Rattle.pas_typed.specs.Types.{PasType, are_compatible}
use Rattle.pas_typed.specs.Typed as typed
use Rattle.pas_typed.specs.Typed.{Value}
use Rattle.pas_typed.specs.TypeViews.{type_view, table_view}
use Rattle.pas_typed.specs.TypedViews.{value_view}
use Rattle.pas_typed.specs.declared.typed.Value as code_value
use Rattle.pas_typed.specs.TypeOf.{type_of}
use Rattle.pas_typed.proofs.ValueViews.{value_view-Comparison}
use Rattle.pas_rules.specs.Marks.{Judged, noted, unless}
use Rattle.pas_rules.specs.Expressions.{ordinal_only, like}
use Rattle.pas_scopes.proofs.OperatorLemmas.{operands_end}
use Rattle.pas_scopes.proofs.expressions.comparison_of.Goals as goal

pub returns : goal.returns
returns c words more word left right line h k =
    let spellings = c.args.scopes.now.spellings.now in
    let table = table_view spellings c.args.scopes.now.types in
    let holds : Bool = c.are_compatible-is_like.result in
    let first : Judged Value = noted (ordinal_only table) left in
    let fine : like table first.value (value_view c.args.second.value) ≡ unless holds (wrong WRONG_TYPE) =
    ap (λ (found : Option Value). like table found (value_view c.args.second.value)) h.known
    ∙ ap (λ (is : Bool). unless is (wrong WRONG_TYPE))
    (ap (λ (type : PasType). are_compatible table type (type_of (value_view c.args.second.value))) c.pas_type.ensures
    ∙ ap (λ (type : PasType). are_compatible table (type_view c.pas_type.result) type) c.pas_type-2.ensures
    ∙ c.are_compatible-is_like.ensures spellings) in
    operands_end words more word (λ one other. typed.comparison one c.args.relation other) (ordinal_only table)
    (like table first.value) left right (value_view c.args.first) line value_view c.args.second c.noted-second.result
    holds WRONG_TYPE _ fine c.noted-second.ensures.value c.noted-second.ensures.end
    (value_view-Comparison _ c.args.relation _
    ∙ ap (λ (one : code_value.Value). typed.comparison (value_view one) c.args.relation
    (value_view c.in_ok-new-2.field-0)) c.in_ok-new.ensures
    ∙ ap (λ (other : code_value.Value). typed.comparison (value_view c.args.first) c.args.relation (value_view other))
    c.in_ok-new-2.ensures) h k
