use Rattle.std.proofs.Common.{refl, ap, ◌∙◌}
use Rattle.wb_base.specs.declared.faults.TheConstants.{WRONG_TYPE}
use Rattle.pas_typed.specs.Types.{integer, is_of}
use Rattle.pas_typed.specs.Typed as typed
use Rattle.pas_typed.specs.TypeViews.{table_view}
use Rattle.pas_typed.specs.TypedViews.{value_view}
use Rattle.pas_typed.specs.declared.typed.Value as code_value
use Rattle.pas_typed.specs.TypeOf.{type_of}
use Rattle.pas_typed.proofs.ValueViews.{value_view-Signed}
use Rattle.pas_rules.specs.Expressions.{only}
use Rattle.pas_scopes.proofs.OperatorLemmas.{operand_ends}
use Rattle.pas_scopes.proofs.expressions.signed_of.Goals as goal

pub returns : goal.returns
returns c words word part h =
    let table = table_view c.args.scopes.now.spellings.now c.args.scopes.now.types in
    operand_ends words word (typed.signed c.args.sign) (only integer table) part value_view c.args.operand
    c.only-operand.result (is_of integer table (type_of (value_view c.args.operand.value))) WRONG_TYPE _ refl
    c.only-operand.ensures.value c.only-operand.ensures.end
    (value_view-Signed c.args.sign _
    ∙ ap (λ (one : code_value.Value). typed.signed c.args.sign (value_view one)) c.in_ok-new.ensures) h
