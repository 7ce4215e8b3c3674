use Rattle.std.proofs.Common.{◌≡◌, sym, ap, ◌∙◌, Bool, true, false}
use Rattle.std.specs.Prelude.{◌&&◌, not}
use Rattle.pas_typed.specs.Types.{integer, is_of}
use Rattle.pas_typed.specs.TypeOf.{type_of}
use Rattle.pas_typed.specs.TypeViews.{table_view}
use Rattle.pas_typed.specs.TypedViews.{value_view}
use Rattle.pas_rules.specs.Calls.{is_call_by_name}
use Rattle.pas_types.proofs.transfers.is_number.Goals as goal

pub returns-then-is_of : goal.returns-then-is_of
returns-then-is_of c =
    let spellings = c.args.scopes.now.spellings.now in
    let table = table_view spellings c.args.scopes.now.types in
    let by_name : Bool = is_call_by_name (value_view c.args.value.now) in
    let whole : is_of integer table (type_of (value_view c.args.value.now)) ≡ true =
    ap (is_of integer table) c.pas_type.ensures ∙ c.is_of.ensures spellings ∙ c.if-is_of.true in
    ap not c.is_call_by_name.ensures ∙ sym (ap (λ (is : Bool). is && not by_name) whole)

pub returns-else-is_of : goal.returns-else-is_of
returns-else-is_of c =
    let spellings = c.args.scopes.now.spellings.now in
    let table = table_view spellings c.args.scopes.now.types in
    let by_name : Bool = is_call_by_name (value_view c.args.value.now) in
    let whole : is_of integer table (type_of (value_view c.args.value.now)) ≡ false =
    ap (is_of integer table) c.pas_type.ensures ∙ c.is_of.ensures spellings ∙ c.if-is_of.false in
    c.if-is_of.false ∙ sym (ap (λ (is : Bool). is && not by_name) whole)
