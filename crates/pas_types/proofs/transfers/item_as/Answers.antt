use Rattle.std.proofs.Common.{◌≡◌, sym, ap, ◌∙◌, Bool, true, false}
use Rattle.std.specs.Prelude.{option_map, if◌then◌else◌}
use Rattle.pas_typed.specs.Types.{char, is_of}
use Rattle.pas_typed.specs.Typed.{char_item, number_item}
use Rattle.pas_typed.specs.TypeOf.{type_of}
use Rattle.pas_typed.specs.TypeViews.{table_view}
use Rattle.pas_typed.specs.TypedViews.{value_view}
use Rattle.pas_types.proofs.transfers.item_as.Goals as goal

pub returns-then-is_of : goal.returns-then-is_of
returns-then-is_of c =
    let spellings = c.args.scopes.now.spellings.now in
    let table = table_view spellings c.args.scopes.now.types in
    let value = value_view c.args.value in
    let width = option_map value_view c.args.width in
    let whole : is_of char table (type_of value) ≡ true =
    ap (is_of char table) c.pas_type.ensures ∙ c.is_of.ensures spellings ∙ c.if-is_of.true in
    sym (ap (λ (is : Bool). if is then char_item value width else number_item value width) whole)

pub returns-else-is_of : goal.returns-else-is_of
returns-else-is_of c =
    let spellings = c.args.scopes.now.spellings.now in
    let table = table_view spellings c.args.scopes.now.types in
    let value = value_view c.args.value in
    let width = option_map value_view c.args.width in
    let whole : is_of char table (type_of value) ≡ false =
    ap (is_of char table) c.pas_type.ensures ∙ c.is_of.ensures spellings ∙ c.if-is_of.false in
    sym (ap (λ (is : Bool). if is then char_item value width else number_item value width) whole)
