use Rattle.std.proofs.Common.{sym, ap, ◌∙◌, Bool}
use Rattle.std.specs.Prelude.{◌||◌}
use Rattle.pas_typed.specs.Types.{char, is_of}
use Rattle.pas_typed.specs.TypeViews.{type_view, table_view}
use Rattle.pas_types.proofs.transfers.is_printed.Goals as goal

pub returns-then-is_of : goal.returns-then-is_of
returns-then-is_of c =
    let spellings = c.args.scopes.now.spellings.now in
    let table = table_view spellings c.args.scopes.now.types in
    let found = type_view c.args.pas_type in
    c.if-is_of.true
    ∙ sym (ap (λ (is : Bool). is || is_of char table found) (c.is_of.ensures spellings ∙ c.if-is_of.true))

pub returns-else-is_of : goal.returns-else-is_of
returns-else-is_of c =
    let spellings = c.args.scopes.now.spellings.now in
    let table = table_view spellings c.args.scopes.now.types in
    let found = type_view c.args.pas_type in
    sym (c.is_of-else-is_of.ensures spellings)
    ∙ sym (ap (λ (is : Bool). is || is_of char table found) (c.is_of.ensures spellings ∙ c.if-is_of.false))
