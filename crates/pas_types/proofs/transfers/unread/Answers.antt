use Rattle.std.proofs.Common.{ap, ◌∙◌, Bool, false, List, [], ◌∷◌}
use Rattle.std.specs.Prelude.{if◌then◌else◌}
use Rattle.wb_base.specs.declared.faults.TheConstants.{WRONG_TYPE, READING_NUMBERS}
use Rattle.pas_tokens.specs.Cutting.{Wrong, wrong}
use Rattle.pas_syntax.specs.Parse.{left_out}
use Rattle.pas_typed.specs.TypeViews.{type_view, table_view}
use Rattle.pas_typed.specs.TypedViews.{value_view}
use Rattle.pas_rules.specs.Marks.{unless}
use Rattle.pas_types.proofs.TransferLemmas.{read_is, demanded_is}
use Rattle.pas_types.proofs.transfers.unread.Goals as goal

abbrev wrongs : Bool → Bool → List Wrong
wrongs left read = if left then left_out READING_NUMBERS ∷ [] else unless read (wrong WRONG_TYPE)

pub returns-then-is_read : goal.returns-then-is_read
returns-then-is_read c place at some =
    let spellings = c.args.scopes.now.spellings.now in
    let table = table_view spellings c.args.scopes.now.types in
    let value = value_view c.args.value.now in
    read_is table value place (type_view c.args.file) at
    ∙ demanded_is table value (type_view c.args.file) c.is_left_out.result c.is_read.result some c.is_left_out.ensures
    c.is_read.ensures
    ∙ ap (λ (left : Bool). wrongs left c.is_read.result) c.if-is_left_out.false
    ∙ ap (wrongs false) c.if-is_read.true

pub returns-else-is_read : goal.returns-else-is_read
returns-else-is_read c place at some =
    let spellings = c.args.scopes.now.spellings.now in
    let table = table_view spellings c.args.scopes.now.types in
    let value = value_view c.args.value.now in
    read_is table value place (type_view c.args.file) at
    ∙ demanded_is table value (type_view c.args.file) c.is_left_out.result c.is_read.result some c.is_left_out.ensures
    c.is_read.ensures
    ∙ ap (λ (left : Bool). wrongs left c.is_read.result) c.if-is_left_out.false
    ∙ ap (wrongs false) c.if-is_read.false
