use Rattle.std.proofs.Common.{ap, ◌∙◌, option_map}
use Rattle.pas_typed.specs.Types.{row_of}
use Rattle.pas_typed.specs.TypeViews.{type_view, table_view, counted_row}
use Rattle.pas_typed.proofs.TableLemmas.{counted_at}
use Rattle.pas_typed.proofs.types.Table.row_of.Goals as goal

pub returns-in-Row : goal.returns-in-Row
returns-in-Row c spellings =
    ap (λ found. option_map counted_row (row_of (table_view spellings c.args.self.now) (type_view found))) c.in-Row.is
    ∙ counted_at _ _ _ _ c.self.invariant c.self.view_is c.get.ensures.value spellings
