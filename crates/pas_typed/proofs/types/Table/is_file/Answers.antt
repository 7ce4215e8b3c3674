use Rattle.pas_typed.proofs.TableLemmas.{is_some-option_map}
use Rattle.std.proofs.Common.{sym}
use Rattle.pas_typed.specs.TypeViews.{type_view}
use Rattle.pas_typed.proofs.types.Table.is_file.Goals as goal

pub returns : goal.returns
returns c spellings =
    rw (c.component_of.ensures spellings, is_some-option_map type_view c.component_of.result) (sym c.is_some.ensures)
