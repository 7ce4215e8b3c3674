use Rattle.std.proofs.Common.{sym, ap, ◌∙◌, option_map}
use Rattle.pas_typed.specs.TypeViews.{range_view, type_view, table_view}
use Rattle.pas_typed.proofs.TableLemmas.{component_by_range, component_without_range}
use Rattle.pas_typed.proofs.types.Table.is_component.Goals as goal

pub returns-else-is : goal.returns-else-is
returns-else-is c spellings =
    rw (component_by_range _ _ (c.is.ensures ∙ c.if-is.false), c.range_of.ensures spellings, c.in-Some.is)
    (sym c.is_of_bytes.ensures)

pub returns-in-None : goal.returns-in-None
returns-in-None c spellings =
    component_without_range (table_view spellings c.args.self.now) (type_view c.args.pas_type)
    (c.range_of.ensures spellings ∙ ap (option_map range_view) c.in-None.is)
