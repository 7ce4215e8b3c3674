use Rattle.std.proofs.Common.{sym, ◌∙◌}
use Rattle.pas_typed.specs.Types.{cells_of}
use Rattle.pas_typed.specs.TypeViews.{type_view, field_view, table_view}
use Rattle.pas_typed.proofs.TableLemmas.{counted_more, counted_all}
use Rattle.pas_typed.proofs.types.Table.cells_of_all.Goals as goal

pub loop-field-preserved : goal.loop-field-preserved
loop-field-preserved c spellings =
    counted_more (λ field. cells_of (table_view spellings c.args.self.now) (type_view field.pas_type)) _ _ _ _ _
    c.loop-field-test.true (c.loop-field.invariant spellings) (c.cells_of.ensures spellings)
    ∙ sym c.saturating_add-cells.ensures

pub returns : goal.returns
returns c spellings =
    counted_all (λ field. cells_of (table_view spellings c.args.self.now) field.type) (field_view spellings) _ _ _
    c.loop-field-test.false (c.loop-field.invariant spellings)
