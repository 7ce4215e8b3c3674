use Rattle.std.proofs.Common.{sym, ◌∙◌}
use Rattle.pas_typed.specs.Types.{cells_of}
use Rattle.pas_typed.specs.TypeViews.{type_view, field_view}
use Rattle.pas_typed.specs.TypedViews.{program_view}
use Rattle.pas_typed.proofs.CountLemmas.{counted_more, counted_all}
use Rattle.pas_run.proofs.selectors.cells_of_all.Goals as goal

pub loop-field-preserved : goal.loop-field-preserved
loop-field-preserved c =
    counted_more (λ field. cells_of (program_view c.args.scene.program.now).types (type_view field.pas_type)) _ _ _ _ _
    c.loop-field-test.true c.loop-field.invariant (c.cells_of.ensures c.args.scene.program.now.spellings)
    ∙ sym c.saturating_add-cells.ensures

pub returns : goal.returns
returns c =
    counted_all (λ field. cells_of (program_view c.args.scene.program.now).types field.type)
    (field_view c.args.scene.program.now.spellings) _ _ _ c.loop-field-test.false c.loop-field.invariant
