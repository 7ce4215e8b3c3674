use Rattle.std.proofs.Common.{◌≡◌, take, sum_by}
use Rattle.pas_typed.specs.Types.{cells_of}
use Rattle.pas_typed.specs.TypeViews.{type_view, counted}
use Rattle.pas_typed.specs.TypedViews.{program_view}
use Rattle.pas_run.proofs.selectors.cells_of_all.Given as goal

abbrev pub invariant-loop-field : goal.invariant-loop-field
invariant-loop-field l =
    counted (sum_by (λ field. cells_of (program_view l.scene.program.now).types (type_view field.pas_type))
    (take l.field-index l.fields)) ≡ l.cells
