use Rattle.std.proofs.Common.{◌≡◌, take}
use Rattle.pas_typed.specs.Shapes.{IsLawfulTable}
use Rattle.pas_typed.specs.TypedViews.{program_view}
use Rattle.pas_meaning.specs.Trial.{cells_from}
use Rattle.pas_meaning.specs.Standing.{Kinds}
use Rattle.pas_run.specs.inner.FlatStore.{flat_row}
use Rattle.pas_run.proofs.start.global_cells.Given as goal

abbrev pub invariant-loop-number : goal.invariant-loop-number
invariant-loop-number l =
    IsLawfulTable (program_view l.program).types → (kinds : Kinds)
    → l.cells.items ≡ flat_row kinds
    (cells_from (program_view l.program) 0 (take l.number (program_view l.program).globals))
