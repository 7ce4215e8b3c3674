use Rattle.pas_typed.specs.Shapes.{IsLawfulTable}
use Rattle.pas_typed.specs.TypedViews.{program_view}
use Rattle.pas_run.proofs.LayingLemmas.{BodiesSoFar}
use Rattle.pas_run.proofs.laying.body_layouts.Given as goal

abbrev pub invariant-loop-body : goal.invariant-loop-body
invariant-loop-body l =
    IsLawfulTable (program_view l.program).types → BodiesSoFar l.program l.layouts l.body-index
