use Rattle.std.proofs.Common.{map}
use Rattle.pas_typed.specs.Shapes.{IsLawfulTable}
use Rattle.pas_typed.specs.TypedViews.{variable_view, program_view}
use Rattle.pas_meaning.specs.Standing.{kind_of}
use Rattle.pas_run.proofs.LayingLemmas.{LaidSoFar}
use Rattle.pas_run.proofs.laying.layout_of.Given as goal

abbrev pub invariant-loop-variable : goal.invariant-loop-variable
invariant-loop-variable l =
    IsLawfulTable (program_view l.program).types
    → LaidSoFar (map (kind_of (program_view l.program).types) (map (variable_view l.program.spellings) l.variables))
    l.offsets l.cells l.variable-index
