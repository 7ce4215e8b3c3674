use Rattle.std.proofs.Common.{subst, sym, List, ℕ, ◌+◌, map, get_or}
use Rattle.pas_typed.specs.TypedViews.{variable_view, program_view}
use Rattle.pas_meaning.specs.Standing.{kind_of}
use Rattle.pas_run.specs.inner.FlatStore.{cells_for}
use Rattle.pas_run.proofs.LayingLemmas.{LaidSoFar, laid_none, laid_next, kind_there, no_variable}
use Rattle.pas_run.proofs.laying.layout_of.Goals as goal

pub loop-variable-init : goal.loop-variable-init
loop-variable-init c lawful =
    let row = map (kind_of (program_view c.args.program.now).types)
    (map (variable_view c.args.program.now.spellings) c.args.variables.now) in
    subst (λ (offsets : List ℕ). LaidSoFar row offsets 0 0) (sym c.new-offsets.ensures) (laid_none row)

pub loop-variable-preserved : goal.loop-variable-preserved
loop-variable-preserved c lawful =
    let table = (program_view c.args.program.now).types in
    let spellings = c.args.program.now.spellings in
    let row = map (kind_of table) (map (variable_view spellings) c.args.variables.now) in
    let i = c.loop-variable.variable-index in
    let kind = kind_of table (variable_view spellings (get_or c.as_slice-variable-items.result.now i no_variable)) in
    subst (λ (offsets : List ℕ). LaidSoFar row offsets c.in_ok-cells.cells (i + 1)) (sym c.in_ok-push.ensures.ok)
    (laid_next row c.loop-variable.offsets c.loop-variable.cells i c.in_ok-cells.cells kind
    (kind_there table spellings c.args.variables.now c.as_slice-variable-items.result.now i no_variable
    c.as_slice-variable-items.ensures c.loop-variable-test.true)
    (c.in_ok-cells.ensures.found (cells_for kind) (c.cells_of.ensures lawful)) (c.loop-variable.invariant lawful))
