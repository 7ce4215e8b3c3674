use Rattle.std.proofs.Common.{◌≡◌, ◌+◌, ℕ, arith, subst}
use Rattle.pas_typed.specs.Types.{cells_of}
use Rattle.pas_typed.specs.TypeViews.{type_view}
use Rattle.pas_typed.specs.TypedViews.{program_view}
use Rattle.pas_run.specs.inner.Evaluating.{IsCount}
use Rattle.pas_run.proofs.copies.cells_of.Goals as goal

pub returns-clause-count : goal.returns-clause-count
returns-clause-count c =
    let count = cells_of (program_view c.args.scene.program.now).types (type_view c.args.pas_type) in
    let none : 0 + count ≡ count = omega arith in
    subst (λ (count : ℕ). IsCount count c.behind_cells.result) none
    (c.behind_cells.ensures.count count (c.cells_of.ensures c.args.scene.program.now.spellings))
