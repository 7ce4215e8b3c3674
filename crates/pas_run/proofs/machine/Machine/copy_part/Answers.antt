use Rattle.std.proofs.Common.{List, ◌∙◌}
use Rattle.std.proofs.lemmas.Result.{err_from_is_err_and}
use Rattle.pas_typed.specs.Types.{cells_of}
use Rattle.pas_typed.specs.TypeViews.{type_view}
use Rattle.pas_typed.specs.TypedViews.{program_view}
use Rattle.pas_run.specs.declared.cells.Cell.{Cell}
use Rattle.pas_run.specs.inner.Copying.{AreCells, held_at}
use Rattle.pas_run.proofs.CopyLemmas.{found_early, count_found, place_slot, copied}
use Rattle.pas_run.proofs.machine.Machine.copy_part.Goals as goal

pub returns-in_err-count-clause-found : goal.returns-in_err-count-clause-found
returns-in_err-count-clause-found g c variables result kinds at place is ports run stands =
    let table = (program_view c.args.scene.program.now).types in
    let type = type_view c.args.pas_type in
    found_early (λ (found : List Cell). AreCells table type found (held_at place run.store)) c.in_err-count.field-0.0
    c.from_residual.result (err_from_is_err_and _ c.from_residual.ensures.1)
    (count_found (λ (found : List Cell). AreCells table type found (held_at place run.store))
    (cells_of table type) c.in_err-count.field-0.0 c.in_err-count.ensures.count)

pub returns-clause-found : goal.returns-clause-found
returns-clause-found g c variables result kinds at place is ports run stands =
    copied (program_view c.args.scene.program.now) c.args.scene.layouts.now c.args.scene.locals.now variables result
    kinds at c.args.slot (type_view c.args.pas_type) c.args.behind place ports c.args.self.now run stands is
    c.home_of-home.result
    (c.home_of-home.ensures variables result kinds at
    (place_slot (program_view c.args.scene.program.now) variables c.args.slot (type_view c.args.pas_type) c.args.behind
    place is) ports run stands) c.in_ok-count.count _
    c.in_ok-count.ensures.count (c.in_ok-from_slice.ensures ∙ c.cells.ensures)
