use Rattle.std.proofs.Common.{sym, ap, ◌∙◌}
use Rattle.pas_typed.specs.TypedViews.{slot_view, program_view}
use Rattle.pas_run.specs.declared.cells.Cell.{Cell}
use Rattle.pas_run.specs.inner.FlatStore.{number_cell, with_cell, behind_by}
use Rattle.pas_run.specs.inner.MachineState.{MachineState}
use Rattle.pas_run.proofs.PartLemmas.{does_store}
use Rattle.pas_run.proofs.machine.Machine.set_number.Goals as goal

pub returns-clause-does : goal.returns-clause-does
returns-clause-does g c variables result kinds at is path leads most datum one same =
    let before : MachineState = c.args.self.now in
    does_store (program_view c.args.scene.program.now) c.args.scene.layouts.now c.args.scene.locals.now variables
    result kinds at c.args.self.now _ (slot_view c.args.slot) is path c.args.behind leads most datum one
    c.home_of-home.result (c.home_of-home.ensures variables result kinds at is)
    (c.set_cell.ensures
    ∙ ap (λ (cell : Cell). record before {
      activations = with_cell (behind_by c.args.behind c.home_of-home.result) cell before.activations;
    }) (c.cell_of.ensures ∙ ap number_cell (sym same)))
