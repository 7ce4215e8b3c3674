use Rattle.std.proofs.Common.{ℕ, ℤ, ap₂, ◌∙◌}
use Rattle.std.proofs.Math.Facts.{to_z-of_z}
use Rattle.pas_typed.specs.TypedViews.{program_view}
use Rattle.pas_run.specs.declared.cells.Cell.TheVariants.{Holds}
use Rattle.pas_run.specs.inner.FlatStore.{with_cell, behind_by}
use Rattle.pas_run.specs.inner.MachineState.{MachineState}
use Rattle.pas_run.proofs.ResultLemmas.{does_result}
use Rattle.pas_run.proofs.machine.Machine.set_result_cell.Goals as goal

pub returns-clause-does : goal.returns-clause-does
returns-clause-does g c variables result kinds at type function most datum one is =
    let before : MachineState = c.args.self.now in
    does_result (program_view c.args.scene.program.now) c.args.scene.layouts.now c.args.scene.locals.now variables
    result
    kinds at type function before c.set_cell.new.self c.args.number datum one is
    (c.set_cell.ensures
    ∙ ap₂ (λ (top : ℕ) (number : ℤ). record before {
      activations = with_cell (behind_by 0 (record { activation = top; offset = c.args.scene.locals.now.cells }))
          (Holds number) before.activations;
    }) c.top.ensures (to_z-of_z c.ranges.number)) most
