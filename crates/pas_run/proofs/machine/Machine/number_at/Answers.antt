use Rattle.std.proofs.Common.{ap₂, ◌∙◌}
use Rattle.pas_typed.specs.TypedViews.{slot_view, program_view}
use Rattle.pas_run.specs.declared.cells.Address.{Address}
use Rattle.pas_run.specs.inner.FlatStore.{cell_in, behind_by}
use Rattle.pas_run.proofs.PartLemmas.{part_number}
use Rattle.pas_run.proofs.machine.Machine.number_at.Goals as goal

pub returns-clause-number : goal.returns-clause-number
returns-clause-number g c variables result kinds at is path leads ports run stands =
    c.number_in.ensures.number _
    (c.cell.ensures
    ∙ ap₂ (λ (behind : _) (address : Address). cell_in (behind_by behind address) c.args.self.now.activations)
    leads.begins (c.home_of.ensures variables result kinds at is ports run stands)
    ∙ part_number (program_view c.args.scene.program.now) c.args.scene.layouts.now c.args.scene.locals.now variables
    result kinds at ports c.args.self.now run (slot_view c.args.slot) stands is path leads.leads)
