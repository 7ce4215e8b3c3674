use Rattle.std.proofs.Common.{ap, ap₂, ◌∙◌}
use Rattle.pas_typed.specs.TypedViews.{mode_view, slot_view, program_view}
use Rattle.pas_run.specs.inner.FlatStore.{cell_in, behind_by}
use Rattle.pas_run.specs.inner.Scenes.{home_in}
use Rattle.pas_run.proofs.SceneLemmas.{home_found}
use Rattle.pas_run.proofs.machine.Machine.home_of.Goals as goal

pub returns : goal.returns
returns g c variables result kinds at is ports run stands =
    let own = c.own_address-own.ensures in
    c.home_in.ensures
    ∙ ap₂ (home_in (mode_view c.args.slot.mode)) own
    (c.cell.ensures ∙ ap (λ own. cell_in (behind_by 0 own) c.args.self.now.activations) own)
    ∙ home_found (program_view c.args.scene.program.now) c.args.scene.layouts.now c.args.scene.locals.now variables
    result kinds at ports c.args.self.now run (slot_view c.args.slot) stands is
