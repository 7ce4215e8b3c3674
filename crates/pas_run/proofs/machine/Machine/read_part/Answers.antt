use Rattle.std.proofs.Common.{refl, sym, subst}
use Rattle.pas_typed.specs.TypedViews.{slot_view, program_view}
use Rattle.pas_run.specs.inner.MachineState.{CountFailures}
use Rattle.pas_run.proofs.SpotLemmas.{does_read_part}
use Rattle.pas_run.proofs.machine.Machine.read_part.Goals as goal

pub returns-clause-does : goal.returns-clause-does
returns-clause-does g c variables result kinds at is path leads type ordinal most =
    does_read_part (program_view c.args.scene.program.now).types type (slot_view c.args.slot) path most kinds
    c.args.self.now c.number_at.result ordinal (c.number_at.ensures.number variables result kinds at is path leads)

pub returns-clause-cause : goal.returns-clause-cause
returns-clause-cause g c =
    subst (λ failed. CountFailures failed c.args.self.now.files c.args.self.now.files) (sym c.number_at.ensures.quiet)
    refl
