use Rattle.std.proofs.Common.{[], refl}
use Rattle.pas_typed.specs.TypedViews.{slot_view, program_view}
use Rattle.pas_meaning.specs.Store.{undefined}
use Rattle.pas_run.proofs.LoopLemmas.{does_stored, ordinal_cell}
use Rattle.pas_run.proofs.machine.Machine.forget.Goals as goal

pub returns-clause-does : goal.returns-clause-does
returns-clause-does g c variables result kinds at is ordinal most =
    does_stored most kinds (slot_view c.args.slot) undefined c.args.self.now c.set_number.new.self
    (c.set_number.ensures.does variables result kinds at is []
    (ordinal_cell (program_view c.args.scene.program.now) (slot_view c.args.slot) at.lawful ordinal) most undefined tt
    refl)
