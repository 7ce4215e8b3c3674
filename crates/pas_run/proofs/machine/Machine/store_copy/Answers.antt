use Rattle.pas_typed.specs.TypedViews.{program_view}
use Rattle.pas_run.proofs.CopyLemmas.{place_slot, does_store_whole}
use Rattle.pas_run.proofs.machine.Machine.store_copy.Goals as goal

pub returns-clause-does : goal.returns-clause-does
returns-clause-does g c variables result kinds at type place is datum shaped same most =
    does_store_whole (program_view c.args.scene.program.now) c.args.scene.layouts.now c.args.scene.locals.now variables
    result kinds at c.args.slot type c.args.behind place is c.args.self.now _ c.home_of-home.result
    (c.home_of-home.ensures variables result kinds at
    (place_slot (program_view c.args.scene.program.now) variables c.args.slot type c.args.behind place is)) datum shaped
    c.args.cells.now same c.set_cells.ensures.stored most
