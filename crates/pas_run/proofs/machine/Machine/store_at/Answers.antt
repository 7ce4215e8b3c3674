use Rattle.std.proofs.Common.{subst}
use Rattle.std.proofs.Math.Facts.{to_z-of_z}
use Rattle.pas_typed.specs.TypeViews.{type_view}
use Rattle.pas_typed.specs.TypedViews.{slot_view, program_view}
use Rattle.pas_meaning.specs.Store.{holds}
use Rattle.pas_meaning.specs.Run.{Spot, part, window, store_at}
use Rattle.pas_run.specs.declared.spots.Spot.{Spot as CodeSpot}
use Rattle.pas_run.specs.inner.Scenes.{IsSpot}
use Rattle.pas_run.specs.inner.Doings.{Any, Does}
use Rattle.pas_run.proofs.SpotLemmas.{by_part, by_window}
use Rattle.pas_run.proofs.machine.Machine.store_at.Goals as goal

pub returns-in-Part-clause-does : goal.returns-in-Part-clause-does
returns-in-Part-clause-does g c variables result kinds at place is most =
    let program = program_view c.args.scene.program.now in
    let type = type_view c.args.pas_type in
    by_part program at.lawful variables type
    (λ (place : Spot). Does most kinds kinds Any (store_at program.types type place (holds c.args.number))
    c.args.self.now c.store_part.new.self c.store_part.result) c.in-Part.slot c.in-Part.behind place
    (subst (λ (spot : CodeSpot). IsSpot program variables type spot place) c.in-Part.is is)
    (λ path slot_is leads ordinal.
    subst (λ number. Does most kinds kinds Any (store_at program.types type (part (slot_view c.in-Part.slot) path)
    (holds number))
    c.args.self.now c.store_part.new.self c.store_part.result) (to_z-of_z c.ranges.number)
    (c.store_part.ensures.does variables result kinds at slot_is path leads most))

pub returns-in-Window-clause-does : goal.returns-in-Window-clause-does
returns-in-Window-clause-does g c variables result kinds at place is most =
    let program = program_view c.args.scene.program.now in
    let type = type_view c.args.pas_type in
    by_window program at.lawful variables type
    (λ (place : Spot). Does most kinds kinds Any (store_at program.types type place (holds c.args.number))
    c.args.self.now c.store_window.new.self c.store_window.result) c.in-Window.slot c.in-Window.component place
    (subst (λ (spot : CodeSpot). IsSpot program variables type spot place) c.in-Window.is is)
    (λ file_is.
    subst (λ number. Does most kinds kinds Any (store_at program.types type (window (slot_view c.in-Window.slot)
    (type_view c.in-Window.component)) (holds number))
    c.args.self.now c.store_window.new.self c.store_window.result) (to_z-of_z c.ranges.number)
    (c.store_window.ensures.does variables result kinds at file_is type most))
