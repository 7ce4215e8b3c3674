use Rattle.std.proofs.Common.{subst}
use Rattle.pas_typed.specs.TypeViews.{type_view}
use Rattle.pas_typed.specs.TypedViews.{program_view}
use Rattle.pas_meaning.specs.Outcome.{ask}
use Rattle.pas_meaning.specs.Run.{Spot, read_at}
use Rattle.pas_run.specs.declared.spots.Spot.{Spot as CodeSpot}
use Rattle.pas_run.specs.inner.Scenes.{IsSpot}
use Rattle.pas_run.specs.inner.Doings.{IsNumber, Does}
use Rattle.pas_run.proofs.SpotLemmas.{by_part, by_window}
use Rattle.pas_run.proofs.machine.Machine.read_at.Goals as goal

pub returns-in-Part-clause-does : goal.returns-in-Part-clause-does
returns-in-Part-clause-does g c variables result kinds at place is most =
    let program = program_view c.args.scene.program.now in
    let type = type_view c.args.pas_type in
    by_part program at.lawful variables type
    (λ (place : Spot). Does most kinds kinds IsNumber (ask (read_at program.types type place)) c.args.self.now
    c.read_part.new.self c.read_part.result) c.in-Part.slot c.in-Part.behind place
    (subst (λ (spot : CodeSpot). IsSpot program variables type spot place) c.in-Part.is is)
    (λ path slot_is leads ordinal. c.read_part.ensures.does variables result kinds at slot_is path leads type ordinal
    most)

pub returns-in-Window-clause-does : goal.returns-in-Window-clause-does
returns-in-Window-clause-does g c variables result kinds at place is most =
    let program = program_view c.args.scene.program.now in
    let type = type_view c.args.pas_type in
    by_window program at.lawful variables type
    (λ (place : Spot). Does most kinds kinds IsNumber (ask (read_at program.types type place)) c.args.self.now
    c.read_window.new.self c.read_window.result) c.in-Window.slot c.in-Window.component place
    (subst (λ (spot : CodeSpot). IsSpot program variables type spot place) c.in-Window.is is)
    (λ file_is. c.read_window.ensures.does variables result kinds at file_is type most)
