use Rattle.std.proofs.Common.{◌≡◌, List, Option, map, take}
use Rattle.wb_ports.specs.PortState.{PortState}
use Rattle.pas_typed.specs.Types.{PasType}
use Rattle.pas_typed.specs.Typed.{Variable}
use Rattle.pas_typed.specs.TypedViews.{program_view}
use Rattle.pas_meaning.specs.Outcome.{Run}
use Rattle.pas_meaning.specs.Store.{Store}
use Rattle.pas_meaning.specs.Run.{Argument, cell_of}
use Rattle.pas_meaning.specs.Standing.{Kinds}
use Rattle.pas_run.specs.inner.FlatStore.{flat_row}
use Rattle.pas_run.specs.inner.MachineState.{IsRun}
use Rattle.pas_run.specs.inner.Scenes.{IsScene}
use Rattle.pas_run.specs.inner.Calling.{AreGiven}
use Rattle.pas_run.proofs.machine.Machine.argument_cells.Given as goal

abbrev pub invariant-loop-argument : goal.invariant-loop-argument
invariant-loop-argument g l =
    (variables : List Variable) (result' : Option PasType) (kinds : Kinds) → IsScene l.scene variables result' kinds
    → (parameters : List Variable) (values : List Argument)
    → AreGiven (program_view l.scene.program.now) variables parameters l.arguments values
    → (ports : List PortState) (run : Run Store) → IsRun kinds ports l.self run
    → l.cells.items ≡ flat_row kinds (map (cell_of run.store) (take l.argument-index values))
