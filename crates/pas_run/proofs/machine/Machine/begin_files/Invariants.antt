use Rattle.std.proofs.Common.{◌≡◌}
use Rattle.pas_typed.specs.TypedViews.{program_view}
use Rattle.pas_meaning.specs.Standing.{Kinds}
use Rattle.pas_meaning.specs.Trial.{parameters_of}
use Rattle.pas_run.specs.inner.MachineState.{failures_of}
use Rattle.pas_run.proofs.RunLemmas.{Leads}
use Rattle.pas_run.proofs.machine.Machine.begin_files.Given as goal

abbrev pub invariant-loop-number : goal.invariant-loop-number
invariant-loop-number g l =
    ((kinds : Kinds) → Leads (parameters_of (program_view l.program)) kinds l.initial.self l.number l.self)
    × (failures_of l.self.files ≡ failures_of l.initial.self.files)
