use Rattle.std.proofs.Common.{◌≡◌}
use Rattle.pas_run.specs.inner.MachineState.{failures_of}
use Rattle.pas_run.proofs.EndingLemmas.{FinishedTo}
use Rattle.pas_run.proofs.machine.Machine.finish_files.Given as goal

abbrev pub invariant-loop-number : goal.invariant-loop-number
invariant-loop-number g l =
    FinishedTo l.number l.initial.self.files l.self.files
    × (failures_of l.self.files ≡ failures_of l.initial.self.files)
