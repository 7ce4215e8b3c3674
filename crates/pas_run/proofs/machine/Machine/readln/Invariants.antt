use Rattle.std.proofs.Common.{◌≡◌}
use Rattle.pas_meaning.specs.Files as files
use Rattle.pas_meaning.specs.FileSteps.{change_file}
use Rattle.pas_meaning.specs.Standing.{Kinds}
use Rattle.pas_run.specs.inner.MachineState.{failures_of}
use Rattle.pas_run.specs.inner.Doings.{Any}
use Rattle.pas_run.specs.inner.Running.{LeadsTo}
use Rattle.pas_run.proofs.machine.Machine.readln.Given as goal

abbrev pub invariant-loop : goal.invariant-loop
invariant-loop g l =
    (failures_of l.self.files ≡ failures_of l.fn.self.files)
    × ((kinds : Kinds) → LeadsTo {T = Unit {0}} kinds Any (λ most. change_file l.file files.readln)
    (λ most. change_file l.file files.readln) l.fn.self l.self)
