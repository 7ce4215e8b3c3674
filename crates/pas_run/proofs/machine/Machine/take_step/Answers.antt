use Rattle.std.proofs.Common.{arith}
use Rattle.pas_run.proofs.MachineLemmas.{step_taken}
use Rattle.pas_run.proofs.machine.Machine.take_step.Goals as goal

pub returns-clause-does : goal.returns-clause-does
returns-clause-does g c most kinds = step_taken most kinds _ _ c.self.view_is (omega (arith, c.if-self-eq0.false))
