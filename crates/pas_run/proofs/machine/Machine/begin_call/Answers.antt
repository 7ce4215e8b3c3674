use Rattle.pas_meaning.specs.declared.errors.TheConstants.{CALL_LIMIT}
use Rattle.pas_run.proofs.MachineLemmas.{call_begun}
use Rattle.pas_run.proofs.machine.Machine.begin_call.Goals as goal

pub returns-clause-does : goal.returns-clause-does
returns-clause-does g c most kinds = call_begun most kinds _ _ CALL_LIMIT c.self.view_is c.if-self-ge-CALL_LIMIT.false
