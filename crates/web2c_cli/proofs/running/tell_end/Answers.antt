use Rattle.tangle_core.specs.Work.{prints, by_memory}
use Rattle.tangle_core.proofs.WorkLemmas.{now_same}
use Rattle.tangle_core.proofs.ReachingLemmas.{act_stopped}
use Rattle.web2c_cli.specs.declared.halt.Stop.TheVariants.{OutOfMemory}
use Rattle.web2c_cli.proofs.ReachingLemmas.{stopped}
use Rattle.web2c_cli.proofs.RunningLemmas.{end_told, end_untold}
use Rattle.web2c_cli.proofs.running.tell_end.Goals as goal

pub returns-in_err-line-clause-work : goal.returns-in_err-line-clause-work
returns-in_err-line-clause-work g c last files ports =
    stopped _ _ _ OutOfMemory last _ _ c.from_residual.ensures.1
    (act_stopped (prints _) _ by_memory _ _ (now_same _))

pub returns-in_err-print-clause-work : goal.returns-in_err-print-clause-work
returns-in_err-print-clause-work g c last files ports =
    end_untold _ _ _ _ _ _ _ _ last files ports c.in_ok-line.ensures c.bytes.ensures
    c.from_residual-in_err-print.ensures.1 c.in_err-print.ensures.work

pub returns-clause-work : goal.returns-clause-work
returns-clause-work g c last files ports =
    end_told _ _ _ _ _ _ _ last files ports c.in_ok-line.ensures c.bytes.ensures c.status.ensures
    c.in_ok-print.ensures.work
