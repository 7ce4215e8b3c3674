use Rattle.std.proofs.Common.{◌∙◌}
use Rattle.tangle_core.specs.Work.{prints, ends, by_memory}
use Rattle.web2c_cli.specs.declared.halt.Stop.TheVariants.{OutOfMemory}
use Rattle.tangle_core.proofs.WorkLemmas.{now_same}
use Rattle.tangle_core.proofs.ReachingLemmas.{act_stopped}
use Rattle.web2c_cli.proofs.ConcludingLemmas.{concluded_by, printed}
use Rattle.web2c_cli.proofs.run.report.Goals as goal

pub returns-in_err-line-clause-work : goal.returns-in_err-line-clause-work
returns-in_err-line-clause-work g c last files ports =
    concluded_by _ _ OutOfMemory last _ _ c.from_residual.ensures.1
    (act_stopped (prints _) (ends 1) by_memory _ _ (now_same _))

pub returns-clause-work : goal.returns-clause-work
returns-clause-work g c last files ports =
    printed _ _ 1 _ _ (c.bytes.ensures ∙ c.in_ok-line.ensures) (c.in_ok-print.ensures.work (ends 1) last files ports)
