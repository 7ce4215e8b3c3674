use Rattle.std.proofs.Common.{None, refl}
use Rattle.tangle_core.specs.Work.{ends}
use Rattle.web2c_cli.proofs.ConcludingLemmas.{concluded_by, printed}
use Rattle.web2c_cli.proofs.RunningLemmas.{none_read, none_wrong}
use Rattle.web2c_cli.proofs.CommandLemmas.{order_done, order_refused, order_stopped}
use Rattle.web2c_cli.proofs.run.perform.Goals as goal

pub returns-in_err-print-in-Usage-clause-work : goal.returns-in_err-print-in-Usage-clause-work
returns-in_err-print-in-Usage-clause-work g c =
    rw c.in-Usage.is (
      none_read,
      none_wrong,
      concluded_by _ _ _ _ _ _ c.from_residual.ensures.1
          (c.in_err-print-in-Usage.ensures.work (ends 2) _ _ _),
    )

pub returns-in_ok-print-in-Usage-clause-work : goal.returns-in_ok-print-in-Usage-clause-work
returns-in_ok-print-in-Usage-clause-work g c =
    rw c.in-Usage.is (
      none_read,
      none_wrong,
      printed _ _ 2 _ _ refl (c.in_ok-print-in-Usage.ensures.work (ends 2) None _ _),
    )

pub returns-in-Ok-clause-work : goal.returns-in-Ok-clause-work
returns-in-Ok-clause-work g c = rw c.in-Ordered.is (order_done _ _ None _ _ c.in-Ok.ensures.work)

pub returns-in-Err-Fault-clause-work : goal.returns-in-Err-Fault-clause-work
returns-in-Err-Fault-clause-work g c =
    rw c.in-Ordered.is (order_refused _ c.in-Err-Fault.fault _ _ _ _ _
    (rw c.in-Err-Fault.field-0-is at c.in-Err-Fault.ensures.work)
    (c.report.ensures.work _ _ _))

pub returns-in-Err-Stopped-clause-work : goal.returns-in-Err-Stopped-clause-work
returns-in-Err-Stopped-clause-work g c =
    rw c.in-Ordered.is (order_stopped _ _ _ _ _ (rw c.in-Err-Stopped.field-0-is at c.in-Err-Stopped.ensures.work))
