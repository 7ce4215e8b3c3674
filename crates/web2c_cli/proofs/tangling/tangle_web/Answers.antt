use Rattle.std.proofs.Common.{None}
use Rattle.web2c_cli.specs.declared.status.Status.TheVariants.{Done}
use Rattle.web2c_cli.specs.Status.{number_of}
use Rattle.web2c_cli.specs.Program.{going_on}
use Rattle.web2c_cli.specs.inner.Reading.{order_by}
use Rattle.tangle_core.specs.Work.{ends, by_memory}
use Rattle.tangle_core.proofs.WorkLemmas.{now_same}
use Rattle.tangle_core.proofs.ReachingLemmas.{load_stopped, reaches_then, stopped_then}
use Rattle.web2c_cli.proofs.ReachingLemmas.{halted}
use Rattle.web2c_cli.proofs.TanglingLemmas.{not_tangled, was_tangled}
use Rattle.web2c_cli.proofs.tangling.tangle_web.Goals as goal

pub returns-in_err-job-clause-work : goal.returns-in_err-job-clause-work
returns-in_err-job-clause-work g c ports =
    halted _ _ _ _ _ _ _ _ c.from_residual.ensures.1 (load_stopped _ _ by_memory _ _ (now_same _))

pub returns-in_err-done-clause-work : goal.returns-in_err-done-clause-work
returns-in_err-done-clause-work g c ports =
    not_tangled (order_by c.args.order.now) c.in_ok-job.job c.in_err-done.field-0.0 _ _ _ _ c.in_ok-job.ensures
    c.from_residual-in_err-done.ensures.1
    (c.in_err-done.ensures.work (going_on (order_by c.args.order.now) (λ output. ends (number_of Done))) _ ports)

pub returns-in_err-tell_no_output-clause-work : goal.returns-in_err-tell_no_output-clause-work
returns-in_err-tell_no_output-clause-work g c ports =
    let order = order_by c.args.order.now in
    halted _ _ _ _ _ _ _ _ c.from_residual-in_err-tell_no_output.ensures.1
    (stopped_then _ _ _ _ _ _
    (was_tangled order c.in_ok-job.job c.in_ok-done.done None _ _ c.in_ok-job.ensures
    (c.in_ok-done.ensures.work (going_on order (λ output. ends (number_of Done))) _ ports))
    (c.in_err-tell_no_output.ensures.work (ends (number_of Done)) _ _ ports))

pub returns-clause-work : goal.returns-clause-work
returns-clause-work g c ports =
    let order = order_by c.args.order.now in
    reaches_then _ _ _ _ _ _
    (was_tangled order c.in_ok-job.job c.in_ok-done.done None _ _ c.in_ok-job.ensures
    (c.in_ok-done.ensures.work (going_on order (λ output. ends (number_of Done))) _ ports))
    (c.in_ok-tell_no_output.ensures.work (ends (number_of Done)) None _ ports)
