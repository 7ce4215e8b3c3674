use Rattle.std.proofs.Common.{None}
use Rattle.tangle_core.specs.Work.{ends}
use Rattle.web2c_cli.specs.declared.status.Status.TheVariants.{Done}
use Rattle.web2c_cli.specs.Status.{number_of}
use Rattle.web2c_cli.specs.inner.Reading.{order_by}
use Rattle.web2c_cli.proofs.RunningLemmas.{none_read}
use Rattle.web2c_cli.proofs.CommandLemmas.{tangle_is, pooltype_is, was_done, was_halted, was_run}
use Rattle.web2c_cli.proofs.run.work.Goals as goal

pub returns-in_err-tangle_web-in-Tangle-clause-work : goal.returns-in_err-tangle_web-in-Tangle-clause-work
returns-in_err-tangle_web-in-Tangle-clause-work g c =
    was_halted (order_by c.args.order.now) _ (λ _. ends (number_of Done)) c.in_err-tangle_web-in-Tangle.field-0.0 _ _
    _ _ (tangle_is none_read _ _ c.in-Tangle.is) c.from_residual.ensures.1
    (c.in_err-tangle_web-in-Tangle.ensures.work _)

pub returns-in_ok-tangle_web-in-Tangle-clause-work : goal.returns-in_ok-tangle_web-in-Tangle-clause-work
returns-in_ok-tangle_web-in-Tangle-clause-work g c =
    was_done (order_by c.args.order.now) _ None _ _ (tangle_is none_read _ _ c.in-Tangle.is)
    (c.in_ok-tangle_web-in-Tangle.ensures.work _)

pub returns-in_err-list_pool-in-Pooltype-clause-work : goal.returns-in_err-list_pool-in-Pooltype-clause-work
returns-in_err-list_pool-in-Pooltype-clause-work g c =
    was_halted (order_by c.args.order.now) _ (λ _. ends (number_of Done)) c.in_err-list_pool-in-Pooltype.field-0.0 _ _
    _ _ (pooltype_is none_read _ _ c.in-Pooltype.is) c.from_residual-in_err-list_pool-in-Pooltype.ensures.1
    (c.in_err-list_pool-in-Pooltype.ensures.work _ (order_by c.args.order.now))

pub returns-in_ok-list_pool-in-Pooltype-clause-work : goal.returns-in_ok-list_pool-in-Pooltype-clause-work
returns-in_ok-list_pool-in-Pooltype-clause-work g c =
    was_done (order_by c.args.order.now) _ None _ _ (pooltype_is none_read _ _ c.in-Pooltype.is)
    (c.in_ok-list_pool-in-Pooltype.ensures.work _ (order_by c.args.order.now))

pub returns-in-Prun-clause-work : goal.returns-in-Prun-clause-work
returns-in-Prun-clause-work g c =
    was_run (order_by c.args.order.now) _ _ _ _ c.in-Prun.is c.run_program.ensures.work
