use Rattle.std.proofs.Common.{None}
use Rattle.web2c_cli.specs.inner.Reading.{order_by}
use Rattle.web2c_cli.proofs.RunningLemmas.{not_loaded, program_ran}
use Rattle.web2c_cli.proofs.running.run_program.Goals as goal

pub returns-in_err-text-clause-work : goal.returns-in_err-text-clause-work
returns-in_err-text-clause-work g c =
    not_loaded (order_by c.args.order.now) _ _ _ _ _ _ _ c.from_residual.ensures.1 c.in_err-text.ensures.work

pub returns-clause-work : goal.returns-clause-work
returns-clause-work g c =
    program_ran (order_by c.args.order.now) _ _ _ None _ _ _ _ _ _ c.in_ok-text.ensures.work c.in_ok-text.ensures.same
    c.bytes.ensures (c.run_text.ensures.work _)
