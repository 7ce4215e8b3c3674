use Rattle.web2c_cli.specs.declared.pascal.Pascal.{Pascal}
use Rattle.web2c_cli.specs.inner.Reading.{order_by}
use Rattle.web2c_cli.proofs.RunningLemmas.{text_refused, text_run}
use Rattle.web2c_cli.proofs.running.run_text.Goals as goal

pub returns-in_err-pascal-clause-work : goal.returns-in_err-pascal-clause-work
returns-in_err-pascal-clause-work g c files =
    text_refused Pascal (order_by c.args.order.now) _ c.in_err-pascal.field-0.0 _ _ c.from_residual.ensures.1
    c.in_err-pascal.ensures.fault

pub returns-clause-work : goal.returns-clause-work
returns-clause-work g c files =
    text_run (order_by c.args.order.now) _ _ _ _ _ c.in_ok-pascal.ensures.ok (c.run_pascal.ensures.work files)
