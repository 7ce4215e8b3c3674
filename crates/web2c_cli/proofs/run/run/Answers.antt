use Rattle.std.proofs.Common.{◌∙◌, ap}
use Rattle.web2c_cli.specs.Status.{number_of}
use Rattle.web2c_cli.proofs.ConcludingLemmas.{finishes, wants_memory, fails, no_failure}
use Rattle.web2c_cli.proofs.run.run.Goals as goal

pub returns-clause-finished : goal.returns-clause-finished
returns-clause-finished g c =
    finishes _ _ _ _ _ _ _ c.read_request.ensures (c.number.ensures ∙ ap number_of c.status_of.ensures)
    c.perform.ensures.work

pub returns-clause-out_of_memory : goal.returns-clause-out_of_memory
returns-clause-out_of_memory g c =
    wants_memory _ _ _ _ _ _ _ c.read_request.ensures (c.number.ensures ∙ ap number_of c.status_of.ensures)
    c.perform.ensures.statuses c.perform.ensures.work

pub returns-clause-failed : goal.returns-clause-failed
returns-clause-failed g c =
    fails _ _ _ _ _ _ _ _ _ _ _ _ _ c.read_request.ensures (c.number.ensures ∙ ap number_of c.status_of.ensures)
    c.perform.ensures.statuses c.perform.ensures.shelf_cause c.perform.ensures.con_cause c.perform.ensures.port_cause
    c.perform.ensures.work

pub returns-clause-none_failed : goal.returns-clause-none_failed
returns-clause-none_failed g c =
    no_failure _ _ _ _ _ _ _ _ (c.number.ensures ∙ ap number_of c.status_of.ensures) c.perform.ensures.shelf_cause
    c.perform.ensures.con_cause c.perform.ensures.port_cause
