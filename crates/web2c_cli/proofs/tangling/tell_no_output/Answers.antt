use Rattle.web2c_cli.proofs.tangling.tell_no_output.Goals as goal

pub returns-then-no_output-clause-work : goal.returns-then-no_output-clause-work
returns-then-no_output-clause-work g c rest last files ports =
    rw c.if-no_output.true (c.print.ensures.work rest last files ports)
