use Rattle.std.proofs.Common.{rules}
use Rattle.std.proofs.lemmas.List.{nil_from_length}
use Rattle.web2c_cli.proofs.ReachingLemmas.{printing_done, printing_nothing, printing_failed}
use Rattle.web2c_cli.proofs.calls.print.Goals as goal

pub returns-then-is_empty-clause-work : goal.returns-then-is_empty-clause-work
returns-then-is_empty-clause-work g c = printing_nothing _ _ (nil_from_length _ (search rules))

pub returns-in-Ok-clause-work : goal.returns-in-Ok-clause-work
returns-in-Ok-clause-work g c = printing_done _ _ _ c.in-Ok.ensures.ok

pub returns-in-Err-clause-work : goal.returns-in-Err-clause-work
returns-in-Err-clause-work g c = printing_failed _ _ _ (search rules) c.in-Err.ensures.failed
