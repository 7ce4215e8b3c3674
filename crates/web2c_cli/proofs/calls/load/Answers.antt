use Rattle.std.proofs.Common.{None, ℕ, List}
use Rattle.web2c_cli.proofs.ReachingLemmas.{loading_done, loading_failed}
use Rattle.web2c_cli.proofs.calls.load.Goals as goal

pub returns-in_err-text-clause-work : goal.returns-in_err-text-clause-work
returns-in_err-text-clause-work g c =
    loading_failed (List ℕ) _ c.in_err-text.field-0.0 _ _ _ _ _ c.from_residual.ensures.1
    c.in_err-text.ensures.files c.in_err-text.ensures.last

pub returns-clause-work : goal.returns-clause-work
returns-clause-work g c = loading_done _ _ None _ _ c.in_ok-text.ensures.loaded c.in_ok-text.ensures.files
