use Rattle.std.proofs.Common.{None, ℕ, List}
use Rattle.tangle_core.proofs.GoingLemmas.{loading_done, loading_failed}
use Rattle.tangle_core.proofs.tangling.load.Goals as goal

pub returns-in_err-load-clause-work : goal.returns-in_err-load-clause-work
returns-in_err-load-clause-work g c =
    loading_failed (List ℕ) _ c.in_err-load.field-0.0 _ _ _ _ _ c.from_residual.ensures.1
    c.in_err-load.ensures.files c.in_err-load.ensures.last

pub returns-clause-work : goal.returns-clause-work
returns-clause-work g c = loading_done _ _ None _ _ c.in_ok-load.ensures.loaded c.in_ok-load.ensures.files
