use Rattle.std.proofs.Common.{refl}
use Rattle.tangle_core.proofs.WritingLemmas.{closing_failed}
use Rattle.tangle_core.proofs.writing.write_pool_file.Goals as goal

pub returns-in_err-close-clause-failed : goal.returns-in_err-close-clause-failed
returns-in_err-close-clause-failed g c = λ _.
    closing_failed (Unit {0}) _ c.in_err-close.field-0.0 _ _ _ _ _ _ _ _ _ _
    c.in_ok-create.ensures.open_name c.in_ok-create.ensures.ok c.in_ok-fill_pool.ensures.fills.same_name
    (c.in_ok-fill_pool.ensures.fills.written refl) c.in_err-close.ensures.files c.in_err-close.ensures.last
