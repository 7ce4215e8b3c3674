use Rattle.tangle_core.proofs.FillingLemmas.{Fills-told, counts_from_none, of_ok, of_failure}
use Rattle.tangle_core.proofs.writing.tell_pool.Goals as goal

pub returns-clause-fills : goal.returns-clause-fills
returns-clause-fills g c =
    Fills-told _ _ _ _ _ _ c.args.sink.now.copy.now _ c.write_pool.new.sink.copy.now c.write_pool.new.sink.failures _ _
    c.write_pool.new.sink.keeps c.requires.seen c.requires.empty
    (counts_from_none _ _ _ c.requires.none_failed c.write_pool.ensures.cause)
    (of_ok _ _ _ _ c.write_pool.ensures.ok) (of_failure _ _ _ _ c.write_pool.ensures.failed)
