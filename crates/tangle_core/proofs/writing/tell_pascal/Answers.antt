use Rattle.tangle_core.proofs.FillingLemmas.{Fills-told, Copies-told, counts_from_none, failed_is}
use Rattle.tangle_core.proofs.writing.tell_pascal.Goals as goal

pub returns-clause-fills : goal.returns-clause-fills
returns-clause-fills g c =
    Fills-told _ _ _ _ _ _ c.args.sink.now.copy.now _ c.expand_to.new.sink.copy.now c.expand_to.new.sink.failures _ _
    c.expand_to.new.sink.keeps c.requires.seen c.requires.empty
    (counts_from_none _ _ _ c.requires.none_failed c.expand_to.ensures.cause) c.expand_to.ensures.told
    (λ failed. c.expand_to.ensures.failed (failed_is _ _ failed))

pub returns-clause-copies : goal.returns-clause-copies
returns-clause-copies g c =
    Copies-told _ _ _ _ _ _ _ _ c.expand_to.new.sink.failures _ c.expand_to.new.sink.keeps c.requires.seen
    (counts_from_none _ _ _ c.requires.none_failed c.expand_to.ensures.cause)
