use Rattle.wb_ports.proofs.HeldLemmas.{on_err, prefix_of_more}
use Rattle.web_pool.proofs.gathering.Gatherer.write.Goals as goal

-- a prefix of what was kept back is one of that and the piece
pub returns-in_err-hand_on-clause-failed : goal.returns-in_err-hand_on-clause-failed
returns-in_err-hand_on-clause-failed g c =
    on_err _ (prefix_of_more _ _ c.args.self.now c.args.piece.now c.in_err-hand_on.ensures.failed)
