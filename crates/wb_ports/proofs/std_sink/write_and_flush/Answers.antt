use Rattle.std.proofs.lemmas.List.{append-nil}
use Rattle.wb_ports.proofs.HeldLemmas.{on_err}
use Rattle.wb_ports.proofs.WritingLemmas.{is_prefix_still}
use Rattle.wb_ports.proofs.std_sink.write_and_flush.Goals as goal

-- the whole piece is a prefix of it
pub returns-clause-failed : goal.returns-clause-failed
returns-clause-failed g c =
    on_err _ (is_prefix_still _ _ _ _ _ _ (append-nil c.args.piece.now) c.in_ok-write_whole.ensures.ok c.flush.ensures)
