use Rattle.std.proofs.Common.{arith}
use Rattle.tangle_core.proofs.FillingLemmas.{keeps-written, keeps-failed}
use Rattle.tangle_core.proofs.file_sink.FileSinkSink.write.Goals as goal

pub invariant_of-self-clause-keeps : goal.invariant_of-self-clause-keeps
invariant_of-self-clause-keeps g c =
    keeps-written _ _ _ _ _ _ _ _ c.args.self.now.keeps c.in-Ok.ensures.ok c.write.ensures.open_name
    c.in-Ok.ensures.cause c.in-Ok.ensures.last c.add.ensures.unwanted c.add.ensures.wanted c.add.ensures.refused
    c.add.ensures.kept

pub invariant_of-self-in-Err-clause-keeps : goal.invariant_of-self-in-Err-clause-keeps
invariant_of-self-in-Err-clause-keeps g c =
    keeps-failed _ _ _ _ _ _ _ _ c.args.self.now.keeps c.in-Err.ensures.failed c.write.ensures.open_name
    c.in-Err.ensures.cause c.in-Err.ensures.last (omega arith)
