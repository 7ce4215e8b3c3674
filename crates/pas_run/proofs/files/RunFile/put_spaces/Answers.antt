use Rattle.std.proofs.Common.{ap, ◌∙◌, sym, arith, ◌+◌}
use Rattle.std.proofs.lemmas.Grind.{replicate_next}
use Rattle.std.proofs.lemmas.List.{take-replicate}
use Rattle.pas_meaning.specs.Files.{space}
use Rattle.pas_run.specs.declared.files.FileState.{FileState}
use Rattle.pas_run.proofs.WritingLemmas.{one_more, part_of}
use Rattle.pas_run.proofs.files.RunFile.put_spaces.Goals as goal

pub returns-in-Err-clause-pieces : goal.returns-in-Err-clause-pieces
returns-in-Err-clause-pieces g c = record {
  each =
      λ bound file h. part_of bound c.loop-done.self.state (g.P.Port.told c.loop-done.self.port)
      (g.P.Port.told c.put.new.self) space c.loop-done._done _ _ _ file
      (sym (take-replicate c.loop-done._done c.args.count space (omega (arith, c.loop-done-test.true))))
      (sym (take-replicate (c.loop-done._done + 1) c.args.count space (omega (arith, c.loop-done-test.true))))
      (replicate_next c.loop-done._done space) c.in-Err.ensures.failed (c.loop-done.invariant.pieces bound file h);
}

pub loop-done-preserved : goal.loop-done-preserved
loop-done-preserved g c = record {
  state = c.loop-done.invariant.state;
  faults = c.in-Ok.ensures.cause ∙ c.loop-done.invariant.faults;
  pieces =
      λ bound file h. one_more bound c.loop-done.self.state (g.P.Port.told c.loop-done.self.port)
      (g.P.Port.told c.put.new.self) _ _ _ file (ap (λ (s : FileState). s.usage) c.loop-done.invariant.state
      ∙ c.requires) (replicate_next c.loop-done._done space) c.in-Ok.ensures.ok
      (c.loop-done.invariant.pieces bound file h);
}
