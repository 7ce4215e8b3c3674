use Rattle.std.proofs.Common.{ap, ◌∙◌, refl}
use Rattle.std.proofs.lemmas.List.{take_more}
use Rattle.pas_run.specs.declared.files.FileState.{FileState}
use Rattle.pas_run.proofs.WritingLemmas.{one_more, part_of}
use Rattle.pas_run.proofs.files.RunFile.put_all.Goals as goal

pub returns-in-Err-clause-pieces : goal.returns-in-Err-clause-pieces
returns-in-Err-clause-pieces g c = record {
  each =
      λ bound file h. part_of bound c.loop-byte.self.state (g.P.Port.told c.loop-byte.self.port)
      (g.P.Port.told c.put.new.self) _ c.loop-byte.byte-index c.args.bytes.now _ _ file refl refl
      (take_more c.args.bytes.now c.loop-byte.byte-index _ c.loop-byte-test.true) c.in-Err.ensures.failed
      (c.loop-byte.invariant.pieces bound file h);
}

pub loop-byte-preserved : goal.loop-byte-preserved
loop-byte-preserved g c = record {
  state = c.loop-byte.invariant.state;
  faults = c.in-Ok.ensures.cause ∙ c.loop-byte.invariant.faults;
  pieces =
      λ bound file h. one_more bound c.loop-byte.self.state (g.P.Port.told c.loop-byte.self.port)
      (g.P.Port.told c.put.new.self) _ _ _ file (ap (λ (s : FileState). s.usage) c.loop-byte.invariant.state
      ∙ c.requires) (take_more c.args.bytes.now c.loop-byte.byte-index _ c.loop-byte-test.true) c.in-Ok.ensures.ok
      (c.loop-byte.invariant.pieces bound file h);
}
