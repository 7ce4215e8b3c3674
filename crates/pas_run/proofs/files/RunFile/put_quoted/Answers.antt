use Rattle.std.proofs.Common.{ap, ◌∙◌, sym, ◌+◌, arith}
use Rattle.pas_typed.specs.Texts.{undoubled}
use Rattle.pas_run.specs.declared.files.FileState.{FileState}
use Rattle.pas_run.proofs.WritingLemmas.{one_more, part_of}
use Rattle.pas_run.proofs.QuotedLemmas.{first_taken, text_at, text_behind_it}
use Rattle.pas_run.proofs.files.RunFile.put_quoted.Goals as goal

pub returns-in-Err-clause-pieces : goal.returns-in-Err-clause-pieces
returns-in-Err-clause-pieces g c = record {
  each =
      λ bound file h. part_of bound c.loop-done.self.state (g.P.Port.told c.loop-done.self.port)
      (g.P.Port.told c.put.new.self) c.in-Some.byte.now c.loop-done._done _ _ _ file
      (first_taken c.loop-done._done c.args.count (undoubled c.args.spelled.now)
      (omega (arith, c.loop-done-test.true)))
      (first_taken (c.loop-done._done + 1) c.args.count (undoubled c.args.spelled.now)
      (omega (arith, c.loop-done-test.true)))
      (text_at c.loop-done._done c.args.spelled.now c.loop-done.rest.now c.in-Some.byte.now
      (sym c.in-Some.ensures.value) c.loop-done.invariant.rest)
      c.in-Err.ensures.failed (c.loop-done.invariant.pieces bound file h);
}

pub loop-done-preserved : goal.loop-done-preserved
loop-done-preserved g c = record {
  state = c.loop-done.invariant.state;
  faults = c.in-Ok.ensures.cause ∙ c.loop-done.invariant.faults;
  rest =
      text_behind_it c.loop-done._done c.args.spelled.now c.loop-done.rest.now c.behind_first-rest.result.now
      c.behind_first-rest.ensures c.loop-done.invariant.rest;
  pieces =
      λ bound file h. one_more bound c.loop-done.self.state (g.P.Port.told c.loop-done.self.port)
      (g.P.Port.told c.put.new.self) _ _ _ file (ap (λ (s : FileState). s.usage) c.loop-done.invariant.state
      ∙ c.requires) (text_at c.loop-done._done c.args.spelled.now c.loop-done.rest.now c.in-Some.byte.now
      (sym c.in-Some.ensures.value) c.loop-done.invariant.rest) c.in-Ok.ensures.ok
      (c.loop-done.invariant.pieces bound file h);
}
