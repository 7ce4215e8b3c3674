use Rattle.pas_run.proofs.ReadingLemmas.{got_at}
use Rattle.pas_run.proofs.files.RunFile.get.Goals as goal

pub returns-clause-step : goal.returns-clause-step
returns-clause-step g c = record {
  each =
      λ bound file h. got_at bound c.next_byte.new.self.state (g.P.Port.told c.next_byte.new.self.port)
      c.passed-self.result c.in_ok-next_byte.field-0 file c.in_ok-next_byte.ensures.seen c.passed-self.ensures
      (c.in_ok-next_byte.ensures.step.each bound file h);
}
