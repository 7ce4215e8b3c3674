use Rattle.pas_run.proofs.ReadingLemmas.{taken_byte, taken_none_at}
use Rattle.pas_run.proofs.files.RunFile.read_ahead.Goals as goal

pub returns-in-Some-clause-same_file : goal.returns-in-Some-clause-same_file
returns-in-Some-clause-same_file g c =
    λ bound file h. taken_byte bound c.args.self.now.state (g.P.Port.told c.args.self.now.port)
    (g.P.Port.told c.take.new.self) c.in-Some.byte file c.requires.read c.requires.unknown
    (rw c.in-Some.is at c.in_ok-byte.ensures.ok) h

pub returns-in-None-clause-same_file : goal.returns-in-None-clause-same_file
returns-in-None-clause-same_file g c =
    λ bound file h. taken_none_at bound c.args.self.now.state (g.P.Port.told c.args.self.now.port)
    (g.P.Port.told c.take.new.self) _ file c.requires.read c.requires.unknown c.behind_last-self.ensures
    (rw c.in-None.is at c.in_ok-byte.ensures.ok) h
