use Rattle.std.proofs.Common.{◌≡◌, take, drop}
use Rattle.wb_ports.specs.PortState.{PortState}
use Rattle.pas_meaning.specs.Files.{File}
use Rattle.pas_typed.specs.Texts.{undoubled}
use Rattle.pas_run.specs.RunFiles.{IsFile, with_more}
use Rattle.pas_run.proofs.files.RunFile.put_quoted.Given as goal

abbrev pub invariant-loop-done : goal.invariant-loop-done
invariant-loop-done g l = record {
  state : l.self.state ≡ l.fn.self.state;
  faults : g.P.Port.failures l.self.port ≡ g.P.Port.failures l.fn.self.port;
  rest : drop l._done (undoubled l.spelled) ≡ undoubled l.rest;
  pieces : (bound : PortState) (file : File) → IsFile bound l.fn.self.state (g.P.Port.told l.fn.self.port) file
      → IsFile bound l.self.state (g.P.Port.told l.self.port) (with_more (take l._done (undoubled l.spelled)) file);
}
