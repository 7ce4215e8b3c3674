use Rattle.std.proofs.Common.{[], ◌++◌, take}
use Rattle.std.specs.Io.KnownBytes.{Appends}
use Rattle.wb_ports.proofs.HeldLemmas.{on_err}
use Rattle.wb_ports.proofs.WritingLemmas.{appends_on, parts_on, is_prefix_still}
use Rattle.wb_ports.proofs.writing.write_whole.Goals as goal

pub loop-rest-preserved : goal.loop-rest-preserved
loop-rest-preserved g c = record {
  done = c.loop-rest.invariant.done ++ take c.in_ok-count.count c.loop-rest.rest.now;
  parts = parts_on _ _ _ c.in_ok-count.count c.loop-rest.invariant.parts;
  appended = appends_on _ _ _ _ _ c.loop-rest.invariant.appended c.in_ok-count.ensures.ok;
}

pub returns-in_err-count-clause-failed : goal.returns-in_err-count-clause-failed
returns-in_err-count-clause-failed g c =
    let nothing : Appends (g.W.Write.contents c.loop-rest.writer) (g.W.Write.contents c.write_some.new.writer) [] =
    c.in_err-count.ensures.failed in
    on_err _ (is_prefix_still _ _ _ _ _ _ c.loop-rest.invariant.parts c.loop-rest.invariant.appended nothing)
