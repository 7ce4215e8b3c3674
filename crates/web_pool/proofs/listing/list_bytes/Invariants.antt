use Rattle.std.proofs.Common.{◌≡◌, ◌++◌}
use Rattle.web_pool.specs.Listing.{entries_from, byte_strings}
use Rattle.web_pool.specs.inner.Gathering.{HandsOn}
use Rattle.web_pool.proofs.listing.list_bytes.Given as goal

-- the lines of the bytes below this one were written
abbrev pub invariant-loop-code : goal.invariant-loop-code
invariant-loop-code g l = record {
  hands :
      HandsOn (l.initial.out ++ entries_from 0 (byte_strings l.code)) l.out (g.K.Sink.held l.initial.sink)
      (g.K.Sink.held l.sink);
  same_count : g.K.Sink.faults l.sink ≡ g.K.Sink.faults l.initial.sink;
  same_frame : g.K.Sink.frame l.sink ≡ g.K.Sink.frame l.initial.sink;
}
