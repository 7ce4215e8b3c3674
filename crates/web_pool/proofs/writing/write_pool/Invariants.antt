use Rattle.std.proofs.Common.{◌≡◌, ◌++◌, take}
use Rattle.std.specs.List.{flat_map}
use Rattle.web_pool.specs.PoolText.{pool_line}
use Rattle.web_pool.specs.inner.Gathering.{HandsOn}
use Rattle.web_pool.specs.inner.PoolParts.{strings_in}
use Rattle.web_pool.proofs.writing.write_pool.Given as goal

-- the lines of the strings so far were written
abbrev pub invariant-loop-string : goal.invariant-loop-string
invariant-loop-string g l = record {
  hands :
      HandsOn (l.initial.out ++ flat_map pool_line (take l.string-index (strings_in l.string-items))) l.out
      (g.K.Sink.held l.initial.sink) (g.K.Sink.held l.sink);
  same_count : g.K.Sink.faults l.sink ≡ g.K.Sink.faults l.initial.sink;
  same_frame : g.K.Sink.frame l.sink ≡ g.K.Sink.frame l.initial.sink;
}
