use Rattle.std.proofs.Common.{◌≡◌, length}
use Rattle.macro_expand.specs.Expansion.{expansion_of}
use Rattle.tangle_core.specs.inner.Emitting.{Going}
use Rattle.tangle_core.proofs.emitting.emit.Given as goal

abbrev pub decreases-loop-item : goal.decreases-loop-item
decreases-loop-item g l = length l.stream.items

abbrev pub invariant-loop-item : goal.invariant-loop-item
invariant-loop-item g l =
    Going (expansion_of l.web) l.output.folder l.output.packer l.stream
    (g.K.Sink.held l.initial.sink) (g.K.Sink.held l.sink)
    × (g.K.Sink.frame l.sink ≡ g.K.Sink.frame l.initial.sink)
    × (g.K.Sink.faults l.sink ≡ g.K.Sink.faults l.initial.sink)
