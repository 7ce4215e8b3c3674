use Rattle.std.proofs.Common.{◌≡◌, map}
use Rattle.tangle_out.specs.Pieces.{piece_of}
use Rattle.tangle_core.specs.inner.Emitting.{Packs}
use Rattle.tangle_core.proofs.output.pack.Given as goal

abbrev pub invariant-loop-piece : goal.invariant-loop-piece
invariant-loop-piece g l =
    Packs (map piece_of l.fn.pieces.items) l.initial.packer (g.K.Sink.held l.initial.sink) l.packer
    (map piece_of l.piece-iterator) (g.K.Sink.held l.sink)
    × (g.K.Sink.frame l.sink ≡ g.K.Sink.frame l.initial.sink)
    × (g.K.Sink.faults l.sink ≡ g.K.Sink.faults l.initial.sink)
