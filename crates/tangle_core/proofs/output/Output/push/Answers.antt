use Rattle.std.proofs.Common.{List, [], sym, subst, arith}
use Rattle.std.proofs.lemmas.List.{append-nil}
use Rattle.std.proofs.lemmas.List.Elements.{All-head}
use Rattle.tangle_out.specs.Pieces.{Piece}
use Rattle.tangle_out.specs.Folder.{IsShort}
use Rattle.tangle_out.proofs.ClausesLemmas.{on_ok-map}
use Rattle.tangle_core.specs.inner.Emitting.{Sent}
use Rattle.tangle_core.proofs.EmittingLemmas.{At-item, Breaks-packed, if_fault-map, counts-few, prefix-item}
use Rattle.tangle_core.proofs.output.Output.push.Goals as goal

pub pack_piece-requires-clause-short : goal.pack_piece-requires-clause-short
pack_piece-requires-clause-short g c = All-head IsShort _ [] c.in-Gives.ensures.short

pub returns-in-Nothing-clause-ok : goal.returns-in-Nothing-clause-ok
returns-in-Nothing-clause-ok g c = λ items start at.
    let taken = c.in-Nothing.ensures.taken items at.folds in
    At-item _ _ _ _ items _ [] start _ _ at taken.1 taken.0 (omega arith)
    (λ before start sent. subst (λ (l : List Piece). Sent c.args.self.now.packer l start
    (g.K.Sink.held c.args.sink.now)) (sym (append-nil before)) sent)

pub returns-in-Nothing-clause-counted : goal.returns-in-Nothing-clause-counted
returns-in-Nothing-clause-counted g c = counts-few _ _ c.requires.countable

pub returns-in-Gives-clause-ok : goal.returns-in-Gives-clause-ok
returns-in-Gives-clause-ok g c =
    on_ok-map c.pack_piece.result
    (λ packs items start at.
    let taken = c.in-Gives.ensures.taken items at.folds in
    At-item _ _ _ _ items _ _ start _ _ at taken.1 taken.0 (omega arith) packs)
    c.pack_piece.ensures.ok

pub returns-in-Gives-clause-fault : goal.returns-in-Gives-clause-fault
returns-in-Gives-clause-fault g c =
    if_fault-map _ c.pack_piece.result _ _
    (λ code breaks items start at.
    Breaks-packed items _ _ code _ start _ (c.in-Gives.ensures.taken items at.folds).0 (breaks _ start at.sent))
    c.pack_piece.ensures.fault

pub returns-in-Gives-clause-failed : goal.returns-in-Gives-clause-failed
returns-in-Gives-clause-failed g c = λ is items start at.
    prefix-item items _ _ start _ (c.in-Gives.ensures.taken items at.folds).0
    (c.pack_piece.ensures.failed is _ start at.sent)

pub returns-in-Left-clause-ok : goal.returns-in-Left-clause-ok
returns-in-Left-clause-ok g c = rw (← c.in-Left.ensures.left) c.push_pieces.ensures.ok

pub returns-in-Left-clause-fault : goal.returns-in-Left-clause-fault
returns-in-Left-clause-fault g c = rw (← c.in-Left.ensures.left) c.push_pieces.ensures.fault
