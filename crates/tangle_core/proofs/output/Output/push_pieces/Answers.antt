use Rattle.std.proofs.Common.{arith}
use Rattle.tangle_out.specs.Pieces.{piece_of}
use Rattle.tangle_out.proofs.ClausesLemmas.{on_ok-map}
use Rattle.tangle_core.proofs.EmittingLemmas.{At-item, Breaks-shown, Breaks-packed, if_fault-map, counts-few}
use Rattle.tangle_core.proofs.EmittingLemmas.{prefix-item}
use Rattle.std.proofs.lemmas.List.{length-map}
use Rattle.tangle_core.proofs.output.Output.push_pieces.Goals as goal

pub returns-in-Err-clause-fault : goal.returns-in-Err-clause-fault
returns-in-Err-clause-fault g c = λ items start at.
    Breaks-shown _ _ items _ _ start _ at (c.in-Err.ensures.fault items at.folds)

pub returns-in-Err-clause-counted : goal.returns-in-Err-clause-counted
returns-in-Err-clause-counted g c = counts-few _ _ c.requires.countable

pub returns-clause-ok : goal.returns-clause-ok
returns-clause-ok g c =
    on_ok-map c.pack.result
    (λ packs items start at.
    let added = c.in-Ok.ensures.ok items at.folds in
    At-item _ _ _ _ items _ _ start _ _ at added.1 added.0 (omega (arith, c.pack.ensures.few, length-map c.in-Ok.pieces.items piece_of)) packs)
    c.pack.ensures.ok

pub returns-clause-fault : goal.returns-clause-fault
returns-clause-fault g c =
    if_fault-map _ c.pack.result _ _
    (λ code breaks items start at.
    Breaks-packed items _ _ code _ start _ (c.in-Ok.ensures.ok items at.folds).0 (breaks _ start at.sent))
    c.pack.ensures.fault

pub returns-clause-failed : goal.returns-clause-failed
returns-clause-failed g c = λ is items start at.
    prefix-item items _ _ start _ (c.in-Ok.ensures.ok items at.folds).0 (c.pack.ensures.failed is _ start at.sent)
