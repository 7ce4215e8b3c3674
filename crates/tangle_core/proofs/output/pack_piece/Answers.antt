use Rattle.std.proofs.Common.{[]}
use Rattle.wb_base.specs.declared.faults.TheConstants.{LINE_NOT_CUT}
use Rattle.tangle_out.specs.Pieces.{piece_of}
use Rattle.tangle_out.proofs.ClausesLemmas.{of_err}
use Rattle.tangle_core.proofs.EmittingLemmas.{Packs-one, Packs-piece, Packs-fault, Packs-failed, Packs-end}
use Rattle.tangle_core.proofs.EmittingLemmas.{counts-few, counts-piece, if_fault_of, on_ok-both}
use Rattle.tangle_core.proofs.output.pack_piece.Goals as goal

pub push-requires-clause-countable : goal.push-requires-clause-countable
push-requires-clause-countable g c = counts-few _ _ c.requires.countable

pub returns-clause-ok : goal.returns-clause-ok
returns-clause-ok g c =
    let packs = Packs-one _ (piece_of c.args.piece) (g.K.Sink.held c.args.sink.now) c.requires.countable
    c.requires.short in
    on_ok-both _ _ _ _ _ c.push.result
    (λ gained stands before start sent.
    Packs-end _ _ _ _ _ (Packs-piece _ _ _ _ _ _ _ _ [] packs gained stands) before start sent)
    c.push.ensures.gained c.push.ensures.stands

pub returns-clause-fault : goal.returns-clause-fault
returns-clause-fault g c =
    let packs = Packs-one _ (piece_of c.args.piece) (g.K.Sink.held c.args.sink.now) c.requires.countable
    c.requires.short in
    if_fault_of _ c.push.result _ LINE_NOT_CUT c.push.ensures.refusals
    (λ shown before start sent rest.
    rw (of_err c.push.result _ shown c.push.ensures.unchanged, c.push.ensures.unwritten shown)
    (Packs-fault _ _ _ _ _ _ _ packs (λ pieces stands. (c.push.ensures.fault pieces stands).0 shown) before start
    sent rest))

pub returns-clause-failed : goal.returns-clause-failed
returns-clause-failed g c =
    let packs = Packs-one _ (piece_of c.args.piece) (g.K.Sink.held c.args.sink.now) c.requires.countable
    c.requires.short in
    λ is before start sent. Packs-failed _ _ _ _ _ _ _ _ packs (c.push.ensures.failed is) before start sent

pub returns-clause-counted : goal.returns-clause-counted
returns-clause-counted g c =
    counts-piece _ c.push.result _ _ (piece_of c.args.piece) c.requires.countable c.push.ensures.stands
    c.push.ensures.unchanged
