use Rattle.std.proofs.Common.{◌≡◌, sym, ◌∙◌, ap, subst}
use Rattle.tangle_out.specs.declared.packing.TheConstants.{WIDTH}
use Rattle.tangle_out.specs.Pieces.{Piece, piece_of}
use Rattle.tangle_out.specs.Packing.{after_cut}
use Rattle.tangle_out.specs.Packer.{WaitingText}
use Rattle.tangle_out.specs.inner.Advance.{text_with, with_more, from_place, IsBounded}
use Rattle.tangle_out.proofs.ClausesLemmas.{IsBounded-cut}
use Rattle.tangle_out.proofs.packing.Packer.cut_line.Goals as goal

pub returns-in_err-write_line-clause-failed : goal.returns-in_err-write_line-clause-failed
returns-in_err-write_line-clause-failed g c =
    rw (← c.self.view_is)
    (λ failed. (
      c.in-Ok.cut,
      (
        sym c.place_of_cut.ensures ∙ c.in-Ok.is,
        rw (← c.text.ensures) c.in_err-write_line.ensures.failed,
      ),
    ))

pub invariant_of-self : goal.invariant_of-self
invariant_of-self g c =
    let piece : Piece = piece_of c.args.piece.now in
    let waiting : WaitingText = c.self.inside.waiting in
    let left : c.drop_line.new.self ≡ from_place (after_cut (text_with waiting piece) c.in-Ok.cut)
    (with_more waiting piece) =
    c.drop_line.ensures ∙ ap (λ (w : WaitingText). from_place (after_cut w.text c.in-Ok.cut) w) c.add.ensures in
    subst (λ (w : WaitingText). IsBounded WIDTH w) (sym left)
    (IsBounded-cut WIDTH waiting piece c.in-Ok.cut c.self.invariant (sym c.place_of_cut.ensures ∙ c.in-Ok.is))
