use Rattle.std.proofs.Common.{◌≡◌, ◌<◌, ℕ, List, false, Ok, length, sym, ◌∙◌}
use Rattle.wb_ports.specs.Held.{Gains}
use Rattle.tangle_out.specs.declared.packing.TheConstants.{WIDTH}
use Rattle.tangle_out.specs.Pieces.{Piece, piece_of}
use Rattle.tangle_out.specs.Packing.{is_forced_line}
use Rattle.tangle_out.specs.Packer.{PackerState}
use Rattle.tangle_out.specs.inner.Advance.{advanced, forced, cut, text_with}
use Rattle.tangle_out.proofs.ClausesLemmas.{on_ok-map, of_err, advanced-forced, advanced-at_cut, advanced-made}
use Rattle.tangle_out.proofs.packing.Packer.advance.Goals as goal

pub returns-then-is_forced_line-clause-ok : goal.returns-then-is_forced_line-clause-ok
returns-then-is_forced_line-clause-ok g c =
    let state : PackerState = c.args.self.now in
    let piece : Piece = piece_of c.args.piece.now in
    let made : advanced WIDTH state piece ≡ Ok (forced state) =
    advanced-forced WIDTH state piece (sym c.is_forced_line.ensures ∙ c.if-is_forced_line.true) in
    on_ok-map c.force_line.result
    (λ ok. advanced-made WIDTH state c.force_line.new.self piece (forced state)
    (λ (text : List ℕ). Gains text (g.K.Sink.held c.args.sink.now) (g.K.Sink.held c.force_line.new.sink)) made ok.0
    ok.1)
    c.force_line.ensures.ok

pub returns-then-is_forced_line-clause-failed : goal.returns-then-is_forced_line-clause-failed
returns-then-is_forced_line-clause-failed g c =
    let state : PackerState = c.args.self.now in
    let piece : Piece = piece_of c.args.piece.now in
    let made : advanced WIDTH state piece ≡ Ok (forced state) =
    advanced-forced WIDTH state piece (sym c.is_forced_line.ensures ∙ c.if-is_forced_line.true) in
    λ failed. (forced state, (made, of_err c.force_line.result _ failed c.force_line.ensures.failed))

pub returns-then-length_with-gt-WIDTH-clause-ok : goal.returns-then-length_with-gt-WIDTH-clause-ok
returns-then-length_with-gt-WIDTH-clause-ok g c =
    let state : PackerState = c.args.self.now in
    let piece : Piece = piece_of c.args.piece.now in
    let no : is_forced_line piece.kind ≡ false = sym c.is_forced_line.ensures ∙ c.if-is_forced_line.false in
    let passes : WIDTH < length (text_with state.waiting piece) =
    rw (← c.self.view_is, ← c.length_with.ensures) c.if-length_with-gt-WIDTH.true in
    (on_ok-map c.cut_line.result
    (λ ok. advanced-made WIDTH state c.cut_line.new.self piece (cut state piece ok.0)
    (λ (text : List ℕ). Gains text (g.K.Sink.held c.args.sink.now) (g.K.Sink.held c.cut_line.new.sink))
    (advanced-at_cut WIDTH state piece ok.0 no passes ok.1.0) ok.1.1.0 ok.1.1.1)
    c.cut_line.ensures.ok)

pub returns-then-length_with-gt-WIDTH-clause-failed : goal.returns-then-length_with-gt-WIDTH-clause-failed
returns-then-length_with-gt-WIDTH-clause-failed g c =
    let state : PackerState = c.args.self.now in
    let piece : Piece = piece_of c.args.piece.now in
    let no : is_forced_line piece.kind ≡ false = sym c.is_forced_line.ensures ∙ c.if-is_forced_line.false in
    let passes : WIDTH < length (text_with state.waiting piece) =
    rw (← c.self.view_is, ← c.length_with.ensures) c.if-length_with-gt-WIDTH.true in
    (λ failed.
    let at_cut = c.cut_line.ensures.failed failed in
    (cut state piece at_cut.0, (advanced-at_cut WIDTH state piece at_cut.0 no passes at_cut.1.0, at_cut.1.1)))
