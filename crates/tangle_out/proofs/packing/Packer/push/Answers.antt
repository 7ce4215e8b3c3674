use Rattle.wb_base.specs.declared.faults.TheConstants.{LINE_NOT_CUT}
use Rattle.tangle_out.specs.declared.packing.TheConstants.{WIDTH}
use Rattle.tangle_out.specs.Pieces.{Piece, piece_of}
use Rattle.tangle_out.specs.Packer.{PackerState}
use Rattle.tangle_out.specs.inner.Advance.{Advanced}
use Rattle.tangle_out.proofs.ClausesLemmas.{on_ok-map}
use Rattle.tangle_out.proofs.StandsLemmas.{Pushes, Pushes-advanced, fault-advanced, advanced-fault, advanced-idle}
use Rattle.tangle_out.proofs.packing.Packer.push.Goals as goal

pub returns-clause-gained : goal.returns-clause-gained
returns-clause-gained g c =
    let state : PackerState = c.args.self.now in
    let piece : Piece = piece_of c.args.piece in
    on_ok-map c.advance.result
    (λ ok pieces stands.
    let next : Advanced = record { state = c.advance.new.self; lines = ok.0 } in
    let pushes : Pushes WIDTH state pieces piece next = Pushes-advanced WIDTH state pieces piece next stands ok.1.0 in
    (ok.0, (pushes.finishes, ok.1.1)))
    c.advance.ensures.ok

pub returns-clause-stands : goal.returns-clause-stands
returns-clause-stands g c =
    let state : PackerState = c.args.self.now in
    let piece : Piece = piece_of c.args.piece in
    on_ok-map c.advance.result
    (λ ok pieces stands.
    let next : Advanced = record { state = c.advance.new.self; lines = ok.0 } in
    let pushes : Pushes WIDTH state pieces piece next = Pushes-advanced WIDTH state pieces piece next stands ok.1.0 in
    pushes.stands)
    c.advance.ensures.ok

pub returns-clause-fault : goal.returns-clause-fault
returns-clause-fault g c = λ pieces stands. (
  λ shown. fault-advanced WIDTH LINE_NOT_CUT c.args.self.now pieces (piece_of c.args.piece) stands
      (c.advance.ensures.shown.0 shown),
  λ given. c.advance.ensures.shown.1
      (advanced-fault WIDTH LINE_NOT_CUT c.args.self.now pieces (piece_of c.args.piece) stands given),
)

pub returns-clause-failed : goal.returns-clause-failed
returns-clause-failed g c = λ failed pieces stands.
    let at_failure = c.advance.ensures.failed failed in
    let pushes : Pushes WIDTH c.args.self.now pieces (piece_of c.args.piece) at_failure.0 =
    Pushes-advanced WIDTH c.args.self.now pieces (piece_of c.args.piece) at_failure.0 stands at_failure.1.0 in
    (at_failure.0.lines, (pushes.finishes, at_failure.1.1))

pub returns-clause-idle : goal.returns-clause-idle
returns-clause-idle g c = λ pieces stands none.
    let made = advanced-idle WIDTH c.args.self.now pieces (piece_of c.args.piece) stands none in
    c.advance.ensures.idle made.0 made.1
