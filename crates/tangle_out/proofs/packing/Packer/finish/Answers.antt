use Rattle.tangle_out.specs.declared.packing.TheConstants.{WIDTH}
use Rattle.tangle_out.specs.Packing.{forced_line}
use Rattle.tangle_out.specs.Packer.{PackerState}
use Rattle.tangle_out.specs.inner.Advance.{forced}
use Rattle.tangle_out.proofs.ClausesLemmas.{on_ok-map, on_err-map}
use Rattle.tangle_out.proofs.StandsLemmas.{Pushes, Pushes-forced, counted-forced, forced-idle}
use Rattle.tangle_out.proofs.packing.Packer.finish.Goals as goal

pub returns-clause-gained : goal.returns-clause-gained
returns-clause-gained g c =
    let state : PackerState = c.args.self.now in
    on_ok-map c.force_line.result
    (λ ok pieces stands.
    let pushes : Pushes WIDTH state pieces forced_line (forced state) = Pushes-forced WIDTH state pieces stands in
    ((forced state).lines, (pushes.finishes, ok.1)))
    c.force_line.ensures.ok

pub returns-clause-counted : goal.returns-clause-counted
returns-clause-counted g c =
    let state : PackerState = c.args.self.now in
    on_ok-map c.force_line.result
    (λ ok pieces stands. counted-forced WIDTH state c.force_line.new.self pieces stands ok.0)
    c.force_line.ensures.ok

pub returns-clause-failed : goal.returns-clause-failed
returns-clause-failed g c =
    let state : PackerState = c.args.self.now in
    on_err-map c.force_line.result
    (λ failed pieces stands.
    let pushes : Pushes WIDTH state pieces forced_line (forced state) = Pushes-forced WIDTH state pieces stands in
    ((forced state).lines, (pushes.finishes, failed)))
    c.force_line.ensures.failed

pub returns-clause-idle : goal.returns-clause-idle
returns-clause-idle g c = λ pieces stands none.
    c.force_line.ensures.idle (forced-idle WIDTH c.args.self.now pieces stands none)
