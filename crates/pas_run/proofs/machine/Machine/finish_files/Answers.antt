use Rattle.std.proofs.Common.{refl, ap, ◌+◌, ◌∙◌, arith}
use Rattle.pas_run.specs.inner.MachineState.{MachineState}
use Rattle.pas_run.proofs.DoesLemmas.{counts_on}
use Rattle.pas_run.proofs.RunLemmas.{as_many_files}
use Rattle.pas_run.proofs.EndingLemmas.{finished_one, finished_all, finished_shown, as_many_inside}
use Rattle.pas_run.proofs.machine.Machine.finish_files.Goals as goal

pub loop-number-init : goal.loop-number-init
loop-number-init g c = (refl, refl)

pub loop-number-preserved : goal.loop-number-preserved
loop-number-preserved g c =
    let many = as_many_files c.loop-number.self.files c.args.self.now.files c.loop-number.invariant.1 in
    let inside = as_many_inside c.self.inside.files.items _ c.args.self.now.files
    (ap (λ (machine : MachineState). machine.files) c.self.view_is) in (
      finished_one c.loop-number.number c.args.self.now.files c.loop-number.self.files c.finish_file.new.self.files
          c.loop-number.invariant.0
          (omega (arith, many, inside, c.loop-number-test.true, c.len-number-end.ensures))
          c.finish_file.ensures.finished,
      c.in_ok-finish_file.ensures.cause ∙ c.loop-number.invariant.1,
    )

pub returns-in_err-finish_file-clause-shown : goal.returns-in_err-finish_file-clause-shown
returns-in_err-finish_file-clause-shown g c bytes shown =
    let inside = as_many_inside c.self.inside.files.items _ c.args.self.now.files
    (ap (λ (machine : MachineState). machine.files) c.self.view_is) in
    finished_shown (c.loop-number.number + 1) c.args.self.now.files c.finish_file.new.self.files bytes
    (finished_one c.loop-number.number c.args.self.now.files c.loop-number.self.files c.finish_file.new.self.files
    c.loop-number.invariant.0 (omega (arith, inside, c.loop-number-test.true, c.len-number-end.ensures))
    c.finish_file.ensures.finished) shown

pub returns-clause-finished : goal.returns-clause-finished
returns-clause-finished g c =
    let inside = as_many_inside c.self.inside.files.items _ c.args.self.now.files
    (ap (λ (machine : MachineState). machine.files) c.self.view_is) in
    finished_all c.loop-number.number c.args.self.now.files c.loop-number.self.files c.loop-number.invariant.0
    (omega (arith, inside, c.loop-number-test.false, c.len-number-end.ensures))

pub returns-clause-shown : goal.returns-clause-shown
returns-clause-shown g c bytes shown =
    finished_shown c.loop-number.number c.args.self.now.files c.loop-number.self.files bytes
    c.loop-number.invariant.0 shown
