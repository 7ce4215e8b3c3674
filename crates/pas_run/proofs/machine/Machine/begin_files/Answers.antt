use Rattle.std.proofs.Common.{refl, ◌∙◌, get_or, arith}
use Rattle.std.proofs.lemmas.Result.{err_from_is_err_and}
use Rattle.pas_typed.specs.TypedViews.{program_view}
use Rattle.pas_meaning.specs.Trial.{begin_files, no_variable, parameters_of}
use Rattle.pas_run.specs.inner.Doings.{Any}
use Rattle.pas_run.proofs.DoesLemmas.{does_early}
use Rattle.pas_run.proofs.RunLemmas.{leads_none, leads_next, leads_stop, leads_all, parameter_there}
use Rattle.pas_run.proofs.RunLemmas.{length-parameters}
use Rattle.pas_run.proofs.machine.Machine.begin_files.Goals as goal

pub loop-number-init : goal.loop-number-init
loop-number-init g c =
    (λ kinds. leads_none (parameters_of (program_view c.args.program.now)) kinds c.args.self.now, refl)

pub loop-number-preserved : goal.loop-number-preserved
loop-number-preserved g c =
    let program = program_view c.args.program.now in
    let i = c.loop-number.number in
    let found = get_or (parameters_of program) i no_variable in
    let there = parameter_there program i (omega (arith, c.loop-number-test.true, c.len-number-end.ensures)) in (
      λ kinds. leads_next (parameters_of program) kinds c.args.self.now i c.loop-number.self
          (c.loop-number.invariant.0 kinds) found there c.name_of.result.now (c.name_of.ensures found there)
          c.begin_file.new.self (λ most. c.in_ok-begin_file.ensures.does most kinds),
      c.in_ok-begin_file.ensures.cause ∙ c.loop-number.invariant.1,
    )

pub returns-in_err-begin_file-clause-does : goal.returns-in_err-begin_file-clause-does
returns-in_err-begin_file-clause-does g c most kinds =
    let program = program_view c.args.program.now in
    let i = c.loop-number.number in
    let found = get_or (parameters_of program) i no_variable in
    let there = parameter_there program i (omega (arith, c.loop-number-test.true, c.len-number-end.ensures)) in
    does_early most kinds kinds Any (begin_files 0 (parameters_of program)) c.args.self.now c.begin_file.new.self
    c.in_err-begin_file.field-0.0 c.from_residual.result (err_from_is_err_and _ c.from_residual.ensures.1)
    (leads_stop (parameters_of program) kinds c.args.self.now i c.loop-number.self (c.loop-number.invariant.0 kinds)
    found there c.name_of.result.now (c.name_of.ensures found there) c.begin_file.new.self
    c.in_err-begin_file.field-0.0 (λ most. c.in_err-begin_file.ensures.does most kinds) most)

pub returns-clause-does : goal.returns-clause-does
returns-clause-does g c most kinds =
    let program = program_view c.args.program.now in
    leads_all (parameters_of program) kinds c.args.self.now c.loop-number.number c.loop-number.self
    (c.loop-number.invariant.0 kinds)
    (omega (arith, c.loop-number-test.false, c.len-number-end.ensures, length-parameters program)) most
