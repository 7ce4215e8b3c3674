use Rattle.std.proofs.lemmas.Result.{err_from_is_err_and}
use Rattle.std.proofs.Common.{[], None, Some}
use Rattle.pas_typed.specs.TypedViews.{program_view}
use Rattle.pas_meaning.specs.declared.errors.TheConstants.{CALL_LIMIT}
use Rattle.pas_meaning.specs.Trial.{whole_run}
use Rattle.pas_run.specs.inner.Doings.{Any}
use Rattle.pas_run.proofs.DoesLemmas.{does_early}
use Rattle.pas_run.proofs.RunLemmas.{run_not_begun, run_stopped, run_done}
use Rattle.pas_run.proofs.machine.Machine.whole_run.Goals as goal

pub returns-in_err-begin_files-clause-does : goal.returns-in_err-begin_files-clause-does
returns-in_err-begin_files-clause-does g c kinds at most =
    let program = program_view c.args.scene.program.now in
    does_early most kinds kinds Any (whole_run (Some CALL_LIMIT) program most) c.args.self.now c.begin_files.new.self
    c.in_err-begin_files.field-0.0 c.from_residual.result (err_from_is_err_and _ c.from_residual.ensures.1)
    (run_not_begun program kinds most c.args.self.now c.begin_files.new.self c.in_err-begin_files.field-0.0
    (c.in_err-begin_files.ensures.does most kinds))

pub returns-in_err-compound-clause-does : goal.returns-in_err-compound-clause-does
returns-in_err-compound-clause-does g c kinds at most =
    let program = program_view c.args.scene.program.now in
    does_early most kinds kinds Any (whole_run (Some CALL_LIMIT) program most) c.args.self.now c.compound.new.self
    c.in_err-compound.field-0.0 c.from_residual-in_err-compound.result
    (err_from_is_err_and _ c.from_residual-in_err-compound.ensures.1)
    (run_stopped program kinds most c.args.self.now c.begin_files.new.self
    (c.in_ok-begin_files.ensures.does most kinds) c.compound.new.self c.in_err-compound.field-0.0
    (c.in_err-compound.ensures.does [] None kinds at at.lawful.statements most))

pub returns-clause-does : goal.returns-clause-does
returns-clause-does g c kinds at most =
    let program = program_view c.args.scene.program.now in
    run_done program kinds most c.args.self.now c.begin_files.new.self
    (c.in_ok-begin_files.ensures.does most kinds) c.compound.new.self c.in_ok-compound.field-0
    (c.in_ok-compound.ensures.does [] None kinds at at.lawful.statements most)
