use Rattle.std.proofs.lemmas.Result.{err_from_is_err_and}
use Rattle.pas_typed.specs.TypedViews.{slot_view, file_step_view, program_view}
use Rattle.pas_meaning.specs.Run.{file_of, on_file}
use Rattle.pas_run.specs.inner.Doings.{Any, Same}
use Rattle.pas_run.specs.inner.Running.{step_of}
use Rattle.pas_run.proofs.DoesLemmas.{does_question, does_early}
use Rattle.pas_run.proofs.StatementLemmas.{goes_steps, on_no_file, on_its_file}
use Rattle.pas_run.proofs.machine.Machine.slot_step.Goals as goal

pub returns-in_err-file-clause-does : goal.returns-in_err-file-clause-does
returns-in_err-file-clause-does g c variables result kinds at is most =
    let program = program_view c.args.scene.program.now in
    let slot = slot_view c.args.slot in
    let step = file_step_view c.args.step in
    does_early most kinds kinds Any (on_file slot (step_of program most step)) c.args.self.now c.args.self.now
    c.in_err-file.field-0.0 c.from_residual.result (err_from_is_err_and _ c.from_residual.ensures.1)
    (on_no_file most kinds slot (step_of program most step) (goes_steps program most step) c.args.self.now
    c.in_err-file.field-0.0
    (does_question most kinds Same (file_of slot) c.args.self.now _
    (c.in_err-file.ensures.file variables result kinds at is)))

pub returns-clause-does : goal.returns-clause-does
returns-clause-does g c variables result kinds at is most =
    let program = program_view c.args.scene.program.now in
    let slot = slot_view c.args.slot in
    let step = file_step_view c.args.step in
    on_its_file most kinds slot (step_of program most step) (goes_steps program most step) c.args.self.now
    c.step.new.self c.in_ok-file.file c.step.result
    (does_question most kinds Same (file_of slot) c.args.self.now _
    (c.in_ok-file.ensures.file variables result kinds at is)) (c.step.ensures.does program most kinds)
