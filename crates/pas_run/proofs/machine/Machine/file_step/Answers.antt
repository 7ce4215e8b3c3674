use Rattle.std.proofs.Common.{subst, sym}
use Rattle.std.proofs.lemmas.Result.{err_from_is_err_and}
use Rattle.pas_typed.specs.Typed.{Slot}
use Rattle.pas_typed.specs.TypedViews.{slot_view, file_step_view, place_view, program_view}
use Rattle.pas_meaning.specs.Outcome.{◌>>=◌, answered}
use Rattle.pas_meaning.specs.Run.{file_variable, on_file}
use Rattle.pas_run.specs.inner.Doings.{Any, Does}
use Rattle.pas_run.specs.inner.Scenes.{IsFileSlot}
use Rattle.pas_run.specs.inner.Running.{step_of}
use Rattle.pas_run.proofs.DoesLemmas.{does_early}
use Rattle.pas_run.proofs.TestLemmas.{file_slot}
use Rattle.pas_run.proofs.StatementLemmas.{goes_slot_step, no_file_variable, its_file_variable}
use Rattle.pas_run.proofs.machine.Machine.file_step.Goals as goal

pub returns-in_err-slot-clause-does : goal.returns-in_err-slot-clause-does
returns-in_err-slot-clause-does g c variables result kinds at is most =
    let program = program_view c.args.scene.program.now in
    let place = place_view c.args.place.now in
    let step = file_step_view c.args.step in
    does_early most kinds kinds Any (answered (file_variable place) >>=
    (λ file. on_file file (step_of program most step)))
    c.args.self.now c.args.self.now c.in_err-slot.field-0.0 c.from_residual.result
    (err_from_is_err_and _ c.from_residual.ensures.1)
    (no_file_variable most kinds place (λ file. on_file file (step_of program most step)) c.args.self.now
    c.in_err-slot.field-0.0 (goes_slot_step program most step) c.in_err-slot.ensures.variable)

pub returns-clause-does : goal.returns-clause-does
returns-clause-does g c variables result kinds at is most =
    let program = program_view c.args.scene.program.now in
    let place = place_view c.args.place.now in
    let step = file_step_view c.args.step in
    let file_is : IsFileSlot program variables (slot_view c.in_ok-slot.slot) =
    subst (IsFileSlot program variables) (sym c.in_ok-slot.ensures.variable.2)
    (file_slot program variables place c.in_ok-slot.ensures.variable.0 c.in_ok-slot.ensures.variable.1 is) in
    its_file_variable most kinds place (λ file. on_file file (step_of program most step)) c.args.self.now
    c.slot_step.new.self c.in_ok-slot.slot c.slot_step.result c.in_ok-slot.ensures.variable
    (λ found same. subst (λ (file : Slot). Does most kinds kinds Any (on_file file (step_of program most step))
    c.args.self.now c.slot_step.new.self c.slot_step.result) same
    (c.slot_step.ensures.does variables result kinds at file_is most))
