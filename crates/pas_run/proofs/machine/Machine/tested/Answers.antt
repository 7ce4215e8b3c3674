use Rattle.std.proofs.Common.{rules, ◌≡◌, ◌∙◌, subst, sym, ap, to_z, of_z, w32}
use Rattle.std.proofs.lemmas.Result.{err_from_is_err_and}
use Rattle.pas_typed.specs.Typed as typed
use Rattle.pas_typed.specs.Typed.{Slot}
use Rattle.pas_typed.specs.TypedViews.{slot_view, file_test_view, place_view, program_view}
use Rattle.pas_meaning.specs.Answers.{fine}
use Rattle.pas_meaning.specs.Run.{file_of, test_of}
use Rattle.pas_run.specs.inner.Doings.{Same, IsNumber}
use Rattle.pas_run.specs.inner.Scenes.{IsFileSlot}
use Rattle.pas_run.specs.inner.Evaluating.{value_of}
use Rattle.pas_run.proofs.DoesLemmas.{does_question, does_early}
use Rattle.pas_run.proofs.TestLemmas.{file_slot, asked_no_file, asked_file, test_no_variable, test_stop, test_next}
use Rattle.pas_run.proofs.machine.Machine.tested.Goals as goal

pub returns-in_err-slot-clause-does : goal.returns-in_err-slot-clause-does
returns-in_err-slot-clause-does g c variables result kinds at is most =
    let program = program_view c.args.scene.program.now in
    let test = file_test_view c.args.test in
    let place = place_view c.args.place.now in
    does_early most kinds kinds IsNumber (value_of program most (typed.tested test place)) c.args.self.now
    c.args.self.now c.in_err-slot.field-0.0 c.from_residual.result (err_from_is_err_and _ c.from_residual.ensures.1)
    (test_no_variable most kinds place (test_of test) c.args.self.now c.in_err-slot.field-0.0
    c.in_err-slot.ensures.variable)

pub returns-in_err-file-clause-does : goal.returns-in_err-file-clause-does
returns-in_err-file-clause-does g c variables result kinds at is most =
    let program = program_view c.args.scene.program.now in
    let test = file_test_view c.args.test in
    let place = place_view c.args.place.now in
    let slot : Slot = c.in_ok-slot.ensures.variable.0 in
    let file_is : IsFileSlot program variables (slot_view c.in_ok-slot.slot) =
    subst (IsFileSlot program variables) (sym c.in_ok-slot.ensures.variable.2)
    (file_slot program variables place slot c.in_ok-slot.ensures.variable.1 is.0) in
    does_early most kinds kinds IsNumber (value_of program most (typed.tested test place)) c.args.self.now
    c.args.self.now c.in_err-file.field-0.0 c.from_residual-in_err-file.result
    (err_from_is_err_and _ c.from_residual-in_err-file.ensures.1)
    (test_stop most kinds place (test_of test) c.args.self.now (slot_view c.in_ok-slot.slot)
    (c.in_ok-slot.ensures.variable.1 ∙ ap fine (sym c.in_ok-slot.ensures.variable.2)) c.args.self.now
    c.in_err-file.field-0.0
    (asked_no_file most kinds (slot_view c.in_ok-slot.slot) (test_of test) c.args.self.now c.in_err-file.field-0.0
    (does_question most kinds Same (file_of (slot_view c.in_ok-slot.slot)) c.args.self.now _
    (c.in_err-file.ensures.file variables result kinds at file_is))))

pub returns-in_err-found-clause-does : goal.returns-in_err-found-clause-does
returns-in_err-found-clause-does g c variables result kinds at is most =
    let program = program_view c.args.scene.program.now in
    let test = file_test_view c.args.test in
    let place = place_view c.args.place.now in
    let slot : Slot = c.in_ok-slot.ensures.variable.0 in
    let file_is : IsFileSlot program variables (slot_view c.in_ok-slot.slot) =
    subst (IsFileSlot program variables) (sym c.in_ok-slot.ensures.variable.2)
    (file_slot program variables place slot c.in_ok-slot.ensures.variable.1 is.0) in
    does_early most kinds kinds IsNumber (value_of program most (typed.tested test place)) c.args.self.now
    c.asked.new.self c.in_err-found.field-0.0 c.from_residual-in_err-found.result
    (err_from_is_err_and _ c.from_residual-in_err-found.ensures.1)
    (test_stop most kinds place (test_of test) c.args.self.now (slot_view c.in_ok-slot.slot)
    (c.in_ok-slot.ensures.variable.1 ∙ ap fine (sym c.in_ok-slot.ensures.variable.2)) c.asked.new.self
    c.in_err-found.field-0.0
    (asked_file most kinds (slot_view c.in_ok-slot.slot) (test_of test) c.args.self.now c.asked.new.self
    c.in_ok-file.file _
    (does_question most kinds Same (file_of (slot_view c.in_ok-slot.slot)) c.args.self.now _
    (c.in_ok-file.ensures.file variables result kinds at file_is)) (c.in_err-found.ensures.does most kinds)))

pub returns-clause-does : goal.returns-clause-does
returns-clause-does g c variables result kinds at is most =
    let program = program_view c.args.scene.program.now in
    let test = file_test_view c.args.test in
    let place = place_view c.args.place.now in
    let slot : Slot = c.in_ok-slot.ensures.variable.0 in
    let file_is : IsFileSlot program variables (slot_view c.in_ok-slot.slot) =
    subst (IsFileSlot program variables) (sym c.in_ok-slot.ensures.variable.2)
    (file_slot program variables place slot c.in_ok-slot.ensures.variable.1 is.0) in
    let number : to_z w32 (of_z w32 c.number_of.result) ≡ c.number_of.result = search rules in
    test_next most kinds place (test_of test) c.args.self.now (slot_view c.in_ok-slot.slot)
    (c.in_ok-slot.ensures.variable.1 ∙ ap fine (sym c.in_ok-slot.ensures.variable.2)) c.asked.new.self
    c.in_ok-found.found _
    (asked_file most kinds (slot_view c.in_ok-slot.slot) (test_of test) c.args.self.now c.asked.new.self
    c.in_ok-file.file _
    (does_question most kinds Same (file_of (slot_view c.in_ok-slot.slot)) c.args.self.now _
    (c.in_ok-file.ensures.file variables result kinds at file_is)) (c.in_ok-found.ensures.does most kinds))
    (number ∙ c.number_of.ensures)
