use Rattle.std.proofs.Common.{subst, Ok}
use Rattle.std.proofs.Math.Facts.{to_z-of_z}
use Rattle.std.proofs.lemmas.Result.{err_from_is_err_and}
use Rattle.pas_typed.specs.TypeViews.{type_view}
use Rattle.pas_typed.specs.TypedViews.{slot_view, program_view}
use Rattle.pas_meaning.specs.Run.{window, file_of, store_at}
use Rattle.pas_meaning.specs.declared.errors.TheConstants.{OUT_OF_RANGE}
use Rattle.pas_meaning.specs.Answers.{then_answer}
use Rattle.pas_meaning.specs.Operands.{byte_of}
use Rattle.pas_meaning.specs.Store.{holds, fits}
use Rattle.pas_run.specs.inner.Doings.{Any, Same, Answers}
use Rattle.pas_run.proofs.DoesLemmas.{does_question, does_early}
use Rattle.pas_run.proofs.StoringLemmas.{does_set_no_file, does_set}
use Rattle.pas_run.proofs.machine.Machine.store_window.Goals as goal

pub returns-in_err-file-clause-does : goal.returns-in_err-file-clause-does
returns-in_err-file-clause-does g c variables result kinds at is type most =
    let table = (program_view c.args.scene.program.now).types in
    let slot = slot_view c.args.slot in
    let component = type_view c.args.component in
    does_early most kinds kinds Any (store_at table type (window slot component) (holds c.args.number))
    c.args.self.now c.args.self.now c.in_err-file.field-0.0 c.from_residual-in_err-file.result
    (err_from_is_err_and _ c.from_residual-in_err-file.ensures.1)
    (does_set_no_file table type component slot most kinds (holds c.args.number) c.args.self.now c.in_ok-byte.byte
    (subst (λ number. Answers Same (then_answer (fits table component (holds number)) (byte_of OUT_OF_RANGE))
    (Ok c.in_ok-byte.byte)) (to_z-of_z c.ranges.number) c.in_ok-byte.ensures.byte) c.in_err-file.field-0.0
    (does_question most kinds Same (file_of slot) c.args.self.now _
    (c.in_err-file.ensures.file variables result kinds at is)))

pub returns-clause-does : goal.returns-clause-does
returns-clause-does g c variables result kinds at is type most =
    let table = (program_view c.args.scene.program.now).types in
    let slot = slot_view c.args.slot in
    let component = type_view c.args.component in
    does_set table type component slot most kinds (holds c.args.number) c.args.self.now c.in_ok-byte.byte
    (subst (λ number. Answers Same (then_answer (fits table component (holds number)) (byte_of OUT_OF_RANGE))
    (Ok c.in_ok-byte.byte)) (to_z-of_z c.ranges.number) c.in_ok-byte.ensures.byte) c.buffer_set.new.self
    c.in_ok-file.file c.buffer_set.result
    (does_question most kinds Same (file_of slot) c.args.self.now _
    (c.in_ok-file.ensures.file variables result kinds at is)) (c.buffer_set.ensures.does most kinds)
