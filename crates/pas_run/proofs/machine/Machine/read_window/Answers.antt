use Rattle.std.proofs.Common.{rules, ◌≡◌, subst, pos, to_z, of_z, w32}
use Rattle.std.proofs.lemmas.Result.{err_from_is_err_and}
use Rattle.pas_typed.specs.TypeViews.{type_view}
use Rattle.pas_typed.specs.TypedViews.{slot_view, program_view}
use Rattle.pas_meaning.specs.Outcome.{ask}
use Rattle.pas_meaning.specs.Run.{window, file_of, read_at}
use Rattle.pas_meaning.specs.Store.{holds, fits}
use Rattle.pas_run.specs.inner.Doings.{Same, IsNumber, Answers}
use Rattle.pas_run.proofs.DoesLemmas.{does_question, does_early, quiet_early}
use Rattle.pas_run.proofs.SpotLemmas.{does_window_no_file, does_window_no_byte, does_window}
use Rattle.pas_run.proofs.machine.Machine.read_window.Goals as goal

pub returns-in_err-file-clause-does : goal.returns-in_err-file-clause-does
returns-in_err-file-clause-does g c variables result kinds at is type most =
    let table = (program_view c.args.scene.program.now).types in
    let slot = slot_view c.args.slot in
    does_early most kinds kinds IsNumber (ask (read_at table type (window slot (type_view c.args.component))))
    c.args.self.now c.args.self.now c.in_err-file.field-0.0 c.from_residual.result
    (err_from_is_err_and _ c.from_residual.ensures.1)
    (does_window_no_file table type (type_view c.args.component) slot most kinds c.args.self.now
    c.in_err-file.field-0.0
    (does_question most kinds Same (file_of slot) c.args.self.now _
    (c.in_err-file.ensures.file variables result kinds at is)))

pub returns-in_err-file-clause-cause : goal.returns-in_err-file-clause-cause
returns-in_err-file-clause-cause g c =
    quiet_early c.args.self.now.files c.in_err-file.field-0.0 c.from_residual.result
    (err_from_is_err_and _ c.from_residual.ensures.1) c.in_err-file.ensures.quiet

pub returns-in_err-byte-clause-does : goal.returns-in_err-byte-clause-does
returns-in_err-byte-clause-does g c variables result kinds at is type most =
    let table = (program_view c.args.scene.program.now).types in
    let slot = slot_view c.args.slot in
    does_early most kinds kinds IsNumber (ask (read_at table type (window slot (type_view c.args.component))))
    c.args.self.now c.buffer_read.new.self c.in_err-byte.field-0.0 c.from_residual-in_err-byte.result
    (err_from_is_err_and _ c.from_residual-in_err-byte.ensures.1)
    (does_window_no_byte table type (type_view c.args.component) slot most kinds c.args.self.now
    c.buffer_read.new.self c.in_ok-file.file c.in_err-byte.field-0.0
    (does_question most kinds Same (file_of slot) c.args.self.now _
    (c.in_ok-file.ensures.file variables result kinds at is)) (c.in_err-byte.ensures.does most kinds))

pub returns-clause-does : goal.returns-clause-does
returns-clause-does g c variables result kinds at is type most =
    let table = (program_view c.args.scene.program.now).types in
    let slot = slot_view c.args.slot in
    let byte : to_z w32 (of_z w32 c.from.result) ≡ pos c.in_ok-byte.byte = search rules in
    does_window table type (type_view c.args.component) slot most kinds c.args.self.now c.buffer_read.new.self
    c.in_ok-file.file c.in_ok-byte.byte c.fits.result
    (does_question most kinds Same (file_of slot) c.args.self.now _
    (c.in_ok-file.ensures.file variables result kinds at is)) (c.in_ok-byte.ensures.does most kinds)
    (subst (λ number. Answers IsNumber (fits table (type_view c.args.component) (holds number)) c.fits.result) byte
    c.fits.ensures.number)
