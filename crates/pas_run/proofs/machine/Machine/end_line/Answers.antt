use Rattle.std.proofs.lemmas.Result.{err_from_is_err_and}
use Rattle.pas_typed.specs.TypedViews.{slot_view}
use Rattle.pas_meaning.specs.Files as files
use Rattle.pas_meaning.specs.FileSteps.{append}
use Rattle.pas_meaning.specs.Run.{file_of, on_file}
use Rattle.pas_meaning.proofs.OnwardLemmas.{goes_append}
use Rattle.pas_run.specs.inner.Doings.{Any, Same}
use Rattle.pas_run.proofs.DoesLemmas.{does_question, does_early}
use Rattle.pas_run.proofs.StatementLemmas.{on_no_file, on_its_file}
use Rattle.pas_run.proofs.machine.Machine.end_line.Goals as goal

pub returns-in_err-file-clause-does : goal.returns-in_err-file-clause-does
returns-in_err-file-clause-does g c variables result kinds at is most =
    let slot = slot_view c.args.slot in
    does_early most kinds kinds Any (on_file slot (λ number. append number files.writeln)) c.args.self.now
    c.args.self.now
    c.in_err-file.field-0.0 c.from_residual.result (err_from_is_err_and _ c.from_residual.ensures.1)
    (on_no_file most kinds slot (λ number. append number files.writeln) (λ number. goes_append number files.writeln)
    c.args.self.now
    c.in_err-file.field-0.0
    (does_question most kinds Same (file_of slot) c.args.self.now _
    (c.in_err-file.ensures.file variables result kinds at is)))

pub returns-clause-does : goal.returns-clause-does
returns-clause-does g c variables result kinds at is most =
    let slot = slot_view c.args.slot in
    on_its_file most kinds slot (λ number. append number files.writeln) (λ number. goes_append number files.writeln)
    c.args.self.now
    c.writeln.new.self c.in_ok-file.file c.writeln.result
    (does_question most kinds Same (file_of slot) c.args.self.now _
    (c.in_ok-file.ensures.file variables result kinds at is)) (c.writeln.ensures.does most kinds)
