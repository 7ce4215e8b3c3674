use Rattle.std.proofs.Common.{rules, ◌≡◌, [], nat_abs, subst, to_z, of_z, w32}
use Rattle.std.proofs.lemmas.Result.{err_from_is_err_and}
use Rattle.pas_typed.specs.TypedViews.{slot_view, program_view}
use Rattle.pas_meaning.specs.FileSteps.{file_named}
use Rattle.pas_meaning.specs.Run.{file_of}
use Rattle.pas_run.specs.inner.Doings.{Same, Answers}
use Rattle.pas_run.proofs.DoesLemmas.{answers_early}
use Rattle.pas_run.proofs.PartLemmas.{file_cell, file_stop, file_next}
use Rattle.pas_run.proofs.machine.Machine.file_of.Goals as goal

pub returns-in_err-number_at-clause-file : goal.returns-in_err-number_at-clause-file
returns-in_err-number_at-clause-file g c variables result kinds at is ports run stands =
    let program = program_view c.args.scene.program.now in
    let slot = slot_view c.args.slot in
    answers_early Same (file_of slot run.store run.world) c.in_err-number_at.field-0.0 c.from_residual.result
    (err_from_is_err_and _ c.from_residual.ensures.1)
    (file_stop slot run.store run.world c.in_err-number_at.field-0.0
    (c.in_err-number_at.ensures.number variables result kinds at is.slot_is [] (file_cell program slot at.lawful
    is.file) ports
    run stands))

pub returns-clause-file : goal.returns-clause-file
returns-clause-file g c variables result kinds at is ports run stands =
    let program = program_view c.args.scene.program.now in
    let slot = slot_view c.args.slot in
    let number : to_z w32 (of_z w32 c.in_ok-number_at.field-0) ≡ c.in_ok-number_at.field-0 = search rules in
    file_next slot run.store run.world c.in_ok-number_at.field-0 c.file_named.result
    (c.in_ok-number_at.ensures.number variables result kinds at is.slot_is [] (file_cell program slot at.lawful
    is.file) ports
    run stands)
    (subst (λ number. Answers Same (file_named (nat_abs number) run.world) c.file_named.result) number
    (c.file_named.ensures.named ports run.world stands.world))
