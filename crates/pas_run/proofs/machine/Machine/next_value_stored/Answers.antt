use Rattle.std.proofs.Common.{◌≡◌, ℤ, [], Ok, Err, ap, sym, subst, refl, rules, to_z, of_z, w32, w64, ◌∙◌}
use Rattle.std.proofs.Math.Facts.{to_z-of_z}
use Rattle.std.proofs.lemmas.Result.{err_from_is_err_and}
use Rattle.pas_typed.specs.TypedViews.{slot_view, program_view}
use Rattle.pas_meaning.specs.Store.{holds}
use Rattle.pas_meaning.specs.Arithmetic.{within_maxint}
use Rattle.pas_meaning.specs.Run.{part, store_at, next_value}
use Rattle.pas_run.specs.inner.Doings.{Any, Same, Does, Answers}
use Rattle.pas_run.specs.inner.Running.{IsFlow, next_stored_of}
use Rattle.pas_run.proofs.DoesLemmas.{does_early, quiet_early}
use Rattle.pas_run.proofs.StatementLemmas.{quiet_answer}
use Rattle.pas_run.proofs.LoopLemmas.{following_stop, following_next}
use Rattle.pas_run.proofs.machine.Machine.next_value_stored.Goals as goal

pub returns-in_err-following-clause-does : goal.returns-in_err-following-clause-does
returns-in_err-following-clause-does g c variables result kinds at is most =
    let program = program_view c.args.scene.program.now in
    let slot = slot_view c.args.slot in
    let number : to_z w64 (of_z w64 c.next_value.result) ≡ c.next_value.result = search rules in
    let value : to_z w64 (of_z w64 c.next_value.result) ≡ next_value c.args.way c.args.found =
    number ∙ c.next_value.ensures ∙ ap (next_value c.args.way) (to_z-of_z c.ranges.found) in
    does_early most kinds kinds IsFlow (next_stored_of program most slot c.args.way c.args.found) c.args.self.now
    c.args.self.now c.in_err-following.field-0.0 c.from_residual.result
    (err_from_is_err_and _ c.from_residual.ensures.1)
    (following_stop program most kinds slot c.args.way c.args.self.now c.args.found c.in_err-following.field-0.0
    (subst (λ (number : ℤ). Answers {T = ℤ} Same (within_maxint number) (Err c.in_err-following.field-0.0)) value
    c.in_err-following.ensures))

pub returns-clause-does : goal.returns-clause-does
returns-clause-does g c variables result kinds at is most =
    let program = program_view c.args.scene.program.now in
    let slot = slot_view c.args.slot in
    let number : to_z w64 (of_z w64 c.next_value.result) ≡ c.next_value.result = search rules in
    let value : to_z w64 (of_z w64 c.next_value.result) ≡ next_value c.args.way c.args.found =
    number ∙ c.next_value.ensures ∙ ap (next_value c.args.way) (to_z-of_z c.ranges.found) in
    let following : to_z w32 (of_z w32 c.in_ok-following.following) ≡ c.in_ok-following.following = search rules in
    subst (Does most kinds kinds IsFlow (next_stored_of program most slot c.args.way c.args.found) c.args.self.now
    c.store_at.new.self) (sym c.next_behind.ensures)
    (following_next program most kinds slot c.args.way c.args.self.now c.args.found c.in_ok-following.following
    c.store_at.new.self c.store_at.result
    (subst (λ (number : ℤ). Answers Same (within_maxint number) (Ok c.in_ok-following.following)) value
    c.in_ok-following.ensures)
    (subst (λ (number : ℤ). Does most kinds kinds Any (store_at program.types slot.type (part slot []) (holds number))
    c.args.self.now c.store_at.new.self c.store_at.result) following
    (c.store_at.ensures.does variables result kinds at (part slot []) (refl, is.0, is.1, refl, refl) most)))

pub returns-in_err-following-clause-cause : goal.returns-in_err-following-clause-cause
returns-in_err-following-clause-cause g c =
    quiet_early c.args.self.now.files c.in_err-following.field-0.0 c.from_residual.result
    (err_from_is_err_and _ c.from_residual.ensures.1)
    (quiet_answer {T = ℤ} Same _ c.in_err-following.field-0.0 c.in_err-following.ensures)
