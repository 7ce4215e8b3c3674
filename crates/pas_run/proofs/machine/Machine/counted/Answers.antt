use Rattle.std.proofs.Common.{◌≡◌, ℤ, [], Ok, Err, ap₂, sym, subst, rules, to_z, of_z, w32, ◌∙◌, true, false}
use Rattle.std.proofs.Math.Facts.{to_z-of_z}
use Rattle.std.proofs.lemmas.Result.{err_from_is_err_and}
use Rattle.pas_typed.specs.TypedViews.{slot_view, program_view}
use Rattle.pas_meaning.specs.Arithmetic.{is_same}
use Rattle.pas_run.specs.inner.Doings.{Does}
use Rattle.pas_run.specs.inner.Running.{IsFlow, counted_of, next_stored_of}
use Rattle.pas_run.proofs.DoesLemmas.{does_early}
use Rattle.pas_run.proofs.LoopLemmas.{ordinal_cell, counted_stop, counted_last, counted_on, counts}
use Rattle.pas_run.proofs.machine.Machine.counted.Goals as goal

pub returns-in_err-found-clause-does : goal.returns-in_err-found-clause-does
returns-in_err-found-clause-does g c variables result kinds at is most =
    let program = program_view c.args.scene.program.now in
    let slot = slot_view c.args.slot in
    does_early most kinds kinds IsFlow (counted_of program most slot c.args.way c.args.last) c.args.self.now
    c.args.self.now c.in_err-found.field-0.0 c.from_residual.result (err_from_is_err_and _ c.from_residual.ensures.1)
    (counted_stop program most kinds slot c.args.way c.args.self.now c.args.last c.in_err-found.field-0.0
    (counts program most kinds slot c.args.way c.args.self.now c.args.last (Err c.in_err-found.field-0.0)
    (c.in_err-found.ensures.number variables result kinds at is.0 [] (ordinal_cell program slot at.lawful is.1))))

pub returns-then-compared-clause-does : goal.returns-then-compared-clause-does
returns-then-compared-clause-does g c variables result kinds at is most =
    let program = program_view c.args.scene.program.now in
    let slot = slot_view c.args.slot in
    let found : to_z w32 (of_z w32 c.in_ok-found.found) ≡ c.in_ok-found.found = search rules in
    let same : is_same c.in_ok-found.found c.args.last ≡ true =
    ap₂ is_same (sym found) (sym (to_z-of_z c.ranges.last)) ∙ sym c.compared.ensures ∙ c.if-compared.true in
    counted_last program most kinds slot c.args.way c.args.self.now c.args.last c.in_ok-found.found
    (counts program most kinds slot c.args.way c.args.self.now c.args.last (Ok c.in_ok-found.found)
    (c.in_ok-found.ensures.number variables result kinds at is.0 [] (ordinal_cell program slot at.lawful is.1))) same

pub returns-else-compared-clause-does : goal.returns-else-compared-clause-does
returns-else-compared-clause-does g c variables result kinds at is most =
    let program = program_view c.args.scene.program.now in
    let slot = slot_view c.args.slot in
    let found : to_z w32 (of_z w32 c.in_ok-found.found) ≡ c.in_ok-found.found = search rules in
    let same : is_same c.in_ok-found.found c.args.last ≡ false =
    ap₂ is_same (sym found) (sym (to_z-of_z c.ranges.last)) ∙ sym c.compared.ensures ∙ c.if-compared.false in
    counted_on program most kinds slot c.args.way c.args.self.now c.args.last c.in_ok-found.found
    c.next_value_stored.new.self c.next_value_stored.result
    (counts program most kinds slot c.args.way c.args.self.now c.args.last (Ok c.in_ok-found.found)
    (c.in_ok-found.ensures.number variables result kinds at is.0 [] (ordinal_cell program slot at.lawful is.1))) same
    (subst (λ (number : ℤ). Does most kinds kinds IsFlow (next_stored_of program most slot c.args.way number)
    c.args.self.now c.next_value_stored.new.self c.next_value_stored.result) found
    (c.next_value_stored.ensures.does variables result kinds at is most))
