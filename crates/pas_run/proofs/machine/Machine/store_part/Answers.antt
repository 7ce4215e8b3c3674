use Rattle.std.proofs.Common.{rules, ◌≡◌, subst, sym, ap, ◌∙◌, Some, Ok, to_z, of_z, w32}
use Rattle.std.proofs.Math.Facts.{to_z-of_z}
use Rattle.pas_typed.specs.TypeViews.{type_view}
use Rattle.pas_typed.specs.TypedViews.{slot_view, program_view}
use Rattle.pas_meaning.specs.Store.{holds, fits}
use Rattle.pas_run.specs.inner.Doings.{IsNumber, Answers}
use Rattle.pas_run.proofs.StoringLemmas.{does_put}
use Rattle.pas_run.proofs.machine.Machine.store_part.Goals as goal

pub returns-clause-does : goal.returns-clause-does
returns-clause-does g c variables result kinds at is path leads most =
    let table = (program_view c.args.scene.program.now).types in
    let type = type_view c.args.pas_type in
    let checked : to_z w32 (of_z w32 c.in_ok-checked.checked) ≡ c.in_ok-checked.checked = search rules in
    does_put most kinds table type
    (slot_view c.args.slot) path c.args.number c.args.self.now c.set_number.new.self c.in_ok-checked.checked
    (subst (λ number. Answers IsNumber (fits table type (holds number)) (Ok c.in_ok-checked.checked))
    (to_z-of_z c.ranges.number) c.in_ok-checked.ensures.number) (λ datum one same.
    c.set_number.ensures.does variables result kinds at is path leads most datum one (same ∙ ap Some (sym checked)))
