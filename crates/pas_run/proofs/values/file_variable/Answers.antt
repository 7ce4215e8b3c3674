use Rattle.std.proofs.Common.{◌≡◌, Bool, true, false, refl}
use Rattle.pas_typed.specs.TypedViews.{slot_view}
use Rattle.pas_run.proofs.TestLemmas.{some_parts, whole_variable}
use Rattle.pas_run.proofs.values.file_variable.Goals as goal

true_false : (is : Bool) → is ≡ true → is ≡ false → ⊥
true_false is h k = cc

pub returns-then-is_empty-clause-variable : goal.returns-then-is_empty-clause-variable
returns-then-is_empty-clause-variable c = (
  slot_view c.args.place.now.slot,
  whole_variable c.args.place.now (c.is_empty.ensures.0 c.if-is_empty.true),
  refl,
)

pub returns-else-is_empty-clause-variable : goal.returns-else-is_empty-clause-variable
returns-else-is_empty-clause-variable c =
    some_parts c.args.place.now
    (λ empty. true_false c.is_empty.result (c.is_empty.ensures.1 empty) c.if-is_empty.false)
