use Rattle.std.proofs.Common.{arith, refl}
use Rattle.pas_typed.specs.TypedViews.{slot_view}
use Rattle.pas_run.proofs.TestLemmas.{below_one, below_others}
use Rattle.pas_run.proofs.selectors.file_below.Goals as goal

pub returns-then-len-eq1-clause-variable : goal.returns-then-len-eq1-clause-variable
returns-then-len-eq1-clause-variable c file type is = (
  slot_view c.args.place.now.slot,
  below_one c.args.place.now file type is (omega (arith, c.len.ensures, c.if-len-eq1.true)),
  refl,
)

pub returns-else-len-eq1-clause-variable : goal.returns-else-len-eq1-clause-variable
returns-else-len-eq1-clause-variable c file type is =
    below_others c.args.place.now file type is (λ one. c.if-len-eq1.false (omega (arith, c.len.ensures, one)))
