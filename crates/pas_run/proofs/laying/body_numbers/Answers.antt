use Rattle.std.proofs.Common.{subst, sym, List, ℕ, ◌+◌}
use Rattle.pas_run.proofs.LayingLemmas.{NumbersSoFar, numbers_next}
use Rattle.pas_run.proofs.laying.body_numbers.Goals as goal

pub loop-routine-preserved : goal.loop-routine-preserved
loop-routine-preserved c =
    let i = c.loop-routine.routine in
    subst (λ (numbers : List ℕ). NumbersSoFar c.args.program.now numbers (i + 1)) (sym c.in_ok-push.ensures.ok)
    (numbers_next c.args.program.now c.loop-routine.numbers i c.in_ok-number.number c.in_ok-number.ensures.found
    c.loop-routine.invariant)
