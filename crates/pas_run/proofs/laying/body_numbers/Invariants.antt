use Rattle.pas_run.proofs.LayingLemmas.{NumbersSoFar}
use Rattle.pas_run.proofs.laying.body_numbers.Given as goal

abbrev pub invariant-loop-routine : goal.invariant-loop-routine
invariant-loop-routine l = NumbersSoFar l.program l.numbers l.routine
