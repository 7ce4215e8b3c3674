use Rattle.std.proofs.Common.{length}
use Rattle.pas_syntax.proofs.RoutineSteps.{routines_so_far}
use Rattle.pas_syntax.proofs.routines.routines.Given as goal

abbrev pub invariant-more : goal.invariant-more
invariant-more l = routines_so_far l.fn.reader l.reader l.all

abbrev pub decreases-more : goal.decreases-more
decreases-more l = length l.reader.tokens
