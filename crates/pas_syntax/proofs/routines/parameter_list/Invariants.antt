use Rattle.std.proofs.Common.{length}
use Rattle.pas_syntax.proofs.ParameterSteps.{parameters_so_far}
use Rattle.pas_syntax.proofs.routines.parameter_list.Given as goal

abbrev pub invariant-more : goal.invariant-more
invariant-more l = parameters_so_far l.fn.reader l.reader l.first l.more

abbrev pub decreases-more : goal.decreases-more
decreases-more l = length l.reader.tokens
