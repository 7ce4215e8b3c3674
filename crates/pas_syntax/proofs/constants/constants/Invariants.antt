use Rattle.std.proofs.Common.{length}
use Rattle.pas_syntax.specs.Views.{constant_in}
use Rattle.pas_syntax.specs.inner.TypeReaders.{constant}
use Rattle.pas_syntax.proofs.ItemSteps.{items_so_far}
use Rattle.pas_syntax.proofs.constants.constants.Given as goal

abbrev pub invariant-more : goal.invariant-more
invariant-more l = items_so_far constant_in (λ m. constant) l.fn.reader l.reader l.first l.more

abbrev pub decreases-more : goal.decreases-more
decreases-more l = length l.reader.tokens
