use Rattle.std.proofs.Common.{length}
use Rattle.pas_syntax.specs.Views.{numeral_in}
use Rattle.pas_syntax.specs.inner.StatementReaders.{numeral}
use Rattle.pas_syntax.proofs.ItemSteps.{items_so_far}
use Rattle.pas_syntax.proofs.declarations.numerals.Given as goal

abbrev pub invariant-more : goal.invariant-more
invariant-more l = items_so_far (λ s. numeral_in) (λ m. numeral) l.fn.reader l.reader l.first l.more

abbrev pub decreases-more : goal.decreases-more
decreases-more l = length l.reader.tokens
