use Rattle.std.proofs.Common.{length}
use Rattle.pas_syntax.specs.Views.{simple_in}
use Rattle.pas_syntax.specs.inner.TypeReaders.{simple}
use Rattle.pas_syntax.proofs.ItemSteps.{items_so_far}
use Rattle.pas_syntax.proofs.type_forms.simples.Given as goal

abbrev pub invariant-more : goal.invariant-more
invariant-more l = items_so_far simple_in (λ m. simple) l.fn.reader l.reader l.first l.more

abbrev pub decreases-more : goal.decreases-more
decreases-more l = length l.reader.tokens
