use Rattle.std.proofs.Common.{length}
use Rattle.pas_syntax.specs.Views.{ident_in}
use Rattle.pas_syntax.specs.inner.Readers.{ident}
use Rattle.pas_syntax.proofs.ItemSteps.{items_so_far}
use Rattle.pas_syntax.proofs.type_forms.idents.Given as goal

abbrev pub invariant-more : goal.invariant-more
invariant-more l = items_so_far ident_in (λ m. ident) l.fn.reader l.reader l.first l.more

abbrev pub decreases-more : goal.decreases-more
decreases-more l = length l.reader.tokens
