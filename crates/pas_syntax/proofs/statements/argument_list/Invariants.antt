use Rattle.std.proofs.Common.{length}
use Rattle.pas_syntax.specs.ProgramViews.{argument_in}
use Rattle.pas_syntax.specs.inner.StatementReaders.{argument_by}
use Rattle.pas_syntax.proofs.ItemSteps.{items_so_far}
use Rattle.pas_syntax.proofs.statements.argument_list.Given as goal

abbrev pub invariant-more : goal.invariant-more
invariant-more l =
    items_so_far argument_in (λ m. argument_by m l.depth.forms) l.fn.reader l.reader l.first l.more

abbrev pub decreases-more : goal.decreases-more
decreases-more l = length l.reader.tokens
