use Rattle.std.proofs.Common.{length}
use Rattle.pas_tokens.specs.declared.kinds.Kind.TheVariants as k
use Rattle.pas_syntax.specs.ProgramViews.{variable_row_in}
use Rattle.pas_syntax.specs.inner.DeclarationReaders.{variable_row_behind}
use Rattle.pas_syntax.proofs.RowSteps.{rows_so_far}
use Rattle.pas_syntax.proofs.declarations.variable_rows.Given as goal

abbrev pub invariant-more : goal.invariant-more
invariant-more l = rows_so_far variable_row_in (λ m. variable_row_behind m) k.Var l.fn.reader l.reader l.line
    l.first l.more

abbrev pub decreases-more : goal.decreases-more
decreases-more l = length l.reader.tokens
