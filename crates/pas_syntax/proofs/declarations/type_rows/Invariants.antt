use Rattle.std.proofs.Common.{length}
use Rattle.pas_tokens.specs.declared.kinds.Kind.TheVariants as k
use Rattle.pas_syntax.specs.ProgramViews.{type_row_in}
use Rattle.pas_syntax.specs.inner.DeclarationReaders.{type_row_behind}
use Rattle.pas_syntax.proofs.RowSteps.{rows_so_far}
use Rattle.pas_syntax.proofs.declarations.type_rows.Given as goal

abbrev pub invariant-more : goal.invariant-more
invariant-more l = rows_so_far type_row_in type_row_behind k.Type l.fn.reader l.reader l.line l.first l.more

abbrev pub decreases-more : goal.decreases-more
decreases-more l = length l.reader.tokens
