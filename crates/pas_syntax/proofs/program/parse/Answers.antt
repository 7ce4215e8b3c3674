use Rattle.std.proofs.Common.{subst}
use Rattle.pas_syntax.specs.Parse.{Means}
use Rattle.pas_syntax.specs.ProgramViews.{program_in}
use Rattle.pas_syntax.proofs.TokenLemmas.{fine_tokens}
use Rattle.pas_syntax.proofs.program.parse.Goals as goal

pub spellings-requires : goal.spellings-requires
spellings-requires c = (fine_tokens c.args.text.now c.in_ok-cursor.cursor c.in_ok-cursor.ensures.ok).tokens

pub returns-clause-ok : goal.returns-clause-ok
returns-clause-ok c =
    subst (λ spellings. Means c.args.text.now (program_in spellings c.in_ok-tree.tree)) c.bytes.ensures
    c.in_ok-tree.ensures.ok

pub invariant_of-result : goal.invariant_of-result
invariant_of-result c = (c.args.text.now, returns-clause-ok c)
