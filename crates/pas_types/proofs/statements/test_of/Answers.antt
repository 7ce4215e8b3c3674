use Rattle.pas_syntax.specs.Views.{expr_in}
use Rattle.pas_syntax.specs.Words.{expr_words}
use Rattle.pas_typed.specs.TypedViews.{value_view}
use Rattle.pas_rules.specs.Statements.{test_of}
use Rattle.pas_scopes.specs.ScopeViews.{scopes_view}
use Rattle.pas_types.proofs.ChainLemmas.{preceded}
use Rattle.pas_types.proofs.statements.test_of.Goals as goal

pub returns : goal.returns
returns c clear n =
    let spellings = c.args.scopes.now.spellings.now in
    preceded c.args.guard.now.behind (expr_words n 0 (expr_in spellings c.args.guard.now.value))
    (test_of (scopes_view c.args.scopes.now) (expr_in spellings c.args.guard.now.value)) value_view c.condition.result
    c.before-2.result c.before-2.ensures (c.condition.ensures clear n)
