use Rattle.std.proofs.Common.{◌∙◌, sym, ap, subst}
use Rattle.pas_syntax.specs.declared.tree.Sum.{Sum as CodeSum}
use Rattle.pas_syntax.specs.Tree.{Expr, Sum}
use Rattle.pas_syntax.specs.Views.{expr_in, sum_in}
use Rattle.pas_syntax.specs.Words.{expr_words, sum_words}
use Rattle.pas_syntax.proofs.ExprViews.{sum_view, relation_view}
use Rattle.pas_rules.specs.Expressions.{value_of, sum_of}
use Rattle.pas_scopes.specs.ScopeViews.{scopes_view}
use Rattle.pas_scopes.specs.Arguments.{ShowsFirst}
use Rattle.pas_scopes.proofs.FirstLemmas.{too_many}
use Rattle.pas_rules.proofs.ExpressionsAsMany.{value_many}
use Rattle.pas_scopes.proofs.FirstWords.{comparison_first}
use Rattle.pas_scopes.proofs.functions.one_too_many.Goals as goal

pub returns-in-Sum-clause-first : goal.returns-in-Sum-clause-first
returns-in-Sum-clause-first c lead deep =
    let scopes = scopes_view c.args.scopes.now in
    let spellings = c.args.scopes.now.spellings.now in
    subst (λ (expr : Expr). ShowsFirst (expr_words lead deep expr) (value_of scopes expr).marks.tokens
    c.first_of_sum.result)
    (sym (ap (expr_in spellings) c.in-Sum.is ∙ sum_view spellings c.in-Sum.sum)) (c.first_of_sum.ensures lead deep)

pub returns-in-Relation-clause-first : goal.returns-in-Relation-clause-first
returns-in-Relation-clause-first c lead deep =
    let scopes = scopes_view c.args.scopes.now in
    let spellings = c.args.scopes.now.spellings.now in
    let left : Sum = sum_in spellings c.in-Relation.left in
    subst (λ (expr : Expr). ShowsFirst (expr_words lead deep expr) (value_of scopes expr).marks.tokens
    c.first_of_sum-in-Relation.result)
    (sym (ap (expr_in spellings) c.in-Relation.is
    ∙ relation_view spellings c.in-Relation.left c.in-Relation.field-1 c.in-Relation.field-2))
    (comparison_first (sum_words lead deep left) _ scopes.outer.types (sum_of scopes left)
    (sum_of scopes (sum_in spellings c.in-Relation.field-2)) c.first_of_sum-in-Relation.result
    (subst (λ (sum : CodeSum). ShowsFirst (sum_words lead deep (sum_in spellings sum))
    (sum_of scopes (sum_in spellings sum)).marks.tokens c.first_of_sum-in-Relation.result) c.get.ensures
    (c.first_of_sum-in-Relation.ensures lead deep)) c.in-Relation.field-1.item)

pub returns-in-Sum-clause-fails : goal.returns-in-Sum-clause-fails
returns-in-Sum-clause-fails c lead deep =
    let scopes = scopes_view c.args.scopes.now in
    let expr = expr_in c.args.scopes.now.spellings.now c.args.expr.now in
    too_many (expr_words lead deep expr) (value_of scopes expr).marks c.first_of_sum.result
    (value_many scopes lead deep expr) (returns-in-Sum-clause-first c lead deep)

pub returns-in-Relation-clause-fails : goal.returns-in-Relation-clause-fails
returns-in-Relation-clause-fails c lead deep =
    let scopes = scopes_view c.args.scopes.now in
    let expr = expr_in c.args.scopes.now.spellings.now c.args.expr.now in
    too_many (expr_words lead deep expr) (value_of scopes expr).marks c.first_of_sum-in-Relation.result
    (value_many scopes lead deep expr) (returns-in-Relation-clause-first c lead deep)
