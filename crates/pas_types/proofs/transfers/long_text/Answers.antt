use Rattle.std.proofs.Common.{◌≡◌, refl, sym, ap, subst, ◌∙◌, None}
use Rattle.pas_syntax.specs.Tree.{Expr}
use Rattle.pas_syntax.specs.Views.{expr_in}
use Rattle.pas_syntax.proofs.ExprViews.{sum_view, relation_view}
use Rattle.pas_rules.specs.Calls.{text_in}
use Rattle.pas_types.specs.inner.Transfers.{IsLongText}
use Rattle.pas_types.proofs.transfers.long_text.Goals as goal

pub returns-in-Sum : goal.returns-in-Sum
returns-in-Sum c =
    let spellings = c.args.scopes.now.spellings.now in
    subst (λ (expr : Expr). IsLongText spellings expr c.long_sum.result)
    (sym (ap (expr_in spellings) c.in-Sum.is ∙ sum_view spellings c.in-Sum.sum)) c.long_sum.ensures

pub returns-in-Relation : goal.returns-in-Relation
returns-in-Relation c =
    let spellings = c.args.scopes.now.spellings.now in
    subst (λ (expr : Expr). text_in expr ≡ None) (sym (ap (expr_in spellings) c.in-Relation.is
    ∙ relation_view spellings c.in-Relation.field-0 c.in-Relation.field-1 c.in-Relation.field-2)) refl
