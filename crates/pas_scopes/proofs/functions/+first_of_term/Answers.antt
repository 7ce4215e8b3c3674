use Rattle.std.proofs.Common.{◌∙◌, sym, ap, subst}
use Rattle.pas_syntax.specs.declared.tree.Term.{Term as CodeTerm}
use Rattle.pas_syntax.specs.Tree.{Term}
use Rattle.pas_syntax.specs.Views.{term_in, factor_in}
use Rattle.pas_syntax.specs.Words.{term_words}
use Rattle.pas_syntax.proofs.ExprViews.{first_factor_view}
use Rattle.pas_scopes.proofs.ExprSeen.{more_factors_seen}
use Rattle.pas_rules.specs.Expressions.{term_of, factor_of}
use Rattle.pas_scopes.specs.ScopeViews.{scopes_view}
use Rattle.pas_scopes.specs.Arguments.{ShowsFirst}
use Rattle.pas_scopes.proofs.FirstWords.{product_first}
use Rattle.pas_scopes.proofs.functions.+first_of_term.Goals as goal

pub returns-in-FirstFactor : goal.returns-in-FirstFactor
returns-in-FirstFactor t c lead deep =
    let scopes = scopes_view c.args.scopes.now in
    let spellings = c.args.scopes.now.spellings.now in
    subst (λ (term : Term). ShowsFirst (term_words lead deep term) (term_of scopes term).marks.tokens
    c.first_of_factor.result)
    (sym (ap (term_in spellings) c.in-FirstFactor.is ∙ first_factor_view spellings c.in-FirstFactor.factor))
    (c.first_of_factor.ensures lead deep)

pub returns-in-MoreFactors : goal.returns-in-MoreFactors
returns-in-MoreFactors t c lead deep =
    let scopes = scopes_view c.args.scopes.now in
    let spellings = c.args.scopes.now.spellings.now in
    let left : Term = term_in spellings c.in-MoreFactors.left in
    subst (λ (term : Term). ShowsFirst (term_words lead deep term) (term_of scopes term).marks.tokens
    c.first_of_term.result)
    (sym (ap (term_in spellings) c.in-MoreFactors.is
    ∙ more_factors_seen spellings c.in-MoreFactors.left c.in-MoreFactors.field-1 c.in-MoreFactors.field-2))
    (product_first (term_words lead deep left) _ scopes.outer.types (term_of scopes left)
    (factor_of scopes (factor_in spellings c.in-MoreFactors.field-2)) c.first_of_term.result
    (subst (λ (term : CodeTerm). ShowsFirst (term_words lead deep (term_in spellings term))
    (term_of scopes (term_in spellings term)).marks.tokens c.first_of_term.result) c.get.ensures
    (c.first_of_term.ensures lead deep)) c.in-MoreFactors.field-1.item)
