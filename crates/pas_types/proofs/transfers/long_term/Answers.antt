use Rattle.std.proofs.Common.{◌≡◌, refl, sym, ap, subst, ◌∙◌, None}
use Rattle.pas_syntax.specs.Tree as tree
use Rattle.pas_syntax.specs.Tree.{Term}
use Rattle.pas_syntax.specs.Views.{term_in}
use Rattle.pas_syntax.proofs.ExprViews.{first_factor_view}
use Rattle.pas_rules.specs.Calls.{text_in}
use Rattle.pas_types.specs.inner.Transfers.{IsLongText}
use Rattle.pas_scopes.proofs.ExprSeen.{more_factors_seen}
use Rattle.pas_types.proofs.transfers.long_term.Goals as goal

pub returns-in-FirstFactor : goal.returns-in-FirstFactor
returns-in-FirstFactor c =
    let spellings = c.args.scopes.now.spellings.now in
    subst (λ (term : Term). IsLongText spellings (tree.sum (tree.first_term term)) c.long_factor.result)
    (sym (ap (term_in spellings) c.in-FirstFactor.is ∙ first_factor_view spellings c.in-FirstFactor.factor))
    c.long_factor.ensures

pub returns-in-MoreFactors : goal.returns-in-MoreFactors
returns-in-MoreFactors c =
    let spellings = c.args.scopes.now.spellings.now in
    subst (λ (term : Term). text_in (tree.sum (tree.first_term term)) ≡ None)
    (sym (ap (term_in spellings) c.in-MoreFactors.is
    ∙ more_factors_seen spellings c.in-MoreFactors.field-0 c.in-MoreFactors.field-1 c.in-MoreFactors.field-2)) refl
