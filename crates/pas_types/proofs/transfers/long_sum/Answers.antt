use Rattle.std.proofs.Common.{◌≡◌, refl, sym, ap, subst, ◌∙◌, None}
use Rattle.pas_syntax.specs.Tree as tree
use Rattle.pas_syntax.specs.Tree.{Sum}
use Rattle.pas_syntax.specs.Views.{sum_in}
use Rattle.pas_syntax.proofs.ExprViews.{first_term_view, signed_term_view}
use Rattle.pas_rules.specs.Calls.{text_in}
use Rattle.pas_types.specs.inner.Transfers.{IsLongText}
use Rattle.pas_scopes.proofs.ExprSeen.{more_terms_seen}
use Rattle.pas_types.proofs.transfers.long_sum.Goals as goal

pub returns-in-FirstTerm : goal.returns-in-FirstTerm
returns-in-FirstTerm c =
    let spellings = c.args.scopes.now.spellings.now in
    subst (λ (sum : Sum). IsLongText spellings (tree.sum sum) c.long_term.result)
    (sym (ap (sum_in spellings) c.in-FirstTerm.is ∙ first_term_view spellings c.in-FirstTerm.term))
    c.long_term.ensures

pub returns-in-SignedTerm : goal.returns-in-SignedTerm
returns-in-SignedTerm c =
    let spellings = c.args.scopes.now.spellings.now in
    subst (λ (sum : Sum). text_in (tree.sum sum) ≡ None) (sym (ap (sum_in spellings) c.in-SignedTerm.is
    ∙ signed_term_view spellings c.in-SignedTerm.field-0 c.in-SignedTerm.field-1)) refl

pub returns-in-MoreTerms : goal.returns-in-MoreTerms
returns-in-MoreTerms c =
    let spellings = c.args.scopes.now.spellings.now in
    subst (λ (sum : Sum). text_in (tree.sum sum) ≡ None) (sym (ap (sum_in spellings) c.in-MoreTerms.is
    ∙ more_terms_seen spellings c.in-MoreTerms.field-0 c.in-MoreTerms.field-1 c.in-MoreTerms.field-2)) refl
