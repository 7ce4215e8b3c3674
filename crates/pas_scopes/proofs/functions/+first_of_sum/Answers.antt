use Rattle.std.proofs.Common.{◌∙◌, sym, ap, subst}
use Rattle.pas_syntax.specs.declared.tree.Sum.{Sum as CodeSum}
use Rattle.pas_syntax.specs.Tree.{Sum}
use Rattle.pas_syntax.specs.Views.{sum_in, term_in}
use Rattle.pas_syntax.specs.Words.{sum_words}
use Rattle.pas_syntax.proofs.ExprViews.{first_term_view, signed_term_view}
use Rattle.pas_scopes.proofs.ExprSeen.{more_terms_seen}
use Rattle.pas_rules.specs.Expressions.{sum_of, term_of}
use Rattle.pas_scopes.specs.ScopeViews.{scopes_view}
use Rattle.pas_scopes.specs.Arguments.{ShowsFirst}
use Rattle.pas_scopes.proofs.FirstWords.{addition_first}
use Rattle.pas_scopes.proofs.functions.+first_of_sum.Goals as goal

pub returns-in-FirstTerm : goal.returns-in-FirstTerm
returns-in-FirstTerm t c lead deep =
    let scopes = scopes_view c.args.scopes.now in
    let spellings = c.args.scopes.now.spellings.now in
    subst (λ (sum : Sum). ShowsFirst (sum_words lead deep sum) (sum_of scopes sum).marks.tokens c.first_of_term.result)
    (sym (ap (sum_in spellings) c.in-FirstTerm.is ∙ first_term_view spellings c.in-FirstTerm.term))
    (c.first_of_term.ensures lead deep)

pub returns-in-SignedTerm : goal.returns-in-SignedTerm
returns-in-SignedTerm t c lead deep =
    let scopes = scopes_view c.args.scopes.now in
    let spellings = c.args.scopes.now.spellings.now in
    subst (λ (sum : Sum). ShowsFirst (sum_words lead deep sum) (sum_of scopes sum).marks.tokens c.fault.result)
    (sym (ap (sum_in spellings) c.in-SignedTerm.is
    ∙ signed_term_view spellings c.in-SignedTerm.sign c.in-SignedTerm.field-1))
    c.fault.ensures

pub returns-in-MoreTerms : goal.returns-in-MoreTerms
returns-in-MoreTerms t c lead deep =
    let scopes = scopes_view c.args.scopes.now in
    let spellings = c.args.scopes.now.spellings.now in
    let left : Sum = sum_in spellings c.in-MoreTerms.left in
    subst (λ (sum : Sum). ShowsFirst (sum_words lead deep sum) (sum_of scopes sum).marks.tokens c.first_of_sum.result)
    (sym (ap (sum_in spellings) c.in-MoreTerms.is
    ∙ more_terms_seen spellings c.in-MoreTerms.left c.in-MoreTerms.field-1 c.in-MoreTerms.field-2))
    (addition_first (sum_words lead deep left) _ scopes.outer.types (sum_of scopes left)
    (term_of scopes (term_in spellings c.in-MoreTerms.field-2)) c.first_of_sum.result
    (subst (λ (sum : CodeSum). ShowsFirst (sum_words lead deep (sum_in spellings sum))
    (sum_of scopes (sum_in spellings sum)).marks.tokens c.first_of_sum.result) c.get.ensures
    (c.first_of_sum.ensures lead deep)) c.in-MoreTerms.field-1.item)
