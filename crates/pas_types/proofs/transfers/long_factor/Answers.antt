use Rattle.std.proofs.Common.{◌≡◌, refl, sym, ap, subst, ◌∙◌, None}
use Rattle.pas_syntax.specs.Tree as tree
use Rattle.pas_syntax.specs.Tree.{Factor}
use Rattle.pas_syntax.specs.Views.{factor_in}
use Rattle.pas_syntax.proofs.ExprViews.{literal_view, text_view, parenthesized_view, negated_view, variable_view}
use Rattle.pas_syntax.proofs.ExprViews.{call_view}
use Rattle.pas_rules.specs.Calls.{text_in}
use Rattle.pas_types.specs.inner.Transfers.{IsLongText}
use Rattle.pas_scopes.proofs.ExprSeen.{call_out}
use Rattle.pas_types.proofs.transfers.long_factor.Goals as goal

pub returns-in-Text : goal.returns-in-Text
returns-in-Text c =
    let spellings = c.args.scopes.now.spellings.now in
    subst (λ (factor : Factor). IsLongText spellings (tree.sum (tree.first_term (tree.first_factor factor)))
    c.long_quoted.result)
    (sym (ap (factor_in spellings) c.in-Text.is ∙ text_view spellings c.in-Text.quoted)) c.long_quoted.ensures

pub returns-in-Literal : goal.returns-in-Literal
returns-in-Literal c =
    let spellings = c.args.scopes.now.spellings.now in
    subst (λ (factor : Factor). text_in (tree.sum (tree.first_term (tree.first_factor factor))) ≡ None)
    (sym (ap (factor_in spellings) c.in-Literal.is
    ∙ literal_view spellings c.in-Literal.field-0)) refl

pub returns-in-Parenthesized : goal.returns-in-Parenthesized
returns-in-Parenthesized c =
    let spellings = c.args.scopes.now.spellings.now in
    subst (λ (factor : Factor). text_in (tree.sum (tree.first_term (tree.first_factor factor))) ≡ None)
    (sym (ap (factor_in spellings) c.in-Parenthesized.is
    ∙ parenthesized_view spellings c.in-Parenthesized.field-0 c.in-Parenthesized.field-1 c.in-Parenthesized.field-2))
    refl

pub returns-in-Negated : goal.returns-in-Negated
returns-in-Negated c =
    let spellings = c.args.scopes.now.spellings.now in
    subst (λ (factor : Factor). text_in (tree.sum (tree.first_term (tree.first_factor factor))) ≡ None)
    (sym (ap (factor_in spellings) c.in-Negated.is
    ∙ negated_view spellings c.in-Negated.field-0 c.in-Negated.field-1)) refl

pub returns-in-Variable : goal.returns-in-Variable
returns-in-Variable c =
    let spellings = c.args.scopes.now.spellings.now in
    subst (λ (factor : Factor). text_in (tree.sum (tree.first_term (tree.first_factor factor))) ≡ None)
    (sym (ap (factor_in spellings) c.in-Variable.is
    ∙ variable_view spellings c.in-Variable.field-0)) refl

pub returns-in-Call : goal.returns-in-Call
returns-in-Call c =
    let spellings = c.args.scopes.now.spellings.now in
    subst (λ (factor : Factor). text_in (tree.sum (tree.first_term (tree.first_factor factor))) ≡ None)
    (sym (ap (factor_in spellings) c.in-Call.is
    ∙ call_view spellings c.in-Call.field-0 ∙ call_out spellings c.in-Call.field-0)) refl
