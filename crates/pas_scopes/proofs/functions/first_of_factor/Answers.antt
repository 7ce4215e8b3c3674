use Rattle.std.proofs.Common.{◌≡◌, ◌∙◌, sym, ap, subst, ◌+◌, [], ◌∷◌, ◌++◌, map}
use Rattle.pas_tokens.specs.declared.kinds.Kind.TheVariants as k
use Rattle.pas_syntax.specs.declared.tree.Expr.TheViews.{out-FunctionCall}
use Rattle.pas_syntax.specs.Tree as tree
use Rattle.pas_syntax.specs.Tree.{Ident, Factor, Variable, Exprs}
use Rattle.pas_syntax.specs.Views.{ident_in, factor_in, variable_in, exprs_in}
use Rattle.pas_syntax.specs.Words.{at, factor_words, variable_words, exprs_words}
use Rattle.pas_syntax.proofs.ExprViews.{variable_view, call_view, parenthesized_view}
use Rattle.pas_scopes.specs.declared.stop.Stop.{Stop}
use Rattle.pas_rules.specs.Scopes.{entity_of}
use Rattle.pas_rules.specs.Expressions.{factor_of, bare_argument, values_of}
use Rattle.pas_scopes.specs.ScopeViews.{scopes_view}
use Rattle.pas_scopes.specs.Arguments.{ShowsFirst}
use Rattle.pas_scopes.proofs.FirstWords.{name_shows, variable_first, call_name_first}
use Rattle.pas_scopes.proofs.ExprSeen.{name_seen, call_out}
use Rattle.pas_scopes.proofs.functions.first_of_factor.Goals as goal

pub returns-in-Variable : goal.returns-in-Variable
returns-in-Variable c lead deep =
    let scopes = scopes_view c.args.scopes.now in
    let spellings = c.args.scopes.now.spellings.now in
    let found : Variable = variable_in spellings c.in-Variable.variable in
    let is : name_shows scopes (ident_in spellings c.in-Variable.variable.name) ≡ c.first_of_name.result =
    ap (λ v. name_shows scopes (ident_in spellings v.name)) (sym c.get.ensures) ∙ sym c.first_of_name.ensures in
    subst (λ (factor : Factor). ShowsFirst (factor_words lead deep factor) (factor_of scopes factor).marks.tokens
    c.first_of_name.result)
    (sym (ap (factor_in spellings) c.in-Variable.is ∙ variable_view spellings c.in-Variable.variable))
    (subst (λ (why : Stop). ShowsFirst (variable_words lead deep found) (factor_of scopes (tree.variable
    found)).marks.tokens why)
    (ap (name_shows scopes) (name_seen spellings c.in-Variable.variable) ∙ is)
    (variable_first scopes lead deep found))

pub returns-in-Call : goal.returns-in-Call
returns-in-Call c lead deep =
    let scopes = scopes_view c.args.scopes.now in
    let spellings = c.args.scopes.now.spellings.now in
    let call = c.in-Call.call in
    let name : Ident = ident_in spellings (out-FunctionCall call).name in
    let opened = (out-FunctionCall call).opened in
    let arguments : Exprs = exprs_in spellings (out-FunctionCall call).arguments in
    let closed = (out-FunctionCall call).closed in
    let is : name_shows scopes name ≡ c.first_of_name-in-Call.result =
    ap (λ call. name_shows scopes (ident_in spellings (out-FunctionCall call).name)) (sym c.get-in-Call.ensures)
    ∙ sym c.first_of_name-in-Call.ensures in
    subst (λ (factor : Factor). ShowsFirst (factor_words lead deep factor) (factor_of scopes factor).marks.tokens
    c.first_of_name-in-Call.result)
    (sym (ap (factor_in spellings) c.in-Call.is ∙ call_view spellings call ∙ call_out spellings call))
    (subst (λ (why : Stop). ShowsFirst (factor_words lead deep (tree.function_call name opened arguments closed))
    (factor_of scopes (tree.function_call name opened arguments closed)).marks.tokens why) is
    (call_name_first lead name scopes (map bare_argument (values_of scopes arguments))
    (at (lead + 1) k.LeftParenthesis opened ∷ (exprs_words (lead + 1) deep arguments
    ++ at (lead + 1) k.RightParenthesis closed ∷ [])) (entity_of scopes name.name)))

pub returns-in-Parenthesized : goal.returns-in-Parenthesized
returns-in-Parenthesized c lead deep =
    let scopes = scopes_view c.args.scopes.now in
    let spellings = c.args.scopes.now.spellings.now in
    subst (λ (factor : Factor). ShowsFirst (factor_words lead deep factor) (factor_of scopes factor).marks.tokens
    c.fault-in-Parenthesized.result)
    (sym (ap (factor_in spellings) c.in-Parenthesized.is
    ∙ parenthesized_view spellings c.in-Parenthesized.line c.in-Parenthesized.field-1 c.in-Parenthesized.field-2))
    c.fault-in-Parenthesized.ensures
