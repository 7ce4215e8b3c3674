use Rattle.std.proofs.lemmas.Result.{err_from_is_err_and}
use Rattle.std.proofs.Common.{sym, ap, subst, ◌∙◌, Err}
use Rattle.pas_syntax.specs.declared.tree.Constant.{Constant as CodeConstant}
use Rattle.pas_syntax.specs.declared.tree.Constant.TheVariants as code
use Rattle.pas_syntax.specs.Words.{number_at, name_at, constant_words, words_if, constant_sign}
use Rattle.pas_syntax.specs.Views.{constant_in, sign_in, numeral_in, ident_in}
use Rattle.pas_scopes.specs.declared.constants.Ordinal.{Ordinal}
use Rattle.pas_rules.specs.Marks.{means}
use Rattle.pas_rules.specs.Scopes.{entity_of}
use Rattle.pas_rules.specs.TypeForms.{constant_of, known_value, as_constant, behind_sign}
use Rattle.pas_typed.specs.Types.{integer}
use Rattle.pas_scopes.specs.ScopeViews.{scopes_view, IsClear}
use Rattle.pas_scopes.specs.Constants.{ordinal_view, Tells}
use Rattle.pas_scopes.proofs.ConstantLemmas.{told, named_stops, number_ends}
use Rattle.pas_scopes.proofs.constants.constant_of.Goals as goal
use Rattle.std.proofs.Common.{pos, ◌++◌, ◌∷◌, []}

pub returns-in-Number-clause-tells : goal.returns-in-Number-clause-tells
returns-in-Number-clause-tells c n =
    let part = means (known_value integer (pos c.in-Number.numeral.value)) in
    let lead = sign_in c.in-Number.sign in
    subst (λ (found : CodeConstant). Tells (IsClear (scopes_view c.args.scopes.now))
    (constant_words n (constant_in c.args.scopes.now.spellings.now found))
    (constant_of (scopes_view c.args.scopes.now) (constant_in c.args.scopes.now.spellings.now found))
    c.behind_sign.result) (sym c.in-Number.is)
    (told (IsClear (scopes_view c.args.scopes.now))
    (words_if (constant_sign n) lead ++ number_at n (numeral_in c.in-Number.numeral) ∷ [])
    (behind_sign lead part)
    c.behind_sign.result
    (c.behind_sign.ensures.tells n (number_at n (numeral_in c.in-Number.numeral)) part
    (sym (ap (λ (found : Ordinal). found.line) c.number.ensures.value))
    (number_ends n c.in-Number.numeral c.number.result (ap ordinal_view c.number.ensures.value)
    (ap (λ (found : Ordinal). found.line) c.number.ensures.value))))

pub returns-in_err-constant_named-in-Named-clause-tells :
    goal.returns-in_err-constant_named-in-Named-clause-tells
returns-in_err-constant_named-in-Named-clause-tells c n =
    let clear = IsClear (scopes_view c.args.scopes.now) in
    let why = c.in_err-constant_named-in-Named.field-0.0 in
    let is = err_from_is_err_and _ c.from_residual.ensures.1 in
    let found = code.Named c.in-Named.sign c.in-Named.ident in
    subst (λ (found : CodeConstant). Tells clear
    (constant_words n (constant_in c.args.scopes.now.spellings.now found))
    (constant_of (scopes_view c.args.scopes.now) (constant_in c.args.scopes.now.spellings.now found))
    c.from_residual.result) (sym c.in-Named.is)
    (subst (Tells clear (constant_words n (constant_in c.args.scopes.now.spellings.now found))
    (constant_of (scopes_view c.args.scopes.now) (constant_in c.args.scopes.now.spellings.now found)))
    (sym (is.1 ∙ ap Err is.2))
    (named_stops clear (scopes_view c.args.scopes.now) c.args.scopes.now.spellings.now n c.in-Named.sign
    c.in-Named.ident why (c.in_err-constant_named-in-Named.ensures.tells n)))

pub returns-in_ok-constant_named-in-Named-clause-tells :
    goal.returns-in_ok-constant_named-in-Named-clause-tells
returns-in_ok-constant_named-in-Named-clause-tells c n =
    let found = c.in_ok-constant_named-in-Named.field-0 in
    let ident = ident_in c.args.scopes.now.spellings.now c.in-Named.ident in
    let part = as_constant (entity_of (scopes_view c.args.scopes.now) ident.name) in
    let lead = sign_in c.in-Named.sign in
    subst (λ (found : CodeConstant). Tells (IsClear (scopes_view c.args.scopes.now))
    (constant_words n (constant_in c.args.scopes.now.spellings.now found))
    (constant_of (scopes_view c.args.scopes.now) (constant_in c.args.scopes.now.spellings.now found))
    c.behind_sign-in-Named.result) (sym c.in-Named.is)
    (told (IsClear (scopes_view c.args.scopes.now))
    (words_if (constant_sign n) lead ++ name_at n ident ∷ [])
    (behind_sign lead part)
    c.behind_sign-in-Named.result
    (c.behind_sign-in-Named.ensures.tells n (name_at n ident) part
    (sym c.in_ok-constant_named-in-Named.ensures.line)
    (c.in_ok-constant_named-in-Named.ensures.tells n)))

pub returns-in-Text-clause-tells : goal.returns-in-Text-clause-tells
returns-in-Text-clause-tells c n =
    subst (λ (found : CodeConstant). Tells (IsClear (scopes_view c.args.scopes.now))
    (constant_words n (constant_in c.args.scopes.now.spellings.now found))
    (constant_of (scopes_view c.args.scopes.now) (constant_in c.args.scopes.now.spellings.now found))
    c.char_of.result) (sym c.in-Text.is)
    (told (IsClear (scopes_view c.args.scopes.now)) _ _ c.char_of.result (c.char_of.ensures.tells n))
