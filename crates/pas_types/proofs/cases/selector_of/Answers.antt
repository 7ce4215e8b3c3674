use Rattle.std.proofs.Common.{◌≡◌, sym, ap, subst, ◌∙◌, List, Bool, true, false, Option}
use Rattle.std.proofs.Common.{Result}
use Rattle.std.specs.Prelude.{option_map}
use Rattle.std.specs.Prelude.{is_some, IfOk, OnOk}
use Rattle.std.proofs.lemmas.Result.{err_from_is_err_and}
use Rattle.wb_base.specs.declared.faults.TheConstants.{WRONG_TYPE}
use Rattle.pas_tokens.specs.Cutting.{Wrong, wrong}
use Rattle.pas_syntax.specs.Tree.{Expr}
use Rattle.pas_syntax.specs.Views.{expr_in}
use Rattle.pas_syntax.specs.Words.{Word, expr_words}
use Rattle.pas_typed.specs.declared.typed.Value as code_value
use Rattle.pas_typed.specs.declared.types.Base.{Base as CodeBase}
use Rattle.pas_typed.specs.Types.{Base, PasType, base_of}
use Rattle.pas_typed.specs.Typed.{Value}
use Rattle.pas_typed.specs.TypeOf.{type_of}
use Rattle.pas_typed.specs.TypeViews.{base_view}
use Rattle.pas_typed.specs.TypedViews.{value_view}
use Rattle.pas_scopes.specs.declared.stop.Stop.{Stop}
use Rattle.pas_rules.specs.Marks.{checked, unless}
use Rattle.pas_rules.specs.Scopes.{Scopes}
use Rattle.pas_rules.specs.Expressions.{ordinal_only, value_of}
use Rattle.pas_scopes.specs.ScopeViews.{scopes_view}
use Rattle.pas_scopes.proofs.AnswerLemmas.{before_found, checked_stops_by}
use Rattle.pas_scopes.proofs.SettleLemmas.{found_means, found_stops}
use Rattle.pas_types.proofs.FlowLemmas.{is_some_map}
use Rattle.pas_types.proofs.TargetLemmas.{stops_before, precedes_stop}
use Rattle.pas_types.proofs.cases.selector_of.Goals as goal

abbrev fits : Bool → List Wrong
fits holds = unless holds (wrong WRONG_TYPE)

abbrev found_view : (found : code_value.Value × CodeBase) → Value
found_view found = value_view found.0

pub returns-in_err-found-clause-means : goal.returns-in_err-found-clause-means
returns-in_err-found-clause-means c clear n =
    let spellings = c.args.scopes.now.spellings.now in
    let s : Scopes = scopes_view c.args.scopes.now in
    let e : Expr = expr_in spellings c.args.guard.now.value in
    let words : List Word = expr_words n 0 e in
    let demand : Value → List Wrong = ordinal_only s.outer.types in
    let why = c.in_err-found.field-0.0 in
    precedes_stop c.args.guard.now.behind words (checked demand (value_of s e)) found_view why c.from_residual.result
    (err_from_is_err_and _ c.from_residual.ensures.1)
    (stops_before c.args.guard.now.behind words (checked demand (value_of s e)) why
    (checked_stops_by words demand (value_of s e) why (c.in_err-found.ensures clear n 0)))

pub returns-in_err-value-clause-means : goal.returns-in_err-value-clause-means
returns-in_err-value-clause-means c clear n =
    let spellings = c.args.scopes.now.spellings.now in
    let s : Scopes = scopes_view c.args.scopes.now in
    let e : Expr = expr_in spellings c.args.guard.now.value in
    let words : List Word = expr_words n 0 e in
    let demand : Value → List Wrong = ordinal_only s.outer.types in
    let behind = c.args.guard.now.behind in
    let why = c.in_err-value.field-0.0 in
    let fine : demand (value_view c.in_ok-found.found.value) ≡ fits c.is_some.result =
    ap (λ (type : PasType). fits (is_some (base_of s.outer.types type))) c.pas_type.ensures
    ∙ (ap (λ (base : Option Base). fits (is_some base)) (c.base_of-base.ensures spellings)
    ∙ ap fits (is_some_map base_view c.base_of-base.result ∙ sym c.is_some.ensures)) in
    precedes_stop behind words (checked demand (value_of s e)) found_view why c.from_residual-in_err-value.result
    (err_from_is_err_and _ c.from_residual-in_err-value.ensures.1)
    (found_stops words (checked demand (value_of s e)) value_view behind why c.fit.result c.in_err-value.ensures
    (c.fit.ensures.settles words demand (value_of s e) (c.in_ok-found.ensures clear n 0) fine))

pub returns-in-Some-clause-means : goal.returns-in-Some-clause-means
returns-in-Some-clause-means c clear n =
    let spellings = c.args.scopes.now.spellings.now in
    let s : Scopes = scopes_view c.args.scopes.now in
    let e : Expr = expr_in spellings c.args.guard.now.value in
    let words : List Word = expr_words n 0 e in
    let demand : Value → List Wrong = ordinal_only s.outer.types in
    let fine : demand (value_view c.in_ok-found.found.value) ≡ fits c.is_some.result =
    ap (λ (type : PasType). fits (is_some (base_of s.outer.types type))) c.pas_type.ensures
    ∙ (ap (λ (base : Option Base). fits (is_some base)) (c.base_of-base.ensures spellings)
    ∙ ap fits (is_some_map base_view c.base_of-base.result ∙ sym c.is_some.ensures)) in
    found_means words (checked demand (value_of s e)) value_view c.args.guard.now.behind c.in_ok-value.value
    c.fit.result c.in_ok-value.ensures
    (c.fit.ensures.settles words demand (value_of s e) (c.in_ok-found.ensures clear n 0) fine)

pub returns-in-Some-clause-base : goal.returns-in-Some-clause-base
returns-in-Some-clause-base c =
    let spellings = c.args.scopes.now.spellings.now in
    let s : Scopes = scopes_view c.args.scopes.now in
    let same : c.in_ok-value.value ≡ c.in_ok-found.found.value =
    subst (λ (r : Result code_value.Value Stop). IfOk r (λ value. value ≡ c.in_ok-found.found.value))
    (sym (before_found c.args.guard.now.behind c.in_ok-value.value c.fit.result c.in_ok-value.ensures))
    c.fit.ensures.value in
    ap (λ (value : code_value.Value). base_of s.outer.types (type_of (value_view value))) same
    ∙ (ap (base_of s.outer.types) c.pas_type.ensures
    ∙ (c.base_of-base.ensures spellings ∙ ap (option_map base_view) c.in-Some.is))

pub returns-in-None-clause-means : goal.returns-in-None-clause-means
returns-in-None-clause-means c clear n =
    let holds : c.is_some.result ≡ true =
    subst (λ (r : Result code_value.Value Stop). OnOk r (c.is_some.result ≡ true))
    (sym (before_found c.args.guard.now.behind c.in_ok-value.value c.fit.result c.in_ok-value.ensures))
    c.fit.ensures.holds in
    let none : c.is_some.result ≡ false = c.is_some.ensures ∙ ap is_some c.in-None.is in
    absurd (cc)
