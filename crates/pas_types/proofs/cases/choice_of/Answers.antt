use Rattle.std.proofs.Common.{rules, ◌≡◌, ap, ◌∙◌, List, true, not, Option, Some}
use Rattle.std.specs.Prelude.{ℤ}
use Rattle.std.specs.List.{list_any}
use Rattle.std.specs.Ordering.{int_eq}
use Rattle.std.proofs.lemmas.Result.{err_from_is_err_and}
use Rattle.pas_syntax.specs.Tree.{Constant}
use Rattle.pas_syntax.specs.Views.{constant_in}
use Rattle.pas_syntax.specs.Words.{Word, constant_words}
use Rattle.pas_typed.specs.Types.{Base, same_base}
use Rattle.pas_typed.specs.TypeViews.{base_view}
use Rattle.pas_rules.specs.Marks.{known}
use Rattle.pas_rules.specs.Scopes.{Scopes}
use Rattle.pas_rules.specs.TypeForms.{ConstantValue, constant_of}
use Rattle.pas_rules.specs.Statements.{fits_case}
use Rattle.pas_scopes.specs.ScopeViews.{scopes_view}
use Rattle.pas_scopes.specs.Constants.{ordinal_view}
use Rattle.pas_types.specs.inner.CaseViews.{choice_part}
use Rattle.pas_scopes.proofs.AnswerLemmas.{checked_stops_by, stops_fails}
use Rattle.pas_types.proofs.CaseLemmas.{holds_stop, base_refused, taken_refused, choice_means, base_demanded}
use Rattle.pas_types.proofs.CaseLemmas.{taken_values}
use Rattle.pas_types.proofs.cases.choice_of.Goals as goal

pub returns-in_err-found-clause-means : goal.returns-in_err-found-clause-means
returns-in_err-found-clause-means c clear n =
    let s : Scopes = scopes_view c.args.scopes.now in
    let constant : Constant = constant_in c.args.scopes.now.spellings.now c.args.constant in
    let words : List Word = constant_words n constant in
    let base : Base = base_view c.args.base in
    let taken : List ℤ = c.args.taken.now.keys in
    let why = c.in_err-found.field-0.0 in
    holds_stop words (choice_part s base taken constant) (λ (value : ℤ). value) why c.from_residual.result
    (err_from_is_err_and _ c.from_residual.ensures.1)
    (stops_fails words _ why
    (checked_stops_by words (fits_case (Some base) taken) (constant_of s constant) why
    ((c.in_err-found.ensures.tells n).0 clear)))

pub returns-in_err-demand-clause-means : goal.returns-in_err-demand-clause-means
returns-in_err-demand-clause-means c clear n =
    let s : Scopes = scopes_view c.args.scopes.now in
    let constant : Constant = constant_in c.args.scopes.now.spellings.now c.args.constant in
    let words : List Word = constant_words n constant in
    let base : Base = base_view c.args.base in
    let taken : List ℤ = c.args.taken.now.keys in
    let found = c.in_ok-found.found in
    let why = c.in_err-demand.field-0.0 in
    holds_stop words (choice_part s base taken constant) (λ (value : ℤ). value) why
    c.from_residual-in_err-demand.result (err_from_is_err_and _ c.from_residual-in_err-demand.ensures.1)
    (base_refused words (constant_of s constant) (ordinal_view found) found.line base taken
    (c.in_ok-found.ensures.tells n) c.is.result why c.is.ensures c.in_err-demand.ensures)

pub returns-in_err-demand-2-clause-means : goal.returns-in_err-demand-2-clause-means
returns-in_err-demand-2-clause-means c clear n =
    let s : Scopes = scopes_view c.args.scopes.now in
    let constant : Constant = constant_in c.args.scopes.now.spellings.now c.args.constant in
    let words : List Word = constant_words n constant in
    let base : Base = base_view c.args.base in
    let taken : List ℤ = c.args.taken.now.keys in
    let found = c.in_ok-found.found in
    let why = c.in_err-demand-2.field-0.0 in
    let same : same_base base (base_view found.base) ≡ true =
    c.is.ensures ∙ base_demanded c.is.result _ found.line _ c.in_ok-demand.ensures in
    let added : c.in_ok-is_new.is_new ≡ not (list_any (int_eq found.value) taken) = search rules in
    holds_stop words (choice_part s base taken constant) (λ (value : ℤ). value) why
    c.from_residual-in_err-demand-2.result (err_from_is_err_and _ c.from_residual-in_err-demand-2.ensures.1)
    (taken_refused words (constant_of s constant) (ordinal_view found) found.line base taken
    (c.in_ok-found.ensures.tells n) c.in_ok-is_new.is_new why same
    (added ∙ ap not (taken_values taken found.value)) c.in_err-demand-2.ensures)

pub returns-clause-means : goal.returns-clause-means
returns-clause-means c clear n =
    let s : Scopes = scopes_view c.args.scopes.now in
    let constant : Constant = constant_in c.args.scopes.now.spellings.now c.args.constant in
    let words : List Word = constant_words n constant in
    let base : Base = base_view c.args.base in
    let taken : List ℤ = c.args.taken.now.keys in
    let found = c.in_ok-found.found in
    let same : same_base base (base_view found.base) ≡ true =
    c.is.ensures ∙ base_demanded c.is.result _ found.line _ c.in_ok-demand.ensures in
    let added : c.in_ok-is_new.is_new ≡ not (list_any (int_eq found.value) taken) = search rules in
    let means = choice_means words (constant_of s constant) (ordinal_view found) found.line base taken
    (c.in_ok-found.ensures.tells n) c.in_ok-is_new.is_new
    (base_demanded c.in_ok-is_new.is_new _ found.line _ c.in_ok-demand-2.ensures) same
    (added ∙ ap not (taken_values taken found.value)) in
    record {
      known = ap (λ (o : Option ConstantValue). known (λ choice. choice.value) o) means.known
          ∙ ap (λ (value : ℤ). Some value) (search rules);
      quiet = means.quiet;
    }
