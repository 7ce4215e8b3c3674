use Rattle.std.proofs.Common.{◌≡◌, sym, ap, subst, ◌∙◌, List, Bool, Some}
use Rattle.std.proofs.lemmas.Result.{err_from_is_err_and}
use Rattle.wb_base.specs.declared.faults.TheConstants.{WRONG_TYPE}
use Rattle.pas_tokens.specs.Cutting.{Wrong, wrong}
use Rattle.pas_syntax.specs.Tree as tree
use Rattle.pas_syntax.specs.Tree.{Variable, Expr}
use Rattle.pas_syntax.specs.Views.{variable_in, expr_in}
use Rattle.pas_syntax.specs.Words.{expr_words, plain_words}
use Rattle.pas_typed.specs.Types.{are_compatible}
use Rattle.pas_typed.specs.Typed as typed
use Rattle.pas_typed.specs.Typed.{Value}
use Rattle.pas_typed.specs.TypedViews.{value_view, statement_view}
use Rattle.pas_types.specs.declared.assignments.Target.{Target as CodeTarget}
use Rattle.pas_rules.specs.Marks.{checked, unless}
use Rattle.pas_rules.specs.Scopes.{Scopes}
use Rattle.pas_rules.specs.Expressions.{value_of}
use Rattle.pas_rules.specs.Statements.{Target, target_of, fits_target, assigned, assignment_of}
use Rattle.pas_scopes.specs.ScopeViews.{scopes_view}
use Rattle.pas_scopes.specs.Answers.{Means}
use Rattle.pas_types.specs.inner.TargetViews.{target_view}
use Rattle.pas_scopes.proofs.AnswerLemmas.{checked_stops_by}
use Rattle.pas_scopes.proofs.SettleLemmas.{settles_stop, settles_why}
use Rattle.pas_types.proofs.TargetLemmas.{target_stops, value_stops, assignment_means}
use Rattle.pas_types.proofs.assignments.assignment_of.Goals as goal

pub returns-in_err-target : goal.returns-in_err-target
returns-in_err-target c clear n =
    let spellings = c.args.scopes.now.spellings.now in
    let s : Scopes = scopes_view c.args.scopes.now in
    let v : Variable = variable_in spellings c.args.assignment.now.target in
    let e : Expr = expr_in spellings c.args.assignment.now.value in
    let becomes = c.args.assignment.now.becomes in
    let why = c.in_err-target.field-0.0 in
    settles_stop (plain_words n (tree.assignment v becomes e))
    (assignment_of s.outer.types (target_of s v) (value_of s e)) (statement_view spellings) why c.from_residual.result
    (err_from_is_err_and _ c.from_residual.ensures.1)
    (target_stops s n v becomes e why (c.in_err-target.ensures clear n))

pub returns-in_err-found : goal.returns-in_err-found
returns-in_err-found c clear n =
    let spellings = c.args.scopes.now.spellings.now in
    let s : Scopes = scopes_view c.args.scopes.now in
    let v : Variable = variable_in spellings c.args.assignment.now.target in
    let e : Expr = expr_in spellings c.args.assignment.now.value in
    let becomes = c.args.assignment.now.becomes in
    let target : Target = target_view c.in_ok-target.target in
    let demand : Value → List Wrong = fits_target s.outer.types (Some target) in
    let why = c.in_err-found.field-0.0 in
    settles_stop (plain_words n (tree.assignment v becomes e))
    (assignment_of s.outer.types (target_of s v) (value_of s e)) (statement_view spellings) why
    c.from_residual-in_err-found.result (err_from_is_err_and _ c.from_residual-in_err-found.ensures.1)
    (value_stops s n v becomes e target why (c.in_ok-target.ensures clear n)
    (settles_why (expr_words n 0 e) (checked demand (value_of s e)) value_view why
    (checked_stops_by (expr_words n 0 e) demand (value_of s e) why (c.in_err-found.ensures clear n 0))))

abbrev fits : Bool → List Wrong
fits holds = unless holds (wrong WRONG_TYPE)

pub returns-in_err-value : goal.returns-in_err-value
returns-in_err-value c clear n =
    let spellings = c.args.scopes.now.spellings.now in
    let s : Scopes = scopes_view c.args.scopes.now in
    let v : Variable = variable_in spellings c.args.assignment.now.target in
    let e : Expr = expr_in spellings c.args.assignment.now.value in
    let becomes = c.args.assignment.now.becomes in
    let target : Target = target_view c.in_ok-target.target in
    let demand : Value → List Wrong = fits_target s.outer.types (Some target) in
    let why = c.in_err-value.field-0.0 in
    let fine : demand (value_view c.in_ok-found.found.value) ≡ fits c.are_compatible-is_fit.result =
    (λ i. fits (are_compatible s.outer.types (sym c.pas_type.ensures i) (c.pas_type-2.ensures i)))
    ∙ ap fits (c.are_compatible-is_fit.ensures spellings) in
    settles_stop (plain_words n (tree.assignment v becomes e))
    (assignment_of s.outer.types (target_of s v) (value_of s e)) (statement_view spellings) why
    c.from_residual-in_err-value.result (err_from_is_err_and _ c.from_residual-in_err-value.ensures.1)
    (value_stops s n v becomes e target why (c.in_ok-target.ensures clear n)
    (c.in_err-value.ensures.settles (expr_words n 0 e) demand (value_of s e) (c.in_ok-found.ensures clear n 0) fine))

pub returns-in_ok-assigns-in-Place : goal.returns-in_ok-assigns-in-Place
returns-in_ok-assigns-in-Place c clear n =
    let spellings = c.args.scopes.now.spellings.now in
    let s : Scopes = scopes_view c.args.scopes.now in
    let v : Variable = variable_in spellings c.args.assignment.now.target in
    let e : Expr = expr_in spellings c.args.assignment.now.value in
    let becomes = c.args.assignment.now.becomes in
    let target : Target = target_view c.in_ok-target.target in
    let value : Value = value_view c.in_ok-value.value in
    let demand : Value → List Wrong = fits_target s.outer.types (Some target) in
    let fine : demand (value_view c.in_ok-found.found.value) ≡ fits c.are_compatible-is_fit.result =
    (λ i. fits (are_compatible s.outer.types (sym c.pas_type.ensures i) (c.pas_type-2.ensures i)))
    ∙ ap fits (c.are_compatible-is_fit.ensures spellings) in
    subst (λ (found : typed.Statement). Means (plain_words n (tree.assignment v becomes e))
    (assignment_of s.outer.types (target_of s v) (value_of s e)) found)
    (ap (λ (found : CodeTarget). assigned (target_view found) value) c.in-Place.is
    ∙ sym (c.in_ok-assigns-in-Place.ensures spellings))
    (assignment_means s n v becomes e target value (c.in_ok-target.ensures clear n)
    (c.in_ok-value.ensures.settles (expr_words n 0 e) demand (value_of s e) (c.in_ok-found.ensures clear n 0) fine))

pub returns-in_ok-sets_result-in-Result : goal.returns-in_ok-sets_result-in-Result
returns-in_ok-sets_result-in-Result c clear n =
    let spellings = c.args.scopes.now.spellings.now in
    let s : Scopes = scopes_view c.args.scopes.now in
    let v : Variable = variable_in spellings c.args.assignment.now.target in
    let e : Expr = expr_in spellings c.args.assignment.now.value in
    let becomes = c.args.assignment.now.becomes in
    let target : Target = target_view c.in_ok-target.target in
    let value : Value = value_view c.in_ok-value.value in
    let demand : Value → List Wrong = fits_target s.outer.types (Some target) in
    let fine : demand (value_view c.in_ok-found.found.value) ≡ fits c.are_compatible-is_fit.result =
    (λ i. fits (are_compatible s.outer.types (sym c.pas_type.ensures i) (c.pas_type-2.ensures i)))
    ∙ ap fits (c.are_compatible-is_fit.ensures spellings) in
    subst (λ (found : typed.Statement). Means (plain_words n (tree.assignment v becomes e))
    (assignment_of s.outer.types (target_of s v) (value_of s e)) found)
    (ap (λ (found : CodeTarget). assigned (target_view found) value) c.in-Result.is
    ∙ sym (c.in_ok-sets_result-in-Result.ensures spellings))
    (assignment_means s n v becomes e target value (c.in_ok-target.ensures clear n)
    (c.in_ok-value.ensures.settles (expr_words n 0 e) demand (value_of s e) (c.in_ok-found.ensures clear n 0) fine))
