use Rattle.std.proofs.Common.{rules, ◌≡◌, sym, subst, []}
use Rattle.std.specs.Prelude.{◌≢◌}
use Rattle.std.proofs.lemmas.Result.{err_from_is_err_and}
use Rattle.pas_syntax.specs.Tree.{Variable}
use Rattle.pas_syntax.specs.Views.{variable_in}
use Rattle.pas_syntax.specs.Words.{variable_words}
use Rattle.pas_typed.specs.TypedViews.{place_view}
use Rattle.pas_rules.specs.Marks.{Judged}
use Rattle.pas_rules.specs.Scopes.{Scopes}
use Rattle.pas_rules.specs.Expressions.{place_of}
use Rattle.pas_rules.specs.Statements.{Target, place, target_of}
use Rattle.pas_scopes.specs.ScopeViews.{scopes_view}
use Rattle.pas_scopes.specs.Answers.{end_in, EndsAs, Answers, StopsBy}
use Rattle.pas_types.specs.inner.TargetViews.{target_view}
use Rattle.pas_scopes.proofs.AnswerLemmas.{answers_stop, made_ends, made_stops}
use Rattle.pas_types.proofs.TargetLemmas.{part_target, name_alone}
use Rattle.pas_types.proofs.assignments.target_of.Goals as goal

pub returns-in_err-place : goal.returns-in_err-place
returns-in_err-place c clear n =
    let spellings = c.args.scopes.now.spellings.now in
    let s : Scopes = scopes_view c.args.scopes.now in
    let v : Variable = variable_in spellings c.args.variable.now in
    let why = c.in_err-place.field-0.0 in
    let some : c.args.variable.now.selectors ≢ [] = search rules in
    answers_stop (variable_words n 0 v) (target_of s v) target_view why c.from_residual.result
    (err_from_is_err_and _ c.from_residual.ensures.1)
    (subst (λ (part : Judged Target). StopsBy (variable_words n 0 v) part why)
    (sym (part_target s spellings c.args.variable.now some))
    (made_stops (variable_words n 0 v) place (place_of s v) why (c.in_err-place.ensures clear n 0)))

pub returns-then-is_empty : goal.returns-then-is_empty
returns-then-is_empty c clear n =
    let spellings = c.args.scopes.now.spellings.now in
    let s : Scopes = scopes_view c.args.scopes.now in
    let none : c.args.variable.now.selectors ≡ [] = search rules in
    subst (λ (v : Variable). Answers (variable_words n 0 v) (target_of s v) target_view c.target_named.result)
    (sym (name_alone s spellings c.args.variable.now none)) (c.target_named.ensures clear n)

pub returns-in_ok-place : goal.returns-in_ok-place
returns-in_ok-place c clear n =
    let spellings = c.args.scopes.now.spellings.now in
    let s : Scopes = scopes_view c.args.scopes.now in
    let v : Variable = variable_in spellings c.args.variable.now in
    let found = c.in_ok-place.place in
    let some : c.args.variable.now.selectors ≢ [] = search rules in
    subst (λ (part : Judged Target). EndsAs (variable_words n 0 v) part (place (place_view found.value))
    (end_in found.end)) (sym (part_target s spellings c.args.variable.now some))
    (made_ends (variable_words n 0 v) place (place_of s v) (place_view found.value) (end_in found.end)
    (c.in_ok-place.ensures clear n 0))
