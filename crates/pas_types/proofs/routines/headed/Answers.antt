use Rattle.std.proofs.Common.{sym, subst, ℕ, Option, IfSome, IsSome, Ok, Err}
use Rattle.std.proofs.lemmas.Result.{err_from_is_err_and}
use Rattle.pas_syntax.specs.Views.{spelled_in}
use Rattle.pas_scopes.specs.declared.scopes.Scopes.{Scopes as CodeScopes}
use Rattle.pas_scopes.specs.declared.stop.Stop.{Stop}
use Rattle.pas_rules.specs.Routines.{HeadingParts, headed_by}
use Rattle.pas_scopes.specs.ScopeViews.{outer_view}
use Rattle.pas_types.specs.inner.RoutineAnswers.{parts_in, awaited_at, HeadsBy}
use Rattle.pas_rules.specs.HeadingWords.{parts_words}
use Rattle.pas_scopes.proofs.LocalRowLemmas.{stopped}
use Rattle.pas_types.proofs.RoutineSteps.{second_heads, first_named}
use Rattle.pas_types.proofs.routines.headed.Goals as goal

pub returns-in_err-second_heading-in-Some-clause-heads : goal.returns-in_err-second_heading-in-Some-clause-heads
returns-in_err-second_heading-in-Some-clause-heads c word ready waits =
    let old : CodeScopes = c.args.scopes.now in
    let head = c.args.head in
    let parts : HeadingParts = parts_in old.spellings.now head in
    let why : Stop = c.in_err-second_heading-in-Some.field-0.0 in
    stopped (HeadsBy (parts_words word parts head.end) (headed_by (outer_view old) parts c.args.found) old) why
    c.from_residual.result (err_from_is_err_and _ c.from_residual.ensures.1)
    (subst (λ (found : Option ℕ). HeadsBy (parts_words word parts head.end)
    (headed_by (outer_view old) parts found) old (Err why)) (sym c.in-Some.is)
    (c.in_err-second_heading-in-Some.ensures word c.in-Some.number))

pub returns-in_ok-second_heading-in-Some-clause-heads : goal.returns-in_ok-second_heading-in-Some-clause-heads
returns-in_ok-second_heading-in-Some-clause-heads c word ready waits =
    let old : CodeScopes = c.args.scopes.now in
    let head = c.args.head in
    let parts : HeadingParts = parts_in old.spellings.now head in
    subst (λ (found : Option ℕ). HeadsBy (parts_words word parts head.end)
    (headed_by (outer_view old) parts found) old (Ok c.in-Some.number)) (sym c.in-Some.is)
    (second_heads old parts head.end word c.in-Some.number ready
    (subst (λ (found : Option ℕ). IfSome found (λ number. IsSome (awaited_at old.routines.items number))) c.in-Some.is
    waits)
    (c.in_ok-second_heading-in-Some.ensures word c.in-Some.number))

pub returns-in-None-clause-heads : goal.returns-in-None-clause-heads
returns-in-None-clause-heads c word ready waits =
    let old : CodeScopes = c.args.scopes.now in
    let new : CodeScopes = c.first_heading.new.scopes in
    let head = c.args.head in
    let parts : HeadingParts = parts_in old.spellings.now head in
    subst (λ (found : Option ℕ). HeadsBy (parts_words word parts head.end)
    (headed_by (outer_view old) parts found) new c.first_heading.result) (sym c.in-None.is)
    (c.first_heading.ensures.heads word ready)

pub returns-in-None-clause-names : goal.returns-in-None-clause-names
returns-in-None-clause-names c =
    let old : CodeScopes = c.args.scopes.now in
    first_named old.names c.first_heading.new.scopes.names (spelled_in old.spellings.now c.args.head.name.span)
    c.first_heading.result c.first_heading.ensures.names c.first_heading.ensures.err
