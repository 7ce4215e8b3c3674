use Rattle.std.proofs.Common.{sym, subst, ◌∙◌, ℕ, List, Ok, Err}
use Rattle.std.proofs.lemmas.Result.{err_from_is_err_and}
use Rattle.pas_syntax.specs.Views.{ident_in, separated_in}
use Rattle.pas_typed.specs.declared.types.PasType.{PasType as CodePasType}
use Rattle.pas_typed.specs.Types.{Made}
use Rattle.pas_typed.specs.TypedViews.{mode_view}
use Rattle.pas_rules.specs.Marks.{Judged, noted}
use Rattle.pas_rules.specs.Scopes.{spellings_of}
use Rattle.pas_rules.specs.Declarations.{local_only}
use Rattle.pas_scopes.specs.ScopeViews.{made_view, inner_view}
use Rattle.pas_scopes.specs.Answers.{Ending, end_in, Means}
use Rattle.pas_scopes.proofs.LocalLemmas.{settled_same}
use Rattle.pas_scopes.proofs.SettleLemmas.{settles_by, settles_stop}
use Rattle.pas_scopes.proofs.locals.add_locals.Goals as goal

pub returns-in_err-pas_type-clause-answers : goal.returns-in_err-pas_type-clause-answers
returns-in_err-pas_type-clause-answers c words part inner is cells h =
    let scopes = c.args.scopes.now in
    let spellings = scopes.spellings.now in
    let names : List (List ℕ) = spellings_of (separated_in (ident_in spellings) c.args.names.now) in
    let whole : Judged Made =
    noted (local_only (inner_view spellings inner) (mode_view c.args.mode) names) part in
    settles_stop words whole (λ _. made_view scopes c.args.made.value) c.in_err-pas_type.field-0.0
    c.from_residual.result (err_from_is_err_and _ c.from_residual.ensures.1)
    (settles_by words whole (made_view scopes) c.local_only-made.result.value (end_in c.local_only-made.result.end)
    (Err c.in_err-pas_type.field-0.0) (sym c.in_err-pas_type.was ∙ c.settled.ensures)
    (c.local_only-made.ensures.ends words part inner is cells h))

pub returns-clause-answers : goal.returns-clause-answers
returns-clause-answers c words part inner is cells h =
    let scopes = c.args.scopes.now in
    let spellings = scopes.spellings.now in
    let names : List (List ℕ) = spellings_of (separated_in (ident_in spellings) c.args.names.now) in
    let whole : Judged Made =
    noted (local_only (inner_view spellings inner) (mode_view c.args.mode) names) part in
    let end : Ending = end_in c.local_only-made.result.end in
    subst (λ (found : CodePasType). Means words whole (made_view scopes found))
    (settled_same end.line end.refusal end.is_short c.local_only-made.result.value c.in_ok-pas_type.pas_type
    (sym c.in_ok-pas_type.was ∙ c.settled.ensures) ∙ c.local_only-made.ensures.value)
    (settles_by words whole (made_view scopes) c.local_only-made.result.value (end_in c.local_only-made.result.end)
    (Ok c.in_ok-pas_type.pas_type) (sym c.in_ok-pas_type.was ∙ c.settled.ensures)
    (c.local_only-made.ensures.ends words part inner is cells h))
