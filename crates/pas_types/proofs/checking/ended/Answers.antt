use Rattle.std.proofs.Common.{◌≡◌, sym, ap, subst, ◌∙◌, ℕ, Bool, Result, List}
use Rattle.std.specs.Prelude.{OnOk, if◌then◌else◌}
use Rattle.std.proofs.lemmas.Result.{err_from_is_err_and}
use Rattle.pas_syntax.specs.Words.{statements_words}
use Rattle.pas_typed.specs.declared.typed.Labelled as code_labelled
use Rattle.pas_typed.specs.TypedViews.{statements_view}
use Rattle.pas_scopes.specs.declared.stop.Stop.{Stop}
use Rattle.wb_base.specs.declared.faults.TheConstants.{WRONG_TYPE, UNKNOWN_NAME}
use Rattle.pas_scopes.specs.Answers.{FailsBy, Settles}
use Rattle.pas_types.specs.inner.Checking.{main_words, main_part, lacking, stop_at}
use Rattle.pas_types.proofs.MainLemmas.{main_means, main_lacks, main_stops, whole_stop}
use Rattle.pas_types.proofs.checking.ended.Goals as goal

abbrev Found : Type 0
Found = Result (List code_labelled.Labelled) Stop

pub returns-in_err-lacks-in-Ok : goal.returns-in_err-lacks-in-Ok
returns-in_err-lacks-in-Ok c spellings body dot last part stands at_end all_are h =
    let why = c.in_err-lacks-in-Ok.field-0.0 in
    let found = subst (λ (found : Found). Settles (statements_words 1 body.list) part (statements_view spellings)
    found) c.in-Ok.is h in
    let same : c.args.all_stand ≡ stands = subst (λ (found : Found). OnOk found (c.args.all_stand ≡ stands))
    c.in-Ok.is all_are in
    whole_stop (main_words body dot last) (main_part c.args.has_bodies stands part) (statements_view spellings) why
    c.from_residual.result (err_from_is_err_and _ c.from_residual.ensures.1)
    (main_lacks body dot last part c.args.has_bodies stands why
    (c.in_err-lacks-in-Ok.ensures ∙ (ap (λ (b : Bool). lacking c.args.has_bodies b c.args.end) same
    ∙ ap (lacking c.args.has_bodies stands) (sym at_end))) found.quiet)

pub returns-in_ok-lacks-in-Ok : goal.returns-in_ok-lacks-in-Ok
returns-in_ok-lacks-in-Ok c spellings body dot last part stands at_end all_are h =
    let found = subst (λ (found : Found). Settles (statements_words 1 body.list) part (statements_view spellings)
    found) c.in-Ok.is h in
    let same : c.args.all_stand ≡ stands = subst (λ (found : Found). OnOk found (c.args.all_stand ≡ stands))
    c.in-Ok.is all_are in
    main_means body dot last part (statements_view spellings c.in-Ok.statements) c.args.has_bodies stands c.args.end
    (c.in_ok-lacks-in-Ok.ensures ∙ ap (λ (b : Bool). lacking c.args.has_bodies b c.args.end) same) found

pub returns-in-Err : goal.returns-in-Err
returns-in-Err c spellings body dot last part stands at_end all_are h =
    let found = subst (λ (found : Found). Settles (statements_words 1 body.list) part (statements_view spellings)
    found) c.in-Err.is h in
    let code : ℕ = if c.args.has_bodies then WRONG_TYPE else UNKNOWN_NAME in
    subst (FailsBy (main_words body dot last) (main_part c.args.has_bodies stands part).marks)
    (ap (λ (line : ℕ). stop_at code line c.in-Err.stop) at_end ∙ sym c.stopped.ensures)
    (main_stops body dot last part c.args.has_bodies stands c.in-Err.stop found)
