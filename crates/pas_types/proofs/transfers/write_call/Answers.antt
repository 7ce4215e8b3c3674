use Rattle.std.proofs.Common.{subst, sym, ◌+◌, ◌∷◌, Option}
use Rattle.std.proofs.lemmas.Result.{err_from_is_err_and}
use Rattle.pas_syntax.specs.Views.{expr_in}
use Rattle.pas_syntax.specs.Words.{expr_words}
use Rattle.pas_typed.specs.declared.typed.Place as code_place
use Rattle.pas_typed.specs.Typed.{Statement}
use Rattle.pas_typed.specs.TypedViews.{statement_view}
use Rattle.pas_scopes.specs.declared.judged.Judged.{Judged as CodeJudged}
use Rattle.pas_rules.specs.Marks.{Judged}
use Rattle.pas_rules.specs.Calls.{procedure_of}
use Rattle.pas_rules.specs.Expressions.{value_of}
use Rattle.pas_scopes.specs.ScopeViews.{scopes_view}
use Rattle.pas_scopes.specs.Answers.{Settles, ShowsBy}
use Rattle.pas_types.specs.inner.Transfers.{writing, IsFileAlone}
use Rattle.pas_scopes.proofs.SettleLemmas.{settles_stop}
use Rattle.pas_types.proofs.TransferParts.{call_words, first_actual, others}
use Rattle.pas_types.proofs.WriteParts.{writing_seen}
use Rattle.pas_types.proofs.transfers.write_call.Goals as goal

pub returns-in_err-file : goal.returns-in_err-file
returns-in_err-file c clear n word at_line =
    let scopes = scopes_view c.args.scopes.now in
    let spellings = c.args.scopes.now.spellings.now in
    let arguments = c.args.arguments.now in
    let words = call_words scopes spellings n word arguments in
    let actuals = first_actual scopes spellings n word arguments ∷ others scopes spellings n word arguments in
    let part : Judged Statement = procedure_of scopes (writing c.args.extent) actuals in
    let why = c.in_err-file.field-0.0 in
    settles_stop words part (statement_view spellings) why c.from_residual.result
    (err_from_is_err_and _ c.from_residual.ensures.1)
    (subst (ShowsBy words part.marks) (sym (c.in_err-file.ensures clear (n + 1))) tt)

pub returns-in-Some : goal.returns-in-Some
returns-in-Some c clear n word at_line =
    let scopes = scopes_view c.args.scopes.now in
    let spellings = c.args.scopes.now.spellings.now in
    let arguments = c.args.arguments.now in
    let words = call_words scopes spellings n word arguments in
    let actuals = first_actual scopes spellings n word arguments ∷ others scopes spellings n word arguments in
    let expr = expr_in spellings arguments.items.first.value in
    subst (λ (part : Judged Statement). Settles words part (statement_view spellings) c.write_named.result)
    (sym (writing_seen scopes c.args.extent actuals))
    (c.write_named.ensures clear n word
    (subst (λ (found : Option (CodeJudged code_place.Place)). IsFileAlone scopes.outer.types
    (expr_words (n + 1) 0 expr) (value_of scopes expr) found) c.in-Some.is (c.in_ok-file.ensures clear (n + 1))))

pub returns-in-None : goal.returns-in-None
returns-in-None c clear n word at_line =
    let scopes = scopes_view c.args.scopes.now in
    let spellings = c.args.scopes.now.spellings.now in
    let arguments = c.args.arguments.now in
    let words = call_words scopes spellings n word arguments in
    let actuals = first_actual scopes spellings n word arguments ∷ others scopes spellings n word arguments in
    let expr = expr_in spellings arguments.items.first.value in
    subst (λ (part : Judged Statement). Settles words part (statement_view spellings) c.write_standard.result)
    (sym (writing_seen scopes c.args.extent actuals))
    (c.write_standard.ensures clear n word at_line
    (subst (λ (found : Option (CodeJudged code_place.Place)). IsFileAlone scopes.outer.types
    (expr_words (n + 1) 0 expr) (value_of scopes expr) found) c.in-None.is (c.in_ok-file.ensures clear (n + 1))))
