use Rattle.std.proofs.Common.{List, ◌∷◌, [], Some}
use Rattle.std.proofs.lemmas.Result.{err_from_is_err_and}
use Rattle.pas_syntax.specs.Tree.{Ident}
use Rattle.pas_syntax.specs.Views.{ident_in, behind_in, if_there}
use Rattle.pas_syntax.specs.ProgramViews.{type_name_in}
use Rattle.pas_syntax.specs.Words.{Word, name_at, words_if, result_words}
use Rattle.pas_typed.specs.Types.{Made}
use Rattle.pas_scopes.specs.declared.scopes.Scopes.{Scopes as CodeScopes}
use Rattle.pas_rules.specs.Marks.{Judged, checked}
use Rattle.pas_rules.specs.Routines.{ordinal_result, result_part}
use Rattle.pas_scopes.specs.ScopeViews.{outer_view, inner_view, made_view}
use Rattle.pas_types.specs.inner.RoutineAnswers.{IsResult}
use Rattle.pas_scopes.proofs.LocalRowLemmas.{stopped}
use Rattle.pas_types.proofs.FormalLemmas.{part_in}
use Rattle.pas_types.proofs.HeadingLemmas.{result_means, result_fails}
use Rattle.pas_types.proofs.headings.result_of.Goals as goal

pub returns-in_err-result_type-in-Some : goal.returns-in_err-result_type-in-Some
returns-in_err-result_type-in-Some c inner h =
    let old : CodeScopes = c.args.scopes.now in
    let spellings = old.spellings.now in
    let ident : Ident = ident_in spellings c.in-Some.behind.item in
    let words : List Word = name_at 0 ident ∷ [] in
    let part : Judged Made = checked ordinal_result (part_in old inner ident) in
    rw c.in-Some.is
    (stopped (IsResult (if_there (behind_in (type_name_in spellings)) (Some c.in-Some.behind))
    (words_if result_words (if_there (behind_in (type_name_in spellings)) (Some c.in-Some.behind)))
    (result_part (outer_view old) (inner_view spellings inner)
    (if_there (behind_in (type_name_in spellings)) (Some c.in-Some.behind))) (made_view old))
    c.in_err-result_type-in-Some.field-0.0 c.from_residual.result (err_from_is_err_and _ c.from_residual.ensures.1)
    (result_fails c.in-Some.behind.line words part (made_view old) c.in_err-result_type-in-Some.field-0.0
    (c.in_err-result_type-in-Some.ensures inner h)))

pub returns-in_ok-result_type-in-Some : goal.returns-in_ok-result_type-in-Some
returns-in_ok-result_type-in-Some c inner h =
    let old : CodeScopes = c.args.scopes.now in
    let ident : Ident = ident_in old.spellings.now c.in-Some.behind.item in
    let words : List Word = name_at 0 ident ∷ [] in
    let part : Judged Made = checked ordinal_result (part_in old inner ident) in
    rw c.in-Some.is
    (result_means c.in-Some.behind.line words part (made_view old)
    (type_name_in old.spellings.now c.in-Some.behind.item) c.in_ok-result_type-in-Some.field-0
    (c.in_ok-result_type-in-Some.ensures inner h))
