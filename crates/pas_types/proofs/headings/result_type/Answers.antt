use Rattle.std.proofs.Common.{sym, ap, ◌∙◌, Bool, List, ◌∷◌, []}
use Rattle.std.proofs.lemmas.Result.{err_from_is_err_and}
use Rattle.std.specs.Prelude.{is_some}
use Rattle.wb_base.specs.declared.faults.TheConstants.{WRONG_TYPE}
use Rattle.pas_tokens.specs.Cutting.{wrong}
use Rattle.pas_syntax.specs.Tree.{Ident}
use Rattle.pas_syntax.specs.Views.{ident_in}
use Rattle.pas_syntax.specs.Words.{Word, name_at}
use Rattle.pas_typed.specs.Types.{Made}
use Rattle.pas_typed.specs.TypeViews.{range_view}
use Rattle.pas_scopes.specs.declared.scopes.Scopes.{Scopes as CodeScopes}
use Rattle.pas_rules.specs.Marks.{Judged, checked, unless}
use Rattle.pas_rules.specs.Routines.{ordinal_result}
use Rattle.pas_scopes.specs.ScopeViews.{made_view}
use Rattle.pas_scopes.specs.Answers.{Ending, end_in, noted_end, settled_by, EndsAs}
use Rattle.pas_types.specs.inner.RoutineAnswers.{IsOrdinal}
use Rattle.pas_scopes.proofs.AnswerLemmas.{stops_fails, checked_stops_by}
use Rattle.pas_scopes.proofs.SettleLemmas.{settles_checked}
use Rattle.pas_scopes.proofs.LocalRowLemmas.{stopped}
use Rattle.pas_types.proofs.FormalLemmas.{part_in, part_ends, part_stops}
use Rattle.pas_types.proofs.HeadingLemmas.{ordinal_by, some_seen}
use Rattle.pas_types.proofs.headings.result_type.Goals as goal

pub returns-in_err-found : goal.returns-in_err-found
returns-in_err-found c inner h =
    let old : CodeScopes = c.args.scopes.now in
    let ident : Ident = ident_in old.spellings.now c.args.ident in
    let words : List Word = name_at 0 ident ∷ [] in
    let part : Judged Made = part_in old inner ident in
    stopped (IsOrdinal words (checked ordinal_result part) (made_view old)) c.in_err-found.field-0.0
    c.from_residual.result (err_from_is_err_and _ c.from_residual.ensures.1)
    (stops_fails words (checked ordinal_result part) c.in_err-found.field-0.0
    (checked_stops_by words ordinal_result part c.in_err-found.field-0.0
    (part_stops old inner ident h 0 c.in_err-found.field-0.0 (c.in_err-found.ensures.answers 0))))

pub returns : goal.returns
returns c inner h =
    let old : CodeScopes = c.args.scopes.now in
    let ident : Ident = ident_in old.spellings.now c.args.ident in
    let words : List Word = name_at 0 ident ∷ [] in
    let part : Judged Made = part_in old inner ident in
    let value : Made = made_view old c.in_ok-found.found.value in
    let end : Ending = end_in c.in_ok-found.found.end in
    let ends : EndsAs words part value end =
    part_ends old inner ident h 0 c.in_ok-found.found (c.in_ok-found.ensures.answers 0) in
    ordinal_by words ordinal_result part (made_view old) value end
    (ap (λ (e : Ending). e.is_short) c.in_ok-found.ensures.lawful) ends c.settled.result
    (settles_checked words ordinal_result part (made_view old) c.in_ok-found.found.value end
    c.is_some-is_ordinal.result WRONG_TYPE c.settled.result
    (ap (λ (is : Bool). unless is (wrong WRONG_TYPE))
    (ap is_some (c.range_of.ensures old.spellings.now)
    ∙ (some_seen range_view c.range_of.result ∙ sym c.is_some-is_ordinal.ensures)))
    (c.settled.ensures
    ∙ (ap (λ (e : Ending). settled_by e c.noted.result.value) c.noted.ensures.end
    ∙ ap (settled_by (noted_end c.is_some-is_ordinal.result WRONG_TYPE end)) c.noted.ensures.value))
    ends)
