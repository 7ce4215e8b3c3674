use Rattle.std.proofs.Common.{◌≡◌, refl, sym, ap, subst, ◌∙◌, [], ◌∷◌, ◌++◌, ℕ, List, Some, None}
use Rattle.std.specs.Prelude.{is_some}
use Rattle.std.proofs.lemmas.Result.{err_from_is_err_and}
use Rattle.wb_base.specs.declared.faults.TheConstants.{WRONG_TYPE, UNKNOWN_NAME}
use Rattle.pas_tokens.specs.Cutting.{wrong}
use Rattle.pas_syntax.specs.Views.{ident_in}
use Rattle.pas_typed.specs.Types.{fields_of}
use Rattle.pas_typed.specs.Typed.{Place}
use Rattle.pas_typed.specs.TypeOf.{type_of_place}
use Rattle.pas_typed.specs.TypeViews.{table_view}
use Rattle.pas_typed.specs.TypedViews.{part_view, place_view}
use Rattle.pas_rules.specs.Expressions.{field_of, field_in, record_only}
use Rattle.pas_scopes.specs.inner.ExpressionAnswers.{Finds}
use Rattle.pas_scopes.specs.Stopping.{shown_in, found_before}
use Rattle.pas_scopes.specs.Answers.{Ending, end_in, lawful_end, settled_by, StopsBy}
use Rattle.pas_scopes.proofs.AnswerLemmas.{answers_stop, ends_moved}
use Rattle.pas_scopes.proofs.PlaceLemmas.{checked_before, some_there, field_unsettled, field_ends, no_field_stops}
use Rattle.pas_scopes.proofs.variables.field_of.Goals as goal

pub returns-in_err-place : goal.returns-in_err-place
returns-in_err-place c words point name part at named h =
    let spellings = c.args.scopes.now.spellings.now in
    let table = table_view spellings c.args.scopes.now.types in
    let ident = ident_in spellings c.args.ident in
    let value : Place = place_view c.args.found.value in
    let why = c.in_err-place.field-0.0 in
    answers_stop (words ++ point ∷ (name ∷ [])) (field_of table part ident) place_view why c.from_residual.result
    (err_from_is_err_and _ c.from_residual.ensures.1)
    (field_unsettled words point name table part ident value (end_in c.args.found.end)
    (is_some (fields_of table (type_of_place value))) c.args.dot c.record_of.result.value why refl (sym at)
    (c.in_err-place.ensures
    ∙ ap (λ (end : Ending). found_before c.args.dot (settled_by end c.record_of.result.value))
    c.record_of.ensures.end) h)

pub returns-in_ok-with_part-in-Some : goal.returns-in_ok-with_part-in-Some
returns-in_ok-with_part-in-Some c words point name part at named h =
    let spellings = c.args.scopes.now.spellings.now in
    let table = table_view spellings c.args.scopes.now.types in
    let ident = ident_in spellings c.args.ident in
    let value : Place = place_view c.args.found.value in
    let end : Ending = end_in c.args.found.end in
    let field = c.in-Some.field in
    let settled = checked_before words (record_only table) part value end
    (is_some (fields_of table (type_of_place value))) WRONG_TYPE c.args.dot c.record_of.result.value
    c.in_ok-place.place
    refl
    (c.in_ok-place.ensures
    ∙ ap (λ (end : Ending). found_before c.args.dot (settled_by end c.record_of.result.value))
    c.record_of.ensures.end) h in
    let same : place_view c.in_ok-place.place ≡ value = ap place_view (settled.1 ∙ c.record_of.ensures.value) in
    let fields = some_there (fields_of table (type_of_place value)) settled.0 in
    let finds : Finds (λ place. field_in c.spelling.result.now place (Some fields.0)) (Some field) =
    subst (Finds (λ place. field_in c.spelling.result.now place (Some fields.0))) c.in-Some.is
    (c.in_ok-field.ensures fields.0
    (ap (fields_of table) (sym c.pas_type.ensures ∙ ap type_of_place same) ∙ fields.1)) in
    ends_moved (words ++ point ∷ (name ∷ [])) (field_of table part ident) (part_view field value) _
    (lawful_end name.token.line) (end_in c.lawful.result.end)
    (ap place_view c.lawful.ensures.value ∙ c.in_ok-with_part-in-Some.ensures ∙ ap (part_view field) same)
    (c.lawful.ensures.end ∙ ap lawful_end (sym named))
    (field_ends words point name table part ident value (part_view field value) end.line settled.2
    (ap (field_in ident.name value) fields.1
    ∙ ap (λ (name : List ℕ). field_in name value (Some fields.0)) (sym c.spelling.ensures) ∙ finds value))

pub returns-in-None : goal.returns-in-None
returns-in-None c words point name part at named h =
    let spellings = c.args.scopes.now.spellings.now in
    let table = table_view spellings c.args.scopes.now.types in
    let ident = ident_in spellings c.args.ident in
    let value : Place = place_view c.args.found.value in
    let end : Ending = end_in c.args.found.end in
    let settled = checked_before words (record_only table) part value end
    (is_some (fields_of table (type_of_place value))) WRONG_TYPE c.args.dot c.record_of.result.value
    c.in_ok-place.place
    refl
    (c.in_ok-place.ensures
    ∙ ap (λ (end : Ending). found_before c.args.dot (settled_by end c.record_of.result.value))
    c.record_of.ensures.end) h in
    let same : place_view c.in_ok-place.place ≡ value = ap place_view (settled.1 ∙ c.record_of.ensures.value) in
    let fields = some_there (fields_of table (type_of_place value)) settled.0 in
    let finds : Finds (λ place. field_in c.spelling.result.now place (Some fields.0)) None =
    subst (Finds (λ place. field_in c.spelling.result.now place (Some fields.0))) c.in-None.is
    (c.in_ok-field.ensures fields.0
    (ap (fields_of table) (sym c.pas_type.ensures ∙ ap type_of_place same) ∙ fields.1)) in
    subst (StopsBy (words ++ point ∷ (name ∷ [])) (field_of table part ident))
    (ap (λ line. shown_in line (wrong UNKNOWN_NAME)) named ∙ sym c.fault.ensures)
    (no_field_stops words point name table part ident value end.line settled.2
    (ap (field_in ident.name value) fields.1
    ∙ ap (λ (name : List ℕ). field_in name value (Some fields.0)) (sym c.spelling.ensures) ∙ finds value))
