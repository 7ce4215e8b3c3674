use Rattle.std.proofs.Common.{sym, ap, subst, ◌∙◌, [], ◌∷◌, ◌++◌}
use Rattle.std.specs.Prelude.{option_map}
use Rattle.std.proofs.lemmas.Result.{err_from_is_err_and}
use Rattle.pas_typed.specs.Types.{PasType, component_of}
use Rattle.pas_typed.specs.Typed as typed
use Rattle.pas_typed.specs.Typed.{Place}
use Rattle.pas_typed.specs.TypeViews.{type_view, table_view}
use Rattle.pas_typed.specs.TypedViews.{place_view}
use Rattle.pas_typed.specs.declared.typed.Place as code_place
use Rattle.pas_typed.proofs.ValueViews.{part_view-Buffer}
use Rattle.pas_rules.specs.Expressions.{buffer_of}
use Rattle.pas_scopes.specs.Answers.{Ending, end_in, closed_end, StopsBy}
use Rattle.pas_scopes.proofs.AnswerLemmas.{answers_stop, ends_moved}
use Rattle.pas_scopes.proofs.PlaceLemmas.{buffer_unclosed, buffer_ends, no_file_stops}
use Rattle.pas_scopes.proofs.variables.buffer_of.Goals as goal

pub returns-in_err-file-in-Some : goal.returns-in_err-file-in-Some
returns-in_err-file-in-Some c words word part at h =
    let spellings = c.args.scopes.now.spellings.now in
    let table = table_view spellings c.args.scopes.now.types in
    let why = c.in_err-file-in-Some.field-0.0 in
    answers_stop (words ++ word ∷ []) (buffer_of table part) place_view why c.from_residual.result
    (err_from_is_err_and _ c.from_residual.ensures.1)
    (buffer_unclosed words word table part (place_view c.args.found.value) (end_in c.args.found.end) h
    (type_view c.in-Some.component) why
    (ap (component_of table) c.pas_type.ensures ∙ c.component_of.ensures spellings
    ∙ ap (option_map type_view) c.in-Some.is) c.in_err-file-in-Some.ensures)

pub returns-in_ok-with_part-in-Some : goal.returns-in_ok-with_part-in-Some
returns-in_ok-with_part-in-Some c words word part at h =
    let spellings = c.args.scopes.now.spellings.now in
    let table = table_view spellings c.args.scopes.now.types in
    let place : Place = place_view c.args.found.value in
    let end : Ending = end_in c.args.found.end in
    let component : PasType = type_view c.in-Some.component in
    ends_moved (words ++ word ∷ []) (buffer_of table part) (typed.buffer place component) _
    (closed_end word.token.line end) (end_in c.in_ok-file-in-Some.file.end)
    (c.in_ok-with_part-in-Some.ensures
    ∙ ap (λ (make : Place → Place). make (place_view c.in_ok-file-in-Some.file.value))
    (part_view-Buffer c.in-Some.component)
    ∙ ap (λ (found : code_place.Place). typed.buffer (place_view found) component) c.in_ok-file-in-Some.ensures.1)
    (c.in_ok-file-in-Some.ensures.2 ∙ ap (λ line. closed_end line end) (sym at))
    (buffer_ends words word table part place end h component
    (ap (component_of table) c.pas_type.ensures ∙ c.component_of.ensures spellings
    ∙ ap (option_map type_view) c.in-Some.is) c.in_ok-file-in-Some.ensures.0)

pub returns-in-None : goal.returns-in-None
returns-in-None c words word part at h =
    let spellings = c.args.scopes.now.spellings.now in
    let table = table_view spellings c.args.scopes.now.types in
    subst (StopsBy (words ++ word ∷ []) (buffer_of table part)) (sym c.shows.ensures)
    (no_file_stops words word table part (place_view c.args.found.value) (end_in c.args.found.end) h
    (ap (component_of table) c.pas_type.ensures ∙ c.component_of.ensures spellings
    ∙ ap (option_map type_view) c.in-None.is))
