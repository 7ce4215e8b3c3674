use Rattle.std.proofs.Common.{refl, sym, ap, subst, ◌∙◌, ◌∷◌, ◌++◌, Bool}
use Rattle.std.proofs.lemmas.Result.{err_from_is_err_and}
use Rattle.wb_base.specs.declared.faults.TheConstants.{WRONG_TYPE}
use Rattle.pas_typed.specs.Types.{is_of, ArrayParts}
use Rattle.pas_typed.specs.Typed as typed
use Rattle.pas_typed.specs.Typed.{Place, Value}
use Rattle.pas_typed.specs.TypeOf.{type_of}
use Rattle.pas_typed.specs.TypeViews.{elements_view, table_view}
use Rattle.pas_typed.specs.TypedViews.{place_view, value_view}
use Rattle.pas_typed.specs.declared.typed.Value as code_value
use Rattle.pas_typed.proofs.ValueViews.{part_view-Element}
use Rattle.pas_rules.specs.Expressions.{element_of}
use Rattle.pas_scopes.specs.Answers.{Ending, end_in, stands_by, noted_end, StandsAs}
use Rattle.pas_scopes.proofs.AnswerLemmas.{stands_stop}
use Rattle.pas_scopes.proofs.PlaceLemmas.{element_refused, element_stands}
use Rattle.pas_scopes.proofs.variables.element_by.Goals as goal

pub returns-in_err-stands : goal.returns-in_err-stands
returns-in_err-stands c words more word before part line h is k =
    let table = table_view c.args.scopes.now.spellings.now c.args.scopes.now.types in
    let parts : ArrayParts = elements_view c.args.parts in
    let holds : Bool = is_of parts.indexes.base table (type_of (value_view c.args.index.value)) in
    let why = c.in_err-stands.field-0.0 in
    stands_stop (words ++ word ∷ more) (element_of table before part) place_view why c.from_residual.result
    (err_from_is_err_and _ c.from_residual.ensures.1)
    (element_refused words more word table before part (place_view c.args.place) line parts
    (value_view c.args.index.value) (end_in c.args.index.end) h is k holds why refl
    (c.in_err-stands.ensures ∙ ap stands_by c.only-index.ensures.end))

pub returns : goal.returns
returns c words more word before part line h is k =
    let table = table_view c.args.scopes.now.spellings.now c.args.scopes.now.types in
    let parts : ArrayParts = elements_view c.args.parts in
    let place : Place = place_view c.args.place in
    let found : Value = value_view c.args.index.value in
    let holds : Bool = is_of parts.indexes.base table (type_of found) in
    let stands : StandsAs (words ++ word ∷ more) (element_of table before part)
    (typed.element place parts.indexes parts.element found) (noted_end holds WRONG_TYPE (end_in c.args.index.end)) =
    element_stands words more word table before part place line parts found (end_in c.args.index.end) h is k holds refl
    (c.in_ok-stands.ensures ∙ ap stands_by c.only-index.ensures.end) in
    subst (λ (item : Place). StandsAs (words ++ word ∷ more) (element_of table before part) item
    (end_in c.only-index.result.end))
    (sym (c.in_ok-with_part.ensures
    ∙ ap (λ (make : Place → Place). make place)
    (part_view-Element c.args.parts.indexes c.args.parts.element c.only-index.result.value)
    ∙ ap (λ (value : code_value.Value). typed.element place parts.indexes parts.element (value_view value))
    c.only-index.ensures.value))
    (subst (λ (end : Ending). StandsAs (words ++ word ∷ more) (element_of table before part)
    (typed.element place parts.indexes parts.element found) end) (sym c.only-index.ensures.end) stands)
