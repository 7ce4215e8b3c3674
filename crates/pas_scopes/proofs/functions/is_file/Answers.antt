use Rattle.std.proofs.Common.{◌≡◌, refl, sym, ap, ◌∙◌, Bool, true, false, Some, None}
use Rattle.std.specs.Prelude.{is_some, if◌then◌else◌}
use Rattle.pas_typed.specs.Types.{PasType, component_of}
use Rattle.pas_typed.specs.Typed.{Value, Place, read}
use Rattle.pas_typed.specs.declared.typed.Place as code_place
use Rattle.pas_typed.specs.TypeViews.{table_view}
use Rattle.pas_typed.specs.TypedViews.{value_view, place_view}
use Rattle.pas_typed.proofs.ValueViews.{value_view-Read}
use Rattle.pas_rules.specs.Expressions.{file_in, is_file}
use Rattle.pas_scopes.proofs.functions.is_file.Goals as goal

some_if : (is : Bool) (place : Place) → is_some (if is then Some place else None) ≡ is
some_if true place = refl
some_if false place = refl

pub returns-in-Read : goal.returns-in-Read
returns-in-Read c =
    let spellings = c.args.scopes.now.spellings.now in
    let table = table_view spellings c.args.scopes.now.types in
    let place : Place = place_view c.get.result.now in
    sym (c.is_file.ensures spellings)
    ∙ ap (λ (type : PasType). is_some (component_of table type)) (sym c.pas_type.ensures)
    ∙ sym (some_if (is_file table place) place)
    ∙ ap (λ (value : Value). is_some (file_in table value))
    (sym (ap value_view c.in-Read.is ∙ value_view-Read c.in-Read.place
    ∙ ap (λ (place : code_place.Place). read (place_view place)) (sym c.get.ensures)))
