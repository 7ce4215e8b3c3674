use Rattle.std.proofs.Common.{rules, ◌≡◌, sym, ap, ◌∙◌, Bool, [], Some, None}
use Rattle.std.specs.Prelude.{is_some, if◌then◌else◌}
use Rattle.pas_typed.specs.Types.{PasType, component_of}
use Rattle.pas_typed.specs.TypeViews.{table_view}
use Rattle.pas_typed.specs.TypedViews.{place_view}
use Rattle.pas_types.proofs.FileLemmas.{whole_alone, parts_no_file}
use Rattle.pas_types.proofs.transfers.is_file_alone.Goals as goal

pub returns-then-is_empty : goal.returns-then-is_empty
returns-then-is_empty c =
    let spellings = c.args.scopes.now.spellings.now in
    let table = table_view spellings c.args.scopes.now.types in
    let place = c.args.place.now in
    let none : place.parts ≡ [] = search rules in
    whole_alone table place none
    ∙ ap (λ (is : Bool). if is then Some (place_view place) else None)
    (ap (λ (type : PasType). is_some (component_of table type)) c.pas_type.ensures ∙ c.is_file.ensures spellings)

pub returns-else-is_empty : goal.returns-else-is_empty
returns-else-is_empty c =
    let spellings = c.args.scopes.now.spellings.now in
    let table = table_view spellings c.args.scopes.now.types in
    let place = c.args.place.now in
    let some : place.parts ≡ [] → ⊥ = search rules in
    parts_no_file table place some
    ∙ sym (ap (λ (is : Bool). if is then Some (place_view place) else None) c.if-is_empty.false)
