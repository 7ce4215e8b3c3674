use Rattle.std.proofs.Common.{◌≡◌, sym, ap, ◌∙◌, Some, None}
use Rattle.std.specs.Prelude.{option_map}
use Rattle.pas_typed.specs.Types.{PasType, component_of, are_compatible}
use Rattle.pas_typed.specs.TypeViews.{type_view, table_view}
use Rattle.pas_types.proofs.transfers.takes.Goals as goal

pub returns-in-Some : goal.returns-in-Some
returns-in-Some c component is =
    let spellings = c.args.scopes.now.spellings.now in
    let table = table_view spellings c.args.scopes.now.types in
    let seen : component_of table (type_view c.args.file) ≡ Some (type_view c.in-Some.component) =
    c.component_of.ensures spellings ∙ ap (option_map type_view) c.in-Some.is in
    let same : type_view c.in-Some.component ≡ component = cc in
    sym (c.are_compatible.ensures spellings)
    ∙ ap (λ (one : PasType). are_compatible table one (type_view c.args.pas_type)) same

pub returns-in-None : goal.returns-in-None
returns-in-None c component is =
    let spellings = c.args.scopes.now.spellings.now in
    let table = table_view spellings c.args.scopes.now.types in
    let seen : component_of table (type_view c.args.file) ≡ None =
    c.component_of.ensures spellings ∙ ap (option_map type_view) c.in-None.is in
    cc
