use Rattle.std.proofs.Common.{Option, option_map, unwrap_or, sym, ap, ◌∙◌}
use Rattle.pas_typed.specs.Types.{PasType, whole, char, component_of}
use Rattle.pas_typed.specs.TypeViews.{type_view, table_view}
use Rattle.pas_run.proofs.transfers.components_of.Goals as goal

pub returns-in-Some : goal.returns-in-Some
returns-in-Some c =
    let spellings = c.args.scene.program.now.spellings in
    let table = table_view spellings c.args.scene.program.now.types in
    sym (ap (λ (type : PasType). unwrap_or (component_of table type) (whole char)) c.pas_type.ensures
    ∙ ap (λ (found : Option PasType). unwrap_or found (whole char))
    (c.component_of.ensures spellings ∙ ap (option_map type_view) c.in-Some.is))

pub returns-in-None : goal.returns-in-None
returns-in-None c =
    let spellings = c.args.scene.program.now.spellings in
    let table = table_view spellings c.args.scene.program.now.types in
    sym (ap (λ (type : PasType). unwrap_or (component_of table type) (whole char)) c.pas_type.ensures
    ∙ ap (λ (found : Option PasType). unwrap_or found (whole char))
    (c.component_of.ensures spellings ∙ ap (option_map type_view) c.in-None.is))
