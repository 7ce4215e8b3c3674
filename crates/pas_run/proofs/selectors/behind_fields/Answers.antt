use Rattle.std.proofs.Common.{Some, None, ◌≡◌, List, map, take, sum_by, sym, ap, ◌∙◌}
use Rattle.std.proofs.lemmas.Option.{same_Some}
use Rattle.pas_typed.specs.Types.{Field, cells_of}
use Rattle.pas_typed.specs.TypeViews.{field_view, counted}
use Rattle.pas_typed.specs.TypedViews.{program_view}
use Rattle.pas_run.proofs.PlaceLemmas.{taken_fields}
use Rattle.pas_run.proofs.selectors.behind_fields.Goals as goal

pub returns-in-Some-clause-cells : goal.returns-in-Some-clause-cells
returns-in-Some-clause-cells c fields is =
    let spellings = c.args.scene.program.now.spellings in
    let table = (program_view c.args.scene.program.now).types in
    let same : map (field_view spellings) c.in-Some.fields.now ≡ fields =
    same_Some _ _ (sym (c.in-Some.ensures spellings) ∙ is) in
    c.behind_cells.ensures.count (sum_by (λ (field : Field). cells_of table field.type) (take c.args.number fields))
    (ap (λ (fields : List Field). counted (sum_by (λ (field : Field). cells_of table field.type) fields))
    (ap (take c.args.number) (sym same)
    ∙ taken_fields (field_view spellings) c.in-Some.fields.now c.args.number c.min-count.result c.min-count.ensures)
    ∙ c.cells_of_all.ensures)

nothing : (fields : List Field) → None ≡ Some fields → ⊥
nothing fields same = cc

pub returns-in-None-clause-cells : goal.returns-in-None-clause-cells
returns-in-None-clause-cells c fields is =
    nothing fields (sym (c.in-None.ensures c.args.scene.program.now.spellings) ∙ is)
