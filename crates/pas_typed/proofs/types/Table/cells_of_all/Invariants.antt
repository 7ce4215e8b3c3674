use Rattle.std.proofs.Common.{◌≡◌, ℕ, List, take, sum_by}
use Rattle.pas_typed.specs.Types.{cells_of}
use Rattle.pas_typed.specs.TypeViews.{type_view, table_view, counted}
use Rattle.pas_typed.proofs.types.Table.cells_of_all.Given as goal

abbrev pub invariant-loop-field : goal.invariant-loop-field
invariant-loop-field l = (spellings : List ℕ)
    → counted (sum_by (λ field. cells_of (table_view spellings l.self) (type_view field.pas_type))
    (take l.field-index l.fields)) ≡ l.cells
