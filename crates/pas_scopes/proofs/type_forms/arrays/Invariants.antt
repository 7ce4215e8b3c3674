use Rattle.std.proofs.Common.{◌≡◌, ◌≤◌, ℕ, List, map, drop, length}
use Rattle.pas_typed.specs.Types.{Made}
use Rattle.pas_typed.specs.TypeViews.{range_view, type_view, table_view}
use Rattle.pas_rules.specs.TypeForms as spec
use Rattle.pas_scopes.specs.FormAnswers.{Grows}
use Rattle.pas_scopes.proofs.type_forms.arrays.Given as goal

abbrev pub invariant-loop-left : goal.invariant-loop-left
invariant-loop-left l = record {
  grows : Grows l.fn.types l.types;
  within : l.left ≤ length l.ranges;
  same : (spellings : List ℕ) → ◌≡◌ {A = Made} (record {
    type = type_view l.made;
    table = table_view spellings l.types;
  }) (spec.arrays (table_view spellings l.fn.types) (map range_view (drop l.left l.ranges)) (type_view l.fn.element));
}

abbrev pub decreases-loop-left : goal.decreases-loop-left
decreases-loop-left l = l.left
