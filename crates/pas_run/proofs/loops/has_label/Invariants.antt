use Rattle.std.proofs.Common.{◌≡◌, ℕ, List, drop}
use Rattle.pas_typed.specs.TypedViews.{statements_view}
use Rattle.pas_meaning.specs.Run.{has_label}
use Rattle.pas_run.proofs.loops.has_label.Given as goal

abbrev pub invariant-loop-item : goal.invariant-loop-item
invariant-loop-item l =
    (spellings : List ℕ)
    → has_label (statements_view spellings l.list) l.label
    ≡ has_label (statements_view spellings (drop l.item-index l.list)) l.label
