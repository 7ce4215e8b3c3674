use Rattle.std.proofs.Common.{ℕ, List, drop}
use Rattle.pas_typed.specs.TypedViews.{statements_view}
use Rattle.pas_run.proofs.ListLemmas.{IsLater}
use Rattle.pas_run.proofs.loops.list_at.Given as goal

abbrev pub invariant-loop-place : goal.invariant-loop-place
invariant-loop-place l =
    (spellings : List ℕ)
    → IsLater l.label (statements_view spellings l.list) (statements_view spellings (drop l.place l.list))
