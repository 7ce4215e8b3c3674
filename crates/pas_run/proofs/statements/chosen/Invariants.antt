use Rattle.std.proofs.Common.{ℕ, List, drop}
use Rattle.pas_typed.specs.TypedViews.{arms_view}
use Rattle.pas_run.proofs.ListLemmas.{IsLaterArms}
use Rattle.pas_run.proofs.statements.chosen.Given as goal

abbrev pub invariant-loop-arm : goal.invariant-loop-arm
invariant-loop-arm l =
    (spellings : List ℕ)
    → IsLaterArms l.number (arms_view spellings l.arms) (arms_view spellings (drop l.arm-index l.arms))
