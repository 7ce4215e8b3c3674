use Rattle.std.proofs.Common.{◌≡◌, false, ℕ, List, take}
use Rattle.pas_typed.specs.TypedViews.{statements_view, arms_view}
use Rattle.pas_rules.specs.Routines.{list_gives_result, arm_gives_result}
use Rattle.pas_types.proofs.results.+results.Given as goal

abbrev pub invariant-list_gives_result-loop-labelled : goal.invariant-list_gives_result-loop-labelled
invariant-list_gives_result-loop-labelled l =
    (spellings : List ℕ)
    → list_gives_result (statements_view spellings (take l.labelled-index l.list)) ≡ false

abbrev pub invariant-arms_give_result-loop-arm : goal.invariant-arms_give_result-loop-arm
invariant-arms_give_result-loop-arm l =
    (spellings : List ℕ) → arm_gives_result (arms_view spellings (take l.arm-index l.arms)) ≡ false
