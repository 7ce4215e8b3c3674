use Rattle.std.proofs.Common.{◌≡◌, ◌∷◌, map, take}
use Rattle.pas_types.proofs.checking.values_of.Given as goal

abbrev pub invariant-loop-behind : goal.invariant-loop-behind
invariant-loop-behind l =
    l.values ≡ l.numerals.first.value ∷ map (λ behind. behind.item.value) (take l.behind-index l.behind-items)
