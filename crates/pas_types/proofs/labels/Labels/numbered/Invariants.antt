use Rattle.std.proofs.Common.{map, take}
use Rattle.pas_syntax.specs.Views.{numeral_in, behind_in}
use Rattle.pas_types.proofs.NumberLemmas.{SoFar}
use Rattle.pas_types.proofs.labels.Labels.numbered.Given as goal

abbrev pub invariant-loop-behind : goal.invariant-loop-behind
invariant-loop-behind l =
    SoFar (numeral_in l.numbers.first) (map (behind_in numeral_in) (take l.behind-index l.behind-items)) l.labels
