use Rattle.std.proofs.Common.{◌≡◌, map}
use Rattle.pas_types.proofs.labels.Labels.numbers.Given as goal

abbrev pub invariant-loop-number : goal.invariant-loop-number
invariant-loop-number l = l.numbers ≡ map (λ number. number.now) l.yielded
