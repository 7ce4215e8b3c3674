use Rattle.std.proofs.Common.{◌≡◌, ◌-◌, ◌+◌, length, drop}
use Rattle.pas_tokens.specs.Cutting.{string_size, longer}
use Rattle.pas_tokens.proofs.cutting.string_size.Given as goal

abbrev pub invariant-loop-size : goal.invariant-loop-size
invariant-loop-size l = string_size l.inside ≡ longer l.size (string_size (drop l.size l.inside))

abbrev pub decreases-loop-size : goal.decreases-loop-size
decreases-loop-size l = length l.inside + 2 - l.size
