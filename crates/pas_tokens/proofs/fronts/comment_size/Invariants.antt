use Rattle.std.proofs.Common.{◌≡◌, ◌-◌, length, drop}
use Rattle.pas_tokens.specs.Cutting.{behind_comment}
use Rattle.pas_tokens.proofs.fronts.comment_size.Given as goal

abbrev pub invariant-loop-size : goal.invariant-loop-size
invariant-loop-size l = behind_comment (drop l.size l.inside) ≡ behind_comment l.inside

abbrev pub decreases-loop-size : goal.decreases-loop-size
decreases-loop-size l = length l.inside - l.size
