use Rattle.std.proofs.Common.{◌≡◌, ◌+◌, length}
use Rattle.pas_typed.specs.Texts.{undoubled}
use Rattle.pas_run.proofs.quoted.text_length.Given as goal

abbrev pub invariant-loop-rest : goal.invariant-loop-rest
invariant-loop-rest l = l.count + length (undoubled l.rest) ≡ length (undoubled l.fn.spelled)

abbrev pub decreases-loop-rest : goal.decreases-loop-rest
decreases-loop-rest l = length (undoubled l.rest)
