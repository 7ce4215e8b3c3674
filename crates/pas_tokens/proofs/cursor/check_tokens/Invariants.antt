use Rattle.std.proofs.Common.{◌≡◌, ◌-◌, ◌+◌, length, Err}
use Rattle.wb_base.specs.declared.faults.Fault.{Fault}
use Rattle.pas_tokens.specs.inner.Places.{IsPlaceIn, IsRead, tokens_at}
use Rattle.pas_tokens.proofs.cursor.check_tokens.Given as goal

abbrev pub invariant-loop-behind : goal.invariant-loop-behind
invariant-loop-behind l = record {
  place : IsPlaceIn l.text l.point;
  read : IsRead l.text l.point → IsRead l.text l.initial.point;
  fault : (fault : Fault) → tokens_at l.text l.point ≡ Err fault → tokens_at l.text l.initial.point ≡ Err fault;
}

abbrev pub decreases-loop-behind : goal.decreases-loop-behind
decreases-loop-behind l = length l.text + 1 - l.point.before
