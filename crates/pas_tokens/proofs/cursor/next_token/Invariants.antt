use Rattle.std.proofs.Common.{◌≡◌, ◌≤◌, ◌-◌, length}
use Rattle.pas_tokens.specs.inner.Places.{IsPlaceIn, tokens_at}
use Rattle.pas_tokens.proofs.cursor.next_token.Given as goal

abbrev pub invariant-loop-point : goal.invariant-loop-point
invariant-loop-point l = record {
  place : IsPlaceIn l.text l.point;
  further : l.initial.point.before ≤ l.point.before;
  same : tokens_at l.text l.point ≡ tokens_at l.text l.initial.point;
}

abbrev pub decreases-loop-point : goal.decreases-loop-point
decreases-loop-point l = length l.text - l.point.before
