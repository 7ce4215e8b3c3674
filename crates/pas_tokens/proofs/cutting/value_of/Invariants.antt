use Rattle.std.proofs.Common.{◌≡◌, ◌≤◌, take}
use Rattle.pas_tokens.specs.declared.limits.TheConstants.{GREATEST_NUMBER}
use Rattle.pas_tokens.specs.Cutting.{value_of}
use Rattle.pas_tokens.proofs.cutting.value_of.Given as goal

abbrev pub invariant-loop-digit : goal.invariant-loop-digit
invariant-loop-digit l = record {
  so_far : l.value ≡ value_of (take l.digit-index l.digits);
  small : l.value ≤ GREATEST_NUMBER;
}
