use Rattle.std.proofs.Common.{◌≡◌, ◌≤◌, take}
use Rattle.web_lex.specs.Token.{value_in, greatest_value}
use Rattle.web_lex.proofs.numbers.value_of.Given as goal

abbrev pub invariant-loop-digit : goal.invariant-loop-digit
invariant-loop-digit l = record {
  so_far : l.value ≡ value_in l.base (take l.digit-index l.digits);
  small : l.value ≤ greatest_value;
}
