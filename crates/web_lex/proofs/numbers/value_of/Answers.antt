use Rattle.std.proofs.Common.{◌<◌, arith, ap, sym, None, Some, cond}
use Rattle.std.proofs.lemmas.Bool.{lt-ltb}
use Rattle.web_lex.specs.Token.{value_in, greatest_value}
use Rattle.web_lex.proofs.NumberLemmas.{fold-past}
use Rattle.web_lex.proofs.numbers.value_of.Goals as goal

pub returns-then-value-gt-GREATEST_VALUE : goal.returns-then-value-gt-GREATEST_VALUE
returns-then-value-gt-GREATEST_VALUE c =
    let base = c.args.base in
    let digits = c.args.digits.now in
    let past = fold-past base digits c.loop-digit.digit-index 0 c.loop-digit.value c.requires.low
    c.loop-digit.invariant.so_far (omega arith) in
    let over : greatest_value < value_in base digits = omega (arith, past) in
    sym (ap (λ b. cond b None (Some (value_in base digits))) (lt-ltb greatest_value (value_in base digits) over))
