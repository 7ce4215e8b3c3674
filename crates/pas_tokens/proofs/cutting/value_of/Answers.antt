use Rattle.std.proofs.Common.{◌<◌, arith, ap, sym, None, Some, cond}
use Rattle.std.proofs.lemmas.Bool.{lt-ltb}
use Rattle.pas_tokens.specs.declared.limits.TheConstants.{GREATEST_NUMBER}
use Rattle.pas_tokens.specs.Cutting.{value_of}
use Rattle.pas_tokens.proofs.NumberLemmas.{fold-past}
use Rattle.pas_tokens.proofs.cutting.value_of.Goals as goal

pub returns-then-value-from : goal.returns-then-value-from
returns-then-value-from c =
    let digits = c.args.digits.now in
    let past = fold-past digits c.loop-digit.digit-index 0 c.loop-digit.value c.loop-digit.invariant.so_far
    (omega arith) in
    let over : GREATEST_NUMBER < value_of digits = omega (arith, past) in
    sym (ap (λ b. cond b None (Some (value_of digits))) (lt-ltb GREATEST_NUMBER (value_of digits) over))
