use Rattle.std.proofs.Common.{◌≡◌, ◌<◌, ◌∙◌, sym, get_or, false, arith}
use Rattle.web2c_cli.specs.CommandLine.{is_number_within}
use Rattle.web2c_cli.proofs.NumberLemmas.{with_digit, passes_most}
use Rattle.web2c_cli.proofs.PartsLemmas.{cond_false}
use Rattle.web2c_cli.proofs.parts.number_within.Goals as goal

pub returns-in_err-checked_mul : goal.returns-in_err-checked_mul
returns-in_err-checked_mul c =
    let more : c.args.most < with_digit c.loop-byte.number (get_or c.args.text.now c.loop-byte.byte-index 0) =
    omega (arith, c.in_err-checked_mul.ensures) in
    let no_number : is_number_within c.args.least c.args.most c.args.text.now ≡ false =
    passes_most _ _ _ _ _ c.loop-byte-test.true c.loop-byte.invariant.1 more in
    c.from_residual.ensures ∙ sym (cond_false _ _ _ no_number)

pub returns-in_err-number : goal.returns-in_err-number
returns-in_err-number c =
    let more : c.args.most < with_digit c.loop-byte.number (get_or c.args.text.now c.loop-byte.byte-index 0) =
    omega (arith, c.in_err-number.ensures, c.in_ok-checked_mul.ensures) in
    let no_number : is_number_within c.args.least c.args.most c.args.text.now ≡ false =
    passes_most _ _ _ _ _ c.loop-byte-test.true c.loop-byte.invariant.1 more in
    c.from_residual-in_err-number.ensures ∙ sym (cond_false _ _ _ no_number)
