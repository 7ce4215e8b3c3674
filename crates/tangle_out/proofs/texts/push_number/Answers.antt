use Rattle.std.proofs.Common.{ℕ, suc, ◌≤◌, ℤ, pos, negsuc, ◌≤ℤ◌, length, arith}
use Rattle.std.proofs.lemmas.Fmt.{length-decimal-le}
use Rattle.std.proofs.lemmas.Grind.{common_steps}
use Rattle.std.proofs.lemmas.Int.{ints}
use Rattle.std.specs.Fmt.{signed_decimal, decimal}
use Rattle.tangle_out.proofs.texts.push_number.Goals as goal

short_decimal : (n : ℕ) → n ≤ 4294967295 → length (decimal n) ≤ 10
short_decimal n h = length-decimal-le 10 n (omega arith) (omega arith) (omega arith)

short_number : (value : ℤ) → negsuc 4294967294 ≤ℤ value → value ≤ℤ pos 4294967295 → length (signed_decimal value) ≤ 11
short_number (pos n) low high = let h = short_decimal n (omega (arith, ints)) in omega arith
short_number (negsuc n) low high = let h = short_decimal (suc n) (omega (arith, ints)) in omega arith

pub returns-clause-items : goal.returns-clause-items
returns-clause-items c =
    let short = short_number c.args.value c.requires.low c.requires.high in
    grind (arith, common_steps, short)

pub returns-clause-len : goal.returns-clause-len
returns-clause-len c =
    let short = short_number c.args.value c.requires.low c.requires.high in
    grind (arith, common_steps, short)
