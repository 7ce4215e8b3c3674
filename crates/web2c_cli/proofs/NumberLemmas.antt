-- Numbers that are read digit by digit.
use Rattle.std.proofs.Common.{◌≡◌, ◌∙◌, ℕ, suc, ◌+◌, ◌-◌, ◌*◌, ◌<◌, ◌≤◌, List, [], ◌∷◌, length, drop, drop-cons}
use Rattle.std.proofs.Common.{get_or, fold, Bool, true, false, ◌&&◌, nat_le, refl, sym, ap, arith}
use Rattle.std.proofs.lemmas.Bool.Decides.{nat_tests}
use Rattle.web2c_cli.specs.CommandLine.{number_written, is_number_within}

-- a number with one more digit
abbrev pub with_digit : ℕ → ℕ → ℕ
with_digit number digit = number * 10 + (digit - 48)

-- digits make no number smaller
pub le_with_digits : (number : ℕ) (digits : List ℕ) → number ≤ fold with_digit number digits
le_with_digits number [] = omega arith
le_with_digits number (digit ∷ digits) =
    let more : with_digit number digit ≤ fold with_digit (with_digit number digit) digits =
    le_with_digits (with_digit number digit) digits in
    omega arith

and_false : (a b : Bool) → b ≡ false → (a && b) ≡ false
and_false true b is = is
and_false false b is = refl

above : (m n : ℕ) → n < m → nat_le m n ≡ false
above m n less = grind (arith, nat_tests)

-- a text whose number passes the most at one of its digits
pub passes_most : (least most number : ℕ) (text : List ℕ) (i : ℕ) → i < length text
    → fold with_digit number (drop i text) ≡ number_written text → most < with_digit number (get_or text i 0)
    → is_number_within least most text ≡ false
passes_most least most number text i inside is more =
    let split : drop i text ≡ get_or text i 0 ∷ drop (suc i) text = drop-cons text i 0 inside in
    let whole : fold with_digit (with_digit number (get_or text i 0)) (drop (suc i) text) ≡ number_written text =
    sym (ap (fold with_digit number) split) ∙ is in
    let least_of : with_digit number (get_or text i 0) ≤ fold with_digit (with_digit number (get_or text i 0))
    (drop (suc i) text) =
    le_with_digits (with_digit number (get_or text i 0)) (drop (suc i) text) in
    and_false _ _ (above (number_written text) most (omega arith))
