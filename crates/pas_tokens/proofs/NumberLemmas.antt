-- The value of digits only grows with each further digit.
use Rattle.std.proofs.Common.{◌≡◌, ℕ, zero, suc, ◌+◌, ◌-◌, ◌*◌, ◌<◌, ◌≤◌, List, [], ◌∷◌, length, take, get_or, sym}
use Rattle.std.proofs.Common.{arith, subst}
use Rattle.std.specs.Prelude.{fold}

-- with one digit more
abbrev pub with_digit : ℕ → ℕ → ℕ
with_digit value byte = value * 10 + (byte - 48)

fold-grows : (digits : List ℕ) (value : ℕ) → value ≤ fold with_digit value digits
fold-grows [] value = omega arith
fold-grows (digit ∷ digits) value = omega (arith, fold-grows digits (with_digit value digit))

-- all digits are worth at least those up to one of them
pub fold-past :
    (digits : List ℕ) (index start value : ℕ) → value ≡ fold with_digit start (take index digits)
    → index < length digits → with_digit value (get_or digits index 0) ≤ fold with_digit start digits
fold-past [] index start value is within = absurd (omega arith)
fold-past (digit ∷ digits) zero start value is within =
    let P : ℕ → Type 0 = λ v. with_digit v digit ≤ fold with_digit (with_digit start digit) digits in
    subst P (sym is) (fold-grows digits (with_digit start digit))
fold-past (digit ∷ digits) (suc index) start value is within =
    fold-past digits index (with_digit start digit) value is (omega arith)
