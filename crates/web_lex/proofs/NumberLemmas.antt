-- The value of digits only grows with each further digit.
use Rattle.std.proofs.Common.{◌≡◌, ℕ, zero, suc, ◌+◌, ◌*◌, ◌<◌, ◌≤◌, List, [], ◌∷◌, length, take, get_or, sym}
use Rattle.std.proofs.Common.{arith, subst}
use Rattle.std.specs.Prelude.{fold}
use Rattle.web_lex.specs.Token.{value_of_digit}

-- with one digit more
abbrev pub with_digit : ℕ → ℕ → ℕ → ℕ
with_digit base value byte = value * base + value_of_digit byte

grows : (base value byte : ℕ) → 0 < base → value ≤ with_digit base value byte
grows zero value byte some = absurd (omega arith)
grows (suc base) value byte some = grind arith

fold-grows : (base : ℕ) (digits : List ℕ) (value : ℕ) → 0 < base → value ≤ fold (with_digit base) value digits
fold-grows base [] value some = omega arith
fold-grows base (digit ∷ digits) value some =
    omega (arith, grows base value digit some, fold-grows base digits (with_digit base value digit) some)

-- all digits are worth at least those up to one of them
pub fold-past :
    (base : ℕ) (digits : List ℕ) (index start value : ℕ) → 0 < base
    → value ≡ fold (with_digit base) start (take index digits)
    → index < length digits → with_digit base value (get_or digits index 0) ≤ fold (with_digit base) start digits
fold-past base [] index start value some is within = absurd (omega arith)
fold-past base (digit ∷ digits) zero start value some is within =
    let P : ℕ → Type 0 = λ v. with_digit base v digit ≤ fold (with_digit base) (with_digit base start digit) digits in
    subst P (sym is) (fold-grows base digits (with_digit base start digit) some)
fold-past base (digit ∷ digits) (suc index) start value some is within =
    fold-past base digits index (with_digit base start digit) value some is (omega arith)
