-- What holds of each item of an expansion, so that what takes it need not look.
use Rattle.std.specs.Prelude.{ℕ, ◌≤◌, ℤ, pos, negsuc, ◌≤ℤ◌, length}
use Rattle.macro_expand.specs.Items.{Expanded, digit, number, word}

-- the value is one of a constant
pub record IsConstant (value : ℤ) : Type 0 where
  pub low : negsuc 2147483646 ≤ℤ value
  pub high : value ≤ℤ pos 2147483647

-- the byte is a decimal digit
pub record IsDigit (byte : ℕ) : Type 0 where
  pub low : 48 ≤ byte
  pub high : byte ≤ 57

-- a digit is decimal, a number is one of a constant, and a word was cut
abbrev pub IsFoldable : Expanded → Type 0
IsFoldable (digit byte) = IsDigit byte
IsFoldable (number value) = IsConstant value
IsFoldable (word bytes) = length bytes ≤ 50
IsFoldable item = Unit {0}
