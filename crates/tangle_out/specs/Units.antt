-- The units of folding: what items come to once their digits are numbers. The rule is made after that of tangle.web;
-- its form and its faults are this project's own. In a list called `before` the nearest comes first, and the first
-- last.
use Rattle.std.specs.Prelude.{ℕ, ℤ, pos, ◌+◌, ◌-◌, ◌*◌, ◌==◌, ◌||◌, Bool, false, if◌then◌else◌, List, [], ◌∷◌}
use Rattle.std.specs.Prelude.{Option, Some, None, codes}
use Rattle.std.specs.Option.{unwrap_or}
use Rattle.std.specs.Str.{str_eq_ignore_ascii_case}
use Rattle.macro_expand.specs.Items.{Expanded, digit, number, word, sign, join}
use Rattle.tangle_out.specs.declared.folding.Sign.{Sign}
use Rattle.tangle_out.specs.declared.folding.Sign.TheVariants.{Plus, Minus}

-- a unit: a sign plus or minus, a number, a sign or word of multiplication or division, a join, or any other item
pub data FoldingUnit : Type 0 where
  addition : Sign → FoldingUnit
  constant : ℤ → FoldingUnit
  product : Expanded → FoldingUnit
  joining : FoldingUnit
  other : Expanded → FoldingUnit

-- whether the bytes are the word div or mod, in any case
abbrev pub is_div_or_mod : List ℕ → Bool
is_div_or_mod bytes = str_eq_ignore_ascii_case bytes (codes "div") || str_eq_ignore_ascii_case bytes (codes "mod")

-- the unit that a sign of one byte is: `+` and `-`, `*` and `/`, and the others
abbrev pub unit_of_sign : ℕ → FoldingUnit
unit_of_sign byte =
    if byte == 43 then addition Plus
    else (if byte == 45 then addition Minus
    else (if byte == 42 || byte == 47 then product (sign byte) else other (sign byte)))

-- the unit that an item is, if it is no digit
abbrev pub unit_of : Expanded → FoldingUnit
unit_of (number value) = constant value
unit_of (sign byte) = unit_of_sign byte
unit_of (word bytes) = if is_div_or_mod bytes then product (word bytes) else other (word bytes)
unit_of join = joining
unit_of item = other item

-- the number of the digits directly before, or none where there is no digit
abbrev pub digits_before : List Expanded → Option ℕ
digits_before (digit byte ∷ before) = Some (10 * unwrap_or (digits_before before) 0 + (byte - 48))
digits_before before = None

-- the units, and after them the number
abbrev pub with_number : Option ℕ → List FoldingUnit → List FoldingUnit
with_number None units = units
with_number (Some value) units = constant (pos value) ∷ units

-- the units of the items, the nearest first; digits are no unit until another item or the end follows them
abbrev pub units_of : List Expanded → List FoldingUnit
units_of [] = []
units_of (digit byte ∷ before) = units_of before
units_of (item ∷ before) = unit_of item ∷ with_number (digits_before before) (units_of before)

-- whether the item directly before is the sign `.`
abbrev pub is_after_point : List Expanded → Bool
is_after_point (sign byte ∷ before) = byte == 46
is_after_point before = false
