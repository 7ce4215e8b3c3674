-- Operands (ISO 7185, 6.7.1): what is evaluated, and a check that is made at once, before the next operand is
-- evaluated. Other checks are made where what is stored, written or counted is at hand. This order is this project's
-- own.
use Rattle.std.specs.Prelude.{ℕ, ℤ, nat_abs, ◌-ℤ◌, Bool}
use Rattle.pas_typed.specs.Types.{Range, all_of, char, boolean}
use Rattle.pas_meaning.specs.declared.errors.TheConstants.{OUT_OF_RANGE, INDEX_OUT_OF_RANGE}
use Rattle.pas_meaning.specs.Answers.{Answer, fine, then_answer}
use Rattle.pas_meaning.specs.Outcome.{Doing, ◌>>=◌, answered}
use Rattle.pas_meaning.specs.Store.{Datum, Store, number_of, in_range}
use Rattle.pas_meaning.specs.Arithmetic.{is_true}

-- an operand, and the check that is made at once
abbrev pub operand : {A : Type 0} → (Datum → Answer A) → Doing Store Datum → Doing Store A
operand check evaluated = do
  datum ← evaluated
  answered (check datum)

-- the checks: a number in a range, or else an error of this kind; an index, as the number of its element; a number from
-- 0 to 255; and a boolean
abbrev pub number_within : ℕ → Range → Datum → Answer ℤ
number_within kind range datum = then_answer (number_of datum) (in_range kind range)

abbrev pub element : Range → Datum → Answer ℕ
element range datum =
    then_answer (number_within INDEX_OUT_OF_RANGE range datum) (λ index. fine (nat_abs (index -ℤ range.low)))

abbrev pub byte_of : ℕ → Datum → Answer ℕ
byte_of kind datum = then_answer (number_within kind (all_of char) datum) (λ value. fine (nat_abs value))

abbrev pub truth_of : Datum → Answer Bool
truth_of datum = then_answer (number_within OUT_OF_RANGE (all_of boolean) datum) (λ value. fine (is_true value))
