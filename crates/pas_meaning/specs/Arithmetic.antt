-- Operators and required functions on numbers (ISO 7185, 6.7.2 and 6.6.6, in this project's profile).
use Rattle.std.specs.Prelude.{zero, suc, negsuc, ℤ, pos, neg_ℤ, ◌+ℤ◌, ◌-ℤ◌, ◌*ℤ◌, int_le, int_lt, int_div, nat_abs}
use Rattle.std.specs.Prelude.{◌%◌, ◌==◌}
use Rattle.std.specs.Prelude.{◌&&◌, not, Bool, true, false, if◌then◌else◌}
use Rattle.std.specs.Int.{int_rem_euclid}
use Rattle.pas_syntax.specs.declared.operators.Sign.{Sign}
use Rattle.pas_syntax.specs.declared.operators.Sign.TheVariants as sign
use Rattle.pas_syntax.specs.declared.operators.Multiplying.{Multiplying}
use Rattle.pas_syntax.specs.declared.operators.Multiplying.TheVariants as multiplying
use Rattle.pas_syntax.specs.declared.operators.Adding.{Adding}
use Rattle.pas_syntax.specs.declared.operators.Adding.TheVariants as adding
use Rattle.pas_syntax.specs.declared.operators.Relation.{Relation}
use Rattle.pas_syntax.specs.declared.operators.Relation.TheVariants as relates
use Rattle.pas_typed.specs.Types.{is_within, all_of, integer, char}
use Rattle.pas_typed.specs.Typed as typed
use Rattle.pas_typed.specs.Typed.{Function}
use Rattle.pas_meaning.specs.declared.errors.TheConstants.{PAST_MAXINT, DIVISION_BY_ZERO, MOD_BELOW_1, CHR_OUT_OF_RANGE}
use Rattle.pas_meaning.specs.Answers.{Answer, fine, wrong}

-- booleans are the numbers 0 and 1
abbrev pub truth : Bool → ℤ
truth true = pos 1
truth false = pos 0

abbrev pub is_true : ℤ → Bool
is_true (pos zero) = false
is_true (pos (suc value)) = true
is_true (negsuc value) = true

-- an integer, or an error past maxint
abbrev pub within_maxint : ℤ → Answer ℤ
within_maxint value = if is_within (all_of integer) value then fine value else wrong PAST_MAXINT

abbrev pub signed : Sign → ℤ → Answer ℤ
signed sign.Plus value = fine value
signed sign.Minus value = within_maxint (neg_ℤ value)

-- a number by a number above 0, of which the rest is not below 0
abbrev pub modulo : ℤ → ℤ → ℤ
modulo value divisor = int_rem_euclid value divisor

abbrev pub is_zero : ℤ → Bool
is_zero value = int_le value (pos 0) && int_le (pos 0) value

-- `*`, `div` and `mod`; `and` evaluates its right side only where it decides
abbrev pub multiplied : Multiplying → ℤ → ℤ → Answer ℤ
multiplied multiplying.Times left right = within_maxint (left *ℤ right)
multiplied multiplying.Div left right =
    if is_zero right then wrong DIVISION_BY_ZERO else within_maxint (int_div left right)
multiplied multiplying.Mod left right =
    if int_le (pos 1) right then fine (modulo left right) else wrong MOD_BELOW_1
multiplied multiplying.And left right = fine right

abbrev pub added : Adding → ℤ → ℤ → Answer ℤ
added adding.Plus left right = within_maxint (left +ℤ right)
added adding.Minus left right = within_maxint (left -ℤ right)
added adding.Or left right = fine right

abbrev pub is_same : ℤ → ℤ → Bool
is_same left right = int_le left right && int_le right left

abbrev pub compared : Relation → ℤ → ℤ → Bool
compared relates.Equal left right = is_same left right
compared relates.NotEqual left right = not (is_same left right)
compared relates.Less left right = int_lt left right
compared relates.LessOrEqual left right = int_le left right
compared relates.Greater left right = int_lt right left
compared relates.GreaterOrEqual left right = int_le right left

-- the required functions of one ordinal
abbrev pub is_odd : ℤ → Bool
is_odd value = nat_abs value % 2 == 1

abbrev pub function_at : Function → ℤ → Answer ℤ
function_at typed.ord value = fine value
function_at typed.chr value = if is_within (all_of char) value then fine value else wrong CHR_OUT_OF_RANGE
function_at typed.abs value = within_maxint (pos (nat_abs value))
function_at typed.odd value = fine (truth (is_odd value))
