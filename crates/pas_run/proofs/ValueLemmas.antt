-- Values over a machine, by their forms.
use Rattle.std.proofs.Common.{◌≡◌, ℕ, ◌≤◌, ℤ, pos, refl, subst, Bool, true, false, Some}
use Rattle.std.proofs.Common.{if◌then◌else◌, ◌&&◌, ap₂, neg_ℤ, ◌≤ℤ◌, ◌⊎◌, inl, inr, Result, arith, T}
use Rattle.std.specs.Prelude.{int_le}
use Rattle.std.proofs.lemmas.Int.{ints}
use Rattle.std.proofs.lemmas.Float.{T_from_true}
use lib.Signed.{le_z_yes}
use Rattle.std.specs.Bool.{IsTrue}
use Rattle.pas_syntax.specs.declared.operators.Multiplying.{Multiplying}
use Rattle.pas_syntax.specs.declared.operators.Multiplying.TheVariants as multiplying
use Rattle.pas_syntax.specs.declared.operators.Adding.{Adding}
use Rattle.pas_syntax.specs.declared.operators.Adding.TheVariants as adding
use Rattle.pas_tokens.specs.declared.limits.TheConstants.{GREATEST_NUMBER}
use Rattle.pas_typed.specs.Types.{Base, integer, char, boolean, whole, all_of, is_within}
use Rattle.pas_typed.specs.Typed as typed
use Rattle.pas_typed.specs.Typed.{Value, TypedProgram}
use Rattle.pas_meaning.specs.declared.errors.TheConstants.{CALL_LIMIT}
use Rattle.pas_meaning.specs.Outcome.{Doing, pure}
use Rattle.pas_meaning.specs.Store.{Datum, holds, Store, fits}
use Rattle.pas_meaning.specs.Answers.{fine, wrong}
use Rattle.pas_meaning.specs.declared.errors.TheConstants.{PAST_MAXINT}
use Rattle.pas_meaning.specs.Arithmetic.{within_maxint, multiplied, added}
use Rattle.pas_meaning.specs.Operands.{operand}
use Rattle.pas_meaning.specs.Run as meaning
use Rattle.pas_meaning.specs.Laws.{Goes}
use Rattle.pas_meaning.specs.Standing.{Kinds}
use Rattle.pas_meaning.proofs.OnwardLemmas.{goes_pure, goes_if}
use Rattle.pas_meaning.proofs.GoesLemmas.{goes_value, goes_within, goes_operand_alone}
use Rattle.pas_run.specs.declared.ends.Stop.{Stop}
use Rattle.pas_run.specs.inner.MachineState.{MachineState}
use Rattle.pas_run.specs.inner.Doings.{Same, IsNumber, Does, Answers}
use Rattle.pas_run.specs.inner.Evaluating.{value_of, twice}
use Rattle.pas_run.proofs.OperandLemmas.{does_worked}

-- a constant is an integer
true_from : (is : Bool) → T is → is ≡ true
true_from true t = refl
true_from false t = absurd t

both : (one other : Bool) → (one && other) ≡ true → (one ≡ true) × (other ≡ true)
both true true is = (refl, refl)
both true false is = absurd (cc)
both false other is = absurd (cc)

wide : (high : ℕ) (number : ℤ) → high ≤ GREATEST_NUMBER → pos 0 ≤ℤ number → number ≤ℤ pos high
    → (neg_ℤ (pos GREATEST_NUMBER) ≤ℤ number) × (number ≤ℤ pos GREATEST_NUMBER)
wide high number small above below = (omega (arith, ints, small), omega (arith, ints, small))

wider : (high : ℕ) (number : ℤ) → high ≤ GREATEST_NUMBER → (int_le (pos 0) number && int_le number (pos high)) ≡ true
    → is_within (all_of integer) number ≡ true
wider high number small is =
    let sides = both (int_le (pos 0) number) (int_le number (pos high)) is in
    let found = wide high number small (le_z_yes (T_from_true _ sides.0)) (le_z_yes (T_from_true _ sides.1)) in
    ap₂ ◌&&◌ (true_from _ found.0.le) (true_from _ found.1.le)

is_integer : (base : Base) (number : ℤ) → IsTrue (is_within (all_of base) number)
    → is_within (all_of integer) number ≡ true
is_integer integer number is = is
is_integer char number is = wider 255 number (omega arith) is
is_integer boolean number is = wider 1 number (omega arith) is

pub does_constant : (most : ℕ) (kinds : Kinds) (base : Base) (number : ℤ) (machine : MachineState)
    (result : Result ℤ Stop) → IsTrue (is_within (all_of base) number) → Answers Same (within_maxint number) result
    → Does most kinds kinds IsNumber (pure (holds number)) machine machine result
does_constant most kinds base number machine result is answers =
    does_worked most kinds (fine number) machine result
    (subst (λ (within : Bool). Answers Same (if within then fine number else wrong PAST_MAXINT) result)
    (is_integer base number is) answers)

-- what an operator is that is none of both truths
pub none_and : (op : Multiplying) → (op ≡ multiplying.Times) ⊎ ((op ≡ multiplying.Div) ⊎ (op ≡ multiplying.Mod))
    → op ≡ multiplying.And → ⊥
none_and op (inl same) is = cc
none_and op (inr (inl same)) is = cc
none_and op (inr (inr same)) is = cc

pub none_or : (op : Adding) → (op ≡ adding.Plus) ⊎ (op ≡ adding.Minus) → op ≡ adding.Or → ⊥
none_or op (inl same) is = cc
none_or op (inr same) is = cc

module _ (program : TypedProgram) (most : ℕ) where
  pub goes_value_of : (found : Value) → Goes (value_of program most found)
  goes_value_of found =
      goes_value (Some CALL_LIMIT) program (meaning.within (Some CALL_LIMIT) program most)
      (goes_within (Some CALL_LIMIT) program most) found

  -- what is done behind the left side of `and` and of `or`
  abbrev pub boolean_of : Value → Doing Store Datum
  boolean_of right = operand (fits program.types (whole boolean)) (value_of program most right)

  abbrev pub and_by : Value → Bool → Doing Store Datum
  and_by right first = if first then boolean_of right else pure (meaning.boolean false)

  abbrev pub or_by : Value → Bool → Doing Store Datum
  or_by right first = if first then pure (meaning.boolean true) else boolean_of right

  goes_boolean : (right : Value) → Goes (boolean_of right)
  goes_boolean right = goes_operand_alone (fits program.types (whole boolean)) (goes_value_of right)

  pub goes_and : (right : Value) (first : Bool) → Goes (and_by right first)
  goes_and right first = goes_if first (goes_boolean right) (goes_pure (meaning.boolean false))

  pub goes_or : (right : Value) (first : Bool) → Goes (or_by right first)
  goes_or right first = goes_if first (goes_pure (meaning.boolean true)) (goes_boolean right)

  -- other operators between factors and between terms
  module _ (kinds : Kinds) (before now : MachineState) (result : Result ℤ Stop) (left right : Value) where
    pub does_product : (op : Multiplying) → (op ≡ multiplying.And → ⊥)
        → Does most kinds kinds IsNumber (twice (multiplied op) (value_of program most left)
        (value_of program most right)) before now result
        → Does most kinds kinds IsNumber (value_of program most (typed.product left op right)) before now result
    does_product multiplying.And other does = absurd (other refl)
    does_product multiplying.Times other does = does
    does_product multiplying.Div other does = does
    does_product multiplying.Mod other does = does

    pub does_addition : (op : Adding) → (op ≡ adding.Or → ⊥)
        → Does most kinds kinds IsNumber (twice (added op) (value_of program most left)
        (value_of program most right)) before now result
        → Does most kinds kinds IsNumber (value_of program most (typed.addition left op right)) before now result
    does_addition adding.Or other does = absurd (other refl)
    does_addition adding.Plus other does = does
    does_addition adding.Minus other does = does
