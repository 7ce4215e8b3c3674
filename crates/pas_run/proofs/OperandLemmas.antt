-- Operands over a machine: values one after another, each behind its check, and what is worked out of them.
use Rattle.std.proofs.Common.{ℕ, ℤ, refl, sym, ap, subst, Bool, Result, Ok, Err}
use Rattle.pas_meaning.specs.Answers.{Answer}
use Rattle.pas_meaning.specs.Outcome.{Doing, pure, ◌>>=◌, answered}
use Rattle.pas_meaning.specs.Store.{Datum, holds, Store, number_of}
use Rattle.pas_meaning.specs.Operands.{operand, truth_of}
use Rattle.pas_meaning.specs.Standing.{Kinds}
use Rattle.pas_meaning.specs.Laws.{Goes}
use Rattle.pas_meaning.proofs.OnwardLemmas.{goes_bind, goes_pure, goes_answered}
use Rattle.pas_meaning.proofs.GoesLemmas.{goes_operand, goes_operand_alone}
use Rattle.pas_run.specs.declared.ends.Stop.{Stop}
use Rattle.pas_run.specs.declared.ends.Stop.TheVariants as stop
use Rattle.pas_run.specs.inner.MachineState.{MachineState}
use Rattle.pas_run.specs.inner.Doings.{Same, IsNumber, Does, Answers}
use Rattle.pas_run.specs.inner.Evaluating.{once, twice}
use Rattle.pas_run.proofs.DoesLemmas.{does_stop, does_next, does_pure, does_answered}

-- where no memory was found, nothing is said
pub does_no_memory : {A T : Type 0} (most : ℕ) (kinds later : Kinds) (Is : T → A → Type 0) (doing : Doing Store A)
    (before now : MachineState) → Does most kinds later Is doing before now (Err stop.OutOfMemory)
does_no_memory most kinds later Is doing before now = record { each = λ ports run stands within. tt }

-- an operand behind its check
module _ {A T : Type 0} (most : ℕ) (kinds : Kinds) (Is : T → A → Type 0) (check : Datum → Answer A)
    (evaluated : Doing Store Datum) (before now : MachineState) where
  pub operand_stop : (why : Stop) → Does {T = ℤ} most kinds kinds IsNumber evaluated before now (Err why)
      → Does most kinds kinds Is (operand check evaluated) before now (Err why)
  operand_stop why does =
      does_stop most kinds kinds kinds IsNumber Is evaluated (λ datum. answered (check datum)) before now why
      (λ datum. goes_answered (check datum)) does

  pub operand_next : (found : ℤ) (result : Result T Stop) → Goes evaluated
      → Does most kinds kinds IsNumber evaluated before now (Ok found) → Answers Is (check (holds found)) result
      → Does most kinds kinds Is (operand check evaluated) before now result
  operand_next found result goes does answers =
      does_next most kinds kinds kinds IsNumber Is evaluated (λ datum. answered (check datum)) before now now found
      result goes does (λ datum same. does_answered most kinds Is (check datum) now result
      (subst (λ datum. Answers Is (check datum) result) (sym same) answers))

-- a number is an operand
pub as_number : (most : ℕ) (kinds : Kinds) (evaluated : Doing Store Datum) (before now : MachineState)
    (found : ℤ) → Goes evaluated → Does most kinds kinds IsNumber evaluated before now (Ok found)
    → Does most kinds kinds Same (operand number_of evaluated) before now (Ok found)
as_number most kinds evaluated before now found goes does =
    operand_next most kinds Same number_of evaluated before now found (Ok found) goes does (found, refl, refl)

-- what is worked out
goes_worked : (answer : Answer ℤ) → Goes {S = Store} (answered answer >>= (λ result. pure (holds result)))
goes_worked answer = goes_bind (goes_answered answer) (λ result. goes_pure (holds result))

pub does_worked : (most : ℕ) (kinds : Kinds) (answer : Answer ℤ) (machine : MachineState) (result : Result ℤ Stop)
    → Answers Same answer result
    → Does most kinds kinds IsNumber (answered answer >>= (λ result. pure (holds result))) machine machine result
does_worked most kinds answer machine (Ok found) is =
    does_next most kinds kinds kinds Same IsNumber (answered answer) (λ result. pure (holds result)) machine machine
    machine found (Ok found) (goes_answered answer) (does_answered most kinds Same answer machine (Ok found) is)
    (λ value same. does_pure most kinds IsNumber found (holds value) machine (ap holds (sym same)))
does_worked most kinds answer machine (Err why) is =
    does_stop most kinds kinds kinds Same IsNumber (answered answer) (λ result. pure (holds result)) machine machine why
    (λ result. goes_pure (holds result)) (does_answered most kinds Same answer machine (Err why) is)

-- one operand, and what is worked out of it
module _ (most : ℕ) (kinds : Kinds) (work : ℤ → Answer ℤ) (one : Doing Store Datum) (before now : MachineState) where
  pub once_stop : (why : Stop) → Does {T = ℤ} most kinds kinds IsNumber one before now (Err why)
      → Does {T = ℤ} most kinds kinds IsNumber (once work one) before now (Err why)
  once_stop why does =
      does_stop most kinds kinds kinds Same IsNumber (operand number_of one)
      (λ found. answered (work found) >>= (λ result. pure (holds result))) before now why
      (λ found. goes_worked (work found)) (operand_stop {T = ℤ} most kinds Same number_of one before now why does)

  pub once_next : (found : ℤ) (result : Result ℤ Stop) → Goes one
      → Does most kinds kinds IsNumber one before now (Ok found) → Answers Same (work found) result
      → Does most kinds kinds IsNumber (once work one) before now result
  once_next found result goes does answers =
      does_next most kinds kinds kinds Same IsNumber (operand number_of one)
      (λ found. answered (work found) >>= (λ result. pure (holds result))) before now now found result
      (goes_operand_alone number_of goes) (as_number most kinds one before now found goes does)
      (λ value same. does_worked most kinds (work value) now result
      (subst (λ value. Answers Same (work value) result) same answers))

-- two operands
module _ (most : ℕ) (kinds : Kinds) (work : ℤ → ℤ → Answer ℤ) (one other : Doing Store Datum) (goes_other : Goes other)
    (before : MachineState) where
  behind : ℤ → Doing Store Datum
  behind first = once (work first) other

  goes_behind : (first : ℤ) → Goes (behind first)
  unfolding behind
  goes_behind first = goes_operand number_of goes_other (λ second. goes_worked (work first second))

  pub twice_stop : (now : MachineState) (why : Stop) → Does {T = ℤ} most kinds kinds IsNumber one before now (Err why)
      → Does {T = ℤ} most kinds kinds IsNumber (twice work one other) before now (Err why)
  unfolding behind
  twice_stop now why does =
      does_stop most kinds kinds kinds Same IsNumber (operand number_of one) behind before now why goes_behind
      (operand_stop {T = ℤ} most kinds Same number_of one before now why does)

  next : (between now : MachineState) (first : ℤ) (result : Result ℤ Stop) → Goes one
      → Does most kinds kinds IsNumber one before between (Ok first)
      → Does most kinds kinds IsNumber (behind first) between now result
      → Does most kinds kinds IsNumber (twice work one other) before now result
  unfolding behind
  next between now first result goes does then_does =
      does_next most kinds kinds kinds Same IsNumber (operand number_of one) behind before between now first result
      (goes_operand_alone number_of goes) (as_number most kinds one before between first goes does)
      (λ value same. subst (λ value. Does most kinds kinds IsNumber (behind value) between now result) same then_does)

  pub twice_stop_behind : (between now : MachineState) (first : ℤ) (why : Stop) → Goes one
      → Does most kinds kinds IsNumber one before between (Ok first)
      → Does {T = ℤ} most kinds kinds IsNumber other between now (Err why)
      → Does {T = ℤ} most kinds kinds IsNumber (twice work one other) before now (Err why)
  unfolding behind
  twice_stop_behind between now first why goes does then_does =
      next between now first (Err why) goes does (once_stop most kinds (work first) other between now why then_does)

  pub twice_next : (between now : MachineState) (first second : ℤ) (result : Result ℤ Stop) → Goes one
      → Does most kinds kinds IsNumber one before between (Ok first)
      → Does most kinds kinds IsNumber other between now (Ok second)
      → Answers Same (work first second) result
      → Does most kinds kinds IsNumber (twice work one other) before now result
  unfolding behind
  twice_next between now first second result goes does then_does answers =
      next between now first result goes does
      (once_next most kinds (work first) other between now second result goes_other then_does answers)

-- a truth, and what is done by it
module _ (most : ℕ) (kinds : Kinds) (evaluated : Doing Store Datum) (by : Bool → Doing Store Datum)
    (goes_by : (found : Bool) → Goes (by found)) (before : MachineState) where
  pub truth_stop : (now : MachineState) (why : Stop)
      → Does {T = Bool} most kinds kinds Same (operand truth_of evaluated) before now (Err why)
      → Does {T = ℤ} most kinds kinds IsNumber (operand truth_of evaluated >>= by) before now (Err why)
  truth_stop now why does =
      does_stop most kinds kinds kinds Same IsNumber (operand truth_of evaluated) by before now why goes_by does

  pub truth_next : (between now : MachineState) (found : Bool) (result : Result ℤ Stop) → Goes evaluated
      → Does most kinds kinds Same (operand truth_of evaluated) before between (Ok found)
      → Does most kinds kinds IsNumber (by found) between now result
      → Does most kinds kinds IsNumber (operand truth_of evaluated >>= by) before now result
  truth_next between now found result goes does then_does =
      does_next most kinds kinds kinds Same IsNumber (operand truth_of evaluated) by before between now found result
      (goes_operand_alone truth_of goes) does
      (λ value same. subst (λ value. Does most kinds kinds IsNumber (by value) between now result) same then_does)
