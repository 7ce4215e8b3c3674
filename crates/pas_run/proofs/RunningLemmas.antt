-- Statements one after another, as steps of a run.
use Rattle.std.proofs.Common.{◌≡◌, ℕ, zero, suc, ◌+◌, ℤ, refl, sym, ap, subst, arith, Option, Some}
use Rattle.std.proofs.Common.{Result, Ok, Err}
use Rattle.pas_typed.specs.Typed.{Statement, Statements, Arms, TypedProgram}
use Rattle.pas_meaning.specs.declared.errors.TheConstants.{CALL_LIMIT}
use Rattle.pas_meaning.specs.Outcome.{Run, Outcome, gives, ends, errs, Doing, pure, and_then, ◌>>=◌, ◌>>◌, take_step}
use Rattle.pas_meaning.specs.Store.{Store}
use Rattle.pas_meaning.specs.Run as meaning
use Rattle.pas_meaning.specs.Run.{Flow, Entry, within}
use Rattle.pas_meaning.specs.Laws.{Goes}
use Rattle.pas_meaning.specs.Standing.{Kinds}
use Rattle.pas_meaning.proofs.OnwardLemmas.{goes_pure}
use Rattle.pas_meaning.proofs.GoesLemmas.{goes_statement, goes_within, goes_list, goes_entered, goes_looped, goes_arm}
use Rattle.pas_run.specs.declared.ends.Flow.{Flow as CodeFlow}
use Rattle.pas_run.specs.declared.ends.Flow.TheVariants as flow
use Rattle.pas_run.specs.declared.ends.Stop.{Stop}
use Rattle.pas_run.specs.inner.MachineState.{MachineState}
use Rattle.pas_run.specs.inner.Doings.{Any, Same, Done, Does}
use Rattle.pas_run.specs.inner.Running.{flow_view, IsFlow, statement_of, list_of, LeadsTo, next_behind}
use Rattle.pas_run.specs.inner.Running.{entered_of, looped_of}
use Rattle.pas_run.proofs.DoesLemmas.{does_stop, does_next, does_behind_step}

-- what is the same from each run
pub does_as : {A T : Type 0} (most : ℕ) (kinds later : Kinds) (Is : T → A → Type 0) (doing other : Doing Store A)
    (before now : MachineState) (result : Result T Stop) → ((run : Run Store) → doing run ≡ other run)
    → Does most kinds later Is doing before now result → Does most kinds later Is other before now result
does_as most kinds later Is doing other before now result same does = record {
  each = λ ports run stands within.
      subst (λ outcome. Done later ports Is run.world outcome now result) (same run)
      (does.each ports run stands within);
}

-- one thing after another, however they are put together
pub bound : {S A B C : Type 0} (outcome : Outcome S A) (second : A → Doing S B) (third : B → Doing S C)
    → and_then (and_then outcome second) third ≡ and_then outcome (λ value. second value >>= third)
bound (gives value run) second third = refl
bound (ends end world) second third = refl
bound (errs kind world) second third = refl

bound_three : {S A B C D : Type 0} (outcome : Outcome S A) (second : A → Doing S B) (third : A → B → Doing S C)
    (last : C → Doing S D)
    → and_then (and_then outcome (λ value. second value >>= third value)) last
    ≡ and_then outcome (λ value. second value >>= (λ found. third value found >>= last))
bound_three (gives value run) second third last = bound (second value run) (third value) last
bound_three (ends end world) second third last = refl
bound_three (errs kind world) second third last = refl

-- a statement that did what it does goes on behind itself
module _ (most : ℕ) (kinds : Kinds) (before now : MachineState) where
  pub does_behind : {A : Type 0} (doing : Doing Store A) (result : Result (Unit {0}) Stop)
      → Does most kinds kinds Any doing before now result
      → Does most kinds kinds IsFlow (doing >> pure meaning.next) before now (next_behind result)
  does_behind doing (Ok done) does = record {
    each = λ ports run stands within.
        let given = does.each ports run stands within in
        record {
          value = meaning.next;
          run = given.run;
          same = ap (λ outcome. and_then outcome (λ _. pure meaning.next)) given.same;
          is = refl;
          stands = given.stands;
        };
  }
  does_behind doing (Err why) does =
      does_stop most kinds kinds kinds Any IsFlow doing (λ _. pure meaning.next) before now why
      (λ _. goes_pure meaning.next) does

  pub does_behind_two : {A B : Type 0} (first : Doing Store A) (second : A → Doing Store B)
      (result : Result (Unit {0}) Stop)
      → Does most kinds kinds Any (first >>= second) before now result
      → Does most kinds kinds IsFlow (first >>= (λ value. second value >> pure meaning.next)) before now
      (next_behind result)
  does_behind_two first second result does =
      does_as most kinds kinds IsFlow ((first >>= second) >> pure meaning.next) _ before now (next_behind result)
      (λ run. bound (first run) second (λ _. pure meaning.next)) (does_behind (first >>= second) result does)

  pub does_behind_three : {A B C : Type 0} (first : Doing Store A) (second : A → Doing Store B)
      (third : A → Doing Store C) (result : Result (Unit {0}) Stop)
      → Does most kinds kinds Any (first >>= (λ value. second value >> third value)) before now result
      → Does most kinds kinds IsFlow (first >>= (λ value. second value >> (third value >> pure meaning.next))) before
      now (next_behind result)
  does_behind_three first second third result does =
      does_as most kinds kinds IsFlow ((first >>= (λ value. second value >> third value)) >> pure meaning.next) _ before
      now (next_behind result)
      (λ run. bound_three (first run) second (λ value _. third value) (λ _. pure meaning.next))
      (does_behind (first >>= (λ value. second value >> third value)) result does)

-- something that is found, and what is done by it
module _ {A B T : Type 0} (most : ℕ) (kinds : Kinds) (Is : T → B → Type 0) (first : Doing Store A)
    (by : A → Doing Store B) (before : MachineState) where
  pub found_stop : (now : MachineState) (why : Stop) → ((value : A) → Goes (by value))
      → Does {T = A} most kinds kinds Same first before now (Err why)
      → Does {T = T} most kinds kinds Is (first >>= by) before now (Err why)
  found_stop now why goes_by does =
      does_stop most kinds kinds kinds Same Is first by before now why goes_by does

  pub found_next : (between now : MachineState) (found : A) (result : Result T Stop) → Goes first
      → Does most kinds kinds Same first before between (Ok found)
      → Does most kinds kinds Is (by found) between now result
      → Does most kinds kinds Is (first >>= by) before now result
  found_next between now found result goes does then_does =
      does_next most kinds kinds kinds Same Is first by before between now found result goes does
      (λ value same. subst (λ value. Does most kinds kinds Is (by value) between now result) same then_does)

-- something that only changes the machine, and what is done behind it
module _ {A B T : Type 0} (most : ℕ) (kinds : Kinds) (Is : T → B → Type 0) (first : Doing Store A)
    (rest : Doing Store B) (before : MachineState) where
  pub done_stop : (now : MachineState) (why : Stop) → Goes rest
      → Does {T = Unit {0}} most kinds kinds Any first before now (Err why)
      → Does {T = T} most kinds kinds Is (first >> rest) before now (Err why)
  done_stop now why goes does =
      does_stop most kinds kinds kinds Any Is first (λ _. rest) before now why (λ _. goes) does

  pub done_next : (between now : MachineState) (result : Result T Stop) → Goes first
      → Does {T = Unit {0}} most kinds kinds Any first before between (Ok (tt {0}))
      → Does most kinds kinds Is rest between now result
      → Does most kinds kinds Is (first >> rest) before now result
  done_next between now result goes does then_does =
      does_next {T = Unit {0}} most kinds kinds kinds Any Is first (λ _. rest) before between now (tt {0}) result goes
      does (λ _ is. then_does)

-- machines lead on
pub leads_same : {A T : Type 0} (kinds : Kinds) (Is : T → A → Type 0) (doing : ℕ → Doing Store A)
    (machine : MachineState) → LeadsTo kinds Is doing doing machine machine
leads_same kinds Is doing machine = record { each = λ end result does. does }

pub leads_on : {A T : Type 0} {kinds : Kinds} {Is : T → A → Type 0} {first second third : ℕ → Doing Store A}
    {before between now : MachineState} → LeadsTo kinds Is first second before between
    → LeadsTo kinds Is second third between now → LeadsTo kinds Is first third before now
leads_on early late = record { each = λ end result does. early.each end result (late.each end result does) }

pub leads_next : {A B T U : Type 0} (kinds : Kinds) (Is : T → A → Type 0) (IsThen : U → B → Type 0)
    (first : ℕ → Doing Store A) (next : ℕ → A → Doing Store B) (rest : ℕ → Doing Store B)
    (before between : MachineState) (found : T) → ((most : ℕ) → Goes (first most))
    → ((most : ℕ) → Does most kinds kinds Is (first most) before between (Ok found))
    → ((most : ℕ) (value : A) → Is found value → next most value ≡ rest most)
    → LeadsTo kinds IsThen (λ most. first most >>= next most) rest before between
leads_next kinds Is IsThen first next rest before between found goes does same = record {
  each = λ end result then_does most.
      does_next most kinds kinds kinds Is IsThen (first most) (next most) before between end found result (goes most)
      (does most) (λ value is. subst (λ doing. Does most kinds kinds IsThen doing between end result)
      (sym (same most value is)) (then_does most));
}

-- behind a step a statement is entered
module _ (program : TypedProgram) (kinds : Kinds) (before between : MachineState) (entry : Entry) (s : Statement)
    (fewer : between.steps + 1 ≡ before.steps)
    (step : (most : ℕ) → Does most kinds kinds Any (take_step {S = Store}) before between (Ok (tt {0}))) where
  entered_step : (end : MachineState) (result : Result CodeFlow Stop)
      → ((most : ℕ) → Does most kinds kinds IsFlow (statement_of program most entry s) between end result)
      → (most : ℕ)
      → Does most kinds kinds IsFlow (take_step >> within (Some CALL_LIMIT) program most entry s) before end result
  entered_step end result does zero = record {
    each = λ ports run stands within. absurd (omega (arith, fewer, stands.world.steps, within));
  }
  entered_step end result does (suc most) =
      does_behind_step most kinds kinds IsFlow (within (Some CALL_LIMIT) program (suc most) entry s) before between end
      result fewer (step (suc most)) (does most)

  pub leads_step : LeadsTo kinds IsFlow (λ most. take_step >> within (Some CALL_LIMIT) program most entry s)
      (λ most. statement_of program most entry s) before between
  leads_step = record { each = entered_step }

-- statements go on
module _ (program : TypedProgram) (most : ℕ) where
  pub goes_below : (entry : Entry) (s : Statement) → Goes (within (Some CALL_LIMIT) program most entry s)
  goes_below = goes_within (Some CALL_LIMIT) program most

  pub goes_of : (entry : Entry) (s : Statement) → Goes (statement_of program most entry s)
  goes_of = goes_statement (Some CALL_LIMIT) program (within (Some CALL_LIMIT) program most) goes_below

  pub goes_list_of : (from : Option ℕ) (list : Statements) → Goes (list_of program most from list)
  goes_list_of = goes_list (Some CALL_LIMIT) program (within (Some CALL_LIMIT) program most) goes_below

  pub goes_entered_of : (list : Statements) (entry : ℕ → Entry) (around : Statement) (label : ℕ)
      → Goes (entered_of program most list entry around label)
  goes_entered_of = goes_entered (Some CALL_LIMIT) program (within (Some CALL_LIMIT) program most) goes_below

  pub goes_looped_of : (list : Statements) (entry : ℕ → Entry) (turning : Entry) (loop : Statement) (flow : Flow)
      → Goes (looped_of program most list entry turning loop flow)
  goes_looped_of = goes_looped (Some CALL_LIMIT) program (within (Some CALL_LIMIT) program most) goes_below

-- an item of a list, and those behind it
pub go_over : (found : CodeFlow) (rest : Doing Store Flow) → (found ≡ flow.Next → ⊥)
    → meaning.go_on (flow_view found) rest ≡ pure (flow_view found)
go_over flow.Next rest other = absurd (other refl)
go_over flow.Leaves rest other = refl
go_over (flow.Jump label) rest other = refl

-- the statement that a number chooses, or another one
abbrev pub arm_of : TypedProgram → ℕ → ℤ → Arms → Doing Store Flow → Doing Store Flow
arm_of program most = meaning.arm (Some CALL_LIMIT) program (within (Some CALL_LIMIT) program most)

pub goes_arm_of : (program : TypedProgram) (most : ℕ) (number : ℤ) (arms : Arms) {otherwise : Doing Store Flow}
    → Goes otherwise → Goes (arm_of program most number arms otherwise)
goes_arm_of program most number arms {otherwise = otherwise} goes =
    goes_arm (Some CALL_LIMIT) program (within (Some CALL_LIMIT) program most) (goes_below program most) number arms
    goes
