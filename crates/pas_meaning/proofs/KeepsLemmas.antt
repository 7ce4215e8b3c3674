-- What keeps the variables in their shapes: the rules of each way to put steps together, and the steps themselves.
use Rattle.std.proofs.Common.{◌≡◌, ℕ, ◌+◌, ◌-◌, ◌<◌, Option}
use Rattle.std.proofs.Common.{Bool, true, false, ◌&&◌, if◌then◌else◌, ℤ, nat_abs, ◌-ℤ◌, ◌≤ℤ◌, arith}
use Rattle.std.proofs.Common.{refl}
use Rattle.std.specs.Prelude.{⊤, int_le}
use Rattle.std.proofs.lemmas.Int.{ints}
use Rattle.std.proofs.lemmas.Float.{T_from_true}
use lib.Signed.{le_z_yes}
use Rattle.pas_typed.specs.Types.{Range, count_of, is_within}
use Rattle.pas_typed.specs.Typed.{Slot}
use Rattle.pas_typed.specs.Shapes.{one_cell}
use Rattle.pas_meaning.specs.declared.errors.TheConstants.{INDEX_OUT_OF_RANGE}
use Rattle.pas_meaning.specs.Answers.{Answer, fine, wrong, then_answer}
use Rattle.pas_meaning.specs.Files as files
use Rattle.pas_meaning.specs.Outcome.{World, Outcome, gives, ends, errs, Doing, pure, and_then, ◌>>=◌, ◌>>◌, answered}
use Rattle.pas_meaning.specs.Outcome.{ask, change, changed, Worldly, passes, stops, fails, led, worldly, End, stop}
use Rattle.pas_meaning.specs.Outcome.{take_step, begin_call, end_call}
use Rattle.pas_meaning.specs.Store.{Datum, holds, Store}
use Rattle.pas_meaning.specs.Store.{number_of}
use Rattle.pas_meaning.specs.Operands.{operand, element, number_within}
use Rattle.pas_meaning.specs.Run as run
use Rattle.pas_meaning.specs.Run.{Flow, Spot, slot_of, path_of}
use Rattle.pas_meaning.specs.FileSteps.{file_at, left, reset, rewrite, emptied_file}
use Rattle.pas_meaning.specs.Cells.{IsShaped}
use Rattle.pas_meaning.specs.Standing.{Kinds, Stands, Leaves}
use Rattle.pas_meaning.specs.Standing.{Keeps}

-- P holds of what is answered, if anything is
abbrev pub Answered : {A : Type 0} → (A → Type 0) → Answer A → Type 0
Answered P (fine value) = P value
Answered P (wrong kind) = ⊤

pub answered_any : {A : Type 0} (answer : Answer A) → Answered (λ value. ⊤) answer
answered_any (fine value) = tt
answered_any (wrong kind) = tt

pub answered_then : {A B : Type 0} (P : A → Type 0) (Q : B → Type 0) (answer : Answer A) (next : A → Answer B)
    → Answered P answer → ((value : A) → P value → Answered Q (next value)) → Answered Q (then_answer answer next)
answered_then P Q (fine value) next is later = later value is
answered_then P Q (wrong kind) next is later = tt

-- the rules
after : {A B : Type 0} {later last : Kinds} {P : A → Type 0} {Q : B → Type 0} (outcome : Outcome Store A)
    (next : A → Doing Store B) → Leaves later P outcome → ((value : A) → P value → Keeps later last Q (next value))
    → Leaves last Q (and_then outcome next)
after (gives value run) next left keeps = (keeps value left.0).each run left.1
after (ends end world) next left keeps = tt
after (errs kind world) next left keeps = tt

pub keeps_bind : {A B : Type 0} {kinds later last : Kinds} {P : A → Type 0} {Q : B → Type 0} {first : Doing Store A}
    {next : A → Doing Store B} → Keeps kinds later P first → ((value : A) → P value → Keeps later last Q (next value))
    → Keeps kinds last Q (first >>= next)
keeps_bind {first = first} {next = next} early late = record {
  each = λ run stands. after (first run) next (early.each run stands) late;
}

pub keeps_then : {A B : Type 0} {kinds later last : Kinds} {P : A → Type 0} {Q : B → Type 0} {first : Doing Store A}
    {next : Doing Store B} → Keeps kinds later P first → Keeps later last Q next → Keeps kinds last Q (first >> next)
keeps_then {first = first} {next = next} early late = record {
  each = λ run stands. after (first run) (λ _. next) (early.each run stands) (λ value is. late);
}

pub keeps_pure : {A : Type 0} {kinds : Kinds} {P : A → Type 0} (value : A) → P value → Keeps kinds kinds P (pure value)
keeps_pure value is = record { each = λ run stands. (is, stands) }

pub keeps_answered : {A : Type 0} {kinds : Kinds} {P : A → Type 0} (answer : Answer A) → Answered P answer
    → Keeps kinds kinds P (answered answer)
keeps_answered (fine value) is = record { each = λ run stands. (is, stands) }
keeps_answered (wrong kind) is = record { each = λ run stands. tt }

pub keeps_ask : {A : Type 0} {kinds : Kinds} {P : A → Type 0} (question : Store → World → Answer A)
    → ((store : Store) (world : World) → Stands kinds store → Answered P (question store world))
    → Keeps kinds kinds P (ask question)
keeps_ask question is = record {
  each = λ run stands.
      (keeps_answered (question run.store run.world) (is run.store run.world stands)).each run stands;
}

pub keeps_any : {A : Type 0} {kinds : Kinds} (answer : Answer A) → Keeps kinds kinds (λ value. ⊤) (answered answer)
keeps_any answer = keeps_answered answer (answered_any answer)

pub keeps_asked : {A : Type 0} {kinds : Kinds} (question : Store → World → Answer A)
    → Keeps kinds kinds (λ value. ⊤) (ask question)
keeps_asked question = keeps_ask question (λ store world stands. answered_any (question store world))

-- a number that is answered
pub keeps_number : {kinds : Kinds} (answer : Answer ℤ)
    → Keeps kinds kinds (IsShaped one_cell) (answered answer >>= (λ found. pure (holds found)))
keeps_number answer = keeps_bind (keeps_any answer) (λ found is. keeps_pure (holds found) tt)

pub keeps_change : {kinds later : Kinds} (next : Store → Store)
    → ((store : Store) → Stands kinds store → Stands later (next store)) → Keeps kinds later (λ value. ⊤) (change next)
keeps_change next is = record { each = λ run stands. (tt, is run.store stands) }

pub keeps_changed : {kinds later : Kinds} (next : Store → Answer Store)
    → ((store : Store) → Stands kinds store → Answered (Stands later) (next store))
    → Keeps kinds later (λ value. ⊤) (changed next)
keeps_changed next is =
    keeps_bind (keeps_ask (λ store world. next store) (λ store world. is store))
    (λ store stands. keeps_change (λ _. store) (λ _ _. stands))

pub keeps_stop : {A : Type 0} {kinds later : Kinds} {P : A → Type 0} (end : End)
    → Keeps {A = A} kinds later P (stop end)
keeps_stop end = record { each = λ run stands. tt }

pub keeps_if : {A : Type 0} {kinds later : Kinds} {P : A → Type 0} {one other : Doing Store A} (test : Bool)
    → Keeps kinds later P one → Keeps kinds later P other → Keeps kinds later P (if test then one else other)
keeps_if true one other = one
keeps_if false one other = other

led_on : {A : Type 0} {kinds : Kinds} (store : Store) (before : World) (step : Worldly A) → Stands kinds store
    → Leaves kinds (λ value. ⊤) (led store before step)
led_on store before (passes value now) stands = (tt, stands)
led_on store before (stops end) stands = tt
led_on store before (fails kind) stands = tt

pub keeps_worldly : {A : Type 0} {kinds : Kinds} (step : World → Worldly A)
    → Keeps kinds kinds (λ value. ⊤) (worldly step)
keeps_worldly step = record { each = λ run stands. led_on run.store run.world (step run.world) stands }

pub keeps_step : {kinds : Kinds} → Keeps kinds kinds (λ value. ⊤) (take_step {S = Store})
keeps_step = keeps_worldly _

pub keeps_begin : {kinds : Kinds} (limit : Option ℕ) → Keeps kinds kinds (λ value. ⊤) (begin_call {S = Store} limit)
keeps_begin limit = keeps_worldly _

pub keeps_end_call : {kinds : Kinds} → Keeps kinds kinds (λ value. ⊤) (end_call {S = Store})
keeps_end_call = keeps_worldly {A = Unit {0}} (λ world. passes tt (record world { calls = world.calls - 1 }))

pub keeps_reset : {kinds : Kinds} (file : ℕ) → Keeps kinds kinds (λ value. ⊤) (reset {S = Store} file)
keeps_reset file = keeps_worldly (λ world. left file world (fine (files.reset (file_at file world))))

pub keeps_rewrite : {kinds : Kinds} (file : ℕ) → Keeps kinds kinds (λ value. ⊤) (rewrite {S = Store} file)
keeps_rewrite file = keeps_worldly (λ world. passes tt (emptied_file file world))

-- an operand by what its check answers, and whatever that is
pub keeps_checked : {A : Type 0} {kinds : Kinds} {P : Datum → Type 0} {Q : A → Type 0} (check : Datum → Answer A)
    {evaluated : Doing Store Datum} → Keeps kinds kinds P evaluated
    → ((datum : Datum) → P datum → Answered Q (check datum)) → Keeps kinds kinds Q (operand check evaluated)
keeps_checked check evaluated is = keeps_bind evaluated (λ datum held. keeps_answered (check datum) (is datum held))

pub keeps_operand : {A B : Type 0} {kinds last : Kinds} {P : Datum → Type 0} {Q : B → Type 0} (check : Datum → Answer A)
    {evaluated : Doing Store Datum} {next : A → Doing Store B} → Keeps kinds kinds P evaluated
    → ((found : A) → Keeps kinds last Q (next found)) → Keeps kinds last Q (operand check evaluated >>= next)
keeps_operand check evaluated next =
    keeps_bind (keeps_checked check evaluated (λ datum held. answered_any (check datum))) (λ found is. next found)

pub keeps_operand_alone : {A : Type 0} {kinds : Kinds} {P : Datum → Type 0} (check : Datum → Answer A)
    {evaluated : Doing Store Datum} → Keeps kinds kinds P evaluated
    → Keeps kinds kinds (λ found. ⊤) (operand check evaluated)
keeps_operand_alone check evaluated = keeps_checked check evaluated (λ datum held. answered_any (check datum))

pub keeps_on : {kinds : Kinds} (flow : Flow) {rest : Doing Store Flow} → Keeps kinds kinds (λ flow. ⊤) rest
    → Keeps kinds kinds (λ flow. ⊤) (run.go_on flow rest)
keeps_on run.next rest = rest
keeps_on run.leaves rest = keeps_pure _ tt
keeps_on (run.jump label) rest = keeps_pure _ tt

-- a step of the file that a variable means
pub keeps_on_file : {kinds : Kinds} (file : Slot) (step : ℕ → Doing Store (Unit {0}))
    → ((number : ℕ) → Keeps kinds kinds (λ value. ⊤) (step number))
    → Keeps kinds kinds (λ value. ⊤) (run.on_file file step)
keeps_on_file file step keeps =
    keeps_bind (keeps_asked (run.file_of file)) (λ number is. keeps number)

-- an index is below the number of elements
both : (one other : Bool) → (one && other) ≡ true → (one ≡ true) × (other ≡ true)
both true true is = (refl, refl)
both true false is = absurd (cc)
both false other is = absurd (cc)

apart : (low high value : ℤ) → low ≤ℤ value → value ≤ℤ high → nat_abs (value -ℤ low) < nat_abs (high -ℤ low) + 1
apart low high value above below = omega (arith, ints)

below_count : (range : Range) (value : ℤ) → is_within range value ≡ true
    → nat_abs (value -ℤ range.low) < count_of range
below_count range value within =
    let sides = both (int_le range.low value) (int_le value range.high) within in
    apart range.low range.high value (le_z_yes (T_from_true _ sides.0)) (le_z_yes (T_from_true _ sides.1))

within_range : (kind : ℕ) (range : Range) (value : ℤ) (within : Bool) → is_within range value ≡ within
    → Answered (λ found. is_within range found ≡ true) (if within then fine value else wrong kind)
within_range kind range value true is = is
within_range kind range value false is = tt

pub element_below : (range : Range) (datum : Datum) → Answered (λ number. number < count_of range) (element range datum)
element_below range datum =
    answered_then (λ value. is_within range value ≡ true) _ (number_within INDEX_OUT_OF_RANGE range datum) _
    (answered_then (λ value. ⊤) _ (number_of datum) _ (answered_any (number_of datum))
    (λ value is. within_range INDEX_OUT_OF_RANGE range value (is_within range value) refl)) (below_count range)
