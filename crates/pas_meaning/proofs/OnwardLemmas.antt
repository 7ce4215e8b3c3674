-- A run goes on: its steps never rise, its trail grows at its front, and its files hold what the trail says.
use Rattle.std.proofs.Common.{◌≡◌, ℕ, zero, suc, ◌+◌, ◌-◌, List, [], ◌∷◌, ◌++◌, Option, Some, Bool}
use Rattle.std.proofs.Common.{true}
use Rattle.std.proofs.Common.{false, get_or, set, arith, refl, sym, ap, ◌∙◌}
use Rattle.std.proofs.lemmas.List.{map-set, set-get_or}
use Rattle.std.proofs.Math.ListN.{get_or-map}
use Rattle.std.specs.Prelude.{if◌then◌else◌}
use Rattle.pas_meaning.specs.declared.errors.TheConstants.{WRONG_MODE}
use Rattle.pas_meaning.specs.Answers.{Answer, fine, wrong, then_answer}
use Rattle.pas_meaning.specs.Files as files
use Rattle.pas_meaning.specs.Files.{File}
use Rattle.pas_meaning.specs.Outcome.{Output, World, End, Outcome, gives, ends, errs, Doing, pure, and_then, ◌>>=◌}
use Rattle.pas_meaning.specs.Outcome.{◌>>◌, answered, ask, change, changed, Worldly, passes, stops, fails, led, worldly}
use Rattle.pas_meaning.specs.Outcome.{stepped, take_step, is_full, begin_call, end_call, stop, too_deep}
use Rattle.pas_meaning.specs.Outcome.{emptied, wrote}
use Rattle.pas_meaning.specs.FileSteps.{no_file, file_at, with_file, left, change_file, reset}
use Rattle.pas_meaning.specs.FileSteps.{rewrite}
use Rattle.pas_meaning.specs.FileSteps.{emptied_file, with_byte, with_bytes, appended, append, put_byte, put}
use Rattle.pas_meaning.specs.Laws.{Extends, as_it_was, and_one, bytes_in, Onward, world_of, Goes, PassesOn}

pub extends_on : {first second third : List Output} → Extends first second → Extends second third → Extends first third
extends_on early as_it_was = early
extends_on early (and_one output trail late) = and_one output trail (extends_on early late)

pub onward_same : (world : World) → Onward world world
onward_same world = record { steps = omega arith; trail = as_it_was; files = λ given told. told }

pub onward_on : {first second third : World} → Onward first second → Onward second third → Onward first third
onward_on early late = record {
  steps = omega (arith, early.steps, late.steps);
  trail = extends_on early.trail late.trail;
  files = λ given told. late.files given (early.files given told);
}

after : {S A B : Type 0} (world : World) (outcome : Outcome S A) (next : A → Doing S B)
    → Onward world (world_of outcome) → ((value : A) → Goes (next value))
    → Onward world (world_of (and_then outcome next))
after world (gives value run) next early late = onward_on early ((late value).each run)
after world (ends end now) next early late = early
after world (errs kind now) next early late = early

pub goes_bind : {S A B : Type 0} {first : Doing S A} {next : A → Doing S B}
    → Goes first → ((value : A) → Goes (next value)) → Goes (first >>= next)
goes_bind {first = first} {next = next} early late = record {
  each = λ run. after run.world (first run) next (early.each run) late;
}

pub goes_then : {S A B : Type 0} {first : Doing S A} {next : Doing S B} → Goes first → Goes next → Goes (first >> next)
goes_then {first = first} {next = next} early late = record {
  each = λ run. after run.world (first run) (λ _. next) (early.each run) (λ _. late);
}

pub goes_pure : {S A : Type 0} (value : A) → Goes {S = S} (pure value)
goes_pure value = record { each = λ run. onward_same run.world }

pub goes_answered : {S A : Type 0} (answer : Answer A) → Goes {S = S} (answered answer)
goes_answered (fine value) = goes_pure value
goes_answered (wrong kind) = record { each = λ run. onward_same run.world }

pub goes_ask : {S A : Type 0} (question : S → World → Answer A) → Goes (ask question)
goes_ask question = record { each = λ run. (goes_answered (question run.store run.world)).each run }

pub goes_change : {S : Type 0} (next : S → S) → Goes (change next)
goes_change next = record { each = λ run. onward_same run.world }

pub goes_changed : {S : Type 0} (next : S → Answer S) → Goes (changed next)
goes_changed next = goes_bind (goes_ask (λ before world. next before)) (λ now. goes_change (λ _. now))

pub goes_stop : {S A : Type 0} (end : End) → Goes {S = S} {A = A} (stop end)
goes_stop end = record { each = λ run. onward_same run.world }

pub goes_if : {S A : Type 0} {one other : Doing S A} (test : Bool) → Goes one → Goes other
    → Goes (if test then one else other)
goes_if true one other = one
goes_if false one other = other

-- steps of the world
pub record GoesOn {A : Type 0} (step : World → Worldly A) : Type 0 where
  pub each : (world : World) → PassesOn world (step world)

led_on : {S A : Type 0} (store : S) (before : World) (step : Worldly A) → PassesOn before step
    → Onward before (world_of (led store before step))
led_on store before (passes value now) on = on
led_on store before (stops end) on = onward_same before
led_on store before (fails kind) on = onward_same before

pub goes_worldly : {S A : Type 0} {step : World → Worldly A} → GoesOn step → Goes {S = S} (worldly step)
goes_worldly {step = step} goes = record {
  each = λ run. led_on run.store run.world (step run.world) (goes.each run.world);
}

step_on : (left : ℕ) (world : World) → left ≡ world.steps → PassesOn world (stepped left world)
step_on zero world same = tt
step_on (suc left) world same =
    record { steps = omega (arith, same); trail = as_it_was; files = λ given told. told }

pub goes_step : {S : Type 0} → Goes {S = S} take_step
goes_step = goes_worldly (record { each = λ world. step_on world.steps world refl })

begin_on : (full : Bool) (world : World) → PassesOn {A = Unit {0}} world
    (if full then stops too_deep else passes tt (record world { calls = world.calls + 1 }))
begin_on true world = tt
begin_on false world = record { steps = omega arith; trail = as_it_was; files = λ given told. told }

pub goes_begin : {S : Type 0} (limit : Option ℕ) → Goes {S = S} (begin_call limit)
goes_begin limit = goes_worldly (record { each = λ world. begin_on (is_full limit world.calls) world })

pub goes_end_call : {S : Type 0} → Goes {S = S} end_call
goes_end_call = goes_worldly {step = λ world. passes tt (record world { calls = world.calls - 1 })} (record {
  each = λ world. record { steps = omega arith; trail = as_it_was; files = λ given told. told };
})

-- files

-- a step that leaves the bytes of its file
same_bytes : (number : ℕ) (file : File) (world : World) → file.bytes ≡ (file_at number world).bytes
    → bytes_in (with_file number file world) ≡ bytes_in world
same_bytes number file world same =
    map-set (λ (each : File). each.bytes) world.files number file
    ∙ ap (set (bytes_in world) number)
    (same ∙ sym (get_or-map (λ (each : File). each.bytes) world.files number no_file))
    ∙ set-get_or (bytes_in world) number []

pub keeps_on : (number : ℕ) (file : File) (world : World) → file.bytes ≡ (file_at number world).bytes
    → Onward world (with_file number file world)
keeps_on number file world same = record {
  steps = omega arith;
  trail = as_it_was;
  files = λ given told. told ∙ sym (same_bytes number file world same);
}

-- what a step leaves of a file keeps its bytes
pub data Keeps (before : File) : Answer File → Type 0 where
  keeps : (file : File) → file.bytes ≡ before.bytes → Keeps before (fine file)
  refuses : (kind : ℕ) → Keeps before (wrong kind)

left_on : (number : ℕ) (world : World) (answer : Answer File) → Keeps (file_at number world) answer
    → PassesOn world (left number world answer)
left_on number world _ (keeps file same) = keeps_on number file world same
left_on number world _ (refuses kind) = tt

pub goes_change_file : {S : Type 0} (number : ℕ) (step : File → Answer File) → ((file : File) → Keeps file (step file))
    → Goes {S = S} (change_file number step)
goes_change_file number step same = goes_worldly {step = λ world. left number world (step (file_at number world))}
    (record { each = λ world. left_on number world (step (file_at number world)) (same (file_at number world)) })

pub goes_reset : {S : Type 0} (number : ℕ) → Goes {S = S} (reset number)
goes_reset number = goes_change_file number _ (λ file. keeps (files.reset file) refl)

keeps_next : (file : File) (make : ℕ → File) → ((byte : ℕ) → (make byte).bytes ≡ file.bytes) → (answer : Answer ℕ)
    → Keeps file (then_answer answer (λ byte. fine (make byte)))
keeps_next file make same (fine byte) = keeps (make byte) (same byte)
keeps_next file make same (wrong kind) = refuses kind

pub get_keeps : (file : File) → Keeps file (files.get file)
get_keeps file = keeps_next file _ (λ byte. refl) (files.next_byte file)

keeps_on_text : (file : File) (is_text : Bool) (answer : Answer File) → Keeps file answer
    → Keeps file (if is_text then answer else wrong WRONG_MODE)
keeps_on_text file true answer kept = kept
keeps_on_text file false answer kept = refuses WRONG_MODE

pub readln_keeps : (file : File) → Keeps file (files.readln file)
readln_keeps file = keeps_on_text file file.is_text _ (keeps_next file _ (λ byte. refl) (files.next_byte file))

set_keeps : (byte : ℕ) (file : File) (writes : Bool)
    → Keeps file (if writes then fine (record file { buffer = Some byte }) else wrong WRONG_MODE)
set_keeps byte file true = keeps (record file { buffer = Some byte }) refl
set_keeps byte file false = refuses WRONG_MODE

pub buffer_set_keeps : (byte : ℕ) (file : File) → Keeps file (files.buffer_set byte file)
buffer_set_keeps byte file = set_keeps byte file (files.is_writing file.mode)

-- outputs
rewrite_on : (number : ℕ) (world : World) → Onward world (emptied_file number world)
rewrite_on number world = record {
  steps = omega arith;
  trail = and_one (emptied number) world.trail as_it_was;
  files = λ given told. ap (λ bytes. set bytes number []) told
      ∙ sym (map-set (λ (file : File). file.bytes) world.files number (files.rewrite (file_at number world)));
}

pub goes_rewrite : {S : Type 0} (number : ℕ) → Goes {S = S} (rewrite number)
goes_rewrite number = goes_worldly {step = λ world. passes tt (emptied_file number world)}
    (record { each = λ world. rewrite_on number world })

bytes_at : (number : ℕ) (world : World) → get_or (bytes_in world) number [] ≡ (file_at number world).bytes
bytes_at number world = get_or-map (λ (file : File). file.bytes) world.files number no_file

byte_on : (number : ℕ) (world : World) (byte : ℕ) → Onward world (with_byte number world byte)
byte_on number world byte = record {
  steps = omega arith;
  trail = and_one (wrote number byte) world.trail as_it_was;
  files = λ given told. ap (λ bytes. set bytes number (get_or bytes number [] ++ byte ∷ [])) told
      ∙ ap (λ own. set (bytes_in world) number (own ++ byte ∷ [])) (bytes_at number world)
      ∙ sym (map-set (λ (file : File). file.bytes) world.files number
      (record (file_at number world) { bytes = (file_at number world).bytes ++ byte ∷ [] }));
}

bytes_on : (number : ℕ) (bytes : List ℕ) (world : World) → Onward world (with_bytes number bytes world)
bytes_on number [] world = onward_same world
bytes_on number (byte ∷ bytes) world =
    onward_on (byte_on number world byte) (bytes_on number bytes (with_byte number world byte))

appended_on : (number : ℕ) (world : World) (answer : Answer (List ℕ)) → PassesOn world (appended number world answer)
appended_on number world (fine bytes) = bytes_on number bytes world
appended_on number world (wrong kind) = tt

pub goes_append : {S : Type 0} (number : ℕ) (bytes : File → Answer (List ℕ)) → Goes {S = S} (append number bytes)
goes_append number bytes = goes_worldly {step = λ world. appended number world (bytes (file_at number world))}
    (record { each = λ world. appended_on number world (bytes (file_at number world)) })

put_on : (number : ℕ) (world : World) (answer : Answer ℕ) → PassesOn world (put_byte number world answer)
put_on number world (fine byte) =
    onward_on (byte_on number world byte) (keeps_on number _ (with_byte number world byte) refl)
put_on number world (wrong kind) = tt

pub goes_put : {S : Type 0} (number : ℕ) → Goes {S = S} (put number)
goes_put number = goes_worldly {step = λ world. put_byte number world (files.byte_to_put (file_at number world))}
    (record { each = λ world. put_on number world (files.byte_to_put (file_at number world)) })
