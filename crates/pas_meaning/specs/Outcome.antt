-- What every run of a program has, whatever it keeps its variables in: a bound of steps, active calls, files, and what
-- it put out. This project's own.
use Rattle.std.specs.Prelude.{ℕ, zero, suc, ◌+◌, ◌-◌, List, [], ◌∷◌, ◌++◌, slice_set, slice_index_or, nat_le, Bool}
use Rattle.std.specs.Prelude.{false}
use Rattle.std.specs.Prelude.{if◌then◌else◌, Option, Some, None}
use Rattle.pas_meaning.specs.Answers.{Answer, fine, wrong}
use Rattle.pas_meaning.specs.Files.{File}

-- what is put out: a file is emptied, or a byte appended to it
pub data Output : Type 0 where
  emptied : ℕ → Output
  wrote : ℕ → ℕ → Output

-- what no meaning keeps among its variables: the steps that are left, the number of active calls, the files, and all
-- that was put out, the latest first
pub record World : Type 0 where
  pub steps : ℕ
  pub calls : ℕ
  pub files : List File
  pub trail : List Output

pub record Run (S : Type 0) : Type 0 where
  pub store : S
  pub world : World

-- how a run ends that commits no error: with a status, or where a step or a call is one too many
pub data End : Type 0 where
  halted : ℕ → End
  going : End
  too_deep : End

-- a run goes on with a value, ends, or commits an error of this kind
pub data Outcome (S A : Type 0) : Type 0 where
  gives : A → Run S → Outcome S A
  ends : End → World → Outcome S A
  errs : ℕ → World → Outcome S A

abbrev pub Doing : Type 0 → Type 0 → Type 0
Doing S A = Run S → Outcome S A

abbrev pub pure : {S A : Type 0} → A → Doing S A
pure value run = gives value run

abbrev pub and_then : {S A B : Type 0} → Outcome S A → (A → Doing S B) → Outcome S B
and_then (gives value run) next = next value run
and_then (ends end world) next = ends end world
and_then (errs kind world) next = errs kind world

infixl 10 ◌>>=◌
infixl 10 ◌>>◌
abbrev pub ◌>>=◌ : {S A B : Type 0} → Doing S A → (A → Doing S B) → Doing S B
◌>>=◌ first next = λ run. and_then (first run) next

abbrev pub ◌>>◌ : {S A B : Type 0} → Doing S A → Doing S B → Doing S B
◌>>◌ first next = λ run. and_then (first run) (λ _. next)

abbrev pub answered : {S A : Type 0} → Answer A → Doing S A
answered (fine value) run = gives value run
answered (wrong kind) run = errs kind run.world

-- what a question to the variables and the world answers; the variables changed; and as an answer leaves them
abbrev pub ask : {S A : Type 0} → (S → World → Answer A) → Doing S A
ask question run = answered (question run.store run.world) run

abbrev pub change : {S : Type 0} → (S → S) → Doing S (Unit {0})
change next run = gives tt (record run { store = next run.store })

abbrev pub changed : {S : Type 0} → (S → Answer S) → Doing S (Unit {0})
changed next = ask (λ store world. next store) >>= (λ store. change (λ _. store))

-- what needs and changes the world alone
pub data Worldly (A : Type 0) : Type 0 where
  passes : A → World → Worldly A
  stops : End → Worldly A
  fails : ℕ → Worldly A

abbrev pub led : {S A : Type 0} → S → World → Worldly A → Outcome S A
led store before (passes value world) = gives value (record { store = store; world = world })
led store before (stops end) = ends end before
led store before (fails kind) = errs kind before

abbrev pub worldly : {S A : Type 0} → (World → Worldly A) → Doing S A
worldly step run = led run.store run.world (step run.world)

-- a step is taken, if one is left
abbrev pub stepped : ℕ → World → Worldly (Unit {0})
stepped zero world = stops going
stepped (suc left) world = passes tt (record world { steps = left })

abbrev pub take_step : {S : Type 0} → Doing S (Unit {0})
take_step = worldly (λ world. stepped world.steps world)

-- a call begins, unless as many are active as the limit says, and ends
abbrev pub is_full : Option ℕ → ℕ → Bool
is_full None calls = false
is_full (Some limit) calls = nat_le limit calls

abbrev pub begin_call : {S : Type 0} → Option ℕ → Doing S (Unit {0})
begin_call limit = worldly (λ world.
    if is_full limit world.calls then stops too_deep else passes tt (record world { calls = world.calls + 1 }))

abbrev pub end_call : {S : Type 0} → Doing S (Unit {0})
end_call = worldly (λ world. passes tt (record world { calls = world.calls - 1 }))

abbrev pub stop : {S A : Type 0} → End → Doing S A
stop end run = ends end run.world

-- the bytes of the files after these outputs, of which the latest comes first, and at each moment on the way
abbrev pub put_out : Output → List (List ℕ) → List (List ℕ)
put_out (emptied file) files = slice_set files file []
put_out (wrote file byte) files = slice_set files file (slice_index_or files file [] ++ byte ∷ [])

abbrev pub replay : List (List ℕ) → List Output → List (List ℕ)
replay given [] = given
replay given (output ∷ earlier) = put_out output (replay given earlier)

abbrev pub moments : List (List ℕ) → List Output → List (List (List ℕ))
moments given [] = given ∷ []
moments given (output ∷ earlier) = replay given (output ∷ earlier) ∷ moments given earlier
