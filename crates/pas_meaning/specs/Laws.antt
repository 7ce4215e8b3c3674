-- What holds of every run: its steps never rise, its trail grows at its front, and its files hold what the trail says.
use Rattle.std.specs.Prelude.{◌≡◌, ℕ, ◌≤◌, List, ◌∷◌, map, ⊤}
use Rattle.pas_meaning.specs.Outcome.{Output, World, Run, Outcome, gives, ends, errs, Doing, Worldly, passes, stops}
use Rattle.pas_meaning.specs.Outcome.{fails}
use Rattle.pas_meaning.specs.Outcome.{too_deep, replay}

-- a trail is an earlier one with more outputs in front
pub data Extends (earlier : List Output) : List Output → Type 0 where
  as_it_was : Extends earlier earlier
  and_one : (output : Output) (trail : List Output) → Extends earlier trail → Extends earlier (output ∷ trail)

-- the bytes of the files
abbrev pub bytes_in : World → List (List ℕ)
bytes_in world = map (λ file. file.bytes) world.files

-- the one world comes behind the other in a run
pub record Onward (before now : World) : Type 0 where
  pub steps : now.steps ≤ before.steps
  pub trail : Extends before.trail now.trail
  pub files : (given : List (List ℕ)) → replay given before.trail ≡ bytes_in before
      → replay given now.trail ≡ bytes_in now

-- the world that an outcome leaves
abbrev pub world_of : {S A : Type 0} → Outcome S A → World
world_of (gives value run) = run.world
world_of (ends end world) = world
world_of (errs kind world) = world

-- what is done goes on
pub record Goes {S A : Type 0} (doing : Doing S A) : Type 0 where
  pub each : (run : Run S) → Onward run.world (world_of (doing run))

-- the same of what changes the world alone
abbrev pub PassesOn : {A : Type 0} → World → Worldly A → Type 0
PassesOn before (passes value now) = Onward before now
PassesOn before (stops end) = ⊤
PassesOn before (fails kind) = ⊤

-- two things to do that do the same from each run of at most so many steps
pub record Same {S A : Type 0} (most : ℕ) (doing other : Doing S A) : Type 0 where
  pub each : (run : Run S) → run.world.steps ≤ most → doing run ≡ other run

-- an outcome is the other one, or too deep
pub data DeepOr {S A : Type 0} (other : Outcome S A) : Outcome S A → Type 0 where
  deep : (world : World) → DeepOr other (ends too_deep world)
  same : DeepOr other other

-- what is done is the other, but where it is too deep
pub record AsRun {S A : Type 0} (doing other : Doing S A) : Type 0 where
  pub each : (run : Run S) → DeepOr (other run) (doing run)
