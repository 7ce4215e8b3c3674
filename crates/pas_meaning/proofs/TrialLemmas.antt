-- The laws of whole runs: the files hold what was put out, and a trial is the run where it is not too deep.
use Rattle.std.proofs.Common.{◌≡◌, ◌≢◌, ℕ, suc, List, [], ◌∷◌, length, map, Option, Some, None, arith}
use Rattle.std.proofs.Common.{refl, ap, sym, subst}
use Rattle.std.specs.Prelude.{zip, codes}
use Rattle.std.specs.Str.{bytes_eq}
use Rattle.pas_typed.specs.Typed as typed
use Rattle.pas_typed.specs.Typed.{Variable, TypedProgram}
use Rattle.pas_meaning.specs.declared.errors.TheConstants.{CALL_LIMIT}
use Rattle.pas_meaning.specs.Outcome.{World, Outcome, gives, ends, errs, too_deep, replay}
use Rattle.pas_meaning.specs.Store.{Store}
use Rattle.pas_meaning.specs.Run as run
use Rattle.pas_meaning.specs.Trial as trial
use Rattle.pas_meaning.specs.Trial.{pascal_run, pascal_trial}
use Rattle.pas_meaning.specs.Laws.{bytes_in, world_of, Goes, DeepOr, deep, same, AsRun}
use Rattle.pas_meaning.proofs.OnwardLemmas.{goes_bind, goes_then, goes_pure, goes_stop, goes_if, goes_reset}
use Rattle.pas_meaning.proofs.OnwardLemmas.{goes_rewrite}
use Rattle.pas_meaning.proofs.GoesLemmas.{goes_within}
use Rattle.pas_meaning.proofs.DepthLemmas.{as_self, as_bind, as_then, as_within}

-- the files at the start
pub bytes_given : (parameters : List Variable) (given : List (List ℕ)) → length given ≡ length parameters
    → map (λ file. file.bytes) (map trial.file_given (zip parameters given)) ≡ given
bytes_given [] [] as_many = refl
bytes_given [] (bytes ∷ given) as_many = absurd (omega (arith, as_many))
bytes_given (found ∷ parameters) [] as_many = absurd (omega (arith, as_many))
bytes_given (found ∷ parameters) (bytes ∷ given) as_many =
    ap (λ more. bytes ∷ more) (bytes_given parameters given (omega (arith, as_many)))

goes_begun : (file : ℕ) (name : List ℕ) → Goes (trial.begun_by file name)
goes_begun file name =
    goes_if (bytes_eq name (codes "input")) (goes_reset file)
    (goes_if (bytes_eq name (codes "output")) (goes_rewrite file) (goes_pure tt))

goes_begin_files : (file : ℕ) (parameters : List Variable) → Goes (trial.begin_files file parameters)
goes_begin_files file [] = goes_pure tt
goes_begin_files file (found ∷ parameters) =
    goes_then (goes_begun file found.name) (goes_begin_files (suc file) parameters)

goes_whole : (limit : Option ℕ) (program : TypedProgram) (steps : ℕ) → Goes (trial.whole_run limit program steps)
goes_whole limit program steps =
    goes_then (goes_begin_files 0 (trial.parameters_of program))
    (goes_bind (goes_within limit program (suc steps) run.start (typed.compound program.statements))
    (λ flow. goes_stop _))

world_told : (outcome : Outcome Store (Unit {0})) → (trial.result_of outcome).world ≡ world_of outcome
world_told (gives value now) = refl
world_told (ends end world) = refl
world_told (errs kind world) = refl

told_by : (given : List (List ℕ)) (now world : World) → now ≡ world → replay given world.trail ≡ bytes_in world
    → replay given now.trail ≡ bytes_in now
told_by given now world is told = subst (λ w. replay given w.trail ≡ bytes_in w) (sym is) told

-- what the files hold at the end of a trial is what was put out
pub trial_tells : (program : TypedProgram) (given : List (List ℕ)) (steps : ℕ)
    → length given ≡ length (trial.parameters_of program)
    → replay given (pascal_trial program given steps).world.trail ≡ bytes_in (pascal_trial program given steps).world
unfolding pascal_trial
trial_tells program given steps as_many =
    told_by given _ _
    (world_told (trial.whole_run (Some CALL_LIMIT) program steps (trial.run_at_start program given steps)))
    (((goes_whole (Some CALL_LIMIT) program steps).each (trial.run_at_start program given steps)).files given
    (sym (bytes_given (trial.parameters_of program) given as_many)))

-- a trial is the run where it is not too deep
as_whole : (count : ℕ) (program : TypedProgram) (steps : ℕ)
    → AsRun (trial.whole_run (Some count) program steps) (trial.whole_run None program steps)
as_whole count program steps =
    as_then (as_self (trial.begin_files 0 (trial.parameters_of program)))
    (as_bind (as_within count program (suc steps) run.start (typed.compound program.statements)) (λ flow. as_self _))

result_same : {S A : Type 0} (result : Outcome S A → trial.Result) (other outcome : Outcome S A)
    → DeepOr other outcome → ((world : World) → (result (ends too_deep world)).ending ≡ trial.ended too_deep)
    → (result outcome).ending ≢ trial.ended too_deep → result outcome ≡ result other
result_same result other _ (deep world) is_deep shallow = absurd (shallow (is_deep world))
result_same result other _ same is_deep shallow = refl

pub trial_is_run : (program : TypedProgram) (given : List (List ℕ)) (steps : ℕ)
    → (pascal_trial program given steps).ending ≢ trial.ended too_deep
    → pascal_trial program given steps ≡ pascal_run program given steps
unfolding pascal_trial pascal_run
trial_is_run program given steps shallow =
    result_same trial.result_of _ _ ((as_whole CALL_LIMIT program steps).each (trial.run_at_start program given steps))
    (λ world. refl) shallow
