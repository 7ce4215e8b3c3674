-- What the answer of a run over ports says of the work that is to be done.
use Rattle.std.proofs.Common.{◌≡◌, ◌∙◌, inl, inr, ℕ, ◌<◌, List, [], ◌∷◌, length, map, take}
use Rattle.std.proofs.Common.{Option, Some, None, option_map, Result, Ok, Err, refl, sym, ap, subst, arith}
use Rattle.std.specs.Prelude.{slice_index_or}
use Rattle.std.proofs.Math.Seq.{take-length}
use Rattle.std.proofs.lemmas.List.{length-map, length-take, get_or-take}
use Rattle.wb_ports.specs.Counts.{Rose, next_count, grown}
use Rattle.wb_ports.specs.PortState.{PortState}
use Rattle.pas_typed.specs.Typed.{Variable, TypedProgram}
use Rattle.pas_meaning.specs.Outcome as outcome
use Rattle.pas_meaning.specs.Trial as trial
use Rattle.pas_meaning.specs.Trial.{Ending, Told, parameters_of, report_of, pascal_trial, pascal_moments}
use Rattle.pas_run.specs.declared.answers.End.{End}
use Rattle.pas_run.specs.declared.answers.End.TheVariants as end
use Rattle.pas_run.specs.declared.answers.RunErr.{RunErr}
use Rattle.pas_run.specs.declared.answers.RunErr.TheVariants as run_err
use Rattle.pas_run.specs.WholeRuns.{answer_of, AreBehind, Hold, Reports, KeepsPorts, CountsFailures}
use Rattle.pas_run.specs.WholeRuns.{Ends as EndsThere, is_stopped_by_port, SomeRose}
use Rattle.tangle_core.specs.Work.{Played, PlaysTo, Told as ToldBefore, played}
use Rattle.web2c_cli.specs.declared.ending.Ending.{Ending as Found}
use Rattle.web2c_cli.specs.declared.ending.Ending.TheVariants as found
use Rattle.web2c_cli.specs.Runs.{run_end_of, port_after, ports_after, play_of, NoPortFailed}
use Rattle.web2c_cli.specs.inner.Reaching.{is_by_port}
use Rattle.web2c_cli.specs.inner.Running.{end_by, ending_of, Playing, CountsPorts}

-- the ports behind a run are those of its play
same_played : (now : PortState) (name bytes : List ℕ) (finishes starts : ℕ) → now.name ≡ name → now.bytes ≡ bytes
    → now.finishes ≡ finishes → now.starts ≡ starts
    → played now ≡ record { name = name; bytes = bytes; finishes = finishes; starts = starts }
same_played now name bytes finishes starts a b c d = cc

behind_is : (parameters : List Variable) (before : List PortState) (files : List Told) (now : List (Option PortState))
    → AreBehind parameters before files now
    → map (option_map played) now ≡ map Some (ports_after parameters before files)
behind_is [] [] [] [] behind = refl
behind_is [] [] [] (told ∷ now) behind = absurd behind
behind_is [] [] (file ∷ files) now behind = absurd behind
behind_is [] (port ∷ before) files now behind = absurd behind
behind_is (variable ∷ parameters) [] files now behind = absurd behind
behind_is (variable ∷ parameters) (port ∷ before) [] now behind = absurd behind
behind_is (variable ∷ parameters) (port ∷ before) (file ∷ files) [] behind = absurd behind
behind_is (variable ∷ parameters) (port ∷ before) (file ∷ files) (None ∷ now) behind = absurd behind
behind_is (variable ∷ parameters) (port ∷ before) (file ∷ files) (Some told ∷ now) (first, others) =
    let same : played told ≡ port_after variable port file =
    same_played told variable.name file.bytes (next_count port.finishes) (grown file.starts port.starts) first.name
    first.bytes first.finishes first.starts in
    ap (λ (x : Played). Some x ∷ map (option_map played) now) same
    ∙ ap (λ (x : List (Option Played)). Some (port_after variable port file) ∷ x)
    (behind_is parameters before files now others)

-- ports that hold these bytes
abbrev bytes_of : PortState → List ℕ
bytes_of port = port.bytes

hold_is : (bytes : List (List ℕ)) (now : List (Option PortState)) → Hold bytes now
    → map (option_map bytes_of) now ≡ map Some bytes
hold_is [] [] hold = refl
hold_is [] (told ∷ now) hold = absurd hold
hold_is (first ∷ bytes) [] hold = absurd hold
hold_is (first ∷ bytes) (None ∷ now) hold = absurd hold
hold_is (first ∷ bytes) (Some told ∷ now) hold =
    ap (λ (x : List ℕ). Some x ∷ map (option_map bytes_of) now) hold.0
    ∙ ap (λ (x : List (Option (List ℕ))). Some first ∷ x) (hold_is bytes now hold.1)

-- a run that came to an end
plays_to : (program : TypedProgram) (steps : ℕ) (outcome : Result End RunErr) (ending : Found)
    (before now : List (Option PortState))
    → ((there : Ending) → outcome ≡ answer_of there → end_by ending ≡ run_end_of there)
    → ((told : List PortState) → ToldBefore (length program.files) before told
    → EndsThere program told steps outcome now)
    → length now ≡ length program.files
    → PlaysTo (length program.files) (play_of program steps) before (end_by ending) now
plays_to program steps outcome ending before now same reports many = record {
  number = many;
  ending = λ told is. same _ (reports told is).answer;
  ports = λ told is. behind_is (parameters_of program) told _ now (reports told is).behind;
}

halts_as : (status : ℕ) (there : Ending) → Ok (end.Halted status) ≡ answer_of there
    → end_by (found.Halted status) ≡ run_end_of there
halts_as status (trial.ended (outcome.halted other)) is = cc
halts_as status (trial.ended outcome.going) is = absurd (cc)
halts_as status (trial.ended outcome.too_deep) is = absurd (cc)
halts_as status (trial.error kind) is = absurd (cc)

goes_as : (there : Ending) → Ok end.Going ≡ answer_of there → end_by found.Going ≡ run_end_of there
goes_as (trial.ended (outcome.halted other)) is = absurd (cc)
goes_as (trial.ended outcome.going) is = refl
goes_as (trial.ended outcome.too_deep) is = absurd (cc)
goes_as (trial.error kind) is = absurd (cc)

errs_as : (kind : ℕ) (there : Ending) → Ok (end.Error kind) ≡ answer_of there
    → end_by (found.Error kind) ≡ run_end_of there
errs_as kind (trial.ended (outcome.halted other)) is = absurd (cc)
errs_as kind (trial.ended outcome.going) is = absurd (cc)
errs_as kind (trial.ended outcome.too_deep) is = absurd (cc)
errs_as kind (trial.error other) is = cc

nests_as : (there : Ending) → Err run_err.TooDeep ≡ answer_of there → end_by found.TooDeep ≡ run_end_of there
nests_as (trial.ended (outcome.halted other)) is = absurd (cc)
nests_as (trial.ended outcome.going) is = absurd (cc)
nests_as (trial.ended outcome.too_deep) is = refl
nests_as (trial.error kind) is = absurd (cc)

was_played : (program : TypedProgram) (steps : ℕ) (outcome : Result End RunErr)
    (before now : List (Option PortState))
    → ((told : List PortState) → ToldBefore (length program.files) before told → Reports program told steps outcome now)
    → KeepsPorts outcome (length program.files) before now
    → Playing program steps (ending_of outcome) before now
was_played program steps (Ok (end.Halted status)) before now reports keeps =
    plays_to program steps _ (found.Halted status) before now (halts_as status) reports keeps
was_played program steps (Ok end.Going) before now reports keeps =
    plays_to program steps _ found.Going before now goes_as reports keeps
was_played program steps (Ok (end.Error kind)) before now reports keeps =
    plays_to program steps _ (found.Error kind) before now (errs_as kind) reports keeps
was_played program steps (Err run_err.TooDeep) before now reports keeps =
    plays_to program steps _ found.TooDeep before now nests_as reports keeps
was_played program steps (Err run_err.PortFailed) before now reports keeps = record {
  number = keeps;
  moment = λ told is. (
    (reports told is).files,
    (reports told is).among,
    hold_is (reports told is).files now (reports told is).hold,
  );
}
was_played program steps (Err run_err.OutOfMemory) before now reports keeps = keeps

-- the same, where the bound of steps was handed on
pub was_played_within : (program : TypedProgram) (asked steps : ℕ) (outcome : Result End RunErr)
    (before now : List (Option PortState))
    → ((told : List PortState) → ToldBefore (length program.files) before told → Reports program told asked outcome now)
    → KeepsPorts outcome (length program.files) before now → asked ≡ steps
    → Playing program steps (ending_of outcome) before now
was_played_within program asked steps outcome before now reports keeps is =
    subst (λ (n : ℕ). Playing program n (ending_of outcome) before now) is
    (was_played program asked outcome before now reports keeps)

-- what is kept of the ports is kept of what they tell
pub keeps_map : {P Q : Type 0} (f : P → Q) (outcome : Result End RunErr) (count : ℕ) (before now : List P)
    → KeepsPorts outcome count before now → KeepsPorts outcome count (map f before) (map f now)
keeps_map f (Ok value) count before now keeps = length-map now f ∙ keeps
keeps_map f (Err run_err.TooDeep) count before now keeps = length-map now f ∙ keeps
keeps_map f (Err run_err.PortFailed) count before now keeps = length-map now f ∙ keeps
keeps_map f (Err run_err.OutOfMemory) count before now keeps = elim keeps [
  | inl same ↦ inl (ap (map f) same)
  | inr many ↦ inr (length-map now f ∙ many)
]

-- the counts of the failed calls
rose_before : (count : ℕ) (before now : List ℕ) → SomeRose (take count before) (take count now) → SomeRose before now
rose_before count before now rose =
    let many = length-take count before in
    let within : rose.number < count = omega (arith, many, rose.there) in
    record {
      number = rose.number;
      there = omega (arith, many, rose.there);
      rose = subst (λ (n : ℕ). Rose (slice_index_or before rose.number 0) n)
          (get_or-take count now rose.number 0 within)
          (subst (λ (n : ℕ). Rose n (slice_index_or (take count now) rose.number 0))
          (get_or-take count before rose.number 0 within) rose.rose);
    }

none_rose : (count : ℕ) (before now : List ℕ) → length now ≡ count → take count now ≡ take count before
    → NoPortFailed before now
none_rose count before now many same =
    subst (λ (n : ℕ). take n now ≡ take n before → NoPortFailed before now) many
    (λ is. sym (take-length now) ∙ is) same

pub none_changed : (before now : List ℕ) → now ≡ before → NoPortFailed before now
none_changed before now same =
    subst (λ (x : List ℕ). x ≡ take (length x) before) (sym same) (sym (take-length before))

pub counted_by : (outcome : Result End RunErr) (count : ℕ) (before now : List ℕ) → KeepsPorts outcome count before now
    → CountsFailures (is_stopped_by_port outcome) (take count before) (take count now)
    → CountsPorts (is_by_port (ending_of outcome)) before now
counted_by (Ok (end.Halted status)) count before now keeps counts = none_rose count before now keeps counts
counted_by (Ok end.Going) count before now keeps counts = none_rose count before now keeps counts
counted_by (Ok (end.Error kind)) count before now keeps counts = none_rose count before now keeps counts
counted_by (Err run_err.TooDeep) count before now keeps counts = none_rose count before now keeps counts
counted_by (Err run_err.PortFailed) count before now keeps counts = rose_before count before now counts
counted_by (Err run_err.OutOfMemory) count before now keeps counts = elim keeps [
  | inl same ↦ none_changed before now same
  | inr many ↦ none_rose count before now many counts
]
