-- The end of a run: each port is finished, or a failed call cut the run off at a moment.
use Rattle.std.proofs.Common.{◌≡◌, ℕ, zero, suc, ◌+◌, ◌<◌, ◌≤◌, List, [], ◌∷◌, length, map, Option, Some, None, arith}
use Rattle.std.proofs.Common.{refl, sym, ap, ◌∙◌, subst, slice_index_or, slice_set, Bool, true, false}
use Rattle.std.proofs.lemmas.List.{length-map, get_or_default}
use Rattle.std.specs.Prelude.{Contains, ⊤}
use Rattle.wb_ports.specs.Counts.{next_count, grown}
use Rattle.wb_ports.specs.Held.{WhereTold, Becomes}
use Rattle.wb_ports.specs.PortState.{PortState, finished_port}
use Rattle.pas_meaning.specs.Files.{File}
use Rattle.pas_meaning.specs.Outcome.{Output, World, moments, replay}
use Rattle.pas_meaning.specs.Laws.{Extends, as_it_was, and_one, bytes_in}
use Rattle.pas_meaning.specs.Trial as trial
use Rattle.pas_run.specs.RunFiles.{IsFile, Shows, Stands}
use Rattle.pas_run.specs.inner.MachineState.{KeptFile, MachineState, AreFiles, AreShown, IsWorld, CountFailures}
use Rattle.pas_run.specs.inner.Doings.{IsMoment, is_failure, is_end}
use Rattle.pas_run.specs.inner.Starting.{IsFinished, AreFinished, IsFinishedFile, AreFinishedFiles}
use Rattle.pas_run.specs.inner.Starting.{IsFinishedAt, IsCutOff, EndsAs, EndsFinished}
use Rattle.pas_run.specs.declared.ends.Stop.{Stop}
use Rattle.pas_run.specs.declared.ends.Stop.TheVariants as stop
use Rattle.pas_run.proofs.DoesLemmas.{counts_on}
use Rattle.pas_run.proofs.FileLemmas.{all_shown, ChangesFile}

-- a port finished once more
file_finished : (bound : PortState) (kept now : KeptFile) (file : File) → IsFile bound kept.state kept.told file
    → IsFinished kept now → IsFinishedFile bound now.told file
file_finished bound kept now file is finished = told kept.told now.told is finished.1
  where
    told : (before tells : Option PortState) → IsFile bound kept.state before file
        → WhereTold (Becomes finished_port) before tells → IsFinishedFile bound tells file
    told None tells is finished = absurd is
    told (Some before) None is finished = absurd finished
    told (Some before) (Some port) is finished = (
      ap (λ (port : PortState). port.name) finished ∙ is.name,
      ap (λ (port : PortState). port.bytes) finished ∙ sym is.bytes,
      ap (λ (port : PortState). port.finishes) finished ∙ ap next_count is.finishes,
      ap (λ (port : PortState). port.starts) finished ∙ is.starts,
    )

pub files_finished : (ports : List PortState) (before now : List KeptFile) (files : List File)
    → AreFiles ports before files → AreFinished before now → AreFinishedFiles ports now files
files_finished [] [] [] [] are finished = tt
files_finished [] [] (kept ∷ now) files are finished = absurd finished
files_finished [] [] [] (file ∷ files) are finished = absurd are
files_finished [] (kept ∷ before) now files are finished = absurd are
files_finished (bound ∷ ports) [] now files are finished = absurd are
files_finished (bound ∷ ports) (kept ∷ before) now [] are finished = absurd are
files_finished (bound ∷ ports) (kept ∷ before) [] (file ∷ files) are finished = absurd finished
files_finished (bound ∷ ports) (kept ∷ before) (own ∷ now) (file ∷ files) are finished =
    (file_finished bound kept own file are.0 finished.0, files_finished ports before now files are.1 finished.1)

-- the first files are finished
abbrev pub FinishedTo : ℕ → List KeptFile → List KeptFile → Type 0
FinishedTo zero before now = now ≡ before
FinishedTo (suc i) [] [] = ⊤
FinishedTo (suc i) (kept ∷ before) (own ∷ now) = IsFinished kept own × FinishedTo i before now
FinishedTo (suc i) before now = ⊥

pub finished_next : (i : ℕ) (before between : List KeptFile) (new : KeptFile) → FinishedTo i before between
    → i < length before → IsFinished (slice_index_or between i new) new
    → FinishedTo (suc i) before (slice_set between i new)
finished_next i [] between new are less own = absurd (omega (arith, less))
finished_next zero (kept ∷ before) between new are less own =
    subst (λ (between : List KeptFile). IsFinished (slice_index_or between 0 new) new
    → FinishedTo 1 (kept ∷ before) (slice_set between 0 new)) (sym are) (λ own. (own, refl)) own
finished_next (suc i) (kept ∷ before) [] new are less own = absurd are
finished_next (suc i) (kept ∷ before) (first ∷ between) new are less own =
    (are.0, finished_next i before between new are.1 (omega (arith, less)) own)

pub finished_one : (i : ℕ) (before between now : List KeptFile) → FinishedTo i before between → i < length before
    → IsFinishedAt i between now → FinishedTo (i + 1) before now
finished_one i before between now are less one =
    let next : suc i ≡ i + 1 = omega arith in
    subst (λ (k : ℕ). FinishedTo k before now) next
    (subst (FinishedTo (suc i) before) (sym one.same) (finished_next i before between one.new are less one.finished))

pub finished_all : (i : ℕ) (before now : List KeptFile) → FinishedTo i before now → length before ≤ i
    → AreFinished before now
finished_all zero [] now are less = subst (λ (now : List KeptFile). AreFinished [] now) (sym are) tt
finished_all zero (kept ∷ before) now are less = absurd (omega (arith, less))
finished_all (suc i) [] [] are less = tt
finished_all (suc i) [] (own ∷ now) are less = absurd are
finished_all (suc i) (kept ∷ before) [] are less = absurd are
finished_all (suc i) (kept ∷ before) (own ∷ now) are less =
    (are.0, finished_all i before now are.1 (omega (arith, less)))

-- and tell the bytes that they told
own_shown : (kept own : KeptFile) (bytes : List ℕ) → IsFinished kept own → Shows bytes kept.told → Shows bytes own.told
own_shown kept own bytes is shows = told kept.told own.told is.1 shows
  where
    told : (before tells : Option PortState) → WhereTold (Becomes finished_port) before tells → Shows bytes before
        → Shows bytes tells
    told None tells finished shows = absurd shows
    told (Some before) None finished shows = absurd finished
    told (Some before) (Some port) finished shows = ap (λ (port : PortState). port.bytes) finished ∙ shows

pub finished_shown : (i : ℕ) (before now : List KeptFile) (bytes : List (List ℕ)) → FinishedTo i before now
    → AreShown before bytes → AreShown now bytes
finished_shown zero before now bytes are shown =
    subst (λ (now : List KeptFile). AreShown now bytes) (sym are) shown
finished_shown (suc i) [] [] bytes are shown = shown
finished_shown (suc i) [] (own ∷ now) bytes are shown = absurd are
finished_shown (suc i) (kept ∷ before) [] bytes are shown = absurd are
finished_shown (suc i) (kept ∷ before) (own ∷ now) [] are shown = absurd shown
finished_shown (suc i) (kept ∷ before) (own ∷ now) (first ∷ bytes) are shown =
    (own_shown kept own first are.0 shown.0, finished_shown i before now bytes are.1 shown.1)

-- the moments of a trail are those of what was put out earlier, and more
first_moment : (given : List (List ℕ)) (trail : List Output) → Contains (moments given trail) (replay given trail)
first_moment given [] = (zero, omega arith, refl)
first_moment given (output ∷ earlier) = (zero, omega arith, refl)

pub earlier_moment : (given : List (List ℕ)) (earlier later : List Output) → Extends earlier later
    → Contains (moments given later) (replay given earlier)
earlier_moment given earlier later as_it_was = first_moment given later
earlier_moment given earlier later (and_one output trail extends) =
    let found = earlier_moment given earlier trail extends in
    (suc found.0, omega (arith, found.1), found.2)

-- a run that a failed call of a port stopped, and one whose ports could not all be finished
module _ (given : List (List ℕ)) (first : World) (result : trial.Result) (files : List KeptFile)
    (none : first.trail ≡ []) (bytes : given ≡ bytes_in first) where
  pub cut_off : IsMoment files first result.world → IsCutOff given result files
  cut_off moment = record {
    held = replay given moment.trail;
    among = earlier_moment given moment.trail result.world.trail moment.until;
    shown = moment.shown given (ap (replay given) none ∙ bytes);
  }

  pub cut_off_at_end : replay given result.world.trail ≡ bytes_in result.world
      → AreShown files (bytes_in result.world) → IsCutOff given result files
  cut_off_at_end told shown = record {
    held = replay given result.world.trail;
    among = first_moment given result.world.trail;
    shown = subst (AreShown files) (sym told) shown;
  }

-- a run that came to an end: its ports are finished, or one could not be
module _ (ports : List PortState) (given : List (List ℕ)) (first : World) (result : trial.Result)
    (before now : MachineState) where
  pub ends_finished : (why : Stop) → is_end why ≡ true → EndsAs ports first result before why
      → AreFinished before.files now.files → EndsFinished ports given result now why
  ends_finished (stop.Halted status) end h finished =
      (h.0, files_finished ports before.files now.files result.world.files h.1.files finished)
  ends_finished stop.Going end h finished =
      (h.0, files_finished ports before.files now.files result.world.files h.1.files finished)
  ends_finished (stop.Wrong kind) end h finished =
      (h.0, files_finished ports before.files now.files result.world.files h.1.files finished)
  ends_finished stop.TooDeep end h finished =
      (h.0, files_finished ports before.files now.files result.world.files h.1.files finished)
  ends_finished stop.PortFailed end h finished = absurd cc
  ends_finished stop.OutOfMemory end h finished = absurd cc

  world_at_end : (why : Stop) → is_end why ≡ true → EndsAs ports first result before why
      → IsWorld ports before result.world
  world_at_end (stop.Halted status) end h = h.1
  world_at_end stop.Going end h = h.1
  world_at_end (stop.Wrong kind) end h = h.1
  world_at_end stop.TooDeep end h = h.1
  world_at_end stop.PortFailed end h = absurd cc
  world_at_end stop.OutOfMemory end h = absurd cc

  pub ends_unfinished : (why : Stop) → is_end why ≡ true → EndsAs ports first result before why → first.trail ≡ []
      → given ≡ bytes_in first → replay given result.world.trail ≡ bytes_in result.world
      → ((bytes : List (List ℕ)) → AreShown before.files bytes → AreShown now.files bytes)
      → EndsFinished ports given result now stop.PortFailed
  ends_unfinished why end h none bytes told shown =
      cut_off_at_end given first result now.files none bytes told
      (shown (bytes_in result.world)
      (all_shown ports before.files result.world.files (world_at_end why end h).files))

  -- a run that was cut off
  pub ends_cut_off : (why : Stop) → is_end why ≡ false → EndsAs ports first result before why → first.trail ≡ []
      → given ≡ bytes_in first → EndsFinished ports given result before why
  ends_cut_off (stop.Halted status) end h none bytes = absurd cc
  ends_cut_off stop.Going end h none bytes = absurd cc
  ends_cut_off (stop.Wrong kind) end h none bytes = absurd cc
  ends_cut_off stop.TooDeep end h none bytes = absurd cc
  ends_cut_off stop.PortFailed end h none bytes = cut_off given first result before.files none bytes h
  ends_cut_off stop.OutOfMemory end h none bytes = tt

-- no call of a port failed in a run that came to an end
end_is_none : (why : Stop) → is_end why ≡ true → is_failure why ≡ false
end_is_none (stop.Halted status) end = refl
end_is_none stop.Going end = refl
end_is_none (stop.Wrong kind) end = refl
end_is_none stop.TooDeep end = refl
end_is_none stop.PortFailed end = absurd cc
end_is_none stop.OutOfMemory end = refl

module _ (before between now : List KeptFile) (why : Stop) (end : is_end why ≡ true)
    (counts : CountFailures (is_failure why) before between) where
  none_so_far : CountFailures false before between
  none_so_far = subst (λ failed. CountFailures failed before between) (end_is_none why end) counts

  pub counts_finished : CountFailures false between now → CountFailures (is_failure why) before now
  counts_finished more =
      subst (λ failed. CountFailures failed before now) (sym (end_is_none why end))
      (counts_on false before between now none_so_far more)

  pub counts_unfinished : CountFailures true between now → CountFailures true before now
  counts_unfinished more = counts_on true before between now none_so_far more

-- the one file is finished whose port is
pub finished_file : (number : ℕ) (before now : MachineState) (file new : KeptFile)
    → ChangesFile number before now file new → new.state ≡ file.state
    → WhereTold (Becomes finished_port) file.told new.told → IsFinishedAt number before.files now.files
finished_file number before now file new changes state told = record {
  new = new;
  finished = subst (λ (kept : KeptFile). IsFinished kept new)
      (changes.is ∙ get_or_default before.files number file new changes.there) (state, told);
  same = ap (λ (machine : MachineState). machine.files) changes.same;
}

-- as many files are kept of a machine as it has
pub as_many_inside : {R : Type 0} (files : List R) (kept_of : R → KeptFile) (kept : List KeptFile)
    → map kept_of files ≡ kept → length files ≡ length kept
as_many_inside files kept_of kept is = sym (length-map files kept_of) ∙ ap length is
