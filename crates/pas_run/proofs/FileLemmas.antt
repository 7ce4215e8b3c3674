-- Steps of the files of a machine as steps of a run.
use Rattle.std.proofs.Common.{◌≡◌, ℕ, zero, suc, ◌<◌, ◌≤◌, List, [], ◌∷◌, ◌++◌, length, map, take, drop}
use Rattle.std.proofs.Common.{slice_index_or, slice_set, arith, refl, sym, ap, ◌∙◌, subst, Result, Ok, Err, Option}
use Rattle.std.proofs.Common.{Bool, true, false, if◌then◌else◌, lt-ltb, le-ltb, subst₂, append_assoc, append-nil}
use Rattle.std.proofs.Common.{take-append-drop, ◌⊎◌, inl, inr}
use Rattle.std.proofs.lemmas.List.{map-set, get_or-map, set-set, set-get_or, get_or-set_same, length-set, length-map}
use Rattle.std.proofs.lemmas.List.Sums.{fold-append}
use Rattle.wb_ports.specs.PortState.{PortState}
use Rattle.wb_ports.specs.Counts.{Rose, CountsFailure}
use Rattle.pas_meaning.specs.Answers.{Answer, fine, wrong}
use Rattle.pas_meaning.specs.declared.errors.TheConstants.{WRONG_MODE}
use Rattle.pas_meaning.specs.Files as files
use Rattle.pas_meaning.specs.Files.{File}
use Rattle.pas_meaning.specs.Outcome.{World, Run, Doing, led, ask}
use Rattle.pas_meaning.specs.Outcome.{answered}
use Rattle.pas_meaning.specs.FileSteps.{no_file, file_at, file_named, with_file, left, change_file, append, appended}
use Rattle.pas_meaning.specs.FileSteps.{with_byte}
use Rattle.pas_meaning.specs.FileSteps.{with_bytes, rewrite, emptied_file, put, put_byte, without_buffer}
use Rattle.pas_meaning.specs.Store.{Store}
use Rattle.pas_meaning.specs.Standing.{Kinds}
use Rattle.pas_meaning.specs.Laws.{Extends, Extends.as_it_was, Onward, bytes_in, world_of}
use Rattle.pas_run.specs.declared.files.FileState.{FileState}
use Rattle.pas_run.specs.declared.refusals.Refused.{Refused}
use Rattle.pas_run.specs.declared.refusals.Refused.TheVariants.{Wrong, Failed}
use Rattle.pas_run.specs.declared.ends.Stop.{Stop}
use Rattle.pas_run.specs.RunFiles.{IsFile, Shows, Asks, Makes, with_more, Appends, Rewrites}
use Rattle.pas_run.specs.RunFiles.{put_of, Puts}
use Rattle.pas_meaning.proofs.OnwardLemmas.{goes_append, goes_rewrite}
use Rattle.pas_run.specs.RunFiles as files_spec
use Rattle.pas_run.specs.inner.MachineState.{KeptFile, MachineState, AreFiles, AreShown, IsWorld, IsRun}
use Rattle.pas_run.specs.inner.MachineState.{failures_of, CountFailures}
use Rattle.pas_run.specs.inner.Doings.{stopped, is_port_failed, Any, IsMoment, Does, asks}
use Rattle.pas_run.proofs.DoesLemmas.{moment_on}

-- a file among those of a world, and what it takes that the others stay
pub record FileAt (ports : List PortState) (kept : List KeptFile) (found : List File) (number : ℕ)
    (own : KeptFile) : Type 0 where
  pub bound : PortState
  pub is : IsFile bound own.state own.told (slice_index_or found number no_file)
  pub there : number < length found
  pub others : (now : KeptFile) (file : File) → IsFile bound now.state now.told file
      → AreFiles ports (slice_set kept number now) (slice_set found number file)
  pub shown : (now : KeptFile) (bytes : List ℕ) → Shows bytes now.told
      → AreShown (slice_set kept number now) (slice_set (map (λ (file : File). file.bytes) found) number bytes)

shows_own : (bound : PortState) (state : FileState) (told : Option PortState) (file : File)
    → IsFile bound state told file → Shows file.bytes told
shows_own bound state Option.None file is = is
shows_own bound state (Option.Some port) file is = sym is.bytes

pub all_shown : (ports : List PortState) (kept : List KeptFile) (found : List File) → AreFiles ports kept found
    → AreShown kept (map (λ (file : File). file.bytes) found)
all_shown [] [] [] are = tt
all_shown [] [] (file ∷ found) are = absurd are
all_shown [] (own ∷ kept) found are = absurd are
all_shown (bound ∷ ports) [] found are = absurd are
all_shown (bound ∷ ports) (own ∷ kept) [] are = absurd are
all_shown (bound ∷ ports) (own ∷ kept) (file ∷ found) are =
    (shows_own bound own.state own.told file are.0, all_shown ports kept found are.1)

pub file_there : (ports : List PortState) (kept : List KeptFile) (found : List File) (number : ℕ) (default : KeptFile)
    → AreFiles ports kept found → number < length kept
    → FileAt ports kept found number (slice_index_or kept number default)
file_there [] [] found number default are less = absurd (omega (arith, less))
file_there [] (own ∷ kept) found number default are less = absurd are
file_there (bound ∷ ports) [] found number default are less = absurd (omega (arith, less))
file_there (bound ∷ ports) (own ∷ kept) [] number default are less = absurd are
file_there (bound ∷ ports) (own ∷ kept) (file ∷ found) zero default are less = record {
  bound = bound;
  is = are.0;
  there = omega arith;
  others = λ now file is. (is, are.1);
  shown = λ now bytes shows. (shows, all_shown ports kept found are.1);
}
file_there (bound ∷ ports) (own ∷ kept) (file ∷ found) (suc number) default are less =
    let on = file_there ports kept found number default are.1 (omega (arith, less)) in
    record {
      bound = on.bound;
      is = on.is;
      there = omega (arith, on.there);
      others = λ now other is. (are.0, on.others now other is);
      shown = λ now bytes shows. (shows_own bound own.state own.told file are.0, on.shown now bytes shows);
    }

-- a machine with one file changed
abbrev pub with_kept : ℕ → KeptFile → MachineState → MachineState
with_kept number now machine = record machine { files = slice_set machine.files number now }

same_files : {A : Type 0} (xs : List A) (number : ℕ) (default : A)
    → slice_set xs number (slice_index_or xs number default) ≡ xs
same_files xs number default = set-get_or xs number default

-- a run whose world has the same steps and calls stands for the machine with one file changed
changed_run : (kinds : Kinds) (ports : List PortState) (machine : MachineState) (run : Run Store) (number : ℕ)
    (now : KeptFile) (world : World) → IsRun kinds ports machine run → world.steps ≡ run.world.steps
    → world.calls ≡ run.world.calls → AreFiles ports (slice_set machine.files number now) world.files
    → IsRun kinds ports (with_kept number now machine) (record run { world = world })
changed_run kinds ports machine run number now world stands steps calls are = record {
  activations = stands.activations;
  stands = stands.stands;
  world = record {
    steps = stands.world.steps ∙ sym steps;
    calls = stands.world.calls ∙ sym calls;
    files = are;
  };
}

-- a moment at which nothing was put out
still : (ports : List PortState) (machine : MachineState) (world : World) (number : ℕ) (own now : KeptFile)
    → FileAt ports machine.files world.files number own → Shows (file_at number world).bytes now.told
    → IsMoment (slice_set machine.files number now) world world
still ports machine world number own now at shows = record {
  trail = world.trail;
  from = as_it_was;
  until = as_it_was;
  shown = λ given was. subst (AreShown (slice_set machine.files number now))
      (ap (slice_set (bytes_in world) number) (sym (get_or-map (λ (file : File). file.bytes) world.files number
      no_file []
      at.there))
      ∙ same_files (bytes_in world) number []
      ∙ sym was)
      (at.shown now (file_at number world).bytes shows);
}

module _ (most : ℕ) (kinds : Kinds) (before : MachineState) (number : ℕ) (default now : KeptFile)
    (less : number < length before.files) where
  abbrev own_file : KeptFile
  own_file = slice_index_or before.files number default

  there_in : (ports : List PortState) (run : Run Store) → IsRun kinds ports before run
      → FileAt ports before.files run.world.files number own_file
  there_in ports run stands = file_there ports before.files run.world.files number default stands.world.files less

  -- the file as it was
  as_before : (ports : List PortState) (run : Run Store) (stands : IsRun kinds ports before run)
      → IsFile (there_in ports run stands).bound now.state now.told (file_at number run.world)
      → IsRun kinds ports (with_kept number now before) run
  as_before ports run stands is =
      changed_run kinds ports before run number now run.world stands refl refl
      (subst (AreFiles ports (slice_set before.files number now)) (same_files run.world.files number no_file)
      ((there_in ports run stands).others now (file_at number run.world) is))

  -- a question
  pub does_asked : {A T : Type 0} (question : File → Answer A) (seen : T → A) (result : Result T Refused)
      → Asks question seen own_file.state own_file.told now.state now.told result
      → Does most kinds kinds (λ found value. seen found ≡ value)
      (ask (λ (store : Store) world. question (file_at number world)))
      before (with_kept number now before) (stopped result)
  does_asked question seen (Ok value) asks = record {
    each = λ ports run stands within.
        let is = asks.each (there_in ports run stands).bound (file_at number run.world) (there_in ports run
        stands).is in
        record {
          value = seen value;
          run = run;
          same = ap (λ answer. answered answer run) is.0;
          is = refl;
          stands = as_before ports run stands is.1;
        };
  }
  does_asked question seen (Err (Wrong kind)) asks = record {
    each = λ ports run stands within.
        let is = asks.each (there_in ports run stands).bound (file_at number run.world) (there_in ports run
        stands).is in (
          run.world,
          record {
            same = ap (λ answer. answered answer run) is.0;
            stands = (as_before ports run stands is.1).world;
          },
        );
  }
  does_asked question seen (Err Failed) asks = record {
    each = λ ports run stands within.
        let is = asks.each (there_in ports run stands).bound (file_at number run.world) (there_in ports run
        stands).is in
        subst (IsMoment (slice_set before.files number now) run.world) (asked_world (question (file_at number
        run.world))
        run) (still ports before run.world number own_file now (there_in ports run stands) is);
  }
    where
      asked_world : {A : Type 0} (answer : Answer A) (run : Run Store) → run.world ≡ world_of (answered answer run)
      asked_world (fine value) run = refl
      asked_world (wrong kind) run = refl

  -- a step that leaves the bytes
  left_world : (world : World) (store : Store) (answer : Answer File)
      → Extends world.trail (world_of (led store world (left number world answer))).trail
  left_world world store (fine file) = as_it_was
  left_world world store (wrong kind) = as_it_was

  pub does_made : (step : File → Answer File) (result : Result (Unit {0}) Refused)
      → Makes step own_file.state own_file.told now.state now.told result
      → Does most kinds kinds Any (change_file {S = Store} number step) before (with_kept number now before)
      (stopped result)
  does_made step (Ok value) makes = record {
    each = λ ports run stands within.
        let is = makes.each (there_in ports run stands).bound (file_at number run.world)
        (there_in ports run stands).is in
        record {
          value = tt {0};
          run = record run { world = with_file number is.0 run.world };
          same = ap (λ answer. led run.store run.world (left number run.world answer)) is.1;
          is = tt;
          stands = changed_run kinds ports before run number now (with_file number is.0 run.world) stands refl refl
              ((there_in ports run stands).others now is.0 is.2);
        };
  }
  does_made step (Err (Wrong kind)) makes = record {
    each = λ ports run stands within.
        let is = makes.each (there_in ports run stands).bound (file_at number run.world)
        (there_in ports run stands).is in (
          run.world,
          record {
            same = ap (λ answer. led run.store run.world (left number run.world answer)) is.0;
            stands = (as_before ports run stands is.1).world;
          },
        );
  }
  does_made step (Err Failed) makes = record {
    each = λ ports run stands within.
        let is = makes.each (there_in ports run stands).bound (file_at number run.world)
        (there_in ports run stands).is in
        moment_on (slice_set before.files number now) run.world run.world _
        (left_world run.world run.store (step (file_at number run.world)))
        (still ports before run.world number own_file now (there_in ports run stands) is);
  }

emptied_on : (number : ℕ) (world : World) → Onward world (emptied_file number world)
emptied_on number world = (goes_rewrite {S = Store} number).each (record { store = []; world = world })

-- bytes that are put out: the file has them, and each first part of them is there on the way
module _ (number : ℕ) where
  with_bytes_file : (bytes : List ℕ) (world : World) → number < length world.files
      → (with_bytes number bytes world).files ≡ slice_set world.files number (with_more bytes (file_at number world))
  with_bytes_file [] world less =
      sym (ap (λ own. slice_set world.files number (record (file_at number world) { bytes = own }))
      (append-nil (file_at number world).bytes) ∙ same_files world.files number no_file)
  with_bytes_file (byte ∷ bytes) world less =
      let next = with_byte number world byte in
      let own = file_at number world in
      let set : file_at number next ≡ with_more (byte ∷ []) own =
      get_or-set_same world.files number (with_more (byte ∷ []) own) no_file less in
      with_bytes_file bytes next (omega (
        arith,
        less,
        length-set world.files number (record own { bytes = own.bytes ++ byte ∷ [] }),
      ))
      ∙ ap (λ (file : File). slice_set next.files number (with_more bytes file)) set
      ∙ set-set world.files number (with_more (byte ∷ []) own) (with_more bytes (with_more (byte ∷ []) own))
      ∙ ap (λ all. slice_set world.files number (record own { bytes = all }))
      (append_assoc own.bytes (byte ∷ []) bytes)

  with_bytes_steps : (bytes : List ℕ) (world : World) → (with_bytes number bytes world).steps ≡ world.steps
  with_bytes_steps [] world = refl
  with_bytes_steps (byte ∷ bytes) world = with_bytes_steps bytes (with_byte number world byte)

  with_bytes_calls : (bytes : List ℕ) (world : World) → (with_bytes number bytes world).calls ≡ world.calls
  with_bytes_calls [] world = refl
  with_bytes_calls (byte ∷ bytes) world = with_bytes_calls bytes (with_byte number world byte)

  with_bytes_on : (bytes : List ℕ) (world : World) → Onward world (with_bytes number bytes world)
  with_bytes_on bytes world =
      (goes_append {S = Store} number (λ file. fine bytes)).each (record { store = []; world = world })

  with_bytes_part : (count : ℕ) (bytes : List ℕ) (world : World)
      → with_bytes number bytes world
      ≡ with_bytes number (drop count bytes) (with_bytes number (take count bytes) world)
  with_bytes_part count bytes world =
      ap (λ all. with_bytes number all world) (sym (take-append-drop count bytes))
      ∙ fold-append (with_byte number) world (take count bytes) (drop count bytes)

  -- the moment at which a first part of the bytes is there
  part_put : (ports : List PortState) (machine : MachineState) (world : World) (own now : KeptFile) (count : ℕ)
      (bytes : List ℕ) → FileAt ports machine.files world.files number own
      → Shows ((file_at number world).bytes ++ take count bytes) now.told
      → IsMoment (slice_set machine.files number now) world (with_bytes number bytes world)
  part_put ports machine world own now count bytes at shows =
      let part = with_bytes number (take count bytes) world in
      record {
        trail = part.trail;
        from = (with_bytes_on (take count bytes) world).trail;
        until = subst (λ (last : World). Extends part.trail last.trail) (sym (with_bytes_part count bytes world))
            (with_bytes_on (drop count bytes) part).trail;
        shown = λ given was. subst (AreShown (slice_set machine.files number now))
            (sym ((with_bytes_on (take count bytes) world).files given was
            ∙ ap (map (λ (file : File). file.bytes)) (with_bytes_file (take count bytes) world at.there)
            ∙ map-set (λ (file : File). file.bytes) world.files number
            (with_more (take count bytes) (file_at number world))))
            (at.shown now ((file_at number world).bytes ++ take count bytes) shows);
      }

module _ (most : ℕ) (kinds : Kinds) (before : MachineState) (number : ℕ) (default now : KeptFile)
    (less : number < length before.files) where
  abbrev its_file : KeptFile
  its_file = slice_index_or before.files number default

  abbrev its_place : (ports : List PortState) (run : Run Store) → IsRun kinds ports before run
      → FileAt ports before.files run.world.files number its_file
  its_place = there_in most kinds before number default now less

  -- bytes are appended
  appended_world : (run : Run Store) (more : List ℕ) (answer : Answer (List ℕ)) → answer ≡ fine more
      → world_of (led run.store run.world (appended number run.world answer)) ≡ with_bytes number more run.world
  appended_world run more answer is =
      ap (λ answer. world_of (led run.store run.world (appended number run.world answer))) is

  pub does_appended : (bytes : File → Answer (List ℕ)) (result : Result (Unit {0}) Refused)
      → Appends bytes its_file.state its_file.told now.state now.told result
      → Does most kinds kinds Any (append {S = Store} number bytes) before (with_kept number now before)
      (stopped result)
  does_appended bytes (Ok value) appends = record {
    each = λ ports run stands within.
        let at = its_place ports run stands in
        let is = appends.each at.bound (file_at number run.world) at.is in
        record {
          value = tt {0};
          run = record run { world = with_bytes number is.0 run.world };
          same = ap (λ answer. led run.store run.world (appended number run.world answer)) is.1;
          is = tt;
          stands = changed_run kinds ports before run number now (with_bytes number is.0 run.world) stands
              (with_bytes_steps number is.0 run.world) (with_bytes_calls number is.0 run.world)
              (subst (AreFiles ports (slice_set before.files number now))
              (sym (with_bytes_file number is.0 run.world at.there))
              (at.others now (with_more is.0 (file_at number run.world)) is.2));
        };
  }
  does_appended bytes (Err (Wrong kind)) appends = record {
    each = λ ports run stands within.
        let at = its_place ports run stands in
        let is = appends.each at.bound (file_at number run.world) at.is in (
          run.world,
          record {
            same = ap (λ answer. led run.store run.world (appended number run.world answer)) is.0;
            stands = (as_before most kinds before number default now less ports run stands is.1).world;
          },
        );
  }
  does_appended bytes (Err Failed) appends = record {
    each = λ ports run stands within.
        let at = its_place ports run stands in
        let is = appends.each at.bound (file_at number run.world) at.is in
        subst (IsMoment (slice_set before.files number now) run.world)
        (sym (appended_world run is.0 (bytes (file_at number run.world)) is.2))
        (part_put number ports before run.world its_file now is.1 is.0 at is.3);
  }

  -- a rewrite
  pub does_rewritten : (result : Result (Unit {0}) Refused)
      → Rewrites its_file.state its_file.told now.state now.told result
      → Does most kinds kinds Any (rewrite {S = Store} number) before (with_kept number now before) (stopped result)
  does_rewritten (Ok value) rewrites = record {
    each = λ ports run stands within.
        let at = its_place ports run stands in
        record {
          value = tt {0};
          run = record run { world = emptied_file number run.world };
          same = refl;
          is = tt;
          stands = changed_run kinds ports before run number now (emptied_file number run.world) stands refl refl
              (at.others now (files.rewrite (file_at number run.world))
              (rewrites.each at.bound (file_at number run.world) at.is));
        };
  }
  does_rewritten (Err (Wrong kind)) rewrites = record {
    each = λ ports run stands within.
        let at = its_place ports run stands in absurd (rewrites.each at.bound (file_at number run.world) at.is);
  }
  does_rewritten (Err Failed) rewrites = record {
    each = λ ports run stands within.
        let at = its_place ports run stands in
        emptied_or ports run at (rewrites.each at.bound (file_at number run.world) at.is);
  }
    where
      emptied_or : (ports : List PortState) (run : Run Store)
          → FileAt ports before.files run.world.files number its_file
          → Shows (file_at number run.world).bytes now.told ⊎ Shows [] now.told
          → IsMoment (slice_set before.files number now) run.world (emptied_file number run.world)
      emptied_or ports run at (inl shows) =
          moment_on (slice_set before.files number now) run.world run.world (emptied_file number run.world)
          (emptied_on number run.world).trail (still ports before run.world number its_file now at shows)
      emptied_or ports run at (inr shows) = record {
        trail = (emptied_file number run.world).trail;
        from = (emptied_on number run.world).trail;
        until = as_it_was;
        shown = λ given was. subst (AreShown (slice_set before.files number now))
            (ap (λ bytes. slice_set bytes number []) (sym was)) (at.shown now [] shows);
      }

  -- put
  put_file : (world : World) (byte : ℕ) → number < length world.files
      → (without_buffer number (with_byte number world byte)).files
      ≡ slice_set world.files number (put_of byte (file_at number world))
  put_file world byte there =
      let own = file_at number world in
      let next = with_byte number world byte in
      let set : file_at number next ≡ with_more (byte ∷ []) own =
      get_or-set_same world.files number (with_more (byte ∷ []) own) no_file there in
      ap (λ (file : File). slice_set next.files number (record file { buffer = Option.None })) set
      ∙ set-set world.files number (with_more (byte ∷ []) own) (put_of byte own)

  put_on : (world : World) (byte : ℕ) → Onward world (with_byte number world byte)
  put_on world byte = with_bytes_on number (byte ∷ []) world

  pub does_put : (result : Result (Unit {0}) Refused) → Puts its_file.state its_file.told now.state now.told result
      → Does most kinds kinds Any (put {S = Store} number) before (with_kept number now before) (stopped result)
  does_put (Ok value) puts = record {
    each = λ ports run stands within.
        let at = its_place ports run stands in
        let is = puts.each at.bound (file_at number run.world) at.is in
        record {
          value = tt {0};
          run = record run { world = without_buffer number (with_byte number run.world is.0) };
          same = ap (λ answer. led run.store run.world (put_byte number run.world answer)) is.1;
          is = tt;
          stands = changed_run kinds ports before run number now
              (without_buffer number (with_byte number run.world is.0)) stands refl refl
              (subst (AreFiles ports (slice_set before.files number now)) (sym (put_file run.world is.0 at.there))
              (at.others now (put_of is.0 (file_at number run.world)) is.2));
        };
  }
  does_put (Err (Wrong kind)) puts = record {
    each = λ ports run stands within.
        let at = its_place ports run stands in
        let is = puts.each at.bound (file_at number run.world) at.is in (
          run.world,
          record {
            same = ap (λ answer. led run.store run.world (put_byte number run.world answer)) is.0;
            stands = (as_before most kinds before number default now less ports run stands is.1).world;
          },
        );
  }
  does_put (Err Failed) puts = record {
    each = λ ports run stands within.
        let at = its_place ports run stands in
        let is = puts.each at.bound (file_at number run.world) at.is in
        subst (IsMoment (slice_set before.files number now) run.world)
        (sym (ap (λ answer. world_of (led run.store run.world (put_byte number run.world answer))) is.1))
        (put_or ports run at is.0 is.2);
  }
    where
      put_or : (ports : List PortState) (run : Run Store) → FileAt ports before.files run.world.files number its_file
          → (byte : ℕ) → Shows (file_at number run.world).bytes now.told
          ⊎ Shows ((file_at number run.world).bytes ++ byte ∷ []) now.told
          → IsMoment (slice_set before.files number now) run.world
          (without_buffer number (with_byte number run.world byte))
      put_or ports run at byte (inl shows) =
          moment_on (slice_set before.files number now) run.world run.world
          (without_buffer number (with_byte number run.world byte)) (put_on run.world byte).trail
          (still ports before run.world number its_file now at shows)
      put_or ports run at byte (inr shows) =
          moment_on (slice_set before.files number now) run.world (with_byte number run.world byte)
          (without_buffer number (with_byte number run.world byte)) as_it_was
          (part_put number ports before run.world its_file now 1 (byte ∷ []) at shows)

-- a machine in which one file changed
pub record ChangesFile (number : ℕ) (before now : MachineState) (file new : KeptFile) : Type 0 where
  pub there : number < length before.files
  pub is : file ≡ slice_index_or before.files number file
  pub same : now ≡ with_kept number new before

-- the same as the fields of a machine tell
pub file_changed : {R : Type 0} (kept_of : R → KeptFile) (view before : MachineState) (found : List R) (number : ℕ)
    (file new : R) → view ≡ before → view.files ≡ map kept_of found → file ≡ slice_index_or found number file
    → number < length before.files
    → ChangesFile number before (record view { files = map kept_of (slice_set found number new) }) (kept_of file)
    (kept_of new)
file_changed kept_of view before found number file new same are is there =
    let all : before.files ≡ map kept_of found = sym (ap (λ (machine : MachineState). machine.files) same) ∙ are in
    record {
      there = there;
      is = ap kept_of is
          ∙ sym (ap (λ files. slice_index_or files number (kept_of file)) all
          ∙ get_or-map kept_of found number file (kept_of file)
          (omega (arith, there, ap length all, length-map found kept_of)));
      same = ap (λ (files : List KeptFile). record view { files = files })
          (map-set kept_of found number new ∙ ap (λ files. slice_set files number (kept_of new)) (sym are))
          ∙ ap (with_kept number (kept_of new)) same;
    }

-- each kind of step as what the machine does
module _ (most : ℕ) (kinds : Kinds) (number : ℕ) (before now : MachineState) (file new : KeptFile)
    (changes : ChangesFile number before now file new) where
  moved : {A T : Type 0} (Is : T → A → Type 0) (doing : Doing Store A) (answer : Result T Refused)
      (result : Result T Stop) → result ≡ stopped answer
      → Does most kinds kinds Is doing before (with_kept number new before) (stopped answer)
      → Does most kinds kinds Is doing before now result
  moved Is doing answer result is does =
      subst (λ machine. Does most kinds kinds Is doing before machine result) (sym changes.same)
      (subst (Does most kinds kinds Is doing before (with_kept number new before)) (sym is) does)

  pub does_ask : {A T : Type 0} (question : File → Answer A) (seen : T → A) (answer : Result T Refused)
      (result : Result T Stop) → result ≡ stopped answer
      → Asks question seen file.state file.told new.state new.told answer
      → Does most kinds kinds (λ found value. seen found ≡ value) (asks number question) before now result
  does_ask question seen answer result is asked =
      moved (λ found value. seen found ≡ value) (asks number question) answer result is
      (does_asked most kinds before number file new changes.there question seen answer
      (subst (λ (file : KeptFile). Asks question seen file.state file.told new.state new.told answer) changes.is
      asked))

  pub does_make : (step : File → Answer File) (answer : Result (Unit {0}) Refused) (result : Result (Unit {0}) Stop)
      → result ≡ stopped answer → Makes step file.state file.told new.state new.told answer
      → Does most kinds kinds Any (change_file {S = Store} number step) before now result
  does_make step answer result is made =
      moved Any (change_file {S = Store} number step) answer result is
      (does_made most kinds before number file new changes.there step answer
      (subst (λ (file : KeptFile). Makes step file.state file.told new.state new.told answer) changes.is made))

  pub does_append : (bytes : File → Answer (List ℕ)) (answer : Result (Unit {0}) Refused)
      (result : Result (Unit {0}) Stop) → result ≡ stopped answer
      → Appends bytes file.state file.told new.state new.told answer
      → Does most kinds kinds Any (append {S = Store} number bytes) before now result
  does_append bytes answer result is added =
      moved Any (append {S = Store} number bytes) answer result is
      (does_appended most kinds before number file new changes.there bytes answer
      (subst (λ (file : KeptFile). Appends bytes file.state file.told new.state new.told answer) changes.is added))

  pub does_rewrite : (answer : Result (Unit {0}) Refused) (result : Result (Unit {0}) Stop)
      → result ≡ stopped answer → Rewrites file.state file.told new.state new.told answer
      → Does most kinds kinds Any (rewrite {S = Store} number) before now result
  does_rewrite answer result is written =
      moved Any (rewrite {S = Store} number) answer result is
      (does_rewritten most kinds before number file new changes.there answer
      (subst (λ (file : KeptFile). Rewrites file.state file.told new.state new.told answer) changes.is written))

  pub does_put_byte : (answer : Result (Unit {0}) Refused) (result : Result (Unit {0}) Stop)
      → result ≡ stopped answer → Puts file.state file.told new.state new.told answer
      → Does most kinds kinds Any (put {S = Store} number) before now result
  does_put_byte answer result is puts =
      moved Any (put {S = Store} number) answer result is
      (does_put most kinds before number file new changes.there answer
      (subst (λ (file : KeptFile). Puts file.state file.told new.state new.told answer) changes.is puts))

-- the failed calls of the one file are those of the machine
module _ (number : ℕ) (before now : MachineState) (file new : KeptFile)
    (changes : ChangesFile number before now file new) where
  own_count : slice_index_or (failures_of before.files) number 0 ≡ file.failures
  own_count =
      get_or-map (λ (kept : KeptFile). kept.failures) before.files number file 0 changes.there
      ∙ ap (λ (kept : KeptFile). kept.failures) (sym changes.is)

  counts_now : failures_of now.files ≡ slice_set (failures_of before.files) number new.failures
  counts_now =
      ap (λ (machine : MachineState). failures_of machine.files) changes.same
      ∙ map-set (λ (kept : KeptFile). kept.failures) before.files number new

  there_too : number < length (failures_of before.files)
  there_too = omega (arith, changes.there, length-map before.files (λ (kept : KeptFile). kept.failures))

  pub counts_by : (failed : Bool) → CountsFailure failed file.failures new.failures
      → CountFailures failed before.files now.files
  counts_by true rose = record {
    many = ap (λ (machine : MachineState). length machine.files) changes.same
        ∙ length-set before.files number new;
    number = number;
    there = changes.there;
    rose = subst₂ Rose (sym own_count)
        (sym (ap (λ counts. slice_index_or counts number 0) counts_now
        ∙ get_or-set_same (failures_of before.files) number new.failures 0 there_too)) rose;
  }
  counts_by false same =
      counts_now ∙ ap (slice_set (failures_of before.files) number) (same ∙ sym own_count)
      ∙ set-get_or (failures_of before.files) number 0

  same_failed : {T : Type 0} (answer : Result T Refused)
      → files_spec.is_port_failed answer ≡ is_port_failed (stopped answer)
  same_failed (Ok value) = refl
  same_failed (Err (Wrong kind)) = refl
  same_failed (Err Failed) = refl

  pub counts_file : {T : Type 0} (answer : Result T Refused) (result : Result T Stop) → result ≡ stopped answer
      → CountsFailure (files_spec.is_port_failed answer) file.failures new.failures
      → CountFailures (is_port_failed result) before.files now.files
  counts_file answer result is cause =
      subst (λ result. CountFailures (is_port_failed result) before.files now.files) (sym is)
      (subst (λ failed. CountFailures failed before.files now.files) (same_failed answer)
      (counts_by (files_spec.is_port_failed answer) cause))

-- as many files are kept as the world has
pub many_files : (ports : List PortState) (kept : List KeptFile) (found : List File) → AreFiles ports kept found
    → length kept ≡ length found
many_files [] [] [] are = refl
many_files [] [] (file ∷ found) are = absurd are
many_files [] (own ∷ kept) found are = absurd are
many_files (bound ∷ ports) [] found are = absurd are
many_files (bound ∷ ports) (own ∷ kept) [] are = absurd are
many_files (bound ∷ ports) (own ∷ kept) (file ∷ found) are = ap suc (many_files ports kept found are.1)

-- a file that is there by its number
module _ (ports : List PortState) (machine : MachineState) (world : World) (number : ℕ)
    (is : IsWorld ports machine world) where
  pub named_there : number < length machine.files → file_named number world ≡ fine number
  named_there less =
      ap (λ there. if there then fine number else wrong WRONG_MODE)
      (lt-ltb number (length world.files)
      (omega (arith, less, many_files ports machine.files world.files is.files)))

  pub named_nowhere : length machine.files ≤ number → file_named number world ≡ wrong WRONG_MODE
  named_nowhere past =
      ap (λ there. if there then fine number else wrong WRONG_MODE)
      (le-ltb number (length world.files)
      (omega (arith, past, many_files ports machine.files world.files is.files)))
