-- What a sink over a file keeps in mind, from one write to the next; and what that tells in the end.
use Rattle.std.proofs.Common.{◌≡◌, ◌≢◌, ◌⊎◌, ℕ, ◌+◌, ◌<◌, ◌≤◌, zero, suc, List, [], ◌++◌, take, length, Bool, true}
use Rattle.std.proofs.Common.{false}
use Rattle.std.proofs.Common.{Option, Some, None, MatchOption, IfSome, is_some, Result, Ok, Err, OnOk, OnErr, is_err}
use Rattle.std.proofs.Common.{refl, sym, ◌∙◌, ap, subst}
use Rattle.std.proofs.Common.{arith, inl, inr, min}
use Rattle.std.proofs.lemmas.List.{take_all}
use Rattle.wb_ports.specs.declared.shelf.FailedCall.{FailedCall}
use Rattle.wb_ports.specs.declared.shelf.ShelfCall.{ShelfCall}
use Rattle.wb_ports.specs.declared.shelf.ShelfCall.TheVariants.{Write, Close}
use Rattle.wb_ports.specs.Counts.{Rose, next_count, CountsFailure}
use Rattle.wb_ports.specs.Held.{WhereTold, Gains, GainsPrefix}
use Rattle.wb_ports.specs.Files.{Files, SameFiles, AppendsTo, AppendsPrefixTo, KeepsLastFailure, Loads}
use Rattle.wb_ports.specs.declared.shelf.TheConstants.{LOAD_LIMIT}
use Rattle.wb_ports.proofs.CountsLemmas.{rose_still}
use Rattle.tangle_core.specs.declared.job.TextCopy.{TextCopy}
use Rattle.tangle_core.specs.declared.emitting.EmitErr.{EmitErr}
use Rattle.tangle_core.specs.declared.emitting.EmitErr.TheVariants.{Fault, Failed}
use Rattle.tangle_core.specs.Emission.{is_failed}
use Rattle.tangle_core.specs.inner.Writing.{FillsUnfinished}
use Rattle.tangle_core.specs.inner.Filling.{KeepsInMind, Seen, ShelfSeen, held_by, shelf_now, seen_now}
use Rattle.tangle_core.specs.inner.Filling.{IsReady, StandsEmpty, Fills, Copies}

-- what was told before, where it is told now
pub record Told {T : Type 0} (R : T → T → Type 0) (before : Option T) (now : T) : Type 0 where
  pub first : T
  pub is : before ≡ Some first
  pub holds : R first now

pub told_before : {T : Type 0} (R : T → T → Type 0) (before after : Option T) (now : T) → WhereTold R before after
    → after ≡ Some now → Told R before now
told_before R None None now told is = absurd (cc)
told_before R None (Some there) now told is = absurd told
told_before R (Some first) None now told is = absurd (cc)
told_before R (Some first) (Some there) now told is =
    let same : there ≡ now = cc in
    record { first = first; is = refl; holds = subst (λ n. R first n) same told }

pub told_same : {T : Type 0} (R : T → T → Type 0) (before after : Option T) → WhereTold R before after
    → is_some after ≡ is_some before
told_same R None None told = refl
told_same R None (Some there) told = absurd told
told_same R (Some first) None told = absurd told
told_same R (Some first) (Some there) told = refl

-- what a call makes of the last failed one, where the files are told
keeps_last : (files : Option Files) (call : ShelfCall) (name : List ℕ) (before now : Option FailedCall) (first : Files)
    → KeepsLastFailure files call name false before now → files ≡ Some first → now ≡ before
keeps_last None call name before now first keeps is = absurd (cc)
keeps_last (Some there) call name before now first keeps is = keeps

is_last : (files : Option Files) (call : ShelfCall) (name : List ℕ) (before now : Option FailedCall) (first : Files)
    → KeepsLastFailure files call name true before now → files ≡ Some first
    → now ≡ Some (record { call = call; name = name })
is_last None call name before now first keeps is = absurd (cc)
is_last (Some there) call name before now first keeps is = keeps

some_there : (o : Option (List ℕ)) (bytes : List ℕ) → o ≡ Some bytes → is_some o ≡ true
some_there o bytes is = ap is_some is

-- a piece was written, and added to the copy
pub keeps-written : (limit : ℕ) (seen : Seen) (shelf next : ShelfSeen) (copy next_copy : TextCopy) (failures : ℕ)
    (piece : List ℕ)
    → KeepsInMind limit seen shelf copy failures
    → WhereTold (AppendsTo shelf.open_name piece) shelf.files next.files
    → next.open_name ≡ shelf.open_name → next.faults ≡ shelf.faults
    → KeepsLastFailure shelf.files Write shelf.open_name false shelf.last_failure next.last_failure
    → (copy.wanted ≡ false → next_copy ≡ copy) → next_copy.wanted ≡ copy.wanted
    → (next_copy.refused ≡ false → copy.refused ≡ false)
    → (copy.wanted ≡ true → next_copy.refused ≡ false → (bytes : List ℕ) → copy.kept ≡ take limit bytes
    → next_copy.kept ≡ take limit (bytes ++ piece))
    → KeepsInMind limit seen next next_copy failures
keeps-written limit seen shelf next copy next_copy failures piece keeps files name faults last unwanted wanted refused
    kept =
    record {
      told = told_same _ shelf.files next.files files ∙ keeps.told;
      same_name = λ all is.
          let before = told_before _ shelf.files next.files all files is in
          name ∙ keeps.same_name before.first before.is;
      others = λ first all first_is is other ne.
          let before = told_before _ shelf.files next.files all files is in
          let ne_open : other ≢ shelf.open_name =
          λ e. ne (e ∙ keeps.same_name before.first before.is) in
          before.holds.others other ne_open ∙ keeps.others first before.first first_is before.is other ne;
      there = λ all is.
          let before = told_before _ shelf.files next.files all files is in
          some_there _ _ (ap all name ∙ before.holds.holds);
      none_failed = λ none. faults ∙ keeps.none_failed none;
      some_failed = λ some. subst (λ (n : ℕ). Rose seen.shelf.faults n) (sym faults) (keeps.some_failed some);
      last = λ some all is.
          let before = told_before _ shelf.files next.files all files is in
          keeps_last _ _ _ _ _ before.first last before.is ∙ keeps.last some before.first before.is;
      unwanted = λ none.
          let still : copy.wanted ≡ false = keeps.wanted ∙ none in
          unwanted still ∙ keeps.unwanted none;
      wanted = wanted ∙ keeps.wanted;
      kept = λ is_wanted is_kept none all is bytes bytes_is.
          let before = told_before _ shelf.files next.files all files is in
          let there : Some bytes ≡ Some (before.holds.bytes ++ piece) =
          sym bytes_is ∙ ap all name ∙ before.holds.holds in
          let same : before.holds.bytes ++ piece ≡ bytes = cc in
          let was : copy.wanted ≡ true = sym wanted ∙ is_wanted in
          kept was is_kept before.holds.bytes
          (keeps.kept was (refused is_kept) none before.first before.is before.holds.bytes before.holds.held)
          ∙ ap (take limit) same;
    }

-- a write failed
pub keeps-failed : (limit : ℕ) (seen : Seen) (shelf next : ShelfSeen) (copy : TextCopy) (failures more : ℕ)
    (piece : List ℕ)
    → KeepsInMind limit seen shelf copy failures
    → WhereTold (AppendsPrefixTo shelf.open_name piece) shelf.files next.files
    → next.open_name ≡ shelf.open_name → Rose shelf.faults next.faults
    → KeepsLastFailure shelf.files Write shelf.open_name true shelf.last_failure next.last_failure
    → 0 < more
    → KeepsInMind limit seen next copy more
keeps-failed limit seen shelf next copy failures more piece keeps files name rose last some =
    record {
      told = told_same _ shelf.files next.files files ∙ keeps.told;
      same_name = λ all is.
          let before = told_before _ shelf.files next.files all files is in
          name ∙ keeps.same_name before.first before.is;
      others = λ first all first_is is other ne.
          let before = told_before _ shelf.files next.files all files is in
          let ne_open : other ≢ shelf.open_name =
          λ e. ne (e ∙ keeps.same_name before.first before.is) in
          before.holds.1.others other ne_open ∙ keeps.others first before.first first_is before.is other ne;
      there = λ all is.
          let before = told_before _ shelf.files next.files all files is in
          some_there _ _ (ap all name ∙ before.holds.1.holds);
      none_failed = λ none. absurd (omega arith);
      some_failed = λ _. risen failures refl;
      last = λ _ all is.
          let before = told_before _ shelf.files next.files all files is in
          is_last _ _ _ _ _ before.first last before.is
          ∙ ap (λ (n : List ℕ). let failed : FailedCall = record { call = Write; name = n } in Some failed)
          (keeps.same_name before.first before.is);
      unwanted = keeps.unwanted;
      wanted = keeps.wanted;
      kept = λ is_wanted is_kept none all is bytes bytes_is. absurd (omega arith);
    }
  where
    risen : (n : ℕ) → failures ≡ n → Rose seen.shelf.faults next.faults
    risen zero is = subst (λ (n : ℕ). Rose n next.faults) (keeps.none_failed is) rose
    risen (suc n) is = rose_still _ _ _ (keeps.some_failed (omega arith)) rose.later

-- before the first write
pub keeps-new : (limit : ℕ) (files : Option Files) (open_name : List ℕ) (faults : ℕ) (last : Option FailedCall)
    (copy : TextCopy) (seen : Seen) → seen ≡ seen_now files open_name faults last copy
    → IsReady copy → StandsEmpty files open_name
    → KeepsInMind limit seen
    (record { files = files; open_name = open_name; faults = faults; last_failure = last }) copy 0
keeps-new limit files open_name faults last copy seen is ready empty =
    subst (λ (s : Seen). KeepsInMind limit s
    (record { files = files; open_name = open_name; faults = faults; last_failure = last }) copy 0) (sym is) (record {
      told = refl;
      same_name = λ all all_is. refl;
      others = λ first all first_is all_is other ne.
          let same : Some first ≡ Some all = sym first_is ∙ all_is in
          let e : first ≡ all = cc in
          ap (λ (f : Files). f other) (sym e);
      there = λ all all_is. some_there _ _ (empty all all_is);
      none_failed = λ none. refl;
      some_failed = λ some. absurd (omega arith);
      last = λ some all all_is. absurd (omega arith);
      unwanted = λ none. refl;
      wanted = refl;
      kept = λ is_wanted is_kept none all all_is bytes bytes_is.
          let none_yet : Some [] ≡ Some bytes = sym (empty all all_is) ∙ bytes_is in
          let e : [] ≡ bytes = cc in
          ready is_wanted is_kept ∙ sym (take_all limit [] (omega arith)) ∙ ap (take limit) e;
    })

-- ---- in the end

text_gained : (text : List ℕ) (before now : Option (List ℕ)) → before ≡ Some [] → is_some now ≡ true
    → Gains text before now → now ≡ Some text
text_gained text before None empty there gains = absurd (cc)
text_gained text None (Some now) empty there gains = absurd gains
text_gained text (Some before) (Some now) empty there gains =
    let none : before ≡ [] = cc in
    ap (λ (l : List ℕ). Some l) (gains ∙ ap (λ (l : List ℕ). l ++ text) none)

-- the file has this text
appends : (limit : ℕ) (first all : Files) (name : List ℕ) (faults : ℕ) (last : Option FailedCall) (copy : TextCopy)
    (next : ShelfSeen) (next_copy : TextCopy) (failures : ℕ) (text : List ℕ)
    → next.files ≡ Some all
    → KeepsInMind limit (seen_now (Some first) name faults last copy) next next_copy failures
    → first name ≡ Some [] → Gains text (first name) (all next.open_name)
    → AppendsTo name text first all
appends limit first all name faults last copy next next_copy failures text is keeps empty gains =
    let same : next.open_name ≡ name = keeps.same_name all is in
    record {
      bytes = [];
      held = empty;
      holds = ap all (sym same) ∙ text_gained text _ _ empty (keeps.there all is) gains;
      others = keeps.others first all refl is;
    }

pub filled : (limit : ℕ) (files : Option Files) (name : List ℕ) (faults : ℕ) (last : Option FailedCall)
    (copy : TextCopy) (next : ShelfSeen) (next_copy : TextCopy) (failures : ℕ) (text : List ℕ)
    → KeepsInMind limit (seen_now files name faults last copy) next next_copy failures
    → StandsEmpty files name → Gains text (held_by files name) (held_by next.files next.open_name)
    → WhereTold (AppendsTo name text) files next.files
filled limit files name faults last copy next next_copy failures text keeps empty gains =
    by_told files next.files refl refl
  where
    by_told : (a b : Option Files) → files ≡ a → next.files ≡ b → WhereTold (AppendsTo name text) a b
    by_told None None a_is b_is = tt
    by_told None (Some all) a_is b_is = let told = keeps.told in absurd (cc)
    by_told (Some first) None a_is b_is = let told = keeps.told in absurd (cc)
    by_told (Some first) (Some all) a_is b_is =
        appends limit first all name faults last copy next next_copy failures text b_is
        (subst (λ (o : Option Files). KeepsInMind limit (seen_now o name faults last copy) next next_copy failures)
        a_is keeps)
        (empty first a_is)
        (subst (λ (o : Option Files). Gains text (held_by (Some first) name) (held_by o next.open_name)) b_is
        (subst (λ (o : Option Files). Gains text (held_by o name) (held_by next.files next.open_name)) a_is gains))

-- a write failed, after which a prefix of the text stands
pub unfilled : (limit : ℕ) (files : Option Files) (name : List ℕ) (faults : ℕ) (last : Option FailedCall)
    (copy : TextCopy) (next : ShelfSeen) (next_copy : TextCopy) (failures : ℕ) (text : List ℕ)
    → KeepsInMind limit (seen_now files name faults last copy) next next_copy failures
    → StandsEmpty files name → 0 < failures
    → GainsPrefix text (held_by files name) (held_by next.files next.open_name)
    → WhereTold (FillsUnfinished name text next.last_failure) files next.files
unfilled limit files name faults last copy next next_copy failures text keeps empty some (n, gains) =
    by_told files next.files refl refl
    (filled limit files name faults last copy next next_copy failures (take n text) keeps empty gains)
  where
    by_told : (a b : Option Files) → files ≡ a → next.files ≡ b → WhereTold (AppendsTo name (take n text)) a b
        → WhereTold (FillsUnfinished name text next.last_failure) a b
    by_told None None a_is b_is appended = tt
    by_told None (Some all) a_is b_is appended = absurd appended
    by_told (Some first) None a_is b_is appended = absurd appended
    by_told (Some first) (Some all) a_is b_is appended =
        subst (λ (o : Option FailedCall). FillsUnfinished name text o first all)
        (sym (keeps.last some all b_is))
        (record { same_name = refl; call = inl refl; prefix = (n, appended) })

-- the copy has what would be loaded of the file
pub kept_loads : (files : Option Files) (name : List ℕ) (faults : ℕ) (last : Option FailedCall)
    (copy : TextCopy) (next : ShelfSeen) (next_copy : TextCopy) (failures : ℕ)
    → KeepsInMind LOAD_LIMIT (seen_now files name faults last copy) next next_copy failures
    → failures ≡ 0 → copy.wanted ≡ true → next_copy.refused ≡ false
    → IfSome next.files (λ all. Loads all name next_copy.kept)
kept_loads files name faults last copy next next_copy failures keeps none wanted kept =
    by_files next.files refl
  where
    by_bytes : (all : Files) → next.files ≡ Some all → (o : Option (List ℕ)) → all next.open_name ≡ o
        → MatchOption o ⊥ (λ bytes. next_copy.kept ≡ take LOAD_LIMIT bytes)
    by_bytes all is None o_is = let there = keeps.there all is in absurd (cc)
    by_bytes all is (Some bytes) o_is = keeps.kept (keeps.wanted ∙ wanted) kept none all is bytes o_is

    by_files : (o : Option Files) → next.files ≡ o → IfSome o (λ all. Loads all name next_copy.kept)
    by_files None is = tt
    by_files (Some all) is =
        subst (λ (n : List ℕ). Loads all n next_copy.kept) (keeps.same_name all is)
        (by_bytes all is (all next.open_name) refl)

-- a count that rose from none is more than none
pub rose_from_none : (failures : ℕ) → Rose 0 failures → 0 < failures
rose_from_none failures rose = omega (arith, rose.more)

pub Fills-told : (limit : ℕ) (seen : Seen) (files : Option Files) (name : List ℕ) (faults : ℕ)
    (last : Option FailedCall) (copy : TextCopy) (next : ShelfSeen) (next_copy : TextCopy) (failures : ℕ)
    (text : List ℕ) (is_failed : Bool)
    → KeepsInMind limit seen next next_copy failures → seen ≡ seen_now files name faults last copy
    → StandsEmpty files name → CountsFailure is_failed 0 failures
    → (is_failed ≡ false → Gains text (held_by files name) (held_by next.files next.open_name))
    → (is_failed ≡ true → GainsPrefix text (held_by files name) (held_by next.files next.open_name))
    → Fills text is_failed (shelf_now files name faults last) next
Fills-told limit seen files name faults last copy next next_copy failures text is_failed kept is empty counts gains
    prefix =
    let keeps : KeepsInMind limit (seen_now files name faults last copy) next next_copy failures =
    subst (λ (s : Seen). KeepsInMind limit s next next_copy failures) is kept in
    record {
      written = λ ok. filled limit files name faults last copy next next_copy failures text keeps empty (gains ok);
      unfinished = λ failed.
          unfilled limit files name faults last copy next next_copy failures text keeps empty
          (some_failed is_failed failed counts) (prefix failed);
      same_name = by_files next.files (λ all all_is. keeps.same_name all all_is);
      cause = counted is_failed counts keeps.none_failed keeps.some_failed;
    }
  where
    some_failed : (b : Bool) → b ≡ true → CountsFailure b 0 failures → 0 < failures
    some_failed true b_is rose = rose_from_none failures rose
    some_failed false b_is same = absurd (cc)

    by_files : (o : Option Files) → ((all : Files) → o ≡ Some all → next.open_name ≡ name)
        → IfSome o (λ all. next.open_name ≡ name)
    by_files None same = tt
    by_files (Some all) same = same all refl

    counted : (b : Bool) → CountsFailure b 0 failures → (failures ≡ 0 → next.faults ≡ faults)
        → (0 < failures → Rose faults next.faults) → CountsFailure b faults next.faults
    counted true rose none some = some (rose_from_none failures rose)
    counted false same none some = none same

pub Copies-told : (seen : Seen) (files : Option Files) (name : List ℕ) (faults : ℕ)
    (last : Option FailedCall) (copy : TextCopy) (next : ShelfSeen) (next_copy : TextCopy) (failures : ℕ)
    (is_failed : Bool)
    → KeepsInMind LOAD_LIMIT seen next next_copy failures → seen ≡ seen_now files name faults last copy
    → CountsFailure is_failed 0 failures
    → Copies is_failed copy next_copy name next.files
Copies-told seen files name faults last copy next next_copy failures is_failed kept is counts =
    let keeps : KeepsInMind LOAD_LIMIT (seen_now files name faults last copy) next next_copy failures =
    subst (λ (s : Seen). KeepsInMind LOAD_LIMIT s next next_copy failures) is kept in
    record {
      unwanted = keeps.unwanted;
      wanted = keeps.wanted;
      kept = λ ok wanted there.
          kept_loads files name faults last copy next next_copy failures keeps (none is_failed ok counts) wanted there;
    }
  where
    none : (b : Bool) → b ≡ false → CountsFailure b 0 failures → failures ≡ 0
    none true b_is rose = absurd (cc)
    none false b_is same = same

pub counts_from_none : (is_failed : Bool) (before failures : ℕ) → before ≡ 0 → CountsFailure is_failed before failures
    → CountsFailure is_failed 0 failures
counts_from_none is_failed before failures is counts = subst (λ (n : ℕ). CountsFailure is_failed n failures) is counts

-- ---- which answer it was

pub failed_is : (T : Type 0) (result : Result T EmitErr) → is_failed result ≡ true → result ≡ Err Failed
failed_is T (Ok value) is = absurd (cc)
failed_is T (Err (Fault fault)) is = absurd (cc)
failed_is T (Err Failed) is = refl

pub of_ok : (T E P : Type 0) (result : Result T E) → OnOk result P → is_err result ≡ false → P
of_ok T E P (Ok value) p is = p
of_ok T E P (Err error) p is = absurd (cc)

pub of_failure : (T E P : Type 0) (result : Result T E) → OnErr result P → is_err result ≡ true → P
of_failure T E P (Ok value) p is = absurd (cc)
of_failure T E P (Err error) p is = p
