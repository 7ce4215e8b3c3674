-- The rest of a line of a text is passed: bytes are got until the end of the line was one of them.
use Rattle.std.proofs.Common.{◌≡◌, ℕ, zero, suc, ◌+◌, ◌<◌, List, [], ◌∷◌, ◌++◌, length, drop, slice_get}
use Rattle.std.proofs.Common.{arith, refl, sym, ap, ◌∙◌, subst, Bool, true, false, Option, Some, None}
use Rattle.std.proofs.Common.{Result, Ok, Err, ◌==◌, eqb-true, eq-eqb, lt-ltb, cond}
use Rattle.std.proofs.lemmas.List.{set-set, get_or-set_same, length-map}
use Rattle.std.specs.Prelude.{if◌then◌else◌, position, unwrap_or, ⊤, not}
use Rattle.std.specs.List.{last_or, position_or_len}
use Rattle.pas_meaning.specs.declared.errors.TheConstants.{WRONG_MODE, AT_END_OF_FILE}
use Rattle.pas_meaning.specs.Answers.{Answer, fine, wrong, then_answer, or_wrong}
use Rattle.pas_meaning.specs.Files as files
use Rattle.pas_meaning.specs.Files.{File, with_line_end, view, line_end, is_reading, next_byte, behind_line}
use Rattle.pas_meaning.specs.FileSteps.{no_file, file_at, with_file, left, change_file}
use Rattle.pas_meaning.specs.Outcome.{Run, Outcome, gives, Doing, pure, and_then, ◌>>=◌, ◌>>◌, answered, led}
use Rattle.pas_meaning.specs.Store.{Store}
use Rattle.pas_meaning.specs.Laws.{Goes}
use Rattle.pas_meaning.specs.Standing.{Kinds}
use Rattle.pas_meaning.proofs.OnwardLemmas.{goes_pure, goes_if, goes_then, goes_ask, goes_change_file, get_keeps}
use Rattle.pas_meaning.proofs.OnwardLemmas.{readln_keeps}
use Rattle.pas_run.specs.declared.ends.Stop.{Stop}
use Rattle.pas_run.specs.inner.MachineState.{KeptFile, MachineState, failures_of}
use Rattle.pas_run.specs.inner.Doings.{Any, Same, Done, Does, asks}
use Rattle.pas_run.specs.inner.Running.{LeadsTo}
use Rattle.pas_run.proofs.DoesLemmas.{does_pure}
use Rattle.pas_run.proofs.RunningLemmas.{found_stop, found_next, done_stop, done_next}
use Rattle.pas_run.proofs.FileLemmas.{many_files}

-- as many files are kept where the counts of failures are the same
pub same_many : (number : ℕ) (first now : List KeptFile) → failures_of now ≡ failures_of first → number < length first
    → number < length now
same_many number first now same there = omega (
  arith,
  there,
  ap length same,
  length-map first (λ (kept : KeptFile). kept.failures),
  length-map now (λ (kept : KeptFile). kept.failures),
)

-- bytes of which the last one ends a line, if there is one
abbrev IsEnded : List ℕ → Type 0
IsEnded [] = ⊤
IsEnded (byte ∷ []) = byte ≡ line_end
IsEnded (byte ∷ other ∷ bytes) = IsEnded (other ∷ bytes)

ended_appended : (bytes : List ℕ) → IsEnded (bytes ++ line_end ∷ [])
ended_appended [] = refl
ended_appended (byte ∷ []) = refl
ended_appended (byte ∷ other ∷ bytes) = ended_appended (other ∷ bytes)

ended_by : (bytes : List ℕ) (byte last : ℕ) → last_or (Some byte) bytes ≡ Some last → (last == line_end) ≡ true
    → IsEnded (byte ∷ bytes)
ended_by [] byte last is ends = ap (λ found. unwrap_or found byte) is ∙ eqb-true last line_end ends
ended_by (other ∷ bytes) byte last is ends = ended_by bytes other last is ends

some_last : (bytes : List ℕ) (byte : ℕ) → (last : ℕ) × (last_or (Some byte) bytes ≡ Some last)
some_last [] byte = (byte, refl)
some_last (other ∷ bytes) byte = some_last bytes other

ended_if : (bytes : List ℕ) (byte last : ℕ) → last_or (Some byte) bytes ≡ Some last → (ends : Bool)
    → (last == line_end) ≡ ends → IsEnded (if ends then byte ∷ bytes else (byte ∷ bytes) ++ line_end ∷ [])
ended_if bytes byte last is true ends = ended_by bytes byte last is ends
ended_if bytes byte last is false ends = ended_appended (byte ∷ bytes)

ended_view : (bytes : List ℕ) → IsEnded (with_line_end (last_or None bytes) bytes)
ended_view [] = tt
ended_view (byte ∷ bytes) =
    let found = some_last bytes byte in
    subst (λ last. IsEnded (with_line_end last (byte ∷ bytes))) (sym found.1)
    (ended_if bytes byte found.0 found.1 (found.0 == line_end) refl)

-- the byte at a place, and those behind it
first_of : (bytes : List ℕ) (place byte : ℕ) → slice_get bytes place ≡ Some byte
    → drop place bytes ≡ byte ∷ drop (suc place) bytes
first_of [] place byte is = absurd (cc)
first_of (first ∷ bytes) zero byte is = ap (λ found. found ∷ bytes) (some_same is)
  where
    some_same : {one other : ℕ} → Some one ≡ Some other → one ≡ other
    some_same {one = one} {other = other} is = ap (λ found. unwrap_or found one) is
first_of (first ∷ bytes) (suc place) byte is = first_of bytes place byte is

-- a place that ends a line stands behind one that does not
abbrev ends_line : ℕ → Bool
ends_line byte = byte == line_end

abbrev IsFound : List ℕ → Type 0
IsFound bytes = position_or_len ends_line bytes < length bytes

found_by : (bytes : List ℕ) (byte : ℕ) (ends : Bool) → ends_line byte ≡ ends → IsFound bytes → IsFound (byte ∷ bytes)
found_by bytes byte true is found =
    subst (λ (here : Bool). cond (not here) (1 + position_or_len ends_line bytes) 0 < suc (length bytes)) (sym is)
    (omega arith)
found_by bytes byte false is found =
    subst (λ (here : Bool). cond (not here) (1 + position_or_len ends_line bytes) 0 < suc (length bytes)) (sym is)
    (omega (arith, found))

ended_found : (bytes : List ℕ) (byte : ℕ) → IsEnded (byte ∷ bytes) → IsFound (byte ∷ bytes)
ended_found [] byte is =
    subst (λ (here : Bool). cond (not here) 1 0 < 1) (sym (eq-eqb byte line_end is)) (omega arith)
ended_found (other ∷ bytes) byte is =
    found_by (other ∷ bytes) byte (ends_line byte) refl (ended_found bytes other is)

found_behind : (bytes : List ℕ) (place byte : ℕ) → IsEnded bytes → slice_get bytes place ≡ Some byte
    → ends_line byte ≡ false → IsFound (drop (suc place) bytes)
found_behind [] place byte ended is other_byte = absurd (cc)
found_behind (first ∷ []) zero byte ended is other_byte =
    let same : first ≡ byte = ap (λ found. unwrap_or found first) is in
    absurd (true_false (sym (eq-eqb byte line_end (sym same ∙ ended)) ∙ other_byte))
  where
    true_false : true ≡ false → ⊥
    true_false is = cc
found_behind (first ∷ []) (suc place) byte ended is other_byte = absurd (cc)
found_behind (first ∷ other ∷ bytes) zero byte ended is other_byte = ended_found bytes other ended
found_behind (first ∷ other ∷ bytes) (suc place) byte ended is other_byte =
    found_behind (other ∷ bytes) place byte ended is other_byte

at_found : (bytes : List ℕ) → IsFound bytes
    → unwrap_or (position ends_line bytes) 0 ≡ position_or_len ends_line bytes
at_found bytes found =
    ap (λ (there : Bool). unwrap_or (cond there (Some (position_or_len ends_line bytes)) None) 0)
    (lt-ltb (position_or_len ends_line bytes) (length bytes) found)

at_first : (bytes : List ℕ) (byte : ℕ) → ends_line byte ≡ true
    → unwrap_or (position ends_line (byte ∷ bytes)) 0 ≡ 0
at_first bytes byte is =
    let here : position_or_len ends_line (byte ∷ bytes) ≡ 0 =
    ap (λ (here : Bool). cond (not here) (1 + position_or_len ends_line bytes) 0) is in
    at_found (byte ∷ bytes) (omega (arith, here)) ∙ here

at_later : (bytes : List ℕ) (byte : ℕ) → ends_line byte ≡ false → IsFound bytes
    → unwrap_or (position ends_line (byte ∷ bytes)) 0 ≡ suc (unwrap_or (position ends_line bytes) 0)
at_later bytes byte is found =
    let at = at_found (byte ∷ bytes) (found_by bytes byte false is found) in
    let there = at_found bytes found in
    let count : position_or_len ends_line (byte ∷ bytes) ≡ 1 + position_or_len ends_line bytes =
    ap (λ (here : Bool). cond (not here) (1 + position_or_len ends_line bytes) 0) is in
    omega (arith, at, there, count)

-- the line of a file: there is none, its end is here, or it goes on behind a byte
abbrev behind_byte : File → File
behind_byte file = record file { place = suc file.place }

data Line (file : File) : Type 0 where
  no_line : (kind : ℕ) → files.eoln file ≡ wrong kind → files.readln file ≡ wrong kind → Line file
  ends : files.eoln file ≡ fine true → files.get file ≡ fine (behind_byte file)
      → files.readln file ≡ fine (behind_byte file) → Line file
  goes_on : (last : File) → files.eoln file ≡ fine false → files.get file ≡ fine (behind_byte file)
      → files.readln file ≡ fine last → files.readln (behind_byte file) ≡ fine last → Line file

-- that of a text with a byte at its place
module _ (file : File) (text : file.is_text ≡ true) (reading : is_reading file.mode ≡ true) (byte : ℕ)
    (here : slice_get (view file) file.place ≡ Some byte) where
  ended : IsEnded (view file)
  ended = subst (λ (text : Bool). IsEnded (if text then with_line_end (last_or None file.bytes) file.bytes
      else file.bytes)) (sym text) (ended_view file.bytes)

  next_is : next_byte file ≡ fine byte
  next_is =
      ap (λ (reads : Bool). if reads then or_wrong AT_END_OF_FILE (slice_get (view file) file.place)
      else wrong WRONG_MODE) reading
      ∙ ap (or_wrong AT_END_OF_FILE) here

  got : files.get file ≡ fine (behind_byte file)
  got = ap (λ (answer : Answer ℕ). then_answer answer (λ _. fine (behind_byte file))) next_is

  end_is : (found : Bool) → ends_line byte ≡ found → files.eoln file ≡ fine found
  end_is found is =
      ap (λ (text : Bool). if text then then_answer (next_byte file) (λ byte. fine (ends_line byte))
      else wrong WRONG_MODE) text
      ∙ ap (λ (answer : Answer ℕ). then_answer answer (λ byte. fine (ends_line byte))) next_is
      ∙ ap fine is

  passed_is : files.readln file ≡ fine (record file { place = behind_line file })
  passed_is =
      ap (λ (text : Bool). if text then then_answer (next_byte file)
      (λ _. fine (record file { place = behind_line file })) else wrong WRONG_MODE) text
      ∙ ap (λ (answer : Answer ℕ). then_answer answer (λ _. fine (record file { place = behind_line file }))) next_is

  rest_is : drop file.place (view file) ≡ byte ∷ drop (suc file.place) (view file)
  rest_is = first_of (view file) file.place byte here

  line_ends : ends_line byte ≡ true → Line file
  line_ends is =
      let place : behind_line file ≡ suc file.place =
      ap (λ rest. file.place + suc (unwrap_or (position ends_line rest) 0)) rest_is
      ∙ ap (λ count. file.place + suc count) (at_first (drop (suc file.place) (view file)) byte is)
      ∙ omega arith in
      ends (end_is true is) got
      (passed_is ∙ ap (λ place. fine (record file { place = place })) place)

  behind_same : ends_line byte ≡ false → IsFound (drop (suc file.place) (view file))
      → behind_line (behind_byte file) ≡ behind_line file
  behind_same is found =
      let count = unwrap_or (position ends_line (drop (suc file.place) (view file))) 0 in
      let more : suc file.place + suc count ≡ file.place + suc (suc count) = omega arith in
      more
      ∙ sym (ap (λ rest. file.place + suc (unwrap_or (position ends_line rest) 0)) rest_is
      ∙ ap (λ count. file.place + suc count) (at_later (drop (suc file.place) (view file)) byte is found))

first_byte : (bytes : List ℕ) (place : ℕ) → IsFound (drop place bytes) → (byte : ℕ)
    × (slice_get bytes place ≡ Some byte)
first_byte [] zero found = absurd (omega (arith, found))
first_byte [] (suc place) found = absurd (omega (arith, found))
first_byte (byte ∷ bytes) zero found = (byte, refl)
first_byte (byte ∷ bytes) (suc place) found = first_byte bytes place found

line_on : (file : File) → file.is_text ≡ true → is_reading file.mode ≡ true → (byte : ℕ)
    → slice_get (view file) file.place ≡ Some byte → ends_line byte ≡ false → Line file
line_on file text reading byte here is =
    let found = found_behind (view file) file.place byte (ended file text reading byte here) here is in
    let next = first_byte (view file) (suc file.place) found in
    goes_on (record file { place = behind_line file }) (end_is file text reading byte here false is)
    (got file text reading byte here) (passed_is file text reading byte here)
    (passed_is (behind_byte file) text reading next.0 next.1
    ∙ ap (λ place. fine (record file { place = place })) (behind_same file text reading byte here is found))

line_at : (file : File) → file.is_text ≡ true → is_reading file.mode ≡ true → (byte : ℕ)
    → slice_get (view file) file.place ≡ Some byte → (found : Bool) → ends_line byte ≡ found → Line file
line_at file text reading byte here true is = line_ends file text reading byte here is
line_at file text reading byte here false is = line_on file text reading byte here is

no_byte : (file : File) (kind : ℕ) → next_byte file ≡ wrong kind → file.is_text ≡ true → Line file
no_byte file kind none text =
    no_line kind
    (ap (λ (text : Bool). if text then then_answer (next_byte file) (λ byte. fine (ends_line byte))
    else wrong WRONG_MODE) text
    ∙ ap (λ (answer : Answer ℕ). then_answer answer (λ byte. fine (ends_line byte))) none)
    (ap (λ (text : Bool). if text then then_answer (next_byte file)
    (λ _. fine (record file { place = behind_line file })) else wrong WRONG_MODE) text
    ∙ ap (λ (answer : Answer ℕ). then_answer answer (λ _. fine (record file { place = behind_line file }))) none)

line_by : (file : File) → file.is_text ≡ true → (reads : Bool) → is_reading file.mode ≡ reads → (found : Option ℕ)
    → slice_get (view file) file.place ≡ found → Line file
line_by file text false reading found here =
    no_byte file WRONG_MODE
    (ap (λ (reads : Bool). if reads then or_wrong AT_END_OF_FILE (slice_get (view file) file.place)
    else wrong WRONG_MODE) reading) text
line_by file text true reading None here =
    no_byte file AT_END_OF_FILE
    (ap (λ (reads : Bool). if reads then or_wrong AT_END_OF_FILE (slice_get (view file) file.place)
    else wrong WRONG_MODE) reading
    ∙ ap (or_wrong AT_END_OF_FILE) here) text
line_by file text true reading (Some byte) here = line_at file text reading byte here (ends_line byte) refl

line_if : (file : File) (text : Bool) → file.is_text ≡ text → Line file
line_if file true text =
    line_by file text (is_reading file.mode) refl (slice_get (view file) file.place) refl
line_if file false text =
    no_line WRONG_MODE
    (ap (λ (text : Bool). if text then then_answer (next_byte file) (λ byte. fine (ends_line byte))
    else wrong WRONG_MODE) text)
    (ap (λ (text : Bool). if text then then_answer (next_byte file)
    (λ _. fine (record file { place = behind_line file })) else wrong WRONG_MODE) text)

line_of : (file : File) → Line file
line_of file = line_if file file.is_text refl

-- a turn: whether the end of the line is here, the byte, and the rest of the line if it goes on
abbrev passed_on : ℕ → Bool → Doing Store (Unit {0})
passed_on number at_end = if at_end then pure (tt {0}) else change_file number files.readln

abbrev turn : ℕ → Doing Store (Unit {0})
turn number = asks number files.eoln >>= (λ at_end. change_file number files.get >> passed_on number at_end)

goes_on_line : (number : ℕ) (at_end : Bool) → Goes (passed_on number at_end)
goes_on_line number at_end =
    goes_if at_end (goes_pure (tt {0})) (goes_change_file number files.readln readln_keeps)

goes_get : (number : ℕ) → Goes {S = Store} (change_file number files.get)
goes_get number = goes_change_file number files.get get_keeps

as_a_turn : (number : ℕ) (run : Run Store) → number < length run.world.files → Line (file_at number run.world)
    → change_file number files.readln run ≡ turn number run
as_a_turn number run there (no_line kind at_end passed) =
    ap (λ (answer : Answer File). led run.store run.world (left number run.world answer)) passed
    ∙ sym (ap (λ (answer : Answer Bool). and_then (answered answer run)
    (λ at_end. change_file number files.get >> passed_on number at_end)) at_end)
as_a_turn number run there (ends at_end got passed) =
    ap (λ (answer : Answer File). led run.store run.world (left number run.world answer)) passed
    ∙ sym (ap (λ (answer : Answer Bool). and_then (answered answer run)
    (λ at_end. change_file number files.get >> passed_on number at_end)) at_end
    ∙ ap (λ (answer : Answer File). and_then (led run.store run.world (left number run.world answer))
    (λ _. pure (tt {0}))) got)
as_a_turn number run there (goes_on last at_end got passed behind) =
    let next = behind_byte (file_at number run.world) in
    let world = with_file number next run.world in
    let its : file_at number world ≡ next = get_or-set_same run.world.files number next no_file there in
    ap (λ (answer : Answer File). led run.store run.world (left number run.world answer)) passed
    ∙ sym (ap (λ (answer : Answer Bool). and_then (answered answer run)
    (λ at_end. change_file number files.get >> passed_on number at_end)) at_end
    ∙ ap (λ (answer : Answer File). and_then (led run.store run.world (left number run.world answer))
    (λ _. change_file {S = Store} number files.readln)) got
    ∙ ap (λ (answer : Answer File). led run.store world (left number world answer)) (ap files.readln its ∙ behind)
    ∙ ap (λ (files : List File). gives (tt {0}) (record { store = run.store; world = record world { files = files } }))
    (set-set run.world.files number next last))

-- what the turns of a machine do
module _ (kinds : Kinds) (number : ℕ) (before : MachineState) (there : number < length before.files) where
  by_turn : (most : ℕ) (now : MachineState) (result : Result (Unit {0}) Stop)
      → Does most kinds kinds Any (turn number) before now result
      → Does most kinds kinds Any (change_file number files.readln) before now result
  by_turn most now result does = record {
    each = λ ports run stands within.
        subst (λ (outcome : Outcome Store (Unit {0})). Done kinds ports Any run.world outcome now result)
        (sym (as_a_turn number run
        (omega (arith, there, many_files ports before.files run.world.files stands.world.files))
        (line_of (file_at number run.world)))) (does.each ports run stands within);
  }

  pub line_unknown : (most : ℕ) (now : MachineState) (why : Stop)
      → Does {T = Bool} most kinds kinds Same (asks number files.eoln) before now (Err why)
      → Does {T = Unit {0}} most kinds kinds Any (change_file number files.readln) before now (Err why)
  line_unknown most now why does =
      by_turn most now (Err why)
      (found_stop {T = Unit {0}} most kinds Any (asks number files.eoln)
      (λ at_end. change_file number files.get >> passed_on number at_end) before now why
      (λ at_end. goes_then (goes_get number) (goes_on_line number at_end)) does)

  module _ (between : MachineState) (at_end : Bool)
      (asked : (most : ℕ) → Does {T = Bool} most kinds kinds Same (asks number files.eoln) before between
      (Ok at_end)) where
    behind_question : (most : ℕ) (now : MachineState) (result : Result (Unit {0}) Stop)
        → Does most kinds kinds Any (change_file number files.get >> passed_on number at_end) between now result
        → Does most kinds kinds Any (change_file number files.readln) before now result
    behind_question most now result does =
        by_turn most now result
        (found_next most kinds Any (asks number files.eoln)
        (λ at_end. change_file number files.get >> passed_on number at_end) before between now at_end result
        (goes_ask (λ store world. files.eoln (file_at number world))) (asked most) does)

    pub byte_not_got : (most : ℕ) (now : MachineState) (why : Stop)
        → Does {T = Unit {0}} most kinds kinds Any (change_file number files.get) between now (Err why)
        → Does {T = Unit {0}} most kinds kinds Any (change_file number files.readln) before now (Err why)
    byte_not_got most now why does =
        behind_question most now (Err why)
        (done_stop {T = Unit {0}} most kinds Any (change_file number files.get) (passed_on number at_end) between now
        why (goes_on_line number at_end) does)

    module _ (after : MachineState)
        (got : (most : ℕ) → Does {T = Unit {0}} most kinds kinds Any (change_file number files.get) between after
        (Ok (tt {0}))) where
      behind_byte_too : (most : ℕ) (now : MachineState) (result : Result (Unit {0}) Stop)
          → Does most kinds kinds Any (passed_on number at_end) after now result
          → Does most kinds kinds Any (change_file number files.readln) before now result
      behind_byte_too most now result does =
          behind_question most now result
          (done_next most kinds Any (change_file number files.get) (passed_on number at_end) between after now result
          (goes_get number) (got most) does)

      pub line_passed : (most : ℕ) → at_end ≡ true
          → Does {T = Unit {0}} most kinds kinds Any (change_file number files.readln) before after (Ok (tt {0}))
      line_passed most is =
          behind_byte_too most after (Ok (tt {0}))
          (subst (λ (at_end : Bool). Does {T = Unit {0}} most kinds kinds Any (passed_on number at_end) after after
          (Ok (tt {0}))) (sym is) (does_pure most kinds Any (tt {0}) (tt {0}) after tt))

      pub line_goes_on : at_end ≡ false
          → LeadsTo {T = Unit {0}} kinds Any (λ most. change_file number files.readln)
          (λ most. change_file number files.readln) before after
      line_goes_on is = record {
        each = λ now result does most.
            behind_byte_too most now result
            (subst (λ (at_end : Bool). Does most kinds kinds Any (passed_on number at_end) after now result) (sym is)
            (does most));
      }
