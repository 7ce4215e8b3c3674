-- What functions that check a part answer, by what was answered of its parts.
use Rattle.std.proofs.Common.{◌≡◌, refl, sym, ap, subst, ◌∙◌, ℕ, ◌<◌, arith, Bool, true, false, List, [], ◌∷◌}
use Rattle.std.proofs.Common.{◌++◌, length, Option, Some, None, Result, Ok, Err}
use Rattle.wb_base.specs.declared.faults.Fault.{Fault}
use Rattle.wb_base.specs.declared.faults.TheConstants.{WRONG_TYPE}
use Rattle.pas_tokens.specs.Cutting.{Wrong, wrong}
use Rattle.pas_tokens.specs.Tokens.{fault_in}
use Rattle.pas_syntax.specs.Words.{Word}
use Rattle.pas_scopes.specs.declared.stop.Stop.{Stop}
use Rattle.pas_scopes.specs.declared.stop.Stop.TheVariants as stop
use Rattle.pas_scopes.specs.declared.judged.Judged.{Judged as CodeJudged}
use Rattle.pas_rules.specs.Marks.{Marks, quiet, followed, joined, with_behind, unless, Judged, judged, means}
use Rattle.pas_rules.specs.Marks.{refuses, known, both, noted, checked, checked_by, kept_by, at_last, faults_if}
use Rattle.pas_rules.specs.Marks.{first_fault}
use Rattle.pas_scopes.specs.Ends.{Ends, Stops}
use Rattle.pas_scopes.specs.Stopping.{shown_in, found_before}
use Rattle.pas_scopes.specs.Answers.{Ending, lawful_end, short_end, noted_end, closed_end, stands_at}
use Rattle.pas_scopes.specs.Answers.{settled_at, EndsAs, StopsBy, Answers, Shows}
use Rattle.pas_scopes.specs.Answers.{FailsBy, Stands}
use Rattle.pas_scopes.specs.Answers.{end_in, stands_by, StandsAs}
use Rattle.pas_rules.proofs.AsMany.{AsMany, behind_word}
use Rattle.pas_scopes.proofs.EndLemmas.{end_many, end_faulty, stops_first, stops_within, noted_stops, noted_fine}
use Rattle.pas_scopes.proofs.EndLemmas.{noted_refused, checked_stops, checked_fine, last_of_nothing, stops_behind}
use Rattle.pas_scopes.proofs.PartLemmas.{pair, alone, ends_behind_word, pair_refused_first, pair_short_first}
use Rattle.pas_scopes.proofs.PartLemmas.{pair_stops_second, pair_ends, enclosed, enclosed_stops, enclosed_refused}
use Rattle.pas_scopes.proofs.PartLemmas.{enclosed_ends}

-- a part that is seen so
module _ {A : Type 0} (words : List Word) (part : Judged A) where
  pub ends_moved : (value other : A) (end last : Ending) → other ≡ value → last ≡ end → EndsAs words part value end
      → EndsAs words part other last
  ends_moved value other end last is at h =
      subst (λ (e : Ending). EndsAs words part other e) (sym at)
      (subst (λ (v : A). EndsAs words part v end) (sym is) h)

-- one word: it means this, shows a fault, or misses something behind
pub word_means : {A : Type 0} (word : Word) (value : A)
    → EndsAs (word ∷ []) (means value) value (lawful_end word.token.line)
word_means word value = record { known = refl; end = (refl, refl); behind = refl }

pub word_misses : {A : Type 0} (word : Word) (value : A)
    → EndsAs (word ∷ []) (judged (with_behind (wrong WRONG_TYPE ∷ []) quiet) (Some value)) value
    (short_end (lawful_end word.token.line))
word_misses word value = record { known = refl; end = (refl, refl); behind = refl }

pub word_refused : {A : Type 0} (word : Word) (refusal : Wrong)
    → StopsBy {A = A} (word ∷ []) (refuses refusal) (shown_in word.token.line refusal)
word_refused word refusal = record {
  many = refl;
  first = λ more nothing.
      subst (λ others. first_fault (word ∷ []) ((refusal ∷ others) ∷ []) ≡ Some (fault_in word.token.line refusal))
      (sym (nothing refl)) refl;
}

-- demands
module _ {A : Type 0} (words : List Word) (demand : A → List Wrong) (part : Judged A) where
  pub noted_ends : (value : A) (end : Ending) (holds : Bool) (code : ℕ) → demand value ≡ unless holds (wrong code)
      → EndsAs words part value end → EndsAs words (noted demand part) value (noted_end holds code end)
  noted_ends value end true code fine h =
      noted_fine words demand part value end.line end.refusal end.is_short fine h
  noted_ends value end false code refused h =
      noted_refused words demand part value end.line end.refusal end.is_short (wrong code) refused h

  pub noted_stops_by : (why : Stop) → StopsBy words part why → StopsBy words (noted demand part) why
  noted_stops_by stop.OutOfMemory h = tt
  noted_stops_by (stop.Fault fault) h = noted_stops words demand part fault h
  noted_stops_by stop.Missing h = absurd h

  pub checked_stops_by : (why : Stop) → StopsBy words part why → StopsBy words (checked demand part) why
  checked_stops_by stop.OutOfMemory h = tt
  checked_stops_by (stop.Fault fault) h = checked_stops words demand part fault h
  checked_stops_by stop.Missing h = absurd h

  -- marks of what is refused are those of what is noted
  pub checked_marks : (checked demand part).marks ≡ (noted demand part).marks
  checked_marks = checked_value_marks part.value
    where
      checked_kept : (value : A) (faults : List Wrong)
          → (kept_by part.marks value faults).marks ≡ at_last faults part.marks
      checked_kept value [] = ap (λ tokens. record { tokens = tokens; behind = part.marks.behind })
          (sym (last_of_nothing part.marks.tokens))
      checked_kept value (refusal ∷ more) = refl

      checked_value_marks : (value : Option A)
          → (checked_by demand part.marks value).marks ≡ at_last (faults_if demand value) part.marks
      checked_value_marks None = ap (λ tokens. record { tokens = tokens; behind = part.marks.behind })
          (sym (last_of_nothing part.marks.tokens))
      checked_value_marks (Some value) = checked_kept value (demand value)

  -- a demand that is met
  pub checked_ends : (value : A) (end : Ending) → demand value ≡ [] → EndsAs words part value end
      → EndsAs words (checked demand part) value end
  checked_ends value end fine h =
      checked_fine words demand part value end.line end.refusal end.is_short fine h

-- what stands before a word

module _ {A : Type 0} (words : List Word) (part : Judged A) where
  pub stops_shows : (fault : Fault) → Stops words part fault → Shows words part.marks fault
  stops_shows fault h = record { many = h.many; first = stops_first words part fault h }

  pub stops_fails : (why : Stop) → StopsBy words part why → FailsBy words part.marks why
  stops_fails stop.OutOfMemory h = tt
  stops_fails (stop.Fault fault) h = stops_shows fault h
  stops_fails stop.Missing h = h

  pub refused_shows : (value : A) (line : ℕ) (refusal : Wrong) (is_short : Bool)
      → Ends words part value line (Some refusal) is_short → Shows words part.marks (fault_in line refusal)
  refused_shows value line refusal is_short h = record {
    many = end_many words part.marks.tokens line (Some refusal) h.end;
    first = end_faulty words part.marks.tokens line refusal h.end;
  }

  -- a part that does not stand
  pub fails_at : (value : A) (line : ℕ) (refusal : Option Wrong) (is_short : Bool) (why : Stop)
      → Err why ≡ stands_at line refusal → Ends words part value line refusal is_short → FailsBy words part.marks why
  fails_at value line None is_short why is h = cc
  fails_at value line (Some refusal) is_short why is h =
      let same : shown_in line refusal ≡ why = cc in
      subst (FailsBy words part.marks) same (refused_shows value line refusal is_short h)

  pub stands_lawful : (line : ℕ) (refusal : Option Wrong) → Ok tt ≡ stands_at line refusal → refusal ≡ None
  stands_lawful line None is = refl
  stands_lawful line (Some refusal) is = cc

-- what was settled, alone or before a word
pub before_found : {X : Type 0} (line : ℕ) (found : X) (r : Result X Stop) → Ok found ≡ found_before line r
    → Ok found ≡ r
before_found line found (Ok other) is = is
before_found line found (Err why) is = cc

module _ {A X : Type 0} (words : List Word) (part : Judged A) (value : A) where
  pub settled_ends : (line : ℕ) (refusal : Option Wrong) (is_short : Bool) (x found : X)
      → Ok found ≡ settled_at line refusal is_short x → Ends words part value line refusal is_short
      → (found ≡ x) × Ends words part value line None false
  settled_ends line None false x found is h = (cc, h)
  settled_ends line None true x found is h = cc
  settled_ends line (Some refusal) is_short x found is h = cc

  pub before_ends : (behind line : ℕ) (refusal : Option Wrong) (is_short : Bool) (x found : X)
      → Ok found ≡ found_before behind (settled_at line refusal is_short x)
      → Ends words part value line refusal is_short → (found ≡ x) × Ends words part value line None false
  before_ends behind line refusal is_short x found is h =
      settled_ends line refusal is_short x found (before_found behind found (settled_at line refusal is_short x) is) h

-- a part behind a word
pub behind_word_ends : {A B : Type 0} (words : List Word) (word : Word) (make : A → B) (part : Judged A) (value : A)
    (end : Ending) → EndsAs words part value end
    → EndsAs (word ∷ words) (judged (joined (quiet ∷ part.marks ∷ [])) (known make part.value)) (make value) end
behind_word_ends words word make part value end h =
    ends_behind_word words word part value (known make part.value) (make value) end.line end.refusal end.is_short h
    (ap (known make) h.known)

pub behind_word_stops : {A B : Type 0} (words : List Word) (word : Word) (make : A → B) (part : Judged A) (why : Stop)
    → StopsBy words part why
    → StopsBy (word ∷ words) (judged (joined (quiet ∷ part.marks ∷ [])) (known make part.value)) why
behind_word_stops words word make part stop.OutOfMemory h = tt
behind_word_stops {B = B} words word make part (stop.Fault fault) h =
    subst (λ (marks : Marks). Stops {A = B} (word ∷ words) (judged (followed quiet marks) (known make part.value))
    fault) (sym (alone part.marks))
    (stops_behind (word ∷ []) words quiet part (known make part.value) fault (refl, tt) refl h
    (λ none. ap (known make) none))
behind_word_stops words word make part stop.Missing h = absurd h

-- a part of which the meaning is made into something else
pub made_ends : {A B : Type 0} (words : List Word) (make : A → B) (part : Judged A) (value : A) (end : Ending)
    → EndsAs words part value end → EndsAs words (judged part.marks (known make part.value)) (make value) end
made_ends words make part value end h =
    record { known = ap (known make) h.known; end = h.end; behind = h.behind }

pub made_stops : {A B : Type 0} (words : List Word) (make : A → B) (part : Judged A) (why : Stop)
    → StopsBy words part why → StopsBy words (judged part.marks (known make part.value)) why
made_stops words make part stop.OutOfMemory h = tt
made_stops words make part (stop.Fault fault) h = record {
  many = h.many;
  first = λ more nothing. h.first more (λ none. nothing (ap (known make) none));
}
made_stops words make part stop.Missing h = absurd h

-- two parts with a word between them
module _ {A B C : Type 0} (words more : List Word) (word : Word) (make : A → B → C) (first : Judged A)
    (second : Judged B) (many : AsMany more second.marks) where
  pub pair_fails : (why : Stop) → FailsBy words first.marks why
      → StopsBy (words ++ word ∷ more) (pair make first second) why
  pair_fails stop.OutOfMemory h = tt
  pair_fails (stop.Fault fault) h =
      stops_within words (word ∷ more) first.marks (joined (quiet ∷ second.marks ∷ []))
      (both make first.value second.value) fault h.many h.first (behind_word word second.marks many).same
      (omega arith)
  pair_fails stop.Missing h = absurd h

  pub pair_stops : (why : Stop) → StopsBy words first why
      → StopsBy (words ++ word ∷ more) (pair make first second) why
  pair_stops why h = pair_fails why (stops_fails words first why h)

  -- the first one is not settled before the word
  pub pair_unsettled : {X : Type 0} (value : A) (x : X) (behind line : ℕ) (refusal : Option Wrong) (is_short : Bool)
      (why : Stop) → behind ≡ word.token.line → 0 < length more
      → Err why ≡ found_before behind (settled_at line refusal is_short x)
      → Ends words first value line refusal is_short
      → StopsBy (words ++ word ∷ more) (pair make first second) why
  pair_unsettled value x behind line None false why at some is h = cc
  pair_unsettled value x behind line None true why at some is h =
      let same : shown_in word.token.line (wrong WRONG_TYPE) ≡ why = cc in
      subst (StopsBy (words ++ word ∷ more) (pair make first second)) same
      (pair_short_first words more word make first second many value line h some)
  pair_unsettled value x behind line (Some refusal) is_short why at some is h =
      let same : shown_in line refusal ≡ why = cc in
      subst (StopsBy (words ++ word ∷ more) (pair make first second)) same
      (pair_refused_first words more word make first second many value line refusal is_short h)

  pub pair_second : (value : A) (line : ℕ) (why : Stop) → Ends words first value line None false
      → StopsBy more second why → StopsBy (words ++ word ∷ more) (pair make first second) why
  pair_second value line stop.OutOfMemory h k = tt
  pair_second value line (stop.Fault fault) h k =
      pair_stops_second words more word make first second many value line fault h k
  pair_second value line stop.Missing h k = absurd k

  pub pair_ends_as : (value : A) (line : ℕ) (item : B) (end : Ending) → Ends words first value line None false
      → EndsAs more second item end
      → EndsAs (words ++ word ∷ more) (pair make first second) (make value item) end
  pair_ends_as value line item end h k =
      pair_ends words more word make first second many value line item end.line end.refusal end.is_short h k

-- a part between two words
module _ {A B : Type 0} (words : List Word) (opened closed : Word) (make : A → B) (part : Judged A) where
  pub enclosed_stops_by : (why : Stop) → StopsBy words part why
      → StopsBy (opened ∷ (words ++ closed ∷ [])) (enclosed make part) why
  enclosed_stops_by stop.OutOfMemory h = tt
  enclosed_stops_by (stop.Fault fault) h = enclosed_stops words opened closed make part fault h
  enclosed_stops_by stop.Missing h = absurd h

  pub enclosed_unclosed : (value : A) (line : ℕ) (refusal : Option Wrong) (is_short : Bool) (why : Stop)
      → Err why ≡ stands_at line refusal → Ends words part value line refusal is_short
      → StopsBy (opened ∷ (words ++ closed ∷ [])) (enclosed make part) why
  enclosed_unclosed value line None is_short why is h = cc
  enclosed_unclosed value line (Some refusal) is_short why is h =
      let same : shown_in line refusal ≡ why = cc in
      subst (StopsBy (opened ∷ (words ++ closed ∷ [])) (enclosed make part)) same
      (enclosed_refused words opened closed make part value line refusal is_short h)

  pub enclosed_closed : (value : A) (end : Ending) → end.refusal ≡ None → EndsAs words part value end
      → EndsAs (opened ∷ (words ++ closed ∷ [])) (enclosed make part) (make value) (closed_end closed.token.line end)
  enclosed_closed value end lawful h =
      enclosed_ends words opened closed make part value end.line end.is_short
      (subst (λ refusal. Ends words part value end.line refusal end.is_short) lawful h)

-- where a `?` returns early
module _ {A X : Type 0} (words : List Word) (part : Judged A) (view : X → A) (why : Stop) where
  pub answers_stop : (result : Result (CodeJudged X) Stop)
      → ((found : Stop) × (result ≡ Err found) × (found ≡ why)) → StopsBy words part why
      → Answers words part view result
  answers_stop result is h = subst (Answers words part view) (sym (is.1 ∙ ap Err is.2)) h

  pub stands_stop : (result : Result (CodeJudged X) Stop)
      → ((found : Stop) × (result ≡ Err found) × (found ≡ why)) → FailsBy words part.marks why
      → Stands words part view result
  stands_stop result is h = subst (Stands words part view) (sym (is.1 ∙ ap Err is.2)) h

-- what was noted of a part, as the code has it
pub noted_found : {A X : Type 0} (words : List Word) (demand : A → List Wrong) (part : Judged A) (view : X → A)
    (found next : CodeJudged X) (holds : Bool) (code : ℕ) → demand (view found.value) ≡ unless holds (wrong code)
    → next.value ≡ found.value → end_in next.end ≡ noted_end holds code (end_in found.end)
    → EndsAs words part (view found.value) (end_in found.end)
    → EndsAs words (noted demand part) (view next.value) (end_in next.end)
noted_found words demand part view found next holds code fine same end h =
    ends_moved words (noted demand part) (view found.value) (view next.value) (noted_end holds code (end_in found.end))
    (end_in next.end) (ap view same) end
    (noted_ends words demand part (view found.value) (end_in found.end) holds code fine h)

-- a demand on a part that stands before a word: it stands, or does not
module _ {A : Type 0} (words : List Word) (demand : A → List Wrong) (part : Judged A) (value : A) (end : Ending)
    (code : ℕ) where
  pub checked_fails : (holds : Bool) (why : Stop) → demand value ≡ unless holds (wrong code)
      → Err why ≡ stands_by (noted_end holds code end) → EndsAs words part value end
      → FailsBy words (checked demand part).marks why
  checked_fails holds why fine is h =
      let last : Ending = noted_end holds code end in
      subst (λ (marks : Marks). FailsBy words marks why) (sym (checked_marks words demand part))
      (fails_at words (noted demand part) value last.line last.refusal last.is_short why is
      (noted_ends words demand part value end holds code fine h))

  pub checked_stands : (holds : Bool) → demand value ≡ unless holds (wrong code)
      → Ok tt ≡ stands_by (noted_end holds code end) → EndsAs words part value end
      → StandsAs words (checked demand part) value (noted_end holds code end)
  checked_stands true fine is h = record {
    lawful = stands_lawful words part end.line end.refusal is;
    ends = checked_ends words demand part value end fine h;
  }
  checked_stands false fine is h = cc
