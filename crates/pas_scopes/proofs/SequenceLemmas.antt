-- What is answered of parts that stand one behind another, before a word that closes them.
use Rattle.std.proofs.Common.{◌≡◌, refl, sym, ap, subst, ◌∙◌, ℕ, false, List, [], ◌∷◌, ◌++◌, Option, Some, None}
use Rattle.std.proofs.Common.{Result, Ok, Err, arith, ◌<◌, length}
use Rattle.pas_tokens.specs.declared.kinds.Kind.{Kind}
use Rattle.pas_syntax.specs.Words.{Word, at, maybe}
use Rattle.pas_scopes.specs.declared.stop.Stop.{Stop}
use Rattle.pas_scopes.specs.declared.stop.Stop.TheVariants as stop
use Rattle.pas_scopes.specs.declared.judged.Judged.{Judged as CodeJudged}
use Rattle.pas_rules.specs.Marks.{Marks, followed, joined, Judged, judged, both}
use Rattle.pas_rules.specs.TypeForms.{maybe_quiet}
use Rattle.pas_scopes.specs.Answers.{Ending, EndsAs, StopsBy, Answers, FailsBy, IsQuiet, Means}
use Rattle.pas_scopes.specs.TypeAnswers.{AnswersIf}
use Rattle.wb_base.specs.declared.faults.Fault.{Fault}
use Rattle.pas_scopes.specs.Answers.{end_in}
use Rattle.pas_scopes.specs.Constants.{IsUnknownBy}
use Rattle.pas_scopes.specs.FormAnswers.{SettlesIf, IsUnknownIf, Knows, first_told, FoundIf, SettledIf}
use Rattle.pas_rules.proofs.AsMany.{AsMany}
use Rattle.pas_scopes.proofs.EndLemmas.{stops_behind, stops_within, ends_behind}
use Rattle.pas_scopes.proofs.PartLemmas.{alone}
use Rattle.pas_scopes.proofs.SettleLemmas.{quiet_behind, quiet_word, nothing_shown, shows_front, shows_behind}

-- two parts
module _ (words more : List Word) (part next : Marks) where
  pub fails_front : (why : Stop) → AsMany more next → FailsBy words part why
      → FailsBy (words ++ more) (followed part next) why
  fails_front stop.OutOfMemory many h = tt
  fails_front (stop.Fault fault) many h = shows_front words more part next fault many h
  fails_front stop.Missing many h = absurd h

  pub fails_behind : (why : Stop) → IsQuiet words part false → FailsBy more next why
      → FailsBy (words ++ more) (followed part next) why
  fails_behind stop.OutOfMemory still h = tt
  fails_behind (stop.Fault fault) still h = shows_behind words more part next fault still h
  fails_behind stop.Missing still h = absurd h

-- the same, with a separator between them
module _ (words between more : List Word) (before separator next : Marks) where
  pub listed_quiet : IsQuiet words before false → IsQuiet between separator false → IsQuiet more next false
      → IsQuiet (words ++ (between ++ more)) (followed before (followed separator next)) false
  listed_quiet h s k =
      quiet_behind words (between ++ more) before (followed separator next) false h
      (quiet_behind between more separator next false s k)

  pub listed_fails : (why : Stop) → IsQuiet words before false → IsQuiet between separator false
      → FailsBy more next why
      → FailsBy (words ++ (between ++ more)) (followed before (followed separator next)) why
  listed_fails why h s k =
      fails_behind words (between ++ more) before (followed separator next) why h
      (fails_behind between more separator next why s k)

-- a part behind one that shows nothing
module _ {B C : Type 0} (words more : List Word) (part : Marks) (next : Judged B) (value : Option C)
    (still : IsQuiet words part false) where
  pub part_behind_ends : (found : B) (whole : C) (end : Ending) → EndsAs more next found end → value ≡ Some whole
      → EndsAs (words ++ more) (judged (followed part next.marks) value) whole end
  part_behind_ends found whole end h is =
      ends_behind words more part next found value whole end.line end.refusal end.is_short still.still still.behind
      h is

  pub part_behind_stops : (why : Stop) → StopsBy more next why → (next.value ≡ None → value ≡ None)
      → StopsBy (words ++ more) (judged (followed part next.marks) value) why
  part_behind_stops stop.OutOfMemory h unknown = tt
  part_behind_stops (stop.Fault fault) h unknown =
      stops_behind words more part next value fault still.still still.behind h unknown
  part_behind_stops stop.Missing h unknown = absurd h

-- a part alone
pub alone_ends : {A : Type 0} (words : List Word) (part : Judged A) (value : A) (end : Ending)
    → EndsAs words part value end → EndsAs words (judged (joined (part.marks ∷ [])) part.value) value end
alone_ends {A = A} words part value end h =
    subst (λ (marks : Marks). EndsAs {A = A} words (judged marks part.value) value end) (sym (alone part.marks)) h

pub alone_stops : {A : Type 0} (words : List Word) (part : Judged A) (why : Stop)
    → StopsBy words part why → StopsBy words (judged (joined (part.marks ∷ [])) part.value) why
alone_stops {A = A} words part why h =
    subst (λ (marks : Marks). StopsBy {A = A} words (judged marks part.value) why) (sym (alone part.marks)) h

pub alone_fails : (words : List Word) (part : Marks) (why : Stop) → FailsBy words part why
    → FailsBy words (joined (part ∷ [])) why
alone_fails words part why h = subst (λ (marks : Marks). FailsBy words marks why) (sym (alone part)) h

-- a part in which checking stops before others
pub stops_before_words : {C : Type 0} (words more : List Word) (part next : Marks) (value : Option C) (why : Stop)
    → 0 < length more → AsMany more next → FailsBy words part why
    → StopsBy (words ++ more) (judged (followed part next) value) why
stops_before_words words more part next value stop.OutOfMemory some many h = tt
stops_before_words words more part next value (stop.Fault fault) some many h =
    stops_within words more part next value fault h.many h.first many.same some
stops_before_words words more part next value stop.Missing some many h = absurd h

pub stops_before_word : {C : Type 0} (words more : List Word) (part next : Marks) (value : Option C) (why : Stop)
    (word : Word) → AsMany (word ∷ more) next → FailsBy words part why
    → StopsBy (words ++ word ∷ more) (judged (followed part next) value) why
stops_before_word words more part next value why word many h =
    stops_before_words words (word ∷ more) part next value why (omega arith) many h

-- a token that may stand there
pub maybe_still : (n : ℕ) (kind : Kind) (line : Option ℕ) → IsQuiet (maybe n kind line) (maybe_quiet line) false
maybe_still n kind None = nothing_shown
maybe_still n kind (Some line) = quiet_word (at n kind line)

-- what is known of two parts
pub known_both : {A B C : Type 0} (make : A → B → C) (one : Option A) (other : Option B) (value : A) (item : B)
    → one ≡ Some value → other ≡ Some item → both make one other ≡ Some (make value item)
known_both make one other value item is are =
    ap (λ found. both make found other) is ∙ ap (both make (Some value)) are

pub unknown_second : {A B C : Type 0} (make : A → B → C) (one : Option A) (other : Option B) → other ≡ None
    → both make one other ≡ None
unknown_second make None other none = refl
unknown_second make (Some value) other none = ap (both make (Some value)) none

-- what is answered is so under any condition
module _ {X A : Type 0} (Clear : Type 0) (words : List Word) (part : Judged A) (view : X → A) where
  pub answers_if : (result : Result (CodeJudged X) Stop) → Answers words part view result
      → AnswersIf Clear words part view result
  answers_if (Ok found) h = h
  answers_if (Err why) h = λ clear. h

  pub settles_if_stop : (why : Stop) (result : Result X Stop)
      → ((found : Stop) × (result ≡ Err found) × (found ≡ why)) → (Clear → FailsBy words part.marks why)
      → SettlesIf Clear words part view result
  settles_if_stop why result is h = subst (SettlesIf Clear words part view) (sym (is.1 ∙ ap Err is.2)) h

-- a part behind one that shows nothing, which means what the part does
abbrev pub wrapped : {A : Type 0} → Marks → Judged A → Judged A
wrapped part next = judged (followed part next.marks) next.value

module _ {A : Type 0} (words more : List Word) (part : Marks) (next : Judged A)
    (still : IsQuiet words part false) where
  pub wrapped_ends : (found : A) (end : Ending) → EndsAs more next found end
      → EndsAs (words ++ more) (wrapped part next) found end
  wrapped_ends found end h = part_behind_ends words more part next next.value still found found end h h.known

  pub wrapped_stops : (why : Stop) → StopsBy more next why → StopsBy (words ++ more) (wrapped part next) why
  wrapped_stops why h = part_behind_stops words more part next next.value still why h (λ none. none)

-- a part that is seen to mean something else
module _ {A B : Type 0} (words : List Word) (marks : Marks) (value : Option A) (other : Option B) where
  pub revalued_ends : (found : A) (whole : B) (end : Ending) → EndsAs words (judged marks value) found end
      → other ≡ Some whole → EndsAs words (judged marks other) whole end
  revalued_ends found whole end h is = record { known = is; end = h.end; behind = h.behind }

  pub revalued_stops : (why : Stop) → StopsBy words (judged marks value) why → (value ≡ None → other ≡ None)
      → StopsBy words (judged marks other) why
  revalued_stops stop.OutOfMemory h unknown = tt
  revalued_stops (stop.Fault fault) h unknown = record {
    many = h.many;
    first = λ more nothing. h.first more (λ none. nothing (unknown none));
  }
  revalued_stops stop.Missing h unknown = absurd h

-- where a fault in a part is noted or not
module _ {X Y A B : Type 0} (Clear : Type 0) (words more : List Word) (part : Judged A) (whole : Judged B) (view : X
    → A)
    (seen : Y → B) where
  told_noted : (fault : Fault) (why : Stop) → StopsBy more whole (stop.Fault fault)
      → StopsBy more whole (first_told (Some fault) why)
  told_noted fault stop.OutOfMemory h = tt
  told_noted fault (stop.Fault other) h = h
  told_noted fault stop.Missing h = h

  found_noted : (fault : Fault) (result : Result (CodeJudged Y) Stop)
      → (Clear → StopsBy more whole (stop.Fault fault)) → FoundIf Clear more whole seen (Some fault) result
  found_noted fault (Ok found) h = h
  found_noted fault (Err why) h = λ clear. told_noted fault why (h clear)

  pub found_none : (result : Result (CodeJudged Y) Stop) → AnswersIf Clear more whole seen result
      → FoundIf Clear more whole seen None result
  found_none (Ok found) h = h
  found_none (Err why) h = h

  -- checking stops in the part
  pub found_within : (noted : Option Fault) (why : Stop) → FoundIf Clear words part view noted (Err why)
      → ((other : Stop) → StopsBy words part other → StopsBy more whole other)
      → FoundIf Clear more whole seen noted (Err why)
  found_within None why h within = λ clear. within why (h clear)
  found_within (Some fault) why h within = λ clear. within (first_told (Some fault) why) (h clear)

  pub found_in_front : (noted : Option Fault) (why : Stop) → SettledIf Clear words part view noted (Err why)
      → ((other : Stop) → FailsBy words part.marks other → StopsBy more whole other)
      → FoundIf Clear more whole seen noted (Err why)
  found_in_front None why h within = λ clear. within why (h clear)
  found_in_front (Some fault) why h within = λ clear. within (first_told (Some fault) why) (h clear)

  -- the part is found, and a fault is noted in it or not
  pub found_behind : (noted : Option Fault) (found : CodeJudged X) (result : Result (CodeJudged Y) Stop)
      → FoundIf Clear words part view noted (Ok found)
      → (EndsAs words part (view found.value) (end_in found.end) → AnswersIf Clear more whole seen result)
      → ((other : Stop) → StopsBy words part other → StopsBy more whole other)
      → FoundIf Clear more whole seen noted result
  found_behind None found result h ends within = found_none result (ends h)
  found_behind (Some fault) found result h ends within =
      found_noted fault result (λ clear. within (stop.Fault fault) (h clear))

  pub settled_behind : (noted : Option Fault) (found : X) (result : Result (CodeJudged Y) Stop)
      → SettledIf Clear words part view noted (Ok found)
      → (Means words part (view found) → AnswersIf Clear more whole seen result)
      → ((other : Stop) → FailsBy words part.marks other → StopsBy more whole other)
      → FoundIf Clear more whole seen noted result
  settled_behind None found result h means within = found_none result (means h)
  settled_behind (Some fault) found result h means within =
      found_noted fault result (λ clear. within (stop.Fault fault) (h clear))

module _ {X A : Type 0} (Clear : Type 0) (words : List Word) (part : Judged A) (view : X → A) (noted : Option Fault)
    (why : Stop) where
  pub found_stop : (result : Result (CodeJudged X) Stop)
      → ((found : Stop) × (result ≡ Err found) × (found ≡ why)) → FoundIf Clear words part view noted (Err why)
      → FoundIf Clear words part view noted result
  found_stop result is h = subst (FoundIf Clear words part view noted) (sym (is.1 ∙ ap Err is.2)) h

  pub settled_why : (Clear → FailsBy words part.marks (first_told noted why))
      → SettledIf Clear words part view noted (Err why)
  settled_why h = why_by noted h
    where
      why_by : (o : Option Fault) → (Clear → FailsBy words part.marks (first_told o why))
          → SettledIf Clear words part view o (Err why)
      why_by None h = h
      why_by (Some fault) h = h

  pub settled_stop : (result : Result X Stop) → ((found : Stop) × (result ≡ Err found) × (found ≡ why))
      → SettledIf Clear words part view noted (Err why) → SettledIf Clear words part view noted result
  settled_stop result is h = subst (SettledIf Clear words part view noted) (sym (is.1 ∙ ap Err is.2)) h

pub knows_stop : {X A : Type 0} (part : Judged A) (view : X → A) (why : Stop) (result : Result X Stop)
    → ((found : Stop) × (result ≡ Err found) × (found ≡ why)) → IsUnknownBy part why → Knows part view result
knows_stop part view why result is h = subst (Knows part view) (sym (is.1 ∙ ap Err is.2)) h

-- what is found is known
pub knows_found : {X A : Type 0} (Clear : Type 0) (words : List Word) (part : Judged A) (view : X → A)
    (result : Result (CodeJudged X) Stop) → AnswersIf Clear words part view result → IsUnknownIf part result
    → Knows part (λ found. view found.value) result
knows_found Clear words part view (Ok found) h unknown = h.known
knows_found Clear words part view (Err why) h unknown = unknown
