-- What functions that check a statement answer, by what was answered of its parts.
use Rattle.std.proofs.Common.{◌≡◌, refl, sym, ap, subst, ◌∙◌, ℕ, ◌+◌, Bool, true, false, List, [], ◌∷◌, ◌++◌}
use Rattle.std.proofs.Common.{length, Option, Some, None, Result, Ok, Err}
use Rattle.std.proofs.lemmas.List.{length-append}
use Rattle.wb_base.specs.declared.faults.Fault.{Fault}
use Rattle.wb_base.specs.declared.faults.TheConstants.{WRONG_TYPE}
use Rattle.pas_tokens.specs.Cutting.{Wrong, wrong}
use Rattle.pas_tokens.specs.Tokens.{fault_in}
use Rattle.pas_syntax.specs.Words.{Word}
use Rattle.pas_scopes.specs.declared.stop.Stop.{Stop}
use Rattle.pas_scopes.specs.declared.stop.Stop.TheVariants as stop
use Rattle.pas_rules.specs.Marks.{Marks, no_token, quiet, first_of, followed, joined, unless, Judged}
use Rattle.pas_rules.specs.Marks.{noted, checked, first_fault}
use Rattle.pas_scopes.specs.Ends.{Ends}
use Rattle.pas_scopes.specs.Stopping.{stop_before, found_before}
use Rattle.pas_scopes.specs.Answers.{Ending, noted_end, settled_at, settled_by, EndsAs, StopsBy, Shows, FailsBy}
use Rattle.pas_scopes.specs.Answers.{IsQuiet, Means, ShowsBy, Settles}
use Rattle.pas_rules.proofs.AsMany.{AsMany, and_then, next_word}
use Rattle.pas_scopes.proofs.EndLemmas.{behind_quiet, in_front, quiet_append, quiet_many, end_quiet, after_clear}
use Rattle.pas_scopes.proofs.PartLemmas.{alone}
use Rattle.pas_scopes.proofs.AnswerLemmas.{noted_ends, checked_marks, checked_ends, stops_fails, refused_shows}

-- what was refused before a word, or within a part
pub fails_shows : (words : List Word) (marks : Marks) (why : Stop) → FailsBy words marks why → ShowsBy words marks why
fails_shows words marks stop.OutOfMemory h = tt
fails_shows words marks (stop.Fault fault) h = h
fails_shows words marks stop.Missing h = absurd h

-- what is settled by the end of a part
module _ {A X : Type 0} (words : List Word) (part : Judged A) (view : X → A) where
  pub settles_why : (why : Stop) → StopsBy words part why → Settles words part view (Err why)
  settles_why why h = fails_shows words part.marks why (stops_fails words part why h)

  pub settles_at : (x : X) (line : ℕ) (refusal : Option Wrong) (is_short : Bool)
      → Ends words part (view x) line refusal is_short
      → Settles words part view (settled_at line refusal is_short x)
  settles_at x line None false h = record {
    known = h.known;
    quiet = record { still = end_quiet words part.marks.tokens line h.end; behind = h.behind };
  }
  settles_at x line None true h = record { still = end_quiet words part.marks.tokens line h.end; behind = h.behind }
  settles_at x line (Some refusal) is_short h = refused_shows words part (view x) line refusal is_short h

  pub settles_by : (x : X) (end : Ending) (result : Result X Stop) → result ≡ settled_by end x
      → EndsAs words part (view x) end → Settles words part view result
  settles_by x end result is h =
      subst (Settles words part view) (sym is) (settles_at x end.line end.refusal end.is_short h)

-- a part on which a demand is made: where it is not met, nothing is known
module _ {A X : Type 0} (words : List Word) (demand : A → List Wrong) (part : Judged A) (view : X → A) where
  checked_marks_at : (marks : Marks) → marks ≡ (noted demand part).marks → (x : X) (why : Stop)
      → Settles words (noted demand part) view (Err why) → ShowsBy words marks why
  checked_marks_at marks same x why h = subst (λ (m : Marks). ShowsBy words m why) (sym same) h

  checked_found : (x : X) (end : Ending) (holds : Bool) (code : ℕ) → demand (view x) ≡ unless holds (wrong code)
      → EndsAs words part (view x) end → (result : Result X Stop) → result ≡ settled_by (noted_end holds code end) x
      → Settles words (noted demand part) view result → Settles words (checked demand part) view result
  checked_found x end true code fine h result is k =
      settles_by words (checked demand part) view x end result is (checked_ends words demand part (view x) end fine h)
  checked_found x end false code fine h (Err why) is k =
      checked_marks_at (checked demand part).marks (checked_marks words demand part) x why k
  checked_found x end false code fine h (Ok found) is k = cc

  pub settles_checked : (x : X) (end : Ending) (holds : Bool) (code : ℕ) (result : Result X Stop)
      → demand (view x) ≡ unless holds (wrong code) → result ≡ settled_by (noted_end holds code end) x
      → EndsAs words part (view x) end → Settles words (checked demand part) view result
  settles_checked x end holds code result fine is h =
      checked_found x end holds code fine h result is
      (settles_by words (noted demand part) view x (noted_end holds code end) result is
      (noted_ends words demand part (view x) end holds code fine h))

-- parts behind one another

module _ (words more : List Word) (part next : Marks) where
  pub quiet_behind : (is_short : Bool) → IsQuiet words part false → IsQuiet more next is_short
      → IsQuiet (words ++ more) (followed part next) is_short
  quiet_behind is_short h k =
      subst (λ (marks : Marks). IsQuiet (words ++ more) marks is_short) (sym (after_clear part next h.behind))
      record { still = quiet_append words more part.tokens next.tokens h.still k.still; behind = k.behind }

  pub shows_front : (fault : Fault) → AsMany more next → Shows words part fault
      → Shows (words ++ more) (followed part next) fault
  shows_front fault many h = record {
    many = (and_then part next (record { same = h.many }) many).same;
    first = in_front words more part.tokens (first_of part.behind next.behind next.tokens).tokens fault h.many h.first;
  }

  pub shows_behind : (fault : Fault) → IsQuiet words part false → Shows more next fault
      → Shows (words ++ more) (followed part next) fault
  shows_behind fault h k =
      subst (λ (marks : Marks). Shows (words ++ more) marks fault) (sym (after_clear part next h.behind))
      record {
        many = length-append part.tokens next.tokens
            ∙ (ap (λ n. n + length next.tokens) (quiet_many words part.tokens h.still)
            ∙ (ap (λ n. length words + n) k.many ∙ sym (length-append words more)));
        first = behind_quiet words more part.tokens next.tokens h.still ∙ k.first;
      }

  pub shows_by_behind : (why : Stop) → IsQuiet words part false → ShowsBy more next why
      → ShowsBy (words ++ more) (followed part next) why
  shows_by_behind stop.OutOfMemory h k = tt
  shows_by_behind (stop.Fault fault) h k = shows_behind fault h k
  shows_by_behind stop.Missing h k = quiet_behind true h k

-- a part behind which something is missing shows it at the word behind
module _ (words more : List Word) (word : Word) (part next : Marks) (many : AsMany more next) where
  short_first : (behind : List Wrong) → behind ≡ wrong WRONG_TYPE ∷ []
      → first_fault (word ∷ more) ((behind ++ []) ∷ (first_of [] next.behind next.tokens).tokens)
      ≡ Some (fault_in word.token.line (wrong WRONG_TYPE))
  short_first behind is =
      subst (λ shown. first_fault (word ∷ more) ((shown ++ []) ∷ (first_of [] next.behind next.tokens).tokens)
      ≡ Some (fault_in word.token.line (wrong WRONG_TYPE))) (sym is) refl

  pub shows_short : IsQuiet words part true
      → Shows (words ++ word ∷ more) (followed part (followed quiet next))
      (fault_in word.token.line (wrong WRONG_TYPE))
  shows_short h = record {
    many = (and_then part (followed quiet next)
        (record { same = quiet_many words part.tokens h.still })
        (next_word word [] next many)).same;
    first = behind_quiet words (word ∷ more) part.tokens
        ((part.behind ++ []) ∷ (first_of [] next.behind next.tokens).tokens) h.still
        ∙ short_first part.behind h.behind;
  }

  -- why checking stops in a part before a word
  pub shows_before : (why : Stop) → ShowsBy words part why
      → ShowsBy (words ++ word ∷ more) (followed part (followed quiet next)) (stop_before word.token.line why)
  shows_before stop.OutOfMemory h = tt
  shows_before (stop.Fault fault) h =
      shows_front words (word ∷ more) part (followed quiet next) fault
      (next_word word [] next many) h
  shows_before stop.Missing h = shows_short h

-- a word by itself, and a part with nothing behind it
pub quiet_word : (word : Word) → IsQuiet (word ∷ []) quiet false
quiet_word word = record { still = (refl, tt); behind = refl }

pub nothing_shown : IsQuiet [] no_token false
nothing_shown = record { still = tt; behind = refl }

pub quiet_alone : (words : List Word) (part : Marks) (is_short : Bool) → IsQuiet words part is_short
    → IsQuiet words (joined (part ∷ [])) is_short
quiet_alone words part is_short h = subst (λ (marks : Marks). IsQuiet words marks is_short) (sym (alone part)) h

pub shows_alone : (words : List Word) (part : Marks) (why : Stop) → ShowsBy words part why
    → ShowsBy words (joined (part ∷ [])) why
shows_alone words part why h = subst (λ (marks : Marks). ShowsBy words marks why) (sym (alone part)) h

-- what was found before a word, or is returned early
module _ {A X : Type 0} (words : List Word) (part : Judged A) (view : X → A) where
  pub found_means : (line : ℕ) (found : X) (result : Result X Stop) → Ok found ≡ found_before line result
      → Settles words part view result → Means words part (view found)
  found_means line found (Ok other) is h =
      let same : other ≡ found = cc in subst (λ (x : X). Means words part (view x)) same h
  found_means line found (Err why) is h = cc

  pub found_stops : (line : ℕ) (why : Stop) (result : Result X Stop) → Err why ≡ found_before line result
      → Settles words part view result
      → (other : Stop) × (why ≡ stop_before line other) × ShowsBy words part.marks other
  found_stops line why (Ok other) is h = cc
  found_stops line why (Err other) is h = (other, cc, h)

  pub settles_stop : (why : Stop) (result : Result X Stop)
      → ((found : Stop) × (result ≡ Err found) × (found ≡ why)) → ShowsBy words part.marks why
      → Settles words part view result
  settles_stop why result is h = subst (Settles words part view) (sym (is.1 ∙ ap Err is.2)) h
