-- Words and parts of statements behind one another: where checking stops in them, and where they show nothing.
use Rattle.std.proofs.Common.{◌≡◌, refl, sym, ap, subst, ◌∙◌, ℕ, Bool, true, false, List, [], ◌∷◌, ◌++◌}
use Rattle.std.proofs.Common.{Option, Some, None, Result, Ok, Err}
use Rattle.std.specs.Prelude.{IfOk, OnOk}
use Rattle.pas_tokens.specs.Cutting.{Wrong}
use Rattle.pas_syntax.specs.Words.{Word}
use Rattle.pas_scopes.specs.declared.stop.Stop.{Stop}
use Rattle.pas_scopes.specs.declared.stop.Stop.TheVariants as stop
use Rattle.pas_rules.specs.Marks.{Marks, quiet, followed, Judged, known, both, known_of}
use Rattle.pas_scopes.specs.Stopping.{found_before}
use Rattle.pas_scopes.specs.Answers.{Ending, noted_end, settled_at, settled_by, IsQuiet, ShowsBy}
use Rattle.pas_scopes.specs.Answers.{Settles}
use Rattle.pas_types.specs.inner.FlowViews.{ShowsBefore, Precedes}
use Rattle.pas_rules.proofs.AsMany.{AsMany}
use Rattle.pas_scopes.proofs.SettleLemmas.{quiet_behind, shows_by_behind, shows_before, shows_front, quiet_word}

-- what is made of known parts
pub made_of : {A B : Type 0} (make : A → B) (one : Option A) (value : A) → one ≡ Some value
    → known make one ≡ Some (make value)
made_of make one value is = ap (known make) is

pub made_of_both : {A B C : Type 0} (make : A → B → C) (one : Option A) (other : Option B) (value : A) (item : B)
    → one ≡ Some value → other ≡ Some item → both make one other ≡ Some (make value item)
made_of_both make one other value item is are =
    ap (λ found. both make found other) is ∙ ap (both make (Some value)) are

pub made_of_three : {A B C D : Type 0} (make : A → B → C → D) (one : Option A) (other : Option B) (third : Option C)
    (value : A) (item : B) (last : C) → one ≡ Some value → other ≡ Some item → third ≡ Some last
    → known_of (both make one other) third ≡ Some (make value item last)
made_of_three make one other third value item last is are was =
    ap (λ found. known_of found third) (made_of_both make one other value item is are)
    ∙ ap (known_of (Some (make value item))) was

pub made_of_four : {A B C D E : Type 0} (make : A → B → C → D → E) (one : Option A) (other : Option B)
    (third : Option C) (fourth : Option D) (value : A) (item : B) (next : C) (last : D) → one ≡ Some value
    → other ≡ Some item → third ≡ Some next → fourth ≡ Some last
    → known_of (known_of (both make one other) third) fourth ≡ Some (make value item next last)
made_of_four make one other third fourth value item next last is are was were =
    ap (λ found. known_of found fourth) (made_of_three make one other third value item next is are was)
    ∙ ap (known_of (Some (make value item next))) were

-- a word in front
module _ (word : Word) (more : List Word) (rest : Marks) where
  pub word_shows : (why : Stop) → ShowsBy more rest why → ShowsBy (word ∷ more) (followed quiet rest) why
  word_shows why h = shows_by_behind (word ∷ []) more quiet rest why (quiet_word word) h

  pub word_quiet : (is_short : Bool) → IsQuiet more rest is_short → IsQuiet (word ∷ more) (followed quiet rest) is_short
  word_quiet is_short h = quiet_behind (word ∷ []) more quiet rest is_short (quiet_word word) h

-- a fault in a part, whatever stands behind; nothing is missing there
pub fault_front : (words more : List Word) (part next : Marks) (why : Stop) → AsMany more next
    → (why ≡ stop.Missing → ⊥) → ShowsBy words part why → ShowsBy (words ++ more) (followed part next) why
fault_front words more part next stop.OutOfMemory many there h = tt
fault_front words more part next (stop.Fault fault) many there h = shows_front words more part next fault many h
fault_front words more part next stop.Missing many there h = absurd (there refl)

-- a part before a word in this line
module _ (words more : List Word) (word : Word) (part next : Marks) where
  pub before_shows : AsMany more next → (why : Stop) → ShowsBefore word.token.line words part why
      → ShowsBy (words ++ word ∷ more) (followed part (followed quiet next)) why
  before_shows many why h =
      subst (ShowsBy (words ++ word ∷ more) (followed part (followed quiet next))) (sym h.1)
      (shows_before words more word part next many h.0 h.2)

  pub behind_shows : IsQuiet words part false → (why : Stop) → ShowsBy more next why
      → ShowsBy (words ++ word ∷ more) (followed part (followed quiet next)) why
  behind_shows still why h =
      shows_by_behind words (word ∷ more) part (followed quiet next) why still (word_shows word more next why h)

  pub behind_quiet : IsQuiet words part false → (is_short : Bool) → IsQuiet more next is_short
      → IsQuiet (words ++ word ∷ more) (followed part (followed quiet next)) is_short
  behind_quiet still is_short h =
      quiet_behind words (word ∷ more) part (followed quiet next) is_short still (word_quiet word more next is_short h)

-- a word, a part before a word, and what stands behind that
module _ (first second : Word) (words more : List Word) (part next : Marks) where
  pub guard_shows : AsMany more next → (why : Stop) → ShowsBefore second.token.line words part why
      → ShowsBy (first ∷ (words ++ second ∷ more)) (followed quiet (followed part (followed quiet next))) why
  guard_shows many why h =
      word_shows first (words ++ second ∷ more) (followed part (followed quiet next)) why
      (before_shows words more second part next many why h)

  pub guarded_shows : IsQuiet words part false → (why : Stop) → ShowsBy more next why
      → ShowsBy (first ∷ (words ++ second ∷ more)) (followed quiet (followed part (followed quiet next))) why
  guarded_shows still why h =
      word_shows first (words ++ second ∷ more) (followed part (followed quiet next)) why
      (behind_shows words more second part next still why h)

  pub guarded_quiet : IsQuiet words part false → (is_short : Bool) → IsQuiet more next is_short
      → IsQuiet (first ∷ (words ++ second ∷ more)) (followed quiet (followed part (followed quiet next))) is_short
  guarded_quiet still is_short h =
      word_quiet first (words ++ second ∷ more) (followed part (followed quiet next)) is_short
      (behind_quiet words more second part next still is_short h)

-- what was found before a word
pub precedes : {X A : Type 0} (line : ℕ) (words : List Word) (part : Judged A) (view : X → A) (found : Result X Stop)
    → Settles words part view found → Precedes line words part view (found_before line found)
precedes line words part view (Ok found) h = h
precedes line words part view (Err why) h = (why, refl, h)

pub preceded : {X A : Type 0} (line : ℕ) (words : List Word) (part : Judged A) (view : X → A)
    (found result : Result X Stop) → result ≡ found_before line found → Settles words part view found
    → Precedes line words part view result
preceded line words part view found result is h =
    subst (Precedes line words part view) (sym is) (precedes line words part view found h)

-- what is settled by an end is the value, and breaks no rule
settled_at_value : {X : Type 0} (x : X) (line : ℕ) (refusal : Option Wrong) (is_short : Bool) (found : X)
    → Ok found ≡ settled_at line refusal is_short x → found ≡ x
settled_at_value x line None false found is = cc
settled_at_value x line None true found is = cc
settled_at_value x line (Some refusal) is_short found is = cc

pub settled_value : {X : Type 0} (x : X) (end : Ending) (result : Result X Stop) → result ≡ settled_by end x
    → IfOk result (λ found. found ≡ x)
settled_value x end (Ok found) is = settled_at_value x end.line end.refusal end.is_short found is
settled_value x end (Err why) is = tt

pub settled_holds : {X : Type 0} (x : X) (end : Ending) (holds : Bool) (code : ℕ) (result : Result X Stop)
    → result ≡ settled_by (noted_end holds code end) x → OnOk result (holds ≡ true)
settled_holds x end true code (Ok found) is = refl
settled_holds x end false code (Ok found) is = cc
settled_holds x end holds code (Err why) is = tt
