-- What checking finds of parts that are made of others: one behind a word, two with a word between them, one between
-- two words.
use Rattle.std.proofs.Common.{◌≡◌, refl, sym, ap, subst, ◌∙◌, ℕ, ◌<◌, arith, Bool, true, false, List, [], ◌∷◌}
use Rattle.std.proofs.Common.{◌++◌, length, Option, Some, None}
use Rattle.std.proofs.lemmas.List.{append-nil}
use Rattle.wb_base.specs.declared.faults.Fault.{Fault}
use Rattle.wb_base.specs.declared.faults.TheConstants.{WRONG_TYPE}
use Rattle.pas_tokens.specs.Cutting.{Wrong, wrong}
use Rattle.pas_tokens.specs.Tokens.{fault_in}
use Rattle.pas_syntax.specs.Words.{Word}
use Rattle.pas_rules.specs.Marks.{Marks, no_token, quiet, followed, joined, Judged, judged, known, both}
use Rattle.pas_scopes.specs.Ends.{refusal_behind, Ends, Stops}
use Rattle.pas_rules.proofs.AsMany.{AsMany, all, behind_word}
use Rattle.pas_scopes.proofs.EndLemmas.{end_quiet, stops_in_front, stops_behind, stops_refused, stops_short}
use Rattle.pas_scopes.proofs.EndLemmas.{ends_behind}
use Rattle.pas_scopes.proofs.EndLemmas.{ends_closed}

-- two parts with a word between them
abbrev pub pair : {A B C : Type 0} → (A → B → C) → Judged A → Judged B → Judged C
pair make first second =
    judged (joined (first.marks ∷ quiet ∷ second.marks ∷ [])) (both make first.value second.value)

none_of_both : {A B C : Type 0} (make : A → B → C) (one : Option A) (other : Option B) → other ≡ None
    → both make one other ≡ None
none_of_both make None other none = refl
none_of_both make (Some value) other none = ap (both make (Some value)) none

some_of_both : {A B C : Type 0} (make : A → B → C) (one : Option A) (other : Option B) (value : A) (item : B)
    → one ≡ Some value → other ≡ Some item → both make one other ≡ Some (make value item)
some_of_both make one other value item is are =
    ap (λ found. both make found other) is ∙ ap (both make (Some value)) are

-- a part with nothing behind it
pub alone : (part : Marks) → followed part no_token ≡ part
alone part =
    ap (λ (tokens : List (List Wrong)). record { tokens = tokens; behind = part.behind ++ [] }) (append-nil part.tokens)
    ∙ ap (λ (behind : List Wrong). record { tokens = part.tokens; behind = behind }) (append-nil part.behind)

-- a part behind a word
pub stops_behind_word : {A : Type 0} (words : List Word) (word : Word) (part : Judged A) (fault : Fault)
    → Stops words part fault → Stops (word ∷ words) (judged (joined (quiet ∷ part.marks ∷ [])) part.value) fault
stops_behind_word {A = A} words word part fault h =
    subst (λ (marks : Marks). Stops {A = A} (word ∷ words) (judged (followed quiet marks) part.value) fault)
    (sym (alone part.marks))
    (stops_behind (word ∷ []) words quiet part part.value fault (refl, tt) refl h (λ none. none))

pub ends_behind_word : {A B : Type 0} (words : List Word) (word : Word) (part : Judged A) (found : A) (value : Option B)
    (whole : B) (line : ℕ) (refusal : Option Wrong) (is_short : Bool) → Ends words part found line refusal is_short
    → value ≡ Some whole
    → Ends (word ∷ words) (judged (joined (quiet ∷ part.marks ∷ [])) value) whole line refusal is_short
ends_behind_word {B = B} words word part found value whole line refusal is_short h is =
    subst (λ (marks : Marks). Ends {A = B} (word ∷ words) (judged (followed quiet marks) value) whole line refusal
    is_short) (sym (alone part.marks))
    (ends_behind (word ∷ []) words quiet part found value whole line refusal is_short (refl, tt) refl h is)

module _ {A B C : Type 0} (words more : List Word) (word : Word) (make : A → B → C) (first : Judged A)
    (second : Judged B) (many : AsMany more second.marks) where
  behind_many : length (joined (quiet ∷ second.marks ∷ [])).tokens ≡ length (word ∷ more)
  behind_many = (behind_word word second.marks many).same

  pub pair_stops_first : (fault : Fault) → Stops words first fault
      → Stops (words ++ word ∷ more) (pair make first second) fault
  pair_stops_first fault h =
      stops_in_front words (word ∷ more) first (joined (quiet ∷ second.marks ∷ []))
      (both make first.value second.value) fault h behind_many (omega arith)

  pub pair_refused_first : (value : A) (line : ℕ) (refusal : Wrong) (is_short : Bool)
      → Ends words first value line (Some refusal) is_short
      → Stops (words ++ word ∷ more) (pair make first second) (fault_in line refusal)
  pair_refused_first value line refusal is_short h =
      stops_refused words (word ∷ more) first value line refusal is_short (joined (quiet ∷ second.marks ∷ []))
      (both make first.value second.value) h behind_many (omega arith)

  pub pair_short_first : (value : A) (line : ℕ) → Ends words first value line None true → 0 < length more
      → Stops (words ++ word ∷ more) (pair make first second) (fault_in word.token.line (wrong WRONG_TYPE))
  pair_short_first value line h some =
      stops_short words more first value line word (joined (second.marks ∷ [])) (both make first.value second.value) h
      (all second.marks many).same some

  pub pair_stops_second : (value : A) (line : ℕ) (fault : Fault) → Ends words first value line None false
      → Stops more second fault → Stops (words ++ word ∷ more) (pair make first second) fault
  pair_stops_second value line fault h k =
      stops_behind words (word ∷ more) first.marks (judged (joined (quiet ∷ second.marks ∷ [])) second.value)
      (both make first.value second.value) fault (end_quiet words first.marks.tokens line h.end) h.behind
      (stops_behind_word more word second fault k) (none_of_both make first.value second.value)

  pub pair_ends : (value : A) (line : ℕ) (item : B) (last : ℕ) (refusal : Option Wrong) (is_short : Bool)
      → Ends words first value line None false → Ends more second item last refusal is_short
      → Ends (words ++ word ∷ more) (pair make first second) (make value item) last refusal is_short
  pair_ends value line item last refusal is_short h k =
      ends_behind words (word ∷ more) first.marks (judged (joined (quiet ∷ second.marks ∷ [])) second.value) item
      (both make first.value second.value) (make value item) last refusal is_short
      (end_quiet words first.marks.tokens line h.end) h.behind
      (ends_behind_word more word second item second.value item last refusal is_short k k.known)
      (some_of_both make first.value second.value value item h.known k.known)

-- a part between two words
abbrev pub enclosed : {A B : Type 0} → (A → B) → Judged A → Judged B
enclosed make part = judged (joined (quiet ∷ part.marks ∷ quiet ∷ [])) (known make part.value)

none_of_known : {A B : Type 0} (make : A → B) (value : Option A) → value ≡ None → known make value ≡ None
none_of_known make value none = ap (known make) none

some_of_known : {A B : Type 0} (make : A → B) (value : Option A) (found : A) → value ≡ Some found
    → known make value ≡ Some (make found)
some_of_known make value found is = ap (known make) is

module _ {A B : Type 0} (words : List Word) (opened closed : Word) (make : A → B) (part : Judged A) where
  abbrev closing : Judged A
  closing = judged (joined (part.marks ∷ quiet ∷ [])) part.value

  pub enclosed_stops : (fault : Fault) → Stops words part fault
      → Stops (opened ∷ (words ++ closed ∷ [])) (enclosed make part) fault
  enclosed_stops fault h =
      stops_behind (opened ∷ []) (words ++ closed ∷ []) quiet closing (known make part.value) fault (refl, tt) refl
      (stops_in_front words (closed ∷ []) part (joined (quiet ∷ [])) part.value fault h refl (omega arith))
      (none_of_known make part.value)

  pub enclosed_refused : (value : A) (line : ℕ) (refusal : Wrong) (is_short : Bool)
      → Ends words part value line (Some refusal) is_short
      → Stops (opened ∷ (words ++ closed ∷ [])) (enclosed make part) (fault_in line refusal)
  enclosed_refused value line refusal is_short h =
      stops_behind (opened ∷ []) (words ++ closed ∷ []) quiet closing (known make part.value) (fault_in line refusal)
      (refl, tt) refl
      (stops_refused words (closed ∷ []) part value line refusal is_short (joined (quiet ∷ [])) part.value h refl
      (omega arith))
      (none_of_known make part.value)

  pub enclosed_ends : (value : A) (line : ℕ) (is_short : Bool) → Ends words part value line None is_short
      → Ends (opened ∷ (words ++ closed ∷ [])) (enclosed make part) (make value) closed.token.line
      (refusal_behind is_short) false
  enclosed_ends value line is_short h =
      ends_behind (opened ∷ []) (words ++ closed ∷ []) quiet closing value (known make part.value) (make value)
      closed.token.line (refusal_behind is_short) false (refl, tt) refl
      (ends_closed words part value line is_short closed part.value value h h.known)
      (some_of_known make part.value value h.known)
