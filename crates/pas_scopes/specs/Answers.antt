-- What functions that check a part of a program answer.
use Rattle.std.specs.Prelude.{◌≡◌, ℕ, Bool, true, false, ⊤, List, length, Option, Some, None, Result, Ok, Err}
use Rattle.wb_base.specs.declared.faults.Fault.{Fault}
use Rattle.pas_tokens.specs.Cutting.{Wrong, wrong}
use Rattle.pas_syntax.specs.Views.{if_there}
use Rattle.pas_syntax.specs.Words.{Word}
use Rattle.pas_scopes.specs.declared.stop.Stop.{Stop}
use Rattle.pas_scopes.specs.declared.stop.Stop.TheVariants as stop
use Rattle.pas_scopes.specs.declared.judged.End.{End as CodeEnd}
use Rattle.pas_scopes.specs.declared.judged.Judged.{Judged as CodeJudged}
use Rattle.pas_rules.specs.Marks.{Marks, Judged, first_fault}
use Rattle.pas_scopes.specs.Ends.{AreQuiet, lower_of, shown_behind, refusal_behind, Ends, Stops}
use Rattle.pas_scopes.specs.Stopping.{wrong_in, shown_in}

-- how a part ends: the line of its last word, the lowest of the faults that this shows, and whether something is
-- missing behind
pub record Ending : Type 0 where
  pub line : ℕ
  pub refusal : Option Wrong
  pub is_short : Bool

abbrev pub end_in : CodeEnd → Ending
end_in end = record { line = end.line; refusal = if_there wrong_in end.refusal; is_short = end.is_short }

-- the end of a part that breaks no rule; one behind which something is missing; one that shows one fault more
abbrev pub lawful_end : ℕ → Ending
lawful_end line = record { line = line; refusal = None; is_short = false }

abbrev pub short_end : Ending → Ending
short_end end = record end { is_short = true }

abbrev pub refused_end : Ending → Wrong → Ending
refused_end end found = record end { refusal = Some (lower_of end.refusal found) }

-- one that shows a fault where a rule does not hold
abbrev pub noted_end : Bool → ℕ → Ending → Ending
noted_end true code end = end
noted_end false code end = refused_end end (wrong code)

-- the end of a larger part that a token in this line closes
abbrev pub closed_end : ℕ → Ending → Ending
closed_end line end = record { line = line; refusal = refusal_behind end.is_short; is_short = false }

-- what is refused by an end
abbrev pub stands_at : ℕ → Option Wrong → Result (Unit {0}) Stop
stands_at line None = Ok tt
stands_at line (Some refusal) = Err (shown_in line refusal)

abbrev pub stands_by : Ending → Result (Unit {0}) Stop
stands_by end = stands_at end.line end.refusal

-- a value by the end of its part: it breaks no rule, and nothing is missing behind it
abbrev pub settled_at : {A : Type 0} → ℕ → Option Wrong → Bool → A → Result A Stop
settled_at line None false value = Ok value
settled_at line None true value = Err stop.Missing
settled_at line (Some refusal) is_short value = Err (shown_in line refusal)

abbrev pub settled_by : {A : Type 0} → Ending → A → Result A Stop
settled_by end value = settled_at end.line end.refusal end.is_short value

-- a part that was looked at becomes one that a token in this line closes
abbrev pub Closes : {A : Type 0} → CodeJudged A → ℕ → Result (CodeJudged A) Stop → Type 0
Closes part line (Ok found) =
    ((end_in part.end).refusal ≡ None) × (found.value ≡ part.value)
    × (end_in found.end ≡ closed_end line (end_in part.end))
Closes part line (Err why) = Err why ≡ stands_by (end_in part.end)

-- a part that means this, and ends so
abbrev pub EndsAs : {A : Type 0} → List Word → Judged A → A → Ending → Type 0
EndsAs words part value end = Ends words part value end.line end.refusal end.is_short

-- why checking stops in a part, where its last word may yet show more. Want of memory says nothing of it
abbrev pub StopsBy : {A : Type 0} → List Word → Judged A → Stop → Type 0
StopsBy words part stop.OutOfMemory = ⊤
StopsBy words part (stop.Fault fault) = Stops words part fault
StopsBy words part stop.Missing = ⊥

-- what is answered of a part of which the last word may yet show more, as of an expression
abbrev pub Answers : {X A : Type 0} → List Word → Judged A → (X → A) → Result (CodeJudged X) Stop → Type 0
Answers words part view (Ok found) = EndsAs words part (view found.value) (end_in found.end)
Answers words part view (Err why) = StopsBy words part why

-- words of which this is the first fault
pub record Shows (words : List Word) (marks : Marks) (fault : Fault) : Type 0 where
  pub many : length marks.tokens ≡ length words
  pub first : first_fault words marks.tokens ≡ Some fault

-- what is answered of a part that stands before a word, which alone shows what is missing before it
pub record StandsAs {A : Type 0} (words : List Word) (part : Judged A) (value : A) (end : Ending) : Type 0 where
  pub lawful : end.refusal ≡ None
  pub ends : EndsAs words part value end

abbrev pub FailsBy : List Word → Marks → Stop → Type 0
FailsBy words marks stop.OutOfMemory = ⊤
FailsBy words marks (stop.Fault fault) = Shows words marks fault
FailsBy words marks stop.Missing = ⊥

abbrev pub Stands : {X A : Type 0} → List Word → Judged A → (X → A) → Result (CodeJudged X) Stop → Type 0
Stands words part view (Ok found) = StandsAs words part (view found.value) (end_in found.end)
Stands words part view (Err why) = FailsBy words part.marks why

-- words that show no fault, behind which something is missing or not
pub record IsQuiet (words : List Word) (marks : Marks) (is_short : Bool) : Type 0 where
  pub still : AreQuiet words marks.tokens
  pub behind : marks.behind ≡ shown_behind is_short

-- a part that means this, and shows no fault
pub record Means {A : Type 0} (words : List Word) (part : Judged A) (value : A) : Type 0 where
  pub known : part.value ≡ Some value
  pub quiet : IsQuiet words part.marks false

-- why checking stops in words that show no more than this
abbrev pub ShowsBy : List Word → Marks → Stop → Type 0
ShowsBy words marks stop.OutOfMemory = ⊤
ShowsBy words marks (stop.Fault fault) = Shows words marks fault
ShowsBy words marks stop.Missing = IsQuiet words marks true

-- what is answered of a part of which the words show no more than they do, as of a statement
abbrev pub Settles : {X A : Type 0} → List Word → Judged A → (X → A) → Result X Stop → Type 0
Settles words part view (Ok found) = Means words part (view found)
Settles words part view (Err why) = ShowsBy words part.marks why
