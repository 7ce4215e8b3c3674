-- What checking a part finds: how the part ends, or why checking stops in it.
use Rattle.std.specs.Prelude.{◌≡◌, ℕ, Bool, true, false, ⊤, List, [], ◌∷◌, length, nat_lt, if◌then◌else◌, Option, Some}
use Rattle.std.specs.Prelude.{None}
use Rattle.wb_base.specs.declared.faults.Fault.{Fault}
use Rattle.wb_base.specs.declared.faults.TheConstants.{WRONG_TYPE}
use Rattle.pas_tokens.specs.Cutting.{Wrong, wrong}
use Rattle.pas_syntax.specs.Words.{Word}
use Rattle.pas_rules.specs.Marks.{last_of, Judged, lowest, first_fault}

-- words that show no fault
abbrev pub AreQuiet : List Word → List (List Wrong) → Type 0
AreQuiet [] [] = ⊤
AreQuiet (word ∷ words) (faults ∷ tokens) = (faults ≡ []) × AreQuiet words tokens
AreQuiet words tokens = ⊥

-- the lowest of some faults
abbrev pub lowest_of : List Wrong → Option Wrong
lowest_of [] = None
lowest_of (refusal ∷ more) = Some (lowest refusal more)

-- the lower of a fault that is there and of one found behind it
abbrev pub lower_of : Option Wrong → Wrong → Wrong
lower_of None found = found
lower_of (Some low) found = if nat_lt found.code low.code then found else low

-- words of which the last one alone shows faults: its line, and the lowest of them
abbrev pub End : List Word → List (List Wrong) → ℕ → Option Wrong → Type 0
End (word ∷ []) (faults ∷ []) line refusal = (word.token.line ≡ line) × (lowest_of faults ≡ refusal)
End (word ∷ (next ∷ words)) (faults ∷ tokens) line refusal = (faults ≡ []) × End (next ∷ words) tokens line refusal
End words tokens line refusal = ⊥

-- what the token behind a part shows because of it
abbrev pub shown_behind : Bool → List Wrong
shown_behind true = wrong WRONG_TYPE ∷ []
shown_behind false = []

-- what the word behind shows because of it, where that closes a larger part
abbrev pub refusal_behind : Bool → Option Wrong
refusal_behind true = Some (wrong WRONG_TYPE)
refusal_behind false = None

-- a part that means this, and ends so
pub record Ends {A : Type 0} (words : List Word) (part : Judged A) (value : A) (line : ℕ) (refusal : Option Wrong)
    (is_short : Bool) : Type 0 where
  pub known : part.value ≡ Some value
  pub end : End words part.marks.tokens line refusal
  pub behind : part.marks.behind ≡ shown_behind is_short

-- a part of which this is the first fault, whatever else its last token is found to show
pub record Stops {A : Type 0} (words : List Word) (part : Judged A) (fault : Fault) : Type 0 where
  pub many : length part.marks.tokens ≡ length words
  pub first : (more : List Wrong) → (part.value ≡ None → more ≡ [])
      → first_fault words (last_of more part.marks.tokens) ≡ Some fault
