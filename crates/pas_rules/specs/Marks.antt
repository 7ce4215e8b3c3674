-- What the rules of Pascal find in a part of a text: the faults that each of its tokens shows, and what the part means
-- where it shows none. The first token with a fault, and the lowest fault at it, is told: this project's own.
use Rattle.std.specs.Prelude.{nat_lt, Bool, true, false, if◌then◌else◌, List, [], ◌∷◌, ◌++◌, fold, Option, Some}
use Rattle.std.specs.Prelude.{None}
use Rattle.wb_base.specs.declared.faults.Fault.{Fault}
use Rattle.pas_tokens.specs.Cutting.{Wrong}
use Rattle.pas_tokens.specs.Tokens.{fault_in}
use Rattle.pas_syntax.specs.Words.{Word}

-- the faults that each token of a part shows, in the order of the text, and those that the token behind the part shows
-- because of it
pub record Marks : Type 0 where
  pub tokens : List (List Wrong)
  pub behind : List Wrong

-- no token; a token that shows these faults; one that shows none
abbrev pub no_token : Marks
no_token = record { tokens = []; behind = [] }

abbrev pub shows : List Wrong → Marks
shows faults = record { tokens = faults ∷ []; behind = [] }

abbrev pub quiet : Marks
quiet = shows []

-- a part at the first token of which these faults show too; it is the token behind where the part has none
abbrev pub first_of : List Wrong → List Wrong → List (List Wrong) → Marks
first_of faults behind [] = record { tokens = []; behind = faults ++ behind }
first_of faults behind (first ∷ more) = record { tokens = (faults ++ first) ∷ more; behind = behind }

abbrev pub at_first : List Wrong → Marks → Marks
at_first faults part = first_of faults part.behind part.tokens

-- a part at the last token of which these faults show too
abbrev pub last_of : List Wrong → List (List Wrong) → List (List Wrong)
last_of faults [] = []
last_of faults (last ∷ []) = (last ++ faults) ∷ []
last_of faults (first ∷ (second ∷ more)) = first ∷ last_of faults (second ∷ more)

abbrev pub at_last : List Wrong → Marks → Marks
at_last faults part = record part { tokens = last_of faults part.tokens }

-- a part that makes the token behind it show these faults too
abbrev pub with_behind : List Wrong → Marks → Marks
with_behind faults part = record part { behind = part.behind ++ faults }

-- a part and the next one; and parts one after another
abbrev pub followed : Marks → Marks → Marks
followed part next =
    let behind = at_first part.behind next in record behind { tokens = part.tokens ++ behind.tokens }

abbrev pub joined : List Marks → Marks
joined [] = no_token
joined (part ∷ parts) = followed part (joined parts)

-- parts with a token between them
abbrev pub listed : List Marks → Marks
listed [] = no_token
listed (part ∷ []) = part
listed (part ∷ (next ∷ parts)) = joined (part ∷ quiet ∷ listed (next ∷ parts) ∷ [])

-- these faults where a rule does not hold
abbrev pub unless : Bool → Wrong → List Wrong
unless true refusal = []
unless false refusal = refusal ∷ []

-- a part that was looked at: its marks, and what it means, if that is known. A part that breaks a rule may stay known
-- by its type, so that each fault of its last token is seen
pub record Judged (A : Type 0) : Type 0 where
  pub marks : Marks
  pub value : Option A

abbrev pub judged : {A : Type 0} → Marks → Option A → Judged A
judged marks value = record { marks = marks; value = value }

-- a token that means this, and one that shows a fault
abbrev pub means : {A : Type 0} → A → Judged A
means value = judged quiet (Some value)

abbrev pub refuses : {A : Type 0} → Wrong → Judged A
refuses refusal = judged (shows (refusal ∷ [])) None

-- what is known, made into something else
abbrev pub known : {A B : Type 0} → (A → B) → Option A → Option B
known make None = None
known make (Some value) = Some (make value)

abbrev pub both : {A B C : Type 0} → (A → B → C) → Option A → Option B → Option C
both make (Some first) (Some second) = Some (make first second)
both make first second = None

abbrev pub known_of : {A B : Type 0} → Option (A → B) → Option A → Option B
known_of make value = both (λ function argument. function argument) make value

abbrev pub all_known : {A : Type 0} → List (Option A) → Option (List A)
all_known [] = Some []
all_known (item ∷ items) = both ◌∷◌ item (all_known items)

-- a part of which the meaning must show no fault: what faults it shows, it shows at its last token
abbrev pub kept_by : {A : Type 0} → Marks → A → List Wrong → Judged A
kept_by marks value [] = judged marks (Some value)
kept_by marks value (refusal ∷ more) = judged (at_last (refusal ∷ more) marks) None

abbrev pub checked_by : {A : Type 0} → (A → List Wrong) → Marks → Option A → Judged A
checked_by faults marks None = judged marks None
checked_by faults marks (Some value) = kept_by marks value (faults value)

abbrev pub checked : {A : Type 0} → (A → List Wrong) → Judged A → Judged A
checked faults part = checked_by faults part.marks part.value

-- a part that shows these faults at its last token too, and stays known
abbrev pub faults_if : {A : Type 0} → (A → List Wrong) → Option A → List Wrong
faults_if faults None = []
faults_if faults (Some value) = faults value

abbrev pub noted : {A : Type 0} → (A → List Wrong) → Judged A → Judged A
noted faults part = judged (at_last (faults_if faults part.value) part.marks) part.value

-- the lowest of faults, of which this one is the first
abbrev pub lowest : Wrong → List Wrong → Wrong
lowest refusal more = fold (λ low next. if nat_lt next.code low.code then next else low) refusal more

-- the fault of the first token that shows one, at the line of its word
abbrev pub first_fault : List Word → List (List Wrong) → Option Fault
first_fault (word ∷ words) ((refusal ∷ more) ∷ marks) = Some (fault_in word.token.line (lowest refusal more))
first_fault (word ∷ words) ([] ∷ marks) = first_fault words marks
first_fault words marks = None
