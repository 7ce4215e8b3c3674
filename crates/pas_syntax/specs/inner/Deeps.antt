-- How deep a place lies, and how deep an expression is.
use Rattle.std.specs.Prelude.{◌≡◌, ℕ, ◌+◌, ◌-◌, ◌≤◌, nat_lt, true, false, List, Result, Ok, Err, ⊤}
use Rattle.wb_base.specs.declared.faults.TheConstants.{NESTING_PAST_LIMIT}
use Rattle.pas_tokens.specs.declared.kinds.Kind.{Kind}
use Rattle.pas_tokens.specs.declared.kinds.Kind.TheVariants as k
use Rattle.pas_syntax.specs.declared.limits.TheConstants.{NESTING_LIMIT}
use Rattle.pas_syntax.specs.declared.depth.Depth.{Depth}
use Rattle.pas_syntax.specs.declared.depth.Deep.{Deep}
use Rattle.pas_syntax.specs.declared.stop.Stop.{Stop}
use Rattle.pas_syntax.specs.declared.stop.Stop.TheVariants.{LeftOut, OutOfMemory}

-- one form deeper, within the limit
pub record IsInForm (depth inner : Depth) : Type 0 where
  pub fits : nat_lt NESTING_LIMIT (depth.forms + 1) ≡ false
  pub inner_is : inner ≡ record { forms = depth.forms + 1; operators = depth.operators }

-- in an operand behind an operator, where this is the depth of the one before it, within the limit
pub record IsInOperand (depth : Depth) (left : ℕ) (inner : Depth) : Type 0 where
  pub fits : nat_lt NESTING_LIMIT (depth.operators + 1 + left) ≡ false
  pub inner_is : inner ≡ record { forms = depth.forms; operators = depth.operators + 1 }

-- past the limit
pub record IsTooDeep (count : ℕ) (why : Stop) : Type 0 where
  pub deep : nat_lt NESTING_LIMIT count ≡ true
  pub why_is : why ≡ LeftOut NESTING_PAST_LIMIT

-- a part of an expression as the definition has it, and its depth
abbrev pub of_deep : {X A : Type 0} → (List ℕ → X → A) → List ℕ → Deep X → A
of_deep view spellings found = view spellings found.tree

pub record HasDepth (operators depth real : ℕ) : Type 0 where
  pub same : depth ≡ real
  pub few : depth ≤ NESTING_LIMIT - operators

-- what is made, if there is memory
abbrev pub Makes : {X A : Type 0} → (List ℕ → X → A) → Result X Stop → (List ℕ → A) → Type 0
Makes view (Ok found) make = (spellings : List ℕ) → make spellings ≡ view spellings found
Makes view (Err why) make = why ≡ OutOfMemory

-- a token of this kind would show this part of Pascal
abbrev pub IsRefused : {X : Type 0} → Kind → ℕ → Kind → Result X Stop → Type 0
IsRefused refused part kind (Ok found) = refused ≡ kind → ⊥
IsRefused refused part kind (Err why) = (refused ≡ kind) × (why ≡ LeftOut part)

-- a token of this kind selects a part of a variable
abbrev pub BeginsSelector : Kind → Type 0
BeginsSelector k.LeftBracket = ⊤
BeginsSelector k.Dot = ⊤
BeginsSelector k.Caret = ⊤
BeginsSelector kind = ⊥
