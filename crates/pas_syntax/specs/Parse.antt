-- What a text means: the one tree that spells its tokens, or the first token that no program goes on with.
use Rattle.std.specs.Prelude.{◌≡◌, ◌≢◌, ◌⊎◌, ℕ, ◌||◌, nat_lt, if◌then◌else◌, List, ◌∷◌, ◌++◌}
use Rattle.std.specs.Prelude.{map, All}
use Rattle.std.specs.Prelude.{Option, Some, None, Ok, Err}
use Rattle.wb_base.specs.declared.faults.Fault.{Fault}
use Rattle.wb_base.specs.declared.faults.TheConstants.{PASCAL_SYNTAX, PASCAL_LEFT_OUT, NESTING_PAST_LIMIT}
use Rattle.pas_tokens.specs.Cutting.{Wrong, wrong}
use Rattle.pas_tokens.specs.Tokens.{Token, tokens_of, fault_in}
use Rattle.pas_syntax.specs.declared.limits.TheConstants.{NESTING_LIMIT}
use Rattle.pas_syntax.specs.Tree.{Program}
use Rattle.pas_syntax.specs.Words.{Word, program_words}
use Rattle.pas_syntax.specs.Nearest.{IsNearestProgram}
use Rattle.pas_syntax.specs.Regions.{part_behind}

-- that a part of Pascal is left out
abbrev pub left_out : ℕ → Wrong
left_out part = record { code = PASCAL_LEFT_OUT; which = part }

-- the fault that a word shows where it stands in a tree: a part of Pascal that is left out, or too much nesting
abbrev pub fault_by : Option ℕ → Word → Option Wrong
fault_by (Some part) word = Some (left_out part)
fault_by None word =
    if nat_lt NESTING_LIMIT word.forms || nat_lt NESTING_LIMIT word.operators
    then Some (left_out NESTING_PAST_LIMIT) else None

abbrev pub fault_of : Word → Option Wrong
fault_of word = fault_by word.left_out word

abbrev pub IsSound : Word → Type 0
IsSound word = fault_of word ≡ None

abbrev pub tokens_in : List Word → List Token
tokens_in words = map (λ word. word.token) words

-- the tree spells these tokens, and none of them shows a fault in it
pub record Spells (tokens : List Token) (program : Program) : Type 0 where
  pub words : tokens_in (program_words program) ≡ tokens
  pub nearest : IsNearestProgram program
  pub sound : All IsSound (program_words program)

-- behind these tokens a word can stand: some tree goes on with it, and these show no fault in that tree
pub record CanStand (before : List Token) (word : Word) : Type 0 where
  pub program : Program
  pub nearest : IsNearestProgram program
  pub front : List Word
  pub rest : List Word
  pub words : program_words program ≡ front ++ word ∷ rest
  pub same : tokens_in front ≡ before
  pub sound : All IsSound front

-- the fault of a token that may not stand behind these
abbrev pub misplaced_by : Option ℕ → Wrong
misplaced_by (Some part) = left_out part
misplaced_by None = wrong PASCAL_SYNTAX

abbrev pub misplaced : List Token → Token → Wrong
misplaced before token = misplaced_by (part_behind before token.kind)

-- something can stand behind these tokens, but not this token
pub record IsMisplaced (before : List Token) (token : Token) : Type 0 where
  pub other : Word
  pub stands : CanStand before other
  pub no_word : (word : Word) → CanStand before word → word.token ≢ token

-- the token can stand behind these, but shows this fault
pub record IsFaulty (before : List Token) (token : Token) (refusal : Wrong) : Type 0 where
  pub word : Word
  pub stands : CanStand before word
  pub same : word.token ≡ token
  pub shows : fault_of word ≡ Some refusal

-- the token behind these is the first that shows a fault, and this is the one
abbrev pub Shows : List Token → Token → Wrong → Type 0
Shows before token refusal =
    (IsMisplaced before token × (refusal ≡ misplaced before token)) ⊎ IsFaulty before token refusal

-- the text means this tree
abbrev pub Means : List ℕ → Program → Type 0
Means text program = (tokens : List Token) × (tokens_of text ≡ Ok tokens) × Spells tokens program

-- some text means this tree
abbrev pub IsOfText : Program → Type 0
IsOfText program = (text : List ℕ) × Means text program

-- the first token of a text that shows a fault, and it
pub record FirstFault (text : List ℕ) (fault : Fault) : Type 0 where
  pub before : List Token
  pub token : Token
  pub rest : List Token
  pub tokens : tokens_of text ≡ Ok (before ++ token ∷ rest)
  pub refusal : Wrong
  pub shows : Shows before token refusal
  pub same : fault ≡ fault_in token.line refusal

-- the text has this fault: of its tokens, which are cut off first, or of its grammar
abbrev pub IsFaultOf : List ℕ → Fault → Type 0
IsFaultOf text fault = (tokens_of text ≡ Err fault) ⊎ FirstFault text fault
