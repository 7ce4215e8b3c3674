-- What is read of a text: the tokens from a place on, and how a function that reads goes by a reader of the definition.
use Rattle.std.specs.Prelude.{◌≡◌, ◌≢◌, ℕ, suc, ◌+◌, ◌≤◌, ⊤, List, [], ◌∷◌, length, drop, Result, Ok, Err}
use Rattle.std.specs.List.{flat_map}
use Rattle.wb_base.specs.declared.faults.TheConstants.{FILE_LIMIT}
use Rattle.pas_tokens.specs.declared.kinds.Kind.{Kind}
use Rattle.pas_tokens.specs.declared.kinds.Kind.TheVariants as k
use Rattle.pas_tokens.specs.Cutting.{Payload, nothing, value, spelling}
use Rattle.pas_tokens.specs.Tokens.{Token}
use Rattle.pas_syntax.specs.declared.stop.Stop.{Stop}
use Rattle.pas_syntax.specs.declared.stop.Stop.TheVariants as stop
use Rattle.pas_syntax.specs.declared.reader.Reader.TheInside.{Inside}
use Rattle.pas_syntax.specs.inner.Prog.{Prog, Out, run, misplaced, shown}

-- a place in a text: the spellings of the whole text, how many tokens stand before it, and those from there on
pub record Place : Type 0 where
  pub spellings : List ℕ
  pub taken : ℕ
  pub tokens : List Token

-- the bytes that a token is spelled with, where it is a name or a string
abbrev pub spelled_by : Payload → List ℕ
spelled_by (spelling bytes) = bytes
spelled_by other = []

abbrev pub spelled_of : List Token → List ℕ
spelled_of tokens = flat_map (λ token. spelled_by token.payload) tokens

-- a kind of token that says nothing beside its kind
abbrev pub IsPlain : Kind → Type 0
IsPlain k.Name = ⊥
IsPlain k.Number = ⊥
IsPlain k.Text = ⊥
IsPlain kind = ⊤

-- the same, but for the end of the text
abbrev pub IsMark : Kind → Type 0
IsMark k.EndOfText = ⊥
IsMark kind = IsPlain kind

-- what a token of a kind says
abbrev pub Fits : Kind → Payload → Type 0
Fits k.Name (spelling bytes) = ⊤
Fits k.Name payload = ⊥
Fits k.Number (value number) = ⊤
Fits k.Number payload = ⊥
Fits k.Text (spelling bytes) = ⊤
Fits k.Text payload = ⊥
Fits kind nothing = ⊤
Fits kind payload = ⊥

-- tokens, of which the last one alone is the end of a text
abbrev pub AreTokens : List Token → Type 0
AreTokens [] = ⊥
AreTokens (token ∷ []) = (token.kind ≡ k.EndOfText) × Fits token.kind token.payload
AreTokens (token ∷ (next ∷ tokens)) =
    (token.kind ≢ k.EndOfText) × Fits token.kind token.payload × AreTokens (next ∷ tokens)

-- what a reader is to contracts, and what it keeps
abbrev pub place_of : Inside → Place
place_of reader = record { spellings = reader.spellings.now; taken = reader.taken; tokens = reader.cursor }

pub record IsReader (reader : Inside) : Type 0 where
  pub tokens : AreTokens reader.cursor
  pub spelled : drop reader.spelled reader.spellings.now ≡ spelled_of reader.cursor
  pub within : reader.spelled ≤ length reader.spellings.now
  pub short : length reader.spellings.now ≤ FILE_LIMIT
  pub few : reader.taken + length reader.cursor ≤ suc FILE_LIMIT

-- the token at a place, which is not the end, stands before another
pub record Passes (old : Place) (line : ℕ) (new : Place) : Type 0 where
  pub token : Token
  pub tokens : old.tokens ≡ token ∷ new.tokens
  pub same : line ≡ token.line
  pub fits : Fits token.kind token.payload
  pub taken : new.taken ≡ old.taken + 1
  pub spellings : new.spellings ≡ old.spellings

-- why reading stops before these tokens, as a reader of the definition has it; want of memory says nothing of it
abbrev pub StopsBy : {A : Type 0} → Stop → List Token → Out A → Type 0
StopsBy stop.OutOfMemory rest out = ⊤
StopsBy stop.Misplaced rest out = out ≡ Err (misplaced, rest)
StopsBy (stop.LeftOut part) rest out = out ≡ Err (shown part, rest)

abbrev pub Gives : {X A : Type 0} → (X → A) → Result X Stop → List Token → Out A → Type 0
Gives view (Ok found) rest out = out ≡ Ok (view found, rest)
Gives view (Err why) rest out = StopsBy why rest out

-- what a function answered is what the reader answers, where at least so many turns may be taken
pub record ParsesIn {X A : Type 0} (least : ℕ) (reader : ℕ → Prog A) (view : List ℕ → X → A)
    (old : Place) (result : Result X Stop) (new : Place) : Type 0 where
  pub gives : (most : ℕ) → least ≤ most → Gives (view old.spellings) result new.tokens (run (reader most) old.tokens)
  pub shorter : length new.tokens ≤ length old.tokens
  pub taken : new.taken + length new.tokens ≡ old.taken + length old.tokens
  pub spellings : new.spellings ≡ old.spellings

-- the same, where there is a turn more than there are tokens
abbrev pub Parses : {X A : Type 0} → (ℕ → Prog A) → (List ℕ → X → A) → Place → Result X Stop → Place → Type 0
Parses reader view old result new = ParsesIn (suc (length old.tokens)) reader view old result new

-- what is seen as it is
abbrev pub same : {A : Type 0} → List ℕ → A → A
same spellings found = found
