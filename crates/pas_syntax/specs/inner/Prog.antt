-- A reader that looks at one token at a time, and what it answers.
use Rattle.std.specs.Prelude.{ℕ, zero, suc, List, [], ◌∷◌, Result, Ok, Err}
use Rattle.pas_tokens.specs.declared.kinds.Kind.{Kind}
use Rattle.pas_tokens.specs.declared.kinds.Kind.TheVariants as k
use Rattle.pas_tokens.specs.Cutting.{Payload, nothing}
use Rattle.pas_tokens.specs.Tokens.{Token}

-- why a reader stops: at a token that may not stand there; at one that shows this part of Pascal, which is left out; or
-- because it took more turns than it may
pub data Why : Type 0 where
  misplaced : Why
  shown : ℕ → Why
  spent : Why

-- a reader: it answers; it stops; it looks at the token that comes next; or it goes behind that
pub data Prog (A : Type 0) : Type 0 where
  done : A → Prog A
  fail : Why → Prog A
  look : (Kind → Payload → ℕ → Prog A) → Prog A
  skip : Prog A → Prog A

-- what a reader answers, or why it stops, and the tokens from there on
abbrev pub Out : Type 0 → Type 0
Out A = Result (A × List Token) (Why × List Token)

abbrev pub head : List Token → Token
head [] = record { kind = k.EndOfText; payload = nothing; line = 0 }
head (token ∷ tokens) = token

abbrev pub run : {A : Type 0} → Prog A → List Token → Out A
run (done answer) tokens = Ok (answer, tokens)
run (fail why) tokens = Err (why, tokens)
run (look next) tokens = run (next (head tokens).kind (head tokens).payload (head tokens).line) tokens
run (skip reader) [] = Err (misplaced, [])
run (skip reader) (token ∷ tokens) = run reader tokens

-- one reader after another
abbrev pub bind : {A B : Type 0} → Prog A → (A → Prog B) → Prog B
bind (done answer) further = further answer
bind (fail why) further = fail why
bind (look next) further = look (λ kind payload line. bind (next kind payload line) further)
bind (skip reader) further = skip (bind reader further)

abbrev pub and_then : {A B : Type 0} → Out A → (A → Prog B) → Out B
and_then (Ok read) further = run (further read.0) read.1
and_then (Err stopped) further = Err stopped

-- what a token means in a loop: a turn more, read so behind the token; the end; or a fault
pub data Next (A : Type 0) : Type 0 where
  more : Prog A → Next A
  ends : Next A
  no : Why → Next A

abbrev pub turn_by : {A : Type 0} → (A → Prog A) → A → Next A → Prog A
turn_by again found (more turn) = skip (bind turn again)
turn_by again found ends = done found
turn_by again found (no why) = fail why

-- so many turns of a loop at the most, where this is found so far
unfoldable pub turns : {A : Type 0} → (A → Kind → Payload → ℕ → Next A) → ℕ → A → Prog A
turns next zero found = fail spent
turns next (suc most) found =
    look (λ kind payload line. turn_by (turns next most) found (next found kind payload line))

-- one turn of a loop, where there is one
abbrev pub turn_of : {A : Type 0} → Next A → Prog A
turn_of (more turn) = skip turn
turn_of ends = fail spent
turn_of (no why) = fail why

abbrev pub a_turn : {A : Type 0} → (A → Kind → Payload → ℕ → Next A) → A → Prog A
a_turn next found = look (λ kind payload line. turn_of (next found kind payload line))
