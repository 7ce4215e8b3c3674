-- A reader's answer is seen from the tokens that it used and the one behind them.
use Rattle.std.proofs.Common.{◌≡◌, refl, sym, ap, subst, ◌∙◌, ℕ, List, [], ◌∷◌, ◌++◌, Ok, Err}
use Rattle.std.proofs.lemmas.List.{append_cancel_right}
use Rattle.pas_tokens.specs.declared.kinds.Kind.{Kind}
use Rattle.pas_tokens.specs.Cutting.{Payload}
use Rattle.pas_tokens.specs.Tokens.{Token}
use Rattle.pas_syntax.specs.inner.Prog.{Why, misplaced, Prog, done, fail, look, skip, Out, head, run, bind, and_then}

pub run_bind : {A B : Type 0} (reader : Prog A) (further : A → Prog B) (tokens : List Token)
    → run (bind reader further) tokens ≡ and_then (run reader tokens) further
run_bind (done answer) further tokens = refl
run_bind (fail why) further tokens = refl
run_bind (look next) further tokens =
    run_bind (next (head tokens).kind (head tokens).payload (head tokens).line) further tokens
run_bind (skip reader) further [] = refl
run_bind (skip reader) further (token ∷ tokens) = run_bind reader further tokens

-- what is read together first can be read one after the other
pub run_assoc : {A B C : Type 0} (reader : Prog A) (f : A → Prog B) (g : B → Prog C) (tokens : List Token)
    → run (bind (bind reader f) g) tokens ≡ run (bind reader (λ a. bind (f a) g)) tokens
run_assoc (done answer) f g tokens = refl
run_assoc (fail why) f g tokens = refl
run_assoc (look next) f g tokens =
    run_assoc (next (head tokens).kind (head tokens).payload (head tokens).line) f g tokens
run_assoc (skip reader) f g [] = refl
run_assoc (skip reader) f g (token ∷ tokens) = run_assoc reader f g tokens

-- both are empty, or both begin with the same token
abbrev pub Same : List Token → List Token → Type 0
Same [] [] = Unit {0}
Same (t ∷ ts) (u ∷ us) = t ≡ u
Same _ _ = ⊥

abbrev pub rest_of : {A : Type 0} → Out A → List Token
rest_of (Ok read) = read.1
rest_of (Err stopped) = stopped.1

abbrev pub with_rest : {A : Type 0} → Out A → List Token → Out A
with_rest (Ok read) tokens = Ok (read.0, tokens)
with_rest (Err stopped) tokens = Err (stopped.0, tokens)

abbrev pub IsLocalTo : {A : Type 0} → Prog A → List Token → Out A → Type 0
IsLocalTo reader ts r =
    (used : List Token) × (ts ≡ used ++ rest_of r)
    × ((us : List Token) → Same (rest_of r) us → run reader (used ++ us) ≡ with_rest r us)

abbrev pub IsLocal : {A : Type 0} → Prog A → List Token → Type 0
IsLocal reader ts = IsLocalTo reader ts (run reader ts)

same_head : (ts us : List Token) → Same ts us → head ts ≡ head us
same_head [] [] s = refl
same_head (t ∷ ts) (u ∷ us) s = s
same_head [] (u ∷ us) s = absurd s
same_head (t ∷ ts) [] s = absurd s

head_used : (used ts rest us : List Token) → ts ≡ used ++ rest → Same rest us → head ts ≡ head (used ++ us)
head_used [] ts rest us e s = ap head e ∙ same_head rest us s
head_used (t ∷ used) ts rest us e s = ap head e

local_look : {A : Type 0} (next : Kind → Payload → ℕ → Prog A) (ts : List Token)
    → IsLocal (next (head ts).kind (head ts).payload (head ts).line) ts → IsLocal (look next) ts
local_look next ts h = (
  h.0,
  h.1,
  λ us s. ap (λ t. run (next t.kind t.payload t.line) (h.0 ++ us)) (sym (head_used h.0 ts _ us h.1 s))
      ∙ h.2 us s,
)

pub local : {A : Type 0} (reader : Prog A) (ts : List Token) → IsLocal reader ts
local (done answer) ts = ([], refl, λ us s. refl)
local (fail why) ts = ([], refl, λ us s. refl)
local (look next) ts = local_look next ts (local (next (head ts).kind (head ts).payload (head ts).line) ts)
local (skip reader) [] = (
  [],
  refl,
  λ us s. elim us as (λ us. Same [] us → run (skip reader) us ≡ Err (misplaced, us))
      [ [] ↦ λ s. refl | u ∷ us ↦ λ s. absurd s ] s,
)
local (skip reader) (t ∷ ts) = let h = local reader ts in (t ∷ h.0, ap (λ us. t ∷ us) h.1, h.2)

-- the same fault comes in each text with the same tokens up to it
pub fails_again : {A : Type 0} (reader : Prog A) (ts front rest us : List Token) (t : Token) (why : Why)
    → run reader ts ≡ Err (why, t ∷ rest) → ts ≡ front ++ t ∷ rest → run reader (front ++ t ∷ us) ≡ Err (why, t ∷ us)
fails_again reader ts front rest us t why e split =
    let h : IsLocalTo reader ts (Err (why, t ∷ rest)) = subst (λ r. IsLocalTo reader ts r) e (local reader ts) in
    let same : h.0 ≡ front = append_cancel_right h.0 front (t ∷ rest) (sym h.1 ∙ split) in
    rw (← same) (h.2 (t ∷ us) refl)
