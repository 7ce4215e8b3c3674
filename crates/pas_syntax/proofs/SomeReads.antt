-- What readers read one after the other, where each has a tree that it could answer.
use Rattle.std.proofs.Common.{◌≡◌, refl, ℕ, ◌+◌, ◌≤◌, Bool, true, false, List, [], ◌∷◌, ◌++◌}
use Rattle.std.specs.Prelude.{nat_lt}
use Rattle.std.proofs.lemmas.List.{append-nil}
use Rattle.wb_base.specs.declared.faults.TheConstants.{NESTING_PAST_LIMIT}
use Rattle.pas_tokens.specs.declared.kinds.Kind.{Kind}
use Rattle.pas_tokens.specs.declared.kinds.Kind.TheVariants as k
use Rattle.pas_tokens.specs.Cutting.{nothing}
use Rattle.pas_tokens.specs.Tokens.{Token}
use Rattle.pas_syntax.specs.declared.limits.TheConstants.{NESTING_LIMIT}
use Rattle.pas_syntax.specs.Words.{Word, at}
use Rattle.pas_syntax.specs.inner.Prog.{Prog, done, skip, bind, run}
use Rattle.pas_syntax.specs.inner.Readers.{unless, in_form}
use Rattle.pas_syntax.proofs.ProgLemmas.{run_bind}
use Rattle.pas_syntax.proofs.Good.{a_token, ReadsAt, Reads, reads_done, reads_shown, reads_skip, reads_bind}
use Rattle.pas_syntax.proofs.Good.{first_then}
use Rattle.pas_syntax.proofs.TurnLemmas.{Any}
use Rattle.pas_syntax.proofs.WordLemmas.{sound_says, deep_form, fits_of}

-- a tree, and words that spell it
abbrev pub Tree : {A : Type 0} → (A → List Word → Type 0) → Type 0
Tree {A} P = (a : A) × (ws : List Word) × P a ws

pub record ReadsSome {A : Type 0} (P : A → List Word → Type 0) (E : A → Token → Type 0) (q : Prog A) : Type 0 where
  pub reads : Reads P E q
  pub some : Tree P

-- an answer
pub reads_made : {A : Type 0} (P : A → List Word → Type 0) (a : A) → P a [] → ReadsSome P Any (done a)
reads_made P a p = record { reads = λ ts. reads_done P Any _ a p tt ts refl; some = (a, [], p) }

module _ {A B : Type 0} (P : A → List Word → Type 0) (E : A → Token → Type 0) (R : B → List Word → Type 0) (F : B
    → Token → Type 0) (q : Prog A) where
  -- one after the other, where the first is known at this token
  pub reads_bind_at : (t : Token) (g : A → Prog B) → ReadsAt t P E q
      → ((a : A) (us : List Word) (t : Token) → P a us → E a t → ReadsAt t (λ b vs. R b (us ++ vs)) F (g a))
      → ((a : A) (us : List Word) → P a us → Tree (λ b vs. R b (us ++ vs)))
      → ReadsAt t R F (bind q g)
  reads_bind_at t g h next some ts is = rw (run_bind q g ts) (first_then P E R F g ts (run q ts) (h ts is) next some)

  -- the same, where something is known of the token behind the first
  pub reads_then_at : (g : A → Prog B) → ReadsSome P E q
      → ((a : A) (us : List Word) (t : Token) → P a us → E a t → ReadsAt t (λ b vs. R b (us ++ vs)) F (g a))
      → ((a : A) (us : List Word) → P a us → Tree (λ b vs. R b (us ++ vs)))
      → ReadsSome R F (bind q g)
  reads_then_at g h next some =
      let x = some h.some.0 h.some.1 h.some.2 in
      record { reads = reads_bind P E R F g q h.reads next some; some = (x.0, h.some.1 ++ x.1, x.2) }

  pub reads_then : (g : A → Prog B) → ReadsSome P E q
      → ((a : A) (us : List Word) → P a us → ReadsSome (λ b vs. R b (us ++ vs)) F (g a))
      → ReadsSome R F (bind q g)
  reads_then g h next =
      reads_then_at g h (λ a us t is _ ts _. (next a us is).reads ts) (λ a us is. (next a us is).some)

  -- with nothing behind
  pub reads_last : (make : A → B) → ReadsSome P E q → ((a : A) (us : List Word) → P a us → R (make a) us)
      → ((a : A) (t : Token) → E a t → F (make a) t) → ReadsSome R F (bind q (λ a. done (make a)))
  reads_last make h spelled end =
      reads_then_at (λ a. done (make a)) h
      (λ a us t is e. reads_done (λ b vs. R b (us ++ vs)) F t (make a) (rw (append-nil us) (spelled a us is))
      (end a t e))
      (λ a us is. (make a, [], rw (append-nil us) (spelled a us is)))

-- a form that is open from its first word on
module _ {A : Type 0} (P : A → List Word → Type 0) (E : A → Token → Type 0) (n : ℕ) (kind : Kind) (line : ℕ) (q : Prog
    A) where
  abbrev pub behind_first : A → List Word → Type 0
  behind_first a ws = P a (at (n + 1) kind line ∷ ws)

  reads_form_by : (b : Bool) → nat_lt NESTING_LIMIT (n + 1) ≡ b → (k.EndOfText ≡ kind → ⊥) → Tree behind_first
      → (n + 1 ≤ NESTING_LIMIT → Reads behind_first E q)
      → ReadsAt (a_token kind nothing line) P E (unless b (skip q))
  reads_form_by true deep goes_on some h =
      reads_shown P E (a_token kind nothing line) NESTING_PAST_LIMIT some.0 (at (n + 1) kind line) some.1 some.2 refl
      (deep_form (n + 1) kind line deep)
  reads_form_by false few goes_on some h =
      reads_skip P E (at (n + 1) kind line) q goes_on
      (sound_says (n + 1) kind nothing line (fits_of (n + 1) few)) (h (fits_of (n + 1) few))

  pub reads_form : (k.EndOfText ≡ kind → ⊥) → Tree behind_first → (n + 1 ≤ NESTING_LIMIT → Reads behind_first E q)
      → ReadsAt (a_token kind nothing line) P E (in_form (n + 1) (skip q))
  reads_form goes_on some h = reads_form_by (nat_lt NESTING_LIMIT (n + 1)) refl goes_on some h
