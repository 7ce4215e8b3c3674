-- What a loop of a function that reads has found so far, and what a turn of it does.
use Rattle.std.proofs.Common.{◌≡◌, refl, sym, ap, subst, ◌∙◌, ℕ, zero, suc, ◌+◌, ◌≤◌, ◌<◌, arith, List, [], ◌∷◌}
use Rattle.std.proofs.Common.{length, Result, Ok, Err}
use Rattle.pas_tokens.specs.declared.kinds.Kind.{Kind}
use Rattle.pas_tokens.specs.Cutting.{Payload, nothing}
use Rattle.pas_tokens.specs.Tokens.{Token}
use Rattle.pas_syntax.specs.declared.stop.Stop.{Stop}
use Rattle.pas_syntax.specs.declared.stop.Stop.TheVariants as stop
use Rattle.pas_syntax.specs.inner.Prog.{Prog, bind, Out, run, head, and_then, shown, Why}
use Rattle.pas_syntax.specs.inner.Prog.{Next, more, ends, no, turns, turn_by, turn_of, a_turn, spent, misplaced}
use Rattle.pas_syntax.specs.inner.Places.{Place, IsPlain, Passes, StopsBy, Parses}
use Rattle.pas_syntax.proofs.ProgLemmas.{run_bind}
use Rattle.pas_syntax.proofs.PlaceLemmas.{passes}

-- with turns enough, what the loop does from here on is what the whole does
pub record Reached {A : Type 0} (whole : Prog A) (next : A → Kind → Payload → ℕ → Next A) (start now : List Token)
    (found : A) : Type 0 where
  pub left : ℕ
  pub enough : length now < left
  pub same : run whole start ≡ run (turns next left found) now

pub record SoFar {A : Type 0} (whole : ℕ → Prog A) (next : ℕ → A → Kind → Payload → ℕ → Next A) (old now : Place)
    (found : A) : Type 0 where
  pub reached : (most : ℕ) → suc (length old.tokens) ≤ most
      → Reached (whole most) (next most) old.tokens now.tokens found
  pub shorter : length now.tokens ≤ length old.tokens
  pub taken : now.taken + length now.tokens ≡ old.taken + length old.tokens
  pub spellings : now.spellings ≡ old.spellings

-- the loop begins here
pub begun : {A : Type 0} {next : ℕ → A → Kind → Payload → ℕ → Next A} {old : Place} {found : A}
    → SoFar (λ most. turns (next most) most found) next old old found
begun = record {
  reached = λ most enough. record { left = most; enough = omega (arith, enough); same = refl };
  shorter = omega arith;
  taken = refl;
  spellings = refl;
}

-- the loop begins behind what is read first
pub begun_behind : {A B X : Type 0} {first : ℕ → Prog A} {view : List ℕ → X → A} {next : ℕ → B → Kind → Payload → ℕ
    → Next B} {old now : Place} {x : X} (start : A → B) → Parses first view old (Ok x) now
    → SoFar (λ most. bind (first most) (λ a. turns (next most) most (start a))) next old now
    (start (view old.spellings x))
begun_behind {first = first} {next = next} {old = old} start h = record {
  reached = λ most enough. record {
    left = most;
    enough = omega (arith, enough, h.shorter);
    same = run_bind (first most) (λ a. turns (next most) most (start a)) old.tokens
        ∙ ap (λ r. and_then r (λ a. turns (next most) most (start a))) (h.gives most enough);
  };
  shorter = h.shorter;
  taken = h.taken;
  spellings = h.spellings;
}

some_turns : (n m : ℕ) → n < m → (k : ℕ) × (m ≡ suc k)
some_turns n zero h = absurd (omega (arith, h))
some_turns n (suc k) h = (k, refl)

module _ {A : Type 0} (next : A → Kind → Payload → ℕ → Next A) (left : ℕ) (found : A) where
  -- a turn, read as a reader of its own
  one_turn_by : (n : Next A) (ts : List Token) (r : Out A) → run (turn_of n) ts ≡ r
      → ((rest : List Token) → r ≡ Err (spent, rest) → ⊥)
      → run (turn_by (turns next left) found n) ts ≡ and_then r (turns next left)
  one_turn_by (more turn) [] r e sane = rw (← e) refl
  one_turn_by (more turn) (t ∷ ts) r e sane = rw (← e) (run_bind turn (turns next left) ts)
  one_turn_by ends ts r e sane = absurd (sane ts (sym e))
  one_turn_by (no why) ts r e sane = rw (← e) refl

  one_turn : (ts : List Token) (r : Out A) → run (a_turn next found) ts ≡ r
      → ((rest : List Token) → r ≡ Err (spent, rest) → ⊥)
      → run (turns next (suc left) found) ts ≡ and_then r (turns next left)
  unfolding turns
  one_turn ts r e sane = one_turn_by (next found (head ts).kind (head ts).payload (head ts).line) ts r e sane

abbrev is_spent : Why → Type 0
is_spent spent = Unit {0}
is_spent why = ⊥

abbrev why_of : {A : Type 0} → Out A → Why
why_of (Ok read) = misplaced
why_of (Err stopped) = stopped.0

stopped_by : {A : Type 0} (p q : Prog A) (ts us rest : List Token) (why : Stop) (g : A → Prog A)
    → StopsBy why rest (run q us)
    → ((r : Out A) → run q us ≡ r → ((rest : List Token) → r ≡ Err (spent, rest) → ⊥)
    → run p ts ≡ and_then r g)
    → StopsBy why rest (run p ts)
stopped_by p q ts us rest stop.OutOfMemory g h same = tt
stopped_by p q ts us rest stop.Misplaced g h same =
    same (Err (misplaced, rest)) h (λ rest e. subst is_spent (sym (ap why_of e)) tt)
stopped_by p q ts us rest (stop.LeftOut part) g h same =
    same (Err (shown part, rest)) h (λ rest e. subst is_spent (sym (ap why_of e)) tt)

-- the loop goes on
module _ {A X : Type 0} {whole : ℕ → Prog A} {next : ℕ → A → Kind → Payload → ℕ → Next A} {view : List ℕ → X → A} where
  pub turned : {old now new : Place} {found : A} {x : X} → SoFar whole next old now found
      → Parses (λ most. a_turn (next most) found) view now (Ok x) new → length new.tokens < length now.tokens
      → SoFar whole next old new (view old.spellings x)
  turned {old = old} {now = now} {new = new} {found = found} {x = x} so h further = record {
    reached = λ most enough.
        let r = so.reached most enough in
        let k = some_turns (length now.tokens) r.left r.enough in
        record {
          left = k.0;
          enough = omega (arith, r.enough, k.1, further);
          same = r.same ∙ ap (λ n. run (turns (next most) n found) now.tokens) k.1
              ∙ one_turn (next most) k.0 found now.tokens (Ok (view old.spellings x, new.tokens))
              (h.gives most (omega (arith, enough, so.shorter))
              ∙ ap (λ s. Ok (view s x, new.tokens)) so.spellings)
              (λ rest e. subst is_spent (sym (ap why_of e)) tt);
        };
    shorter = omega (arith, further, so.shorter);
    taken = h.taken ∙ so.taken;
    spellings = h.spellings ∙ so.spellings;
  }

  -- a turn stops
  pub turn_stops : {Y : Type 0} {seen : List ℕ → Y → A} {old now new : Place} {found : A} {why : Stop}
      → SoFar whole next old now found → Parses (λ most. a_turn (next most) found) view now (Err why) new
      → Parses whole seen old (Err why) new
  turn_stops {old = old} {now = now} {new = new} {found = found} {why = why} so h = record {
    gives = λ most enough.
        let r = so.reached most enough in
        let k = some_turns (length now.tokens) r.left r.enough in
        stopped_by (whole most) (a_turn (next most) found) old.tokens now.tokens new.tokens why (turns (next most) k.0)
        (h.gives most (omega (arith, enough, so.shorter)))
        (λ out e sane. r.same ∙ ap (λ n. run (turns (next most) n found) now.tokens) k.1
        ∙ one_turn (next most) k.0 found now.tokens out e sane);
    shorter = omega (arith, h.shorter, so.shorter);
    taken = h.taken ∙ so.taken;
    spellings = h.spellings ∙ so.spellings;
  }

  -- the loop ends
  pub loop_ends : {old now : Place} {found : A} {x : X} → SoFar whole next old now found
      → ((most : ℕ) → next most found (head now.tokens).kind (head now.tokens).payload (head now.tokens).line ≡ ends)
      → found ≡ view old.spellings x → Parses whole view old (Ok x) now
  unfolding turns
  loop_ends {old = old} {now = now} {found = found} {x = x} so at_end is = record {
    gives = λ most enough.
        let r = so.reached most enough in
        let k = some_turns (length now.tokens) r.left r.enough in
        r.same ∙ ap (λ n. run (turns (next most) n found) now.tokens) k.1
        ∙ ap (λ n. run (turn_by (turns (next most) k.0) found n) now.tokens) (at_end most)
        ∙ ap (λ a. Ok (a, now.tokens)) is;
    shorter = so.shorter;
    taken = so.taken;
    spellings = so.spellings;
  }

-- a turn that begins with a token that says nothing beside its kind
pub turn_passes : {A X : Type 0} {view : List ℕ → X → A} {q : ℕ → Prog A} {old middle new : Place} {line : ℕ}
    {result : Result X Stop} (next : ℕ → A → Kind → Payload → ℕ → Next A) (found : A) (kind : Kind) → IsPlain kind
    → kind ≡ (head old.tokens).kind → Passes old line middle
    → ((most : ℕ) → next most found kind nothing line ≡ more (q most))
    → Parses q view middle result new
    → Parses (λ most. a_turn (next most) found) view old result new
turn_passes next found kind plain is h goes rest =
    passes (λ most kind payload line. turn_of (next most found kind payload line)) kind plain is h (omega arith)
    (λ most. ap turn_of (goes most)) rest
