-- What a loop answers at the words of its turns.
use Rattle.std.proofs.Common.{◌≡◌, refl, ap, ◌∙◌, ℕ, suc, Bool, true, false}
use Rattle.std.proofs.Common.{List, [], ◌∷◌, ◌++◌, Ok, Some}
use Rattle.wb_base.specs.declared.faults.TheConstants.{NESTING_PAST_LIMIT}
use Rattle.pas_tokens.specs.declared.kinds.Kind.{Kind}
use Rattle.pas_tokens.specs.Cutting.{Payload}
use Rattle.pas_tokens.specs.Tokens.{Token}
use Rattle.pas_syntax.specs.Words.{Word}
use Rattle.pas_syntax.specs.Parse.{fault_of, left_out, IsSound, tokens_in}
use Rattle.pas_syntax.specs.inner.Prog.{Prog, shown, look, skip, bind, Out, run, head, Next, more, ends, no}
use Rattle.pas_syntax.specs.inner.Prog.{turn_by, turns}
use Rattle.pas_syntax.specs.inner.Readers.{unless, turn_unless}
use Rattle.pas_syntax.proofs.Judged.{Reaches, reaches_bind, reaches_skip, reaches_shown}

module _ {S : Type 0} (next : S → Kind → Payload → ℕ → Next S) (k : ℕ) (left : S) (w : Word) where
  -- a turn that begins with a word, unless this shows that nesting passes its limit
  pub reaches_turn : (new : S) (ws vs : List Word) (turn : Prog S) (b : Bool) (r : Out S) (rest : List Token)
      → next left w.token.kind w.token.payload w.token.line ≡ turn_unless b turn
      → (b ≡ true → fault_of w ≡ Some (left_out NESTING_PAST_LIMIT)) → (b ≡ false → IsSound w)
      → (b ≡ false → Reaches turn ws (Ok (new, tokens_in vs ++ rest)) (tokens_in vs ++ rest))
      → Reaches (turns next k new) vs r rest → Reaches (turns next (suc k) left) (w ∷ (ws ++ vs)) r rest
  unfolding turns
  reaches_turn new ws vs turn true r rest is deep sound read then =
      ap (λ x. run (turn_by (turns next k) left x) (w.token ∷ (tokens_in (ws ++ vs) ++ rest))) is
      ∙ reaches_shown NESTING_PAST_LIMIT w (ws ++ vs) r rest (deep refl)
  reaches_turn new ws vs turn false r rest is deep sound read then =
      ap (λ x. run (turn_by (turns next k) left x) (w.token ∷ (tokens_in (ws ++ vs) ++ rest))) is
      ∙ reaches_skip (bind turn (turns next k)) w (ws ++ vs) r rest (sound refl)
      (reaches_bind turn (turns next k) ws vs new r rest (read refl) then)

  -- a turn that begins with a sound word
  pub reaches_more : (new : S) (ws vs : List Word) (turn : Prog S) (r : Out S) (rest : List Token)
      → next left w.token.kind w.token.payload w.token.line ≡ more turn → IsSound w
      → Reaches turn ws (Ok (new, tokens_in vs ++ rest)) (tokens_in vs ++ rest)
      → Reaches (turns next k new) vs r rest → Reaches (turns next (suc k) left) (w ∷ (ws ++ vs)) r rest
  unfolding turns
  reaches_more new ws vs turn r rest is sound read then =
      ap (λ x. run (turn_by (turns next k) left x) (w.token ∷ (tokens_in (ws ++ vs) ++ rest))) is
      ∙ reaches_skip (bind turn (turns next k)) w (ws ++ vs) r rest sound
      (reaches_bind turn (turns next k) ws vs new r rest read then)

  -- a word that shows what is left out
  pub reaches_no : (part : ℕ) (vs : List Word) (r : Out S) (rest : List Token)
      → next left w.token.kind w.token.payload w.token.line ≡ no (shown part) → fault_of w ≡ Some (left_out part)
      → Reaches (turns next (suc k) left) (w ∷ vs) r rest
  unfolding turns
  reaches_no part vs r rest is shows =
      ap (λ x. run (turn_by (turns next k) left x) (w.token ∷ (tokens_in vs ++ rest))) is
      ∙ reaches_shown part w vs r rest shows

-- where no turn begins
pub reaches_end : {S : Type 0} (next : S → Kind → Payload → ℕ → Next S) (k : ℕ) (found : S) (rest : List Token)
    → next found (head rest).kind (head rest).payload (head rest).line ≡ ends
    → Reaches (turns next (suc k) found) [] (Ok (found, rest)) rest
unfolding turns
reaches_end next k found rest is = ap (λ x. run (turn_by (turns next k) found x) rest) is

-- a reader behind a word, unless this shows that nesting passes its limit
pub reaches_unless : {A : Type 0} (w : Word) (ws : List Word) (b : Bool) (reader : Prog A) (r : Out A) (rest : List
    Token)
    → (b ≡ true → fault_of w ≡ Some (left_out NESTING_PAST_LIMIT)) → (b ≡ false → IsSound w)
    → (b ≡ false → Reaches reader ws r rest) → Reaches (unless b (skip reader)) (w ∷ ws) r rest
reaches_unless w ws true reader r rest deep sound read = reaches_shown NESTING_PAST_LIMIT w ws r rest (deep refl)
reaches_unless w ws false reader r rest deep sound read = reaches_skip reader w ws r rest (sound refl) (read refl)

-- a reader that looks at the token that comes next
pub reaches_look : {A : Type 0} (next : Kind → Payload → ℕ → Prog A) (reader : Prog A) (ws : List Word) (r : Out A)
    (rest : List Token)
    → next (head (tokens_in ws ++ rest)).kind (head (tokens_in ws ++ rest)).payload (head (tokens_in ws
    ++ rest)).line ≡ reader
    → Reaches reader ws r rest → Reaches (look next) ws r rest
reaches_look next reader ws r rest is h = ap (λ q. run q (tokens_in ws ++ rest)) is ∙ h
