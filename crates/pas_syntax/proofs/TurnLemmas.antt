-- The laws of a loop whose turns each begin with a token: what it reads, and what it reaches.
use Rattle.std.proofs.Common.{◌≡◌, subst, ℕ, zero, suc, List, [], ◌∷◌, ◌++◌}
use Rattle.std.proofs.Common.{append_assoc, Some}
use Rattle.std.proofs.lemmas.List.{append-nil}
use Rattle.pas_tokens.specs.declared.kinds.Kind.{Kind}
use Rattle.pas_tokens.specs.declared.kinds.Kind.TheVariants as k
use Rattle.pas_tokens.specs.Cutting.{Payload}
use Rattle.pas_tokens.specs.Tokens.{Token}
use Rattle.pas_syntax.specs.Words.{Word}
use Rattle.pas_syntax.specs.Parse.{fault_of, left_out, IsSound}
use Rattle.pas_syntax.specs.inner.Prog.{misplaced, shown, spent, Prog, skip, bind}
use Rattle.pas_syntax.specs.inner.Prog.{Next, more, ends, no, turn_by, turns}
use Rattle.pas_syntax.proofs.Good.{a_token, ReadsAt, Reads, reads_look, reads_done, reads_shown, reads_skip}
use Rattle.pas_syntax.proofs.Good.{reads_bind}

-- whatever stands behind
abbrev pub Any : {A : Type 0} → A → Token → Type 0
Any a t = Unit {0}

-- R: what is found is spelled so
module _ {S : Type 0} (R : S → List Word → Type 0) where
  -- a token that begins a turn is a sound word, behind which the turn is read; one that shows a fault begins a turn too
  abbrev pub Begins : List Word → Token → Next S → Type 0
  Begins us t (more q) =
      (w : Word) × (w.token ≡ t) × (k.EndOfText ≡ w.token.kind → ⊥) × IsSound w
      × Reads (λ s vs. R s (us ++ w ∷ vs)) Any q × ((s : S) × (vs : List Word) × R s (us ++ w ∷ vs))
  Begins us t ends = Unit {0}
  Begins us t (no (shown part)) =
      (s : S) × (w : Word) × (vs : List Word) × R s (us ++ w ∷ vs) × (w.token ≡ t) × (fault_of w ≡ Some (left_out part))
  Begins us t (no why) = ⊥

  module _ (next : S → Kind → Payload → ℕ → Next S)
      (begins : (s : S) (us : List Word) → R s us → (kind : Kind) (payload : Payload) (line : ℕ)
      → Begins us (a_token kind payload line) (next s kind payload line)) where
    reads_turn_by : (again : S → Prog S) (found : S) (us : List Word) (t : Token) (n : Next S) → R found us
        → Begins us t n
        → ((s : S) (vs : List Word) → R s (us ++ vs) → Reads (λ x ws. R x ((us ++ vs) ++ ws)) Any (again s))
        → ReadsAt t (λ x ws. R x (us ++ ws)) Any (turn_by again found n)
    reads_turn_by again found us t (more q) r b h =
        subst (λ t. ReadsAt t (λ x ws. R x (us ++ ws)) Any (skip (bind q again))) b.1
        (reads_skip (λ x ws. R x (us ++ ws)) Any b.0 (bind q again) b.2 b.3
        (reads_bind (λ s vs. R s (us ++ b.0 ∷ vs)) Any (λ x ws. R x (us ++ b.0 ∷ ws)) Any again q b.4
        (λ s vs t is _ ts _. subst (λ P. Reads P Any (again s)) (same us b.0 vs) (h s (b.0 ∷ vs) is) ts)
        (λ s vs is. (s, [], rw (append-nil vs) is))))
      where
        same : (us : List Word) (w : Word) (vs : List Word)
            → ◌≡◌ {A = S → List Word → Type 0} (λ x ws. R x ((us ++ w ∷ vs) ++ ws)) (λ x ws. R x (us ++ w ∷ (vs ++ ws)))
        same us w vs = λ i x ws. R x (append_assoc us (w ∷ vs) ws i)
    reads_turn_by again found us t ends r b h =
        reads_done (λ x ws. R x (us ++ ws)) Any t found (rw (append-nil us) r) tt
    reads_turn_by again found us t (no (shown part)) r b h =
        reads_shown (λ x ws. R x (us ++ ws)) Any t part b.0 b.1 b.2 b.3 b.4 b.5
    reads_turn_by again found us t (no misplaced) r b h = absurd b
    reads_turn_by again found us t (no spent) r b h = absurd b

    pub reads_turns : (most : ℕ) (found : S) (us : List Word) → R found us
        → Reads (λ x ws. R x (us ++ ws)) Any (turns next most found)
    unfolding turns
    reads_turns zero found us r = λ ts. tt
    reads_turns (suc most) found us r =
        reads_look (λ x ws. R x (us ++ ws)) Any
        (λ kind payload line. turn_by (turns next most) found (next found kind payload line))
        (λ kind payload line. reads_turn_by (turns next most) found us (a_token kind payload line)
        (next found kind payload line) r (begins found us r kind payload line)
        (λ s vs is. reads_turns most s (us ++ vs) is))
