-- What is answered at the words of a tree: the tree, or the first word with a fault.
use Rattle.std.proofs.Common.{◌≡◌, refl, sym, ap, ℕ, List, [], ◌∷◌, ◌++◌, Ok, Err}
use Rattle.std.proofs.Common.{Option, Some, None}
use Rattle.pas_tokens.specs.Tokens.{Token}
use Rattle.pas_tokens.specs.Cutting.{Wrong}
use Rattle.pas_syntax.specs.Words.{Word}
use Rattle.pas_syntax.specs.Parse.{fault_of, left_out, IsSound, tokens_in}
use Rattle.pas_syntax.specs.inner.Prog.{shown, Prog, fail, skip, bind, Out, run, and_then}
use Rattle.pas_syntax.proofs.ProgLemmas.{run_bind}

abbrev pub judged_by : {A : Type 0} → Option Wrong → Word → List Word → Out A → List Token → Out A
judged_by None w ws r rest = r
judged_by (Some refusal) w ws r rest = Err (shown refusal.which, tokens_in (w ∷ ws) ++ rest)

abbrev pub judged : {A : Type 0} → List Word → Out A → List Token → Out A
judged [] r rest = r
judged (w ∷ ws) r rest = judged_by (fault_of w) w ws (judged ws r rest) rest

-- the reader answers r at the rest, if no word has a fault
abbrev pub Reaches : {A : Type 0} → Prog A → List Word → Out A → List Token → Type 0
Reaches q ws r rest = run q (tokens_in ws ++ rest) ≡ judged ws r rest

pub tokens_append : (us vs : List Word) (rest : List Token)
    → tokens_in (us ++ vs) ++ rest ≡ tokens_in us ++ (tokens_in vs ++ rest)
tokens_append [] vs rest = refl
tokens_append (u ∷ us) vs rest = ap (λ ts. u.token ∷ ts) (tokens_append us vs rest)

judged_by_append : {A : Type 0} (o : Option Wrong) (u : Word) (us vs : List Word) (x y : Out A) (rest : List Token)
    → x ≡ y
    → judged_by o u (us ++ vs) x rest ≡ judged_by o u us y (tokens_in vs ++ rest)
judged_by_append None u us vs x y rest e = e
judged_by_append (Some refusal) u us vs x y rest e =
    ap (λ ts. Err (shown refusal.which, u.token ∷ ts)) (tokens_append us vs rest)

pub judged_append : {A : Type 0} (us vs : List Word) (r : Out A) (rest : List Token)
    → judged (us ++ vs) r rest ≡ judged us (judged vs r rest) (tokens_in vs ++ rest)
judged_append [] vs r rest = refl
judged_append (u ∷ us) vs r rest =
    judged_by_append (fault_of u) u us vs (judged (us ++ vs) r rest) (judged us (judged vs r rest) (tokens_in vs
    ++ rest))
    rest (judged_append us vs r rest)

judged_by_then : {A B : Type 0} (o : Option Wrong) (u : Word) (us : List Word) (x : Out A) (y : Out B) (g : A → Prog B)
    (rest : List Token) → and_then x g ≡ y → and_then (judged_by o u us x rest) g ≡ judged_by o u us y rest
judged_by_then None u us x y g rest e = e
judged_by_then (Some refusal) u us x y g rest e = refl

pub judged_then : {A B : Type 0} (us : List Word) (a : A) (g : A → Prog B) (rest : List Token)
    → and_then (judged us (Ok (a, rest)) rest) g ≡ judged us (run (g a) rest) rest
judged_then [] a g rest = refl
judged_then (u ∷ us) a g rest =
    judged_by_then (fault_of u) u us (judged us (Ok (a, rest)) rest) (judged us (run (g a) rest) rest) g rest
    (judged_then us a g rest)

module _ {A B : Type 0} where
  -- one after the other
  pub reaches_bind : (q : Prog A) (g : A → Prog B) (us vs : List Word) (a : A) (r : Out B) (rest : List Token)
      → Reaches q us (Ok (a, tokens_in vs ++ rest)) (tokens_in vs ++ rest) → Reaches (g a) vs r rest
      → Reaches (bind q g) (us ++ vs) r rest
  reaches_bind q g us vs a r rest h k =
      rw (
        tokens_append us vs rest,
        run_bind q g (tokens_in us ++ (tokens_in vs ++ rest)),
        h,
        judged_then us a g (tokens_in vs ++ rest),
        k,
      )
      (sym (judged_append us vs r rest))

  -- with nothing behind
  pub reaches_last : (q : Prog A) (g : A → Prog B) (us : List Word) (a : A) (rest : List Token)
      → Reaches q us (Ok (a, rest)) rest → Reaches (bind q g) us (run (g a) rest) rest
  reaches_last q g us a rest h = rw (run_bind q g (tokens_in us ++ rest), h) (judged_then us a g rest)

module _ {A : Type 0} where
  pub reaches_skip : (q : Prog A) (w : Word) (ws : List Word) (r : Out A) (rest : List Token) → IsSound w
      → Reaches q ws r rest → Reaches (skip q) (w ∷ ws) r rest
  reaches_skip q w ws r rest none h = rw none h

  pub reaches_shown : (part : ℕ) (w : Word) (ws : List Word) (r : Out A) (rest : List Token)
      → fault_of w ≡ Some (left_out part) → Reaches (fail (shown part)) (w ∷ ws) r rest
  reaches_shown part w ws r rest some = rw some refl
