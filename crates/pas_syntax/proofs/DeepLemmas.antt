-- What nesting within its limit, or past it, does to what is read.
use Rattle.std.proofs.Common.{◌≡◌, sym, ap, subst, ◌∙◌, ℕ, ◌+◌, ◌-◌, ◌≤◌, max, arith}
use Rattle.std.proofs.Common.{true, false, List, Result, Ok, Err}
use Rattle.std.specs.Prelude.{nat_lt}
use Rattle.pas_syntax.specs.declared.limits.TheConstants.{NESTING_LIMIT}
use Rattle.pas_syntax.specs.declared.depth.Depth.{Depth}
use Rattle.pas_syntax.specs.declared.stop.Stop.{Stop}
use Rattle.pas_syntax.specs.inner.Prog.{Prog, done, run}
use Rattle.pas_syntax.specs.inner.Places.{Place, ParsesIn}
use Rattle.pas_syntax.specs.declared.depth.Deep.{Deep}
use Rattle.std.specs.Prelude.{IfOk}
use Rattle.pas_syntax.specs.inner.Deeps.{IsTooDeep, HasDepth, Makes, of_deep}
use Rattle.pas_syntax.specs.inner.Readers.{unless}
use Rattle.pas_syntax.proofs.PlaceLemmas.{goes_as, is_left_out, answers, no_memory}
use Rattle.pas_syntax.proofs.WordLemmas.{fits_of}

module _ {A X : Type 0} {view : List ℕ → X → A} where
  pub too_deep : (q : ℕ → Prog A) {least count : ℕ} {old : Place} {why : Stop} (real : ℕ) → IsTooDeep count why
      → count ≡ real → ParsesIn least (λ most. unless (nat_lt NESTING_LIMIT real) (q most)) view old (Err why) old
  too_deep q {least = least} {old = old} real h is =
      let deep : nat_lt NESTING_LIMIT real ≡ true = ap (nat_lt NESTING_LIMIT) (sym is) ∙ h.deep in
      subst (λ why. ParsesIn least (λ most. unless (nat_lt NESTING_LIMIT real) (q most)) view old (Err why) old)
      (sym h.why_is)
      (goes_as (λ most. ap (λ b. run (unless b (q most)) old.tokens) deep) is_left_out)

  pub within : (q : ℕ → Prog A) {least count : ℕ} {old new : Place} {result : Result X Stop} (real : ℕ)
      → nat_lt NESTING_LIMIT count ≡ false → count ≡ real → ParsesIn least q view old result new
      → ParsesIn least (λ most. unless (nat_lt NESTING_LIMIT real) (q most)) view old result new
  within q {old = old} real fits is h =
      goes_as (λ most. ap (λ b. run (unless b (q most)) old.tokens) (ap (nat_lt NESTING_LIMIT) (sym is) ∙ fits)) h

  pub made : (make : List ℕ → A) {least : ℕ} {old : Place} {result : Result X Stop} → Makes view result make
      → ParsesIn least (λ most. done (make old.spellings)) view old result old
  made make {old = old} {result = Ok found} h = answers (h old.spellings)
  made make {least = least} {old = old} {result = Err why} h =
      subst (λ why. ParsesIn least (λ most. done (make old.spellings)) view old (Err why) old) (sym h) no_memory

pub one_more : {a left right : ℕ} {l r : ℕ} → HasDepth a left l → HasDepth (a + 1) right r
    → nat_lt NESTING_LIMIT (a + 1 + left) ≡ false → HasDepth a (max left right + 1) (max l r + 1)
one_more {a = a} {left = left} x y few = record {
  same = ap (λ n. n + 1) (λ i. max (x.same i) (y.same i));
  few = omega (arith, x.few, y.few, fits_of (a + 1 + left) few);
}

-- what is made, where the reader tells it otherwise
pub made_as : {A X : Type 0} {view : List ℕ → X → A} (make : List ℕ → A) (a : A) {least : ℕ} {old : Place}
    {result : Result X Stop} → Makes view result make → a ≡ make old.spellings
    → ParsesIn least (λ most. done a) view old result old
made_as {view = view} make a {least = least} {old = old} {result = result} h same =
    subst (λ a. ParsesIn least (λ most. done a) view old result old) (sym same) (made make h)

-- at the depth that a form or an operand has
pub at_depth : {A X : Type 0} {view : List ℕ → X → A} (p : ℕ → ℕ → ℕ → Prog A) {inner deeper : Depth} {least : ℕ}
    {old new : Place} {result : Result X Stop} → inner ≡ deeper
    → ParsesIn least (λ most. p most inner.forms inner.operators) view old result new
    → ParsesIn least (λ most. p most deeper.forms deeper.operators) view old result new
at_depth {view = view} p {least = least} {old = old} {new = new} {result = result} is h =
    subst (λ d. ParsesIn least (λ most. p most d.forms d.operators) view old result new) is h

pub deeper : {o a d : ℕ} (real : List ℕ → ℕ) {s t : List ℕ} → o ≡ a → s ≡ t → HasDepth o d (real s)
    → HasDepth a d (real t)
deeper {a = a} {d = d} real {s = s} is same h =
    subst (λ s. HasDepth a d (real s)) same (subst (λ o. HasDepth o d (real s)) is h)

pub made_depth : {A X : Type 0} (view : List ℕ → X → A) (make : List ℕ → A) (real : A → ℕ) (a d : ℕ) (s : List ℕ)
    (result : Result (Deep X) Stop) → Makes (of_deep view) result make → IfOk result (λ found. found.depth ≡ d)
    → HasDepth a d (real (make s)) → IfOk result (λ found. HasDepth a found.depth (real (view s found.tree)))
made_depth view make real a d s (Ok found) h is depth =
    record {
      same = is ∙ depth.same ∙ ap real (h s);
      few = subst (λ n. n ≤ NESTING_LIMIT - a) (sym is) depth.few;
    }
made_depth view make real a d s (Err why) h is depth = tt

pub one_sign : {a d r : ℕ} → HasDepth (a + 1) d r → nat_lt NESTING_LIMIT (a + 1 + 0) ≡ false
    → HasDepth a (d + 1) (r + 1)
one_sign {a = a} h few = record {
  same = ap (λ n. n + 1) h.same;
  few = omega (arith, h.few, fits_of (a + 1 + 0) few);
}

pub no_depth : {a d : ℕ} → d ≡ 0 → HasDepth a d 0
no_depth is = record { same = is; few = omega (arith, is) }

pub most_deep : {a d e r q : ℕ} → HasDepth a d r → HasDepth a e q → HasDepth a (max d e) (max r q)
most_deep h k = record { same = λ i. max (h.same i) (k.same i); few = omega (arith, h.few, k.few) }

pub swap_deep : {a m r : ℕ} (d e : ℕ) → m ≡ max e d → HasDepth a (max d e) r → HasDepth a m r
swap_deep d e is h = record { same = is ∙ omega (arith, h.same); few = omega (arith, is, h.few) }

pub more_selected : {a d e m r q : ℕ} → HasDepth a d r → e ≤ NESTING_LIMIT - a → m ≡ max e d → q ≡ max r e
    → HasDepth a m q
more_selected h few is real = record { same = omega (arith, is, real, h.same); few = omega (arith, is, h.few, few) }
