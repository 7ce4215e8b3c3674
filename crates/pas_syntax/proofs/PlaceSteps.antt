-- How what functions read one after the other goes together, from the token on that comes next.
use Rattle.std.proofs.Common.{◌≡◌, refl, sym, ap, subst, ◌∙◌, ℕ, suc, ◌+◌, ◌≤◌, ◌<◌, arith}
use Rattle.std.proofs.Common.{List, [], ◌∷◌, ◌++◌, length, Result, Ok, Err}
use Rattle.std.specs.Result.{IsErrAnd}
use Rattle.std.proofs.lemmas.List.{length-append}
use Rattle.std.proofs.lemmas.Result.{err_from_is_err_and}
use Rattle.pas_tokens.specs.declared.kinds.Kind.{Kind}
use Rattle.pas_tokens.specs.Cutting.{Payload, nothing}
use Rattle.pas_tokens.specs.Tokens.{Token}
use Rattle.pas_syntax.specs.declared.depth.Depth.{Depth}
use Rattle.pas_syntax.specs.declared.stop.Stop.{Stop}
use Rattle.pas_syntax.specs.declared.stop.Stop.TheVariants as stop
use Rattle.pas_syntax.specs.inner.Prog.{Prog, done, look, skip, bind, run, head}
use Rattle.pas_syntax.specs.inner.Readers.{unless, in_form}
use Rattle.pas_syntax.specs.inner.StatementReaders.{with_line}
use Rattle.pas_syntax.specs.inner.Places.{Place, Fits, IsPlain, Passes, Gives, ParsesIn, Parses}
use Rattle.pas_syntax.specs.inner.Deeps.{IsInForm, IsTooDeep, Makes}
use Rattle.pas_syntax.proofs.ProgLemmas.{IsLocalTo, local}
use Rattle.pas_syntax.proofs.PlaceLemmas.{with_more, goes_as, answers, no_memory, is_left_out, stops, goes_on}
use Rattle.pas_syntax.proofs.PlaceLemmas.{plain_nothing}

-- what a `?` hands on
pub handed : {T : Type 0} (r : Result T Stop) (why : Stop) → IsErrAnd r (λ e. e ≡ why) → r ≡ Err why
handed r why h = let p = err_from_is_err_and r h in p.1 ∙ ap (λ e. Err e) p.2

-- what is read does not grow
pub shorter_by : {A : Type 0} (q : Prog A) (ts : List Token) (a : A) (rest : List Token) → run q ts ≡ Ok (a, rest)
    → length rest ≤ length ts
shorter_by q ts a rest e =
    let h : IsLocalTo q ts (Ok (a, rest)) = subst (λ r. IsLocalTo q ts r) e (local q ts) in
    let count : length (h.0 ++ rest) ≡ length h.0 + length rest = length-append h.0 rest in
    omega (arith, ap length h.1, count)

skip_shorter : {A : Type 0} (q : Prog A) (ts : List Token) (a : A) (rest : List Token)
    → run (skip q) ts ≡ Ok (a, rest) → length rest < length ts
skip_shorter q [] a rest e = cc
skip_shorter q (t ∷ ts) a rest e = omega (arith, shorter_by q ts a rest e)

-- what is read from a place on, where the text has these spellings
abbrev pub From : {X A : Type 0} → List ℕ → ℕ → (ℕ → Prog A) → (X → A) → Place → Result X Stop → Place → Type 0
From spellings least reader view old result new =
    old.spellings ≡ spellings → ParsesIn least reader (λ any. view) old result new

-- the same, with a turn more than there are tokens
abbrev pub Goes : {X A : Type 0} → List ℕ → (ℕ → Prog A) → (X → A) → Place → Result X Stop → Place → Type 0
Goes spellings reader view old result new = From spellings (suc (length old.tokens)) reader view old result new

pub from_here : {X A : Type 0} {view : List ℕ → X → A} {least : ℕ} {reader : ℕ → Prog A} {old new : Place}
    {result : Result X Stop} → From old.spellings least reader (view old.spellings) old result new
    → ParsesIn least reader view old result new
from_here read =
    let h = read refl in
    record { gives = h.gives; shorter = h.shorter; taken = h.taken; spellings = h.spellings }

-- as a function reads
pub as_read : {X A : Type 0} {view : List ℕ → X → A} {spellings : List ℕ} {least : ℕ} {reader : ℕ → Prog A}
    {old new : Place} {result : Result X Stop} → ParsesIn least reader view old result new
    → From spellings least reader (view spellings) old result new
as_read {view = view} {reader = reader} {old = old} {new = new} {result = result} h e =
    record {
      gives = λ most enough. subst (λ t. Gives (view t) result new.tokens (run (reader most) old.tokens)) e
          (h.gives most enough);
      shorter = h.shorter;
      taken = h.taken;
      spellings = h.spellings;
    }

-- one after the other
module _ {A B X Y : Type 0} {first : List ℕ → X → A} {view : Y → B} {spellings : List ℕ} where
  pub and_then : {p : ℕ → Prog A} (g : ℕ → A → Prog B) {old middle new : Place} {x : X} {result : Result Y Stop}
      → Parses p first old (Ok x) middle → Goes spellings (λ m. g m (first spellings x)) view middle result new
      → Goes spellings (λ m. bind (p m) (g m)) view old result new
  and_then g {middle = middle} {new = new} {x = x} {result = result} h rest e =
      goes_on g h (with_more (omega (arith, h.shorter))
      (subst (λ t. ParsesIn (suc (length middle.tokens)) (λ m. g m (first t x)) (λ any. view) middle result new) (sym e)
      (rest (h.spellings ∙ e))))

  -- the same, with so many turns
  pub then_in : {p : ℕ → Prog A} (g : ℕ → A → Prog B) {least below : ℕ} {old middle new : Place} {x : X}
      {result : Result Y Stop} → below ≤ least → ParsesIn least p first old (Ok x) middle
      → From spellings below (λ m. g m (first spellings x)) view middle result new
      → From spellings least (λ m. bind (p m) (g m)) view old result new
  then_in g {least = least} {below = below} {middle = middle} {new = new} {x = x} {result = result} within h rest e =
      goes_on g h (with_more within
      (subst (λ t. ParsesIn below (λ m. g m (first t x)) (λ any. view) middle result new) (sym e)
      (rest (h.spellings ∙ e))))

  -- the same behind the first token of a form
  pub behind_line : {q : ℕ → ℕ → Prog A} (g : ℕ → A → Prog B) {old middle new : Place} {x : X} {result : Result Y Stop}
      → ParsesIn (length old.tokens) (λ m. with_line (λ line. skip (q m line))) first old (Ok x) middle
      → Goes spellings (λ m. g m (first spellings x)) view middle result new
      → From spellings (length old.tokens) (λ m. with_line (λ line. skip (bind (q m line) (g m)))) view old result new
  behind_line {q = q} g {old = old} {middle = middle} {new = new} {x = x} {result = result} h rest e =
      let less : length middle.tokens < length old.tokens = skip_shorter (q (length old.tokens) (head old.tokens).line)
      old.tokens (first old.spellings x) middle.tokens (h.gives (length old.tokens) (omega arith)) in
      goes_on g h (with_more (omega (arith, less))
      (subst (λ t. ParsesIn (suc (length middle.tokens)) (λ m. g m (first t x)) (λ any. view) middle result new) (sym e)
      (rest (h.spellings ∙ e))))

  -- what is read first stops
  pub stopped : {p : ℕ → Prog A} (g : ℕ → A → Prog B) {least : ℕ} {old new : Place} {why : Stop}
      (result : Result Y Stop) → ParsesIn least p first old (Err why) new → IsErrAnd result (λ e. e ≡ why)
      → From spellings least (λ m. bind (p m) (g m)) view old result new
  stopped g {why = why} result h hands e = rw (handed result why hands) (stops g h)

module _ {A X : Type 0} {view : X → A} {spellings : List ℕ} where
  -- behind a token that is passed
  pub passed : (q : ℕ → ℕ → Prog A) {old middle new : Place} {line : ℕ} {result : Result X Stop}
      → Passes old line middle → Goes spellings (λ m. q m line) view middle result new
      → From spellings (length old.tokens) (λ m. with_line (λ line. skip (q m line))) view old result new
  passed q {old = old} {middle = middle} {new = new} {line = line} {result = result} h go_on e =
      let rest = go_on (h.spellings ∙ e) in
      let count : length old.tokens ≡ suc (length middle.tokens) = ap length h.tokens in
      record {
        gives = λ most enough. subst (Gives view result new.tokens)
            (sym (ap (run (with_line (λ line. skip (q most line)))) h.tokens
            ∙ ap (λ line. run (q most line) middle.tokens) (sym h.same)))
            (rest.gives most (omega (arith, enough, count)));
        shorter = omega (arith, count, rest.shorter);
        taken = rest.taken ∙ omega (arith, count, h.taken);
        spellings = rest.spellings ∙ h.spellings;
      }

  -- in a form
  pub formed : (q : ℕ → ℕ → ℕ → Prog A) {least : ℕ} {depth inner : Depth} {old new : Place} {result : Result X Stop}
      → IsInForm depth inner
      → From spellings least (λ m. with_line (λ line. skip (q m inner.forms line))) view old result new
      → From spellings least (λ m. with_line (λ line. in_form (depth.forms + 1) (skip (q m (depth.forms + 1) line))))
      view
      old result new
  formed q {least = least} {depth = depth} {inner = inner} {old = old} {new = new} {result = result} h read e =
      let forms : inner.forms ≡ depth.forms + 1 = ap (λ d. d.forms) h.inner_is in
      let n = depth.forms + 1 in
      goes_as (λ most. ap (λ b. run (unless b (skip (q most n (head old.tokens).line))) old.tokens) h.fits)
      (subst (λ n. ParsesIn least (λ m. with_line (λ line. skip (q m n line))) (λ any. view) old result new) forms
      (read e))

  pub too_deep : (q : ℕ → ℕ → Prog A) {least n : ℕ} {old : Place} {why : Stop} (result : Result X Stop)
      → IsTooDeep n why → IsErrAnd result (λ e. e ≡ why)
      → From spellings least (λ m. with_line (λ line. in_form n (skip (q m line)))) view old result old
  too_deep q {old = old} {why = why} result h hands e =
      rw (handed result why hands, h.why_is)
      (goes_as (λ most. ap (λ b. run (unless b (skip (q most (head old.tokens).line))) old.tokens) h.deep) is_left_out)

  -- the end of what is read, and what is made there
  pub read : {a : A} {least : ℕ} {old : Place} {x : X} → a ≡ view x
      → From spellings least (λ m. done a) view old (Ok x) old
  read is e = answers is

  pub no_room : {p : ℕ → Prog A} {least : ℕ} {old : Place} (result : Result X Stop)
      → IsErrAnd result (λ e. e ≡ stop.OutOfMemory) → From spellings least p view old result old
  no_room result hands e = rw (handed result stop.OutOfMemory hands) no_memory

-- what is made at the end
pub makes : {A X : Type 0} (view : List ℕ → X → A) {spellings : List ℕ} {a : A} {least : ℕ} {old : Place}
    (make : List ℕ → A) (result : Result X Stop) → Makes view result make → a ≡ make spellings
    → From spellings least (λ m. done a) (view spellings) old result old
makes view {spellings = spellings} make (Ok found) h is e = answers (is ∙ h spellings)
makes view make (Err why) h is e = rw h no_memory

-- the token that comes next, of a kind that says nothing more
module _ {A X : Type 0} {view : List ℕ → X → A} where
  pub looks_at : (f : ℕ → Kind → Payload → ℕ → Prog A) (kind : Kind) {least : ℕ} {old new : Place}
      {result : Result X Stop} → IsPlain kind → (head old.tokens).kind ≡ kind
      → Fits (head old.tokens).kind (head old.tokens).payload
      → ParsesIn least (λ m. with_line (λ line. f m kind nothing line)) view old result new
      → ParsesIn least (λ m. look (f m)) view old result new
  looks_at f kind {old = old} plain is fits read =
      let t = head old.tokens in
      let said : t.payload ≡ nothing =
      plain_nothing kind t.payload plain (subst (λ kind. Fits kind t.payload) is fits) in
      goes_as (λ most. ap (λ kind. run (f most kind t.payload t.line) old.tokens) is
      ∙ ap (λ payload. run (f most kind payload t.line) old.tokens) said) read

-- the same of what is read from a place on
module _ {A X : Type 0} {view : X → A} {spellings : List ℕ} where
  pub comes : (f : ℕ → Kind → Payload → ℕ → Prog A) (kind : Kind) {least : ℕ} {old new : Place} {result : Result X Stop}
      → IsPlain kind → kind ≡ (head old.tokens).kind → Fits (head old.tokens).kind (head old.tokens).payload
      → From spellings least (λ m. with_line (λ line. f m kind nothing line)) view old result new
      → From spellings least (λ m. look (f m)) view old result new
  comes f kind plain is fits read e = looks_at f kind plain (sym is) fits (read e)

  pub goes_from : {p q : ℕ → Prog A} {least : ℕ} {old new : Place} {result : Result X Stop}
      → ((most : ℕ) → run (p most) old.tokens ≡ run (q most) old.tokens)
      → From spellings least q view old result new → From spellings least p view old result new
  goes_from same read e = goes_as same (read e)

  pub more_from : {p : ℕ → Prog A} {least more : ℕ} {old new : Place} {result : Result X Stop} → least ≤ more
      → From spellings least p view old result new → From spellings more p view old result new
  more_from within read e = with_more within (read e)
