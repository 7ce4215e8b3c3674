-- How what functions read goes together, and by which reader of the definition.
use denote.Enum.Bare.{true_same}
use Rattle.pas_tokens.specs.contracts.kinds.Kind.{the_type}
use Rattle.std.proofs.Common.{true, false, ◌≡◌, ◌≢◌, refl, sym, ap, subst, ◌∙◌, ℕ, suc, ◌+◌, ◌≤◌, arith}
use Rattle.std.proofs.Common.{List, [], ◌∷◌, ◌++◌}
use Rattle.std.proofs.Common.{◌-◌, ◌<◌, length, drop, Result, Ok, Err, Some, None}
use Rattle.std.specs.Prelude.{slice_get}
use Rattle.std.proofs.lemmas.List.{length-append, length-drop, drop-drop}
use Rattle.std.proofs.Math.Seq.{drop-append_seam}
use Rattle.pas_tokens.specs.declared.kinds.Kind.{Kind}
use Rattle.pas_tokens.specs.declared.kinds.Kind.TheVariants as k
use Rattle.pas_tokens.specs.Cutting.{Payload, nothing, value, spelling}
use Rattle.pas_tokens.specs.Tokens.{Token, after_first}
use Rattle.pas_syntax.specs.declared.stop.Stop.{Stop}
use Rattle.pas_syntax.specs.declared.stop.Stop.TheVariants as stop
use Rattle.pas_syntax.specs.inner.Prog.{Prog, done, fail, look, skip, bind, run, head, and_then, misplaced, shown}
use Rattle.pas_syntax.specs.inner.Places.{Place, Fits, IsPlain, AreTokens, spelled_by, spelled_of, Passes, StopsBy}
use Rattle.pas_syntax.specs.inner.Places.{Gives, ParsesIn, Parses, same}
use Rattle.pas_syntax.specs.inner.Marks.{same_kind, mark_if, mark_at, mark, maybe_if, maybe_at, maybe_mark}
use Rattle.pas_syntax.specs.declared.tree.Ident.{Ident as CodeIdent}
use Rattle.pas_syntax.specs.Tree.{Ident}
use Rattle.pas_syntax.specs.Views.{ident_in}
use Rattle.pas_syntax.specs.inner.Readers.{ident_at, ident}
use Rattle.pas_syntax.proofs.ProgLemmas.{run_bind, rest_of}

-- tokens
pub head_fits : (ts : List Token) → AreTokens ts → Fits (head ts).kind (head ts).payload
head_fits [] h = absurd h
head_fits (t ∷ []) h = h.1
head_fits (t ∷ (u ∷ ts)) h = h.1

-- what stands behind a token that is not the end
pub record Behind (ts : List Token) : Type 0 where
  pub split : ts ≡ head ts ∷ after_first ts
  pub tokens : AreTokens (after_first ts)

pub behind_head : (ts : List Token) → AreTokens ts → (head ts).kind ≢ k.EndOfText → Behind ts
behind_head [] h not = absurd h
behind_head (t ∷ []) h not = absurd (not h.0)
behind_head (t ∷ (u ∷ ts)) h not = record { split = refl; tokens = h.2 }

pub plain_nothing : (kind : Kind) (payload : Payload) → IsPlain kind → Fits kind payload → payload ≡ nothing
plain_nothing k.Name payload p f = absurd p
plain_nothing k.Number payload p f = absurd p
plain_nothing k.Text payload p f = absurd p
plain_nothing kind nothing p f = refl
plain_nothing kind (value number) p f = absurd f
plain_nothing kind (spelling bytes) p f = absurd f

pub plain_not_end : (kind other : Kind) → kind ≡ other → (kind ≡ k.EndOfText → ⊥) → other ≢ k.EndOfText
plain_not_end kind other is not e = not (is ∙ e)

pub first_is : (ts : List Token) (t : Token) → slice_get ts 0 ≡ Some t → head ts ≡ t
first_is [] t e = cc
first_is (u ∷ ts) t e = cc

-- the spellings behind a token
pub spelled_behind : (spellings : List ℕ) (before : ℕ) (bytes rest : List ℕ) → before ≤ length spellings
    → drop before spellings ≡ bytes ++ rest
    → (drop (before + length bytes) spellings ≡ rest) × (before + length bytes ≤ length spellings)
spelled_behind spellings before bytes rest within is =
    let count : length spellings - before ≡ length bytes + length rest = sym (length-drop before spellings)
    ∙ ap length is ∙ length-append bytes rest in (
      sym (drop-drop (length bytes) before spellings) ∙ ap (drop (length bytes)) is
          ∙ drop-append_seam bytes rest,
      omega (arith, count),
    )

pub pass_spelled : (spellings : List ℕ) (before count : ℕ) (ts : List Token) (t : Token) → before ≤ length spellings
    → drop before spellings ≡ spelled_of ts → ts ≡ t ∷ after_first ts → count ≡ length (spelled_by t.payload)
    → (drop (before + count) spellings ≡ spelled_of (after_first ts)) × (before + count ≤ length spellings)
pass_spelled spellings before count ts t within is split size =
    rw size (spelled_behind spellings before (spelled_by t.payload) (spelled_of (after_first ts)) within
    (is ∙ ap spelled_of split))

-- a reader that is answered so
module _ {A X : Type 0} {view : List ℕ → X → A} where
  -- more turns
  pub with_more : {p : ℕ → Prog A} {least more : ℕ} {old new : Place} {result : Result X Stop} → least ≤ more
      → ParsesIn least p view old result new → ParsesIn more p view old result new
  with_more {least = least} within h =
      record {
        gives = λ most enough. h.gives most (omega (arith, within, enough));
        shorter = h.shorter;
        taken = h.taken;
        spellings = h.spellings;
      }

  -- the same reader, as it goes here
  pub goes_as : {p q : ℕ → Prog A} {least : ℕ} {old new : Place} {result : Result X Stop}
      → ((most : ℕ) → run (p most) old.tokens ≡ run (q most) old.tokens)
      → ParsesIn least q view old result new → ParsesIn least p view old result new
  goes_as {old = old} {new = new} {result = result} same h =
      record {
        gives = λ most enough. subst (Gives (view old.spellings) result new.tokens) (sym (same most))
            (h.gives most enough);
        shorter = h.shorter;
        taken = h.taken;
        spellings = h.spellings;
      }

  -- the end of what is read
  pub answers : {a : A} {least : ℕ} {old : Place} {x : X} → a ≡ view old.spellings x
      → ParsesIn least (λ most. done a) view old (Ok x) old
  answers {old = old} same =
      record {
        gives = λ most enough. ap (λ a. Ok (a, old.tokens)) same;
        shorter = omega arith;
        taken = refl;
        spellings = refl;
      }

  -- no memory
  pub no_memory : {p : ℕ → Prog A} {least : ℕ} {old : Place} → ParsesIn least p view old (Err stop.OutOfMemory) old
  no_memory = record { gives = λ most enough. tt; shorter = omega arith; taken = refl; spellings = refl }

  pub is_misplaced : {least : ℕ} {old : Place}
      → ParsesIn least (λ most. fail misplaced) view old (Err stop.Misplaced) old
  is_misplaced = record { gives = λ most enough. refl; shorter = omega arith; taken = refl; spellings = refl }

  pub is_left_out : {part : ℕ} {least : ℕ} {old : Place}
      → ParsesIn least (λ most. fail (shown part)) view old (Err (stop.LeftOut part)) old
  is_left_out = record { gives = λ most enough. refl; shorter = omega arith; taken = refl; spellings = refl }

-- what is read first stops
stop_first : {A B : Type 0} (p : Prog A) (g : A → Prog B) (ts rest : List Token) (why : Stop)
    → StopsBy why rest (run p ts) → StopsBy why rest (run (bind p g) ts)
stop_first p g ts rest stop.OutOfMemory h = tt
stop_first p g ts rest stop.Misplaced h = rw (run_bind p g ts, h) refl
stop_first p g ts rest (stop.LeftOut part) h = rw (run_bind p g ts, h) refl

module _ {A B X Y : Type 0} {first : List ℕ → X → A} {view : List ℕ → Y → B} where
  pub stops : {p : ℕ → Prog A} (g : ℕ → A → Prog B) {least : ℕ} {old new : Place} {why : Stop}
      → ParsesIn least p first old (Err why) new
      → ParsesIn least (λ most. bind (p most) (g most)) view old (Err why) new
  stops {p = p} g {old = old} {new = new} {why = why} h =
      record {
        gives = λ most enough. stop_first (p most) (g most) old.tokens new.tokens why (h.gives most enough);
        shorter = h.shorter;
        taken = h.taken;
        spellings = h.spellings;
      }

  -- and then the rest
  pub goes_on : {p : ℕ → Prog A} (g : ℕ → A → Prog B) {least : ℕ} {old middle new : Place} {x : X}
      {result : Result Y Stop} → ParsesIn least p first old (Ok x) middle
      → ParsesIn least (λ most. g most (first old.spellings x)) view middle result new
      → ParsesIn least (λ most. bind (p most) (g most)) view old result new
  goes_on {p = p} g {least = least} {old = old} {middle = middle} {new = new} {x = x} {result = result} h k =
      record {
        gives = λ most enough.
            subst (Gives (view old.spellings) result new.tokens)
            (sym (run_bind (p most) (g most) old.tokens ∙ ap (λ r. and_then r (g most)) (h.gives most enough)))
            (subst (λ s. Gives (view s) result new.tokens (run (g most (first old.spellings x)) middle.tokens))
            h.spellings (k.gives most enough));
        shorter = omega (arith, h.shorter, k.shorter);
        taken = k.taken ∙ h.taken;
        spellings = k.spellings ∙ h.spellings;
      }

token_is : (t : Token) (kind : Kind) (line : ℕ) → t.kind ≡ kind → t.payload ≡ nothing → t.line ≡ line
    → t ≡ record { kind = kind; payload = nothing; line = line }
token_is t kind line a b c = λ i. record { kind = a i; payload = b i; line = c i }

module _ {A X : Type 0} {view : List ℕ → X → A} where
  -- a token that says nothing beside its kind is passed
  pub passes : {q : ℕ → Prog A} {least : ℕ} {old middle new : Place} {line : ℕ} {result : Result X Stop}
      (f : ℕ → Kind → Payload → ℕ → Prog A) (kind : Kind) → IsPlain kind → kind ≡ (head old.tokens).kind
      → Passes old line middle → length old.tokens ≤ least
      → ((most : ℕ) → f most kind nothing line ≡ skip (q most))
      → Parses q view middle result new
      → ParsesIn least (λ most. look (f most)) view old result new
  passes {q = q} {least = least} {old = old} {middle = middle} {new = new} {line = line} {result = result} f kind plain
      is h enough goes rest =
      let token : h.token ≡ head old.tokens = ap head (sym h.tokens) in
      let same : h.token.kind ≡ kind = ap (λ t. t.kind) token ∙ sym is in
      let said : h.token.payload ≡ nothing = plain_nothing kind h.token.payload plain
      (subst (λ kind. Fits kind h.token.payload) same h.fits) in
      let all : old.tokens ≡ record { kind = kind; payload = nothing; line = line } ∷ middle.tokens = h.tokens
      ∙ ap (λ t. t ∷ middle.tokens) (token_is h.token kind line same said (sym h.same)) in
      let count : length old.tokens ≡ suc (length middle.tokens) = ap length h.tokens in
      record {
        gives = λ most turns.
            subst (Gives (view old.spellings) result new.tokens)
            (sym (ap (run (look (f most))) all ∙ ap (λ q. run q (record { kind = kind; payload = nothing; line = line }
            ∷ middle.tokens)) (goes most)))
            (subst (λ s. Gives (view s) result new.tokens (run (q most) middle.tokens)) h.spellings
            (rest.gives most (omega (arith, turns, enough, count))));
        shorter = omega (arith, count, rest.shorter);
        taken = rest.taken ∙ omega (arith, count, h.taken);
        spellings = rest.spellings ∙ h.spellings;
      }

-- a token of this kind is passed, or it may not stand there
mark_same : (wanted kind : Kind) → wanted ≡ kind → same_kind wanted kind ≡ true
mark_same wanted kind e = true_same the_type wanted kind e

pub not_mark : (wanted kind : Kind) → same_kind wanted kind ≡ false → (payload : Payload) (line : ℕ)
    → mark_at wanted kind payload line ≡ fail misplaced
not_mark wanted kind e payload line = rw e refl

pub takes : {old new : Place} {least line : ℕ} (kind : Kind) → IsPlain kind → kind ≡ (head old.tokens).kind
    → Passes old line new → length old.tokens ≤ least
    → ParsesIn least (λ most. mark kind) same old (Ok line) new
takes {old = old} {line = line} kind plain is h enough =
    passes (λ most. mark_at kind) kind plain is h enough
    (λ most. ap (λ b. mark_if b nothing line) (mark_same kind kind refl)) (answers refl)

pub takes_not : {old : Place} {least : ℕ} (kind : Kind) → same_kind kind (head old.tokens).kind ≡ false
    → ParsesIn least (λ most. mark kind) same old (Err stop.Misplaced) old
takes_not {old = old} kind other =
    goes_as (λ most. ap (λ q. run q old.tokens) (not_mark kind (head old.tokens).kind other (head old.tokens).payload
    (head old.tokens).line)) is_misplaced

pub takes_maybe : {old new : Place} {least line : ℕ} (kind : Kind) → IsPlain kind → kind ≡ (head old.tokens).kind
    → Passes old line new → length old.tokens ≤ least
    → ParsesIn least (λ most. maybe_mark kind) same old (Ok (Some line)) new
takes_maybe {old = old} {line = line} kind plain is h enough =
    passes (λ most. maybe_at kind) kind plain is h enough
    (λ most. ap (λ b. maybe_if b nothing line) (mark_same kind kind refl)) (answers refl)

pub takes_none : {old : Place} {least : ℕ} (kind : Kind) → same_kind kind (head old.tokens).kind ≡ false
    → ParsesIn least (λ most. maybe_mark kind) same old (Ok None) old
takes_none {old = old} kind other =
    goes_as (λ most. ap (λ b. run (maybe_if b (head old.tokens).payload (head old.tokens).line) old.tokens) other)
    (answers refl)

-- the spelling of the token that comes next
pub spelled_front : (spellings : List ℕ) (before count : ℕ) (ts : List Token) (t : Token)
    → drop before spellings ≡ spelled_of ts → head ts ≡ t → AreTokens ts → count ≡ length (spelled_by t.payload)
    → count ≤ length spellings
spelled_front spellings before count [] t is at_head tokens size = absurd tokens
spelled_front spellings before count (u ∷ ts) t is at_head tokens size =
    let part = spelled_by u.payload in
    let all : length spellings - before ≡ length part + length (spelled_of ts) = sym (length-drop before spellings)
    ∙ ap length is ∙ length-append part (spelled_of ts) in
    let same_size : length part ≡ count = ap (λ t. length (spelled_by t.payload)) at_head ∙ sym size in
    omega (arith, all, same_size)

-- where a `?` returns early
pub returned : {A X : Type 0} {view : List ℕ → X → A} {p : ℕ → Prog A} {least : ℕ} {old new : Place}
    {result : Result X Stop} {why : Stop} → ((found : Stop) × (result ≡ Err found) × (found ≡ why))
    → ParsesIn least p view old (Err why) new → ParsesIn least p view old result new
returned {view = view} {p = p} {least = least} {old = old} {new = new} e h =
    subst (λ r. ParsesIn least p view old r new) (sym (e.1 ∙ ap Err e.2)) h

-- a token that says nothing beside its kind
pub told : {A : Type 0} (f : Kind → Payload → ℕ → Prog A) (kind : Kind) (ts : List Token) (line : ℕ) → IsPlain kind
    → kind ≡ (head ts).kind → Fits (head ts).kind (head ts).payload → line ≡ (head ts).line
    → run (look f) ts ≡ run (f kind nothing line) ts
told f kind ts line plain is fits same =
    let said : (head ts).payload ≡ nothing = plain_nothing kind (head ts).payload plain
    (subst (λ kind. Fits kind (head ts).payload) (sym is) fits) in
    sym (λ i. run (f (is i) (sym said i) (same i)) ts)

pub line_of_head : {old new : Place} {line : ℕ} → Passes old line new → line ≡ (head old.tokens).line
line_of_head h = h.same ∙ ap (λ ts. (head ts).line) (sym h.tokens)

-- behind a token that is passed
pub skips : {A X : Type 0} {view : List ℕ → X → A} {q : ℕ → Prog A} {least : ℕ} {old middle new : Place} {line : ℕ}
    {result : Result X Stop} → Passes old line middle → length old.tokens ≤ least → Parses q view middle result new
    → ParsesIn least (λ most. skip (q most)) view old result new
skips {view = view} {q = q} {least = least} {old = old} {middle = middle} {new = new} {result = result} h enough rest =
    let count : length old.tokens ≡ suc (length middle.tokens) = ap length h.tokens in
    record {
      gives = λ most turns.
          subst (λ ts. Gives (view old.spellings) result new.tokens (run (skip (q most)) ts)) (sym h.tokens)
          (subst (λ s. Gives (view s) result new.tokens (run (q most) middle.tokens)) h.spellings
          (rest.gives most (omega (arith, turns, enough, count))));
      shorter = omega (arith, count, rest.shorter);
      taken = rest.taken ∙ omega (arith, count, h.taken);
      spellings = rest.spellings ∙ h.spellings;
    }

-- what was read, with no memory to keep it
pub kept_no_memory : {A X Y : Type 0} {view : List ℕ → X → A} {seen : List ℕ → Y → A} {p : ℕ → Prog A} {least : ℕ}
    {old new : Place} {x : X} → ParsesIn least p view old (Ok x) new
    → ParsesIn least p seen old (Err stop.OutOfMemory) new
kept_no_memory h =
    record { gives = λ most enough. tt; shorter = h.shorter; taken = h.taken; spellings = h.spellings }

-- a reader that takes no turns
pub any_turns : {A X : Type 0} {view : List ℕ → X → A} (p : Prog A) {least more : ℕ} {old new : Place}
    {result : Result X Stop} → ParsesIn least (λ most. p) view old result new
    → ParsesIn more (λ most. p) view old result new
any_turns p {least = least} h = record {
  gives = λ most enough. h.gives least (omega arith);
  shorter = h.shorter;
  taken = h.taken;
  spellings = h.spellings;
}

-- a part of Pascal that is left out
pub refuses : {A X : Type 0} {view : List ℕ → X → A} {part least : ℕ} {old : Place} {why : Stop}
    → why ≡ stop.LeftOut part → ParsesIn least (λ most. fail (shown part)) view old (Err why) old
refuses {view = view} {part = part} {least = least} {old = old} is =
    subst (λ why. ParsesIn least (λ most. fail (shown part)) view old (Err why) old) (sym is) is_left_out

-- a name is a token
ident_at_further : (t : Token) (ts us : List Token) (name : Ident) (kind : Kind) (payload : Payload) (line : ℕ)
    → run (ident_at kind payload line) (t ∷ ts) ≡ Ok (name, us) → length us < length (t ∷ ts)
ident_at_further t ts us name k.Name (spelling bytes) line e =
    omega (arith, ap (λ r. length (rest_of r)) e)
ident_at_further t ts us name kind payload line e = absurd cc

ident_runs_further : (ts us : List Token) (name : Ident) → run ident ts ≡ Ok (name, us) → length us < length ts
ident_runs_further [] us name e = absurd cc
ident_runs_further (t ∷ ts) us name e = ident_at_further t ts us name t.kind t.payload t.line e

pub ident_further : {old new : Place} {name : CodeIdent} → Parses (λ most. ident) ident_in old (Ok name) new
    → length new.tokens < length old.tokens
ident_further {old = old} {new = new} {name = name} h =
    ident_runs_further old.tokens new.tokens (ident_in old.spellings name) (h.gives (suc (length old.tokens)) (omega
    arith))

-- the same tree, as another view shows it
pub seen_as : {A X Y : Type 0} {view : List ℕ → X → A} {seen : List ℕ → Y → A} {p : ℕ → Prog A} {least : ℕ}
    {old new : Place} {x : X} {y : Y} → ((spellings : List ℕ) → view spellings x ≡ seen spellings y)
    → ParsesIn least p view old (Ok x) new → ParsesIn least p seen old (Ok y) new
seen_as {old = old} {new = new} same h = record {
  gives = λ most enough. h.gives most enough ∙ ap (λ a. Ok (a, new.tokens)) (same old.spellings);
  shorter = h.shorter;
  taken = h.taken;
  spellings = h.spellings;
}

-- why reading stops does not depend on how trees are seen
pub still_stops : {A X Y : Type 0} {view : List ℕ → X → A} {seen : List ℕ → Y → A} {p : ℕ → Prog A} {least : ℕ}
    {old new : Place} {why : Stop} → ParsesIn least p view old (Err why) new → ParsesIn least p seen old (Err why) new
still_stops h = record { gives = h.gives; shorter = h.shorter; taken = h.taken; spellings = h.spellings }
