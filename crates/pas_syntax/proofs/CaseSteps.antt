-- How the readers of the elements of a `case` go at the token that comes next.
use denote.Enum.Bare.{same_true, true_same}
use Rattle.std.proofs.Common.{Bool, true, false, ◌≡◌, refl, sym, ap, subst, ◌∙◌, ℕ, suc, arith, List, []}
use Rattle.std.proofs.Common.{◌∷◌}
use Rattle.std.proofs.Common.{length, Result, Ok, Err, Option, Some, None}
use Rattle.std.specs.Prelude.{⊤}
use Rattle.pas_tokens.specs.contracts.kinds.Kind.{the_type}
use Rattle.pas_tokens.specs.declared.kinds.Kind.{Kind}
use Rattle.pas_tokens.specs.declared.kinds.Kind.TheVariants as k
use Rattle.pas_tokens.specs.Cutting.{Payload, nothing, value, spelling}
use Rattle.pas_tokens.specs.Tokens.{Token}
use Rattle.pas_syntax.specs.declared.stop.Stop.{Stop}
use Rattle.pas_syntax.specs.declared.tree.Constant.{Constant as CodeConstant}
use Rattle.pas_syntax.specs.declared.tree.Separated.{Separated as CodeSeparated}
use Rattle.pas_syntax.specs.declared.tree.Element.{Element as CodeElement}
use Rattle.pas_syntax.specs.Tree as tree
use Rattle.pas_syntax.specs.Tree.{Constant, Separated, Statement, Elements, Others}
use Rattle.pas_syntax.specs.inner.Prog.{Prog, done, look, skip, bind, Out, run, head, and_then, Next, ends}
use Rattle.pas_syntax.specs.inner.Places.{Place, Fits, Passes, Parses, same}
use Rattle.pas_syntax.specs.inner.Marks.{same_kind, maybe_if, maybe_mark}
use Rattle.pas_syntax.specs.inner.TypeReaders.{items_by, constant}
use Rattle.pas_syntax.specs.inner.StatementReaders.{Arm, one_more, tail, others_line, element_by, others_by}
use Rattle.pas_syntax.specs.inner.StatementReaders.{colon_behind}
use Rattle.pas_syntax.specs.inner.StatementReaders.{behind_constants, next_arm_at, behind_arm_by, with_line, element}
use Rattle.pas_syntax.specs.inner.StatementViews.{others_before_colon, an_element_in}
use Rattle.pas_syntax.specs.Views.{constant_in, separated_in}
use Rattle.pas_syntax.proofs.ProgLemmas.{run_bind, rest_of}
use Rattle.pas_syntax.proofs.SoFar.{SoFar}

-- a semicolon that may be there
pub record AtSemicolon (old : Place) (line : ℕ) (new : Place) : Type 0 where
  pub kind : k.Semicolon ≡ (head old.tokens).kind
  pub fits : Fits (head old.tokens).kind (head old.tokens).payload
  pub passes : Passes old line new

abbrev line_of : Out (Option ℕ) → ℕ
line_of (Ok (Some line, rest)) = line
line_of other = 0

abbrev IsSome : Out (Option ℕ) → Type 0
IsSome (Ok (Some line, rest)) = ⊤
IsSome other = ⊥

taken_by : (same : Bool) (payload : Payload) (at : ℕ) (t : Token) (ts us : List Token) (line : ℕ)
    → run (maybe_if same payload at) (t ∷ ts) ≡ Ok (Some line, us)
    → (same ≡ true) × (payload ≡ nothing) × (at ≡ line) × (ts ≡ us)
taken_by true nothing at t ts us line e = (refl, refl, ap line_of e, ap rest_of e)
taken_by true (value number) at t ts us line e = absurd (subst IsSome (sym e) tt)
taken_by true (spelling bytes) at t ts us line e = absurd (subst IsSome (sym e) tt)
taken_by false payload at t ts us line e = absurd (subst IsSome (sym e) tt)

taken_of_none : (same : Bool) (us : List Token) (line : ℕ) → run (maybe_if same nothing 0) [] ≡ Ok (Some line, us) → ⊥
taken_of_none true us line e = subst IsSome (sym e) tt
taken_of_none false us line e = subst IsSome (sym e) tt

taken_at : (ts us : List Token) (line : ℕ) → run (maybe_mark k.Semicolon) ts ≡ Ok (Some line, us)
    → ts ≡ record { kind = k.Semicolon; payload = nothing; line = line } ∷ us
taken_at [] us line e = absurd (taken_of_none (same_kind k.Semicolon k.EndOfText) us line e)
taken_at (t ∷ ts) us line e =
    let p = taken_by (same_kind k.Semicolon t.kind) t.payload t.line t ts us line e in
    let kind : t.kind ≡ k.Semicolon = sym (same_true the_type tt k.Semicolon t.kind p.0) in
    λ i. record { kind = kind i; payload = p.1 i; line = p.2 i } ∷ p.3 i

pub semicolon_there : {old new : Place} {line : ℕ} → Parses (λ most. maybe_mark k.Semicolon) same old (Ok (Some
    line)) new
    → AtSemicolon old line new
semicolon_there {old = old} {new = new} {line = line} h =
    let split = taken_at old.tokens new.tokens line (h.gives (suc (length old.tokens)) (omega arith)) in
    let count : length old.tokens ≡ suc (length new.tokens) = ap length split in
    record {
      kind = ap (λ ts. (head ts).kind) (sym split);
      fits = subst (λ ts. Fits (head ts).kind (head ts).payload) (sym split) tt;
      passes = record {
        token = record { kind = k.Semicolon; payload = nothing; line = line };
        tokens = split;
        same = refl;
        fits = tt;
        taken = omega (arith, count, h.taken);
        spellings = h.spellings;
      };
    }

-- no semicolon is there
not_taken : (ts us : List Token) (line : ℕ) → run (skip (done (Some line))) ts ≡ Ok (None, us) → ⊥
not_taken [] us line e = absurd cc
not_taken (t ∷ ts) us line e = subst IsSome e tt

none_taken : (same : Bool) (payload : Payload) (line : ℕ) (ts us : List Token)
    → run (maybe_if same payload line) ts ≡ Ok (None, us) → ts ≡ us
none_taken true nothing line ts us e = absurd (not_taken ts us line e)
none_taken true (value number) line ts us e = ap rest_of e
none_taken true (spelling bytes) line ts us e = ap rest_of e
none_taken false payload line ts us e = ap rest_of e

pub none_there : {old new : Place} → Parses (λ most. maybe_mark k.Semicolon) same old (Ok None) new → old ≡ new
none_there {old = old} {new = new} h =
    let t = head old.tokens in
    let tokens : old.tokens ≡ new.tokens = none_taken (same_kind k.Semicolon t.kind) t.payload t.line old.tokens
    new.tokens
    (h.gives (suc (length old.tokens)) (omega arith)) in
    let taken : old.taken ≡ new.taken = omega (arith, ap length tokens, h.taken) in
    λ i. record { spellings = sym h.spellings i; taken = taken i; tokens = tokens i }

module _ (s : ℕ → Prog Statement) (m n : ℕ) where
  none_ends_at : (elements : Elements) (kind : Kind) (payload : Payload) (line : ℕ) (ts us : List Token)
      → run (maybe_if (same_kind k.Semicolon kind) payload line) ts ≡ Ok (None, us)
      → behind_arm_by s m n elements tree.no_others kind payload line ≡ ends
  none_ends_at elements k.Semicolon nothing line ts us e =
      absurd (not_taken ts us line (subst (λ b. run (maybe_if b nothing line) ts ≡ Ok (None, us))
      (true_same the_type k.Semicolon k.Semicolon refl) e))
  none_ends_at elements k.Semicolon (value number) line ts us e = refl
  none_ends_at elements k.Semicolon (spelling bytes) line ts us e = refl
  none_ends_at elements kind payload line ts us e = refl

  pub none_ends : {old new : Place} (elements : Elements)
      → Parses (λ most. maybe_mark k.Semicolon) same old (Ok None) new
      → behind_arm_by s m n elements tree.no_others (head old.tokens).kind (head old.tokens).payload (head
      old.tokens).line
      ≡ ends
  none_ends {old = old} {new = new} elements h =
      let t = head old.tokens in
      none_ends_at elements t.kind t.payload t.line old.tokens new.tokens
      (h.gives (suc (length old.tokens)) (omega arith))

  module _ (line : ℕ) where
    -- `end` comes next, or it does not
    pub end_comes : (ts : List Token) → k.End ≡ (head ts).kind
        → run (look (next_arm_at s m n line)) ts ≡ run (done (tail (tree.semicolon line))) ts
    end_comes ts is = ap (λ kind. run (next_arm_at s m n line kind (head ts).payload (head ts).line) ts) (sym is)

    no_end_at : (kind : Kind) (payload : Payload) (at : ℕ) → (k.End ≡ kind → ⊥)
        → next_arm_at s m n line kind payload at
        ≡ bind (items_by constant m) (λ constants. look (behind_constants s m n line constants))
    no_end_at k.End payload at other = absurd (other refl)
    no_end_at kind payload at other = refl

    pub no_end_comes : (ts : List Token) → (k.End ≡ (head ts).kind → ⊥)
        → run (look (next_arm_at s m n line)) ts
        ≡ run (bind (items_by constant m) (λ constants. look (behind_constants s m n line constants))) ts
    no_end_comes ts other =
        ap (λ q. run q ts) (no_end_at (head ts).kind (head ts).payload (head ts).line other)

    -- the name `others` stands before the colon that comes next, or it does not
    others_at : (constants : Separated Constant) (kind : Kind) (payload : Payload) (colon name : ℕ)
        → Some name ≡ others_before_colon kind constants → Fits kind payload
        → behind_constants s m n line constants kind payload colon ≡ others_by s m n line name colon
    others_at constants k.Colon nothing colon name is fits = ap (colon_behind s m n line constants colon) (sym is)
    others_at constants k.Colon (value number) colon name is fits = absurd fits
    others_at constants k.Colon (spelling bytes) colon name is fits = absurd fits
    others_at constants kind payload colon name is fits = absurd cc

    pub others_come : (constants : Separated Constant) (ts : List Token) (name : ℕ)
        → Some name ≡ others_before_colon (head ts).kind constants → Fits (head ts).kind (head ts).payload
        → run (look (behind_constants s m n line constants)) ts ≡ run (with_line (others_by s m n line name)) ts
    others_come constants ts name is fits =
        ap (λ q. run q ts) (others_at constants (head ts).kind (head ts).payload (head ts).line name is fits)

    element_at : (constants : Separated Constant) (kind : Kind) (payload : Payload) (colon : ℕ)
        → None ≡ others_before_colon kind constants
        → behind_constants s m n line constants kind payload colon
        ≡ bind (element_by s m n constants) (λ found. done (one_more found))
    element_at constants k.Colon nothing colon is = ap (colon_behind s m n line constants colon) (sym is)
    element_at constants k.Colon (value number) colon is = refl
    element_at constants k.Colon (spelling bytes) colon is = refl
    element_at constants kind payload colon is = refl

    pub element_comes : (constants : Separated Constant) (ts : List Token)
        → None ≡ others_before_colon (head ts).kind constants
        → run (look (behind_constants s m n line constants)) ts
        ≡ run (bind (element_by s m n constants) (λ found. done (one_more found))) ts
    element_comes constants ts is =
        ap (λ q. run q ts) (element_at constants (head ts).kind (head ts).payload (head ts).line is)

-- where a colon comes next
pub at_colon : (kind : Kind) (constants : Separated Constant) (name : ℕ)
    → Some name ≡ others_before_colon kind constants
    → k.Colon ≡ kind
at_colon k.Colon constants name is = refl
at_colon kind constants name is = absurd cc

-- what ends the elements is there
abbrev pub IsReal : Arm → Type 0
IsReal (one_more found) = ⊤
IsReal (tail tree.no_others) = ⊥
IsReal (tail there) = ⊤

abbrev arm_of : Out Arm → Arm
arm_of (Ok read) = read.0
arm_of (Err stopped) = tail tree.no_others

done_real : (a b : Arm) (ts us : List Token) → IsReal a → run (done a) ts ≡ Ok (b, us) → IsReal b
done_real a b ts us h e = subst IsReal (ap arm_of e) h

real_after : {A : Type 0} (r : Out A) (g : A → Prog Arm) (b : Arm) (us : List Token)
    → ((a : A) (ts : List Token) → run (g a) ts ≡ Ok (b, us) → IsReal b) → and_then r g ≡ Ok (b, us) → IsReal b
real_after (Ok read) g b us h e = h read.0 read.1 e
real_after (Err stopped) g b us h e = absurd cc

real_behind : {A : Type 0} (p : Prog A) (g : A → Prog Arm) (b : Arm) (ts us : List Token)
    → ((a : A) (vs : List Token) → run (g a) vs ≡ Ok (b, us) → IsReal b) → run (bind p g) ts ≡ Ok (b, us) → IsReal b
real_behind p g b ts us h e = real_after (run p ts) g b us h (sym (run_bind p g ts) ∙ e)

module _ (s : ℕ → Prog Statement) (m n line : ℕ) (b : Arm) (us : List Token) where
  others_real : (name colon : ℕ) (ts : List Token) → run (others_by s m n line name colon) ts ≡ Ok (b, us) → IsReal b
  others_real name colon [] e = absurd cc
  others_real name colon (t ∷ ts) e =
      real_behind (s n) (λ x. bind (maybe_mark k.Semicolon) (λ last. done (tail (tree.others line name colon x
      last)))) b ts
      us (λ x vs f. real_behind (maybe_mark k.Semicolon) (λ last. done (tail (tree.others line name colon x last))) b
      vs us
      (λ last ws g. done_real (tail (tree.others line name colon x last)) b ws us tt g) f) e

  element_real : (constants : Separated Constant) (ts : List Token)
      → run (bind (element_by s m n constants) (λ found. done (one_more found))) ts ≡ Ok (b, us) → IsReal b
  element_real constants ts e =
      real_behind (element_by s m n constants) (λ found. done (one_more found)) b ts us
      (λ found vs f. done_real (one_more found) b vs us tt f) e

  colon_real : (constants : Separated Constant) (colon : ℕ) (there : Option ℕ) (ts : List Token)
      → run (colon_behind s m n line constants colon there) ts ≡ Ok (b, us) → IsReal b
  colon_real constants colon (Some name) ts e = others_real name colon ts e
  colon_real constants colon None ts e = element_real constants ts e

  constants_real : (constants : Separated Constant) (kind : Kind) (payload : Payload) (at : ℕ) (ts : List Token)
      → run (behind_constants s m n line constants kind payload at) ts ≡ Ok (b, us) → IsReal b
  constants_real constants k.Colon nothing at ts e = colon_real constants at (others_line constants) ts e
  constants_real constants k.Colon (value number) at ts e = element_real constants ts e
  constants_real constants k.Colon (spelling bytes) at ts e = element_real constants ts e
  constants_real constants kind payload at ts e = element_real constants ts e

  arm_real : (kind : Kind) (payload : Payload) (at : ℕ) (ts : List Token)
      → run (next_arm_at s m n line kind payload at) ts ≡ Ok (b, us) → IsReal b
  arm_real k.End payload at ts e = done_real (tail (tree.semicolon line)) b ts us tt e
  arm_real kind payload at ts e =
      real_behind (items_by constant m) (λ constants. look (behind_constants s m n line constants)) b ts us
      (λ constants vs f. constants_real constants (head vs).kind (head vs).payload (head vs).line vs f) e

module _ (s : ℕ → Prog Statement) (m n : ℕ) where
  -- behind what ends the elements nothing more is read
  pub real_ends : (elements : Elements) (last : Others) (kind : Kind) (payload : Payload) (line : ℕ)
      → IsReal (tail last)
      → behind_arm_by s m n elements last kind payload line ≡ ends
  real_ends elements tree.no_others kind payload line h = absurd h
  real_ends elements (tree.semicolon at) kind payload line h = refl
  real_ends elements (tree.others a b c x d) kind payload line h = refl

  pub arm_there : (line : ℕ) (b : Arm) (ts us : List Token) → run (look (next_arm_at s m n line)) ts ≡ Ok (b, us)
      → IsReal b
  arm_there line b ts us e = arm_real s m n line b us (head ts).kind (head ts).payload (head ts).line ts e

-- one after the other
behind_both : {A B C : Type 0} (r : Out A) (q : A → Prog B) (g : B → Prog C)
    → and_then r (λ a. bind (q a) g) ≡ and_then (and_then r q) g
behind_both (Ok read) q g = run_bind (q read.0) g read.1
behind_both (Err stopped) q g = refl

pub bind_bind : {A B C : Type 0} (p : Prog A) (q : A → Prog B) (g : B → Prog C) (ts : List Token)
    → run (bind p (λ a. bind (q a) g)) ts ≡ run (bind (bind p q) g) ts
bind_bind p q g ts =
    run_bind p (λ a. bind (q a) g) ts ∙ behind_both (run p ts) q g
    ∙ sym (run_bind (bind p q) g ts ∙ ap (λ r. and_then r g) (run_bind p q ts))

-- the same loop
pub so_far_as : {A : Type 0} {whole other : ℕ → Prog A} {next : ℕ → A → Kind → Payload → ℕ → Next A} {old now : Place}
    {found : A} → ((most : ℕ) → run (whole most) old.tokens ≡ run (other most) old.tokens)
    → SoFar other next old now found → SoFar whole next old now found
so_far_as is so = record {
  reached = λ most enough.
      let r = so.reached most enough in
      record { left = r.left; enough = r.enough; same = is most ∙ r.same };
  shorter = so.shorter;
  taken = so.taken;
  spellings = so.spellings;
}

-- a token that is passed says what its kind says
pub fits_passed : {old new : Place} {line : ℕ} → Passes old line new
    → Fits (head old.tokens).kind (head old.tokens).payload
fits_passed h = subst (λ t. Fits t.kind t.payload) (ap head (sym h.tokens)) h.fits

-- an element behind constants, where the text has these spellings
pub element_read : (n : ℕ) {spellings : List ℕ} {old new : Place} {result : Result CodeElement Stop}
    (constants : CodeSeparated CodeConstant) → old.spellings ≡ spellings
    → Parses (λ m. element m n (separated_in (constant_in old.spellings) constants)) an_element_in old result new
    → Parses (λ m. element m n (separated_in (constant_in spellings) constants)) an_element_in old result new
element_read n {old = old} {new = new} {result = result} constants is h =
    subst (λ s. Parses (λ m. element m n (separated_in (constant_in s) constants)) an_element_in old result new) is h
