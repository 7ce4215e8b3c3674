-- Loops of the code that read rows of declarations, each of which begins with a name.
use Rattle.std.proofs.Common.{◌≡◌, refl, sym, ap, subst, ◌∙◌, ℕ, suc, ◌+◌, ◌≤◌, ◌<◌, arith, List, [], ◌∷◌, ◌++◌, map}
use Rattle.std.proofs.Common.{length, Some, Ok, Err}
use Rattle.std.proofs.lemmas.List.{map-append, length-append}
use Rattle.pas_tokens.specs.declared.kinds.Kind.{Kind}
use Rattle.pas_tokens.specs.declared.kinds.Kind.TheVariants as k
use Rattle.pas_tokens.specs.Cutting.{Payload, spelling}
use Rattle.pas_tokens.specs.Tokens.{Token}
use Rattle.pas_syntax.specs.declared.stop.Stop.{Stop}
use Rattle.pas_syntax.specs.declared.tree.Rows.{Rows as CodeRows}
use Rattle.pas_syntax.specs.Tree.{Ident, Rows}
use Rattle.pas_syntax.specs.Views.{if_there}
use Rattle.pas_syntax.specs.ProgramViews.{rows_in}
use Rattle.pas_syntax.specs.inner.Prog.{Prog, done, bind, run, head, ends, turns, turn_of, a_turn, and_then}
use Rattle.pas_syntax.specs.inner.Prog.{Out}
use Rattle.pas_syntax.specs.inner.Marks.{maybe_mark}
use Rattle.pas_syntax.specs.inner.Places.{Place, Fits, Parses, same}
use Rattle.pas_syntax.specs.inner.Readers.{ident_at, ident}
use Rattle.pas_syntax.specs.inner.DeclarationReaders.{pushed_row, behind_row, rows_behind, rows_by}
use Rattle.pas_syntax.proofs.ProgLemmas.{run_bind, IsLocalTo, local}
use Rattle.pas_syntax.proofs.PlaceLemmas.{goes_as, goes_on, stops, answers, with_more}
use Rattle.pas_syntax.proofs.SoFar.{SoFar, turned, turn_stops, loop_ends}

-- what begins with a name has a token
shorter_by : {A : Type 0} (q : Prog A) (ts : List Token) (a : A) (rest : List Token) → run q ts ≡ Ok (a, rest)
    → length rest ≤ length ts
shorter_by q ts a rest e =
    let h : IsLocalTo q ts (Ok (a, rest)) = subst (λ r. IsLocalTo q ts r) e (local q ts) in
    let count : length (h.0 ++ rest) ≡ length h.0 + length rest = length-append h.0 rest in
    omega (arith, ap length h.1, count)

named_at : {A : Type 0} (f : Ident → Prog A) (t : Token) (ts : List Token) (a : A) (rest : List Token) (kind : Kind)
    (payload : Payload) (line : ℕ) → run (bind (ident_at kind payload line) f) (t ∷ ts) ≡ Ok (a, rest)
    → length rest < length (t ∷ ts)
named_at f t ts a rest k.Name (spelling name) line e =
    omega (arith, shorter_by (f (record { name = name; line = line })) ts a rest e)
named_at f t ts a rest kind payload line e = absurd cc

named_further : {A : Type 0} (f : Ident → Prog A) (ts : List Token) (a : A) (rest : List Token)
    → run (bind ident f) ts ≡ Ok (a, rest) → length rest < length ts
named_further f [] a rest e = absurd cc
named_further f (t ∷ ts) a rest e = named_at f t ts a rest t.kind t.payload t.line e

module _ {A X : Type 0} (view : List ℕ → X → A) (row : ℕ → Ident → Prog A) (kind : Kind) where
  abbrev one_row : ℕ → Prog A
  one_row m = bind ident (row m)

  -- the rows behind the word of their kind, in this line
  abbrev pub rows_from : ℕ → ℕ → Prog (Rows A)
  rows_from line m =
      bind (maybe_mark kind) (λ found. bind (one_row m)
      (λ first. turns (behind_row (row m)) m (record { line = line; first = first; more = [] })))

  abbrev pub rows_so_far : Place → Place → ℕ → X → List X → Type 0
  rows_so_far old now line first more =
      SoFar (rows_from line) (λ m. behind_row (row m)) old now
      (record { line = line; first = view old.spellings first; more = map (view old.spellings) more })

  -- with the word of the kind there, the rows are what is read from it on
  rows_go : {old middle : Place} {line : ℕ} → Parses (λ m. maybe_mark kind) same old (Ok (Some line)) middle → (m : ℕ)
      → run (rows_by (row m) m kind) old.tokens ≡ run (bind (rows_from line m) (λ rows. done (Some rows))) old.tokens
  rows_go {old = old} {middle = middle} {line = line} h m =
      let start = λ (first : A). turns (behind_row (row m)) m (record { line = line; first = first; more = [] }) in
      let maybe = h.gives (suc (length old.tokens)) (omega arith) in
      run_bind (maybe_mark kind) (rows_behind (row m) m) old.tokens
      ∙ ap (λ r. and_then r (rows_behind (row m) m)) maybe
      ∙ run_bind (one_row m) (λ first. bind (start first) (λ rows. done (Some rows))) middle.tokens
      ∙ together (run (one_row m) middle.tokens) start
      ∙ ap (λ r. and_then r (λ rows. done (Some rows))) (sym (run_bind (one_row m) start middle.tokens))
      ∙ ap (λ r. and_then (and_then r (λ found. bind (one_row m) start)) (λ rows. done (Some rows))) (sym maybe)
      ∙ ap (λ r. and_then r (λ rows. done (Some rows)))
      (sym (run_bind (maybe_mark kind) (λ found. bind (one_row m) start)
      old.tokens))
      ∙ sym (run_bind (rows_from line m) (λ rows. done (Some rows)) old.tokens)
    where
      together : (r : Out A) (start : A → Prog (Rows A))
          → and_then r (λ first. bind (start first) (λ rows. done (Some rows)))
          ≡ and_then (and_then r start) (λ rows. done (Some rows))
      together (Ok read) start = run_bind (start read.0) (λ rows. done (Some rows)) read.1
      together (Err stopped) start = refl

  -- an answer, or why reading stops, as that of the rows
  pub rows_stop : {old middle new : Place} {line : ℕ} {why : Stop}
      → Parses (λ m. maybe_mark kind) same old (Ok (Some line)) middle
      → Parses (rows_from line) (λ s. rows_in s (view s)) old (Err why) new
      → Parses (λ m. rows_by (row m) m kind) (λ s. if_there (rows_in s (view s))) old (Err why) new
  rows_stop maybe h = goes_as (λ m. rows_go maybe m) (stops (λ m rows. done (Some rows)) h)

  pub first_stops : {old middle new : Place} {line : ℕ} {why : Stop}
      → Parses (λ m. maybe_mark kind) same old (Ok (Some line)) middle → Parses one_row view middle (Err why) new
      → Parses (λ m. rows_by (row m) m kind) (λ s. if_there (rows_in s (view s))) old (Err why) new
  first_stops {line = line} maybe h =
      rows_stop maybe (goes_on {first = same} (λ m found. bind (one_row m)
      (λ first. turns (behind_row (row m)) m (record { line = line; first = first; more = [] }))) maybe
      (with_more (omega (arith, maybe.shorter))
      (stops (λ m first. turns (behind_row (row m)) m (record { line = line; first = first; more = [] })) h)))

  pub rows_begin : {old middle now : Place} {line : ℕ} {first : X} (more : List X)
      → Parses (λ m. maybe_mark kind) same old (Ok (Some line)) middle → Parses one_row view middle (Ok first) now
      → more ≡ [] → rows_so_far old now line first more
  rows_begin {old = old} {middle = middle} {now = now} {line = line} {first = first} more maybe h none =
      subst (λ all. SoFar (rows_from line) (λ m. behind_row (row m)) old now
      (record { line = line; first = view old.spellings first; more = map (view old.spellings) all })) (sym none)
      record {
        reached = λ m enough. record {
          left = m;
          enough = omega (arith, enough, h.shorter, maybe.shorter);
          same =
              run_bind (maybe_mark kind) (λ found. bind (one_row m) (start m)) old.tokens
              ∙ ap (λ r. and_then r (λ found. bind (one_row m) (start m))) (maybe.gives m enough)
              ∙ run_bind (one_row m) (start m) middle.tokens
              ∙ ap (λ r. and_then r (start m)) (h.gives m (omega (arith, enough, maybe.shorter)))
              ∙ ap (λ s. run (start m (view s first)) now.tokens) maybe.spellings;
        };
        shorter = omega (arith, h.shorter, maybe.shorter);
        taken = h.taken ∙ maybe.taken;
        spellings = h.spellings ∙ maybe.spellings;
      }
    where
      start : ℕ → A → Prog (Rows A)
      start m first = turns (behind_row (row m)) m (record { line = line; first = first; more = [] })

  row_at : (m : ℕ) (rows : Rows A) (ts : List Token) (payload : Payload) (line : ℕ) → Fits k.Name payload
      → run (turn_of (behind_row (row m) rows k.Name payload line)) ts
      ≡ run (bind (bind (ident_at k.Name payload line) (row m)) (λ next. done (pushed_row (row m) rows next))) ts
  row_at m rows ts (spelling name) line fits = refl
  row_at m rows ts payload line fits = absurd fits

  row_goes : (m : ℕ) (rows : Rows A) (ts : List Token) → k.Name ≡ (head ts).kind
      → Fits (head ts).kind (head ts).payload
      → run (a_turn (behind_row (row m)) rows) ts
      ≡ run (bind (one_row m) (λ next. done (pushed_row (row m) rows next))) ts
  row_goes m rows ts is fits =
      sym (ap (λ kind. run (turn_of (behind_row (row m) rows kind (head ts).payload (head ts).line)) ts) is)
      ∙ row_at m rows ts (head ts).payload (head ts).line (subst (λ kind. Fits kind (head ts).payload) (sym is) fits)
      ∙ ap (λ kind. run (bind (bind (ident_at kind (head ts).payload (head ts).line) (row m)) (λ next. done (pushed_row
      (row m) rows next))) ts) is

  pub row_stops : {old middle now new : Place} {line : ℕ} {first : X} {why : Stop} (more : List X)
      → Parses (λ m. maybe_mark kind) same old (Ok (Some line)) middle → rows_so_far old now line first more
      → k.Name ≡ (head now.tokens).kind → Fits (head now.tokens).kind (head now.tokens).payload
      → Parses one_row view now (Err why) new
      → Parses (λ m. rows_by (row m) m kind) (λ s. if_there (rows_in s (view s))) old (Err why) new
  row_stops {old = old} {now = now} {line = line} {first = first} more maybe so is fits h =
      let rows : Rows A = record {
        line = line;
        first = view old.spellings first;
        more = map (view old.spellings) more;
      } in
      rows_stop maybe (turn_stops {view = λ s x. pushed_row (row 0) rows (view s x)} so
      (goes_as (λ m. row_goes m rows now.tokens is fits) (stops (λ m next. done (pushed_row (row m) rows next)) h)))

  pub one_row_more : {old now new : Place} {line : ℕ} {first x : X} (more all : List X)
      → rows_so_far old now line first more → k.Name ≡ (head now.tokens).kind
      → Fits (head now.tokens).kind (head now.tokens).payload → Parses one_row view now (Ok x) new
      → all ≡ more ++ x ∷ [] → rows_so_far old new line first all
  one_row_more {old = old} {now = now} {new = new} {line = line} {first = first} {x = x} more all so is fits h push =
      let s = old.spellings in
      let rows : Rows A = record { line = line; first = view s first; more = map (view s) more } in
      let mapped : map (view s) all ≡ map (view s) more ++ view s x ∷ [] =
      ap (map (view s)) push ∙ map-append (view s) more (x ∷ []) in
      subst (λ xs. SoFar (rows_from line) (λ m. behind_row (row m)) old new
      (record { line = line; first = view s first; more = xs })) (sym mapped)
      (turned {view = λ s x. pushed_row (row 0) rows (view s x)} {x = x} so
      (goes_as (λ m. row_goes m rows now.tokens is fits)
      (goes_on (λ m next. done (pushed_row (row m) rows next)) h
      (answers (ap (λ s. pushed_row (row 0) rows (view s x)) (sym h.spellings)))))
      (named_further (row (suc (length now.tokens))) now.tokens (view now.spellings x) new.tokens
      (h.gives (suc (length now.tokens)) (omega arith))))

  last_row : (m : ℕ) (rows : Rows A) (kind : Kind) (payload : Payload) (line : ℕ) → (k.Name ≡ kind → ⊥)
      → behind_row (row m) rows kind payload line ≡ ends
  last_row m rows k.Name payload line not = absurd (not refl)
  last_row m rows kind payload line not = refl

  pub rows_end : {old middle now : Place} {line : ℕ} {first : X} (more : List X)
      → Parses (λ m. maybe_mark kind) same old (Ok (Some line)) middle → rows_so_far old now line first more
      → (k.Name ≡ (head now.tokens).kind → ⊥)
      → Parses (λ m. rows_by (row m) m kind) (λ s. if_there (rows_in s (view s))) old
      (Ok (Some (record { line = line; first = first; more = more }))) now
  rows_end {old = old} {now = now} {line = line} {first = first} more maybe so not =
      let rows : CodeRows X = record { line = line; first = first; more = more } in
      let h : Parses (rows_from line) (λ s. rows_in s (view s)) old (Ok rows) now =
      loop_ends so (λ m. last_row m _ _ _ _ not) refl in
      goes_as (λ m. rows_go maybe m) (goes_on {first = λ s. rows_in s (view s)} (λ m rows. done (Some rows)) h
      (answers (ap (λ s. Some (rows_in s (view s) rows)) (sym so.spellings))))

-- a row has a token
pub row_further : {A X : Type 0} {view : List ℕ → X → A} (row : ℕ → Ident → Prog A) {now new : Place} {x : X}
    → Parses (λ m. bind ident (row m)) view now (Ok x) new → length new.tokens < length now.tokens
row_further {view = view} row {now = now} {new = new} {x = x} h =
    named_further (row (suc (length now.tokens))) now.tokens (view now.spellings x) new.tokens
    (h.gives (suc (length now.tokens)) (omega arith))
