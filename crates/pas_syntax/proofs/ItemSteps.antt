-- Loops of the code that read items with commas between them.
use Rattle.std.proofs.Common.{◌≡◌, refl, sym, ap, subst, ◌∙◌, ℕ, suc, arith, List, [], ◌∷◌, ◌++◌, map}
use Rattle.std.proofs.Common.{length, Ok, Err}
use Rattle.std.proofs.lemmas.List.{map-append}
use Rattle.pas_tokens.specs.declared.kinds.Kind.{Kind}
use Rattle.pas_tokens.specs.declared.kinds.Kind.TheVariants as k
use Rattle.pas_tokens.specs.Cutting.{Payload}
use Rattle.pas_tokens.specs.Tokens.{Token}
use Rattle.pas_syntax.specs.declared.stop.Stop.{Stop}
use Rattle.pas_syntax.specs.declared.tree.Behind.{Behind as CodeBehind}
use Rattle.pas_syntax.specs.Tree.{Separated}
use Rattle.pas_syntax.specs.Views.{behind_in, separated_in}
use Rattle.pas_syntax.specs.inner.Prog.{Prog, done, skip, bind, run, head, ends, turns, turn_of, a_turn}
use Rattle.pas_syntax.specs.inner.Places.{Place, Fits, Passes, Parses}
use Rattle.pas_syntax.specs.inner.TypeReaders.{pushed, single, behind_item, items_by}
use Rattle.pas_syntax.proofs.PlaceLemmas.{told, goes_as, goes_on, stops, skips, answers, line_of_head}
use Rattle.pas_syntax.proofs.SoFar.{SoFar, begun_behind, turned, turn_stops, loop_ends}

module _ {A X : Type 0} (view : List ℕ → X → A) (item : ℕ → Prog A) where
  -- the items so far
  abbrev pub items_so_far : Place → Place → X → List (CodeBehind X) → Type 0
  items_so_far old now first more =
      SoFar (λ m. items_by (item m) m) (λ m. behind_item (item m)) old now
      (record { first = view old.spellings first; more = map (behind_in (view old.spellings)) more })

  pub items_unbegun : {old new : Place} {why : Stop} → Parses item view old (Err why) new
      → Parses (λ m. items_by (item m) m) (λ s. separated_in (view s)) old (Err why) new
  items_unbegun h = stops (λ m first. turns (behind_item (item m)) m (single first)) h

  pub items_begin : {old now : Place} {x : X} (more : List (CodeBehind X)) → Parses item view old (Ok x) now → more ≡ []
      → items_so_far old now x more
  items_begin {old = old} {now = now} {x = x} more h none =
      subst (λ all. SoFar (λ m. items_by (item m) m) (λ m. behind_item (item m)) old now
      (record { first = view old.spellings x; more = map (behind_in (view old.spellings)) all })) (sym none)
      (begun_behind single h)

  comma_goes : (m : ℕ) (found : Separated A) (ts : List Token) (line : ℕ) → k.Comma ≡ (head ts).kind
      → Fits (head ts).kind (head ts).payload → line ≡ (head ts).line
      → run (a_turn (behind_item (item m)) found) ts
      ≡ run (skip (bind (item m) (λ next. done (pushed found line next)))) ts
  comma_goes m found ts line is fits same =
      told (λ kind payload line. turn_of (behind_item (item m) found kind payload line)) k.Comma ts line tt is fits same

  pub item_stops : {old now middle new : Place} {line : ℕ} {first : X} {why : Stop} (more : List (CodeBehind X))
      → items_so_far old now first more → k.Comma ≡ (head now.tokens).kind
      → Fits (head now.tokens).kind (head now.tokens).payload → Passes now line middle
      → Parses item view middle (Err why) new
      → Parses (λ m. items_by (item m) m) (λ s. separated_in (view s)) old (Err why) new
  item_stops {old = old} {now = now} {line = line} {first = first} more so is fits passed h =
      let found : Separated A = record {
        first = view old.spellings first;
        more = map (behind_in (view old.spellings)) more;
      } in
      turn_stops {view = λ s x. pushed found line (view s x)} so
      (goes_as (λ m. comma_goes m found now.tokens line is fits (line_of_head passed))
      (skips passed (omega arith) (stops (λ m next. done (pushed found line next)) h)))

  pub one_item_more : {old now middle new : Place} {line : ℕ} {first x : X} (more all : List (CodeBehind X))
      → items_so_far old now first more → k.Comma ≡ (head now.tokens).kind
      → Fits (head now.tokens).kind (head now.tokens).payload → Passes now line middle
      → Parses item view middle (Ok x) new → all ≡ more ++ record { line = line; item = x } ∷ []
      → items_so_far old new first all
  one_item_more {old = old} {now = now} {middle = middle} {new = new} {line = line} {first = first} {x = x} more all
      so is fits
      passed h push =
      let s = old.spellings in
      let found : Separated A = record { first = view s first; more = map (behind_in (view s)) more } in
      let last : CodeBehind X = record { line = line; item = x } in
      let count : length now.tokens ≡ suc (length middle.tokens) = ap length passed.tokens in
      let mapped : map (behind_in (view s)) all ≡ map (behind_in (view s)) more ++ behind_in (view s) last ∷ [] =
      ap (map (behind_in (view s))) push ∙ map-append (behind_in (view s)) more (last ∷ []) in
      subst (λ xs. SoFar (λ m. items_by (item m) m) (λ m. behind_item (item m)) old new
      (record { first = view s first; more = xs })) (sym mapped)
      (turned {view = λ s x. pushed found line (view s x)} {x = x} so
      (goes_as (λ m. comma_goes m found now.tokens line is fits (line_of_head passed))
      (skips passed (omega arith) (goes_on (λ m next. done (pushed found line next)) h
      (answers (ap (λ s. pushed found line (view s x)) (sym h.spellings))))))
      (omega (arith, count, h.shorter)))

  last_item : (m : ℕ) (found : Separated A) (kind : Kind) (payload : Payload) (line : ℕ) → (k.Comma ≡ kind → ⊥)
      → behind_item (item m) found kind payload line ≡ ends
  last_item m found k.Comma payload line not = absurd (not refl)
  last_item m found kind payload line not = refl

  pub items_end : {old now : Place} {first : X} (more : List (CodeBehind X)) → items_so_far old now first more
      → (k.Comma ≡ (head now.tokens).kind → ⊥)
      → Parses (λ m. items_by (item m) m) (λ s. separated_in (view s)) old
      (Ok (record { first = first; more = more })) now
  items_end more so not = loop_ends so (λ m. last_item m _ _ _ _ not) refl
