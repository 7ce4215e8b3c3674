-- Items that are looked at one after another, behind a name and a first one.
use Rattle.std.proofs.Common.{◌≡◌, refl, sym, ap, subst, ◌∙◌, ℕ, zero, suc, ◌+◌, arith, true, false, List, [], ◌∷◌}
use Rattle.std.proofs.Common.{◌++◌, map, drop, Some, Ok, Err, Result}
use Rattle.std.specs.Prelude.{slice_get}
use Rattle.std.proofs.lemmas.List.{append-nil, append_assoc, map-append}
use Rattle.wb_base.specs.declared.faults.TheConstants.{WRONG_TYPE}
use Rattle.pas_tokens.specs.Cutting.{Wrong, wrong}
use Rattle.pas_tokens.specs.Tokens.{fault_in}
use Rattle.pas_tokens.specs.declared.kinds.Kind.TheVariants as k
use Rattle.pas_syntax.specs.declared.tree.Argument.{Argument as CodeArgument}
use Rattle.pas_syntax.specs.declared.tree.Behind.{Behind as CodeBehind}
use Rattle.pas_syntax.specs.Words.{Word, at}
use Rattle.pas_scopes.specs.declared.stop.Stop.{Stop}
use Rattle.pas_scopes.specs.declared.stop.Stop.TheVariants as stop
use Rattle.pas_scopes.specs.declared.judged.Judged.{Judged as CodeJudged}
use Rattle.pas_rules.specs.Marks.{Marks, no_token, shows, lowest, first_fault, Judged}
use Rattle.pas_rules.specs.Scopes.{Scopes}
use Rattle.pas_rules.specs.Calls.{Actual}
use Rattle.pas_scopes.specs.Ends.{shown_behind}
use Rattle.pas_scopes.specs.Stopping.{shown_in, found_before}
use Rattle.pas_scopes.specs.Answers.{end_in, settled_by, StandsAs, FailsBy, Shows, IsQuiet, Ending}
use Rattle.pas_scopes.specs.inner.Listed.{Item, item_words, items_marks, closed_marks, item_at, item_behind}
use Rattle.pas_scopes.specs.inner.Listed.{items_behind, line_behind, Gathered, FailsWithin, Gathers}
use Rattle.pas_rules.proofs.AsMany.{AsMany, none, and_then, next_word}
use Rattle.pas_scopes.proofs.EndLemmas.{behind_quiet, quiet_many}
use Rattle.pas_scopes.proofs.SettleLemmas.{shows_front}
use Rattle.pas_scopes.proofs.ArgumentLemmas.{stands_quiet}
use Rattle.pas_scopes.proofs.CallAnswers.{settled_is, unsettled_is}
use Rattle.pas_scopes.proofs.ListedLemmas.{AreMany, item_fails, item_short, item_quiet, values_push}

-- the word that closes the whole
module _ (words : List Word) (part : Marks) (closed : Word) (faults : List Wrong) where
  pub closing_fails : (why : Stop) → FailsBy words part why
      → FailsBy (words ++ closed ∷ []) (closed_marks part faults) why
  closing_fails stop.OutOfMemory h = tt
  closing_fails (stop.Fault fault) h =
      shows_front words (closed ∷ []) part (shows faults) fault (next_word closed faults no_token none) h
  closing_fails stop.Missing h = absurd h

  closing_first : (behind : List Wrong) → behind ≡ shown_behind true
      → lowest (wrong WRONG_TYPE) faults ≡ wrong WRONG_TYPE
      → first_fault (closed ∷ []) ((behind ++ faults) ∷ []) ≡ Some (fault_in closed.token.line (wrong WRONG_TYPE))
  closing_first behind is low =
      ap (λ (shown : List Wrong). first_fault (closed ∷ []) ((shown ++ faults) ∷ [])) is
      ∙ ap (λ (found : Wrong). Some (fault_in closed.token.line found)) low

  pub closing_short : lowest (wrong WRONG_TYPE) faults ≡ wrong WRONG_TYPE → IsQuiet words part true
      → Shows (words ++ closed ∷ []) (closed_marks part faults) (fault_in closed.token.line (wrong WRONG_TYPE))
  closing_short low h = record {
    many = (and_then part (shows faults) (record { same = quiet_many words part.tokens h.still })
        (next_word closed faults no_token none)).same;
    first = behind_quiet words (closed ∷ []) part.tokens ((part.behind ++ faults) ∷ []) h.still
        ∙ closing_first part.behind h.behind low;
  }

-- the line behind an argument
abbrev pub line_at : (closed : ℕ) → List (CodeBehind CodeArgument) → ℕ
line_at closed [] = closed
line_at closed (behind ∷ more) = behind.line

pub line_dropped : (closed : ℕ) (xs : List (CodeBehind CodeArgument)) (i : ℕ)
    → line_behind closed (slice_get xs i) ≡ line_at closed (drop i xs)
line_dropped closed [] zero = refl
line_dropped closed [] (suc i) = refl
line_dropped closed (x ∷ xs) zero = refl
line_dropped closed (x ∷ xs) (suc i) = line_dropped closed xs i

pub line_moved : (closed : ℕ) (xs all : List (CodeBehind CodeArgument)) (i line : ℕ) → xs ≡ all
    → line ≡ line_behind closed (slice_get all (i + 1)) → line ≡ line_at closed (drop (suc i) xs)
line_moved closed xs all i line same is =
    is ∙ ap (λ (found : List (CodeBehind CodeArgument)). line_behind closed (slice_get found (i + 1))) (sym same)
    ∙ ap (λ (m : ℕ). line_behind closed (slice_get xs m)) (omega arith) ∙ line_dropped closed xs (suc i)

module _ {B : Type 0} (scopes : Scopes) (spellings : List ℕ) (n : ℕ) (look : Actual → Judged B)
    (many : (before : Word) (argument : CodeArgument)
    → AsMany (item_at scopes spellings n look before argument).words
    (item_at scopes spellings n look before argument).part.marks) (name : Word) (closed : ℕ) where
  abbrev pub item : CodeBehind CodeArgument → Item B
  item behind = item_behind scopes spellings n look behind

  abbrev pub items : List (CodeBehind CodeArgument) → List (Item B)
  items more = items_behind scopes spellings n look more

  abbrev pub closing : Word
  closing = at n k.RightParenthesis closed

  pub items_many : (more : List (CodeBehind CodeArgument)) → AreMany (items more)
  items_many [] = tt
  items_many (behind ∷ more) = (many (at n k.Comma behind.line) behind.item, items_many more)

  -- an item that is refused, or behind which something is missing
  module _ (done : List (Item B)) (next : Item B) (after : List (CodeBehind CodeArgument))
      (still : IsQuiet (name ∷ item_words done) (items_marks done) false) (faults : List Wrong) where
    abbrev all : List (Item B)
    all = done ++ next ∷ items after

    pub next_fails : (why : Stop) → FailsBy next.words next.part.marks why
        → FailsBy ((name ∷ item_words all) ++ closing ∷ []) (closed_marks (items_marks all) faults) why
    next_fails why h =
        closing_fails (name ∷ item_words all) (items_marks all) closing faults why
        (item_fails name done next (items after) why (items_many after) still h)

    short_by : (after : List (CodeBehind CodeArgument)) → lowest (wrong WRONG_TYPE) faults ≡ wrong WRONG_TYPE
        → IsQuiet next.words next.part.marks true
        → FailsBy ((name ∷ item_words (done ++ next ∷ items after)) ++ closing ∷ [])
        (closed_marks (items_marks (done ++ next ∷ items after)) faults)
        (shown_in (line_at closed after) (wrong WRONG_TYPE))
    short_by [] low h =
        closing_short (name ∷ item_words (done ++ next ∷ [])) (items_marks (done ++ next ∷ [])) closing faults low
        (item_quiet name done next true still h)
    short_by (behind ∷ more) low h =
        subst (λ (all : List (Item B)). FailsBy ((name ∷ item_words all) ++ closing ∷ [])
        (closed_marks (items_marks all) faults) (shown_in behind.line (wrong WRONG_TYPE)))
        (append_assoc done (next ∷ []) (item behind ∷ items more))
        (closing_fails (name ∷ item_words ((done ++ next ∷ []) ++ item behind ∷ items more))
        (items_marks ((done ++ next ∷ []) ++ item behind ∷ items more)) closing faults
        (shown_in behind.line (wrong WRONG_TYPE))
        (item_short name (done ++ next ∷ []) (item behind) (items more) (items_many (behind ∷ more))
        (item_quiet name done next true still h)))

    pub next_short : lowest (wrong WRONG_TYPE) faults ≡ wrong WRONG_TYPE → IsQuiet next.words next.part.marks true
        → FailsBy ((name ∷ item_words all) ++ closing ∷ []) (closed_marks (items_marks all) faults)
        (shown_in (line_at closed after) (wrong WRONG_TYPE))
    next_short low h = short_by after low h

  -- all of them, one after another
  module _ {X : Type 0} (view : X → B) (before : List B) (first : Item B) where
    pub begun : (found : List X) → map view found ≡ before
        → IsQuiet (name ∷ item_words (first ∷ [])) (items_marks (first ∷ [])) false
        → Gathered view before name first [] found
    begun found same still = record {
      still = still;
      values = [];
      known = refl;
      same = same ∙ sym (append-nil before);
    }

    module _ (all done : List (CodeBehind CodeArgument)) (next : CodeBehind CodeArgument)
        (after : List (CodeBehind CodeArgument)) (split : all ≡ done ++ next ∷ after) (found : List X)
        (so_far : Gathered view before name first (items done) found) where
      split_items : first ∷ items all ≡ (first ∷ items done) ++ item next ∷ items after
      split_items =
          ap (λ (found : List (CodeBehind CodeArgument)). first ∷ items found) split
          ∙ ap (λ (found : List (Item B)). first ∷ found) (map-append item done (next ∷ after))

      pub more_fails : (why : Stop) → FailsBy (item next).words (item next).part.marks why
          → FailsWithin name first (items all) closing why
      more_fails why h faults low =
          subst (λ (list : List (Item B)). FailsBy ((name ∷ item_words list) ++ closing ∷ [])
          (closed_marks (items_marks list) faults) why) (sym split_items)
          (next_fails (first ∷ items done) (item next) after so_far.still faults why h)

      module _ (judged : CodeJudged X)
          (stands : StandsAs (item next).words (item next).part (view judged.value) (end_in judged.end)) where
        pub more_short : (line : ℕ) (why : Stop) → line ≡ line_at closed after
            → Err why ≡ found_before line (settled_by (end_in judged.end) judged.value)
            → FailsWithin name first (items all) closing why
        more_short line why same is faults low =
            let end : Ending = end_in judged.end in
            let short = unsettled_is end.line line end.refusal end.is_short judged.value why stands.lawful is in
            subst (λ (list : List (Item B)). FailsBy ((name ∷ item_words list) ++ closing ∷ [])
            (closed_marks (items_marks list) faults) why) (sym split_items)
            (subst (λ (reason : Stop). FailsBy ((name ∷ item_words ((first ∷ items done) ++ item next ∷ items after))
            ++ closing ∷ []) (closed_marks (items_marks ((first ∷ items done) ++ item next ∷ items after)) faults)
            reason) (sym (short.1 ∙ ap (λ (at : ℕ). shown_in at (wrong WRONG_TYPE)) same))
            (next_short (first ∷ items done) (item next) after so_far.still faults low
            (subst (IsQuiet (item next).words (item next).part.marks) short.0
            (stands_quiet (item next).words (item next).part (view judged.value) end stands))))

        pub one_more : (line : ℕ) (value : X)
            → Ok value ≡ found_before line (settled_by (end_in judged.end) judged.value)
            → Gathered view before name first (items (done ++ next ∷ [])) (found ++ value ∷ [])
        one_more line value is =
            let end : Ending = end_in judged.end in
            let whole = settled_is end.line line end.refusal end.is_short judged.value value stands.lawful is in
            let pushed : items (done ++ next ∷ []) ≡ items done ++ item next ∷ [] =
            map-append item done (next ∷ []) in
            subst (λ (list : List (Item B)). Gathered view before name first list (found ++ value ∷ [])) (sym pushed)
            record {
              still = item_quiet name (first ∷ items done) (item next) false so_far.still
                  (subst (IsQuiet (item next).words (item next).part.marks) whole.1
                  (stands_quiet (item next).words (item next).part (view judged.value) end stands));
              values = so_far.values ++ view judged.value ∷ [];
              known = values_push (items done) (item next) so_far.values (view judged.value) so_far.known
                  stands.ends.known;
              same = map-append view found (value ∷ [])
                  ∙ ap (λ (x : X). map view found ++ view x ∷ []) whole.0
                  ∙ ap (λ (front : List B). front ++ view judged.value ∷ []) so_far.same
                  ∙ append_assoc before so_far.values (view judged.value ∷ []);
            }

pub gathers_stop : {X B : Type 0} (view : X → B) (before : List B) (items : List (Item B)) (closed : Word) (why : Stop)
    (result : Result (List X) Stop) → ((found : Stop) × (result ≡ Err found) × (found ≡ why))
    → ((name : Word) (first : Item B) → IsQuiet (name ∷ item_words (first ∷ [])) (items_marks (first ∷ [])) false
    → FailsWithin name first items closed why)
    → Gathers view before items closed result
gathers_stop view before items closed why result is h =
    subst (Gathers view before items closed) (sym (is.1 ∙ ap Err is.2)) h
