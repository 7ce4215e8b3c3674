-- The indexes of an array, one behind another.
use Rattle.std.proofs.Common.{◌≡◌, refl, sym, ap, subst, ◌∙◌, ℕ, ◌+◌, ◌<◌, ◌≤◌, arith, zero, suc, false, List, []}
use Rattle.std.proofs.Common.{◌∷◌}
use Rattle.std.proofs.Common.{◌++◌, map, length, take, drop, get_or, Option, Some, Ok, Err}
use Rattle.std.specs.Prelude.{flat_map, option_to_list, option_map, unwrap_or, ⊤}
use Rattle.std.proofs.lemmas.List.{append_assoc, append-nil, map-append, take_more, take_all}
use Rattle.pas_tokens.specs.declared.kinds.Kind.TheVariants as k
use Rattle.pas_syntax.specs.declared.tree.Simple.{Simple as CodeSimple}
use Rattle.pas_syntax.specs.declared.tree.Behind.{Behind as CodeBehind}
use Rattle.pas_syntax.specs.Views.{simple_in, behind_in}
use Rattle.pas_syntax.specs.Tree.{Behind, Simple, Separated}
use Rattle.pas_syntax.specs.Words.{Word, at, separated, simple_words}
use Rattle.pas_typed.specs.declared.types.Range.{Range as CodeRange}
use Rattle.pas_typed.specs.TypeViews.{range_view}
use Rattle.pas_typed.specs.Types.{Range, Table, range_of, Made}
use Rattle.pas_scopes.specs.declared.stop.Stop.{Stop}
use Rattle.pas_rules.specs.Marks.{Marks, no_token, quiet, joined, Judged, checked}
use Rattle.pas_rules.specs.Scopes.{Scopes}
use Rattle.pas_rules.specs.TypeForms.{Indexes, simple_of, index_only, no_indexes, one_more, with_index, more_indexes}
use Rattle.pas_rules.specs.TypeForms.{table_of_indexes, indexes_of}
use Rattle.pas_scopes.specs.Answers.{StopsBy, FailsBy, IsQuiet, Means}
use Rattle.pas_scopes.specs.FormAnswers.{indexes_view}
use Rattle.pas_scopes.specs.TypeAnswers.{IsIndex}
use Rattle.pas_rules.proofs.AsMany.{behind_word, checked_many}
use Rattle.pas_rules.proofs.TypesAsMany.{simple_many}
use Rattle.pas_scopes.proofs.AnswerLemmas.{stops_fails}
use Rattle.pas_scopes.proofs.SettleLemmas.{quiet_word, quiet_alone, nothing_shown}
use Rattle.pas_scopes.proofs.SequenceLemmas.{fails_front, listed_quiet, listed_fails, alone_fails, known_both}

module _ (s : Scopes) (table : Table) (n : ℕ) where
  abbrev comma : Behind Simple → List Word
  comma behind = at n k.Comma behind.line ∷ simple_words n behind.item

  abbrev rest_words : List (Behind Simple) → List Word
  rest_words more = flat_map comma more

  abbrev index : Judged Indexes → Simple → Judged Made
  index before item = simple_of s (table_of_indexes table before) item

  -- an index behind others, which the definition sees over the table behind these
  table_is : (before : Judged Indexes) (found : Indexes) → before.value ≡ Some found
      → table_of_indexes table before ≡ found.table
  table_is before found is =
      ap (λ (value : Option Indexes). unwrap_or (option_map (λ (indexes : Indexes). indexes.table) value) table) is

  one_more_is : (ranges : List CodeRange) (now next : Table) (range : CodeRange) (found : Made) → found.table ≡ next
      → range_of next found.type ≡ Some (range_view range)
      → one_more (indexes_view now ranges) found ≡ indexes_view next (ranges ++ range ∷ [])
  one_more_is ranges now next range found at is =
      ap (λ (behind : Table). record {
        ranges = map range_view ranges ++ option_to_list (range_of behind found.type);
        table = behind;
      }) at
      ∙ ap (λ (some : Option Range). record { ranges = map range_view ranges ++ option_to_list some; table = next })
      is
      ∙ ap (λ (all : List Range). record { ranges = all; table = next })
      (sym (map-append range_view ranges (range ∷ [])))

  module _ (words between : List Word) (separator : Marks) (still : IsQuiet between separator false)
      (before : Judged Indexes) (ranges : List CodeRange) (now : Table)
      (h : Means words before (indexes_view now ranges)) (item : Simple) where
    abbrev part : Judged Made
    part = checked index_only (index before item)

    abbrev part_now : Judged Made
    part_now = checked index_only (simple_of s now item)

    part_is : part_now ≡ part
    part_is = ap (λ (at : Table). checked index_only (simple_of s at item))
        (sym (table_is before (indexes_view now ranges) h.known))

    pub index_behind : (next : Table) (range : CodeRange) (found : Made) → found.table ≡ next
        → range_of next found.type ≡ Some (range_view range) → Means (simple_words n item) part_now found
        → Means (words ++ (between ++ simple_words n item)) (with_index separator before (index before item))
        (indexes_view next (ranges ++ range ∷ []))
    index_behind next range found at is k =
        let seen : Means (simple_words n item) part found =
        subst (λ (p : Judged Made). Means (simple_words n item) p found) part_is k in
        record {
          known = known_both one_more before.value part.value (indexes_view now ranges) found h.known seen.known
              ∙ ap Some (one_more_is ranges now next range found at is);
          quiet = listed_quiet words between (simple_words n item) before.marks separator (joined (part.marks ∷ []))
              h.quiet still (quiet_alone (simple_words n item) part.marks false seen.quiet);
        }

    pub index_fails : (why : Stop) → StopsBy (simple_words n item) part_now why
        → FailsBy (words ++ (between ++ simple_words n item)) (with_index separator before (index before item)).marks
        why
    index_fails why k =
        listed_fails words between (simple_words n item) before.marks separator (joined (part.marks ∷ [])) why h.quiet
        still (alone_fails (simple_words n item) part.marks why
        (stops_fails (simple_words n item) part why
        (subst (λ (p : Judged Made). StopsBy (simple_words n item) p why) part_is k)))

  -- what stands behind an index in which checking stops
  rest_fails : (words : List Word) (before : Judged Indexes) (more : List (Behind Simple)) (why : Stop)
      → FailsBy words before.marks why
      → FailsBy (words ++ rest_words more) (more_indexes s table before more).marks why
  rest_fails words before [] why h =
      subst (λ (all : List Word). FailsBy all before.marks why) (sym (append-nil words)) h
  rest_fails words before (behind ∷ more) why h =
      let part : Judged Made = checked index_only (index before behind.item) in
      let next : Judged Indexes = with_index quiet before (index before behind.item) in
      subst (λ (all : List Word). FailsBy all (more_indexes s table next more).marks why)
      (append_assoc words (comma behind) (rest_words more))
      (rest_fails (words ++ comma behind) next more why
      (fails_front words (comma behind) before.marks (joined (quiet ∷ part.marks ∷ [])) why
      (behind_word (at n k.Comma behind.line) part.marks
      (checked_many index_only (index before behind.item)
      (simple_many s (table_of_indexes table before) n behind.item))) h))

  more_push : (before : Judged Indexes) (some more : List (Behind Simple))
      → more_indexes s table before (some ++ more) ≡ more_indexes s table (more_indexes s table before some) more
  more_push before [] more = refl
  more_push before (behind ∷ some) more = more_push (with_index quiet before (index before behind.item)) some more

  words_push : (some more : List (Behind Simple)) → rest_words (some ++ more) ≡ rest_words some ++ rest_words more
  words_push [] more = refl
  words_push (behind ∷ some) more =
      ap (λ (rest : List Word). comma behind ++ rest) (words_push some more)
      ∙ sym (append_assoc (comma behind) (rest_words some) (rest_words more))

  -- so far
  abbrev first_part : Simple → Judged Indexes
  first_part first = with_index no_token (no_indexes table) (simple_of s table first)

  abbrev pub SoFar : Simple → List (Behind Simple) → List CodeRange → Table → Type 0
  SoFar first before ranges now =
      Means (simple_words n first ++ rest_words before) (more_indexes s table (first_part first) before)
      (indexes_view now ranges)

  pub first_means : (first : Simple) (next : Table) (range : CodeRange)
      → IsIndex (⊤) (simple_words n first) (checked index_only (simple_of s table first)) next (Ok range)
      → SoFar first [] (range ∷ []) next
  first_means first next range h =
      subst (λ (words : List Word). Means words (first_part first) (indexes_view next (range ∷ [])))
      (sym (append-nil (simple_words n first)))
      (index_behind [] [] no_token nothing_shown (no_indexes table) [] table
      (record { known = refl; quiet = nothing_shown }) first next range h.0 h.1 h.2 h.3)

  pub first_fails : (first : Simple) (more : List (Behind Simple)) (why : Stop)
      → StopsBy (simple_words n first) (checked index_only (simple_of s table first)) why
      → FailsBy (simple_words n first ++ rest_words more) (more_indexes s table (first_part first) more).marks why
  first_fails first more why h =
      rest_fails (simple_words n first) (first_part first) more why
      (index_fails [] [] no_token nothing_shown (no_indexes table) [] table
      (record { known = refl; quiet = nothing_shown }) first why h)

  module _ (first : Simple) (before : List (Behind Simple)) (behind : Behind Simple) (ranges : List CodeRange)
      (now : Table) (h : SoFar first before ranges now) where
    abbrev found : Judged Indexes
    found = more_indexes s table (first_part first) before

    all_words : (more : List (Behind Simple))
        → (simple_words n first ++ rest_words before) ++ rest_words more
        ≡ simple_words n first ++ rest_words (before ++ more)
    all_words more =
        append_assoc (simple_words n first) (rest_words before) (rest_words more)
        ∙ ap (λ (rest : List Word). simple_words n first ++ rest) (sym (words_push before more))

    one_words : (simple_words n first ++ rest_words before) ++ comma behind
        ≡ simple_words n first ++ rest_words (before ++ behind ∷ [])
    one_words =
        ap (λ (last : List Word). (simple_words n first ++ rest_words before) ++ last)
        (sym (append-nil (comma behind)))
        ∙ all_words (behind ∷ [])

    pub next_means : (next : Table) (range : CodeRange)
        → IsIndex (⊤) (simple_words n behind.item) (checked index_only (simple_of s now behind.item)) next (Ok range)
        → SoFar first (before ++ behind ∷ []) (ranges ++ range ∷ []) next
    next_means next range one =
        subst (λ (words : List Word). Means words (more_indexes s table (first_part first) (before ++ behind ∷ []))
        (indexes_view next (ranges ++ range ∷ []))) one_words
        (subst (λ (part : Judged Indexes). Means ((simple_words n first ++ rest_words before) ++ comma behind) part
        (indexes_view next (ranges ++ range ∷ []))) (sym (more_push (first_part first) before (behind ∷ [])))
        (index_behind (simple_words n first ++ rest_words before) (at n k.Comma behind.line ∷ []) quiet
        (quiet_word (at n k.Comma behind.line)) found ranges now h behind.item next range one.0 one.1 one.2 one.3))

    pub next_fails : (more : List (Behind Simple)) (why : Stop)
        → StopsBy (simple_words n behind.item) (checked index_only (simple_of s now behind.item)) why
        → FailsBy (simple_words n first ++ rest_words (before ++ behind ∷ more))
        (more_indexes s table (first_part first) (before ++ behind ∷ more)).marks why
    next_fails more why one =
        let next : Judged Indexes = with_index quiet found (index found behind.item) in
        subst (λ (words : List Word). FailsBy words
        (more_indexes s table (first_part first) (before ++ behind ∷ more)).marks why) (all_words (behind ∷ more))
        (subst (λ (part : Judged Indexes). FailsBy ((simple_words n first ++ rest_words before)
        ++ rest_words (behind ∷ more)) part.marks why) (sym (more_push (first_part first) before (behind ∷ more)))
        (subst (λ (words : List Word). FailsBy words (more_indexes s table next more).marks why)
        (append_assoc (simple_words n first ++ rest_words before) (comma behind) (rest_words more))
        (rest_fails ((simple_words n first ++ rest_words before) ++ comma behind) next more why
        (index_fails (simple_words n first ++ rest_words before) (at n k.Comma behind.line ∷ []) quiet
        (quiet_word (at n k.Comma behind.line)) found ranges now h behind.item why one))))

-- the same over the code's list
abbrev pub seen_behind : List ℕ → List (CodeBehind CodeSimple) → List (Behind Simple)
seen_behind spellings more = map (behind_in (simple_in spellings)) more

abbrev pub all_indexes : Simple → List (Behind Simple) → Separated Simple
all_indexes first more = record { first = first; more = more }

module _ (Clear : Type 0) (s : Scopes) (table : Table) (n : ℕ) (first : Simple) (spellings : List ℕ)
    (more : List (CodeBehind CodeSimple)) (i : ℕ) (d : CodeBehind CodeSimple) (ranges : List CodeRange) (now : Table)
    (h : SoFar s table n first (seen_behind spellings (take i more)) ranges now) where
  abbrev item : Simple
  item = simple_in spellings (get_or more i d).item

  pub index_more : i < length more → (next : Table) (range : CodeRange)
      → IsIndex Clear (simple_words n item) (checked index_only (simple_of s now item)) next (Ok range)
      → SoFar s table n first (seen_behind spellings (take (i + 1) more)) (ranges ++ range ∷ []) next
  index_more within next range one =
      subst (λ (before : List (Behind Simple)). SoFar s table n first before (ranges ++ range ∷ []) next)
      (sym (ap (seen_behind spellings) (take_more more i d within)
      ∙ map-append (behind_in (simple_in spellings)) (take i more) (get_or more i d ∷ [])))
      (next_means s table n first (seen_behind spellings (take i more))
      (behind_in (simple_in spellings) (get_or more i d)) ranges now h next range one)

  pub index_stopped : i < length more → (why : Stop)
      → IsIndex Clear (simple_words n item) (checked index_only (simple_of s now item)) now (Err why) → Clear
      → FailsBy (separated n k.Comma (simple_words n) (all_indexes first (seen_behind spellings more)))
      (indexes_of s table (all_indexes first (seen_behind spellings more))).marks why
  index_stopped within why one clear =
      subst (λ (all : List (Behind Simple)).
      FailsBy (separated n k.Comma (simple_words n) (all_indexes first all))
      (indexes_of s table (all_indexes first all)).marks why)
      (sym (ap (seen_behind spellings) (split more i within)
      ∙ map-append (behind_in (simple_in spellings)) (take i more) (get_or more i d ∷ drop (suc i) more)))
      (next_fails s table n first (seen_behind spellings (take i more))
      (behind_in (simple_in spellings) (get_or more i d)) ranges now h (seen_behind spellings (drop (suc i) more)) why
      (one clear))
    where
      split : (xs : List (CodeBehind CodeSimple)) (i : ℕ) → i < length xs
          → xs ≡ take i xs ++ get_or xs i d ∷ drop (suc i) xs
      split [] i h = absurd (omega (arith, h))
      split (x ∷ xs) zero h = refl
      split (x ∷ xs) (suc i) h = ap (λ rest. x ∷ rest) (split xs i (omega (arith, h)))

  pub indexes_mean : length more ≤ i
      → Means (separated n k.Comma (simple_words n) (all_indexes first (seen_behind spellings more)))
      (indexes_of s table (all_indexes first (seen_behind spellings more))) (indexes_view now ranges)
  indexes_mean all =
      subst (λ (taken : List (CodeBehind CodeSimple)).
      SoFar s table n first (seen_behind spellings taken) ranges now) (take_all i more all) h
