-- The arguments of a call as they are passed, one after another.
use Rattle.std.proofs.Common.{◌≡◌, refl, sym, ap, subst, ◌∙◌, ℕ, suc, ◌+◌, arith, Bool, true, false, List, [], ◌∷◌}
use Rattle.std.proofs.Common.{◌++◌}
use Rattle.std.proofs.Common.{length, map, Option, None, Result, Ok, Err}
use Rattle.std.specs.Prelude.{nat_le, slice_get, option_map}
use Rattle.std.proofs.lemmas.List.{map-append}
use Rattle.wb_base.specs.declared.faults.TheConstants.{WRONG_TYPE}
use Rattle.pas_tokens.specs.Cutting.{wrong}
use Rattle.pas_syntax.specs.Words.{Word}
use Rattle.pas_typed.specs.declared.typed.Variable.{Variable as CodeVariable}
use Rattle.pas_typed.specs.declared.typed.Passed as code_passed
use Rattle.pas_typed.specs.TypedViews.{passed_view, passed_views}
use Rattle.pas_typed.specs.Types.{Table}
use Rattle.pas_typed.specs.Typed.{Passed, Variable}
use Rattle.pas_rules.specs.Calls.{routine_without}
use Rattle.pas_scopes.specs.declared.stop.Stop.{Stop}
use Rattle.pas_scopes.specs.declared.judged.Judged.{Judged as CodeJudged}
use Rattle.pas_rules.specs.Marks.{Judged}
use Rattle.pas_scopes.specs.Stopping.{shown_in, found_before, demanded}
use Rattle.pas_scopes.specs.Answers.{Ending, end_in, settled_by, EndsAs, StopsBy, StandsAs, FailsBy, closed_end}
use Rattle.pas_scopes.specs.Answers.{IsQuiet, Means, Settles}
use Rattle.pas_scopes.specs.Ends.{refusal_behind, Ends}
use Rattle.pas_scopes.specs.Arguments.{Taker, taken_by, passing_in}
use Rattle.pas_scopes.proofs.EndLemmas.{end_quiet}
use Rattle.pas_scopes.proofs.AnswerLemmas.{refused_shows, stops_fails}
use Rattle.pas_scopes.proofs.SettleLemmas.{fails_shows, settles_stop, settles_why}
use Rattle.pas_scopes.proofs.ArgumentLemmas.{Argued, AreArgued, Taken, none_taken, taken_more}
use Rattle.pas_scopes.proofs.CallAnswers.{settled_is, unsettled_is, takers_of, taker_at, whole_words, whole}
use Rattle.pas_scopes.proofs.CallAnswers.{whole_fails}
use Rattle.pas_scopes.proofs.CallAnswers.{whole_short, whole_ends, whole_few}

module _ {M : Type 0} (argued : M → Argued) (many : (more : List M) → AreArgued (map argued more)) (first : Argued)
    (items : List M) (name_word closing : Word) (spellings : List ℕ) (table : Table) (parameters : List CodeVariable)
  where
    abbrev behind : List M → List Argued
    behind more = map argued more

    abbrev takers : List (Taker (Passed → Passed))
    takers = takers_of spellings table parameters

    abbrev words : List Word
    words = whole_words spellings table parameters first (behind items) name_word closing

    abbrev part : Judged Passed
    part = whole spellings table parameters first (behind items) name_word closing

    abbrev next_part : Option CodeVariable → Argued → Judged (Passed → Passed)
    next_part parameter argued = taken_by (option_map (passing_in spellings table) parameter) argued.argument

    -- how far passing arguments has come, of which the last one is not settled yet
    pub record SoFar (done : List M) (passed : List code_passed.Passed)
        (last : CodeJudged code_passed.Passed) : Type 0 where
      pub values : Taken name_word takers (first ∷ behind done) (map passed_view passed ++ passed_view last.value ∷ [])
          (end_in last.end).is_short
      pub lawful : (end_in last.end).refusal ≡ None
      pub count : length passed ≡ length done

    at_taker : (i : ℕ) (parameter : Option CodeVariable) → parameter ≡ slice_get parameters i
        → option_map (passing_in spellings table) parameter ≡ slice_get takers i
    at_taker i parameter is =
        ap (option_map (passing_in spellings table)) is ∙ sym (taker_at spellings table parameters i)

    pub first_stops : (parameter : Option CodeVariable) (why : Stop) → parameter ≡ slice_get parameters 0
        → FailsBy first.words (next_part parameter first).marks why
        → StopsBy words part why
    first_stops parameter why is h =
        (whole_fails spellings table parameters first (behind items) name_word closing [] first
        (behind items) [] why refl (many items) (none_taken name_word takers)
        (subst (λ (taker : Option (Taker (Passed → Passed))).
        FailsBy first.words (taken_by taker first.argument).marks why) (at_taker 0 parameter is) h))

    pub begun : (parameter : Option CodeVariable) (last : CodeJudged code_passed.Passed)
        → parameter ≡ slice_get parameters 0
        → StandsAs first.words (next_part parameter first) (passed_view last.value)
        (end_in last.end) → SoFar [] [] last
    begun parameter last is h = record {
      values = taken_more name_word takers [] first [] (passed_view last.value) (end_in last.end)
          (none_taken name_word takers)
          (subst (λ (taker : Option (Taker (Passed → Passed))). StandsAs first.words (taken_by taker first.argument)
          (passed_view last.value) (end_in last.end)) (at_taker 0 parameter is) h);
      lawful = h.lawful;
      count = refl;
    }

    module _ (done : List M) (passed : List code_passed.Passed)
        (last : CodeJudged code_passed.Passed) (so_far : SoFar done passed last) (more : M) where
      abbrev next : Argued
      next = argued more

      abbrev values : List (Passed → Passed)
      values = map passed_view passed ++ passed_view last.value ∷ []

      split_more : (after : List M) → items ≡ done ++ more ∷ after
          → first ∷ behind items ≡ (first ∷ behind done) ++ next ∷ behind after
      split_more after is =
          ap (λ (all : List M). first ∷ behind all) is
          ∙ ap (λ (all : List Argued). first ∷ all)
          (map-append argued done (more ∷ after))

      behind_count : (done : List M) → length (behind done) ≡ length done
      behind_count [] = refl
      behind_count (one ∷ done) = ap suc (behind_count done)

      next_taker : (parameter : Option CodeVariable) → parameter ≡ slice_get parameters (length done + 1)
          → option_map (passing_in spellings table) parameter ≡ slice_get takers (length (first ∷ behind done))
      next_taker parameter is =
          let count : length done + 1 ≡ length (first ∷ behind done) = omega (arith, behind_count done) in
          at_taker (length (first ∷ behind done)) parameter (is ∙ ap (slice_get parameters) count)

      pub more_unsettled : (after : List M) (why : Stop)
          → items ≡ done ++ more ∷ after
          → Err why ≡ found_before next.before.token.line (settled_by (end_in last.end) last.value)
          → StopsBy words part why
      more_unsettled after why split is =
          let end : Ending = end_in last.end in
          let short = unsettled_is end.line next.before.token.line end.refusal end.is_short last.value why so_far.lawful
          is in
          (subst (StopsBy words part) (sym short.1)
          (whole_short spellings table parameters first (behind items) name_word closing
          (first ∷ behind done) next (behind after) values (split_more after split) (many (more ∷ after))
          (subst (Taken name_word takers (first ∷ behind done) values) short.0 so_far.values)))

      module _ (value : code_passed.Passed)
          (settled : Ok value ≡ found_before next.before.token.line (settled_by (end_in last.end) last.value))
          (parameter : Option CodeVariable) (is : parameter ≡ slice_get parameters (length done + 1)) where
        whole_last : (value ≡ last.value) × ((end_in last.end).is_short ≡ false)
        whole_last =
            settled_is (end_in last.end).line next.before.token.line (end_in last.end).refusal
            (end_in last.end).is_short last.value value so_far.lawful settled

        settled_values : Taken name_word takers (first ∷ behind done) values false
        settled_values = subst (Taken name_word takers (first ∷ behind done) values) whole_last.1 so_far.values

        pub more_stops : (after : List M) (why : Stop)
            → items ≡ done ++ more ∷ after
            → FailsBy next.words (next_part parameter next).marks why
            → StopsBy words part why
        more_stops after why split h =
            (whole_fails spellings table parameters first (behind items) name_word closing
            (first ∷ behind done) next (behind after) values why (split_more after split) (many after) settled_values
            (subst (λ (taker : Option (Taker (Passed → Passed))).
            FailsBy next.words (taken_by taker next.argument).marks why) (next_taker parameter is) h))

        pushed_values : map passed_view (passed ++ value ∷ []) ≡ values
        pushed_values =
            map-append passed_view passed (value ∷ [])
            ∙ ap (λ (found : code_passed.Passed). map passed_view passed ++ passed_view found ∷ []) whole_last.0

        pub one_more : (found : CodeJudged code_passed.Passed)
            → StandsAs next.words (next_part parameter next) (passed_view found.value)
            (end_in found.end) → SoFar (done ++ more ∷ []) (passed ++ value ∷ []) found
        one_more found h = record {
          values = subst (λ (before : List Argued). Taken name_word takers (first ∷ before)
              (map passed_view (passed ++ value ∷ []) ++ passed_view found.value ∷ []) (end_in found.end).is_short)
              (sym (map-append argued done (more ∷ [])))
              (subst (λ (front : List (Passed → Passed)). Taken name_word takers ((first ∷ behind done) ++ next ∷ [])
              (front ++ passed_view found.value ∷ []) (end_in found.end).is_short) (sym pushed_values)
              (taken_more name_word takers (first ∷ behind done) next values (passed_view found.value)
              (end_in found.end) settled_values
              (subst (λ (taker : Option (Taker (Passed → Passed))). StandsAs next.words (taken_by taker next.argument)
              (passed_view found.value) (end_in found.end)) (next_taker parameter is) h)));
          lawful = h.lawful;
          count = omega (arith, so_far.count, pushed_count passed value, pushed_count done more);
        }
          where
            pushed_count : {A : Type 0} (xs : List A) (x : A) → length (xs ++ x ∷ []) ≡ suc (length xs)
            pushed_count [] x = refl
            pushed_count (first ∷ xs) x = ap suc (pushed_count xs x)

    -- all arguments
    module _ (passed all : List code_passed.Passed) (last : CodeJudged code_passed.Passed)
        (so_far : SoFar items passed last) (pushed : all ≡ passed ++ last.value ∷ []) where
      all_values : Taken name_word takers (first ∷ behind items) (map passed_view all)
          (end_in last.end).is_short
      all_values =
          subst (λ (found : List (Passed → Passed)). Taken name_word takers (first ∷ behind items) found
          (end_in last.end).is_short)
          (sym (ap (map passed_view) pushed ∙ map-append passed_view passed (last.value ∷ []))) so_far.values

      all_count : length all ≡ length (first ∷ behind items)
      all_count =
          omega (
            arith,
            ap length pushed,
            so_far.count,
            last_count passed,
            behind_counts items,
          )
        where
          last_count : (xs : List code_passed.Passed) → length (xs ++ last.value ∷ []) ≡ suc (length xs)
          last_count [] = refl
          last_count (one ∷ xs) = ap suc (last_count xs)

          behind_counts : (done : List M) → length (behind done) ≡ length done
          behind_counts [] = refl
          behind_counts (one ∷ done) = ap suc (behind_counts done)

      enough_for : (is : Bool) → nat_le (length parameters) (length all) ≡ is
          → nat_le (length parameters) (length (first ∷ behind items)) ≡ is
      enough_for is h = ap (nat_le (length parameters)) (sym all_count) ∙ h

      pub all_end : (end : Ending) → end ≡ closed_end closing.token.line (end_in last.end)
          → Ok tt ≡ demanded (nat_le (length parameters) (length all)) WRONG_TYPE closing.token.line
          → EndsAs words part (passed_views all) end
      all_end end at holds =
          (subst (EndsAs words part
          (passed_views all)) (sym at)
          (whole_ends spellings table parameters first (behind items) name_word closing all
          (end_in last.end) all_values
          (enough_for true (demand_holds (nat_le (length parameters) (length all)) holds))))
        where
          demand_holds : (is : Bool) → Ok tt ≡ demanded is WRONG_TYPE closing.token.line → is ≡ true
          demand_holds true h = refl
          demand_holds false h = cc

      pub too_few_stop : (why : Stop)
          → Err why ≡ demanded (nat_le (length parameters) (length all)) WRONG_TYPE closing.token.line
          → StopsBy words part why
      too_few_stop why h =
          let few = demand_fails (nat_le (length parameters) (length all)) h in
          (subst (StopsBy words part) (sym few.1)
          (whole_few spellings table parameters first (behind items) name_word closing
          (map passed_view all) (end_in last.end).is_short all_values (enough_for false few.0)))
        where
          demand_fails : (is : Bool) → Err why ≡ demanded is WRONG_TYPE closing.token.line
              → (is ≡ false) × (why ≡ shown_in closing.token.line (wrong WRONG_TYPE))
          demand_fails true h = cc
          demand_fails false h = (refl, cc)

      -- before the word that closes a statement
      pub closing_short : (end_in last.end).is_short ≡ true
          → FailsBy words part.marks (shown_in closing.token.line (wrong WRONG_TYPE))
      closing_short short = by (nat_le (length parameters) (length all)) refl
        where
          by : (enough : Bool) → nat_le (length parameters) (length all) ≡ enough
              → FailsBy words part.marks (shown_in closing.token.line (wrong WRONG_TYPE))
          by true is =
              let end : Ending = end_in last.end in
              refused_shows words part (passed_views all) closing.token.line (wrong WRONG_TYPE) false
              (subst (λ (is_short : Bool). Ends words part (passed_views all) closing.token.line
              (refusal_behind is_short) false) short
              (whole_ends spellings table parameters first (behind items) name_word closing all end all_values
              (enough_for true is)))
          by false is =
              stops_fails words part (shown_in closing.token.line (wrong WRONG_TYPE))
              (whole_few spellings table parameters first (behind items) name_word closing (map passed_view all)
              (end_in last.end).is_short all_values (enough_for false is))

      pub closing_means : (end_in last.end).is_short ≡ false
          → Ok tt ≡ demanded (nat_le (length parameters) (length all)) WRONG_TYPE closing.token.line
          → Means words part (passed_views all)
      closing_means whole holds =
          let end : Ending = end_in last.end in
          let ends : Ends words part (passed_views all) closing.token.line None false =
          subst (λ (is_short : Bool). Ends words part (passed_views all) closing.token.line (refusal_behind is_short)
          false)
          whole (all_end (closed_end closing.token.line end) refl holds) in
          record {
            known = ends.known;
            quiet = record {
              still = end_quiet words part.marks.tokens closing.token.line ends.end;
              behind = ends.behind;
            };
          }

    -- where a `?` returns early in a statement
    pub fail_settles : (why : Stop) {shown : Stop} (result : Result (List code_passed.Passed) Stop)
        → ((found : Stop) × (result ≡ Err found) × (found ≡ why)) → why ≡ shown → FailsBy words part.marks shown
        → Settles words part passed_views result
    fail_settles why result is same h =
        settles_stop words part passed_views why result is
        (fails_shows words part.marks why (subst (FailsBy words part.marks) (sym same) h))

    pub stop_settles : (why : Stop) (result : Result (List code_passed.Passed) Stop)
        → ((found : Stop) × (result ≡ Err found) × (found ≡ why)) → StopsBy words part why
        → Settles words part passed_views result
    stop_settles why result is h =
        settles_stop words part passed_views why result is (settles_why words part passed_views why h)

-- the name of a procedure that is called without its arguments
pub statement_misses : (word : Word) (number : ℕ) (parameters : List Variable) → (parameters ≡ [] → ⊥)
    → IsQuiet (word ∷ []) (routine_without number None parameters).marks true
statement_misses word number [] some = absurd (some refl)
statement_misses word number (parameter ∷ parameters) some = record { still = (refl, tt); behind = refl }
