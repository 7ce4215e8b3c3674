-- What functions that check a call answer, by what they answer of its arguments.
use Rattle.std.proofs.Common.{◌≡◌, refl, sym, ap, subst, ◌∙◌, ℕ, zero, suc, ◌<◌, ◌≤◌, arith, Bool, true, false, List}
use Rattle.std.proofs.Common.{[], ◌∷◌, ◌++◌, length, map, Option, Some, None, Result, Ok, Err}
use Rattle.std.specs.Prelude.{nat_le, slice_get, option_map, option_and_then}
use Rattle.std.proofs.lemmas.Option.{none-some}
use Rattle.wb_base.specs.declared.faults.TheConstants.{WRONG_TYPE}
use Rattle.pas_tokens.specs.Cutting.{Wrong, wrong}
use Rattle.pas_syntax.specs.Words.{Word}
use Rattle.pas_typed.specs.declared.typed.Variable.{Variable as CodeVariable}
use Rattle.pas_typed.specs.declared.typed.Passed as code_passed
use Rattle.pas_typed.specs.TypedViews.{in_order, passed_view, passed_views, variable_view}
use Rattle.pas_typed.specs.Types.{Table}
use Rattle.pas_typed.specs.Typed as typed
use Rattle.pas_typed.specs.Typed.{Value, Passed, Variable}
use Rattle.pas_scopes.specs.declared.stop.Stop.{Stop}
use Rattle.pas_scopes.specs.declared.judged.Judged.{Judged as CodeJudged}
use Rattle.pas_rules.specs.Marks.{Judged, judged, known, checked}
use Rattle.pas_rules.specs.Expressions as spec
use Rattle.pas_rules.specs.Expressions.{Demand, Given, bare_argument, given, called, first_value, passed_to}
use Rattle.pas_scopes.specs.Stopping.{shown_in, found_before}
use Rattle.pas_scopes.specs.Answers.{Ending, end_in, settled_at, stands_at, EndsAs, StopsBy, StandsAs, FailsBy}
use Rattle.pas_scopes.specs.Answers.{Answers, Closes, closed_end}
use Rattle.pas_scopes.specs.Arguments.{Taker, taken_by, taken_as, plainly, passing_in, passing_part, sole_part}
use Rattle.pas_scopes.proofs.AnswerLemmas.{checked_stops_by, stops_fails, ends_moved}
use Rattle.std.proofs.lemmas.Bool.Decides.{nat_tests}
use Rattle.pas_scopes.proofs.ListedLemmas.{item_words, items_marks}
use Rattle.pas_scopes.proofs.ArgumentLemmas.{Argued, AreArgued, argued_words, givens_of, demands_of, argument_items}
use Rattle.pas_scopes.proofs.ArgumentLemmas.{Taken, none_taken, taken_more, taken_fails, taken_short, made_by}
use Rattle.pas_scopes.proofs.ArgumentLemmas.{given_values, too_few, called_fails, called_ends, called_few}

-- a part that stands is settled before a word, unless something is missing behind it
pub settled_is : {X : Type 0} (line behind : ℕ) (refusal : Option Wrong) (is_short : Bool) (x found : X)
    → refusal ≡ None → Ok found ≡ found_before behind (settled_at line refusal is_short x)
    → (found ≡ x) × (is_short ≡ false)
settled_is line behind None false x found lawful is = (cc, refl)
settled_is line behind None true x found lawful is = cc
settled_is line behind (Some refusal) is_short x found lawful is = absurd (none-some refusal (sym lawful))

pub unsettled_is : {X : Type 0} (line behind : ℕ) (refusal : Option Wrong) (is_short : Bool) (x : X) (why : Stop)
    → refusal ≡ None → Err why ≡ found_before behind (settled_at line refusal is_short x)
    → (is_short ≡ true) × (why ≡ shown_in behind (wrong WRONG_TYPE))
unsettled_is line behind None false x why lawful is = cc
unsettled_is line behind None true x why lawful is = (refl, cc)
unsettled_is line behind (Some refusal) is_short x why lawful is = absurd (none-some refusal (sym lawful))

pub stands_never : (line : ℕ) (refusal : Option Wrong) (why : Stop) → refusal ≡ None → Err why ≡ stands_at line refusal
    → ⊥
stands_never line None why lawful is = cc
stands_never line (Some refusal) why lawful is = absurd (none-some refusal (sym lawful))

-- a value of which checking stops is not taken
pub stopped_fails : {B : Type 0} (words : List Word) (taker : Taker B) (part : Judged Value) (why : Stop)
    → StopsBy words part why → FailsBy words (taken_as taker part).marks why
stopped_fails words taker part why h =
    stops_fails words (checked taker.demand part) why (checked_stops_by words taker.demand part why h)

-- the only argument of a call
module _ (demand : Demand) (first : Argued) (name closed : Word) where
  abbrev takers : List (Taker Value)
  takers = plainly demand ∷ []

  abbrev pub sole_words : List Argued → List Word
  sole_words others = name ∷ (argued_words (first ∷ others) ++ closed ∷ [])

  abbrev pub sole : List Argued → Judged Value
  sole others = sole_part demand (givens_of (first ∷ others))

  abbrev first_part : Judged Value
  first_part = taken_by (Some (plainly demand)) first.argument

  pub sole_fails : (others : List Argued) (why : Stop) → AreArgued others → FailsBy first.words first_part.marks why
      → StopsBy (sole_words others) (sole others) why
  sole_fails others why many h =
      called_fails takers first others name closed _ why
      (taken_fails name takers [] first [] others many why (none_taken name takers) h)

  module _ (value : Value) (end : Ending) (h : StandsAs first.words first_part value end) where
    one_taken : Taken name takers (first ∷ []) (value ∷ []) end.is_short
    one_taken = taken_more name takers [] first [] value end (none_taken name takers) h

    only_value : (found : List Value) → value ∷ [] ≡ made_by takers found → first_value found ≡ Some value
    only_value [] is = cc
    only_value (other ∷ found) is = let same : value ≡ other = cc in ap Some (sym same)

    sole_known : option_and_then first_value (given (demand ∷ []) (givens_of (first ∷ []))) ≡ Some value
    sole_known =
        let values = given_values takers (first ∷ []) (value ∷ []) (omega arith) one_taken.known in
        ap (option_and_then first_value) values.1 ∙ only_value values.0 values.2

    pub sole_ends : EndsAs (sole_words []) (sole []) value (closed_end closed.token.line end)
    sole_ends = called_ends takers first [] name closed _ (value ∷ []) end value one_taken refl sole_known

    pub sole_short : (second : Argued) (others : List Argued) → AreArgued (second ∷ others) → end.is_short ≡ true
        → StopsBy (sole_words (second ∷ others)) (sole (second ∷ others))
        (shown_in second.before.token.line (wrong WRONG_TYPE))
    sole_short second others many short =
        called_fails takers first (second ∷ others) name closed _ (shown_in second.before.token.line (wrong WRONG_TYPE))
        (taken_short name takers (first ∷ []) second (value ∷ []) others many.1 many.0
        (subst (Taken name takers (first ∷ []) (value ∷ [])) short one_taken))

    pub sole_many : (second : Argued) (others : List Argued) (why : Stop) → AreArgued others → end.is_short ≡ false
        → FailsBy second.words (taken_by {B = Value} None second.argument).marks why
        → StopsBy (sole_words (second ∷ others)) (sole (second ∷ others)) why
    sole_many second others why many whole k =
        called_fails takers first (second ∷ others) name closed _ why
        (taken_fails name takers (first ∷ []) second (value ∷ []) others many why
        (subst (Taken name takers (first ∷ []) (value ∷ [])) whole one_taken) k)

-- arguments as they are passed
module _ (spellings : List ℕ) (table : Table) where
  abbrev pub takers_of : List CodeVariable → List (Taker (Passed → Passed))
  takers_of parameters = map (passing_in spellings table) parameters

  abbrev pub variables_of : List CodeVariable → List Variable
  variables_of parameters = map (variable_view spellings) parameters

  demands_seen : (parameters : List CodeVariable)
      → demands_of (takers_of parameters) ≡ spec.demands_of table (variables_of parameters)
  demands_seen [] = refl
  demands_seen (parameter ∷ parameters) =
      ap (λ (demands : List Demand). (passing_in spellings table parameter).demand ∷ demands)
      (demands_seen parameters)

  passed_made : (parameters : List CodeVariable) (found : List Value)
      → passed_to (variables_of parameters) found
      ≡ in_order (made_by (takers_of parameters) found) typed.nothing
  passed_made [] found = refl
  passed_made (parameter ∷ parameters) [] = refl
  passed_made (parameter ∷ parameters) (value ∷ found) =
      ap ((passing_in spellings table parameter).make value) (passed_made parameters found)

  pub taker_at : (parameters : List CodeVariable) (i : ℕ)
      → slice_get (takers_of parameters) i ≡ option_map (passing_in spellings table) (slice_get parameters i)
  taker_at [] i = refl
  taker_at (parameter ∷ parameters) zero = refl
  taker_at (parameter ∷ parameters) (suc i) = taker_at parameters i

  taker_count : (parameters : List CodeVariable) → length (takers_of parameters) ≡ length parameters
  taker_count [] = refl
  taker_count (parameter ∷ parameters) = ap suc (taker_count parameters)

  module _ (parameters : List CodeVariable) (first : Argued) (others : List Argued) (name closed : Word) where
    abbrev pub whole_words : List Word
    whole_words = name ∷ (argued_words (first ∷ others) ++ closed ∷ [])

    abbrev pub whole : Judged Passed
    whole = passing_part table (variables_of parameters) (givens_of (first ∷ others))

    whole_by : (P : Judged Passed → Type 0)
        → P (judged (called (demands_of (takers_of parameters)) (givens_of (first ∷ others)))
        (known (passed_to (variables_of parameters))
        (given (demands_of (takers_of parameters)) (givens_of (first ∷ others))))) → P whole
    whole_by P h =
        subst (λ (demands : List Demand). P (judged (called demands (givens_of (first ∷ others)))
        (known (passed_to (variables_of parameters)) (given demands (givens_of (first ∷ others))))))
        (demands_seen parameters) h

    pub whole_fails : (before : List Argued) (next : Argued) (after : List Argued) (values : List (Passed → Passed))
        (why : Stop) → first ∷ others ≡ before ++ next ∷ after → AreArgued after
        → Taken name (takers_of parameters) before values false
        → FailsBy next.words (taken_by (slice_get (takers_of parameters) (length before)) next.argument).marks why
        → StopsBy whole_words whole why
    whole_fails before next after values why is many h k =
        whole_by (λ part. StopsBy whole_words part why)
        (called_fails (takers_of parameters) first others name closed _ why
        (subst (λ (all : List Argued). FailsBy (name ∷ item_words (argument_items (takers_of parameters) all))
        (items_marks (argument_items (takers_of parameters) all)) why) (sym is)
        (taken_fails name (takers_of parameters) before next values after many why h k)))

    pub whole_short : (before : List Argued) (next : Argued) (after : List Argued) (values : List (Passed → Passed))
        → first ∷ others ≡ before ++ next ∷ after → AreArgued (next ∷ after)
        → Taken name (takers_of parameters) before values true
        → StopsBy whole_words whole (shown_in next.before.token.line (wrong WRONG_TYPE))
    whole_short before next after values is many h =
        whole_by (λ part. StopsBy whole_words part (shown_in next.before.token.line (wrong WRONG_TYPE)))
        (called_fails (takers_of parameters) first others name closed _
        (shown_in next.before.token.line (wrong WRONG_TYPE))
        (subst (λ (all : List Argued). FailsBy (name ∷ item_words (argument_items (takers_of parameters) all))
        (items_marks (argument_items (takers_of parameters) all)) (shown_in next.before.token.line (wrong WRONG_TYPE)))
        (sym is) (taken_short name (takers_of parameters) before next values after many.1 many.0 h)))

    enough_is : (is : Bool) → nat_le (length parameters) (length (first ∷ others)) ≡ is
        → nat_le (length (takers_of parameters)) (length (first ∷ others)) ≡ is
    enough_is is h = ap (λ (n : ℕ). nat_le n (length (first ∷ others))) (taker_count parameters) ∙ h

    within : nat_le (length parameters) (length (first ∷ others)) ≡ true
        → length (takers_of parameters) ≤ length (first ∷ others)
    within h =
        let is = enough_is true h in grind (arith, nat_tests)

    beyond : nat_le (length parameters) (length (first ∷ others)) ≡ false
        → length (first ∷ others) < length (takers_of parameters)
    beyond h =
        let is = enough_is false h in grind (arith, nat_tests)

    pub whole_ends : (passed : List code_passed.Passed) (end : Ending)
        → Taken name (takers_of parameters) (first ∷ others) (map passed_view passed) end.is_short
        → nat_le (length parameters) (length (first ∷ others)) ≡ true
        → EndsAs whole_words whole (passed_views passed) (closed_end closed.token.line end)
    whole_ends passed end h enough =
        let values = given_values (takers_of parameters) (first ∷ others) (map passed_view passed) (within enough)
        h.known in
        whole_by (λ part. EndsAs whole_words part (passed_views passed) (closed_end closed.token.line end))
        (called_ends (takers_of parameters) first others name closed _ (map passed_view passed) end
        (passed_views passed) h (enough_is true enough)
        (ap (known (passed_to (variables_of parameters))) values.1
        ∙ ap Some (passed_made parameters values.0
        ∙ ap (λ (steps : List (Passed → Passed)). in_order steps typed.nothing) (sym values.2))))

    pub whole_few : (values : List (Passed → Passed)) (is_short : Bool)
        → Taken name (takers_of parameters) (first ∷ others) values is_short
        → nat_le (length parameters) (length (first ∷ others)) ≡ false
        → StopsBy whole_words whole (shown_in closed.token.line (wrong WRONG_TYPE))
    whole_few values is_short h few =
        whole_by (λ part. StopsBy whole_words part (shown_in closed.token.line (wrong WRONG_TYPE)))
        (called_few (takers_of parameters) first others name closed _ values is_short h (enough_is false few)
        (ap (known (passed_to (variables_of parameters)))
        (too_few (takers_of parameters) (first ∷ others) (beyond few))))

-- a part that a word closes
pub closes_answers : {X A : Type 0} (words : List Word) (part : Judged A) (view : X → A) (found : CodeJudged X)
    (line : ℕ) (result : Result (CodeJudged X) Stop) → Closes found line result → (end_in found.end).refusal ≡ None
    → EndsAs words part (view found.value) (closed_end line (end_in found.end)) → Answers words part view result
closes_answers words part view found line (Ok made) h lawful ends =
    ends_moved words part (view found.value) (view made.value) (closed_end line (end_in found.end)) (end_in made.end)
    (ap view h.1) h.2 ends
closes_answers words part view found line (Err why) h lawful ends =
    absurd (stands_never (end_in found.end).line (end_in found.end).refusal why lawful h)
