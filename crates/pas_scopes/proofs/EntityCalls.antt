-- What the call of a name is, by what the name stands for.
use Rattle.std.proofs.Common.{◌≡◌, refl, sym, ap, subst, ◌∙◌, ℕ, suc, ◌+◌, arith, Bool, true, false, List, []}
use Rattle.std.proofs.Common.{◌∷◌, ◌++◌, length, map, Option, Some, None, Result, Err}
use Rattle.std.specs.Prelude.{◌≢◌, is_some, option_map, option_and_then, if◌then◌else◌}
use Rattle.std.proofs.lemmas.List.{length-append}
use Rattle.wb_base.specs.declared.faults.TheConstants.{WRONG_TYPE, FILE_RULE}
use Rattle.pas_tokens.specs.declared.kinds.Kind.TheVariants as k
use Rattle.pas_tokens.specs.Cutting.{Wrong, wrong}
use Rattle.pas_tokens.specs.Tokens.{fault_in}
use Rattle.pas_syntax.specs.Tree as tree
use Rattle.pas_syntax.specs.Tree.{Ident, Exprs}
use Rattle.pas_syntax.specs.Words.{Word, at, name_at, exprs_words, factor_words}
use Rattle.pas_typed.specs.declared.typed.Heading.{Heading as CodeHeading}
use Rattle.pas_typed.specs.declared.types.PasType.{PasType as CodePasType}
use Rattle.pas_typed.specs.Types.{Table, text, same_type}
use Rattle.pas_typed.specs.TypeViews.{type_view}
use Rattle.pas_typed.specs.TypedViews.{heading_view, variable_view}
use Rattle.pas_typed.specs.Typed as typed
use Rattle.pas_typed.specs.Typed.{Heading, Value, Place, Passed, FileTest}
use Rattle.pas_typed.specs.TypeOf.{type_of}
use Rattle.pas_scopes.specs.declared.names.Entity.{Entity as CodeEntity}
use Rattle.pas_scopes.specs.declared.names.Entity.TheVariants as code
use Rattle.pas_scopes.specs.declared.stop.Stop.{Stop}
use Rattle.pas_scopes.specs.declared.stop.Stop.TheVariants as stop
use Rattle.pas_rules.specs.Marks.{Marks, shows, quiet, joined, listed, Judged, judged, known, checked, unless}
use Rattle.pas_rules.specs.Scopes.{Scopes, routine, unclear}
use Rattle.pas_scopes.specs.NameViews.{entity_view}
use Rattle.pas_rules.specs.Expressions.{Given, Demand, bare_argument, values_of, as_call, not_called, met}
use Rattle.pas_rules.specs.Expressions.{asked_nothing}
use Rattle.pas_rules.specs.Expressions.{heading_of, function_call_of, call_with, called, given, demands_of, passed_to}
use Rattle.pas_rules.specs.Expressions.{file_in}
use Rattle.pas_rules.specs.Expressions.{is_file, test_demand, first_value}
use Rattle.pas_scopes.specs.Stopping.{shown_in}
use Rattle.pas_scopes.specs.Answers.{Ending, EndsAs, StopsBy, Answers}
use Rattle.pas_scopes.specs.Arguments.{passing_part, called_part, sole_part}
use Rattle.pas_scopes.proofs.AnswerLemmas.{made_stops, answers_stop}
use Rattle.pas_scopes.specs.declared.judged.Judged.{Judged as CodeJudged}
use Rattle.pas_rules.proofs.AsMany.{count, total, followed_count}
use Rattle.pas_scopes.proofs.EndLemmas.{stops_within}
use Rattle.pas_rules.proofs.ExpressionsAsMany.{not_called_count, plain_marks, values_total}
use Rattle.std.proofs.lemmas.Option.{none-some}
use Rattle.pas_scopes.proofs.ListedLemmas.{some_both}
use Rattle.pas_scopes.proofs.FitLemmas.{checked_met}

-- a name that may not be called so
pub refused_call : (scopes : Scopes) (lead deep : ℕ) (name : Ident) (opened : ℕ) (exprs : Exprs) (closed : ℕ)
    (refusal : Wrong)
    → StopsBy {A = Value} (factor_words lead deep (tree.function_call name opened exprs closed))
    (judged (not_called (refusal ∷ []) (map bare_argument (values_of scopes exprs))) None)
    (shown_in name.line refusal)
refused_call scopes lead deep name opened exprs closed refusal =
    let givens : List Given = map bare_argument (values_of scopes exprs) in
    let parts : List Marks = map (λ argument. (met asked_nothing argument).marks) givens in
    let behind : Marks = joined (quiet ∷ listed parts ∷ quiet ∷ []) in
    let words : List Word = exprs_words (lead + 1) deep exprs in
    let close : Word = at (lead + 1) k.RightParenthesis closed in
    let sum : total (map plain_marks givens) ≡ suc (length words) = values_total scopes (lead + 1) deep exprs in
    let all : count (not_called (refusal ∷ []) givens) ≡ suc (suc (total (map plain_marks givens))) =
    not_called_count (refusal ∷ []) givens (omega (arith, sum)) in
    let many : length behind.tokens ≡ suc (length (words ++ close ∷ [])) =
    omega (arith, sum, all, followed_count (shows (refusal ∷ [])) behind, length-append words (close ∷ [])) in
    stops_within (name_at lead name ∷ []) (at (lead + 1) k.LeftParenthesis opened ∷ (words ++ close ∷ []))
    (shows (refusal ∷ [])) behind None (fault_in name.line refusal) refl refl many (omega arith)

-- what a name stands for that may not be called so
pub other_call : (scopes : Scopes) (arguments : List Given) (entity : CodeEntity)
    → ((number : ℕ) → entity ≡ code.Routine number → ⊥)
    → ((found : _) → entity ≡ code.Function found → ⊥) → ((test : _) → entity ≡ code.FileTest test → ⊥)
    → entity_view entity ≢ unclear
    → as_call scopes arguments (Some (entity_view entity)) ≡ judged (not_called (wrong WRONG_TYPE ∷ []) arguments) None
other_call scopes arguments (code.Constant base value) h k l clear = refl
other_call scopes arguments (code.Type found) h k l clear = refl
other_call scopes arguments (code.Variable slot) h k l clear = refl
other_call scopes arguments (code.Routine number) h k l clear = absurd (h number refl)
other_call scopes arguments (code.Function found) h k l clear = absurd (k found refl)
other_call scopes arguments (code.FileTest test) h k l clear = absurd (l test refl)
other_call scopes arguments (code.FileStep step) h k l clear = refl
other_call scopes arguments (code.Procedure found) h k l clear = refl
other_call scopes arguments code.Unclear h k l clear = absurd (clear refl)

-- a routine
known_twice : {A B C : Type 0} (make : B → C) (first : A → B) (found : Option A)
    → known make (known first found) ≡ known (λ value. make (first value)) found
known_twice make first None = refl
known_twice make first (Some value) = refl

module _ (scopes : Scopes) (spellings : List ℕ) (arguments : List Given) (number : ℕ) (heading : CodeHeading)
    (is : Some (heading_view spellings heading) ≡ heading_of scopes number) where
  pub function_part : (type : CodePasType) → heading.result ≡ Some type → (P : Judged Value → Type 0)
      → P (called_part number (type_view type)
      (passing_part scopes.outer.types (map (variable_view spellings) heading.parameters) arguments))
      → P (as_call scopes arguments (Some (routine number)))
  function_part type result P h =
      let parameters = map (variable_view spellings) heading.parameters in
      let demands = demands_of scopes.outer.types parameters in
      subst (λ (found : Option Heading). P (function_call_of scopes number arguments found)) is
      (subst (λ (found : Option CodePasType). P (call_with scopes number (heading_view spellings heading) arguments
      (option_map type_view found))) (sym result)
      (subst (λ (found : Option Value). P (judged (called demands arguments) found))
      (known_twice (typed.call number (type_view type)) (passed_to parameters) (given demands arguments)) h))

  pub procedure_part : heading.result ≡ None → (P : Judged Value → Type 0)
      → P (judged (not_called (wrong WRONG_TYPE ∷ []) arguments) None)
      → P (as_call scopes arguments (Some (routine number)))
  procedure_part result P h =
      subst (λ (found : Option Heading). P (function_call_of scopes number arguments found)) is
      (subst (λ (found : Option CodePasType). P (call_with scopes number (heading_view spellings heading) arguments
      (option_map type_view found))) (sym result) h)

-- what is known of a part becomes something else
pub other_stops : {A B : Type 0} (words : List Word) (part : Judged A) (value : Option B) (why : Stop)
    → (part.value ≡ None → value ≡ None) → StopsBy words part why → StopsBy words (judged part.marks value) why
other_stops words part value stop.OutOfMemory unknown h = tt
other_stops words part value (stop.Fault fault) unknown h = record {
  many = h.many;
  first = λ more nothing. h.first more (λ none. nothing (unknown none));
}
other_stops words part value stop.Missing unknown h = absurd h

-- a question to a file
met_if : (named : Bool) (faults : List Wrong) → (if named then faults else wrong WRONG_TYPE ∷ []) ≡ [] → named ≡ true
met_if true faults h = refl
met_if false faults h = cc

met_unless : (named : Bool) → unless named (wrong WRONG_TYPE) ≡ [] → named ≡ true
met_unless true h = refl
met_unless false h = cc

file_if : (is : Bool) (place : Place) → is_some (if is then Some place else None) ≡ true
    → (if is then Some place else None) ≡ Some place
file_if true place h = refl
file_if false place h = cc

pub asked_file : (table : Table) (test : FileTest) (place : Place) → test_demand table test (typed.read place) ≡ []
    → file_in table (typed.read place) ≡ Some place
asked_file table typed.eof place h =
    file_if (is_file table place) place (met_unless (is_some (file_in table (typed.read place))) h)
asked_file table typed.eoln place h =
    file_if (is_file table place) place (met_if (is_some (file_in table (typed.read place)))
    (unless (same_type (type_of (typed.read place)) text) (wrong FILE_RULE)) h)

abbrev pub tested_part : Table → FileTest → List Given → Judged Value
tested_part table test arguments =
    let part = sole_part (test_demand table test) arguments in
    judged part.marks (known (typed.tested test) (option_and_then (file_in table) part.value))

pub tested_stops : (words : List Word) (table : Table) (test : FileTest) (arguments : List Given) (why : Stop)
    → StopsBy words (sole_part (test_demand table test) arguments) why
    → StopsBy words (tested_part table test arguments) why
tested_stops words table test arguments why h =
    other_stops words (sole_part (test_demand table test) arguments) _ why
    (λ none. ap (λ (found : Option Value). known (typed.tested test) (option_and_then (file_in table) found)) none) h

-- what is known of the only argument meets the demand on it
pub sole_met : (demand : Demand) (arguments : List Given) (value : Value)
    → (sole_part demand arguments).value ≡ Some value → demand value ≡ []
sole_met demand [] value h = absurd (none-some value h)
sole_met demand (argument ∷ arguments) value h = by (given (demand ∷ []) (argument ∷ arguments)) refl h
  where
    by : (found : Option (List Value)) → given (demand ∷ []) (argument ∷ arguments) ≡ found
        → option_and_then first_value found ≡ Some value → demand value ≡ []
    by None is h = absurd (none-some value h)
    by (Some []) is h = absurd (none-some value h)
    by (Some (first ∷ others)) is h =
        let parts = some_both (λ value values. value ∷ values) (met demand argument).value (given [] arguments)
        (first ∷ others) is in
        let one = some_both (λ value nothing. value) (checked demand argument.value).value argument.behind.value parts.0
        parts.2 in
        let met : demand one.0 ≡ [] = checked_met demand argument.value one.0 one.2 in
        let same : one.0 ≡ value = cc in
        subst (λ (v : Value). demand v ≡ []) same met

pub tested_ends : (words : List Word) (table : Table) (test : FileTest) (arguments : List Given) (place : Place)
    (end : Ending) → EndsAs words (sole_part (test_demand table test) arguments) (typed.read place) end
    → EndsAs words (tested_part table test arguments) (typed.tested test place) end
tested_ends words table test arguments place end h =
    record {
      known = ap (λ (found : Option Value). known (typed.tested test) (option_and_then (file_in table) found)) h.known
          ∙ ap (known (typed.tested test)) (asked_file table test place
          (sole_met (test_demand table test) arguments (typed.read place) h.known));
      end = h.end;
      behind = h.behind;
    }

-- where a `?` returns early in a part of which the meaning is made into something else
pub stop_made : {A B X : Type 0} (words : List Word) (make : A → B) (part : Judged A) (view : X → B) (why : Stop)
    (result : Result (CodeJudged X) Stop) → ((found : Stop) × (result ≡ Err found) × (found ≡ why))
    → StopsBy words part why → Answers words (judged part.marks (known make part.value)) view result
stop_made words make part view why result is h =
    answers_stop words (judged part.marks (known make part.value)) view why result is (made_stops words make part why h)
