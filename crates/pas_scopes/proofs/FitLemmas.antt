-- Values that are fit for what takes them, or not.
use Rattle.std.proofs.Common.{◌≡◌, refl, sym, ap, subst, ◌∙◌, ℕ, Bool, true, false, List, [], ◌∷◌, Option, Some, None}
use Rattle.std.proofs.Common.{Result, Ok, Err, map}
use Rattle.std.specs.Prelude.{◌&&◌, option_map, is_some, if◌then◌else◌}
use Rattle.std.proofs.lemmas.Option.{none-some}
use Rattle.wb_base.specs.declared.faults.TheConstants.{WRONG_TYPE, FILE_RULE}
use Rattle.pas_tokens.specs.Cutting.{Wrong, wrong}
use Rattle.pas_syntax.specs.Words.{Word}
use Rattle.pas_typed.specs.declared.typed.Function.{Function as CodeFunction}
use Rattle.pas_typed.specs.declared.typed.Function.TheVariants as function
use Rattle.pas_typed.specs.declared.typed.Mode.{Mode as CodeMode}
use Rattle.pas_typed.specs.declared.typed.Mode.TheVariants as mode
use Rattle.pas_typed.specs.declared.typed.Call as code_call
use Rattle.pas_typed.specs.declared.typed.Value.TheVariants as code_value
use Rattle.pas_typed.specs.TypeViews.{type_view}
use Rattle.pas_typed.specs.TypedViews.{function_view, mode_view, value_view, passed_views}
use Rattle.pas_typed.proofs.ValueViews.{value_view-Call, call_view-roll}
use Rattle.pas_typed.specs.Types.{PasType, Table, integer, text, same_type}
use Rattle.pas_typed.specs.Typed as typed
use Rattle.pas_typed.specs.Typed.{Value, Place, Passed, Mode, FileTest, Variable}
use Rattle.pas_typed.specs.TypeOf.{type_of}
use Rattle.pas_scopes.specs.declared.stop.Stop.{Stop}
use Rattle.pas_rules.specs.Marks.{Marks, Judged, judged, known, both, checked}
use Rattle.pas_rules.specs.Marks.{checked_by, kept_by, unless, at_first}
use Rattle.pas_rules.specs.Expressions.{Demand, bare, bare_argument, met, asked_nothing, function_demand, only}
use Rattle.pas_rules.specs.Expressions.{demand_of_mode, compatible_with, is_reference, place_in, file_in}
use Rattle.pas_rules.specs.Expressions.{test_demand, without_arguments}
use Rattle.pas_scopes.specs.Answers.{Ending, noted_end, lawful_end, short_end, stands_by, EndsAs, FailsBy}
use Rattle.pas_scopes.specs.Answers.{StandsAs}
use Rattle.pas_scopes.specs.Answers.{Stands}
use Rattle.pas_scopes.specs.declared.judged.Judged.{Judged as CodeJudged}
use Rattle.pas_typed.specs.declared.typed.Variable.{Variable as CodeVariable}
use Rattle.pas_scopes.specs.Arguments.{Taker, taken_as, taken_by, is_asked_of, not_asked, passing_in}
use Rattle.pas_scopes.proofs.AnswerLemmas.{checked_fails, checked_stands, made_ends, ends_moved, word_misses}
use Rattle.pas_scopes.proofs.PartLemmas.{alone}

-- a value that was looked at, noted, and found to stand or not
module _ {B : Type 0} (words : List Word) (taker : Taker B) (part : Judged Value) (value : Value) (end last : Ending)
    (holds : Bool) (code : ℕ) (fine : taker.demand value ≡ unless holds (wrong code))
    (at : last ≡ noted_end holds code end) (h : EndsAs words part value end) where
  pub fit_fails : (why : Stop) → Err why ≡ stands_by last → FailsBy words (taken_as taker part).marks why
  fit_fails why is =
      checked_fails words taker.demand part value end code holds why fine (is ∙ ap stands_by at) h

  pub fit_stands : (made : B) → Ok tt ≡ stands_by last → made ≡ taker.make value
      → StandsAs words (taken_as taker part) made last
  fit_stands made is same =
      let stands = checked_stands words taker.demand part value end code holds fine (is ∙ ap stands_by at) h in
      record {
        lawful = ap (λ (e : Ending). e.refusal) at ∙ stands.lawful;
        ends = ends_moved words (taken_as taker part) (taker.make value) made (noted_end holds code end) last same at
            (made_ends words taker.make (checked taker.demand part) value (noted_end holds code end) stands.ends);
      }

  -- where it stands it is fit
  pub stands_fit : Ok tt ≡ stands_by last → holds ≡ true
  stands_fit is = by holds (is ∙ ap stands_by at)
    where
      by : (is_fit : Bool) → Ok tt ≡ stands_by (noted_end is_fit code end) → is_fit ≡ true
      by true is = refl
      by false is = cc

-- demands by cases
pub other_function : (table : Table) (found : CodeFunction) (value : Value) → (found ≡ function.Ord → ⊥)
    → function_demand table (function_view found) value ≡ only integer table value
other_function table function.Ord value other = absurd (other refl)
other_function table function.Chr value other = refl
other_function table function.Abs value other = refl
other_function table function.Odd value other = refl

pub other_mode : (table : Table) (found : CodeMode) (type : PasType) (value : Value) → (found ≡ mode.ByName → ⊥)
    → demand_of_mode table (mode_view found) type value ≡ compatible_with table type value
other_mode table mode.ByName type value other = absurd (other refl)
other_mode table mode.ByValue type value other = refl
other_mode table mode.Declared type value other = refl

pub asked_demand : (table : Table) (test : FileTest) (value : Value) (is_named is_text : Bool)
    → is_some (file_in table value) ≡ is_named → is_asked_of test (type_of value) ≡ is_text
    → test_demand table test value ≡ unless (is_named && is_text) (wrong (not_asked is_named))
asked_demand table typed.eof value true is_text named asked =
    ap (λ (is : Bool). unless is (wrong WRONG_TYPE)) named ∙ ap (λ (is : Bool). unless is (wrong FILE_RULE)) asked
asked_demand table typed.eof value false is_text named asked = ap (λ (is : Bool). unless is (wrong WRONG_TYPE)) named
asked_demand table typed.eoln value true is_text named asked =
    ap (λ (is : Bool). if is then unless (same_type (type_of value) text) (wrong FILE_RULE) else wrong WRONG_TYPE ∷ [])
    named ∙ ap (λ (is : Bool). unless is (wrong FILE_RULE)) asked
asked_demand table typed.eoln value false is_text named asked =
    ap (λ (is : Bool). if is then unless (same_type (type_of value) text) (wrong FILE_RULE) else wrong WRONG_TYPE ∷ [])
    named

-- a value that is no place is no reference
pub no_reference : (type : PasType) (value : Value) → place_in value ≡ None
    → is_reference type (place_in value) ≡ true → ⊥
no_reference type value none is =
    let no : is_reference type (place_in value) ≡ false = ap (is_reference type) none in cc

-- an argument of an expression is its value
bare_value : (value : Option Value) → both (λ value nothing. value) value (Some bare) ≡ value
bare_value None = refl
bare_value (Some value) = refl

pub met_bare : (demand : Demand) (value : Judged Value) → met demand (bare_argument value) ≡ checked demand value
met_bare demand value =
    ap (λ (marks : Marks). judged marks (both (λ value nothing. value) (checked demand value).value (Some bare)))
    (alone (checked demand value).marks)
    ∙ ap (judged (checked demand value).marks) (bare_value (checked demand value).value)

checked_nothing : (value : Judged Value) → checked asked_nothing value ≡ value
checked_nothing value = by value.value
  where
    by : (found : Option Value) → checked_by asked_nothing value.marks found ≡ judged value.marks found
    by None = refl
    by (Some found) = refl

pub bare_taken : {B : Type 0} (taker : Taker B) (value : Judged Value)
    → taken_by (Some taker) (bare_argument value) ≡ taken_as taker value
bare_taken taker value =
    ap (λ (found : Judged Value). judged found.marks (known taker.make found.value)) (met_bare taker.demand value)

pub bare_many : (B : Type 0) (value : Judged Value)
    → (taken_by {B = B} None (bare_argument value)).marks ≡ at_first (wrong WRONG_TYPE ∷ []) value.marks
bare_many B value =
    ap (λ (found : Judged Value). at_first (wrong WRONG_TYPE ∷ []) found.marks)
    (met_bare asked_nothing value ∙ checked_nothing value)

-- what is known of a part meets the demand on it
pub checked_met : {A : Type 0} (demand : A → List Wrong) (part : Judged A) (value : A)
    → (checked demand part).value ≡ Some value → demand value ≡ []
checked_met {A = A} demand part value h = by part.value h
  where
    kept : (found : A) (faults : List Wrong) → demand found ≡ faults
        → (kept_by part.marks found faults).value ≡ Some value → demand value ≡ []
    kept found [] is h = let same : found ≡ value = cc in subst (λ (v : A). demand v ≡ []) same is
    kept found (refusal ∷ more) is h = absurd (none-some value h)

    by : (found : Option A) → (checked_by demand part.marks found).value ≡ Some value → demand value ≡ []
    by None h = absurd (none-some value h)
    by (Some found) h = kept found (demand found) refl h

-- a name that is called without its arguments
pub name_misses : (word : Word) (number : ℕ) (type : PasType) (parameters : List Variable) → (parameters ≡ [] → ⊥)
    → EndsAs (word ∷ []) (without_arguments number (Some type) parameters) (typed.call number type typed.nothing)
    (short_end (lawful_end word.token.line))
name_misses word number type [] some = absurd (some refl)
name_misses word number type (parameter ∷ parameters) some = word_misses word (typed.call number type typed.nothing)

pub some_mapped : {A B : Type 0} (f : A → B) (xs : List A) → (xs ≡ [] → ⊥) → map f xs ≡ [] → ⊥
some_mapped f [] some h = some refl
some_mapped f (x ∷ xs) some h = cc

pub call_viewed : (call : code_call.Call)
    → value_view (code_value.Call call) ≡ typed.call call.routine (type_view call.pas_type) (passed_views call.passed)
call_viewed call =
    value_view-Call call
    ∙ call_view-roll (record { routine = call.routine; pas_type = call.pas_type; passed = call.passed })

-- a value that is passed to a parameter, if there is one
module _ (spellings : List ℕ) (table : Table) (words : List Word) (value : Judged Value)
    (found : Option CodeVariable) where
  abbrev part : Judged (Passed → Passed)
  part = taken_by (option_map (passing_in spellings table) found) (bare_argument value)

  pub seen_parameter : {X : Type 0} (parameter : CodeVariable) → found ≡ Some parameter → (view : X → Passed → Passed)
      (result : Result (CodeJudged X) Stop)
      → Stands words (taken_as (passing_in spellings table parameter) value) view result
      → Stands words part view result
  seen_parameter parameter is view result h =
      subst (λ (p : Option CodeVariable). Stands words (taken_by (option_map (passing_in spellings table) p)
      (bare_argument value)) view result) (sym is)
      (subst (λ (one : Judged (Passed → Passed)). Stands words one view result)
      (sym (bare_taken (passing_in spellings table parameter) value)) h)

  pub no_parameter : found ≡ None → (why : Stop)
      → FailsBy words (at_first (wrong WRONG_TYPE ∷ []) value.marks) why → FailsBy words part.marks why
  no_parameter is why h =
      subst (λ (p : Option CodeVariable). FailsBy words (taken_by (option_map (passing_in spellings table) p)
      (bare_argument value)).marks why) (sym is)
      (subst (λ (marks : Marks). FailsBy words marks why) (sym (bare_many (Passed → Passed) value)) h)
