-- Arguments of calls over a machine, one after another.
use Rattle.std.proofs.Common.{◌≡◌, ℕ, zero, suc, ◌+◌, ◌<◌, List, [], ◌∷◌, ◌++◌, length, take, drop, get_or}
use Rattle.std.proofs.Common.{arith, refl, sym, ap, ap₂, ◌∙◌, subst, Some, Result, Ok, Err, inl, inr, drop-cons}
use Rattle.std.proofs.lemmas.List.{take-append-drop, take_more}
use Rattle.pas_typed.specs.declared.typed.Passed as code_passed
use Rattle.pas_typed.specs.declared.typed.Slot.{Slot as CodeSlot}
use Rattle.pas_typed.specs.declared.typed.Part.TheOpen.{Passed-F}
use Rattle.pas_typed.specs.declared.typed.Part.TheFolds.{fold_out-Passed}
use Rattle.pas_typed.specs.Types.{PasType}
use Rattle.pas_typed.specs.Typed as typed
use Rattle.pas_typed.specs.Typed.{Variable, Value, Place, Passed, TypedProgram}
use Rattle.pas_typed.specs.TypeOf.{type_of_place, type_of}
use Rattle.pas_typed.specs.TypeViews.{type_view}
use Rattle.pas_typed.specs.TypedViews.{OfValues, part_step, passed_step, value_step, call_step, place_step, passed_view}
use Rattle.pas_typed.specs.TypedViews.{passed_views}
use Rattle.pas_typed.specs.Lawful.{IsOrdinal, Takes, IsLawfulNumber, ArePassed}
use Rattle.pas_meaning.specs.declared.errors.TheConstants.{CALL_LIMIT}
use Rattle.pas_meaning.specs.Outcome.{Run, Outcome, gives, ends, errs, Doing, pure, and_then, ◌>>=◌, answered}
use Rattle.pas_meaning.specs.Store.{Datum, Store, fits}
use Rattle.pas_meaning.specs.Operands.{operand}
use Rattle.pas_meaning.specs.Run.{Spot, Argument, copied, meant, within}
use Rattle.pas_meaning.specs.Standing.{Kinds}
use Rattle.pas_meaning.specs.Laws.{Goes}
use Rattle.pas_meaning.proofs.OnwardLemmas.{goes_bind, goes_pure, goes_answered}
use Rattle.pas_meaning.proofs.GoesLemmas.{goes_arguments, goes_within, goes_operand_alone}
use Rattle.pas_run.specs.declared.arguments.Argument.{Argument as CodeArgument}
use Rattle.pas_run.specs.declared.arguments.Argument.TheVariants as code
use Rattle.pas_run.specs.declared.cells.Cell.{Cell}
use Rattle.pas_run.specs.declared.ends.Stop.{Stop}
use Rattle.pas_run.specs.inner.MachineState.{MachineState}
use Rattle.pas_run.specs.inner.Doings.{Done, Does}
use Rattle.pas_run.specs.inner.Evaluating.{value_of, place_at, IsBehind}
use Rattle.pas_run.specs.inner.Copying.{IsWhole, AreCells}
use Rattle.pas_run.specs.inner.Calling.{IsGiven, AreGiven, IsOneGiven, arguments_of}
use Rattle.pas_run.proofs.DoesLemmas.{does_stop, does_next, does_pure, does_answered}
use Rattle.pas_run.proofs.PlaceLemmas.{goes_place_at}
use Rattle.pas_run.proofs.ValueLemmas.{goes_value_of}
use Rattle.pas_run.proofs.CopyLemmas.{fits_whole, takes_whole}

-- an argument as a step
abbrev Layer : Type 0
Layer = OfValues Passed-F

passed_is : (p : code_passed.Passed) → (layer : Layer) × (passed_view p ≡ passed_step layer)
passed_is p = (
  _,
  fold_out-Passed (Place → Place) (Passed → Passed) Value Value Place part_step passed_step value_step call_step
      place_step p,
)

-- what is given on, and what does the same
through : {A B C : Type 0} (outcome : Outcome Store A) (given : A → B) (next : B → Doing Store C)
    → and_then outcome (λ value. next (given value)) ≡ and_then (and_then outcome (λ value. pure (given value))) next
through (gives value run) given next = refl
through (ends end world) given next = refl
through (errs kind world) given next = refl

as_given : {A : Type 0} (outcome : Outcome Store A) → outcome ≡ and_then outcome (λ value. pure value)
as_given (gives value run) = refl
as_given (ends end world) = refl
as_given (errs kind world) = refl

pub does_as : {A T : Type 0} (most : ℕ) (kinds later : Kinds) (Is : T → A → Type 0) (doing other : Doing Store A)
    (before now : MachineState) (result : Result T Stop) → ((run : Run Store) → doing run ≡ other run)
    → Does most kinds later Is other before now result → Does most kinds later Is doing before now result
does_as most kinds later Is doing other before now result same does = record {
  each = λ ports run stands within.
      subst (λ outcome. Done later ports Is run.world outcome now result) (sym (same run))
      (does.each ports run stands within);
}

module _ (program : TypedProgram) (most : ℕ) where
  abbrev pub all_of : List code_passed.Passed → Doing Store (List Argument)
  all_of passed = arguments_of program most (passed_views passed)

  pub goes_all : (passed : Passed) → Goes (arguments_of program most passed)
  goes_all passed =
      goes_arguments (Some CALL_LIMIT) program (within (Some CALL_LIMIT) program most)
      (goes_within (Some CALL_LIMIT) program most) passed

  -- the first argument, and the others
  abbrev first_of : Layer → Doing Store Argument
  first_of (Passed-F.Value type value) =
      operand (fits program.types (type_view type)) (value_of program most value) >>= (λ datum. pure (copied datum))
  first_of (Passed-F.Reference place) = place_at program most place >>= (λ spot. pure (meant spot))

  abbrev behind_first : Passed → Argument → Doing Store (List Argument)
  behind_first others one = arguments_of program most others >>= (λ more. pure (one ∷ more))

  step_is : (layer : Layer) (others : Passed) (run : Run Store)
      → arguments_of program most (passed_step layer others) run ≡ and_then (first_of layer run) (behind_first others)
  step_is (Passed-F.Value type value) others run =
      through (operand (fits program.types (type_view type)) (value_of program most value) run) copied
      (behind_first others)
  step_is (Passed-F.Reference place) others run = through (place_at program most place run) meant (behind_first others)

  view_is : (p : code_passed.Passed) (others : Passed) (run : Run Store)
      → arguments_of program most (passed_view p others) run
      ≡ and_then (first_of (passed_is p).0 run) (behind_first others)
  view_is p others run =
      ap (λ (step : Passed → Passed). arguments_of program most (step others) run) (passed_is p).1
      ∙ step_is (passed_is p).0 others run

  -- some arguments, and others behind them
  abbrev behind_firsts : List code_passed.Passed → List Argument → Doing Store (List Argument)
  behind_firsts ys firsts = all_of ys >>= (λ others. pure (firsts ++ others))

  regroup : (one : Argument) (ys : List code_passed.Passed) (outcome : Outcome Store (List Argument))
      → and_then (and_then outcome (behind_firsts ys)) (λ more. pure (one ∷ more))
      ≡ and_then (and_then outcome (λ more. pure (one ∷ more))) (behind_firsts ys)
  regroup one ys (gives firsts run) =
      sym (through (all_of ys run) (λ (others : List Argument). firsts ++ others) (λ more. pure (one ∷ more)))
  regroup one ys (ends end world) = refl
  regroup one ys (errs kind world) = refl

  on_first : (xs ys : List code_passed.Passed)
      → ((run : Run Store) → all_of (xs ++ ys) run ≡ and_then (all_of xs run) (behind_firsts ys))
      → (first : Outcome Store Argument) → and_then first (behind_first (passed_views (xs ++ ys)))
      ≡ and_then (and_then first (behind_first (passed_views xs))) (behind_firsts ys)
  on_first xs ys same (gives one run) =
      ap (λ outcome. and_then outcome (λ more. pure (one ∷ more))) (same run) ∙ regroup one ys (all_of xs run)
  on_first xs ys same (ends end world) = refl
  on_first xs ys same (errs kind world) = refl

  append_is : (xs ys : List code_passed.Passed) (run : Run Store)
      → all_of (xs ++ ys) run ≡ and_then (all_of xs run) (behind_firsts ys)
  append_is [] ys run = as_given (all_of ys run)
  append_is (x ∷ xs) ys run =
      view_is x (passed_views (xs ++ ys)) run
      ∙ on_first xs ys (append_is xs ys) (first_of (passed_is x).0 run)
      ∙ sym (ap (λ outcome. and_then outcome (behind_firsts ys)) (view_is x (passed_views xs) run))

-- arguments for parameters
module _ (program : TypedProgram) (variables : List Variable) where
  given_append : (parameters : List Variable) (parameter : Variable) (founds : List CodeArgument) (found : CodeArgument)
      (values others : List Argument) → AreGiven program variables parameters founds values
      → IsOneGiven program variables parameter found others
      → AreGiven program variables (parameters ++ parameter ∷ []) (founds ++ found ∷ []) (values ++ others)
  given_append [] parameter [] found [] others are one = one
  given_append [] parameter [] found (value ∷ values) others are one = absurd are
  given_append [] parameter (first ∷ founds) found values others are one = absurd are
  given_append (next ∷ parameters) parameter [] found values others are one = absurd are
  given_append (next ∷ parameters) parameter (first ∷ founds) found [] others are one = absurd are
  given_append (next ∷ parameters) parameter (first ∷ founds) found (value ∷ values) others are one =
      (are.0, given_append parameters parameter founds found values others are.1 one)

  module _ (most : ℕ) (kinds : Kinds) where
    pub none_given : (machine : MachineState)
        → Does most kinds kinds (AreGiven program variables []) (all_of program most []) machine machine (Ok [])
    none_given machine = does_pure most kinds (AreGiven program variables []) [] [] machine tt

    module _ (xs : List code_passed.Passed) (x : code_passed.Passed) (parameters : List Variable)
        (parameter : Variable) (founds : List CodeArgument) (before between : MachineState)
        (does : Does most kinds kinds (AreGiven program variables parameters) (all_of program most xs) before between
        (Ok founds)) where
      pub more_given : (now : MachineState) (found : CodeArgument)
          → Does most kinds kinds (IsOneGiven program variables parameter)
          (arguments_of program most (passed_view x typed.nothing)) between now (Ok found)
          → Does most kinds kinds (AreGiven program variables (parameters ++ parameter ∷ []))
          (all_of program most (xs ++ x ∷ [])) before now (Ok (founds ++ found ∷ []))
      more_given now found one_does =
          does_as most kinds kinds (AreGiven program variables (parameters ++ parameter ∷ []))
          (all_of program most (xs ++ x ∷ [])) (all_of program most xs >>= behind_firsts program most (x ∷ [])) before
          now (Ok (founds ++ found ∷ [])) (append_is program most xs (x ∷ []))
          (does_next most kinds kinds kinds (AreGiven program variables parameters)
          (AreGiven program variables (parameters ++ parameter ∷ [])) (all_of program most xs)
          (behind_firsts program most (x ∷ [])) before between now founds (Ok (founds ++ found ∷ []))
          (goes_all program most (passed_views xs)) does
          (λ values are. does_next most kinds kinds kinds (IsOneGiven program variables parameter)
          (AreGiven program variables (parameters ++ parameter ∷ [])) (all_of program most (x ∷ []))
          (λ others. pure (values ++ others)) between now now found (Ok (founds ++ found ∷ []))
          (goes_all program most (passed_views (x ∷ []))) one_does
          (λ others one. does_pure most kinds (AreGiven program variables (parameters ++ parameter ∷ []))
          (founds ++ found ∷ []) (values ++ others) now
          (given_append parameters parameter founds found values others are one))))

      pub one_stops : (ys : List code_passed.Passed) (all : List Variable) (now : MachineState) (why : Stop)
          → Does {T = CodeArgument} most kinds kinds (IsOneGiven program variables parameter)
          (arguments_of program most (passed_view x typed.nothing)) between now (Err why)
          → Does {T = List CodeArgument} most kinds kinds (AreGiven program variables all)
          (all_of program most (xs ++ (x ∷ ys))) before now (Err why)
      one_stops ys all now why one_does =
          does_as {T = List CodeArgument} most kinds kinds (AreGiven program variables all)
          (all_of program most (xs ++ (x ∷ ys))) (all_of program most xs >>= behind_firsts program most (x ∷ ys)) before
          now (Err why) (append_is program most xs (x ∷ ys))
          (does_next {U = List CodeArgument} most kinds kinds kinds (AreGiven program variables parameters)
          (AreGiven program variables all) (all_of program most xs)
          (behind_firsts program most (x ∷ ys)) before between now founds (Err why)
          (goes_all program most (passed_views xs)) does
          (λ values are. does_stop {T = List CodeArgument} {U = List CodeArgument} most kinds kinds kinds
          (AreGiven program variables all) (AreGiven program variables all)
          (all_of program most (x ∷ ys)) (λ others. pure (values ++ others)) between now why
          (λ others. goes_pure (values ++ others))
          (does_as {T = List CodeArgument} most kinds kinds (AreGiven program variables all)
          (all_of program most (x ∷ ys)) (all_of program most (x ∷ []) >>= behind_firsts program most ys) between
          now (Err why) (append_is program most (x ∷ []) ys)
          (does_stop {T = CodeArgument} {U = List CodeArgument} most kinds kinds kinds
          (IsOneGiven program variables parameter) (AreGiven program variables all)
          (all_of program most (x ∷ [])) (behind_firsts program most ys) between now why
          (λ firsts. goes_bind (goes_all program most (passed_views ys)) (λ others. goes_pure (firsts ++ others)))
          one_does))))

  -- the parameter of an argument
  pub record PassedAt (x : code_passed.Passed) (i : ℕ) (parameters : List Variable) : Type 0 where
    pub parameter : Variable
    pub passed : ArePassed program variables (passed_view x typed.nothing) (parameter ∷ [])
    pub more : take (i + 1) parameters ≡ take i parameters ++ parameter ∷ []

  record PassedFirst (layer : Layer) (others : Passed) (parameters : List Variable) : Type 0 where
    first : Variable
    behind : List Variable
    all : parameters ≡ first ∷ behind
    one : ArePassed program variables (passed_step layer typed.nothing) (first ∷ [])
    rest : ArePassed program variables others behind

  passed_first : (layer : Layer) (others : Passed) (parameters : List Variable)
      → ArePassed program variables (passed_step layer others) parameters → PassedFirst layer others parameters
  passed_first (Passed-F.Value type value) others [] are = absurd are
  passed_first (Passed-F.Reference place) others [] are = absurd are
  passed_first (Passed-F.Value type value) others (parameter ∷ parameters) are = record {
    first = parameter;
    behind = parameters;
    all = refl;
    one = (are.0, are.1, are.2, are.3, tt);
    rest = are.4;
  }
  passed_first (Passed-F.Reference place) others (parameter ∷ parameters) are = record {
    first = parameter;
    behind = parameters;
    all = refl;
    one = (are.0, are.1, are.2, are.3, tt);
    rest = are.4;
  }

  first_passed : (x : code_passed.Passed) (others : Passed) (parameters : List Variable)
      → ArePassed program variables (passed_view x others) parameters
      → PassedFirst (passed_is x).0 others parameters
  first_passed x others parameters are =
      passed_first (passed_is x).0 others parameters
      (subst (λ (step : Passed → Passed). ArePassed program variables (step others) parameters) (passed_is x).1 are)

  one_passed : (x : code_passed.Passed) (parameter : Variable)
      → ArePassed program variables (passed_step (passed_is x).0 typed.nothing) (parameter ∷ [])
      → ArePassed program variables (passed_view x typed.nothing) (parameter ∷ [])
  one_passed x parameter is =
      subst (λ (step : Passed → Passed). ArePassed program variables (step typed.nothing) (parameter ∷ []))
      (sym (passed_is x).1) is

  pub passed_at : (xs : List code_passed.Passed) (i : ℕ) (x : code_passed.Passed) (parameters : List Variable)
      → i < length xs → x ≡ get_or xs i x → ArePassed program variables (passed_views xs) parameters
      → PassedAt x i parameters
  passed_at [] i x parameters less is are = absurd (omega (arith, less))
  passed_at (first ∷ xs) zero x parameters less is are =
      let found = first_passed first (passed_views xs) parameters are in record {
        parameter = found.first;
        passed = subst (λ (item : code_passed.Passed). ArePassed program variables (passed_view item typed.nothing)
            (found.first ∷ [])) (sym is) (one_passed first found.first found.one);
        more = ap (take 1) found.all;
      }
  passed_at (first ∷ xs) (suc i) x parameters less is are =
      let found = first_passed first (passed_views xs) parameters are in
      let on = passed_at xs i x found.behind (omega (arith, less)) is found.rest in
      let next : suc i + 1 ≡ suc (i + 1) = omega arith in record {
        parameter = on.parameter;
        passed = on.passed;
        more = ap₂ (λ (count : ℕ) (parameters : List Variable). take count parameters) next found.all
            ∙ ap (λ (rest : List Variable). found.first ∷ rest) on.more
            ∙ sym (ap (λ (parameters : List Variable). take (suc i) parameters ++ on.parameter ∷ []) found.all);
      }

  pub passed_long : (xs : List code_passed.Passed) (parameters : List Variable)
      → ArePassed program variables (passed_views xs) parameters → length parameters ≡ length xs
  passed_long [] [] are = refl
  passed_long [] (parameter ∷ parameters) are = absurd are
  passed_long (first ∷ xs) parameters are =
      let found = first_passed first (passed_views xs) parameters are in
      ap length found.all ∙ ap suc (passed_long xs found.behind found.rest)

-- all items, at one on the way
pub parts_at : {A : Type 0} (xs : List A) (i : ℕ) (x : A) → i < length xs → x ≡ get_or xs i x
    → take i xs ++ (x ∷ drop (suc i) xs) ≡ xs
parts_at xs i x less is =
    ap (λ (rest : List _). take i xs ++ rest)
    (sym (drop-cons xs i x less ∙ ap (λ (item : _). item ∷ drop (suc i) xs) (sym is))) ∙ take-append-drop i xs

pub more_at : {A : Type 0} (xs : List A) (i : ℕ) (x : A) → i < length xs → x ≡ get_or xs i x
    → take (i + 1) xs ≡ take i xs ++ x ∷ []
more_at xs i x less is = take_more xs i x less ∙ ap (λ item. take i xs ++ item ∷ []) (sym is)

-- one argument, by its form
module _ (program : TypedProgram) (variables : List Variable) (most : ℕ) (kinds : Kinds) (before : MachineState)
    (parameter : Variable) where
  abbrev alone : Passed → MachineState → Result CodeArgument Stop → Type 0
  alone passed now result =
      Does most kinds kinds (IsOneGiven program variables parameter) (arguments_of program most passed) before now
      result

  -- a value
  module _ (type : PasType) (argument : Value) where
    abbrev checked : Doing Store Datum
    checked = operand (fits program.types type) (value_of program most argument)

    abbrev then_nothing : Datum → Doing Store (List Argument)
    then_nothing datum = arguments_of program most typed.nothing >>= (λ others. pure (copied datum ∷ others))

    pub value_stop : {T : Type 0} (Is : T → Datum → Type 0) (now : MachineState) (why : Stop)
        → Does {T = T} most kinds kinds Is checked before now (Err why)
        → alone (typed.value type argument typed.nothing) now (Err why)
    value_stop {T = T} Is now why does =
        does_stop {T = T} {U = CodeArgument} most kinds kinds kinds Is (IsOneGiven program variables parameter) checked
        then_nothing before now why
        (λ datum. goes_bind (goes_all program most typed.nothing) (λ others. goes_pure (copied datum ∷ others))) does

    pub value_next : {T : Type 0} (Is : T → Datum → Type 0) (now : MachineState) (found : T) (given : CodeArgument)
        → Does most kinds kinds Is checked before now (Ok found)
        → ((datum : Datum) → Is found datum → IsGiven program variables parameter given (copied datum))
        → alone (typed.value type argument typed.nothing) now (Ok given)
    value_next Is now found given does is =
        does_next most kinds kinds kinds Is (IsOneGiven program variables parameter) checked then_nothing before now now
        found (Ok given) (goes_operand_alone (fits program.types type) (goes_value_of program most argument)) does
        (λ datum found_is. does_pure most kinds (IsOneGiven program variables parameter) given (copied datum ∷ []) now
        (is datum found_is, tt))

    pub whole_stop : (now : MachineState) (why : Stop)
        → Does {T = List Cell} most kinds kinds (AreCells program.types (type_of argument))
        (value_of program most argument) before now (Err why)
        → alone (typed.value type argument typed.nothing) now (Err why)
    whole_stop now why does =
        value_stop {T = List Cell} (AreCells program.types type) now why
        (does_stop {T = List Cell} {U = List Cell} most kinds kinds kinds (AreCells program.types (type_of argument))
        (AreCells program.types type) (value_of program most argument)
        (λ datum. answered (fits program.types type datum)) before now why
        (λ datum. goes_answered (fits program.types type datum)) does)

    pub whole_next : (now : MachineState) (found : List Cell) → IsWhole program.types type
        → Takes program.types type (type_of argument)
        → Does most kinds kinds (AreCells program.types (type_of argument)) (value_of program most argument) before now
        (Ok found)
        → Does most kinds kinds (AreCells program.types type) checked before now (Ok found)
    whole_next now found whole takes does =
        does_next most kinds kinds kinds (AreCells program.types (type_of argument)) (AreCells program.types type)
        (value_of program most argument) (λ datum. answered (fits program.types type datum)) before now now found
        (Ok found) (goes_value_of program most argument) does
        (λ datum is. does_answered most kinds (AreCells program.types type) (fits program.types type datum) now
        (Ok found) (
          datum,
          fits_whole program.types type whole datum,
          subst (λ type. AreCells program.types type found datum)
              (sym (takes_whole program.types type whole (type_of argument) takes)) is,
        ))

  -- a place
  module _ (place : Place) (slot : CodeSlot) where
    abbrev then_none : Spot → Doing Store (List Argument)
    then_none spot = arguments_of program most typed.nothing >>= (λ others. pure (meant spot ∷ others))

    pub place_stop : (now : MachineState) (why : Stop)
        → Does {T = ℕ} most kinds kinds (IsBehind program variables slot (type_of_place place))
        (place_at program most place) before now (Err why)
        → alone (typed.reference place typed.nothing) now (Err why)
    place_stop now why does =
        does_stop {T = ℕ} {U = CodeArgument} most kinds kinds kinds
        (IsBehind program variables slot (type_of_place place)) (IsOneGiven program variables parameter)
        (place_at program most place) then_none before now why
        (λ spot. goes_bind (goes_all program most typed.nothing) (λ others. goes_pure (meant spot ∷ others))) does

    pub place_next : (now : MachineState) (behind : ℕ)
        → ArePassed program variables (typed.reference place typed.nothing) (parameter ∷ [])
        → Does most kinds kinds (IsBehind program variables slot (type_of_place place))
        (place_at program most place) before now (Ok behind)
        → alone (typed.reference place typed.nothing) now (Ok (code.Named slot behind))
    place_next now behind is does =
        does_next most kinds kinds kinds (IsBehind program variables slot (type_of_place place))
        (IsOneGiven program variables parameter)
        (place_at program most place) then_none before now now behind
        (Ok (code.Named slot behind)) (goes_place_at program most place) does
        (λ spot spot_is. does_pure most kinds (IsOneGiven program variables parameter) (code.Named slot behind)
        (meant spot ∷ []) now (
          (is.0, subst (λ type. IsBehind program variables slot type behind spot) (sym is.1) spot_is),
          tt,
        ))

-- what an argument of an ordinal type is
pub number_lawful : (program : TypedProgram) (variables : List Variable) (type : PasType) (argument : Value)
    (parameter : Variable) → IsOrdinal program.types type
    → ArePassed program variables (typed.value type argument typed.nothing) (parameter ∷ [])
    → IsLawfulNumber program variables argument
number_lawful program variables type argument parameter ordinal is = (is.2, source is.3)
  where
    source : Takes program.types type (type_of argument) → IsOrdinal program.types (type_of argument)
    source (inl both) = both.1
    source (inr same) = subst (IsOrdinal program.types) same ordinal
