-- What functions of a machine find of arguments, and what calls do. This project's own.
use Rattle.std.specs.Prelude.{◌≡◌, ℕ, suc, List, [], ◌∷◌, ◌++◌, Option, Some, Result, ⊤}
use Rattle.std.specs.Option.{IsSome}
use Rattle.pas_typed.specs.Types.{PasType}
use Rattle.pas_typed.specs.Typed as typed
use Rattle.pas_typed.specs.Typed.{Variable, Passed, Heading, Body, TypedProgram}
use Rattle.pas_typed.specs.TypedViews.{program_view}
use Rattle.pas_typed.specs.Lawful.{IsOrdinal, ArePassed, IsLawfulBody}
use Rattle.pas_meaning.specs.declared.errors.TheConstants.{CALL_LIMIT}
use Rattle.pas_meaning.specs.Outcome.{Doing, ◌>>=◌}
use Rattle.pas_meaning.specs.Store.{Datum, holds, Store, number_in}
use Rattle.pas_meaning.specs.Run as meaning
use Rattle.pas_meaning.specs.Run.{Argument, copied, meant, within}
use Rattle.pas_meaning.specs.Standing.{Kinds, kinds_for}
use Rattle.pas_run.specs.declared.arguments.Argument.{Argument as CodeArgument}
use Rattle.pas_run.specs.declared.arguments.Argument.TheVariants as code
use Rattle.pas_run.specs.declared.cells.Cell.{Cell}
use Rattle.pas_run.specs.declared.ends.Stop.{Stop}
use Rattle.pas_run.specs.declared.layouts.Layout.{Layout}
use Rattle.pas_run.specs.declared.layouts.Scene.{Scene}
use Rattle.pas_run.specs.inner.FlatStore.{number_cell}
use Rattle.pas_run.specs.inner.MachineState.{MachineState}
use Rattle.pas_run.specs.inner.Doings.{Does}
use Rattle.pas_run.specs.inner.Scenes.{IsScene, IsLayout}
use Rattle.pas_run.specs.inner.Evaluating.{IsBehind}
use Rattle.pas_run.specs.inner.Copying.{AreCells}

-- an argument for a parameter, as the code has it, and arguments for parameters
module _ (program : TypedProgram) (variables : List Variable) where
  abbrev pub IsGiven : Variable → CodeArgument → Argument → Type 0
  IsGiven parameter (code.Number number) (copied datum) =
      (parameter.mode ≡ typed.by_value) × IsOrdinal program.types parameter.type × (datum ≡ holds number)
  IsGiven parameter (code.Whole cells) (copied datum) =
      (parameter.mode ≡ typed.by_value) × AreCells program.types parameter.type cells datum
  IsGiven parameter (code.Named slot behind) (meant place) =
      (parameter.mode ≡ typed.by_name) × IsBehind program variables slot parameter.type behind place
  IsGiven parameter found value = ⊥

  abbrev pub AreGiven : List Variable → List CodeArgument → List Argument → Type 0
  AreGiven [] [] [] = ⊤
  AreGiven (parameter ∷ parameters) (found ∷ others) (value ∷ values) =
      IsGiven parameter found value × AreGiven parameters others values
  AreGiven parameters found values = ⊥

  -- one argument for one parameter
  abbrev pub IsOneGiven : Variable → CodeArgument → List Argument → Type 0
  IsOneGiven parameter found values = AreGiven (parameter ∷ []) (found ∷ []) values

-- the arguments of a call, from left to right
abbrev pub arguments_of : TypedProgram → ℕ → Passed → Doing Store (List Argument)
arguments_of program most = meaning.arguments_of (Some CALL_LIMIT) program (within (Some CALL_LIMIT) program most)

abbrev pub Passes : Scene → Passed → MachineState → MachineState → Result (List CodeArgument) Stop → Type 0
Passes scene passed before now result =
    (variables : List Variable) (result' : Option PasType) (kinds : Kinds) → IsScene scene variables result' kinds
    → (parameters : List Variable) → ArePassed (program_view scene.program.now) variables passed parameters
    → (most : ℕ) → Does most kinds kinds (AreGiven (program_view scene.program.now) variables parameters)
    (arguments_of (program_view scene.program.now) most passed) before now result

abbrev pub PassesOne : Scene → (Passed → Passed) → MachineState → MachineState → Result CodeArgument Stop → Type 0
PassesOne scene passed before now result =
    (variables : List Variable) (result' : Option PasType) (kinds : Kinds) → IsScene scene variables result' kinds
    → (parameter : Variable)
    → ArePassed (program_view scene.program.now) variables (passed typed.nothing) (parameter ∷ [])
    → (most : ℕ) → Does most kinds kinds (IsOneGiven (program_view scene.program.now) variables parameter)
    (arguments_of (program_view scene.program.now) most (passed typed.nothing)) before now result

-- a call begins with arguments for the parameters of a heading
abbrev pub Begins : Scene → (Heading → Type 0) → List CodeArgument
    → (List Variable → Kinds → Heading → List Argument → Type 0) → Type 0
Begins scene IsCalled found P =
    (variables : List Variable) (result' : Option PasType) (kinds : Kinds) → IsScene scene variables result' kinds
    → (heading : Heading) → IsCalled heading → (values : List Argument)
    → AreGiven (program_view scene.program.now) variables heading.parameters found values
    → P variables kinds heading values

-- the body of a routine of this heading, and its layout
pub record IsRoutine (program : TypedProgram) (heading : Heading) (layout : Layout) (body : Body) : Type 0 where
  pub is_body : IsLawfulBody program body
  pub is_heading : is_body.heading ≡ heading
  pub laid : IsLayout program.types body.variables layout

-- the kinds behind the begin of a body
abbrev pub kinds_inside : TypedProgram → Kinds → Body → Kinds
kinds_inside program kinds body = kinds ++ kinds_for program body ∷ []

-- what the cell of a result holds, if the routine has a result
abbrev pub IsResult : Heading → Cell → Datum → Type 0
IsResult heading found datum = IsSome heading.result → found ≡ number_cell (number_in datum)

abbrev pub call_of : TypedProgram → ℕ → ℕ → List Argument → Doing Store Datum
call_of program most = meaning.call (Some CALL_LIMIT) program (within (Some CALL_LIMIT) program most)

-- what is done behind the step of a call, with so many steps left at most
abbrev pub body_run_of : TypedProgram → ℕ → Option Body → List Argument → Doing Store Datum
body_run_of program most = meaning.body_run (Some CALL_LIMIT) program (within (Some CALL_LIMIT) program (suc most))

-- the call of a procedure: the arguments, and then the call
abbrev pub procedure_of : TypedProgram → ℕ → ℕ → Passed → Doing Store Datum
procedure_of program most routine passed = arguments_of program most passed >>= call_of program most routine
