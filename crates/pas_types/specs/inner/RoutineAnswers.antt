-- What functions that look at routines answer.
use Rattle.std.specs.Prelude.{◌≡◌, false, true, List, [], ◌∷◌, ◌++◌, ℕ, map, length, Option, Some, None, Result, Ok}
use Rattle.std.specs.Prelude.{Err, IsSome, is_some, nat_lt, not, option_map, option_and_then, slice_get}
use Rattle.std.specs.Option.{option_copied}
use Rattle.wb_base.specs.declared.faults.Fault.{Fault}
use Rattle.wb_base.specs.declared.faults.TheConstants.{DUPLICATE_NAME, TOO_LARGE}
use Rattle.pas_tokens.specs.Cutting.{Wrong, wrong}
use Rattle.pas_syntax.specs.Tree.{Ident, Behind, TypeName}
use Rattle.pas_syntax.specs.declared.tree.Ident.{Ident as CodeIdent}
use Rattle.pas_syntax.specs.Views.{spelled_in, ident_in, behind_in, if_there}
use Rattle.pas_syntax.specs.ProgramViews.{parameters_in, type_name_in}
use Rattle.pas_syntax.specs.Words.{Word, name_at}
use Rattle.pas_typed.specs.declared.types.PasType.{PasType as CodePasType}
use Rattle.pas_typed.specs.declared.typed.Body.{Body as CodeBody}
use Rattle.pas_typed.specs.Types.{PasType, Made}
use Rattle.pas_typed.specs.TypedViews.{body_view}
use Rattle.pas_types.specs.declared.headings.Sort.{Sort as CodeSort}
use Rattle.pas_types.specs.declared.headings.Sort.TheVariants as code_sort
use Rattle.pas_types.specs.declared.headings.HeadingParts.{HeadingParts as CodeParts}
use Rattle.pas_rules.specs.declared.limits.TheConstants.{ROUTINE_LIMIT}
use Rattle.pas_scopes.specs.declared.scopes.Inner.{Inner as CodeInner}
use Rattle.pas_scopes.specs.declared.scopes.KnownRoutine.{KnownRoutine as CodeRoutine}
use Rattle.pas_scopes.specs.declared.scopes.Scopes.{Scopes as CodeScopes}
use Rattle.pas_scopes.specs.declared.stop.Stop.{Stop}
use Rattle.pas_rules.specs.Marks.{Marks, shows, joined, unless, Judged}
use Rattle.pas_rules.specs.Scopes.{routine, Outer, contains, entity_in}
use Rattle.pas_rules.specs.Declarations.{taken}
use Rattle.pas_rules.specs.Routines.{Sort, procedure, function, HeadingParts, Formal, HeadingStage, RoutineStage}
use Rattle.pas_rules.specs.Check.{parameter_faults}
use Rattle.pas_rules.specs.Scopes.{with_new}
use Rattle.pas_scopes.specs.ScopeViews.{outer_view, scopes_view, IsClear}
use Rattle.pas_scopes.specs.Answers.{IsQuiet, Means, FailsBy}
use Rattle.pas_scopes.specs.DeclaredSoFar.{IsDeclared, Notes}
use Rattle.pas_scopes.specs.Locals.{IsLawful, Leaves}

-- the parts of a heading as the definition has them
abbrev pub sort_view : CodeSort → Sort
sort_view code_sort.Procedure = procedure
sort_view code_sort.Function = function

abbrev pub parts_in : List ℕ → CodeParts → HeadingParts
parts_in spellings parts = record {
  sort = sort_view parts.sort;
  name = ident_in spellings parts.name;
  parameters = if_there (parameters_in spellings) (option_copied parts.parameters);
  result = if_there (behind_in (type_name_in spellings)) parts.result;
}

-- what is answered of parameters of a routine: their words show nothing, their types are known, and the scopes behind
-- them are these, or why checking stops in them
abbrev pub PassesFormals : List Word → Formal → CodeScopes → Result (Unit {0}) Stop → Type 0
PassesFormals words formal scopes (Ok done) =
    IsQuiet words formal.marks false × (formal.is_clear ≡ true)
    × Leaves (record { marks = formal.marks; table = (outer_view scopes).types; inner = formal.inner }) scopes
PassesFormals words formal scopes (Err why) = FailsBy words formal.marks why

-- what a heading of this sort tells of its result
abbrev pub result_told : Sort → Option PasType → Option PasType
result_told procedure found = None
result_told function found = found

-- what is answered of the type of a result, and of that if one is given
abbrev pub IsOrdinal : List Word → Judged Made → (CodePasType → Made) → Result CodePasType Stop → Type 0
IsOrdinal words part view (Ok found) = Means words part (view found)
IsOrdinal words part view (Err why) = FailsBy words part.marks why

abbrev pub IsResult : Option (Behind TypeName) → List Word → Judged Made → (CodePasType → Made)
    → Result (Option CodePasType) Stop → Type 0
IsResult given words part view (Ok found) =
    IsQuiet words part.marks false × (part.value ≡ option_map view found) × (is_some found ≡ is_some given)
IsResult given words part view (Err why) = FailsBy words part.marks why

-- what the name in a first heading shows
abbrev pub name_faults : Outer → List ℕ → List Wrong
name_faults outer name =
    unless (not (contains (taken outer) name)) (wrong DUPLICATE_NAME)
    ++ unless (nat_lt (length outer.routines) ROUTINE_LIMIT) (wrong TOO_LARGE)

-- what is answered of that name: the number of the routine, or why checking stops at it
abbrev pub IsNewRoutine : Outer → Ident → Result ℕ Stop → Type 0
IsNewRoutine outer ident (Ok number) = (name_faults outer ident.name ≡ []) × (number ≡ length outer.routines)
IsNewRoutine outer ident (Err why) = FailsBy (name_at 0 ident ∷ []) (shows (name_faults outer ident.name)) why

-- what stands behind that name
pub record PassesRest (words : List Word) (formals : Formal) (given : Option (Behind TypeName)) (part : Judged Made)
    (missing : List Wrong) (view : CodePasType → Made) (scopes : CodeScopes) (found : Option CodePasType)
    : Type 0 where
  pub still : IsQuiet words (joined (formals.marks ∷ part.marks ∷ shows missing ∷ [])) false
  pub nothing_missing : missing ≡ []
  pub is_clear : formals.is_clear ≡ true
  pub result_is : part.value ≡ option_map view found
  pub is_given : is_some found ≡ is_some given
  pub leaves :
      Leaves (record { marks = formals.marks; table = (outer_view scopes).types; inner = formals.inner }) scopes

abbrev pub PassesHeading : List Word → Formal → Option (Behind TypeName) → Judged Made → List Wrong
    → (CodePasType → Made) → CodeScopes → Result (Option CodePasType) Stop → Type 0
PassesHeading words formals given part missing view scopes (Ok found) =
    PassesRest words formals given part missing view scopes found
PassesHeading words formals given part missing view scopes (Err why) =
    FailsBy words (joined (formals.marks ∷ part.marks ∷ shows missing ∷ [])) why

-- a routine that is declared behind a heading
pub record AddsRoutine (now new : CodeScopes) (inner : CodeInner) (ident : CodeIdent) (number : ℕ)
    (told : Option CodePasType) : Type 0 where
  pub inner_is : new.inner ≡ None
  pub names_are : new.names ≡ with_new now.names (spelled_in now.spellings.now ident.span) (routine number)
  pub routines_are : new.routines.items ≡ now.routines.items
      ++ record {
        heading = record { name = ident.span; result = told; parameters = inner.variables };
        awaited = Some inner;
      } ∷ []

-- the scopes between routines while no fault is noted
pub record IsReady (scopes : CodeScopes) : Type 0 where
  pub alone : scopes.inner ≡ None
  pub clear : IsClear (scopes_view scopes)
  pub lawful : IsLawful scopes

-- the scope that waits for the body of the routine with this number
abbrev pub awaited_at : List CodeRoutine → ℕ → Option CodeInner
awaited_at routines number = option_and_then (λ known. known.awaited) (slice_get routines number)

-- what is answered of a heading: its words show nothing, and this routine waits for its body, or why checking stops
pub record Heads (words : List Word) (stage : HeadingStage) (scopes : CodeScopes) (number : ℕ) : Type 0 where
  pub still : IsQuiet words stage.marks false
  pub number_is : stage.number ≡ number
  pub ready : IsReady scopes
  pub outer_is : outer_view scopes ≡ stage.outer
  pub waits : IsSome (awaited_at scopes.routines.items number)

abbrev pub HeadsBy : List Word → HeadingStage → CodeScopes → Result ℕ Stop → Type 0
HeadsBy words stage scopes (Ok number) = Heads words stage scopes number
HeadsBy words stage scopes (Err why) = FailsBy words stage.marks why

-- what is answered of a heading behind its forward heading
abbrev pub IsSecond : List Word → Marks → Result (Unit {0}) Stop → Type 0
IsSecond words marks (Ok done) = IsQuiet words marks false
IsSecond words marks (Err why) = FailsBy words marks why

-- each name shows the same in both scopes where it is a parameter of the program
abbrev pub ServesAs : Outer → Outer → Type 0
ServesAs outer other =
    (name : List ℕ) → parameter_faults outer.types (entity_in outer.names name)
    ≡ parameter_faults other.types (entity_in other.names name)

-- what the scopes stand for behind routines. Behind a fault no routine is looked at, and no more is known of the names
-- than what they show as parameters of the program
abbrev pub IsBehind : Outer → CodeScopes → Option Fault → Type 0
IsBehind outer scopes None = IsDeclared outer scopes None
IsBehind outer scopes (Some fault) = ServesAs (outer_view scopes) outer

-- routines that were gone through, and what their bodies mean
pub record GoesThrough (words : List Word) (stage : Outer → RoutineStage) (old : CodeScopes) (noted : Option Fault)
    (new : CodeScopes) (noting : Option Fault) (found : List CodeBody) : Type 0 where
  pub behind : (outer : Outer) → IsDeclared outer old noted → IsBehind (stage outer).outer new noting
  pub notes : (outer : Outer) → IsDeclared outer old noted → Notes words (stage outer).marks noted noting
  pub bodies_are : (outer : Outer) → IsDeclared outer old noted → noting ≡ None
      → (stage outer).bodies ≡ Some (map (body_view old.spellings.now) found)
