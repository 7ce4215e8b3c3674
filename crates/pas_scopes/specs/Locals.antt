-- What functions that declare variables of a routine answer.
use Rattle.std.specs.Prelude.{◌≡◌, ⊤, ℕ, suc, false, List, [], ◌∷◌, ◌++◌, length, map, fold, Option, Some, None}
use Rattle.std.specs.Prelude.{Result, Ok, Err}
use Rattle.wb_base.specs.declared.faults.Fault.{Fault}
use Rattle.pas_syntax.specs.declared.tree.Ident.{Ident as CodeIdent}
use Rattle.pas_syntax.specs.Views.{spelled_in}
use Rattle.pas_syntax.specs.Words.{Word}
use Rattle.pas_typed.specs.declared.types.PasType.{PasType as CodePasType}
use Rattle.pas_typed.specs.declared.typed.Mode.{Mode as CodeMode}
use Rattle.pas_typed.specs.declared.typed.Heading.{Heading as CodeHeading}
use Rattle.pas_typed.specs.Types.{Table}
use Rattle.pas_typed.specs.Typed.{local}
use Rattle.pas_typed.specs.TypeViews.{type_view, counted}
use Rattle.pas_typed.specs.TypedViews.{mode_view, variable_view}
use Rattle.pas_scopes.specs.declared.scopes.Inner.{Inner as CodeInner}
use Rattle.pas_scopes.specs.declared.scopes.KnownRoutine.{KnownRoutine as CodeRoutine}
use Rattle.pas_scopes.specs.declared.scopes.Scopes.{Scopes as CodeScopes}
use Rattle.pas_scopes.specs.declared.stop.Stop.{Stop}
use Rattle.pas_scopes.specs.declared.stop.Stop.TheVariants as stop
use Rattle.pas_rules.specs.Scopes.{variable}
use Rattle.pas_rules.specs.Declarations.{cells_together, named_slots, InnerStage}
use Rattle.pas_rules.specs.Scopes.{with_new}
use Rattle.pas_scopes.specs.ScopeViews.{inner_view, outer_view, scopes_view, IsClear}
use Rattle.pas_scopes.specs.Answers.{IsQuiet, FailsBy}
use Rattle.pas_scopes.specs.DeclaredSoFar.{AreThere, AreTyped, IsCounted}

-- the scope of a routine with variables of one kind, one after another
module _ (spellings : List ℕ) (mode : CodeMode) (type : CodePasType) where
  abbrev pub with_local : CodeInner → CodeIdent → CodeInner
  with_local inner ident = record inner {
    names = with_new inner.names (spelled_in spellings ident.span) (variable (record {
      home = local;
      number = length inner.variables;
      mode = mode_view mode;
      type = type_view type;
    }));
    variables = inner.variables ++ record { name = ident.span; mode = mode; pas_type = type } ∷ [];
  }

  abbrev pub with_all : List CodeIdent → CodeInner → CodeInner
  with_all idents inner = fold with_local inner idents

-- the scope of a routine of which the variables have so many cells
abbrev pub with_count : ℕ → CodeInner → CodeInner
with_count cells inner = record inner { cells = cells }

-- what was found where a fault is noted or not: that fault is why checking stops, but for want of memory
abbrev pub told : {A : Type 0} → Option Fault → Result A Stop → Result A Stop
told None found = found
told (Some fault) (Err stop.OutOfMemory) = Err stop.OutOfMemory
told (Some fault) found = Err (stop.Fault fault)

-- the names and variables of a routine tell rows of a table, and the variables have so many cells by it
pub record IsMeasured (table : Table) (spellings : List ℕ) (inner : CodeInner) : Type 0 where
  pub names : AreThere (length table) inner.names
  pub variables : AreTyped (length table) (map (variable_view spellings) inner.variables)
  pub cells_are : inner.cells ≡ counted (cells_together table (map (variable_view spellings) inner.variables))

-- the scope that the heading of the routine with this number has made for a body that is still to come
pub record IsWaiting (table : Table) (spellings : List ℕ) (number : ℕ) (heading : CodeHeading) (inner : CodeInner)
    : Type 0 where
  pub number_is : inner.number ≡ number
  pub labels_are : inner.labels ≡ []
  pub variables_are : inner.variables ≡ heading.parameters
  pub names_are : inner.names ≡ named_slots local 0 (map (variable_view spellings) inner.variables)
  pub measured : IsMeasured table spellings inner

module _ (table : Table) (spellings : List ℕ) where
  abbrev pub IsWaitingIf : ℕ → CodeHeading → Option CodeInner → Type 0
  IsWaitingIf number heading None = ⊤
  IsWaitingIf number heading (Some inner) = IsWaiting table spellings number heading inner

  abbrev pub AreWaiting : ℕ → List CodeRoutine → Type 0
  AreWaiting number [] = ⊤
  AreWaiting number (known ∷ routines) =
      IsWaitingIf number known.heading known.awaited × AreWaiting (suc number) routines

-- what is known of the scope of the program while no fault is noted
pub record IsLawful (scopes : CodeScopes) : Type 0 where
  pub counted_is : IsCounted (outer_view scopes) scopes.cells
  pub waiting : AreWaiting (outer_view scopes).types scopes.spellings.now 0 scopes.routines.items

-- the scopes in a routine while no fault is noted
pub record IsWithin (inner : CodeInner) (scopes : CodeScopes) : Type 0 where
  pub inside : scopes.inner ≡ Some inner
  pub clear : IsClear (scopes_view scopes)
  pub lawful : IsLawful scopes
  pub measured : IsMeasured (outer_view scopes).types scopes.spellings.now inner

-- the scopes behind a part of a routine
pub record Leaves (stage : InnerStage) (scopes : CodeScopes) : Type 0 where
  pub inner : CodeInner
  pub within : IsWithin inner scopes
  pub inner_is : inner_view scopes.spellings.now inner ≡ stage.inner
  pub table_is : (outer_view scopes).types ≡ stage.table

-- what is answered of a part of a routine: its words show nothing, and the scopes behind it are these, or why checking
-- stops in it
abbrev pub Passes : List Word → InnerStage → CodeScopes → Result (Unit {0}) Stop → Type 0
Passes words stage scopes (Ok done) = IsQuiet words stage.marks false × Leaves stage scopes
Passes words stage scopes (Err why) = FailsBy words stage.marks why
