-- How far the routines of a program have come. Behind a fault no routine is looked at, and no more is known of the
-- names than what they show as parameters of the program.
use Rattle.std.specs.Prelude.{◌≡◌, ⊤, ℕ, List, ◌++◌, length, map, Option, Some, None, option_map}
use Rattle.wb_base.specs.declared.faults.Fault.{Fault}
use Rattle.pas_syntax.specs.Words.{Word}
use Rattle.pas_typed.specs.declared.typed.Body.{Body as CodeBody}
use Rattle.pas_typed.specs.Types.{Table}
use Rattle.pas_typed.specs.TypedViews.{body_view}
use Rattle.pas_scopes.specs.declared.scopes.Scopes.{Scopes as CodeScopes}
use Rattle.pas_rules.specs.Scopes.{Entity, variable, routine, unclear, Named, Outer, entity_in}
use Rattle.pas_rules.specs.Routines.{RoutineStage}
use Rattle.pas_rules.specs.Scopes.{with_new}
use Rattle.pas_scopes.specs.ScopeViews.{outer_view}
use Rattle.pas_scopes.specs.DeclaredSoFar.{IsHeld, AreFiled, IsCounted, Notes}
use Rattle.pas_types.specs.inner.RoutineAnswers.{IsReady}

-- what a name stands for, as far as it may be that of a file of the program
abbrev pub masked : Entity → Entity
masked (variable slot) = variable slot
masked entity = unclear

abbrev pub served : List Named → List ℕ → Option Entity
served found name = option_map masked (entity_in found name)

abbrev pub IsHeldIf : ℕ → Option Entity → Type 0
IsHeldIf rows None = ⊤
IsHeldIf rows (Some entity) = IsHeld rows entity

-- the scopes behind a fault: their names serve as those of the program's scope do, over a table that it begins with
pub record IsNoted (outer : Outer) (scopes : CodeScopes) : Type 0 where
  pub more : Table
  pub table_is : outer.types ≡ (outer_view scopes).types ++ more
  pub alike : (name : List ℕ) → served scopes.names name ≡ served outer.names name
  pub held : (name : List ℕ) → IsHeldIf (length (outer_view scopes).types) (entity_in scopes.names name)
  pub filed : AreFiled (length (outer_view scopes).types) (outer_view scopes).types
  pub counted_is : IsCounted outer scopes.cells

-- the scopes before, between and behind routines
abbrev pub StandsFor : Outer → CodeScopes → Option Fault → Type 0
StandsFor outer scopes None = IsReady scopes × (outer_view scopes ≡ outer)
StandsFor outer scopes (Some fault) = IsNoted outer scopes

-- names with that of a routine, if it was declared
abbrev pub names_by : List Named → List ℕ → Option ℕ → List Named
names_by found name None = found
names_by found name (Some number) = with_new found name (routine number)

pub record IsNamed (old : List Named) (name : List ℕ) (new : List Named) : Type 0 where
  pub number : Option ℕ
  pub is : new ≡ names_by old name number

-- routines that were gone through, and what their bodies mean
pub record Steps (words : List Word) (stage : Outer → RoutineStage) (old : CodeScopes) (noted : Option Fault)
    (new : CodeScopes) (noting : Option Fault) (found : List CodeBody) : Type 0 where
  pub stands : (outer : Outer) → StandsFor outer old noted → StandsFor (stage outer).outer new noting
  pub notes : (outer : Outer) → StandsFor outer old noted → Notes words (stage outer).marks noted noting
  pub bodies_are : (outer : Outer) → StandsFor outer old noted → noting ≡ None
      → (stage outer).bodies ≡ Some (map (body_view old.spellings.now) found)
