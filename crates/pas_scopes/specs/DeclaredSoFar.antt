-- How far the declarations of a program have come: what the scopes are, and which first fault is noted. Checking goes
-- on behind a fault, to learn what the names that are declared stand for.
use Rattle.std.specs.Prelude.{◌≡◌, ⊤, ℕ, false, List, [], ◌∷◌, length, Option, Some, None, Result, Err}
use Rattle.wb_base.specs.declared.faults.Fault.{Fault}
use Rattle.pas_syntax.specs.Tree.{TypeForm}
use Rattle.pas_syntax.specs.Words.{Word}
use Rattle.pas_scopes.specs.declared.scopes.Scopes.{Scopes as CodeScopes}
use Rattle.pas_scopes.specs.declared.stop.Stop.{Stop}
use Rattle.pas_scopes.specs.declared.stop.Stop.TheVariants as stop
use Rattle.pas_rules.specs.Marks.{Marks, Judged, known}
use Rattle.pas_rules.specs.Scopes.{Entity, constant, type, variable, Named, Outer, entity_in}
use Rattle.pas_typed.specs.Types.{Structure, file, Table, Made}
use Rattle.pas_typed.specs.Typed.{Variable}
use Rattle.pas_typed.specs.Shapes.{IsAmong}
use Rattle.pas_typed.specs.TypeViews.{counted}
use Rattle.pas_rules.specs.TypeForms.{ConstantValue, form_of}
use Rattle.pas_rules.specs.Declarations.{program_scopes, entity_or_unclear, cells_together, Stage}
use Rattle.pas_rules.specs.Scopes.{with_new}
use Rattle.pas_scopes.specs.ScopeViews.{outer_view, IsClear}
use Rattle.pas_scopes.specs.Answers.{IsQuiet, Shows}

-- the first fault, behind one that is noted or not
abbrev pub first_noted : Option Fault → Result (Unit {0}) Stop → Option Fault
first_noted None (Err (stop.Fault fault)) = Some fault
first_noted noted found = noted

-- the same names stand for the same, and all else is the same
pub record IsAlike (outer other : Outer) : Type 0 where
  pub names : (name : List ℕ) → entity_in outer.names name ≡ entity_in other.names name
  pub others : record outer { names = other.names } ≡ other

-- the scopes stand for this scope of the program, to the letter where no fault is noted; no name is unclear then
abbrev pub IsOuter : Outer → CodeScopes → Option Fault → Type 0
IsOuter outer scopes None = (outer_view scopes ≡ outer) × IsClear (program_scopes outer)
IsOuter outer scopes (Some fault) = IsAlike (outer_view scopes) outer

-- what a name stands for, if it is a type, is one of so many rows or has none
abbrev pub IsThere : ℕ → Entity → Type 0
IsThere rows (type found) = IsAmong rows found
IsThere rows entity = ⊤

abbrev pub AreThere : ℕ → List Named → Type 0
AreThere rows [] = ⊤
AreThere rows (named ∷ found) = IsThere rows named.entity × AreThere rows found

-- so are the types of variables
abbrev pub AreTyped : ℕ → List Variable → Type 0
AreTyped rows [] = ⊤
AreTyped rows (found ∷ variables) = IsAmong rows found.type × AreTyped rows variables

-- and so are the types of variables that names stand for, and what files have for components
abbrev pub IsHeld : ℕ → Entity → Type 0
IsHeld rows (variable slot) = IsAmong rows slot.type
IsHeld rows entity = ⊤

abbrev pub AreHeld : ℕ → List Named → Type 0
AreHeld rows [] = ⊤
AreHeld rows (named ∷ found) = IsHeld rows named.entity × AreHeld rows found

abbrev pub IsFiled : ℕ → Structure → Type 0
IsFiled rows (file component) = IsAmong rows component
IsFiled rows structure = ⊤

abbrev pub AreFiled : ℕ → Table → Type 0
AreFiled rows [] = ⊤
AreFiled rows (found ∷ table) = IsFiled rows found.structure × AreFiled rows table

-- the types of a scope of the program have the rows that its names, variables and files tell, and the variables
-- together have so many cells
pub record IsCounted (outer : Outer) (cells : ℕ) : Type 0 where
  pub names : AreThere (length outer.types) outer.names
  pub slots : AreHeld (length outer.types) outer.names
  pub files : AreFiled (length outer.types) outer.types
  pub globals : AreTyped (length outer.types) outer.globals
  pub cells_are : cells ≡ counted (cells_together outer.types outer.globals)

pub record IsDeclared (outer : Outer) (scopes : CodeScopes) (noted : Option Fault) : Type 0 where
  pub alone : scopes.inner ≡ None
  pub outer_is : IsOuter outer scopes noted
  pub is_counted : IsCounted outer scopes.cells

-- what is noted behind words: the first fault stays, or is that of these words
abbrev pub Notes : List Word → Marks → Option Fault → Option Fault → Type 0
Notes words marks None None = IsQuiet words marks false
Notes words marks None (Some fault) = Shows words marks fault
Notes words marks (Some fault) noted = noted ≡ Some fault

-- the same, where the words' first fault is told if this holds
abbrev pub NotesIf : Type 0 → List Word → Marks → Option Fault → Option Fault → Type 0
NotesIf Clear words marks None noting = Clear → Notes words marks None noting
NotesIf Clear words marks (Some fault) noting = noting ≡ Some fault

-- what a name stands for that is declared as a constant
abbrev pub constant_meant : Option ConstantValue → Entity
constant_meant value = entity_or_unclear (known (λ found. constant found.base found.value) value)

-- what a name stands for that is declared as a type
abbrev pub type_meant : Option Made → Entity
type_meant value = entity_or_unclear (known (λ found. type found.type) value)

-- declarations that were gone through: from what stood before, what stands behind
pub record Declares (words : List Word) (stage : Outer → Stage) (old : CodeScopes) (noted : Option Fault)
    (new : CodeScopes) (noting : Option Fault) : Type 0 where
  pub declared : (outer : Outer) → IsDeclared outer old noted → IsDeclared (stage outer).outer new noting
  pub notes : (outer : Outer) → IsDeclared outer old noted → Notes words (stage outer).marks noted noting

-- the scopes stand for a scope of the program, whatever is noted
pub record IsLike (outer : Outer) (scopes : CodeScopes) : Type 0 where
  pub alone : scopes.inner ≡ None
  pub alike : IsAlike (outer_view scopes) outer
  pub is_counted : IsCounted outer scopes.cells

-- what the type of variables of the program means
abbrev pub global_form : Outer → TypeForm → Judged Made
global_form outer written = form_of (program_scopes outer) outer.types written

-- names behind others, each where it is not there yet
abbrev pub with_each : List Named → List Named → List Named
with_each found [] = found
with_each found (named ∷ more) = with_each (with_new found named.name named.entity) more
