-- The variables of a lawful program keep their shapes: what is declared for each, and that it stands so. This
-- project's own.
use Rattle.std.specs.Prelude.{◌≡◌, ℕ, ◌-◌, ◌<◌, List, [], ◌∷◌, ◌++◌, length, map, slice_get, slice_index_or, Option}
use Rattle.std.specs.Prelude.{Some, None, option_to_list, Bool, true, false, ⊤}
use Rattle.pas_typed.specs.Types.{PasType, Table}
use Rattle.pas_typed.specs.Typed as typed
use Rattle.pas_typed.specs.Typed.{Mode, Variable, Statement, Heading, Body, TypedProgram}
use Rattle.pas_typed.specs.Shapes.{Shape, one_cell, Leads, shape_of}
use Rattle.pas_typed.specs.Lawful.{IsOrdinal, IsLawfulSlot, IsLawfulStatement}
use Rattle.pas_meaning.specs.Outcome.{Run, Outcome, gives, ends, errs, Doing}
use Rattle.pas_meaning.specs.Store.{Datum, Cell, own, refers, Reference, Store, cell_at}
use Rattle.pas_meaning.specs.Run.{Entry, Doings, Spot, part, window, Argument, copied, meant}
use Rattle.pas_meaning.specs.Cells.{IsShaped}

-- what is declared for a cell: a datum of a shape, or a reference to a part of this shape
pub data Kind : Type 0 where
  plain : Shape → Kind
  named : Shape → Kind

abbrev pub kind_by : Mode → Shape → Kind
kind_by typed.declared shape = plain shape
kind_by typed.by_value shape = plain shape
kind_by typed.by_name shape = named shape

abbrev pub kind_of : Table → Variable → Kind
kind_of table variable = kind_by variable.mode (shape_of table variable.type)

-- the kinds of an activation, in which a result is one cell; and of all activations
abbrev pub result_kinds : Option Heading → List Kind
result_kinds None = []
result_kinds (Some heading) = map (λ type. plain one_cell) (option_to_list heading.result)

abbrev pub kinds_for : TypedProgram → Body → List Kind
kinds_for program body =
    map (kind_of program.types) body.variables ++ result_kinds (slice_get program.headings body.routine)

abbrev pub Kinds : Type 0
Kinds = List (List Kind)

abbrev pub kinds_at_start : TypedProgram → Kinds
kinds_at_start program = map (kind_of program.types) program.globals ∷ []

abbrev pub kind_at : Kinds → ℕ → ℕ → Option Kind
kind_at kinds activation variable = slice_get (slice_index_or kinds activation []) variable

-- a reference means a part of this shape of a variable that is no reference
pub record Aims (kinds : Kinds) (reference : Reference) (shape : Shape) : Type 0 where
  pub root : Shape
  pub there : kind_at kinds reference.activation reference.variable ≡ Some (plain root)
  pub leads : Leads root reference.path shape

-- what stands in a cell of an activation is what is declared; a reference means an earlier activation
abbrev pub Matches : Kinds → ℕ → Kind → Cell → Type 0
Matches kinds activation (plain shape) (own datum) = IsShaped shape datum
Matches kinds activation (plain shape) (refers reference) = ⊥
Matches kinds activation (named shape) (own datum) = ⊥
Matches kinds activation (named shape) (refers reference) =
    Aims kinds reference shape × (reference.activation < activation)

-- a store stands by these kinds
pub record Stands (kinds : Kinds) (store : Store) : Type 0 where
  pub rows : length store ≡ length kinds
  pub row : (activation : ℕ)
      → length (slice_index_or store activation []) ≡ length (slice_index_or kinds activation [])
  pub cells : (activation variable : ℕ) (kind : Kind) → kind_at kinds activation variable ≡ Some kind
      → Matches kinds activation kind (cell_at activation variable store)

-- whether a place is the buffer of a file
abbrev pub is_window : Spot → Bool
is_window (part slot path) = false
is_window (window slot type) = true

-- a datum is of the shape of a type
abbrev pub IsOfType : Table → PasType → Datum → Type 0
IsOfType table type datum = IsShaped (shape_of table type) datum

-- a place of a type with its checked indexes; and arguments for parameters
module _ (program : TypedProgram) (variables : List Variable) where
  abbrev pub IsSpot : PasType → Spot → Type 0
  IsSpot type (part slot path) =
      IsLawfulSlot program variables slot
      × Leads (shape_of program.types slot.type) path (shape_of program.types type)
  IsSpot type (window slot of_component) = (of_component ≡ type) × IsOrdinal program.types type

  abbrev pub AreFor : List Variable → List Argument → Type 0
  AreFor [] [] = ⊤
  AreFor [] (argument ∷ arguments) = ⊥
  AreFor (parameter ∷ parameters) [] = ⊥
  AreFor (parameter ∷ parameters) (copied datum ∷ arguments) =
      (parameter.mode ≡ typed.by_value) × IsOfType program.types parameter.type datum × AreFor parameters arguments
  AreFor (parameter ∷ parameters) (meant spot ∷ arguments) =
      (parameter.mode ≡ typed.by_name) × IsSpot parameter.type spot × (is_window spot ≡ false)
      × AreFor parameters arguments

-- a run that goes on leaves a store that stands by these kinds, and a value of which P holds
abbrev pub Leaves : {A : Type 0} → Kinds → (A → Type 0) → Outcome Store A → Type 0
Leaves kinds P (gives value run) = P value × Stands kinds run.store
Leaves kinds P (ends end world) = ⊤
Leaves kinds P (errs kind world) = ⊤

-- what is done does so from each store that stands by the kinds before it
pub record Keeps {A : Type 0} (kinds later : Kinds) (P : A → Type 0) (doing : Doing Store A) : Type 0 where
  pub each : (run : Run Store) → Stands kinds run.store → Leaves later P (doing run)

-- the kinds are those of the program and, at their end, of an activation with these variables and this result
pub record Knows (program : TypedProgram) (variables : List Variable) (result : Option PasType)
    (kinds : Kinds) : Type 0 where
  pub some : 0 < length kinds
  pub globals : (number : ℕ) (variable : Variable) → slice_get program.globals number ≡ Some variable
      → kind_at kinds 0 number ≡ Some (kind_of program.types variable)
  pub locals : (number : ℕ) (variable : Variable) → slice_get variables number ≡ Some variable
      → kind_at kinds (length kinds - 1) number ≡ Some (kind_of program.types variable)
  pub result_cell : (type : PasType) → result ≡ Some type
      → kind_at kinds (length kinds - 1) (length variables) ≡ Some (plain one_cell)
  pub ordinal : (type : PasType) → result ≡ Some type → IsOrdinal program.types type

-- each lawful statement keeps the variables, wherever it is entered
abbrev pub KeepsAll : TypedProgram → Doings → Type 0
KeepsAll program doings =
    (variables : List Variable) (result : Option PasType) (kinds : Kinds) → Knows program variables result kinds
    → (from : Entry) (s : Statement) → IsLawfulStatement program variables result s
    → Keeps kinds kinds (λ flow. ⊤) (doings from s)
