-- What is run, and where its variables are. This project's own.
use Rattle.std.specs.Prelude.{◌≡◌, ℕ, ◌-◌, ◌<◌, List, [], ◌++◌, length, map, slice_get, slice_index_or, Option, Some}
use Rattle.pas_typed.specs.Types.{PasType, Table}
use Rattle.pas_typed.specs.Typed as typed
use Rattle.pas_typed.specs.Typed.{Home, Mode, Variable, Slot, Heading, Body, TypedProgram}
use Rattle.pas_typed.specs.TypeViews.{type_view}
use Rattle.pas_typed.specs.TypedViews.{slot_view, program_view}
use Rattle.pas_typed.specs.Lawful.{IsOrdinal, IsLawful, IsLawfulSlot, IsFile}
use Rattle.pas_typed.specs.Shapes.{one_cell, Leads, offset, shape_of}
use Rattle.pas_meaning.specs.Run.{body_of, Spot, part, window}
use Rattle.pas_meaning.specs.Standing.{Kind, kind_of, Kinds, Knows}
use Rattle.pas_run.specs.declared.cells.Address.{Address}
use Rattle.pas_run.specs.declared.cells.Cell.{Cell}
use Rattle.pas_run.specs.declared.cells.Cell.TheVariants.{Refers}
use Rattle.pas_run.specs.declared.layouts.Layout.{Layout}
use Rattle.pas_run.specs.declared.layouts.Layouts.{Layouts}
use Rattle.pas_run.specs.declared.layouts.Scene.{Scene}
use Rattle.pas_run.specs.declared.spots.Spot.{Spot as CodeSpot}
use Rattle.pas_run.specs.declared.spots.Spot.TheVariants as code
use Rattle.pas_run.specs.inner.FlatStore.{cells_before}

-- the layout of variables: how many cells stand before each, and how many they have
pub record IsLayout (table : Table) (variables : List Variable) (layout : Layout) : Type 0 where
  pub many : length layout.offsets ≡ length variables
  pub each : (number : ℕ) → number < length variables
      → slice_index_or layout.offsets number 0 ≡ cells_before (map (kind_of table) variables) number
  pub cells : layout.cells ≡ cells_before (map (kind_of table) variables) (length variables)

-- the layouts of a program: of its globals, of each body, and the number of the body of each routine
pub record HasLayout (table : Table) (layouts : List Layout) (number : ℕ) (body : Body) : Type 0 where
  pub layout : Layout
  pub there : slice_get layouts number ≡ Some layout
  pub is : IsLayout table body.variables layout

pub record HasBody (program : TypedProgram) (routines : List ℕ) (routine : ℕ) : Type 0 where
  pub number : ℕ
  pub there : slice_get routines routine ≡ Some number
  pub body : Body
  pub found : slice_get program.bodies number ≡ Some body
  pub its : body_of program routine ≡ Some body

pub record AreLayouts (program : TypedProgram) (layouts : Layouts) : Type 0 where
  pub globals : IsLayout program.types program.globals layouts.globals
  pub bodies : (number : ℕ) (body : Body) → slice_get program.bodies number ≡ Some body
      → HasLayout program.types layouts.bodies number body
  pub routines : (routine : ℕ) (heading : Heading) → slice_get program.headings routine ≡ Some heading
      → HasBody program layouts.routines routine

-- what is run stands so: a program with its layouts, in an activation with these variables and this result
pub record IsAt (program : TypedProgram) (layouts : Layouts) (locals : Layout) (variables : List Variable)
    (result : Option PasType) (kinds : Kinds) : Type 0 where
  pub lawful : IsLawful program
  pub all_laid : AreLayouts program layouts
  pub laid : IsLayout program.types variables locals
  pub knows : Knows program variables result kinds
  pub global_row : slice_index_or kinds 0 [] ≡ map (kind_of program.types) program.globals
  pub others : List Kind
  pub top_row : slice_index_or kinds (length kinds - 1) [] ≡ map (kind_of program.types) variables ++ others

abbrev pub IsScene : Scene → List Variable → Option PasType → Kinds → Type 0
IsScene scene variables result kinds =
    IsAt (program_view scene.program.now) scene.layouts.now scene.locals.now variables result kinds

-- the layout of a home, and the address where a variable has its own cells
abbrev pub layout_by : Home → Layout → Layout → Layout
layout_by typed.global globals locals = globals
layout_by typed.local globals locals = locals

abbrev pub activation_by : Home → ℕ → ℕ
activation_by typed.global top = 0
activation_by typed.local top = top

abbrev pub own_address : Layout → Layout → ℕ → Home → ℕ → Address
own_address globals locals top home number = record {
  activation = activation_by home top;
  offset = slice_index_or (layout_by home globals locals).offsets number 0;
}

-- where a variable is: a variable parameter tells it in its cell
abbrev pub home_in : Mode → Address → Cell → Address
home_in typed.by_name own (Refers address) = address
home_in mode own cell = own

-- a path leads from a variable to a cell of it behind so many
pub record IsCell (program : TypedProgram) (slot : Slot) (path : List ℕ) (behind : ℕ) : Type 0 where
  pub leads : Leads (shape_of program.types slot.type) path one_cell
  pub begins : behind ≡ offset (shape_of program.types slot.type) path

-- a variable that is a file
pub record IsFileSlot (program : TypedProgram) (variables : List Variable) (slot : Slot) : Type 0 where
  pub slot_is : IsLawfulSlot program variables slot
  pub file : IsFile program.types slot.type

-- a place of an ordinal type with its checked indexes, as the code has it: a cell of a variable, or the buffer
-- of a file
abbrev pub IsSpot : (program : TypedProgram) → List Variable → PasType → CodeSpot → Spot → Type 0
IsSpot program variables type (code.Part found behind) (part slot path) =
    (slot_view found ≡ slot) × IsLawfulSlot program variables slot × IsOrdinal program.types type
    × Leads (shape_of program.types slot.type) path (shape_of program.types type)
    × (behind ≡ offset (shape_of program.types slot.type) path)
IsSpot program variables type (code.Window found of_code) (window slot of_component) =
    (slot_view found ≡ slot) × IsFileSlot program variables slot × IsOrdinal program.types type
    × (type_view of_code ≡ of_component) × (of_component ≡ type)
IsSpot program variables type spot place = ⊥
