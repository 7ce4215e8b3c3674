-- What functions of a machine find of whole variables, and do with them. This project's own.
use Rattle.std.specs.Prelude.{◌≡◌, ℕ, List, None, Result, Ok, Err, ⊤}
use Rattle.pas_typed.specs.Types.{PasType, Table, range_of}
use Rattle.pas_typed.specs.Typed.{Value, Place, TypedProgram}
use Rattle.pas_typed.specs.TypedViews.{program_view}
use Rattle.pas_typed.specs.TypeOf.{type_of}
use Rattle.pas_typed.specs.Lawful.{IsLawfulValue}
use Rattle.pas_meaning.specs.Outcome.{Doing, ◌>>=◌}
use Rattle.pas_meaning.specs.Store.{Datum, Store, Reference, home_of, along, fetched}
use Rattle.pas_meaning.specs.Run.{Spot, slot_of, path_of}
use Rattle.pas_meaning.specs.Standing.{IsOfType}
use Rattle.pas_run.specs.declared.cells.Cell.{Cell}
use Rattle.pas_run.specs.declared.ends.Stop.{Stop}
use Rattle.pas_run.specs.declared.ends.Stop.TheVariants as stop
use Rattle.pas_run.specs.declared.layouts.Scene.{Scene}
use Rattle.pas_run.specs.inner.FlatStore.{datum_cells}
use Rattle.pas_run.specs.inner.MachineState.{MachineState}
use Rattle.pas_run.specs.inner.Evaluating.{Finds, value_of}
use Rattle.pas_run.specs.inner.Running.{assigned_to}

-- a type that is no ordinal: what is of it is copied as a whole
abbrev pub IsWhole : Table → PasType → Type 0
IsWhole table type = range_of table type ≡ None

-- something is found, or there is no memory
abbrev pub IsFound : {T : Type 0} → (T → Type 0) → Result T Stop → Type 0
IsFound P (Ok found) = P found
IsFound P (Err stop.OutOfMemory) = ⊤
IsFound P (Err why) = ⊥

-- these are the cells of a datum of a type
abbrev pub AreCells : Table → PasType → List Cell → Datum → Type 0
AreCells table type found datum = IsOfType table type datum × (found ≡ datum_cells datum)

-- where a place is that is no buffer, and what is there
abbrev pub reference_to : Spot → Store → Reference
reference_to place store = along (home_of (slot_of place) store) (path_of place)

abbrev pub held_at : Spot → Store → Datum
held_at place store = fetched (reference_to place store) store

-- the cells of the value of an expression
abbrev pub Copies : Scene → Value → MachineState → MachineState → Result (List Cell) Stop → Type 0
Copies scene found =
    Finds scene (λ variables. IsLawfulValue (program_view scene.program.now) variables found
    × IsWhole (program_view scene.program.now).types (type_of found))
    (AreCells (program_view scene.program.now).types (type_of found))
    (λ most. value_of (program_view scene.program.now) most found)

-- v := w: the value first, and then where the place is
abbrev pub assignment_of : TypedProgram → ℕ → Place → Value → Doing Store (Unit {0})
assignment_of program most place right = value_of program most right >>= assigned_to program most place
