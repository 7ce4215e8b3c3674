-- What functions of a machine find of values and places: what the meaning does, from each scene in which they are
-- lawful. This project's own.
use Rattle.std.specs.Prelude.{◌≡◌, ℕ, ℤ, List, Bool, false, Option, Some, Result, Ok, Err, ⊤}
use Rattle.pas_typed.specs.Types.{PasType, whole, boolean}
use Rattle.pas_typed.specs.Typed.{Variable, Slot, Value, Place, TypedProgram}
use Rattle.pas_typed.specs.TypedViews.{slot_view, program_view}
use Rattle.pas_typed.specs.declared.typed.Slot.{Slot as CodeSlot}
use Rattle.pas_typed.specs.TypeOf.{type_of_place, is_buffer}
use Rattle.pas_typed.specs.TypeViews.{type_view}
use Rattle.pas_typed.specs.Shapes.{Leads, offset, shape_of}
use Rattle.pas_typed.specs.Lawful.{IsOrdinal, IsLawfulNumber, IsLawfulSlot, IsLawfulPlace}
use Rattle.pas_meaning.specs.declared.errors.TheConstants.{CALL_LIMIT}
use Rattle.pas_meaning.specs.Answers.{Answer}
use Rattle.pas_meaning.specs.Outcome.{Doing, pure, ◌>>=◌, answered}
use Rattle.pas_meaning.specs.Store.{Datum, holds, Store, number_of, fits}
use Rattle.pas_meaning.specs.Operands.{operand, truth_of}
use Rattle.pas_meaning.specs.Run as meaning
use Rattle.pas_meaning.specs.Run.{Spot, part, window, within}
use Rattle.pas_meaning.specs.Standing.{Kinds}
use Rattle.pas_run.specs.declared.ends.Stop.{Stop}
use Rattle.pas_run.specs.declared.layouts.Scene.{Scene}
use Rattle.pas_run.specs.inner.MachineState.{MachineState}
use Rattle.pas_run.specs.inner.Doings.{Same, IsNumber, Answers, Does}
use Rattle.pas_run.specs.inner.Scenes.{IsScene, IsFileSlot}
use Rattle.pas_run.specs.declared.ends.Stop.TheVariants as stop
use Rattle.pas_run.specs.declared.spots.Spot.{Spot as CodeSpot}
use Rattle.pas_run.specs.declared.spots.Spot.TheVariants as code

-- the value of an expression, with so many steps left at most
abbrev pub value_of : TypedProgram → ℕ → Value → Doing Store Datum
value_of program most = meaning.value (Some CALL_LIMIT) program (within (Some CALL_LIMIT) program most)

-- something that is done with one operand, or with two
abbrev pub once : (ℤ → Answer ℤ) → Doing Store Datum → Doing Store Datum
once work one = do
  found ← operand number_of one
  result ← answered (work found)
  pure (holds result)

abbrev pub twice : (ℤ → ℤ → Answer ℤ) → Doing Store Datum → Doing Store Datum → Doing Store Datum
twice work one other = do
  first ← operand number_of one
  second ← operand number_of other
  result ← answered (work first second)
  pure (holds result)

-- a function finds what a lawful tree means, which is told by `doing` for so many steps
abbrev pub Finds : {A T : Type 0} → Scene → (List Variable → Type 0) → (T → A → Type 0) → (ℕ → Doing Store A)
    → MachineState → MachineState → Result T Stop → Type 0
Finds scene IsTree Is doing before now result =
    (variables : List Variable) (result' : Option PasType) (kinds : Kinds) → IsScene scene variables result' kinds
    → IsTree variables → (most : ℕ) → Does most kinds kinds Is (doing most) before now result

-- the number that a value is
abbrev pub Evaluates : Scene → Value → MachineState → MachineState → Result ℤ Stop → Type 0
Evaluates scene found =
    Finds scene (λ variables. IsLawfulNumber (program_view scene.program.now) variables found) IsNumber
    (λ most. value_of (program_view scene.program.now) most found)

-- the number that is worked out of two values
abbrev pub Works : Scene → (ℤ → ℤ → Answer ℤ) → Value → Value → MachineState → MachineState → Result ℤ Stop → Type 0
Works scene work left right =
    Finds scene (λ variables. IsLawfulNumber (program_view scene.program.now) variables left
    × IsLawfulNumber (program_view scene.program.now) variables right) IsNumber
    (λ most. twice work (value_of (program_view scene.program.now) most left)
    (value_of (program_view scene.program.now) most right))

-- the truth of a value, and a value that must be a boolean
abbrev pub Decides : Scene → Value → MachineState → MachineState → Result Bool Stop → Type 0
Decides scene found =
    Finds scene (λ variables. IsLawfulNumber (program_view scene.program.now) variables found) Same
    (λ most. operand truth_of (value_of (program_view scene.program.now) most found))

abbrev pub IsBoolean : Scene → Value → MachineState → MachineState → Result ℤ Stop → Type 0
IsBoolean scene found =
    Finds scene (λ variables. IsLawfulNumber (program_view scene.program.now) variables found) IsNumber
    (λ most. operand (fits (program_view scene.program.now).types (whole boolean))
    (value_of (program_view scene.program.now) most found))

-- the variable that a file is, as the code has it
abbrev pub IsSlot : CodeSlot → Slot → Type 0
IsSlot found slot = slot_view found ≡ slot

-- a place with its checked indexes
abbrev pub place_at : TypedProgram → ℕ → Place → Doing Store Spot
place_at program most = meaning.spot_at (Some CALL_LIMIT) program (within (Some CALL_LIMIT) program most)

-- a place of a type with its checked indexes, as the code has it: a part of a variable that begins behind so many of
-- its cells, or the buffer of a file
abbrev pub MeansSpot : (program : TypedProgram) → List Variable → PasType → CodeSpot → Spot → Type 0
MeansSpot program variables type (code.Part found behind) (part slot path) =
    (slot_view found ≡ slot) × IsLawfulSlot program variables slot
    × Leads (shape_of program.types slot.type) path (shape_of program.types type)
    × (behind ≡ offset (shape_of program.types slot.type) path)
MeansSpot program variables type (code.Window found of_code) (window slot of_component) =
    (slot_view found ≡ slot) × IsFileSlot program variables slot × IsOrdinal program.types type
    × (type_view of_code ≡ of_component) × (of_component ≡ type)
MeansSpot program variables type spot place = ⊥

-- where a place is
abbrev pub Locates : Scene → Place → MachineState → MachineState → Result CodeSpot Stop → Type 0
Locates scene place before now result =
    (variables : List Variable) (result' : Option PasType) (kinds : Kinds) → IsScene scene variables result' kinds
    → IsLawfulPlace (program_view scene.program.now) variables place → (most : ℕ)
    → Does most kinds kinds (MeansSpot (program_view scene.program.now) variables (type_of_place place))
    (place_at (program_view scene.program.now) most place) before now result

-- a part of a variable that begins behind so many of its cells
abbrev pub IsBehind : (program : TypedProgram) → List Variable → CodeSlot → PasType → ℕ → Spot → Type 0
IsBehind program variables slot type behind place = MeansSpot program variables type (code.Part slot behind) place

-- behind how many cells of its variable a place begins that is no buffer
abbrev pub LocatesPart : Scene → CodeSlot → Place → MachineState → MachineState → Result ℕ Stop → Type 0
LocatesPart scene slot place before now result =
    is_buffer place ≡ false → (variables : List Variable) (result' : Option PasType) (kinds : Kinds)
    → IsScene scene variables result' kinds
    → IsLawfulPlace (program_view scene.program.now) variables place → (most : ℕ)
    → Does most kinds kinds (IsBehind (program_view scene.program.now) variables slot (type_of_place place))
    (place_at (program_view scene.program.now) most place) before now result

-- where the part is, no buffer, that is selected of a place of a type, which begins behind so many cells of a variable
abbrev pub Selects : Scene → (Place → Place) → PasType → ℕ → MachineState → MachineState → Result ℕ Stop → Type 0
Selects scene select type behind before now result =
    (variables : List Variable) (result' : Option PasType) (kinds : Kinds) → IsScene scene variables result' kinds
    → (place : Place) → IsLawfulPlace (program_view scene.program.now) variables (select place)
    → is_buffer (select place) ≡ false → type_of_place place ≡ type → (slot : CodeSlot) (most : ℕ) (first :
    MachineState)
    → Does most kinds kinds (IsBehind (program_view scene.program.now) variables slot type)
    (place_at (program_view scene.program.now) most place) first before (Ok behind)
    → Does most kinds kinds (IsBehind (program_view scene.program.now) variables slot (type_of_place (select place)))
    (place_at (program_view scene.program.now) most (select place)) first now result

-- a count of cells, unless they are too many
abbrev pub IsCount : ℕ → Result ℕ Stop → Type 0
IsCount cells (Ok found) = found ≡ cells
IsCount cells (Err stop.OutOfMemory) = ⊤
IsCount cells (Err why) = ⊥

-- the number of an element, unless it is more than a machine has cells
abbrev pub IsElement : Answer ℕ → Result ℕ Stop → Type 0
IsElement answer (Err stop.OutOfMemory) = ⊤
IsElement answer result = Answers Same answer result
