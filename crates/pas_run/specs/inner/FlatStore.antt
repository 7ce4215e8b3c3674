-- The activations of a run in flat cells, one run of cells for each. This project's own.
use Rattle.std.specs.Prelude.{ℕ, zero, suc, ◌+◌, ℤ, List, [], ◌∷◌, ◌++◌, length, map, take, drop, slice_index_or}
use Rattle.std.specs.Prelude.{slice_set, Option, Some, None}
use Rattle.pas_typed.specs.Shapes.{Shape, one_cell, size, offset}
use Rattle.pas_meaning.specs.Store as pascal
use Rattle.pas_meaning.specs.Store.{own, refers, Reference, Store}
use Rattle.pas_meaning.specs.Cells.{flat}
use Rattle.pas_meaning.specs.Standing.{Kind, plain, named, Kinds, kind_at}
use Rattle.pas_run.specs.declared.cells.Address.{Address}
use Rattle.pas_run.specs.declared.cells.Cell.{Cell}
use Rattle.pas_run.specs.declared.cells.Cell.TheVariants.{Undefined, Holds, Refers}

-- how many cells a variable of a kind has, and how many stand before one in an activation of these kinds
abbrev pub cells_for : Kind → ℕ
cells_for (plain shape) = size shape
cells_for (named shape) = 1

abbrev pub cells_before : List Kind → ℕ → ℕ
cells_before [] variable = 0
cells_before (kind ∷ row) zero = 0
cells_before (kind ∷ row) (suc variable) = cells_for kind + cells_before row variable

-- where the cells begin that a reference means
abbrev pub root_of : Option Kind → Shape
root_of (Some (plain shape)) = shape
root_of kind = one_cell

abbrev pub address_of : Kinds → Reference → Address
address_of kinds reference = record {
  activation = reference.activation;
  offset = cells_before (slice_index_or kinds reference.activation []) reference.variable
      + offset (root_of (kind_at kinds reference.activation reference.variable)) reference.path;
}

-- the cells of a datum, of what stands for a variable, of an activation, and of all
abbrev pub number_cell : Option ℤ → Cell
number_cell None = Undefined
number_cell (Some number) = Holds number

abbrev pub datum_cells : pascal.Datum → List Cell
datum_cells datum = map number_cell (flat datum)

abbrev pub flat_cell : Kinds → pascal.Cell → List Cell
flat_cell kinds (own datum) = datum_cells datum
flat_cell kinds (refers reference) = Refers (address_of kinds reference) ∷ []

abbrev pub flat_row : Kinds → List pascal.Cell → List Cell
flat_row kinds [] = []
flat_row kinds (cell ∷ cells) = flat_cell kinds cell ++ flat_row kinds cells

abbrev pub Activations : Type 0
Activations = List (List Cell)

abbrev pub flat_store : Kinds → Store → Activations
flat_store kinds found = map (flat_row kinds) found

-- a cell at an address, so many from it on, and the activations with others there
abbrev pub cells_of : Address → Activations → List Cell
cells_of address activations = slice_index_or activations address.activation []

abbrev pub cell_in : Address → Activations → Cell
cell_in address activations = slice_index_or (cells_of address activations) address.offset Undefined

abbrev pub with_cell : Address → Cell → Activations → Activations
with_cell address cell activations =
    slice_set activations address.activation (slice_set (cells_of address activations) address.offset cell)

-- the address so many cells behind another
abbrev pub behind_by : ℕ → Address → Address
behind_by count address = record address { offset = address.offset + count }

abbrev pub cells_at : Address → ℕ → Activations → List Cell
cells_at address count activations = take count (drop address.offset (cells_of address activations))

abbrev pub over : List Cell → ℕ → List Cell → List Cell
over cells at row = take at row ++ (cells ++ drop (at + length cells) row)

abbrev pub with_cells : Address → List Cell → Activations → Activations
with_cells address cells activations =
    slice_set activations address.activation (over cells address.offset (cells_of address activations))
