-- Shapes of types: how many cells a variable has, and where its parts begin. They are made for the rows of a table
-- from the first one on, as rows refer to earlier ones. This project's own.
use Rattle.std.specs.Prelude.{◌≡◌, ℕ, zero, suc, ◌+◌, ◌<◌, List, [], ◌∷◌, ◌++◌, length, map, slice_index_or}
use Rattle.std.specs.Prelude.{⊤}
use Rattle.std.specs.Bool.{IsTrue}
use Rattle.std.specs.List.{All}
use Rattle.pas_typed.specs.Types as types
use Rattle.pas_typed.specs.Types.{Range, PasType, Structure, Table, count_of, cells_in, is_component, fields_of}

-- a shape: one cell, or shapes that stand one behind another
mutual
  pub data Shape : Type 0 where
    one_cell : Shape
    several : Shapes → Shape

  pub data Shapes : Type 0 where
    no_shape : Shapes
    with_shape : Shape → Shapes → Shapes

-- so many of a shape, and the shapes of a list
abbrev pub so_many : ℕ → Shape → Shapes
so_many zero shape = no_shape
so_many (suc count) shape = with_shape shape (so_many count shape)

abbrev pub all_shapes : List Shape → Shapes
all_shapes [] = no_shape
all_shapes (shape ∷ shapes) = with_shape shape (all_shapes shapes)

-- how many cells a shape has
abbrev mutual
  pub size : Shape → ℕ
  size one_cell = 1
  size (several shapes) = total shapes

  pub total : Shapes → ℕ
  total no_shape = 0
  total (with_shape shape shapes) = size shape + total shapes

-- the shapes of the parts, how many there are, the one with a number, and how many cells stand before it
abbrev pub shapes_in : Shape → Shapes
shapes_in one_cell = no_shape
shapes_in (several shapes) = shapes

abbrev pub count : Shapes → ℕ
count no_shape = 0
count (with_shape shape shapes) = suc (count shapes)

abbrev pub shape_at : Shapes → ℕ → Shape
shape_at no_shape number = one_cell
shape_at (with_shape first others) zero = first
shape_at (with_shape first others) (suc number) = shape_at others number

abbrev pub cells_before : Shapes → ℕ → ℕ
cells_before no_shape number = 0
cells_before (with_shape first others) zero = 0
cells_before (with_shape first others) (suc number) = size first + cells_before others number

-- a path of numbers leads from a shape to a part of this shape, which begins at this cell
abbrev pub Leads : Shape → List ℕ → Shape → Type 0
Leads shape [] part = shape ≡ part
Leads shape (number ∷ path) part =
    (number < count (shapes_in shape)) × Leads (shape_at (shapes_in shape) number) path part

abbrev pub offset : Shape → List ℕ → ℕ
offset shape [] = 0
offset shape (number ∷ path) =
    cells_before (shapes_in shape) number + offset (shape_at (shapes_in shape) number) path

-- the shape of a type by the shapes of earlier rows, of what a row is, of all rows, and of a type
abbrev pub shape_by : List Shape → PasType → Shape
shape_by shapes (types.row number) = slice_index_or shapes number one_cell
shape_by shapes type = one_cell

abbrev pub shape_in : List Shape → Structure → Shape
shape_in shapes (types.array indexes element) = several (so_many (count_of indexes) (shape_by shapes element))
shape_in shapes (types.fields found) = several (all_shapes (map (λ field. shape_by shapes field.type) found))
shape_in shapes structure = one_cell

abbrev pub shapes_behind : List Shape → Table → List Shape
shapes_behind shapes [] = shapes
shapes_behind shapes (found ∷ table) = shapes_behind (shapes ++ shape_in shapes found.structure ∷ []) table

abbrev pub shape_of : Table → PasType → Shape
shape_of table type = shape_by (shapes_behind [] table) type

-- a type refers to one of so many rows, or to none
abbrev pub IsAmong : ℕ → PasType → Type 0
IsAmong rows (types.row number) = number < rows
IsAmong rows type = ⊤

-- what a row may be behind these rows: it refers to them alone, and the components of a file are components
abbrev pub IsLawfulBehind : Table → Structure → Type 0
IsLawfulBehind table (types.subrange range) = ⊤
IsLawfulBehind table (types.array indexes element) = IsAmong (length table) element
IsLawfulBehind table (types.fields found) = All (λ field. IsAmong (length table) field.type) found
IsLawfulBehind table (types.file component) = IsTrue (is_component table component)

-- rows that lawful type expressions made behind these
abbrev pub AreMadeBehind : Table → Table → Type 0
AreMadeBehind earlier [] = ⊤
AreMadeBehind earlier (found ∷ table) =
    IsLawfulBehind earlier found.structure × (found.cells ≡ cells_in earlier found.structure)
    × AreMadeBehind (earlier ++ found ∷ []) table

abbrev pub IsLawfulTable : Table → Type 0
IsLawfulTable table = AreMadeBehind [] table
