-- Data in flat cells, as a machine keeps them: each cell is a number or undefined. This project's own.
use Rattle.std.specs.Prelude.{ℤ, List, [], ◌∷◌, ◌++◌, Option, Some, None, ⊤}
use Rattle.pas_typed.specs.Shapes.{Shape, one_cell, several, Shapes, no_shape, with_shape}
use Rattle.pas_meaning.specs.Store.{Datum, undefined, holds, parts, Data, no_parts, with_part}

-- a datum is of a shape
abbrev mutual
  pub IsShaped : Shape → Datum → Type 0
  IsShaped one_cell undefined = ⊤
  IsShaped one_cell (holds value) = ⊤
  IsShaped one_cell (parts found) = ⊥
  IsShaped (several shapes) undefined = ⊥
  IsShaped (several shapes) (holds value) = ⊥
  IsShaped (several shapes) (parts found) = AreShaped shapes found

  pub AreShaped : Shapes → Data → Type 0
  AreShaped no_shape no_parts = ⊤
  AreShaped no_shape (with_part first others) = ⊥
  AreShaped (with_shape shape shapes) no_parts = ⊥
  AreShaped (with_shape shape shapes) (with_part first others) = IsShaped shape first × AreShaped shapes others

-- its cells
abbrev mutual
  pub flat : Datum → List (Option ℤ)
  flat undefined = None ∷ []
  flat (holds value) = Some value ∷ []
  flat (parts found) = flat_parts found

  pub flat_parts : Data → List (Option ℤ)
  flat_parts no_parts = []
  flat_parts (with_part first others) = flat first ++ flat_parts others
