-- The types of the code as those of the definition. The spellings are those of all names and strings of the text, one
-- after the other.
use Rattle.std.specs.Prelude.{◌≡◌, ℕ, ◌^◌, ◌-◌, min, List, [], map, fold}
use Rattle.pas_syntax.specs.Views.{spelled_in}
use Rattle.pas_typed.specs.declared.types.Base.{Base as CodeBase}
use Rattle.pas_typed.specs.declared.types.Base.TheVariants as base
use Rattle.pas_typed.specs.declared.types.Range.{Range as CodeRange}
use Rattle.pas_typed.specs.declared.types.PasType.{PasType as CodePasType}
use Rattle.pas_typed.specs.declared.types.PasType.TheVariants as pas_type
use Rattle.pas_typed.specs.declared.types.Field.{Field as CodeField}
use Rattle.pas_typed.specs.declared.types.ArrayParts.{ArrayParts as CodeArrayParts}
use Rattle.pas_typed.specs.declared.types.Structure.{Structure as CodeStructure}
use Rattle.pas_typed.specs.declared.types.Structure.TheVariants as structure
use Rattle.pas_typed.specs.declared.types.TypeRow.{TypeRow as CodeTypeRow}
use Rattle.pas_typed.specs.Types.{Base, integer, char, boolean, Range, PasType, whole, text, row, Field, ArrayParts}
use Rattle.pas_typed.specs.Types.{Structure, subrange, array, fields, file, TableRow, Table, made}

abbrev pub base_view : CodeBase → Base
base_view base.Integer = integer
base_view base.Char = char
base_view base.Boolean = boolean

abbrev pub range_view : CodeRange → Range
range_view range = record { base = base_view range.base; low = range.low; high = range.high }

abbrev pub type_view : CodePasType → PasType
type_view (pas_type.Whole found) = whole (base_view found)
type_view pas_type.Text = text
type_view (pas_type.Row number) = row number

abbrev pub elements_view : CodeArrayParts → ArrayParts
elements_view parts = record { indexes = range_view parts.indexes; element = type_view parts.element }

module _ (spellings : List ℕ) where
  abbrev pub field_view : CodeField → Field
  field_view field = record { name = spelled_in spellings field.name; type = type_view field.pas_type }

  abbrev pub structure_view : CodeStructure → Structure
  structure_view (structure.Subrange range) = subrange (range_view range)
  structure_view (structure.Array parts) = array (range_view parts.indexes) (type_view parts.element)
  structure_view (structure.Fields found) = fields (map field_view found)
  structure_view (structure.File component) = file (type_view component)

  abbrev pub row_view : CodeTypeRow → TableRow
  row_view found = record { structure = structure_view found.structure; cells = found.cells }

-- the table that these make, one after another
abbrev pub table_of : List Structure → Table
table_of structures = fold (λ table found. (made table found).table) [] structures

-- to contracts a table is what its rows are
abbrev pub table_view : List ℕ → List CodeStructure → Table
table_view spellings structures = table_of (map (structure_view spellings) structures)

-- the code counts no more cells than a number of 64 bits tells
abbrev pub counted : ℕ → ℕ
counted cells = min cells (2 ^ 64 - 1)

abbrev pub counted_row : TableRow → TableRow
counted_row found = record { structure = found.structure; cells = counted found.cells }

-- whether the rows have as many cells as the table that their structures make
abbrev pub AreCounted : List CodeTypeRow → Type 0
AreCounted rows = (spellings : List ℕ)
    → map counted_row (table_view spellings (map (λ found. found.structure) rows)) ≡ map (row_view spellings) rows
