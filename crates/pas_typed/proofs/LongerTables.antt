-- Earlier rows of a table stay what they are when it grows.
use Rattle.std.proofs.Common.{◌≡◌, refl, ap, ◌∙◌, ℕ, zero, suc, ◌+◌, ◌<◌, arith, List, [], ◌∷◌, ◌++◌}
use Rattle.std.proofs.Common.{◌≤◌, length, length-append, map, Option, Some, option_map}
use Rattle.std.proofs.lemmas.List.{length-map}
use Rattle.std.specs.Prelude.{option_and_then, unwrap_or}
use Rattle.std.specs.List.{slice_get}
use Rattle.pas_typed.specs.declared.types.Structure.{Structure as CodeStructure}
use Rattle.pas_typed.specs.Types.{Base, PasType, whole, text, row, Structure, TableRow, Table, row_of, structure_of}
use Rattle.pas_typed.specs.Types.{range_in, range_of, base_of, is_based_on, is_of, component_in, component_of}
use Rattle.pas_typed.specs.Types.{elements_in, elements_of, fields_in, fields_of, cells_of, same_type}
use Rattle.pas_typed.specs.Types.{are_compatible_by, are_compatible, cells_in, made}
use Rattle.pas_typed.specs.Shapes.{IsAmong}
use Rattle.pas_typed.specs.TypeViews.{structure_view, table_view}
use Rattle.pas_typed.proofs.TableLemmas.{length-table_of, table_view-push}

pub IsAmong-more : (count most : ℕ) (found : PasType) → count ≤ most → IsAmong count found → IsAmong most found
IsAmong-more count most (whole base) less there = tt
IsAmong-more count most text less there = tt
IsAmong-more count most (row number) less there = omega (arith, there)

slice_get-append : (table more : Table) (number : ℕ) → number < length table
    → slice_get (table ++ more) number ≡ slice_get table number
slice_get-append [] more number less = absurd (omega arith)
slice_get-append (first ∷ table) more zero less = refl
slice_get-append (first ∷ table) more (suc number) less =
    slice_get-append table more number (omega (arith, less))

module _ (table more : Table) where
  pub row_of-append : (found : PasType) → IsAmong (length table) found
      → row_of (table ++ more) found ≡ row_of table found
  row_of-append (whole base) there = refl
  row_of-append text there = refl
  row_of-append (row number) there = slice_get-append table more number there

  pub structure_of-append : (found : PasType) → IsAmong (length table) found
      → structure_of (table ++ more) found ≡ structure_of table found
  structure_of-append found there = ap (option_map (λ (at : TableRow). at.structure)) (row_of-append found there)

  pub range_of-append : (found : PasType) → IsAmong (length table) found
      → range_of (table ++ more) found ≡ range_of table found
  range_of-append (whole base) there = refl
  range_of-append text there = refl
  range_of-append (row number) there = ap (option_and_then range_in) (structure_of-append (row number) there)

  pub base_of-append : (found : PasType) → IsAmong (length table) found
      → base_of (table ++ more) found ≡ base_of table found
  base_of-append found there = ap (option_map (λ range. range.base)) (range_of-append found there)

  pub is_of-append : (base : Base) (found : PasType) → IsAmong (length table) found
      → is_of base (table ++ more) found ≡ is_of base table found
  is_of-append base found there = ap (is_based_on base) (base_of-append found there)

  pub component_of-append : (found : PasType) → IsAmong (length table) found
      → component_of (table ++ more) found ≡ component_of table found
  component_of-append (whole base) there = ap (option_and_then component_in) (structure_of-append (whole base) there)
  component_of-append text there = refl
  component_of-append (row number) there =
      ap (option_and_then component_in) (structure_of-append (row number) there)

  pub elements_of-append : (found : PasType) → IsAmong (length table) found
      → elements_of (table ++ more) found ≡ elements_of table found
  elements_of-append found there = ap (option_and_then elements_in) (structure_of-append found there)

  pub fields_of-append : (found : PasType) → IsAmong (length table) found
      → fields_of (table ++ more) found ≡ fields_of table found
  fields_of-append found there = ap (option_and_then fields_in) (structure_of-append found there)

  pub cells_of-append : (found : PasType) → IsAmong (length table) found
      → cells_of (table ++ more) found ≡ cells_of table found
  cells_of-append found there =
      ap (λ (o : Option TableRow). unwrap_or (option_map (λ at. at.cells) o) 1) (row_of-append found there)

  pub are_compatible-append : (found other : PasType) → IsAmong (length table) found → IsAmong (length table) other
      → are_compatible (table ++ more) found other ≡ are_compatible table found other
  are_compatible-append found other there also =
      ap (λ base. are_compatible_by base (base_of (table ++ more) other) (same_type found other))
      (base_of-append found there)
      ∙ ap (λ base. are_compatible_by (base_of table found) base (same_type found other)) (base_of-append other also)

-- a table with one structure more is the table with one row more, and its new row is the last
pub table_view-longer : (spellings : List ℕ) (structures all : List CodeStructure) (found : CodeStructure)
    → all ≡ structures ++ found ∷ []
    → table_view spellings all ≡ table_view spellings structures
    ++ record {
      structure = structure_view spellings found;
      cells = cells_in (table_view spellings structures) (structure_view spellings found);
    } ∷ []
table_view-longer spellings structures all found is =
    ap (table_view spellings) is ∙ table_view-push spellings structures found

slice_get-last : (table : Table) (last : TableRow) → slice_get (table ++ last ∷ []) (length table) ≡ Some last
slice_get-last [] last = refl
slice_get-last (first ∷ table) last = slice_get-last table last

pub structure_of-made : (table : Table) (structure : Structure)
    → structure_of (made table structure).table (made table structure).type ≡ Some structure
structure_of-made table structure =
    ap (option_map (λ (at : TableRow). at.structure))
    (slice_get-last table (record { structure = structure; cells = cells_in table structure }))

-- the new type is among the rows of the longer table
pub length-made : (table : Table) (structure : Structure)
    → length (made table structure).table ≡ length table + 1
length-made table structure =
    length-append table (record { structure = structure; cells = cells_in table structure } ∷ [])

pub IsAmong-made : (table : Table) (structure : Structure)
    → IsAmong (length (made table structure).table) (made table structure).type
IsAmong-made table structure = omega (arith, length-made table structure)

pub length-table_view : (spellings : List ℕ) (structures : List CodeStructure)
    → length (table_view spellings structures) ≡ length structures
length-table_view spellings structures =
    length-table_of (map (structure_view spellings) structures) ∙ length-map structures (structure_view spellings)
