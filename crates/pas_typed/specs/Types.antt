-- The types of a Pascal program (ISO 7185, 6.4, in this project's profile). Each type expression that is no name is a
-- row of a table, in the order in which they end, and refers to earlier rows by number.
use Rattle.std.specs.Prelude.{ℕ, ◌+◌, ◌*◌, ◌==◌, ◌&&◌, nat_abs, ℤ, pos, neg_ℤ, ◌-ℤ◌, int_le, Bool, true, false}
use Rattle.std.specs.Prelude.{List, [], ◌∷◌, ◌++◌, length, slice_get, sum_by, Option, Some, None, option_map}
use Rattle.std.specs.Prelude.{option_and_then, unwrap_or}
use Rattle.pas_tokens.specs.declared.limits.TheConstants.{GREATEST_NUMBER}

-- the types that the ordinal values are of
pub data Base : Type 0 where
  integer : Base
  char : Base
  boolean : Base

abbrev pub same_base : Base → Base → Bool
same_base integer integer = true
same_base char char = true
same_base boolean boolean = true
same_base base other = false

-- the values of a base from one to another
pub record Range : Type 0 where
  pub base : Base
  pub low : ℤ
  pub high : ℤ

-- a type: the ordinal type of a base, the type `text`, or a row of the table
pub data PasType : Type 0 where
  whole : Base → PasType
  text : PasType
  row : ℕ → PasType

abbrev pub same_type : PasType → PasType → Bool
same_type (whole base) (whole other) = same_base base other
same_type text text = true
same_type (row number) (row other) = number == other
same_type type other = false

-- a field of a record type
pub record Field : Type 0 where
  pub name : List ℕ
  pub type : PasType

-- what a type expression makes: a subrange, an array with this range of indexes, a record, or a file of components
pub data Structure : Type 0 where
  subrange : Range → Structure
  array : Range → PasType → Structure
  fields : List Field → Structure
  file : PasType → Structure

-- a row of the table: what it is, and how many cells a variable of it has
pub record TableRow : Type 0 where
  pub structure : Structure
  pub cells : ℕ

abbrev pub Table : Type 0
Table = List TableRow

-- all values of a base
abbrev pub all_of : Base → Range
all_of integer = record { base = integer; low = neg_ℤ (pos GREATEST_NUMBER); high = pos GREATEST_NUMBER }
all_of char = record { base = char; low = pos 0; high = pos 255 }
all_of boolean = record { base = boolean; low = pos 0; high = pos 1 }

-- the row of a type, and what it makes, if it has one
abbrev pub row_of : Table → PasType → Option TableRow
row_of table (row number) = slice_get table number
row_of table type = None

abbrev pub structure_of : Table → PasType → Option Structure
structure_of table type = option_map (λ found. found.structure) (row_of table type)

-- the values of an ordinal type
abbrev pub range_in : Structure → Option Range
range_in (subrange range) = Some range
range_in structure = None

abbrev pub range_of : Table → PasType → Option Range
range_of table (whole base) = Some (all_of base)
range_of table type = option_and_then range_in (structure_of table type)

-- what the components of a file type are
abbrev pub component_in : Structure → Option PasType
component_in (file component) = Some component
component_in structure = None

abbrev pub component_of : Table → PasType → Option PasType
component_of table text = Some (whole char)
component_of table type = option_and_then component_in (structure_of table type)

-- the range of the indexes of an array type, and the type of its elements
pub record ArrayParts : Type 0 where
  pub indexes : Range
  pub element : PasType

abbrev pub elements_in : Structure → Option ArrayParts
elements_in (array indexes element) = Some (record { indexes = indexes; element = element })
elements_in structure = None

abbrev pub elements_of : Table → PasType → Option ArrayParts
elements_of table type = option_and_then elements_in (structure_of table type)

-- the fields of a record type
abbrev pub fields_in : Structure → Option (List Field)
fields_in (fields found) = Some found
fields_in structure = None

abbrev pub fields_of : Table → PasType → Option (List Field)
fields_of table type = option_and_then fields_in (structure_of table type)

-- how many cells a variable of a type has: an ordinal or a file has one
abbrev pub cells_of : Table → PasType → ℕ
cells_of table type = unwrap_or (option_map (λ found. found.cells) (row_of table type)) 1

-- how many values a range has
abbrev pub count_of : Range → ℕ
count_of range = nat_abs (range.high -ℤ range.low) + 1

-- whether a value is in a range
abbrev pub is_within : Range → ℤ → Bool
is_within range value = int_le range.low value && int_le value range.high

-- how many cells what a type expression makes has
abbrev pub cells_in : Table → Structure → ℕ
cells_in table (subrange range) = 1
cells_in table (array indexes element) = count_of indexes * cells_of table element
cells_in table (fields found) = sum_by (λ field. cells_of table field.type) found
cells_in table (file component) = 1

-- the base of an ordinal type
abbrev pub base_of : Table → PasType → Option Base
base_of table type = option_map (λ range. range.base) (range_of table type)

-- whether a type is ordinal, and of this base
abbrev pub is_based_on : Base → Option Base → Bool
is_based_on base (Some found) = same_base base found
is_based_on base None = false

abbrev pub is_of : Base → Table → PasType → Bool
is_of base table type = is_based_on base (base_of table type)

-- whether values of two types are compatible: ordinals of one base, or of the same array or record type
abbrev pub are_compatible_by : Option Base → Option Base → Bool → Bool
are_compatible_by (Some base) other same = is_based_on base other
are_compatible_by None (Some base) same = false
are_compatible_by None None same = same

abbrev pub are_compatible : Table → PasType → PasType → Bool
are_compatible table type other =
    are_compatible_by (base_of table type) (base_of table other)
    (same_type type other)

-- a file has components of type char, or of a subrange of the integers from 0 to 255
abbrev pub is_byte_range : Option Range → Bool
is_byte_range None = false
is_byte_range (Some range) =
    same_base range.base integer && int_le (pos 0) range.low && int_le range.high (pos 255)

abbrev pub is_component : Table → PasType → Bool
is_component table (whole char) = true
is_component table found = is_byte_range (range_of table found)

-- whether a type is a lawful file
abbrev pub has_component : Table → Option PasType → Bool
has_component table None = false
has_component table (Some component) = is_component table component

abbrev pub is_lawful_file : Table → PasType → Bool
is_lawful_file table found = has_component table (component_of table found)

-- what a type expression means: a type, and the table with what it made. One that breaks a rule on files or passes a
-- limit is still known, so that each fault of its last token is seen
pub record Made : Type 0 where
  pub type : PasType
  pub table : Table

-- a type expression that makes a new row
abbrev pub made : Table → Structure → Made
made table structure = record {
  type = row (length table);
  table = table ++ record { structure = structure; cells = cells_in table structure } ∷ [];
}
