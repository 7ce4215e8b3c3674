-- Constants and type expressions (ISO 7185, 6.3 and 6.4, in this project's profile): what they mean, and the faults of
-- their tokens.
use Rattle.std.specs.Prelude.{ℕ, nat_le, ℤ, pos, neg_ℤ, int_le, Bool, true, false, not}
use Rattle.std.specs.Prelude.{if◌then◌else◌, List, [], ◌∷◌, ◌++◌, map, codes, Option, Some, None, option_map}
use Rattle.std.specs.Prelude.{is_some, unwrap_or, option_to_list}
use Rattle.std.specs.Str.{bytes_eq}
use Rattle.wb_base.specs.declared.faults.TheConstants.{UNKNOWN_NAME, WRONG_TYPE, CONSTANT_OUT_OF_RANGE, TOO_LARGE}
use Rattle.wb_base.specs.declared.faults.TheConstants.{FILE_RULE, REAL_NUMBERS, STRINGS_OUTSIDE_WRITE}
use Rattle.pas_tokens.specs.Cutting.{Wrong, wrong}
use Rattle.pas_syntax.specs.declared.operators.Sign.{Sign}
use Rattle.pas_syntax.specs.declared.operators.Sign.TheVariants as sign
use Rattle.pas_syntax.specs.Tree as tree
use Rattle.pas_syntax.specs.Tree.{Ident, Lined, Behind, Separated, Idents, Constant, Simple, TypeForm, Fields}
use Rattle.pas_syntax.specs.Parse.{left_out}
use Rattle.pas_rules.specs.declared.limits.TheConstants.{CELL_LIMIT}
use Rattle.pas_rules.specs.Marks.{Marks, no_token, quiet, joined, unless, Judged, judged, means}
use Rattle.pas_rules.specs.Marks.{refuses}
use Rattle.pas_rules.specs.Marks.{known, both, checked, noted}
use Rattle.pas_typed.specs.Types.{Base, integer, char, same_base, Range, PasType, whole, Field}
use Rattle.pas_typed.specs.Types.{subrange, array, fields, file, Table, range_of, component_of, cells_of}
use Rattle.pas_rules.specs.Scopes.{Entity, constant, type, unclear, Scopes, entity_of, spellings_of}
use Rattle.pas_rules.specs.Scopes.{new_names}
use Rattle.pas_typed.specs.Types.{is_component, Made, made}
pub use Rattle.pas_typed.specs.Texts.{single_quote, text_behind, undoubled}

-- the marks of a token that may stand there
abbrev pub maybe_quiet : {A : Type 0} → Option A → Marks
maybe_quiet None = no_token
maybe_quiet (Some token) = quiet

-- constants

-- the value of a constant
pub record ConstantValue : Type 0 where
  pub base : Base
  pub value : ℤ

abbrev pub known_value : Base → ℤ → ConstantValue
known_value base value = record { base = base; value = value }

-- a string of one byte is a char; a longer one may stand only where something is written
abbrev pub char_in : List ℕ → Judged ConstantValue
char_in (byte ∷ []) = means (known_value char (pos byte))
char_in bytes = refuses (left_out STRINGS_OUTSIDE_WRITE)

-- what a name is as a constant
abbrev pub as_constant : Option Entity → Judged ConstantValue
as_constant None = refuses (wrong UNKNOWN_NAME)
as_constant (Some (constant base value)) = means (known_value base value)
as_constant (Some unclear) = judged quiet None
as_constant (Some entity) = refuses (wrong WRONG_TYPE)

-- a constant behind a sign must be an integer
abbrev pub integer_only : ConstantValue → List Wrong
integer_only found = unless (same_base found.base integer) (wrong WRONG_TYPE)

abbrev pub with_sign : Sign → ConstantValue → ConstantValue
with_sign sign.Plus found = found
with_sign sign.Minus found = known_value found.base (neg_ℤ found.value)

abbrev pub behind_sign : Option (Lined Sign) → Judged ConstantValue → Judged ConstantValue
behind_sign None found = found
behind_sign (Some lead) found =
    let number = checked integer_only found in
    judged (joined (quiet ∷ number.marks ∷ [])) (known (with_sign lead.item) number.value)

-- const = ["+"|"-"] (number | id) | string
abbrev pub constant_of : Scopes → Constant → Judged ConstantValue
constant_of scopes (tree.number lead numeral) = behind_sign lead (means (known_value integer (pos numeral.value)))
constant_of scopes (tree.named lead ident) = behind_sign lead (as_constant (entity_of scopes ident.name))
constant_of scopes (tree.text quoted) = char_in (undoubled quoted.text)

-- types

-- a type expression that makes a new row
abbrev pub table_behind : {A : Type 0} → (A → Table) → Table → Judged A → Table
table_behind table_of table part = unwrap_or (option_map table_of part.value) table

-- what a name is as a type; `real` is left out where it is not declared
abbrev pub as_type : List ℕ → Option Entity → Judged PasType
as_type name None =
    if bytes_eq name (codes "real") then refuses (left_out REAL_NUMBERS) else refuses (wrong UNKNOWN_NAME)
as_type name (Some (type found)) = means found
as_type name (Some unclear) = judged quiet None
as_type name (Some entity) = refuses (wrong WRONG_TYPE)

abbrev pub type_named : Scopes → Ident → Judged PasType
type_named scopes ident = as_type ident.name (entity_of scopes ident.name)

-- the bounds of a subrange: the second one is of the base of the first, and not below it
abbrev pub fits_below : Option ConstantValue → ConstantValue → List Wrong
fits_below None high = []
fits_below (Some low) high =
    if same_base low.base high.base
    then unless (int_le low.value high.value) (wrong CONSTANT_OUT_OF_RANGE)
    else wrong WRONG_TYPE ∷ []

abbrev pub range_between : ConstantValue → ConstantValue → Range
range_between low high = record { base = low.base; low = low.value; high = high.value }

abbrev pub subrange_of : Table → Judged ConstantValue → Judged ConstantValue → Judged Made
subrange_of table low high =
    let upper = checked (fits_below low.value) high in
    judged (joined (low.marks ∷ quiet ∷ upper.marks ∷ []))
    (known (λ range. made table (subrange range)) (both range_between low.value upper.value))

-- simple = id | const ".." const
abbrev pub simple_of : Scopes → Table → Simple → Judged Made
simple_of scopes table (tree.simple_named ident) =
    let named = type_named scopes ident in
    judged named.marks (known (λ found. record { type = found; table = table }) named.value)
simple_of scopes table (tree.range low line high) =
    subrange_of table (constant_of scopes low) (constant_of scopes high)
simple_of scopes table (tree.no_simple form) = judged quiet None

-- the type of an array's indexes is ordinal, and not all integers
abbrev pub is_whole_integer : PasType → Bool
is_whole_integer (whole integer) = true
is_whole_integer found = false

abbrev pub index_only : Made → List Wrong
index_only index =
    if is_some (range_of index.table index.type)
    then unless (not (is_whole_integer index.type)) (wrong TOO_LARGE)
    else wrong WRONG_TYPE ∷ []

-- the ranges of the indexes, one after another, and the table behind them
pub record Indexes : Type 0 where
  pub ranges : List Range
  pub table : Table

abbrev pub no_indexes : Table → Judged Indexes
no_indexes table = judged no_token (Some (record { ranges = []; table = table }))

abbrev pub one_more : Indexes → Made → Indexes
one_more before index = record {
  ranges = before.ranges ++ option_to_list (range_of index.table index.type);
  table = index.table;
}

abbrev pub with_index : Marks → Judged Indexes → Judged Made → Judged Indexes
with_index separator before index =
    let part = checked index_only index in
    judged (joined (before.marks ∷ separator ∷ part.marks ∷ [])) (both one_more before.value part.value)

abbrev pub table_of_indexes : Table → Judged Indexes → Table
table_of_indexes table indexes = table_behind (λ found. found.table) table indexes

abbrev pub more_indexes : Scopes → Table → Judged Indexes → List (Behind Simple) → Judged Indexes
more_indexes scopes table before [] = before
more_indexes scopes table before (behind ∷ more) =
    more_indexes scopes table
    (with_index quiet before (simple_of scopes (table_of_indexes table before) behind.item)) more

abbrev pub indexes_of : Scopes → Table → Separated Simple → Judged Indexes
indexes_of scopes table indexes =
    more_indexes scopes table (with_index no_token (no_indexes table) (simple_of scopes table indexes.first))
    indexes.more

-- arrays of arrays, one for each range, of which the inner ones are made first
abbrev pub arrays : Table → List Range → PasType → Made
arrays table [] element = record { type = element; table = table }
arrays table (range ∷ ranges) element =
    let inner = arrays table ranges element in made inner.table (array range inner.type)

-- a file is no part of anything
abbrev pub no_file : Made → List Wrong
no_file part = unless (not (is_some (component_of part.table part.type))) (wrong FILE_RULE)

-- a type has no more cells than the limit
abbrev pub within_limit : Made → List Wrong
within_limit found = unless (nat_le (cells_of found.table found.type) CELL_LIMIT) (wrong TOO_LARGE)

abbrev pub array_of : Option ℕ → Judged Indexes → Judged Made → Judged Made
array_of packed indexes element =
    let part = noted no_file element in
    noted within_limit (judged
    (joined (maybe_quiet packed ∷ quiet ∷ quiet ∷ indexes.marks ∷ quiet ∷ quiet ∷ part.marks ∷ []))
    (both (λ found last. arrays last.table found.ranges last.type) indexes.value part.value))

abbrev pub component_only : Made → List Wrong
component_only part = unless (is_component part.table part.type) (wrong FILE_RULE)

abbrev pub file_of : Option ℕ → Judged Made → Judged Made
file_of packed component =
    let part = noted component_only component in
    judged (joined (maybe_quiet packed ∷ quiet ∷ quiet ∷ part.marks ∷ []))
    (known (λ found. made found.table (file found.type)) part.value)

-- the fields so far, and the table behind them
pub record Group : Type 0 where
  pub fields : List Field
  pub table : Table

abbrev pub no_fields : Table → Judged Group
no_fields table = judged no_token (Some (record { fields = []; table = table }))

abbrev pub table_of_fields : Table → Judged Group → Table
table_of_fields table before = table_behind (λ found. found.table) table before

abbrev pub with_fields : List (List ℕ) → Group → Made → Group
with_fields names before found = record {
  fields = before.fields ++ map (λ name. record { name = name; type = found.type }) names;
  table = found.table;
}

-- ids ":" type, behind other fields
abbrev pub group_of : Marks → Judged Group → List (List ℕ) → Idents → Judged Made → Judged Group
group_of separator before taken idents found =
    let part = noted no_file found in
    judged (joined (before.marks ∷ separator ∷ new_names taken idents ∷ quiet ∷ part.marks ∷ []))
    (both (with_fields (spellings_of idents)) before.value part.value)

abbrev pub record_of : Option ℕ → Judged Group → Option ℕ → Judged Made
record_of packed group semicolon =
    noted within_limit (judged
    (joined (maybe_quiet packed ∷ quiet ∷ group.marks ∷ maybe_quiet semicolon ∷ quiet ∷ []))
    (known (λ found. made found.table (fields found.fields)) group.value))

-- the names of fields
abbrev pub field_names : Fields → List (List ℕ)
field_names (tree.first_fields idents colon form) = spellings_of idents
field_names (tree.more_fields before line idents colon form) = field_names before ++ spellings_of idents

-- type = simple
--      | ["packed"] "array" "[" simple {"," simple} "]" "of" type
--      | ["packed"] "record" ids ":" type {";" ids ":" type} [";"] "end"
--      | ["packed"] "file" "of" type
abbrev mutual
  pub form_of : Scopes → Table → TypeForm → Judged Made
  form_of scopes table (tree.simple form) = simple_of scopes table form
  form_of scopes table (tree.array packed line opened indexes closed of_line element) =
      let found = indexes_of scopes table indexes in
      array_of packed found (form_of scopes (table_of_indexes table found) element)
  form_of scopes table (tree.record_type packed line found semicolon end) =
      record_of packed (groups_of scopes table found) semicolon
  form_of scopes table (tree.file packed line of_line component) = file_of packed (form_of scopes table component)

  pub groups_of : Scopes → Table → Fields → Judged Group
  groups_of scopes table (tree.first_fields idents colon form) =
      group_of no_token (no_fields table) [] idents (form_of scopes table form)
  groups_of scopes table (tree.more_fields before line idents colon form) =
      let found = groups_of scopes table before in
      group_of quiet found (field_names before) idents (form_of scopes (table_of_fields table found) form)
