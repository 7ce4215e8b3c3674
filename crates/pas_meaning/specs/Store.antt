-- The variables of a run (ISO 7185, 6.5): the activations, the program's first, and references into them.
use Rattle.std.specs.Prelude.{ℕ, zero, suc, ◌-◌, ℤ, if◌then◌else◌, List}
use Rattle.std.specs.Prelude.{[]}
use Rattle.std.specs.Prelude.{◌∷◌, ◌++◌, length, map, take, slice_index_or, slice_set, Option, Some, None}
use Rattle.pas_typed.specs.Types as types
use Rattle.pas_typed.specs.Types.{Range, PasType, Structure, Table, count_of, range_of, is_within}
use Rattle.pas_typed.specs.Typed as typed
use Rattle.pas_typed.specs.Typed.{Slot}
use Rattle.pas_meaning.specs.declared.errors.TheConstants.{UNDEFINED_VALUE, OUT_OF_RANGE}
use Rattle.pas_meaning.specs.Answers.{Answer, fine, wrong, then_answer, or_wrong}

-- what a variable holds: nothing that is defined, a number, or the elements of an array or the fields of a record
mutual
  pub data Datum : Type 0 where
    undefined : Datum
    holds : ℤ → Datum
    parts : Data → Datum

  pub data Data : Type 0 where
    no_parts : Data
    with_part : Datum → Data → Data

-- a part by its number. What is not there is undefined, and a part that is set makes room
abbrev pub first_part : Data → Datum
first_part no_parts = undefined
first_part (with_part first more) = first

abbrev pub parts_behind : Data → Data
parts_behind no_parts = no_parts
parts_behind (with_part first more) = more

abbrev pub part_in : Data → ℕ → Datum
part_in found zero = first_part found
part_in found (suc number) = part_in (parts_behind found) number

abbrev pub set_in : Data → ℕ → Datum → Data
set_in found zero datum = with_part datum (parts_behind found)
set_in found (suc number) datum = with_part (first_part found) (set_in (parts_behind found) number datum)

abbrev pub parts_of : Datum → Data
parts_of (parts found) = found
parts_of datum = no_parts

abbrev pub part_at : List ℕ → Datum → Datum
part_at [] datum = datum
part_at (number ∷ path) datum = part_at path (part_in (parts_of datum) number)

abbrev pub with_part_at : List ℕ → Datum → Datum → Datum
with_part_at [] new datum = new
with_part_at (index ∷ path) new datum =
    parts (set_in (parts_of datum) index (with_part_at path new (part_in (parts_of datum) index)))

-- a variable of a type before anything is assigned to it
abbrev pub so_many : ℕ → Datum → Data
so_many zero datum = no_parts
so_many (suc count) datum = with_part datum (so_many count datum)

abbrev pub all_parts : List Datum → Data
all_parts [] = no_parts
all_parts (datum ∷ data_behind) = with_part datum (all_parts data_behind)

abbrev pub blank_by : List Datum → PasType → Datum
blank_by blanks (types.row number) = slice_index_or blanks number undefined
blank_by blanks type = undefined

abbrev pub blank_in : List Datum → Structure → Datum
blank_in blanks (types.array indexes element) = parts (so_many (count_of indexes) (blank_by blanks element))
blank_in blanks (types.fields found) = parts (all_parts (map (λ field. blank_by blanks field.type) found))
blank_in blanks structure = undefined

abbrev pub blanks_behind : List Datum → Table → List Datum
blanks_behind blanks [] = blanks
blanks_behind blanks (found ∷ table) = blanks_behind (blanks ++ blank_in blanks found.structure ∷ []) table

abbrev pub blank_of : Table → PasType → Datum
blank_of table type = blank_by (blanks_behind [] table) type

-- a variable by its activation and its number there, and a part of it by a path of numbers
pub record Reference : Type 0 where
  pub activation : ℕ
  pub variable : ℕ
  pub path : List ℕ

-- what stands for a variable: what it holds itself, or, for a variable parameter, a reference
pub data Cell : Type 0 where
  own : Datum → Cell
  refers : Reference → Cell

abbrev pub Store : Type 0
Store = List (List Cell)

abbrev pub cell_at : ℕ → ℕ → Store → Cell
cell_at activation variable store = slice_index_or (slice_index_or store activation []) variable (own undefined)

abbrev pub with_cell : ℕ → ℕ → Cell → Store → Store
with_cell activation variable cell store =
    slice_set store activation (slice_set (slice_index_or store activation []) variable cell)

-- the activation that runs
abbrev pub top_of : Store → ℕ
top_of store = length store - 1

-- where a variable is
abbrev pub followed : ℕ → ℕ → Cell → Reference
followed activation variable (refers reference) = reference
followed activation variable (own datum) = record { activation = activation; variable = variable; path = [] }

abbrev pub home_by : typed.Home → ℕ → Store → Reference
home_by typed.global variable store = record { activation = 0; variable = variable; path = [] }
home_by typed.local variable store = followed (top_of store) variable (cell_at (top_of store) variable store)

abbrev pub home_of : Slot → Store → Reference
home_of slot store = home_by slot.home slot.number store

abbrev pub along : Reference → List ℕ → Reference
along reference path = record reference { path = reference.path ++ path }

-- what is held there, and the variables after something is stored there
abbrev pub held_by : Cell → Datum
held_by (own datum) = datum
held_by (refers reference) = undefined

abbrev pub fetched : Reference → Store → Datum
fetched reference store = part_at reference.path (held_by (cell_at reference.activation reference.variable store))

abbrev pub stored : Reference → Datum → Store → Store
stored reference datum store =
    with_cell reference.activation reference.variable
    (own (with_part_at reference.path datum (held_by (cell_at reference.activation reference.variable store)))) store

-- the number that a datum is, that is held there, and one that must be in a range
abbrev pub number_in : Datum → Option ℤ
number_in (holds value) = Some value
number_in datum = None

abbrev pub number_of : Datum → Answer ℤ
number_of datum = or_wrong UNDEFINED_VALUE (number_in datum)

abbrev pub number_at : Reference → Store → Answer ℤ
number_at reference store = number_of (fetched reference store)

abbrev pub in_range : ℕ → Range → ℤ → Answer ℤ
in_range kind range value = if is_within range value then fine value else wrong kind

-- a datum for a type: one of an ordinal type is defined and in its range, one of any other type is passed as it is
abbrev pub number_for : Range → Option ℤ → Answer Datum
number_for range None = wrong UNDEFINED_VALUE
number_for range (Some value) = then_answer (in_range OUT_OF_RANGE range value) (λ checked. fine (holds checked))

abbrev pub fits_by : Option Range → Datum → Answer Datum
fits_by None datum = fine datum
fits_by (Some range) datum = number_for range (number_in datum)

abbrev pub fits : Table → PasType → Datum → Answer Datum
fits table type datum = fits_by (range_of table type) datum

-- the variables after a datum for a type is stored there
abbrev pub put_at : Table → PasType → Reference → Datum → Store → Answer Store
put_at table type reference datum store =
    then_answer (fits table type datum) (λ checked. fine (stored reference checked store))

-- what is read for a type: an ordinal is defined
abbrev pub defined_by : Option Range → Datum → Answer Datum
defined_by None datum = fine datum
defined_by (Some range) datum = then_answer (number_of datum) (λ value. fine (holds value))

abbrev pub fetched_as : Table → PasType → Reference → Store → Answer Datum
fetched_as table type reference store = defined_by (range_of table type) (fetched reference store)

-- activations come and go at the end
abbrev pub opened : List Cell → Store → Store
opened cells store = store ++ cells ∷ []

abbrev pub closed : Store → Store
closed store = take (top_of store) store
