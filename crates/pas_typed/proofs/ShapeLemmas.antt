-- The shape of a type of a lawful table, by what its row is.
use Rattle.std.proofs.Common.{◌≡◌, ℕ, zero, suc, ◌+◌, ◌*◌, ◌<◌, List, [], ◌∷◌, ◌++◌, length, map, take, sum_by, Option}
use Rattle.std.proofs.Common.{Some}
use Rattle.std.proofs.Common.{None, All, IsSome, IsTrue, get_or, slice_get, slice_index_or, option_map, option_and_then}
use Rattle.std.proofs.Common.{unwrap_or, arith, refl}
use Rattle.std.proofs.Common.{sym, ap, ◌∙◌, subst, suc-mul, append_assoc, append-nil, ap₂, length-append}
use Rattle.std.specs.Prelude.{⊤}
use Rattle.std.proofs.Math.ListN.{get_or-map}
use Rattle.std.proofs.lemmas.List.{get_or_append_left, get_or_push, map-append}
use Rattle.std.proofs.lemmas.List.Sums.{sum_by-cons}
use Rattle.std.proofs.lemmas.Option.{slice_get-map, unwrap_or-slice_get, option_and_then_some, same_Some}
use Rattle.std.proofs.lemmas.Option.{slice_get_within}
use Rattle.std.proofs.lemmas.Option.{get_or_from_slice_get}
use Rattle.pas_typed.specs.Types as types
use Rattle.pas_typed.specs.Types.{Range, Field, PasType, Structure, TableRow, Table, count_of, cells_of, cells_in, made}
use Rattle.pas_typed.specs.Types.{range_of, component_of, elements_of, fields_of, structure_of, ArrayParts, elements_in}
use Rattle.pas_typed.specs.Types.{fields_in, range_in, component_in, is_component, is_byte_range}
use Rattle.pas_typed.specs.Shapes.{Shape, one_cell, several, so_many, all_shapes, size, total, count, shape_at}
use Rattle.pas_typed.specs.Shapes.{cells_before, shape_by, shape_in, shapes_behind, shape_of, IsAmong, IsLawfulBehind}
use Rattle.pas_typed.specs.Shapes.{AreMadeBehind, IsLawfulTable, shapes_in, Leads, offset}

-- so many of a shape
pub count-so_many : (n : ℕ) (shape : Shape) → count (so_many n shape) ≡ n
count-so_many zero shape = refl
count-so_many (suc n) shape = ap suc (count-so_many n shape)

pub total-so_many : (n : ℕ) (shape : Shape) → total (so_many n shape) ≡ n * size shape
total-so_many zero shape = omega arith
total-so_many (suc n) shape = omega (arith, total-so_many n shape, suc-mul n (size shape))

pub shape_at-so_many : (n number : ℕ) (shape : Shape) → number < n → shape_at (so_many n shape) number ≡ shape
shape_at-so_many zero number shape less = absurd (omega (arith, less))
shape_at-so_many (suc n) zero shape less = refl
shape_at-so_many (suc n) (suc number) shape less = shape_at-so_many n number shape (omega (arith, less))

pub before-so_many : (n number : ℕ) (shape : Shape) → number < n
    → cells_before (so_many n shape) number ≡ number * size shape
before-so_many zero number shape less = absurd (omega (arith, less))
before-so_many (suc n) zero shape less = omega arith
before-so_many (suc n) (suc number) shape less =
    omega (arith, before-so_many n number shape (omega (arith, less)), suc-mul number (size shape))

-- the shapes of a list
pub count-all : (shapes : List Shape) → count (all_shapes shapes) ≡ length shapes
count-all [] = refl
count-all (shape ∷ shapes) = ap suc (count-all shapes)

pub shape_at-all : (shapes : List Shape) (number : ℕ)
    → shape_at (all_shapes shapes) number ≡ slice_index_or shapes number one_cell
shape_at-all [] number = refl
shape_at-all (shape ∷ shapes) zero = refl
shape_at-all (shape ∷ shapes) (suc number) = shape_at-all shapes number

pub before-all : {A : Type 0} (f : A → Shape) (found : List A) (number : ℕ)
    → cells_before (all_shapes (map f found)) number ≡ sum_by (λ each. size (f each)) (take number found)
before-all f [] zero = refl
before-all f [] (suc number) = refl
before-all f (each ∷ found) zero = refl
before-all f (each ∷ found) (suc number) =
    ap (λ cells. size (f each) + cells) (before-all f found number)
    ∙ sym (sum_by-cons (λ each. size (f each)) each (take number found))

pub total-all : {A : Type 0} (f : A → Shape) (found : List A)
    → total (all_shapes (map f found)) ≡ sum_by (λ each. size (f each)) found
total-all f [] = refl
total-all f (each ∷ found) =
    ap (λ cells. size (f each) + cells) (total-all f found) ∙ sym (sum_by-cons (λ each. size (f each)) each found)

-- a path behind a path
pub leads_on : (path more : List ℕ) (shape part other : Shape) → Leads shape path part → Leads part more other
    → Leads shape (path ++ more) other
leads_on [] more shape part other leads on = subst (λ shape. Leads shape more other) (sym leads) on
leads_on (number ∷ path) more shape part other leads on =
    (leads.0, leads_on path more (shape_at (shapes_in shape) number) part other leads.1 on)

pub offset_on : (path more : List ℕ) (shape part : Shape) → Leads shape path part
    → offset shape (path ++ more) ≡ offset shape path + offset part more
offset_on [] more shape part leads = ap (λ shape. offset shape more) leads ∙ omega arith
offset_on (number ∷ path) more shape part leads =
    omega (arith, offset_on path more (shape_at (shapes_in shape) number) part leads.1)

-- the rows of a table are the earlier ones in a longer table
shapes_stay : (shapes : List Shape) (table : Table) (number : ℕ) → number < length shapes
    → slice_index_or (shapes_behind shapes table) number one_cell ≡ slice_index_or shapes number one_cell
shapes_stay shapes [] number less = refl
shapes_stay shapes (found ∷ table) number less =
    shapes_stay (shapes ++ shape_in shapes found.structure ∷ []) table number
    (omega (arith, less, length-append shapes (shape_in shapes found.structure ∷ [])))
    ∙ get_or_append_left shapes (shape_in shapes found.structure ∷ []) one_cell number less

-- what a row is has one shape by two lists that are the same for the rows that it refers to
record Agree (rows : ℕ) (shapes others : List Shape) : Type 0 where
  each : (number : ℕ) → number < rows → slice_index_or shapes number one_cell ≡ slice_index_or others number one_cell

agree_by : (rows : ℕ) (shapes others : List Shape) (type : PasType) → Agree rows shapes others → IsAmong rows type
    → shape_by shapes type ≡ shape_by others type
agree_by rows shapes others (types.whole base) agree among = refl
agree_by rows shapes others types.text agree among = refl
agree_by rows shapes others (types.row number) agree among = agree.each number among

agree_fields : (rows : ℕ) (shapes others : List Shape) (found : List Field) → Agree rows shapes others
    → All (λ field. IsAmong rows field.type) found
    → map (λ (field : Field). shape_by shapes field.type) found
    ≡ map (λ (field : Field). shape_by others field.type) found
agree_fields rows shapes others [] agree among = refl
agree_fields rows shapes others (field ∷ found) agree among =
    let first = agree_by rows shapes others field.type agree (among 0 field (omega arith)) in
    let rest = agree_fields rows shapes others found agree (λ k d less. among (suc k) d (omega (arith, less))) in
    cc

agree_in : (table : Table) (shapes others : List Shape) (structure : Structure)
    → Agree (length table) shapes others → IsLawfulBehind table structure
    → shape_in shapes structure ≡ shape_in others structure
agree_in table shapes others (types.subrange range) agree lawful = refl
agree_in table shapes others (types.array indexes element) agree lawful =
    ap (λ shape. several (so_many (count_of indexes) shape)) (agree_by _ shapes others element agree lawful)
agree_in table shapes others (types.fields found) agree lawful =
    ap (λ shapes. several (all_shapes shapes)) (agree_fields _ shapes others found agree lawful)
agree_in table shapes others (types.file component) agree lawful = refl

-- the shape of a row is made of the shapes of all rows
shape_there : (shapes : List Shape) (earlier table : Table) (number : ℕ) (found : TableRow)
    → length shapes ≡ length earlier → AreMadeBehind earlier table → slice_get table number ≡ Some found
    → slice_index_or (shapes_behind shapes table) (length shapes + number) one_cell
    ≡ shape_in (shapes_behind shapes table) found.structure
shape_there shapes earlier [] number found same made is = absurd (cc)
shape_there shapes earlier (row ∷ table) zero found same made is =
    let first = shape_in shapes row.structure in
    ap (λ number. slice_index_or (shapes_behind shapes (row ∷ table)) number one_cell) (omega arith)
    ∙ shapes_stay (shapes ++ first ∷ []) table (length shapes) (omega (arith, length-append shapes (first ∷ [])))
    ∙ get_or_push shapes first one_cell (length shapes) refl
    ∙ agree_in earlier shapes (shapes_behind shapes (row ∷ table)) row.structure
    (record { each = λ number less. sym (shapes_stay shapes (row ∷ table) number (omega (arith, less, same))) }) made.0
    ∙ ap (λ (each : TableRow). shape_in (shapes_behind shapes (row ∷ table)) each.structure) (same_Some row found is)
shape_there shapes earlier (row ∷ table) (suc number) found same made is =
    let first = shape_in shapes row.structure in
    ap (λ number. slice_index_or (shapes_behind shapes (row ∷ table)) number one_cell)
    (omega (arith, length-append shapes (first ∷ [])))
    ∙ shape_there (shapes ++ first ∷ []) (earlier ++ row ∷ []) table number found
    (omega (arith, same, length-append shapes (first ∷ []), length-append earlier (row ∷ []))) made.2 is

-- the shape of a type by what its row is: an ordinal and a file are one cell
pub shape_of-structure : (table : Table) (type : PasType) (structure : Structure) → IsLawfulTable table
    → structure_of table type ≡ Some structure → shape_of table type ≡ shape_in (shapes_behind [] table) structure
shape_of-structure table (types.whole base) structure made is = absurd (cc)
shape_of-structure table types.text structure made is = absurd (cc)
shape_of-structure table (types.row number) structure made is = of_row (slice_get table number) refl is
  where
    of_row : (row : Option TableRow) → slice_get table number ≡ row
        → option_map (λ (found : TableRow). found.structure) row ≡ Some structure
        → shape_of table (types.row number) ≡ shape_in (shapes_behind [] table) structure
    of_row None there is = absurd (cc)
    of_row (Some row) there is =
        ap (λ number. slice_index_or (shapes_behind [] table) number one_cell) (omega arith)
        ∙ shape_there [] [] table number row refl made there
        ∙ ap (shape_in (shapes_behind [] table)) (same_Some _ _ is)

pub shape_of-ordinal : (table : Table) (type : PasType) → IsLawfulTable table → IsSome (range_of table type)
    → shape_of table type ≡ one_cell
shape_of-ordinal table (types.whole base) made is = refl
shape_of-ordinal table types.text made is = refl
shape_of-ordinal table (types.row number) made is =
    of_structure (structure_of table (types.row number)) refl is
  where
    of_structure : (structure : Option Structure) → structure_of table (types.row number) ≡ structure
        → IsSome (option_and_then range_in structure) → shape_of table (types.row number) ≡ one_cell
    of_structure None there is = absurd (cc)
    of_structure (Some (types.subrange range)) there is = shape_of-structure table (types.row number) _ made there
    of_structure (Some (types.array indexes element)) there is = absurd (cc)
    of_structure (Some (types.fields found)) there is = absurd (cc)
    of_structure (Some (types.file component)) there is = absurd (cc)

pub shape_of-file : (table : Table) (type : PasType) → IsLawfulTable table → IsSome (component_of table type)
    → shape_of table type ≡ one_cell
shape_of-file table (types.whole base) made is = refl
shape_of-file table types.text made is = refl
shape_of-file table (types.row number) made is =
    of_structure (structure_of table (types.row number)) refl is
  where
    of_structure : (structure : Option Structure) → structure_of table (types.row number) ≡ structure
        → IsSome (option_and_then component_in structure) → shape_of table (types.row number) ≡ one_cell
    of_structure None there is = absurd (cc)
    of_structure (Some (types.subrange range)) there is = absurd (cc)
    of_structure (Some (types.array indexes element)) there is = absurd (cc)
    of_structure (Some (types.fields found)) there is = absurd (cc)
    of_structure (Some (types.file component)) there is = shape_of-structure table (types.row number) _ made there

-- the shape of an array type, of its elements, and where each begins
module _ (table : Table) (type : PasType) (parts : ArrayParts) (made : IsLawfulTable table)
    (is : elements_of table type ≡ Some parts) where
  pub shape_of-array : shape_of table type
      ≡ several (so_many (count_of parts.indexes) (shape_of table parts.element))
  shape_of-array =
      option_and_then_some elements_in (structure_of table type) parts is of_array
    where
      of_array : (structure : Structure) → structure_of table type ≡ Some structure
          → elements_in structure ≡ Some parts
          → shape_of table type ≡ several (so_many (count_of parts.indexes) (shape_of table parts.element))
      of_array (types.subrange range) there is = absurd (cc)
      of_array (types.array indexes element) there is =
          shape_of-structure table type _ made there
          ∙ ap (λ (parts : ArrayParts). several (so_many (count_of parts.indexes) (shape_of table parts.element)))
          (same_Some _ _ is)
      of_array (types.fields found) there is = absurd (cc)
      of_array (types.file component) there is = absurd (cc)

  pub element_leads : (number : ℕ) → number < count_of parts.indexes
      → Leads (shape_of table type) (number ∷ []) (shape_of table parts.element)
  element_leads number less =
      subst (λ shape. Leads shape (number ∷ []) (shape_of table parts.element)) (sym shape_of-array) (
        omega (arith, less, count-so_many (count_of parts.indexes) (shape_of table parts.element)),
        shape_at-so_many (count_of parts.indexes) number (shape_of table parts.element) less,
      )

  pub element_begins : (number : ℕ) → number < count_of parts.indexes
      → offset (shape_of table type) (number ∷ []) ≡ number * size (shape_of table parts.element)
  element_begins number less =
      ap (λ shape. offset shape (number ∷ [])) shape_of-array
      ∙ omega (arith, before-so_many (count_of parts.indexes) number (shape_of table parts.element) less)

-- the shape of a record type, and of its fields
module _ (table : Table) (type : PasType) (found : List Field) (made : IsLawfulTable table)
    (is : fields_of table type ≡ Some found) where
  pub shape_of-fields : shape_of table type
      ≡ several (all_shapes (map (λ (field : Field). shape_of table field.type) found))
  shape_of-fields =
      option_and_then_some fields_in (structure_of table type) found is of_fields
    where
      of_fields : (structure : Structure) → structure_of table type ≡ Some structure
          → fields_in structure ≡ Some found
          → shape_of table type ≡ several (all_shapes (map (λ (field : Field). shape_of table field.type) found))
      of_fields (types.subrange range) there is = absurd (cc)
      of_fields (types.array indexes element) there is = absurd (cc)
      of_fields (types.fields others) there is =
          shape_of-structure table type _ made there
          ∙ ap (λ found. several (all_shapes (map (λ (field : Field). shape_of table field.type) found)))
          (same_Some _ _ is)
      of_fields (types.file component) there is = absurd (cc)

  pub field_leads : (number : ℕ) (field : Field) → slice_get found number ≡ Some field
      → Leads (shape_of table type) (number ∷ []) (shape_of table field.type)
  field_leads number field there =
      let shapes = map (λ (field : Field). shape_of table field.type) found in
      let is_there : slice_get shapes number ≡ Some (shape_of table field.type) =
      slice_get-map (λ (field : Field). shape_of table field.type) found number
      ∙ ap (option_map (λ (field : Field). shape_of table field.type)) there in
      subst (λ shape. Leads shape (number ∷ []) (shape_of table field.type)) (sym shape_of-fields) (
        omega (arith, slice_get_within shapes number _ is_there, count-all shapes),
        shape_at-all shapes number ∙ get_or_from_slice_get shapes number _ one_cell is_there,
      )

  pub field_begins : (number : ℕ)
      → offset (shape_of table type) (number ∷ [])
      ≡ sum_by (λ (field : Field). size (shape_of table field.type)) (take number found)
  field_begins number =
      ap (λ shape. offset shape (number ∷ [])) shape_of-fields
      ∙ omega (arith, before-all (λ (field : Field). shape_of table field.type) found number)

-- a type has as many cells as its shape
size_by : (shapes : List Shape) (earlier : Table) (type : PasType)
    → map size shapes ≡ map (λ (row : TableRow). row.cells) earlier
    → size (shape_by shapes type) ≡ cells_of earlier type
size_by shapes earlier (types.whole base) same = refl
size_by shapes earlier types.text same = refl
size_by shapes earlier (types.row number) same =
    sym (get_or-map size shapes number one_cell)
    ∙ ap (λ cells. get_or cells number 1) same
    ∙ sym (unwrap_or-slice_get (map (λ (row : TableRow). row.cells) earlier) number 1)
    ∙ ap (λ cells. unwrap_or cells 1) (slice_get-map (λ (row : TableRow). row.cells) earlier number)

size_fields : (shapes : List Shape) (earlier : Table) (found : List Field)
    → map size shapes ≡ map (λ (row : TableRow). row.cells) earlier
    → sum_by (λ (field : Field). size (shape_by shapes field.type)) found
    ≡ sum_by (λ (field : Field). cells_of earlier field.type) found
size_fields shapes earlier [] same = refl
size_fields shapes earlier (field ∷ found) same =
    sum_by-cons (λ (field : Field). size (shape_by shapes field.type)) field found
    ∙ ap₂ (λ first rest. first + rest) (size_by shapes earlier field.type same) (size_fields shapes earlier found same)
    ∙ sym (sum_by-cons (λ (field : Field). cells_of earlier field.type) field found)

size_in : (shapes : List Shape) (earlier : Table) (structure : Structure)
    → map size shapes ≡ map (λ (row : TableRow). row.cells) earlier
    → size (shape_in shapes structure) ≡ cells_in earlier structure
size_in shapes earlier (types.subrange range) same = refl
size_in shapes earlier (types.array indexes element) same =
    total-so_many (count_of indexes) (shape_by shapes element)
    ∙ ap (λ cells. count_of indexes * cells) (size_by shapes earlier element same)
size_in shapes earlier (types.fields found) same =
    total-all (λ (field : Field). shape_by shapes field.type) found ∙ size_fields shapes earlier found same
size_in shapes earlier (types.file component) same = refl

sizes_are : (shapes : List Shape) (earlier table : Table) → AreMadeBehind earlier table
    → map size shapes ≡ map (λ (row : TableRow). row.cells) earlier
    → map size (shapes_behind shapes table) ≡ map (λ (row : TableRow). row.cells) (earlier ++ table)
sizes_are shapes earlier [] made same = same ∙ ap (map (λ (row : TableRow). row.cells)) (sym (append-nil earlier))
sizes_are shapes earlier (row ∷ table) made same =
    sizes_are (shapes ++ shape_in shapes row.structure ∷ []) (earlier ++ row ∷ []) table made.2
    (map-append size shapes _
    ∙ ap₂ (λ first last. first ++ last ∷ []) same (size_in shapes earlier row.structure same ∙ sym made.1)
    ∙ sym (map-append (λ (row : TableRow). row.cells) earlier (row ∷ [])))
    ∙ ap (map (λ (row : TableRow). row.cells)) (append_assoc earlier (row ∷ []) table)

pub size-shape_of : (table : Table) (type : PasType) → IsLawfulTable table
    → size (shape_of table type) ≡ cells_of table type
size-shape_of table type made = size_by (shapes_behind [] table) table type (sizes_are [] [] table made refl)

-- a lawful type expression leaves the table lawful
made_behind : (earlier table : Table) (row : TableRow) → AreMadeBehind earlier table
    → IsLawfulBehind (earlier ++ table) row.structure → row.cells ≡ cells_in (earlier ++ table) row.structure
    → AreMadeBehind earlier (table ++ row ∷ [])
made_behind earlier [] row made lawful cells =
    subst (λ rows. IsLawfulBehind rows row.structure × (row.cells ≡ cells_in rows row.structure) × ⊤)
    (append-nil earlier) (lawful, cells, tt)
made_behind earlier (first ∷ table) row made lawful cells = (
  made.0,
  made.1,
  made_behind (earlier ++ first ∷ []) table row made.2
      (subst (λ rows. IsLawfulBehind rows row.structure) (sym (append_assoc earlier (first ∷ []) table)) lawful)
      (cells ∙ ap (λ rows. cells_in rows row.structure) (sym (append_assoc earlier (first ∷ []) table))),
)

pub lawful-made : (table : Table) (structure : Structure) → IsLawfulTable table → IsLawfulBehind table structure
    → IsLawfulTable (made table structure).table
lawful-made table structure is lawful = made_behind [] table _ is lawful refl

-- each row is lawful behind the earlier ones, so the components of a file are ordinals
lawful_there : (earlier table : Table) (number : ℕ) (found : TableRow) → AreMadeBehind earlier table
    → slice_get table number ≡ Some found → IsLawfulBehind (earlier ++ take number table) found.structure
lawful_there earlier [] number found made is = absurd (cc)
lawful_there earlier (row ∷ table) zero found made is =
    subst (λ (each : TableRow). IsLawfulBehind (earlier ++ []) each.structure) (same_Some row found is)
    (subst (λ rows. IsLawfulBehind rows row.structure) (sym (append-nil earlier)) made.0)
lawful_there earlier (row ∷ table) (suc number) found made is =
    subst (λ rows. IsLawfulBehind rows found.structure) (append_assoc earlier (row ∷ []) (take number table))
    (lawful_there (earlier ++ row ∷ []) table number found made.2 is)

ordinal_stays : (table : Table) (number : ℕ) (type : PasType) → IsSome (range_of (take number table) type)
    → IsSome (range_of table type)
ordinal_stays table number (types.whole base) is = refl
ordinal_stays table number types.text is = is
ordinal_stays table number (types.row row) is = stays table number row is
  where
    stays : (table : Table) (number row : ℕ)
        → IsSome (option_and_then range_in (option_map (λ (found : TableRow). found.structure)
        (slice_get (take number table) row)))
        → IsSome (option_and_then range_in (option_map (λ (found : TableRow). found.structure) (slice_get table row)))
    stays table zero row is = absurd (cc)
    stays [] (suc number) row is = is
    stays (found ∷ table) (suc number) zero is = is
    stays (found ∷ table) (suc number) (suc row) is = stays table number row is

ordinal_component : (table : Table) (type : PasType) → IsTrue (is_component table type) → IsSome (range_of table type)
ordinal_component table (types.whole base) is = refl
ordinal_component table types.text is = is
ordinal_component table (types.row number) is = of_range (range_of table (types.row number)) is
  where
    of_range : (range : Option Range) → IsTrue (is_byte_range range) → IsSome range
    of_range None is = is
    of_range (Some range) is = refl

pub component-ordinal : (table : Table) (type component : PasType) → IsLawfulTable table
    → component_of table type ≡ Some component → IsSome (range_of table component)
component-ordinal table (types.whole base) component made is = absurd (cc)
component-ordinal table types.text component made is =
    subst (λ type. IsSome (range_of table type)) (same_Some _ _ is) refl
component-ordinal table (types.row number) component made is = of_row (slice_get table number) refl is
  where
    of_row : (row : Option TableRow) → slice_get table number ≡ row
        → option_and_then component_in (option_map (λ (found : TableRow). found.structure) row) ≡ Some component
        → IsSome (range_of table component)
    of_row None there is = absurd (cc)
    of_row (Some row) there is = of_structure row.structure (lawful_there [] table number row made there) is
      where
        of_structure : (structure : Structure) → IsLawfulBehind (take number table) structure
            → component_in structure ≡ Some component → IsSome (range_of table component)
        of_structure (types.subrange range) lawful is = absurd (cc)
        of_structure (types.array indexes element) lawful is = absurd (cc)
        of_structure (types.fields found) lawful is = absurd (cc)
        of_structure (types.file found) lawful is =
            subst (λ type. IsSome (range_of table type)) (same_Some found component is)
            (ordinal_stays table number found (ordinal_component (take number table) found lawful))
