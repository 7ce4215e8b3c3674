-- Types that names and variables have are among the rows of the scope, and stay so where more rows are made.
use Rattle.std.proofs.Common.{◌≡◌, refl, sym, ap, ◌∙◌, ℕ, suc, ◌+◌, ◌*◌, ◌≤◌, arith, List, [], ◌∷◌, ◌++◌, length}
use Rattle.std.proofs.Common.{Bool, true, false, Option, Some, None, cond, length-append}
use Rattle.std.proofs.lemmas.List.{append_assoc, append-nil}
use Rattle.std.proofs.lemmas.List.Sums.{sum_by-cons, sum_by-append}
use Rattle.std.specs.Prelude.{⊤, find, option_map, unwrap_or, codes, if◌then◌else◌}
use Rattle.std.specs.Str.{bytes_eq}
use Rattle.wb_base.specs.declared.faults.TheConstants.{UNKNOWN_NAME, REAL_NUMBERS}
use Rattle.pas_tokens.specs.Cutting.{Wrong, wrong}
use Rattle.pas_syntax.specs.Parse.{left_out}
use Rattle.pas_syntax.specs.Tree as tree
use Rattle.pas_syntax.specs.Tree.{Behind, Simple, TypeForm, Fields}
use Rattle.pas_typed.specs.Types.{PasType, Range, Structure, Table, array, fields, file, subrange, Made, made}
use Rattle.pas_typed.specs.Types.{TableRow, cells_in, cells_of}
use Rattle.pas_typed.specs.Typed.{Mode, declared, by_value, by_name, Variable}
use Rattle.pas_typed.specs.Shapes.{IsAmong}
use Rattle.pas_typed.proofs.CountLemmas.{counted-add, counted-mul}
use Rattle.pas_typed.proofs.LongerTables.{IsAmong-more, IsAmong-made, cells_of-append}
use Rattle.pas_rules.specs.Marks.{Marks, quiet, no_token, Judged, known, both, checked, checked_by, kept_by, refuses}
use Rattle.pas_rules.specs.Scopes.{Entity, constant, type, variable, routine, function, file_test, file_step}
use Rattle.pas_rules.specs.Scopes.{procedure, unclear, Named, Scopes, entity_in, entity_of, required, or_else}
use Rattle.pas_rules.specs.Scopes.{spellings_of, names, Outer, Inner}
use Rattle.pas_rules.specs.TypeForms.{ConstantValue, as_type, simple_of, constant_of}
use Rattle.pas_rules.specs.TypeForms.{range_between, fits_below, Indexes, Group, index_only, one_more, with_index}
use Rattle.pas_rules.specs.TypeForms.{no_indexes, table_of_indexes, more_indexes, indexes_of, arrays, with_fields}
use Rattle.pas_rules.specs.TypeForms.{no_fields, table_of_fields, form_of, groups_of}
use Rattle.pas_rules.specs.Declarations.{cells_of_variable, cells_together, program_scopes, with_name, types_behind}
use Rattle.pas_rules.specs.Declarations.{variables_of, routine_scopes}
use Rattle.pas_scopes.specs.DeclaredSoFar.{IsThere, AreThere, AreTyped, IsHeld, AreHeld, IsFiled, AreFiled}
use Rattle.pas_scopes.specs.DeclaredSoFar.{IsCounted, constant_meant}
use Rattle.pas_typed.specs.TypeViews.{counted}

-- more rows
pub there_more : (rows most : ℕ) (entity : Entity) → rows ≤ most → IsThere rows entity → IsThere most entity
there_more rows most (type found) less h = IsAmong-more rows most found less h
there_more rows most (constant base value) less h = tt
there_more rows most (variable slot) less h = tt
there_more rows most (routine number) less h = tt
there_more rows most (function found) less h = tt
there_more rows most (file_test test) less h = tt
there_more rows most (file_step step) less h = tt
there_more rows most (procedure found) less h = tt
there_more rows most unclear less h = tt

pub all_there_more : (rows most : ℕ) (found : List Named) → rows ≤ most → AreThere rows found → AreThere most found
all_there_more rows most [] less h = tt
all_there_more rows most (named ∷ found) less h =
    (there_more rows most named.entity less h.0, all_there_more rows most found less h.1)

pub there_append : (rows : ℕ) (found more : List Named) → AreThere rows found → AreThere rows more
    → AreThere rows (found ++ more)
there_append rows [] more h k = k
there_append rows (named ∷ found) more h k = (h.0, there_append rows found more h.1 k)

pub typed_more : (rows most : ℕ) (found : List Variable) → rows ≤ most → AreTyped rows found → AreTyped most found
typed_more rows most [] less h = tt
typed_more rows most (first ∷ found) less h =
    (IsAmong-more rows most first.type less h.0, typed_more rows most found less h.1)

pub typed_append : (rows : ℕ) (found more : List Variable) → AreTyped rows found → AreTyped rows more
    → AreTyped rows (found ++ more)
typed_append rows [] more h k = k
typed_append rows (first ∷ found) more h k = (h.0, typed_append rows found more h.1 k)

pub held_more : (rows most : ℕ) (entity : Entity) → rows ≤ most → IsHeld rows entity → IsHeld most entity
held_more rows most (variable slot) less h = IsAmong-more rows most slot.type less h
held_more rows most (type found) less h = tt
held_more rows most (constant base value) less h = tt
held_more rows most (routine number) less h = tt
held_more rows most (function found) less h = tt
held_more rows most (file_test test) less h = tt
held_more rows most (file_step step) less h = tt
held_more rows most (procedure found) less h = tt
held_more rows most unclear less h = tt

pub all_held_more : (rows most : ℕ) (found : List Named) → rows ≤ most → AreHeld rows found → AreHeld most found
all_held_more rows most [] less h = tt
all_held_more rows most (named ∷ found) less h =
    (held_more rows most named.entity less h.0, all_held_more rows most found less h.1)

pub held_append : (rows : ℕ) (found more : List Named) → AreHeld rows found → AreHeld rows more
    → AreHeld rows (found ++ more)
held_append rows [] more h k = k
held_append rows (named ∷ found) more h k = (h.0, held_append rows found more h.1 k)

filed_more : (rows most : ℕ) (structure : Structure) → rows ≤ most → IsFiled rows structure → IsFiled most structure
filed_more rows most (file component) less h = IsAmong-more rows most component less h
filed_more rows most (subrange range) less h = tt
filed_more rows most (array indexes element) less h = tt
filed_more rows most (fields found) less h = tt

all_filed_more : (rows most : ℕ) (table : Table) → rows ≤ most → AreFiled rows table → AreFiled most table
all_filed_more rows most [] less h = tt
all_filed_more rows most (found ∷ table) less h =
    (filed_more rows most found.structure less h.0, all_filed_more rows most table less h.1)

filed_append : (rows : ℕ) (table more : Table) → AreFiled rows table → AreFiled rows more
    → AreFiled rows (table ++ more)
filed_append rows [] more h k = k
filed_append rows (found ∷ table) more h k = (h.0, filed_append rows table more h.1 k)

-- cells stay as many
cells_stay : (table more : Table) (mode : Mode) (found : PasType) → IsAmong (length table) found
    → cells_of_variable (table ++ more) mode found ≡ cells_of_variable table mode found
cells_stay table more by_name found h = refl
cells_stay table more declared found h = cells_of-append table more found h
cells_stay table more by_value found h = cells_of-append table more found h

pub together_stay : (table more : Table) (variables : List Variable) → AreTyped (length table) variables
    → cells_together (table ++ more) variables ≡ cells_together table variables
together_stay table more [] h = refl
together_stay table more (first ∷ variables) h =
    sum_by-cons (λ (each : Variable). cells_of_variable (table ++ more) each.mode each.type) first variables
    ∙ (ap (λ (n : ℕ). n + cells_together (table ++ more) variables) (cells_stay table more first.mode first.type h.0)
    ∙ (ap (λ (n : ℕ). cells_of_variable table first.mode first.type + n) (together_stay table more variables h.1)
    ∙ sym (sum_by-cons (λ (each : Variable). cells_of_variable table each.mode each.type) first variables)))

-- what a name stands for
abbrev pub IsThereIf : ℕ → Option Entity → Type 0
IsThereIf rows None = ⊤
IsThereIf rows (Some entity) = IsThere rows entity

there_if_more : (rows most : ℕ) (entity : Option Entity) → rows ≤ most → IsThereIf rows entity
    → IsThereIf most entity
there_if_more rows most None less h = tt
there_if_more rows most (Some entity) less h = there_more rows most entity less h

found_by : (rows : ℕ) (b : Bool) (first : Named) (more : Option Named) → IsThere rows first.entity
    → IsThereIf rows (option_map (λ (named : Named). named.entity) more)
    → IsThereIf rows (option_map (λ (named : Named). named.entity) (cond b (Some first) more))
found_by rows true first more h k = h
found_by rows false first more h k = k

pub there_in : (rows : ℕ) (found : List Named) (name : List ℕ) → AreThere rows found
    → IsThereIf rows (entity_in found name)
there_in rows [] name h = tt
there_in rows (first ∷ found) name h =
    found_by rows (bytes_eq first.name name) first (find (λ (named : Named). bytes_eq named.name name) found) h.0
    (there_in rows found name h.1)

there_or : (rows : ℕ) (one other : Option Entity) → IsThereIf rows one → IsThereIf rows other
    → IsThereIf rows (or_else one other)
there_or rows None other h k = k
there_or rows (Some entity) other h k = h

required_there : (rows : ℕ) → AreThere rows required
required_there rows = (
  tt,
  (
    tt,
    (
      tt,
      (
        tt,
        (
          tt,
          (
            tt,
            (
              tt,
              (
                tt,
                (
                  tt,
                  (
                    tt,
                    (
                      tt,
                      (tt, (tt, (tt, (tt, (tt, (tt, (tt, (tt, (tt, (tt, (tt, tt))))))))))),
                    ),
                  ),
                ),
              ),
            ),
          ),
        ),
      ),
    ),
  ),
)

-- the types that the names of scopes tell
pub record AreNamed (rows : ℕ) (s : Scopes) : Type 0 where
  pub each : (name : List ℕ) → IsThereIf rows (entity_of s name)

named_more : (rows most : ℕ) (s : Scopes) → rows ≤ most → AreNamed rows s → AreNamed most s
named_more rows most s less h = record {
  each = λ name. there_if_more rows most (entity_of s name) less (h.each name);
}

-- a table that begins with another one, and of which the files have components among the rows if those of that have
pub record Longer (table later : Table) : Type 0 where
  pub more : Table
  pub is : later ≡ table ++ more
  pub filed : AreFiled (length table) table → AreFiled (length later) later

pub longer_same : (table : Table) → Longer table table
longer_same table = record { more = []; is = sym (append-nil table); filed = λ h. h }

pub longer_on : (table now later : Table) → Longer table now → Longer now later → Longer table later
longer_on table now later h k = record {
  more = h.more ++ k.more;
  is = k.is ∙ (ap (λ (t : Table). t ++ k.more) h.is ∙ append_assoc table h.more k.more);
  filed = λ files. k.filed (h.filed files);
}

pub longer_length : (table later : Table) → Longer table later → length table ≤ length later
longer_length table later h = omega (arith, ap length h.is, length-append table h.more)

longer_made : (table : Table) (structure : Structure) → IsFiled (length table) structure
    → Longer table (made table structure).table
longer_made table structure h =
    let row : TableRow = record { structure = structure; cells = cells_in table structure } in
    let less : length table ≤ length (table ++ row ∷ []) = omega (arith, length-append table (row ∷ [])) in
    record {
      more = row ∷ [];
      is = refl;
      filed = λ files.
          filed_append (length (table ++ row ∷ [])) table (row ∷ [])
          (all_filed_more (length table) (length (table ++ row ∷ [])) table less files)
          (filed_more (length table) (length (table ++ row ∷ [])) structure less h, tt);
    }

-- what a part makes behind a table
abbrev pub IsMade : Table → Option Made → Type 0
IsMade table None = ⊤
IsMade table (Some found) = Longer table found.table × IsAmong (length found.table) found.type

abbrev IsIndexed : Table → Option Indexes → Type 0
IsIndexed table None = ⊤
IsIndexed table (Some found) = Longer table found.table

abbrev IsGrouped : Table → Option Group → Type 0
IsGrouped table None = ⊤
IsGrouped table (Some found) = Longer table found.table

made_on : (table now : Table) (found : Option Made) → Longer table now → IsMade now found → IsMade table found
made_on table now None h k = tt
made_on table now (Some found) h k = (longer_on table now found.table h k.0, k.1)

made_new : (table : Table) (structure : Structure) → IsFiled (length table) structure
    → IsMade table (Some (made table structure))
made_new table structure h = (longer_made table structure h, IsAmong-made table structure)

checked_made : (table : Table) (faults : Made → List Wrong) (marks : Marks) (found : Option Made) → IsMade table found
    → IsMade table (checked_by faults marks found).value
checked_made table faults marks None h = tt
checked_made table faults marks (Some found) h = kept (faults found)
  where
    kept : (shown : List Wrong) → IsMade table (kept_by marks found shown).value
    kept [] = h
    kept (refusal ∷ more) = tt

-- simple types
none_made : (table : Table) (b : Bool) (refusal other : Wrong)
    → IsMade table (known (λ found. record { type = found; table = table })
    (if b then refuses refusal else refuses other).value)
none_made table true refusal other = tt
none_made table false refusal other = tt

named_made : (table : Table) (name : List ℕ) (entity : Option Entity) → IsThereIf (length table) entity
    → IsMade table (known (λ found. record { type = found; table = table }) (as_type name entity).value)
named_made table name None h =
    none_made table (bytes_eq name (codes "real")) (left_out REAL_NUMBERS) (wrong UNKNOWN_NAME)
named_made table name (Some (type found)) h = (longer_same table, h)
named_made table name (Some (constant base value)) h = tt
named_made table name (Some (variable slot)) h = tt
named_made table name (Some (routine number)) h = tt
named_made table name (Some (function found)) h = tt
named_made table name (Some (file_test test)) h = tt
named_made table name (Some (file_step step)) h = tt
named_made table name (Some (procedure found)) h = tt
named_made table name (Some unclear) h = tt

range_made : (table : Table) (range : Option Range)
    → IsMade table (known (λ range. made table (subrange range)) range)
range_made table None = tt
range_made table (Some range) = made_new table (subrange range) tt

simple_made : (s : Scopes) (table : Table) → AreNamed (length table) s → (form : Simple)
    → IsMade table (simple_of s table form).value
simple_made s table named (tree.simple_named ident) =
    named_made table ident.name (entity_of s ident.name) (named.each ident.name)
simple_made s table named (tree.range low line high) =
    range_made table (both range_between (constant_of s low).value
    (checked (fits_below (constant_of s low).value) (constant_of s high)).value)
simple_made s table named (tree.no_simple form) = tt

-- indexes
index_more : (table : Table) (before : Option Indexes) (index : Option Made) → IsIndexed table before
    → IsMade (unwrap_or (option_map (λ found. found.table) before) table) index
    → IsIndexed table (both one_more before index)
index_more table None index h k = tt
index_more table (Some before) None h k = tt
index_more table (Some before) (Some index) h k = longer_on table before.table index.table h k.0

behind_longer : (table : Table) (before : Option Indexes) → IsIndexed table before
    → Longer table (unwrap_or (option_map (λ found. found.table) before) table)
behind_longer table None h = longer_same table
behind_longer table (Some before) h = h

with_index_made : (s : Scopes) (table : Table) → AreNamed (length table) s → (separator : Marks)
    → (before : Judged Indexes) → IsIndexed table before.value → (form : Simple)
    → IsIndexed table (with_index separator before (simple_of s (table_of_indexes table before) form)).value
with_index_made s table named separator before h form =
    let now : Table = table_of_indexes table before in
    let index : Judged Made = simple_of s now form in
    index_more table before.value (checked index_only index).value h
    (checked_made now index_only index.marks index.value
    (simple_made s now (named_more (length table) (length now) s
    (longer_length table now (behind_longer table before.value h)) named) form))

more_made : (s : Scopes) (table : Table) → AreNamed (length table) s → (before : Judged Indexes)
    → IsIndexed table before.value → (more : List (Behind Simple))
    → IsIndexed table (more_indexes s table before more).value
more_made s table named before h [] = h
more_made s table named before h (behind ∷ more) =
    more_made s table named
    (with_index quiet before (simple_of s (table_of_indexes table before) behind.item))
    (with_index_made s table named quiet before h behind.item) more

indexes_made : (s : Scopes) (table : Table) → AreNamed (length table) s → (indexes : tree.Separated Simple)
    → IsIndexed table (indexes_of s table indexes).value
indexes_made s table named indexes =
    more_made s table named (with_index no_token (no_indexes table) (simple_of s table indexes.first))
    (with_index_made s table named no_token (no_indexes table) (longer_same table) indexes.first) indexes.more

-- arrays
arrays_made : (table : Table) (ranges : List Range) (element : PasType) → IsAmong (length table) element
    → IsMade table (Some (arrays table ranges element))
arrays_made table [] element h = (longer_same table, h)
arrays_made table (range ∷ ranges) element h =
    let inner : Made = arrays table ranges element in
    made_on table inner.table (Some (made inner.table (array range inner.type)))
    (arrays_made table ranges element h).0 (made_new inner.table (array range inner.type) tt)

array_made : (table : Table) (indexes : Option Indexes) (element : Option Made) → IsIndexed table indexes
    → IsMade (unwrap_or (option_map (λ found. found.table) indexes) table) element
    → IsMade table (both (λ found last. arrays last.table found.ranges last.type) indexes element)
array_made table None element h k = tt
array_made table (Some found) None h k = tt
array_made table (Some found) (Some last) h k =
    made_on table last.table (Some (arrays last.table found.ranges last.type))
    (longer_on table found.table last.table h k.0) (arrays_made last.table found.ranges last.type k.1)

-- files and records
file_made : (table : Table) (component : Option Made) → IsMade table component
    → IsMade table (known (λ found. made found.table (file found.type)) component)
file_made table None h = tt
file_made table (Some found) h =
    made_on table found.table (Some (made found.table (file found.type))) h.0
    (made_new found.table (file found.type) h.1)

record_made : (table : Table) (group : Option Group) → IsGrouped table group
    → IsMade table (known (λ found. made found.table (fields found.fields)) group)
record_made table None h = tt
record_made table (Some found) h =
    made_on table found.table (Some (made found.table (fields found.fields))) h
    (made_new found.table (fields found.fields) tt)

group_made : (table : Table) (names : List (List ℕ)) (before : Option Group) (form : Option Made)
    → IsGrouped table before → IsMade (unwrap_or (option_map (λ found. found.table) before) table) form
    → IsGrouped table (both (with_fields names) before form)
group_made table names None form h k = tt
group_made table names (Some before) None h k = tt
group_made table names (Some before) (Some found) h k = longer_on table before.table found.table h k.0

fields_longer : (table : Table) (before : Option Group) → IsGrouped table before
    → Longer table (unwrap_or (option_map (λ found. found.table) before) table)
fields_longer table None h = longer_same table
fields_longer table (Some before) h = h

-- type expressions
mutual
  pub form_made : (s : Scopes) (table : Table) → AreNamed (length table) s → (form : TypeForm)
      → IsMade table (form_of s table form).value
  form_made s table named (tree.simple form) = simple_made s table named form
  form_made s table named (tree.array packed line opened indexes closed of_line element) =
      let found : Judged Indexes = indexes_of s table indexes in
      let now : Table = table_of_indexes table found in
      array_made table found.value (form_of s now element).value (indexes_made s table named indexes)
      (form_made s now (named_more (length table) (length now) s
      (longer_length table now (behind_longer table found.value (indexes_made s table named indexes))) named) element)
  form_made s table named (tree.record_type packed line found semicolon end) =
      record_made table (groups_of s table found).value (groups_made s table named found)
  form_made s table named (tree.file packed line of_line component) =
      file_made table (form_of s table component).value (form_made s table named component)

  groups_made : (s : Scopes) (table : Table) → AreNamed (length table) s → (found : Fields)
      → IsGrouped table (groups_of s table found).value
  groups_made s table named (tree.first_fields idents colon form) =
      group_made table (spellings_of idents) (no_fields table).value (form_of s table form).value (longer_same table)
      (form_made s table named form)
  groups_made s table named (tree.more_fields before line idents colon form) =
      let found : Judged Group = groups_of s table before in
      let now : Table = table_of_fields table found in
      group_made table (spellings_of idents) found.value (form_of s now form).value (groups_made s table named before)
      (form_made s now (named_more (length table) (length now) s
      (longer_length table now (fields_longer table found.value (groups_made s table named before))) named) form)

-- scopes of the program
pub named_outer : (outer : Outer) → AreThere (length outer.types) outer.names
    → AreNamed (length outer.types) (program_scopes outer)
named_outer outer h = record {
  each = λ name. there_or (length outer.types) (entity_in outer.names name) (entity_in required name)
      (there_in (length outer.types) outer.names name h)
      (there_in (length outer.types) required name (required_there (length outer.types)));
}

-- scopes of a routine
pub named_routine : (rows : ℕ) (outer : Outer) (inner : Inner) → AreThere rows outer.names → AreThere rows inner.names
    → AreNamed rows (routine_scopes outer inner)
named_routine rows outer inner h k = record {
  each = λ name. there_or rows (entity_in inner.names name)
      (or_else (entity_in outer.names name) (entity_in required name)) (there_in rows inner.names name k)
      (there_or rows (entity_in outer.names name) (entity_in required name) (there_in rows outer.names name h)
      (there_in rows required name (required_there rows)));
}

pub together_longer : (table later : Table) (variables : List Variable) → Longer table later
    → AreTyped (length table) variables → cells_together later variables ≡ cells_together table variables
together_longer table later variables h k =
    ap (λ (t : Table). cells_together t variables) h.is ∙ together_stay table h.more variables k

pub counted_name : (outer : Outer) (cells : ℕ) (named : Named) → IsThere (length outer.types) named.entity
    → IsHeld (length outer.types) named.entity
    → IsCounted outer cells → IsCounted (record outer { names = outer.names ++ named ∷ [] }) cells
counted_name outer cells named there held h = record {
  names = there_append (length outer.types) outer.names (named ∷ []) h.names (there, tt);
  slots = held_append (length outer.types) outer.names (named ∷ []) h.slots (held, tt);
  files = h.files;
  globals = h.globals;
  cells_are = h.cells_are;
}

pub constant_there : (rows : ℕ) (value : Option ConstantValue) → IsThere rows (constant_meant value)
constant_there rows None = tt
constant_there rows (Some value) = tt

pub constant_held : (rows : ℕ) (value : Option ConstantValue) → IsHeld rows (constant_meant value)
constant_held rows None = tt
constant_held rows (Some value) = tt

-- a longer table
pub counted_longer : (outer : Outer) (cells : ℕ) (later : Table) → Longer outer.types later → IsCounted outer cells
    → IsCounted (record outer { types = later }) cells
counted_longer outer cells later longer h =
    let less = longer_length outer.types later longer in
    record {
      names = all_there_more (length outer.types) (length later) outer.names less h.names;
      slots = all_held_more (length outer.types) (length later) outer.names less h.slots;
      files = longer.filed h.files;
      globals = typed_more (length outer.types) (length later) outer.globals less h.globals;
      cells_are = h.cells_are ∙ ap counted (sym (together_longer outer.types later outer.globals longer h.globals));
    }

pub counted_type : (outer : Outer) (cells : ℕ) (name : List ℕ) (found : Option Made) → IsMade outer.types found
    → IsCounted outer cells
    → IsCounted (with_name name (known (λ what. type what.type) found)
    (record outer { types = types_behind outer.types found })) cells
counted_type outer cells name None made h = counted_name outer cells (names name unclear) tt tt h
counted_type outer cells name (Some found) made h =
    counted_name (record outer { types = found.table }) cells (names name (type found.type)) made.1 tt
    (counted_longer outer cells found.table made.0 h)

-- how many cells variables of one type have
variables_together : (table : Table) (mode : Mode) (found : PasType) (spellings : List (List ℕ))
    → cells_together table (variables_of mode found spellings)
    ≡ length spellings * cells_of_variable table mode found
variables_together table mode found [] = omega arith
variables_together table mode found (name ∷ spellings) =
    sum_by-cons (λ (each : Variable). cells_of_variable table each.mode each.type)
    (record { name = name; mode = mode; type = found }) (variables_of mode found spellings)
    ∙ (ap (λ (n : ℕ). cells_of_variable table mode found + n) (variables_together table mode found spellings)
    ∙ more (length spellings) (cells_of_variable table mode found))
  where
    more : (n c : ℕ) → c + n * c ≡ suc n * c
    more n c = omega arith

counted_sum : (c n e cells each : ℕ) → cells ≡ counted c → counted e ≡ each
    → counted (c + n * e) ≡ counted (cells + n * each)
counted_sum c n e cells each is also =
    let one : counted (n * e) ≡ counted (counted n * each) = counted-mul n e (counted n) each _ refl also refl in
    let fits : counted each ≡ each = omega (arith, also) in
    let two : counted (n * each) ≡ counted (counted n * each) = counted-mul n each (counted n) each _ refl fits refl in
    counted-add c (n * e) cells (counted (n * e)) (sym is) refl
    ∙ (ap (λ (m : ℕ). counted (cells + m)) (one ∙ sym two)
    ∙ counted_once cells (n * each))
  where
    counted_once : (a b : ℕ) → counted (a + counted b) ≡ counted (a + b)
    counted_once a b = omega arith

pub together_by : (table : Table) (variables : List Variable) (mode : Mode) (found : PasType)
    (spellings : List (List ℕ)) (cells each : ℕ) → cells ≡ counted (cells_together table variables)
    → counted (cells_of_variable table mode found) ≡ each
    → counted (cells_together table (variables ++ variables_of mode found spellings))
    ≡ counted (cells + length spellings * each)
together_by table variables mode found spellings cells each is also =
    ap counted (sum_by-append (λ (each : Variable). cells_of_variable table each.mode each.type) variables
    (variables_of mode found spellings)
    ∙ ap (λ (n : ℕ). cells_together table variables + n) (variables_together table mode found spellings))
    ∙ counted_sum (cells_together table variables) (length spellings) (cells_of_variable table mode found) cells each
    is also

pub together_with : (table : Table) (globals : List Variable) (found : PasType) (spellings : List (List ℕ))
    (cells each : ℕ) → cells ≡ counted (cells_together table globals) → counted (cells_of table found) ≡ each
    → counted (cells_together table (globals ++ variables_of declared found spellings))
    ≡ counted (cells + length spellings * each)
together_with table globals found spellings cells each is also =
    together_by table globals declared found spellings cells each is also
