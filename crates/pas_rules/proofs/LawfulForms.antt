-- What type expressions make that show no fault: lawful rows behind those that were there.
use Rattle.std.proofs.Common.{◌≡◌, refl, ap, subst, ℕ, ◌<◌, ◌≤◌, arith, le_trans, Bool, true, false}
use Rattle.std.proofs.Common.{List}
use Rattle.std.proofs.Common.{[], ◌∷◌, ◌++◌, length, map, Option, Some, None, IfSome}
use Rattle.std.proofs.lemmas.List.{length-append}
use Rattle.std.proofs.lemmas.Option.{IfSome_then}
use Rattle.std.proofs.lemmas.List.Elements.{All-from_recursion}
use Rattle.std.specs.Prelude.{if◌then◌else◌, unwrap_or, option_map, codes}
use Rattle.std.specs.Str.{bytes_eq}
use Rattle.wb_base.specs.declared.faults.TheConstants.{FILE_RULE, UNKNOWN_NAME, REAL_NUMBERS}
use Rattle.pas_tokens.specs.declared.kinds.Kind.{Kind}
use Rattle.pas_tokens.specs.declared.kinds.Kind.TheVariants as k
use Rattle.pas_tokens.specs.Cutting.{Wrong, wrong}
use Rattle.pas_syntax.specs.Tree as tree
use Rattle.pas_syntax.specs.Tree.{Behind, Ident, Separated, Simple, TypeForm, Fields}
use Rattle.pas_syntax.specs.Words.{Word, constant_words, type_words, at, maybe}
use Rattle.pas_syntax.specs.Parse.{left_out}
use Rattle.pas_typed.specs.Types as types
use Rattle.pas_typed.specs.Types.{PasType, Range, Field, Structure, Table, Made, made, is_component}
use Rattle.pas_typed.specs.Shapes.{IsAmong, IsLawfulBehind, IsLawfulTable}
use Rattle.pas_typed.proofs.GrowthLemmas.{Stays, stays_behind}
use Rattle.pas_typed.proofs.LongerTables.{IsAmong-more, IsAmong-made, length-made}
use Rattle.pas_typed.proofs.ShapeLemmas.{lawful-made}
use Rattle.pas_rules.specs.Marks.{Marks, quiet, no_token, joined, Judged, refuses, known, both, noted, faults_if}
use Rattle.pas_rules.specs.Marks.{checked}
use Rattle.pas_rules.specs.Scopes as scope
use Rattle.pas_rules.specs.Scopes.{Entity, Scopes, entity_of, spellings_of, new_names}
use Rattle.pas_rules.specs.TypeForms as spec
use Rattle.pas_rules.specs.TypeForms.{Indexes, Group, form_of, groups_of}
use Rattle.pas_rules.proofs.TypesAsMany.{form_many}
use Rattle.pas_rules.proofs.CleanLemmas.{Each, each_then, each_append, IsClean, Lawfully, joined_clean, holds}
use Rattle.pas_rules.proofs.CleanLemmas.{at_last_clean, checked_value, noted_if, known_if}
use Rattle.pas_rules.proofs.LawfulScopes.{so_far, IsLawfulEntity, variables_in, AreLawful}

-- rows that were there stay, and all are lawful
pub record IsGrown (earlier later : Table) : Type 0 where
  pub rows : Stays earlier later
  pub longer : length earlier ≤ length later
  pub lawful : IsLawfulTable later

pub grown_same : (table : Table) → IsLawfulTable table → IsGrown table table
grown_same table lawful = record {
  rows = record { each = λ number row there. there };
  longer = omega arith;
  lawful = lawful;
}

pub grown_on : {earlier table later : Table} → IsGrown earlier table → IsGrown table later → IsGrown earlier later
grown_on h k = record {
  rows = record { each = λ number row there. k.rows.each number row (h.rows.each number row there) };
  longer = le_trans h.longer k.longer;
  lawful = k.lawful;
}

-- a type that is made behind rows
pub record IsMade (earlier : Table) (found : Made) : Type 0 where
  pub grown : IsGrown earlier found.table
  pub there : IsAmong (length found.table) found.type

pub made_lawful : (earlier table : Table) (structure : Structure) → IsGrown earlier table
    → IsLawfulBehind table structure → IsMade earlier (made table structure)
made_lawful earlier table structure grown lawful = record {
  grown = grown_on grown (record {
    rows = stays_behind table _;
    longer = omega (arith, length-made table structure);
    lawful = lawful-made table structure grown.lawful lawful;
  });
  there = IsAmong-made table structure;
}

-- arrays of arrays
pub arrays_lawful : (earlier table : Table) (ranges : List Range) (element : PasType) → IsGrown earlier table
    → IsAmong (length table) element → IsMade earlier (spec.arrays table ranges element)
arrays_lawful earlier table [] element grown there = record { grown = grown; there = there }
arrays_lawful earlier table (range ∷ ranges) element grown there =
    let inner : Made = spec.arrays table ranges element in
    let is : IsMade earlier inner = arrays_lawful earlier table ranges element grown there in
    made_lawful earlier inner.table (types.array range inner.type) is.grown is.there

-- a part that shows more at its end
noted_only : {A : Type 0} (P : A → Type 0) (demand : A → List Wrong) (part : Judged A) → Lawfully P part
    → Lawfully P (noted demand part)
noted_only P demand part h clean = h (at_last_clean (faults_if demand part.value) part.marks clean)

-- a type expression has words
maybe_some : (n : ℕ) (kind : Kind) (line : Option ℕ) (word : Word) (more : List Word)
    → 0 < length (maybe n kind line ++ word ∷ more)
maybe_some n kind None word more = omega arith
maybe_some n kind (Some line) word more = omega arith

form_some : (form : TypeForm) → 0 < length (type_words 0 form)
form_some (tree.simple (tree.simple_named ident)) = omega arith
form_some (tree.simple (tree.range low line high)) =
    omega (arith, length-append (constant_words 0 low) (at 0 k.Dots line ∷ constant_words 0 high))
form_some (tree.simple (tree.no_simple (tree.enumeration line))) = omega arith
form_some (tree.simple (tree.no_simple (tree.set line))) = omega arith
form_some (tree.simple (tree.no_simple (tree.pointer line))) = omega arith
form_some (tree.array packed line opened indexes closed of_line element) = maybe_some 0 k.Packed packed _ _
form_some (tree.record_type packed line fields semicolon end) = maybe_some 0 k.Packed packed _ _
form_some (tree.file packed line of_line element) = maybe_some 0 k.Packed packed _ _

form_words : (scopes : Scopes) (table : Table) (form : TypeForm)
    → 0 < length (form_of scopes table form).marks.tokens
form_words scopes table form = omega (arith, (form_many scopes table 0 form).same, form_some form)

module _ (scopes : Scopes) (lawful : AreLawful scopes) where
  abbrev IsType : PasType → Type 0
  IsType found = IsAmong (length scopes.outer.types) found

  unnamed : (is_real : Bool)
      → IfSome (if is_real then refuses (left_out REAL_NUMBERS) else refuses (wrong UNKNOWN_NAME)).value IsType
  unnamed true = tt
  unnamed false = tt

  as_type_lawful : (name : List ℕ) (entity : Option Entity)
      → IfSome entity (IsLawfulEntity (so_far scopes.outer) (variables_in scopes.inner))
      → IfSome (spec.as_type name entity).value IsType
  as_type_lawful name None h = unnamed (bytes_eq name (codes "real"))
  as_type_lawful name (Some (scope.constant base value)) h = tt
  as_type_lawful name (Some (scope.type found)) h = h
  as_type_lawful name (Some (scope.variable found)) h = tt
  as_type_lawful name (Some (scope.routine number)) h = tt
  as_type_lawful name (Some (scope.function found)) h = tt
  as_type_lawful name (Some (scope.file_test found)) h = tt
  as_type_lawful name (Some (scope.file_step found)) h = tt
  as_type_lawful name (Some (scope.procedure found)) h = tt
  as_type_lawful name (Some scope.unclear) h = tt

  pub named_lawful : (ident : Ident) → IfSome (spec.type_named scopes ident).value IsType
  named_lawful ident =
      as_type_lawful ident.name (entity_of scopes ident.name) (lawful.names ident.name)

  any_range : (table : Table) (range : Option Range) → IsLawfulTable table
      → IfSome (known (λ range. made table (types.subrange range)) range) (IsMade table)
  any_range table None is = tt
  any_range table (Some range) is = made_lawful table table (types.subrange range) (grown_same table is) tt

  -- behind these rows, among which the types of the names are
  abbrev pub From : Table → Type 0
  From table = IsGrown scopes.outer.types table

  simple_lawful : (table : Table) → From table → (s : Simple)
      → IfSome (spec.simple_of scopes table s).value (IsMade table)
  simple_lawful table from (tree.simple_named ident) =
      known_if IsType (IsMade table) (λ found. record { type = found; table = table })
      (spec.type_named scopes ident).value
      (λ found is. record {
        grown = grown_same table from.lawful;
        there = IsAmong-more (length scopes.outer.types) (length table) found from.longer is;
      })
      (named_lawful ident)
  simple_lawful table from (tree.range low line high) =
      let found : Judged spec.ConstantValue = spec.constant_of scopes low in
      let upper : Judged spec.ConstantValue = checked (spec.fits_below found.value) (spec.constant_of scopes high) in
      any_range table (both spec.range_between found.value upper.value) from.lawful
  simple_lawful table from (tree.no_simple form) = tt

  -- indexes
  abbrev pub AreIndexes : Table → Indexes → Type 0
  AreIndexes table found = IsGrown table found.table

  one_more_lawful : (table : Table) (before : Option Indexes) (index : Option Made) → IfSome before (AreIndexes table)
      → ((found : Indexes) → before ≡ Some found → IfSome index (IsMade found.table))
      → IfSome (both spec.one_more before index) (AreIndexes table)
  one_more_lawful table None None h k = tt
  one_more_lawful table None (Some index) h k = tt
  one_more_lawful table (Some before) None h k = tt
  one_more_lawful table (Some before) (Some index) h k = grown_on h (k before refl).grown

  abbrev behind_indexes : Table → Option Indexes → Table
  behind_indexes table value = unwrap_or (option_map (λ found. found.table) value) table

  behind_grown : (table : Table) (value : Option Indexes) → From table → IfSome value (AreIndexes table)
      → From (behind_indexes table value)
  behind_grown table None from h = from
  behind_grown table (Some found) from h = grown_on from h

  index_made : (table : Table) (value : Option Indexes) (s : Simple) (found : Indexes) → value ≡ Some found
      → From (behind_indexes table value)
      → IfSome (checked spec.index_only (spec.simple_of scopes (behind_indexes table value) s)).value
      (IsMade found.table)
  index_made table value s found is from =
      subst (λ rows. IfSome (checked spec.index_only (spec.simple_of scopes (behind_indexes table value) s)).value
      (IsMade rows)) (ap (behind_indexes table) is)
      (IfSome_then (checked spec.index_only (spec.simple_of scopes (behind_indexes table value) s)).value
      (checked_value (IsMade (behind_indexes table value)) spec.index_only _
      (spec.simple_of scopes (behind_indexes table value) s).value
      (simple_lawful (behind_indexes table value) from s)) (λ made is. is.0))

  with_index_lawful : (table : Table) (separator : Marks) (before : Judged Indexes) (s : Simple) → From table
      → Lawfully (AreIndexes table) before
      → Lawfully (AreIndexes table)
      (spec.with_index separator before (spec.simple_of scopes (spec.table_of_indexes table before) s))
  with_index_lawful table separator before s from h clean =
      let part : Judged Made =
      checked spec.index_only (spec.simple_of scopes (spec.table_of_indexes table before) s) in
      let is : IfSome before.value (AreIndexes table) =
      h (joined_clean (before.marks ∷ separator ∷ part.marks ∷ []) clean).0 in
      one_more_lawful table before.value part.value is
      (λ found there. index_made table before.value s found there (behind_grown table before.value from is))

  more_indexes_lawful : (table : Table) (before : Judged Indexes) (more : List (Behind Simple)) → From table
      → Lawfully (AreIndexes table) before
      → Lawfully (AreIndexes table) (spec.more_indexes scopes table before more)
  more_indexes_lawful table before [] from h clean = h clean
  more_indexes_lawful table before (behind ∷ more) from h clean =
      more_indexes_lawful table
      (spec.with_index quiet before (spec.simple_of scopes (spec.table_of_indexes table before) behind.item)) more from
      (with_index_lawful table quiet before behind.item from h) clean

  indexes_lawful : (table : Table) (indexes : Separated Simple) → From table
      → Lawfully (AreIndexes table) (spec.indexes_of scopes table indexes)
  indexes_lawful table indexes from clean =
      more_indexes_lawful table
      (spec.with_index no_token (spec.no_indexes table) (spec.simple_of scopes table indexes.first)) indexes.more from
      (with_index_lawful table no_token (spec.no_indexes table) indexes.first from
      (λ any. grown_same table from.lawful)) clean

  -- groups of fields
  abbrev AreFields : Table → List Field → Type 0
  AreFields table found = Each (λ field. IsAmong (length table) field.type) found

  pub record IsGroup (table : Table) (found : Group) : Type 0 where
    pub grown : IsGrown table found.table
    pub fields : AreFields found.table found.fields

  fields_longer : (table later : Table) (found : List Field) → length table ≤ length later → AreFields table found
      → AreFields later found
  fields_longer table later found longer h =
      each_then (λ field. IsAmong (length table) field.type) (λ field. IsAmong (length later) field.type) found
      (λ field is. IsAmong-more (length table) (length later) field.type longer is) h

  new_fields : (table : Table) (type : PasType) (names : List (List ℕ)) → IsAmong (length table) type
      → AreFields table (map (λ name. record { name = name; type = type }) names)
  new_fields table type [] is = tt
  new_fields table type (name ∷ names) is = (is, new_fields table type names is)

  with_fields_lawful : (table : Table) (names : List (List ℕ)) (before : Option Group) (found : Option Made)
      → IfSome before (IsGroup table) → ((group : Group) → before ≡ Some group → IfSome found (IsMade group.table))
      → IfSome (both (spec.with_fields names) before found) (IsGroup table)
  with_fields_lawful table names None None h k = tt
  with_fields_lawful table names None (Some found) h k = tt
  with_fields_lawful table names (Some before) None h k = tt
  with_fields_lawful table names (Some before) (Some found) h k = record {
    grown = grown_on h.grown (k before refl).grown;
    fields = each_append (λ field. IsAmong (length found.table) field.type) before.fields
        (map (λ name. record { name = name; type = found.type }) names)
        (fields_longer before.table found.table before.fields (k before refl).grown.longer h.fields)
        (new_fields found.table found.type names (k before refl).there);
  }

  abbrev behind_group : Table → Option Group → Table
  behind_group table value = unwrap_or (option_map (λ found. found.table) value) table

  behind_group_grown : (table : Table) (value : Option Group) → From table → IfSome value (IsGroup table)
      → From (behind_group table value)
  behind_group_grown table None from h = from
  behind_group_grown table (Some found) from h = grown_on from h.grown

  record_lawful : (table : Table) (group : Option Group) → IfSome group (IsGroup table)
      → IfSome (known (λ found. made found.table (types.fields found.fields)) group) (IsMade table)
  record_lawful table None h = tt
  record_lawful table (Some found) h =
      made_lawful table found.table (types.fields found.fields) h.grown
      (All-from_recursion (λ field. IsAmong (length found.table) field.type) found.fields h.fields)

  arrays_by : (table : Table) (indexes : Option Indexes) (element : Option Made) → IfSome indexes (AreIndexes table)
      → ((found : Indexes) → indexes ≡ Some found → IfSome element (IsMade found.table))
      → IfSome (both (λ found last. spec.arrays last.table found.ranges last.type) indexes element) (IsMade table)
  arrays_by table None None h k = tt
  arrays_by table None (Some element) h k = tt
  arrays_by table (Some indexes) None h k = tt
  arrays_by table (Some indexes) (Some element) h k =
      arrays_lawful table element.table indexes.ranges element.type (grown_on h (k indexes refl).grown)
      (k indexes refl).there

  file_by : (table : Table) (component : Option Made)
      → IfSome component (λ found. IsMade table found × (spec.component_only found ≡ []))
      → IfSome (known (λ found. made found.table (types.file found.type)) component) (IsMade table)
  file_by table None h = tt
  file_by table (Some found) h =
      made_lawful table found.table (types.file found.type) h.0.grown
      (holds (is_component found.table found.type) (wrong FILE_RULE) h.1)

  -- a type that is known behind the rows of a part before it
  moved : (earlier table : Table) (value : Option Made) → earlier ≡ table → IfSome value (IsMade earlier)
      → IfSome value (IsMade table)
  moved earlier table value is h = subst (λ rows. IfSome value (IsMade rows)) is h

  mutual
    pub form_lawful : (table : Table) → From table → (form : TypeForm)
        → Lawfully (IsMade table) (form_of scopes table form)
    form_lawful table from (tree.simple form) clean = simple_lawful table from form
    form_lawful table from (tree.array packed line opened indexes closed of_line element) clean =
        let found : Judged Indexes = spec.indexes_of scopes table indexes in
        let rows : Table = spec.table_of_indexes table found in
        let part : Judged Made = noted spec.no_file (form_of scopes rows element) in
        let marks : Marks = joined (spec.maybe_quiet packed ∷ quiet ∷ quiet ∷ found.marks ∷ quiet ∷ quiet
        ∷ part.marks ∷ []) in
        let value : Option Made =
        both (λ found last. spec.arrays last.table found.ranges last.type) found.value part.value in
        let parts : Each IsClean (spec.maybe_quiet packed ∷ quiet ∷ quiet ∷ found.marks ∷ quiet ∷ quiet
        ∷ part.marks ∷ []) =
        joined_clean (spec.maybe_quiet packed ∷ quiet ∷ quiet ∷ found.marks ∷ quiet ∷ quiet ∷ part.marks ∷ [])
        (at_last_clean (faults_if spec.within_limit value) marks clean) in
        let is : IfSome found.value (AreIndexes table) = indexes_lawful table indexes from parts.1.1.1.0 in
        let at_rows : From rows = behind_grown table found.value from is in
        arrays_by table found.value part.value is
        (λ indexes there. moved rows indexes.table part.value (ap (behind_indexes table) there)
        (noted_only (IsMade rows) spec.no_file (form_of scopes rows element) (form_lawful rows at_rows element)
        parts.1.1.1.1.1.1.0))
    form_lawful table from (tree.record_type packed line found semicolon end) clean =
        let group : Judged Group = groups_of scopes table found in
        let value : Option Made = known (λ found. made found.table (types.fields found.fields)) group.value in
        let marks : Marks = joined (spec.maybe_quiet packed ∷ quiet ∷ group.marks ∷ spec.maybe_quiet semicolon ∷ quiet
        ∷ []) in
        record_lawful table group.value
        (groups_lawful table from found
        (joined_clean (spec.maybe_quiet packed ∷ quiet ∷ group.marks ∷ spec.maybe_quiet semicolon ∷ quiet ∷ [])
        (at_last_clean (faults_if spec.within_limit value) marks clean)).1.1.0)
    form_lawful table from (tree.file packed line of_line component) clean =
        let found : Judged Made = form_of scopes table component in
        let part : Judged Made = noted spec.component_only found in
        file_by table found.value
        (noted_if (IsMade table) spec.component_only found (form_words scopes table component)
        (form_lawful table from component)
        (joined_clean (spec.maybe_quiet packed ∷ quiet ∷ quiet ∷ part.marks ∷ []) clean).1.1.1.0)

    pub groups_lawful : (table : Table) → From table → (found : Fields)
        → Lawfully (IsGroup table) (groups_of scopes table found)
    groups_lawful table from (tree.first_fields idents colon form) clean =
        let made : Judged Made = form_of scopes table form in
        let part : Judged Made = noted spec.no_file made in
        with_fields_lawful table (spellings_of idents) (Some (record { fields = []; table = table })) made.value
        (record { grown = grown_same table from.lawful; fields = tt })
        (λ group is. moved table group.table made.value (ap (behind_group table) is)
        (noted_only (IsMade table) spec.no_file made (form_lawful table from form)
        (joined_clean (no_token ∷ no_token ∷ new_names [] idents ∷ quiet ∷ part.marks ∷ []) clean).1.1.1.1.0))
    groups_lawful table from (tree.more_fields before line idents colon form) clean =
        let group : Judged Group = groups_of scopes table before in
        let rows : Table = spec.table_of_fields table group in
        let made : Judged Made = form_of scopes rows form in
        let part : Judged Made = noted spec.no_file made in
        let parts : Each IsClean (group.marks ∷ quiet ∷ new_names (spec.field_names before) idents ∷ quiet
        ∷ part.marks ∷ []) =
        joined_clean (group.marks ∷ quiet ∷ new_names (spec.field_names before) idents ∷ quiet ∷ part.marks ∷ [])
        clean in
        let is : IfSome group.value (IsGroup table) = groups_lawful table from before parts.0 in
        let at_rows : From rows = behind_group_grown table group.value from is in
        with_fields_lawful table (spellings_of idents) group.value made.value is
        (λ found there. moved rows found.table made.value (ap (behind_group table) there)
        (noted_only (IsMade rows) spec.no_file made (form_lawful rows at_rows form) parts.1.1.1.1.0))
