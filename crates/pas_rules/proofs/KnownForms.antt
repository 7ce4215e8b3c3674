-- Constants and type expressions that show no fault are known, where no name is unclear.
use Rattle.std.proofs.Common.{◌≡◌, refl, ℕ, ◌+◌, ◌<◌, arith, Bool, true, false, List, [], ◌∷◌, ◌++◌, length, Option}
use Rattle.std.proofs.Common.{Some, None, IfSome, IsSome}
use Rattle.std.proofs.lemmas.List.{length-append}
use Rattle.std.specs.Prelude.{if◌then◌else◌, codes, flat_map}
use Rattle.std.specs.Str.{bytes_eq}
use Rattle.wb_base.specs.declared.faults.TheConstants.{UNKNOWN_NAME, WRONG_TYPE, STRINGS_OUTSIDE_WRITE, REAL_NUMBERS}
use Rattle.pas_tokens.specs.declared.kinds.Kind.TheVariants as k
use Rattle.pas_tokens.specs.Cutting.{Wrong, wrong}
use Rattle.pas_syntax.specs.Tree as tree
use Rattle.pas_syntax.specs.Tree.{Behind, Lined, Ident, Separated, Constant, Simple, TypeForm, Fields, LeftOutType}
use Rattle.pas_syntax.specs.declared.operators.Sign.{Sign}
use Rattle.pas_syntax.specs.Parse.{left_out}
use Rattle.pas_syntax.specs.Words.{at, constant_words, simple_words, type_words}
use Rattle.pas_syntax.specs.Words.{fields_words, left_out_type_words, separated, maybe, idents_words}
use Rattle.pas_typed.specs.Types.{PasType, Table, Made, made, fields}
use Rattle.pas_rules.specs.Marks.{Marks, shows, quiet, no_token, joined, Judged, known, both, kept_by, checked_by}
use Rattle.pas_rules.specs.Marks.{checked, noted, faults_if, means, refuses}
use Rattle.pas_rules.specs.Scopes as scope
use Rattle.pas_rules.specs.Scopes.{Entity, Scopes, entity_of, spellings_of, new_names}
use Rattle.pas_rules.specs.TypeForms as spec
use Rattle.pas_rules.specs.TypeForms.{ConstantValue, Indexes, Group, constant_of, simple_of, form_of, groups_of}
use Rattle.pas_rules.proofs.TypesAsMany.{constant_many, simple_many}
use Rattle.pas_rules.proofs.CleanLemmas.{Each, IsClean, joined_clean, at_last_clean, at_last_none, some_fault}
use Rattle.pas_rules.proofs.HeldWords.{AreHeld, held_before, held_behind, held_next}

abbrev pub Known : {A : Type 0} → Judged A → Type 0
Known part = IsClean part.marks → IsSome part.value

pub made_known : {A B : Type 0} (make : A → B) (value : Option A) → IsSome value → IsSome (known make value)
made_known make None h = h
made_known make (Some value) h = refl

pub both_known : {A B C : Type 0} (make : A → B → C) (one : Option A) (other : Option B) → IsSome one → IsSome other
    → IsSome (both make one other)
both_known make None other h k = absurd (cc)
both_known make (Some one) None h k = absurd (cc)
both_known make (Some one) (Some other) h k = refl

pub checked_known : {A : Type 0} (demand : A → List Wrong) (marks : Marks) (value : Option A)
    → 0 < length marks.tokens → (IsClean marks → IsSome value) → IsClean (checked_by demand marks value).marks
    → IsSome (checked_by demand marks value).value
checked_known demand marks None some h clean = h clean
checked_known demand marks (Some value) some h clean = by_faults (demand value) clean
  where
    by_faults : (faults : List Wrong) → IsClean (kept_by marks value faults).marks
        → IsSome (kept_by marks value faults).value
    by_faults [] clean = refl
    by_faults (refusal ∷ more) clean = some_fault refusal more (at_last_none (refusal ∷ more) marks some clean)

pub noted_known : {A : Type 0} (demand : A → List Wrong) (part : Judged A) → Known part → Known (noted demand part)
noted_known demand part h clean = h (at_last_clean (faults_if demand part.value) part.marks clean)

refused : {A : Type 0} (refusal : Wrong) → IsClean (shows (refusal ∷ [])) → A
refused refusal clean = some_fault refusal [] clean.still.0

-- a name that is not unclear
abbrev pub is_unclear : Entity → Bool
is_unclear scope.unclear = true
is_unclear entity = false

abbrev pub IsPlain : Entity → Type 0
IsPlain entity = is_unclear entity ≡ false

abbrev pub ArePlain : Scopes → Type 0
ArePlain scopes = (name : List ℕ) → IfSome (entity_of scopes name) IsPlain

-- a part of Pascal that is left out
pub left_out_held : {A : Type 0} (n : ℕ) (form : LeftOutType) → AreHeld (left_out_type_words n form) → A
left_out_held n (tree.enumeration line) held = absurd (cc)
left_out_held n (tree.set line) held = absurd (cc)
left_out_held n (tree.pointer line) held = absurd (cc)

-- constants
entity_token : (entity : Option Entity) → 0 < length (spec.as_constant entity).marks.tokens
entity_token None = omega arith
entity_token (Some (scope.constant base value)) = omega arith
entity_token (Some (scope.type found)) = omega arith
entity_token (Some (scope.variable found)) = omega arith
entity_token (Some (scope.routine number)) = omega arith
entity_token (Some (scope.function found)) = omega arith
entity_token (Some (scope.file_test found)) = omega arith
entity_token (Some (scope.file_step found)) = omega arith
entity_token (Some (scope.procedure found)) = omega arith
entity_token (Some scope.unclear) = omega arith

as_constant_known : (entity : Option Entity) → IfSome entity IsPlain → Known (spec.as_constant entity)
as_constant_known None h clean = refused (wrong UNKNOWN_NAME) clean
as_constant_known (Some (scope.constant base value)) h clean = refl
as_constant_known (Some (scope.type found)) h clean = refused (wrong WRONG_TYPE) clean
as_constant_known (Some (scope.variable found)) h clean = refused (wrong WRONG_TYPE) clean
as_constant_known (Some (scope.routine number)) h clean = refused (wrong WRONG_TYPE) clean
as_constant_known (Some (scope.function found)) h clean = refused (wrong WRONG_TYPE) clean
as_constant_known (Some (scope.file_test found)) h clean = refused (wrong WRONG_TYPE) clean
as_constant_known (Some (scope.file_step found)) h clean = refused (wrong WRONG_TYPE) clean
as_constant_known (Some (scope.procedure found)) h clean = refused (wrong WRONG_TYPE) clean
as_constant_known (Some scope.unclear) h clean = absurd (cc)

sign_known : (lead : Option (Lined Sign)) (found : Judged ConstantValue) → 0 < length found.marks.tokens → Known found
    → Known (spec.behind_sign lead found)
sign_known None found some h clean = h clean
sign_known (Some lead) found some h clean =
    let number : Judged ConstantValue = checked spec.integer_only found in
    made_known (spec.with_sign lead.item) number.value
    (checked_known spec.integer_only found.marks found.value some h
    (joined_clean (quiet ∷ number.marks ∷ []) clean).1.0)

char_known : (bytes : List ℕ) → Known (spec.char_in bytes)
char_known [] clean = refused (left_out STRINGS_OUTSIDE_WRITE) clean
char_known (byte ∷ []) clean = refl
char_known (byte ∷ (next ∷ bytes)) clean = refused (left_out STRINGS_OUTSIDE_WRITE) clean

pub constant_known : (scopes : Scopes) → ArePlain scopes → (found : Constant) → Known (constant_of scopes found)
constant_known scopes plain (tree.number lead numeral) clean =
    sign_known lead (means _) (omega arith) (λ any. refl) clean
constant_known scopes plain (tree.named lead ident) clean =
    sign_known lead (spec.as_constant (entity_of scopes ident.name)) (entity_token (entity_of scopes ident.name))
    (as_constant_known (entity_of scopes ident.name) (plain ident.name)) clean
constant_known scopes plain (tree.text quoted) clean = char_known (spec.undoubled quoted.text) clean

-- names of types
abbrev unnamed : Bool → Judged PasType
unnamed is_real = if is_real then refuses (left_out REAL_NUMBERS) else refuses (wrong UNKNOWN_NAME)

unnamed_never : (is_real : Bool) → Known (unnamed is_real)
unnamed_never true clean = refused (left_out REAL_NUMBERS) clean
unnamed_never false clean = refused (wrong UNKNOWN_NAME) clean

as_type_known : (name : List ℕ) (entity : Option Entity) → IfSome entity IsPlain → Known (spec.as_type name entity)
as_type_known name None h clean = unnamed_never (bytes_eq name (codes "real")) clean
as_type_known name (Some (scope.type found)) h clean = refl
as_type_known name (Some (scope.constant base value)) h clean = refused (wrong WRONG_TYPE) clean
as_type_known name (Some (scope.variable found)) h clean = refused (wrong WRONG_TYPE) clean
as_type_known name (Some (scope.routine number)) h clean = refused (wrong WRONG_TYPE) clean
as_type_known name (Some (scope.function found)) h clean = refused (wrong WRONG_TYPE) clean
as_type_known name (Some (scope.file_test found)) h clean = refused (wrong WRONG_TYPE) clean
as_type_known name (Some (scope.file_step found)) h clean = refused (wrong WRONG_TYPE) clean
as_type_known name (Some (scope.procedure found)) h clean = refused (wrong WRONG_TYPE) clean
as_type_known name (Some scope.unclear) h clean = absurd (cc)

constant_some : (n : ℕ) (found : Constant) → 0 < length (constant_words n found)
constant_some n (tree.number None numeral) = omega arith
constant_some n (tree.number (Some lead) numeral) = omega arith
constant_some n (tree.named None ident) = omega arith
constant_some n (tree.named (Some lead) ident) = omega arith
constant_some n (tree.text quoted) = omega arith

simple_some : (n : ℕ) (s : Simple) → 0 < length (simple_words n s)
simple_some n (tree.simple_named ident) = omega arith
simple_some n (tree.range low line high) =
    omega (arith, length-append (constant_words n low) (at n k.Dots line ∷ constant_words n high))
simple_some n (tree.no_simple (tree.enumeration line)) = omega arith
simple_some n (tree.no_simple (tree.set line)) = omega arith
simple_some n (tree.no_simple (tree.pointer line)) = omega arith

module _ (scopes : Scopes) (plain : ArePlain scopes) where
  pub named_known : (ident : Ident) → Known (spec.type_named scopes ident)
  named_known ident clean = as_type_known ident.name (entity_of scopes ident.name) (plain ident.name) clean

  range_known : (table : Table) (low high : Constant)
      → Known (spec.subrange_of table (constant_of scopes low) (constant_of scopes high))
  range_known table low high clean =
      let found : Judged ConstantValue = constant_of scopes low in
      let next : Judged ConstantValue = constant_of scopes high in
      let upper : Judged ConstantValue = checked (spec.fits_below found.value) next in
      let parts : Each IsClean (found.marks ∷ quiet ∷ upper.marks ∷ []) =
      joined_clean (found.marks ∷ quiet ∷ upper.marks ∷ []) clean in
      made_known _ (both spec.range_between found.value upper.value)
      (both_known spec.range_between found.value upper.value (constant_known scopes plain low parts.0)
      (checked_known (spec.fits_below found.value) next.marks next.value
      (omega (arith, (constant_many scopes 0 high).same, constant_some 0 high)) (constant_known scopes plain high)
      parts.1.1.0))

  simple_known : (table : Table) (n : ℕ) (s : Simple) → AreHeld (simple_words n s) → Known (simple_of scopes table s)
  simple_known table n (tree.simple_named ident) held clean =
      made_known _ (spec.type_named scopes ident).value (named_known ident clean)
  simple_known table n (tree.range low line high) held clean = range_known table low high clean
  simple_known table n (tree.no_simple form) held clean = left_out_held n form held

  -- indexes
  with_index_known : (table rows : Table) (n : ℕ) (separator : Marks) (before : Judged Indexes) (s : Simple)
      → AreHeld (simple_words n s) → Known before → Known (spec.with_index separator before (simple_of scopes rows s))
  with_index_known table rows n separator before s held h clean =
      let index : Judged Made = simple_of scopes rows s in
      let part : Judged Made = checked spec.index_only index in
      let parts : Each IsClean (before.marks ∷ separator ∷ part.marks ∷ []) =
      joined_clean (before.marks ∷ separator ∷ part.marks ∷ []) clean in
      both_known spec.one_more before.value part.value (h parts.0)
      (checked_known spec.index_only index.marks index.value
      (omega (arith, (simple_many scopes rows n s).same, simple_some n s)) (simple_known rows n s held) parts.1.1.0)

  more_indexes_known : (table : Table) (n : ℕ) (before : Judged Indexes) (more : List (Behind Simple))
      → AreHeld (flat_map (λ behind. at n k.Comma behind.line ∷ simple_words n behind.item) more) → Known before
      → Known (spec.more_indexes scopes table before more)
  more_indexes_known table n before [] held h clean = h clean
  more_indexes_known table n before (behind ∷ more) held h clean =
      more_indexes_known table n
      (spec.with_index quiet before (simple_of scopes (spec.table_of_indexes table before) behind.item)) more
      (held_behind (simple_words n behind.item) _ held.1)
      (with_index_known table (spec.table_of_indexes table before) n quiet before behind.item
      (held_before (simple_words n behind.item) _ held.1) h) clean

  indexes_known : (table : Table) (n : ℕ) (indexes : Separated Simple)
      → AreHeld (separated n k.Comma (simple_words n) indexes) → Known (spec.indexes_of scopes table indexes)
  indexes_known table n indexes held clean =
      more_indexes_known table n
      (spec.with_index no_token (spec.no_indexes table) (simple_of scopes table indexes.first)) indexes.more
      (held_behind (simple_words n indexes.first) _ held)
      (with_index_known table table n no_token (spec.no_indexes table) indexes.first
      (held_before (simple_words n indexes.first) _ held) (λ any. refl)) clean

  mutual
    pub form_known : (table : Table) (n : ℕ) (form : TypeForm) → AreHeld (type_words n form)
        → Known (form_of scopes table form)
    form_known table n (tree.simple form) held clean = simple_known table n form held clean
    form_known table n (tree.array packed line opened indexes closed of_line element) held clean =
        let found : Judged Indexes = spec.indexes_of scopes table indexes in
        let rows : Table = spec.table_of_indexes table found in
        let part : Judged Made = noted spec.no_file (form_of scopes rows element) in
        let marks : List Marks =
        spec.maybe_quiet packed ∷ quiet ∷ quiet ∷ found.marks ∷ quiet ∷ quiet ∷ part.marks ∷ [] in
        let value : Option Made =
        both (λ found last. spec.arrays last.table found.ranges last.type) found.value part.value in
        let parts : Each IsClean marks =
        joined_clean marks (at_last_clean (faults_if spec.within_limit value) (joined marks) clean) in
        let inside : AreHeld (separated (n + 2) k.Comma (simple_words (n + 2)) indexes ++ _) =
        (held_behind (maybe n k.Packed packed) _ held).1.1 in
        both_known (λ found last. spec.arrays last.table found.ranges last.type) found.value part.value
        (indexes_known table (n + 2) indexes
        (held_before (separated (n + 2) k.Comma (simple_words (n + 2)) indexes) _ inside) parts.1.1.1.0)
        (noted_known spec.no_file (form_of scopes rows element)
        (form_known rows (n + 1) element
        (held_behind (separated (n + 2) k.Comma (simple_words (n + 2)) indexes) _ inside).1.1)
        parts.1.1.1.1.1.1.0)
    form_known table n (tree.record_type packed line found semicolon end) held clean =
        let group : Judged Group = groups_of scopes table found in
        let marks : List Marks =
        spec.maybe_quiet packed ∷ quiet ∷ group.marks ∷ spec.maybe_quiet semicolon ∷ quiet ∷ [] in
        let value : Option Made = known (λ found. made found.table (fields found.fields)) group.value in
        made_known _ group.value
        (groups_known table (n + 1) found
        (held_before (fields_words (n + 1) found) _ (held_behind (maybe n k.Packed packed) _ held).1)
        (joined_clean marks (at_last_clean (faults_if spec.within_limit value) (joined marks) clean)).1.1.0)
    form_known table n (tree.file packed line of_line component) held clean =
        let found : Judged Made = form_of scopes table component in
        let part : Judged Made = noted spec.component_only found in
        made_known _ found.value
        (noted_known spec.component_only found
        (form_known table (n + 1) component (held_behind (maybe n k.Packed packed) _ held).1.1)
        (joined_clean (spec.maybe_quiet packed ∷ quiet ∷ quiet ∷ part.marks ∷ []) clean).1.1.1.0)

    pub groups_known : (table : Table) (n : ℕ) (found : Fields) → AreHeld (fields_words n found)
        → Known (groups_of scopes table found)
    groups_known table n (tree.first_fields idents colon form) held clean =
        let found : Judged Made = form_of scopes table form in
        let part : Judged Made = noted spec.no_file found in
        both_known (spec.with_fields (spellings_of idents)) (Some (record { fields = []; table = table })) found.value
        refl
        (noted_known spec.no_file found
        (form_known table n form (held_next (idents_words n idents) _ (type_words n form) held))
        (joined_clean (no_token ∷ no_token ∷ new_names [] idents ∷ quiet ∷ part.marks ∷ []) clean).1.1.1.1.0)
    groups_known table n (tree.more_fields before line idents colon form) held clean =
        let group : Judged Group = groups_of scopes table before in
        let rows : Table = spec.table_of_fields table group in
        let found : Judged Made = form_of scopes rows form in
        let part : Judged Made = noted spec.no_file found in
        let parts : Each IsClean (group.marks ∷ quiet ∷ new_names (spec.field_names before) idents ∷ quiet
        ∷ part.marks ∷ []) =
        joined_clean (group.marks ∷ quiet ∷ new_names (spec.field_names before) idents ∷ quiet ∷ part.marks ∷ [])
        clean in
        both_known (spec.with_fields (spellings_of idents)) group.value found.value
        (groups_known table n before (held_before (fields_words n before) _ held) parts.0)
        (noted_known spec.no_file found
        (form_known rows n form
        (held_next (idents_words n idents) _ (type_words n form)
        (held_next (fields_words n before) _ _ held))) parts.1.1.1.1.0)
