-- Constants and type expressions show as many lists of faults as they have words.
use Rattle.std.proofs.Common.{ℕ, ◌+◌, Bool, true, false, List, [], ◌∷◌, ◌++◌}
use Rattle.std.proofs.Common.{pos, Option, Some, None}
use Rattle.std.specs.Prelude.{flat_map, codes, if◌then◌else◌}
use Rattle.std.specs.Str.{bytes_eq}
use Rattle.wb_base.specs.declared.faults.TheConstants.{UNKNOWN_NAME, REAL_NUMBERS}
use Rattle.pas_tokens.specs.declared.kinds.Kind.TheVariants as k
use Rattle.pas_tokens.specs.Cutting.{Wrong, wrong}
use Rattle.pas_syntax.specs.declared.operators.Sign.{Sign}
use Rattle.pas_syntax.specs.Parse.{left_out}
use Rattle.pas_syntax.specs.Tree as tree
use Rattle.pas_syntax.specs.Tree.{Ident, Lined, Behind, Separated, Constant, Simple, TypeForm, Fields}
use Rattle.pas_syntax.specs.Tree.{LeftOutType}
use Rattle.pas_syntax.specs.Words.{Word, at, name_at, number_at, text_at, words_if, separated}
use Rattle.pas_syntax.specs.Words.{sign_kind, constant_sign, constant_words, left_out_type_words, simple_words}
use Rattle.pas_syntax.specs.Words.{type_words, fields_words}
use Rattle.pas_rules.specs.Marks.{Marks, no_token, quiet, joined, Judged, checked, noted}
use Rattle.pas_rules.specs.Marks.{judged, means, refuses, known, both}
use Rattle.pas_typed.specs.Types.{integer, PasType, Table, fields}
use Rattle.pas_rules.specs.Scopes.{Scopes, Entity, constant, variable, routine, function, file_test, file_step}
use Rattle.pas_rules.specs.Scopes.{procedure, unclear, type, entity_of, new_names}
use Rattle.pas_rules.specs.TypeForms.{ConstantValue, known_value, char_in, undoubled, as_constant, integer_only}
use Rattle.pas_rules.specs.TypeForms.{behind_sign, constant_of, as_type, type_named, fits_below}
use Rattle.pas_rules.specs.TypeForms.{simple_of, index_only, Indexes, no_indexes, with_index, table_of_indexes}
use Rattle.pas_rules.specs.TypeForms.{more_indexes, indexes_of, no_file, within_limit, component_only}
use Rattle.pas_rules.specs.TypeForms.{Group, table_of_fields, field_names, form_of}
use Rattle.pas_rules.specs.TypeForms.{groups_of, maybe_quiet, arrays}
use Rattle.pas_rules.proofs.AsMany.{AsMany, none, one, and_then, all, next_word, around, behind_word, before_word}
use Rattle.pas_rules.proofs.AsMany.{checked_many, noted_many, maybe_many, new_names_many, regrouped, nothing_behind}
use Rattle.pas_typed.specs.Types.{Made, made}

-- constants
pub char_many : (word : Word) (bytes : List ℕ) → AsMany (word ∷ []) (char_in bytes).marks
char_many word [] = one word _
char_many word (byte ∷ []) = one word _
char_many word (byte ∷ (next ∷ bytes)) = one word _

constant_named_many : (word : Word) (entity : Option Entity) → AsMany (word ∷ []) (as_constant entity).marks
constant_named_many word None = one word _
constant_named_many word (Some (constant base value)) = one word _
constant_named_many word (Some (type found)) = one word _
constant_named_many word (Some (variable found)) = one word _
constant_named_many word (Some (routine number)) = one word _
constant_named_many word (Some (function found)) = one word _
constant_named_many word (Some (file_test found)) = one word _
constant_named_many word (Some (file_step found)) = one word _
constant_named_many word (Some (procedure found)) = one word _
constant_named_many word (Some unclear) = one word _

sign_many : (n : ℕ) (lead : Option (Lined Sign)) (word : Word) (found : Judged ConstantValue)
    → AsMany (word ∷ []) found.marks
    → AsMany (words_if (constant_sign n) lead ++ word ∷ []) (behind_sign lead found).marks
sign_many n None word found h = h
sign_many n (Some lead) word found h =
    behind_word (at n (sign_kind lead.item) lead.line) (checked integer_only found).marks
    (checked_many integer_only found h)

pub constant_many : (scopes : Scopes) (n : ℕ) (found : Constant)
    → AsMany (constant_words n found) (constant_of scopes found).marks
constant_many scopes n (tree.number lead numeral) =
    sign_many n lead (number_at n numeral) (means (known_value integer (pos numeral.value)))
    (one (number_at n numeral) [])
constant_many scopes n (tree.named lead ident) =
    sign_many n lead (name_at n ident) (as_constant (entity_of scopes ident.name))
    (constant_named_many (name_at n ident) (entity_of scopes ident.name))
constant_many scopes n (tree.text quoted) = char_many (text_at n quoted) (undoubled quoted.text)

-- names of types, and subranges
real_many : (word : Word) (is_real : Bool) → AsMany (word ∷ [])
    (if is_real then refuses {A = PasType} (left_out REAL_NUMBERS) else refuses (wrong UNKNOWN_NAME)).marks
real_many word true = one word _
real_many word false = one word _

type_by_many : (word : Word) (name : List ℕ) (entity : Option Entity) → AsMany (word ∷ []) (as_type name entity).marks
type_by_many word name None = real_many word (bytes_eq name (codes "real"))
type_by_many word name (Some (constant base value)) = one word _
type_by_many word name (Some (type found)) = one word _
type_by_many word name (Some (variable found)) = one word _
type_by_many word name (Some (routine number)) = one word _
type_by_many word name (Some (function found)) = one word _
type_by_many word name (Some (file_test found)) = one word _
type_by_many word name (Some (file_step found)) = one word _
type_by_many word name (Some (procedure found)) = one word _
type_by_many word name (Some unclear) = one word _

pub type_named_many : (scopes : Scopes) (n : ℕ) (ident : Ident)
    → AsMany (name_at n ident ∷ []) (type_named scopes ident).marks
type_named_many scopes n ident = type_by_many (name_at n ident) ident.name (entity_of scopes ident.name)

pub left_out_many : (n : ℕ) (form : LeftOutType) → AsMany (left_out_type_words n form) quiet
left_out_many n (tree.enumeration line) = one _ []
left_out_many n (tree.set line) = one _ []
left_out_many n (tree.pointer line) = one _ []

pub simple_many : (scopes : Scopes) (table : Table) (n : ℕ) (found : Simple)
    → AsMany (simple_words n found) (simple_of scopes table found).marks
simple_many scopes table n (tree.simple_named ident) = type_named_many scopes n ident
simple_many scopes table n (tree.range low line high) =
    let demand : ConstantValue → List Wrong = fits_below (constant_of scopes low).value in
    around (at n k.Dots line) (constant_of scopes low).marks (checked demand (constant_of scopes high)).marks
    (constant_many scopes n low) (checked_many demand (constant_of scopes high) (constant_many scopes n high))
simple_many scopes table n (tree.no_simple form) = left_out_many n form

-- the indexes of an array
more_indexes_many : (scopes : Scopes) (table : Table) (n : ℕ) (words : List Word) (before : Judged Indexes)
    (more : List (Behind Simple)) → AsMany words before.marks
    → AsMany (words ++ flat_map (λ behind. at n k.Comma behind.line ∷ simple_words n behind.item) more)
    (more_indexes scopes table before more).marks
more_indexes_many scopes table n words before [] h = nothing_behind words before.marks h
more_indexes_many scopes table n words before (behind ∷ more) h =
    let next : Judged Made = simple_of scopes (table_of_indexes table before) behind.item in
    regrouped words (at n k.Comma behind.line ∷ simple_words n behind.item)
    (flat_map (λ other. at n k.Comma other.line ∷ simple_words n other.item) more)
    (more_indexes scopes table before (behind ∷ more)).marks
    (more_indexes_many scopes table n (words ++ at n k.Comma behind.line ∷ simple_words n behind.item)
    (with_index quiet before next) more
    (around (at n k.Comma behind.line) before.marks (checked index_only next).marks h
    (checked_many index_only next (simple_many scopes (table_of_indexes table before) n behind.item))))

pub indexes_many : (scopes : Scopes) (table : Table) (n : ℕ) (indexes : Separated Simple)
    → AsMany (separated n k.Comma (simple_words n) indexes) (indexes_of scopes table indexes).marks
indexes_many scopes table n indexes =
    let first : Judged Made = simple_of scopes table indexes.first in
    more_indexes_many scopes table n (simple_words n indexes.first) (with_index no_token (no_indexes table) first)
    indexes.more
    (and_then no_token (joined (no_token ∷ (checked index_only first).marks ∷ [])) none
    (and_then no_token (joined ((checked index_only first).marks ∷ [])) none
    (all (checked index_only first).marks (checked_many index_only first (simple_many scopes table n indexes.first)))))

-- type expressions
module _ (scopes : Scopes) where
  mutual
    pub form_many : (table : Table) (n : ℕ) (form : TypeForm)
        → AsMany (type_words n form) (form_of scopes table form).marks
    form_many table n (tree.simple form) = simple_many scopes table n form
    form_many table n (tree.array packed line opened indexes closed of_line element) =
        let found : Judged Indexes = indexes_of scopes table indexes in
        let part : Judged Made = form_of scopes (table_of_indexes table found) element in
        let part_marks : Marks = (noted no_file part).marks in
        noted_many within_limit (judged
        (joined (maybe_quiet packed ∷ quiet ∷ quiet ∷ found.marks ∷ quiet ∷ quiet ∷ part_marks ∷ []))
        (both (λ indexes last. arrays last.table indexes.ranges last.type) found.value (noted no_file part).value))
        (and_then (maybe_quiet packed) (joined (quiet ∷ quiet ∷ found.marks ∷ quiet ∷ quiet ∷ part_marks ∷ []))
        (maybe_many n k.Packed packed)
        (next_word (at (n + 1) k.Array line) [] (joined (quiet ∷ found.marks ∷ quiet ∷ quiet ∷ part_marks ∷ []))
        (next_word (at (n + 2) k.LeftBracket opened) [] (joined (found.marks ∷ quiet ∷ quiet ∷ part_marks ∷ []))
        (and_then found.marks (joined (quiet ∷ quiet ∷ part_marks ∷ [])) (indexes_many scopes table (n + 2) indexes)
        (next_word (at (n + 2) k.RightBracket closed) [] (joined (quiet ∷ part_marks ∷ []))
        (behind_word (at (n + 1) k.Of of_line) part_marks
        (noted_many no_file part (form_many (table_of_indexes table found) (n + 1) element))))))))
    form_many table n (tree.record_type packed line found semicolon end) =
        let group : Judged Group = groups_of scopes table found in
        noted_many within_limit (judged
        (joined (maybe_quiet packed ∷ quiet ∷ group.marks ∷ maybe_quiet semicolon ∷ quiet ∷ []))
        (known (λ group. made group.table (fields group.fields)) group.value))
        (and_then (maybe_quiet packed) (joined (quiet ∷ group.marks ∷ maybe_quiet semicolon ∷ quiet ∷ []))
        (maybe_many n k.Packed packed)
        (next_word (at (n + 1) k.Record line) [] (joined (group.marks ∷ maybe_quiet semicolon ∷ quiet ∷ []))
        (and_then group.marks (joined (maybe_quiet semicolon ∷ quiet ∷ [])) (groups_many table (n + 1) found)
        (before_word (at (n + 1) k.End end) (maybe_quiet semicolon) (maybe_many (n + 1) k.Semicolon semicolon)))))
    form_many table n (tree.file packed line of_line component) =
        let part : Judged Made = noted component_only (form_of scopes table component) in
        and_then (maybe_quiet packed) (joined (quiet ∷ quiet ∷ part.marks ∷ [])) (maybe_many n k.Packed packed)
        (next_word (at (n + 1) k.File line) [] (joined (quiet ∷ part.marks ∷ []))
        (behind_word (at (n + 1) k.Of of_line) part.marks
        (noted_many component_only (form_of scopes table component) (form_many table (n + 1) component))))

    pub groups_many : (table : Table) (n : ℕ) (found : Fields)
        → AsMany (fields_words n found) (groups_of scopes table found).marks
    groups_many table n (tree.first_fields idents colon form) =
        let part : Judged Made = noted no_file (form_of scopes table form) in
        let names : Marks = new_names [] idents in
        and_then no_token (joined (no_token ∷ names ∷ quiet ∷ part.marks ∷ [])) none
        (and_then no_token (joined (names ∷ quiet ∷ part.marks ∷ [])) none
        (around (at n k.Colon colon) names part.marks (new_names_many n [] idents)
        (noted_many no_file (form_of scopes table form) (form_many table n form))))
    groups_many table n (tree.more_fields before line idents colon form) =
        let found : Judged Group = groups_of scopes table before in
        let form_made : Judged Made = form_of scopes (table_of_fields table found) form in
        let part : Judged Made = noted no_file form_made in
        let names : Marks = new_names (field_names before) idents in
        and_then found.marks (joined (quiet ∷ names ∷ quiet ∷ part.marks ∷ [])) (groups_many table n before)
        (next_word (at n k.Semicolon line) [] (joined (names ∷ quiet ∷ part.marks ∷ []))
        (around (at n k.Colon colon) names part.marks (new_names_many n (field_names before) idents)
        (noted_many no_file form_made (form_many (table_of_fields table found) n form))))
