-- Declarations show as many lists of faults as they have words.
use Rattle.std.proofs.Common.{◌≡◌, refl, ℕ, ◌+◌, arith, List, [], ◌∷◌, ◌++◌, length, map}
use Rattle.std.proofs.Common.{Option, Some, None}
use Rattle.std.specs.Prelude.{flat_map, not}
use Rattle.wb_base.specs.declared.faults.TheConstants.{DUPLICATE_NAME}
use Rattle.pas_tokens.specs.declared.kinds.Kind.{Kind}
use Rattle.pas_tokens.specs.declared.kinds.Kind.TheVariants as k
use Rattle.pas_tokens.specs.Cutting.{Wrong, wrong}
use Rattle.pas_syntax.specs.Tree.{Numeral, Behind, Separated, Labels, ConstantRow, TypeRow, VariableRow, Rows}
use Rattle.pas_syntax.specs.Words.{Word, at, name_at, number_at, words_if, separated, type_words}
use Rattle.pas_syntax.specs.Words.{labels_words, constant_row_words, type_row_words, variable_row_words, rows_words}
use Rattle.pas_rules.specs.Marks.{Marks, shows, quiet, joined, listed, unless, Judged, noted}
use Rattle.pas_typed.specs.Types.{Table}
use Rattle.pas_typed.specs.Typed.{declared}
use Rattle.pas_rules.specs.Scopes.{Outer, Inner, Scopes, names_of, contains, spellings_of, new_names}
use Rattle.pas_rules.specs.TypeForms.{constant_of, form_of}
use Rattle.pas_rules.specs.Declarations.{numerals_of, new_label, each_label, label_marks, taken, program_scopes, Stage}
use Rattle.pas_rules.specs.Declarations.{more_rows, rows_of, constant_row, type_row, global_only, global_row}
use Rattle.pas_rules.specs.Declarations.{local_only, routine_scopes, local_row, more_local_rows, local_rows}
use Rattle.pas_rules.proofs.AsMany.{AsMany, none, and_then, all, next_word, before_word, behind_word}
use Rattle.pas_rules.proofs.AsMany.{noted_many, new_names_many, total, listed_total}
use Rattle.pas_rules.proofs.TypesAsMany.{constant_many, form_many}
use Rattle.pas_typed.specs.Types.{Made}

-- labels
labels_total : (before : List ℕ) (numerals : List Numeral)
    → total (each_label before numerals) ≡ length numerals + length numerals
labels_total before [] = refl
labels_total before (numeral ∷ numerals) = omega (arith, labels_total (before ++ numeral.value ∷ []) numerals)

more_numerals : (more : List (Behind Numeral))
    → length (flat_map (λ behind. at 0 k.Comma behind.line ∷ (number_at 0 behind.item ∷ [])) more)
    ≡ length (map (λ behind. behind.item) more) + length (map (λ behind. behind.item) more)
more_numerals [] = refl
more_numerals (behind ∷ more) = omega (arith, more_numerals more)

numerals_many : (numbers : Separated Numeral)
    → AsMany (separated 0 k.Comma (λ numeral. number_at 0 numeral ∷ []) numbers)
    (listed (each_label [] (numerals_of numbers)))
numerals_many numbers =
    let others : List Numeral = map (λ behind. behind.item) numbers.more in
    record {
      same = omega (
        arith,
        listed_total (shows (new_label [] numbers.first.value))
            (each_label (numbers.first.value ∷ []) others),
        labels_total (numbers.first.value ∷ []) others,
        more_numerals numbers.more,
      );
    }

pub labels_many : (labels : Option Labels) → AsMany (words_if labels_words labels) (label_marks labels)
labels_many None = none
labels_many (Some labels) =
    let list : Marks = listed (each_label [] (numerals_of labels.numbers)) in
    next_word (at 0 k.Label labels.line) [] (joined (list ∷ quiet ∷ []))
    (before_word (at 0 k.Semicolon labels.end) list (numerals_many labels.numbers))

-- rows
pub more_rows_many : {A : Type 0} (words : A → List Word) (row : Outer → A → Stage)
    → ((outer : Outer) (found : A) → AsMany (words found) (row outer found).marks)
    → (outer : Outer) (rows : List A) → AsMany (flat_map words rows) (more_rows row outer rows).marks
more_rows_many words row each outer [] = none
more_rows_many words row each outer (first ∷ more) =
    let before : Stage = row outer first in
    let behind : Stage = more_rows row before.outer more in
    and_then before.marks (joined (behind.marks ∷ [])) (each outer first)
    (all behind.marks (more_rows_many words row each before.outer more))

pub rows_many : {A : Type 0} (kind : Kind) (words : A → List Word) (row : Outer → A → Stage)
    → ((outer : Outer) (found : A) → AsMany (words found) (row outer found).marks)
    → (outer : Outer) (rows : Option (Rows A))
    → AsMany (words_if (rows_words kind words) rows) (rows_of row outer rows).marks
rows_many kind words row each outer None = none
rows_many kind words row each outer (Some rows) =
    behind_word (at 0 kind rows.line) (more_rows row outer (rows.first ∷ rows.more)).marks
    (more_rows_many words row each outer (rows.first ∷ rows.more))

pub constant_row_many : (outer : Outer) (found : ConstantRow)
    → AsMany (constant_row_words found) (constant_row outer found).marks
constant_row_many outer found =
    let value : Marks = (constant_of (program_scopes outer) found.value).marks in
    next_word (name_at 0 found.name) (unless (not (contains (taken outer) found.name.name)) (wrong DUPLICATE_NAME))
    (joined (quiet ∷ value ∷ quiet ∷ []))
    (next_word (at 0 k.Equal found.equals) [] (joined (value ∷ quiet ∷ []))
    (before_word (at 0 k.Semicolon found.end) value (constant_many (program_scopes outer) 0 found.value)))

pub type_row_many : (outer : Outer) (found : TypeRow) → AsMany (type_row_words found) (type_row outer found).marks
type_row_many outer found =
    let form : Marks = (form_of (program_scopes outer) outer.types found.form).marks in
    next_word (name_at 0 found.name) (unless (not (contains (taken outer) found.name.name)) (wrong DUPLICATE_NAME))
    (joined (quiet ∷ form ∷ quiet ∷ []))
    (next_word (at 0 k.Equal found.equals) [] (joined (form ∷ quiet ∷ []))
    (before_word (at 0 k.Semicolon found.end) form (form_many (program_scopes outer) outer.types 0 found.form)))

-- variables: their names, and the type behind these
variables_many : (row : VariableRow) (before : List (List ℕ)) (demand : Made → List Wrong) (form : Judged Made)
    → AsMany (type_words 0 row.form) form.marks
    → AsMany (variable_row_words row)
    (joined (new_names before row.names ∷ quiet ∷ (noted demand form).marks ∷ quiet ∷ []))
variables_many row before demand form h =
    let part : Marks = (noted demand form).marks in
    and_then (new_names before row.names) (joined (quiet ∷ part ∷ quiet ∷ [])) (new_names_many 0 before row.names)
    (next_word (at 0 k.Colon row.colon) [] (joined (part ∷ quiet ∷ []))
    (before_word (at 0 k.Semicolon row.end) part (noted_many demand form h)))

pub global_row_many : (outer : Outer) (found : VariableRow)
    → AsMany (variable_row_words found) (global_row outer found).marks
global_row_many outer found =
    variables_many found (taken outer) (global_only outer (spellings_of found.names))
    (form_of (program_scopes outer) outer.types found.form)
    (form_many (program_scopes outer) outer.types 0 found.form)

pub local_row_many : (outer : Outer) (table : Table) (inner : Inner) (found : VariableRow)
    → AsMany (variable_row_words found) (local_row outer table inner found).marks
local_row_many outer table inner found =
    let scopes : Scopes = routine_scopes (record outer { types = table }) inner in
    variables_many found (names_of inner.names) (local_only inner declared (spellings_of found.names))
    (form_of scopes table found.form) (form_many scopes table 0 found.form)

pub more_local_many : (outer : Outer) (table : Table) (inner : Inner) (rows : List VariableRow)
    → AsMany (flat_map variable_row_words rows) (more_local_rows outer table inner rows).marks
more_local_many outer table inner [] = none
more_local_many outer table inner (first ∷ more) =
    let before = local_row outer table inner first in
    let behind = more_local_rows outer before.table before.inner more in
    and_then before.marks (joined (behind.marks ∷ [])) (local_row_many outer table inner first)
    (all behind.marks (more_local_many outer before.table before.inner more))

pub local_rows_many : (outer : Outer) (inner : Inner) (rows : Option (Rows VariableRow))
    → AsMany (words_if (rows_words k.Var variable_row_words) rows) (local_rows outer inner rows).marks
local_rows_many outer inner None = none
local_rows_many outer inner (Some rows) =
    behind_word (at 0 k.Var rows.line) (more_local_rows outer outer.types inner (rows.first ∷ rows.more)).marks
    (more_local_many outer outer.types inner (rows.first ∷ rows.more))
