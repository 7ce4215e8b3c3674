-- Declarations (ISO 7185, 6.2, 6.3, 6.4, 6.5 and 6.6, in this project's profile): what they declare, and the faults of
-- their tokens. A name holds from behind its whole declaration.
use Rattle.std.specs.Prelude.{ℕ, suc, ◌&&◌, ◌||◌, nat_le, Bool, true, false, not, List, [], ◌∷◌, ◌++◌, length, map}
use Rattle.std.specs.Prelude.{sum_by, Option, Some, None, is_none}
use Rattle.wb_base.specs.declared.faults.TheConstants.{DUPLICATE_NAME}
use Rattle.wb_base.specs.declared.faults.TheConstants.{CONSTANT_OUT_OF_RANGE, TOO_LARGE, FILE_RULE}
use Rattle.pas_tokens.specs.Cutting.{Wrong, wrong}
use Rattle.pas_syntax.specs.Tree.{Ident, Numeral, Separated, Labels, ConstantRow, TypeRow, VariableRow, Rows}
use Rattle.pas_rules.specs.declared.limits.TheConstants.{CELL_LIMIT, ROUTINE_CELL_LIMIT, GREATEST_LABEL}
use Rattle.pas_rules.specs.Marks.{Marks, no_token, quiet, shows, joined, listed, unless, known, noted}
use Rattle.pas_typed.specs.Types.{PasType, Table, component_of, cells_of}
use Rattle.pas_typed.specs.Typed.{Mode, declared, by_name, Variable, Home, global, local}
use Rattle.pas_rules.specs.Scopes.{Entity, constant, type, variable, unclear, Named, names, names_of, Outer, Inner}
use Rattle.pas_rules.specs.Scopes.{Scopes, standard_names, contains, spellings_of, new_names}
use Rattle.pas_rules.specs.TypeForms.{constant_of, form_of}
use Rattle.pas_rules.specs.Labels.{has_label}
use Rattle.pas_typed.specs.Types.{Made}

-- labels

abbrev pub numerals_of : Separated Numeral → List Numeral
numerals_of numbers = numbers.first ∷ map (λ behind. behind.item) numbers.more

abbrev pub declared_labels : Option Labels → List ℕ
declared_labels None = []
declared_labels (Some labels) = map (λ numeral. numeral.value) (numerals_of labels.numbers)

-- a label is at most the greatest one, and declared once
abbrev pub new_label : List ℕ → ℕ → List Wrong
new_label before label =
    unless (not (has_label before label)) (wrong DUPLICATE_NAME)
    ++ unless (nat_le label GREATEST_LABEL) (wrong CONSTANT_OUT_OF_RANGE)

abbrev pub each_label : List ℕ → List Numeral → List Marks
each_label before [] = []
each_label before (numeral ∷ numerals) =
    shows (new_label before numeral.value) ∷ each_label (before ++ numeral.value ∷ []) numerals

abbrev pub label_marks : Option Labels → Marks
label_marks None = no_token
label_marks (Some labels) = joined (quiet ∷ listed (each_label [] (numerals_of labels.numbers)) ∷ quiet ∷ [])

-- the scope of the program: `input` and `output` are never declared in it

abbrev pub taken : Outer → List (List ℕ)
taken outer = standard_names ++ names_of outer.names

abbrev pub program_scopes : Outer → Scopes
program_scopes outer = record { outer = outer; inner = None }

-- a name that stands for something, if that is known
abbrev pub entity_or_unclear : Option Entity → Entity
entity_or_unclear (Some entity) = entity
entity_or_unclear None = unclear

abbrev pub with_name : List ℕ → Option Entity → Outer → Outer
with_name name entity outer = record outer { names = outer.names ++ names name (entity_or_unclear entity) ∷ [] }

-- what a part of the declarations shows, and the scope behind it
pub record Stage : Type 0 where
  pub marks : Marks
  pub outer : Outer

-- a part: its word, and rows one after another
abbrev pub more_rows : {A : Type 0} → (Outer → A → Stage) → Outer → List A → Stage
more_rows row outer [] = record { marks = no_token; outer = outer }
more_rows row outer (first ∷ more) =
    let before = row outer first in
    let behind = more_rows row before.outer more in
    record { marks = joined (before.marks ∷ behind.marks ∷ []); outer = behind.outer }

abbrev pub rows_of : {A : Type 0} → (Outer → A → Stage) → Outer → Option (Rows A) → Stage
rows_of row outer None = record { marks = no_token; outer = outer }
rows_of row outer (Some rows) =
    let found = more_rows row outer (rows.first ∷ rows.more) in
    record { marks = joined (quiet ∷ found.marks ∷ []); outer = found.outer }

-- a name that is declared alone
abbrev pub new_name : List (List ℕ) → Ident → Marks
new_name before ident = shows (unless (not (contains before ident.name)) (wrong DUPLICATE_NAME))

-- id "=" const ";"
abbrev pub constant_row : Outer → ConstantRow → Stage
constant_row outer found =
    let value = constant_of (program_scopes outer) found.value in
    record {
      marks = joined (new_name (taken outer) found.name ∷ quiet ∷ value.marks ∷ quiet ∷ []);
      outer = with_name found.name.name (known (λ what. constant what.base what.value) value.value) outer;
    }

-- the types behind a type expression
abbrev pub types_behind : Table → Option Made → Table
types_behind table None = table
types_behind table (Some found) = found.table

-- id "=" type ";"
abbrev pub type_row : Outer → TypeRow → Stage
type_row outer found =
    let form = form_of (program_scopes outer) outer.types found.form in
    record {
      marks = joined (new_name (taken outer) found.name ∷ quiet ∷ form.marks ∷ quiet ∷ []);
      outer = with_name found.name.name (known (λ what. type what.type) form.value)
          (record outer { types = types_behind outer.types form.value });
    }

-- variables

-- how many cells they have: a variable parameter has one
abbrev pub cells_of_variable : Table → Mode → PasType → ℕ
cells_of_variable table by_name found = 1
cells_of_variable table mode found = cells_of table found

abbrev pub cells_together : Table → List Variable → ℕ
cells_together table variables = sum_by (λ each. cells_of_variable table each.mode each.type) variables

abbrev pub variables_of : Mode → PasType → List (List ℕ) → List Variable
variables_of mode found spellings = map (λ name. record { name = name; mode = mode; type = found }) spellings

-- variables as what their names stand for, from this number on
abbrev pub named_slots : Home → ℕ → List Variable → List Named
named_slots home number [] = []
named_slots home number (found ∷ variables) =
    names found.name (variable (record { home = home; number = number; mode = found.mode; type = found.type }))
    ∷ named_slots home (suc number) variables

abbrev pub unclear_names : List (List ℕ) → List Named
unclear_names spellings = map (λ name. names name unclear) spellings

-- variables of the program: one of a file type is a parameter of the program, and together they have no more cells
-- than the limit
abbrev pub are_parameters : Outer → List (List ℕ) → Bool
are_parameters outer [] = true
are_parameters outer (name ∷ spellings) = contains outer.parameters name && are_parameters outer spellings

abbrev pub global_only : Outer → List (List ℕ) → Made → List Wrong
global_only outer spellings found =
    unless (is_none (component_of found.table found.type) || are_parameters outer spellings) (wrong FILE_RULE)
    ++ unless (nat_le (cells_together found.table (outer.globals ++ variables_of declared found.type spellings))
    CELL_LIMIT) (wrong TOO_LARGE)

abbrev pub with_globals : List (List ℕ) → Option Made → Outer → Outer
with_globals spellings None outer = record outer { names = outer.names ++ unclear_names spellings }
with_globals spellings (Some found) outer =
    let variables = variables_of declared found.type spellings in
    record outer {
      types = found.table;
      names = outer.names ++ named_slots global (length outer.globals) variables;
      globals = outer.globals ++ variables;
    }

-- ids ":" type ";"
abbrev pub global_row : Outer → VariableRow → Stage
global_row outer found =
    let form = form_of (program_scopes outer) outer.types found.form in
    let spellings = spellings_of found.names in
    record {
      marks = joined (new_names (taken outer) found.names ∷ quiet
          ∷ (noted (global_only outer spellings) form).marks ∷ quiet ∷ []);
      outer = with_globals spellings form.value outer;
    }

abbrev pub is_by_name : Mode → Bool
is_by_name by_name = true
is_by_name mode = false

-- variables of a routine: none is a file but by name, and together they have no more cells than the limit
abbrev pub local_only : Inner → Mode → List (List ℕ) → Made → List Wrong
local_only inner mode spellings found =
    unless (is_none (component_of found.table found.type) || is_by_name mode) (wrong FILE_RULE)
    ++ unless (nat_le (cells_together found.table (inner.variables ++ variables_of mode found.type spellings))
    ROUTINE_CELL_LIMIT) (wrong TOO_LARGE)

abbrev pub with_locals : Mode → List (List ℕ) → Option PasType → Inner → Inner
with_locals mode spellings None inner = record inner { names = inner.names ++ unclear_names spellings }
with_locals mode spellings (Some found) inner =
    let variables = variables_of mode found spellings in
    record inner {
      names = inner.names ++ named_slots local (length inner.variables) variables;
      variables = inner.variables ++ variables;
    }

abbrev pub routine_scopes : Outer → Inner → Scopes
routine_scopes outer inner = record { outer = outer; inner = Some inner }

-- what a part of a routine shows, and the scopes behind it
pub record InnerStage : Type 0 where
  pub marks : Marks
  pub table : Table
  pub inner : Inner

abbrev pub local_row : Outer → Table → Inner → VariableRow → InnerStage
local_row outer table inner found =
    let form = form_of (routine_scopes (record outer { types = table }) inner) table found.form in
    let spellings = spellings_of found.names in
    record {
      marks = joined (new_names (names_of inner.names) found.names ∷ quiet
          ∷ (noted (local_only inner declared spellings) form).marks ∷ quiet ∷ []);
      table = types_behind table form.value;
      inner = with_locals declared spellings (known (λ what. what.type) form.value) inner;
    }

abbrev pub more_local_rows : Outer → Table → Inner → List VariableRow → InnerStage
more_local_rows outer table inner [] = record { marks = no_token; table = table; inner = inner }
more_local_rows outer table inner (first ∷ more) =
    let before = local_row outer table inner first in
    let behind = more_local_rows outer before.table before.inner more in
    record { marks = joined (before.marks ∷ behind.marks ∷ []); table = behind.table; inner = behind.inner }

abbrev pub local_rows : Outer → Inner → Option (Rows VariableRow) → InnerStage
local_rows outer inner None = record { marks = no_token; table = outer.types; inner = inner }
local_rows outer inner (Some rows) =
    let found = more_local_rows outer outer.types inner (rows.first ∷ rows.more) in
    record { marks = joined (quiet ∷ found.marks ∷ []); table = found.table; inner = found.inner }
