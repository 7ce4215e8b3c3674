-- Expressions and variables (ISO 7185, 6.5 and 6.7, in this project's profile): what they mean, and the faults of their
-- tokens.
use Rattle.std.specs.Prelude.{ℕ, ◌&&◌, nat_le, pos, Bool, false, not, if◌then◌else◌}
use Rattle.std.specs.Prelude.{List, [], ◌∷◌, ◌++◌, length, map, codes, Option, Some, None, option_map, option_and_then}
use Rattle.std.specs.Prelude.{is_some, position, slice_get}
use Rattle.std.specs.Str.{bytes_eq}
use Rattle.wb_base.specs.declared.faults.TheConstants.{UNKNOWN_NAME, WRONG_TYPE, FILE_RULE}
use Rattle.pas_tokens.specs.Cutting.{Wrong, wrong}
use Rattle.pas_syntax.specs.declared.operators.Sign.{Sign}
use Rattle.pas_syntax.specs.declared.operators.Multiplying.{Multiplying}
use Rattle.pas_syntax.specs.declared.operators.Multiplying.TheVariants as multiplying
use Rattle.pas_syntax.specs.declared.operators.Adding.{Adding}
use Rattle.pas_syntax.specs.declared.operators.Adding.TheVariants as adding
use Rattle.pas_syntax.specs.declared.operators.Relation.{Relation}
use Rattle.pas_syntax.specs.Tree as tree
use Rattle.pas_syntax.specs.Tree.{Ident, Expr, Sum, Term, Factor, Exprs}
use Rattle.pas_rules.specs.Marks.{Marks, no_token, quiet, shows, at_first, with_behind, joined, listed, unless}
use Rattle.pas_rules.specs.Marks.{Judged, judged, means, refuses, known, both, checked, noted}
use Rattle.pas_typed.specs.Types.{Base, integer, boolean, PasType, text, same_type}
use Rattle.pas_typed.specs.Types.{Field, ArrayParts, Table, component_of, elements_of, fields_of}
use Rattle.pas_typed.specs.Typed as typed
use Rattle.pas_typed.specs.Typed.{Function, FileTest, Mode, by_name, Variable, Slot, Value, Place, Passed, Heading}
use Rattle.pas_rules.specs.Scopes.{Entity, constant, variable, routine, function, file_test, unclear, Scopes}
use Rattle.pas_rules.specs.Scopes.{entity_of, standard_file}
use Rattle.pas_rules.specs.TypeForms as forms
use Rattle.pas_typed.specs.TypeOf.{type_of_place, type_of_function, type_of, is_buffer}
use Rattle.pas_typed.specs.Types.{base_of, is_of, are_compatible}

-- a value of this base
abbrev pub only : Base → Table → Value → List Wrong
only base table value = unless (is_of base table (type_of value)) (wrong WRONG_TYPE)

abbrev pub ordinal_only : Table → Value → List Wrong
ordinal_only table value = unless (is_some (base_of table (type_of value))) (wrong WRONG_TYPE)

abbrev pub compatible_with : Table → PasType → Value → List Wrong
compatible_with table type value = unless (are_compatible table type (type_of value)) (wrong WRONG_TYPE)

-- the place that a variable by itself is, and the file
abbrev pub place_in : Value → Option Place
place_in (typed.read place) = Some place
place_in value = None

abbrev pub is_file : Table → Place → Bool
is_file table place = is_some (component_of table (type_of_place place))

abbrev pub file_at : Table → Place → Option Place
file_at table place = if is_file table place then Some place else None

abbrev pub file_in : Table → Value → Option Place
file_in table value = option_and_then (file_at table) (place_in value)

abbrev pub file_only : Table → Value → List Wrong
file_only table value = unless (is_some (file_in table value)) (wrong WRONG_TYPE)

abbrev pub text_only : Table → Value → List Wrong
text_only table value =
    if is_some (file_in table value) then unless (same_type (type_of value) text) (wrong FILE_RULE)
    else wrong WRONG_TYPE ∷ []

-- variables

-- what a name is as a variable
abbrev pub as_place : Option Entity → Judged Place
as_place None = refuses (wrong UNKNOWN_NAME)
as_place (Some (variable found)) = means (typed.slot found)
as_place (Some unclear) = judged quiet None
as_place (Some entity) = refuses (wrong WRONG_TYPE)

-- an element of an array by its index, which is of the base of the indexes; an index too many shows it at its first
-- token
abbrev pub indexed_by : Table → Judged Value → Place → Option ArrayParts → Judged Place
indexed_by table index place None = judged (at_first (wrong WRONG_TYPE ∷ []) index.marks) None
indexed_by table index place (Some found) =
    let part = checked (only found.indexes.base table) index in
    judged part.marks (known (typed.element place found.indexes found.element) part.value)

abbrev pub element_by : Table → Judged Value → Option Place → Judged Place
element_by table index None = judged index.marks None
element_by table index (Some place) = indexed_by table index place (elements_of table (type_of_place place))

abbrev pub element_of : Table → Judged Place → Judged Value → Judged Place
element_of table before index =
    let part = element_by table index before.value in
    judged (joined (before.marks ∷ quiet ∷ part.marks ∷ [])) part.value

abbrev pub array_only : Table → Place → List Wrong
array_only table place = unless (is_some (elements_of table (type_of_place place))) (wrong WRONG_TYPE)

abbrev pub as_array : Table → Judged Place → Judged Place
as_array table place = checked (array_only table) place

-- a place, and the bracket behind its indexes
abbrev pub closed_by : Judged Place → Judged Place
closed_by place = judged (joined (place.marks ∷ quiet ∷ [])) place.value

abbrev pub record_only : Table → Place → List Wrong
record_only table place = unless (is_some (fields_of table (type_of_place place))) (wrong WRONG_TYPE)

abbrev pub files_only : Table → Place → List Wrong
files_only table place = unless (is_file table place) (wrong WRONG_TYPE)

-- the field of a record with this name
abbrev pub field_at : Place → List Field → Option ℕ → Judged Place
field_at place found None = refuses (wrong UNKNOWN_NAME)
field_at place found (Some number) =
    judged quiet (known (λ field. typed.field place number field.type) (slice_get found number))

abbrev pub field_in : List ℕ → Place → Option (List Field) → Judged Place
field_in name place None = judged quiet None
field_in name place (Some found) = field_at place found (position (λ field. bytes_eq field.name name) found)

abbrev pub field_by : Table → List ℕ → Option Place → Judged Place
field_by table name None = judged quiet None
field_by table name (Some place) = field_in name place (fields_of table (type_of_place place))

abbrev pub field_of : Table → Judged Place → Ident → Judged Place
field_of table before ident =
    let whole_record = checked (record_only table) before in
    let part = field_by table ident.name whole_record.value in
    judged (joined (whole_record.marks ∷ quiet ∷ part.marks ∷ [])) part.value

-- the buffer of a file
abbrev pub buffer_at : Table → Place → Option Place
buffer_at table place = option_map (typed.buffer place) (component_of table (type_of_place place))

abbrev pub buffer_of : Table → Judged Place → Judged Place
buffer_of table before =
    let found = checked (files_only table) before in
    judged (joined (found.marks ∷ quiet ∷ [])) (option_and_then (buffer_at table) found.value)

-- calls

-- a demand on an argument: the faults that its value shows
abbrev pub Demand : Type 0
Demand = Value → List Wrong

-- nothing, as it must stand behind an argument that is not written on a file
pub data Bare : Type 0 where
  bare : Bare

-- an argument, and what stands behind its value
pub record Given : Type 0 where
  pub value : Judged Value
  pub behind : Judged Bare

abbrev pub bare_argument : Judged Value → Given
bare_argument value = record { value = value; behind = judged no_token (Some bare) }

-- an argument of which the value must meet a demand
abbrev pub met : Demand → Given → Judged Value
met demand argument =
    let found = checked demand argument.value in
    judged (joined (found.marks ∷ argument.behind.marks ∷ []))
    (both (λ value nothing. value) found.value argument.behind.value)

abbrev pub asked_nothing : Demand
asked_nothing value = []

-- arguments by the demands on them: one too many shows it at its first token
abbrev pub argument_marks : List Demand → List Given → List Marks
argument_marks (demand ∷ demands) (argument ∷ arguments) =
    (met demand argument).marks ∷ argument_marks demands arguments
argument_marks [] (argument ∷ arguments) =
    at_first (wrong WRONG_TYPE ∷ []) (met asked_nothing argument).marks
    ∷ map (λ other. (met asked_nothing other).marks) arguments
argument_marks demands [] = []

-- the values of arguments that meet the demands and are as many
abbrev pub given : List Demand → List Given → Option (List Value)
given [] [] = Some []
given (demand ∷ demands) (argument ∷ arguments) =
    both (λ value values. value ∷ values) (met demand argument).value (given demands arguments)
given demands arguments = None

-- a name, and arguments between parentheses: too few show it at the token behind the last one
abbrev pub called : List Demand → List Given → Marks
called demands arguments =
    joined (quiet ∷ quiet ∷ listed (argument_marks demands arguments)
    ∷ shows (unless (nat_le (length demands) (length arguments)) (wrong WRONG_TYPE)) ∷ [])

-- a name that may not be called so, and arguments
abbrev pub not_called : List Wrong → List Given → Marks
not_called faults arguments =
    joined (shows faults ∷ quiet ∷ listed (map (λ argument. (met asked_nothing argument).marks) arguments)
    ∷ quiet ∷ [])

-- a variable parameter takes a variable of its type that is no buffer of a file, another one a compatible value
abbrev pub is_reference : PasType → Option Place → Bool
is_reference type None = false
is_reference type (Some place) = same_type type (type_of_place place) && not (is_buffer place)

abbrev pub demand_of_mode : Table → Mode → PasType → Demand
demand_of_mode table by_name type value = unless (is_reference type (place_in value)) (wrong WRONG_TYPE)
demand_of_mode table mode type value = compatible_with table type value

abbrev pub demands_of : Table → List Variable → List Demand
demands_of table parameters = map (λ parameter. demand_of_mode table parameter.mode parameter.type) parameters

-- the arguments as they are passed
abbrev pub passed_place : Option Place → Passed → Passed
passed_place None others = others
passed_place (Some place) others = typed.reference place others

abbrev pub passed_by : Mode → PasType → Value → Passed → Passed
passed_by by_name type value others = passed_place (place_in value) others
passed_by mode type value others = typed.value type value others

abbrev pub passed_to : List Variable → List Value → Passed
passed_to (parameter ∷ parameters) (value ∷ values) =
    passed_by parameter.mode parameter.type value (passed_to parameters values)
passed_to parameters values = typed.nothing

abbrev pub heading_of : Scopes → ℕ → Option Heading
heading_of scopes number = option_map (λ found. found.heading) (slice_get scopes.outer.routines number)

-- the call of a routine for its value: a procedure has none
abbrev pub call_with : Scopes → ℕ → Heading → List Given → Option PasType → Judged Value
call_with scopes number heading arguments None = judged (not_called (wrong WRONG_TYPE ∷ []) arguments) None
call_with scopes number heading arguments (Some type) =
    let demands = demands_of scopes.outer.types heading.parameters in
    judged (called demands arguments)
    (known (λ values. typed.call number type (passed_to heading.parameters values))
    (given demands arguments))

abbrev pub function_call_of : Scopes → ℕ → List Given → Option Heading → Judged Value
function_call_of scopes number arguments None = judged (not_called [] arguments) None
function_call_of scopes number arguments (Some heading) = call_with scopes number heading arguments heading.result

-- what a required function takes
abbrev pub function_demand : Table → Function → Demand
function_demand table typed.ord value = ordinal_only table value
function_demand table found value = only integer table value

abbrev pub test_demand : Table → FileTest → Demand
test_demand table typed.eof value = file_only table value
test_demand table typed.eoln value = text_only table value

-- the first of some values
abbrev pub first_value : List Value → Option Value
first_value [] = None
first_value (value ∷ values) = Some value

-- id "(" expr {"," expr} ")"
abbrev pub as_call : Scopes → List Given → Option Entity → Judged Value
as_call scopes arguments None = judged (not_called (wrong UNKNOWN_NAME ∷ []) arguments) None
as_call scopes arguments (Some (routine number)) = function_call_of scopes number arguments (heading_of scopes number)
as_call scopes arguments (Some (function found)) =
    let demands = function_demand scopes.outer.types found ∷ [] in
    judged (called demands arguments)
    (known (typed.applied found) (option_and_then first_value (given demands arguments)))
as_call scopes arguments (Some (file_test test)) =
    let demands = test_demand scopes.outer.types test ∷ [] in
    judged (called demands arguments)
    (known (typed.tested test) (option_and_then (file_in scopes.outer.types)
    (option_and_then first_value (given demands arguments))))
as_call scopes arguments (Some unclear) = judged (not_called [] arguments) None
as_call scopes arguments (Some entity) = judged (not_called (wrong WRONG_TYPE ∷ []) arguments) None

-- a name by itself as a value: a constant, a variable, the call of a function without arguments. A function that needs
-- some shows it at the token behind, and stays known by its type
abbrev pub any_of_base : Base → Value
any_of_base base = typed.constant base (pos 0)

abbrev pub any_of : Table → PasType → Option Value
any_of table type = known any_of_base (base_of table type)

abbrev pub missing_arguments : Option Value → Judged Value
missing_arguments value = judged (with_behind (wrong WRONG_TYPE ∷ []) quiet) value

abbrev pub without_arguments : ℕ → Option PasType → List Variable → Judged Value
without_arguments number None parameters = refuses (wrong WRONG_TYPE)
without_arguments number (Some type) [] = means (typed.call number type typed.nothing)
without_arguments number (Some type) parameters = missing_arguments (Some (typed.call number type typed.nothing))

abbrev pub function_alone : ℕ → Option Heading → Judged Value
function_alone number None = judged quiet None
function_alone number (Some heading) = without_arguments number heading.result heading.parameters

abbrev pub test_alone : FileTest → Option Slot → Judged Value
test_alone test None = judged (shows (wrong FILE_RULE ∷ [])) (Some (any_of_base boolean))
test_alone test (Some found) = means (typed.tested test (typed.slot found))

abbrev pub as_value : Scopes → Option Entity → Judged Value
as_value scopes None = refuses (wrong UNKNOWN_NAME)
as_value scopes (Some (constant base value)) = means (typed.constant base value)
as_value scopes (Some (variable found)) = means (typed.read (typed.slot found))
as_value scopes (Some (routine number)) = function_alone number (heading_of scopes number)
as_value scopes (Some (function found)) = missing_arguments (any_of scopes.outer.types (type_of_function found))
as_value scopes (Some (file_test test)) = test_alone test (standard_file scopes (codes "input"))
as_value scopes (Some unclear) = judged quiet None
as_value scopes (Some entity) = refuses (wrong WRONG_TYPE)

-- operators: what they give is known also where an operand does not fit

-- the base of the operands
abbrev pub product_base : Multiplying → Base
product_base multiplying.And = boolean
product_base op = integer

abbrev pub addition_base : Adding → Base
addition_base adding.Or = boolean
addition_base op = integer

abbrev pub product_of : Table → Judged Value → Multiplying → Judged Value → Judged Value
product_of table left op right =
    let first = noted (only (product_base op) table) left in
    let second = noted (only (product_base op) table) right in
    judged (joined (first.marks ∷ quiet ∷ second.marks ∷ []))
    (both (λ one other. typed.product one op other) first.value second.value)

abbrev pub addition_of : Table → Judged Value → Adding → Judged Value → Judged Value
addition_of table left op right =
    let first = noted (only (addition_base op) table) left in
    let second = noted (only (addition_base op) table) right in
    judged (joined (first.marks ∷ quiet ∷ second.marks ∷ []))
    (both (λ one other. typed.addition one op other) first.value second.value)

-- the second operand of a relation is of the base of the first
abbrev pub like : Table → Option Value → Value → List Wrong
like table None value = []
like table (Some first) value =
    unless (are_compatible table (type_of first) (type_of value)) (wrong WRONG_TYPE)

abbrev pub comparison_of : Table → Judged Value → Relation → Judged Value → Judged Value
comparison_of table left relation right =
    let first = noted (ordinal_only table) left in
    let second = noted (like table first.value) right in
    judged (joined (first.marks ∷ quiet ∷ second.marks ∷ []))
    (both (λ one other. typed.comparison one relation other) first.value second.value)

abbrev pub signed_of : Table → Sign → Judged Value → Judged Value
signed_of table sign operand =
    let part = noted (only integer table) operand in
    judged (joined (quiet ∷ part.marks ∷ [])) (known (typed.signed sign) part.value)

abbrev pub negated_of : Table → Judged Value → Judged Value
negated_of table operand =
    let part = noted (only boolean table) operand in
    judged (joined (quiet ∷ part.marks ∷ [])) (known typed.negated part.value)

abbrev pub read_of : Judged Place → Judged Value
read_of place = judged place.marks (known typed.read place.value)

-- expr   = sum [("="|"<>"|"<"|"<="|">"|">=") sum]
-- sum    = ["+"|"-"] term {("+"|"-"|"or") term}
-- term   = factor {("*"|"div"|"mod"|"and") factor}
-- factor = number | string | "(" expr ")" | "not" factor | var | id "(" expr {"," expr} ")"
-- var    = id {"[" expr {"," expr} "]" | "." id | "^"}
module _ (scopes : Scopes) where
  abbrev mutual
    pub value_of : Expr → Judged Value
    value_of (tree.sum sum) = sum_of sum
    value_of (tree.relation left op right) = comparison_of scopes.outer.types (sum_of left) op.item (sum_of right)

    pub sum_of : Sum → Judged Value
    sum_of (tree.first_term term) = term_of term
    sum_of (tree.signed_term lead term) = signed_of scopes.outer.types lead.item (term_of term)
    sum_of (tree.more_terms left op term) = addition_of scopes.outer.types (sum_of left) op.item (term_of term)
    sum_of (tree.membership left line) = judged (joined ((sum_of left).marks ∷ quiet ∷ [])) None

    pub term_of : Term → Judged Value
    term_of (tree.first_factor factor) = factor_of factor
    term_of (tree.more_factors left op factor) =
        product_of scopes.outer.types (term_of left) op.item (factor_of factor)
    term_of (tree.quotient left line) = judged (joined ((term_of left).marks ∷ quiet ∷ [])) None

    pub factor_of : Factor → Judged Value
    factor_of (tree.literal numeral) = means (typed.constant integer (pos numeral.value))
    factor_of (tree.literal_text quoted) =
        let found = forms.char_in (forms.undoubled quoted.text) in
        judged found.marks (known (λ text. typed.constant text.base text.value) found.value)
    factor_of (tree.parenthesized opened expr closed) =
        let found = value_of expr in
        judged (joined (quiet ∷ found.marks ∷ quiet ∷ [])) (known typed.parenthesized found.value)
    factor_of (tree.negated line factor) = negated_of scopes.outer.types (factor_of factor)
    factor_of (tree.variable found) = variable_value found
    factor_of (tree.function_call name opened arguments closed) =
        as_call scopes (map bare_argument (values_of arguments)) (entity_of scopes name.name)
    factor_of (tree.set_value line) = judged quiet None
    factor_of (tree.nil line) = judged quiet None

    -- a variable as a value, where a name by itself may be something else
    pub variable_value : tree.Variable → Judged Value
    variable_value (tree.whole ident) = as_value scopes (entity_of scopes ident.name)
    variable_value (tree.indexed found opened indexes closed) =
        read_of (closed_by (elements_at (as_array scopes.outer.types (place_of found)) indexes))
    variable_value (tree.field_of found line ident) = read_of (field_of scopes.outer.types (place_of found) ident)
    variable_value (tree.buffer_of found line) = read_of (buffer_of scopes.outer.types (place_of found))

    pub place_of : tree.Variable → Judged Place
    place_of (tree.whole ident) = as_place (entity_of scopes ident.name)
    place_of (tree.indexed found opened indexes closed) =
        closed_by (elements_at (as_array scopes.outer.types (place_of found)) indexes)
    place_of (tree.field_of found line ident) = field_of scopes.outer.types (place_of found) ident
    place_of (tree.buffer_of found line) = buffer_of scopes.outer.types (place_of found)

    pub elements_at : Judged Place → Exprs → Judged Place
    elements_at place (tree.first_expr index) = element_of scopes.outer.types place (value_of index)
    elements_at place (tree.more_exprs before line index) =
        element_of scopes.outer.types (elements_at place before) (value_of index)

    pub values_of : Exprs → List (Judged Value)
    values_of (tree.first_expr expr) = value_of expr ∷ []
    values_of (tree.more_exprs before line expr) = values_of before ++ value_of expr ∷ []
