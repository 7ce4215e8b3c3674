-- Statements (ISO 7185, 6.8, in this project's profile): what they mean, and the faults of their tokens.
use Rattle.std.specs.Prelude.{ℕ, ◌==◌, ◌&&◌, ℤ, int_le, Bool, true, false, not, if◌then◌else◌}
use Rattle.std.specs.Prelude.{List, [], ◌∷◌, ◌++◌, Option, Some, None, is_some, option_and_then, unwrap_or, length}
use Rattle.std.specs.List.{list_any}
use Rattle.wb_base.specs.declared.faults.TheConstants.{UNKNOWN_NAME, DUPLICATE_NAME, WRONG_TYPE}
use Rattle.pas_tokens.specs.Cutting.{Wrong, wrong}
use Rattle.pas_syntax.specs.declared.operators.Way.{Way}
use Rattle.pas_syntax.specs.Tree as tree
use Rattle.pas_syntax.specs.Tree.{Behind, Separated, Constant, Plain, Statement, Statements, Elements, Others}
use Rattle.pas_rules.specs.Marks.{Marks, no_token, quiet, shows, joined, unless, Judged, judged, means, refuses, known}
use Rattle.pas_rules.specs.Marks.{both, known_of, checked}
use Rattle.pas_typed.specs.Types.{Base, boolean, same_base, PasType, Table, range_of}
use Rattle.pas_typed.specs.Typed as typed
use Rattle.pas_typed.specs.Typed.{Mode, Slot, Value, Place, Arms}
use Rattle.pas_rules.specs.Scopes.{Entity, variable, routine, unclear, Inner, Scopes, entity_of}
use Rattle.pas_rules.specs.TypeForms.{ConstantValue, constant_of, maybe_quiet}
use Rattle.pas_rules.specs.Expressions.{only, ordinal_only, is_file, compatible_with}
use Rattle.pas_rules.specs.Expressions.{heading_of, value_of, place_of}
use Rattle.pas_rules.specs.Labels.{Spot, in_list, elsewhere, label_faults, goto_of, labels_at, labels_in_list}
use Rattle.pas_rules.specs.Labels.{labels_in_elements, labels_of_list}
use Rattle.pas_rules.specs.Calls as calls
use Rattle.pas_typed.specs.TypeOf.{type_of, type_of_place}
use Rattle.pas_typed.specs.Types.{base_of}

-- assignments

-- what is assigned to: a place, or the result of the function in whose body it stands, which has this number behind the
-- function's variables
pub data Target : Type 0 where
  place : Place → Target
  result : ℕ → PasType → Target

abbrev pub type_of_target : Target → PasType
type_of_target (place found) = type_of_place found
type_of_target (result number type) = type

abbrev pub target_result : Inner → Option PasType → Judged Target
target_result inner None = refuses (wrong WRONG_TYPE)
target_result inner (Some type) = means (result (length inner.variables) type)

abbrev pub target_routine : Scopes → Option Inner → ℕ → Judged Target
target_routine scopes None number = refuses (wrong WRONG_TYPE)
target_routine scopes (Some inner) number =
    if inner.number == number
    then target_result inner (option_and_then (λ heading. heading.result) (heading_of scopes number))
    else refuses (wrong WRONG_TYPE)

abbrev pub target_named : Scopes → Option Entity → Judged Target
target_named scopes None = refuses (wrong UNKNOWN_NAME)
target_named scopes (Some (variable slot)) = means (place (typed.slot slot))
target_named scopes (Some (routine number)) = target_routine scopes scopes.inner number
target_named scopes (Some unclear) = judged quiet None
target_named scopes (Some entity) = refuses (wrong WRONG_TYPE)

abbrev pub target_place : Judged Place → Judged Target
target_place found = judged found.marks (known place found.value)

abbrev pub target_of : Scopes → tree.Variable → Judged Target
target_of scopes (tree.whole ident) = target_named scopes (entity_of scopes ident.name)
target_of scopes found = target_place (place_of scopes found)

-- nothing is assigned to a file
abbrev pub is_file_target : Table → Target → Bool
is_file_target table (place found) = is_file table found
is_file_target table (result number type) = false

abbrev pub assigned_only : Table → Target → List Wrong
assigned_only table target = unless (not (is_file_target table target)) (wrong WRONG_TYPE)

abbrev pub fits_target : Table → Option Target → Value → List Wrong
fits_target table None value = []
fits_target table (Some target) value = compatible_with table (type_of_target target) value

abbrev pub assigned : Target → Value → typed.Statement
assigned (place found) value = typed.assigns found value
assigned (result number type) value = typed.sets_result number type value

abbrev pub assignment_of : Table → Judged Target → Judged Value → Judged typed.Statement
assignment_of table target value =
    let left = checked (assigned_only table) target in
    let right = checked (fits_target table left.value) value in
    judged (joined (left.marks ∷ quiet ∷ right.marks ∷ [])) (both assigned left.value right.value)

-- loops

-- a body as a list
abbrev pub list_of : typed.Statement → typed.Statements
list_of (typed.compound list) = list
list_of statement = typed.item None statement typed.no_statements

-- statements, and elements of a case, with one more behind them
abbrev pub with_statement : Option ℕ → typed.Statements → typed.Statement → typed.Statements
with_statement label typed.no_statements s = typed.item label s typed.no_statements
with_statement label (typed.item own first list) s = typed.item own first (with_statement label list s)

abbrev pub with_arm : Arms → List ℤ → typed.Statement → Arms
with_arm typed.no_arms values s = typed.arm values s typed.no_arms
with_arm (typed.arm own first arms) values s = typed.arm own first (with_arm arms values s)

abbrev pub condition : Table → Judged Value → Judged Value
condition table value = checked (only boolean table) value

-- the variable of a `for` is declared as one, and ordinal
abbrev pub is_declared : Mode → Bool
is_declared typed.declared = true
is_declared mode = false

abbrev pub counts : Table → Slot → Bool
counts table slot = is_declared slot.mode && is_some (range_of table slot.type)

abbrev pub for_variable : Table → Option Entity → Judged Slot
for_variable table None = refuses (wrong UNKNOWN_NAME)
for_variable table (Some (variable slot)) = if counts table slot then means slot else refuses (wrong WRONG_TYPE)
for_variable table (Some unclear) = judged quiet None
for_variable table (Some entity) = refuses (wrong WRONG_TYPE)

abbrev pub fits_slot : Table → Option Slot → Value → List Wrong
fits_slot table None value = []
fits_slot table (Some slot) value = compatible_with table slot.type value

abbrev pub for_of : Table → Judged Slot → Way → Judged Value → Judged Value → Judged typed.Statement
    → Judged typed.Statement
for_of table slot way first last body =
    let from = checked (fits_slot table slot.value) first in
    let to = checked (fits_slot table slot.value) last in
    judged (joined (quiet ∷ slot.marks ∷ quiet ∷ from.marks ∷ quiet ∷ to.marks ∷ quiet ∷ body.marks ∷ []))
    (known_of (known_of (both (λ counted lower upper statement. typed.for counted way lower upper (list_of statement))
    slot.value from.value) to.value) body.value)

-- the label of a statement
abbrev pub label_of : Statement → Option ℕ
label_of (tree.unlabelled s) = None
label_of (tree.labelled numeral colon s) = Some numeral.value

-- the constants of a case

abbrev pub is_same : ℤ → ℤ → Bool
is_same value other = int_le value other && int_le other value

abbrev pub has_value : List ℤ → ℤ → Bool
has_value values value = list_any (is_same value) values

-- a constant is of the selector's base, and was not there before
abbrev pub fits_case : Option Base → List ℤ → ConstantValue → List Wrong
fits_case None before found = []
fits_case (Some base) before found =
    if same_base base found.base then unless (not (has_value before found.value)) (wrong DUPLICATE_NAME)
    else wrong WRONG_TYPE ∷ []

abbrev pub values_known : Judged (List ℤ) → List ℤ
values_known part = unwrap_or part.value []

abbrev pub with_constant : Marks → Option Base → List ℤ → Judged (List ℤ) → Judged ConstantValue → Judged (List ℤ)
with_constant separator base before constants next =
    let part = checked (fits_case base (before ++ values_known constants)) next in
    judged (joined (constants.marks ∷ separator ∷ part.marks ∷ []))
    (both (λ values found. values ++ found.value ∷ []) constants.value part.value)

abbrev pub more_constants : Scopes → Option Base → List ℤ → Judged (List ℤ) → List (Behind Constant)
    → Judged (List ℤ)
more_constants scopes base before constants [] = constants
more_constants scopes base before constants (behind ∷ more) =
    more_constants scopes base before
    (with_constant quiet base before constants (constant_of scopes behind.item)) more

abbrev pub constants_of : Scopes → Option Base → List ℤ → Separated Constant → Judged (List ℤ)
constants_of scopes base before constants =
    more_constants scopes base before
    (with_constant no_token base before (judged no_token (Some [])) (constant_of scopes constants.first)) constants.more

-- the values of the constants of elements, of whatever base
abbrev pub constants_in : Scopes → Elements → List ℤ
constants_in scopes (tree.first_element constants colon s) = values_known (constants_of scopes None [] constants)
constants_in scopes (tree.more_elements elements line constants colon s) =
    constants_in scopes elements ++ values_known (constants_of scopes None [] constants)

abbrev pub base_of_value : Table → Option Value → Option Base
base_of_value table value = option_and_then (λ found. base_of table (type_of found)) value

-- statements: `around` are the labels of the lists around one, `before` the labels that stand before it in its block
module _ (scopes : Scopes) where
  abbrev pub test_of : tree.Expr → Judged Value
  test_of expr = condition scopes.outer.types (value_of scopes expr)

  abbrev pub marks_of_label : Spot → List ℕ → ℕ → Marks
  marks_of_label spot before label = joined (shows (label_faults scopes spot before label) ∷ quiet ∷ [])

  abbrev mutual
    pub plain_of : List ℕ → List ℕ → Plain → Judged typed.Statement
    plain_of around before tree.empty = judged no_token (Some typed.empty)
    plain_of around before (tree.assignment found line expr) =
        assignment_of scopes.outer.types (target_of scopes found) (value_of scopes expr)
    plain_of around before (tree.procedure_call name arguments) =
        calls.call_of scopes (entity_of scopes name.name) arguments
    plain_of around before (tree.compound begin list end) =
        let found = statements_of (labels_of_list list ++ around) before list in
        judged (joined (quiet ∷ found.marks ∷ quiet ∷ [])) (known typed.compound found.value)
    plain_of around before (tree.if_then line expr then_line s) =
        let test = test_of expr in
        let then_part = statement_of elsewhere around before s in
        judged (joined (quiet ∷ test.marks ∷ quiet ∷ then_part.marks ∷ []))
        (both typed.if_then test.value then_part.value)
    plain_of around before (tree.if_else line expr then_line s else_line t) =
        let test = test_of expr in
        let then_part = statement_of elsewhere around before s in
        let else_part = statement_of elsewhere around (before ++ labels_at s) t in
        judged (joined (quiet ∷ test.marks ∷ quiet ∷ then_part.marks ∷ quiet ∷ else_part.marks ∷ []))
        (known_of (both (λ value one other. typed.if_else value one other) test.value then_part.value)
        else_part.value)
    plain_of around before (tree.case line expr of_line elements tail end) =
        let selector = checked (ordinal_only scopes.outer.types) (value_of scopes expr) in
        let arms = arms_of around before (base_of_value scopes.outer.types selector.value) elements in
        let rest = others_of around (before ++ labels_in_elements elements) tail in
        judged (joined (quiet ∷ selector.marks ∷ quiet ∷ arms.marks ∷ rest.marks ∷ quiet ∷ []))
        (known_of (known_of rest.value selector.value) arms.value)
    plain_of around before (tree.while line expr do_line s) =
        let test = test_of expr in
        let body = statement_of elsewhere around before s in
        judged (joined (quiet ∷ test.marks ∷ quiet ∷ body.marks ∷ []))
        (both (λ value statement. typed.while value (list_of statement)) test.value body.value)
    plain_of around before (tree.repeat line list until expr) =
        let body = statements_of (labels_of_list list ++ around) before list in
        let test = test_of expr in
        judged (joined (quiet ∷ body.marks ∷ quiet ∷ test.marks ∷ [])) (both typed.repeat body.value test.value)
    plain_of around before (tree.for line name becomes first toward last do_line s) =
        for_of scopes.outer.types (for_variable scopes.outer.types (entity_of scopes name.name)) toward.item
        (value_of scopes first) (value_of scopes last) (statement_of elsewhere around before s)
    plain_of around before (tree.goto line numeral) =
        let target = goto_of scopes around numeral.value in
        judged (joined (quiet ∷ target.marks ∷ [])) target.value
    plain_of around before (tree.with_statement line) = judged quiet None

    pub statement_of : Spot → List ℕ → List ℕ → Statement → Judged typed.Statement
    statement_of spot around before (tree.unlabelled s) = plain_of around before s
    statement_of spot around before (tree.labelled numeral colon s) =
        let found = plain_of around (before ++ numeral.value ∷ []) s in
        judged (joined (marks_of_label spot before numeral.value ∷ found.marks ∷ [])) found.value

    pub statements_of : List ℕ → List ℕ → Statements → Judged typed.Statements
    statements_of around before (tree.first_statement s) =
        let found = statement_of in_list around before s in
        judged found.marks (known (with_statement (label_of s) typed.no_statements) found.value)
    statements_of around before (tree.more_statements list line s) =
        let found = statements_of around before list in
        let last = statement_of in_list around (before ++ labels_in_list list) s in
        judged (joined (found.marks ∷ quiet ∷ last.marks ∷ []))
        (both (with_statement (label_of s)) found.value last.value)

    pub arms_of : List ℕ → List ℕ → Option Base → Elements → Judged Arms
    arms_of around before base (tree.first_element constants colon s) =
        let values = constants_of scopes base [] constants in
        let found = statement_of elsewhere around before s in
        judged (joined (values.marks ∷ quiet ∷ found.marks ∷ []))
        (both (with_arm typed.no_arms) values.value found.value)
    arms_of around before base (tree.more_elements elements line constants colon s) =
        let arms = arms_of around before base elements in
        let values = constants_of scopes base (constants_in scopes elements) constants in
        let found = statement_of elsewhere around (before ++ labels_in_elements elements) s in
        judged (joined (arms.marks ∷ quiet ∷ values.marks ∷ quiet ∷ found.marks ∷ []))
        (known_of (both with_arm arms.value values.value) found.value)

    -- what stands behind the elements makes a case of a selector and arms
    pub others_of : List ℕ → List ℕ → Others → Judged (Value → Arms → typed.Statement)
    others_of around before tree.no_others = judged no_token (Some typed.case)
    others_of around before (tree.semicolon line) = means typed.case
    others_of around before (tree.others line others_line colon s semicolon) =
        let found = statement_of elsewhere around before s in
        judged (joined (quiet ∷ quiet ∷ quiet ∷ found.marks ∷ maybe_quiet semicolon ∷ []))
        (known (λ statement selector arms. typed.case_others selector arms statement) found.value)
