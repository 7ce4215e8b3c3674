-- Statements show as many lists of faults as they have words.
use Rattle.std.proofs.Common.{ℕ, ◌+◌, Bool, true, false, List, [], ◌∷◌, ◌++◌}
use Rattle.std.proofs.Common.{ℤ, Option, Some, None}
use Rattle.std.specs.Prelude.{flat_map, if◌then◌else◌, ◌==◌, nat_lt, option_and_then}
use Rattle.wb_base.specs.declared.faults.TheConstants.{WRONG_TYPE, WRONG_LABEL, WRONG_GOTO}
use Rattle.wb_base.specs.declared.faults.TheConstants.{CONSTANT_OUT_OF_RANGE, WITH_STATEMENTS}
use Rattle.pas_tokens.specs.declared.kinds.Kind.TheVariants as k
use Rattle.pas_tokens.specs.Cutting.{Wrong, wrong}
use Rattle.pas_syntax.specs.Tree as tree
use Rattle.pas_syntax.specs.Tree.{Behind, Separated, Constant, Plain, Statement, Statements, Elements, Others}
use Rattle.pas_syntax.specs.Words.{Word, at, name_at, number_at, separated, expr_words, variable_words, constant_words}
use Rattle.pas_syntax.specs.Words.{plain_words, statement_words, statements_words, elements_words, others_words}
use Rattle.pas_syntax.specs.Words.{others_word, way_kind}
use Rattle.pas_syntax.specs.Words as words
use Rattle.pas_rules.specs.declared.limits.TheConstants.{GREATEST_LABEL}
use Rattle.pas_rules.specs.Marks.{Marks, no_token, shows, quiet, joined, Judged, judged, checked, means}
use Rattle.pas_rules.specs.Marks.{refuses}
use Rattle.pas_typed.specs.Types.{Base, boolean, PasType, Table}
use Rattle.pas_typed.specs.Typed.{Slot, Value}
use Rattle.pas_typed.specs.Typed as typed
use Rattle.pas_rules.specs.Scopes.{Outer, Inner, Scopes, Entity, constant, variable, routine, function, file_test}
use Rattle.pas_rules.specs.Scopes.{file_step, procedure, unclear, type, entity_of}
use Rattle.pas_rules.specs.TypeForms.{ConstantValue, constant_of, maybe_quiet}
use Rattle.pas_rules.specs.Expressions.{value_of, only, ordinal_only, heading_of}
use Rattle.pas_rules.specs.Labels.{Spot, in_list, elsewhere, label_faults, goto_of, goto_in, to_list, to_program}
use Rattle.pas_rules.specs.Labels.{has_label, is_last, labels_at, labels_in_list, labels_in_elements, labels_of_list}
use Rattle.pas_rules.specs.Statements.{Target, target_result, target_routine, target_named, target_of, assigned_only}
use Rattle.pas_rules.specs.Statements.{fits_target, counts, for_variable, fits_slot}
use Rattle.pas_rules.specs.Statements.{fits_case, values_known, with_constant, more_constants, constants_of}
use Rattle.pas_rules.specs.Statements.{constants_in, base_of_value, test_of, plain_of, statement_of}
use Rattle.pas_rules.specs.Statements.{statements_of, arms_of, others_of}
use Rattle.pas_rules.proofs.AsMany.{AsMany, none, one, and_then, all, next_word, around, behind_word, before_word}
use Rattle.pas_rules.proofs.AsMany.{between, checked_many, maybe_many, regrouped, nothing_behind}
use Rattle.pas_rules.proofs.TypesAsMany.{constant_many}
use Rattle.pas_rules.proofs.ExpressionsAsMany.{value_many, place_many}
use Rattle.pas_rules.proofs.CallsAsMany.{call_many}

-- what is assigned to
result_many : (word : Word) (inner : Inner) (result : Option PasType)
    → AsMany (word ∷ []) (target_result inner result).marks
result_many word inner None = one word _
result_many word inner (Some found) = one word _

own_result_many : (word : Word) (inner : Inner) (result : Option PasType) (is_own : Bool)
    → AsMany (word ∷ []) (if is_own then target_result inner result else refuses (wrong WRONG_TYPE)).marks
own_result_many word inner result true = result_many word inner result
own_result_many word inner result false = one word _

routine_many : (word : Word) (scopes : Scopes) (inner : Option Inner) (number : ℕ)
    → AsMany (word ∷ []) (target_routine scopes inner number).marks
routine_many word scopes None number = one word _
routine_many word scopes (Some inner) number =
    own_result_many word inner (option_and_then (λ heading. heading.result) (heading_of scopes number))
    (inner.number == number)

target_named_many : (word : Word) (scopes : Scopes) (entity : Option Entity)
    → AsMany (word ∷ []) (target_named scopes entity).marks
target_named_many word scopes None = one word _
target_named_many word scopes (Some (constant base value)) = one word _
target_named_many word scopes (Some (type found)) = one word _
target_named_many word scopes (Some (variable found)) = one word _
target_named_many word scopes (Some (routine number)) = routine_many word scopes scopes.inner number
target_named_many word scopes (Some (function found)) = one word _
target_named_many word scopes (Some (file_test found)) = one word _
target_named_many word scopes (Some (file_step found)) = one word _
target_named_many word scopes (Some (procedure found)) = one word _
target_named_many word scopes (Some unclear) = one word _

target_many : (scopes : Scopes) (n : ℕ) (found : tree.Variable)
    → AsMany (variable_words n 0 found) (target_of scopes found).marks
target_many scopes n (tree.whole ident) =
    target_named_many (name_at n ident) scopes (entity_of scopes ident.name)
target_many scopes n (tree.indexed v opened indexes closed) =
    place_many scopes n 0 (tree.indexed v opened indexes closed)
target_many scopes n (tree.field_of v line ident) = place_many scopes n 0 (tree.field_of v line ident)
target_many scopes n (tree.buffer_of v line) = place_many scopes n 0 (tree.buffer_of v line)

-- the variable of a `for`
counting_many : (word : Word) (slot : Slot) (is_fit : Bool)
    → AsMany (word ∷ []) (if is_fit then means slot else refuses (wrong WRONG_TYPE)).marks
counting_many word slot true = one word _
counting_many word slot false = one word _

for_variable_many : (word : Word) (table : Table) (entity : Option Entity)
    → AsMany (word ∷ []) (for_variable table entity).marks
for_variable_many word table None = one word _
for_variable_many word table (Some (constant base value)) = one word _
for_variable_many word table (Some (type found)) = one word _
for_variable_many word table (Some (variable found)) = counting_many word found (counts table found)
for_variable_many word table (Some (routine number)) = one word _
for_variable_many word table (Some (function found)) = one word _
for_variable_many word table (Some (file_test found)) = one word _
for_variable_many word table (Some (file_step found)) = one word _
for_variable_many word table (Some (procedure found)) = one word _
for_variable_many word table (Some unclear) = one word _

-- the label of a goto
to_list_many : (word : Word) (is_around : Bool) (label : ℕ) → AsMany (word ∷ []) (to_list is_around label).marks
to_list_many word true label = one word _
to_list_many word false label = one word _

last_many : (word : Word) (is_last : Bool) (target other : Judged typed.Statement)
    → AsMany (word ∷ []) target.marks → AsMany (word ∷ []) other.marks
    → AsMany (word ∷ []) (if is_last then target else other).marks
last_many word true target other h k = h
last_many word false target other h k = k

to_program_many : (word : Word) (outer : Outer) (label : ℕ) → AsMany (word ∷ []) (to_program outer label).marks
to_program_many word outer label =
    last_many word (has_label outer.labels label)
    (if is_last outer.last_label label then means (typed.goto_last 1) else refuses (wrong WRONG_GOTO))
    (refuses (wrong WRONG_LABEL))
    (last_many word (is_last outer.last_label label) (means (typed.goto_last 1)) (refuses (wrong WRONG_GOTO))
    (one word []) (one word (wrong WRONG_GOTO ∷ [])))
    (one word (wrong WRONG_LABEL ∷ []))

goto_in_many : (word : Word) (outer : Outer) (inner : Option Inner) (labels : List ℕ) (label : ℕ)
    → AsMany (word ∷ []) (goto_in outer inner labels label).marks
goto_in_many word outer None labels label =
    last_many word (has_label outer.labels label)
    (if is_last outer.last_label label then means (typed.goto_last 0) else to_list (has_label labels label) label)
    (refuses (wrong WRONG_LABEL))
    (last_many word (is_last outer.last_label label) (means (typed.goto_last 0))
    (to_list (has_label labels label) label)
    (one word []) (to_list_many word (has_label labels label) label))
    (one word (wrong WRONG_LABEL ∷ []))
goto_in_many word outer (Some inner) labels label =
    last_many word (has_label inner.labels label) (to_list (has_label labels label) label) (to_program outer label)
    (to_list_many word (has_label labels label) label) (to_program_many word outer label)

goto_many : (word : Word) (scopes : Scopes) (labels : List ℕ) (label : ℕ)
    → AsMany (word ∷ []) (goto_of scopes labels label).marks
goto_many word scopes labels label =
    last_many word (nat_lt GREATEST_LABEL label) (refuses (wrong CONSTANT_OUT_OF_RANGE))
    (goto_in scopes.outer scopes.inner labels label) (one word (wrong CONSTANT_OUT_OF_RANGE ∷ []))
    (goto_in_many word scopes.outer scopes.inner labels label)

-- the constants of a case
more_constants_many : (scopes : Scopes) (base : Option Base) (before : List ℤ) (n : ℕ) (words : List Word)
    (found : Judged (List ℤ)) (more : List (Behind Constant)) → AsMany words found.marks
    → AsMany (words ++ flat_map (λ behind. at n k.Comma behind.line ∷ constant_words n behind.item) more)
    (more_constants scopes base before found more).marks
more_constants_many scopes base before n words found [] h = nothing_behind words found.marks h
more_constants_many scopes base before n words found (behind ∷ more) h =
    let demand : ConstantValue → List Wrong = fits_case base (before ++ values_known found) in
    let next : Judged ConstantValue = constant_of scopes behind.item in
    regrouped words (at n k.Comma behind.line ∷ constant_words n behind.item)
    (flat_map (λ other. at n k.Comma other.line ∷ constant_words n other.item) more)
    (more_constants scopes base before found (behind ∷ more)).marks
    (more_constants_many scopes base before n (words ++ at n k.Comma behind.line ∷ constant_words n behind.item)
    (with_constant quiet base before found next) more
    (around (at n k.Comma behind.line) found.marks (checked demand next).marks h
    (checked_many demand next (constant_many scopes n behind.item))))

pub constants_many : (scopes : Scopes) (base : Option Base) (before : List ℤ) (n : ℕ) (constants : Separated Constant)
    → AsMany (separated n k.Comma (constant_words n) constants) (constants_of scopes base before constants).marks
constants_many scopes base before n constants =
    let start : Judged (List ℤ) = judged no_token (Some []) in
    let demand : ConstantValue → List Wrong = fits_case base (before ++ values_known start) in
    let first : Judged ConstantValue = constant_of scopes constants.first in
    more_constants_many scopes base before n (constant_words n constants.first)
    (with_constant no_token base before start first) constants.more
    (and_then no_token (joined (no_token ∷ (checked demand first).marks ∷ [])) none
    (and_then no_token (joined ((checked demand first).marks ∷ [])) none
    (all (checked demand first).marks (checked_many demand first (constant_many scopes n constants.first)))))

module _ (scopes : Scopes) where
  pub test_many : (n : ℕ) (expr : tree.Expr) → AsMany (expr_words n 0 expr) (test_of scopes expr).marks
  test_many n expr = checked_many (only boolean scopes.outer.types) (value_of scopes expr) (value_many scopes n 0 expr)

  -- a word, a condition, a word, and what stands behind it
  guarded : {more : List Word} (n : ℕ) (first second : Word) (expr : tree.Expr) (rest : Marks) → AsMany more rest
      → AsMany (first ∷ (expr_words n 0 expr ++ second ∷ more))
      (joined (quiet ∷ (test_of scopes expr).marks ∷ quiet ∷ rest ∷ []))
  guarded n first second expr rest h =
      next_word first [] (joined ((test_of scopes expr).marks ∷ quiet ∷ rest ∷ []))
      (around second (test_of scopes expr).marks rest (test_many n expr) h)

  mutual
    pub plain_many : (n : ℕ) (labels before : List ℕ) (s : Plain)
        → AsMany (plain_words n s) (plain_of scopes labels before s).marks
    plain_many n labels before tree.empty = none
    plain_many n labels before (tree.assignment found line expr) =
        let target : Judged Target = checked (assigned_only scopes.outer.types) (target_of scopes found) in
        let demand : Value → List Wrong = fits_target scopes.outer.types target.value in
        around (at n k.Becomes line) target.marks (checked demand (value_of scopes expr)).marks
        (checked_many (assigned_only scopes.outer.types) (target_of scopes found) (target_many scopes n found))
        (checked_many demand (value_of scopes expr) (value_many scopes n 0 expr))
    plain_many n labels before (tree.procedure_call name arguments) =
        call_many scopes n name (entity_of scopes name.name) arguments
    plain_many n labels before (tree.compound begin list end) =
        between (at (n + 1) k.Begin begin) (at (n + 1) k.End end)
        (statements_of scopes (labels_of_list list ++ labels) before list).marks
        (statements_many (n + 1) (labels_of_list list ++ labels) before list)
    plain_many n labels before (tree.if_then line expr then_line s) =
        guarded (n + 1) (at (n + 1) k.If line) (at (n + 1) k.Then then_line) expr
        (statement_of scopes elsewhere labels before s).marks (statement_many (n + 1) elsewhere labels before s)
    plain_many n labels before (tree.if_else line expr then_line s else_line t) =
        let one_part : Marks = (statement_of scopes elsewhere labels before s).marks in
        let other : Marks = (statement_of scopes elsewhere labels (before ++ labels_at s) t).marks in
        next_word (at (n + 1) k.If line) []
        (joined ((test_of scopes expr).marks ∷ quiet ∷ one_part ∷ quiet ∷ other ∷ []))
        (and_then (test_of scopes expr).marks (joined (quiet ∷ one_part ∷ quiet ∷ other ∷ [])) (test_many (n + 1) expr)
        (next_word (at (n + 1) k.Then then_line) [] (joined (one_part ∷ quiet ∷ other ∷ []))
        (around (at (n + 1) k.Else else_line) one_part other (statement_many (n + 1) elsewhere labels before s)
        (statement_many (n + 1) elsewhere labels (before ++ labels_at s) t))))
    plain_many n labels before (tree.case line expr of_line elements tail end) =
        let selector : Judged Value = checked (ordinal_only scopes.outer.types) (value_of scopes expr) in
        let base : Option Base = base_of_value scopes.outer.types selector.value in
        let arms : Marks = (arms_of scopes labels before base elements).marks in
        let rest : Marks = (others_of scopes labels (before ++ labels_in_elements elements) tail).marks in
        next_word (at (n + 1) k.Case line) [] (joined (selector.marks ∷ quiet ∷ arms ∷ rest ∷ quiet ∷ []))
        (and_then selector.marks (joined (quiet ∷ arms ∷ rest ∷ quiet ∷ []))
        (checked_many (ordinal_only scopes.outer.types) (value_of scopes expr) (value_many scopes (n + 1) 0 expr))
        (next_word (at (n + 1) k.Of of_line) [] (joined (arms ∷ rest ∷ quiet ∷ []))
        (and_then arms (joined (rest ∷ quiet ∷ [])) (elements_many (n + 1) labels before base elements)
        (before_word (at (n + 1) k.End end) rest
        (others_many (n + 1) labels (before ++ labels_in_elements elements) tail)))))
    plain_many n labels before (tree.while line expr do_line s) =
        guarded (n + 1) (at (n + 1) k.While line) (at (n + 1) k.Do do_line) expr
        (statement_of scopes elsewhere labels before s).marks (statement_many (n + 1) elsewhere labels before s)
    plain_many n labels before (tree.repeat line list until expr) =
        let body : Marks = (statements_of scopes (labels_of_list list ++ labels) before list).marks in
        next_word (at (n + 1) k.Repeat line) [] (joined (body ∷ quiet ∷ (test_of scopes expr).marks ∷ []))
        (around (at (n + 1) k.Until until) body (test_of scopes expr).marks
        (statements_many (n + 1) (labels_of_list list ++ labels) before list) (test_many (n + 1) expr))
    plain_many n labels before (tree.for line name becomes first toward last do_line s) =
        let slot : Judged Slot = for_variable scopes.outer.types (entity_of scopes name.name) in
        let demand : Value → List Wrong = fits_slot scopes.outer.types slot.value in
        let low : Marks = (checked demand (value_of scopes first)).marks in
        let high : Marks = (checked demand (value_of scopes last)).marks in
        let body : Marks = (statement_of scopes elsewhere labels before s).marks in
        next_word (at (n + 1) k.For line) [] (joined (slot.marks ∷ quiet ∷ low ∷ quiet ∷ high ∷ quiet ∷ body ∷ []))
        (and_then slot.marks (joined (quiet ∷ low ∷ quiet ∷ high ∷ quiet ∷ body ∷ []))
        (for_variable_many (name_at (n + 1) name) scopes.outer.types (entity_of scopes name.name))
        (next_word (at (n + 1) k.Becomes becomes) [] (joined (low ∷ quiet ∷ high ∷ quiet ∷ body ∷ []))
        (and_then low (joined (quiet ∷ high ∷ quiet ∷ body ∷ []))
        (checked_many demand (value_of scopes first) (value_many scopes (n + 1) 0 first))
        (next_word (at (n + 1) (way_kind toward.item) toward.line) [] (joined (high ∷ quiet ∷ body ∷ []))
        (around (at (n + 1) k.Do do_line) high body
        (checked_many demand (value_of scopes last) (value_many scopes (n + 1) 0 last))
        (statement_many (n + 1) elsewhere labels before s))))))
    plain_many n labels before (tree.goto line numeral) =
        behind_word (at n k.Goto line) (goto_of scopes labels numeral.value).marks
        (goto_many (number_at n numeral) scopes labels numeral.value)
    plain_many n labels before (tree.with_statement line) = one (words.shows n k.With line WITH_STATEMENTS) []

    pub statement_many : (n : ℕ) (spot : Spot) (labels before : List ℕ) (s : Statement)
        → AsMany (statement_words n s) (statement_of scopes spot labels before s).marks
    statement_many n spot labels before (tree.unlabelled s) = plain_many n labels before s
    statement_many n spot labels before (tree.labelled numeral colon s) =
        let found : Marks = (plain_of scopes labels (before ++ numeral.value ∷ []) s).marks in
        let faults : List Wrong = label_faults scopes spot before numeral.value in
        and_then (joined (shows faults ∷ quiet ∷ [])) (joined (found ∷ []))
        (next_word (number_at n numeral) faults (joined (quiet ∷ [])) (all quiet (one (at n k.Colon colon) [])))
        (all found (plain_many n labels (before ++ numeral.value ∷ []) s))

    pub statements_many : (n : ℕ) (labels before : List ℕ) (list : Statements)
        → AsMany (statements_words n list) (statements_of scopes labels before list).marks
    statements_many n labels before (tree.first_statement s) = statement_many n in_list labels before s
    statements_many n labels before (tree.more_statements list line s) =
        let behind : List ℕ = before ++ labels_in_list list in
        around (at n k.Semicolon line) (statements_of scopes labels before list).marks
        (statement_of scopes in_list labels behind s).marks (statements_many n labels before list)
        (statement_many n in_list labels behind s)

    pub elements_many : (n : ℕ) (labels before : List ℕ) (base : Option Base) (elements : Elements)
        → AsMany (elements_words n elements) (arms_of scopes labels before base elements).marks
    elements_many n labels before base (tree.first_element constants colon s) =
        around (at n k.Colon colon) (constants_of scopes base [] constants).marks
        (statement_of scopes elsewhere labels before s).marks (constants_many scopes base [] n constants)
        (statement_many n elsewhere labels before s)
    elements_many n labels before base (tree.more_elements elements line constants colon s) =
        let arms : Marks = (arms_of scopes labels before base elements).marks in
        let values : Marks = (constants_of scopes base (constants_in scopes elements) constants).marks in
        let behind : List ℕ = before ++ labels_in_elements elements in
        let found : Marks = (statement_of scopes elsewhere labels behind s).marks in
        and_then arms (joined (quiet ∷ values ∷ quiet ∷ found ∷ [])) (elements_many n labels before base elements)
        (next_word (at n k.Semicolon line) [] (joined (values ∷ quiet ∷ found ∷ []))
        (around (at n k.Colon colon) values found
        (constants_many scopes base (constants_in scopes elements) n constants)
        (statement_many n elsewhere labels behind s)))

    pub others_many : (n : ℕ) (labels before : List ℕ) (tail : Others)
        → AsMany (others_words n tail) (others_of scopes labels before tail).marks
    others_many n labels before tree.no_others = none
    others_many n labels before (tree.semicolon line) = one (at n k.Semicolon line) []
    others_many n labels before (tree.others line others_line colon s semicolon) =
        let found : Marks = (statement_of scopes elsewhere labels before s).marks in
        next_word (at n k.Semicolon line) [] (joined (quiet ∷ quiet ∷ found ∷ maybe_quiet semicolon ∷ []))
        (next_word (others_word n others_line) [] (joined (quiet ∷ found ∷ maybe_quiet semicolon ∷ []))
        (next_word (at n k.Colon colon) [] (joined (found ∷ maybe_quiet semicolon ∷ []))
        (and_then found (joined (maybe_quiet semicolon ∷ [])) (statement_many n elsewhere labels before s)
        (all (maybe_quiet semicolon) (maybe_many n k.Semicolon semicolon)))))
