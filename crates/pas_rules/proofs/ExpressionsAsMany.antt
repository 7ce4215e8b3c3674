-- Expressions and variables show as many lists of faults as they have words.
use Rattle.std.proofs.Common.{◌≡◌, refl, sym, ap, ◌∙◌, ℕ, suc, ◌+◌, ◌<◌, arith, List, [], ◌∷◌, ◌++◌}
use Rattle.std.proofs.Common.{length, map, Option, Some, None}
use Rattle.std.specs.Prelude.{nat_le}
use Rattle.std.proofs.lemmas.List.{length-append}
use Rattle.wb_base.specs.declared.faults.TheConstants.{UNKNOWN_NAME, WRONG_TYPE, SETS, REAL_NUMBERS, POINTERS}
use Rattle.pas_tokens.specs.Cutting.{Wrong, wrong}
use Rattle.pas_syntax.specs.Words.{Word, expr_words, sum_words, term_words, factor_words, variable_words, exprs_words}
use Rattle.pas_syntax.specs.Words.{operator, at, name_at, number_at, text_at, sum_depth, term_depth, relation_kind}
use Rattle.pas_syntax.specs.Words.{adding_kind, multiplying_kind, sign_kind}
use Rattle.pas_syntax.specs.Words as words
use Rattle.pas_tokens.specs.declared.kinds.Kind.TheVariants as k
use Rattle.pas_syntax.specs.declared.operators.Multiplying.{Multiplying}
use Rattle.pas_syntax.specs.declared.operators.Adding.{Adding}
use Rattle.pas_syntax.specs.declared.operators.Relation.{Relation}
use Rattle.pas_syntax.specs.Tree as tree
use Rattle.pas_syntax.specs.Tree.{Ident, Expr, Sum, Term, Factor, Exprs}
use Rattle.pas_rules.specs.Marks.{Marks, no_token, shows, quiet}
use Rattle.pas_rules.specs.Marks.{followed, joined, Judged, checked, noted, unless}
use Rattle.pas_typed.specs.Types.{integer, boolean, PasType, Table, ArrayParts, Field, elements_of, fields_of}
use Rattle.pas_typed.specs.Typed.{FileTest, Place, Value, Variable, Slot, Heading}
use Rattle.pas_rules.specs.Scopes.{Scopes, Entity, constant, variable, routine, function, file_test, file_step}
use Rattle.pas_rules.specs.Scopes.{procedure, unclear, type, entity_of}
use Rattle.pas_rules.specs.TypeForms.{undoubled}
use Rattle.pas_rules.specs.Expressions.{value_of, sum_of, term_of, factor_of, variable_value, place_of, elements_at}
use Rattle.pas_rules.specs.Expressions.{values_of, as_value, as_place, without_arguments, function_alone, test_alone}
use Rattle.pas_rules.specs.Expressions.{heading_of, only, ordinal_only, like, record_only, files_only}
use Rattle.pas_rules.specs.Expressions.{array_only}
use Rattle.pas_rules.specs.Expressions.{indexed_by, element_by, field_at, field_in, field_by, as_array}
use Rattle.pas_rules.specs.Expressions.{Given, met, argument_marks, asked_nothing, Demand, called, not_called}
use Rattle.pas_rules.specs.Expressions.{as_call, bare_argument, call_with, function_call_of}
use Rattle.pas_rules.specs.Expressions.{comparison_of, addition_of, addition_base, product_of, product_base}
use Rattle.pas_rules.specs.Expressions.{element_of, field_of, buffer_of, closed_by, demands_of, function_demand}
use Rattle.pas_rules.specs.Expressions.{test_demand}
use Rattle.pas_rules.proofs.TypesAsMany.{char_many}
use Rattle.pas_rules.proofs.AsMany.{AsMany, one, at_first_many, checked_many, noted_many, around, behind_word}
use Rattle.pas_rules.proofs.AsMany.{before_word, between, count}
use Rattle.pas_rules.proofs.AsMany.{total, followed_count, checked_count, first_count}
use Rattle.pas_rules.proofs.AsMany.{regrouped, listed_count}
use Rattle.pas_typed.specs.TypeOf.{type_of_place}

-- names
pub place_named_many : (word : Word) (entity : Option Entity) → AsMany (word ∷ []) (as_place entity).marks
place_named_many word None = one word _
place_named_many word (Some (constant base value)) = one word _
place_named_many word (Some (type found)) = one word _
place_named_many word (Some (variable found)) = one word _
place_named_many word (Some (routine number)) = one word _
place_named_many word (Some (function found)) = one word _
place_named_many word (Some (file_test found)) = one word _
place_named_many word (Some (file_step found)) = one word _
place_named_many word (Some (procedure found)) = one word _
place_named_many word (Some unclear) = one word _

without_many : (word : Word) (number : ℕ) (result : Option PasType) (parameters : List Variable)
    → AsMany (word ∷ []) (without_arguments number result parameters).marks
without_many word number None parameters = one word _
without_many word number (Some result) [] = one word _
without_many word number (Some result) (parameter ∷ parameters) = record { same = refl }

function_many : (word : Word) (number : ℕ) (heading : Option Heading)
    → AsMany (word ∷ []) (function_alone number heading).marks
function_many word number None = one word _
function_many word number (Some heading) = without_many word number heading.result heading.parameters

test_many : (word : Word) (test : FileTest) (file : Option Slot) → AsMany (word ∷ []) (test_alone test file).marks
test_many word test None = one word _
test_many word test (Some found) = one word _

pub value_named_many : (word : Word) (scopes : Scopes) (entity : Option Entity)
    → AsMany (word ∷ []) (as_value scopes entity).marks
value_named_many word scopes None = one word _
value_named_many word scopes (Some (constant base value)) = one word _
value_named_many word scopes (Some (type found)) = one word _
value_named_many word scopes (Some (variable found)) = one word _
value_named_many word scopes (Some (routine number)) = function_many word number (heading_of scopes number)
value_named_many word scopes (Some (function found)) = record { same = refl }
value_named_many word scopes (Some (file_test test)) = test_many word test _
value_named_many word scopes (Some (file_step found)) = one word _
value_named_many word scopes (Some (procedure found)) = one word _
value_named_many word scopes (Some unclear) = one word _

-- elements and fields
indexed_many : {words : List Word} (table : Table) (index : Judged Value) (place : Place) (parts : Option ArrayParts)
    → AsMany words index.marks → AsMany words (indexed_by table index place parts).marks
indexed_many table index place None h =
    at_first_many (wrong WRONG_TYPE ∷ []) index.marks h
indexed_many table index place (Some found) h =
    checked_many (only found.indexes.base table) index h

pub element_many : {words : List Word} (table : Table) (index : Judged Value) (place : Option Place)
    → AsMany words index.marks → AsMany words (element_by table index place).marks
element_many table index None h = h
element_many table index (Some place) h =
    indexed_many table index place (elements_of table (type_of_place place)) h

field_at_many : (word : Word) (place : Place) (found : List Field) (number : Option ℕ)
    → AsMany (word ∷ []) (field_at place found number).marks
field_at_many word place found None = one word _
field_at_many word place found (Some number) = one word _

field_in_many : (word : Word) (name : List ℕ) (place : Place) (found : Option (List Field))
    → AsMany (word ∷ []) (field_in name place found).marks
field_in_many word name place None = one word _
field_in_many word name place (Some found) = field_at_many word place found _

pub field_many : (word : Word) (table : Table) (name : List ℕ) (place : Option Place)
    → AsMany (word ∷ []) (field_by table name place).marks
field_many word table name None = one word _
field_many word table name (Some place) =
    field_in_many word name place (fields_of table (type_of_place place))

-- arguments: their values, and what stands behind these
abbrev pub plain_marks : Given → Marks
plain_marks argument = joined (argument.value.marks ∷ argument.behind.marks ∷ [])

pub met_count : (demand : Demand) (argument : Given)
    → count (met demand argument).marks ≡ count (plain_marks argument)
met_count demand argument =
    let behind : Marks = joined (argument.behind.marks ∷ []) in
    followed_count (checked demand argument.value).marks behind
    ∙ (ap (λ n. n + count behind) (checked_count demand argument.value)
    ∙ sym (followed_count argument.value.marks behind))

pub met_total : (demand : Demand) (arguments : List Given)
    → total (map (λ argument. (met demand argument).marks) arguments) ≡ total (map plain_marks arguments)
met_total demand [] = refl
met_total demand (argument ∷ arguments) =
    omega (arith, met_count demand argument, met_total demand arguments)

pub arguments_total : (demands : List Demand) (arguments : List Given)
    → total (argument_marks demands arguments) ≡ total (map plain_marks arguments)
arguments_total (demand ∷ demands) (argument ∷ arguments) =
    omega (arith, met_count demand argument, arguments_total demands arguments)
arguments_total [] (argument ∷ arguments) =
    let plain : Marks = (met asked_nothing argument).marks in
    omega (
      arith,
      first_count (wrong WRONG_TYPE ∷ []) plain.behind plain.tokens,
      met_count asked_nothing argument,
      met_total asked_nothing arguments,
    )
arguments_total demands [] = refl

pub called_count : (demands : List Demand) (arguments : List Given) → 0 < total (map plain_marks arguments)
    → count (called demands arguments) ≡ suc (suc (total (map plain_marks arguments)))
called_count demands arguments h =
    let is : total (argument_marks demands arguments) ≡ total (map plain_marks arguments) =
    arguments_total demands arguments in
    let some : 0 < total (argument_marks demands arguments) = omega (arith, h, is) in
    omega (
      arith,
      is,
      listed_count quiet quiet
          (shows (unless (nat_le (length demands) (length arguments)) (wrong WRONG_TYPE)))
          (argument_marks demands arguments) some,
    )

pub not_called_count : (faults : List Wrong) (arguments : List Given) → 0 < total (map plain_marks arguments)
    → count (not_called faults arguments) ≡ suc (suc (total (map plain_marks arguments)))
not_called_count faults arguments h =
    let parts : List Marks = map (λ argument. (met asked_nothing argument).marks) arguments in
    let is : total parts ≡ total (map plain_marks arguments) = met_total asked_nothing arguments in
    let some : 0 < total parts = omega (arith, h, is) in
    omega (arith, is, listed_count (shows faults) quiet quiet parts some)

-- a call: its name, two parentheses, and the arguments with commas between them
abbrev pub IsCall : List Given → Marks → Type 0
IsCall arguments marks = count marks ≡ suc (suc (total (map plain_marks arguments)))

call_with_count : (scopes : Scopes) (number : ℕ) (heading : Heading) (arguments : List Given) (result : Option PasType)
    → 0 < total (map plain_marks arguments) → IsCall arguments (call_with scopes number heading arguments result).marks
call_with_count scopes number heading arguments None h = not_called_count (wrong WRONG_TYPE ∷ []) arguments h
call_with_count scopes number heading arguments (Some found) h =
    called_count (demands_of scopes.outer.types heading.parameters) arguments h

function_call_count : (scopes : Scopes) (number : ℕ) (arguments : List Given) (heading : Option Heading)
    → 0 < total (map plain_marks arguments) → IsCall arguments (function_call_of scopes number arguments heading).marks
function_call_count scopes number arguments None h = not_called_count [] arguments h
function_call_count scopes number arguments (Some heading) h =
    call_with_count scopes number heading arguments heading.result h

call_count : (scopes : Scopes) (arguments : List Given) (entity : Option Entity)
    → 0 < total (map plain_marks arguments) → IsCall arguments (as_call scopes arguments entity).marks
call_count scopes arguments None h = not_called_count (wrong UNKNOWN_NAME ∷ []) arguments h
call_count scopes arguments (Some (constant base value)) h = not_called_count (wrong WRONG_TYPE ∷ []) arguments h
call_count scopes arguments (Some (type found)) h = not_called_count (wrong WRONG_TYPE ∷ []) arguments h
call_count scopes arguments (Some (variable found)) h = not_called_count (wrong WRONG_TYPE ∷ []) arguments h
call_count scopes arguments (Some (routine number)) h =
    function_call_count scopes number arguments (heading_of scopes number) h
call_count scopes arguments (Some (function found)) h =
    called_count (function_demand scopes.outer.types found ∷ []) arguments h
call_count scopes arguments (Some (file_test test)) h =
    called_count (test_demand scopes.outer.types test ∷ []) arguments h
call_count scopes arguments (Some (file_step found)) h = not_called_count (wrong WRONG_TYPE ∷ []) arguments h
call_count scopes arguments (Some (procedure found)) h = not_called_count (wrong WRONG_TYPE ∷ []) arguments h
call_count scopes arguments (Some unclear) h = not_called_count [] arguments h

bare_total : (values more : List (Judged Value))
    → total (map plain_marks (map bare_argument (values ++ more)))
    ≡ total (map plain_marks (map bare_argument values)) + total (map plain_marks (map bare_argument more))
bare_total [] more = omega arith
bare_total (value ∷ values) more = omega (arith, bare_total values more)

-- productions
comparison_many : {words more : List Word} (word : Word) (table : Table) (left : Judged Value) (op : Relation)
    (right : Judged Value) → AsMany words left.marks → AsMany more right.marks
    → AsMany (words ++ word ∷ more) (comparison_of table left op right).marks
comparison_many word table left op right h k =
    let first : Judged Value = noted (ordinal_only table) left in
    around word first.marks (noted (like table first.value) right).marks (noted_many (ordinal_only table) left h)
    (noted_many (like table first.value) right k)

addition_many : {words more : List Word} (word : Word) (table : Table) (left : Judged Value) (op : Adding)
    (right : Judged Value) → AsMany words left.marks → AsMany more right.marks
    → AsMany (words ++ word ∷ more) (addition_of table left op right).marks
addition_many word table left op right h k =
    let demand : Demand = only (addition_base op) table in
    around word (noted demand left).marks (noted demand right).marks (noted_many demand left h)
    (noted_many demand right k)

product_many : {words more : List Word} (word : Word) (table : Table) (left : Judged Value) (op : Multiplying)
    (right : Judged Value) → AsMany words left.marks → AsMany more right.marks
    → AsMany (words ++ word ∷ more) (product_of table left op right).marks
product_many word table left op right h k =
    let demand : Demand = only (product_base op) table in
    around word (noted demand left).marks (noted demand right).marks (noted_many demand left h)
    (noted_many demand right k)

element_of_many : {words more : List Word} (word : Word) (table : Table) (before : Judged Place) (index : Judged Value)
    → AsMany words before.marks → AsMany more index.marks
    → AsMany (words ++ word ∷ more) (element_of table before index).marks
element_of_many word table before index h k =
    around word before.marks (element_by table index before.value).marks h (element_many table index before.value k)

field_of_many : {words : List Word} (dot name : Word) (table : Table) (before : Judged Place) (ident : Ident)
    → AsMany words before.marks → AsMany (words ++ dot ∷ (name ∷ [])) (field_of table before ident).marks
field_of_many dot name table before ident h =
    let whole_record : Judged Place = checked (record_only table) before in
    around dot whole_record.marks (field_by table ident.name whole_record.value).marks
    (checked_many (record_only table) before h) (field_many name table ident.name whole_record.value)

buffer_of_many : {words : List Word} (caret : Word) (table : Table) (before : Judged Place)
    → AsMany words before.marks → AsMany (words ++ caret ∷ []) (buffer_of table before).marks
buffer_of_many caret table before h =
    before_word caret (checked (files_only table) before).marks (checked_many (files_only table) before h)

closed_many : (words list : List Word) (opened closed : Word) (found : Judged Place)
    → AsMany (words ++ opened ∷ list) found.marks
    → AsMany (words ++ opened ∷ (list ++ closed ∷ [])) (closed_by found).marks
closed_many words list opened closed found h =
    regrouped words (opened ∷ list) (closed ∷ []) (closed_by found).marks (before_word closed found.marks h)

module _ (scopes : Scopes) where
  mutual
    pub value_many : (n a : ℕ) (e : Expr) → AsMany (expr_words n a e) (value_of scopes e).marks
    value_many n a (tree.sum s) = sum_many n a s
    value_many n a (tree.relation left op right) =
        comparison_many (operator n (a + 1 + sum_depth left) (relation_kind op.item) op.line) scopes.outer.types
        (sum_of scopes left) op.item (sum_of scopes right) (sum_many n a left) (sum_many n (a + 1) right)

    pub sum_many : (n a : ℕ) (s : Sum) → AsMany (sum_words n a s) (sum_of scopes s).marks
    sum_many n a (tree.first_term t) = term_many n a t
    sum_many n a (tree.signed_term lead t) =
        let demand : Demand = only integer scopes.outer.types in
        behind_word (operator n (a + 1) (sign_kind lead.item) lead.line) (noted demand (term_of scopes t)).marks
        (noted_many demand (term_of scopes t) (term_many n (a + 1) t))
    sum_many n a (tree.more_terms left op t) =
        addition_many (operator n (a + 1 + sum_depth left) (adding_kind op.item) op.line) scopes.outer.types
        (sum_of scopes left) op.item (term_of scopes t) (sum_many n a left) (term_many n (a + 1) t)
    sum_many n a (tree.membership left line) =
        before_word (words.shows n k.In line SETS) (sum_of scopes left).marks (sum_many n a left)

    pub term_many : (n a : ℕ) (t : Term) → AsMany (term_words n a t) (term_of scopes t).marks
    term_many n a (tree.first_factor f) = factor_many n a f
    term_many n a (tree.more_factors left op f) =
        product_many (operator n (a + 1 + term_depth left) (multiplying_kind op.item) op.line) scopes.outer.types
        (term_of scopes left) op.item (factor_of scopes f) (term_many n a left) (factor_many n (a + 1) f)
    term_many n a (tree.quotient left line) =
        before_word (words.shows n k.Slash line REAL_NUMBERS) (term_of scopes left).marks (term_many n a left)

    pub factor_many : (n a : ℕ) (f : Factor) → AsMany (factor_words n a f) (factor_of scopes f).marks
    factor_many n a (tree.literal numeral) = one (number_at n numeral) []
    factor_many n a (tree.literal_text quoted) = char_many (text_at n quoted) (undoubled quoted.text)
    factor_many n a (tree.parenthesized opened e closed) =
        between (at (n + 1) k.LeftParenthesis opened) (at (n + 1) k.RightParenthesis closed) (value_of scopes e).marks
        (value_many (n + 1) a e)
    factor_many n a (tree.negated line f) =
        let demand : Demand = only boolean scopes.outer.types in
        behind_word (operator n (a + 1) k.Not line) (noted demand (factor_of scopes f)).marks
        (noted_many demand (factor_of scopes f) (factor_many n (a + 1) f))
    factor_many n a (tree.variable v) = variable_value_many n a v
    factor_many n a (tree.function_call name opened arguments closed) =
        let given : List Given = map bare_argument (values_of scopes arguments) in
        let all_values : total (map plain_marks given) ≡ suc (length (exprs_words (n + 1) a arguments)) =
        values_total (n + 1) a arguments in
        record {
          same = omega (
            arith,
            all_values,
            call_count scopes given (entity_of scopes name.name)
                (omega (arith, all_values)),
            length-append (exprs_words (n + 1) a arguments) (at (n + 1) k.RightParenthesis closed ∷ []),
          );
        }
    factor_many n a (tree.set_value line) = one (words.shows n k.LeftBracket line SETS) []
    factor_many n a (tree.nil line) = one (words.shows n k.Nil line POINTERS) []

    pub variable_value_many : (n a : ℕ) (v : tree.Variable)
        → AsMany (variable_words n a v) (variable_value scopes v).marks
    variable_value_many n a (tree.whole ident) =
        value_named_many (name_at n ident) scopes (entity_of scopes ident.name)
    variable_value_many n a (tree.indexed v opened indexes closed) =
        let array : Judged Place = as_array scopes.outer.types (place_of scopes v) in
        closed_many (variable_words n a v) (exprs_words (n + 1) a indexes) (at (n + 1) k.LeftBracket opened)
        (at (n + 1) k.RightBracket closed) (elements_at scopes array indexes)
        (elements_many (n + 1) a array (at (n + 1) k.LeftBracket opened) indexes
        (checked_many (array_only scopes.outer.types) (place_of scopes v) (place_many n a v)))
    variable_value_many n a (tree.field_of v line ident) =
        field_of_many (at n k.Dot line) (name_at n ident) scopes.outer.types (place_of scopes v) ident
        (place_many n a v)
    variable_value_many n a (tree.buffer_of v line) =
        buffer_of_many (at n k.Caret line) scopes.outer.types (place_of scopes v) (place_many n a v)

    pub place_many : (n a : ℕ) (v : tree.Variable) → AsMany (variable_words n a v) (place_of scopes v).marks
    place_many n a (tree.whole ident) = place_named_many (name_at n ident) (entity_of scopes ident.name)
    place_many n a (tree.indexed v opened indexes closed) =
        let array : Judged Place = as_array scopes.outer.types (place_of scopes v) in
        closed_many (variable_words n a v) (exprs_words (n + 1) a indexes) (at (n + 1) k.LeftBracket opened)
        (at (n + 1) k.RightBracket closed) (elements_at scopes array indexes)
        (elements_many (n + 1) a array (at (n + 1) k.LeftBracket opened) indexes
        (checked_many (array_only scopes.outer.types) (place_of scopes v) (place_many n a v)))
    place_many n a (tree.field_of v line ident) =
        field_of_many (at n k.Dot line) (name_at n ident) scopes.outer.types (place_of scopes v) ident
        (place_many n a v)
    place_many n a (tree.buffer_of v line) =
        buffer_of_many (at n k.Caret line) scopes.outer.types (place_of scopes v) (place_many n a v)

    -- an index list behind a place, with the bracket before it
    pub elements_many : {words : List Word} (n a : ℕ) (place : Judged Place) (opened : Word) (es : Exprs)
        → AsMany words place.marks
        → AsMany (words ++ opened ∷ exprs_words n a es) (elements_at scopes place es).marks
    elements_many n a place opened (tree.first_expr e) h =
        element_of_many opened scopes.outer.types place (value_of scopes e) h (value_many n a e)
    elements_many {words = words} n a place opened (tree.more_exprs before line e) h =
        regrouped words (opened ∷ exprs_words n a before) (at n k.Comma line ∷ expr_words n a e)
        (element_of scopes.outer.types (elements_at scopes place before) (value_of scopes e)).marks
        (element_of_many (at n k.Comma line) scopes.outer.types (elements_at scopes place before) (value_of scopes e)
        (elements_many n a place opened before h) (value_many n a e))

    pub values_total : (n a : ℕ) (es : Exprs)
        → total (map plain_marks (map bare_argument (values_of scopes es))) ≡ suc (length (exprs_words n a es))
    values_total n a (tree.first_expr e) =
        omega (arith, (value_many n a e).same, followed_count (value_of scopes e).marks (followed no_token no_token))
    values_total n a (tree.more_exprs before line e) =
        omega (
          arith,
          bare_total (values_of scopes before) (value_of scopes e ∷ []),
          values_total n a before,
          (value_many n a e).same,
          followed_count (value_of scopes e).marks (followed no_token no_token),
          length-append (exprs_words n a before) (at n k.Comma line ∷ expr_words n a e),
        )
