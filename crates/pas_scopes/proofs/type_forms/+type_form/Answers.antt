use Rattle.std.proofs.Common.{◌≡◌, refl, sym, ap, subst, ◌∙◌, ℕ, ◌+◌, List, [], ◌++◌, map, take, Option, Some, None}
use Rattle.std.proofs.Common.{Result, Ok, Err, ◌≢◌}
use Rattle.std.specs.Prelude.{OnOk}
use Rattle.pas_scopes.specs.declared.stop.Stop.{Stop}
use Rattle.pas_scopes.specs.declared.stop.Stop.TheVariants as stop
use Rattle.pas_scopes.specs.DeclaredSoFar.{first_noted}
use Rattle.pas_scopes.specs.Constants.{IsUnknownBy}
use Rattle.pas_scopes.specs.NameAnswers.{AreNewNames}
use Rattle.wb_base.specs.declared.faults.Fault.{Fault}
use Rattle.pas_scopes.specs.declared.judged.Judged.{Judged as CodeJudged}
use Rattle.pas_typed.specs.declared.types.PasType.{PasType as CodePasType}
use Rattle.pas_typed.specs.Types as types
use Rattle.pas_typed.specs.TypeViews.{range_view}
use Rattle.pas_rules.specs.TypeForms.{simple_of, arrays}
use Rattle.std.proofs.lemmas.List.{take_all}
use Rattle.std.proofs.lemmas.Result.{err_from_is_err_and}
use Rattle.pas_tokens.specs.declared.kinds.Kind.TheVariants as k
use Rattle.pas_syntax.specs.declared.tree.ArrayHead.{ArrayHead}
use Rattle.pas_syntax.specs.declared.tree.TypeForm as code_form
use Rattle.pas_syntax.specs.declared.tree.RecordForm as code_record
use Rattle.pas_syntax.specs.declared.tree.TypeForm.TheViews.{out-RecordForm, out-FieldGroup}
use Rattle.pas_syntax.specs.declared.tree.FileHead.{FileHead}
use Rattle.pas_syntax.specs.Tree as tree
use Rattle.pas_syntax.specs.Tree.{Idents, TypeForm, Fields}
use Rattle.pas_syntax.specs.Views.{simple_in, ident_in, separated_in}
use Rattle.pas_syntax.specs.Words.{separated, simple_words, type_words, fields_words}
use Rattle.pas_syntax.specs.ProgramViews.{type_in}
use Rattle.pas_syntax.proofs.TypeSteps.{simple_view, array_view, record_view, file_view}
use Rattle.pas_typed.specs.Types.{Table, Made, made}
use Rattle.pas_typed.specs.TypeViews.{table_view}
use Rattle.pas_typed.specs.declared.types.Field.{Field as CodeField}
use Rattle.pas_scopes.specs.declared.scopes.Scopes.{Scopes as CodeScopes}
use Rattle.pas_rules.specs.Scopes.{spellings_of}
use Rattle.pas_rules.specs.TypeForms.{form_of, indexes_of, table_of_indexes, groups_of, field_names}
use Rattle.pas_scopes.specs.ScopeViews.{all_idents, made_view, IsClear}
use Rattle.pas_typed.specs.declared.types.Range.{Range as CodeRange}
use Rattle.pas_scopes.specs.Answers.{end_in, FailsBy, Means}
use Rattle.pas_scopes.specs.FormAnswers.{first_told, FoundIf, SettledIf, Knows, indexes_view, fields_view}
use Rattle.pas_scopes.specs.FormAnswers.{group_part, fields_in}
use Rattle.pas_scopes.proofs.SequenceLemmas.{found_none, found_within, found_in_front, found_behind, settled_behind}
use Rattle.pas_scopes.proofs.SequenceLemmas.{found_stop, settled_stop, settled_why, knows_stop, knows_found}
use Rattle.pas_scopes.proofs.UnknownLemmas.{of_none}
use Rattle.pas_scopes.proofs.GroupLemmas.{group_words, NamesTold, names_told, group_stops, group_found}
use Rattle.pas_scopes.proofs.GroupLemmas.{told_settled, first_unknown_of, FieldsTold, first_told_of, first_stops}
use Rattle.pas_scopes.proofs.GroupLemmas.{next_told, next_stops, first_value}
use Rattle.pas_scopes.proofs.GroupLemmas.{rest_unknown, next_value, next_unknown, fields_added}
use Rattle.pas_scopes.proofs.GroupLemmas.{so_far, one_more_is, next_names}
use Rattle.pas_scopes.proofs.GroupLemmas.{next_colon}
use Rattle.pas_scopes.proofs.GroupLemmas.{next_form}
use Rattle.pas_scopes.proofs.FormSeen.{record_seen, fields_seen, first_in}
use Rattle.pas_scopes.proofs.KeptLemmas.{spellings_kept, agrees_kept}
use Rattle.pas_scopes.proofs.FormStepLemmas.{found_kept, knows_kept, knows_made, array_indexes_fail}
use Rattle.pas_scopes.proofs.FormStepLemmas.{array_element_fails, element_ends}
use Rattle.pas_scopes.proofs.FormStepLemmas.{array_answered, record_fields_fail, record_answered, file_component_fails}
use Rattle.pas_scopes.proofs.FormStepLemmas.{file_answered, simple_answered, array_indexes_unknown}
use Rattle.pas_scopes.proofs.FormStepLemmas.{array_element_unknown, array_value, record_unknown, record_value}
use Rattle.pas_scopes.proofs.FormStepLemmas.{file_unknown, file_value}
use Rattle.pas_scopes.proofs.GrowthLemmas.{grows_on}
use Rattle.pas_scopes.proofs.type_forms.+type_form.Goals as goal

pub form_of-returns-in-Simple-clause-answers : goal.form_of-returns-in-Simple-clause-answers
form_of-returns-in-Simple-clause-answers t c none s same n =
    let spellings = c.args.scopes.now.spellings.now in
    let table : Table = table_view spellings c.args.scopes.now.types in
    let form : TypeForm = type_in spellings c.args.form.now in
    let view = made_view c.simple_of.new.scopes in
    subst (λ (noted : Option Fault). FoundIf (IsClear s) (type_words n form) (form_of s table form) view noted
    c.simple_of.result) (sym none)
    (found_none (IsClear s) (type_words n form) (type_words n form) (form_of s table form) (form_of s table form) view
    view c.simple_of.result
    (simple_answered s table n form (IsClear s) view c.simple_of.result (simple_in spellings c.in-Simple.simple)
    (ap (type_in spellings) c.in-Simple.is ∙ simple_view spellings c.in-Simple.simple)
    (c.simple_of.ensures.answers s same n)))

pub form_of-returns-in-Simple-clause-value : goal.form_of-returns-in-Simple-clause-value
form_of-returns-in-Simple-clause-value t c s same =
    let spellings = c.args.scopes.now.spellings.now in
    let table : Table = table_view spellings c.args.scopes.now.types in
    let simple = simple_in spellings c.in-Simple.simple in
    let view = made_view c.simple_of.new.scopes in
    subst (λ (form : TypeForm). Knows (form_of s table form) (λ found. view found.value) c.simple_of.result)
    (sym (ap (type_in spellings) c.in-Simple.is ∙ simple_view spellings c.in-Simple.simple))
    (knows_found (IsClear s) (simple_words 0 simple) (simple_of s table simple) view c.simple_of.result
    (c.simple_of.ensures.answers s same 0) (c.simple_of.ensures.unknown s same))

-- arrays
array_is : (spellings : List ℕ) (form element : code_form.TypeForm) (head got : ArrayHead)
    → form ≡ code_form.Array head element → got ≡ head
    → type_in spellings form
    ≡ tree.array got.packed got.line got.opened (separated_in (simple_in spellings) got.indexes) got.closed
    got.of_line
    (type_in spellings element)
array_is spellings form element head got is same =
    ap (type_in spellings) (is ∙ ap (λ (h : ArrayHead). code_form.Array h element) (sym same))
    ∙ array_view spellings got element

pub form_of-returns-in_err-ranges-in-Array-clause-answers :
    goal.form_of-returns-in_err-ranges-in-Array-clause-answers
form_of-returns-in_err-ranges-in-Array-clause-answers t c none s same n =
    let spellings = c.args.scopes.now.spellings.now in
    let table : Table = table_view spellings c.args.scopes.now.types in
    let form : TypeForm = type_in spellings c.args.form.now in
    let head = c.get.result.now in
    let why = c.in_err-ranges-in-Array.field-0.0 in
    let view = made_view c.indexes_of.new.scopes in
    found_stop (IsClear s) (type_words n form) (form_of s table form) view c.args.noted.now why
    c.from_residual.result (err_from_is_err_and _ c.from_residual.ensures.1)
    (subst (λ (noted : Option Fault). FoundIf (IsClear s) (type_words n form) (form_of s table form) view noted
    (Err why)) (sym none)
    (λ clear. array_indexes_fail s table n form head.packed head.line head.opened
    (separated_in (simple_in spellings) head.indexes) head.closed head.of_line
    (type_in spellings c.in-Array.element)
    (array_is spellings c.args.form.now c.in-Array.element c.in-Array.head head c.in-Array.is c.get.ensures) why
    (c.in_err-ranges-in-Array.ensures.answers s same (n + 2) clear)))

pub form_of-returns-in_err-ranges-in-Array-clause-value :
    goal.form_of-returns-in_err-ranges-in-Array-clause-value
form_of-returns-in_err-ranges-in-Array-clause-value t c s same =
    let spellings = c.args.scopes.now.spellings.now in
    let table : Table = table_view spellings c.args.scopes.now.types in
    let form : TypeForm = type_in spellings c.args.form.now in
    let head = c.get.result.now in
    let indexes = separated_in (simple_in spellings) head.indexes in
    let why = c.in_err-ranges-in-Array.field-0.0 in
    let view = made_view c.indexes_of.new.scopes in
    knows_stop (form_of s table form) (λ found. view found.value) why c.from_residual.result
    (err_from_is_err_and _ c.from_residual.ensures.1)
    (of_none (indexes_of s table indexes) (form_of s table form) why
    (array_indexes_unknown s table 0 form head.packed head.line head.opened indexes head.closed head.of_line
    (type_in spellings c.in-Array.element)
    (array_is spellings c.args.form.now c.in-Array.element c.in-Array.head head c.in-Array.is c.get.ensures))
    (c.in_err-ranges-in-Array.ensures.unknown s same))

both_is : (spellings : List ℕ) (form element inner : code_form.TypeForm) (head got : ArrayHead)
    → form ≡ code_form.Array head element → got ≡ head → inner ≡ element
    → type_in spellings form
    ≡ tree.array got.packed got.line got.opened (separated_in (simple_in spellings) got.indexes) got.closed
    got.of_line
    (type_in spellings inner)
both_is spellings form element inner head got is same within =
    array_is spellings form inner head got (is ∙ ap (code_form.Array head) (sym within)) same

pub form_of-returns-in_err-element-in-Array-clause-answers :
    goal.form_of-returns-in_err-element-in-Array-clause-answers
form_of-returns-in_err-element-in-Array-clause-answers t c none s same n =
    let spellings = c.args.scopes.now.spellings.now in
    let table : Table = table_view spellings c.args.scopes.now.types in
    let form : TypeForm = type_in spellings c.args.form.now in
    let head = c.get.result.now in
    let element = c.get-in-Array.result.now in
    let now : Table = table_view c.indexes_of.new.scopes.spellings.now c.indexes_of.new.scopes.types in
    let why = c.in_err-element-in-Array.field-0.0 in
    let view = made_view c.form_of.new.scopes in
    let noted = c.form_of.new.noted in
    found_stop (IsClear s) (type_words n form) (form_of s table form) view noted why
    c.from_residual-in_err-element-in-Array.result
    (err_from_is_err_and _ c.from_residual-in_err-element-in-Array.ensures.1)
    (found_within (IsClear s) (type_words (n + 1) (type_in spellings element)) (type_words n form)
    (form_of s now (type_in spellings element)) (form_of s table form) view view noted why
    (found_kept c.args.scopes.now c.indexes_of.new.scopes view element noted (Err why) c.indexes_of.ensures.kept
    (c.in_err-element-in-Array.ensures.answers none) s same (n + 1))
    (array_element_fails s table n form head.packed head.line head.opened
    (separated_in (simple_in spellings) head.indexes) head.closed head.of_line (type_in spellings element)
    (both_is spellings c.args.form.now c.in-Array.element element c.in-Array.head head c.in-Array.is c.get.ensures
    c.get-in-Array.ensures) now c.in_ok-ranges-in-Array.ranges
    (c.in_ok-ranges-in-Array.ensures.answers s same (n + 2))))

pub form_of-returns-in_err-element-in-Array-clause-value :
    goal.form_of-returns-in_err-element-in-Array-clause-value
form_of-returns-in_err-element-in-Array-clause-value t c s same =
    let spellings = c.args.scopes.now.spellings.now in
    let table : Table = table_view spellings c.args.scopes.now.types in
    let form : TypeForm = type_in spellings c.args.form.now in
    let head = c.get.result.now in
    let element = c.get-in-Array.result.now in
    let now : Table = table_view c.indexes_of.new.scopes.spellings.now c.indexes_of.new.scopes.types in
    let why = c.in_err-element-in-Array.field-0.0 in
    let view = made_view c.form_of.new.scopes in
    knows_stop (form_of s table form) (λ found. view found.value) why
    c.from_residual-in_err-element-in-Array.result
    (err_from_is_err_and _ c.from_residual-in_err-element-in-Array.ensures.1)
    (of_none (form_of s now (type_in spellings element)) (form_of s table form) why
    (array_element_unknown s table 0 form head.packed head.line head.opened
    (separated_in (simple_in spellings) head.indexes) head.closed head.of_line (type_in spellings element)
    (both_is spellings c.args.form.now c.in-Array.element element c.in-Array.head head c.in-Array.is c.get.ensures
    c.get-in-Array.ensures) now c.in_ok-ranges-in-Array.ranges
    (c.in_ok-ranges-in-Array.ensures.answers s same 0).known)
    (knows_kept c.args.scopes.now c.indexes_of.new.scopes (λ (found : CodeJudged CodePasType). view found.value)
    element (Err why) c.indexes_of.ensures.kept c.in_err-element-in-Array.ensures.value s same))

pub form_of-returns-in_ok-element-in-Array-clause-answers :
    goal.form_of-returns-in_ok-element-in-Array-clause-answers
form_of-returns-in_ok-element-in-Array-clause-answers t c none s same n =
    let spellings = c.args.scopes.now.spellings.now in
    let table : Table = table_view spellings c.args.scopes.now.types in
    let form : TypeForm = type_in spellings c.args.form.now in
    let head = c.get.result.now in
    let indexes = separated_in (simple_in spellings) head.indexes in
    let element = c.get-in-Array.result.now in
    let now : Table = table_view c.indexes_of.new.scopes.spellings.now c.indexes_of.new.scopes.types in
    let is = both_is spellings c.args.form.now c.in-Array.element element c.in-Array.head head c.in-Array.is
    c.get.ensures c.get-in-Array.ensures in
    let found = indexes_of s table indexes in
    let view = made_view c.form_of.new.scopes in
    let seen = made_view c.array_of.new.scopes in
    let noted = c.form_of.new.noted in
    let value : Made = view c.in_ok-element-in-Array.element.value in
    let words = separated (n + 2) k.Comma (simple_words (n + 2)) indexes in
    found_behind (IsClear s) (type_words (n + 1) (type_in spellings element)) (type_words n form)
    (form_of s now (type_in spellings element)) (form_of s table form) view seen noted
    c.in_ok-element-in-Array.element c.array_of.result
    (found_kept c.args.scopes.now c.indexes_of.new.scopes view element noted (Ok c.in_ok-element-in-Array.element)
    c.indexes_of.ensures.kept (c.in_ok-element-in-Array.ensures.answers none) s same (n + 1))
    (λ ends. array_answered s table n form head.packed head.line head.opened indexes head.closed head.of_line
    (type_in spellings element) is (IsClear s) seen c.array_of.result
    (c.array_of.ensures.answers n head.line head.opened head.closed head.of_line head.packed words
    (type_words (n + 1) (type_in spellings element)) found
    (form_of s (table_of_indexes table found) (type_in spellings element)) now
    (subst (λ (ranges : List CodeRange). Means words found
    (indexes_view now ranges)) (sym c.as_slice.ensures) (c.in_ok-ranges-in-Array.ensures.answers s same (n + 2)))
    (element_ends s table n form head.packed head.line head.opened indexes head.closed head.of_line
    (type_in spellings element) is now c.in_ok-ranges-in-Array.ranges value
    (end_in c.in_ok-element-in-Array.element.end) (c.in_ok-ranges-in-Array.ensures.answers s same (n + 2)) ends)))
    (array_element_fails s table n form head.packed head.line head.opened indexes head.closed head.of_line
    (type_in spellings element) is now c.in_ok-ranges-in-Array.ranges
    (c.in_ok-ranges-in-Array.ensures.answers s same (n + 2)))

pub form_of-returns-in_ok-element-in-Array-clause-value :
    goal.form_of-returns-in_ok-element-in-Array-clause-value
form_of-returns-in_ok-element-in-Array-clause-value t c s same =
    let spellings = c.args.scopes.now.spellings.now in
    let table : Table = table_view spellings c.args.scopes.now.types in
    let form : TypeForm = type_in spellings c.args.form.now in
    let head = c.get.result.now in
    let indexes = separated_in (simple_in spellings) head.indexes in
    let element = c.get-in-Array.result.now in
    let now : Table = table_view c.indexes_of.new.scopes.spellings.now c.indexes_of.new.scopes.types in
    let is = both_is spellings c.args.form.now c.in-Array.element element c.in-Array.head head c.in-Array.is
    c.get.ensures c.get-in-Array.ensures in
    let view = made_view c.form_of.new.scopes in
    let seen = made_view c.array_of.new.scopes in
    let value : Made = view c.in_ok-element-in-Array.element.value in
    let ranges = c.in_ok-ranges-in-Array.ranges in
    knows_made (form_of s table form) (λ (found : CodeJudged CodePasType). seen found.value) c.array_of.result
    (arrays value.table (map range_view c.as_slice.result.now) value.type)
    (subst (λ (r : List CodeRange). (form_of s table form).value
    ≡ Some (arrays value.table (map range_view r) value.type)) (sym c.as_slice.ensures)
    (array_value s table 0 form head.packed head.line head.opened indexes head.closed head.of_line
    (type_in spellings element) is now ranges value (c.in_ok-ranges-in-Array.ensures.answers s same 0).known
    (knows_kept c.args.scopes.now c.indexes_of.new.scopes (λ (found : CodeJudged CodePasType). view found.value)
    element (Ok c.in_ok-element-in-Array.element) c.indexes_of.ensures.kept
    c.in_ok-element-in-Array.ensures.value s same)))
    c.array_of.ensures.made c.array_of.ensures.memory

-- records
record_is : (spellings : List ℕ) (form : code_form.TypeForm) (record_form got : code_record.RecordForm)
    → form ≡ code_form.Record record_form → got ≡ record_form
    → type_in spellings form
    ≡ tree.record_type (out-RecordForm got).packed (out-RecordForm got).line (fields_in spellings got)
    (out-RecordForm got).semicolon (out-RecordForm got).end
record_is spellings form record_form got is same =
    ap (type_in spellings) (is ∙ ap code_form.Record (sym same)) ∙ (record_view spellings got ∙ record_seen
    spellings got)

pub form_of-returns-in_err-fields-in-Record-clause-answers :
    goal.form_of-returns-in_err-fields-in-Record-clause-answers
form_of-returns-in_err-fields-in-Record-clause-answers t c none s same n =
    let spellings = c.args.scopes.now.spellings.now in
    let table : Table = table_view spellings c.args.scopes.now.types in
    let form : TypeForm = type_in spellings c.args.form.now in
    let got = c.get-form.result.now in
    let why = c.in_err-fields-in-Record.field-0.0 in
    let noted = c.fields_of.new.noted in
    let now : Table = table_view c.fields_of.new.scopes.spellings.now c.fields_of.new.scopes.types in
    let view = made_view c.fields_of.new.scopes in
    found_stop (IsClear s) (type_words n form) (form_of s table form) view noted why
    c.from_residual-in_err-fields-in-Record.result
    (err_from_is_err_and _ c.from_residual-in_err-fields-in-Record.ensures.1)
    (found_in_front (IsClear s) (fields_words (n + 1) (fields_in spellings got)) (type_words n form)
    (groups_of s table (fields_in spellings got)) (form_of s table form)
    (fields_view c.fields_of.new.scopes.spellings.now now) view noted why
    (c.in_err-fields-in-Record.ensures.answers none s same (n + 1))
    (record_fields_fail s table n form (out-RecordForm got).packed (out-RecordForm got).line
    (fields_in spellings got) (out-RecordForm got).semicolon (out-RecordForm got).end
    (record_is spellings c.args.form.now c.in-Record.form got c.in-Record.is c.get-form.ensures)))

pub form_of-returns-in_err-fields-in-Record-clause-value :
    goal.form_of-returns-in_err-fields-in-Record-clause-value
form_of-returns-in_err-fields-in-Record-clause-value t c s same =
    let spellings = c.args.scopes.now.spellings.now in
    let table : Table = table_view spellings c.args.scopes.now.types in
    let form : TypeForm = type_in spellings c.args.form.now in
    let got = c.get-form.result.now in
    let why = c.in_err-fields-in-Record.field-0.0 in
    let view = made_view c.fields_of.new.scopes in
    knows_stop (form_of s table form) (λ found. view found.value) why
    c.from_residual-in_err-fields-in-Record.result
    (err_from_is_err_and _ c.from_residual-in_err-fields-in-Record.ensures.1)
    (of_none (groups_of s table (fields_in spellings got)) (form_of s table form) why
    (record_unknown s table 0 form (out-RecordForm got).packed (out-RecordForm got).line
    (fields_in spellings got) (out-RecordForm got).semicolon (out-RecordForm got).end
    (record_is spellings c.args.form.now c.in-Record.form got c.in-Record.is c.get-form.ensures))
    (c.in_err-fields-in-Record.ensures.value s same))

pub form_of-returns-in_ok-fields-in-Record-clause-answers :
    goal.form_of-returns-in_ok-fields-in-Record-clause-answers
form_of-returns-in_ok-fields-in-Record-clause-answers t c none s same n =
    let spellings = c.args.scopes.now.spellings.now in
    let table : Table = table_view spellings c.args.scopes.now.types in
    let form : TypeForm = type_in spellings c.args.form.now in
    let got = c.get-form.result.now in
    let noted = c.fields_of.new.noted in
    let now : Table = table_view c.fields_of.new.scopes.spellings.now c.fields_of.new.scopes.types in
    let seen = made_view c.record_of.new.scopes in
    let is = record_is spellings c.args.form.now c.in-Record.form got c.in-Record.is c.get-form.ensures in
    settled_behind (IsClear s) (fields_words (n + 1) (fields_in spellings got)) (type_words n form)
    (groups_of s table (fields_in spellings got)) (form_of s table form)
    (fields_view c.fields_of.new.scopes.spellings.now now) seen noted c.in_ok-fields-in-Record.fields
    c.record_of.result (c.in_ok-fields-in-Record.ensures.answers none s same (n + 1))
    (λ means. record_answered s table n form (out-RecordForm got).packed (out-RecordForm got).line
    (fields_in spellings got) (out-RecordForm got).semicolon (out-RecordForm got).end is (IsClear s)
    seen c.record_of.result
    (c.record_of.ensures.answers n (out-RecordForm got).line (out-RecordForm got).packed (out-RecordForm got).semicolon
    (fields_words (n + 1) (fields_in spellings got)) (groups_of s table (fields_in spellings got)) means))
    (record_fields_fail s table n form (out-RecordForm got).packed (out-RecordForm got).line
    (fields_in spellings got) (out-RecordForm got).semicolon (out-RecordForm got).end is)

pub form_of-returns-in_ok-fields-in-Record-clause-value :
    goal.form_of-returns-in_ok-fields-in-Record-clause-value
form_of-returns-in_ok-fields-in-Record-clause-value t c s same =
    let spellings = c.args.scopes.now.spellings.now in
    let table : Table = table_view spellings c.args.scopes.now.types in
    let form : TypeForm = type_in spellings c.args.form.now in
    let got = c.get-form.result.now in
    let now : Table = table_view c.fields_of.new.scopes.spellings.now c.fields_of.new.scopes.types in
    let seen = made_view c.record_of.new.scopes in
    let all = fields_view c.fields_of.new.scopes.spellings.now now c.in_ok-fields-in-Record.fields in
    knows_made (form_of s table form) (λ (found : CodeJudged CodePasType). seen found.value) c.record_of.result
    (made all.table (types.fields all.fields))
    (record_value s table 0 form (out-RecordForm got).packed (out-RecordForm got).line
    (fields_in spellings got) (out-RecordForm got).semicolon (out-RecordForm got).end
    (record_is spellings c.args.form.now c.in-Record.form got c.in-Record.is c.get-form.ensures) all
    (c.in_ok-fields-in-Record.ensures.value s same))
    c.record_of.ensures.made c.record_of.ensures.memory

-- files
file_is : (spellings : List ℕ) (form component inner : code_form.TypeForm) (head : FileHead)
    → form ≡ code_form.File head component → inner ≡ component
    → type_in spellings form ≡ tree.file head.packed head.line head.of_line (type_in spellings inner)
file_is spellings form component inner head is same =
    ap (type_in spellings) (is ∙ ap (code_form.File head) (sym same)) ∙ file_view spellings head inner

pub form_of-returns-in_err-component-in-File-clause-answers :
    goal.form_of-returns-in_err-component-in-File-clause-answers
form_of-returns-in_err-component-in-File-clause-answers t c none s same n =
    let spellings = c.args.scopes.now.spellings.now in
    let table : Table = table_view spellings c.args.scopes.now.types in
    let form : TypeForm = type_in spellings c.args.form.now in
    let head = c.in-File.field-0 in
    let inner = c.get-in-File.result.now in
    let why = c.in_err-component-in-File.field-0.0 in
    let view = made_view c.form_of-in-File.new.scopes in
    let noted = c.form_of-in-File.new.noted in
    found_stop (IsClear s) (type_words n form) (form_of s table form) view noted why
    c.from_residual-in_err-component-in-File.result
    (err_from_is_err_and _ c.from_residual-in_err-component-in-File.ensures.1)
    (found_within (IsClear s) (type_words (n + 1) (type_in spellings inner)) (type_words n form)
    (form_of s table (type_in spellings inner)) (form_of s table form) view view noted why
    (c.in_err-component-in-File.ensures.answers none s same (n + 1))
    (file_component_fails s table n form head.packed head.line head.of_line (type_in spellings inner)
    (file_is spellings c.args.form.now c.in-File.component inner head c.in-File.is c.get-in-File.ensures)))

pub form_of-returns-in_err-component-in-File-clause-value :
    goal.form_of-returns-in_err-component-in-File-clause-value
form_of-returns-in_err-component-in-File-clause-value t c s same =
    let spellings = c.args.scopes.now.spellings.now in
    let table : Table = table_view spellings c.args.scopes.now.types in
    let form : TypeForm = type_in spellings c.args.form.now in
    let head = c.in-File.field-0 in
    let inner = c.get-in-File.result.now in
    let why = c.in_err-component-in-File.field-0.0 in
    let view = made_view c.form_of-in-File.new.scopes in
    knows_stop (form_of s table form) (λ found. view found.value) why
    c.from_residual-in_err-component-in-File.result
    (err_from_is_err_and _ c.from_residual-in_err-component-in-File.ensures.1)
    (of_none (form_of s table (type_in spellings inner)) (form_of s table form) why
    (file_unknown s table 0 form head.packed head.line head.of_line (type_in spellings inner)
    (file_is spellings c.args.form.now c.in-File.component inner head c.in-File.is c.get-in-File.ensures))
    (c.in_err-component-in-File.ensures.value s same))

pub form_of-returns-in_ok-component-in-File-clause-answers :
    goal.form_of-returns-in_ok-component-in-File-clause-answers
form_of-returns-in_ok-component-in-File-clause-answers t c none s same n =
    let spellings = c.args.scopes.now.spellings.now in
    let table : Table = table_view spellings c.args.scopes.now.types in
    let form : TypeForm = type_in spellings c.args.form.now in
    let head = c.in-File.field-0 in
    let inner = c.get-in-File.result.now in
    let view = made_view c.form_of-in-File.new.scopes in
    let seen = made_view c.file_of.new.scopes in
    let noted = c.form_of-in-File.new.noted in
    let is = file_is spellings c.args.form.now c.in-File.component inner head c.in-File.is c.get-in-File.ensures in
    found_behind (IsClear s) (type_words (n + 1) (type_in spellings inner)) (type_words n form)
    (form_of s table (type_in spellings inner)) (form_of s table form) view seen noted
    c.in_ok-component-in-File.component c.file_of.result
    (c.in_ok-component-in-File.ensures.answers none s same (n + 1))
    (λ ends. file_answered s table n form head.packed head.line head.of_line (type_in spellings inner) is (IsClear s)
    seen c.file_of.result
    (c.file_of.ensures.answers (type_words (n + 1) (type_in spellings inner))
    (form_of s table (type_in spellings inner)) ends))
    (file_component_fails s table n form head.packed head.line head.of_line (type_in spellings inner) is)

pub form_of-returns-in_ok-component-in-File-clause-value :
    goal.form_of-returns-in_ok-component-in-File-clause-value
form_of-returns-in_ok-component-in-File-clause-value t c s same =
    let spellings = c.args.scopes.now.spellings.now in
    let table : Table = table_view spellings c.args.scopes.now.types in
    let form : TypeForm = type_in spellings c.args.form.now in
    let head = c.in-File.field-0 in
    let inner = c.get-in-File.result.now in
    let value : Made = made_view c.form_of-in-File.new.scopes c.in_ok-component-in-File.component.value in
    let seen = made_view c.file_of.new.scopes in
    knows_made (form_of s table form) (λ (found : CodeJudged CodePasType). seen found.value) c.file_of.result
    (made value.table (types.file value.type))
    (file_value s table 0 form head.packed head.line head.of_line (type_in spellings inner)
    (file_is spellings c.args.form.now c.in-File.component inner head c.in-File.is c.get-in-File.ensures) value
    (c.in_ok-component-in-File.ensures.value s same))
    c.file_of.ensures.made c.file_of.ensures.memory

-- groups
pub group_of-returns-in_err-made-clause-answers : goal.group_of-returns-in_err-made-clause-answers
group_of-returns-in_err-made-clause-answers t c none s same n line =
    let spellings = c.args.scopes.now.spellings.now in
    let table : Table = table_view spellings c.args.scopes.now.types in
    let group = out-FieldGroup c.args.group.now in
    let idents = separated_in (ident_in spellings) group.names in
    let form : TypeForm = type_in spellings group.form in
    let taken = c.args.names.now in
    let why = c.in_err-made.field-0.0 in
    let view = made_view c.form_of.new.scopes in
    let one = c.note.new.noted in
    let names : NamesTold s table n line taken idents form one =
    subst (NamesTold s table n line taken idents form)
    (sym (c.in_ok-note.ensures.noted ∙ ap (λ (noted : Option Fault). first_noted noted c.new_names.result) none))
    (names_told s table n line taken idents form c.new_names.result c.in_ok-note.ensures.ok
    c.new_names.ensures.answer) in
    settled_stop (IsClear s) (group_words s table n idents line form) (group_part taken idents (form_of s table form))
    view c.form_of.new.noted why c.from_residual-in_err-made.result
    (err_from_is_err_and _ c.from_residual-in_err-made.ensures.1)
    (group_stops s table n line taken idents form (IsClear s) view view one c.form_of.new.noted why names
    (λ clean. c.in_err-made.ensures.answers clean s same n) c.in_err-made.ensures.noted)

pub group_of-returns-in_err-made-clause-value : goal.group_of-returns-in_err-made-clause-value
group_of-returns-in_err-made-clause-value t c s same =
    let spellings = c.args.scopes.now.spellings.now in
    let table : Table = table_view spellings c.args.scopes.now.types in
    let form : TypeForm = type_in spellings (out-FieldGroup c.args.group.now).form in
    knows_stop (form_of s table form) (made_view c.form_of.new.scopes) c.in_err-made.field-0.0
    c.from_residual-in_err-made.result (err_from_is_err_and _ c.from_residual-in_err-made.ensures.1)
    (c.in_err-made.ensures.value s same)

pub group_of-returns-clause-answers : goal.group_of-returns-clause-answers
group_of-returns-clause-answers t c none s same n line =
    let spellings = c.args.scopes.now.spellings.now in
    let table : Table = table_view spellings c.args.scopes.now.types in
    let group = out-FieldGroup c.args.group.now in
    let idents = separated_in (ident_in spellings) group.names in
    let form : TypeForm = type_in spellings group.form in
    let taken = c.args.names.now in
    let view = made_view c.form_of.new.scopes in
    let one = c.note.new.noted in
    let names : NamesTold s table n line taken idents form one =
    subst (NamesTold s table n line taken idents form)
    (sym (c.in_ok-note.ensures.noted ∙ ap (λ (noted : Option Fault). first_noted noted c.new_names.result) none))
    (names_told s table n line taken idents form c.new_names.result c.in_ok-note.ensures.ok
    c.new_names.ensures.answer) in
    group_found s table n line taken idents form (IsClear s) view c.no_file-made.result.value
    (end_in c.no_file-made.result.end) (c.no_file-made.ensures.whole ∙ c.in_ok-made.ensures.whole) c.in_ok-made.made
    one c.form_of.new.noted c.note-2.new.noted names (λ clean. c.in_ok-made.ensures.answers clean s same n)
    c.in_ok-made.ensures.noted
    (c.no_file-made.ensures.ends (type_words n form) (form_of s table form))
    (c.in_ok-note-2.ensures.noted ∙ ap (first_noted c.form_of.new.noted) c.stands.ensures)

pub group_of-returns-clause-value : goal.group_of-returns-clause-value
group_of-returns-clause-value t c s same =
    c.in_ok-made.ensures.value s same
    ∙ ap (λ (found : CodePasType). Some (made_view c.form_of.new.scopes found)) (sym c.no_file-made.ensures.value)

none_before : (one two : Option Fault) → ((fault : Fault) → one ≡ Some fault → two ≡ Some fault) → two ≡ None
    → one ≡ None
none_before None two stays none = refl
none_before (Some fault) two stays none = absurd (some_none (sym (stays fault refl) ∙ none))
  where
    some_none : Some fault ≡ None → ⊥
    some_none e = cc

-- nothing was noted before where nothing is behind
none_noted : (one two three : Option Fault) (r : Result (Unit {0}) Stop)
    → ((fault : Fault) → one ≡ Some fault → two ≡ Some fault) → three ≡ first_noted two r → three ≡ None → one ≡ None
none_noted None two three r stays is none = refl
none_noted (Some fault) two three r stays is none =
    absurd (some_none (sym (ap (λ (noted : Option Fault). first_noted noted r) (stays fault refl)) ∙ (sym is ∙ none)))
  where
    some_none : Some fault ≡ None → ⊥
    some_none e = cc

names_new : (P : Type 0) (old : Option Fault) (r : Result (Unit {0}) Stop) → r ≢ Err stop.OutOfMemory
    → (taken : List (List ℕ)) (idents : Idents) → AreNewNames taken idents r → first_noted old r ≡ None → OnOk r P → P
names_new P None (Ok done) some taken idents h none p = p
names_new P None (Err stop.OutOfMemory) some taken idents h none p = absurd (some refl)
names_new P None (Err (stop.Fault fault)) some taken idents h none p = cc
names_new P None (Err stop.Missing) some taken idents h none p = absurd (h 0)
names_new P (Some fault) r some taken idents h none p = cc

pub group_of-returns-clause-names : goal.group_of-returns-clause-names
group_of-returns-clause-names t c none =
    let spellings = c.args.scopes.now.spellings.now in
    let idents = separated_in (ident_in spellings) (out-FieldGroup c.args.group.now).names in
    names_new _ c.args.noted.now c.new_names.result c.in_ok-note.ensures.ok c.args.names.now idents
    c.new_names.ensures.answer
    (sym c.in_ok-note.ensures.noted ∙ none_noted c.note.new.noted c.form_of.new.noted c.note-2.new.noted
    c.stands.result c.in_ok-made.ensures.noted c.in_ok-note-2.ensures.noted none)
    c.new_names.ensures.ok

-- fields
pub fields_of-returns-in_err-pas_type-clause-answers : goal.fields_of-returns-in_err-pas_type-clause-answers
fields_of-returns-in_err-pas_type-clause-answers t c none s same n =
    let spellings = c.args.scopes.now.spellings.now in
    let table : Table = table_view spellings c.args.scopes.now.types in
    let group = out-FieldGroup (out-RecordForm c.args.form.now).first in
    let idents = separated_in (ident_in spellings) group.names in
    let form : TypeForm = type_in spellings group.form in
    let all = fields_in spellings c.args.form.now in
    let why = c.in_err-pas_type.field-0.0 in
    let noted = c.group_of.new.noted in
    let view = made_view c.group_of.new.scopes in
    let seen = fields_view c.group_of.new.scopes.spellings.now
    (table_view c.group_of.new.scopes.spellings.now c.group_of.new.scopes.types) in
    settled_stop (IsClear s) (fields_words n all) (groups_of s table all) seen noted why
    c.from_residual.result (err_from_is_err_and _ c.from_residual.ensures.1)
    (settled_why (IsClear s) (fields_words n all) (groups_of s table all) seen noted why
    (λ clear. subst (λ (f : Fields). FailsBy (fields_words n f) (groups_of s table f).marks (first_told noted why))
    (fields_seen spellings c.args.form.now)
    (first_stops s table n (IsClear s) view spellings idents group.colon form (out-RecordForm c.args.form.now).more
    noted why
    (subst (λ (taken : List (List ℕ)). SettledIf (IsClear s) (group_words s table n idents group.colon form)
    (group_part taken idents (form_of s table form)) view noted (Err why)) c.new-names.ensures
    (c.in_err-pas_type.ensures.answers none s same n group.colon)) clear)))

pub fields_of-returns-in_err-pas_type-clause-value : goal.fields_of-returns-in_err-pas_type-clause-value
fields_of-returns-in_err-pas_type-clause-value t c s same =
    let spellings = c.args.scopes.now.spellings.now in
    let table : Table = table_view spellings c.args.scopes.now.types in
    let group = out-FieldGroup (out-RecordForm c.args.form.now).first in
    let idents = separated_in (ident_in spellings) group.names in
    let form : TypeForm = type_in spellings group.form in
    let all = fields_in spellings c.args.form.now in
    let why = c.in_err-pas_type.field-0.0 in
    knows_stop (groups_of s table all) (fields_view c.group_of.new.scopes.spellings.now
    (table_view c.group_of.new.scopes.spellings.now c.group_of.new.scopes.types)) why
    c.from_residual.result (err_from_is_err_and _ c.from_residual.ensures.1)
    (of_none (form_of s table form) (groups_of s table all) why
    (λ none. ap (λ (f : Fields). (groups_of s table f).value) (sym (fields_seen spellings c.args.form.now))
    ∙ rest_unknown s table spellings (first_in spellings c.args.form.now) (out-RecordForm c.args.form.now).more
    (first_unknown_of s table idents group.colon form none))
    (c.in_err-pas_type.ensures.value s same))

pub fields_of-loop-more-init : goal.fields_of-loop-more-init
fields_of-loop-more-init t c =
    let spellings = c.args.scopes.now.spellings.now in
    let group = out-FieldGroup (out-RecordForm c.args.form.now).first in
    let idents = separated_in (ident_in spellings) group.names in
    let form : TypeForm = type_in spellings group.form in
    let made : Made = made_view c.group_of.new.scopes c.in_ok-pas_type.pas_type in
    let added = c.in_ok-add_fields.ensures ∙ ap (λ (fields : List CodeField). fields
    ++ map (λ ident. record { name = ident.span; pas_type = c.in_ok-pas_type.pas_type }) (all_idents group.names))
    c.new-fields.ensures in
    record {
      kept = c.in_ok-pas_type.ensures.kept;
      grows = c.in_ok-pas_type.ensures.grows;
      noted = c.in_ok-pas_type.ensures.noted;
      names = λ none. c.in_ok-pas_type.ensures.names none
          ∙ ap (λ (names : List (List ℕ)). names ++ spellings_of idents) c.new-names.ensures;
      value = λ s same.
          let table : Table = table_view spellings c.args.scopes.now.types in
          first_value s table idents group.colon form made (c.in_ok-pas_type.ensures.value s same)
          ∙ ap Some (fields_added spellings table [] c.add_fields.new.fields group.names c.in_ok-pas_type.pas_type made
          refl added);
      told = λ none s same n.
          let table : Table = table_view spellings c.args.scopes.now.types in
          first_told_of s table n (IsClear s) (made_view c.group_of.new.scopes) spellings group.names group.colon form
          c.in_ok-pas_type.pas_type c.in_ok-pas_type.pas_type c.add_fields.new.fields c.group_of.new.noted
          (subst (λ (taken : List (List ℕ)). SettledIf (IsClear s) (group_words s table n idents group.colon form)
          (group_part taken idents (form_of s table form)) (made_view c.group_of.new.scopes) c.group_of.new.noted
          (Ok c.in_ok-pas_type.pas_type)) c.new-names.ensures
          (c.in_ok-pas_type.ensures.answers none s same n group.colon)) refl added;
    }

pub fields_of-returns-in_err-pas_type-2-clause-answers : goal.fields_of-returns-in_err-pas_type-2-clause-answers
fields_of-returns-in_err-pas_type-2-clause-answers t c none s same n =
    let spellings = c.args.scopes.now.spellings.now in
    let table : Table = table_view spellings c.args.scopes.now.types in
    let first : Fields = first_in spellings c.args.form.now in
    let more = c.as_slice-more-items.result.now in
    let next = c.more-item.result in
    let scopes = c.loop-more.scopes in
    let now : Table = table_view scopes.spellings.now scopes.types in
    let kept = c.loop-more.invariant.kept in
    let why = c.in_err-pas_type-2.field-0.0 in
    let noting = c.group_of-in-loop-more.new.noted in
    let view = made_view c.group_of-in-loop-more.new.scopes in
    let all = fields_in spellings c.args.form.now in
    let seen = fields_view c.group_of-in-loop-more.new.scopes.spellings.now
    (table_view c.group_of-in-loop-more.new.scopes.spellings.now c.group_of-in-loop-more.new.scopes.types) in
    settled_stop (IsClear s) (fields_words n all) (groups_of s table all) seen noting why
    c.from_residual-in_err-pas_type-2.result (err_from_is_err_and _ c.from_residual-in_err-pas_type-2.ensures.1)
    (settled_why (IsClear s) (fields_words n all) (groups_of s table all) seen noting why
    (λ clear. subst (λ (f : Fields). FailsBy (fields_words n f) (groups_of s table f).marks (first_told noting why))
    (ap (so_far spellings first) c.as_slice-more-items.ensures ∙ fields_seen spellings c.args.form.now)
    (next_stops s table n (IsClear s) view spellings first more c.loop-more.more-index next c.loop-more-test.true
    c.more-item.is now c.loop-more.fields c.loop-more.names c.loop-more.noted noting why c.loop-more.invariant.names
    (c.loop-more.invariant.told none s same n)
    (λ clean. subst (λ (spelled : List ℕ). SettledIf (IsClear s)
    (group_words s table n (next_names spelled next) (next_colon next) (next_form spelled next))
    (group_part c.loop-more.names (next_names spelled next) (form_of s now (next_form spelled next))) view noting
    (Err why)) (spellings_kept c.args.scopes.now scopes kept)
    (c.in_err-pas_type-2.ensures.answers clean s (agrees_kept c.args.scopes.now scopes kept s same) n
    (next_colon next)))
    c.in_err-pas_type-2.ensures.noted clear)))

pub fields_of-returns-in_err-pas_type-2-clause-value : goal.fields_of-returns-in_err-pas_type-2-clause-value
fields_of-returns-in_err-pas_type-2-clause-value t c s same =
    let spellings = c.args.scopes.now.spellings.now in
    let table : Table = table_view spellings c.args.scopes.now.types in
    let first : Fields = first_in spellings c.args.form.now in
    let more = c.as_slice-more-items.result.now in
    let next = c.more-item.result in
    let scopes = c.loop-more.scopes in
    let now : Table = table_view scopes.spellings.now scopes.types in
    let kept = c.loop-more.invariant.kept in
    let why = c.in_err-pas_type-2.field-0.0 in
    let all = fields_in spellings c.args.form.now in
    knows_stop (groups_of s table all) (fields_view c.group_of-in-loop-more.new.scopes.spellings.now
    (table_view c.group_of-in-loop-more.new.scopes.spellings.now c.group_of-in-loop-more.new.scopes.types)) why
    c.from_residual-in_err-pas_type-2.result (err_from_is_err_and _ c.from_residual-in_err-pas_type-2.ensures.1)
    (of_none (form_of s now (next_form spellings next)) (groups_of s table all) why
    (λ none. ap (λ (f : Fields). (groups_of s table f).value)
    (sym (ap (so_far spellings first) c.as_slice-more-items.ensures ∙ fields_seen spellings c.args.form.now))
    ∙ next_unknown s table spellings first more c.loop-more.more-index next c.loop-more-test.true c.more-item.is now
    c.loop-more.fields (c.loop-more.invariant.value s same) none)
    (subst (λ (spelled : List ℕ). IsUnknownBy (form_of s now (next_form spelled next)) why)
    (spellings_kept c.args.scopes.now scopes kept)
    (c.in_err-pas_type-2.ensures.value s (agrees_kept c.args.scopes.now scopes kept s same))))

pub fields_of-loop-more-preserved : goal.fields_of-loop-more-preserved
fields_of-loop-more-preserved t c =
    let spellings = c.args.scopes.now.spellings.now in
    let first : Fields = first_in spellings c.args.form.now in
    let more = c.as_slice-more-items.result.now in
    let i = c.loop-more.more-index in
    let next = c.more-item.result in
    let scopes = c.loop-more.scopes in
    let kept = c.loop-more.invariant.kept in
    let noting = c.group_of-in-loop-more.new.noted in
    let view = made_view c.group_of-in-loop-more.new.scopes in
    let found = c.in_ok-pas_type-2.pas_type in
    record {
      kept = c.in_ok-pas_type-2.ensures.kept
          ∙ ap (λ (old : CodeScopes). record old { types = c.group_of-in-loop-more.new.scopes.types }) kept;
      grows = grows_on c.args.scopes.now.types scopes.types c.group_of-in-loop-more.new.scopes.types
          c.loop-more.invariant.grows c.in_ok-pas_type-2.ensures.grows;
      noted = λ fault is. c.in_ok-pas_type-2.ensures.noted fault (c.loop-more.invariant.noted fault is);
      names = λ none.
          let clean = none_before c.loop-more.noted noting c.in_ok-pas_type-2.ensures.noted none in
          c.in_ok-pas_type-2.ensures.names none
          ∙ (ap (λ (names : List (List ℕ)). names ++ spellings_of (next_names scopes.spellings.now next))
          (c.loop-more.invariant.names clean)
          ∙ (ap (λ (seen : List ℕ). field_names (so_far spellings first (take i more))
          ++ spellings_of (next_names seen next)) (spellings_kept c.args.scopes.now scopes kept)
          ∙ sym (ap field_names (one_more_is spellings first more i next c.loop-more-test.true c.more-item.is))));
      value = λ s same.
          let table : Table = table_view spellings c.args.scopes.now.types in
          let now : Table = table_view scopes.spellings.now scopes.types in
          next_value s table spellings first more i next c.loop-more-test.true c.more-item.is now c.loop-more.fields
          (c.loop-more.invariant.value s same) (view found) found c.add_fields-in-loop-more.new.fields
          (subst (λ (spelled : List ℕ). (form_of s now (next_form spelled next)).value ≡ Some (view found))
          (spellings_kept c.args.scopes.now scopes kept)
          (c.in_ok-pas_type-2.ensures.value s (agrees_kept c.args.scopes.now scopes kept s same))) refl
          c.in_ok-add_fields-2.ensures;
      told = λ none s same n.
          let table : Table = table_view spellings c.args.scopes.now.types in
          let now : Table = table_view scopes.spellings.now scopes.types in
          next_told s table n (IsClear s) view spellings first more i next c.loop-more-test.true c.more-item.is now
          c.loop-more.fields c.loop-more.names c.loop-more.noted noting found found
          c.add_fields-in-loop-more.new.fields c.loop-more.invariant.names (c.loop-more.invariant.told none s same n)
          (λ clean. subst (λ (spelled : List ℕ). SettledIf (IsClear s)
          (group_words s table n (next_names spelled next) (next_colon next) (next_form spelled next))
          (group_part c.loop-more.names (next_names spelled next) (form_of s now (next_form spelled next))) view noting
          (Ok found)) (spellings_kept c.args.scopes.now scopes kept)
          (c.in_ok-pas_type-2.ensures.answers clean s (agrees_kept c.args.scopes.now scopes kept s same) n
          (next_colon next)))
          c.in_ok-pas_type-2.ensures.noted refl c.in_ok-add_fields-2.ensures;
    }

pub fields_of-returns-clause-answers : goal.fields_of-returns-clause-answers
fields_of-returns-clause-answers t c none s same n =
    let spellings = c.args.scopes.now.spellings.now in
    let table : Table = table_view spellings c.args.scopes.now.types in
    let first : Fields = first_in spellings c.args.form.now in
    let scopes = c.loop-more.scopes in
    let now : Table = table_view scopes.spellings.now scopes.types in
    let all = fields_in spellings c.args.form.now in
    subst (λ (seen : List ℕ). SettledIf (IsClear s) (fields_words n all) (groups_of s table all)
    (fields_view seen now) c.loop-more.noted (Ok c.loop-more.fields))
    (sym (spellings_kept c.args.scopes.now scopes c.loop-more.invariant.kept))
    (told_settled s table n (IsClear s) all (fields_view spellings now) c.loop-more.fields c.loop-more.noted
    (subst (λ (f : Fields). FieldsTold s table n (IsClear s) f (fields_view spellings now c.loop-more.fields)
    c.loop-more.noted)
    (ap (so_far spellings first) (take_all c.loop-more.more-index c.as_slice-more-items.result.now
    c.loop-more-test.false ∙ c.as_slice-more-items.ensures) ∙ fields_seen spellings c.args.form.now)
    (c.loop-more.invariant.told none s same n)))

pub fields_of-returns-clause-value : goal.fields_of-returns-clause-value
fields_of-returns-clause-value t c s same =
    let spellings = c.args.scopes.now.spellings.now in
    let table : Table = table_view spellings c.args.scopes.now.types in
    let first : Fields = first_in spellings c.args.form.now in
    let scopes = c.loop-more.scopes in
    let now : Table = table_view scopes.spellings.now scopes.types in
    ap (λ (f : Fields). (groups_of s table f).value)
    (sym (ap (so_far spellings first) (take_all c.loop-more.more-index c.as_slice-more-items.result.now
    c.loop-more-test.false ∙ c.as_slice-more-items.ensures) ∙ fields_seen spellings c.args.form.now))
    ∙ (c.loop-more.invariant.value s same
    ∙ ap (λ (seen : List ℕ). Some (fields_view seen now c.loop-more.fields))
    (sym (spellings_kept c.args.scopes.now scopes c.loop-more.invariant.kept)))

pub fields_of-returns-in_err-pas_type-2-clause-grows : goal.fields_of-returns-in_err-pas_type-2-clause-grows
fields_of-returns-in_err-pas_type-2-clause-grows t c =
    grows_on c.args.scopes.now.types c.loop-more.scopes.types c.group_of-in-loop-more.new.scopes.types
    c.loop-more.invariant.grows c.in_err-pas_type-2.ensures.grows

pub fields_of-returns-in_err-add_fields-2-clause-grows : goal.fields_of-returns-in_err-add_fields-2-clause-grows
fields_of-returns-in_err-add_fields-2-clause-grows t c =
    grows_on c.args.scopes.now.types c.loop-more.scopes.types c.group_of-in-loop-more.new.scopes.types
    c.loop-more.invariant.grows c.in_ok-pas_type-2.ensures.grows

pub form_of-returns-in_err-element-in-Array-clause-grows : goal.form_of-returns-in_err-element-in-Array-clause-grows
form_of-returns-in_err-element-in-Array-clause-grows t c =
    grows_on c.args.scopes.now.types c.indexes_of.new.scopes.types c.form_of.new.scopes.types
    c.in_ok-ranges-in-Array.ensures.grows c.in_err-element-in-Array.ensures.grows

pub form_of-returns-in_ok-element-in-Array-clause-grows : goal.form_of-returns-in_ok-element-in-Array-clause-grows
form_of-returns-in_ok-element-in-Array-clause-grows t c =
    grows_on c.args.scopes.now.types c.indexes_of.new.scopes.types c.array_of.new.scopes.types
    c.in_ok-ranges-in-Array.ensures.grows
    (grows_on c.indexes_of.new.scopes.types c.form_of.new.scopes.types c.array_of.new.scopes.types
    c.in_ok-element-in-Array.ensures.grows c.array_of.ensures.grows)

pub form_of-returns-in_ok-fields-in-Record-clause-grows : goal.form_of-returns-in_ok-fields-in-Record-clause-grows
form_of-returns-in_ok-fields-in-Record-clause-grows t c =
    grows_on c.args.scopes.now.types c.fields_of.new.scopes.types c.record_of.new.scopes.types
    c.in_ok-fields-in-Record.ensures.grows c.record_of.ensures.grows

pub form_of-returns-in_ok-component-in-File-clause-grows : goal.form_of-returns-in_ok-component-in-File-clause-grows
form_of-returns-in_ok-component-in-File-clause-grows t c =
    grows_on c.args.scopes.now.types c.form_of-in-File.new.scopes.types c.file_of.new.scopes.types
    c.in_ok-component-in-File.ensures.grows c.file_of.ensures.grows
