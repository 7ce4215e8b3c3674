-- What is answered of a type expression of each form.
use Rattle.std.proofs.Common.{◌≡◌, sym, ap, subst, ◌∙◌, ℕ, ◌+◌, List, map, Option, Some, None, Result}
use Rattle.std.proofs.Common.{Ok, Err}
use Rattle.std.specs.Prelude.{option_map, unwrap_or, IfOk, IfErr}
use Rattle.wb_base.specs.declared.faults.Fault.{Fault}
use Rattle.pas_scopes.specs.declared.stop.Stop.TheVariants as stop
use Rattle.pas_scopes.specs.Constants.{IsUnknownBy}
use Rattle.pas_tokens.specs.declared.kinds.Kind.TheVariants as k
use Rattle.pas_syntax.specs.declared.tree.TypeForm as code_form
use Rattle.pas_syntax.specs.Tree as tree
use Rattle.pas_syntax.specs.Tree.{Separated, Simple, TypeForm, Fields}
use Rattle.pas_syntax.specs.Words.{Word, separated, simple_words, type_words, fields_words}
use Rattle.pas_syntax.specs.ProgramViews.{type_in}
use Rattle.pas_typed.specs.declared.types.PasType.{PasType as CodePasType}
use Rattle.pas_typed.specs.declared.types.Range.{Range as CodeRange}
use Rattle.pas_typed.specs.Types.{Table, Made, made}
use Rattle.pas_typed.specs.TypeViews.{range_view, table_view}
use Rattle.pas_typed.specs.Types as types
use Rattle.pas_scopes.specs.declared.scopes.Scopes.{Scopes as CodeScopes}
use Rattle.pas_scopes.specs.declared.stop.Stop.{Stop}
use Rattle.pas_scopes.specs.declared.judged.Judged.{Judged as CodeJudged}
use Rattle.pas_rules.specs.Marks.{Judged, known, both, noted}
use Rattle.pas_rules.specs.Scopes.{Scopes}
use Rattle.pas_rules.specs.TypeForms.{Indexes, table_of_indexes, indexes_of, array_of, file_of, record_of, form_of}
use Rattle.pas_rules.specs.TypeForms.{Group, groups_of, simple_of, arrays, no_file}
use Rattle.pas_scopes.specs.ScopeViews.{scopes_view, IsClear, Agrees}
use Rattle.pas_scopes.specs.Answers.{Ending, end_in, EndsAs, StopsBy, Answers, FailsBy, Means}
use Rattle.pas_scopes.specs.TypeAnswers.{file_part, AnswersIf}
use Rattle.pas_scopes.specs.FormAnswers.{indexes_view, Knows, FoundIf}
use Rattle.pas_rules.proofs.TypesAsMany.{form_many}
use Rattle.pas_scopes.proofs.KeptLemmas.{spellings_kept, agrees_kept}
use Rattle.pas_scopes.proofs.SequenceLemmas.{answers_if, known_both, unknown_second}
use Rattle.pas_scopes.proofs.FormLemmas.{array_words, array_index_stops, array_element_stops, file_words, file_ends}
use Rattle.pas_scopes.proofs.FormLemmas.{file_part_stops, file_stops, record_words, record_stops}

-- what is answered over scopes of which the types alone have changed
pub found_kept : (old now : CodeScopes) (view : CodePasType → Made) (form : code_form.TypeForm) (noted : Option Fault)
    (result : Result (CodeJudged CodePasType) Stop) → now ≡ record old { types = now.types }
    → ((s : Scopes) → Agrees s (scopes_view now) → (n : ℕ) → FoundIf (IsClear s)
    (type_words n (type_in now.spellings.now form))
    (form_of s (table_view now.spellings.now now.types) (type_in now.spellings.now form)) view noted result)
    → (s : Scopes) → Agrees s (scopes_view old) → (n : ℕ) → FoundIf (IsClear s)
    (type_words n (type_in old.spellings.now form))
    (form_of s (table_view now.spellings.now now.types) (type_in old.spellings.now form)) view noted result
found_kept old now view form noted result kept h s same n =
    subst (λ (spellings : List ℕ). FoundIf (IsClear s) (type_words n (type_in spellings form))
    (form_of s (table_view now.spellings.now now.types) (type_in spellings form)) view noted result)
    (spellings_kept old now kept) (h s (agrees_kept old now kept s same) n)

-- what is known over such scopes
pub knows_kept : {X : Type 0} (old now : CodeScopes) (view : X → Made) (form : code_form.TypeForm)
    (result : Result X Stop) → now ≡ record old { types = now.types }
    → ((s : Scopes) → Agrees s (scopes_view now) → Knows
    (form_of s (table_view now.spellings.now now.types) (type_in now.spellings.now form)) view result)
    → (s : Scopes) → Agrees s (scopes_view old) → Knows
    (form_of s (table_view now.spellings.now now.types) (type_in old.spellings.now form)) view result
knows_kept old now view form result kept h s same =
    subst (λ (spellings : List ℕ). Knows
    (form_of s (table_view now.spellings.now now.types) (type_in spellings form)) view result)
    (spellings_kept old now kept) (h s (agrees_kept old now kept s same))

-- what is known of what was made
pub knows_made : {X A : Type 0} (part : Judged A) (view : X → A) (result : Result X Stop) (whole : A)
    → part.value ≡ Some whole → IfOk result (λ found. view found ≡ whole)
    → IfErr result (λ why. why ≡ stop.OutOfMemory) → Knows part view result
knows_made part view (Ok found) whole is made memory = is ∙ ap Some (sym made)
knows_made part view (Err why) whole is made memory = subst (IsUnknownBy part) (sym memory) tt

module _ (s : Scopes) (table : Table) (n : ℕ) (form : TypeForm) where
  -- an array
  module _ (packed : Option ℕ) (line opened : ℕ) (indexes : Separated Simple) (closed of_line : ℕ)
      (element : TypeForm) (is : form ≡ tree.array packed line opened indexes closed of_line element) where
    abbrev found : Judged Indexes
    found = indexes_of s table indexes

    abbrev index_words : List Word
    index_words = separated (n + 2) k.Comma (simple_words (n + 2)) indexes

    abbrev part : Judged Made
    part = form_of s (table_of_indexes table found) element

    table_is : (now : Table) (ranges : List CodeRange) → found.value ≡ Some (indexes_view now ranges)
        → now ≡ table_of_indexes table found
    table_is now ranges h =
        sym (ap (λ (value : Option Indexes). unwrap_or (option_map (λ (indexes : Indexes). indexes.table) value)
        table)
        h)

    pub array_indexes_fail : (why : Stop) → FailsBy index_words found.marks why
        → StopsBy (type_words n form) (form_of s table form) why
    array_indexes_fail why h =
        subst (λ (f : TypeForm). StopsBy (type_words n f) (form_of s table f) why) (sym is)
        (array_index_stops n line opened closed of_line packed index_words (type_words (n + 1) element) found part why
        (form_many s (table_of_indexes table found) (n + 1) element) h)

    pub array_element_fails : (now : Table) (ranges : List CodeRange) → Means index_words found (indexes_view now
        ranges)
        → (why : Stop) → StopsBy (type_words (n + 1) element) (form_of s now element) why
        → StopsBy (type_words n form) (form_of s table form) why
    array_element_fails now ranges h why e =
        subst (λ (f : TypeForm). StopsBy (type_words n f) (form_of s table f) why) (sym is)
        (array_element_stops n line opened closed of_line packed index_words (type_words (n + 1) element) found part
        (indexes_view now ranges) why h
        (subst (λ (at : Table). StopsBy (type_words (n + 1) element) (form_of s at element) why)
        (table_is now ranges h.known) e))

    pub element_ends : (now : Table) (ranges : List CodeRange) (value : Made) (end : Ending)
        → Means index_words found (indexes_view now ranges)
        → EndsAs (type_words (n + 1) element) (form_of s now element) value end
        → EndsAs (type_words (n + 1) element) part value end
    element_ends now ranges value end h e =
        subst (λ (at : Table). EndsAs (type_words (n + 1) element) (form_of s at element) value end)
        (table_is now ranges h.known) e

    pub array_answered : {X : Type 0} (Clear : Type 0) (view : X → Made) (result : Result (CodeJudged X) Stop)
        → Answers (array_words n line opened closed of_line packed index_words (type_words (n + 1) element) found
        part)
        (array_of packed found part) view result
        → AnswersIf Clear (type_words n form) (form_of s table form) view result
    array_answered Clear view result h =
        subst (λ (f : TypeForm). AnswersIf Clear (type_words n f) (form_of s table f) view result) (sym is)
        (answers_if Clear
        (array_words n line opened closed of_line packed index_words (type_words (n + 1) element) found part)
        (array_of packed found part) view result h)

    -- what is known of it
    pub array_indexes_unknown : found.value ≡ None → (form_of s table form).value ≡ None
    array_indexes_unknown none =
        ap (λ (f : TypeForm). (form_of s table f).value) is
        ∙ ap (λ (value : Option Indexes). both (λ (i : Indexes) (last : Made). arrays last.table i.ranges last.type)
        value (noted no_file part).value) none

    at_now : (now : Table) (ranges : List CodeRange) → found.value ≡ Some (indexes_view now ranges)
        → part.value ≡ (form_of s now element).value
    at_now now ranges h = ap (λ (at : Table). (form_of s at element).value) (sym (table_is now ranges h))

    pub array_element_unknown : (now : Table) (ranges : List CodeRange) → found.value ≡ Some (indexes_view now ranges)
        → (form_of s now element).value ≡ None → (form_of s table form).value ≡ None
    array_element_unknown now ranges h none =
        ap (λ (f : TypeForm). (form_of s table f).value) is
        ∙ unknown_second (λ (i : Indexes) (last : Made). arrays last.table i.ranges last.type) found.value
        (noted no_file part).value (at_now now ranges h ∙ none)

    pub array_value : (now : Table) (ranges : List CodeRange) (value : Made)
        → found.value ≡ Some (indexes_view now ranges) → (form_of s now element).value ≡ Some value
        → (form_of s table form).value ≡ Some (arrays value.table (map range_view ranges) value.type)
    array_value now ranges value h e =
        ap (λ (f : TypeForm). (form_of s table f).value) is
        ∙ known_both (λ (i : Indexes) (last : Made). arrays last.table i.ranges last.type) found.value
        (noted no_file part).value (indexes_view now ranges) value h (at_now now ranges h ∙ e)

  -- a record
  module _ (packed : Option ℕ) (line : ℕ) (fields : Fields) (semicolon : Option ℕ) (end : ℕ)
      (is : form ≡ tree.record_type packed line fields semicolon end) where
    pub record_fields_fail : (why : Stop) → FailsBy (fields_words (n + 1) fields) (groups_of s table fields).marks why
        → StopsBy (type_words n form) (form_of s table form) why
    record_fields_fail why h =
        subst (λ (f : TypeForm). StopsBy (type_words n f) (form_of s table f) why) (sym is)
        (record_stops n line end packed semicolon (fields_words (n + 1) fields) (groups_of s table fields) why h)

    pub record_answered : {X : Type 0} (Clear : Type 0) (view : X → Made) (result : Result (CodeJudged X) Stop)
        → Answers (record_words n line end packed semicolon (fields_words (n + 1) fields) (groups_of s table fields))
        (record_of packed (groups_of s table fields) semicolon) view result
        → AnswersIf Clear (type_words n form) (form_of s table form) view result
    record_answered Clear view result h =
        subst (λ (f : TypeForm). AnswersIf Clear (type_words n f) (form_of s table f) view result) (sym is)
        (answers_if Clear
        (record_words n line end packed semicolon (fields_words (n + 1) fields) (groups_of s table fields))
        (record_of packed (groups_of s table fields) semicolon) view result h)

    pub record_unknown : (groups_of s table fields).value ≡ None → (form_of s table form).value ≡ None
    record_unknown none =
        ap (λ (f : TypeForm). (form_of s table f).value) is
        ∙ ap (known (λ (found : Group). made found.table (types.fields found.fields))) none

    pub record_value : (group : Group) → (groups_of s table fields).value ≡ Some group
        → (form_of s table form).value ≡ Some (made group.table (types.fields group.fields))
    record_value group h =
        ap (λ (f : TypeForm). (form_of s table f).value) is
        ∙ ap (known (λ (found : Group). made found.table (types.fields found.fields))) h

  -- a file
  module _ (packed : Option ℕ) (line of_line : ℕ) (component : TypeForm)
      (is : form ≡ tree.file packed line of_line component) where
    abbrev inside : Judged Made
    inside = form_of s table component

    abbrev whole_words : List Word
    whole_words = file_words n line of_line packed (type_words (n + 1) component) inside

    pub file_component_fails : (why : Stop) → StopsBy (type_words (n + 1) component) inside why
        → StopsBy (type_words n form) (form_of s table form) why
    file_component_fails why h =
        subst (λ (f : TypeForm). StopsBy (type_words n f) (form_of s table f) why) (sym is)
        (file_stops n line of_line packed (type_words (n + 1) component) inside why h)

    file_whole : {X : Type 0} (view : X → Made) (result : Result (CodeJudged X) Stop)
        → Answers (type_words (n + 1) component) (file_part inside) view result
        → Answers whole_words (file_of packed inside) view result
    file_whole view (Ok found) h =
        file_ends n line of_line packed (type_words (n + 1) component) inside (view found.value)
        (end_in found.end) h
    file_whole view (Err why) h = file_part_stops n line of_line packed (type_words (n + 1) component) inside why h

    pub file_answered : {X : Type 0} (Clear : Type 0) (view : X → Made) (result : Result (CodeJudged X) Stop)
        → Answers (type_words (n + 1) component) (file_part inside) view result
        → AnswersIf Clear (type_words n form) (form_of s table form) view result
    file_answered Clear view result h =
        subst (λ (f : TypeForm). AnswersIf Clear (type_words n f) (form_of s table f) view result) (sym is)
        (answers_if Clear whole_words (file_of packed inside) view result (file_whole view result h))

    pub file_unknown : inside.value ≡ None → (form_of s table form).value ≡ None
    file_unknown none =
        ap (λ (f : TypeForm). (form_of s table f).value) is
        ∙ ap (known (λ (found : Made). made found.table (types.file found.type))) none

    pub file_value : (value : Made) → inside.value ≡ Some value
        → (form_of s table form).value ≡ Some (made value.table (types.file value.type))
    file_value value h =
        ap (λ (f : TypeForm). (form_of s table f).value) is
        ∙ ap (known (λ (found : Made). made found.table (types.file found.type))) h

  -- a name or a subrange
  pub simple_answered : {X : Type 0} (Clear : Type 0) (view : X → Made) (result : Result (CodeJudged X) Stop)
      (simple : Simple) → form ≡ tree.simple simple
      → AnswersIf Clear (simple_words n simple) (simple_of s table simple) view result
      → AnswersIf Clear (type_words n form) (form_of s table form) view result
  simple_answered Clear view result simple is h =
      subst (λ (f : TypeForm). AnswersIf Clear (type_words n f) (form_of s table f) view result) (sym is) h
