-- What is answered of parts of places, by what was answered of the places.
use Rattle.std.proofs.Common.{◌≡◌, refl, sym, ap, subst, ◌∙◌, ℕ, ◌<◌, arith, Bool, true, false, List, [], ◌∷◌, ◌++◌}
use Rattle.std.proofs.Common.{length, map, Option, Some, None, Ok, Err}
use Rattle.std.proofs.Common.{◌+◌, cond, not, get_or}
use Rattle.std.specs.Prelude.{is_some, option_map, option_and_then, position, nat_lt}
use Rattle.std.specs.List.{position_or_len}
use Rattle.std.specs.Str.{bytes_eq}
use Rattle.std.proofs.lemmas.List.{length-map}
use Rattle.std.proofs.lemmas.List.Quantifiers.{position-Some}
use Rattle.std.proofs.lemmas.Option.{slice_get-map, slice_get-get_or}
use Rattle.std.specs.Borrow.{Bor}
use Rattle.std.specs.Option.{option_copied}
use Rattle.wb_base.specs.declared.faults.TheConstants.{UNKNOWN_NAME, WRONG_TYPE}
use Rattle.pas_tokens.specs.Cutting.{Wrong, wrong}
use Rattle.pas_syntax.specs.Tree.{Ident}
use Rattle.pas_syntax.specs.Views.{spelled_in}
use Rattle.pas_syntax.specs.Words.{Word}
use Rattle.pas_typed.specs.Types.{PasType, Field, ArrayParts, Table, component_of, elements_of, fields_of}
use Rattle.pas_typed.specs.declared.types.Field.{Field as CodeField}
use Rattle.pas_typed.specs.declared.typed.Part.TheVariants as part
use Rattle.pas_typed.specs.TypeViews.{type_view, field_view}
use Rattle.pas_typed.specs.TypedViews.{part_view}
use Rattle.pas_typed.proofs.ValueViews.{part_view-Field}
use Rattle.pas_typed.specs.Typed as typed
use Rattle.pas_typed.specs.Typed.{Place, Value}
use Rattle.pas_typed.specs.TypeOf.{type_of_place}
use Rattle.pas_scopes.specs.declared.stop.Stop.{Stop}
use Rattle.pas_scopes.specs.declared.stop.Stop.TheVariants as stop
use Rattle.pas_rules.specs.Marks.{Marks, quiet, joined, unless, Judged, judged, means, refuses, known, both, checked}
use Rattle.pas_rules.specs.Marks.{last_of, first_fault}
use Rattle.pas_rules.specs.Expressions.{only, indexed_by, element_by, element_of, record_only, field_at}
use Rattle.pas_rules.specs.Expressions.{field_by, field_of}
use Rattle.pas_rules.specs.Expressions.{files_only, buffer_at, buffer_of}
use Rattle.pas_scopes.specs.Ends.{lower_of, Ends}
use Rattle.pas_scopes.specs.Stopping.{shown_in, found_before}
use Rattle.pas_scopes.specs.Answers.{Ending, lawful_end, noted_end, closed_end, stands_at, stands_by, settled_by}
use Rattle.pas_scopes.specs.Answers.{EndsAs, StopsBy, FailsBy, StandsAs}
use Rattle.pas_rules.proofs.AsMany.{AsMany}
use Rattle.pas_rules.proofs.ExpressionsAsMany.{element_many, field_many}
use Rattle.pas_scopes.proofs.EndLemmas.{last_of_nothing, checked_refused, stops_refused, stops_in_front, ends_closed}
use Rattle.pas_scopes.proofs.PartLemmas.{pair}
use Rattle.pas_scopes.proofs.AnswerLemmas.{checked_ends, before_ends, pair_unsettled, pair_stops, pair_second}
use Rattle.pas_scopes.proofs.AnswerLemmas.{pair_ends_as}
use Rattle.pas_scopes.proofs.AnswerLemmas.{stops_fails, checked_fails, checked_stands, made_ends, word_means}
use Rattle.pas_scopes.proofs.AnswerLemmas.{word_refused}
use Rattle.pas_scopes.proofs.OperatorLemmas.{ends_many}

pub some_copied : {X : Type 0} (found : Option (Bor X)) → is_some (option_copied found) ≡ is_some found
some_copied None = refl
some_copied (Some found) = refl

pub some_there : {X : Type 0} (found : Option X) → is_some found ≡ true → (x : X) × (found ≡ Some x)
some_there None h = cc
some_there (Some x) h = (x, refl)

-- words that do not stand are those of a part of which nothing is known
pub fails_stops : (A : Type 0) (words : List Word) (marks : Marks) (why : Stop) → FailsBy words marks why
    → StopsBy {A = A} words (judged marks None) why
fails_stops A words marks stop.OutOfMemory h = tt
fails_stops A words marks (stop.Fault fault) h = record {
  many = h.many;
  first = λ more nothing. subst (λ (faults : List Wrong). first_fault words (last_of faults marks.tokens) ≡ Some fault)
      (sym (nothing refl))
      (subst (λ (tokens : List (List Wrong)). first_fault words tokens ≡ Some fault)
      (sym (last_of_nothing marks.tokens)) h.first);
}
fails_stops A words marks stop.Missing h = h

-- a part on which a demand is made, and that is settled before a word, or not
pub checked_before : {A X : Type 0} (words : List Word) (demand : A → List Wrong) (part : Judged A) (value : A)
    (end : Ending) (holds : Bool) (code behind : ℕ) (x settled : X) → demand value ≡ unless holds (wrong code)
    → Ok settled ≡ found_before behind (settled_by (noted_end holds code end) x) → EndsAs words part value end
    → (holds ≡ true) × (settled ≡ x) × Ends words (checked demand part) value end.line None false
checked_before words demand part value end true code behind x settled fine is h =
    let ends = before_ends words (checked demand part) value behind end.line end.refusal end.is_short x settled is
    (checked_ends words demand part value end fine h) in
    (refl, ends.0, ends.1)
checked_before words demand part value end false code behind x settled fine is h = cc

module _ {A B C : Type 0} (words more : List Word) (word : Word) (make : A → B → C) (demand : A → List Wrong)
    (part : Judged A) (second : Judged B) (many : AsMany more second.marks) where
  pub checked_unsettled : {X : Type 0} (value : A) (end : Ending) (holds : Bool) (code behind : ℕ) (x : X) (why : Stop)
      → demand value ≡ unless holds (wrong code) → behind ≡ word.token.line → 0 < length more
      → Err why ≡ found_before behind (settled_by (noted_end holds code end) x) → EndsAs words part value end
      → StopsBy (words ++ word ∷ more) (pair make (checked demand part) second) why
  checked_unsettled value end true code behind x why fine at some is h =
      pair_unsettled words more word make (checked demand part) second many value x behind end.line end.refusal
      end.is_short why at some is (checked_ends words demand part value end fine h)
  checked_unsettled value end false code behind x why fine at some is h =
      let same : shown_in end.line (lower_of end.refusal (wrong code)) ≡ why = cc in
      subst (StopsBy (words ++ word ∷ more) (pair make (checked demand part) second)) same
      (pair_stops words more word make (checked demand part) second many
      (shown_in end.line (lower_of end.refusal (wrong code)))
      (checked_refused words demand part value end.line end.refusal end.is_short (wrong code) fine h))

-- the second part of two alone
abbrev pub other_of : {A B : Type 0} → A → B → B
other_of one other = other

second_alone : {A B : Type 0} (one : Option A) (other : Option B) → (one ≡ None → other ≡ None)
    → both other_of one other ≡ other
second_alone None other h = sym (h refl)
second_alone (Some value) None h = refl
second_alone (Some value) (Some item) h = refl

-- two parts with a word between them, of which the second one does not stand
pub second_fails : {A : Type 0} (words more : List Word) (word : Word) (first : Judged A) (marks : Marks) (value : A)
    (line : ℕ) (why : Stop) → AsMany more marks → Ends words first value line None false → FailsBy more marks why
    → FailsBy (words ++ word ∷ more) (joined (first.marks ∷ quiet ∷ marks ∷ [])) why
second_fails {A = A} words more word first marks value line why many h k =
    let second : Judged A = judged marks None in
    stops_fails (words ++ word ∷ more) (pair other_of first second) why
    (pair_second words more word other_of first second many value line why h (fails_stops A more marks why k))

-- a part before the word that closes a larger one
module _ {A B : Type 0} (words : List Word) (word : Word) (part : Judged A) (whole : Option B) (value : A) (end :
    Ending)
    (h : EndsAs words part value end) where
  pub unclosed : (why : Stop) → Err why ≡ stands_by end
      → StopsBy (words ++ word ∷ []) (judged (joined (part.marks ∷ quiet ∷ [])) whole) why
  unclosed why is = unclosed_at end.refusal why is h
    where
      unclosed_at : (refusal : Option Wrong) (why : Stop) → Err why ≡ stands_at end.line refusal
          → Ends words part value end.line refusal end.is_short
          → StopsBy (words ++ word ∷ []) (judged (joined (part.marks ∷ quiet ∷ [])) whole) why
      unclosed_at None why is k = cc
      unclosed_at (Some refusal) why is k =
          let same : shown_in end.line refusal ≡ why = cc in
          subst (StopsBy (words ++ word ∷ []) (judged (joined (part.marks ∷ quiet ∷ [])) whole)) same
          (stops_refused words (word ∷ []) part value end.line refusal end.is_short (joined (quiet ∷ [])) whole k refl
          (omega arith))

  pub closed : (item : B) → end.refusal ≡ None → whole ≡ Some item
      → EndsAs (words ++ word ∷ []) (judged (joined (part.marks ∷ quiet ∷ [])) whole) item
      (closed_end word.token.line end)
  closed item lawful is =
      ends_closed words part value end.line end.is_short word whole item
      (subst (λ refusal. Ends words part value end.line refusal end.is_short) lawful h) is

-- the buffer of a file
module _ (words : List Word) (caret : Word) (table : Table) (part : Judged Place) (value : Place) (end : Ending)
    (h : EndsAs words part value end) where
  abbrev file : Judged Place
  file = checked (files_only table) part

  a_file : (component : PasType) → component_of table (type_of_place value) ≡ Some component
      → EndsAs words file value end
  a_file component is =
      checked_ends words (files_only table) part value end
      (ap (λ (found : Option PasType). unless (is_some found) (wrong WRONG_TYPE)) is) h

  pub buffer_unclosed : (component : PasType) (why : Stop) → component_of table (type_of_place value) ≡ Some component
      → Err why ≡ stands_by end → StopsBy (words ++ caret ∷ []) (buffer_of table part) why
  buffer_unclosed component why is stands =
      unclosed words caret file (option_and_then (buffer_at table) file.value) value end (a_file component is) why
      stands

  pub buffer_ends : (component : PasType) → component_of table (type_of_place value) ≡ Some component
      → end.refusal ≡ None
      → EndsAs (words ++ caret ∷ []) (buffer_of table part) (typed.buffer value component)
      (closed_end caret.token.line end)
  buffer_ends component is lawful =
      closed words caret file (option_and_then (buffer_at table) file.value) value end (a_file component is)
      (typed.buffer value component) lawful
      (ap (option_and_then (buffer_at table)) (a_file component is).known ∙ ap (option_map (typed.buffer value)) is)

  pub no_file_stops : component_of table (type_of_place value) ≡ None
      → StopsBy (words ++ caret ∷ []) (buffer_of table part)
      (shown_in end.line (lower_of end.refusal (wrong WRONG_TYPE)))
  no_file_stops none =
      stops_in_front words (caret ∷ []) file (joined (quiet ∷ [])) (option_and_then (buffer_at table) file.value) _
      (checked_refused words (files_only table) part value end.line end.refusal end.is_short (wrong WRONG_TYPE)
      (ap (λ (found : Option PasType). unless (is_some found) (wrong WRONG_TYPE)) none) h) refl (omega arith)

-- a field of a record
module _ (words : List Word) (point name : Word) (table : Table) (part : Judged Place) (ident : Ident) where
  abbrev pub a_record : Judged Place
  a_record = checked (record_only table) part

  abbrev pub a_field : Judged Place
  a_field = field_by table ident.name a_record.value

  abbrev field_words : List Word
  field_words = words ++ point ∷ (name ∷ [])

  pub field_pair : pair other_of a_record a_field ≡ field_of table part ident
  field_pair =
      ap (judged (joined (a_record.marks ∷ quiet ∷ a_field.marks ∷ [])))
      (second_alone a_record.value a_field.value
      (λ none. ap (λ (value : Option Place). (field_by table ident.name value).value) none))

  pub many_fields : AsMany (name ∷ []) a_field.marks
  many_fields = field_many name table ident.name a_record.value

  pub field_unsettled : {X : Type 0} (value : Place) (end : Ending) (holds : Bool) (behind : ℕ) (x : X) (why : Stop)
      → is_some (fields_of table (type_of_place value)) ≡ holds → behind ≡ point.token.line
      → Err why ≡ found_before behind (settled_by (noted_end holds WRONG_TYPE end) x) → EndsAs words part value end
      → StopsBy field_words (field_of table part ident) why
  field_unsettled value end holds behind x why is at stops h =
      subst (λ (whole : Judged Place). StopsBy field_words whole why) field_pair
      (checked_unsettled words (name ∷ []) point other_of (record_only table) part a_field many_fields value end holds
      WRONG_TYPE behind x why (ap (λ (fine : Bool). unless fine (wrong WRONG_TYPE)) is) at (omega arith) stops h)

  field_is : (value : Place) (line : ℕ) (found : Judged Place) → Ends words a_record value line None false
      → field_by table ident.name (Some value) ≡ found → a_field ≡ found
  field_is value line found h is = ap (field_by table ident.name) h.known ∙ is

  pub field_ends : (value item : Place) (line : ℕ) → Ends words a_record value line None false
      → field_by table ident.name (Some value) ≡ means item
      → EndsAs field_words (field_of table part ident) item (lawful_end name.token.line)
  field_ends value item line h is =
      subst (λ (whole : Judged Place). EndsAs field_words whole item (lawful_end name.token.line)) field_pair
      (pair_ends_as words (name ∷ []) point other_of a_record a_field many_fields value line item
      (lawful_end name.token.line) h
      (subst (λ (found : Judged Place). EndsAs (name ∷ []) found item (lawful_end name.token.line))
      (sym (field_is value line (means item) h is)) (word_means name item)))

  pub no_field_stops : (value : Place) (line : ℕ) → Ends words a_record value line None false
      → field_by table ident.name (Some value) ≡ refuses (wrong UNKNOWN_NAME)
      → StopsBy field_words (field_of table part ident) (shown_in name.token.line (wrong UNKNOWN_NAME))
  no_field_stops value line h is =
      subst (λ (whole : Judged Place). StopsBy field_words whole (shown_in name.token.line (wrong UNKNOWN_NAME)))
      field_pair
      (pair_second words (name ∷ []) point other_of a_record a_field many_fields value line
      (shown_in name.token.line (wrong UNKNOWN_NAME)) h
      (subst (λ (found : Judged Place). StopsBy (name ∷ []) found (shown_in name.token.line (wrong UNKNOWN_NAME)))
      (sym (field_is value line (refuses (wrong UNKNOWN_NAME)) h is)) (word_refused name (wrong UNKNOWN_NAME))))

-- an element of an array
module _ (words more : List Word) (word : Word) (table : Table) (before : Judged Place) (index : Judged Value) where
  abbrev an_element : Judged Place
  an_element = element_by table index before.value

  pub element_pair : pair other_of before an_element ≡ element_of table before index
  element_pair =
      ap (judged (joined (before.marks ∷ quiet ∷ an_element.marks ∷ [])))
      (second_alone before.value an_element.value
      (λ none. ap (λ (value : Option Place). (element_by table index value).value) none))

  element_is : (value : Place) (line : ℕ) (parts : Option ArrayParts) → Ends words before value line None false
      → elements_of table (type_of_place value) ≡ parts → an_element ≡ indexed_by table index value parts
  element_is value line parts h is =
      ap (element_by table index) h.known ∙ ap (indexed_by table index value) is

  -- checking stops in the index, or in the place
  pub index_fails : (value : Place) (line : ℕ) (parts : Option ArrayParts) (why : Stop) → AsMany more index.marks
      → Ends words before value line None false → elements_of table (type_of_place value) ≡ parts
      → FailsBy more (indexed_by table index value parts).marks why
      → FailsBy (words ++ word ∷ more) (element_of table before index).marks why
  index_fails value line parts why many h is k =
      second_fails words more word before an_element.marks value line why (element_many table index before.value many)
      h
      (subst (λ (found : Judged Place). FailsBy more found.marks why) (sym (element_is value line parts h is)) k)

  pub element_ends : (value item : Place) (line : ℕ) (end : Ending) → Ends words before value
      line None false → EndsAs more an_element item end
      → EndsAs (words ++ word ∷ more) (element_of table before index) item end
  element_ends value item line end h k =
      subst (λ (whole : Judged Place). EndsAs (words ++ word ∷ more) whole item end) element_pair
      (pair_ends_as words more word other_of before an_element (ends_many more an_element item end k) value line item
      end
      h k)

  module _ (value : Place) (line : ℕ) (parts : ArrayParts) (found : Value) (end : Ending)
      (h : Ends words before value line None false) (is : elements_of table (type_of_place value) ≡ Some parts)
      (k : EndsAs more index found end) where
    abbrev fit : Judged Value
    fit = checked (only parts.indexes.base table) index

    abbrev make : Value → Place
    make = typed.element value parts.indexes parts.element

    pub element_refused : (holds : Bool) (why : Stop)
        → only parts.indexes.base table found ≡ unless holds (wrong WRONG_TYPE)
        → Err why ≡ stands_by (noted_end holds WRONG_TYPE end)
        → FailsBy (words ++ word ∷ more) (element_of table before index).marks why
    element_refused holds why fine stands =
        index_fails value line (Some parts) why (ends_many more index found end k) h is
        (checked_fails more (only parts.indexes.base table) index found end WRONG_TYPE holds why fine stands k)

    pub element_stands : (holds : Bool) → only parts.indexes.base table found ≡ unless holds (wrong WRONG_TYPE)
        → Ok tt ≡ stands_by (noted_end holds WRONG_TYPE end)
        → StandsAs (words ++ word ∷ more) (element_of table before index) (make found) (noted_end holds WRONG_TYPE end)
    element_stands holds fine stands =
        let last : Ending = noted_end holds WRONG_TYPE end in
        let fits : StandsAs more fit found last =
        checked_stands more (only parts.indexes.base table) index found end WRONG_TYPE holds fine stands k in
        record {
          lawful = fits.lawful;
          ends = element_ends value (make found) line last h
              (subst (λ (item : Judged Place). EndsAs more item (make found) last)
              (sym (element_is value line (Some parts) h is)) (made_ends more make fit found last fits.ends));
        }

-- a field by its name
first_seen : {A B : Type 0} (view : A → B) (p : B → Bool) (items : List A)
    → position_or_len p (map view items) ≡ position_or_len (λ item. p (view item)) items
first_seen view p [] = refl
first_seen view p (item ∷ items) = ap (λ (n : ℕ). cond (not (p (view item))) (1 + n) 0) (first_seen view p items)

position_seen : {A B : Type 0} (view : A → B) (p : B → Bool) (items : List A)
    → position p (map view items) ≡ position (λ item. p (view item)) items
position_seen view p items =
    ap (λ (many : ℕ). cond (nat_lt (position_or_len p (map view items)) many)
    (Some (position_or_len p (map view items))) None) (length-map items view)
    ∙ ap (λ (at : ℕ). cond (nat_lt at (length items)) (Some at) None) (first_seen view p items)

module _ (spellings name : List ℕ) (fields : List CodeField) (place : Place) where
  abbrev seen : List Field
  seen = map (field_view spellings) fields

  same_position : (at : Option ℕ) → at ≡ position (λ field. bytes_eq (spelled_in spellings field.name) name) fields
      → position (λ field. bytes_eq field.name name) seen ≡ at
  same_position at is =
      position_seen (field_view spellings) (λ (field : Field). bytes_eq field.name name) fields ∙ sym is

  pub field_missing : None ≡ position (λ field. bytes_eq (spelled_in spellings field.name) name) fields
      → field_at place seen (position (λ field. bytes_eq field.name name) seen) ≡ refuses (wrong UNKNOWN_NAME)
  field_missing is = ap (field_at place seen) (same_position None is)

  pub field_there : (number found : ℕ) (d : CodeField)
      → Some number ≡ position (λ field. bytes_eq (spelled_in spellings field.name) name) fields → found ≡ number
      → field_at place seen (position (λ field. bytes_eq field.name name) seen)
      ≡ means (part_view (part.Field found (get_or fields number d).pas_type) place)
  field_there number found d is same =
      let field : CodeField = get_or fields number d in
      ap (field_at place seen) (same_position (Some number) is)
      ∙ ap (λ (field : Option Field). judged quiet (known (λ field. typed.field place number field.type) field))
      (slice_get-map (field_view spellings) fields number
      ∙ ap (option_map (field_view spellings)) (slice_get-get_or fields number d
      (position-Some (λ (field : CodeField). bytes_eq (spelled_in spellings field.name) name) fields number d
      (sym is)).0))
      ∙ ap (λ (n : ℕ). means (typed.field place n (type_view field.pas_type))) (sym same)
      ∙ ap (λ (make : Place → Place). means (make place)) (sym (part_view-Field found field.pas_type))
