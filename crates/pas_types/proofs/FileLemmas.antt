-- The file that a value is which is a variable by itself: such a value shows no fault.
use Rattle.std.proofs.Common.{◌≡◌, refl, sym, ap, subst, ◌∙◌, ℕ, Bool, true, false, List, [], ◌∷◌, map}
use Rattle.std.proofs.Common.{Option, Some, None, Ok, Err}
use Rattle.std.specs.Prelude.{option_and_then, option_map, position, slice_get, if◌then◌else◌, codes, not}
use Rattle.std.proofs.lemmas.Option.{none-some}
use Rattle.wb_base.specs.declared.faults.Fault.{Fault}
use Rattle.wb_base.specs.declared.faults.TheConstants.{WRONG_TYPE, FILE_RULE}
use Rattle.pas_tokens.specs.Cutting.{wrong}
use Rattle.pas_syntax.specs.declared.tree.Argument.{Argument as CodeArgument}
use Rattle.pas_syntax.specs.declared.tree.Behind.{Behind as CodeBehind}
use Rattle.pas_syntax.specs.Tree as tree
use Rattle.pas_syntax.specs.Tree.{Expr, Exprs}
use Rattle.pas_syntax.specs.Views.{in_turn}
use Rattle.pas_syntax.specs.Words.{Word}
use Rattle.pas_typed.specs.declared.typed.Place as code_place
use Rattle.pas_typed.specs.declared.typed.Part as code_part
use Rattle.pas_typed.specs.declared.typed.Part.TheOpen.{Part-F}
use Rattle.pas_typed.specs.declared.typed.Part.TheFolds.{fold_out-Part}
use Rattle.pas_typed.specs.Types.{PasType, Table, Field, ArrayParts, component_of, elements_of, fields_of, base_of}
use Rattle.pas_typed.specs.TypeOf.{type_of_place, type_of_function}
use Rattle.std.specs.Str.{bytes_eq}
use Rattle.pas_typed.specs.TypedViews.{OfValues, part_step, passed_step, value_step, call_step, place_step, part_view}
use Rattle.pas_typed.specs.TypedViews.{slot_view, place_view}
use Rattle.pas_typed.proofs.ValueViews.{place_view-roll}
use Rattle.pas_typed.specs.Typed as typed
use Rattle.pas_typed.specs.Typed.{Value, Place, Passed, Slot, Heading, Variable}
use Rattle.pas_scopes.specs.declared.stop.Stop.{Stop}
use Rattle.pas_scopes.specs.declared.stop.Stop.TheVariants as stop
use Rattle.pas_rules.specs.Marks.{Marks, quiet, Judged, both, known, checked, unless, last_of, first_fault}
use Rattle.pas_rules.specs.Scopes.{Scopes, Entity, constant, type, variable, routine, function, file_test, file_step}
use Rattle.pas_rules.specs.Scopes.{procedure, unclear, entity_of, standard_file}
use Rattle.pas_rules.specs.TypeForms as forms
use Rattle.pas_rules.specs.TypeForms.{ConstantValue}
use Rattle.pas_rules.specs.Expressions.{Demand, Given, as_value, as_call}
use Rattle.pas_rules.specs.Expressions.{value_of, place_of, elements_at, element_by, indexed_by}
use Rattle.pas_rules.specs.Expressions.{as_array, field_by, field_in, field_at, buffer_at, buffer_of, heading_of}
use Rattle.pas_rules.specs.Expressions.{function_alone, without_arguments, test_alone, function_call_of, call_with}
use Rattle.pas_rules.specs.Expressions.{any_of_base, first_value, file_in, file_at}
use Rattle.pas_rules.specs.Expressions.{is_file, given, passed_to, demands_of, test_demand}
use Rattle.pas_rules.specs.Expressions.{function_demand, record_only, files_only, field_of, bare_argument, values_of}
use Rattle.pas_rules.specs.Expressions.{variable_value, factor_of, term_of, sum_of}
use Rattle.pas_rules.specs.Calls.{whole_file, items_alone, missing_items}
use Rattle.pas_scopes.specs.Ends.{Stops}
use Rattle.pas_scopes.specs.Stopping.{demanded}
use Rattle.pas_scopes.specs.Answers.{Ending, noted_end, stands_by, EndsAs, StandsAs, FailsBy, StopsBy}
use Rattle.pas_types.specs.inner.Transfers.{refused_by, behind_actuals}
use Rattle.pas_scopes.proofs.AnswerLemmas.{checked_fails, checked_stands}

-- a place that has parts
abbrev pub is_slot : Place → Bool
is_slot (typed.slot slot) = true
is_slot place = false

step_slot : (layer : OfValues Part-F) (place : Place) → is_slot (part_step layer place) ≡ false
step_slot (Part-F.Element indexes found index) place = refl
step_slot (Part-F.Field number found) place = refl
step_slot (Part-F.Buffer found) place = refl

part_slot : (part : code_part.Part) (place : Place) → is_slot (part_view part place) ≡ false
part_slot part place =
    ap (λ (step : Place → Place). is_slot (step place))
    (fold_out-Part (Place → Place) (Passed → Passed) Value Value Place part_step passed_step value_step call_step
    place_step part)
    ∙ step_slot _ place

turn_slot : (parts : List code_part.Part) (place : Place) → is_slot place ≡ false
    → is_slot (in_turn place (map part_view parts)) ≡ false
turn_slot [] place h = h
turn_slot (part ∷ parts) place h = turn_slot parts (part_view part place) (part_slot part place)

parts_slot : (parts : List code_part.Part) (place : Place) → (parts ≡ [] → ⊥)
    → is_slot (in_turn place (map part_view parts)) ≡ false
parts_slot [] place some = absurd (some refl)
parts_slot (part ∷ parts) place some = turn_slot parts (part_view part place) (part_slot part place)

place_seen : (place : code_place.Place)
    → place_view place ≡ in_turn (typed.slot (slot_view place.slot)) (map part_view place.parts)
place_seen place = place_view-roll (record { slot = place.slot; parts = place.parts })

pub whole_seen : (place : code_place.Place) → place.parts ≡ [] → place_view place ≡ typed.slot (slot_view place.slot)
whole_seen place none =
    place_seen place
    ∙ ap (λ (parts : List code_part.Part). in_turn (typed.slot (slot_view place.slot)) (map part_view parts)) none

module _ (table : Table) where
  -- the file that a value is, if it is known and is one
  abbrev pub file_of : Option Value → Option Place
  file_of value = option_and_then (whole_file table) value

  part_no_file : (place : Place) → is_slot place ≡ false → whole_file table (typed.read place) ≡ None
  part_no_file (typed.slot slot) h = cc
  part_no_file (typed.element place indexes found index) h = refl
  part_no_file (typed.field place number found) h = refl
  part_no_file (typed.buffer place found) h = refl

  pub parts_no_file : (place : code_place.Place) → (place.parts ≡ [] → ⊥)
      → whole_file table (typed.read (place_view place)) ≡ None
  parts_no_file place some =
      part_no_file (place_view place)
      (ap is_slot (place_seen place) ∙ parts_slot place.parts (typed.slot (slot_view place.slot)) some)

  pub whole_alone : (place : code_place.Place) → place.parts ≡ []
      → whole_file table (typed.read (place_view place)) ≡ file_at table (place_view place)
  whole_alone place none =
      ap (λ (found : Place). whole_file table (typed.read found)) (whole_seen place none)
      ∙ ap (file_at table) (sym (whole_seen place none))

  at_component : (is : Bool) (place file : Place) → is_file table place ≡ is
      → (if is then Some place else None) ≡ Some file → is_file table file ≡ true
  at_component true place file same h = let one : place ≡ file = cc in ap (is_file table) (sym one) ∙ same
  at_component false place file same h = cc

  pub whole_component : (value : Value) (file : Place) → whole_file table value ≡ Some file
      → is_file table file ≡ true
  whole_component (typed.constant base value) file h = cc
  whole_component (typed.read (typed.slot slot)) file h =
      at_component (is_file table (typed.slot slot)) (typed.slot slot) file refl h
  whole_component (typed.read (typed.element place indexes found index)) file h = cc
  whole_component (typed.read (typed.field place number found)) file h = cc
  whole_component (typed.read (typed.buffer place found)) file h = cc
  whole_component (typed.call number found passed) file h = cc
  whole_component (typed.applied found value) file h = cc
  whole_component (typed.tested test place) file h = cc
  whole_component (typed.parenthesized value) file h = cc
  whole_component (typed.signed lead value) file h = cc
  whole_component (typed.negated value) file h = cc
  whole_component (typed.product left op right) file h = cc
  whole_component (typed.addition left op right) file h = cc
  whole_component (typed.comparison left op right) file h = cc

  pub file_component : (value : Option Value) (file : Place) → file_of value ≡ Some file
      → is_file table file ≡ true
  file_component None file h = cc
  file_component (Some value) file h = whole_component value file h

  -- values that are no variable by itself
  both_none : {A B : Type 0} (make : A → B → Value) (one : Option A) (other : Option B)
      → ((x : A) (y : B) → whole_file table (make x y) ≡ None) → file_of (both make one other) ≡ None
  both_none make None other h = refl
  both_none make (Some x) None h = refl
  both_none make (Some x) (Some y) h = h x y

  known_none : {A : Type 0} (make : A → Value) (one : Option A) → ((x : A) → whole_file table (make x) ≡ None)
      → file_of (known make one) ≡ None
  known_none make None h = refl
  known_none make (Some x) h = h x

  abbrev slot_in : Option Place → Bool
  slot_in None = false
  slot_in (Some place) = is_slot place

  read_none : (place : Option Place) → slot_in place ≡ false → file_of (known typed.read place) ≡ None
  read_none None h = refl
  read_none (Some place) h = part_no_file place h

  known_slot : {A : Type 0} (make : A → Place) (found : Option A) → ((x : A) → is_slot (make x) ≡ false)
      → slot_in (known make found) ≡ false
  known_slot make None h = refl
  known_slot make (Some x) h = h x

  indexed_slot : (index : Judged Value) (place : Place) (found : Option ArrayParts)
      → slot_in (indexed_by table index place found).value ≡ false
  indexed_slot index place None = refl
  indexed_slot index place (Some found) =
      known_slot (typed.element place found.indexes found.element) _ (λ x. refl)

  element_slot : (index : Judged Value) (place : Option Place) → slot_in (element_by table index place).value ≡ false
  element_slot index None = refl
  element_slot index (Some place) = indexed_slot index place (elements_of table (type_of_place place))

  at_slot : (place : Place) (found : List Field) (number : Option ℕ)
      → slot_in (field_at place found number).value ≡ false
  at_slot place found None = refl
  at_slot place found (Some number) =
      known_slot (λ (field : Field). typed.field place number field.type) (slice_get found number) (λ x. refl)

  found_slot : (name : List ℕ) (place : Place) (fields : Option (List Field))
      → slot_in (field_in name place fields).value ≡ false
  found_slot name place None = refl
  found_slot name place (Some fields) = at_slot place fields (position (λ field. bytes_eq field.name name) fields)

  field_slot : (name : List ℕ) (place : Option Place) → slot_in (field_by table name place).value ≡ false
  field_slot name None = refl
  field_slot name (Some place) = found_slot name place (fields_of table (type_of_place place))

  buffer_made : (place : Place) (component : Option PasType)
      → slot_in (option_map (typed.buffer place) component) ≡ false
  buffer_made place None = refl
  buffer_made place (Some component) = refl

  buffer_slot : (place : Option Place) → slot_in (option_and_then (buffer_at table) place) ≡ false
  buffer_slot None = refl
  buffer_slot (Some place) = buffer_made place (component_of table (type_of_place place))

-- a name by itself
module _ (scopes : Scopes) where
  abbrev table : Table
  table = scopes.outer.types

  abbrev IsNamed : Judged Value → Type 0
  IsNamed part = (file : Place) → file_of table part.value ≡ Some file → part.marks ≡ quiet

  unnamed : (part : Judged Value) → file_of table part.value ≡ None → IsNamed part
  unnamed part h file is = absurd (none-some file (sym h ∙ is))

  without_unnamed : (number : ℕ) (result : Option PasType) (parameters : List Variable)
      → file_of table (without_arguments number result parameters).value ≡ None
  without_unnamed number None parameters = refl
  without_unnamed number (Some found) [] = refl
  without_unnamed number (Some found) (parameter ∷ parameters) = refl

  alone_unnamed : (number : ℕ) (heading : Option Heading)
      → file_of table (function_alone number heading).value ≡ None
  alone_unnamed number None = refl
  alone_unnamed number (Some heading) = without_unnamed number heading.result heading.parameters

  test_unnamed : (test : typed.FileTest) (slot : Option Slot) → file_of table (test_alone test slot).value ≡ None
  test_unnamed test None = refl
  test_unnamed test (Some slot) = refl

  as_named : (entity : Option Entity) → IsNamed (as_value scopes entity)
  as_named None = unnamed (as_value scopes None) refl
  as_named (Some (constant base value)) = unnamed (as_value scopes (Some (constant base value))) refl
  as_named (Some (type found)) = unnamed (as_value scopes (Some (type found))) refl
  as_named (Some (variable found)) = λ file is. refl
  as_named (Some (routine number)) =
      unnamed (as_value scopes (Some (routine number))) (alone_unnamed number (heading_of scopes number))
  as_named (Some (function found)) =
      unnamed (as_value scopes (Some (function found))) (known_none table any_of_base (base_of table
      (type_of_function found)) (λ x. refl))
  as_named (Some (file_test test)) =
      unnamed (as_value scopes (Some (file_test test))) (test_unnamed test (standard_file scopes (codes "input")))
  as_named (Some (file_step step)) = unnamed (as_value scopes (Some (file_step step))) refl
  as_named (Some (procedure found)) = unnamed (as_value scopes (Some (procedure found))) refl
  as_named (Some unclear) = unnamed (as_value scopes (Some unclear)) refl

  with_unnamed : (number : ℕ) (heading : Heading) (arguments : List Given) (result : Option PasType)
      → file_of table (call_with scopes number heading arguments result).value ≡ None
  with_unnamed number heading arguments None = refl
  with_unnamed number heading arguments (Some found) =
      known_none table (λ values. typed.call number found (passed_to heading.parameters values))
      (given (demands_of table heading.parameters) arguments) (λ x. refl)

  routine_unnamed : (number : ℕ) (arguments : List Given) (heading : Option Heading)
      → file_of table (function_call_of scopes number arguments heading).value ≡ None
  routine_unnamed number arguments None = refl
  routine_unnamed number arguments (Some heading) = with_unnamed number heading arguments heading.result

  call_unnamed : (arguments : List Given) (entity : Option Entity)
      → file_of table (as_call scopes arguments entity).value ≡ None
  call_unnamed arguments None = refl
  call_unnamed arguments (Some (constant base value)) = refl
  call_unnamed arguments (Some (type found)) = refl
  call_unnamed arguments (Some (variable found)) = refl
  call_unnamed arguments (Some (routine number)) = routine_unnamed number arguments (heading_of scopes number)
  call_unnamed arguments (Some (function found)) =
      known_none table (typed.applied found) (option_and_then first_value
      (given (function_demand table found ∷ []) arguments)) (λ x. refl)
  call_unnamed arguments (Some (file_test test)) =
      known_none table (typed.tested test) (option_and_then (file_in table) (option_and_then first_value
      (given (test_demand table test ∷ []) arguments))) (λ x. refl)
  call_unnamed arguments (Some (file_step step)) = refl
  call_unnamed arguments (Some (procedure found)) = refl
  call_unnamed arguments (Some unclear) = refl

  elements_slot : (before : Judged Place) (indexes : Exprs)
      → slot_in table (elements_at scopes before indexes).value ≡ false
  elements_slot before (tree.first_expr index) = element_slot table (value_of scopes index) before.value
  elements_slot before (tree.more_exprs others line index) =
      element_slot table (value_of scopes index) (elements_at scopes before others).value

  variable_named : (found : tree.Variable) → IsNamed (variable_value scopes found)
  variable_named (tree.whole ident) = as_named (entity_of scopes ident.name)
  variable_named (tree.indexed found opened indexes closed) =
      unnamed (variable_value scopes (tree.indexed found opened indexes closed)) (read_none table
      (elements_at scopes (as_array table (place_of scopes found)) indexes).value
      (elements_slot (as_array table (place_of scopes found)) indexes))
  variable_named (tree.field_of found line ident) =
      unnamed (variable_value scopes (tree.field_of found line ident)) (read_none table
      (field_of table (place_of scopes found) ident).value
      (field_slot table ident.name (checked (record_only table) (place_of scopes found)).value))
  variable_named (tree.buffer_of found line) =
      unnamed (variable_value scopes (tree.buffer_of found line)) (read_none table
      (buffer_of table (place_of scopes found)).value
      (buffer_slot table (checked (files_only table) (place_of scopes found)).value))

  text_unnamed : (found : Option ConstantValue) → file_of table (known (λ text. typed.constant text.base text.value)
      found) ≡ None
  text_unnamed None = refl
  text_unnamed (Some found) = refl

  factor_named : (factor : tree.Factor) → IsNamed (factor_of scopes factor)
  factor_named (tree.literal numeral) = unnamed (factor_of scopes (tree.literal numeral)) refl
  factor_named (tree.literal_text quoted) =
      unnamed (factor_of scopes (tree.literal_text quoted)) (text_unnamed (forms.char_in (forms.undoubled
      quoted.text)).value)
  factor_named (tree.parenthesized opened expr closed) =
      unnamed (factor_of scopes (tree.parenthesized opened expr closed)) (known_none table typed.parenthesized
      (value_of scopes expr).value (λ x. refl))
  factor_named (tree.negated line factor) =
      unnamed (factor_of scopes (tree.negated line factor)) (known_none table typed.negated
      (factor_of scopes factor).value (λ x. refl))
  factor_named (tree.variable found) = variable_named found
  factor_named (tree.function_call name opened arguments closed) =
      unnamed (factor_of scopes (tree.function_call name opened arguments closed)) (call_unnamed
      (map bare_argument (values_of scopes arguments)) (entity_of scopes name.name))
  factor_named (tree.set_value line) = unnamed (factor_of scopes (tree.set_value line)) refl
  factor_named (tree.nil line) = unnamed (factor_of scopes (tree.nil line)) refl

  term_named : (term : tree.Term) → IsNamed (term_of scopes term)
  term_named (tree.first_factor factor) = factor_named factor
  term_named (tree.more_factors left op factor) =
      unnamed (term_of scopes (tree.more_factors left op factor)) (both_none table
      (λ one other. typed.product one op.item other) (term_of scopes left).value (factor_of scopes factor).value
      (λ x y. refl))
  term_named (tree.quotient left line) = unnamed (term_of scopes (tree.quotient left line)) refl

  sum_named : (sum : tree.Sum) → IsNamed (sum_of scopes sum)
  sum_named (tree.first_term term) = term_named term
  sum_named (tree.signed_term lead term) =
      unnamed (sum_of scopes (tree.signed_term lead term)) (known_none table (typed.signed lead.item)
      (term_of scopes term).value (λ x. refl))
  sum_named (tree.more_terms left op term) =
      unnamed (sum_of scopes (tree.more_terms left op term)) (both_none table
      (λ one other. typed.addition one op.item other) (sum_of scopes left).value (term_of scopes term).value
      (λ x y. refl))
  sum_named (tree.membership left line) = unnamed (sum_of scopes (tree.membership left line)) refl

  pub value_named : (expr : Expr) (file : Place) → file_of table (value_of scopes expr).value ≡ Some file
      → (value_of scopes expr).marks ≡ quiet
  value_named (tree.sum sum) = sum_named sum
  value_named (tree.relation left op right) =
      unnamed (value_of scopes (tree.relation left op right)) (both_none table
      (λ one other. typed.comparison one op.item other) (sum_of scopes left).value (sum_of scopes right).value
      (λ x y. refl))

  -- a value of which checking stops is no file by itself
  never_shown : (words : List Word) (fault : Fault) → first_fault words ([] ∷ []) ≡ Some fault → ⊥
  never_shown [] fault h = none-some fault h
  never_shown (word ∷ []) fault h = none-some fault h
  never_shown (word ∷ (next ∷ words)) fault h = none-some fault h

  not_named : (words : List Word) (expr : Expr) (fault : Fault) (found : Option Place)
      → Stops words (value_of scopes expr) fault → file_of table (value_of scopes expr).value ≡ found
      → found ≡ None
  not_named words expr fault None h is = refl
  not_named words expr fault (Some file) h is =
      let marks = value_named expr file is in
      absurd (never_shown words fault
      (subst (λ (marks : Marks). first_fault words (last_of [] marks.tokens) ≡ Some fault) marks
      (h.first [] (λ unknown. refl))))

  pub stopped_unnamed : (words : List Word) (expr : Expr) (why : Stop) → (why ≡ stop.OutOfMemory → ⊥)
      → StopsBy words (value_of scopes expr) why → file_of table (value_of scopes expr).value ≡ None
  stopped_unnamed words expr stop.OutOfMemory other h = absurd (other refl)
  stopped_unnamed words expr (stop.Fault fault) other h =
      not_named words expr fault (file_of table (value_of scopes expr).value) h refl
  stopped_unnamed words expr stop.Missing other h = absurd h

-- a file that only a text may be, or not
module _ (words : List Word) (demand : Demand) (part : Judged Value) (value : Value) (end last : Ending)
    (holds : Bool) (fine : demand value ≡ unless holds (wrong FILE_RULE)) (at : last ≡ noted_end holds FILE_RULE end)
    (h : EndsAs words part value end) where
  pub ruled_fails : (why : Stop) → Err why ≡ stands_by last → FailsBy words (checked demand part).marks why
  ruled_fails why is = checked_fails words demand part value end FILE_RULE holds why fine (is ∙ ap stands_by at) h

  pub ruled_stands : Ok tt ≡ stands_by last → StandsAs words (checked demand part) value last
  ruled_stands is =
      subst (λ (e : Ending). StandsAs words (checked demand part) value e) (sym at)
      (checked_stands words demand part value end FILE_RULE holds fine (is ∙ ap stands_by at) h)

-- where items must be, and there are none
pub none_refused : (scopes : Scopes) (spellings : List ℕ) (closed : ℕ) (more : List (CodeBehind CodeArgument))
    (empty : Bool) → (empty ≡ true → more ≡ []) → (empty ≡ false → more ≡ [] → ⊥)
    → demanded (not empty) WRONG_TYPE closed
    ≡ refused_by closed (missing_items items_alone (behind_actuals scopes spellings more))
none_refused scopes spellings closed [] true none some = refl
none_refused scopes spellings closed [] false none some = absurd (some refl refl)
none_refused scopes spellings closed (behind ∷ more) true none some = let h = none refl in cc
none_refused scopes spellings closed (behind ∷ more) false none some = refl
