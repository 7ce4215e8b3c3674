-- Calls of procedures that show no fault are lawful: of routines, of the steps of files, and of those that read and
-- write.
use Rattle.std.proofs.Common.{◌≡◌, refl, sym, ap, subst, ◌∙◌, ℕ, ◌+◌, ◌&&◌, ◌||◌}
use Rattle.std.proofs.Common.{Bool, true, false, not, List, [], ◌∷◌, ◌++◌, map, Option, Some, None, IfSome}
use Rattle.std.proofs.Common.{IsSome, is_some, All}
use Rattle.std.specs.Prelude.{if◌then◌else◌, option_and_then, slice_get, codes, flat_map}
use Rattle.std.proofs.lemmas.Option.{IfSome_then, same_Some}
use Rattle.std.proofs.lemmas.List.Elements.{All-from_recursion}
use Rattle.wb_base.specs.declared.faults.TheConstants.{WRONG_TYPE, READING_NUMBERS}
use Rattle.pas_tokens.specs.declared.kinds.Kind.TheVariants as k
use Rattle.pas_tokens.specs.Cutting.{Wrong, wrong}
use Rattle.pas_syntax.specs.Tree as tree
use Rattle.pas_syntax.specs.Tree.{Behind, Expr, Separated}
use Rattle.pas_syntax.specs.Parse.{left_out}
use Rattle.pas_syntax.specs.Words.{at, separated, expr_words, argument_words, arguments_words, width_words, words_if}
use Rattle.pas_typed.specs.Types.{integer, char, PasType, Table, component_of, is_of, are_compatible}
use Rattle.pas_typed.specs.Typed as typed
use Rattle.pas_typed.specs.Typed.{FileStep, Slot, Value, Place, Item, Statement, Heading, Variable, TypedProgram}
use Rattle.pas_typed.specs.TypeOf.{type_of, type_of_place}
use Rattle.pas_typed.specs.Lawful.{IsOrdinal, IsFile, IsLawfulValue, IsLawfulPlace, IsLawfulNumber, IsLawfulFile}
use Rattle.pas_typed.specs.Lawful.{IsLawfulTarget, IsLawfulItem, IsLawfulStatement, ArePassed}
use Rattle.pas_typed.proofs.ShapeLemmas.{component-ordinal}
use Rattle.pas_rules.specs.Marks.{quiet, shows, listed, unless, Judged, judged, both}
use Rattle.pas_rules.specs.Marks.{checked}
use Rattle.pas_rules.specs.Scopes as scope
use Rattle.pas_rules.specs.Scopes.{Entity, Procedure, Inner, Scopes, entity_of, standard_file}
use Rattle.pas_rules.specs.Expressions as values
use Rattle.pas_rules.specs.Expressions.{only, Demand, Given, met, value_of, heading_of}
use Rattle.pas_rules.specs.Calls as spec
use Rattle.pas_rules.specs.Calls.{Actual, Extent, items_alone, whole_line, Transfer}
use Rattle.pas_rules.proofs.CleanLemmas.{Each, IsClean, Lawfully, joined_clean, listed_clean, holds, known_if, both_if}
use Rattle.pas_rules.proofs.CleanLemmas.{checked_clean, checked_if, all_known_if, each_before, each_behind, each_map}
use Rattle.pas_rules.proofs.CleanLemmas.{some_fault}
use Rattle.pas_rules.proofs.HeldWords.{AreHeld, held_before, held_behind}
use Rattle.pas_rules.proofs.LawfulScopes.{so_far, IsLawfulHeading, result_in, variables_in, AreLawful}
use Rattle.pas_rules.proofs.LawfulValues as value_law
use Rattle.pas_rules.proofs.LawfulValues.{only_ordinal, is_ordinal, takes, takes_if, ordinal_taken, both_true}

module _ (scopes : Scopes) (lawful : AreLawful scopes) where
  abbrev program : TypedProgram
  program = so_far scopes.outer

  abbrev variables : List Variable
  variables = variables_in scopes.inner

  abbrev table : Table
  table = scopes.outer.types

  abbrev IsValue : Value → Type 0
  IsValue = IsLawfulValue program variables

  abbrev IsPlace : Place → Type 0
  IsPlace = IsLawfulPlace program variables

  abbrev pub IsStatement : Statement → Type 0
  IsStatement = IsLawfulStatement program variables (result_in scopes scopes.inner)

  abbrev IsFilePlace : Place → Type 0
  IsFilePlace place = IsLawfulFile program variables place

  abbrev IsNumber : Value → Type 0
  IsNumber value = IsLawfulNumber program variables value

  abbrev IsTarget : Place → Type 0
  IsTarget place = IsLawfulTarget program variables place

  -- arguments
  pub record IsActual (actual : Actual) : Type 0 where
    pub value : Lawfully IsValue actual.value
    pub width : IfSome actual.width (Lawfully IsValue)

  width_lawful : (n : ℕ) (width : Option (Behind Expr)) → AreHeld (words_if (width_words n) width)
      → IfSome (spec.width_of scopes width) (Lawfully IsValue)
  width_lawful n None held = tt
  width_lawful n (Some behind) held = value_law.value_lawful scopes lawful n 0 behind.item held.1

  actual_lawful : (n : ℕ) (argument : tree.Argument) → AreHeld (argument_words n argument)
      → IsActual (spec.actual_of scopes argument)
  actual_lawful n argument held = record {
    value = value_law.value_lawful scopes lawful n 0 argument.value
        (held_before (expr_words n 0 argument.value) (words_if (width_words n) argument.width) held);
    width = width_lawful n argument.width
        (held_behind (expr_words n 0 argument.value) (words_if (width_words n) argument.width) held);
  }

  more_lawful : (n : ℕ) (more : List (Behind tree.Argument))
      → AreHeld (flat_map (λ behind. at n k.Comma behind.line ∷ argument_words n behind.item) more)
      → Each IsActual (map (λ behind. spec.actual_of scopes behind.item) more)
  more_lawful n [] held = tt
  more_lawful n (behind ∷ more) held = (
    actual_lawful n behind.item (held_before (argument_words n behind.item) _ held.1),
    more_lawful n more (held_behind (argument_words n behind.item) _ held.1),
  )

  pub actuals_lawful : (n : ℕ) (arguments : tree.Arguments) → AreHeld (arguments_words n arguments)
      → Each IsActual (spec.actuals_of scopes arguments.items)
  actuals_lawful n arguments held =
      let items : Separated tree.Argument = arguments.items in
      let within : AreHeld (separated (n + 1) k.Comma (argument_words (n + 1)) items) =
      held_before (separated (n + 1) k.Comma (argument_words (n + 1)) items) _ held.1 in (
        actual_lawful (n + 1) items.first (held_before (argument_words (n + 1) items.first) _ within),
        more_lawful (n + 1) items.more (held_behind (argument_words (n + 1) items.first) _ within),
      )

  abbrev IsGiven : Given → Type 0
  IsGiven argument = Lawfully IsValue argument.value

  givens_lawful : (actuals : List Actual) → Each IsActual actuals → Each IsGiven (map spec.without_width actuals)
  givens_lawful [] h = tt
  givens_lawful (actual ∷ actuals) h = (h.0.value, givens_lawful actuals h.1)

  -- calls of routines
  procedure_lawful : (number : ℕ) (heading : Heading) (arguments : List Given) (result : Option PasType)
      → slice_get program.headings number ≡ Some heading → IsLawfulHeading table heading → Each IsGiven arguments
      → Lawfully IsStatement (spec.procedure_with scopes number heading arguments result)
  procedure_lawful number heading arguments (Some type) there of_heading h clean = tt
  procedure_lawful number heading arguments None there of_heading h clean =
      let demands : List Demand = values.demands_of table heading.parameters in
      known_if (value_law.Meet scopes lawful demands) IsStatement
      (λ found. typed.calls number (values.passed_to heading.parameters found)) (values.given demands arguments)
      (λ found are.
      (heading, there, value_law.all_passed scopes lawful heading.parameters found of_heading.parameters are))
      (value_law.called_lawful scopes lawful demands arguments h clean)

  routine_lawful : (number : ℕ) (arguments : List Given) (heading : Option Heading)
      → slice_get program.headings number ≡ heading → IfSome heading (IsLawfulHeading table)
      → Each IsGiven arguments → Lawfully IsStatement (spec.routine_with scopes number arguments heading)
  routine_lawful number arguments None there of_heading h clean = tt
  routine_lawful number arguments (Some heading) there of_heading h clean =
      procedure_lawful number heading arguments heading.result there of_heading h clean

  step_lawful : (step : FileStep) (arguments : List Given) → Each IsGiven arguments
      → Lawfully IsStatement (spec.step_with table step arguments)
  step_lawful step arguments h clean =
      let demand : Demand = values.file_only table in
      let first : Option Value = option_and_then values.first_value (values.given (demand ∷ []) arguments) in
      known_if IsFilePlace IsStatement (typed.file_step step) (option_and_then (values.file_in table) first)
      (λ place is. is)
      (value_law.file_in_lawful scopes lawful first
      (IfSome_then first (value_law.first_lawful scopes lawful demand (values.given (demand ∷ []) arguments)
      (value_law.called_lawful scopes lawful (demand ∷ []) arguments h clean)) (λ value is. is.0)))

  halt_lawful : (arguments : List Given) → Each IsGiven arguments
      → Lawfully IsStatement (spec.halt_with table arguments)
  halt_lawful arguments h clean =
      let demand : Demand = only integer table in
      known_if (value_law.Meets scopes lawful demand) IsStatement typed.halts (option_and_then values.first_value
      (values.given (demand ∷ []) arguments))
      (λ value is. (is.0, only_ordinal integer table value is.1))
      (value_law.first_lawful scopes lawful demand (values.given (demand ∷ []) arguments)
      (value_law.called_lawful scopes lawful (demand ∷ []) arguments h clean))

  -- the file of a transfer
  whole_file_lawful : (value : Option Value) → IfSome value IsValue
      → IfSome (option_and_then (spec.whole_file table) value) IsFilePlace
  whole_file_lawful None h = tt
  whole_file_lawful (Some (typed.constant base number)) h = tt
  whole_file_lawful (Some (typed.read (typed.slot slot))) h =
      value_law.file_lawful scopes lawful (Some (typed.slot slot)) h
  whole_file_lawful (Some (typed.read (typed.element place range type index))) h = tt
  whole_file_lawful (Some (typed.read (typed.field place number type))) h = tt
  whole_file_lawful (Some (typed.read (typed.buffer place type))) h = tt
  whole_file_lawful (Some (typed.call routine type passed)) h = tt
  whole_file_lawful (Some (typed.applied function argument)) h = tt
  whole_file_lawful (Some (typed.tested test place)) h = tt
  whole_file_lawful (Some (typed.parenthesized inner)) h = tt
  whole_file_lawful (Some (typed.signed sign argument)) h = tt
  whole_file_lawful (Some (typed.negated argument)) h = tt
  whole_file_lawful (Some (typed.product left op right)) h = tt
  whole_file_lawful (Some (typed.addition left op right)) h = tt
  whole_file_lawful (Some (typed.comparison left relation right)) h = tt

  standard_file_lawful : (standard : Option Slot) (actuals : List Actual)
      → IfSome standard (value_law.IsTextSlot scopes lawful)
      → IfSome (spec.on_standard standard actuals).file IsFilePlace
  standard_file_lawful None actuals h = tt
  standard_file_lawful (Some slot) actuals h = h

  standard_items : (standard : Option Slot) (actuals : List Actual) → Each IsActual actuals
      → Each IsActual (spec.on_standard standard actuals).items
  standard_items None actuals h = h
  standard_items (Some slot) actuals h = h

  -- a transfer of which each word is clean
  pub record IsTransfer (transfer : Transfer) : Type 0 where
    pub file : Each IsClean transfer.file_marks → IfSome transfer.file IsFilePlace
    pub items : Each IsActual transfer.items

  named_lawful : (extent : Extent) (standard : Option Slot) (actual : Actual) (actuals : List Actual)
      (file : Option Place) → option_and_then (spec.whole_file table) actual.value.value ≡ file
      → IfSome standard (value_law.IsTextSlot scopes lawful) → IsActual actual → Each IsActual actuals
      → IsTransfer (spec.transfer_by extent standard (actual ∷ actuals) file)
  named_lawful extent standard actual actuals None is on h are = record {
    file = λ clean. standard_file_lawful standard (actual ∷ actuals) on;
    items = standard_items standard (actual ∷ actuals) (h, are);
  }
  named_lawful extent standard actual actuals (Some file) is on h are =
      let demand : Demand = spec.demand_on_file extent in
      let argument : Judged Value = met demand (spec.without_width actual) in
      record {
        file = λ clean. known_if (λ value. IsFilePlace file) IsFilePlace (λ value. file) argument.value (λ value
            found. found)
            (of_file argument.value (met_value demand clean.0));
        items = are;
      }
    where
      met_clean : (demand : Demand) → IsClean (met demand (spec.without_width actual)).marks
          → IsClean actual.value.marks
      met_clean demand clean =
          checked_clean demand actual.value
          (joined_clean ((checked demand actual.value).marks ∷ (spec.no_width actual.width).marks ∷ []) clean).0

      met_value : (demand : Demand) → IsClean (met demand (spec.without_width actual)).marks → IsFilePlace file
      met_value demand clean =
          subst (λ found. IfSome found IsFilePlace) is
          (whole_file_lawful actual.value.value (h.value (met_clean demand clean)))

      of_file : (value : Option Value) → IsFilePlace file → IfSome value (λ found. IsFilePlace file)
      of_file None found = tt
      of_file (Some value) found = found

  transfer_lawful : (extent : Extent) (standard : Option Slot) (actuals : List Actual)
      → IfSome standard (value_law.IsTextSlot scopes lawful) → Each IsActual actuals
      → IsTransfer (spec.transfer_of extent table standard actuals)
  transfer_lawful extent standard [] on h = record {
    file = λ clean. standard_file_lawful standard [] on;
    items = standard_items standard [] tt;
  }
  transfer_lawful extent standard (actual ∷ actuals) on h =
      named_lawful extent standard actual actuals (option_and_then (spec.whole_file table) actual.value.value) refl on
      h.0 h.1

  -- what is clean of a transfer and its items
  parts_clean : {A : Type 0} (extent : Extent) (transfer : Transfer) (items : List (Judged A))
      → IsClean (spec.transferred extent transfer items)
      → Each IsClean (transfer.file_marks ++ map (λ item. item.marks) items)
  parts_clean extent transfer items clean =
      listed_clean (transfer.file_marks ++ map (λ item. item.marks) items)
      (joined_clean (transfer.name ∷ quiet ∷ listed (transfer.file_marks ++ map (λ item. item.marks) items)
      ∷ shows (spec.missing_items extent transfer.items) ∷ []) clean).1.1.0

  each_known : {A : Type 0} (P : A → Type 0) (items : List (Judged A)) → Each (Lawfully P) items
      → Each IsClean (map (λ item. item.marks) items) → Each (λ item. IfSome item P) (map (λ item. item.value) items)
  each_known P [] h clean = tt
  each_known P (item ∷ items) h clean = (h.0 clean.0, each_known P items h.1 clean.1)

  values_if_lawful : {A : Type 0} (P : A → Type 0) (faults : List Wrong) (items : List (Judged A))
      → Each (Lawfully P) items → Each IsClean (map (λ item. item.marks) items)
      → IfSome (spec.values_if faults items) (Each P)
  values_if_lawful P [] items h clean = all_known_if P (map (λ item. item.value) items) (each_known P items h clean)
  values_if_lawful P (refusal ∷ more) items h clean = tt

  -- a transfer of lawful items, made into a statement
  made_lawful : {A : Type 0} (P : A → Type 0) (extent : Extent) (transfer : Transfer) (items : List (Judged A))
      (make : Place → List A → Statement)
      → ((file : Place) (found : List A) → IsFilePlace file → All P found → IsStatement (make file found))
      → IsTransfer transfer → ((file : Place) → transfer.file ≡ Some file → IsFilePlace file → Each (Lawfully P) items)
      → Lawfully IsStatement (judged (spec.transferred extent transfer items)
      (both make transfer.file (spec.values_if (spec.missing_items extent transfer.items) items)))
  made_lawful {A} P extent transfer items make gives h are clean =
      let parts : Each IsClean (transfer.file_marks ++ map (λ item. item.marks) items) =
      parts_clean extent transfer items clean in
      by_file transfer.file refl (h.file (each_before IsClean transfer.file_marks _ parts))
      (each_behind IsClean transfer.file_marks _ parts)
    where
      by_file : (file : Option Place) → transfer.file ≡ file → IfSome file IsFilePlace
          → Each IsClean (map (λ item. item.marks) items)
          → IfSome (both make file (spec.values_if (spec.missing_items extent transfer.items) items)) IsStatement
      by_file None is at parts = nothing (spec.values_if (spec.missing_items extent transfer.items) items)
        where
          nothing : (found : Option (List A)) → IfSome (both make None found) IsStatement
          nothing None = tt
          nothing (Some found) = tt
      by_file (Some file) is at parts =
          some (spec.values_if (spec.missing_items extent transfer.items) items)
          (values_if_lawful P (spec.missing_items extent transfer.items) items (are file is at) parts)
        where
          some : (found : Option (List A)) → IfSome found (Each P) → IfSome (both make (Some file) found) IsStatement
          some None h = tt
          some (Some found) h = gives file found at (All-from_recursion P found h)

  -- reading
  target_in : (value : Value) → IsValue value → IsOrdinal table (type_of value)
      → IfSome (values.place_in value) IsTarget
  target_in (typed.constant base number) is ordinal = tt
  target_in (typed.read place) is ordinal = (is, ordinal)
  target_in (typed.call routine type passed) is ordinal = tt
  target_in (typed.applied function argument) is ordinal = tt
  target_in (typed.tested test place) is ordinal = tt
  target_in (typed.parenthesized inner) is ordinal = tt
  target_in (typed.signed sign argument) is ordinal = tt
  target_in (typed.negated argument) is ordinal = tt
  target_in (typed.product left op right) is ordinal = tt
  target_in (typed.addition left op right) is ordinal = tt
  target_in (typed.comparison left relation right) is ordinal = tt

  char_read : (value : Value) (is_integer : Bool)
      → (if is_integer then left_out READING_NUMBERS ∷ []
      else unless (is_some (values.place_in value) && is_of char table (type_of value)) (wrong WRONG_TYPE)) ≡ []
      → IsOrdinal table (type_of value)
  char_read value true is = some_fault (left_out READING_NUMBERS) [] is
  char_read value false is =
      is_ordinal char table (type_of value)
      (both_true (is_some (values.place_in value)) (is_of char table (type_of value))
      (holds (is_some (values.place_in value) && is_of char table (type_of value)) (wrong WRONG_TYPE) is)).1

  component_read : (file : Place) (value : Value) (component : Option PasType)
      → component_of table (type_of_place file) ≡ component → IsSome component
      → spec.read_component table component value ≡ [] → IsOrdinal table (type_of value)
  component_read file value None at there is = absurd (cc)
  component_read file value (Some component) at there is =
      ordinal_taken table component (type_of value)
      (component-ordinal table (type_of_place file) component lawful.rows at)
      (takes_if table component (type_of value)
      (both_true (is_some (values.place_in value)) (are_compatible table component (type_of value))
      (holds (is_some (values.place_in value) && are_compatible table component (type_of value)) (wrong WRONG_TYPE)
      is)).1)

  ordinal_read : (file : Place) (value : Value) (is_text : Bool) → IsFile table (type_of_place file)
      → (if is_text then spec.read_from_text table value
      else spec.read_component table (component_of table (type_of_place file)) value) ≡ []
      → IsOrdinal table (type_of value)
  ordinal_read file value true there is =
      char_read value (is_of integer table (type_of value) && not (spec.is_call_by_name value)) is
  ordinal_read file value false there is =
      component_read file value (component_of table (type_of_place file)) refl there is

  read_item_lawful : (file : Place) (actual : Actual) → IsFile table (type_of_place file) → IsActual actual
      → Lawfully IsTarget (spec.read_item table (Some file) actual)
  read_item_lawful file actual there h clean =
      let demand : Demand = spec.read_demand table (Some file) in
      by_value (met demand (spec.without_width actual)).value
      (value_law.met_lawful scopes lawful demand (spec.without_width actual) h.value clean)
    where
      by_value : (value : Option Value)
          → IfSome value (value_law.Meets scopes lawful (spec.read_demand table (Some file)))
          → IfSome (option_and_then values.place_in value) IsTarget
      by_value None h = tt
      by_value (Some value) h =
          target_in value h.0 (ordinal_read file value (spec.is_text file) there h.1)

  all_read : (file : Place) (found : Option Place) (actuals : List Actual) → found ≡ Some file
      → IsFile table (type_of_place file) → Each IsActual actuals
      → Each (Lawfully IsTarget) (map (spec.read_item table found) actuals)
  all_read file found actuals is there h =
      subst (λ at. Each (Lawfully IsTarget) (map (spec.read_item table at) actuals)) (sym is)
      (each_map IsActual (Lawfully IsTarget) (spec.read_item table (Some file)) actuals (λ actual one.
      read_item_lawful file actual there one) h)

  abbrev IsStandard : Option Slot → Type 0
  IsStandard standard = IfSome standard (value_law.IsTextSlot scopes lawful)

  reads_lawful : (extent : Extent) (file : Place) (places : List Place) → IsFilePlace file → All IsTarget places
      → IsStatement (spec.reads_by extent file places)
  reads_lawful items_alone file places at are = (at, are)
  reads_lawful whole_line file places at are = (at, are)

  read_lawful : (extent : Extent) (standard : Option Slot) (actuals : List Actual) → IsStandard standard
      → Each IsActual actuals → Lawfully IsStatement (spec.read_with extent table standard actuals)
  read_lawful extent standard actuals on h clean =
      let transfer : Transfer = spec.transfer_of extent table standard actuals in
      let is : IsTransfer transfer = transfer_lawful extent standard actuals on h in
      made_lawful IsTarget extent transfer (map (spec.read_item table transfer.file) transfer.items)
      (spec.reads_by extent) (reads_lawful extent) is
      (λ file at of_file. all_read file transfer.file transfer.items at of_file.1 is.items) clean

  -- writing
  width_value_lawful : (width : Option (Judged Value)) → IfSome width (Lawfully IsValue)
      → Lawfully (λ given. IfSome given IsNumber) (spec.width_value table width)
  width_value_lawful None h clean = tt
  width_value_lawful (Some width) h clean =
      let found : Judged Value = checked (only integer table) width in
      known_if (value_law.Meets scopes lawful (only integer table)) (λ given. IfSome given IsNumber) Some found.value
      (λ value is. (is.0, only_ordinal integer table value is.1))
      (checked_if IsValue (only integer table) width h (joined_clean (quiet ∷ found.marks ∷ []) clean).1.0)

  printed : (value : Value) → spec.printed_only table value ≡ [] → IsOrdinal table (type_of value)
  printed value is =
      either (is_of integer table (type_of value)) (is_of char table (type_of value)) refl refl
      (holds (is_of integer table (type_of value) || is_of char table (type_of value)) (wrong WRONG_TYPE) is)
    where
      either : (one other : Bool) → is_of integer table (type_of value) ≡ one → is_of char table (type_of value) ≡ other
          → (one || other) ≡ true → IsOrdinal table (type_of value)
      either true other is_integer is_char is = is_ordinal integer table (type_of value) is_integer
      either false other is_integer is_char is = is_ordinal char table (type_of value) (is_char ∙ is)

  item_lawful : (value : Value) (width : Option Value) (is_char : Bool) → IsNumber value → IfSome width IsNumber
      → IsLawfulItem program variables
      (if is_char then typed.char_item value width else typed.number_item value width)
  item_lawful value width true is given = (is, given)
  item_lawful value width false is given = (is, given)

  item_on_text_lawful : (actual : Actual) (found : Option (List ℕ)) → IsActual actual
      → Lawfully (IsLawfulItem program variables) (spec.item_on_text table actual found)
  item_on_text_lawful actual (Some bytes) h clean =
      let width : Judged (Option Value) = spec.width_value table actual.width in
      known_if (λ given. IfSome given IsNumber) (IsLawfulItem program variables) (typed.string_item bytes)
      width.value (λ given is. is)
      (width_value_lawful actual.width h.width (joined_clean (quiet ∷ width.marks ∷ []) clean).1.0)
  item_on_text_lawful actual None h clean =
      let value : Judged Value = checked (spec.printed_only table) actual.value in
      let width : Judged (Option Value) = spec.width_value table actual.width in
      let parts : Each IsClean (value.marks ∷ width.marks ∷ []) =
      joined_clean (value.marks ∷ width.marks ∷ []) clean in
      both_if (value_law.Meets scopes lawful (spec.printed_only table)) (λ given. IfSome given IsNumber)
      (IsLawfulItem program variables) (spec.item_of table) value.value width.value
      (λ found given is of_width.
      item_lawful found given (is_of char table (type_of found)) (is.0, printed found is.1) of_width)
      (checked_if IsValue (spec.printed_only table) actual.value h.value parts.0)
      (width_value_lawful actual.width h.width parts.1.0)

  text_lawful : (extent : Extent) (transfer : Transfer) (make : Place → List Item → Statement)
      → ((file : Place) (found : List Item) → IsFilePlace file → All (IsLawfulItem program variables) found
      → IsStatement (make file found))
      → IsTransfer transfer → Lawfully IsStatement (spec.write_text extent table transfer make)
  text_lawful extent transfer make gives is clean =
      made_lawful (IsLawfulItem program variables) extent transfer (map (λ actual. spec.item_on_text table actual
      actual.text) transfer.items) make
      gives is
      (λ file at of_file. each_map IsActual (Lawfully (IsLawfulItem program variables)) (λ actual. spec.item_on_text
      table actual actual.text) transfer.items
      (λ actual one. item_on_text_lawful actual actual.text one) is.items) clean

  component_lawful : (type component : PasType) (actual : Actual) → component_of table type ≡ Some component
      → IsActual actual
      → Lawfully IsNumber (met (spec.component_demand table (Some component)) (spec.without_width actual))
  component_lawful type component actual at h clean =
      let demand : Demand = spec.component_demand table (Some component) in
      IfSome_then (met demand (spec.without_width actual)).value
      (value_law.met_lawful scopes lawful demand (spec.without_width actual) h.value clean)
      (λ value is. (
        is.0,
        ordinal_taken table component (type_of value)
            (component-ordinal table type component lawful.rows at) (takes table component value is.1),
      ))

  components_lawful : (type : PasType) (component : Option PasType) (actuals : List Actual)
      → component_of table type ≡ component → IsSome component → Each IsActual actuals
      → Each (Lawfully IsNumber)
      (map (λ actual. met (spec.component_demand table component) (spec.without_width actual)) actuals)
  components_lawful type None actuals at there h = absurd (cc)
  components_lawful type (Some component) actuals at there h =
      each_map IsActual (Lawfully IsNumber) (λ actual. met (spec.component_demand table (Some component))
      (spec.without_width actual)) actuals
      (λ actual one. component_lawful type component actual at one) h

  bytes_lawful : (transfer : Transfer) (component : Option PasType) → IsTransfer transfer
      → ((file : Place) → transfer.file ≡ Some file → component_of table (type_of_place file) ≡ component)
      → Lawfully IsStatement (spec.write_bytes table transfer component)
  bytes_lawful transfer component is at clean =
      made_lawful IsNumber items_alone transfer
      (map (λ actual. met (spec.component_demand table component) (spec.without_width actual)) transfer.items)
      typed.writes_bytes (λ file found of_file are. (of_file, are)) is
      (λ file there of_file. components_lawful (type_of_place file) component transfer.items (at file there)
      (subst IsSome (at file there) of_file.1) is.items) clean

  written_lawful : (transfer : Transfer) (file : Place) (is_text : Bool) → transfer.file ≡ Some file
      → IsTransfer transfer
      → Lawfully IsStatement (if is_text then spec.write_text items_alone table transfer typed.writes
      else spec.write_bytes table transfer (component_of table (type_of_place file)))
  written_lawful transfer file true there is clean =
      text_lawful items_alone transfer typed.writes (λ at found of_file are. (of_file, are)) is clean
  written_lawful transfer file false there is clean =
      bytes_lawful transfer (component_of table (type_of_place file)) is
      (λ other at. ap (λ place. component_of table (type_of_place place)) (same_Some other file (sym at ∙ there)))
      clean

  write_items_lawful : (transfer : Transfer) (file : Option Place) → transfer.file ≡ file → IsTransfer transfer
      → Lawfully IsStatement (spec.write_items table transfer file)
  write_items_lawful transfer None at is clean =
      bytes_lawful transfer None is (λ file there. absurd (cc)) clean
  write_items_lawful transfer (Some file) at is clean =
      written_lawful transfer file (spec.is_text file) at is clean

  write_lawful : (extent : Extent) (standard : Option Slot) (actuals : List Actual) → IsStandard standard
      → Each IsActual actuals → Lawfully IsStatement (spec.write_with extent table standard actuals)
  write_lawful items_alone standard actuals on h clean =
      let transfer : Transfer = spec.transfer_of items_alone table standard actuals in
      write_items_lawful transfer transfer.file refl (transfer_lawful items_alone standard actuals on h) clean
  write_lawful whole_line standard actuals on h clean =
      text_lawful whole_line (spec.transfer_of whole_line table standard actuals) typed.writes_line
      (λ at found of_file are. (of_file, are)) (transfer_lawful whole_line standard actuals on h) clean

  -- calls
  on_input : IsStandard (spec.input scopes)
  on_input = value_law.standard_lawful scopes lawful (codes "input")

  on_output : IsStandard (spec.output scopes)
  on_output = value_law.standard_lawful scopes lawful (codes "output")

  procedure_of_lawful : (found : Procedure) (actuals : List Actual) → Each IsActual actuals
      → Lawfully IsStatement (spec.procedure_of scopes found actuals)
  procedure_of_lawful scope.read actuals h clean = read_lawful items_alone (spec.input scopes) actuals on_input h clean
  procedure_of_lawful scope.readln actuals h clean = read_lawful whole_line (spec.input scopes) actuals on_input h clean
  procedure_of_lawful scope.write actuals h clean =
      write_lawful items_alone (spec.output scopes) actuals on_output h clean
  procedure_of_lawful scope.writeln actuals h clean =
      write_lawful whole_line (spec.output scopes) actuals on_output h clean
  procedure_of_lawful scope.uexit actuals h clean =
      halt_lawful (map spec.without_width actuals) (givens_lawful actuals h) clean

  call_by_lawful : (actuals : List Actual) (entity : Option Entity) → Each IsActual actuals
      → Lawfully IsStatement (spec.call_by scopes actuals entity)
  call_by_lawful actuals None h clean = tt
  call_by_lawful actuals (Some (scope.constant base value)) h clean = tt
  call_by_lawful actuals (Some (scope.type found)) h clean = tt
  call_by_lawful actuals (Some (scope.variable found)) h clean = tt
  call_by_lawful actuals (Some (scope.routine number)) h clean =
      routine_lawful number (map spec.without_width actuals) (heading_of scopes number)
      (value_law.heading_there scopes lawful number) (lawful.headings number) (givens_lawful actuals h) clean
  call_by_lawful actuals (Some (scope.function found)) h clean = tt
  call_by_lawful actuals (Some (scope.file_test found)) h clean = tt
  call_by_lawful actuals (Some (scope.file_step step)) h clean =
      step_lawful step (map spec.without_width actuals) (givens_lawful actuals h) clean
  call_by_lawful actuals (Some (scope.procedure found)) h clean = procedure_of_lawful found actuals h clean
  call_by_lawful actuals (Some scope.unclear) h clean = tt

  line_lawful : (standard : Option Slot) (make : Place → Statement)
      → ((file : Place) → IsFilePlace file → IsStatement (make file)) → IsStandard standard
      → Lawfully IsStatement (spec.line_alone (spec.on_standard standard []) make)
  line_lawful standard make gives on clean =
      known_if IsFilePlace IsStatement make (spec.on_standard standard []).file gives (standard_file_lawful standard
      [] on)

  procedure_alone_lawful : (found : Procedure) → Lawfully IsStatement (spec.procedure_alone scopes found)
  procedure_alone_lawful scope.read clean = tt
  procedure_alone_lawful scope.readln clean =
      line_lawful (spec.input scopes) (λ file. typed.reads_line file [])
      (λ file at. (at, All-from_recursion IsTarget [] tt)) on_input clean
  procedure_alone_lawful scope.write clean = tt
  procedure_alone_lawful scope.writeln clean =
      line_lawful (spec.output scopes) (λ file. typed.writes_line file [])
      (λ file at. (at, All-from_recursion (IsLawfulItem program variables) [] tt)) on_output clean
  procedure_alone_lawful scope.uexit clean = tt

  routine_without_lawful : (number : ℕ) (heading : Heading) (result : Option PasType) (parameters : List Variable)
      → heading.parameters ≡ parameters → slice_get program.headings number ≡ Some heading
      → Lawfully IsStatement (spec.routine_without number result parameters)
  routine_without_lawful number heading (Some type) parameters are there clean = tt
  routine_without_lawful number heading None [] are there clean =
      (heading, there, subst (ArePassed program variables typed.nothing) (sym are) tt)
  routine_without_lawful number heading None (parameter ∷ parameters) are there clean = tt

  routine_alone_lawful : (number : ℕ) (heading : Option Heading) → slice_get program.headings number ≡ heading
      → Lawfully IsStatement (spec.routine_alone number heading)
  routine_alone_lawful number None there clean = tt
  routine_alone_lawful number (Some heading) there clean =
      routine_without_lawful number heading heading.result heading.parameters refl there clean

  call_alone_lawful : (entity : Option Entity) → Lawfully IsStatement (spec.call_alone scopes entity)
  call_alone_lawful None clean = tt
  call_alone_lawful (Some (scope.constant base value)) clean = tt
  call_alone_lawful (Some (scope.type found)) clean = tt
  call_alone_lawful (Some (scope.variable found)) clean = tt
  call_alone_lawful (Some (scope.routine number)) clean =
      routine_alone_lawful number (heading_of scopes number) (value_law.heading_there scopes lawful number) clean
  call_alone_lawful (Some (scope.function found)) clean = tt
  call_alone_lawful (Some (scope.file_test found)) clean = tt
  call_alone_lawful (Some (scope.file_step step)) clean = tt
  call_alone_lawful (Some (scope.procedure found)) clean = procedure_alone_lawful found clean
  call_alone_lawful (Some scope.unclear) clean = tt

  pub call_of_lawful : (n : ℕ) (entity : Option Entity) (arguments : Option tree.Arguments)
      → AreHeld (words_if (arguments_words n) arguments)
      → Lawfully IsStatement (spec.call_of scopes entity arguments)
  call_of_lawful n entity None held clean = call_alone_lawful entity clean
  call_of_lawful n entity (Some arguments) held clean =
      call_by_lawful (spec.actuals_of scopes arguments.items) entity (actuals_lawful n arguments held) clean
