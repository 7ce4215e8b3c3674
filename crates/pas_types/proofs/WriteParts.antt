-- Writing on a text: what a call with arguments shows, by what its arguments show.
use Rattle.std.proofs.Common.{◌≡◌, refl, sym, ap, subst, ◌∙◌, ℕ, ◌+◌, Bool, true, false, List, [], ◌∷◌, map}
use Rattle.std.proofs.Common.{Option, Some, None, Err, Ok}
use Rattle.std.specs.Prelude.{option_and_then, if◌then◌else◌, codes}
use Rattle.wb_base.specs.declared.faults.TheConstants.{WRONG_TYPE, FILE_RULE}
use Rattle.pas_tokens.specs.Cutting.{wrong}
use Rattle.pas_tokens.specs.Tokens.{fault_in}
use Rattle.pas_syntax.specs.declared.tree.Argument.{Argument as CodeArgument}
use Rattle.pas_syntax.specs.declared.tree.Arguments.{Arguments as CodeArguments}
use Rattle.pas_syntax.specs.ProgramViews.{arguments_in}
use Rattle.pas_syntax.specs.Words.{Word}
use Rattle.pas_typed.specs.declared.typed.Item.{Item as CodeItem}
use Rattle.pas_typed.specs.TypedViews.{item_view, value_view}
use Rattle.pas_typed.specs.Types.{Table, PasType, text, same_type, component_of}
use Rattle.pas_typed.specs.Typed as typed
use Rattle.pas_typed.specs.Typed.{Slot, Value, Place, Item as SpecItem, Statement}
use Rattle.pas_typed.specs.TypeOf.{type_of_place}
use Rattle.pas_scopes.specs.declared.stop.Stop.{Stop}
use Rattle.pas_types.specs.declared.transfers.Extent.{Extent as CodeExtent}
use Rattle.pas_types.specs.declared.transfers.Extent.TheVariants as code
use Rattle.pas_rules.specs.Marks.{Marks, Judged, known}
use Rattle.pas_rules.specs.Scopes.{Scopes, procedure, write, writeln}
use Rattle.pas_rules.specs.Expressions.{met}
use Rattle.pas_rules.specs.Calls.{Actual, without_width, Extent, items_alone, whole_line, demand_on_file, output}
use Rattle.pas_rules.specs.Calls.{write_items, write_bytes, write_text, write_with, whole_file, procedure_of}
use Rattle.pas_rules.specs.Calls.{Transfer, on_named, on_standard, transfer_by, transfer_of, missing_items}
use Rattle.pas_scopes.specs.Stopping.{shown_in}
use Rattle.pas_scopes.specs.Answers.{FailsBy, ShowsBy, IsQuiet, Means}
use Rattle.pas_scopes.specs.inner.Listed.{Item, item_at, items_behind, Gathered, FailsWithin}
use Rattle.pas_types.specs.inner.Transfers.{writing, extent_view, refused_by, item_written, writes_by, IsOnText}
use Rattle.pas_rules.proofs.AsMany.{AsMany}
use Rattle.pas_rules.proofs.CallsAsMany.{call_many}
use Rattle.pas_types.proofs.GatherLemmas.{line_at}
use Rattle.pas_types.proofs.TransferItems.{bytes_item, bytes_many, written_many}
use Rattle.pas_types.proofs.TransferParts.{carried, bytes_seen, call_words, closing, first_actual, others, first_words}
use Rattle.pas_types.proofs.TransferParts.{named_fails, named_short, named_within, named_few, named_means, first_named}
use Rattle.pas_types.proofs.TransferParts.{standard_fails, standard_short, standard_within, standard_means}
use Rattle.pas_types.proofs.TransferParts.{item_standard, named, standard_text}

abbrev pub written_on : Extent → Table → Transfer → Judged Statement
written_on items_alone table transfer = write_items table transfer transfer.file
written_on whole_line table transfer = write_text whole_line table transfer typed.writes_line

with_seen : (extent : Extent) (table : Table) (standard : Option Slot) (actuals : List Actual)
    → write_with extent table standard actuals ≡ written_on extent table (transfer_of extent table standard actuals)
with_seen items_alone table standard actuals = refl
with_seen whole_line table standard actuals = refl

abbrev pub text_item : Table → Option Place → Actual → Judged SpecItem
text_item table file = item_written table

-- on a text, and where no file is known
text_seen : (extent : Extent) (table : Table) (transfer : Transfer) (file : Place) → transfer.file ≡ Some file
    → IsOnText extent file
    → written_on extent table transfer ≡ carried extent (text_item table) (writes_by extent) transfer
text_seen items_alone table transfer file is on =
    ap (write_items table transfer) is
    ∙ ap (λ (on_text : Bool). if on_text then write_text items_alone table transfer typed.writes
    else write_bytes table transfer (component_of table (type_of_place file))) on
text_seen whole_line table transfer file is on = refl

none_seen : (scopes : Scopes) (spellings : List ℕ) (n : ℕ) (transfer : Transfer) → transfer.file ≡ None
    → written_on items_alone scopes.outer.types transfer
    ≡ carried items_alone (bytes_item scopes spellings n) typed.writes_bytes transfer
none_seen scopes spellings n transfer is =
    ap (write_items scopes.outer.types transfer) is
    ∙ bytes_seen scopes spellings n transfer None is (λ file none. absurd cc)

pub writing_seen : (scopes : Scopes) (extent : CodeExtent) (actuals : List Actual)
    → procedure_of scopes (writing extent) actuals
    ≡ write_with (extent_view extent) scopes.outer.types (output scopes) actuals
writing_seen scopes code.ItemsAlone actuals = refl
writing_seen scopes code.WholeLine actuals = refl

pub output_text : (scopes : Scopes) (slot : Slot) → output scopes ≡ Some slot → (extent : Extent)
    → IsOnText extent (typed.slot slot)
output_text scopes slot is items_alone =
    ap (λ (found : PasType). same_type found text) (standard_text scopes (codes "output") slot is)
output_text scopes slot is whole_line = tt

module _ (scopes : Scopes) (spellings : List ℕ) (n : ℕ) (word : Word) (arguments : CodeArguments) where
  abbrev table : Table
  table = scopes.outer.types

  abbrev words : List Word
  words = call_words scopes spellings n word arguments

  abbrev first : Actual
  first = first_actual scopes spellings n word arguments

  abbrev actuals : List Actual
  actuals = first ∷ others scopes spellings n word arguments

  abbrev words_of_first : List Word
  words_of_first = first_words scopes spellings n word arguments

  abbrev pub view : CodeItem → SpecItem
  view = item_view spellings

  abbrev pub texts_many : (file : Option Place) (before : Word) (argument : CodeArgument)
      → AsMany (item_at scopes spellings (n + 1) (text_item scopes.outer.types file) before argument).words
      (item_at scopes spellings (n + 1) (text_item scopes.outer.types file) before argument).part.marks
  texts_many file = written_many scopes spellings (n + 1)

  -- what `write` or `writeln` means
  abbrev pub written : Extent → Judged Statement
  written extent = write_with extent table (output scopes) actuals

  -- on the file that the first argument names
  module _ (extent : Extent) (file : Place) where
    abbrev transfer : Transfer
    transfer = on_named (demand_on_file extent) file actuals

    abbrev pub file_part : Judged Value
    file_part = met (demand_on_file extent) (without_width first)

    abbrev text_named : Judged Statement
    text_named =
        named scopes spellings n word arguments extent (text_item table) texts_many (writes_by extent) view file

    abbrev bytes_named : Judged Statement
    bytes_named =
        named scopes spellings n word arguments extent (bytes_item scopes spellings (n + 1))
        (bytes_many scopes spellings (n + 1)) typed.writes_bytes value_view file

  on_named_by : (extent : Extent) (file : Place) → IsOnText extent file → (found : Option Value)
      → (file_part extent file).value ≡ found → (P : Marks → Type 0) → P (text_named extent file).marks
      → P (bytes_named extent file).marks → P (written_on extent table (transfer extent file)).marks
  on_named_by items_alone file on None is P h k =
      subst (λ (part : Judged Statement). P part.marks) (sym (none_seen scopes spellings (n + 1)
      (transfer items_alone file) (ap (known (λ value. file)) is))) k
  on_named_by items_alone file on (Some value) is P h k =
      subst (λ (part : Judged Statement). P part.marks) (sym (text_seen items_alone table
      (transfer items_alone file) file (ap (known (λ value. file)) is) on)) h
  on_named_by whole_line file on found is P h k = h

  module _ (extent : Extent) (file : Place) (on : IsOnText extent file)
      (is : option_and_then (whole_file table) first.value.value ≡ Some file) where
    written_named : written extent ≡ written_on extent table (transfer extent file)
    written_named =
        with_seen extent table (output scopes) actuals
        ∙ ap (λ (found : Option Place). written_on extent table (transfer_by extent (output scopes) actuals found)) is

    by_marks : (P : Marks → Type 0) → P (text_named extent file).marks → P (bytes_named extent file).marks
        → P (written extent).marks
    by_marks P h k =
        subst (λ (part : Judged Statement). P part.marks) (sym written_named)
        (on_named_by extent file on (file_part extent file).value refl P h k)

    pub text_fails : (why : Stop) → FailsBy words_of_first (file_part extent file).marks why
        → ShowsBy words (written extent).marks why
    text_fails why h =
        by_marks (λ marks. ShowsBy words marks why)
        (named_fails scopes spellings n word arguments extent (text_item table) texts_many (writes_by extent) view file
        why h)
        (named_fails scopes spellings n word arguments extent (bytes_item scopes spellings (n + 1))
        (bytes_many scopes spellings (n + 1)) typed.writes_bytes value_view file why h)

    pub text_short : IsQuiet words_of_first (file_part extent file).marks true
        → ShowsBy words (written extent).marks
        (shown_in (line_at arguments.closed arguments.items.more) (wrong WRONG_TYPE))
    text_short h =
        by_marks (λ marks. ShowsBy words marks (shown_in (line_at arguments.closed arguments.items.more)
        (wrong WRONG_TYPE)))
        (named_short scopes spellings n word arguments extent (text_item table) texts_many (writes_by extent) view file
        h)
        (named_short scopes spellings n word arguments extent (bytes_item scopes spellings (n + 1))
        (bytes_many scopes spellings (n + 1)) typed.writes_bytes value_view file h)

    module _ (value : Value) (found_is : (file_part extent file).value ≡ Some value)
        (still : IsQuiet words_of_first (file_part extent file).marks false) where
      abbrev pub first_text : Item SpecItem
      first_text =
          first_named scopes spellings n word arguments extent (text_item table) texts_many (writes_by extent) view
          file value found_is still

      abbrev pub more_texts : List (Item SpecItem)
      more_texts = items_behind scopes spellings (n + 1) (item_written table) arguments.items.more

      by_text : (P : Judged Statement → Type 0) → P (text_named extent file) → P (written extent)
      by_text P h =
          subst P (sym (written_named ∙ text_seen extent table (transfer extent file) file
          (ap (known (λ value. file)) found_is) on)) h

      pub text_within : (why : Stop)
          → FailsWithin word first_text more_texts (closing scopes spellings n word arguments) why
          → ShowsBy words (written extent).marks why
      text_within why h =
          by_text (λ part. ShowsBy words part.marks why)
          (named_within scopes spellings n word arguments extent (text_item table) texts_many (writes_by extent) view
          file value found_is still why h)

      module _ (items : List CodeItem) (h : Gathered view [] word first_text more_texts items) where
        pub text_few : (why : Stop) → Err why ≡ refused_by arguments.closed
            (missing_items extent (others scopes spellings n word arguments)) → ShowsBy words (written extent).marks why
        text_few why few =
            by_text (λ part. ShowsBy words part.marks why)
            (named_few scopes spellings n word arguments extent (text_item table) texts_many (writes_by extent) view
            file value found_is still items h why few)

        pub text_means : Ok tt ≡ refused_by arguments.closed
            (missing_items extent (others scopes spellings n word arguments))
            → Means words (written extent) (writes_by extent file (map view items))
        text_means enough =
            by_text (λ part. Means words part (writes_by extent file (map view items)))
            (named_means scopes spellings n word arguments extent (text_item table) texts_many (writes_by extent) view
            file value found_is still items h enough)

  -- on the file that is meant where none is named
  module _ (extent : Extent)
      (is : option_and_then (whole_file table) first.value.value ≡ None) where
    written_standard : (slot : Option Slot) → output scopes ≡ slot
        → written extent ≡ written_on extent table (on_standard slot actuals)
    written_standard slot same =
        with_seen extent table (output scopes) actuals
        ∙ ap (λ (found : Option Place). written_on extent table (transfer_by extent (output scopes) actuals found)) is
        ∙ ap (λ (found : Option Slot). written_on extent table (on_standard found actuals)) same

    module _ (slot : Slot) (same : output scopes ≡ Some slot) (on : IsOnText extent (typed.slot slot)) where
      abbrev text_standard : Judged Statement
      text_standard = carried extent (text_item table) (writes_by extent) (on_standard (Some slot) actuals)

      abbrev pub item_first : Judged SpecItem
      item_first = item_written table first

      abbrev pub first_standard : Item SpecItem
      first_standard =
          item_standard scopes spellings n word arguments extent (text_item table) texts_many (writes_by extent) view
          slot

      abbrev pub more_standard : List (Item SpecItem)
      more_standard = items_behind scopes spellings (n + 1) (item_written table) arguments.items.more

      by_standard : (P : Judged Statement → Type 0) → P text_standard → P (written extent)
      by_standard P h =
          subst P (sym (written_standard (Some slot) same ∙ text_seen extent table
          (on_standard (Some slot) actuals) (typed.slot slot) refl on)) h

      pub output_fails : (why : Stop) → FailsBy words_of_first item_first.marks why
          → ShowsBy words (written extent).marks why
      output_fails why h =
          by_standard (λ part. ShowsBy words part.marks why)
          (standard_fails scopes spellings n word arguments extent (text_item table) texts_many (writes_by extent) view
          slot why h)

      pub output_short : IsQuiet words_of_first item_first.marks true
          → ShowsBy words (written extent).marks
          (shown_in (line_at arguments.closed arguments.items.more) (wrong WRONG_TYPE))
      output_short h =
          by_standard (λ part. ShowsBy words part.marks (shown_in (line_at arguments.closed arguments.items.more)
          (wrong WRONG_TYPE)))
          (standard_short scopes spellings n word arguments extent (text_item table) texts_many (writes_by extent) view
          slot h)

      module _ (x : CodeItem) (x_is : item_first.value ≡ Some (view x))
          (still : IsQuiet words_of_first item_first.marks false) where
        pub output_within : (why : Stop)
            → FailsWithin word first_standard more_standard (closing scopes spellings n word arguments) why
            → ShowsBy words (written extent).marks why
        output_within why h =
            by_standard (λ part. ShowsBy words part.marks why)
            (standard_within scopes spellings n word arguments extent (text_item table) texts_many (writes_by extent)
            view slot x x_is still why h)

        pub output_means : (items : List CodeItem)
            → Gathered view (view x ∷ []) word first_standard more_standard items
            → Means words (written extent) (writes_by extent (typed.slot slot) (map view items))
        output_means items h =
            by_standard (λ part. Means words part (writes_by extent (typed.slot slot) (map view items)))
            (standard_means scopes spellings n word arguments extent (text_item table) texts_many (writes_by extent)
            view slot x x_is still items h)

  -- where no file is meant
  writing_many : (extent : Extent) → AsMany words (written extent).marks
  writing_many items_alone =
      let many = call_many scopes n (record { name = []; line = 0 }) (Some (procedure write))
      (Some (arguments_in spellings arguments)) in
      record { same = many.same }
  writing_many whole_line =
      let many = call_many scopes n (record { name = []; line = 0 }) (Some (procedure writeln))
      (Some (arguments_in spellings arguments)) in
      record { same = many.same }

  none_shows : (extent : Extent) (line : ℕ) → word.token.line ≡ line
      → AsMany words (written_on extent table (on_standard None actuals)).marks
      → ShowsBy words (written_on extent table (on_standard None actuals)).marks (shown_in line (wrong FILE_RULE))
  none_shows items_alone line at_line many = record {
    many = many.same;
    first = ap (λ (found : ℕ). Some (fault_in found (wrong FILE_RULE))) at_line;
  }
  none_shows whole_line line at_line many = record {
    many = many.same;
    first = ap (λ (found : ℕ). Some (fault_in found (wrong FILE_RULE))) at_line;
  }

  pub no_output : (extent : Extent) (line : ℕ) → word.token.line ≡ line
      → option_and_then (whole_file table) first.value.value ≡ None → output scopes ≡ None
      → ShowsBy words (written extent).marks (shown_in line (wrong FILE_RULE))
  no_output extent line at_line is same =
      subst (λ (part : Judged Statement). ShowsBy words part.marks (shown_in line (wrong FILE_RULE)))
      (sym (written_standard extent is None same))
      (none_shows extent line at_line
      (subst (λ (part : Judged Statement). AsMany words part.marks) (written_standard extent is None same)
      (writing_many extent)))
