-- Reading and writing: what a call with arguments shows, by what its arguments show.
use Rattle.std.proofs.Common.{◌≡◌, refl, sym, ap, subst, ◌∙◌, ℕ, ◌+◌, Bool, true, false, List, [], ◌∷◌, ◌++◌, map}
use Rattle.std.proofs.Common.{Option, Some, None, Result, Ok, Err}
use Rattle.std.specs.Prelude.{flat_map, slice_get, option_and_then, if◌then◌else◌, ◌&&◌}
use Rattle.std.proofs.lemmas.Option.{none-some}
use Rattle.wb_base.specs.declared.faults.TheConstants.{WRONG_TYPE, FILE_RULE}
use Rattle.pas_tokens.specs.Cutting.{Wrong, wrong}
use Rattle.pas_tokens.specs.Tokens.{fault_in}
use Rattle.pas_tokens.specs.declared.kinds.Kind.TheVariants as k
use Rattle.pas_syntax.specs.declared.tree.Argument.{Argument as CodeArgument}
use Rattle.pas_syntax.specs.declared.tree.Arguments.{Arguments as CodeArguments}
use Rattle.pas_syntax.specs.declared.tree.Behind.{Behind as CodeBehind}
use Rattle.pas_syntax.specs.Views.{behind_in}
use Rattle.pas_syntax.specs.ProgramViews.{argument_in, arguments_in}
use Rattle.pas_syntax.specs.Words.{Word, at, argument_words, arguments_words}
use Rattle.pas_typed.specs.declared.typed.Place as code_place
use Rattle.pas_typed.specs.TypedViews.{place_view}
use Rattle.pas_typed.specs.Types.{PasType, whole, text, row, same_type}
use Rattle.pas_typed.specs.Typed as typed
use Rattle.pas_typed.specs.Typed.{Slot, Value, Place, Statement}
use Rattle.pas_scopes.specs.declared.stop.Stop.{Stop}
use Rattle.pas_types.specs.declared.transfers.Extent.{Extent as CodeExtent}
use Rattle.pas_types.specs.declared.transfers.Extent.TheVariants as code
use Rattle.pas_rules.specs.Marks.{Marks, quiet, shows, joined, listed, lowest, Judged, judged, known, both}
use Rattle.pas_rules.specs.Marks.{all_known, checked, checked_by, kept_by}
use Rattle.pas_rules.specs.Scopes.{Scopes, Entity, constant, type, variable, routine, function, file_test, file_step}
use Rattle.pas_rules.specs.Scopes.{procedure, unclear, entity_of, global_text, standard_file, is_global, read, readln}
use Rattle.pas_rules.specs.Expressions.{Demand, Given, Bare, met}
use Rattle.pas_rules.specs.Calls.{Actual, actual_of, without_width, Extent, items_alone, whole_line, demand_on_file}
use Rattle.pas_rules.specs.Calls.{is_text, write_items, write_bytes, write_text}
use Rattle.pas_typed.specs.TypeOf.{type_of_place}
use Rattle.pas_typed.specs.Types.{component_of}
use Rattle.pas_types.proofs.TransferItems.{bytes_item}
use Rattle.pas_rules.specs.Calls.{procedure_of, read_with, read_item, reads_by, transfer_by, whole_file, input}
use Rattle.pas_rules.specs.Calls.{Transfer, on_named, on_standard, missing_items, transferred, values_if}
use Rattle.pas_scopes.specs.Stopping.{shown_in}
use Rattle.pas_scopes.specs.Answers.{FailsBy, ShowsBy, IsQuiet, Means, Settles}
use Rattle.pas_scopes.specs.inner.Listed.{Item, item_words, items_marks, values_of, closed_marks, item_at}
use Rattle.pas_scopes.specs.inner.Listed.{items_behind, line_behind, Gathered, FailsWithin}
use Rattle.pas_types.specs.inner.Transfers.{reading, extent_view, behind_actuals, refused_by, Makes, MeansFile}
use Rattle.pas_rules.proofs.AsMany.{AsMany}
use Rattle.pas_rules.proofs.CallsAsMany.{call_many}
use Rattle.pas_scopes.proofs.SettleLemmas.{fails_shows, quiet_behind, quiet_word, quiet_alone}
use Rattle.pas_scopes.proofs.ListedLemmas.{call_marks, few_shows, item_quiet, some_both}
use Rattle.pas_types.proofs.GatherLemmas.{next_fails, next_short, line_at, line_dropped}

-- items that are missing
pub missing_low : (extent : Extent) (items : List Actual)
    → lowest (wrong WRONG_TYPE) (missing_items extent items) ≡ wrong WRONG_TYPE
missing_low items_alone [] = refl
missing_low items_alone (item ∷ items) = refl
missing_low whole_line items = refl

none_missing : (extent : Extent) (item : Actual) (items : List Actual) → missing_items extent (item ∷ items) ≡ []
none_missing items_alone item items = refl
none_missing whole_line item items = refl

pub few_is : (extent : Extent) (items : List Actual) (line : ℕ) (why : Stop)
    → Err why ≡ refused_by line (missing_items extent items)
    → (why ≡ shown_in line (wrong WRONG_TYPE)) × (missing_items extent items ≡ wrong WRONG_TYPE ∷ [])
few_is items_alone [] line why is = (cc, refl)
few_is items_alone (item ∷ items) line why is = cc
few_is whole_line items line why is = cc

pub enough_is : (extent : Extent) (items : List Actual) (line : ℕ)
    → Ok tt ≡ refused_by line (missing_items extent items) → missing_items extent items ≡ []
enough_is items_alone [] line is = cc
enough_is items_alone (item ∷ items) line is = refl
enough_is whole_line items line is = refl

-- the file that is meant where none is named is a text
same_text : (found : PasType) → same_type found text ≡ true → found ≡ text
same_text (whole base) h = cc
same_text text h = refl
same_text (row number) h = cc

text_if : (is_global is_text : Bool) (found slot : Slot) → same_type found.type text ≡ is_text
    → (if is_global && is_text then Some found else None) ≡ Some slot → slot.type ≡ text
text_if true true found slot is h =
    let same : found ≡ slot = cc in
    ap (λ (s : Slot). s.type) (sym same) ∙ same_text found.type is
text_if true false found slot is h = cc
text_if false is_text found slot is h = cc

global_is : (entity : Option Entity) (slot : Slot) → option_and_then global_text entity ≡ Some slot → slot.type ≡ text
global_is None slot h = cc
global_is (Some (constant base value)) slot h = cc
global_is (Some (type found)) slot h = cc
global_is (Some (variable found)) slot h = text_if (is_global found.home) (same_type found.type text) found slot refl h
global_is (Some (routine number)) slot h = cc
global_is (Some (function found)) slot h = cc
global_is (Some (file_test found)) slot h = cc
global_is (Some (file_step found)) slot h = cc
global_is (Some (procedure found)) slot h = cc
global_is (Some unclear) slot h = cc

pub standard_text : (scopes : Scopes) (name : List ℕ) (slot : Slot) → standard_file scopes name ≡ Some slot
    → slot.type ≡ text
standard_text scopes name slot h = global_is (entity_of scopes name) slot h

-- what is made where there is memory
pub made_settles : {X : Type 0} (words : List Word) (part : Judged Statement) (view : X → Statement) (made : Statement)
    (result : Result X Stop) → Makes view made result → Means words part made → Settles words part view result
made_settles words part view made (Ok found) is h = subst (Means words part) (sym is) h
made_settles words part view made (Err why) is h = subst (ShowsBy words part.marks) (sym is) tt

-- something is missing at the word behind the first argument
pub short_shows : (words : List Word) (marks : Marks) (line closed : ℕ) (more : List (CodeBehind CodeArgument))
    (why : Stop) → why ≡ shown_in line (wrong WRONG_TYPE) → line ≡ line_behind closed (slice_get more 0)
    → ShowsBy words marks (shown_in (line_at closed more) (wrong WRONG_TYPE)) → ShowsBy words marks why
short_shows words marks line closed more why is same h =
    subst (ShowsBy words marks)
    (sym (is ∙ ap (λ (found : ℕ). shown_in found (wrong WRONG_TYPE)) (same ∙ line_dropped closed more 0))) h

-- the file that is meant, or none
pub no_file : (found : Option Slot) (line : ℕ) (why : Stop) → MeansFile found line (Err why)
    → (found ≡ None) × (why ≡ shown_in line (wrong FILE_RULE))
no_file None line why h = (refl, h)
no_file (Some slot) line why h = absurd h

pub some_file : (found : Option Slot) (line : ℕ) (file : code_place.Place) → MeansFile found line (Ok file)
    → (slot : Slot) × (found ≡ Some slot) × (place_view file ≡ typed.slot slot)
some_file None line file h = absurd h
some_file (Some slot) line file h = (slot, refl, h)

-- a value that meets a demand is that of the argument
kept_known : (marks : Marks) (value other : Value) (faults : List Wrong)
    → (kept_by marks value faults).value ≡ Some other → value ≡ other
kept_known marks value other [] h = cc
kept_known marks value other (found ∷ more) h = absurd (none-some other h)

checked_known : (demand : Demand) (marks : Marks) (value : Option Value) (other : Value)
    → (checked_by demand marks value).value ≡ Some other → value ≡ Some other
checked_known demand marks None other h = h
checked_known demand marks (Some value) other h = ap Some (kept_known marks value other (demand value) h)

pub met_known : (demand : Demand) (argument : Given) (value : Value) → (met demand argument).value ≡ Some value
    → argument.value.value ≡ Some value
met_known demand argument value h =
    let parts = some_both (λ (value : Value) (nothing : Bare). value) (checked demand argument.value).value
    argument.behind.value value h in
    checked_known demand argument.value.marks argument.value.value value (parts.2 ∙ ap Some parts.4)

pub same_place : (part : Option Value) (place other : Place) → part ≡ Some (typed.read place)
    → part ≡ Some (typed.read other) → place ≡ other
same_place part place other is are = cc

-- a transfer of items
abbrev pub carried : {B : Type 0} → Extent → (Option Place → Actual → Judged B) → (Place → List B → Statement)
    → Transfer → Judged Statement
carried extent look make transfer =
    let items = map (look transfer.file) transfer.items in
    judged (transferred extent transfer items)
    (both make transfer.file (values_if (missing_items extent transfer.items) items))

module _ (scopes : Scopes) (spellings : List ℕ) (n : ℕ) (word : Word) (arguments : CodeArguments) where
  abbrev pub call_words : List Word
  call_words = word ∷ arguments_words n (arguments_in spellings arguments)

  abbrev pub closing : Word
  closing = at (n + 1) k.RightParenthesis arguments.closed

  abbrev pub first_actual : Actual
  first_actual = actual_of scopes (argument_in spellings arguments.items.first)

  abbrev pub others : List Actual
  others = behind_actuals scopes spellings arguments.items.more

  abbrev pub first_words : List Word
  first_words = argument_words (n + 1) (argument_in spellings arguments.items.first)

  module _ {B : Type 0} (part : Judged B) (look : Actual → Judged B)
      (many : (before : Word) (argument : CodeArgument)
      → AsMany (item_at scopes spellings (n + 1) look before argument).words
      (item_at scopes spellings (n + 1) look before argument).part.marks) (faults : List Wrong) where
    abbrev pub first_item : Item B
    first_item = record {
      before = at (n + 1) k.LeftParenthesis arguments.opened;
      words = first_words;
      part = part;
    }

    abbrev pub items : List (Item B)
    items = items_behind scopes spellings (n + 1) look arguments.items.more

    abbrev pub whole_marks : Marks
    whole_marks =
        joined (quiet ∷ quiet ∷ listed (part.marks ∷ map (λ item. item.marks) (map look others)) ∷ shows faults ∷ [])

    words_by : (more : List (CodeBehind CodeArgument))
        → flat_map (λ behind. at (n + 1) k.Comma behind.line ∷ argument_words (n + 1) behind.item)
        (map (behind_in (argument_in spellings)) more)
        ≡ item_words (items_behind scopes spellings (n + 1) look more)
    words_by [] = refl
    words_by (behind ∷ more) =
        ap (λ (words : List Word). at (n + 1) k.Comma behind.line
        ∷ (argument_words (n + 1) (argument_in spellings behind.item) ++ words)) (words_by more)

    words_seen : call_words ≡ (word ∷ item_words (first_item ∷ items)) ++ closing ∷ []
    words_seen =
        ap (λ (words : List Word). word ∷ (at (n + 1) k.LeftParenthesis arguments.opened
        ∷ ((first_words ++ words) ++ closing ∷ []))) (words_by arguments.items.more)

    marks_by : (more : List (CodeBehind CodeArgument))
        → map (λ item. item.marks) (map look (behind_actuals scopes spellings more))
        ≡ map (λ item. item.part.marks) (items_behind scopes spellings (n + 1) look more)
    marks_by [] = refl
    marks_by (behind ∷ more) =
        ap (λ (marks : List Marks). (look (actual_of scopes (argument_in spellings behind.item))).marks ∷ marks)
        (marks_by more)

    values_by : (more : List (CodeBehind CodeArgument))
        → all_known (map (λ item. item.value) (map look (behind_actuals scopes spellings more)))
        ≡ values_of (items_behind scopes spellings (n + 1) look more)
    values_by [] = refl
    values_by (behind ∷ more) =
        ap (both ◌∷◌ (look (actual_of scopes (argument_in spellings behind.item))).value) (values_by more)

    pub values_seen : all_known (map (λ item. item.value) (map look others)) ≡ values_of items
    values_seen = values_by arguments.items.more

    marks_seen : whole_marks ≡ closed_marks (items_marks (first_item ∷ items)) faults
    marks_seen =
        ap (λ (marks : List Marks). joined (quiet ∷ quiet ∷ listed (part.marks ∷ marks) ∷ shows faults ∷ []))
        (marks_by arguments.items.more)
        ∙ call_marks first_item items faults

    shows_whole : (why : Stop)
        → FailsBy ((word ∷ item_words (first_item ∷ items)) ++ closing ∷ [])
        (closed_marks (items_marks (first_item ∷ items)) faults) why
        → ShowsBy call_words whole_marks why
    shows_whole why h =
        subst (λ (words : List Word). ShowsBy words whole_marks why) (sym words_seen)
        (subst (λ (marks : Marks). ShowsBy ((word ∷ item_words (first_item ∷ items)) ++ closing ∷ []) marks why)
        (sym marks_seen)
        (fails_shows ((word ∷ item_words (first_item ∷ items)) ++ closing ∷ [])
        (closed_marks (items_marks (first_item ∷ items)) faults) why h))

    start : IsQuiet (word ∷ []) (items_marks {B = B} []) false
    start = quiet_alone (word ∷ []) quiet false (quiet_word word)

    pub first_quiet : IsQuiet first_words part.marks false
        → IsQuiet (word ∷ item_words (first_item ∷ [])) (items_marks (first_item ∷ [])) false
    first_quiet h = item_quiet word [] first_item false start h

    pub first_fails : (why : Stop) → FailsBy first_words part.marks why → ShowsBy call_words whole_marks why
    first_fails why h =
        shows_whole why
        (next_fails scopes spellings (n + 1) look many word arguments.closed [] first_item arguments.items.more start
        faults why h)

    pub first_short : lowest (wrong WRONG_TYPE) faults ≡ wrong WRONG_TYPE → IsQuiet first_words part.marks true
        → ShowsBy call_words whole_marks
        (shown_in (line_at arguments.closed arguments.items.more) (wrong WRONG_TYPE))
    first_short low h =
        shows_whole (shown_in (line_at arguments.closed arguments.items.more) (wrong WRONG_TYPE))
        (next_short scopes spellings (n + 1) look many word arguments.closed [] first_item arguments.items.more start
        faults low h)

    pub within_fails : (why : Stop) → lowest (wrong WRONG_TYPE) faults ≡ wrong WRONG_TYPE
        → FailsWithin word first_item items closing why → ShowsBy call_words whole_marks why
    within_fails why low h = shows_whole why (h faults low)

    pub few_fails : faults ≡ wrong WRONG_TYPE ∷ []
        → IsQuiet (word ∷ item_words (first_item ∷ items)) (items_marks (first_item ∷ items)) false
        → ShowsBy call_words whole_marks (shown_in arguments.closed (wrong WRONG_TYPE))
    few_fails few h =
        shows_whole (shown_in arguments.closed (wrong WRONG_TYPE))
        (few_shows (word ∷ item_words (first_item ∷ items)) (items_marks (first_item ∷ items)) closing faults
        part.value false few h)

    pub whole_quiet : faults ≡ []
        → IsQuiet (word ∷ item_words (first_item ∷ items)) (items_marks (first_item ∷ items)) false
        → IsQuiet call_words whole_marks false
    whole_quiet none h =
        subst (λ (words : List Word). IsQuiet words whole_marks false) (sym words_seen)
        (subst (λ (marks : Marks). IsQuiet ((word ∷ item_words (first_item ∷ items)) ++ closing ∷ []) marks false)
        (sym (marks_seen ∙ ap (closed_marks (items_marks (first_item ∷ items))) none))
        (quiet_behind (word ∷ item_words (first_item ∷ items)) (closing ∷ []) (items_marks (first_item ∷ items)) quiet
        false h (quiet_word closing)))

  -- on the file that the first argument names
  module _ {X B : Type 0} (extent : Extent) (look : Option Place → Actual → Judged B)
      (many : (file : Option Place) (before : Word) (argument : CodeArgument)
      → AsMany (item_at scopes spellings (n + 1) (look file) before argument).words
      (item_at scopes spellings (n + 1) (look file) before argument).part.marks)
      (make : Place → List B → Statement) (view : X → B) where
    module _ (file : Place) where
      abbrev pub named_part : Judged Value
      named_part = met (demand_on_file extent) (without_width first_actual)

      abbrev pub named_file : Option Place
      named_file = known (λ value. file) named_part.value

      abbrev pub named_first : Judged B
      named_first = judged named_part.marks None

      abbrev pub named : Judged Statement
      named = carried extent look make (on_named (demand_on_file extent) file (first_actual ∷ others))

      abbrev pub faults : List Wrong
      faults = missing_items extent others

      pub named_fails : (why : Stop) → FailsBy first_words named_part.marks why
          → ShowsBy call_words named.marks why
      named_fails why h = first_fails named_first (look named_file) (many named_file) faults why h

      pub named_short : IsQuiet first_words named_part.marks true
          → ShowsBy call_words named.marks
          (shown_in (line_at arguments.closed arguments.items.more) (wrong WRONG_TYPE))
      named_short h =
          first_short named_first (look named_file) (many named_file) faults (missing_low extent others) h

      module _ (value : Value) (is : named_part.value ≡ Some value)
          (still : IsQuiet first_words named_part.marks false) where
        abbrev pub items_named : List (Item B)
        items_named = items_behind scopes spellings (n + 1) (look (Some file)) arguments.items.more

        abbrev pub first_named : Item B
        first_named = first_item named_first (look (Some file)) (many (Some file)) faults

        file_known : named_file ≡ Some file
        file_known = ap (known (λ value. file)) is

        pub named_start : IsQuiet (word ∷ item_words (first_named ∷ [])) (items_marks (first_named ∷ [])) false
        named_start = first_quiet named_first (look (Some file)) (many (Some file)) faults still

        by_file : (P : Judged Statement → Type 0)
            → P (judged (whole_marks named_first (look (Some file)) (many (Some file)) faults)
            (both make (Some file) (values_if faults (map (look (Some file)) others)))) → P named
        by_file P h =
            subst (λ (found : Option Place). P (judged (whole_marks named_first (look found) (many found) faults)
            (both make found (values_if faults (map (look found) others))))) (sym file_known) h

        pub named_within : (why : Stop) → FailsWithin word first_named items_named closing why
            → ShowsBy call_words named.marks why
        named_within why h =
            by_file (λ found. ShowsBy call_words found.marks why)
            (within_fails named_first (look (Some file)) (many (Some file)) faults why (missing_low extent others) h)

        module _ (found : List X) (h : Gathered view [] word first_named items_named found) where
          pub named_few : (why : Stop) → Err why ≡ refused_by arguments.closed faults
              → ShowsBy call_words named.marks why
          named_few why refused =
              let few = few_is extent others arguments.closed why refused in
              subst (ShowsBy call_words named.marks) (sym few.0)
              (by_file (λ found. ShowsBy call_words found.marks (shown_in arguments.closed (wrong WRONG_TYPE)))
              (few_fails named_first (look (Some file)) (many (Some file)) faults few.1 h.still))

          pub named_means : Ok tt ≡ refused_by arguments.closed faults
              → Means call_words named (make file (map view found))
          named_means enough =
              let none = enough_is extent others arguments.closed enough in
              by_file (λ part. Means call_words part (make file (map view found)))
              record {
                known = ap (λ (shown : List Wrong). both make (Some file) (values_if shown
                    (map (look (Some file)) others))) none
                    ∙ ap (both make (Some file)) (values_seen named_first (look (Some file)) (many (Some file)) faults
                    ∙ h.known)
                    ∙ ap (λ (values : List B). Some (make file values)) (sym h.same);
                quiet = whole_quiet named_first (look (Some file)) (many (Some file)) faults none h.still;
              }

    -- where no file is meant
    pub none_shows : (line : ℕ) → word.token.line ≡ line
        → AsMany call_words (carried extent look make (on_standard None (first_actual ∷ others))).marks
        → ShowsBy call_words (carried extent look make (on_standard None (first_actual ∷ others))).marks
        (shown_in line (wrong FILE_RULE))
    none_shows line at_line whole_many = record {
      many = whole_many.same;
      first = ap (λ (found : ℕ). Some (fault_in found (wrong FILE_RULE))) at_line;
    }

    -- on the file that is meant where none is named
    module _ (slot : Slot) where
      abbrev pub file : Place
      file = typed.slot slot

      abbrev pub standard_first : Judged B
      standard_first = look (Some file) first_actual

      abbrev pub standard : Judged Statement
      standard = carried extent look make (on_standard (Some slot) (first_actual ∷ others))

      abbrev pub wrongs : List Wrong
      wrongs = missing_items extent (first_actual ∷ others)

      abbrev pub items_standard : List (Item B)
      items_standard = items_behind scopes spellings (n + 1) (look (Some file)) arguments.items.more

      abbrev pub item_standard : Item B
      item_standard = first_item standard_first (look (Some file)) (many (Some file)) wrongs

      pub standard_fails : (why : Stop) → FailsBy first_words standard_first.marks why
          → ShowsBy call_words standard.marks why
      standard_fails why h = first_fails standard_first (look (Some file)) (many (Some file)) wrongs why h

      pub standard_short : IsQuiet first_words standard_first.marks true
          → ShowsBy call_words standard.marks
          (shown_in (line_at arguments.closed arguments.items.more) (wrong WRONG_TYPE))
      standard_short h =
          first_short standard_first (look (Some file)) (many (Some file)) wrongs
          (missing_low extent (first_actual ∷ others)) h

      module _ (x : X) (is : standard_first.value ≡ Some (view x))
          (still : IsQuiet first_words standard_first.marks false) where
        pub standard_start : IsQuiet (word ∷ item_words (item_standard ∷ [])) (items_marks (item_standard ∷ [])) false
        standard_start = first_quiet standard_first (look (Some file)) (many (Some file)) wrongs still

        pub standard_within : (why : Stop) → FailsWithin word item_standard items_standard closing why
            → ShowsBy call_words standard.marks why
        standard_within why h =
            within_fails standard_first (look (Some file)) (many (Some file)) wrongs why
            (missing_low extent (first_actual ∷ others)) h

        pub standard_means : (found : List X)
            → Gathered view (view x ∷ []) word item_standard items_standard found
            → Means call_words standard (make file (map view found))
        standard_means found h =
            let none = none_missing extent first_actual others in
            record {
              known = ap (λ (shown : List Wrong). both make (Some file) (values_if shown
                  (map (look (Some file)) (first_actual ∷ others)))) none
                  ∙ ap (λ (one : Option B). both make (Some file) (both ◌∷◌ one
                  (all_known (map (λ item. item.value) (map (look (Some file)) others))))) is
                  ∙ ap (λ (values : Option (List B)). both make (Some file) (both ◌∷◌ (Some (view x)) values))
                  (values_seen standard_first (look (Some file)) (many (Some file)) wrongs ∙ h.known)
                  ∙ ap (λ (values : List B). Some (make file values)) (sym h.same);
              quiet = whole_quiet standard_first (look (Some file)) (many (Some file)) wrongs none h.still;
            }

-- reading shows as many lists of faults as there are words
module _ (scopes : Scopes) (spellings : List ℕ) (n : ℕ) (word : Word) (arguments : CodeArguments) where
  reading_many : (extent : Extent) → AsMany (call_words scopes spellings n word arguments)
      (read_with extent scopes.outer.types (input scopes) (first_actual scopes spellings n word arguments
      ∷ others scopes spellings n word arguments)).marks
  reading_many items_alone =
      let many = call_many scopes n (record { name = []; line = 0 }) (Some (procedure read))
      (Some (arguments_in spellings arguments)) in
      record { same = many.same }
  reading_many whole_line =
      let many = call_many scopes n (record { name = []; line = 0 }) (Some (procedure readln))
      (Some (arguments_in spellings arguments)) in
      record { same = many.same }

  pub read_call_many : (extent : Extent) → input scopes ≡ None
      → option_and_then (whole_file scopes.outer.types) (first_actual scopes spellings n word arguments).value.value
      ≡ None
      → AsMany (call_words scopes spellings n word arguments) (carried extent (read_item scopes.outer.types)
      (reads_by extent) (on_standard None (first_actual scopes spellings n word arguments
      ∷ others scopes spellings n word arguments))).marks
  read_call_many extent none unnamed =
      subst (λ (slot : Option Slot). AsMany (call_words scopes spellings n word arguments) (carried extent
      (read_item scopes.outer.types) (reads_by extent) (on_standard slot
      (first_actual scopes spellings n word arguments ∷ others scopes spellings n word arguments))).marks) none
      (subst (λ (file : Option Place). AsMany (call_words scopes spellings n word arguments) (carried extent
      (read_item scopes.outer.types) (reads_by extent) (transfer_by extent (input scopes)
      (first_actual scopes spellings n word arguments ∷ others scopes spellings n word arguments) file)).marks) unnamed
      (reading_many extent))

pub reading_seen : (scopes : Scopes) (extent : CodeExtent) (actuals : List Actual)
    → procedure_of scopes (reading extent) actuals
    ≡ read_with (extent_view extent) scopes.outer.types (input scopes) actuals
reading_seen scopes code.ItemsAlone actuals = refl
reading_seen scopes code.WholeLine actuals = refl

-- components that are written, by the file
module _ (scopes : Scopes) (spellings : List ℕ) (n : ℕ) where
  pub bytes_seen : (transfer : Transfer) (found : Option Place) → transfer.file ≡ found
      → ((file : Place) → found ≡ Some file → is_text file ≡ false)
      → write_items scopes.outer.types transfer found
      ≡ carried items_alone (bytes_item scopes spellings n) typed.writes_bytes transfer
  bytes_seen transfer None is h =
      ap (λ (file : Option Place). let items = map (bytes_item scopes spellings n file) transfer.items in
      judged (transferred items_alone transfer items)
      (both typed.writes_bytes transfer.file (values_if (missing_items items_alone transfer.items) items))) (sym is)
  bytes_seen transfer (Some file) is h =
      ap (λ (on_text : Bool). if on_text then write_text items_alone scopes.outer.types transfer typed.writes
      else write_bytes scopes.outer.types transfer (component_of scopes.outer.types (type_of_place file)))
      (h file refl)
      ∙ ap (λ (file : Option Place). let items = map (bytes_item scopes spellings n file) transfer.items in
      judged (transferred items_alone transfer items)
      (both typed.writes_bytes transfer.file (values_if (missing_items items_alone transfer.items) items))) (sym is)

  same_file : (value : Option Value) (file found : Place) → known (λ value. file) value ≡ Some found → file ≡ found
  same_file None file found h = cc
  same_file (Some value) file found h = cc

  pub bytes_named : (file : Place) (actual : Actual) (actuals : List Actual) → is_text file ≡ false
      → write_items scopes.outer.types (on_named (demand_on_file items_alone) file (actual ∷ actuals))
      (on_named (demand_on_file items_alone) file (actual ∷ actuals)).file
      ≡ carried items_alone (bytes_item scopes spellings n) typed.writes_bytes
      (on_named (demand_on_file items_alone) file (actual ∷ actuals))
  bytes_named file actual actuals h =
      bytes_seen (on_named (demand_on_file items_alone) file (actual ∷ actuals))
      (on_named (demand_on_file items_alone) file (actual ∷ actuals)).file refl
      (λ found is. subst (λ (place : Place). is_text place ≡ false)
      (same_file (met (demand_on_file items_alone) (without_width actual)).value file found is) h)
