-- Statements that call a procedure show as many lists of faults as they have words.
use Rattle.std.proofs.Common.{◌≡◌, refl, ℕ, suc, ◌+◌, ◌<◌, arith, Bool, true, false, List, [], ◌∷◌}
use Rattle.std.proofs.Common.{◌++◌, length, map, Option, Some, None}
use Rattle.std.specs.Prelude.{⊤, flat_map, if◌then◌else◌}
use Rattle.std.proofs.lemmas.Option.{none-some}
use Rattle.std.proofs.lemmas.List.{length-append}
use Rattle.wb_base.specs.declared.faults.TheConstants.{UNKNOWN_NAME, WRONG_TYPE}
use Rattle.pas_tokens.specs.declared.kinds.Kind.TheVariants as k
use Rattle.pas_tokens.specs.Cutting.{wrong}
use Rattle.pas_syntax.specs.Tree as tree
use Rattle.pas_syntax.specs.Tree.{Behind, Separated, Expr}
use Rattle.pas_syntax.specs.Words.{Word, at, name_at, words_if, separated, width_words, argument_words}
use Rattle.pas_syntax.specs.Words.{arguments_words, text_at}
use Rattle.pas_rules.specs.Marks.{Marks, no_token, shows, quiet, joined, Judged, checked}
use Rattle.pas_typed.specs.Types.{integer, PasType, Table, component_of}
use Rattle.pas_typed.specs.Typed.{Variable, Slot, Value, Place, Heading, Statement, Item}
use Rattle.pas_typed.specs.Typed as typed
use Rattle.pas_rules.specs.Scopes.{Scopes, Entity, constant, variable, routine, function, file_test, file_step}
use Rattle.pas_rules.specs.Scopes.{procedure, unclear, type, Procedure, read, readln, write, writeln, uexit}
use Rattle.pas_rules.specs.Expressions.{value_of, only, file_only, Given, Demand, met}
use Rattle.pas_rules.specs.Expressions.{demands_of, heading_of}
use Rattle.pas_rules.specs.Calls.{Actual, text_in, width_of, actual_of, actuals_of, no_width, without_width}
use Rattle.pas_rules.specs.Calls.{procedure_with, routine_with, Extent, items_alone, whole_line}
use Rattle.pas_rules.specs.Calls.{Transfer, on_named, on_standard, transfer_by, transfer_of, named_file, missing_items}
use Rattle.pas_rules.specs.Calls.{transferred, demand_on_file, read_demand, read_item, read_with, width_value}
use Rattle.pas_rules.specs.Calls.{printed_only, item_on_text, write_text, component_demand, write_bytes, write_items}
use Rattle.pas_rules.specs.Calls.{write_with, is_text, input, output, procedure_of, call_by, procedure_alone}
use Rattle.pas_rules.specs.Calls.{routine_without, routine_alone, call_alone, call_of}
use Rattle.pas_rules.proofs.AsMany.{AsMany, none, one, and_then, all, next_word, count, total, total_append}
use Rattle.pas_rules.proofs.AsMany.{listed_count, followed_count, checked_count}
use Rattle.pas_rules.specs.TypeForms.{undoubled}
use Rattle.pas_rules.proofs.TypesAsMany.{char_many}
use Rattle.pas_rules.proofs.ExpressionsAsMany.{value_many, plain_marks, met_count, IsCall, called_count}
use Rattle.pas_rules.proofs.ExpressionsAsMany.{not_called_count}
use Rattle.pas_typed.specs.TypeOf.{type_of_place}

-- arguments
abbrev pub given_of : List Actual → List Given
given_of actuals = map without_width actuals

abbrev pub all_marks : List Actual → List Marks
all_marks actuals = map plain_marks (given_of actuals)

pub width_many : (scopes : Scopes) (n : ℕ) (width : Option (Behind Expr))
    → AsMany (words_if (width_words n) width) (no_width (width_of scopes width)).marks
width_many scopes n None = none
width_many scopes n (Some behind) =
    next_word (at n k.Colon behind.line) (wrong WRONG_TYPE ∷ []) (joined ((value_of scopes behind.item).marks ∷ []))
    (all (value_of scopes behind.item).marks (value_many scopes n 0 behind.item))

pub argument_many : (scopes : Scopes) (n : ℕ) (argument : tree.Argument)
    → AsMany (argument_words n argument) (plain_marks (without_width (actual_of scopes argument)))
argument_many scopes n argument =
    let behind : Marks = (no_width (width_of scopes argument.width)).marks in
    and_then (value_of scopes argument.value).marks (joined (behind ∷ [])) (value_many scopes n 0 argument.value)
    (all behind (width_many scopes n argument.width))

more_actuals_total : (scopes : Scopes) (n : ℕ) (more : List (Behind tree.Argument))
    → total (all_marks (map (λ behind. actual_of scopes behind.item) more))
    ≡ length (flat_map (λ behind. at n k.Comma behind.line ∷ argument_words n behind.item) more)
more_actuals_total scopes n [] = refl
more_actuals_total scopes n (behind ∷ more) =
    omega (
      arith,
      (argument_many scopes n behind.item).same,
      more_actuals_total scopes n more,
      length-append (at n k.Comma behind.line ∷ argument_words n behind.item)
          (flat_map (λ other. at n k.Comma other.line ∷ argument_words n other.item) more),
    )

pub actuals_total : (scopes : Scopes) (n : ℕ) (arguments : Separated tree.Argument)
    → total (all_marks (actuals_of scopes arguments))
    ≡ suc (length (separated n k.Comma (argument_words n) arguments))
actuals_total scopes n arguments =
    omega (
      arith,
      (argument_many scopes n arguments.first).same,
      more_actuals_total scopes n arguments.more,
      length-append (argument_words n arguments.first)
          (flat_map (λ behind. at n k.Comma behind.line ∷ argument_words n behind.item) arguments.more),
    )

-- a string that is written as one is one token
abbrev pub IsActual : Actual → Type 0
IsActual actual = (bytes : List ℕ) → actual.text ≡ Some bytes → count actual.value.marks ≡ 1

abbrev pub AreActual : List Actual → Type 0
AreActual [] = ⊤
AreActual (actual ∷ actuals) = IsActual actual × AreActual actuals

pub text_count : (scopes : Scopes) (expr : Expr) (bytes : List ℕ) → text_in expr ≡ Some bytes
    → count (value_of scopes expr).marks ≡ 1
text_count scopes (tree.sum (tree.first_term (tree.first_factor (tree.literal_text quoted)))) bytes h =
    (char_many (text_at 0 quoted) (undoubled quoted.text)).same
text_count scopes expr bytes h = absurd (none-some bytes h)

pub are_more_actual : (scopes : Scopes) (more : List (Behind tree.Argument))
    → AreActual (map (λ behind. actual_of scopes behind.item) more)
are_more_actual scopes [] = tt
are_more_actual scopes (behind ∷ more) =
    ((λ bytes h. text_count scopes behind.item.value bytes h), are_more_actual scopes more)

pub are_actual : (scopes : Scopes) (arguments : Separated tree.Argument) → AreActual (actuals_of scopes arguments)
are_actual scopes arguments =
    ((λ bytes h. text_count scopes arguments.first.value bytes h), are_more_actual scopes arguments.more)

-- calls of routines, of the steps of files, and of `uexit`
procedure_count : (scopes : Scopes) (number : ℕ) (heading : Heading) (arguments : List Given) (result : Option PasType)
    → 0 < total (map plain_marks arguments)
    → IsCall arguments (procedure_with scopes number heading arguments result).marks
procedure_count scopes number heading arguments None h =
    called_count (demands_of scopes.outer.types heading.parameters) arguments h
procedure_count scopes number heading arguments (Some found) h = not_called_count (wrong WRONG_TYPE ∷ []) arguments h

routine_count : (scopes : Scopes) (number : ℕ) (arguments : List Given) (heading : Option Heading)
    → 0 < total (map plain_marks arguments) → IsCall arguments (routine_with scopes number arguments heading).marks
routine_count scopes number arguments None h = not_called_count [] arguments h
routine_count scopes number arguments (Some heading) h =
    procedure_count scopes number heading arguments heading.result h

-- a transfer has the arguments, but for the one that names its file
pub record Splits (transfer : Transfer) (actuals : List Actual) : Type 0 where
  pub name : count transfer.name ≡ 1
  pub parts : total transfer.file_marks + total (all_marks transfer.items) ≡ total (all_marks actuals)
  pub items : AreActual transfer.items

on_named_splits : (demand : Demand) (file : Place) (actuals : List Actual) → AreActual actuals
    → Splits (on_named demand file actuals) actuals
on_named_splits demand file [] h = record { name = refl; parts = refl; items = tt }
on_named_splits demand file (actual ∷ actuals) h = record {
  name = refl;
  parts = omega (arith, met_count demand (without_width actual));
  items = h.1;
}

on_standard_splits : (slot : Option Slot) (actuals : List Actual) → AreActual actuals
    → Splits (on_standard slot actuals) actuals
on_standard_splits None actuals h = record { name = refl; parts = omega arith; items = h }
on_standard_splits (Some slot) actuals h = record { name = refl; parts = omega arith; items = h }

transfer_by_splits : (extent : Extent) (slot : Option Slot) (actuals : List Actual) (file : Option Place)
    → AreActual actuals → Splits (transfer_by extent slot actuals file) actuals
transfer_by_splits extent slot actuals None h = on_standard_splits slot actuals h
transfer_by_splits extent slot actuals (Some file) h = on_named_splits (demand_on_file extent) file actuals h

transfer_splits : (extent : Extent) (table : Table) (slot : Option Slot) (actuals : List Actual) → AreActual actuals
    → Splits (transfer_of extent table slot actuals) actuals
transfer_splits extent table slot actuals h = transfer_by_splits extent slot actuals (named_file table actuals) h

-- items that show as much as the arguments
items_total : {A : Type 0} (item : Actual → Judged A)
    → ((actual : Actual) → IsActual actual → count (item actual).marks ≡ count (plain_marks (without_width actual)))
    → (actuals : List Actual) → AreActual actuals
    → total (map (λ found. found.marks) (map item actuals)) ≡ total (all_marks actuals)
items_total item same [] h = refl
items_total item same (actual ∷ actuals) h =
    omega (arith, same actual h.0, items_total item same actuals h.1)

transferred_count : {A : Type 0} (extent : Extent) (transfer : Transfer) (actuals : List Actual)
    (item : Actual → Judged A)
    → ((actual : Actual) → IsActual actual → count (item actual).marks ≡ count (plain_marks (without_width actual)))
    → Splits transfer actuals → 0 < total (all_marks actuals)
    → IsCall (given_of actuals) (transferred extent transfer (map item transfer.items))
transferred_count extent transfer actuals item same h some =
    let items : List Marks = map (λ found. found.marks) (map item transfer.items) in
    let sum : total items ≡ total (all_marks transfer.items) = items_total item same transfer.items h.items in
    let parts : total (transfer.file_marks ++ items) ≡ total (all_marks actuals) =
    omega (arith, total_append transfer.file_marks items, sum, h.parts) in
    omega (
      arith,
      parts,
      h.name,
      listed_count transfer.name quiet (shows (missing_items extent transfer.items))
          (transfer.file_marks ++ items) (omega (arith, parts, some)),
    )

read_item_count : (table : Table) (file : Option Place) (actual : Actual) → IsActual actual
    → count (read_item table file actual).marks ≡ count (plain_marks (without_width actual))
read_item_count table file actual h = met_count (read_demand table file) (without_width actual)

width_count : (table : Table) (width : Option (Judged Value))
    → count (width_value table width).marks ≡ count (no_width width).marks
width_count table None = refl
width_count table (Some width) =
    omega (
      arith,
      checked_count (only integer table) width,
      followed_count quiet (joined ((checked (only integer table) width).marks ∷ [])),
      followed_count (checked (only integer table) width).marks no_token,
      followed_count (shows (wrong WRONG_TYPE ∷ [])) (joined (width.marks ∷ [])),
      followed_count width.marks no_token,
    )

pub on_text_count : (table : Table) (actual : Actual) (text : Option (List ℕ)) → actual.text ≡ text → IsActual actual
    → count (item_on_text table actual text).marks ≡ count (plain_marks (without_width actual))
on_text_count table actual None same h =
    let found : Judged Value = checked (printed_only table) actual.value in
    omega (
      arith,
      checked_count (printed_only table) actual.value,
      width_count table actual.width,
      followed_count found.marks (joined ((width_value table actual.width).marks ∷ [])),
      followed_count (width_value table actual.width).marks no_token,
      followed_count actual.value.marks (joined ((no_width actual.width).marks ∷ [])),
      followed_count (no_width actual.width).marks no_token,
    )
on_text_count table actual (Some bytes) same h =
    omega (
      arith,
      h bytes same,
      width_count table actual.width,
      followed_count quiet (joined ((width_value table actual.width).marks ∷ [])),
      followed_count (width_value table actual.width).marks no_token,
      followed_count actual.value.marks (joined ((no_width actual.width).marks ∷ [])),
      followed_count (no_width actual.width).marks no_token,
    )

-- reading and writing
read_count : (extent : Extent) (table : Table) (slot : Option Slot) (actuals : List Actual) → AreActual actuals
    → 0 < total (all_marks actuals) → IsCall (given_of actuals) (read_with extent table slot actuals).marks
read_count extent table slot actuals h some =
    let transfer : Transfer = transfer_of extent table slot actuals in
    transferred_count extent transfer actuals (read_item table transfer.file) (read_item_count table transfer.file)
    (transfer_splits extent table slot actuals h) some

write_text_count : (extent : Extent) (table : Table) (transfer : Transfer) (make : Place → List Item → Statement)
    (actuals : List Actual) → Splits transfer actuals → 0 < total (all_marks actuals)
    → IsCall (given_of actuals) (write_text extent table transfer make).marks
write_text_count extent table transfer make actuals h some =
    transferred_count extent transfer actuals (λ actual. item_on_text table actual actual.text)
    (λ actual is. on_text_count table actual actual.text refl is) h some

write_bytes_count : (table : Table) (transfer : Transfer) (component : Option PasType) (actuals : List Actual)
    → Splits transfer actuals → 0 < total (all_marks actuals)
    → IsCall (given_of actuals) (write_bytes table transfer component).marks
write_bytes_count table transfer component actuals h some =
    transferred_count items_alone transfer actuals
    (λ actual. met (component_demand table component) (without_width actual))
    (λ actual is. met_count (component_demand table component) (without_width actual)) h some

write_on_count : (table : Table) (transfer : Transfer) (file : Place) (on_text : Bool) (actuals : List Actual)
    → Splits transfer actuals → 0 < total (all_marks actuals)
    → IsCall (given_of actuals)
    (if on_text then write_text items_alone table transfer typed.writes
    else write_bytes table transfer (component_of table (type_of_place file))).marks
write_on_count table transfer file true actuals h some =
    write_text_count items_alone table transfer typed.writes actuals h some
write_on_count table transfer file false actuals h some =
    write_bytes_count table transfer (component_of table (type_of_place file)) actuals h some

write_items_count : (table : Table) (transfer : Transfer) (file : Option Place) (actuals : List Actual)
    → Splits transfer actuals → 0 < total (all_marks actuals)
    → IsCall (given_of actuals) (write_items table transfer file).marks
write_items_count table transfer None actuals h some = write_bytes_count table transfer None actuals h some
write_items_count table transfer (Some file) actuals h some =
    write_on_count table transfer file (is_text file) actuals h some

write_count : (extent : Extent) (table : Table) (slot : Option Slot) (actuals : List Actual) → AreActual actuals
    → 0 < total (all_marks actuals) → IsCall (given_of actuals) (write_with extent table slot actuals).marks
write_count items_alone table slot actuals h some =
    let transfer : Transfer = transfer_of items_alone table slot actuals in
    write_items_count table transfer transfer.file actuals (transfer_splits items_alone table slot actuals h) some
write_count whole_line table slot actuals h some =
    write_text_count whole_line table (transfer_of whole_line table slot actuals) typed.writes_line actuals
    (transfer_splits whole_line table slot actuals h) some

-- calls with arguments
procedure_of_count : (scopes : Scopes) (found : Procedure) (actuals : List Actual) → AreActual actuals
    → 0 < total (all_marks actuals) → IsCall (given_of actuals) (procedure_of scopes found actuals).marks
procedure_of_count scopes read actuals h some = read_count items_alone scopes.outer.types (input scopes) actuals h some
procedure_of_count scopes readln actuals h some =
    read_count whole_line scopes.outer.types (input scopes) actuals h some
procedure_of_count scopes write actuals h some =
    write_count items_alone scopes.outer.types (output scopes) actuals h some
procedure_of_count scopes writeln actuals h some =
    write_count whole_line scopes.outer.types (output scopes) actuals h some
procedure_of_count scopes uexit actuals h some =
    called_count (only integer scopes.outer.types ∷ []) (given_of actuals) some

call_by_count : (scopes : Scopes) (actuals : List Actual) (entity : Option Entity) → AreActual actuals
    → 0 < total (all_marks actuals) → IsCall (given_of actuals) (call_by scopes actuals entity).marks
call_by_count scopes actuals None h some = not_called_count (wrong UNKNOWN_NAME ∷ []) (given_of actuals) some
call_by_count scopes actuals (Some (constant base value)) h some =
    not_called_count (wrong WRONG_TYPE ∷ []) (given_of actuals) some
call_by_count scopes actuals (Some (type found)) h some =
    not_called_count (wrong WRONG_TYPE ∷ []) (given_of actuals) some
call_by_count scopes actuals (Some (variable found)) h some =
    not_called_count (wrong WRONG_TYPE ∷ []) (given_of actuals) some
call_by_count scopes actuals (Some (routine number)) h some =
    routine_count scopes number (given_of actuals) (heading_of scopes number) some
call_by_count scopes actuals (Some (function found)) h some =
    not_called_count (wrong WRONG_TYPE ∷ []) (given_of actuals) some
call_by_count scopes actuals (Some (file_test found)) h some =
    not_called_count (wrong WRONG_TYPE ∷ []) (given_of actuals) some
call_by_count scopes actuals (Some (file_step step)) h some =
    called_count (file_only scopes.outer.types ∷ []) (given_of actuals) some
call_by_count scopes actuals (Some (procedure found)) h some = procedure_of_count scopes found actuals h some
call_by_count scopes actuals (Some unclear) h some = not_called_count [] (given_of actuals) some

-- a name by itself
standard_name_count : (slot : Option Slot) → count (on_standard slot []).name ≡ 1
standard_name_count None = refl
standard_name_count (Some slot) = refl

procedure_alone_many : (scopes : Scopes) (word : Word) (found : Procedure)
    → AsMany (word ∷ []) (procedure_alone scopes found).marks
procedure_alone_many scopes word read = record { same = standard_name_count (input scopes) }
procedure_alone_many scopes word readln = record { same = standard_name_count (input scopes) }
procedure_alone_many scopes word write = record { same = standard_name_count (output scopes) }
procedure_alone_many scopes word writeln = record { same = standard_name_count (output scopes) }
procedure_alone_many scopes word uexit = record { same = refl }

routine_without_many : (word : Word) (number : ℕ) (result : Option PasType) (parameters : List Variable)
    → AsMany (word ∷ []) (routine_without number result parameters).marks
routine_without_many word number (Some found) parameters = one word _
routine_without_many word number None [] = one word _
routine_without_many word number None (parameter ∷ parameters) = record { same = refl }

routine_alone_many : (word : Word) (number : ℕ) (heading : Option Heading)
    → AsMany (word ∷ []) (routine_alone number heading).marks
routine_alone_many word number None = one word _
routine_alone_many word number (Some heading) = routine_without_many word number heading.result heading.parameters

call_alone_many : (scopes : Scopes) (word : Word) (entity : Option Entity)
    → AsMany (word ∷ []) (call_alone scopes entity).marks
call_alone_many scopes word None = one word _
call_alone_many scopes word (Some (constant base value)) = one word _
call_alone_many scopes word (Some (type found)) = one word _
call_alone_many scopes word (Some (variable found)) = one word _
call_alone_many scopes word (Some (routine number)) = routine_alone_many word number (heading_of scopes number)
call_alone_many scopes word (Some (function found)) = one word _
call_alone_many scopes word (Some (file_test found)) = one word _
call_alone_many scopes word (Some (file_step found)) = record { same = refl }
call_alone_many scopes word (Some (procedure found)) = procedure_alone_many scopes word found
call_alone_many scopes word (Some unclear) = one word _

pub call_many : (scopes : Scopes) (n : ℕ) (name : tree.Ident) (entity : Option Entity)
    (arguments : Option tree.Arguments)
    → AsMany (name_at n name ∷ words_if (arguments_words n) arguments) (call_of scopes entity arguments).marks
call_many scopes n name entity None = call_alone_many scopes (name_at n name) entity
call_many scopes n name entity (Some arguments) =
    let actuals : List Actual = actuals_of scopes arguments.items in
    let sum : total (all_marks actuals)
    ≡ suc (length (separated (n + 1) k.Comma (argument_words (n + 1)) arguments.items)) =
    actuals_total scopes (n + 1) arguments.items in
    record {
      same = omega (
        arith,
        sum,
        call_by_count scopes actuals entity (are_actual scopes arguments.items) (omega (arith, sum)),
        length-append (separated (n + 1) k.Comma (argument_words (n + 1)) arguments.items)
            (at (n + 1) k.RightParenthesis arguments.closed ∷ []),
      );
    }
