use Rattle.std.proofs.Common.{◌≡◌, sym, ap, subst, ◌∙◌, ◌+◌, true, false, List, ◌∷◌, map, Option, Some}
use Rattle.std.specs.Prelude.{is_some}
use Rattle.std.proofs.lemmas.Result.{err_from_is_err_and}
use Rattle.pas_syntax.specs.Words.{Word}
use Rattle.pas_typed.specs.Types.{PasType, component_of}
use Rattle.pas_typed.specs.Typed.{Value, Place, read}
use Rattle.pas_typed.specs.TypeOf.{type_of_place}
use Rattle.pas_typed.specs.TypedViews.{place_view, statement_view}
use Rattle.pas_rules.specs.Marks.{Judged}
use Rattle.pas_rules.specs.Calls.{demand_on_file, without_width, transfer_by, input, read_item, reads_by}
use Rattle.pas_scopes.specs.ScopeViews.{scopes_view}
use Rattle.pas_scopes.specs.Answers.{Ending, end_in, Settles, IsQuiet}
use Rattle.pas_scopes.specs.inner.Listed.{Gathered, items_behind}
use Rattle.pas_types.specs.inner.Transfers.{extent_view}
use Rattle.pas_scopes.proofs.SettleLemmas.{settles_stop}
use Rattle.pas_scopes.proofs.ArgumentLemmas.{stands_quiet}
use Rattle.pas_scopes.proofs.CallAnswers.{settled_is, unsettled_is}
use Rattle.pas_types.proofs.FileLemmas.{file_component}
use Rattle.pas_types.proofs.TransferItems.{read_many}
use Rattle.pas_types.proofs.TransferParts.{call_words, first_actual, others, first_words, carried, named_part}
use Rattle.pas_types.proofs.TransferParts.{named_fails, named_short, named_within, named_few, named_means, named_start}
use Rattle.pas_types.proofs.TransferParts.{first_named, made_settles, met_known, same_place, short_shows}
use Rattle.pas_types.proofs.transfers.read_named.Goals as goal

pub returns-in_err-file : goal.returns-in_err-file
returns-in_err-file c clear n word h =
    let scopes = scopes_view c.args.scopes.now in
    let spellings = c.args.scopes.now.spellings.now in
    let table = scopes.outer.types in
    let arguments = c.args.arguments.now in
    let extent = extent_view c.args.extent in
    let words = call_words scopes spellings n word arguments in
    let actuals = first_actual scopes spellings n word arguments ∷ others scopes spellings n word arguments in
    let place : Place = place_view c.args.file.value in
    let why = c.in_err-file.field-0.0 in
    let whole = λ (found : Option Place). carried extent (read_item table) (reads_by extent)
    (transfer_by extent (input scopes) actuals found) in
    subst (λ (found : Option Place). Settles words (whole found) (statement_view spellings) c.from_residual.result)
    (sym h.0)
    (settles_stop words (whole (Some place)) (statement_view spellings) why c.from_residual.result
    (err_from_is_err_and _ c.from_residual.ensures.1)
    (named_fails scopes spellings n word arguments extent (read_item table) (read_many scopes spellings (n + 1))
    (reads_by extent) place_view place why
    (c.in_err-file.ensures scopes spellings (n + 1) h.1)))

pub returns-in_err-file-2 : goal.returns-in_err-file-2
returns-in_err-file-2 c clear n word h =
    let scopes = scopes_view c.args.scopes.now in
    let spellings = c.args.scopes.now.spellings.now in
    let table = scopes.outer.types in
    let arguments = c.args.arguments.now in
    let extent = extent_view c.args.extent in
    let words = call_words scopes spellings n word arguments in
    let actuals = first_actual scopes spellings n word arguments ∷ others scopes spellings n word arguments in
    let place : Place = place_view c.args.file.value in
    let why = c.in_err-file-2.field-0.0 in
    let whole = λ (found : Option Place). carried extent (read_item table) (reads_by extent)
    (transfer_by extent (input scopes) actuals found) in
    let found = c.in_ok-file.file in
    let end : Ending = end_in found.end in
    let stands = c.in_ok-file.ensures scopes spellings (n + 1) h.1 in
    let short = unsettled_is end.line c.line_behind.result end.refusal end.is_short found.value why stands.lawful
    c.in_err-file-2.ensures in
    let part : Judged Value =
    named_part scopes spellings n word arguments extent (read_item table) (read_many scopes spellings (n + 1))
    (reads_by extent) place_view place in
    let first : List Word = first_words scopes spellings n word arguments in
    subst (λ (found : Option Place). Settles words (whole found) (statement_view spellings)
    c.from_residual-in_err-file-2.result) (sym h.0)
    (settles_stop words (whole (Some place)) (statement_view spellings) why c.from_residual-in_err-file-2.result
    (err_from_is_err_and _ c.from_residual-in_err-file-2.ensures.1)
    (short_shows words (whole (Some place)).marks c.line_behind.result arguments.closed arguments.items.more why short.1
    c.line_behind.ensures
    (named_short scopes spellings n word arguments extent (read_item table) (read_many scopes spellings (n + 1))
    (reads_by extent) place_view place
    (subst (IsQuiet first part.marks) short.0
    (stands_quiet first part (read (place_view found.value)) end stands)))))

pub returns-in_err-places : goal.returns-in_err-places
returns-in_err-places c clear n word h =
    let scopes = scopes_view c.args.scopes.now in
    let spellings = c.args.scopes.now.spellings.now in
    let table = scopes.outer.types in
    let arguments = c.args.arguments.now in
    let extent = extent_view c.args.extent in
    let words = call_words scopes spellings n word arguments in
    let actuals = first_actual scopes spellings n word arguments ∷ others scopes spellings n word arguments in
    let whole = λ (found : Option Place). carried extent (read_item table) (reads_by extent)
    (transfer_by extent (input scopes) actuals found) in
    let found = c.in_ok-file.file in
    let place : Place = place_view c.in_ok-file-2.file in
    let value : Value = read (place_view found.value) in
    let end : Ending = end_in found.end in
    let stands = c.in_ok-file.ensures scopes spellings (n + 1) h.1 in
    let settled = settled_is end.line c.line_behind.result end.refusal end.is_short found.value c.in_ok-file-2.file
    stands.lawful c.in_ok-file-2.ensures in
    let same : place_view c.args.file.value ≡ place =
    same_place (first_actual scopes spellings n word arguments).value.value (place_view c.args.file.value)
    (place_view found.value) h.1.known
    (met_known (demand_on_file extent) (without_width (first_actual scopes spellings n word arguments)) value
    stands.ends.known) ∙ ap place_view (sym settled.0) in
    let file = h.0 ∙ ap (λ (found : Place). Some found) same in
    let part : Judged Value =
    named_part scopes spellings n word arguments extent (read_item table) (read_many scopes spellings (n + 1))
    (reads_by extent) place_view place in
    let first : List Word = first_words scopes spellings n word arguments in
    let still : IsQuiet first part.marks false =
    subst (IsQuiet first part.marks) settled.1 (stands_quiet first part value end stands) in
    let some : is_some (component_of table (type_of_place place)) ≡ true =
    file_component table (first_actual scopes spellings n word arguments).value.value place file in
    let some_at = subst (λ (type : PasType). is_some (component_of table type) ≡ true) c.pas_type.ensures some in
    let start = named_start scopes spellings n word arguments extent (read_item table)
    (read_many scopes spellings (n + 1)) (reads_by extent) place_view place value stands.ends.known still in
    let head = first_named scopes spellings n word arguments extent (read_item table)
    (read_many scopes spellings (n + 1)) (reads_by extent) place_view place value stands.ends.known still in
    let why = c.in_err-places.field-0.0 in
    subst (λ (found : Option Place). Settles words (whole found) (statement_view spellings)
    c.from_residual-in_err-places.result) (sym file)
    (settles_stop words (whole (Some place)) (statement_view spellings) why c.from_residual-in_err-places.result
    (err_from_is_err_and _ c.from_residual-in_err-places.ensures.1)
    (named_within scopes spellings n word arguments extent (read_item table) (read_many scopes spellings (n + 1))
    (reads_by extent) place_view place value stands.ends.known still why
    (c.in_err-places.ensures clear (n + 1) place c.pas_type.ensures some_at word head start)))

pub returns-in_err-some_item : goal.returns-in_err-some_item
returns-in_err-some_item c clear n word h =
    let scopes = scopes_view c.args.scopes.now in
    let spellings = c.args.scopes.now.spellings.now in
    let table = scopes.outer.types in
    let arguments = c.args.arguments.now in
    let extent = extent_view c.args.extent in
    let words = call_words scopes spellings n word arguments in
    let actuals = first_actual scopes spellings n word arguments ∷ others scopes spellings n word arguments in
    let whole = λ (found : Option Place). carried extent (read_item table) (reads_by extent)
    (transfer_by extent (input scopes) actuals found) in
    let found = c.in_ok-file.file in
    let place : Place = place_view c.in_ok-file-2.file in
    let value : Value = read (place_view found.value) in
    let end : Ending = end_in found.end in
    let stands = c.in_ok-file.ensures scopes spellings (n + 1) h.1 in
    let settled = settled_is end.line c.line_behind.result end.refusal end.is_short found.value c.in_ok-file-2.file
    stands.lawful c.in_ok-file-2.ensures in
    let same : place_view c.args.file.value ≡ place =
    same_place (first_actual scopes spellings n word arguments).value.value (place_view c.args.file.value)
    (place_view found.value) h.1.known
    (met_known (demand_on_file extent) (without_width (first_actual scopes spellings n word arguments)) value
    stands.ends.known) ∙ ap place_view (sym settled.0) in
    let file = h.0 ∙ ap (λ (found : Place). Some found) same in
    let part : Judged Value =
    named_part scopes spellings n word arguments extent (read_item table) (read_many scopes spellings (n + 1))
    (reads_by extent) place_view place in
    let first : List Word = first_words scopes spellings n word arguments in
    let still : IsQuiet first part.marks false =
    subst (IsQuiet first part.marks) settled.1 (stands_quiet first part value end stands) in
    let some : is_some (component_of table (type_of_place place)) ≡ true =
    file_component table (first_actual scopes spellings n word arguments).value.value place file in
    let some_at = subst (λ (type : PasType). is_some (component_of table type) ≡ true) c.pas_type.ensures some in
    let start = named_start scopes spellings n word arguments extent (read_item table)
    (read_many scopes spellings (n + 1)) (reads_by extent) place_view place value stands.ends.known still in
    let head = first_named scopes spellings n word arguments extent (read_item table)
    (read_many scopes spellings (n + 1)) (reads_by extent) place_view place value stands.ends.known still in
    let places = c.in_ok-places.places in
    let gathered = subst (λ (before : List Place). Gathered place_view before word head
    (items_behind scopes spellings (n + 1) (read_item table (Some place)) arguments.items.more) places)
    (ap (map place_view) c.new.ensures)
    (c.in_ok-places.ensures clear (n + 1) place c.pas_type.ensures some_at word head start) in
    let why = c.in_err-some_item.field-0.0 in
    subst (λ (found : Option Place). Settles words (whole found) (statement_view spellings)
    c.from_residual-in_err-some_item.result) (sym file)
    (settles_stop words (whole (Some place)) (statement_view spellings) why c.from_residual-in_err-some_item.result
    (err_from_is_err_and _ c.from_residual-in_err-some_item.ensures.1)
    (named_few scopes spellings n word arguments extent (read_item table) (read_many scopes spellings (n + 1))
    (reads_by extent) place_view place value stands.ends.known still places gathered why
    (c.in_err-some_item.ensures scopes spellings)))

pub returns : goal.returns
returns c clear n word h =
    let scopes = scopes_view c.args.scopes.now in
    let spellings = c.args.scopes.now.spellings.now in
    let table = scopes.outer.types in
    let arguments = c.args.arguments.now in
    let extent = extent_view c.args.extent in
    let words = call_words scopes spellings n word arguments in
    let actuals = first_actual scopes spellings n word arguments ∷ others scopes spellings n word arguments in
    let whole = λ (found : Option Place). carried extent (read_item table) (reads_by extent)
    (transfer_by extent (input scopes) actuals found) in
    let found = c.in_ok-file.file in
    let place : Place = place_view c.in_ok-file-2.file in
    let value : Value = read (place_view found.value) in
    let end : Ending = end_in found.end in
    let stands = c.in_ok-file.ensures scopes spellings (n + 1) h.1 in
    let settled = settled_is end.line c.line_behind.result end.refusal end.is_short found.value c.in_ok-file-2.file
    stands.lawful c.in_ok-file-2.ensures in
    let same : place_view c.args.file.value ≡ place =
    same_place (first_actual scopes spellings n word arguments).value.value (place_view c.args.file.value)
    (place_view found.value) h.1.known
    (met_known (demand_on_file extent) (without_width (first_actual scopes spellings n word arguments)) value
    stands.ends.known) ∙ ap place_view (sym settled.0) in
    let file = h.0 ∙ ap (λ (found : Place). Some found) same in
    let part : Judged Value =
    named_part scopes spellings n word arguments extent (read_item table) (read_many scopes spellings (n + 1))
    (reads_by extent) place_view place in
    let first : List Word = first_words scopes spellings n word arguments in
    let still : IsQuiet first part.marks false =
    subst (IsQuiet first part.marks) settled.1 (stands_quiet first part value end stands) in
    let some : is_some (component_of table (type_of_place place)) ≡ true =
    file_component table (first_actual scopes spellings n word arguments).value.value place file in
    let some_at = subst (λ (type : PasType). is_some (component_of table type) ≡ true) c.pas_type.ensures some in
    let start = named_start scopes spellings n word arguments extent (read_item table)
    (read_many scopes spellings (n + 1)) (reads_by extent) place_view place value stands.ends.known still in
    let head = first_named scopes spellings n word arguments extent (read_item table)
    (read_many scopes spellings (n + 1)) (reads_by extent) place_view place value stands.ends.known still in
    let places = c.in_ok-places.places in
    let gathered = subst (λ (before : List Place). Gathered place_view before word head
    (items_behind scopes spellings (n + 1) (read_item table (Some place)) arguments.items.more) places)
    (ap (map place_view) c.new.ensures)
    (c.in_ok-places.ensures clear (n + 1) place c.pas_type.ensures some_at word head start) in
    subst (λ (found : Option Place). Settles words (whole found) (statement_view spellings) c.reads.result)
    (sym file)
    (made_settles words (whole (Some place)) (statement_view spellings) (reads_by extent place (map place_view places))
    c.reads.result c.reads.ensures
    (named_means scopes spellings n word arguments extent (read_item table) (read_many scopes spellings (n + 1))
    (reads_by extent) place_view place value stands.ends.known still places gathered
    (c.in_ok-some_item.ensures scopes spellings)))
