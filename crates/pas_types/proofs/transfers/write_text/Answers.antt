use Rattle.std.proofs.Common.{◌≡◌, sym, ap, subst, ◌∙◌, ◌+◌, false, List, map}
use Rattle.std.proofs.lemmas.Result.{err_from_is_err_and}
use Rattle.pas_syntax.specs.Words.{Word}
use Rattle.pas_typed.specs.Typed.{Value, Place, Item as SpecItem, Statement, read}
use Rattle.pas_typed.specs.TypedViews.{place_view, item_view, statement_view}
use Rattle.pas_rules.specs.Marks.{Judged}
use Rattle.pas_rules.specs.Calls.{demand_on_file, without_width}
use Rattle.pas_scopes.specs.ScopeViews.{scopes_view}
use Rattle.pas_scopes.specs.Answers.{Ending, end_in, IsQuiet, Means}
use Rattle.pas_scopes.specs.inner.Listed.{Gathered, items_behind}
use Rattle.pas_types.specs.inner.Transfers.{extent_view, item_written, writes_by}
use Rattle.pas_scopes.proofs.SettleLemmas.{settles_stop}
use Rattle.pas_scopes.proofs.ArgumentLemmas.{stands_quiet}
use Rattle.pas_scopes.proofs.CallAnswers.{settled_is, unsettled_is}
use Rattle.pas_types.proofs.TransferParts.{call_words, first_actual, first_words, named_start, made_settles, met_known}
use Rattle.pas_types.proofs.TransferParts.{same_place, short_shows}
use Rattle.pas_types.proofs.WriteParts.{written, file_part, text_item, texts_many, text_fails, text_short, first_text}
use Rattle.pas_types.proofs.WriteParts.{text_within, text_few, text_means}
use Rattle.pas_types.proofs.transfers.write_text.Goals as goal

pub returns-in_err-file : goal.returns-in_err-file
returns-in_err-file c clear n word h on =
    let scopes = scopes_view c.args.scopes.now in
    let spellings = c.args.scopes.now.spellings.now in
    let arguments = c.args.arguments.now in
    let extent = extent_view c.args.extent in
    let words = call_words scopes spellings n word arguments in
    let whole : Judged Statement = written scopes spellings n word arguments extent in
    let file : Place = place_view c.args.file.value in
    let at = h.0 in
    let why = c.in_err-file.field-0.0 in
    settles_stop words whole (statement_view spellings) why c.from_residual.result
    (err_from_is_err_and _ c.from_residual.ensures.1)
    (text_fails scopes spellings n word arguments extent file on at why
    (c.in_err-file.ensures scopes spellings (n + 1) h.1))

pub returns-in_err-file-2 : goal.returns-in_err-file-2
returns-in_err-file-2 c clear n word h on =
    let scopes = scopes_view c.args.scopes.now in
    let spellings = c.args.scopes.now.spellings.now in
    let arguments = c.args.arguments.now in
    let extent = extent_view c.args.extent in
    let words = call_words scopes spellings n word arguments in
    let whole : Judged Statement = written scopes spellings n word arguments extent in
    let file : Place = place_view c.args.file.value in
    let at = h.0 in
    let part : Judged Value = file_part scopes spellings n word arguments extent file in
    let first : List Word = first_words scopes spellings n word arguments in
    let found = c.in_ok-file.file in
    let end : Ending = end_in found.end in
    let value : Value = read (place_view found.value) in
    let stands = c.in_ok-file.ensures scopes spellings (n + 1) h.1 in
    let why = c.in_err-file-2.field-0.0 in
    let short = unsettled_is end.line c.line_behind.result end.refusal end.is_short found.value why stands.lawful
    c.in_err-file-2.ensures in
    settles_stop words whole (statement_view spellings) why c.from_residual-in_err-file-2.result
    (err_from_is_err_and _ c.from_residual-in_err-file-2.ensures.1)
    (short_shows words whole.marks c.line_behind.result arguments.closed arguments.items.more why short.1
    c.line_behind.ensures
    (text_short scopes spellings n word arguments extent file on at
    (subst (IsQuiet first part.marks) short.0 (stands_quiet first part value end stands))))

pub returns-in_err-items : goal.returns-in_err-items
returns-in_err-items c clear n word h on =
    let scopes = scopes_view c.args.scopes.now in
    let spellings = c.args.scopes.now.spellings.now in
    let arguments = c.args.arguments.now in
    let extent = extent_view c.args.extent in
    let words = call_words scopes spellings n word arguments in
    let whole : Judged Statement = written scopes spellings n word arguments extent in
    let file : Place = place_view c.args.file.value in
    let at = h.0 in
    let part : Judged Value = file_part scopes spellings n word arguments extent file in
    let first : List Word = first_words scopes spellings n word arguments in
    let found = c.in_ok-file.file in
    let end : Ending = end_in found.end in
    let value : Value = read (place_view found.value) in
    let stands = c.in_ok-file.ensures scopes spellings (n + 1) h.1 in
    let settled = settled_is end.line c.line_behind.result end.refusal end.is_short found.value c.in_ok-file-2.file
    stands.lawful c.in_ok-file-2.ensures in
    let still : IsQuiet first part.marks false =
    subst (IsQuiet first part.marks) settled.1 (stands_quiet first part value end stands) in
    let head = first_text scopes spellings n word arguments extent file on at value stands.ends.known still in
    let start = named_start scopes spellings n word arguments extent (text_item scopes.outer.types)
    (texts_many scopes spellings n word arguments) (writes_by extent) (item_view spellings) file value
    stands.ends.known still in
    let why = c.in_err-items.field-0.0 in
    settles_stop words whole (statement_view spellings) why c.from_residual-in_err-items.result
    (err_from_is_err_and _ c.from_residual-in_err-items.ensures.1)
    (text_within scopes spellings n word arguments extent file on at value stands.ends.known still why
    (c.in_err-items.ensures clear (n + 1) word head start))

pub returns-in_err-some_item : goal.returns-in_err-some_item
returns-in_err-some_item c clear n word h on =
    let scopes = scopes_view c.args.scopes.now in
    let spellings = c.args.scopes.now.spellings.now in
    let arguments = c.args.arguments.now in
    let extent = extent_view c.args.extent in
    let words = call_words scopes spellings n word arguments in
    let whole : Judged Statement = written scopes spellings n word arguments extent in
    let file : Place = place_view c.args.file.value in
    let at = h.0 in
    let part : Judged Value = file_part scopes spellings n word arguments extent file in
    let first : List Word = first_words scopes spellings n word arguments in
    let found = c.in_ok-file.file in
    let end : Ending = end_in found.end in
    let value : Value = read (place_view found.value) in
    let stands = c.in_ok-file.ensures scopes spellings (n + 1) h.1 in
    let settled = settled_is end.line c.line_behind.result end.refusal end.is_short found.value c.in_ok-file-2.file
    stands.lawful c.in_ok-file-2.ensures in
    let still : IsQuiet first part.marks false =
    subst (IsQuiet first part.marks) settled.1 (stands_quiet first part value end stands) in
    let head = first_text scopes spellings n word arguments extent file on at value stands.ends.known still in
    let start = named_start scopes spellings n word arguments extent (text_item scopes.outer.types)
    (texts_many scopes spellings n word arguments) (writes_by extent) (item_view spellings) file value
    stands.ends.known still in
    let items = c.in_ok-items.items in
    let gathered = subst (λ (before : List SpecItem). Gathered (item_view spellings) before word head
    (items_behind scopes spellings (n + 1) (item_written scopes.outer.types) arguments.items.more) items)
    (ap (map (item_view spellings)) c.new.ensures) (c.in_ok-items.ensures clear (n + 1) word head start) in
    let why = c.in_err-some_item.field-0.0 in
    settles_stop words whole (statement_view spellings) why c.from_residual-in_err-some_item.result
    (err_from_is_err_and _ c.from_residual-in_err-some_item.ensures.1)
    (text_few scopes spellings n word arguments extent file on at value stands.ends.known still items gathered why
    (c.in_err-some_item.ensures scopes spellings))

pub returns : goal.returns
returns c clear n word h on =
    let scopes = scopes_view c.args.scopes.now in
    let spellings = c.args.scopes.now.spellings.now in
    let arguments = c.args.arguments.now in
    let extent = extent_view c.args.extent in
    let words = call_words scopes spellings n word arguments in
    let whole : Judged Statement = written scopes spellings n word arguments extent in
    let file : Place = place_view c.args.file.value in
    let at = h.0 in
    let part : Judged Value = file_part scopes spellings n word arguments extent file in
    let first : List Word = first_words scopes spellings n word arguments in
    let found = c.in_ok-file.file in
    let end : Ending = end_in found.end in
    let value : Value = read (place_view found.value) in
    let stands = c.in_ok-file.ensures scopes spellings (n + 1) h.1 in
    let settled = settled_is end.line c.line_behind.result end.refusal end.is_short found.value c.in_ok-file-2.file
    stands.lawful c.in_ok-file-2.ensures in
    let still : IsQuiet first part.marks false =
    subst (IsQuiet first part.marks) settled.1 (stands_quiet first part value end stands) in
    let head = first_text scopes spellings n word arguments extent file on at value stands.ends.known still in
    let start = named_start scopes spellings n word arguments extent (text_item scopes.outer.types)
    (texts_many scopes spellings n word arguments) (writes_by extent) (item_view spellings) file value
    stands.ends.known still in
    let items = c.in_ok-items.items in
    let gathered = subst (λ (before : List SpecItem). Gathered (item_view spellings) before word head
    (items_behind scopes spellings (n + 1) (item_written scopes.outer.types) arguments.items.more) items)
    (ap (map (item_view spellings)) c.new.ensures) (c.in_ok-items.ensures clear (n + 1) word head start) in
    let same : file ≡ place_view c.in_ok-file-2.file =
    same_place (first_actual scopes spellings n word arguments).value.value file (place_view found.value) h.1.known
    (met_known (demand_on_file extent) (without_width (first_actual scopes spellings n word arguments)) value
    stands.ends.known) ∙ ap place_view (sym settled.0) in
    let made : Statement = writes_by extent (place_view c.in_ok-file-2.file) (map (item_view spellings) items) in
    made_settles words whole (statement_view spellings) made c.writes.result c.writes.ensures
    (subst (λ (place : Place). Means words whole (writes_by extent place (map (item_view spellings) items))) same
    (text_means scopes spellings n word arguments extent file on at value stands.ends.known still items gathered
    (c.in_ok-some_item.ensures scopes spellings)))
