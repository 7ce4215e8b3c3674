use Rattle.std.proofs.Common.{◌≡◌, sym, ap, subst, ◌∙◌, ◌+◌, false, List, [], ◌∷◌, ◌++◌, map, Some, None}
use Rattle.std.proofs.lemmas.Result.{err_from_is_err_and}
use Rattle.pas_syntax.specs.Words.{Word}
use Rattle.pas_typed.specs.declared.typed.Item.{Item as CodeItem}
use Rattle.pas_typed.specs.Typed.{Slot, Place, Item as SpecItem, Statement, slot}
use Rattle.pas_typed.specs.TypedViews.{item_view, statement_view}
use Rattle.pas_rules.specs.Marks.{Judged}
use Rattle.pas_rules.specs.Calls.{output}
use Rattle.pas_scopes.specs.ScopeViews.{scopes_view}
use Rattle.pas_scopes.specs.Answers.{Ending, end_in, IsQuiet, ShowsBy}
use Rattle.pas_scopes.specs.inner.Listed.{Gathered, items_behind}
use Rattle.pas_types.specs.inner.Transfers.{extent_view, item_written, writes_by, IsOnText, Makes}
use Rattle.pas_scopes.proofs.SettleLemmas.{settles_stop}
use Rattle.pas_scopes.proofs.ArgumentLemmas.{stands_quiet}
use Rattle.pas_scopes.proofs.CallAnswers.{settled_is, unsettled_is}
use Rattle.pas_types.proofs.TransferParts.{call_words, first_words, standard_start, made_settles, short_shows, no_file}
use Rattle.pas_types.proofs.TransferParts.{some_file}
use Rattle.pas_types.proofs.WriteParts.{written, text_item, texts_many, no_output, output_text, item_first}
use Rattle.pas_types.proofs.WriteParts.{first_standard, output_fails, output_short, output_within, output_means}
use Rattle.pas_types.proofs.transfers.write_standard.Goals as goal

pub returns-in_err-file : goal.returns-in_err-file
returns-in_err-file c clear n word at_line unnamed =
    let scopes = scopes_view c.args.scopes.now in
    let spellings = c.args.scopes.now.spellings.now in
    let arguments = c.args.arguments.now in
    let extent = extent_view c.args.extent in
    let words = call_words scopes spellings n word arguments in
    let whole : Judged Statement = written scopes spellings n word arguments extent in
    let meant = no_file _ c.args.line c.in_err-file.field-0.0 c.in_err-file.ensures in
    let is : output scopes ≡ None = sym c.standard_file.ensures ∙ meant.0 in
    let why = c.in_err-file.field-0.0 in
    settles_stop words whole (statement_view spellings) why c.from_residual.result
    (err_from_is_err_and _ c.from_residual.ensures.1)
    (subst (ShowsBy words whole.marks) (sym meant.1)
    (no_output scopes spellings n word arguments extent c.args.line at_line unnamed is))

pub returns-in_err-found : goal.returns-in_err-found
returns-in_err-found c clear n word at_line unnamed =
    let scopes = scopes_view c.args.scopes.now in
    let spellings = c.args.scopes.now.spellings.now in
    let arguments = c.args.arguments.now in
    let extent = extent_view c.args.extent in
    let words = call_words scopes spellings n word arguments in
    let whole : Judged Statement = written scopes spellings n word arguments extent in
    let meant = some_file _ c.args.line c.in_ok-file.file c.in_ok-file.ensures in
    let file : Slot = meant.0 in
    let is : output scopes ≡ Some file = sym c.standard_file.ensures ∙ meant.1 in
    let on : IsOnText extent (slot file) = output_text scopes file is extent in
    let why = c.in_err-found.field-0.0 in
    settles_stop words whole (statement_view spellings) why c.from_residual-in_err-found.result
    (err_from_is_err_and _ c.from_residual-in_err-found.ensures.1)
    (output_fails scopes spellings n word arguments extent unnamed file is on why
    (c.in_err-found.ensures clear (n + 1)))

pub returns-in_err-before : goal.returns-in_err-before
returns-in_err-before c clear n word at_line unnamed =
    let scopes = scopes_view c.args.scopes.now in
    let spellings = c.args.scopes.now.spellings.now in
    let arguments = c.args.arguments.now in
    let extent = extent_view c.args.extent in
    let words = call_words scopes spellings n word arguments in
    let whole : Judged Statement = written scopes spellings n word arguments extent in
    let meant = some_file _ c.args.line c.in_ok-file.file c.in_ok-file.ensures in
    let file : Slot = meant.0 in
    let is : output scopes ≡ Some file = sym c.standard_file.ensures ∙ meant.1 in
    let on : IsOnText extent (slot file) = output_text scopes file is extent in
    let part : Judged SpecItem = item_first scopes spellings n word arguments extent unnamed file is on in
    let first : List Word = first_words scopes spellings n word arguments in
    let found = c.in_ok-found.found in
    let end : Ending = end_in found.end in
    let stands = c.in_ok-found.ensures clear (n + 1) in
    let why = c.in_err-before.field-0.0 in
    let short = unsettled_is end.line c.line_behind.result end.refusal end.is_short found.value why stands.lawful
    c.in_err-before.ensures in
    settles_stop words whole (statement_view spellings) why c.from_residual-in_err-before.result
    (err_from_is_err_and _ c.from_residual-in_err-before.ensures.1)
    (short_shows words whole.marks c.line_behind.result arguments.closed arguments.items.more why short.1
    c.line_behind.ensures
    (output_short scopes spellings n word arguments extent unnamed file is on
    (subst (IsQuiet first part.marks) short.0
    (stands_quiet first part (item_view spellings found.value) end stands))))

pub returns-in_err-items : goal.returns-in_err-items
returns-in_err-items c clear n word at_line unnamed =
    let scopes = scopes_view c.args.scopes.now in
    let spellings = c.args.scopes.now.spellings.now in
    let arguments = c.args.arguments.now in
    let extent = extent_view c.args.extent in
    let words = call_words scopes spellings n word arguments in
    let whole : Judged Statement = written scopes spellings n word arguments extent in
    let meant = some_file _ c.args.line c.in_ok-file.file c.in_ok-file.ensures in
    let file : Slot = meant.0 in
    let is : output scopes ≡ Some file = sym c.standard_file.ensures ∙ meant.1 in
    let on : IsOnText extent (slot file) = output_text scopes file is extent in
    let part : Judged SpecItem = item_first scopes spellings n word arguments extent unnamed file is on in
    let first : List Word = first_words scopes spellings n word arguments in
    let found = c.in_ok-found.found in
    let end : Ending = end_in found.end in
    let stands = c.in_ok-found.ensures clear (n + 1) in
    let settled = settled_is end.line c.line_behind.result end.refusal end.is_short found.value c.in_ok-before.field-0
    stands.lawful c.in_ok-before.ensures in
    let x : CodeItem = c.in_ok-before.field-0 in
    let known : part.value ≡ Some (item_view spellings x) =
    stands.ends.known ∙ ap (λ (one : CodeItem). Some (item_view spellings one)) (sym settled.0) in
    let still : IsQuiet first part.marks false =
    subst (IsQuiet first part.marks) settled.1 (stands_quiet first part (item_view spellings found.value) end stands) in
    let head = first_standard scopes spellings n word arguments extent unnamed file is on in
    let start = standard_start scopes spellings n word arguments extent (text_item scopes.outer.types)
    (texts_many scopes spellings n word arguments) (writes_by extent) (item_view spellings) file x known still in
    let why = c.in_err-items.field-0.0 in
    settles_stop words whole (statement_view spellings) why c.from_residual-in_err-items.result
    (err_from_is_err_and _ c.from_residual-in_err-items.ensures.1)
    (output_within scopes spellings n word arguments extent unnamed file is on x known still why
    (c.in_err-items.ensures clear (n + 1) word head start))

pub returns : goal.returns
returns c clear n word at_line unnamed =
    let scopes = scopes_view c.args.scopes.now in
    let spellings = c.args.scopes.now.spellings.now in
    let arguments = c.args.arguments.now in
    let extent = extent_view c.args.extent in
    let words = call_words scopes spellings n word arguments in
    let whole : Judged Statement = written scopes spellings n word arguments extent in
    let meant = some_file _ c.args.line c.in_ok-file.file c.in_ok-file.ensures in
    let file : Slot = meant.0 in
    let is : output scopes ≡ Some file = sym c.standard_file.ensures ∙ meant.1 in
    let on : IsOnText extent (slot file) = output_text scopes file is extent in
    let part : Judged SpecItem = item_first scopes spellings n word arguments extent unnamed file is on in
    let first : List Word = first_words scopes spellings n word arguments in
    let found = c.in_ok-found.found in
    let end : Ending = end_in found.end in
    let stands = c.in_ok-found.ensures clear (n + 1) in
    let settled = settled_is end.line c.line_behind.result end.refusal end.is_short found.value c.in_ok-before.field-0
    stands.lawful c.in_ok-before.ensures in
    let x : CodeItem = c.in_ok-before.field-0 in
    let known : part.value ≡ Some (item_view spellings x) =
    stands.ends.known ∙ ap (λ (one : CodeItem). Some (item_view spellings one)) (sym settled.0) in
    let still : IsQuiet first part.marks false =
    subst (IsQuiet first part.marks) settled.1 (stands_quiet first part (item_view spellings found.value) end stands) in
    let head = first_standard scopes spellings n word arguments extent unnamed file is on in
    let start = standard_start scopes spellings n word arguments extent (text_item scopes.outer.types)
    (texts_many scopes spellings n word arguments) (writes_by extent) (item_view spellings) file x known still in
    let items = c.in_ok-items.items in
    let gathered = subst (λ (before : List SpecItem). Gathered (item_view spellings) before word head
    (items_behind scopes spellings (n + 1) (item_written scopes.outer.types) arguments.items.more) items)
    (ap (map (item_view spellings)) (c.in_ok-push.ensures.ok ∙ ap (λ (front : List CodeItem). front ++ x ∷ [])
    c.new-items.ensures)) (c.in_ok-items.ensures clear (n + 1) word head start) in
    let made : Statement = writes_by extent (slot file) (map (item_view spellings) items) in
    made_settles words whole (statement_view spellings) made c.writes.result
    (subst (λ (found : Place). Makes (statement_view spellings) (writes_by extent found (map (item_view spellings)
    items)) c.writes.result) meant.2 c.writes.ensures)
    (output_means scopes spellings n word arguments extent unnamed file is on x known still items gathered)
