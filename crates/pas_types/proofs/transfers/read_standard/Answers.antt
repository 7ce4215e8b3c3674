use Rattle.std.proofs.Common.{◌≡◌, refl, sym, ap, subst, ◌∙◌, ◌+◌, false, List, [], ◌∷◌, ◌++◌, map, Option}
use Rattle.std.proofs.Common.{Some, None}
use Rattle.std.specs.Prelude.{codes}
use Rattle.std.proofs.lemmas.Result.{err_from_is_err_and}
use Rattle.pas_syntax.specs.Words.{Word}
use Rattle.pas_typed.specs.declared.typed.Place as code_place
use Rattle.pas_typed.specs.Types.{text}
use Rattle.pas_typed.specs.Typed.{Place, Slot, slot}
use Rattle.pas_typed.specs.TypeOf.{type_of_place}
use Rattle.pas_typed.specs.TypedViews.{place_view, statement_view}
use Rattle.pas_rules.specs.Marks.{Judged}
use Rattle.pas_rules.specs.Calls.{transfer_by, on_standard, input, read_item, reads_by}
use Rattle.pas_scopes.specs.ScopeViews.{scopes_view}
use Rattle.pas_scopes.specs.Answers.{Ending, end_in, Settles, IsQuiet, ShowsBy}
use Rattle.pas_scopes.specs.inner.Listed.{Gathered, items_behind}
use Rattle.pas_types.specs.inner.Transfers.{extent_view, Makes}
use Rattle.pas_scopes.proofs.SettleLemmas.{settles_stop}
use Rattle.pas_scopes.proofs.ArgumentLemmas.{stands_quiet}
use Rattle.pas_scopes.proofs.CallAnswers.{settled_is, unsettled_is}
use Rattle.pas_types.proofs.TransferItems.{read_many}
use Rattle.pas_types.proofs.TransferParts.{call_words, first_actual, others, first_words, carried, standard_first}
use Rattle.pas_types.proofs.TransferParts.{standard_fails, standard_short, standard_within, standard_means}
use Rattle.pas_types.proofs.TransferParts.{standard_start, item_standard, made_settles, short_shows, none_shows}
use Rattle.pas_types.proofs.TransferParts.{no_file, some_file, standard_text, read_call_many}
use Rattle.pas_types.proofs.transfers.read_standard.Goals as goal

pub returns-in_err-file : goal.returns-in_err-file
returns-in_err-file c clear n word at_line unnamed =
    let scopes = scopes_view c.args.scopes.now in
    let spellings = c.args.scopes.now.spellings.now in
    let table = scopes.outer.types in
    let arguments = c.args.arguments.now in
    let extent = extent_view c.args.extent in
    let words = call_words scopes spellings n word arguments in
    let actuals = first_actual scopes spellings n word arguments ∷ others scopes spellings n word arguments in
    let whole = λ (found : Option Slot). carried extent (read_item table) (reads_by extent)
    (on_standard found actuals) in
    let at_named = λ (found : Option Place). carried extent (read_item table) (reads_by extent)
    (transfer_by extent (input scopes) actuals found) in
    let meant = no_file _ c.args.line c.in_err-file.field-0.0 c.in_err-file.ensures in
    let is : input scopes ≡ None = sym c.standard_file.ensures ∙ meant.0 in
    let why = c.in_err-file.field-0.0 in
    subst (λ (found : Option Place). Settles words (at_named found) (statement_view spellings)
    c.from_residual.result) (sym unnamed)
    (subst (λ (found : Option Slot). Settles words (whole found) (statement_view spellings)
    c.from_residual.result) (sym is)
    (settles_stop words (whole None) (statement_view spellings) why c.from_residual.result
    (err_from_is_err_and _ c.from_residual.ensures.1)
    (subst (ShowsBy words (whole None).marks) (sym meant.1)
    (none_shows scopes spellings n word arguments extent (read_item table) (read_many scopes spellings (n + 1))
    (reads_by extent) place_view c.args.line at_line
    (read_call_many scopes spellings n word arguments extent is unnamed)))))

pub returns-in_err-found : goal.returns-in_err-found
returns-in_err-found c clear n word at_line unnamed =
    let scopes = scopes_view c.args.scopes.now in
    let spellings = c.args.scopes.now.spellings.now in
    let table = scopes.outer.types in
    let arguments = c.args.arguments.now in
    let extent = extent_view c.args.extent in
    let words = call_words scopes spellings n word arguments in
    let actuals = first_actual scopes spellings n word arguments ∷ others scopes spellings n word arguments in
    let whole = λ (found : Option Slot). carried extent (read_item table) (reads_by extent)
    (on_standard found actuals) in
    let at_named = λ (found : Option Place). carried extent (read_item table) (reads_by extent)
    (transfer_by extent (input scopes) actuals found) in
    let meant = some_file _ c.args.line c.in_ok-file.file c.in_ok-file.ensures in
    let file : Slot = meant.0 in
    let is : input scopes ≡ Some file = sym c.standard_file.ensures ∙ meant.1 in
    let place : Place = slot file in
    let at_text : type_of_place place ≡ text = standard_text scopes (codes "input") file is in
    let part : Judged Place = standard_first scopes spellings n word arguments extent (read_item table)
    (read_many scopes spellings (n + 1)) (reads_by extent) place_view file in
    let first : List Word = first_words scopes spellings n word arguments in
    let why = c.in_err-found.field-0.0 in
    subst (λ (found : Option Place). Settles words (at_named found) (statement_view spellings)
    c.from_residual-in_err-found.result) (sym unnamed)
    (subst (λ (found : Option Slot). Settles words (whole found) (statement_view spellings)
    c.from_residual-in_err-found.result) (sym is)
    (settles_stop words (whole (Some file)) (statement_view spellings) why c.from_residual-in_err-found.result
    (err_from_is_err_and _ c.from_residual-in_err-found.ensures.1)
    (standard_fails scopes spellings n word arguments extent (read_item table) (read_many scopes spellings (n + 1))
    (reads_by extent) place_view file why (c.in_err-found.ensures clear (n + 1) place at_text refl))))

pub returns-in_err-before : goal.returns-in_err-before
returns-in_err-before c clear n word at_line unnamed =
    let scopes = scopes_view c.args.scopes.now in
    let spellings = c.args.scopes.now.spellings.now in
    let table = scopes.outer.types in
    let arguments = c.args.arguments.now in
    let extent = extent_view c.args.extent in
    let words = call_words scopes spellings n word arguments in
    let actuals = first_actual scopes spellings n word arguments ∷ others scopes spellings n word arguments in
    let whole = λ (found : Option Slot). carried extent (read_item table) (reads_by extent)
    (on_standard found actuals) in
    let at_named = λ (found : Option Place). carried extent (read_item table) (reads_by extent)
    (transfer_by extent (input scopes) actuals found) in
    let meant = some_file _ c.args.line c.in_ok-file.file c.in_ok-file.ensures in
    let file : Slot = meant.0 in
    let is : input scopes ≡ Some file = sym c.standard_file.ensures ∙ meant.1 in
    let place : Place = slot file in
    let at_text : type_of_place place ≡ text = standard_text scopes (codes "input") file is in
    let part : Judged Place = standard_first scopes spellings n word arguments extent (read_item table)
    (read_many scopes spellings (n + 1)) (reads_by extent) place_view file in
    let first : List Word = first_words scopes spellings n word arguments in
    let found = c.in_ok-found.found in
    let end : Ending = end_in found.end in
    let stands = c.in_ok-found.ensures clear (n + 1) place at_text refl in
    let why = c.in_err-before.field-0.0 in
    let short = unsettled_is end.line c.line_behind.result end.refusal end.is_short found.value why stands.lawful
    c.in_err-before.ensures in
    subst (λ (found : Option Place). Settles words (at_named found) (statement_view spellings)
    c.from_residual-in_err-before.result) (sym unnamed)
    (subst (λ (found : Option Slot). Settles words (whole found) (statement_view spellings)
    c.from_residual-in_err-before.result) (sym is)
    (settles_stop words (whole (Some file)) (statement_view spellings) why c.from_residual-in_err-before.result
    (err_from_is_err_and _ c.from_residual-in_err-before.ensures.1)
    (short_shows words (whole (Some file)).marks c.line_behind.result arguments.closed arguments.items.more why short.1
    c.line_behind.ensures
    (standard_short scopes spellings n word arguments extent (read_item table) (read_many scopes spellings (n + 1))
    (reads_by extent) place_view file
    (subst (IsQuiet first part.marks) short.0
    (stands_quiet first part (place_view found.value) end stands))))))

pub returns-in_err-places : goal.returns-in_err-places
returns-in_err-places c clear n word at_line unnamed =
    let scopes = scopes_view c.args.scopes.now in
    let spellings = c.args.scopes.now.spellings.now in
    let table = scopes.outer.types in
    let arguments = c.args.arguments.now in
    let extent = extent_view c.args.extent in
    let words = call_words scopes spellings n word arguments in
    let actuals = first_actual scopes spellings n word arguments ∷ others scopes spellings n word arguments in
    let whole = λ (found : Option Slot). carried extent (read_item table) (reads_by extent)
    (on_standard found actuals) in
    let at_named = λ (found : Option Place). carried extent (read_item table) (reads_by extent)
    (transfer_by extent (input scopes) actuals found) in
    let meant = some_file _ c.args.line c.in_ok-file.file c.in_ok-file.ensures in
    let file : Slot = meant.0 in
    let is : input scopes ≡ Some file = sym c.standard_file.ensures ∙ meant.1 in
    let place : Place = slot file in
    let at_text : type_of_place place ≡ text = standard_text scopes (codes "input") file is in
    let part : Judged Place = standard_first scopes spellings n word arguments extent (read_item table)
    (read_many scopes spellings (n + 1)) (reads_by extent) place_view file in
    let first : List Word = first_words scopes spellings n word arguments in
    let found = c.in_ok-found.found in
    let end : Ending = end_in found.end in
    let stands = c.in_ok-found.ensures clear (n + 1) place at_text refl in
    let settled = settled_is end.line c.line_behind.result end.refusal end.is_short found.value c.in_ok-before.field-0
    stands.lawful c.in_ok-before.ensures in
    let x : code_place.Place = c.in_ok-before.field-0 in
    let known : part.value ≡ Some (place_view x) =
    stands.ends.known ∙ ap (λ (one : code_place.Place). Some (place_view one)) (sym settled.0) in
    let still : IsQuiet first part.marks false =
    subst (IsQuiet first part.marks) settled.1 (stands_quiet first part (place_view found.value) end stands) in
    let start = standard_start scopes spellings n word arguments extent (read_item table)
    (read_many scopes spellings (n + 1)) (reads_by extent) place_view file x known still in
    let head = item_standard scopes spellings n word arguments extent (read_item table)
    (read_many scopes spellings (n + 1)) (reads_by extent) place_view file in
    let why = c.in_err-places.field-0.0 in
    subst (λ (found : Option Place). Settles words (at_named found) (statement_view spellings)
    c.from_residual-in_err-places.result) (sym unnamed)
    (subst (λ (found : Option Slot). Settles words (whole found) (statement_view spellings)
    c.from_residual-in_err-places.result) (sym is)
    (settles_stop words (whole (Some file)) (statement_view spellings) why c.from_residual-in_err-places.result
    (err_from_is_err_and _ c.from_residual-in_err-places.ensures.1)
    (standard_within scopes spellings n word arguments extent (read_item table) (read_many scopes spellings (n + 1))
    (reads_by extent) place_view file x known still why
    (c.in_err-places.ensures clear (n + 1) place at_text refl word head start))))

pub returns : goal.returns
returns c clear n word at_line unnamed =
    let scopes = scopes_view c.args.scopes.now in
    let spellings = c.args.scopes.now.spellings.now in
    let table = scopes.outer.types in
    let arguments = c.args.arguments.now in
    let extent = extent_view c.args.extent in
    let words = call_words scopes spellings n word arguments in
    let actuals = first_actual scopes spellings n word arguments ∷ others scopes spellings n word arguments in
    let whole = λ (found : Option Slot). carried extent (read_item table) (reads_by extent)
    (on_standard found actuals) in
    let at_named = λ (found : Option Place). carried extent (read_item table) (reads_by extent)
    (transfer_by extent (input scopes) actuals found) in
    let meant = some_file _ c.args.line c.in_ok-file.file c.in_ok-file.ensures in
    let file : Slot = meant.0 in
    let is : input scopes ≡ Some file = sym c.standard_file.ensures ∙ meant.1 in
    let place : Place = slot file in
    let at_text : type_of_place place ≡ text = standard_text scopes (codes "input") file is in
    let part : Judged Place = standard_first scopes spellings n word arguments extent (read_item table)
    (read_many scopes spellings (n + 1)) (reads_by extent) place_view file in
    let first : List Word = first_words scopes spellings n word arguments in
    let found = c.in_ok-found.found in
    let end : Ending = end_in found.end in
    let stands = c.in_ok-found.ensures clear (n + 1) place at_text refl in
    let settled = settled_is end.line c.line_behind.result end.refusal end.is_short found.value c.in_ok-before.field-0
    stands.lawful c.in_ok-before.ensures in
    let x : code_place.Place = c.in_ok-before.field-0 in
    let known : part.value ≡ Some (place_view x) =
    stands.ends.known ∙ ap (λ (one : code_place.Place). Some (place_view one)) (sym settled.0) in
    let still : IsQuiet first part.marks false =
    subst (IsQuiet first part.marks) settled.1 (stands_quiet first part (place_view found.value) end stands) in
    let start = standard_start scopes spellings n word arguments extent (read_item table)
    (read_many scopes spellings (n + 1)) (reads_by extent) place_view file x known still in
    let head = item_standard scopes spellings n word arguments extent (read_item table)
    (read_many scopes spellings (n + 1)) (reads_by extent) place_view file in
    let places = c.in_ok-places.places in
    let gathered = subst (λ (before : List Place). Gathered place_view before word head
    (items_behind scopes spellings (n + 1) (read_item table (Some place)) arguments.items.more) places)
    (ap (map place_view) (c.in_ok-push.ensures.ok ∙ ap (λ (front : List code_place.Place). front ++ x ∷ [])
    c.new-places.ensures))
    (c.in_ok-places.ensures clear (n + 1) place at_text refl word head start) in
    subst (λ (found : Option Place). Settles words (at_named found) (statement_view spellings)
    c.reads.result) (sym unnamed)
    (subst (λ (found : Option Slot). Settles words (whole found) (statement_view spellings)
    c.reads.result) (sym is)
    (made_settles words (whole (Some file)) (statement_view spellings) (reads_by extent place (map place_view places))
    c.reads.result
    (subst (λ (found : Place). Makes (statement_view spellings) (reads_by extent found (map place_view places))
    c.reads.result) meant.2 c.reads.ensures)
    (standard_means scopes spellings n word arguments extent (read_item table) (read_many scopes spellings (n + 1))
    (reads_by extent) place_view file x known still places gathered)))
