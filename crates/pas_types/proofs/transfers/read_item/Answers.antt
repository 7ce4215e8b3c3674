use Rattle.std.proofs.Common.{sym, subst, Some, List}
use Rattle.std.proofs.lemmas.Result.{err_from_is_err_and}
use Rattle.pas_syntax.specs.ProgramViews.{argument_in}
use Rattle.pas_syntax.specs.Words.{Word, expr_words}
use Rattle.pas_typed.specs.Typed.{Value, Place}
use Rattle.pas_typed.specs.TypedViews.{place_view}
use Rattle.pas_rules.specs.Marks.{Judged, checked}
use Rattle.pas_rules.specs.Calls.{read_demand}
use Rattle.pas_rules.specs.Expressions.{value_of}
use Rattle.pas_scopes.specs.ScopeViews.{scopes_view}
use Rattle.pas_scopes.specs.Answers.{end_in, StandsAs, Stands}
use Rattle.pas_types.specs.inner.Transfers.{place_by}
use Rattle.pas_scopes.proofs.AnswerLemmas.{stands_stop, stops_fails, checked_stops_by}
use Rattle.pas_types.proofs.TransferLemmas.{widened, widened_words, widened_fails, width_fails, width_stands, read_seen}
use Rattle.pas_types.proofs.transfers.read_item.Goals as goal

pub returns-in_err-found : goal.returns-in_err-found
returns-in_err-found c clear n place at some =
    let scopes = scopes_view c.args.scopes.now in
    let table = scopes.outer.types in
    let argument = argument_in c.args.scopes.now.spellings.now c.args.argument.now in
    let words : List Word = expr_words n 0 argument.value in
    let demand = read_demand table (Some place) in
    let value : Judged Value = value_of scopes argument.value in
    let part : Judged Place = place_by demand value in
    let why = c.in_err-found.field-0.0 in
    subst (λ (item : Judged Place). Stands (widened_words scopes n words part argument.width) item place_view
    c.from_residual.result) (sym (read_seen scopes table (Some place) argument))
    (stands_stop (widened_words scopes n words part argument.width) (widened scopes n words part argument.width)
    place_view why c.from_residual.result (err_from_is_err_and _ c.from_residual.ensures.1)
    (widened_fails scopes n words part argument.width why
    (stops_fails words (checked demand value) why (checked_stops_by words demand value why
    (c.in_err-found.ensures clear n 0)))))

pub returns-in_err-found-2 : goal.returns-in_err-found-2
returns-in_err-found-2 c clear n place at some =
    let scopes = scopes_view c.args.scopes.now in
    let table = scopes.outer.types in
    let argument = argument_in c.args.scopes.now.spellings.now c.args.argument.now in
    let words : List Word = expr_words n 0 argument.value in
    let demand = read_demand table (Some place) in
    let value : Judged Value = value_of scopes argument.value in
    let part : Judged Place = place_by demand value in
    let why = c.in_err-found-2.field-0.0 in
    subst (λ (item : Judged Place). Stands (widened_words scopes n words part argument.width) item place_view
    c.from_residual-in_err-found-2.result) (sym (read_seen scopes table (Some place) argument))
    (stands_stop (widened_words scopes n words part argument.width) (widened scopes n words part argument.width)
    place_view why c.from_residual-in_err-found-2.result
    (err_from_is_err_and _ c.from_residual-in_err-found-2.ensures.1)
    (widened_fails scopes n words part argument.width why
    (c.in_err-found-2.ensures words value place at some (c.in_ok-found.ensures clear n 0))))

pub returns-in_err-no_width : goal.returns-in_err-no_width
returns-in_err-no_width c clear n place at some =
    let scopes = scopes_view c.args.scopes.now in
    let table = scopes.outer.types in
    let argument = argument_in c.args.scopes.now.spellings.now c.args.argument.now in
    let words : List Word = expr_words n 0 argument.value in
    let demand = read_demand table (Some place) in
    let value : Judged Value = value_of scopes argument.value in
    let part : Judged Place = place_by demand value in
    let found = c.in_ok-found-2.found in
    let why = c.in_err-no_width.field-0.0 in
    subst (λ (item : Judged Place). Stands (widened_words scopes n words part argument.width) item place_view
    c.from_residual-in_err-no_width.result) (sym (read_seen scopes table (Some place) argument))
    (stands_stop (widened_words scopes n words part argument.width) (widened scopes n words part argument.width)
    place_view why c.from_residual-in_err-no_width.result
    (err_from_is_err_and _ c.from_residual-in_err-no_width.ensures.1)
    (width_fails scopes n words part argument.width (place_view found.value) (end_in found.end) why
    (c.in_ok-found-2.ensures words value place at some (c.in_ok-found.ensures clear n 0))
    (c.in_err-no_width.ensures c.args.scopes.now.spellings.now)))

pub returns : goal.returns
returns c clear n place at some =
    let scopes = scopes_view c.args.scopes.now in
    let table = scopes.outer.types in
    let argument = argument_in c.args.scopes.now.spellings.now c.args.argument.now in
    let words : List Word = expr_words n 0 argument.value in
    let demand = read_demand table (Some place) in
    let value : Judged Value = value_of scopes argument.value in
    let part : Judged Place = place_by demand value in
    let found = c.in_ok-found-2.found in
    subst (λ (item : Judged Place). StandsAs (widened_words scopes n words part argument.width) item
    (place_view found.value) (end_in found.end)) (sym (read_seen scopes table (Some place) argument))
    (width_stands scopes n words part argument.width (place_view found.value) (end_in found.end)
    (c.in_ok-found-2.ensures words value place at some (c.in_ok-found.ensures clear n 0))
    (c.in_ok-no_width.ensures c.args.scopes.now.spellings.now))
