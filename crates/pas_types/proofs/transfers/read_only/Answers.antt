use Rattle.std.proofs.Common.{◌≡◌, sym, ap, subst, ◌∙◌, [], ◌∷◌, Some}
use Rattle.std.proofs.lemmas.Result.{err_from_is_err_and}
use Rattle.pas_typed.specs.Types.{Table}
use Rattle.pas_typed.specs.TypeViews.{table_view}
use Rattle.pas_typed.specs.TypedViews.{value_view, place_view}
use Rattle.pas_scopes.specs.declared.stop.Stop.{Stop}
use Rattle.pas_rules.specs.Calls.{read_demand}
use Rattle.pas_scopes.specs.Answers.{end_in, FailsBy}
use Rattle.pas_scopes.specs.Stopping.{wrong_in}
use Rattle.pas_types.specs.inner.Transfers.{place_by, wrongs_in}
use Rattle.pas_scopes.proofs.AnswerLemmas.{stands_stop}
use Rattle.pas_types.proofs.TransferLemmas.{place_refused, place_fails}
use Rattle.pas_types.proofs.transfers.read_only.Goals as goal

pub returns-in-Some : goal.returns-in-Some
returns-in-Some c words part place at some h =
    let table : Table = table_view c.args.scopes.now.spellings.now c.args.scopes.now.types in
    let demand = read_demand table (Some place) in
    let value = value_view c.args.found.value in
    let fine : demand value ≡ wrong_in c.in-Some.wrong ∷ [] =
    c.unread.ensures place at some ∙ ap wrongs_in c.in-Some.is in
    subst (λ (why : Stop). FailsBy words (place_by demand part).marks why) (sym c.refuses.ensures)
    (place_refused words demand part value (end_in c.args.found.end) h (wrong_in c.in-Some.wrong) fine)

pub returns-in_err-stands-in-None : goal.returns-in_err-stands-in-None
returns-in_err-stands-in-None c words part place at some h =
    let table : Table = table_view c.args.scopes.now.spellings.now c.args.scopes.now.types in
    let demand = read_demand table (Some place) in
    let value = value_view c.args.found.value in
    let fine : demand value ≡ [] = c.unread.ensures place at some ∙ ap wrongs_in c.in-None.is in
    let why = c.in_err-stands-in-None.field-0.0 in
    stands_stop words (place_by demand part) place_view why c.from_residual.result
    (err_from_is_err_and _ c.from_residual.ensures.1)
    (place_fails words demand part value (end_in c.args.found.end) h why fine c.in_err-stands-in-None.ensures)
