use Rattle.std.proofs.Common.{Ok, Err}
use Rattle.std.proofs.lemmas.Result.{err_from_is_err_and}
use Rattle.pas_scopes.specs.declared.scopes.Scopes.{Scopes as CodeScopes}
use Rattle.pas_rules.specs.Routines.{HeadingParts, first_heading}
use Rattle.pas_scopes.specs.ScopeViews.{outer_view}
use Rattle.pas_types.specs.inner.RoutineAnswers.{parts_in, HeadsBy}
use Rattle.pas_rules.specs.HeadingWords.{parts_words}
use Rattle.pas_scopes.proofs.LocalRowLemmas.{stopped}
use Rattle.pas_types.proofs.FirstHeadingLemmas.{name_stops, rest_stops, heading_at, first_done}
use Rattle.pas_types.proofs.headings.first_heading.Goals as goal

pub returns-in_err-number-clause-heads : goal.returns-in_err-number-clause-heads
returns-in_err-number-clause-heads c word h =
    let old : CodeScopes = c.args.scopes.now in
    let head = c.args.head in
    let parts : HeadingParts = parts_in old.spellings.now head in
    stopped (HeadsBy (parts_words word parts head.end) (first_heading (outer_view old) parts) old)
    c.in_err-number.field-0.0 c.from_residual.result (err_from_is_err_and _ c.from_residual.ensures.1)
    (name_stops (outer_view old) word parts head.end c.in_err-number.field-0.0 c.in_err-number.ensures)

pub returns-in_err-found-clause-heads : goal.returns-in_err-found-clause-heads
returns-in_err-found-clause-heads c word h =
    let old : CodeScopes = c.args.scopes.now in
    let head = c.args.head in
    let parts : HeadingParts = parts_in old.spellings.now head in
    let now : CodeScopes = c.behind_name.new.scopes in
    stopped (HeadsBy (parts_words word parts head.end) (first_heading (outer_view old) parts) now)
    c.in_err-found.field-0.0 c.from_residual-in_err-found.result
    (err_from_is_err_and _ c.from_residual-in_err-found.ensures.1)
    (rest_stops (outer_view old) word parts head.end c.in_ok-number.ensures.0 c.in_err-found.field-0.0
    (heading_at old head now (Err c.in_err-found.field-0.0) c.in_ok-number.number c.new.result c.new.ensures
    c.in_ok-number.ensures.1 h c.in_err-found.ensures.passes))

pub returns-clause-heads : goal.returns-clause-heads
returns-clause-heads c word h =
    let old : CodeScopes = c.args.scopes.now in
    let head = c.args.head in
    let now : CodeScopes = c.behind_name.new.scopes in
    let new : CodeScopes = c.add_routine.new.scopes in
    first_done old now new head c.in_ok-number.number c.in_ok-found.found c.told_result.result h
    c.in_ok-number.ensures.1 c.in_ok-number.ensures.0 c.told_result.ensures
    (heading_at old head now (Ok c.in_ok-found.found) c.in_ok-number.number c.new.result c.new.ensures
    c.in_ok-number.ensures.1 h c.in_ok-found.ensures.passes) c.in_ok-found.ensures.kept
    c.in_ok-add_routine.ensures.kept c.in_ok-add_routine.ensures.adds word
