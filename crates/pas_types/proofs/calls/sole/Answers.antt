use Rattle.std.proofs.Common.{sym, subst, Err}
use Rattle.wb_base.specs.declared.faults.TheConstants.{WRONG_TYPE}
use Rattle.pas_tokens.specs.Cutting.{wrong}
use Rattle.pas_scopes.specs.Stopping.{shown_in}
use Rattle.pas_scopes.specs.declared.stop.Stop.{Stop}
use Rattle.pas_scopes.specs.ScopeViews.{scopes_view}
use Rattle.pas_scopes.specs.Answers.{end_in, Settles}
use Rattle.pas_scopes.specs.Arguments.{sole_part}
use Rattle.pas_scopes.proofs.SettleLemmas.{settles_why}
use Rattle.pas_types.proofs.ActualLemmas.{statement_words, actual_givens}
use Rattle.pas_types.proofs.SoleActuals.{widened, unwidened}
use Rattle.pas_types.proofs.calls.sole.Goals as goal

pub returns-in-Some : goal.returns-in-Some
returns-in-Some g c n name demand view h =
    let scopes = scopes_view c.args.scopes.now in
    let spellings = c.args.scopes.now.spellings.now in
    let words = statement_words scopes spellings n name c.args.arguments.now in
    let part = sole_part demand (actual_givens scopes spellings n name c.args.arguments.now) in
    subst (λ (why : Stop). Settles words part view (Err why)) (sym c.fault.ensures)
    (settles_why words part view (shown_in c.in-Some.width.line (wrong WRONG_TYPE))
    (widened scopes spellings n name c.args.arguments.now demand (view c.args.found.value) (end_in c.args.found.end) h
    c.in-Some.width c.in-Some.is))

pub returns-in-None : goal.returns-in-None
returns-in-None g c n name demand view h =
    c.alone.ensures n name demand view
    (unwidened (scopes_view c.args.scopes.now) c.args.scopes.now.spellings.now n name c.args.arguments.now demand
    (view c.args.found.value) (end_in c.args.found.end) h c.in-None.is)
