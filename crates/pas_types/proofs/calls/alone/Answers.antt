use Rattle.std.proofs.Common.{◌+◌}
use Rattle.std.proofs.lemmas.Result.{err_from_is_err_and}
use Rattle.pas_scopes.specs.ScopeViews.{scopes_view}
use Rattle.pas_scopes.specs.Arguments.{sole_part}
use Rattle.pas_scopes.proofs.SettleLemmas.{settles_stop, settles_why}
use Rattle.pas_types.proofs.ActualLemmas.{statement_words, actual_givens}
use Rattle.pas_types.proofs.SoleActuals.{alone_none, alone_unsettled, alone_second}
use Rattle.pas_types.proofs.calls.alone.Goals as goal

pub returns-in-None : goal.returns-in-None
returns-in-None g c n name demand view h =
    alone_none (scopes_view c.args.scopes.now) c.args.scopes.now.spellings.now n name c.args.arguments.now demand view
    c.args.found h c.before-in-None.result c.in-None.ensures.value c.before-in-None.ensures

pub returns-in_err-before-in-Some : goal.returns-in_err-before-in-Some
returns-in_err-before-in-Some g c n name demand view h =
    let scopes = scopes_view c.args.scopes.now in
    let spellings = c.args.scopes.now.spellings.now in
    let words = statement_words scopes spellings n name c.args.arguments.now in
    let part = sole_part demand (actual_givens scopes spellings n name c.args.arguments.now) in
    let why = c.in_err-before-in-Some.field-0.0 in
    settles_stop words part view why c.from_residual.result (err_from_is_err_and _ c.from_residual.ensures.1)
    (settles_why words part view why
    (alone_unsettled scopes spellings n name c.args.arguments.now demand view c.args.found h c.in-Some.more.now
    c.in-Some.ensures.value why c.in_err-before-in-Some.ensures))

pub returns-in_ok-before-in-Some : goal.returns-in_ok-before-in-Some
returns-in_ok-before-in-Some g c n name demand view h =
    let scopes = scopes_view c.args.scopes.now in
    let spellings = c.args.scopes.now.spellings.now in
    let words = statement_words scopes spellings n name c.args.arguments.now in
    let part = sole_part demand (actual_givens scopes spellings n name c.args.arguments.now) in
    settles_why words part view c.one_too_many.result
    (alone_second scopes spellings n name c.args.arguments.now demand view c.args.found h c.in-Some.more.now
    c.in-Some.ensures.value c.in_ok-before-in-Some.field-0 c.one_too_many.result c.in_ok-before-in-Some.ensures
    (c.one_too_many.ensures.fails (n + 1) 0))
