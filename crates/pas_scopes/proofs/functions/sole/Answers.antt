use Rattle.std.proofs.Common.{◌+◌}
use Rattle.std.proofs.lemmas.Result.{err_from_is_err_and}
use Rattle.pas_scopes.specs.ScopeViews.{scopes_view}
use Rattle.pas_scopes.specs.Arguments.{sole_part}
use Rattle.pas_scopes.proofs.AnswerLemmas.{answers_stop}
use Rattle.pas_scopes.proofs.ExprCalls.{sole_none, sole_unsettled, sole_second, call_words, givens}
use Rattle.pas_scopes.proofs.functions.sole.Goals as goal

pub returns-in-None : goal.returns-in-None
returns-in-None g c lead deep opened name demand view h =
    sole_none (scopes_view c.args.scopes.now) c.args.scopes.now.spellings.now lead deep name opened c.args.closed
    c.args.arguments.now demand view c.args.found h c.closed.result c.in-None.ensures.value c.closed.ensures

pub returns-in_err-before-in-Some : goal.returns-in_err-before-in-Some
returns-in_err-before-in-Some g c lead deep opened name demand view h =
    let scopes = scopes_view c.args.scopes.now in
    let spellings = c.args.scopes.now.spellings.now in
    let why = c.in_err-before-in-Some.field-0.0 in
    answers_stop (call_words scopes spellings lead deep name opened c.args.closed c.args.arguments.now)
    (sole_part demand (givens scopes spellings lead deep name opened c.args.closed c.args.arguments.now)) view why
    c.from_residual.result (err_from_is_err_and _ c.from_residual.ensures.1)
    (sole_unsettled scopes spellings lead deep name opened c.args.closed c.args.arguments.now demand view c.args.found h
    c.in-Some.more.now c.in-Some.ensures.value why c.in_err-before-in-Some.ensures)

pub returns-in_ok-before-in-Some : goal.returns-in_ok-before-in-Some
returns-in_ok-before-in-Some g c lead deep opened name demand view h =
    sole_second (scopes_view c.args.scopes.now) c.args.scopes.now.spellings.now lead deep name opened c.args.closed
    c.args.arguments.now demand view c.args.found h c.in-Some.more.now c.in-Some.ensures.value
    c.in_ok-before-in-Some.field-0 c.one_too_many.result c.in_ok-before-in-Some.ensures
    (c.one_too_many.ensures.fails (lead + 1) deep)
