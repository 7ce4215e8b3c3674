use Rattle.std.proofs.Common.{ap}
use Rattle.std.proofs.lemmas.Result.{err_from_is_err_and}
use Rattle.pas_scopes.specs.declared.scopes.Scopes.{Scopes as CodeScopes}
use Rattle.pas_scopes.specs.Answers.{Ending}
use Rattle.pas_types.specs.inner.RoutineAnswers.{PassesFormals}
use Rattle.pas_scopes.proofs.LocalRowLemmas.{stopped}
use Rattle.pas_types.proofs.FormalLemmas.{formal, words_there, parameter_names_fail, parameter_type_fails}
use Rattle.pas_types.proofs.FormalLemmas.{parameter_returns}
use Rattle.pas_types.proofs.headings.formal_of.Goals as goal

pub returns-in_err-new_names-clause-passes : goal.returns-in_err-new_names-clause-passes
returns-in_err-new_names-clause-passes c inner h =
    let old : CodeScopes = c.args.scopes.now in
    let parameter = c.args.parameter.now in
    stopped (PassesFormals (words_there old inner parameter) (formal old inner parameter) old)
    c.in_err-new_names.field-0.0 c.from_residual.result (err_from_is_err_and _ c.from_residual.ensures.1)
    (parameter_names_fail old inner parameter h c.new-before.result c.new-before.ensures c.in_err-new_names.field-0.0
    c.in_err-new_names.ensures.answer)

pub returns-in_err-found-clause-passes : goal.returns-in_err-found-clause-passes
returns-in_err-found-clause-passes c inner h =
    let old : CodeScopes = c.args.scopes.now in
    let parameter = c.args.parameter.now in
    stopped (PassesFormals (words_there old inner parameter) (formal old inner parameter) old)
    c.in_err-found.field-0.0 c.from_residual-in_err-found.result
    (err_from_is_err_and _ c.from_residual-in_err-found.ensures.1)
    (parameter_type_fails old inner parameter h c.new-before.result c.new-before.ensures
    c.in_ok-new_names.ensures.answer c.in_err-found.field-0.0 (c.in_err-found.ensures.answers 1))

pub returns-clause-passes : goal.returns-clause-passes
returns-clause-passes c inner h =
    let old : CodeScopes = c.args.scopes.now in
    parameter_returns old inner c.args.parameter.now h c.new-before.result c.new-before.ensures
    c.in_ok-new_names.ensures.answer c.in_ok-found.found c.mode_of.result c.mode_of.ensures
    (c.in_ok-found.ensures.answers 1) c.add_locals.new.scopes c.add_locals.ensures.kept c.add_locals.result
    c.add_locals.ensures.answers c.add_locals.ensures.inner
    (ap (λ (end : Ending). end.is_short) c.in_ok-found.ensures.lawful) c.in_ok-new_names.ensures.new
