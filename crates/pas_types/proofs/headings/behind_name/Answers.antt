use Rattle.std.proofs.Common.{sym, ◌∙◌, ℕ, List, Option, Ok, Err}
use Rattle.std.specs.Option.{option_copied}
use Rattle.std.proofs.lemmas.Result.{err_from_is_err_and}
use Rattle.pas_syntax.specs.Tree.{Behind, TypeName, Parameters}
use Rattle.pas_syntax.specs.Views.{behind_in, if_there}
use Rattle.pas_syntax.specs.ProgramViews.{type_name_in, parameters_in}
use Rattle.pas_scopes.specs.declared.scopes.Scopes.{Scopes as CodeScopes}
use Rattle.pas_rules.specs.Routines.{formals_of, result_part, missing_result, Formal, Sort}
use Rattle.pas_scopes.specs.ScopeViews.{outer_view, inner_view, made_view}
use Rattle.pas_types.specs.inner.RoutineAnswers.{sort_view, parts_in, PassesHeading}
use Rattle.pas_rules.specs.HeadingWords.{rest_words}
use Rattle.pas_scopes.proofs.LocalRowLemmas.{stopped}
use Rattle.pas_types.proofs.HeadingLemmas.{rest_formals_fail, result_is, rest_result_fails, rest_missing_fails}
use Rattle.pas_types.proofs.HeadingLemmas.{rest_passes}
use Rattle.pas_types.proofs.headings.behind_name.Goals as goal

pub returns-in_err-formals_of-clause-passes : goal.returns-in_err-formals_of-clause-passes
returns-in_err-formals_of-clause-passes c inner h =
    let old : CodeScopes = c.args.scopes.now in
    let now : CodeScopes = c.formals_of.new.scopes in
    let spellings = old.spellings.now in
    let head = c.args.head in
    let parameters : Option Parameters = if_there (parameters_in spellings) (option_copied head.parameters) in
    let given : List ℕ → Option (Behind TypeName) =
    λ seen. if_there (behind_in (type_name_in seen)) head.result in
    let sort : Sort = sort_view head.sort in
    let formals : Formal = formals_of (outer_view old) (inner_view spellings inner) parameters in
    stopped (PassesHeading (rest_words (parts_in spellings head) head.end) formals (given spellings)
    (result_part (outer_view old) formals.inner (given spellings)) (missing_result sort (given spellings))
    (made_view old) now) c.in_err-formals_of.field-0.0 c.from_residual.result
    (err_from_is_err_and _ c.from_residual.ensures.1)
    (rest_formals_fail old now inner sort parameters given head.end c.in_err-formals_of.ensures.kept
    c.in_err-formals_of.field-0.0 (c.in_err-formals_of.ensures.passes inner h))

pub returns-in_err-result-clause-passes : goal.returns-in_err-result-clause-passes
returns-in_err-result-clause-passes c inner h =
    let old : CodeScopes = c.args.scopes.now in
    let now : CodeScopes = c.formals_of.new.scopes in
    let spellings = old.spellings.now in
    let head = c.args.head in
    let parameters : Option Parameters = if_there (parameters_in spellings) (option_copied head.parameters) in
    let given : List ℕ → Option (Behind TypeName) =
    λ seen. if_there (behind_in (type_name_in seen)) head.result in
    let sort : Sort = sort_view head.sort in
    let formals : Formal = formals_of (outer_view old) (inner_view spellings inner) parameters in
    let passed = c.in_ok-formals_of.ensures.passes inner h in
    stopped (PassesHeading (rest_words (parts_in spellings head) head.end) formals (given spellings)
    (result_part (outer_view old) formals.inner (given spellings)) (missing_result sort (given spellings))
    (made_view old) now) c.in_err-result.field-0.0 c.from_residual-in_err-result.result
    (err_from_is_err_and _ c.from_residual-in_err-result.ensures.1)
    (rest_result_fails old now inner sort parameters given head.end c.in_ok-formals_of.ensures.kept passed
    c.in_err-result.field-0.0
    (result_is old now inner sort parameters given head.end c.in_ok-formals_of.ensures.kept passed
    (Err c.in_err-result.field-0.0) c.in_err-result.ensures))

pub returns-in_err-demand-clause-passes : goal.returns-in_err-demand-clause-passes
returns-in_err-demand-clause-passes c inner h =
    let old : CodeScopes = c.args.scopes.now in
    let now : CodeScopes = c.formals_of.new.scopes in
    let spellings = old.spellings.now in
    let head = c.args.head in
    let parameters : Option Parameters = if_there (parameters_in spellings) (option_copied head.parameters) in
    let given : List ℕ → Option (Behind TypeName) =
    λ seen. if_there (behind_in (type_name_in seen)) head.result in
    let sort : Sort = sort_view head.sort in
    let formals : Formal = formals_of (outer_view old) (inner_view spellings inner) parameters in
    let passed = c.in_ok-formals_of.ensures.passes inner h in
    let found = result_is old now inner sort parameters given head.end c.in_ok-formals_of.ensures.kept passed
    (Ok c.in_ok-result.result) c.in_ok-result.ensures in
    stopped (PassesHeading (rest_words (parts_in spellings head) head.end) formals (given spellings)
    (result_part (outer_view old) formals.inner (given spellings)) (missing_result sort (given spellings))
    (made_view old) now) c.in_err-demand.field-0.0 c.from_residual-in_err-demand.result
    (err_from_is_err_and _ c.from_residual-in_err-demand.ensures.1)
    (rest_missing_fails old now inner sort parameters given head.end c.in_ok-formals_of.ensures.kept passed
    c.in_ok-result.result found.0 c.tells_result.result (c.tells_result.ensures spellings) c.in_err-demand.field-0.0
    (sym c.in_err-demand.was ∙ c.demand.ensures))

pub returns-clause-passes : goal.returns-clause-passes
returns-clause-passes c inner h =
    let old : CodeScopes = c.args.scopes.now in
    let now : CodeScopes = c.formals_of.new.scopes in
    let spellings = old.spellings.now in
    let head = c.args.head in
    let parameters : Option Parameters = if_there (parameters_in spellings) (option_copied head.parameters) in
    let given : List ℕ → Option (Behind TypeName) =
    λ seen. if_there (behind_in (type_name_in seen)) head.result in
    let sort : Sort = sort_view head.sort in
    let passed = c.in_ok-formals_of.ensures.passes inner h in
    let found = result_is old now inner sort parameters given head.end c.in_ok-formals_of.ensures.kept passed
    (Ok c.in_ok-result.result) c.in_ok-result.ensures in
    rest_passes old now inner sort parameters given head.end c.in_ok-formals_of.ensures.kept passed
    c.in_ok-result.result found.0 c.tells_result.result (c.tells_result.ensures spellings)
    (sym c.in_ok-demand.was ∙ c.demand.ensures) found.1 found.2
