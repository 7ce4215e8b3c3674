use Rattle.std.proofs.Common.{sym, subst, map, [], ◌∷◌}
use Rattle.std.proofs.lemmas.Result.{err_from_is_err_and}
use Rattle.wb_base.specs.declared.faults.TheConstants.{WRONG_TYPE}
use Rattle.pas_tokens.specs.Cutting.{wrong}
use Rattle.pas_syntax.specs.Views.{ident_in}
use Rattle.pas_syntax.specs.ProgramViews.{arguments_in}
use Rattle.pas_typed.specs.Typed.{calls}
use Rattle.pas_typed.specs.declared.typed.Statement.TheVariants as code_statement
use Rattle.pas_typed.specs.TypedViews.{variable_view, passed_views, statement_view}
use Rattle.pas_typed.proofs.StatementViews.{statement_view-Calls}
use Rattle.pas_rules.specs.Expressions.{not_called}
use Rattle.pas_scopes.specs.ScopeViews.{scopes_view}
use Rattle.pas_scopes.specs.Answers.{Means, ShowsBy, Settles}
use Rattle.pas_scopes.specs.Arguments.{passing_part}
use Rattle.pas_scopes.proofs.SettleLemmas.{settles_stop}
use Rattle.pas_types.proofs.ActualLemmas.{statement_words, actual_givens}
use Rattle.pas_types.proofs.ProcedureCalls.{called_procedure, called_function, called_part, refused_statement}
use Rattle.pas_types.proofs.ProcedureCalls.{made_means}
use Rattle.pas_types.proofs.calls.routine_with.Goals as goal

pub returns-in_err-passed-in-None-result : goal.returns-in_err-passed-in-None-result
returns-in_err-passed-in-None-result c clear n =
    let scopes = scopes_view c.args.scopes.now in
    let spellings = c.args.scopes.now.spellings.now in
    let name = ident_in spellings c.args.ident in
    let words = statement_words scopes spellings n name c.args.arguments.now in
    let givens = actual_givens scopes spellings n name c.args.arguments.now in
    let heading = c.in-Some.heading.now in
    let view = statement_view spellings in
    called_procedure scopes spellings givens c.args.number heading c.in-Some.ensures c.in-None-result.is
    (λ part. Settles words part view c.from_residual.result)
    (settles_stop words (called_part scopes spellings givens c.args.number heading c.in-Some.ensures) view
    c.in_err-passed-in-None-result.field-0.0 c.from_residual.result (err_from_is_err_and _ c.from_residual.ensures.1)
    (c.in_err-passed-in-None-result.ensures clear n name))

pub returns-in-Some-result : goal.returns-in-Some-result
returns-in-Some-result c clear n =
    let scopes = scopes_view c.args.scopes.now in
    let spellings = c.args.scopes.now.spellings.now in
    let name = ident_in spellings c.args.ident in
    let words = statement_words scopes spellings n name c.args.arguments.now in
    let givens = actual_givens scopes spellings n name c.args.arguments.now in
    called_function scopes spellings givens c.args.number c.in-Some.heading.now c.in-Some.ensures
    c.in-Some-result.field-0 c.in-Some-result.is (λ part. ShowsBy words part.marks c.fault.result)
    (subst (ShowsBy words (not_called (wrong WRONG_TYPE ∷ []) givens)) (sym c.fault.ensures)
    (refused_statement scopes n name (arguments_in spellings c.args.arguments.now) (wrong WRONG_TYPE)))

pub returns-in_ok-passed-in-None-result : goal.returns-in_ok-passed-in-None-result
returns-in_ok-passed-in-None-result c clear n =
    let scopes = scopes_view c.args.scopes.now in
    let spellings = c.args.scopes.now.spellings.now in
    let name = ident_in spellings c.args.ident in
    let words = statement_words scopes spellings n name c.args.arguments.now in
    let givens = actual_givens scopes spellings n name c.args.arguments.now in
    let heading = c.in-Some.heading.now in
    let passed = c.in_ok-passed-in-None-result.passed in
    let part = passing_part scopes.outer.types (map (variable_view spellings) heading.parameters) givens in
    called_procedure scopes spellings givens c.args.number heading c.in-Some.ensures c.in-None-result.is
    (λ part. Means words part (statement_view spellings (code_statement.Calls c.args.number passed)))
    (subst (Means words (called_part scopes spellings givens c.args.number heading c.in-Some.ensures))
    (sym (statement_view-Calls spellings c.args.number passed))
    (made_means words (calls c.args.number) part (passed_views passed)
    (c.in_ok-passed-in-None-result.ensures clear n name)))
