use Rattle.std.proofs.Common.{subst, sym, refl, [], ◌∷◌, map, Some}
use Rattle.wb_base.specs.declared.faults.TheConstants.{WRONG_TYPE}
use Rattle.pas_tokens.specs.Cutting.{wrong}
use Rattle.pas_syntax.specs.ProgramViews.{arguments_in}
use Rattle.pas_syntax.specs.Tree.{procedure_call}
use Rattle.pas_syntax.specs.Views.{ident_in}
use Rattle.pas_syntax.specs.Words.{plain_words}
use Rattle.pas_typed.specs.TypedViews.{statement_view}
use Rattle.pas_scopes.specs.declared.names.Entity.{Entity as CodeEntity}
use Rattle.pas_rules.specs.Expressions.{not_called}
use Rattle.pas_scopes.specs.NameViews.{entity_view}
use Rattle.pas_scopes.specs.ScopeViews.{scopes_view}
use Rattle.pas_rules.specs.Calls.{actuals_of, without_width, call_by}
use Rattle.pas_scopes.specs.Answers.{ShowsBy, Settles}
use Rattle.pas_types.proofs.ProcedureCalls.{refused_statement, other_statement}
use Rattle.pas_types.proofs.calls.with_as.Goals as goal

pub returns-in-Routine : goal.returns-in-Routine
returns-in-Routine c clear is_clear n =
    let scopes = scopes_view c.args.scopes.now in
    let spellings = c.args.scopes.now.spellings.now in
    let name = ident_in spellings c.args.ident in
    let arguments = arguments_in spellings c.args.arguments.now in
    subst (λ (entity : CodeEntity). Settles (plain_words n (procedure_call name (Some arguments)))
    (call_by scopes (actuals_of scopes arguments.items) (Some (entity_view entity))) (statement_view spellings)
    c.routine_with.result) (sym c.in-Routine.is) (c.routine_with.ensures clear n)

pub returns-in-FileStep : goal.returns-in-FileStep
returns-in-FileStep c clear is_clear n =
    let scopes = scopes_view c.args.scopes.now in
    let spellings = c.args.scopes.now.spellings.now in
    let name = ident_in spellings c.args.ident in
    let arguments = arguments_in spellings c.args.arguments.now in
    subst (λ (entity : CodeEntity). Settles (plain_words n (procedure_call name (Some arguments)))
    (call_by scopes (actuals_of scopes arguments.items) (Some (entity_view entity))) (statement_view spellings)
    c.step_with.result) (sym c.in-FileStep.is) (c.step_with.ensures clear n name)

pub returns-in-Procedure : goal.returns-in-Procedure
returns-in-Procedure c clear is_clear n =
    let scopes = scopes_view c.args.scopes.now in
    let spellings = c.args.scopes.now.spellings.now in
    let name = ident_in spellings c.args.ident in
    let arguments = arguments_in spellings c.args.arguments.now in
    subst (λ (entity : CodeEntity). Settles (plain_words n (procedure_call name (Some arguments)))
    (call_by scopes (actuals_of scopes arguments.items) (Some (entity_view entity))) (statement_view spellings)
    c.procedure_with.result) (sym c.in-Procedure.is) (c.procedure_with.ensures clear n name refl)

pub returns-in_default : goal.returns-in_default
returns-in_default c clear is_clear n =
    let scopes = scopes_view c.args.scopes.now in
    let spellings = c.args.scopes.now.spellings.now in
    let name = ident_in spellings c.args.ident in
    let arguments = arguments_in spellings c.args.arguments.now in
    let actuals = actuals_of scopes arguments.items in
    let words = plain_words n (procedure_call name (Some arguments)) in
    subst (λ part. ShowsBy words part.marks c.fault.result)
    (sym (other_statement scopes actuals c.args.entity c.in_default.not-Routine c.in_default.not-FileStep
    c.in_default.not-Procedure is_clear))
    (subst (ShowsBy words (not_called (wrong WRONG_TYPE ∷ []) (map without_width actuals))) (sym c.fault.ensures)
    (refused_statement scopes n name arguments (wrong WRONG_TYPE)))
