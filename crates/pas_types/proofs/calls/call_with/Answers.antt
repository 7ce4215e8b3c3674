use Rattle.std.proofs.Common.{◌∙◌, subst, sym, ap, [], ◌∷◌, map, Option, Some}
use Rattle.wb_base.specs.declared.faults.TheConstants.{UNKNOWN_NAME}
use Rattle.pas_tokens.specs.Cutting.{wrong}
use Rattle.pas_syntax.specs.ProgramViews.{arguments_in}
use Rattle.pas_syntax.specs.Tree.{procedure_call}
use Rattle.pas_syntax.specs.Views.{ident_in}
use Rattle.pas_syntax.specs.Words.{plain_words}
use Rattle.pas_typed.specs.TypedViews.{statement_view}
use Rattle.pas_rules.specs.Expressions.{not_called}
use Rattle.pas_rules.specs.Scopes.{Entity}
use Rattle.pas_scopes.specs.ScopeViews.{scopes_view}
use Rattle.pas_rules.specs.Calls.{actuals_of, without_width, call_by}
use Rattle.pas_scopes.specs.Answers.{ShowsBy, Settles}
use Rattle.pas_types.proofs.ProcedureCalls.{refused_statement}
use Rattle.pas_types.proofs.calls.call_with.Goals as goal

pub returns-in-Some : goal.returns-in-Some
returns-in-Some c clear n =
    let scopes = scopes_view c.args.scopes.now in
    let spellings = c.args.scopes.now.spellings.now in
    let name = ident_in spellings c.args.ident in
    let arguments = arguments_in spellings c.args.arguments.now in
    subst (λ (entity : Option Entity). Settles (plain_words n (procedure_call name (Some arguments)))
    (call_by scopes (actuals_of scopes arguments.items) entity) (statement_view spellings) c.with_as.result)
    c.in-Some.ensures.entity
    (c.with_as.ensures clear (λ is. clear name.name (sym c.in-Some.ensures.entity ∙ ap Some is)) n)

pub returns-in-None : goal.returns-in-None
returns-in-None c clear n =
    let scopes = scopes_view c.args.scopes.now in
    let spellings = c.args.scopes.now.spellings.now in
    let name = ident_in spellings c.args.ident in
    let arguments = arguments_in spellings c.args.arguments.now in
    let actuals = actuals_of scopes arguments.items in
    let words = plain_words n (procedure_call name (Some arguments)) in
    subst (λ (entity : Option Entity). ShowsBy words (call_by scopes actuals entity).marks c.fault.result)
    c.in-None.ensures.entity
    (subst (ShowsBy words (not_called (wrong UNKNOWN_NAME ∷ []) (map without_width actuals))) (sym c.fault.ensures)
    (refused_statement scopes n name arguments (wrong UNKNOWN_NAME)))
