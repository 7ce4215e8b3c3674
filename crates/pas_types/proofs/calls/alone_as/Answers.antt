use Rattle.std.proofs.Common.{subst, sym, refl, [], ◌∷◌, Some}
use Rattle.pas_syntax.specs.Words.{name_at}
use Rattle.pas_syntax.specs.Views.{ident_in}
use Rattle.pas_typed.specs.TypedViews.{statement_view}
use Rattle.pas_scopes.specs.declared.names.Entity.{Entity as CodeEntity}
use Rattle.pas_scopes.specs.NameViews.{entity_view}
use Rattle.pas_scopes.specs.ScopeViews.{scopes_view}
use Rattle.pas_rules.specs.Calls.{call_alone}
use Rattle.pas_scopes.specs.Answers.{Settles}
use Rattle.pas_types.proofs.calls.alone_as.Goals as goal

pub returns-in-Routine : goal.returns-in-Routine
returns-in-Routine c clear n =
    let spellings = c.args.scopes.now.spellings.now in
    subst (λ (entity : CodeEntity). Settles (name_at n (ident_in spellings c.args.ident) ∷ [])
    (call_alone (scopes_view c.args.scopes.now) (Some (entity_view entity))) (statement_view spellings)
    c.routine_alone.result) (sym c.in-Routine.is) (c.routine_alone.ensures n)

pub returns-in-Procedure : goal.returns-in-Procedure
returns-in-Procedure c clear n =
    let spellings = c.args.scopes.now.spellings.now in
    let word = name_at n (ident_in spellings c.args.ident) in
    subst (λ (entity : CodeEntity). Settles (word ∷ [])
    (call_alone (scopes_view c.args.scopes.now) (Some (entity_view entity))) (statement_view spellings)
    c.procedure_alone.result) (sym c.in-Procedure.is) (c.procedure_alone.ensures word refl)
