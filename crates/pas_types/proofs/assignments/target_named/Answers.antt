use Rattle.std.proofs.Common.{◌≡◌, sym, ap, subst, ◌∙◌, [], ◌∷◌, Option, Some, option_map}
use Rattle.pas_syntax.specs.Views.{ident_in}
use Rattle.pas_syntax.specs.Words.{Word, name_at}
use Rattle.pas_scopes.specs.declared.names.Entity.{Entity as CodeEntity}
use Rattle.pas_rules.specs.Scopes.{Entity, entity_of, routine}
use Rattle.pas_rules.specs.Statements.{target_named}
use Rattle.pas_scopes.specs.NameViews.{entity_view}
use Rattle.pas_scopes.specs.ScopeViews.{scopes_view}
use Rattle.pas_scopes.specs.Answers.{Answers}
use Rattle.pas_types.specs.inner.TargetViews.{target_view}
use Rattle.pas_types.proofs.assignments.target_named.Goals as goal

pub returns-in-Some-Routine : goal.returns-in-Some-Routine
returns-in-Some-Routine c clear n =
    let spellings = c.args.scopes.now.spellings.now in
    let word : Word = name_at n (ident_in spellings c.args.ident) in
    let entity : Option Entity =
    entity_of (scopes_view c.args.scopes.now) (ident_in spellings c.args.ident).name in
    let is : entity ≡ Some (routine c.in-Some-Routine.number) =
    sym c.named.ensures.entity
    ∙ (ap (option_map entity_view) c.in-Some-Routine.is
    ∙ ap (λ (found : CodeEntity). Some (entity_view found)) c.in-Some-Routine.field-0-is) in
    subst (λ (found : Option Entity). Answers (word ∷ []) (target_named (scopes_view c.args.scopes.now) found)
    target_view c.result_of.result) (sym is) (c.result_of.ensures n)
