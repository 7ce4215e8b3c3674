use Rattle.std.proofs.Common.{◌∙◌, subst, sym, ap, [], ◌∷◌, Option, Some}
use Rattle.pas_syntax.specs.Words.{name_at}
use Rattle.pas_syntax.specs.Views.{ident_in}
use Rattle.pas_typed.specs.TypedViews.{statement_view}
use Rattle.pas_rules.specs.Scopes.{Entity}
use Rattle.pas_scopes.specs.ScopeViews.{scopes_view}
use Rattle.pas_rules.specs.Calls as spec
use Rattle.pas_scopes.specs.Answers.{Settles}
use Rattle.pas_types.proofs.calls.call_alone.Goals as goal

pub returns-in-Some : goal.returns-in-Some
returns-in-Some c clear n =
    let spellings = c.args.scopes.now.spellings.now in
    let name = ident_in spellings c.args.ident in
    subst (λ (entity : Option Entity). Settles (name_at n name ∷ [])
    (spec.call_alone (scopes_view c.args.scopes.now) entity) (statement_view spellings) c.alone_as.result)
    c.in-Some.ensures.entity
    (c.alone_as.ensures (λ is. clear name.name (sym c.in-Some.ensures.entity ∙ ap Some is)) n)
