use Rattle.std.proofs.Common.{ap, ◌∙◌, ℕ, List}
use Rattle.pas_syntax.specs.ProgramViews.{constant_row_in}
use Rattle.pas_scopes.specs.declared.scopes.Scopes.{Scopes as CodeScopes}
use Rattle.pas_rules.specs.Scopes.{Named}
use Rattle.pas_scopes.specs.NameViews.{entity_view}
use Rattle.pas_rules.specs.Scopes.{with_new}
use Rattle.pas_scopes.proofs.ConstantRowLemmas.{row_declares}
use Rattle.pas_scopes.proofs.declarations.constant_row.Goals as goal

pub returns-clause-declares : goal.returns-clause-declares
returns-clause-declares c =
    let scopes : CodeScopes = c.args.scopes.now in
    let entity = entity_view c.in_ok-entity.entity in
    row_declares scopes (record scopes { names = c.declare.new.self })
    (constant_row_in scopes.spellings.now c.args.row.now) c.new_alone.result c.in_ok-note.ensures.ok
    c.new_alone.ensures entity c.in_ok-entity.ensures.value
    (ap (λ (names : List Named). record scopes { names = names })
    (c.in_ok-declare.ensures.ok
    ∙ ap (λ (name : List ℕ). with_new scopes.names name entity) c.spelling-name.ensures))
    c.args.noted.now c.note.new.noted c.constant_entity.new.noted c.in_ok-note.ensures.noted
    c.in_ok-entity.ensures.notes c.in_ok-entity.ensures.clear
