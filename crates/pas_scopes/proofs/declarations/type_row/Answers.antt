use Rattle.std.proofs.Common.{ap, ◌∙◌, ℕ, List}
use Rattle.pas_syntax.specs.ProgramViews.{type_row_in}
use Rattle.pas_scopes.specs.declared.scopes.Scopes.{Scopes as CodeScopes}
use Rattle.pas_rules.specs.Scopes.{Named}
use Rattle.pas_scopes.specs.NameViews.{entity_view}
use Rattle.pas_rules.specs.Scopes.{with_new}
use Rattle.pas_scopes.proofs.KeptLemmas.{spellings_kept}
use Rattle.pas_scopes.proofs.TypeRowLemmas.{row_declares}
use Rattle.pas_scopes.proofs.declarations.type_row.Goals as goal

pub returns-clause-declares : goal.returns-clause-declares
returns-clause-declares c =
    let scopes : CodeScopes = c.args.scopes.now in
    let later : CodeScopes = c.type_entity.new.scopes in
    let entity = entity_view c.in_ok-entity.entity in
    row_declares scopes (record later { names = c.declare.new.self })
    (type_row_in scopes.spellings.now c.args.row.now) c.new_alone.result c.in_ok-note.ensures.ok
    c.new_alone.ensures entity later.types
    (ap (λ (found : CodeScopes). record found { names = c.declare.new.self }) c.in_ok-entity.ensures.kept
    ∙ ap (λ (names : List Named). record scopes { names = names; types = later.types })
    (c.in_ok-declare.ensures.ok
    ∙ (ap (λ (name : List ℕ). with_new later.names name entity)
    (c.spelling-name.ensures ∙ ap (λ (seen : List ℕ). (type_row_in seen c.args.row.now).name.name)
    (spellings_kept scopes later c.in_ok-entity.ensures.kept))
    ∙ ap (λ (found : CodeScopes). with_new found.names
    (type_row_in scopes.spellings.now c.args.row.now).name.name entity) c.in_ok-entity.ensures.kept)))
    c.in_ok-entity.ensures.value c.in_ok-entity.ensures.types
    c.args.noted.now c.note.new.noted c.type_entity.new.noted c.in_ok-note.ensures.noted
    c.in_ok-entity.ensures.notes c.in_ok-entity.ensures.clear
