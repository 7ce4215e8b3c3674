use Rattle.std.proofs.Common.{◌≡◌, sym, ap, subst, ◌∙◌, Option, List, IfSome, map}
use Rattle.std.specs.Prelude.{option_map}
use Rattle.pas_rules.specs.Scopes.{Entity, Named, entity_in}
use Rattle.pas_scopes.specs.NameViews.{entity_view, IsSmallEntity}
use Rattle.pas_scopes.specs.NamesInside.{named_view}
use Rattle.pas_scopes.proofs.NameLemmas.{lookup_view, small_in, small_view}
use Rattle.pas_scopes.proofs.names.Names.get.Goals as goal

pub returns-clause-entity : goal.returns-clause-entity
returns-clause-entity c =
    subst (λ (held : List Named). option_map entity_view c.copied.result ≡ entity_in held c.args.name.now)
    c.self.view_is
    (ap (option_map entity_view) (c.copied.ensures ∙ c.get.ensures.value)
    ∙ lookup_view c.args.name.now c.self.inside.entities.entries)

pub returns-clause-small : goal.returns-clause-small
returns-clause-small c =
    let found : option_map entity_view c.copied.result
    ≡ entity_in (map named_view c.self.inside.entities.entries) c.args.name.now =
    ap (option_map entity_view) (c.copied.ensures ∙ c.get.ensures.value)
    ∙ lookup_view c.args.name.now c.self.inside.entities.entries in
    small_view c.copied.result
    (subst (λ (entity : Option Entity). IfSome entity IsSmallEntity) (sym found)
    (small_in (map named_view c.self.inside.entities.entries) c.args.name.now c.self.invariant))
