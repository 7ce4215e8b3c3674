use Rattle.std.proofs.Common.{rules, ◌≡◌, sym, ap, subst, ◌∙◌, List, false, map}
use Rattle.pas_rules.specs.Scopes.{Named, names_of, contains}
use Rattle.pas_scopes.specs.NameViews.{entity_view, AreSmall}
use Rattle.pas_rules.specs.Scopes.{with_new}
use Rattle.pas_scopes.specs.NamesInside.{named_view}
use Rattle.pas_scopes.proofs.NameLemmas.{inserted, small_new}
use Rattle.pas_scopes.proofs.names.Names.declare.Goals as goal

pub returns-in_ok-insert-clause-ok : goal.returns-in_ok-insert-clause-ok
returns-in_ok-insert-clause-ok c =
    let off : c.has.result ≡ false = search rules in
    let held : List Named = map named_view c.self.inside.entities.entries in
    let new : contains (names_of held) c.args.name.now ≡ false =
    subst (λ (names : List Named). contains (names_of names) c.args.name.now ≡ false) (sym c.self.view_is)
    (sym c.has.ensures ∙ off) in
    ap (map named_view) c.in_ok-insert.ensures.entries
    ∙ inserted c.args.name c.args.entity c.self.inside.entities.entries new
    ∙ ap (λ (names : List Named). with_new names c.args.name.now (entity_view c.args.entity)) c.self.view_is

pub invariant_of-self : goal.invariant_of-self
invariant_of-self c =
    let off : c.has.result ≡ false = search rules in
    let held : List Named = map named_view c.self.inside.entities.entries in
    let new : contains (names_of held) c.args.name.now ≡ false =
    subst (λ (names : List Named). contains (names_of names) c.args.name.now ≡ false) (sym c.self.view_is)
    (sym c.has.ensures ∙ off) in
    subst AreSmall
    (sym (ap (map named_view) c.in_ok-insert.ensures.entries
    ∙ inserted c.args.name c.args.entity c.self.inside.entities.entries new))
    (small_new held c.args.name.now (entity_view c.args.entity) c.self.invariant c.requires)
