use Rattle.std.proofs.Common.{◌≡◌, subst, ◌∙◌, List}
use Rattle.pas_rules.specs.Scopes.{Named, names_of, contains}
use Rattle.pas_scopes.proofs.NameLemmas.{some_lookup}
use Rattle.pas_scopes.proofs.names.Names.has.Goals as goal

pub returns : goal.returns
returns c =
    subst (λ (held : List Named). c.contains_key.result ≡ contains (names_of held) c.args.name.now) c.self.view_is
    (c.contains_key.ensures ∙ some_lookup c.args.name.now c.self.inside.entities.entries)
