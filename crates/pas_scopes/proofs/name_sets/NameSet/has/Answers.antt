use Rattle.std.proofs.Common.{◌≡◌, subst, ◌∙◌, ℕ, List}
use Rattle.pas_rules.specs.Scopes.{contains}
use Rattle.pas_scopes.proofs.NameSetLemmas.{any_view}
use Rattle.pas_scopes.proofs.name_sets.NameSet.has.Goals as goal

pub returns : goal.returns
returns c =
    subst (λ (held : List (List ℕ)). c.contains.result ≡ contains held c.args.name.now) c.self.view_is
    (c.contains.ensures ∙ any_view c.args.name.now c.self.inside.names.keys)
