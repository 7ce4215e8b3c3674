use Rattle.std.proofs.Common.{◌≡◌, ap, subst, ◌∙◌, ℕ, List, map, not}
use Rattle.pas_rules.specs.Scopes.{contains}
use Rattle.pas_rules.specs.Scopes.{with_name}
use Rattle.pas_scopes.specs.NameSetInside.{spelling_in}
use Rattle.pas_scopes.proofs.NameSetLemmas.{any_view, added}
use Rattle.pas_scopes.proofs.name_sets.NameSet.add.Goals as goal

pub returns-clause-new : goal.returns-clause-new
returns-clause-new c =
    subst (λ (held : List (List ℕ)). c.in_ok-is_new.is_new ≡ not (contains held c.args.name.now)) c.self.view_is
    (c.in_ok-is_new.ensures.added ∙ ap not (any_view c.args.name.now c.self.inside.names.keys))

pub returns-clause-ok : goal.returns-clause-ok
returns-clause-ok c =
    ap (map spelling_in) c.in_ok-is_new.ensures.keys ∙ added c.self.inside.names.keys c.args.name
    ∙ ap (λ (held : List (List ℕ)). with_name held c.args.name.now) c.self.view_is
