use Rattle.std.proofs.Common.{◌≡◌}
use Rattle.pas_rules.specs.Declarations.{are_parameters}
use Rattle.pas_scopes.specs.ScopeViews.{outer_view}
use Rattle.pas_scopes.proofs.AddedLemmas.{seen, so_far}
use Rattle.pas_scopes.proofs.globals.are_parameters.Given as goal

abbrev pub invariant-loop-behind : goal.invariant-loop-behind
invariant-loop-behind l =
    l.all ≡ are_parameters (outer_view l.scopes)
    (seen l.scopes.spellings.now (so_far l.names.first l.behind-items l.behind-index))
