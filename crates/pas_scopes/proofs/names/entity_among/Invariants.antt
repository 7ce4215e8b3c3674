use Rattle.std.proofs.Common.{◌≡◌, map, drop}
use Rattle.pas_rules.specs.Scopes.{entity_in}
use Rattle.pas_scopes.specs.OutsideViews.{outside_view}
use Rattle.pas_scopes.proofs.names.entity_among.Given as goal

abbrev pub invariant-loop-row : goal.invariant-loop-row
invariant-loop-row l =
    entity_in (map outside_view (drop l.row-index l.rows)) l.name ≡ entity_in (map outside_view l.rows) l.name
