-- A name that lies outside as the definition has it.
use Rattle.pas_scopes.specs.declared.names.Outside.{Outside}
use Rattle.pas_rules.specs.Scopes.{Named, names}
use Rattle.pas_scopes.specs.NameViews.{entity_view}

abbrev pub outside_view : Outside → Named
outside_view found = names found.name.now (entity_view found.entity)
