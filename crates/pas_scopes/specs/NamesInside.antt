-- How `Names` keeps names. No contract cites this.
use Rattle.std.specs.Prelude.{ℕ, List, map}
use Rattle.std.specs.Borrow.{Bor}
use Rattle.pas_scopes.specs.declared.names.Entity.{Entity as CodeEntity}
use Rattle.pas_scopes.specs.declared.names.Names.TheInside.{Inside}
use Rattle.pas_rules.specs.Scopes.{Named, names}
use Rattle.pas_scopes.specs.NameViews.{entity_view, AreSmall}

abbrev pub named_view : Bor (List ℕ) × CodeEntity → Named
named_view entry = names entry.0.now (entity_view entry.1)

abbrev pub names_in : Inside → List Named
names_in inside = map named_view inside.entities.entries

-- the constants among them are small
abbrev pub AreSmallInside : Inside → Type 0
AreSmallInside inside = AreSmall (names_in inside)
