-- How `NameSet` keeps names. No contract cites this.
use Rattle.std.specs.Prelude.{ℕ, List, map}
use Rattle.std.specs.Borrow.{Bor}
use Rattle.pas_scopes.specs.declared.name_sets.NameSet.TheInside.{Inside}

abbrev pub spelling_in : Bor (List ℕ) → List ℕ
spelling_in key = key.now

abbrev pub spellings_in : Inside → List (List ℕ)
spellings_in inside = map spelling_in inside.names.keys
