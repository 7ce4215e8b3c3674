-- A name is in a list where it stands for something.
use Rattle.std.proofs.Common.{◌≡◌, refl, ℕ, Bool, true, false, List, [], ◌∷◌, Option, Some}
use Rattle.std.proofs.Common.{cond, ◌||◌}
use Rattle.std.specs.Prelude.{find, option_map, is_some}
use Rattle.std.specs.Str.{bytes_eq}
use Rattle.pas_rules.specs.Scopes.{Named, names_of, contains, entity_in}

-- a name is there where it stands for something
some_by : (b there : Bool) (first : Named) (more : Option Named)
    → there ≡ is_some (option_map (λ (named : Named). named.entity) more)
    → (b || there) ≡ is_some (option_map (λ (named : Named). named.entity) (cond b (Some first) more))
some_by true there first more h = refl
some_by false there first more h = h

pub there_is : (found : List Named) (name : List ℕ) → contains (names_of found) name ≡ is_some (entity_in found name)
there_is [] name = refl
there_is (first ∷ found) name =
    some_by (bytes_eq first.name name) (contains (names_of found) name) first
    (find (λ (named : Named). bytes_eq named.name name) found) (there_is found name)
