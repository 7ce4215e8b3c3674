-- How `Sections` keeps names: in order of first appearance, and their places in the order of their bytes. No contract
-- of a public call cites this.
use Rattle.std.specs.Prelude.{◌≡◌, ◌≢◌, ℕ, ◌<◌, ◌≤◌, ◌==◌, ◌&&◌, ◌-◌, nat_lt, Bool, true, false, List, [], map, ◌∷◌}
use Rattle.std.specs.Prelude.{◌++◌, insert}
use Rattle.std.specs.Prelude.{length, slice_index, slice_index_or}
use Rattle.std.specs.List.{list_any}
use Rattle.std.specs.Global.{Vec}
use Rattle.std.specs.Cmp.Lexicographic.{slice_cmp}
use Rattle.std.specs.Ordering.{nat_cmp, is_lt}
use Rattle.web_names.specs.SectionNames.{is_prefix_of, is_incompatible, section_limit}
use Rattle.web_names.specs.declared.sections.Sections.TheInside.{Inside}

-- the names that these keys stand for
abbrev pub texts_of : List (Vec ℕ) → List (List ℕ)
texts_of keys = map (λ key. key.items) keys

abbrev pub names_in : Inside → List (List ℕ)
names_in inside = texts_of inside.names.keys

-- whether a name comes before another in the order of their bytes
unfoldable pub is_before : List ℕ → List ℕ → Bool
is_before name other = is_lt (slice_cmp nat_cmp name other)

-- the name at a place
abbrev pub name_at : List (List ℕ) → ℕ → List ℕ
name_at names place = slice_index_or names place []

-- the name at an index of the order
abbrev pub ordered_at : List (List ℕ) → List ℕ → ℕ → List ℕ
ordered_at names order index = name_at names (slice_index order index)

-- the order has places of names, and the names at them rise
pub record Rises (names : List (List ℕ)) (order : List ℕ) : Type 0 where
  pub within : (index : ℕ) → index < length order → slice_index order index < length names
  pub rising : (index later : ℕ) → index < later → later < length order
      → is_before (ordered_at names order index) (ordered_at names order later) ≡ true

-- moreover it has each place, and no name begins with another
pub record IsOrderOf (names : List (List ℕ)) (order : List ℕ) : Type 0 where
  pub rises : Rises names order
  pub size : length order ≡ length names
  pub limit : length names ≤ section_limit
  pub complete : (place : ℕ) → place < length names → list_any (λ held. held == place) order ≡ true
  pub apart : (place other : ℕ) → place < length names → other < length names → place ≢ other
      → is_prefix_of (name_at names place) (name_at names other) ≡ false

abbrev pub IsInOrder : Inside → Type 0
IsInOrder inside = IsOrderOf (names_in inside) inside.order.items

-- how many names of an order come before this one
pub record IsLowerBound (names : List (List ℕ)) (order name : List ℕ) (bound : ℕ) : Type 0 where
  pub within : bound ≤ length order
  pub below : (index : ℕ) → index < bound → is_before (ordered_at names order index) name ≡ true
  pub from : (index : ℕ) → bound ≤ index → index < length order
      → is_before (ordered_at names order index) name ≡ false

-- whether there is a name at this index of an order, and it begins with this prefix
abbrev pub is_begun_at : List (List ℕ) → List ℕ → ℕ → List ℕ → Bool
is_begun_at names order index prefix =
    nat_lt index (length order) && is_prefix_of prefix (ordered_at names order index)

-- whether a name begins with the name before this index of an order
abbrev pub begins_with_one_before : List (List ℕ) → List ℕ → ℕ → List ℕ → Bool
begins_with_one_before names order index name =
    nat_lt 0 index && is_prefix_of (ordered_at names order (index - 1)) name

-- an order of names takes a new one, with which none is incompatible, at this index
pub record TakesNewAt (names : List (List ℕ)) (order name : List ℕ) (index : ℕ) : Type 0 where
  pub within : index ≤ length order
  pub compatible : list_any (is_incompatible name) names ≡ false
  pub ordered : length names < section_limit → IsOrderOf (names ++ name ∷ []) (insert order index (length names))
