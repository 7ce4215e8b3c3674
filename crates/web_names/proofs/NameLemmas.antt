-- Lists of names: the place of a word, a name added, and a name changed.
use Rattle.std.proofs.Common.{◌≡◌, ◌≢◌, ℕ, zero, suc, ◌<◌, ◌≤◌, ◌⊎◌, inl, inr}
use Rattle.std.proofs.Common.{List, [], ◌∷◌, ◌++◌, length, map, position, Some, None, Ok, Err, refl, sym, ap}
use Rattle.std.proofs.Common.{◌∙◌, arith, slice_get}
use Rattle.std.specs.Str.{bytes_eq}
use Rattle.std.specs.Global.{Vec}
use Rattle.std.proofs.lemmas.Bool.Decides.{nat_tests}
use Rattle.wb_base.specs.declared.options.Options.{Options}
use Rattle.web_names.specs.declared.classes.Class.{Class}
use Rattle.web_names.specs.declared.name_errors.NameErr.TheVariants.{Full}
use Rattle.web_names.specs.declared.names.Entry.{Entry}
use Rattle.web_names.specs.Identifiers.{Name, id_of, is_named, name_limit, new_name, with_name, changed_at, used_at}
use Rattle.web_names.specs.Identifiers.{used, defined_again, defined_at, defined}
use Rattle.web_names.specs.inner.NameIndex.{name_in, names_in}
use Rattle.web_names.proofs.Positions.{position-map}

-- the id of a word is the place of its key
pub id_of-names_in : (word : List ℕ) (entries : List (Vec ℕ × Entry))
    → id_of word (names_in entries) ≡ position (λ key. bytes_eq word key.items) (map (λ entry. entry.0) entries)
id_of-names_in word entries =
    position-map (is_named word) name_in entries
    ∙ sym (position-map (λ (key : Vec ℕ). bytes_eq word key.items) (λ (entry : Vec ℕ × Entry). entry.0) entries)

-- a name where there is room, and where there is none
pub with_name-kept : (name : Name) (names : List Name) → length names < name_limit
    → with_name name names ≡ Ok (length names, names ++ name ∷ [])
with_name-kept name names room = grind (arith, nat_tests)

pub with_name-full : (name : Name) (names : List Name) → name_limit ≤ length names → with_name name names ≡ Err Full
with_name-full name names full = grind (arith, nat_tests)

module _ {X : Type 0} where
  -- the elements of a list with one more
  pub slice_get-push : (xs : List X) (y : X) (i : ℕ) (x : X) → slice_get (xs ++ y ∷ []) i ≡ Some x
      → (slice_get xs i ≡ Some x) ⊎ ((i ≡ length xs) × (x ≡ y))
  slice_get-push [] y zero x is = inr (refl, cc)
  slice_get-push [] y (suc i) x is = absurd (cc)
  slice_get-push (z ∷ xs) y zero x is = inl is
  slice_get-push (z ∷ xs) y (suc i) x is =
      elim (slice_get-push xs y i x is) [ inl old ↦ inl old | inr new ↦ inr (ap suc new.0, new.1) ]

  pub slice_get-push_left : (xs : List X) (y : X) (i : ℕ) (x : X) → slice_get xs i ≡ Some x
      → slice_get (xs ++ y ∷ []) i ≡ Some x
  slice_get-push_left [] y i x is = absurd (cc)
  slice_get-push_left (z ∷ xs) y zero x is = is
  slice_get-push_left (z ∷ xs) y (suc i) x is = slice_get-push_left xs y i x is

  pub slice_get-push_last : (xs : List X) (y : X) → slice_get (xs ++ y ∷ []) (length xs) ≡ Some y
  slice_get-push_last [] y = refl
  slice_get-push_last (z ∷ xs) y = slice_get-push_last xs y

-- what a change of one name leaves as it is
pub map-changed_at : {Y : Type 0} (f : Name → Y) (change : Name → Name) → ((name : Name) → f (change name) ≡ f name)
    → (id : ℕ) (names : List Name) → map f (changed_at id change names) ≡ map f names
map-changed_at f change keeps id [] = refl
map-changed_at f change keeps zero (name ∷ names) = ap (λ y. y ∷ map f names) (keeps name)
map-changed_at f change keeps (suc id) (name ∷ names) =
    ap (λ ys. f name ∷ ys) (map-changed_at f change keeps id names)

-- the names where one of them was changed
pub slice_get-changed_at : (change : Name → Name) (at : ℕ) (names : List Name) (id : ℕ) (name : Name)
    → slice_get (changed_at at change names) id ≡ Some name
    → ((id ≢ at) × (slice_get names id ≡ Some name)) ⊎
    ((id ≡ at) × ((old : Name) × (slice_get names id ≡ Some old) × (name ≡ change old)))
slice_get-changed_at change at [] id name is = absurd (cc)
slice_get-changed_at change zero (first ∷ names) zero name is = inr (refl, (first, refl, cc))
slice_get-changed_at change zero (first ∷ names) (suc id) name is = inl ((λ same. absurd (omega arith)), is)
slice_get-changed_at change (suc at) (first ∷ names) zero name is = inl ((λ same. absurd (omega arith)), is)
slice_get-changed_at change (suc at) (first ∷ names) (suc id) name is =
    elim (slice_get-changed_at change at names id name is) [
      | inl other ↦ inl ((λ same. other.0 (omega arith)), other.1)
      | inr here ↦ inr (ap suc here.0, here.1)
    ]

-- a use and a definition of a word that is a name, and of one that is not
pub used-held : (options : Options) (word : List ℕ) (names : List Name) (id : ℕ) → id_of word names ≡ Some id
    → used options word names ≡ Ok (id, names)
unfolding used
used-held options word names id some = ap (λ at. used_at at options word names) some

pub used-new : (options : Options) (word : List ℕ) (names : List Name) → id_of word names ≡ None
    → used options word names ≡ used_at None options word names
unfolding used
used-new options word names none = ap (λ at. used_at at options word names) none

pub defined-held : (word : List ℕ) (class : Class) (names : List Name) (id : ℕ) → id_of word names ≡ Some id
    → defined word class names ≡ defined_again id class names
unfolding defined
defined-held word class names id some = ap (λ at. defined_at at word class names) some

pub defined-new : (word : List ℕ) (class : Class) (names : List Name) → id_of word names ≡ None
    → defined word class names ≡ with_name (new_name word class) names
unfolding defined
defined-new word class names none = ap (λ at. defined_at at word class names) none
