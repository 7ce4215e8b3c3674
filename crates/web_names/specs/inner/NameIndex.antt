-- How `Names` keeps identifiers: each by its word, and the place of each ordinary one by its compared form. No contract
-- of a public call cites this.
use Rattle.std.specs.Prelude.{◌≡◌, ℕ, ◌≤◌, Bool, true, false, List, map, length, Some, slice_get}
use Rattle.std.specs.Global.{Vec}
use Rattle.std.specs.HashMap.{HashMap, get}
use Rattle.std.specs.Str.{bytes_eq}
use Rattle.std.specs.declared.hash.FoldHasher.{FoldHasher}
use Rattle.std.specs.declared.hash.BuildHasherDefault.{BuildHasherDefault}
use Rattle.wb_base.specs.declared.options.Options.{Options}
use Rattle.web_names.specs.Identifiers.{Name, Identifiers, printed_form, compared_form, is_compared, is_one_letter}
use Rattle.web_names.specs.Identifiers.{name_limit}
use Rattle.web_names.specs.declared.names.Entry.{Entry}
use Rattle.web_names.specs.declared.names.Names.TheInside.{Inside}

-- the name that an entry stands for
abbrev pub name_in : Vec ℕ × Entry → Name
name_in entry = record { word = entry.0.items; class = entry.1.class; value = entry.1.value }

-- the names that these entries stand for
abbrev pub names_in : List (Vec ℕ × Entry) → List Name
names_in entries = map name_in entries

abbrev pub identifiers_in : Inside → Identifiers
identifiers_in inside = record { options = inside.options; names = names_in inside.entries.entries }

-- how the words of entries are printed, as the entries keep it
abbrev pub kept_forms : List (Vec ℕ × Entry) → List (List ℕ)
kept_forms entries = map (λ entry. entry.1.printed.items) entries

-- how they are printed by the options
abbrev pub printed_forms : Options → List (Vec ℕ × Entry) → List (List ℕ)
printed_forms options entries = map (λ entry. printed_form options entry.0.items) entries

-- places by compared form
abbrev pub Places : Type 0
Places = HashMap (Vec ℕ) ℕ (BuildHasherDefault FoldHasher)

-- whether two keys have the same bytes
abbrev pub is_same_key : Vec ℕ → Vec ℕ → Bool
is_same_key key other = bytes_eq key.items other.items

-- each name that is compared is found by its form, and what is found has that form and had more than one letter
pub record FindsByForm (options : Options) (names : List Name) (places : Places) : Type 0 where
  pub found : (id : ℕ) (name : Name) (form : Vec ℕ) → slice_get names id ≡ Some name → is_compared name ≡ true
      → form.items ≡ compared_form options name.word → get is_same_key places form ≡ Some id
  pub form : (form : Vec ℕ) (id : ℕ) → get is_same_key places form ≡ Some id
      → slice_get (map (λ name. compared_form options name.word) names) id ≡ Some form.items
  pub letters : (form : Vec ℕ) (id : ℕ) → get is_same_key places form ≡ Some id
      → slice_get (map (λ name. is_one_letter name.word) names) id ≡ Some false

pub record IsIndexed (inside : Inside) : Type 0 where
  pub limit : length inside.entries.entries ≤ name_limit
  pub printed : kept_forms inside.entries.entries ≡ printed_forms inside.options inside.entries.entries
  pub finds : FindsByForm inside.options (names_in inside.entries.entries) inside.places
