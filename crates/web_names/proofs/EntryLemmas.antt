-- The entries of `Names`: one added, and one changed.
use Rattle.std.proofs.Common.{◌≡◌, ℕ, pos, zero, suc, ◌<◌, ◌≤◌, length-append, true, false, cond}
use Rattle.std.proofs.Common.{List, [], ◌∷◌, ◌++◌, length, get_or, map, Some, None, refl, sym, ap}
use Rattle.std.proofs.Common.{◌∙◌, subst, arith, slice_get}
use Rattle.std.specs.Option.{option_map}
use Rattle.std.specs.Str.{bytes_eq}
use Rattle.std.specs.Global.{Vec}
use Rattle.std.proofs.lemmas.List.{map-append, length-map}
use Rattle.indexmap.specs.IndexMap.{insert_entry, set_value_at}
use Rattle.wb_base.specs.declared.options.Options.{Options}
use Rattle.web_names.specs.declared.classes.Class.{Class}
use Rattle.web_names.specs.declared.names.Entry.{Entry}
use Rattle.web_names.specs.Identifiers.{Name, name_limit, is_compared, printed_form, id_of, is_named, class_of}
use Rattle.web_names.specs.Identifiers.{new_name, changed_at}
use Rattle.web_names.specs.inner.NameIndex.{name_in, names_in, kept_forms, printed_forms, is_same_key, Places}
use Rattle.web_names.specs.inner.NameIndex.{FindsByForm}
use Rattle.web_names.proofs.FormIndex.{finds-changed_at}
use Rattle.web_names.proofs.Positions.{position-map, fails_everywhere}

-- a key that is not there goes last
appended : (key : Vec ℕ) (entry : Entry) (entries : List (Vec ℕ × Entry))
    → ((i : ℕ) (d : Vec ℕ × Entry) → i < length entries → is_same_key key (get_or entries i d).0 ≡ false)
    → insert_entry is_same_key entries key entry ≡ entries ++ (key, entry) ∷ []
appended key entry [] fails = refl
appended key entry (first ∷ entries) fails =
    ap (λ b. cond b ((first.0, entry) ∷ entries) (first ∷ insert_entry is_same_key entries key entry))
    (fails 0 first (omega arith))
    ∙ ap (λ es. first ∷ es) (appended key entry entries (λ i d within. fails (suc i) d (omega arith)))

pub insert_entry-new : (word : List ℕ) (key : Vec ℕ) (entry : Entry) (entries : List (Vec ℕ × Entry))
    → id_of word (names_in entries) ≡ None → key.items ≡ word
    → insert_entry is_same_key entries key entry ≡ entries ++ (key, entry) ∷ []
insert_entry-new word key entry entries none same =
    appended key entry entries
    (λ i d within.
    ap (λ bytes. bytes_eq bytes (get_or entries i d).0.items) same
    ∙ fails_everywhere (λ (held : Vec ℕ × Entry). bytes_eq word held.0.items) entries
    (sym (position-map (is_named word) name_in entries) ∙ none) i d within)

-- the names and the printed forms with a new entry
pub names_in-push : (word : List ℕ) (class : Class) (key : Vec ℕ) (entry : Entry) (entries : List (Vec ℕ × Entry))
    → key.items ≡ word → entry.class ≡ class → entry.value ≡ pos 0
    → names_in (entries ++ (key, entry) ∷ []) ≡ names_in entries ++ new_name word class ∷ []
names_in-push word class key entry entries same is_class is_value =
    map-append name_in entries ((key, entry) ∷ [])
    ∙ (λ i. names_in entries ++ record { word = same i; class = is_class i; value = is_value i } ∷ [])

pub kept_forms-push : (options : Options) (word : List ℕ) (key : Vec ℕ) (entry : Entry)
    (entries : List (Vec ℕ × Entry)) → key.items ≡ word → entry.printed.items ≡ printed_form options word
    → kept_forms entries ≡ printed_forms options entries
    → kept_forms (entries ++ (key, entry) ∷ []) ≡ printed_forms options (entries ++ (key, entry) ∷ [])
kept_forms-push options word key entry entries same printed kept =
    map-append (λ (held : Vec ℕ × Entry). held.1.printed.items) entries ((key, entry) ∷ [])
    ∙ (λ i. kept i ++ (printed ∙ ap (printed_form options) (sym same)) i ∷ [])
    ∙ sym (map-append (λ (held : Vec ℕ × Entry). printed_form options held.0.items) entries ((key, entry) ∷ []))

-- what the value at an index tells of the name there
pub of_value : {Y : Type 0} (f : Name → Y) (g : Entry → Y) → ((entry : Vec ℕ × Entry) → f (name_in entry) ≡ g entry.1)
    → (entries : List (Vec ℕ × Entry)) (i : ℕ) (entry : Entry)
    → slice_get (map (λ held. held.1) entries) i ≡ Some entry
    → slice_get (map f (names_in entries)) i ≡ Some (g entry)
of_value f g tells [] i entry is = absurd cc
of_value f g tells (first ∷ entries) zero entry is = ap Some (tells first ∙ ap g (some_equal is))
  where
    some_equal : Some first.1 ≡ Some entry → first.1 ≡ entry
    some_equal same = cc
of_value f g tells (first ∷ entries) (suc i) entry is = of_value f g tells entries i entry is

pub class_of-names_in : (entries : List (Vec ℕ × Entry)) (i : ℕ) (entry : Entry)
    → slice_get (map (λ held. held.1) entries) i ≡ Some entry → class_of i (names_in entries) ≡ entry.class
class_of-names_in [] i entry is = absurd cc
class_of-names_in (first ∷ entries) zero entry is = ap (λ (held : Entry). held.class) (some_equal is)
  where
    some_equal : Some first.1 ≡ Some entry → first.1 ≡ entry
    some_equal same = cc
class_of-names_in (first ∷ entries) (suc i) entry is = class_of-names_in entries i entry is

pub printed_at : (options : Options) (entries : List (Vec ℕ × Entry)) (i : ℕ) (entry : Entry)
    → kept_forms entries ≡ printed_forms options entries → slice_get (map (λ held. held.1) entries) i ≡ Some entry
    → slice_get (map (λ name. printed_form options name.word) (names_in entries)) i ≡ Some entry.printed.items
printed_at options entries i entry kept is =
    ap (λ forms. slice_get forms i) (same_map entries ∙ sym kept) ∙ kept_at entries i is
  where
    same_map : (held : List (Vec ℕ × Entry))
        → map (λ (name : Name). printed_form options name.word) (names_in held) ≡ printed_forms options held
    same_map [] = refl
    same_map (first ∷ others) = ap (λ forms. printed_form options first.0.items ∷ forms) (same_map others)

    kept_at : (held : List (Vec ℕ × Entry)) (at : ℕ)
        → slice_get (map (λ (held : Vec ℕ × Entry). held.1) held) at ≡ Some entry
        → slice_get (kept_forms held) at ≡ Some entry.printed.items
    kept_at [] at there = absurd cc
    kept_at (first ∷ others) zero there = ap (option_map (λ (held : Entry). held.printed.items)) there
    kept_at (first ∷ others) (suc at) there = kept_at others at there

-- the entries with another value at an index
pub names_in-set_value_at : (change : Name → Name) (entries : List (Vec ℕ × Entry)) (i : ℕ) (old new : Entry)
    → slice_get (map (λ held. held.1) entries) i ≡ Some old
    → ((key : Vec ℕ) → name_in (key, new) ≡ change (name_in (key, old)))
    → names_in (set_value_at entries i new) ≡ changed_at i change (names_in entries)
names_in-set_value_at change [] i old new is changes = refl
names_in-set_value_at change (first ∷ entries) zero old new is changes =
    (λ j. (changes first.0 ∙ ap (λ entry. change (name_in (first.0, entry))) (sym (some_equal is))) j ∷ names_in
    entries)
  where
    some_equal : Some first.1 ≡ Some old → first.1 ≡ old
    some_equal same = cc
names_in-set_value_at change (first ∷ entries) (suc i) old new is changes =
    ap (λ names. name_in first ∷ names) (names_in-set_value_at change entries i old new is changes)

pub kept_forms-set_value_at : (entries : List (Vec ℕ × Entry)) (i : ℕ) (old new : Entry)
    → slice_get (map (λ held. held.1) entries) i ≡ Some old → new.printed.items ≡ old.printed.items
    → kept_forms (set_value_at entries i new) ≡ kept_forms entries
kept_forms-set_value_at [] i old new is same = refl
kept_forms-set_value_at (first ∷ entries) zero old new is same =
    ap (λ form. form ∷ kept_forms entries) (same ∙ ap (λ (held : Entry). held.printed.items) (sym (some_equal is)))
  where
    some_equal : Some first.1 ≡ Some old → first.1 ≡ old
    some_equal same = cc
kept_forms-set_value_at (first ∷ entries) (suc i) old new is same =
    ap (λ forms. first.1.printed.items ∷ forms) (kept_forms-set_value_at entries i old new is same)

pub printed_forms-set_value_at : (options : Options) (entries : List (Vec ℕ × Entry)) (i : ℕ) (new : Entry)
    → printed_forms options (set_value_at entries i new) ≡ printed_forms options entries
printed_forms-set_value_at options [] i new = refl
printed_forms-set_value_at options (first ∷ entries) zero new = refl
printed_forms-set_value_at options (first ∷ entries) (suc i) new =
    ap (λ forms. printed_form options first.0.items ∷ forms) (printed_forms-set_value_at options entries i new)

length-set_value_at : (entries : List (Vec ℕ × Entry)) (i : ℕ) (new : Entry)
    → length (set_value_at entries i new) ≡ length entries
length-set_value_at [] i new = refl
length-set_value_at (first ∷ entries) zero new = refl
length-set_value_at (first ∷ entries) (suc i) new = ap suc (length-set_value_at entries i new)

pub length-names_in-set_value_at : (entries : List (Vec ℕ × Entry)) (i : ℕ) (new : Entry)
    → length (names_in (set_value_at entries i new)) ≡ length (names_in entries)
length-names_in-set_value_at entries i new =
    length-map (set_value_at entries i new) name_in ∙ length-set_value_at entries i new
    ∙ sym (length-map entries name_in)

-- what holds of the entries of `Names` beside its options and places
pub record AreIndexed (options : Options) (entries : List (Vec ℕ × Entry)) (places : Places) : Type 0 where
  pub limit : length entries ≤ name_limit
  pub printed : kept_forms entries ≡ printed_forms options entries
  pub finds : FindsByForm options (names_in entries) places

-- it holds after a name was changed, which keeps its word and is not compared where it was not before
pub indexed-set_value_at : (options : Options) (entries : List (Vec ℕ × Entry)) (places : Places) (i : ℕ)
    (old new : Entry) (change : Name → Name)
    → slice_get (map (λ held. held.1) entries) i ≡ Some old
    → ((key : Vec ℕ) → name_in (key, new) ≡ change (name_in (key, old))) → new.printed.items ≡ old.printed.items
    → ((name : Name) → (change name).word ≡ name.word)
    → ((name : Name) → is_compared (change name) ≡ true → is_compared name ≡ true)
    → AreIndexed options entries places → AreIndexed options (set_value_at entries i new) places
indexed-set_value_at options entries places i old new change is changes same keeps compares indexed = record {
  limit = subst (λ n. n ≤ name_limit) (sym (length-set_value_at entries i new)) indexed.limit;
  printed = kept_forms-set_value_at entries i old new is same ∙ indexed.printed
      ∙ sym (printed_forms-set_value_at options entries i new);
  finds = subst (λ names. FindsByForm options names places)
      (sym (names_in-set_value_at change entries i old new is changes))
      (finds-changed_at options (names_in entries) places i change keeps compares indexed.finds);
}

-- it holds after a name was added, if the index finds it
pub indexed-push : (options : Options) (entries : List (Vec ℕ × Entry)) (places new : Places) (word : List ℕ)
    (class : Class) (key : Vec ℕ) (entry : Entry)
    → key.items ≡ word → entry.class ≡ class → entry.value ≡ pos 0 → entry.printed.items ≡ printed_form options word
    → length entries < name_limit
    → FindsByForm options (names_in entries ++ new_name word class ∷ []) new → AreIndexed options entries places
    → AreIndexed options (entries ++ (key, entry) ∷ []) new
indexed-push options entries places new word class key entry same is_class is_value printed room finds indexed =
    record {
      limit = simp length-append (omega arith);
      printed = kept_forms-push options word key entry entries same printed indexed.printed;
      finds = subst (λ names. FindsByForm options names new)
          (sym (names_in-push word class key entry entries same is_class is_value)) finds;
    }
