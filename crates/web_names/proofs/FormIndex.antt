-- The index of names by their compared forms.
use Rattle.std.proofs.Common.{◌≡◌, ◌≢◌, ℕ, ◌<◌, inl, inr, Bool, true, false, not, cond, ◌&&◌, List, [], ◌∷◌}
use Rattle.std.proofs.Common.{◌++◌, length, get_or, map, Some, None, refl, sym, ap, ◌∙◌, subst, arith}
use Rattle.std.proofs.Common.{true≢false, slice_get}
use Rattle.std.specs.Option.{option_map, option_map_or}
use Rattle.std.specs.Str.{bytes_eq}
use Rattle.std.specs.Global.{Vec}
use Rattle.std.specs.HashMap.{get}
use Rattle.std.proofs.lemmas.Bool.Decides.{nat_tests}
use Rattle.std.proofs.lemmas.List.Folds.{list_any_none, list_any_at}
use Rattle.std.proofs.lemmas.Option.{slice_get-map, slice_get_within, slice_get-get_or, get_or_from_slice_get}
use Rattle.std.proofs.lemmas.List.{map-append, length-map}
use Rattle.std.proofs.lemmas.Slice.Eq.{bytes_eq-Decides}
use Rattle.wb_base.specs.declared.options.Options.{Options}
use Rattle.web_names.specs.declared.classes.Class.{Class}
use Rattle.web_names.specs.declared.classes.Class.TheVariants.{Ordinary, Numeric, Simple, Parametric}
use Rattle.web_names.specs.Identifiers.{Name, compared_form, is_ordinary, is_one_letter, is_compared, is_form_taken}
use Rattle.web_names.specs.Identifiers.{class_of, new_name, changed_at, with_class}
use Rattle.web_names.specs.inner.NameIndex.{Places, is_same_key, FindsByForm}
use Rattle.web_names.proofs.ByteOrder.{by_test}
use Rattle.web_names.proofs.NameLemmas.{slice_get-push, slice_get-push_left, slice_get-push_last, map-changed_at}
use Rattle.web_names.proofs.NameLemmas.{slice_get-changed_at}

some_equal : {X : Type 0} {x y : X} → Some x ≡ Some y → x ≡ y
some_equal same = cc

and_first : (a b : Bool) → (a && b) ≡ true → a ≡ true
and_first a b both = by_test a (a ≡ true) (λ e. e) (λ fails. absurd (true≢false (sym both ∙ ap (λ c. c && b) fails)))

and_both : (a b : Bool) → a ≡ true → b ≡ true → (a && b) ≡ true
and_both a b first second = ap (λ c. c && b) first ∙ second

-- what stands at the places of a longer list
push_at : {Y : Type 0} (f : Name → Y) (names : List Name) (name : Name) (id : ℕ) (y : Y)
    → slice_get (map f names) id ≡ Some y → slice_get (map f (names ++ name ∷ [])) id ≡ Some y
push_at f names name id y is =
    ap (λ ys. slice_get ys id) (map-append f names (name ∷ [])) ∙ slice_get-push_left (map f names) (f name) id y is

push_last : {Y : Type 0} (f : Name → Y) (names : List Name) (name : Name)
    → slice_get (map f (names ++ name ∷ [])) (length names) ≡ Some (f name)
push_last f names name =
    slice_get-map f (names ++ name ∷ []) (length names) ∙ ap (option_map f) (slice_get-push_last names name)

-- the test of `is_form_taken`
abbrev has_form : Options → List ℕ → Name → Bool
has_form options form name = is_compared name && bytes_eq form (compared_form options name.word)

-- what a name that passes the test is
has : (options : Options) (form : List ℕ) (name : Name) → has_form options form name ≡ true
    → (is_compared name ≡ true) × (form ≡ compared_form options name.word)
has options form name passes =
    let parts : (is_compared name ≡ true) × (bytes_eq form (compared_form options name.word) ≡ true) =
    grind (arith, nat_tests) in
    (parts.0, (bytes_eq-Decides form (compared_form options name.word)).0 parts.1)

module _ (options : Options) (names : List Name) (places : Places) (finds : FindsByForm options names places)
    (form : Vec ℕ) where
  -- a name with the form is found by it
  at_place : (id : ℕ) (d : Name) → id < length names → has_form options form.items (get_or names id d) ≡ true
      → get is_same_key places form ≡ Some id
  at_place id d within passes =
      let parts = has options form.items (get_or names id d) passes in
      finds.found id (get_or names id d) form (slice_get-get_or names id d within) parts.0 parts.1

  -- where nothing is found by a form, no name that is compared has it
  pub taken-none : get is_same_key places form ≡ None → is_form_taken options form.items names ≡ false
  taken-none none =
      list_any_none (has_form options form.items) names
      (λ id d within. by_test (has_form options form.items (get_or names id d)) _
      (λ passes. absurd (some_none (sym (at_place id d within passes) ∙ none))) (λ e. e))
    where
      some_none : {i : ℕ} → Some i ≡ None → ⊥
      some_none e = cc

  -- the name that is found has the form, and more than one letter
  form_of_found : (id : ℕ) (name : Name) → get is_same_key places form ≡ Some id → slice_get names id ≡ Some name
      → compared_form options name.word ≡ form.items
  form_of_found id name found is =
      some_equal (sym (ap (option_map (λ (name : Name). compared_form options name.word)) is)
      ∙ sym (slice_get-map (λ (name : Name). compared_form options name.word) names id)
      ∙ finds.form form id found)

  letters_of_found : (id : ℕ) (name : Name) → get is_same_key places form ≡ Some id → slice_get names id ≡ Some name
      → is_one_letter name.word ≡ false
  letters_of_found id name found is =
      some_equal (sym (ap (option_map (λ (name : Name). is_one_letter name.word)) is)
      ∙ sym (slice_get-map (λ (name : Name). is_one_letter name.word) names id) ∙ finds.letters form id found)

  -- where a name is found, the form is taken if the name is no macro
  pub taken-some : (id : ℕ) (name : Name) → get is_same_key places form ≡ Some id → slice_get names id ≡ Some name
      → is_form_taken options form.items names ≡ is_ordinary name.class
  taken-some id name found is =
      by_test (is_ordinary name.class) _
      (λ ordinary.
      let letters : is_one_letter name.word ≡ false = letters_of_found id name found is in
      let same : bytes_eq form.items (compared_form options name.word) ≡ true =
      (bytes_eq-Decides form.items (compared_form options name.word)).1
      (sym (form_of_found id name found is)) in
      let passes : has_form options form.items name ≡ true = grind (arith, nat_tests) in
      list_any_at (has_form options form.items) names id name (slice_get_within names id name is)
      (ap (has_form options form.items) (get_or_from_slice_get names id name name is) ∙ passes)
      ∙ sym ordinary)
      (λ macro.
      list_any_none (has_form options form.items) names
      (λ other d within. by_test (has_form options form.items (get_or names other d)) _
      (λ passes.
      let same : other ≡ id = some_equal (sym (at_place other d within passes) ∙ found) in
      let held : get_or names other d ≡ name =
      get_or_from_slice_get names other name d
      (subst (λ at. slice_get names at ≡ Some name) (sym same) is) in
      let ordinary : is_ordinary name.class ≡ true =
      and_first (is_ordinary name.class) (not (is_one_letter name.word))
      (ap is_compared (sym held) ∙ (has options form.items (get_or names other d) passes).0)
      in
      absurd (true≢false (sym ordinary ∙ macro)))
      (λ e. e))
      ∙ sym macro)

-- the same by the class at the place
pub taken-found : (options : Options) (names : List Name) (places : Places) → FindsByForm options names places
    → (form : Vec ℕ) (id : ℕ) → id < length names → get is_same_key places form ≡ Some id
    → is_form_taken options form.items names ≡ is_ordinary (class_of id names)
taken-found options names places finds form id within found =
    let name : Name = get_or names id (new_name [] Ordinary) in
    let is : slice_get names id ≡ Some name = slice_get-get_or names id (new_name [] Ordinary) within in
    taken-some options names places finds form id name found is
    ∙ ap (λ held. is_ordinary (option_map_or (λ (name : Name). name.class) held Ordinary)) (sym is)

-- what is found is a place
pub found-within : (options : Options) (names : List Name) (places : Places) → FindsByForm options names places
    → (form : Vec ℕ) (id : ℕ) → get is_same_key places form ≡ Some id → id < length names
found-within options names places finds form id found =
    subst (λ n. id < n) (length-map names (λ (name : Name). compared_form options name.word))
    (slice_get_within (map (λ (name : Name). compared_form options name.word) names) id form.items
    (finds.form form id found))

-- the index after a name that is not compared was added
pub finds-push : (options : Options) (names : List Name) (places : Places) (name : Name) → is_compared name ≡ false
    → FindsByForm options names places → FindsByForm options (names ++ name ∷ []) places
finds-push options names places name apart finds = record {
  found = λ id other form is compared same.
      elim (slice_get-push names name id other is) [
        | inl old ↦ finds.found id other form old compared same
        | inr new ↦ absurd (true≢false (sym compared ∙ ap is_compared new.1 ∙ apart))
      ];
  form = λ form id found. push_at (λ (name : Name). compared_form options name.word) names name id form.items
      (finds.form form id found);
  letters = λ form id found. push_at (λ (name : Name). is_one_letter name.word) names name id false
      (finds.letters form id found);
}

-- the index after a name was added by its form, which was not taken
pub finds-push_compared : (options : Options) (names : List Name) (places new : Places) (name : Name) (key : Vec ℕ)
    → is_one_letter name.word ≡ false → key.items ≡ compared_form options name.word
    → is_form_taken options key.items names ≡ false
    → ((form : Vec ℕ) → get is_same_key new form ≡ cond (is_same_key key form) (Some (length names))
    (get is_same_key places form))
    → FindsByForm options names places → FindsByForm options (names ++ name ∷ []) new
finds-push_compared options names places new name key letters own free updates finds = record {
  found = λ id other form is compared same.
      elim (slice_get-push names name id other is) [
        | inl old ↦
            (let differs : is_same_key key form ≡ false =
            by_test (is_same_key key form) _
            (λ equal. absurd (true≢false
            (sym (list_any_at (has_form options key.items) names id other
            (slice_get_within names id other old)
            (ap (has_form options key.items) (get_or_from_slice_get names id other other old)
            ∙ and_both (is_compared other)
            (bytes_eq key.items (compared_form options other.word)) compared
            ((bytes_eq-Decides key.items (compared_form options other.word)).1
            ((bytes_eq-Decides key.items form.items).0 equal ∙ same)))) ∙ free)))
            (λ e. e) in
            updates form ∙ ap (λ b. cond b (Some (length names)) (get is_same_key places form)) differs
            ∙ finds.found id other form old compared same)
        | inr last ↦
            (let equal : is_same_key key form ≡ true = (bytes_eq-Decides key.items form.items).1
            (own ∙ ap (λ (name : Name). compared_form options name.word) (sym last.1) ∙ sym same) in
            updates form ∙ ap (λ b. cond b (Some (length names)) (get is_same_key places form)) equal
            ∙ ap Some (sym last.0))
      ];
  form = λ form id found. by_test (is_same_key key form) _
      (λ equal.
      let last : id ≡ length names =
      some_equal
      (sym found ∙ updates form
      ∙ ap (λ b. cond b (Some (length names)) (get is_same_key places form)) equal) in
      ap (slice_get (map (λ (name : Name). compared_form options name.word) (names ++ name ∷ []))) last
      ∙ push_last (λ (name : Name). compared_form options name.word) names name
      ∙ ap Some (sym own ∙ (bytes_eq-Decides key.items form.items).0 equal))
      (λ differs.
      push_at (λ (name : Name). compared_form options name.word) names name id form.items
      (finds.form form id (sym
      (ap (λ b. cond b (Some (length names)) (get is_same_key places form)) differs)
      ∙ sym (updates form) ∙ found)));
  letters = λ form id found. by_test (is_same_key key form) _
      (λ equal.
      let last : id ≡ length names =
      some_equal
      (sym found ∙ updates form
      ∙ ap (λ b. cond b (Some (length names)) (get is_same_key places form)) equal) in
      ap (slice_get (map (λ (name : Name). is_one_letter name.word) (names ++ name ∷ []))) last
      ∙ push_last (λ (name : Name). is_one_letter name.word) names name ∙ ap Some letters)
      (λ differs.
      push_at (λ (name : Name). is_one_letter name.word) names name id false
      (finds.letters form id
      (sym (ap (λ b. cond b (Some (length names)) (get is_same_key places form)) differs)
      ∙ sym (updates form) ∙ found)));
}

-- the index after a name was changed, which keeps its word and is not compared where it was not before
pub finds-changed_at : (options : Options) (names : List Name) (places : Places) (at : ℕ) (change : Name → Name)
    → ((name : Name) → (change name).word ≡ name.word)
    → ((name : Name) → is_compared (change name) ≡ true → is_compared name ≡ true)
    → FindsByForm options names places → FindsByForm options (changed_at at change names) places
finds-changed_at options names places at change keeps compares finds = record {
  found = λ id other form is compared same.
      elim (slice_get-changed_at change at names id other is) [
        | inl old ↦ finds.found id other form old.1 compared same
        | inr here ↦ finds.found id here.1.0 form here.1.1
            (compares here.1.0 (ap is_compared (sym here.1.2) ∙ compared))
            (same ∙ ap (λ (name : Name). compared_form options name.word) here.1.2
            ∙ ap (compared_form options) (keeps here.1.0))
      ];
  form = λ form id found.
      ap (λ forms. slice_get forms id)
      (map-changed_at (λ (name : Name). compared_form options name.word) change
      (λ name. ap (compared_form options) (keeps name)) at names)
      ∙ finds.form form id found;
  letters = λ form id found.
      ap (λ letters. slice_get letters id)
      (map-changed_at (λ (name : Name). is_one_letter name.word) change
      (λ name. ap is_one_letter (keeps name)) at names)
      ∙ finds.letters form id found;
}

-- a macro is not compared
pub macro_not_compared : (class : Class) (name : Name) → class ≢ Ordinary → is_compared (with_class class name) ≡ true
    → is_compared name ≡ true
macro_not_compared Ordinary name differs compared = absurd (differs refl)
macro_not_compared Numeric name differs compared = absurd (true≢false (sym compared))
macro_not_compared Simple name differs compared = absurd (true≢false (sym compared))
macro_not_compared Parametric name differs compared = absurd (true≢false (sym compared))
