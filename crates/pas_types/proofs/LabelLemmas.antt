-- What is known of labels, as it changes.
use Rattle.std.proofs.Common.{◌≡◌, refl, sym, ap, subst, ◌∙◌, ℕ, ◌+◌, ◌-◌, arith, Bool, true, false, List, [], ◌∷◌}
use Rattle.std.proofs.Common.{◌++◌, map, Option, Some, None, Ok}
use Rattle.std.specs.Prelude.{◌==◌, ◌||◌, not, nat_eq, if◌then◌else◌, cond, position, is_some}
use Rattle.std.specs.List.{AllByRecursion}
use Rattle.std.specs.List.{IsDistinct}
use Rattle.std.specs.Map.{lookup, keys_of}
use Rattle.std.proofs.lemmas.Bool.{eqb-true, eq-eqb}
use Rattle.indexmap.specs.IndexMap.{insert_entry, set_value_at}
use Rattle.indexmap.proofs.MapLemmas.{insert_entry-first, Found-position}
use Rattle.pas_types.specs.declared.labels.Label.{Label}
use Rattle.pas_rules.specs.Labels.{has_label}
use Rattle.pas_scopes.specs.Stopping.{demanded}
use Rattle.pas_types.specs.inner.LabelViews.{Known, numbers_of, times, changed_at, put_label}
use Rattle.pas_types.specs.inner.LabelViews.{entered, left}
use Rattle.pas_types.specs.inner.LabelViews.{stood}

-- one of two by a test that is known
pub by_true : {A : Type 0} (b : Bool) (x y : A) → b ≡ true → (if b then x else y) ≡ x
by_true b x y is = ap (λ (test : Bool). if test then x else y) is

pub by_false : {A : Type 0} (b : Bool) (x y : A) → b ≡ false → (if b then x else y) ≡ y
by_false b x y is = ap (λ (test : Bool). if test then x else y) is

-- a label that is among others, in whatever order they are compared
pub same_sides : (a b : ℕ) → nat_eq a b ≡ nat_eq b a
same_sides a b = sides (nat_eq a b) (nat_eq b a) refl refl
  where
    sides : (x y : Bool) → nat_eq a b ≡ x → nat_eq b a ≡ y → x ≡ y
    sides true true e f = refl
    sides false false e f = refl
    sides true false e f = sym (eq-eqb b a (sym (eqb-true a b e))) ∙ f
    sides false true e f = sym e ∙ eq-eqb a b (sym (eqb-true b a f))

pub found_has : (label : ℕ) (labels : Known)
    → is_some (lookup (nat_eq label) labels) ≡ has_label (numbers_of labels) label
found_has label [] = refl
found_has label (known ∷ labels) =
    at (nat_eq label known.0) (found_has label labels)
    ∙ ap (λ (b : Bool). b || has_label (numbers_of labels) label) (same_sides label known.0)
  where
    at : (b : Bool) → is_some (lookup (nat_eq label) labels) ≡ has_label (numbers_of labels) label
        → is_some (cond b (Some known.1) (lookup (nat_eq label) labels)) ≡ b || has_label (numbers_of labels) label
    at true more = refl
    at false more = more

-- a change of a label that is not there
module _ (label : ℕ) (change : Label → Label) where
  changed_absent : (labels : Known) → AllByRecursion (λ key. nat_eq label key ≡ false) (keys_of labels)
      → changed_at label change labels ≡ labels
  changed_absent [] h = refl
  changed_absent (known ∷ labels) h =
      ap (λ (first : ℕ × Label). first ∷ changed_at label change labels)
      (by_false (nat_eq label known.0) (known.0, change known.1) known h.0)
      ∙ ap (λ (rest : Known). known ∷ rest) (changed_absent labels h.1)

  pub changed_nowhere : (labels : Known) → is_some (lookup (nat_eq label) labels) ≡ false
      → changed_at label change labels ≡ labels
  changed_nowhere [] h = refl
  changed_nowhere (known ∷ labels) h = at (nat_eq label known.0) refl (λ k. changed_nowhere labels k)
    where
      at : (b : Bool) → nat_eq label known.0 ≡ b
          → (is_some (lookup (nat_eq label) labels) ≡ false → changed_at label change labels ≡ labels)
          → changed_at label change (known ∷ labels) ≡ known ∷ labels
      at true same more =
          absurd (true_not_false (ap is_some (sym (by_true (nat_eq label known.0) (Some known.1)
          (lookup (nat_eq label) labels) same)) ∙ h))
        where
          true_not_false : true ≡ false → ⊥
          true_not_false e = cc
      at false same more =
          ap (λ (first : ℕ × Label). first ∷ changed_at label change labels)
          (by_false (nat_eq label known.0) (known.0, change known.1) known same)
          ∙ ap (λ (rest : Known). known ∷ rest) (more
          (ap is_some (sym (by_false (nat_eq label known.0) (Some known.1) (lookup (nat_eq label) labels) same)) ∙ h))

  pub changed_none : (labels : Known) → lookup (nat_eq label) labels ≡ None → changed_at label change labels ≡ labels
  changed_none labels h = changed_nowhere labels (ap is_some h)

others : (label : ℕ) (keys : List ℕ) (key : ℕ) → label ≡ key → AllByRecursion (λ other. nat_eq key other ≡ false) keys
    → AllByRecursion (λ other. nat_eq label other ≡ false) keys
others label keys key same h =
    subst (λ (k : ℕ). AllByRecursion (λ other. nat_eq k other ≡ false) keys) (sym same) h

-- what is put at a label
module _ (label : ℕ) (found : Label) where
  put_inserted : (labels : Known) → IsDistinct nat_eq (keys_of labels)
      → is_some (lookup (nat_eq label) labels) ≡ true
      → insert_entry nat_eq labels label found ≡ put_label label found labels
  unfolding IsDistinct
  put_inserted [] h there = cc
  put_inserted (known ∷ labels) h there = at (nat_eq label known.0) refl (λ k. put_inserted labels h.1 k)
    where
      at : (b : Bool) → nat_eq label known.0 ≡ b
          → (is_some (lookup (nat_eq label) labels) ≡ true
          → insert_entry nat_eq labels label found ≡ put_label label found labels)
          → insert_entry nat_eq (known ∷ labels) label found ≡ put_label label found (known ∷ labels)
      at true same more =
          by_true (nat_eq label known.0) ((known.0, found) ∷ labels) (known ∷ insert_entry nat_eq labels label found)
          same
          ∙ (ap (λ (rest : Known). (known.0, found) ∷ rest)
          (sym (changed_absent label (λ other. found) labels
          (others label (keys_of labels) known.0 (eqb-true label known.0 same) h.0)))
          ∙ ap (λ (first : ℕ × Label). first ∷ put_label label found labels)
          (sym (by_true (nat_eq label known.0) (known.0, found) known same)))
      at false same more =
          by_false (nat_eq label known.0) ((known.0, found) ∷ labels) (known ∷ insert_entry nat_eq labels label found)
          same
          ∙ (ap (λ (rest : Known). known ∷ rest) (more
          (ap is_some (sym (by_false (nat_eq label known.0) (Some known.1) (lookup (nat_eq label) labels) same))
          ∙ there))
          ∙ ap (λ (first : ℕ × Label). first ∷ put_label label found labels)
          (sym (by_false (nat_eq label known.0) (known.0, found) known same)))

  pub put_at : (labels : Known) (at : ℕ) → position (nat_eq label) (keys_of labels) ≡ Some at
      → is_some (lookup (nat_eq label) labels) ≡ true → IsDistinct nat_eq (keys_of labels)
      → set_value_at labels at found ≡ put_label label found labels
  put_at labels at is there distinct =
      sym (insert_entry-first nat_eq label found labels at (Found-position (nat_eq label) labels at is).first)
      ∙ put_inserted labels distinct there

  pub put_nowhere : (labels : Known) → is_some (lookup (nat_eq label) labels) ≡ false
      → put_label label found labels ≡ labels
  put_nowhere labels h = changed_nowhere label (λ other. found) labels h

-- a label that is known becomes another one
pub put_changed : (label : ℕ) (change : Label → Label) (found : Label) (labels : Known)
    → IsDistinct nat_eq (keys_of labels) → lookup (nat_eq label) labels ≡ Some found
    → put_label label (change found) labels ≡ changed_at label change labels
unfolding IsDistinct
put_changed label change found [] h is = refl
put_changed label change found (known ∷ labels) h is =
    at (nat_eq label known.0) refl (λ k. put_changed label change found labels h.1 k)
  where
    at : (b : Bool) → nat_eq label known.0 ≡ b
        → (lookup (nat_eq label) labels ≡ Some found
        → put_label label (change found) labels ≡ changed_at label change labels)
        → put_label label (change found) (known ∷ labels) ≡ changed_at label change (known ∷ labels)
    at true same more =
        let there : AllByRecursion (λ other. nat_eq label other ≡ false) (keys_of labels) =
        others label (keys_of labels) known.0 (eqb-true label known.0 same) h.0 in
        let first : Some known.1 ≡ Some found =
        sym (by_true (nat_eq label known.0) (Some known.1) (lookup (nat_eq label) labels) same) ∙ is in
        let this : known.1 ≡ found = cc in
        (λ i. by_true (nat_eq label known.0) (known.0, change found) known same i
        ∷ changed_absent label (λ other. change found) labels there i)
        ∙ (ap (λ (f : Label). (known.0, change f) ∷ labels) (sym this)
        ∙ sym (λ i. by_true (nat_eq label known.0) (known.0, change known.1) known same i
        ∷ changed_absent label change labels there i))
    at false same more =
        (λ i. by_false (nat_eq label known.0) (known.0, change found) known same i
        ∷ more (sym (by_false (nat_eq label known.0) (Some known.1) (lookup (nat_eq label) labels) same) ∙ is) i)
        ∙ ap (λ (first : ℕ × Label). first ∷ changed_at label change labels)
        (sym (by_false (nat_eq label known.0) (known.0, change known.1) known same))

-- one label more
abbrev pub raised : Label → Label
raised found = record { stands = found.stands; around = found.around + 1 }

abbrev pub lowered : Label → Label
lowered found = record { stands = found.stands; around = found.around - 1 }

abbrev pub standing : Label → Label
standing found = record { stands = true; around = found.around }

-- maps that agree at each item
map_same : {A B : Type 0} (f g : A → B) → ((x : A) → f x ≡ g x) → (xs : List A) → map f xs ≡ map g xs
map_same f g same xs = λ i. map (λ x. same x i) xs

module _ (label : ℕ) where
  raised_at : (known : ℕ × Label)
      → (if label == known.0 then (known.0, raised known.1) else known)
      ≡ (known.0, record { stands = known.1.stands; around = known.1.around + times known.0 (label ∷ []) })
  raised_at known = at (label == known.0)
    where
      at : (b : Bool) → (if b then (known.0, raised known.1) else known)
          ≡ (known.0, record { stands = known.1.stands; around = known.1.around + ((if b then 1 else 0) + 0) })
      at true = refl
      at false = ap (λ (n : ℕ). (known.0, record { stands = known.1.stands; around = n })) (omega arith)

  lowered_at : (known : ℕ × Label)
      → (if label == known.0 then (known.0, lowered known.1) else known)
      ≡ (known.0, record { stands = known.1.stands; around = known.1.around - times known.0 (label ∷ []) })
  lowered_at known = at (label == known.0)
    where
      at : (b : Bool) → (if b then (known.0, lowered known.1) else known)
          ≡ (known.0, record { stands = known.1.stands; around = known.1.around - ((if b then 1 else 0) + 0) })
      at true = refl
      at false = ap (λ (n : ℕ). (known.0, record { stands = known.1.stands; around = n })) (omega arith)

  standing_at : (known : ℕ × Label)
      → (if label == known.0 then (known.0, standing known.1) else known)
      ≡ (known.0, record { stands = known.1.stands || label == known.0; around = known.1.around })
  standing_at known = at (label == known.0) known.1.stands
    where
      at : (b stands : Bool)
          → ◌≡◌ {A = ℕ × Label} (if b then (known.0, record { stands = true; around = known.1.around })
          else (known.0, record { stands = stands; around = known.1.around }))
          (known.0, record { stands = stands || b; around = known.1.around })
      at true true = refl
      at true false = refl
      at false true = refl
      at false false = refl

  pub put_entered : (found : Label) (labels : Known) → IsDistinct nat_eq (keys_of labels)
      → lookup (nat_eq label) labels ≡ Some found → put_label label (raised found) labels ≡ entered (label ∷ []) labels
  put_entered found labels h is = put_changed label raised found labels h is ∙ map_same _ _ raised_at labels

  pub put_left : (found : Label) (labels : Known) → IsDistinct nat_eq (keys_of labels)
      → lookup (nat_eq label) labels ≡ Some found → put_label label (lowered found) labels ≡ left (label ∷ []) labels
  put_left found labels h is = put_changed label lowered found labels h is ∙ map_same _ _ lowered_at labels

  pub put_stood : (found : Label) (labels : Known) → IsDistinct nat_eq (keys_of labels)
      → lookup (nat_eq label) labels ≡ Some found → put_label label (standing found) labels ≡ stood label labels
  put_stood found labels h is = put_changed label standing found labels h is ∙ map_same _ _ standing_at labels

  -- where the label is not declared
  pub entered_nowhere : (labels : Known) → lookup (nat_eq label) labels ≡ None → entered (label ∷ []) labels ≡ labels
  entered_nowhere labels h = sym (map_same _ _ raised_at labels) ∙ changed_none label raised labels h

  pub left_nowhere : (labels : Known) → lookup (nat_eq label) labels ≡ None → left (label ∷ []) labels ≡ labels
  left_nowhere labels h = sym (map_same _ _ lowered_at labels) ∙ changed_none label lowered labels h

-- no labels, and labels of two lists
map_itself : {A : Type 0} (f : A → A) → ((x : A) → f x ≡ x) → (xs : List A) → map f xs ≡ xs
map_itself f same [] = refl
map_itself f same (x ∷ xs) = λ i. same x i ∷ map_itself f same xs i

pub entered_nothing : (labels : Known) → entered [] labels ≡ labels
entered_nothing labels =
    map_itself _ (λ known. ap (λ (n : ℕ). (known.0, record { stands = known.1.stands; around = n })) (omega arith))
    labels

pub left_nothing : (labels : Known) → left [] labels ≡ labels
left_nothing labels =
    map_itself _ (λ known. ap (λ (n : ℕ). (known.0, record { stands = known.1.stands; around = n })) (omega arith))
    labels

pub times_append : (label : ℕ) (one other : List ℕ) → times label (one ++ other) ≡ times label one + times label other
times_append label [] other = omega arith
times_append label (first ∷ one) other = omega (arith, times_append label one other)

map_twice : {A B C : Type 0} (f : A → B) (g : B → C) (xs : List A) → map g (map f xs) ≡ map (λ x. g (f x)) xs
map_twice f g [] = refl
map_twice f g (x ∷ xs) = ap (λ rest. g (f x) ∷ rest) (map_twice f g xs)

pub entered_both : (one other : List ℕ) (labels : Known)
    → entered other (entered one labels) ≡ entered (one ++ other) labels
entered_both one other labels =
    map_twice _ _ labels
    ∙ map_same _ _ (λ known. ap (λ (n : ℕ). (known.0, record { stands = known.1.stands; around = n }))
    (omega (arith, times_append known.0 one other))) labels

pub left_both : (one other : List ℕ) (labels : Known) → left other (left one labels) ≡ left (one ++ other) labels
left_both one other labels =
    map_twice _ _ labels
    ∙ map_same _ _ (λ known. ap (λ (n : ℕ). (known.0, record { stands = known.1.stands; around = n }))
    (omega (arith, times_append known.0 one other))) labels

-- what is nothing else is nothing
pub not_some : {A : Type 0} (found : Option A) → ((x : A) → found ≡ Some x → ⊥) → found ≡ None
not_some None h = refl
not_some (Some x) h = absurd (h x refl)

-- what is found nowhere
pub not_had : (label : ℕ) (labels : Known) → has_label (numbers_of labels) label ≡ false
    → lookup (nat_eq label) labels ≡ None
not_had label labels h = none_of (lookup (nat_eq label) labels) (found_has label labels ∙ h)
  where
    none_of : (found : Option Label) → is_some found ≡ false → found ≡ None
    none_of None e = refl
    none_of (Some label) e = cc

-- what was demanded holds
pub demanded_holds : (holds : Bool) (code line : ℕ) (done : Unit {0}) → demanded holds code line ≡ Ok done
    → holds ≡ true
demanded_holds true code line done is = refl
demanded_holds false code line done is = cc

pub not_true : (holds : Bool) → not holds ≡ true → holds ≡ false
not_true true is = sym is
not_true false is = refl
