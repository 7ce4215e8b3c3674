-- Whether statements of a list give a function its result, one after another.
use Rattle.std.proofs.Common.{◌≡◌, refl, sym, ap, ◌∙◌, ℕ, suc, ◌+◌, ◌<◌, List, [], ◌∷◌, ◌++◌, Bool, true, false}
use Rattle.std.proofs.Common.{◌||◌, length, take, drop, drop-cons, get_or}
use Rattle.std.proofs.lemmas.List.{take-append-drop}
use Rattle.pas_typed.specs.declared.typed.Labelled as code_labelled
use Rattle.pas_typed.specs.declared.typed.Arm as code_arm
use Rattle.pas_typed.specs.declared.typed.Statement.TheViews.{out-Labelled, out-Arm}
use Rattle.pas_typed.specs.declared.typed.Statement.TheFolds.{fold_out-Arm}
use Rattle.pas_typed.specs.Typed as typed
use Rattle.pas_typed.specs.Typed.{Statements, Arms}
use Rattle.pas_typed.specs.TypedViews.{statement_step, arm_step, labelled_step, statement_view, statements_view}
use Rattle.pas_typed.specs.TypedViews.{arm_view, arms_view}
use Rattle.pas_rules.specs.Routines.{gives_result, list_gives_result, arm_gives_result}
use Rattle.pas_scopes.proofs.LabelSeen.{taken_more}
use Rattle.pas_types.proofs.StatementLists.{labelled_seen}

-- a list around an item
pub around_item : {A : Type 0} (xs : List A) (i : ℕ) (x : A) → i < length xs → x ≡ get_or xs i x
    → xs ≡ take i xs ++ x ∷ drop (suc i) xs
around_item xs i x within is =
    sym (take-append-drop i xs)
    ∙ ap (λ rest. take i xs ++ rest) (drop-cons xs i x within ∙ ap (λ item. item ∷ drop (suc i) xs) (sym is))

-- a test that is made of each item
module _ {A : Type 0} (test : A → Bool) (any : List A → Bool) (nothing : any [] ≡ false)
    (one : (x : A) (xs : List A) → any (x ∷ xs) ≡ test x || any xs) where
  pub some_has : (xs : List A) (x : A) (ys : List A) → test x ≡ true → any (xs ++ x ∷ ys) ≡ true
  some_has [] x ys h = one x ys ∙ ap (λ (b : Bool). b || any ys) h
  some_has (first ∷ xs) x ys h =
      one first (xs ++ x ∷ ys) ∙ (ap (λ (b : Bool). test first || b) (some_has xs x ys h) ∙ or_true (test first))
    where
      or_true : (b : Bool) → b || true ≡ true
      or_true true = refl
      or_true false = refl

  pub none_more : (xs : List A) (x : A) → any xs ≡ false → test x ≡ false → any (xs ++ x ∷ []) ≡ false
  none_more [] x h k = one x [] ∙ (ap (λ (b : Bool). b || any []) k ∙ nothing)
  none_more (first ∷ xs) x h k = at (test first) refl (λ rest. none_more xs x rest k)
    where
      at : (b : Bool) → test first ≡ b → (any xs ≡ false → any (xs ++ x ∷ []) ≡ false)
          → any (first ∷ (xs ++ x ∷ [])) ≡ false
      at true is more = absurd (true_not_false (sym (one first xs ∙ ap (λ (b : Bool). b || any xs) is) ∙ h))
        where
          true_not_false : true ≡ false → ⊥
          true_not_false e = cc
      at false is more =
          one first (xs ++ x ∷ [])
          ∙ (ap (λ (b : Bool). b || any (xs ++ x ∷ [])) is
          ∙ more (sym (one first xs ∙ ap (λ (b : Bool). b || any xs) is) ∙ h))

module _ (spellings : List ℕ) where
  abbrev pub item_gives : code_labelled.Labelled → Bool
  item_gives x = gives_result (statement_view spellings (out-Labelled x).statement)

  abbrev pub list_gives : List code_labelled.Labelled → Bool
  list_gives list = list_gives_result (statements_view spellings list)

  one_item : (x : code_labelled.Labelled) (xs : List code_labelled.Labelled)
      → list_gives (x ∷ xs) ≡ item_gives x || list_gives xs
  one_item x xs =
      ap (λ (step : Statements → Statements). list_gives_result (step (statements_view spellings xs)))
      (labelled_seen spellings x)

  pub item_has : (list : List code_labelled.Labelled) (i : ℕ) (x : code_labelled.Labelled) → i < length list
      → x ≡ get_or list i x → item_gives x ≡ true → list_gives list ≡ true
  item_has list i x within is h =
      ap list_gives (around_item list i x within is)
      ∙ some_has item_gives list_gives refl one_item (take i list) x (drop (suc i) list) h

  pub item_lacks : (list : List code_labelled.Labelled) (i : ℕ) (x : code_labelled.Labelled) → i < length list
      → x ≡ get_or list i x → list_gives (take i list) ≡ false → item_gives x ≡ false
      → list_gives (take (i + 1) list) ≡ false
  item_lacks list i x within is h k =
      ap list_gives (taken_more list i x within is)
      ∙ none_more item_gives list_gives refl one_item (take i list) x h k

  abbrev pub arm_gives : code_arm.Arm → Bool
  arm_gives x = gives_result (statement_view spellings (out-Arm x).statement)

  abbrev pub arms_give : List code_arm.Arm → Bool
  arms_give arms = arm_gives_result (arms_view spellings arms)

  pub arm_seen : (x : code_arm.Arm)
      → arm_view spellings x
      ≡ (λ others. typed.arm (out-Arm x).constants (statement_view spellings (out-Arm x).statement) others)
  arm_seen =
      fold_out-Arm typed.Statement (Arms → Arms) (Statements → Statements) (statement_step spellings) arm_step
      labelled_step

  one_arm : (x : code_arm.Arm) (xs : List code_arm.Arm) → arms_give (x ∷ xs) ≡ arm_gives x || arms_give xs
  one_arm x xs = ap (λ (step : Arms → Arms). arm_gives_result (step (arms_view spellings xs))) (arm_seen x)

  pub arm_has : (arms : List code_arm.Arm) (i : ℕ) (x : code_arm.Arm) → i < length arms → x ≡ get_or arms i x
      → arm_gives x ≡ true → arms_give arms ≡ true
  arm_has arms i x within is h =
      ap arms_give (around_item arms i x within is)
      ∙ some_has arm_gives arms_give refl one_arm (take i arms) x (drop (suc i) arms) h

  pub arm_lacks : (arms : List code_arm.Arm) (i : ℕ) (x : code_arm.Arm) → i < length arms → x ≡ get_or arms i x
      → arms_give (take i arms) ≡ false → arm_gives x ≡ false → arms_give (take (i + 1) arms) ≡ false
  arm_lacks arms i x within is h k =
      ap arms_give (taken_more arms i x within is)
      ∙ none_more arm_gives arms_give refl one_arm (take i arms) x h k
