-- The place of the first element of a list that passes a test.
use Rattle.std.proofs.Common.{◌≡◌, ℕ, ◌+◌, ◌<◌, ◌≤◌, inl, inr, Bool, true, false, not, cond, List, [], ◌∷◌}
use Rattle.std.proofs.Common.{length, get_or, map, position, Some, None, refl, sym, ap, ◌∙◌, arith}
use Rattle.std.proofs.Common.{nat_lt}
use Rattle.std.specs.List.{position_or_len, list_any}
use Rattle.std.proofs.lemmas.Bool.{lt-ltb, le-ltb, cases_lt}
use Rattle.std.proofs.lemmas.List.{length-map}
use Rattle.std.proofs.lemmas.List.Folds.{list_any_none}
use Rattle.std.proofs.lemmas.List.Sums.{fails_before_first, passes_at_first}

module _ {X Y : Type 0} (test : Y → Bool) (f : X → Y) where
  prefix_len-map : (xs : List X) → position_or_len test (map f xs) ≡ position_or_len (λ x. test (f x)) xs
  prefix_len-map [] = refl
  prefix_len-map (x ∷ xs) = ap (λ n. cond (not (test (f x))) (1 + n) 0) (prefix_len-map xs)

  -- the place among the values of a function
  pub position-map : (xs : List X) → position test (map f xs) ≡ position (λ x. test (f x)) xs
  position-map xs = λ i. cond (nat_lt (prefix_len-map xs i) (length-map xs f i)) (Some (prefix_len-map xs i)) None

module _ {X : Type 0} (test : X → Bool) (xs : List X) where
  at_first : position_or_len test xs < length xs → position test xs ≡ Some (position_or_len test xs)
  at_first within = ap (λ b. cond b (Some (position_or_len test xs)) None)
      (lt-ltb (position_or_len test xs) (length xs) within)

  at_end : length xs ≤ position_or_len test xs → position test xs ≡ None
  at_end past = ap (λ b. cond b (Some (position_or_len test xs)) None)
      (le-ltb (position_or_len test xs) (length xs) past)

  -- where there is no place, no element passes
  pub fails_everywhere : position test xs ≡ None → (place : ℕ) (d : X) → place < length xs
      → test (get_or xs place d) ≡ false
  fails_everywhere none place d within =
      elim (cases_lt (position_or_len test xs) (length xs)) [
        | inl less ↦ absurd (some_none (sym (at_first less) ∙ none))
        | inr past ↦ fails_before_first test xs place d (omega arith)
      ]
    where
      some_none : {i : ℕ} → Some i ≡ None → ⊥
      some_none e = cc

  pub no_element : position test xs ≡ None → list_any test xs ≡ false
  no_element none = list_any_none test xs (λ place d within. fails_everywhere none place d within)

  -- the element at the place passes
  pub passes_at : (place : ℕ) (d : X) → position test xs ≡ Some place
      → (place < length xs) × (test (get_or xs place d) ≡ true)
  passes_at place d some =
      elim (cases_lt (position_or_len test xs) (length xs)) [
        | inl less ↦ (let same : position_or_len test xs ≡ place = cc (at_first less) in
            (omega arith, ap (λ at. test (get_or xs at d)) (sym same) ∙ passes_at_first test xs d less))
        | inr past ↦ absurd (none_some (sym (at_end past) ∙ some))
      ]
    where
      none_some : {i : ℕ} → None ≡ Some i → ⊥
      none_some e = cc
