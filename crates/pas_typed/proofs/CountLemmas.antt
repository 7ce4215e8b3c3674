-- Counts of cells, of which the code keeps no more than a number of 64 bits tells.
use Rattle.std.proofs.Common.{◌≡◌, refl, sym, ap, ◌∙◌, ℕ, zero, suc, ◌+◌, ◌*◌, ◌^◌, ◌-◌, ◌<◌, ◌≤◌, min, arith}
use Rattle.std.specs.Prelude.{nat_le}
use Rattle.std.proofs.lemmas.Bool.Decides.{nat_tests}
use Rattle.std.proofs.Common.{inl, inr, List, [], ◌∷◌, length, take, get_or, map}
use Rattle.std.specs.List.{sum_by, fold}
use Rattle.std.proofs.Math.Nat.{zero-min, min-eq_left, min-eq_right, le-mul_of_pos_right, mul_comm}
use Rattle.std.proofs.lemmas.Bool.{cases_lt}
use Rattle.std.proofs.lemmas.List.{take_all}
use Rattle.std.proofs.lemmas.List.Sums.{sum_by_more}
use Rattle.pas_typed.specs.TypeViews.{counted}

-- a limit that a number of 64 bits tells is passed by what the code keeps where it is passed by the count
pub nat_le-counted : (cells limit : ℕ) → limit < 2 ^ 64 - 1 → nat_le (counted cells) limit ≡ nat_le cells limit
nat_le-counted cells limit less = grind (arith, nat_tests)

-- the sum and the product of counts
pub counted-add : (m n c d : ℕ) → counted m ≡ c → counted n ≡ d → counted (m + n) ≡ counted (c + d)
counted-add m n c d is also = omega arith

bounded-mul_left : (most m n : ℕ) → 1 ≤ most → most < m → min (m * n) most ≡ min (most * min n most) most
bounded-mul_left most m zero some more = rw zero-min (omega arith)
bounded-mul_left most m (suc n) some more =
    let any : zero < min (suc n) most = omega arith in
    let left : m ≤ m * suc n = le-mul_of_pos_right m (omega arith) in
    let right : most ≤ most * min (suc n) most = le-mul_of_pos_right most any in
    min-eq_right (omega arith) ∙ sym (min-eq_right right)

bounded-mul : (most m n : ℕ) → 1 ≤ most → min (m * n) most ≡ min (min m most * min n most) most
bounded-mul most m n some = elim (cases_lt most m) [
  | inl more ↦ rw (min-eq_right {n = most} {m = m} (omega arith)) (bounded-mul_left most m n some more)
  | inr less ↦ elim (cases_lt most n) [
    | inl more ↦ rw (min-eq_right {n = most} {m = n} (omega arith), mul_comm m n, mul_comm (min m most) most)
        (bounded-mul_left most n m some more)
    | inr also ↦ rw (min-eq_left less, min-eq_left also)
  ]
]

pub counted-mul : (m n c d counted_both : ℕ) → c ≡ counted m → counted n ≡ d → counted_both ≡ counted (c * d)
    → counted (m * n) ≡ counted_both
counted-mul m n c d both is also then =
    bounded-mul (2 ^ 64 - 1) m n (omega arith) ∙ sym (rw (then, is, ← also))

pub counted_more : {X : Type 0} (f : X → ℕ) (xs : List X) (i : ℕ) (d : X) (so_far more : ℕ) → i < length xs
    → counted (sum_by f (take i xs)) ≡ so_far → counted (f (get_or xs i d)) ≡ more
    → counted (sum_by f (take (i + 1) xs)) ≡ counted (so_far + more)
counted_more f xs i d so_far more less is also =
    rw (sum_by_more f xs i d less) (counted-add (sum_by f (take i xs)) (f (get_or xs i d)) so_far more is also)

fold-map : {X Y : Type 0} (f : Y → ℕ) (view : X → Y) (n : ℕ) (xs : List X)
    → fold (λ a y. a + f y) n (map view xs) ≡ fold (λ a x. a + f (view x)) n xs
fold-map f view n [] = refl
fold-map f view n (x ∷ xs) = fold-map f view (n + f (view x)) xs

pub counted_all : {X Y : Type 0} (f : Y → ℕ) (view : X → Y) (xs : List X) (i cells : ℕ) → length xs ≤ i
    → counted (sum_by (λ x. f (view x)) (take i xs)) ≡ cells → counted (sum_by f (map view xs)) ≡ cells
counted_all f view xs i cells all is =
    ap counted (fold-map f view 0 xs) ∙ (rw (take_all i xs all) at is)
