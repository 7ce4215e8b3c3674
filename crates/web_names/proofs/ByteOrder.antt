-- The order of bytes, and what stands between a prefix and a name that begins with it.
use Rattle.std.proofs.Common.{◌≡◌, ◌≢◌, ℕ, Bool, true, false, cond, ◌&&◌, List, [], ◌∷◌, nat_eq, nat_lt, refl}
use Rattle.std.proofs.Common.{sym, ap, ◌∙◌, arith, true≢false}
use Rattle.std.specs.Cmp.Lexicographic.{slice_cmp}
use Rattle.std.specs.Ordering.{nat_cmp, is_lt}
use Rattle.std.specs.declared.cmp.Ordering.{Ordering}
use Rattle.std.specs.declared.cmp.Ordering.TheVariants.{Less, Equal, Greater}
use Rattle.std.proofs.lemmas.Cmp.{nat_list_cmp_total, same_from_slice_cmp, tied_itself}
use Rattle.std.proofs.lemmas.Bool.Decides.{nat_tests}
use Rattle.web_names.specs.SectionNames.{is_prefix_of}
use Rattle.web_names.specs.inner.SectionOrder.{is_before}

-- the case of a test
pub by_test : (b : Bool) (P : Type 0) → (b ≡ true → P) → (b ≡ false → P) → P
by_test b P passes fails = (elim b as (λ v. (b ≡ v) → P) [ true ↦ passes | false ↦ fails ]) refl

less : (o : Ordering) → is_lt o ≡ true → o ≡ Less
less Less e = refl
less Equal e = absurd (true≢false (sym e))
less Greater e = absurd (true≢false (sym e))

-- the order is transitive
pub is_before-trans : (a b c : List ℕ) → is_before a b ≡ true → is_before b c ≡ true → is_before a c ≡ true
unfolding is_before
is_before-trans a b c first second = ap is_lt (nat_list_cmp_total.trans a b c (less _ first) (less _ second))

-- what comes after a name that does not come before another does not come before the other either
pub not_before-after : (a b c : List ℕ) → is_before a c ≡ false → is_before a b ≡ true → is_before b c ≡ false
not_before-after a b c from after =
    by_test (is_before b c) (is_before b c ≡ false)
    (λ before. absurd (true≢false (sym (is_before-trans a b c after before) ∙ from))) (λ e. e)

-- a name does not come before itself
pub not_before-itself : (a : List ℕ) → is_before a a ≡ false
unfolding is_before
not_before-itself a = ap is_lt (tied_itself nat_list_cmp_total a)

-- `is_before` by recursion
abbrev before : List ℕ → List ℕ → Bool
before [] [] = false
before [] (y ∷ ys) = true
before (x ∷ xs) [] = false
before (x ∷ xs) (y ∷ ys) = cond (nat_eq x y) (before xs ys) (nat_lt x y)

is_before_is : (a b : List ℕ) → is_before a b ≡ before a b
unfolding is_before
is_before_is a b = same_from_slice_cmp nat_cmp is_lt before refl (λ _ _. refl) (λ _ _. refl)
    (λ x y xs ys o h. grind (arith, nat_tests)) a b (slice_cmp nat_cmp a b) refl

-- `is_prefix_of` by recursion
abbrev begins : List ℕ → List ℕ → Bool
begins [] name = true
begins (x ∷ prefix) [] = false
begins (x ∷ prefix) (y ∷ name) = nat_eq x y && begins prefix name

is_prefix_of_is : (prefix name : List ℕ) → is_prefix_of prefix name ≡ begins prefix name
unfolding is_prefix_of
is_prefix_of_is [] name = refl
is_prefix_of_is (x ∷ prefix) [] = refl
is_prefix_of_is (x ∷ prefix) (y ∷ name) = ap (λ b. nat_eq x y && b) (is_prefix_of_is prefix name)

-- two lists of which neither comes before the other are the same
neither : (a b : List ℕ) → before a b ≡ false → before b a ≡ false → a ≡ b
neither [] [] p q = refl
neither [] (y ∷ ys) p q = absurd (true≢false p)
neither (x ∷ xs) [] p q = absurd (true≢false q)
neither (x ∷ xs) (y ∷ ys) p q =
    let heads : (x ≡ y) × (before xs ys ≡ false) × (before ys xs ≡ false) = grind (arith, nat_tests) in
    (λ i. heads.0 i ∷ neither xs ys heads.1 heads.2 i)

begins_not_before : (prefix name : List ℕ) → begins prefix name ≡ true → before name prefix ≡ false
begins_not_before [] [] p = refl
begins_not_before [] (y ∷ name) p = refl
begins_not_before (x ∷ prefix) [] p = absurd (true≢false (sym p))
begins_not_before (x ∷ prefix) (y ∷ name) p =
    let heads : (x ≡ y) × (begins prefix name ≡ true) = grind (arith, nat_tests) in
    let rest : before name prefix ≡ false = begins_not_before prefix name heads.1 in
    grind (arith, nat_tests)

begins_between : (prefix between name : List ℕ) → begins prefix name ≡ true → before between prefix ≡ false
    → before name between ≡ false → begins prefix between ≡ true
begins_between [] between name p q r = refl
begins_between (x ∷ prefix) between [] p q r = absurd (true≢false (sym p))
begins_between (x ∷ prefix) [] (z ∷ name) p q r = absurd (true≢false q)
begins_between (x ∷ prefix) (y ∷ between) (z ∷ name) p q r =
    let heads : (x ≡ z) × (y ≡ x) × (begins prefix name ≡ true) × (before between prefix ≡ false) ×
    (before name between ≡ false) = grind (arith, nat_tests) in
    let rest : begins prefix between ≡ true = begins_between prefix between name heads.2 heads.3 heads.4 in
    grind (arith, nat_tests)

-- a name that begins with a prefix does not come before it
pub is_prefix_of-not_before : (prefix name : List ℕ) → is_prefix_of prefix name ≡ true → is_before name prefix ≡ false
is_prefix_of-not_before prefix name p =
    is_before_is name prefix ∙ begins_not_before prefix name (sym (is_prefix_of_is prefix name) ∙ p)

-- what stands between a prefix and a name that begins with it begins with it too
pub is_prefix_of-between : (prefix between name : List ℕ) → is_prefix_of prefix name ≡ true
    → is_before between prefix ≡ false → is_before name between ≡ false → is_prefix_of prefix between ≡ true
is_prefix_of-between prefix between name p q r =
    is_prefix_of_is prefix between
    ∙ begins_between prefix between name (sym (is_prefix_of_is prefix name) ∙ p)
    (sym (is_before_is between prefix) ∙ q) (sym (is_before_is name between) ∙ r)

-- a name that begins with another comes after it
pub is_prefix_of-before : (prefix name : List ℕ) → is_prefix_of prefix name ≡ true → prefix ≢ name
    → is_before prefix name ≡ true
is_prefix_of-before prefix name p apart =
    by_test (is_before prefix name) (is_before prefix name ≡ true) (λ e. e)
    (λ fails. absurd (apart
    (neither prefix name (sym (is_before_is prefix name) ∙ fails)
    (sym (is_before_is name prefix) ∙ is_prefix_of-not_before prefix name p))))

-- of two different names one comes before the other
pub not_before-before : (a b : List ℕ) → is_before a b ≡ false → a ≢ b → is_before b a ≡ true
not_before-before a b after apart =
    by_test (is_before b a) (is_before b a ≡ true) (λ e. e)
    (λ fails. absurd (apart (neither a b (sym (is_before_is a b) ∙ after) (sym (is_before_is b a) ∙ fails))))

-- a name that comes before another does not come after it
pub is_before-not_after : (a b : List ℕ) → is_before a b ≡ true → is_before b a ≡ false
is_before-not_after a b first = not_before-after a b a (not_before-itself a) first
