-- What an order of names says of the names at its indices.
use Rattle.std.proofs.Common.{◌≡◌, ◌≢◌, ℕ, suc, ◌+◌, ◌<◌, ◌≤◌, inl, inr, true, false, ◌==◌, ◌||◌, List, [], ◌∷◌}
use Rattle.std.proofs.Common.{length, eqb-true, sym, ap, ◌∙◌, subst, arith, true≢false}
use Rattle.std.proofs.lemmas.Bool.{cases_order}
use Rattle.std.proofs.lemmas.Bool.Decides.{nat_tests}
use Rattle.std.specs.Prelude.{slice_index}
use Rattle.std.specs.List.{list_any}
use Rattle.web_names.specs.SectionNames.{is_prefix_of}
use Rattle.web_names.specs.inner.SectionOrder.{is_before, name_at, ordered_at, is_begun_at, Rises, IsOrderOf}
use Rattle.web_names.specs.inner.SectionOrder.{IsLowerBound}
use Rattle.web_names.proofs.ByteOrder.{by_test, is_before-trans, not_before-after, not_before-itself}
use Rattle.web_names.proofs.ByteOrder.{is_prefix_of-not_before, is_prefix_of-between}

-- an index is before another, at it, or after it
pub by_index : (index bound : ℕ) (P : Type 0) → (index < bound → P) → (index ≡ bound → P) → (bound < index → P) → P
by_index index bound P less same more =
    elim (cases_order index bound) [ inl h ↦ same h | inr (inl h) ↦ less h | inr (inr h) ↦ more h ]

-- the names up to one that comes before a name come before it
pub below_after : (names : List (List ℕ)) (order : List ℕ) → Rises names order → (name : List ℕ) (middle : ℕ)
    → middle < length order → is_before (ordered_at names order middle) name ≡ true
    → (index : ℕ) → index < middle + 1 → is_before (ordered_at names order index) name ≡ true
below_after names order rises name middle within before index low =
    by_index index middle _
    (λ less. is_before-trans _ _ _ (rises.rising index middle less within) before)
    (λ same. subst (λ at. is_before (ordered_at names order at) name ≡ true) (sym same) before)
    (λ more. absurd (omega arith))

-- the names from one that does not come before a name on do not come before it
pub from_after : (names : List (List ℕ)) (order : List ℕ) → Rises names order → (name : List ℕ) (middle : ℕ)
    → is_before (ordered_at names order middle) name ≡ false
    → (index : ℕ) → middle ≤ index → index < length order → is_before (ordered_at names order index) name ≡ false
from_after names order rises name middle after index high within =
    by_index index middle _
    (λ less. absurd (omega arith))
    (λ same. subst (λ at. is_before (ordered_at names order at) name ≡ false) (sym same) after)
    (λ more. not_before-after _ _ _ after (rises.rising middle index more within))

-- where a place stands in an order that has it
at_index : (order : List ℕ) (place : ℕ) → list_any (λ held. held == place) order ≡ true
    → (index : ℕ) × (index < length order) × (slice_index order index ≡ place)
at_index [] place held = absurd (true≢false (sym held))
at_index (first ∷ order) place held =
    by_test (first == place) _ (λ here. (0, omega arith, eqb-true first place here))
    (λ fails. let rest = at_index order place
    (sym (ap (λ b. b || list_any (λ held. held == place) order) fails) ∙ held) in
    (suc rest.0, omega arith, rest.2))

pub index_of_place : (names : List (List ℕ)) (order : List ℕ) → IsOrderOf names order → (place : ℕ)
    → place < length names → (index : ℕ) × (index < length order) × (slice_index order index ≡ place)
index_of_place names order ordered place within = at_index order place (ordered.complete place within)

-- what `is_begun_at` tells
pub begun : (names : List (List ℕ)) (order : List ℕ) (index : ℕ) (prefix : List ℕ)
    → is_begun_at names order index prefix ≡ true
    → (index < length order) × (is_prefix_of prefix (ordered_at names order index) ≡ true)
begun names order index prefix begins = grind (arith, nat_tests)

pub is_begun : (names : List (List ℕ)) (order : List ℕ) (index : ℕ) (prefix : List ℕ) → index < length order
    → is_prefix_of prefix (ordered_at names order index) ≡ true → is_begun_at names order index prefix ≡ true
is_begun names order index prefix within begins = grind (arith, nat_tests)

-- a name of an order that begins with a prefix stands after the names that come before the prefix
pub begins-from : (names : List (List ℕ)) (order prefix : List ℕ) (bound : ℕ) → IsLowerBound names order prefix bound
    → (index : ℕ) → index < length order → is_prefix_of prefix (ordered_at names order index) ≡ true → bound ≤ index
begins-from names order prefix bound lower index within begins =
    by_index index bound _
    (λ less. absurd (true≢false
    (sym (lower.below index less) ∙ is_prefix_of-not_before prefix (ordered_at names order index) begins)))
    (λ same. omega arith) (λ more. omega arith)

-- and so do the names between
pub begun-between : (names : List (List ℕ)) (order prefix : List ℕ) (bound : ℕ) → Rises names order
    → IsLowerBound names order prefix bound → (index later : ℕ) → bound ≤ index → index ≤ later → later < length order
    → is_prefix_of prefix (ordered_at names order later) ≡ true → is_begun_at names order index prefix ≡ true
begun-between names order prefix bound rises lower index later from upto within begins =
    is_begun names order index prefix (omega arith)
    (by_index index later _
    (λ less. is_prefix_of-between prefix (ordered_at names order index) (ordered_at names order later) begins
    (lower.from index from (omega arith)) (not_back (rises.rising index later less within)))
    (λ same. subst (λ at. is_prefix_of prefix (ordered_at names order at) ≡ true) (sym same) begins)
    (λ more. absurd (omega arith)))
  where
    not_back : is_before (ordered_at names order index) (ordered_at names order later) ≡ true
        → is_before (ordered_at names order later) (ordered_at names order index) ≡ false
    not_back rising = not_before-after (ordered_at names order index) (ordered_at names order later)
        (ordered_at names order index) (not_before-itself (ordered_at names order index)) rising

-- where no name begins with a prefix at its lower bound, none does
pub none_begins : (names : List (List ℕ)) (order prefix : List ℕ) (bound : ℕ) → IsOrderOf names order
    → IsLowerBound names order prefix bound → is_begun_at names order bound prefix ≡ false → (place : ℕ)
    → place < length names → is_prefix_of prefix (name_at names place) ≡ false
none_begins names order prefix bound ordered lower fails place within =
    by_test (is_prefix_of prefix (name_at names place)) _
    (λ begins.
    let found = index_of_place names order ordered place within in
    let there : is_prefix_of prefix (ordered_at names order found.0) ≡ true =
    subst (λ at. is_prefix_of prefix (name_at names at) ≡ true) (sym found.2) begins in
    let from : bound ≤ found.0 = begins-from names order prefix bound lower found.0 found.1 there in
    absurd (true≢false (sym
    (begun-between names order prefix bound ordered.rises lower bound found.0
    (omega arith) from found.1 there) ∙ fails)))
    (λ e. e)

-- where none does after the lower bound, none does but the one there
pub no_other_begins : (names : List (List ℕ)) (order prefix : List ℕ) (bound : ℕ) → IsOrderOf names order
    → IsLowerBound names order prefix bound → is_begun_at names order (bound + 1) prefix ≡ false → (place : ℕ)
    → place < length names → place ≢ slice_index order bound → is_prefix_of prefix (name_at names place) ≡ false
no_other_begins names order prefix bound ordered lower fails place within apart =
    by_test (is_prefix_of prefix (name_at names place)) _
    (λ begins.
    let found = index_of_place names order ordered place within in
    let there : is_prefix_of prefix (ordered_at names order found.0) ≡ true =
    subst (λ at. is_prefix_of prefix (name_at names at) ≡ true) (sym found.2) begins in
    let from : bound ≤ found.0 = begins-from names order prefix bound lower found.0 found.1 there in
    let differs : found.0 ≢ bound = λ same. apart (sym found.2 ∙ ap (λ at. slice_index order at) same) in
    absurd (true≢false (sym
    (begun-between names order prefix bound ordered.rises lower (bound + 1) found.0 (omega arith)
    (omega arith) found.1 there) ∙ fails)))
    (λ e. e)

-- two indices of an order have different places
pub places_differ : (names : List (List ℕ)) (order : List ℕ) → Rises names order → (index later : ℕ) → index < later
    → later < length order → slice_index order index ≢ slice_index order later
places_differ names order rises index later less within same =
    true≢false (sym (rises.rising index later less within)
    ∙ ap (λ at. is_before (ordered_at names order index) (name_at names at)) (sym same)
    ∙ not_before-itself (ordered_at names order index))
