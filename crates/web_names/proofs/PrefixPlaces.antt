-- The places of the names that pass a test: none, one, or several.
use Rattle.std.proofs.Common.{◌≡◌, ◌≢◌, ℕ, zero, suc, ◌+◌, ◌<◌, inl, inr, Bool, true, false, cond, List, [], ◌∷◌, map}
use Rattle.std.proofs.Common.{filter, length, get_or, Err, Ok, refl, ap, ◌∙◌, arith}
use Rattle.std.specs.List.{enumerate_from}
use Rattle.web_names.specs.declared.name_errors.NameErr.TheVariants.{NoMatch, Ambiguous}
use Rattle.web_names.specs.SectionNames.{is_prefix_of, the_only, prefix_name}
use Rattle.std.proofs.lemmas.Bool.{cases_order}
use Rattle.web_names.proofs.ByteOrder.{by_test}

-- the places of the elements that pass, counted from a number on
abbrev places : (List ℕ → Bool) → ℕ → List (List ℕ) → List ℕ
places test from names = map (λ entry. entry.0) (filter (λ entry. test entry.1) (enumerate_from from names))

passing : (test : List ℕ → Bool) (from : ℕ) (name : List ℕ) (names : List (List ℕ)) → test name ≡ true
    → places test from (name ∷ names) ≡ from ∷ places test (from + 1) names
passing test from name names passes =
    ap (λ b. map (λ (entry : ℕ × List ℕ). entry.0)
    (cond b ((from, name) ∷ filter (λ (entry : ℕ × List ℕ). test entry.1) (enumerate_from (from + 1) names))
    (filter (λ (entry : ℕ × List ℕ). test entry.1) (enumerate_from (from + 1) names)))) passes

failing : (test : List ℕ → Bool) (from : ℕ) (name : List ℕ) (names : List (List ℕ)) → test name ≡ false
    → places test from (name ∷ names) ≡ places test (from + 1) names
failing test from name names fails =
    ap (λ b. map (λ (entry : ℕ × List ℕ). entry.0)
    (cond b ((from, name) ∷ filter (λ (entry : ℕ × List ℕ). test entry.1) (enumerate_from (from + 1) names))
    (filter (λ (entry : ℕ × List ℕ). test entry.1) (enumerate_from (from + 1) names)))) fails

none : (test : List ℕ → Bool) (from : ℕ) (names : List (List ℕ))
    → ((i : ℕ) → i < length names → test (get_or names i []) ≡ false) → places test from names ≡ []
none test from [] fails = refl
none test from (name ∷ names) fails =
    failing test from name names (fails 0 (omega arith))
    ∙ none test (from + 1) names (λ i within. fails (suc i) (omega arith))

one : (test : List ℕ → Bool) (from : ℕ) (names : List (List ℕ)) (place : ℕ) → place < length names
    → test (get_or names place []) ≡ true
    → ((i : ℕ) → i < length names → i ≢ place → test (get_or names i []) ≡ false)
    → places test from names ≡ (from + place) ∷ []
one test from [] place within passes fails = absurd (omega arith)
one test from (name ∷ names) zero within passes fails =
    passing test from name names passes
    ∙ (λ j. (from_zero j) ∷ none test (from + 1) names (λ i in_rest. fails (suc i) (omega arith) (omega arith)) j)
  where
    from_zero : from ≡ from + 0
    from_zero = omega arith
one test from (name ∷ names) (suc place) within passes fails =
    failing test from name names (fails 0 (omega arith) (omega arith))
    ∙ one test (from + 1) names place (omega arith) passes
    (λ i in_rest apart. fails (suc i) (omega arith) (omega arith))
    ∙ ap (λ at. at ∷ []) from_suc
  where
    from_suc : (from + 1) + place ≡ from + suc place
    from_suc = omega arith

some : (test : List ℕ → Bool) (from : ℕ) (names : List (List ℕ)) (place : ℕ) → place < length names
    → test (get_or names place []) ≡ true
    → (first : ℕ) × (others : List ℕ) × (places test from names ≡ first ∷ others)
some test from [] place within passes = absurd (omega arith)
some test from (name ∷ names) zero within passes =
    (from, places test (from + 1) names, passing test from name names passes)
some test from (name ∷ names) (suc place) within passes =
    by_test (test name) _ (λ head. (from, places test (from + 1) names, passing test from name names head))
    (λ head. let rest = some test (from + 1) names place (omega arith) passes in
    (rest.0, rest.1, failing test from name names head ∙ rest.2))

-- two places in order, of which both pass
several : (test : List ℕ → Bool) (from : ℕ) (names : List (List ℕ)) (place later : ℕ) → place < later
    → later < length names → test (get_or names place []) ≡ true → test (get_or names later []) ≡ true
    → the_only (places test from names) ≡ Err Ambiguous
several test from [] place later order within passes both = absurd (omega arith)
several test from (name ∷ names) place zero order within passes both = absurd (omega arith)
several test from (name ∷ names) zero (suc later) order within passes both =
    let rest = some test (from + 1) names later (omega arith) both in
    ap the_only (passing test from name names passes ∙ ap (λ others. from ∷ others) rest.2)
several test from (name ∷ names) (suc place) (suc later) order within passes both =
    by_test (test name) _
    (λ head. let rest = some test (from + 1) names later (omega arith) both in ap the_only
    (passing test from name names head ∙ ap (λ others. from ∷ others) rest.2))
    (λ head. ap the_only (failing test from name names head)
    ∙ several test (from + 1) names place later (omega arith) (omega arith) passes both)

-- what a prefix of no name, of one name, and of several names stands for
pub prefix_of_none : (prefix : List ℕ) (names : List (List ℕ))
    → ((i : ℕ) → i < length names → is_prefix_of prefix (get_or names i []) ≡ false)
    → prefix_name prefix names ≡ Err NoMatch
unfolding prefix_name
prefix_of_none prefix names fails = ap the_only (none (is_prefix_of prefix) 0 names fails)

pub prefix_of_one : (prefix : List ℕ) (names : List (List ℕ)) (place : ℕ) → place < length names
    → is_prefix_of prefix (get_or names place []) ≡ true
    → ((i : ℕ) → i < length names → i ≢ place → is_prefix_of prefix (get_or names i []) ≡ false)
    → prefix_name prefix names ≡ Ok place
unfolding prefix_name
prefix_of_one prefix names place within passes fails =
    let from_zero : 0 + place ≡ place = omega arith in
    ap the_only (one (is_prefix_of prefix) 0 names place within passes fails ∙ ap (λ at. at ∷ []) from_zero)

pub prefix_of_several : (prefix : List ℕ) (names : List (List ℕ)) (place other : ℕ) → place ≢ other
    → place < length names → other < length names → is_prefix_of prefix (get_or names place []) ≡ true
    → is_prefix_of prefix (get_or names other []) ≡ true → prefix_name prefix names ≡ Err Ambiguous
unfolding prefix_name
prefix_of_several prefix names place other apart within other_within passes both =
    elim (cases_order place other) [
      | inl same ↦ absurd (apart same)
      | inr (inl less) ↦ several
          (is_prefix_of prefix) 0 names place other less other_within passes both
      | inr (inr more) ↦ several
          (is_prefix_of prefix) 0 names other place more within both passes
    ]
