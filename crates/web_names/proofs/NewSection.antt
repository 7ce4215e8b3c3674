-- A new whole name: what the two neighbours in the order of bytes tell, and the order with the name.
use Rattle.std.proofs.Common.{◌≡◌, ◌≢◌, ℕ, ◌+◌, ◌-◌, ◌<◌, ◌≤◌, ◌⊎◌, inl, inr, true, false, ◌==◌, ◌||◌}
use Rattle.std.proofs.Common.{List, [], ◌∷◌, ◌++◌, length, insert, position, Some, None, Ok, Err}
use Rattle.std.proofs.Common.{sym, ap, ◌∙◌, subst, arith, true≢false, length-append, if◌then◌else◌}
use Rattle.std.specs.Prelude.{slice_index}
use Rattle.std.specs.List.{list_any}
use Rattle.std.specs.Str.{bytes_eq}
use Rattle.std.proofs.lemmas.List.{map-append, get_or_append_left}
use Rattle.std.proofs.lemmas.Bool.{eq-eqb}
use Rattle.std.proofs.lemmas.List.Elements.{All-from_get_or}
use Rattle.std.proofs.lemmas.List.Edits.{length-insert, get_or-insert_at, get_or-insert_below, get_or-insert_above}
use Rattle.std.proofs.lemmas.List.Folds.{list_any_none, list_any_at}
use Rattle.std.proofs.lemmas.Bool.Decides.{nat_tests}
use Rattle.std.proofs.Math.Seq.{get_or-append_seam}
use Rattle.std.proofs.lemmas.Slice.Eq.{bytes_eq-Decides}
use Rattle.std.specs.Global.{Vec}
use Rattle.indexmap.specs.IndexSet.{insert_key}
use Rattle.web_names.specs.declared.name_errors.NameErr.TheVariants.{Full}
use Rattle.web_names.proofs.Positions.{position-map, no_element, fails_everywhere}
use Rattle.web_names.specs.SectionNames.{is_prefix_of, is_incompatible, with_section, whole_at, whole_name}
use Rattle.web_names.specs.SectionNames.{section_limit}
use Rattle.web_names.specs.inner.SectionOrder.{texts_of, is_before, name_at, ordered_at, is_begun_at}
use Rattle.web_names.specs.inner.SectionOrder.{begins_with_one_before, IsOrderOf, IsLowerBound}
use Rattle.web_names.proofs.ByteOrder.{by_test, is_prefix_of-before, is_prefix_of-between, not_before-before}
use Rattle.web_names.proofs.ByteOrder.{is_before-not_after}
use Rattle.web_names.proofs.OrderLemmas.{by_index, index_of_place, none_begins, places_differ}

-- where a name is not held, it differs from each name
abbrev pub DiffersFromAll : List ℕ → List (List ℕ) → Type 0
DiffersFromAll name names = (place : ℕ) → place < length names → name ≢ name_at names place

pub differs_from_all : (name : List ℕ) (names : List (List ℕ)) → position (bytes_eq name) names ≡ None
    → DiffersFromAll name names
differs_from_all name names none place within same =
    true≢false (sym ((bytes_eq-Decides name (name_at names place)).1 same)
    ∙ fails_everywhere (bytes_eq name) names none place [] within)

-- a whole name that is held, and one that is not
pub whole_name-held : (name : List ℕ) (names : List (List ℕ)) (place : ℕ)
    → position (bytes_eq name) names ≡ Some place → whole_name name names ≡ Ok (place, names)
unfolding whole_name
whole_name-held name names place some = ap (λ at. whole_at at name names) some

pub whole_name-new : (name : List ℕ) (names : List (List ℕ)) → position (bytes_eq name) names ≡ None
    → whole_name name names ≡ with_section name names
unfolding whole_name
whole_name-new name names none = ap (λ at. whole_at at name names) none

-- a compatible name where there is room, and where there is none
pub with_section-kept : (name : List ℕ) (names : List (List ℕ)) → list_any (is_incompatible name) names ≡ false
    → length names < section_limit → with_section name names ≡ Ok (length names, names ++ name ∷ [])
with_section-kept name names compatible room = grind (arith, nat_tests)

pub with_section-full : (name : List ℕ) (names : List (List ℕ)) → list_any (is_incompatible name) names ≡ false
    → section_limit ≤ length names → with_section name names ≡ Err Full
with_section-full name names compatible full = grind (arith, nat_tests)

-- the keys with a new one
pub texts_of-insert_key : (name : List ℕ) (keys : List (Vec ℕ)) (copy : Vec ℕ)
    → position (bytes_eq name) (texts_of keys) ≡ None → copy.items ≡ name
    → texts_of (insert_key (λ key other. bytes_eq key.items other.items) keys copy) ≡ texts_of keys ++ name ∷ []
texts_of-insert_key name keys copy none is =
    let absent : list_any (λ (key : Vec ℕ). bytes_eq copy.items key.items) keys ≡ false =
    no_element (λ (key : Vec ℕ). bytes_eq copy.items key.items) keys
    (subst (λ text. position (λ (key : Vec ℕ). bytes_eq text key.items) keys ≡ None) (sym is)
    (sym (position-map (bytes_eq name) (λ (key : Vec ℕ). key.items) keys) ∙ none)) in
    ap (λ b. texts_of (if b then keys else keys ++ copy ∷ [])) absent
    ∙ map-append (λ (key : Vec ℕ). key.items) keys (copy ∷ [])
    ∙ ap (λ text. texts_of keys ++ text ∷ []) is

module _ (names : List (List ℕ)) (order name : List ℕ) (bound : ℕ) (ordered : IsOrderOf names order)
    (lower : IsLowerBound names order name bound) (apart : DiffersFromAll name names) where
  -- no name begins with the new one
  abbrev NoneBegins : Type 0
  NoneBegins = is_begun_at names order bound name ≡ false

  abbrev NoneBefore : Type 0
  NoneBefore = begins_with_one_before names order bound name ≡ false

  -- the new one does not begin with a name that stands at this index
  not_begun : NoneBefore → (index : ℕ) → index < length order
      → is_prefix_of (ordered_at names order index) name ≡ true → name ≢ ordered_at names order index → index < bound
      → is_prefix_of (ordered_at names order index) name ≡ false
  not_begun fails index within begins differs low =
      by_index (index + 1) bound _
      (λ less.
      let last : bound - 1 < length order = omega (arith, lower.within) in
      let rising : is_before (ordered_at names order index) (ordered_at names order (bound - 1)) ≡ true =
      ordered.rises.rising index (bound - 1) (omega arith) last in
      let between : is_prefix_of (ordered_at names order index) (ordered_at names order (bound - 1)) ≡ true =
      is_prefix_of-between (ordered_at names order index) (ordered_at names order (bound - 1)) name begins
      (is_before-not_after (ordered_at names order index) (ordered_at names order (bound - 1)) rising)
      (is_before-not_after (ordered_at names order (bound - 1)) name
      (lower.below (bound - 1) (omega arith))) in
      let other : is_prefix_of (ordered_at names order index) (ordered_at names order (bound - 1)) ≡ false =
      ordered.apart (slice_index order index) (slice_index order (bound - 1))
      (ordered.rises.within index within) (ordered.rises.within (bound - 1) last)
      (places_differ names order ordered.rises index (bound - 1) (omega arith) last) in
      absurd (true≢false (sym between ∙ other)))
      (λ same.
      let before : index ≡ bound - 1 = omega arith in
      let held : is_prefix_of (ordered_at names order (bound - 1)) name ≡ true =
      subst (λ at. is_prefix_of (ordered_at names order at) name ≡ true) before begins in
      let some : begins_with_one_before names order bound name ≡ true = grind (arith, nat_tests) in
      absurd (true≢false (sym some ∙ fails)))
      (λ more. absurd (omega arith))

  -- the new name begins with no name
  pub begins_with_none : NoneBefore → (place : ℕ) → place < length names
      → is_prefix_of (name_at names place) name ≡ false
  begins_with_none fails place within =
      by_test (is_prefix_of (name_at names place) name) _
      (λ begins.
      let found = index_of_place names order ordered place within in
      let there : is_prefix_of (ordered_at names order found.0) name ≡ true =
      subst (λ at. is_prefix_of (name_at names at) name ≡ true) (sym found.2) begins in
      let differs : name ≢ ordered_at names order found.0 =
      subst (λ at. name ≢ name_at names at) (sym found.2) (apart place within) in
      let first : is_before (ordered_at names order found.0) name ≡ true =
      is_prefix_of-before (ordered_at names order found.0) name there (λ same. differs (sym same)) in
      let low : found.0 < bound = by_index found.0 bound _ (λ less. less)
      (λ same. absurd (true≢false (sym first ∙ lower.from found.0 (omega arith) found.1)))
      (λ more. absurd (true≢false (sym first ∙ lower.from found.0 (omega arith) found.1))) in
      absurd (true≢false (sym there ∙ not_begun fails found.0 found.1 there differs low)))
      (λ e. e)

  -- so no name is incompatible with it
  pub none_incompatible : NoneBegins → NoneBefore → list_any (is_incompatible name) names ≡ false
  none_incompatible none fails =
      list_any_none (is_incompatible name) names
      (All-from_get_or (λ other. is_incompatible name other ≡ false) names []
      (λ place within.
      ap (λ b. b || is_prefix_of (name_at names place) name)
      (none_begins names order name bound ordered lower none place within)
      ∙ begins_with_none fails place within))

  -- the names and the order with the new name
  abbrev new_names : List (List ℕ)
  new_names = names ++ name ∷ []

  abbrev new_order : List ℕ
  new_order = insert order bound (length names)

  held : (place : ℕ) → place < length names → name_at new_names place ≡ name_at names place
  held place within = get_or_append_left names (name ∷ []) [] place within

  added : name_at new_names (length names) ≡ name
  added = get_or-append_seam names name [] []

  at_bound : ordered_at new_names new_order bound ≡ name
  at_bound = ap (λ place. name_at new_names place) (get_or-insert_at order bound (length names) 0 lower.within)
      ∙ added

  below_bound : (index : ℕ) → index < bound → ordered_at new_names new_order index ≡ ordered_at names order index
  below_bound index low =
      ap (λ place. name_at new_names place) (get_or-insert_below order bound (length names) 0 index low lower.within)
      ∙ held (slice_index order index) (ordered.rises.within index (omega (arith, lower.within)))

  above_bound : (index : ℕ) → bound ≤ index → index < length order
      → ordered_at new_names new_order (index + 1) ≡ ordered_at names order index
  above_bound index high within =
      ap (λ place. name_at new_names place) (get_or-insert_above order bound (length names) 0 index high lower.within)
      ∙ held (slice_index order index) (ordered.rises.within index within)

  new_length : length new_order ≡ length order + 1
  new_length = length-insert order bound (length names) lower.within

  new_within : (index : ℕ) → index < length new_order → slice_index new_order index < length new_names
  new_within index within =
      let size : length new_names ≡ length names + 1 = simp length-append in
      by_index index bound _
      (λ less. let same : slice_index new_order index ≡ slice_index order index = get_or-insert_below order bound
      (length names) 0 index less lower.within in
      omega (arith, ordered.rises.within index (omega (arith, lower.within))))
      (λ same. let last : slice_index new_order bound ≡ length names = get_or-insert_at order bound
      (length names) 0 lower.within in
      subst (λ at. slice_index new_order at < length new_names) (sym same) (omega arith))
      (λ more. let same : slice_index new_order ((index - 1) + 1) ≡ slice_index order
      (index - 1) = get_or-insert_above order bound (length names) 0 (index - 1) (omega arith) lower.within in
      let back : (index - 1) + 1 ≡ index = omega arith in
      let held : slice_index order (index - 1) < length names =
      ordered.rises.within (index - 1) (omega (arith, new_length)) in
      subst (λ at. slice_index new_order at < length new_names) back (omega arith))

  -- what stands at the indices of the new order
  index_at : (index : ℕ) → index < length order + 1
      → ((index < bound) × (ordered_at new_names new_order index ≡ ordered_at names order index)) ⊎
      ((index ≡ bound) × (ordered_at new_names new_order index ≡ name)) ⊎
      ((bound < index) × (ordered_at new_names new_order index ≡ ordered_at names order (index - 1)))
  index_at index within =
      by_index index bound _
      (λ less. inl (less, below_bound index less))
      (λ same. inr (inl (same, subst (λ at. ordered_at new_names new_order at ≡ name) (sym same) at_bound)))
      (λ more.
      let back : (index - 1) + 1 ≡ index = omega arith in
      inr (inr (
        more,
        subst
            (λ at. ordered_at new_names new_order at ≡ ordered_at names order (index - 1)) back
            (above_bound (index - 1) (omega arith) (omega arith)),
      )))

  new_rising : (index later : ℕ) → index < later → later < length new_order
      → is_before (ordered_at new_names new_order index) (ordered_at new_names new_order later) ≡ true
  new_rising index later less within =
      let later_within : later < length order + 1 = omega (arith, new_length) in
      elim (index_at later later_within) [
        | inl second ↦
            (λ i. is_before (below_bound index (omega arith) i) (second.1 i))
            ∙ ordered.rises.rising index later less (omega (arith, lower.within))
        | inr (inl second) ↦
            (λ i. is_before (below_bound index (omega arith) i) (second.1 i)) ∙ lower.below index (omega arith)
        | inr (inr second) ↦
            elim (index_at index (omega arith)) [
              | inl first ↦ (λ i. is_before (first.1 i) (second.1 i))
                  ∙ ordered.rises.rising index (later - 1) (omega arith) (omega arith)
              | inr (inl first) ↦
                  (λ i. is_before (first.1 i) (second.1 i))
                  ∙ not_before-before (ordered_at names order (later - 1)) name
                  (lower.from (later - 1) (omega arith) (omega arith))
                  (λ same. apart (slice_index order (later - 1)) (ordered.rises.within (later - 1) (omega arith))
                  (sym same))
              | inr (inr first) ↦ (λ i. is_before (first.1 i) (second.1 i))
                  ∙ ordered.rises.rising (index - 1) (later - 1) (omega arith) (omega arith)
            ]
      ]

  new_complete : (place : ℕ) → place < length new_names → list_any (λ held. held == place) new_order ≡ true
  new_complete place within =
      let size : length new_names ≡ length names + 1 = simp length-append in
      by_index place (length names) _
      (λ less.
      let found = index_of_place names order ordered place less in
      by_index found.0 bound _
      (λ low. stands found.0 (omega (arith, new_length))
      (get_or-insert_below order bound (length names) 0 found.0 low lower.within ∙ found.2))
      (λ same. stands (found.0 + 1) (omega (arith, new_length, found.1))
      (get_or-insert_above order bound (length names) 0 found.0 (omega arith) lower.within ∙ found.2))
      (λ high. stands (found.0 + 1) (omega (arith, new_length, found.1))
      (get_or-insert_above order bound (length names) 0 found.0 (omega arith) lower.within
      ∙ found.2)))
      (λ same. stands bound (omega (arith, new_length, lower.within))
      (get_or-insert_at order bound (length names) 0 lower.within ∙ sym same))
      (λ more. absurd (omega arith))
    where
      stands : (index : ℕ) → index < length new_order → slice_index new_order index ≡ place
          → list_any (λ held. held == place) new_order ≡ true
      stands index within is =
          list_any_at (λ held. held == place) new_order index 0 within
          (eq-eqb (slice_index new_order index) place is)

  new_apart : NoneBegins → NoneBefore → (place other : ℕ) → place < length new_names → other < length new_names
      → place ≢ other → is_prefix_of (name_at new_names place) (name_at new_names other) ≡ false
  new_apart none fails place other within other_within differs =
      let size : length new_names ≡ length names + 1 = simp length-append in
      by_index place (length names) _
      (λ less. by_index other (length names) _
      (λ other_less. (λ i. is_prefix_of (held place less i) (held other other_less i))
      ∙ ordered.apart place other less other_less differs)
      (λ same. (λ i. is_prefix_of (held place less i) (name_at new_names (same i)))
      ∙ (λ i. is_prefix_of (name_at names place) (added i)) ∙ begins_with_none fails place less)
      (λ more. absurd (omega arith)))
      (λ same. by_index other (length names) _
      (λ other_less. (λ i. is_prefix_of (name_at new_names (same i)) (held other other_less i))
      ∙ (λ i. is_prefix_of (added i) (name_at names other))
      ∙ none_begins names order name bound ordered lower none other other_less)
      (λ other_same. absurd (differs (same ∙ sym other_same)))
      (λ more. absurd (omega arith)))
      (λ more. absurd (omega arith))

  pub with_new_name : NoneBegins → NoneBefore → length names < section_limit
      → IsOrderOf (names ++ name ∷ []) (insert order bound (length names))
  with_new_name none fails room = record {
    rises = record { within = new_within; rising = new_rising };
    size = new_length ∙ ap (λ n. n + 1) ordered.size ∙ sym (simp length-append);
    limit = simp length-append (omega arith);
    complete = new_complete;
    apart = new_apart none fails;
  }
