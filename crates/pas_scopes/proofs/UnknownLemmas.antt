-- Where checking stops in a part of a type expression, nothing is known of it.
use Rattle.std.proofs.Common.{◌≡◌, refl, sym, ap, subst, ◌∙◌, ℕ, List, [], ◌∷◌, ◌++◌, Option, Some, None, Result, Err}
use Rattle.std.proofs.Common.{take, drop, get_or, length, ◌<◌, arith, suc, zero}
use Rattle.std.proofs.lemmas.List.{map-append}
use Rattle.pas_tokens.specs.Cutting.{Wrong}
use Rattle.pas_syntax.specs.declared.tree.Simple.{Simple as CodeSimple}
use Rattle.pas_syntax.specs.declared.tree.Behind.{Behind as CodeBehind}
use Rattle.pas_syntax.specs.Tree.{Behind, Simple}
use Rattle.pas_syntax.specs.Views.{simple_in, behind_in}
use Rattle.pas_typed.specs.Types.{Range, Table, Made, subrange, made}
use Rattle.pas_scopes.specs.declared.stop.Stop.{Stop}
use Rattle.pas_scopes.specs.declared.stop.Stop.TheVariants as stop
use Rattle.pas_rules.specs.Marks.{Marks, no_token, quiet, Judged, known, both, checked, checked_by, kept_by}
use Rattle.pas_rules.specs.Scopes.{Scopes}
use Rattle.pas_rules.specs.TypeForms.{ConstantValue, subrange_of, fits_below, range_between, Indexes}
use Rattle.pas_rules.specs.TypeForms.{simple_of, index_only, no_indexes, one_more, with_index, more_indexes}
use Rattle.pas_rules.specs.TypeForms.{indexes_of}
use Rattle.pas_rules.specs.TypeForms.{table_of_indexes}
use Rattle.pas_scopes.specs.Constants.{IsUnknownBy}
use Rattle.pas_scopes.specs.FormAnswers.{IsUnknownIf}
use Rattle.pas_scopes.proofs.SequenceLemmas.{unknown_second}
use Rattle.pas_scopes.proofs.IndexLemmas.{seen_behind, all_indexes}

pub by_none : {A : Type 0} (part : Judged A) (why : Stop) → part.value ≡ None → IsUnknownBy part why
by_none part stop.OutOfMemory none = tt
by_none part (stop.Fault fault) none = none
by_none part stop.Missing none = none

pub of_none : {A B : Type 0} (part : Judged A) (whole : Judged B) (why : Stop)
    → (part.value ≡ None → whole.value ≡ None) → IsUnknownBy part why → IsUnknownBy whole why
of_none part whole stop.OutOfMemory none h = tt
of_none part whole (stop.Fault fault) none h = none h
of_none part whole stop.Missing none h = none h

-- where a `?` returns early
pub unknown_stop : {X A : Type 0} (part : Judged A) (why : Stop) (result : Result X Stop)
    → ((found : Stop) × (result ≡ Err found) × (found ≡ why)) → IsUnknownBy part why → IsUnknownIf part result
unknown_stop part why result is h = subst (IsUnknownIf part) (sym (is.1 ∙ ap Err is.2)) h

-- demands
pub none_checked : {A : Type 0} (demand : A → List Wrong) (part : Judged A) → part.value ≡ None
    → (checked demand part).value ≡ None
none_checked demand part none = ap (λ value. (checked_by demand part.marks value).value) none

pub refused_checked : {A : Type 0} (demand : A → List Wrong) (part : Judged A) (value : A) (refusal : Wrong)
    → part.value ≡ Some value → demand value ≡ refusal ∷ [] → (checked demand part).value ≡ None
refused_checked demand part value refusal is refused =
    ap (λ found. (checked_by demand part.marks found).value) is
    ∙ ap (λ faults. (kept_by part.marks value faults).value) refused

-- subranges
module _ (table : Table) (low high : Judged ConstantValue) where
  abbrev upper : Judged ConstantValue
  upper = checked (fits_below low.value) high

  abbrev row_of : Range → Made
  row_of range = made table (subrange range)

  pub low_unknown : low.value ≡ None → (subrange_of table low high).value ≡ None
  low_unknown none = ap (λ value. known row_of (both range_between value upper.value)) none

  upper_unknown : upper.value ≡ None → (subrange_of table low high).value ≡ None
  upper_unknown none = ap (known row_of) (unknown_second range_between low.value upper.value none)

  pub high_unknown : high.value ≡ None → (subrange_of table low high).value ≡ None
  high_unknown none = upper_unknown (none_checked (fits_below low.value) high none)

  pub bounds_unknown : (found value : ConstantValue) (refusal : Wrong) → low.value ≡ Some found
      → high.value ≡ Some value → fits_below (Some found) value ≡ refusal ∷ []
      → (subrange_of table low high).value ≡ None
  bounds_unknown found value refusal is are refused =
      upper_unknown (refused_checked (fits_below low.value) high value refusal are
      (ap (λ (bound : Option ConstantValue). fits_below bound value) is ∙ refused))

-- indexes
module _ (s : Scopes) (table : Table) where
  with_none : (separator : Marks) (before : Judged Indexes) (part : Judged Made) → before.value ≡ None
      → (with_index separator before part).value ≡ None
  with_none separator before part none = ap (λ value. both one_more value (checked index_only part).value) none

  more_none : (before : Judged Indexes) (more : List (Behind Simple)) → before.value ≡ None
      → (more_indexes s table before more).value ≡ None
  more_none before [] none = none
  more_none before (behind ∷ more) none =
      more_none (with_index quiet before (simple_of s (table_of_indexes table before) behind.item)) more
      (with_none quiet before (simple_of s (table_of_indexes table before) behind.item) none)

  pub first_unknown : (first : Simple) (more : List (Behind Simple))
      → (checked index_only (simple_of s table first)).value ≡ None
      → (indexes_of s table (all_indexes first more)).value ≡ None
  first_unknown first more none =
      more_none (with_index no_token (no_indexes table) (simple_of s table first)) more
      (unknown_second one_more (no_indexes table).value (checked index_only (simple_of s table first)).value none)

  more_push : (before : Judged Indexes) (some more : List (Behind Simple))
      → more_indexes s table before (some ++ more) ≡ more_indexes s table (more_indexes s table before some) more
  more_push before [] more = refl
  more_push before (behind ∷ some) more =
      more_push (with_index quiet before (simple_of s (table_of_indexes table before) behind.item)) some more

  pub next_unknown : (first : Simple) (before : List (Behind Simple)) (behind : Behind Simple)
      (more : List (Behind Simple)) (now : Table)
      → table_of_indexes table (indexes_of s table (all_indexes first before)) ≡ now
      → (checked index_only (simple_of s now behind.item)).value ≡ None
      → (indexes_of s table (all_indexes first (before ++ behind ∷ more))).value ≡ None
  next_unknown first before behind more now at none =
      let start : Judged Indexes = with_index no_token (no_indexes table) (simple_of s table first) in
      let found : Judged Indexes = more_indexes s table start before in
      let part : Judged Made = simple_of s (table_of_indexes table found) behind.item in
      ap (λ (all : Judged Indexes). all.value) (more_push start before (behind ∷ more))
      ∙ more_none (with_index quiet found part) more
      (unknown_second one_more found.value (checked index_only part).value
      (ap (λ (t : Table). (checked index_only (simple_of s t behind.item)).value) at ∙ none))

  pub index_unknown : (first : Simple) (spellings : List ℕ) (more : List (CodeBehind CodeSimple)) (i : ℕ)
      (d : CodeBehind CodeSimple) (now : Table) → i < length more
      → table_of_indexes table (indexes_of s table (all_indexes first (seen_behind spellings (take i more)))) ≡ now
      → (checked index_only (simple_of s now (simple_in spellings (get_or more i d).item))).value ≡ None
      → (indexes_of s table (all_indexes first (seen_behind spellings more))).value ≡ None
  index_unknown first spellings more i d now within at none =
      ap (λ (all : List (Behind Simple)). (indexes_of s table (all_indexes first all)).value)
      (ap (seen_behind spellings) (split more i within)
      ∙ map-append (behind_in (simple_in spellings)) (take i more) (get_or more i d ∷ drop (suc i) more))
      ∙ next_unknown first (seen_behind spellings (take i more)) (behind_in (simple_in spellings) (get_or more i d))
      (seen_behind spellings (drop (suc i) more)) now at none
    where
      split : (xs : List (CodeBehind CodeSimple)) (i : ℕ) → i < length xs
          → xs ≡ take i xs ++ get_or xs i d ∷ drop (suc i) xs
      split [] i h = absurd (omega (arith, h))
      split (x ∷ xs) zero h = refl
      split (x ∷ xs) (suc i) h = ap (λ rest. x ∷ rest) (split xs i (omega (arith, h)))
