-- Demands on the parts of type expressions.
use Rattle.std.proofs.Common.{◌≡◌, sym, ap, ◌∙◌, ℕ, suc, ◌-◌, ◌<◌, ◌≤◌, arith, List, ◌∷◌, length, map, drop, get_or}
use Rattle.std.proofs.Common.{drop-cons}
use Rattle.std.specs.Prelude.{nat_le, is_some, if◌then◌else◌, Bool, true, false, not, [], Option, Some, None}
use Rattle.wb_base.specs.declared.faults.TheConstants.{TOO_LARGE, WRONG_TYPE}
use Rattle.pas_tokens.specs.Cutting.{wrong}
use Rattle.pas_syntax.specs.Words.{Word}
use Rattle.pas_rules.specs.Marks.{Judged, checked, unless}
use Rattle.pas_scopes.specs.Stopping.{shown_in}
use Rattle.pas_scopes.specs.Answers.{lawful_end, EndsAs, StopsBy, Means}
use Rattle.pas_scopes.proofs.EndLemmas.{checked_refused, checked_fine, end_quiet}
use Rattle.std.proofs.lemmas.Bool.Decides.{nat_tests}
use Rattle.pas_rules.specs.declared.limits.TheConstants.{CELL_LIMIT}
use Rattle.pas_typed.specs.TypeViews.{counted}
use Rattle.pas_typed.specs.declared.types.Range.{Range as CodeRange}
use Rattle.pas_typed.specs.TypeViews.{range_view}
use Rattle.pas_typed.specs.Types.{Range, PasType, Table, array, range_of, Made, made}
use Rattle.pas_rules.specs.TypeForms.{arrays, index_only, is_whole_integer}

-- the limit is far below what the code counts to
pub limit_counted : (cells : ℕ) → nat_le cells CELL_LIMIT ≡ nat_le (counted cells) CELL_LIMIT
limit_counted cells = grind (arith, nat_tests)

-- arrays over one range more in front
pub arrays_step : (table : Table) (ranges : List CodeRange) (left : ℕ) (other : CodeRange) (element : PasType)
    (inner : Made) → 0 < left → left ≤ length ranges
    → inner ≡ arrays table (map range_view (drop left ranges)) element
    → made inner.table (array (range_view (get_or ranges (left - 1) other)) inner.type)
    ≡ arrays table (map range_view (drop (left - 1) ranges)) element
arrays_step table ranges left other element inner some within is =
    let next : suc (left - 1) ≡ left = omega arith in
    let drops : drop (left - 1) ranges ≡ get_or ranges (left - 1) other ∷ drop left ranges =
    drop-cons ranges (left - 1) other (omega arith)
    ∙ ap (λ (n : ℕ). get_or ranges (left - 1) other ∷ drop n ranges) next in
    ap (λ (behind : Made). made behind.table (array (range_view (get_or ranges (left - 1) other)) behind.type)) is
    ∙ sym (ap (λ (rest : List CodeRange). arrays table (map range_view rest) element) drops)

-- an index
module _ (words : List Word) (part : Judged Made) (value : Made) (line : ℕ)
    (h : EndsAs words part value (lawful_end line)) where
  pub none_ordinal : range_of value.table value.type ≡ None → index_only value ≡ wrong WRONG_TYPE ∷ []
  none_ordinal none =
      ap (λ (found : Option Range). if is_some found then unless (not (is_whole_integer value.type)) (wrong TOO_LARGE)
      else wrong WRONG_TYPE ∷ []) none

  pub some_ordinal : (range : Range) (whole : Bool) → range_of value.table value.type ≡ Some range
      → is_whole_integer value.type ≡ whole → index_only value ≡ unless (not whole) (wrong TOO_LARGE)
  some_ordinal range whole some is =
      ap (λ (found : Option Range). if is_some found then unless (not (is_whole_integer value.type)) (wrong TOO_LARGE)
      else wrong WRONG_TYPE ∷ []) some
      ∙ ap (λ (is : Bool). unless (not is) (wrong TOO_LARGE)) is

  pub no_ordinal_stops : range_of value.table value.type ≡ None
      → StopsBy words (checked index_only part) (shown_in line (wrong WRONG_TYPE))
  no_ordinal_stops none =
      checked_refused words index_only part value line None false (wrong WRONG_TYPE) (none_ordinal none) h

  pub integers_stop : (range : Range) → range_of value.table value.type ≡ Some range
      → is_whole_integer value.type ≡ true
      → StopsBy words (checked index_only part) (shown_in line (wrong TOO_LARGE))
  integers_stop range some is =
      checked_refused words index_only part value line None false (wrong TOO_LARGE) (some_ordinal range true some is) h

  pub index_means : (range : Range) → range_of value.table value.type ≡ Some range
      → is_whole_integer value.type ≡ false → Means words (checked index_only part) value
  index_means range some is =
      let found : EndsAs words (checked index_only part) value (lawful_end line) =
      checked_fine words index_only part value line None false (some_ordinal range false some is) h in
      record {
        known = found.known;
        quiet = record {
          still = end_quiet words (checked index_only part).marks.tokens line found.end;
          behind = found.behind;
        };
      }
