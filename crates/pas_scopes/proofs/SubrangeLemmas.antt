-- What is found of a subrange, by what was found of its bounds.
use Rattle.std.proofs.Common.{◌≡◌, refl, sym, ap, subst, ◌∙◌, ℕ, false, List, [], ◌∷◌, ◌++◌, Option}
use Rattle.std.proofs.Common.{Some, None, Result, Ok, Err}
use Rattle.pas_tokens.specs.Cutting.{Wrong}
use Rattle.pas_tokens.specs.declared.kinds.Kind.TheVariants as k
use Rattle.pas_syntax.specs.Tree as tree
use Rattle.pas_syntax.specs.Tree.{Ident, Constant}
use Rattle.pas_syntax.specs.Words.{Word, at, name_at, constant_words, simple_words}
use Rattle.pas_typed.specs.Types.{Range, PasType, Table, subrange, Made, made}
use Rattle.pas_scopes.specs.declared.constants.Ordinal.{Ordinal}
use Rattle.pas_scopes.specs.declared.stop.Stop.{Stop}
use Rattle.pas_rules.specs.Marks.{Judged, checked}
use Rattle.pas_rules.specs.Scopes.{Scopes}
use Rattle.pas_rules.specs.TypeForms.{ConstantValue, constant_of, behind_sign, as_constant, fits_below, range_between}
use Rattle.pas_rules.specs.TypeForms.{subrange_of, simple_of, type_named, as_type}
use Rattle.pas_scopes.specs.ScopeViews.{IsClear, Agrees}
use Rattle.pas_scopes.specs.Answers.{lawful_end, end_in, EndsAs, StopsBy}
use Rattle.pas_scopes.specs.Stopping.{shown_in}
use Rattle.pas_scopes.specs.Constants.{Tells}
use Rattle.pas_scopes.specs.TypeAnswers.{AnswersIf, IsShown}
use Rattle.pas_scopes.specs.declared.judged.Judged.{Judged as CodeJudged}
use Rattle.pas_typed.specs.declared.types.PasType.{PasType as CodePasType}
use Rattle.pas_typed.specs.TypeViews.{type_view}
use Rattle.pas_rules.proofs.AsMany.{AsMany, checked_many}
use Rattle.pas_rules.proofs.TypesAsMany.{constant_many}
use Rattle.pas_scopes.proofs.EndLemmas.{checked_fine, checked_refused}
use Rattle.pas_scopes.proofs.PartLemmas.{pair}
use Rattle.pas_scopes.proofs.AnswerLemmas.{checked_stops_by, made_ends, made_stops, pair_stops, pair_second}
use Rattle.pas_scopes.proofs.AnswerLemmas.{pair_ends_as}

-- scopes that agree
pub clear_agrees : (s t : Scopes) → Agrees s t → IsClear s → IsClear t
clear_agrees s t same clear name is = clear name (same name ∙ is)

pub constant_agrees : (s t : Scopes) → Agrees s t → (found : Constant) → constant_of s found ≡ constant_of t found
constant_agrees s t same (tree.number lead numeral) = refl
constant_agrees s t same (tree.named lead ident) =
    ap (λ entity. behind_sign lead (as_constant entity)) (same ident.name)
constant_agrees s t same (tree.text quoted) = refl

pub tells_agrees : (s t : Scopes) → Agrees s t → (words : List Word) (found : Constant) (result : Result Ordinal Stop)
    → Tells (IsClear t) words (constant_of t found) result → Tells (IsClear s) words (constant_of s found) result
tells_agrees s t same words found (Ok value) h =
    subst (λ (part : Judged ConstantValue). Tells (IsClear t) words part (Ok value))
    (sym (constant_agrees s t same found)) h
tells_agrees s t same words found (Err why) h =
    let moved = subst (λ (part : Judged ConstantValue). Tells (IsClear t) words part (Err why))
    (sym (constant_agrees s t same found)) h in
    ((λ clear. moved.0 (clear_agrees s t same clear)), moved.1)

module _ (s : Scopes) (n line : ℕ) (table : Table) (low high : Constant) where
  abbrev first : Judged ConstantValue
  first = constant_of s low

  abbrev second : Judged ConstantValue
  second = checked (fits_below first.value) (constant_of s high)

  abbrev pub subrange_words : List Word
  subrange_words = constant_words n low ++ at n k.Dots line ∷ constant_words n high

  abbrev pub subrange_part : Judged Made
  subrange_part = subrange_of table first (constant_of s high)

  abbrev row_of : Range → Made
  row_of range = made table (subrange range)

  many : AsMany (constant_words n high) second.marks
  many = checked_many (fits_below first.value) (constant_of s high) (constant_many s n high)

  pub low_stops : (why : Stop) → StopsBy (constant_words n low) first why
      → StopsBy subrange_words subrange_part why
  low_stops why h =
      made_stops subrange_words row_of (pair range_between first second) why
      (pair_stops (constant_words n low) (constant_words n high) (at n k.Dots line) range_between first second many
      why h)

  second_stops : (found : ConstantValue) (l : ℕ) (why : Stop)
      → EndsAs (constant_words n low) first found (lawful_end l) → StopsBy (constant_words n high) second why
      → StopsBy subrange_words subrange_part why
  second_stops found l why h j =
      made_stops subrange_words row_of (pair range_between first second) why
      (pair_second (constant_words n low) (constant_words n high) (at n k.Dots line) range_between first second many
      found l why h j)

  pub high_stops : (found : ConstantValue) (l : ℕ) (why : Stop)
      → EndsAs (constant_words n low) first found (lawful_end l)
      → StopsBy (constant_words n high) (constant_of s high) why → StopsBy subrange_words subrange_part why
  high_stops found l why h j =
      second_stops found l why h
      (checked_stops_by (constant_words n high) (fits_below first.value) (constant_of s high) why j)

  pub bounds_stop : (found value : ConstantValue) (l m : ℕ) (refusal : Wrong)
      → EndsAs (constant_words n low) first found (lawful_end l)
      → EndsAs (constant_words n high) (constant_of s high) value (lawful_end m)
      → fits_below (Some found) value ≡ refusal ∷ []
      → StopsBy subrange_words subrange_part (shown_in m refusal)
  bounds_stop found value l m refusal h j is =
      second_stops found l (shown_in m refusal) h
      (checked_refused (constant_words n high) (fits_below first.value) (constant_of s high) value m None false refusal
      (ap (λ (low : Option ConstantValue). fits_below low value) h.known ∙ is) j)

  pub range_ends : (found value : ConstantValue) (l m : ℕ)
      → EndsAs (constant_words n low) first found (lawful_end l)
      → EndsAs (constant_words n high) (constant_of s high) value (lawful_end m)
      → fits_below (Some found) value ≡ []
      → EndsAs subrange_words subrange_part (made table (subrange (range_between found value))) (lawful_end m)
  range_ends found value l m h j is =
      made_ends subrange_words row_of (pair range_between first second) (range_between found value) (lawful_end m)
      (pair_ends_as (constant_words n low) (constant_words n high) (at n k.Dots line) range_between first second many
      found l value (lawful_end m) h
      (checked_fine (constant_words n high) (fits_below first.value) (constant_of s high) value m None false
      (ap (λ (low : Option ConstantValue). fits_below low value) h.known ∙ is) j))

-- the only fault that is shown
pub shown_by : (line : ℕ) (faults : List Wrong) (why : Stop) → IsShown line faults why
    → (found : Wrong) × (faults ≡ found ∷ []) × (why ≡ shown_in line found)
shown_by line [] why h = absurd h
shown_by line (found ∷ []) why h = (found, refl, h)
shown_by line (found ∷ (other ∷ faults)) why h = absurd h

-- a name that stands for a type
type_agrees : (s t : Scopes) → Agrees s t → (ident : Ident) → type_named s ident ≡ type_named t ident
type_agrees s t same ident = ap (as_type ident.name) (same ident.name)

pub named_answers : (s t : Scopes) → Agrees s t → (table : Table) (n : ℕ) (ident : Ident)
    (result : Result (CodeJudged CodePasType) Stop)
    → AnswersIf (IsClear t) (name_at n ident ∷ []) (type_named t ident) type_view result
    → AnswersIf (IsClear s) (simple_words n (tree.simple_named ident)) (simple_of s table (tree.simple_named ident))
    (λ found. record { type = type_view found; table = table }) result
named_answers s t same table n ident (Ok found) h =
    made_ends (name_at n ident ∷ []) (λ (type : PasType). record { type = type; table = table }) (type_named s ident)
    (type_view found.value) (end_in found.end)
    (subst (λ (part : Judged PasType). EndsAs (name_at n ident ∷ []) part (type_view found.value) (end_in found.end))
    (sym (type_agrees s t same ident)) h)
named_answers s t same table n ident (Err why) h =
    λ clear. made_stops (name_at n ident ∷ []) (λ (type : PasType). record { type = type; table = table })
    (type_named s ident)
    why
    (subst (λ (part : Judged PasType). StopsBy (name_at n ident ∷ []) part why) (sym (type_agrees s t same ident))
    (h (clear_agrees s t same clear)))
