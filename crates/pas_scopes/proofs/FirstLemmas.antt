-- What a part shows at its first word, where it is one too many.
use Rattle.std.proofs.Common.{◌≡◌, refl, sym, ap, subst, ◌∙◌, ◌≤◌, arith, Bool, true, false, List, [], ◌∷◌, ◌++◌}
use Rattle.std.proofs.Common.{length, Option, Some, None}
use Rattle.std.specs.Prelude.{nat_lt, if◌then◌else◌}
use Rattle.std.proofs.lemmas.List.Sums.{fold-append}
use Rattle.std.proofs.lemmas.Bool.Decides.{nat_tests}
use Rattle.wb_base.specs.declared.faults.TheConstants.{WRONG_TYPE}
use Rattle.pas_tokens.specs.Cutting.{Wrong, wrong}
use Rattle.pas_syntax.specs.Words.{Word}
use Rattle.pas_scopes.specs.declared.stop.Stop.{Stop}
use Rattle.pas_rules.specs.Marks.{Marks, first_of, at_first, last_of, unless, lowest, Judged, faults_if, noted, checked}
use Rattle.pas_scopes.specs.Answers.{FailsBy}
use Rattle.pas_scopes.specs.Stopping.{shown_in}
use Rattle.pas_scopes.specs.Arguments.{ShowsFirst}
use Rattle.pas_rules.proofs.AsMany.{AsMany}
use Rattle.pas_scopes.proofs.AnswerLemmas.{checked_marks}

-- the lowest of faults is no higher than the first of them
chosen_code : (low next : Wrong) (chosen : Bool) → nat_lt next.code low.code ≡ chosen
    → (if chosen then next else low).code ≤ low.code
chosen_code low next true is = grind (arith, nat_tests)
chosen_code low next false is = omega arith

pub lowest_code : (low : Wrong) (more : List Wrong) → (lowest low more).code ≤ low.code
lowest_code low [] = omega arith
lowest_code low (next ∷ more) =
    let chosen : Wrong = if nat_lt next.code low.code then next else low in
    omega (arith, lowest_code chosen more, chosen_code low next (nat_lt next.code low.code) refl)

-- faults that are no lower than a wrong type
abbrev pub AreMild : List Wrong → Type 0
AreMild faults = (low : Wrong) → low.code ≤ WRONG_TYPE → lowest low faults ≡ low

no_lower : (low : Wrong) → low.code ≤ WRONG_TYPE → nat_lt WRONG_TYPE low.code ≡ false
no_lower low h = grind (arith, nat_tests)

pub none_mild : AreMild []
none_mild low h = refl

pub mild_unless : (holds : Bool) → AreMild (unless holds (wrong WRONG_TYPE))
mild_unless true low h = refl
mild_unless false low h = ap (λ (chosen : Bool). if chosen then wrong WRONG_TYPE else low) (no_lower low h)

pub mild_if : {A : Type 0} (demand : A → List Wrong) → ((value : A) → AreMild (demand value)) → (value : Option A)
    → AreMild (faults_if demand value)
mild_if demand mild None = none_mild
mild_if demand mild (Some value) = mild value

-- one more fault of the last word, and more words
pub first_last : (words : List Word) (tokens : List (List Wrong)) (faults : List Wrong) (why : Stop) → AreMild faults
    → ShowsFirst words tokens why → ShowsFirst words (last_of faults tokens) why
first_last [] tokens faults why mild h = absurd h
first_last (word ∷ words) [] faults why mild h = absurd h
first_last (word ∷ words) (last ∷ []) faults why mild h =
    let step : Wrong → Wrong → Wrong = λ low next. if nat_lt next.code low.code then next else low in
    let same : lowest (wrong WRONG_TYPE) (last ++ faults) ≡ lowest (wrong WRONG_TYPE) last =
    fold-append step (wrong WRONG_TYPE) last faults
    ∙ mild (lowest (wrong WRONG_TYPE) last) (lowest_code (wrong WRONG_TYPE) last) in
    h ∙ ap (shown_in word.token.line) (sym same)
first_last (word ∷ words) (first ∷ (second ∷ more)) faults why mild h = h

pub first_words : (words more : List Word) (tokens : List (List Wrong)) (why : Stop) → ShowsFirst words tokens why
    → ShowsFirst (words ++ more) tokens why
first_words [] more tokens why h = absurd h
first_words (word ∷ words) more [] why h = absurd h
first_words (word ∷ words) more (faults ∷ tokens) why h = h

pub first_tokens : (words : List Word) (tokens next : List (List Wrong)) (why : Stop) → ShowsFirst words tokens why
    → ShowsFirst words (tokens ++ next) why
first_tokens [] tokens next why h = absurd h
first_tokens (word ∷ words) [] next why h = absurd h
first_tokens (word ∷ words) (faults ∷ tokens) next why h = h

-- demands on a part
module _ {A : Type 0} (words : List Word) (demand : A → List Wrong) (part : Judged A) (why : Stop)
    (mild : (value : A) → AreMild (demand value)) where
  pub first_noted : ShowsFirst words part.marks.tokens why → ShowsFirst words (noted demand part).marks.tokens why
  first_noted h =
      first_last words part.marks.tokens (faults_if demand part.value) why (mild_if demand mild part.value) h

  pub first_checked : ShowsFirst words part.marks.tokens why → ShowsFirst words (checked demand part).marks.tokens why
  first_checked h =
      subst (λ (marks : Marks). ShowsFirst words marks.tokens why) (sym (checked_marks words demand part))
      (first_noted h)

-- a part that is one too many
too_many_at : (words : List Word) (behind : List Wrong) (tokens : List (List Wrong)) (why : Stop)
    → length tokens ≡ length words → ShowsFirst words tokens why
    → FailsBy words (first_of (wrong WRONG_TYPE ∷ []) behind tokens) why
too_many_at [] behind tokens why many h = absurd h
too_many_at (word ∷ words) behind [] why many h = absurd h
too_many_at (word ∷ words) behind (faults ∷ tokens) why many h =
    subst (FailsBy (word ∷ words) (first_of (wrong WRONG_TYPE ∷ []) behind (faults ∷ tokens))) (sym h)
    record { many = many; first = refl }

pub too_many : (words : List Word) (part : Marks) (why : Stop) → AsMany words part → ShowsFirst words part.tokens why
    → FailsBy words (at_first (wrong WRONG_TYPE ∷ []) part) why
too_many words part why many h = too_many_at words part.behind part.tokens why many.same h
