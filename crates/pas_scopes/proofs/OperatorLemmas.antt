-- What is answered of operators, by what was answered of their operands.
use Rattle.std.proofs.Common.{◌≡◌, sym, ap, subst, ℕ, ◌<◌, Bool, false, List, [], ◌∷◌, ◌++◌, length, None}
use Rattle.std.proofs.Common.{Ok, Err}
use Rattle.pas_tokens.specs.Cutting.{Wrong, wrong}
use Rattle.pas_syntax.specs.Words.{Word}
use Rattle.pas_scopes.specs.declared.stop.Stop.{Stop}
use Rattle.pas_scopes.specs.declared.judged.Judged.{Judged as CodeJudged}
use Rattle.pas_rules.specs.Marks.{quiet, joined, Judged, judged, known, noted, unless}
use Rattle.pas_scopes.specs.Ends.{Ends}
use Rattle.pas_scopes.specs.Stopping.{found_before}
use Rattle.pas_scopes.specs.Answers.{Ending, noted_end, settled_by, end_in, EndsAs, StopsBy}
use Rattle.pas_rules.proofs.AsMany.{AsMany, noted_many}
use Rattle.pas_scopes.proofs.EndLemmas.{end_many}
use Rattle.pas_scopes.proofs.PartLemmas.{pair}
use Rattle.pas_scopes.proofs.AnswerLemmas.{noted_stops_by, noted_found, pair_stops, pair_unsettled}
use Rattle.pas_scopes.proofs.AnswerLemmas.{pair_second, pair_ends_as, before_ends, behind_word_ends}

-- a part that ends shows as many lists of faults as it has words
pub ends_many : {A : Type 0} (words : List Word) (part : Judged A) (value : A) (end : Ending)
    → EndsAs words part value end → AsMany words part.marks
ends_many words part value end h =
    record { same = end_many words part.marks.tokens end.line end.refusal h.end }

-- two operands with an operator between them, on each of which a demand is made
module _ {A B C : Type 0} (words more : List Word) (word : Word) (make : A → B → C) (demand : A → List Wrong)
    (like : B → List Wrong) (left : Judged A) (right : Judged B) where
  abbrev first : Judged A
  first = noted demand left

  abbrev second : Judged B
  second = noted like right

  pub first_stops : AsMany more right.marks → (why : Stop) → StopsBy words left why
      → StopsBy (words ++ word ∷ more) (pair make first second) why
  first_stops many why h =
      pair_stops words more word make first second (noted_many like right many) why
      (noted_stops_by words demand left why h)

  -- the first one, with its demand, before the operator
  pub first_unsettled : {X : Type 0} → AsMany more right.marks → 0 < length more → (view : X → A)
      (found next : CodeJudged X) (holds : Bool) (code behind : ℕ) (why : Stop)
      → demand (view found.value) ≡ unless holds (wrong code) → next.value ≡ found.value
      → end_in next.end ≡ noted_end holds code (end_in found.end) → behind ≡ word.token.line
      → Err why ≡ found_before behind (settled_by (end_in next.end) next.value)
      → EndsAs words left (view found.value) (end_in found.end)
      → StopsBy (words ++ word ∷ more) (pair make first second) why
  first_unsettled many some view found next holds code behind why fine same end at is h =
      let last : Ending = end_in next.end in
      pair_unsettled words more word make first second (noted_many like right many) (view next.value) next.value behind
      last.line last.refusal last.is_short why at some is
      (noted_found words demand left view found next holds code fine same end h)

  pub first_settled : {X : Type 0} (view : X → A) (found next : CodeJudged X) (settled : X) (holds : Bool)
      (code behind : ℕ) → demand (view found.value) ≡ unless holds (wrong code) → next.value ≡ found.value
      → end_in next.end ≡ noted_end holds code (end_in found.end)
      → Ok settled ≡ found_before behind (settled_by (end_in next.end) next.value)
      → EndsAs words left (view found.value) (end_in found.end)
      → Ends words first (view settled) (end_in next.end).line None false
  first_settled view found next settled holds code behind fine same end is h =
      let last : Ending = end_in next.end in
      let both = before_ends words first (view next.value) behind last.line last.refusal last.is_short next.value
      settled is (noted_found words demand left view found next holds code fine same end h) in
      subst (λ (value : A). Ends words first value last.line None false) (ap view (sym both.0)) both.1

  pub second_stops : (value : A) (line : ℕ) (why : Stop) → AsMany more right.marks
      → Ends words first value line None false → StopsBy more right why
      → StopsBy (words ++ word ∷ more) (pair make first second) why
  second_stops value line why many h k =
      pair_second words more word make first second (noted_many like right many) value line why h
      (noted_stops_by more like right why k)

  -- both
  pub operands_end : {X : Type 0} (value : A) (line : ℕ) (view : X → B) (found next : CodeJudged X) (holds : Bool)
      (code : ℕ) (whole : C) → like (view found.value) ≡ unless holds (wrong code) → next.value ≡ found.value
      → end_in next.end ≡ noted_end holds code (end_in found.end) → whole ≡ make value (view next.value)
      → Ends words first value line None false → EndsAs more right (view found.value) (end_in found.end)
      → EndsAs (words ++ word ∷ more) (pair make first second) whole (end_in next.end)
  operands_end value line view found next holds code whole fine same end is h k =
      let behind : EndsAs more second (view next.value) (end_in next.end) =
      noted_found more like right view found next holds code fine same end k in
      subst (λ (item : C). EndsAs (words ++ word ∷ more) (pair make first second) item (end_in next.end)) (sym is)
      (pair_ends_as words more word make first second (ends_many more second (view next.value) (end_in next.end)
      behind)
      value line (view next.value) (end_in next.end) h behind)

-- one operand behind an operator
module _ {A B : Type 0} (words : List Word) (word : Word) (make : A → B) (demand : A
    → List Wrong) (part : Judged A) where
  pub operand_ends : {X : Type 0} (view : X → A) (found next : CodeJudged X) (holds : Bool) (code : ℕ) (whole : B)
      → demand (view found.value) ≡ unless holds (wrong code) → next.value ≡ found.value
      → end_in next.end ≡ noted_end holds code (end_in found.end) → whole ≡ make (view next.value)
      → EndsAs words part (view found.value) (end_in found.end)
      → EndsAs (word ∷ words)
      (judged (joined (quiet ∷ (noted demand part).marks ∷ [])) (known make (noted demand part).value)) whole
      (end_in next.end)
  operand_ends view found next holds code whole fine same end is h =
      subst (λ (item : B). EndsAs (word ∷ words)
      (judged (joined (quiet ∷ (noted demand part).marks ∷ [])) (known make (noted demand part).value)) item
      (end_in next.end)) (sym is)
      (behind_word_ends words word make (noted demand part) (view next.value) (end_in next.end)
      (noted_found words demand part view found next holds code fine same end h))
