-- How parts end, one behind another, and where they stop.
use Rattle.std.proofs.Common.{◌≡◌, refl, sym, ap, subst, ◌∙◌, ℕ, suc, ◌+◌, ◌<◌, arith, Bool, true, false, List, []}
use Rattle.std.proofs.Common.{◌∷◌, ◌++◌}
use Rattle.std.proofs.Common.{length, Option, Some, None}
use Rattle.std.specs.Prelude.{nat_lt, if◌then◌else◌, option_map}
use Rattle.std.proofs.lemmas.List.{length-append, append-nil, append_assoc}
use Rattle.std.proofs.lemmas.List.Sums.{fold-append}
use Rattle.std.proofs.lemmas.Option.{none-some}
use Rattle.wb_base.specs.declared.faults.Fault.{Fault}
use Rattle.wb_base.specs.declared.faults.TheConstants.{WRONG_TYPE}
use Rattle.pas_tokens.specs.Cutting.{Wrong, wrong}
use Rattle.pas_tokens.specs.Tokens.{fault_in}
use Rattle.pas_syntax.specs.Words.{Word}
use Rattle.pas_rules.specs.Marks.{Marks, quiet, first_of, last_of, at_last, followed, joined}
use Rattle.pas_rules.specs.Marks.{Judged, judged, noted, checked, checked_by, kept_by, faults_if, lowest}
use Rattle.pas_rules.specs.Marks.{first_fault}
use Rattle.pas_rules.proofs.AsMany.{first_count, last_count}
use Rattle.pas_scopes.specs.Ends.{AreQuiet, lowest_of, lower_of, End, refusal_behind, Ends, Stops}

-- quiet words in front change nothing
pub behind_quiet : (words more : List Word) (tokens next : List (List Wrong)) → AreQuiet words tokens
    → first_fault (words ++ more) (tokens ++ next) ≡ first_fault more next
behind_quiet [] more [] next h = refl
behind_quiet [] more (faults ∷ tokens) next h = absurd h
behind_quiet (word ∷ words) more [] next h = absurd h
behind_quiet (word ∷ words) more (faults ∷ tokens) next h =
    subst (λ shown. first_fault (word ∷ (words ++ more)) (shown ∷ (tokens ++ next)) ≡ first_fault more next) (sym h.0)
    (behind_quiet words more tokens next h.1)

-- a fault in front stays the first one
pub in_front : (words more : List Word) (tokens next : List (List Wrong)) (fault : Fault)
    → length tokens ≡ length words → first_fault words tokens ≡ Some fault
    → first_fault (words ++ more) (tokens ++ next) ≡ Some fault
in_front [] more tokens next fault many h = absurd (none-some fault h)
in_front (word ∷ words) more [] next fault many h = absurd (none-some fault h)
in_front (word ∷ words) more ([] ∷ tokens) next fault many h =
    in_front words more tokens next fault (omega (arith, many)) h
in_front (word ∷ words) more ((refusal ∷ others) ∷ tokens) next fault many h = h

pub quiet_append : (words more : List Word) (tokens next : List (List Wrong)) → AreQuiet words tokens
    → AreQuiet more next → AreQuiet (words ++ more) (tokens ++ next)
quiet_append [] more [] next h k = k
quiet_append [] more (faults ∷ tokens) next h k = absurd h
quiet_append (word ∷ words) more [] next h k = absurd h
quiet_append (word ∷ words) more (faults ∷ tokens) next h k = (h.0, quiet_append words more tokens next h.1 k)

pub quiet_many : (words : List Word) (tokens : List (List Wrong)) → AreQuiet words tokens
    → length tokens ≡ length words
quiet_many [] [] h = refl
quiet_many [] (faults ∷ tokens) h = absurd h
quiet_many (word ∷ words) [] h = absurd h
quiet_many (word ∷ words) (faults ∷ tokens) h = ap suc (quiet_many words tokens h.1)

-- an end is that of one word or more
end_front : (word : Word) (words : List Word) (faults : List Wrong) (tokens : List (List Wrong)) (line : ℕ)
    (refusal : Option Wrong) → faults ≡ [] → End words tokens line refusal
    → End (word ∷ words) (faults ∷ tokens) line refusal
end_front word [] faults tokens line refusal h k = absurd k
end_front word (next ∷ words) faults tokens line refusal h k = (h, k)

pub end_append : (words more : List Word) (tokens next : List (List Wrong)) (line : ℕ) (refusal : Option Wrong)
    → AreQuiet words tokens → End more next line refusal → End (words ++ more) (tokens ++ next) line refusal
end_append [] more [] next line refusal h k = k
end_append [] more (faults ∷ tokens) next line refusal h k = absurd h
end_append (word ∷ words) more [] next line refusal h k = absurd h
end_append (word ∷ words) more (faults ∷ tokens) next line refusal h k =
    end_front word (words ++ more) faults (tokens ++ next) line refusal h.0
    (end_append words more tokens next line refusal h.1 k)

-- the lowest of some faults, and of one more
pub lowest_one_more : (faults : List Wrong) (found : Wrong)
    → lowest_of (faults ++ found ∷ []) ≡ Some (lower_of (lowest_of faults) found)
lowest_one_more [] found = refl
lowest_one_more (refusal ∷ more) found =
    ap Some (fold-append (λ (low : Wrong) (next : Wrong). if nat_lt next.code low.code then next else low) refusal more
    (found ∷ []))

none_lowest : (faults : List Wrong) → lowest_of faults ≡ None → faults ≡ []
none_lowest [] h = refl
none_lowest (refusal ∷ more) h = absurd (none-some (lowest refusal more) (sym h))

-- an end without a fault, and with one
pub end_quiet : (words : List Word) (tokens : List (List Wrong)) (line : ℕ) → End words tokens line None
    → AreQuiet words tokens
end_quiet [] tokens line h = absurd h
end_quiet (word ∷ []) [] line h = absurd h
end_quiet (word ∷ []) (faults ∷ []) line h = (none_lowest faults h.1, tt)
end_quiet (word ∷ []) (faults ∷ (next ∷ tokens)) line h = absurd h
end_quiet (word ∷ (next ∷ words)) [] line h = absurd h
end_quiet (word ∷ (next ∷ words)) (faults ∷ tokens) line h = (h.0, end_quiet (next ∷ words) tokens line h.1)

shown_first : (word : Word) (faults : List Wrong) (line : ℕ) (refusal : Wrong) → word.token.line ≡ line
    → lowest_of faults ≡ Some refusal → first_fault (word ∷ []) (faults ∷ []) ≡ Some (fault_in line refusal)
shown_first word [] line refusal at h = absurd (none-some refusal h)
shown_first word (fault ∷ more) line refusal at h =
    ap (λ line. Some (fault_in line (lowest fault more))) at ∙ ap (option_map (fault_in line)) h

pub end_faulty : (words : List Word) (tokens : List (List Wrong)) (line : ℕ) (refusal : Wrong)
    → End words tokens line (Some refusal) → first_fault words tokens ≡ Some (fault_in line refusal)
end_faulty [] tokens line refusal h = absurd h
end_faulty (word ∷ []) [] line refusal h = absurd h
end_faulty (word ∷ []) (faults ∷ []) line refusal h = shown_first word faults line refusal h.0 h.1
end_faulty (word ∷ []) (faults ∷ (next ∷ tokens)) line refusal h = absurd h
end_faulty (word ∷ (next ∷ words)) [] line refusal h = absurd h
end_faulty (word ∷ (next ∷ words)) (faults ∷ tokens) line refusal h =
    subst (λ shown. first_fault (word ∷ (next ∷ words)) (shown ∷ tokens) ≡ Some (fault_in line refusal)) (sym h.0)
    (end_faulty (next ∷ words) tokens line refusal h.1)

pub end_many : (words : List Word) (tokens : List (List Wrong)) (line : ℕ) (refusal : Option Wrong)
    → End words tokens line refusal → length tokens ≡ length words
end_many [] tokens line refusal h = absurd h
end_many (word ∷ []) [] line refusal h = absurd h
end_many (word ∷ []) (faults ∷ []) line refusal h = refl
end_many (word ∷ []) (faults ∷ (next ∷ tokens)) line refusal h = absurd h
end_many (word ∷ (next ∷ words)) [] line refusal h = absurd h
end_many (word ∷ (next ∷ words)) (faults ∷ tokens) line refusal h =
    ap suc (end_many (next ∷ words) tokens line refusal h.1)

end_of_nothing : (word : Word) (words : List Word) (line : ℕ) (refusal : Option Wrong)
    → End (word ∷ words) [] line refusal → ⊥
end_of_nothing word [] line refusal h = h
end_of_nothing word (next ∷ words) line refusal h = h

-- one more fault of the last word
pub end_refused : (words : List Word) (tokens : List (List Wrong)) (line : ℕ) (refusal : Option Wrong) (found : Wrong)
    → End words tokens line refusal
    → End words (last_of (found ∷ []) tokens) line (Some (lower_of refusal found))
end_refused [] tokens line refusal found h = absurd h
end_refused (word ∷ []) [] line refusal found h = absurd h
end_refused (word ∷ []) (faults ∷ []) line refusal found h =
    (h.0, lowest_one_more faults found ∙ ap (λ low. Some (lower_of low found)) h.1)
end_refused (word ∷ []) (faults ∷ (next ∷ tokens)) line refusal found h = absurd h
end_refused (word ∷ (next ∷ words)) [] line refusal found h = absurd h
end_refused (word ∷ (next ∷ words)) (faults ∷ []) line refusal found h =
    absurd (end_of_nothing next words line refusal h.1)
end_refused (word ∷ (next ∷ words)) (faults ∷ (shown ∷ tokens)) line refusal found h =
    (h.0, end_refused (next ∷ words) (shown ∷ tokens) line refusal found h.1)

-- no more faults, and more and more of them
pub last_of_nothing : (tokens : List (List Wrong)) → last_of [] tokens ≡ tokens
last_of_nothing [] = refl
last_of_nothing (last ∷ []) = ap (λ shown. shown ∷ []) (append-nil last)
last_of_nothing (first ∷ (second ∷ more)) = ap (λ tokens. first ∷ tokens) (last_of_nothing (second ∷ more))

pub last_of_both : (faults more : List Wrong) (tokens : List (List Wrong))
    → last_of more (last_of faults tokens) ≡ last_of (faults ++ more) tokens
last_of_both faults more [] = refl
last_of_both faults more (last ∷ []) = ap (λ shown. shown ∷ []) (append_assoc last faults more)
last_of_both faults more (first ∷ (second ∷ [])) =
    ap (λ shown. first ∷ (shown ∷ [])) (append_assoc second faults more)
last_of_both faults more (first ∷ (second ∷ (third ∷ tokens))) =
    ap (λ tokens. first ∷ tokens) (last_of_both faults more (second ∷ (third ∷ tokens)))

-- the last token of two lists, of which the second has one
pub last_of_append : (faults : List Wrong) (tokens : List (List Wrong)) (first : List Wrong) (more : List (List Wrong))
    → last_of faults (tokens ++ first ∷ more) ≡ tokens ++ last_of faults (first ∷ more)
last_of_append faults [] first more = refl
last_of_append faults (token ∷ []) first more = refl
last_of_append faults (token ∷ (next ∷ tokens)) first more =
    ap (λ tokens. token ∷ tokens) (last_of_append faults (next ∷ tokens) first more)

-- parts behind one another

abbrev joined_to : Marks → Marks → Marks
joined_to part next = record { tokens = part.tokens ++ next.tokens; behind = next.behind }

pub first_nothing : (behind : List Wrong) (tokens : List (List Wrong))
    → first_of [] behind tokens ≡ record { tokens = tokens; behind = behind }
first_nothing behind [] = refl
first_nothing behind (first ∷ more) = refl

-- a part behind which nothing shows because of it
pub after_clear : (part next : Marks) → part.behind ≡ []
    → followed part next ≡ record { tokens = part.tokens ++ next.tokens; behind = next.behind }
after_clear part next clear =
    ap (λ (faults : List Wrong). joined_to part (first_of faults next.behind next.tokens)) clear
    ∙ ap (joined_to part) (first_nothing next.behind next.tokens)

no_first : (words : List Word) → first_fault words [] ≡ None
no_first [] = refl
no_first (word ∷ words) = refl

pub stops_first : {A : Type 0} (words : List Word) (part : Judged A) (fault : Fault) → Stops words part fault
    → first_fault words part.marks.tokens ≡ Some fault
stops_first words part fault h =
    subst (λ tokens. first_fault words tokens ≡ Some fault) (last_of_nothing part.marks.tokens)
    (h.first [] (λ unknown. refl))

in_front_of : (words more : List Word) (tokens : List (List Wrong)) (faults behind shown : List Wrong)
    (next : List (List Wrong)) (fault : Fault) → length tokens ≡ length words → 0 < length next
    → first_fault words tokens ≡ Some fault
    → first_fault (words ++ more) (last_of faults (tokens ++ (first_of shown behind next).tokens)) ≡ Some fault
in_front_of words more tokens faults behind shown [] fault many some h = absurd (omega (arith, some))
in_front_of words more tokens faults behind shown (first ∷ next) fault many some h =
    subst (λ all. first_fault (words ++ more) all ≡ Some fault)
    (sym (last_of_append faults tokens (shown ++ first) next))
    (in_front words more tokens (last_of faults ((shown ++ first) ∷ next)) fault many h)

-- where a part shows a fault, checking stops there whatever stands behind
pub stops_within : {B : Type 0} (words more : List Word) (part next : Marks) (value : Option B) (fault : Fault)
    → length part.tokens ≡ length words → first_fault words part.tokens ≡ Some fault
    → length next.tokens ≡ length more → 0 < length more
    → Stops (words ++ more) (judged (followed part next) value) fault
stops_within words more part next value fault part_many h many some = record {
  many = length-append part.tokens (first_of part.behind next.behind next.tokens).tokens
      ∙ (ap (λ n. n + length (first_of part.behind next.behind next.tokens).tokens) part_many
      ∙ (ap (λ n. length words + n) (first_count part.behind next.behind next.tokens ∙ many)
      ∙ sym (length-append words more)));
  first = λ faults unknown. in_front_of words more part.tokens faults next.behind part.behind next.tokens fault
      part_many (omega (arith, many, some)) h;
}

pub stops_in_front : {A B : Type 0} (words more : List Word) (part : Judged A) (next : Marks) (value : Option B)
    (fault : Fault) → Stops words part fault → length next.tokens ≡ length more → 0 < length more
    → Stops (words ++ more) (judged (followed part.marks next) value) fault
stops_in_front words more part next value fault h many some =
    stops_within words more part.marks next value fault h.many (stops_first words part fault h) many some

behind_quiet_of : (words more : List Word) (tokens next : List (List Wrong)) (faults : List Wrong) (fault : Fault)
    → AreQuiet words tokens → first_fault more (last_of faults next) ≡ Some fault
    → first_fault (words ++ more) (last_of faults (tokens ++ next)) ≡ Some fault
behind_quiet_of words more tokens [] faults fault still h = absurd (none-some fault (sym (no_first more) ∙ h))
behind_quiet_of words more tokens (first ∷ next) faults fault still h =
    subst (λ all. first_fault (words ++ more) all ≡ Some fault) (sym (last_of_append faults tokens first next))
    (behind_quiet words more tokens (last_of faults (first ∷ next)) still ∙ h)

-- where a part is quiet, checking stops where it does in what stands behind
pub stops_behind : {B C : Type 0} (words more : List Word) (part : Marks) (next : Judged B) (value : Option C)
    (fault : Fault) → AreQuiet words part.tokens → part.behind ≡ [] → Stops more next fault
    → (next.value ≡ None → value ≡ None)
    → Stops (words ++ more) (judged (followed part next.marks) value) fault
stops_behind {C = C} words more part next value fault still clear h unknown =
    subst (λ (marks : Marks). Stops {A = C} (words ++ more) (judged marks value) fault)
    (sym (after_clear part next.marks clear))
    record {
      many = length-append part.tokens next.marks.tokens
          ∙ (ap (λ n. n + length next.marks.tokens) (quiet_many words part.tokens still)
          ∙ (ap (λ n. length words + n) h.many ∙ sym (length-append words more)));
      first = λ faults nothing. behind_quiet_of words more part.tokens next.marks.tokens faults fault still
          (h.first faults (λ none. nothing (unknown none)));
    }

-- where a part is quiet, the whole ends as what stands behind
pub ends_behind : {B C : Type 0} (words more : List Word) (part : Marks) (next : Judged B) (found : B)
    (value : Option C) (whole : C) (line : ℕ) (refusal : Option Wrong) (is_short : Bool) → AreQuiet words part.tokens
    → part.behind ≡ [] → Ends more next found line refusal is_short → value ≡ Some whole
    → Ends (words ++ more) (judged (followed part next.marks) value) whole line refusal is_short
ends_behind {C = C} words more part next found value whole line refusal is_short still clear h is =
    subst (λ (marks : Marks). Ends {A = C} (words ++ more) (judged marks value) whole line refusal is_short)
    (sym (after_clear part next.marks clear))
    record {
      known = is;
      end = end_append words more part.tokens next.marks.tokens line refusal still h.end;
      behind = h.behind;
    }

-- demands on what a part means

pub noted_stops : {A : Type 0} (words : List Word) (demand : A → List Wrong) (part : Judged A) (fault : Fault)
    → Stops words part fault → Stops words (noted demand part) fault
noted_stops words demand part fault h =
    let shown : List Wrong = faults_if demand part.value in
    record {
      many = last_count shown part.marks.tokens ∙ h.many;
      first = λ more nothing. subst (λ tokens. first_fault words tokens ≡ Some fault)
          (sym (last_of_both shown more part.marks.tokens))
          (h.first (shown ++ more) (λ none. ap (λ (value : Option _). faults_if demand value ++ more) none
          ∙ nothing none));
    }

kept_stops : {A : Type 0} (words : List Word) (marks : Marks) (value : A) (faults : List Wrong) (fault : Fault)
    → Stops words (judged marks (Some value)) fault → Stops words (kept_by marks value faults) fault
kept_stops words marks value [] fault h = h
kept_stops words marks value (refusal ∷ others) fault h =
    let shown : List Wrong = refusal ∷ others in
    record {
      many = last_count shown marks.tokens ∙ h.many;
      first = λ more nothing. subst (λ tokens. first_fault words tokens ≡ Some fault)
          (sym (last_of_both shown more marks.tokens))
          (h.first (shown ++ more) (λ none. absurd (none-some value (sym none))));
    }

checked_value_stops : {A : Type 0} (words : List Word) (demand : A → List Wrong) (marks : Marks) (value : Option A)
    (fault : Fault) → Stops words (judged marks value) fault → Stops words (checked_by demand marks value) fault
checked_value_stops words demand marks None fault h = h
checked_value_stops words demand marks (Some value) fault h = kept_stops words marks value (demand value) fault h

pub checked_stops : {A : Type 0} (words : List Word) (demand : A → List Wrong) (part : Judged A) (fault : Fault)
    → Stops words part fault → Stops words (checked demand part) fault
checked_stops words demand part fault h = checked_value_stops words demand part.marks part.value fault h

pub noted_fine : {A : Type 0} (words : List Word) (demand : A → List Wrong) (part : Judged A) (value : A) (line : ℕ)
    (refusal : Option Wrong) (is_short : Bool) → demand value ≡ [] → Ends words part value line refusal is_short
    → Ends words (noted demand part) value line refusal is_short
noted_fine words demand part value line refusal is_short fine h = record {
  known = h.known;
  end = subst (λ tokens. End words tokens line refusal)
      (sym (ap (λ faults. last_of faults part.marks.tokens) (ap (faults_if demand) h.known ∙ fine)
      ∙ last_of_nothing part.marks.tokens)) h.end;
  behind = h.behind;
}

pub noted_refused : {A : Type 0} (words : List Word) (demand : A → List Wrong) (part : Judged A) (value : A)
    (line : ℕ) (refusal : Option Wrong) (is_short : Bool) (found : Wrong) → demand value ≡ found ∷ []
    → Ends words part value line refusal is_short
    → Ends words (noted demand part) value line (Some (lower_of refusal found)) is_short
noted_refused words demand part value line refusal is_short found refused h = record {
  known = h.known;
  end = subst (λ faults. End words (last_of faults part.marks.tokens) line (Some (lower_of refusal found)))
      (sym (ap (faults_if demand) h.known ∙ refused))
      (end_refused words part.marks.tokens line refusal found h.end);
  behind = h.behind;
}

-- a part that breaks a rule, and of which nothing is known then
pub checked_fine : {A : Type 0} (words : List Word) (demand : A → List Wrong) (part : Judged A) (value : A) (line : ℕ)
    (refusal : Option Wrong) (is_short : Bool) → demand value ≡ [] → Ends words part value line refusal is_short
    → Ends words (checked demand part) value line refusal is_short
checked_fine {A = A} words demand part value line refusal is_short fine h =
    subst (λ (whole : Judged A). Ends words whole value line refusal is_short)
    (sym (ap (checked_by demand part.marks) h.known ∙ ap (kept_by part.marks value) fine))
    record { known = refl; end = h.end; behind = h.behind }

pub checked_refused : {A : Type 0} (words : List Word) (demand : A → List Wrong) (part : Judged A) (value : A)
    (line : ℕ) (refusal : Option Wrong) (is_short : Bool) (found : Wrong) → demand value ≡ found ∷ []
    → Ends words part value line refusal is_short
    → Stops words (checked demand part) (fault_in line (lower_of refusal found))
checked_refused {A = A} words demand part value line refusal is_short found refused h =
    let shown : Judged A = judged (at_last (found ∷ []) part.marks) None in
    let end : End words shown.marks.tokens line (Some (lower_of refusal found)) =
    end_refused words part.marks.tokens line refusal found h.end in
    subst (λ (whole : Judged A). Stops words whole (fault_in line (lower_of refusal found)))
    (sym (ap (checked_by demand part.marks) h.known ∙ ap (kept_by part.marks value) refused))
    record {
      many = end_many words shown.marks.tokens line (Some (lower_of refusal found)) end;
      first = λ more nothing. subst (λ faults. first_fault words (last_of faults shown.marks.tokens)
          ≡ Some (fault_in line (lower_of refusal found))) (sym (nothing refl))
          (subst (λ tokens. first_fault words tokens ≡ Some (fault_in line (lower_of refusal found)))
          (sym (last_of_nothing shown.marks.tokens))
          (end_faulty words shown.marks.tokens line (lower_of refusal found) end));
    }

short_of : (word : Word) (more : List Word) (behind : List Wrong) (tokens : List (List Wrong)) (faults : List Wrong)
    → behind ≡ wrong WRONG_TYPE ∷ [] → 0 < length tokens
    → first_fault (word ∷ more) (last_of faults ((behind ++ []) ∷ tokens))
    ≡ Some (fault_in word.token.line (wrong WRONG_TYPE))
short_of word more behind [] faults is some = absurd (omega (arith, some))
short_of word more behind (first ∷ tokens) faults is some =
    subst (λ shown. first_fault (word ∷ more) ((shown ++ []) ∷ last_of faults (first ∷ tokens))
    ≡ Some (fault_in word.token.line (wrong WRONG_TYPE))) (sym is) refl

-- a part behind which something is missing shows it at the word behind
pub stops_short : {A B : Type 0} (words more : List Word) (part : Judged A) (value : A) (line : ℕ) (word : Word)
    (next : Marks) (whole : Option B) → Ends words part value line None true → length next.tokens ≡ length more
    → 0 < length more
    → Stops (words ++ word ∷ more) (judged (followed part.marks (followed quiet next)) whole)
    (fault_in word.token.line (wrong WRONG_TYPE))
stops_short words more part value line word next whole h many some =
    let rest : List (List Wrong) = (first_of [] next.behind next.tokens).tokens in
    let rest_many : length rest ≡ length more = first_count [] next.behind next.tokens ∙ many in
    record {
      many = omega (
        arith,
        length-append part.marks.tokens ((part.marks.behind ++ []) ∷ rest),
        end_many words part.marks.tokens line None h.end,
        rest_many,
        length-append words (word ∷ more),
      );
      first = λ faults nothing. behind_quiet_of words (word ∷ more) part.marks.tokens
          ((part.marks.behind ++ []) ∷ rest) faults (fault_in word.token.line (wrong WRONG_TYPE))
          (end_quiet words part.marks.tokens line h.end)
          (short_of word more part.marks.behind rest faults h.behind (omega (arith, rest_many, some)));
    }

-- a part that breaks a rule, and something behind it
pub stops_refused : {A B : Type 0} (words more : List Word) (part : Judged A) (value : A) (line : ℕ) (refusal : Wrong)
    (is_short : Bool) (next : Marks) (whole : Option B) → Ends words part value line (Some refusal) is_short
    → length next.tokens ≡ length more → 0 < length more
    → Stops (words ++ more) (judged (followed part.marks next) whole) (fault_in line refusal)
stops_refused words more part value line refusal is_short next whole h many some =
    stops_within words more part.marks next whole (fault_in line refusal)
    (end_many words part.marks.tokens line (Some refusal) h.end)
    (end_faulty words part.marks.tokens line refusal h.end) many some

-- a part, and the word that closes a larger one
pub ends_closed : {A B : Type 0} (words : List Word) (part : Judged A) (value : A) (line : ℕ) (is_short : Bool)
    (word : Word) (known : Option B) (whole : B) → Ends words part value line None is_short → known ≡ Some whole
    → Ends (words ++ word ∷ []) (judged (joined (part.marks ∷ quiet ∷ [])) known) whole word.token.line
    (refusal_behind is_short) false
ends_closed words part value line true word known whole h is = record {
  known = is;
  end = end_append words (word ∷ []) part.marks.tokens ((part.marks.behind ++ []) ∷ []) word.token.line
      (refusal_behind true) (end_quiet words part.marks.tokens line h.end)
      (refl, ap (λ (faults : List Wrong). lowest_of (faults ++ [])) h.behind);
  behind = refl;
}
ends_closed words part value line false word known whole h is = record {
  known = is;
  end = end_append words (word ∷ []) part.marks.tokens ((part.marks.behind ++ []) ∷ []) word.token.line
      (refusal_behind false) (end_quiet words part.marks.tokens line h.end)
      (refl, ap (λ (faults : List Wrong). lowest_of (faults ++ [])) h.behind);
  behind = refl;
}
