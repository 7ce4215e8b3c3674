-- Labels that are declared one behind another.
use Rattle.std.proofs.Common.{◌≡◌, refl, sym, ap, subst, ◌∙◌, ℕ, ◌+◌, ◌<◌, arith, false, List, [], ◌∷◌, ◌++◌, length}
use Rattle.std.proofs.Common.{zero, suc, ◌≤◌, map, take, drop, get_or, Some, Result, Ok, Err}
use Rattle.std.specs.Prelude.{flat_map, ⊤}
use Rattle.std.proofs.lemmas.List.{append_assoc, map-append, take_more, take_all}
use Rattle.pas_tokens.specs.declared.kinds.Kind.TheVariants as k
use Rattle.pas_syntax.specs.declared.tree.Numeral.{Numeral as CodeNumeral}
use Rattle.pas_syntax.specs.declared.tree.Behind.{Behind as CodeBehind}
use Rattle.pas_syntax.specs.Views.{numeral_in, behind_in}
use Rattle.pas_syntax.specs.Tree.{Numeral, Behind, Separated, Labels}
use Rattle.pas_syntax.specs.Words.{Word, at, number_at, separated, words_if, labels_words}
use Rattle.pas_scopes.specs.declared.stop.Stop.{Stop}
use Rattle.pas_scopes.specs.declared.stop.Stop.TheVariants as stop
use Rattle.pas_rules.specs.Marks.{Marks, quiet, shows, joined, listed}
use Rattle.pas_rules.specs.Declarations.{new_label, each_label, label_marks}
use Rattle.pas_scopes.specs.Answers.{FailsBy, IsQuiet}
use Rattle.pas_types.specs.inner.LabelViews.{Known, numbers_of, known_labels}
use Rattle.pas_types.specs.inner.LabelAnswers.{fresh_label, IsNew, Numbers, Declares}
use Rattle.pas_rules.proofs.AsMany.{AsMany, one, next_word, behind_word}
use Rattle.pas_scopes.proofs.SettleLemmas.{quiet_behind, quiet_word, quiet_alone, shows_front, shows_behind}
use Rattle.pas_scopes.proofs.SettleLemmas.{shows_alone}
use Rattle.pas_types.proofs.LabelRules.{numbers_known}

abbrev pub items : List (Behind Numeral) → List Numeral
items more = map (λ behind. behind.item) more

abbrev pub values : List Numeral → List ℕ
values numerals = map (λ numeral. numeral.value) numerals

abbrev rest_words : List (Behind Numeral) → List Word
rest_words more = flat_map (λ behind. at 0 k.Comma behind.line ∷ (number_at 0 behind.item ∷ [])) more

abbrev numbers_marks : List ℕ → Numeral → List (Behind Numeral) → Marks
numbers_marks seen numeral more = listed (each_label seen (numeral ∷ items more))

-- labels that are new one after another, behind others
abbrev pub AreNew : List ℕ → List ℕ → Type 0
AreNew seen [] = ⊤
AreNew seen (label ∷ labels) = (new_label seen label ≡ []) × AreNew (seen ++ label ∷ []) labels

new_push : (seen labels : List ℕ) (label : ℕ) → AreNew seen labels → new_label (seen ++ labels) label ≡ []
    → AreNew seen (labels ++ label ∷ [])
new_push seen [] label h is = (ap (λ (before : List ℕ). new_label before label) (sym (append_nothing seen)) ∙ is, tt)
  where
    append_nothing : (xs : List ℕ) → xs ++ [] ≡ xs
    append_nothing [] = refl
    append_nothing (x ∷ xs) = ap (λ rest. x ∷ rest) (append_nothing xs)
new_push seen (first ∷ labels) label h is = (
  h.0,
  new_push (seen ++ first ∷ []) labels label h.1
      (ap (λ (before : List ℕ). new_label before label) (append_assoc seen (first ∷ []) labels) ∙ is),
)

-- words and marks
rest_many : (seen : List ℕ) (numeral : Numeral) (more : List (Behind Numeral))
    → AsMany (number_at 0 numeral ∷ rest_words more) (numbers_marks seen numeral more)
rest_many seen numeral [] = one (number_at 0 numeral) (new_label seen numeral.value)
rest_many seen numeral (behind ∷ more) =
    let list : Marks = numbers_marks (seen ++ numeral.value ∷ []) behind.item more in
    next_word (number_at 0 numeral) (new_label seen numeral.value) (joined (quiet ∷ list ∷ []))
    (behind_word (at 0 k.Comma behind.line) list (rest_many (seen ++ numeral.value ∷ []) behind.item more))

quiet_one : (seen : List ℕ) (numeral : Numeral) → new_label seen numeral.value ≡ []
    → IsQuiet (number_at 0 numeral ∷ []) (shows (new_label seen numeral.value)) false
quiet_one seen numeral h = record { still = (h, tt); behind = refl }

quiet_rest : (seen : List ℕ) (numeral : Numeral) (more : List (Behind Numeral))
    → AreNew seen (numeral.value ∷ values (items more))
    → IsQuiet (number_at 0 numeral ∷ rest_words more) (numbers_marks seen numeral more) false
quiet_rest seen numeral [] h = quiet_one seen numeral h.0
quiet_rest seen numeral (behind ∷ more) h =
    let list : Marks = numbers_marks (seen ++ numeral.value ∷ []) behind.item more in
    let rest : List Word = number_at 0 behind.item ∷ rest_words more in
    let comma : Word = at 0 k.Comma behind.line in
    quiet_behind (number_at 0 numeral ∷ []) (comma ∷ rest) (shows (new_label seen numeral.value))
    (joined (quiet ∷ list ∷ [])) false (quiet_one seen numeral h.0)
    (quiet_behind (comma ∷ []) rest quiet (joined (list ∷ [])) false (quiet_word comma)
    (quiet_alone rest list false (quiet_rest (seen ++ numeral.value ∷ []) behind.item more h.1)))

fails_first : (seen : List ℕ) (numeral : Numeral) (more : List (Behind Numeral)) (why : Stop)
    → FailsBy (number_at 0 numeral ∷ []) (shows (new_label seen numeral.value)) why
    → FailsBy (number_at 0 numeral ∷ rest_words more) (numbers_marks seen numeral more) why
fails_first seen numeral [] why h = h
fails_first seen numeral (behind ∷ more) stop.OutOfMemory h = tt
fails_first seen numeral (behind ∷ more) (stop.Fault fault) h =
    let list : Marks = numbers_marks (seen ++ numeral.value ∷ []) behind.item more in
    let rest : List Word = number_at 0 behind.item ∷ rest_words more in
    let comma : Word = at 0 k.Comma behind.line in
    shows_front (number_at 0 numeral ∷ []) (comma ∷ rest) (shows (new_label seen numeral.value))
    (joined (quiet ∷ list ∷ [])) fault
    (behind_word comma list (rest_many (seen ++ numeral.value ∷ []) behind.item more)) h
fails_first seen numeral (behind ∷ more) stop.Missing h = absurd h

fails_behind : (seen : List ℕ) (numeral : Numeral) (behind : Behind Numeral) (more : List (Behind Numeral))
    (why : Stop) → new_label seen numeral.value ≡ []
    → FailsBy (number_at 0 behind.item ∷ rest_words more)
    (numbers_marks (seen ++ numeral.value ∷ []) behind.item more) why
    → FailsBy (number_at 0 numeral ∷ rest_words (behind ∷ more)) (numbers_marks seen numeral (behind ∷ more)) why
fails_behind seen numeral behind more stop.OutOfMemory new h = tt
fails_behind seen numeral behind more (stop.Fault fault) new h =
    let list : Marks = numbers_marks (seen ++ numeral.value ∷ []) behind.item more in
    let rest : List Word = number_at 0 behind.item ∷ rest_words more in
    let comma : Word = at 0 k.Comma behind.line in
    shows_behind (number_at 0 numeral ∷ []) (comma ∷ rest) (shows (new_label seen numeral.value))
    (joined (quiet ∷ list ∷ [])) fault (quiet_one seen numeral new)
    (shows_behind (comma ∷ []) rest quiet (joined (list ∷ [])) fault (quiet_word comma)
    (shows_alone rest list (stop.Fault fault) h))
fails_behind seen numeral behind more stop.Missing new h = absurd h

fails_later : (seen : List ℕ) (numeral : Numeral) (before : List (Behind Numeral)) (behind : Behind Numeral)
    (more : List (Behind Numeral)) (why : Stop) → AreNew seen (numeral.value ∷ values (items before))
    → FailsBy (number_at 0 behind.item ∷ [])
    (shows (new_label (seen ++ numeral.value ∷ values (items before)) behind.item.value)) why
    → FailsBy (number_at 0 numeral ∷ rest_words (before ++ behind ∷ more))
    (numbers_marks seen numeral (before ++ behind ∷ more)) why
fails_later seen numeral [] behind more why new h =
    fails_behind seen numeral behind more why new.0 (fails_first (seen ++ numeral.value ∷ []) behind.item more why h)
fails_later seen numeral (next ∷ before) behind more why new h =
    fails_behind seen numeral next (before ++ behind ∷ more) why new.0
    (fails_later (seen ++ numeral.value ∷ []) next.item before behind more why new.1
    (subst (λ (others : List ℕ). FailsBy (number_at 0 behind.item ∷ []) (shows (new_label others behind.item.value))
    why)
    (sym (append_assoc seen (numeral.value ∷ []) (next.item.value ∷ values (items before)))) h))

-- how far declaring has come
pub record SoFar (first : Numeral) (before : List (Behind Numeral)) (labels : Known) : Type 0 where
  pub known : labels ≡ known_labels (first.value ∷ values (items before)) [] []
  pub new : AreNew [] (first.value ∷ values (items before))

abbrev pub all_numbers : Numeral → List (Behind Numeral) → Separated Numeral
all_numbers first more = record { first = first; more = more }

seen_is : (first : Numeral) (before : List (Behind Numeral)) (labels : Known) → SoFar first before labels
    → numbers_of labels ≡ first.value ∷ values (items before)
seen_is first before labels h =
    ap numbers_of h.known ∙ numbers_known (first.value ∷ values (items before)) [] []

pub begun : (first : Numeral) (labels : Known) → new_label [] first.value ≡ []
    → labels ≡ fresh_label first.value ∷ [] → SoFar first [] labels
begun first labels new is = record { known = is; new = (new, tt) }

known_push : (labels : List ℕ) (label : ℕ)
    → known_labels (labels ++ label ∷ []) [] [] ≡ known_labels labels [] [] ++ fresh_label label ∷ []
known_push [] label = refl
known_push (first ∷ labels) label = ap (λ rest. fresh_label first ∷ rest) (known_push labels label)

values_push : (before : List (Behind Numeral)) (behind : Behind Numeral)
    → values (items (before ++ behind ∷ [])) ≡ values (items before) ++ behind.item.value ∷ []
values_push [] behind = refl
values_push (first ∷ before) behind = ap (λ rest. first.item.value ∷ rest) (values_push before behind)

pub one_more : (first : Numeral) (before : List (Behind Numeral)) (behind : Behind Numeral) (labels next : Known)
    → SoFar first before labels → new_label (numbers_of labels) behind.item.value ≡ []
    → next ≡ labels ++ fresh_label behind.item.value ∷ [] → SoFar first (before ++ behind ∷ []) next
one_more first before behind labels next h new is =
    let all : first.value ∷ values (items (before ++ behind ∷ []))
    ≡ (first.value ∷ values (items before)) ++ behind.item.value ∷ [] =
    ap (λ rest. first.value ∷ rest) (values_push before behind) in
    record {
      known = is ∙ (ap (λ (known : Known). known ++ fresh_label behind.item.value ∷ []) h.known
          ∙ (sym (known_push (first.value ∷ values (items before)) behind.item.value)
          ∙ ap (λ (labels : List ℕ). known_labels labels [] []) (sym all)));
      new = subst (AreNew []) (sym all) (new_push [] (first.value ∷ values (items before)) behind.item.value h.new
          (ap (λ (seen : List ℕ). new_label seen behind.item.value) (sym (seen_is first before labels h)) ∙ new));
    }

pub stopped : (first : Numeral) (before : List (Behind Numeral)) (behind : Behind Numeral)
    (more : List (Behind Numeral)) (labels : Known) (why : Stop) → SoFar first before labels
    → IsNew labels behind.item (Err why) → Numbers (all_numbers first (before ++ behind ∷ more)) (Err why)
stopped first before behind more labels why h k =
    fails_later [] first before behind more why h.new
    (subst (λ (seen : List ℕ). FailsBy (number_at 0 behind.item ∷ []) (shows (new_label seen behind.item.value)) why)
    (seen_is first before labels h) k)

pub unbegun : (first : Numeral) (more : List (Behind Numeral)) (why : Stop) → IsNew [] first (Err why)
    → Numbers (all_numbers first more) (Err why)
unbegun first more why k = fails_first [] first more why k

pub ended : (first : Numeral) (more : List (Behind Numeral)) (labels : Known) → SoFar first more labels
    → Numbers (all_numbers first more) (Ok labels)
ended first more labels h = (h.known, quiet_rest [] first more h.new)

-- where a `?` returns early
pub numbers_stop : (numbers : Separated Numeral) (why : Stop) (result : Result Known Stop)
    → ((found : Stop) × (result ≡ Err found) × (found ≡ why)) → Numbers numbers (Err why) → Numbers numbers result
numbers_stop numbers why result is h = subst (Numbers numbers) (sym (is.1 ∙ ap Err is.2)) h

-- the whole part
module _ (part : Labels) where
  abbrev list : Marks
  list = listed (each_label [] (part.numbers.first ∷ items part.numbers.more))

  abbrev numbers_words : List Word
  numbers_words = separated 0 k.Comma (λ numeral. number_at 0 numeral ∷ []) part.numbers

  part_fails : (why : Stop) → FailsBy numbers_words list why
      → FailsBy (words_if labels_words (Some part)) (label_marks (Some part)) why
  part_fails stop.OutOfMemory h = tt
  part_fails (stop.Fault fault) h =
      shows_behind (at 0 k.Label part.line ∷ []) (numbers_words ++ at 0 k.Semicolon part.end ∷ []) quiet
      (joined (list ∷ quiet ∷ [])) fault (quiet_word (at 0 k.Label part.line))
      (shows_front numbers_words (at 0 k.Semicolon part.end ∷ []) list (joined (quiet ∷ [])) fault
      (next_word (at 0 k.Semicolon part.end) [] (joined []) (record { same = refl })) h)
  part_fails stop.Missing h = absurd h

  part_quiet : IsQuiet numbers_words list false
      → IsQuiet (words_if labels_words (Some part)) (label_marks (Some part)) false
  part_quiet h =
      quiet_behind (at 0 k.Label part.line ∷ []) (numbers_words ++ at 0 k.Semicolon part.end ∷ []) quiet
      (joined (list ∷ quiet ∷ [])) false (quiet_word (at 0 k.Label part.line))
      (quiet_behind numbers_words (at 0 k.Semicolon part.end ∷ []) list (joined (quiet ∷ [])) false h
      (quiet_alone (at 0 k.Semicolon part.end ∷ []) quiet false (quiet_word (at 0 k.Semicolon part.end))))

  pub declares : (result : Result Known Stop) → Numbers part.numbers result → Declares (Some part) result
  declares (Ok found) h = (h.0, part_quiet h.1)
  declares (Err why) h = part_fails why h

-- the same over the code's list
abbrev pub seen_behind : CodeBehind CodeNumeral → Behind Numeral
seen_behind = behind_in numeral_in

split : {A : Type 0} (xs : List A) (i : ℕ) (d : A) → i < length xs
    → xs ≡ take i xs ++ get_or xs i d ∷ drop (suc i) xs
split [] i d h = absurd (omega (arith, h))
split (x ∷ xs) zero d h = refl
split (x ∷ xs) (suc i) d h = ap (λ rest. x ∷ rest) (split xs i d (omega (arith, h)))

module _ (first : Numeral) (more : List (CodeBehind CodeNumeral)) (i : ℕ) (d : CodeBehind CodeNumeral) where
  pub number_more : (labels next : Known) → i < length more
      → SoFar first (map seen_behind (take i more)) labels
      → new_label (numbers_of labels) (get_or more i d).item.value ≡ []
      → next ≡ labels ++ fresh_label (get_or more i d).item.value ∷ []
      → SoFar first (map seen_behind (take (i + 1) more)) next
  number_more labels next within h new is =
      subst (λ (before : List (Behind Numeral)). SoFar first before next)
      (sym (ap (map seen_behind) (take_more more i d within)
      ∙ map-append seen_behind (take i more) (get_or more i d ∷ [])))
      (one_more first (map seen_behind (take i more)) (seen_behind (get_or more i d)) labels next h new is)

  pub number_stopped : (labels : Known) (why : Stop) → i < length more
      → SoFar first (map seen_behind (take i more)) labels
      → IsNew labels (numeral_in (get_or more i d).item) (Err why)
      → Numbers (all_numbers first (map seen_behind more)) (Err why)
  number_stopped labels why within h k =
      subst (λ (all : List (Behind Numeral)). Numbers (all_numbers first all) (Err why))
      (sym (ap (map seen_behind) (split more i d within)
      ∙ map-append seen_behind (take i more) (get_or more i d ∷ drop (suc i) more)))
      (stopped first (map seen_behind (take i more)) (seen_behind (get_or more i d))
      (map seen_behind (drop (suc i) more)) labels why h k)

pub numbers_ended : (first : Numeral) (more : List (CodeBehind CodeNumeral)) (i : ℕ) (labels : Known)
    → length more ≤ i → SoFar first (map seen_behind (take i more)) labels
    → Numbers (all_numbers first (map seen_behind more)) (Ok labels)
numbers_ended first more i labels all h =
    ended first (map seen_behind more) labels
    (subst (λ (taken : List (CodeBehind CodeNumeral)). SoFar first (map seen_behind taken) labels)
    (take_all i more all) h)
