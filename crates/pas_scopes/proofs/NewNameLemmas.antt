-- Names that are declared one behind another.
use Rattle.std.proofs.Common.{◌≡◌, refl, sym, ap, subst, ◌∙◌, ℕ, ◌+◌, ◌<◌, arith, false, List, [], ◌∷◌, ◌++◌, length}
use Rattle.std.proofs.Common.{zero, suc, ◌≤◌, map, take, drop, get_or, Result, Ok, Err}
use Rattle.std.specs.Prelude.{flat_map}
use Rattle.std.proofs.lemmas.List.{append_assoc, append-nil, map-append, take_more, take_all}
use Rattle.pas_tokens.specs.declared.kinds.Kind.TheVariants as k
use Rattle.pas_syntax.specs.declared.tree.Ident.{Ident as CodeIdent}
use Rattle.pas_syntax.specs.declared.tree.Behind.{Behind as CodeBehind}
use Rattle.pas_syntax.specs.Views.{ident_in, behind_in}
use Rattle.pas_syntax.specs.Tree.{Ident, Behind, Idents}
use Rattle.pas_syntax.specs.Words.{Word, at, name_at}
use Rattle.pas_scopes.specs.declared.stop.Stop.{Stop}
use Rattle.pas_scopes.specs.declared.stop.Stop.TheVariants as stop
use Rattle.pas_rules.specs.Marks.{Marks, quiet, shows, joined, listed}
use Rattle.pas_rules.specs.Scopes.{each_new}
use Rattle.pas_scopes.specs.Answers.{FailsBy, IsQuiet}
use Rattle.pas_scopes.specs.NameAnswers.{new_faults, IsNewName, AreNewNames, AreNew}
use Rattle.pas_rules.proofs.AsMany.{AsMany, one, next_word, behind_word}
use Rattle.pas_scopes.proofs.SettleLemmas.{quiet_behind, quiet_word, quiet_alone, shows_front, shows_behind}
use Rattle.pas_scopes.proofs.SettleLemmas.{shows_alone}

abbrev pub items : List (Behind Ident) → List Ident
items more = map (λ behind. behind.item) more

abbrev pub spelled : List Ident → List (List ℕ)
spelled idents = map (λ ident. ident.name) idents

abbrev rest_words : ℕ → List (Behind Ident) → List Word
rest_words n more = flat_map (λ behind. at n k.Comma behind.line ∷ (name_at n behind.item ∷ [])) more

abbrev names_marks : List (List ℕ) → Ident → List (Behind Ident) → Marks
names_marks taken ident more = listed (each_new taken (ident ∷ items more))

new_push : (taken names : List (List ℕ)) (name : List ℕ) → AreNew taken names → new_faults (taken ++ names) name ≡ []
    → AreNew taken (names ++ name ∷ [])
new_push taken [] name h is =
    (ap (λ (before : List (List ℕ)). new_faults before name) (sym (append-nil taken)) ∙ is, tt)
new_push taken (first ∷ names) name h is = (
  h.0,
  new_push (taken ++ first ∷ []) names name h.1
      (ap (λ (before : List (List ℕ)). new_faults before name) (append_assoc taken (first ∷ []) names) ∙ is),
)

-- words and marks
module _ (n : ℕ) where
  rest_many : (taken : List (List ℕ)) (ident : Ident) (more : List (Behind Ident))
      → AsMany (name_at n ident ∷ rest_words n more) (names_marks taken ident more)
  rest_many taken ident [] = one (name_at n ident) (new_faults taken ident.name)
  rest_many taken ident (behind ∷ more) =
      let list : Marks = names_marks (taken ++ ident.name ∷ []) behind.item more in
      next_word (name_at n ident) (new_faults taken ident.name) (joined (quiet ∷ list ∷ []))
      (behind_word (at n k.Comma behind.line) list (rest_many (taken ++ ident.name ∷ []) behind.item more))

  quiet_one : (taken : List (List ℕ)) (ident : Ident) → new_faults taken ident.name ≡ []
      → IsQuiet (name_at n ident ∷ []) (shows (new_faults taken ident.name)) false
  quiet_one taken ident h = record { still = (h, tt); behind = refl }

  quiet_rest : (taken : List (List ℕ)) (ident : Ident) (more : List (Behind Ident))
      → AreNew taken (ident.name ∷ spelled (items more))
      → IsQuiet (name_at n ident ∷ rest_words n more) (names_marks taken ident more) false
  quiet_rest taken ident [] h = quiet_one taken ident h.0
  quiet_rest taken ident (behind ∷ more) h =
      let list : Marks = names_marks (taken ++ ident.name ∷ []) behind.item more in
      let rest : List Word = name_at n behind.item ∷ rest_words n more in
      let comma : Word = at n k.Comma behind.line in
      quiet_behind (name_at n ident ∷ []) (comma ∷ rest) (shows (new_faults taken ident.name))
      (joined (quiet ∷ list ∷ [])) false (quiet_one taken ident h.0)
      (quiet_behind (comma ∷ []) rest quiet (joined (list ∷ [])) false (quiet_word comma)
      (quiet_alone rest list false (quiet_rest (taken ++ ident.name ∷ []) behind.item more h.1)))

  fails_first : (taken : List (List ℕ)) (ident : Ident) (more : List (Behind Ident)) (why : Stop)
      → FailsBy (name_at n ident ∷ []) (shows (new_faults taken ident.name)) why
      → FailsBy (name_at n ident ∷ rest_words n more) (names_marks taken ident more) why
  fails_first taken ident [] why h = h
  fails_first taken ident (behind ∷ more) stop.OutOfMemory h = tt
  fails_first taken ident (behind ∷ more) (stop.Fault fault) h =
      let list : Marks = names_marks (taken ++ ident.name ∷ []) behind.item more in
      let rest : List Word = name_at n behind.item ∷ rest_words n more in
      let comma : Word = at n k.Comma behind.line in
      shows_front (name_at n ident ∷ []) (comma ∷ rest) (shows (new_faults taken ident.name))
      (joined (quiet ∷ list ∷ [])) fault
      (behind_word comma list (rest_many (taken ++ ident.name ∷ []) behind.item more)) h
  fails_first taken ident (behind ∷ more) stop.Missing h = absurd h

  fails_behind : (taken : List (List ℕ)) (ident : Ident) (behind : Behind Ident) (more : List (Behind Ident))
      (why : Stop) → new_faults taken ident.name ≡ []
      → FailsBy (name_at n behind.item ∷ rest_words n more)
      (names_marks (taken ++ ident.name ∷ []) behind.item more) why
      → FailsBy (name_at n ident ∷ rest_words n (behind ∷ more)) (names_marks taken ident (behind ∷ more)) why
  fails_behind taken ident behind more stop.OutOfMemory new h = tt
  fails_behind taken ident behind more (stop.Fault fault) new h =
      let list : Marks = names_marks (taken ++ ident.name ∷ []) behind.item more in
      let rest : List Word = name_at n behind.item ∷ rest_words n more in
      let comma : Word = at n k.Comma behind.line in
      shows_behind (name_at n ident ∷ []) (comma ∷ rest) (shows (new_faults taken ident.name))
      (joined (quiet ∷ list ∷ [])) fault (quiet_one taken ident new)
      (shows_behind (comma ∷ []) rest quiet (joined (list ∷ [])) fault (quiet_word comma)
      (shows_alone rest list (stop.Fault fault) h))
  fails_behind taken ident behind more stop.Missing new h = absurd h

  fails_later : (taken : List (List ℕ)) (ident : Ident) (before : List (Behind Ident)) (behind : Behind Ident)
      (more : List (Behind Ident)) (why : Stop) → AreNew taken (ident.name ∷ spelled (items before))
      → FailsBy (name_at n behind.item ∷ [])
      (shows (new_faults (taken ++ ident.name ∷ spelled (items before)) behind.item.name)) why
      → FailsBy (name_at n ident ∷ rest_words n (before ++ behind ∷ more))
      (names_marks taken ident (before ++ behind ∷ more)) why
  fails_later taken ident [] behind more why new h =
      fails_behind taken ident behind more why new.0 (fails_first (taken ++ ident.name ∷ []) behind.item more why h)
  fails_later taken ident (next ∷ before) behind more why new h =
      fails_behind taken ident next (before ++ behind ∷ more) why new.0
      (fails_later (taken ++ ident.name ∷ []) next.item before behind more why new.1
      (subst (λ (others : List (List ℕ)). FailsBy (name_at n behind.item ∷ [])
      (shows (new_faults others behind.item.name)) why)
      (sym (append_assoc taken (ident.name ∷ []) (next.item.name ∷ spelled (items before)))) h))

-- how far declaring has come, behind names that are taken around, and before
pub record SoFar (around start : List (List ℕ)) (first : Ident) (before : List (Behind Ident))
    (names : List (List ℕ)) : Type 0 where
  pub known : names ≡ start ++ first.name ∷ spelled (items before)
  pub new : AreNew (around ++ start) (first.name ∷ spelled (items before))

abbrev pub all_names : Ident → List (Behind Ident) → Idents
all_names first more = record { first = first; more = more }

abbrev pub seen_behind : List ℕ → List (CodeBehind CodeIdent) → List (Behind Ident)
seen_behind spellings list = map (behind_in (ident_in spellings)) list

module _ (around start : List (List ℕ)) (first : Ident) where
  pub begun : (names : List (List ℕ)) → new_faults (around ++ start) first.name ≡ []
      → names ≡ start ++ first.name ∷ [] → SoFar around start first [] names
  begun names new is = record { known = is; new = (new, tt) }

  spelled_push : (before : List (Behind Ident)) (behind : Behind Ident)
      → spelled (items (before ++ behind ∷ [])) ≡ spelled (items before) ++ behind.item.name ∷ []
  spelled_push [] behind = refl
  spelled_push (next ∷ before) behind = ap (λ rest. next.item.name ∷ rest) (spelled_push before behind)

  around_is : (before : List (Behind Ident)) (names : List (List ℕ)) → SoFar around start first before names
      → around ++ names ≡ (around ++ start) ++ first.name ∷ spelled (items before)
  around_is before names h =
      ap (λ (known : List (List ℕ)). around ++ known) h.known
      ∙ sym (append_assoc around start (first.name ∷ spelled (items before)))

  one_more : (before : List (Behind Ident)) (behind : Behind Ident) (names next : List (List ℕ))
      → SoFar around start first before names → new_faults (around ++ names) behind.item.name ≡ []
      → next ≡ names ++ behind.item.name ∷ [] → SoFar around start first (before ++ behind ∷ []) next
  one_more before behind names next h new is =
      let all : first.name ∷ spelled (items (before ++ behind ∷ []))
      ≡ (first.name ∷ spelled (items before)) ++ behind.item.name ∷ [] =
      ap (λ rest. first.name ∷ rest) (spelled_push before behind) in
      record {
        known = is ∙ (ap (λ (known : List (List ℕ)). known ++ behind.item.name ∷ []) h.known
            ∙ (append_assoc start (first.name ∷ spelled (items before)) (behind.item.name ∷ [])
            ∙ ap (λ (names : List (List ℕ)). start ++ names) (sym all)));
        new = subst (AreNew (around ++ start)) (sym all)
            (new_push (around ++ start) (first.name ∷ spelled (items before)) behind.item.name h.new
            (ap (λ (seen : List (List ℕ)). new_faults seen behind.item.name) (sym (around_is before names h)) ∙ new));
      }

  stopped : (before : List (Behind Ident)) (behind : Behind Ident) (more : List (Behind Ident))
      (names : List (List ℕ)) (why : Stop) → SoFar around start first before names
      → IsNewName (around ++ names) behind.item (Err why)
      → AreNewNames (around ++ start) (all_names first (before ++ behind ∷ more)) (Err why)
  stopped before behind more names why h failed n =
      fails_later n (around ++ start) first before behind more why h.new
      (subst (λ (seen : List (List ℕ)). FailsBy (name_at n behind.item ∷ [])
      (shows (new_faults seen behind.item.name)) why)
      (around_is before names h) (failed n))

  pub unbegun : (more : List (Behind Ident)) (why : Stop) → IsNewName (around ++ start) first (Err why)
      → AreNewNames (around ++ start) (all_names first more) (Err why)
  unbegun more why failed n = fails_first n (around ++ start) first more why (failed n)

  ended : (more : List (Behind Ident)) (names : List (List ℕ)) → SoFar around start first more names
      → AreNewNames (around ++ start) (all_names first more) (Ok tt)
  ended more names h n = quiet_rest n (around ++ start) first more h.new

  -- the same over the code's list
  module _ (spellings : List ℕ) (more : List (CodeBehind CodeIdent)) (i : ℕ) where
    pub name_more : (d : CodeBehind CodeIdent) (names next : List (List ℕ)) → i < length more
        → SoFar around start first (seen_behind spellings (take i more)) names
        → new_faults (around ++ names) (ident_in spellings (get_or more i d).item).name ≡ []
        → next ≡ names ++ (ident_in spellings (get_or more i d).item).name ∷ []
        → SoFar around start first (seen_behind spellings (take (i + 1) more)) next
    name_more d names next within h new is =
        subst (λ (before : List (Behind Ident)). SoFar around start first before next)
        (sym (ap (seen_behind spellings) (take_more more i d within)
        ∙ map-append (behind_in (ident_in spellings)) (take i more) (get_or more i d ∷ [])))
        (one_more (seen_behind spellings (take i more)) (behind_in (ident_in spellings) (get_or more i d)) names
        next h new is)

    pub name_stopped : (d : CodeBehind CodeIdent) (names : List (List ℕ)) (why : Stop) → i < length more
        → SoFar around start first (seen_behind spellings (take i more)) names
        → IsNewName (around ++ names) (ident_in spellings (get_or more i d).item) (Err why)
        → AreNewNames (around ++ start) (all_names first (seen_behind spellings more)) (Err why)
    name_stopped d names why within h failed =
        subst (λ (all : List (Behind Ident)). AreNewNames (around ++ start) (all_names first all) (Err why))
        (sym (ap (seen_behind spellings) (split more i within)
        ∙ map-append (behind_in (ident_in spellings)) (take i more) (get_or more i d ∷ drop (suc i) more)))
        (stopped (seen_behind spellings (take i more)) (behind_in (ident_in spellings) (get_or more i d))
        (seen_behind spellings (drop (suc i) more)) names why h failed)
      where
        split : (xs : List (CodeBehind CodeIdent)) (i : ℕ) → i < length xs
            → xs ≡ take i xs ++ get_or xs i d ∷ drop (suc i) xs
        split [] i h = absurd (omega (arith, h))
        split (x ∷ xs) zero h = refl
        split (x ∷ xs) (suc i) h = ap (λ rest. x ∷ rest) (split xs i (omega (arith, h)))

    pub all_so_far : (names : List (List ℕ)) → length more ≤ i
        → SoFar around start first (seen_behind spellings (take i more)) names
        → SoFar around start first (seen_behind spellings more) names
    all_so_far names all h =
        subst (λ (taken : List (CodeBehind CodeIdent)). SoFar around start first (seen_behind spellings taken) names)
        (take_all i more all) h

    pub names_ended : (names : List (List ℕ)) → length more ≤ i
        → SoFar around start first (seen_behind spellings (take i more)) names
        → AreNewNames (around ++ start) (all_names first (seen_behind spellings more)) (Ok tt)
    names_ended names all h = ended (seen_behind spellings more) names (all_so_far names all h)

    -- they are new one after another
    pub names_new : (names : List (List ℕ)) → length more ≤ i
        → SoFar around start first (seen_behind spellings (take i more)) names
        → AreNew (around ++ start) (first.name ∷ spelled (items (seen_behind spellings more)))
    names_new names all h = (all_so_far names all h).new

-- where a `?` returns early
pub new_names_stop : (taken : List (List ℕ)) (idents : Idents) (why : Stop) (result : Result (Unit {0}) Stop)
    → ((found : Stop) × (result ≡ Err found) × (found ≡ why)) → AreNewNames taken idents (Err why)
    → AreNewNames taken idents result
new_names_stop taken idents why result is h = subst (AreNewNames taken idents) (sym (is.1 ∙ ap Err is.2)) h
