-- The parameters of a program, one behind another, and what they show as variables of its scope.
use Rattle.std.proofs.Common.{◌≡◌, refl, sym, ap, subst, ◌∙◌, ℕ, ◌+◌, ◌<◌, arith, false, List, [], ◌∷◌, ◌++◌, length}
use Rattle.std.proofs.Common.{zero, suc, ◌≤◌, map, take, drop, get_or, Bool, Some, None, Result, Ok, Err, cond}
use Rattle.std.specs.Prelude.{flat_map, ⊤, position, option_to_list, nat_lt, not}
use Rattle.std.specs.List.{position_or_len}
use Rattle.std.specs.Str.{bytes_eq}
use Rattle.std.proofs.lemmas.List.{append_assoc, append-nil, length-map, map-append, take_more, take_all}
use Rattle.pas_tokens.specs.declared.kinds.Kind.TheVariants as k
use Rattle.pas_syntax.specs.declared.tree.Ident.{Ident as CodeIdent}
use Rattle.pas_syntax.specs.declared.tree.Behind.{Behind as CodeBehind}
use Rattle.pas_syntax.specs.Views.{spelled_in, ident_in, behind_in}
use Rattle.pas_syntax.specs.Tree.{Ident, Behind, Idents, ProgramParameters}
use Rattle.pas_syntax.specs.Words.{Word, at, name_at, idents_words, words_if, program_parameters_words}
use Rattle.pas_scopes.specs.declared.stop.Stop.{Stop}
use Rattle.pas_scopes.specs.declared.stop.Stop.TheVariants as stop
use Rattle.pas_rules.specs.Marks.{Marks, quiet, shows, joined, listed}
use Rattle.pas_rules.specs.Scopes.{Outer, idents_of}
use Rattle.pas_typed.specs.declared.typed.Variable.{Variable as CodeVariable}
use Rattle.pas_typed.specs.Typed.{Variable}
use Rattle.pas_typed.specs.TypedViews.{variable_view}
use Rattle.pas_rules.specs.Check.{each_parameter, parameter_marks, file_numbers}
use Rattle.pas_scopes.specs.Answers.{FailsBy, IsQuiet}
use Rattle.pas_types.specs.inner.Checking.{parameter_wrongs, IsParameter, AreParameters, IsHeading}
use Rattle.pas_rules.proofs.AsMany.{AsMany, one, next_word, behind_word}
use Rattle.pas_scopes.proofs.SettleLemmas.{quiet_behind, quiet_word, quiet_alone, shows_front, shows_behind}
use Rattle.pas_scopes.proofs.SettleLemmas.{shows_alone}
use Rattle.pas_scopes.proofs.NewNameLemmas.{items, spelled, all_names, seen_behind}

abbrev rest_words : ℕ → List (Behind Ident) → List Word
rest_words n more = flat_map (λ behind. at n k.Comma behind.line ∷ (name_at n behind.item ∷ [])) more

module _ (outer : Outer) where
  -- parameters that show nothing, one behind another
  abbrev AreFine : List (List ℕ) → List (List ℕ) → Type 0
  AreFine taken [] = ⊤
  AreFine taken (name ∷ names) = (parameter_wrongs outer taken name ≡ []) × AreFine (taken ++ name ∷ []) names

  abbrev names_marks : List (List ℕ) → Ident → List (Behind Ident) → Marks
  names_marks taken ident more = listed (each_parameter outer taken (ident ∷ items more))

  new_push : (taken names : List (List ℕ)) (name : List ℕ) → AreFine taken names
      → parameter_wrongs outer (taken ++ names) name ≡ []
      → AreFine taken (names ++ name ∷ [])
  new_push taken [] name h is =
      (ap (λ (before : List (List ℕ)). parameter_wrongs outer before name) (sym (append-nil taken)) ∙ is, tt)
  new_push taken (first ∷ names) name h is = (
    h.0,
    new_push (taken ++ first ∷ []) names name h.1
        (ap (λ (before : List (List ℕ)). parameter_wrongs outer before name) (append_assoc taken (first ∷ []) names)
        ∙ is),
  )

  -- words and marks
  module _ (n : ℕ) where
    rest_many : (taken : List (List ℕ)) (ident : Ident) (more : List (Behind Ident))
        → AsMany (name_at n ident ∷ rest_words n more) (names_marks taken ident more)
    rest_many taken ident [] = one (name_at n ident) (parameter_wrongs outer taken ident.name)
    rest_many taken ident (behind ∷ more) =
        let list : Marks = names_marks (taken ++ ident.name ∷ []) behind.item more in
        next_word (name_at n ident) (parameter_wrongs outer taken ident.name) (joined (quiet ∷ list ∷ []))
        (behind_word (at n k.Comma behind.line) list (rest_many (taken ++ ident.name ∷ []) behind.item more))

    quiet_one : (taken : List (List ℕ)) (ident : Ident) → parameter_wrongs outer taken ident.name ≡ []
        → IsQuiet (name_at n ident ∷ []) (shows (parameter_wrongs outer taken ident.name)) false
    quiet_one taken ident h = record { still = (h, tt); behind = refl }

    quiet_rest : (taken : List (List ℕ)) (ident : Ident) (more : List (Behind Ident))
        → AreFine taken (ident.name ∷ spelled (items more))
        → IsQuiet (name_at n ident ∷ rest_words n more) (names_marks taken ident more) false
    quiet_rest taken ident [] h = quiet_one taken ident h.0
    quiet_rest taken ident (behind ∷ more) h =
        let list : Marks = names_marks (taken ++ ident.name ∷ []) behind.item more in
        let rest : List Word = name_at n behind.item ∷ rest_words n more in
        let comma : Word = at n k.Comma behind.line in
        quiet_behind (name_at n ident ∷ []) (comma ∷ rest) (shows (parameter_wrongs outer taken ident.name))
        (joined (quiet ∷ list ∷ [])) false (quiet_one taken ident h.0)
        (quiet_behind (comma ∷ []) rest quiet (joined (list ∷ [])) false (quiet_word comma)
        (quiet_alone rest list false (quiet_rest (taken ++ ident.name ∷ []) behind.item more h.1)))

    fails_first : (taken : List (List ℕ)) (ident : Ident) (more : List (Behind Ident)) (why : Stop)
        → FailsBy (name_at n ident ∷ []) (shows (parameter_wrongs outer taken ident.name)) why
        → FailsBy (name_at n ident ∷ rest_words n more) (names_marks taken ident more) why
    fails_first taken ident [] why h = h
    fails_first taken ident (behind ∷ more) stop.OutOfMemory h = tt
    fails_first taken ident (behind ∷ more) (stop.Fault fault) h =
        let list : Marks = names_marks (taken ++ ident.name ∷ []) behind.item more in
        let rest : List Word = name_at n behind.item ∷ rest_words n more in
        let comma : Word = at n k.Comma behind.line in
        shows_front (name_at n ident ∷ []) (comma ∷ rest) (shows (parameter_wrongs outer taken ident.name))
        (joined (quiet ∷ list ∷ [])) fault
        (behind_word comma list (rest_many (taken ++ ident.name ∷ []) behind.item more)) h
    fails_first taken ident (behind ∷ more) stop.Missing h = absurd h

    fails_behind : (taken : List (List ℕ)) (ident : Ident) (behind : Behind Ident) (more : List (Behind Ident))
        (why : Stop) → parameter_wrongs outer taken ident.name ≡ []
        → FailsBy (name_at n behind.item ∷ rest_words n more)
        (names_marks (taken ++ ident.name ∷ []) behind.item more) why
        → FailsBy (name_at n ident ∷ rest_words n (behind ∷ more)) (names_marks taken ident (behind ∷ more)) why
    fails_behind taken ident behind more stop.OutOfMemory new h = tt
    fails_behind taken ident behind more (stop.Fault fault) new h =
        let list : Marks = names_marks (taken ++ ident.name ∷ []) behind.item more in
        let rest : List Word = name_at n behind.item ∷ rest_words n more in
        let comma : Word = at n k.Comma behind.line in
        shows_behind (name_at n ident ∷ []) (comma ∷ rest) (shows (parameter_wrongs outer taken ident.name))
        (joined (quiet ∷ list ∷ [])) fault (quiet_one taken ident new)
        (shows_behind (comma ∷ []) rest quiet (joined (list ∷ [])) fault (quiet_word comma)
        (shows_alone rest list (stop.Fault fault) h))
    fails_behind taken ident behind more stop.Missing new h = absurd h

    fails_later : (taken : List (List ℕ)) (ident : Ident) (before : List (Behind Ident)) (behind : Behind Ident)
        (more : List (Behind Ident)) (why : Stop) → AreFine taken (ident.name ∷ spelled (items before))
        → FailsBy (name_at n behind.item ∷ [])
        (shows (parameter_wrongs outer (taken ++ ident.name ∷ spelled (items before)) behind.item.name)) why
        → FailsBy (name_at n ident ∷ rest_words n (before ++ behind ∷ more))
        (names_marks taken ident (before ++ behind ∷ more)) why
    fails_later taken ident [] behind more why new h =
        fails_behind taken ident behind more why new.0 (fails_first (taken ++ ident.name ∷ []) behind.item more why h)
    fails_later taken ident (next ∷ before) behind more why new h =
        fails_behind taken ident next (before ++ behind ∷ more) why new.0
        (fails_later (taken ++ ident.name ∷ []) next.item before behind more why new.1
        (subst (λ (others : List (List ℕ)). FailsBy (name_at n behind.item ∷ [])
        (shows (parameter_wrongs outer others behind.item.name)) why)
        (sym (append_assoc taken (ident.name ∷ []) (next.item.name ∷ spelled (items before)))) h))

  -- how far this has come
  pub record SoFar (first : Ident) (before : List (Behind Ident)) (names : List (List ℕ)) : Type 0 where
    pub known : names ≡ first.name ∷ spelled (items before)
    pub new : AreFine [] (first.name ∷ spelled (items before))

  module _ (first : Ident) where
    pub begun : (names : List (List ℕ)) → parameter_wrongs outer [] first.name ≡ []
        → names ≡ first.name ∷ [] → SoFar first [] names
    begun names new is = record { known = is; new = (new, tt) }

    spelled_push : (before : List (Behind Ident)) (behind : Behind Ident)
        → spelled (items (before ++ behind ∷ [])) ≡ spelled (items before) ++ behind.item.name ∷ []
    spelled_push [] behind = refl
    spelled_push (next ∷ before) behind = ap (λ rest. next.item.name ∷ rest) (spelled_push before behind)

    one_more : (before : List (Behind Ident)) (behind : Behind Ident) (names next : List (List ℕ))
        → SoFar first before names → parameter_wrongs outer names behind.item.name ≡ []
        → next ≡ names ++ behind.item.name ∷ [] → SoFar first (before ++ behind ∷ []) next
    one_more before behind names next h new is =
        let all : first.name ∷ spelled (items (before ++ behind ∷ []))
        ≡ (first.name ∷ spelled (items before)) ++ behind.item.name ∷ [] =
        ap (λ rest. first.name ∷ rest) (spelled_push before behind) in
        record {
          known = is ∙ (ap (λ (known : List (List ℕ)). known ++ behind.item.name ∷ []) h.known ∙ sym all);
          new = subst (AreFine []) (sym all)
              (new_push [] (first.name ∷ spelled (items before)) behind.item.name h.new
              (ap (λ (seen : List (List ℕ)). parameter_wrongs outer seen behind.item.name) (sym h.known) ∙ new));
        }

    stopped : (before : List (Behind Ident)) (behind : Behind Ident) (more : List (Behind Ident))
        (names : List (List ℕ)) (why : Stop) → SoFar first before names
        → IsParameter outer names behind.item (Err why)
        → AreParameters outer [] (all_names first (before ++ behind ∷ more)) (Err why)
    stopped before behind more names why h failed n =
        fails_later n [] first before behind more why h.new
        (subst (λ (seen : List (List ℕ)). FailsBy (name_at n behind.item ∷ [])
        (shows (parameter_wrongs outer seen behind.item.name)) why)
        h.known (failed n))

    pub unbegun : (more : List (Behind Ident)) (why : Stop) → IsParameter outer [] first (Err why)
        → AreParameters outer [] (all_names first more) (Err why)
    unbegun more why failed n = fails_first n [] first more why (failed n)

    ended : (more : List (Behind Ident)) (names : List (List ℕ)) → SoFar first more names
        → AreParameters outer [] (all_names first more) (Ok tt)
    ended more names h n = quiet_rest n [] first more h.new

    -- the same over the code's list
    module _ (spellings : List ℕ) (more : List (CodeBehind CodeIdent)) (i : ℕ) where
      pub name_more : (d : CodeBehind CodeIdent) (names next : List (List ℕ)) → i < length more
          → SoFar first (seen_behind spellings (take i more)) names
          → parameter_wrongs outer names (ident_in spellings (get_or more i d).item).name ≡ []
          → next ≡ names ++ (ident_in spellings (get_or more i d).item).name ∷ []
          → SoFar first (seen_behind spellings (take (i + 1) more)) next
      name_more d names next within h new is =
          subst (λ (before : List (Behind Ident)). SoFar first before next)
          (sym (ap (seen_behind spellings) (take_more more i d within)
          ∙ map-append (behind_in (ident_in spellings)) (take i more) (get_or more i d ∷ [])))
          (one_more (seen_behind spellings (take i more)) (behind_in (ident_in spellings) (get_or more i d)) names
          next h new is)

      pub name_stopped : (d : CodeBehind CodeIdent) (names : List (List ℕ)) (why : Stop) → i < length more
          → SoFar first (seen_behind spellings (take i more)) names
          → IsParameter outer names (ident_in spellings (get_or more i d).item) (Err why)
          → AreParameters outer [] (all_names first (seen_behind spellings more)) (Err why)
      name_stopped d names why within h failed =
          subst (λ (all : List (Behind Ident)). AreParameters outer [] (all_names first all) (Err why))
          (sym (ap (seen_behind spellings) (split more i within)
          ∙ map-append (behind_in (ident_in spellings)) (take i more) (get_or more i d ∷ drop (suc i) more)))
          (stopped (seen_behind spellings (take i more)) (behind_in (ident_in spellings) (get_or more i d))
          (seen_behind spellings (drop (suc i) more)) names why h failed)
        where
          split : (xs : List (CodeBehind CodeIdent)) (i : ℕ) → i < length xs
              → xs ≡ take i xs ++ get_or xs i d ∷ drop (suc i) xs
          split [] i h = absurd (omega (arith, h))
          split (x ∷ xs) zero h = refl
          split (x ∷ xs) (suc i) h = ap (λ rest. x ∷ rest) (split xs i (omega (arith, h)))

      all_so_far : (names : List (List ℕ)) → length more ≤ i
          → SoFar first (seen_behind spellings (take i more)) names
          → SoFar first (seen_behind spellings more) names
      all_so_far names all h =
          subst (λ (taken : List (CodeBehind CodeIdent)). SoFar first (seen_behind spellings taken) names)
          (take_all i more all) h

      pub names_ended : (names : List (List ℕ)) → length more ≤ i
          → SoFar first (seen_behind spellings (take i more)) names
          → AreParameters outer [] (all_names first (seen_behind spellings more)) (Ok tt)
      names_ended names all h = ended (seen_behind spellings more) names (all_so_far names all h)

  -- where a `?` returns early
  pub parameters_stop : (taken : List (List ℕ)) (idents : Idents) (why : Stop) (result : Result (Unit {0}) Stop)
      → ((found : Stop) × (result ≡ Err found) × (found ≡ why)) → AreParameters outer taken idents (Err why)
      → AreParameters outer taken idents result
  parameters_stop taken idents why result is h = subst (AreParameters outer taken idents) (sym (is.1 ∙ ap Err is.2)) h

-- the numbers of variables by their names
place_mapped : {A B : Type 0} (f : A → B) (test : B → Bool) (xs : List A)
    → position_or_len (λ x. test (f x)) xs ≡ position_or_len test (map f xs)
place_mapped f test [] = refl
place_mapped f test (x ∷ xs) = λ i. cond (not (test (f x))) (1 + place_mapped f test xs i) 0

position_mapped : {A B : Type 0} (f : A → B) (test : B → Bool) (xs : List A)
    → position (λ x. test (f x)) xs ≡ position test (map f xs)
position_mapped f test xs =
    let same : length xs ≡ length (map f xs) = sym (length-map xs f) in
    λ i. cond (nat_lt (place_mapped f test xs i) (same i)) (Some (place_mapped f test xs i)) None

pub number_seen : (spellings name : List ℕ) (globals : List CodeVariable)
    → position (λ found. bytes_eq (spelled_in spellings found.name) name) globals
    ≡ position (λ found. bytes_eq found.name name) (map (variable_view spellings) globals)
number_seen spellings name globals =
    position_mapped (variable_view spellings) (λ found. bytes_eq found.name name) globals

pub files_push : (globals : List Variable) (names : List (List ℕ)) (name : List ℕ)
    → file_numbers globals (names ++ name ∷ [])
    ≡ file_numbers globals names ++ option_to_list (position (λ found. bytes_eq found.name name) globals)
files_push globals [] name = append-nil (option_to_list (position (λ found. bytes_eq found.name name) globals))
files_push globals (first ∷ names) name =
    let one : List ℕ = option_to_list (position (λ found. bytes_eq found.name first) globals) in
    ap (λ (rest : List ℕ). one ++ rest) (files_push globals names name)
    ∙ sym (append_assoc one (file_numbers globals names)
    (option_to_list (position (λ found. bytes_eq found.name name) globals)))

pub files_more : (globals : List Variable) (spellings : List ℕ) (idents : List CodeIdent) (i : ℕ) (d : CodeIdent)
    → i < length idents
    → file_numbers globals (map (λ ident. spelled_in spellings ident.span) (take (i + 1) idents))
    ≡ file_numbers globals (map (λ ident. spelled_in spellings ident.span) (take i idents))
    ++ option_to_list (position (λ found. bytes_eq found.name
    (spelled_in spellings (get_or idents i d).span)) globals)
files_more globals spellings idents i d within =
    let spell = λ (ident : CodeIdent). spelled_in spellings ident.span in
    ap (λ (found : List CodeIdent). file_numbers globals (map spell found)) (take_more idents i d within)
    ∙ ap (file_numbers globals) (map-append spell (take i idents) (get_or idents i d ∷ []))
    ∙ files_push globals (map spell (take i idents)) (spell (get_or idents i d))

-- the parameters between their parentheses
module _ (outer : Outer) (parameters : ProgramParameters) where
  abbrev opened : Word
  opened = at 1 k.LeftParenthesis parameters.opened

  abbrev closed : Word
  closed = at 1 k.RightParenthesis parameters.closed

  abbrev list : Marks
  list = listed (each_parameter outer [] (idents_of parameters.names))

  fails : (why : Stop) → FailsBy (idents_words 1 parameters.names) list why
      → FailsBy (words_if program_parameters_words (Some parameters)) (parameter_marks outer (Some parameters)) why
  fails stop.OutOfMemory h = tt
  fails (stop.Fault fault) h =
      shows_behind (opened ∷ []) (idents_words 1 parameters.names ++ closed ∷ []) quiet (joined (list ∷ quiet ∷ []))
      fault (quiet_word opened)
      (shows_front (idents_words 1 parameters.names) (closed ∷ []) list (joined (quiet ∷ [])) fault
      (next_word closed [] (joined []) (record { same = refl })) h)
  fails stop.Missing h = absurd h

  pub heading_stands : (result : Result (Unit {0}) Stop) → AreParameters outer [] parameters.names result
      → IsHeading outer (Some parameters) result
  heading_stands (Ok done) h =
      quiet_behind (opened ∷ []) (idents_words 1 parameters.names ++ closed ∷ []) quiet (joined (list ∷ quiet ∷ []))
      false (quiet_word opened)
      (quiet_behind (idents_words 1 parameters.names) (closed ∷ []) list (joined (quiet ∷ [])) false (h 1)
      (quiet_alone (closed ∷ []) quiet false (quiet_word closed)))
  heading_stands (Err why) h = fails why (h 1)
