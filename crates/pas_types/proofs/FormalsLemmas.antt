-- Parameters of a routine, one behind another.
use Rattle.std.proofs.Common.{◌≡◌, refl, sym, ap, subst, ◌∙◌, ℕ, ◌+◌, ◌<◌, ◌≤◌, Bool, true, false, List, [], ◌∷◌, ◌++◌}
use Rattle.std.proofs.Common.{map, take, drop, length, get_or, Some, Result, Ok, Err}
use Rattle.std.proofs.lemmas.List.{append_assoc, append-nil, map-append, take_more, take_all, take-append-drop}
use Rattle.std.specs.Prelude.{flat_map, ◌&&◌}
use Rattle.pas_tokens.specs.declared.kinds.Kind.TheVariants as k
use Rattle.pas_syntax.specs.Tree.{Behind, Parameter, Parameters}
use Rattle.pas_syntax.specs.Words.{Word, at, parameter_words, parameters_words}
use Rattle.pas_scopes.specs.declared.scopes.Inner.{Inner as CodeInner}
use Rattle.pas_scopes.specs.declared.scopes.Scopes.{Scopes as CodeScopes}
use Rattle.pas_scopes.specs.declared.stop.Stop.{Stop}
use Rattle.pas_rules.specs.Marks.{Marks, no_token, quiet, joined}
use Rattle.pas_rules.specs.Scopes.{Outer, Inner}
use Rattle.pas_rules.specs.Routines.{Formal, parameter_of, formal_behind, more_formals, no_formals, formals_of}
use Rattle.pas_scopes.specs.ScopeViews.{outer_view, inner_view}
use Rattle.pas_scopes.specs.Answers.{FailsBy, IsQuiet}
use Rattle.pas_scopes.specs.Locals.{IsWithin}
use Rattle.pas_types.specs.inner.RoutineAnswers.{PassesFormals}
use Rattle.pas_rules.proofs.AsMany.{next_word, all}
use Rattle.pas_rules.proofs.RoutinesAsMany.{parameter_many}
use Rattle.pas_scopes.proofs.SettleLemmas.{quiet_word, quiet_alone, quiet_behind, nothing_shown}
use Rattle.pas_scopes.proofs.LocalRowLemmas.{fails_front, fails_behind}
use Rattle.pas_scopes.proofs.LocalRowsLemmas.{fails_alone}

-- the words of parameters behind others
abbrev pub one_words : Behind Parameter → List Word
one_words behind = at 1 k.Semicolon behind.line ∷ parameter_words 1 behind.item

abbrev pub more_words : List (Behind Parameter) → List Word
more_words more = flat_map one_words more

both_true : (a b : Bool) → a ≡ true → b ≡ true → (a && b) ≡ true
both_true true b is also = also
both_true false b is also = is

-- what a heading has as its first parameters
abbrev pub first_formal : Outer → Inner → Parameter → Formal
first_formal outer inner first = formal_behind outer no_token (no_formals inner) first

module _ (outer : Outer) (inner : Inner) (first : Parameter) where
  abbrev found : Formal
  found = parameter_of outer inner first

  first_fails : (why : Stop) → FailsBy (parameter_words 1 first) found.marks why
      → FailsBy (parameter_words 1 first) (first_formal outer inner first).marks why
  first_fails why h =
      fails_behind [] (parameter_words 1 first) no_token (joined (no_token ∷ found.marks ∷ [])) nothing_shown why
      (fails_behind [] (parameter_words 1 first) no_token (joined (found.marks ∷ [])) nothing_shown why
      (fails_alone (parameter_words 1 first) found.marks why h))

  first_quiet : IsQuiet (parameter_words 1 first) found.marks false
      → IsQuiet (parameter_words 1 first) (first_formal outer inner first).marks false
  first_quiet h =
      quiet_behind [] (parameter_words 1 first) no_token (joined (no_token ∷ found.marks ∷ [])) false nothing_shown
      (quiet_behind [] (parameter_words 1 first) no_token (joined (found.marks ∷ [])) false nothing_shown
      (quiet_alone (parameter_words 1 first) found.marks false h))

  pub first_passes : (new : CodeScopes) → PassesFormals (parameter_words 1 first) found new (Ok tt)
      → PassesFormals (parameter_words 1 first) (first_formal outer inner first) new (Ok tt)
  first_passes new h = (
    first_quiet h.0,
    h.1,
    record { inner = h.2.inner; within = h.2.within; inner_is = h.2.inner_is; table_is = h.2.table_is },
  )

-- one more, behind those before it
module _ (outer : Outer) (words : List Word) (before : Formal) (next : Behind Parameter) where
  abbrev one_more : Formal
  one_more = parameter_of outer before.inner next.item

  abbrev separator : Word
  separator = at 1 k.Semicolon next.line

  next_fails : IsQuiet words before.marks false → (why : Stop)
      → FailsBy (parameter_words 1 next.item) one_more.marks why
      → FailsBy (words ++ one_words next) (formal_behind outer quiet before next.item).marks why
  next_fails still why h =
      fails_behind words (one_words next) before.marks (joined (quiet ∷ one_more.marks ∷ [])) still why
      (fails_behind (separator ∷ []) (parameter_words 1 next.item) quiet (joined (one_more.marks ∷ []))
      (quiet_word separator) why (fails_alone (parameter_words 1 next.item) one_more.marks why h))

  next_quiet : IsQuiet words before.marks false → IsQuiet (parameter_words 1 next.item) one_more.marks false
      → IsQuiet (words ++ one_words next) (formal_behind outer quiet before next.item).marks false
  next_quiet still h =
      quiet_behind words (one_words next) before.marks (joined (quiet ∷ one_more.marks ∷ [])) false still
      (quiet_behind (separator ∷ []) (parameter_words 1 next.item) quiet (joined (one_more.marks ∷ [])) false
      (quiet_word separator) (quiet_alone (parameter_words 1 next.item) one_more.marks false h))

  stays_failed : (why : Stop) → FailsBy words before.marks why
      → FailsBy (words ++ one_words next) (formal_behind outer quiet before next.item).marks why
  stays_failed why h =
      fails_front words (one_words next) before.marks (joined (quiet ∷ one_more.marks ∷ []))
      (next_word separator [] (joined (one_more.marks ∷ []))
      (all one_more.marks (parameter_many outer before.inner 1 next.item))) why h

  next_passes : (now new : CodeScopes) → PassesFormals words before now (Ok tt)
      → PassesFormals (parameter_words 1 next.item) one_more new (Ok tt)
      → PassesFormals (words ++ one_words next) (formal_behind outer quiet before next.item) new (Ok tt)
  next_passes now new h k = (
    next_quiet h.0 k.0,
    both_true before.is_clear one_more.is_clear h.1 k.1,
    record { inner = k.2.inner; within = k.2.within; inner_is = k.2.inner_is; table_is = k.2.table_is },
  )

-- a heading in which checking stops, whatever stands behind
still_failed : (outer : Outer) (words : List Word) (before : Formal) (rest : List (Behind Parameter)) (why : Stop)
    → FailsBy words before.marks why → FailsBy (words ++ more_words rest) (more_formals outer before rest).marks why
still_failed outer words before [] why h =
    subst (λ (all_words : List Word). FailsBy all_words before.marks why) (sym (append-nil words)) h
still_failed outer words before (next ∷ rest) why h =
    subst (λ (all_words : List Word). FailsBy all_words (more_formals outer before (next ∷ rest)).marks why)
    (append_assoc words (one_words next) (more_words rest))
    (still_failed outer (words ++ one_words next) (formal_behind outer quiet before next.item) rest why
    (stays_failed outer words before next why h))

more_push : (outer : Outer) (before : Formal) (done : List (Behind Parameter)) (rest : List (Behind Parameter))
    → more_formals outer before (done ++ rest) ≡ more_formals outer (more_formals outer before done) rest
more_push outer before [] rest = refl
more_push outer before (first ∷ done) rest =
    more_push outer (formal_behind outer quiet before first.item) done rest

-- what is answered of a parameter
abbrev pub FormalPasses : Parameter → CodeScopes → CodeScopes → Result (Unit {0}) Stop → Type 0
FormalPasses parameter now new result =
    (inner : CodeInner) → IsWithin inner now → PassesFormals (parameter_words 1 parameter)
    (parameter_of (outer_view now) (inner_view now.spellings.now inner) parameter) new result

-- a parameter over the scopes that those before it leave
formal_over : (old now new : CodeScopes) (words : List Word) (before : Formal) (parameter : Parameter)
    (result : Result (Unit {0}) Stop) → now ≡ record old { inner = now.inner }
    → PassesFormals words before now (Ok tt)
    → FormalPasses parameter now new result
    → PassesFormals (parameter_words 1 parameter) (parameter_of (outer_view old) before.inner parameter) new result
formal_over old now new words before parameter result kept h one =
    subst (λ (outer : Outer). PassesFormals (parameter_words 1 parameter) (parameter_of outer before.inner parameter)
    new result) (ap outer_view kept)
    (subst (λ (inner : Inner). PassesFormals (parameter_words 1 parameter) (parameter_of (outer_view now) inner
    parameter) new result) h.2.inner_is (one h.2.inner h.2.within))

-- the same over the code's list: what stands so far, and one more
module _ {X : Type 0} (view : X → Behind Parameter) (old : CodeScopes) (inner : CodeInner) (first : Parameter)
    (more : List X) where
  abbrev pub seen_first : Formal
  seen_first = first_formal (outer_view old) (inner_view old.spellings.now inner) first

  abbrev pub Formals : ℕ → CodeScopes → Type 0
  Formals i now =
      PassesFormals (parameter_words 1 first ++ more_words (map view (take i more)))
      (more_formals (outer_view old) seen_first (map view (take i more))) now (Ok tt)

  abbrev all_marks : Marks
  all_marks = (more_formals (outer_view old) seen_first (map view more)).marks

  abbrev pub all_formal_words : List Word
  all_formal_words = parameter_words 1 first ++ more_words (map view more)

  pub formals_first : (now : CodeScopes)
      → PassesFormals (parameter_words 1 first)
      (parameter_of (outer_view old) (inner_view old.spellings.now inner) first) now (Ok tt) → Formals 0 now
  formals_first now h =
      subst (λ (words : List Word). PassesFormals words seen_first now (Ok tt)) (sym (append-nil (parameter_words 1
      first))) (first_passes (outer_view old) (inner_view old.spellings.now inner) first now h)

  pub formals_none : (why : Stop)
      → FailsBy (parameter_words 1 first)
      (parameter_of (outer_view old) (inner_view old.spellings.now inner) first).marks why
      → FailsBy all_formal_words all_marks why
  formals_none why h =
      still_failed (outer_view old) (parameter_words 1 first) seen_first (map view more) why
      (first_fails (outer_view old) (inner_view old.spellings.now inner) first why h)

  module _ (i : ℕ) (now : CodeScopes) (kept : now ≡ record old { inner = now.inner }) (h : Formals i now) (d : X)
      (within : i < length more) where
    abbrev done : List (Behind Parameter)
    done = map view (take i more)

    abbrev next : Behind Parameter
    next = view (get_or more i d)

    abbrev rest : List (Behind Parameter)
    rest = map view (drop (i + 1) more)

    abbrev before : Formal
    before = more_formals (outer_view old) seen_first done

    abbrev before_words : List Word
    before_words = parameter_words 1 first ++ more_words done

    taken : map view (take (i + 1) more) ≡ done ++ next ∷ []
    taken = ap (map view) (take_more more i d within) ∙ map-append view (take i more) (get_or more i d ∷ [])

    split : map view more ≡ (done ++ next ∷ []) ++ rest
    split =
        sym (ap (map view) (take-append-drop (i + 1) more))
        ∙ (map-append view (take (i + 1) more) (drop (i + 1) more)
        ∙ ap (λ (front : List (Behind Parameter)). front ++ rest) taken)

    more_words_push : (done : List (Behind Parameter)) (next : Behind Parameter)
        → more_words (done ++ next ∷ []) ≡ more_words done ++ one_words next
    more_words_push [] next = append-nil (one_words next)
    more_words_push (one ∷ done) next =
        ap (λ (words : List Word). one_words one ++ words) (more_words_push done next)
        ∙ sym (append_assoc (one_words one) (more_words done) (one_words next))

    words_push : (behind : List (Behind Parameter))
        → (before_words ++ one_words next) ++ more_words behind
        ≡ parameter_words 1 first ++ more_words ((done ++ next ∷ []) ++ behind)
    words_push behind =
        append_assoc before_words (one_words next) (more_words behind)
        ∙ (append_assoc (parameter_words 1 first) (more_words done) (one_words next ++ more_words behind)
        ∙ ap (λ (words : List Word). parameter_words 1 first ++ words) (words_all done behind))
      where
        words_all : (done behind : List (Behind Parameter))
            → more_words done ++ (one_words next ++ more_words behind) ≡ more_words ((done ++ next ∷ []) ++ behind)
        words_all [] behind = refl
        words_all (one ∷ done) behind =
            append_assoc (one_words one) (more_words done) (one_words next ++ more_words behind)
            ∙ ap (λ (words : List Word). one_words one ++ words) (words_all done behind)

    pub formals_next : (new : CodeScopes) → FormalPasses next.item now new (Ok tt) → Formals (i + 1) new
    formals_next new passes =
        let one : PassesFormals (parameter_words 1 next.item) (parameter_of (outer_view old) before.inner next.item) new
        (Ok tt) = formal_over old now new before_words before next.item (Ok tt) kept h passes in
        subst (λ (found : List (Behind Parameter)). PassesFormals (parameter_words 1 first ++ more_words found)
        (more_formals (outer_view old) seen_first found) new (Ok tt)) (sym taken)
        (subst (λ (found : Formal). PassesFormals (parameter_words 1 first ++ more_words (done ++ next ∷ [])) found new
        (Ok tt)) (sym (more_push (outer_view old) seen_first done (next ∷ [])))
        (subst (λ (words : List Word). PassesFormals words
        (more_formals (outer_view old) before (next ∷ [])) new (Ok tt))
        (append_assoc (parameter_words 1 first) (more_words done) (one_words next)
        ∙ ap (λ (words : List Word). parameter_words 1 first ++ words) (sym (more_words_push done next)))
        (next_passes (outer_view old) before_words before next now new h one)))

    pub formals_fail : (new : CodeScopes) (why : Stop) → FormalPasses next.item now new (Err why)
        → FailsBy all_formal_words all_marks why
    formals_fail new why passes =
        let one : FailsBy (parameter_words 1 next.item) (parameter_of (outer_view old) before.inner next.item).marks
        why =
        formal_over old now new before_words before next.item (Err why) kept h passes in
        subst (λ (found : List (Behind Parameter)). FailsBy (parameter_words 1 first ++ more_words found)
        (more_formals (outer_view old) seen_first found).marks why) (sym split)
        (subst (λ (found : Formal). FailsBy (parameter_words 1 first ++ more_words ((done ++ next ∷ []) ++ rest))
        found.marks why)
        (sym (more_push (outer_view old) seen_first (done ++ next ∷ []) rest
        ∙ ap (λ (found : Formal). more_formals (outer_view old) found rest)
        (more_push (outer_view old) seen_first done (next ∷ []))))
        (subst (λ (words : List Word). FailsBy words
        (more_formals (outer_view old) (formal_behind (outer_view old) quiet before next.item) rest).marks why)
        (words_push rest)
        (still_failed (outer_view old) (before_words ++ one_words next)
        (formal_behind (outer_view old) quiet before next.item) rest why
        (next_fails (outer_view old) before_words before next h.0 why one))))

  pub formals_all : (i : ℕ) (now : CodeScopes) → length more ≤ i → Formals i now
      → PassesFormals all_formal_words (more_formals (outer_view old) seen_first (map view more)) now (Ok tt)
  formals_all i now within h =
      subst (λ (taken : List X). PassesFormals (parameter_words 1 first ++ more_words (map view taken))
      (more_formals (outer_view old) seen_first (map view taken)) now (Ok tt)) (take_all i more within) h

-- parameters between parentheses
module _ (outer : Outer) (inner : Inner) (parameters : Parameters) where
  abbrev inside : Formal
  inside = more_formals outer (first_formal outer inner parameters.items.first) parameters.items.more

  abbrev inside_words : List Word
  inside_words = parameter_words 1 parameters.items.first ++ more_words parameters.items.more

  abbrev opened : Word
  opened = at 1 k.LeftParenthesis parameters.opened

  abbrev closed : Word
  closed = at 1 k.RightParenthesis parameters.closed

  pub enclosed_passes : (new : CodeScopes) (result : Result (Unit {0}) Stop)
      → PassesFormals inside_words inside new result
      → PassesFormals (parameters_words parameters) (formals_of outer inner (Some parameters)) new result
  enclosed_passes new (Ok found) h = (
    quiet_behind (opened ∷ []) (inside_words ++ closed ∷ []) quiet (joined (inside.marks ∷ quiet ∷ [])) false
        (quiet_word opened)
        (quiet_behind inside_words (closed ∷ []) inside.marks (joined (quiet ∷ [])) false h.0
        (quiet_alone (closed ∷ []) quiet false (quiet_word closed))),
    h.1,
    record { inner = h.2.inner; within = h.2.within; inner_is = h.2.inner_is; table_is = h.2.table_is },
  )
  enclosed_passes new (Err why) h =
      fails_behind (opened ∷ []) (inside_words ++ closed ∷ []) quiet (joined (inside.marks ∷ quiet ∷ []))
      (quiet_word opened) why
      (fails_front inside_words (closed ∷ []) inside.marks (joined (quiet ∷ []))
      (next_word closed [] (joined []) (record { same = refl })) why h)
