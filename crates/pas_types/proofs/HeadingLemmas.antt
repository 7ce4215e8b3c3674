-- Headings of routines: what is answered of them, by what is answered of their parts.
use Rattle.std.proofs.Common.{◌≡◌, refl, sym, ap, subst, ◌∙◌, ℕ, Bool, true, false, List, [], ◌∷◌, ◌++◌}
use Rattle.std.proofs.Common.{Option, Some, None, Result, Ok, Err}
use Rattle.std.specs.Prelude.{option_map, is_some}
use Rattle.wb_base.specs.declared.faults.TheConstants.{DUPLICATE_NAME, TOO_LARGE, WRONG_TYPE}
use Rattle.pas_tokens.specs.Cutting.{Wrong, wrong}
use Rattle.pas_tokens.specs.declared.kinds.Kind.TheVariants as k
use Rattle.pas_syntax.specs.Tree.{Behind, TypeName, Parameters}
use Rattle.pas_syntax.specs.Words.{Word, at, words_if, parameters_words, result_words}
use Rattle.pas_typed.specs.declared.types.PasType.{PasType as CodePasType}
use Rattle.pas_typed.specs.Types.{Made}
use Rattle.pas_scopes.specs.declared.stop.Stop.{Stop}
use Rattle.pas_scopes.specs.declared.stop.Stop.TheVariants as stop
use Rattle.pas_rules.specs.Marks.{Marks, quiet, shows, joined, unless, Judged, judged, checked}
use Rattle.pas_scopes.specs.Ends.{shown_behind}
use Rattle.pas_scopes.specs.Answers.{Ending, EndsAs, FailsBy, IsQuiet, Means, Settles}
use Rattle.pas_scopes.specs.declared.scopes.Inner.{Inner as CodeInner}
use Rattle.pas_scopes.specs.declared.scopes.Scopes.{Scopes as CodeScopes}
use Rattle.pas_rules.specs.Scopes.{Inner}
use Rattle.pas_rules.specs.Routines.{Sort, Formal, formals_of, result_part, missing_result}
use Rattle.pas_scopes.specs.ScopeViews.{outer_view, inner_view, made_view}
use Rattle.pas_scopes.specs.Stopping.{demanded, shown_in}
use Rattle.pas_scopes.specs.Locals.{IsWithin}
use Rattle.pas_types.specs.inner.RoutineAnswers.{IsOrdinal, IsResult, PassesFormals, PassesRest, PassesHeading}
use Rattle.pas_rules.proofs.AsMany.{AsMany, all, one, and_then}
use Rattle.pas_rules.proofs.RoutinesAsMany.{result_many}
use Rattle.pas_scopes.proofs.AnswerLemmas.{checked_marks}
use Rattle.pas_scopes.proofs.SettleLemmas.{quiet_word, quiet_alone, quiet_behind}
use Rattle.pas_scopes.proofs.LocalRowLemmas.{fails_front, fails_behind, missing_nothing}
use Rattle.pas_scopes.proofs.LocalRowsLemmas.{fails_alone}

-- a name that is declared already is told before that there are too many routines
pub name_fails : (word : Word) (is_new is_few : Bool) (why : Stop)
    → FailsBy (word ∷ []) (shows (unless is_new (wrong DUPLICATE_NAME))) why
    → FailsBy (word ∷ []) (shows (unless is_new (wrong DUPLICATE_NAME) ++ unless is_few (wrong TOO_LARGE))) why
name_fails word is_new is_few stop.OutOfMemory h = tt
name_fails word is_new is_few stop.Missing h = absurd h
name_fails word true is_few (stop.Fault fault) h = absurd (none h.first)
  where
    none : None ≡ Some fault → ⊥
    none e = cc
name_fails word false true (stop.Fault fault) h = record { many = refl; first = h.first }
name_fails word false false (stop.Fault fault) h = record { many = refl; first = h.first }

-- the type of a result, at the end of which nothing is missing
pub ordinal_by : (words : List Word) (demand : Made → List Wrong) (part : Judged Made) (view : CodePasType → Made)
    (value : Made) (end : Ending) → end.is_short ≡ false → EndsAs words part value end
    → (result : Result CodePasType Stop) → Settles words (checked demand part) view result
    → IsOrdinal words (checked demand part) view result
ordinal_by words demand part view value end whole ends (Ok found) h = h
ordinal_by words demand part view value end whole ends (Err stop.OutOfMemory) h = tt
ordinal_by words demand part view value end whole ends (Err (stop.Fault fault)) h = h
ordinal_by words demand part view value end whole ends (Err stop.Missing) h =
    absurd (missing_nothing part.marks.behind (ends.behind ∙ ap shown_behind whole)
    (sym (ap (λ (marks : Marks). marks.behind) (checked_marks words demand part)) ∙ h.behind))

pub some_seen : {A B : Type 0} (view : A → B) (found : Option A) → is_some (option_map view found) ≡ is_some found
some_seen view None = refl
some_seen view (Some found) = refl

-- the type of a result, behind a colon
module _ (line : ℕ) (words : List Word) (part : Judged Made) (view : CodePasType → Made) where
  abbrev behind_colon : Judged Made
  behind_colon = judged (joined (quiet ∷ part.marks ∷ [])) part.value

  pub result_means : (item : TypeName) (found : CodePasType) → Means words part (view found)
      → IsResult (Some (record { line = line; item = item })) (at 0 k.Colon line ∷ words) behind_colon view
      (Ok (Some found))
  result_means item found h = (
    quiet_behind (at 0 k.Colon line ∷ []) words quiet (joined (part.marks ∷ [])) false (quiet_word (at 0 k.Colon line))
        (quiet_alone words part.marks false h.quiet),
    h.known,
    refl,
  )

  pub result_fails : (why : Stop) → FailsBy words part.marks why
      → FailsBy (at 0 k.Colon line ∷ words) behind_colon.marks why
  result_fails why h =
      fails_behind (at 0 k.Colon line ∷ []) words quiet (joined (part.marks ∷ [])) (quiet_word (at 0 k.Colon line)) why
      (fails_alone words part.marks why h)

-- what stands behind the name of a heading
missing_fails : (line : ℕ) (holds : Bool) (why : Stop) → Err why ≡ demanded holds WRONG_TYPE line
    → FailsBy (at 0 k.Semicolon line ∷ []) (shows (unless holds (wrong WRONG_TYPE))) why
missing_fails line true why is = absurd (cc)
missing_fails line false why is =
    subst (FailsBy (at 0 k.Semicolon line ∷ []) (shows (wrong WRONG_TYPE ∷ [])))
    (sym (same_stop why (shown_in line (wrong WRONG_TYPE)) (demanded false WRONG_TYPE line) is refl))
    (record { many = refl; first = refl })
  where
    same_stop : (first other : Stop) (result : Result (Unit {0}) Stop) → Err first ≡ result → result ≡ Err other
        → first ≡ other
    same_stop first other result is also = cc

none_missing : (line : ℕ) (holds : Bool) → Ok tt ≡ demanded holds WRONG_TYPE line
    → unless holds (wrong WRONG_TYPE) ≡ []
none_missing line true is = refl
none_missing line false is = absurd (cc)

module _ (old now : CodeScopes) (inner : CodeInner) (sort : Sort) (parameters : Option Parameters)
    (given : List ℕ → Option (Behind TypeName)) (line : ℕ) (kept : now ≡ record old { inner = now.inner }) where
  abbrev formals : Formal
  formals = formals_of (outer_view old) (inner_view old.spellings.now inner) parameters

  abbrev result_there : Option (Behind TypeName)
  result_there = given old.spellings.now

  abbrev part : Judged Made
  part = result_part (outer_view old) formals.inner result_there

  abbrev missing : List Wrong
  missing = missing_result sort result_there

  abbrev formals_words : List Word
  formals_words = words_if parameters_words parameters

  abbrev part_words : List Word
  part_words = words_if result_words result_there

  abbrev semicolon : Word
  semicolon = at 0 k.Semicolon line

  abbrev all_words : List Word
  all_words = formals_words ++ (part_words ++ semicolon ∷ [])

  last_many : AsMany (semicolon ∷ []) (joined (shows missing ∷ []))
  last_many = all (shows missing) (one semicolon missing)

  behind_many : AsMany (part_words ++ semicolon ∷ []) (joined (part.marks ∷ shows missing ∷ []))
  behind_many =
      and_then part.marks (joined (shows missing ∷ [])) (result_many (outer_view old) formals.inner result_there)
      last_many

  pub rest_formals_fail : (why : Stop) → FailsBy formals_words formals.marks why
      → PassesHeading all_words formals result_there part missing (made_view old) now (Err why)
  rest_formals_fail why h =
      fails_front formals_words (part_words ++ semicolon ∷ []) formals.marks
      (joined (part.marks ∷ shows missing ∷ [])) behind_many why h

  module _ (f : PassesFormals formals_words formals now (Ok tt)) (result : Result (Option CodePasType) Stop)
      (of_result : (one : CodeInner) → IsWithin one now → IsResult (given now.spellings.now)
      (words_if result_words (given now.spellings.now))
      (result_part (outer_view now) (inner_view now.spellings.now one) (given now.spellings.now)) (made_view now)
      result) where
    pub result_is : IsResult result_there part_words part (made_view old) result
    result_is =
        subst (λ (s : CodeScopes). IsResult (given s.spellings.now) (words_if result_words (given s.spellings.now))
        (result_part (outer_view s) formals.inner (given s.spellings.now)) (made_view s) result) kept
        (subst (λ (one : Inner). IsResult (given now.spellings.now) (words_if result_words (given now.spellings.now))
        (result_part (outer_view now) one (given now.spellings.now)) (made_view now) result) f.2.inner_is
        (of_result f.2.inner f.2.within))

  module _ (f : PassesFormals formals_words formals now (Ok tt)) where
    pub rest_result_fails : (why : Stop) → FailsBy part_words part.marks why
        → PassesHeading all_words formals result_there part missing (made_view old) now (Err why)
    rest_result_fails why h =
        fails_behind formals_words (part_words ++ semicolon ∷ []) formals.marks
        (joined (part.marks ∷ shows missing ∷ [])) f.0 why
        (fails_front part_words (semicolon ∷ []) part.marks (joined (shows missing ∷ [])) last_many why h)

    module _ (found : Option CodePasType) (still : IsQuiet part_words part.marks false) where
      pub rest_missing_fails : (holds : Bool) → missing ≡ unless holds (wrong WRONG_TYPE) → (why : Stop)
          → Err why ≡ demanded holds WRONG_TYPE line
          → PassesHeading all_words formals result_there part missing (made_view old) now (Err why)
      rest_missing_fails holds shown why is =
          fails_behind formals_words (part_words ++ semicolon ∷ []) formals.marks
          (joined (part.marks ∷ shows missing ∷ [])) f.0 why
          (fails_behind part_words (semicolon ∷ []) part.marks (joined (shows missing ∷ [])) still why
          (fails_alone (semicolon ∷ []) (shows missing) why
          (subst (λ (faults : List Wrong). FailsBy (semicolon ∷ []) (shows faults) why) (sym shown)
          (missing_fails line holds why is))))

      pub rest_passes : (holds : Bool) → missing ≡ unless holds (wrong WRONG_TYPE)
          → Ok tt ≡ demanded holds WRONG_TYPE line → part.value ≡ option_map (made_view old) found
          → is_some found ≡ is_some result_there
          → PassesRest all_words formals result_there part missing (made_view old) now found
      rest_passes holds shown is value there = record {
        still = quiet_behind formals_words (part_words ++ semicolon ∷ []) formals.marks
            (joined (part.marks ∷ shows missing ∷ [])) false f.0
            (quiet_behind part_words (semicolon ∷ []) part.marks (joined (shows missing ∷ [])) false still
            (quiet_alone (semicolon ∷ []) (shows missing) false
            (record { still = (shown ∙ none_missing line holds is, tt); behind = refl })));
        nothing_missing = shown ∙ none_missing line holds is;
        is_clear = f.1;
        result_is = value;
        is_given = there;
        leaves = f.2;
      }
