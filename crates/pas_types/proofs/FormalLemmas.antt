-- Parameters of a routine: what is answered of them, by what is answered of their parts.
use Rattle.std.proofs.Common.{◌≡◌, sym, ap, subst, ◌∙◌, ℕ, false, List, [], ◌∷◌, ◌++◌}
use Rattle.std.proofs.Common.{Option, Some, None, Result, Ok, Err, OnOk}
use Rattle.std.specs.Prelude.{is_some}
use Rattle.pas_tokens.specs.Cutting.{Wrong}
use Rattle.pas_tokens.specs.declared.kinds.Kind.TheVariants as k
use Rattle.pas_syntax.specs.Tree as tree
use Rattle.pas_syntax.specs.Tree.{Ident, Idents, Behind, TypeForm, Parameter, Parameters}
use Rattle.pas_syntax.specs.Words.{Word, at, maybe, name_at, idents_words, parameter_words}
use Rattle.pas_syntax.specs.Views.{ident_in, separated_in}
use Rattle.pas_syntax.specs.ProgramViews.{parameter_in}
use Rattle.pas_syntax.specs.declared.tree.Parameter.{Parameter as CodeParameter}
use Rattle.pas_typed.specs.declared.types.PasType.{PasType as CodePasType}
use Rattle.pas_typed.specs.declared.typed.Mode.{Mode as CodeMode}
use Rattle.pas_typed.specs.Types.{PasType, Made}
use Rattle.pas_typed.specs.Typed.{Mode}
use Rattle.pas_typed.specs.TypeViews.{type_view}
use Rattle.pas_typed.specs.TypedViews.{mode_view}
use Rattle.pas_scopes.specs.declared.judged.Judged.{Judged as CodeJudged}
use Rattle.pas_scopes.specs.declared.scopes.Inner.{Inner as CodeInner}
use Rattle.pas_scopes.specs.declared.scopes.Scopes.{Scopes as CodeScopes}
use Rattle.pas_scopes.specs.declared.stop.Stop.{Stop}
use Rattle.pas_rules.specs.Marks.{Marks, quiet, joined, Judged, noted, known}
use Rattle.pas_rules.specs.Scopes.{names_of, names_inside, spellings_of, new_names}
use Rattle.pas_rules.specs.TypeForms.{maybe_quiet, type_named}
use Rattle.pas_rules.specs.Declarations.{local_only, with_locals}
use Rattle.pas_rules.specs.Routines.{mode_of, type_in_heading, Formal, parameter_of}
use Rattle.pas_scopes.specs.ScopeViews.{outer_view, scopes_view, made_view, IsClear}
use Rattle.pas_scopes.specs.Answers.{end_in, EndsAs, StopsBy, FailsBy, IsQuiet}
use Rattle.pas_scopes.specs.NameAnswers.{AreNewNames, AreNew}
use Rattle.pas_scopes.specs.Locals.{IsWithin}
use Rattle.pas_types.specs.inner.RoutineAnswers.{PassesFormals}
use Rattle.pas_rules.proofs.AsMany.{AsMany, next_word, all, noted_many}
use Rattle.pas_rules.proofs.TypesAsMany.{type_named_many}
use Rattle.pas_scopes.proofs.AnswerLemmas.{made_ends, made_stops, noted_stops_by, stops_fails}
use Rattle.pas_scopes.proofs.SettleLemmas.{quiet_word, quiet_alone, quiet_behind, nothing_shown}
use Rattle.pas_scopes.proofs.CountedLemmas.{IsMade}
use Rattle.pas_scopes.proofs.GlobalRowLemmas.{names_alone, fresh_alone}
use Rattle.pas_scopes.proofs.LocalRowLemmas.{fails_front, fails_behind}
use Rattle.pas_scopes.proofs.LocalRowsLemmas.{fails_alone}
use Rattle.pas_scopes.proofs.WithinLemmas.{AddAnswers, Added, seen_inner, seen_scopes, seen_is, taken_is}
use Rattle.pas_scopes.proofs.WithinLemmas.{made_in, added_fails, added_quiet, added_leaves}

-- a word that may stand there shows nothing
maybe_still : (n : ℕ) (line : Option ℕ) → IsQuiet (maybe n k.Var line) (maybe_quiet line) false
maybe_still n None = nothing_shown
maybe_still n (Some line) = quiet_word (at n k.Var line)

-- parameters of one type
module _ (n : ℕ) (var : Option ℕ) (names : Idents) (colon_line : ℕ) (before : List (List ℕ))
    (demand : Made → List Wrong) (form : Judged Made) (type_at : List Word) (many : AsMany type_at form.marks) where
  abbrev names_part : Marks
  names_part = new_names before names

  abbrev type_part : Marks
  type_part = (noted demand form).marks

  abbrev formal_marks : Marks
  formal_marks = joined (maybe_quiet var ∷ names_part ∷ quiet ∷ type_part ∷ [])

  abbrev colon : Word
  colon = at n k.Colon colon_line

  abbrev formal_words : List Word
  formal_words = maybe n k.Var var ++ (idents_words n names ++ colon ∷ type_at)

  type_many : AsMany (colon ∷ type_at) (joined (quiet ∷ type_part ∷ []))
  type_many = next_word colon [] (joined (type_part ∷ [])) (all type_part (noted_many demand form many))

  formal_names_fail : (why : Stop) → FailsBy (idents_words n names) names_part why
      → FailsBy formal_words formal_marks why
  formal_names_fail why h =
      fails_behind (maybe n k.Var var) (idents_words n names ++ colon ∷ type_at) (maybe_quiet var)
      (joined (names_part ∷ quiet ∷ type_part ∷ [])) (maybe_still n var) why
      (fails_front (idents_words n names) (colon ∷ type_at) names_part (joined (quiet ∷ type_part ∷ [])) type_many why
      h)

  module _ (still : IsQuiet (idents_words n names) names_part false) where
    formal_type_fails : (why : Stop) → FailsBy type_at type_part why → FailsBy formal_words formal_marks why
    formal_type_fails why h =
        fails_behind (maybe n k.Var var) (idents_words n names ++ colon ∷ type_at) (maybe_quiet var)
        (joined (names_part ∷ quiet ∷ type_part ∷ [])) (maybe_still n var) why
        (fails_behind (idents_words n names) (colon ∷ type_at) names_part (joined (quiet ∷ type_part ∷ [])) still why
        (fails_behind (colon ∷ []) type_at quiet (joined (type_part ∷ [])) (quiet_word colon) why
        (fails_alone type_at type_part why h)))

    formal_quiet : IsQuiet type_at type_part false → IsQuiet formal_words formal_marks false
    formal_quiet h =
        quiet_behind (maybe n k.Var var) (idents_words n names ++ colon ∷ type_at) (maybe_quiet var)
        (joined (names_part ∷ quiet ∷ type_part ∷ [])) false (maybe_still n var)
        (quiet_behind (idents_words n names) (colon ∷ type_at) names_part (joined (quiet ∷ type_part ∷ [])) false still
        (quiet_behind (colon ∷ []) type_at quiet (joined (type_part ∷ [])) false (quiet_word colon)
        (quiet_alone type_at type_part false h)))

-- the name of a type, over the types that it leaves as they are
module _ (old : CodeScopes) (inner : CodeInner) (ident : Ident) where
  abbrev pub part_in : Judged Made
  part_in = type_in_heading (outer_view old) (seen_inner old inner) (tree.type_named ident)

  abbrev pub make_in : PasType → Made
  make_in what = record { type = what; table = (outer_view old).types }

  module _ (h : IsWithin inner old) where
    pub part_ends : (n : ℕ) (made : CodeJudged CodePasType)
        → EndsAs (name_at n ident ∷ []) (type_named (scopes_view old) ident) (type_view made.value) (end_in made.end)
        → EndsAs (name_at n ident ∷ []) part_in (made_view old made.value) (end_in made.end)
    part_ends n made ends =
        made_ends (name_at n ident ∷ []) make_in (type_named (seen_scopes old inner) ident) (type_view made.value)
        (end_in made.end)
        (subst (λ s. EndsAs (name_at n ident ∷ []) (type_named s ident) (type_view made.value) (end_in made.end))
        (seen_is old inner h) ends)

    pub part_stops : (n : ℕ) (why : Stop)
        → (IsClear (scopes_view old) → StopsBy (name_at n ident ∷ []) (type_named (scopes_view old) ident) why)
        → StopsBy (name_at n ident ∷ []) part_in why
    part_stops n why stops =
        made_stops (name_at n ident ∷ []) make_in (type_named (seen_scopes old inner) ident) why
        (subst (λ s. StopsBy (name_at n ident ∷ []) (type_named s ident) why) (seen_is old inner h) (stops h.clear))

    pub part_made : (found : Made) → part_in.value ≡ Some found → IsMade (outer_view old).types (Some found)
    part_made found is = made_in old inner h (tree.simple (tree.simple_named ident)) found is

-- the parameters of one type that a heading has
module _ (old : CodeScopes) (inner : CodeInner) (parameter : CodeParameter) where
  abbrev names_there : Idents
  names_there = separated_in (ident_in old.spellings.now) parameter.names

  abbrev type_there : Ident
  type_there = ident_in old.spellings.now parameter.type_name

  abbrev pub formal : Formal
  formal = parameter_of (outer_view old) (seen_inner old inner) (parameter_in old.spellings.now parameter)

  abbrev pub words_there : List Word
  words_there = parameter_words 1 (parameter_in old.spellings.now parameter)

  abbrev part_there : Judged Made
  part_there = part_in old inner type_there

  abbrev spelled : List (List ℕ)
  spelled = spellings_of names_there

  abbrev demand_there : Made → List Wrong
  demand_there = local_only (seen_inner old inner) (mode_of parameter.by_name) spelled

  abbrev type_words_there : List Word
  type_words_there = name_at 1 type_there ∷ []

  part_many : AsMany type_words_there part_there.marks
  part_many = type_named_many (seen_scopes old inner) 1 type_there

  module _ (h : IsWithin inner old) (before : List (List ℕ)) (none : before ≡ []) where
    names_in : (result : Result (Unit {0}) Stop)
        → AreNewNames (names_of (names_inside (scopes_view old).inner) ++ before) names_there result
        → AreNewNames (names_of inner.names) names_there result
    names_in result answer =
        subst (λ (taken : List (List ℕ)). AreNewNames taken names_there result) (taken_is old inner h)
        (names_alone (names_of (names_inside (scopes_view old).inner)) before names_there result none answer)

    pub parameter_names_fail : (why : Stop)
        → AreNewNames (names_of (names_inside (scopes_view old).inner) ++ before) names_there (Err why)
        → FailsBy words_there formal.marks why
    parameter_names_fail why answer =
        formal_names_fail 1 parameter.by_name names_there parameter.colon (names_of inner.names) demand_there part_there
        type_words_there part_many why (names_in (Err why) answer 1)

    module _ (free : AreNewNames (names_of (names_inside (scopes_view old).inner) ++ before) names_there (Ok tt)) where
      still : IsQuiet (idents_words 1 names_there) (new_names (names_of inner.names) names_there) false
      still = names_in (Ok tt) free 1

      pub parameter_type_fails : (why : Stop)
          → (IsClear (scopes_view old) → StopsBy type_words_there (type_named (scopes_view old) type_there) why)
          → FailsBy words_there formal.marks why
      parameter_type_fails why stops =
          formal_type_fails 1 parameter.by_name names_there parameter.colon (names_of inner.names) demand_there
          part_there type_words_there part_many still why
          (stops_fails type_words_there (noted demand_there part_there) why
          (noted_stops_by type_words_there demand_there part_there why
          (part_stops old inner type_there h 1 why stops)))

      module _ (made : CodeJudged CodePasType) (mode : CodeMode) (mode_is : mode_view mode ≡ mode_of parameter.by_name)
          (ends : EndsAs type_words_there (type_named (scopes_view old) type_there) (type_view made.value)
          (end_in made.end)) where
        there_made : EndsAs type_words_there part_there (made_view old made.value) (end_in made.end)
        there_made = part_ends old inner type_there h 1 made ends

        is_made : IsMade (outer_view old).types (Some (made_view old made.value))
        is_made = part_made old inner type_there h (made_view old made.value) there_made.known

        demand_is : local_only (seen_inner old inner) (mode_view mode) spelled ≡ demand_there
        demand_is = ap (λ (m : Mode). local_only (seen_inner old inner) m spelled) mode_is

        pub parameter_add_fails : (why : Stop) → AddAnswers old parameter.names mode made (Err why)
            → (end_in made.end).is_short ≡ false → FailsBy words_there formal.marks why
        parameter_add_fails why answers whole =
            formal_type_fails 1 parameter.by_name names_there parameter.colon (names_of inner.names) demand_there
            part_there type_words_there part_many still why
            (subst (λ (demand : Made → List Wrong). FailsBy type_words_there (noted demand part_there).marks why)
            demand_is
            (added_fails old inner h parameter.names mode made old.types is_made.0 is_made.1 type_words_there part_there
            why answers there_made whole))

        pub parameter_passes : (new : CodeScopes) → new ≡ record old { inner = new.inner }
            → AddAnswers old parameter.names mode made (Ok tt)
            → Added old parameter.names mode made new
            → AreNew (names_of (names_inside (scopes_view old).inner) ++ before) spelled
            → PassesFormals words_there formal new (Ok tt)
        parameter_passes new stays answers added fresh = (
          formal_quiet 1 parameter.by_name names_there parameter.colon (names_of inner.names) demand_there
              part_there type_words_there part_many still
              (subst (λ (demand : Made → List Wrong).
              IsQuiet type_words_there (noted demand part_there).marks false) demand_is
              (added_quiet old inner h parameter.names mode made old.types is_made.0 is_made.1 type_words_there
              part_there answers there_made)),
          ap is_some there_made.known,
          added_leaves old inner h parameter.names mode made old.types is_made.0 is_made.1 new stays added
              (subst (λ (taken : List (List ℕ)). AreNew taken spelled) (taken_is old inner h)
              (fresh_alone (names_of (names_inside (scopes_view old).inner)) before spelled (Ok tt) none fresh))
              (record { marks = formal.marks; table = (outer_view new).types; inner = formal.inner })
              (ap (λ (scopes : CodeScopes). (outer_view scopes).types) stays)
              (ap (λ (value : Option Made). with_locals (mode_of parameter.by_name) spelled
              (known (λ what. what.type) value) (seen_inner old inner)) there_made.known
              ∙ ap (λ (m : Mode). with_locals m spelled (Some (type_view made.value)) (seen_inner old inner))
              (sym mode_is)),
        )

        pub parameter_returns : (new : CodeScopes) → new ≡ record old { inner = new.inner }
            → (result : Result (Unit {0}) Stop) → AddAnswers old parameter.names mode made result
            → OnOk result (Added old parameter.names mode made new) → (end_in made.end).is_short ≡ false
            → AreNew (names_of (names_inside (scopes_view old).inner) ++ before) spelled
            → PassesFormals words_there formal new result
        parameter_returns new stays (Ok done) answers added whole fresh =
            parameter_passes new stays answers added fresh
        parameter_returns new stays (Err why) answers added whole fresh = parameter_add_fails why answers whole
