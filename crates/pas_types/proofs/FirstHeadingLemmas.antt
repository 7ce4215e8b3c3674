-- The first heading of a routine: what is answered of it, and the scopes behind it.
use Rattle.std.proofs.Common.{◌≡◌, refl, sym, ap, subst, ◌∙◌, ℕ, ◌+◌, arith, Bool, true, false, List, [], ◌∷◌, ◌++◌}
use Rattle.std.proofs.Common.{map, length, Option, Some, None, IsSome, Result, Ok}
use Rattle.std.proofs.lemmas.List.{map-append, length-map}
use Rattle.std.specs.Prelude.{option_map, if◌then◌else◌}
use Rattle.pas_tokens.specs.Cutting.{Wrong}
use Rattle.pas_syntax.specs.Views.{spelled_in}
use Rattle.pas_syntax.specs.Words.{Word, name_at}
use Rattle.pas_typed.specs.declared.types.PasType.{PasType as CodePasType}
use Rattle.pas_typed.specs.Types.{PasType, Made}
use Rattle.pas_typed.specs.Typed.{Variable, Heading, local}
use Rattle.pas_typed.specs.TypeViews.{type_view}
use Rattle.pas_typed.specs.TypedViews.{variable_view}
use Rattle.pas_types.specs.declared.headings.HeadingParts.{HeadingParts as CodeParts}
use Rattle.pas_scopes.specs.declared.scopes.Inner.{Inner as CodeInner}
use Rattle.pas_scopes.specs.declared.scopes.KnownRoutine.{KnownRoutine as CodeRoutine}
use Rattle.pas_scopes.specs.declared.scopes.Scopes.{Scopes as CodeScopes}
use Rattle.pas_scopes.specs.declared.stop.Stop.{Stop}
use Rattle.pas_rules.specs.Marks.{Marks, quiet, shows, joined, Judged}
use Rattle.pas_rules.specs.Scopes.{routine, Named, names, names_of, contains, KnownRoutine, Outer, Inner}
use Rattle.pas_rules.specs.Scopes.{entity_in, names_inside, or_else, required}
use Rattle.pas_rules.specs.Declarations.{named_slots, program_scopes}
use Rattle.pas_rules.specs.Routines.{HeadingParts, Formal, HeadingStage, formals_of, result_part, missing_result}
use Rattle.pas_rules.specs.Routines.{new_inner, heading_by, with_routine, first_heading}
use Rattle.pas_rules.specs.Scopes.{with_new}
use Rattle.pas_scopes.specs.ScopeViews.{outer_view, inner_view, routine_view, made_view, IsClear}
use Rattle.pas_scopes.specs.Answers.{FailsBy, IsQuiet}
use Rattle.pas_scopes.specs.DeclaredSoFar.{IsCounted}
use Rattle.pas_scopes.specs.Locals.{IsMeasured, IsWaiting, AreWaiting, IsWithin}
use Rattle.pas_types.specs.inner.RoutineAnswers.{parts_in, result_told, name_faults}
use Rattle.pas_rules.specs.HeadingWords.{rest_words, parts_words}
use Rattle.pas_types.specs.inner.RoutineAnswers.{PassesRest}
use Rattle.pas_types.specs.inner.RoutineAnswers.{PassesHeading, AddsRoutine, IsReady, awaited_at, Heads, sort_view}
use Rattle.pas_rules.proofs.RoutinesAsMany.{rest_many}
use Rattle.pas_scopes.proofs.SettleLemmas.{quiet_word, quiet_behind}
use Rattle.pas_scopes.proofs.ConstantRowLemmas.{clear_push, free_in, view_is}
use Rattle.pas_scopes.proofs.CountedLemmas.{counted_name}
use Rattle.pas_scopes.proofs.LocalRowLemmas.{fails_front, fails_behind}
use Rattle.pas_types.proofs.HeadingLemmas.{some_seen}
use Rattle.pas_types.proofs.RoutineLemmas.{Keeps, formals_keep, heading_told, waiting_push, last_awaited}

-- a scope without names, in which a heading is looked at
abbrev pub empty_inner : ℕ → CodeInner
empty_inner number = record { number = number; labels = []; names = []; variables = []; cells = 0 }

pub empty_within : (old : CodeScopes) (number : ℕ) → IsReady old
    → IsWithin (empty_inner number) (record old { inner = Some (empty_inner number) })
empty_within old number h = record {
  inside = refl;
  clear = λ name is. h.clear name
      (ap (λ (one : Option CodeInner).
      or_else (entity_in (names_inside (option_map (inner_view old.spellings.now) one)) name)
      (or_else (entity_in old.names name) (entity_in required name))) h.alone ∙ is);
  lawful = record { counted_is = h.lawful.counted_is; waiting = h.lawful.waiting };
  measured = record { names = tt; variables = tt; cells_are = refl };
}

-- the words of a first heading
module _ (outer : Outer) (word : Word) (head : HeadingParts) (line : ℕ) where
  abbrev start : Inner
  start = new_inner (length outer.routines) []

  abbrev formals : Formal
  formals = formals_of outer start head.parameters

  abbrev part : Judged Made
  part = result_part outer formals.inner head.result

  abbrev missing : List Wrong
  missing = missing_result head.sort head.result

  abbrev rest : Marks
  rest = joined (formals.marks ∷ part.marks ∷ shows missing ∷ [])

  abbrev faults : List Wrong
  faults = name_faults outer head.name.name

  pub name_stops : (why : Stop) → FailsBy (name_at 0 head.name ∷ []) (shows faults) why
      → FailsBy (parts_words word head line) (first_heading outer head).marks why
  name_stops why h =
      fails_behind (word ∷ []) (name_at 0 head.name ∷ rest_words head line) quiet
      (joined (shows faults ∷ formals.marks ∷ part.marks ∷ shows missing ∷ [])) (quiet_word word) why
      (fails_front (name_at 0 head.name ∷ []) (rest_words head line) (shows faults) rest
      (rest_many outer start formals.inner head line missing) why h)

  module _ (none : faults ≡ []) where
    still_name : IsQuiet (name_at 0 head.name ∷ []) (shows faults) false
    still_name = record { still = (none, tt); behind = refl }

    pub rest_stops : (why : Stop) → FailsBy (rest_words head line) rest why
        → FailsBy (parts_words word head line) (first_heading outer head).marks why
    rest_stops why h =
        fails_behind (word ∷ []) (name_at 0 head.name ∷ rest_words head line) quiet
        (joined (shows faults ∷ formals.marks ∷ part.marks ∷ shows missing ∷ [])) (quiet_word word) why
        (fails_behind (name_at 0 head.name ∷ []) (rest_words head line) (shows faults) rest still_name why h)

    pub head_quiet : IsQuiet (rest_words head line) rest false
        → IsQuiet (parts_words word head line) (first_heading outer head).marks false
    head_quiet h =
        quiet_behind (word ∷ []) (name_at 0 head.name ∷ rest_words head line) quiet
        (joined (shows faults ∷ formals.marks ∷ part.marks ∷ shows missing ∷ [])) false (quiet_word word)
        (quiet_behind (name_at 0 head.name ∷ []) (rest_words head line) (shows faults) rest false still_name h)

-- the first of two parts that show nothing
pub nothing_front : {A : Type 0} (front back : List A) → front ++ back ≡ [] → front ≡ []
nothing_front [] back is = refl
nothing_front (first ∷ front) back is = absurd (cc)

-- the scopes behind a first heading
module _ (old now new : CodeScopes) (h : IsReady old) (head : CodeParts) (inner : CodeInner) (number : ℕ)
    (num : number ≡ length (outer_view old).routines) (found told : Option CodePasType) where
  abbrev outer : Outer
  outer = outer_view old

  abbrev parts : HeadingParts
  parts = parts_in old.spellings.now head

  abbrev name : List ℕ
  name = spelled_in old.spellings.now head.name.span

  abbrev formals_from : ℕ → Formal
  formals_from n = formals_of outer (new_inner n []) parts.parameters

  abbrev part_from : ℕ → Judged Made
  part_from n = result_part outer (formals_from n).inner parts.result

  abbrev pub RestPasses : ℕ → Type 0
  RestPasses n =
      PassesRest (rest_words parts head.end) (formals_from n) parts.result (part_from n)
      (missing_result parts.sort parts.result) (made_view old) now found

  abbrev named : Named
  named = names name (routine number)

  abbrev known : CodeRoutine
  known = record {
    heading = record { name = head.name.span; result = told; parameters = inner.variables };
    awaited = Some inner;
  }

  abbrev behind : CodeScopes
  behind = record old { inner = None; names = old.names ++ named ∷ []; routines = new.routines }

  abbrev stage : HeadingStage
  stage = first_heading outer parts

  module _ (none : name_faults outer name ≡ []) (told_is : option_map type_view told
      ≡ result_told parts.sort (option_map type_view found))
      (routines_are : new.routines.items ≡ old.routines.items ++ known ∷ [])
      (p : RestPasses (length outer.routines)) (inner_is : inner_view old.spellings.now inner
      ≡ (formals_from (length outer.routines)).inner)
      (measured : IsMeasured outer.types old.spellings.now inner) where
    abbrev count : ℕ
    count = length outer.routines

    abbrev variables : List Variable
    variables = map (variable_view old.spellings.now) inner.variables

    variables_are : variables ≡ (formals_from count).inner.variables
    variables_are = ap (λ (one : Inner). one.variables) inner_is

    abbrev heading : Heading
    heading = record {
      name = name;
      result = result_told parts.sort (option_map type_view found);
      parameters = (formals_from count).inner.variables;
    }

    heading_is : heading_by name parts.sort (formals_from count).is_clear (formals_from count).inner.variables
        (part_from count).value
        ≡ Some heading
    heading_is =
        ap (λ (is_clear : Bool). heading_by name parts.sort is_clear (formals_from count).inner.variables
        (part_from count).value) p.is_clear
        ∙ heading_told name parts.sort (formals_from count).inner.variables (part_from count).value parts.result
        (option_map type_view found) outer.types p.nothing_missing (some_seen type_view found ∙ p.is_given)
        (p.result_is ∙ made_seen found)
      where
        made_seen : (found : Option CodePasType)
            → option_map (made_view old) found
            ≡ option_map (λ (type : PasType). record { type = type; table = outer.types }) (option_map type_view found)
        made_seen None = refl
        made_seen (Some found) = refl

    routines_seen : map (routine_view old.spellings.now) new.routines.items
        ≡ outer.routines ++ record { heading = heading; awaits_body = true } ∷ []
    routines_seen =
        ap (map (routine_view old.spellings.now)) routines_are
        ∙ (map-append (routine_view old.spellings.now) old.routines.items (known ∷ [])
        ∙ ap (λ (one : Heading). outer.routines ++ record { heading = one; awaits_body = true } ∷ [])
        (ap (λ (result : Option PasType). record { name = name; result = result; parameters = variables }) told_is
        ∙ ap (λ (all : List Variable). record {
          name = name;
          result = result_told parts.sort (option_map type_view found);
          parameters = all;
        }) variables_are))

    outer_seen : outer_view behind ≡ stage.outer
    outer_seen =
        ap (λ (all : List KnownRoutine). record outer { names = outer.names ++ named ∷ []; routines = all })
        routines_seen
        ∙ (ap (λ (n : ℕ). record outer {
          names = outer.names ++ names name (routine n) ∷ [];
          routines = outer.routines ++ record { heading = heading; awaits_body = true } ∷ [];
        }) num
        ∙ ap (λ (one : Option Heading). with_routine name one outer) (sym heading_is))

    keeps : Keeps (new_inner count []) (formals_from count).inner (formals_from count).is_clear
    keeps = formals_keep outer count parts.parameters

    waits_as : IsWaiting outer.types old.spellings.now (0 + length old.routines.items) known.heading inner
    waits_as = record {
      number_is = ap (λ (one : Inner). one.number) inner_is
          ∙ (keeps.number_is ∙ (length-map old.routines.items (routine_view old.spellings.now) ∙ omega arith));
      labels_are = ap (λ (one : Inner). one.labels) inner_is ∙ keeps.labels_are;
      variables_are = refl;
      names_are = ap (λ (one : Inner). one.names) inner_is
          ∙ (keeps.names_are p.is_clear ∙ ap (named_slots local 0) (sym variables_are));
      measured = measured;
    }

    clear_there : IsClear (program_scopes outer)
    clear_there = subst IsClear (view_is outer old h.alone refl) h.clear

    ready : IsReady behind
    ready = record {
      alone = refl;
      clear = clear_push outer named clear_there (λ is. cc);
      lawful =
          let counted : IsCounted (record outer { names = outer.names ++ named ∷ [] }) old.cells =
          counted_name outer old.cells named tt tt h.lawful.counted_is in
          record {
            counted_is = record {
              names = counted.names;
              slots = counted.slots;
              files = counted.files;
              globals = counted.globals;
              cells_are = counted.cells_are;
            };
            waiting = subst (AreWaiting outer.types old.spellings.now 0) (sym routines_are)
                (waiting_push outer.types old.spellings.now 0 old.routines.items known h.lawful.waiting waits_as);
          };
    }

    waits_there : IsSome (awaited_at new.routines.items number)
    waits_there =
        subst (λ (all : List CodeRoutine). IsSome (awaited_at all number)) (sym routines_are)
        (subst (λ (n : ℕ). IsSome (awaited_at (old.routines.items ++ known ∷ []) n))
        (sym (num ∙ length-map old.routines.items (routine_view old.spellings.now)))
        (subst IsSome (sym (last_awaited old.routines.items known)) refl))

    pub first_heads : (word : Word) → new ≡ behind → Heads (parts_words word parts head.end) stage new number
    first_heads word new_is =
        subst (λ (s : CodeScopes). Heads (parts_words word parts head.end) stage s number) (sym new_is) (record {
          still = head_quiet outer word parts head.end none p.still;
          number_is = sym num;
          ready = ready;
          outer_is = outer_seen;
          waits = waits_there;
        })

-- what stands behind the name, over a scope without names
abbrev pub HeadingAt : CodeScopes → CodeParts → CodeScopes → Result (Option CodePasType) Stop → Inner → Type 0
HeadingAt old head now result seen =
    PassesHeading (rest_words (parts_in old.spellings.now head) head.end)
    (formals_of (outer_view old) seen (parts_in old.spellings.now head).parameters)
    (parts_in old.spellings.now head).result
    (result_part (outer_view old) (formals_of (outer_view old) seen (parts_in old.spellings.now head).parameters).inner
    (parts_in old.spellings.now head).result)
    (missing_result (sort_view head.sort) (parts_in old.spellings.now head).result) (made_view old) now result

pub heading_at : (old : CodeScopes) (head : CodeParts) (now : CodeScopes) (result : Result (Option CodePasType) Stop)
    (number : ℕ) (fresh : CodeInner) → fresh ≡ empty_inner number → number ≡ length (outer_view old).routines
    → IsReady old
    → ((inner : CodeInner) → IsWithin inner (record old { inner = Some fresh })
    → HeadingAt old head now result (inner_view old.spellings.now inner))
    → HeadingAt old head now result (new_inner (length (outer_view old).routines) [])
heading_at old head now result number fresh is num h passes =
    subst (λ (n : ℕ). HeadingAt old head now result (new_inner n [])) num
    (subst (λ (one : CodeInner). HeadingAt old head now result (inner_view old.spellings.now one)) is
    (passes fresh (subst (λ (one : CodeInner). IsWithin one (record old { inner = Some one })) (sym is)
    (empty_within old number h))))

pub first_done : (old now new : CodeScopes) (head : CodeParts) (number : ℕ) (found told : Option CodePasType)
    → IsReady old → number ≡ length (outer_view old).routines
    → name_faults (outer_view old) (spelled_in old.spellings.now head.name.span) ≡ []
    → option_map type_view told ≡ result_told (sort_view head.sort) (option_map type_view found)
    → HeadingAt old head now (Ok found) (new_inner (length (outer_view old).routines) [])
    → now ≡ record old { inner = now.inner }
    → new ≡ record now { names = new.names; routines = new.routines; inner = new.inner }
    → ((inner : CodeInner) → now.inner ≡ Some inner → AddsRoutine now new inner head.name number told)
    → (word : Word)
    → Heads (parts_words word (parts_in old.spellings.now head) head.end)
    (first_heading (outer_view old) (parts_in old.spellings.now head)) new number
first_done old now new head number found told h num none told_is p kept kept_on adds word =
    let inner : CodeInner = p.leaves.inner in
    let added : AddsRoutine now new inner head.name number told = adds inner p.leaves.within.inside in
    let name : List ℕ = spelled_in old.spellings.now head.name.span in
    let last : Named = names name (routine number) in
    let free : contains (names_of old.names) name ≡ false =
    free_in (outer_view old) name (nothing_front _ _ none) in
    let named : new.names ≡ old.names ++ last ∷ [] =
    added.names_are
    ∙ (ap (λ (s : CodeScopes). with_new s.names (spelled_in s.spellings.now head.name.span) (routine number)) kept
    ∙ ap (λ (b : Bool). if b then old.names else old.names ++ last ∷ []) free) in
    first_heads old now new h head inner number num found told none told_is
    (added.routines_are
    ∙ ap (λ (s : CodeScopes). s.routines.items
    ++ record {
      heading = record { name = head.name.span; result = told; parameters = inner.variables };
      awaited = Some inner;
    } ∷ []) kept)
    p
    (subst (λ (s : CodeScopes). inner_view s.spellings.now inner
    ≡ (formals_of (outer_view old) (new_inner (length (outer_view old).routines) [])
    (parts_in old.spellings.now head).parameters).inner) kept p.leaves.inner_is)
    (subst (λ (s : CodeScopes). IsMeasured (outer_view s).types s.spellings.now inner) kept p.leaves.within.measured)
    word
    (kept_on
    ∙ (ap (λ (s : CodeScopes). record s { names = new.names; routines = new.routines; inner = new.inner }) kept
    ∙ (ap (λ (one : Option CodeInner). record old { inner = one; names = new.names; routines = new.routines })
    added.inner_is
    ∙ ap (λ (all : List Named). record old { inner = None; names = all; routines = new.routines }) named)))
