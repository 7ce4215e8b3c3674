-- Routines that were gone through one after another.
use Rattle.std.proofs.Common.{◌≡◌, refl, sym, ap, subst, ◌∙◌, ℕ, List, [], ◌∷◌, ◌++◌, map, length}
use Rattle.std.proofs.Common.{Option, Some, None, Result, Ok, Err}
use Rattle.std.specs.Prelude.{flat_map, option_to_list, option_map}
use Rattle.std.proofs.lemmas.List.{append_assoc, append-nil, map-append}
use Rattle.wb_base.specs.declared.faults.Fault.{Fault}
use Rattle.pas_syntax.specs.Tree.{Routine}
use Rattle.pas_syntax.specs.Words.{Word, routine_words}
use Rattle.pas_typed.specs.declared.typed.Body.{Body as CodeBody}
use Rattle.pas_typed.specs.Types.{Table}
use Rattle.pas_typed.specs.Typed as typed
use Rattle.pas_typed.specs.TypedViews.{body_view}
use Rattle.pas_scopes.specs.declared.scopes.Scopes.{Scopes as CodeScopes}
use Rattle.pas_scopes.specs.declared.stop.Stop.{Stop}
use Rattle.pas_scopes.specs.declared.stop.Stop.TheVariants as stop
use Rattle.pas_rules.specs.Marks.{Marks, no_token, joined, both}
use Rattle.pas_rules.specs.Scopes.{Named, Outer, unclear, entity_in}
use Rattle.pas_rules.specs.Declarations.{program_scopes}
use Rattle.pas_rules.specs.Routines.{RoutineStage, routine_of, routines_of}
use Rattle.pas_rules.specs.Scopes.{with_new}
use Rattle.pas_scopes.specs.ScopeViews.{outer_view, IsClear}
use Rattle.pas_scopes.specs.DeclaredSoFar.{IsDeclared, IsAlike, IsCounted, AreFiled, Notes}
use Rattle.pas_scopes.specs.Locals.{AreWaiting}
use Rattle.pas_types.specs.inner.RoutineAnswers.{IsReady, GoesThrough, IsBehind}
use Rattle.pas_types.specs.inner.BlockAnswers.{IsRoutine}
use Rattle.pas_types.specs.inner.RoutineStands.{masked, IsHeldIf, IsNoted, StandsFor, IsNamed, Steps}
use Rattle.pas_rules.proofs.AsMany.{all}
use Rattle.pas_rules.proofs.RoutinesAsMany.{routines_many}
use Rattle.pas_scopes.proofs.PartLemmas.{alone}
use Rattle.pas_scopes.proofs.SettleLemmas.{nothing_shown}
use Rattle.pas_scopes.proofs.DeclaredLemmas.{notes_behind, notes_quiet}
use Rattle.pas_scopes.proofs.ConstantRowLemmas.{view_is}
use Rattle.pas_types.proofs.FollowLemmas.{noted_serves, held_in}
use Rattle.pas_types.proofs.FollowRoutines.{noted_next, noted_first, head_name}

-- one routine, where no fault is noted
module _ (found : Routine) (old new : CodeScopes) where
  abbrev pub Stepped : Option Fault → Option Fault → List CodeBody → Type 0
  Stepped a b bodies = Steps (routine_words found) (λ outer. routine_of outer found) old a new b bodies

  abbrev pub Answer : Result (Option CodeBody) Stop → Type 0
  Answer result = IsReady old → IsRoutine (routine_words found) (routine_of (outer_view old) found)
      (body_view old.spellings.now) new result

  pub goes_on : (bodies : Option CodeBody) → Answer (Ok bodies) → Stepped None None (option_to_list bodies)
  goes_on bodies h = record {
    stands = λ outer is.
        subst (λ (one : Outer). StandsFor (routine_of one found).outer new None) is.1
        ((h is.0).ready, (h is.0).outer_is);
    notes = λ outer is.
        subst (λ (one : Outer). Notes (routine_words found) (routine_of one found).marks None None) is.1 (h is.0).still;
    bodies_are = λ outer is none.
        subst (λ (one : Outer). (routine_of one found).bodies
        ≡ Some (map (body_view old.spellings.now) (option_to_list bodies))) is.1 (h is.0).bodies_are;
  }

  -- the first fault
  pub first_shown : (fault : Fault) (now : CodeScopes)
      → (IsReady old → IsRoutine (routine_words found) (routine_of (outer_view old) found)
      (body_view old.spellings.now) now (Err (stop.Fault fault)))
      → IsNamed old.names (head_name found) now.names → new.names ≡ with_new now.names (head_name found) unclear
      → (outer_view new).types ≡ (outer_view old).types → new.cells ≡ old.cells
      → Stepped None (Some fault) []
  first_shown fault now h named names_are types_are cells_are = record {
    stands = λ outer is.
        noted_first outer found old new is.0 is.1 named.number
        (names_are ∙ ap (λ (all : List Named). with_new all (head_name found) unclear) named.is) types_are cells_are;
    notes = λ outer is.
        subst (λ (one : Outer). Notes (routine_words found) (routine_of one found).marks None (Some fault)) is.1
        (h is.0);
    bodies_are = λ outer is none. absurd (cc);
  }

  -- behind it
  pub name_alone : (fault : Fault) → new.names ≡ with_new old.names (head_name found) unclear
      → (outer_view new).types ≡ (outer_view old).types → new.cells ≡ old.cells
      → Stepped (Some fault) (Some fault) []
  name_alone fault names_are types_are cells_are = record {
    stands = λ outer is. noted_next outer found old new is names_are types_are cells_are;
    notes = λ outer is. refl;
    bodies_are = λ outer is none. absurd (cc);
  }

-- routines one behind another
abbrev pub all_words : List Routine → List Word
all_words routines = flat_map routine_words routines

abbrev pub Through : List Routine → CodeScopes → Option Fault → CodeScopes → Option Fault → List CodeBody → Type 0
Through routines old a new b bodies =
    Steps (all_words routines) (λ outer. routines_of outer routines) old a new b bodies

pub none_through : (scopes : CodeScopes) (noted : Option Fault) → Through [] scopes noted scopes noted []
none_through scopes noted = record {
  stands = λ outer h. h;
  notes = λ outer h. notes_quiet [] no_token noted nothing_shown;
  bodies_are = λ outer h none. refl;
}

-- a fault that is noted stays
noted_stays : (words : List Word) (marks : Marks) (a b : Option Fault) → Notes words marks a b → b ≡ None → a ≡ None
noted_stays words marks None b h none = refl
noted_stays words marks (Some fault) b h none = absurd (cc)

both_bodies : (first second : Option (List typed.Body)) (view : CodeBody → typed.Body) (one more : List CodeBody)
    → first ≡ Some (map view one) → second ≡ Some (map view more)
    → both ◌++◌ first second ≡ Some (map view (one ++ more))
both_bodies first second view one more is also =
    ap (λ (found : Option (List typed.Body)). both ◌++◌ found second) is
    ∙ (ap (λ (found : Option (List typed.Body)). both ◌++◌ (Some (map view one)) found) also
    ∙ ap (λ (all : List typed.Body). Some all) (sym (map-append view one more)))

pub first_and : (first : Routine) (rest : List Routine) (old now new : CodeScopes) (a b c : Option Fault)
    (one more : List CodeBody) → now.spellings.now ≡ old.spellings.now
    → Stepped first old now a b one → Through rest now b new c more
    → Through (first ∷ rest) old a new c (one ++ more)
first_and first rest old now new a b c one more seen h k = record {
  stands = λ outer is. k.stands (routine_of outer first).outer (h.stands outer is);
  notes = λ outer is.
      let behind : RoutineStage = routines_of (routine_of outer first).outer rest in
      notes_behind (routine_words first) (all_words rest) (routine_of outer first).marks (joined (behind.marks ∷ []))
      (all behind.marks (routines_many (routine_of outer first).outer rest)) a b c (h.notes outer is)
      (subst (λ (marks : Marks). Notes (all_words rest) marks b c) (sym (alone behind.marks))
      (k.notes (routine_of outer first).outer (h.stands outer is)));
  bodies_are = λ outer is none.
      let behind : RoutineStage = routines_of (routine_of outer first).outer rest in
      let still : b ≡ None =
      noted_stays (all_words rest) behind.marks b c (k.notes (routine_of outer first).outer (h.stands outer is)) none in
      both_bodies (routine_of outer first).bodies behind.bodies (body_view old.spellings.now) one more
      (h.bodies_are outer is still)
      (subst (λ (s : List ℕ). behind.bodies ≡ Some (map (body_view s) more)) seen
      (k.bodies_are (routine_of outer first).outer (h.stands outer is) none));
}

-- whatever routines stand behind these, they are behind them
abbrev pub Leads : List Routine → CodeScopes → Option Fault → CodeScopes → Option Fault → List CodeBody → Type 0
Leads done old a now b bodies =
    (rest : List Routine) (new : CodeScopes) (c : Option Fault) (more : List CodeBody)
    → Through rest now b new c more → Through (done ++ rest) old a new c (bodies ++ more)

pub leads_none : (scopes : CodeScopes) (noted : Option Fault) → Leads [] scopes noted scopes noted []
leads_none scopes noted rest new c more k = k

pub leads_more : (done : List Routine) (next : Routine) (old now later : CodeScopes) (a b c : Option Fault)
    (bodies one : List CodeBody) → later.spellings.now ≡ now.spellings.now
    → Leads done old a now b bodies → Stepped next now later b c one
    → Leads (done ++ next ∷ []) old a later c (bodies ++ one)
leads_more done next old now later a b c bodies one seen h step rest new d more k =
    subst (λ (all : List Routine). Through all old a new d ((bodies ++ one) ++ more))
    (sym (append_assoc done (next ∷ []) rest))
    (subst (Through (done ++ next ∷ rest) old a new d) (sym (append_assoc bodies one more))
    (h (next ∷ rest) new d (one ++ more) (first_and next rest now later new b c d one more seen step k)))

pub leads_all : (done : List Routine) (old now : CodeScopes) (a b : Option Fault) (bodies : List CodeBody)
    → Leads done old a now b bodies → Through done old a now b bodies
leads_all done old now a b bodies h =
    subst (λ (all : List Routine). Through all old a now b bodies) (append-nil done)
    (subst (Through (done ++ []) old a now b) (append-nil bodies) (h [] now b [] (none_through now b)))

-- what is known of scopes before all routines, and behind them
before_noted : (outer : Outer) (scopes : CodeScopes) (fault : Fault) → IsDeclared outer scopes (Some fault)
    → IsNoted outer scopes
before_noted outer scopes fault h =
    let alike : IsAlike (outer_view scopes) outer = h.outer_is in
    let types_are : (outer_view scopes).types ≡ outer.types = ap (λ (one : Outer). one.types) alike.others in
    record {
      more = [];
      table_is = sym types_are ∙ sym (append-nil (outer_view scopes).types);
      alike = λ name. ap (option_map masked) (alike.names name);
      held = λ name. subst (λ (n : ℕ). IsHeldIf n (entity_in scopes.names name))
          (sym (ap length types_are))
          (subst (IsHeldIf (length outer.types)) (sym (alike.names name))
          (held_in (length outer.types) outer.names name h.is_counted.slots));
      filed = subst (λ (table : Table). AreFiled (length table) table) (sym types_are) h.is_counted.files;
      counted_is = h.is_counted;
    }

stands_before : (outer : Outer) (scopes : CodeScopes) (noted : Option Fault) → scopes.routines.items ≡ []
    → IsDeclared outer scopes noted → StandsFor outer scopes noted
stands_before outer scopes None none h =
    let is : (outer_view scopes ≡ outer) × IsClear (program_scopes outer) = h.outer_is in (
      record {
        alone = h.alone;
        clear = subst IsClear (sym (view_is outer scopes h.alone is.0)) is.1;
        lawful = record {
          counted_is = subst (λ (one : Outer). IsCounted one scopes.cells) (sym is.0) h.is_counted;
          waiting = subst (AreWaiting (outer_view scopes).types scopes.spellings.now 0) (sym none) tt;
        };
      },
      is.0,
    )
stands_before outer scopes (Some fault) none h = before_noted outer scopes fault h

stands_behind : (outer : Outer) (scopes : CodeScopes) (noted : Option Fault) → StandsFor outer scopes noted
    → IsBehind outer scopes noted
stands_behind outer scopes None h = record {
  alone = h.0.alone;
  outer_is = (h.1, subst IsClear (view_is outer scopes h.0.alone h.1) h.0.clear);
  is_counted = subst (λ (one : Outer). IsCounted one scopes.cells) h.1 h.0.lawful.counted_is;
}
stands_behind outer scopes (Some fault) h = noted_serves outer scopes h

pub goes_through : (routines : List Routine) (old : CodeScopes) (a : Option Fault) (new : CodeScopes)
    (b : Option Fault) (bodies : List CodeBody) → old.routines.items ≡ [] → Through routines old a new b bodies
    → GoesThrough (all_words routines) (λ outer. routines_of outer routines) old a new b bodies
goes_through routines old a new b bodies none h = record {
  behind = λ outer is.
      stands_behind (routines_of outer routines).outer new b (h.stands outer (stands_before outer old a none is));
  notes = λ outer is. h.notes outer (stands_before outer old a none is);
  bodies_are = λ outer is none_noted. h.bodies_are outer (stands_before outer old a none is) none_noted;
}
