-- Behind routines that show no fault each routine has one body, or waits for it.
use Rattle.std.proofs.Common.{◌≡◌, ◌≢◌, ◌⊎◌, inl, inr, refl, sym, ap, subst, ◌∙◌, ℕ, zero, suc, ◌<◌, ◌==◌}
use Rattle.std.proofs.Common.{◌&&◌, arith, Bool, true, false, List, [], ◌∷◌, ◌++◌, length, map, append_assoc}
use Rattle.std.proofs.Common.{append-nil}
use Rattle.std.proofs.Common.{Option, Some, None, IfSome, IsSome, is_some, find, eq-eqb, ne_eqb, true≢false}
use Rattle.std.specs.Prelude.{⊤, not, slice_get, option_and_then, flat_map, if◌then◌else◌}
use Rattle.std.specs.List.{IsDistinct}
use Rattle.std.proofs.lemmas.List.{length-append, map-append}
use Rattle.std.proofs.lemmas.Option.{none-some, same_Some}
use Rattle.pas_syntax.specs.Tree as tree
use Rattle.pas_syntax.specs.Tree.{Routine}
use Rattle.pas_syntax.specs.Words.{words_if, parameters_words, result_words, heading_words, routine_words}
use Rattle.wb_base.specs.declared.faults.TheConstants.{WRONG_TYPE}
use Rattle.pas_tokens.specs.Cutting.{wrong}
use Rattle.pas_typed.specs.Typed as typed
use Rattle.pas_typed.specs.Typed.{Body, Heading}
use Rattle.pas_rules.specs.Marks.{Marks, quiet, shows, unless, Judged, known, both}
use Rattle.pas_rules.specs.Scopes as scope
use Rattle.pas_rules.specs.Scopes.{Entity, KnownRoutine, Outer, Inner, entity_in}
use Rattle.pas_rules.specs.Check as check
use Rattle.pas_rules.specs.Labels.{labels_of_list}
use Rattle.pas_rules.specs.Statements.{statements_of}
use Rattle.pas_rules.specs.Declarations.{declared_labels, label_marks, InnerStage, routine_scopes, local_rows}
use Rattle.pas_rules.specs.Routines as spec
use Rattle.pas_rules.specs.Routines.{Sort, HeadingParts, HeadingStage, RoutineStage}
use Rattle.pas_rules.proofs.CleanLemmas.{Each, each_then, each_append, IsClean, joined_clean}
use Rattle.pas_rules.proofs.HeldWords.{AreHeld, held_before, held_behind}
use Rattle.pas_rules.proofs.LawfulDeclarations.{IsLawfulOuter}
use Rattle.pas_rules.proofs.LawfulRoutines.{LeavesRoutine, first_made, heading_parts, routine_lawful}

-- a number is among numbers, and numbers that are all others
abbrev pub IsIn : ℕ → List ℕ → Type 0
IsIn n [] = ⊥
IsIn n (m ∷ more) = (m ≡ n) ⊎ IsIn n more

abbrev pub AreOthers : ℕ → List ℕ → Type 0
AreOthers n numbers = Each (λ m. m ≢ n) numbers

abbrev pub AreOnce : List ℕ → Type 0
AreOnce [] = ⊤
AreOnce (n ∷ more) = Each (λ m. n ≢ m) more × AreOnce more

in_more : (n : ℕ) (numbers more : List ℕ) → IsIn n numbers → IsIn n (numbers ++ more)
in_more n [] more h = absurd h
in_more n (m ∷ numbers) more (inl same) = inl same
in_more n (m ∷ numbers) more (inr there) = inr (in_more n numbers more there)

in_last : (n : ℕ) (numbers : List ℕ) → IsIn n (numbers ++ n ∷ [])
in_last n [] = inl refl
in_last n (m ∷ numbers) = inr (in_last n numbers)

once_last : (n : ℕ) (numbers : List ℕ) → AreOthers n numbers → AreOnce numbers → AreOnce (numbers ++ n ∷ [])
once_last n [] others once = (tt, tt)
once_last n (m ∷ numbers) others once =
    (each_append (λ other. m ≢ other) numbers (n ∷ []) once.0 (others.0, tt), once_last n numbers others.1 once.1)

-- a routine's body has come, or not
abbrev pub Stands : Bool → ℕ → List ℕ → Type 0
Stands true n bodies = AreOthers n bodies
Stands false n bodies = IsIn n bodies

pub record Bodied (routines : List KnownRoutine) (bodies : List ℕ) : Type 0 where
  pub within : Each (λ n. n < length routines) bodies
  pub once : AreOnce bodies
  pub all : (n : ℕ) (found : KnownRoutine) → slice_get routines n ≡ Some found → Stands found.awaits_body n bodies

-- a routine more, whose body is still to come
added_at : (routines : List KnownRoutine) (last : KnownRoutine) (n : ℕ) (found : KnownRoutine)
    → slice_get (routines ++ last ∷ []) n ≡ Some found
    → (slice_get routines n ≡ Some found) ⊎ ((n ≡ length routines) × (last ≡ found))
added_at [] last zero found is = inr (refl, same_Some last found is)
added_at [] last (suc n) found is = absurd (none-some found is)
added_at (first ∷ routines) last zero found is = inl is
added_at (first ∷ routines) last (suc n) found is = further (added_at routines last n found is)
  where
    further : (slice_get routines n ≡ Some found) ⊎ ((n ≡ length routines) × (last ≡ found))
        → (slice_get routines n ≡ Some found) ⊎ ((suc n ≡ suc (length routines)) × (last ≡ found))
    further (inl there) = inl there
    further (inr at) = inr (ap suc at.0, at.1)

others_below : (count : ℕ) (numbers : List ℕ) → Each (λ n. n < count) numbers → AreOthers count numbers
others_below count [] h = tt
others_below count (n ∷ numbers) h = (λ same. absurd (omega (arith, h.0, same)), others_below count numbers h.1)

pub added_bodied : (routines : List KnownRoutine) (heading : Heading) (bodies : List ℕ) → Bodied routines bodies
    → Bodied (routines ++ record { heading = heading; awaits_body = true } ∷ []) bodies
added_bodied routines heading bodies h = record {
  within = each_then (λ n. n < length routines) (λ n. n < length (routines ++ last ∷ [])) bodies
      (λ n below. omega (arith, below, length-append routines (last ∷ []))) h.within;
  once = h.once;
  all = λ n found is. by_place n found (added_at routines last n found is);
}
  where
    last : KnownRoutine
    last = record { heading = heading; awaits_body = true }

    by_place : (n : ℕ) (found : KnownRoutine)
        → (slice_get routines n ≡ Some found) ⊎ ((n ≡ length routines) × (last ≡ found))
        → Stands found.awaits_body n bodies
    by_place n found (inl there) = h.all n found there
    by_place n found (inr at) =
        subst (λ (known : KnownRoutine). Stands known.awaits_body n bodies) at.1
        (subst (λ count. AreOthers count bodies) (sym at.0) (others_below (length routines) bodies h.within))

-- the body of a routine comes
body_at : (number n : ℕ) (routines : List KnownRoutine) (found : KnownRoutine)
    → slice_get (spec.with_body number routines) n ≡ Some found
    → ((number ≡ n) × (found.awaits_body ≡ false)) ⊎ ((number ≢ n) × (slice_get routines n ≡ Some found))
body_at number n [] found is = absurd (none-some found is)
body_at zero zero (first ∷ routines) found is =
    inl (refl, sym (ap (λ (known : KnownRoutine). known.awaits_body) (same_Some _ found is)))
body_at zero (suc n) (first ∷ routines) found is = inr (λ same. absurd (omega (arith, same)), is)
body_at (suc number) zero (first ∷ routines) found is = inr (λ same. absurd (omega (arith, same)), is)
body_at (suc number) (suc n) (first ∷ routines) found is = further (body_at number n routines found is)
  where
    further : ((number ≡ n) × (found.awaits_body ≡ false)) ⊎ ((number ≢ n) × (slice_get routines n ≡ Some found))
        → ((suc number ≡ suc n) × (found.awaits_body ≡ false))
        ⊎ ((suc number ≢ suc n) × (slice_get routines n ≡ Some found))
    further (inl at) = inl (ap suc at.0, at.1)
    further (inr other) = inr (λ same. other.0 (omega (arith, same)), other.1)

body_length : (number : ℕ) (routines : List KnownRoutine)
    → length (spec.with_body number routines) ≡ length routines
body_length number [] = refl
body_length zero (found ∷ routines) = refl
body_length (suc number) (found ∷ routines) = ap suc (body_length number routines)

below_length : (routines : List KnownRoutine) (n : ℕ) (found : KnownRoutine) → slice_get routines n ≡ Some found
    → n < length routines
below_length [] n found is = absurd (none-some found is)
below_length (first ∷ routines) zero found is = omega arith
below_length (first ∷ routines) (suc n) found is = omega (arith, below_length routines n found is)

stands_more : (awaits : Bool) (n number : ℕ) (bodies : List ℕ) → number ≢ n → Stands awaits n bodies
    → Stands awaits n (bodies ++ number ∷ [])
stands_more true n number bodies other h = each_append (λ m. m ≢ n) bodies (number ∷ []) h (other, tt)
stands_more false n number bodies other h = in_more n bodies (number ∷ []) h

pub body_bodied : (routines : List KnownRoutine) (number : ℕ) (bodies : List ℕ) (known : KnownRoutine)
    → slice_get routines number ≡ Some known → known.awaits_body ≡ true → Bodied routines bodies
    → Bodied (spec.with_body number routines) (bodies ++ number ∷ [])
body_bodied routines number bodies known there awaits h = record {
  within = subst (λ count. Each (λ n. n < count) (bodies ++ number ∷ [])) (sym (body_length number routines))
      (each_append (λ n. n < length routines) bodies (number ∷ []) h.within
      (below_length routines number known there, tt));
  once = once_last number bodies
      (subst (λ awaits. Stands awaits number bodies) awaits (h.all number known there)) h.once;
  all = λ n found is. by_place n found (body_at number n routines found is);
}
  where
    by_place : (n : ℕ) (found : KnownRoutine)
        → ((number ≡ n) × (found.awaits_body ≡ false)) ⊎ ((number ≢ n) × (slice_get routines n ≡ Some found))
        → Stands found.awaits_body n (bodies ++ number ∷ [])
    by_place n found (inl at) =
        subst (λ awaits. Stands awaits n (bodies ++ number ∷ [])) (sym at.1)
        (subst (λ m. IsIn m (bodies ++ number ∷ [])) at.0 (in_last number bodies))
    by_place n found (inr other) = stands_more found.awaits_body n number bodies other.0 (h.all n found other.1)

-- what the program must have: one body for each routine
find_body : (bodies : List Body) (n : ℕ) → IsIn n (map (λ body. body.routine) bodies)
    → IsSome (find (λ body. body.routine == n) bodies)
find_body [] n h = absurd h
find_body (first ∷ bodies) n h = by_test (λ there. find_body bodies n there) (first.routine == n) refl h
  where
    by_test : (IsIn n (map (λ body. body.routine) bodies) → IsSome (find (λ body. body.routine == n) bodies))
        → (test : Bool) → (first.routine == n) ≡ test
        → (first.routine ≡ n) ⊎ IsIn n (map (λ body. body.routine) bodies)
        → IsSome (if test then Some first else find (λ body. body.routine == n) bodies)
    by_test further true is there = refl
    by_test further false is (inl same) = absurd (true≢false (sym (eq-eqb first.routine n same) ∙ is))
    by_test further false is (inr there) = further there

pub all_once : (numbers : List ℕ) → AreOnce numbers → IsDistinct ◌==◌ numbers
unfolding IsDistinct
all_once [] once = tt
all_once (n ∷ more) once =
    (each_then (λ m. n ≢ m) (λ m. (n == m) ≡ false) more (λ m other. ne_eqb n m other) once.0, all_once more once.1)

have_all : (routines : List KnownRoutine) (n : ℕ) (found : KnownRoutine) → check.have_bodies routines ≡ true
    → slice_get routines n ≡ Some found → found.awaits_body ≡ false
have_all [] n found have is = absurd (none-some found is)
have_all (first ∷ routines) zero found have is =
    sym (ap (λ (known : KnownRoutine). known.awaits_body) (same_Some first found is))
    ∙ not_awaited first.awaits_body (check.have_bodies routines) have
  where
    not_awaited : (b c : Bool) → (not b && c) ≡ true → b ≡ false
    not_awaited true c h = absurd (cc)
    not_awaited false c h = refl
have_all (first ∷ routines) (suc n) found have is =
    have_all routines n found (rest first.awaits_body (check.have_bodies routines) have) is
  where
    rest : (b c : Bool) → (not b && c) ≡ true → c ≡ true
    rest true c h = absurd (cc)
    rest false c h = h

known_at : (routines : List KnownRoutine) (n : ℕ) → n < length routines
    → (found : KnownRoutine) × (slice_get routines n ≡ Some found)
known_at [] n less = absurd (omega (arith, less))
known_at (first ∷ routines) zero less = (first, refl)
known_at (first ∷ routines) (suc n) less = known_at routines n (omega (arith, less))

pub bodies_there : (routines : List KnownRoutine) (bodies : List Body)
    → Bodied routines (map (λ body. body.routine) bodies) → check.have_bodies routines ≡ true → (n : ℕ)
    → n < length routines → IsSome (find (λ body. body.routine == n) bodies)
bodies_there routines bodies h have n less =
    let at = known_at routines n less in
    find_body bodies n
    (subst (λ awaits. Stands awaits n (map (λ body. body.routine) bodies)) (have_all routines n at.0 have at.1)
    (h.all n at.0 at.1))

-- the numbers of the bodies that a stage gives
abbrev pub numbers_of : List Body → List ℕ
numbers_of bodies = map (λ body. body.routine) bodies

-- behind bodies that were there
abbrev pub LeavesBodied : List ℕ → RoutineStage → Type 0
LeavesBodied before stage =
    IfSome stage.bodies (λ bodies. Bodied stage.outer.routines (before ++ numbers_of bodies))

-- a heading, behind which the routine with its number waits for its body
pub record Waits (bodies : List ℕ) (stage : HeadingStage) : Type 0 where
  pub bodied : Bodied stage.outer.routines bodies
  pub found : KnownRoutine
  pub there : slice_get stage.outer.routines stage.number ≡ Some found
  pub awaits : found.awaits_body ≡ true

last_at : (routines : List KnownRoutine) (last : KnownRoutine)
    → slice_get (routines ++ last ∷ []) (length routines) ≡ Some last
last_at [] last = refl
last_at (first ∷ routines) last = last_at routines last

added_waits : (outer : Outer) (marks : Marks) (name : List ℕ) (heading : Option Heading) (bodies : List ℕ)
    → IsSome heading → Bodied outer.routines bodies
    → Waits bodies (record {
      marks = marks;
      number = length outer.routines;
      outer = spec.with_routine name heading outer;
      is_second = false;
    })
added_waits outer marks name None bodies some h = absurd (cc)
added_waits outer marks name (Some heading) bodies some h = record {
  bodied = added_bodied outer.routines heading bodies h;
  found = record { heading = heading; awaits_body = true };
  there = last_at outer.routines (record { heading = heading; awaits_body = true });
  awaits = refl;
}

abbrev IsAwaited : Outer → ℕ → Type 0
IsAwaited outer number =
    (found : KnownRoutine) × (slice_get outer.routines number ≡ Some found) × (found.awaits_body ≡ true)

known_waits : (outer : Outer) (sort : Sort) (number wanted : ℕ) (known : Option KnownRoutine)
    → slice_get outer.routines number ≡ known
    → option_and_then (spec.awaited_known sort number) known ≡ Some wanted → IsAwaited outer wanted
known_waits outer sort number wanted None at is = absurd (none-some wanted is)
known_waits outer sort number wanted (Some found) at is =
    by_test found.awaits_body (spec.is_of_sort sort found.heading) refl is
  where
    by_test : (awaits of_sort : Bool) → found.awaits_body ≡ awaits
        → (if awaits && of_sort then Some number else None) ≡ Some wanted → IsAwaited outer wanted
    by_test true true awaits same = (
      found,
      subst (λ n. slice_get outer.routines n ≡ Some found) (same_Some number wanted same) at,
      awaits,
    )
    by_test true false awaits same = absurd (none-some wanted same)
    by_test false of_sort awaits same = absurd (none-some wanted same)

pub awaited_waits : (outer : Outer) (sort : Sort) (wanted : ℕ) (entity : Option Entity)
    → option_and_then (spec.awaited_by outer sort) entity ≡ Some wanted → IsAwaited outer wanted
awaited_waits outer sort wanted None is = absurd (none-some wanted is)
awaited_waits outer sort wanted (Some (scope.constant base value)) is = absurd (none-some wanted is)
awaited_waits outer sort wanted (Some (scope.type found)) is = absurd (none-some wanted is)
awaited_waits outer sort wanted (Some (scope.variable found)) is = absurd (none-some wanted is)
awaited_waits outer sort wanted (Some (scope.routine number)) is =
    known_waits outer sort number wanted (slice_get outer.routines number) refl is
awaited_waits outer sort wanted (Some (scope.function found)) is = absurd (none-some wanted is)
awaited_waits outer sort wanted (Some (scope.file_test found)) is = absurd (none-some wanted is)
awaited_waits outer sort wanted (Some (scope.file_step found)) is = absurd (none-some wanted is)
awaited_waits outer sort wanted (Some (scope.procedure found)) is = absurd (none-some wanted is)
awaited_waits outer sort wanted (Some scope.unclear) is = absurd (none-some wanted is)

made_bodied : (found : HeadingStage) (labels : List ℕ) (inner : Inner) (bodies : List ℕ)
    (list : Option typed.Statements) → Waits bodies found
    → IfSome (known (spec.body_made found.number labels inner) list)
    (λ made. Bodied (spec.with_body found.number found.outer.routines) (bodies ++ numbers_of made))
made_bodied found labels inner bodies None h = tt
made_bodied found labels inner bodies (Some list) h =
    body_bodied found.outer.routines found.number bodies h.found h.there h.awaits h.bodied

pub by_body : (found : HeadingStage) (sort : Sort) (body : tree.Body) (bodies : List ℕ) → Waits bodies found
    → LeavesBodied bodies (spec.routine_by found sort body)
by_body found sort (tree.forward line) bodies h =
    subst (Bodied found.outer.routines) (sym (append-nil bodies)) h.bodied
by_body found sort (tree.block labels rows body) bodies h =
    let now : Outer = record found.outer { routines = spec.with_body found.number found.outer.routines } in
    let part : InnerStage = local_rows now (spec.inner_of now found.number (declared_labels labels)) rows in
    made_bodied found (declared_labels labels) part.inner bodies _ h

-- a heading is clean where its routine is
heading_clean : (found : HeadingStage) (sort : Sort) (body : tree.Body)
    → IsClean (spec.routine_by found sort body).marks → IsClean found.marks
heading_clean found sort (tree.forward line) clean =
    (joined_clean (found.marks ∷ shows (unless (not found.is_second) (wrong WRONG_TYPE)) ∷ quiet ∷ []) clean).0
heading_clean found sort (tree.block labels rows body) clean =
    let numbers : List ℕ = declared_labels labels in
    let now : Outer = record found.outer { routines = spec.with_body found.number found.outer.routines } in
    let part : InnerStage = local_rows now (spec.inner_of now found.number numbers) rows in
    let list : Judged typed.Statements = statements_of (routine_scopes (record now { types = part.table }) part.inner)
    (labels_of_list body.list) [] body.list in
    let marks : List Marks = found.marks ∷ label_marks labels ∷ part.marks ∷ quiet ∷ list.marks
    ∷ shows (spec.label_missing numbers body ++ spec.result_missing sort list.value) ∷ quiet ∷ [] in
    (joined_clean marks clean).0

headed_waits : (outer : Outer) (head : HeadingParts) (number : Option ℕ) (bodies : List ℕ)
    → spec.awaited outer head ≡ number → IsLawfulOuter outer → AreHeld (words_if parameters_words head.parameters)
    → AreHeld (words_if result_words head.result) → IsClean (spec.headed_by outer head number).marks
    → Bodied outer.routines bodies → Waits bodies (spec.headed_by outer head number)
headed_waits outer head None bodies is of_outer parameters_held result_held clean h =
    added_waits outer (spec.first_heading outer head).marks head.name.name _ bodies
    (ap is_some (first_made outer head of_outer parameters_held result_held clean).is) h
headed_waits outer head (Some number) bodies is of_outer parameters_held result_held clean h =
    let awaited : IsAwaited outer number =
    awaited_waits outer head.sort number (entity_in outer.names head.name.name) is in
    record { bodied = h; found = awaited.0; there = awaited.1; awaits = awaited.2 }

routine_bodied : (outer : Outer) (found : Routine) (bodies : List ℕ) → IsLawfulOuter outer
    → AreHeld (routine_words found) → IsClean (spec.routine_of outer found).marks → Bodied outer.routines bodies
    → LeavesBodied bodies (spec.routine_of outer found)
routine_bodied outer found bodies of_outer held clean h =
    let head : HeadingParts = spec.head_of found.heading in
    let parts = heading_parts found.heading (held_before (heading_words found.heading) _ held) in
    by_body (spec.headed outer head) head.sort found.body bodies
    (headed_waits outer head (spec.awaited outer head) bodies refl of_outer parts.0 parts.1
    (heading_clean (spec.headed outer head) head.sort found.body clean) h)

-- bodies, and those of the routines behind
both_bodied : (routines : List KnownRoutine) (before : List ℕ) (one other : Option (List Body))
    → ((bodies : List Body) → one ≡ Some bodies
    → IfSome other (λ more. Bodied routines ((before ++ numbers_of bodies) ++ numbers_of more)))
    → IfSome (both ◌++◌ one other) (λ bodies. Bodied routines (before ++ numbers_of bodies))
both_bodied routines before None None h = tt
both_bodied routines before None (Some more) h = tt
both_bodied routines before (Some bodies) None h = tt
both_bodied routines before (Some bodies) (Some more) h =
    subst (Bodied routines)
    (append_assoc before (numbers_of bodies) (numbers_of more)
    ∙ ap (λ numbers. before ++ numbers) (sym (map-append (λ (body : Body). body.routine) bodies more)))
    (h bodies refl)

pub routines_bodied : (outer : Outer) (found : List Routine) (bodies : List ℕ) → IsLawfulOuter outer
    → AreHeld (flat_map routine_words found) → IsClean (spec.routines_of outer found).marks
    → Bodied outer.routines bodies → LeavesBodied bodies (spec.routines_of outer found)
routines_bodied outer [] bodies of_outer held clean h = subst (Bodied outer.routines) (sym (append-nil bodies)) h
routines_bodied outer (first ∷ more) bodies of_outer held clean h =
    let before : RoutineStage = spec.routine_of outer first in
    let behind : RoutineStage = spec.routines_of before.outer more in
    let parts : Each IsClean (before.marks ∷ behind.marks ∷ []) =
    joined_clean (before.marks ∷ behind.marks ∷ []) clean in
    let first_held : AreHeld (routine_words first) = held_before (routine_words first) _ held in
    let one : LeavesRoutine outer before = routine_lawful outer first of_outer first_held parts.0 in
    let is : LeavesBodied bodies before = routine_bodied outer first bodies of_outer first_held parts.0 h in
    both_bodied behind.outer.routines bodies before.bodies behind.bodies
    (λ found at. routines_bodied before.outer more (bodies ++ numbers_of found) one.lawful
    (held_behind (routine_words first) _ held) parts.1.0
    (subst (λ some. IfSome some (λ given. Bodied before.outer.routines (bodies ++ numbers_of given))) at is))
