-- Routines that show no fault have lawful bodies.
use Rattle.std.proofs.Common.{◌≡◌, refl, sym, ap, subst, ◌∙◌, ℕ, zero, suc, ◌<◌, ◌&&◌, arith, Bool, true, false}
use Rattle.std.proofs.Common.{List, [], ◌∷◌, ◌++◌, length, map, Option, Some, None, IfSome, IsSome, is_some, inl, inr}
use Rattle.std.specs.Prelude.{⊤, slice_get, flat_map, option_map, option_and_then, not, nat_lt, if◌then◌else◌}
use Rattle.std.proofs.lemmas.List.{map-append}
use Rattle.std.proofs.Common.{append-nil}
use Rattle.std.proofs.lemmas.Option.{slice_get-map, none-some, same_Some}
use Rattle.std.proofs.lemmas.List.Elements.{All-from_recursion}
use Rattle.wb_base.specs.declared.faults.TheConstants.{WRONG_TYPE, DUPLICATE_NAME, TOO_LARGE}
use Rattle.pas_tokens.specs.declared.kinds.Kind.TheVariants as k
use Rattle.pas_tokens.specs.Cutting.{Wrong, wrong}
use Rattle.pas_syntax.specs.Tree as tree
use Rattle.pas_syntax.specs.Tree.{Ident, Behind, TypeName, Parameter, Parameters, Compound, Labels, VariableRow, Rows}
use Rattle.pas_syntax.specs.Tree.{Routine}
use Rattle.pas_syntax.specs.Words.{words_if, maybe, parameter_words, parameters_words, type_name_words}
use Rattle.pas_syntax.specs.Words.{result_words, heading_words, body_words, routine_words, labels_words, compound_words}
use Rattle.pas_syntax.specs.Words.{separated, idents_words, at, rows_words, variable_row_words, statements_words}
use Rattle.pas_typed.specs.Types.{PasType, Table, Made, range_of}
use Rattle.pas_typed.specs.Shapes.{IsAmong}
use Rattle.pas_typed.specs.Typed as typed
use Rattle.pas_typed.specs.Typed.{Mode, Variable, Heading, Body, TypedProgram}
use Rattle.pas_typed.specs.Lawful.{IsOrdinal, IsLawfulBody, AreDeclared}
use Rattle.pas_typed.specs.Lawful as typed_law
use Rattle.pas_typed.proofs.GrowthLemmas.{Stays, stays_behind, Grows, list_stays}
use Rattle.pas_rules.specs.Marks.{unless, Marks, quiet, no_token, shows, joined, Judged, known, checked, noted}
use Rattle.pas_rules.specs.Marks.{faults_if}
use Rattle.pas_rules.specs.Scopes as scope
use Rattle.pas_rules.specs.declared.limits.TheConstants.{ROUTINE_LIMIT}
use Rattle.pas_rules.specs.Scopes.{Entity, KnownRoutine, Outer, Inner, Scopes, names_of, spellings_of, new_names}
use Rattle.pas_rules.specs.Scopes.{contains, entity_in}
use Rattle.pas_rules.specs.Expressions.{heading_of}
use Rattle.pas_rules.specs.TypeForms.{type_named, maybe_quiet}
use Rattle.pas_rules.specs.Labels.{labels_of_list}
use Rattle.pas_rules.specs.Declarations as declared
use Rattle.pas_rules.specs.Declarations.{InnerStage, taken, routine_scopes, local_only, local_rows, label_marks}
use Rattle.pas_rules.specs.Statements.{statements_of}
use Rattle.pas_rules.specs.Routines as spec
use Rattle.pas_rules.specs.Routines.{Sort, procedure, function, HeadingParts, Formal, HeadingStage, RoutineStage}
use Rattle.pas_rules.proofs.TypesAsMany.{type_named_many}
use Rattle.pas_rules.proofs.CleanLemmas.{Each, each_then, each_append, IsClean, joined_clean, at_last_clean}
use Rattle.pas_rules.proofs.CleanLemmas.{checked_value, some_fault, holds}
use Rattle.pas_rules.proofs.CleanLemmas.{known_if, both_if}
use Rattle.pas_rules.proofs.HeldWords.{AreHeld, held_before, held_behind, held_next}
use Rattle.pas_rules.proofs.LawfulScopes.{so_far, IsLawfulEntity, IsParameter, IsLawfulHeading, AreLawful}
use Rattle.pas_rules.proofs.KnownForms.{Known, ArePlain, named_known, made_known, checked_known, left_out_held}
use Rattle.pas_rules.proofs.LawfulForms.{named_lawful}
use Rattle.pas_rules.proofs.LawfulDeclarations.{IsLawfulOuter, IsNamed, entity_stays, stays_same, slots_plain}
use Rattle.pas_rules.proofs.LawfulDeclarations.{more_rows_lawful, with_name_lawful, within_lawful, within_plain}
use Rattle.pas_rules.proofs.LawfulDeclarations.{slice_at, grows_same, grows_on}
use Rattle.pas_rules.proofs.LawfulLocals.{IsLawfulInner, IsDeclaredOne, LeavesInner, with_locals_lawful}
use Rattle.pas_rules.proofs.LawfulLocals.{locals_lawful, local_rows_lawful}
use Rattle.pas_rules.proofs.LawfulStatements.{statements_lawful}

-- the name of a type in a heading
abbrev pub InHeading : Outer → Made → Type 0
InHeading outer found = (found.table ≡ outer.types) × IsAmong (length outer.types) found.type

module _ (outer : Outer) (inner : Inner) (of_outer : IsLawfulOuter outer) (h : IsLawfulInner outer inner) where
  abbrev scopes : Scopes
  scopes = routine_scopes outer inner

  lawful : AreLawful scopes
  lawful = within_lawful outer inner of_outer h.names

  plain : ArePlain scopes
  plain = within_plain outer inner of_outer h.clear

  pub heading_type_known : (n : ℕ) (found : TypeName) → AreHeld (type_name_words n found)
      → Known (spec.type_in_heading outer inner found)
  heading_type_known n (tree.type_named ident) held clean =
      made_known _ (type_named scopes ident).value (named_known scopes plain ident clean)
  heading_type_known n (tree.no_type_name form) held clean = left_out_held n form held

  pub heading_type_lawful : (found : TypeName)
      → IfSome (spec.type_in_heading outer inner found).value (InHeading outer)
  heading_type_lawful (tree.type_named ident) =
      known_if (IsAmong (length outer.types)) (InHeading outer) (λ what. record { type = what; table = outer.types })
      (type_named scopes ident).value (λ what is. (refl, is)) (named_lawful scopes lawful ident)
  heading_type_lawful (tree.no_type_name form) = tt

-- parameters so far
pub record LeavesFormal (outer : Outer) (formal : Formal) : Type 0 where
  pub inside : IsLawfulInner outer formal.inner
  pub parameters : Each IsParameter formal.inner.variables
  pub clear : formal.is_clear ≡ true

all_parameters : (var : Option ℕ) (type : PasType) (spellings : List (List ℕ))
    → Each IsParameter (declared.variables_of (spec.mode_of var) type spellings)
all_parameters var type [] = tt
all_parameters None type (name ∷ spellings) = (inl refl, all_parameters None type spellings)
all_parameters (Some line) type (name ∷ spellings) = (inr refl, all_parameters (Some line) type spellings)

formal_by : (outer : Outer) (inner : Inner) (marks : Marks) (var : Option ℕ) (spellings : List (List ℕ))
    (value : Option Made) → IsSome value → IsLawfulInner outer inner → Each IsParameter inner.variables
    → LeavesFormal outer (record {
      marks = marks;
      inner = declared.with_locals (spec.mode_of var) spellings (known (λ what. what.type) value) inner;
      is_clear = is_some value;
    })
formal_by outer inner marks var spellings None some h are = absurd (cc)
formal_by outer inner marks var spellings (Some found) some h are = record {
  inside = with_locals_lawful outer inner (spec.mode_of var) spellings found.type h;
  parameters = each_append IsParameter inner.variables
      (declared.variables_of (spec.mode_of var) found.type spellings) are (all_parameters var found.type spellings);
  clear = refl;
}

parameter_lawful : (outer : Outer) (inner : Inner) (n : ℕ) (found : Parameter) → IsLawfulOuter outer
    → IsLawfulInner outer inner → Each IsParameter inner.variables → AreHeld (parameter_words n found)
    → IsClean (spec.parameter_of outer inner found).marks → LeavesFormal outer (spec.parameter_of outer inner found)
parameter_lawful outer inner n (tree.parameters var idents colon found) of_outer h are held clean =
    let spellings : List (List ℕ) = spellings_of idents in
    let form : Judged Made = spec.type_in_heading outer inner found in
    let demand : Made → List Wrong = local_only inner (spec.mode_of var) spellings in
    let marks : List Marks =
    maybe_quiet var ∷ new_names (names_of inner.names) idents ∷ quiet ∷ (noted demand form).marks ∷ [] in
    formal_by outer inner (joined marks) var spellings form.value
    (heading_type_known outer inner of_outer h n found
    (held_next (idents_words n idents) _ (type_name_words n found)
    (held_behind (maybe n k.Var var) _ held))
    (at_last_clean (faults_if demand form.value) form.marks (joined_clean marks clean).1.1.1.0)) h are
parameter_lawful outer inner n (tree.procedure_parameter line) of_outer h are held clean = absurd (cc)
parameter_lawful outer inner n (tree.function_parameter line) of_outer h are held clean = absurd (cc)

abbrev PassesFormal : Outer → Formal → Type 0
PassesFormal outer formal = IsClean formal.marks → LeavesFormal outer formal

behind_lawful : (outer : Outer) (separator : Marks) (before : Formal) (n : ℕ) (found : Parameter)
    → IsLawfulOuter outer → PassesFormal outer before → AreHeld (parameter_words n found)
    → PassesFormal outer (spec.formal_behind outer separator before found)
behind_lawful outer separator before n found of_outer h held clean =
    let next : Formal = spec.parameter_of outer before.inner found in
    let parts : Each IsClean (before.marks ∷ separator ∷ next.marks ∷ []) =
    joined_clean (before.marks ∷ separator ∷ next.marks ∷ []) clean in
    let first : LeavesFormal outer before = h parts.0 in
    let is : LeavesFormal outer next =
    parameter_lawful outer before.inner n found of_outer first.inside first.parameters held parts.1.1.0 in
    record {
      inside = is.inside;
      parameters = is.parameters;
      clear = both_true before.is_clear next.is_clear first.clear is.clear;
    }
  where
    both_true : (b c : Bool) → b ≡ true → c ≡ true → (b && c) ≡ true
    both_true true c h k = k
    both_true false c h k = absurd (cc)

more_formals_lawful : (outer : Outer) (before : Formal) (n : ℕ) (more : List (Behind Parameter)) → IsLawfulOuter outer
    → PassesFormal outer before
    → AreHeld (flat_map (λ behind. at n k.Semicolon behind.line ∷ parameter_words n behind.item) more)
    → PassesFormal outer (spec.more_formals outer before more)
more_formals_lawful outer before n [] of_outer h held clean = h clean
more_formals_lawful outer before n (behind ∷ more) of_outer h held clean =
    more_formals_lawful outer (spec.formal_behind outer quiet before behind.item) n more of_outer
    (behind_lawful outer quiet before n behind.item of_outer h (held_before (parameter_words n behind.item) _ held.1))
    (held_behind (parameter_words n behind.item) _ held.1) clean

nothing_inside : (outer : Outer) (number : ℕ) (labels : List ℕ) → IsLawfulInner outer (spec.new_inner number labels)
nothing_inside outer number labels = record { names = tt; clear = tt }

pub formals_lawful : (outer : Outer) (number : ℕ) (labels : List ℕ) (parameters : Option Parameters)
    → IsLawfulOuter outer → AreHeld (words_if parameters_words parameters)
    → PassesFormal outer (spec.formals_of outer (spec.new_inner number labels) parameters)
formals_lawful outer number labels None of_outer held clean =
    record { inside = nothing_inside outer number labels; parameters = tt; clear = refl }
formals_lawful outer number labels (Some parameters) of_outer held clean =
    let inner : Inner = spec.new_inner number labels in
    let first : Formal = spec.formal_behind outer no_token (spec.no_formals inner) parameters.items.first in
    let found : Formal = spec.more_formals outer first parameters.items.more in
    let within : AreHeld (separated 1 k.Semicolon (parameter_words 1) parameters.items) =
    held_before (separated 1 k.Semicolon (parameter_words 1) parameters.items) _ held.1 in
    let is : LeavesFormal outer found =
    more_formals_lawful outer first 1 parameters.items.more of_outer
    (behind_lawful outer no_token (spec.no_formals inner) 1 parameters.items.first of_outer
    (λ any. record { inside = nothing_inside outer number labels; parameters = tt; clear = refl })
    (held_before (parameter_words 1 parameters.items.first) _ within))
    (held_behind (parameter_words 1 parameters.items.first) _ within)
    (joined_clean (quiet ∷ found.marks ∷ quiet ∷ []) clean).1.0 in
    record { inside = is.inside; parameters = is.parameters; clear = is.clear }

-- the type of a result
abbrev pub IsResult : Outer → Made → Type 0
IsResult outer found = IsOrdinal outer.types found.type

result_value : (outer : Outer) (value : Option Made)
    → IfSome value (λ found. InHeading outer found × (spec.ordinal_result found ≡ [])) → IfSome value (IsResult outer)
result_value outer None h = tt
result_value outer (Some found) h =
    subst (λ table. IsOrdinal table found.type) h.0.0
    (holds (is_some (range_of found.table found.type)) (wrong WRONG_TYPE) h.1)

pub result_lawful : (outer : Outer) (inner : Inner) (result : Option (Behind TypeName)) → IsLawfulOuter outer
    → IsLawfulInner outer inner → IfSome (spec.result_part outer inner result).value (IsResult outer)
result_lawful outer inner None of_outer h = tt
result_lawful outer inner (Some result) of_outer h =
    let found : Judged Made = spec.type_in_heading outer inner result.item in
    result_value outer (checked spec.ordinal_result found).value
    (checked_value (InHeading outer) spec.ordinal_result found.marks found.value
    (heading_type_lawful outer inner of_outer h result.item))

heading_token : (outer : Outer) (inner : Inner) (found : TypeName)
    → 0 < length (spec.type_in_heading outer inner found).marks.tokens
heading_token outer inner (tree.type_named ident) =
    omega (arith, (type_named_many (routine_scopes outer inner) 0 ident).same)
heading_token outer inner (tree.no_type_name form) = omega arith

pub result_known : (outer : Outer) (inner : Inner) (result : Behind TypeName) → IsLawfulOuter outer
    → IsLawfulInner outer inner → AreHeld (result_words result)
    → Known (spec.result_part outer inner (Some result))
result_known outer inner result of_outer h held clean =
    let found : Judged Made = spec.type_in_heading outer inner result.item in
    checked_known spec.ordinal_result found.marks found.value (heading_token outer inner result.item)
    (heading_type_known outer inner of_outer h 0 result.item held.1)
    (joined_clean (quiet ∷ (checked spec.ordinal_result found).marks ∷ []) clean).1.0

-- a heading, and the routine that it is of
pub record Heads (outer : Outer) (stage : HeadingStage) : Type 0 where
  pub lawful : IsLawfulOuter stage.outer
  pub grows : Grows (so_far outer) (so_far stage.outer)
  pub found : KnownRoutine
  pub there : slice_get stage.outer.routines stage.number ≡ Some found

abbrev pub NeedsResult : Sort → Option Made → Type 0
NeedsResult procedure result = ⊤
NeedsResult function result = IsSome result

pub record MakesHeading (outer : Outer) (made : Option Heading) : Type 0 where
  pub heading : Heading
  pub is : made ≡ Some heading
  pub lawful : IsLawfulHeading outer.types heading

heading_made : (outer : Outer) (name : List ℕ) (sort : Sort) (is_clear : Bool) (parameters : List Variable)
    (result : Option Made) → is_clear ≡ true → NeedsResult sort result → Each IsParameter parameters
    → IfSome result (IsResult outer)
    → MakesHeading outer (spec.heading_by name sort is_clear parameters result)
heading_made outer name sort false parameters result clear needs are is = absurd (cc)
heading_made outer name procedure true parameters result clear needs are is = record {
  heading = record { name = name; result = None; parameters = parameters };
  is = refl;
  lawful = record { parameters = are; result = tt };
}
heading_made outer name function true parameters None clear needs are is = absurd (cc)
heading_made outer name function true parameters (Some result) clear needs are is = record {
  heading = record { name = name; result = Some result.type; parameters = parameters };
  is = refl;
  lawful = record { parameters = are; result = is };
}

-- a routine more
stays_mapped : (routines more : List KnownRoutine)
    → Stays (map (λ found. found.heading) routines) (map (λ found. found.heading) (routines ++ more))
stays_mapped routines more =
    subst (Stays (map (λ found. found.heading) routines)) (sym (map-append (λ found. found.heading) routines more))
    (stays_behind (map (λ found. found.heading) routines) (map (λ found. found.heading) more))

more_routines : (outer : Outer) (found : KnownRoutine) → IsLawfulOuter outer → IsLawfulHeading outer.types found.heading
    → IsLawfulOuter (record outer { routines = outer.routines ++ found ∷ [] })
    × Grows (so_far outer) (so_far (record outer { routines = outer.routines ++ found ∷ [] }))
more_routines outer found h is =
    let now : Outer = record outer { routines = outer.routines ++ found ∷ [] } in
    let grows : Grows (so_far outer) (so_far now) = record {
      types = stays_same outer.types;
      globals = stays_same outer.globals;
      headings = stays_mapped outer.routines (found ∷ []);
    } in (
      record {
        rows = h.rows;
        names = each_then (IsNamed (so_far outer)) (IsNamed (so_far now)) outer.names
            (λ named one. entity_stays (so_far outer) (so_far now) grows (omega arith) [] named.entity one) h.names;
        clear = h.clear;
        headings = each_append (λ known. IsLawfulHeading outer.types known.heading) outer.routines (found ∷ [])
            h.headings (is, tt);
        globals = h.globals;
      },
      grows,
    )

routine_added : (outer : Outer) (marks : Marks) (name : List ℕ) (made : Option Heading) → IsLawfulOuter outer
    → MakesHeading outer made
    → Heads outer (record {
      marks = marks;
      number = length outer.routines;
      outer = spec.with_routine name made outer;
      is_second = false;
    })
routine_added outer marks name None h is = absurd (none-some is.heading is.is)
routine_added outer marks name (Some heading) h is =
    let found : KnownRoutine = record { heading = heading; awaits_body = true } in
    let now : Outer = record outer { routines = outer.routines ++ found ∷ [] } in
    let lawful = subst (IsLawfulHeading outer.types) (sym (same_Some heading is.heading is.is)) is.lawful in
    let added = more_routines outer found h lawful in
    record {
      lawful = with_name_lawful now name (Some (scope.routine (length outer.routines))) refl (tt, refl) added.0;
      grows = added.1;
      found = found;
      there = slice_at outer.routines found [];
    }

result_needed : (outer : Outer) (inner : Inner) (sort : Sort) (result : Option (Behind TypeName))
    → IsLawfulOuter outer → IsLawfulInner outer inner → AreHeld (words_if result_words result)
    → IsClean (spec.result_part outer inner result).marks → IsClean (shows (spec.missing_result sort result))
    → NeedsResult sort (spec.result_part outer inner result).value
result_needed outer inner procedure result of_outer h held clean missing = tt
result_needed outer inner function None of_outer h held clean missing = some_fault (wrong WRONG_TYPE) [] missing.still.0
result_needed outer inner function (Some result) of_outer h held clean missing =
    result_known outer inner result of_outer h held clean

pub first_made : (outer : Outer) (head : HeadingParts) → IsLawfulOuter outer
    → AreHeld (words_if parameters_words head.parameters) → AreHeld (words_if result_words head.result)
    → IsClean (spec.first_heading outer head).marks
    → (let formals = spec.formals_of outer (spec.new_inner (length outer.routines) []) head.parameters in
    MakesHeading outer (spec.heading_by head.name.name head.sort formals.is_clear formals.inner.variables
    (spec.result_part outer formals.inner head.result).value))
first_made outer head of_outer parameters_held result_held clean =
    let number : ℕ = length outer.routines in
    let formals : Formal = spec.formals_of outer (spec.new_inner number []) head.parameters in
    let result : Judged Made = spec.result_part outer formals.inner head.result in
    let marks : List Marks = quiet ∷ shows (unless (not (contains (taken outer) head.name.name)) (wrong DUPLICATE_NAME)
    ++ unless (nat_lt number ROUTINE_LIMIT) (wrong TOO_LARGE)) ∷ formals.marks ∷ result.marks
    ∷ shows (spec.missing_result head.sort head.result) ∷ [] in
    let parts : Each IsClean marks = joined_clean marks clean in
    let is : LeavesFormal outer formals =
    formals_lawful outer number [] head.parameters of_outer parameters_held parts.1.1.0 in
    heading_made outer head.name.name head.sort formals.is_clear formals.inner.variables result.value is.clear
    (result_needed outer formals.inner head.sort head.result of_outer is.inside result_held parts.1.1.1.0
    parts.1.1.1.1.0)
    is.parameters (result_lawful outer formals.inner head.result of_outer is.inside)

first_lawful : (outer : Outer) (head : HeadingParts) → IsLawfulOuter outer
    → AreHeld (words_if parameters_words head.parameters) → AreHeld (words_if result_words head.result)
    → IsClean (spec.first_heading outer head).marks → Heads outer (spec.first_heading outer head)
first_lawful outer head of_outer parameters_held result_held clean =
    routine_added outer (spec.first_heading outer head).marks head.name.name _ of_outer
    (first_made outer head of_outer parameters_held result_held clean)

-- a routine whose body is still to come
abbrev IsThere : Outer → ℕ → Type 0
IsThere outer number = (found : KnownRoutine) × (slice_get outer.routines number ≡ Some found)

known_there : (outer : Outer) (sort : Sort) (number wanted : ℕ) (known : Option KnownRoutine)
    → slice_get outer.routines number ≡ known
    → option_and_then (spec.awaited_known sort number) known ≡ Some wanted → IsThere outer wanted
known_there outer sort number wanted None at is = absurd (none-some wanted is)
known_there outer sort number wanted (Some found) at is =
    by_test (found.awaits_body && spec.is_of_sort sort found.heading) is
  where
    by_test : (test : Bool) → (if test then Some number else None) ≡ Some wanted → IsThere outer wanted
    by_test true same = (found, subst (λ n. slice_get outer.routines n ≡ Some found) (same_Some number wanted same) at)
    by_test false same = absurd (none-some wanted same)

awaited_there : (outer : Outer) (sort : Sort) (wanted : ℕ) (entity : Option Entity)
    → option_and_then (spec.awaited_by outer sort) entity ≡ Some wanted → IsThere outer wanted
awaited_there outer sort wanted None is = absurd (none-some wanted is)
awaited_there outer sort wanted (Some (scope.constant base value)) is = absurd (none-some wanted is)
awaited_there outer sort wanted (Some (scope.type found)) is = absurd (none-some wanted is)
awaited_there outer sort wanted (Some (scope.variable found)) is = absurd (none-some wanted is)
awaited_there outer sort wanted (Some (scope.routine number)) is =
    known_there outer sort number wanted (slice_get outer.routines number) refl is
awaited_there outer sort wanted (Some (scope.function found)) is = absurd (none-some wanted is)
awaited_there outer sort wanted (Some (scope.file_test found)) is = absurd (none-some wanted is)
awaited_there outer sort wanted (Some (scope.file_step found)) is = absurd (none-some wanted is)
awaited_there outer sort wanted (Some (scope.procedure found)) is = absurd (none-some wanted is)
awaited_there outer sort wanted (Some scope.unclear) is = absurd (none-some wanted is)

headed_by_lawful : (outer : Outer) (head : HeadingParts) (number : Option ℕ) → spec.awaited outer head ≡ number
    → IsLawfulOuter outer → AreHeld (words_if parameters_words head.parameters)
    → AreHeld (words_if result_words head.result) → IsClean (spec.headed_by outer head number).marks
    → Heads outer (spec.headed_by outer head number)
headed_by_lawful outer head None is of_outer parameters_held result_held clean =
    first_lawful outer head of_outer parameters_held result_held clean
headed_by_lawful outer head (Some number) is of_outer parameters_held result_held clean =
    let there : IsThere outer number =
    awaited_there outer head.sort number (entity_in outer.names head.name.name) is in
    record { lawful = of_outer; grows = grows_same (so_far outer); found = there.0; there = there.1 }

-- a routine of which the body has come
headings_same : (number : ℕ) (routines : List KnownRoutine)
    → map (λ found. found.heading) (spec.with_body number routines) ≡ map (λ found. found.heading) routines
headings_same number [] = refl
headings_same zero (found ∷ routines) = refl
headings_same (suc number) (found ∷ routines) = ap (λ more. found.heading ∷ more) (headings_same number routines)

each_with_body : (table : Table) (number : ℕ) (routines : List KnownRoutine)
    → Each (λ found. IsLawfulHeading table found.heading) routines
    → Each (λ found. IsLawfulHeading table found.heading) (spec.with_body number routines)
each_with_body table number [] h = tt
each_with_body table zero (found ∷ routines) h = h
each_with_body table (suc number) (found ∷ routines) h = (h.0, each_with_body table number routines h.1)

body_at : (number : ℕ) (routines : List KnownRoutine) (found : KnownRoutine) → slice_get routines number ≡ Some found
    → slice_get (spec.with_body number routines) number ≡ Some (record found { awaits_body = false })
body_at number [] found is = absurd (none-some found is)
body_at zero (first ∷ routines) found is =
    ap (λ (known : KnownRoutine). Some (record known { awaits_body = false })) (same_Some first found is)
body_at (suc number) (first ∷ routines) found is = body_at number routines found is

with_body_lawful : (outer : Outer) (number : ℕ) → IsLawfulOuter outer
    → IsLawfulOuter (record outer { routines = spec.with_body number outer.routines })
    × Grows (so_far outer) (so_far (record outer { routines = spec.with_body number outer.routines }))
with_body_lawful outer number h =
    let now : Outer = record outer { routines = spec.with_body number outer.routines } in
    let same : so_far outer ≡ so_far now =
    ap (λ headings. record (so_far outer) { headings = headings }) (sym (headings_same number outer.routines)) in (
      record {
        rows = h.rows;
        names = each_then (IsNamed (so_far outer)) (IsNamed (so_far now)) outer.names
            (λ named is. subst (λ program. IsLawfulEntity program [] named.entity) same is) h.names;
        clear = h.clear;
        headings = each_with_body outer.types number outer.routines h.headings;
        globals = h.globals;
      },
      subst (Grows (so_far outer)) same (grows_same (so_far outer)),
    )

-- what a routine leaves
pub record LeavesRoutine (outer : Outer) (stage : RoutineStage) : Type 0 where
  pub lawful : IsLawfulOuter stage.outer
  pub grows : Grows (so_far outer) (so_far stage.outer)
  pub bodies : IfSome stage.bodies (Each (IsLawfulBody (so_far stage.outer)))

-- the block of a routine with this number
module _ (outer : Outer) (of_outer : IsLawfulOuter outer) (number : ℕ) (heading : Heading)
    (there : option_map (λ (found : KnownRoutine). found.heading) (slice_get outer.routines number) ≡ Some heading)
    (numbers : List ℕ) where
  abbrev inside : Inner
  inside = spec.inner_of outer number numbers

  parameters_are : inside.variables ≡ heading.parameters
  parameters_are = by_known (slice_get outer.routines number) there
    where
      by_known : (known : Option KnownRoutine) → option_map (λ (found : KnownRoutine). found.heading) known ≡ Some
          heading
          → spec.parameters_known known ≡ heading.parameters
      by_known None is = absurd (none-some heading is)
      by_known (Some found) is = ap (λ (h : Heading). h.parameters) (same_Some found.heading heading is)

  inside_lawful : IsLawfulInner outer inside
  inside_lawful = record {
    names = locals_lawful (so_far outer) inside.variables [] inside.variables [] (sym (append-nil inside.variables));
    clear = slots_plain typed.local 0 inside.variables;
  }

  made : (behind : Outer) (inner : Inner) (list : Option typed.Statements) (others : List Variable)
      → behind.routines ≡ outer.routines → inner.number ≡ number → inner.variables ≡ inside.variables ++ others
      → Each IsDeclaredOne others
      → IfSome list (typed_law.AreLawful (so_far behind) inner.variables
      (option_and_then (λ (found : Heading). found.result) (heading_of (routine_scopes behind inner) inner.number)))
      → IfSome (known (spec.body_made number numbers inner) list) (Each (IsLawfulBody (so_far behind)))
  made behind inner None others same number_is variables_are declared_are is = tt
  made behind inner (Some list) others same number_is variables_are declared_are is = (
    record {
      heading = heading;
      there = slice_get-map (λ (found : KnownRoutine). found.heading) behind.routines number
          ∙ (ap (λ routines. option_map (λ (found : KnownRoutine). found.heading) (slice_get routines number)) same
          ∙ there);
      others = others;
      variables = variables_are ∙ ap (λ found. found ++ others) parameters_are;
      declared = All-from_recursion IsDeclaredOne others declared_are;
      statements = subst (λ result. typed_law.AreLawful (so_far behind) inner.variables result list)
          (ap (option_and_then (λ (found : Heading). found.result))
          (ap (λ n. option_map (λ (found : KnownRoutine). found.heading) (slice_get behind.routines n)) number_is
          ∙ (ap (λ routines. option_map (λ (found : KnownRoutine). found.heading) (slice_get routines number)) same
          ∙ there))) is;
    },
    tt,
  )

  abbrev block_part : Option (Rows VariableRow) → InnerStage
  block_part rows = local_rows outer inside rows

  abbrev behind_of : Option (Rows VariableRow) → Outer
  behind_of rows = record outer { types = (block_part rows).table }

  abbrev list_part : Option (Rows VariableRow) → Compound → Judged typed.Statements
  list_part rows body =
      statements_of (routine_scopes (behind_of rows) (block_part rows).inner) (labels_of_list body.list) [] body.list

  pub block_lawful : (rows : Option (Rows VariableRow)) (body : Compound)
      → AreHeld (words_if (rows_words k.Var variable_row_words) rows) → AreHeld (statements_words 1 body.list)
      → IsClean (block_part rows).marks → IsClean (list_part rows body).marks
      → IsLawfulOuter (behind_of rows) × Grows (so_far outer) (so_far (behind_of rows))
      × IfSome (known (spec.body_made number numbers (block_part rows).inner) (list_part rows body).value)
      (Each (IsLawfulBody (so_far (behind_of rows))))
  block_lawful rows body rows_held list_held rows_clean list_clean =
      let is : LeavesInner outer inside (block_part rows) =
      local_rows_lawful outer inside rows of_outer inside_lawful rows_held rows_clean in
      let lawful : IsLawfulOuter (behind_of rows) =
      more_rows_lawful outer (block_part rows).table is.grown of_outer in (
        lawful,
        record {
          types = is.grown.rows;
          globals = stays_same outer.globals;
          headings = stays_same (so_far outer).headings;
        },
        made (behind_of rows) (block_part rows).inner (list_part rows body).value is.others refl is.number is.variables
            is.declared
            (statements_lawful (routine_scopes (behind_of rows) (block_part rows).inner)
            (within_lawful (behind_of rows) (block_part rows).inner lawful is.inside.names) 1
            (labels_of_list body.list) [] body.list list_held list_clean),
      )

block_of_lawful : (outer : Outer) (found : HeadingStage) (sort : Sort) (labels : Option Labels)
    (rows : Option (Rows VariableRow)) (body : Compound) → (IsClean found.marks → Heads outer found)
    → AreHeld (words_if (rows_words k.Var variable_row_words) rows) → AreHeld (statements_words 1 body.list)
    → IsClean (spec.block_of found sort labels rows body).marks
    → LeavesRoutine outer (spec.block_of found sort labels rows body)
block_of_lawful outer found sort labels rows body heads rows_held list_held clean =
    let numbers : List ℕ = declared.declared_labels labels in
    let now : Outer = record found.outer { routines = spec.with_body found.number found.outer.routines } in
    let part : InnerStage = local_rows now (spec.inner_of now found.number numbers) rows in
    let behind : Outer = record now { types = part.table } in
    let list : Judged typed.Statements =
    statements_of (routine_scopes behind part.inner) (labels_of_list body.list) [] body.list in
    let marks : List Marks = found.marks ∷ label_marks labels ∷ part.marks ∷ quiet ∷ list.marks
    ∷ shows (spec.label_missing numbers body ++ spec.result_missing sort list.value) ∷ quiet ∷ [] in
    let parts : Each IsClean marks = joined_clean marks clean in
    let is : Heads outer found = heads parts.0 in
    let with_body = with_body_lawful found.outer found.number is.lawful in
    let there : option_map (λ (known : KnownRoutine). known.heading) (slice_get now.routines found.number)
    ≡ Some is.found.heading =
    ap (option_map (λ (known : KnownRoutine). known.heading))
    (body_at found.number found.outer.routines is.found is.there) in
    let block = block_lawful now with_body.0 found.number is.found.heading there numbers rows body rows_held list_held
    parts.1.1.0 parts.1.1.1.1.0 in
    record {
      lawful = block.0;
      grows = grows_on (so_far outer) (so_far found.outer) (so_far behind) is.grows
          (grows_on (so_far found.outer) (so_far now) (so_far behind) with_body.1 block.1);
      bodies = block.2;
    }

by_body : (outer : Outer) (found : HeadingStage) (sort : Sort) (body : tree.Body)
    → (IsClean found.marks → Heads outer found) → AreHeld (body_words body) → IsClean (spec.routine_by found sort
    body).marks
    → LeavesRoutine outer (spec.routine_by found sort body)
by_body outer found sort (tree.forward line) heads held clean =
    let is : Heads outer found =
    heads (joined_clean (found.marks ∷ shows (unless (not found.is_second) (wrong WRONG_TYPE)) ∷ quiet ∷ [])
    clean).0 in
    record { lawful = is.lawful; grows = is.grows; bodies = tt }
by_body outer found sort (tree.block labels rows body) heads held clean =
    let behind : AreHeld (words_if (rows_words k.Var variable_row_words) rows ++ compound_words body) =
    held_behind (words_if labels_words labels) _ held in
    block_of_lawful outer found sort labels rows body heads
    (held_before (words_if (rows_words k.Var variable_row_words) rows) (compound_words body) behind)
    (held_before (statements_words 1 body.list) _
    (held_behind (words_if (rows_words k.Var variable_row_words) rows) (compound_words body) behind).1)
    clean

pub heading_parts : (head : tree.Heading) → AreHeld (heading_words head)
    → AreHeld (words_if parameters_words (spec.head_of head).parameters)
    × AreHeld (words_if result_words (spec.head_of head).result)
heading_parts (tree.procedure line name parameters) held = (held.1.1, tt)
heading_parts (tree.function line name parameters result) held = (
  held_before (words_if parameters_words parameters) _ held.1.1,
  held_behind (words_if parameters_words parameters) _ held.1.1,
)

pub routine_lawful : (outer : Outer) (found : Routine) → IsLawfulOuter outer → AreHeld (routine_words found)
    → IsClean (spec.routine_of outer found).marks → LeavesRoutine outer (spec.routine_of outer found)
routine_lawful outer found of_outer held clean =
    let head : HeadingParts = spec.head_of found.heading in
    let parts = heading_parts found.heading (held_before (heading_words found.heading) _ held) in
    by_body outer (spec.headed outer head) head.sort found.body
    (headed_by_lawful outer head (spec.awaited outer head) refl of_outer parts.0 parts.1)
    (held_before (body_words found.body) _ (held_next (heading_words found.heading) _ _ held)) clean

pub body_stays : (program later : TypedProgram) (body : Body) → Grows program later → IsLawfulBody program body
    → IsLawfulBody later body
body_stays program later body grows is = record {
  heading = is.heading;
  there = grows.headings.each body.routine is.heading is.there;
  others = is.others;
  variables = is.variables;
  declared = is.declared;
  statements = list_stays program later grows body.variables is.heading.result body.statements is.statements;
}

pub routines_lawful : (outer : Outer) (found : List Routine) → IsLawfulOuter outer
    → AreHeld (flat_map routine_words found) → IsClean (spec.routines_of outer found).marks
    → LeavesRoutine outer (spec.routines_of outer found)
routines_lawful outer [] of_outer held clean =
    record { lawful = of_outer; grows = grows_same (so_far outer); bodies = tt }
routines_lawful outer (first ∷ more) of_outer held clean =
    let before : RoutineStage = spec.routine_of outer first in
    let behind : RoutineStage = spec.routines_of before.outer more in
    let parts : Each IsClean (before.marks ∷ behind.marks ∷ []) =
    joined_clean (before.marks ∷ behind.marks ∷ []) clean in
    let one : LeavesRoutine outer before =
    routine_lawful outer first of_outer (held_before (routine_words first) _ held) parts.0 in
    let rest : LeavesRoutine before.outer behind =
    routines_lawful before.outer more one.lawful (held_behind (routine_words first) _ held) parts.1.0 in
    record {
      lawful = rest.lawful;
      grows = grows_on (so_far outer) (so_far before.outer) (so_far behind.outer) one.grows rest.grows;
      bodies = both_if (Each (IsLawfulBody (so_far before.outer))) (Each (IsLawfulBody (so_far behind.outer)))
          (Each (IsLawfulBody (so_far behind.outer))) ◌++◌ before.bodies behind.bodies
          (λ bodies others is are. each_append (IsLawfulBody (so_far behind.outer)) bodies others
          (each_then (IsLawfulBody (so_far before.outer)) (IsLawfulBody (so_far behind.outer)) bodies
          (λ body of_body. body_stays (so_far before.outer) (so_far behind.outer) body rest.grows of_body) is) are)
          one.bodies rest.bodies;
    }
