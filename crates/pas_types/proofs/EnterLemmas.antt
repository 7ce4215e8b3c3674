-- The scope of a routine as its block goes into it, and what its variables leave as it was.
use Rattle.std.proofs.Common.{◌≡◌, refl, sym, ap, subst, ◌∙◌, ℕ, zero, suc, ◌+◌, ◌≤◌, arith, List, [], ◌∷◌, map, length}
use Rattle.std.proofs.Common.{Option, Some, None}
use Rattle.std.specs.Prelude.{◌≢◌, option_map, option_and_then, slice_get, slice_set, slice_index_or}
use Rattle.std.proofs.lemmas.Option.{slice_get_past}
use Rattle.pas_syntax.specs.Tree.{Rows, VariableRow}
use Rattle.pas_typed.specs.Types.{PasType, Table}
use Rattle.pas_typed.specs.Typed.{Mode, Variable, local, declared}
use Rattle.pas_typed.specs.TypedViews.{variable_view}
use Rattle.pas_scopes.specs.declared.scopes.Inner.{Inner as CodeInner}
use Rattle.pas_scopes.specs.declared.scopes.KnownRoutine.{KnownRoutine as CodeRoutine}
use Rattle.pas_scopes.specs.declared.scopes.Scopes.{Scopes as CodeScopes}
use Rattle.pas_rules.specs.Marks.{Judged, known}
use Rattle.pas_rules.specs.Scopes.{Entity, unclear, Named, KnownRoutine, Outer, Inner, entity_in, or_else, names_inside}
use Rattle.pas_rules.specs.Scopes.{required, spellings_of}
use Rattle.pas_typed.specs.Types.{Made}
use Rattle.pas_rules.specs.TypeForms.{form_of}
use Rattle.pas_rules.specs.Declarations.{named_slots, with_locals, routine_scopes, InnerStage, local_row}
use Rattle.pas_rules.specs.Declarations.{more_local_rows}
use Rattle.pas_rules.specs.Declarations.{local_rows}
use Rattle.pas_rules.specs.Routines.{with_body, parameters_known, inner_of}
use Rattle.pas_scopes.specs.ScopeViews.{outer_view, inner_view, routine_view, scopes_view, IsClear}
use Rattle.pas_scopes.specs.Locals.{IsWaiting, AreWaiting, IsWithin}
use Rattle.pas_types.specs.inner.RoutineAnswers.{awaited_at, IsReady}
use Rattle.pas_types.specs.inner.BlockAnswers.{without_awaited}
use Rattle.pas_scopes.proofs.LocalRowLemmas.{clear_each, local_known}
use Rattle.pas_types.proofs.RoutineLemmas.{waiting_at}

-- the routine at a number waits no longer, if there is one
pub set_without : (routines : List CodeRoutine) (number : ℕ) (found : CodeRoutine)
    → found ≡ slice_index_or routines number found
    → slice_set routines number (record { heading = found.heading; awaited = None }) ≡ without_awaited number routines
set_without [] number found is = refl
set_without (first ∷ routines) zero found is =
    ap (λ (one : CodeRoutine). record { heading = one.heading; awaited = None } ∷ routines) is
set_without (first ∷ routines) (suc number) found is =
    ap (λ (rest : List CodeRoutine). first ∷ rest) (set_without routines number found is)

pub nowhere_waits : (routines : List CodeRoutine) (number : ℕ) → length routines ≤ number
    → awaited_at routines number ≡ None
nowhere_waits routines number past =
    ap (λ (found : Option CodeRoutine). option_and_then (λ known. known.awaited) found)
    (slice_get_past routines number past)

pub without_past : (routines : List CodeRoutine) (number : ℕ) → length routines ≤ number
    → without_awaited number routines ≡ routines
without_past [] number past = refl
without_past (first ∷ routines) zero past = absurd (omega (arith, past))
without_past (first ∷ routines) (suc number) past =
    ap (λ (rest : List CodeRoutine). first ∷ rest) (without_past routines number (omega (arith, past)))

-- routines, one of which waits no longer
module _ (spellings : List ℕ) where
  pub seen_without : (number : ℕ) (routines : List CodeRoutine)
      → map (routine_view spellings) (without_awaited number routines)
      ≡ with_body number (map (routine_view spellings) routines)
  seen_without number [] = refl
  seen_without zero (first ∷ routines) = refl
  seen_without (suc number) (first ∷ routines) =
      ap (λ (rest : List KnownRoutine). routine_view spellings first ∷ rest) (seen_without number routines)

  pub get_seen : (routines : List CodeRoutine) (number : ℕ) (found : CodeRoutine)
      → slice_get routines number ≡ Some found
      → slice_get (map (routine_view spellings) routines) number ≡ Some (routine_view spellings found)
  get_seen [] number found is = absurd (cc)
  get_seen (first ∷ routines) zero found is =
      let same : first ≡ found = cc in ap (λ (one : CodeRoutine). Some (routine_view spellings one)) same
  get_seen (first ∷ routines) (suc number) found is = get_seen routines number found is

pub parameters_kept : (number : ℕ) (routines : List KnownRoutine)
    → parameters_known (slice_get (with_body number routines) number)
    ≡ parameters_known (slice_get routines number)
parameters_kept number [] = refl
parameters_kept zero (first ∷ routines) = refl
parameters_kept (suc number) (first ∷ routines) = parameters_kept number routines

pub waiting_without : (table : Table) (spellings : List ℕ) (start number : ℕ) (routines : List CodeRoutine)
    → AreWaiting table spellings start routines → AreWaiting table spellings start (without_awaited number routines)
waiting_without table spellings start number [] h = tt
waiting_without table spellings start zero (first ∷ routines) h = (tt, h.1)
waiting_without table spellings start (suc number) (first ∷ routines) h =
    (h.0, waiting_without table spellings (suc start) number routines h.1)

abbrev inner_with : List ℕ → ℕ → List Named → List Variable → Inner
inner_with labels number names variables =
    record { number = number; labels = labels; names = names; variables = variables }

-- the scopes in a routine, of which the block begins
module _ (old new : CodeScopes) (h : IsReady old) (inner : CodeInner) (number : ℕ) (labels : List ℕ)
    (waits : awaited_at old.routines.items number ≡ Some inner)
    (inside : new.inner ≡ Some (record inner { labels = labels }))
    (routines_are : new.routines.items ≡ without_awaited number old.routines.items)
    (kept : new ≡ record old { routines = new.routines; inner = new.inner }) where
  abbrev table : Table
  table = (outer_view old).types

  abbrev pub entered : CodeInner
  entered = record inner { labels = labels }

  abbrev pub begun_from : Outer
  begun_from = record (outer_view old) { routines = with_body number (outer_view old).routines }

  abbrev variables : List Variable
  variables = map (variable_view old.spellings.now) inner.variables

  abbrev parameters : List Variable
  parameters = parameters_known (slice_get begun_from.routines number)

  abbrev behind : CodeScopes
  behind = record old { routines = new.routines; inner = Some entered }

  is_waiting : (found : CodeRoutine) × (slice_get old.routines.items number ≡ Some found)
      × IsWaiting table old.spellings.now (0 + number) found.heading inner
  is_waiting = waiting_at table old.spellings.now 0 old.routines.items number inner h.lawful.waiting waits

  new_is : new ≡ behind
  new_is = kept ∙ ap (λ (one : Option CodeInner). record old { routines = new.routines; inner = one }) inside

  routines_seen : map (routine_view old.spellings.now) new.routines.items ≡ with_body number (outer_view old).routines
  routines_seen =
      ap (map (routine_view old.spellings.now)) routines_are
      ∙ seen_without old.spellings.now number old.routines.items

  pub outer_entered : outer_view new ≡ begun_from
  outer_entered =
      ap outer_view new_is
      ∙ ap (λ (all : List KnownRoutine). record (outer_view old) { routines = all }) routines_seen

  variables_are : variables ≡ parameters
  variables_are =
      ap (map (variable_view old.spellings.now)) is_waiting.2.variables_are
      ∙ sym (parameters_kept number (outer_view old).routines
      ∙ ap parameters_known (get_seen old.spellings.now old.routines.items number is_waiting.0 is_waiting.1))

  number_there : inner.number ≡ number
  number_there = is_waiting.2.number_is ∙ omega arith

  pub inner_entered : inner_view new.spellings.now entered ≡ inner_of begun_from number labels
  inner_entered =
      ap (λ (s : CodeScopes). inner_view s.spellings.now entered) new_is
      ∙ (ap (λ (n : ℕ). inner_with labels n inner.names variables) number_there
      ∙ (ap (λ (names : List Named). inner_with labels number names variables) is_waiting.2.names_are
      ∙ ap (λ (all : List Variable). inner_with labels number (named_slots local 0 all) all) variables_are))

  clear_there : IsClear (scopes_view behind)
  clear_there name =
      let outside : Option Entity = or_else (entity_in old.names name) (entity_in required name) in
      subst (λ (all : List Named). or_else (entity_in all name) outside ≢ Some unclear)
      (sym is_waiting.2.names_are)
      (clear_each [] (named_slots local 0 variables) name outside (local_known 0 variables)
      (λ is. h.clear name (ap (λ (one : Option CodeInner).
      or_else (entity_in (names_inside (option_map (inner_view old.spellings.now) one)) name) outside) h.alone ∙ is)))

  pub within_entered : IsWithin entered new
  within_entered =
      let counted = h.lawful.counted_is in
      let measured = is_waiting.2.measured in
      subst (IsWithin entered) (sym new_is) (record {
        inside = refl;
        clear = clear_there;
        lawful = record {
          counted_is = record {
            names = counted.names;
            slots = counted.slots;
            files = counted.files;
            globals = counted.globals;
            cells_are = counted.cells_are;
          };
          waiting = subst (AreWaiting table old.spellings.now 0) (sym routines_are)
              (waiting_without table old.spellings.now 0 number old.routines.items h.lawful.waiting);
        };
        measured = record {
          names = measured.names;
          variables = measured.variables;
          cells_are = measured.cells_are;
        };
      })

-- variables leave the number and the labels of a scope
pub record Stays (old new : Inner) : Type 0 where
  pub number_is : new.number ≡ old.number
  pub labels_are : new.labels ≡ old.labels

locals_stay : (mode : Mode) (names : List (List ℕ)) (found : Option PasType) (inner : Inner)
    → Stays inner (with_locals mode names found inner)
locals_stay mode names None inner = record { number_is = refl; labels_are = refl }
locals_stay mode names (Some found) inner = record { number_is = refl; labels_are = refl }

more_stay : (outer : Outer) (table : Table) (inner : Inner) (rows : List VariableRow)
    → Stays inner (more_local_rows outer table inner rows).inner
more_stay outer table inner [] = record { number_is = refl; labels_are = refl }
more_stay outer table inner (first ∷ more) =
    let before : InnerStage = local_row outer table inner first in
    let form : Judged Made =
    form_of (routine_scopes (record outer { types = table }) inner) table first.form in
    let one : Stays inner before.inner =
    locals_stay declared (spellings_of first.names) (known (λ what. what.type) form.value) inner in
    let behind : Stays before.inner (more_local_rows outer before.table before.inner more).inner =
    more_stay outer before.table before.inner more in
    record {
      number_is = behind.number_is ∙ one.number_is;
      labels_are = behind.labels_are ∙ one.labels_are;
    }

pub rows_stay : (outer : Outer) (inner : Inner) (rows : Option (Rows VariableRow))
    → Stays inner (local_rows outer inner rows).inner
rows_stay outer inner None = record { number_is = refl; labels_are = refl }
rows_stay outer inner (Some rows) = more_stay outer outer.types inner (rows.first ∷ rows.more)
