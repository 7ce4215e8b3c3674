-- The scope of the program behind routines, whatever these show.
use Rattle.std.proofs.Common.{◌≡◌, refl, sym, ap, subst, ◌∙◌, ℕ, List, [], ◌∷◌, ◌++◌, length, Option, Some, None}
use Rattle.std.specs.Prelude.{option_map, option_and_then, slice_get}
use Rattle.pas_syntax.specs.Tree as tree
use Rattle.pas_syntax.specs.Tree.{Labels, Rows, VariableRow, Compound, Routine}
use Rattle.pas_typed.specs.Types.{PasType, Table, Made}
use Rattle.pas_typed.specs.Typed.{Mode, Variable, Heading, declared, local}
use Rattle.pas_rules.specs.Marks.{Judged, known}
use Rattle.pas_rules.specs.Scopes.{Entity, constant, type, variable, routine, function, file_test, file_step, procedure}
use Rattle.pas_rules.specs.Scopes.{unclear, Named, names, Outer, Inner, entity_in, spellings_of, or_else, contains}
use Rattle.pas_rules.specs.TypeForms.{form_of}
use Rattle.pas_rules.specs.Declarations.{types_behind, named_slots, unclear_names, with_locals, routine_scopes}
use Rattle.pas_rules.specs.Declarations.{variables_of, InnerStage, local_row, more_local_rows, local_rows}
use Rattle.pas_rules.specs.Declarations.{declared_labels}
use Rattle.pas_rules.specs.Routines.{Sort, HeadingParts, HeadingStage, head_of, with_routine, awaited, awaited_by}
use Rattle.pas_rules.specs.Routines.{headed_by, headed, with_body, parameters_known, inner_of, routine_by, routine_of}
use Rattle.pas_scopes.specs.DeclaredSoFar.{AreThere, AreFiled, IsCounted}
use Rattle.pas_scopes.proofs.CountedLemmas.{Longer, longer_same, longer_on, longer_length, IsMade, form_made}
use Rattle.pas_scopes.proofs.CountedLemmas.{named_routine, there_append, all_there_more, counted_name, counted_longer}
use Rattle.pas_scopes.proofs.LocalRowLemmas.{local_there}
use Rattle.std.proofs.lemmas.List.{append_assoc}
use Rattle.pas_scopes.specs.declared.scopes.Scopes.{Scopes as CodeScopes}
use Rattle.pas_rules.specs.Scopes.{with_new}
use Rattle.pas_scopes.specs.ScopeViews.{outer_view}
use Rattle.pas_types.specs.inner.RoutineAnswers.{IsReady}
use Rattle.pas_types.specs.inner.RoutineStands.{masked, served, IsHeldIf, IsNoted, names_by}
use Rattle.pas_types.proofs.FollowLemmas.{Behind, unclear_if, head_there, head_pushed, new_behind, held_new, held_in}
use Rattle.pas_types.proofs.FollowLemmas.{named_behind, named_held}

-- rows of variables make a table longer
made_longer : (table : Table) (found : Option Made) → IsMade table found → Longer table (types_behind table found)
made_longer table None h = longer_same table
made_longer table (Some found) h = h.0

unclear_there : (rows : ℕ) (spellings : List (List ℕ)) → AreThere rows (unclear_names spellings)
unclear_there rows [] = tt
unclear_there rows (name ∷ spellings) = (tt, unclear_there rows spellings)

locals_there : (rows : ℕ) (mode : Mode) (spellings : List (List ℕ)) (found : Option PasType) (inner : Inner)
    → AreThere rows inner.names → AreThere rows (with_locals mode spellings found inner).names
locals_there rows mode spellings None inner h =
    there_append rows inner.names (unclear_names spellings) h (unclear_there rows spellings)
locals_there rows mode spellings (Some found) inner h =
    let variables : List Variable = variables_of mode found spellings in
    there_append rows inner.names (named_slots local (length inner.variables) variables) h
    (local_there rows (length inner.variables) variables)

more_longer : (outer : Outer) (table : Table) (inner : Inner) (rows : List VariableRow)
    → AreThere (length table) outer.names → AreThere (length table) inner.names
    → Longer table (more_local_rows outer table inner rows).table
more_longer outer table inner [] h k = longer_same table
more_longer outer table inner (first ∷ more) h k =
    let from : Outer = record outer { types = table } in
    let form : Judged Made = form_of (routine_scopes from inner) table first.form in
    let now : Table = types_behind table form.value in
    let longer : Longer table now =
    made_longer table form.value
    (form_made (routine_scopes from inner) table (named_routine (length table) from inner h k) first.form) in
    let less = longer_length table now longer in
    let before : InnerStage = local_row outer table inner first in
    longer_on table now (more_local_rows outer now before.inner more).table longer
    (more_longer outer now before.inner more (all_there_more (length table) (length now) outer.names less h)
    (locals_there (length now) declared (spellings_of first.names) (known (λ what. what.type) form.value) inner
    (all_there_more (length table) (length now) inner.names less k)))

rows_longer : (outer : Outer) (inner : Inner) (rows : Option (Rows VariableRow))
    → AreThere (length outer.types) outer.names → AreThere (length outer.types) inner.names
    → Longer outer.types (local_rows outer inner rows).table
rows_longer outer inner None h k = longer_same outer.types
rows_longer outer inner (Some rows) h k = more_longer outer outer.types inner (rows.first ∷ rows.more) h k

-- the scope of the program behind routines with these names
pub record Follows (outer : Outer) (heads : List (List ℕ)) (later : Outer) (cells : ℕ) : Type 0 where
  pub longer : Longer outer.types later.types
  pub names_behind : Behind outer.names heads later.names
  pub counted_behind : IsCounted later cells

first_follows : (outer : Outer) (name : List ℕ) (heading : Option Heading) (cells : ℕ) → IsCounted outer cells
    → Follows outer (name ∷ []) (with_routine name heading outer) cells
first_follows outer name None cells h = record {
  longer = longer_same outer.types;
  names_behind = head_pushed outer.names (names name unclear) refl;
  counted_behind = counted_name outer cells (names name unclear) tt tt h;
}
first_follows outer name (Some heading) cells h =
    let last : Named = names name (routine (length outer.routines)) in
    let counted = counted_name outer cells last tt tt h in
    record {
      longer = longer_same outer.types;
      names_behind = head_pushed outer.names last refl;
      counted_behind = record {
        names = counted.names;
        slots = counted.slots;
        files = counted.files;
        globals = counted.globals;
        cells_are = counted.cells_are;
      };
    }

-- a name that stands for a routine that waits is no variable
waits_served : (outer : Outer) (sort : Sort) (found : Option Entity) (number : ℕ)
    → option_and_then (awaited_by outer sort) found ≡ Some number → option_map masked found ≡ Some unclear
waits_served outer sort None number is = absurd (cc)
waits_served outer sort (Some (routine other)) number is = refl
waits_served outer sort (Some (variable slot)) number is = absurd (cc)
waits_served outer sort (Some (constant base value)) number is = refl
waits_served outer sort (Some (type found)) number is = refl
waits_served outer sort (Some (function found)) number is = refl
waits_served outer sort (Some (file_test test)) number is = refl
waits_served outer sort (Some (file_step step)) number is = refl
waits_served outer sort (Some (procedure found)) number is = refl
waits_served outer sort (Some unclear) number is = refl

headed_follows : (outer : Outer) (head : HeadingParts) (found : Option ℕ) (cells : ℕ) → awaited outer head ≡ found
    → IsCounted outer cells → Follows outer (head.name.name ∷ []) (headed_by outer head found).outer cells
headed_follows outer head None cells is h = first_follows outer head.name.name _ cells h
headed_follows outer head (Some number) cells is h = record {
  longer = longer_same outer.types;
  names_behind = head_there outer.names head.name.name unclear
      (waits_served outer head.sort (entity_in outer.names head.name.name) number is);
  counted_behind = h;
}

by_follows : (outer : Outer) (heads : List (List ℕ)) (stage : HeadingStage) (sort : Sort) (body : tree.Body) (cells : ℕ)
    → Follows outer heads stage.outer cells → Follows outer heads (routine_by stage sort body).outer cells
by_follows outer heads stage sort (tree.forward line) cells h = h
by_follows outer heads stage sort (tree.block labels variables body) cells h =
    let begins : Outer = record stage.outer { routines = with_body stage.number stage.outer.routines } in
    let parameters : List Variable = parameters_known (slice_get begins.routines stage.number) in
    let rows = length stage.outer.types in
    let inner : Inner = inner_of begins stage.number (declared_labels labels) in
    let longer : Longer stage.outer.types (local_rows begins inner variables).table =
    rows_longer begins inner variables h.counted_behind.names (local_there rows 0 parameters) in
    let counted =
    counted_longer stage.outer cells (local_rows begins inner variables).table longer h.counted_behind in
    record {
      longer = longer_on outer.types stage.outer.types (local_rows begins inner variables).table h.longer longer;
      names_behind = h.names_behind;
      counted_behind = record {
        names = counted.names;
        slots = counted.slots;
        files = counted.files;
        globals = counted.globals;
        cells_are = counted.cells_are;
      };
    }

abbrev pub head_name : Routine → List ℕ
head_name found = (head_of found.heading).name.name

pub routine_follows : (outer : Outer) (found : Routine) (cells : ℕ) → IsCounted outer cells
    → Follows outer (head_name found ∷ []) (routine_of outer found).outer cells
routine_follows outer found cells h =
    let head : HeadingParts = head_of found.heading in
    by_follows outer (head_name found ∷ []) (headed outer head) head.sort found.body cells
    (headed_follows outer head (awaited outer head) cells refl h)

-- the scopes that only its name was declared in: behind a fault, and behind the first one
pub noted_next : (outer : Outer) (found : Routine) (old new : CodeScopes) → IsNoted outer old
    → new.names ≡ with_new old.names (head_name found) unclear
    → (outer_view new).types ≡ (outer_view old).types → new.cells ≡ old.cells
    → IsNoted (routine_of outer found).outer new
noted_next outer found old new h names_are types_are cells_are =
    let f = routine_follows outer found old.cells h.counted_is in
    let b = new_behind old.names (head_name found) unclear refl in
    let table : Table = (outer_view old).types in
    record {
      more = h.more ++ f.longer.more;
      table_is = f.longer.is
          ∙ (ap (λ (t : Table). t ++ f.longer.more) h.table_is
          ∙ (append_assoc table h.more f.longer.more
          ∙ ap (λ (t : Table). t ++ (h.more ++ f.longer.more)) (sym types_are)));
      alike = λ name.
          ap (λ (all : List Named). served all name) names_are
          ∙ (b.each name
          ∙ (ap (λ (one : Option Entity). or_else one (unclear_if (contains (head_name found ∷ []) name)))
          (h.alike name)
          ∙ sym (f.names_behind.each name)));
      held = subst (λ (all : List Named). (name : List ℕ) → IsHeldIf (length (outer_view new).types)
          (entity_in all name)) (sym names_are)
          (held_new (length (outer_view new).types) old.names (head_name found) unclear
          (subst (λ (t : Table). (name : List ℕ) → IsHeldIf (length t) (entity_in old.names name)) (sym types_are)
          h.held) tt);
      filed = subst (λ (t : Table). AreFiled (length t) t) (sym types_are) h.filed;
      counted_is = subst (IsCounted (routine_of outer found).outer) (sym cells_are) f.counted_behind;
    }

pub noted_first : (outer : Outer) (found : Routine) (old new : CodeScopes) → IsReady old → outer_view old ≡ outer
    → (number : Option ℕ) → new.names ≡ with_new (names_by old.names (head_name found) number) (head_name found) unclear
    → (outer_view new).types ≡ (outer_view old).types → new.cells ≡ old.cells
    → IsNoted (routine_of outer found).outer new
noted_first outer found old new h is number names_are types_are cells_are =
    let counted : IsCounted outer old.cells =
    subst (λ (one : Outer). IsCounted one old.cells) is h.lawful.counted_is in
    let f = routine_follows outer found old.cells counted in
    let b = named_behind old.names (head_name found) number in
    let same : (outer_view new).types ≡ outer.types = types_are ∙ ap (λ (one : Outer). one.types) is in
    record {
      more = f.longer.more;
      table_is = f.longer.is ∙ ap (λ (t : Table). t ++ f.longer.more) (sym same);
      alike = λ name.
          ap (λ (all : List Named). served all name) names_are
          ∙ (b.each name
          ∙ (ap (λ (one : Outer). or_else (served one.names name)
          (unclear_if (contains (head_name found ∷ []) name))) is
          ∙ sym (f.names_behind.each name)));
      held = subst (λ (all : List Named). (name : List ℕ) → IsHeldIf (length (outer_view new).types)
          (entity_in all name)) (sym names_are)
          (named_held (length (outer_view new).types) old.names (head_name found) number
          (subst (λ (t : Table). (name : List ℕ) → IsHeldIf (length t) (entity_in old.names name)) (sym types_are)
          (λ name. held_in (length (outer_view old).types) old.names name h.lawful.counted_is.slots)));
      filed = subst (λ (t : Table). AreFiled (length t) t) (sym types_are) h.lawful.counted_is.files;
      counted_is = subst (IsCounted (routine_of outer found).outer) (sym cells_are) f.counted_behind;
    }
