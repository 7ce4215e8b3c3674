-- Variables of a routine that are declared without a fault leave a lawful scope.
use Rattle.std.proofs.Common.{◌≡◌, refl, sym, ap, subst, ◌∙◌, ℕ, ◌≤◌, arith, List, [], ◌∷◌, ◌++◌}
use Rattle.std.proofs.Common.{length, append_assoc, append-nil, Option, Some, None, IfSome, IsSome}
use Rattle.std.specs.Prelude.{slice_get, flat_map}
use Rattle.std.proofs.lemmas.List.{length-append}
use Rattle.pas_tokens.specs.declared.kinds.Kind.TheVariants as k
use Rattle.pas_syntax.specs.Tree.{VariableRow, Rows}
use Rattle.pas_syntax.specs.Words.{words_if, rows_words, variable_row_words, type_words, idents_words}
use Rattle.pas_typed.specs.Types.{PasType, Table, Made}
use Rattle.pas_typed.specs.Typed as typed
use Rattle.pas_typed.specs.Typed.{Home, Mode, Variable, Slot, TypedProgram}
use Rattle.pas_typed.specs.Lawful.{IsDeclared, variables_of}
use Rattle.pas_typed.proofs.GrowthLemmas.{stays_behind, Grows}
use Rattle.pas_rules.specs.Marks.{Marks, quiet, Judged, known, noted, faults_if}
use Rattle.pas_rules.specs.Scopes as scope
use Rattle.pas_rules.specs.Scopes.{Entity, Named, Outer, Inner, Scopes, names_of, spellings_of, new_names}
use Rattle.pas_rules.specs.TypeForms.{form_of}
use Rattle.pas_rules.specs.Declarations as spec
use Rattle.pas_rules.specs.Declarations.{InnerStage, routine_scopes}
use Rattle.pas_rules.proofs.CleanLemmas.{Each, each_then, each_append, IsClean, joined_clean, at_last_clean}
use Rattle.pas_rules.proofs.HeldWords.{AreHeld, held_before, held_behind, held_next}
use Rattle.pas_rules.proofs.LawfulScopes.{so_far, IsLawfulEntity}
use Rattle.pas_rules.proofs.KnownForms.{IsPlain, form_known}
use Rattle.pas_rules.proofs.LawfulForms.{IsGrown, grown_same, grown_on, IsMade, form_lawful}
use Rattle.pas_rules.proofs.LawfulDeclarations.{IsLawfulOuter, entity_stays, stays_same, slice_at, slots_plain}
use Rattle.pas_rules.proofs.LawfulDeclarations.{more_rows_lawful, within_lawful, within_plain}

abbrev pub IsInside : TypedProgram → List Variable → Named → Type 0
IsInside program variables named = IsLawfulEntity program variables named.entity

-- the scope of a routine in that of the program
pub record IsLawfulInner (outer : Outer) (inner : Inner) : Type 0 where
  pub names : Each (IsInside (so_far outer) inner.variables) inner.names
  pub clear : Each (λ named. IsPlain named.entity) inner.names

-- slots of variables, behind others and before others
pub locals_lawful : (program : TypedProgram) (all before variables after : List Variable)
    → all ≡ before ++ (variables ++ after)
    → Each (IsInside program all) (spec.named_slots typed.local (length before) variables)
locals_lawful program all before [] after is = tt
locals_lawful program all before (found ∷ variables) after is = (
  record {
    variable = found;
    there = ap (λ list. slice_get list (length before)) is ∙ slice_at before found (variables ++ after);
    mode = refl;
    type = refl;
  },
  subst (λ n. Each (IsInside program all) (spec.named_slots typed.local n variables))
      (omega (arith, length-append before (found ∷ [])))
      (locals_lawful program all (before ++ found ∷ []) variables after
      (is ∙ sym (append_assoc before (found ∷ []) (variables ++ after)))),
)

-- with more variables behind
slot_more : (program : TypedProgram) (variables more : List Variable) (home : Home) (slot : Slot)
    → IsDeclared (variables_of program variables home) slot
    → IsDeclared (variables_of program (variables ++ more) home) slot
slot_more program variables more typed.global slot h = h
slot_more program variables more typed.local slot h = record {
  variable = h.variable;
  there = (stays_behind variables more).each slot.number h.variable h.there;
  mode = h.mode;
  type = h.type;
}

entity_more : (program : TypedProgram) (variables more : List Variable) (entity : Entity)
    → IsLawfulEntity program variables entity → IsLawfulEntity program (variables ++ more) entity
entity_more program variables more (scope.constant base value) h = h
entity_more program variables more (scope.type found) h = h
entity_more program variables more (scope.variable slot) h = slot_more program variables more slot.home slot h
entity_more program variables more (scope.routine number) h = tt
entity_more program variables more (scope.function found) h = tt
entity_more program variables more (scope.file_test found) h = tt
entity_more program variables more (scope.file_step found) h = tt
entity_more program variables more (scope.procedure found) h = tt
entity_more program variables more scope.unclear h = tt

pub with_locals_lawful : (outer : Outer) (inner : Inner) (mode : Mode) (spellings : List (List ℕ)) (found : PasType)
    → IsLawfulInner outer inner → IsLawfulInner outer (spec.with_locals mode spellings (Some found) inner)
with_locals_lawful outer inner mode spellings found h =
    let program : TypedProgram = so_far outer in
    let variables : List Variable = spec.variables_of mode found spellings in
    let all : List Variable = inner.variables ++ variables in
    let slots : List Named = spec.named_slots typed.local (length inner.variables) variables in
    record {
      names = each_append (IsInside program all) inner.names slots
          (each_then (IsInside program inner.variables) (IsInside program all) inner.names
          (λ named is. entity_more program inner.variables variables named.entity is) h.names)
          (locals_lawful program all inner.variables variables []
          (ap (λ more. inner.variables ++ more) (sym (append-nil variables))));
      clear = each_append (λ named. IsPlain named.entity) inner.names slots h.clear
          (slots_plain typed.local (length inner.variables) variables);
    }

-- with more rows
pub inner_stays : (outer later : Outer) (inner : Inner) → Grows (so_far outer) (so_far later)
    → length outer.types ≤ length later.types → IsLawfulInner outer inner → IsLawfulInner later inner
inner_stays outer later inner grows longer h = record {
  names = each_then (IsInside (so_far outer) inner.variables) (IsInside (so_far later) inner.variables) inner.names
      (λ named is. entity_stays (so_far outer) (so_far later) grows longer inner.variables named.entity is) h.names;
  clear = h.clear;
}

pub with_rows : (outer : Outer) (later : Table) (inner : Inner) → IsGrown outer.types later → IsLawfulInner outer inner
    → IsLawfulInner (record outer { types = later }) inner
with_rows outer later inner grown h =
    inner_stays outer (record outer { types = later }) inner
    (record { types = grown.rows; globals = stays_same outer.globals; headings = stays_same (so_far outer).headings })
    grown.longer h

-- a part of a routine's declarations
abbrev pub IsDeclaredOne : Variable → Type 0
IsDeclaredOne found = found.mode ≡ typed.declared

pub record LeavesInner (outer : Outer) (inner : Inner) (stage : InnerStage) : Type 0 where
  pub grown : IsGrown outer.types stage.table
  pub inside : IsLawfulInner (record outer { types = stage.table }) stage.inner
  pub others : List Variable
  pub variables : stage.inner.variables ≡ inner.variables ++ others
  pub declared : Each IsDeclaredOne others
  pub number : stage.inner.number ≡ inner.number

all_declared : (type : PasType) (spellings : List (List ℕ))
    → Each IsDeclaredOne (spec.variables_of typed.declared type spellings)
all_declared type [] = tt
all_declared type (name ∷ spellings) = (refl, all_declared type spellings)

row_by : (outer : Outer) (inner : Inner) (marks : Marks) (spellings : List (List ℕ)) (value : Option Made)
    → IsSome value → IfSome value (IsMade outer.types) → IsLawfulInner outer inner
    → LeavesInner outer inner (record {
      marks = marks;
      table = spec.types_behind outer.types value;
      inner = spec.with_locals typed.declared spellings (known (λ what. what.type) value) inner;
    })
row_by outer inner marks spellings None some is h = absurd (cc)
row_by outer inner marks spellings (Some found) some is h = record {
  grown = is.grown;
  inside = with_locals_lawful (record outer { types = found.table }) inner typed.declared spellings found.type
      (with_rows outer found.table inner is.grown h);
  others = spec.variables_of typed.declared found.type spellings;
  variables = refl;
  declared = all_declared found.type spellings;
  number = refl;
}

row_lawful : (outer : Outer) (inner : Inner) (found : VariableRow) → IsLawfulOuter outer → IsLawfulInner outer inner
    → AreHeld (variable_row_words found) → IsClean (spec.local_row outer outer.types inner found).marks
    → LeavesInner outer inner (spec.local_row outer outer.types inner found)
row_lawful outer inner found of_outer h held clean =
    let scopes : Scopes = routine_scopes outer inner in
    let form : Judged Made = form_of scopes outer.types found.form in
    let spellings : List (List ℕ) = spellings_of found.names in
    let part : Judged Made = noted (spec.local_only inner typed.declared spellings) form in
    let marks : List Marks = new_names (names_of inner.names) found.names ∷ quiet ∷ part.marks ∷ quiet ∷ [] in
    let form_clean : IsClean form.marks =
    at_last_clean (faults_if (spec.local_only inner typed.declared spellings) form.value) form.marks
    (joined_clean marks clean).1.1.0 in
    let grown : IsGrown outer.types outer.types = grown_same outer.types of_outer.rows in
    row_by outer inner _ spellings form.value
    (form_known scopes (within_plain outer inner of_outer h.clear) outer.types 0 found.form
    (held_before (type_words 0 found.form) _ (held_next (idents_words 0 found.names) _ _ held)) form_clean)
    (form_lawful scopes (within_lawful outer inner of_outer h.names) outer.types grown found.form form_clean) h

more_lawful : (outer : Outer) (inner : Inner) (rows : List VariableRow) → IsLawfulOuter outer
    → IsLawfulInner outer inner → AreHeld (flat_map variable_row_words rows)
    → IsClean (spec.more_local_rows outer outer.types inner rows).marks
    → LeavesInner outer inner (spec.more_local_rows outer outer.types inner rows)
more_lawful outer inner [] of_outer h held clean = record {
  grown = grown_same outer.types of_outer.rows;
  inside = h;
  others = [];
  variables = sym (append-nil inner.variables);
  declared = tt;
  number = refl;
}
more_lawful outer inner (first ∷ more) of_outer h held clean =
    let before : InnerStage = spec.local_row outer outer.types inner first in
    let now : Outer = record outer { types = before.table } in
    let behind : InnerStage = spec.more_local_rows outer before.table before.inner more in
    let parts : Each IsClean (before.marks ∷ behind.marks ∷ []) =
    joined_clean (before.marks ∷ behind.marks ∷ []) clean in
    let one : LeavesInner outer inner before =
    row_lawful outer inner first of_outer h (held_before (variable_row_words first) _ held) parts.0 in
    let rest : LeavesInner now before.inner behind =
    more_lawful now before.inner more (more_rows_lawful outer before.table one.grown of_outer) one.inside
    (held_behind (variable_row_words first) _ held) parts.1.0 in
    record {
      grown = grown_on one.grown rest.grown;
      inside = rest.inside;
      others = one.others ++ rest.others;
      variables = rest.variables ∙ (ap (λ found. found ++ rest.others) one.variables
          ∙ append_assoc inner.variables one.others rest.others);
      declared = each_append IsDeclaredOne one.others rest.others one.declared rest.declared;
      number = rest.number ∙ one.number;
    }

pub local_rows_lawful : (outer : Outer) (inner : Inner) (rows : Option (Rows VariableRow)) → IsLawfulOuter outer
    → IsLawfulInner outer inner → AreHeld (words_if (rows_words k.Var variable_row_words) rows)
    → IsClean (spec.local_rows outer inner rows).marks → LeavesInner outer inner (spec.local_rows outer inner rows)
local_rows_lawful outer inner None of_outer h held clean = record {
  grown = grown_same outer.types of_outer.rows;
  inside = h;
  others = [];
  variables = sym (append-nil inner.variables);
  declared = tt;
  number = refl;
}
local_rows_lawful outer inner (Some rows) of_outer h held clean =
    let found : InnerStage = spec.more_local_rows outer outer.types inner (rows.first ∷ rows.more) in
    let is : LeavesInner outer inner found =
    more_lawful outer inner (rows.first ∷ rows.more) of_outer h held.1
    (joined_clean (quiet ∷ found.marks ∷ []) clean).1.0 in
    record {
      grown = is.grown;
      inside = is.inside;
      others = is.others;
      variables = is.variables;
      declared = is.declared;
      number = is.number;
    }
