-- Routines (ISO 7185, 6.6, in this project's profile): headings, `forward`, and blocks.
use Rattle.std.specs.Prelude.{ℕ, zero, suc, ◌&&◌, ◌||◌, nat_lt, Bool, true, false, not, if◌then◌else◌}
use Rattle.std.specs.Prelude.{List, [], ◌∷◌, ◌++◌, length, Option, Some, None, is_some, is_none, option_and_then}
use Rattle.std.specs.Prelude.{slice_get}
use Rattle.wb_base.specs.declared.faults.TheConstants.{DUPLICATE_NAME, WRONG_TYPE, WRONG_LABEL, TOO_LARGE}
use Rattle.wb_base.specs.declared.faults.TheConstants.{RESULT_NEVER_ASSIGNED}
use Rattle.pas_tokens.specs.Cutting.{Wrong, wrong}
use Rattle.pas_syntax.specs.Tree as tree
use Rattle.pas_syntax.specs.Tree.{Ident, Behind, TypeName, Labels, VariableRow, Rows, Parameter, Parameters}
use Rattle.pas_syntax.specs.Tree.{Compound, Routine}
use Rattle.pas_rules.specs.declared.limits.TheConstants.{ROUTINE_LIMIT}
use Rattle.pas_rules.specs.Marks.{Marks, no_token, quiet, shows, at_first, joined, unless, Judged, judged, known, both}
use Rattle.pas_rules.specs.Marks.{checked, noted}
use Rattle.pas_typed.specs.Types.{range_of}
use Rattle.pas_typed.specs.Typed as typed
use Rattle.pas_typed.specs.Typed.{Mode, by_value, by_name, Variable, Heading, Body, local}
use Rattle.pas_rules.specs.Scopes.{Entity, routine, names_of, KnownRoutine, Outer, Inner, entity_in}
use Rattle.pas_rules.specs.Scopes.{contains, spellings_of, new_names}
use Rattle.pas_rules.specs.TypeForms.{maybe_quiet, type_named}
use Rattle.pas_rules.specs.Labels.{has_label, labels_in_list, labels_of_list}
use Rattle.pas_rules.specs.Statements.{statements_of}
use Rattle.pas_rules.specs.Declarations.{declared_labels, label_marks, taken, with_name, named_slots, local_only}
use Rattle.pas_rules.specs.Declarations.{with_locals, routine_scopes, local_rows}
use Rattle.pas_typed.specs.Types.{Made}

-- parameters

abbrev pub mode_of : Option ℕ → Mode
mode_of None = by_value
mode_of (Some line) = by_name

-- the name of a type in a heading, and the types that it leaves as they are
abbrev pub type_in_heading : Outer → Inner → TypeName → Judged Made
type_in_heading outer inner (tree.type_named ident) =
    let found = type_named (routine_scopes outer inner) ident in
    judged found.marks (known (λ what. record { type = what; table = outer.types }) found.value)
type_in_heading outer inner (tree.no_type_name form) = judged quiet None

-- parameters of a routine so far: their marks, the scope behind them, and whether each of their types is known
pub record Formal : Type 0 where
  pub marks : Marks
  pub inner : Inner
  pub is_clear : Bool

abbrev pub parameter_of : Outer → Inner → Parameter → Formal
parameter_of outer inner (tree.parameters var idents colon found) =
    let spellings = spellings_of idents in
    let form = type_in_heading outer inner found in
    record {
      marks = joined (maybe_quiet var ∷ new_names (names_of inner.names) idents ∷ quiet
          ∷ (noted (local_only inner (mode_of var) spellings) form).marks ∷ []);
      inner = with_locals (mode_of var) spellings (known (λ what. what.type) form.value) inner;
      is_clear = is_some form.value;
    }
parameter_of outer inner (tree.procedure_parameter line) =
    record { marks = quiet; inner = inner; is_clear = false }
parameter_of outer inner (tree.function_parameter line) =
    record { marks = quiet; inner = inner; is_clear = false }

abbrev pub formal_behind : Outer → Marks → Formal → Parameter → Formal
formal_behind outer separator before parameter =
    let found = parameter_of outer before.inner parameter in
    record {
      marks = joined (before.marks ∷ separator ∷ found.marks ∷ []);
      inner = found.inner;
      is_clear = before.is_clear && found.is_clear;
    }

abbrev pub more_formals : Outer → Formal → List (Behind Parameter) → Formal
more_formals outer before [] = before
more_formals outer before (behind ∷ more) =
    more_formals outer (formal_behind outer quiet before behind.item) more

abbrev pub no_formals : Inner → Formal
no_formals inner = record { marks = no_token; inner = inner; is_clear = true }

abbrev pub formals_of : Outer → Inner → Option Parameters → Formal
formals_of outer inner None = no_formals inner
formals_of outer inner (Some parameters) =
    let first = formal_behind outer no_token (no_formals inner) parameters.items.first in
    let found = more_formals outer first parameters.items.more in
    record found { marks = joined (quiet ∷ found.marks ∷ quiet ∷ []) }

-- headings

pub data Sort : Type 0 where
  procedure : Sort
  function : Sort

-- the parts of a heading
pub record HeadingParts : Type 0 where
  pub sort : Sort
  pub name : Ident
  pub parameters : Option Parameters
  pub result : Option (Behind TypeName)

abbrev pub head_of : tree.Heading → HeadingParts
head_of (tree.procedure line name parameters) =
    record { sort = procedure; name = name; parameters = parameters; result = None }
head_of (tree.function line name parameters result) =
    record { sort = function; name = name; parameters = parameters; result = result }

-- the type of a function must be given, and be ordinal; one that is missing shows it at the semicolon of the heading
abbrev pub ordinal_result : Made → List Wrong
ordinal_result found = unless (is_some (range_of found.table found.type)) (wrong WRONG_TYPE)

abbrev pub result_part : Outer → Inner → Option (Behind TypeName) → Judged Made
result_part outer inner None = judged no_token None
result_part outer inner (Some result) =
    let found = checked ordinal_result (type_in_heading outer inner result.item) in
    judged (joined (quiet ∷ found.marks ∷ [])) found.value

abbrev pub missing_result : Sort → Option (Behind TypeName) → List Wrong
missing_result function None = wrong WRONG_TYPE ∷ []
missing_result sort result = []

-- a scope without names for a routine with this number
abbrev pub new_inner : ℕ → List ℕ → Inner
new_inner number labels = record { number = number; labels = labels; names = []; variables = [] }

-- what a heading tells: nothing where it is not clear
abbrev pub heading_by : List ℕ → Sort → Bool → List Variable → Option Made → Option Heading
heading_by name procedure true parameters result =
    Some (record { name = name; result = None; parameters = parameters })
heading_by name function true parameters (Some result) =
    Some (record { name = name; result = Some result.type; parameters = parameters })
heading_by name sort is_clear parameters result = None

-- a heading, with the semicolon behind it: its marks, the number of its routine, and the program's scope behind it
pub record HeadingStage : Type 0 where
  pub marks : Marks
  pub number : ℕ
  pub outer : Outer
  pub is_second : Bool

abbrev pub with_routine : List ℕ → Option Heading → Outer → Outer
with_routine name None outer = with_name name None outer
with_routine name (Some heading) outer =
    with_name name (Some (routine (length outer.routines)))
    (record outer { routines = outer.routines ++ record { heading = heading; awaits_body = true } ∷ [] })

abbrev pub first_heading : Outer → HeadingParts → HeadingStage
first_heading outer head =
    let number = length outer.routines in
    let formals = formals_of outer (new_inner number []) head.parameters in
    let result = result_part outer formals.inner head.result in
    record {
      marks = joined (quiet
          ∷ shows (unless (not (contains (taken outer) head.name.name)) (wrong DUPLICATE_NAME)
          ++ unless (nat_lt number ROUTINE_LIMIT) (wrong TOO_LARGE))
          ∷ formals.marks ∷ result.marks ∷ shows (missing_result head.sort head.result) ∷ []);
      number = number;
      outer = with_routine head.name.name
          (heading_by head.name.name head.sort formals.is_clear formals.inner.variables result.value) outer;
      is_second = false;
    }

-- a heading behind its forward heading has the name alone
abbrev pub more_than_name : Option Parameters → Option (Behind TypeName) → List Wrong
more_than_name None None = []
more_than_name parameters result = wrong WRONG_TYPE ∷ []

abbrev pub second_heading : Outer → HeadingParts → ℕ → HeadingStage
second_heading outer head number =
    let formals = formals_of outer (new_inner number []) head.parameters in
    let result = result_part outer formals.inner head.result in
    record {
      marks = joined (quiet ∷ quiet
          ∷ at_first (more_than_name head.parameters head.result)
          (joined (formals.marks ∷ result.marks ∷ quiet ∷ [])) ∷ []);
      number = number;
      outer = outer;
      is_second = true;
    }

-- the routine of this sort that a name stands for, if its body is still to come
abbrev pub is_of_sort : Sort → Heading → Bool
is_of_sort function heading = is_some heading.result
is_of_sort procedure heading = is_none heading.result

abbrev pub awaited_known : Sort → ℕ → KnownRoutine → Option ℕ
awaited_known sort number found =
    if found.awaits_body && is_of_sort sort found.heading then Some number else None

abbrev pub awaited_by : Outer → Sort → Entity → Option ℕ
awaited_by outer sort (routine number) =
    option_and_then (awaited_known sort number) (slice_get outer.routines number)
awaited_by outer sort entity = None

abbrev pub awaited : Outer → HeadingParts → Option ℕ
awaited outer head = option_and_then (awaited_by outer head.sort) (entity_in outer.names head.name.name)

abbrev pub headed_by : Outer → HeadingParts → Option ℕ → HeadingStage
headed_by outer head None = first_heading outer head
headed_by outer head (Some number) = second_heading outer head number

abbrev pub headed : Outer → HeadingParts → HeadingStage
headed outer head = headed_by outer head (awaited outer head)

-- blocks

-- whether a statement gives the function its result
abbrev mutual
  pub gives_result : typed.Statement → Bool
  gives_result (typed.sets_result number type value) = true
  gives_result (typed.compound list) = list_gives_result list
  gives_result (typed.if_then test s) = gives_result s
  gives_result (typed.if_else test s t) = gives_result s || gives_result t
  gives_result (typed.case selector arms) = arm_gives_result arms
  gives_result (typed.case_others selector arms s) = arm_gives_result arms || gives_result s
  gives_result (typed.while test list) = list_gives_result list
  gives_result (typed.repeat list test) = list_gives_result list
  gives_result (typed.for slot way first last list) = list_gives_result list
  gives_result other = false

  pub list_gives_result : typed.Statements → Bool
  list_gives_result typed.no_statements = false
  list_gives_result (typed.item label s list) = gives_result s || list_gives_result list

  pub arm_gives_result : typed.Arms → Bool
  arm_gives_result typed.no_arms = false
  arm_gives_result (typed.arm values s arms) = gives_result s || arm_gives_result arms

-- each label of the block stands in it
abbrev pub all_stand : List ℕ → List ℕ → Bool
all_stand standing [] = true
all_stand standing (label ∷ labels) = has_label standing label && all_stand standing labels

abbrev pub label_missing : List ℕ → Compound → List Wrong
label_missing labels body = unless (all_stand (labels_in_list body.list) labels) (wrong WRONG_LABEL)

abbrev pub result_missing : Sort → Option typed.Statements → List Wrong
result_missing function (Some list) = unless (list_gives_result list) (wrong RESULT_NEVER_ASSIGNED)
result_missing sort list = []

-- the parameters of a known routine, as names in its scope
abbrev pub parameters_known : Option KnownRoutine → List Variable
parameters_known None = []
parameters_known (Some found) = found.heading.parameters

abbrev pub inner_of : Outer → ℕ → List ℕ → Inner
inner_of outer number labels =
    let parameters = parameters_known (slice_get outer.routines number) in
    record { number = number; labels = labels; names = named_slots local 0 parameters; variables = parameters }

-- a routine of which the body has come
abbrev pub with_body : ℕ → List KnownRoutine → List KnownRoutine
with_body number [] = []
with_body zero (found ∷ routines) = record found { awaits_body = false } ∷ routines
with_body (suc number) (found ∷ routines) = found ∷ with_body number routines

-- what a routine shows, the program's scope behind it, and its body, where it has one
pub record RoutineStage : Type 0 where
  pub marks : Marks
  pub outer : Outer
  pub bodies : Option (List Body)

abbrev pub body_made : ℕ → List ℕ → Inner → typed.Statements → List Body
body_made number labels inner statements =
    record { routine = number; variables = inner.variables; labels = labels; statements = statements } ∷ []

abbrev pub block_of : HeadingStage → Sort → Option Labels → Option (Rows VariableRow) → Compound → RoutineStage
block_of found sort labels variables body =
    let numbers = declared_labels labels in
    let outer = record found.outer { routines = with_body found.number found.outer.routines } in
    let local_part = local_rows outer (inner_of outer found.number numbers) variables in
    let behind = record outer { types = local_part.table } in
    let list = statements_of (routine_scopes behind local_part.inner) (labels_of_list body.list) [] body.list in
    record {
      marks = joined (found.marks ∷ label_marks labels ∷ local_part.marks ∷ quiet ∷ list.marks
          ∷ shows (label_missing numbers body ++ result_missing sort list.value) ∷ quiet ∷ []);
      outer = behind;
      bodies = known (body_made found.number numbers local_part.inner) list.value;
    }

-- `forward` behind a heading that is not the first one is refused
abbrev pub routine_by : HeadingStage → Sort → tree.Body → RoutineStage
routine_by found sort (tree.forward line) = record {
  marks = joined (found.marks ∷ shows (unless (not found.is_second) (wrong WRONG_TYPE)) ∷ quiet ∷ []);
  outer = found.outer;
  bodies = Some [];
}
routine_by found sort (tree.block labels variables body) = block_of found sort labels variables body

abbrev pub routine_of : Outer → Routine → RoutineStage
routine_of outer found =
    let head = head_of found.heading in routine_by (headed outer head) head.sort found.body

abbrev pub routines_of : Outer → List Routine → RoutineStage
routines_of outer [] = record { marks = no_token; outer = outer; bodies = Some [] }
routines_of outer (first ∷ more) =
    let before = routine_of outer first in
    let behind = routines_of before.outer more in
    record {
      marks = joined (before.marks ∷ behind.marks ∷ []);
      outer = behind.outer;
      bodies = both ◌++◌ before.bodies behind.bodies;
    }
