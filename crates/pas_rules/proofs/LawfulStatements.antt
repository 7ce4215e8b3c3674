-- Statements that show no fault are lawful in the program as far as it is declared.
use Rattle.std.proofs.Common.{◌≡◌, refl, sym, ap, ◌∙◌, ℕ, ◌+◌, ◌==◌, ◌&&◌, Bool, true, false, ℤ, List, []}
use Rattle.std.proofs.Common.{◌∷◌, ◌++◌, Option, Some, None, IfSome, is_some, eqb-true}
use Rattle.std.proofs.lemmas.Option.{IfSome_then}
use Rattle.std.specs.Prelude.{⊤, if◌then◌else◌, option_and_then, length, nat_lt}
use Rattle.wb_base.specs.declared.faults.TheConstants.{WRONG_TYPE, WRONG_LABEL}
use Rattle.pas_tokens.specs.Cutting.{wrong}
use Rattle.pas_syntax.specs.declared.operators.Way.{Way}
use Rattle.pas_syntax.specs.Tree as tree
use Rattle.pas_syntax.specs.Tree.{Expr, Plain, Elements, Others}
use Rattle.pas_syntax.specs.Words.{maybe, expr_words, variable_words, plain_words, statement_words, statements_words}
use Rattle.pas_syntax.specs.Words.{elements_words, others_words, separated, constant_words}
use Rattle.pas_tokens.specs.declared.kinds.Kind.TheVariants as k
use Rattle.pas_typed.specs.Types.{Base, boolean, PasType, Table, range_of}
use Rattle.pas_typed.specs.Typed as typed
use Rattle.pas_typed.specs.Typed.{Slot, Value, Place, Variable, Statement, Statements, Arms, Heading, TypedProgram}
use Rattle.pas_typed.specs.TypeOf.{type_of, type_of_place}
use Rattle.pas_typed.specs.Lawful.{IsOrdinal, Takes, IsLawfulSlot, IsLawfulValue, IsLawfulPlace, IsLawfulNumber}
use Rattle.pas_typed.specs.Lawful.{IsLawfulStatement, AreLawfulArms}
use Rattle.pas_typed.specs.Lawful as typed_law
use Rattle.pas_rules.specs.declared.limits.TheConstants.{GREATEST_LABEL}
use Rattle.pas_rules.specs.Marks.{quiet, Judged, means, refuses, both, known_of, checked}
use Rattle.pas_rules.specs.Scopes as scope
use Rattle.pas_rules.specs.Scopes.{Entity, Outer, Inner, Scopes, entity_of}
use Rattle.pas_rules.specs.TypeForms.{maybe_quiet}
use Rattle.pas_rules.specs.Labels as labels
use Rattle.pas_rules.specs.Labels.{Spot, in_list, elsewhere, labels_at, labels_in_list, labels_in_elements}
use Rattle.pas_rules.specs.Labels.{labels_of_list}
use Rattle.pas_rules.specs.Expressions.{only, ordinal_only, value_of, place_of, heading_of}
use Rattle.pas_rules.specs.Statements as spec
use Rattle.pas_rules.specs.Statements.{Target, plain_of, statement_of, statements_of, arms_of, others_of}
use Rattle.pas_rules.proofs.CleanLemmas.{Each, IsClean, Lawfully, joined_clean, known_if, both_if, checked_if}
use Rattle.pas_rules.proofs.HeldWords.{AreHeld, held_before, held_behind, held_next}
use Rattle.pas_rules.proofs.LawfulScopes.{so_far, IsLawfulEntity, IsLawfulHeading, result_in, variables_in, AreLawful}
use Rattle.pas_rules.proofs.LawfulValues as value_law
use Rattle.pas_rules.proofs.LawfulValues.{only_ordinal, ordinal_only_ordinal, takes, ordinal_taken, both_true}
use Rattle.pas_rules.proofs.LawfulTransfers as call_law

any_values : (found : Option (List ℤ)) → IfSome found (λ numbers. ⊤)
any_values None = tt
any_values (Some numbers) = tt

-- something made of something known by something made
pub known_of_if : {A B : Type 0} (P : A → Type 0) (Q : (A → B) → Type 0) (R : B → Type 0) (make : Option (A → B))
    (value : Option A) → ((f : A → B) (found : A) → Q f → P found → R (f found)) → IfSome make Q → IfSome value P
    → IfSome (known_of make value) R
known_of_if P Q R None None gives h k = tt
known_of_if P Q R None (Some found) gives h k = tt
known_of_if P Q R (Some f) None gives h k = tt
known_of_if P Q R (Some f) (Some found) gives h k = gives f found h k

module _ (scopes : Scopes) (lawful : AreLawful scopes) where
  abbrev program : TypedProgram
  program = so_far scopes.outer

  abbrev variables : List Variable
  variables = variables_in scopes.inner

  abbrev table : Table
  table = scopes.outer.types

  abbrev result : Option PasType
  result = result_in scopes scopes.inner

  abbrev IsValue : Value → Type 0
  IsValue = IsLawfulValue program variables

  abbrev IsNumber : Value → Type 0
  IsNumber = IsLawfulNumber program variables

  abbrev pub IsStatement : Statement → Type 0
  IsStatement = IsLawfulStatement program variables result

  abbrev pub AreStatements : Statements → Type 0
  AreStatements = typed_law.AreLawful program variables result

  abbrev pub AreArms : Arms → Type 0
  AreArms = AreLawfulArms program variables result

  value_at : (n : ℕ) (e : Expr) → AreHeld (expr_words n 0 e) → Lawfully IsValue (value_of scopes e)
  value_at n e held = value_law.value_lawful scopes lawful n 0 e held

  -- assignments
  abbrev IsTarget : Target → Type 0
  IsTarget (spec.place found) = IsLawfulPlace program variables found
  IsTarget (spec.result number type) =
      (number ≡ length variables) × (result ≡ Some type) × IsOrdinal table type

  result_lawful : (inner : Inner) (found : Option PasType) → scopes.inner ≡ Some inner → result ≡ found
      → IfSome found (IsOrdinal table) → Lawfully IsTarget (spec.target_result inner found)
  result_lawful inner None at is ordinal clean = tt
  result_lawful inner (Some type) at is ordinal clean =
      (ap (λ (found : Option Inner). length (variables_in found)) (sym at), is, ordinal)

  heading_result : (heading : Option Heading) → IfSome heading (IsLawfulHeading table)
      → IfSome (option_and_then (λ found. found.result) heading) (IsOrdinal table)
  heading_result None h = tt
  heading_result (Some heading) h = h.result

  routine_target : (inner : Option Inner) (number : ℕ) → scopes.inner ≡ inner
      → Lawfully IsTarget (spec.target_routine scopes inner number)
  routine_target None number at clean = tt
  routine_target (Some inner) number at clean = by_number (inner.number == number) refl clean
    where
      by_number : (same : Bool) → (inner.number == number) ≡ same
          → Lawfully IsTarget (if same
          then spec.target_result inner (option_and_then (λ heading. heading.result) (heading_of scopes number))
          else refuses (wrong WRONG_TYPE))
      by_number false is clean = tt
      by_number true is clean =
          result_lawful inner (option_and_then (λ heading. heading.result) (heading_of scopes number)) at
          (ap (result_in scopes) at
          ∙ ap (λ n. option_and_then (λ (heading : Heading). heading.result) (heading_of scopes n))
          (eqb-true inner.number number is))
          (heading_result (heading_of scopes number) (lawful.headings number)) clean

  target_named : (entity : Option Entity) → IfSome entity (IsLawfulEntity program variables)
      → Lawfully IsTarget (spec.target_named scopes entity)
  target_named None h clean = tt
  target_named (Some (scope.constant base value)) h clean = tt
  target_named (Some (scope.type found)) h clean = tt
  target_named (Some (scope.variable found)) h clean = h
  target_named (Some (scope.routine number)) h clean = routine_target scopes.inner number refl clean
  target_named (Some (scope.function found)) h clean = tt
  target_named (Some (scope.file_test found)) h clean = tt
  target_named (Some (scope.file_step found)) h clean = tt
  target_named (Some (scope.procedure found)) h clean = tt
  target_named (Some scope.unclear) h clean = tt

  target_place : (found : Judged Place) → Lawfully (IsLawfulPlace program variables) found
      → Lawfully IsTarget (spec.target_place found)
  target_place found h clean =
      known_if (IsLawfulPlace program variables) IsTarget spec.place found.value (λ place is. is) (h clean)

  target_lawful : (n : ℕ) (v : tree.Variable) → AreHeld (variable_words n 0 v)
      → Lawfully IsTarget (spec.target_of scopes v)
  target_lawful n (tree.whole ident) held clean =
      target_named (entity_of scopes ident.name) (lawful.names ident.name) clean
  target_lawful n (tree.indexed v opened indexes closed) held clean =
      target_place (place_of scopes (tree.indexed v opened indexes closed))
      (value_law.place_of_lawful scopes lawful n 0 (tree.indexed v opened indexes closed) held) clean
  target_lawful n (tree.field_of v line ident) held clean =
      target_place (place_of scopes (tree.field_of v line ident))
      (value_law.place_of_lawful scopes lawful n 0 (tree.field_of v line ident) held) clean
  target_lawful n (tree.buffer_of v line) held clean =
      target_place (place_of scopes (tree.buffer_of v line))
      (value_law.place_of_lawful scopes lawful n 0 (tree.buffer_of v line) held) clean

  assigned_lawful : (target : Target) (value : Value) → IsTarget target → IsValue value
      → spec.fits_target table (Some target) value ≡ [] → IsStatement (spec.assigned target value)
  assigned_lawful (spec.place found) value at is fits = (at, is, takes table (type_of_place found) value fits)
  assigned_lawful (spec.result number type) value at is fits =
      (at.0, at.1, (is, ordinal_taken table type (type_of value) at.2 (takes table type value fits)))

  nothing_assigned : (value : Option Value) → IfSome (both spec.assigned None value) IsStatement
  nothing_assigned None = tt
  nothing_assigned (Some value) = tt

  some_assigned : (target : Target) (value : Option Value) → IsTarget target
      → IfSome value (λ found. IsValue found × (spec.fits_target table (Some target) found ≡ []))
      → IfSome (both spec.assigned (Some target) value) IsStatement
  some_assigned target None at h = tt
  some_assigned target (Some value) at h = assigned_lawful target value at h.0 h.1

  assignment_by : (target : Option Target) (value : Judged Value) → IfSome target IsTarget → Lawfully IsValue value
      → IsClean (checked (spec.fits_target table target) value).marks
      → IfSome (both spec.assigned target (checked (spec.fits_target table target) value).value) IsStatement
  assignment_by None value at h clean = nothing_assigned (checked (spec.fits_target table None) value).value
  assignment_by (Some target) value at h clean =
      some_assigned target (checked (spec.fits_target table (Some target)) value).value at
      (checked_if IsValue (spec.fits_target table (Some target)) value h clean)

  assignment_lawful : (target : Judged Target) (value : Judged Value) → Lawfully IsTarget target
      → Lawfully IsValue value → Lawfully IsStatement (spec.assignment_of table target value)
  assignment_lawful target value at h clean =
      let left : Judged Target = checked (spec.assigned_only table) target in
      let right : Judged Value = checked (spec.fits_target table left.value) value in
      let parts : Each IsClean (left.marks ∷ quiet ∷ right.marks ∷ []) =
      joined_clean (left.marks ∷ quiet ∷ right.marks ∷ []) clean in
      assignment_by left.value value
      (IfSome_then left.value (checked_if IsTarget (spec.assigned_only table) target at parts.0) (λ found is. is.0))
      h parts.1.1.0

  -- lists
  pub listed_statement : (s : Statement) → IsStatement s → AreStatements (spec.list_of s)
  listed_statement typed.empty is = (is, tt)
  listed_statement (typed.assigns place right) is = (is, tt)
  listed_statement (typed.sets_result cell type right) is = (is, tt)
  listed_statement (typed.calls routine passed) is = (is, tt)
  listed_statement (typed.compound list) is = is
  listed_statement (typed.if_then test s) is = (is, tt)
  listed_statement (typed.if_else test s t) is = (is, tt)
  listed_statement (typed.case selector arms) is = (is, tt)
  listed_statement (typed.case_others selector arms s) is = (is, tt)
  listed_statement (typed.while test list) is = (is, tt)
  listed_statement (typed.repeat list test) is = (is, tt)
  listed_statement (typed.for slot way first last list) is = (is, tt)
  listed_statement (typed.goto label) is = (is, tt)
  listed_statement (typed.goto_last status) is = (is, tt)
  listed_statement (typed.file_step step place) is = (is, tt)
  listed_statement (typed.reads place places) is = (is, tt)
  listed_statement (typed.reads_line place places) is = (is, tt)
  listed_statement (typed.writes place written) is = (is, tt)
  listed_statement (typed.writes_line place written) is = (is, tt)
  listed_statement (typed.writes_bytes place written) is = (is, tt)
  listed_statement (typed.halts status) is = (is, tt)

  with_statement_lawful : (label : Option ℕ) (list : Statements) (s : Statement) → AreStatements list
      → IsStatement s → AreStatements (spec.with_statement label list s)
  with_statement_lawful label typed.no_statements s are is = (is, tt)
  with_statement_lawful label (typed.item own first list) s are is =
      (are.0, with_statement_lawful label list s are.1 is)

  with_arm_lawful : (arms : Arms) (values : List ℤ) (s : Statement) → AreArms arms → IsStatement s
      → AreArms (spec.with_arm arms values s)
  with_arm_lawful typed.no_arms values s are is = (is, tt)
  with_arm_lawful (typed.arm own first arms) values s are is = (are.0, with_arm_lawful arms values s are.1 is)

  -- tests and selectors
  test_lawful : (n : ℕ) (e : Expr) → AreHeld (expr_words n 0 e) → Lawfully IsNumber (spec.test_of scopes e)
  test_lawful n e held clean =
      IfSome_then (spec.test_of scopes e).value
      (checked_if IsValue (only boolean table) (value_of scopes e) (value_at n e held) clean)
      (λ value is. (is.0, only_ordinal boolean table value is.1))

  selector_lawful : (n : ℕ) (e : Expr) → AreHeld (expr_words n 0 e)
      → Lawfully IsNumber (checked (ordinal_only table) (value_of scopes e))
  selector_lawful n e held clean =
      IfSome_then (checked (ordinal_only table) (value_of scopes e)).value
      (checked_if IsValue (ordinal_only table) (value_of scopes e) (value_at n e held) clean)
      (λ value is. (is.0, ordinal_only_ordinal table value is.1))

  -- `for`
  abbrev IsCounter : Slot → Type 0
  IsCounter slot = IsLawfulSlot program variables slot × IsOrdinal table slot.type

  counter_if : (slot : Slot) (counts : Bool)
      → (spec.is_declared slot.mode && is_some (range_of table slot.type)) ≡ counts
      → IsLawfulSlot program variables slot
      → Lawfully IsCounter (if counts then means slot else refuses (wrong WRONG_TYPE))
  counter_if slot true is at clean =
      (at, (both_true (spec.is_declared slot.mode) (is_some (range_of table slot.type)) is).1)
  counter_if slot false is at clean = tt

  counter_lawful : (entity : Option Entity) → IfSome entity (IsLawfulEntity program variables)
      → Lawfully IsCounter (spec.for_variable table entity)
  counter_lawful None h clean = tt
  counter_lawful (Some (scope.constant base value)) h clean = tt
  counter_lawful (Some (scope.type found)) h clean = tt
  counter_lawful (Some (scope.variable slot)) h clean = counter_if slot (spec.counts table slot) refl h clean
  counter_lawful (Some (scope.routine number)) h clean = tt
  counter_lawful (Some (scope.function found)) h clean = tt
  counter_lawful (Some (scope.file_test found)) h clean = tt
  counter_lawful (Some (scope.file_step found)) h clean = tt
  counter_lawful (Some (scope.procedure found)) h clean = tt
  counter_lawful (Some scope.unclear) h clean = tt

  limit_lawful : (slot : Slot) (value : Judged Value) → IsCounter slot → Lawfully IsValue value
      → Lawfully IsNumber (checked (spec.fits_slot table (Some slot)) value)
  limit_lawful slot value is h clean =
      IfSome_then (checked (spec.fits_slot table (Some slot)) value).value
      (checked_if IsValue (spec.fits_slot table (Some slot)) value h clean)
      (λ found one. (one.0, ordinal_taken table slot.type (type_of found) is.1 (takes table slot.type found one.1)))

  abbrev for_made : Way → Slot → Value → Value → Statement → Statement
  for_made way counted lower upper statement = typed.for counted way lower upper (spec.list_of statement)

  nothing_counted : (way : Way) (from to : Option Value) (body : Option Statement)
      → IfSome (known_of (known_of (both (for_made way) None from) to) body) IsStatement
  nothing_counted way None None None = tt
  nothing_counted way None None (Some body) = tt
  nothing_counted way None (Some to) None = tt
  nothing_counted way None (Some to) (Some body) = tt
  nothing_counted way (Some from) None None = tt
  nothing_counted way (Some from) None (Some body) = tt
  nothing_counted way (Some from) (Some to) None = tt
  nothing_counted way (Some from) (Some to) (Some body) = tt

  some_counted : (way : Way) (slot : Slot) (from to : Option Value) (body : Option Statement) → IsCounter slot
      → IfSome from IsNumber → IfSome to IsNumber → IfSome body IsStatement
      → IfSome (known_of (known_of (both (for_made way) (Some slot) from) to) body) IsStatement
  some_counted way slot None None None is low high h = tt
  some_counted way slot None None (Some body) is low high h = tt
  some_counted way slot None (Some to) None is low high h = tt
  some_counted way slot None (Some to) (Some body) is low high h = tt
  some_counted way slot (Some from) None None is low high h = tt
  some_counted way slot (Some from) None (Some body) is low high h = tt
  some_counted way slot (Some from) (Some to) None is low high h = tt
  some_counted way slot (Some from) (Some to) (Some body) is low high h =
      (is.0, is.1, low, high, listed_statement body h)

  for_by : (way : Way) (slot : Option Slot) (first last : Judged Value) (body : Judged Statement)
      → IfSome slot IsCounter → Lawfully IsValue first → Lawfully IsValue last → Lawfully IsStatement body
      → IsClean (checked (spec.fits_slot table slot) first).marks
      → IsClean (checked (spec.fits_slot table slot) last).marks → IsClean body.marks
      → IfSome (known_of (known_of (both (for_made way) slot (checked (spec.fits_slot table slot) first).value)
      (checked (spec.fits_slot table slot) last).value) body.value) IsStatement
  for_by way None first last body is low high h from to done =
      nothing_counted way (checked (spec.fits_slot table None) first).value
      (checked (spec.fits_slot table None) last).value body.value
  for_by way (Some slot) first last body is low high h from to done =
      some_counted way slot (checked (spec.fits_slot table (Some slot)) first).value
      (checked (spec.fits_slot table (Some slot)) last).value body.value is (limit_lawful slot first is low from)
      (limit_lawful slot last is high to) (h done)

  for_lawful : (way : Way) (slot : Judged Slot) (first last : Judged Value) (body : Judged Statement)
      → Lawfully IsCounter slot → Lawfully IsValue first → Lawfully IsValue last → Lawfully IsStatement body
      → Lawfully IsStatement (spec.for_of table slot way first last body)
  for_lawful way slot first last body is low high h clean =
      let from : Judged Value = checked (spec.fits_slot table slot.value) first in
      let to : Judged Value = checked (spec.fits_slot table slot.value) last in
      let parts : Each IsClean (quiet ∷ slot.marks ∷ quiet ∷ from.marks ∷ quiet ∷ to.marks ∷ quiet ∷ body.marks ∷ []) =
      joined_clean (quiet ∷ slot.marks ∷ quiet ∷ from.marks ∷ quiet ∷ to.marks ∷ quiet ∷ body.marks ∷ []) clean in
      for_by way slot.value first last body (is parts.1.0) low high h parts.1.1.1.0 parts.1.1.1.1.1.0
      parts.1.1.1.1.1.1.1.0

  -- gotos
  in_list_lawful : (has : Bool) (label : ℕ) → IfSome (labels.to_list has label).value IsStatement
  in_list_lawful true label = tt
  in_list_lawful false label = tt

  last_lawful : (is_last : Bool) (status : ℕ) (other : Judged Statement) → IfSome other.value IsStatement
      → IfSome (if is_last then means (typed.goto_last status) else other).value IsStatement
  last_lawful true status other h = tt
  last_lawful false status other h = h

  declared_lawful : (has : Bool) (found : Judged Statement) → IfSome found.value IsStatement
      → IfSome (if has then found else refuses (wrong WRONG_LABEL)).value IsStatement
  declared_lawful true found h = h
  declared_lawful false found h = tt

  either_lawful : (b : Bool) (one other : Judged Statement) → IfSome one.value IsStatement
      → IfSome other.value IsStatement → IfSome (if b then one else other).value IsStatement
  either_lawful true one other h k = h
  either_lawful false one other h k = k

  goto_in_lawful : (outer : Outer) (inner : Option Inner) (around : List ℕ) (label : ℕ)
      → IfSome (labels.goto_in outer inner around label).value IsStatement
  goto_in_lawful outer None around label =
      declared_lawful (labels.has_label outer.labels label) _
      (last_lawful (labels.is_last outer.last_label label) 0 _
      (in_list_lawful (labels.has_label around label) label))
  goto_in_lawful outer (Some inner) around label =
      either_lawful (labels.has_label inner.labels label) _ _
      (in_list_lawful (labels.has_label around label) label)
      (declared_lawful (labels.has_label outer.labels label) _
      (last_lawful (labels.is_last outer.last_label label) 1 _ tt))

  goto_lawful : (around : List ℕ) (label : ℕ) → IfSome (labels.goto_of scopes around label).value IsStatement
  goto_lawful around label =
      either_lawful (nat_lt GREATEST_LABEL label) _ _ tt (goto_in_lawful scopes.outer scopes.inner around label)

  -- what stands behind the elements of a case
  abbrev pub MakesCase : (Value → Arms → Statement) → Type 0
  MakesCase make = (selector : Value) (arms : Arms) → IsNumber selector → AreArms arms → IsStatement (make selector
      arms)

  -- what makes something of one part more
  abbrev pub MakesElse : (Statement → Statement) → Type 0
  MakesElse make = (t : Statement) → IsStatement t → IsStatement (make t)

  abbrev pub MakesOfArms : (Arms → Statement) → Type 0
  MakesOfArms make = (found : Arms) → AreArms found → IsStatement (make found)

  abbrev pub MakesArms : (Statement → Arms) → Type 0
  MakesArms make = (s : Statement) → IsStatement s → AreArms (make s)

  abbrev Any : List ℤ → Type 0
  Any numbers = ⊤

  mutual
    pub plain_lawful : (n : ℕ) (around before : List ℕ) (s : Plain) → AreHeld (plain_words n s)
        → Lawfully IsStatement (plain_of scopes around before s)
    plain_lawful n around before tree.empty held clean = tt
    plain_lawful n around before (tree.assignment v line e) held clean =
        assignment_lawful (spec.target_of scopes v) (value_of scopes e)
        (target_lawful n v (held_before (variable_words n 0 v) _ held))
        (value_at n e (held_next (variable_words n 0 v) _ (expr_words n 0 e) held)) clean
    plain_lawful n around before (tree.procedure_call name arguments) held clean =
        call_law.call_of_lawful scopes lawful n (entity_of scopes name.name) arguments held.1 clean
    plain_lawful n around before (tree.compound begin list end) held clean =
        let found : Judged Statements = statements_of scopes (labels_of_list list ++ around) before list in
        known_if AreStatements IsStatement typed.compound found.value (λ statements are. are)
        (statements_lawful (n + 1) (labels_of_list list ++ around) before list
        (held_before (statements_words (n + 1) list) _ held.1)
        (joined_clean (quiet ∷ found.marks ∷ quiet ∷ []) clean).1.0)
    plain_lawful n around before (tree.if_then line e then_line s) held clean =
        let test : Judged Value = spec.test_of scopes e in
        let then_part : Judged Statement = statement_of scopes elsewhere around before s in
        let parts : Each IsClean (quiet ∷ test.marks ∷ quiet ∷ then_part.marks ∷ []) =
        joined_clean (quiet ∷ test.marks ∷ quiet ∷ then_part.marks ∷ []) clean in
        both_if IsNumber IsStatement IsStatement typed.if_then test.value then_part.value
        (λ value statement is of_statement. (is, of_statement))
        (test_lawful (n + 1) e (held_before (expr_words (n + 1) 0 e) _ held.1) parts.1.0)
        (statement_lawful (n + 1) elsewhere around before s
        (held_next (expr_words (n + 1) 0 e) _ (statement_words (n + 1) s) held.1) parts.1.1.1.0)
    plain_lawful n around before (tree.if_else line e then_line s else_line t) held clean =
        let test : Judged Value = spec.test_of scopes e in
        let then_part : Judged Statement = statement_of scopes elsewhere around before s in
        let else_part : Judged Statement = statement_of scopes elsewhere around (before ++ labels_at s) t in
        let parts : Each IsClean (quiet ∷ test.marks ∷ quiet ∷ then_part.marks ∷ quiet ∷ else_part.marks ∷ []) =
        joined_clean (quiet ∷ test.marks ∷ quiet ∷ then_part.marks ∷ quiet ∷ else_part.marks ∷ []) clean in
        let behind : AreHeld (statement_words (n + 1) s ++ _ ∷ statement_words (n + 1) t) =
        held_next (expr_words (n + 1) 0 e) _ _ held.1 in
        known_of_if IsStatement MakesElse IsStatement
        (both (λ value one other. typed.if_else value one other) test.value then_part.value) else_part.value
        (λ make other makes is. makes other is)
        (both_if IsNumber IsStatement MakesElse (λ value one other. typed.if_else value one other) test.value
        then_part.value (λ value one is of_one other of_other. (is, of_one, of_other))
        (test_lawful (n + 1) e (held_before (expr_words (n + 1) 0 e) _ held.1) parts.1.0)
        (statement_lawful (n + 1) elsewhere around before s (held_before (statement_words (n + 1) s) _ behind)
        parts.1.1.1.0))
        (statement_lawful (n + 1) elsewhere around (before ++ labels_at s) t
        (held_next (statement_words (n + 1) s) _ (statement_words (n + 1) t) behind) parts.1.1.1.1.1.0)
    plain_lawful n around before (tree.case line e of_line elements tail end) held clean =
        let selector : Judged Value = checked (ordinal_only table) (value_of scopes e) in
        let arms : Judged Arms = arms_of scopes around before (spec.base_of_value table selector.value) elements in
        let rest : Judged (Value → Arms → Statement) =
        others_of scopes around (before ++ labels_in_elements elements) tail in
        let parts : Each IsClean (quiet ∷ selector.marks ∷ quiet ∷ arms.marks ∷ rest.marks ∷ quiet ∷ []) =
        joined_clean (quiet ∷ selector.marks ∷ quiet ∷ arms.marks ∷ rest.marks ∷ quiet ∷ []) clean in
        let behind : AreHeld (elements_words (n + 1) elements ++ (others_words (n + 1) tail ++ _ ∷ [])) =
        held_next (expr_words (n + 1) 0 e) _ _ held.1 in
        known_of_if AreArms MakesOfArms IsStatement (known_of rest.value selector.value) arms.value (λ make found
        makes are. makes found are)
        (known_of_if IsNumber MakesCase MakesOfArms rest.value selector.value
        (λ make value makes is found are. makes value found is are)
        (others_lawful (n + 1) around (before ++ labels_in_elements elements) tail
        (held_before (others_words (n + 1) tail) _ (held_behind (elements_words (n + 1) elements) _ behind))
        parts.1.1.1.1.0)
        (selector_lawful (n + 1) e (held_before (expr_words (n + 1) 0 e) _ held.1) parts.1.0))
        (arms_lawful (n + 1) around before (spec.base_of_value table selector.value) elements
        (held_before (elements_words (n + 1) elements) _ behind) parts.1.1.1.0)
    plain_lawful n around before (tree.while line e do_line s) held clean =
        let test : Judged Value = spec.test_of scopes e in
        let body : Judged Statement = statement_of scopes elsewhere around before s in
        let parts : Each IsClean (quiet ∷ test.marks ∷ quiet ∷ body.marks ∷ []) =
        joined_clean (quiet ∷ test.marks ∷ quiet ∷ body.marks ∷ []) clean in
        both_if IsNumber IsStatement IsStatement
        (λ value statement. typed.while value (spec.list_of statement)) test.value body.value
        (λ value statement is of_statement. (is, listed_statement statement of_statement))
        (test_lawful (n + 1) e (held_before (expr_words (n + 1) 0 e) _ held.1) parts.1.0)
        (statement_lawful (n + 1) elsewhere around before s
        (held_next (expr_words (n + 1) 0 e) _ (statement_words (n + 1) s) held.1) parts.1.1.1.0)
    plain_lawful n around before (tree.repeat line list until e) held clean =
        let body : Judged Statements = statements_of scopes (labels_of_list list ++ around) before list in
        let test : Judged Value = spec.test_of scopes e in
        let parts : Each IsClean (quiet ∷ body.marks ∷ quiet ∷ test.marks ∷ []) =
        joined_clean (quiet ∷ body.marks ∷ quiet ∷ test.marks ∷ []) clean in
        both_if AreStatements IsNumber IsStatement typed.repeat body.value test.value
        (λ statements value are is. (are, is))
        (statements_lawful (n + 1) (labels_of_list list ++ around) before list
        (held_before (statements_words (n + 1) list) _ held.1) parts.1.0)
        (test_lawful (n + 1) e (held_next (statements_words (n + 1) list) _ (expr_words (n + 1) 0 e) held.1)
        parts.1.1.1.0)
    plain_lawful n around before (tree.for line name becomes first toward last do_line s) held clean =
        let limits : AreHeld (expr_words (n + 1) 0 first ++ _ ∷ (expr_words (n + 1) 0 last
        ++ _ ∷ statement_words (n + 1) s)) = held.1.1.1 in
        let behind : AreHeld (expr_words (n + 1) 0 last ++ _ ∷ statement_words (n + 1) s) =
        held_next (expr_words (n + 1) 0 first) _ _ limits in
        for_lawful toward.item (spec.for_variable table (entity_of scopes name.name)) (value_of scopes first)
        (value_of scopes last) (statement_of scopes elsewhere around before s)
        (counter_lawful (entity_of scopes name.name) (lawful.names name.name))
        (value_at (n + 1) first (held_before (expr_words (n + 1) 0 first) _ limits))
        (value_at (n + 1) last (held_before (expr_words (n + 1) 0 last) _ behind))
        (statement_lawful (n + 1) elsewhere around before s
        (held_next (expr_words (n + 1) 0 last) _ (statement_words (n + 1) s) behind)) clean
    plain_lawful n around before (tree.goto line numeral) held clean = goto_lawful around numeral.value
    plain_lawful n around before (tree.with_statement line) held clean = tt

    pub statement_lawful : (n : ℕ) (spot : Spot) (around before : List ℕ) (s : tree.Statement)
        → AreHeld (statement_words n s) → Lawfully IsStatement (statement_of scopes spot around before s)
    statement_lawful n spot around before (tree.unlabelled s) held clean = plain_lawful n around before s held clean
    statement_lawful n spot around before (tree.labelled numeral colon s) held clean =
        let found : Judged Statement = plain_of scopes around (before ++ numeral.value ∷ []) s in
        plain_lawful n around (before ++ numeral.value ∷ []) s held.1.1
        (joined_clean (spec.marks_of_label scopes spot before numeral.value ∷ found.marks ∷ []) clean).1.0

    pub statements_lawful : (n : ℕ) (around before : List ℕ) (list : tree.Statements)
        → AreHeld (statements_words n list) → Lawfully AreStatements (statements_of scopes around before list)
    statements_lawful n around before (tree.first_statement s) held clean =
        let found : Judged Statement = statement_of scopes in_list around before s in
        known_if IsStatement AreStatements (spec.with_statement (spec.label_of s) typed.no_statements)
        found.value (λ statement is. (is, tt)) (statement_lawful n in_list around before s held clean)
    statements_lawful n around before (tree.more_statements list line s) held clean =
        let found : Judged Statements = statements_of scopes around before list in
        let last : Judged Statement = statement_of scopes in_list around (before ++ labels_in_list list) s in
        let parts : Each IsClean (found.marks ∷ quiet ∷ last.marks ∷ []) =
        joined_clean (found.marks ∷ quiet ∷ last.marks ∷ []) clean in
        both_if AreStatements IsStatement AreStatements (spec.with_statement (spec.label_of s))
        found.value last.value
        (λ statements statement are is. with_statement_lawful (spec.label_of s) statements statement are is)
        (statements_lawful n around before list (held_before (statements_words n list) _ held) parts.0)
        (statement_lawful n in_list around (before ++ labels_in_list list) s
        (held_next (statements_words n list) _ (statement_words n s) held) parts.1.1.0)

    pub arms_lawful : (n : ℕ) (around before : List ℕ) (base : Option Base) (elements : Elements)
        → AreHeld (elements_words n elements) → Lawfully AreArms (arms_of scopes around before base elements)
    arms_lawful n around before base (tree.first_element constants colon s) held clean =
        let values : Judged (List ℤ) = spec.constants_of scopes base [] constants in
        let found : Judged Statement = statement_of scopes elsewhere around before s in
        let parts : Each IsClean (values.marks ∷ quiet ∷ found.marks ∷ []) =
        joined_clean (values.marks ∷ quiet ∷ found.marks ∷ []) clean in
        both_if Any IsStatement AreArms (spec.with_arm typed.no_arms) values.value
        found.value (λ numbers statement any is. (is, tt)) (any_values values.value)
        (statement_lawful n elsewhere around before s
        (held_next (separated n k.Comma (constant_words n) constants) _ (statement_words n s) held) parts.1.1.0)
    arms_lawful n around before base (tree.more_elements elements line constants colon s) held clean =
        let arms : Judged Arms = arms_of scopes around before base elements in
        let values : Judged (List ℤ) = spec.constants_of scopes base (spec.constants_in scopes elements) constants in
        let found : Judged Statement =
        statement_of scopes elsewhere around (before ++ labels_in_elements elements) s in
        let parts : Each IsClean (arms.marks ∷ quiet ∷ values.marks ∷ quiet ∷ found.marks ∷ []) =
        joined_clean (arms.marks ∷ quiet ∷ values.marks ∷ quiet ∷ found.marks ∷ []) clean in
        let behind : AreHeld (separated n k.Comma (constant_words n) constants ++ _ ∷ statement_words n s) =
        held_next (elements_words n elements) _ _ held in
        known_of_if IsStatement MakesArms AreArms
        (both spec.with_arm arms.value values.value) found.value (λ make statement makes is. makes statement is)
        (both_if AreArms Any MakesArms spec.with_arm arms.value values.value
        (λ others numbers are any statement is. with_arm_lawful others numbers statement are is)
        (arms_lawful n around before base elements (held_before (elements_words n elements) _ held) parts.0)
        (any_values values.value))
        (statement_lawful n elsewhere around (before ++ labels_in_elements elements) s
        (held_next (separated n k.Comma (constant_words n) constants) _ (statement_words n s) behind)
        parts.1.1.1.1.0)

    pub others_lawful : (n : ℕ) (around before : List ℕ) (tail : Others) → AreHeld (others_words n tail)
        → Lawfully MakesCase (others_of scopes around before tail)
    others_lawful n around before tree.no_others held clean = λ selector arms is are. (is, are)
    others_lawful n around before (tree.semicolon line) held clean = λ selector arms is are. (is, are)
    others_lawful n around before (tree.others line others_line colon s semicolon) held clean =
        let found : Judged Statement = statement_of scopes elsewhere around before s in
        known_if IsStatement MakesCase
        (λ statement selector arms. typed.case_others selector arms statement) found.value
        (λ statement is selector arms of_selector are. (of_selector, are, is))
        (statement_lawful n elsewhere around before s
        (held_before (statement_words n s) (maybe n k.Semicolon semicolon) held.1.1.1)
        (joined_clean (quiet ∷ quiet ∷ quiet ∷ found.marks ∷ maybe_quiet semicolon ∷ []) clean).1.1.1.0)
