-- Declarations of constants, types and variables of the program that show no fault leave a lawful scope.
use Rattle.std.proofs.Common.{◌≡◌, refl, sym, ap, subst, ◌∙◌, ℕ, zero, suc, ◌≤◌, arith, Bool, true}
use Rattle.std.proofs.Common.{false, List, [], ◌∷◌, ◌++◌, length, Option, Some, None, IfSome, IsTrue, IsSome}
use Rattle.std.proofs.Common.{ℤ, pos, neg_ℤ, ◌≤ℤ◌, int_le}
use Rattle.std.specs.Prelude.{option_map, slice_get, find, flat_map, if◌then◌else◌}
use Rattle.std.specs.Str.{bytes_eq}
use Rattle.std.proofs.lemmas.Int.{ints}
use Rattle.std.proofs.lemmas.Float.{T_from_true}
use Rattle.std.proofs.Common.{append_assoc, append-nil}
use Rattle.std.proofs.lemmas.List.{length-append}
use Rattle.std.proofs.lemmas.Option.{IfSome_then, none-some}
use lib.Signed.{le_z_yes}
use Rattle.wb_base.specs.declared.faults.TheConstants.{WRONG_TYPE}
use Rattle.pas_tokens.specs.declared.limits.TheConstants.{GREATEST_NUMBER}
use Rattle.pas_tokens.specs.declared.kinds.Kind.{Kind}
use Rattle.pas_tokens.specs.Cutting.{wrong}
use Rattle.pas_syntax.specs.declared.operators.Sign.{Sign}
use Rattle.pas_syntax.specs.declared.operators.Sign.TheVariants as sign
use Rattle.pas_syntax.specs.Tree as tree
use Rattle.pas_syntax.specs.Tree.{Lined, ConstantRow, TypeRow, VariableRow, Rows, Constant}
use Rattle.pas_syntax.specs.Words.{Word, words_if, constant_sign, constant_words, constant_row_words, type_row_words}
use Rattle.pas_syntax.specs.Words.{variable_row_words, rows_words, type_words, idents_words}
use Rattle.pas_typed.specs.Types.{integer, all_of, is_within, same_base, PasType, Table, Made}
use Rattle.pas_typed.specs.Typed as typed
use Rattle.pas_typed.specs.Typed.{Variable, Heading, TypedProgram}
use Rattle.pas_typed.specs.Shapes.{IsLawfulTable}
use Rattle.pas_typed.specs.Lawful.{IsDeclared, variables_of}
use Rattle.pas_typed.proofs.GrowthLemmas.{Stays, stays_behind, Grows, place_stays, ordinal_stays}
use Rattle.pas_typed.proofs.LongerTables.{IsAmong-more}
use Rattle.pas_rules.specs.Marks.{quiet, Judged, means, known, checked, noted, faults_if}
use Rattle.pas_rules.specs.Scopes as scope
use Rattle.pas_rules.specs.Scopes.{Entity, Named, names, Outer, Inner, Scopes, KnownRoutine, entity_of, entity_in}
use Rattle.pas_rules.specs.Scopes.{or_else, required, spellings_of, new_names}
use Rattle.pas_rules.specs.TypeForms as forms
use Rattle.pas_rules.specs.TypeForms.{ConstantValue, constant_of, form_of}
use Rattle.pas_rules.specs.Declarations as spec
use Rattle.pas_rules.specs.Declarations.{Stage, program_scopes}
use Rattle.pas_rules.proofs.CleanLemmas.{Each, each_then, each_append, IsClean, Lawfully, joined_clean, holds}
use Rattle.pas_rules.proofs.CleanLemmas.{checked_if, known_if, at_last_clean}
use Rattle.pas_rules.proofs.HeldWords.{AreHeld, held_before, held_behind, held_next}
use Rattle.pas_rules.proofs.LawfulScopes.{so_far, IsLawfulEntity, IsLawfulHeading, variables_in, AreLawful}
use Rattle.pas_rules.proofs.LawfulValues.{IsLawfulConstant, char_lawful, undoubled_bytes, within_greatest, base_same}
use Rattle.pas_rules.proofs.LawfulValues.{both_true, within}
use Rattle.pas_rules.proofs.KnownForms.{IsPlain, ArePlain, made_known, constant_known, form_known}
use Rattle.pas_rules.proofs.LawfulForms.{IsGrown, grown_same, IsMade, form_lawful}

-- the scope of the program
abbrev pub IsNamed : TypedProgram → Named → Type 0
IsNamed program named = IsLawfulEntity program [] named.entity

pub record IsLawfulOuter (outer : Outer) : Type 0 where
  pub rows : IsLawfulTable outer.types
  pub names : Each (IsNamed (so_far outer)) outer.names
  pub clear : Each (λ named. IsPlain named.entity) outer.names
  pub headings : Each (λ found. IsLawfulHeading outer.types found.heading) outer.routines
  pub globals : Each (λ found. found.mode ≡ typed.declared) outer.globals

-- what is found among names
module _ (P : Entity → Type 0) where
  by_same : (named : Named) (same : Bool) (other : Option Named) → P named.entity
      → IfSome (option_map (λ (found : Named). found.entity) other) P
      → IfSome (option_map (λ (found : Named). found.entity) (if same then Some named else other)) P
  by_same named true other h k = h
  by_same named false other h k = k

  pub found_in : (found : List Named) (name : List ℕ) → Each (λ named. P named.entity) found
      → IfSome (entity_in found name) P
  found_in [] name h = tt
  found_in (named ∷ found) name h =
      by_same named (bytes_eq named.name name) (find (λ other. bytes_eq other.name name) found) h.0
      (found_in found name h.1)

  pub or_else_if : (one other : Option Entity) → IfSome one P → IfSome other P → IfSome (or_else one other) P
  or_else_if None other h k = k
  or_else_if (Some entity) other h k = h

-- the names that lie outside
required_lawful : (program : TypedProgram) → Each (λ named. IsLawfulEntity program [] named.entity) required
required_lawful program = (
  tt,
  (
    tt,
    (
      tt,
      (
        tt,
        (
          refl,
          (
            refl,
            (
              within_greatest GREATEST_NUMBER (omega arith),
              (
                tt,
                (
                  tt,
                  (
                    tt,
                    (
                      tt,
                      (
                        tt,
                        (
                          tt,
                          (tt, (tt, (tt, (tt, (tt, (tt, (tt, (tt, (tt, tt))))))))),
                        ),
                      ),
                    ),
                  ),
                ),
              ),
            ),
          ),
        ),
      ),
    ),
  ),
)

required_plain : Each (λ named. IsPlain named.entity) required
required_plain = (
  refl,
  (
    refl,
    (
      refl,
      (
        refl,
        (
          refl,
          (
            refl,
            (
              refl,
              (
                refl,
                (
                  refl,
                  (
                    refl,
                    (
                      refl,
                      (
                        refl,
                        (
                          refl,
                          (refl, (refl, (refl, (refl, (refl, (refl, (refl, (refl, (refl, tt))))))))),
                        ),
                      ),
                    ),
                  ),
                ),
              ),
            ),
          ),
        ),
      ),
    ),
  ),
)

-- what is lawful in the program is so in a routine
slot_within : (program : TypedProgram) (variables : List Variable) (slot : typed.Slot) (home : typed.Home)
    → slot.home ≡ home → IsDeclared (variables_of program [] home) slot
    → IsDeclared (variables_of program variables home) slot
slot_within program variables slot typed.global is h = h
slot_within program variables slot typed.local is h = absurd (none-some h.variable h.there)

entity_within : (program : TypedProgram) (variables : List Variable) (entity : Entity)
    → IsLawfulEntity program [] entity → IsLawfulEntity program variables entity
entity_within program variables (scope.constant base value) h = h
entity_within program variables (scope.type found) h = h
entity_within program variables (scope.variable slot) h = slot_within program variables slot slot.home refl h
entity_within program variables (scope.routine number) h = tt
entity_within program variables (scope.function found) h = tt
entity_within program variables (scope.file_test found) h = tt
entity_within program variables (scope.file_step found) h = tt
entity_within program variables (scope.procedure found) h = tt
entity_within program variables scope.unclear h = tt

heading_at : (table : Table) (routines : List KnownRoutine) (number : ℕ)
    → Each (λ found. IsLawfulHeading table found.heading) routines
    → IfSome (option_map (λ found. found.heading) (slice_get routines number)) (IsLawfulHeading table)
heading_at table [] number h = tt
heading_at table (found ∷ routines) zero h = h.0
heading_at table (found ∷ routines) (suc number) h = heading_at table routines number h.1

-- scopes of the program and of a routine
pub within_lawful : (outer : Outer) (inner : Inner) → IsLawfulOuter outer
    → Each (λ named. IsLawfulEntity (so_far outer) inner.variables named.entity) inner.names
    → AreLawful (spec.routine_scopes outer inner)
within_lawful outer inner h own = record {
  rows = h.rows;
  names = λ name.
      let program : TypedProgram = so_far outer in
      let P : Entity → Type 0 = IsLawfulEntity program inner.variables in
      or_else_if P (entity_in inner.names name) _ (found_in P inner.names name own)
      (or_else_if P (entity_in outer.names name) (entity_in required name)
      (found_in P outer.names name (each_then (IsNamed program) (λ named. P named.entity) outer.names
      (λ named is. entity_within program inner.variables named.entity is) h.names))
      (found_in P required name (each_then (IsNamed program) (λ named. P named.entity) required
      (λ named is. entity_within program inner.variables named.entity is) (required_lawful program))));
  headings = λ number. heading_at outer.types outer.routines number h.headings;
}

pub program_lawful : (outer : Outer) → IsLawfulOuter outer → AreLawful (program_scopes outer)
program_lawful outer h = record {
  rows = h.rows;
  names = λ name.
      let program : TypedProgram = so_far outer in
      let P : Entity → Type 0 = IsLawfulEntity program [] in
      or_else_if P (entity_in outer.names name) (entity_in required name) (found_in P outer.names name h.names)
      (found_in P required name (required_lawful program));
  headings = λ number. heading_at outer.types outer.routines number h.headings;
}

pub program_plain : (outer : Outer) → IsLawfulOuter outer → ArePlain (program_scopes outer)
program_plain outer h name =
    or_else_if IsPlain (entity_in outer.names name) (entity_in required name) (found_in IsPlain outer.names name
    h.clear)
    (found_in IsPlain required name required_plain)

pub within_plain : (outer : Outer) (inner : Inner) → IsLawfulOuter outer
    → Each (λ named. IsPlain named.entity) inner.names → ArePlain (spec.routine_scopes outer inner)
within_plain outer inner h own name =
    or_else_if IsPlain (entity_in inner.names name) (or_else (entity_in outer.names name) (entity_in required name))
    (found_in IsPlain inner.names name own) (program_plain outer h name)

-- what is lawful stays so
pub entity_stays : (program later : TypedProgram) → Grows program later → length program.types ≤ length later.types
    → (variables : List Variable) (entity : Entity) → IsLawfulEntity program variables entity
    → IsLawfulEntity later variables entity
entity_stays program later grows longer variables (scope.constant base value) h = h
entity_stays program later grows longer variables (scope.type found) h =
    IsAmong-more (length program.types) (length later.types) found longer h
entity_stays program later grows longer variables (scope.variable slot) h =
    place_stays program later grows variables (typed.slot slot) h
entity_stays program later grows longer variables (scope.routine number) h = tt
entity_stays program later grows longer variables (scope.function found) h = tt
entity_stays program later grows longer variables (scope.file_test found) h = tt
entity_stays program later grows longer variables (scope.file_step found) h = tt
entity_stays program later grows longer variables (scope.procedure found) h = tt
entity_stays program later grows longer variables scope.unclear h = tt

heading_stays : (table later : Table) → Stays table later → (heading : Heading) → IsLawfulHeading table heading
    → IsLawfulHeading later heading
heading_stays table later stays heading h = record {
  parameters = h.parameters;
  result = IfSome_then heading.result h.result (λ type is. ordinal_stays table later stays type is);
}

pub stays_same : {A : Type 0} (found : List A) → Stays found found
stays_same found = record { each = λ number item there. there }

-- with more rows; and with a name more
pub more_rows_lawful : (outer : Outer) (later : Table) → IsGrown outer.types later → IsLawfulOuter outer
    → IsLawfulOuter (record outer { types = later })
more_rows_lawful outer later grown h =
    let now : Outer = record outer { types = later } in
    record {
      rows = grown.lawful;
      names = each_then (IsNamed (so_far outer)) (IsNamed (so_far now)) outer.names
          (λ named is. entity_stays (so_far outer) (so_far now)
          (record {
            types = grown.rows;
            globals = stays_same outer.globals;
            headings = stays_same (so_far outer).headings;
          })
          grown.longer [] named.entity is) h.names;
      clear = h.clear;
      headings = each_then (λ found. IsLawfulHeading outer.types found.heading)
          (λ found. IsLawfulHeading later found.heading) outer.routines
          (λ found is. heading_stays outer.types later grown.rows found.heading is) h.headings;
      globals = h.globals;
    }

pub with_name_lawful : (outer : Outer) (name : List ℕ) (entity : Option Entity) → IsSome entity
    → IfSome entity (λ found. IsLawfulEntity (so_far outer) [] found × IsPlain found) → IsLawfulOuter outer
    → IsLawfulOuter (spec.with_name name entity outer)
with_name_lawful outer name None some is h = absurd (cc)
with_name_lawful outer name (Some entity) some is h = record {
  rows = h.rows;
  names = each_append (IsNamed (so_far outer)) outer.names (names name entity ∷ []) h.names (is.0, tt);
  clear = each_append (λ named. IsPlain named.entity) outer.names (names name entity ∷ []) h.clear (is.1, tt);
  headings = h.headings;
  globals = h.globals;
}

-- constants
negative : (number : ℤ) → neg_ℤ (pos GREATEST_NUMBER) ≤ℤ number → number ≤ℤ pos GREATEST_NUMBER
    → (neg_ℤ (pos GREATEST_NUMBER) ≤ℤ neg_ℤ number) × (neg_ℤ number ≤ℤ pos GREATEST_NUMBER)
negative number above below = (omega (arith, ints, above, below), omega (arith, ints, above, below))

negative_within : (number : ℤ) → is_within (all_of integer) number ≡ true
    → is_within (all_of integer) (neg_ℤ number) ≡ true
negative_within number is =
    let greatest : ℤ = pos GREATEST_NUMBER in
    let sides = both_true (int_le (neg_ℤ greatest) number) (int_le number greatest) is in
    let found = negative number (le_z_yes (T_from_true _ sides.0)) (le_z_yes (T_from_true _ sides.1)) in
    within (neg_ℤ greatest) (neg_ℤ number) greatest found.0 found.1

signed_lawful : (lead : Sign) (found : ConstantValue) → IsLawfulConstant found → forms.integer_only found ≡ []
    → IsLawfulConstant (forms.with_sign lead found)
signed_lawful sign.Plus found is demand = is
signed_lawful sign.Minus found is demand =
    subst (λ base. IsTrue (is_within (all_of base) (neg_ℤ found.value))) (sym base)
    (negative_within found.value (subst (λ base. IsTrue (is_within (all_of base) found.value)) base is))
  where
    base : found.base ≡ integer
    base = base_same found.base integer (holds (same_base found.base integer) (wrong WRONG_TYPE) demand)

behind_sign_lawful : (lead : Option (Lined Sign)) (found : Judged ConstantValue) → Lawfully IsLawfulConstant found
    → Lawfully IsLawfulConstant (forms.behind_sign lead found)
behind_sign_lawful None found h clean = h clean
behind_sign_lawful (Some lead) found h clean =
    let number : Judged ConstantValue = checked forms.integer_only found in
    known_if (λ value. IsLawfulConstant value × (forms.integer_only value ≡ [])) IsLawfulConstant
    (forms.with_sign lead.item) number.value (λ value is. signed_lawful lead.item value is.0 is.1)
    (checked_if IsLawfulConstant forms.integer_only found h (joined_clean (quiet ∷ number.marks ∷ []) clean).1.0)

as_constant_lawful : (program : TypedProgram) (variables : List Variable) (entity : Option Entity)
    → IfSome entity (IsLawfulEntity program variables) → Lawfully IsLawfulConstant (forms.as_constant entity)
as_constant_lawful program variables None h clean = tt
as_constant_lawful program variables (Some (scope.constant base value)) h clean = h
as_constant_lawful program variables (Some (scope.type found)) h clean = tt
as_constant_lawful program variables (Some (scope.variable found)) h clean = tt
as_constant_lawful program variables (Some (scope.routine number)) h clean = tt
as_constant_lawful program variables (Some (scope.function found)) h clean = tt
as_constant_lawful program variables (Some (scope.file_test found)) h clean = tt
as_constant_lawful program variables (Some (scope.file_step found)) h clean = tt
as_constant_lawful program variables (Some (scope.procedure found)) h clean = tt
as_constant_lawful program variables (Some scope.unclear) h clean = tt

pub constant_lawful : (scopes : Scopes) → AreLawful scopes → (n : ℕ) (found : Constant)
    → AreHeld (constant_words n found) → Lawfully IsLawfulConstant (constant_of scopes found)
constant_lawful scopes lawful n (tree.number lead numeral) held clean =
    behind_sign_lawful lead (means (forms.known_value integer (pos numeral.value)))
    (λ any. within_greatest numeral.value (held_behind (words_if (constant_sign n) lead) _ held).0.0) clean
constant_lawful scopes lawful n (tree.named lead ident) held clean =
    behind_sign_lawful lead (forms.as_constant (entity_of scopes ident.name))
    (as_constant_lawful (so_far scopes.outer) (variables_in scopes.inner) (entity_of scopes ident.name)
    (lawful.names ident.name)) clean
constant_lawful scopes lawful n (tree.text quoted) held clean =
    char_lawful (forms.undoubled quoted.text) (undoubled_bytes false quoted.text held.0.0) clean

-- a part of the declarations
pub record LeavesLawful (outer : Outer) (stage : Stage) : Type 0 where
  pub lawful : IsLawfulOuter stage.outer
  pub grows : Grows (so_far outer) (so_far stage.outer)

pub grows_same : (program : TypedProgram) → Grows program program
grows_same program = record {
  types = stays_same program.types;
  globals = stays_same program.globals;
  headings = stays_same program.headings;
}

abbrev pub Declares : {A : Type 0} → (A → List Word) → (Outer → A → Stage) → Type 0
Declares {A} words row = (outer : Outer) (found : A) → IsLawfulOuter outer → AreHeld (words found)
    → IsClean (row outer found).marks → LeavesLawful outer (row outer found)

pub constant_row_lawful : Declares constant_row_words spec.constant_row
constant_row_lawful outer found h held clean =
    let value : Judged ConstantValue = constant_of (program_scopes outer) found.value in
    let parts : Each IsClean (spec.new_name (spec.taken outer) found.name ∷ quiet ∷ value.marks ∷ quiet ∷ []) =
    joined_clean (spec.new_name (spec.taken outer) found.name ∷ quiet ∷ value.marks ∷ quiet ∷ []) clean in
    let entity : ConstantValue → Entity = λ what. scope.constant what.base what.value in
    record {
      lawful = with_name_lawful outer found.name.name (known entity value.value)
          (made_known entity value.value
          (constant_known (program_scopes outer) (program_plain outer h) found.value parts.1.1.0))
          (known_if IsLawfulConstant (λ what. IsLawfulEntity (so_far outer) [] what × IsPlain what) entity value.value
          (λ what is. (is, refl))
          (constant_lawful (program_scopes outer) (program_lawful outer h) 0 found.value
          (held_before (constant_words 0 found.value) _ held.1.1) parts.1.1.0))
          h;
      grows = grows_same (so_far outer);
    }

type_grown : (outer : Outer) (value : Option Made) → IsLawfulOuter outer → IfSome value (IsMade outer.types)
    → IsGrown outer.types (spec.types_behind outer.types value)
type_grown outer None h is = grown_same outer.types h.rows
type_grown outer (Some found) h is = is.grown

type_known : (outer : Outer) (value : Option Made) → IfSome value (IsMade outer.types)
    → IfSome (known (λ (what : Made). scope.type what.type) value)
    (λ what. IsLawfulEntity (so_far (record outer { types = spec.types_behind outer.types value })) [] what
    × IsPlain what)
type_known outer None is = tt
type_known outer (Some found) is = (is.there, refl)

pub type_row_lawful : Declares type_row_words spec.type_row
type_row_lawful outer found h held clean =
    let form : Judged Made = form_of (program_scopes outer) outer.types found.form in
    let parts : Each IsClean (spec.new_name (spec.taken outer) found.name ∷ quiet ∷ form.marks ∷ quiet ∷ []) =
    joined_clean (spec.new_name (spec.taken outer) found.name ∷ quiet ∷ form.marks ∷ quiet ∷ []) clean in
    let is : IfSome form.value (IsMade outer.types) =
    form_lawful (program_scopes outer) (program_lawful outer h) outer.types (grown_same outer.types h.rows) found.form
    parts.1.1.0 in
    let grown : IsGrown outer.types (spec.types_behind outer.types form.value) = type_grown outer form.value h is in
    let behind : Outer = record outer { types = spec.types_behind outer.types form.value } in
    record {
      lawful = with_name_lawful behind found.name.name (known (λ what. scope.type what.type) form.value)
          (made_known (λ what. scope.type what.type) form.value
          (form_known (program_scopes outer) (program_plain outer h) outer.types 0 found.form
          (held_before (type_words 0 found.form) _ held.1.1) parts.1.1.0))
          (type_known outer form.value is) (more_rows_lawful outer behind.types grown h);
      grows = record {
        types = grown.rows;
        globals = stays_same outer.globals;
        headings = stays_same (so_far outer).headings;
      };
    }

pub slice_at : {A : Type 0} (before : List A) (found : A) (after : List A)
    → slice_get (before ++ found ∷ after) (length before) ≡ Some found
slice_at [] found after = refl
slice_at (first ∷ before) found after = slice_at before found after

-- variables of the program
pub slots_lawful : (program : TypedProgram) (before variables after : List Variable)
    → program.globals ≡ before ++ (variables ++ after)
    → Each (IsNamed program) (spec.named_slots typed.global (length before) variables)
slots_lawful program before [] after is = tt
slots_lawful program before (found ∷ variables) after is = (
  record {
    variable = found;
    there = ap (λ all. slice_get all (length before)) is ∙ slice_at before found (variables ++ after);
    mode = refl;
    type = refl;
  },
  subst (λ n. Each (IsNamed program) (spec.named_slots typed.global n variables)) (omega (
    arith,
    length-append before
        (found ∷ []),
  ))
      (slots_lawful program (before ++ found ∷ []) variables after
      (is ∙ sym (append_assoc before (found ∷ []) (variables ++ after)))),
)

all_declared : (type : PasType) (spellings : List (List ℕ))
    → Each (λ found. found.mode ≡ typed.declared) (spec.variables_of typed.declared type spellings)
all_declared type [] = tt
all_declared type (name ∷ spellings) = (refl, all_declared type spellings)

pub slots_plain : (home : typed.Home) (number : ℕ) (variables : List Variable)
    → Each (λ named. IsPlain named.entity) (spec.named_slots home number variables)
slots_plain home number [] = tt
slots_plain home number (found ∷ variables) = (refl, slots_plain home (suc number) variables)

with_globals_lawful : (outer : Outer) (spellings : List (List ℕ)) (value : Option Made) → IsSome value
    → IsLawfulOuter outer → IfSome value (IsMade outer.types)
    → IsLawfulOuter (spec.with_globals spellings value outer)
    × Grows (so_far outer) (so_far (spec.with_globals spellings value outer))
with_globals_lawful outer spellings None some h is = absurd (cc)
with_globals_lawful outer spellings (Some found) some h is =
    let variables : List Variable = spec.variables_of typed.declared found.type spellings in
    let now : Outer = spec.with_globals spellings (Some found) outer in
    let grows : Grows (so_far outer) (so_far now) = record {
      types = is.grown.rows;
      globals = stays_behind outer.globals variables;
      headings = stays_same (so_far outer).headings;
    } in (
      record {
        rows = is.grown.lawful;
        names = each_append (IsNamed (so_far now)) outer.names
            (spec.named_slots typed.global (length outer.globals) variables)
            (each_then (IsNamed (so_far outer)) (IsNamed (so_far now)) outer.names
            (λ named one. entity_stays (so_far outer) (so_far now) grows is.grown.longer [] named.entity one) h.names)
            (slots_lawful (so_far now) outer.globals variables []
            (ap (λ more. outer.globals ++ more) (sym (append-nil variables))));
        clear = each_append (λ named. IsPlain named.entity) outer.names
            (spec.named_slots typed.global (length outer.globals) variables) h.clear
            (slots_plain typed.global (length outer.globals) variables);
        headings = each_then (λ routine. IsLawfulHeading outer.types routine.heading)
            (λ routine. IsLawfulHeading found.table routine.heading) outer.routines
            (λ routine one. heading_stays outer.types found.table is.grown.rows routine.heading one) h.headings;
        globals = each_append (λ found. found.mode ≡ typed.declared) outer.globals variables h.globals
            (all_declared found.type spellings);
      },
      grows,
    )

pub global_row_lawful : Declares variable_row_words spec.global_row
global_row_lawful outer found h held clean =
    let form : Judged Made = form_of (program_scopes outer) outer.types found.form in
    let spellings : List (List ℕ) = spellings_of found.names in
    let part : Judged Made = noted (spec.global_only outer spellings) form in
    let parts : Each IsClean (new_names (spec.taken outer) found.names ∷ quiet ∷ part.marks ∷ quiet ∷ []) =
    joined_clean (new_names (spec.taken outer) found.names ∷ quiet ∷ part.marks ∷ quiet ∷ []) clean in
    let form_clean : IsClean form.marks =
    at_last_clean (faults_if (spec.global_only outer spellings) form.value) form.marks parts.1.1.0 in
    let is = with_globals_lawful outer spellings form.value
    (form_known (program_scopes outer) (program_plain outer h) outer.types 0 found.form
    (held_before (type_words 0 found.form) _ (held_next (idents_words 0 found.names) _ _ held)) form_clean)
    h
    (form_lawful (program_scopes outer) (program_lawful outer h) outer.types (grown_same outer.types h.rows) found.form
    form_clean) in
    record { lawful = is.0; grows = is.1 }

-- rows one after another
pub grows_on : (program later last : TypedProgram) → Grows program later → Grows later last → Grows program last
grows_on program later last h k = record {
  types = stays_on h.types k.types;
  globals = stays_on h.globals k.globals;
  headings = stays_on h.headings k.headings;
}
  where
    stays_on : {A : Type 0} {one other another : List A} → Stays one other → Stays other another → Stays one another
    stays_on h k = record { each = λ number item there. k.each number item (h.each number item there) }

module _ {A : Type 0} (words : A → List Word) (row : Outer → A → Stage) (declares : Declares words row) where
  more_rows_leave : (outer : Outer) (found : List A) → IsLawfulOuter outer → AreHeld (flat_map words found)
      → IsClean (spec.more_rows row outer found).marks → LeavesLawful outer (spec.more_rows row outer found)
  more_rows_leave outer [] h held clean = record { lawful = h; grows = grows_same (so_far outer) }
  more_rows_leave outer (first ∷ more) h held clean =
      let before : Stage = row outer first in
      let behind : Stage = spec.more_rows row before.outer more in
      let parts : Each IsClean (before.marks ∷ behind.marks ∷ []) =
      joined_clean (before.marks ∷ behind.marks ∷ []) clean in
      let one : LeavesLawful outer before =
      declares outer first h (held_before (words first) (flat_map words more) held) parts.0 in
      let rest : LeavesLawful before.outer behind =
      more_rows_leave before.outer more one.lawful (held_behind (words first) (flat_map words more) held) parts.1.0 in
      record {
        lawful = rest.lawful;
        grows = grows_on (so_far outer) (so_far before.outer) (so_far behind.outer) one.grows rest.grows;
      }

  pub rows_leave : (kind : Kind) (outer : Outer) (rows : Option (Rows A)) → IsLawfulOuter outer
      → AreHeld (words_if (rows_words kind words) rows) → IsClean (spec.rows_of row outer rows).marks
      → LeavesLawful outer (spec.rows_of row outer rows)
  rows_leave kind outer None h held clean = record { lawful = h; grows = grows_same (so_far outer) }
  rows_leave kind outer (Some rows) h held clean =
      let found : Stage = spec.more_rows row outer (rows.first ∷ rows.more) in
      let is : LeavesLawful outer found =
      more_rows_leave outer (rows.first ∷ rows.more) h held.1 (joined_clean (quiet ∷ found.marks ∷ []) clean).1.0 in
      record { lawful = is.lawful; grows = is.grows }
