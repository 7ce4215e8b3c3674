-- Routines that are known, and the scopes that wait for their bodies.
use Rattle.std.proofs.Common.{◌≡◌, refl, sym, ap, subst, ◌∙◌, ℕ, zero, suc, ◌+◌, arith, Bool, true, false, List, []}
use Rattle.std.proofs.Common.{◌∷◌, ◌++◌, length, Option, Some, None}
use Rattle.std.specs.Prelude.{option_map, slice_get, is_some, ◌&&◌}
use Rattle.pas_syntax.specs.Tree as tree
use Rattle.pas_syntax.specs.Tree.{Behind, TypeName, Parameter, Parameters}
use Rattle.pas_typed.specs.Types.{PasType, Table, Made}
use Rattle.pas_typed.specs.Typed.{Mode, Variable, local}
use Rattle.pas_scopes.specs.declared.scopes.Inner.{Inner as CodeInner}
use Rattle.pas_scopes.specs.declared.scopes.KnownRoutine.{KnownRoutine as CodeRoutine}
use Rattle.pas_rules.specs.Marks.{Marks, no_token, quiet, known}
use Rattle.pas_rules.specs.Scopes.{Named, Outer, Inner, spellings_of}
use Rattle.pas_rules.specs.Declarations.{named_slots, variables_of, with_locals}
use Rattle.pas_rules.specs.Routines.{Sort, procedure, function, Formal, formal_behind, more_formals}
use Rattle.pas_rules.specs.Routines.{no_formals, formals_of, missing_result, heading_by, new_inner, mode_of}
use Rattle.pas_rules.specs.Routines.{type_in_heading}
use Rattle.pas_scopes.specs.Locals.{IsWaiting, IsWaitingIf, AreWaiting}
use Rattle.pas_types.specs.inner.RoutineAnswers.{awaited_at, result_told}

-- variables as names, of which more come behind
slots_append : (n : ℕ) (variables more : List Variable)
    → named_slots local n (variables ++ more)
    ≡ named_slots local n variables ++ named_slots local (n + length variables) more
slots_append n [] more = ap (λ (m : ℕ). named_slots local m more) (omega arith)
slots_append n (first ∷ variables) more =
    let start : List Named = named_slots local n (first ∷ []) in
    ap (λ (rest : List Named). start ++ rest)
    (slots_append (suc n) variables more
    ∙ ap (λ (m : ℕ). named_slots local (suc n) variables ++ named_slots local m more) (omega arith))

-- parameters leave the number and the labels of a scope, and are its names as far as they are known
pub record Keeps (old new : Inner) (is_clear : Bool) : Type 0 where
  pub number_is : new.number ≡ old.number
  pub labels_are : new.labels ≡ old.labels
  pub names_are : is_clear ≡ true → new.names ≡ named_slots local 0 new.variables

never : (a b : Bool) → (a && b) ≡ true → b ≡ false → ⊥
never true b is is_false = absurd (cc)
never false b is is_false = absurd (cc)

both_are : (a b : Bool) → (a && b) ≡ true → (a ≡ true) × (b ≡ true)
both_are true b is = (refl, is)
both_are false b is = absurd (cc)

with_keeps : (old inner : Inner) (before : Bool) (mode : Mode) (names : List (List ℕ)) (found : Option Made)
    → Keeps old inner before
    → Keeps old (with_locals mode names (known (λ what. what.type) found) inner) (before && is_some found)
with_keeps old inner before mode names None h = record {
  number_is = h.number_is;
  labels_are = h.labels_are;
  names_are = λ is. absurd (never before false is refl);
}
with_keeps old inner before mode names (Some found) h =
    let more : List Variable = variables_of mode found.type names in
    record {
      number_is = h.number_is;
      labels_are = h.labels_are;
      names_are = λ is.
          ap (λ (all : List Named). all ++ named_slots local (length inner.variables) more)
          (h.names_are (both_are before true is).0)
          ∙ (ap (λ (m : ℕ). named_slots local 0 inner.variables ++ named_slots local m more) (omega arith)
          ∙ sym (slots_append 0 inner.variables more));
    }

unknown_keeps : (old inner : Inner) (before : Bool) → Keeps old inner before → Keeps old inner (before && false)
unknown_keeps old inner before h = record {
  number_is = h.number_is;
  labels_are = h.labels_are;
  names_are = λ is. absurd (never before false is refl);
}

behind_keeps : (outer : Outer) (old : Inner) (separator : Marks) (before : Formal) (parameter : Parameter)
    → Keeps old before.inner before.is_clear
    → Keeps old (formal_behind outer separator before parameter).inner
    (formal_behind outer separator before parameter).is_clear
behind_keeps outer old separator before (tree.parameters var idents colon found) h =
    with_keeps old before.inner before.is_clear (mode_of var) (spellings_of idents)
    (type_in_heading outer before.inner found).value h
behind_keeps outer old separator before (tree.procedure_parameter line) h =
    unknown_keeps old before.inner before.is_clear h
behind_keeps outer old separator before (tree.function_parameter line) h =
    unknown_keeps old before.inner before.is_clear h

more_keeps : (outer : Outer) (old : Inner) (before : Formal) (more : List (Behind Parameter))
    → Keeps old before.inner before.is_clear
    → Keeps old (more_formals outer before more).inner (more_formals outer before more).is_clear
more_keeps outer old before [] h = h
more_keeps outer old before (behind ∷ more) h =
    more_keeps outer old (formal_behind outer quiet before behind.item) more
    (behind_keeps outer old quiet before behind.item h)

start_keeps : (number : ℕ) → Keeps (new_inner number []) (new_inner number []) true
start_keeps number = record { number_is = refl; labels_are = refl; names_are = λ is. refl }

pub formals_keep : (outer : Outer) (number : ℕ) (parameters : Option Parameters)
    → Keeps (new_inner number []) (formals_of outer (new_inner number []) parameters).inner
    (formals_of outer (new_inner number []) parameters).is_clear
formals_keep outer number None = start_keeps number
formals_keep outer number (Some parameters) =
    let start : Inner = new_inner number [] in
    more_keeps outer start (formal_behind outer no_token (no_formals start) parameters.items.first)
    parameters.items.more
    (behind_keeps outer start no_token (no_formals start) parameters.items.first (start_keeps number))

-- what a heading tells
pub heading_told : (name : List ℕ) (sort : Sort) (variables : List Variable) (value : Option Made)
    (given : Option (Behind TypeName)) (found : Option PasType) (table : Table)
    → missing_result sort given ≡ [] → is_some found ≡ is_some given
    → value ≡ option_map (λ type. record { type = type; table = table }) found
    → heading_by name sort true variables value
    ≡ Some (record { name = name; result = result_told sort found; parameters = variables })
heading_told name procedure variables value given found table whole there is = refl
heading_told name function variables value None found table whole there is = absurd (cc)
heading_told name function variables value (Some given) None table whole there is = absurd (cc)
heading_told name function variables value (Some given) (Some found) table whole there is =
    ap (heading_by name function true variables) is

-- one routine more
pub waiting_push : (table : Table) (spellings : List ℕ) (number : ℕ) (routines : List CodeRoutine) (last : CodeRoutine)
    → AreWaiting table spellings number routines
    → IsWaitingIf table spellings (number + length routines) last.heading last.awaited
    → AreWaiting table spellings number (routines ++ last ∷ [])
waiting_push table spellings number [] last h one =
    (subst (λ (n : ℕ). IsWaitingIf table spellings n last.heading last.awaited) (omega arith) one, tt)
waiting_push table spellings number (first ∷ routines) last h one = (
  h.0,
  waiting_push table spellings (suc number) routines last h.1
      (subst (λ (n : ℕ). IsWaitingIf table spellings n last.heading last.awaited) (omega arith) one),
)

pub last_awaited : (routines : List CodeRoutine) (last : CodeRoutine)
    → awaited_at (routines ++ last ∷ []) (length routines) ≡ last.awaited
last_awaited [] last = refl
last_awaited (first ∷ routines) last = last_awaited routines last

-- the scope that waits for the body of a routine
pub waiting_at : (table : Table) (spellings : List ℕ) (start : ℕ) (routines : List CodeRoutine) (number : ℕ)
    (inner : CodeInner) → AreWaiting table spellings start routines → awaited_at routines number ≡ Some inner
    → (known : CodeRoutine) × (slice_get routines number ≡ Some known)
    × IsWaiting table spellings (start + number) known.heading inner
waiting_at table spellings start [] number inner h is = absurd (cc)
waiting_at table spellings start (first ∷ routines) zero inner h is = (
  first,
  refl,
  subst (λ (n : ℕ). IsWaiting table spellings n first.heading inner) (omega arith)
      (subst (IsWaitingIf table spellings start first.heading) is h.0),
)
waiting_at table spellings start (first ∷ routines) (suc number) inner h is =
    let found = waiting_at table spellings (suc start) routines number inner h.1 is in (
      found.0,
      found.1,
      subst (λ (n : ℕ). IsWaiting table spellings n found.0.heading inner) (omega arith) found.2,
    )
