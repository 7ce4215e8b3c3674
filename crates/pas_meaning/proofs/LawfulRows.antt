-- Programs that are lawful: one with an array, a function and a variable parameter, and one with two files.
use Rattle.std.proofs.Common.{◌≡◌, ℕ, zero, suc, ◌<◌, List, [], ◌∷◌, Some, arith, refl, inl, All, slice_get, find, ◌==◌}
use Rattle.std.proofs.Common.{IsSome, IsSomeAnd, IfSome}
use Rattle.std.specs.Prelude.{⊤}
use Rattle.std.specs.List.{IsDistinct}
use Rattle.pas_typed.specs.Typed as typed
use Rattle.pas_typed.specs.Typed.{Variable, Slot, Heading, Body, TypedProgram}
use Rattle.pas_typed.specs.Lawful.{IsDeclared, IsOrdinal, IsFile, IsLawfulTarget, IsLawfulItem, IsLawfulBody}
use Rattle.pas_typed.specs.Lawful.{IsLawful}
use Rattle.pas_meaning.specs.TrialRows.{index_behind_right_side, copying}

all_one : {A : Type 0} (P : A → Type 0) (x : A) → P x → All P (x ∷ [])
all_one P x is zero d less = is
all_one P x is (suc k) d less = absurd (omega (arith, less))

abbrev Each : {A : Type 0} → (A → Type 0) → List A → Type 0
Each P [] = ⊤
Each P (x ∷ xs) = P x × Each P xs

all_from : {A : Type 0} (P : A → Type 0) (xs : List A) → Each P xs → All P xs
all_from P [] each k d less = absurd (omega (arith, less))
all_from P (x ∷ xs) each zero d less = each.0
all_from P (x ∷ xs) each (suc k) d less = all_from P xs each.1 k d (omega (arith, less))

here : (variables : List Variable) (slot : Slot) (variable : Variable) → slice_get variables slot.number ≡ Some variable
    → variable.mode ≡ slot.mode → variable.type ≡ slot.type → IsDeclared variables slot
here variables slot variable there mode type =
    record { variable = variable; there = there; mode = mode; type = type }

abbrev declared : Variable → Type 0
declared variable = variable.mode ≡ typed.declared

abbrev filed : TypedProgram → ℕ → Type 0
filed program file = IsSomeAnd (slice_get program.globals file) (λ found. IsFile program.types found.type)

abbrev ordinal : TypedProgram → Heading → Type 0
ordinal program heading = IfSome heading.result (IsOrdinal program.types)

pub call_is_lawful : IsLawful index_behind_right_side
unfolding IsDistinct
call_is_lawful =
    record {
      types = (tt, refl, tt);
      globals = all_from declared index_behind_right_side.globals (refl, (refl, (refl, tt)));
      files = all_from (filed index_behind_right_side) index_behind_right_side.files (refl, tt);
      files_once = (tt, tt);
      results = all_from (ordinal index_behind_right_side) index_behind_right_side.headings (refl, tt);
      bodies = all_from (IsLawfulBody index_behind_right_side) index_behind_right_side.bodies (
        record {
          heading = _;
          there = refl;
          others = [];
          variables = refl;
          declared = all_from declared [] tt;
          statements = (
            (here _ _ _ refl refl refl, (here _ _ _ refl refl refl, refl, refl, refl), inl (refl, refl)),
            ((refl, refl, (refl, refl)), tt),
          );
        },
        tt,
      );
      bodies_once = (tt, tt);
      routines = routines;
      statements = (
        (here _ _ _ refl refl refl, refl, inl (refl, refl)),
        (
          ((here _ _ _ refl refl refl, refl, refl, refl), refl, inl (refl, refl)),
          (
            ((here _ _ _ refl refl refl, refl, refl, refl), refl, inl (refl, refl)),
            (
              (
                (here _ _ _ refl refl refl, here _ _ _ refl refl refl, refl, refl),
                (_, refl, refl, (refl, refl, here _ _ _ refl refl refl, refl, tt)),
                inl (refl, refl),
              ),
              (
                (
                  (here _ _ _ refl refl refl, refl),
                  all_one (IsLawfulItem index_behind_right_side []) _
                      (((((here _ _ _ refl refl refl, refl, refl, refl), refl, refl, refl), refl), refl), tt),
                ),
                (
                  (
                    (here _ _ _ refl refl refl, refl),
                    all_one (IsLawfulItem index_behind_right_side []) _
                        (((((here _ _ _ refl refl refl, refl, refl, refl), refl, refl, refl), refl), refl), tt),
                  ),
                  tt,
                ),
              ),
            ),
          ),
        ),
      );
    }
  where
    routines : (routine : ℕ) → routine < 1
        → IsSome (find (λ (body : Body). body.routine == routine) index_behind_right_side.bodies)
    routines zero less = refl
    routines (suc routine) less = absurd (omega (arith, less))

pub copying_is_lawful : IsLawful copying
unfolding IsDistinct
copying_is_lawful = record {
  types = tt;
  globals = all_from declared copying.globals (refl, (refl, (refl, tt)));
  files = all_from (filed copying) copying.files (refl, (refl, tt));
  files_once = ((refl, tt), (tt, tt));
  results = all_from (ordinal copying) copying.headings tt;
  bodies = all_from (IsLawfulBody copying) copying.bodies tt;
  bodies_once = tt;
  routines = λ routine less. absurd (omega (arith, less));
  statements = (
    (
      (((here _ _ _ refl refl refl, refl), refl), refl),
      (
        ((here _ _ _ refl refl refl, refl), all_one (IsLawfulTarget copying []) _ (here _ _ _ refl refl refl, refl)),
        (
          (
            (here _ _ _ refl refl refl, refl),
            all_one (IsLawfulItem copying []) _ ((here _ _ _ refl refl refl, refl), tt),
          ),
          tt,
        ),
      ),
    ),
    tt,
  );
}
