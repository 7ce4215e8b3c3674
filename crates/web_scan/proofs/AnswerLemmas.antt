-- What holds of the value of work in steps.
use Rattle.std.proofs.Common.{◌≡◌, Bool, true, false, if◌then◌else◌, Result, Ok, Err, IfOk, refl, subst}
use Rattle.std.specs.Prelude.{⊤}
use Rattle.wb_base.specs.declared.faults.Fault.{Fault}
use Rattle.wb_base.specs.Steps.{◌>>=◌}

-- after a step and another one
pub IfOk-step :
    {A B : Type 0} (P : A → Type 0) (Q : B → Type 0) (answer : Result A Fault) (step : A → Result B Fault)
    → IfOk answer P → ((value : A) → P value → IfOk (step value) Q) → IfOk (answer >>= step) Q
IfOk-step P Q (Ok value) step holds further = further value holds
IfOk-step P Q (Err fault) step holds further = tt

-- some value is there, or none
pub any_ok : {A : Type 0} (answer : Result A Fault) → IfOk answer (λ value. ⊤)
any_ok (Ok value) = tt
any_ok (Err fault) = tt

-- what follows from it
pub IfOk-weaker : {A : Type 0} (P Q : A → Type 0) (answer : Result A Fault) → IfOk answer P
    → ((value : A) → P value → Q value) → IfOk answer Q
IfOk-weaker P Q (Ok value) holds weaker = weaker value holds
IfOk-weaker P Q (Err fault) holds weaker = tt

-- of a choice holds what holds of both
pub choice : {A : Type 0} (P : A → Type 0) (test : Bool) (one other : A) → (test ≡ true → P one)
    → (test ≡ false → P other) → P (if test then one else other)
choice P true one other holds fails = holds refl
choice P false one other holds fails = fails refl

-- what holds of the value, where it is known
pub IfOk-at : {A E : Type 0} (P : A → Type 0) (answer : Result A E) (value : A) → answer ≡ Ok value → IfOk answer P
    → P value
IfOk-at P answer value is holds =
    let Q : Result _ _ → Type 0 = λ answer. IfOk answer P in
    subst Q is holds
