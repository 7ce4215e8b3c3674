-- What follows from clauses on a result.
use Rattle.std.proofs.Common.{◌≡◌, Result, Ok, Err, ap, ◌∙◌, subst, sym}
use Rattle.std.specs.Prelude.{OnOk, IfOk}
use Rattle.std.specs.Result.{IsErrAnd}
use Rattle.std.proofs.lemmas.Result.{err_from_is_err_and}
use Rattle.wb_base.specs.declared.faults.Fault.{Fault}
use Rattle.wb_base.specs.declared.faults.WorkErr.{WorkErr}
use Rattle.wb_base.specs.declared.faults.WorkErr.TheVariants.{Fault as of_input, OutOfMemory}
use Rattle.wb_base.specs.WorkResult.{IfFault}

-- two facts of a result
pub both : {T E P Q R : Type 0} (r : Result T E) → (P → Q → R) → OnOk r P → OnOk r Q → OnOk r R
both (Ok value) f p q = f p q
both (Err error) f p q = tt

-- another fact of the value
pub if_ok : {T E : Type 0} {P Q : T → Type 0} (r : Result T E) → ((value : T) → P value → Q value) → IfOk r P
    → IfOk r Q
if_ok (Ok value) f p = f value p
if_ok (Err error) f p = tt

-- another fact of the value, by two
pub if_ok_both : {T E R : Type 0} {P Q : T → Type 0} (r : Result T E) → ((value : T) → P value → R → Q value)
    → IfOk r P → OnOk r R → IfOk r Q
if_ok_both (Ok value) f p holds = f value p holds
if_ok_both (Err error) f p holds = tt

-- another fact of the fault
pub if_fault : {T : Type 0} {P Q : Fault → Type 0} (r : Result T WorkErr) → ((fault : Fault) → P fault → Q fault)
    → IfFault r P → IfFault r Q
if_fault (Ok value) f p = tt
if_fault (Err (of_input fault)) f p = f fault p
if_fault (Err OutOfMemory) f p = tt

if_fault_of : (T U : Type 0) {P Q : Fault → Type 0} (e : WorkErr) → ((fault : Fault) → P fault → Q fault)
    → IfFault {T = T} (Err e) P → IfFault {T = U} (Err e) Q
if_fault_of T U (of_input fault) f p = f fault p
if_fault_of T U OutOfMemory f p = tt

-- another fact of a fault that is handed on
pub handed_on :
    (T : Type 0) {U : Type 0} {P Q : Fault → Type 0} (r : Result U WorkErr) (e : WorkErr)
    → IsErrAnd r (λ other. other ≡ e) → ((fault : Fault) → P fault → Q fault)
    → IfFault {T = T} (Err e) P → IfFault r Q
handed_on T {U = U} {P = P} {Q = Q} r e exit f p =
    let y = err_from_is_err_and r exit in
    let is : r ≡ Err e = y.1 ∙ ap Err y.2 in
    subst (λ (r : Result U WorkErr). IfFault r Q) (sym is) (if_fault_of T U {P = P} {Q = Q} e f p)
