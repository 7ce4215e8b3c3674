-- What `IfFault` says of one error says the weaker fact of it.
use Rattle.std.proofs.Common.{Result, Ok, Err}
use Rattle.wb_base.specs.declared.faults.Fault.{Fault}
use Rattle.wb_base.specs.declared.faults.WorkErr.{WorkErr}
use Rattle.wb_base.specs.declared.faults.WorkErr.TheVariants.{Fault as of_input, OutOfMemory}
use Rattle.wb_base.specs.WorkResult.{IfFault}

pub IfFault-weaker : (A B : Type 0) (error : WorkErr) (P Q : Fault → Type 0) → ((fault : Fault) → P fault → Q fault)
    → IfFault {T = A} (Err error) P → IfFault {T = B} (Err error) Q
IfFault-weaker A B (of_input fault) P Q weaker holds = weaker fault holds
IfFault-weaker A B OutOfMemory P Q weaker holds = holds

-- the same of one result
pub IfFault-same_result : {A : Type 0} (r : Result A WorkErr) (P Q : Fault → Type 0)
    → ((fault : Fault) → P fault → Q fault) → IfFault r P → IfFault r Q
IfFault-same_result (Ok value) P Q weaker holds = holds
IfFault-same_result (Err (of_input fault)) P Q weaker holds = weaker fault holds
IfFault-same_result (Err OutOfMemory) P Q weaker holds = holds
