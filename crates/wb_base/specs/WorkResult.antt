-- What clauses say of a result of work on an input. Want of memory is its one free answer: no clause says when it
-- comes.
use Rattle.std.specs.Prelude.{Result, Ok, Err, ⊤}
use Rattle.wb_base.specs.declared.faults.Fault.{Fault}
use Rattle.wb_base.specs.declared.faults.WorkErr.{WorkErr}
use Rattle.wb_base.specs.declared.faults.WorkErr.TheVariants.{Fault as of_input, OutOfMemory}

-- where the answer is a fault of the input, this holds of the fault
abbrev pub IfFault : {T : Type 0} → Result T WorkErr → (Fault → Type 0) → Type 0
IfFault (Ok value) P = ⊤
IfFault (Err (of_input fault)) P = P fault
IfFault (Err OutOfMemory) P = ⊤
