-- How the tangled text of a web was given to a sink, or was not.
use Rattle.std.specs.Prelude.{Bool, true, false, Result, Ok, Err, ⊤}
use Rattle.wb_base.specs.declared.faults.Fault.{Fault as Flaw}
use Rattle.tangle_core.specs.declared.emitting.EmitErr.{EmitErr}
use Rattle.tangle_core.specs.declared.emitting.EmitErr.TheVariants.{Fault, Failed}

-- where the answer is a fault, this holds of it
abbrev pub IfFault : {T : Type 0} → Result T EmitErr → (Flaw → Type 0) → Type 0
IfFault (Ok value) P = ⊤
IfFault (Err (Fault fault)) P = P fault
IfFault (Err Failed) P = ⊤

-- whether a call of the sink failed
abbrev pub is_failed : {T : Type 0} → Result T EmitErr → Bool
is_failed (Ok value) = false
is_failed (Err (Fault fault)) = false
is_failed (Err Failed) = true
