-- What the refusals of the job's parts become.
use Rattle.std.specs.Prelude.{Result, Ok, Err, ⊤}
use Rattle.wb_base.specs.declared.faults.Fault.{Fault as Flaw}
use Rattle.wb_base.specs.declared.faults.WorkErr.{WorkErr}
use Rattle.wb_base.specs.declared.faults.WorkErr.TheVariants as work
use Rattle.wb_ports.specs.declared.answers.PortErr.{PortErr}
use Rattle.wb_ports.specs.declared.answers.PortErr.TheVariants as port
use Rattle.tangle_core.specs.declared.emitting.EmitErr.{EmitErr}
use Rattle.tangle_core.specs.declared.emitting.EmitErr.TheVariants as emission
use Rattle.tangle_core.specs.declared.job.TangleErr.{TangleErr}
use Rattle.tangle_core.specs.declared.job.TangleErr.TheVariants.{Fault, Failed, OutOfMemory}

abbrev pub by_work : WorkErr → TangleErr
by_work (work.Fault fault) = Fault fault
by_work work.OutOfMemory = OutOfMemory

abbrev pub by_port : PortErr → TangleErr
by_port port.Failed = Failed
by_port port.OutOfMemory = OutOfMemory

abbrev pub by_emission : EmitErr → TangleErr
by_emission (emission.Fault fault) = Fault fault
by_emission emission.Failed = Failed

-- where the answer is a fault, this holds of it
abbrev pub IfJobFault : {T : Type 0} → Result T TangleErr → (Flaw → Type 0) → Type 0
IfJobFault (Ok value) P = ⊤
IfJobFault (Err (Fault fault)) P = P fault
IfJobFault (Err Failed) P = ⊤
IfJobFault (Err OutOfMemory) P = ⊤
