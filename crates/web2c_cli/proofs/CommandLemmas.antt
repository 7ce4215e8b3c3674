-- The work of a command, and of a request.
use Rattle.std.proofs.Common.{◌≡◌, Option, Result, Ok, Err, IsErrAnd, refl, subst}
use Rattle.wb_base.specs.declared.faults.Fault.{Fault as Flaw}
use Rattle.wb_ports.specs.declared.shelf.FailedCall.{FailedCall}
use Rattle.tangle_core.specs.Work.{Work, World, ends}
use Rattle.tangle_core.specs.Job.{Reaches}
use Rattle.tangle_core.proofs.ReachingLemmas.{ended}
use Rattle.web2c_cli.specs.declared.command_table.Command.{Command}
use Rattle.web2c_cli.specs.declared.command_table.Command.TheVariants.{Tangle, Pooltype, Prun}
use Rattle.web2c_cli.specs.declared.status.Status.{Status}
use Rattle.web2c_cli.specs.declared.status.Status.TheVariants.{Done}
use Rattle.web2c_cli.specs.declared.halt.Stop.{Stop}
use Rattle.web2c_cli.specs.declared.halt.Halt.{Halt}
use Rattle.web2c_cli.specs.declared.halt.Halt.TheVariants.{Fault, Stopped}
use Rattle.web2c_cli.specs.Status.{number_of}
use Rattle.web2c_cli.specs.CommandLine.{Order, ordered}
use Rattle.web2c_cli.specs.Readings.{Readings}
use Rattle.web2c_cli.specs.Program.{refused, command_work, tangle_work, pooltype_work, prun_work}
use Rattle.web2c_cli.specs.inner.Reaching.{Goes, Concludes, cause_of}
use Rattle.web2c_cli.specs.inner.Running.{GoesToEnd, RunningProgram, Commanded, ConcludesAs}
use Rattle.web2c_cli.proofs.RunningLemmas.{none_read, none_wrong}
use Rattle.web2c_cli.proofs.ConcludingLemmas.{halt_kept}

-- the work of each command
pub tangle_is : (readings : Readings) (command : Command) (order : Order) → command ≡ Tangle
    → tangle_work order ≡ command_work readings command order
tangle_is readings Tangle order is = refl
tangle_is readings Pooltype order is = absurd (cc)
tangle_is readings Prun order is = absurd (cc)

pub pooltype_is : (readings : Readings) (command : Command) (order : Order) → command ≡ Pooltype
    → pooltype_work order ≡ command_work readings command order
pooltype_is readings Tangle order is = absurd (cc)
pooltype_is readings Pooltype order is = refl
pooltype_is readings Prun order is = absurd (cc)

prun_is : (readings : Readings) (command : Command) (order : Order) → command ≡ Prun
    → prun_work readings order ≡ command_work readings command order
prun_is readings Tangle order is = absurd (cc)
prun_is readings Pooltype order is = absurd (cc)
prun_is readings Prun order is = refl

-- work that is done over no Pascal text
pub was_done : (order : Order) (work : Work) (last : Option FailedCall) (u v : World)
    → work ≡ command_work none_read order.command order → Reaches work (ends (number_of Done)) u v
    → Commanded order (Ok Done) last u v
was_done order work last u v is p =
    (none_read, none_wrong, subst (λ (w : Work). Reaches w (ends (number_of Done)) u v) is p)

pub was_halted : (order : Order) (work : Work) (rest : Unit {0} → Work) (halt : Halt) (result : Result Status Halt)
    (last : Option FailedCall) (u v : World) → work ≡ command_work none_read order.command order
    → IsErrAnd result (λ h. h ≡ halt) → Goes (refused order) work rest (Err halt) last u v
    → Commanded order result last u v
was_halted order work rest halt result last u v is same p = (
  none_read,
  none_wrong,
  subst (λ (w : Work). GoesToEnd order w result last u v) is
      (halt_kept (refused order) work rest (λ status. ends (number_of status)) result halt last u v same p),
)

-- the run of a program
pub was_run : (order : Order) (result : Result Status Halt) (last : Option FailedCall) (u v : World)
    → order.command ≡ Prun → RunningProgram order result last u v → Commanded order result last u v
was_run order result last u v is (readings, right, goes) = (
  readings,
  right,
  subst (λ (w : Work). GoesToEnd order w result last u v) (prun_is readings order.command order is) goes,
)

-- the work of an order came to its end, or no further
pub order_done : (order : Order) (status : Status) (last : Option FailedCall) (u v : World)
    → Commanded order (Ok status) last u v → ConcludesAs (ordered order) (Ok status) last u v
order_done order status last u v (readings, right, p) =
    (readings, right, ended (command_work readings order.command order) (number_of status) u v p)

pub order_refused : (order : Order) (fault : Flaw) (result : Result Status Stop) (last : Option FailedCall)
    (u v w : World) → Commanded order (Err (Fault fault)) last u v → Concludes (refused order fault) result last v w
    → ConcludesAs (ordered order) result last u w
order_refused order fault (Ok status) last u v w (readings, right, p) e =
    (readings, right, p.ends (number_of status) w e)
order_refused order fault (Err stop) last u v w (readings, right, p) s =
    (readings, right, p.stops (cause_of stop last) w s)

pub order_stopped : (order : Order) (stop : Stop) (last : Option FailedCall) (u v : World)
    → Commanded order (Err (Stopped stop)) last u v → ConcludesAs (ordered order) (Err stop) last u v
order_stopped order stop last u v (readings, right, s) = (readings, right, s)
