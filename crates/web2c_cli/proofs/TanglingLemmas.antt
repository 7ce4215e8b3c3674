-- What tangling leaves to be done.
use Rattle.std.proofs.Common.{◌≡◌, Bool, Option, Result, Ok, Err, IsErrAnd, subst, sym, ap}
use Rattle.wb_ports.specs.declared.shelf.FailedCall.{FailedCall}
use Rattle.tangle_core.specs.declared.job.Done.{Done}
use Rattle.tangle_core.specs.declared.job.Job.{Job}
use Rattle.tangle_core.specs.declared.job.TangleErr.{TangleErr}
use Rattle.tangle_core.specs.declared.job.TangleErr.TheVariants.{Fault, Failed, OutOfMemory}
use Rattle.tangle_core.specs.Work.{World, ends}
use Rattle.tangle_core.specs.Job.{Tangles, Reaches, tangling}
use Rattle.tangle_core.proofs.ReachingLemmas.{rest_is}
use Rattle.web2c_cli.specs.declared.halt.Halt.{Halt}
use Rattle.web2c_cli.specs.declared.status.Status.TheVariants.{Done as Finished}
use Rattle.web2c_cli.specs.Status.{number_of}
use Rattle.web2c_cli.specs.CommandLine.{Order}
use Rattle.web2c_cli.specs.Program.{tangle_work, job_of, going_on, telling_no_output}
use Rattle.web2c_cli.specs.inner.Reaching.{Tangling, halt_by_tangling}

-- a web that was not tangled
pub not_tangled : (order : Order) (job : Job) (err : TangleErr) (result : Result (Unit {0}) Halt)
    (last : Option FailedCall) (u v : World) → job ≡ job_of order
    → IsErrAnd result (λ halt. halt ≡ halt_by_tangling err)
    → Tangles job (going_on order (λ output. ends (number_of Finished))) (Err err) last u v
    → Tangling order result last u v
not_tangled order job err (Ok value) last u v is halt t = absurd halt
not_tangled order job err (Err halt) last u v is same t =
    subst (λ (h : Halt). Tangling order (Err h) last u v) (sym same)
    (by_error err
    (subst (λ (j : Job). Tangles j (going_on order (λ output. ends (number_of Finished))) (Err err) last u v)
    is t))
  where
    by_error : (err : TangleErr)
        → Tangles (job_of order) (going_on order (λ output. ends (number_of Finished))) (Err err) last u v
        → Tangling order (Err (halt_by_tangling err)) last u v
    by_error (Fault fault) t = t
    by_error Failed t = t
    by_error OutOfMemory t = t

-- a web that was tangled
pub was_tangled : (order : Order) (job : Job) (made : Done) (last : Option FailedCall) (u v : World)
    → job ≡ job_of order → Tangles job (going_on order (λ output. ends (number_of Finished))) (Ok made) last u v
    → Reaches (tangle_work order) (telling_no_output made.no_output (ends (number_of Finished))) u v
was_tangled order job made last u v is (output, (tells, reaches)) =
    subst (λ (j : Job). Reaches (tangling j (going_on order (λ output. ends (number_of Finished))))
    (telling_no_output made.no_output (ends (number_of Finished))) u v) is
    (rest_is _ _ _ _ _ (ap (λ (b : Bool). telling_no_output b (ends (number_of Finished))) (sym tells.no_output))
    reaches)
