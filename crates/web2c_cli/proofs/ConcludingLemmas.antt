-- How a run concludes: by the end of its work, by the line of a fault, or by what stopped it.
use Rattle.std.proofs.Common.{◌≡◌, ◌≢◌, ◌∙◌, ◌⊎◌, ℕ, List, Option, Result, Ok, Err, IfOk, IsErrAnd, sym, subst}
use Rattle.std.proofs.Common.{inl, inr, arith}
use Rattle.wb_ports.specs.Counts.{CountsFailure, Rose}
use Rattle.wb_base.specs.declared.faults.Fault.{Fault as Flaw}
use Rattle.wb_ports.specs.declared.shelf.FailedCall.{FailedCall}
use Rattle.web2c_cli.specs.declared.status.Status.{Status}
use Rattle.web2c_cli.specs.declared.status.Status.TheVariants as st
use Rattle.web2c_cli.specs.declared.halt.Stop.{Stop}
use Rattle.web2c_cli.specs.declared.halt.Stop.TheVariants.{Shelf, Console, Port, OutOfMemory}
use Rattle.web2c_cli.specs.declared.halt.Halt.{Halt}
use Rattle.web2c_cli.specs.declared.halt.Halt.TheVariants.{Fault, Stopped}
use Rattle.web2c_cli.specs.Status.{number_of}
use Rattle.web2c_cli.specs.CommandLine.{Request}
use Rattle.tangle_core.specs.Work.{Work, does, prints, ends, World, Cause, by_shelf, by_console, by_port, by_memory}
use Rattle.tangle_core.specs.Work.{Ends, Stops}
use Rattle.pas_run.specs.WholeRuns.{SomeRose}
use Rattle.web2c_cli.specs.Runs.{NoPortFailed}
use Rattle.web2c_cli.specs.Program.{work_of, EndsAs, StopsBy}
use Rattle.tangle_core.specs.Job.{Reaches}
use Rattle.web2c_cli.specs.inner.Reaching.{Goes, Concludes, cause_of, status_of, is_by_shelf, is_by_console, is_by_port}
use Rattle.web2c_cli.specs.inner.Running.{ConcludesAs, CountsPorts, IsOwn}
use Rattle.tangle_core.proofs.ReachingLemmas.{ended}

-- a stop that is handed on
pub concluded_by : (work : Work) (result : Result Status Stop) (stop : Stop) (last : Option FailedCall) (u v : World)
    → IsErrAnd result (λ s. s ≡ stop) → Stops work (cause_of stop last) u v → Concludes work result last u v
concluded_by work (Ok status) stop last u v is s = absurd is
concluded_by work (Err other) stop last u v is s =
    subst (λ (t : Stop). Stops work (cause_of t last) u v) (sym is) s

-- the rest of the work was concluded
pub concluded_then : (work middle : Work) (result : Result Status Stop) (last : Option FailedCall) (u v w : World)
    → Reaches work middle u v → Concludes middle result last v w → Concludes work result last u w
concluded_then work middle (Ok status) last u v w p e = p.ends (number_of status) w e
concluded_then work middle (Err stop) last u v w p s = p.stops (cause_of stop last) w s

-- a text was printed, and then the work ends
pub printed : (text line : List ℕ) (done : ℕ) (u v : World) → text ≡ line
    → Reaches (does (prints text) (ends done)) (ends done) u v → Ends (does (prints line) (ends done)) done u v
printed text line done u v is p =
    ended (does (prints line) (ends done)) done u v
    (subst (λ (t : List ℕ). Reaches (does (prints t) (ends done)) (ends done) u v) is p)

-- a halt that is handed on
pub halt_kept : {T U : Type 0} (refusal : Flaw → Work) (work : Work) (before : T → Work) (rest : U → Work)
    (result : Result U Halt) (halt : Halt) (last : Option FailedCall) (u v : World)
    → IsErrAnd result (λ h. h ≡ halt) → Goes {T = T} refusal work before (Err halt) last u v
    → Goes {T = U} refusal work rest result last u v
halt_kept refusal work before rest (Ok value) halt last u v is p = absurd is
halt_kept {T = T} {U = U} refusal work before rest (Err other) halt last u v is p =
    subst (λ (h : Halt). Goes {T = U} refusal work rest (Err h) last u v) (sym is)
    (same_halt {T = T} {U = U} refusal work before rest halt last u v p)
  where
    same_halt : {T U : Type 0} (refusal : Flaw → Work) (work : Work) (before : T → Work) (rest : U → Work) (halt : Halt)
        (last : Option FailedCall) (u v : World) → Goes {T = T} refusal work before (Err halt) last u v
        → Goes {T = U} refusal work rest (Err halt) last u v
    same_halt refusal work before rest (Fault fault) last u v p = p
    same_halt refusal work before rest (Stopped stop) last u v p = p

-- what the status of a run says of its conclusion
pub finishes : (request asked : Request) (outcome : Result Status Stop) (last : Option FailedCall) (u v : World)
    (number : ℕ) → asked ≡ request → number ≡ number_of (status_of outcome) → ConcludesAs asked outcome last u v
    → number ≢ 3 → number ≢ 4 → EndsAs request number u v
finishes request asked (Ok status) last u v number is same (readings, right, e) not_failed not_unfound = (
  readings,
  right,
  subst (λ (r : Request). Ends (work_of readings r) number u v) is
      (subst (λ (n : ℕ). Ends (work_of readings asked) n u v) (sym same) e),
)
finishes request asked (Err Shelf) last u v number is same e not_failed not_unfound = absurd (not_failed same)
finishes request asked (Err Console) last u v number is same e not_failed not_unfound = absurd (not_failed same)
finishes request asked (Err Port) last u v number is same e not_failed not_unfound = absurd (not_failed same)
finishes request asked (Err OutOfMemory) last u v number is same e not_failed not_unfound = absurd (not_unfound same)

-- the numbers of the statuses with which work ends by itself
own_number : (status : Status) → IsOwn status → (number_of status ≢ 3) × (number_of status ≢ 4)
own_number st.Done own = ((λ is. cc), (λ is. cc))
own_number st.Refused own = ((λ is. cc), (λ is. cc))
own_number st.Usage own = ((λ is. cc), (λ is. cc))
own_number st.Failed own = absurd own
own_number st.OutOfMemory own = absurd own
own_number st.Unfinished own = ((λ is. cc), (λ is. cc))
own_number st.Erroneous own = ((λ is. cc), (λ is. cc))
own_number st.TooDeep own = ((λ is. cc), (λ is. cc))

stopped_as : (request asked : Request) (cause : Cause) (u v : World) → asked ≡ request → StopsBy asked cause u v
    → StopsBy request cause u v
stopped_as request asked cause u v is s = subst (λ (r : Request). StopsBy r cause u v) is s

pub wants_memory : (request asked : Request) (outcome : Result Status Stop) (last : Option FailedCall) (u v : World)
    (number : ℕ) → asked ≡ request → number ≡ number_of (status_of outcome) → IfOk outcome IsOwn
    → ConcludesAs asked outcome last u v → number ≡ 4 → StopsBy request by_memory u v
wants_memory request asked (Ok status) last u v number is same own e unfound =
    absurd ((own_number status own).1 (sym same ∙ unfound))
wants_memory request asked (Err Shelf) last u v number is same own e unfound = absurd (omega arith)
wants_memory request asked (Err Console) last u v number is same own e unfound = absurd (omega arith)
wants_memory request asked (Err Port) last u v number is same own e unfound = absurd (omega arith)
wants_memory request asked (Err OutOfMemory) last u v number is same own e unfound =
    stopped_as request asked by_memory u v is e

pub fails : (request asked : Request) (outcome : Result Status Stop) (last : Option FailedCall) (u v : World)
    (number shelf_before shelf_now con_before con_now : ℕ) (ports_before ports_now : List ℕ) → asked ≡ request
    → number ≡ number_of (status_of outcome) → IfOk outcome IsOwn
    → CountsFailure (is_by_shelf outcome) shelf_before shelf_now
    → CountsFailure (is_by_console outcome) con_before con_now
    → CountsPorts (is_by_port outcome) ports_before ports_now → ConcludesAs asked outcome last u v → number ≡ 3
    → (Rose shelf_before shelf_now × (con_now ≡ con_before) × NoPortFailed ports_before ports_now
    × StopsBy request (by_shelf last) u v)
    ⊎ (Rose con_before con_now × (shelf_now ≡ shelf_before) × NoPortFailed ports_before ports_now
    × StopsBy request by_console u v)
    ⊎ (SomeRose ports_before ports_now × (shelf_now ≡ shelf_before) × (con_now ≡ con_before)
    × StopsBy request by_port u v)
fails request asked (Ok status) last u v number a b x y p q is same own shelf con ports e failed =
    absurd ((own_number status own).0 (sym same ∙ failed))
fails request asked (Err Shelf) last u v number a b x y p q is same own shelf con ports e failed =
    inl (shelf, con, ports, stopped_as request asked (by_shelf last) u v is e)
fails request asked (Err Console) last u v number a b x y p q is same own shelf con ports e failed =
    inr (inl (con, shelf, ports, stopped_as request asked by_console u v is e))
fails request asked (Err Port) last u v number a b x y p q is same own shelf con ports e failed =
    inr (inr (ports, shelf, con, stopped_as request asked by_port u v is e))
fails request asked (Err OutOfMemory) last u v number a b x y p q is same own shelf con ports e failed =
    absurd (omega arith)

-- a status other than 3 comes from no failed call
pub no_failure : (outcome : Result Status Stop) (number shelf_before shelf_now con_before con_now : ℕ)
    (ports_before ports_now : List ℕ) → number ≡ number_of (status_of outcome)
    → CountsFailure (is_by_shelf outcome) shelf_before shelf_now
    → CountsFailure (is_by_console outcome) con_before con_now
    → CountsPorts (is_by_port outcome) ports_before ports_now → number ≢ 3
    → (shelf_now ≡ shelf_before) × (con_now ≡ con_before) × NoPortFailed ports_before ports_now
no_failure (Ok status) number a b x y p q same shelf con ports not_failed = (shelf, con, ports)
no_failure (Err Shelf) number a b x y p q same shelf con ports not_failed = absurd (not_failed same)
no_failure (Err Console) number a b x y p q same shelf con ports not_failed = absurd (not_failed same)
no_failure (Err Port) number a b x y p q same shelf con ports not_failed = absurd (not_failed same)
no_failure (Err OutOfMemory) number a b x y p q same shelf con ports not_failed = (shelf, con, ports)
