-- What a call that lists a pool leaves to be done.
use Rattle.std.proofs.Common.{◌≡◌, ℕ, List, Option, Some, None, Result, Ok, Err, IsErrAnd, sym, ap, subst}
use Rattle.wb_base.specs.declared.faults.Fault.{Fault as Flaw}
use Rattle.wb_ports.specs.declared.shelf.FailedCall.{FailedCall}
use Rattle.wb_ports.specs.Held.{Gains}
use Rattle.wb_ports.specs.Files.{Files}
use Rattle.wb_ports.specs.PortState.{PortState}
use Rattle.web_pool.specs.declared.refusals.PoolTypeErr.{PoolTypeErr}
use Rattle.web_pool.specs.declared.refusals.PoolTypeErr.TheVariants.{Fault, Failed}
use Rattle.web_pool.specs.Listing.{Listing, listing, Lists}
use Rattle.web2c_cli.specs.declared.halt.Halt.{Halt}
use Rattle.web2c_cli.specs.declared.halt.Halt.TheVariants.{Fault as at_fault, Stopped}
use Rattle.web2c_cli.specs.CommandLine.{Order}
use Rattle.tangle_core.specs.Work.{Work, World}
use Rattle.tangle_core.specs.Job.{world_of}
use Rattle.web2c_cli.specs.Program.{refused_by, printing_listing}
use Rattle.tangle_core.specs.Job.{Reaches}
use Rattle.web2c_cli.specs.inner.Reaching.{Goes, PrintingListing, halt_by_listing}
use Rattle.tangle_core.proofs.ReachingLemmas.{rest_is}
use Rattle.web2c_cli.proofs.ReachingLemmas.{printing_done, printing_failed}

-- the rest of the work went on, or no further
pub goes_then : {T : Type 0} (refusal : Flaw → Work) (work middle : Work) (rest : T → Work) (result : Result T Halt)
    (last : Option FailedCall) (u v w : World) → Reaches work middle u v → Goes refusal middle rest result last v w
    → Goes refusal work rest result last u w
goes_then refusal work middle rest (Ok value) last u v w p g = record {
  ends = λ status now e. p.ends status now (g.ends status now e);
  stops = λ cause now s. p.stops cause now (g.stops cause now s);
}
goes_then refusal work middle rest (Err (at_fault fault)) last u v w p g = record {
  ends = λ status now e. p.ends status now (g.ends status now e);
  stops = λ cause now s. p.stops cause now (g.stops cause now s);
}
goes_then refusal work middle rest (Err (Stopped stop)) last u v w p g = p.stops _ w g

-- the whole listing was printed
listed : (order : Order) (wanted : Listing) (fault : Option Flaw) (a b : Option (List ℕ)) (last : Option FailedCall)
    (files : Option Files) (ports : List (Option PortState)) → wanted.fault ≡ fault → Gains wanted.text a b
    → Reaches (printing_listing order wanted) (refused_by order fault) (world_of files a ports) (world_of files b ports)
listed order wanted fault a b last files ports is gained =
    rest_is _ _ _ _ _ (ap (refused_by order) is)
    (printing_done wanted.text a b gained (refused_by order wanted.fault) last files ports)

pub listing_done : (pool : List ℕ) (a b : Option (List ℕ)) → Lists {T = Unit {0}} (listing pool) (Ok tt) a b
    → PrintingListing pool (Ok tt) a b
listing_done pool a b l order last files ports = listed order (listing pool) None a b last files ports l.0 l.1

listing_ended : (pool : List ℕ) (err : PoolTypeErr) (a b : Option (List ℕ))
    → Lists {T = Unit {0}} (listing pool) (Err err) a b → PrintingListing pool (Err (halt_by_listing err)) a b
listing_ended pool (Fault fault) a b l order last files ports =
    listed order (listing pool) (Some fault) a b last files ports l.0 l.1
listing_ended pool Failed a b l order last files ports =
    printing_failed (listing pool).text a b l.0 l.1 (refused_by order (listing pool).fault) last files ports

pub listing_refused : (pool : List ℕ) (err : PoolTypeErr) (result : Result (Unit {0}) Halt) (a b : Option (List ℕ))
    → IsErrAnd result (λ halt. halt ≡ halt_by_listing err) → Lists {T = Unit {0}} (listing pool) (Err err) a b
    → PrintingListing pool result a b
listing_refused pool err (Ok value) a b is l = absurd is
listing_refused pool err (Err halt) a b is l =
    subst (λ (h : Halt). PrintingListing pool (Err h) a b) (sym is) (listing_ended pool err a b l)
