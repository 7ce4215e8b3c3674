-- What the parts of the job have done of the work.
use Rattle.std.proofs.Common.{◌≡◌, inl, ℕ, List, Option, Some, None, Result, Ok, Err, IfSome, IsErrAnd, option_map}
use Rattle.std.proofs.Common.{sym, ap, subst}
use Rattle.wb_ports.specs.Counts.{is_failed}
use Rattle.wb_ports.specs.Held.{WhereTold}
use Rattle.wb_ports.specs.Files.{Files, SameFiles, Loads, KeepsLastFailure}
use Rattle.wb_ports.specs.PortState.{PortState}
use Rattle.wb_ports.specs.declared.answers.PortErr.{PortErr}
use Rattle.wb_ports.specs.declared.answers.PortErr.TheVariants as port
use Rattle.wb_ports.specs.declared.shelf.FailedCall.{FailedCall}
use Rattle.wb_ports.specs.declared.shelf.ShelfCall.TheVariants.{Load, Create}
use Rattle.tangle_core.specs.declared.job.TangleErr.{TangleErr}
use Rattle.tangle_core.specs.declared.job.TangleErr.TheVariants.{Fault, Failed, OutOfMemory}
use Rattle.tangle_core.specs.Work.{Work, leaves, loads, does, World, with_file, IsNow, by_shelf, by_memory}
use Rattle.tangle_core.specs.Work.{StopsAct, Ends, Stops}
use Rattle.tangle_core.specs.Job.{Reaches, Going_on, world_of}
use Rattle.tangle_core.specs.inner.Going.{Goes, Loading}
use Rattle.tangle_core.specs.inner.Refusing.{by_port}
use Rattle.tangle_core.specs.inner.Writing.{LeavesFile, WritesUnfinished}
use Rattle.tangle_core.proofs.WorkLemmas.{ends_along, stops_along}
use Rattle.tangle_core.proofs.ReachingLemmas.{reaches_then, act_done, act_stopped, load_stopped, load_done, files_now}
use Rattle.tangle_core.proofs.ReachingLemmas.{last_is, left_told, unfinished_left}

-- a file was left
pub left_done : (name bytes : List ℕ) (rest : Work) (a b : Option Files) (console : Option (List ℕ))
    (ports : List (Option PortState)) → WhereTold (LeavesFile name bytes) a b
    → Reaches (does (leaves name bytes) rest) rest (world_of a console ports) (world_of b console ports)
left_done name bytes rest a b console ports l =
    act_done (leaves name bytes) rest (world_of a console ports) (world_of b console ports)
    (files_now (option_map (with_file name bytes) a) b console ports (left_told name bytes a b l))

unfinished_told : (name bytes : List ℕ) (last : Option FailedCall) (a b : Option Files) (console : Option (List ℕ))
    (ports : List (Option PortState)) → WhereTold (WritesUnfinished name bytes last) a b
    → StopsAct (leaves name bytes) (by_shelf last) (world_of a console ports) (world_of b console ports)
unfinished_told name bytes last None None console ports l = (Create, tt, inl (files_now None None console ports tt))
unfinished_told name bytes last None (Some y) console ports l = absurd l
unfinished_told name bytes last (Some x) None console ports l = absurd l
unfinished_told name bytes None (Some x) (Some y) console ports l = absurd l
unfinished_told name bytes (Some failed) (Some x) (Some y) console ports l = (
  failed.call,
  ap (λ (n : List ℕ). Some (record { call = failed.call; name = n })) l.same_name,
  unfinished_left name bytes failed.call x y console ports l.left,
)

-- a file was not left: a call failed, or memory was not found
pub left_failed : (name bytes : List ℕ) (rest : Work) (last : Option FailedCall) (a b : Option Files)
    (console : Option (List ℕ)) (ports : List (Option PortState)) → WhereTold (WritesUnfinished name bytes last) a b
    → Stops (does (leaves name bytes) rest) (by_shelf last) (world_of a console ports) (world_of b console ports)
left_failed name bytes rest last a b console ports l =
    act_stopped (leaves name bytes) rest (by_shelf last) (world_of a console ports) (world_of b console ports)
    (unfinished_told name bytes last a b console ports l)

pub left_wanting : (name bytes : List ℕ) (rest : Work) (a b : Option Files) (console : Option (List ℕ))
    (ports : List (Option PortState)) → WhereTold SameFiles a b
    → Stops (does (leaves name bytes) rest) by_memory (world_of a console ports) (world_of b console ports)
left_wanting name bytes rest a b console ports same =
    act_stopped (leaves name bytes) rest by_memory (world_of a console ports) (world_of b console ports)
    (files_now a b console ports same)

-- what an answer says of work it says of the work before
pub goes_on : (T : Type 0) (whole work : Work) (on : Going_on) (rest : T → Work) (result : Result T TangleErr)
    (last : Option FailedCall) (u v w : World) → Reaches whole work u v → Goes work on rest result last v w
    → Goes whole on rest result last u w
goes_on T whole work on rest (Ok value) last u v w first goes = reaches_then whole work (rest value) u v w first goes
goes_on T whole work on rest (Err (Fault fault)) last u v w first goes =
    reaches_then whole work (on.at_fault fault) u v w first goes
goes_on T whole work on rest (Err Failed) last u v w first goes = first.stops (by_shelf last) w goes
goes_on T whole work on rest (Err OutOfMemory) last u v w first goes = first.stops by_memory w goes

-- a refusal that is handed on
pub goes_err : (T U : Type 0) (work : Work) (on : Going_on) (rest : T → Work) (other : U → Work)
    (err : TangleErr) (last : Option FailedCall) (u v : World)
    → Goes {T = T} work on rest (Err err) last u v → Goes {T = U} work on other (Err err) last u v
goes_err T U work on rest other (Fault fault) last u v goes = goes
goes_err T U work on rest other Failed last u v goes = goes
goes_err T U work on rest other OutOfMemory last u v goes = goes

-- a load
load_goes_err : (T : Type 0) (name : List ℕ) (err : PortErr) (on : Going_on) (next : List ℕ → Work)
    (old last : Option FailedCall) (a b : Option Files) (console : Option (List ℕ)) (ports : List (Option PortState))
    → WhereTold SameFiles a b → KeepsLastFailure a Load name (is_failed {T = T} (Err err)) old last
    → Goes {T = List ℕ} (loads name next) on next (Err (by_port err)) last
    (world_of a console ports) (world_of b console ports)
load_goes_err T name port.Failed on next old last a b console ports same l =
    load_stopped name next (by_shelf last) _ _ (last_is a Load name old last l, files_now a b console ports same)
load_goes_err T name port.OutOfMemory on next old last a b console ports same l =
    load_stopped name next by_memory _ _ (files_now a b console ports same)

pub loading_failed : (T : Type 0) (name : List ℕ) (err : PortErr) (result : Result (List ℕ) TangleErr)
    (old last : Option FailedCall) (a b : Option Files) → IsErrAnd result (λ e. e ≡ by_port err)
    → WhereTold SameFiles a b → KeepsLastFailure a Load name (is_failed {T = T} (Err err)) old last
    → Loading name result last a b
loading_failed T name err (Ok value) old last a b is same l on next console ports = absurd is
loading_failed T name err (Err other) old last a b is same l on next console ports =
    subst (λ (e : TangleErr). Goes {T = List ℕ} (loads name next) on next (Err e) last
    (world_of a console ports) (world_of b console ports)) (sym is)
    (load_goes_err T name err on next old last a b console ports same l)

pub loading_done : (name text : List ℕ) (last : Option FailedCall) (a b : Option Files)
    → IfSome a (λ files. Loads files name text) → WhereTold SameFiles a b → Loading name (Ok text) last a b
loading_done name text last a b is same on next console ports =
    load_done name text next (world_of a console ports) (world_of b console ports) is
    (files_now a b console ports same)

-- a world that holds the same
pub reaches_now : (work : Work) (w v : World) → IsNow w v → Reaches work work w v
reaches_now work w v same = record {
  ends = λ status now e. ends_along work status w v now same e;
  stops = λ cause now s. stops_along work cause w v now same s;
}
