-- Calls of the shelf and the console, and what each has to do with the work that is to be done.
use Rattle.std.proofs.Common.{◌≡◌, ◌≢◌, ◌∙◌, ℕ, List, [], ◌++◌, Option, Some, None, Result, Ok, Err}
use Rattle.std.proofs.Common.{IfSome, IsErrAnd, take, option_map, sym, subst, append-nil}
use Rattle.wb_ports.specs.Counts.{is_failed}
use Rattle.wb_ports.specs.Held.{WhereTold, Gains, GainsPrefix}
use Rattle.wb_ports.specs.Files.{Files, SameFiles, Loads, KeepsLastFailure}
use Rattle.wb_ports.specs.PortState.{PortState}
use Rattle.wb_ports.specs.declared.answers.PortErr.{PortErr}
use Rattle.wb_ports.specs.declared.answers.PortErr.TheVariants.{Failed, OutOfMemory}
use Rattle.wb_ports.specs.declared.shelf.FailedCall.{FailedCall}
use Rattle.wb_ports.specs.declared.shelf.ShelfCall.TheVariants.{Load}
use Rattle.wb_ports.proofs.HeldLemmas.{gains_nothing}
use Rattle.wb_base.specs.declared.faults.Fault.{Fault as Flaw}
use Rattle.tangle_core.specs.Work.{prints, Work, loads, World, by_console, StopsLoad, Stops}
use Rattle.tangle_core.specs.Job.{world_of}
use Rattle.tangle_core.proofs.ReachingLemmas.{act_done, act_stopped, load_stopped, load_done, files_now, console_now}
use Rattle.tangle_core.proofs.ReachingLemmas.{last_is}
use Rattle.web2c_cli.specs.declared.halt.Stop.{Stop}
use Rattle.web2c_cli.specs.declared.halt.Stop.TheVariants.{Console}
use Rattle.web2c_cli.specs.declared.halt.Halt.{Halt}
use Rattle.web2c_cli.specs.declared.halt.Halt.TheVariants.{Stopped}
use Rattle.web2c_cli.specs.inner.Reaching.{Performs, Goes, Loading, Printing, cause_of, stop_by_port}

-- a stop that is handed on
pub stopped : {T : Type 0} (work : Work) (rest : T → Work) (result : Result T Stop) (stop : Stop)
    (last : Option FailedCall) (u v : World) → IsErrAnd result (λ s. s ≡ stop) → Stops work (cause_of stop last) u v
    → Performs work rest result last u v
stopped work rest (Ok value) stop last u v is s = absurd is
stopped work rest (Err other) stop last u v is s =
    subst (λ (t : Stop). Stops work (cause_of t last) u v) (sym is) s

-- a stop that is handed on as a halt
pub halted : {T : Type 0} (refusal : Flaw → Work) (work : Work) (rest : T → Work) (result : Result T Halt)
    (stop : Stop)
    (last : Option FailedCall) (u v : World) → IsErrAnd result (λ h. h ≡ Stopped stop)
    → Stops work (cause_of stop last) u v → Goes refusal work rest result last u v
halted refusal work rest (Ok value) stop last u v is s = absurd is
halted refusal work rest (Err other) stop last u v is s =
    subst (λ (h : Halt). Goes refusal work rest (Err h) last u v) (sym is) s

pub loading_done : (name text : List ℕ) (last : Option FailedCall) (a b : Option Files)
    → IfSome a (λ files. Loads files name text) → WhereTold SameFiles a b → Loading name (Ok text) last a b
loading_done name text last a b is same next console ports =
    load_done name text next (world_of a console ports) (world_of b console ports) is
    (files_now a b console ports same)

-- what stops a load that answered this
load_stops : (T : Type 0) (name : List ℕ) (err : PortErr) (old last : Option FailedCall) (a b : Option Files)
    (console : Option (List ℕ)) (ports : List (Option PortState)) → WhereTold SameFiles a b
    → KeepsLastFailure a Load name (is_failed {T = T} (Err err)) old last
    → StopsLoad name (cause_of (stop_by_port err) last) (world_of a console ports) (world_of b console ports)
load_stops T name Failed old last a b console ports same l =
    (last_is a Load name old last l, files_now a b console ports same)
load_stops T name OutOfMemory old last a b console ports same l = files_now a b console ports same

pub loading_failed : (T : Type 0) (name : List ℕ) (err : PortErr) (result : Result (List ℕ) Stop)
    (old last : Option FailedCall) (a b : Option Files) → IsErrAnd result (λ stop. stop ≡ stop_by_port err)
    → WhereTold SameFiles a b
    → KeepsLastFailure a Load name (is_failed {T = T} (Err err)) old last
    → Loading name result last a b
loading_failed T name err result old last a b is same l next console ports =
    stopped (loads name next) next result (stop_by_port err) last (world_of a console ports)
    (world_of b console ports) is
    (load_stopped name next (cause_of (stop_by_port err) last) (world_of a console ports) (world_of b console ports)
    (load_stops T name err old last a b console ports same l))

-- a text that was printed
appended : (text : List ℕ) (a b : Option (List ℕ)) → Gains text a b
    → Gains [] (option_map (λ held. held ++ text) a) b
appended text a None p = tt
appended text None (Some y) p = absurd p
appended text (Some x) (Some y) p = p ∙ sym (append-nil (x ++ text))

pub printing_done : (text : List ℕ) (a b : Option (List ℕ)) → Gains text a b → Printing text (Ok tt) a b
printing_done text a b p rest last files ports =
    act_done (prints text) rest (world_of files a ports) (world_of files b ports)
    (console_now files (option_map (λ held. held ++ text) a) b ports (appended text a b p))

pub printing_nothing : (text : List ℕ) (a : Option (List ℕ)) → text ≡ [] → Printing text (Ok tt) a a
printing_nothing text a is =
    printing_done text a a (subst (λ (t : List ℕ). Gains t a a) (sym is) (gains_nothing a))

pub printing_failed : (text : List ℕ) (a b : Option (List ℕ)) → text ≢ [] → GainsPrefix text a b
    → Printing text (Err Console) a b
printing_failed text a b some (n, p) rest last files ports =
    act_stopped (prints text) rest by_console (world_of files a ports) (world_of files b ports)
    (some, (n, console_now files (option_map (λ held. held ++ take n text) a) b ports (appended (take n text) a b p)))
