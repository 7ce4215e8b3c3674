-- The parts of tangling: what is left to do once the web is known, or its fault.
use Rattle.std.proofs.Common.{◌≡◌, ◌≢◌, ◌∙◌, ℕ, List, [], ◌∷◌, ◌++◌, length, Option, Some, None, Result, Ok, Err, refl}
use Rattle.std.proofs.Common.{sym, ap}
use Rattle.std.proofs.Common.{subst, IsErrAnd, IfSome, OnErr, inl, inr, ◌⊎◌, codes, arith, length-append, ◌==◌, ◌+◌}
use Rattle.wb_base.specs.declared.faults.Fault.{Fault as Flaw}
use Rattle.wb_base.specs.declared.faults.WorkErr.{WorkErr}
use Rattle.wb_base.specs.declared.faults.WorkErr.TheVariants as input
use Rattle.wb_base.specs.declared.options.Options.{Options}
use Rattle.wb_base.specs.WorkResult.{IfFault}
use Rattle.wb_base.specs.Steps.{◌>>=◌}
use Rattle.wb_ports.specs.declared.shelf.FailedCall.{FailedCall}
use Rattle.wb_ports.specs.declared.shelf.TheConstants.{LOAD_LIMIT}
use Rattle.wb_ports.specs.Held.{WhereTold}
use Rattle.wb_ports.specs.Files.{Files, SameFiles, Loads}
use Rattle.wb_ports.specs.PortState.{PortState}
use Rattle.change_merge.specs.Lines.{Line}
use Rattle.web_pool.specs.PoolText.{pool_text}
use Rattle.web_scan.specs.Scanned.{Scanned}
use Rattle.web_scan.specs.Scan.{scan_of}
use Rattle.macro_expand.specs.Expansion.{expansion_of}
use Rattle.tangle_out.specs.Packing.{text_of_lines}
use Rattle.tangle_core.specs.declared.job.Job.{Job}
use Rattle.tangle_core.specs.declared.job.Done.{Done}
use Rattle.tangle_core.specs.declared.job.TangleErr.{TangleErr}
use Rattle.tangle_core.specs.declared.job.TangleErr.TheVariants.{Fault, Failed, OutOfMemory}
use Rattle.tangle_core.specs.Tangled.{Tangled, tangled}
use Rattle.tangle_core.specs.Outcome.{Output, Outcome, refused, broken, done, lines_with_changes, outcome, outcome_of}
use Rattle.tangle_core.specs.Outcome.{written}
use Rattle.tangle_core.specs.Work.{Work, World, does, leaves, by_memory, by_shelf, Stops}
use Rattle.tangle_core.specs.Job.{Going_on, leaves_outcome, leaves_pool, pascal_name, pool_name, tangling}
use Rattle.tangle_core.specs.Job.{Reaches, Tangles, world_of}
use Rattle.tangle_core.specs.inner.Going.{Goes}
use Rattle.tangle_core.specs.inner.Refusing.{by_work, IfJobFault}
use Rattle.tangle_core.specs.inner.Writing.{LeavesFile, WritesUnfinished}
use Rattle.tangle_core.proofs.WorkLemmas.{now_same}
use Rattle.tangle_core.proofs.ReachingLemmas.{rest_is, reaches_then, load_stopped, files_now}
use Rattle.tangle_core.proofs.GoingLemmas.{left_done, left_failed, left_wanting, reaches_now, goes_on}
use Rattle.tangle_core.proofs.WritingLemmas.{loads_same}

-- a refusal that is answered
pub handed : (T : Type 0) (work : Work) (on : Going_on) (rest : T → Work) (result : Result T TangleErr)
    (err : TangleErr) (last : Option FailedCall) (u v : World) → IsErrAnd result (λ e. e ≡ err)
    → Goes {T = T} work on rest (Err err) last u v → Goes work on rest result last u v
handed T work on rest (Ok value) err last u v is goes = absurd is
handed T work on rest (Err other) err last u v is goes =
    subst (λ (e : TangleErr). Goes {T = T} work on rest (Err e) last u v) (sym is) goes

-- the web is refused: for a fault, or for want of memory
pub input_refused : (T : Type 0) (work : Work) (on : Going_on) (rest : T → Work) (base : List ℕ)
    (r : Result Scanned Flaw) (err : WorkErr) (last : Option FailedCall) (u v : World)
    → IfFault {T = T} (Err err) (λ fault. r ≡ Err fault) → Stops work by_memory u v
    → Reaches work (leaves_outcome base on (outcome r)) u v
    → Goes {T = T} work on rest (Err (by_work err)) last u v
input_refused T work on rest base r (input.Fault fault) last u v is wanting reaches =
    rest_is _ _ _ _ _ (ap (λ (s : Result Scanned Flaw). leaves_outcome base on (outcome s)) is) reaches
input_refused T work on rest base r input.OutOfMemory last u v is wanting reaches = wanting

outcome_of-lines : (web change : List ℕ) (options : Options)
    → outcome_of web change options ≡ outcome (lines_with_changes web change >>= scan_of options)
unfolding outcome_of
outcome_of-lines web change options = refl

-- the lines are known
pub lines_known : (work : Work) (on : Going_on) (base web change : List ℕ) (options : Options) (lines : List Line)
    (u v : World) → lines_with_changes web change ≡ Ok lines
    → Reaches work (leaves_outcome base on (outcome_of web change options)) u v
    → Reaches work (leaves_outcome base on (outcome (scan_of options lines))) u v
lines_known work on base web change options lines u v is reaches =
    rest_is _ _ _ _ _
    (ap (leaves_outcome base on)
    (outcome_of-lines web change options
    ∙ ap (λ (r : Result (List Line) Flaw). outcome (r >>= scan_of options)) is)) reaches

-- or they are refused
pub lines_refused : (T : Type 0) (work : Work) (on : Going_on) (rest : T → Work) (base web change : List ℕ)
    (options : Options) (err : WorkErr) (last : Option FailedCall) (u v : World)
    → IfFault {T = T} (Err err) (λ fault. lines_with_changes web change ≡ Err fault) → Stops work by_memory u v
    → Reaches work (leaves_outcome base on (outcome_of web change options)) u v
    → Goes {T = T} work on rest (Err (by_work err)) last u v
lines_refused T work on rest base web change options err last u v is wanting reaches =
    input_refused T work on rest base (lines_with_changes web change >>= scan_of options) err last u v (faults err is)
    wanting (rest_is _ _ _ _ _ (ap (leaves_outcome base on) (outcome_of-lines web change options)) reaches)
  where
    faults : (e : WorkErr) → IfFault {T = T} (Err e) (λ fault. lines_with_changes web change ≡ Err fault)
        → IfFault {T = T} (Err e) (λ fault. (lines_with_changes web change >>= scan_of options) ≡ Err fault)
    faults (input.Fault fault) f =
        ap (λ (r : Result (List Line) Flaw). r >>= scan_of options) f
    faults input.OutOfMemory f = tt

-- the web is known
pub web_known : (work : Work) (on : Going_on) (base : List ℕ) (r : Result Scanned Flaw) (web : Scanned) (u v : World)
    → r ≡ Ok web → Reaches work (leaves_outcome base on (outcome r)) u v
    → Reaches work (leaves_outcome base on (outcome (Ok web))) u v
web_known work on base r web u v is reaches =
    rest_is _ _ _ _ _ (ap (λ (s : Result Scanned Flaw). leaves_outcome base on (outcome s)) is) reaches

-- an answer of the whole job
pub tangles_err : (T : Type 0) (job : Job) (on : Going_on) (rest : T → Work) (err : TangleErr)
    (last : Option FailedCall) (u v : World) → Goes {T = T} (tangling job on) on rest (Err err) last u v
    → Tangles job on (Err err) last u v
tangles_err T job on rest (Fault fault) last u v goes = goes
tangles_err T job on rest Failed last u v goes = goes
tangles_err T job on rest OutOfMemory last u v goes = goes

pub tangles_handed : (job : Job) (on : Going_on) (result : Result Done TangleErr) (err : TangleErr)
    (last : Option FailedCall) (u v : World) → IsErrAnd result (λ e. e ≡ err)
    → Tangles job on (Err err) last u v → Tangles job on result last u v
tangles_handed job on (Ok value) err last u v is tangles = absurd is
tangles_handed job on (Err other) err last u v is tangles =
    subst (λ (e : TangleErr). Tangles job on (Err e) last u v) (sym is) tangles

-- memory that was not found before anything was loaded
pub nothing_loaded : (job : Job) (on : Going_on) (last : Option FailedCall) (w : World)
    → Tangles job on (Err OutOfMemory) last w w
nothing_loaded job on last w = load_stopped _ _ by_memory _ _ (now_same w)

-- what is left once the web is known is first the Pascal file
pub pascal_first : (web : Scanned) (base : List ℕ) (on : Going_on) (lines : List (List ℕ)) (fault : Option Flaw)
    → (rest : Work) × (leaves_outcome base on (written web lines fault)
    ≡ does (leaves (pascal_name base) (text_of_lines lines)) rest)
pascal_first web base on lines None = (
  leaves_pool (pool_name base) (pool_text web.strings) (on.at_end (record {
    lines = lines;
    pool = pool_text web.strings;
    strings = length web.strings;
    no_output = length web.unnamed == 0;
  })),
  refl,
)
pascal_first web base on lines (Some fault) = (on.at_fault fault, refl)

-- the Pascal file was left, up to a fault
pub pascal_broken : (job : Job) (on : Going_on) (web : Scanned) (name : List ℕ) (fault : Flaw)
    (last : Option FailedCall) (u : World) (a b : Option Files) (console : Option (List ℕ))
    (ports : List (Option PortState))
    → name ≡ pascal_name job.base → (tangled (expansion_of web)).fault ≡ Some fault
    → WhereTold (LeavesFile name (text_of_lines (tangled (expansion_of web)).lines)) a b
    → Reaches (tangling job on) (leaves_outcome job.base on (outcome (Ok web))) u (world_of a console ports)
    → Reaches (tangling job on) (on.at_fault fault) u (world_of b console ports)
pascal_broken job on web name fault last u a b console ports named is left reaches =
    let text : List ℕ = text_of_lines (tangled (expansion_of web)).lines in
    let there : leaves_outcome job.base on (outcome (Ok web))
    ≡ does (leaves name text) (on.at_fault fault) =
    ap (λ (f : Option Flaw). leaves_outcome job.base on (written web (tangled (expansion_of web)).lines f)) is
    ∙ ap (λ (n : List ℕ). does (leaves n text) (on.at_fault fault)) (sym named) in
    reaches_then _ _ _ _ _ _ (rest_is _ _ _ _ _ there reaches)
    (left_done name text (on.at_fault fault) a b console ports left)

-- all that a web gives
abbrev pub output_of : Scanned → List (List ℕ) → Output
output_of web lines = record {
  lines = lines;
  pool = pool_text web.strings;
  strings = length web.strings;
  no_output = length web.unnamed == 0;
}

-- the Pascal file was left whole, and the pool is next
abbrev pub after_pascal : Job → Going_on → Scanned → Work
after_pascal job on web =
    let output = output_of web (tangled (expansion_of web)).lines in
    leaves_pool (pool_name job.base) output.pool (on.at_end output)

pub pascal_whole : (job : Job) (on : Going_on) (web : Scanned) (name : List ℕ)
    (u : World) (a b : Option Files) (console : Option (List ℕ)) (ports : List (Option PortState))
    → name ≡ pascal_name job.base → (tangled (expansion_of web)).fault ≡ None
    → WhereTold (LeavesFile name (text_of_lines (tangled (expansion_of web)).lines)) a b
    → Reaches (tangling job on) (leaves_outcome job.base on (outcome (Ok web))) u (world_of a console ports)
    → Reaches (tangling job on) (after_pascal job on web) u (world_of b console ports)
pascal_whole job on web name u a b console ports named is left reaches =
    let text : List ℕ = text_of_lines (tangled (expansion_of web)).lines in
    let there : leaves_outcome job.base on (outcome (Ok web)) ≡ does (leaves name text) (after_pascal job on web) =
    ap (λ (f : Option Flaw). leaves_outcome job.base on (written web (tangled (expansion_of web)).lines f)) is
    ∙ ap (λ (n : List ℕ). does (leaves n text) (after_pascal job on web)) (sym named) in
    reaches_then _ _ _ _ _ _ (rest_is _ _ _ _ _ there reaches)
    (left_done name text (after_pascal job on web) a b console ports left)

-- the Pascal file was not left, since a call failed or memory was not found
pub pascal_stopped : (job : Job) (on : Going_on) (web : Scanned) (name : List ℕ) (err : TangleErr)
    (last : Option FailedCall) (u : World) (a b : Option Files) (console : Option (List ℕ))
    (ports : List (Option PortState))
    → name ≡ pascal_name job.base
    → IfJobFault {T = ℕ} (Err err) (λ fault. (tangled (expansion_of web)).fault ≡ Some fault)
    → (let result : Result ℕ TangleErr = Err err in
    (result ≢ Err Failed → result ≢ Err OutOfMemory
    → WhereTold (LeavesFile name (text_of_lines (tangled (expansion_of web)).lines)) a b)
    × ((result ≡ Err Failed
    → WhereTold (WritesUnfinished name (text_of_lines (tangled (expansion_of web)).lines) last) a b)
    × (result ≡ Err OutOfMemory → WhereTold SameFiles a b)))
    → Reaches (tangling job on) (leaves_outcome job.base on (outcome (Ok web))) u (world_of a console ports)
    → Tangles job on (Err err) last u (world_of b console ports)
pascal_stopped job on web name (Fault fault) last u a b console ports named is (written_is, (failed_is, same_is))
    reaches =
    pascal_broken job on web name fault last u a b console ports named is
    (written_is (λ e. absurd (cc)) (λ e. absurd (cc))) reaches
pascal_stopped job on web name Failed last u a b console ports named is (written_is, (failed_is, same_is)) reaches =
    let first = pascal_first web job.base on (tangled (expansion_of web)).lines (tangled (expansion_of web)).fault in
    let text : List ℕ = text_of_lines (tangled (expansion_of web)).lines in
    let there : leaves_outcome job.base on (outcome (Ok web)) ≡ does (leaves name text) first.0 =
    first.1 ∙ ap (λ (n : List ℕ). does (leaves n text) first.0) (sym named) in
    let next : Reaches (tangling job on) (does (leaves name text) first.0) u (world_of a console ports) =
    rest_is _ _ _ _ _ there reaches in
    next.stops (by_shelf last) (world_of b console ports)
    (left_failed name text first.0 last a b console ports (failed_is refl))
pascal_stopped job on web name OutOfMemory last u a b console ports named is (written_is, (failed_is, same_is))
    reaches =
    let first = pascal_first web job.base on (tangled (expansion_of web)).lines (tangled (expansion_of web)).fault in
    let text : List ℕ = text_of_lines (tangled (expansion_of web)).lines in
    let there : leaves_outcome job.base on (outcome (Ok web)) ≡ does (leaves name text) first.0 =
    first.1 ∙ ap (λ (n : List ℕ). does (leaves n text) first.0) (sym named) in
    let next : Reaches (tangling job on) (does (leaves name text) first.0) u (world_of a console ports) =
    rest_is _ _ _ _ _ there reaches in
    next.stops by_memory (world_of b console ports)
    (left_wanting name text first.0 a b console ports (same_is refl))

-- ---- the pool

-- what is left of a pool with a string is an act
pool_act : (name text : List ℕ) (texts : List (List ℕ)) (rest : Work)
    → leaves_pool name (pool_text (text ∷ texts)) rest ≡ does (leaves name (pool_text (text ∷ texts))) rest
unfolding pool_text
pool_act name text texts rest = refl

no_pool : (name : List ℕ) (rest : Work) → leaves_pool name (pool_text []) rest ≡ rest
unfolding pool_text
no_pool name rest = refl

-- the pool was left, or there is none
pub pool_left : (name : List ℕ) (pool : List (List ℕ)) (rest : Work) (a b : Option Files)
    (console : Option (List ℕ)) (ports : List (Option PortState))
    → (pool ≡ [] → WhereTold SameFiles a b) → (pool ≢ [] → WhereTold (LeavesFile name (pool_text pool)) a b)
    → Reaches (leaves_pool name (pool_text pool) rest) rest (world_of a console ports) (world_of b console ports)
pool_left name [] rest a b console ports none left =
    subst (λ (w : Work). Reaches w rest (world_of a console ports) (world_of b console ports))
    (sym (no_pool name rest)) (reaches_now rest _ _ (files_now a b console ports (none refl)))
pool_left name (text ∷ texts) rest a b console ports none left =
    subst (λ (w : Work). Reaches w rest (world_of a console ports) (world_of b console ports))
    (sym (pool_act name text texts rest))
    (left_done name (pool_text (text ∷ texts)) rest a b console ports (left (λ e. absurd (cc))))

-- the pool was not left
pub pool_stopped : (name : List ℕ) (pool : List (List ℕ)) (rest : Work) (err : TangleErr) (last : Option FailedCall)
    (a b : Option Files) (console : Option (List ℕ)) (ports : List (Option PortState)) (on : Going_on)
    → (pool ≢ []) → IfJobFault {T = Unit {0}} (Err err) (λ fault. ⊥)
    → (let result : Result (Unit {0}) TangleErr = Err err in
    (result ≡ Err Failed → WhereTold (WritesUnfinished name (pool_text pool) last) a b)
    × (result ≡ Err OutOfMemory → WhereTold SameFiles a b))
    → Goes {T = Unit {0}} (leaves_pool name (pool_text pool) rest) on (λ _. rest) (Err err) last
    (world_of a console ports) (world_of b console ports)
pool_stopped name [] rest err last a b console ports on some faultless stopped = absurd (some refl)
pool_stopped name (text ∷ texts) rest (Fault fault) last a b console ports on some faultless stopped = absurd faultless
pool_stopped name (text ∷ texts) rest Failed last a b console ports on some faultless stopped =
    subst (λ (w : Work). Stops w (by_shelf last) (world_of a console ports) (world_of b console ports))
    (sym (pool_act name text texts rest))
    (left_failed name (pool_text (text ∷ texts)) rest last a b console ports (stopped.0 refl))
pool_stopped name (text ∷ texts) rest OutOfMemory last a b console ports on some faultless stopped =
    subst (λ (w : Work). Stops w by_memory (world_of a console ports) (world_of b console ports))
    (sym (pool_act name text texts rest))
    (left_wanting name (pool_text (text ∷ texts)) rest a b console ports (stopped.1 refl))

-- ---- the copy

names_differ : (base : List ℕ) → pascal_name base ≢ pool_name base
names_differ base same =
    let shorter : length (base ++ codes ".p") ≡ length base + 2 = length-append base (codes ".p") in
    let longer : length (base ++ codes ".pool") ≡ length base + 5 = length-append base (codes ".pool") in
    absurd (omega (arith, ap length same))

-- what would be loaded of the Pascal file stays once the pool is left
pub loads_still : (base text : List ℕ) (pool : List (List ℕ)) (a b : Option Files)
    → (pool ≡ [] → WhereTold SameFiles a b)
    → (pool ≢ [] → WhereTold (LeavesFile (pool_name base) (pool_text pool)) a b)
    → IfSome a (λ files. Loads files (pascal_name base) text) → IfSome b (λ files. Loads files (pascal_name base) text)
loads_still base text pool a None none left loads = tt
loads_still base text [] None (Some y) none left loads = absurd (none refl)
loads_still base text [] (Some x) (Some y) none left loads =
    loads_same x y (pascal_name base) text (none refl (pascal_name base)) loads
loads_still base text (first ∷ pool) None (Some y) none left loads = absurd (left (λ e. absurd (cc)))
loads_still base text (first ∷ pool) (Some x) (Some y) none left loads =
    let there : LeavesFile (pool_name base) (pool_text (first ∷ pool)) x y = left (λ e. absurd (cc)) in
    loads_same x y (pascal_name base) text (there.others (pascal_name base) (names_differ base)) loads

pub pool_refused : (job : Job) (on : Going_on) (web : Scanned) (name : List ℕ) (pool : List (List ℕ)) (err : TangleErr)
    (last : Option FailedCall) (u : World) (a b : Option Files) (console : Option (List ℕ))
    (ports : List (Option PortState))
    → name ≡ pool_name job.base → pool ≡ web.strings
    → pool ≢ [] → IfJobFault {T = Unit {0}} (Err err) (λ fault. ⊥)
    → (let result : Result (Unit {0}) TangleErr = Err err in
    (result ≡ Err Failed → WhereTold (WritesUnfinished name (pool_text pool) last) a b)
    × (result ≡ Err OutOfMemory → WhereTold SameFiles a b))
    → Reaches (tangling job on) (after_pascal job on web) u (world_of a console ports)
    → Tangles job on (Err err) last u (world_of b console ports)
pool_refused job on web name pool err last u a b console ports named same some faultless stopped reaches =
    let rest : Work = on.at_end (output_of web (tangled (expansion_of web)).lines) in
    let there : after_pascal job on web ≡ leaves_pool name (pool_text pool) rest =
    ap (λ (n : List ℕ). leaves_pool n (pool_text web.strings) rest) (sym named)
    ∙ ap (λ (p : List (List ℕ)). leaves_pool name (pool_text p) rest) (sym same) in
    tangles_err (Unit {0}) job on (λ _. rest) err last u (world_of b console ports)
    (goes_on (Unit {0}) (tangling job on) (leaves_pool name (pool_text pool) rest) on (λ _. rest) (Err err) last u
    (world_of a console ports) (world_of b console ports) (rest_is _ _ _ _ _ there reaches)
    (pool_stopped name pool rest err last a b console ports on some faultless stopped))

pub pool_done : (job : Job) (on : Going_on) (web : Scanned) (name : List ℕ) (pool : List (List ℕ))
    (u : World) (a b : Option Files) (console : Option (List ℕ)) (ports : List (Option PortState))
    → name ≡ pool_name job.base → pool ≡ web.strings
    → (pool ≡ [] → WhereTold SameFiles a b) → (pool ≢ [] → WhereTold (LeavesFile name (pool_text pool)) a b)
    → Reaches (tangling job on) (after_pascal job on web) u (world_of a console ports)
    → Reaches (tangling job on) (on.at_end (output_of web (tangled (expansion_of web)).lines)) u
    (world_of b console ports)
pool_done job on web name pool u a b console ports named same none left reaches =
    let rest : Work = on.at_end (output_of web (tangled (expansion_of web)).lines) in
    let there : after_pascal job on web ≡ leaves_pool name (pool_text pool) rest =
    ap (λ (n : List ℕ). leaves_pool n (pool_text web.strings) rest) (sym named)
    ∙ ap (λ (p : List (List ℕ)). leaves_pool name (pool_text p) rest) (sym same) in
    reaches_then _ _ _ _ _ _ (rest_is _ _ _ _ _ there reaches)
    (pool_left name pool rest a b console ports none left)
