-- Whole runs, one thing behind another.
use Rattle.std.proofs.Common.{◌≡◌, ℕ, zero, suc, ◌+◌, ◌<◌, ◌≤◌, List, [], ◌∷◌, length, map, drop, slice_get, Some}
use Rattle.std.proofs.Common.{arith, refl, sym, ap, ◌∙◌, subst, Ok, Err}
use Rattle.std.proofs.Common.{get_or, unwrap_or}
use Rattle.std.proofs.lemmas.List.{length-map}
use Rattle.std.proofs.lemmas.Option.{same_Some, slice_get-get_or}
use Rattle.pas_typed.specs.Typed as typed
use Rattle.pas_typed.specs.Typed.{Variable, TypedProgram}
use Rattle.pas_meaning.specs.declared.errors.TheConstants.{CALL_LIMIT}
use Rattle.pas_meaning.specs.Outcome.{Doing, halted, stop, ◌>>=◌, ◌>>◌}
use Rattle.pas_meaning.specs.Store.{Store}
use Rattle.pas_meaning.specs.Run.{Flow, start}
use Rattle.pas_meaning.specs.Standing.{Kinds}
use Rattle.pas_meaning.specs.Laws.{Goes}
use Rattle.pas_meaning.specs.Trial.{begun_by, begin_files, no_variable, parameters_of, whole_run}
use Rattle.pas_meaning.proofs.OnwardLemmas.{goes_then, goes_bind, goes_pure}
use Rattle.pas_meaning.proofs.OnwardLemmas.{goes_stop, goes_if, goes_reset, goes_rewrite}
use Rattle.pas_meaning.proofs.GoesLemmas.{goes_within}
use Rattle.std.proofs.Common.{None}
use Rattle.pas_meaning.specs.Outcome.{World, Outcome, gives, ends, errs}
use Rattle.pas_meaning.specs.Laws.{world_of}
use Rattle.pas_run.specs.inner.MachineState.{IsWorld}
use Rattle.pas_run.specs.inner.Doings.{IsMoment, EndsWith, StopsBy}
use Rattle.pas_run.specs.inner.Starting.{EndsAs}
use Rattle.wb_ports.specs.PortState.{PortState}
use Rattle.pas_typed.specs.Types.{text, same_type}
use Rattle.pas_typed.specs.Lawful.{IsLawful}
use Rattle.pas_meaning.specs.Standing.{kind_of, kinds_at_start}
use Rattle.pas_meaning.specs.Trial.{cells_from, file_given, files_given, run_at_start, result_of, pascal_trial}
use Rattle.pas_meaning.proofs.StartKeeps.{stands_at_start, knows_at_start}
use Rattle.pas_run.specs.declared.files.FileState.{FileState}
use Rattle.pas_run.specs.declared.files.Usage.{Usage}
use Rattle.pas_run.specs.declared.files.Usage.TheVariants as usage
use Rattle.pas_run.specs.declared.files.Ahead.TheVariants as ahead
use Rattle.pas_run.specs.declared.layouts.Layout.{Layout}
use Rattle.pas_run.specs.declared.layouts.Layouts.{Layouts}
use Rattle.pas_run.specs.RunFiles.{mode_of, IsRead, WhileRead, IsFile}
use Rattle.pas_run.specs.inner.FlatStore.{flat_row}
use Rattle.pas_run.specs.inner.Scenes.{AreLayouts, IsAt}
use Rattle.pas_run.specs.declared.ends.Stop.{Stop}
use Rattle.pas_run.specs.declared.ends.Stop.TheVariants as why_stop
use Rattle.pas_run.specs.declared.ends.Flow.{Flow as CodeFlow}
use Rattle.pas_run.specs.inner.MachineState.{KeptFile, MachineState, AreFiles, IsRun, failures_of}
use Rattle.pas_run.specs.inner.Doings.{Any, Does}
use Rattle.pas_run.specs.inner.Running.{IsFlow, statement_of, LeadsTo}
use Rattle.pas_run.proofs.DoesLemmas.{does_stop, does_next, does_pure}

-- files at the start
goes_begun : (file : ℕ) (name : List ℕ) → Goes (begun_by file name)
goes_begun file name = goes_if _ (goes_reset file) (goes_if _ (goes_rewrite file) (goes_pure tt))

pub goes_begin_files : (file : ℕ) (parameters : List Variable) → Goes (begin_files file parameters)
goes_begin_files file [] = goes_pure tt
goes_begin_files file (found ∷ parameters) =
    goes_then (goes_begun file found.name) (goes_begin_files (suc file) parameters)

-- what is left of the files from one on
abbrev pub begin_from : List Variable → ℕ → Doing Store (Unit {0})
begin_from parameters i = begin_files i (drop i parameters)

from_there : (file : ℕ) (parameters : List Variable) (i : ℕ) (found : Variable)
    → slice_get parameters i ≡ Some found
    → begin_files file (drop i parameters)
    ≡ begun_by file found.name >> begin_files (suc file) (drop (suc i) parameters)
from_there file [] i found is = absurd (cc)
from_there file (first ∷ parameters) zero found is =
    ap (λ (found : Variable). begun_by file found.name >> begin_files (suc file) parameters) (same_Some first found is)
from_there file (first ∷ parameters) (suc i) found is = from_there file parameters i found is

next_from : (parameters : List Variable) (i : ℕ) (found : Variable) → slice_get parameters i ≡ Some found
    → begin_from parameters i ≡ begun_by i found.name >> begin_from parameters (i + 1)
next_from parameters i found is =
    let next : suc i ≡ i + 1 = omega arith in
    from_there i parameters i found is
    ∙ ap (λ (k : ℕ). begun_by i found.name >> begin_from parameters k) next

module _ (parameters : List Variable) (kinds : Kinds) (before : MachineState) where
  abbrev pub Leads : ℕ → MachineState → Type 0
  Leads i now =
      LeadsTo {T = Unit {0}} kinds Any (λ most. begin_files 0 parameters) (λ most. begin_from parameters i) before now

  pub leads_none : Leads 0 before
  leads_none = record { each = λ end result does most. does most }

  module _ (i : ℕ) (between : MachineState) (leads : Leads i between) (found : Variable)
      (is : slice_get parameters i ≡ Some found) (name : List ℕ) (named : name ≡ found.name) (now : MachineState) where
    pub leads_next : ((most : ℕ) → Does {T = Unit {0}} most kinds kinds Any (begun_by i name) between now (Ok (tt {0})))
        → Leads (i + 1) now
    leads_next does = record {
      each = λ end result rest most. leads.each end result (λ most. subst
          (λ (doing : Doing Store (Unit {0})). Does most kinds kinds Any doing between end result)
          (sym (next_from parameters i found is))
          (does_next {T = Unit {0}} {U = Unit {0}} most kinds kinds kinds Any Any (begun_by i found.name)
          (λ done. begin_from parameters (i + 1)) between now end (tt {0}) result
          (goes_begun i found.name)
          (subst
          (λ (name : List ℕ). Does {T = Unit {0}} most kinds kinds Any (begun_by i name) between now (Ok (tt {0})))
          named (does most))
          (λ done any. rest most))) most;
    }

    pub leads_stop : (why : Stop)
        → ((most : ℕ) → Does {T = Unit {0}} most kinds kinds Any (begun_by i name) between now (Err why))
        → (most : ℕ) → Does {T = Unit {0}} most kinds kinds Any (begin_files 0 parameters) before now (Err why)
    leads_stop why does most =
        leads.each now (Err why) (λ most. subst
        (λ (doing : Doing Store (Unit {0})). Does {T = Unit {0}} most kinds kinds Any doing between now (Err why))
        (sym (next_from parameters i found is))
        (does_stop {T = Unit {0}} {U = Unit {0}} most kinds kinds kinds Any Any (begun_by i found.name)
        (λ done. begin_from parameters (i + 1)) between now why
        (λ done. goes_begin_files (i + 1) (drop (i + 1) parameters))
        (subst (λ (name : List ℕ). Does {T = Unit {0}} most kinds kinds Any (begun_by i name) between now (Err why))
        named (does most)))) most

  drop_past : (i : ℕ) (xs : List Variable) → length xs ≤ i → drop i xs ≡ []
  drop_past zero [] less = refl
  drop_past (suc i) [] less = refl
  drop_past zero (x ∷ xs) less = absurd (omega (arith, less))
  drop_past (suc i) (x ∷ xs) less = drop_past i xs (omega (arith, less))

  pub leads_all : (i : ℕ) (now : MachineState) → Leads i now → length parameters ≤ i → (most : ℕ)
      → Does {T = Unit {0}} most kinds kinds Any (begin_files 0 parameters) before now (Ok (tt {0}))
  leads_all i now leads less most =
      leads.each now (Ok (tt {0})) (λ most. subst (λ (rest : List Variable). Does {T = Unit {0}} most kinds kinds Any
      (begin_files i rest) now now (Ok (tt {0}))) (sym (drop_past i parameters less))
      (does_pure most kinds Any (tt {0}) (tt {0}) now tt)) most

-- a whole run
module _ (program : TypedProgram) (kinds : Kinds) (most : ℕ) (before : MachineState) where
  abbrev whole : Doing Store (Unit {0})
  whole = whole_run (Some CALL_LIMIT) program most

  abbrev run_of : Doing Store Flow
  run_of = statement_of program most start (typed.compound program.statements)

  abbrev begins : Doing Store (Unit {0})
  begins = begin_files 0 (parameters_of program)

  abbrev then_halted : Doing Store (Unit {0})
  then_halted = run_of >>= (λ flow. stop (halted 0))

  goes_halted : Goes then_halted
  goes_halted =
      goes_bind (goes_within (Some CALL_LIMIT) program (suc most) start (typed.compound program.statements))
      (λ flow. goes_stop (halted 0))

  pub run_not_begun : (now : MachineState) (why : Stop)
      → Does {T = Unit {0}} most kinds kinds Any begins before now (Err why)
      → Does {T = Unit {0}} most kinds kinds Any whole before now (Err why)
  run_not_begun now why does =
      does_stop {T = Unit {0}} {U = Unit {0}} most kinds kinds kinds Any Any begins (λ done. then_halted) before now why
      (λ done. goes_halted) does

  module _ (between : MachineState)
      (begun : Does {T = Unit {0}} most kinds kinds Any begins before between (Ok (tt {0}))) where
    pub run_stopped : (now : MachineState) (why : Stop)
        → Does {T = CodeFlow} most kinds kinds IsFlow run_of between now (Err why)
        → Does {T = Unit {0}} most kinds kinds Any whole before now (Err why)
    run_stopped now why does =
        does_next {T = Unit {0}} {U = Unit {0}} most kinds kinds kinds Any Any begins (λ done. then_halted) before
        between now (tt {0}) (Err why) (goes_begin_files 0 (parameters_of program)) begun
        (λ done any. does_stop {T = CodeFlow} {U = Unit {0}} most kinds kinds kinds IsFlow Any run_of
        (λ flow. stop (halted 0)) between now why (λ flow. goes_stop (halted 0)) does)

    pub run_done : (now : MachineState) (flow : CodeFlow)
        → Does {T = CodeFlow} most kinds kinds IsFlow run_of between now (Ok flow)
        → Does {T = Unit {0}} most kinds kinds Any whole before now (Err (why_stop.Halted 0))
    run_done now flow does =
        does_next {T = Unit {0}} {U = Unit {0}} most kinds kinds kinds Any Any begins (λ done. then_halted) before
        between now (tt {0}) (Err (why_stop.Halted 0)) (goes_begin_files 0 (parameters_of program)) begun
        (λ done any. does_next {T = CodeFlow} {U = Unit {0}} most kinds kinds kinds IsFlow Any run_of
        (λ flow. stop (halted 0)) between now now flow (Err (why_stop.Halted 0))
        (goes_within (Some CALL_LIMIT) program (suc most) start (typed.compound program.statements)) does
        (λ found is. record {
          each = λ ports run stands within. (run.world, record { same = refl; stands = stands.world });
        }))

-- the parameter with a number; and the files that are as many where all failures are the same
pub parameter_there : (program : TypedProgram) (i : ℕ) → i < length program.files
    → slice_get (parameters_of program) i ≡ Some (get_or (parameters_of program) i no_variable)
parameter_there program i less =
    slice_get-get_or (parameters_of program) i no_variable
    (omega (
      arith,
      less,
      length-map program.files
          (λ (variable : ℕ). unwrap_or (slice_get program.globals variable) no_variable),
    ))

pub as_many_files : (files others : List KeptFile) → failures_of files ≡ failures_of others
    → length files ≡ length others
as_many_files files others same =
    omega (
      arith,
      ap length same,
      length-map files (λ (kept : KeptFile). kept.failures),
      length-map others (λ (kept : KeptFile). kept.failures),
    )

pub length-parameters : (program : TypedProgram) → length (parameters_of program) ≡ length program.files
length-parameters program =
    length-map program.files (λ (variable : ℕ). unwrap_or (slice_get program.globals variable) no_variable)

-- at the start: a file over a port that is not used yet, the scene of a program, and the run
pub file_at_start : (port : PortState) (found : Variable) (state : FileState)
    → state ≡ record {
      is_text = same_type found.type text;
      usage = usage.Unused;
      ahead = ahead.Unknown;
      last = None;
      buffer = None;
    }
    → IsFile port state (Some port) (file_given (found, port.bytes))
file_at_start port found state is = record {
  kind = sym (ap (λ (state : FileState). state.is_text) is);
  bytes = refl;
  mode = sym (ap (λ (state : FileState). mode_of state.usage) is);
  buffer = sym (ap (λ (state : FileState). state.buffer) is);
  name = refl;
  finishes = refl;
  starts = refl;
  read = subst (λ (used : Usage). WhileRead used (IsRead state port (file_given (found, port.bytes))))
      (sym (ap (λ (state : FileState). state.usage) is)) tt;
}

module _ (program : TypedProgram) (lawful : IsLawful program) where
  pub scene_at_start : (layouts : Layouts) (locals : Layout) → AreLayouts program layouts
      → locals ≡ record { offsets = []; cells = 0 } → IsAt program layouts locals [] None (kinds_at_start program)
  scene_at_start layouts locals are is = record {
    lawful = lawful;
    all_laid = are;
    laid = record {
      many = ap (λ (layout : Layout). length layout.offsets) is;
      each = λ number less. absurd (omega (arith, less));
      cells = ap (λ (layout : Layout). layout.cells) is;
    };
    knows = knows_at_start program lawful;
    global_row = refl;
    others = map (kind_of program.types) program.globals;
    top_row = refl;
  }

  pub run_stands : (ports : List PortState) (given : List (List ℕ)) (steps : ℕ) (machine : MachineState)
      → machine.activations ≡ flat_row (kinds_at_start program) (cells_from program 0 program.globals) ∷ []
      → machine.steps ≡ steps → machine.calls ≡ 0 → AreFiles ports machine.files (files_given program given)
      → IsRun (kinds_at_start program) ports machine (run_at_start program given steps)
  run_stands ports given steps machine cells steps_are calls files_are = record {
    activations = cells;
    stands = stands_at_start program lawful;
    world = record { steps = steps_are; calls = calls; files = files_are };
  }

-- what stops a whole run is how the trial ends
world_left : (outcome : Outcome Store (Unit {0})) → world_of outcome ≡ (result_of outcome).world
world_left (gives value run) = refl
world_left (ends end world) = refl
world_left (errs kind world) = refl

module _ (kinds : Kinds) (ports : List PortState) (first : World) (outcome : Outcome Store (Unit {0}))
    (now : MachineState) where
  ends_with : (world : World) (end : Outcome Store (Unit {0}))
      → EndsWith {A = Unit {0}} {T = Unit {0}} kinds ports Any first outcome now world end
      → IsWorld ports now (result_of end).world
      → ((result_of outcome).ending ≡ (result_of end).ending) × IsWorld ports now (result_of outcome).world
  ends_with world end is stands = (
    ap (λ (outcome : Outcome Store (Unit {0})). (result_of outcome).ending) is.same,
    subst (λ (outcome : Outcome Store (Unit {0})). IsWorld ports now (result_of outcome).world) (sym is.same) stands,
  )

  stops_as : (why : Stop) → StopsBy {A = Unit {0}} {T = Unit {0}} kinds ports Any first outcome now why
      → EndsAs ports first (result_of outcome) now why
  stops_as (why_stop.Halted status) h = ends_with h.0 _ h.1 h.1.stands
  stops_as why_stop.Going h = ends_with h.0 _ h.1 h.1.stands
  stops_as (why_stop.Wrong kind) h = ends_with h.0 _ h.1 h.1.stands
  stops_as why_stop.TooDeep h = ends_with h.0 _ h.1 h.1.stands
  stops_as why_stop.PortFailed h = subst (IsMoment now.files first) (world_left outcome) h
  stops_as why_stop.OutOfMemory h = tt

pub trial_ends : (program : TypedProgram) (given : List (List ℕ)) (steps : ℕ) (kinds : Kinds) (ports : List PortState)
    (before now : MachineState) (why : Stop) → IsRun kinds ports before (run_at_start program given steps)
    → Does {T = Unit {0}} steps kinds kinds Any (whole_run (Some CALL_LIMIT) program steps) before now (Err why)
    → EndsAs ports (run_at_start program given steps).world (pascal_trial program given steps) now why
unfolding pascal_trial
trial_ends program given steps kinds ports before now why stands does =
    stops_as kinds ports (run_at_start program given steps).world
    (whole_run (Some CALL_LIMIT) program steps (run_at_start program given steps)) now why
    (does.each ports (run_at_start program given steps) stands (omega arith))

pub trial_gives : (program : TypedProgram) (given : List (List ℕ)) (steps : ℕ) (kinds : Kinds)
    (ports : List PortState) (before now : MachineState) → IsRun kinds ports before (run_at_start program given steps)
    → Does {T = Unit {0}} steps kinds kinds Any (whole_run (Some CALL_LIMIT) program steps) before now (Ok (tt {0}))
    → EndsAs ports (run_at_start program given steps).world (pascal_trial program given steps) now (why_stop.Halted 0)
unfolding pascal_trial
trial_gives program given steps kinds ports before now stands does =
    let found = does.each ports (run_at_start program given steps) stands (omega arith) in (
      ap (λ (outcome : Outcome Store (Unit {0})). (result_of outcome).ending) found.same,
      subst (λ (outcome : Outcome Store (Unit {0})). IsWorld ports now (result_of outcome).world) (sym found.same)
          found.stands.world,
    )
