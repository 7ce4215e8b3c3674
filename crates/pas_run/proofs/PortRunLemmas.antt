-- A whole run over ports: what it reports, which ports are kept, and which calls failed.
use Rattle.std.proofs.Common.{◌≡◌, ℕ, ◌<◌, ◌≤◌, List, [], length, map, take, Option, Some, None, Result, Ok, Err, arith}
use Rattle.std.proofs.Common.{refl, sym, ap, ◌∙◌, subst, subst₂, inl, inr, Bool, false, get_or, unwrap_or, slice_get}
use Rattle.std.specs.Prelude.{All, is_err, OnOk}
use Rattle.std.specs.Option.{option_map_or}
use Rattle.std.proofs.lemmas.List.{length-map, get_or-map}
use Rattle.std.proofs.Math.Seq.{take-length}
use Rattle.wb_ports.specs.PortState.{PortState}
use Rattle.pas_tokens.specs.declared.limits.TheConstants.{NAME_LIMIT}
use Rattle.pas_typed.specs.Typed.{Variable, TypedProgram}
use Rattle.pas_typed.specs.Lawful.{IsLawful}
use Rattle.pas_typed.specs.declared.typed.TypedProgram.{TypedProgram as CodeProgram}
use Rattle.pas_typed.specs.TypedViews.{program_view}
use Rattle.pas_rules.specs.FileNames.{HasShortNames}
use Rattle.pas_meaning.specs.Standing.{Kinds, kinds_at_start}
use Rattle.pas_meaning.specs.Trial.{no_variable, parameters_of, file_given, files_given, run_at_start, pascal_trial}
use Rattle.pas_run.specs.declared.answers.End.{End}
use Rattle.pas_run.specs.declared.answers.RunErr.{RunErr}
use Rattle.pas_run.specs.declared.ends.Stop.{Stop}
use Rattle.pas_run.specs.declared.ends.Stop.TheVariants as stop
use Rattle.pas_run.specs.declared.files.FileState.{FileState}
use Rattle.pas_run.specs.declared.layouts.Layout.{Layout}
use Rattle.pas_run.specs.declared.layouts.Layouts.{Layouts}
use Rattle.pas_run.specs.WholeRuns.{Reports, KeepsPorts, CountsFailures, is_stopped_by_port}
use Rattle.pas_run.specs.inner.FlatStore.{Activations}
use Rattle.pas_run.specs.inner.MachineState.{KeptFile, MachineState, AreFiles, IsRun, failures_of, CountFailures}
use Rattle.pas_run.specs.inner.Doings.{is_failure}
use Rattle.pas_run.specs.inner.Copying.{IsFound}
use Rattle.pas_run.specs.inner.Scenes.{IsAt, AreLayouts}
use Rattle.pas_run.specs.inner.Starting.{EndsFinished}
use Rattle.pas_run.specs.inner.Binding.{HasPortName, AreBound, state_at_start, activations_at_start, answer_by}
use Rattle.pas_run.proofs.RunLemmas.{scene_at_start, run_stands, length-parameters}
use Rattle.pas_run.proofs.BindingLemmas.{bound_ports, files_at_start, kept_told, kept_failures, kept_states, counts_as}
use Rattle.pas_run.proofs.BindingLemmas.{many_as}
use Rattle.pas_run.proofs.ReportLemmas.{reports_as}

-- a run from its start over files that are over bound ports
module _ {R P : Type 0} (kept_of : R → KeptFile) (port_of : R → P) (told : P → Option PortState) (failures : P → ℕ)
    (state_of : R → FileState) (tells : (file : R) → (kept_of file).told ≡ told (port_of file))
    (counts : (file : R) → (kept_of file).failures ≡ failures (port_of file))
    (stands : (file : R) → (kept_of file).state ≡ state_of file) (before bound : List P) (files : List R)
    (over : map port_of files ≡ bound) (machine now : MachineState) (cells : Activations) (steps : ℕ)
    (is : machine ≡ record { activations = cells; steps = steps; calls = 0; files = map kept_of files })
    (why : Stop) where
  abbrev Ends : TypedProgram → Layouts → Layout → Type 0
  Ends program layouts locals =
      (kinds : Kinds) (ports : List PortState) (given : List (List ℕ)) → IsAt program layouts locals [] None kinds
      → length given ≡ length (parameters_of program)
      → IsRun kinds ports machine (run_at_start program given machine.steps)
      → EndsFinished ports given (pascal_trial program given machine.steps) now why

  pub reports_run : (program : TypedProgram) (layouts : Layouts) (locals : Layout) (given : List PortState)
      (tells_now : List (Option PortState)) → IsLawful program → AreLayouts program layouts
      → locals ≡ record { offsets = []; cells = 0 } → cells ≡ activations_at_start program
      → length before ≡ length program.files → map told before ≡ map Some given
      → AreBound (parameters_of program) (map told before) (map told bound)
      → map state_of files ≡ map state_at_start (parameters_of program) → Ends program layouts locals
      → tells_now ≡ map (λ (kept : KeptFile). kept.told) now.files
      → Reports program given steps (answer_by why) tells_now
  reports_run program layouts locals given tells_now lawful are_laid none cells_are many told_all bound_are states ends
      told_now =
      let parameters : List Variable = parameters_of program in
      let bytes : List (List ℕ) = map (λ (port : PortState). port.bytes) given in
      let as_many : length given ≡ length parameters =
      omega (
        arith,
        ap length told_all,
        length-map before told,
        length-map given (λ (port : PortState). Some port),
        many,
        length-parameters program,
      ) in
      let start : AreFiles (bound_ports parameters given) (map kept_of files) (files_given program bytes) =
      files_at_start parameters given (map kept_of files)
      (subst₂ (AreBound parameters) told_all
      (sym (kept_told kept_of port_of told failures state_of tells counts stands files ∙ ap (map told) over)) bound_are)
      (kept_states kept_of port_of told failures state_of tells counts stands files ∙ states) in
      let run : IsRun (kinds_at_start program) (bound_ports parameters given) machine
      (run_at_start program bytes machine.steps) =
      run_stands program lawful (bound_ports parameters given) bytes machine.steps machine
      (ap (λ (machine : MachineState). machine.activations) is ∙ cells_are) refl
      (ap (λ (machine : MachineState). machine.calls) is)
      (subst (λ (kept : List KeptFile). AreFiles (bound_ports parameters given) kept (files_given program bytes))
      (sym (ap (λ (machine : MachineState). machine.files) is)) start) in
      let ended = ends (kinds_at_start program) (bound_ports parameters given) bytes
      (scene_at_start program lawful layouts locals are_laid none)
      (length-map given (λ (port : PortState). port.bytes) ∙ as_many) run in
      subst (λ (steps : ℕ). Reports program given steps (answer_by why) tells_now)
      (ap (λ (machine : MachineState). machine.steps) is)
      (subst (Reports program given machine.steps (answer_by why)) (sym told_now)
      (reports_as program given machine.steps now as_many why ended))

  module _ (new : List P) (counted : CountFailures (is_failure why) machine.files now.files)
      (new_counts : map failures new ≡ map (λ (kept : KeptFile). kept.failures) now.files) where
    pub counts_run : map failures bound ≡ map failures before
        → CountsFailures (is_failure why) (map failures before) (map failures new)
    counts_run bound_counts =
        subst₂ (CountsFailures (is_failure why))
        (ap (λ (machine : MachineState). failures_of machine.files) is
        ∙ (kept_failures kept_of port_of told failures state_of tells counts stands files
        ∙ (ap (map failures) over ∙ bound_counts)))
        (sym new_counts) (counts_as (is_failure why) machine.files now.files counted)

    pub many_run : length bound ≡ length before → length new ≡ length before
    many_run many =
        omega (
          arith,
          many,
          ap length over,
          length-map files port_of,
          ap (λ (machine : MachineState). length machine.files) is,
          length-map files kept_of,
          many_as (is_failure why) machine.files now.files counted,
          ap length new_counts,
          length-map new failures,
          length-map now.files (λ (kept : KeptFile). kept.failures),
        )

-- the ports that are kept, by the reason why a run stops
pub kept_by : {P : Type 0} (why : Stop) (count : ℕ) (before now : List P) → length now ≡ count
    → KeepsPorts (answer_by why) count before now
kept_by (stop.Halted status) count before now many = many
kept_by stop.Going count before now many = many
kept_by (stop.Wrong kind) count before now many = many
kept_by stop.TooDeep count before now many = many
kept_by stop.PortFailed count before now many = many
kept_by stop.OutOfMemory count before now many = inr many

-- where something is not made, no memory was found
pub only_memory : {T : Type 0} (P : T → Type 0) (why : Stop) → IsFound P (Err why) → why ≡ stop.OutOfMemory
only_memory P (stop.Halted status) found = absurd found
only_memory P stop.Going found = absurd found
only_memory P (stop.Wrong kind) found = absurd found
only_memory P stop.TooDeep found = absurd found
only_memory P stop.PortFailed found = absurd found
only_memory P stop.OutOfMemory found = refl

module _ (why : Stop) (is : why ≡ stop.OutOfMemory) where
  pub reports_none : (program : TypedProgram) (given : List PortState) (steps : ℕ) (tells : List (Option PortState))
      → Reports program given steps (answer_by why) tells
  reports_none program given steps tells =
      subst (λ (why : Stop). Reports program given steps (answer_by why) tells) (sym is) tt

  pub keeps_all : {P : Type 0} (count : ℕ) (ports : List P) → KeepsPorts (answer_by why) count ports ports
  keeps_all count ports =
      subst (λ (why : Stop). KeepsPorts (answer_by why) count ports ports) (sym is) (inl refl)

  pub counts_none : (counts : List ℕ) → CountsFailures (is_failure why) counts counts
  counts_none counts =
      subst (λ (why : Stop). CountsFailures (is_failure why) counts counts) (sym is) refl

-- all failed calls of as many ports
pub counts_taken : {P : Type 0} (failures : P → ℕ) (failed : Bool) (count : ℕ) (before : List ℕ) (now : List P)
    → length now ≡ count → CountsFailures failed before (map failures now)
    → CountsFailures failed before (take count (map failures now))
counts_taken failures failed count before now many counts =
    subst (CountsFailures failed before)
    (sym (ap (λ (count : ℕ). take count (map failures now)) (sym many ∙ sym (length-map now failures))
    ∙ take-length (map failures now)))
    counts

pub stopped_by_port : (why : Stop) → is_stopped_by_port (answer_by why) ≡ is_failure why
stopped_by_port (stop.Halted status) = refl
stopped_by_port stop.Going = refl
stopped_by_port (stop.Wrong kind) = refl
stopped_by_port stop.TooDeep = refl
stopped_by_port stop.PortFailed = refl
stopped_by_port stop.OutOfMemory = refl

-- the files of a program that some text means have names that ports may have
pub port_names : (program : TypedProgram) → HasShortNames program → All HasPortName (parameters_of program)
port_names program short k found less =
    let within : k < length program.files = omega (arith, less, length-parameters program) in
    subst HasPortName (sym (get_or-map
    (λ (variable : ℕ). unwrap_or (slice_get program.globals variable) no_variable) program.files k 0 found within))
    (named (slice_get program.globals (get_or program.files k 0)) (short k 0 within))
  where
    named : (global : Option Variable)
        → length (option_map_or (λ (found : Variable). found.name) global []) ≤ NAME_LIMIT
        → HasPortName (unwrap_or global no_variable)
    named None small = small
    named (Some global) small = small

-- what holds of a result that is none of a failure
pub on_ok : {A B P : Type 0} (result : Result A B) → is_err result ≡ false → OnOk result P → P
on_ok (Ok value) done h = h
on_ok (Err failure) done h = absurd cc

-- what the run of a program that was found so reports
pub reports_by : {P : Type 0} (told : P → Option PortState) (before now : List P) (program found : CodeProgram)
    (given : List PortState) (steps : ℕ) (why : Stop) (result : Result End RunErr) → found ≡ program
    → result ≡ answer_by why
    → ((given : List PortState) → take (length found.files) (map told before) ≡ map (λ port. Some port) given
    → Reports (program_view found) given steps (answer_by why) (map told now))
    → take (length program.files) (map told before) ≡ map (λ port. Some port) given
    → Reports (program_view program) given steps result (map told now)
reports_by told before now program found given steps why result is answer reports same =
    subst (λ (result : Result End RunErr). Reports (program_view program) given steps result (map told now))
    (sym answer)
    (subst (λ (program : CodeProgram). take (length program.files) (map told before) ≡ map (λ port. Some port) given
    → Reports (program_view program) given steps (answer_by why) (map told now)) is (reports given) same)
