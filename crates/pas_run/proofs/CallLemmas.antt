-- Calls over a machine: the step, the body, and how an activation closes.
use Rattle.std.proofs.Common.{◌≡◌, ℕ, zero, suc, ◌+◌, ◌-◌, List, [], ◌∷◌, length, map, take, Option, Some, None}
use Rattle.std.proofs.Common.{slice_get, slice_index_or, arith, refl, sym, ap, ap₂, ◌∙◌, subst, Result, Ok, Err}
use Rattle.std.proofs.Common.{IsSome, length-append, ℤ}
use Rattle.std.proofs.lemmas.List.{length-map, get_or_push}
use Rattle.wb_ports.specs.PortState.{PortState}
use Rattle.pas_typed.specs.declared.typed.Call as code_call
use Rattle.pas_typed.specs.declared.typed.Part.TheViews.{out-Call}
use Rattle.pas_typed.specs.declared.typed.Part.TheFolds.{fold_out-Call}
use Rattle.pas_typed.specs.Types.{PasType}
use Rattle.pas_typed.specs.Typed as typed
use Rattle.pas_typed.specs.Typed.{Variable, Value, Place, Passed, Heading, Body, TypedProgram}
use Rattle.pas_typed.specs.TypeViews.{type_view}
use Rattle.pas_typed.specs.TypedViews.{part_step, passed_step, value_step, call_step, place_step, passed_views}
use Rattle.pas_typed.specs.TypedViews.{call_view}
use Rattle.pas_typed.specs.Shapes.{one_cell}
use Rattle.pas_meaning.specs.declared.errors.TheConstants.{CALL_LIMIT}
use Rattle.pas_meaning.specs.Answers.{fine}
use Rattle.pas_meaning.specs.Outcome.{Run, Doing, pure, ◌>>=◌, ◌>>◌, answered, ask, change, take_step, begin_call}
use Rattle.pas_meaning.specs.Outcome.{end_call}
use Rattle.pas_meaning.specs.Store.{Datum, Reference, Store, top_of, number_in, opened, closed}
use Rattle.pas_meaning.specs.Run as meaning
use Rattle.pas_meaning.specs.Run.{Flow, Argument, cells_for, within}
use Rattle.pas_meaning.specs.Standing.{kind_of, Kinds, kind_at, Aims, kinds_for, result_kinds}
use Rattle.pas_meaning.specs.Laws.{Goes}
use Rattle.pas_meaning.proofs.StandingLemmas.{stands_closed}
use Rattle.pas_meaning.proofs.OnwardLemmas.{goes_bind, goes_then, goes_pure, goes_ask, goes_change, goes_answered}
use Rattle.pas_meaning.proofs.OnwardLemmas.{goes_end_call, goes_begin}
use Rattle.pas_meaning.proofs.GoesLemmas.{goes_call, goes_body, goes_within}
use Rattle.pas_run.specs.declared.arguments.Argument.{Argument as CodeArgument}
use Rattle.pas_run.specs.declared.cells.Cell.{Cell}
use Rattle.pas_run.specs.declared.ends.Flow.{Flow as CodeFlow}
use Rattle.pas_run.specs.declared.ends.Stop.{Stop}
use Rattle.pas_run.specs.declared.layouts.Layout.{Layout}
use Rattle.pas_run.specs.declared.layouts.Layouts.{Layouts}
use Rattle.pas_run.specs.inner.FlatStore.{cells_before, number_cell, flat_row, flat_store, cell_in}
use Rattle.pas_run.specs.inner.MachineState.{MachineState, AreFiles, IsRun}
use Rattle.pas_run.specs.inner.Scenes.{IsAt}
use Rattle.pas_run.specs.inner.Doings.{Any, IsNumber, Does, Answers}
use Rattle.pas_run.specs.inner.Running.{IsFlow, statement_of}
use Rattle.pas_run.specs.inner.Evaluating.{value_of}
use Rattle.pas_run.specs.inner.Calling.{AreGiven, IsRoutine, kinds_inside, IsResult, arguments_of, call_of, body_run_of}
use Rattle.pas_run.specs.inner.Calling.{procedure_of}
use Rattle.pas_run.proofs.DoesLemmas.{does_stop, does_next, does_answered, does_behind_step}
use Rattle.pas_run.proofs.FlatLemmas.{flat-closed, cell-fetched}
use Rattle.pas_run.proofs.ArgumentLemmas.{goes_all}
use Rattle.pas_run.proofs.SelectorLemmas.{does_stopped}
use Rattle.pas_run.proofs.OpenLemmas.{before_length, at_inside}

-- the call of a function, with its arguments
pub call_is : (call : code_call.Call)
    → call_view call
    ≡ typed.call (out-Call call).routine (type_view (out-Call call).pas_type) (passed_views (out-Call call).passed)
call_is call =
    fold_out-Call (Place → Place) (Passed → Passed) Value Value Place
    part_step passed_step value_step call_step place_step call

-- what is done behind a step
module _ {A T : Type 0} (kinds later : Kinds) (Is : T → A → Type 0) (next : ℕ → Doing Store A)
    (before between now : MachineState) (result : Result T Stop) where
  pub does_after_step : ((most : ℕ) → Does most kinds kinds Any take_step before between (Ok (tt {0})))
      → between.steps + 1 ≡ before.steps
      → ((most : ℕ) → Does most kinds later Is (next (suc most)) between now result)
      → (most : ℕ) → Does most kinds later Is (take_step >> next most) before now result
  does_after_step step fewer does zero = record {
    each = λ ports run stands within. absurd (omega (arith, fewer, stands.world.steps, within));
  }
  does_after_step step fewer does (suc most) =
      does_behind_step most kinds later Is (next (suc most)) before between now result fewer (step (suc most))
      (does most)

-- an activation closes
module _ (program : TypedProgram) (layouts : Layouts) (locals layout : Layout) (variables : List Variable)
    (result : Option PasType) (kinds : Kinds) (at : IsAt program layouts locals variables result kinds)
    (heading : Heading) (body : Body) (is : IsRoutine program heading layout body) where
  abbrev inside : Kinds
  inside = kinds_inside program kinds body

  abbrev closing : Doing Store Datum
  closing =
      ask (λ store world. fine (meaning.result_of (length body.variables) store))
      >>= (λ found. change closed >> (end_call >> pure found))

  abbrev result_there : Store → Reference
  result_there store =
      record { activation = top_of store; variable = length body.variables; path = [] }

  its_result : (type : PasType) → heading.result ≡ Some type → (ports : List PortState) (machine : MachineState)
      (run : Run Store) → IsRun inside ports machine run
      → cell_in (record { activation = length machine.activations - 1; offset = layout.cells }) machine.activations
      ≡ number_cell (number_in (meaning.result_of (length body.variables) run.store))
  its_result type typed_so ports machine run stands =
      let many : length inside ≡ length kinds + 1 = length-append kinds (kinds_for program body ∷ []) in
      let top : length inside - 1 ≡ top_of run.store = omega (arith, stands.stands.rows) in
      let knows = (at_inside program layouts locals layout variables result kinds at heading body is).knows in
      let aims : Aims inside (result_there run.store) one_cell = record {
        root = one_cell;
        there = ap (λ (activation : ℕ). kind_at inside activation
            (length body.variables)) (sym top)
            ∙ knows.result_cell type (ap (λ (heading : Heading). heading.result) is.is_heading ∙ typed_so);
        leads = refl;
      } in
      let row : slice_index_or inside (top_of run.store) [] ≡ kinds_for program body =
      get_or_push kinds (kinds_for program body) [] (top_of run.store) (omega (arith, many, top)) in
      let begins : layout.cells
      ≡ cells_before (slice_index_or inside (top_of run.store) []) (length body.variables) + 0 =
      omega (
        arith,
        is.laid.cells,
        ap (cells_before (map (kind_of program.types) body.variables))
            (sym (length-map body.variables (kind_of program.types))),
        before_length (map (kind_of program.types) body.variables)
            (result_kinds (slice_get program.headings body.routine)),
        ap (cells_before (kinds_for program body)) (length-map body.variables (kind_of program.types)),
        ap (λ row. cells_before row (length body.variables)) row,
      ) in
      let last : length machine.activations - 1 ≡ top_of run.store =
      omega (arith, ap length stands.activations, length-map run.store (flat_row inside)) in
      ap₂ (λ (activation : ℕ) (activations : List (List Cell)). cell_in (record {
        activation = activation;
        offset = layout.cells;
      }) activations) last stands.activations
      ∙ ap (λ (offset : ℕ). cell_in (record { activation = top_of run.store; offset = offset })
      (flat_store inside run.store)) begins
      ∙ cell-fetched inside run.store (result_there run.store) stands.stands aims

  result_by : (found : Option PasType) → heading.result ≡ found → IsSome found → (ports : List PortState)
      (machine : MachineState) (run : Run Store) → IsRun inside ports machine run
      → cell_in (record { activation = length machine.activations - 1; offset = layout.cells }) machine.activations
      ≡ number_cell (number_in (meaning.result_of (length body.variables) run.store))
  result_by None same some = absurd (cc)
  result_by (Some type) same some = its_result type same

  pub does_close : (machine now : MachineState) (cell : Cell)
      → cell ≡ cell_in (record { activation = length machine.activations - 1; offset = layout.cells })
      machine.activations
      → now ≡ record machine {
        activations = take (length machine.activations - 1) machine.activations;
        calls = machine.calls - 1;
      }
      → (most : ℕ) → Does most inside kinds (IsResult heading) closing machine now (Ok cell)
  does_close machine now cell cell_is same most = record {
    each = λ ports run stands within.
        let many : length inside ≡ length kinds + 1 = length-append kinds (kinds_for program body ∷ []) in
        let last : length machine.activations - 1 ≡ length kinds =
        omega (arith, ap length stands.activations, length-map run.store (flat_row inside), stands.stands.rows, many) in
        record {
          value = meaning.result_of (length body.variables) run.store;
          run = record {
            store = closed run.store;
            world = record run.world { calls = run.world.calls - 1 };
          };
          same = refl;
          is = λ some. cell_is ∙ result_by heading.result refl some ports machine run stands;
          stands = record {
            activations =
                ap (λ (machine : MachineState). machine.activations) same
                ∙ ap₂ (λ (count : ℕ) (activations : List (List Cell)). take count activations) last stands.activations
                ∙ sym (flat-closed kinds (kinds_for program body) run.store stands.stands);
            stands = stands_closed kinds (kinds_for program body) run.store stands.stands;
            world = record {
              steps = ap (λ (machine : MachineState). machine.steps) same ∙ stands.world.steps;
              calls = ap (λ (machine : MachineState). machine.calls) same
                  ∙ ap (λ (calls : ℕ). calls - 1) stands.world.calls;
              files = subst (λ (machine : MachineState). AreFiles ports machine.files run.world.files)
                  (sym same) stands.world.files;
            };
          };
        };
  }

  -- a body runs: it opens, its statements are done, and it closes
  module _ (most : ℕ) (values : List Argument) (before : MachineState) where
    abbrev statements : Doing Store Flow
    statements =
        within (Some CALL_LIMIT) program (suc most) meaning.start (typed.compound body.statements)

    abbrev behind_open : Doing Store Datum
    behind_open = statements >>= (λ flow. closing)

    abbrev opening : Doing Store (Unit {0})
    opening = change (λ found. opened (cells_for program body values found) found)

    goes_closing : Goes closing
    goes_closing =
        goes_bind (goes_ask (λ store world. fine (meaning.result_of (length body.variables) store)))
        (λ found. goes_then (goes_change closed) (goes_then goes_end_call (goes_pure found)))

    goes_statements : Goes statements
    goes_statements =
        goes_within (Some CALL_LIMIT) program (suc most) meaning.start (typed.compound body.statements)

    abbrev RunsBody : MachineState → Result Cell Stop → Type 0
    RunsBody now result =
        Does most kinds kinds (IsResult heading) (body_run_of program most (Some body) values) before now result

    pub body_not_opened : (now : MachineState) (why : Stop)
        → Does {T = Unit {0}} most kinds inside Any opening before now (Err why) → RunsBody now (Err why)
    body_not_opened now why does =
        does_stop {T = Unit {0}} {U = Cell} most kinds inside kinds Any (IsResult heading) opening
        (λ done. behind_open) before now why (λ done. goes_bind goes_statements (λ flow. goes_closing)) does

    as_statements : {T : Type 0} (Is : T → Flow → Type 0) (between now : MachineState) (result : Result T Stop)
        → Does most inside inside Is (statement_of program most meaning.start (typed.compound body.statements))
        between now result
        → Does most inside inside Is statements between now result
    as_statements Is between now result does =
        record { each = λ ports run stands within. does.each ports run stands within }

    module _ (between : MachineState)
        (opens : Does most kinds inside Any opening before between (Ok (tt {0}))) where
      pub body_stopped : (now : MachineState) (why : Stop)
          → Does {T = CodeFlow} most inside inside IsFlow
          (statement_of program most meaning.start (typed.compound body.statements)) between now (Err why)
          → RunsBody now (Err why)
      body_stopped now why does =
          does_next {U = Cell} most kinds inside kinds Any (IsResult heading) opening (λ done. behind_open) before
          between now (tt {0}) (Err why) (goes_change _) opens
          (λ done any. does_stop {T = CodeFlow} {U = Cell} most inside inside kinds IsFlow (IsResult heading) statements
          (λ flow. closing) between now why (λ flow. goes_closing)
          (as_statements {T = CodeFlow} IsFlow between now (Err why) does))

      pub body_done : (later now : MachineState) (flow : CodeFlow) (cell : Cell)
          → Does most inside inside IsFlow
          (statement_of program most meaning.start (typed.compound body.statements)) between later (Ok flow)
          → Does most inside kinds (IsResult heading) closing later now (Ok cell)
          → RunsBody now (Ok cell)
      body_done later now flow cell does closes =
          does_next most kinds inside kinds Any (IsResult heading) opening (λ done. behind_open) before
          between now (tt {0}) (Ok cell) (goes_change _) opens
          (λ done any. does_next most inside inside kinds IsFlow (IsResult heading) statements
          (λ flow. closing) between later now flow (Ok cell) goes_statements
          (as_statements IsFlow between later (Ok flow) does)
          (λ flow flow_is. closes))

-- a call: its arguments, and then the call itself
module _ (program : TypedProgram) (most : ℕ) where
  pub goes_call_of : (routine : ℕ) (arguments : List Argument) → Goes (call_of program most routine arguments)
  goes_call_of routine arguments =
      goes_call (Some CALL_LIMIT) program (within (Some CALL_LIMIT) program most)
      (goes_within (Some CALL_LIMIT) program most) routine arguments

  pub goes_body_run : (body : Option Body) (arguments : List Argument)
      → Goes (meaning.body_run (Some CALL_LIMIT) program (within (Some CALL_LIMIT) program most) body arguments)
  goes_body_run body arguments =
      goes_body (Some CALL_LIMIT) program (within (Some CALL_LIMIT) program most)
      (goes_within (Some CALL_LIMIT) program most) body arguments

  pub goes_behind_call_step : (body : Option Body) (arguments : List Argument)
      → Goes (begin_call (Some CALL_LIMIT)
      >> meaning.body_run (Some CALL_LIMIT) program (within (Some CALL_LIMIT) program most) body arguments)
  goes_behind_call_step body arguments =
      goes_then (goes_begin (Some CALL_LIMIT)) (goes_body_run body arguments)

  module _ (variables : List Variable) (kinds : Kinds) (routine : ℕ) (heading : Heading) (passed : Passed)
      (before : MachineState) where
    abbrev answering : PasType → Doing Store Datum
    answering type = value_of program most (typed.call routine type passed)

    abbrev then_call : List Argument → Doing Store Datum
    then_call arguments =
        call_of program most routine arguments >>= (λ found. answered (meaning.defined_result found))

    goes_then_call : (arguments : List Argument) → Goes (then_call arguments)
    goes_then_call arguments =
        goes_bind (goes_call_of routine arguments) (λ found. goes_answered (meaning.defined_result found))

    -- of a function
    pub function_no_arguments : (type : PasType) (now : MachineState) (why : Stop)
        → Does {T = List CodeArgument} most kinds kinds (AreGiven program variables heading.parameters)
        (arguments_of program most passed) before now (Err why)
        → Does {T = ℤ} most kinds kinds IsNumber (answering type) before now (Err why)
    function_no_arguments type now why does =
        does_stop {T = List CodeArgument} {U = ℤ} most kinds kinds kinds
        (AreGiven program variables heading.parameters) IsNumber (arguments_of program most passed) then_call before now
        why goes_then_call does

    module _ (between : MachineState) (founds : List CodeArgument)
        (does : Does most kinds kinds (AreGiven program variables heading.parameters)
        (arguments_of program most passed) before between (Ok founds)) where
      abbrev Calls : {T : Type 0} → (T → Datum → Type 0) → MachineState → Result T Stop → Type 0
      Calls Is now result =
          (values : List Argument) → AreGiven program variables heading.parameters founds values
          → Does most kinds kinds Is (call_of program most routine values) between now result

      pub function_stopped : (type : PasType) (now : MachineState) (why : Stop)
          → Calls {T = Cell} (IsResult heading) now (Err why)
          → Does {T = ℤ} most kinds kinds IsNumber (answering type) before now (Err why)
      function_stopped type now why calls =
          does_next {U = ℤ} most kinds kinds kinds (AreGiven program variables heading.parameters) IsNumber
          (arguments_of program most passed) then_call before between now founds (Err why)
          (goes_all program most passed) does
          (λ values are. does_stop {T = Cell} {U = ℤ} most kinds kinds kinds (IsResult heading) IsNumber
          (call_of program most routine values) (λ found. answered (meaning.defined_result found)) between now why
          (λ found. goes_answered (meaning.defined_result found)) (calls values are))

      pub function_answers : (type : PasType) (now : MachineState) (cell : Cell) (result : Result ℤ Stop)
          → IsSome heading.result → Calls (IsResult heading) now (Ok cell)
          → ((datum : Datum) → cell ≡ number_cell (number_in datum)
          → Answers IsNumber (meaning.defined_result datum) result)
          → Does most kinds kinds IsNumber (answering type) before now result
      function_answers type now cell result some calls answers =
          does_next most kinds kinds kinds (AreGiven program variables heading.parameters) IsNumber
          (arguments_of program most passed) then_call before between now founds result (goes_all program most passed)
          does (λ values are. does_next most kinds kinds kinds (IsResult heading) IsNumber
          (call_of program most routine values) (λ found. answered (meaning.defined_result found)) between now now cell
          result (goes_call_of routine values) (calls values are)
          (λ datum is. does_answered most kinds IsNumber (meaning.defined_result datum) now result
          (answers datum (is some))))

      -- of a procedure
      pub procedure_stopped : (now : MachineState) (why : Stop) → Calls {T = Cell} (IsResult heading) now (Err why)
          → Does {T = Unit {0}} most kinds kinds Any (procedure_of program most routine passed) before now (Err why)
      procedure_stopped now why calls =
          does_next {U = Unit {0}} most kinds kinds kinds (AreGiven program variables heading.parameters) Any
          (arguments_of program most passed) (call_of program most routine) before between now founds (Err why)
          (goes_all program most passed) does (λ values are.
          does_stopped {T = Cell} {U = Unit {0}} most kinds kinds (IsResult heading) Any
          (call_of program most routine values) between now why (calls values are))

      pub procedure_done : (now : MachineState) (cell : Cell) → Calls (IsResult heading) now (Ok cell)
          → Does {T = Unit {0}} most kinds kinds Any (procedure_of program most routine passed) before now
          (Ok (tt {0}))
      procedure_done now cell calls =
          does_next most kinds kinds kinds (AreGiven program variables heading.parameters) Any
          (arguments_of program most passed) (call_of program most routine) before between now founds (Ok (tt {0}))
          (goes_all program most passed) does
          (λ values are. record {
            each = λ ports run stands within.
                let given = (calls values are).each ports run stands within in
                record { value = given.value; run = given.run; same = given.same; is = tt; stands = given.stands };
          })

    pub procedure_no_arguments : (now : MachineState) (why : Stop)
        → Does {T = List CodeArgument} most kinds kinds (AreGiven program variables heading.parameters)
        (arguments_of program most passed) before now (Err why)
        → Does {T = Unit {0}} most kinds kinds Any (procedure_of program most routine passed) before now (Err why)
    procedure_no_arguments now why does =
        does_stop {T = List CodeArgument} {U = Unit {0}} most kinds kinds kinds
        (AreGiven program variables heading.parameters) Any (arguments_of program most passed)
        (call_of program most routine) before now why (goes_call_of routine) does
