use Rattle.std.proofs.Common.{◌≡◌, List, length, map, take, refl, sym, ap, ◌∙◌, subst, subst₂, arith, Vec, Global, Some}
use Rattle.std.proofs.Common.{vec_capacity}
use Rattle.std.specs.List.{take-map}
use Rattle.std.proofs.lemmas.List.{length-take-le, length-map}
use Rattle.wb_ports.specs.PortState.{PortState}
use Rattle.pas_typed.specs.TypedViews.{program_view}
use Rattle.pas_run.specs.WholeRuns.{Hold, CountsFailures}
use Rattle.pas_run.specs.declared.cells.Cell.{Cell}
use Rattle.pas_run.specs.declared.files.RunFile.{RunFile}
use Rattle.pas_run.specs.inner.MachineState.{KeptFile, MachineState}
use Rattle.pas_run.specs.inner.Doings.{is_failure}
use Rattle.pas_run.proofs.BindingLemmas.{many_as}
use Rattle.pas_run.proofs.ReportLemmas.{hold_given, cut_off_before}
use Rattle.pas_run.proofs.PortRunLemmas.{reports_run, counts_run, many_run, on_ok}
use Rattle.pas_run.proofs.over_ports.Ready.run.Goals as goal

pub returns-then-is_err-clause-reports : goal.returns-then-is_err-clause-reports
returns-then-is_err-clause-reports g c given same =
    let count = length c.args.program.now.files in
    let bytes = map (λ (port : PortState). port.bytes) given in
    let told : map g.P.Port.told c.truncate.new.self.items ≡ map (λ (port : PortState). Some port) given =
    ap (map g.P.Port.told) (c.truncate.ensures.items ∙ ap (λ k. take k c.args.ports.now.items) c.len.ensures)
    ∙ (sym (take-map g.P.Port.told count c.args.ports.now.items) ∙ same) in
    cut_off_before (program_view c.args.program.now) given c.args.steps (map g.P.Port.told c.bind_all.new.ports.items)
    (c.bind_all.ensures.bytes bytes (subst (Hold bytes) (sym told) (hold_given given)))

pub returns-then-is_err-clause-cause : goal.returns-then-is_err-clause-cause
returns-then-is_err-clause-cause g c =
    let count = length c.args.program.now.files in
    let counts : map g.P.Port.failures c.truncate.new.self.items
    ≡ take count (map g.P.Port.failures c.args.ports.now.items) =
    ap (map g.P.Port.failures) (c.truncate.ensures.items ∙ ap (λ k. take k c.args.ports.now.items) c.len.ensures)
    ∙ sym (take-map g.P.Port.failures count c.args.ports.now.items) in
    subst₂ (λ failed before. CountsFailures failed before (map g.P.Port.failures c.bind_all.new.ports.items))
    (sym c.is_err.ensures.value ∙ c.if-is_err.true) counts c.bind_all.ensures.cause

pub give_back-requires-clause-room : goal.give_back-requires-clause-room
give_back-requires-clause-room g c =
    let kept_of : RunFile g.row.P.Denot g.P.Port → KeptFile = λ file. record {
      state = file.state;
      told = g.P.Port.told file.port;
      failures = g.P.Port.failures file.port;
    } in
    omega (
      arith,
      many_as (is_failure c.run_to_end-why.result) c.over-machine.result.files c.run_to_end-why.new.self.files
          c.run_to_end-why.ensures.cause,
      ap (λ (machine : MachineState). length machine.files) c.over-machine.ensures,
      length-map c.files_over-files.result.items kept_of,
      length-map c.files_over-files.result.items (λ (file : RunFile g.row.P.Denot g.P.Port). file.port),
      ap length c.files_over-files.ensures.ports,
      ap (λ (ports : Vec g.row.P.Denot Global). length ports.items) c.replace-bound.ensures.value,
      c.bind_all.ensures.many,
      ap length c.truncate.ensures.items,
      c.len.ensures,
      length-take-le c.len.result c.args.ports.now.items (omega (arith, c.len.ensures, c.requires.many)),
      c.requires.room.1,
      ap (λ (ports : Vec g.row.P.Denot Global). vec_capacity ports) c.replace-bound.ensures.after,
    )

pub returns-clause-reports : goal.returns-clause-reports
returns-clause-reports g c given same =
    let count = length c.args.program.now.files in
    let told : map g.P.Port.told c.truncate.new.self.items ≡ map (λ (port : PortState). Some port) given =
    ap (map g.P.Port.told) (c.truncate.ensures.items ∙ ap (λ k. take k c.args.ports.now.items) c.len.ensures)
    ∙ (sym (take-map g.P.Port.told count c.args.ports.now.items) ∙ same) in
    let many : length c.truncate.new.self.items ≡ count =
    ap length c.truncate.ensures.items
    ∙ (length-take-le c.len.result c.args.ports.now.items (omega (arith, c.len.ensures, c.requires.many))
    ∙ c.len.ensures) in
    reports_run (λ (file : RunFile g.row.P.Denot g.P.Port). record {
      state = file.state;
      told = g.P.Port.told file.port;
      failures = g.P.Port.failures file.port;
    }) (λ (file : RunFile g.row.P.Denot g.P.Port). file.port) g.P.Port.told g.P.Port.failures
    (λ (file : RunFile g.row.P.Denot g.P.Port). file.state) (λ file. refl) (λ file. refl) (λ file. refl)
    c.truncate.new.self.items c.bind_all.new.ports.items c.files_over-files.result.items
    (c.files_over-files.ensures.ports
    ∙ ap (λ (ports : Vec g.row.P.Denot Global). ports.items) c.replace-bound.ensures.value)
    c.over-machine.result c.run_to_end-why.new.self
    (map (λ (cells : Vec Cell Global). cells.items) c.args.self.activations.items) c.args.steps c.over-machine.ensures
    c.run_to_end-why.result (program_view c.args.program.now) c.args.self.layouts c.args.self.main given
    (map g.P.Port.told c.give_back.new.ports.items) c.requires.lawful c.requires.layouts c.requires.main
    c.requires.cells many told
    (on_ok c.bind_all.result (sym c.is_err.ensures.value ∙ c.if-is_err.false) c.bind_all.ensures.bound)
    c.files_over-files.ensures.states c.run_to_end-why.ensures.ends c.give_back.ensures.told

pub returns-clause-keeps : goal.returns-clause-keeps
returns-clause-keeps g c =
    many_run (λ (file : RunFile g.row.P.Denot g.P.Port). record {
      state = file.state;
      told = g.P.Port.told file.port;
      failures = g.P.Port.failures file.port;
    }) (λ (file : RunFile g.row.P.Denot g.P.Port). file.port) g.P.Port.told g.P.Port.failures
    (λ (file : RunFile g.row.P.Denot g.P.Port). file.state) (λ file. refl) (λ file. refl) (λ file. refl)
    c.truncate.new.self.items c.bind_all.new.ports.items c.files_over-files.result.items
    (c.files_over-files.ensures.ports
    ∙ ap (λ (ports : Vec g.row.P.Denot Global). ports.items) c.replace-bound.ensures.value)
    c.over-machine.result c.run_to_end-why.new.self
    (map (λ (cells : Vec Cell Global). cells.items) c.args.self.activations.items) c.args.steps c.over-machine.ensures
    c.run_to_end-why.result c.give_back.new.ports.items c.run_to_end-why.ensures.cause c.give_back.ensures.failures
    c.bind_all.ensures.many
    ∙ (ap length c.truncate.ensures.items
    ∙ (length-take-le c.len.result c.args.ports.now.items (omega (arith, c.len.ensures, c.requires.many))
    ∙ c.len.ensures))

pub returns-clause-cause : goal.returns-clause-cause
returns-clause-cause g c =
    let count = length c.args.program.now.files in
    let counts : map g.P.Port.failures c.truncate.new.self.items
    ≡ take count (map g.P.Port.failures c.args.ports.now.items) =
    ap (map g.P.Port.failures) (c.truncate.ensures.items ∙ ap (λ k. take k c.args.ports.now.items) c.len.ensures)
    ∙ sym (take-map g.P.Port.failures count c.args.ports.now.items) in
    subst (λ before. CountsFailures (is_failure c.run_to_end-why.result) before
    (map g.P.Port.failures c.give_back.new.ports.items)) counts
    (counts_run (λ (file : RunFile g.row.P.Denot g.P.Port). record {
      state = file.state;
      told = g.P.Port.told file.port;
      failures = g.P.Port.failures file.port;
    }) (λ (file : RunFile g.row.P.Denot g.P.Port). file.port) g.P.Port.told g.P.Port.failures
    (λ (file : RunFile g.row.P.Denot g.P.Port). file.state) (λ file. refl) (λ file. refl) (λ file. refl)
    c.truncate.new.self.items c.bind_all.new.ports.items c.files_over-files.result.items
    (c.files_over-files.ensures.ports
    ∙ ap (λ (ports : Vec g.row.P.Denot Global). ports.items) c.replace-bound.ensures.value)
    c.over-machine.result c.run_to_end-why.new.self
    (map (λ (cells : Vec Cell Global). cells.items) c.args.self.activations.items) c.args.steps c.over-machine.ensures
    c.run_to_end-why.result c.give_back.new.ports.items c.run_to_end-why.ensures.cause c.give_back.ensures.failures
    (subst (λ failed. CountsFailures failed (map g.P.Port.failures c.truncate.new.self.items)
    (map g.P.Port.failures c.bind_all.new.ports.items)) (sym c.is_err.ensures.value ∙ c.if-is_err.false)
    c.bind_all.ensures.cause))
