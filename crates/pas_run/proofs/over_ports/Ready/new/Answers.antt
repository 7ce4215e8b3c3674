use Rattle.std.proofs.Common.{◌≡◌, ◌≤◌, ◌∷◌, ◌++◌, [], List, length, map, ap, ◌∙◌, Vec, Global, vec_capacity}
use Rattle.std.proofs.lemmas.Result.{err_from_is_err_and}
use Rattle.pas_typed.specs.TypedViews.{program_view}
use Rattle.pas_meaning.specs.Standing.{kinds_at_start}
use Rattle.pas_meaning.specs.Trial.{cells_from}
use Rattle.pas_run.specs.declared.cells.Cell.{Cell}
use Rattle.pas_run.specs.declared.over_ports.Ready.{Ready}
use Rattle.pas_run.specs.inner.FlatStore.{flat_row}
use Rattle.pas_run.specs.inner.Binding.{activations_at_start}
use Rattle.pas_run.specs.inner.Scenes.{AreLayouts}
use Rattle.pas_run.proofs.CopyLemmas.{found_early, found_other}
use Rattle.pas_run.proofs.over_ports.Ready.new.Goals as goal

pub returns-in_err-cells-clause-layouts : goal.returns-in_err-cells-clause-layouts
returns-in_err-cells-clause-layouts g c =
    let program = program_view c.args.program.now in
    let kinds = kinds_at_start program in
    let row = flat_row kinds (cells_from program 0 program.globals) in
    found_early {T = Ready g.row.P.Denot g.P.Port}
    (λ (ready : Ready g.row.P.Denot g.P.Port). AreLayouts program ready.layouts) c.in_err-cells.field-0.0
    c.from_residual-in_err-cells.result (err_from_is_err_and _ c.from_residual-in_err-cells.ensures.1)
    (found_other {T = Vec Cell Global} {U = Ready g.row.P.Denot g.P.Port}
    (λ (now : Vec Cell Global). now.items ≡ row)
    (λ (ready : Ready g.row.P.Denot g.P.Port). AreLayouts program ready.layouts) c.in_err-cells.field-0.0
    (c.in_err-cells.ensures.found c.requires.types kinds))

pub returns-in_err-cells-clause-main : goal.returns-in_err-cells-clause-main
returns-in_err-cells-clause-main g c =
    let program = program_view c.args.program.now in
    let kinds = kinds_at_start program in
    let row = flat_row kinds (cells_from program 0 program.globals) in
    found_early {T = Ready g.row.P.Denot g.P.Port}
    (λ (ready : Ready g.row.P.Denot g.P.Port). ready.main ≡ record { offsets = []; cells = 0 }) c.in_err-cells.field-0.0
    c.from_residual-in_err-cells.result (err_from_is_err_and _ c.from_residual-in_err-cells.ensures.1)
    (found_other {T = Vec Cell Global} {U = Ready g.row.P.Denot g.P.Port}
    (λ (now : Vec Cell Global). now.items ≡ row)
    (λ (ready : Ready g.row.P.Denot g.P.Port). ready.main ≡ record { offsets = []; cells = 0 }) c.in_err-cells.field-0.0
    (c.in_err-cells.ensures.found c.requires.types kinds))

pub returns-in_err-cells-clause-cells : goal.returns-in_err-cells-clause-cells
returns-in_err-cells-clause-cells g c =
    let program = program_view c.args.program.now in
    let kinds = kinds_at_start program in
    let row = flat_row kinds (cells_from program 0 program.globals) in
    found_early {T = Ready g.row.P.Denot g.P.Port}
    (λ (ready : Ready g.row.P.Denot g.P.Port). map (λ (cells : Vec Cell Global). cells.items) ready.activations.items
    ≡ activations_at_start program) c.in_err-cells.field-0.0
    c.from_residual-in_err-cells.result (err_from_is_err_and _ c.from_residual-in_err-cells.ensures.1)
    (found_other {T = Vec Cell Global} {U = Ready g.row.P.Denot g.P.Port}
    (λ (now : Vec Cell Global). now.items ≡ row)
    (λ (ready : Ready g.row.P.Denot g.P.Port). map (λ (cells : Vec Cell Global). cells.items) ready.activations.items
    ≡ activations_at_start program) c.in_err-cells.field-0.0
    (c.in_err-cells.ensures.found c.requires.types kinds))

pub returns-in_err-cells-clause-empty : goal.returns-in_err-cells-clause-empty
returns-in_err-cells-clause-empty g c =
    let program = program_view c.args.program.now in
    let kinds = kinds_at_start program in
    let row = flat_row kinds (cells_from program 0 program.globals) in
    found_early {T = Ready g.row.P.Denot g.P.Port}
    (λ (ready : Ready g.row.P.Denot g.P.Port). (ready.files.items ≡ []) × (ready.room.items ≡ []))
    c.in_err-cells.field-0.0
    c.from_residual-in_err-cells.result (err_from_is_err_and _ c.from_residual-in_err-cells.ensures.1)
    (found_other {T = Vec Cell Global} {U = Ready g.row.P.Denot g.P.Port}
    (λ (now : Vec Cell Global). now.items ≡ row)
    (λ (ready : Ready g.row.P.Denot g.P.Port). (ready.files.items ≡ []) × (ready.room.items ≡ []))
    c.in_err-cells.field-0.0
    (c.in_err-cells.ensures.found c.requires.types kinds))

pub returns-in_err-cells-clause-room : goal.returns-in_err-cells-clause-room
returns-in_err-cells-clause-room g c =
    let program = program_view c.args.program.now in
    let kinds = kinds_at_start program in
    let row = flat_row kinds (cells_from program 0 program.globals) in
    found_early {T = Ready g.row.P.Denot g.P.Port}
    (λ (ready : Ready g.row.P.Denot g.P.Port). (length program.files ≤ vec_capacity ready.files)
    × (length program.files ≤ vec_capacity ready.room)) c.in_err-cells.field-0.0
    c.from_residual-in_err-cells.result (err_from_is_err_and _ c.from_residual-in_err-cells.ensures.1)
    (found_other {T = Vec Cell Global} {U = Ready g.row.P.Denot g.P.Port}
    (λ (now : Vec Cell Global). now.items ≡ row)
    (λ (ready : Ready g.row.P.Denot g.P.Port). (length program.files ≤ vec_capacity ready.files)
    × (length program.files ≤ vec_capacity ready.room)) c.in_err-cells.field-0.0
    (c.in_err-cells.ensures.found c.requires.types kinds))

pub returns-clause-cells : goal.returns-clause-cells
returns-clause-cells g c =
    let program = program_view c.args.program.now in
    ap (map (λ (cells : Vec Cell Global). cells.items))
    (c.in_ok-push.ensures.items ∙ ap (λ found. found ++ c.in_ok-cells.cells ∷ []) c.new-activations.ensures.items)
    ∙ ap (λ row. row ∷ []) (c.in_ok-cells.ensures.found c.requires.types (kinds_at_start program))
