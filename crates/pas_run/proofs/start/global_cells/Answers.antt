use Rattle.std.proofs.Common.{◌≡◌, ◌++◌, Vec, Global}
use Rattle.pas_meaning.specs.Trial.{global_cell, cells_from}
use Rattle.pas_run.specs.declared.cells.Cell.{Cell}
use Rattle.pas_run.specs.inner.FlatStore.{flat_cell, flat_row}
use Rattle.std.proofs.Common.{arith}
use Rattle.std.proofs.lemmas.List.{length-map}
use Rattle.std.proofs.lemmas.Result.{err_from_is_err_and}
use Rattle.pas_typed.specs.TypedViews.{variable_view, program_view}
use Rattle.pas_run.proofs.CopyLemmas.{found_early, found_other}
use Rattle.pas_run.proofs.StartLemmas.{globals_next, globals_all, global_there}
use Rattle.pas_run.proofs.start.global_cells.Goals as goal

pub returns-in_err-cells-clause-found : goal.returns-in_err-cells-clause-found
returns-in_err-cells-clause-found c lawful kinds =
    let program = program_view c.args.program.now in
    let found = variable_view c.args.program.now.spellings c.in-Some.variable.now in
    let row = flat_row kinds (cells_from program 0 program.globals) in
    found_early {T = Vec Cell Global} (λ (now : Vec Cell Global). now.items ≡ row) c.in_err-cells.field-0.0
    c.from_residual.result (err_from_is_err_and _ c.from_residual.ensures.1)
    (found_other {T = Vec Cell Global} {U = Vec Cell Global} (λ (now : Vec Cell Global). now.items
    ≡ c.loop-number.cells.items ++ flat_cell kinds (global_cell program c.loop-number.number found))
    (λ (now : Vec Cell Global). now.items ≡ row) c.in_err-cells.field-0.0 (c.in_err-cells.ensures.found lawful kinds))

pub loop-number-preserved : goal.loop-number-preserved
loop-number-preserved c lawful kinds =
    let spellings = c.args.program.now.spellings in
    globals_next (program_view c.args.program.now) kinds c.loop-number.number
    (variable_view spellings c.in-Some.variable.now) c.loop-number.cells.items c.in_ok-cells.cells.items
    (global_there spellings c.args.program.now.globals c.loop-number.number c.in-Some.variable.now
    c.in-Some.ensures.value)
    (c.loop-number.invariant lawful kinds) (c.in_ok-cells.ensures.found lawful kinds)

pub returns-clause-found : goal.returns-clause-found
returns-clause-found c lawful kinds =
    globals_all (program_view c.args.program.now) kinds c.loop-number.number c.loop-number.cells.items
    (omega (
      arith,
      c.loop-number-test.false,
      c.len-number-end.ensures,
      length-map c.args.program.now.globals (variable_view c.args.program.now.spellings),
    ))
    (c.loop-number.invariant lawful kinds)
