use Rattle.std.proofs.Common.{◌++◌, List, map, subst, sym, ap, ◌∙◌, arith, length}
use Rattle.std.proofs.lemmas.List.{take_all}
use Rattle.pas_typed.specs.TypedViews.{program_view}
use Rattle.pas_meaning.specs.Run.{Argument, cell_of}
use Rattle.std.proofs.lemmas.Result.{err_from_is_err_and}
use Rattle.pas_run.specs.declared.arguments.Argument.{Argument as CodeArgument}
use Rattle.pas_run.specs.declared.cells.Cell.{Cell}
use Rattle.pas_run.specs.inner.Calling.{AreGiven}
use Rattle.pas_run.specs.inner.FlatStore.{flat_cell, flat_row}
use Rattle.pas_run.proofs.OpenLemmas.{given_at, given_long, row_more}
use Rattle.pas_run.proofs.CopyLemmas.{found_early}
use Rattle.pas_run.proofs.machine.Machine.argument_cells.Goals as goal

pub loop-argument-init : goal.loop-argument-init
loop-argument-init g c variables result kinds at parameters values are ports run stands = c.new-cells.ensures.items

pub loop-argument-preserved : goal.loop-argument-preserved
loop-argument-preserved g c variables result kinds at parameters values are ports run stands =
    let program = program_view c.args.scene.program.now in
    let i = c.loop-argument.argument-index in
    let found = given_at program variables parameters c.as_slice-argument-items.result.now values i
    c.argument-item.result c.loop-argument-test.true c.argument-item.is
    (subst (λ (founds : List CodeArgument). AreGiven program variables parameters founds values)
    (sym c.as_slice-argument-items.ensures) are) in
    c.in_ok-push_argument.ensures.found variables result kinds at found.parameter found.value found.given ports run
    stands
    ∙ ap (λ (cells : List Cell). cells ++ flat_cell kinds (cell_of run.store found.value))
    (c.loop-argument.invariant variables result kinds at parameters values are ports run stands)
    ∙ sym (row_more kinds run.store values i found.value found.more)

pub returns-in_err-push_argument-clause-found : goal.returns-in_err-push_argument-clause-found
returns-in_err-push_argument-clause-found g c variables result kinds at parameters values are ports run stands =
    let program = program_view c.args.scene.program.now in
    let found = given_at program variables parameters c.as_slice-argument-items.result.now values
    c.loop-argument.argument-index c.argument-item.result c.loop-argument-test.true c.argument-item.is
    (subst (λ (founds : List CodeArgument). AreGiven program variables parameters founds values)
    (sym c.as_slice-argument-items.ensures) are) in
    found_early _ c.in_err-push_argument.field-0.0 c.from_residual.result
    (err_from_is_err_and _ c.from_residual.ensures.1)
    (c.in_err-push_argument.ensures.found variables result kinds at found.parameter found.value found.given ports run
    stands)

pub returns-clause-found : goal.returns-clause-found
returns-clause-found g c variables result kinds at parameters values are ports run stands =
    let program = program_view c.args.scene.program.now in
    let long = given_long program variables parameters c.args.arguments.now values are in
    c.loop-argument.invariant variables result kinds at parameters values are ports run stands
    ∙ ap (λ (values : List Argument). flat_row kinds (map (cell_of run.store) values))
    (take_all c.loop-argument.argument-index values
    (omega (arith, long, c.loop-argument-test.false, ap length c.as_slice-argument-items.ensures)))
