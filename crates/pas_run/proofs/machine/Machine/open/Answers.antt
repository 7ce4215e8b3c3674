use Rattle.std.proofs.Common.{◌++◌, ◌∷◌, [], List, ap, ◌∙◌}
use Rattle.std.proofs.lemmas.Result.{err_from_is_err_and}
use Rattle.pas_typed.specs.TypedViews.{program_view, body_view}
use Rattle.pas_meaning.specs.Outcome.{change}
use Rattle.pas_meaning.specs.Run as meaning
use Rattle.pas_meaning.specs.Store.{opened}
use Rattle.pas_run.specs.declared.cells.Cell.{Cell}
use Rattle.pas_run.specs.inner.MachineState.{MachineState}
use Rattle.pas_run.specs.inner.Doings.{Any}
use Rattle.pas_run.specs.inner.Calling.{kinds_inside}
use Rattle.pas_run.proofs.DoesLemmas.{does_early}
use Rattle.pas_run.proofs.OpenLemmas.{does_open, does_not_found, does_if_found}
use Rattle.pas_run.proofs.machine.Machine.open.Goals as goal

pub returns-in_err-given-clause-does : goal.returns-in_err-given-clause-does
returns-in_err-given-clause-does g c variables result kinds at heading is values are most =
    let program = program_view c.args.scene.program.now in
    let body = body_view c.args.scene.program.now.spellings c.args.body.now in
    does_early most kinds (kinds_inside program kinds body) Any
    (change (λ found. opened (meaning.cells_for program body values found) found)) c.args.self.now c.args.self.now
    c.in_err-given.field-0.0 c.from_residual.result (err_from_is_err_and _ c.from_residual.ensures.1)
    (does_not_found {U = Unit {0}} most kinds (kinds_inside program kinds body) Any
    (change (λ found. opened (meaning.cells_for program body values found) found)) c.args.self.now c.args.self.now
    c.in_err-given.field-0.0 (λ run done. Unit {0})
    (λ ports run stands. c.in_err-given.ensures.found variables result kinds at heading.parameters values are ports run
    stands))

pub returns-in_err-cells-clause-does : goal.returns-in_err-cells-clause-does
returns-in_err-cells-clause-does g c variables result kinds at heading is values are most =
    let program = program_view c.args.scene.program.now in
    let body = body_view c.args.scene.program.now.spellings c.args.body.now in
    does_early most kinds (kinds_inside program kinds body) Any
    (change (λ found. opened (meaning.cells_for program body values found) found)) c.args.self.now c.args.self.now
    c.in_err-cells.field-0.0 c.from_residual-in_err-cells.result
    (err_from_is_err_and _ c.from_residual-in_err-cells.ensures.1)
    (does_not_found {U = Unit {0}} most kinds (kinds_inside program kinds body) Any
    (change (λ found. opened (meaning.cells_for program body values found) found)) c.args.self.now c.args.self.now
    c.in_err-cells.field-0.0 (λ run done. Unit {0})
    (λ ports run stands. c.in_err-cells.ensures.found))

pub returns-clause-does : goal.returns-clause-does
returns-clause-does g c variables result kinds at heading is values are most =
    let program = program_view c.args.scene.program.now in
    let body = body_view c.args.scene.program.now.spellings c.args.body.now in
    let before : MachineState = c.args.self.now in
    does_if_found most kinds (kinds_inside program kinds body) Any
    (change (λ found. opened (meaning.cells_for program body values found) found)) before c.push.new.self
    c.push.result _ c.push.ensures.found
    (λ same. does_open program c.args.scene.layouts.now c.args.scene.locals.now c.args.layout.now variables result
    kinds at heading body is c.args.arguments.now values are before c.push.new.self c.in_ok-given.given.items
    c.cells_in.result
    (λ ports run stands. c.in_ok-given.ensures.found variables result kinds at heading.parameters values are ports run
    stands) c.cells_in.ensures
    (same ∙ ap (λ (cells : List Cell). record before { activations = before.activations ++ cells ∷ [] })
    c.in_ok-cells.ensures.found) most)
