use Rattle.std.proofs.Common.{arith}
use Rattle.pas_run.specs.inner.FlatStore.{with_cell}
use Rattle.pas_run.proofs.MachineLemmas.{cell_set, cells_changed}
use Rattle.pas_run.proofs.machine.Machine.set_in.Goals as goal

pub returns-then-offset-len : goal.returns-then-offset-len
returns-then-offset-len g c =
    cells_changed _ _ (with_cell (record { activation = c.args.activation; offset = c.args.offset }) c.args.cell) _
    c.self.view_is
    (cell_set c.self.inside.activations.items c.index_mut.result.now
    (record { activation = c.args.activation; offset = c.args.offset }) c.args.cell
    c.index_mut.ensures.value (omega (arith, c.if-activation-len.true, c.len.ensures)))
