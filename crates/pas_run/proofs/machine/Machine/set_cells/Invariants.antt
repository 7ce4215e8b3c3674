use Rattle.std.proofs.Common.{◌≡◌, ◌+◌, ◌<◌, ◌≤◌, length, take}
use Rattle.pas_run.specs.inner.FlatStore.{cells_of, with_cells, behind_by}
use Rattle.pas_run.proofs.machine.Machine.set_cells.Given as goal

abbrev pub invariant-loop-number : goal.invariant-loop-number
invariant-loop-number g l = record {
  stored : l.fn.at.activation < length l.fn.self.activations
      → l.fn.at.offset + l.behind + length l.cells ≤ length (cells_of l.fn.at l.fn.self.activations)
      → l.self ≡ record l.fn.self {
        activations = with_cells (behind_by l.behind l.fn.at) (take l.number l.cells) l.fn.self.activations;
      };
  files : l.self.files ≡ l.fn.self.files;
}
