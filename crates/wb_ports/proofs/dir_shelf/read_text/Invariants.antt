use Rattle.std.proofs.Common.{◌≤◌, [], length}
use Rattle.wb_ports.specs.inner.Moving.{Moves}
use Rattle.wb_ports.proofs.dir_shelf.read_text.Given as goal

-- each turn moved at least a byte into the text
abbrev pub invariant-loop : goal.invariant-loop
invariant-loop g l = record {
  turns : l.counter ≤ length l.text;
  within : length l.text ≤ l.limit;
  moves : Moves (g.F.Read.remaining l.initial.file) (g.F.Read.remaining l.file) [] l.text;
}
