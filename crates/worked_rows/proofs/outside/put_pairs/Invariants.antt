use Rattle.std.proofs.Common.{◌≡◌}
use Rattle.wb_ports.specs.declared.port.Mode.{Mode}
use Rattle.worked_rows.proofs.outside.put_pairs.Given as goal

abbrev pub invariant-loop : goal.invariant-loop
invariant-loop g l = g.P.Port.mode l.port ≡ Mode.Writing
