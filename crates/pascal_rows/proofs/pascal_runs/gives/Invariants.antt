use Rattle.std.proofs.Common.{◌≡◌}
use Rattle.wb_ports.specs.declared.port.Mode.{Mode}
use Rattle.pascal_rows.proofs.pascal_runs.gives.Given as goal

abbrev pub invariant-loop-byte : goal.invariant-loop-byte
invariant-loop-byte g l = g.P.Port.mode l.port ≡ Mode.Reading
