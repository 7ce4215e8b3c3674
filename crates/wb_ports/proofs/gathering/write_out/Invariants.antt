use Rattle.std.proofs.Common.{◌≡◌, ◌≤◌, vec_len, vec_capacity}
use Rattle.std.specs.Io.KnownBytes.{Keeps, append_known}
use Rattle.wb_ports.proofs.gathering.write_out.Given as goal

-- what was written and what is left are still all of it
abbrev pub invariant-loop-writer : goal.invariant-loop-writer
invariant-loop-writer g l = record {
  fewer : vec_len l.bytes ≤ vec_len l.initial.bytes;
  capacity : vec_capacity l.bytes ≡ vec_capacity l.initial.bytes;
  kept : Keeps (append_known (g.W.Write.contents l.initial.writer) l.initial.bytes.items)
      (append_known (g.W.Write.contents l.writer) l.bytes.items);
}

abbrev pub decreases-loop-writer : goal.decreases-loop-writer
decreases-loop-writer g l = vec_len l.bytes
