use Rattle.std.proofs.Common.{◌-◌, length, arith}
use Rattle.std.proofs.lemmas.Grind.{common_steps}
use Rattle.std.proofs.lemmas.List.{append-nil}
use Rattle.wb_ports.proofs.mem_sink.MemSinkSink.write.Goals as goal
use Rattle.wb_ports.proofs.mem_sink.MemSinkSink.write.Goals.{else-not-listed-via-then-not-listed+else-append_within}
use Rattle.wb_ports.proofs.mem_sink.MemSinkSink.write.Goals.{else-not-listed-via-else-not-listed}

-- what fits was appended, or nothing
pub returns-clause-failed : goal.returns-clause-failed
returns-clause-failed c = elim c.else-not-listed.branch [
  | else-not-listed-via-then-not-listed+else-append_within w ↦
      (c.self.inside.room - length c.args.self.now.bytes, grind (arith, common_steps))
  | else-not-listed-via-else-not-listed w ↦ (0, grind (arith, common_steps, append-nil))
]
