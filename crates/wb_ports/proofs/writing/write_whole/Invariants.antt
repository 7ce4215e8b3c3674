use Rattle.std.proofs.Common.{◌≡◌, List, ℕ, ◌++◌, length}
use Rattle.std.specs.Io.KnownBytes.{Appends}
use Rattle.wb_ports.proofs.writing.write_whole.Given as goal

-- what is done so far was appended, and the rest is the rest of the piece
abbrev pub invariant-loop-rest : goal.invariant-loop-rest
invariant-loop-rest g l = record {
  done : List ℕ;
  parts : done ++ l.rest ≡ l.piece;
  appended : Appends (g.W.Write.contents l.initial.writer) (g.W.Write.contents l.writer) done;
}

abbrev pub decreases-loop-rest : goal.decreases-loop-rest
decreases-loop-rest g l = length l.rest
