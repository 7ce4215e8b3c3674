use Rattle.std.proofs.Common.{◌≤◌, length}
use Rattle.web_scan.proofs.StepsLemmas.{StillReads}
use Rattle.web_scan.proofs.CodesLemmas.{codes_left, at_code_left, parts_read}
use Rattle.web_scan.proofs.scanner.Scanner.section_parts.Given as goal

abbrev pub invariant-loop-code : goal.invariant-loop-code
invariant-loop-code l = record {
  still : StillReads at_code_left parts_read (l.fn.first, l.fn.self) (l.code, l.self);
  not_longer : length l.self.reading.rest ≤ length l.fn.self.reading.rest;
}

abbrev pub decreases-loop-code : goal.decreases-loop-code
decreases-loop-code l = codes_left l.code (length l.self.reading.rest)
