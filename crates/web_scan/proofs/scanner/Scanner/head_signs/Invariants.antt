use Rattle.std.proofs.Common.{◌≤◌, length}
use Rattle.web_scan.specs.Scanned.{most_tokens}
use Rattle.web_scan.specs.Sections.{head_read}
use Rattle.web_scan.proofs.StepsLemmas.{StillReads}
use Rattle.web_scan.proofs.scanner.Scanner.head_signs.Given as goal

abbrev pub invariant-loop-token : goal.invariant-loop-token
invariant-loop-token l = record {
  still : StillReads most_tokens head_read l.initial.self l.self;
  not_longer : length l.self.reading.rest ≤ length l.initial.self.reading.rest;
}

abbrev pub decreases-loop-token : goal.decreases-loop-token
decreases-loop-token l = length l.self.reading.rest
