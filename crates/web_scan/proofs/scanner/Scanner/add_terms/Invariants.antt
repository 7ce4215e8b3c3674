use Rattle.std.proofs.Common.{◌≡◌, ◌≤◌, List, length}
use Rattle.web_scan.specs.Numeric.{Term}
use Rattle.web_scan.specs.inner.StandsFor.{StandsFor}
use Rattle.web_scan.proofs.RightSideLemmas.{StillAdds}
use Rattle.web_scan.proofs.scanner.Scanner.add_terms.Given as goal

abbrev pub invariant-loop-token : goal.invariant-loop-token
invariant-loop-token l = record {
  adds : (terms : List Term) → StandsFor l.initial.sum terms → StillAdds l.id l.initial.self l.self terms l.sum;
  names : l.self.web.names ≡ l.initial.self.web.names;
  not_longer : length l.self.reading.rest ≤ length l.initial.self.reading.rest;
}

abbrev pub decreases-loop-token : goal.decreases-loop-token
decreases-loop-token l = length l.self.reading.rest
