use Rattle.std.proofs.Common.{◌≡◌, ◌≤◌, length}
use Rattle.web_scan.specs.Scanned.{most_tokens}
use Rattle.web_scan.specs.Texts.{macro_text}
use Rattle.web_scan.specs.inner.Open.{IsOpen}
use Rattle.web_scan.proofs.StepsLemmas.{StillReads}
use Rattle.web_scan.proofs.scanner.Scanner.macro_text.Given as goal

abbrev pub invariant-loop-token : goal.invariant-loop-token
invariant-loop-token l = record {
  still : StillReads most_tokens (λ most. macro_text most l.initial.text.class l.initial.text.first)
      l.initial.self l.self;
  opened : IsOpen l.text l.self.web;
  class : l.text.class ≡ l.initial.text.class;
  first : l.text.first ≡ l.initial.text.first;
  not_longer : length l.self.reading.rest ≤ length l.initial.self.reading.rest;
}

abbrev pub decreases-loop-token : goal.decreases-loop-token
decreases-loop-token l = length l.self.reading.rest
