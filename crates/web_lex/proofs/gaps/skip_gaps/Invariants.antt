use Rattle.std.proofs.Common.{◌≤◌, length}
use Rattle.web_lex.proofs.GapLemmas.{StillGaps}
use Rattle.web_lex.proofs.gaps.skip_gaps.Given as goal

abbrev pub invariant-loop : goal.invariant-loop
invariant-loop l =
    record { gaps : StillGaps l.initial.cursor l.cursor; not_longer : length l.cursor.rest ≤ length l.initial.cursor.rest }

abbrev pub decreases-loop : goal.decreases-loop
decreases-loop l = length l.cursor.rest
