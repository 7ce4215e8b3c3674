use Rattle.std.proofs.Common.{◌≡◌, ◌<◌, ◌≤◌, length}
use Rattle.web_lex.specs.Gaps.{after_comment}
use Rattle.web_lex.proofs.gaps.skip_comment.Given as goal

abbrev pub invariant-loop-byte : goal.invariant-loop-byte
invariant-loop-byte l = record {
  same : after_comment l.cursor.end l.depth l.cursor.rest
      ≡ after_comment l.initial.cursor.end 0 l.initial.cursor.rest;
  end : l.cursor.end ≡ l.initial.cursor.end;
  not_longer : length l.cursor.rest ≤ length l.initial.cursor.rest;
  counted : 0 < l.depth → l.depth < l.cursor.passed;
}

abbrev pub decreases-loop-byte : goal.decreases-loop-byte
decreases-loop-byte l = length l.cursor.rest
