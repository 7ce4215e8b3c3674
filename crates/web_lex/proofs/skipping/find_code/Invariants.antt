use Rattle.std.proofs.Common.{◌≡◌, ◌≤◌, length}
use Rattle.web_lex.specs.SkipAhead.{next_code}
use Rattle.web_lex.proofs.skipping.find_code.Given as goal

abbrev pub invariant-loop-byte : goal.invariant-loop-byte
invariant-loop-byte l =
    (next_code l.cursor.rest ≡ next_code l.initial.cursor.rest) × (l.cursor.end ≡ l.initial.cursor.end)
    × (length l.cursor.rest ≤ length l.initial.cursor.rest)

abbrev pub decreases-loop-byte : goal.decreases-loop-byte
decreases-loop-byte l = length l.cursor.rest
