use Rattle.std.proofs.Common.{◌≡◌, ◌≤◌, length}
use Rattle.web_lex.specs.inner.Spelling.{spelled_after}
use Rattle.web_lex.proofs.section_names.spell.Given as goal

abbrev pub invariant-loop-byte : goal.invariant-loop-byte
invariant-loop-byte l = record {
  same : spelled_after l.spelling.text l.spelling.blank l.cursor.end l.cursor.rest
      ≡ spelled_after l.initial.spelling.text l.initial.spelling.blank l.initial.cursor.end l.initial.cursor.rest;
  end : l.cursor.end ≡ l.initial.cursor.end;
  not_longer : length l.cursor.rest ≤ length l.initial.cursor.rest;
}

abbrev pub decreases-loop-byte : goal.decreases-loop-byte
decreases-loop-byte l = length l.cursor.rest
