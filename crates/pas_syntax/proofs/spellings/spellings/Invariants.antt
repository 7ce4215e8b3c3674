use Rattle.std.proofs.Common.{◌≡◌, ◌++◌, length}
use Rattle.pas_syntax.specs.inner.Places.{AreTokens, spelled_of}
use Rattle.pas_syntax.proofs.spellings.spellings.Given as goal

abbrev pub invariant-tokens : goal.invariant-tokens
invariant-tokens l = record {
  tokens : AreTokens l.cursor;
  same : l.all ++ spelled_of l.cursor ≡ spelled_of l.initial.cursor;
}

abbrev pub decreases-tokens : goal.decreases-tokens
decreases-tokens l = length l.cursor
