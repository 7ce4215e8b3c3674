use Rattle.std.proofs.Common.{◌≡◌, ◌≤◌, ◌+◌, ◌*◌, ◌++◌, List, ℕ, length}
use Rattle.web_pool.specs.Listing.{entries_from, byte_strings, characters_in}
use Rattle.wb_base.specs.Pieces.{pieces_of}
use Rattle.web_pool.specs.PoolLines.{read_pool, read_from}
use Rattle.web_pool.specs.inner.Gathering.{HandsOn}
use Rattle.web_pool.specs.inner.PoolParts.{strings_then}
use Rattle.web_pool.specs.declared.pool.TheConstants.{FIRST_NUMBER, LAST_NUMBER}
use Rattle.web_pool.proofs.listing.list_strings.Given as goal

-- these strings were read and their lines written; the rest is still to be read
abbrev pub invariant-loop-text : goal.invariant-loop-text
invariant-loop-text g l = record {
  done : List (List ℕ);
  reads : read_pool l.pool ≡ strings_then done (read_from l.line (pieces_of l.rest));
  place : l.line ≡ length done + 1;
  few : FIRST_NUMBER + l.line ≤ LAST_NUMBER + 2;
  counted : l.characters ≡ characters_in (byte_strings 256 ++ done);
  most : l.characters ≤ 400 * (l.line + 1);
  hands :
      HandsOn (l.initial.out ++ entries_from FIRST_NUMBER done) l.out (g.K.Sink.held l.initial.sink)
      (g.K.Sink.held l.sink);
  same_count : g.K.Sink.faults l.sink ≡ g.K.Sink.faults l.initial.sink;
  same_frame : g.K.Sink.frame l.sink ≡ g.K.Sink.frame l.initial.sink;
}

-- each turn leaves less of the pool
abbrev pub decreases-loop-text : goal.decreases-loop-text
decreases-loop-text g l = length l.rest
