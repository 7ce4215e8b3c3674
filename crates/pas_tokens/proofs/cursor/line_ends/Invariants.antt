use Rattle.std.proofs.Common.{◌≡◌, ◌≤◌, take, count_by}
use Rattle.wb_base.specs.Pieces.{ends_line}
use Rattle.pas_tokens.proofs.cursor.line_ends.Given as goal

abbrev pub invariant-loop-byte : goal.invariant-loop-byte
invariant-loop-byte l = record {
  so_far : l.count ≡ count_by ends_line (take l.byte-index l.bytes);
  most : l.count ≤ l.byte-index;
}
