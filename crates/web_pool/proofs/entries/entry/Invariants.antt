use Rattle.std.proofs.Common.{◌≡◌, ◌≤◌, ◌+◌, ◌*◌, ◌++◌, take, length}
use Rattle.std.specs.List.{flat_map}
use Rattle.web_pool.specs.Listing.{quoted_byte}
use Rattle.web_pool.proofs.entries.entry.Given as goal

-- the bytes so far are printed, each by at most four
abbrev pub invariant-loop-byte : goal.invariant-loop-byte
invariant-loop-byte l = record {
  items : l.line.items ≡ l.initial.line.items ++ flat_map quoted_byte (take l.byte-index l.string);
  fits : length l.line.items ≤ 46 + 4 * l.byte-index;
}
