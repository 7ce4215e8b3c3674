use Rattle.std.proofs.Common.{◌≡◌, ◌≤◌, ◌*◌, take, length}
use Rattle.std.specs.List.{flat_map}
use Rattle.web_pool.specs.Listing.{shown_byte}
use Rattle.web_pool.proofs.entries.characters_of.Given as goal

-- the bytes so far are counted, each as at most four
abbrev pub invariant-loop-byte : goal.invariant-loop-byte
invariant-loop-byte l = record {
  counted : l.count ≡ length (flat_map shown_byte (take l.byte-index l.string));
  few : l.count ≤ 4 * l.byte-index;
}
