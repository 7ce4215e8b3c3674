use Rattle.std.proofs.Common.{◌≡◌, ◌-◌, ◌+◌, ℕ, vec_len}
use Rattle.web_scan.specs.inner.Under.{pieces_in, with_piece_under, AreWithin}
use Rattle.web_scan.proofs.parts.push_under.Given as goal

-- a text under the name is the same, though there are names without texts at the end
abbrev pub invariant-padded : goal.invariant-padded
invariant-padded l = record {
  same : with_piece_under l.name l.piece (pieces_in l.named.items)
      ≡ with_piece_under l.name l.piece (pieces_in l.initial.named.items);
  within : (size : ℕ) → AreWithin size l.initial.named.items → AreWithin size l.named.items;
}

abbrev pub decreases-padded : goal.decreases-padded
decreases-padded l = l.name + 1 - vec_len l.named
