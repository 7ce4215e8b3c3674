use Rattle.std.proofs.Common.{◌≡◌, take}
use Rattle.std.proofs.lemmas.List.{take_all}
use Rattle.web_pool.specs.Listing.{entry}
use Rattle.web_pool.proofs.entries.entry.Goals as goal

-- the loop went over the whole string
pub returns : goal.returns
unfolding entry
returns c =
    let whole : take c.loop-byte.byte-index c.args.string.now ≡ c.args.string.now =
    take_all c.loop-byte.byte-index c.args.string.now c.loop-byte-test.false in
    rw (c.add-2.ensures, c.loop-byte.invariant.items, c.numbered-line.ensures.bytes, whole)
