use Rattle.std.proofs.Common.{◌≡◌, ◌+◌, ◌-◌, ◌++◌, List, ℕ, refl, ap, sym, ◌∙◌, arith}
use Rattle.wb_ports.proofs.HeldLemmas.{on_err}
use Rattle.web_pool.specs.Listing.{entries_from, byte_strings}
use Rattle.web_pool.proofs.EntriesLemmas.{entries_from-no_bytes, entries_from-byte, entries_from-fewer}
use Rattle.web_pool.proofs.GatheringLemmas.{hands_nothing, hands_same, hands_then, hands_prefix_then, prefix_of_whole}
use Rattle.web_pool.proofs.listing.list_bytes.Goals as goal

pub loop-code-init : goal.loop-code-init
loop-code-init g c = record {
  hands =
      hands_same _ _ _ _ _ (ap (λ (l : List ℕ). c.args.out.now ++ l) (sym entries_from-no_bytes))
      (hands_nothing c.args.out.now (g.K.Sink.held c.args.sink.now));
  same_count = refl;
  same_frame = refl;
}

-- the line of one byte more
pub loop-code-preserved : goal.loop-code-preserved
loop-code-preserved g c =
    let line : entries_from 0 (byte_strings c.loop-code.code) ++ c.deref.result.now
    ≡ entries_from 0 (byte_strings (c.loop-code.code + 1)) =
    ap (λ (l : List ℕ). entries_from 0 (byte_strings c.loop-code.code) ++ l)
    (c.deref.ensures.0 ∙ c.entry.ensures)
    ∙ sym (entries_from-byte c.loop-code.code) in
    record {
      hands =
          hands_same _ _ _ _ _ (ap (λ (l : List ℕ). c.args.out.now ++ l) line)
          (hands_then _ _ _ _ _ _ _ _ c.loop-code.invariant.hands c.in_ok-write.ensures.ok);
      same_count = c.in_ok-write.ensures.cause ∙ c.loop-code.invariant.same_count;
      same_frame = c.in_ok-write.ensures.frame ∙ c.loop-code.invariant.same_frame;
    }

-- what was got of the lines so far and the next is a prefix of all
pub returns-in_err-write-clause-failed : goal.returns-in_err-write-clause-failed
returns-in_err-write-clause-failed g c =
    let line : entries_from 0 (byte_strings c.loop-code.code) ++ c.deref.result.now
    ≡ entries_from 0 (byte_strings (c.loop-code.code + 1)) =
    ap (λ (l : List ℕ). entries_from 0 (byte_strings c.loop-code.code) ++ l)
    (c.deref.ensures.0 ∙ c.entry.ensures)
    ∙ sym (entries_from-byte c.loop-code.code) in
    let more = entries_from-fewer (c.loop-code.code + 1) (255 - c.loop-code.code) in
    let all : entries_from 0 (byte_strings 256)
    ≡ (entries_from 0 (byte_strings c.loop-code.code) ++ c.deref.result.now) ++ more.0 =
    ap (λ (n : ℕ). entries_from 0 (byte_strings n)) (omega arith) ∙ more.1
    ∙ ap (λ (l : List ℕ). l ++ more.0) (sym line) in
    let got = hands_prefix_then c.args.out.now (entries_from 0 (byte_strings c.loop-code.code)) c.deref.result.now
    c.loop-code.out _ _ _ c.loop-code.invariant.hands c.in_err-write.ensures.failed in
    on_err _ (prefix_of_whole c.args.out.now _ more.0 _ _ _ all got)
