use Rattle.std.proofs.Common.{◌∙◌, sym, inl, inr}
use Rattle.web_scan.proofs.StringsLemmas.{undoubled-pushed}
use Rattle.web_scan.proofs.strings.push_undoubled.Goals as goal
use Rattle.web_scan.proofs.strings.push_undoubled.Goals.{then-is_doubled_at, else-is_doubled_at}

pub loop-index-preserved : goal.loop-index-preserved
loop-index-preserved c =
    undoubled-pushed _ c.loop-index.text _ _ _ c.loop-index.index _ c.loop-index-test.true c.in_ok-push.ensures.ok
    c.loop-index.invariant
    (elim c.if-is_doubled_at.branch [
      | then-is_doubled_at w ↦ inl (sym c.is_doubled_at.ensures ∙ w.if-is_doubled_at.true, w.index-is)
      | else-is_doubled_at w ↦ inr (sym c.is_doubled_at.ensures ∙ w.if-is_doubled_at.false, w.index-is)
    ])
