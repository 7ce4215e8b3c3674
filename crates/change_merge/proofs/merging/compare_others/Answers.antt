use Rattle.std.proofs.Common.{◌≤◌, ◌<◌, length, sym, ◌∙◌, arith}
use Rattle.change_merge.proofs.LinesAfterLemmas.{Compared, same_at_spans, differ_at_spans, ended_at_spans}
use Rattle.change_merge.proofs.LinesAfterLemmas.{equal_from_ne, different_from_ne}
use Rattle.change_merge.proofs.merging.compare_others.Goals as goal
use Rattle.change_merge.proofs.merging.compare_others.Goals.{then-index-web-via-then-index-web}
use Rattle.change_merge.proofs.merging.compare_others.Goals.{then-index-web-via-else-index-web+then-ne}

pub returns-then-index-web-clause-fault : goal.returns-then-index-web-clause-fault
returns-then-index-web-clause-fault c =
    let in_web : c.loop-index.index ≤ length c.args.web.now = c.loop-index.invariant.within in
    elim c.then-index-web.branch [
      | then-index-web-via-then-index-web w ↦
          rw (c.into.ensures, c.at.ensures)
          (sym c.loop-index.invariant.same ∙ ended_at_spans _ _ _ _ _ c.loop-index-test.true (omega arith))
      | then-index-web-via-else-index-web+then-ne w ↦
          let read : Compared c.args.text.now c.args.olds.now c.args.web.now c.loop-index.index _ _
          w.line_bytes.result.now w.line_bytes-else-index-web.result.now =
          record {
            in_olds = c.loop-index-test.true;
            in_web = omega
                (arith, w.if-index-web.false);
            old_is = w.line_bytes.ensures;
            line_is =
                w.line_bytes-else-index-web.ensures;
          } in
          rw (c.into.ensures, c.at.ensures)
          (sym c.loop-index.invariant.same
          ∙ differ_at_spans _ _ _ _ _ _ _ _ read (different_from_ne _ w.if-ne.ensures))
    ]

pub loop-index-preserved : goal.loop-index-preserved
loop-index-preserved c =
    let in_web : c.loop-index.index ≤ length c.args.web.now = c.loop-index.invariant.within in
    let below : c.loop-index.index < length c.args.web.now = omega arith in
    let read : Compared c.args.text.now c.args.olds.now c.args.web.now c.loop-index.index _ _ c.line_bytes.result.now
    c.line_bytes-else-index-web.result.now =
    record {
      in_olds = c.loop-index-test.true;
      in_web = below;
      old_is = c.line_bytes.ensures;
      line_is =
          c.line_bytes-else-index-web.ensures;
    } in
    record {
      within = omega arith;
      same = same_at_spans _ _ _ _ _ _ _ _ read (equal_from_ne _ c.if-ne.ensures)
          ∙ c.loop-index.invariant.same;
    }
