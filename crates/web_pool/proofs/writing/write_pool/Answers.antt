use Rattle.std.proofs.Common.{◌++◌, List, ℕ, take, sym, ap, ◌∙◌, subst, arith}
use Rattle.std.proofs.lemmas.Result.{on_ok_weaker, on_err_weaker}
use Rattle.wb_ports.specs.Held.{Gains, GainsPrefix}
use Rattle.wb_ports.proofs.HeldLemmas.{on_err, gains_nothing}
use Rattle.web_pool.specs.PoolText.{pool_line, pool_text}
use Rattle.web_pool.specs.inner.Gathering.{HandsOn}
use Rattle.web_pool.specs.inner.PoolParts.{strings_in}
use Rattle.web_pool.proofs.GatheringLemmas.{hands_same, hands_then, hands_prefix_then, hands_all, hands_prefix}
use Rattle.web_pool.proofs.PoolTextLemmas.{pool_text-none, lines_of-more, failed_line, whole_text, short_string}
use Rattle.web_pool.proofs.PoolTextLemmas.{lines_of, end_line}
use Rattle.web_pool.proofs.writing.write_pool.Goals as goal

pub returns-then-count-eq0-clause-ok : goal.returns-then-count-eq0-clause-ok
returns-then-count-eq0-clause-ok g c =
    subst (λ (l : List ℕ). Gains l (g.K.Sink.held c.args.sink.now) (g.K.Sink.held c.args.sink.now))
    (sym (pool_text-none c.args.pool.now (sym c.count.ensures ∙ c.if-count-eq0.true))) (gains_nothing _)

pub pool_line-requires : goal.pool_line-requires
pool_line-requires g c =
    let short = short_string _ _ _ _ c.strings-string-items.ensures.strings c.strings-string-items.ensures.short
    c.loop-string-test.true c.string-item.is in
    rw c.deref.ensures.value short

-- what was got of the lines so far and the next is a prefix of the text
pub returns-in_err-write-clause-failed : goal.returns-in_err-write-clause-failed
returns-in_err-write-clause-failed g c =
    on_err _ (failed_line _ _ _ _ _ _ _ _ _ _ c.strings-string-items.ensures.strings c.loop-string-test.true
    c.string-item.is
    c.new-out.ensures
    (c.deref-in-loop-string.ensures.0 ∙ c.pool_line.ensures ∙ ap pool_line c.deref.ensures.value)
    c.loop-string.invariant.hands c.in_err-write.ensures.failed)

-- the line of one string more
pub loop-string-preserved : goal.loop-string-preserved
loop-string-preserved g c =
    let line = c.deref-in-loop-string.ensures.0 ∙ c.pool_line.ensures ∙ ap pool_line c.deref.ensures.value in
    record {
      hands =
          hands_same _ _ _ _ _
          (ap (λ (l : List ℕ). c.new-out.result ++
          (lines_of (take c.loop-string.string-index (strings_in c.strings-string-items.result.now)) ++ l)) line
          ∙ ap (λ (l : List ℕ). c.new-out.result ++ l)
          (sym (lines_of-more _ c.loop-string.string-index c.string-item.result c.loop-string-test.true
          c.string-item.is)))
          (hands_then _ _ _ _ _ _ _ _ c.loop-string.invariant.hands c.in_ok-write.ensures.ok);
      same_count = c.in_ok-write.ensures.cause ∙ c.loop-string.invariant.same_count;
      same_frame = c.in_ok-write.ensures.frame ∙ c.loop-string.invariant.same_frame;
    }

-- what was got of all lines and the last is a prefix of the text
pub returns-in_err-write-2-clause-failed : goal.returns-in_err-write-2-clause-failed
returns-in_err-write-2-clause-failed g c =
    let whole = whole_text _ _ c.loop-string.string-index _ c.strings-string-items.ensures.strings (omega arith)
    c.loop-string-test.false c.new-out.ensures in
    let got = hands_prefix_then c.new-out.result
    (lines_of (take c.loop-string.string-index (strings_in c.strings-string-items.result.now)))
    end_line c.loop-string.out _ _ _ c.loop-string.invariant.hands c.in_err-write-2.ensures.failed in
    on_err _ (subst (λ (l : List ℕ). GainsPrefix l (g.K.Sink.held c.args.sink.now) (g.K.Sink.held c.write-2.new.sink))
    whole got)

-- all was written, and what is kept back of it is handed on
all_written : (g : _) (c : goal.After-hand_on g)
    → HandsOn (pool_text c.args.pool.now) c.write-2.new.self (g.K.Sink.held c.args.sink.now)
    (g.K.Sink.held c.write-2.new.sink)
all_written g c =
    let whole = whole_text _ _ c.loop-string.string-index _ c.strings-string-items.ensures.strings (omega arith)
    c.loop-string-test.false c.new-out.ensures in
    hands_same _ _ _ _ _ whole (hands_then _ _ _ _ _ _ _ _ c.loop-string.invariant.hands c.in_ok-write-2.ensures.ok)

pub returns-clause-ok : goal.returns-clause-ok
returns-clause-ok g c =
    on_ok_weaker c.hand_on.result (λ got. hands_all _ _ _ _ _ (all_written g c) got) c.hand_on.ensures.ok

pub returns-clause-failed : goal.returns-clause-failed
returns-clause-failed g c =
    on_err_weaker c.hand_on.result (λ got. hands_prefix _ _ _ _ _ (all_written g c) got) c.hand_on.ensures.failed
