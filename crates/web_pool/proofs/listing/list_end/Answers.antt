use Rattle.std.proofs.Common.{◌≡◌, ◌++◌, List, ℕ, sym, ap, ◌∙◌}
use Rattle.std.proofs.lemmas.Result.{on_err_weaker}
use Rattle.web_pool.specs.inner.PoolParts.{closing_by}
use Rattle.web_pool.proofs.GatheringLemmas.{hands_same, hands_prefix}
use Rattle.web_pool.proofs.listing.list_end.Goals as goal

-- what was got of what is kept back is a prefix of all
pub returns-in_ok-write-in-Ok-clause-failed : goal.returns-in_ok-write-in-Ok-clause-failed
returns-in_ok-write-in-Ok-clause-failed g c =
    let line : c.deref.result.now ≡ closing_by c.args.ended.now =
    c.deref.ensures.0 ∙ c.closing_line.ensures ∙ ap closing_by (sym c.in-Ok.is) in
    let hands = hands_same _ _ _ _ _ (ap (λ (l : List ℕ). c.args.out.now ++ l) line) c.in_ok-write-in-Ok.ensures.ok in
    on_err_weaker c.hand_on.result (λ got. hands_prefix _ _ _ _ _ hands got) c.hand_on.ensures.failed
