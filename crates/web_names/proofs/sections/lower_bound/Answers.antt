use Rattle.std.proofs.Common.{◌≡◌, ℕ, ◌+◌, ◌-◌, ◌/◌, true, false, arith}
use Rattle.web_names.specs.inner.SectionOrder.{texts_of, ordered_at, is_before}
use Rattle.web_names.proofs.OrderLemmas.{below_after, from_after}
use Rattle.web_names.proofs.sections.lower_bound.Goals as goal

pub loop-low-preserved-then-is_lt : goal.loop-low-preserved-then-is_lt
unfolding is_before
loop-low-preserved-then-is_lt c =
    let middle : ℕ = c.loop-low.low + (c.loop-low.high - c.loop-low.low) / 2 in
    let before : is_before (ordered_at (texts_of c.args.names.now) c.args.order.now middle) c.args.name.now ≡ true =
    grind arith in
    record {
      in_order = omega arith;
      within = c.loop-low.invariant.within;
      below = below_after _ _ c.requires _ middle (omega arith) before;
      from = c.loop-low.invariant.from;
    }

pub loop-low-preserved : goal.loop-low-preserved
unfolding is_before
loop-low-preserved c =
    let middle : ℕ = c.loop-low.low + (c.loop-low.high - c.loop-low.low) / 2 in
    let after : is_before (ordered_at (texts_of c.args.names.now) c.args.order.now middle) c.args.name.now ≡ false =
    grind arith in
    record {
      in_order = omega arith;
      within = omega arith;
      below = c.loop-low.invariant.below;
      from = from_after _ _ c.requires _ middle after;
    }
