use Rattle.std.proofs.Common.{◌≡◌, ℕ, ◌-◌, ◌<◌, ◌≤◌, true, false, length}
use Rattle.web_names.specs.inner.SectionOrder.{texts_of, ordered_at, is_before}
use Rattle.web_names.proofs.sections.lower_bound.Given as goal

abbrev pub invariant-loop-low : goal.invariant-loop-low
invariant-loop-low l = record {
  in_order : l.low ≤ l.high;
  within : l.high ≤ length l.order;
  below : (index : ℕ) → index < l.low → is_before (ordered_at (texts_of l.names) l.order index) l.name ≡ true;
  from : (index : ℕ) → l.high ≤ index → index < length l.order
      → is_before (ordered_at (texts_of l.names) l.order index) l.name ≡ false;
}

abbrev pub decreases-loop-low : goal.decreases-loop-low
decreases-loop-low l = l.high - l.low
