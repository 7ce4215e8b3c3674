-- Counts that grow by several calls.
use Rattle.std.proofs.Common.{◌≡◌, ◌≤◌, ℕ, zero, suc, ◌+◌, ap, ◌∙◌, arith}
use Rattle.wb_ports.specs.Counts.{next_count, grown, Rose}

-- some calls and then some more
pub grown-plus : (more calls count : ℕ) → grown (more + calls) count ≡ grown more (grown calls count)
grown-plus zero calls count = ap (λ (n : ℕ). grown n count) (omega arith)
grown-plus (suc more) calls count =
    let next : suc more + calls ≡ suc (more + calls) = omega arith in
    ap (λ (n : ℕ). grown n count) next ∙ ap next_count (grown-plus more calls count)

-- a count that rose and then did not fall has risen
pub rose_still : (before mid now : ℕ) → Rose before mid → mid ≤ now → Rose before now
rose_still before mid now rose later = record {
  later = omega (arith, rose.later);
  more = omega (arith, rose.more);
}
