use Rattle.std.proofs.Common.{◌∙◌, ap}
use Rattle.std.specs.Prelude.{ℤ, ◌+ℤ◌, ◌*ℤ◌}
use Rattle.std.proofs.Math.Facts.{to_z-of_z}
use Rattle.web_scan.specs.inner.StandsFor.{sign_of}
use Rattle.web_scan.proofs.NumericLemmas.{with_constant_added}
use Rattle.web_scan.proofs.ResultLemmas.{both}
use Rattle.web_scan.proofs.numeric.Sum.add.Goals as goal

pub returns : goal.returns
returns c =
    let middle = c.end_number.new.self in
    both c.add_product.result
    (λ total signs. with_constant_added c.args.self.now middle c.add_product.new.self c.args.value
    c.in_ok-end_number.ensures c.add_product.ensures.number
    (total ∙ ap (λ (value : ℤ). (sign_of middle.negated *ℤ value) +ℤ middle.total) (to_z-of_z c.ranges.value)) signs)
    c.add_product.ensures.total c.add_product.ensures.signs
