use Rattle.std.proofs.Common.{ℕ, ◌<◌, ◌≤◌, length, arith}
use Rattle.std.proofs.lemmas.Result.{err_from_is_err_and}
use Rattle.wb_base.proofs.WorkResultLemmas.{IfFault-weaker}
use Rattle.change_merge.proofs.WithChangeLemmas.{Found, block_nowhere, block_differs, block_applies}
use Rattle.change_merge.proofs.merging.first_replaced.Goals as goal

pub returns-then-first-web-clause-fault : goal.returns-then-first-web-clause-fault
returns-then-first-web-clause-fault c =
    let found : Found c.args.text.now c.args.web.now c.args.change.now c.args.block.now c.args.from
    c.first_equal-first.result _ c.line_bytes-first_old.result.now =
    record {
      in_order = c.requires.in_order;
      within = c.requires.within;
      bytes_are = c.line_bytes-first_old.ensures;
      first_is = c.first_equal-first.ensures.value;
    } in
    rw (c.into.ensures, c.at.ensures) (λ further. block_nowhere _ _ _ _ _ _ _ _ found c.if-first-web.true further)

pub returns-in_err-compare_others-clause-fault : goal.returns-in_err-compare_others-clause-fault
returns-in_err-compare_others-clause-fault c =
    let found : Found c.args.text.now c.args.web.now c.args.change.now c.args.block.now c.args.from
    c.first_equal-first.result _ c.line_bytes-first_old.result.now =
    record {
      in_order = c.requires.in_order;
      within = c.requires.within;
      bytes_are = c.line_bytes-first_old.ensures;
      first_is = c.first_equal-first.ensures.value;
    } in
    let near : c.first_equal-first.result ≤ length c.args.web.now = c.first_equal-first.ensures.within in
    let below : c.first_equal-first.result < length c.args.web.now = omega arith in
    let p = err_from_is_err_and c.from_residual.result c.from_residual.ensures.1 in
    rw (p.1, p.2) (IfFault-weaker (Unit {0}) ℕ c.in_err-compare_others.field-0.0 _ _
    (λ fault differs. λ further. block_differs _ _ _ _ _ _ _ _ found below fault differs further)
    c.in_err-compare_others.ensures.fault)

pub returns-clause-ok : goal.returns-clause-ok
returns-clause-ok c =
    let found : Found c.args.text.now c.args.web.now c.args.change.now c.args.block.now c.args.from
    c.first_equal-first.result _ c.line_bytes-first_old.result.now =
    record {
      in_order = c.requires.in_order;
      within = c.requires.within;
      bytes_are = c.line_bytes-first_old.ensures;
      first_is = c.first_equal-first.ensures.value;
    } in
    let near : c.first_equal-first.result ≤ length c.args.web.now = c.first_equal-first.ensures.within in
    let below : c.first_equal-first.result < length c.args.web.now = omega arith in
    λ further. block_applies _ _ _ _ _ _ _ _ found below c.in_ok-compare_others.ensures.ok further
