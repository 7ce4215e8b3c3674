use Rattle.std.proofs.Common.{◌≡◌, arith}
use Rattle.web_scan.proofs.NumericLemmas.{with_plus_added, with_minus_added}
use Rattle.web_scan.proofs.numeric.Sum.add_sign.Goals as goal

pub returns-in_ok-end_number-in-43-clause-ok : goal.returns-in_ok-end_number-in-43-clause-ok
returns-in_ok-end_number-in-43-clause-ok c terms stands =
    let is : c.args.byte ≡ 43 = omega arith in
    with_plus_added c.end_number.new.self c.args.place c.args.byte terms is
    (c.in_ok-end_number-in-43.ensures terms stands)

pub returns-in_ok-end_number-in-45-clause-ok : goal.returns-in_ok-end_number-in-45-clause-ok
returns-in_ok-end_number-in-45-clause-ok c terms stands =
    let is : c.args.byte ≡ 45 = omega arith in
    with_minus_added c.end_number-in-45.new.self c.args.place c.args.byte terms is
    (c.in_ok-end_number-in-45.ensures terms stands)
