use Rattle.std.proofs.Common.{rules, arith, ◌<◌, ◌≤◌, ◌≡◌, ap, length, ◌∙◌, ◌-◌}
use Rattle.std.proofs.lemmas.List.{length-drop}
use Rattle.pas_typed.specs.Texts.{undoubled}
use Rattle.pas_run.proofs.QuotedLemmas.{length_undoubled, has_a_byte, one_counted}
use Rattle.pas_run.proofs.quoted.text_length.Goals as goal

pub overflow_add-count : goal.overflow_add-count
overflow_add-count c =
    let some : 0 < length c.loop-rest.rest.now = search rules in
    let byte : 0 < length (undoubled c.loop-rest.rest.now) = has_a_byte c.loop-rest.rest.now some in
    let most : length (undoubled c.args.spelled.now) ≤ length c.args.spelled.now =
    length_undoubled c.args.spelled.now in
    search (rules, byte, most)

pub loop-rest-smaller : goal.loop-rest-smaller
loop-rest-smaller c =
    let some : 0 < length c.loop-rest.rest.now = search rules in
    let byte : 0 < length (undoubled c.loop-rest.rest.now) = has_a_byte c.loop-rest.rest.now some in
    let less : length (undoubled c.behind_first-rest.result.now) ≡ length (undoubled c.loop-rest.rest.now) - 1
    = ap length c.behind_first-rest.ensures ∙ length-drop 1 (undoubled c.loop-rest.rest.now) in
    omega (arith, less, byte)

pub loop-rest-preserved : goal.loop-rest-preserved
loop-rest-preserved c =
    one_counted c.loop-rest.count c.args.spelled.now c.loop-rest.rest.now c.behind_first-rest.result.now
    (search rules) c.behind_first-rest.ensures c.loop-rest.invariant
