use Rattle.std.proofs.Common.{◌≡◌, ◌∙◌, ◌<◌, ◌==◌, false, true, length, sym, ap, arith}
use Rattle.std.specs.Option.{option_map}
use Rattle.std.proofs.lemmas.Bool.{eqb-false, eqb-true}
use Rattle.std.proofs.lemmas.Result.{err_from_is_err_and}
use Rattle.macro_expand.specs.Expansion.{with_item, given_by}
use Rattle.macro_expand.specs.Items.{item_of}
use Rattle.macro_expand.specs.inner.Answers.{list_left}
use Rattle.macro_expand.proofs.ExpansionLemmas.{removal-steps}
use Rattle.macro_expand.proofs.StreamLemmas.{IsLeft-levels, given-none, given-ok, given-err}
use Rattle.macro_expand.proofs.stream.Stream.next.Goals as goal

-- the head shows a fault
pub returns-in_err-item-clause-fault : goal.returns-in_err-item-clause-fault
returns-in_err-item-clause-fault c =
    let stack = c.removed.self-inside.stack in
    let test : (length stack.frames.items == 0) ≡ false = sym c.is_empty.ensures ∙ c.removed-test.true in
    let some : 0 < length stack.frames.items = omega (arith, eqb-false (length stack.frames.items) 0 test) in
    let p = err_from_is_err_and c.from_residual.result c.from_residual.ensures.1 in
    rw (p.1, p.2) (sym c.removed.invariant.same
    ∙ given-err stack.web.now stack.steps (list_left stack) c.in_err-item.field-0.0 (IsLeft-levels
    stack.web.now.tokens stack.frames.items some)
    c.in_err-item.ensures.answers)

-- the head gives an item
pub returns-in-Some-clause-item : goal.returns-in-Some-clause-item
returns-in-Some-clause-item c =
    let stack = c.removed.self-inside.stack in
    let after = c.remove_head.new.self in
    let test : (length stack.frames.items == 0) ≡ false = sym c.is_empty.ensures ∙ c.removed-test.true in
    let some : 0 < length stack.frames.items = omega (arith, eqb-false (length stack.frames.items) 0 test) in
    sym c.removed.invariant.same
    ∙ given-ok stack.web.now after.web.now stack.steps after.steps (list_left stack) (list_left after) (option_map
    item_of c.in_ok-item.field-0)
    (IsLeft-levels stack.web.now.tokens stack.frames.items some) (ap (λ web. web.now) c.remove_head.ensures.web)
    c.in_ok-item.ensures.answers
    ∙ ap (λ found. with_item (option_map item_of found) (given_by after.web.now after.steps (list_left after)))
    c.in-Some.is

-- the head gives none
pub removed-smaller : goal.removed-smaller
removed-smaller c =
    let stack = c.removed.self-inside.stack in
    removal-steps stack.web.now stack.steps (list_left stack) _ c.in_ok-item.ensures.answers

pub removed-preserved : goal.removed-preserved
removed-preserved c =
    let stack = c.removed.self-inside.stack in
    let after = c.remove_head.new.self in
    let test : (length stack.frames.items == 0) ≡ false = sym c.is_empty.ensures ∙ c.removed-test.true in
    let some : 0 < length stack.frames.items = omega (arith, eqb-false (length stack.frames.items) 0 test) in
    record {
      sound = c.in_ok-item.ensures.sound;
      same = sym (given-ok stack.web.now after.web.now stack.steps after.steps (list_left stack) (list_left after)
          (option_map item_of c.in_ok-item.field-0)
          (IsLeft-levels stack.web.now.tokens stack.frames.items some) (ap (λ web. web.now) c.remove_head.ensures.web)
          c.in_ok-item.ensures.answers
          ∙ ap (λ found. with_item (option_map item_of found) (given_by after.web.now after.steps (list_left after)))
          c.in_default.is)
          ∙ c.removed.invariant.same;
    }

-- no level is open
pub returns-clause-none : goal.returns-clause-none
returns-clause-none c =
    let stack = c.removed.self-inside.stack in
    let test : (length stack.frames.items == 0) ≡ true = sym c.is_empty.ensures ∙ c.removed-test.false in
    sym c.removed.invariant.same ∙ given-none stack.web.now stack.steps stack.frames.items (eqb-true (length
    stack.frames.items) 0 test)
