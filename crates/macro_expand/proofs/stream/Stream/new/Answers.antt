use Rattle.std.proofs.Common.{◌∙◌, ◌≤◌, length, ap, subst, ℕ}
use Rattle.macro_expand.specs.Expansion.{expansion_of, given_by}
use Rattle.macro_expand.specs.Flat.{nothing, ends, pieces_before}
use Rattle.macro_expand.specs.inner.Answers.{list_left}
use Rattle.macro_expand.proofs.ExpansionLemmas.{given_by-few}
use Rattle.macro_expand.proofs.stream.Stream.new.Goals as goal

-- the whole expansion
pub returns-clause-whole : goal.returns-clause-whole
unfolding expansion_of
returns-clause-whole c =
    let stack = c.new.result in
    ap (given_by stack.web.now stack.steps) c.new.ensures.list
    ∙ ap (λ steps. given_by stack.web.now steps (pieces_before c.args.web.now.unnamed (ends nothing)))
    c.new.ensures.steps
    ∙ ap (λ web. given_by web 16777216 (pieces_before c.args.web.now.unnamed (ends nothing))) c.new.ensures.web

-- each item takes a step
pub returns-clause-few : goal.returns-clause-few
returns-clause-few c =
    let stack = c.new.result in
    subst (λ (steps : ℕ). length (given_by stack.web.now stack.steps (list_left stack)).items ≤ steps)
    c.new.ensures.steps
    (given_by-few stack.web.now stack.steps (list_left stack))
