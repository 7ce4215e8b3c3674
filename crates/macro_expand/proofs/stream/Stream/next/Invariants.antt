use Rattle.std.proofs.Common.{◌≡◌}
use Rattle.macro_expand.specs.Expansion.{given_by}
use Rattle.macro_expand.specs.inner.Answers.{list_left, IsSound}
use Rattle.macro_expand.proofs.stream.Stream.next.Given as goal

-- what is left gives the same
abbrev pub invariant-removed : goal.invariant-removed
invariant-removed l = record {
  sound : IsSound l.self-inside.stack;
  same : given_by l.self-inside.stack.web.now l.self-inside.stack.steps (list_left l.self-inside.stack) ≡ l.fn.self;
}

-- each removal takes a step
abbrev pub decreases-removed : goal.decreases-removed
decreases-removed l = l.self-inside.stack.steps
