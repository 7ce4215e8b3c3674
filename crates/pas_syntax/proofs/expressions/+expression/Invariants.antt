use Rattle.std.proofs.Common.{◌+◌, ◌-◌, ◌*◌, length, ℕ, map}
use Rattle.pas_syntax.specs.declared.limits.TheConstants.{NESTING_LIMIT}
use Rattle.pas_syntax.specs.Tree as tree
use Rattle.pas_syntax.specs.Words.{sum_depth, term_depth, variable_depth, exprs_depth}
use Rattle.pas_syntax.specs.Views.{in_turn, ident_in, expr_in, sum_in, term_in, selector_in, more_expr_in}
use Rattle.pas_syntax.specs.inner.Deeps.{HasDepth}
use Rattle.pas_syntax.specs.inner.Readers as spec
use Rattle.pas_syntax.proofs.SoFar.{SoFar}
use Rattle.pas_syntax.proofs.expressions.+expression.Given as goal

-- how many forms and operators may still come
abbrev room : ℕ → ℕ → ℕ
room forms operators = 9 * ((NESTING_LIMIT - forms) + (NESTING_LIMIT - operators))

abbrev pub decreases-expr : goal.decreases-expr
decreases-expr l = room l.depth.forms l.depth.operators + 7

abbrev pub decreases-exprs : goal.decreases-exprs
decreases-exprs l = room l.depth.forms l.depth.operators + 8

abbrev pub decreases-factor : goal.decreases-factor
decreases-factor l = room l.depth.forms l.depth.operators + 3

abbrev pub decreases-first_term : goal.decreases-first_term
decreases-first_term l = room l.depth.forms l.depth.operators + 5

abbrev pub decreases-function_call : goal.decreases-function_call
decreases-function_call l = room l.depth.forms l.depth.operators

abbrev pub decreases-named_factor : goal.decreases-named_factor
decreases-named_factor l = room l.depth.forms l.depth.operators + 2

abbrev pub decreases-selector : goal.decreases-selector
decreases-selector l = room l.depth.forms l.depth.operators

abbrev pub decreases-sum : goal.decreases-sum
decreases-sum l = room l.depth.forms l.depth.operators + 6

abbrev pub decreases-term : goal.decreases-term
decreases-term l = room l.depth.forms l.depth.operators + 4

abbrev pub decreases-variable : goal.decreases-variable
decreases-variable l = room l.depth.forms l.depth.operators + 1

abbrev pub invariant-exprs-more : goal.invariant-exprs-more
invariant-exprs-more l =
    let found = in_turn (tree.first_expr (expr_in l.fn.reader.spellings l.first.tree))
    (map (more_expr_in l.fn.reader.spellings) l.more) in record {
      so_far : SoFar (λ m. spec.exprs m l.depth.forms l.depth.operators)
          (λ m. spec.behind_expr (spec.factor m) m l.depth.forms l.depth.operators) l.fn.reader l.reader found;
      depth : HasDepth l.depth.operators l.deepest (exprs_depth found);
    }

abbrev pub decreases-exprs-more : goal.decreases-exprs-more
decreases-exprs-more l = length l.reader.tokens

abbrev pub invariant-sum-more : goal.invariant-sum-more
invariant-sum-more l =
    let found = sum_in l.fn.reader.spellings l.left.tree in record {
      so_far : SoFar (λ m. spec.sum_by (spec.factor m) m l.depth.forms l.depth.operators)
          (λ m. spec.behind_term (spec.factor m) m l.depth.forms l.depth.operators) l.fn.reader l.reader found;
      depth : HasDepth l.depth.operators l.left.depth (sum_depth found);
    }

abbrev pub decreases-sum-more : goal.decreases-sum-more
decreases-sum-more l = length l.reader.tokens

abbrev pub invariant-term-more : goal.invariant-term-more
invariant-term-more l =
    let found = term_in l.fn.reader.spellings l.left.tree in record {
      so_far : SoFar (λ m. spec.term_by (spec.factor m) m l.depth.forms l.depth.operators)
          (λ m. spec.behind_factor (spec.factor m) m l.depth.forms l.depth.operators) l.fn.reader l.reader found;
      depth : HasDepth l.depth.operators l.left.depth (term_depth found);
    }

abbrev pub decreases-term-more : goal.decreases-term-more
decreases-term-more l = length l.reader.tokens

abbrev pub invariant-variable-more : goal.invariant-variable-more
invariant-variable-more l =
    let found = in_turn (tree.whole (ident_in l.fn.reader.spellings l.name))
    (map (selector_in l.fn.reader.spellings) l.selectors) in record {
      so_far : SoFar (λ m. spec.variable m l.depth.forms l.depth.operators (ident_in l.fn.reader.spellings l.name))
          (λ m. spec.behind_variable (spec.factor m) m l.depth.forms l.depth.operators) l.fn.reader l.reader found;
      depth : HasDepth l.depth.operators l.deepest (variable_depth found);
    }

abbrev pub decreases-variable-more : goal.decreases-variable-more
decreases-variable-more l = length l.reader.tokens
