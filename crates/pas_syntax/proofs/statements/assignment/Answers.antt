use Rattle.std.proofs.Common.{ℕ, refl}
use Rattle.pas_tokens.specs.declared.kinds.Kind.TheVariants as k
use Rattle.pas_syntax.specs.Tree as tree
use Rattle.pas_syntax.specs.Tree.{Expr, Variable, Plain}
use Rattle.pas_syntax.specs.inner.Prog.{Prog, done, bind}
use Rattle.pas_syntax.specs.inner.Readers.{expr}
use Rattle.pas_syntax.specs.inner.Marks.{mark}
use Rattle.pas_syntax.proofs.PlaceSteps.{from_here, and_then, stopped, read}
use Rattle.pas_syntax.proofs.statements.assignment.Goals as goal

abbrev made : Variable → ℕ → Expr → Prog Plain
made v line e = done (tree.assignment v line e)

abbrev behind_becomes : ℕ → ℕ → Variable → ℕ → Prog Plain
behind_becomes m n v line = bind (expr m n 0) (made v line)

abbrev behind_variable : ℕ → ℕ → Variable → Prog Plain
behind_variable m n v = bind (mark k.Becomes) (behind_becomes m n v)

pub returns-in_err-target : goal.returns-in_err-target
returns-in_err-target c =
    from_here (stopped (λ m. behind_variable m c.args.depth.forms) c.from_residual.result c.in_err-target.ensures.value
    c.from_residual.ensures.1)

pub returns-in_err-becomes : goal.returns-in_err-becomes
returns-in_err-becomes c =
    from_here (and_then (λ m. behind_variable m c.args.depth.forms) c.in_ok-target.ensures.value
    (stopped (λ m. behind_becomes m c.args.depth.forms _) c.from_residual-in_err-becomes.result
    c.in_err-becomes.ensures c.from_residual-in_err-becomes.ensures.1))

pub returns-in_err-value : goal.returns-in_err-value
returns-in_err-value c =
    from_here (and_then (λ m. behind_variable m c.args.depth.forms) c.in_ok-target.ensures.value
    (and_then (λ m. behind_becomes m c.args.depth.forms _) c.in_ok-becomes.ensures
    (stopped (λ m. made _ _) c.from_residual-in_err-value.result c.in_err-value.ensures
    c.from_residual-in_err-value.ensures.1)))

pub returns : goal.returns
returns c =
    from_here (and_then (λ m. behind_variable m c.args.depth.forms) c.in_ok-target.ensures.value
    (and_then (λ m. behind_becomes m c.args.depth.forms _) c.in_ok-becomes.ensures
    (and_then (λ m. made _ _) c.in_ok-value.ensures (read refl))))
