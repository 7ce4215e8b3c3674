use Rattle.std.proofs.Common.{ℕ, refl}
use Rattle.pas_syntax.specs.Tree.{Expr}
use Rattle.pas_syntax.specs.inner.Prog.{Prog, done, bind}
use Rattle.pas_syntax.specs.inner.Marks.{mark}
use Rattle.pas_syntax.specs.inner.StatementReaders.{Guard, guard_by}
use Rattle.pas_syntax.proofs.PlaceSteps.{from_here, and_then, stopped, passed, read}
use Rattle.pas_syntax.proofs.statements.guard.Goals as goal

abbrev made : ℕ → Expr → ℕ → Prog Guard
made line e behind = done (record { line = line; value = e; behind = behind })

pub returns-in_err-value : goal.returns-in_err-value
returns-in_err-value c =
    from_here (passed (λ m. guard_by m c.args.depth.forms c.args.word) c.pass-line.ensures
    (stopped (λ m e. bind (mark c.args.word) (made c.pass-line.result e)) c.from_residual.result c.in_err-value.ensures
    c.from_residual.ensures.1))

pub returns-in_err-behind : goal.returns-in_err-behind
returns-in_err-behind c =
    from_here (passed (λ m. guard_by m c.args.depth.forms c.args.word) c.pass-line.ensures
    (and_then (λ m e. bind (mark c.args.word) (made c.pass-line.result e)) c.in_ok-value.ensures
    (stopped (λ m behind. made c.pass-line.result _ behind) c.from_residual-in_err-behind.result
    c.in_err-behind.ensures c.from_residual-in_err-behind.ensures.1)))

pub returns : goal.returns
returns c =
    from_here (passed (λ m. guard_by m c.args.depth.forms c.args.word) c.pass-line.ensures
    (and_then (λ m e. bind (mark c.args.word) (made c.pass-line.result e)) c.in_ok-value.ensures
    (and_then (λ m behind. made c.pass-line.result _ behind) c.in_ok-behind.ensures
    (read refl))))
