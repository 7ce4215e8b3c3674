use Rattle.std.proofs.Common.{refl, Option}
use Rattle.pas_syntax.specs.Tree.{Behind, Expr, Argument}
use Rattle.pas_syntax.specs.inner.Prog.{Prog, done, look, bind}
use Rattle.pas_syntax.specs.inner.StatementReaders.{width_at}
use Rattle.pas_syntax.proofs.PlaceSteps.{from_here, and_then, stopped, read}
use Rattle.pas_syntax.proofs.statements.argument.Goals as goal

abbrev made : Expr → Option (Behind Expr) → Prog Argument
made e width = done (record { value = e; width = width })

pub returns-in_err-value : goal.returns-in_err-value
returns-in_err-value c =
    from_here (stopped (λ m e. bind (look (width_at m c.args.depth.forms)) (made e)) c.from_residual.result
    c.in_err-value.ensures c.from_residual.ensures.1)

pub returns-in_err-width : goal.returns-in_err-width
returns-in_err-width c =
    from_here (and_then (λ m e. bind (look (width_at m c.args.depth.forms)) (made e)) c.in_ok-value.ensures
    (stopped (λ m. made _) c.from_residual-in_err-width.result c.in_err-width.ensures
    c.from_residual-in_err-width.ensures.1))

pub returns : goal.returns
returns c =
    from_here (and_then (λ m e. bind (look (width_at m c.args.depth.forms)) (made e)) c.in_ok-value.ensures
    (and_then (λ m. made _) c.in_ok-width.ensures (read refl)))
