use Rattle.std.proofs.Common.{ℕ, refl, sym, arith, Option, Some}
use Rattle.pas_tokens.specs.declared.kinds.Kind.TheVariants as k
use Rattle.pas_syntax.specs.Tree.{Behind, Expr}
use Rattle.pas_syntax.specs.inner.Prog.{Prog, done, bind}
use Rattle.pas_syntax.specs.inner.Readers.{expr}
use Rattle.pas_syntax.specs.inner.StatementReaders.{width_at}
use Rattle.pas_syntax.proofs.PlaceLemmas.{with_more}
use Rattle.pas_syntax.proofs.PlaceSteps.{from_here, and_then, stopped, passed, looks_at, read}
use Rattle.pas_syntax.proofs.statements.width.Goals as goal

abbrev made : ℕ → Expr → Prog (Option (Behind Expr))
made line e = done (Some (record { line = line; item = e }))

abbrev behind_colon : ℕ → ℕ → ℕ → Prog (Option (Behind Expr))
behind_colon m n line = bind (expr m n 0) (made line)

pub returns-in_err-item-in-Colon : goal.returns-in_err-item-in-Colon
returns-in_err-item-in-Colon c =
    looks_at (λ m. width_at m c.args.depth.forms) k.Colon tt (sym c.in-Colon.ensures.kind) c.in-Colon.ensures.fits
    (with_more (omega arith) (from_here (passed (λ m. behind_colon m c.args.depth.forms) c.pass-line.ensures
    (stopped (λ m. made c.pass-line.result) c.from_residual.result c.in_err-item-in-Colon.ensures
    c.from_residual.ensures.1))))

pub returns-in_ok-item-in-Colon : goal.returns-in_ok-item-in-Colon
returns-in_ok-item-in-Colon c =
    looks_at (λ m. width_at m c.args.depth.forms) k.Colon tt (sym c.in-Colon.ensures.kind) c.in-Colon.ensures.fits
    (with_more (omega arith) (from_here (passed (λ m. behind_colon m c.args.depth.forms) c.pass-line.ensures
    (and_then (λ m. made c.pass-line.result) c.in_ok-item-in-Colon.ensures (read refl)))))
