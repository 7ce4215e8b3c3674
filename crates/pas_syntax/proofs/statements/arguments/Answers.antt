use Rattle.std.proofs.Common.{ℕ, refl, ◌+◌}
use Rattle.pas_tokens.specs.declared.kinds.Kind.TheVariants as k
use Rattle.pas_syntax.specs.Tree.{Separated, Argument, Arguments}
use Rattle.pas_syntax.specs.inner.Prog.{Prog, done, bind}
use Rattle.pas_syntax.specs.inner.Marks.{mark}
use Rattle.pas_syntax.specs.inner.TypeReaders.{items_by}
use Rattle.pas_syntax.specs.inner.StatementReaders.{argument_by}
use Rattle.pas_syntax.proofs.PlaceSteps.{from_here, and_then, stopped, passed, formed, too_deep, read}
use Rattle.pas_syntax.proofs.statements.arguments.Goals as goal

abbrev made : ℕ → Separated Argument → ℕ → Prog Arguments
made opened items closed = done (record { opened = opened; items = items; closed = closed })

abbrev behind_items : ℕ → Separated Argument → Prog Arguments
behind_items opened items = bind (mark k.RightParenthesis) (made opened items)

abbrev behind_opened : ℕ → ℕ → ℕ → Prog Arguments
behind_opened m n opened = bind (items_by (argument_by m n) m) (behind_items opened)

pub returns-in_err-inner : goal.returns-in_err-inner
returns-in_err-inner c =
    from_here (too_deep (λ m. behind_opened m (c.args.depth.forms + 1)) c.from_residual.result
    c.in_err-inner.ensures.err c.from_residual.ensures.1)

pub returns-in_err-items : goal.returns-in_err-items
returns-in_err-items c =
    from_here (formed behind_opened c.in_ok-inner.ensures.ok
    (passed (λ m. behind_opened m c.in_ok-inner.inner.forms) c.pass-opened.ensures
    (stopped (λ m. behind_items c.pass-opened.result) c.from_residual-in_err-items.result c.in_err-items.ensures
    c.from_residual-in_err-items.ensures.1)))

pub returns-in_err-closed : goal.returns-in_err-closed
returns-in_err-closed c =
    from_here (formed behind_opened c.in_ok-inner.ensures.ok
    (passed (λ m. behind_opened m c.in_ok-inner.inner.forms) c.pass-opened.ensures
    (and_then (λ m. behind_items c.pass-opened.result) c.in_ok-items.ensures
    (stopped (λ m. made c.pass-opened.result _) c.from_residual-in_err-closed.result c.in_err-closed.ensures
    c.from_residual-in_err-closed.ensures.1))))

pub returns : goal.returns
returns c =
    from_here (formed behind_opened c.in_ok-inner.ensures.ok
    (passed (λ m. behind_opened m c.in_ok-inner.inner.forms) c.pass-opened.ensures
    (and_then (λ m. behind_items c.pass-opened.result) c.in_ok-items.ensures
    (and_then (λ m. made c.pass-opened.result _) c.in_ok-closed.ensures (read refl)))))
