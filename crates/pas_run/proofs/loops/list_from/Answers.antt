use Rattle.std.proofs.Common.{ℕ, Option, sym, subst}
use Rattle.pas_typed.specs.TypedViews.{statements_view}
use Rattle.pas_run.specs.inner.Running.{IsFrom}
use Rattle.pas_run.proofs.ListLemmas.{from_begin}
use Rattle.pas_run.proofs.loops.list_from.Goals as goal

pub returns-in-Some : goal.returns-in-Some
returns-in-Some c spellings =
    subst (λ (from : Option ℕ). IsFrom from (statements_view spellings c.args.list.now)
    (statements_view spellings c.list_at.result.now)) (sym c.in-Some.is) (c.list_at.ensures spellings)

pub returns-in-None : goal.returns-in-None
returns-in-None c spellings =
    subst (λ (from : Option ℕ). IsFrom from (statements_view spellings c.args.list.now)
    (statements_view spellings c.args.list.now)) (sym c.in-None.is)
    (from_begin (statements_view spellings c.args.list.now))
