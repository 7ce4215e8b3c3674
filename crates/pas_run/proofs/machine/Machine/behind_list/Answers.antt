use Rattle.std.proofs.Common.{subst, sym}
use Rattle.pas_typed.specs.TypedViews.{statements_view}
use Rattle.pas_meaning.specs.Run.{start, at}
use Rattle.pas_run.specs.declared.ends.Flow.{Flow as CodeFlow}
use Rattle.pas_run.specs.inner.Running.{flow_view, statement_of, entry_by, behind_of, IsTurn}
use Rattle.pas_run.proofs.ListLemmas.{flow_past, no_jump}
use Rattle.pas_run.proofs.machine.Machine.behind_list.Goals as goal

pub returns-in-Jump-clause-does : goal.returns-in-Jump-clause-does
returns-in-Jump-clause-does g c spellings program kinds around =
    let list = statements_view spellings c.args.list.now in
    subst (λ (found : CodeFlow). IsTurn kinds (λ from most. statement_of program most (entry_by at start from) around)
    (λ most. behind_of program most list around (flow_view found)) c.args.self.now c.entered.new.self
    c.entered.result) (sym c.in-Jump.is) (c.entered.ensures.does spellings program kinds at start around)

pub returns-in-Next-clause-does : goal.returns-in-Next-clause-does
returns-in-Next-clause-does g c spellings program kinds around =
    flow_past program kinds (statements_view spellings c.args.list.now) around c.args.flow c.args.self.now
    (no_jump c.args.flow c.in-Next.is)
