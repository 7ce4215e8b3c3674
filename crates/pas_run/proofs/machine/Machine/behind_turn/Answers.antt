use Rattle.std.proofs.Common.{None, Ok, subst, sym, refl}
use Rattle.std.proofs.lemmas.Result.{err_from_is_err_and}
use Rattle.pas_typed.specs.TypedViews.{statements_view}
use Rattle.pas_meaning.specs.Run as meaning
use Rattle.pas_meaning.specs.Run.{within}
use Rattle.pas_run.specs.declared.ends.Flow.{Flow as CodeFlow}
use Rattle.pas_run.specs.declared.ends.Flow.TheVariants as flow
use Rattle.pas_run.specs.inner.Running.{flow_view, IsFlow, statement_of, entry_by, looped_of, IsTurn}
use Rattle.pas_run.proofs.DoesLemmas.{does_pure}
use Rattle.pas_run.proofs.RunningLemmas.{leads_step}
use Rattle.pas_run.proofs.ListLemmas.{turn_early, next_stop}
use Rattle.pas_run.specs.declared.loops.Turn.TheVariants as turns
use Rattle.pas_run.specs.inner.Doings.{is_port_failed}
use Rattle.pas_run.proofs.DoesLemmas.{quiet_early}
use Rattle.pas_run.proofs.StatementLemmas.{quiet_still}
use Rattle.pas_run.proofs.machine.Machine.behind_turn.Goals as goal

pub returns-in_err-take_step-in-Next-clause-does : goal.returns-in_err-take_step-in-Next-clause-does
returns-in_err-take_step-in-Next-clause-does g c spellings program kinds entry turning around =
    let list = statements_view spellings c.args.list.now in
    subst (λ (found : CodeFlow). IsTurn kinds
    (λ from most. statement_of program most (entry_by entry turning from) around)
    (λ most. looped_of program most list entry turning around (flow_view found)) c.args.self.now
    c.take_step.new.self c.from_residual.result) (sym c.in-Next.is)
    (turn_early kinds _ _ c.args.self.now c.take_step.new.self c.in_err-take_step-in-Next.field-0.0
    c.from_residual.result
    (err_from_is_err_and _ c.from_residual.ensures.1)
    (λ most. next_stop program kinds list entry turning around c.args.self.now c.take_step.new.self
    c.in_err-take_step-in-Next.field-0.0 most (c.in_err-take_step-in-Next.ensures.does most kinds)))

pub returns-in_ok-take_step-in-Next-clause-does : goal.returns-in_ok-take_step-in-Next-clause-does
returns-in_ok-take_step-in-Next-clause-does g c spellings program kinds entry turning around =
    let list = statements_view spellings c.args.list.now in
    subst (λ (found : CodeFlow). IsTurn kinds
    (λ from most. statement_of program most (entry_by entry turning from) around)
    (λ most. looped_of program most list entry turning around (flow_view found)) c.args.self.now
    c.take_step.new.self (Ok (turns.Again None))) (sym c.in-Next.is)
    (leads_step program kinds c.args.self.now c.take_step.new.self turning around
    c.in_ok-take_step-in-Next.ensures.fewer
    (λ most. c.in_ok-take_step-in-Next.ensures.does most kinds))

pub returns-in-Leaves-clause-does : goal.returns-in-Leaves-clause-does
returns-in-Leaves-clause-does g c spellings program kinds entry turning around =
    let list = statements_view spellings c.args.list.now in
    subst (λ (found : CodeFlow). IsTurn kinds
    (λ from most. statement_of program most (entry_by entry turning from) around)
    (λ most. looped_of program most list entry turning around (flow_view found)) c.args.self.now c.args.self.now
    (Ok (turns.Over flow.Next)))
    (sym c.in-Leaves.is) (λ most. does_pure most kinds IsFlow flow.Next meaning.next c.args.self.now refl)

pub returns-in-Jump-clause-does : goal.returns-in-Jump-clause-does
returns-in-Jump-clause-does g c spellings program kinds entry turning around =
    let list = statements_view spellings c.args.list.now in
    subst (λ (found : CodeFlow). IsTurn kinds
    (λ from most. statement_of program most (entry_by entry turning from) around)
    (λ most. looped_of program most list entry turning around (flow_view found)) c.args.self.now
    c.entered.new.self c.entered.result) (sym c.in-Jump.is)
    (c.entered.ensures.does spellings program kinds entry turning around)

pub returns-in_err-take_step-in-Next-clause-cause : goal.returns-in_err-take_step-in-Next-clause-cause
returns-in_err-take_step-in-Next-clause-cause g c =
    quiet_still (is_port_failed c.from_residual.result) c.args.self.now.files c.take_step.new.self.files
    c.in_err-take_step-in-Next.ensures.files
    (quiet_early c.args.self.now.files c.in_err-take_step-in-Next.field-0.0 c.from_residual.result
    (err_from_is_err_and _ c.from_residual.ensures.1) c.in_err-take_step-in-Next.ensures.quiet)
