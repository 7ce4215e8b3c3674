use Rattle.std.proofs.Common.{◌≡◌, sym, ap, subst, ◌∙◌, Result, Err}
use Rattle.std.proofs.lemmas.Result.{err_from_is_err_and}
use Rattle.wb_base.specs.declared.faults.WorkErr.{WorkErr}
use Rattle.wb_base.specs.WorkResult.{IfFault}
use Rattle.pas_syntax.specs.Tree.{Program}
use Rattle.pas_syntax.specs.ProgramViews.{program_in}
use Rattle.pas_typed.specs.declared.typed.TypedProgram.{TypedProgram}
use Rattle.pas_typed.specs.TypedViews.{program_view}
use Rattle.pas_scopes.specs.declared.stop.Stop.{Stop}
use Rattle.pas_scopes.specs.declared.stop.Stop.TheVariants as stop
use Rattle.pas_rules.specs.Check.{Means, IsFaultOf}
use Rattle.pas_types.specs.inner.Programs.{FaultBy}
use Rattle.pas_scopes.specs.Stopping.{work_err}
use Rattle.pas_types.proofs.program.check.Goals as goal

fault_told : (X : Type 0) (program : Program) (why : Stop) → FaultBy program why
    → IfFault {T = X} (Err (work_err why)) (IsFaultOf program)
fault_told X program stop.OutOfMemory h = tt
fault_told X program (stop.Fault fault) h = h
fault_told X program stop.Missing h = absurd h

told_by : {X : Type 0} (program : Program) (why : Stop) (result : Result X WorkErr) → result ≡ Err (work_err why)
    → FaultBy program why → IfFault result (IsFaultOf program)
told_by {X} program why result is h =
    subst (λ (r : Result X WorkErr). IfFault r (IsFaultOf program)) (sym is) (fault_told X program why h)

pub returns-in_err-program-clause-fault : goal.returns-in_err-program-clause-fault
returns-in_err-program-clause-fault c =
    let read : Program = program_in c.args.program.now.spellings c.args.program.now.tree in
    let why : Stop = c.in_err-program.field-0.0 in
    let told : FaultBy read why = subst (λ (p : Program). FaultBy p why)
    (λ i. program_in (c.spellings.ensures i) (c.tree.ensures.tree i)) c.in_err-program.ensures in
    let is = err_from_is_err_and _ c.from_residual.ensures.1 in
    told_by read why c.from_residual.result (is.1 ∙ ap Err is.2) told

pub of_checked-requires : goal.of_checked-requires
of_checked-requires c = (
  program_in c.args.program.now.spellings c.args.program.now.tree,
  c.tree.ensures.of_text,
  subst (λ (p : Program). Means p (program_view c.in_ok-program.program))
      (λ i. program_in (c.spellings.ensures i) (c.tree.ensures.tree i)) c.in_ok-program.ensures,
)

pub returns-clause-ok : goal.returns-clause-ok
returns-clause-ok c =
    let read : Program = program_in c.args.program.now.spellings c.args.program.now.tree in
    subst (λ (found : TypedProgram). Means read (program_view found)) (sym c.in_ok-checked.ensures.1)
    (subst (λ (p : Program). Means p (program_view c.in_ok-program.program))
    (λ i. program_in (c.spellings.ensures i) (c.tree.ensures.tree i)) c.in_ok-program.ensures)
