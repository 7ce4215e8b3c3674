use Rattle.std.proofs.Common.{◌≡◌, ◌∙◌, sym, ap, ◌+◌, ℕ, Err}
use Rattle.std.specs.Prelude.{Option, Some}
use Rattle.wb_base.specs.declared.places.FileTag.TheVariants.{Pas}
use Rattle.wb_base.specs.declared.faults.Fault.{Fault as Flaw}
use Rattle.wb_base.specs.FaultAt.{fault_at}
use Rattle.macro_expand.specs.Expansion.{expansion_of}
use Rattle.tangle_out.specs.declared.pieces.OutErr.TheVariants.{Failed}
use Rattle.tangle_core.proofs.EmittingLemmas.{tangled-Whole, tangled-Breaks, tangled-told, tangled-prefix, of_fault}
use Rattle.tangle_core.proofs.emitting.expand_to.Goals as goal

pub returns-in-Ok-clause-ok : goal.returns-in-Ok-clause-ok
returns-in-Ok-clause-ok g c =
    let all = tangled-Whole (expansion_of c.args.web.now) _ _ _ c.in-Ok.ensures.ok in
    (all.0, c.finished.ensures ∙ all.1)

pub returns-in-Ok-clause-told : goal.returns-in-Ok-clause-told
returns-in-Ok-clause-told g c = λ _. tangled-told (expansion_of c.args.web.now) _ _ c.in-Ok.ensures.ok.tells.told

pub returns-in-Err-Fault-clause-fault : goal.returns-in-Err-Fault-clause-fault
returns-in-Err-Fault-clause-fault g c =
    let breaks = of_fault (Unit {0}) _ _ _ c.in-Err-Fault.ensures.fault c.in-Err-Fault.field-0-is in
    let at : ℕ → Flaw = λ n. fault_at c.in-Err-Fault.code (record { file = Pas; line = n + 1 }) in
    let some : Flaw → Option Flaw = λ fault. Some fault in
    tangled-Breaks (expansion_of c.args.web.now) _ _ _ _ breaks
    ∙ ap some (ap at (sym c.finished-in-Err-Fault.ensures) ∙ sym c.at.ensures)

pub returns-in-Err-Fault-clause-told : goal.returns-in-Err-Fault-clause-told
returns-in-Err-Fault-clause-told g c = λ _.
    let breaks = of_fault (Unit {0}) _ _ _ c.in-Err-Fault.ensures.fault c.in-Err-Fault.field-0-is in
    tangled-told (expansion_of c.args.web.now) _ _ breaks.tells.told

pub returns-in-Err-Failed-clause-failed : goal.returns-in-Err-Failed-clause-failed
returns-in-Err-Failed-clause-failed g c = λ _.
    let is = c.in-Err-Failed.is in
    let failed : c.emit.result ≡ Err Failed = cc c.in-Err-Failed.field-0-is in
    tangled-prefix (expansion_of c.args.web.now) _ _ (c.emit.ensures.failed failed)
