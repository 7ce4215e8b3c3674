use Rattle.std.proofs.Common.{◌≡◌, ap, refl, Err, Bool, ℕ, Result}
use Rattle.tangle_core.specs.declared.emitting.EmitErr.{EmitErr}
use Rattle.tangle_core.specs.Emission.{is_failed}
use Rattle.tangle_core.proofs.WritingLemmas.{closing_failed}
use Rattle.tangle_core.proofs.writing.write_pascal.Goals as goal

pub returns-in_err-close-in-Ok-clause-failed : goal.returns-in_err-close-in-Ok-clause-failed
returns-in_err-close-in-Ok-clause-failed g c = λ _.
    closing_failed (Unit {0}) _ c.in_err-close-in-Ok.field-0.0 _ _ _ _ _ _ _ _ _ _
    c.in_ok-create.ensures.open_name c.in_ok-create.ensures.ok c.in-Ok.ensures.fills.same_name
    (c.in-Ok.ensures.fills.written refl) c.in_err-close-in-Ok.ensures.files c.in_err-close-in-Ok.ensures.last

pub returns-in_err-close-in-Err-Fault-clause-failed : goal.returns-in_err-close-in-Err-Fault-clause-failed
returns-in_err-close-in-Err-Fault-clause-failed g c = λ _.
    let failed : EmitErr → Bool = λ err. let r : Result ℕ EmitErr = Err err in is_failed r in
    closing_failed (Unit {0}) _ c.in_err-close-in-Err-Fault.field-0.0 _ _ _ _ _ _ _ _ _ _
    c.in_ok-create.ensures.open_name c.in_ok-create.ensures.ok c.in-Err-Fault.ensures.fills.same_name
    (c.in-Err-Fault.ensures.fills.written (ap failed c.in-Err-Fault.field-0-is))
    c.in_err-close-in-Err-Fault.ensures.files c.in_err-close-in-Err-Fault.ensures.last
