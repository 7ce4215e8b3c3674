use Rattle.std.proofs.Common.{◌≡◌, ◌<◌, Err}
use Rattle.std.proofs.Common.{subst, sym}
use Rattle.std.proofs.lemmas.Result.{err_from_is_err_and}
use Rattle.tangle_out.specs.declared.pieces.OutErr.TheVariants.{Failed}
use Rattle.tangle_out.specs.Folding.{folded_whole}
use Rattle.tangle_out.specs.Packer.{PackerState}
use Rattle.tangle_out.proofs.ClausesLemmas.{on_err-map, of_err}
use Rattle.tangle_core.proofs.EmittingLemmas.{Breaks-folded, Breaks-at_end, Whole-end, prefix-end, prefix-packed}
use Rattle.tangle_core.proofs.EmittingLemmas.{if_fault-map, counts-few, on_ok-both}
use Rattle.tangle_core.proofs.output.Output.finish.Goals as goal

pub returns-in-Err-clause-fault : goal.returns-in-Err-clause-fault
returns-in-Err-clause-fault g c = λ items start at.
    Breaks-folded (folded_whole items) _ _ items _ start _ (c.in-Err.ensures.fault items at.folds) at

pub returns-in-Err-clause-counted : goal.returns-in-Err-clause-counted
returns-in-Err-clause-counted g c = counts-few _ _ c.requires.countable

pub returns-in_err-pack-clause-fault : goal.returns-in_err-pack-clause-fault
returns-in_err-pack-clause-fault g c =
    let p = err_from_is_err_and c.from_residual.result c.from_residual.ensures.1 in
    rw (p.1, p.2) (if_fault-map (Unit {0}) (Err c.in_err-pack.field-0.0) _ _
    (λ code breaks items start at.
    Breaks-at_end items _ code _ start _ (c.in-Ok.ensures.ok items at.folds) (breaks _ start at.sent))
    c.in_err-pack.ensures.fault)

pub returns-in_err-pack-clause-failed : goal.returns-in_err-pack-clause-failed
returns-in_err-pack-clause-failed g c =
    let p = err_from_is_err_and c.from_residual.result c.from_residual.ensures.1 in
    λ is items start at.
    let was = c.in_err-pack.was in
    let there = p.1 in
    let same = p.2 in
    let failed : c.pack.result ≡ Err Failed = cc in
    prefix-packed items _ start _ (c.in-Ok.ensures.ok items at.folds) (c.pack.ensures.failed failed _ start at.sent)

pub returns-clause-ok : goal.returns-clause-ok
returns-clause-ok g c =
    on_ok-both _ _ _ _ _ c.finish-2.result
    (λ gained counted items start at.
    let adds = c.in-Ok.ensures.ok items at.folds in
    let sent = c.in_ok-pack.ensures.ok _ start at.sent in
    Whole-end _ items _ _ start _ _ adds sent gained counted)
    c.finish-2.ensures.gained c.finish-2.ensures.counted

pub returns-clause-failed : goal.returns-clause-failed
returns-clause-failed g c = λ is items start at.
    let adds = c.in-Ok.ensures.ok items at.folds in
    let sent = c.in_ok-pack.ensures.ok _ start at.sent in
    prefix-end _ items _ start _ _ adds sent (of_err c.finish-2.result Failed is c.finish-2.ensures.failed)

pub returns-clause-counted : goal.returns-clause-counted
returns-clause-counted g c =
    on_err-map c.finish-2.result
    (λ same. subst (λ (p : PackerState). p.finished < 4294967295) (sym same) c.pack.ensures.counted)
    c.finish-2.ensures.unchanged
