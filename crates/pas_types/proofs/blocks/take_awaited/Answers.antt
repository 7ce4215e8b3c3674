use Rattle.std.proofs.Common.{sym, ap, ◌∙◌, ◌≤◌, arith, List, Option, length}
use Rattle.std.specs.Prelude.{slice_set}
use Rattle.pas_scopes.specs.declared.scopes.Inner.{Inner as CodeInner}
use Rattle.pas_scopes.specs.declared.scopes.KnownRoutine.{KnownRoutine as CodeRoutine}
use Rattle.pas_types.proofs.EnterLemmas.{set_without, nowhere_waits, without_past}
use Rattle.pas_types.proofs.blocks.take_awaited.Goals as goal

pub returns-then-index-len-clause-rest : goal.returns-then-index-len-clause-rest
returns-then-index-len-clause-rest c =
    let routines : List CodeRoutine = c.args.routines.now.items in
    let found : CodeRoutine = c.index_mut.result.now in
    ap (λ (one : Option CodeInner). slice_set routines c.args.number (record { heading = found.heading; awaited = one }))
    c.take.ensures.after ∙ set_without routines c.args.number found c.index_mut.ensures.value

pub returns-else-index-len-clause-awaited : goal.returns-else-index-len-clause-awaited
returns-else-index-len-clause-awaited c =
    let past : length c.args.routines.now.items ≤ c.args.number =
    omega (arith, c.if-index-len.false, c.len.ensures) in
    sym (nowhere_waits c.args.routines.now.items c.args.number past)

pub returns-else-index-len-clause-rest : goal.returns-else-index-len-clause-rest
returns-else-index-len-clause-rest c =
    let past : length c.args.routines.now.items ≤ c.args.number =
    omega (arith, c.if-index-len.false, c.len.ensures) in
    sym (without_past c.args.routines.now.items c.args.number past)
