use Rattle.std.proofs.Common.{subst, sym, List, ◌+◌}
use Rattle.pas_run.specs.declared.layouts.Layout.{Layout}
use Rattle.pas_run.proofs.LayingLemmas.{BodiesSoFar, bodies_next, bodies_all}
use Rattle.pas_run.proofs.laying.body_layouts.Goals as goal

pub loop-body-preserved : goal.loop-body-preserved
loop-body-preserved c lawful =
    let i = c.loop-body.body-index in
    subst (λ (layouts : List Layout). BodiesSoFar c.args.program.now layouts (i + 1)) (sym c.in_ok-push.ensures.ok)
    (bodies_next c.args.program.now c.loop-body.layouts c.in_ok-layout.layout c.as_slice-body-items.result.now i
    c.body-item.result c.as_slice-body-items.ensures c.loop-body-test.true c.body-item.is
    (c.in_ok-layout.ensures.found lawful) (c.loop-body.invariant lawful))

pub returns-clause-found : goal.returns-clause-found
returns-clause-found c lawful =
    bodies_all c.args.program.now c.loop-body.layouts c.as_slice-body-items.result.now c.loop-body.body-index
    c.as_slice-body-items.ensures c.loop-body-test.false (c.loop-body.invariant lawful)
