use Rattle.std.proofs.Common.{◌≡◌, ◌∙◌, ℕ, List, Ok}
use Rattle.web_scan.specs.Scanned.{Scanned}
use Rattle.tangle_out.proofs.ClausesLemmas.{on_ok-map}
use Rattle.tangle_core.specs.declared.job.Job.{Job}
use Rattle.tangle_core.specs.declared.job.TangleErr.TheVariants.{OutOfMemory}
use Rattle.tangle_core.specs.Outcome.{outcome}
use Rattle.tangle_core.specs.Work.{Work}
use Rattle.tangle_core.specs.Job.{Going_on, leaves_outcome}
use Rattle.tangle_core.proofs.TanglingLemmas.{tangles_handed, tangles_err, nothing_loaded}
use Rattle.tangle_core.proofs.tangling.tangle.Goals as goal

pub returns-in_err-pascal-clause-work : goal.returns-in_err-pascal-clause-work
returns-in_err-pascal-clause-work g c on console ports =
    tangles_handed c.args.job.now on _ OutOfMemory (g.S.Shelf.last_failure c.args.shelf.now) _ _
    c.from_residual.ensures.1 (nothing_loaded c.args.job.now on (g.S.Shelf.last_failure c.args.shelf.now) _)

pub returns-in_err-pool-clause-work : goal.returns-in_err-pool-clause-work
returns-in_err-pool-clause-work g c on console ports =
    tangles_handed c.args.job.now on _ OutOfMemory (g.S.Shelf.last_failure c.args.shelf.now) _ _
    c.from_residual-in_err-pool.ensures.1
    (nothing_loaded c.args.job.now on (g.S.Shelf.last_failure c.args.shelf.now) _)

-- what is left to do once the web is scanned
abbrev after_scan : Job → Going_on → Scanned → Work
after_scan job on web = leaves_outcome job.base on (outcome (Ok web))

pub returns-in_err-web-clause-work : goal.returns-in_err-web-clause-work
returns-in_err-web-clause-work g c on console ports =
    tangles_handed c.args.job.now on _ c.in_err-web.field-0.0 (g.S.Shelf.last_failure c.scanned.new.shelf) _ _
    c.from_residual-in_err-web.ensures.1
    (tangles_err Scanned c.args.job.now on (after_scan c.args.job.now on) c.in_err-web.field-0.0
    (g.S.Shelf.last_failure c.scanned.new.shelf) _ _ (c.in_err-web.ensures.work on console ports))

pub returns-clause-kept : goal.returns-clause-kept
returns-clause-kept g c =
    on_ok-map c.write_files.result
    (λ kept wanted there. kept c.args.job.now.base (c.bytes.ensures ∙ c.in_ok-pascal.ensures)
    (c.bytes-2.ensures ∙ c.in_ok-pool.ensures) (c.begin.ensures.wanted ∙ wanted) there)
    c.write_files.ensures.kept

pub returns-clause-work : goal.returns-clause-work
returns-clause-work g c on console ports =
    c.write_files.ensures.work c.args.job.now on _ console ports (c.bytes.ensures ∙ c.in_ok-pascal.ensures)
    (c.bytes-2.ensures ∙ c.in_ok-pool.ensures) (c.in_ok-web.ensures.work on console ports)
