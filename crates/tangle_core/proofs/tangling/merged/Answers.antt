use Rattle.std.proofs.Common.{◌≡◌, List, ℕ, Option, Result, Ok, Err, subst}
use Rattle.wb_ports.specs.Files.{Files}
use Rattle.wb_ports.proofs.FilesLemmas.{same_files_then}
use Rattle.wb_ports.specs.declared.shelf.FailedCall.{FailedCall}
use Rattle.change_merge.specs.Lines.{Line}
use Rattle.tangle_core.specs.declared.job.TangleErr.{TangleErr}
use Rattle.tangle_core.specs.inner.Going.{Loading}
use Rattle.web_scan.specs.Scan.{scan_of}
use Rattle.tangle_core.specs.Outcome.{outcome, outcome_of}
use Rattle.tangle_core.specs.Work.{Work, by_memory}
use Rattle.tangle_core.specs.declared.job.Job.{Job}
use Rattle.tangle_core.specs.Job.{Going_on, loads_change, leaves_outcome, tangling}
use Rattle.tangle_core.proofs.GoingLemmas.{goes_on, goes_err}
use Rattle.tangle_core.proofs.ReachingLemmas.{reaches_then, load_stopped, files_now}
use Rattle.tangle_core.proofs.TanglingLemmas.{handed, lines_known, lines_refused}
use Rattle.tangle_core.proofs.tangling.merged.Goals as goal

-- what is left to do once the web is loaded, and once the change file is
abbrev after_change : Job → Going_on → List ℕ → List ℕ → Work
after_change job on web change = leaves_outcome job.base on (outcome_of web change job.options)

abbrev after_web : Job → Going_on → List ℕ → Work
after_web job on web = loads_change job.change (after_change job on web)

abbrev after_lines : Job → Going_on → List Line → Work
after_lines job on lines = leaves_outcome job.base on (outcome (scan_of job.options lines))

pub returns-in_err-change-clause-work : goal.returns-in_err-change-clause-work
returns-in_err-change-clause-work g c on console ports =
    let loads = rw c.bytes.ensures at c.in_ok-web.ensures.work in
    let change = c.in_err-change.ensures.work on (after_change c.args.job.now on c.in_ok-web.web) console ports in
    handed (List Line) (tangling c.args.job.now on) on (after_lines c.args.job.now on) _ c.in_err-change.field-0.0
    (g.S.Shelf.last_failure c.load_change.new.shelf) _ _ c.from_residual-in_err-change.ensures.1
    (goes_on (List Line) _ _ on (after_lines c.args.job.now on) (Err c.in_err-change.field-0.0) _ _ _ _
    (loads on (after_web c.args.job.now on) console ports)
    (goes_err (List ℕ) (List Line) _ on (after_change c.args.job.now on c.in_ok-web.web)
    (after_lines c.args.job.now on) c.in_err-change.field-0.0 _ _ _ change))

pub returns-in_err-merged_lines-clause-work : goal.returns-in_err-merged_lines-clause-work
returns-in_err-merged_lines-clause-work g c on console ports =
    let loads = rw c.bytes.ensures at c.in_ok-web.ensures.work in
    handed (List Line) _ on (after_lines c.args.job.now on) _ _ _ _ _ c.from_residual-in_err-merged_lines.ensures.1
    (lines_refused (List Line) _ on (after_lines c.args.job.now on) c.args.job.now.base c.in_ok-web.web
    c.in_ok-change.change c.args.job.now.options c.in_err-merged_lines.field-0.0 _ _ _
    (rw (← c.bytes-2.ensures, ← c.bytes-3.ensures) c.in_err-merged_lines.ensures.fault)
    (load_stopped _ _ by_memory _ _ (files_now _ _ console ports
    (same_files_then _ _ _ c.in_ok-web.ensures.same c.in_ok-change.ensures.same)))
    (reaches_then _ _ _ _ _ _
    (loads on (after_web c.args.job.now on) console ports)
    (c.in_ok-change.ensures.work on (after_change c.args.job.now on c.in_ok-web.web) console ports)))

pub returns-clause-work : goal.returns-clause-work
returns-clause-work g c on console ports =
    let loads = rw c.bytes.ensures at c.in_ok-web.ensures.work in
    lines_known _ on c.args.job.now.base c.in_ok-web.web c.in_ok-change.change c.args.job.now.options _ _ _
    (rw (← c.bytes-2.ensures, ← c.bytes-3.ensures) c.in_ok-merged_lines.ensures.ok)
    (reaches_then _ _ _ _ _ _
    (loads on (after_web c.args.job.now on) console ports)
    (c.in_ok-change.ensures.work on (after_change c.args.job.now on c.in_ok-web.web) console ports))
