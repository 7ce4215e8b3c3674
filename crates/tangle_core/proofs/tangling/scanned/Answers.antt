use Rattle.std.proofs.Common.{Ok}
use Rattle.web_scan.specs.Scanned.{Scanned}
use Rattle.tangle_core.specs.declared.job.Job.{Job}
use Rattle.tangle_core.specs.Outcome.{outcome}
use Rattle.tangle_core.specs.Work.{Work, by_memory}
use Rattle.tangle_core.specs.Job.{Going_on, leaves_outcome}
use Rattle.tangle_core.proofs.ReachingLemmas.{load_stopped, files_now}
use Rattle.tangle_core.proofs.TanglingLemmas.{handed, input_refused, web_known}
use Rattle.tangle_core.proofs.tangling.scanned.Goals as goal

-- what is left to do once the web is scanned
abbrev after_scan : Job → Going_on → Scanned → Work
after_scan job on web = leaves_outcome job.base on (outcome (Ok web))

pub returns-in_err-scan-clause-work : goal.returns-in_err-scan-clause-work
returns-in_err-scan-clause-work g c on console ports =
    handed Scanned _ on (after_scan c.args.job.now on) _ _ _ _ _ c.from_residual-in_err-scan.ensures.1
    (input_refused Scanned _ on (after_scan c.args.job.now on) c.args.job.now.base _ c.in_err-scan.field-0.0 _ _ _
    c.in_err-scan.ensures.fault
    (load_stopped _ _ by_memory _ _ (files_now _ _ console ports c.in_ok-lines.ensures.same))
    (c.in_ok-lines.ensures.work on console ports))

pub returns-clause-work : goal.returns-clause-work
returns-clause-work g c on console ports =
    web_known _ on c.args.job.now.base _ _ _ _ c.in_ok-scan.ensures.ok (c.in_ok-lines.ensures.work on console ports)
