use Rattle.std.proofs.Common.{rules}
use Rattle.pas_typed.specs.TypedViews.{program_view}
use Rattle.web2c_cli.proofs.PlayLemmas.{was_played_within, keeps_map, counted_by}
use Rattle.web2c_cli.proofs.running.play.Goals as goal

pub returns-clause-work : goal.returns-clause-work
returns-clause-work g c =
    rw c.ending_of.ensures (was_played_within (program_view c.args.program.now) _ c.args.steps c.run.result _ _
    c.run.ensures.reports (keeps_map _ _ _ _ _ c.run.ensures.keeps) (search rules))

pub returns-clause-cause : goal.returns-clause-cause
returns-clause-cause g c =
    rw c.ending_of.ensures (counted_by _ _ _ _ (keeps_map _ _ _ _ _ c.run.ensures.keeps) c.run.ensures.cause)
