use Rattle.std.proofs.Common.{◌∙◌}
use Rattle.wb_base.specs.declared.faults.TheConstants.{WRONG_TYPE}
use Rattle.pas_typed.specs.TypedViews.{value_view}
use Rattle.pas_scopes.specs.Answers.{end_in, noted_end, settled_by}
use Rattle.pas_scopes.proofs.SettleLemmas.{settles_checked}
use Rattle.pas_types.proofs.ChainLemmas.{settled_value, settled_holds}
use Rattle.pas_types.proofs.statements.fit.Goals as goal

pub returns-clause-settles : goal.returns-clause-settles
returns-clause-settles c words demand part h fine =
    settles_checked words demand part value_view c.args.found.value (end_in c.args.found.end) c.args.holds WRONG_TYPE
    c.settled.result fine
    (c.settled.ensures ∙ (λ i. settled_by (c.noted.ensures.end i) (c.noted.ensures.value i))) h

pub returns-clause-value : goal.returns-clause-value
returns-clause-value c =
    settled_value c.args.found.value (noted_end c.args.holds WRONG_TYPE (end_in c.args.found.end)) c.settled.result
    (c.settled.ensures ∙ (λ i. settled_by (c.noted.ensures.end i) (c.noted.ensures.value i)))

pub returns-clause-holds : goal.returns-clause-holds
returns-clause-holds c =
    settled_holds c.args.found.value (end_in c.args.found.end) c.args.holds WRONG_TYPE c.settled.result
    (c.settled.ensures ∙ (λ i. settled_by (c.noted.ensures.end i) (c.noted.ensures.value i)))
