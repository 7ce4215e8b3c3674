use Rattle.std.proofs.Common.{ap, List, Bool, not, Result}
use Rattle.std.proofs.lemmas.Result.{err_from_is_err_and}
use Rattle.wb_base.specs.declared.faults.TheConstants.{WRONG_TYPE}
use Rattle.pas_tokens.specs.Cutting.{Wrong, wrong}
use Rattle.pas_syntax.specs.Tree.{Variable}
use Rattle.pas_syntax.specs.Views.{variable_in}
use Rattle.pas_syntax.specs.Words.{Word, variable_words}
use Rattle.pas_typed.specs.TypeViews.{table_view}
use Rattle.pas_types.specs.declared.assignments.Target.{Target as CodeTarget}
use Rattle.pas_scopes.specs.declared.stop.Stop.{Stop}
use Rattle.pas_rules.specs.Marks.{Judged, checked, unless}
use Rattle.pas_rules.specs.Statements.{Target, target_of, assigned_only}
use Rattle.pas_scopes.specs.ScopeViews.{scopes_view}
use Rattle.pas_scopes.specs.Answers.{end_in, settled_by}
use Rattle.pas_types.specs.inner.TargetViews.{target_view}
use Rattle.pas_scopes.proofs.AnswerLemmas.{checked_stops_by}
use Rattle.pas_scopes.proofs.SettleLemmas.{settles_checked}
use Rattle.pas_types.proofs.ChainLemmas.{preceded}
use Rattle.pas_types.proofs.TargetLemmas.{stops_before, precedes_stop}
use Rattle.pas_types.proofs.assignments.lawful_target.Goals as goal

pub returns-in_err-target : goal.returns-in_err-target
returns-in_err-target c clear n =
    let spellings = c.args.scopes.now.spellings.now in
    let v : Variable = variable_in spellings c.args.assignment.now.target in
    let words : List Word = variable_words n 0 v in
    let demand : Target → List Wrong = assigned_only (table_view spellings c.args.scopes.now.types) in
    let part : Judged Target = target_of (scopes_view c.args.scopes.now) v in
    let why = c.in_err-target.field-0.0 in
    precedes_stop c.args.assignment.now.becomes words (checked demand part) target_view why c.from_residual.result
    (err_from_is_err_and _ c.from_residual.ensures.1)
    (stops_before c.args.assignment.now.becomes words (checked demand part) why
    (checked_stops_by words demand part why (c.in_err-target.ensures clear n)))

pub returns : goal.returns
returns c clear n =
    let spellings = c.args.scopes.now.spellings.now in
    let v : Variable = variable_in spellings c.args.assignment.now.target in
    let words : List Word = variable_words n 0 v in
    let demand : Target → List Wrong = assigned_only (table_view spellings c.args.scopes.now.types) in
    let part : Judged Target = target_of (scopes_view c.args.scopes.now) v in
    let found = c.in_ok-target.target in
    let settled : Result CodeTarget Stop = settled_by (end_in c.noted.result.end) c.noted.result.value in
    preceded c.args.assignment.now.becomes words (checked demand part) target_view settled c.before-2.result
    c.before-2.ensures
    (settles_checked words demand part target_view found.value (end_in found.end) (not c.is_file-is_file.result)
    WRONG_TYPE settled
    (ap (λ (is : Bool). unless (not is) (wrong WRONG_TYPE)) (c.is_file-is_file.ensures spellings))
    (λ i. settled_by (c.noted.ensures.end i) (c.noted.ensures.value i)) (c.in_ok-target.ensures clear n))
