use Rattle.std.proofs.Common.{ap, Bool, not}
use Rattle.wb_base.specs.declared.faults.TheConstants.{FILE_RULE}
use Rattle.pas_tokens.specs.Cutting.{wrong}
use Rattle.pas_rules.specs.Marks.{noted, unless}
use Rattle.pas_rules.specs.TypeForms.{no_file}
use Rattle.pas_scopes.specs.ScopeViews.{made_view}
use Rattle.pas_scopes.specs.Answers.{end_in, noted_end}
use Rattle.pas_scopes.proofs.AnswerLemmas.{ends_moved, noted_ends}
use Rattle.pas_scopes.proofs.type_forms.no_file.Goals as goal

pub returns-clause-ends : goal.returns-clause-ends
returns-clause-ends c words part h =
    let value = made_view c.args.scopes.now c.args.made.value in
    let end = end_in c.args.made.end in
    ends_moved words (noted no_file part) value (made_view c.args.scopes.now c.noted.result.value)
    (noted_end (not c.is_file-is_file.result) FILE_RULE end) (end_in c.noted.result.end)
    (ap (made_view c.args.scopes.now) c.noted.ensures.value) c.noted.ensures.end
    (noted_ends words no_file part value end (not c.is_file-is_file.result) FILE_RULE
    (ap (λ (is : Bool). unless (not is) (wrong FILE_RULE))
    (c.is_file-is_file.ensures c.args.scopes.now.spellings.now)) h)
