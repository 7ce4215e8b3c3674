use Rattle.std.proofs.Common.{◌≡◌, sym, ap, ◌∙◌, Bool}
use Rattle.wb_base.specs.declared.faults.TheConstants.{FILE_RULE}
use Rattle.pas_tokens.specs.Cutting.{wrong}
use Rattle.pas_typed.specs.Types.{file, Made, made}
use Rattle.pas_typed.specs.TypeViews.{type_view, table_view}
use Rattle.pas_typed.specs.declared.types.PasType.{PasType as CodePasType}
use Rattle.pas_rules.specs.Marks.{noted, unless}
use Rattle.pas_rules.specs.TypeForms.{component_only}
use Rattle.pas_scopes.specs.ScopeViews.{made_view}
use Rattle.pas_scopes.specs.Answers.{end_in, noted_end}
use Rattle.pas_scopes.specs.TypeAnswers.{file_part}
use Rattle.pas_scopes.proofs.AnswerLemmas.{ends_moved, noted_ends, made_ends}
use Rattle.pas_scopes.proofs.type_forms.file_of.Goals as goal

pub returns-clause-answers : goal.returns-clause-answers
returns-clause-answers c words part h =
    let spellings = c.args.scopes.now.spellings.now in
    let table = table_view spellings c.args.scopes.now.types in
    let value : Made = made_view c.args.scopes.now c.args.component.value in
    let end = end_in c.args.component.end in
    let fit : Bool = c.is_component-is_fit.result in
    let whole : Made = made table (file (type_view c.args.component.value)) in
    let found : Made = record {
      type = type_view c.in_ok-make.field-0;
      table = table_view spellings c.make.new.self;
    } in
    let is : found ≡ whole =
    sym (c.in_ok-make.ensures.made spellings)
    ∙ ap (λ (type : CodePasType). made table (file (type_view type))) c.noted-component.ensures.value in
    ends_moved words (file_part part) whole found (noted_end fit FILE_RULE end) (end_in c.noted-component.result.end)
    is
    c.noted-component.ensures.end
    (made_ends words (λ (found : Made). made found.table (file found.type)) (noted component_only part) value
    (noted_end fit FILE_RULE end)
    (noted_ends words component_only part value end fit FILE_RULE
    (ap (λ (is : Bool). unless is (wrong FILE_RULE)) (c.is_component-is_fit.ensures spellings)) h))

pub returns-clause-made : goal.returns-clause-made
returns-clause-made c =
    let spellings = c.args.scopes.now.spellings.now in
    let table = table_view spellings c.args.scopes.now.types in
    sym (c.in_ok-make.ensures.made spellings)
    ∙ ap (λ (type : CodePasType). made table (file (type_view type))) c.noted-component.ensures.value
