use Rattle.std.proofs.Common.{rules, ◌≡◌, ap, ◌∙◌, ℕ, Bool}
use Rattle.std.specs.Prelude.{nat_le}
use Rattle.wb_base.specs.declared.faults.TheConstants.{TOO_LARGE}
use Rattle.pas_tokens.specs.Cutting.{wrong}
use Rattle.pas_typed.specs.Types.{cells_of}
use Rattle.pas_typed.specs.TypeViews.{table_view, type_view}
use Rattle.pas_rules.specs.declared.limits.TheConstants.{CELL_LIMIT}
use Rattle.pas_rules.specs.Marks.{noted, unless}
use Rattle.pas_rules.specs.TypeForms.{within_limit}
use Rattle.pas_scopes.specs.ScopeViews.{made_view}
use Rattle.pas_scopes.specs.Answers.{end_in, noted_end}
use Rattle.pas_scopes.proofs.AnswerLemmas.{ends_moved, noted_ends}
use Rattle.pas_scopes.proofs.TypePartLemmas.{limit_counted}
use Rattle.pas_scopes.proofs.type_forms.within_limit.Goals as goal

pub returns-clause-ends : goal.returns-clause-ends
returns-clause-ends c words part h =
    let value = made_view c.args.scopes.now c.args.made.value in
    let end = end_in c.args.made.end in
    let spellings = c.args.scopes.now.spellings.now in
    let cells : ℕ = cells_of (table_view spellings c.args.scopes.now.types) (type_view c.args.made.value) in
    let limit : CELL_LIMIT ≡ c.from.result = search rules in
    let holds : Bool = nat_le c.cells_of-cells.result c.from.result in
    ends_moved words (noted within_limit part) value (made_view c.args.scopes.now c.noted.result.value)
    (noted_end holds TOO_LARGE end) (end_in c.noted.result.end)
    (ap (made_view c.args.scopes.now) c.noted.ensures.value) c.noted.ensures.end
    (noted_ends words within_limit part value end holds TOO_LARGE
    (ap (λ (is : Bool). unless is (wrong TOO_LARGE))
    (limit_counted cells ∙ ap (λ (n : ℕ). nat_le n CELL_LIMIT) (c.cells_of-cells.ensures spellings)
    ∙ ap (λ (n : ℕ). nat_le c.cells_of-cells.result n) limit)) h)
