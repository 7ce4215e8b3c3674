use Rattle.std.proofs.Common.{rules, ◌≡◌, sym, ap, subst, ◌∙◌, ℕ, List, ◌++◌, map, Bool}
use Rattle.std.specs.Prelude.{nat_le, is_none, ◌||◌}
use Rattle.wb_base.specs.declared.faults.TheConstants.{FILE_RULE, TOO_LARGE}
use Rattle.pas_tokens.specs.Cutting.{Wrong, wrong}
use Rattle.pas_syntax.specs.Views.{ident_in, separated_in}
use Rattle.pas_typed.specs.Types.{Table, Made, component_of}
use Rattle.pas_typed.specs.Typed.{Mode, Variable}
use Rattle.pas_typed.specs.TypeViews.{table_view, counted}
use Rattle.pas_typed.specs.TypedViews.{mode_view, variable_view}
use Rattle.pas_rules.specs.declared.limits.TheConstants.{ROUTINE_CELL_LIMIT}
use Rattle.pas_rules.specs.Marks.{Judged, noted, unless}
use Rattle.pas_rules.specs.Scopes.{spellings_of}
use Rattle.pas_rules.specs.Declarations.{is_by_name, cells_together, variables_of}
use Rattle.pas_scopes.specs.ScopeViews.{made_view}
use Rattle.pas_scopes.specs.Answers.{Ending, end_in, noted_end, EndsAs}
use Rattle.pas_scopes.proofs.AnswerLemmas.{ends_moved, noted_ends}
use Rattle.pas_scopes.proofs.GlobalLemmas.{noted_both}
use Rattle.pas_scopes.proofs.LocalLemmas.{routine_limit_counted}
use Rattle.pas_scopes.proofs.locals.local_only.Goals as goal

pub returns-clause-ends : goal.returns-clause-ends
returns-clause-ends c words part inner is cells h =
    let scopes = c.args.scopes.now in
    let spellings = scopes.spellings.now in
    let names : List (List ℕ) = spellings_of (separated_in (ident_in spellings) c.args.names.now) in
    let table : Table = table_view spellings scopes.types in
    let mode : Mode = mode_view c.args.mode in
    let value : Made = made_view scopes c.args.made.value in
    let end : Ending = end_in c.args.made.end in
    let variables : List Variable = map (variable_view spellings) inner.variables in
    let one : Made → List Wrong =
    λ found. unless (is_none (component_of found.table found.type) || is_by_name mode) (wrong FILE_RULE) in
    let two : Made → List Wrong =
    λ found. unless (nat_le (cells_together found.table (variables ++ variables_of mode found.type names))
    ROUTINE_CELL_LIMIT) (wrong TOO_LARGE) in
    let total : ℕ = cells_together table (variables ++ variables_of mode value.type names) in
    let limit : ROUTINE_CELL_LIMIT ≡ c.from.result = search rules in
    let within : counted total ≡ c.cells_with-cells.result = sym (c.cells_with-cells.ensures inner is cells) in
    let holds : Bool = nat_le c.cells_with-cells.result c.from.result in
    let first : EndsAs words (noted one part) value (noted_end c.may_be-may_be.result FILE_RULE end) =
    noted_ends words one part value end c.may_be-may_be.result FILE_RULE
    (ap (λ (is : Bool). unless is (wrong FILE_RULE)) (sym c.may_be-may_be.ensures)) h in
    subst (λ (p : Judged Made). EndsAs words p (made_view scopes c.noted.result.value) (end_in c.noted.result.end))
    (noted_both one two part)
    (ends_moved words (noted two (noted one part)) value (made_view scopes c.noted.result.value)
    (noted_end holds TOO_LARGE (noted_end c.may_be-may_be.result FILE_RULE end)) (end_in c.noted.result.end)
    (ap (made_view scopes) (c.noted.ensures.value ∙ c.noted-made.ensures.value))
    (c.noted.ensures.end ∙ ap (noted_end holds TOO_LARGE) c.noted-made.ensures.end)
    (noted_ends words two (noted one part) value (noted_end c.may_be-may_be.result FILE_RULE end) holds TOO_LARGE
    (ap (λ (is : Bool). unless is (wrong TOO_LARGE))
    (routine_limit_counted total ∙ (ap (λ (n : ℕ). nat_le n ROUTINE_CELL_LIMIT) within
    ∙ ap (λ (n : ℕ). nat_le c.cells_with-cells.result n) limit))) first))
