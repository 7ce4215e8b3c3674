use Rattle.std.proofs.Common.{ap, ◌∙◌}
use Rattle.pas_typed.specs.declared.typed.Value as code_value
use Rattle.pas_typed.specs.Typed as typed
use Rattle.pas_typed.specs.TypedViews.{value_view, statement_view}
use Rattle.pas_typed.proofs.StatementViews.{statement_view-While}
use Rattle.pas_rules.specs.Statements.{list_of}
use Rattle.pas_types.proofs.made.while_do.Goals as goal

pub returns : goal.returns
returns c = λ spellings.
    statement_view-While spellings c.in_ok-test.test c.in_ok-body_of.field-0
    ∙ (ap (λ (list : typed.Statements). typed.while (value_view c.in_ok-test.test) list)
    (c.in_ok-body_of.ensures spellings)
    ∙ ap (λ (test : code_value.Value). typed.while (value_view test)
    (list_of (statement_view spellings c.args.body))) c.in_ok-test.ensures)
