use Rattle.std.proofs.Common.{ap, ◌∙◌}
use Rattle.pas_typed.specs.declared.typed.Counted.{Counted}
use Rattle.pas_typed.specs.Typed as typed
use Rattle.pas_typed.specs.TypedViews.{slot_view, value_view, statement_view}
use Rattle.pas_typed.proofs.StatementViews.{statement_view-For}
use Rattle.pas_rules.specs.Statements.{list_of}
use Rattle.pas_types.proofs.made.for_do.Goals as goal

abbrev counting : Counted → typed.Statements → typed.Statement
counting head list =
    typed.for (slot_view head.slot) head.way (value_view head.first) (value_view head.last) list

pub returns : goal.returns
returns c = λ spellings.
    statement_view-For spellings c.in_ok-head.head c.in_ok-body_of.field-0
    ∙ (ap (counting c.in_ok-head.head) (c.in_ok-body_of.ensures spellings)
    ∙ ap (λ (head : Counted). counting head (list_of (statement_view spellings c.args.body))) c.in_ok-head.ensures)
