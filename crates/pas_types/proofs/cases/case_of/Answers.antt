use Rattle.std.proofs.Common.{◌≡◌, sym, subst, Option}
use Rattle.std.specs.Prelude.{IfOk}
use Rattle.pas_typed.specs.declared.typed.Statement as code_statement
use Rattle.pas_typed.specs.TypedViews.{value_view, statement_view, arms_view}
use Rattle.pas_types.specs.inner.CaseViews.{others_view}
use Rattle.pas_types.proofs.cases.case_of.Goals as goal

pub returns-in-Some : goal.returns-in-Some
returns-in-Some c spellings =
    subst (λ (others : Option code_statement.Statement). IfOk c.case_others.result (λ made.
    statement_view spellings made
    ≡ others_view spellings others (value_view c.args.selector) (arms_view spellings c.args.arms)))
    (sym c.in-Some.is) (c.case_others.ensures spellings)

pub returns-in-None : goal.returns-in-None
returns-in-None c spellings =
    subst (λ (others : Option code_statement.Statement). IfOk c.case.result (λ made.
    statement_view spellings made
    ≡ others_view spellings others (value_view c.args.selector) (arms_view spellings c.args.arms)))
    (sym c.in-None.is) (c.case.ensures spellings)
