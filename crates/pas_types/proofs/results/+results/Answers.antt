use Rattle.std.proofs.Common.{◌≡◌, sym, ap, ◌∙◌, ℕ, List, Bool, ◌||◌}
use Rattle.pas_typed.specs.declared.typed.Statement as code_statement
use Rattle.pas_typed.specs.TypedViews.{statement_view}
use Rattle.pas_typed.proofs.StatementViews.{statement_view-Compound, statement_view-If, statement_view-IfElse}
use Rattle.pas_typed.proofs.StatementViews.{statement_view-Case, statement_view-CaseOthers, statement_view-While}
use Rattle.pas_typed.proofs.StatementViews.{statement_view-Repeat, statement_view-For}
use Rattle.pas_rules.specs.Routines.{gives_result}
use Rattle.pas_scopes.proofs.LabelSeen.{taken_all}
use Rattle.pas_types.proofs.ResultLemmas.{list_gives, arms_give, item_has, item_lacks, arm_has, arm_lacks}
use Rattle.pas_types.proofs.results.+results.Goals as goal

-- what a statement gives that is seen so
abbrev gives : List ℕ → code_statement.Statement → Bool
gives spellings s = gives_result (statement_view spellings s)

pub gives_result-returns-in-Compound : goal.gives_result-returns-in-Compound
gives_result-returns-in-Compound t c spellings =
    c.list_gives_result.ensures spellings
    ∙ (ap (list_gives spellings) c.as_slice.ensures
    ∙ sym (ap (gives spellings) c.in-Compound.is
    ∙ ap gives_result (statement_view-Compound spellings c.in-Compound.list)))

pub gives_result-returns-in-If : goal.gives_result-returns-in-If
gives_result-returns-in-If t c spellings =
    c.gives_result.ensures spellings
    ∙ (ap (gives spellings) c.get.ensures
    ∙ sym (ap (gives spellings) c.in-If.is
    ∙ ap gives_result (statement_view-If spellings c.in-If.field-0 c.in-If.chosen)))

pub gives_result-returns-then-gives_result : goal.gives_result-returns-then-gives_result
gives_result-returns-then-gives_result t c spellings =
    let one : c.gives_result-in-IfElse.result ≡ gives spellings c.in-IfElse.chosen =
    c.gives_result-in-IfElse.ensures spellings ∙ ap (gives spellings) c.get-in-IfElse.ensures in
    let other : Bool = gives spellings c.in-IfElse.other in
    c.if-gives_result.true
    ∙ (ap (λ (b : Bool). b || other) (sym c.if-gives_result.true ∙ one)
    ∙ sym (ap (gives spellings) c.in-IfElse.is
    ∙ ap gives_result (statement_view-IfElse spellings c.in-IfElse.field-0 c.in-IfElse.chosen c.in-IfElse.other)))

pub gives_result-returns-else-gives_result : goal.gives_result-returns-else-gives_result
gives_result-returns-else-gives_result t c spellings =
    let one : c.gives_result-in-IfElse.result ≡ gives spellings c.in-IfElse.chosen =
    c.gives_result-in-IfElse.ensures spellings ∙ ap (gives spellings) c.get-in-IfElse.ensures in
    let other : Bool = gives spellings c.in-IfElse.other in
    c.gives_result-else-gives_result.ensures spellings
    ∙ (ap (gives spellings) c.get-else-gives_result.ensures
    ∙ (ap (λ (b : Bool). b || other) (sym c.if-gives_result.false ∙ one)
    ∙ sym (ap (gives spellings) c.in-IfElse.is
    ∙ ap gives_result (statement_view-IfElse spellings c.in-IfElse.field-0 c.in-IfElse.chosen c.in-IfElse.other))))

pub gives_result-returns-in-Case : goal.gives_result-returns-in-Case
gives_result-returns-in-Case t c spellings =
    c.arms_give_result.ensures spellings
    ∙ (ap (arms_give spellings) c.as_slice-in-Case.ensures
    ∙ sym (ap (gives spellings) c.in-Case.is
    ∙ ap gives_result (statement_view-Case spellings c.in-Case.field-0 c.in-Case.arms)))

pub gives_result-returns-then-arms_give_result : goal.gives_result-returns-then-arms_give_result
gives_result-returns-then-arms_give_result t c spellings =
    let one : c.arms_give_result-in-CaseOthers.result ≡ arms_give spellings c.in-CaseOthers.arms =
    c.arms_give_result-in-CaseOthers.ensures spellings ∙ ap (arms_give spellings) c.as_slice-in-CaseOthers.ensures in
    let other : Bool = gives spellings c.in-CaseOthers.other in
    c.if-arms_give_result.true
    ∙ (ap (λ (b : Bool). b || other) (sym c.if-arms_give_result.true ∙ one)
    ∙ sym (ap (gives spellings) c.in-CaseOthers.is
    ∙ ap gives_result (statement_view-CaseOthers spellings c.in-CaseOthers.field-0 c.in-CaseOthers.arms
    c.in-CaseOthers.other)))

pub gives_result-returns-else-arms_give_result : goal.gives_result-returns-else-arms_give_result
gives_result-returns-else-arms_give_result t c spellings =
    let one : c.arms_give_result-in-CaseOthers.result ≡ arms_give spellings c.in-CaseOthers.arms =
    c.arms_give_result-in-CaseOthers.ensures spellings ∙ ap (arms_give spellings) c.as_slice-in-CaseOthers.ensures in
    let other : Bool = gives spellings c.in-CaseOthers.other in
    c.gives_result-else-arms_give_result.ensures spellings
    ∙ (ap (gives spellings) c.get-else-arms_give_result.ensures
    ∙ (ap (λ (b : Bool). b || other) (sym c.if-arms_give_result.false ∙ one)
    ∙ sym (ap (gives spellings) c.in-CaseOthers.is
    ∙ ap gives_result (statement_view-CaseOthers spellings c.in-CaseOthers.field-0 c.in-CaseOthers.arms
    c.in-CaseOthers.other))))

pub gives_result-returns-in-While : goal.gives_result-returns-in-While
gives_result-returns-in-While t c spellings =
    c.list_gives_result-in-While.ensures spellings
    ∙ (ap (list_gives spellings) c.as_slice-in-While.ensures
    ∙ sym (ap (gives spellings) c.in-While.is
    ∙ ap gives_result (statement_view-While spellings c.in-While.field-0 c.in-While.list)))

pub gives_result-returns-in-Repeat : goal.gives_result-returns-in-Repeat
gives_result-returns-in-Repeat t c spellings =
    c.list_gives_result-in-Repeat.ensures spellings
    ∙ (ap (list_gives spellings) c.as_slice-in-Repeat.ensures
    ∙ sym (ap (gives spellings) c.in-Repeat.is
    ∙ ap gives_result (statement_view-Repeat spellings c.in-Repeat.list c.in-Repeat.field-1)))

pub gives_result-returns-in-For : goal.gives_result-returns-in-For
gives_result-returns-in-For t c spellings =
    c.list_gives_result-in-For.ensures spellings
    ∙ (ap (list_gives spellings) c.as_slice-in-For.ensures
    ∙ sym (ap (gives spellings) c.in-For.is
    ∙ ap gives_result (statement_view-For spellings c.in-For.field-0 c.in-For.list)))

-- lists
pub list_gives_result-loop-labelled-preserved : goal.list_gives_result-loop-labelled-preserved
list_gives_result-loop-labelled-preserved t c = λ spellings.
    item_lacks spellings c.args.list.now c.loop-labelled.labelled-index c.labelled-item.result
    c.loop-labelled-test.true c.labelled-item.is (c.loop-labelled.invariant spellings)
    (sym (c.gives_result.ensures spellings) ∙ c.if-gives_result.false)

pub list_gives_result-returns-then-gives_result : goal.list_gives_result-returns-then-gives_result
list_gives_result-returns-then-gives_result t c = λ spellings.
    sym (item_has spellings c.args.list.now c.loop-labelled.labelled-index c.labelled-item.result
    c.loop-labelled-test.true c.labelled-item.is
    (sym (c.gives_result.ensures spellings) ∙ c.if-gives_result.true))

pub list_gives_result-returns : goal.list_gives_result-returns
list_gives_result-returns t c = λ spellings.
    sym (ap (list_gives spellings) (sym (taken_all c.args.list.now c.loop-labelled.labelled-index
    c.loop-labelled-test.false))
    ∙ c.loop-labelled.invariant spellings)

pub arms_give_result-loop-arm-preserved : goal.arms_give_result-loop-arm-preserved
arms_give_result-loop-arm-preserved t c = λ spellings.
    arm_lacks spellings c.args.arms.now c.loop-arm.arm-index c.arm-item.result c.loop-arm-test.true c.arm-item.is
    (c.loop-arm.invariant spellings) (sym (c.gives_result.ensures spellings) ∙ c.if-gives_result.false)

pub arms_give_result-returns-then-gives_result : goal.arms_give_result-returns-then-gives_result
arms_give_result-returns-then-gives_result t c = λ spellings.
    sym (arm_has spellings c.args.arms.now c.loop-arm.arm-index c.arm-item.result c.loop-arm-test.true c.arm-item.is
    (sym (c.gives_result.ensures spellings) ∙ c.if-gives_result.true))

pub arms_give_result-returns : goal.arms_give_result-returns
arms_give_result-returns t c = λ spellings.
    sym (ap (arms_give spellings) (sym (taken_all c.args.arms.now c.loop-arm.arm-index c.loop-arm-test.false))
    ∙ c.loop-arm.invariant spellings)
