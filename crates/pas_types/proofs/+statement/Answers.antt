use Rattle.std.proofs.Common.{◌≡◌, ◌∙◌, sym, ap, subst, ℕ, ◌+◌, List, [], ◌∷◌, ◌++◌, Ok, Err, Some}
use Rattle.std.proofs.Common.{rules, Option, None, Result, map, take, drop, suc}
use Rattle.std.specs.Prelude.{ℤ, OnOk, unwrap_or}
use Rattle.std.proofs.lemmas.Result.{err_from_is_err_and}
use Rattle.pas_tokens.specs.Cutting.{Wrong}
use Rattle.pas_syntax.specs.declared.tree.MoreStatement as code_more
use Rattle.pas_syntax.specs.declared.tree.Plain as code_plain
use Rattle.pas_syntax.specs.declared.tree.Statement as code_tree_statement
use Rattle.pas_syntax.specs.declared.tree.Statements as code_statements
use Rattle.pas_syntax.specs.declared.tree.MoreElement as code_more_element
use Rattle.pas_syntax.specs.declared.tree.Elements as code_elements
use Rattle.pas_syntax.specs.declared.tree.Others as code_others
use Rattle.pas_syntax.specs.declared.tree.Guard.{Guard}
use Rattle.pas_syntax.specs.declared.tree.ForHead.{ForHead as CodeForHead}
use Rattle.pas_syntax.specs.declared.tree.ProcedureCall.{ProcedureCall}
use Rattle.pas_syntax.specs.declared.tree.Others.TheViews.{out-Compound, out-Statements, out-MoreStatement}
use Rattle.pas_syntax.specs.declared.tree.Others.TheViews.{out-Elements, out-MoreElement}
use Rattle.pas_syntax.specs.Tree as tree
use Rattle.pas_syntax.specs.Tree.{Numeral, Expr, Plain, Statement, Statements, Compound, Elements, Others}
use Rattle.pas_syntax.specs.Views.{in_turn, expr_in, ident_in, numeral_in, if_there}
use Rattle.pas_syntax.specs.Words.{plain_words, statement_words, statements_words, expr_words, number_at}
use Rattle.pas_syntax.specs.Words.{elements_words, others_words}
use Rattle.pas_syntax.specs.ProgramViews.{arguments_in, plain_in, statement_in, statements_in, more_statement_in}
use Rattle.pas_syntax.specs.ProgramViews.{Arm, element_in, elements_in, more_element_in, others_in}
use Rattle.pas_syntax.specs.inner.StatementReaders.{ForHead}
use Rattle.pas_syntax.specs.inner.StatementViews.{for_head_in, assignment_in}
use Rattle.pas_syntax.proofs.StatementSeen.{others_seen, unlabelled_seen, goto_seen, assignment_seen}
use Rattle.pas_syntax.proofs.StatementSeen.{plain_compound_seen}
use Rattle.pas_typed.specs.declared.typed.Labelled as code_labelled
use Rattle.pas_typed.specs.declared.typed.Statement as code_statement
use Rattle.pas_typed.specs.declared.typed.Statement.TheViews.{roll-Labelled}
use Rattle.pas_typed.specs.Typed as typed
use Rattle.pas_typed.specs.Typed.{Slot, Value, Arms}
use Rattle.pas_typed.specs.declared.typed.Arm as code_arm
use Rattle.pas_typed.specs.Types.{Base}
use Rattle.pas_typed.specs.TypeViews.{base_view}
use Rattle.pas_typed.specs.TypedViews.{arm_view, arms_view}
use Rattle.pas_typed.specs.TypedViews.{statement_view, statements_view, value_view, slot_view, labelled_view}
use Rattle.pas_typed.proofs.StatementViews.{statement_view-Compound, labelled_view-roll, arm_view-roll}
use Rattle.pas_types.specs.declared.flow.Flow.{Flow}
use Rattle.pas_scopes.specs.declared.scopes.Scopes.{Scopes as CodeScopes}
use Rattle.pas_scopes.specs.declared.stop.Stop.{Stop}
use Rattle.pas_rules.specs.Marks.{Judged, checked}
use Rattle.pas_rules.specs.Scopes.{Scopes}
use Rattle.pas_rules.specs.Labels.{Spot, in_list, elsewhere, label_faults, goto_of, labels_in, labels_at}
use Rattle.pas_rules.specs.Labels.{labels_in_list, labels_in_elements, labels_in_others, labels_of_list}
use Rattle.pas_rules.specs.Expressions.{ordinal_only, value_of}
use Rattle.pas_rules.specs.Statements.{plain_of, statement_of, statements_of, label_of, test_of, fits_slot}
use Rattle.pas_rules.specs.Statements.{constants_of, values_known, arms_of, others_of}
use Rattle.pas_scopes.specs.ScopeViews.{scopes_view}
use Rattle.pas_scopes.specs.Ends.{lowest_of}
use Rattle.pas_scopes.specs.Stopping.{found_before}
use Rattle.pas_scopes.specs.Answers.{stands_at, Means, ShowsBy, Settles}
use Rattle.pas_types.specs.inner.LabelViews.{Known, spot_in, standing_faults}
use Rattle.pas_types.specs.inner.CaseViews.{arm_part, arm_words, others_view, behind_elements}
use Rattle.pas_types.specs.inner.FlowViews.{IsFlow, IsPlain, listed_statement, ShowsBefore}
use Rattle.pas_scopes.proofs.AnswerLemmas.{before_found}
use Rattle.pas_types.proofs.LabelRules.{standing_known}
use Rattle.pas_scopes.proofs.LabelSeen.{list_seen, taken_all}
use Rattle.pas_types.proofs.ChainLemmas.{made_of}
use Rattle.pas_types.proofs.PlainSeen.{called_seen, if_seen, if_else_seen, case_seen, while_seen, repeat_seen}
use Rattle.pas_types.proofs.PlainSeen.{for_seen}
use Rattle.pas_types.proofs.PlainSeen.{labelled_statement_seen, body_seen}
use Rattle.pas_types.proofs.StatementLists.{IsSoFar, first_so_far, next_so_far, so_far, one_more_taken, all_taken}
use Rattle.pas_types.proofs.StatementLists.{list_stops}
use Rattle.pas_types.proofs.StatementParts.{label_stops, label_settles, goto_settles, choice_stops}
use Rattle.pas_types.proofs.StatementParts.{choice_one_stops, choice_other_stops, choice_means}
use Rattle.pas_scopes.proofs.SettleLemmas.{settles_stop, found_means, found_stops}
use Rattle.pas_types.proofs.FlowLemmas.{enters, leaves, stands, regroup}
use Rattle.pas_types.proofs.StatementParts.{compound_stops, compound_means, if_stops, if_part_stops, if_means}
use Rattle.pas_types.proofs.StatementParts.{while_stops, while_part_stops, while_means, repeat_stops}
use Rattle.pas_types.proofs.StatementParts.{repeat_test_stops, repeat_means, for_slot_stops, for_first_stops}
use Rattle.pas_types.proofs.StatementParts.{for_last_stops, for_body_stops, for_means}
use Rattle.pas_types.proofs.TargetLemmas.{precedes_stop}
use Rattle.pas_types.proofs.CaseLemmas.{known_anyhow}
use Rattle.pas_types.proofs.CaseParts.{choices_fail, chosen_stops, arm_means, arm_seen_in, element_is, others_stop}
use Rattle.pas_types.proofs.CaseParts.{others_mean, AreArmsSoFar, arms_so_far, first_arm, first_arm_so_far, arm_at}
use Rattle.pas_types.proofs.CaseParts.{next_arm_so_far, one_arm_taken, all_arms_taken, arms_seen, arms_stop}
use Rattle.pas_types.proofs.CaseParts.{selector_stops, case_arms_stop, case_others_stop, case_means}
use Rattle.pas_types.proofs.+statement.Goals as goal

-- `compound`
pub statements::compound_of-returns-in_err-list-clause-means :
    goal.statements::compound_of-returns-in_err-list-clause-means
statements::compound_of-returns-in_err-list-clause-means t c begin around before flow clear n =
    let spellings = c.args.scopes.now.spellings.now in
    let s : Scopes = scopes_view c.args.scopes.now in
    let list : Statements = statements_in spellings c.args.list.now in
    let end = c.args.end in
    let why = c.in_err-list.field-0.0 in
    settles_stop (plain_words n (tree.compound begin list end))
    (plain_of s around before (tree.compound begin list end)) (statement_view spellings) why c.from_residual.result
    (err_from_is_err_and _ c.from_residual.ensures.1)
    (compound_stops s around before n begin list end why
    (found_stops (statements_words (n + 1) list) (statements_of s (labels_of_list list ++ around) before list)
    (statements_view spellings) end why c.statements_of.result c.in_err-list.ensures
    (c.statements_of.ensures.means around before flow clear (n + 1))))

pub statements::compound_of-returns-clause-means : goal.statements::compound_of-returns-clause-means
statements::compound_of-returns-clause-means t c begin around before flow clear n =
    let spellings = c.args.scopes.now.spellings.now in
    let s : Scopes = scopes_view c.args.scopes.now in
    let list : Statements = statements_in spellings c.args.list.now in
    let end = c.args.end in
    let found = c.in_ok-list.list in
    subst (λ (made : typed.Statement). Means (plain_words n (tree.compound begin list end))
    (plain_of s around before (tree.compound begin list end)) made)
    (sym (statement_view-Compound spellings found))
    (compound_means s around before n begin list end (statements_view spellings found)
    (found_means (statements_words (n + 1) list) (statements_of s (labels_of_list list ++ around) before list)
    (statements_view spellings) end found c.statements_of.result c.in_ok-list.ensures
    (c.statements_of.ensures.means around before flow clear (n + 1))))

-- `if`
pub statements::if_of-returns-in_err-test-clause-means : goal.statements::if_of-returns-in_err-test-clause-means
statements::if_of-returns-in_err-test-clause-means t c around before flow clear n =
    let spellings = c.args.scopes.now.spellings.now in
    let s : Scopes = scopes_view c.args.scopes.now in
    let e : Expr = expr_in spellings c.args.guard.now.value in
    let part : Statement = statement_in spellings c.args.chosen.now in
    let line = c.args.guard.now.line in
    let behind = c.args.guard.now.behind in
    let why = c.in_err-test.field-0.0 in
    settles_stop (plain_words n (tree.if_then line e behind part))
    (plain_of s around before (tree.if_then line e behind part)) (statement_view spellings) why c.from_residual.result
    (err_from_is_err_and _ c.from_residual.ensures.1)
    (if_stops s around before n line e behind part why (c.in_err-test.ensures clear (n + 1)))

pub statements::if_of-returns-in_err-chosen-clause-means : goal.statements::if_of-returns-in_err-chosen-clause-means
statements::if_of-returns-in_err-chosen-clause-means t c around before flow clear n =
    let spellings = c.args.scopes.now.spellings.now in
    let s : Scopes = scopes_view c.args.scopes.now in
    let e : Expr = expr_in spellings c.args.guard.now.value in
    let part : Statement = statement_in spellings c.args.chosen.now in
    let line = c.args.guard.now.line in
    let behind = c.args.guard.now.behind in
    let why = c.in_err-chosen.field-0.0 in
    settles_stop (plain_words n (tree.if_then line e behind part))
    (plain_of s around before (tree.if_then line e behind part)) (statement_view spellings) why
    c.from_residual-in_err-chosen.result (err_from_is_err_and _ c.from_residual-in_err-chosen.ensures.1)
    (if_part_stops s around before n line e behind part (value_view c.in_ok-test.test) why
    (c.in_ok-test.ensures clear (n + 1)) (c.in_err-chosen.ensures.means around before flow clear (n + 1)))

pub statements::if_of-returns-clause-means : goal.statements::if_of-returns-clause-means
statements::if_of-returns-clause-means t c around before flow clear n =
    let spellings = c.args.scopes.now.spellings.now in
    let s : Scopes = scopes_view c.args.scopes.now in
    let e : Expr = expr_in spellings c.args.guard.now.value in
    let part : Statement = statement_in spellings c.args.chosen.now in
    let line = c.args.guard.now.line in
    let behind = c.args.guard.now.behind in
    subst (λ (made : typed.Statement). Means (plain_words n (tree.if_then line e behind part))
    (plain_of s around before (tree.if_then line e behind part)) made) (sym (c.in_ok-if_then.ensures spellings))
    (if_means s around before n line e behind part (value_view c.in_ok-test.test)
    (statement_view spellings c.in_ok-chosen.chosen) (c.in_ok-test.ensures clear (n + 1))
    (c.in_ok-chosen.ensures.means around before flow clear (n + 1)))

-- `while`
pub statements::while_of-returns-in_err-test-clause-means : goal.statements::while_of-returns-in_err-test-clause-means
statements::while_of-returns-in_err-test-clause-means t c around before flow clear n =
    let spellings = c.args.scopes.now.spellings.now in
    let s : Scopes = scopes_view c.args.scopes.now in
    let e : Expr = expr_in spellings c.args.guard.now.value in
    let part : Statement = statement_in spellings c.args.body.now in
    let line = c.args.guard.now.line in
    let behind = c.args.guard.now.behind in
    let why = c.in_err-test.field-0.0 in
    settles_stop (plain_words n (tree.while line e behind part))
    (plain_of s around before (tree.while line e behind part)) (statement_view spellings) why c.from_residual.result
    (err_from_is_err_and _ c.from_residual.ensures.1)
    (while_stops s around before n line e behind part why (c.in_err-test.ensures clear (n + 1)))

pub statements::while_of-returns-in_err-body-clause-means : goal.statements::while_of-returns-in_err-body-clause-means
statements::while_of-returns-in_err-body-clause-means t c around before flow clear n =
    let spellings = c.args.scopes.now.spellings.now in
    let s : Scopes = scopes_view c.args.scopes.now in
    let e : Expr = expr_in spellings c.args.guard.now.value in
    let part : Statement = statement_in spellings c.args.body.now in
    let line = c.args.guard.now.line in
    let behind = c.args.guard.now.behind in
    let why = c.in_err-body.field-0.0 in
    settles_stop (plain_words n (tree.while line e behind part))
    (plain_of s around before (tree.while line e behind part)) (statement_view spellings) why
    c.from_residual-in_err-body.result (err_from_is_err_and _ c.from_residual-in_err-body.ensures.1)
    (while_part_stops s around before n line e behind part (value_view c.in_ok-test.test) why
    (c.in_ok-test.ensures clear (n + 1)) (c.in_err-body.ensures.means around before flow clear (n + 1)))

pub statements::while_of-returns-clause-means : goal.statements::while_of-returns-clause-means
statements::while_of-returns-clause-means t c around before flow clear n =
    let spellings = c.args.scopes.now.spellings.now in
    let s : Scopes = scopes_view c.args.scopes.now in
    let e : Expr = expr_in spellings c.args.guard.now.value in
    let part : Statement = statement_in spellings c.args.body.now in
    let line = c.args.guard.now.line in
    let behind = c.args.guard.now.behind in
    subst (λ (made : typed.Statement). Means (plain_words n (tree.while line e behind part))
    (plain_of s around before (tree.while line e behind part)) made) (sym (c.in_ok-while_do.ensures spellings))
    (while_means s around before n line e behind part (value_view c.in_ok-test.test)
    (statement_view spellings c.in_ok-body.body) (c.in_ok-test.ensures clear (n + 1))
    (c.in_ok-body.ensures.means around before flow clear (n + 1)))

-- `repeat`
pub statements::repeat_of-returns-in_err-list-clause-means : goal.statements::repeat_of-returns-in_err-list-clause-means
statements::repeat_of-returns-in_err-list-clause-means t c line around before flow clear n =
    let spellings = c.args.scopes.now.spellings.now in
    let s : Scopes = scopes_view c.args.scopes.now in
    let list : Statements = statements_in spellings c.args.list.now in
    let until = c.args.until.now.line in
    let e : Expr = expr_in spellings c.args.until.now.item in
    let why = c.in_err-list.field-0.0 in
    settles_stop (plain_words n (tree.repeat line list until e))
    (plain_of s around before (tree.repeat line list until e)) (statement_view spellings) why c.from_residual.result
    (err_from_is_err_and _ c.from_residual.ensures.1)
    (repeat_stops s around before n line list until e why
    (found_stops (statements_words (n + 1) list) (statements_of s (labels_of_list list ++ around) before list)
    (statements_view spellings) until why c.statements_of.result c.in_err-list.ensures
    (c.statements_of.ensures.means around before flow clear (n + 1))))

pub statements::repeat_of-returns-in_err-test-clause-means : goal.statements::repeat_of-returns-in_err-test-clause-means
statements::repeat_of-returns-in_err-test-clause-means t c line around before flow clear n =
    let spellings = c.args.scopes.now.spellings.now in
    let s : Scopes = scopes_view c.args.scopes.now in
    let list : Statements = statements_in spellings c.args.list.now in
    let until = c.args.until.now.line in
    let e : Expr = expr_in spellings c.args.until.now.item in
    let found = c.in_ok-list.list in
    let why = c.in_err-test.field-0.0 in
    settles_stop (plain_words n (tree.repeat line list until e))
    (plain_of s around before (tree.repeat line list until e)) (statement_view spellings) why
    c.from_residual-in_err-test.result (err_from_is_err_and _ c.from_residual-in_err-test.ensures.1)
    (repeat_test_stops s around before n line list until e (statements_view spellings found) why
    (found_means (statements_words (n + 1) list) (statements_of s (labels_of_list list ++ around) before list)
    (statements_view spellings) until found c.statements_of.result c.in_ok-list.ensures
    (c.statements_of.ensures.means around before flow clear (n + 1)))
    (c.in_err-test.ensures clear (n + 1)))

pub statements::repeat_of-returns-clause-means : goal.statements::repeat_of-returns-clause-means
statements::repeat_of-returns-clause-means t c line around before flow clear n =
    let spellings = c.args.scopes.now.spellings.now in
    let s : Scopes = scopes_view c.args.scopes.now in
    let list : Statements = statements_in spellings c.args.list.now in
    let until = c.args.until.now.line in
    let e : Expr = expr_in spellings c.args.until.now.item in
    let found = c.in_ok-list.list in
    subst (λ (made : typed.Statement). Means (plain_words n (tree.repeat line list until e))
    (plain_of s around before (tree.repeat line list until e)) made) (sym (c.in_ok-repeat.ensures spellings))
    (repeat_means s around before n line list until e (statements_view spellings found)
    (value_view c.in_ok-test.test)
    (found_means (statements_words (n + 1) list) (statements_of s (labels_of_list list ++ around) before list)
    (statements_view spellings) until found c.statements_of.result c.in_ok-list.ensures
    (c.statements_of.ensures.means around before flow clear (n + 1)))
    (c.in_ok-test.ensures clear (n + 1)))

-- lists
pub statements::statements_of-returns-in_err-found-clause-means :
    goal.statements::statements_of-returns-in_err-found-clause-means
statements::statements_of-returns-in_err-found-clause-means t c around before flow clear n =
    let spellings = c.args.scopes.now.spellings.now in
    let s : Scopes = scopes_view c.args.scopes.now in
    let list : Statements = statements_in spellings c.args.list.now in
    let labels : List ℕ = labels_of_list list in
    let why = c.in_err-found.field-0.0 in
    settles_stop (statements_words n list) (statements_of s (labels ++ around) before list)
    (statements_view spellings) why c.from_residual-in_err-found.result
    (err_from_is_err_and _ c.from_residual-in_err-found.ensures.1)
    (c.in_err-found.ensures.means (labels ++ around) before
    (enters s around before c.args.flow.now labels c.enter.new.self (c.in_ok-enter.ensures spellings) flow) clear n)

pub statements::statements_of-returns-clause-means : goal.statements::statements_of-returns-clause-means
statements::statements_of-returns-clause-means t c around before flow clear n =
    let spellings = c.args.scopes.now.spellings.now in
    let s : Scopes = scopes_view c.args.scopes.now in
    let labels : List ℕ = labels_of_list (statements_in spellings c.args.list.now) in
    c.in_ok-found.ensures.means (labels ++ around) before
    (enters s around before c.args.flow.now labels c.enter.new.self (c.in_ok-enter.ensures spellings) flow) clear n

pub statements::statements_of-returns-clause-goes : goal.statements::statements_of-returns-clause-goes
statements::statements_of-returns-clause-goes t c around before flow =
    let spellings = c.args.scopes.now.spellings.now in
    let s : Scopes = scopes_view c.args.scopes.now in
    let list : Statements = statements_in spellings c.args.list.now in
    let labels : List ℕ = labels_of_list list in
    leaves s around (before ++ labels_in_list list) c.in_turn.new.flow labels c.leave.new.self
    (c.leave.ensures spellings)
    (c.in_ok-found.ensures.goes (labels ++ around) before
    (enters s around before c.args.flow.now labels c.enter.new.self (c.in_ok-enter.ensures spellings) flow))

-- a statement of a list
pub statements::labelled-returns-in_err-statement_of-clause-means :
    goal.statements::labelled-returns-in_err-statement_of-clause-means
statements::labelled-returns-in_err-statement_of-clause-means t c around before flow clear n =
    let spellings = c.args.scopes.now.spellings.now in
    let s : Scopes = scopes_view c.args.scopes.now in
    let part : Statement = statement_in spellings c.args.statement.now in
    let why = c.in_err-statement_of.field-0.0 in
    settles_stop (statement_words n part) (listed_statement s around before part) (labelled_view spellings) why
    c.from_residual.result (err_from_is_err_and _ c.from_residual.ensures.1)
    (c.in_err-statement_of.ensures.means around before flow clear n)

pub statements::labelled-returns-clause-means : goal.statements::labelled-returns-clause-means
statements::labelled-returns-clause-means t c around before flow clear n =
    let spellings = c.args.scopes.now.spellings.now in
    let s : Scopes = scopes_view c.args.scopes.now in
    let part : Statement = statement_in spellings c.args.statement.now in
    let found : typed.Statement = statement_view spellings c.in_ok-statement_of.field-0 in
    let means = c.in_ok-statement_of.ensures.means around before flow clear n in
    let sees : labelled_view spellings (roll-Labelled (record {
      label = c.label_of.result;
      statement = c.in_ok-statement_of.field-0;
    })) ≡ (λ others. typed.item (label_of part) found others) =
    labelled_view-roll spellings (record { label = c.label_of.result; statement = c.in_ok-statement_of.field-0 })
    ∙ (λ i others. typed.item (c.label_of.ensures spellings i) found others) in
    record {
      known = made_of (λ statement list. typed.item (label_of part) statement list)
          (statement_of s in_list around before part).value found means.known
          ∙ ap Some (sym sees);
      quiet = means.quiet;
    }

-- a list
abbrev first_of : List ℕ → code_statements.Statements → Statement
first_of spellings list = statement_in spellings (out-Statements list).first

pub statements::in_turn-loop-next-init : goal.statements::in_turn-loop-next-init
statements::in_turn-loop-next-init t c =
    let spellings = c.args.scopes.now.spellings.now in
    subst (λ (statements : List code_labelled.Labelled). IsSoFar c.args.scopes.now c.args.flow.now
    c.labelled-found.new.flow (tree.first_statement (first_of spellings c.args.list.now)) statements
    c.labelled-found.result) (sym c.new-statements.ensures)
    (first_so_far c.args.scopes.now c.args.flow.now c.labelled-found.new.flow (first_of spellings c.args.list.now)
    c.labelled-found.result c.labelled-found.ensures.means c.labelled-found.ensures.goes)

pub statements::in_turn-loop-next-preserved : goal.statements::in_turn-loop-next-preserved
statements::in_turn-loop-next-preserved t c =
    let spellings = c.args.scopes.now.spellings.now in
    let scopes = c.args.scopes.now in
    let old = c.args.flow.now in
    let here = c.loop-next.flow in
    let new = c.labelled-found-in-loop-next.new.flow in
    let first : Statement = first_of spellings c.args.list.now in
    let items : List code_more.MoreStatement = c.as_slice-next-items.result.now in
    let index = c.loop-next.next-index in
    let next : code_more.MoreStatement = c.next-item.result in
    let line = (out-MoreStatement next).line in
    let last = c.in_ok-before.field-0 in
    let found : Result code_labelled.Labelled Stop = c.labelled-found-in-loop-next.result in
    let list : Statements = so_far spellings first (take index items) in
    let was : IsSoFar scopes old here list c.loop-next.statements (Ok last) =
    subst (λ (r : Result code_labelled.Labelled Stop). IsSoFar scopes old here list c.loop-next.statements r)
    (sym (before_found line last c.loop-next.found c.in_ok-before.ensures)) c.loop-next.invariant in
    subst (λ (statements : List code_labelled.Labelled). IsSoFar scopes old new
    (so_far spellings first (take (index + 1) items)) statements found) (sym c.in_ok-push.ensures.ok)
    (subst (λ (whole : Statements). IsSoFar scopes old new whole (c.loop-next.statements ++ last ∷ []) found)
    (sym (one_more_taken spellings first items index next c.loop-next-test.true c.next-item.is))
    (next_so_far scopes old here new list line (statement_in spellings (out-MoreStatement next).statement)
    c.loop-next.statements last found was c.labelled-found-in-loop-next.ensures.means
    c.labelled-found-in-loop-next.ensures.goes))

pub statements::in_turn-returns-in_err-before-clause-means : goal.statements::in_turn-returns-in_err-before-clause-means
statements::in_turn-returns-in_err-before-clause-means t c around before flow clear n =
    let spellings = c.args.scopes.now.spellings.now in
    let s : Scopes = scopes_view c.args.scopes.now in
    let first : Statement = first_of spellings c.args.list.now in
    let items : List code_more.MoreStatement = c.as_slice-next-items.result.now in
    let index = c.loop-next.next-index in
    let next : code_more.MoreStatement = c.next-item.result in
    let line = (out-MoreStatement next).line in
    let list : Statements = so_far spellings first (take index items) in
    let whole : Statements = statements_in spellings c.args.list.now in
    let why = c.in_err-before.field-0.0 in
    let is : whole ≡ in_turn list (map (more_statement_in spellings) (next ∷ drop (suc index) items)) =
    list_seen spellings c.args.list.now
    ∙ (ap (so_far spellings first) (sym c.as_slice-next-items.ensures)
    ∙ all_taken spellings first items index next c.loop-next-test.true c.next-item.is) in
    settles_stop (statements_words n whole) (statements_of s around before whole) (statements_view spellings) why
    c.from_residual.result (err_from_is_err_and _ c.from_residual.ensures.1)
    (subst (λ (l : Statements). ShowsBy (statements_words n l) (statements_of s around before l).marks why) (sym is)
    (list_stops s spellings around before n list next (drop (suc index) items) why
    (found_stops (statements_words n list) (statements_of s around before list)
    (λ last. statements_view spellings (c.loop-next.statements ++ last ∷ [])) line why c.loop-next.found
    c.in_err-before.ensures (c.loop-next.invariant.means around before flow clear n))))

pub statements::in_turn-returns-in_err-found-clause-means : goal.statements::in_turn-returns-in_err-found-clause-means
statements::in_turn-returns-in_err-found-clause-means t c around before flow clear n =
    let spellings = c.args.scopes.now.spellings.now in
    let s : Scopes = scopes_view c.args.scopes.now in
    let first : Statement = first_of spellings c.args.list.now in
    let items : List code_more.MoreStatement = c.as_slice-next-items.result.now in
    let list : Statements = so_far spellings first (take c.loop-next.next-index items) in
    let whole : Statements = statements_in spellings c.args.list.now in
    let why = c.in_err-found.field-0.0 in
    let is : whole ≡ list =
    list_seen spellings c.args.list.now
    ∙ ap (so_far spellings first) (sym c.as_slice-next-items.ensures
    ∙ sym (taken_all items c.loop-next.next-index c.loop-next-test.false)) in
    settles_stop (statements_words n whole) (statements_of s around before whole) (statements_view spellings) why
    c.from_residual-in_err-found.result (err_from_is_err_and _ c.from_residual-in_err-found.ensures.1)
    (subst (λ (l : Statements). ShowsBy (statements_words n l) (statements_of s around before l).marks why) (sym is)
    (subst (Settles (statements_words n list) (statements_of s around before list)
    (λ last. statements_view spellings (c.loop-next.statements ++ last ∷ []))) c.in_err-found.was
    (c.loop-next.invariant.means around before flow clear n)))

pub statements::in_turn-returns-clause-means : goal.statements::in_turn-returns-clause-means
statements::in_turn-returns-clause-means t c around before flow clear n =
    let spellings = c.args.scopes.now.spellings.now in
    let s : Scopes = scopes_view c.args.scopes.now in
    let first : Statement = first_of spellings c.args.list.now in
    let items : List code_more.MoreStatement = c.as_slice-next-items.result.now in
    let list : Statements = so_far spellings first (take c.loop-next.next-index items) in
    let whole : Statements = statements_in spellings c.args.list.now in
    let is : whole ≡ list =
    list_seen spellings c.args.list.now
    ∙ ap (so_far spellings first) (sym c.as_slice-next-items.ensures
    ∙ sym (taken_all items c.loop-next.next-index c.loop-next-test.false)) in
    subst (λ (statements : List code_labelled.Labelled). Means (statements_words n whole)
    (statements_of s around before whole) (statements_view spellings statements)) (sym c.in_ok-push-2.ensures.ok)
    (subst (λ (l : Statements). Means (statements_words n l) (statements_of s around before l)
    (statements_view spellings (c.loop-next.statements ++ c.in_ok-found.field-0 ∷ []))) (sym is)
    (subst (Settles (statements_words n list) (statements_of s around before list)
    (λ last. statements_view spellings (c.loop-next.statements ++ last ∷ []))) c.in_ok-found.was
    (c.loop-next.invariant.means around before flow clear n)))

pub statements::in_turn-returns-clause-goes : goal.statements::in_turn-returns-clause-goes
statements::in_turn-returns-clause-goes t c around before flow =
    let spellings = c.args.scopes.now.spellings.now in
    let s : Scopes = scopes_view c.args.scopes.now in
    let first : Statement = first_of spellings c.args.list.now in
    let items : List code_more.MoreStatement = c.as_slice-next-items.result.now in
    let list : Statements = so_far spellings first (take c.loop-next.next-index items) in
    let whole : Statements = statements_in spellings c.args.list.now in
    let is : whole ≡ list =
    list_seen spellings c.args.list.now
    ∙ ap (so_far spellings first) (sym c.as_slice-next-items.ensures
    ∙ sym (taken_all items c.loop-next.next-index c.loop-next-test.false)) in
    subst (λ (l : Statements). IsFlow s around (before ++ labels_in_list l) c.loop-next.flow) (sym is)
    (subst (λ (r : Result code_labelled.Labelled Stop). OnOk r (IsFlow s around (before ++ labels_in_list list)
    c.loop-next.flow)) c.in_ok-found.was (c.loop-next.invariant.goes around before flow))

-- a statement, and one behind a label
pub statements::statement_of-returns-in-Unlabelled-clause-means :
    goal.statements::statement_of-returns-in-Unlabelled-clause-means
statements::statement_of-returns-in-Unlabelled-clause-means t c around before flow clear n =
    let spellings = c.args.scopes.now.spellings.now in
    let s : Scopes = scopes_view c.args.scopes.now in
    subst (λ (part : Statement). Settles (statement_words n part)
    (statement_of s (spot_in c.args.spot) around before part) (statement_view spellings) c.plain_of.result)
    (sym (ap (statement_in spellings) c.in-Unlabelled.is ∙ unlabelled_seen spellings c.in-Unlabelled.plain))
    (c.plain_of.ensures.means around before flow clear n)

pub statements::statement_of-returns-in_err-stand-in-Labelled-clause-means :
    goal.statements::statement_of-returns-in_err-stand-in-Labelled-clause-means
statements::statement_of-returns-in_err-stand-in-Labelled-clause-means t c around before flow clear n =
    let spellings = c.args.scopes.now.spellings.now in
    let s : Scopes = scopes_view c.args.scopes.now in
    let spot : Spot = spot_in c.args.spot in
    let numeral : Numeral = numeral_in c.in-Labelled.label.numeral in
    let colon = c.in-Labelled.label.colon in
    let plain : Plain = plain_in spellings c.in-Labelled.plain in
    let whole : Statement = statement_in spellings c.args.statement.now in
    let why = c.in_err-stand-in-Labelled.field-0.0 in
    let is : whole ≡ tree.labelled numeral colon plain =
    ap (statement_in spellings) c.in-Labelled.is
    ∙ labelled_statement_seen spellings c.in-Labelled.label c.in-Labelled.plain in
    let faults : standing_faults c.args.flow.now.block spot numeral.value ≡ label_faults s spot before numeral.value =
    ap (λ (block : Known). standing_faults block spot numeral.value) flow.block
    ∙ standing_known s before around spot numeral.value in
    settles_stop (statement_words n whole) (statement_of s spot around before whole) (statement_view spellings) why
    c.from_residual.result (err_from_is_err_and _ c.from_residual.ensures.1)
    (subst (λ (part : Statement). ShowsBy (statement_words n part) (statement_of s spot around before part).marks why)
    (sym is)
    (label_stops s spot around before n numeral colon plain why
    (c.in_err-stand-in-Labelled.ensures.answer
    ∙ ap (λ (found : List Wrong). stands_at numeral.line (lowest_of found)) faults)))

pub statements::statement_of-returns-in_ok-stand-in-Labelled-clause-means :
    goal.statements::statement_of-returns-in_ok-stand-in-Labelled-clause-means
statements::statement_of-returns-in_ok-stand-in-Labelled-clause-means t c around before flow clear n =
    let spellings = c.args.scopes.now.spellings.now in
    let s : Scopes = scopes_view c.args.scopes.now in
    let spot : Spot = spot_in c.args.spot in
    let numeral : Numeral = numeral_in c.in-Labelled.label.numeral in
    let colon = c.in-Labelled.label.colon in
    let plain : Plain = plain_in spellings c.in-Labelled.plain in
    let whole : Statement = statement_in spellings c.args.statement.now in
    let is : whole ≡ tree.labelled numeral colon plain =
    ap (statement_in spellings) c.in-Labelled.is
    ∙ labelled_statement_seen spellings c.in-Labelled.label c.in-Labelled.plain in
    let faults : standing_faults c.args.flow.now.block spot numeral.value ≡ label_faults s spot before numeral.value =
    ap (λ (block : Known). standing_faults block spot numeral.value) flow.block
    ∙ standing_known s before around spot numeral.value in
    subst (λ (part : Statement). Settles (statement_words n part) (statement_of s spot around before part)
    (statement_view spellings) c.plain_of-in-Labelled.result) (sym is)
    (label_settles s spot around before n numeral colon plain (statement_view spellings) c.plain_of-in-Labelled.result
    (c.in_ok-stand-in-Labelled.ensures.answer
    ∙ ap (λ (found : List Wrong). stands_at numeral.line (lowest_of found)) faults)
    (subst (λ (inner : code_plain.Plain). Settles (plain_words n (plain_in spellings inner))
    (plain_of s around (before ++ numeral.value ∷ []) (plain_in spellings inner)) (statement_view spellings)
    c.plain_of-in-Labelled.result) c.get.ensures
    (c.plain_of-in-Labelled.ensures.means around (before ++ numeral.value ∷ [])
    (stands s around before c.args.flow.now numeral.value c.stand.new.self c.in_ok-stand-in-Labelled.ensures.ok flow)
    clear n)))

goes_on : {X : Type 0} (s : Scopes) (around before one other : List ℕ) (new : Flow) (found : Result X Stop)
    → OnOk found (IsFlow s around ((before ++ one) ++ other) new)
    → OnOk found (IsFlow s around (before ++ (one ++ other)) new)
goes_on s around before one other new (Ok x) h = regroup s around before new one other h
goes_on s around before one other new (Err why) h = tt

pub statements::statement_of-returns-in_ok-stand-in-Labelled-clause-goes :
    goal.statements::statement_of-returns-in_ok-stand-in-Labelled-clause-goes
statements::statement_of-returns-in_ok-stand-in-Labelled-clause-goes t c around before flow =
    let spellings = c.args.scopes.now.spellings.now in
    let s : Scopes = scopes_view c.args.scopes.now in
    let numeral : Numeral = numeral_in c.in-Labelled.label.numeral in
    let plain : Plain = plain_in spellings c.in-Labelled.plain in
    let new = c.plain_of-in-Labelled.new.flow in
    let is : statement_in spellings c.args.statement.now ≡ tree.labelled numeral c.in-Labelled.label.colon plain =
    ap (statement_in spellings) c.in-Labelled.is
    ∙ labelled_statement_seen spellings c.in-Labelled.label c.in-Labelled.plain in
    subst (λ (part : Statement). OnOk c.plain_of-in-Labelled.result (IsFlow s around (before ++ labels_at part) new))
    (sym is)
    (goes_on s around before (numeral.value ∷ []) (labels_in plain) new c.plain_of-in-Labelled.result
    (subst (λ (inner : code_plain.Plain). OnOk c.plain_of-in-Labelled.result
    (IsFlow s around ((before ++ numeral.value ∷ []) ++ labels_in (plain_in spellings inner)) new)) c.get.ensures
    (c.plain_of-in-Labelled.ensures.goes around (before ++ numeral.value ∷ [])
    (stands s around before c.args.flow.now numeral.value c.stand.new.self c.in_ok-stand-in-Labelled.ensures.ok
    flow))))

-- `for`
abbrev limit : Scopes → Option Slot → Expr → Judged Value
limit s slot e = checked (fits_slot s.outer.types slot) (value_of s e)

pub statements::for_of-returns-in_err-slot-clause-means : goal.statements::for_of-returns-in_err-slot-clause-means
statements::for_of-returns-in_err-slot-clause-means t c around before flow clear n =
    let spellings = c.args.scopes.now.spellings.now in
    let s : Scopes = scopes_view c.args.scopes.now in
    let h : ForHead = for_head_in spellings c.args.head.now in
    let part : Statement = statement_in spellings c.args.body.now in
    let whole : Plain = tree.for h.line h.name h.becomes h.first h.toward h.last h.do_line part in
    let why = c.in_err-slot.field-0.0 in
    settles_stop (plain_words n whole) (plain_of s around before whole) (statement_view spellings) why
    c.from_residual.result (err_from_is_err_and _ c.from_residual.ensures.1)
    (for_slot_stops s around before n h.line h.name h.becomes h.first h.toward h.last h.do_line part why
    (c.in_err-slot.ensures clear (n + 1) h.becomes))

pub statements::for_of-returns-in_err-first-clause-means : goal.statements::for_of-returns-in_err-first-clause-means
statements::for_of-returns-in_err-first-clause-means t c around before flow clear n =
    let spellings = c.args.scopes.now.spellings.now in
    let s : Scopes = scopes_view c.args.scopes.now in
    let h : ForHead = for_head_in spellings c.args.head.now in
    let part : Statement = statement_in spellings c.args.body.now in
    let whole : Plain = tree.for h.line h.name h.becomes h.first h.toward h.last h.do_line part in
    let slot : Slot = slot_view c.in_ok-slot.slot in
    let why = c.in_err-first.field-0.0 in
    settles_stop (plain_words n whole) (plain_of s around before whole) (statement_view spellings) why
    c.from_residual-in_err-first.result (err_from_is_err_and _ c.from_residual-in_err-first.ensures.1)
    (for_first_stops s around before n h.line h.name h.becomes h.first h.toward h.last h.do_line part slot why
    (c.in_ok-slot.ensures clear (n + 1) h.becomes)
    (found_stops (expr_words (n + 1) 0 h.first) (limit s (Some slot) h.first) value_view h.toward.line why
    c.limit_of.result c.in_err-first.ensures (c.limit_of.ensures clear (n + 1))))

pub statements::for_of-returns-in_err-last-clause-means : goal.statements::for_of-returns-in_err-last-clause-means
statements::for_of-returns-in_err-last-clause-means t c around before flow clear n =
    let spellings = c.args.scopes.now.spellings.now in
    let s : Scopes = scopes_view c.args.scopes.now in
    let h : ForHead = for_head_in spellings c.args.head.now in
    let part : Statement = statement_in spellings c.args.body.now in
    let whole : Plain = tree.for h.line h.name h.becomes h.first h.toward h.last h.do_line part in
    let slot : Slot = slot_view c.in_ok-slot.slot in
    let why = c.in_err-last.field-0.0 in
    settles_stop (plain_words n whole) (plain_of s around before whole) (statement_view spellings) why
    c.from_residual-in_err-last.result (err_from_is_err_and _ c.from_residual-in_err-last.ensures.1)
    (for_last_stops s around before n h.line h.name h.becomes h.first h.toward h.last h.do_line part slot
    (value_view c.in_ok-first.first) why (c.in_ok-slot.ensures clear (n + 1) h.becomes)
    (found_means (expr_words (n + 1) 0 h.first) (limit s (Some slot) h.first) value_view h.toward.line
    c.in_ok-first.first c.limit_of.result c.in_ok-first.ensures (c.limit_of.ensures clear (n + 1)))
    (found_stops (expr_words (n + 1) 0 h.last) (limit s (Some slot) h.last) value_view h.do_line why
    c.limit_of-2.result c.in_err-last.ensures (c.limit_of-2.ensures clear (n + 1))))

pub statements::for_of-returns-in_err-body-clause-means : goal.statements::for_of-returns-in_err-body-clause-means
statements::for_of-returns-in_err-body-clause-means t c around before flow clear n =
    let spellings = c.args.scopes.now.spellings.now in
    let s : Scopes = scopes_view c.args.scopes.now in
    let h : ForHead = for_head_in spellings c.args.head.now in
    let part : Statement = statement_in spellings c.args.body.now in
    let whole : Plain = tree.for h.line h.name h.becomes h.first h.toward h.last h.do_line part in
    let slot : Slot = slot_view c.in_ok-slot.slot in
    let why = c.in_err-body.field-0.0 in
    settles_stop (plain_words n whole) (plain_of s around before whole) (statement_view spellings) why
    c.from_residual-in_err-body.result (err_from_is_err_and _ c.from_residual-in_err-body.ensures.1)
    (for_body_stops s around before n h.line h.name h.becomes h.first h.toward h.last h.do_line part slot
    (value_view c.in_ok-first.first) (value_view c.in_ok-last.last) why
    (c.in_ok-slot.ensures clear (n + 1) h.becomes)
    (found_means (expr_words (n + 1) 0 h.first) (limit s (Some slot) h.first) value_view h.toward.line
    c.in_ok-first.first c.limit_of.result c.in_ok-first.ensures (c.limit_of.ensures clear (n + 1)))
    (found_means (expr_words (n + 1) 0 h.last) (limit s (Some slot) h.last) value_view h.do_line c.in_ok-last.last
    c.limit_of-2.result c.in_ok-last.ensures (c.limit_of-2.ensures clear (n + 1)))
    (c.in_err-body.ensures.means around before flow clear (n + 1)))

pub statements::for_of-returns-clause-means : goal.statements::for_of-returns-clause-means
statements::for_of-returns-clause-means t c around before flow clear n =
    let spellings = c.args.scopes.now.spellings.now in
    let s : Scopes = scopes_view c.args.scopes.now in
    let h : ForHead = for_head_in spellings c.args.head.now in
    let part : Statement = statement_in spellings c.args.body.now in
    let whole : Plain = tree.for h.line h.name h.becomes h.first h.toward h.last h.do_line part in
    let slot : Slot = slot_view c.in_ok-slot.slot in
    subst (λ (made : typed.Statement). Means (plain_words n whole) (plain_of s around before whole) made)
    (sym (c.in_ok-for_do.ensures spellings))
    (for_means s around before n h.line h.name h.becomes h.first h.toward h.last h.do_line part slot
    (value_view c.in_ok-first.first) (value_view c.in_ok-last.last) (statement_view spellings c.in_ok-body.body)
    (c.in_ok-slot.ensures clear (n + 1) h.becomes)
    (found_means (expr_words (n + 1) 0 h.first) (limit s (Some slot) h.first) value_view h.toward.line
    c.in_ok-first.first c.limit_of.result c.in_ok-first.ensures (c.limit_of.ensures clear (n + 1)))
    (found_means (expr_words (n + 1) 0 h.last) (limit s (Some slot) h.last) value_view h.do_line c.in_ok-last.last
    c.limit_of-2.result c.in_ok-last.ensures (c.limit_of-2.ensures clear (n + 1)))
    (c.in_ok-body.ensures.means around before flow clear (n + 1)))

-- a statement without a label
moved : (scopes : CodeScopes) (flow : Flow) (s other : Plain) (result : Result code_statement.Statement Stop)
    → s ≡ other → IsPlain scopes flow s result → IsPlain scopes flow other result
moved scopes flow s other result is h = subst (λ (part : Plain). IsPlain scopes flow part result) is h

pub statements::plain_of-returns-in-Assignment-clause-means :
    goal.statements::plain_of-returns-in-Assignment-clause-means
statements::plain_of-returns-in-Assignment-clause-means t c =
    let spellings = c.args.scopes.now.spellings.now in
    moved c.args.scopes.now c.args.flow.now (assignment_in spellings c.get.result.now)
    (plain_in spellings c.args.plain.now) c.assignment_of.result
    (ap (assignment_in spellings) c.get.ensures
    ∙ sym (ap (plain_in spellings) c.in-Assignment.is ∙ assignment_seen spellings c.in-Assignment.assignment))
    (λ around before flow clear n. c.assignment_of.ensures clear n)

abbrev call_in : List ℕ → ProcedureCall → Plain
call_in spellings call =
    tree.procedure_call (ident_in spellings call.name) (if_there (arguments_in spellings) call.arguments)

pub statements::plain_of-returns-in-Call-clause-means : goal.statements::plain_of-returns-in-Call-clause-means
statements::plain_of-returns-in-Call-clause-means t c =
    let spellings = c.args.scopes.now.spellings.now in
    moved c.args.scopes.now c.args.flow.now (call_in spellings c.get-in-Call.result.now)
    (plain_in spellings c.args.plain.now) c.call_of.result
    (ap (call_in spellings) c.get-in-Call.ensures
    ∙ sym (ap (plain_in spellings) c.in-Call.is ∙ called_seen spellings c.in-Call.call))
    (λ around before flow clear n. c.call_of.ensures clear n)

pub statements::plain_of-returns-in-Compound-clause-means : goal.statements::plain_of-returns-in-Compound-clause-means
statements::plain_of-returns-in-Compound-clause-means t c =
    let spellings = c.args.scopes.now.spellings.now in
    let body = c.in-Compound.body in
    let begin = (out-Compound body).begin in
    moved c.args.scopes.now c.args.flow.now
    (tree.compound begin (statements_in spellings (out-Compound c.get-in-Compound.result.now).list)
    (out-Compound c.get-in-Compound-2.result.now).end) (plain_in spellings c.args.plain.now) c.compound_of.result
    ((λ i. tree.compound begin (statements_in spellings (out-Compound (c.get-in-Compound.ensures i)).list)
    (out-Compound (c.get-in-Compound-2.ensures i)).end)
    ∙ sym (ap (plain_in spellings) c.in-Compound.is
    ∙ (plain_compound_seen spellings body
    ∙ ap (λ (b : Compound). tree.compound b.begin b.list b.end) (body_seen spellings body))))
    (c.compound_of.ensures.means begin)

pub statements::plain_of-returns-in-If-clause-means : goal.statements::plain_of-returns-in-If-clause-means
statements::plain_of-returns-in-If-clause-means t c =
    let spellings = c.args.scopes.now.spellings.now in
    let one = c.get-in-If.result.now in
    moved c.args.scopes.now c.args.flow.now
    (tree.if_then one.line (expr_in spellings one.value) one.behind
    (statement_in spellings c.get-in-If-2.result.now)) (plain_in spellings c.args.plain.now) c.if_of.result
    ((λ i. tree.if_then (c.get-in-If.ensures i).line (expr_in spellings (c.get-in-If.ensures i).value)
    (c.get-in-If.ensures i).behind (statement_in spellings (c.get-in-If-2.ensures i)))
    ∙ sym (ap (plain_in spellings) c.in-If.is ∙ if_seen spellings c.in-If.guard c.in-If.chosen))
    c.if_of.ensures.means

pub statements::plain_of-returns-in-While-clause-means : goal.statements::plain_of-returns-in-While-clause-means
statements::plain_of-returns-in-While-clause-means t c =
    let spellings = c.args.scopes.now.spellings.now in
    let one = c.get-in-While.result.now in
    moved c.args.scopes.now c.args.flow.now
    (tree.while one.line (expr_in spellings one.value) one.behind
    (statement_in spellings c.get-in-While-2.result.now)) (plain_in spellings c.args.plain.now) c.while_of.result
    ((λ i. tree.while (c.get-in-While.ensures i).line (expr_in spellings (c.get-in-While.ensures i).value)
    (c.get-in-While.ensures i).behind (statement_in spellings (c.get-in-While-2.ensures i)))
    ∙ sym (ap (plain_in spellings) c.in-While.is ∙ while_seen spellings c.in-While.guard c.in-While.body))
    c.while_of.ensures.means

pub statements::plain_of-returns-in-Repeat-clause-means : goal.statements::plain_of-returns-in-Repeat-clause-means
statements::plain_of-returns-in-Repeat-clause-means t c =
    let spellings = c.args.scopes.now.spellings.now in
    let line = c.in-Repeat.field-0 in
    moved c.args.scopes.now c.args.flow.now
    (tree.repeat line (statements_in spellings c.get-in-Repeat.result.now) c.get-in-Repeat-2.result.now.line
    (expr_in spellings c.get-in-Repeat-2.result.now.item)) (plain_in spellings c.args.plain.now) c.repeat_of.result
    ((λ i. tree.repeat line (statements_in spellings (c.get-in-Repeat.ensures i)) (c.get-in-Repeat-2.ensures i).line
    (expr_in spellings (c.get-in-Repeat-2.ensures i).item))
    ∙ sym (ap (plain_in spellings) c.in-Repeat.is
    ∙ repeat_seen spellings line c.in-Repeat.list c.in-Repeat.until))
    (c.repeat_of.ensures.means line)

abbrev counting_in : List ℕ → CodeForHead → code_tree_statement.Statement → Plain
counting_in spellings head part =
    let h = for_head_in spellings head in
    tree.for h.line h.name h.becomes h.first h.toward h.last h.do_line (statement_in spellings part)

pub statements::plain_of-returns-in-For-clause-means : goal.statements::plain_of-returns-in-For-clause-means
statements::plain_of-returns-in-For-clause-means t c =
    let spellings = c.args.scopes.now.spellings.now in
    moved c.args.scopes.now c.args.flow.now
    (counting_in spellings c.get-in-For.result.now c.get-in-For-2.result.now)
    (plain_in spellings c.args.plain.now) c.for_of.result
    ((λ i. counting_in spellings (c.get-in-For.ensures i) (c.get-in-For-2.ensures i))
    ∙ sym (ap (plain_in spellings) c.in-For.is ∙ for_seen spellings c.in-For.head c.in-For.body))
    c.for_of.ensures.means

pub statements::plain_of-returns-in-Goto-clause-means : goal.statements::plain_of-returns-in-Goto-clause-means
statements::plain_of-returns-in-Goto-clause-means t c =
    let spellings = c.args.scopes.now.spellings.now in
    let s : Scopes = scopes_view c.args.scopes.now in
    let line = c.in-Goto.field-0 in
    let numeral : Numeral = numeral_in c.in-Goto.numeral in
    moved c.args.scopes.now c.args.flow.now (tree.goto line numeral) (plain_in spellings c.args.plain.now)
    c.goto_of.result (sym (ap (plain_in spellings) c.in-Goto.is ∙ goto_seen spellings line c.in-Goto.numeral))
    (λ around before flow clear n.
    goto_settles s around before n line (number_at n numeral) (goto_of s around numeral.value)
    (statement_view spellings) c.goto_of.result (c.goto_of.ensures around before flow n))

-- `if` with `else`
abbrev choice_in : List ℕ → Guard → code_tree_statement.Statement → ℕ → code_tree_statement.Statement → Plain
choice_in spellings guard chosen line other =
    tree.if_else guard.line (expr_in spellings guard.value) guard.behind (statement_in spellings chosen) line
    (statement_in spellings other)

abbrev Tests : Scopes → ℕ → List ℕ → Value → Guard → Type 0
Tests s n spellings value guard =
    Means (expr_words n 0 (expr_in spellings guard.value)) (test_of s (expr_in spellings guard.value)) value

abbrev PartMeans : Scopes → ℕ → List ℕ → List ℕ → List ℕ → typed.Statement → code_tree_statement.Statement → Type 0
PartMeans s n spellings around before found part =
    Means (statement_words n (statement_in spellings part))
    (statement_of s elsewhere around before (statement_in spellings part)) found

pub statements::plain_of-returns-in_err-test-in-IfElse-clause-means :
    goal.statements::plain_of-returns-in_err-test-in-IfElse-clause-means
statements::plain_of-returns-in_err-test-in-IfElse-clause-means t c around before flow clear n =
    let spellings = c.args.scopes.now.spellings.now in
    let s : Scopes = scopes_view c.args.scopes.now in
    let g = c.in-IfElse.guard in
    let whole : Plain = plain_in spellings c.args.plain.now in
    let line = c.in-IfElse.line in
    let why = c.in_err-test-in-IfElse.field-0.0 in
    let is : whole ≡ choice_in spellings g c.in-IfElse.chosen line c.in-IfElse.other =
    ap (plain_in spellings) c.in-IfElse.is
    ∙ if_else_seen spellings g c.in-IfElse.chosen line c.in-IfElse.other in
    settles_stop (plain_words n whole) (plain_of s around before whole) (statement_view spellings) why
    c.from_residual.result (err_from_is_err_and _ c.from_residual.ensures.1)
    (subst (λ (p : Plain). ShowsBy (plain_words n p) (plain_of s around before p).marks why) (sym is)
    (choice_stops s around before n g.line (expr_in spellings g.value) g.behind
    (statement_in spellings c.in-IfElse.chosen) line (statement_in spellings c.in-IfElse.other) why
    (subst (λ (guard : Guard). ShowsBefore guard.behind (expr_words (n + 1) 0 (expr_in spellings guard.value))
    (test_of s (expr_in spellings guard.value)).marks why) c.get-in-IfElse.ensures
    (c.in_err-test-in-IfElse.ensures clear (n + 1)))))

pub statements::plain_of-returns-in_err-chosen-in-IfElse-clause-means :
    goal.statements::plain_of-returns-in_err-chosen-in-IfElse-clause-means
statements::plain_of-returns-in_err-chosen-in-IfElse-clause-means t c around before flow clear n =
    let spellings = c.args.scopes.now.spellings.now in
    let s : Scopes = scopes_view c.args.scopes.now in
    let g = c.in-IfElse.guard in
    let whole : Plain = plain_in spellings c.args.plain.now in
    let line = c.in-IfElse.line in
    let value : Value = value_view c.in_ok-test-in-IfElse.test in
    let got = c.get-in-IfElse-2.result.now in
    let why = c.in_err-chosen-in-IfElse.field-0.0 in
    let is : whole ≡ choice_in spellings g c.in-IfElse.chosen line c.in-IfElse.other =
    ap (plain_in spellings) c.in-IfElse.is
    ∙ if_else_seen spellings g c.in-IfElse.chosen line c.in-IfElse.other in
    settles_stop (plain_words n whole) (plain_of s around before whole) (statement_view spellings) why
    c.from_residual-in_err-chosen-in-IfElse.result
    (err_from_is_err_and _ c.from_residual-in_err-chosen-in-IfElse.ensures.1)
    (subst (λ (p : Plain). ShowsBy (plain_words n p) (plain_of s around before p).marks why) (sym is)
    (choice_one_stops s around before n g.line (expr_in spellings g.value) g.behind
    (statement_in spellings c.in-IfElse.chosen) line (statement_in spellings c.in-IfElse.other) value why
    (subst (Tests s (n + 1) spellings value) c.get-in-IfElse.ensures
    (c.in_ok-test-in-IfElse.ensures clear (n + 1)))
    (subst (λ (part : code_tree_statement.Statement). ShowsBefore line
    (statement_words (n + 1) (statement_in spellings part))
    (statement_of s elsewhere around before (statement_in spellings part)).marks why) c.get-in-IfElse-2.ensures
    (found_stops (statement_words (n + 1) (statement_in spellings got))
    (statement_of s elsewhere around before (statement_in spellings got)) (statement_view spellings) line why
    c.statement_of-chosen.result c.in_err-chosen-in-IfElse.ensures
    (c.statement_of-chosen.ensures.means around before flow clear (n + 1))))))

-- what is known behind the first part
before_other : {X : Type 0} (s : Scopes) (around before labels : List ℕ) (new : Flow) (line : ℕ) (last : X)
    (found : Result X Stop) → Ok last ≡ found_before line found
    → OnOk found (IsFlow s around (before ++ labels) new) → IsFlow s around (before ++ labels) new
before_other s around before labels new line last found is h =
    subst (λ (r : Result _ Stop). OnOk r (IsFlow s around (before ++ labels) new))
    (sym (before_found line last found is))
    h

pub statements::plain_of-returns-in_err-other-in-IfElse-clause-means :
    goal.statements::plain_of-returns-in_err-other-in-IfElse-clause-means
statements::plain_of-returns-in_err-other-in-IfElse-clause-means t c around before flow clear n =
    let spellings = c.args.scopes.now.spellings.now in
    let s : Scopes = scopes_view c.args.scopes.now in
    let g = c.in-IfElse.guard in
    let whole : Plain = plain_in spellings c.args.plain.now in
    let line = c.in-IfElse.line in
    let value : Value = value_view c.in_ok-test-in-IfElse.test in
    let one : typed.Statement = statement_view spellings c.in_ok-chosen-in-IfElse.chosen in
    let got = c.get-in-IfElse-2.result.now in
    let part : Statement = statement_in spellings c.in-IfElse.chosen in
    let labels : List ℕ = labels_at part in
    let why = c.in_err-other-in-IfElse.field-0.0 in
    let is : whole ≡ choice_in spellings g c.in-IfElse.chosen line c.in-IfElse.other =
    ap (plain_in spellings) c.in-IfElse.is
    ∙ if_else_seen spellings g c.in-IfElse.chosen line c.in-IfElse.other in
    let behind : IsFlow s around (before ++ labels) c.statement_of-chosen.new.flow =
    before_other s around before labels c.statement_of-chosen.new.flow line c.in_ok-chosen-in-IfElse.chosen
    c.statement_of-chosen.result c.in_ok-chosen-in-IfElse.ensures
    (subst (λ (part : code_tree_statement.Statement). OnOk c.statement_of-chosen.result
    (IsFlow s around (before ++ labels_at (statement_in spellings part)) c.statement_of-chosen.new.flow))
    c.get-in-IfElse-2.ensures (c.statement_of-chosen.ensures.goes around before flow)) in
    settles_stop (plain_words n whole) (plain_of s around before whole) (statement_view spellings) why
    c.from_residual-in_err-other-in-IfElse.result
    (err_from_is_err_and _ c.from_residual-in_err-other-in-IfElse.ensures.1)
    (subst (λ (p : Plain). ShowsBy (plain_words n p) (plain_of s around before p).marks why) (sym is)
    (choice_other_stops s around before n g.line (expr_in spellings g.value) g.behind part line
    (statement_in spellings c.in-IfElse.other) value one why
    (subst (Tests s (n + 1) spellings value) c.get-in-IfElse.ensures
    (c.in_ok-test-in-IfElse.ensures clear (n + 1)))
    (subst (PartMeans s (n + 1) spellings around before one) c.get-in-IfElse-2.ensures
    (found_means (statement_words (n + 1) (statement_in spellings got))
    (statement_of s elsewhere around before (statement_in spellings got)) (statement_view spellings) line
    c.in_ok-chosen-in-IfElse.chosen c.statement_of-chosen.result c.in_ok-chosen-in-IfElse.ensures
    (c.statement_of-chosen.ensures.means around before flow clear (n + 1))))
    (subst (λ (part : code_tree_statement.Statement). ShowsBy (statement_words (n + 1) (statement_in spellings part))
    (statement_of s elsewhere around (before ++ labels) (statement_in spellings part)).marks why)
    c.get-in-IfElse-3.ensures
    (c.in_err-other-in-IfElse.ensures.means around (before ++ labels) behind clear (n + 1)))))

pub statements::plain_of-returns-in_ok-if_else-in-IfElse-clause-means :
    goal.statements::plain_of-returns-in_ok-if_else-in-IfElse-clause-means
statements::plain_of-returns-in_ok-if_else-in-IfElse-clause-means t c around before flow clear n =
    let spellings = c.args.scopes.now.spellings.now in
    let s : Scopes = scopes_view c.args.scopes.now in
    let g = c.in-IfElse.guard in
    let whole : Plain = plain_in spellings c.args.plain.now in
    let line = c.in-IfElse.line in
    let value : Value = value_view c.in_ok-test-in-IfElse.test in
    let one : typed.Statement = statement_view spellings c.in_ok-chosen-in-IfElse.chosen in
    let last : typed.Statement = statement_view spellings c.in_ok-other-in-IfElse.other in
    let got = c.get-in-IfElse-2.result.now in
    let part : Statement = statement_in spellings c.in-IfElse.chosen in
    let labels : List ℕ = labels_at part in
    let is : whole ≡ choice_in spellings g c.in-IfElse.chosen line c.in-IfElse.other =
    ap (plain_in spellings) c.in-IfElse.is
    ∙ if_else_seen spellings g c.in-IfElse.chosen line c.in-IfElse.other in
    let behind : IsFlow s around (before ++ labels) c.statement_of-chosen.new.flow =
    before_other s around before labels c.statement_of-chosen.new.flow line c.in_ok-chosen-in-IfElse.chosen
    c.statement_of-chosen.result c.in_ok-chosen-in-IfElse.ensures
    (subst (λ (part : code_tree_statement.Statement). OnOk c.statement_of-chosen.result
    (IsFlow s around (before ++ labels_at (statement_in spellings part)) c.statement_of-chosen.new.flow))
    c.get-in-IfElse-2.ensures (c.statement_of-chosen.ensures.goes around before flow)) in
    subst (λ (made : typed.Statement). Means (plain_words n whole) (plain_of s around before whole) made)
    (sym (c.in_ok-if_else-in-IfElse.ensures spellings))
    (subst (λ (p : Plain). Means (plain_words n p) (plain_of s around before p) (typed.if_else value one last)) (sym is)
    (choice_means s around before n g.line (expr_in spellings g.value) g.behind part line
    (statement_in spellings c.in-IfElse.other) value one last
    (subst (Tests s (n + 1) spellings value) c.get-in-IfElse.ensures
    (c.in_ok-test-in-IfElse.ensures clear (n + 1)))
    (subst (PartMeans s (n + 1) spellings around before one) c.get-in-IfElse-2.ensures
    (found_means (statement_words (n + 1) (statement_in spellings got))
    (statement_of s elsewhere around before (statement_in spellings got)) (statement_view spellings) line
    c.in_ok-chosen-in-IfElse.chosen c.statement_of-chosen.result c.in_ok-chosen-in-IfElse.ensures
    (c.statement_of-chosen.ensures.means around before flow clear (n + 1))))
    (subst (PartMeans s (n + 1) spellings around (before ++ labels) last) c.get-in-IfElse-3.ensures
    (c.in_ok-other-in-IfElse.ensures.means around (before ++ labels) behind clear (n + 1)))))

pub statements::plain_of-returns-in_ok-if_else-in-IfElse-clause-goes :
    goal.statements::plain_of-returns-in_ok-if_else-in-IfElse-clause-goes
statements::plain_of-returns-in_ok-if_else-in-IfElse-clause-goes t c around before flow =
    let spellings = c.args.scopes.now.spellings.now in
    let s : Scopes = scopes_view c.args.scopes.now in
    let g = c.in-IfElse.guard in
    let line = c.in-IfElse.line in
    let part : Statement = statement_in spellings c.in-IfElse.chosen in
    let labels : List ℕ = labels_at part in
    let new = c.statement_of.new.flow in
    let is : plain_in spellings c.args.plain.now ≡ choice_in spellings g c.in-IfElse.chosen line c.in-IfElse.other =
    ap (plain_in spellings) c.in-IfElse.is
    ∙ if_else_seen spellings g c.in-IfElse.chosen line c.in-IfElse.other in
    let behind : IsFlow s around (before ++ labels) c.statement_of-chosen.new.flow =
    before_other s around before labels c.statement_of-chosen.new.flow line c.in_ok-chosen-in-IfElse.chosen
    c.statement_of-chosen.result c.in_ok-chosen-in-IfElse.ensures
    (subst (λ (part : code_tree_statement.Statement). OnOk c.statement_of-chosen.result
    (IsFlow s around (before ++ labels_at (statement_in spellings part)) c.statement_of-chosen.new.flow))
    c.get-in-IfElse-2.ensures (c.statement_of-chosen.ensures.goes around before flow)) in
    subst (λ (p : Plain). IsFlow s around (before ++ labels_in p) new) (sym is)
    (regroup s around before new labels (labels_at (statement_in spellings c.in-IfElse.other))
    (subst (λ (part : code_tree_statement.Statement). IsFlow s around
    ((before ++ labels) ++ labels_at (statement_in spellings part)) new) c.get-in-IfElse-3.ensures
    (c.in_ok-other-in-IfElse.ensures.goes around (before ++ labels) behind)))

-- elements of a case
pub cases::arm_of-returns-in_err-constants-clause-means : goal.cases::arm_of-returns-in_err-constants-clause-means
cases::arm_of-returns-in_err-constants-clause-means t c around before flow clear n =
    let spellings = c.args.scopes.now.spellings.now in
    let s : Scopes = scopes_view c.args.scopes.now in
    let base : Base = base_view c.args.base in
    let taken : List ℤ = c.args.taken.now.keys in
    let arm : Arm = element_in spellings c.args.element.now in
    let why = c.in_err-constants.field-0.0 in
    let is : arm ≡ arm_seen_in spellings c.args.element.now = element_is spellings c.args.element.now in
    settles_stop (arm_words n arm) (arm_part s around before base taken arm) (arm_view spellings) why
    c.from_residual.result (err_from_is_err_and _ c.from_residual.ensures.1)
    (subst (λ (arm : Arm). ShowsBy (arm_words n arm) (arm_part s around before base taken arm).marks why) (sym is)
    (choices_fail s around before base taken n (arm_seen_in spellings c.args.element.now) why
    (c.in_err-constants.ensures.means clear n)))

pub cases::arm_of-returns-in_err-statement-clause-means : goal.cases::arm_of-returns-in_err-statement-clause-means
cases::arm_of-returns-in_err-statement-clause-means t c around before flow clear n =
    let spellings = c.args.scopes.now.spellings.now in
    let s : Scopes = scopes_view c.args.scopes.now in
    let base : Base = base_view c.args.base in
    let taken : List ℤ = c.args.taken.now.keys in
    let arm : Arm = element_in spellings c.args.element.now in
    let why = c.in_err-statement.field-0.0 in
    let is : arm ≡ arm_seen_in spellings c.args.element.now = element_is spellings c.args.element.now in
    settles_stop (arm_words n arm) (arm_part s around before base taken arm) (arm_view spellings) why
    c.from_residual-in_err-statement.result (err_from_is_err_and _ c.from_residual-in_err-statement.ensures.1)
    (subst (λ (arm : Arm). ShowsBy (arm_words n arm) (arm_part s around before base taken arm).marks why) (sym is)
    (chosen_stops s around before base taken n (arm_seen_in spellings c.args.element.now) c.in_ok-constants.constants
    why (c.in_ok-constants.ensures.means clear n) (c.in_err-statement.ensures.means around before flow clear n)))

pub cases::arm_of-returns-clause-means : goal.cases::arm_of-returns-clause-means
cases::arm_of-returns-clause-means t c around before flow clear n =
    let spellings = c.args.scopes.now.spellings.now in
    let s : Scopes = scopes_view c.args.scopes.now in
    let base : Base = base_view c.args.base in
    let taken : List ℤ = c.args.taken.now.keys in
    let arm : Arm = element_in spellings c.args.element.now in
    let values : List ℤ = c.in_ok-constants.constants in
    let found : typed.Statement = statement_view spellings c.in_ok-statement.statement in
    let is : arm ≡ arm_seen_in spellings c.args.element.now = element_is spellings c.args.element.now in
    subst (λ (make : Arms → Arms). Means (arm_words n arm) (arm_part s around before base taken arm) make)
    (sym (arm_view-roll spellings (record {
      constants = c.in_ok-constants.constants;
      statement = c.in_ok-statement.statement;
    })))
    (subst (λ (arm : Arm). Means (arm_words n arm) (arm_part s around before base taken arm)
    (λ others. typed.arm values found others)) (sym is)
    (arm_means s around before base taken n (arm_seen_in spellings c.args.element.now) values found
    (c.in_ok-constants.ensures.means clear n) (c.in_ok-statement.ensures.means around before flow clear n)))

pub cases::arm_of-returns-clause-taken : goal.cases::arm_of-returns-clause-taken
cases::arm_of-returns-clause-taken t c clear =
    let spellings = c.args.scopes.now.spellings.now in
    let s : Scopes = scopes_view c.args.scopes.now in
    let taken : List ℤ = c.args.taken.now.keys in
    let is : element_in spellings c.args.element.now ≡ arm_seen_in spellings c.args.element.now =
    element_is spellings c.args.element.now in
    c.in_ok-constants.ensures.taken
    ∙ (ap (λ (values : List ℤ). taken ++ values)
    (sym (known_anyhow s (base_view c.args.base) taken (arm_seen_in spellings c.args.element.now).constants
    c.in_ok-constants.constants (c.in_ok-constants.ensures.means clear 0).known))
    ∙ ap (λ (arm : Arm). taken ++ values_known (constants_of s None [] arm.constants)) (sym is))

pub cases::others_of-returns-in_ok-before-in-Others-clause-means :
    goal.cases::others_of-returns-in_ok-before-in-Others-clause-means
cases::others_of-returns-in_ok-before-in-Others-clause-means t c around before flow clear n =
    let spellings = c.args.scopes.now.spellings.now in
    let s : Scopes = scopes_view c.args.scopes.now in
    let head = c.in-Others.field-0 in
    let part = c.in-Others.chosen in
    let semicolon = c.in-Others.semicolon in
    let got = c.get.result.now in
    let line = c.unwrap_or.result in
    let found = c.in_ok-before-in-Others.field-0 in
    let whole : Others = others_in spellings c.args.others.now in
    let is : whole ≡ tree.others head.semicolon head.line head.colon (statement_in spellings part) semicolon =
    ap (others_in spellings) c.in-Others.is ∙ others_seen spellings head part semicolon in
    subst (λ (tail : Others). Means (others_words n tail) (others_of s around before tail)
    (λ selector arms. typed.case_others selector arms (statement_view spellings found))) (sym is)
    (others_mean s around before n head.semicolon head.line head.colon (statement_in spellings part) c.args.end
    semicolon (statement_view spellings found)
    (subst (PartMeans s n spellings around before (statement_view spellings found)) c.get.ensures
    (found_means (statement_words n (statement_in spellings got))
    (statement_of s elsewhere around before (statement_in spellings got)) (statement_view spellings) line found
    c.statement_of-chosen.result c.in_ok-before-in-Others.ensures
    (c.statement_of-chosen.ensures.means around before flow clear n))))

pub cases::others_of-returns-in_err-before-in-Others-clause-means :
    goal.cases::others_of-returns-in_err-before-in-Others-clause-means
cases::others_of-returns-in_err-before-in-Others-clause-means t c around before flow clear n =
    let spellings = c.args.scopes.now.spellings.now in
    let s : Scopes = scopes_view c.args.scopes.now in
    let head = c.in-Others.field-0 in
    let part = c.in-Others.chosen in
    let semicolon = c.in-Others.semicolon in
    let got = c.get.result.now in
    let line = c.unwrap_or.result in
    let end = c.args.end in
    let whole : Others = others_in spellings c.args.others.now in
    let why = c.in_err-before-in-Others.field-0.0 in
    let is : whole ≡ tree.others head.semicolon head.line head.colon (statement_in spellings part) semicolon =
    ap (others_in spellings) c.in-Others.is ∙ others_seen spellings head part semicolon in
    let at : line ≡ unwrap_or semicolon end = search rules in
    precedes_stop end (others_words n whole) (others_of s around before whole) (others_view spellings) why
    c.from_residual.result (err_from_is_err_and _ c.from_residual.ensures.1)
    (subst (λ (tail : Others). ShowsBefore end (others_words n tail) (others_of s around before tail).marks why)
    (sym is)
    (others_stop s around before n head.semicolon head.line head.colon (statement_in spellings part) end semicolon why
    (subst (λ (line : ℕ). ShowsBefore line (statement_words n (statement_in spellings part))
    (statement_of s elsewhere around before (statement_in spellings part)).marks why) at
    (subst (λ (part : code_tree_statement.Statement). ShowsBefore line (statement_words n (statement_in spellings part))
    (statement_of s elsewhere around before (statement_in spellings part)).marks why) c.get.ensures
    (found_stops (statement_words n (statement_in spellings got))
    (statement_of s elsewhere around before (statement_in spellings got)) (statement_view spellings) line why
    c.statement_of-chosen.result c.in_err-before-in-Others.ensures
    (c.statement_of-chosen.ensures.means around before flow clear n))))))

-- all elements
abbrev first_arm_of : List ℕ → code_elements.Elements → Arm
first_arm_of spellings elements = element_in spellings (out-Elements elements).first

pub cases::arms_of-loop-next-init : goal.cases::arms_of-loop-next-init
cases::arms_of-loop-next-init t c =
    let spellings = c.args.scopes.now.spellings.now in
    let arm : Arm = first_arm_of spellings c.args.elements.now in
    let none : c.new-taken.result.keys ≡ [] = c.new-taken.ensures.empty in
    subst (λ (arms : List code_arm.Arm). AreArmsSoFar c.args.scopes.now c.args.flow.now c.arm_of-found.new.flow
    c.args.base (first_arm spellings arm) arms c.arm_of-found.new.taken.keys c.arm_of-found.result)
    (sym c.new-arms.ensures)
    (first_arm_so_far c.args.scopes.now c.args.base c.args.flow.now c.arm_of-found.new.flow arm
    c.new-taken.result.keys c.arm_of-found.new.taken.keys c.arm_of-found.result none c.arm_of-found.ensures.means
    c.arm_of-found.ensures.goes c.arm_of-found.ensures.taken)

pub cases::arms_of-loop-next-preserved : goal.cases::arms_of-loop-next-preserved
cases::arms_of-loop-next-preserved t c =
    let spellings = c.args.scopes.now.spellings.now in
    let scopes = c.args.scopes.now in
    let base = c.args.base in
    let old = c.args.flow.now in
    let here = c.loop-next.flow in
    let new = c.arm_of-found-in-loop-next.new.flow in
    let first : Arm = first_arm_of spellings c.args.elements.now in
    let items : List code_more_element.MoreElement = c.as_slice-next-items.result.now in
    let index = c.loop-next.next-index in
    let next : code_more_element.MoreElement = c.next-item.result in
    let line = (out-MoreElement next).line in
    let last = c.in_ok-before.field-0 in
    let taken : List ℤ = c.loop-next.taken.keys in
    let then_taken : List ℤ = c.arm_of-found-in-loop-next.new.taken.keys in
    let found : Result code_arm.Arm Stop = c.arm_of-found-in-loop-next.result in
    let elements : Elements = arms_so_far spellings first (take index items) in
    let was : AreArmsSoFar scopes old here base elements c.loop-next.arms taken (Ok last) =
    subst (λ (r : Result code_arm.Arm Stop). AreArmsSoFar scopes old here base elements c.loop-next.arms taken r)
    (sym (before_found line last c.loop-next.found c.in_ok-before.ensures)) c.loop-next.invariant in
    subst (λ (arms : List code_arm.Arm). AreArmsSoFar scopes old new base
    (arms_so_far spellings first (take (index + 1) items)) arms then_taken found) (sym c.in_ok-push.ensures.ok)
    (subst (λ (whole : Elements). AreArmsSoFar scopes old new base whole (c.loop-next.arms ++ last ∷ []) then_taken
    found) (sym (one_arm_taken spellings first items index next c.loop-next-test.true c.next-item.is))
    (next_arm_so_far scopes base old here new elements line (arm_at spellings next)
    c.loop-next.arms taken then_taken last
    found was c.arm_of-found-in-loop-next.ensures.means c.arm_of-found-in-loop-next.ensures.goes
    c.arm_of-found-in-loop-next.ensures.taken))

pub cases::arms_of-returns-in_err-before-clause-means : goal.cases::arms_of-returns-in_err-before-clause-means
cases::arms_of-returns-in_err-before-clause-means t c around before flow clear n =
    let spellings = c.args.scopes.now.spellings.now in
    let s : Scopes = scopes_view c.args.scopes.now in
    let base : Base = base_view c.args.base in
    let first : Arm = first_arm_of spellings c.args.elements.now in
    let items : List code_more_element.MoreElement = c.as_slice-next-items.result.now in
    let index = c.loop-next.next-index in
    let next : code_more_element.MoreElement = c.next-item.result in
    let line = (out-MoreElement next).line in
    let elements : Elements = arms_so_far spellings first (take index items) in
    let whole : Elements = elements_in spellings c.args.elements.now in
    let why = c.in_err-before.field-0.0 in
    let is : whole ≡ in_turn elements (map (more_element_in spellings) (next ∷ drop (suc index) items)) =
    arms_seen spellings c.args.elements.now
    ∙ (ap (arms_so_far spellings first) (sym c.as_slice-next-items.ensures)
    ∙ all_arms_taken spellings first items index next c.loop-next-test.true c.next-item.is) in
    settles_stop (elements_words n whole) (arms_of s around before (Some base) whole) (arms_view spellings) why
    c.from_residual.result (err_from_is_err_and _ c.from_residual.ensures.1)
    (subst (λ (l : Elements). ShowsBy (elements_words n l) (arms_of s around before (Some base) l).marks why) (sym is)
    (arms_stop spellings s around before base n elements next (drop (suc index) items) why
    (found_stops (elements_words n elements) (arms_of s around before (Some base) elements)
    (λ last. arms_view spellings (c.loop-next.arms ++ last ∷ [])) line why c.loop-next.found
    c.in_err-before.ensures (c.loop-next.invariant.means around before flow clear n))))

pub cases::arms_of-returns-in_err-found-clause-means : goal.cases::arms_of-returns-in_err-found-clause-means
cases::arms_of-returns-in_err-found-clause-means t c around before flow clear n =
    let spellings = c.args.scopes.now.spellings.now in
    let s : Scopes = scopes_view c.args.scopes.now in
    let base : Base = base_view c.args.base in
    let first : Arm = first_arm_of spellings c.args.elements.now in
    let items : List code_more_element.MoreElement = c.as_slice-next-items.result.now in
    let elements : Elements = arms_so_far spellings first (take c.loop-next.next-index items) in
    let whole : Elements = elements_in spellings c.args.elements.now in
    let why = c.in_err-found.field-0.0 in
    let is : whole ≡ elements =
    arms_seen spellings c.args.elements.now
    ∙ ap (arms_so_far spellings first) (sym c.as_slice-next-items.ensures
    ∙ sym (taken_all items c.loop-next.next-index c.loop-next-test.false)) in
    settles_stop (elements_words n whole) (arms_of s around before (Some base) whole) (arms_view spellings) why
    c.from_residual-in_err-found.result (err_from_is_err_and _ c.from_residual-in_err-found.ensures.1)
    (subst (λ (l : Elements). ShowsBy (elements_words n l) (arms_of s around before (Some base) l).marks why) (sym is)
    (subst (Settles (elements_words n elements) (arms_of s around before (Some base) elements)
    (λ last. arms_view spellings (c.loop-next.arms ++ last ∷ []))) c.in_err-found.was
    (c.loop-next.invariant.means around before flow clear n)))

pub cases::arms_of-returns-clause-means : goal.cases::arms_of-returns-clause-means
cases::arms_of-returns-clause-means t c around before flow clear n =
    let spellings = c.args.scopes.now.spellings.now in
    let s : Scopes = scopes_view c.args.scopes.now in
    let base : Base = base_view c.args.base in
    let first : Arm = first_arm_of spellings c.args.elements.now in
    let items : List code_more_element.MoreElement = c.as_slice-next-items.result.now in
    let elements : Elements = arms_so_far spellings first (take c.loop-next.next-index items) in
    let whole : Elements = elements_in spellings c.args.elements.now in
    let is : whole ≡ elements =
    arms_seen spellings c.args.elements.now
    ∙ ap (arms_so_far spellings first) (sym c.as_slice-next-items.ensures
    ∙ sym (taken_all items c.loop-next.next-index c.loop-next-test.false)) in
    subst (λ (arms : List code_arm.Arm). Means (elements_words n whole) (arms_of s around before (Some base) whole)
    (arms_view spellings arms)) (sym c.in_ok-push-2.ensures.ok)
    (subst (λ (l : Elements). Means (elements_words n l) (arms_of s around before (Some base) l)
    (arms_view spellings (c.loop-next.arms ++ c.in_ok-found.field-0 ∷ []))) (sym is)
    (subst (Settles (elements_words n elements) (arms_of s around before (Some base) elements)
    (λ last. arms_view spellings (c.loop-next.arms ++ last ∷ []))) c.in_ok-found.was
    (c.loop-next.invariant.means around before flow clear n)))

pub cases::arms_of-returns-clause-goes : goal.cases::arms_of-returns-clause-goes
cases::arms_of-returns-clause-goes t c around before flow =
    let spellings = c.args.scopes.now.spellings.now in
    let s : Scopes = scopes_view c.args.scopes.now in
    let first : Arm = first_arm_of spellings c.args.elements.now in
    let items : List code_more_element.MoreElement = c.as_slice-next-items.result.now in
    let elements : Elements = arms_so_far spellings first (take c.loop-next.next-index items) in
    let is : elements_in spellings c.args.elements.now ≡ elements =
    arms_seen spellings c.args.elements.now
    ∙ ap (arms_so_far spellings first) (sym c.as_slice-next-items.ensures
    ∙ sym (taken_all items c.loop-next.next-index c.loop-next-test.false)) in
    subst (λ (l : Elements). IsFlow s around (before ++ labels_in_elements l) c.loop-next.flow) (sym is)
    (subst (λ (r : Result code_arm.Arm Stop). OnOk r (IsFlow s around (before ++ labels_in_elements elements)
    c.loop-next.flow)) c.in_ok-found.was (c.loop-next.invariant.goes around before flow))

abbrev Chooses : Scopes → ℕ → List ℕ → Value → Guard → Type 0
Chooses s n spellings value guard =
    Means (expr_words n 0 (expr_in spellings guard.value))
    (checked (ordinal_only s.outer.types) (value_of s (expr_in spellings guard.value))) value

abbrev ArmsMean : Scopes → ℕ → List ℕ → List ℕ → List ℕ → Base → Arms → code_elements.Elements → Type 0
ArmsMean s n spellings around before base arms elements =
    Means (elements_words n (elements_in spellings elements))
    (arms_of s around before (Some base) (elements_in spellings elements)) arms

pub statements::plain_of-returns-in_err-selector-in-Case-clause-means :
    goal.statements::plain_of-returns-in_err-selector-in-Case-clause-means
statements::plain_of-returns-in_err-selector-in-Case-clause-means t c around before flow clear n =
    let spellings = c.args.scopes.now.spellings.now in
    let s : Scopes = scopes_view c.args.scopes.now in
    let g = c.in-Case.guard in
    let e : Expr = expr_in spellings g.value in
    let elements : Elements = elements_in spellings c.in-Case.elements in
    let tail : Others = others_in spellings c.in-Case.others in
    let end = c.in-Case.end in
    let whole : Plain = plain_in spellings c.args.plain.now in
    let is : whole ≡ tree.case g.line e g.behind elements tail end =
    ap (plain_in spellings) c.in-Case.is
    ∙ case_seen spellings g c.in-Case.elements c.in-Case.others end in
    let why = c.in_err-selector-in-Case.field-0.0 in
    settles_stop (plain_words n whole) (plain_of s around before whole) (statement_view spellings) why
    c.from_residual-in_err-selector-in-Case.result
    (err_from_is_err_and _ c.from_residual-in_err-selector-in-Case.ensures.1)
    (subst (λ (p : Plain). ShowsBy (plain_words n p) (plain_of s around before p).marks why) (sym is)
    (selector_stops s around before n g.line e g.behind elements tail end why
    (subst (λ (guard : Guard). ShowsBefore guard.behind (expr_words (n + 1) 0 (expr_in spellings guard.value))
    (checked (ordinal_only s.outer.types) (value_of s (expr_in spellings guard.value))).marks why)
    c.get-in-Case.ensures (c.in_err-selector-in-Case.ensures.means clear (n + 1)))))

pub statements::plain_of-returns-in_err-arms-in-Case-clause-means :
    goal.statements::plain_of-returns-in_err-arms-in-Case-clause-means
statements::plain_of-returns-in_err-arms-in-Case-clause-means t c around before flow clear n =
    let spellings = c.args.scopes.now.spellings.now in
    let s : Scopes = scopes_view c.args.scopes.now in
    let g = c.in-Case.guard in
    let e : Expr = expr_in spellings g.value in
    let elements : Elements = elements_in spellings c.in-Case.elements in
    let tail : Others = others_in spellings c.in-Case.others in
    let end = c.in-Case.end in
    let whole : Plain = plain_in spellings c.args.plain.now in
    let is : whole ≡ tree.case g.line e g.behind elements tail end =
    ap (plain_in spellings) c.in-Case.is
    ∙ case_seen spellings g c.in-Case.elements c.in-Case.others end in
    let value : Value = value_view c.in_ok-selector-in-Case.selector in
    let base : Base = base_view c.in_ok-selector-in-Case.base in
    let got = c.get-in-Case-2.result.now in
    let line = c.line_behind.result in
    let why = c.in_err-arms-in-Case.field-0.0 in
    let at : line ≡ behind_elements end tail =
    c.line_behind.ensures spellings
    ∙ ap (λ (part : code_others.Others). behind_elements end (others_in spellings part)) c.get-in-Case-3.ensures in
    settles_stop (plain_words n whole) (plain_of s around before whole) (statement_view spellings) why
    c.from_residual-in_err-arms-in-Case.result (err_from_is_err_and _ c.from_residual-in_err-arms-in-Case.ensures.1)
    (subst (λ (p : Plain). ShowsBy (plain_words n p) (plain_of s around before p).marks why) (sym is)
    (case_arms_stop s around before n g.line e g.behind elements tail end value base why
    (subst (Chooses s (n + 1) spellings value) c.get-in-Case.ensures
    (c.in_ok-selector-in-Case.ensures.means clear (n + 1))) c.in_ok-selector-in-Case.ensures.base
    (subst (λ (line : ℕ). ShowsBefore line (elements_words (n + 1) elements)
    (arms_of s around before (Some base) elements).marks why) at
    (subst (λ (part : code_elements.Elements). ShowsBefore line (elements_words (n + 1) (elements_in spellings part))
    (arms_of s around before (Some base) (elements_in spellings part)).marks why) c.get-in-Case-2.ensures
    (found_stops (elements_words (n + 1) (elements_in spellings got))
    (arms_of s around before (Some base) (elements_in spellings got)) (arms_view spellings) line why
    c.arms_of-arms.result c.in_err-arms-in-Case.ensures
    (c.arms_of-arms.ensures.means around before flow clear (n + 1)))))))

pub statements::plain_of-returns-in_err-others-in-Case-clause-means :
    goal.statements::plain_of-returns-in_err-others-in-Case-clause-means
statements::plain_of-returns-in_err-others-in-Case-clause-means t c around before flow clear n =
    let spellings = c.args.scopes.now.spellings.now in
    let s : Scopes = scopes_view c.args.scopes.now in
    let g = c.in-Case.guard in
    let e : Expr = expr_in spellings g.value in
    let elements : Elements = elements_in spellings c.in-Case.elements in
    let tail : Others = others_in spellings c.in-Case.others in
    let end = c.in-Case.end in
    let whole : Plain = plain_in spellings c.args.plain.now in
    let is : whole ≡ tree.case g.line e g.behind elements tail end =
    ap (plain_in spellings) c.in-Case.is
    ∙ case_seen spellings g c.in-Case.elements c.in-Case.others end in
    let value : Value = value_view c.in_ok-selector-in-Case.selector in
    let base : Base = base_view c.in_ok-selector-in-Case.base in
    let got = c.get-in-Case-2.result.now in
    let line = c.line_behind.result in
    let labels : List ℕ = labels_in_elements elements in
    let arms = c.in_ok-arms-in-Case.arms in
    let behind : IsFlow s around (before ++ labels) c.arms_of-arms.new.flow =
    before_other s around before labels c.arms_of-arms.new.flow line arms c.arms_of-arms.result
    c.in_ok-arms-in-Case.ensures
    (subst (λ (part : code_elements.Elements). OnOk c.arms_of-arms.result
    (IsFlow s around (before ++ labels_in_elements (elements_in spellings part)) c.arms_of-arms.new.flow))
    c.get-in-Case-2.ensures (c.arms_of-arms.ensures.goes around before flow)) in
    let why = c.in_err-others-in-Case.field-0.0 in
    settles_stop (plain_words n whole) (plain_of s around before whole) (statement_view spellings) why
    c.from_residual-in_err-others-in-Case.result
    (err_from_is_err_and _ c.from_residual-in_err-others-in-Case.ensures.1)
    (subst (λ (p : Plain). ShowsBy (plain_words n p) (plain_of s around before p).marks why) (sym is)
    (case_others_stop s around before n g.line e g.behind elements tail end value base (arms_view spellings arms) why
    (subst (Chooses s (n + 1) spellings value) c.get-in-Case.ensures
    (c.in_ok-selector-in-Case.ensures.means clear (n + 1))) c.in_ok-selector-in-Case.ensures.base
    (subst (ArmsMean s (n + 1) spellings around before base (arms_view spellings arms)) c.get-in-Case-2.ensures
    (found_means (elements_words (n + 1) (elements_in spellings got))
    (arms_of s around before (Some base) (elements_in spellings got)) (arms_view spellings) line arms
    c.arms_of-arms.result c.in_ok-arms-in-Case.ensures
    (c.arms_of-arms.ensures.means around before flow clear (n + 1))))
    (subst (λ (part : code_others.Others). ShowsBefore end (others_words (n + 1) (others_in spellings part))
    (others_of s around (before ++ labels) (others_in spellings part)).marks why) c.get-in-Case-4.ensures
    (c.in_err-others-in-Case.ensures.means around (before ++ labels) behind clear (n + 1)))))

pub statements::plain_of-returns-in_ok-case_of-in-Case-clause-means :
    goal.statements::plain_of-returns-in_ok-case_of-in-Case-clause-means
statements::plain_of-returns-in_ok-case_of-in-Case-clause-means t c around before flow clear n =
    let spellings = c.args.scopes.now.spellings.now in
    let s : Scopes = scopes_view c.args.scopes.now in
    let g = c.in-Case.guard in
    let e : Expr = expr_in spellings g.value in
    let elements : Elements = elements_in spellings c.in-Case.elements in
    let tail : Others = others_in spellings c.in-Case.others in
    let end = c.in-Case.end in
    let whole : Plain = plain_in spellings c.args.plain.now in
    let is : whole ≡ tree.case g.line e g.behind elements tail end =
    ap (plain_in spellings) c.in-Case.is
    ∙ case_seen spellings g c.in-Case.elements c.in-Case.others end in
    let value : Value = value_view c.in_ok-selector-in-Case.selector in
    let base : Base = base_view c.in_ok-selector-in-Case.base in
    let got = c.get-in-Case-2.result.now in
    let line = c.line_behind.result in
    let labels : List ℕ = labels_in_elements elements in
    let arms = c.in_ok-arms-in-Case.arms in
    let behind : IsFlow s around (before ++ labels) c.arms_of-arms.new.flow =
    before_other s around before labels c.arms_of-arms.new.flow line arms c.arms_of-arms.result
    c.in_ok-arms-in-Case.ensures
    (subst (λ (part : code_elements.Elements). OnOk c.arms_of-arms.result
    (IsFlow s around (before ++ labels_in_elements (elements_in spellings part)) c.arms_of-arms.new.flow))
    c.get-in-Case-2.ensures (c.arms_of-arms.ensures.goes around before flow)) in
    let make : Value → Arms → typed.Statement = others_view spellings c.in_ok-others-in-Case.others in
    subst (λ (made : typed.Statement). Means (plain_words n whole) (plain_of s around before whole) made)
    (sym (c.in_ok-case_of-in-Case.ensures spellings))
    (subst (λ (p : Plain). Means (plain_words n p) (plain_of s around before p)
    (make value (arms_view spellings arms))) (sym is)
    (case_means s around before n g.line e g.behind elements tail end value base (arms_view spellings arms) make
    (subst (Chooses s (n + 1) spellings value) c.get-in-Case.ensures
    (c.in_ok-selector-in-Case.ensures.means clear (n + 1))) c.in_ok-selector-in-Case.ensures.base
    (subst (ArmsMean s (n + 1) spellings around before base (arms_view spellings arms)) c.get-in-Case-2.ensures
    (found_means (elements_words (n + 1) (elements_in spellings got))
    (arms_of s around before (Some base) (elements_in spellings got)) (arms_view spellings) line arms
    c.arms_of-arms.result c.in_ok-arms-in-Case.ensures
    (c.arms_of-arms.ensures.means around before flow clear (n + 1))))
    (subst (λ (part : code_others.Others). Means (others_words (n + 1) (others_in spellings part))
    (others_of s around (before ++ labels) (others_in spellings part)) make) c.get-in-Case-4.ensures
    (c.in_ok-others-in-Case.ensures.means around (before ++ labels) behind clear (n + 1)))))

pub statements::plain_of-returns-in_ok-case_of-in-Case-clause-goes :
    goal.statements::plain_of-returns-in_ok-case_of-in-Case-clause-goes
statements::plain_of-returns-in_ok-case_of-in-Case-clause-goes t c around before flow =
    let spellings = c.args.scopes.now.spellings.now in
    let s : Scopes = scopes_view c.args.scopes.now in
    let g = c.in-Case.guard in
    let e : Expr = expr_in spellings g.value in
    let elements : Elements = elements_in spellings c.in-Case.elements in
    let tail : Others = others_in spellings c.in-Case.others in
    let end = c.in-Case.end in
    let whole : Plain = plain_in spellings c.args.plain.now in
    let is : whole ≡ tree.case g.line e g.behind elements tail end =
    ap (plain_in spellings) c.in-Case.is
    ∙ case_seen spellings g c.in-Case.elements c.in-Case.others end in
    let line = c.line_behind.result in
    let labels : List ℕ = labels_in_elements elements in
    let arms = c.in_ok-arms-in-Case.arms in
    let behind : IsFlow s around (before ++ labels) c.arms_of-arms.new.flow =
    before_other s around before labels c.arms_of-arms.new.flow line arms c.arms_of-arms.result
    c.in_ok-arms-in-Case.ensures
    (subst (λ (part : code_elements.Elements). OnOk c.arms_of-arms.result
    (IsFlow s around (before ++ labels_in_elements (elements_in spellings part)) c.arms_of-arms.new.flow))
    c.get-in-Case-2.ensures (c.arms_of-arms.ensures.goes around before flow)) in
    let new = c.others_of.new.flow in
    subst (λ (p : Plain). IsFlow s around (before ++ labels_in p) new) (sym is)
    (regroup s around before new labels (labels_in_others tail)
    (subst (λ (part : code_others.Others). IsFlow s around
    ((before ++ labels) ++ labels_in_others (others_in spellings part)) new) c.get-in-Case-4.ensures
    (c.in_ok-others-in-Case.ensures.goes around (before ++ labels) behind)))
