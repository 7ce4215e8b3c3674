use Rattle.std.proofs.Common.{refl, sym, ap, subst, ◌∙◌, ℕ, suc, ◌+◌, arith, List, [], ◌∷◌, ◌++◌, length, take, drop}
use Rattle.std.specs.Prelude.{nat_le, slice_get}
use Rattle.std.specs.Option.{option_copied}
use Rattle.std.proofs.lemmas.Result.{err_from_is_err_and}
use Rattle.wb_base.specs.declared.faults.TheConstants.{WRONG_TYPE}
use Rattle.pas_tokens.specs.declared.kinds.Kind.TheVariants as k
use Rattle.pas_syntax.specs.declared.tree.Argument.{Argument as CodeArgument}
use Rattle.pas_syntax.specs.declared.tree.Behind.{Behind as CodeBehind}
use Rattle.pas_syntax.specs.Words.{at, name_at}
use Rattle.pas_typed.specs.declared.typed.Passed as code_passed
use Rattle.pas_typed.specs.TypedViews.{passed_views}
use Rattle.pas_scopes.specs.ScopeViews.{scopes_view}
use Rattle.pas_scopes.specs.Stopping.{demanded}
use Rattle.pas_scopes.specs.Answers.{end_in, Means, Settles}
use Rattle.pas_scopes.specs.Arguments.{passing_part}
use Rattle.pas_scopes.proofs.LabelSeen.{taken_more, taken_all}
use Rattle.pas_scopes.proofs.CallAnswers.{settled_is, unsettled_is, variables_of}
use Rattle.pas_scopes.proofs.ExprCalls.{taken_split, taken_count}
use Rattle.pas_types.proofs.ActualLemmas.{argued_behind, behind_argued, first_actual, as_actuals}
use Rattle.pas_scopes.proofs.PassedLemmas.{SoFar, first_stops, begun, more_unsettled, more_stops, one_more}
use Rattle.pas_scopes.proofs.PassedLemmas.{too_few_stop, closing_short, closing_means, stop_settles, fail_settles}
use Rattle.pas_types.proofs.calls.passed_to.Goals as goal

pub returns-in_err-last : goal.returns-in_err-last
returns-in_err-last c clear n name =
    let scopes = scopes_view c.args.scopes.now in
    let spellings = c.args.scopes.now.spellings.now in
    let table = scopes.outer.types in
    let arguments = c.args.arguments.now in
    let parameters = c.args.parameters.now in
    let argued = argued_behind scopes spellings (n + 1) in
    let many = behind_argued scopes spellings (n + 1) in
    let first = first_actual scopes spellings n name arguments in
    let closing = at (n + 1) k.RightParenthesis arguments.closed in
    as_actuals scopes spellings n name arguments
    (λ words givens. Settles words (passing_part table (variables_of spellings table parameters) givens) passed_views
    c.from_residual.result)
    (stop_settles argued many first arguments.items.more (name_at n name) closing spellings table parameters
    c.in_err-last.field-0.0 c.from_residual.result
    (err_from_is_err_and _ c.from_residual.ensures.1)
    (first_stops argued many first arguments.items.more (name_at n name) closing spellings table parameters
    (option_copied c.get.result) c.in_err-last.field-0.0 c.get.ensures.value
    (c.in_err-last.ensures clear (n + 1))))

pub loop-index-init : goal.loop-index-init
loop-index-init c clear n name =
    let scopes = scopes_view c.args.scopes.now in
    let spellings = c.args.scopes.now.spellings.now in
    let table = scopes.outer.types in
    let arguments = c.args.arguments.now in
    let parameters = c.args.parameters.now in
    let argued = argued_behind scopes spellings (n + 1) in
    let many = behind_argued scopes spellings (n + 1) in
    let first = first_actual scopes spellings n name arguments in
    let closing = at (n + 1) k.RightParenthesis arguments.closed in
    subst (λ (passed : List code_passed.Passed). SoFar argued many first arguments.items.more (name_at n name) closing
    spellings table parameters [] passed c.in_ok-last.last) (sym c.new-passed.ensures)
    (begun argued many first arguments.items.more (name_at n name) closing spellings table parameters
    (option_copied c.get.result) c.in_ok-last.last c.get.ensures.value (c.in_ok-last.ensures clear (n + 1)))

pub returns-in_err-before : goal.returns-in_err-before
returns-in_err-before c clear n name =
    let scopes = scopes_view c.args.scopes.now in
    let spellings = c.args.scopes.now.spellings.now in
    let table = scopes.outer.types in
    let arguments = c.args.arguments.now in
    let parameters = c.args.parameters.now in
    let argued = argued_behind scopes spellings (n + 1) in
    let many = behind_argued scopes spellings (n + 1) in
    let first = first_actual scopes spellings n name arguments in
    let closing = at (n + 1) k.RightParenthesis arguments.closed in
    let items = c.as_slice-more-items.result.now in
    let i = c.loop-index.index in
    let so_far = c.loop-index.invariant clear n name in
    as_actuals scopes spellings n name arguments
    (λ words givens. Settles words (passing_part table (variables_of spellings table parameters) givens) passed_views
    c.from_residual-in_err-before.result)
    (stop_settles argued many first arguments.items.more (name_at n name) closing spellings table parameters
    c.in_err-before.field-0.0 c.from_residual-in_err-before.result
    (err_from_is_err_and _ c.from_residual-in_err-before.ensures.1)
    (more_unsettled argued many first arguments.items.more (name_at n name) closing spellings table parameters
    (take i items) c.loop-index.passed c.loop-index.last so_far c.more-item.result (drop (suc i) items)
    c.in_err-before.field-0.0
    (taken_split items arguments.items.more i c.more-item.result c.as_slice-more-items.ensures c.loop-index-test.true
    c.more-item.is) c.in_err-before.ensures))

pub returns-in_err-last-2 : goal.returns-in_err-last-2
returns-in_err-last-2 c clear n name =
    let scopes = scopes_view c.args.scopes.now in
    let spellings = c.args.scopes.now.spellings.now in
    let table = scopes.outer.types in
    let arguments = c.args.arguments.now in
    let parameters = c.args.parameters.now in
    let argued = argued_behind scopes spellings (n + 1) in
    let many = behind_argued scopes spellings (n + 1) in
    let first = first_actual scopes spellings n name arguments in
    let closing = at (n + 1) k.RightParenthesis arguments.closed in
    let items = c.as_slice-more-items.result.now in
    let i = c.loop-index.index in
    let so_far = c.loop-index.invariant clear n name in
    as_actuals scopes spellings n name arguments
    (λ words givens. Settles words (passing_part table (variables_of spellings table parameters) givens) passed_views
    c.from_residual-in_err-last-2.result)
    (stop_settles argued many first arguments.items.more (name_at n name) closing spellings table parameters
    c.in_err-last-2.field-0.0 c.from_residual-in_err-last-2.result
    (err_from_is_err_and _ c.from_residual-in_err-last-2.ensures.1)
    (more_stops argued many first arguments.items.more (name_at n name) closing spellings table parameters
    (take i items) c.loop-index.passed c.loop-index.last so_far c.more-item.result c.in_ok-before.field-0
    c.in_ok-before.ensures (option_copied c.get-in-loop-index.result)
    (c.get-in-loop-index.ensures.value ∙ ap (λ (m : ℕ). slice_get parameters (m + 1))
    (sym (taken_count items i (omega (arith, c.loop-index-test.true)))))
    (drop (suc i) items) c.in_err-last-2.field-0.0
    (taken_split items arguments.items.more i c.more-item.result c.as_slice-more-items.ensures c.loop-index-test.true
    c.more-item.is) (c.in_err-last-2.ensures clear (n + 1))))

pub loop-index-preserved : goal.loop-index-preserved
loop-index-preserved c clear n name =
    let scopes = scopes_view c.args.scopes.now in
    let spellings = c.args.scopes.now.spellings.now in
    let table = scopes.outer.types in
    let arguments = c.args.arguments.now in
    let parameters = c.args.parameters.now in
    let argued = argued_behind scopes spellings (n + 1) in
    let many = behind_argued scopes spellings (n + 1) in
    let first = first_actual scopes spellings n name arguments in
    let closing = at (n + 1) k.RightParenthesis arguments.closed in
    let items = c.as_slice-more-items.result.now in
    let i = c.loop-index.index in
    let so_far = c.loop-index.invariant clear n name in
    subst (λ (done : List (CodeBehind CodeArgument)). SoFar argued many first arguments.items.more (name_at n name)
    closing spellings table parameters done c.push.new.self c.in_ok-last-2.last)
    (sym (taken_more items i c.more-item.result c.loop-index-test.true c.more-item.is))
    (subst (λ (passed : List code_passed.Passed). SoFar argued many first arguments.items.more (name_at n name)
    closing spellings table parameters (take i items ++ c.more-item.result ∷ []) passed
    c.in_ok-last-2.last) (sym c.in_ok-push.ensures.ok)
    (one_more argued many first arguments.items.more (name_at n name) closing spellings table parameters
    (take i items) c.loop-index.passed c.loop-index.last so_far c.more-item.result c.in_ok-before.field-0
    c.in_ok-before.ensures (option_copied c.get-in-loop-index.result)
    (c.get-in-loop-index.ensures.value ∙ ap (λ (m : ℕ). slice_get parameters (m + 1))
    (sym (taken_count items i (omega (arith, c.loop-index-test.true))))) c.in_ok-last-2.last
    (c.in_ok-last-2.ensures clear (n + 1))))

pub returns-in_err-before-2 : goal.returns-in_err-before-2
returns-in_err-before-2 c clear n name =
    let scopes = scopes_view c.args.scopes.now in
    let spellings = c.args.scopes.now.spellings.now in
    let table = scopes.outer.types in
    let arguments = c.args.arguments.now in
    let parameters = c.args.parameters.now in
    let argued = argued_behind scopes spellings (n + 1) in
    let many = behind_argued scopes spellings (n + 1) in
    let first = first_actual scopes spellings n name arguments in
    let closing = at (n + 1) k.RightParenthesis arguments.closed in
    let items = c.as_slice-more-items.result.now in
    let i = c.loop-index.index in
    let so_far = c.loop-index.invariant clear n name in
    let end = end_in c.loop-index.last.end in
    let short = unsettled_is end.line arguments.closed end.refusal end.is_short c.loop-index.last.value
    c.in_err-before-2.field-0.0 so_far.lawful c.in_err-before-2.ensures in
    as_actuals scopes spellings n name arguments
    (λ words givens. Settles words (passing_part table (variables_of spellings table parameters) givens) passed_views
    c.from_residual-in_err-before-2.result)
    (fail_settles argued many first arguments.items.more (name_at n name) closing spellings table parameters
    c.in_err-before-2.field-0.0 c.from_residual-in_err-before-2.result
    (err_from_is_err_and _ c.from_residual-in_err-before-2.ensures.1) short.1
    (closing_short argued many first arguments.items.more (name_at n name) closing spellings table parameters
    c.loop-index.passed (c.loop-index.passed ++ c.loop-index.last.value ∷ []) c.loop-index.last
    (subst (λ (done : List (CodeBehind CodeArgument)). SoFar argued many first arguments.items.more (name_at n name)
    closing
    spellings table parameters done c.loop-index.passed c.loop-index.last)
    (taken_all items i c.loop-index-test.false ∙ c.as_slice-more-items.ensures) so_far) refl short.0))

pub returns-in_err-demand : goal.returns-in_err-demand
returns-in_err-demand c clear n name =
    let scopes = scopes_view c.args.scopes.now in
    let spellings = c.args.scopes.now.spellings.now in
    let table = scopes.outer.types in
    let arguments = c.args.arguments.now in
    let parameters = c.args.parameters.now in
    let argued = argued_behind scopes spellings (n + 1) in
    let many = behind_argued scopes spellings (n + 1) in
    let first = first_actual scopes spellings n name arguments in
    let closing = at (n + 1) k.RightParenthesis arguments.closed in
    let items = c.as_slice-more-items.result.now in
    let i = c.loop-index.index in
    let so_far = c.loop-index.invariant clear n name in
    let end = end_in c.loop-index.last.end in
    let whole = settled_is end.line arguments.closed end.refusal end.is_short c.loop-index.last.value
    c.in_ok-before-2.field-0 so_far.lawful c.in_ok-before-2.ensures in
    as_actuals scopes spellings n name arguments
    (λ words givens. Settles words (passing_part table (variables_of spellings table parameters) givens) passed_views
    c.from_residual-in_err-demand.result)
    (stop_settles argued many first arguments.items.more (name_at n name) closing spellings table parameters
    c.in_err-demand.field-0.0 c.from_residual-in_err-demand.result
    (err_from_is_err_and _ c.from_residual-in_err-demand.ensures.1)
    (too_few_stop argued many first arguments.items.more (name_at n name) closing spellings table parameters
    c.loop-index.passed c.push-2.new.self c.loop-index.last
    (subst (λ (done : List (CodeBehind CodeArgument)). SoFar argued many first arguments.items.more (name_at n name)
    closing
    spellings table parameters done c.loop-index.passed c.loop-index.last)
    (taken_all items i c.loop-index-test.false ∙ c.as_slice-more-items.ensures) so_far)
    (c.in_ok-push-2.ensures.ok ∙ ap (λ found. c.loop-index.passed ++ found ∷ []) whole.0) c.in_err-demand.field-0.0
    (c.in_err-demand.ensures
    ∙ ap (λ (m : ℕ). demanded (nat_le m c.len-2.result) WRONG_TYPE arguments.closed) c.len.ensures
    ∙ ap (λ (m : ℕ). demanded (nat_le (length parameters) m) WRONG_TYPE arguments.closed) c.len-2.ensures)))

pub returns : goal.returns
returns c clear n name =
    let scopes = scopes_view c.args.scopes.now in
    let spellings = c.args.scopes.now.spellings.now in
    let table = scopes.outer.types in
    let arguments = c.args.arguments.now in
    let parameters = c.args.parameters.now in
    let argued = argued_behind scopes spellings (n + 1) in
    let many = behind_argued scopes spellings (n + 1) in
    let first = first_actual scopes spellings n name arguments in
    let closing = at (n + 1) k.RightParenthesis arguments.closed in
    let items = c.as_slice-more-items.result.now in
    let i = c.loop-index.index in
    let so_far = c.loop-index.invariant clear n name in
    let end = end_in c.loop-index.last.end in
    let whole = settled_is end.line arguments.closed end.refusal end.is_short c.loop-index.last.value
    c.in_ok-before-2.field-0 so_far.lawful c.in_ok-before-2.ensures in
    as_actuals scopes spellings n name arguments
    (λ words givens. Means words (passing_part table (variables_of spellings table parameters) givens)
    (passed_views c.push-2.new.self))
    (closing_means argued many first arguments.items.more (name_at n name) closing spellings table parameters
    c.loop-index.passed c.push-2.new.self c.loop-index.last
    (subst (λ (done : List (CodeBehind CodeArgument)). SoFar argued many first arguments.items.more (name_at n name)
    closing
    spellings table parameters done c.loop-index.passed c.loop-index.last)
    (taken_all items i c.loop-index-test.false ∙ c.as_slice-more-items.ensures) so_far)
    (c.in_ok-push-2.ensures.ok ∙ ap (λ found. c.loop-index.passed ++ found ∷ []) whole.0) whole.1
    (c.in_ok-demand.ensures
    ∙ ap (λ (m : ℕ). demanded (nat_le m c.len-2.result) WRONG_TYPE arguments.closed) c.len.ensures
    ∙ ap (λ (m : ℕ). demanded (nat_le (length parameters) m) WRONG_TYPE arguments.closed) c.len-2.ensures))
