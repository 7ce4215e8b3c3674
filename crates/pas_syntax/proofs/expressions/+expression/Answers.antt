use Rattle.std.proofs.Common.{◌≡◌, ◌∙◌, refl, sym, ap, subst, arith, ℕ, suc, Ok, ◌+◌, ◌-◌, ◌≤◌, max, List}
use Rattle.std.proofs.Common.{length, map}
use Rattle.std.proofs.lemmas.Result.{err_from_is_err_and}
use Rattle.pas_syntax.specs.declared.limits.TheConstants.{NESTING_LIMIT}
use Rattle.pas_syntax.specs.Tree as tree
use Rattle.pas_syntax.specs.Words.{depth_of, sum_depth, term_depth, factor_depth, variable_depth, exprs_depth}
use Rattle.pas_syntax.specs.Views.{in_turn, lined_in, ident_in, expr_in, sum_in, term_in, factor_in, variable_in}
use Rattle.pas_syntax.specs.Views.{selector_in, exprs_in, more_expr_in}
use Rattle.pas_syntax.specs.inner.Prog.{done, turns, look, bind, head, run}
use Rattle.pas_syntax.specs.inner.StatementReaders.{numeral}
use Rattle.pas_syntax.specs.declared.tree.Factor.TheVariants as code
use Rattle.pas_syntax.specs.declared.tree.Selector.TheVariants as code_selector
use Rattle.pas_syntax.specs.Views.{quoted_in}
use Rattle.pas_syntax.specs.inner.Deeps.{of_deep, HasDepth, BeginsSelector}
use Rattle.pas_syntax.specs.inner.Readers.{factor, expr, exprs, variable, behind_sum, sum_by, term_by, behind_term}
use Rattle.pas_syntax.specs.inner.Readers.{behind_factor, behind_expr, behind_variable, behind_name}
use Rattle.pas_syntax.specs.inner.Readers.{exprs_by, variable_by, right_bracket_at}
use Rattle.pas_syntax.specs.inner.Readers.{right_parenthesis_at, ident, quoted}
use Rattle.pas_syntax.proofs.PlaceLemmas.{returned, stops, goes_on, goes_as, answers, skips, line_of_head}
use Rattle.pas_syntax.proofs.PlaceLemmas.{kept_no_memory, any_turns, refuses, with_more, ident_further}
use Rattle.pas_syntax.proofs.PlaceLemmas.{seen_as, still_stops}
use Rattle.pas_syntax.proofs.DeepLemmas.{too_deep, within, made_as, at_depth, one_more, deeper, made_depth}
use Rattle.pas_syntax.proofs.DeepLemmas.{one_sign, no_depth, most_deep, swap_deep, more_selected}
use Rattle.pas_syntax.proofs.SoFar.{SoFar, begun, begun_behind, turned, turn_stops, loop_ends}
use Rattle.pas_syntax.proofs.ExprViews.{sum_view, first_term_view, signed_term_view, first_factor_view}
use Rattle.pas_syntax.proofs.ExprViews.{literal_view, text_view, parenthesized_view, negated_view, variable_view}
use Rattle.pas_syntax.proofs.ExprViews.{call_view, indexes_view, field_view, buffer_view, function_call_view}
use Rattle.pas_syntax.proofs.ExprViews.{selected_view, exprs_view, more_expr_view, pushed_in_turn}
use Rattle.pas_syntax.proofs.ExprSteps.{lined, sum_goes, sum_ends, term_goes, in_goes, terms_end, factor_goes}
use Rattle.pas_syntax.proofs.ExprSteps.{slash_goes, factors_end, sign_goes, no_sign, literal_goes, text_goes}
use Rattle.pas_syntax.proofs.ExprSteps.{parenthesis_goes, not_goes, bracket_goes, nil_goes, name_goes, call_goes}
use Rattle.pas_syntax.proofs.ExprSteps.{no_call, exprs_end, variable_ends, comma_goes, indexes_goes, field_goes}
use Rattle.pas_syntax.proofs.ExprSteps.{buffer_goes, caret_of, factor_takes, plain_expr, parenthesis_read}
use Rattle.pas_syntax.proofs.ExprSteps.{bracket_read}
use Rattle.pas_syntax.proofs.expressions.+expression.Goals as goal

pub expr-returns-in_err-left-clause-value : goal.expr-returns-in_err-left-clause-value
unfolding expr
expr-returns-in_err-left-clause-value t c =
    let n = c.args.depth.forms in
    let a = c.args.depth.operators in
    returned (err_from_is_err_and _ c.from_residual.ensures.1)
    (stops (λ m left. look (behind_sum (factor m) m n a left)) c.in_err-left.ensures.value)

pub expr-returns-in_err-inner-in-Some-clause-value : goal.expr-returns-in_err-inner-in-Some-clause-value
unfolding expr
expr-returns-in_err-inner-in-Some-clause-value t c =
    let n = c.args.depth.forms in
    let a = c.args.depth.operators in
    let left = sum_in c.args.reader.now.spellings c.in_ok-left.left.tree in
    returned (err_from_is_err_and _ c.from_residual-in_err-inner-in-Some.ensures.1)
    (goes_on (λ m left. look (behind_sum (factor m) m n a left)) c.in_ok-left.ensures.value
    (goes_as (λ m. sum_goes (factor m) m n a left c.in-Some.relation c.sum.new.reader.tokens _
    (sym c.in-Some.ensures.some ∙ c.kind.ensures.kind) c.kind.ensures.fits refl)
    (too_deep _ (a + 1 + sum_depth left) c.in_err-inner-in-Some.ensures.err
    (ap (λ d. a + 1 + d) c.in_ok-left.ensures.depth.same))))

pub expr-returns-in_err-right-in-Some-clause-value : goal.expr-returns-in_err-right-in-Some-clause-value
unfolding expr
expr-returns-in_err-right-in-Some-clause-value t c =
    let n = c.args.depth.forms in
    let a = c.args.depth.operators in
    let left = sum_in c.args.reader.now.spellings c.in_ok-left.left.tree in
    let inner = c.in_ok-inner-in-Some.ensures.ok in
    let line = c.lined-relation.result.line in
    returned (err_from_is_err_and _ c.from_residual-in_err-right-in-Some.ensures.1)
    (goes_on (λ m left. look (behind_sum (factor m) m n a left)) c.in_ok-left.ensures.value
    (goes_as (λ m. sum_goes (factor m) m n a left c.in-Some.relation c.sum.new.reader.tokens line
    (sym c.in-Some.ensures.some ∙ c.kind.ensures.kind) c.kind.ensures.fits
    (line_of_head c.lined-relation.ensures.passes))
    (within _ (a + 1 + sum_depth left) inner.fits (ap (λ d. a + 1 + d) c.in_ok-left.ensures.depth.same)
    (skips c.lined-relation.ensures.passes (omega arith)
    (stops (λ m right. done (tree.relation left (lined c.in-Some.relation line) right))
    (at_depth (λ m. sum_by (factor m) m) inner.inner_is c.in_err-right-in-Some.ensures.value))))))

pub expr-returns-in_ok-right-in-Some-clause-value : goal.expr-returns-in_ok-right-in-Some-clause-value
unfolding expr
expr-returns-in_ok-right-in-Some-clause-value t c =
    let n = c.args.depth.forms in
    let a = c.args.depth.operators in
    let s = c.args.reader.now.spellings in
    let left = c.in_ok-left.left.tree in
    let right = c.in_ok-right-in-Some.right.tree in
    let op = c.lined-relation.result in
    let inner = c.in_ok-inner-in-Some.ensures.ok in
    let passed = c.lined-relation.ensures.passes in
    let read = c.in_ok-right-in-Some.ensures.value in
    let before = passed.spellings ∙ c.in_ok-left.ensures.value.spellings in
    let e1 = sym read.spellings in
    let e0 = sym before ∙ e1 in
    let e2 = sym c.lined-relation.ensures.item in
    goes_on (λ m left. look (behind_sum (factor m) m n a left)) c.in_ok-left.ensures.value
    (goes_as (λ m. sum_goes (factor m) m n a (sum_in s left) c.in-Some.relation c.sum.new.reader.tokens op.line
    (sym c.in-Some.ensures.some ∙ c.kind.ensures.kind) c.kind.ensures.fits (line_of_head passed))
    (within _ (a + 1 + sum_depth (sum_in s left)) inner.fits (ap (λ d. a + 1 + d) c.in_ok-left.ensures.depth.same)
    (skips passed (omega arith)
    (goes_on (λ m right. done (tree.relation (sum_in s left) (lined c.in-Some.relation op.line) right))
    (at_depth (λ m. sum_by (factor m) m) inner.inner_is read)
    (made_as (λ s. tree.relation (sum_in s left) (lined_in op) (sum_in s right)) _ c.related.ensures.made
    (λ i. tree.relation (sum_in (e0 i) left) (lined (e2 i) op.line) (sum_in (e1 i)
    right)))))))

pub expr-returns-in_ok-right-in-Some-clause-depth : goal.expr-returns-in_ok-right-in-Some-clause-depth
expr-returns-in_ok-right-in-Some-clause-depth t c =
    let s = c.args.reader.now.spellings in
    let left = c.in_ok-left.left.tree in
    let right = c.in_ok-right-in-Some.right.tree in
    let op = c.lined-relation.result in
    let inner = c.in_ok-inner-in-Some.ensures.ok in
    let before = c.lined-relation.ensures.passes.spellings ∙ c.in_ok-left.ensures.value.spellings in
    made_depth expr_in (λ s. tree.relation (sum_in s left) (lined_in op) (sum_in s right)) depth_of
    c.args.depth.operators _ s
    c.related.result c.related.ensures.made c.related.ensures.depth
    (one_more c.in_ok-left.ensures.depth
    (deeper (λ s. sum_depth (sum_in s right)) (ap (λ d. d.operators) inner.inner_is) before
    c.in_ok-right-in-Some.ensures.depth) inner.fits)

pub expr-returns-in-None-clause-value : goal.expr-returns-in-None-clause-value
unfolding expr
expr-returns-in-None-clause-value t c =
    let n = c.args.depth.forms in
    let a = c.args.depth.operators in
    let s = c.args.reader.now.spellings in
    let left = c.in_ok-left.left.tree in
    let ts = c.sum.new.reader.tokens in
    goes_on (λ m left. look (behind_sum (factor m) m n a left)) c.in_ok-left.ensures.value
    (goes_as (λ m. ap (λ q. run q ts) (sum_ends (factor m) m n a (sum_in s left) (head ts).kind (head ts).payload
    (head ts).line (λ op e. c.in-None.ensures.none refl op (c.kind.ensures.kind ∙ e))))
    (answers (ap (λ s. tree.sum (sum_in s left)) (sym c.in_ok-left.ensures.value.spellings)
    ∙ sym (sum_view c.sum.new.reader.spellings left))))

pub exprs-returns-in_err-first-clause-value : goal.exprs-returns-in_err-first-clause-value
unfolding exprs
exprs-returns-in_err-first-clause-value t c =
    let n = c.args.depth.forms in
    let a = c.args.depth.operators in
    returned (err_from_is_err_and _ c.from_residual.ensures.1)
    (stops (λ m first. turns (behind_expr (factor m) m n a) m (tree.first_expr first))
    (plain_expr n a c.in_err-first.ensures.value))

pub exprs-more-init : goal.exprs-more-init
unfolding exprs
exprs-more-init t c =
    let s = c.args.reader.now.spellings in
    let first = c.in_ok-first.first.tree in
    let same : tree.first_expr (expr_in s first) ≡ in_turn (tree.first_expr (expr_in s first))
    (map (more_expr_in s) c.new-more.result) =
    ap (λ xs. in_turn (tree.first_expr (expr_in s first)) (map (more_expr_in s) xs)) (sym c.new-more.ensures) in
    record {
      so_far = subst (λ found. SoFar (λ m. exprs_by (factor m) m c.args.depth.forms c.args.depth.operators)
          (λ m. behind_expr (factor m) m c.args.depth.forms c.args.depth.operators) c.args.reader.now
          c.expr.new.reader found) same (begun_behind tree.first_expr
          (plain_expr c.args.depth.forms c.args.depth.operators c.in_ok-first.ensures.value));
      depth = subst (λ found. HasDepth c.args.depth.operators c.in_ok-first.first.depth (exprs_depth found)) same
          c.in_ok-first.ensures.depth;
    }

pub exprs-returns-in_err-found-in-Comma-clause-value : goal.exprs-returns-in_err-found-in-Comma-clause-value
exprs-returns-in_err-found-in-Comma-clause-value t c =
    let n = c.args.depth.forms in
    let a = c.args.depth.operators in
    let s = c.args.reader.now.spellings in
    let others = in_turn (tree.first_expr (expr_in s c.in_ok-first.first.tree)) (map (more_expr_in s) c.more.more) in
    let line = c.pass-line.result in
    returned (err_from_is_err_and _ c.from_residual-in_err-found-in-Comma.ensures.1)
    (turn_stops {view = of_deep (λ s e. tree.more_exprs others line (expr_in s e))} c.more.invariant.so_far
    (goes_as (λ m. comma_goes (factor m) m n a others c.more.reader.tokens line c.in-Comma.ensures.kind
    c.in-Comma.ensures.fits (line_of_head c.pass-line.ensures))
    (skips c.pass-line.ensures (omega arith)
    (stops (λ m e. done (tree.more_exprs others line e)) (plain_expr n a c.in_err-found-in-Comma.ensures.value)))))

pub exprs-more-preserved : goal.exprs-more-preserved
exprs-more-preserved t c =
    let n = c.args.depth.forms in
    let a = c.args.depth.operators in
    let s = c.args.reader.now.spellings in
    let first = tree.first_expr (expr_in s c.in_ok-first.first.tree) in
    let others = in_turn first (map (more_expr_in s) c.more.more) in
    let line = c.pass-line.result in
    let found = c.in_ok-found-in-Comma.found.tree in
    let read = c.in_ok-found-in-Comma.ensures.value in
    let passed = c.pass-line.ensures in
    let before = passed.spellings ∙ c.more.invariant.so_far.spellings in
    let one : in_turn first (map (more_expr_in s) c.push.new.self) ≡ tree.more_exprs others line (expr_in s found) =
    pushed_in_turn first (more_expr_in s) c.more.more _ _ c.in_ok-push-in-Comma.ensures.ok
    ∙ ap (λ f. f others) (more_expr_view s (record { line = line; value = found })) in
    let count : length c.more.reader.tokens ≡ suc (length c.pass-line.new.self.tokens) = ap length passed.tokens in
    record {
      so_far = subst (λ found. SoFar (λ m. exprs m n a) (λ m. behind_expr (factor m) m n a) c.args.reader.now
          c.expr-in-Comma.new.reader found) (sym one)
          (turned {view = λ s e. tree.more_exprs others line (expr_in s e)} {x = found} c.more.invariant.so_far
          (goes_as (λ m. comma_goes (factor m) m n a others c.more.reader.tokens line c.in-Comma.ensures.kind
          c.in-Comma.ensures.fits (line_of_head passed))
          (skips passed (omega arith)
          (goes_on (λ m e. done (tree.more_exprs others line e)) (plain_expr n a read)
          (answers (ap (λ s. tree.more_exprs others line (expr_in s found)) (sym read.spellings))))))
          (omega (arith, count, read.shorter)));
      depth = subst (λ found. HasDepth a c.max-deepest.result (exprs_depth found)) (sym one)
          (swap_deep _ _ c.max-deepest.ensures (most_deep c.more.invariant.depth
          (deeper (λ s. depth_of (expr_in s found)) refl before c.in_ok-found-in-Comma.ensures.depth)));
    }

pub exprs-returns-in_default : goal.exprs-returns-in_default
exprs-returns-in_default t c =
    let n = c.args.depth.forms in
    let a = c.args.depth.operators in
    let s = c.args.reader.now.spellings in
    let first = tree.first_expr (expr_in s c.in_ok-first.first.tree) in
    let others = in_turn first (map (more_expr_in s) c.more.more) in
    let same : others ≡ exprs_in s _ =
    sym (exprs_view s (record { first = c.in_ok-first.first.tree; more = c.more.more })) in
    record {
      value = loop_ends c.more.invariant.so_far
          (λ m. exprs_end (factor m) m n a others _ _ _ (λ e. c.in_default.not-Comma (c.kind.ensures.kind ∙ sym e)))
          same;
      depth = subst (λ found. HasDepth a c.more.deepest (exprs_depth found)) same c.more.invariant.depth;
    }

pub factor-returns-in_err-inner-in-LeftParenthesis-clause-value :
    goal.factor-returns-in_err-inner-in-LeftParenthesis-clause-value
factor-returns-in_err-inner-in-LeftParenthesis-clause-value t c =
    let n = c.args.depth.forms in
    let a = c.args.depth.operators in
    returned (err_from_is_err_and _ c.from_residual-in_err-inner-in-LeftParenthesis.ensures.1)
    (factor_takes n a
    (goes_as (λ m. parenthesis_goes (factor m) m n a c.args.reader.now.tokens _ c.in-LeftParenthesis.ensures.kind
    c.in-LeftParenthesis.ensures.fits refl)
    (too_deep _ (n + 1) c.in_err-inner-in-LeftParenthesis.ensures.err refl)))

pub factor-returns-in_err-value-in-LeftParenthesis-clause-value :
    goal.factor-returns-in_err-value-in-LeftParenthesis-clause-value
unfolding expr
factor-returns-in_err-value-in-LeftParenthesis-clause-value t c =
    let n = c.args.depth.forms in
    let a = c.args.depth.operators in
    let inner = c.in_ok-inner-in-LeftParenthesis.ensures.ok in
    let line = c.pass-opened.result in
    returned (err_from_is_err_and _ c.from_residual-in_err-value-in-LeftParenthesis.ensures.1)
    (factor_takes n a
    (goes_as (λ m. parenthesis_goes (factor m) m n a c.args.reader.now.tokens line c.in-LeftParenthesis.ensures.kind
    c.in-LeftParenthesis.ensures.fits (line_of_head c.pass-opened.ensures))
    (within _ (n + 1) inner.fits refl
    (skips c.pass-opened.ensures (omega arith)
    (stops (λ m e. bind (look right_parenthesis_at) (λ closed. done (tree.parenthesized line e closed)))
    (at_depth expr inner.inner_is c.in_err-value-in-LeftParenthesis.ensures.value))))))

pub factor-returns-in_err-closed-in-LeftParenthesis-clause-value :
    goal.factor-returns-in_err-closed-in-LeftParenthesis-clause-value
unfolding expr
factor-returns-in_err-closed-in-LeftParenthesis-clause-value t c =
    let n = c.args.depth.forms in
    let a = c.args.depth.operators in
    let inner = c.in_ok-inner-in-LeftParenthesis.ensures.ok in
    let line = c.pass-opened.result in
    returned (err_from_is_err_and _ c.from_residual-in_err-closed-in-LeftParenthesis.ensures.1)
    (factor_takes n a
    (goes_as (λ m. parenthesis_goes (factor m) m n a c.args.reader.now.tokens line c.in-LeftParenthesis.ensures.kind
    c.in-LeftParenthesis.ensures.fits (line_of_head c.pass-opened.ensures))
    (within _ (n + 1) inner.fits refl
    (skips c.pass-opened.ensures (omega arith)
    (goes_on (λ m e. bind (look right_parenthesis_at) (λ closed. done (tree.parenthesized line e closed)))
    (at_depth expr inner.inner_is c.in_ok-value-in-LeftParenthesis.ensures.value)
    (stops (λ m closed. done (tree.parenthesized line (expr_in c.pass-opened.new.self.spellings
    c.in_ok-value-in-LeftParenthesis.value.tree) closed))
    (parenthesis_read c.in_err-closed-in-LeftParenthesis.ensures)))))))

pub factor-returns-in_err-inner-in-Not-clause-value : goal.factor-returns-in_err-inner-in-Not-clause-value
factor-returns-in_err-inner-in-Not-clause-value t c =
    let n = c.args.depth.forms in
    let a = c.args.depth.operators in
    returned (err_from_is_err_and _ c.from_residual-in_err-inner-in-Not.ensures.1)
    (factor_takes n a
    (goes_as (λ m. not_goes (factor m) m n a c.args.reader.now.tokens _ c.in-Not.ensures.kind
    c.in-Not.ensures.fits refl)
    (too_deep _ (a + 1) c.in_err-inner-in-Not.ensures.err (omega arith))))

pub factor-returns-in_err-operand-in-Not-clause-value : goal.factor-returns-in_err-operand-in-Not-clause-value
factor-returns-in_err-operand-in-Not-clause-value t c =
    let n = c.args.depth.forms in
    let a = c.args.depth.operators in
    let inner = c.in_ok-inner-in-Not.ensures.ok in
    let line = c.pass-line.result in
    let plus : a + 1 + 0 ≡ a + 1 = omega arith in
    returned (err_from_is_err_and _ c.from_residual-in_err-operand-in-Not.ensures.1)
    (factor_takes n a
    (goes_as (λ m. not_goes (factor m) m n a c.args.reader.now.tokens line c.in-Not.ensures.kind c.in-Not.ensures.fits
    (line_of_head c.pass-line.ensures))
    (within _ (a + 1) inner.fits plus
    (skips c.pass-line.ensures (omega arith)
    (stops (λ m f. done (tree.negated line f))
    (at_depth factor inner.inner_is c.in_err-operand-in-Not.ensures.value))))))

pub factor-returns-in_ok-numeral-in-Number-clause-value : goal.factor-returns-in_ok-numeral-in-Number-clause-value
factor-returns-in_ok-numeral-in-Number-clause-value t c =
    let n = c.args.depth.forms in
    let a = c.args.depth.operators in
    let found = c.in_ok-numeral-in-Number.field-0 in
    factor_takes n a
    (goes_as (λ m. literal_goes (factor m) m n a c.args.reader.now.tokens c.in-Number.ensures.kind)
    (goes_on (λ m found. done (tree.literal found)) (any_turns numeral c.in_ok-numeral-in-Number.ensures)
    (answers (sym (ap (λ d. factor_in c.numeral.new.self.spellings d.tree) c.shallow.ensures
    ∙ literal_view c.numeral.new.self.spellings found)))))

pub factor-returns-in_ok-quoted-in-Text-clause-value : goal.factor-returns-in_ok-quoted-in-Text-clause-value
factor-returns-in_ok-quoted-in-Text-clause-value t c =
    let n = c.args.depth.forms in
    let a = c.args.depth.operators in
    let found = c.in_ok-quoted-in-Text.field-0 in
    let read = c.in_ok-quoted-in-Text.ensures in
    factor_takes n a
    (goes_as (λ m. text_goes (factor m) m n a c.args.reader.now.tokens c.in-Text.ensures.kind)
    (goes_on (λ m found. done (tree.literal_text found)) (any_turns quoted read)
    (answers (ap (λ s. tree.literal_text (quoted_in s found)) (sym read.spellings)
    ∙ sym (ap (λ d. factor_in c.quoted.new.self.spellings d.tree) c.shallow-in-Text.ensures
    ∙ text_view c.quoted.new.self.spellings found)))))

pub factor-returns-in_ok-new-in-LeftParenthesis-clause-value :
    goal.factor-returns-in_ok-new-in-LeftParenthesis-clause-value
unfolding expr
factor-returns-in_ok-new-in-LeftParenthesis-clause-value t c =
    let n = c.args.depth.forms in
    let a = c.args.depth.operators in
    let inner = c.in_ok-inner-in-LeftParenthesis.ensures.ok in
    let line = c.pass-opened.result in
    let found = c.in_ok-value-in-LeftParenthesis.value.tree in
    let closed = c.in_ok-closed-in-LeftParenthesis.closed in
    let read = c.in_ok-value-in-LeftParenthesis.ensures.value in
    let taken = c.in_ok-closed-in-LeftParenthesis.ensures in
    let end = c.take.new.self.spellings in
    factor_takes n a
    (goes_as (λ m. parenthesis_goes (factor m) m n a c.args.reader.now.tokens line c.in-LeftParenthesis.ensures.kind
    c.in-LeftParenthesis.ensures.fits (line_of_head c.pass-opened.ensures))
    (within _ (n + 1) inner.fits refl
    (skips c.pass-opened.ensures (omega arith)
    (goes_on (λ m e. bind (look right_parenthesis_at) (λ closed. done (tree.parenthesized line e closed)))
    (at_depth expr inner.inner_is read)
    (goes_on (λ m closed. done (tree.parenthesized line (expr_in c.pass-opened.new.self.spellings found) closed))
    (parenthesis_read taken)
    (answers (ap (λ s. tree.parenthesized line (expr_in s found) closed) (sym (taken.spellings ∙ read.spellings))
    ∙ sym (ap (λ e. factor_in end (code.Parenthesized line e closed)) c.in_ok-new-in-LeftParenthesis.ensures
    ∙ parenthesized_view end line found closed))))))))

pub factor-returns-in_ok-new-in-LeftParenthesis-clause-depth :
    goal.factor-returns-in_ok-new-in-LeftParenthesis-clause-depth
factor-returns-in_ok-new-in-LeftParenthesis-clause-depth t c =
    let s = c.args.reader.now.spellings in
    let line = c.pass-opened.result in
    let found = c.in_ok-value-in-LeftParenthesis.value.tree in
    let closed = c.in_ok-closed-in-LeftParenthesis.closed in
    subst (λ f. HasDepth c.args.depth.operators c.in_ok-value-in-LeftParenthesis.value.depth (factor_depth f))
    (sym (ap (λ e. factor_in s (code.Parenthesized line e closed)) c.in_ok-new-in-LeftParenthesis.ensures
    ∙ parenthesized_view s line found closed))
    (deeper (λ s. depth_of (expr_in s found))
    (ap (λ d. d.operators) c.in_ok-inner-in-LeftParenthesis.ensures.ok.inner_is)
    c.pass-opened.ensures.spellings c.in_ok-value-in-LeftParenthesis.ensures.depth)

pub factor-returns-in_ok-new-in-Not-clause-value : goal.factor-returns-in_ok-new-in-Not-clause-value
factor-returns-in_ok-new-in-Not-clause-value t c =
    let n = c.args.depth.forms in
    let a = c.args.depth.operators in
    let inner = c.in_ok-inner-in-Not.ensures.ok in
    let line = c.pass-line.result in
    let found = c.in_ok-operand-in-Not.operand.tree in
    let read = c.in_ok-operand-in-Not.ensures.value in
    let end = c.factor.new.reader.spellings in
    let plus : a + 1 + 0 ≡ a + 1 = omega arith in
    factor_takes n a
    (goes_as (λ m. not_goes (factor m) m n a c.args.reader.now.tokens line c.in-Not.ensures.kind c.in-Not.ensures.fits
    (line_of_head c.pass-line.ensures))
    (within _ (a + 1) inner.fits plus
    (skips c.pass-line.ensures (omega arith)
    (goes_on (λ m f. done (tree.negated line f)) (at_depth factor inner.inner_is read)
    (answers (ap (λ s. tree.negated line (factor_in s found)) (sym read.spellings)
    ∙ sym (ap (λ f. factor_in end (code.Negated line f)) c.in_ok-new-in-Not.ensures
    ∙ negated_view end line found)))))))

pub factor-returns-in_ok-new-in-Not-clause-depth : goal.factor-returns-in_ok-new-in-Not-clause-depth
factor-returns-in_ok-new-in-Not-clause-depth t c =
    let s = c.args.reader.now.spellings in
    let line = c.pass-line.result in
    let found = c.in_ok-operand-in-Not.operand.tree in
    let inner = c.in_ok-inner-in-Not.ensures.ok in
    subst (λ f. HasDepth c.args.depth.operators (c.in_ok-operand-in-Not.operand.depth + 1) (factor_depth f))
    (sym (ap (λ f. factor_in s (code.Negated line f)) c.in_ok-new-in-Not.ensures ∙ negated_view s line found))
    (one_sign (deeper (λ s. factor_depth (factor_in s found)) (ap (λ d. d.operators) inner.inner_is)
    c.pass-line.ensures.spellings c.in_ok-operand-in-Not.ensures.depth) inner.fits)

pub factor-returns-in-LeftBracket-clause-value : goal.factor-returns-in-LeftBracket-clause-value
factor-returns-in-LeftBracket-clause-value t c =
    let n = c.args.depth.forms in
    let a = c.args.depth.operators in
    factor_takes n a
    (goes_as (λ m. bracket_goes (factor m) m n a c.args.reader.now.tokens c.in-LeftBracket.ensures.kind
    c.in-LeftBracket.ensures.fits) (refuses refl))

pub factor-returns-in-Nil-clause-value : goal.factor-returns-in-Nil-clause-value
factor-returns-in-Nil-clause-value t c =
    let n = c.args.depth.forms in
    let a = c.args.depth.operators in
    factor_takes n a
    (goes_as (λ m. nil_goes (factor m) m n a c.args.reader.now.tokens c.in-Nil.ensures.kind c.in-Nil.ensures.fits)
    (refuses refl))

pub factor-returns-in_default : goal.factor-returns-in_default
factor-returns-in_default t c =
    let n = c.args.depth.forms in
    let a = c.args.depth.operators in
    let not = c.in_default in
    record {
      value = factor_takes n a (goes_as (λ m. name_goes (factor m) m n a c.args.reader.now.tokens
          (λ e. not.not-Number (c.kind.ensures.kind ∙ sym e)) (λ e. not.not-Text (c.kind.ensures.kind ∙ sym e))
          (λ e. not.not-LeftParenthesis (c.kind.ensures.kind ∙ sym e)) (λ e. not.not-Not (c.kind.ensures.kind ∙ sym e))
          (λ e. not.not-LeftBracket (c.kind.ensures.kind ∙ sym e)) (λ e. not.not-Nil (c.kind.ensures.kind ∙ sym e)))
          c.named_factor.ensures.value);
      depth = c.named_factor.ensures.depth;
    }

pub first_term-returns-in_err-first-in-Some-clause-value : goal.first_term-returns-in_err-first-in-Some-clause-value
first_term-returns-in_err-first-in-Some-clause-value t c =
    let n = c.args.depth.forms in
    let a = c.args.depth.operators in
    let inner = c.in_ok-inner-in-Some.ensures.ok in
    let line = c.lined-sign.result.line in
    let plus : a + 1 + 0 ≡ a + 1 = omega arith in
    returned (err_from_is_err_and _ c.from_residual-in_err-first-in-Some.ensures.1)
    (goes_as (λ m. sign_goes (factor m) m n a c.in-Some.sign c.args.reader.now.tokens line
    (sym c.in-Some.ensures.some ∙ c.kind.ensures.kind) c.kind.ensures.fits (line_of_head c.lined-sign.ensures.passes))
    (within _ (a + 1) inner.fits plus
    (skips c.lined-sign.ensures.passes (omega arith)
    (stops (λ m first. done (tree.signed_term (lined c.in-Some.sign line) first))
    (at_depth (λ m. term_by (factor m) m) inner.inner_is c.in_err-first-in-Some.ensures.value)))))

pub first_term-returns-in_err-first-in-None-clause-value : goal.first_term-returns-in_err-first-in-None-clause-value
first_term-returns-in_err-first-in-None-clause-value t c =
    let n = c.args.depth.forms in
    let a = c.args.depth.operators in
    let ts = c.args.reader.now.tokens in
    returned (err_from_is_err_and _ c.from_residual-in_err-first-in-None.ensures.1)
    (goes_as (λ m. ap (λ q. run q ts) (no_sign (factor m) m n a (head ts).kind (head ts).payload (head ts).line
    (λ op e. c.in-None.ensures.none refl op (c.kind.ensures.kind ∙ e))))
    (stops (λ m first. done (tree.first_term first)) c.in_err-first-in-None.ensures.value))

pub first_term-returns-in_ok-first-in-Some-clause-value : goal.first_term-returns-in_ok-first-in-Some-clause-value
first_term-returns-in_ok-first-in-Some-clause-value t c =
    let n = c.args.depth.forms in
    let a = c.args.depth.operators in
    let first = c.in_ok-first-in-Some.first.tree in
    let inner = c.in_ok-inner-in-Some.ensures.ok in
    let op = c.lined-sign.result in
    let read = c.in_ok-first-in-Some.ensures.value in
    let e1 = sym read.spellings in
    let e2 = sym c.lined-sign.ensures.item in
    let plus : a + 1 + 0 ≡ a + 1 = omega arith in
    goes_as (λ m. sign_goes (factor m) m n a c.in-Some.sign c.args.reader.now.tokens op.line
    (sym c.in-Some.ensures.some ∙ c.kind.ensures.kind) c.kind.ensures.fits (line_of_head c.lined-sign.ensures.passes))
    (within _ (a + 1) inner.fits plus
    (skips c.lined-sign.ensures.passes (omega arith)
    (goes_on (λ m first. done (tree.signed_term (lined c.in-Some.sign op.line) first))
    (at_depth (λ m. term_by (factor m) m) inner.inner_is read)
    (answers ((λ i. tree.signed_term (lined (e2 i) op.line) (term_in (e1 i) first))
    ∙ sym (signed_term_view c.term.new.reader.spellings op first))))))

pub first_term-returns-in_ok-first-in-Some-clause-depth : goal.first_term-returns-in_ok-first-in-Some-clause-depth
first_term-returns-in_ok-first-in-Some-clause-depth t c =
    let s = c.args.reader.now.spellings in
    let first = c.in_ok-first-in-Some.first.tree in
    let inner = c.in_ok-inner-in-Some.ensures.ok in
    subst (λ found. HasDepth c.args.depth.operators (c.in_ok-first-in-Some.first.depth + 1) (sum_depth found))
    (sym (signed_term_view s c.lined-sign.result first))
    (one_sign (deeper (λ s. term_depth (term_in s first)) (ap (λ d. d.operators) inner.inner_is)
    c.lined-sign.ensures.passes.spellings c.in_ok-first-in-Some.ensures.depth) inner.fits)

pub first_term-returns-in_ok-first-in-None-clause-value : goal.first_term-returns-in_ok-first-in-None-clause-value
first_term-returns-in_ok-first-in-None-clause-value t c =
    let n = c.args.depth.forms in
    let a = c.args.depth.operators in
    let ts = c.args.reader.now.tokens in
    let first = c.in_ok-first-in-None.first.tree in
    let read = c.in_ok-first-in-None.ensures.value in
    goes_as (λ m. ap (λ q. run q ts) (no_sign (factor m) m n a (head ts).kind (head ts).payload (head ts).line
    (λ op e. c.in-None.ensures.none refl op (c.kind.ensures.kind ∙ e))))
    (goes_on (λ m first. done (tree.first_term first)) read
    (answers (ap (λ s. tree.first_term (term_in s first)) (sym read.spellings)
    ∙ sym (first_term_view c.term-in-None.new.reader.spellings first))))

pub function_call-returns-in_err-inner-clause-value : goal.function_call-returns-in_err-inner-clause-value
function_call-returns-in_err-inner-clause-value t c =
    let n = c.args.depth.forms in
    let a = c.args.depth.operators in
    let name = ident_in c.args.reader.now.spellings c.args.name in
    returned (err_from_is_err_and _ c.from_residual.ensures.1)
    (goes_as (λ m. call_goes (factor m) m n a name c.args.reader.now.tokens _ c.requires.opens c.requires.fits refl)
    (too_deep _ (n + 1) c.in_err-inner.ensures.err refl))

pub function_call-returns-in_err-arguments-clause-value : goal.function_call-returns-in_err-arguments-clause-value
unfolding exprs
function_call-returns-in_err-arguments-clause-value t c =
    let n = c.args.depth.forms in
    let a = c.args.depth.operators in
    let name = ident_in c.args.reader.now.spellings c.args.name in
    let inner = c.in_ok-inner.ensures.ok in
    let line = c.pass-opened.result in
    returned (err_from_is_err_and _ c.from_residual-in_err-arguments.ensures.1)
    (goes_as (λ m. call_goes (factor m) m n a name c.args.reader.now.tokens line c.requires.opens c.requires.fits
    (line_of_head c.pass-opened.ensures))
    (within _ (n + 1) inner.fits refl
    (skips c.pass-opened.ensures (omega arith)
    (stops (λ m es. bind (look right_parenthesis_at) (λ closed. done (tree.function_call name line es closed)))
    (at_depth exprs inner.inner_is c.in_err-arguments.ensures.value)))))

pub function_call-returns-in_err-closed-clause-value : goal.function_call-returns-in_err-closed-clause-value
unfolding exprs
function_call-returns-in_err-closed-clause-value t c =
    let n = c.args.depth.forms in
    let a = c.args.depth.operators in
    let name = ident_in c.args.reader.now.spellings c.args.name in
    let inner = c.in_ok-inner.ensures.ok in
    let line = c.pass-opened.result in
    returned (err_from_is_err_and _ c.from_residual-in_err-closed.ensures.1)
    (goes_as (λ m. call_goes (factor m) m n a name c.args.reader.now.tokens line c.requires.opens c.requires.fits
    (line_of_head c.pass-opened.ensures))
    (within _ (n + 1) inner.fits refl
    (skips c.pass-opened.ensures (omega arith)
    (goes_on (λ m es. bind (look right_parenthesis_at) (λ closed. done (tree.function_call name line es closed)))
    (at_depth exprs inner.inner_is c.in_ok-arguments.ensures.value)
    (stops (λ m closed. done (tree.function_call name line (exprs_in c.pass-opened.new.self.spellings
    c.in_ok-arguments.arguments.tree) closed)) (parenthesis_read c.in_err-closed.ensures))))))

pub function_call-returns-clause-value : goal.function_call-returns-clause-value
unfolding exprs
function_call-returns-clause-value t c =
    let n = c.args.depth.forms in
    let a = c.args.depth.operators in
    let s = c.args.reader.now.spellings in
    let name = ident_in s c.args.name in
    let inner = c.in_ok-inner.ensures.ok in
    let line = c.pass-opened.result in
    let found = c.in_ok-arguments.arguments.tree in
    let read = c.in_ok-arguments.ensures.value in
    let closed = c.in_ok-closed.closed in
    let taken = c.in_ok-closed.ensures in
    let e1 = sym (taken.spellings ∙ read.spellings) in
    let e0 = sym c.pass-opened.ensures.spellings ∙ e1 in
    goes_as (λ m. call_goes (factor m) m n a name c.args.reader.now.tokens line c.requires.opens c.requires.fits
    (line_of_head c.pass-opened.ensures))
    (within _ (n + 1) inner.fits refl
    (skips c.pass-opened.ensures (omega arith)
    (goes_on (λ m es. bind (look right_parenthesis_at) (λ closed. done (tree.function_call name line es closed)))
    (at_depth exprs inner.inner_is read)
    (goes_on (λ m closed. done (tree.function_call name line (exprs_in c.pass-opened.new.self.spellings found) closed))
    (parenthesis_read taken)
    (answers ((λ i. tree.function_call (ident_in (e0 i) c.args.name) line (exprs_in (e1 i) found) closed)
    ∙ sym (function_call_view c.take.new.self.spellings (record {
      name = c.args.name;
      opened = line;
      arguments = found;
      closed = closed;
    }))))))))

pub named_factor-returns-in_err-found-in-LeftParenthesis-clause-value :
    goal.named_factor-returns-in_err-found-in-LeftParenthesis-clause-value
named_factor-returns-in_err-found-in-LeftParenthesis-clause-value t c =
    let n = c.args.depth.forms in
    let a = c.args.depth.operators in
    let named = c.in_ok-name.ensures in
    let further : suc (length c.ident.new.self.tokens) ≤ length c.args.reader.now.tokens =
    omega (arith, ident_further named) in
    returned (err_from_is_err_and _ c.from_residual-in_err-found-in-LeftParenthesis.ensures.1)
    (goes_on (λ m name. look (behind_name (factor m) m n a name)) (any_turns ident named)
    (with_more further
    (goes_as (λ m. ap (λ s. run (look (behind_name (factor m) m n a (ident_in s c.in_ok-name.name)))
    c.ident.new.self.tokens)
    (sym named.spellings)) (still_stops c.in_err-found-in-LeftParenthesis.ensures.value))))

pub named_factor-returns-in_err-found-in_default : goal.named_factor-returns-in_err-found-in_default
unfolding variable
named_factor-returns-in_err-found-in_default t c =
    let n = c.args.depth.forms in
    let a = c.args.depth.operators in
    let named = c.in_ok-name.ensures in
    let ts = c.ident.new.self.tokens in
    let further : suc (length ts) ≤ length c.args.reader.now.tokens = omega (arith, ident_further named) in
    let name = ident_in c.args.reader.now.spellings c.in_ok-name.name in
    let e = err_from_is_err_and _ c.from_residual-in_err-found-in_default.ensures.1 in
    record {
      value = returned e
          (goes_on (λ m name. look (behind_name (factor m) m n a name)) (any_turns ident named)
          (with_more further
          (goes_as (λ m. ap (λ q. run q ts)
          (no_call (factor m) m n a name (head ts).kind (head ts).payload (head ts).line
          (λ e. c.in_default.not-LeftParenthesis (c.kind.ensures.kind ∙ sym e)))
          ∙ ap (λ s. run (bind (variable m n a (ident_in s c.in_ok-name.name)) (λ v. done (tree.variable v))) ts)
          (sym named.spellings))
          (stops (λ m v. done (tree.variable v)) c.in_err-found-in_default.ensures.value))));
      depth = rw e.1 tt;
    }

pub named_factor-returns-in_ok-new-in-LeftParenthesis-clause-value :
    goal.named_factor-returns-in_ok-new-in-LeftParenthesis-clause-value
named_factor-returns-in_ok-new-in-LeftParenthesis-clause-value t c =
    let n = c.args.depth.forms in
    let a = c.args.depth.operators in
    let named = c.in_ok-name.ensures in
    let further : suc (length c.ident.new.self.tokens) ≤ length c.args.reader.now.tokens =
    omega (arith, ident_further named) in
    goes_on (λ m name. look (behind_name (factor m) m n a name)) (any_turns ident named)
    (with_more further
    (goes_as (λ m. ap (λ s. run (look (behind_name (factor m) m n a (ident_in s c.in_ok-name.name)))
    c.ident.new.self.tokens)
    (sym named.spellings))
    (seen_as (λ s. sym (call_view s c.in_ok-found-in-LeftParenthesis.found.tree)
    ∙ sym (ap (λ f. factor_in s (code.Call f)) c.in_ok-new-in-LeftParenthesis.ensures))
    c.in_ok-found-in-LeftParenthesis.ensures.value)))

pub named_factor-returns-in_ok-new-in_default : goal.named_factor-returns-in_ok-new-in_default
unfolding variable
named_factor-returns-in_ok-new-in_default t c =
    let n = c.args.depth.forms in
    let a = c.args.depth.operators in
    let s0 = c.args.reader.now.spellings in
    let named = c.in_ok-name.ensures in
    let ts = c.ident.new.self.tokens in
    let further : suc (length ts) ≤ length c.args.reader.now.tokens = omega (arith, ident_further named) in
    let name = ident_in s0 c.in_ok-name.name in
    let found = c.in_ok-found-in_default.found.tree in
    let read = c.in_ok-found-in_default.ensures.value in
    let made_so = λ (s : List ℕ). ap (λ f. factor_in s (code.Variable f)) c.in_ok-new-in_default.ensures
    ∙ variable_view s found in
    record {
      value = goes_on (λ m name. look (behind_name (factor m) m n a name)) (any_turns ident named)
          (with_more further
          (goes_as (λ m. ap (λ q. run q ts) (no_call (factor m) m n a name (head ts).kind (head ts).payload (head
          ts).line (λ e. c.in_default.not-LeftParenthesis (c.kind.ensures.kind ∙ sym e)))
          ∙ ap (λ s. run (bind (variable m n a (ident_in s c.in_ok-name.name)) (λ v. done (tree.variable v))) ts)
          (sym named.spellings))
          (goes_on (λ m v. done (tree.variable v)) read
          (answers (ap (λ s. tree.variable (variable_in s found)) (sym read.spellings)
          ∙ sym (made_so c.variable.new.reader.spellings))))));
      depth = subst (λ f. HasDepth a c.in_ok-found-in_default.found.depth (factor_depth f)) (sym (made_so s0))
          (deeper (λ s. variable_depth (variable_in s found)) refl named.spellings
          c.in_ok-found-in_default.ensures.depth);
    }

pub selector-returns-in_err-indexes-in-LeftBracket-clause-value :
    goal.selector-returns-in_err-indexes-in-LeftBracket-clause-value
unfolding exprs
selector-returns-in_err-indexes-in-LeftBracket-clause-value t c v =
    let n = c.args.depth.forms in
    let a = c.args.depth.operators in
    let inner = c.in_ok-inner-in-LeftBracket.ensures.ok in
    let line = c.pass-opened.result in
    returned (err_from_is_err_and _ c.from_residual-in_err-indexes-in-LeftBracket.ensures.1)
    (goes_as (λ m. indexes_goes (factor m) m n a v c.args.reader.now.tokens line c.in-LeftBracket.ensures.kind
    c.in-LeftBracket.ensures.fits (line_of_head c.pass-opened.ensures))
    (within _ (n + 1) inner.fits refl
    (skips c.pass-opened.ensures (omega arith)
    (stops (λ m es. bind (look right_bracket_at) (λ closed. done (tree.indexed v line es closed)))
    (at_depth exprs inner.inner_is c.in_err-indexes-in-LeftBracket.ensures.value)))))

pub selector-returns-in_err-closed-in-LeftBracket-clause-value :
    goal.selector-returns-in_err-closed-in-LeftBracket-clause-value
unfolding exprs
selector-returns-in_err-closed-in-LeftBracket-clause-value t c v =
    let n = c.args.depth.forms in
    let a = c.args.depth.operators in
    let inner = c.in_ok-inner-in-LeftBracket.ensures.ok in
    let line = c.pass-opened.result in
    returned (err_from_is_err_and _ c.from_residual-in_err-closed-in-LeftBracket.ensures.1)
    (goes_as (λ m. indexes_goes (factor m) m n a v c.args.reader.now.tokens line c.in-LeftBracket.ensures.kind
    c.in-LeftBracket.ensures.fits (line_of_head c.pass-opened.ensures))
    (within _ (n + 1) inner.fits refl
    (skips c.pass-opened.ensures (omega arith)
    (goes_on (λ m es. bind (look right_bracket_at) (λ closed. done (tree.indexed v line es closed)))
    (at_depth exprs inner.inner_is c.in_ok-indexes-in-LeftBracket.ensures.value)
    (stops (λ m closed. done (tree.indexed v line (exprs_in c.pass-opened.new.self.spellings
    c.in_ok-indexes-in-LeftBracket.indexes.tree) closed)) (bracket_read c.in_err-closed-in-LeftBracket.ensures))))))

pub selector-pass-requires : goal.selector-pass-requires
selector-pass-requires t c = λ e. subst BeginsSelector e c.requires

pub selector-returns-in_ok-new-in-LeftBracket-clause-value : goal.selector-returns-in_ok-new-in-LeftBracket-clause-value
unfolding exprs
selector-returns-in_ok-new-in-LeftBracket-clause-value t c v =
    let n = c.args.depth.forms in
    let a = c.args.depth.operators in
    let inner = c.in_ok-inner-in-LeftBracket.ensures.ok in
    let line = c.pass-opened.result in
    let found = c.in_ok-indexes-in-LeftBracket.indexes.tree in
    let read = c.in_ok-indexes-in-LeftBracket.ensures.value in
    let closed = c.in_ok-closed-in-LeftBracket.closed in
    let taken = c.in_ok-closed-in-LeftBracket.ensures in
    let end = c.take.new.self.spellings in
    goes_as (λ m. indexes_goes (factor m) m n a v c.args.reader.now.tokens line c.in-LeftBracket.ensures.kind
    c.in-LeftBracket.ensures.fits (line_of_head c.pass-opened.ensures))
    (within _ (n + 1) inner.fits refl
    (skips c.pass-opened.ensures (omega arith)
    (goes_on (λ m es. bind (look right_bracket_at) (λ closed. done (tree.indexed v line es closed)))
    (at_depth exprs inner.inner_is read)
    (goes_on (λ m closed. done (tree.indexed v line (exprs_in c.pass-opened.new.self.spellings found) closed))
    (bracket_read taken)
    (answers (ap (λ s. tree.indexed v line (exprs_in s found) closed) (sym (taken.spellings ∙ read.spellings))
    ∙ sym (ap (λ es. selector_in end (code_selector.Indexes line es closed) v) c.in_ok-new-in-LeftBracket.ensures
    ∙ ap (λ f. f v) (indexes_view end line found closed))))))))

pub selector-returns-in_ok-new-in-LeftBracket-clause-depth : goal.selector-returns-in_ok-new-in-LeftBracket-clause-depth
selector-returns-in_ok-new-in-LeftBracket-clause-depth t c v =
    let s = c.args.reader.now.spellings in
    let line = c.pass-opened.result in
    let found = c.in_ok-indexes-in-LeftBracket.indexes.tree in
    let closed = c.in_ok-closed-in-LeftBracket.closed in
    ap variable_depth (ap (λ es. selector_in s (code_selector.Indexes line es closed) v)
    c.in_ok-new-in-LeftBracket.ensures
    ∙ ap (λ f. f v) (indexes_view s line found closed))
    ∙ ap (λ d. max (variable_depth v) d) (ap (λ s. exprs_depth (exprs_in s found)) (sym c.pass-opened.ensures.spellings)
    ∙ sym c.in_ok-indexes-in-LeftBracket.ensures.depth.same)

pub selector-returns-in_ok-ident-in-Dot-clause-value : goal.selector-returns-in_ok-ident-in-Dot-clause-value
selector-returns-in_ok-ident-in-Dot-clause-value t c v =
    let n = c.args.depth.forms in
    let a = c.args.depth.operators in
    let line = c.pass-line.result in
    let read = c.in_ok-ident-in-Dot.ensures in
    let name = c.in_ok-ident-in-Dot.field-0 in
    goes_as (λ m. field_goes (factor m) m n a v c.args.reader.now.tokens line c.in-Dot.ensures.kind
    c.in-Dot.ensures.fits (line_of_head c.pass-line.ensures))
    (skips c.pass-line.ensures (omega arith)
    (goes_on (λ m name. done (tree.field_of v line name)) read
    (answers (ap (λ s. tree.field_of v line (ident_in s name)) (sym read.spellings)
    ∙ sym (ap (λ f. f v) (field_view c.ident.new.self.spellings line name))))))

pub selector-returns-in_ok-ident-in-Dot-clause-depth : goal.selector-returns-in_ok-ident-in-Dot-clause-depth
selector-returns-in_ok-ident-in-Dot-clause-depth t c v =
    ap variable_depth (ap (λ f. f v)
    (field_view c.args.reader.now.spellings c.pass-line.result c.in_ok-ident-in-Dot.field-0))
    ∙ omega arith

pub selector-returns-in_default : goal.selector-returns-in_default
selector-returns-in_default t c = record {
  value = λ v. goes_as (λ m. buffer_goes (factor m) m c.args.depth.forms c.args.depth.operators v
      c.args.reader.now.tokens c.pass.result (caret_of _ c.requires
      (λ e. c.in_default.not-LeftBracket (c.kind.ensures.kind ∙ sym e))
      (λ e. c.in_default.not-Dot (c.kind.ensures.kind ∙ sym e)))
      c.kind.ensures.fits (line_of_head c.pass.ensures))
      (skips c.pass.ensures (omega arith)
      (answers (sym (ap (λ f. f v) (buffer_view c.pass.new.self.spellings c.pass.result)))));
  depth = λ v. ap variable_depth (ap (λ f. f v) (buffer_view c.args.reader.now.spellings c.pass.result)) ∙ omega arith;
  few = omega arith;
  further = omega (arith, ap length c.pass.ensures.tokens);
}

pub sum-returns-in_err-left-clause-value : goal.sum-returns-in_err-left-clause-value
sum-returns-in_err-left-clause-value t c =
    let n = c.args.depth.forms in
    let a = c.args.depth.operators in
    returned (err_from_is_err_and _ c.from_residual.ensures.1)
    (stops (λ m first. turns (behind_term (factor m) m n a) m first) c.in_err-left.ensures.value)

pub sum-more-init : goal.sum-more-init
sum-more-init t c =
    record { so_far = begun_behind (λ s. s) c.in_ok-left.ensures.value; depth = c.in_ok-left.ensures.depth }

pub sum-returns-in_err-inner-in-Some-clause-value : goal.sum-returns-in_err-inner-in-Some-clause-value
sum-returns-in_err-inner-in-Some-clause-value t c =
    let n = c.args.depth.forms in
    let a = c.args.depth.operators in
    let left = sum_in c.args.reader.now.spellings c.more.left.tree in
    returned (err_from_is_err_and _ c.from_residual-in_err-inner-in-Some.ensures.1)
    (turn_stops {view = of_deep sum_in} c.more.invariant.so_far
    (goes_as (λ m. term_goes (factor m) m n a left c.in-Some.adding c.more.reader.tokens _
    (sym c.in-Some.ensures.some ∙ c.kind.ensures.kind) c.kind.ensures.fits refl)
    (too_deep _ (a + 1 + sum_depth left) c.in_err-inner-in-Some.ensures.err
    (ap (λ d. a + 1 + d) c.more.invariant.depth.same))))

pub sum-returns-in_err-right-in-Some-clause-value : goal.sum-returns-in_err-right-in-Some-clause-value
sum-returns-in_err-right-in-Some-clause-value t c =
    let n = c.args.depth.forms in
    let a = c.args.depth.operators in
    let left = sum_in c.args.reader.now.spellings c.more.left.tree in
    let inner = c.in_ok-inner-in-Some.ensures.ok in
    let line = c.lined-adding.result.line in
    returned (err_from_is_err_and _ c.from_residual-in_err-right-in-Some.ensures.1)
    (turn_stops {view = of_deep sum_in} c.more.invariant.so_far
    (goes_as (λ m. term_goes (factor m) m n a left c.in-Some.adding c.more.reader.tokens line
    (sym c.in-Some.ensures.some ∙ c.kind.ensures.kind) c.kind.ensures.fits
    (line_of_head c.lined-adding.ensures.passes))
    (within _ (a + 1 + sum_depth left) inner.fits (ap (λ d. a + 1 + d) c.more.invariant.depth.same)
    (skips c.lined-adding.ensures.passes (omega arith)
    (stops (λ m right. done (tree.more_terms left (lined c.in-Some.adding line) right))
    (at_depth (λ m. term_by (factor m) m) inner.inner_is c.in_err-right-in-Some.ensures.value))))))

pub sum-more-preserved : goal.sum-more-preserved
sum-more-preserved t c =
    let n = c.args.depth.forms in
    let a = c.args.depth.operators in
    let s = c.args.reader.now.spellings in
    let left = c.more.left.tree in
    let right = c.in_ok-right-in-Some.right.tree in
    let op = c.lined-adding.result in
    let inner = c.in_ok-inner-in-Some.ensures.ok in
    let passed = c.lined-adding.ensures.passes in
    let read = c.in_ok-right-in-Some.ensures.value in
    let before = passed.spellings ∙ c.more.invariant.so_far.spellings in
    let e1 = sym read.spellings in
    let e0 = sym before ∙ e1 in
    let e2 = sym c.lined-adding.ensures.item in
    let count : length c.more.reader.tokens ≡ suc (length c.lined-adding.new.self.tokens) = ap length passed.tokens in
    record {
      so_far = turned {view = of_deep sum_in} {x = c.in_ok-left-in-Some.left} c.more.invariant.so_far
          (goes_as (λ m. term_goes (factor m) m n a (sum_in s left) c.in-Some.adding c.more.reader.tokens op.line
          (sym c.in-Some.ensures.some ∙ c.kind.ensures.kind) c.kind.ensures.fits (line_of_head passed))
          (within _ (a + 1 + sum_depth (sum_in s left)) inner.fits
          (ap (λ d. a + 1 + d) c.more.invariant.depth.same)
          (skips passed (omega arith)
          (goes_on (λ m right. done (tree.more_terms (sum_in s left) (lined c.in-Some.adding op.line) right))
          (at_depth (λ m. term_by (factor m) m) inner.inner_is read)
          (made_as (λ s. tree.more_terms (sum_in s left) (lined_in op) (term_in s right)) _
          c.in_ok-left-in-Some.ensures.made
          (λ i. tree.more_terms (sum_in (e0 i) left) (lined (e2 i) op.line) (term_in (e1 i) right)))))))
          (omega (arith, count, read.shorter));
      depth = made_depth sum_in (λ s. tree.more_terms (sum_in s left) (lined_in op) (term_in s right)) sum_depth a _ s
          (Ok c.in_ok-left-in-Some.left) c.in_ok-left-in-Some.ensures.made c.in_ok-left-in-Some.ensures.depth
          (one_more c.more.invariant.depth
          (deeper (λ s. term_depth (term_in s right)) (ap (λ d. d.operators) inner.inner_is) before
          c.in_ok-right-in-Some.ensures.depth) inner.fits);
    }

pub sum-returns-in_err-not_in-in-None-clause-value : goal.sum-returns-in_err-not_in-in-None-clause-value
sum-returns-in_err-not_in-in-None-clause-value t c =
    let n = c.args.depth.forms in
    let a = c.args.depth.operators in
    let left = sum_in c.args.reader.now.spellings c.more.left.tree in
    let refused = c.in_err-not_in-in-None.ensures in
    returned (err_from_is_err_and _ c.from_residual-in_err-not_in-in-None.ensures.1)
    (turn_stops {view = of_deep sum_in} c.more.invariant.so_far
    (goes_as (λ m. in_goes (factor m) m n a left c.more.reader.tokens refused.0 c.kind.ensures.fits)
    (refuses refused.1)))

pub sum-returns-in-None-clause-value : goal.sum-returns-in-None-clause-value
sum-returns-in-None-clause-value t c =
    let n = c.args.depth.forms in
    let a = c.args.depth.operators in
    let left = sum_in c.args.reader.now.spellings c.more.left.tree in
    loop_ends c.more.invariant.so_far
    (λ m. terms_end (factor m) m n a left _ _ _ (λ op e. c.in-None.ensures.none refl op (c.kind.ensures.kind ∙ e))
    c.in_ok-not_in-in-None.ensures) refl

pub term-returns-in_err-first-clause-value : goal.term-returns-in_err-first-clause-value
term-returns-in_err-first-clause-value t c =
    let n = c.args.depth.forms in
    let a = c.args.depth.operators in
    returned (err_from_is_err_and _ c.from_residual.ensures.1)
    (stops (λ m first. turns (behind_factor (factor m) m n a) m (tree.first_factor first)) c.in_err-first.ensures.value)

pub term-more-init : goal.term-more-init
term-more-init t c =
    let s = c.args.reader.now.spellings in
    let same = sym (first_factor_view s c.in_ok-first.first.tree) in
    record {
      so_far = subst (λ found. SoFar (λ m. term_by (factor m) m c.args.depth.forms c.args.depth.operators)
          (λ m. behind_factor (factor m) m c.args.depth.forms c.args.depth.operators) c.args.reader.now
          c.factor.new.reader found) same (begun_behind tree.first_factor c.in_ok-first.ensures.value);
      depth = subst (λ found. HasDepth c.args.depth.operators c.in_ok-first.first.depth (term_depth found)) same
          c.in_ok-first.ensures.depth;
    }

pub term-returns-in_err-inner-in-Some-clause-value : goal.term-returns-in_err-inner-in-Some-clause-value
term-returns-in_err-inner-in-Some-clause-value t c =
    let n = c.args.depth.forms in
    let a = c.args.depth.operators in
    let left = term_in c.args.reader.now.spellings c.more.left.tree in
    returned (err_from_is_err_and _ c.from_residual-in_err-inner-in-Some.ensures.1)
    (turn_stops {view = of_deep term_in} c.more.invariant.so_far
    (goes_as (λ m. factor_goes (factor m) m n a left c.in-Some.multiplying c.more.reader.tokens _
    (sym c.in-Some.ensures.some ∙ c.kind.ensures.kind) c.kind.ensures.fits refl)
    (too_deep _ (a + 1 + term_depth left) c.in_err-inner-in-Some.ensures.err
    (ap (λ d. a + 1 + d) c.more.invariant.depth.same))))

pub term-returns-in_err-right-in-Some-clause-value : goal.term-returns-in_err-right-in-Some-clause-value
term-returns-in_err-right-in-Some-clause-value t c =
    let n = c.args.depth.forms in
    let a = c.args.depth.operators in
    let left = term_in c.args.reader.now.spellings c.more.left.tree in
    let inner = c.in_ok-inner-in-Some.ensures.ok in
    let line = c.lined-multiplying.result.line in
    returned (err_from_is_err_and _ c.from_residual-in_err-right-in-Some.ensures.1)
    (turn_stops {view = of_deep term_in} c.more.invariant.so_far
    (goes_as (λ m. factor_goes (factor m) m n a left c.in-Some.multiplying c.more.reader.tokens line
    (sym c.in-Some.ensures.some ∙ c.kind.ensures.kind) c.kind.ensures.fits
    (line_of_head c.lined-multiplying.ensures.passes))
    (within _ (a + 1 + term_depth left) inner.fits (ap (λ d. a + 1 + d) c.more.invariant.depth.same)
    (skips c.lined-multiplying.ensures.passes (omega arith)
    (stops (λ m right. done (tree.more_factors left (lined c.in-Some.multiplying line) right))
    (at_depth factor inner.inner_is c.in_err-right-in-Some.ensures.value))))))

pub term-more-preserved : goal.term-more-preserved
term-more-preserved t c =
    let n = c.args.depth.forms in
    let a = c.args.depth.operators in
    let s = c.args.reader.now.spellings in
    let left = c.more.left.tree in
    let right = c.in_ok-right-in-Some.right.tree in
    let op = c.lined-multiplying.result in
    let inner = c.in_ok-inner-in-Some.ensures.ok in
    let passed = c.lined-multiplying.ensures.passes in
    let read = c.in_ok-right-in-Some.ensures.value in
    let before = passed.spellings ∙ c.more.invariant.so_far.spellings in
    let e1 = sym read.spellings in
    let e0 = sym before ∙ e1 in
    let e2 = sym c.lined-multiplying.ensures.item in
    let count : length c.more.reader.tokens ≡ suc (length c.lined-multiplying.new.self.tokens) = ap length passed.tokens
    in
    record {
      so_far = turned {view = of_deep term_in} {x = c.in_ok-left-in-Some.left} c.more.invariant.so_far
          (goes_as (λ m. factor_goes (factor m) m n a (term_in s left) c.in-Some.multiplying
          c.more.reader.tokens op.line
          (sym c.in-Some.ensures.some ∙ c.kind.ensures.kind) c.kind.ensures.fits (line_of_head passed))
          (within _ (a + 1 + term_depth (term_in s left)) inner.fits
          (ap (λ d. a + 1 + d) c.more.invariant.depth.same)
          (skips passed (omega arith)
          (goes_on (λ m right. done (tree.more_factors (term_in s left) (lined c.in-Some.multiplying op.line) right))
          (at_depth factor inner.inner_is read)
          (made_as (λ s. tree.more_factors (term_in s left) (lined_in op) (factor_in s right)) _
          c.in_ok-left-in-Some.ensures.made
          (λ i. tree.more_factors (term_in (e0 i) left) (lined (e2 i) op.line) (factor_in (e1 i) right)))))))
          (omega (arith, count, read.shorter));
      depth = made_depth term_in (λ s. tree.more_factors (term_in s left) (lined_in op) (factor_in s right))
          term_depth a _ s
          (Ok c.in_ok-left-in-Some.left) c.in_ok-left-in-Some.ensures.made c.in_ok-left-in-Some.ensures.depth
          (one_more c.more.invariant.depth
          (deeper (λ s. factor_depth (factor_in s right)) (ap (λ d. d.operators) inner.inner_is) before
          c.in_ok-right-in-Some.ensures.depth) inner.fits);
    }

pub term-returns-in_err-not_slash-in-None-clause-value : goal.term-returns-in_err-not_slash-in-None-clause-value
term-returns-in_err-not_slash-in-None-clause-value t c =
    let n = c.args.depth.forms in
    let a = c.args.depth.operators in
    let left = term_in c.args.reader.now.spellings c.more.left.tree in
    let refused = c.in_err-not_slash-in-None.ensures in
    returned (err_from_is_err_and _ c.from_residual-in_err-not_slash-in-None.ensures.1)
    (turn_stops {view = of_deep term_in} c.more.invariant.so_far
    (goes_as (λ m. slash_goes (factor m) m n a left c.more.reader.tokens refused.0 c.kind.ensures.fits)
    (refuses refused.1)))

pub term-returns-in-None-clause-value : goal.term-returns-in-None-clause-value
term-returns-in-None-clause-value t c =
    let n = c.args.depth.forms in
    let a = c.args.depth.operators in
    let left = term_in c.args.reader.now.spellings c.more.left.tree in
    loop_ends c.more.invariant.so_far
    (λ m. factors_end (factor m) m n a left _ _ _ (λ op e. c.in-None.ensures.none refl op (c.kind.ensures.kind ∙ e))
    c.in_ok-not_slash-in-None.ensures) refl

pub variable-more-init : goal.variable-more-init
unfolding variable
variable-more-init t c =
    let s = c.args.reader.now.spellings in
    let whole = tree.whole (ident_in s c.args.name) in
    let same : whole ≡ in_turn whole (map (selector_in s) c.new-selectors.result) =
    ap (λ xs. in_turn whole (map (selector_in s) xs)) (sym c.new-selectors.ensures) in
    record {
      so_far = subst (λ found. SoFar (λ m. variable_by (factor m) m c.args.depth.forms c.args.depth.operators
          (ident_in s c.args.name))
          (λ m. behind_variable (factor m) m c.args.depth.forms c.args.depth.operators) c.args.reader.now
          c.args.reader.now found) same begun;
      depth = subst (λ found. HasDepth c.args.depth.operators 0 (variable_depth found)) same (no_depth refl);
    }

pub variable-returns-in_err-found-in-LeftBracket-clause-value :
    goal.variable-returns-in_err-found-in-LeftBracket-clause-value
variable-returns-in_err-found-in-LeftBracket-clause-value t c =
    let s = c.args.reader.now.spellings in
    let found = in_turn (tree.whole (ident_in s c.args.name)) (map (selector_in s) c.more.selectors) in
    returned (err_from_is_err_and _ c.from_residual.ensures.1)
    (turn_stops {view = λ spellings deep. selector_in spellings deep.tree found} c.more.invariant.so_far
    (c.in_err-found-in-LeftBracket.ensures.value found))

pub variable-more-preserved : goal.variable-more-preserved
variable-more-preserved t c =
    let n = c.args.depth.forms in
    let a = c.args.depth.operators in
    let s = c.args.reader.now.spellings in
    let whole = tree.whole (ident_in s c.args.name) in
    let found = in_turn whole (map (selector_in s) c.more.selectors) in
    let one = c.in_ok-found-in-LeftBracket.found in
    let same : in_turn whole (map (selector_in s) c.push.new.self) ≡ selector_in s one.tree found =
    pushed_in_turn whole (selector_in s) c.more.selectors _ one.tree c.in_ok-push-in-LeftBracket.ensures.ok in
    record {
      so_far = subst (λ found. SoFar (λ m. variable m n a (ident_in s c.args.name))
          (λ m. behind_variable (factor m) m n a) c.args.reader.now c.selector.new.reader found) (sym same)
          (turned {view = λ spellings deep. selector_in spellings deep.tree found} {x = one} c.more.invariant.so_far
          (c.in_ok-found-in-LeftBracket.ensures.value found) c.in_ok-found-in-LeftBracket.ensures.further);
      depth = subst (λ v. HasDepth a c.max-deepest.result (variable_depth v)) (sym same)
          (more_selected c.more.invariant.depth c.in_ok-found-in-LeftBracket.ensures.few c.max-deepest.ensures
          (ap (λ s. variable_depth (selector_in s one.tree found)) (sym c.more.invariant.so_far.spellings)
          ∙ c.in_ok-found-in-LeftBracket.ensures.depth found));
    }

pub variable-returns-in_err-push-in-LeftBracket-clause-value :
    goal.variable-returns-in_err-push-in-LeftBracket-clause-value
variable-returns-in_err-push-in-LeftBracket-clause-value t c =
    let s = c.args.reader.now.spellings in
    let found = in_turn (tree.whole (ident_in s c.args.name)) (map (selector_in s) c.more.selectors) in
    returned (err_from_is_err_and _ c.from_residual-in_err-push-in-LeftBracket.ensures.1)
    (turn_stops {view = of_deep variable_in} c.more.invariant.so_far
    (kept_no_memory {seen = of_deep variable_in} (c.in_ok-found-in-LeftBracket.ensures.value found)))

pub variable-returns-in_default : goal.variable-returns-in_default
variable-returns-in_default t c =
    let n = c.args.depth.forms in
    let a = c.args.depth.operators in
    let s = c.args.reader.now.spellings in
    let found = in_turn (tree.whole (ident_in s c.args.name)) (map (selector_in s) c.more.selectors) in
    let same : found ≡ variable_in s _ =
    sym (selected_view s (record { name = c.args.name; selectors = c.more.selectors })) in
    record {
      value = loop_ends c.more.invariant.so_far
          (λ m. variable_ends (factor m) m n a found _ _ _
          (λ e. c.in_default.not-LeftBracket (c.kind.ensures.kind ∙ sym e))
          (λ e. c.in_default.not-Dot (c.kind.ensures.kind ∙ sym e))
          (λ e. c.in_default.not-Caret (c.kind.ensures.kind ∙ sym e))) same;
      depth = subst (λ v. HasDepth a c.more.deepest (variable_depth v)) same c.more.invariant.depth;
    }

pub first_term-returns-in_err-inner-in-Some-clause-value : goal.first_term-returns-in_err-inner-in-Some-clause-value
first_term-returns-in_err-inner-in-Some-clause-value t c =
    let n = c.args.depth.forms in
    let a = c.args.depth.operators in
    returned (err_from_is_err_and _ c.from_residual.ensures.1)
    (goes_as (λ m. sign_goes (factor m) m n a c.in-Some.sign c.args.reader.now.tokens _
    (sym c.in-Some.ensures.some ∙ c.kind.ensures.kind) c.kind.ensures.fits refl)
    (too_deep _ (a + 1) c.in_err-inner-in-Some.ensures.err (omega arith)))

pub named_factor-returns-in_err-name-clause-value : goal.named_factor-returns-in_err-name-clause-value
named_factor-returns-in_err-name-clause-value t c =
    let n = c.args.depth.forms in
    let a = c.args.depth.operators in
    returned (err_from_is_err_and _ c.from_residual.ensures.1)
    (stops (λ m name. look (behind_name (factor m) m n a name)) (any_turns ident c.in_err-name.ensures))

pub selector-returns-in_err-inner-in-LeftBracket-clause-value :
    goal.selector-returns-in_err-inner-in-LeftBracket-clause-value
selector-returns-in_err-inner-in-LeftBracket-clause-value t c v =
    let n = c.args.depth.forms in
    let a = c.args.depth.operators in
    returned (err_from_is_err_and _ c.from_residual.ensures.1)
    (goes_as (λ m. indexes_goes (factor m) m n a v c.args.reader.now.tokens _ c.in-LeftBracket.ensures.kind
    c.in-LeftBracket.ensures.fits refl)
    (too_deep _ (n + 1) c.in_err-inner-in-LeftBracket.ensures.err refl))

pub selector-returns-in_ok-new-in-LeftBracket-clause-few : goal.selector-returns-in_ok-new-in-LeftBracket-clause-few
selector-returns-in_ok-new-in-LeftBracket-clause-few t c =
    subst (λ d. c.in_ok-indexes-in-LeftBracket.indexes.depth ≤ NESTING_LIMIT - d.operators)
    c.in_ok-inner-in-LeftBracket.ensures.ok.inner_is c.in_ok-indexes-in-LeftBracket.ensures.depth.few
