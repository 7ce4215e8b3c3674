use Rattle.std.proofs.Common.{◌≡◌, refl, sym, ap, subst, ◌∙◌, ℕ, ◌+◌, Bool, true, false, List, [], ◌∷◌, ◌++◌, map}
use Rattle.std.proofs.Common.{take, drop, suc, Some, None, Result, Err, length, arith, Option}
use Rattle.std.specs.Prelude.{is_some, option_map, slice_get, nat_le}
use Rattle.std.proofs.lemmas.List.{append_assoc}
use Rattle.std.proofs.lemmas.Result.{err_from_is_err_and}
use Rattle.wb_base.specs.declared.faults.TheConstants.{WRONG_TYPE, WRONG_TYPE as WRONG_TYPE_CODE, UNKNOWN_NAME}
use Rattle.pas_syntax.specs.declared.tree.Expr.TheViews.{out-Exprs, out-MoreExpr, out-Variable, out-FunctionCall}
use Rattle.pas_syntax.specs.Tree.{Lined, Expr, Sum, Term, Factor, Variable, Exprs}
use Rattle.pas_syntax.specs.Views.{in_turn, lined_in, ident_in, expr_in, sum_in, term_in, factor_in, variable_in}
use Rattle.pas_syntax.specs.Views.{selector_in, exprs_in, more_expr_in}
use Rattle.pas_syntax.specs.Words.{Word, at, operator, name_at, sum_depth, term_depth, relation_kind, adding_kind}
use Rattle.pas_syntax.specs.Words.{multiplying_kind, sign_kind, expr_words, sum_words, term_words, factor_words}
use Rattle.pas_syntax.specs.Words.{variable_words, exprs_words}
use Rattle.pas_typed.specs.Types.{Base, integer, boolean, ArrayParts, Table, base_of, is_of, elements_of}
use Rattle.pas_typed.specs.Typed.{Value, Place, Value as SpecValue}
use Rattle.pas_typed.specs.TypeOf.{type_of, type_of_place}
use Rattle.pas_typed.specs.TypeViews.{elements_view, type_view}
use Rattle.pas_typed.specs.TypedViews.{value_view, place_view, passed_view, function_view, file_test_view}
use Rattle.pas_typed.specs.TypedViews.{passed_views, variable_view}
use Rattle.pas_scopes.specs.declared.stop.Stop.{Stop}
use Rattle.pas_scopes.specs.declared.judged.Judged.{Judged as CodeJudged}
use Rattle.pas_rules.specs.Marks.{Judged, noted, checked, judged, known}
use Rattle.pas_rules.specs.Scopes.{Scopes, Entity}
use Rattle.pas_rules.specs.Expressions.{value_of, sum_of, term_of, factor_of, variable_value, place_of, elements_at}
use Rattle.pas_rules.specs.Expressions.{only, ordinal_only, like, addition_base, product_base, as_array, array_only}
use Rattle.pas_rules.specs.Expressions.{element_of, element_by, closed_by, read_of}
use Rattle.pas_scopes.specs.ScopeViews.{scopes_view}
use Rattle.pas_scopes.specs.Ends.{Ends}
use Rattle.pas_scopes.specs.Stopping.{found_before, demanded}
use Rattle.pas_scopes.specs.Answers.{Ending, end_in, noted_end, settled_by, EndsAs, StopsBy, Answers, StandsAs}
use Rattle.pas_scopes.specs.Answers.{Stands}
use Rattle.pas_rules.proofs.ExpressionsAsMany.{value_many, sum_many, term_many, factor_many, element_many}
use Rattle.pas_rules.proofs.ExpressionWords.{expr_some, sum_some, term_some, factor_some}
use Rattle.pas_scopes.proofs.ExpressionSeen.{sum_seen, relation_seen, first_term_seen, signed_term_seen}
use Rattle.pas_scopes.proofs.ExpressionSeen.{more_terms_seen, first_factor_seen, more_factors_seen, literal_seen}
use Rattle.pas_scopes.proofs.ExpressionSeen.{text_seen, parenthesized_seen, negated_seen, variable_seen, call_seen}
use Rattle.pas_scopes.proofs.ExpressionSeen.{indexes_seen, field_seen, buffer_seen}
use Rattle.pas_scopes.proofs.PartLemmas.{enclosed, pair}
use Rattle.pas_scopes.proofs.AnswerLemmas.{answers_stop, stands_stop, noted_stops_by, behind_word_stops}
use Rattle.pas_scopes.proofs.AnswerLemmas.{enclosed_stops_by, made_stops, stops_fails, checked_stops_by}
use Rattle.pas_scopes.proofs.AnswerLemmas.{pair_unsettled, before_ends, ends_moved, made_ends}
use Rattle.pas_scopes.proofs.OperatorLemmas.{first_stops, first_unsettled, first_settled, second_stops}
use Rattle.pas_scopes.proofs.PlaceLemmas.{other_of, checked_before, checked_unsettled, index_fails}
use Rattle.pas_scopes.proofs.SelectLemmas.{turned_at, turned_more, turned_all, closes_answers, first_index, exprs_out}
use Rattle.pas_scopes.proofs.SelectLemmas.{more_out, variable_out, IndexesFail, begins_fail, grouped_fail, rest_fails}
use Rattle.pas_scopes.proofs.SelectLemmas.{indexed_stops, rest_stops, some_read}
use Rattle.std.specs.Option.{option_copied}
use Rattle.pas_scopes.specs.Arguments.{taken_as, plainly, passing_in, sole_part, passing_part}
use Rattle.pas_typed.proofs.ValueViews.{value_view-Applied, value_view-Tested}
use Rattle.pas_tokens.specs.Cutting.{wrong}
use Rattle.pas_scopes.specs.declared.names.Entity.{Entity as CodeEntity}
use Rattle.pas_scopes.specs.NameViews.{entity_view}
use Rattle.pas_scopes.proofs.LabelSeen.{taken_more, taken_all}
use Rattle.pas_scopes.proofs.ExprSeen.{call_out}
use Rattle.pas_scopes.proofs.EntityCalls.{tested_part, tested_stops, tested_ends, stop_made, other_call, refused_call}
use Rattle.pas_scopes.proofs.EntityCalls.{function_part, procedure_part}
use Rattle.pas_scopes.proofs.CallAnswers.{stopped_fails, stands_never}
use Rattle.pas_scopes.proofs.FitLemmas.{seen_parameter, no_parameter}
use Rattle.pas_tokens.specs.declared.kinds.Kind.TheVariants as k
use Rattle.pas_syntax.specs.declared.tree.MoreExpr as code_more
use Rattle.pas_syntax.specs.declared.tree.Selector as code_selector
use Rattle.pas_syntax.specs.Tree as tree
use Rattle.pas_typed.specs.declared.typed.Value as code_value
use Rattle.pas_typed.specs.declared.typed.Place as code_place
use Rattle.pas_typed.specs.Typed as typed
use Rattle.pas_rules.specs.Expressions as spec
use Rattle.pas_typed.specs.declared.typed.Value.TheVariants as value_variant
use Rattle.pas_typed.specs.declared.typed.Passed as code_passed
use Rattle.pas_scopes.proofs.ExprCalls.{call_words, givens, sole_first, passing, stops_passing, ends_passing}
use Rattle.pas_scopes.proofs.ExprCalls.{taken_split, taken_count}
use Rattle.pas_scopes.proofs.ExprArguments.{argued_expr, argued_more, more_argued}
use Rattle.pas_scopes.proofs.PassedLemmas as passed
use Rattle.pas_scopes.proofs.+expression.Goals as goal

-- what is answered of a part of the tree
module _ (scopes : Scopes) (n a : ℕ) where
  abbrev PlaceIs : Result (CodeJudged code_place.Place) Stop → Variable → Type 0
  PlaceIs found v = Answers (variable_words n a v) (place_of scopes v) place_view found

  abbrev ElementsAre : List Word → Word → Judged Place → Result (CodeJudged code_place.Place) Stop → Exprs → Type 0
  ElementsAre words word part found es =
      Stands (words ++ word ∷ exprs_words n a es) (elements_at scopes part es) place_view found

  place_stop : (v : Variable) (why : Stop) (result : Result (CodeJudged code_place.Place) Stop)
      → ((found : Stop) × (result ≡ Err found) × (found ≡ why))
      → StopsBy (variable_words n a v) (place_of scopes v) why → PlaceIs result v
  place_stop v why result is h = answers_stop (variable_words n a v) (place_of scopes v) place_view why result is h

  elements_stop : (words : List Word) (word : Word) (part : Judged Place) (es : Exprs) (why : Stop)
      (result : Result (CodeJudged code_place.Place) Stop) → ((found : Stop) × (result ≡ Err found) × (found ≡ why))
      → IndexesFail scopes n a words word part why es → ElementsAre words word part result es
  elements_stop words word part es why result is h =
      stands_stop (words ++ word ∷ exprs_words n a es) (elements_at scopes part es) place_view why result is h

true_false : (is : Bool) → is ≡ true → is ≡ false → ⊥
true_false is h k = cc

module _ (scopes : Scopes) (n a : ℕ) (result : Result (CodeJudged code_value.Value) Stop) where
  abbrev ExprIs : Expr → Type 0
  ExprIs e = Answers (expr_words n a e) (value_of scopes e) value_view result

  abbrev SumIs : Sum → Type 0
  SumIs s = Answers (sum_words n a s) (sum_of scopes s) value_view result

  abbrev TermIs : Term → Type 0
  TermIs t = Answers (term_words n a t) (term_of scopes t) value_view result

  abbrev FactorIs : Factor → Type 0
  FactorIs f = Answers (factor_words n a f) (factor_of scopes f) value_view result

-- factors

pub expressions::factor_of-returns-in_err-inner-in-Parenthesized :
    goal.expressions::factor_of-returns-in_err-inner-in-Parenthesized
expressions::factor_of-returns-in_err-inner-in-Parenthesized t c clear n a =
    let s = c.args.scopes.now.spellings.now in
    let scopes : Scopes = scopes_view c.args.scopes.now in
    let e : Expr = expr_in s c.get.result.now in
    let opened : Word = at (n + 1) k.LeftParenthesis c.in-Parenthesized.field-0 in
    let closed : Word = at (n + 1) k.RightParenthesis c.in-Parenthesized.closed in
    let why = c.in_err-inner-in-Parenthesized.field-0.0 in
    subst (FactorIs scopes n a c.from_residual.result)
    (parenthesized_seen s c.args.factor.now c.in-Parenthesized.field-0 c.in-Parenthesized.inner c.get.result.now
    c.in-Parenthesized.closed c.in-Parenthesized.is c.get.ensures)
    (answers_stop (opened ∷ (expr_words (n + 1) a e ++ closed ∷ [])) (enclosed typed.parenthesized (value_of scopes e))
    value_view why c.from_residual.result (err_from_is_err_and _ c.from_residual.ensures.1)
    (enclosed_stops_by (expr_words (n + 1) a e) opened closed typed.parenthesized (value_of scopes e) why
    (c.in_err-inner-in-Parenthesized.ensures clear (n + 1) a)))

pub expressions::factor_of-returns-in_ok-inner-in-Parenthesized :
    goal.expressions::factor_of-returns-in_ok-inner-in-Parenthesized
expressions::factor_of-returns-in_ok-inner-in-Parenthesized t c clear n a =
    let s = c.args.scopes.now.spellings.now in
    let scopes : Scopes = scopes_view c.args.scopes.now in
    let e : Expr = expr_in s c.get.result.now in
    let opened : Word = at (n + 1) k.LeftParenthesis c.in-Parenthesized.field-0 in
    let closed : Word = at (n + 1) k.RightParenthesis c.in-Parenthesized.closed in
    subst (FactorIs scopes n a c.parenthesized.result)
    (parenthesized_seen s c.args.factor.now c.in-Parenthesized.field-0 c.in-Parenthesized.inner c.get.result.now
    c.in-Parenthesized.closed c.in-Parenthesized.is c.get.ensures)
    (c.parenthesized.ensures (expr_words (n + 1) a e) opened closed (value_of scopes e) refl
    (c.in_ok-inner-in-Parenthesized.ensures clear (n + 1) a))

pub expressions::factor_of-returns-in_err-operand-in-Negated :
    goal.expressions::factor_of-returns-in_err-operand-in-Negated
expressions::factor_of-returns-in_err-operand-in-Negated t c clear n a =
    let s = c.args.scopes.now.spellings.now in
    let scopes : Scopes = scopes_view c.args.scopes.now in
    let f : Factor = factor_in s c.get-in-Negated.result.now in
    let word : Word = operator n (a + 1) k.Not c.in-Negated.field-0 in
    let demand = only boolean scopes.outer.types in
    let why = c.in_err-operand-in-Negated.field-0.0 in
    let result = c.from_residual-in_err-operand-in-Negated.result in
    subst (FactorIs scopes n a result)
    (negated_seen s c.args.factor.now c.in-Negated.field-0 c.in-Negated.factor c.get-in-Negated.result.now
    c.in-Negated.is c.get-in-Negated.ensures)
    (answers_stop (word ∷ factor_words n (a + 1) f) (factor_of scopes (tree.negated c.in-Negated.field-0 f)) value_view
    why result (err_from_is_err_and _ c.from_residual-in_err-operand-in-Negated.ensures.1)
    (behind_word_stops (factor_words n (a + 1) f) word typed.negated (noted demand (factor_of scopes f)) why
    (noted_stops_by (factor_words n (a + 1) f) demand (factor_of scopes f) why
    (c.in_err-operand-in-Negated.ensures clear n (a + 1)))))

pub expressions::factor_of-returns-in_ok-operand-in-Negated :
    goal.expressions::factor_of-returns-in_ok-operand-in-Negated
expressions::factor_of-returns-in_ok-operand-in-Negated t c clear n a =
    let s = c.args.scopes.now.spellings.now in
    let scopes : Scopes = scopes_view c.args.scopes.now in
    let f : Factor = factor_in s c.get-in-Negated.result.now in
    let word : Word = operator n (a + 1) k.Not c.in-Negated.field-0 in
    subst (FactorIs scopes n a c.negated_of.result)
    (negated_seen s c.args.factor.now c.in-Negated.field-0 c.in-Negated.factor c.get-in-Negated.result.now
    c.in-Negated.is c.get-in-Negated.ensures)
    (c.negated_of.ensures (factor_words n (a + 1) f) word (factor_of scopes f)
    (c.in_ok-operand-in-Negated.ensures clear n (a + 1)))

pub expressions::factor_of-returns-in-Literal : goal.expressions::factor_of-returns-in-Literal
expressions::factor_of-returns-in-Literal t c clear n a =
    let s = c.args.scopes.now.spellings.now in
    let scopes : Scopes = scopes_view c.args.scopes.now in
    subst (λ (f : Factor). EndsAs (factor_words n a f) (factor_of scopes f) (value_view c.literal.result.value)
    (end_in c.literal.result.end)) (literal_seen s c.args.factor.now c.in-Literal.numeral c.in-Literal.is)
    (c.literal.ensures n)

pub expressions::factor_of-returns-in-Text : goal.expressions::factor_of-returns-in-Text
expressions::factor_of-returns-in-Text t c clear n a =
    let s = c.args.scopes.now.spellings.now in
    let scopes : Scopes = scopes_view c.args.scopes.now in
    subst (FactorIs scopes n a c.literal_text.result) (text_seen s c.args.factor.now c.in-Text.quoted c.in-Text.is)
    (c.literal_text.ensures n)

pub expressions::factor_of-returns-in-Variable : goal.expressions::factor_of-returns-in-Variable
expressions::factor_of-returns-in-Variable t c clear n a =
    let s = c.args.scopes.now.spellings.now in
    let scopes : Scopes = scopes_view c.args.scopes.now in
    subst (FactorIs scopes n a c.variable_value.result)
    (variable_seen s c.args.factor.now c.in-Variable.variable c.get-in-Variable.result.now c.in-Variable.is
    c.get-in-Variable.ensures) (c.variable_value.ensures clear n a)

pub expressions::factor_of-returns-in-Call : goal.expressions::factor_of-returns-in-Call
expressions::factor_of-returns-in-Call t c clear n a =
    let s = c.args.scopes.now.spellings.now in
    let scopes : Scopes = scopes_view c.args.scopes.now in
    subst (FactorIs scopes n a c.called.result)
    (call_seen s c.args.factor.now c.in-Call.call c.get-in-Call.result.now c.in-Call.is c.get-in-Call.ensures)
    (c.called.ensures clear n a)

-- terms

pub expressions::term_of-returns-in-FirstFactor : goal.expressions::term_of-returns-in-FirstFactor
expressions::term_of-returns-in-FirstFactor t c clear n a =
    let s = c.args.scopes.now.spellings.now in
    let scopes : Scopes = scopes_view c.args.scopes.now in
    subst (TermIs scopes n a c.factor_of.result) (first_factor_seen s c.args.term.now c.in-FirstFactor.factor
    c.in-FirstFactor.is) (c.factor_of.ensures clear n a)

pub expressions::term_of-returns-in_err-first-in-MoreFactors :
    goal.expressions::term_of-returns-in_err-first-in-MoreFactors
expressions::term_of-returns-in_err-first-in-MoreFactors t c clear n a =
    let s = c.args.scopes.now.spellings.now in
    let scopes : Scopes = scopes_view c.args.scopes.now in
    let one : Term = term_in s c.get.result.now in
    let other : Factor = factor_in s c.in-MoreFactors.right in
    let op = lined_in c.in-MoreFactors.multiplying in
    let word : Word = operator n (a + 1 + term_depth one) (multiplying_kind op.item) op.line in
    let words : List Word = term_words n a one in
    let more : List Word = factor_words n (a + 1) other in
    let table : Table = scopes.outer.types in
    let why = c.in_err-first-in-MoreFactors.field-0.0 in
    let result = c.from_residual.result in
    subst (TermIs scopes n a result)
    (more_factors_seen s c.args.term.now c.in-MoreFactors.left c.get.result.now c.in-MoreFactors.right
    c.in-MoreFactors.right
    c.in-MoreFactors.multiplying c.in-MoreFactors.is c.get.ensures refl)
    (answers_stop (words ++ word ∷ more) (term_of scopes (tree.more_factors one op other)) value_view why result
    (err_from_is_err_and _ c.from_residual.ensures.1)
    (first_stops words more word (λ one other. typed.product one op.item other) (only (product_base op.item) table)
    (only (product_base op.item) table) (term_of scopes one) (factor_of scopes other)
    (factor_many scopes n (a + 1) other) why (c.in_err-first-in-MoreFactors.ensures clear n a)))

pub expressions::term_of-returns-in_err-first-in-MoreFactors-2 :
    goal.expressions::term_of-returns-in_err-first-in-MoreFactors-2
expressions::term_of-returns-in_err-first-in-MoreFactors-2 t c clear n a =
    let s = c.args.scopes.now.spellings.now in
    let scopes : Scopes = scopes_view c.args.scopes.now in
    let one : Term = term_in s c.get.result.now in
    let other : Factor = factor_in s c.in-MoreFactors.right in
    let op = lined_in c.in-MoreFactors.multiplying in
    let word : Word = operator n (a + 1 + term_depth one) (multiplying_kind op.item) op.line in
    let words : List Word = term_words n a one in
    let more : List Word = factor_words n (a + 1) other in
    let table : Table = scopes.outer.types in
    let found = c.in_ok-first-in-MoreFactors.first in
    let next = c.only.result in
    let why = c.in_err-first-in-MoreFactors-2.field-0.0 in
    let result = c.from_residual-in_err-first-in-MoreFactors-2.result in
    subst (TermIs scopes n a result)
    (more_factors_seen s c.args.term.now c.in-MoreFactors.left c.get.result.now c.in-MoreFactors.right
    c.in-MoreFactors.right
    c.in-MoreFactors.multiplying c.in-MoreFactors.is c.get.ensures refl)
    (answers_stop (words ++ word ∷ more) (term_of scopes (tree.more_factors one op other)) value_view why result
    (err_from_is_err_and _ c.from_residual-in_err-first-in-MoreFactors-2.ensures.1)
    (first_unsettled words more word (λ one other. typed.product one op.item other) (only (product_base op.item) table)
    (only (product_base op.item) table) (term_of scopes one) (factor_of scopes other)
    (factor_many scopes n (a + 1) other) (factor_some n (a + 1) other) value_view found next
    (is_of (product_base op.item) table (type_of (value_view found.value))) WRONG_TYPE op.line why refl
    c.only.ensures.value
    (c.only.ensures.end
    ∙ ap (λ (base : Base). noted_end (is_of base table (type_of (value_view found.value))) WRONG_TYPE
    (end_in found.end)) c.product_base.ensures) refl c.in_err-first-in-MoreFactors-2.ensures
    (c.in_ok-first-in-MoreFactors.ensures clear n a)))

pub expressions::term_of-returns-in_err-second-in-MoreFactors :
    goal.expressions::term_of-returns-in_err-second-in-MoreFactors
expressions::term_of-returns-in_err-second-in-MoreFactors t c clear n a =
    let s = c.args.scopes.now.spellings.now in
    let scopes : Scopes = scopes_view c.args.scopes.now in
    let one : Term = term_in s c.get.result.now in
    let other : Factor = factor_in s c.get-in-MoreFactors.result.now in
    let op = lined_in c.in-MoreFactors.multiplying in
    let word : Word = operator n (a + 1 + term_depth one) (multiplying_kind op.item) op.line in
    let words : List Word = term_words n a one in
    let more : List Word = factor_words n (a + 1) other in
    let table : Table = scopes.outer.types in
    let found = c.in_ok-first-in-MoreFactors.first in
    let next = c.only.result in
    let why = c.in_err-second-in-MoreFactors.field-0.0 in
    let result = c.from_residual-in_err-second-in-MoreFactors.result in
    subst (TermIs scopes n a result)
    (more_factors_seen s c.args.term.now c.in-MoreFactors.left c.get.result.now c.in-MoreFactors.right
    c.get-in-MoreFactors.result.now
    c.in-MoreFactors.multiplying c.in-MoreFactors.is c.get.ensures c.get-in-MoreFactors.ensures)
    (answers_stop (words ++ word ∷ more) (term_of scopes (tree.more_factors one op other)) value_view why result
    (err_from_is_err_and _ c.from_residual-in_err-second-in-MoreFactors.ensures.1)
    (second_stops words more word (λ one other. typed.product one op.item other) (only (product_base op.item) table)
    (only (product_base op.item) table) (term_of scopes one) (factor_of scopes other)
    (value_view c.in_ok-first-in-MoreFactors-2.first) (end_in next.end).line why
    (factor_many scopes n (a + 1) other)
    (first_settled words more word (λ one other. typed.product one op.item other) (only (product_base op.item) table)
    (only (product_base op.item) table) (term_of scopes one) (factor_of scopes other)
    value_view found next c.in_ok-first-in-MoreFactors-2.first
    (is_of (product_base op.item) table (type_of (value_view found.value))) WRONG_TYPE op.line refl
    c.only.ensures.value
    (c.only.ensures.end
    ∙ ap (λ (base : Base). noted_end (is_of base table (type_of (value_view found.value))) WRONG_TYPE
    (end_in found.end)) c.product_base.ensures) c.in_ok-first-in-MoreFactors-2.ensures
    (c.in_ok-first-in-MoreFactors.ensures clear n a))
    (c.in_err-second-in-MoreFactors.ensures clear n (a + 1))))

pub expressions::term_of-returns-in_ok-second-in-MoreFactors :
    goal.expressions::term_of-returns-in_ok-second-in-MoreFactors
expressions::term_of-returns-in_ok-second-in-MoreFactors t c clear n a =
    let s = c.args.scopes.now.spellings.now in
    let scopes : Scopes = scopes_view c.args.scopes.now in
    let one : Term = term_in s c.get.result.now in
    let other : Factor = factor_in s c.get-in-MoreFactors.result.now in
    let op = lined_in c.in-MoreFactors.multiplying in
    let word : Word = operator n (a + 1 + term_depth one) (multiplying_kind op.item) op.line in
    let words : List Word = term_words n a one in
    let more : List Word = factor_words n (a + 1) other in
    let table : Table = scopes.outer.types in
    let found = c.in_ok-first-in-MoreFactors.first in
    let next = c.only.result in
    subst (TermIs scopes n a c.product_of.result)
    (more_factors_seen s c.args.term.now c.in-MoreFactors.left c.get.result.now c.in-MoreFactors.right
    c.get-in-MoreFactors.result.now
    c.in-MoreFactors.multiplying c.in-MoreFactors.is c.get.ensures c.get-in-MoreFactors.ensures)
    (c.product_of.ensures words more word (term_of scopes one) (factor_of scopes other)
    (end_in next.end).line
    (first_settled words more word (λ one other. typed.product one op.item other) (only (product_base op.item) table)
    (only (product_base op.item) table) (term_of scopes one) (factor_of scopes other)
    value_view found next c.in_ok-first-in-MoreFactors-2.first
    (is_of (product_base op.item) table (type_of (value_view found.value))) WRONG_TYPE op.line refl
    c.only.ensures.value
    (c.only.ensures.end
    ∙ ap (λ (base : Base). noted_end (is_of base table (type_of (value_view found.value))) WRONG_TYPE
    (end_in found.end)) c.product_base.ensures) c.in_ok-first-in-MoreFactors-2.ensures
    (c.in_ok-first-in-MoreFactors.ensures clear n a))
    (c.in_ok-second-in-MoreFactors.ensures clear n (a + 1)))

-- sums

pub expressions::sum_of-returns-in-FirstTerm : goal.expressions::sum_of-returns-in-FirstTerm
expressions::sum_of-returns-in-FirstTerm t c clear n a =
    let s = c.args.scopes.now.spellings.now in
    let scopes : Scopes = scopes_view c.args.scopes.now in
    subst (SumIs scopes n a c.term_of.result) (first_term_seen s c.args.sum.now c.in-FirstTerm.term c.in-FirstTerm.is)
    (c.term_of.ensures clear n a)

pub expressions::sum_of-returns-in_err-operand-in-SignedTerm :
    goal.expressions::sum_of-returns-in_err-operand-in-SignedTerm
expressions::sum_of-returns-in_err-operand-in-SignedTerm t c clear n a =
    let s = c.args.scopes.now.spellings.now in
    let scopes : Scopes = scopes_view c.args.scopes.now in
    let term : Term = term_in s c.in-SignedTerm.term in
    let lead = lined_in c.in-SignedTerm.sign in
    let word : Word = operator n (a + 1) (sign_kind lead.item) lead.line in
    let words : List Word = term_words n (a + 1) term in
    let demand = only integer scopes.outer.types in
    let why = c.in_err-operand-in-SignedTerm.field-0.0 in
    let result = c.from_residual.result in
    subst (SumIs scopes n a result)
    (signed_term_seen s c.args.sum.now c.in-SignedTerm.sign c.in-SignedTerm.term c.in-SignedTerm.is)
    (answers_stop (word ∷ words) (sum_of scopes (tree.signed_term lead term)) value_view why result
    (err_from_is_err_and _ c.from_residual.ensures.1)
    (behind_word_stops words word (typed.signed lead.item) (noted demand (term_of scopes term)) why
    (noted_stops_by words demand (term_of scopes term) why
    (c.in_err-operand-in-SignedTerm.ensures clear n (a + 1)))))

pub expressions::sum_of-returns-in_ok-operand-in-SignedTerm :
    goal.expressions::sum_of-returns-in_ok-operand-in-SignedTerm
expressions::sum_of-returns-in_ok-operand-in-SignedTerm t c clear n a =
    let s = c.args.scopes.now.spellings.now in
    let scopes : Scopes = scopes_view c.args.scopes.now in
    let term : Term = term_in s c.in-SignedTerm.term in
    let lead = lined_in c.in-SignedTerm.sign in
    let word : Word = operator n (a + 1) (sign_kind lead.item) lead.line in
    let words : List Word = term_words n (a + 1) term in
    subst (SumIs scopes n a c.signed_of.result)
    (signed_term_seen s c.args.sum.now c.in-SignedTerm.sign c.in-SignedTerm.term c.in-SignedTerm.is)
    (c.signed_of.ensures words word (term_of scopes term) (c.in_ok-operand-in-SignedTerm.ensures clear n (a + 1)))

pub expressions::sum_of-returns-in_err-first-in-MoreTerms : goal.expressions::sum_of-returns-in_err-first-in-MoreTerms
expressions::sum_of-returns-in_err-first-in-MoreTerms t c clear n a =
    let s = c.args.scopes.now.spellings.now in
    let scopes : Scopes = scopes_view c.args.scopes.now in
    let one : Sum = sum_in s c.get.result.now in
    let other : Term = term_in s c.in-MoreTerms.right in
    let op = lined_in c.in-MoreTerms.adding in
    let word : Word = operator n (a + 1 + sum_depth one) (adding_kind op.item) op.line in
    let words : List Word = sum_words n a one in
    let more : List Word = term_words n (a + 1) other in
    let table : Table = scopes.outer.types in
    let why = c.in_err-first-in-MoreTerms.field-0.0 in
    let result = c.from_residual-in_err-first-in-MoreTerms.result in
    subst (SumIs scopes n a result)
    (more_terms_seen s c.args.sum.now c.in-MoreTerms.left c.get.result.now c.in-MoreTerms.right c.in-MoreTerms.right
    c.in-MoreTerms.adding c.in-MoreTerms.is c.get.ensures refl)
    (answers_stop (words ++ word ∷ more) (sum_of scopes (tree.more_terms one op other)) value_view why result
    (err_from_is_err_and _ c.from_residual-in_err-first-in-MoreTerms.ensures.1)
    (first_stops words more word (λ one other. typed.addition one op.item other) (only (addition_base op.item) table)
    (only (addition_base op.item) table) (sum_of scopes one) (term_of scopes other)
    (term_many scopes n (a + 1) other) why (c.in_err-first-in-MoreTerms.ensures clear n a)))

pub expressions::sum_of-returns-in_err-first-in-MoreTerms-2 :
    goal.expressions::sum_of-returns-in_err-first-in-MoreTerms-2
expressions::sum_of-returns-in_err-first-in-MoreTerms-2 t c clear n a =
    let s = c.args.scopes.now.spellings.now in
    let scopes : Scopes = scopes_view c.args.scopes.now in
    let one : Sum = sum_in s c.get.result.now in
    let other : Term = term_in s c.in-MoreTerms.right in
    let op = lined_in c.in-MoreTerms.adding in
    let word : Word = operator n (a + 1 + sum_depth one) (adding_kind op.item) op.line in
    let words : List Word = sum_words n a one in
    let more : List Word = term_words n (a + 1) other in
    let table : Table = scopes.outer.types in
    let found = c.in_ok-first-in-MoreTerms.first in
    let next = c.only.result in
    let why = c.in_err-first-in-MoreTerms-2.field-0.0 in
    let result = c.from_residual-in_err-first-in-MoreTerms-2.result in
    subst (SumIs scopes n a result)
    (more_terms_seen s c.args.sum.now c.in-MoreTerms.left c.get.result.now c.in-MoreTerms.right c.in-MoreTerms.right
    c.in-MoreTerms.adding c.in-MoreTerms.is c.get.ensures refl)
    (answers_stop (words ++ word ∷ more) (sum_of scopes (tree.more_terms one op other)) value_view why result
    (err_from_is_err_and _ c.from_residual-in_err-first-in-MoreTerms-2.ensures.1)
    (first_unsettled words more word (λ one other. typed.addition one op.item other) (only (addition_base op.item)
    table)
    (only (addition_base op.item) table) (sum_of scopes one) (term_of scopes other)
    (term_many scopes n (a + 1) other) (term_some n (a + 1) other) value_view found next
    (is_of (addition_base op.item) table (type_of (value_view found.value))) WRONG_TYPE op.line why refl
    c.only.ensures.value
    (c.only.ensures.end
    ∙ ap (λ (base : Base). noted_end (is_of base table (type_of (value_view found.value))) WRONG_TYPE
    (end_in found.end)) c.addition_base.ensures) refl c.in_err-first-in-MoreTerms-2.ensures
    (c.in_ok-first-in-MoreTerms.ensures clear n a)))

pub expressions::sum_of-returns-in_err-second-in-MoreTerms :
    goal.expressions::sum_of-returns-in_err-second-in-MoreTerms
expressions::sum_of-returns-in_err-second-in-MoreTerms t c clear n a =
    let s = c.args.scopes.now.spellings.now in
    let scopes : Scopes = scopes_view c.args.scopes.now in
    let one : Sum = sum_in s c.get.result.now in
    let other : Term = term_in s c.get-in-MoreTerms.result.now in
    let op = lined_in c.in-MoreTerms.adding in
    let word : Word = operator n (a + 1 + sum_depth one) (adding_kind op.item) op.line in
    let words : List Word = sum_words n a one in
    let more : List Word = term_words n (a + 1) other in
    let table : Table = scopes.outer.types in
    let found = c.in_ok-first-in-MoreTerms.first in
    let next = c.only.result in
    let why = c.in_err-second-in-MoreTerms.field-0.0 in
    let result = c.from_residual-in_err-second-in-MoreTerms.result in
    subst (SumIs scopes n a result)
    (more_terms_seen s c.args.sum.now c.in-MoreTerms.left c.get.result.now c.in-MoreTerms.right
    c.get-in-MoreTerms.result.now
    c.in-MoreTerms.adding c.in-MoreTerms.is c.get.ensures c.get-in-MoreTerms.ensures)
    (answers_stop (words ++ word ∷ more) (sum_of scopes (tree.more_terms one op other)) value_view why result
    (err_from_is_err_and _ c.from_residual-in_err-second-in-MoreTerms.ensures.1)
    (second_stops words more word (λ one other. typed.addition one op.item other) (only (addition_base op.item) table)
    (only (addition_base op.item) table) (sum_of scopes one) (term_of scopes other)
    (value_view c.in_ok-first-in-MoreTerms-2.first) (end_in next.end).line why
    (term_many scopes n (a + 1) other)
    (first_settled words more word (λ one other. typed.addition one op.item other) (only (addition_base op.item) table)
    (only (addition_base op.item) table) (sum_of scopes one) (term_of scopes other)
    value_view found next c.in_ok-first-in-MoreTerms-2.first
    (is_of (addition_base op.item) table (type_of (value_view found.value))) WRONG_TYPE op.line refl
    c.only.ensures.value
    (c.only.ensures.end
    ∙ ap (λ (base : Base). noted_end (is_of base table (type_of (value_view found.value))) WRONG_TYPE
    (end_in found.end)) c.addition_base.ensures) c.in_ok-first-in-MoreTerms-2.ensures
    (c.in_ok-first-in-MoreTerms.ensures clear n a))
    (c.in_err-second-in-MoreTerms.ensures clear n (a + 1))))

pub expressions::sum_of-returns-in_ok-second-in-MoreTerms : goal.expressions::sum_of-returns-in_ok-second-in-MoreTerms
expressions::sum_of-returns-in_ok-second-in-MoreTerms t c clear n a =
    let s = c.args.scopes.now.spellings.now in
    let scopes : Scopes = scopes_view c.args.scopes.now in
    let one : Sum = sum_in s c.get.result.now in
    let other : Term = term_in s c.get-in-MoreTerms.result.now in
    let op = lined_in c.in-MoreTerms.adding in
    let word : Word = operator n (a + 1 + sum_depth one) (adding_kind op.item) op.line in
    let words : List Word = sum_words n a one in
    let more : List Word = term_words n (a + 1) other in
    let table : Table = scopes.outer.types in
    let found = c.in_ok-first-in-MoreTerms.first in
    let next = c.only.result in
    subst (SumIs scopes n a c.addition_of.result)
    (more_terms_seen s c.args.sum.now c.in-MoreTerms.left c.get.result.now c.in-MoreTerms.right
    c.get-in-MoreTerms.result.now
    c.in-MoreTerms.adding c.in-MoreTerms.is c.get.ensures c.get-in-MoreTerms.ensures)
    (c.addition_of.ensures words more word (sum_of scopes one) (term_of scopes other)
    (end_in next.end).line
    (first_settled words more word (λ one other. typed.addition one op.item other) (only (addition_base op.item) table)
    (only (addition_base op.item) table) (sum_of scopes one) (term_of scopes other)
    value_view found next c.in_ok-first-in-MoreTerms-2.first
    (is_of (addition_base op.item) table (type_of (value_view found.value))) WRONG_TYPE op.line refl
    c.only.ensures.value
    (c.only.ensures.end
    ∙ ap (λ (base : Base). noted_end (is_of base table (type_of (value_view found.value))) WRONG_TYPE
    (end_in found.end)) c.addition_base.ensures) c.in_ok-first-in-MoreTerms-2.ensures
    (c.in_ok-first-in-MoreTerms.ensures clear n a))
    (c.in_ok-second-in-MoreTerms.ensures clear n (a + 1)))

-- expressions

pub expressions::value_of-returns-in-Sum : goal.expressions::value_of-returns-in-Sum
expressions::value_of-returns-in-Sum t c clear n a =
    let s = c.args.scopes.now.spellings.now in
    let scopes : Scopes = scopes_view c.args.scopes.now in
    subst (ExprIs scopes n a c.sum_of.result) (sum_seen s c.args.expr.now c.in-Sum.sum c.in-Sum.is)
    (c.sum_of.ensures clear n a)

pub expressions::value_of-returns-in_err-first-in-Relation :
    goal.expressions::value_of-returns-in_err-first-in-Relation
expressions::value_of-returns-in_err-first-in-Relation t c clear n a =
    let s = c.args.scopes.now.spellings.now in
    let scopes : Scopes = scopes_view c.args.scopes.now in
    let one : Sum = sum_in s c.get.result.now in
    let other : Sum = sum_in s c.in-Relation.right in
    let op = lined_in c.in-Relation.relation in
    let word : Word = operator n (a + 1 + sum_depth one) (relation_kind op.item) op.line in
    let words : List Word = sum_words n a one in
    let more : List Word = sum_words n (a + 1) other in
    let table : Table = scopes.outer.types in
    let why = c.in_err-first-in-Relation.field-0.0 in
    let result = c.from_residual.result in
    subst (ExprIs scopes n a result)
    (relation_seen s c.args.expr.now c.in-Relation.left c.get.result.now c.in-Relation.right c.in-Relation.right
    c.in-Relation.relation c.in-Relation.is c.get.ensures refl)
    (answers_stop (words ++ word ∷ more) (value_of scopes (tree.relation one op other)) value_view why result
    (err_from_is_err_and _ c.from_residual.ensures.1)
    (first_stops words more word (λ one other. typed.comparison one op.item other) (ordinal_only table)
    (like table (noted (ordinal_only table) (sum_of scopes one)).value) (sum_of scopes one) (sum_of scopes other)
    (sum_many scopes n (a + 1) other) why (c.in_err-first-in-Relation.ensures clear n a)))

pub expressions::value_of-returns-in_err-first-in-Relation-2 :
    goal.expressions::value_of-returns-in_err-first-in-Relation-2
expressions::value_of-returns-in_err-first-in-Relation-2 t c clear n a =
    let s = c.args.scopes.now.spellings.now in
    let scopes : Scopes = scopes_view c.args.scopes.now in
    let one : Sum = sum_in s c.get.result.now in
    let other : Sum = sum_in s c.in-Relation.right in
    let op = lined_in c.in-Relation.relation in
    let word : Word = operator n (a + 1 + sum_depth one) (relation_kind op.item) op.line in
    let words : List Word = sum_words n a one in
    let more : List Word = sum_words n (a + 1) other in
    let table : Table = scopes.outer.types in
    let found = c.in_ok-first-in-Relation.first in
    let next = c.ordinal.result in
    let why = c.in_err-first-in-Relation-2.field-0.0 in
    let result = c.from_residual-in_err-first-in-Relation-2.result in
    subst (ExprIs scopes n a result)
    (relation_seen s c.args.expr.now c.in-Relation.left c.get.result.now c.in-Relation.right c.in-Relation.right
    c.in-Relation.relation c.in-Relation.is c.get.ensures refl)
    (answers_stop (words ++ word ∷ more) (value_of scopes (tree.relation one op other)) value_view why result
    (err_from_is_err_and _ c.from_residual-in_err-first-in-Relation-2.ensures.1)
    (first_unsettled words more word (λ one other. typed.comparison one op.item other) (ordinal_only table)
    (like table (noted (ordinal_only table) (sum_of scopes one)).value) (sum_of scopes one) (sum_of scopes other)
    (sum_many scopes n (a + 1) other) (sum_some n (a + 1) other) value_view found next
    (is_some (base_of table (type_of (value_view found.value)))) WRONG_TYPE op.line why refl c.ordinal.ensures.value
    c.ordinal.ensures.end refl c.in_err-first-in-Relation-2.ensures
    (c.in_ok-first-in-Relation.ensures clear n a)))

pub expressions::value_of-returns-in_err-second-in-Relation :
    goal.expressions::value_of-returns-in_err-second-in-Relation
expressions::value_of-returns-in_err-second-in-Relation t c clear n a =
    let s = c.args.scopes.now.spellings.now in
    let scopes : Scopes = scopes_view c.args.scopes.now in
    let one : Sum = sum_in s c.get.result.now in
    let other : Sum = sum_in s c.get-in-Relation.result.now in
    let op = lined_in c.in-Relation.relation in
    let word : Word = operator n (a + 1 + sum_depth one) (relation_kind op.item) op.line in
    let words : List Word = sum_words n a one in
    let more : List Word = sum_words n (a + 1) other in
    let table : Table = scopes.outer.types in
    let found = c.in_ok-first-in-Relation.first in
    let next = c.ordinal.result in
    let why = c.in_err-second-in-Relation.field-0.0 in
    let result = c.from_residual-in_err-second-in-Relation.result in
    subst (ExprIs scopes n a result)
    (relation_seen s c.args.expr.now c.in-Relation.left c.get.result.now c.in-Relation.right
    c.get-in-Relation.result.now
    c.in-Relation.relation c.in-Relation.is c.get.ensures c.get-in-Relation.ensures)
    (answers_stop (words ++ word ∷ more) (value_of scopes (tree.relation one op other)) value_view why result
    (err_from_is_err_and _ c.from_residual-in_err-second-in-Relation.ensures.1)
    (second_stops words more word (λ one other. typed.comparison one op.item other) (ordinal_only table)
    (like table (noted (ordinal_only table) (sum_of scopes one)).value) (sum_of scopes one) (sum_of scopes other)
    (value_view c.in_ok-first-in-Relation-2.first) (end_in next.end).line why
    (sum_many scopes n (a + 1) other)
    (first_settled words more word (λ one other. typed.comparison one op.item other) (ordinal_only table)
    (like table (noted (ordinal_only table) (sum_of scopes one)).value) (sum_of scopes one) (sum_of scopes other)
    value_view found next c.in_ok-first-in-Relation-2.first
    (is_some (base_of table (type_of (value_view found.value)))) WRONG_TYPE op.line refl c.ordinal.ensures.value
    c.ordinal.ensures.end c.in_ok-first-in-Relation-2.ensures
    (c.in_ok-first-in-Relation.ensures clear n a))
    (c.in_err-second-in-Relation.ensures clear n (a + 1))))

pub expressions::value_of-returns-in_ok-second-in-Relation :
    goal.expressions::value_of-returns-in_ok-second-in-Relation
expressions::value_of-returns-in_ok-second-in-Relation t c clear n a =
    let s = c.args.scopes.now.spellings.now in
    let scopes : Scopes = scopes_view c.args.scopes.now in
    let one : Sum = sum_in s c.get.result.now in
    let other : Sum = sum_in s c.get-in-Relation.result.now in
    let op = lined_in c.in-Relation.relation in
    let word : Word = operator n (a + 1 + sum_depth one) (relation_kind op.item) op.line in
    let words : List Word = sum_words n a one in
    let more : List Word = sum_words n (a + 1) other in
    let table : Table = scopes.outer.types in
    let found = c.in_ok-first-in-Relation.first in
    let next = c.ordinal.result in
    subst (ExprIs scopes n a c.comparison_of.result)
    (relation_seen s c.args.expr.now c.in-Relation.left c.get.result.now c.in-Relation.right
    c.get-in-Relation.result.now
    c.in-Relation.relation c.in-Relation.is c.get.ensures c.get-in-Relation.ensures)
    (c.comparison_of.ensures words more word (sum_of scopes one) (sum_of scopes other)
    (end_in next.end).line
    (first_settled words more word (λ one other. typed.comparison one op.item other) (ordinal_only table)
    (like table (noted (ordinal_only table) (sum_of scopes one)).value) (sum_of scopes one) (sum_of scopes other)
    value_view found next c.in_ok-first-in-Relation-2.first
    (is_some (base_of table (type_of (value_view found.value)))) WRONG_TYPE op.line refl c.ordinal.ensures.value
    c.ordinal.ensures.end c.in_ok-first-in-Relation-2.ensures
    (c.in_ok-first-in-Relation.ensures clear n a))
    (c.in_ok-second-in-Relation.ensures clear n (a + 1)))

-- variables as values

pub expressions::variable_value-returns-in_err-place_of : goal.expressions::variable_value-returns-in_err-place_of
expressions::variable_value-returns-in_err-place_of t c clear n a =
    let s = c.args.scopes.now.spellings.now in
    let scopes : Scopes = scopes_view c.args.scopes.now in
    let code = c.args.variable.now in
    let v : Variable = variable_in s code in
    let words : List Word = variable_words n a v in
    let same : read_of (place_of scopes v) ≡ variable_value scopes v =
    subst (λ (v : Variable). read_of (place_of scopes v) ≡ variable_value scopes v) (variable_out s code)
    (some_read scopes s (out-Variable code).selectors (tree.whole (ident_in s (out-Variable code).name))
    (λ none. true_false c.is_empty.result (c.is_empty.ensures.1 none) c.if-is_empty.false)) in
    let why = c.in_err-place_of.field-0.0 in
    subst (λ (part : Judged Value). Answers words part value_view c.from_residual.result) same
    (answers_stop words (read_of (place_of scopes v)) value_view why c.from_residual.result
    (err_from_is_err_and _ c.from_residual.ensures.1)
    (made_stops words typed.read (place_of scopes v) why (c.in_err-place_of.ensures clear n a)))

pub expressions::variable_value-returns-in_ok-place_of : goal.expressions::variable_value-returns-in_ok-place_of
expressions::variable_value-returns-in_ok-place_of t c clear n a =
    let s = c.args.scopes.now.spellings.now in
    let scopes : Scopes = scopes_view c.args.scopes.now in
    let code = c.args.variable.now in
    let v : Variable = variable_in s code in
    let words : List Word = variable_words n a v in
    let same : read_of (place_of scopes v) ≡ variable_value scopes v =
    subst (λ (v : Variable). read_of (place_of scopes v) ≡ variable_value scopes v) (variable_out s code)
    (some_read scopes s (out-Variable code).selectors (tree.whole (ident_in s (out-Variable code).name))
    (λ none. true_false c.is_empty.result (c.is_empty.ensures.1 none) c.if-is_empty.false)) in
    subst (λ (part : Judged Value). Answers words part value_view c.read_of.result) same
    (c.read_of.ensures words (place_of scopes v) (c.in_ok-place_of.ensures clear n a))

pub expressions::variable_value-returns-then-is_empty : goal.expressions::variable_value-returns-then-is_empty
expressions::variable_value-returns-then-is_empty t c clear n a =
    let s = c.args.scopes.now.spellings.now in
    let scopes : Scopes = scopes_view c.args.scopes.now in
    let code = c.args.variable.now in
    let whole : Variable = tree.whole (ident_in s (out-Variable code).name) in
    subst (λ (v : Variable). Answers (variable_words n a v) (variable_value scopes v) value_view c.name_alone.result)
    (ap (λ (selectors : List code_selector.Selector). in_turn whole (map (selector_in s) selectors))
    (sym (c.is_empty.ensures.0 c.if-is_empty.true)) ∙ variable_out s code)
    (c.name_alone.ensures clear n)

-- places

pub variables::place_of-returns-in_err-found : goal.variables::place_of-returns-in_err-found
variables::place_of-returns-in_err-found t c clear n a =
    let s = c.args.scopes.now.spellings.now in
    let scopes : Scopes = scopes_view c.args.scopes.now in
    let code = c.args.variable.now in
    let whole : Variable = tree.whole (ident_in s (out-Variable code).name) in
    let selectors : List code_selector.Selector = (out-Variable code).selectors in
    let why = c.in_err-found.field-0.0 in
    let result = c.from_residual.result in
    subst (PlaceIs scopes n a result) (variable_out s code)
    (place_stop scopes n a (in_turn whole (map (selector_in s) selectors)) why result
    (err_from_is_err_and _ c.from_residual.ensures.1)
    (rest_stops scopes n a s why selectors whole (c.in_err-found.ensures clear n)))

pub variables::place_of-returns-in_err-found-2 : goal.variables::place_of-returns-in_err-found-2
variables::place_of-returns-in_err-found-2 t c clear n a =
    let s = c.args.scopes.now.spellings.now in
    let scopes : Scopes = scopes_view c.args.scopes.now in
    let code = c.args.variable.now in
    let whole : Variable = tree.whole (ident_in s (out-Variable code).name) in
    let selectors : List code_selector.Selector = (out-Variable code).selectors in
    let items : List code_selector.Selector = c.as_slice-selector-items.result.now in
    let i = c.loop-selector.selector-index in
    let before : Variable = in_turn whole (map (selector_in s) (take i items)) in
    let next : code_selector.Selector = c.selector-item.result in
    let why = c.in_err-found-2.field-0.0 in
    let result = c.from_residual-in_err-found-2.result in
    subst (PlaceIs scopes n a result)
    (turned_at whole (selector_in s) items i next c.loop-selector-test.true c.selector-item.is
    ∙ (ap (λ (all : List code_selector.Selector). in_turn whole (map (selector_in s) all))
    c.as_slice-selector-items.ensures ∙ variable_out s code))
    (place_stop scopes n a (in_turn (selector_in s next before) (map (selector_in s) (drop (suc i) items))) why result
    (err_from_is_err_and _ c.from_residual-in_err-found-2.ensures.1)
    (rest_stops scopes n a s why (drop (suc i) items) (selector_in s next before)
    (c.in_err-found-2.ensures clear n a before (c.loop-selector.invariant clear n a))))

pub variables::place_of-loop-selector-preserved : goal.variables::place_of-loop-selector-preserved
variables::place_of-loop-selector-preserved t c clear n a =
    let s = c.args.scopes.now.spellings.now in
    let scopes : Scopes = scopes_view c.args.scopes.now in
    let code = c.args.variable.now in
    let whole : Variable = tree.whole (ident_in s (out-Variable code).name) in
    let selectors : List code_selector.Selector = (out-Variable code).selectors in
    let items : List code_selector.Selector = c.as_slice-selector-items.result.now in
    let i = c.loop-selector.selector-index in
    let before : Variable = in_turn whole (map (selector_in s) (take i items)) in
    let next : code_selector.Selector = c.selector-item.result in
    let found = c.in_ok-found-2.found in
    subst (λ (v : Variable). EndsAs (variable_words n a v) (place_of scopes v) (place_view found.value)
    (end_in found.end)) (turned_more whole (selector_in s) items i next c.loop-selector-test.true c.selector-item.is)
    (c.in_ok-found-2.ensures clear n a before (c.loop-selector.invariant clear n a))

pub variables::place_of-returns : goal.variables::place_of-returns
variables::place_of-returns t c clear n a =
    let s = c.args.scopes.now.spellings.now in
    let scopes : Scopes = scopes_view c.args.scopes.now in
    let code = c.args.variable.now in
    let whole : Variable = tree.whole (ident_in s (out-Variable code).name) in
    let selectors : List code_selector.Selector = (out-Variable code).selectors in
    let items : List code_selector.Selector = c.as_slice-selector-items.result.now in
    let i = c.loop-selector.selector-index in
    let before : Variable = in_turn whole (map (selector_in s) (take i items)) in
    let found = c.loop-selector.found in
    subst (λ (v : Variable). EndsAs (variable_words n a v) (place_of scopes v) (place_view found.value)
    (end_in found.end))
    (turned_all whole (selector_in s) items i c.loop-selector-test.false
    ∙ (ap (λ (all : List code_selector.Selector). in_turn whole (map (selector_in s) all))
    c.as_slice-selector-items.ensures ∙ variable_out s code))
    (c.loop-selector.invariant clear n a)

pub variables::select-returns-in_err-array-in-Indexes : goal.variables::select-returns-in_err-array-in-Indexes
variables::select-returns-in_err-array-in-Indexes t c clear n a v h =
    let s = c.args.scopes.now.spellings.now in
    let scopes : Scopes = scopes_view c.args.scopes.now in
    let part : Judged Place = place_of scopes v in
    let value : Place = place_view c.args.found.value in
    let end : Ending = end_in c.args.found.end in
    let words : List Word = variable_words n a v in
    let table : Table = scopes.outer.types in
    let es : Exprs = exprs_in s c.in-Indexes.indexes in
    let opened : Word = at (n + 1) k.LeftBracket c.in-Indexes.opened in
    let closed : Word = at (n + 1) k.RightBracket c.in-Indexes.closed in
    let array : Judged Place = as_array table part in
    let all : List Word = exprs_words (n + 1) a es in
    let index : Expr = first_index es in
    let element : Judged Place = element_by table (value_of scopes index) array.value in
    let why = c.in_err-array-in-Indexes.field-0.0 in
    let result = c.from_residual.result in
    subst (PlaceIs scopes n a result)
    (indexes_seen s c.args.selector.now c.in-Indexes.opened c.in-Indexes.indexes c.in-Indexes.indexes
    c.in-Indexes.closed v
    c.in-Indexes.is refl)
    (place_stop scopes n a (tree.indexed v c.in-Indexes.opened es c.in-Indexes.closed) why result
    (err_from_is_err_and _ c.from_residual.ensures.1)
    (indexed_stops scopes n a v c.in-Indexes.opened es c.in-Indexes.closed why
    (begins_fail scopes (n + 1) a words opened array why es
    (stops_fails (words ++ opened ∷ expr_words (n + 1) a index) (pair other_of array element) why
    (checked_unsettled words (expr_words (n + 1) a index) opened other_of (array_only table) part element
    (element_many table (value_of scopes index) array.value (value_many scopes (n + 1) a index)) value end
    (is_some (elements_of table (type_of_place value))) WRONG_TYPE c.in-Indexes.opened c.array_of.result.value why refl
    refl (expr_some (n + 1) a index)
    (c.in_err-array-in-Indexes.ensures
    ∙ ap (λ (end : Ending). found_before c.in-Indexes.opened (settled_by end c.array_of.result.value))
    c.array_of.ensures.end) h)))))

pub variables::select-returns-in_err-elements_of-in-Indexes :
    goal.variables::select-returns-in_err-elements_of-in-Indexes
variables::select-returns-in_err-elements_of-in-Indexes t c clear n a v h =
    let s = c.args.scopes.now.spellings.now in
    let scopes : Scopes = scopes_view c.args.scopes.now in
    let part : Judged Place = place_of scopes v in
    let value : Place = place_view c.args.found.value in
    let end : Ending = end_in c.args.found.end in
    let words : List Word = variable_words n a v in
    let table : Table = scopes.outer.types in
    let es : Exprs = exprs_in s c.get.result.now in
    let opened : Word = at (n + 1) k.LeftBracket c.in-Indexes.opened in
    let closed : Word = at (n + 1) k.RightBracket c.in-Indexes.closed in
    let array : Judged Place = as_array table part in
    let all : List Word = exprs_words (n + 1) a es in
    let settled = checked_before words (array_only table) part value end
    (is_some (elements_of table (type_of_place value))) WRONG_TYPE c.in-Indexes.opened c.array_of.result.value
    c.in_ok-array-in-Indexes.array refl
    (c.in_ok-array-in-Indexes.ensures
    ∙ ap (λ (end : Ending). found_before c.in-Indexes.opened (settled_by end c.array_of.result.value))
    c.array_of.ensures.end) h in
    let ends : Ends words array (place_view c.in_ok-array-in-Indexes.array) end.line None false =
    subst (λ (item : Place). Ends words array item end.line None false)
    (sym (ap place_view (settled.1 ∙ c.array_of.ensures.value))) settled.2 in
    let why = c.in_err-elements_of-in-Indexes.field-0.0 in
    let result = c.from_residual-in_err-elements_of-in-Indexes.result in
    subst (PlaceIs scopes n a result)
    (indexes_seen s c.args.selector.now c.in-Indexes.opened c.in-Indexes.indexes c.get.result.now c.in-Indexes.closed v
    c.in-Indexes.is c.get.ensures)
    (place_stop scopes n a (tree.indexed v c.in-Indexes.opened es c.in-Indexes.closed) why result
    (err_from_is_err_and _ c.from_residual-in_err-elements_of-in-Indexes.ensures.1)
    (indexed_stops scopes n a v c.in-Indexes.opened es c.in-Indexes.closed why
    (c.in_err-elements_of-in-Indexes.ensures clear (n + 1) a words opened array end.line ends)))

pub variables::select-returns-in_ok-elements_of-in-Indexes :
    goal.variables::select-returns-in_ok-elements_of-in-Indexes
variables::select-returns-in_ok-elements_of-in-Indexes t c clear n a v h =
    let s = c.args.scopes.now.spellings.now in
    let scopes : Scopes = scopes_view c.args.scopes.now in
    let part : Judged Place = place_of scopes v in
    let value : Place = place_view c.args.found.value in
    let end : Ending = end_in c.args.found.end in
    let words : List Word = variable_words n a v in
    let table : Table = scopes.outer.types in
    let es : Exprs = exprs_in s c.get.result.now in
    let opened : Word = at (n + 1) k.LeftBracket c.in-Indexes.opened in
    let closed : Word = at (n + 1) k.RightBracket c.in-Indexes.closed in
    let array : Judged Place = as_array table part in
    let all : List Word = exprs_words (n + 1) a es in
    let settled = checked_before words (array_only table) part value end
    (is_some (elements_of table (type_of_place value))) WRONG_TYPE c.in-Indexes.opened c.array_of.result.value
    c.in_ok-array-in-Indexes.array refl
    (c.in_ok-array-in-Indexes.ensures
    ∙ ap (λ (end : Ending). found_before c.in-Indexes.opened (settled_by end c.array_of.result.value))
    c.array_of.ensures.end) h in
    let ends : Ends words array (place_view c.in_ok-array-in-Indexes.array) end.line None false =
    subst (λ (item : Place). Ends words array item end.line None false)
    (sym (ap place_view (settled.1 ∙ c.array_of.ensures.value))) settled.2 in
    let elements : Judged Place = elements_at scopes array es in
    let found = c.in_ok-elements_of-in-Indexes.field-0 in
    subst (PlaceIs scopes n a c.closed.result)
    (indexes_seen s c.args.selector.now c.in-Indexes.opened c.in-Indexes.indexes c.get.result.now c.in-Indexes.closed v
    c.in-Indexes.is c.get.ensures)
    (subst (λ (all : List Word). Answers all (closed_by elements) place_view c.closed.result)
    (append_assoc words (opened ∷ all) (closed ∷ []))
    (closes_answers (words ++ opened ∷ all) closed elements place_view found c.in-Indexes.closed c.closed.result refl
    c.closed.ensures
    (c.in_ok-elements_of-in-Indexes.ensures clear (n + 1) a words opened array end.line ends).ends))

pub variables::select-returns-in-Field : goal.variables::select-returns-in-Field
variables::select-returns-in-Field t c clear n a v h =
    let s = c.args.scopes.now.spellings.now in
    let scopes : Scopes = scopes_view c.args.scopes.now in
    let part : Judged Place = place_of scopes v in
    let value : Place = place_view c.args.found.value in
    let end : Ending = end_in c.args.found.end in
    let words : List Word = variable_words n a v in
    let table : Table = scopes.outer.types in
    let name : Word = name_at n (ident_in s c.in-Field.ident) in
    subst (PlaceIs scopes n a c.field_of.result) (field_seen s c.args.selector.now c.in-Field.dot c.in-Field.ident v
    c.in-Field.is) (c.field_of.ensures words (at n k.Dot c.in-Field.dot) name part refl refl h)

pub variables::select-returns-in-Buffer : goal.variables::select-returns-in-Buffer
variables::select-returns-in-Buffer t c clear n a v h =
    let s = c.args.scopes.now.spellings.now in
    let scopes : Scopes = scopes_view c.args.scopes.now in
    let part : Judged Place = place_of scopes v in
    let value : Place = place_view c.args.found.value in
    let end : Ending = end_in c.args.found.end in
    let words : List Word = variable_words n a v in
    let table : Table = scopes.outer.types in
    subst (PlaceIs scopes n a c.buffer_of.result) (buffer_seen s c.args.selector.now c.in-Buffer.caret v
    c.in-Buffer.is)
    (c.buffer_of.ensures words (at n k.Caret c.in-Buffer.caret) part refl h)

-- elements

pub variables::element_of-returns-in_err-found-in-Some : goal.variables::element_of-returns-in_err-found-in-Some
variables::element_of-returns-in_err-found-in-Some t c clear n a words word part line h =
    let s = c.args.scopes.now.spellings.now in
    let scopes : Scopes = scopes_view c.args.scopes.now in
    let e : Expr = expr_in s c.args.index.now in
    let more : List Word = expr_words n a e in
    let index : Judged Value = value_of scopes e in
    let value : Place = place_view c.args.place in
    let table : Table = scopes.outer.types in
    let parts : ArrayParts = elements_view c.in-Some.parts in
    let is : elements_of table (type_of_place value) ≡ Some parts =
    ap (elements_of table) c.pas_type.ensures ∙ c.elements_of.ensures s ∙ ap (option_map elements_view) c.in-Some.is in
    let fit = only parts.indexes.base table in
    let why = c.in_err-found-in-Some.field-0.0 in
    let result = c.from_residual.result in
    stands_stop (words ++ word ∷ more) (element_of table part index) place_view why result
    (err_from_is_err_and _ c.from_residual.ensures.1)
    (index_fails words more word table part index value line (Some parts) why (value_many scopes n a e) h is
    (stops_fails more (checked fit index) why
    (checked_stops_by more fit index why (c.in_err-found-in-Some.ensures clear n a))))

pub variables::element_of-returns-in_ok-found-in-Some : goal.variables::element_of-returns-in_ok-found-in-Some
variables::element_of-returns-in_ok-found-in-Some t c clear n a words word part line h =
    let s = c.args.scopes.now.spellings.now in
    let scopes : Scopes = scopes_view c.args.scopes.now in
    let e : Expr = expr_in s c.args.index.now in
    let more : List Word = expr_words n a e in
    let index : Judged Value = value_of scopes e in
    let value : Place = place_view c.args.place in
    let table : Table = scopes.outer.types in
    let parts : ArrayParts = elements_view c.in-Some.parts in
    let is : elements_of table (type_of_place value) ≡ Some parts =
    ap (elements_of table) c.pas_type.ensures ∙ c.elements_of.ensures s ∙ ap (option_map elements_view) c.in-Some.is in
    c.element_by.ensures words more word part index line h is (c.in_ok-found-in-Some.ensures clear n a)

pub variables::element_of-returns-in-None : goal.variables::element_of-returns-in-None
variables::element_of-returns-in-None t c clear n a words word part line h =
    let s = c.args.scopes.now.spellings.now in
    let scopes : Scopes = scopes_view c.args.scopes.now in
    let e : Expr = expr_in s c.args.index.now in
    let more : List Word = expr_words n a e in
    let index : Judged Value = value_of scopes e in
    let value : Place = place_view c.args.place in
    let table : Table = scopes.outer.types in
    index_fails words more word table part index value line None c.one_too_many.result (value_many scopes n a e) h
    (ap (elements_of table) c.pas_type.ensures ∙ c.elements_of.ensures s ∙ ap (option_map elements_view) c.in-None.is)
    (c.one_too_many.ensures.fails n a)

pub variables::elements_of-returns-in_err-found : goal.variables::elements_of-returns-in_err-found
variables::elements_of-returns-in_err-found t c clear n a words word part line h =
    let s = c.args.scopes.now.spellings.now in
    let scopes : Scopes = scopes_view c.args.scopes.now in
    let code = c.args.indexes.now in
    let first : Exprs = tree.first_expr (expr_in s (out-Exprs code).first) in
    let rest : List code_more.MoreExpr = (out-Exprs code).more in
    let why = c.in_err-found.field-0.0 in
    let result = c.from_residual.result in
    subst (ElementsAre scopes n a words word part result) (exprs_out s code)
    (elements_stop scopes n a words word part (in_turn first (map (more_expr_in s) rest)) why result
    (err_from_is_err_and _ c.from_residual.ensures.1)
    (rest_fails scopes n a s words word part why rest first
    (c.in_err-found.ensures clear n a words word part line h)))

pub variables::elements_of-returns : goal.variables::elements_of-returns
variables::elements_of-returns t c clear n a words word part line h =
    let s = c.args.scopes.now.spellings.now in
    let scopes : Scopes = scopes_view c.args.scopes.now in
    let code = c.args.indexes.now in
    let first : Exprs = tree.first_expr (expr_in s (out-Exprs code).first) in
    let rest : List code_more.MoreExpr = (out-Exprs code).more in
    subst (ElementsAre scopes n a words word part c.more_elements.result)
    (ap (λ (more : List code_more.MoreExpr). in_turn first (map (more_expr_in s) more)) c.as_slice.ensures
    ∙ exprs_out s code)
    (c.more_elements.ensures clear n a words word part first
    (c.in_ok-found.ensures clear n a words word part line h))

pub variables::more_elements-returns-in_err-place : goal.variables::more_elements-returns-in_err-place
variables::more_elements-returns-in_err-place t c clear n a words word part before h =
    let s = c.args.scopes.now.spellings.now in
    let scopes : Scopes = scopes_view c.args.scopes.now in
    let items : List code_more.MoreExpr = c.args.indexes.now in
    let i = c.loop-more.more-index in
    let next : code_more.MoreExpr = c.more-item.result in
    let so_far : Exprs = in_turn before (map (more_expr_in s) (take i items)) in
    let stands = c.loop-more.invariant clear n a words word part before h in
    let left : Judged Place = elements_at scopes part so_far in
    let front : List Word = words ++ word ∷ exprs_words n a so_far in
    let comma : Word = at n k.Comma (out-MoreExpr next).line in
    let e : Expr = expr_in s (out-MoreExpr next).value in
    let why = c.in_err-place.field-0.0 in
    let result = c.from_residual.result in
    let found = c.loop-more.found in
    let end : Ending = end_in found.end in
    let element : Judged Place = element_by scopes.outer.types (value_of scopes e) left.value in
    subst (ElementsAre scopes n a words word part result)
    (turned_at before (more_expr_in s) items i next c.loop-more-test.true c.more-item.is)
    (elements_stop scopes n a words word part
    (in_turn (more_expr_in s next so_far) (map (more_expr_in s) (drop (suc i) items))) why result
    (err_from_is_err_and _ c.from_residual.ensures.1)
    (rest_fails scopes n a s words word part why (drop (suc i) items) (more_expr_in s next so_far)
    (subst (IndexesFail scopes n a words word part why) (more_out s next so_far)
    (grouped_fail scopes n a words word part so_far (out-MoreExpr next).line e why
    (stops_fails (front ++ comma ∷ expr_words n a e) (pair other_of left element) why
    (pair_unsettled front (expr_words n a e) comma other_of left element
    (element_many scopes.outer.types (value_of scopes e) left.value (value_many scopes n a e)) (place_view found.value)
    found.value (out-MoreExpr next).line end.line end.refusal end.is_short why refl (expr_some n a e)
    c.in_err-place.ensures stands.ends))))))

pub variables::more_elements-returns-in_err-found : goal.variables::more_elements-returns-in_err-found
variables::more_elements-returns-in_err-found t c clear n a words word part before h =
    let s = c.args.scopes.now.spellings.now in
    let scopes : Scopes = scopes_view c.args.scopes.now in
    let items : List code_more.MoreExpr = c.args.indexes.now in
    let i = c.loop-more.more-index in
    let next : code_more.MoreExpr = c.more-item.result in
    let so_far : Exprs = in_turn before (map (more_expr_in s) (take i items)) in
    let stands = c.loop-more.invariant clear n a words word part before h in
    let left : Judged Place = elements_at scopes part so_far in
    let front : List Word = words ++ word ∷ exprs_words n a so_far in
    let comma : Word = at n k.Comma (out-MoreExpr next).line in
    let e : Expr = expr_in s (out-MoreExpr next).value in
    let why = c.in_err-found.field-0.0 in
    let result = c.from_residual-in_err-found.result in
    let found = c.loop-more.found in
    let end : Ending = end_in found.end in
    let both = before_ends front left (place_view found.value) (out-MoreExpr next).line end.line end.refusal
    end.is_short
    found.value c.in_ok-place.place c.in_ok-place.ensures stands.ends in
    let ends : Ends front left (place_view c.in_ok-place.place) end.line None false =
    subst (λ (item : Place). Ends front left item end.line None false) (sym (ap place_view both.0)) both.1 in
    subst (ElementsAre scopes n a words word part result)
    (turned_at before (more_expr_in s) items i next c.loop-more-test.true c.more-item.is)
    (elements_stop scopes n a words word part
    (in_turn (more_expr_in s next so_far) (map (more_expr_in s) (drop (suc i) items))) why result
    (err_from_is_err_and _ c.from_residual-in_err-found.ensures.1)
    (rest_fails scopes n a s words word part why (drop (suc i) items) (more_expr_in s next so_far)
    (subst (IndexesFail scopes n a words word part why) (more_out s next so_far)
    (grouped_fail scopes n a words word part so_far (out-MoreExpr next).line e why
    (c.in_err-found.ensures clear n a front comma left end.line ends)))))

pub variables::more_elements-loop-more-preserved : goal.variables::more_elements-loop-more-preserved
variables::more_elements-loop-more-preserved t c clear n a words word part before h =
    let s = c.args.scopes.now.spellings.now in
    let scopes : Scopes = scopes_view c.args.scopes.now in
    let items : List code_more.MoreExpr = c.args.indexes.now in
    let i = c.loop-more.more-index in
    let next : code_more.MoreExpr = c.more-item.result in
    let so_far : Exprs = in_turn before (map (more_expr_in s) (take i items)) in
    let stands = c.loop-more.invariant clear n a words word part before h in
    let left : Judged Place = elements_at scopes part so_far in
    let front : List Word = words ++ word ∷ exprs_words n a so_far in
    let comma : Word = at n k.Comma (out-MoreExpr next).line in
    let e : Expr = expr_in s (out-MoreExpr next).value in
    let found = c.loop-more.found in
    let end : Ending = end_in found.end in
    let both = before_ends front left (place_view found.value) (out-MoreExpr next).line end.line end.refusal
    end.is_short
    found.value c.in_ok-place.place c.in_ok-place.ensures stands.ends in
    let ends : Ends front left (place_view c.in_ok-place.place) end.line None false =
    subst (λ (item : Place). Ends front left item end.line None false) (sym (ap place_view both.0)) both.1 in
    let last = c.in_ok-found.found in
    subst (λ (es : Exprs). StandsAs (words ++ word ∷ exprs_words n a es) (elements_at scopes part es)
    (place_view last.value) (end_in last.end))
    (more_out s next so_far ∙ turned_more before (more_expr_in s) items i next c.loop-more-test.true c.more-item.is)
    (subst (λ (all : List Word). StandsAs all (element_of scopes.outer.types left (value_of scopes e))
    (place_view last.value) (end_in last.end))
    (append_assoc words (word ∷ exprs_words n a so_far) (comma ∷ expr_words n a e))
    (c.in_ok-found.ensures clear n a front comma left end.line ends))

pub variables::more_elements-returns : goal.variables::more_elements-returns
variables::more_elements-returns t c clear n a words word part before h =
    let s = c.args.scopes.now.spellings.now in
    let scopes : Scopes = scopes_view c.args.scopes.now in
    let found = c.loop-more.found in
    subst (λ (es : Exprs). StandsAs (words ++ word ∷ exprs_words n a es) (elements_at scopes part es)
    (place_view found.value) (end_in found.end))
    (turned_all before (more_expr_in s) c.args.indexes.now c.loop-more.more-index c.loop-more-test.false)
    (c.loop-more.invariant clear n a words word part before h)

-- calls of functions

pub functions::argument_of-returns-in_err-found-in-Some :
    goal.functions::argument_of-returns-in_err-found-in-Some
functions::argument_of-returns-in_err-found-in-Some t c clear lead deep =
    let scopes = scopes_view c.args.scopes.now in
    let spellings = c.args.scopes.now.spellings.now in
    let expr = expr_in spellings c.args.expr.now in
    let words = expr_words lead deep expr in
    let taker = passing_in spellings scopes.outer.types c.in-Some.parameter.now in
    let why = c.in_err-found-in-Some.field-0.0 in
    seen_parameter spellings scopes.outer.types words (spec.value_of scopes expr) (option_copied c.args.parameter)
    c.in-Some.parameter.now (ap option_copied c.in-Some.is) passed_view c.from_residual.result
    (stands_stop words (taken_as taker (spec.value_of scopes expr)) passed_view why c.from_residual.result
    (err_from_is_err_and _ c.from_residual.ensures.1)
    (stopped_fails words taker (spec.value_of scopes expr) why (c.in_err-found-in-Some.ensures clear lead deep)))

pub functions::argument_of-returns-in_ok-found-in-Some :
    goal.functions::argument_of-returns-in_ok-found-in-Some
functions::argument_of-returns-in_ok-found-in-Some t c clear lead deep =
    let scopes = scopes_view c.args.scopes.now in
    let spellings = c.args.scopes.now.spellings.now in
    let expr = expr_in spellings c.args.expr.now in
    let words = expr_words lead deep expr in
    seen_parameter spellings scopes.outer.types words (spec.value_of scopes expr) (option_copied c.args.parameter)
    c.in-Some.parameter.now (ap option_copied c.in-Some.is) passed_view c.passed_by.result
    (c.passed_by.ensures words (spec.value_of scopes expr) (c.in_ok-found-in-Some.ensures clear lead deep))

pub functions::argument_of-returns-in-None : goal.functions::argument_of-returns-in-None
functions::argument_of-returns-in-None t c clear lead deep =
    let scopes = scopes_view c.args.scopes.now in
    let spellings = c.args.scopes.now.spellings.now in
    let expr = expr_in spellings c.args.expr.now in
    no_parameter spellings scopes.outer.types (expr_words lead deep expr) (spec.value_of scopes expr)
    (option_copied c.args.parameter) (ap option_copied c.in-None.is) c.one_too_many.result
    (c.one_too_many.ensures.fails lead deep)

pub functions::applied-returns-in_err-found : goal.functions::applied-returns-in_err-found
functions::applied-returns-in_err-found t c clear lead deep opened name =
    let scopes = scopes_view c.args.scopes.now in
    let spellings = c.args.scopes.now.spellings.now in
    let exprs = c.args.arguments.now in
    let demand = spec.function_demand scopes.outer.types (function_view c.args.function) in
    let first = expr_in spellings (out-Exprs exprs).first in
    let why = c.in_err-found.field-0.0 in
    stop_made (call_words scopes spellings lead deep name opened c.args.closed exprs)
    (typed.applied (function_view c.args.function))
    (sole_part demand (givens scopes spellings lead deep name opened c.args.closed exprs)) value_view why
    c.from_residual.result (err_from_is_err_and _ c.from_residual.ensures.1)
    (sole_first scopes spellings lead deep name opened c.args.closed exprs demand why
    (stopped_fails (expr_words (lead + 1) deep first) (plainly demand) (spec.value_of scopes first) why
    (c.in_err-found.ensures clear (lead + 1) deep)))

pub functions::applied-returns-in_err-found-2 : goal.functions::applied-returns-in_err-found-2
functions::applied-returns-in_err-found-2 t c clear lead deep opened name =
    let scopes = scopes_view c.args.scopes.now in
    let spellings = c.args.scopes.now.spellings.now in
    let exprs = c.args.arguments.now in
    let demand = spec.function_demand scopes.outer.types (function_view c.args.function) in
    let first = expr_in spellings (out-Exprs exprs).first in
    let why = c.in_err-found-2.field-0.0 in
    stop_made (call_words scopes spellings lead deep name opened c.args.closed exprs)
    (typed.applied (function_view c.args.function))
    (sole_part demand (givens scopes spellings lead deep name opened c.args.closed exprs)) value_view why
    c.from_residual-in_err-found-2.result (err_from_is_err_and _ c.from_residual-in_err-found-2.ensures.1)
    (sole_first scopes spellings lead deep name opened c.args.closed exprs demand why
    (c.in_err-found-2.ensures (expr_words (lead + 1) deep first) (spec.value_of scopes first)
    (c.in_ok-found.ensures clear (lead + 1) deep)))

pub functions::applied-returns-in_err-found-3 : goal.functions::applied-returns-in_err-found-3
functions::applied-returns-in_err-found-3 t c clear lead deep opened name =
    let scopes = scopes_view c.args.scopes.now in
    let spellings = c.args.scopes.now.spellings.now in
    let exprs = c.args.arguments.now in
    let demand = spec.function_demand scopes.outer.types (function_view c.args.function) in
    let first = expr_in spellings (out-Exprs exprs).first in
    let why = c.in_err-found-3.field-0.0 in
    stop_made (call_words scopes spellings lead deep name opened c.args.closed exprs)
    (typed.applied (function_view c.args.function))
    (sole_part demand (givens scopes spellings lead deep name opened c.args.closed exprs)) value_view why
    c.from_residual-in_err-found-3.result (err_from_is_err_and _ c.from_residual-in_err-found-3.ensures.1)
    (c.in_err-found-3.ensures lead deep opened name demand value_view
    (c.in_ok-found-2.ensures (expr_words (lead + 1) deep first) (spec.value_of scopes first)
    (c.in_ok-found.ensures clear (lead + 1) deep)))

pub functions::applied-returns : goal.functions::applied-returns
functions::applied-returns t c clear lead deep opened name =
    let scopes = scopes_view c.args.scopes.now in
    let spellings = c.args.scopes.now.spellings.now in
    let exprs = c.args.arguments.now in
    let demand = spec.function_demand scopes.outer.types (function_view c.args.function) in
    let first = expr_in spellings (out-Exprs exprs).first in
    let found = c.in_ok-found-3.found in
    let make : SpecValue → SpecValue = typed.applied (function_view c.args.function) in
    let words = call_words scopes spellings lead deep name opened c.args.closed exprs in
    let part = sole_part demand (givens scopes spellings lead deep name opened c.args.closed exprs) in
    ends_moved words (judged part.marks (known make part.value)) (make (value_view found.value))
    (value_view (value_variant.Applied c.args.function c.in_ok-new.field-0)) (end_in found.end) (end_in found.end)
    (value_view-Applied c.args.function c.in_ok-new.field-0 ∙ ap (λ value. make (value_view value)) c.in_ok-new.ensures)
    refl
    (made_ends words make part (value_view found.value) (end_in found.end)
    (c.in_ok-found-3.ensures lead deep opened name demand value_view
    (c.in_ok-found-2.ensures (expr_words (lead + 1) deep first) (spec.value_of scopes first)
    (c.in_ok-found.ensures clear (lead + 1) deep))))

pub functions::tested-returns-in_err-found : goal.functions::tested-returns-in_err-found
functions::tested-returns-in_err-found t c clear lead deep opened name =
    let scopes = scopes_view c.args.scopes.now in
    let spellings = c.args.scopes.now.spellings.now in
    let exprs = c.args.arguments.now in
    let test = file_test_view c.args.test in
    let demand = spec.test_demand scopes.outer.types test in
    let first = expr_in spellings (out-Exprs exprs).first in
    let why = c.in_err-found.field-0.0 in
    let words = call_words scopes spellings lead deep name opened c.args.closed exprs in
    let arguments = givens scopes spellings lead deep name opened c.args.closed exprs in
    answers_stop words (tested_part scopes.outer.types test arguments) value_view why c.from_residual.result
    (err_from_is_err_and _ c.from_residual.ensures.1)
    (tested_stops words scopes.outer.types test arguments why
    (sole_first scopes spellings lead deep name opened c.args.closed exprs demand why
    (stopped_fails (expr_words (lead + 1) deep first) (plainly demand) (spec.value_of scopes first) why
    (c.in_err-found.ensures clear (lead + 1) deep))))

pub functions::tested-returns-in_err-file : goal.functions::tested-returns-in_err-file
functions::tested-returns-in_err-file t c clear lead deep opened name =
    let scopes = scopes_view c.args.scopes.now in
    let spellings = c.args.scopes.now.spellings.now in
    let exprs = c.args.arguments.now in
    let test = file_test_view c.args.test in
    let demand = spec.test_demand scopes.outer.types test in
    let first = expr_in spellings (out-Exprs exprs).first in
    let why = c.in_err-file.field-0.0 in
    let words = call_words scopes spellings lead deep name opened c.args.closed exprs in
    let arguments = givens scopes spellings lead deep name opened c.args.closed exprs in
    answers_stop words (tested_part scopes.outer.types test arguments) value_view why
    c.from_residual-in_err-file.result (err_from_is_err_and _ c.from_residual-in_err-file.ensures.1)
    (tested_stops words scopes.outer.types test arguments why
    (sole_first scopes spellings lead deep name opened c.args.closed exprs demand why
    (c.in_err-file.ensures (expr_words (lead + 1) deep first) (spec.value_of scopes first)
    (c.in_ok-found.ensures clear (lead + 1) deep))))

pub functions::tested-returns-in_err-file-2 : goal.functions::tested-returns-in_err-file-2
functions::tested-returns-in_err-file-2 t c clear lead deep opened name =
    let scopes = scopes_view c.args.scopes.now in
    let spellings = c.args.scopes.now.spellings.now in
    let exprs = c.args.arguments.now in
    let test = file_test_view c.args.test in
    let demand = spec.test_demand scopes.outer.types test in
    let first = expr_in spellings (out-Exprs exprs).first in
    let why = c.in_err-file-2.field-0.0 in
    let words = call_words scopes spellings lead deep name opened c.args.closed exprs in
    let arguments = givens scopes spellings lead deep name opened c.args.closed exprs in
    answers_stop words (tested_part scopes.outer.types test arguments) value_view why
    c.from_residual-in_err-file-2.result (err_from_is_err_and _ c.from_residual-in_err-file-2.ensures.1)
    (tested_stops words scopes.outer.types test arguments why
    (c.in_err-file-2.ensures lead deep opened name demand
    (λ (place : code_place.Place). typed.read (place_view place))
    (c.in_ok-file.ensures (expr_words (lead + 1) deep first) (spec.value_of scopes first)
    (c.in_ok-found.ensures clear (lead + 1) deep))))

pub functions::tested-returns : goal.functions::tested-returns
functions::tested-returns t c clear lead deep opened name =
    let scopes = scopes_view c.args.scopes.now in
    let spellings = c.args.scopes.now.spellings.now in
    let exprs = c.args.arguments.now in
    let test = file_test_view c.args.test in
    let demand = spec.test_demand scopes.outer.types test in
    let first = expr_in spellings (out-Exprs exprs).first in
    let file = c.in_ok-file-2.file in
    let words = call_words scopes spellings lead deep name opened c.args.closed exprs in
    let arguments = givens scopes spellings lead deep name opened c.args.closed exprs in
    ends_moved words (tested_part scopes.outer.types test arguments) (typed.tested test (place_view file.value))
    (value_view (value_variant.Tested c.args.test file.value)) (end_in file.end) (end_in file.end)
    (value_view-Tested c.args.test file.value) refl
    (tested_ends words scopes.outer.types test arguments (place_view file.value) (end_in file.end)
    (c.in_ok-file-2.ensures lead deep opened name demand
    (λ (place : code_place.Place). typed.read (place_view place))
    (c.in_ok-file.ensures (expr_words (lead + 1) deep first) (spec.value_of scopes first)
    (c.in_ok-found.ensures clear (lead + 1) deep))))

pub functions::called_as-returns-in-Routine : goal.functions::called_as-returns-in-Routine
functions::called_as-returns-in-Routine t c clear is_clear lead deep opened =
    let spellings = c.args.scopes.now.spellings.now in
    let scopes = scopes_view c.args.scopes.now in
    let exprs = c.args.arguments.now in
    let closed = c.args.closed in
    let name = ident_in spellings c.args.name in
    subst (λ (entity : CodeEntity). Answers (call_words scopes spellings lead deep name opened closed exprs)
    (spec.as_call scopes (givens scopes spellings lead deep name opened closed exprs) (Some (entity_view entity)))
    value_view c.routine_called.result) (sym c.in-Routine.is) (c.routine_called.ensures clear lead deep opened)

pub functions::called_as-returns-in-Function : goal.functions::called_as-returns-in-Function
functions::called_as-returns-in-Function t c clear is_clear lead deep opened =
    let spellings = c.args.scopes.now.spellings.now in
    let scopes = scopes_view c.args.scopes.now in
    let exprs = c.args.arguments.now in
    let closed = c.args.closed in
    let name = ident_in spellings c.args.name in
    subst (λ (entity : CodeEntity). Answers (call_words scopes spellings lead deep name opened closed exprs)
    (spec.as_call scopes (givens scopes spellings lead deep name opened closed exprs) (Some (entity_view entity)))
    value_view c.applied.result) (sym c.in-Function.is) (c.applied.ensures clear lead deep opened name)

pub functions::called_as-returns-in-FileTest : goal.functions::called_as-returns-in-FileTest
functions::called_as-returns-in-FileTest t c clear is_clear lead deep opened =
    let spellings = c.args.scopes.now.spellings.now in
    let scopes = scopes_view c.args.scopes.now in
    let exprs = c.args.arguments.now in
    let closed = c.args.closed in
    let name = ident_in spellings c.args.name in
    subst (λ (entity : CodeEntity). Answers (call_words scopes spellings lead deep name opened closed exprs)
    (spec.as_call scopes (givens scopes spellings lead deep name opened closed exprs) (Some (entity_view entity)))
    value_view c.tested.result) (sym c.in-FileTest.is) (c.tested.ensures clear lead deep opened name)

pub functions::called_as-returns-in_default : goal.functions::called_as-returns-in_default
functions::called_as-returns-in_default t c clear is_clear lead deep opened =
    let spellings = c.args.scopes.now.spellings.now in
    let scopes = scopes_view c.args.scopes.now in
    let exprs = c.args.arguments.now in
    let closed = c.args.closed in
    let name = ident_in spellings c.args.name in
    subst (λ part. StopsBy (call_words scopes spellings lead deep name opened closed exprs) part c.fault.result)
    (sym (other_call scopes (givens scopes spellings lead deep name opened closed exprs) c.args.entity
    c.in_default.not-Routine c.in_default.not-Function c.in_default.not-FileTest is_clear))
    (subst (StopsBy (call_words scopes spellings lead deep name opened closed exprs)
    (judged {A = SpecValue} (spec.not_called (wrong WRONG_TYPE_CODE ∷ [])
    (givens scopes spellings lead deep name opened closed exprs)) None)) (sym c.fault.ensures)
    (refused_call scopes lead deep name opened (exprs_in spellings exprs) closed (wrong WRONG_TYPE_CODE)))

pub functions::called-returns-in-Some : goal.functions::called-returns-in-Some
functions::called-returns-in-Some t c clear lead deep =
    let spellings = c.args.scopes.now.spellings.now in
    let scopes = scopes_view c.args.scopes.now in
    let call = out-FunctionCall c.args.call.now in
    let name = ident_in spellings call.name in
    subst (λ (factor : Factor). Answers (factor_words lead deep factor) (spec.factor_of scopes factor) value_view
    c.called_as.result) (sym (call_out spellings c.args.call.now))
    (subst (λ (entity : Option Entity). Answers
    (call_words scopes spellings lead deep name call.opened call.closed call.arguments)
    (spec.as_call scopes (givens scopes spellings lead deep name call.opened call.closed call.arguments) entity)
    value_view c.called_as.result) c.in-Some.ensures.entity
    (c.called_as.ensures clear
    (λ is. clear name.name (sym c.in-Some.ensures.entity ∙ ap Some is)) lead deep call.opened))

pub functions::called-returns-in-None : goal.functions::called-returns-in-None
functions::called-returns-in-None t c clear lead deep =
    let spellings = c.args.scopes.now.spellings.now in
    let scopes = scopes_view c.args.scopes.now in
    let call = out-FunctionCall c.args.call.now in
    let name = ident_in spellings call.name in
    let words = call_words scopes spellings lead deep name call.opened call.closed call.arguments in
    let arguments = givens scopes spellings lead deep name call.opened call.closed call.arguments in
    subst (λ (factor : Factor). StopsBy (factor_words lead deep factor) (spec.factor_of scopes factor)
    c.fault.result) (sym (call_out spellings c.args.call.now))
    (subst (λ (entity : Option Entity). StopsBy words (spec.as_call scopes arguments entity) c.fault.result)
    c.in-None.ensures.entity
    (subst (StopsBy words (judged {A = SpecValue} (spec.not_called (wrong UNKNOWN_NAME ∷ []) arguments) None))
    (sym c.fault.ensures)
    (refused_call scopes lead deep name call.opened (exprs_in spellings call.arguments) call.closed
    (wrong UNKNOWN_NAME))))

pub functions::routine_called-returns-in_err-passed-in-Some-result :
    goal.functions::routine_called-returns-in_err-passed-in-Some-result
functions::routine_called-returns-in_err-passed-in-Some-result t c clear lead deep opened =
    let spellings = c.args.scopes.now.spellings.now in
    let scopes = scopes_view c.args.scopes.now in
    let exprs = c.args.arguments.now in
    let closed = c.args.closed in
    let name = ident_in spellings c.args.name in
    let words = call_words scopes spellings lead deep name opened closed exprs in
    let arguments = givens scopes spellings lead deep name opened closed exprs in
    let why = c.in_err-passed-in-Some-result.field-0.0 in
    function_part scopes spellings arguments c.args.number c.in-Some.heading.now c.in-Some.ensures
    c.in-Some-result.pas_type c.in-Some-result.is
    (λ part. Answers words part value_view c.from_residual.result)
    (stop_made words (typed.call c.args.number (type_view c.in-Some-result.pas_type))
    (passing_part scopes.outer.types (map (variable_view spellings) c.in-Some.heading.now.parameters) arguments)
    value_view why c.from_residual.result (err_from_is_err_and _ c.from_residual.ensures.1)
    (c.in_err-passed-in-Some-result.ensures clear lead deep opened name))

pub functions::routine_called-returns-in_ok-passed-in-Some-result :
    goal.functions::routine_called-returns-in_ok-passed-in-Some-result
functions::routine_called-returns-in_ok-passed-in-Some-result t c clear lead deep opened =
    let spellings = c.args.scopes.now.spellings.now in
    let scopes = scopes_view c.args.scopes.now in
    let exprs = c.args.arguments.now in
    let closed = c.args.closed in
    let name = ident_in spellings c.args.name in
    let words = call_words scopes spellings lead deep name opened closed exprs in
    let arguments = givens scopes spellings lead deep name opened closed exprs in
    let passed = c.in_ok-passed-in-Some-result.passed in
    let part = passing_part scopes.outer.types (map (variable_view spellings) c.in-Some.heading.now.parameters)
    arguments in
    function_part scopes spellings arguments c.args.number c.in-Some.heading.now c.in-Some.ensures
    c.in-Some-result.pas_type c.in-Some-result.is
    (λ part. Answers words part value_view c.call_of.result)
    (c.call_of.ensures words part (c.in_ok-passed-in-Some-result.ensures clear lead deep opened name))

pub functions::routine_called-returns-in-None-result : goal.functions::routine_called-returns-in-None-result
functions::routine_called-returns-in-None-result t c clear lead deep opened =
    let spellings = c.args.scopes.now.spellings.now in
    let scopes = scopes_view c.args.scopes.now in
    let exprs = c.args.arguments.now in
    let closed = c.args.closed in
    let name = ident_in spellings c.args.name in
    let words = call_words scopes spellings lead deep name opened closed exprs in
    let arguments = givens scopes spellings lead deep name opened closed exprs in
    procedure_part scopes spellings arguments c.args.number c.in-Some.heading.now c.in-Some.ensures
    c.in-None-result.is (λ part. StopsBy words part c.fault.result)
    (subst (StopsBy words (judged {A = SpecValue} (spec.not_called (wrong WRONG_TYPE_CODE ∷ []) arguments) None))
    (sym c.fault.ensures)
    (refused_call scopes lead deep name opened (exprs_in spellings exprs) closed (wrong WRONG_TYPE_CODE)))

pub functions::passed_to-returns-in_err-last : goal.functions::passed_to-returns-in_err-last
functions::passed_to-returns-in_err-last t c clear lead deep opened name =
    let spellings = c.args.scopes.now.spellings.now in
    let scopes = scopes_view c.args.scopes.now in
    let exprs = c.args.arguments.now in
    let closed = c.args.closed in
    let table = scopes.outer.types in
    let why = c.in_err-last.field-0.0 in
    answers_stop (call_words scopes spellings lead deep name opened closed exprs)
    (passing scopes spellings lead deep name opened closed exprs table c.args.parameters.now) passed_views why
    c.from_residual.result (err_from_is_err_and _ c.from_residual.ensures.1)
    (stops_passing scopes spellings lead deep name opened closed exprs table c.args.parameters.now why
    (passed.first_stops (argued_more scopes spellings (lead + 1) deep)
    (more_argued scopes spellings (lead + 1) deep)
    (argued_expr scopes spellings (lead + 1) deep (at (lead + 1) k.LeftParenthesis opened)
    (expr_in spellings (out-Exprs exprs).first)) (out-Exprs exprs).more (name_at lead name)
    (at (lead + 1) k.RightParenthesis closed) spellings table c.args.parameters.now
    (option_copied c.get.result) why c.get.ensures.value (c.in_err-last.ensures clear (lead + 1) deep)))

pub functions::passed_to-loop-index-init : goal.functions::passed_to-loop-index-init
functions::passed_to-loop-index-init t c clear lead deep opened name =
    let spellings = c.args.scopes.now.spellings.now in
    let scopes = scopes_view c.args.scopes.now in
    let exprs = c.args.arguments.now in
    let closed = c.args.closed in
    let table = scopes.outer.types in
    subst (λ (before : List code_passed.Passed). passed.SoFar (argued_more scopes spellings (lead + 1) deep)
    (more_argued scopes spellings (lead + 1) deep)
    (argued_expr scopes spellings (lead + 1) deep (at (lead + 1) k.LeftParenthesis opened)
    (expr_in spellings (out-Exprs exprs).first)) (out-Exprs exprs).more (name_at lead name)
    (at (lead + 1) k.RightParenthesis closed) spellings table c.args.parameters.now [] before c.in_ok-last.last) (sym
    c.new-passed.ensures)
    (passed.begun (argued_more scopes spellings (lead + 1) deep)
    (more_argued scopes spellings (lead + 1) deep)
    (argued_expr scopes spellings (lead + 1) deep (at (lead + 1) k.LeftParenthesis opened)
    (expr_in spellings (out-Exprs exprs).first)) (out-Exprs exprs).more (name_at lead name)
    (at (lead + 1) k.RightParenthesis closed) spellings table c.args.parameters.now
    (option_copied c.get.result) c.in_ok-last.last c.get.ensures.value
    (c.in_ok-last.ensures clear (lead + 1) deep))

pub functions::passed_to-returns-in_err-before : goal.functions::passed_to-returns-in_err-before
functions::passed_to-returns-in_err-before t c clear lead deep opened name =
    let spellings = c.args.scopes.now.spellings.now in
    let scopes = scopes_view c.args.scopes.now in
    let exprs = c.args.arguments.now in
    let closed = c.args.closed in
    let table = scopes.outer.types in
    let items = c.as_slice-more-items.result.now in
    let i = c.loop-index.index in
    let why = c.in_err-before.field-0.0 in
    answers_stop (call_words scopes spellings lead deep name opened closed exprs)
    (passing scopes spellings lead deep name opened closed exprs table c.args.parameters.now) passed_views why
    c.from_residual-in_err-before.result (err_from_is_err_and _ c.from_residual-in_err-before.ensures.1)
    (stops_passing scopes spellings lead deep name opened closed exprs table c.args.parameters.now why
    (passed.more_unsettled (argued_more scopes spellings (lead + 1) deep)
    (more_argued scopes spellings (lead + 1) deep)
    (argued_expr scopes spellings (lead + 1) deep (at (lead + 1) k.LeftParenthesis opened)
    (expr_in spellings (out-Exprs exprs).first)) (out-Exprs exprs).more (name_at lead name)
    (at (lead + 1) k.RightParenthesis closed) spellings table c.args.parameters.now
    (take i items) c.loop-index.passed c.loop-index.last (c.loop-index.invariant clear lead deep opened name)
    c.more-item.result (drop (suc i) items) why
    (taken_split items (out-Exprs exprs).more i c.more-item.result c.as_slice-more-items.ensures c.loop-index-test.true
    c.more-item.is) c.in_err-before.ensures))

pub functions::passed_to-returns-in_err-last-2 : goal.functions::passed_to-returns-in_err-last-2
functions::passed_to-returns-in_err-last-2 t c clear lead deep opened name =
    let spellings = c.args.scopes.now.spellings.now in
    let scopes = scopes_view c.args.scopes.now in
    let exprs = c.args.arguments.now in
    let closed = c.args.closed in
    let table = scopes.outer.types in
    let items = c.as_slice-more-items.result.now in
    let i = c.loop-index.index in
    let why = c.in_err-last-2.field-0.0 in
    answers_stop (call_words scopes spellings lead deep name opened closed exprs)
    (passing scopes spellings lead deep name opened closed exprs table c.args.parameters.now) passed_views why
    c.from_residual-in_err-last-2.result (err_from_is_err_and _ c.from_residual-in_err-last-2.ensures.1)
    (stops_passing scopes spellings lead deep name opened closed exprs table c.args.parameters.now why
    (passed.more_stops (argued_more scopes spellings (lead + 1) deep)
    (more_argued scopes spellings (lead + 1) deep)
    (argued_expr scopes spellings (lead + 1) deep (at (lead + 1) k.LeftParenthesis opened)
    (expr_in spellings (out-Exprs exprs).first)) (out-Exprs exprs).more (name_at lead name)
    (at (lead + 1) k.RightParenthesis closed) spellings table c.args.parameters.now
    (take i items) c.loop-index.passed c.loop-index.last (c.loop-index.invariant clear lead deep opened name)
    c.more-item.result c.in_ok-before.field-0 c.in_ok-before.ensures (option_copied c.get-in-loop-index.result)
    (c.get-in-loop-index.ensures.value ∙ ap (λ (n : ℕ). slice_get c.args.parameters.now (n + 1))
    (sym (taken_count items i (omega (arith, c.loop-index-test.true)))))
    (drop (suc i) items) why
    (taken_split items (out-Exprs exprs).more i c.more-item.result c.as_slice-more-items.ensures c.loop-index-test.true
    c.more-item.is) (c.in_err-last-2.ensures clear (lead + 1) deep)))

pub functions::passed_to-loop-index-preserved : goal.functions::passed_to-loop-index-preserved
functions::passed_to-loop-index-preserved t c clear lead deep opened name =
    let spellings = c.args.scopes.now.spellings.now in
    let scopes = scopes_view c.args.scopes.now in
    let exprs = c.args.arguments.now in
    let closed = c.args.closed in
    let table = scopes.outer.types in
    let items = c.as_slice-more-items.result.now in
    let i = c.loop-index.index in
    let last = c.in_ok-last-2.last in
    subst (λ (done : List code_more.MoreExpr). passed.SoFar (argued_more scopes spellings (lead + 1) deep)
    (more_argued scopes spellings (lead + 1) deep)
    (argued_expr scopes spellings (lead + 1) deep (at (lead + 1) k.LeftParenthesis opened)
    (expr_in spellings (out-Exprs exprs).first)) (out-Exprs exprs).more (name_at lead name)
    (at (lead + 1) k.RightParenthesis closed) spellings table c.args.parameters.now done c.push.new.self last)
    (sym (taken_more items i c.more-item.result c.loop-index-test.true c.more-item.is))
    (subst (λ (before : List code_passed.Passed). passed.SoFar (argued_more scopes spellings (lead + 1) deep)
    (more_argued scopes spellings (lead + 1) deep)
    (argued_expr scopes spellings (lead + 1) deep (at (lead + 1) k.LeftParenthesis opened)
    (expr_in spellings (out-Exprs exprs).first)) (out-Exprs exprs).more (name_at lead name)
    (at (lead + 1) k.RightParenthesis closed) spellings table c.args.parameters.now (take i items ++
    c.more-item.result ∷ []) before last) (sym c.in_ok-push.ensures.ok)
    (passed.one_more (argued_more scopes spellings (lead + 1) deep)
    (more_argued scopes spellings (lead + 1) deep)
    (argued_expr scopes spellings (lead + 1) deep (at (lead + 1) k.LeftParenthesis opened)
    (expr_in spellings (out-Exprs exprs).first)) (out-Exprs exprs).more (name_at lead name)
    (at (lead + 1) k.RightParenthesis closed) spellings table c.args.parameters.now
    (take i items) c.loop-index.passed c.loop-index.last (c.loop-index.invariant clear lead deep opened name)
    c.more-item.result c.in_ok-before.field-0 c.in_ok-before.ensures (option_copied c.get-in-loop-index.result)
    (c.get-in-loop-index.ensures.value ∙ ap (λ (n : ℕ). slice_get c.args.parameters.now (n + 1))
    (sym (taken_count items i (omega (arith, c.loop-index-test.true))))) last
    (c.in_ok-last-2.ensures clear (lead + 1) deep)))

pub functions::passed_to-returns-in_err-last-3 : goal.functions::passed_to-returns-in_err-last-3
functions::passed_to-returns-in_err-last-3 t c clear lead deep opened name =
    let so_far = c.loop-index.invariant clear lead deep opened name in
    let end = end_in c.loop-index.last.end in
    absurd (stands_never end.line end.refusal c.in_err-last-3.field-0.0 so_far.lawful c.in_err-last-3.ensures)

pub functions::passed_to-returns-in_err-demand : goal.functions::passed_to-returns-in_err-demand
functions::passed_to-returns-in_err-demand t c clear lead deep opened name =
    let spellings = c.args.scopes.now.spellings.now in
    let scopes = scopes_view c.args.scopes.now in
    let exprs = c.args.arguments.now in
    let closed = c.args.closed in
    let table = scopes.outer.types in
    let items = c.as_slice-more-items.result.now in
    let why = c.in_err-demand.field-0.0 in
    answers_stop (call_words scopes spellings lead deep name opened closed exprs)
    (passing scopes spellings lead deep name opened closed exprs table c.args.parameters.now) passed_views why
    c.from_residual-in_err-demand.result (err_from_is_err_and _ c.from_residual-in_err-demand.ensures.1)
    (stops_passing scopes spellings lead deep name opened closed exprs table c.args.parameters.now why
    (passed.too_few_stop (argued_more scopes spellings (lead + 1) deep)
    (more_argued scopes spellings (lead + 1) deep)
    (argued_expr scopes spellings (lead + 1) deep (at (lead + 1) k.LeftParenthesis opened)
    (expr_in spellings (out-Exprs exprs).first)) (out-Exprs exprs).more (name_at lead name)
    (at (lead + 1) k.RightParenthesis closed) spellings table c.args.parameters.now
    c.loop-index.passed c.push-2.new.self c.loop-index.last
    (subst (λ (done : List code_more.MoreExpr). passed.SoFar (argued_more scopes spellings (lead + 1) deep)
    (more_argued scopes spellings (lead + 1) deep)
    (argued_expr scopes spellings (lead + 1) deep (at (lead + 1) k.LeftParenthesis opened)
    (expr_in spellings (out-Exprs exprs).first)) (out-Exprs exprs).more (name_at lead name)
    (at (lead + 1) k.RightParenthesis closed) spellings table c.args.parameters.now done c.loop-index.passed
    c.loop-index.last)
    (taken_all items c.loop-index.index c.loop-index-test.false ∙ c.as_slice-more-items.ensures)
    (c.loop-index.invariant clear lead deep opened name))
    (c.in_ok-push-2.ensures.ok ∙ ap (λ found. c.loop-index.passed ++ found ∷ []) c.in_ok-last-3.ensures.1) why
    (c.in_err-demand.ensures
    ∙ ap (λ (n : ℕ). demanded (nat_le n c.len-2.result) WRONG_TYPE_CODE closed) c.len.ensures
    ∙ ap (λ (n : ℕ). demanded (nat_le (length c.args.parameters.now) n) WRONG_TYPE_CODE closed) c.len-2.ensures)))

pub functions::passed_to-returns : goal.functions::passed_to-returns
functions::passed_to-returns t c clear lead deep opened name =
    let spellings = c.args.scopes.now.spellings.now in
    let scopes = scopes_view c.args.scopes.now in
    let exprs = c.args.arguments.now in
    let closed = c.args.closed in
    let table = scopes.outer.types in
    let items = c.as_slice-more-items.result.now in
    ends_passing scopes spellings lead deep name opened closed exprs table c.args.parameters.now c.push-2.new.self
    (end_in c.in_ok-last-3.last.end)
    (passed.all_end (argued_more scopes spellings (lead + 1) deep)
    (more_argued scopes spellings (lead + 1) deep)
    (argued_expr scopes spellings (lead + 1) deep (at (lead + 1) k.LeftParenthesis opened)
    (expr_in spellings (out-Exprs exprs).first)) (out-Exprs exprs).more (name_at lead name)
    (at (lead + 1) k.RightParenthesis closed) spellings table c.args.parameters.now
    c.loop-index.passed c.push-2.new.self c.loop-index.last
    (subst (λ (done : List code_more.MoreExpr). passed.SoFar (argued_more scopes spellings (lead + 1) deep)
    (more_argued scopes spellings (lead + 1) deep)
    (argued_expr scopes spellings (lead + 1) deep (at (lead + 1) k.LeftParenthesis opened)
    (expr_in spellings (out-Exprs exprs).first)) (out-Exprs exprs).more (name_at lead name)
    (at (lead + 1) k.RightParenthesis closed) spellings table c.args.parameters.now done c.loop-index.passed
    c.loop-index.last)
    (taken_all items c.loop-index.index c.loop-index-test.false ∙ c.as_slice-more-items.ensures)
    (c.loop-index.invariant clear lead deep opened name))
    (c.in_ok-push-2.ensures.ok ∙ ap (λ found. c.loop-index.passed ++ found ∷ []) c.in_ok-last-3.ensures.1)
    (end_in c.in_ok-last-3.last.end) c.in_ok-last-3.ensures.2
    (c.in_ok-demand.ensures
    ∙ ap (λ (n : ℕ). demanded (nat_le n c.len-2.result) WRONG_TYPE_CODE closed) c.len.ensures
    ∙ ap (λ (n : ℕ). demanded (nat_le (length c.args.parameters.now) n) WRONG_TYPE_CODE closed) c.len-2.ensures))
