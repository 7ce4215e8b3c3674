-- Parts of the code's expressions as those of the definition, and the name that a variable begins with.
use Rattle.std.proofs.Common.{◌≡◌, refl, ap, ◌∙◌, ℕ, List, [], ◌∷◌, map}
use Rattle.pas_syntax.specs.declared.tree.Selector as code_selector
use Rattle.pas_syntax.specs.declared.tree.Sum as code_sum
use Rattle.pas_syntax.specs.declared.tree.Term as code_term
use Rattle.pas_syntax.specs.declared.tree.Factor as code_factor
use Rattle.pas_syntax.specs.declared.tree.Variable as code_variable
use Rattle.pas_syntax.specs.declared.tree.Exprs as code_exprs
use Rattle.pas_syntax.specs.declared.tree.FunctionCall as code_call
use Rattle.pas_syntax.specs.declared.tree.MoreExpr as code_more
use Rattle.pas_syntax.specs.declared.operators.Adding.{Adding}
use Rattle.pas_syntax.specs.declared.operators.Multiplying.{Multiplying}
use Rattle.pas_syntax.specs.declared.tree.Lined.{Lined as CodeLined}
use Rattle.pas_syntax.specs.declared.tree.Sum.TheVariants as sum
use Rattle.pas_syntax.specs.declared.tree.Term.TheVariants as term
use Rattle.pas_syntax.specs.declared.tree.Expr.TheOpen.{Sum-F, Term-F, Selector-F}
use Rattle.pas_syntax.specs.declared.tree.Expr.TheViews.{out-FunctionCall, out-Exprs, out-MoreExpr}
use Rattle.pas_syntax.specs.declared.tree.Expr.TheFolds.{fold_out-Selector, fold_out-FunctionCall}
use Rattle.pas_syntax.specs.declared.tree.Expr.TheFolds.{fold_out-Exprs, fold_out-MoreExpr, fold-roll-Sum}
use Rattle.pas_syntax.specs.declared.tree.Expr.TheFolds.{fold-roll-Term}
use Rattle.pas_syntax.specs.Tree as tree
use Rattle.pas_syntax.specs.Tree.{Ident, Expr, Sum, Term, Factor, Variable, Exprs}
use Rattle.pas_syntax.specs.Views.{OfExprs, ident_in, lined_in, expr_in, sum_in, term_in, factor_in, exprs_in, call_in}
use Rattle.pas_syntax.specs.Views.{more_expr_in, in_turn, expr_step, sum_step, term_step, factor_step}
use Rattle.pas_syntax.specs.Views.{call_step}
use Rattle.pas_syntax.specs.Views.{selector_step, variable_step, exprs_step, more_expr_step, selector_in, variable_in}
use Rattle.pas_syntax.proofs.ExprViews.{selected_view}
use Rattle.pas_scopes.proofs.FirstWords.{name_of}

module _ (spellings : List ℕ) where
  pub more_terms_seen : (left : code_sum.Sum) (op : CodeLined Adding) (right : code_term.Term)
      → sum_in spellings (sum.MoreTerms left op right)
      ≡ tree.more_terms (sum_in spellings left) (lined_in op) (term_in spellings right)
  unfolding code_sum.roll-Sum denote.Hole.Carrier.roll
  more_terms_seen left op right =
      fold-roll-Sum Expr Factor (Variable → Variable) Sum Term Exprs Factor (Exprs → Exprs) Variable
      expr_step (factor_step spellings) (selector_step spellings) sum_step term_step exprs_step (call_step spellings)
      more_expr_step (variable_step spellings) (Sum-F.MoreTerms left op right)

  pub more_factors_seen : (left : code_term.Term) (op : CodeLined Multiplying) (right : code_factor.Factor)
      → term_in spellings (term.MoreFactors left op right)
      ≡ tree.more_factors (term_in spellings left) (lined_in op) (factor_in spellings right)
  unfolding code_term.roll-Term denote.Hole.Carrier.roll
  more_factors_seen left op right =
      fold-roll-Term Expr Factor (Variable → Variable) Sum Term Exprs Factor (Exprs → Exprs) Variable
      expr_step (factor_step spellings) (selector_step spellings) sum_step term_step exprs_step (call_step spellings)
      more_expr_step (variable_step spellings) (Term-F.MoreFactors left op right)

  pub call_out : (call : code_call.FunctionCall)
      → call_in spellings call
      ≡ tree.function_call (ident_in spellings (out-FunctionCall call).name) (out-FunctionCall call).opened
      (exprs_in spellings (out-FunctionCall call).arguments) (out-FunctionCall call).closed
  call_out call =
      fold_out-FunctionCall Expr Factor (Variable → Variable) Sum Term Exprs Factor (Exprs → Exprs) Variable
      expr_step (factor_step spellings) (selector_step spellings) sum_step term_step exprs_step (call_step spellings)
      more_expr_step (variable_step spellings) call

  pub exprs_seen : (exprs : code_exprs.Exprs)
      → exprs_in spellings exprs
      ≡ in_turn (tree.first_expr (expr_in spellings (out-Exprs exprs).first))
      (map (more_expr_in spellings) (out-Exprs exprs).more)
  exprs_seen exprs =
      fold_out-Exprs Expr Factor (Variable → Variable) Sum Term Exprs Factor (Exprs → Exprs) Variable
      expr_step (factor_step spellings) (selector_step spellings) sum_step term_step exprs_step (call_step spellings)
      more_expr_step (variable_step spellings) exprs

  pub more_seen : (more : code_more.MoreExpr)
      → more_expr_in spellings more
      ≡ (λ others. tree.more_exprs others (out-MoreExpr more).line (expr_in spellings (out-MoreExpr more).value))
  more_seen more =
      fold_out-MoreExpr Expr Factor (Variable → Variable) Sum Term Exprs Factor (Exprs → Exprs) Variable
      expr_step (factor_step spellings) (selector_step spellings) sum_step term_step exprs_step (call_step spellings)
      more_expr_step (variable_step spellings) more

  step_name : (layer : OfExprs Selector-F) (v : Variable) → name_of (selector_step spellings layer v) ≡ name_of v
  step_name (Selector-F.Indexes opened indexes closed) v = refl
  step_name (Selector-F.Field line ident) v = refl
  step_name (Selector-F.Buffer line) v = refl

  selector_name : (selector : code_selector.Selector) (v : Variable)
      → name_of (selector_in spellings selector v) ≡ name_of v
  selector_name selector v =
      ap (λ (step : Variable → Variable). name_of (step v))
      (fold_out-Selector Expr Factor (Variable → Variable) Sum Term Exprs Factor (Exprs → Exprs) Variable
      expr_step (factor_step spellings) (selector_step spellings) sum_step term_step exprs_step (call_step spellings)
      more_expr_step (variable_step spellings) selector)
      ∙ step_name _ v

  selected_name : (selectors : List code_selector.Selector) (v : Variable)
      → name_of (in_turn v (map (selector_in spellings) selectors)) ≡ name_of v
  selected_name [] v = refl
  selected_name (selector ∷ selectors) v =
      selected_name selectors (selector_in spellings selector v) ∙ selector_name selector v

  pub name_seen : (v : code_variable.Variable)
      → name_of (variable_in spellings v) ≡ ident_in spellings v.name
  name_seen v =
      ap name_of (selected_view spellings (record { name = v.name; selectors = v.selectors }))
      ∙ selected_name v.selectors (tree.whole (ident_in spellings v.name))
