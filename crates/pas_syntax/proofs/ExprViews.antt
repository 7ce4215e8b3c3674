-- The code's expressions, a variant at a time, as those of the definition.
use Rattle.std.proofs.Common.{◌≡◌, refl, ap, ◌∙◌, ℕ, List, [], ◌∷◌, ◌++◌, map}
use Rattle.std.proofs.lemmas.List.{map-append}
use Rattle.pas_syntax.specs.declared.operators.Sign.{Sign}
use Rattle.pas_syntax.specs.declared.operators.Relation.{Relation}
use Rattle.pas_syntax.specs.declared.tree.Ident.{Ident as CodeIdent}
use Rattle.pas_syntax.specs.declared.tree.Numeral.{Numeral as CodeNumeral}
use Rattle.pas_syntax.specs.declared.tree.Quoted.{Quoted as CodeQuoted}
use Rattle.pas_syntax.specs.declared.tree.Lined.{Lined as CodeLined}
use Rattle.pas_syntax.specs.declared.tree.Expr as code_expr
use Rattle.pas_syntax.specs.declared.tree.Sum as code_sum
use Rattle.pas_syntax.specs.declared.tree.Term as code_term
use Rattle.pas_syntax.specs.declared.tree.Factor as code_factor
use Rattle.pas_syntax.specs.declared.tree.Variable as code_variable
use Rattle.pas_syntax.specs.declared.tree.Selector as code_selector
use Rattle.pas_syntax.specs.declared.tree.Exprs as code_exprs
use Rattle.pas_syntax.specs.declared.tree.FunctionCall as code_call
use Rattle.pas_syntax.specs.declared.tree.MoreExpr as code_more
use Rattle.pas_syntax.specs.declared.tree.Expr.TheVariants as expr
use Rattle.pas_syntax.specs.declared.tree.Sum.TheVariants as sum
use Rattle.pas_syntax.specs.declared.tree.Term.TheVariants as term
use Rattle.pas_syntax.specs.declared.tree.Factor.TheVariants as factor
use Rattle.pas_syntax.specs.declared.tree.Selector.TheVariants as selector
use Rattle.pas_syntax.specs.declared.tree.Expr.TheOpen.{Expr-F, Sum-F, Term-F, Factor-F, Selector-F, Exprs-F}
use Rattle.pas_syntax.specs.declared.tree.Expr.TheOpen.{FunctionCall-F, MoreExpr-F, Variable-F}
use Rattle.pas_syntax.specs.declared.tree.Expr.TheViews.{roll-FunctionCall, roll-MoreExpr, roll-Variable, roll-Exprs}
use Rattle.pas_syntax.specs.declared.tree.Expr.TheFolds.{fold-roll-Expr, fold-roll-Sum, fold-roll-Term}
use Rattle.pas_syntax.specs.declared.tree.Expr.TheFolds.{fold-roll-Factor}
use Rattle.pas_syntax.specs.declared.tree.Expr.TheFolds.{fold-roll-Variable, fold-roll-Selector, fold-roll-Exprs}
use Rattle.pas_syntax.specs.declared.tree.Expr.TheFolds.{fold-roll-FunctionCall, fold-roll-MoreExpr}
use Rattle.pas_syntax.specs.Tree as tree
use Rattle.pas_syntax.specs.Tree.{Expr, Sum, Term, Factor, Variable, Exprs}
use Rattle.pas_syntax.specs.Views.{ident_in, numeral_in, quoted_in, lined_in, in_turn, expr_step, sum_step, term_step}
use Rattle.pas_syntax.specs.Views.{factor_step, call_step, selector_step, variable_step, exprs_step, more_expr_step}
use Rattle.pas_syntax.specs.Views.{expr_in, sum_in, term_in, factor_in, variable_in, selector_in, exprs_in, call_in}
use Rattle.pas_syntax.specs.Views.{more_expr_in}

module _ (spellings : List ℕ) where
  pub sum_view : (s : code_sum.Sum) → expr_in spellings (expr.Sum s) ≡ tree.sum (sum_in spellings s)
  unfolding code_expr.roll-Expr denote.Hole.Carrier.roll
  sum_view s =
      fold-roll-Expr Expr Factor (Variable → Variable) Sum Term Exprs Factor (Exprs → Exprs) Variable
      expr_step (factor_step spellings) (selector_step spellings) sum_step term_step exprs_step (call_step spellings)
      more_expr_step (variable_step spellings) (Expr-F.Sum s)

  pub relation_view : (left : code_sum.Sum) (op : CodeLined Relation) (right : code_sum.Sum)
      → expr_in spellings (expr.Relation left op right) ≡ tree.relation (sum_in spellings left) (lined_in op)
      (sum_in spellings right)
  unfolding code_expr.roll-Expr denote.Hole.Carrier.roll
  relation_view left op right =
      fold-roll-Expr Expr Factor (Variable → Variable) Sum Term Exprs Factor (Exprs → Exprs) Variable
      expr_step (factor_step spellings) (selector_step spellings) sum_step term_step exprs_step (call_step spellings)
      more_expr_step (variable_step spellings) (Expr-F.Relation left op right)

  pub first_term_view : (t : code_term.Term)
      → sum_in spellings (sum.FirstTerm t) ≡ tree.first_term (term_in spellings t)
  unfolding code_sum.roll-Sum denote.Hole.Carrier.roll
  first_term_view t =
      fold-roll-Sum Expr Factor (Variable → Variable) Sum Term Exprs Factor (Exprs → Exprs) Variable
      expr_step (factor_step spellings) (selector_step spellings) sum_step term_step exprs_step (call_step spellings)
      more_expr_step (variable_step spellings) (Sum-F.FirstTerm t)

  pub signed_term_view : (lead : CodeLined Sign) (t : code_term.Term)
      → sum_in spellings (sum.SignedTerm lead t) ≡ tree.signed_term (lined_in lead) (term_in spellings t)
  unfolding code_sum.roll-Sum denote.Hole.Carrier.roll
  signed_term_view lead t =
      fold-roll-Sum Expr Factor (Variable → Variable) Sum Term Exprs Factor (Exprs → Exprs) Variable
      expr_step (factor_step spellings) (selector_step spellings) sum_step term_step exprs_step (call_step spellings)
      more_expr_step (variable_step spellings) (Sum-F.SignedTerm lead t)

  pub first_factor_view : (f : code_factor.Factor)
      → term_in spellings (term.FirstFactor f) ≡ tree.first_factor (factor_in spellings f)
  unfolding code_term.roll-Term denote.Hole.Carrier.roll
  first_factor_view f =
      fold-roll-Term Expr Factor (Variable → Variable) Sum Term Exprs Factor (Exprs → Exprs) Variable
      expr_step (factor_step spellings) (selector_step spellings) sum_step term_step exprs_step (call_step spellings)
      more_expr_step (variable_step spellings) (Term-F.FirstFactor f)

  pub literal_view : (numeral : CodeNumeral)
      → factor_in spellings (factor.Literal numeral) ≡ tree.literal (numeral_in numeral)
  unfolding code_factor.roll-Factor denote.Hole.Carrier.roll
  literal_view numeral =
      fold-roll-Factor Expr Factor (Variable → Variable) Sum Term Exprs Factor (Exprs → Exprs) Variable
      expr_step (factor_step spellings) (selector_step spellings) sum_step term_step exprs_step (call_step spellings)
      more_expr_step (variable_step spellings) (Factor-F.Literal numeral)

  pub text_view : (quoted : CodeQuoted) → factor_in spellings (factor.Text quoted) ≡ tree.literal_text
      (quoted_in spellings quoted)
  unfolding code_factor.roll-Factor denote.Hole.Carrier.roll
  text_view quoted =
      fold-roll-Factor Expr Factor (Variable → Variable) Sum Term Exprs Factor (Exprs → Exprs) Variable
      expr_step (factor_step spellings) (selector_step spellings) sum_step term_step exprs_step (call_step spellings)
      more_expr_step (variable_step spellings) (Factor-F.Text quoted)

  pub parenthesized_view : (opened : ℕ) (e : code_expr.Expr) (closed : ℕ)
      → factor_in spellings (factor.Parenthesized opened e closed) ≡ tree.parenthesized opened
      (expr_in spellings e) closed
  unfolding code_factor.roll-Factor denote.Hole.Carrier.roll
  parenthesized_view opened e closed =
      fold-roll-Factor Expr Factor (Variable → Variable) Sum Term Exprs Factor (Exprs → Exprs) Variable
      expr_step (factor_step spellings) (selector_step spellings) sum_step term_step exprs_step (call_step spellings)
      more_expr_step (variable_step spellings) (Factor-F.Parenthesized opened e closed)

  pub negated_view : (line : ℕ) (f : code_factor.Factor)
      → factor_in spellings (factor.Negated line f) ≡ tree.negated line (factor_in spellings f)
  unfolding code_factor.roll-Factor denote.Hole.Carrier.roll
  negated_view line f =
      fold-roll-Factor Expr Factor (Variable → Variable) Sum Term Exprs Factor (Exprs → Exprs) Variable
      expr_step (factor_step spellings) (selector_step spellings) sum_step term_step exprs_step (call_step spellings)
      more_expr_step (variable_step spellings) (Factor-F.Negated line f)

  pub variable_view : (v : code_variable.Variable)
      → factor_in spellings (factor.Variable v) ≡ tree.variable (variable_in spellings v)
  unfolding code_factor.roll-Factor denote.Hole.Carrier.roll
  variable_view v =
      fold-roll-Factor Expr Factor (Variable → Variable) Sum Term Exprs Factor (Exprs → Exprs) Variable
      expr_step (factor_step spellings) (selector_step spellings) sum_step term_step exprs_step (call_step spellings)
      more_expr_step (variable_step spellings) (Factor-F.Variable v)

  pub call_view : (call : code_call.FunctionCall) → factor_in spellings (factor.Call call) ≡ call_in spellings call
  unfolding code_factor.roll-Factor denote.Hole.Carrier.roll
  call_view call =
      fold-roll-Factor Expr Factor (Variable → Variable) Sum Term Exprs Factor (Exprs → Exprs) Variable
      expr_step (factor_step spellings) (selector_step spellings) sum_step term_step exprs_step (call_step spellings)
      more_expr_step (variable_step spellings) (Factor-F.Call call)

  pub indexes_view : (opened : ℕ) (es : code_exprs.Exprs) (closed : ℕ)
      → selector_in spellings (selector.Indexes opened es closed)
      ≡ (λ v. tree.indexed v opened (exprs_in spellings es) closed)
  unfolding code_selector.roll-Selector denote.Hole.Carrier.roll
  indexes_view opened es closed =
      fold-roll-Selector Expr Factor (Variable → Variable) Sum Term Exprs Factor (Exprs → Exprs) Variable
      expr_step (factor_step spellings) (selector_step spellings) sum_step term_step exprs_step (call_step spellings)
      more_expr_step (variable_step spellings) (Selector-F.Indexes opened es closed)

  pub field_view : (line : ℕ) (ident : CodeIdent) → selector_in spellings (selector.Field line ident)
      ≡ (λ v. tree.field_of v line (ident_in spellings ident))
  unfolding code_selector.roll-Selector denote.Hole.Carrier.roll
  field_view line ident =
      fold-roll-Selector Expr Factor (Variable → Variable) Sum Term Exprs Factor (Exprs → Exprs) Variable
      expr_step (factor_step spellings) (selector_step spellings) sum_step term_step exprs_step (call_step spellings)
      more_expr_step (variable_step spellings) (Selector-F.Field line ident)

  pub buffer_view : (line : ℕ) → selector_in spellings (selector.Buffer line) ≡ (λ v. tree.buffer_of v line)
  unfolding code_selector.roll-Selector denote.Hole.Carrier.roll
  buffer_view line =
      fold-roll-Selector Expr Factor (Variable → Variable) Sum Term Exprs Factor (Exprs → Exprs) Variable
      expr_step (factor_step spellings) (selector_step spellings) sum_step term_step exprs_step (call_step spellings)
      more_expr_step (variable_step spellings) (Selector-F.Buffer line)

  pub function_call_view : (x : FunctionCall-F code_expr.Expr code_factor.Factor code_selector.Selector code_sum.Sum
      code_term.Term code_exprs.Exprs code_call.FunctionCall code_more.MoreExpr code_variable.Variable)
      → call_in spellings (roll-FunctionCall x) ≡ tree.function_call (ident_in spellings x.name) x.opened
      (exprs_in spellings x.arguments) x.closed
  function_call_view x =
      fold-roll-FunctionCall Expr Factor (Variable → Variable) Sum Term Exprs Factor (Exprs → Exprs) Variable
      expr_step (factor_step spellings) (selector_step spellings) sum_step term_step exprs_step (call_step spellings)
      more_expr_step (variable_step spellings) x

  pub selected_view : (x : Variable-F code_expr.Expr code_factor.Factor code_selector.Selector code_sum.Sum
      code_term.Term code_exprs.Exprs code_call.FunctionCall code_more.MoreExpr code_variable.Variable)
      → variable_in spellings (roll-Variable x) ≡ in_turn (tree.whole (ident_in spellings x.name))
      (map (selector_in spellings) x.selectors)
  selected_view x =
      fold-roll-Variable Expr Factor (Variable → Variable) Sum Term Exprs Factor (Exprs → Exprs) Variable
      expr_step (factor_step spellings) (selector_step spellings) sum_step term_step exprs_step (call_step spellings)
      more_expr_step (variable_step spellings) x

  pub exprs_view : (x : Exprs-F code_expr.Expr code_factor.Factor code_selector.Selector code_sum.Sum code_term.Term
      code_exprs.Exprs code_call.FunctionCall code_more.MoreExpr code_variable.Variable)
      → exprs_in spellings (roll-Exprs x) ≡ in_turn (tree.first_expr (expr_in spellings x.first))
      (map (more_expr_in spellings) x.more)
  exprs_view x =
      fold-roll-Exprs Expr Factor (Variable → Variable) Sum Term Exprs Factor (Exprs → Exprs) Variable
      expr_step (factor_step spellings) (selector_step spellings) sum_step term_step exprs_step (call_step spellings)
      more_expr_step (variable_step spellings) x

  pub more_expr_view : (x : MoreExpr-F code_expr.Expr code_factor.Factor code_selector.Selector code_sum.Sum
      code_term.Term code_exprs.Exprs code_call.FunctionCall code_more.MoreExpr code_variable.Variable)
      → more_expr_in spellings (roll-MoreExpr x) ≡ (λ others. tree.more_exprs others x.line (expr_in spellings x.value))
  more_expr_view x =
      fold-roll-MoreExpr Expr Factor (Variable → Variable) Sum Term Exprs Factor (Exprs → Exprs) Variable
      expr_step (factor_step spellings) (selector_step spellings) sum_step term_step exprs_step (call_step spellings)
      more_expr_step (variable_step spellings) x

-- one more is in turn
pub one_more_in_turn : {A : Type 0} (first : A) (more : List (A → A)) (last : A → A)
    → in_turn first (more ++ last ∷ []) ≡ last (in_turn first more)
one_more_in_turn first [] last = refl
one_more_in_turn first (next ∷ more) last = one_more_in_turn (next first) more last

pub pushed_in_turn : {A X : Type 0} (first : A) (view : X → A → A) (old all : List X) (last : X)
    → all ≡ old ++ last ∷ []
    → in_turn first (map view all) ≡ view last (in_turn first (map view old))
pushed_in_turn first view old all last is =
    ap (λ xs. in_turn first (map view xs)) is ∙ ap (in_turn first) (map-append view old (last ∷ []))
    ∙ one_more_in_turn first (map view old) (view last)
