-- The trees of the code as those of the definition. The spellings are those of all names and strings of the text, one
-- after the other.
use Rattle.std.specs.Prelude.{ℕ, List, map, fold, take, drop, Option, Some, None}
use Rattle.pas_syntax.specs.declared.operators.Sign.{Sign}
use Rattle.pas_syntax.specs.declared.tree.Span.{Span}
use Rattle.pas_syntax.specs.declared.tree.Ident.{Ident as CodeIdent}
use Rattle.pas_syntax.specs.declared.tree.Numeral.{Numeral as CodeNumeral}
use Rattle.pas_syntax.specs.declared.tree.Quoted.{Quoted as CodeQuoted}
use Rattle.pas_syntax.specs.declared.tree.Lined.{Lined as CodeLined}
use Rattle.pas_syntax.specs.declared.tree.Behind.{Behind as CodeBehind}
use Rattle.pas_syntax.specs.declared.tree.Separated.{Separated as CodeSeparated}
use Rattle.pas_syntax.specs.declared.tree.Constant.{Constant as CodeConstant}
use Rattle.pas_syntax.specs.declared.tree.Constant.TheVariants as constant
use Rattle.pas_syntax.specs.declared.tree.Simple.{Simple as CodeSimple}
use Rattle.pas_syntax.specs.declared.tree.Simple.TheVariants as simple
use Rattle.pas_syntax.specs.declared.tree.Expr as code_expr
use Rattle.pas_syntax.specs.declared.tree.Sum as code_sum
use Rattle.pas_syntax.specs.declared.tree.Term as code_term
use Rattle.pas_syntax.specs.declared.tree.Factor as code_factor
use Rattle.pas_syntax.specs.declared.tree.Variable as code_variable
use Rattle.pas_syntax.specs.declared.tree.Selector as code_selector
use Rattle.pas_syntax.specs.declared.tree.Exprs as code_exprs
use Rattle.pas_syntax.specs.declared.tree.FunctionCall as code_call
use Rattle.pas_syntax.specs.declared.tree.MoreExpr as code_more
use Rattle.pas_syntax.specs.declared.tree.Expr.TheOpen.{Expr-F, Sum-F, Term-F, Factor-F, Selector-F, Exprs-F}
use Rattle.pas_syntax.specs.declared.tree.Expr.TheOpen.{FunctionCall-F}
use Rattle.pas_syntax.specs.declared.tree.Expr.TheOpen.{MoreExpr-F, Variable-F}
use Rattle.pas_syntax.specs.declared.tree.Expr.TheFolds.{fold-Expr, fold-Sum, fold-Term, fold-Factor, fold-Variable}
use Rattle.pas_syntax.specs.declared.tree.Expr.TheFolds.{fold-Selector, fold-Exprs, fold-FunctionCall, fold-MoreExpr}
use Rattle.pas_syntax.specs.Tree as tree
use Rattle.pas_syntax.specs.Tree.{Ident, Numeral, Quoted, Behind, Lined, Separated, Constant, Simple, Expr, Sum, Term}
use Rattle.pas_syntax.specs.Tree.{Factor, Variable, Exprs}

-- a part of the spellings
abbrev pub spelled_in : List ℕ → Span → List ℕ
spelled_in spellings span = take span.count (drop span.first spellings)

-- names, numbers, strings, signs and operators
abbrev pub ident_in : List ℕ → CodeIdent → Ident
ident_in spellings ident = record { name = spelled_in spellings ident.span; line = ident.line }

abbrev pub numeral_in : CodeNumeral → Numeral
numeral_in numeral = record { value = numeral.value; line = numeral.line }

abbrev pub quoted_in : List ℕ → CodeQuoted → Quoted
quoted_in spellings quoted = record { text = spelled_in spellings quoted.span; line = quoted.line }

-- all that has been selected, from the first on
abbrev pub in_turn : {A : Type 0} → A → List (A → A) → A
in_turn first more = fold (λ found further. further found) first more

-- a sign or an operator
abbrev pub lined_in : {A : Type 0} → CodeLined A → Lined A
lined_in lined = record { item = lined.item; line = lined.line }

abbrev pub sign_in : Option (CodeLined Sign) → Option (Lined Sign)
sign_in None = None
sign_in (Some lead) = Some (lined_in lead)

-- items behind separators
abbrev pub behind_in : {A B : Type 0} → (A → B) → CodeBehind A → Behind B
behind_in item behind = record { line = behind.line; item = item behind.item }

abbrev pub separated_in : {A B : Type 0} → (A → B) → CodeSeparated A → Separated B
separated_in item items = record { first = item items.first; more = map (behind_in item) items.more }

-- what may be there
abbrev pub if_there : {A B : Type 0} → (A → B) → Option A → Option B
if_there item None = None
if_there item (Some there) = Some (item there)

-- constants and types
abbrev pub constant_in : List ℕ → CodeConstant → Constant
constant_in spellings (constant.Number lead numeral) = tree.number (sign_in lead) (numeral_in numeral)
constant_in spellings (constant.Named lead ident) = tree.named (sign_in lead) (ident_in spellings ident)
constant_in spellings (constant.Text quoted) = tree.text (quoted_in spellings quoted)

abbrev pub simple_in : List ℕ → CodeSimple → Simple
simple_in spellings (simple.Named ident) = tree.simple_named (ident_in spellings ident)
simple_in spellings (simple.Range low line high) =
    tree.range (constant_in spellings low) line (constant_in spellings high)

-- a layer of the code's expressions, of which the inner ones are those of the definition; what stands behind others
-- tells
-- what they become by it
abbrev pub OfExprs : (Type 0 → Type 0 → Type 0 → Type 0 → Type 0 → Type 0 → Type 0 → Type 0 → Type 0 → Type 0) → Type 0
OfExprs Layer = Layer Expr Factor (Variable → Variable) Sum Term Exprs Factor (Exprs → Exprs) Variable

abbrev pub expr_step : OfExprs Expr-F → Expr
expr_step (Expr-F.Sum s) = tree.sum s
expr_step (Expr-F.Relation left op right) = tree.relation left (lined_in op) right

abbrev pub sum_step : OfExprs Sum-F → Sum
sum_step (Sum-F.FirstTerm t) = tree.first_term t
sum_step (Sum-F.SignedTerm lead t) = tree.signed_term (lined_in lead) t
sum_step (Sum-F.MoreTerms left op t) = tree.more_terms left (lined_in op) t

abbrev pub term_step : OfExprs Term-F → Term
term_step (Term-F.FirstFactor f) = tree.first_factor f
term_step (Term-F.MoreFactors left op f) = tree.more_factors left (lined_in op) f

abbrev pub factor_step : List ℕ → OfExprs Factor-F → Factor
factor_step spellings (Factor-F.Literal numeral) = tree.literal (numeral_in numeral)
factor_step spellings (Factor-F.Text quoted) = tree.literal_text (quoted_in spellings quoted)
factor_step spellings (Factor-F.Parenthesized opened e closed) = tree.parenthesized opened e closed
factor_step spellings (Factor-F.Negated line f) = tree.negated line f
factor_step spellings (Factor-F.Variable v) = tree.variable v
factor_step spellings (Factor-F.Call call) = call

abbrev pub call_step : List ℕ → OfExprs FunctionCall-F → Factor
call_step spellings call = tree.function_call (ident_in spellings call.name) call.opened call.arguments call.closed

abbrev pub selector_step : List ℕ → OfExprs Selector-F → Variable → Variable
selector_step spellings (Selector-F.Indexes opened indexes closed) v = tree.indexed v opened indexes closed
selector_step spellings (Selector-F.Field line ident) v = tree.field_of v line (ident_in spellings ident)
selector_step spellings (Selector-F.Buffer line) v = tree.buffer_of v line

abbrev pub variable_step : List ℕ → OfExprs Variable-F → Variable
variable_step spellings v = in_turn (tree.whole (ident_in spellings v.name)) v.selectors

abbrev pub exprs_step : OfExprs Exprs-F → Exprs
exprs_step exprs = in_turn (tree.first_expr exprs.first) exprs.more

abbrev pub more_expr_step : OfExprs MoreExpr-F → Exprs → Exprs
more_expr_step more others = tree.more_exprs others more.line more.value

module _ (spellings : List ℕ) where
  abbrev pub expr_in : code_expr.Expr → Expr
  expr_in = fold-Expr Expr Factor (Variable → Variable) Sum Term Exprs Factor (Exprs → Exprs) Variable
      expr_step (factor_step spellings) (selector_step spellings) sum_step term_step exprs_step (call_step spellings)
      more_expr_step (variable_step spellings)

  abbrev pub sum_in : code_sum.Sum → Sum
  sum_in = fold-Sum Expr Factor (Variable → Variable) Sum Term Exprs Factor (Exprs → Exprs) Variable
      expr_step (factor_step spellings) (selector_step spellings) sum_step term_step exprs_step (call_step spellings)
      more_expr_step (variable_step spellings)

  abbrev pub term_in : code_term.Term → Term
  term_in = fold-Term Expr Factor (Variable → Variable) Sum Term Exprs Factor (Exprs → Exprs) Variable
      expr_step (factor_step spellings) (selector_step spellings) sum_step term_step exprs_step (call_step spellings)
      more_expr_step (variable_step spellings)

  abbrev pub factor_in : code_factor.Factor → Factor
  factor_in = fold-Factor Expr Factor (Variable → Variable) Sum Term Exprs Factor (Exprs → Exprs) Variable
      expr_step (factor_step spellings) (selector_step spellings) sum_step term_step exprs_step (call_step spellings)
      more_expr_step (variable_step spellings)

  abbrev pub variable_in : code_variable.Variable → Variable
  variable_in = fold-Variable Expr Factor (Variable → Variable) Sum Term Exprs Factor (Exprs → Exprs) Variable
      expr_step (factor_step spellings) (selector_step spellings) sum_step term_step exprs_step (call_step spellings)
      more_expr_step (variable_step spellings)

  abbrev pub selector_in : code_selector.Selector → Variable → Variable
  selector_in = fold-Selector Expr Factor (Variable → Variable) Sum Term Exprs Factor (Exprs → Exprs) Variable
      expr_step (factor_step spellings) (selector_step spellings) sum_step term_step exprs_step (call_step spellings)
      more_expr_step (variable_step spellings)

  abbrev pub exprs_in : code_exprs.Exprs → Exprs
  exprs_in = fold-Exprs Expr Factor (Variable → Variable) Sum Term Exprs Factor (Exprs → Exprs) Variable
      expr_step (factor_step spellings) (selector_step spellings) sum_step term_step exprs_step (call_step spellings)
      more_expr_step (variable_step spellings)

  abbrev pub call_in : code_call.FunctionCall → Factor
  call_in = fold-FunctionCall Expr Factor (Variable → Variable) Sum Term Exprs Factor (Exprs → Exprs) Variable
      expr_step (factor_step spellings) (selector_step spellings) sum_step term_step exprs_step (call_step spellings)
      more_expr_step (variable_step spellings)

  abbrev pub more_expr_in : code_more.MoreExpr → Exprs → Exprs
  more_expr_in = fold-MoreExpr Expr Factor (Variable → Variable) Sum Term Exprs Factor (Exprs → Exprs) Variable
      expr_step (factor_step spellings) (selector_step spellings) sum_step term_step exprs_step (call_step spellings)
      more_expr_step (variable_step spellings)
