-- What the code's expressions are as those of the definition, by the variant that was found.
use Rattle.std.proofs.Common.{◌≡◌, sym, ap, ◌∙◌, ℕ, List}
use Rattle.pas_syntax.specs.declared.operators.Sign.{Sign}
use Rattle.pas_syntax.specs.declared.operators.Relation.{Relation}
use Rattle.pas_syntax.specs.declared.operators.Adding.{Adding}
use Rattle.pas_syntax.specs.declared.operators.Multiplying.{Multiplying}
use Rattle.pas_syntax.specs.declared.tree.Ident.{Ident as CodeIdent}
use Rattle.pas_syntax.specs.declared.tree.Numeral.{Numeral as CodeNumeral}
use Rattle.pas_syntax.specs.declared.tree.Quoted.{Quoted as CodeQuoted}
use Rattle.pas_syntax.specs.declared.tree.Lined.{Lined as CodeLined}
use Rattle.pas_syntax.specs.declared.tree.Expr as code_expr
use Rattle.pas_syntax.specs.declared.tree.Sum as code_sum
use Rattle.pas_syntax.specs.declared.tree.Term as code_term
use Rattle.pas_syntax.specs.declared.tree.Factor as code_factor
use Rattle.pas_syntax.specs.declared.tree.Variable as code_variable
use Rattle.pas_syntax.specs.declared.tree.Selector as code_selector
use Rattle.pas_syntax.specs.declared.tree.Exprs as code_exprs
use Rattle.pas_syntax.specs.declared.tree.FunctionCall as code_call
use Rattle.pas_syntax.specs.declared.tree.Expr.TheVariants as expr
use Rattle.pas_syntax.specs.declared.tree.Sum.TheVariants as sum
use Rattle.pas_syntax.specs.declared.tree.Term.TheVariants as term
use Rattle.pas_syntax.specs.declared.tree.Factor.TheVariants as factor
use Rattle.pas_syntax.specs.declared.tree.Selector.TheVariants as selector
use Rattle.pas_syntax.specs.declared.tree.Expr.TheOpen.{Sum-F, Term-F}
use Rattle.pas_syntax.specs.declared.tree.Expr.TheFolds.{fold-roll-Sum, fold-roll-Term}
use Rattle.pas_syntax.specs.Tree as tree
use Rattle.pas_syntax.specs.Tree.{Expr, Sum, Term, Factor, Variable, Exprs}
use Rattle.pas_syntax.specs.Views.{ident_in, numeral_in, quoted_in, lined_in, expr_step, sum_step, term_step}
use Rattle.pas_syntax.specs.Views.{factor_step, call_step, selector_step, variable_step, exprs_step, more_expr_step}
use Rattle.pas_syntax.specs.Views.{expr_in, sum_in, term_in, factor_in, variable_in, selector_in, exprs_in, call_in}
use Rattle.pas_syntax.proofs.ExprViews.{sum_view, relation_view, first_term_view, signed_term_view, first_factor_view}
use Rattle.pas_syntax.proofs.ExprViews.{literal_view, text_view, parenthesized_view, negated_view, variable_view}
use Rattle.pas_syntax.proofs.ExprViews.{call_view, indexes_view, field_view, buffer_view}

module _ (spellings : List ℕ) where
  more_terms_view : (left : code_sum.Sum) (op : CodeLined Adding) (t : code_term.Term)
      → sum_in spellings (sum.MoreTerms left op t)
      ≡ tree.more_terms (sum_in spellings left) (lined_in op) (term_in spellings t)
  unfolding code_sum.roll-Sum denote.Hole.Carrier.roll
  more_terms_view left op t =
      fold-roll-Sum Expr Factor (Variable → Variable) Sum Term Exprs Factor (Exprs → Exprs) Variable
      expr_step (factor_step spellings) (selector_step spellings) sum_step term_step exprs_step (call_step spellings)
      more_expr_step (variable_step spellings) (Sum-F.MoreTerms left op t)

  more_factors_view : (left : code_term.Term) (op : CodeLined Multiplying) (f : code_factor.Factor)
      → term_in spellings (term.MoreFactors left op f)
      ≡ tree.more_factors (term_in spellings left) (lined_in op) (factor_in spellings f)
  unfolding code_term.roll-Term denote.Hole.Carrier.roll
  more_factors_view left op f =
      fold-roll-Term Expr Factor (Variable → Variable) Sum Term Exprs Factor (Exprs → Exprs) Variable
      expr_step (factor_step spellings) (selector_step spellings) sum_step term_step exprs_step (call_step spellings)
      more_expr_step (variable_step spellings) (Term-F.MoreFactors left op f)

  pub sum_seen : (e : code_expr.Expr) (s : code_sum.Sum) → e ≡ expr.Sum s
      → tree.sum (sum_in spellings s) ≡ expr_in spellings e
  sum_seen e s is = sym (ap (expr_in spellings) is ∙ sum_view spellings s)

  pub relation_seen : (e : code_expr.Expr) (left one right other : code_sum.Sum) (op : CodeLined Relation)
      → e ≡ expr.Relation left op right → one ≡ left → other ≡ right
      → tree.relation (sum_in spellings one) (lined_in op) (sum_in spellings other) ≡ expr_in spellings e
  relation_seen e left one right other op is first second =
      ap (λ (s : code_sum.Sum). tree.relation (sum_in spellings s) (lined_in op) (sum_in spellings other)) first
      ∙ ap (λ (s : code_sum.Sum). tree.relation (sum_in spellings left) (lined_in op) (sum_in spellings s)) second
      ∙ sym (ap (expr_in spellings) is ∙ relation_view spellings left op right)

  pub first_term_seen : (s : code_sum.Sum) (t : code_term.Term) → s ≡ sum.FirstTerm t
      → tree.first_term (term_in spellings t) ≡ sum_in spellings s
  first_term_seen s t is = sym (ap (sum_in spellings) is ∙ first_term_view spellings t)

  pub signed_term_seen : (s : code_sum.Sum) (lead : CodeLined Sign) (t : code_term.Term) → s ≡ sum.SignedTerm lead t
      → tree.signed_term (lined_in lead) (term_in spellings t) ≡ sum_in spellings s
  signed_term_seen s lead t is = sym (ap (sum_in spellings) is ∙ signed_term_view spellings lead t)

  pub more_terms_seen : (s left one : code_sum.Sum) (right other : code_term.Term) (op : CodeLined Adding)
      → s ≡ sum.MoreTerms left op right → one ≡ left → other ≡ right
      → tree.more_terms (sum_in spellings one) (lined_in op) (term_in spellings other) ≡ sum_in spellings s
  more_terms_seen s left one right other op is first second =
      ap (λ (s : code_sum.Sum). tree.more_terms (sum_in spellings s) (lined_in op) (term_in spellings other)) first
      ∙ ap (λ (t : code_term.Term). tree.more_terms (sum_in spellings left) (lined_in op) (term_in spellings t)) second
      ∙ sym (ap (sum_in spellings) is ∙ more_terms_view left op right)

  pub first_factor_seen : (t : code_term.Term) (f : code_factor.Factor) → t ≡ term.FirstFactor f
      → tree.first_factor (factor_in spellings f) ≡ term_in spellings t
  first_factor_seen t f is = sym (ap (term_in spellings) is ∙ first_factor_view spellings f)

  pub more_factors_seen : (t left one : code_term.Term) (right other : code_factor.Factor) (op : CodeLined Multiplying)
      → t ≡ term.MoreFactors left op right → one ≡ left → other ≡ right
      → tree.more_factors (term_in spellings one) (lined_in op) (factor_in spellings other) ≡ term_in spellings t
  more_factors_seen t left one right other op is first second =
      ap (λ (t : code_term.Term). tree.more_factors (term_in spellings t) (lined_in op) (factor_in spellings other))
      first
      ∙ ap (λ (f : code_factor.Factor). tree.more_factors (term_in spellings left) (lined_in op) (factor_in spellings
      f))
      second
      ∙ sym (ap (term_in spellings) is ∙ more_factors_view left op right)

  pub literal_seen : (f : code_factor.Factor) (numeral : CodeNumeral) → f ≡ factor.Literal numeral
      → tree.literal (numeral_in numeral) ≡ factor_in spellings f
  literal_seen f numeral is = sym (ap (factor_in spellings) is ∙ literal_view spellings numeral)

  pub text_seen : (f : code_factor.Factor) (quoted : CodeQuoted) → f ≡ factor.Text quoted
      → tree.literal_text (quoted_in spellings quoted) ≡ factor_in spellings f
  text_seen f quoted is = sym (ap (factor_in spellings) is ∙ text_view spellings quoted)

  pub parenthesized_seen : (f : code_factor.Factor) (opened : ℕ) (e inner : code_expr.Expr) (closed : ℕ)
      → f ≡ factor.Parenthesized opened e closed → inner ≡ e
      → tree.parenthesized opened (expr_in spellings inner) closed ≡ factor_in spellings f
  parenthesized_seen f opened e inner closed is same =
      ap (λ (e : code_expr.Expr). tree.parenthesized opened (expr_in spellings e) closed) same
      ∙ sym (ap (factor_in spellings) is ∙ parenthesized_view spellings opened e closed)

  pub negated_seen : (f : code_factor.Factor) (line : ℕ) (operand inner : code_factor.Factor)
      → f ≡ factor.Negated line operand → inner ≡ operand
      → tree.negated line (factor_in spellings inner) ≡ factor_in spellings f
  negated_seen f line operand inner is same =
      ap (λ (f : code_factor.Factor). tree.negated line (factor_in spellings f)) same
      ∙ sym (ap (factor_in spellings) is ∙ negated_view spellings line operand)

  pub variable_seen : (f : code_factor.Factor) (v inner : code_variable.Variable) → f ≡ factor.Variable v → inner ≡ v
      → tree.variable (variable_in spellings inner) ≡ factor_in spellings f
  variable_seen f v inner is same =
      ap (λ (v : code_variable.Variable). tree.variable (variable_in spellings v)) same
      ∙ sym (ap (factor_in spellings) is ∙ variable_view spellings v)

  pub call_seen : (f : code_factor.Factor) (call inner : code_call.FunctionCall) → f ≡ factor.Call call → inner ≡ call
      → call_in spellings inner ≡ factor_in spellings f
  call_seen f call inner is same =
      ap (call_in spellings) same ∙ sym (ap (factor_in spellings) is ∙ call_view spellings call)

  pub indexes_seen : (s : code_selector.Selector) (opened : ℕ) (es inner : code_exprs.Exprs) (closed : ℕ) (v :
      Variable)
      → s ≡ selector.Indexes opened es closed → inner ≡ es
      → tree.indexed v opened (exprs_in spellings inner) closed ≡ selector_in spellings s v
  indexes_seen s opened es inner closed v is same =
      ap (λ (es : code_exprs.Exprs). tree.indexed v opened (exprs_in spellings es) closed) same
      ∙ sym (ap (λ (s : code_selector.Selector). selector_in spellings s v) is
      ∙ ap (λ (make : Variable → Variable). make v) (indexes_view spellings opened es closed))

  pub field_seen : (s : code_selector.Selector) (line : ℕ) (ident : CodeIdent) (v : Variable)
      → s ≡ selector.Field line ident → tree.field_of v line (ident_in spellings ident) ≡ selector_in spellings s v
  field_seen s line ident v is =
      sym (ap (λ (s : code_selector.Selector). selector_in spellings s v) is
      ∙ ap (λ (make : Variable → Variable). make v) (field_view spellings line ident))

  pub buffer_seen : (s : code_selector.Selector) (line : ℕ) (v : Variable) → s ≡ selector.Buffer line
      → tree.buffer_of v line ≡ selector_in spellings s v
  buffer_seen s line v is =
      sym (ap (λ (s : code_selector.Selector). selector_in spellings s v) is
      ∙ ap (λ (make : Variable → Variable). make v) (buffer_view spellings line))
