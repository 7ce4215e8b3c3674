-- The readers of expressions, as the code goes. A number of turns bounds each loop and each recursion.
use Rattle.std.specs.Prelude.{ℕ, zero, suc, ◌+◌, nat_lt, Bool, true, false}
use Rattle.wb_base.specs.declared.faults.TheConstants.{REAL_NUMBERS, SETS, POINTERS, NESTING_PAST_LIMIT}
use Rattle.pas_tokens.specs.declared.kinds.Kind.{Kind}
use Rattle.pas_tokens.specs.declared.kinds.Kind.TheVariants as k
use Rattle.pas_tokens.specs.Cutting.{Payload, nothing, value, spelling}
use Rattle.pas_syntax.specs.declared.limits.TheConstants.{NESTING_LIMIT}
use Rattle.pas_syntax.specs.declared.operators.Sign.{Sign}
use Rattle.pas_syntax.specs.declared.operators.Sign.TheVariants as sign
use Rattle.pas_syntax.specs.declared.operators.Multiplying.{Multiplying}
use Rattle.pas_syntax.specs.declared.operators.Multiplying.TheVariants as multiplying
use Rattle.pas_syntax.specs.declared.operators.Adding.{Adding}
use Rattle.pas_syntax.specs.declared.operators.Adding.TheVariants as adding
use Rattle.pas_syntax.specs.declared.operators.Relation.{Relation}
use Rattle.pas_syntax.specs.declared.operators.Relation.TheVariants as relates
use Rattle.pas_syntax.specs.Tree as tree
use Rattle.pas_syntax.specs.Tree.{Ident, Quoted, Expr, Sum, Term, Factor, Variable, Exprs}
use Rattle.pas_syntax.specs.Words.{sum_depth, term_depth}
use Rattle.pas_syntax.specs.inner.Prog.{Prog, done, fail, look, skip, bind, misplaced, shown, spent, Next, more, ends}
use Rattle.pas_syntax.specs.inner.Prog.{no, turns}

-- a reader, unless nesting passes its limit
abbrev pub unless : {A : Type 0} → Bool → Prog A → Prog A
unless true reader = fail (shown NESTING_PAST_LIMIT)
unless false reader = reader

-- behind a token that makes so many forms open, or so many operators count
abbrev pub in_form : {A : Type 0} → ℕ → Prog A → Prog A
in_form forms reader = unless (nat_lt NESTING_LIMIT forms) reader

abbrev pub in_operand : {A : Type 0} → ℕ → Prog A → Prog A
in_operand operators reader = unless (nat_lt NESTING_LIMIT operators) reader

-- a turn of a loop that begins with an operator, unless so many operators are too many
abbrev pub turn_unless : {A : Type 0} → Bool → Prog A → Next A
turn_unless true turn = no (shown NESTING_PAST_LIMIT)
turn_unless false turn = more turn

-- a name; its line
abbrev pub ident_at : Kind → Payload → ℕ → Prog Ident
ident_at k.Name (spelling name) line = skip (done (record { name = name; line = line }))
ident_at kind payload line = fail misplaced

abbrev pub ident : Prog Ident
ident = look ident_at

-- a string
abbrev pub quoted_at : Kind → Payload → ℕ → Prog Quoted
quoted_at k.Text (spelling text) line = skip (done (record { text = text; line = line }))
quoted_at kind payload line = fail misplaced

abbrev pub quoted : Prog Quoted
quoted = look quoted_at

abbrev pub right_parenthesis_at : Kind → Payload → ℕ → Prog ℕ
right_parenthesis_at k.RightParenthesis nothing line = skip (done line)
right_parenthesis_at kind payload line = fail misplaced

abbrev pub right_bracket_at : Kind → Payload → ℕ → Prog ℕ
right_bracket_at k.RightBracket nothing line = skip (done line)
right_bracket_at kind payload line = fail misplaced

module _ (factor : ℕ → ℕ → Prog Factor) (most : ℕ) where
  -- term = factor {("*"|"div"|"mod"|"and") factor}
  abbrev pub factor_behind : ℕ → ℕ → Term → Multiplying → ℕ → Next Term
  factor_behind n a left op line =
      turn_unless (nat_lt NESTING_LIMIT (a + 1 + term_depth left))
      (bind (factor n (a + 1)) (λ right. done (tree.more_factors left (record { item = op; line = line }) right)))

  abbrev pub behind_factor : ℕ → ℕ → Term → Kind → Payload → ℕ → Next Term
  behind_factor n a left k.Star nothing line = factor_behind n a left multiplying.Times line
  behind_factor n a left k.Div nothing line = factor_behind n a left multiplying.Div line
  behind_factor n a left k.Mod nothing line = factor_behind n a left multiplying.Mod line
  behind_factor n a left k.And nothing line = factor_behind n a left multiplying.And line
  behind_factor n a left k.Slash nothing line = no (shown REAL_NUMBERS)
  behind_factor n a left kind payload line = ends

  abbrev pub term_by : ℕ → ℕ → Prog Term
  term_by n a = bind (factor n a) (λ first. turns (behind_factor n a) most (tree.first_factor first))

  -- sum = ["+"|"-"] term {("+"|"-"|"or") term}
  abbrev pub term_behind : ℕ → ℕ → Sum → Adding → ℕ → Next Sum
  term_behind n a left op line =
      turn_unless (nat_lt NESTING_LIMIT (a + 1 + sum_depth left))
      (bind (term_by n (a + 1)) (λ right. done (tree.more_terms left (record { item = op; line = line }) right)))

  abbrev pub behind_term : ℕ → ℕ → Sum → Kind → Payload → ℕ → Next Sum
  behind_term n a left k.Plus nothing line = term_behind n a left adding.Plus line
  behind_term n a left k.Minus nothing line = term_behind n a left adding.Minus line
  behind_term n a left k.Or nothing line = term_behind n a left adding.Or line
  behind_term n a left k.In nothing line = no (shown SETS)
  behind_term n a left kind payload line = ends

  abbrev pub signed_by : ℕ → ℕ → Sign → ℕ → Prog Sum
  signed_by n a lead line =
      in_operand (a + 1) (skip (bind (term_by n (a + 1))
      (λ first. done (tree.signed_term (record { item = lead; line = line }) first))))

  abbrev pub first_term_at : ℕ → ℕ → Kind → Payload → ℕ → Prog Sum
  first_term_at n a k.Plus nothing line = signed_by n a sign.Plus line
  first_term_at n a k.Minus nothing line = signed_by n a sign.Minus line
  first_term_at n a kind payload line = bind (term_by n a) (λ first. done (tree.first_term first))

  abbrev pub sum_by : ℕ → ℕ → Prog Sum
  sum_by n a = bind (look (first_term_at n a)) (λ first. turns (behind_term n a) most first)

  -- expr = sum [("="|"<>"|"<"|"<="|">"|">=") sum]
  abbrev pub related_by : ℕ → ℕ → Sum → Relation → ℕ → Prog Expr
  related_by n a left op line =
      in_operand (a + 1 + sum_depth left) (skip (bind (sum_by n (a + 1))
      (λ right. done (tree.relation left (record { item = op; line = line }) right))))

  abbrev pub behind_sum : ℕ → ℕ → Sum → Kind → Payload → ℕ → Prog Expr
  behind_sum n a left k.Equal nothing line = related_by n a left relates.Equal line
  behind_sum n a left k.NotEqual nothing line = related_by n a left relates.NotEqual line
  behind_sum n a left k.Less nothing line = related_by n a left relates.Less line
  behind_sum n a left k.LessOrEqual nothing line = related_by n a left relates.LessOrEqual line
  behind_sum n a left k.Greater nothing line = related_by n a left relates.Greater line
  behind_sum n a left k.GreaterOrEqual nothing line = related_by n a left relates.GreaterOrEqual line
  behind_sum n a left kind payload line = done (tree.sum left)

  abbrev pub expr_by : ℕ → ℕ → Prog Expr
  expr_by n a = bind (sum_by n a) (λ left. look (behind_sum n a left))

  -- expr {"," expr}
  abbrev pub behind_expr : ℕ → ℕ → Exprs → Kind → Payload → ℕ → Next Exprs
  behind_expr n a others k.Comma nothing line =
      more (bind (expr_by n a) (λ e. done (tree.more_exprs others line e)))
  behind_expr n a others kind payload line = ends

  abbrev pub exprs_by : ℕ → ℕ → Prog Exprs
  exprs_by n a = bind (expr_by n a) (λ first. turns (behind_expr n a) most (tree.first_expr first))

  -- var = id {"[" expr {"," expr} "]" | "." id | "^"}
  abbrev pub indexes_by : ℕ → ℕ → Variable → ℕ → Prog Variable
  indexes_by n a v line =
      bind (exprs_by (n + 1) a) (λ indexes. bind (look right_bracket_at)
      (λ closed. done (tree.indexed v line indexes closed)))

  abbrev pub behind_variable : ℕ → ℕ → Variable → Kind → Payload → ℕ → Next Variable
  behind_variable n a v k.LeftBracket nothing line =
      turn_unless (nat_lt NESTING_LIMIT (n + 1)) (indexes_by n a v line)
  behind_variable n a v k.Dot nothing line = more (bind ident (λ name. done (tree.field_of v line name)))
  behind_variable n a v k.Caret nothing line = more (done (tree.buffer_of v line))
  behind_variable n a v kind payload line = ends

  abbrev pub variable_by : ℕ → ℕ → Ident → Prog Variable
  variable_by n a name = turns (behind_variable n a) most (tree.whole name)

  -- factor = number | string | "(" expr ")" | "not" factor | var | id "(" expr {"," expr} ")"
  abbrev pub call_by : ℕ → ℕ → Ident → ℕ → Prog Factor
  call_by n a name line =
      in_form (n + 1) (skip (bind (exprs_by (n + 1) a) (λ arguments. bind (look right_parenthesis_at)
      (λ closed. done (tree.function_call name line arguments closed)))))

  abbrev pub behind_name : ℕ → ℕ → Ident → Kind → Payload → ℕ → Prog Factor
  behind_name n a name k.LeftParenthesis nothing line = call_by n a name line
  behind_name n a name kind payload line = bind (variable_by n a name) (λ v. done (tree.variable v))

  abbrev pub named_by : ℕ → ℕ → Prog Factor
  named_by n a = bind ident (λ name. look (behind_name n a name))

  abbrev pub parenthesized_by : ℕ → ℕ → ℕ → Prog Factor
  parenthesized_by n a line =
      in_form (n + 1) (skip (bind (expr_by (n + 1) a) (λ e. bind (look right_parenthesis_at)
      (λ closed. done (tree.parenthesized line e closed)))))

  abbrev pub negated_by : ℕ → ℕ → ℕ → Prog Factor
  negated_by n a line = in_operand (a + 1) (skip (bind (factor n (a + 1)) (λ f. done (tree.negated line f))))

  abbrev pub factor_at : ℕ → ℕ → Kind → Payload → ℕ → Prog Factor
  factor_at n a k.Number (value number) line =
      skip (done (tree.literal (record { value = number; line = line })))
  factor_at n a k.Text (spelling text) line =
      skip (done (tree.literal_text (record { text = text; line = line })))
  factor_at n a k.LeftParenthesis nothing line = parenthesized_by n a line
  factor_at n a k.Not nothing line = negated_by n a line
  factor_at n a k.Name (spelling name) line =
      skip (look (behind_name n a (record { name = name; line = line })))
  factor_at n a k.LeftBracket nothing line = fail (shown SETS)
  factor_at n a k.Nil nothing line = fail (shown POINTERS)
  factor_at n a kind payload line = fail misplaced

-- a factor, where so many turns may be taken
unfoldable pub factor : ℕ → ℕ → ℕ → Prog Factor
factor zero n a = fail spent
factor (suc most) n a = look (factor_at (factor most) most n a)

-- the same of expressions, of lists of them, and of variables behind their names
unfoldable pub expr : ℕ → ℕ → ℕ → Prog Expr
expr most n a = expr_by (factor most) most n a

unfoldable pub exprs : ℕ → ℕ → ℕ → Prog Exprs
exprs most n a = exprs_by (factor most) most n a

unfoldable pub variable : ℕ → ℕ → ℕ → Ident → Prog Variable
variable most n a name = variable_by (factor most) most n a name
