-- How the readers of expressions go at each kind of token.
use Rattle.std.proofs.Common.{◌≡◌, refl, sym, ap, ◌∙◌, ℕ, zero, suc, ◌+◌, ◌≤◌, arith, Bool, true, false}
use Rattle.std.proofs.Common.{List, [], ◌∷◌}
use Rattle.std.proofs.Common.{length, Result}
use Rattle.std.specs.Prelude.{nat_lt}
use Rattle.wb_base.specs.declared.faults.TheConstants.{REAL_NUMBERS, SETS, POINTERS}
use Rattle.pas_tokens.specs.declared.kinds.Kind.{Kind}
use Rattle.pas_tokens.specs.declared.kinds.Kind.TheVariants as k
use Rattle.pas_tokens.specs.Cutting.{Payload, nothing, value, spelling}
use Rattle.pas_tokens.specs.Tokens.{Token}
use Rattle.pas_syntax.specs.declared.limits.TheConstants.{NESTING_LIMIT}
use Rattle.pas_syntax.specs.declared.stop.Stop.{Stop}
use Rattle.pas_syntax.specs.declared.operators.Sign.{Sign}
use Rattle.pas_syntax.specs.declared.operators.Sign.TheVariants as sign
use Rattle.pas_syntax.specs.declared.operators.Multiplying.{Multiplying}
use Rattle.pas_syntax.specs.declared.operators.Multiplying.TheVariants as multiplying
use Rattle.pas_syntax.specs.declared.operators.Adding.{Adding}
use Rattle.pas_syntax.specs.declared.operators.Adding.TheVariants as adding
use Rattle.pas_syntax.specs.declared.operators.Relation.{Relation}
use Rattle.pas_syntax.specs.declared.operators.Relation.TheVariants as relates
use Rattle.pas_syntax.specs.Tree as tree
use Rattle.pas_syntax.specs.Tree.{Ident, Lined, Expr, Sum, Term, Factor, Variable, Exprs}
use Rattle.pas_syntax.specs.Words.{relation_kind, adding_kind, multiplying_kind, sign_kind, sum_depth, term_depth}
use Rattle.pas_syntax.specs.inner.Prog.{Prog, done, fail, look, skip, bind, run, head, shown, ends, turn_of}
use Rattle.pas_syntax.specs.inner.Prog.{a_turn}
use Rattle.pas_syntax.specs.inner.Places.{Place, IsPlain, Fits, Gives, Parses, ParsesIn, same}
use Rattle.pas_syntax.specs.inner.Deeps.{BeginsSelector}
use Rattle.pas_syntax.specs.inner.Readers.{expr_by, exprs_by, indexes_by}
use Rattle.pas_syntax.specs.inner.StatementReaders.{numeral, numeral_at}
use Rattle.pas_syntax.specs.inner.Readers.{unless, turn_unless, ident, ident_at, quoted, quoted_at, behind_sum}
use Rattle.pas_syntax.specs.inner.Readers.{related_by}
use Rattle.pas_syntax.specs.inner.Readers.{behind_term, term_by, behind_factor, first_term_at, signed_by, factor_at}
use Rattle.pas_syntax.specs.inner.Readers.{factor, expr, exprs}
use Rattle.pas_syntax.specs.inner.Readers.{parenthesized_by, negated_by, named_by, behind_name, call_by, variable_by}
use Rattle.pas_syntax.specs.inner.Readers.{behind_expr, behind_variable, right_parenthesis_at, right_bracket_at}
use Rattle.pas_syntax.specs.inner.Marks.{mark, mark_at}
use Rattle.pas_syntax.proofs.PlaceLemmas.{told, goes_as, any_turns}

turn_of_unless : {A : Type 0} (b : Bool) (q : Prog A) → turn_of (turn_unless b q) ≡ unless b (skip q)
turn_of_unless true q = refl
turn_of_unless false q = refl

relation_plain : (op : Relation) → IsPlain (relation_kind op)
relation_plain relates.Equal = tt
relation_plain relates.NotEqual = tt
relation_plain relates.Less = tt
relation_plain relates.LessOrEqual = tt
relation_plain relates.Greater = tt
relation_plain relates.GreaterOrEqual = tt

adding_plain : (op : Adding) → IsPlain (adding_kind op)
adding_plain adding.Plus = tt
adding_plain adding.Minus = tt
adding_plain adding.Or = tt

multiplying_plain : (op : Multiplying) → IsPlain (multiplying_kind op)
multiplying_plain multiplying.Times = tt
multiplying_plain multiplying.Div = tt
multiplying_plain multiplying.Mod = tt
multiplying_plain multiplying.And = tt

sign_plain : (op : Sign) → IsPlain (sign_kind op)
sign_plain sign.Plus = tt
sign_plain sign.Minus = tt

abbrev pub lined : {A : Type 0} → A → ℕ → Lined A
lined op line = record { item = op; line = line }

-- names and brackets
pub right_parenthesis_goes : (ts : List Token) → run (look right_parenthesis_at) ts ≡ run (mark k.RightParenthesis) ts
right_parenthesis_goes ts = goes (head ts).kind (head ts).payload (head ts).line
  where
    goes : (kind : Kind) (payload : Payload) (line : ℕ) → run (right_parenthesis_at kind payload line) ts
        ≡ run (mark_at k.RightParenthesis kind payload line) ts
    goes k.RightParenthesis payload line = refl
    goes kind payload line = refl

pub right_bracket_goes : (ts : List Token) → run (look right_bracket_at) ts ≡ run (mark k.RightBracket) ts
right_bracket_goes ts = goes (head ts).kind (head ts).payload (head ts).line
  where
    goes : (kind : Kind) (payload : Payload) (line : ℕ) → run (right_bracket_at kind payload line) ts
        ≡ run (mark_at k.RightBracket kind payload line) ts
    goes k.RightBracket payload line = refl
    goes kind payload line = refl

module _ (factor : ℕ → ℕ → Prog Factor) (most n a : ℕ) where
  next_sum : (left : Sum) (op : Relation) (line : ℕ)
      → behind_sum factor most n a left (relation_kind op) nothing line ≡ related_by factor most n a left op line
  next_sum left relates.Equal line = refl
  next_sum left relates.NotEqual line = refl
  next_sum left relates.Less line = refl
  next_sum left relates.LessOrEqual line = refl
  next_sum left relates.Greater line = refl
  next_sum left relates.GreaterOrEqual line = refl

  pub sum_goes : (left : Sum) (op : Relation) (ts : List Token) (line : ℕ) → relation_kind op ≡ (head ts).kind
      → Fits (head ts).kind (head ts).payload → line ≡ (head ts).line
      → run (look (behind_sum factor most n a left)) ts ≡ run (related_by factor most n a left op line) ts
  sum_goes left op ts line is fits same =
      told (behind_sum factor most n a left) (relation_kind op) ts line (relation_plain op) is fits same
      ∙ ap (λ q. run q ts) (next_sum left op line)

  pub sum_ends : (left : Sum) (kind : Kind) (payload : Payload) (line : ℕ)
      → ((op : Relation) → kind ≡ relation_kind op → ⊥)
      → behind_sum factor most n a left kind payload line ≡ done (tree.sum left)
  sum_ends left k.Equal payload line not = absurd (not relates.Equal refl)
  sum_ends left k.NotEqual payload line not = absurd (not relates.NotEqual refl)
  sum_ends left k.Less payload line not = absurd (not relates.Less refl)
  sum_ends left k.LessOrEqual payload line not = absurd (not relates.LessOrEqual refl)
  sum_ends left k.Greater payload line not = absurd (not relates.Greater refl)
  sum_ends left k.GreaterOrEqual payload line not = absurd (not relates.GreaterOrEqual refl)
  sum_ends left kind payload line not = refl

  -- a term more
  abbrev pub term_turn : Sum → Adding → ℕ → Prog Sum
  term_turn left op line =
      unless (nat_lt NESTING_LIMIT (a + 1 + sum_depth left))
      (skip (bind (term_by factor most n (a + 1)) (λ right. done (tree.more_terms left (lined op line) right))))

  next_term : (left : Sum) (op : Adding) (line : ℕ)
      → turn_of (behind_term factor most n a left (adding_kind op) nothing line) ≡ term_turn left op line
  next_term left adding.Plus line =
      turn_of_unless (nat_lt NESTING_LIMIT (a + 1 + sum_depth left)) (bind (term_by factor most n (a + 1))
      (λ right. done (tree.more_terms left (lined adding.Plus line) right)))
  next_term left adding.Minus line =
      turn_of_unless (nat_lt NESTING_LIMIT (a + 1 + sum_depth left)) (bind (term_by factor most n (a + 1))
      (λ right. done (tree.more_terms left (lined adding.Minus line) right)))
  next_term left adding.Or line =
      turn_of_unless (nat_lt NESTING_LIMIT (a + 1 + sum_depth left)) (bind (term_by factor most n (a + 1))
      (λ right. done (tree.more_terms left (lined adding.Or line) right)))

  pub term_goes : (left : Sum) (op : Adding) (ts : List Token) (line : ℕ) → adding_kind op ≡ (head ts).kind
      → Fits (head ts).kind (head ts).payload → line ≡ (head ts).line
      → run (a_turn (behind_term factor most n a) left) ts ≡ run (term_turn left op line) ts
  term_goes left op ts line is fits same =
      told (λ kind payload line. turn_of (behind_term factor most n a left kind payload line)) (adding_kind op) ts line
      (adding_plain op) is fits same
      ∙ ap (λ q. run q ts) (next_term left op line)

  pub in_goes : (left : Sum) (ts : List Token) → k.In ≡ (head ts).kind → Fits (head ts).kind (head ts).payload
      → run (a_turn (behind_term factor most n a) left) ts ≡ run {A = Sum} (fail (shown SETS)) ts
  in_goes left ts is fits =
      told (λ kind payload line. turn_of (behind_term factor most n a left kind payload line)) k.In ts (head ts).line
      tt is fits refl

  pub terms_end : (left : Sum) (kind : Kind) (payload : Payload) (line : ℕ)
      → ((op : Adding) → kind ≡ adding_kind op → ⊥) → (k.In ≡ kind → ⊥)
      → behind_term factor most n a left kind payload line ≡ ends
  terms_end left k.Plus payload line not other = absurd (not adding.Plus refl)
  terms_end left k.Minus payload line not other = absurd (not adding.Minus refl)
  terms_end left k.Or payload line not other = absurd (not adding.Or refl)
  terms_end left k.In payload line not other = absurd (other refl)
  terms_end left kind payload line not other = refl

  -- a factor more
  abbrev pub factor_turn : Term → Multiplying → ℕ → Prog Term
  factor_turn left op line =
      unless (nat_lt NESTING_LIMIT (a + 1 + term_depth left))
      (skip (bind (factor n (a + 1)) (λ right. done (tree.more_factors left (lined op line) right))))

  next_factor : (left : Term) (op : Multiplying) (line : ℕ)
      → turn_of (behind_factor factor most n a left (multiplying_kind op) nothing line) ≡ factor_turn left op line
  next_factor left multiplying.Times line =
      turn_of_unless (nat_lt NESTING_LIMIT (a + 1 + term_depth left)) (bind (factor n (a + 1))
      (λ right. done (tree.more_factors left (lined multiplying.Times line) right)))
  next_factor left multiplying.Div line =
      turn_of_unless (nat_lt NESTING_LIMIT (a + 1 + term_depth left)) (bind (factor n (a + 1))
      (λ right. done (tree.more_factors left (lined multiplying.Div line) right)))
  next_factor left multiplying.Mod line =
      turn_of_unless (nat_lt NESTING_LIMIT (a + 1 + term_depth left)) (bind (factor n (a + 1))
      (λ right. done (tree.more_factors left (lined multiplying.Mod line) right)))
  next_factor left multiplying.And line =
      turn_of_unless (nat_lt NESTING_LIMIT (a + 1 + term_depth left)) (bind (factor n (a + 1))
      (λ right. done (tree.more_factors left (lined multiplying.And line) right)))

  pub factor_goes : (left : Term) (op : Multiplying) (ts : List Token) (line : ℕ) → multiplying_kind op ≡ (head ts).kind
      → Fits (head ts).kind (head ts).payload → line ≡ (head ts).line
      → run (a_turn (behind_factor factor most n a) left) ts ≡ run (factor_turn left op line) ts
  factor_goes left op ts line is fits same =
      told (λ kind payload line. turn_of (behind_factor factor most n a left kind payload line)) (multiplying_kind op)
      ts line (multiplying_plain op) is fits same
      ∙ ap (λ q. run q ts) (next_factor left op line)

  pub slash_goes : (left : Term) (ts : List Token) → k.Slash ≡ (head ts).kind → Fits (head ts).kind (head ts).payload
      → run (a_turn (behind_factor factor most n a) left) ts ≡ run {A = Term} (fail (shown REAL_NUMBERS)) ts
  slash_goes left ts is fits =
      told (λ kind payload line. turn_of (behind_factor factor most n a left kind payload line)) k.Slash ts
      (head ts).line tt is fits refl

  pub factors_end : (left : Term) (kind : Kind) (payload : Payload) (line : ℕ)
      → ((op : Multiplying) → kind ≡ multiplying_kind op → ⊥) → (k.Slash ≡ kind → ⊥)
      → behind_factor factor most n a left kind payload line ≡ ends
  factors_end left k.Star payload line not other = absurd (not multiplying.Times refl)
  factors_end left k.Div payload line not other = absurd (not multiplying.Div refl)
  factors_end left k.Mod payload line not other = absurd (not multiplying.Mod refl)
  factors_end left k.And payload line not other = absurd (not multiplying.And refl)
  factors_end left k.Slash payload line not other = absurd (other refl)
  factors_end left kind payload line not other = refl

  -- a term behind a sign, if there is one
  next_sign : (op : Sign) (line : ℕ)
      → first_term_at factor most n a (sign_kind op) nothing line ≡ signed_by factor most n a op line
  next_sign sign.Plus line = refl
  next_sign sign.Minus line = refl

  pub sign_goes : (op : Sign) (ts : List Token) (line : ℕ) → sign_kind op ≡ (head ts).kind
      → Fits (head ts).kind (head ts).payload → line ≡ (head ts).line
      → run (look (first_term_at factor most n a)) ts ≡ run (signed_by factor most n a op line) ts
  sign_goes op ts line is fits same =
      told (first_term_at factor most n a) (sign_kind op) ts line (sign_plain op) is fits same
      ∙ ap (λ q. run q ts) (next_sign op line)

  pub no_sign : (kind : Kind) (payload : Payload) (line : ℕ) → ((op : Sign) → kind ≡ sign_kind op → ⊥)
      → first_term_at factor most n a kind payload line
      ≡ bind (term_by factor most n a) (λ first. done (tree.first_term first))
  no_sign k.Plus payload line not = absurd (not sign.Plus refl)
  no_sign k.Minus payload line not = absurd (not sign.Minus refl)
  no_sign kind payload line not = refl

  -- factors
  pub literal_goes : (ts : List Token) → k.Number ≡ (head ts).kind
      → run (look (factor_at factor most n a)) ts ≡ run (bind numeral (λ found. done (tree.literal found))) ts
  literal_goes ts is =
      sym (ap (λ kind. run (factor_at factor most n a kind (head ts).payload (head ts).line) ts) is)
      ∙ goes (head ts).payload (head ts).line
      ∙ ap (λ kind. run (bind (numeral_at kind (head ts).payload (head ts).line) (λ found. done (tree.literal found)))
      ts) is
    where
      goes : (payload : Payload) (line : ℕ) → run (factor_at factor most n a k.Number payload line) ts
          ≡ run (bind (numeral_at k.Number payload line) (λ found. done (tree.literal found))) ts
      goes (value number) line = elim ts as (λ ts. run (factor_at factor most n a k.Number (value number) line) ts
          ≡ run (bind (numeral_at k.Number (value number) line) (λ found. done (tree.literal found))) ts)
          [ [] ↦ refl | t ∷ ts ↦ refl ]
      goes payload line = refl

  pub text_goes : (ts : List Token) → k.Text ≡ (head ts).kind
      → run (look (factor_at factor most n a)) ts ≡ run (bind quoted (λ found. done (tree.literal_text found))) ts
  text_goes ts is =
      sym (ap (λ kind. run (factor_at factor most n a kind (head ts).payload (head ts).line) ts) is)
      ∙ goes (head ts).payload (head ts).line
      ∙ ap (λ kind. run (bind (quoted_at kind (head ts).payload (head ts).line) (λ found. done (tree.literal_text
      found))) ts) is
    where
      goes : (payload : Payload) (line : ℕ) → run (factor_at factor most n a k.Text payload line) ts
          ≡ run (bind (quoted_at k.Text payload line) (λ found. done (tree.literal_text found))) ts
      goes (spelling text) line = elim ts as (λ ts. run (factor_at factor most n a k.Text (spelling text) line) ts
          ≡ run (bind (quoted_at k.Text (spelling text) line) (λ found. done (tree.literal_text found))) ts)
          [ [] ↦ refl | t ∷ ts ↦ refl ]
      goes payload line = refl

  pub parenthesis_goes : (ts : List Token) (line : ℕ) → k.LeftParenthesis ≡ (head ts).kind
      → Fits (head ts).kind (head ts).payload → line ≡ (head ts).line
      → run (look (factor_at factor most n a)) ts ≡ run (parenthesized_by factor most n a line) ts
  parenthesis_goes ts line is fits same = told (factor_at factor most n a) k.LeftParenthesis ts line tt is fits same

  pub not_goes : (ts : List Token) (line : ℕ) → k.Not ≡ (head ts).kind
      → Fits (head ts).kind (head ts).payload → line ≡ (head ts).line
      → run (look (factor_at factor most n a)) ts ≡ run (negated_by factor most n a line) ts
  not_goes ts line is fits same = told (factor_at factor most n a) k.Not ts line tt is fits same

  pub bracket_goes : (ts : List Token) → k.LeftBracket ≡ (head ts).kind → Fits (head ts).kind (head ts).payload
      → run (look (factor_at factor most n a)) ts ≡ run {A = Factor} (fail (shown SETS)) ts
  bracket_goes ts is fits = told (factor_at factor most n a) k.LeftBracket ts (head ts).line tt is fits refl

  pub nil_goes : (ts : List Token) → k.Nil ≡ (head ts).kind → Fits (head ts).kind (head ts).payload
      → run (look (factor_at factor most n a)) ts ≡ run {A = Factor} (fail (shown POINTERS)) ts
  nil_goes ts is fits = told (factor_at factor most n a) k.Nil ts (head ts).line tt is fits refl

  named_at : (ts : List Token) (kind : Kind) (payload : Payload) (line : ℕ) → (k.Number ≡ kind → ⊥)
      → (k.Text ≡ kind → ⊥)
      → (k.LeftParenthesis ≡ kind → ⊥) → (k.Not ≡ kind → ⊥) → (k.LeftBracket ≡ kind → ⊥) → (k.Nil ≡ kind → ⊥)
      → run (factor_at factor most n a kind payload line) ts
      ≡ run (bind (ident_at kind payload line) (λ name. look (behind_name factor most n a name))) ts
  named_at ts k.Number payload line e1 e2 e3 e4 e5 e6 = absurd (e1 refl)
  named_at ts k.Text payload line e1 e2 e3 e4 e5 e6 = absurd (e2 refl)
  named_at ts k.LeftParenthesis payload line e1 e2 e3 e4 e5 e6 = absurd (e3 refl)
  named_at ts k.Not payload line e1 e2 e3 e4 e5 e6 = absurd (e4 refl)
  named_at ts k.LeftBracket payload line e1 e2 e3 e4 e5 e6 = absurd (e5 refl)
  named_at ts k.Nil payload line e1 e2 e3 e4 e5 e6 = absurd (e6 refl)
  named_at ts k.Name (spelling name) line e1 e2 e3 e4 e5 e6 = refl
  named_at ts kind payload line e1 e2 e3 e4 e5 e6 = refl

  pub name_goes : (ts : List Token) → (k.Number ≡ (head ts).kind → ⊥) → (k.Text ≡ (head ts).kind → ⊥)
      → (k.LeftParenthesis ≡ (head ts).kind → ⊥) → (k.Not ≡ (head ts).kind → ⊥) → (k.LeftBracket ≡ (head ts).kind → ⊥)
      → (k.Nil ≡ (head ts).kind → ⊥)
      → run (look (factor_at factor most n a)) ts ≡ run (named_by factor most n a) ts
  name_goes ts e1 e2 e3 e4 e5 e6 = named_at ts (head ts).kind (head ts).payload (head ts).line e1 e2 e3 e4 e5 e6

  pub call_goes : (name : Ident) (ts : List Token) (line : ℕ) → k.LeftParenthesis ≡ (head ts).kind
      → Fits (head ts).kind (head ts).payload → line ≡ (head ts).line
      → run (look (behind_name factor most n a name)) ts ≡ run (call_by factor most n a name line) ts
  call_goes name ts line is fits same =
      told (behind_name factor most n a name) k.LeftParenthesis ts line tt is fits same

  pub no_call : (name : Ident) (kind : Kind) (payload : Payload) (line : ℕ) → (k.LeftParenthesis ≡ kind → ⊥)
      → behind_name factor most n a name kind payload line
      ≡ bind (variable_by factor most n a name) (λ v. done (tree.variable v))
  no_call name k.LeftParenthesis payload line not = absurd (not refl)
  no_call name kind payload line not = refl

  pub exprs_end : (found : Exprs) (kind : Kind) (payload : Payload) (line : ℕ) → (k.Comma ≡ kind → ⊥)
      → behind_expr factor most n a found kind payload line ≡ ends
  exprs_end found k.Comma payload line not = absurd (not refl)
  exprs_end found kind payload line not = refl

  pub variable_ends : (found : Variable) (kind : Kind) (payload : Payload) (line : ℕ) → (k.LeftBracket ≡ kind → ⊥)
      → (k.Dot ≡ kind → ⊥) → (k.Caret ≡ kind → ⊥)
      → behind_variable factor most n a found kind payload line ≡ ends
  variable_ends found k.LeftBracket payload line e1 e2 e3 = absurd (e1 refl)
  variable_ends found k.Dot payload line e1 e2 e3 = absurd (e2 refl)
  variable_ends found k.Caret payload line e1 e2 e3 = absurd (e3 refl)
  variable_ends found kind payload line e1 e2 e3 = refl

module _ (factor : ℕ → ℕ → Prog Factor) (most n a : ℕ) where
  -- an expression more
  pub comma_goes : (others : Exprs) (ts : List Token) (line : ℕ) → k.Comma ≡ (head ts).kind
      → Fits (head ts).kind (head ts).payload → line ≡ (head ts).line
      → run (a_turn (behind_expr factor most n a) others) ts
      ≡ run (skip (bind (expr_by factor most n a) (λ e. done (tree.more_exprs others line e)))) ts
  comma_goes others ts line is fits same =
      told (λ kind payload line. turn_of (behind_expr factor most n a others kind payload line)) k.Comma ts line tt is
      fits same

  -- what selects a part of a variable
  pub indexes_goes : (v : Variable) (ts : List Token) (line : ℕ) → k.LeftBracket ≡ (head ts).kind
      → Fits (head ts).kind (head ts).payload → line ≡ (head ts).line
      → run (a_turn (behind_variable factor most n a) v) ts
      ≡ run (unless (nat_lt NESTING_LIMIT (n + 1)) (skip (indexes_by factor most n a v line))) ts
  indexes_goes v ts line is fits same =
      told (λ kind payload line. turn_of (behind_variable factor most n a v kind payload line)) k.LeftBracket ts line
      tt is fits same
      ∙ ap (λ q. run q ts) (turn_of_unless (nat_lt NESTING_LIMIT (n + 1)) (indexes_by factor most n a v line))

  pub field_goes : (v : Variable) (ts : List Token) (line : ℕ) → k.Dot ≡ (head ts).kind
      → Fits (head ts).kind (head ts).payload → line ≡ (head ts).line
      → run (a_turn (behind_variable factor most n a) v) ts
      ≡ run (skip (bind ident (λ name. done (tree.field_of v line name)))) ts
  field_goes v ts line is fits same =
      told (λ kind payload line. turn_of (behind_variable factor most n a v kind payload line)) k.Dot ts line tt is
      fits same

  pub buffer_goes : (v : Variable) (ts : List Token) (line : ℕ) → k.Caret ≡ (head ts).kind
      → Fits (head ts).kind (head ts).payload → line ≡ (head ts).line
      → run (a_turn (behind_variable factor most n a) v) ts ≡ run (skip (done (tree.buffer_of v line))) ts
  buffer_goes v ts line is fits same =
      told (λ kind payload line. turn_of (behind_variable factor most n a v kind payload line)) k.Caret ts line tt is
      fits same

pub caret_of : (kind : Kind) → BeginsSelector kind → (k.LeftBracket ≡ kind → ⊥) → (k.Dot ≡ kind → ⊥) → k.Caret ≡ kind
caret_of k.LeftBracket b e1 e2 = absurd (e1 refl)
caret_of k.Dot b e1 e2 = absurd (e2 refl)
caret_of k.Caret b e1 e2 = refl
caret_of kind b e1 e2 = absurd b

-- a factor takes a turn of its own
pub factor_takes : {X : Type 0} {view : List ℕ → X → Factor} (n a : ℕ) {old new : Place} {result : Result X Stop}
    → ParsesIn (length old.tokens) (λ most. look (factor_at (factor most) most n a)) view old result new
    → Parses (λ most. factor most n a) view old result new
unfolding factor
factor_takes {view = view} n a {old = old} {new = new} {result = result} h = record {
  gives = λ most enough. takes most enough;
  shorter = h.shorter;
  taken = h.taken;
  spellings = h.spellings;
}
  where
    takes : (most : ℕ) → suc (length old.tokens) ≤ most
        → Gives (view old.spellings) result new.tokens (run (factor most n a) old.tokens)
    takes zero enough = absurd (omega (arith, enough))
    takes (suc most) enough = h.gives most (omega (arith, enough))

-- the names of readers
pub plain_expr : {X : Type 0} {view : List ℕ → X → Expr} (n a : ℕ) {least : ℕ} {old new : Place}
    {result : Result X Stop}
    → ParsesIn least (λ most. expr most n a) view old result new
    → ParsesIn least (λ most. expr_by (factor most) most n a) view old result new
unfolding expr
plain_expr n a h = h

pub plain_exprs : {X : Type 0} {view : List ℕ → X → Exprs} (n a : ℕ) {least : ℕ} {old new : Place}
    {result : Result X Stop}
    → ParsesIn least (λ most. exprs most n a) view old result new
    → ParsesIn least (λ most. exprs_by (factor most) most n a) view old result new
unfolding exprs
plain_exprs n a h = h

pub parenthesis_read : {least more : ℕ} {old new : Place} {result : Result ℕ Stop}
    → ParsesIn least (λ most. mark k.RightParenthesis) same old result new
    → ParsesIn more (λ most. look right_parenthesis_at) same old result new
parenthesis_read {old = old} h =
    goes_as (λ most. right_parenthesis_goes old.tokens) (any_turns (mark k.RightParenthesis) h)

pub bracket_read : {least more : ℕ} {old new : Place} {result : Result ℕ Stop}
    → ParsesIn least (λ most. mark k.RightBracket) same old result new
    → ParsesIn more (λ most. look right_bracket_at) same old result new
bracket_read {old = old} h = goes_as (λ most. right_bracket_goes old.tokens) (any_turns (mark k.RightBracket) h)
