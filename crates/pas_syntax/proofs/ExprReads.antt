-- Each reader of an expression reads what the grammar spells, and stops where a tree can still go on.
use Rattle.std.proofs.Common.{◌≡◌, refl, ap, ℕ, zero, suc, ◌+◌, ◌≤◌}
use Rattle.std.proofs.Common.{List, [], ◌∷◌, ◌++◌}
use Rattle.std.specs.Prelude.{nat_lt}
use Rattle.std.proofs.lemmas.List.{append-nil}
use Rattle.wb_base.specs.declared.faults.TheConstants.{REAL_NUMBERS, SETS, POINTERS}
use Rattle.pas_tokens.specs.declared.kinds.Kind.{Kind}
use Rattle.pas_tokens.specs.declared.kinds.Kind.TheVariants as k
use Rattle.pas_tokens.specs.Cutting.{Payload, nothing, value, spelling}
use Rattle.pas_syntax.specs.declared.limits.TheConstants.{NESTING_LIMIT}
use Rattle.pas_syntax.specs.declared.operators.Sign.{Sign}
use Rattle.pas_syntax.specs.declared.operators.Sign.TheVariants as sign
use Rattle.pas_syntax.specs.declared.operators.Multiplying.{Multiplying}
use Rattle.pas_syntax.specs.declared.operators.Multiplying.TheVariants as multiplying
use Rattle.pas_syntax.specs.declared.operators.Adding.{Adding}
use Rattle.pas_syntax.specs.declared.operators.Adding.TheVariants as adding
use Rattle.pas_syntax.specs.declared.operators.Relation.{Relation}
use Rattle.pas_syntax.specs.declared.operators.Relation.TheVariants as relates
use Rattle.pas_syntax.specs.Tree as tree
use Rattle.pas_syntax.specs.Tree.{Ident, Numeral, Quoted, Lined, Expr, Sum, Term, Factor, Variable, Exprs}
use Rattle.pas_syntax.specs.Words.{Word, at, operator, shows, name_at, number_at, text_at, multiplying_kind}
use Rattle.pas_syntax.specs.Words.{adding_kind}
use Rattle.pas_syntax.specs.Words.{relation_kind, sign_kind, sum_depth, term_depth, expr_words, sum_words}
use Rattle.pas_syntax.specs.Words.{term_words}
use Rattle.pas_syntax.specs.Words.{factor_words, variable_words, exprs_words}
use Rattle.pas_syntax.specs.inner.Prog.{Prog, done, look, skip, bind, head, shown, more}
use Rattle.pas_syntax.specs.inner.Prog.{no, turns}
use Rattle.pas_syntax.specs.inner.Readers.{ident_at, ident, right_parenthesis_at, right_bracket_at, factor_behind}
use Rattle.pas_syntax.specs.inner.Readers.{behind_factor, term_by, term_behind, behind_term, signed_by, first_term_at}
use Rattle.pas_syntax.specs.inner.Readers.{sum_by}
use Rattle.pas_syntax.specs.inner.Readers.{related_by, behind_sum, expr_by, behind_expr, exprs_by, indexes_by}
use Rattle.pas_syntax.specs.inner.Readers.{behind_variable, variable_by, call_by, behind_name, parenthesized_by}
use Rattle.pas_syntax.specs.inner.Readers.{negated_by}
use Rattle.pas_syntax.specs.inner.Readers.{factor_at, factor, expr, exprs, variable}
use Rattle.pas_syntax.proofs.Good.{a_token, ReadsAt, Reads, reads_look, reads_done, reads_wrong, reads_shown}
use Rattle.pas_syntax.proofs.Good.{reads_skip, reads_bind}
use Rattle.pas_syntax.proofs.TurnLemmas.{Any, Begins, reads_turns}
use Rattle.pas_syntax.proofs.WordLemmas.{sound_says, sound_operator, deep_form, deep_operator, reads_unless}
use Rattle.pas_syntax.proofs.WordLemmas.{begins_unless}
use Rattle.pas_syntax.proofs.WordLemmas.{fits_of}

-- what is spelled so inside n open forms and in the operands of `a` operators
abbrev pub IsFactor : ℕ → ℕ → Factor → List Word → Type 0
IsFactor n a f ws = ws ≡ factor_words n a f

abbrev pub IsTerm : ℕ → ℕ → Term → List Word → Type 0
IsTerm n a t ws = ws ≡ term_words n a t

abbrev pub IsSum : ℕ → ℕ → Sum → List Word → Type 0
IsSum n a s ws = ws ≡ sum_words n a s

abbrev pub IsExpr : ℕ → ℕ → Expr → List Word → Type 0
IsExpr n a e ws = ws ≡ expr_words n a e

abbrev pub IsExprs : ℕ → ℕ → Exprs → List Word → Type 0
IsExprs n a es ws = ws ≡ exprs_words n a es

abbrev pub IsVariable : ℕ → ℕ → Variable → List Word → Type 0
IsVariable n a v ws = ws ≡ variable_words n a v

abbrev pub IsIdent : ℕ → Ident → List Word → Type 0
IsIdent n name ws = ws ≡ name_at n name ∷ []

-- a token of this kind, and its line
abbrev pub IsTaken : ℕ → Kind → ℕ → List Word → Type 0
IsTaken n kind line ws = ws ≡ at n kind line ∷ []

-- a number and its word, to complete a tree with
abbrev zero_literal : Factor
zero_literal = tree.literal (record { value = 0; line = 0 })

abbrev zero_word : ℕ → Word
zero_word n = number_at n (record { value = 0; line = 0 })

abbrev zero_expr : Expr
zero_expr = tree.sum (tree.first_term (tree.first_factor zero_literal))

-- an operator, and its line
abbrev lined : {A : Type 0} → A → ℕ → Lined A
lined op line = record { item = op; line = line }

multiplying_goes_on : (op : Multiplying) → k.EndOfText ≡ multiplying_kind op → ⊥
multiplying_goes_on multiplying.Times e = cc
multiplying_goes_on multiplying.Div e = cc
multiplying_goes_on multiplying.Mod e = cc
multiplying_goes_on multiplying.And e = cc

adding_goes_on : (op : Adding) → k.EndOfText ≡ adding_kind op → ⊥
adding_goes_on adding.Plus e = cc
adding_goes_on adding.Minus e = cc
adding_goes_on adding.Or e = cc

relation_goes_on : (op : Relation) → k.EndOfText ≡ relation_kind op → ⊥
relation_goes_on relates.Equal e = cc
relation_goes_on relates.NotEqual e = cc
relation_goes_on relates.Less e = cc
relation_goes_on relates.LessOrEqual e = cc
relation_goes_on relates.Greater e = cc
relation_goes_on relates.GreaterOrEqual e = cc

sign_goes_on : (lead : Sign) → k.EndOfText ≡ sign_kind lead → ⊥
sign_goes_on sign.Plus e = cc
sign_goes_on sign.Minus e = cc

-- names and brackets
module _ (n : ℕ) (fits : n ≤ NESTING_LIMIT) where
  zero_ident : Ident
  zero_ident = record { name = []; line = 0 }

  reads_ident_at : (kind : Kind) (payload : Payload) (line : ℕ)
      → ReadsAt (a_token kind payload line) (IsIdent n) Any (ident_at kind payload line)
  reads_ident_at k.Name (spelling name) line =
      let found : Ident = record { name = name; line = line } in
      reads_skip (IsIdent n) Any (name_at n found) (done found) (λ e. cc) (sound_says n k.Name (spelling name) line
      fits)
      (λ ts. reads_done (λ x ws. IsIdent n x (name_at n found ∷ ws)) Any (head ts) found refl tt ts refl)
  reads_ident_at kind payload line =
      reads_wrong (IsIdent n) Any (a_token kind payload line) zero_ident (name_at n zero_ident) [] refl

  pub reads_ident : Reads (IsIdent n) Any ident
  reads_ident = reads_look (IsIdent n) Any ident_at reads_ident_at

  reads_right_parenthesis_at : (kind : Kind) (payload : Payload) (line : ℕ)
      → ReadsAt (a_token kind payload line) (IsTaken n k.RightParenthesis) Any (right_parenthesis_at kind payload line)
  reads_right_parenthesis_at k.RightParenthesis nothing line =
      reads_skip (IsTaken n k.RightParenthesis) Any (at n k.RightParenthesis line) (done line) (λ e. cc)
      (sound_says n k.RightParenthesis nothing line fits)
      (λ ts. reads_done (λ x ws. IsTaken n k.RightParenthesis x (at n k.RightParenthesis line ∷ ws)) Any (head ts) line
      refl tt ts refl)
  reads_right_parenthesis_at kind payload line =
      reads_wrong (IsTaken n k.RightParenthesis) Any (a_token kind payload line) 0 (at n k.RightParenthesis 0) [] refl

  pub reads_right_parenthesis : Reads (IsTaken n k.RightParenthesis) Any (look right_parenthesis_at)
  reads_right_parenthesis =
      reads_look (IsTaken n k.RightParenthesis) Any right_parenthesis_at reads_right_parenthesis_at

  reads_right_bracket_at : (kind : Kind) (payload : Payload) (line : ℕ)
      → ReadsAt (a_token kind payload line) (IsTaken n k.RightBracket) Any (right_bracket_at kind payload line)
  reads_right_bracket_at k.RightBracket nothing line =
      reads_skip (IsTaken n k.RightBracket) Any (at n k.RightBracket line) (done line) (λ e. cc)
      (sound_says n k.RightBracket nothing line fits)
      (λ ts. reads_done (λ x ws. IsTaken n k.RightBracket x (at n k.RightBracket line ∷ ws)) Any (head ts) line
      refl tt ts refl)
  reads_right_bracket_at kind payload line =
      reads_wrong (IsTaken n k.RightBracket) Any (a_token kind payload line) 0 (at n k.RightBracket 0) [] refl

  pub reads_right_bracket : Reads (IsTaken n k.RightBracket) Any (look right_bracket_at)
  reads_right_bracket = reads_look (IsTaken n k.RightBracket) Any right_bracket_at reads_right_bracket_at

-- a token at the end of a form
pub reads_closing : {B : Type 0} (P : B → List Word → Type 0) (n : ℕ) (kind : Kind)
    (taking : Kind → Payload → ℕ → Prog ℕ) (make : ℕ → B) → Reads (IsTaken n kind) Any (look taking)
    → ((closed : ℕ) → P (make closed) (at n kind closed ∷ []))
    → Reads P Any (bind (look taking) (λ closed. done (make closed)))
reads_closing P n kind taking make h spelled =
    reads_bind (IsTaken n kind) Any P Any (λ closed. done (make closed)) (look taking) h
    (λ closed vs t also _. reads_done (λ b ws. P b (vs ++ ws)) Any t (make closed)
    (rw (append-nil vs, also) (spelled closed)) tt)
    (λ closed vs also. (make closed, [], rw (append-nil vs, also) (spelled closed)))

module _ (factor : ℕ → ℕ → Prog Factor) (most : ℕ)
    (h : (n a : ℕ) → n ≤ NESTING_LIMIT → Reads (IsFactor n a) Any (factor n a)) where
  -- a term
  module _ (n a : ℕ) (fits : n ≤ NESTING_LIMIT) where
    abbrev factor_operator : Term → Multiplying → ℕ → Word
    factor_operator left op line = operator n (a + 1 + term_depth left) (multiplying_kind op) line

    one_factor_more : (left : Term) (us : List Word) (op : Multiplying) (line : ℕ) (f : Factor) (vs : List Word)
        → IsTerm n a left us → IsFactor n (a + 1) f vs
        → IsTerm n a (tree.more_factors left (lined op line) f) (us ++ factor_operator left op line ∷ vs)
    one_factor_more left us op line f vs is also = rw (is, also) refl

    factor_turn : (left : Term) (us : List Word) (op : Multiplying) (line : ℕ) → IsTerm n a left us
        → Begins (IsTerm n a) us (a_token (multiplying_kind op) nothing line) (factor_behind factor most n a left op
        line)
    factor_turn left us op line is =
        let w = factor_operator left op line in
        begins_unless (IsTerm n a) us w.token (nat_lt NESTING_LIMIT (a + 1 + term_depth left))
        (bind (factor n (a + 1)) (λ f. done (tree.more_factors left (lined op line) f)))
        (λ deep. record {
          tree = tree.more_factors left (lined op line) zero_literal;
          word = w;
          behind = zero_word n ∷ [];
          spelled = one_factor_more left us op line zero_literal (zero_word n ∷ []) is refl;
          same = refl;
          shows = deep_operator n (a + 1 + term_depth left) (multiplying_kind op) line fits deep;
        })
        (λ few. (
          w,
          refl,
          multiplying_goes_on op,
          sound_operator n (a + 1 + term_depth left) (multiplying_kind op) line fits few,
          reads_bind (IsFactor n (a + 1)) Any (λ t vs. IsTerm n a t (us ++ w ∷ vs)) Any
              (λ f. done (tree.more_factors left (lined op line) f)) (factor n (a + 1)) (h n (a + 1) fits)
              (λ f vs t also _. reads_done (λ t ws. IsTerm n a t (us ++ w ∷ (vs ++ ws))) Any t
              (tree.more_factors left (lined op line) f)
              (rw (append-nil vs) (one_factor_more left us op line f vs is also)) tt)
              (λ f vs also. (
                tree.more_factors left (lined op line) f,
                [],
                rw (append-nil vs) (one_factor_more left us op line f vs is also),
              )),
          (
            tree.more_factors left (lined op line) zero_literal,
            zero_word n ∷ [],
            one_factor_more left us op line zero_literal (zero_word n ∷ []) is refl,
          ),
        ))

    slash_turn : (left : Term) (us : List Word) (line : ℕ) → IsTerm n a left us
        → Begins (IsTerm n a) us (a_token k.Slash nothing line) (no (shown REAL_NUMBERS))
    slash_turn left us line is = (
      tree.quotient left line,
      shows n k.Slash line REAL_NUMBERS,
      [],
      ap (λ ws. ws
          ++ shows n k.Slash line REAL_NUMBERS ∷ []) is,
      refl,
      refl,
    )

    begins_term : (left : Term) (us : List Word) → IsTerm n a left us → (kind : Kind) (payload : Payload) (line : ℕ)
        → Begins (IsTerm n a) us (a_token kind payload line) (behind_factor factor most n a left kind payload line)
    begins_term left us is k.Star nothing line = factor_turn left us multiplying.Times line is
    begins_term left us is k.Div nothing line = factor_turn left us multiplying.Div line is
    begins_term left us is k.Mod nothing line = factor_turn left us multiplying.Mod line is
    begins_term left us is k.And nothing line = factor_turn left us multiplying.And line is
    begins_term left us is k.Slash nothing line = slash_turn left us line is
    begins_term left us is kind payload line = tt

    pub reads_term : Reads (IsTerm n a) Any (term_by factor most n a)
    reads_term =
        reads_bind (IsFactor n a) Any (IsTerm n a) Any
        (λ first. turns (behind_factor factor most n a) most (tree.first_factor first)) (factor n a) (h n a fits)
        (λ f us t is _ ts _. reads_turns (IsTerm n a) (behind_factor factor most n a) begins_term most
        (tree.first_factor f) us is ts)
        (λ f us is. (tree.first_factor f, [], rw (append-nil us) is))

  -- a sum
  module _ (n a : ℕ) (fits : n ≤ NESTING_LIMIT) where
    abbrev term_operator : Sum → Adding → ℕ → Word
    term_operator left op line = operator n (a + 1 + sum_depth left) (adding_kind op) line

    one_term_more : (left : Sum) (us : List Word) (op : Adding) (line : ℕ) (t : Term) (vs : List Word)
        → IsSum n a left us → IsTerm n (a + 1) t vs
        → IsSum n a (tree.more_terms left (lined op line) t) (us ++ term_operator left op line ∷ vs)
    one_term_more left us op line t vs is also = rw (is, also) refl

    term_turn : (left : Sum) (us : List Word) (op : Adding) (line : ℕ) → IsSum n a left us
        → Begins (IsSum n a) us (a_token (adding_kind op) nothing line) (term_behind factor most n a left op line)
    term_turn left us op line is =
        let w = term_operator left op line in
        let zero_term = tree.first_factor zero_literal in
        begins_unless (IsSum n a) us w.token (nat_lt NESTING_LIMIT (a + 1 + sum_depth left))
        (bind (term_by factor most n (a + 1)) (λ t. done (tree.more_terms left (lined op line) t)))
        (λ deep. record {
          tree = tree.more_terms left (lined op line) zero_term;
          word = w;
          behind = zero_word n ∷ [];
          spelled = one_term_more left us op line zero_term (zero_word n ∷ []) is refl;
          same = refl;
          shows = deep_operator n (a + 1 + sum_depth left) (adding_kind op) line fits deep;
        })
        (λ few. (
          w,
          refl,
          adding_goes_on op,
          sound_operator n (a + 1 + sum_depth left) (adding_kind op) line fits few,
          reads_bind (IsTerm n (a + 1)) Any (λ s vs. IsSum n a s (us ++ w ∷ vs)) Any
              (λ t. done (tree.more_terms left (lined op line) t)) (term_by factor most n (a + 1)) (reads_term n (a +
              1) fits)
              (λ t vs u also _. reads_done (λ s ws. IsSum n a s (us ++ w ∷ (vs ++ ws))) Any u
              (tree.more_terms left (lined op line) t)
              (rw (append-nil vs) (one_term_more left us op line t vs is also)) tt)
              (λ t vs also. (
                tree.more_terms left (lined op line) t,
                [],
                rw (append-nil vs) (one_term_more left us op line t vs is also),
              )),
          (
            tree.more_terms left (lined op line) zero_term,
            zero_word n ∷ [],
            one_term_more left us op line zero_term (zero_word n ∷ []) is refl,
          ),
        ))

    in_turn : (left : Sum) (us : List Word) (line : ℕ) → IsSum n a left us
        → Begins (IsSum n a) us (a_token k.In nothing line) (no (shown SETS))
    in_turn left us line is = (
      tree.membership left line,
      shows n k.In line SETS,
      [],
      ap (λ ws. ws ++ shows n k.In line SETS
          ∷ []) is,
      refl,
      refl,
    )

    begins_sum : (left : Sum) (us : List Word) → IsSum n a left us → (kind : Kind) (payload : Payload) (line : ℕ)
        → Begins (IsSum n a) us (a_token kind payload line) (behind_term factor most n a left kind payload line)
    begins_sum left us is k.Plus nothing line = term_turn left us adding.Plus line is
    begins_sum left us is k.Minus nothing line = term_turn left us adding.Minus line is
    begins_sum left us is k.Or nothing line = term_turn left us adding.Or line is
    begins_sum left us is k.In nothing line = in_turn left us line is
    begins_sum left us is kind payload line = tt

    reads_signed : (lead : Sign) (line : ℕ)
        → ReadsAt (a_token (sign_kind lead) nothing line) (IsSum n a) Any (signed_by factor most n a lead line)
    reads_signed lead line =
        let w = operator n (a + 1) (sign_kind lead) line in
        let further = λ (t : Term). done (tree.signed_term (lined lead line) t) in
        reads_unless (IsSum n a) w.token (nat_lt NESTING_LIMIT (a + 1))
        (skip (bind (term_by factor most n (a + 1)) further))
        (λ deep. record {
          tree = tree.signed_term (lined lead line) (tree.first_factor zero_literal);
          word = w;
          behind = zero_word n ∷ [];
          spelled = refl;
          same = refl;
          shows = deep_operator n (a + 1) (sign_kind lead) line fits deep;
        })
        (λ few. reads_skip (IsSum n a) Any w (bind (term_by factor most n (a + 1)) further) (sign_goes_on lead)
        (sound_operator n (a + 1) (sign_kind lead) line fits few)
        (reads_bind (IsTerm n (a + 1)) Any (λ s vs. IsSum n a s (w ∷ vs)) Any further (term_by factor most n (a + 1))
        (reads_term n (a + 1) fits)
        (λ t us u is _. reads_done (λ s ws. IsSum n a s (w ∷ (us ++ ws))) Any u (tree.signed_term (lined lead line) t)
        (rw (append-nil us, is) refl) tt)
        (λ t us is. (tree.signed_term (lined lead line) t, [], rw (append-nil us, is) refl))))

    reads_unsigned : Reads (IsSum n a) Any (bind (term_by factor most n a) (λ t. done (tree.first_term t)))
    reads_unsigned =
        reads_bind (IsTerm n a) Any (IsSum n a) Any (λ t. done (tree.first_term t)) (term_by factor most n a)
        (reads_term n a fits)
        (λ t us u is _. reads_done (λ s ws. IsSum n a s (us ++ ws)) Any u (tree.first_term t) (rw (append-nil us) is)
        tt)
        (λ t us is. (tree.first_term t, [], rw (append-nil us) is))

    reads_first_term_at : (kind : Kind) (payload : Payload) (line : ℕ)
        → ReadsAt (a_token kind payload line) (IsSum n a) Any (first_term_at factor most n a kind payload line)
    reads_first_term_at k.Plus nothing line = reads_signed sign.Plus line
    reads_first_term_at k.Minus nothing line = reads_signed sign.Minus line
    reads_first_term_at kind payload line = λ ts is. reads_unsigned ts

    pub reads_sum : Reads (IsSum n a) Any (sum_by factor most n a)
    reads_sum =
        reads_bind (IsSum n a) Any (IsSum n a) Any (λ first. turns (behind_term factor most n a) most first)
        (look (first_term_at factor most n a))
        (reads_look (IsSum n a) Any (first_term_at factor most n a) reads_first_term_at)
        (λ s us t is _ ts _. reads_turns (IsSum n a) (behind_term factor most n a) begins_sum most s us is ts)
        (λ s us is. (s, [], rw (append-nil us) is))

  -- an expression
  module _ (n a : ℕ) (fits : n ≤ NESTING_LIMIT) where
    reads_related : (left : Sum) (us : List Word) (op : Relation) (line : ℕ) → IsSum n a left us
        → ReadsAt (a_token (relation_kind op) nothing line) (λ x vs. IsExpr n a x (us ++ vs)) Any
        (related_by factor most n a left op line)
    reads_related left us op line is =
        let w = operator n (a + 1 + sum_depth left) (relation_kind op) line in
        let make = λ (right : Sum). tree.relation left (lined op line) right in
        let further = λ (right : Sum). done (make right) in
        reads_unless (λ x vs. IsExpr n a x (us ++ vs)) w.token (nat_lt NESTING_LIMIT (a + 1 + sum_depth left))
        (skip (bind (sum_by factor most n (a + 1)) further))
        (λ deep. record {
          tree = make (tree.first_term (tree.first_factor zero_literal));
          word = w;
          behind = zero_word n ∷ [];
          spelled = rw is refl;
          same = refl;
          shows = deep_operator n (a + 1 + sum_depth left) (relation_kind op) line fits deep;
        })
        (λ few. reads_skip (λ x vs. IsExpr n a x (us ++ vs)) Any w (bind (sum_by factor most n (a + 1)) further)
        (relation_goes_on op) (sound_operator n (a + 1 + sum_depth left) (relation_kind op) line fits few)
        (reads_bind (IsSum n (a + 1)) Any (λ x vs. IsExpr n a x (us ++ w ∷ vs)) Any further
        (sum_by factor most n (a + 1)) (reads_sum n (a + 1) fits)
        (λ right vs t also _. reads_done (λ x ws. IsExpr n a x (us ++ w ∷ (vs ++ ws))) Any t (make right)
        (rw (append-nil vs, is, also) refl) tt)
        (λ right vs also. (make right, [], rw (append-nil vs, is, also) refl))))

    reads_behind_sum : (left : Sum) (us : List Word) → IsSum n a left us → (kind : Kind) (payload : Payload) (line : ℕ)
        → ReadsAt (a_token kind payload line) (λ x vs. IsExpr n a x (us ++ vs)) Any
        (behind_sum factor most n a left kind payload line)
    reads_behind_sum left us is k.Equal nothing line = reads_related left us relates.Equal line is
    reads_behind_sum left us is k.NotEqual nothing line = reads_related left us relates.NotEqual line is
    reads_behind_sum left us is k.Less nothing line = reads_related left us relates.Less line is
    reads_behind_sum left us is k.LessOrEqual nothing line = reads_related left us relates.LessOrEqual line is
    reads_behind_sum left us is k.Greater nothing line = reads_related left us relates.Greater line is
    reads_behind_sum left us is k.GreaterOrEqual nothing line = reads_related left us relates.GreaterOrEqual line is
    reads_behind_sum left us is kind payload line =
        reads_done (λ x vs. IsExpr n a x (us ++ vs)) Any (a_token kind payload line) (tree.sum left)
        (rw (append-nil us) is) tt

    pub reads_expr : Reads (IsExpr n a) Any (expr_by factor most n a)
    reads_expr =
        reads_bind (IsSum n a) Any (IsExpr n a) Any (λ left. look (behind_sum factor most n a left))
        (sum_by factor most n a) (reads_sum n a fits)
        (λ left us t is _ ts _. reads_look (λ x vs. IsExpr n a x (us ++ vs)) Any (behind_sum factor most n a left)
        (reads_behind_sum left us is) ts)
        (λ left us is. (tree.sum left, [], rw (append-nil us) is))

    -- a list of expressions
    one_expr_more : (others : Exprs) (us : List Word) (line : ℕ) (e : Expr) (vs : List Word)
        → IsExprs n a others us → IsExpr n a e vs → IsExprs n a (tree.more_exprs others line e) (us
        ++ at n k.Comma line ∷ vs)
    one_expr_more others us line e vs is also = rw (is, also) refl

    begins_exprs : (others : Exprs) (us : List Word) → IsExprs n a others us
        → (kind : Kind) (payload : Payload) (line : ℕ)
        → Begins (IsExprs n a) us (a_token kind payload line) (behind_expr factor most n a others kind payload line)
    begins_exprs others us is k.Comma nothing line = (
      at n k.Comma line,
      refl,
      λ e. cc,
      sound_says n k.Comma nothing line fits,
      reads_bind (IsExpr n a) Any (λ x vs. IsExprs n a x (us ++ at n k.Comma line ∷ vs)) Any
          (λ e. done (tree.more_exprs others line e)) (expr_by factor most n a) reads_expr
          (λ e vs t also _. reads_done (λ x ws. IsExprs n a x (us ++ at n k.Comma line ∷ (vs ++ ws))) Any t
          (tree.more_exprs others line e) (rw (append-nil vs) (one_expr_more others us line e vs is also)) tt)
          (λ e vs also. (
            tree.more_exprs others line e,
            [],
            rw (append-nil vs) (one_expr_more others us line e vs is also),
          )),
      (
        tree.more_exprs others line zero_expr,
        zero_word n ∷ [],
        one_expr_more others us line zero_expr (zero_word n ∷ []) is refl,
      ),
    )
    begins_exprs others us is kind payload line = tt

    pub reads_exprs : Reads (IsExprs n a) Any (exprs_by factor most n a)
    reads_exprs =
        reads_bind (IsExpr n a) Any (IsExprs n a) Any
        (λ first. turns (behind_expr factor most n a) most (tree.first_expr first)) (expr_by factor most n a) reads_expr
        (λ e us t is _ ts _. reads_turns (IsExprs n a) (behind_expr factor most n a) begins_exprs most
        (tree.first_expr e) us is ts)
        (λ e us is. (tree.first_expr e, [], rw (append-nil us) is))

  -- a variable
  module _ (n a : ℕ) (fits : n ≤ NESTING_LIMIT) where
    indexes_turn : (v : Variable) (us : List Word) (line : ℕ) → IsVariable n a v us
        → Begins (IsVariable n a) us (a_token k.LeftBracket nothing line)
        (behind_variable factor most n a v k.LeftBracket nothing line)
    indexes_turn v us line is =
        let w = at (n + 1) k.LeftBracket line in
        let further = λ (es : Exprs). bind (look right_bracket_at) (λ closed. done (tree.indexed v line es closed)) in
        let some = tree.first_expr zero_expr in
        let behind = zero_word (n + 1) ∷ at (n + 1) k.RightBracket 0 ∷ [] in
        begins_unless (IsVariable n a) us w.token (nat_lt NESTING_LIMIT (n + 1)) (indexes_by factor most n a v line)
        (λ deep. record {
          tree = tree.indexed v line some 0;
          word = w;
          behind = behind;
          spelled = rw is refl;
          same = refl;
          shows = deep_form (n + 1) k.LeftBracket line deep;
        })
        (λ few. (
          w,
          refl,
          (λ e. cc),
          sound_says (n + 1) k.LeftBracket nothing line (fits_of (n + 1) few),
          reads_bind (IsExprs (n + 1) a) Any (λ x vs. IsVariable n a x (us ++ w ∷ vs)) Any further
              (exprs_by factor most (n + 1) a) (reads_exprs (n + 1) a (fits_of (n + 1) few))
              (λ es vs t also _ ts _. reads_closing (λ x ws. IsVariable n a x (us ++ w ∷ (vs ++ ws))) (n + 1)
              k.RightBracket right_bracket_at (λ closed. tree.indexed v line es closed)
              (reads_right_bracket (n + 1) (fits_of (n + 1) few)) (λ closed. rw (is, also) refl) ts)
              (λ es vs also. (tree.indexed v line es 0, at (n + 1) k.RightBracket 0 ∷ [], rw (is, also) refl)),
          (tree.indexed v line some 0, behind, rw is refl),
        ))

    field_turn : (v : Variable) (us : List Word) (line : ℕ) → IsVariable n a v us
        → Begins (IsVariable n a) us (a_token k.Dot nothing line)
        (more (bind ident (λ name. done (tree.field_of v line name))))
    field_turn v us line is =
        let w = at n k.Dot line in (
          w,
          refl,
          (λ e. cc),
          sound_says n k.Dot nothing line fits,
          reads_bind (IsIdent n) Any (λ x vs. IsVariable n a x (us ++ w
              ∷ vs)) Any (λ name. done (tree.field_of v line name))
              ident (reads_ident n fits)
              (λ name vs t also _. reads_done (λ x ws. IsVariable n a x (us ++ w ∷ (vs ++ ws))) Any t
              (tree.field_of v line name) (rw (append-nil vs, is, also) refl) tt)
              (λ name vs also. (tree.field_of v line name, [], rw (append-nil vs, is, also) refl)),
          (tree.field_of v line (zero_ident n fits), name_at n (zero_ident n fits) ∷ [], rw is refl),
        )

    buffer_turn : (v : Variable) (us : List Word) (line : ℕ) → IsVariable n a v us
        → Begins (IsVariable n a) us (a_token k.Caret nothing line) (more (done (tree.buffer_of v line)))
    buffer_turn v us line is =
        let w = at n k.Caret line in (
          w,
          refl,
          (λ e. cc),
          sound_says n k.Caret nothing line fits,
          (λ ts. reads_done (λ x vs. IsVariable n a x (us ++ w ∷ vs)) Any (head ts) (tree.buffer_of v line)
              (rw is refl) tt ts refl),
          (tree.buffer_of v line, [], rw is refl),
        )

    begins_variable : (v : Variable) (us : List Word) → IsVariable n a v us
        → (kind : Kind) (payload : Payload) (line : ℕ)
        → Begins (IsVariable n a) us (a_token kind payload line) (behind_variable factor most n a v kind payload line)
    begins_variable v us is k.LeftBracket nothing line = indexes_turn v us line is
    begins_variable v us is k.Dot nothing line = field_turn v us line is
    begins_variable v us is k.Caret nothing line = buffer_turn v us line is
    begins_variable v us is kind payload line = tt

    pub reads_variable : (name : Ident)
        → Reads (λ v ws. IsVariable n a v (name_at n name ∷ ws)) Any (variable_by factor most n a name)
    reads_variable name =
        reads_turns (IsVariable n a) (behind_variable factor most n a) begins_variable most (tree.whole name)
        (name_at n name ∷ []) refl

  -- a factor
  module _ (n a : ℕ) (fits : n ≤ NESTING_LIMIT) where
    reads_parenthesized : (line : ℕ)
        → ReadsAt (a_token k.LeftParenthesis nothing line) (IsFactor n a) Any (parenthesized_by factor most n a line)
    reads_parenthesized line =
        let w = at (n + 1) k.LeftParenthesis line in
        let further = λ (e : Expr). bind (look right_parenthesis_at) (λ closed. done (tree.parenthesized line e
        closed)) in
        reads_unless (IsFactor n a) w.token (nat_lt NESTING_LIMIT (n + 1))
        (skip (bind (expr_by factor most (n + 1) a) further))
        (λ deep. record {
          tree = tree.parenthesized line zero_expr 0;
          word = w;
          behind = zero_word (n + 1) ∷ at (n + 1) k.RightParenthesis 0 ∷ [];
          spelled = refl;
          same = refl;
          shows = deep_form (n + 1) k.LeftParenthesis line deep;
        })
        (λ few. reads_skip (IsFactor n a) Any w (bind (expr_by factor most (n + 1) a) further) (λ e. cc)
        (sound_says (n + 1) k.LeftParenthesis nothing line (fits_of (n + 1) few))
        (reads_bind (IsExpr (n + 1) a) Any (λ f vs. IsFactor n a f (w ∷ vs)) Any further
        (expr_by factor most (n + 1) a) (reads_expr (n + 1) a (fits_of (n + 1) few))
        (λ e us t is _ ts _. reads_closing (λ f ws. IsFactor n a f (w ∷ (us ++ ws))) (n + 1) k.RightParenthesis
        right_parenthesis_at (λ closed. tree.parenthesized line e closed)
        (reads_right_parenthesis (n + 1) (fits_of (n + 1) few)) (λ closed. rw is refl) ts)
        (λ e us is. (tree.parenthesized line e 0, at (n + 1) k.RightParenthesis 0 ∷ [], rw is refl))))

    reads_negated : (line : ℕ) → ReadsAt (a_token k.Not nothing line) (IsFactor n a) Any (negated_by factor most n a
        line)
    reads_negated line =
        let w = operator n (a + 1) k.Not line in
        let further = λ (f : Factor). done (tree.negated line f) in
        reads_unless (IsFactor n a) w.token (nat_lt NESTING_LIMIT (a + 1)) (skip (bind (factor n (a + 1)) further))
        (λ deep. record {
          tree = tree.negated line zero_literal;
          word = w;
          behind = zero_word n ∷ [];
          spelled = refl;
          same = refl;
          shows = deep_operator n (a + 1) k.Not line fits deep;
        })
        (λ few. reads_skip (IsFactor n a) Any w (bind (factor n (a + 1)) further) (λ e. cc)
        (sound_operator n (a + 1) k.Not line fits few)
        (reads_bind (IsFactor n (a + 1)) Any (λ f vs. IsFactor n a f (w ∷ vs)) Any further (factor n (a + 1))
        (h n (a + 1) fits)
        (λ f us t is _. reads_done (λ x ws. IsFactor n a x (w ∷ (us ++ ws))) Any t (tree.negated line f)
        (rw (append-nil us, is) refl) tt)
        (λ f us is. (tree.negated line f, [], rw (append-nil us, is) refl))))

    reads_call : (name : Ident) (line : ℕ)
        → ReadsAt (a_token k.LeftParenthesis nothing line) (λ f ws. IsFactor n a f (name_at n name ∷ ws)) Any
        (call_by factor most n a name line)
    reads_call name line =
        let w = at (n + 1) k.LeftParenthesis line in
        let u = name_at n name in
        let further = λ (es : Exprs). bind (look right_parenthesis_at)
        (λ closed. done (tree.function_call name line es closed)) in
        reads_unless (λ f ws. IsFactor n a f (u ∷ ws)) w.token (nat_lt NESTING_LIMIT (n + 1))
        (skip (bind (exprs_by factor most (n + 1) a) further))
        (λ deep. record {
          tree = tree.function_call name line (tree.first_expr zero_expr) 0;
          word = w;
          behind = zero_word (n + 1) ∷ at (n + 1) k.RightParenthesis 0 ∷ [];
          spelled = refl;
          same = refl;
          shows = deep_form (n + 1) k.LeftParenthesis line deep;
        })
        (λ few. reads_skip (λ f ws. IsFactor n a f (u ∷ ws)) Any w (bind (exprs_by factor most (n + 1) a) further)
        (λ e. cc) (sound_says (n + 1) k.LeftParenthesis nothing line (fits_of (n + 1) few))
        (reads_bind (IsExprs (n + 1) a) Any (λ f vs. IsFactor n a f (u ∷ w ∷ vs)) Any further
        (exprs_by factor most (n + 1) a) (reads_exprs (n + 1) a (fits_of (n + 1) few))
        (λ es us t is _ ts _. reads_closing (λ f ws. IsFactor n a f (u ∷ w ∷ (us ++ ws))) (n + 1) k.RightParenthesis
        right_parenthesis_at (λ closed. tree.function_call name line es closed)
        (reads_right_parenthesis (n + 1) (fits_of (n + 1) few)) (λ closed. rw is refl) ts)
        (λ es us is. (tree.function_call name line es 0, at (n + 1) k.RightParenthesis 0 ∷ [], rw is refl))))

    reads_selected : (name : Ident)
        → Reads (λ f ws. IsFactor n a f (name_at n name ∷ ws)) Any
        (bind (variable_by factor most n a name) (λ v. done (tree.variable v)))
    reads_selected name =
        let u = name_at n name in
        reads_bind (λ v ws. IsVariable n a v (u ∷ ws)) Any (λ f ws. IsFactor n a f (u ∷ ws)) Any
        (λ v. done (tree.variable v)) (variable_by factor most n a name) (reads_variable n a fits name)
        (λ v us t is _. reads_done (λ f ws. IsFactor n a f (u ∷ (us ++ ws))) Any t (tree.variable v)
        (rw (append-nil us) is) tt)
        (λ v us is. (tree.variable v, [], rw (append-nil us) is))

    reads_behind_name : (name : Ident) (kind : Kind) (payload : Payload) (line : ℕ)
        → ReadsAt (a_token kind payload line) (λ f ws. IsFactor n a f (name_at n name ∷ ws)) Any
        (behind_name factor most n a name kind payload line)
    reads_behind_name name k.LeftParenthesis nothing line = reads_call name line
    reads_behind_name name kind payload line = λ ts is. reads_selected name ts

    pub reads_factor_at : (kind : Kind) (payload : Payload) (line : ℕ)
        → ReadsAt (a_token kind payload line) (IsFactor n a) Any (factor_at factor most n a kind payload line)
    reads_factor_at k.Number (value number) line =
        let found : Numeral = record { value = number; line = line } in
        reads_skip (IsFactor n a) Any (number_at n found) (done (tree.literal found)) (λ e. cc)
        (sound_says n k.Number (value number) line fits)
        (λ ts. reads_done (λ f ws. IsFactor n a f (number_at n found ∷ ws)) Any (head ts) (tree.literal found) refl tt
        ts refl)
    reads_factor_at k.Text (spelling text) line =
        let found : Quoted = record { text = text; line = line } in
        reads_skip (IsFactor n a) Any (text_at n found) (done (tree.literal_text found)) (λ e. cc)
        (sound_says n k.Text (spelling text) line fits)
        (λ ts. reads_done (λ f ws. IsFactor n a f (text_at n found
        ∷ ws)) Any (head ts) (tree.literal_text found) refl tt
        ts refl)
    reads_factor_at k.LeftParenthesis nothing line = reads_parenthesized line
    reads_factor_at k.Not nothing line = reads_negated line
    reads_factor_at k.Name (spelling name) line =
        let found : Ident = record { name = name; line = line } in
        reads_skip (IsFactor n a) Any (name_at n found) (look (behind_name factor most n a found)) (λ e. cc)
        (sound_says n k.Name (spelling name) line fits)
        (reads_look (λ f ws. IsFactor n a f (name_at n found ∷ ws)) Any (behind_name factor most n a found)
        (reads_behind_name found))
    reads_factor_at k.LeftBracket nothing line =
        reads_shown (IsFactor n a) Any (a_token k.LeftBracket nothing line) SETS (tree.set_value line)
        (shows n k.LeftBracket line SETS) [] refl refl refl
    reads_factor_at k.Nil nothing line =
        reads_shown (IsFactor n a) Any (a_token k.Nil nothing line) POINTERS (tree.nil line)
        (shows n k.Nil line POINTERS) [] refl refl refl
    reads_factor_at kind payload line =
        reads_wrong (IsFactor n a) Any (a_token kind payload line) zero_literal (zero_word n) [] refl

-- the readers as they are
pub reads_factor : (most n a : ℕ) → n ≤ NESTING_LIMIT → Reads (IsFactor n a) Any (factor most n a)
unfolding factor
reads_factor zero n a fits = λ ts. tt
reads_factor (suc most) n a fits =
    reads_look (IsFactor n a) Any (factor_at (factor most) most n a)
    (reads_factor_at (factor most) most (reads_factor most) n a fits)

pub reads_an_expr : (most n a : ℕ) → n ≤ NESTING_LIMIT → Reads (IsExpr n a) Any (expr most n a)
unfolding expr
reads_an_expr most n a fits = reads_expr (factor most) most (reads_factor most) n a fits

pub reads_some_exprs : (most n a : ℕ) → n ≤ NESTING_LIMIT → Reads (IsExprs n a) Any (exprs most n a)
unfolding exprs
reads_some_exprs most n a fits = reads_exprs (factor most) most (reads_factor most) n a fits

pub reads_a_variable : (most n a : ℕ) (name : Ident) → n ≤ NESTING_LIMIT
    → Reads (λ v ws. IsVariable n a v (name_at n name ∷ ws)) Any (variable most n a name)
unfolding variable
reads_a_variable most n a name fits = reads_variable (factor most) most (reads_factor most) n a fits name
