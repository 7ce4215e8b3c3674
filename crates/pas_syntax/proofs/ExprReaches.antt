-- Each reader of an expression takes the words of each tree, to the first with a fault.
use Rattle.std.proofs.Common.{◌≡◌, refl, sym, ap, subst, ℕ, suc, ◌+◌, ◌-◌, ◌≤◌, ◌<◌, arith}
use Rattle.std.proofs.Common.{List, [], ◌∷◌, ◌++◌, length, append_assoc, Ok}
use Rattle.std.specs.Prelude.{nat_lt}
use Rattle.std.proofs.lemmas.List.{append-nil, length-append}
use Rattle.wb_base.specs.declared.faults.TheConstants.{REAL_NUMBERS, SETS, POINTERS}
use Rattle.pas_tokens.specs.declared.kinds.Kind.{Kind}
use Rattle.pas_tokens.specs.declared.kinds.Kind.TheVariants as k
use Rattle.pas_tokens.specs.Cutting.{Payload, nothing}
use Rattle.pas_tokens.specs.Tokens.{Token}
use Rattle.pas_syntax.specs.declared.limits.TheConstants.{NESTING_LIMIT}
use Rattle.pas_syntax.specs.declared.operators.Multiplying.{Multiplying}
use Rattle.pas_syntax.specs.declared.operators.Multiplying.TheVariants as multiplying
use Rattle.pas_syntax.specs.declared.operators.Sign.{Sign}
use Rattle.pas_syntax.specs.declared.operators.Sign.TheVariants as sign
use Rattle.pas_syntax.specs.declared.operators.Relation.{Relation}
use Rattle.pas_syntax.specs.declared.operators.Relation.TheVariants as relates
use Rattle.pas_syntax.specs.declared.operators.Adding.{Adding}
use Rattle.pas_syntax.specs.declared.operators.Adding.TheVariants as adding
use Rattle.pas_syntax.specs.Tree as tree
use Rattle.pas_syntax.specs.Tree.{Ident, Expr, Sum, Term, Factor, Variable}
use Rattle.pas_syntax.specs.Words.{Word, at, operator, shows, name_at, number_at, text_at, multiplying_kind}
use Rattle.pas_syntax.specs.Words.{adding_kind}
use Rattle.pas_syntax.specs.Words.{relation_kind, sign_kind, sum_depth, term_depth, expr_words, sum_words, term_words}
use Rattle.pas_syntax.specs.Words.{factor_words, variable_words, exprs_words}
use Rattle.pas_syntax.specs.Parse.{tokens_in}
use Rattle.pas_syntax.specs.inner.Prog.{Prog, done, look, bind, Out, run, head, ends, turns}
use Rattle.pas_syntax.specs.inner.Readers.{factor_behind, behind_factor}
use Rattle.pas_syntax.specs.inner.Readers.{term_by, term_behind, behind_term, signed_by, first_term_at, sum_by}
use Rattle.pas_syntax.specs.inner.Readers.{related_by}
use Rattle.pas_syntax.specs.inner.Readers.{behind_sum, expr_by}
use Rattle.pas_syntax.proofs.Judged.{Reaches, reaches_bind, reaches_last}
use Rattle.pas_syntax.proofs.ReachLemmas.{reaches_turn, reaches_no, reaches_end, reaches_unless}
use Rattle.pas_syntax.proofs.ReachLemmas.{reaches_look}
use Rattle.pas_syntax.proofs.WordLemmas.{sound_operator, deep_operator}

-- what may stand behind a factor, a term and a sum
abbrev pub EndsFactor : Kind → Type 0
EndsFactor k.LeftParenthesis = ⊥
EndsFactor k.LeftBracket = ⊥
EndsFactor k.Dot = ⊥
EndsFactor k.Caret = ⊥
EndsFactor kind = Unit {0}

abbrev pub EndsTerm : Kind → Type 0
EndsTerm k.Star = ⊥
EndsTerm k.Div = ⊥
EndsTerm k.Mod = ⊥
EndsTerm k.And = ⊥
EndsTerm k.Slash = ⊥
EndsTerm kind = EndsFactor kind

abbrev pub EndsSum : Kind → Type 0
EndsSum k.Plus = ⊥
EndsSum k.Minus = ⊥
EndsSum k.Or = ⊥
EndsSum k.In = ⊥
EndsSum kind = EndsTerm kind

pub factor_ends : (kind : Kind) → EndsTerm kind → EndsFactor kind
factor_ends k.Star e = absurd e
factor_ends k.Div e = absurd e
factor_ends k.Mod e = absurd e
factor_ends k.And e = absurd e
factor_ends k.Slash e = absurd e
factor_ends kind e = e

pub term_ends : (kind : Kind) → EndsSum kind → EndsTerm kind
term_ends k.Plus e = absurd e
term_ends k.Minus e = absurd e
term_ends k.Or e = absurd e
term_ends k.In e = absurd e
term_ends kind e = e

multiplying_ends : (op : Multiplying) → EndsFactor (multiplying_kind op)
multiplying_ends multiplying.Times = tt
multiplying_ends multiplying.Div = tt
multiplying_ends multiplying.Mod = tt
multiplying_ends multiplying.And = tt

adding_ends : (op : Adding) → EndsTerm (adding_kind op)
adding_ends adding.Plus = tt
adding_ends adding.Minus = tt
adding_ends adding.Or = tt

-- how many turns a loop takes to a term
abbrev turns_of_term : Term → ℕ
turns_of_term (tree.first_factor f) = 0
turns_of_term (tree.more_factors left op f) = turns_of_term left + 1
turns_of_term (tree.quotient left line) = turns_of_term left + 1

few_turns : (n a : ℕ) (t : Term) → turns_of_term t ≤ length (term_words n a t)
few_turns n a (tree.first_factor f) = omega arith
few_turns n a (tree.more_factors left op f) =
    let w = operator n (a + 1 + term_depth left) (multiplying_kind op.item) op.line in
    omega (arith, few_turns n a left, length-append (term_words n a left) (w ∷ factor_words n (a + 1) f))
few_turns n a (tree.quotient left line) =
    omega (arith, few_turns n a left, length-append (term_words n a left) (shows n k.Slash line REAL_NUMBERS ∷ []))

-- what may stand behind an expression, and behind a list of them
abbrev pub EndsExpr : Kind → Type 0
EndsExpr k.Equal = ⊥
EndsExpr k.NotEqual = ⊥
EndsExpr k.Less = ⊥
EndsExpr k.LessOrEqual = ⊥
EndsExpr k.Greater = ⊥
EndsExpr k.GreaterOrEqual = ⊥
EndsExpr kind = EndsSum kind

abbrev pub EndsExprs : Kind → Type 0
EndsExprs k.Comma = ⊥
EndsExprs kind = EndsExpr kind

pub sum_ends : (kind : Kind) → EndsExpr kind → EndsSum kind
sum_ends k.Equal e = absurd e
sum_ends k.NotEqual e = absurd e
sum_ends k.Less e = absurd e
sum_ends k.LessOrEqual e = absurd e
sum_ends k.Greater e = absurd e
sum_ends k.GreaterOrEqual e = absurd e
sum_ends kind e = e

pub expr_ends : (kind : Kind) → EndsExprs kind → EndsExpr kind
expr_ends k.Comma e = absurd e
expr_ends kind e = e

relation_ends : (op : Relation) → EndsSum (relation_kind op)
relation_ends relates.Equal = tt
relation_ends relates.NotEqual = tt
relation_ends relates.Less = tt
relation_ends relates.LessOrEqual = tt
relation_ends relates.Greater = tt
relation_ends relates.GreaterOrEqual = tt

-- what a factor does not begin with: a sign
abbrev IsNoSign : Kind → Type 0
IsNoSign k.Plus = ⊥
IsNoSign k.Minus = ⊥
IsNoSign kind = Unit {0}

record Starts (ws : List Word) : Type 0 where
  pub word : Word
  pub others : List Word
  pub same : ws ≡ word ∷ others
  pub no_sign : IsNoSign word.token.kind

starts_append : (us vs : List Word) → Starts us → Starts (us ++ vs)
starts_append us vs s =
    record { word = s.word; others = s.others ++ vs; same = ap (λ ws. ws ++ vs) s.same; no_sign = s.no_sign }

starts_head : (ws : List Word) (rest : List Token) → Starts ws → IsNoSign (head (tokens_in ws ++ rest)).kind
starts_head ws rest s = subst (λ ws. IsNoSign (head (tokens_in ws ++ rest)).kind) (sym s.same) s.no_sign

-- a variable is its name and what stands behind that
abbrev pub name_of : Variable → Ident
name_of (tree.whole ident) = ident
name_of (tree.indexed v opened indexes closed) = name_of v
name_of (tree.field_of v line ident) = name_of v
name_of (tree.buffer_of v line) = name_of v

abbrev pub selector_words : ℕ → ℕ → Variable → List Word
selector_words n a (tree.whole ident) = []
selector_words n a (tree.indexed v opened indexes closed) =
    selector_words n a v ++ at (n + 1) k.LeftBracket opened ∷ (exprs_words (n + 1) a indexes
    ++ at (n + 1) k.RightBracket closed ∷ [])
selector_words n a (tree.field_of v line ident) = selector_words n a v ++ at n k.Dot line ∷ (name_at n ident ∷ [])
selector_words n a (tree.buffer_of v line) = selector_words n a v ++ at n k.Caret line ∷ []

pub split_variable : (n a : ℕ) (v : Variable) → variable_words n a v ≡ name_at n (name_of v) ∷ selector_words n a v
split_variable n a (tree.whole ident) = refl
split_variable n a (tree.indexed v opened indexes closed) =
    ap (λ ws. ws ++ at (n + 1) k.LeftBracket opened ∷ (exprs_words (n + 1) a indexes
    ++ at (n + 1) k.RightBracket closed ∷ [])) (split_variable n a v)
split_variable n a (tree.field_of v line ident) =
    ap (λ ws. ws ++ at n k.Dot line ∷ (name_at n ident ∷ [])) (split_variable n a v)
split_variable n a (tree.buffer_of v line) = ap (λ ws. ws ++ at n k.Caret line ∷ []) (split_variable n a v)

starts_factor : (n a : ℕ) (f : Factor) → Starts (factor_words n a f)
starts_factor n a (tree.literal numeral) = record { word = number_at n numeral; others = []; same = refl; no_sign = tt }
starts_factor n a (tree.literal_text quoted) = record {
  word = text_at n quoted;
  others = [];
  same = refl;
  no_sign =
      tt;
}
starts_factor n a (tree.parenthesized opened e closed) =
    record {
      word = at (n + 1) k.LeftParenthesis opened;
      others = expr_words (n + 1) a e
          ++ at (n + 1) k.RightParenthesis closed ∷ [];
      same = refl;
      no_sign = tt;
    }
starts_factor n a (tree.negated line f) =
    record { word = operator n (a + 1) k.Not line; others = factor_words n (a + 1) f; same = refl; no_sign = tt }
starts_factor n a (tree.variable v) =
    record { word = name_at n (name_of v); others = selector_words n a v; same = split_variable n a v; no_sign = tt }
starts_factor n a (tree.function_call name opened arguments closed) =
    record {
      word = name_at n name;
      others = at (n + 1) k.LeftParenthesis opened ∷ (exprs_words (n + 1) a arguments
          ++ at (n + 1) k.RightParenthesis closed ∷ []);
      same = refl;
      no_sign = tt;
    }
starts_factor n a (tree.set_value line) =
    record { word = shows n k.LeftBracket line SETS; others = []; same = refl; no_sign = tt }
starts_factor n a (tree.nil line) = record {
  word = shows n k.Nil line POINTERS;
  others = [];
  same = refl;
  no_sign =
      tt;
}

starts_term : (n a : ℕ) (t : Term) → Starts (term_words n a t)
starts_term n a (tree.first_factor f) = starts_factor n a f
starts_term n a (tree.more_factors left op f) =
    starts_append (term_words n a left) (operator n (a + 1 + term_depth left) (multiplying_kind op.item) op.line
    ∷ factor_words n (a + 1) f) (starts_term n a left)
starts_term n a (tree.quotient left line) =
    starts_append (term_words n a left) (shows n k.Slash line REAL_NUMBERS ∷ []) (starts_term n a left)

-- how many turns a loop takes to a sum
abbrev turns_of_sum : Sum → ℕ
turns_of_sum (tree.first_term t) = 0
turns_of_sum (tree.signed_term lead t) = 0
turns_of_sum (tree.more_terms left op t) = turns_of_sum left + 1
turns_of_sum (tree.membership left line) = turns_of_sum left + 1

few_turns_of_sum : (n a : ℕ) (s : Sum) → turns_of_sum s ≤ length (sum_words n a s)
few_turns_of_sum n a (tree.first_term t) = omega arith
few_turns_of_sum n a (tree.signed_term lead t) = omega arith
few_turns_of_sum n a (tree.more_terms left op t) =
    let w = operator n (a + 1 + sum_depth left) (adding_kind op.item) op.line in
    omega (arith, few_turns_of_sum n a left, length-append (sum_words n a left) (w ∷ term_words n (a + 1) t))
few_turns_of_sum n a (tree.membership left line) =
    omega (arith, few_turns_of_sum n a left, length-append (sum_words n a left) (shows n k.In line SETS ∷ []))

module _ (factor : ℕ → ℕ → Prog Factor) (most : ℕ)
    (h : (n a : ℕ) (f : Factor) (rest : List Token) → n ≤ NESTING_LIMIT → length (factor_words n a f) < most
    → EndsFactor (head rest).kind → Reaches (factor n a) (factor_words n a f) (Ok (f, rest)) rest) where
  next_factor : (n a : ℕ) (left : Term) (op : Multiplying) (line : ℕ)
      → behind_factor factor most n a left (multiplying_kind op) nothing line ≡ factor_behind factor most n a left op
      line
  next_factor n a left multiplying.Times line = refl
  next_factor n a left multiplying.Div line = refl
  next_factor n a left multiplying.Mod line = refl
  next_factor n a left multiplying.And line = refl

  no_factor : (n a : ℕ) (left : Term) (kind : Kind) (payload : Payload) (line : ℕ) → EndsTerm kind
      → behind_factor factor most n a left kind payload line ≡ ends
  no_factor n a left k.Star payload line e = absurd e
  no_factor n a left k.Div payload line e = absurd e
  no_factor n a left k.Mod payload line e = absurd e
  no_factor n a left k.And payload line e = absurd e
  no_factor n a left k.Slash payload line e = absurd e
  no_factor n a left kind payload line e = refl

  -- a term, behind which the loop goes on with the turns that are left
  reaches_term_on : (n a : ℕ) → n ≤ NESTING_LIMIT → (t : Term) (left_turns : ℕ) (vs : List Word) (r : Out Term)
      (rest : List Token) → most ≡ left_turns + turns_of_term t → length (term_words n a t) < most
      → EndsFactor (head (tokens_in vs ++ rest)).kind
      → Reaches (turns (behind_factor factor most n a) left_turns t) vs r rest
      → Reaches (term_by factor most n a) (term_words n a t ++ vs) r rest
  reaches_term_on n a fits (tree.first_factor f) left_turns vs r rest is less end then =
      let same : left_turns ≡ most = omega (arith, is) in
      reaches_bind (factor n a) (λ first. turns (behind_factor factor most n a) most (tree.first_factor first))
      (factor_words n a f) vs f r rest (h n a f (tokens_in vs ++ rest) fits less end)
      (subst (λ m. Reaches (turns (behind_factor factor most n a) m (tree.first_factor f)) vs r rest) same then)
  reaches_term_on n a fits (tree.more_factors left op f) left_turns vs r rest is less end then =
      let w = operator n (a + 1 + term_depth left) (multiplying_kind op.item) op.line in
      let us = term_words n a left in
      let ws = factor_words n (a + 1) f in
      let count : length (us ++ w ∷ ws) ≡ length us + length (w ∷ ws) = length-append us (w ∷ ws) in
      let more : most ≡ suc left_turns + turns_of_term left = omega (arith, is) in
      let shorter : length us < most = omega (arith, less, count) in
      let short : length ws < most = omega (arith, less, count) in
      subst (λ all. Reaches (term_by factor most n a) all r rest) (sym (append_assoc us (w ∷ ws) vs))
      (reaches_term_on n a fits left (suc left_turns) (w ∷ (ws ++ vs)) r rest more shorter (multiplying_ends op.item)
      (reaches_turn (behind_factor factor most n a) left_turns left w (tree.more_factors left op f) ws vs
      (bind (factor n (a + 1)) (λ right. done (tree.more_factors left op right)))
      (nat_lt NESTING_LIMIT (a + 1 + term_depth left)) r rest (next_factor n a left op.item op.line)
      (deep_operator n (a + 1 + term_depth left) (multiplying_kind op.item) op.line fits)
      (sound_operator n (a + 1 + term_depth left) (multiplying_kind op.item) op.line fits)
      (λ few. reaches_last (factor n (a + 1)) (λ right. done (tree.more_factors left op right)) ws f (tokens_in vs
      ++ rest)
      (h n (a + 1) f (tokens_in vs ++ rest) fits short end))
      then))
  reaches_term_on n a fits (tree.quotient left line) left_turns vs r rest is less end then =
      let w = shows n k.Slash line REAL_NUMBERS in
      let us = term_words n a left in
      let count : length (us ++ w ∷ []) ≡ length us + length (w ∷ []) = length-append us (w ∷ []) in
      let more : most ≡ suc left_turns + turns_of_term left = omega (arith, is) in
      let shorter : length us < most = omega (arith, less, count) in
      subst (λ all. Reaches (term_by factor most n a) all r rest) (sym (append_assoc us (w ∷ []) vs))
      (reaches_term_on n a fits left (suc left_turns) (w ∷ vs) r rest more shorter tt
      (reaches_no (behind_factor factor most n a) left_turns left w REAL_NUMBERS vs r rest refl refl))

  pub reaches_term : (n a : ℕ) → n ≤ NESTING_LIMIT → (t : Term) (rest : List Token) → length (term_words n a t) < most
      → EndsTerm (head rest).kind → Reaches (term_by factor most n a) (term_words n a t) (Ok (t, rest)) rest
  reaches_term n a fits t rest less end =
      let left_turns = most - suc (turns_of_term t) in
      let is : most ≡ suc left_turns + turns_of_term t = omega (arith, less, few_turns n a t) in
      subst (λ all. Reaches (term_by factor most n a) all (Ok (t, rest)) rest) (append-nil (term_words n a t))
      (reaches_term_on n a fits t (suc left_turns) [] (Ok (t, rest)) rest is less (factor_ends (head rest).kind end)
      (reaches_end (behind_factor factor most n a) left_turns t rest
      (no_factor n a t (head rest).kind (head rest).payload (head rest).line end)))

  next_term : (n a : ℕ) (left : Sum) (op : Adding) (line : ℕ)
      → behind_term factor most n a left (adding_kind op) nothing line ≡ term_behind factor most n a left op line
  next_term n a left adding.Plus line = refl
  next_term n a left adding.Minus line = refl
  next_term n a left adding.Or line = refl

  no_term : (n a : ℕ) (left : Sum) (kind : Kind) (payload : Payload) (line : ℕ) → EndsSum kind
      → behind_term factor most n a left kind payload line ≡ ends
  no_term n a left k.Plus payload line e = absurd e
  no_term n a left k.Minus payload line e = absurd e
  no_term n a left k.Or payload line e = absurd e
  no_term n a left k.In payload line e = absurd e
  no_term n a left kind payload line e = refl

  signed : (n a : ℕ) (lead : Sign) (line : ℕ)
      → first_term_at factor most n a (sign_kind lead) nothing line ≡ signed_by factor most n a lead line
  signed n a sign.Plus line = refl
  signed n a sign.Minus line = refl

  unsigned : (n a : ℕ) (kind : Kind) (payload : Payload) (line : ℕ) → IsNoSign kind
      → first_term_at factor most n a kind payload line ≡ bind (term_by factor most n a) (λ t. done (tree.first_term t))
  unsigned n a k.Plus payload line e = absurd e
  unsigned n a k.Minus payload line e = absurd e
  unsigned n a kind payload line e = refl

  -- a sum, behind which the loop goes on with the turns that are left
  reaches_sum_on : (n a : ℕ) → n ≤ NESTING_LIMIT → (s : Sum) (left_turns : ℕ) (vs : List Word) (r : Out Sum)
      (rest : List Token) → most ≡ left_turns + turns_of_sum s → length (sum_words n a s) < most
      → EndsTerm (head (tokens_in vs ++ rest)).kind
      → Reaches (turns (behind_term factor most n a) left_turns s) vs r rest
      → Reaches (sum_by factor most n a) (sum_words n a s ++ vs) r rest
  reaches_sum_on n a fits (tree.first_term t) left_turns vs r rest is less end then =
      let same : left_turns ≡ most = omega (arith, is) in
      let us = term_words n a t in
      let behind = tokens_in vs ++ rest in
      let first = head (tokens_in us ++ behind) in
      reaches_bind (look (first_term_at factor most n a)) (λ s. turns (behind_term factor most n a) most s) us vs
      (tree.first_term t) r rest
      (reaches_look (first_term_at factor most n a) (bind (term_by factor most n a) (λ t. done (tree.first_term t))) us
      (Ok (tree.first_term t, behind)) behind
      (unsigned n a first.kind first.payload first.line (starts_head us behind (starts_term n a t)))
      (reaches_last (term_by factor most n a) (λ t. done (tree.first_term t)) us t behind
      (reaches_term n a fits t behind less end)))
      (subst (λ m. Reaches (turns (behind_term factor most n a) m (tree.first_term t)) vs r rest) same then)
  reaches_sum_on n a fits (tree.signed_term lead t) left_turns vs r rest is less end then =
      let same : left_turns ≡ most = omega (arith, is) in
      let w = operator n (a + 1) (sign_kind lead.item) lead.line in
      let us = term_words n (a + 1) t in
      let behind = tokens_in vs ++ rest in
      let short : length us < most = omega (arith, less) in
      reaches_bind (look (first_term_at factor most n a)) (λ s. turns (behind_term factor most n a) most s) (w ∷ us) vs
      (tree.signed_term lead t) r rest
      (reaches_look (first_term_at factor most n a) (signed_by factor most n a lead.item lead.line) (w ∷ us)
      (Ok (tree.signed_term lead t, behind)) behind (signed n a lead.item lead.line)
      (reaches_unless w us (nat_lt NESTING_LIMIT (a + 1))
      (bind (term_by factor most n (a + 1)) (λ t. done (tree.signed_term lead t))) (Ok (
        tree.signed_term lead t,
        behind,
      )) behind
      (deep_operator n (a + 1) (sign_kind lead.item) lead.line fits)
      (sound_operator n (a + 1) (sign_kind lead.item) lead.line fits)
      (λ few. reaches_last (term_by factor most n (a + 1)) (λ t. done (tree.signed_term lead t)) us t behind
      (reaches_term n (a + 1) fits t behind short end))))
      (subst (λ m. Reaches (turns (behind_term factor most n a) m (tree.signed_term lead t)) vs r rest) same then)
  reaches_sum_on n a fits (tree.more_terms left op t) left_turns vs r rest is less end then =
      let w = operator n (a + 1 + sum_depth left) (adding_kind op.item) op.line in
      let us = sum_words n a left in
      let ws = term_words n (a + 1) t in
      let count : length (us ++ w ∷ ws) ≡ length us + length (w ∷ ws) = length-append us (w ∷ ws) in
      let more_turns : most ≡ suc left_turns + turns_of_sum left = omega (arith, is) in
      let shorter : length us < most = omega (arith, less, count) in
      let short : length ws < most = omega (arith, less, count) in
      subst (λ all. Reaches (sum_by factor most n a) all r rest) (sym (append_assoc us (w ∷ ws) vs))
      (reaches_sum_on n a fits left (suc left_turns) (w ∷ (ws ++ vs)) r rest more_turns shorter (adding_ends op.item)
      (reaches_turn (behind_term factor most n a) left_turns left w (tree.more_terms left op t) ws vs
      (bind (term_by factor most n (a + 1)) (λ right. done (tree.more_terms left op right)))
      (nat_lt NESTING_LIMIT (a + 1 + sum_depth left)) r rest (next_term n a left op.item op.line)
      (deep_operator n (a + 1 + sum_depth left) (adding_kind op.item) op.line fits)
      (sound_operator n (a + 1 + sum_depth left) (adding_kind op.item) op.line fits)
      (λ few. reaches_last (term_by factor most n (a + 1)) (λ right. done (tree.more_terms left op right)) ws t
      (tokens_in vs ++ rest) (reaches_term n (a + 1) fits t (tokens_in vs ++ rest) short end))
      then))
  reaches_sum_on n a fits (tree.membership left line) left_turns vs r rest is less end then =
      let w = shows n k.In line SETS in
      let us = sum_words n a left in
      let count : length (us ++ w ∷ []) ≡ length us + length (w ∷ []) = length-append us (w ∷ []) in
      let more_turns : most ≡ suc left_turns + turns_of_sum left = omega (arith, is) in
      let shorter : length us < most = omega (arith, less, count) in
      subst (λ all. Reaches (sum_by factor most n a) all r rest) (sym (append_assoc us (w ∷ []) vs))
      (reaches_sum_on n a fits left (suc left_turns) (w ∷ vs) r rest more_turns shorter tt
      (reaches_no (behind_term factor most n a) left_turns left w SETS vs r rest refl refl))

  pub reaches_sum : (n a : ℕ) → n ≤ NESTING_LIMIT → (s : Sum) (rest : List Token) → length (sum_words n a s) < most
      → EndsSum (head rest).kind → Reaches (sum_by factor most n a) (sum_words n a s) (Ok (s, rest)) rest
  reaches_sum n a fits s rest less end =
      let left_turns = most - suc (turns_of_sum s) in
      let is : most ≡ suc left_turns + turns_of_sum s = omega (arith, less, few_turns_of_sum n a s) in
      subst (λ all. Reaches (sum_by factor most n a) all (Ok (s, rest)) rest) (append-nil (sum_words n a s))
      (reaches_sum_on n a fits s (suc left_turns) [] (Ok (s, rest)) rest is less (term_ends (head rest).kind end)
      (reaches_end (behind_term factor most n a) left_turns s rest
      (no_term n a s (head rest).kind (head rest).payload (head rest).line end)))

  -- an expression
  next_relation : (n a : ℕ) (left : Sum) (op : Relation) (line : ℕ)
      → behind_sum factor most n a left (relation_kind op) nothing line ≡ related_by factor most n a left op line
  next_relation n a left relates.Equal line = refl
  next_relation n a left relates.NotEqual line = refl
  next_relation n a left relates.Less line = refl
  next_relation n a left relates.LessOrEqual line = refl
  next_relation n a left relates.Greater line = refl
  next_relation n a left relates.GreaterOrEqual line = refl

  no_relation : (n a : ℕ) (left : Sum) (kind : Kind) (payload : Payload) (line : ℕ) → EndsExpr kind
      → behind_sum factor most n a left kind payload line ≡ done (tree.sum left)
  no_relation n a left k.Equal payload line e = absurd e
  no_relation n a left k.NotEqual payload line e = absurd e
  no_relation n a left k.Less payload line e = absurd e
  no_relation n a left k.LessOrEqual payload line e = absurd e
  no_relation n a left k.Greater payload line e = absurd e
  no_relation n a left k.GreaterOrEqual payload line e = absurd e
  no_relation n a left kind payload line e = refl

  pub reaches_expr : (n a : ℕ) → n ≤ NESTING_LIMIT → (e : Expr) (rest : List Token) → length (expr_words n a e) < most
      → EndsExpr (head rest).kind → Reaches (expr_by factor most n a) (expr_words n a e) (Ok (e, rest)) rest
  reaches_expr n a fits (tree.sum s) rest less end =
      subst (λ r. Reaches (expr_by factor most n a) (sum_words n a s) r rest)
      (ap (λ q. run q rest) (no_relation n a s (head rest).kind (head rest).payload (head rest).line end))
      (reaches_last (sum_by factor most n a) (λ left. look (behind_sum factor most n a left)) (sum_words n a s) s rest
      (reaches_sum n a fits s rest less (sum_ends (head rest).kind end)))
  reaches_expr n a fits (tree.relation left op right) rest less end =
      let w = operator n (a + 1 + sum_depth left) (relation_kind op.item) op.line in
      let us = sum_words n a left in
      let ws = sum_words n (a + 1) right in
      let count : length (us ++ w ∷ ws) ≡ length us + length (w ∷ ws) = length-append us (w ∷ ws) in
      let shorter : length us < most = omega (arith, less, count) in
      let short : length ws < most = omega (arith, less, count) in
      let further = λ (right : Sum). done (tree.relation left op right) in
      reaches_bind (sum_by factor most n a) (λ left. look (behind_sum factor most n a left)) us (w ∷ ws) left
      (Ok (tree.relation left op right, rest)) rest
      (reaches_sum n a fits left (tokens_in (w ∷ ws) ++ rest) shorter (relation_ends op.item))
      (reaches_look (behind_sum factor most n a left) (related_by factor most n a left op.item op.line) (w ∷ ws)
      (Ok (tree.relation left op right, rest)) rest (next_relation n a left op.item op.line)
      (reaches_unless w ws (nat_lt NESTING_LIMIT (a + 1 + sum_depth left)) (bind (sum_by factor most n (a + 1)) further)
      (Ok (tree.relation left op right, rest)) rest
      (deep_operator n (a + 1 + sum_depth left) (relation_kind op.item) op.line fits)
      (sound_operator n (a + 1 + sum_depth left) (relation_kind op.item) op.line fits)
      (λ few. reaches_last (sum_by factor most n (a + 1)) further ws right rest
      (reaches_sum n (a + 1) fits right rest short (sum_ends (head rest).kind end)))))
