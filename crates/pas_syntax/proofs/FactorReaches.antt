-- Each reader of a list of expressions, a variable or a factor takes the words of each tree, to the first with a fault.
use Rattle.std.proofs.Common.{◌≡◌, refl, sym, ap, subst, ℕ, zero, suc, ◌+◌, ◌-◌, ◌≤◌, ◌<◌, arith}
use Rattle.std.proofs.Common.{List, [], ◌∷◌, ◌++◌, length, append_assoc, Ok}
use Rattle.std.specs.Prelude.{nat_lt}
use Rattle.std.proofs.lemmas.List.{append-nil, length-append}
use Rattle.wb_base.specs.declared.faults.TheConstants.{SETS, POINTERS}
use Rattle.pas_tokens.specs.declared.kinds.Kind.{Kind}
use Rattle.pas_tokens.specs.declared.kinds.Kind.TheVariants as k
use Rattle.pas_tokens.specs.Cutting.{Payload, nothing, value, spelling}
use Rattle.pas_tokens.specs.Tokens.{Token}
use Rattle.pas_syntax.specs.declared.limits.TheConstants.{NESTING_LIMIT}
use Rattle.pas_syntax.specs.Tree as tree
use Rattle.pas_syntax.specs.Tree.{Ident, Expr, Factor, Variable, Exprs}
use Rattle.pas_syntax.specs.Words.{Word, at, operator, shows, name_at, number_at, text_at, expr_words, factor_words}
use Rattle.pas_syntax.specs.Words.{exprs_words}
use Rattle.pas_syntax.specs.Parse.{tokens_in}
use Rattle.pas_syntax.specs.inner.Prog.{Prog, done, look, bind, Out, head, ends, turns}
use Rattle.pas_syntax.specs.inner.Readers.{ident, right_parenthesis_at, right_bracket_at, expr_by, behind_expr}
use Rattle.pas_syntax.specs.inner.Readers.{exprs_by}
use Rattle.pas_syntax.specs.inner.Readers.{indexes_by, behind_variable, variable_by, behind_name, factor_at}
use Rattle.pas_syntax.specs.inner.Readers.{factor}
use Rattle.pas_syntax.specs.inner.Readers.{expr, exprs, variable}
use Rattle.pas_syntax.proofs.Judged.{Reaches, reaches_bind, reaches_last, reaches_skip, reaches_shown}
use Rattle.pas_syntax.proofs.ReachLemmas.{reaches_turn, reaches_more, reaches_end, reaches_unless, reaches_look}
use Rattle.pas_syntax.proofs.WordLemmas.{sound_says, sound_operator, deep_form, deep_operator, fits_of}
use Rattle.pas_syntax.proofs.ExprReaches.{EndsFactor, EndsExpr, EndsExprs, expr_ends, name_of, selector_words}
use Rattle.pas_syntax.proofs.ExprReaches.{split_variable, reaches_expr}

-- how many turns a loop takes to a list and to a variable
abbrev turns_of_exprs : Exprs → ℕ
turns_of_exprs (tree.first_expr e) = 0
turns_of_exprs (tree.more_exprs others line e) = turns_of_exprs others + 1

few_turns_of_exprs : (n a : ℕ) (es : Exprs) → turns_of_exprs es ≤ length (exprs_words n a es)
few_turns_of_exprs n a (tree.first_expr e) = omega arith
few_turns_of_exprs n a (tree.more_exprs others line e) =
    omega (
      arith,
      few_turns_of_exprs n a others,
      length-append (exprs_words n a others)
          (at n k.Comma line ∷ expr_words n a e),
    )

abbrev turns_of_variable : Variable → ℕ
turns_of_variable (tree.whole name) = 0
turns_of_variable (tree.indexed v opened indexes closed) = turns_of_variable v + 1
turns_of_variable (tree.field_of v line name) = turns_of_variable v + 1
turns_of_variable (tree.buffer_of v line) = turns_of_variable v + 1

few_turns_of_variable : (n a : ℕ) (v : Variable) → turns_of_variable v ≤ length (selector_words n a v)
few_turns_of_variable n a (tree.whole name) = omega arith
few_turns_of_variable n a (tree.indexed v opened indexes closed) =
    omega (
      arith,
      few_turns_of_variable n a v,
      length-append (selector_words n a v)
          (at (n + 1) k.LeftBracket opened ∷ (exprs_words (n + 1) a indexes ++ at (n + 1) k.RightBracket closed ∷ [])),
    )
few_turns_of_variable n a (tree.field_of v line name) =
    omega (
      arith,
      few_turns_of_variable n a v,
      length-append (selector_words n a v)
          (at n k.Dot line ∷ (name_at n name ∷ [])),
    )
few_turns_of_variable n a (tree.buffer_of v line) =
    omega (arith, few_turns_of_variable n a v, length-append (selector_words n a v) (at n k.Caret line ∷ []))

-- what stands behind the name of a variable is no parenthesis
abbrev EndsName : Kind → Type 0
EndsName k.LeftParenthesis = ⊥
EndsName kind = Unit {0}

name_ends : (kind : Kind) → EndsFactor kind → EndsName kind
name_ends k.LeftParenthesis e = absurd e
name_ends kind e = tt

name_ends_there : (n a : ℕ) (v : Variable) (vs : List Word) (rest : List Token)
    → EndsName (head (tokens_in vs ++ rest)).kind → EndsName (head (tokens_in (selector_words n a v ++ vs)
    ++ rest)).kind
name_ends_there n a (tree.whole name) vs rest e = e
name_ends_there n a (tree.indexed v opened indexes closed) vs rest e =
    let w = at (n + 1) k.LeftBracket opened in
    let ws = exprs_words (n + 1) a indexes ++ at (n + 1) k.RightBracket closed ∷ [] in
    subst (λ all. EndsName (head (tokens_in all ++ rest)).kind) (sym (append_assoc (selector_words n a v) (w ∷ ws) vs))
    (name_ends_there n a v (w ∷ (ws ++ vs)) rest tt)
name_ends_there n a (tree.field_of v line name) vs rest e =
    let w = at n k.Dot line in
    let ws = name_at n name ∷ [] in
    subst (λ all. EndsName (head (tokens_in all ++ rest)).kind) (sym (append_assoc (selector_words n a v) (w ∷ ws) vs))
    (name_ends_there n a v (w ∷ (ws ++ vs)) rest tt)
name_ends_there n a (tree.buffer_of v line) vs rest e =
    let w = at n k.Caret line in
    subst (λ all. EndsName (head (tokens_in all ++ rest)).kind) (sym (append_assoc (selector_words n a v) (w ∷ []) vs))
    (name_ends_there n a v (w ∷ vs) rest tt)

-- a token at the end of a form
reaches_right_parenthesis : {B : Type 0} (n : ℕ) → n ≤ NESTING_LIMIT → (make : ℕ → B) (closed : ℕ) (rest : List Token)
    → Reaches (bind (look right_parenthesis_at) (λ closed. done (make closed))) (at n k.RightParenthesis closed ∷ [])
    (Ok (make closed, rest)) rest
reaches_right_parenthesis n fits make closed rest =
    reaches_skip (done (make closed)) (at n k.RightParenthesis closed) [] (Ok (make closed, rest)) rest
    (sound_says n k.RightParenthesis nothing closed fits) refl

reaches_right_bracket : {B : Type 0} (n : ℕ) → n ≤ NESTING_LIMIT → (make : ℕ → B) (closed : ℕ) (rest : List Token)
    → Reaches (bind (look right_bracket_at) (λ closed. done (make closed))) (at n k.RightBracket closed ∷ [])
    (Ok (make closed, rest)) rest
reaches_right_bracket n fits make closed rest =
    reaches_skip (done (make closed)) (at n k.RightBracket closed) [] (Ok (make closed, rest)) rest
    (sound_says n k.RightBracket nothing closed fits) refl

module _ (factor : ℕ → ℕ → Prog Factor) (most : ℕ)
    (h : (n a : ℕ) (f : Factor) (rest : List Token) → n ≤ NESTING_LIMIT → length (factor_words n a f) < most
    → EndsFactor (head rest).kind → Reaches (factor n a) (factor_words n a f) (Ok (f, rest)) rest) where
  no_expr : (n a : ℕ) (others : Exprs) (kind : Kind) (payload : Payload) (line : ℕ) → EndsExprs kind
      → behind_expr factor most n a others kind payload line ≡ ends
  no_expr n a others k.Comma payload line e = absurd e
  no_expr n a others kind payload line e = refl

  -- a list, behind which the loop goes on with the turns that are left
  reaches_exprs_on : (n a : ℕ) → n ≤ NESTING_LIMIT → (es : Exprs) (left_turns : ℕ) (vs : List Word) (r : Out Exprs)
      (rest : List Token) → most ≡ left_turns + turns_of_exprs es → length (exprs_words n a es) < most
      → EndsExpr (head (tokens_in vs ++ rest)).kind
      → Reaches (turns (behind_expr factor most n a) left_turns es) vs r rest
      → Reaches (exprs_by factor most n a) (exprs_words n a es ++ vs) r rest
  reaches_exprs_on n a fits (tree.first_expr e) left_turns vs r rest is less end then =
      let same : left_turns ≡ most = omega (arith, is) in
      reaches_bind (expr_by factor most n a) (λ first. turns (behind_expr factor most n a) most (tree.first_expr first))
      (expr_words n a e) vs e r rest (reaches_expr factor most h n a fits e (tokens_in vs ++ rest) less end)
      (subst (λ m. Reaches (turns (behind_expr factor most n a) m (tree.first_expr e)) vs r rest) same then)
  reaches_exprs_on n a fits (tree.more_exprs others line e) left_turns vs r rest is less end then =
      let w = at n k.Comma line in
      let us = exprs_words n a others in
      let ws = expr_words n a e in
      let count : length (us ++ w ∷ ws) ≡ length us + length (w ∷ ws) = length-append us (w ∷ ws) in
      let more_turns : most ≡ suc left_turns + turns_of_exprs others = omega (arith, is) in
      let shorter : length us < most = omega (arith, less, count) in
      let short : length ws < most = omega (arith, less, count) in
      let make = λ (e : Expr). done (tree.more_exprs others line e) in
      subst (λ all. Reaches (exprs_by factor most n a) all r rest) (sym (append_assoc us (w ∷ ws) vs))
      (reaches_exprs_on n a fits others (suc left_turns) (w ∷ (ws ++ vs)) r rest more_turns shorter tt
      (reaches_more (behind_expr factor most n a) left_turns others w (tree.more_exprs others line e) ws vs
      (bind (expr_by factor most n a) make) r rest refl (sound_says n k.Comma nothing line fits)
      (reaches_last (expr_by factor most n a) make ws e (tokens_in vs ++ rest)
      (reaches_expr factor most h n a fits e (tokens_in vs ++ rest) short end))
      then))

  pub reaches_exprs : (n a : ℕ) → n ≤ NESTING_LIMIT → (es : Exprs) (rest : List Token)
      → length (exprs_words n a es) < most → EndsExprs (head rest).kind
      → Reaches (exprs_by factor most n a) (exprs_words n a es) (Ok (es, rest)) rest
  reaches_exprs n a fits es rest less end =
      let left_turns = most - suc (turns_of_exprs es) in
      let is : most ≡ suc left_turns + turns_of_exprs es = omega (arith, less, few_turns_of_exprs n a es) in
      subst (λ all. Reaches (exprs_by factor most n a) all (Ok (es, rest)) rest) (append-nil (exprs_words n a es))
      (reaches_exprs_on n a fits es (suc left_turns) [] (Ok (es, rest)) rest is less (expr_ends (head rest).kind end)
      (reaches_end (behind_expr factor most n a) left_turns es rest
      (no_expr n a es (head rest).kind (head rest).payload (head rest).line end)))

  no_selector : (n a : ℕ) (v : Variable) (kind : Kind) (payload : Payload) (line : ℕ) → EndsFactor kind
      → behind_variable factor most n a v kind payload line ≡ ends
  no_selector n a v k.LeftBracket payload line e = absurd e
  no_selector n a v k.Dot payload line e = absurd e
  no_selector n a v k.Caret payload line e = absurd e
  no_selector n a v kind payload line e = refl

  -- a variable behind its name, behind which the loop goes on with the turns that are left
  reaches_variable_on : (n a : ℕ) → n ≤ NESTING_LIMIT → (v : Variable) (left_turns : ℕ) (vs : List Word) (r : Out
      Variable)
      (rest : List Token) → most ≡ left_turns + turns_of_variable v → length (selector_words n a v) < most
      → Reaches (turns (behind_variable factor most n a) left_turns v) vs r rest
      → Reaches (variable_by factor most n a (name_of v)) (selector_words n a v ++ vs) r rest
  reaches_variable_on n a fits (tree.whole name) left_turns vs r rest is less then =
      let same : left_turns ≡ most = omega (arith, is) in
      subst (λ m. Reaches (turns (behind_variable factor most n a) m (tree.whole name)) vs r rest) same then
  reaches_variable_on n a fits (tree.indexed v opened indexes closed) left_turns vs r rest is less then =
      let w = at (n + 1) k.LeftBracket opened in
      let ends_there = at (n + 1) k.RightBracket closed ∷ [] in
      let es = exprs_words (n + 1) a indexes in
      let ws = es ++ ends_there in
      let us = selector_words n a v in
      let count : length (us ++ w ∷ ws) ≡ length us + length (w ∷ ws) = length-append us (w ∷ ws) in
      let inner : length ws ≡ length es + length ends_there = length-append es ends_there in
      let more_turns : most ≡ suc left_turns + turns_of_variable v = omega (arith, is) in
      let shorter : length us < most = omega (arith, less, count) in
      let short : length es < most = omega (arith, less, count, inner) in
      let new = tree.indexed v opened indexes closed in
      let behind = tokens_in vs ++ rest in
      subst (λ all. Reaches (variable_by factor most n a (name_of v)) all r rest) (sym (append_assoc us (w ∷ ws) vs))
      (reaches_variable_on n a fits v (suc left_turns) (w ∷ (ws ++ vs)) r rest more_turns shorter
      (reaches_turn (behind_variable factor most n a) left_turns v w new ws vs (indexes_by factor most n a v opened)
      (nat_lt NESTING_LIMIT (n + 1)) r rest refl (deep_form (n + 1) k.LeftBracket opened)
      (λ few. sound_says (n + 1) k.LeftBracket nothing opened (fits_of (n + 1) few))
      (λ few. reaches_bind (exprs_by factor most (n + 1) a)
      (λ indexes. bind (look right_bracket_at) (λ closed. done (tree.indexed v opened indexes closed))) es ends_there
      indexes (Ok (new, behind)) behind
      (reaches_exprs (n + 1) a (fits_of (n + 1) few) indexes (tokens_in ends_there ++ behind) short tt)
      (reaches_right_bracket (n + 1) (fits_of (n + 1) few) (λ closed. tree.indexed v opened indexes closed) closed
      behind))
      then))
  reaches_variable_on n a fits (tree.field_of v line name) left_turns vs r rest is less then =
      let w = at n k.Dot line in
      let u = name_at n name in
      let us = selector_words n a v in
      let count : length (us ++ w ∷ (u ∷ [])) ≡ length us + length (w ∷ (u ∷ [])) = length-append us (w ∷ (u ∷ [])) in
      let more_turns : most ≡ suc left_turns + turns_of_variable v = omega (arith, is) in
      let shorter : length us < most = omega (arith, less, count) in
      let new = tree.field_of v line name in
      let behind = tokens_in vs ++ rest in
      subst (λ all. Reaches (variable_by factor most n a (name_of v)) all r rest) (sym (append_assoc us (w ∷ (u
      ∷ [])) vs))
      (reaches_variable_on n a fits v (suc left_turns) (w ∷ ((u ∷ []) ++ vs)) r rest more_turns shorter
      (reaches_more (behind_variable factor most n a) left_turns v w new (u ∷ []) vs
      (bind ident (λ name. done (tree.field_of v line name))) r rest refl (sound_says n k.Dot nothing line fits)
      (reaches_skip (done new) u [] (Ok (new, behind)) behind (sound_says n k.Name (spelling name.name) name.line
      fits) refl)
      then))
  reaches_variable_on n a fits (tree.buffer_of v line) left_turns vs r rest is less then =
      let w = at n k.Caret line in
      let us = selector_words n a v in
      let count : length (us ++ w ∷ []) ≡ length us + length (w ∷ []) = length-append us (w ∷ []) in
      let more_turns : most ≡ suc left_turns + turns_of_variable v = omega (arith, is) in
      let shorter : length us < most = omega (arith, less, count) in
      let new = tree.buffer_of v line in
      subst (λ all. Reaches (variable_by factor most n a (name_of v)) all r rest) (sym (append_assoc us (w ∷ []) vs))
      (reaches_variable_on n a fits v (suc left_turns) (w ∷ vs) r rest more_turns shorter
      (reaches_more (behind_variable factor most n a) left_turns v w new [] vs (done new) r rest refl
      (sound_says n k.Caret nothing line fits) refl then))

  pub reaches_variable : (n a : ℕ) → n ≤ NESTING_LIMIT → (v : Variable) (rest : List Token)
      → length (selector_words n a v) < most → EndsFactor (head rest).kind
      → Reaches (variable_by factor most n a (name_of v)) (selector_words n a v) (Ok (v, rest)) rest
  reaches_variable n a fits v rest less end =
      let left_turns = most - suc (turns_of_variable v) in
      let is : most ≡ suc left_turns + turns_of_variable v = omega (arith, less, few_turns_of_variable n a v) in
      subst (λ all. Reaches (variable_by factor most n a (name_of v)) all (Ok (v, rest)) rest)
      (append-nil (selector_words n a v))
      (reaches_variable_on n a fits v (suc left_turns) [] (Ok (v, rest)) rest is less
      (reaches_end (behind_variable factor most n a) left_turns v rest
      (no_selector n a v (head rest).kind (head rest).payload (head rest).line end)))

  no_call : (n a : ℕ) (name : Ident) (kind : Kind) (payload : Payload) (line : ℕ) → EndsName kind
      → behind_name factor most n a name kind payload line
      ≡ bind (variable_by factor most n a name) (λ v. done (tree.variable v))
  no_call n a name k.LeftParenthesis payload line e = absurd e
  no_call n a name kind payload line e = refl

  -- a variable as a factor
  reaches_selected : (n a : ℕ) → n ≤ NESTING_LIMIT → (v : Variable) (rest : List Token)
      → length (selector_words n a v) < most → EndsFactor (head rest).kind
      → Reaches (look (factor_at factor most n a)) (name_at n (name_of v) ∷ selector_words n a v)
      (Ok (tree.variable v, rest)) rest
  reaches_selected n a fits v rest less end =
      let name = name_of v in
      let ws = selector_words n a v in
      let next = head (tokens_in ws ++ rest) in
      let end_there : EndsName next.kind = subst (λ all. EndsName (head (tokens_in all ++ rest)).kind) (append-nil ws)
      (name_ends_there n a v [] rest (name_ends (head rest).kind end)) in
      reaches_skip (look (behind_name factor most n a name)) (name_at n name) ws (Ok (tree.variable v, rest)) rest
      (sound_says n k.Name (spelling name.name) name.line fits)
      (reaches_look (behind_name factor most n a name)
      (bind (variable_by factor most n a name) (λ v. done (tree.variable v))) ws (Ok (tree.variable v, rest)) rest
      (no_call n a name next.kind next.payload next.line end_there)
      (reaches_last (variable_by factor most n a name) (λ v. done (tree.variable v)) ws v rest
      (reaches_variable n a fits v rest less end)))

  pub reaches_factor_at : (n a : ℕ) → n ≤ NESTING_LIMIT → (f : Factor) (rest : List Token)
      → length (factor_words n a f) < suc most → EndsFactor (head rest).kind
      → Reaches (look (factor_at factor most n a)) (factor_words n a f) (Ok (f, rest)) rest
  reaches_factor_at n a fits (tree.literal numeral) rest less end =
      reaches_skip (done (tree.literal numeral)) (number_at n numeral) [] (Ok (tree.literal numeral, rest)) rest
      (sound_says n k.Number (value numeral.value) numeral.line fits) refl
  reaches_factor_at n a fits (tree.literal_text quoted) rest less end =
      reaches_skip (done (tree.literal_text quoted)) (text_at n quoted) [] (Ok (tree.literal_text quoted, rest)) rest
      (sound_says n k.Text (spelling quoted.text) quoted.line fits) refl
  reaches_factor_at n a fits (tree.parenthesized opened e closed) rest less end =
      let w = at (n + 1) k.LeftParenthesis opened in
      let ends_there = at (n + 1) k.RightParenthesis closed ∷ [] in
      let es = expr_words (n + 1) a e in
      let inner : length (es ++ ends_there) ≡ length es + length ends_there = length-append es ends_there in
      let short : length es < most = omega (arith, less, inner) in
      let further = λ (e : Expr). bind (look right_parenthesis_at) (λ closed. done (tree.parenthesized opened e
      closed)) in
      reaches_unless w (es ++ ends_there) (nat_lt NESTING_LIMIT (n + 1)) (bind (expr_by factor most (n + 1) a) further)
      (Ok (tree.parenthesized opened e closed, rest)) rest (deep_form (n + 1) k.LeftParenthesis opened)
      (λ few. sound_says (n + 1) k.LeftParenthesis nothing opened (fits_of (n + 1) few))
      (λ few. reaches_bind (expr_by factor most (n + 1) a) further es ends_there e
      (Ok (tree.parenthesized opened e closed, rest)) rest
      (reaches_expr factor most h (n + 1) a (fits_of (n + 1) few) e (tokens_in ends_there ++ rest) short tt)
      (reaches_right_parenthesis (n + 1) (fits_of (n + 1) few) (λ closed. tree.parenthesized opened e closed) closed
      rest))
  reaches_factor_at n a fits (tree.negated line f) rest less end =
      let w = operator n (a + 1) k.Not line in
      let ws = factor_words n (a + 1) f in
      let short : length ws < most = omega (arith, less) in
      let further = λ (f : Factor). done (tree.negated line f) in
      reaches_unless w ws (nat_lt NESTING_LIMIT (a + 1)) (bind (factor n (a + 1)) further) (Ok (
        tree.negated line f,
        rest,
      )) rest
      (deep_operator n (a + 1) k.Not line fits) (sound_operator n (a + 1) k.Not line fits)
      (λ few. reaches_last (factor n (a + 1)) further ws f rest (h n (a + 1) f rest fits short end))
  reaches_factor_at n a fits (tree.variable v) rest less end =
      let split = split_variable n a v in
      let short : length (selector_words n a v) < most = omega (arith, less, ap length split) in
      subst (λ ws. Reaches (look (factor_at factor most n a)) ws (Ok (tree.variable v, rest)) rest) (sym split)
      (reaches_selected n a fits v rest short end)
  reaches_factor_at n a fits (tree.function_call name opened arguments closed) rest less end =
      let u = name_at n name in
      let w = at (n + 1) k.LeftParenthesis opened in
      let ends_there = at (n + 1) k.RightParenthesis closed ∷ [] in
      let es = exprs_words (n + 1) a arguments in
      let inner : length (es ++ ends_there) ≡ length es + length ends_there = length-append es ends_there in
      let short : length es < most = omega (arith, less, inner) in
      let new = tree.function_call name opened arguments closed in
      let further = λ (es : Exprs). bind (look right_parenthesis_at)
      (λ closed. done (tree.function_call name opened es closed)) in
      reaches_skip (look (behind_name factor most n a name)) u (w ∷ (es ++ ends_there)) (Ok (new, rest)) rest
      (sound_says n k.Name (spelling name.name) name.line fits)
      (reaches_unless w (es ++ ends_there) (nat_lt NESTING_LIMIT (n + 1)) (bind (exprs_by factor most (n + 1) a)
      further)
      (Ok (new, rest)) rest (deep_form (n + 1) k.LeftParenthesis opened)
      (λ few. sound_says (n + 1) k.LeftParenthesis nothing opened (fits_of (n + 1) few))
      (λ few. reaches_bind (exprs_by factor most (n + 1) a) further es ends_there arguments (Ok (new, rest)) rest
      (reaches_exprs (n + 1) a (fits_of (n + 1) few) arguments (tokens_in ends_there ++ rest) short tt)
      (reaches_right_parenthesis (n + 1) (fits_of (n + 1) few) (λ closed. tree.function_call name opened arguments
      closed)
      closed rest)))
  reaches_factor_at n a fits (tree.set_value line) rest less end =
      reaches_shown SETS (shows n k.LeftBracket line SETS) [] (Ok (tree.set_value line, rest)) rest refl
  reaches_factor_at n a fits (tree.nil line) rest less end =
      reaches_shown POINTERS (shows n k.Nil line POINTERS) [] (Ok (tree.nil line, rest)) rest refl

-- the readers as they are
pub reaches_factor : (most n a : ℕ) (f : Factor) (rest : List Token) → n ≤ NESTING_LIMIT
    → length (factor_words n a f) < most → EndsFactor (head rest).kind
    → Reaches (factor most n a) (factor_words n a f) (Ok (f, rest)) rest
unfolding factor
reaches_factor zero n a f rest fits less end = absurd (omega (arith, less))
reaches_factor (suc most) n a f rest fits less end =
    reaches_factor_at (factor most) most (reaches_factor most) n a fits f rest less end

pub reaches_an_expr : (most n a : ℕ) (e : Expr) (rest : List Token) → n ≤ NESTING_LIMIT
    → length (expr_words n a e) < most → EndsExpr (head rest).kind
    → Reaches (expr most n a) (expr_words n a e) (Ok (e, rest)) rest
unfolding expr
reaches_an_expr most n a e rest fits less end =
    reaches_expr (factor most) most (reaches_factor most) n a fits e rest less end

pub reaches_some_exprs : (most n a : ℕ) (es : Exprs) (rest : List Token) → n ≤ NESTING_LIMIT
    → length (exprs_words n a es) < most → EndsExprs (head rest).kind
    → Reaches (exprs most n a) (exprs_words n a es) (Ok (es, rest)) rest
unfolding exprs
reaches_some_exprs most n a es rest fits less end =
    reaches_exprs (factor most) most (reaches_factor most) n a fits es rest less end

pub reaches_a_variable : (most n a : ℕ) (v : Variable) (rest : List Token) → n ≤ NESTING_LIMIT
    → length (selector_words n a v) < most → EndsFactor (head rest).kind
    → Reaches (variable most n a (name_of v)) (selector_words n a v) (Ok (v, rest)) rest
unfolding variable
reaches_a_variable most n a v rest fits less end =
    reaches_variable (factor most) most (reaches_factor most) n a fits v rest less end
