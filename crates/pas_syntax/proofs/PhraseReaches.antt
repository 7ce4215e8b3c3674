-- The readers of the parts of statements take the words of each tree, to the first with a fault.
use Rattle.std.proofs.Common.{◌≡◌, refl, sym, subst, ℕ, suc, ◌+◌, ◌-◌, ◌≤◌, ◌<◌, arith, Bool}
use Rattle.std.proofs.Common.{false, List, [], ◌∷◌, ◌++◌, length, append_assoc, Ok, Option, Some, None}
use Rattle.std.specs.Prelude.{nat_lt}
use Rattle.std.specs.List.{flat_map}
use Rattle.std.proofs.lemmas.List.{append-nil, length-append}
use Rattle.pas_tokens.specs.declared.kinds.Kind.{Kind}
use Rattle.pas_tokens.specs.declared.kinds.Kind.TheVariants as k
use Rattle.pas_tokens.specs.Cutting.{Payload, nothing}
use Rattle.pas_tokens.specs.Tokens.{Token}
use Rattle.pas_syntax.specs.declared.limits.TheConstants.{NESTING_LIMIT}
use Rattle.pas_syntax.specs.declared.operators.Way.{Way}
use Rattle.pas_syntax.specs.declared.operators.Way.TheVariants as way
use Rattle.pas_syntax.specs.Tree as tree
use Rattle.pas_syntax.specs.Tree.{Ident, Behind, Lined, Separated, Expr, Variable, Argument, Arguments}
use Rattle.pas_syntax.specs.Words.{Word, at, name_at, words_if, separated, width_words, argument_words}
use Rattle.pas_syntax.specs.Words.{arguments_words}
use Rattle.pas_syntax.specs.Words.{expr_words, exprs_words, way_kind}
use Rattle.pas_syntax.specs.Parse.{tokens_in}
use Rattle.pas_syntax.specs.inner.Prog.{Prog, done, look, bind, Out, head, ends, turns}
use Rattle.pas_syntax.specs.inner.Readers.{ident, expr, variable}
use Rattle.pas_syntax.specs.inner.TypeReaders.{pushed, single, behind_item, items_by}
use Rattle.pas_syntax.specs.inner.Marks.{mark}
use Rattle.pas_syntax.specs.inner.StatementReaders.{Guard, ForHead, way_at, guard_by, for_head_by, width_at}
use Rattle.pas_syntax.specs.inner.StatementReaders.{argument_by}
use Rattle.pas_syntax.specs.inner.StatementReaders.{arguments_by, assignment_by, behind_statement_name}
use Rattle.pas_syntax.proofs.Judged.{Reaches, reaches_bind, reaches_last, reaches_skip}
use Rattle.pas_syntax.proofs.ReachLemmas.{reaches_more, reaches_end, reaches_unless, reaches_look}
use Rattle.pas_syntax.proofs.WordLemmas.{sound_says, deep_form, fits_of}
use Rattle.pas_syntax.proofs.ItemLemmas.{behind_words}
use Rattle.pas_syntax.proofs.ExprReaches.{EndsExpr, name_of, selector_words}
use Rattle.pas_syntax.proofs.FactorReaches.{reaches_an_expr, reaches_a_variable}
use Rattle.pas_syntax.proofs.MarkLemmas.{reaches_mark, reaches_ident}

-- what may stand behind a statement, where an `else` may if none in it would take that
abbrev pub Follows : Bool → Kind → Type 0
Follows takes k.Semicolon = Unit {0}
Follows takes k.End = Unit {0}
Follows takes k.Until = Unit {0}
Follows takes k.Else = takes ≡ false
Follows takes kind = ⊥

pub expr_follows : (takes : Bool) (kind : Kind) → Follows takes kind → EndsExpr kind
expr_follows takes k.Semicolon e = tt
expr_follows takes k.End e = tt
expr_follows takes k.Until e = tt
expr_follows takes k.Else e = tt
expr_follows takes kind e = absurd e

-- what may stand behind an argument
abbrev EndsArgument : Kind → Type 0
EndsArgument k.Comma = Unit {0}
EndsArgument k.RightParenthesis = Unit {0}
EndsArgument kind = ⊥

argument_ends : (kind : Kind) → EndsArgument kind → EndsExpr kind
argument_ends k.Comma e = tt
argument_ends k.RightParenthesis e = tt
argument_ends kind e = absurd e

way_ends : (item : Way) → EndsExpr (way_kind item)
way_ends way.Up = tt
way_ends way.Down = tt

-- what a variable that is not whole goes on with, and what stands behind the variable of an assignment
abbrev Selects : Kind → Type 0
Selects k.LeftBracket = Unit {0}
Selects k.Dot = Unit {0}
Selects k.Caret = Unit {0}
Selects k.Becomes = Unit {0}
Selects kind = ⊥

selects_there : (n : ℕ) (v : Variable) (vs : List Word) (rest : List Token)
    → Selects (head (tokens_in vs ++ rest)).kind
    → Selects (head (tokens_in (selector_words n 0 v ++ vs) ++ rest)).kind
selects_there n (tree.whole name) vs rest e = e
selects_there n (tree.indexed v opened indexes closed) vs rest e =
    let w = at (n + 1) k.LeftBracket opened in
    let ws = exprs_words (n + 1) 0 indexes ++ at (n + 1) k.RightBracket closed ∷ [] in
    subst (λ all. Selects (head (tokens_in all ++ rest)).kind) (sym (append_assoc (selector_words n 0 v) (w ∷ ws) vs))
    (selects_there n v (w ∷ (ws ++ vs)) rest tt)
selects_there n (tree.field_of v line name) vs rest e =
    let w = at n k.Dot line in
    let ws = name_at n name ∷ [] in
    subst (λ all. Selects (head (tokens_in all ++ rest)).kind) (sym (append_assoc (selector_words n 0 v) (w ∷ ws) vs))
    (selects_there n v (w ∷ (ws ++ vs)) rest tt)
selects_there n (tree.buffer_of v line) vs rest e =
    let w = at n k.Caret line in
    subst (λ all. Selects (head (tokens_in all ++ rest)).kind) (sym (append_assoc (selector_words n 0 v) (w ∷ []) vs))
    (selects_there n v (w ∷ vs) rest tt)

-- items of which each has so few words
module _ {A : Type 0} (n : ℕ) (words : A → List Word) where
  pub few_items : (items : List (Behind A)) → length items ≤ length (flat_map (behind_words n words) items)
  few_items [] = omega arith
  few_items (next ∷ items) =
      let ws = flat_map (behind_words n words) items in
      let count : length (behind_words n words next ++ ws) ≡ length (behind_words n words next) + length ws
      = length-append (behind_words n words next) ws in
      omega (arith, few_items items, count)

  module _ (fits : n ≤ NESTING_LIMIT) (item : Prog A) (most : ℕ) (Ends : Kind → Type 0) (comma : Ends k.Comma)
      (h : (x : A) (rest : List Token) → length (words x) < most → Ends (head rest).kind
      → Reaches item (words x) (Ok (x, rest)) rest) where
    items_end : (items : List (Behind A)) (rest : List Token) → Ends (head rest).kind
        → Ends (head (tokens_in (flat_map (behind_words n words) items) ++ rest)).kind
    items_end [] rest end = end
    items_end (next ∷ items) rest end = comma

    pub reaches_items_on : (items : List (Behind A)) (found : Separated A) (left_turns : ℕ) (r : Out (Separated A))
        (rest : List Token) → length (flat_map (behind_words n words) items) < most → Ends (head rest).kind
        → Reaches (turns (behind_item item) left_turns
        (record { first = found.first; more = found.more ++ items })) [] r rest
        → Reaches (turns (behind_item item) (left_turns + length items) found) (flat_map (behind_words n words) items)
        r rest
    reaches_items_on [] found left_turns r rest less end then =
        let all : left_turns ≡ left_turns + 0 = omega arith in
        let same : found.more ++ [] ≡ found.more = append-nil found.more in
        subst (λ m. Reaches (turns (behind_item item) m found) [] r rest) all
        (subst (λ xs. Reaches (turns (behind_item item) left_turns (record { first = found.first; more = xs })) [] r
        rest) same then)
    reaches_items_on (next ∷ items) found left_turns r rest less end then =
        let vs = flat_map (behind_words n words) items in
        let new = pushed found next.line next.item in
        let make = λ (x : A). pushed found next.line x in
        let all : suc (left_turns + length items) ≡ left_turns + length (next ∷ items) = omega arith in
        let same = append_assoc found.more (next ∷ []) items in
        let count : length (behind_words n words next ++ vs) ≡ length (behind_words n words next) + length vs
        = length-append (behind_words n words next) vs in
        let short : length (words next.item) < most = omega (arith, less, count) in
        let shorter : length vs < most = omega (arith, less, count) in
        subst (λ m. Reaches (turns (behind_item item) m found) (behind_words n words next ++ vs) r rest) all
        (reaches_more (behind_item item) (left_turns + length items) found (at n k.Comma next.line) new
        (words next.item) vs (bind item (λ x. done (make x))) r rest refl
        (sound_says n k.Comma nothing next.line fits)
        (reaches_last item (λ x. done (make x)) (words next.item) next.item (tokens_in vs ++ rest)
        (h next.item (tokens_in vs ++ rest) short (items_end items rest end)))
        (reaches_items_on items new left_turns r rest shorter end
        (subst (λ xs. Reaches (turns (behind_item item) left_turns (record { first = found.first; more = xs })) [] r
        rest) (sym same) then)))

    pub reaches_items_within : (items : Separated A) (rest : List Token)
        → length (separated n k.Comma words items) < most → Ends (head rest).kind
        → behind_item item items (head rest).kind (head rest).payload (head rest).line ≡ ends
        → Reaches (items_by item most) (separated n k.Comma words items) (Ok (items, rest)) rest
    reaches_items_within items rest less end last =
        let us = words items.first in
        let vs = flat_map (behind_words n words) items.more in
        let left_turns = most - suc (length items.more) in
        let count : length (us ++ vs) ≡ length us + length vs = length-append us vs in
        let few = few_items items.more in
        let all : suc left_turns + length items.more ≡ most = omega (arith, less, count, few) in
        let short : length us < most = omega (arith, less, count) in
        let shorter : length vs < most = omega (arith, less, count) in
        reaches_bind item (λ first. turns (behind_item item) most (single first)) us vs items.first
        (Ok (items, rest)) rest (h items.first (tokens_in vs ++ rest) short (items_end items.more rest end))
        (subst (λ m. Reaches (turns (behind_item item) m (single items.first)) vs (Ok (items, rest)) rest) all
        (reaches_items_on items.more (single items.first) (suc left_turns) (Ok (items, rest)) rest shorter end
        (reaches_end (behind_item item) left_turns items rest last)))

module _ (most n : ℕ) (fits : n ≤ NESTING_LIMIT) where
  -- what stands before a statement
  pub reaches_guard : (word : Kind) (g : Guard) (rest : List Token) → EndsExpr word
      → length (expr_words n 0 g.value) < most
      → Reaches (guard_by most n word g.line) (expr_words n 0 g.value ++ at n word g.behind ∷ []) (Ok (g, rest)) rest
  reaches_guard word g rest end less =
      let w = at n word g.behind in
      let make : Expr → ℕ → Guard = λ e behind. record { line = g.line; value = e; behind = behind } in
      reaches_bind (expr most n 0) (λ e. bind (mark word) (λ behind. done (make e behind))) (expr_words n 0 g.value)
      (w ∷ []) g.value (Ok (g, rest)) rest (reaches_an_expr most n 0 g.value (w.token ∷ rest) fits less end)
      (reaches_last (mark word) (λ behind. done (make g.value behind)) (w ∷ []) g.behind rest
      (reaches_mark n fits word g.behind rest))

  reaches_way_of : (item : Way) (line : ℕ) (rest : List Token)
      → Reaches (look way_at) (at n (way_kind item) line ∷ []) (Ok (record { item = item; line = line }, rest)) rest
  reaches_way_of way.Up line rest =
      let found : Lined Way = record { item = way.Up; line = line } in
      reaches_skip (done found) (at n k.To line) [] (Ok (found, rest)) rest (sound_says n k.To nothing line fits) refl
  reaches_way_of way.Down line rest =
      let found : Lined Way = record { item = way.Down; line = line } in
      reaches_skip (done found) (at n k.Downto line) [] (Ok (found, rest)) rest (sound_says n k.Downto nothing line
      fits) refl

  pub reaches_for_head : (f : ForHead) (rest : List Token) → length (expr_words n 0 f.first) < most
      → length (expr_words n 0 f.last) < most
      → Reaches (for_head_by most n f.line) (name_at n f.name ∷ (at n k.Becomes f.becomes ∷ (expr_words n 0 f.first
      ++ at n (way_kind f.toward.item) f.toward.line ∷ (expr_words n 0 f.last ++ at n k.Do f.do_line ∷ []))))
      (Ok (f, rest)) rest
  reaches_for_head f rest less_first less_last =
      let made : Ident → ℕ → Expr → Lined Way → Expr → ℕ → ForHead = λ name becomes first toward last do_line.
      record {
        line = f.line;
        name = name;
        becomes = becomes;
        first = first;
        toward = toward;
        last = last;
        do_line = do_line;
      } in
      let behind_last = λ (name : Ident) (becomes : ℕ) (first : Expr) (toward : Lined Way) (last : Expr).
      bind (mark k.Do) (λ do_line. done (made name becomes first toward last do_line)) in
      let behind_way = λ (name : Ident) (becomes : ℕ) (first : Expr) (toward : Lined Way).
      bind (expr most n 0) (behind_last name becomes first toward) in
      let behind_first = λ (name : Ident) (becomes : ℕ) (first : Expr).
      bind (look way_at) (behind_way name becomes first) in
      let behind_becomes = λ (name : Ident) (becomes : ℕ). bind (expr most n 0) (behind_first name becomes) in
      let behind_name = λ (name : Ident). bind (mark k.Becomes) (behind_becomes name) in
      let d = at n k.Do f.do_line ∷ [] in
      let c = expr_words n 0 f.last ++ d in
      let w = at n (way_kind f.toward.item) f.toward.line in
      let b = expr_words n 0 f.first ++ w ∷ c in
      let becomes_word = at n k.Becomes f.becomes in
      let r = Ok (f, rest) in
      reaches_bind ident behind_name (name_at n f.name ∷ []) (becomes_word ∷ b) f.name r rest
      (reaches_ident n fits f.name (tokens_in (becomes_word ∷ b) ++ rest))
      (reaches_bind (mark k.Becomes) (behind_becomes f.name) (becomes_word ∷ []) b f.becomes r rest
      (reaches_mark n fits k.Becomes f.becomes (tokens_in b ++ rest))
      (reaches_bind (expr most n 0) (behind_first f.name f.becomes) (expr_words n 0 f.first) (w ∷ c) f.first r rest
      (reaches_an_expr most n 0 f.first (tokens_in (w ∷ c) ++ rest) fits less_first (way_ends f.toward.item))
      (reaches_bind (look way_at) (behind_way f.name f.becomes f.first) (w ∷ []) c f.toward r rest
      (reaches_way_of f.toward.item f.toward.line (tokens_in c ++ rest))
      (reaches_bind (expr most n 0) (behind_last f.name f.becomes f.first f.toward) (expr_words n 0 f.last) d f.last r
      rest
      (reaches_an_expr most n 0 f.last (tokens_in d ++ rest) fits less_last tt)
      (reaches_last (mark k.Do) (λ do_line. done (made f.name f.becomes f.first f.toward f.last do_line)) d f.do_line
      rest
      (reaches_mark n fits k.Do f.do_line rest))))))

  -- arguments
  no_width : (kind : Kind) (payload : Payload) (line : ℕ) → EndsArgument kind
      → width_at most n kind payload line ≡ done None
  no_width k.Comma payload line e = refl
  no_width k.RightParenthesis payload line e = refl
  no_width kind payload line e = absurd e

  reaches_width : (width : Option (Behind Expr)) (rest : List Token)
      → length (words_if (width_words n) width) < suc most → EndsArgument (head rest).kind
      → Reaches (look (width_at most n)) (words_if (width_words n) width) (Ok (width, rest)) rest
  reaches_width None rest less end =
      reaches_look (width_at most n) (done None) [] (Ok (None, rest)) rest
      (no_width (head rest).kind (head rest).payload (head rest).line end) refl
  reaches_width (Some width) rest less end =
      let ws = expr_words n 0 width.item in
      let make : Expr → Option (Behind Expr) = λ e. Some (record { line = width.line; item = e }) in
      let short : length ws < most = omega (arith, less) in
      reaches_skip (bind (expr most n 0) (λ e. done (make e))) (at n k.Colon width.line) ws (Ok (Some width, rest)) rest
      (sound_says n k.Colon nothing width.line fits)
      (reaches_last (expr most n 0) (λ e. done (make e)) ws width.item rest
      (reaches_an_expr most n 0 width.item rest fits short (argument_ends (head rest).kind end)))

  width_ends : (width : Option (Behind Expr)) (rest : List Token) → EndsArgument (head rest).kind
      → EndsExpr (head (tokens_in (words_if (width_words n) width) ++ rest)).kind
  width_ends None rest end = argument_ends (head rest).kind end
  width_ends (Some width) rest end = tt

  reaches_argument : (argument : Argument) (rest : List Token) → length (argument_words n argument) < most
      → EndsArgument (head rest).kind
      → Reaches (argument_by most n) (argument_words n argument) (Ok (argument, rest)) rest
  reaches_argument argument rest less end =
      let us = expr_words n 0 argument.value in
      let vs = words_if (width_words n) argument.width in
      let count : length (us ++ vs) ≡ length us + length vs = length-append us vs in
      let short : length us < most = omega (arith, less, count) in
      let shorter : length vs < suc most = omega (arith, less, count) in
      let make : Expr → Option (Behind Expr) → Argument = λ e width. record { value = e; width = width } in
      reaches_bind (expr most n 0) (λ e. bind (look (width_at most n)) (λ width. done (make e width))) us vs
      argument.value (Ok (argument, rest)) rest
      (reaches_an_expr most n 0 argument.value (tokens_in vs ++ rest) fits short (width_ends argument.width rest end))
      (reaches_last (look (width_at most n)) (λ width. done (make argument.value width)) vs argument.width rest
      (reaches_width argument.width rest shorter end))

  -- an assignment behind the name of its variable
  reaches_assignment : (v : Variable) (line : ℕ) (e : Expr) (rest : List Token)
      → length (selector_words n 0 v) < most → length (expr_words n 0 e) < most → EndsExpr (head rest).kind
      → Reaches (assignment_by most n (name_of v)) (selector_words n 0 v ++ at n k.Becomes line ∷ expr_words n 0 e)
      (Ok (tree.assignment v line e, rest)) rest
  reaches_assignment v line e rest less_v less_e end =
      let w = at n k.Becomes line in
      let es = expr_words n 0 e in
      let made = λ (v : Variable) (line : ℕ) (e : Expr). tree.assignment v line e in
      let behind_becomes = λ (v : Variable) (line : ℕ). bind (expr most n 0) (λ e. done (made v line e)) in
      let r = Ok (made v line e, rest) in
      reaches_bind (variable most n 0 (name_of v)) (λ v. bind (mark k.Becomes) (behind_becomes v))
      (selector_words n 0 v) (w ∷ es) v r rest
      (reaches_a_variable most n 0 v (tokens_in (w ∷ es) ++ rest) fits less_v tt)
      (reaches_bind (mark k.Becomes) (behind_becomes v) (w ∷ []) es line r rest
      (reaches_mark n fits k.Becomes line (tokens_in es ++ rest))
      (reaches_last (expr most n 0) (λ e. done (made v line e)) es e rest
      (reaches_an_expr most n 0 e rest fits less_e end)))

module _ (most n : ℕ) (fits : n ≤ NESTING_LIMIT) where
  reaches_arguments : (a : Arguments) (rest : List Token) → length (arguments_words n a) < suc most
      → Reaches (arguments_by most n a.opened) (arguments_words n a) (Ok (a, rest)) rest
  reaches_arguments a rest less =
      let items = separated (n + 1) k.Comma (argument_words (n + 1)) a.items in
      let last = at (n + 1) k.RightParenthesis a.closed ∷ [] in
      let count : length (items ++ last) ≡ length items + length last = length-append items last in
      let short : length items < most = omega (arith, less, count) in
      let make : Separated Argument → ℕ → Arguments = λ items closed.
      record { opened = a.opened; items = items; closed = closed } in
      let further = λ (items : Separated Argument). bind (mark k.RightParenthesis)
      (λ closed. done (make items closed)) in
      reaches_unless (at (n + 1) k.LeftParenthesis a.opened) (items ++ last) (nat_lt NESTING_LIMIT (n + 1))
      (bind (items_by (argument_by most (n + 1)) most) further) (Ok (a, rest)) rest
      (deep_form (n + 1) k.LeftParenthesis a.opened)
      (λ few. sound_says (n + 1) k.LeftParenthesis nothing a.opened (fits_of (n + 1) few))
      (λ few. let inner = fits_of (n + 1) few in
      reaches_bind (items_by (argument_by most (n + 1)) most) further items last a.items (Ok (a, rest)) rest
      (reaches_items_within (n + 1) (argument_words (n + 1)) inner (argument_by most (n + 1)) most EndsArgument tt
      (reaches_argument most (n + 1) inner) a.items (tokens_in last ++ rest) short tt refl)
      (reaches_last (mark k.RightParenthesis) (λ closed. done (make a.items closed)) last a.closed rest
      (reaches_mark (n + 1) inner k.RightParenthesis a.closed rest)))

  -- what stands behind the name that a statement begins with
  assigned : (name : Ident) (kind : Kind) (payload : Payload) (line : ℕ) → Selects kind
      → behind_statement_name most n name kind payload line ≡ assignment_by most n name
  assigned name k.LeftBracket payload line e = refl
  assigned name k.Dot payload line e = refl
  assigned name k.Caret payload line e = refl
  assigned name k.Becomes payload line e = refl
  assigned name kind payload line e = absurd e

  called : (takes : Bool) (name : Ident) (kind : Kind) (payload : Payload) (line : ℕ) → Follows takes kind
      → behind_statement_name most n name kind payload line ≡ done (tree.procedure_call name None)
  called takes name k.Semicolon payload line e = refl
  called takes name k.End payload line e = refl
  called takes name k.Until payload line e = refl
  called takes name k.Else payload line e = refl
  called takes name kind payload line e = absurd e

  pub reaches_assigned : (v : Variable) (line : ℕ) (e : Expr) (rest : List Token)
      → length (selector_words n 0 v) < most → length (expr_words n 0 e) < most → EndsExpr (head rest).kind
      → Reaches (look (behind_statement_name most n (name_of v)))
      (selector_words n 0 v ++ at n k.Becomes line ∷ expr_words n 0 e) (Ok (tree.assignment v line e, rest)) rest
  reaches_assigned v line e rest less_v less_e end =
      let ws = at n k.Becomes line ∷ expr_words n 0 e in
      let first = head (tokens_in (selector_words n 0 v ++ ws) ++ rest) in
      reaches_look (behind_statement_name most n (name_of v)) (assignment_by most n (name_of v))
      (selector_words n 0 v ++ ws) (Ok (tree.assignment v line e, rest)) rest
      (assigned (name_of v) first.kind first.payload first.line (selects_there n v ws rest tt))
      (reaches_assignment most n fits v line e rest less_v less_e end)

  pub reaches_called : (takes : Bool) (name : Ident) (arguments : Option Arguments) (rest : List Token)
      → length (words_if (arguments_words n) arguments) < suc most → Follows takes (head rest).kind
      → Reaches (look (behind_statement_name most n name)) (words_if (arguments_words n) arguments)
      (Ok (tree.procedure_call name arguments, rest)) rest
  reaches_called takes name None rest less end =
      reaches_look (behind_statement_name most n name) (done (tree.procedure_call name None)) []
      (Ok (tree.procedure_call name None, rest)) rest
      (called takes name (head rest).kind (head rest).payload (head rest).line end) refl
  reaches_called takes name (Some a) rest less end =
      let make = λ (a : Arguments). tree.procedure_call name (Some a) in
      reaches_look (behind_statement_name most n name) (bind (arguments_by most n a.opened) (λ a. done (make a)))
      (arguments_words n a) (Ok (make a, rest)) rest refl
      (reaches_last (arguments_by most n a.opened) (λ a. done (make a)) (arguments_words n a) a rest
      (reaches_arguments a rest less))
