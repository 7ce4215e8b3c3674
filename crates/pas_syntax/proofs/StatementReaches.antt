-- Each reader of a statement takes the words of each tree, to the first with a fault.
use Rattle.std.proofs.Common.{◌≡◌, refl, sym, ap, subst, ℕ, zero, suc, ◌+◌, ◌-◌, ◌≤◌, ◌<◌, arith, Bool, true}
use Rattle.std.proofs.Common.{false, List, [], ◌∷◌, ◌++◌, length, append_assoc, Ok}
use Rattle.std.specs.Prelude.{nat_lt}
use Rattle.std.proofs.lemmas.List.{append-nil, length-append}
use Rattle.wb_base.specs.declared.faults.TheConstants.{WITH_STATEMENTS}
use Rattle.pas_tokens.specs.declared.kinds.Kind.{Kind}
use Rattle.pas_tokens.specs.declared.kinds.Kind.TheVariants as k
use Rattle.pas_tokens.specs.Cutting.{Payload, nothing, value, spelling}
use Rattle.pas_tokens.specs.Tokens.{Token}
use Rattle.pas_syntax.specs.declared.limits.TheConstants.{NESTING_LIMIT}
use Rattle.pas_syntax.specs.Tree as tree
use Rattle.pas_syntax.specs.Tree.{Numeral, Expr, Plain, Statement, Statements, Compound}
use Rattle.pas_syntax.specs.Words.{Word, at, shows, name_at, number_at, words_if, arguments_words, expr_words}
use Rattle.pas_syntax.specs.Words.{variable_words, plain_words, statement_words, statements_words, elements_words}
use Rattle.pas_syntax.specs.Words.{others_words, way_kind}
use Rattle.pas_syntax.specs.Parse.{tokens_in}
use Rattle.pas_syntax.specs.Nearest.{takes_else, statement_takes_else, IsNearest, IsNearestStatement, AllNearest}
use Rattle.pas_syntax.specs.inner.Prog.{Prog, done, look, skip, bind, Out, run, head, ends, turns}
use Rattle.pas_syntax.specs.inner.Readers.{in_form, expr}
use Rattle.pas_syntax.specs.inner.Marks.{mark}
use Rattle.pas_syntax.specs.inner.StatementReaders.{Guard, ForHead, Arms, numeral, guard_by, for_head_by}
use Rattle.pas_syntax.specs.inner.StatementReaders.{behind_statement_name, behind_statement, statements_by}
use Rattle.pas_syntax.specs.inner.StatementReaders.{compound_by}
use Rattle.pas_syntax.specs.inner.StatementReaders.{else_at, if_by, while_by, repeat_by, for_by, arms_by, case_by}
use Rattle.pas_syntax.specs.inner.StatementReaders.{plain_at, labelled_by, statement_at, statement}
use Rattle.pas_syntax.specs.inner.StatementReaders.{compound}
use Rattle.pas_syntax.proofs.Judged.{Reaches, reaches_bind, reaches_last, reaches_skip, reaches_shown}
use Rattle.pas_syntax.proofs.ReachLemmas.{reaches_more, reaches_end, reaches_unless, reaches_look}
use Rattle.pas_syntax.proofs.WordLemmas.{sound_says, deep_form, fits_of}
use Rattle.pas_syntax.proofs.ExprReaches.{EndsExpr, name_of, selector_words, split_variable}
use Rattle.pas_syntax.proofs.FactorReaches.{reaches_an_expr}
use Rattle.pas_syntax.proofs.MarkLemmas.{reaches_mark, reaches_numeral}
use Rattle.pas_syntax.proofs.PhraseReads.{for_words, behind_for_head}
use Rattle.pas_syntax.proofs.StatementReads.{compound_words_at}
use Rattle.pas_syntax.proofs.PhraseReaches.{Follows, expr_follows, reaches_guard, reaches_for_head, reaches_assigned}
use Rattle.pas_syntax.proofs.PhraseReaches.{reaches_called}
use Rattle.pas_syntax.proofs.CaseReaches.{reaches_arms}

-- what may stand behind one of some statements, and behind them all
abbrev EndsOne : Kind → Type 0
EndsOne k.Semicolon = Unit {0}
EndsOne k.End = Unit {0}
EndsOne k.Until = Unit {0}
EndsOne kind = ⊥

abbrev EndsAll : Kind → Type 0
EndsAll k.End = Unit {0}
EndsAll k.Until = Unit {0}
EndsAll kind = ⊥

one_follows : (takes : Bool) (kind : Kind) → EndsOne kind → Follows takes kind
one_follows takes k.Semicolon e = tt
one_follows takes k.End e = tt
one_follows takes k.Until e = tt
one_follows takes kind e = absurd e

all_ends : (kind : Kind) → EndsAll kind → EndsOne kind
all_ends k.End e = tt
all_ends k.Until e = tt
all_ends kind e = absurd e

-- behind an `if` with no `else` stands none
no_else : (kind : Kind) → Follows true kind → EndsOne kind
no_else k.Semicolon e = tt
no_else k.End e = tt
no_else k.Until e = tt
no_else k.Else e = cc
no_else kind e = absurd e

-- what does not begin a label
abbrev NoNumber : Kind → Type 0
NoNumber k.Number = ⊥
NoNumber kind = Unit {0}

number_follows_not : (takes : Bool) (kind : Kind) → Follows takes kind → NoNumber kind
number_follows_not takes k.Semicolon e = tt
number_follows_not takes k.End e = tt
number_follows_not takes k.Until e = tt
number_follows_not takes k.Else e = tt
number_follows_not takes kind e = absurd e

plain_starts : (n : ℕ) (s : Plain) (rest : List Token) → Follows (takes_else s) (head rest).kind
    → NoNumber (head (tokens_in (plain_words n s) ++ rest)).kind
plain_starts n tree.empty rest e = number_follows_not false (head rest).kind e
plain_starts n (tree.assignment v line assigned) rest e =
    subst (λ ws. NoNumber (head (tokens_in (ws ++ at n k.Becomes line ∷ expr_words n 0 assigned) ++ rest)).kind)
    (sym (split_variable n 0 v)) tt
plain_starts n (tree.procedure_call name arguments) rest e = tt
plain_starts n (tree.compound begin list end) rest e = tt
plain_starts n (tree.if_then line condition then_line s) rest e = tt
plain_starts n (tree.if_else line condition then_line s else_line t) rest e = tt
plain_starts n (tree.case line selector of_line elements end_of end) rest e = tt
plain_starts n (tree.while line condition do_line s) rest e = tt
plain_starts n (tree.repeat line list until condition) rest e = tt
plain_starts n (tree.for line name becomes first toward last do_line s) rest e = tt
plain_starts n (tree.goto line label) rest e = tt
plain_starts n (tree.with_statement line) rest e = tt

-- how many turns the loop takes to statements
abbrev turns_of_statements : Statements → ℕ
turns_of_statements (tree.first_statement s) = 0
turns_of_statements (tree.more_statements list line s) = turns_of_statements list + 1

few_turns : (n : ℕ) (list : Statements) → turns_of_statements list ≤ length (statements_words n list)
few_turns n (tree.first_statement s) = omega arith
few_turns n (tree.more_statements list line s) =
    let us = statements_words n list in
    let ws = at n k.Semicolon line ∷ statement_words n s in
    let count : length (us ++ ws) ≡ length us + length ws = length-append us ws in
    omega (arith, few_turns n list, count)

module _ (statement : ℕ → Prog Statement) (most : ℕ)
    (h : (n : ℕ) (s : Statement) (rest : List Token) → n ≤ NESTING_LIMIT → IsNearestStatement s
    → length (statement_words n s) < most → Follows (statement_takes_else s) (head rest).kind
    → Reaches (statement n) (statement_words n s) (Ok (s, rest)) rest) where
  -- statements, behind which the loop goes on with the turns that are left
  module _ (n : ℕ) (fits : n ≤ NESTING_LIMIT) where
    reaches_statements_on : (list : Statements) (left_turns : ℕ) (vs : List Word) (r : Out Statements)
        (rest : List Token) → AllNearest list → most ≡ left_turns + turns_of_statements list
        → length (statements_words n list) < most → EndsOne (head (tokens_in vs ++ rest)).kind
        → Reaches (turns (behind_statement statement most n) left_turns list) vs r rest
        → Reaches (statements_by statement most n) (statements_words n list ++ vs) r rest
    reaches_statements_on (tree.first_statement s) left_turns vs r rest nearest is less end go_on =
        let same : left_turns ≡ most = omega (arith, is) in
        let behind = tokens_in vs ++ rest in
        reaches_bind (statement n)
        (λ first. turns (behind_statement statement most n) most (tree.first_statement first)) (statement_words n s) vs
        s r rest
        (h n s behind fits nearest less (one_follows (statement_takes_else s) (head behind).kind end))
        (subst (λ m. Reaches (turns (behind_statement statement most n) m (tree.first_statement s)) vs r rest) same
        go_on)
    reaches_statements_on (tree.more_statements list line s) left_turns vs r rest nearest is less end go_on =
        let w = at n k.Semicolon line in
        let us = statements_words n list in
        let ws = statement_words n s in
        let count : length (us ++ w ∷ ws) ≡ length us + length (w ∷ ws) = length-append us (w ∷ ws) in
        let more_turns : most ≡ suc left_turns + turns_of_statements list = omega (arith, is) in
        let shorter : length us < most = omega (arith, less, count) in
        let short : length ws < most = omega (arith, less, count) in
        let make = λ (s : Statement). tree.more_statements list line s in
        let behind = tokens_in vs ++ rest in
        subst (λ all. Reaches (statements_by statement most n) all r rest) (sym (append_assoc us (w ∷ ws) vs))
        (reaches_statements_on list (suc left_turns) (w ∷ (ws ++ vs)) r rest nearest.0 more_turns shorter tt
        (reaches_more (behind_statement statement most n) left_turns list w (make s) ws vs
        (bind (statement n) (λ s. done (make s))) r rest refl (sound_says n k.Semicolon nothing line fits)
        (reaches_last (statement n) (λ s. done (make s)) ws s behind
        (h n s behind fits nearest.1 short (one_follows (statement_takes_else s) (head behind).kind end)))
        go_on))

    no_statement : (list : Statements) (kind : Kind) (payload : Payload) (line : ℕ) → EndsAll kind
        → behind_statement statement most n list kind payload line ≡ ends
    no_statement list k.End payload line e = refl
    no_statement list k.Until payload line e = refl
    no_statement list kind payload line e = absurd e

    reaches_statements : (list : Statements) (rest : List Token) → AllNearest list
        → length (statements_words n list) < most → EndsAll (head rest).kind
        → Reaches (statements_by statement most n) (statements_words n list) (Ok (list, rest)) rest
    reaches_statements list rest nearest less end =
        let left_turns = most - suc (turns_of_statements list) in
        let is : most ≡ suc left_turns + turns_of_statements list = omega (arith, less, few_turns n list) in
        subst (λ all. Reaches (statements_by statement most n) all (Ok (list, rest)) rest)
        (append-nil (statements_words n list))
        (reaches_statements_on list (suc left_turns) [] (Ok (list, rest)) rest nearest is less
        (all_ends (head rest).kind end)
        (reaches_end (behind_statement statement most n) left_turns list rest
        (no_statement list (head rest).kind (head rest).payload (head rest).line end)))

  module _ (n : ℕ) (fits : n ≤ NESTING_LIMIT) where
    -- a form that is open from its first word on
    reaches_form : {A : Type 0} (kind : Kind) (line : ℕ) (ws : List Word) (q : Prog A) (r : Out A) (rest : List Token)
        → (n + 1 ≤ NESTING_LIMIT → Reaches q ws r rest)
        → Reaches (in_form (n + 1) (skip q)) (at (n + 1) kind line ∷ ws) r rest
    reaches_form kind line ws q r rest read =
        reaches_unless (at (n + 1) kind line) ws (nat_lt NESTING_LIMIT (n + 1)) q r rest (deep_form (n + 1) kind line)
        (λ few. sound_says (n + 1) kind nothing line (fits_of (n + 1) few)) (λ few. read (fits_of (n + 1) few))

    reaches_compound : (body : Compound) (rest : List Token) → AllNearest body.list
        → length (compound_words_at n body) < suc most
        → Reaches (compound_by statement most n body.begin) (compound_words_at n body) (Ok (body, rest)) rest
    reaches_compound body rest nearest less =
        let us = statements_words (n + 1) body.list in
        let last = at (n + 1) k.End body.end ∷ [] in
        let count : length (us ++ last) ≡ length us + length last = length-append us last in
        let short : length us < most = omega (arith, less, count) in
        let make : Statements → ℕ → Compound = λ list end. record { begin = body.begin; list = list; end = end } in
        let further = λ (list : Statements). bind (mark k.End) (λ end. done (make list end)) in
        reaches_form k.Begin body.begin (us ++ last) (bind (statements_by statement most (n + 1)) further)
        (Ok (body, rest)) rest
        (λ inner. reaches_bind (statements_by statement most (n + 1)) further us last body.list (Ok (body, rest)) rest
        (reaches_statements (n + 1) inner body.list (tokens_in last ++ rest) nearest short tt)
        (reaches_last (mark k.End) (λ end. done (make body.list end)) last body.end rest
        (reaches_mark (n + 1) inner k.End body.end rest)))

    -- a statement behind a guard
    reaches_guarded : {A : Type 0} (word : Kind) (g : Guard) (vs : List Word) (further : Guard → Prog A) (r : Out A)
        (rest : List Token) → n + 1 ≤ NESTING_LIMIT → EndsExpr word → length (expr_words (n + 1) 0 g.value) < most
        → Reaches (further g) vs r rest
        → Reaches (bind (guard_by most (n + 1) word g.line) further)
        (expr_words (n + 1) 0 g.value ++ at (n + 1) word g.behind ∷ vs) r rest
    reaches_guarded word g vs further r rest inner end less go_on =
        let es = expr_words (n + 1) 0 g.value in
        let w = at (n + 1) word g.behind in
        subst (λ all. Reaches (bind (guard_by most (n + 1) word g.line) further) all r rest)
        (append_assoc es (w ∷ []) vs)
        (reaches_bind (guard_by most (n + 1) word g.line) further (es ++ w ∷ []) vs g r rest
        (reaches_guard most (n + 1) inner word g (tokens_in vs ++ rest) end less) go_on)

    no_else_part : (g : Guard) (s : Statement) (kind : Kind) (payload : Payload) (line : ℕ) → EndsOne kind
        → else_at statement most (n + 1) g s kind payload line ≡ done (tree.if_then g.line g.value g.behind s)
    no_else_part g s k.Semicolon payload line e = refl
    no_else_part g s k.End payload line e = refl
    no_else_part g s k.Until payload line e = refl
    no_else_part g s kind payload line e = absurd e

    reaches_if_then : (line : ℕ) (e : Expr) (then_line : ℕ) (s : Statement) (rest : List Token) → IsNearestStatement s
        → length (plain_words n (tree.if_then line e then_line s)) < suc most → EndsOne (head rest).kind
        → Reaches (if_by statement most n line) (plain_words n (tree.if_then line e then_line s))
        (Ok (tree.if_then line e then_line s, rest)) rest
    reaches_if_then line e then_line s rest nearest less end =
        let g : Guard = record { line = line; value = e; behind = then_line } in
        let es = expr_words (n + 1) 0 e in
        let ss = statement_words (n + 1) s in
        let w = at (n + 1) k.Then then_line in
        let count : length (es ++ w ∷ ss) ≡ length es + length (w ∷ ss) = length-append es (w ∷ ss) in
        let short : length es < most = omega (arith, less, count) in
        let shorter : length ss < most = omega (arith, less, count) in
        let behind_then = λ (g : Guard) (s : Statement). look (else_at statement most (n + 1) g s) in
        let further = λ (g : Guard). bind (statement (n + 1)) (behind_then g) in
        let r = Ok (tree.if_then line e then_line s, rest) in
        reaches_form k.If line (es ++ w ∷ ss) (bind (guard_by most (n + 1) k.Then line) further) r rest
        (λ inner. reaches_guarded k.Then g ss further r rest inner tt short
        (subst (λ r. Reaches (further g) ss r rest)
        (ap (λ q. run q rest) (no_else_part g s (head rest).kind (head rest).payload (head rest).line end))
        (reaches_last (statement (n + 1)) (behind_then g) ss s rest
        (h (n + 1) s rest inner nearest shorter (one_follows (statement_takes_else s) (head rest).kind end)))))

    reaches_if_else : (line : ℕ) (e : Expr) (then_line : ℕ) (s : Statement) (else_line : ℕ) (t : Statement)
        (rest : List Token) → IsNearest (tree.if_else line e then_line s else_line t)
        → length (plain_words n (tree.if_else line e then_line s else_line t)) < suc most
        → Follows (statement_takes_else t) (head rest).kind
        → Reaches (if_by statement most n line) (plain_words n (tree.if_else line e then_line s else_line t))
        (Ok (tree.if_else line e then_line s else_line t, rest)) rest
    reaches_if_else line e then_line s else_line t rest nearest less end =
        let g : Guard = record { line = line; value = e; behind = then_line } in
        let es = expr_words (n + 1) 0 e in
        let ss = statement_words (n + 1) s in
        let ts = statement_words (n + 1) t in
        let w = at (n + 1) k.Then then_line in
        let u = at (n + 1) k.Else else_line in
        let inside : length (ss ++ u ∷ ts) ≡ length ss + length (u ∷ ts) = length-append ss (u ∷ ts) in
        let count : length (es ++ w ∷ (ss ++ u ∷ ts)) ≡ length es + length (w ∷ (ss ++ u ∷ ts))
        = length-append es (w ∷ (ss ++ u ∷ ts)) in
        let short : length es < most = omega (arith, less, count) in
        let shorter : length ss < most = omega (arith, less, count, inside) in
        let shortest : length ts < most = omega (arith, less, count, inside) in
        let behind_then = λ (g : Guard) (s : Statement). look (else_at statement most (n + 1) g s) in
        let further = λ (g : Guard). bind (statement (n + 1)) (behind_then g) in
        let make = λ (t : Statement). tree.if_else line e then_line s else_line t in
        let r = Ok (make t, rest) in
        reaches_form k.If line (es ++ w ∷ (ss ++ u ∷ ts)) (bind (guard_by most (n + 1) k.Then line) further) r rest
        (λ inner. reaches_guarded k.Then g (ss ++ u ∷ ts) further r rest inner tt short
        (reaches_bind (statement (n + 1)) (behind_then g) ss (u ∷ ts) s r rest
        (h (n + 1) s (tokens_in (u ∷ ts) ++ rest) inner nearest.1 shorter nearest.0)
        (reaches_skip (bind (statement (n + 1)) (λ t. done (make t))) u ts r rest
        (sound_says (n + 1) k.Else nothing else_line inner)
        (reaches_last (statement (n + 1)) (λ t. done (make t)) ts t rest
        (h (n + 1) t rest inner nearest.2 shortest end)))))

    reaches_while : (line : ℕ) (e : Expr) (do_line : ℕ) (s : Statement) (rest : List Token) → IsNearestStatement s
        → length (plain_words n (tree.while line e do_line s)) < suc most
        → Follows (statement_takes_else s) (head rest).kind
        → Reaches (while_by statement most n line) (plain_words n (tree.while line e do_line s))
        (Ok (tree.while line e do_line s, rest)) rest
    reaches_while line e do_line s rest nearest less end =
        let g : Guard = record { line = line; value = e; behind = do_line } in
        let es = expr_words (n + 1) 0 e in
        let ss = statement_words (n + 1) s in
        let w = at (n + 1) k.Do do_line in
        let count : length (es ++ w ∷ ss) ≡ length es + length (w ∷ ss) = length-append es (w ∷ ss) in
        let short : length es < most = omega (arith, less, count) in
        let shorter : length ss < most = omega (arith, less, count) in
        let make = λ (g : Guard) (s : Statement). tree.while g.line g.value g.behind s in
        let further = λ (g : Guard). bind (statement (n + 1)) (λ s. done (make g s)) in
        let r = Ok (make g s, rest) in
        reaches_form k.While line (es ++ w ∷ ss) (bind (guard_by most (n + 1) k.Do line) further) r rest
        (λ inner. reaches_guarded k.Do g ss further r rest inner tt short
        (reaches_last (statement (n + 1)) (λ s. done (make g s)) ss s rest
        (h (n + 1) s rest inner nearest shorter end)))

    reaches_for : (f : ForHead) (s : Statement) (rest : List Token) → IsNearestStatement s
        → length (for_words (n + 1) f ++ statement_words (n + 1) s) < suc most
        → Follows (statement_takes_else s) (head rest).kind
        → Reaches (for_by statement most n f.line) (for_words (n + 1) f ++ statement_words (n + 1) s)
        (Ok (tree.for f.line f.name f.becomes f.first f.toward f.last f.do_line s, rest)) rest
    reaches_for f s rest nearest less end =
        let ss = statement_words (n + 1) s in
        let d = at (n + 1) k.Do f.do_line ∷ [] in
        let last = expr_words (n + 1) 0 f.last in
        let first = expr_words (n + 1) 0 f.first in
        let w = at (n + 1) (way_kind f.toward.item) f.toward.line in
        let fs = name_at (n + 1) f.name ∷ (at (n + 1) k.Becomes f.becomes ∷ (first ++ w ∷ (last ++ d))) in
        let whole : length (for_words (n + 1) f ++ ss) ≡ length (for_words (n + 1) f) + length ss
        = length-append (for_words (n + 1) f) ss in
        let front : length (first ++ w ∷ (last ++ d)) ≡ length first + length (w ∷ (last ++ d))
        = length-append first (w ∷ (last ++ d)) in
        let back : length (last ++ d) ≡ length last + length d = length-append last d in
        let less_first : length first < most = omega (arith, less, whole, front, back) in
        let less_last : length last < most = omega (arith, less, whole, front, back) in
        let shorter : length ss < most = omega (arith, less, whole, front, back) in
        let make = λ (f : ForHead) (s : Statement).
        tree.for f.line f.name f.becomes f.first f.toward f.last f.do_line s in
        let further = λ (f : ForHead). bind (statement (n + 1)) (λ s. done (make f s)) in
        let r = Ok (make f s, rest) in
        reaches_form k.For f.line (fs ++ ss) (bind (for_head_by most (n + 1) f.line) further) r rest
        (λ inner. reaches_bind (for_head_by most (n + 1) f.line) further fs ss f r rest
        (reaches_for_head most (n + 1) inner f (tokens_in ss ++ rest) less_first less_last)
        (reaches_last (statement (n + 1)) (λ s. done (make f s)) ss s rest
        (h (n + 1) s rest inner nearest shorter end)))

    reaches_repeat : (line : ℕ) (list : Statements) (until : ℕ) (e : Expr) (rest : List Token) → AllNearest list
        → length (plain_words n (tree.repeat line list until e)) < suc most → EndsExpr (head rest).kind
        → Reaches (repeat_by statement most n line) (plain_words n (tree.repeat line list until e))
        (Ok (tree.repeat line list until e, rest)) rest
    reaches_repeat line list until e rest nearest less end =
        let us = statements_words (n + 1) list in
        let es = expr_words (n + 1) 0 e in
        let w = at (n + 1) k.Until until in
        let count : length (us ++ w ∷ es) ≡ length us + length (w ∷ es) = length-append us (w ∷ es) in
        let short : length us < most = omega (arith, less, count) in
        let shorter : length es < most = omega (arith, less, count) in
        let make = λ (list : Statements) (until : ℕ) (e : Expr). tree.repeat line list until e in
        let behind_until = λ (list : Statements) (until : ℕ). bind (expr most (n + 1) 0) (λ e. done (make list until e))
        in
        let further = λ (list : Statements). bind (mark k.Until) (behind_until list) in
        let r = Ok (make list until e, rest) in
        reaches_form k.Repeat line (us ++ w ∷ es) (bind (statements_by statement most (n + 1)) further) r rest
        (λ inner. reaches_bind (statements_by statement most (n + 1)) further us (w ∷ es) list r rest
        (reaches_statements (n + 1) inner list (tokens_in (w ∷ es) ++ rest) nearest short tt)
        (reaches_bind (mark k.Until) (behind_until list) (w ∷ []) es until r rest
        (reaches_mark (n + 1) inner k.Until until (tokens_in es ++ rest))
        (reaches_last (expr most (n + 1) 0) (λ e. done (make list until e)) es e rest
        (reaches_an_expr most (n + 1) 0 e rest inner shorter end))))

    reaches_case : (g : Guard) (arms : Arms) (end : ℕ) (rest : List Token)
        → IsNearest (tree.case g.line g.value g.behind arms.elements arms.others end)
        → length (plain_words n (tree.case g.line g.value g.behind arms.elements arms.others end)) < suc most
        → Reaches (case_by statement most n g.line)
        (plain_words n (tree.case g.line g.value g.behind arms.elements arms.others end))
        (Ok (tree.case g.line g.value g.behind arms.elements arms.others end, rest)) rest
    reaches_case g arms end rest nearest less =
        let es = expr_words (n + 1) 0 g.value in
        let w = at (n + 1) k.Of g.behind in
        let us = elements_words (n + 1) arms.elements in
        let vs = others_words (n + 1) arms.others in
        let last = at (n + 1) k.End end ∷ [] in
        let whole : length (es ++ w ∷ (us ++ (vs ++ last))) ≡ length es + length (w ∷ (us ++ (vs ++ last)))
        = length-append es (w ∷ (us ++ (vs ++ last))) in
        let back : length (us ++ (vs ++ last)) ≡ length us + length (vs ++ last) = length-append us (vs ++ last) in
        let tail_count : length (vs ++ last) ≡ length vs + length last = length-append vs last in
        let both : length (us ++ vs) ≡ length us + length vs = length-append us vs in
        let short : length es < most = omega (arith, less, whole) in
        let shorter : length (us ++ vs) < most = omega (arith, less, whole, back, tail_count, both) in
        let make = λ (g : Guard) (arms : Arms) (end : ℕ). tree.case g.line g.value g.behind arms.elements
        arms.others end
        in
        let behind_arms = λ (g : Guard) (arms : Arms). bind (mark k.End) (λ end. done (make g arms end)) in
        let further = λ (g : Guard). bind (arms_by statement most (n + 1)) (behind_arms g) in
        let r = Ok (make g arms end, rest) in
        reaches_form k.Case g.line (es ++ w ∷ (us ++ (vs ++ last))) (bind (guard_by most (n + 1) k.Of g.line) further)
        r rest
        (λ inner. reaches_guarded k.Of g (us ++ (vs ++ last)) further r rest inner tt short
        (subst (λ all. Reaches (further g) all r rest) (append_assoc us vs last)
        (reaches_bind (arms_by statement most (n + 1)) (behind_arms g) (us ++ vs) last arms r rest
        (reaches_arms statement most h (n + 1) inner arms (tokens_in last ++ rest) nearest.0 nearest.1 shorter tt)
        (reaches_last (mark k.End) (λ end. done (make g arms end)) last end rest
        (reaches_mark (n + 1) inner k.End end rest)))))

    nothing_there : (takes : Bool) (kind : Kind) (payload : Payload) (line : ℕ) → Follows takes kind
        → plain_at statement most n kind payload line ≡ done tree.empty
    nothing_there takes k.Semicolon payload line e = refl
    nothing_there takes k.End payload line e = refl
    nothing_there takes k.Until payload line e = refl
    nothing_there takes k.Else payload line e = refl
    nothing_there takes kind payload line e = absurd e

    reaches_plain : (s : Plain) (rest : List Token) → IsNearest s → length (plain_words n s) < suc most
        → Follows (takes_else s) (head rest).kind
        → Reaches (look (plain_at statement most n)) (plain_words n s) (Ok (s, rest)) rest
    reaches_plain tree.empty rest nearest less end =
        reaches_look (plain_at statement most n) (done tree.empty) [] (Ok (tree.empty, rest)) rest
        (nothing_there false (head rest).kind (head rest).payload (head rest).line end) refl
    reaches_plain (tree.assignment v line e) rest nearest less end =
        let name = name_of v in
        let us = selector_words n 0 v in
        let ws = at n k.Becomes line ∷ expr_words n 0 e in
        let split = split_variable n 0 v in
        let whole : length (variable_words n 0 v ++ ws) ≡ length (variable_words n 0 v) + length ws
        = length-append (variable_words n 0 v) ws in
        let front : length (variable_words n 0 v) ≡ suc (length us) = ap length split in
        let short : length us < most = omega (arith, less, whole, front) in
        let shorter : length (expr_words n 0 e) < most = omega (arith, less, whole, front) in
        let r = Ok (tree.assignment v line e, rest) in
        subst (λ all. Reaches (look (plain_at statement most n)) (all ++ ws) r rest) (sym split)
        (reaches_skip (look (behind_statement_name most n name)) (name_at n name) (us ++ ws) r rest
        (sound_says n k.Name (spelling name.name) name.line fits)
        (reaches_assigned most n fits v line e rest short shorter (expr_follows false (head rest).kind end)))
    reaches_plain (tree.procedure_call name arguments) rest nearest less end =
        let ws = words_if (arguments_words n) arguments in
        let short : length ws < suc most = omega (arith, less) in
        reaches_skip (look (behind_statement_name most n name)) (name_at n name) ws
        (Ok (tree.procedure_call name arguments, rest)) rest (sound_says n k.Name (spelling name.name) name.line fits)
        (reaches_called most n fits false name arguments rest short end)
    reaches_plain (tree.compound begin list end_line) rest nearest less end =
        let body : Compound = record { begin = begin; list = list; end = end_line } in
        let make = λ (body : Compound). tree.compound body.begin body.list body.end in
        reaches_last (compound_by statement most n begin) (λ body. done (make body))
        (compound_words_at n body) body rest
        (reaches_compound body rest nearest less)
    reaches_plain (tree.if_then line e then_line s) rest nearest less end =
        reaches_if_then line e then_line s rest nearest less (no_else (head rest).kind end)
    reaches_plain (tree.if_else line e then_line s else_line t) rest nearest less end =
        reaches_if_else line e then_line s else_line t rest nearest less end
    reaches_plain (tree.case line e of_line elements end_of end_line) rest nearest less end =
        reaches_case (record { line = line; value = e; behind = of_line })
        (record { elements = elements; others = end_of }) end_line rest nearest less
    reaches_plain (tree.while line e do_line s) rest nearest less end =
        reaches_while line e do_line s rest nearest less end
    reaches_plain (tree.repeat line list until e) rest nearest less end =
        reaches_repeat line list until e rest nearest less (expr_follows false (head rest).kind end)
    reaches_plain (tree.for line name becomes first toward last do_line s) rest nearest less end =
        let f : ForHead = record {
          line = line;
          name = name;
          becomes = becomes;
          first = first;
          toward = toward;
          last = last;
          do_line = do_line;
        } in
        let ss = statement_words (n + 1) s in
        let split = behind_for_head (n + 1) f ss in
        let short : length (for_words (n + 1) f ++ ss) < suc most =
        subst (λ ws. length ws < suc most) (sym split) less in
        subst (λ ws. Reaches (for_by statement most n line) ws
        (Ok (tree.for line name becomes first toward last do_line s, rest)) rest) split
        (reaches_for f s rest nearest short end)
    reaches_plain (tree.goto line label) rest nearest less end =
        let w = at n k.Goto line in
        let make = λ (label : Numeral). tree.goto line label in
        reaches_skip (bind numeral (λ label. done (make label))) w (number_at n label ∷ []) (Ok (make label, rest)) rest
        (sound_says n k.Goto nothing line fits)
        (reaches_last numeral (λ label. done (make label)) (number_at n label ∷ []) label rest
        (reaches_numeral n fits label rest))
    reaches_plain (tree.with_statement line) rest nearest less end =
        reaches_shown WITH_STATEMENTS (shows n k.With line WITH_STATEMENTS) []
        (Ok (tree.with_statement line, rest)) rest
        refl

    no_label : (kind : Kind) (payload : Payload) (line : ℕ) → NoNumber kind
        → statement_at statement most n kind payload line
        ≡ bind (look (plain_at statement most n)) (λ s. done (tree.unlabelled s))
    no_label k.Number payload line e = absurd e
    no_label kind payload line e = refl

    pub reaches_statement_at : (s : Statement) (rest : List Token) → IsNearestStatement s
        → length (statement_words n s) < suc most → Follows (statement_takes_else s) (head rest).kind
        → Reaches (look (statement_at statement most n)) (statement_words n s) (Ok (s, rest)) rest
    reaches_statement_at (tree.unlabelled s) rest nearest less end =
        let ws = plain_words n s in
        let first = head (tokens_in ws ++ rest) in
        let r = Ok (tree.unlabelled s, rest) in
        reaches_look (statement_at statement most n)
        (bind (look (plain_at statement most n)) (λ s. done (tree.unlabelled s))) ws r rest
        (no_label first.kind first.payload first.line (plain_starts n s rest end))
        (reaches_last (look (plain_at statement most n)) (λ s. done (tree.unlabelled s)) ws s rest
        (reaches_plain s rest nearest less end))
    reaches_statement_at (tree.labelled label colon s) rest nearest less end =
        let ws = plain_words n s in
        let w = at n k.Colon colon in
        let r = Ok (tree.labelled label colon s, rest) in
        let short : length ws < suc most = omega (arith, less) in
        let make = λ (colon : ℕ) (s : Plain). tree.labelled label colon s in
        let further = λ (colon : ℕ). bind (look (plain_at statement most n)) (λ s. done (make colon s)) in
        reaches_skip (labelled_by statement most n label) (number_at n label) (w ∷ ws) r rest
        (sound_says n k.Number (value label.value) label.line fits)
        (reaches_bind (mark k.Colon) further (w ∷ []) ws colon r rest
        (reaches_mark n fits k.Colon colon (tokens_in ws ++ rest))
        (reaches_last (look (plain_at statement most n)) (λ s. done (make colon s)) ws s rest
        (reaches_plain s rest nearest short end)))

-- the readers as they are
pub reaches_statement : (most n : ℕ) (s : Statement) (rest : List Token) → n ≤ NESTING_LIMIT → IsNearestStatement s
    → length (statement_words n s) < most → Follows (statement_takes_else s) (head rest).kind
    → Reaches (statement most n) (statement_words n s) (Ok (s, rest)) rest
unfolding statement
reaches_statement zero n s rest fits nearest less end = absurd (omega (arith, less))
reaches_statement (suc most) n s rest fits nearest less end =
    reaches_statement_at (statement most) most (reaches_statement most) n fits s rest nearest less end

pub reaches_a_compound : (most n : ℕ) (body : Compound) (rest : List Token) → n ≤ NESTING_LIMIT
    → AllNearest body.list → length (compound_words_at n body) < suc most
    → Reaches (compound most n) (compound_words_at n body) (Ok (body, rest)) rest
unfolding compound
reaches_a_compound most n body rest fits nearest less =
    reaches_compound (statement most) most (reaches_statement most) n fits body rest nearest less
