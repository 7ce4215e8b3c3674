-- Each reader of a statement reads what the grammar spells, and stops where a tree can still go on.
use Rattle.std.proofs.Common.{◌≡◌, refl, sym, ap, subst, ◌∙◌, ℕ, zero, suc, ◌+◌, ◌≤◌, Bool, true, false, List, []}
use Rattle.std.proofs.Common.{◌∷◌, ◌++◌, append_assoc}
use Rattle.std.proofs.lemmas.List.{append-nil}
use Rattle.wb_base.specs.declared.faults.TheConstants.{WITH_STATEMENTS}
use Rattle.pas_tokens.specs.declared.kinds.Kind.{Kind}
use Rattle.pas_tokens.specs.declared.kinds.Kind.TheVariants as k
use Rattle.pas_tokens.specs.Cutting.{Payload, nothing, value, spelling}
use Rattle.pas_syntax.specs.declared.limits.TheConstants.{NESTING_LIMIT}
use Rattle.pas_syntax.specs.declared.operators.Way.TheVariants as way
use Rattle.pas_syntax.specs.Tree as tree
use Rattle.pas_syntax.specs.Tree.{Ident, Numeral, Expr, Plain, Statement, Statements, Compound}
use Rattle.pas_syntax.specs.Words.{Word, at, shows, name_at, number_at, expr_words, statement_words}
use Rattle.pas_syntax.specs.Words.{statements_words, elements_words, others_words}
use Rattle.pas_syntax.specs.Nearest.{statement_takes_else, AllNearest}
use Rattle.pas_syntax.specs.inner.Prog.{Prog, done, look, skip, bind, head, turns}
use Rattle.pas_syntax.specs.inner.Readers.{expr}
use Rattle.pas_syntax.specs.inner.TypeReaders.{single}
use Rattle.pas_syntax.specs.inner.Marks.{mark}
use Rattle.pas_syntax.specs.inner.StatementReaders.{Guard, ForHead, Arms, numeral, guard_by, for_head_by}
use Rattle.pas_syntax.specs.inner.StatementReaders.{behind_statement_name, behind_statement, statements_by}
use Rattle.pas_syntax.specs.inner.StatementReaders.{compound_by}
use Rattle.pas_syntax.specs.inner.StatementReaders.{else_at, if_by, while_by, repeat_by, for_by, arms_by, case_by}
use Rattle.pas_syntax.specs.inner.StatementReaders.{plain_at, labelled_by, statement_at, statement, compound_at}
use Rattle.pas_syntax.specs.inner.StatementReaders.{compound}
use Rattle.pas_syntax.proofs.Good.{a_token, ReadsAt, Reads, reads_look, reads_done, reads_wrong, reads_shown}
use Rattle.pas_syntax.proofs.Good.{reads_skip}
use Rattle.pas_syntax.proofs.TurnLemmas.{Any, Begins, reads_turns}
use Rattle.pas_syntax.proofs.WordLemmas.{sound_says}
use Rattle.pas_syntax.proofs.ExprReads.{IsExpr, IsTaken}
use Rattle.pas_syntax.proofs.MarkLemmas.{zero_numeral, IsNumeral, reads_numeral}
use Rattle.pas_syntax.proofs.SomeReads.{ReadsSome, reads_bind_at, reads_then_at, reads_then, reads_last}
use Rattle.pas_syntax.proofs.SomeReads.{reads_form}
use Rattle.pas_syntax.proofs.PhraseReads.{IsPlain, IsStatement, NoElse, BehindPlain, BehindStatement, zero_expr}
use Rattle.pas_syntax.proofs.PhraseReads.{zero_word, zero_name, zero_statement, an_expr, a_mark, IsGuard, a_guard}
use Rattle.pas_syntax.proofs.PhraseReads.{behind_guard, IsForHead, a_for_head, behind_for_head}
use Rattle.pas_syntax.proofs.PhraseReads.{reads_behind_statement_name}
use Rattle.pas_syntax.proofs.CaseReads.{zero_constant, AreArms, a_statement, some_arms}

abbrev pub IsStatements : ℕ → Statements → List Word → Type 0
IsStatements n list ws = (ws ≡ statements_words n list) × AllNearest list

-- a compound statement inside n open forms
abbrev pub compound_words_at : ℕ → Compound → List Word
compound_words_at n body =
    at (n + 1) k.Begin body.begin ∷ (statements_words (n + 1) body.list ++ at (n + 1) k.End body.end ∷ [])

abbrev pub IsCompound : ℕ → Compound → List Word → Type 0
IsCompound n body ws = (ws ≡ compound_words_at n body) × AllNearest body.list

-- no `else` stands behind, so the one that does belongs elsewhere
takes_none : (b : Bool) → NoElse b k.Else → b ≡ false
takes_none true e = absurd e
takes_none false e = refl

module _ (statement : ℕ → Prog Statement) (most : ℕ)
    (h : (n : ℕ) → n ≤ NESTING_LIMIT → Reads (IsStatement n) BehindStatement (statement n)) where
  -- statements, one after the other
  module _ (n : ℕ) (fits : n ≤ NESTING_LIMIT) where
    one_statement_more : (list : Statements) (us : List Word) (line : ℕ) (s : Statement) (vs : List Word)
        → IsStatements n list us → IsStatement n s vs
        → IsStatements n (tree.more_statements list line s) (us ++ at n k.Semicolon line ∷ vs)
    one_statement_more list us line s vs is also = (rw (is.0, also.0) refl, (is.1, also.1))

    begins_statements : (list : Statements) (us : List Word) → IsStatements n list us
        → (kind : Kind) (payload : Payload) (line : ℕ)
        → Begins (IsStatements n) us (a_token kind payload line)
        (behind_statement statement most n list kind payload line)
    begins_statements list us is k.Semicolon nothing line =
        let w = at n k.Semicolon line in (
          w,
          refl,
          (λ e. cc),
          sound_says n k.Semicolon nothing line fits,
          (reads_last (IsStatement n) BehindStatement (λ x vs. IsStatements n x (us ++ w ∷ vs)) Any (statement n)
              (λ s. tree.more_statements list line s) (a_statement statement most h n fits)
              (λ s vs also. one_statement_more list us line s vs is also) (λ s t any. tt)).reads,
          (
            tree.more_statements list line zero_statement,
            [],
            one_statement_more list us line zero_statement [] is (refl, tt),
          ),
        )
    begins_statements list us is kind payload line = tt

    some_statements : ReadsSome (IsStatements n) Any (statements_by statement most n)
    some_statements =
        reads_then_at (IsStatement n) BehindStatement (IsStatements n) Any (statement n)
        (λ s. turns (behind_statement statement most n) most (tree.first_statement s))
        (a_statement statement most h n fits)
        (λ s us t is any ts at_t. reads_turns (IsStatements n) (behind_statement statement most n)
        begins_statements most
        (tree.first_statement s) us is ts)
        (λ s us is. (tree.first_statement s, [], rw (append-nil us) is))

  -- the statements that open a form, and one that does not
  module _ (n : ℕ) (fits : n ≤ NESTING_LIMIT) where
    reads_compound : (line : ℕ)
        → ReadsAt (a_token k.Begin nothing line) (IsCompound n) Any (compound_by statement most n line)
    reads_compound line =
        let w = at (n + 1) k.Begin line in
        let make : Statements → ℕ → Compound = λ list end. record { begin = line; list = list; end = end } in
        let further = λ (list : Statements). bind (mark k.End) (λ end. done (make list end)) in
        reads_form (IsCompound n) Any n k.Begin line (bind (statements_by statement most (n + 1)) further) (λ e. cc)
        (make (tree.first_statement zero_statement) 0, at (n + 1) k.End 0 ∷ [], (refl, tt))
        (λ inner. (reads_then (IsStatements (n + 1)) Any (λ x ws. IsCompound n x (w ∷ ws)) Any
        (statements_by statement most (n + 1)) further (some_statements (n + 1) inner)
        (λ list us is. reads_last (IsTaken (n + 1) k.End) Any (λ x ws. IsCompound n x (w ∷ (us ++ ws))) Any
        (mark k.End) (make list) (a_mark most (n + 1) inner k.End (λ e. cc))
        (λ end vs also. (rw (is.0, also) refl, is.1)) (λ end t any. tt))).reads)

    -- behind the statement of an `if`
    module _ (line : ℕ) (head_of : Guard) (us : List Word) (is : IsGuard (n + 1) k.If k.Then line head_of us)
        (s : Statement) (vs : List Word) (also : IsStatement (n + 1) s vs) where
      abbrev ElseGoesOn : Plain → List Word → Type 0
      ElseGoesOn x ws = IsPlain n x (at (n + 1) k.If line ∷ (us ++ (vs ++ ws)))

      spelled_then : IsPlain n (tree.if_then head_of.line head_of.value head_of.behind s)
          (at (n + 1) k.If line ∷ (us ++ vs))
      spelled_then = (
        rw also.0 (ap (λ all. all ++ statement_words (n + 1) s) is
            ∙ behind_guard (n + 1) k.If k.Then head_of (statement_words (n + 1) s)),
        also.1,
      )

      spelled_else : statement_takes_else s ≡ false → (else_line : ℕ) (t : Statement) (ws : List Word)
          → IsStatement (n + 1) t ws
          → ElseGoesOn (tree.if_else head_of.line head_of.value head_of.behind s else_line t)
          (at (n + 1) k.Else else_line ∷ ws)
      spelled_else none else_line t ws third =
          let behind = statement_words (n + 1) s ++ at (n + 1) k.Else else_line ∷ statement_words (n + 1) t in (
            rw (also.0, third.0) (ap (λ all. all ++ behind) is ∙ behind_guard (n + 1) k.If k.Then head_of behind),
            (none, also.1, third.1),
          )

      reads_else : n + 1 ≤ NESTING_LIMIT → (kind : Kind) (payload : Payload) (else_line : ℕ)
          → NoElse (statement_takes_else s) kind
          → ReadsAt (a_token kind payload else_line) ElseGoesOn BehindPlain
          (else_at statement most (n + 1) head_of s kind payload else_line)
      reads_else inner k.Else nothing else_line end =
          let w = at (n + 1) k.Else else_line in
          let none = takes_none (statement_takes_else s) end in
          let make = λ (t : Statement). tree.if_else head_of.line head_of.value head_of.behind s else_line t in
          reads_skip ElseGoesOn BehindPlain w (bind (statement (n + 1)) (λ t. done (make t))) (λ e. cc)
          (sound_says (n + 1) k.Else nothing else_line inner)
          (reads_last (IsStatement (n + 1)) BehindStatement (λ x ws. ElseGoesOn x (w ∷ ws)) BehindPlain
          (statement (n + 1)) make (a_statement statement most h (n + 1) inner)
          (λ t ws third. spelled_else none else_line t ws third) (λ t u e. e)).reads
      reads_else inner k.Else payload else_line end =
          let none = takes_none (statement_takes_else s) end in
          reads_wrong ElseGoesOn BehindPlain (a_token k.Else payload else_line)
          (tree.if_else head_of.line head_of.value head_of.behind s 0 zero_statement) (at (n + 1) k.Else 0) []
          (spelled_else none 0 zero_statement [] (refl, tt))
      reads_else inner kind payload else_line end =
          reads_done ElseGoesOn BehindPlain (a_token kind payload else_line)
          (tree.if_then head_of.line head_of.value head_of.behind s) (rw (append-nil vs) spelled_then) tt

    reads_if : (line : ℕ) → ReadsAt (a_token k.If nothing line) (IsPlain n) BehindPlain (if_by statement most n line)
    reads_if line =
        let w = at (n + 1) k.If line in
        let made = λ (g : Guard) (s : Statement). tree.if_then g.line g.value g.behind s in
        let behind_then = λ (g : Guard) (s : Statement). look (else_at statement most (n + 1) g s) in
        let further = λ (g : Guard). bind (statement (n + 1)) (behind_then g) in
        reads_form (IsPlain n) BehindPlain n k.If line (bind (guard_by most (n + 1) k.Then line) further) (λ e. cc)
        (tree.if_then line zero_expr 0 zero_statement, zero_word (n + 1) ∷ (at (n + 1) k.Then 0 ∷ []), (refl, tt))
        (λ inner. (reads_then (IsGuard (n + 1) k.If k.Then line) Any (λ x ws. IsPlain n x (w ∷ ws)) BehindPlain
        (guard_by most (n + 1) k.Then line) further (a_guard most (n + 1) inner k.If k.Then line (λ e. cc))
        (λ g us is. reads_then_at (IsStatement (n + 1)) BehindStatement (λ x ws. IsPlain n x (w ∷ (us ++ ws)))
        BehindPlain (statement (n + 1)) (behind_then g) (a_statement statement most h (n + 1) inner)
        (λ s vs t also end ts at_t. reads_else line g us is s vs also inner (head ts).kind (head ts).payload
        (head ts).line (subst (λ u. NoElse (statement_takes_else s) u.kind) (sym at_t) end) ts refl)
        (λ s vs also. (made g s, [], rw (append-nil vs) (spelled_then line g us is s vs also))))).reads)

    reads_while : (line : ℕ)
        → ReadsAt (a_token k.While nothing line) (IsPlain n) BehindPlain (while_by statement most n line)
    reads_while line =
        let w = at (n + 1) k.While line in
        let make = λ (g : Guard) (s : Statement). tree.while g.line g.value g.behind s in
        let further = λ (g : Guard). bind (statement (n + 1)) (λ s. done (make g s)) in
        reads_form (IsPlain n) BehindPlain n k.While line (bind (guard_by most (n + 1) k.Do line) further) (λ e. cc)
        (tree.while line zero_expr 0 zero_statement, zero_word (n + 1) ∷ (at (n + 1) k.Do 0 ∷ []), (refl, tt))
        (λ inner. (reads_then (IsGuard (n + 1) k.While k.Do line) Any (λ x ws. IsPlain n x (w ∷ ws)) BehindPlain
        (guard_by most (n + 1) k.Do line) further (a_guard most (n + 1) inner k.While k.Do line (λ e. cc))
        (λ g us is. reads_last (IsStatement (n + 1)) BehindStatement (λ x ws. IsPlain n x (w ∷ (us ++ ws)))
        BehindPlain (statement (n + 1)) (make g) (a_statement statement most h (n + 1) inner)
        (λ s vs also. (
          rw also.0 (ap (λ all. all ++ statement_words (n + 1) s) is
              ∙ behind_guard (n + 1) k.While k.Do g (statement_words (n + 1) s)),
          also.1,
        ))
        (λ s t e. e))).reads)

    reads_for : (line : ℕ)
        → ReadsAt (a_token k.For nothing line) (IsPlain n) BehindPlain (for_by statement most n line)
    reads_for line =
        let w = at (n + 1) k.For line in
        let make = λ (f : ForHead) (s : Statement).
        tree.for f.line f.name f.becomes f.first f.toward f.last f.do_line s in
        let further = λ (f : ForHead). bind (statement (n + 1)) (λ s. done (make f s)) in
        reads_form (IsPlain n) BehindPlain n k.For line (bind (for_head_by most (n + 1) line) further) (λ e. cc) (
          tree.for line zero_name 0 zero_expr (record { item = way.Up; line = 0 }) zero_expr 0 zero_statement,
          name_at (n + 1) zero_name ∷ (at (n + 1) k.Becomes 0 ∷ (zero_word (n + 1) ∷ (at (n + 1) k.To 0
              ∷ (zero_word (n + 1) ∷ (at (n + 1) k.Do 0 ∷ []))))),
          (refl, tt),
        )
        (λ inner. (reads_then (IsForHead (n + 1) line) Any (λ x ws. IsPlain n x (w ∷ ws)) BehindPlain
        (for_head_by most (n + 1) line) further (a_for_head most (n + 1) inner line)
        (λ f us is. reads_last (IsStatement (n + 1)) BehindStatement (λ x ws. IsPlain n x (w ∷ (us ++ ws)))
        BehindPlain (statement (n + 1)) (make f) (a_statement statement most h (n + 1) inner)
        (λ s vs also. (
          rw also.0 (ap (λ all. all ++ statement_words (n + 1) s) is
              ∙ behind_for_head (n + 1) f (statement_words (n + 1) s)),
          also.1,
        ))
        (λ s t e. e))).reads)

    reads_repeat : (line : ℕ)
        → ReadsAt (a_token k.Repeat nothing line) (IsPlain n) BehindPlain (repeat_by statement most n line)
    reads_repeat line =
        let w = at (n + 1) k.Repeat line in
        let make = λ (list : Statements) (until : ℕ) (e : Expr). tree.repeat line list until e in
        let behind_until = λ (list : Statements) (until : ℕ). bind (expr most (n + 1) 0) (λ e. done (make list until e))
        in
        let further = λ (list : Statements). bind (mark k.Until) (behind_until list) in
        reads_form (IsPlain n) BehindPlain n k.Repeat line (bind (statements_by statement most (n + 1)) further)
        (λ e. cc) (
          make (tree.first_statement zero_statement) 0 zero_expr,
          at (n + 1) k.Until 0 ∷ (zero_word (n + 1) ∷ []),
          (
            refl,
            tt,
          ),
        )
        (λ inner. (reads_then (IsStatements (n + 1)) Any (λ x ws. IsPlain n x (w ∷ ws)) BehindPlain
        (statements_by statement most (n + 1)) further (some_statements (n + 1) inner)
        (λ list us is. reads_then (IsTaken (n + 1) k.Until) Any (λ x ws. IsPlain n x (w ∷ (us ++ ws))) BehindPlain
        (mark k.Until) (behind_until list) (a_mark most (n + 1) inner k.Until (λ e. cc))
        (λ until vs also. reads_last (IsExpr (n + 1) 0) Any (λ x ws. IsPlain n x (w ∷ (us ++ (vs ++ ws))))
        BehindPlain (expr most (n + 1) 0) (make list until) (an_expr most (n + 1) inner)
        (λ e ws third. (rw (is.0, also, third) refl, is.1)) (λ e t any. tt)))).reads)

    reads_case : (line : ℕ)
        → ReadsAt (a_token k.Case nothing line) (IsPlain n) BehindPlain (case_by statement most n line)
    reads_case line =
        let w = at (n + 1) k.Case line in
        let make = λ (g : Guard) (arms : Arms) (end : ℕ). tree.case g.line g.value g.behind arms.elements
        arms.others end
        in
        let behind_arms = λ (g : Guard) (arms : Arms). bind (mark k.End) (λ end. done (make g arms end)) in
        let further = λ (g : Guard). bind (arms_by statement most (n + 1)) (behind_arms g) in
        let element = tree.first_element (single zero_constant) 0 zero_statement in
        reads_form (IsPlain n) BehindPlain n k.Case line (bind (guard_by most (n + 1) k.Of line) further) (λ e. cc) (
          tree.case line zero_expr 0 element tree.no_others 0,
          zero_word (n + 1) ∷ (at (n + 1) k.Of 0 ∷ (zero_word (n + 1) ∷ (at (n + 1) k.Colon 0 ∷ (at (n + 1) k.End 0
              ∷ [])))),
          (refl, ((tt, tt), tt)),
        )
        (λ inner. (reads_then (IsGuard (n + 1) k.Case k.Of line) Any (λ x ws. IsPlain n x (w ∷ ws)) BehindPlain
        (guard_by most (n + 1) k.Of line) further (a_guard most (n + 1) inner k.Case k.Of line (λ e. cc))
        (λ g us is. reads_then (AreArms (n + 1)) Any (λ x ws. IsPlain n x (w ∷ (us ++ ws))) BehindPlain
        (arms_by statement most (n + 1)) (behind_arms g) (some_arms statement most h (n + 1) inner)
        (λ arms vs also. reads_last (IsTaken (n + 1) k.End) Any (λ x ws. IsPlain n x (w ∷ (us ++ (vs ++ ws))))
        BehindPlain (mark k.End) (make g arms) (a_mark most (n + 1) inner k.End (λ e. cc))
        (λ end ws third. spelled_case line g us is arms vs also end ws third) (λ end t any. tt)))).reads)
      where
        spelled_case : (line : ℕ) (g : Guard) (us : List Word) → IsGuard (n + 1) k.Case k.Of line g us
            → (arms : Arms) (vs : List Word) → AreArms (n + 1) arms vs → (end : ℕ) (ws : List Word)
            → IsTaken (n + 1) k.End end ws
            → IsPlain n (tree.case g.line g.value g.behind arms.elements arms.others end)
            (at (n + 1) k.Case line ∷ (us ++ (vs ++ ws)))
        spelled_case line g us is arms vs also end ws third =
            let elements = elements_words (n + 1) arms.elements in
            let tail_words = others_words (n + 1) arms.others in
            let last = at (n + 1) k.End end ∷ [] in (
              rw (also.0, third) (ap (λ all. all ++ ((elements ++ tail_words) ++ last)) is
                  ∙ (behind_guard (n + 1) k.Case k.Of g ((elements ++ tail_words) ++ last)
                  ∙ ap (λ all. at (n + 1) k.Case g.line ∷ (expr_words (n + 1) 0 g.value ++ at (n + 1) k.Of g.behind
                  ∷ all)) (append_assoc elements tail_words last))),
              (also.1, also.2),
            )

    reads_goto : (line : ℕ)
        → ReadsAt (a_token k.Goto nothing line) (IsPlain n) BehindPlain
        (skip (bind numeral (λ label. done (tree.goto line label))))
    reads_goto line =
        let w = at n k.Goto line in
        reads_skip (IsPlain n) BehindPlain w (bind numeral (λ label. done (tree.goto line label))) (λ e. cc)
        (sound_says n k.Goto nothing line fits)
        (reads_last (IsNumeral n) Any (λ x ws. IsPlain n x (w ∷ ws)) BehindPlain numeral
        (λ label. tree.goto line label)
        (record { reads = reads_numeral n fits; some = (zero_numeral, number_at n zero_numeral ∷ [], refl) })
        (λ label us is. (rw is refl, tt)) (λ label t any. tt)).reads

    reads_plain_at : (kind : Kind) (payload : Payload) (line : ℕ)
        → ReadsAt (a_token kind payload line) (IsPlain n) BehindPlain (plain_at statement most n kind payload line)
    reads_plain_at k.Name (spelling name) line =
        let found : Ident = record { name = name; line = line } in
        reads_skip (IsPlain n) BehindPlain (name_at n found) (look (behind_statement_name most n found)) (λ e. cc)
        (sound_says n k.Name (spelling name) line fits)
        (reads_look (λ x ws. IsPlain n x (name_at n found ∷ ws)) BehindPlain (behind_statement_name most n found)
        (reads_behind_statement_name most n fits found))
    reads_plain_at k.Begin nothing line =
        let make = λ (body : Compound). tree.compound body.begin body.list body.end in
        reads_bind_at (IsCompound n) Any (IsPlain n) BehindPlain (compound_by statement most n line)
        (a_token k.Begin nothing line) (λ body. done (make body)) (reads_compound line)
        (λ body us t is any. reads_done (λ x ws. IsPlain n x (us ++ ws)) BehindPlain t (make body)
        (rw (append-nil us) is) tt)
        (λ body us is. (make body, [], rw (append-nil us) is))
    reads_plain_at k.If nothing line = reads_if line
    reads_plain_at k.Case nothing line = reads_case line
    reads_plain_at k.While nothing line = reads_while line
    reads_plain_at k.Repeat nothing line = reads_repeat line
    reads_plain_at k.For nothing line = reads_for line
    reads_plain_at k.Goto nothing line = reads_goto line
    reads_plain_at k.With nothing line =
        reads_shown (IsPlain n) BehindPlain (a_token k.With nothing line) WITH_STATEMENTS (tree.with_statement line)
        (shows n k.With line WITH_STATEMENTS) [] (refl, tt) refl refl
    reads_plain_at kind payload line =
        reads_done (IsPlain n) BehindPlain (a_token kind payload line) tree.empty (refl, tt) tt

    a_plain : ReadsSome (IsPlain n) BehindPlain (look (plain_at statement most n))
    a_plain =
        record {
          reads = reads_look (IsPlain n) BehindPlain (plain_at statement most n) reads_plain_at;
          some = (tree.empty, [], (refl, tt));
        }

    reads_unlabelled : Reads (IsStatement n) BehindStatement
        (bind (look (plain_at statement most n)) (λ s. done (tree.unlabelled s)))
    reads_unlabelled =
        (reads_last (IsPlain n) BehindPlain (IsStatement n) BehindStatement (look (plain_at statement most n))
        (λ s. tree.unlabelled s) a_plain (λ s us is. is) (λ s t e. e)).reads

    pub reads_statement_at : (kind : Kind) (payload : Payload) (line : ℕ)
        → ReadsAt (a_token kind payload line) (IsStatement n) BehindStatement
        (statement_at statement most n kind payload line)
    reads_statement_at k.Number (value number) line =
        let found : Numeral = record { value = number; line = line } in
        let w = number_at n found in
        let further = λ (colon : ℕ). bind (look (plain_at statement most n))
        (λ s. done (tree.labelled found colon s)) in
        reads_skip (IsStatement n) BehindStatement w (labelled_by statement most n found) (λ e. cc)
        (sound_says n k.Number (value number) line fits)
        (reads_then (IsTaken n k.Colon) Any (λ x ws. IsStatement n x (w ∷ ws)) BehindStatement (mark k.Colon) further
        (a_mark most n fits k.Colon (λ e. cc))
        (λ colon us is. reads_last (IsPlain n) BehindPlain (λ x ws. IsStatement n x (w ∷ (us ++ ws))) BehindStatement
        (look (plain_at statement most n)) (λ s. tree.labelled found colon s) a_plain
        (λ s vs also. (rw (is, also.0) refl, also.1)) (λ s t e. e))).reads
    reads_statement_at kind payload line = λ ts is. reads_unlabelled ts

-- the readers as they are
pub reads_statement : (most n : ℕ) → n ≤ NESTING_LIMIT → Reads (IsStatement n) BehindStatement (statement most n)
unfolding statement
reads_statement zero n fits = λ ts. tt
reads_statement (suc most) n fits =
    reads_look (IsStatement n) BehindStatement (statement_at (statement most) most n)
    (reads_statement_at (statement most) most (reads_statement most) n fits)

reads_compound_at : (most n : ℕ) → n ≤ NESTING_LIMIT → (kind : Kind) (payload : Payload) (line : ℕ)
    → ReadsAt (a_token kind payload line) (IsCompound n) Any (compound_at most n kind payload line)
reads_compound_at most n fits k.Begin nothing line =
    reads_compound (statement most) most (reads_statement most) n fits line
reads_compound_at most n fits kind payload line =
    reads_wrong (IsCompound n) Any (a_token kind payload line)
    (record { begin = 0; list = tree.first_statement zero_statement; end = 0 }) (at (n + 1) k.Begin 0)
    (at (n + 1) k.End 0 ∷ []) (refl, tt)

pub reads_a_compound : (most n : ℕ) → n ≤ NESTING_LIMIT → Reads (IsCompound n) Any (compound most n)
unfolding compound
reads_a_compound most n fits = reads_look (IsCompound n) Any (compound_at most n) (reads_compound_at most n fits)
