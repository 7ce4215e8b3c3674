-- What the readers of the parts of statements read: arguments, assignments, and what stands before a statement.
use Rattle.std.proofs.Common.{◌≡◌, refl, ap, ◌∙◌, ℕ, ◌+◌, ◌≤◌, Bool, true, List, [], ◌∷◌, ◌++◌}
use Rattle.std.proofs.Common.{append_assoc, Option, Some, None}
use Rattle.std.proofs.lemmas.List.{append-nil}
use Rattle.pas_tokens.specs.declared.kinds.Kind.{Kind}
use Rattle.pas_tokens.specs.declared.kinds.Kind.TheVariants as k
use Rattle.pas_tokens.specs.Cutting.{Payload, nothing}
use Rattle.pas_tokens.specs.Tokens.{Token}
use Rattle.pas_syntax.specs.declared.limits.TheConstants.{NESTING_LIMIT}
use Rattle.pas_syntax.specs.declared.operators.Way.{Way}
use Rattle.pas_syntax.specs.declared.operators.Way.TheVariants as way
use Rattle.pas_syntax.specs.Tree as tree
use Rattle.pas_syntax.specs.Tree.{Ident, Behind, Lined, Separated, Expr, Variable, Argument, Arguments, Plain}
use Rattle.pas_syntax.specs.Tree.{Statement}
use Rattle.pas_syntax.specs.Words.{Word, at, name_at, number_at, words_if, width_words, argument_words}
use Rattle.pas_syntax.specs.Words.{arguments_words}
use Rattle.pas_syntax.specs.Words.{expr_words, plain_words, statement_words, way_kind}
use Rattle.pas_syntax.specs.Nearest.{takes_else, statement_takes_else, IsNearest, IsNearestStatement}
use Rattle.pas_syntax.specs.inner.Prog.{done, look, skip, bind, head}
use Rattle.pas_syntax.specs.inner.Readers.{ident, expr, variable}
use Rattle.pas_syntax.specs.inner.TypeReaders.{single, items_by}
use Rattle.pas_syntax.specs.inner.Marks.{mark}
use Rattle.pas_syntax.specs.inner.StatementReaders.{Guard, ForHead, way_at, guard_by, for_head_by, width_at}
use Rattle.pas_syntax.specs.inner.StatementReaders.{argument_by}
use Rattle.pas_syntax.specs.inner.StatementReaders.{arguments_by, assignment_by, behind_statement_name}
use Rattle.pas_syntax.proofs.Good.{a_token, ReadsAt, reads_look, reads_done, reads_wrong, reads_skip}
use Rattle.pas_syntax.proofs.TurnLemmas.{Any}
use Rattle.pas_syntax.proofs.WordLemmas.{sound_says}
use Rattle.pas_syntax.proofs.ExprReads.{IsExpr, IsVariable, IsIdent, IsTaken, reads_ident, reads_an_expr}
use Rattle.pas_syntax.proofs.ExprReads.{reads_a_variable}
use Rattle.pas_syntax.proofs.ItemLemmas.{AreItems, reads_items}
use Rattle.pas_syntax.proofs.MarkLemmas.{reads_mark}
use Rattle.pas_syntax.proofs.SomeReads.{ReadsSome, reads_bind_at, reads_then, reads_last, reads_form}

-- what is spelled so inside n open forms, where each `else` belongs to the nearest `if`
abbrev pub IsPlain : ℕ → Plain → List Word → Type 0
IsPlain n s ws = (ws ≡ plain_words n s) × IsNearest s

abbrev pub IsStatement : ℕ → Statement → List Word → Type 0
IsStatement n s ws = (ws ≡ statement_words n s) × IsNearestStatement s

-- behind a statement that an `else` would belong to, none stands
abbrev pub NoElse : Bool → Kind → Type 0
NoElse true k.Else = ⊥
NoElse takes kind = Unit {0}

abbrev pub BehindPlain : Plain → Token → Type 0
BehindPlain s t = NoElse (takes_else s) t.kind

abbrev pub BehindStatement : Statement → Token → Type 0
BehindStatement s t = NoElse (statement_takes_else s) t.kind

-- a number, a name and a statement, to complete a tree with
abbrev pub zero_expr : Expr
zero_expr = tree.sum (tree.first_term (tree.first_factor (tree.literal (record { value = 0; line = 0 }))))

abbrev pub zero_word : ℕ → Word
zero_word n = number_at n (record { value = 0; line = 0 })

abbrev pub zero_name : Ident
zero_name = record { name = []; line = 0 }

abbrev pub zero_statement : Statement
zero_statement = tree.unlabelled tree.empty

-- what stands before a statement: words from this one to this one, with an expression between them
abbrev pub guard_words : ℕ → Kind → Kind → Guard → List Word
guard_words n first word guard =
    at n first guard.line ∷ (expr_words n 0 guard.value ++ at n word guard.behind ∷ [])

abbrev pub IsGuard : ℕ → Kind → Kind → ℕ → Guard → List Word → Type 0
IsGuard n first word line guard ws = at n first line ∷ ws ≡ guard_words n first word guard

pub behind_guard : (n : ℕ) (first word : Kind) (guard : Guard) (ws : List Word)
    → guard_words n first word guard ++ ws
    ≡ at n first guard.line ∷ (expr_words n 0 guard.value ++ at n word guard.behind ∷ ws)
behind_guard n first word guard ws =
    ap (λ us. at n first guard.line ∷ us) (append_assoc (expr_words n 0 guard.value) (at n word guard.behind ∷ []) ws)

-- the same of a `for`
abbrev pub for_words : ℕ → ForHead → List Word
for_words n h =
    at n k.For h.line ∷ (name_at n h.name ∷ (at n k.Becomes h.becomes ∷ (expr_words n 0 h.first
    ++ at n (way_kind h.toward.item) h.toward.line ∷ (expr_words n 0 h.last ++ at n k.Do h.do_line ∷ []))))

abbrev pub IsForHead : ℕ → ℕ → ForHead → List Word → Type 0
IsForHead n line h ws = at n k.For line ∷ ws ≡ for_words n h

pub behind_for_head : (n : ℕ) (h : ForHead) (ws : List Word)
    → for_words n h ++ ws
    ≡ at n k.For h.line ∷ (name_at n h.name ∷ (at n k.Becomes h.becomes ∷ (expr_words n 0 h.first
    ++ at n (way_kind h.toward.item) h.toward.line ∷ (expr_words n 0 h.last ++ at n k.Do h.do_line ∷ ws))))
behind_for_head n h ws =
    let way_word = at n (way_kind h.toward.item) h.toward.line in
    let front = λ (us : List Word). at n k.For h.line ∷ (name_at n h.name ∷ (at n k.Becomes h.becomes ∷ us)) in
    ap front (append_assoc (expr_words n 0 h.first)
    (way_word ∷ (expr_words n 0 h.last ++ at n k.Do h.do_line ∷ [])) ws)
    ∙ ap (λ us. front (expr_words n 0 h.first ++ way_word ∷ us))
    (append_assoc (expr_words n 0 h.last) (at n k.Do h.do_line ∷ []) ws)

abbrev pub IsArgument : ℕ → Argument → List Word → Type 0
IsArgument n argument ws = ws ≡ argument_words n argument

-- parts of which a tree is known
module _ (most n : ℕ) (fits : n ≤ NESTING_LIMIT) where
  pub an_expr : ReadsSome (IsExpr n 0) Any (expr most n 0)
  an_expr = record { reads = reads_an_expr most n 0 fits; some = (zero_expr, zero_word n ∷ [], refl) }

  pub a_mark : (kind : Kind) → (k.EndOfText ≡ kind → ⊥) → ReadsSome (IsTaken n kind) Any (mark kind)
  a_mark kind goes_on = record { reads = reads_mark n fits kind goes_on; some = (0, at n kind 0 ∷ [], refl) }

  an_ident : ReadsSome (IsIdent n) Any ident
  an_ident = record { reads = reads_ident n fits; some = (zero_name, name_at n zero_name ∷ [], refl) }

  a_variable : (name : Ident)
      → ReadsSome (λ v ws. IsVariable n 0 v (name_at n name ∷ ws)) Any (variable most n 0 name)
  a_variable name = record { reads = reads_a_variable most n 0 name fits; some = (tree.whole name, [], refl) }

  -- the way of a `for`
  abbrev pub IsWay : Lined Way → List Word → Type 0
  IsWay toward ws = ws ≡ at n (way_kind toward.item) toward.line ∷ []

  reads_toward : (toward : Lined Way) → (k.EndOfText ≡ way_kind toward.item → ⊥)
      → ReadsAt (a_token (way_kind toward.item) nothing toward.line) IsWay Any (skip (done toward))
  reads_toward toward goes_on =
      let w = at n (way_kind toward.item) toward.line in
      reads_skip IsWay Any w (done toward) goes_on (sound_says n (way_kind toward.item) nothing toward.line fits)
      (λ ts. reads_done (λ x ws. IsWay x (w ∷ ws)) Any (head ts) toward refl tt ts refl)

  reads_way_at : (kind : Kind) (payload : Payload) (line : ℕ)
      → ReadsAt (a_token kind payload line) IsWay Any (way_at kind payload line)
  reads_way_at k.To nothing line = reads_toward (record { item = way.Up; line = line }) (λ e. cc)
  reads_way_at k.Downto nothing line = reads_toward (record { item = way.Down; line = line }) (λ e. cc)
  reads_way_at kind payload line =
      reads_wrong IsWay Any (a_token kind payload line) (record { item = way.Up; line = 0 }) (at n k.To 0) [] refl

  a_way : ReadsSome IsWay Any (look way_at)
  a_way =
      record {
        reads = reads_look IsWay Any way_at reads_way_at;
        some = (record { item = way.Up; line = 0 }, at n k.To 0 ∷ [], refl);
      }

  pub a_guard : (first word : Kind) (line : ℕ) → (k.EndOfText ≡ word → ⊥)
      → ReadsSome (IsGuard n first word line) Any (guard_by most n word line)
  a_guard first word line goes_on =
      let guard : Expr → ℕ → Guard = λ e behind. record { line = line; value = e; behind = behind } in
      reads_then (IsExpr n 0) Any (IsGuard n first word line) Any (expr most n 0)
      (λ e. bind (mark word) (λ behind. done (guard e behind))) an_expr
      (λ e us is. reads_last (IsTaken n word) Any (λ g vs. IsGuard n first word line g (us ++ vs)) Any (mark word)
      (guard e) (a_mark word goes_on) (λ behind vs also. rw (is, also) refl) (λ behind t any. tt))

  pub a_for_head : (line : ℕ) → ReadsSome (IsForHead n line) Any (for_head_by most n line)
  a_for_head line =
      let R = IsForHead n line in
      let made : Ident → ℕ → Expr → Lined Way → Expr → ℕ → ForHead = λ name becomes first toward last do_line.
      record {
        line = line;
        name = name;
        becomes = becomes;
        first = first;
        toward = toward;
        last = last;
        do_line = do_line;
      } in
      let behind_last = λ (name : Ident) (becomes : ℕ) (first : Expr) (toward : Lined Way) (last : Expr).
      bind (mark k.Do) (λ do_line. done (made name becomes first toward last do_line)) in
      let behind_way = λ (name : Ident) (becomes : ℕ) (first : Expr) (toward : Lined Way).
      bind (expr most n 0) (behind_last name becomes first toward) in
      let behind_first = λ (name : Ident) (becomes : ℕ) (first : Expr).
      bind (look way_at) (behind_way name becomes first) in
      let behind_becomes = λ (name : Ident) (becomes : ℕ). bind (expr most n 0) (behind_first name becomes) in
      let behind_name = λ (name : Ident). bind (mark k.Becomes) (behind_becomes name) in
      reads_then (IsIdent n) Any R Any ident behind_name an_ident
      (λ name a ia. reads_then (IsTaken n k.Becomes) Any (λ h ws. R h (a ++ ws)) Any (mark k.Becomes)
      (behind_becomes name) (a_mark k.Becomes (λ e. cc))
      (λ becomes b ib. reads_then (IsExpr n 0) Any (λ h ws. R h (a ++ (b ++ ws))) Any (expr most n 0)
      (behind_first name becomes) an_expr
      (λ first c ic. reads_then IsWay Any (λ h ws. R h (a ++ (b ++ (c ++ ws)))) Any (look way_at)
      (behind_way name becomes first) a_way
      (λ toward d id. reads_then (IsExpr n 0) Any (λ h ws. R h (a ++ (b ++ (c ++ (d ++ ws))))) Any (expr most n 0)
      (behind_last name becomes first toward) an_expr
      (λ last f if_ok. reads_last (IsTaken n k.Do) Any (λ h ws. R h (a ++ (b ++ (c ++ (d ++ (f ++ ws)))))) Any
      (mark k.Do) (made name becomes first toward last) (a_mark k.Do (λ e. cc))
      (λ do_line g ig. rw (ia, ib, ic, id, if_ok, ig) refl) (λ do_line t any. tt))))))

  -- arguments
  abbrev IsWidth : Option (Behind Expr) → List Word → Type 0
  IsWidth width ws = ws ≡ words_if (width_words n) width

  reads_width_at : (kind : Kind) (payload : Payload) (line : ℕ)
      → ReadsAt (a_token kind payload line) IsWidth Any (width_at most n kind payload line)
  reads_width_at k.Colon nothing line =
      let w = at n k.Colon line in
      let make : Expr → Option (Behind Expr) = λ e. Some (record { line = line; item = e }) in
      reads_skip IsWidth Any w (bind (expr most n 0) (λ e. done (make e))) (λ e. cc)
      (sound_says n k.Colon nothing line fits)
      (reads_last (IsExpr n 0) Any (λ x ws. IsWidth x (w ∷ ws)) Any (expr most n 0) make an_expr
      (λ e us is. rw is refl) (λ e t any. tt)).reads
  reads_width_at kind payload line = reads_done IsWidth Any (a_token kind payload line) None refl tt

  pub an_argument : ReadsSome (IsArgument n) Any (argument_by most n)
  an_argument =
      let make : Expr → Option (Behind Expr) → Argument = λ e width. record { value = e; width = width } in
      reads_then (IsExpr n 0) Any (IsArgument n) Any (expr most n 0)
      (λ e. bind (look (width_at most n)) (λ width. done (make e width))) an_expr
      (λ e us is. reads_last IsWidth Any (λ x ws. IsArgument n x (us ++ ws)) Any (look (width_at most n)) (make e)
      (record { reads = reads_look IsWidth Any (width_at most n) reads_width_at; some = (None, [], refl) })
      (λ width vs also. rw (is, also) refl) (λ width t any. tt))

  -- an assignment behind the name of its variable
  pub an_assignment : (name : Ident)
      → ReadsSome (λ s ws. IsPlain n s (name_at n name ∷ ws)) BehindPlain (assignment_by most n name)
  an_assignment name =
      let R = λ (s : Plain) (ws : List Word). IsPlain n s (name_at n name ∷ ws) in
      let make = λ (v : Variable) (line : ℕ) (e : Expr). tree.assignment v line e in
      let behind_becomes = λ (v : Variable) (line : ℕ). bind (expr most n 0) (λ e. done (make v line e)) in
      reads_then (λ v ws. IsVariable n 0 v (name_at n name ∷ ws)) Any R BehindPlain (variable most n 0 name)
      (λ v. bind (mark k.Becomes) (behind_becomes v)) (a_variable name)
      (λ v us is. reads_then (IsTaken n k.Becomes) Any (λ s ws. R s (us ++ ws)) BehindPlain (mark k.Becomes)
      (behind_becomes v) (a_mark k.Becomes (λ e. cc))
      (λ line vs also. reads_last (IsExpr n 0) Any (λ s ws. R s (us ++ (vs ++ ws))) BehindPlain (expr most n 0)
      (make v line) an_expr
      (λ e xs third. (
        rw (also, third) (ap (λ all. all ++ at n k.Becomes line ∷ expr_words n 0 e) is),
        tt,
      ))
      (λ e t any. tt)))

abbrev pub IsArguments : ℕ → Arguments → List Word → Type 0
IsArguments n arguments ws = ws ≡ arguments_words n arguments

abbrev zero_argument : Argument
zero_argument = record { value = zero_expr; width = None }

module _ (most n : ℕ) (fits : n ≤ NESTING_LIMIT) where
  some_arguments : ReadsSome (AreItems n (argument_words n)) Any (items_by (argument_by most n) most)
  some_arguments =
      record {
        reads = reads_items n (argument_words n) fits (argument_by most n) (an_argument most n fits).reads zero_argument
            most;
        some = (single zero_argument, zero_word n ∷ [], refl);
      }

module _ (most n : ℕ) (fits : n ≤ NESTING_LIMIT) where
  reads_arguments : (line : ℕ)
      → ReadsAt (a_token k.LeftParenthesis nothing line) (IsArguments n) Any (arguments_by most n line)
  reads_arguments line =
      let w = at (n + 1) k.LeftParenthesis line in
      let make : Separated Argument → ℕ → Arguments = λ items closed.
      record { opened = line; items = items; closed = closed } in
      let further = λ (items : Separated Argument). bind (mark k.RightParenthesis)
      (λ closed. done (make items closed)) in
      reads_form (IsArguments n) Any n k.LeftParenthesis line
      (bind (items_by (argument_by most (n + 1)) most) further) (λ e. cc)
      (make (single zero_argument) 0, zero_word (n + 1) ∷ at (n + 1) k.RightParenthesis 0 ∷ [], refl)
      (λ inner. (reads_then (AreItems (n + 1) (argument_words (n + 1))) Any (λ a ws. IsArguments n a (w ∷ ws)) Any
      (items_by (argument_by most (n + 1)) most) further (some_arguments most (n + 1) inner)
      (λ items us is. reads_last (IsTaken (n + 1) k.RightParenthesis) Any (λ a ws. IsArguments n a (w ∷ (us ++ ws)))
      Any (mark k.RightParenthesis) (make items) (a_mark most (n + 1) inner k.RightParenthesis (λ e. cc))
      (λ closed vs also. rw (is, also) refl) (λ closed t any. tt))).reads)

  -- what stands behind the name that a statement begins with
  pub reads_behind_statement_name : (name : Ident) (kind : Kind) (payload : Payload) (line : ℕ)
      → ReadsAt (a_token kind payload line) (λ s ws. IsPlain n s (name_at n name ∷ ws)) BehindPlain
      (behind_statement_name most n name kind payload line)
  reads_behind_statement_name name k.LeftParenthesis nothing line =
      let R = λ (s : Plain) (ws : List Word). IsPlain n s (name_at n name ∷ ws) in
      let make = λ (arguments : Arguments). tree.procedure_call name (Some arguments) in
      let t = a_token k.LeftParenthesis nothing line in
      reads_bind_at (IsArguments n) Any R BehindPlain (arguments_by most n line) t (λ a. done (make a))
      (reads_arguments line)
      (λ a us u is any. reads_done (λ s ws. R s (us ++ ws)) BehindPlain u (make a) (rw (append-nil us, is) refl, tt) tt)
      (λ a us is. (make a, [], (rw (append-nil us, is) refl, tt)))
  reads_behind_statement_name name k.LeftBracket payload line = λ ts is. (an_assignment most n fits name).reads ts
  reads_behind_statement_name name k.Dot payload line = λ ts is. (an_assignment most n fits name).reads ts
  reads_behind_statement_name name k.Caret payload line = λ ts is. (an_assignment most n fits name).reads ts
  reads_behind_statement_name name k.Becomes payload line = λ ts is. (an_assignment most n fits name).reads ts
  reads_behind_statement_name name kind payload line =
      reads_done (λ s ws. IsPlain n s (name_at n name ∷ ws)) BehindPlain (a_token kind payload line)
      (tree.procedure_call name None) (refl, tt) tt
