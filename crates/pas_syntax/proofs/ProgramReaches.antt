-- The readers of routines and programs take the words of each tree, to the first with a fault.
use Rattle.std.proofs.Common.{◌≡◌, refl, sym, ap, subst, ◌∙◌, ℕ, suc, ◌+◌, ◌-◌, ◌≤◌, ◌<◌, arith, List, [], ◌∷◌}
use Rattle.std.proofs.Common.{◌++◌, length, append_assoc, Ok, Option, Some, None}
use Rattle.std.specs.List.{flat_map, All}
use Rattle.std.proofs.lemmas.List.{append-nil, length-append}
use Rattle.std.proofs.lemmas.List.Elements.{All-head, All-tail}
use Rattle.std.proofs.lemmas.Slice.Eq.{bytes_eq-Decides}
use Rattle.pas_tokens.specs.declared.kinds.Kind.{Kind}
use Rattle.pas_tokens.specs.declared.kinds.Kind.TheVariants as k
use Rattle.pas_tokens.specs.Cutting.{Payload, nothing, spelling}
use Rattle.pas_tokens.specs.Tokens.{Token}
use Rattle.pas_syntax.specs.Tree as tree
use Rattle.pas_syntax.specs.Tree.{Ident, Behind, Idents, TypeName, Labels, ConstantRow, TypeRow, VariableRow, Rows}
use Rattle.pas_syntax.specs.Tree.{Parameters, Heading, Compound, Body, Routine, ProgramParameters, forward_name}
use Rattle.pas_syntax.specs.Words.{Word, says, at, name_at, words_if, idents_words, labels_words, constant_row_words}
use Rattle.pas_syntax.specs.Words.{type_row_words, variable_row_words, rows_words, parameters_words, result_words}
use Rattle.pas_syntax.specs.Words.{heading_words, compound_words, body_words, routine_words}
use Rattle.pas_syntax.specs.Words.{program_parameters_words}
use Rattle.pas_syntax.specs.Parse.{tokens_in}
use Rattle.pas_syntax.specs.Nearest.{IsNearestBody}
use Rattle.pas_syntax.specs.inner.Prog.{Prog, done, bind, Out, run, head, ends, turns}
use Rattle.pas_syntax.specs.inner.Readers.{ident}
use Rattle.pas_syntax.specs.inner.Marks.{mark}
use Rattle.pas_syntax.specs.inner.TypeReaders.{idents_by}
use Rattle.pas_syntax.specs.inner.StatementReaders.{compound}
use Rattle.pas_syntax.specs.inner.DeclarationReaders.{labels, constant_rows, type_rows, variable_rows, parameters}
use Rattle.pas_syntax.specs.inner.DeclarationReaders.{result_type, procedure_behind, function_behind, forward_if}
use Rattle.pas_syntax.specs.inner.DeclarationReaders.{block_by, body_at, body, routine_by, behind_routine, routines}
use Rattle.pas_syntax.specs.inner.DeclarationReaders.{program_parameters_at, program_parameters, ProgramHead}
use Rattle.pas_syntax.specs.inner.DeclarationReaders.{program_head, Declarations, declarations, Front, front}
use Rattle.pas_syntax.proofs.Judged.{Reaches, tokens_append, reaches_bind, reaches_last, reaches_skip}
use Rattle.pas_syntax.proofs.ReachLemmas.{reaches_more, reaches_end, reaches_look}
use Rattle.pas_syntax.proofs.WordLemmas.{sound_says}
use Rattle.pas_syntax.proofs.MarkLemmas.{reaches_mark, reaches_ident}
use Rattle.pas_syntax.proofs.StatementReaches.{reaches_a_compound}
use Rattle.pas_syntax.proofs.DeclarationReads.{none_fits, one_fits}
use Rattle.pas_syntax.proofs.PhraseReaches.{reaches_items_within}
use Rattle.pas_syntax.proofs.DeclarationReaches.{reaches_labels, reaches_constant_rows, reaches_type_rows}
use Rattle.pas_syntax.proofs.DeclarationReaches.{reaches_variable_rows, reaches_parameters, reaches_result}
use Rattle.pas_syntax.proofs.ProgramReads.{HasNearest, head_words, declarations_words, front_words, IsNearestFront}

-- where the compound statement of a program stands, and what may stand there in its place
abbrev AtBegin : Kind → Type 0
AtBegin k.Begin = Unit {0}
AtBegin kind = ⊥

abbrev AtRoutines : Kind → Type 0
AtRoutines k.Procedure = Unit {0}
AtRoutines k.Function = Unit {0}
AtRoutines kind = AtBegin kind

abbrev AtVariables : Kind → Type 0
AtVariables k.Var = Unit {0}
AtVariables kind = AtRoutines kind

abbrev AtTypes : Kind → Type 0
AtTypes k.Type = Unit {0}
AtTypes kind = AtVariables kind

abbrev AtConstants : Kind → Type 0
AtConstants k.Const = Unit {0}
AtConstants kind = AtTypes kind

variables_there : (kind : Kind) → AtRoutines kind → AtVariables kind
variables_there k.Var e = tt
variables_there kind e = e

types_there : (kind : Kind) → AtVariables kind → AtTypes kind
types_there k.Type e = tt
types_there kind e = e

constants_there : (kind : Kind) → AtTypes kind → AtConstants kind
constants_there k.Const e = tt
constants_there kind e = e

-- what stands at the first word of rows and of what stands behind them
rows_start : {A : Type 0} (P Q : Kind → Type 0) (kind : Kind) (words : A → List Word) (rows : Option (Rows A))
    (rest : List Token) → ((other : Kind) → Q other → P other) → P kind → Q (head rest).kind
    → P (head (tokens_in (words_if (rows_words kind words) rows) ++ rest)).kind
rows_start P Q kind words None rest further here e = further (head rest).kind e
rows_start P Q kind words (Some rows) rest further here e = here

-- headings, behind their words
module _ (most : ℕ) where
  reaches_procedure : (line : ℕ) (name : Ident) (all : Option Parameters) (rest : List Token)
      → length (words_if parameters_words all) < most → (k.LeftParenthesis ≡ (head rest).kind → ⊥)
      → Reaches (procedure_behind most line) (name_at 0 name ∷ words_if parameters_words all)
      (Ok (tree.procedure line name all, rest)) rest
  reaches_procedure line name all rest less other =
      let make = λ (name : Ident) (all : Option Parameters). tree.procedure line name all in
      let ws = words_if parameters_words all in
      reaches_bind ident (λ name. bind (parameters most) (λ all. done (make name all))) (name_at 0 name ∷ []) ws name
      (Ok (make name all, rest)) rest (reaches_ident 0 none_fits name (tokens_in ws ++ rest))
      (reaches_last (parameters most) (λ all. done (make name all)) ws all rest
      (reaches_parameters most all rest less other))

  result_starts : (result : Option (Behind TypeName)) (rest : List Token) → (k.LeftParenthesis ≡ (head rest).kind → ⊥)
      → k.LeftParenthesis ≡ (head (tokens_in (words_if result_words result) ++ rest)).kind → ⊥
  result_starts None rest other e = other e
  result_starts (Some result) rest other e = cc

  reaches_function : (line : ℕ) (name : Ident) (all : Option Parameters) (result : Option (Behind TypeName))
      (rest : List Token) → length (words_if parameters_words all) < most
      → (k.LeftParenthesis ≡ (head rest).kind → ⊥) → (k.Colon ≡ (head rest).kind → ⊥)
      → Reaches (function_behind most line) (name_at 0 name ∷ (words_if parameters_words all
      ++ words_if result_words result)) (Ok (tree.function line name all result, rest)) rest
  reaches_function line name all result rest less other no_colon =
      let make = λ (name : Ident) (all : Option Parameters) (type : Option (Behind TypeName)).
      tree.function line name all type in
      let behind_all = λ (name : Ident) (all : Option Parameters). bind result_type
      (λ type. done (make name all type)) in
      let us = words_if parameters_words all in
      let vs = words_if result_words result in
      let r = Ok (make name all result, rest) in
      reaches_bind ident (λ name. bind (parameters most) (behind_all name)) (name_at 0 name ∷ []) (us ++ vs) name r rest
      (reaches_ident 0 none_fits name (tokens_in (us ++ vs) ++ rest))
      (reaches_bind (parameters most) (behind_all name) us vs all r rest
      (reaches_parameters most all (tokens_in vs ++ rest) less (result_starts result rest other))
      (reaches_last result_type (λ type. done (make name all type)) vs result rest
      (reaches_result result rest no_colon)))

  -- what stands behind a heading
  no_forward : (kind : Kind) (payload : Payload) (line : ℕ) → (k.Name ≡ kind → ⊥)
      → body_at most kind payload line ≡ block_by most
  no_forward k.Name payload line other = absurd (other refl)
  no_forward kind payload line other = refl

  labels_start : (all : Option Labels) (ws : List Word) (rest : List Token)
      → (k.Name ≡ (head (tokens_in ws ++ rest)).kind → ⊥)
      → k.Name ≡ (head (tokens_in (words_if labels_words all ++ ws) ++ rest)).kind → ⊥
  labels_start None ws rest other e = other e
  labels_start (Some all) ws rest other e = cc

  variables_start : (kind : Kind) (rows : Option (Rows VariableRow)) (body : Compound) (rest : List Token)
      → (k.Var ≡ kind → ⊥) → (k.Begin ≡ kind → ⊥)
      → kind ≡ (head (tokens_in (words_if (rows_words k.Var variable_row_words) rows ++ compound_words body)
      ++ rest)).kind → ⊥
  variables_start kind None body rest no_var no_begin e = no_begin (sym e)
  variables_start kind (Some rows) body rest no_var no_begin e = no_var (sym e)

  reaches_body : (all : Body) (rest : List Token) → IsNearestBody all → length (body_words all) < most
      → Reaches (body most) (body_words all) (Ok (all, rest)) rest
  reaches_body (tree.forward line) rest nearest less =
      ap (λ b. run (forward_if b line) ((says 0 k.Name (spelling forward_name) line).token ∷ rest))
      ((bytes_eq-Decides forward_name forward_name).1 refl)
      ∙ reaches_skip (done (tree.forward line)) (says 0 k.Name (spelling forward_name) line) []
      (Ok (tree.forward line, rest)) rest (sound_says 0 k.Name (spelling forward_name) line none_fits) refl
  reaches_body (tree.block all rows main) rest nearest less =
      let make = λ (all : Option Labels) (rows : Option (Rows VariableRow)) (main : Compound). tree.block all
      rows main in
      let behind_rows = λ (all : Option Labels) (rows : Option (Rows VariableRow)). bind (compound most 0)
      (λ main. done (make all rows main)) in
      let us = words_if labels_words all in
      let vs = words_if (rows_words k.Var variable_row_words) rows in
      let ws = compound_words main in
      let whole : length (us ++ (vs ++ ws)) ≡ length us + length (vs ++ ws) = length-append us (vs ++ ws) in
      let count : length (vs ++ ws) ≡ length vs + length ws = length-append vs ws in
      let short : length us < most = omega (arith, less, whole) in
      let shorter : length vs < most = omega (arith, less, whole, count) in
      let shortest : length ws < suc most = omega (arith, less, whole, count) in
      let first = head (tokens_in (us ++ (vs ++ ws)) ++ rest) in
      let r = Ok (make all rows main, rest) in
      reaches_look (body_at most) (block_by most) (us ++ (vs ++ ws)) r rest
      (no_forward first.kind first.payload first.line
      (labels_start all (vs ++ ws) rest (variables_start k.Name rows main rest (λ e. cc) (λ e. cc))))
      (reaches_bind (labels most) (λ all. bind (variable_rows most) (behind_rows all)) us (vs ++ ws) all r rest
      (reaches_labels most all (tokens_in (vs ++ ws) ++ rest) short
      (variables_start k.Label rows main rest (λ e. cc) (λ e. cc)))
      (reaches_bind (variable_rows most) (behind_rows all) vs ws rows r rest
      (reaches_variable_rows most rows (tokens_in ws ++ rest) shorter (λ e. cc) (λ e. cc))
      (reaches_last (compound most 0) (λ main. done (make all rows main)) ws main rest
      (reaches_a_compound most 0 main rest none_fits nearest shortest))))

  -- a routine behind its first word
  reaches_routine_by : (heading : Prog Heading) (us : List Word) (routine : Routine) (rest : List Token)
      → HasNearest routine → length (body_words routine.body) < most
      → ((ws : List Word) → Reaches heading us (Ok (
        routine.heading,
        tokens_in (at 0 k.Semicolon routine.behind_heading ∷ ws) ++ rest,
      )) (tokens_in (at 0 k.Semicolon routine.behind_heading ∷ ws) ++ rest))
      → Reaches (routine_by most heading) (us ++ at 0 k.Semicolon routine.behind_heading ∷ (body_words routine.body
      ++ at 0 k.Semicolon routine.end ∷ [])) (Ok (routine, rest)) rest
  reaches_routine_by heading us routine rest nearest less heads =
      let make : Heading → ℕ → Body → ℕ → Routine = λ head behind all end.
      record { heading = head; behind_heading = behind; body = all; end = end } in
      let behind_body = λ (head : Heading) (behind : ℕ) (all : Body). bind (mark k.Semicolon)
      (λ end. done (make head behind all end)) in
      let behind_heading = λ (head : Heading) (behind : ℕ). bind (body most) (behind_body head behind) in
      let last = at 0 k.Semicolon routine.end ∷ [] in
      let ws = body_words routine.body in
      let w = at 0 k.Semicolon routine.behind_heading in
      let r = Ok (routine, rest) in
      reaches_bind heading (λ head. bind (mark k.Semicolon) (behind_heading head)) us
      (w ∷ (ws ++ last)) routine.heading r
      rest (heads (ws ++ last))
      (reaches_bind (mark k.Semicolon) (behind_heading routine.heading) (w ∷ []) (ws ++ last) routine.behind_heading r
      rest (reaches_mark 0 none_fits k.Semicolon routine.behind_heading (tokens_in (ws ++ last) ++ rest))
      (reaches_bind (body most) (behind_body routine.heading routine.behind_heading) ws last routine.body r rest
      (reaches_body routine.body (tokens_in last ++ rest) nearest less)
      (reaches_last (mark k.Semicolon) (λ end. done (make routine.heading routine.behind_heading routine.body end)) last
      routine.end rest (reaches_mark 0 none_fits k.Semicolon routine.end rest))))

  abbrev rest_words : ℕ → Body → ℕ → List Word
  rest_words behind all end = at 0 k.Semicolon behind ∷ (body_words all ++ at 0 k.Semicolon end ∷ [])

  -- one turn of the loop of routines
  reaches_turn : (found : List Routine) (left_turns : ℕ) (heading : Heading) (behind : ℕ) (all : Body) (end : ℕ)
      (vs : List Word) (r : Out (List Routine)) (rest : List Token) → IsNearestBody all
      → length (heading_words heading ++ rest_words behind all end) < most
      → Reaches (turns (behind_routine most) left_turns (found ++ record {
        heading = heading;
        behind_heading = behind;
        body = all;
        end = end;
      } ∷ [])) vs r rest
      → Reaches (turns (behind_routine most) (suc left_turns) found)
      ((heading_words heading ++ rest_words behind all end) ++ vs) r rest
  reaches_turn found left_turns (tree.procedure line name ps) behind all end vs r rest nearest less go_on =
      let routine : Routine = record {
        heading = tree.procedure line name ps;
        behind_heading = behind;
        body = all;
        end = end;
      } in
      let us = name_at 0 name ∷ words_if parameters_words ps in
      let ws = us ++ rest_words behind all end in
      let last = at 0 k.Semicolon end ∷ [] in
      let count : length ws ≡ length us + length (rest_words behind all end) = length-append us (rest_words behind all
      end) in
      let inside : length (body_words all ++ last) ≡ length (body_words all) + length last
      = length-append (body_words all) last in
      let short : length (words_if parameters_words ps) < most = omega (arith, less, count) in
      let shorter : length (body_words all) < most = omega (arith, less, count, inside) in
      let one = routine_by most (procedure_behind most line) in
      reaches_more (behind_routine most) left_turns found (at 0 k.Procedure line) (found ++ routine ∷ []) ws vs
      (bind one (λ next. done (found ++ next ∷ []))) r rest refl (sound_says 0 k.Procedure nothing line none_fits)
      (reaches_last one (λ next. done (found ++ next ∷ [])) ws routine (tokens_in vs ++ rest)
      (reaches_routine_by (procedure_behind most line) us routine (tokens_in vs ++ rest) nearest shorter
      (λ xs. reaches_procedure line name ps (tokens_in (at 0 k.Semicolon behind ∷ xs) ++ (tokens_in vs ++ rest)) short
      (λ e. cc))))
      go_on
  reaches_turn found left_turns (tree.function line name ps result) behind all end vs r rest nearest less go_on =
      let routine : Routine = record {
        heading = tree.function line name ps result;
        behind_heading = behind;
        body = all;
        end = end;
      } in
      let parts = words_if parameters_words ps ++ words_if result_words result in
      let us = name_at 0 name ∷ parts in
      let ws = us ++ rest_words behind all end in
      let last = at 0 k.Semicolon end ∷ [] in
      let count : length ws ≡ length us + length (rest_words behind all end) = length-append us (rest_words behind all
      end) in
      let inside : length (body_words all ++ last) ≡ length (body_words all) + length last
      = length-append (body_words all) last in
      let both : length parts ≡ length (words_if parameters_words ps) + length (words_if result_words result)
      = length-append (words_if parameters_words ps) (words_if result_words result) in
      let short : length (words_if parameters_words ps) < most = omega (arith, less, count, both) in
      let shorter : length (body_words all) < most = omega (arith, less, count, inside) in
      let one = routine_by most (function_behind most line) in
      reaches_more (behind_routine most) left_turns found (at 0 k.Function line) (found ++ routine ∷ []) ws vs
      (bind one (λ next. done (found ++ next ∷ []))) r rest refl (sound_says 0 k.Function nothing line none_fits)
      (reaches_last one (λ next. done (found ++ next ∷ [])) ws routine (tokens_in vs ++ rest)
      (reaches_routine_by (function_behind most line) us routine (tokens_in vs ++ rest) nearest shorter
      (λ xs. reaches_function line name ps result (tokens_in (at 0 k.Semicolon behind ∷ xs) ++ (tokens_in vs ++ rest))
      short (λ e. cc) (λ e. cc))))
      go_on

  heading_counts : (heading : Heading) (ws : List Word) → 1 ≤ length (heading_words heading ++ ws)
  heading_counts (tree.procedure line name ps) ws = omega arith
  heading_counts (tree.function line name ps result) ws = omega arith

  few_routines : (all : List Routine) → length all ≤ length (flat_map routine_words all)
  few_routines [] = omega arith
  few_routines (next ∷ all) =
      let ws = flat_map routine_words all in
      let count : length (routine_words next ++ ws) ≡ length (routine_words next) + length ws
      = length-append (routine_words next) ws in
      let one = heading_counts next.heading (rest_words next.behind_heading next.body next.end) in
      omega (arith, few_routines all, count, one)

  reaches_routines_on : (all found : List Routine) (left_turns : ℕ) (r : Out (List Routine)) (rest : List Token)
      → All HasNearest all → length (flat_map routine_words all) < most
      → Reaches (turns (behind_routine most) left_turns (found ++ all)) [] r rest
      → Reaches (turns (behind_routine most) (left_turns + length all) found) (flat_map routine_words all) r rest
  reaches_routines_on [] found left_turns r rest nearest less go_on =
      let same : left_turns ≡ left_turns + 0 = omega arith in
      subst (λ m. Reaches (turns (behind_routine most) m found) [] r rest) same
      (subst (λ all. Reaches (turns (behind_routine most) left_turns all) [] r rest) (append-nil found) go_on)
  reaches_routines_on (next ∷ all) found left_turns r rest nearest less go_on =
      let vs = flat_map routine_words all in
      let same : suc (left_turns + length all) ≡ left_turns + length (next ∷ all) = omega arith in
      let count : length (routine_words next ++ vs) ≡ length (routine_words next) + length vs
      = length-append (routine_words next) vs in
      let short : length (routine_words next) < most = omega (arith, less, count) in
      let shorter : length vs < most = omega (arith, less, count) in
      subst (λ m. Reaches (turns (behind_routine most) m found) (routine_words next ++ vs) r rest) same
      (reaches_turn found (left_turns + length all) next.heading next.behind_heading next.body next.end vs r rest
      (All-head HasNearest next all nearest) short
      (reaches_routines_on all (found ++ next ∷ []) left_turns r rest (All-tail HasNearest next all nearest) shorter
      (subst (λ xs. Reaches (turns (behind_routine most) left_turns xs) [] r rest)
      (sym (append_assoc found (next ∷ []) all)) go_on)))

  no_routine : (all : List Routine) (kind : Kind) (payload : Payload) (line : ℕ) → AtBegin kind
      → behind_routine most all kind payload line ≡ ends
  no_routine all k.Begin payload line e = refl
  no_routine all kind payload line e = absurd e

  reaches_routines : (all : List Routine) (rest : List Token) → All HasNearest all
      → length (flat_map routine_words all) < most → AtBegin (head rest).kind
      → Reaches (routines most) (flat_map routine_words all) (Ok (all, rest)) rest
  reaches_routines all rest nearest less e =
      let few = few_routines all in
      let left_turns = most - suc (length all) in
      let same : suc left_turns + length all ≡ most = omega (arith, less, few) in
      subst (λ m. Reaches (turns (behind_routine most) m []) (flat_map routine_words all) (Ok (all, rest)) rest) same
      (reaches_routines_on all [] (suc left_turns) (Ok (all, rest)) rest nearest less
      (reaches_end (behind_routine most) left_turns all rest
      (no_routine all (head rest).kind (head rest).payload (head rest).line e)))

  heading_starts : (heading : Heading) (ws : List Word) (rest : List Token)
      → AtRoutines (head (tokens_in (heading_words heading ++ ws) ++ rest)).kind
  heading_starts (tree.procedure line name ps) ws rest = tt
  heading_starts (tree.function line name ps result) ws rest = tt

  begin_there : (kind : Kind) → AtBegin kind → AtRoutines kind
  begin_there k.Procedure e = absurd e
  begin_there k.Function e = absurd e
  begin_there kind e = e

  routines_start : (all : List Routine) (rest : List Token) → AtBegin (head rest).kind
      → AtRoutines (head (tokens_in (flat_map routine_words all) ++ rest)).kind
  routines_start [] rest e = begin_there (head rest).kind e
  routines_start (next ∷ all) rest e =
      subst (λ ws. AtRoutines (head (tokens_in ws ++ rest)).kind)
      (sym (append_assoc (heading_words next.heading) (rest_words next.behind_heading next.body next.end)
      (flat_map routine_words all)))
      (heading_starts next.heading (rest_words next.behind_heading next.body next.end ++ flat_map routine_words all)
      rest)

  -- the head of a program
  no_names : (kind : Kind) (payload : Payload) (line : ℕ) → (k.LeftParenthesis ≡ kind → ⊥)
      → program_parameters_at most kind payload line ≡ done None
  no_names k.LeftParenthesis payload line other = absurd (other refl)
  no_names kind payload line other = refl

  reaches_names : (all : Option ProgramParameters) (rest : List Token)
      → length (words_if program_parameters_words all) < most → (k.LeftParenthesis ≡ (head rest).kind → ⊥)
      → Reaches (program_parameters most) (words_if program_parameters_words all) (Ok (all, rest)) rest
  reaches_names None rest less other =
      reaches_look (program_parameters_at most) (done None) [] (Ok (None, rest)) rest
      (no_names (head rest).kind (head rest).payload (head rest).line other) refl
  reaches_names (Some all) rest less other =
      let us = idents_words 1 all.names in
      let last = at 1 k.RightParenthesis all.closed ∷ [] in
      let count : length (us ++ last) ≡ length us + length last = length-append us last in
      let short : length us < most = omega (arith, less, count) in
      let make : Idents → ℕ → Option ProgramParameters = λ names closed.
      Some (record { opened = all.opened; names = names; closed = closed }) in
      let further = λ (names : Idents). bind (mark k.RightParenthesis) (λ closed. done (make names closed)) in
      let r = Ok (Some all, rest) in
      reaches_skip (bind (idents_by most) further) (at 1 k.LeftParenthesis all.opened) (us ++ last) r rest
      (sound_says 1 k.LeftParenthesis nothing all.opened one_fits)
      (reaches_bind (idents_by most) further us last all.names r rest
      (reaches_items_within 1 (λ name. name_at 1 name ∷ []) one_fits ident most (λ kind. Unit {0}) tt
      (λ name rest less any. reaches_ident 1 one_fits name rest) all.names (tokens_in last ++ rest) short tt refl)
      (reaches_last (mark k.RightParenthesis) (λ closed. done (make all.names closed)) last all.closed rest
      (reaches_mark 1 one_fits k.RightParenthesis all.closed rest)))

  reaches_head : (all : ProgramHead) (rest : List Token) → length (head_words all) < most
      → Reaches (program_head most) (head_words all) (Ok (all, rest)) rest
  reaches_head all rest less =
      let us = words_if program_parameters_words all.parameters in
      let last = at 0 k.Semicolon all.end ∷ [] in
      let count : length (us ++ last) ≡ length us + length last = length-append us last in
      let short : length us < most = omega (arith, less, count) in
      let make : ℕ → Ident → Option ProgramParameters → ℕ → ProgramHead = λ line name all end.
      record { line = line; name = name; parameters = all; end = end } in
      let behind_names = λ (line : ℕ) (name : Ident) (all : Option ProgramParameters). bind (mark k.Semicolon)
      (λ end. done (make line name all end)) in
      let behind_name = λ (line : ℕ) (name : Ident). bind (program_parameters most) (behind_names line name) in
      let n = name_at 0 all.name in
      let r = Ok (all, rest) in
      reaches_bind (mark k.Program) (λ line. bind ident (behind_name line)) (at 0 k.Program all.line ∷ [])
      (n ∷ (us ++ last)) all.line r rest
      (reaches_mark 0 none_fits k.Program all.line (tokens_in (n ∷ (us ++ last)) ++ rest))
      (reaches_bind ident (behind_name all.line) (n ∷ []) (us ++ last) all.name r rest
      (reaches_ident 0 none_fits all.name (tokens_in (us ++ last) ++ rest))
      (reaches_bind (program_parameters most) (behind_names all.line all.name) us last all.parameters r rest
      (reaches_names all.parameters (tokens_in last ++ rest) short (λ e. cc))
      (reaches_last (mark k.Semicolon) (λ end. done (make all.line all.name all.parameters end)) last all.end rest
      (reaches_mark 0 none_fits k.Semicolon all.end rest))))

  reaches_declarations : (all : Declarations) (rest : List Token) → All HasNearest all.routines
      → length (declarations_words all) < most → AtBegin (head rest).kind
      → Reaches (declarations most) (declarations_words all) (Ok (all, rest)) rest
  reaches_declarations all rest nearest less e =
      let make : Option Labels → Option (Rows ConstantRow) → Option (Rows TypeRow) → Option (Rows VariableRow)
      → List Routine → Declarations = λ labels constants types variables routines. record {
        labels = labels;
        constants = constants;
        types = types;
        variables = variables;
        routines = routines;
      } in
      let behind_variables = λ (l : Option Labels) (c : Option (Rows ConstantRow)) (t : Option (Rows TypeRow))
      (v : Option (Rows VariableRow)). bind (routines most) (λ all. done (make l c t v all)) in
      let behind_types = λ (l : Option Labels) (c : Option (Rows ConstantRow)) (t : Option (Rows TypeRow)).
      bind (variable_rows most) (behind_variables l c t) in
      let behind_constants = λ (l : Option Labels) (c : Option (Rows ConstantRow)). bind (type_rows most)
      (behind_types l c) in
      let behind_labels = λ (l : Option Labels). bind (constant_rows most) (behind_constants l) in
      let l = all.labels in
      let c = all.constants in
      let t = all.types in
      let v = all.variables in
      let ls = words_if labels_words l in
      let cs = words_if (rows_words k.Const constant_row_words) c in
      let ts = words_if (rows_words k.Type type_row_words) t in
      let vs = words_if (rows_words k.Var variable_row_words) v in
      let rs = flat_map routine_words all.routines in
      let one : length (ls ++ (cs ++ (ts ++ (vs ++ rs)))) ≡ length ls + length (cs ++ (ts ++ (vs ++ rs)))
      = length-append ls (cs ++ (ts ++ (vs ++ rs))) in
      let two : length (cs ++ (ts ++ (vs ++ rs))) ≡ length cs + length (ts ++ (vs ++ rs))
      = length-append cs (ts ++ (vs ++ rs)) in
      let three : length (ts ++ (vs ++ rs)) ≡ length ts + length (vs ++ rs) = length-append ts (vs ++ rs) in
      let four : length (vs ++ rs) ≡ length vs + length rs = length-append vs rs in
      let less_l : length ls < most = omega (arith, less, one) in
      let less_c : length cs < most = omega (arith, less, one, two) in
      let less_t : length ts < most = omega (arith, less, one, two, three) in
      let less_v : length vs < most = omega (arith, less, one, two, three, four) in
      let less_r : length rs < most = omega (arith, less, one, two, three, four) in
      let behind_v = tokens_in rs ++ rest in
      let behind_t = tokens_in (vs ++ rs) ++ rest in
      let behind_c = tokens_in (ts ++ (vs ++ rs)) ++ rest in
      let behind_l = tokens_in (cs ++ (ts ++ (vs ++ rs))) ++ rest in
      let at_v : AtRoutines (head behind_v).kind = routines_start all.routines rest e in
      let at_t : AtVariables (head behind_t).kind = subst (λ us. AtVariables (head us).kind)
      (sym (tokens_append vs rs rest))
      (rows_start AtVariables AtRoutines k.Var variable_row_words v behind_v variables_there tt at_v) in
      let at_c : AtTypes (head behind_c).kind = subst (λ us. AtTypes (head us).kind)
      (sym (tokens_append ts (vs ++ rs) rest))
      (rows_start AtTypes AtVariables k.Type type_row_words t behind_t types_there tt at_t) in
      let at_l : AtConstants (head behind_l).kind = subst (λ us. AtConstants (head us).kind)
      (sym (tokens_append cs (ts ++ (vs ++ rs)) rest))
      (rows_start AtConstants AtTypes k.Const constant_row_words c behind_c constants_there tt at_c) in
      let r = Ok (all, rest) in
      reaches_bind (labels most) behind_labels ls (cs ++ (ts ++ (vs ++ rs))) l r rest
      (reaches_labels most l behind_l less_l (λ is. subst AtConstants (sym is) at_l))
      (reaches_bind (constant_rows most) (behind_constants l) cs (ts ++ (vs ++ rs)) c r rest
      (reaches_constant_rows most c behind_c less_c (λ is. subst AtTypes (sym is) at_c)
      (λ is. subst AtTypes (sym is) at_c))
      (reaches_bind (type_rows most) (behind_types l c) ts (vs ++ rs) t r rest
      (reaches_type_rows most t behind_t less_t (λ is. subst AtVariables (sym is) at_t)
      (λ is. subst AtVariables (sym is) at_t))
      (reaches_bind (variable_rows most) (behind_variables l c t) vs rs v r rest
      (reaches_variable_rows most v behind_v less_v (λ is. subst AtRoutines (sym is) at_v)
      (λ is. subst AtRoutines (sym is) at_v))
      (reaches_last (routines most) (λ all. done (make l c t v all)) rs all.routines rest
      (reaches_routines all.routines rest nearest less_r e)))))

  -- a program up to its dot
  pub reaches_front : (all : Front) (rest : List Token) → IsNearestFront all → length (front_words all) < most
      → Reaches (front most) (front_words all) (Ok (all, rest)) rest
  reaches_front all rest nearest less =
      let make : ProgramHead → Declarations → Compound → ℕ → Front = λ head all body dot.
      record { head = head; declarations = all; body = body; dot = dot } in
      let behind_body = λ (head : ProgramHead) (all : Declarations) (body : Compound). bind (mark k.Dot)
      (λ dot. done (make head all body dot)) in
      let behind_declarations = λ (head : ProgramHead) (all : Declarations). bind (compound most 0)
      (behind_body head all) in
      let hs = head_words all.head in
      let ds = declarations_words all.declarations in
      let bs = compound_words all.body in
      let last = at 0 k.Dot all.dot ∷ [] in
      let one : length (hs ++ (ds ++ (bs ++ last))) ≡ length hs + length (ds ++ (bs ++ last))
      = length-append hs (ds ++ (bs ++ last)) in
      let two : length (ds ++ (bs ++ last)) ≡ length ds + length (bs ++ last) = length-append ds (bs ++ last) in
      let three : length (bs ++ last) ≡ length bs + length last = length-append bs last in
      let less_h : length hs < most = omega (arith, less, one) in
      let less_d : length ds < most = omega (arith, less, one, two) in
      let less_b : length bs < suc most = omega (arith, less, one, two, three) in
      let r = Ok (all, rest) in
      reaches_bind (program_head most) (λ head. bind (declarations most) (behind_declarations head)) hs
      (ds ++ (bs ++ last)) all.head r rest (reaches_head all.head (tokens_in (ds ++ (bs ++ last)) ++ rest) less_h)
      (reaches_bind (declarations most) (behind_declarations all.head) ds (bs ++ last) all.declarations r rest
      (reaches_declarations all.declarations (tokens_in (bs ++ last) ++ rest) nearest.0 less_d tt)
      (reaches_bind (compound most 0) (behind_body all.head all.declarations) bs last all.body r rest
      (reaches_a_compound most 0 all.body (tokens_in last ++ rest) none_fits nearest.1 less_b)
      (reaches_last (mark k.Dot) (λ dot. done (make all.head all.declarations all.body dot)) last all.dot rest
      (reaches_mark 0 none_fits k.Dot all.dot rest))))
