-- The readers of routines and programs read what the grammar spells.
use Rattle.std.proofs.Common.{◌≡◌, refl, sym, ap, subst, ◌∙◌, ℕ, Bool, true, false, List, [], ◌∷◌, ◌++◌}
use Rattle.std.proofs.Common.{append_assoc, Option, Some, None}
use Rattle.std.specs.List.{flat_map, All}
use Rattle.std.specs.Str.{bytes_eq}
use Rattle.std.proofs.lemmas.Grind.{flat_map-append}
use Rattle.std.proofs.lemmas.List.{append-nil}
use Rattle.std.proofs.lemmas.List.Elements.{All-nil, All-push}
use Rattle.std.proofs.lemmas.Slice.Eq.{bytes_eq-Decides}
use Rattle.pas_tokens.specs.declared.kinds.Kind.{Kind}
use Rattle.pas_tokens.specs.declared.kinds.Kind.TheVariants as k
use Rattle.pas_tokens.specs.Cutting.{Payload, nothing, spelling}
use Rattle.pas_syntax.specs.Tree as tree
use Rattle.pas_syntax.specs.Tree.{Ident, Behind, Idents, TypeName, Labels, ConstantRow, TypeRow, VariableRow, Rows}
use Rattle.pas_syntax.specs.Tree.{Parameters, Heading, Compound, Body, Routine, ProgramParameters, Program}
use Rattle.pas_syntax.specs.Tree.{forward_name}
use Rattle.pas_syntax.specs.Words.{Word, says, at, name_at, words_if, labels_words, constant_row_words}
use Rattle.pas_syntax.specs.Words.{type_row_words, variable_row_words, rows_words}
use Rattle.pas_syntax.specs.Words.{heading_words, compound_words, body_words, routine_words, program_parameters_words}
use Rattle.pas_syntax.specs.Words.{program_words}
use Rattle.pas_syntax.specs.Nearest.{AllNearest, IsNearestBody, IsNearestProgram}
use Rattle.pas_syntax.specs.inner.Prog.{Prog, done, skip, bind, head}
use Rattle.pas_syntax.specs.inner.Readers.{ident}
use Rattle.pas_syntax.specs.inner.Marks.{mark}
use Rattle.pas_syntax.specs.inner.TypeReaders.{idents_by}
use Rattle.pas_syntax.specs.inner.StatementReaders.{compound}
use Rattle.pas_syntax.specs.inner.DeclarationReaders.{labels, constant_rows, type_rows, variable_rows, parameters}
use Rattle.pas_syntax.specs.inner.DeclarationReaders.{result_type, procedure_behind, function_behind, forward_if}
use Rattle.pas_syntax.specs.inner.DeclarationReaders.{block_by, body_at, body, routine_by, behind_routine, routines}
use Rattle.pas_syntax.specs.inner.DeclarationReaders.{program_parameters_at, program_parameters, ProgramHead}
use Rattle.pas_syntax.specs.inner.DeclarationReaders.{program_head, Declarations, declarations, Front, front}
use Rattle.pas_syntax.specs.inner.DeclarationReaders.{program_of}
use Rattle.pas_syntax.proofs.Good.{a_token, ReadsAt, Reads, reads_look, reads_done, reads_wrong, reads_skip}
use Rattle.pas_syntax.proofs.TurnLemmas.{Any, Begins, reads_turns}
use Rattle.pas_syntax.proofs.WordLemmas.{sound_says}
use Rattle.pas_syntax.proofs.ExprReads.{IsTaken}
use Rattle.pas_syntax.proofs.SomeReads.{Tree, ReadsSome, reads_then, reads_last}
use Rattle.pas_syntax.proofs.TypeReads.{AreIdents, marks, an_identifier, some_idents}
use Rattle.pas_syntax.proofs.PhraseReads.{zero_statement}
use Rattle.pas_syntax.proofs.StatementReads.{IsCompound, reads_a_compound}
use Rattle.pas_syntax.proofs.DeclarationReads.{none_fits, one_fits, AreLabels, some_labels, some_constant_rows}
use Rattle.pas_syntax.proofs.DeclarationReads.{some_type_rows, some_variable_rows, MayBeParameters, some_parameters}
use Rattle.pas_syntax.proofs.DeclarationReads.{MayBeResult, a_result}

abbrev pub AreConstantRows : Option (Rows ConstantRow) → List Word → Type 0
AreConstantRows rows ws = ws ≡ words_if (rows_words k.Const constant_row_words) rows

abbrev pub AreTypeRows : Option (Rows TypeRow) → List Word → Type 0
AreTypeRows rows ws = ws ≡ words_if (rows_words k.Type type_row_words) rows

abbrev pub AreVariableRows : Option (Rows VariableRow) → List Word → Type 0
AreVariableRows rows ws = ws ≡ words_if (rows_words k.Var variable_row_words) rows

a_compound : (most : ℕ) → ReadsSome (IsCompound 0) Any (compound most 0)
a_compound most =
    let some : Compound = record { begin = 0; list = tree.first_statement zero_statement; end = 0 } in
    record {
      reads = reads_a_compound most 0 none_fits;
      some = (some, at 1 k.Begin 0 ∷ (at 1 k.End 0 ∷ []), (refl, tt));
    }

-- headings, behind their words
module _ (most line : ℕ) where
  abbrev IsProcedure : Heading → List Word → Type 0
  IsProcedure head ws = at 0 k.Procedure line ∷ ws ≡ heading_words head

  a_procedure : ReadsSome IsProcedure Any (procedure_behind most line)
  a_procedure =
      let make = λ (name : Ident) (all : Option Parameters). tree.procedure line name all in
      reads_then (λ name ws. ws ≡ name_at 0 name ∷ []) Any IsProcedure Any ident
      (λ name. bind (parameters most) (λ all. done (make name all))) (an_identifier 0 none_fits)
      (λ name us is. reads_last MayBeParameters Any (λ head ws. IsProcedure head (us ++ ws)) Any (parameters most)
      (make name) (some_parameters most) (λ all vs also. rw (is, also) refl) (λ all t any. tt))

  abbrev IsFunction : Heading → List Word → Type 0
  IsFunction head ws = at 0 k.Function line ∷ ws ≡ heading_words head

  a_function : ReadsSome IsFunction Any (function_behind most line)
  a_function =
      let make = λ (name : Ident) (all : Option Parameters) (type : Option (Behind TypeName)).
      tree.function line name all type in
      let behind_all = λ (name : Ident) (all : Option Parameters). bind result_type
      (λ type. done (make name all type)) in
      reads_then (λ name ws. ws ≡ name_at 0 name ∷ []) Any IsFunction Any ident
      (λ name. bind (parameters most) (behind_all name)) (an_identifier 0 none_fits)
      (λ name us is. reads_then MayBeParameters Any (λ head ws. IsFunction head (us ++ ws)) Any (parameters most)
      (behind_all name) (some_parameters most)
      (λ all vs also. reads_last MayBeResult Any (λ head ws. IsFunction head (us ++ (vs ++ ws))) Any result_type
      (make name all) a_result (λ type ws third. rw (is, also, third) refl) (λ type t any. tt)))

-- what stands behind a heading
abbrev pub IsBody : Body → List Word → Type 0
IsBody all ws = (ws ≡ body_words all) × IsNearestBody all

module _ (most : ℕ) where
  a_block : ReadsSome IsBody Any (block_by most)
  a_block =
      let make = λ (all : Option Labels) (rows : Option (Rows VariableRow)) (main : Compound). tree.block all
      rows main in
      let behind_rows = λ (all : Option Labels) (rows : Option (Rows VariableRow)). bind (compound most 0)
      (λ main. done (make all rows main)) in
      reads_then AreLabels Any IsBody Any (labels most) (λ all. bind (variable_rows most) (behind_rows all))
      (some_labels most)
      (λ all us is. reads_then AreVariableRows Any (λ x ws. IsBody x (us ++ ws)) Any (variable_rows most)
      (behind_rows all) (some_variable_rows most)
      (λ rows vs also. reads_last (IsCompound 0) Any (λ x ws. IsBody x (us ++ (vs ++ ws))) Any (compound most 0)
      (make all rows) (a_compound most) (λ main ws third. (rw (is, also, third.0) refl, third.1)) (λ main t any. tt)))

  abbrev forward_word : ℕ → Word
  forward_word line = says 0 k.Name (spelling forward_name) line

  reads_forward : (name : List ℕ) (line : ℕ) (b : Bool) → bytes_eq name forward_name ≡ b
      → ReadsAt (a_token k.Name (spelling name) line) IsBody Any (forward_if b line)
  reads_forward name line true e =
      let spelled : name ≡ forward_name = (bytes_eq-Decides name forward_name).0 e in
      subst (λ name. ReadsAt (a_token k.Name (spelling name) line) IsBody Any (skip (done (tree.forward line))))
      (sym spelled)
      (reads_skip IsBody Any (forward_word line) (done (tree.forward line)) (λ e. cc)
      (sound_says 0 k.Name (spelling forward_name) line none_fits)
      (λ ts. reads_done (λ x ws. IsBody x (forward_word line ∷ ws)) Any (head ts) (tree.forward line) (refl, tt) tt ts
      refl))
  reads_forward name line false e =
      reads_wrong IsBody Any (a_token k.Name (spelling name) line) (tree.forward 0) (forward_word 0) [] (refl, tt)

  reads_body_at : (kind : Kind) (payload : Payload) (line : ℕ)
      → ReadsAt (a_token kind payload line) IsBody Any (body_at most kind payload line)
  reads_body_at k.Name (spelling name) line = reads_forward name line (bytes_eq name forward_name) refl
  reads_body_at kind payload line = λ ts is. a_block.reads ts

  a_body : ReadsSome IsBody Any (body most)
  a_body = record { reads = reads_look IsBody Any (body_at most) reads_body_at; some = a_block.some }

  -- a routine of which the heading begins with this word
  module _ (w : Word) (heading : Prog Heading)
      (heads : ReadsSome (λ head ws. w ∷ ws ≡ heading_words head) Any heading) where
    abbrev IsRoutine : Routine → List Word → Type 0
    IsRoutine routine ws = (w ∷ ws ≡ routine_words routine) × IsNearestBody routine.body

    a_routine : ReadsSome IsRoutine Any (routine_by most heading)
    a_routine =
        let make : Heading → ℕ → Body → ℕ → Routine = λ head behind all end.
        record { heading = head; behind_heading = behind; body = all; end = end } in
        let behind_body = λ (head : Heading) (behind : ℕ) (all : Body). bind (mark k.Semicolon)
        (λ end. done (make head behind all end)) in
        let behind_heading = λ (head : Heading) (behind : ℕ). bind (body most) (behind_body head behind) in
        reads_then (λ head ws. w ∷ ws ≡ heading_words head) Any IsRoutine Any heading
        (λ head. bind (mark k.Semicolon) (behind_heading head)) heads
        (λ head us is. reads_then (IsTaken 0 k.Semicolon) Any (λ x ws. IsRoutine x (us ++ ws)) Any (mark k.Semicolon)
        (behind_heading head) (marks 0 none_fits k.Semicolon (λ e. cc))
        (λ behind vs also. reads_then IsBody Any (λ x ws. IsRoutine x (us ++ (vs ++ ws))) Any (body most)
        (behind_body head behind) a_body
        (λ all ws third. reads_last (IsTaken 0 k.Semicolon) Any (λ x xs. IsRoutine x (us ++ (vs ++ (ws ++ xs)))) Any
        (mark k.Semicolon) (make head behind all) (marks 0 none_fits k.Semicolon (λ e. cc))
        (λ end xs fourth. (
          rw (also, third.0, fourth) (ap (λ front. front ++ at 0 k.Semicolon behind ∷ (body_words all
              ++ at 0 k.Semicolon end ∷ [])) is),
          third.1,
        ))
        (λ end t any. tt))))

abbrev pub HasNearest : Routine → Type 0
HasNearest routine = IsNearestBody routine.body

abbrev pub AreRoutines : List Routine → List Word → Type 0
AreRoutines all ws = (ws ≡ flat_map routine_words all) × All HasNearest all

one_routine_more : (found : List Routine) (us : List Word) (next : Routine) (ws : List Word) → AreRoutines found us
    → ws ≡ routine_words next → HasNearest next → AreRoutines (found ++ next ∷ []) (us ++ ws)
one_routine_more found us next ws is also nearest = (
  rw (is.0, also) (sym (flat_map-append routine_words found (next ∷ [])
      ∙ ap (λ all. flat_map routine_words found ++ all) (append-nil (routine_words next)))),
  All-push HasNearest found next is.1 nearest,
)

module _ (most : ℕ) where
  routine_turn : (found : List Routine) (us : List Word) → AreRoutines found us → (w : Word)
      → (k.EndOfText ≡ w.token.kind → ⊥) → (heading : Prog Heading)
      → ReadsSome (λ head ws. w ∷ ws ≡ heading_words head) Any heading
      → Reads (λ all vs. AreRoutines all (us ++ w ∷ vs)) Any
      (bind (routine_by most heading) (λ next. done (found ++ next ∷ [])))
      × Tree (λ all vs. AreRoutines all (us ++ w ∷ vs))
  routine_turn found us is w goes_on heading heads =
      let one = a_routine most w heading heads in
      let x = one.some in (
        (reads_last (IsRoutine most w heading heads) Any (λ all vs. AreRoutines all (us ++ w ∷ vs)) Any
            (routine_by most heading) (λ next. found ++ next ∷ []) one
            (λ next vs also. one_routine_more found us next (w ∷ vs) is also.0 also.1) (λ next t any. tt)).reads,
        (found ++ x.0 ∷ [], x.1, one_routine_more found us x.0 (w ∷ x.1) is x.2.0 x.2.1),
      )

  begins_routines : (found : List Routine) (us : List Word) → AreRoutines found us
      → (kind : Kind) (payload : Payload) (line : ℕ)
      → Begins AreRoutines us (a_token kind payload line) (behind_routine most found kind payload line)
  begins_routines found us is k.Procedure nothing line =
      let w = at 0 k.Procedure line in
      let turn = routine_turn found us is w (λ e. cc) (procedure_behind most line) (a_procedure most line) in
      (w, refl, (λ e. cc), sound_says 0 k.Procedure nothing line none_fits, turn.0, turn.1)
  begins_routines found us is k.Function nothing line =
      let w = at 0 k.Function line in
      let turn = routine_turn found us is w (λ e. cc) (function_behind most line) (a_function most line) in
      (w, refl, (λ e. cc), sound_says 0 k.Function nothing line none_fits, turn.0, turn.1)
  begins_routines found us is kind payload line = tt

  some_routines : ReadsSome AreRoutines Any (routines most)
  some_routines =
      record {
        reads = reads_turns AreRoutines (behind_routine most) begins_routines most [] [] (refl, All-nil HasNearest);
        some = ([], [], (refl, All-nil HasNearest));
      }

-- the head of a program
abbrev MayBeNames : Option ProgramParameters → List Word → Type 0
MayBeNames all ws = ws ≡ words_if program_parameters_words all

abbrev pub head_words : ProgramHead → List Word
head_words head =
    at 0 k.Program head.line ∷ (name_at 0 head.name ∷ (words_if program_parameters_words head.parameters
    ++ at 0 k.Semicolon head.end ∷ []))

abbrev pub IsHead : ProgramHead → List Word → Type 0
IsHead head ws = ws ≡ head_words head

module _ (most : ℕ) where
  reads_program_parameters_at : (kind : Kind) (payload : Payload) (line : ℕ)
      → ReadsAt (a_token kind payload line) MayBeNames Any (program_parameters_at most kind payload line)
  reads_program_parameters_at k.LeftParenthesis nothing line =
      let w = at 1 k.LeftParenthesis line in
      let make : Idents → ℕ → Option ProgramParameters = λ names closed.
      Some (record { opened = line; names = names; closed = closed }) in
      let further = λ (names : Idents). bind (mark k.RightParenthesis) (λ closed. done (make names closed)) in
      reads_skip MayBeNames Any w (bind (idents_by most) further) (λ e. cc)
      (sound_says 1 k.LeftParenthesis nothing line one_fits)
      (reads_then (AreIdents 1) Any (λ x ws. MayBeNames x (w ∷ ws)) Any (idents_by most) further
      (some_idents 1 one_fits most)
      (λ names us is. reads_last (IsTaken 1 k.RightParenthesis) Any (λ x ws. MayBeNames x (w ∷ (us ++ ws))) Any
      (mark k.RightParenthesis) (make names) (marks 1 one_fits k.RightParenthesis (λ e. cc))
      (λ closed vs also. rw (is, also) refl) (λ closed t any. tt))).reads
  reads_program_parameters_at kind payload line = reads_done MayBeNames Any (a_token kind payload line) None refl tt

  some_names : ReadsSome MayBeNames Any (program_parameters most)
  some_names =
      record {
        reads = reads_look MayBeNames Any (program_parameters_at most) reads_program_parameters_at;
        some = (None, [], refl);
      }

  a_head : ReadsSome IsHead Any (program_head most)
  a_head =
      let make : ℕ → Ident → Option ProgramParameters → ℕ → ProgramHead = λ line name all end.
      record { line = line; name = name; parameters = all; end = end } in
      let behind_names = λ (line : ℕ) (name : Ident) (all : Option ProgramParameters). bind (mark k.Semicolon)
      (λ end. done (make line name all end)) in
      let behind_name = λ (line : ℕ) (name : Ident). bind (program_parameters most) (behind_names line name) in
      reads_then (IsTaken 0 k.Program) Any IsHead Any (mark k.Program) (λ line. bind ident (behind_name line))
      (marks 0 none_fits k.Program (λ e. cc))
      (λ line us is. reads_then (λ name ws. ws ≡ name_at 0 name ∷ []) Any (λ x ws. IsHead x (us ++ ws)) Any ident
      (behind_name line) (an_identifier 0 none_fits)
      (λ name vs also. reads_then MayBeNames Any (λ x ws. IsHead x (us ++ (vs ++ ws))) Any (program_parameters most)
      (behind_names line name) some_names
      (λ all ws third. reads_last (IsTaken 0 k.Semicolon) Any (λ x xs. IsHead x (us ++ (vs ++ (ws ++ xs)))) Any
      (mark k.Semicolon) (make line name all) (marks 0 none_fits k.Semicolon (λ e. cc))
      (λ end xs fourth. rw (is, also, third, fourth) refl) (λ end t any. tt))))

-- the declarations of a program
abbrev pub declarations_words : Declarations → List Word
declarations_words all =
    words_if labels_words all.labels ++ (words_if (rows_words k.Const constant_row_words) all.constants
    ++ (words_if (rows_words k.Type type_row_words) all.types
    ++ (words_if (rows_words k.Var variable_row_words) all.variables ++ flat_map routine_words all.routines)))

abbrev pub AreDeclarations : Declarations → List Word → Type 0
AreDeclarations all ws = (ws ≡ declarations_words all) × All HasNearest all.routines

module _ (most : ℕ) where
  some_declarations : ReadsSome AreDeclarations Any (declarations most)
  some_declarations =
      let make : Option Labels → Option (Rows ConstantRow) → Option (Rows TypeRow) → Option (Rows VariableRow)
      → List Routine → Declarations = λ labels constants types variables routines. record {
        labels = labels;
        constants = constants;
        types = types;
        variables = variables;
        routines = routines;
      } in
      let behind_variables = λ (l : Option Labels) (c : Option (Rows ConstantRow)) (t : Option (Rows TypeRow))
      (v : Option (Rows VariableRow)). bind (routines most) (λ all. done (make l c t v all)) in
      let behind_types = λ (l : Option Labels) (c : Option (Rows ConstantRow)) (t : Option (Rows TypeRow)).
      bind (variable_rows most) (behind_variables l c t) in
      let behind_constants = λ (l : Option Labels) (c : Option (Rows ConstantRow)). bind (type_rows most)
      (behind_types l c) in
      let behind_labels = λ (l : Option Labels). bind (constant_rows most) (behind_constants l) in
      reads_then AreLabels Any AreDeclarations Any (labels most) behind_labels (some_labels most)
      (λ l us is. reads_then AreConstantRows Any (λ x ws. AreDeclarations x (us ++ ws)) Any (constant_rows most)
      (behind_constants l) (some_constant_rows most)
      (λ c vs also. reads_then AreTypeRows Any (λ x ws. AreDeclarations x (us ++ (vs ++ ws))) Any (type_rows most)
      (behind_types l c) (some_type_rows most)
      (λ t ws third. reads_then AreVariableRows Any (λ x xs. AreDeclarations x (us ++ (vs ++ (ws ++ xs)))) Any
      (variable_rows most) (behind_variables l c t) (some_variable_rows most)
      (λ v xs fourth. reads_last AreRoutines Any (λ x ys. AreDeclarations x (us ++ (vs ++ (ws ++ (xs ++ ys))))) Any
      (routines most) (make l c t v) (some_routines most)
      (λ all ys fifth. (rw (is, also, third, fourth, fifth.0) refl, fifth.1)) (λ all u any. tt)))))

-- a program up to its dot
abbrev pub front_words : Front → List Word
front_words all =
    head_words all.head ++ (declarations_words all.declarations ++ (compound_words all.body ++ at 0 k.Dot all.dot ∷ []))

abbrev pub IsNearestFront : Front → Type 0
IsNearestFront all = All HasNearest all.declarations.routines × AllNearest all.body.list

abbrev pub IsFront : Front → List Word → Type 0
IsFront all ws = (ws ≡ front_words all) × IsNearestFront all

pub a_front : (most : ℕ) → ReadsSome IsFront Any (front most)
a_front most =
    let make : ProgramHead → Declarations → Compound → ℕ → Front = λ head all body dot.
    record { head = head; declarations = all; body = body; dot = dot } in
    let behind_body = λ (head : ProgramHead) (all : Declarations) (body : Compound). bind (mark k.Dot)
    (λ dot. done (make head all body dot)) in
    let behind_declarations = λ (head : ProgramHead) (all : Declarations). bind (compound most 0)
    (behind_body head all) in
    reads_then IsHead Any IsFront Any (program_head most)
    (λ head. bind (declarations most) (behind_declarations head)) (a_head most)
    (λ head us is. reads_then AreDeclarations Any (λ x ws. IsFront x (us ++ ws)) Any (declarations most)
    (behind_declarations head) (some_declarations most)
    (λ all vs also. reads_then (IsCompound 0) Any (λ x ws. IsFront x (us ++ (vs ++ ws))) Any (compound most 0)
    (behind_body head all) (a_compound most)
    (λ body ws third. reads_last (IsTaken 0 k.Dot) Any (λ x xs. IsFront x (us ++ (vs ++ (ws ++ xs)))) Any (mark k.Dot)
    (make head all body) (marks 0 none_fits k.Dot (λ e. cc))
    (λ dot xs fourth. (rw (is, also.0, third.0, fourth) refl, (also.1, third.1))) (λ dot t any. tt))))

-- the words of a program, and the end of the text behind them
pub behind_front : (all : Front) (end : ℕ)
    → front_words all ++ at 0 k.EndOfText end ∷ [] ≡ program_words (program_of all end)
unfolding program_words
behind_front all end =
    let last = at 0 k.EndOfText end ∷ [] in
    let dot = at 0 k.Dot all.dot ∷ [] in
    let body = compound_words all.body in
    let d = all.declarations in
    let names = words_if program_parameters_words all.head.parameters in
    let semicolon = at 0 k.Semicolon all.head.end ∷ [] in
    let labels = words_if labels_words d.labels in
    let constants = words_if (rows_words k.Const constant_row_words) d.constants in
    let types = words_if (rows_words k.Type type_row_words) d.types in
    let variables = words_if (rows_words k.Var variable_row_words) d.variables in
    let routines = flat_map routine_words d.routines in
    let rest = body ++ (dot ++ last) in
    let one : (body ++ dot) ++ last ≡ rest = append_assoc body dot last in
    let two : declarations_words d ++ rest
    ≡ labels ++ (constants ++ (types ++ (variables ++ (routines ++ rest))))
    = append_assoc labels (constants ++ (types ++ (variables ++ routines))) rest
    ∙ ap (λ ws. labels ++ ws) (append_assoc constants (types ++ (variables ++ routines)) rest
    ∙ ap (λ ws. constants ++ ws) (append_assoc types (variables ++ routines) rest
    ∙ ap (λ ws. types ++ ws) (append_assoc variables routines rest))) in
    append_assoc (head_words all.head) (declarations_words d ++ (body ++ dot)) last
    ∙ (ap (λ ws. head_words all.head ++ ws) (append_assoc (declarations_words d) (body ++ dot) last
    ∙ (ap (λ ws. declarations_words d ++ ws) one ∙ two))
    ∙ ap (λ ws. at 0 k.Program all.head.line ∷ (name_at 0 all.head.name ∷ ws))
    (append_assoc names semicolon (labels ++ (constants ++ (types ++ (variables ++ (routines ++ rest)))))))

pub nearest_front : (all : Front) (end : ℕ) → IsNearestFront all → IsNearestProgram (program_of all end)
nearest_front all end nearest = nearest
