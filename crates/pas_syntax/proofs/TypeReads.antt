-- The readers of types read what the grammar spells.
use Rattle.std.proofs.Common.{◌≡◌, refl, sym, ap, ◌∙◌, ℕ, zero, suc, ◌+◌, ◌≤◌, List, [], ◌∷◌, ◌++◌, append_assoc}
use Rattle.std.proofs.Common.{Option, Some, None, Bool, true, false}
use Rattle.std.specs.Prelude.{nat_lt}
use Rattle.std.proofs.lemmas.List.{append-nil}
use Rattle.wb_base.specs.declared.faults.TheConstants.{NESTING_PAST_LIMIT}
use Rattle.pas_tokens.specs.declared.kinds.Kind.{Kind}
use Rattle.pas_tokens.specs.declared.kinds.Kind.TheVariants as k
use Rattle.pas_tokens.specs.Cutting.{Payload, nothing}
use Rattle.pas_tokens.specs.Tokens.{Token}
use Rattle.pas_syntax.specs.declared.limits.TheConstants.{NESTING_LIMIT}
use Rattle.pas_syntax.specs.Tree as tree
use Rattle.pas_syntax.specs.Tree.{Ident, Separated, Idents, Simple, TypeForm, Fields}
use Rattle.pas_syntax.specs.Words.{Word, at, maybe, name_at, separated, idents_words, simple_words, type_words}
use Rattle.pas_syntax.specs.Words.{fields_words}
use Rattle.pas_syntax.specs.inner.Prog.{Prog, done, look, skip, bind, head, turns}
use Rattle.pas_syntax.specs.inner.Readers.{unless, ident}
use Rattle.pas_syntax.specs.inner.Marks.{mark}
use Rattle.pas_syntax.specs.inner.TypeReaders.{single, items_by, simple, ArrayStart, Group, FieldsRead, open_at}
use Rattle.pas_syntax.specs.inner.TypeReaders.{idents_by}
use Rattle.pas_syntax.specs.inner.TypeReaders.{array_start_by, array_by, file_by, group_by, behind_semicolon}
use Rattle.pas_syntax.specs.inner.TypeReaders.{behind_fields_by, behind_fields, first_group, fields_by, record_by}
use Rattle.pas_syntax.specs.inner.TypeReaders.{structured_at, type_at, type_form}
use Rattle.pas_syntax.proofs.Good.{a_token, ReadsAt, Reads, reads_look, reads_done, reads_wrong, reads_shown}
use Rattle.pas_syntax.proofs.Good.{reads_skip}
use Rattle.pas_syntax.proofs.TurnLemmas.{Any, Begins, reads_turns}
use Rattle.pas_syntax.proofs.WordLemmas.{sound_says, deep_form, fits_of}
use Rattle.pas_syntax.proofs.ExprReads.{IsTaken, reads_ident}
use Rattle.pas_syntax.proofs.ItemLemmas.{AreItems, reads_items}
use Rattle.pas_syntax.proofs.ConstantLemmas.{IsSimple, reads_simple}
use Rattle.pas_syntax.proofs.MarkLemmas.{reads_mark}
use Rattle.pas_syntax.proofs.SomeReads.{ReadsSome, reads_then_at, reads_then, reads_last, reads_form}

abbrev pub IsType : ℕ → TypeForm → List Word → Type 0
IsType n f ws = ws ≡ type_words n f

abbrev pub AreIdents : ℕ → Idents → List Word → Type 0
AreIdents n names ws = ws ≡ idents_words n names

-- names and types, to complete a tree with
abbrev pub zero_ident : Ident
zero_ident = record { name = []; line = 0 }

abbrev pub zero_ident_word : ℕ → Word
zero_ident_word n = name_at n zero_ident

abbrev pub zero_simple : Simple
zero_simple = tree.simple_named zero_ident

abbrev pub zero_type : TypeForm
zero_type = tree.simple zero_simple

-- the parts of types
abbrev pub array_start_words : ℕ → ArrayStart → List Word
array_start_words n start =
    maybe n k.Packed start.packed ++ at (n + 1) k.Array start.line ∷ (at (n + 2) k.LeftBracket start.opened
    ∷ (separated (n + 2) k.Comma (simple_words (n + 2)) start.indexes ++ at (n + 2) k.RightBracket start.closed
    ∷ (at (n + 1) k.Of start.of_line ∷ [])))

abbrev pub group_words : ℕ → Group → List Word
group_words n group = idents_words n group.names ++ at n k.Colon group.colon ∷ type_words n group.form

abbrev pub IsGroup : ℕ → Group → List Word → Type 0
IsGroup n group ws = ws ≡ group_words n group

abbrev pub AreFields : ℕ → FieldsRead → List Word → Type 0
AreFields n found ws = ws ≡ fields_words n found.fields ++ maybe n k.Semicolon found.semicolon

pub behind_array_start : (n : ℕ) (start : ArrayStart) (ws : List Word)
    → array_start_words n start ++ ws
    ≡ maybe n k.Packed start.packed ++ at (n + 1) k.Array start.line ∷ (at (n + 2) k.LeftBracket start.opened
    ∷ (separated (n + 2) k.Comma (simple_words (n + 2)) start.indexes ++ at (n + 2) k.RightBracket start.closed
    ∷ (at (n + 1) k.Of start.of_line ∷ ws)))
behind_array_start n start ws =
    let us = separated (n + 2) k.Comma (simple_words (n + 2)) start.indexes in
    let vs = at (n + 2) k.RightBracket start.closed ∷ (at (n + 1) k.Of start.of_line ∷ []) in
    let front = at (n + 1) k.Array start.line ∷ (at (n + 2) k.LeftBracket start.opened ∷ (us ++ vs)) in
    append_assoc (maybe n k.Packed start.packed) front ws
    ∙ ap (λ all. maybe n k.Packed start.packed ++ at (n + 1) k.Array start.line
    ∷ (at (n + 2) k.LeftBracket start.opened ∷ all)) (append_assoc us vs ws)

module _ (n : ℕ) (fits : n ≤ NESTING_LIMIT) where
  pub marks : (kind : Kind) → (k.EndOfText ≡ kind → ⊥) → ReadsSome (IsTaken n kind) Any (mark kind)
  marks kind goes_on = record { reads = reads_mark n fits kind goes_on; some = (0, at n kind 0 ∷ [], refl) }

  pub an_identifier : ReadsSome (λ name ws. ws ≡ name_at n name ∷ []) Any ident
  an_identifier = record { reads = reads_ident n fits; some = (zero_ident, zero_ident_word n ∷ [], refl) }

  pub some_idents : (most : ℕ) → ReadsSome (AreIdents n) Any (idents_by most)
  some_idents most =
      record {
        reads = reads_items n (λ name. name_at n name ∷ []) fits ident (reads_ident n fits) zero_ident most;
        some = (single zero_ident, zero_ident_word n ∷ [], refl);
      }

  some_simples : (most : ℕ) → ReadsSome (AreItems n (simple_words n)) Any (items_by simple most)
  some_simples most =
      record {
        reads = reads_items n (simple_words n) fits simple (reads_simple n fits) zero_simple most;
        some = (single zero_simple, zero_ident_word n ∷ [], refl);
      }

  pub a_simple : ReadsSome (IsSimple n) Any simple
  a_simple = record { reads = reads_simple n fits; some = (zero_simple, zero_ident_word n ∷ [], refl) }

-- the bracket that opens the indexes
module _ (n : ℕ) where
  abbrev IsOpened : ℕ → List Word → Type 0
  IsOpened opened ws = ws ≡ at (n + 2) k.LeftBracket opened ∷ []

  abbrev WithinLimit : ℕ → Token → Type 0
  WithinLimit opened t = n + 2 ≤ NESTING_LIMIT

  reads_open_by : (opened : ℕ) (b : Bool) → nat_lt NESTING_LIMIT (n + 2) ≡ b
      → ReadsAt (a_token k.LeftBracket nothing opened) IsOpened WithinLimit (unless b (skip (done opened)))
  reads_open_by opened true deep =
      reads_shown IsOpened WithinLimit (a_token k.LeftBracket nothing opened) NESTING_PAST_LIMIT opened
      (at (n + 2) k.LeftBracket opened) [] refl refl (deep_form (n + 2) k.LeftBracket opened deep)
  reads_open_by opened false few =
      let w = at (n + 2) k.LeftBracket opened in
      let fits = fits_of (n + 2) few in
      reads_skip IsOpened WithinLimit w (done opened) (λ e. cc) (sound_says (n + 2) k.LeftBracket nothing opened fits)
      (λ ts. reads_done (λ x ws. IsOpened x (w ∷ ws)) WithinLimit (head ts) opened refl fits ts refl)

  reads_open_at : (kind : Kind) (payload : Payload) (line : ℕ)
      → ReadsAt (a_token kind payload line) IsOpened WithinLimit (open_at (n + 2) kind payload line)
  reads_open_at k.LeftBracket nothing line = reads_open_by line (nat_lt NESTING_LIMIT (n + 2)) refl
  reads_open_at kind payload line =
      reads_wrong IsOpened WithinLimit (a_token kind payload line) 0 (at (n + 2) k.LeftBracket 0) [] refl

  an_opening : ReadsSome IsOpened WithinLimit (look (open_at (n + 2)))
  an_opening =
      record {
        reads = reads_look IsOpened WithinLimit (open_at (n + 2)) reads_open_at;
        some = (0, at (n + 2) k.LeftBracket 0 ∷ [], refl);
      }

module _ (most n : ℕ) (fits : n + 1 ≤ NESTING_LIMIT) (packed : Option ℕ) (line : ℕ) where
  abbrev IsArrayStart : ArrayStart → List Word → Type 0
  IsArrayStart start ws = maybe n k.Packed packed ++ at (n + 1) k.Array line ∷ ws ≡ array_start_words n start

  an_array_start : ReadsSome IsArrayStart Any (array_start_by most n packed line)
  an_array_start =
      let make : ℕ → Separated Simple → ℕ → ℕ → ArrayStart = λ opened indexes closed of_line. record {
        packed = packed;
        line = line;
        opened = opened;
        indexes = indexes;
        closed = closed;
        of_line = of_line;
      } in
      let behind_closed = λ (opened : ℕ) (indexes : Separated Simple) (closed : ℕ). bind (mark k.Of)
      (λ of_line. done (make opened indexes closed of_line)) in
      let behind_indexes = λ (opened : ℕ) (indexes : Separated Simple). bind (mark k.RightBracket)
      (behind_closed opened indexes) in
      let behind_opened = λ (opened : ℕ). bind (items_by simple most) (behind_indexes opened) in
      reads_then_at (IsOpened n) (WithinLimit n) IsArrayStart Any (look (open_at (n + 2))) behind_opened (an_opening n)
      (λ opened us t is inner ts at_t. (reads_then (AreItems (n + 2) (simple_words (n + 2))) Any
      (λ x ws. IsArrayStart x (us ++ ws)) Any (items_by simple most) (behind_indexes opened)
      (some_simples (n + 2) inner most)
      (λ indexes vs also. reads_then (IsTaken (n + 2) k.RightBracket) Any (λ x ws. IsArrayStart x (us ++ (vs ++ ws)))
      Any (mark k.RightBracket) (behind_closed opened indexes) (marks (n + 2) inner k.RightBracket (λ e. cc))
      (λ closed ws third. reads_last (IsTaken (n + 1) k.Of) Any (λ x xs. IsArrayStart x (us ++ (vs ++ (ws ++ xs))))
      Any (mark k.Of) (make opened indexes closed) (marks (n + 1) fits k.Of (λ e. cc))
      (λ of_line xs fourth. rw (is, also, third, fourth) refl) (λ of_line t any. tt)))).reads ts)
      (λ opened us is. (
        make opened (single zero_simple) 0 0,
        zero_ident_word (n + 2) ∷ (at (n + 2) k.RightBracket 0 ∷ (at (n + 1) k.Of 0 ∷ [])),
        rw is refl,
      ))

module _ (form : ℕ → Prog TypeForm) (most : ℕ)
    (h : (n : ℕ) → n ≤ NESTING_LIMIT → Reads (IsType n) Any (form n)) where
  a_form : (n : ℕ) → n ≤ NESTING_LIMIT → ReadsSome (IsType n) Any (form n)
  a_form n fits = record { reads = h n fits; some = (zero_type, zero_ident_word n ∷ [], refl) }

  abbrev zero_group : Group
  zero_group = record { names = single zero_ident; colon = 0; form = zero_type }

  abbrev zero_group_words : ℕ → List Word
  zero_group_words n = zero_ident_word n ∷ (at n k.Colon 0 ∷ (zero_ident_word n ∷ []))

  -- fields
  module _ (n : ℕ) (fits : n ≤ NESTING_LIMIT) where
    a_group : ReadsSome (IsGroup n) Any (group_by form most n)
    a_group =
        let make : Idents → ℕ → TypeForm → Group = λ names colon element.
        record { names = names; colon = colon; form = element } in
        let behind_colon = λ (names : Idents) (colon : ℕ). bind (form n) (λ element. done (make names colon element)) in
        reads_then (AreIdents n) Any (IsGroup n) Any (idents_by most)
        (λ names. bind (mark k.Colon) (behind_colon names))
        (some_idents n fits most)
        (λ names us is. reads_then (IsTaken n k.Colon) Any (λ x ws. IsGroup n x (us ++ ws)) Any (mark k.Colon)
        (behind_colon names) (marks n fits k.Colon (λ e. cc))
        (λ colon vs also. reads_last (IsType n) Any (λ x ws. IsGroup n x (us ++ (vs ++ ws))) Any (form n)
        (make names colon) (a_form n fits) (λ element ws third. rw (is, also, third) refl) (λ element t any. tt)))

    module _ (fields : Fields) (us : List Word) (is : us ≡ fields_words n fields) (line : ℕ) where
      abbrev FieldsGoOn : FieldsRead → List Word → Type 0
      FieldsGoOn found ws = AreFields n found (us ++ at n k.Semicolon line ∷ ws)

      ended : FieldsGoOn (record { fields = fields; semicolon = Some line }) []
      ended = rw is refl

      reads_behind_semicolon : (kind : Kind) (payload : Payload) (other_line : ℕ)
          → ReadsAt (a_token kind payload other_line) FieldsGoOn Any
          (behind_semicolon form most n fields line kind payload other_line)
      reads_behind_semicolon k.Name payload other_line =
          let make : Group → FieldsRead = λ group. record {
            fields = tree.more_fields fields line group.names group.colon group.form;
            semicolon = None;
          } in
          λ ts at_t. (reads_last (IsGroup n) Any FieldsGoOn Any (group_by form most n) make a_group
          (λ group vs also. rw (is, also) (sym (append-nil (fields_words n fields ++ at n k.Semicolon line
          ∷ group_words n group)))) (λ group t any. tt)).reads ts
      reads_behind_semicolon kind payload other_line =
          reads_done FieldsGoOn Any (a_token kind payload other_line)
          (record { fields = fields; semicolon = Some line }) ended tt

    begins_fields_by : (fields : Fields) (semicolon : Option ℕ) (us : List Word)
        → AreFields n (record { fields = fields; semicolon = semicolon }) us
        → (kind : Kind) (payload : Payload) (line : ℕ)
        → Begins (AreFields n) us (a_token kind payload line)
        (behind_fields_by form most n fields semicolon kind payload line)
    begins_fields_by fields None us is k.Semicolon nothing line =
        let all : us ≡ fields_words n fields = is ∙ append-nil (fields_words n fields) in (
          at n k.Semicolon line,
          refl,
          (λ e. cc),
          sound_says n k.Semicolon nothing line fits,
          reads_look (FieldsGoOn fields us all line) Any (behind_semicolon form most n fields line)
              (reads_behind_semicolon fields us all line),
          (record { fields = fields; semicolon = Some line }, [], ended fields us all line),
        )
    begins_fields_by fields semicolon us is kind payload line = tt

    some_fields : ReadsSome (AreFields n) Any (fields_by form most n)
    some_fields =
        reads_then (IsGroup n) Any (AreFields n) Any (group_by form most n)
        (λ group. turns (behind_fields form most n) most (first_group form most group)) a_group
        (λ group us is. let all = is ∙ sym (append-nil (group_words n group)) in
        record {
          reads = reads_turns (AreFields n) (behind_fields form most n)
              (λ found us is. begins_fields_by found.fields found.semicolon us is) most (first_group form most group) us
              all;
          some = (first_group form most group, [], rw (append-nil us) all);
        })

  -- the forms that are open up to their end
  module _ (n : ℕ) (packed : Option ℕ) (line : ℕ) where
    abbrev TypeGoesOn : TypeForm → List Word → Type 0
    TypeGoesOn f ws = IsType n f (maybe n k.Packed packed ++ ws)

    reads_array : ReadsAt (a_token k.Array nothing line) TypeGoesOn Any (array_by form most n packed line)
    reads_array =
        let w = at (n + 1) k.Array line in
        let make : ArrayStart → TypeForm → TypeForm = λ s element.
        tree.array s.packed s.line s.opened s.indexes s.closed s.of_line element in
        let further = λ (s : ArrayStart). bind (form (n + 1)) (λ element. done (make s element)) in
        reads_form TypeGoesOn Any n k.Array line (bind (array_start_by most n packed line) further) (λ e. cc) (
          tree.array packed line 0 (single zero_simple) 0 0 zero_type,
          at (n + 2) k.LeftBracket 0 ∷ (zero_ident_word (n + 2) ∷ (at (n + 2) k.RightBracket 0 ∷ (at (n + 1) k.Of 0
              ∷ (zero_ident_word (n + 1) ∷ [])))),
          refl,
        )
        (λ inner. (reads_then (IsArrayStart most n inner packed line) Any (λ f ws. TypeGoesOn f (w ∷ ws)) Any
        (array_start_by most n packed line) further (an_array_start most n inner packed line)
        (λ s us is. reads_last (IsType (n + 1)) Any (λ f ws. TypeGoesOn f (w ∷ (us ++ ws))) Any (form (n + 1)) (make s)
        (a_form (n + 1) inner)
        (λ element vs also. rw also (sym (append_assoc (maybe n k.Packed packed) (w ∷ us) (type_words (n + 1) element))
        ∙ (ap (λ all. all ++ type_words (n + 1) element) is
        ∙ behind_array_start n s (type_words (n + 1) element))))
        (λ element t any. tt))).reads)

    reads_file : ReadsAt (a_token k.File nothing line) TypeGoesOn Any (file_by form most n packed line)
    reads_file =
        let w = at (n + 1) k.File line in
        let make = λ (of_line : ℕ) (component : TypeForm). tree.file packed line of_line component in
        let further = λ (of_line : ℕ). bind (form (n + 1)) (λ component. done (make of_line component)) in
        reads_form TypeGoesOn Any n k.File line (bind (mark k.Of) further) (λ e. cc)
        (make 0 zero_type, at (n + 1) k.Of 0 ∷ (zero_ident_word (n + 1) ∷ []), refl)
        (λ inner. (reads_then (IsTaken (n + 1) k.Of) Any (λ f ws. TypeGoesOn f (w ∷ ws)) Any (mark k.Of) further
        (marks (n + 1) inner k.Of (λ e. cc))
        (λ of_line us is. reads_last (IsType (n + 1)) Any (λ f ws. TypeGoesOn f (w ∷ (us ++ ws))) Any (form (n + 1))
        (make of_line) (a_form (n + 1) inner) (λ component vs also. rw (is, also) refl)
        (λ component t any. tt))).reads)

    reads_record : ReadsAt (a_token k.Record nothing line) TypeGoesOn Any (record_by form most n packed line)
    reads_record =
        let w = at (n + 1) k.Record line in
        let make = λ (found : FieldsRead) (end : ℕ). tree.record_type packed line found.fields found.semicolon end in
        let further = λ (found : FieldsRead). bind (mark k.End) (λ end. done (make found end)) in
        reads_form TypeGoesOn Any n k.Record line (bind (fields_by form most (n + 1)) further) (λ e. cc) (
          make (first_group form most zero_group) 0,
          zero_ident_word (n + 1) ∷ (at (n + 1) k.Colon 0 ∷ (zero_ident_word (n + 1) ∷ (at (n + 1) k.End 0 ∷ []))),
          refl,
        )
        (λ inner. (reads_then (AreFields (n + 1)) Any (λ f ws. TypeGoesOn f (w ∷ ws)) Any (fields_by form most (n + 1))
        further (some_fields (n + 1) inner)
        (λ found us is. reads_last (IsTaken (n + 1) k.End) Any (λ f ws. TypeGoesOn f (w ∷ (us ++ ws))) Any (mark k.End)
        (make found) (marks (n + 1) inner k.End (λ e. cc))
        (λ end vs also. rw (is, also) (ap (λ all. maybe n k.Packed packed ++ w ∷ all)
        (append_assoc (fields_words (n + 1) found.fields) (maybe (n + 1) k.Semicolon found.semicolon)
        (at (n + 1) k.End end ∷ []))))
        (λ end t any. tt))).reads)

    reads_structured_at : (kind : Kind) (payload : Payload) (word_line : ℕ) → word_line ≡ line
        → ReadsAt (a_token kind payload line) TypeGoesOn Any (structured_at form most n packed kind payload line)
    reads_structured_at k.Array nothing word_line same = reads_array
    reads_structured_at k.Record nothing word_line same = reads_record
    reads_structured_at k.File nothing word_line same = reads_file
    reads_structured_at kind payload word_line same =
        reads_wrong TypeGoesOn Any (a_token kind payload line) (tree.file packed 0 0 zero_type) (at (n + 1) k.File 0)
        (at (n + 1) k.Of 0 ∷ (zero_ident_word (n + 1) ∷ [])) refl

  module _ (n : ℕ) (fits : n ≤ NESTING_LIMIT) where
    a_simple_type : Reads (IsType n) Any (bind simple (λ s. done (tree.simple s)))
    a_simple_type =
        (reads_last (IsSimple n) Any (IsType n) Any simple (λ s. tree.simple s) (a_simple n fits) (λ s us is. is)
        (λ s t any. tt)).reads

    pub reads_type_at : (kind : Kind) (payload : Payload) (line : ℕ)
        → ReadsAt (a_token kind payload line) (IsType n) Any (type_at form most n kind payload line)
    reads_type_at k.Packed nothing line =
        reads_skip (IsType n) Any (at n k.Packed line) (look (structured_at form most n (Some line))) (λ e. cc)
        (sound_says n k.Packed nothing line fits)
        (reads_look (λ f ws. IsType n f (at n k.Packed line ∷ ws)) Any (structured_at form most n (Some line))
        (λ kind payload other_line. reads_structured_at n (Some line) other_line kind payload other_line refl))
    reads_type_at k.Array nothing line = reads_array n None line
    reads_type_at k.Record nothing line = reads_record n None line
    reads_type_at k.File nothing line = reads_file n None line
    reads_type_at kind payload line = λ ts is. a_simple_type ts

-- the reader as it is
pub reads_type_form : (most n : ℕ) → n ≤ NESTING_LIMIT → Reads (IsType n) Any (type_form most n)
unfolding type_form
reads_type_form zero n fits = λ ts. tt
reads_type_form (suc most) n fits =
    reads_look (IsType n) Any (type_at (type_form most) most n)
    (reads_type_at (type_form most) most (reads_type_form most) n fits)
