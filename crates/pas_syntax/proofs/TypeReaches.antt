-- The readers of types take the words of each tree, to the first with a fault.
use Rattle.std.proofs.Common.{◌≡◌, refl, sym, subst, ◌∙◌, ℕ, zero, suc, ◌+◌, ◌-◌, ◌≤◌, ◌<◌, arith, Bool, true}
use Rattle.std.proofs.Common.{false, List, [], ◌∷◌, ◌++◌, length, append_assoc, Ok, Option, Some, None}
use Rattle.std.specs.Prelude.{nat_lt}
use Rattle.std.proofs.lemmas.List.{length-append}
use Rattle.pas_tokens.specs.declared.kinds.Kind.{Kind}
use Rattle.pas_tokens.specs.declared.kinds.Kind.TheVariants as k
use Rattle.pas_tokens.specs.Cutting.{Payload, nothing}
use Rattle.pas_tokens.specs.Tokens.{Token}
use Rattle.pas_syntax.specs.declared.limits.TheConstants.{NESTING_LIMIT}
use Rattle.pas_syntax.specs.declared.operators.Sign.{Sign}
use Rattle.pas_syntax.specs.declared.operators.Sign.TheVariants as sign
use Rattle.pas_syntax.specs.Tree as tree
use Rattle.pas_syntax.specs.Tree.{Separated, Idents, Constant, Simple, TypeForm, Fields}
use Rattle.pas_syntax.specs.Words.{Word, at, maybe, name_at, separated, sign_kind, constant_words, idents_words}
use Rattle.pas_syntax.specs.Words.{simple_words, type_words, fields_words}
use Rattle.pas_syntax.specs.Parse.{tokens_in}
use Rattle.pas_syntax.specs.inner.Prog.{Prog, done, look, skip, bind, Out, run, head, ends, turns}
use Rattle.pas_syntax.specs.inner.Readers.{unless, in_form, ident}
use Rattle.pas_syntax.specs.inner.Marks.{mark}
use Rattle.pas_syntax.specs.inner.TypeReaders.{items_by, simple, ArrayStart, Group, FieldsRead, idents_by}
use Rattle.pas_syntax.specs.inner.TypeReaders.{array_start_by, array_by, file_by, group_by, behind_semicolon}
use Rattle.pas_syntax.specs.inner.TypeReaders.{behind_fields_by, behind_fields, first_group, fields_by, record_by}
use Rattle.pas_syntax.specs.inner.TypeReaders.{structured_at, type_at, type_form}
use Rattle.pas_syntax.proofs.Judged.{Reaches, reaches_bind, reaches_last, reaches_skip}
use Rattle.pas_syntax.proofs.ReachLemmas.{reaches_more, reaches_end, reaches_unless, reaches_look}
use Rattle.pas_syntax.proofs.WordLemmas.{sound_says, deep_form, fits_of}
use Rattle.pas_syntax.proofs.ConstantLemmas.{EndsSimple, reaches_simple}
use Rattle.pas_syntax.proofs.MarkLemmas.{reaches_mark, reaches_ident}
use Rattle.pas_syntax.proofs.TypeReads.{group_words}
use Rattle.pas_syntax.proofs.PhraseReaches.{reaches_items_within}

-- what may stand behind a type
abbrev pub EndsType : Kind → Type 0
EndsType k.Semicolon = Unit {0}
EndsType k.End = Unit {0}
EndsType kind = ⊥

-- no more of a list, and no subrange
no_dots : (n : ℕ) (fits : n ≤ NESTING_LIMIT) (kind : Kind) → EndsType kind → EndsSimple n fits kind
no_dots n fits k.Semicolon e = tt
no_dots n fits k.End e = tt
no_dots n fits kind e = absurd e

-- what a simple type does not begin with
abbrev NoStructure : Kind → Type 0
NoStructure k.Packed = ⊥
NoStructure k.Array = ⊥
NoStructure k.Record = ⊥
NoStructure k.File = ⊥
NoStructure kind = Unit {0}

sign_no_structure : (lead : Sign) → NoStructure (sign_kind lead)
sign_no_structure sign.Plus = tt
sign_no_structure sign.Minus = tt

constant_starts : (n : ℕ) (c : Constant) (vs : List Word) (rest : List Token)
    → NoStructure (head (tokens_in (constant_words n c ++ vs) ++ rest)).kind
constant_starts n (tree.number None numeral) vs rest = tt
constant_starts n (tree.number (Some lead) numeral) vs rest = sign_no_structure lead.item
constant_starts n (tree.named None name) vs rest = tt
constant_starts n (tree.named (Some lead) name) vs rest = sign_no_structure lead.item
constant_starts n (tree.text quoted) vs rest = tt

simple_starts : (n : ℕ) (s : Simple) (rest : List Token)
    → NoStructure (head (tokens_in (simple_words n s) ++ rest)).kind
simple_starts n (tree.simple_named name) rest = tt
simple_starts n (tree.range low line high) rest = constant_starts n low (at n k.Dots line ∷ constant_words n high) rest
simple_starts n (tree.no_simple (tree.enumeration line)) rest = tt
simple_starts n (tree.no_simple (tree.set line)) rest = tt
simple_starts n (tree.no_simple (tree.pointer line)) rest = tt

-- how many turns the loop takes to fields
abbrev turns_of_fields : Fields → ℕ
turns_of_fields (tree.first_fields names colon form) = 0
turns_of_fields (tree.more_fields fields line names colon form) = turns_of_fields fields + 1

few_turns : (n : ℕ) (fields : Fields) → turns_of_fields fields < length (fields_words n fields)
few_turns n (tree.first_fields names colon form) =
    let us = idents_words n names in
    let ws = at n k.Colon colon ∷ type_words n form in
    let count : length (us ++ ws) ≡ length us + length ws = length-append us ws in
    omega (arith, count)
few_turns n (tree.more_fields fields line names colon form) =
    let group : Group = record { names = names; colon = colon; form = form } in
    let us = fields_words n fields in
    let ws = at n k.Semicolon line ∷ group_words n group in
    let count : length (us ++ ws) ≡ length us + length ws = length-append us ws in
    omega (arith, few_turns n fields, count)

module _ (n : ℕ) (fits : n ≤ NESTING_LIMIT) where
  pub reaches_idents : (most : ℕ) (names : Idents) (colon : ℕ) (ws : List Word) (rest : List Token)
      → length (idents_words n names) < most
      → Reaches (idents_by most) (idents_words n names) (Ok (names, tokens_in (at n k.Colon colon ∷ ws) ++ rest))
      (tokens_in (at n k.Colon colon ∷ ws) ++ rest)
  reaches_idents most names colon ws rest less =
      reaches_items_within n (λ name. name_at n name ∷ []) fits ident most (λ kind. Unit {0}) tt
      (λ name rest less any. reaches_ident n fits name rest) names (tokens_in (at n k.Colon colon ∷ ws) ++ rest) less
      tt refl

  abbrev EndsIndex : Kind → Type 0
  EndsIndex k.Comma = Unit {0}
  EndsIndex k.RightBracket = Unit {0}
  EndsIndex kind = ⊥

  index_ends : (kind : Kind) → EndsIndex kind → EndsSimple n fits kind
  index_ends k.Comma e = tt
  index_ends k.RightBracket e = tt
  index_ends kind e = absurd e

  reaches_indexes : (most : ℕ) (indexes : Separated Simple) (closed : ℕ) (ws : List Word) (rest : List Token)
      → length (separated n k.Comma (simple_words n) indexes) < most
      → Reaches (items_by simple most) (separated n k.Comma (simple_words n) indexes)
      (Ok (indexes, tokens_in (at n k.RightBracket closed ∷ ws) ++ rest))
      (tokens_in (at n k.RightBracket closed ∷ ws) ++ rest)
  reaches_indexes most indexes closed ws rest less =
      reaches_items_within n (simple_words n) fits simple most EndsIndex tt
      (λ s rest less end. reaches_simple n fits s rest (index_ends (head rest).kind end)) indexes
      (tokens_in (at n k.RightBracket closed ∷ ws) ++ rest) less tt refl

-- a token that opens a form, and what is read behind it
opened_then : {A B C : Type 0} (b : Bool) (a : A) (f : A → Prog B) (g : B → Prog C) (ts : List Token)
    → run (bind (bind (unless b (skip (done a))) f) g) ts ≡ run (unless b (skip (bind (f a) g))) ts
opened_then true a f g ts = refl
opened_then false a f g ts = refl

-- behind the bracket that opens the indexes, where that is within the limit
module _ (most n : ℕ) (fits : n + 1 ≤ NESTING_LIMIT) (packed : Option ℕ) (line opened : ℕ) (indexes : Separated Simple)
    (closed of_line : ℕ) where
  abbrev behind_bracket : List Word
  behind_bracket =
      separated (n + 2) k.Comma (simple_words (n + 2)) indexes ++ at (n + 2) k.RightBracket closed
      ∷ (at (n + 1) k.Of of_line ∷ [])

  reaches_array_start : {A : Type 0} (g : ArrayStart → Prog A) (ws : List Word) (r : Out A) (rest : List Token)
      → length (separated (n + 2) k.Comma (simple_words (n + 2)) indexes) < most
      → Reaches (g (record {
        packed = packed;
        line = line;
        opened = opened;
        indexes = indexes;
        closed = closed;
        of_line = of_line;
      })) ws r rest
      → Reaches (bind (array_start_by most n packed line) g) (at (n + 2) k.LeftBracket opened
      ∷ (behind_bracket ++ ws)) r rest
  reaches_array_start g ws r rest less go_on =
      let made : ℕ → Separated Simple → ℕ → ℕ → ArrayStart = λ opened indexes closed of_line. record {
        packed = packed;
        line = line;
        opened = opened;
        indexes = indexes;
        closed = closed;
        of_line = of_line;
      } in
      let behind_closed = λ (opened : ℕ) (indexes : Separated Simple) (closed : ℕ). bind (mark k.Of)
      (λ of_line. done (made opened indexes closed of_line)) in
      let behind_indexes = λ (opened : ℕ) (indexes : Separated Simple). bind (mark k.RightBracket)
      (behind_closed opened indexes) in
      let behind_opened = λ (opened : ℕ). bind (items_by simple most) (behind_indexes opened) in
      let us = separated (n + 2) k.Comma (simple_words (n + 2)) indexes in
      let b = at (n + 2) k.RightBracket closed in
      let o = at (n + 1) k.Of of_line in
      let start = made opened indexes closed of_line in
      let all = tokens_in ws ++ rest in
      opened_then (nat_lt NESTING_LIMIT (n + 2)) opened behind_opened g
      (tokens_in (at (n + 2) k.LeftBracket opened ∷ (behind_bracket ++ ws)) ++ rest)
      ∙ reaches_unless (at (n + 2) k.LeftBracket opened) (behind_bracket ++ ws) (nat_lt NESTING_LIMIT (n + 2))
      (bind (behind_opened opened) g) r rest (deep_form (n + 2) k.LeftBracket opened)
      (λ few. sound_says (n + 2) k.LeftBracket nothing opened (fits_of (n + 2) few))
      (λ few. reaches_bind (behind_opened opened) g behind_bracket ws start r rest
      (reaches_bind (items_by simple most) (behind_indexes opened) us (b ∷ (o ∷ [])) indexes (Ok (start, all)) all
      (reaches_indexes (n + 2) (fits_of (n + 2) few) most indexes closed (o ∷ []) all less)
      (reaches_bind (mark k.RightBracket) (behind_closed opened indexes) (b ∷ []) (o ∷ []) closed (Ok (start, all)) all
      (reaches_mark (n + 2) (fits_of (n + 2) few) k.RightBracket closed (tokens_in (o ∷ []) ++ all))
      (reaches_last (mark k.Of) (λ of_line. done (made opened indexes closed of_line)) (o ∷ []) of_line all
      (reaches_mark (n + 1) fits k.Of of_line all))))
      go_on)

module _ (form : ℕ → Prog TypeForm) (most : ℕ)
    (h : (n : ℕ) (f : TypeForm) (rest : List Token) → n ≤ NESTING_LIMIT → length (type_words n f) < most
    → EndsType (head rest).kind → Reaches (form n) (type_words n f) (Ok (f, rest)) rest) where
  -- fields
  module _ (n : ℕ) (fits : n ≤ NESTING_LIMIT) where
    reaches_group : (group : Group) (rest : List Token) → length (group_words n group) < most
        → EndsType (head rest).kind
        → Reaches (group_by form most n) (group_words n group) (Ok (group, rest)) rest
    reaches_group group rest less end =
        let us = idents_words n group.names in
        let w = at n k.Colon group.colon in
        let ws = type_words n group.form in
        let count : length (us ++ w ∷ ws) ≡ length us + length (w ∷ ws) = length-append us (w ∷ ws) in
        let short : length us < most = omega (arith, less, count) in
        let shorter : length ws < most = omega (arith, less, count) in
        let make : Idents → ℕ → TypeForm → Group = λ names colon element.
        record { names = names; colon = colon; form = element } in
        let behind_colon = λ (names : Idents) (colon : ℕ). bind (form n) (λ element. done (make names colon element)) in
        let r = Ok (group, rest) in
        reaches_bind (idents_by most) (λ names. bind (mark k.Colon) (behind_colon names)) us (w ∷ ws) group.names r rest
        (reaches_idents n fits most group.names group.colon ws rest short)
        (reaches_bind (mark k.Colon) (behind_colon group.names) (w ∷ []) ws group.colon r rest
        (reaches_mark n fits k.Colon group.colon (tokens_in ws ++ rest))
        (reaches_last (form n) (λ element. done (make group.names group.colon element)) ws group.form rest
        (h n group.form rest fits shorter end)))

    ident_starts : (names : Idents) (colon : ℕ) (ws : List Word) (fields : Fields) (line : ℕ) (rest : List Token)
        → behind_semicolon form most n fields line
        (head (tokens_in (idents_words n names ++ at n k.Colon colon ∷ ws) ++ rest)).kind
        (head (tokens_in (idents_words n names ++ at n k.Colon colon ∷ ws) ++ rest)).payload
        (head (tokens_in (idents_words n names ++ at n k.Colon colon ∷ ws) ++ rest)).line
        ≡ bind (group_by form most n) (λ group. done (record {
          fields = tree.more_fields fields line group.names group.colon group.form;
          semicolon = None;
        }))
    ident_starts names colon ws fields line rest = refl

    abbrev so_far : Fields → FieldsRead
    so_far fields = record { fields = fields; semicolon = None }

    reaches_fields_on : (fields : Fields) (left_turns : ℕ) (vs : List Word) (r : Out FieldsRead) (rest : List Token)
        → most ≡ left_turns + turns_of_fields fields → length (fields_words n fields) < most
        → EndsType (head (tokens_in vs ++ rest)).kind
        → Reaches (turns (behind_fields form most n) left_turns (so_far fields)) vs r rest
        → Reaches (fields_by form most n) (fields_words n fields ++ vs) r rest
    reaches_fields_on (tree.first_fields names colon element) left_turns vs r rest is less end go_on =
        let same : left_turns ≡ most = omega (arith, is) in
        let group : Group = record { names = names; colon = colon; form = element } in
        reaches_bind (group_by form most n)
        (λ first. turns (behind_fields form most n) most (first_group form most first)) (group_words n group) vs group r
        rest (reaches_group group (tokens_in vs ++ rest) less end)
        (subst (λ m. Reaches (turns (behind_fields form most n) m (first_group form most group)) vs r rest) same go_on)
    reaches_fields_on (tree.more_fields fields line names colon element) left_turns vs r rest is less end go_on =
        let group : Group = record { names = names; colon = colon; form = element } in
        let w = at n k.Semicolon line in
        let us = fields_words n fields in
        let ws = group_words n group in
        let count : length (us ++ w ∷ ws) ≡ length us + length (w ∷ ws) = length-append us (w ∷ ws) in
        let more_turns : most ≡ suc left_turns + turns_of_fields fields = omega (arith, is) in
        let shorter : length us < most = omega (arith, less, count) in
        let short : length ws < most = omega (arith, less, count) in
        let make : Group → FieldsRead = λ group. record {
          fields = tree.more_fields fields line group.names group.colon group.form;
          semicolon = None;
        } in
        let behind = tokens_in vs ++ rest in
        subst (λ all. Reaches (fields_by form most n) all r rest) (sym (append_assoc us (w ∷ ws) vs))
        (reaches_fields_on fields (suc left_turns) (w ∷ (ws ++ vs)) r rest more_turns shorter tt
        (reaches_more (behind_fields form most n) left_turns (so_far fields) w (make group) ws vs
        (look (behind_semicolon form most n fields line)) r rest refl (sound_says n k.Semicolon nothing line fits)
        (reaches_look (behind_semicolon form most n fields line)
        (bind (group_by form most n) (λ group. done (make group))) ws (Ok (make group, behind)) behind
        (ident_starts names colon (type_words n element) fields line behind)
        (reaches_last (group_by form most n) (λ group. done (make group)) ws group behind
        (reaches_group group behind short end)))
        go_on))

    no_fields_by : (fields : Fields) (semicolon : Option ℕ) (end : ℕ)
        → behind_fields_by form most n fields semicolon k.End nothing end ≡ ends
    no_fields_by fields None end = refl
    no_fields_by fields (Some line) end = refl

    no_group : (fields : Fields) (line end : ℕ)
        → behind_semicolon form most n fields line k.End nothing end
        ≡ done (record { fields = fields; semicolon = Some line })
    no_group fields line end = refl

    -- what stands before `end`
    reaches_semicolon : (fields : Fields) (semicolon : Option ℕ) (left_turns end : ℕ) (rest : List Token)
        → Reaches (turns (behind_fields form most n) (suc (suc left_turns)) (so_far fields))
        (maybe n k.Semicolon semicolon)
        (Ok (record { fields = fields; semicolon = semicolon }, tokens_in (at n k.End end ∷ []) ++ rest))
        (tokens_in (at n k.End end ∷ []) ++ rest)
    reaches_semicolon fields None left_turns end rest =
        reaches_end (behind_fields form most n) (suc left_turns) (so_far fields)
        (tokens_in (at n k.End end ∷ []) ++ rest)
        (no_fields_by fields None end)
    reaches_semicolon fields (Some line) left_turns end rest =
        let w = at n k.Semicolon line in
        let new : FieldsRead = record { fields = fields; semicolon = Some line } in
        let behind = tokens_in (at n k.End end ∷ []) ++ rest in
        reaches_more (behind_fields form most n) (suc left_turns) (so_far fields) w new [] []
        (look (behind_semicolon form most n fields line)) (Ok (new, behind)) behind refl
        (sound_says n k.Semicolon nothing line fits)
        (reaches_look (behind_semicolon form most n fields line) (done new) [] (Ok (new, behind)) behind
        (no_group fields line end) refl)
        (reaches_end (behind_fields form most n) left_turns new behind (no_fields_by fields (Some line) end))

    semicolon_ends : (semicolon : Option ℕ) (end : ℕ) (rest : List Token)
        → EndsType (head (tokens_in (maybe n k.Semicolon semicolon) ++ (tokens_in (at n k.End end ∷ []) ++ rest))).kind
    semicolon_ends None end rest = tt
    semicolon_ends (Some line) end rest = tt

    reaches_fields : (found : FieldsRead) (end : ℕ) (rest : List Token)
        → length (fields_words n found.fields) < most
        → Reaches (fields_by form most n) (fields_words n found.fields ++ maybe n k.Semicolon found.semicolon)
        (Ok (found, tokens_in (at n k.End end ∷ []) ++ rest)) (tokens_in (at n k.End end ∷ []) ++ rest)
    reaches_fields found end rest less =
        let few = few_turns n found.fields in
        let left_turns = most - suc (suc (turns_of_fields found.fields)) in
        let is : most ≡ suc (suc left_turns) + turns_of_fields found.fields = omega (arith, less, few) in
        let behind = tokens_in (at n k.End end ∷ []) ++ rest in
        reaches_fields_on found.fields (suc (suc left_turns)) (maybe n k.Semicolon found.semicolon) (Ok (found, behind))
        behind is less (semicolon_ends found.semicolon end rest)
        (reaches_semicolon found.fields found.semicolon left_turns end rest)

  module _ (n : ℕ) (fits : n ≤ NESTING_LIMIT) where
    -- `packed`, if it is there, and a form that is open from the next word on
    reaches_packed : (packed : Option ℕ) (kind : Kind) (line : ℕ) (ws : List Word) (q : Option ℕ → Prog TypeForm)
        (r : Out TypeForm) (rest : List Token) → type_at form most n kind nothing line ≡ q None
        → ((p : ℕ) → structured_at form most n (Some p) kind nothing line ≡ q (Some p))
        → Reaches (q packed) (at (n + 1) kind line ∷ ws) r rest
        → Reaches (look (type_at form most n)) (maybe n k.Packed packed ++ at (n + 1) kind line ∷ ws) r rest
    reaches_packed None kind line ws q r rest is also read =
        reaches_look (type_at form most n) (q None) (at (n + 1) kind line ∷ ws) r rest is read
    reaches_packed (Some p) kind line ws q r rest is also read =
        reaches_skip (look (structured_at form most n (Some p))) (at n k.Packed p) (at (n + 1) kind line ∷ ws) r rest
        (sound_says n k.Packed nothing p fits)
        (reaches_look (structured_at form most n (Some p)) (q (Some p)) (at (n + 1) kind line ∷ ws) r rest
        (also p) read)

    open_form : {A : Type 0} (kind : Kind) (line : ℕ) (ws : List Word) (q : Prog A) (r : Out A) (rest : List Token)
        → (n + 1 ≤ NESTING_LIMIT → Reaches q ws r rest)
        → Reaches (in_form (n + 1) (skip q)) (at (n + 1) kind line ∷ ws) r rest
    open_form kind line ws q r rest read =
        reaches_unless (at (n + 1) kind line) ws (nat_lt NESTING_LIMIT (n + 1)) q r rest (deep_form (n + 1) kind line)
        (λ few. sound_says (n + 1) kind nothing line (fits_of (n + 1) few)) (λ few. read (fits_of (n + 1) few))

    no_structure : (kind : Kind) (payload : Payload) (line : ℕ) → NoStructure kind
        → type_at form most n kind payload line ≡ bind simple (λ s. done (tree.simple s))
    no_structure k.Packed payload line e = absurd e
    no_structure k.Array payload line e = absurd e
    no_structure k.Record payload line e = absurd e
    no_structure k.File payload line e = absurd e
    no_structure kind payload line e = refl

    reaches_array : (packed : Option ℕ) (line opened : ℕ) (indexes : Separated Simple) (closed of_line : ℕ)
        (element : TypeForm) (rest : List Token)
        → length (type_words n (tree.array packed line opened indexes closed of_line element)) < suc most
        → EndsType (head rest).kind
        → Reaches (look (type_at form most n))
        (type_words n (tree.array packed line opened indexes closed of_line element))
        (Ok (tree.array packed line opened indexes closed of_line element, rest)) rest
    reaches_array packed line opened indexes closed of_line element rest less end =
        let ws = type_words (n + 1) element in
        let us = separated (n + 2) k.Comma (simple_words (n + 2)) indexes in
        let vs = at (n + 2) k.RightBracket closed ∷ (at (n + 1) k.Of of_line ∷ ws) in
        let b = at (n + 2) k.LeftBracket opened in
        let w = at (n + 1) k.Array line in
        let ps = maybe n k.Packed packed in
        let whole : length (ps ++ w ∷ (b ∷ (us ++ vs))) ≡ length ps + length (w ∷ (b ∷ (us ++ vs)))
        = length-append ps (w ∷ (b ∷ (us ++ vs))) in
        let inside : length (us ++ vs) ≡ length us + length vs = length-append us vs in
        let short : length us < most = omega (arith, less, whole, inside) in
        let shorter : length ws < most = omega (arith, less, whole, inside) in
        let make : ArrayStart → TypeForm → TypeForm = λ s element.
        tree.array s.packed s.line s.opened s.indexes s.closed s.of_line element in
        let further = λ (s : ArrayStart). bind (form (n + 1)) (λ element. done (make s element)) in
        let start : ArrayStart = record {
          packed = packed;
          line = line;
          opened = opened;
          indexes = indexes;
          closed = closed;
          of_line = of_line;
        } in
        let r = Ok (make start element, rest) in
        reaches_packed packed k.Array line (b ∷ (us ++ vs)) (λ p. array_by form most n p line) r rest refl (λ p. refl)
        (open_form k.Array line (b ∷ (us ++ vs)) (bind (array_start_by most n packed line) further) r rest
        (λ inner. subst (λ all. Reaches (bind (array_start_by most n packed line) further) (b ∷ all) r rest)
        (append_assoc us (at (n + 2) k.RightBracket closed ∷ (at (n + 1) k.Of of_line ∷ [])) ws)
        (reaches_array_start most n inner packed line opened indexes closed of_line further ws r rest short
        (reaches_last (form (n + 1)) (λ element. done (make start element)) ws element rest
        (h (n + 1) element rest inner shorter end)))))

    reaches_file : (packed : Option ℕ) (line of_line : ℕ) (component : TypeForm) (rest : List Token)
        → length (type_words n (tree.file packed line of_line component)) < suc most → EndsType (head rest).kind
        → Reaches (look (type_at form most n)) (type_words n (tree.file packed line of_line component))
        (Ok (tree.file packed line of_line component, rest)) rest
    reaches_file packed line of_line component rest less end =
        let ws = type_words (n + 1) component in
        let o = at (n + 1) k.Of of_line in
        let ps = maybe n k.Packed packed in
        let whole : length (ps ++ at (n + 1) k.File line ∷ (o ∷ ws)) ≡ length ps + length (at (n + 1) k.File line
        ∷ (o ∷ ws)) = length-append ps (at (n + 1) k.File line ∷ (o ∷ ws)) in
        let shorter : length ws < most = omega (arith, less, whole) in
        let further = λ (of_line : ℕ). bind (form (n + 1))
        (λ component. done (tree.file packed line of_line component)) in
        let r = Ok (tree.file packed line of_line component, rest) in
        reaches_packed packed k.File line (o ∷ ws) (λ p. file_by form most n p line) r rest refl (λ p. refl)
        (open_form k.File line (o ∷ ws) (bind (mark k.Of) further) r rest
        (λ inner. reaches_bind (mark k.Of) further (o ∷ []) ws of_line r rest
        (reaches_mark (n + 1) inner k.Of of_line (tokens_in ws ++ rest))
        (reaches_last (form (n + 1)) (λ component. done (tree.file packed line of_line component)) ws component rest
        (h (n + 1) component rest inner shorter end))))

    reaches_record : (packed : Option ℕ) (line : ℕ) (found : FieldsRead) (end : ℕ) (rest : List Token)
        → length (type_words n (tree.record_type packed line found.fields found.semicolon end)) < suc most
        → Reaches (look (type_at form most n))
        (type_words n (tree.record_type packed line found.fields found.semicolon end))
        (Ok (tree.record_type packed line found.fields found.semicolon end, rest)) rest
    reaches_record packed line found end rest less =
        let us = fields_words (n + 1) found.fields in
        let vs = maybe (n + 1) k.Semicolon found.semicolon in
        let last = at (n + 1) k.End end ∷ [] in
        let w = at (n + 1) k.Record line in
        let ps = maybe n k.Packed packed in
        let whole : length (ps ++ w ∷ (us ++ (vs ++ last))) ≡ length ps + length (w ∷ (us ++ (vs ++ last)))
        = length-append ps (w ∷ (us ++ (vs ++ last))) in
        let inside : length (us ++ (vs ++ last)) ≡ length us + length (vs ++ last) = length-append us (vs ++ last) in
        let short : length us < most = omega (arith, less, whole, inside) in
        let further = λ (found : FieldsRead). bind (mark k.End)
        (λ end. done (tree.record_type packed line found.fields found.semicolon end)) in
        let r = Ok (tree.record_type packed line found.fields found.semicolon end, rest) in
        reaches_packed packed k.Record line (us ++ (vs ++ last)) (λ p. record_by form most n p line) r rest refl
        (λ p. refl)
        (open_form k.Record line (us ++ (vs ++ last)) (bind (fields_by form most (n + 1)) further) r rest
        (λ inner. subst (λ all. Reaches (bind (fields_by form most (n + 1)) further) all r rest)
        (append_assoc us vs last)
        (reaches_bind (fields_by form most (n + 1)) further (us ++ vs) last found r rest
        (reaches_fields (n + 1) inner found end rest short)
        (reaches_last (mark k.End) (λ end. done (tree.record_type packed line found.fields found.semicolon end)) last
        end
        rest (reaches_mark (n + 1) inner k.End end rest)))))

    pub reaches_type_at : (f : TypeForm) (rest : List Token) → length (type_words n f) < suc most
        → EndsType (head rest).kind → Reaches (look (type_at form most n)) (type_words n f) (Ok (f, rest)) rest
    reaches_type_at (tree.simple s) rest less end =
        let first = head (tokens_in (simple_words n s) ++ rest) in
        reaches_look (type_at form most n) (bind simple (λ s. done (tree.simple s))) (simple_words n s)
        (Ok (tree.simple s, rest)) rest
        (no_structure first.kind first.payload first.line (simple_starts n s rest))
        (reaches_last simple (λ s. done (tree.simple s)) (simple_words n s) s rest
        (reaches_simple n fits s rest (no_dots n fits (head rest).kind end)))
    reaches_type_at (tree.array packed line opened indexes closed of_line element) rest less end =
        reaches_array packed line opened indexes closed of_line element rest less end
    reaches_type_at (tree.record_type packed line fields semicolon end_line) rest less end =
        reaches_record packed line (record { fields = fields; semicolon = semicolon }) end_line rest less
    reaches_type_at (tree.file packed line of_line component) rest less end =
        reaches_file packed line of_line component rest less end

-- the reader as it is
pub reaches_type_form : (most n : ℕ) (f : TypeForm) (rest : List Token) → n ≤ NESTING_LIMIT
    → length (type_words n f) < most → EndsType (head rest).kind
    → Reaches (type_form most n) (type_words n f) (Ok (f, rest)) rest
unfolding type_form
reaches_type_form zero n f rest fits less end = absurd (omega (arith, less))
reaches_type_form (suc most) n f rest fits less end =
    reaches_type_at (type_form most) most (reaches_type_form most) n fits f rest less end
