-- What the readers of constants, and of names and subranges as types, read and reach.
use Rattle.std.proofs.Common.{◌≡◌, refl, ℕ, ◌≤◌, List, [], ◌∷◌, ◌++◌}
use Rattle.std.proofs.Common.{Ok, Option, Some, None}
use Rattle.std.proofs.lemmas.List.{append-nil}
use Rattle.wb_base.specs.declared.faults.TheConstants.{ENUMERATIONS, SETS, POINTERS}
use Rattle.pas_tokens.specs.declared.kinds.Kind.{Kind}
use Rattle.pas_tokens.specs.declared.kinds.Kind.TheVariants as k
use Rattle.pas_tokens.specs.Cutting.{Payload, nothing, value, spelling}
use Rattle.pas_tokens.specs.Tokens.{Token}
use Rattle.pas_syntax.specs.declared.limits.TheConstants.{NESTING_LIMIT}
use Rattle.pas_syntax.specs.declared.operators.Sign.{Sign}
use Rattle.pas_syntax.specs.declared.operators.Sign.TheVariants as sign
use Rattle.pas_syntax.specs.Tree as tree
use Rattle.pas_syntax.specs.Tree.{Ident, Numeral, Quoted, Lined, Constant, Simple}
use Rattle.pas_syntax.specs.Words.{Word, at, shows, name_at, number_at, text_at, words_if, sign_kind}
use Rattle.pas_syntax.specs.Words.{constant_sign}
use Rattle.pas_syntax.specs.Words.{constant_words, simple_words}
use Rattle.pas_syntax.specs.Parse.{tokens_in}
use Rattle.pas_syntax.specs.inner.Prog.{done, look, skip, bind, head}
use Rattle.pas_syntax.specs.inner.TypeReaders.{unsigned_at, lead_by, constant_at, constant, range_at}
use Rattle.pas_syntax.specs.inner.TypeReaders.{behind_simple_name}
use Rattle.pas_syntax.specs.inner.TypeReaders.{simple_at, simple}
use Rattle.pas_syntax.proofs.Good.{a_token, ReadsAt, Reads, reads_look, reads_done, reads_wrong, reads_shown}
use Rattle.pas_syntax.proofs.Good.{reads_skip}
use Rattle.pas_syntax.proofs.Good.{reads_bind}
use Rattle.pas_syntax.proofs.TurnLemmas.{Any}
use Rattle.pas_syntax.proofs.WordLemmas.{sound_says}
use Rattle.pas_syntax.proofs.Judged.{Reaches, reaches_bind, reaches_last, reaches_skip, reaches_shown}
use Rattle.pas_syntax.proofs.ReachLemmas.{reaches_look}

abbrev pub IsConstant : ℕ → Constant → List Word → Type 0
IsConstant n c ws = ws ≡ constant_words n c

abbrev pub IsSimple : ℕ → Simple → List Word → Type 0
IsSimple n s ws = ws ≡ simple_words n s

abbrev zero_numeral : Numeral
zero_numeral = record { value = 0; line = 0 }

abbrev zero_constant : Constant
zero_constant = tree.number None zero_numeral

module _ (n : ℕ) (fits : n ≤ NESTING_LIMIT) where
  reads_unsigned_at : (lead : Option (Lined Sign)) (kind : Kind) (payload : Payload) (line : ℕ)
      → ReadsAt (a_token kind payload line) (λ c vs. IsConstant n c (words_if (constant_sign n) lead ++ vs)) Any
      (unsigned_at lead kind payload line)
  reads_unsigned_at lead k.Number (value number) line =
      let us = words_if (constant_sign n) lead in
      let found : Numeral = record { value = number; line = line } in
      reads_skip (λ c vs. IsConstant n c (us ++ vs)) Any (number_at n found) (done (tree.number lead found)) (λ e. cc)
      (sound_says n k.Number (value number) line fits)
      (λ ts. reads_done (λ c vs. IsConstant n c (us ++ number_at n found ∷ vs)) Any (head ts) (tree.number lead found)
      refl tt ts refl)
  reads_unsigned_at lead k.Name (spelling name) line =
      let us = words_if (constant_sign n) lead in
      let found : Ident = record { name = name; line = line } in
      reads_skip (λ c vs. IsConstant n c (us ++ vs)) Any (name_at n found) (done (tree.named lead found)) (λ e. cc)
      (sound_says n k.Name (spelling name) line fits)
      (λ ts. reads_done (λ c vs. IsConstant n c (us ++ name_at n found ∷ vs)) Any (head ts) (tree.named lead found)
      refl tt ts refl)
  reads_unsigned_at lead kind payload line =
      reads_wrong (λ c vs. IsConstant n c (words_if (constant_sign n) lead ++ vs)) Any (a_token kind payload line)
      (tree.number lead zero_numeral) (number_at n zero_numeral) [] refl

  reads_constant_at : (kind : Kind) (payload : Payload) (line : ℕ)
      → ReadsAt (a_token kind payload line) (IsConstant n) Any (constant_at kind payload line)
  reads_constant_at k.Text (spelling text) line =
      let found : Quoted = record { text = text; line = line } in
      reads_skip (IsConstant n) Any (text_at n found) (done (tree.text found)) (λ e. cc)
      (sound_says n k.Text (spelling text) line fits)
      (λ ts. reads_done (λ c vs. IsConstant n c (text_at n found ∷ vs)) Any (head ts) (tree.text found) refl tt ts refl)
  reads_constant_at k.Plus nothing line =
      reads_skip (IsConstant n) Any (at n k.Plus line) (look (unsigned_at (lead_by sign.Plus line))) (λ e. cc)
      (sound_says n k.Plus nothing line fits)
      (reads_look (λ c vs. IsConstant n c (at n k.Plus line ∷ vs)) Any (unsigned_at (lead_by sign.Plus line))
      (reads_unsigned_at (lead_by sign.Plus line)))
  reads_constant_at k.Minus nothing line =
      reads_skip (IsConstant n) Any (at n k.Minus line) (look (unsigned_at (lead_by sign.Minus line))) (λ e. cc)
      (sound_says n k.Minus nothing line fits)
      (reads_look (λ c vs. IsConstant n c (at n k.Minus line ∷ vs)) Any (unsigned_at (lead_by sign.Minus line))
      (reads_unsigned_at (lead_by sign.Minus line)))
  reads_constant_at kind payload line = reads_unsigned_at None kind payload line

  pub reads_constant : Reads (IsConstant n) Any constant
  reads_constant = reads_look (IsConstant n) Any constant_at reads_constant_at

  -- a subrange behind its lower bound
  reads_dots : (low : Constant) (us : List Word) (line : ℕ) → IsConstant n low us
      → ReadsAt (a_token k.Dots nothing line) (λ s vs. IsSimple n s (us ++ vs)) Any
      (skip (bind constant (λ high. done (tree.range low line high))))
  reads_dots low us line is =
      let w = at n k.Dots line in
      reads_skip (λ s vs. IsSimple n s (us ++ vs)) Any w (bind constant (λ high. done (tree.range low line high))) (λ
      e. cc)
      (sound_says n k.Dots nothing line fits)
      (reads_bind (IsConstant n) Any (λ s vs. IsSimple n s (us ++ w ∷ vs)) Any (λ high. done (tree.range low line high))
      constant reads_constant
      (λ high vs t also _. reads_done (λ s ws. IsSimple n s (us ++ w ∷ (vs ++ ws))) Any t (tree.range low line high)
      (rw (append-nil vs, is, also) refl) tt)
      (λ high vs also. (tree.range low line high, [], rw (append-nil vs, is, also) refl)))

  reads_range_at : (low : Constant) (us : List Word) → IsConstant n low us
      → (kind : Kind) (payload : Payload) (line : ℕ)
      → ReadsAt (a_token kind payload line) (λ s vs. IsSimple n s (us ++ vs)) Any (range_at low kind payload line)
  reads_range_at low us is k.Dots nothing line = reads_dots low us line is
  reads_range_at low us is kind payload line =
      reads_wrong (λ s vs. IsSimple n s (us ++ vs)) Any (a_token kind payload line) (tree.range low 0 zero_constant)
      (at n k.Dots 0) (number_at n zero_numeral ∷ []) (rw is refl)

  reads_behind_simple_name : (name : Ident) (kind : Kind) (payload : Payload) (line : ℕ)
      → ReadsAt (a_token kind payload line) (λ s vs. IsSimple n s (name_at n name ∷ vs)) Any
      (behind_simple_name name kind payload line)
  reads_behind_simple_name name k.Dots nothing line = reads_dots (tree.named None name) (name_at n name ∷ []) line refl
  reads_behind_simple_name name kind payload line =
      reads_done (λ s vs. IsSimple n s (name_at n name ∷ vs)) Any (a_token kind payload line) (tree.simple_named name)
      refl tt

  reads_range : Reads (IsSimple n) Any (bind constant (λ low. look (range_at low)))
  reads_range =
      reads_bind (IsConstant n) Any (IsSimple n) Any (λ low. look (range_at low)) constant reads_constant
      (λ low us t is _ ts _. reads_look (λ s vs. IsSimple n s (us
      ++ vs)) Any (range_at low) (reads_range_at low us is) ts)
      (λ low us is. (tree.range low 0 zero_constant, at n k.Dots 0 ∷ number_at n zero_numeral ∷ [], rw is refl))

  reads_simple_at : (kind : Kind) (payload : Payload) (line : ℕ)
      → ReadsAt (a_token kind payload line) (IsSimple n) Any (simple_at kind payload line)
  reads_simple_at k.Name (spelling name) line =
      let found : Ident = record { name = name; line = line } in
      reads_skip (IsSimple n) Any (name_at n found) (look (behind_simple_name found)) (λ e. cc)
      (sound_says n k.Name (spelling name) line fits)
      (reads_look (λ s vs. IsSimple n s (name_at n found ∷ vs)) Any (behind_simple_name found)
      (reads_behind_simple_name found))
  reads_simple_at k.LeftParenthesis nothing line =
      reads_shown (IsSimple n) Any (a_token k.LeftParenthesis nothing line) ENUMERATIONS
      (tree.no_simple (tree.enumeration line)) (shows n k.LeftParenthesis line ENUMERATIONS) [] refl refl refl
  reads_simple_at k.Set nothing line =
      reads_shown (IsSimple n) Any (a_token k.Set nothing line) SETS (tree.no_simple (tree.set line))
      (shows n k.Set line SETS) [] refl refl refl
  reads_simple_at k.Caret nothing line =
      reads_shown (IsSimple n) Any (a_token k.Caret nothing line) POINTERS (tree.no_simple (tree.pointer line))
      (shows n k.Caret line POINTERS) [] refl refl refl
  reads_simple_at kind payload line = λ ts is. reads_range ts

  pub reads_simple : Reads (IsSimple n) Any simple
  reads_simple = reads_look (IsSimple n) Any simple_at reads_simple_at

  -- what is reached
  sign_first : (lead : Sign) (line : ℕ)
      → constant_at (sign_kind lead) nothing line ≡ skip (look (unsigned_at (lead_by lead line)))
  sign_first sign.Plus line = refl
  sign_first sign.Minus line = refl

  pub reaches_constant : (c : Constant) (rest : List Token) → Reaches constant (constant_words n c) (Ok (c, rest)) rest
  reaches_constant (tree.number None numeral) rest =
      reaches_skip (done (tree.number None numeral)) (number_at n numeral) [] (Ok (tree.number None numeral, rest)) rest
      (sound_says n k.Number (value numeral.value) numeral.line fits) refl
  reaches_constant (tree.number (Some lead) numeral) rest =
      let c = tree.number (Some lead) numeral in
      let w = at n (sign_kind lead.item) lead.line in
      reaches_look constant_at (skip (look (unsigned_at (Some lead)))) (w ∷ number_at n numeral
      ∷ []) (Ok (c, rest)) rest
      (sign_first lead.item lead.line)
      (reaches_skip (look (unsigned_at (Some lead))) w (number_at n numeral ∷ []) (Ok (c, rest)) rest
      (sound_says n (sign_kind lead.item) nothing lead.line fits)
      (reaches_skip (done c) (number_at n numeral) [] (Ok (c, rest)) rest
      (sound_says n k.Number (value numeral.value) numeral.line fits) refl))
  reaches_constant (tree.named None name) rest =
      reaches_skip (done (tree.named None name)) (name_at n name) [] (Ok (tree.named None name, rest)) rest
      (sound_says n k.Name (spelling name.name) name.line fits) refl
  reaches_constant (tree.named (Some lead) name) rest =
      let c = tree.named (Some lead) name in
      let w = at n (sign_kind lead.item) lead.line in
      reaches_look constant_at (skip (look (unsigned_at (Some lead)))) (w ∷ name_at n name ∷ []) (Ok (c, rest)) rest
      (sign_first lead.item lead.line)
      (reaches_skip (look (unsigned_at (Some lead))) w (name_at n name ∷ []) (Ok (c, rest)) rest
      (sound_says n (sign_kind lead.item) nothing lead.line fits)
      (reaches_skip (done c) (name_at n name) [] (Ok (c, rest)) rest
      (sound_says n k.Name (spelling name.name) name.line fits) refl))
  reaches_constant (tree.text quoted) rest =
      reaches_skip (done (tree.text quoted)) (text_at n quoted) [] (Ok (tree.text quoted, rest)) rest
      (sound_says n k.Text (spelling quoted.text) quoted.line fits) refl

  -- what may stand behind a simple type: no dots
  abbrev pub EndsSimple : Kind → Type 0
  EndsSimple k.Dots = ⊥
  EndsSimple kind = Unit {0}

  no_dots : (name : Ident) (kind : Kind) (payload : Payload) (line : ℕ) → EndsSimple kind
      → behind_simple_name name kind payload line ≡ done (tree.simple_named name)
  no_dots name k.Dots payload line e = absurd e
  no_dots name kind payload line e = refl

  signed_range : (lead : Sign) (line : ℕ)
      → simple_at (sign_kind lead) nothing line ≡ bind constant (λ low. look (range_at low))
  signed_range sign.Plus line = refl
  signed_range sign.Minus line = refl

  -- a subrange of which the lower bound is read as a constant
  reaches_range : (low : Constant) (line : ℕ) (high : Constant) (rest : List Token)
      → Reaches (bind constant (λ low. look (range_at low))) (constant_words n low ++ at n k.Dots line
      ∷ constant_words n high)
      (Ok (tree.range low line high, rest)) rest
  reaches_range low line high rest =
      let w = at n k.Dots line in
      let hs = constant_words n high in
      let s = tree.range low line high in
      reaches_bind constant (λ low. look (range_at low)) (constant_words n low) (w ∷ hs) low (Ok (s, rest)) rest
      (reaches_constant low (tokens_in (w ∷ hs) ++ rest))
      (reaches_skip (bind constant (λ high. done (tree.range low line high))) w hs (Ok (s, rest)) rest
      (sound_says n k.Dots nothing line fits)
      (reaches_last constant (λ high. done (tree.range low line high)) hs high rest (reaches_constant high rest)))

  pub reaches_simple : (s : Simple) (rest : List Token) → EndsSimple (head rest).kind
      → Reaches simple (simple_words n s) (Ok (s, rest)) rest
  reaches_simple (tree.simple_named name) rest end =
      reaches_skip (look (behind_simple_name name)) (name_at n name) [] (Ok (tree.simple_named name, rest)) rest
      (sound_says n k.Name (spelling name.name) name.line fits)
      (reaches_look (behind_simple_name name) (done (tree.simple_named name)) [] (Ok (tree.simple_named name, rest))
      rest
      (no_dots name (head rest).kind (head rest).payload (head rest).line end) refl)
  reaches_simple (tree.range (tree.number None numeral) line high) rest end =
      reaches_range (tree.number None numeral) line high rest
  reaches_simple (tree.range (tree.number (Some lead) numeral) line high) rest end =
      let low = tree.number (Some lead) numeral in
      reaches_look simple_at (bind constant (λ low. look (range_at low)))
      (constant_words n low ++ at n k.Dots line ∷ constant_words n high) (Ok (tree.range low line high, rest)) rest
      (signed_range lead.item lead.line) (reaches_range low line high rest)
  reaches_simple (tree.range (tree.named None name) line high) rest end =
      let w = at n k.Dots line in
      let hs = constant_words n high in
      let s = tree.range (tree.named None name) line high in
      reaches_skip (look (behind_simple_name name)) (name_at n name) (w ∷ hs) (Ok (s, rest)) rest
      (sound_says n k.Name (spelling name.name) name.line fits)
      (reaches_skip (bind constant (λ high. done (tree.range (tree.named None name) line high))) w hs (Ok (s, rest))
      rest
      (sound_says n k.Dots nothing line fits)
      (reaches_last constant (λ high. done (tree.range (tree.named None name) line high)) hs high rest
      (reaches_constant high rest)))
  reaches_simple (tree.range (tree.named (Some lead) name) line high) rest end =
      let low = tree.named (Some lead) name in
      reaches_look simple_at (bind constant (λ low. look (range_at low)))
      (constant_words n low ++ at n k.Dots line ∷ constant_words n high) (Ok (tree.range low line high, rest)) rest
      (signed_range lead.item lead.line) (reaches_range low line high rest)
  reaches_simple (tree.range (tree.text quoted) line high) rest end =
      reaches_range (tree.text quoted) line high rest
  reaches_simple (tree.no_simple (tree.enumeration line)) rest end =
      reaches_shown ENUMERATIONS (shows n k.LeftParenthesis line ENUMERATIONS) []
      (Ok (tree.no_simple (tree.enumeration line), rest)) rest refl
  reaches_simple (tree.no_simple (tree.set line)) rest end =
      reaches_shown SETS (shows n k.Set line SETS) [] (Ok (tree.no_simple (tree.set line), rest)) rest refl
  reaches_simple (tree.no_simple (tree.pointer line)) rest end =
      reaches_shown POINTERS (shows n k.Caret line POINTERS) [] (Ok (tree.no_simple (tree.pointer line), rest)) rest
      refl
