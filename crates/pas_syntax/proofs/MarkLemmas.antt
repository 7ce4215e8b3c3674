-- What the readers of reserved words, signs and numbers read, and what they reach.
use denote.Enum.Bare.{same_true, true_same, false_same}
use Rattle.std.proofs.Common.{◌≡◌, refl, ap, subst, ◌∙◌, ℕ, ◌≤◌, Bool, true, false, List, [], ◌∷◌}
use Rattle.std.proofs.Common.{Ok, Option, Some, None}
use Rattle.pas_tokens.specs.contracts.kinds.Kind.{the_type}
use Rattle.pas_tokens.specs.declared.kinds.Kind.{Kind}
use Rattle.pas_tokens.specs.declared.kinds.Kind.TheVariants as k
use Rattle.pas_tokens.specs.Cutting.{Payload, nothing, value, spelling}
use Rattle.pas_tokens.specs.Tokens.{Token}
use Rattle.pas_syntax.specs.declared.limits.TheConstants.{NESTING_LIMIT}
use Rattle.pas_syntax.specs.Tree.{Ident, Numeral}
use Rattle.pas_syntax.specs.Words.{Word, at, maybe, name_at, number_at}
use Rattle.pas_syntax.specs.inner.Prog.{done, skip, head, run}
use Rattle.pas_syntax.specs.inner.Readers.{ident}
use Rattle.pas_syntax.specs.inner.Marks.{same_kind, mark_if, mark_at, mark, maybe_if, maybe_at, maybe_mark}
use Rattle.pas_syntax.specs.inner.StatementReaders.{numeral_at, numeral}
use Rattle.pas_syntax.proofs.Good.{a_token, ReadsAt, Reads, reads_look, reads_done, reads_wrong, reads_skip}
use Rattle.pas_syntax.proofs.TurnLemmas.{Any}
use Rattle.pas_syntax.proofs.WordLemmas.{sound_says}
use Rattle.pas_syntax.proofs.ExprReads.{IsTaken}
use Rattle.pas_syntax.proofs.Judged.{Reaches, reaches_skip}

-- a number, to complete a tree with
abbrev pub zero_numeral : Numeral
zero_numeral = record { value = 0; line = 0 }

abbrev pub IsNumeral : ℕ → Numeral → List Word → Type 0
IsNumeral n number ws = ws ≡ number_at n number ∷ []

-- a token that may be there
abbrev pub MayBeTaken : ℕ → Kind → Option ℕ → List Word → Type 0
MayBeTaken n wanted found ws = ws ≡ maybe n wanted found

pub same_itself : (kind : Kind) → same_kind kind kind ≡ true
same_itself kind = true_same the_type kind kind refl

pub same_is : (a b : Kind) → same_kind a b ≡ true → a ≡ b
same_is a b e = same_true the_type tt a b e

pub not_same : (a b : Kind) → (a ≡ b → ⊥) → same_kind a b ≡ false
not_same a b other = false_same the_type tt a b other

module _ (n : ℕ) (fits : n ≤ NESTING_LIMIT) (wanted : Kind) (goes_on : k.EndOfText ≡ wanted → ⊥) where
  reads_mark_if : (kind : Kind) (payload : Payload) (line : ℕ) (same : Bool) → (same ≡ true → wanted ≡ kind)
      → ReadsAt (a_token kind payload line) (IsTaken n wanted) Any (mark_if same payload line)
  reads_mark_if kind nothing line true is =
      subst (λ other. ReadsAt (a_token other nothing line) (IsTaken n wanted) Any (skip (done line))) (is refl)
      (reads_skip (IsTaken n wanted) Any (at n wanted line) (done line) goes_on (sound_says n wanted nothing line fits)
      (λ ts. reads_done (λ x ws. IsTaken n wanted x (at n wanted line ∷ ws)) Any (head ts) line refl tt ts refl))
  reads_mark_if kind payload line true is =
      reads_wrong (IsTaken n wanted) Any (a_token kind payload line) 0 (at n wanted 0) [] refl
  reads_mark_if kind payload line false is =
      reads_wrong (IsTaken n wanted) Any (a_token kind payload line) 0 (at n wanted 0) [] refl

  pub reads_mark : Reads (IsTaken n wanted) Any (mark wanted)
  reads_mark =
      reads_look (IsTaken n wanted) Any (mark_at wanted)
      (λ kind payload line. reads_mark_if kind payload line (same_kind wanted kind) (same_is wanted kind))

  reads_maybe_if : (kind : Kind) (payload : Payload) (line : ℕ) (same : Bool) → (same ≡ true → wanted ≡ kind)
      → ReadsAt (a_token kind payload line) (MayBeTaken n wanted) Any (maybe_if same payload line)
  reads_maybe_if kind nothing line true is =
      subst (λ other. ReadsAt (a_token other nothing line) (MayBeTaken n wanted) Any (skip (done (Some line))))
      (is refl)
      (reads_skip (MayBeTaken n wanted) Any (at n wanted line) (done (Some line)) goes_on
      (sound_says n wanted nothing line fits)
      (λ ts. reads_done (λ x ws. MayBeTaken n wanted x (at n wanted line ∷ ws)) Any (head ts)
      (Some line) refl tt ts refl))
  reads_maybe_if kind payload line true is =
      reads_done (MayBeTaken n wanted) Any (a_token kind payload line) None refl tt
  reads_maybe_if kind payload line false is =
      reads_done (MayBeTaken n wanted) Any (a_token kind payload line) None refl tt

  pub reads_maybe : Reads (MayBeTaken n wanted) Any (maybe_mark wanted)
  reads_maybe =
      reads_look (MayBeTaken n wanted) Any (maybe_at wanted)
      (λ kind payload line. reads_maybe_if kind payload line (same_kind wanted kind) (same_is wanted kind))

module _ (n : ℕ) (fits : n ≤ NESTING_LIMIT) where
  pub reaches_mark : (wanted : Kind) (line : ℕ) (rest : List Token)
      → Reaches (mark wanted) (at n wanted line ∷ []) (Ok (line, rest)) rest
  reaches_mark wanted line rest =
      ap (λ same. run (mark_if same nothing line) ((at n wanted line).token ∷ rest)) (same_itself wanted)
      ∙ reaches_skip (done line) (at n wanted line) [] (Ok (line, rest)) rest (sound_says n wanted nothing line fits)
      refl

  pub reaches_maybe_there : (wanted : Kind) (line : ℕ) (rest : List Token)
      → Reaches (maybe_mark wanted) (at n wanted line ∷ []) (Ok (Some line, rest)) rest
  reaches_maybe_there wanted line rest =
      ap (λ same. run (maybe_if same nothing line) ((at n wanted line).token ∷ rest)) (same_itself wanted)
      ∙ reaches_skip (done (Some line)) (at n wanted line) [] (Ok (Some line, rest)) rest
      (sound_says n wanted nothing line fits) refl

  pub reaches_maybe : (wanted : Kind) (found : Option ℕ) (rest : List Token) → (wanted ≡ (head rest).kind → ⊥)
      → Reaches (maybe_mark wanted) (maybe n wanted found) (Ok (found, rest)) rest
  reaches_maybe wanted None rest other =
      ap (λ same. run (maybe_if same (head rest).payload (head rest).line) rest)
      (not_same wanted (head rest).kind other)
  reaches_maybe wanted (Some line) rest other = reaches_maybe_there wanted line rest

  pub reaches_ident : (name : Ident) (rest : List Token)
      → Reaches ident (name_at n name ∷ []) (Ok (name, rest)) rest
  reaches_ident name rest =
      reaches_skip (done name) (name_at n name) [] (Ok (name, rest)) rest
      (sound_says n k.Name (spelling name.name) name.line fits) refl

  pub reaches_numeral : (number : Numeral) (rest : List Token)
      → Reaches numeral (number_at n number ∷ []) (Ok (number, rest)) rest
  reaches_numeral number rest =
      reaches_skip (done number) (number_at n number) [] (Ok (number, rest)) rest
      (sound_says n k.Number (value number.value) number.line fits) refl

  reads_numeral_at : (kind : Kind) (payload : Payload) (line : ℕ)
      → ReadsAt (a_token kind payload line) (IsNumeral n) Any (numeral_at kind payload line)
  reads_numeral_at k.Number (value number) line =
      let found : Numeral = record { value = number; line = line } in
      reads_skip (IsNumeral n) Any (number_at n found) (done found) (λ e. cc)
      (sound_says n k.Number (value number) line fits)
      (λ ts. reads_done (λ x ws. IsNumeral n x (number_at n found ∷ ws)) Any (head ts) found refl tt ts refl)
  reads_numeral_at kind payload line =
      reads_wrong (IsNumeral n) Any (a_token kind payload line) zero_numeral (number_at n zero_numeral) [] refl

  pub reads_numeral : Reads (IsNumeral n) Any numeral
  reads_numeral = reads_look (IsNumeral n) Any numeral_at reads_numeral_at
