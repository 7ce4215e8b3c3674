-- Which words show faults, and how readers and loops go where nesting may pass its limit.
use Rattle.std.proofs.Common.{◌≡◌, refl, ℕ, ◌≤◌, Bool, true, false}
use Rattle.std.proofs.Common.{List, ◌∷◌, ◌++◌, Some}
use Rattle.std.specs.Prelude.{nat_lt}
use Rattle.std.proofs.lemmas.Bool.{le-ltb, ltb-false}
use Rattle.wb_base.specs.declared.faults.TheConstants.{NESTING_PAST_LIMIT}
use Rattle.pas_tokens.specs.declared.kinds.Kind.{Kind}
use Rattle.pas_tokens.specs.Cutting.{Payload}
use Rattle.pas_tokens.specs.Tokens.{Token}
use Rattle.pas_syntax.specs.declared.limits.TheConstants.{NESTING_LIMIT}
use Rattle.pas_syntax.specs.Words.{Word, says, at, operator}
use Rattle.pas_syntax.specs.Parse.{fault_of, left_out, IsSound}
use Rattle.pas_syntax.specs.inner.Prog.{Prog, more}
use Rattle.pas_syntax.specs.inner.Readers.{unless, turn_unless}
use Rattle.pas_syntax.proofs.Good.{ReadsAt, reads_shown}
use Rattle.pas_syntax.proofs.TurnLemmas.{Any, Begins}

pub sound_says : (n : ℕ) (kind : Kind) (payload : Payload) (line : ℕ) → n ≤ NESTING_LIMIT
    → IsSound (says n kind payload line)
sound_says n kind payload line fits = rw (le-ltb NESTING_LIMIT n fits) refl

pub sound_operator : (n count : ℕ) (kind : Kind) (line : ℕ) → n ≤ NESTING_LIMIT → nat_lt NESTING_LIMIT count ≡ false
    → IsSound (operator n count kind line)
sound_operator n count kind line fits few = rw (le-ltb NESTING_LIMIT n fits, few) refl

pub deep_form : (n : ℕ) (kind : Kind) (line : ℕ) → nat_lt NESTING_LIMIT n ≡ true
    → fault_of (at n kind line) ≡ Some (left_out NESTING_PAST_LIMIT)
deep_form n kind line deep = rw deep refl

pub deep_operator : (n count : ℕ) (kind : Kind) (line : ℕ) → n ≤ NESTING_LIMIT → nat_lt NESTING_LIMIT count ≡ true
    → fault_of (operator n count kind line) ≡ Some (left_out NESTING_PAST_LIMIT)
deep_operator n count kind line fits deep = rw (le-ltb NESTING_LIMIT n fits, deep) refl

-- a word that shows that nesting passes its limit, and a tree that begins with it
pub record IsDeep {A : Type 0} (P : A → List Word → Type 0) (t : Token) : Type 0 where
  pub tree : A
  pub word : Word
  pub behind : List Word
  pub spelled : P tree (word ∷ behind)
  pub same : word.token ≡ t
  pub shows : fault_of word ≡ Some (left_out NESTING_PAST_LIMIT)

pub reads_unless : {A : Type 0} (P : A → List Word → Type 0) (t : Token) (b : Bool) (reader : Prog A)
    → (b ≡ true → IsDeep P t) → (b ≡ false → ReadsAt t P Any reader) → ReadsAt t P Any (unless b reader)
reads_unless P t true reader deep few =
    let d = deep refl in
    reads_shown P Any t NESTING_PAST_LIMIT d.tree d.word d.behind d.spelled d.same d.shows
reads_unless P t false reader deep few = few refl

pub begins_unless : {S : Type 0} (R : S → List Word → Type 0) (us : List Word) (t : Token) (b : Bool) (turn : Prog S)
    → (b ≡ true → IsDeep (λ s ws. R s (us ++ ws)) t) → (b ≡ false → Begins R us t (more turn))
    → Begins R us t (turn_unless b turn)
begins_unless R us t true turn deep few =
    let d = deep refl in (d.tree, d.word, d.behind, d.spelled, d.same, d.shows)
begins_unless R us t false turn deep few = few refl

-- within the limit, as a number
pub fits_of : (n : ℕ) → nat_lt NESTING_LIMIT n ≡ false → n ≤ NESTING_LIMIT
fits_of n few = ltb-false NESTING_LIMIT n few
