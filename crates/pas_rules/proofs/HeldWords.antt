-- Words that tokens of a text can be: a number is at most the greatest one, a string is of bytes, a name is not too
-- long, and none shows a part of Pascal that is left out.
use Rattle.std.proofs.Common.{◌≡◌, ℕ, ◌≤◌, List, ◌∷◌, ◌++◌, length, None}
use Rattle.std.specs.Prelude.{⊤}
use Rattle.pas_tokens.specs.declared.kinds.Kind.{Kind}
use Rattle.pas_tokens.specs.declared.kinds.Kind.TheVariants as k
use Rattle.pas_tokens.specs.declared.limits.TheConstants.{GREATEST_NUMBER, NAME_LIMIT}
use Rattle.pas_tokens.specs.Cutting.{Payload, nothing, value, spelling}
use Rattle.pas_tokens.specs.Tokens.{Token}
use Rattle.pas_syntax.specs.Words.{Word}
use Rattle.pas_rules.proofs.CleanLemmas.{Each, each_before, each_behind}

abbrev pub AreBytes : List ℕ → Type 0
AreBytes bytes = Each (λ byte. byte ≤ 255) bytes

abbrev pub IsSpelling : Kind → List ℕ → Type 0
IsSpelling k.Text bytes = AreBytes bytes
IsSpelling k.Name bytes = length bytes ≤ NAME_LIMIT
IsSpelling kind bytes = ⊤

abbrev pub IsHeldBy : Kind → Payload → Type 0
IsHeldBy kind nothing = ⊤
IsHeldBy kind (value number) = number ≤ GREATEST_NUMBER
IsHeldBy kind (spelling bytes) = IsSpelling kind bytes

abbrev pub IsHeld : Token → Type 0
IsHeld token = IsHeldBy token.kind token.payload

abbrev pub IsHeldWord : Word → Type 0
IsHeldWord word = IsHeld word.token × (word.left_out ≡ None)

abbrev pub AreHeld : List Word → Type 0
AreHeld words = Each IsHeldWord words

pub held_before : (words more : List Word) → AreHeld (words ++ more) → AreHeld words
held_before words more h = each_before IsHeldWord words more h

pub held_behind : (words more : List Word) → AreHeld (words ++ more) → AreHeld more
held_behind words more h = each_behind IsHeldWord words more h

-- the words behind a word that stands behind words
pub held_next : (words : List Word) (word : Word) (more : List Word) → AreHeld (words ++ word ∷ more) → AreHeld more
held_next words word more h = (held_behind words (word ∷ more) h).1
