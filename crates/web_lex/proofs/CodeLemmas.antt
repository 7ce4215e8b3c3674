-- The next code of a text, a step at a time.
use Rattle.std.proofs.Common.{◌≡◌, ℕ, ◌==◌, false, List, [], ◌∷◌, drop, Option, Some, refl, sym}
use Rattle.std.proofs.Common.{ap, ◌∙◌}
use Rattle.std.specs.List.{position_or_len}
use Rattle.wb_base.specs.declared.places.Place.{Place}
use Rattle.web_lex.specs.declared.codes.Code.{Code}
use Rattle.web_lex.specs.declared.codes.Code.TheVariants as code
use Rattle.web_lex.specs.Codes.{code_of}
use Rattle.web_lex.specs.Raw.{PlacedByte, place_of, bytes_of_line}
use Rattle.web_lex.specs.SkipAhead.{Found, next_code, found_or}
use Rattle.web_lex.specs.inner.Ahead.{first_byte, is_at_sign}
use Rattle.web_lex.proofs.TextLemmas.{passed-plain}

-- a code that is not passed is found
pub found_or-found : (value : Code) (place : Place) (rest : List PlacedByte) (further : Option Found)
    → (value ≡ code.Ignore → ⊥) → (value ≡ code.At → ⊥)
    → found_or value place rest further ≡ Some (record { code = value; place = place; rest = rest })
found_or-found code.Ignore place rest further not_ignored not_at = absurd (not_ignored refl)
found_or-found code.At place rest further not_ignored not_at = absurd (not_at refl)
found_or-found _ place rest further not_ignored not_at = refl

-- an at sign and the byte after it
pub next_code-at_sign :
    (text : List PlacedByte) (end : Place) (next : ℕ) → first_byte text ≡ Some 64
    → first_byte (drop 1 text) ≡ Some next
    → next_code text ≡ found_or (code_of next) (place_of end text) (drop 1 (drop 1 text))
    (next_code (drop 1 (drop 1 text)))
next_code-at_sign [] end next is_sign is_next = absurd cc
next_code-at_sign (byte ∷ []) end next is_sign is_next = absurd cc
next_code-at_sign (byte ∷ (other ∷ rest)) end next is_sign is_next =
    let sign : byte.byte ≡ 64 = cc in
    let same : other.byte ≡ next = cc in
    rw (sign, same) refl

-- the same, where the code is not passed
pub next_code-found :
    (text after rest : List PlacedByte) (end place : Place) (byte next : ℕ) (value : Code)
    → first_byte text ≡ Some byte → byte ≡ 64 → after ≡ drop 1 text → Some next ≡ first_byte after
    → rest ≡ drop 1 after → place ≡ place_of end text → value ≡ code_of next
    → (value ≡ code.Ignore → ⊥) → (value ≡ code.At → ⊥)
    → next_code text ≡ Some (record { code = value; place = place; rest = rest })
next_code-found text after rest end place byte next value first sign after_is second rest_is place_is value_is
    not_ignored not_at =
    let is_sign : first_byte text ≡ Some 64 = first ∙ ap Some sign in
    let is_next : first_byte (drop 1 text) ≡ Some next = sym (second ∙ ap first_byte after_is) in
    let rest_there : rest ≡ drop 1 (drop 1 text) = rest_is ∙ ap (drop 1) after_is in
    next_code-at_sign text end next is_sign is_next
    ∙ ap (λ v. found_or v (place_of end text) (drop 1 (drop 1 text)) (next_code (drop 1 (drop 1 text))))
    (sym value_is)
    ∙ found_or-found value (place_of end text) (drop 1 (drop 1 text))
    (next_code (drop 1 (drop 1 text))) not_ignored not_at
    ∙ ap (λ p. Some (record { code = value; place = p; rest = drop 1 (drop 1 text) })) (sym place_is)
    ∙ ap (λ r. Some (record { code = value; place = place; rest = r })) (sym rest_there)

-- a byte that is no at sign is passed
next_code-byte : (byte : PlacedByte) (rest : List PlacedByte) → (byte.byte == 64) ≡ false
    → next_code (byte ∷ rest) ≡ next_code rest
next_code-byte byte [] other = refl
next_code-byte byte (next ∷ rest) other = rw other refl

-- and so are all bytes of a line before its first at sign
pub next_code-plain : (text : List PlacedByte)
    → next_code (drop (position_or_len is_at_sign (bytes_of_line text)) text) ≡ next_code text
next_code-plain = passed-plain is_at_sign next_code next_code-byte
