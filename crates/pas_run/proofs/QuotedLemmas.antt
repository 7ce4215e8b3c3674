-- Texts that are spelled with each quote twice.
use Rattle.std.proofs.Common.{◌≡◌, refl, sym, ap, ◌∙◌, ℕ, zero, suc, ◌+◌, ◌-◌, ◌<◌, ◌≤◌, Bool, true, false, ◌==◌}
use Rattle.std.proofs.Common.{List, [], ◌∷◌, ◌++◌, length, drop, take, Some, slice_get, arith}
use Rattle.std.proofs.lemmas.List.{length-drop, drop-drop}
use Rattle.pas_typed.specs.Texts.{text_behind, undoubled, single_quote}

-- a text is no longer than its spelling, and has a byte where that has one
length_behind : (behind : Bool) (bytes : List ℕ) → length (text_behind behind bytes) ≤ length bytes
length_behind true [] = omega arith
length_behind false [] = omega arith
length_behind true (byte ∷ bytes) = let l = length_behind false bytes in omega (arith, l)
length_behind false (byte ∷ bytes) = let l = length_behind (byte == single_quote) bytes in omega (arith, l)

pub length_undoubled : (spelled : List ℕ) → length (undoubled spelled) ≤ length spelled
length_undoubled spelled = length_behind false spelled

pub has_a_byte : (spelled : List ℕ) → 0 < length spelled → 0 < length (undoubled spelled)
has_a_byte [] l = absurd (omega (arith, l))
has_a_byte (byte ∷ bytes) l = omega arith

-- a byte more is counted
pub one_counted : (count : ℕ) (spelled rest behind : List ℕ) → 0 < length rest
    → undoubled behind ≡ drop 1 (undoubled rest) → count + length (undoubled rest) ≡ length (undoubled spelled)
    → (count + 1) + length (undoubled behind) ≡ length (undoubled spelled)
one_counted count spelled rest behind l b e =
    let less : length (undoubled behind) ≡ length (undoubled rest) - 1 = ap length b ∙ length-drop 1 (undoubled rest) in
    let some : 0 < length (undoubled rest) = has_a_byte rest l in
    omega (arith, less, some, e)

-- the first byte of a text is that of its spelling
pub first_of_text : (spelled : List ℕ) (byte : ℕ) → slice_get spelled 0 ≡ Some byte
    → undoubled spelled ≡ byte ∷ drop 1 (undoubled spelled)
first_of_text [] byte e = absurd (cc)
first_of_text (first ∷ more) byte e = grind (arith, e)

-- what stands in front of a byte, with it
pub taken_more : (count : ℕ) (bytes behind : List ℕ) (byte : ℕ) → drop count bytes ≡ byte ∷ behind
    → take (count + 1) bytes ≡ take count bytes ++ byte ∷ []
taken_more zero [] behind byte e = absurd (cc)
taken_more zero (first ∷ more) behind byte e = grind (arith, e)
taken_more (suc count) [] behind byte e = absurd (cc)
taken_more (suc count) (first ∷ more) behind byte e =
    let one : suc count + 1 ≡ suc (count + 1) = omega arith in
    ap (λ n. take n (first ∷ more)) one ∙ ap (λ xs. first ∷ xs) (taken_more count more behind byte e)

pub first_taken : (few count : ℕ) (bytes : List ℕ) → few ≤ count → take few bytes ≡ take few (take count bytes)
first_taken zero count bytes l = refl
first_taken (suc few) zero bytes l = absurd (omega (arith, l))
first_taken (suc few) (suc count) [] l = refl
first_taken (suc few) (suc count) (first ∷ more) l =
    ap (λ xs. first ∷ xs) (first_taken few count more (omega (arith, l)))

-- the byte at a place of a text, and what is behind it
pub text_at : (count : ℕ) (spelled rest : List ℕ) (byte : ℕ) → slice_get rest 0 ≡ Some byte
    → drop count (undoubled spelled) ≡ undoubled rest
    → take (count + 1) (undoubled spelled) ≡ take count (undoubled spelled) ++ byte ∷ []
text_at count spelled rest byte f d =
    taken_more count (undoubled spelled) (drop 1 (undoubled rest)) byte (d ∙ first_of_text rest byte f)

pub text_behind_it : (count : ℕ) (spelled rest behind : List ℕ) → undoubled behind ≡ drop 1 (undoubled rest)
    → drop count (undoubled spelled) ≡ undoubled rest → drop (count + 1) (undoubled spelled) ≡ undoubled behind
text_behind_it count spelled rest behind b d =
    sym (drop-drop 1 count (undoubled spelled)) ∙ ap (drop 1) d ∙ sym b
