-- Lines of a text, by how many of them end before a place.
use Rattle.std.proofs.Common.{◌≡◌, ◌∙◌, ℕ, suc, ◌+◌, ◌-◌, ◌≤◌, Bool, true, false, cond, List, [], ◌∷◌}
use Rattle.std.proofs.Common.{length, take, drop, count_by, max, slice_get, get_or, Option, Some, None, refl, sym, ap}
use Rattle.std.proofs.Common.{subst, arith}
use Rattle.std.specs.List.{onto_first}
use Rattle.std.proofs.lemmas.Option.{slice_get-get_or}
use Rattle.std.proofs.Math.ListN.{drop_of_length-le}
use Rattle.std.proofs.lemmas.List.{drop-drop}
use Rattle.std.proofs.lemmas.List.Sums.{sum_by-take-drop, sum_by-cons}
use Rattle.wb_base.specs.Pieces.{pieces_of, ends_line}
use Rattle.pas_tokens.specs.Tokens.{line_of, last_line}
use Rattle.pas_tokens.specs.inner.Places.{is_ended, is_ended_by}

-- the lines that end before a place and behind it
pub count-take-drop : (n : ℕ) (bytes : List ℕ)
    → count_by ends_line (take n bytes) + count_by ends_line (drop n bytes) ≡ count_by ends_line bytes
count-take-drop n bytes = sum_by-take-drop (λ byte. cond (ends_line byte) 1 0) bytes n

-- the line of a place so many bytes further
pub line-behind : (text : List ℕ) (before size line ends : ℕ) → line ≡ line_of text (drop before text)
    → ends ≡ count_by ends_line (take size (drop before text))
    → line + ends ≡ line_of text (drop (before + size) text)
line-behind text before size line ends is of_bytes =
    let rest = drop before text in
    let behind : drop size rest ≡ drop (before + size) text = drop-drop size before text in
    omega (
      arith,
      is,
      of_bytes,
      count-take-drop size rest,
      count-take-drop before text,
      ap (count_by ends_line) behind,
    )

-- a text has a line more than its line ends tell, where its last byte is another
abbrev unended : Option ℕ → ℕ
unended None = 0
unended (Some byte) = cond (ends_line byte) 0 1

abbrev last_of : List ℕ → Option ℕ
last_of text = slice_get text (length text - 1)

last-cons : (byte next : ℕ) (rest : List ℕ) → last_of (byte ∷ (next ∷ rest)) ≡ last_of (next ∷ rest)
last-cons byte next rest =
    let one : length (byte ∷ (next ∷ rest)) - 1 ≡ suc (length (next ∷ rest) - 1) = omega arith in
    ap (slice_get (byte ∷ (next ∷ rest))) one

onto-length : (byte : ℕ) (pieces : List (List ℕ)) → length (onto_first byte pieces) ≡ max 1 (length pieces)
onto-length byte [] = refl
onto-length byte (piece ∷ pieces) = omega arith

pieces-cons : (byte : ℕ) (bytes : List ℕ)
    → length (pieces_of (byte ∷ bytes))
    ≡ cond (ends_line byte) (1 + length (pieces_of bytes)) (max 1 (length (pieces_of bytes)))
pieces-cons byte bytes =
    elim (ends_line byte) as (λ b. length (cond b ([] ∷ pieces_of bytes) (onto_first byte (pieces_of bytes)))
    ≡ cond b (1 + length (pieces_of bytes)) (max 1 (length (pieces_of bytes))))
    [ true ↦ omega arith | false ↦ onto-length byte (pieces_of bytes) ]

some_piece : (byte : ℕ) (bytes : List ℕ) → 1 ≤ length (pieces_of (byte ∷ bytes))
some_piece byte bytes =
    subst (λ n. 1 ≤ n) (sym (pieces-cons byte bytes))
    (elim (ends_line byte) as (λ b. 1 ≤ cond b (1 + length (pieces_of bytes)) (max 1 (length (pieces_of bytes))))
    [ true ↦ omega arith | false ↦ omega arith ])

pieces-count : (text : List ℕ) → length (pieces_of text) ≡ count_by ends_line text + unended (last_of text)
pieces-count [] = refl
pieces-count (byte ∷ []) =
    let both : cond (ends_line byte) 1 0 + cond (ends_line byte) 0 1 ≡ 1 =
    elim (ends_line byte) as (λ b. cond b 1 0 + cond b 0 1 ≡ 1) [ true ↦ refl | false ↦ refl ] in
    let one : cond (ends_line byte) (1 + length (pieces_of [])) (max 1 (length (pieces_of []))) ≡ 1 =
    elim (ends_line byte) as (λ b. cond b (1 + length (pieces_of [])) (max 1 (length (pieces_of []))) ≡ 1)
    [ true ↦ refl | false ↦ refl ] in
    omega (arith, pieces-cons byte [], both, one)
pieces-count (byte ∷ (next ∷ rest)) =
    let bytes = next ∷ rest in
    let same = ap unended (last-cons byte next rest) in
    let more : cond (ends_line byte) (1 + length (pieces_of bytes)) (max 1 (length (pieces_of bytes)))
    ≡ cond (ends_line byte) 1 0 + length (pieces_of bytes) =
    elim (ends_line byte) as (λ b. cond b (1 + length (pieces_of bytes)) (max 1 (length (pieces_of bytes)))
    ≡ cond b 1 0 + length (pieces_of bytes)) [ true ↦ refl | false ↦ omega (arith, some_piece next rest) ] in
    let counted : count_by ends_line (byte ∷ bytes) ≡ cond (ends_line byte) 1 0 + count_by ends_line bytes =
    sum_by-cons (λ b. cond (ends_line b) 1 0) byte bytes in
    omega (arith, pieces-cons byte bytes, more, pieces-count (next ∷ rest), same, counted)

-- the last line, by the line in which the text ends
pub last_line-at : (text : List ℕ) (before line : ℕ) → length text ≤ before → line ≡ line_of text (drop before text)
    → cond (is_ended text) (line - 1) line ≡ last_line text
last_line-at [] before line past is = is ∙ ap (line_of []) (drop_of_length-le [] past)
last_line-at (first ∷ rest) before line past is =
    let text = first ∷ rest in
    let byte = get_or text (length text - 1) 0 in
    let last : last_of text ≡ Some byte = slice_get-get_or text (length text - 1) 0 (omega arith) in
    ap (λ o. cond (is_ended_by o) (line - 1) line) last
    ∙ by_byte (ends_line byte) (is ∙ ap (line_of text) (drop_of_length-le text past))
    (pieces-count text ∙ ap (λ o. count_by ends_line text + unended o) last)
  where
    by_byte : (b : Bool) → line ≡ line_of (first ∷ rest) []
        → length (pieces_of (first ∷ rest)) ≡ count_by ends_line (first ∷ rest) + cond b 0 1
        → cond b (line - 1) line ≡ last_line (first ∷ rest)
    by_byte true at_end pieces = omega (arith, at_end, pieces, some_piece first rest)
    by_byte false at_end pieces = omega (arith, at_end, pieces, some_piece first rest)
