-- The text that stands before a cursor, a line at a time.
use Rattle.std.proofs.Common.{◌≡◌, ◌≢◌, ℕ, zero, suc, ◌+◌, ◌<◌, ◌≤◌, Bool, true, false, List, [], ◌∷◌, ◌++◌, map}
use Rattle.std.proofs.Common.{length, take, drop, Some, unwrap_or, refl, sym, ap, ◌∙◌, arith}
use Rattle.std.specs.Prelude.{slice_get}
use Rattle.std.specs.List.{position_or_len}
use Rattle.wb_base.specs.declared.places.Place.{Place}
use Rattle.change_merge.specs.Lines.{Line}
use Rattle.web_lex.specs.Raw.{PlacedByte, line_end, raw_line, raw_text, bytes_of_line, place_of}
use Rattle.web_lex.specs.inner.Ahead.{text_from, first_byte}

-- within the lines, the text is what is left of a line and then the lines after it
pub text_from-at :
    (lines : List Line) (index : ℕ) (bytes : List ℕ) (place : Place)
    → slice_get (map (λ line. line.place) lines) index ≡ Some place
    → text_from (drop index lines) bytes ≡ raw_line place bytes ++ raw_text (drop (index + 1) lines)
text_from-at [] index bytes place at_place = absurd cc
text_from-at (line ∷ lines) zero bytes place at_place =
    let same : line.place ≡ place = cc in
    rw same refl
text_from-at (line ∷ lines) (suc index) bytes place at_place =
    let next : suc index + 1 ≡ suc (index + 1) = omega arith in
    rw next (text_from-at lines index bytes place at_place)

-- the same, where the place is not known
pub record IsAt (lines : List Line) (index : ℕ) (bytes : List ℕ) : Type 0 where
  pub place : Place
  pub text : text_from (drop index lines) bytes ≡ raw_line place bytes ++ raw_text (drop (index + 1) lines)

pub within_lines : (lines : List Line) (index : ℕ) (bytes : List ℕ) → index < length lines → IsAt lines index bytes
within_lines [] index bytes within = absurd (omega arith)
within_lines (line ∷ lines) zero bytes within = record { place = line.place; text = refl }
within_lines (line ∷ lines) (suc index) bytes within =
    let next : suc index + 1 ≡ suc (index + 1) = omega arith in
    let at : IsAt lines index bytes = within_lines lines index bytes (omega arith) in
    record { place = at.place; text = rw next at.text }

-- after the lines there is no text
pub text_from-end : (lines : List Line) (index : ℕ) (bytes : List ℕ) → length lines ≤ index
    → text_from (drop index lines) bytes ≡ []
text_from-end [] zero bytes over = refl
text_from-end [] (suc index) bytes over = refl
text_from-end (line ∷ lines) zero bytes over = absurd (omega arith)
text_from-end (line ∷ lines) (suc index) bytes over = text_from-end lines index bytes (omega arith)

-- the lines from one on, where all bytes of it are left
pub raw_text-from : (lines : List Line) (index : ℕ) (bytes : List ℕ)
    → slice_get (map (λ line. line.bytes) lines) index ≡ Some bytes
    → raw_text (drop index lines) ≡ text_from (drop index lines) bytes
raw_text-from [] index bytes at_bytes = absurd cc
raw_text-from (line ∷ lines) zero bytes at_bytes =
    let same : line.bytes ≡ bytes = cc in
    rw same refl
raw_text-from (line ∷ lines) (suc index) bytes at_bytes = raw_text-from lines index bytes at_bytes

pub raw_text-end : (lines : List Line) (index : ℕ) (bytes : List ℕ) → length lines ≤ index
    → raw_text (drop index lines) ≡ text_from (drop index lines) bytes
raw_text-end [] zero bytes over = refl
raw_text-end [] (suc index) bytes over = refl
raw_text-end (line ∷ lines) zero bytes over = absurd (omega arith)
raw_text-end (line ∷ lines) (suc index) bytes over = raw_text-end lines index bytes (omega arith)

-- the first byte of a line is a space where no other is left
pub first_byte-raw : (place : Place) (bytes : List ℕ) (later : List PlacedByte)
    → first_byte (raw_line place bytes ++ later) ≡ Some (unwrap_or (slice_get bytes 0) 32)
first_byte-raw place [] later = refl
first_byte-raw place (byte ∷ bytes) later = refl

pub place_of-raw : (end place : Place) (bytes : List ℕ) (later : List PlacedByte)
    → place_of end (raw_line place bytes ++ later) ≡ place
place_of-raw end place [] later = refl
place_of-raw end place (byte ∷ bytes) later = refl

-- the bytes of a line are those before its end
pub bytes_of_line-raw : (place : Place) (bytes : List ℕ) (later : List PlacedByte)
    → bytes_of_line (raw_line place bytes ++ later) ≡ bytes
bytes_of_line-raw place [] later = refl
bytes_of_line-raw place (byte ∷ bytes) later =
    let n : ℕ = position_or_len (λ (placed : PlacedByte). placed.ends_line) (raw_line place bytes ++ later) in
    let more : 1 + n ≡ suc n = omega arith in
    ap (λ k. map (λ (placed : PlacedByte). placed.byte) (take k (raw_line place (byte ∷ bytes) ++ later))) more
    ∙ ap (λ bs. byte ∷ bs) (bytes_of_line-raw place bytes later)

-- the bytes before the end of a line, one at a time
pub bytes_of_line-end : (byte : PlacedByte) (rest : List PlacedByte) → byte.ends_line ≡ true
    → bytes_of_line (byte ∷ rest) ≡ []
bytes_of_line-end byte rest ends = rw ends refl

pub bytes_of_line-more : (byte : PlacedByte) (rest : List PlacedByte) → byte.ends_line ≡ false
    → bytes_of_line (byte ∷ rest) ≡ byte.byte ∷ bytes_of_line rest
bytes_of_line-more byte rest stays =
    let n : ℕ = position_or_len (λ (placed : PlacedByte). placed.ends_line) rest in
    let more : 1 + n ≡ suc n = omega arith in
    rw (stays, more) refl

-- where bytes that do not pass a test make no difference at the front of a text, those of a line before the first that
-- passes make none
pub passed-plain : {A : Type 0} (test : ℕ → Bool) (made : List PlacedByte → A)
    → ((byte : PlacedByte) (rest : List PlacedByte) → test byte.byte ≡ false → made (byte ∷ rest) ≡ made rest)
    → (text : List PlacedByte) → made (drop (position_or_len test (bytes_of_line text)) text) ≡ made text
passed-plain test made same [] = refl
passed-plain {A} test made same (byte ∷ rest) = by_end byte.ends_line refl (passed-plain test made same rest)
  where
    n : ℕ
    n = position_or_len test (bytes_of_line rest)

    by_test : (b : Bool) → test byte.byte ≡ b → made (drop n rest) ≡ made rest
        → made (drop (position_or_len test (byte.byte ∷ bytes_of_line rest)) (byte ∷ rest)) ≡ made (byte ∷ rest)
    by_test true passes others = rw passes refl
    by_test false other others =
        let more : 1 + n ≡ suc n = omega arith in
        rw (other, more) (others ∙ sym (same byte rest other))

    by_end : (b : Bool) → byte.ends_line ≡ b → made (drop n rest) ≡ made rest
        → made (drop (position_or_len test (bytes_of_line (byte ∷ rest))) (byte ∷ rest)) ≡ made (byte ∷ rest)
    by_end true ends others = rw (bytes_of_line-end byte rest ends) refl
    by_end false stays others = rw (bytes_of_line-more byte rest stays) (by_test (test byte.byte) refl others)

-- passing bytes of a line
pub drop-raw : (size : ℕ) (place : Place) (bytes : List ℕ) (later : List PlacedByte) → size ≤ length bytes
    → drop size (raw_line place bytes ++ later) ≡ raw_line place (drop size bytes) ++ later
drop-raw zero place bytes later within = refl
drop-raw (suc size) place [] later within = absurd (omega arith)
drop-raw (suc size) place (byte ∷ bytes) later within = drop-raw size place bytes later (omega arith)

-- passing all bytes of a line and its end
pub drop-raw_line : (size : ℕ) (place : Place) (bytes : List ℕ) (later : List PlacedByte) → size ≡ length bytes + 1
    → drop size (raw_line place bytes ++ later) ≡ later
drop-raw_line zero place bytes later all = absurd (omega arith)
drop-raw_line (suc size) place [] later all =
    let none : size ≡ 0 = omega arith in
    rw none refl
drop-raw_line (suc size) place (byte ∷ bytes) later all = drop-raw_line size place bytes later (omega arith)

-- what is left after bytes of a line, by what is left of the line
pub text_from-drop : (lines : List Line) (size : ℕ) (bytes : List ℕ) → size ≤ length bytes
    → text_from lines (drop size bytes) ≡ drop size (text_from lines bytes)
text_from-drop [] zero bytes within = refl
text_from-drop [] (suc size) bytes within = refl
text_from-drop (line ∷ lines) size bytes within = sym (drop-raw size line.place bytes (raw_text lines) within)

-- a text that is not at its end is within the lines
pub length-within : (lines : List Line) (index : ℕ) (bytes : List ℕ) → 0 < length (text_from (drop index lines) bytes)
    → index < length lines
length-within [] zero bytes some = absurd (omega arith)
length-within [] (suc index) bytes some = absurd (omega arith)
length-within (line ∷ lines) zero bytes some = omega arith
length-within (line ∷ lines) (suc index) bytes some = omega (arith, length-within lines index bytes some)

-- the bytes of the line that the text begins in
pub bytes_of_line-from : (lines : List Line) (index : ℕ) (bytes : List ℕ) → index < length lines
    → bytes_of_line (text_from (drop index lines) bytes) ≡ bytes
bytes_of_line-from lines index bytes within =
    let at = within_lines lines index bytes within in
    ap bytes_of_line at.text ∙ bytes_of_line-raw at.place bytes (raw_text (drop (index + 1) lines))

pub first_byte-from : (lines : List Line) (index : ℕ) (bytes : List ℕ) → index < length lines
    → first_byte (text_from (drop index lines) bytes) ≡ Some (unwrap_or (slice_get bytes 0) 32)
first_byte-from lines index bytes within =
    let at = within_lines lines index bytes within in
    ap first_byte at.text ∙ first_byte-raw at.place bytes (raw_text (drop (index + 1) lines))

-- what stands after the end of the line
pub text_from-drop_line : (lines : List Line) (index size : ℕ) (bytes : List ℕ) → index < length lines
    → size ≡ length bytes + 1 → raw_text (drop (index + 1) lines) ≡ drop size (text_from (drop index lines) bytes)
text_from-drop_line lines index size bytes within all =
    let at = within_lines lines index bytes within in
    sym (ap (drop size) at.text ∙ drop-raw_line size at.place bytes (raw_text (drop (index + 1) lines)) all)

-- passing so many bytes that the line does not have them leaves the next line
pub next_line :
    (lines : List Line) (index size : ℕ) (bytes next : List ℕ) (rest : List PlacedByte)
    → text_from (drop index lines) bytes ≡ rest → index < length lines → length bytes < size
    → size ≤ length (bytes_of_line rest) + 1
    → raw_text (drop (index + 1) lines) ≡ text_from (drop (index + 1) lines) next
    → text_from (drop (index + 1) lines) next ≡ drop size rest
next_line lines index size bytes next rest is within beyond allowed is_next =
    let line : bytes_of_line rest ≡ bytes = ap bytes_of_line (sym is) ∙ bytes_of_line-from lines index bytes within in
    let all : size ≡ length bytes + 1 = omega (arith, ap length line) in
    sym is_next ∙ text_from-drop_line lines index size bytes within all ∙ ap (drop size) is

-- where a text begins with a byte that is no space, this is the first of what is left of its line
visible_in_line :
    (place : Place) (bytes : List ℕ) (later : List PlacedByte) (byte : PlacedByte) (after : List PlacedByte)
    → raw_line place bytes ++ later ≡ byte ∷ after → byte.byte ≢ 32 → bytes ≡ byte.byte ∷ bytes_of_line after
visible_in_line place [] later byte after is visible =
    let same : line_end place ≡ byte = cc in
    absurd (visible (sym (ap (λ (placed : PlacedByte). placed.byte) same)))
visible_in_line place (head ∷ bytes) later byte after is visible =
    let first : PlacedByte = record { byte = head; place = place; ends_line = false } in
    let same : first ≡ byte = cc in
    let others : raw_line place bytes ++ later ≡ after = cc in
    ap (λ b. b ∷ bytes) (ap (λ (placed : PlacedByte). placed.byte) same)
    ∙ ap (λ bs. byte.byte ∷ bs) (sym (bytes_of_line-raw place bytes later) ∙ ap bytes_of_line others)

pub visible_line :
    (lines : List Line) (index : ℕ) (bytes : List ℕ) (rest : List PlacedByte) (byte : PlacedByte)
    (after : List PlacedByte)
    → index < length lines → text_from (drop index lines) bytes ≡ rest → rest ≡ byte ∷ after → byte.byte ≢ 32
    → bytes ≡ byte.byte ∷ bytes_of_line after
visible_line lines index bytes rest byte after within is begins visible =
    let at = within_lines lines index bytes within in
    visible_in_line at.place bytes (raw_text (drop (index + 1) lines)) byte after (sym at.text ∙ is ∙ begins) visible
