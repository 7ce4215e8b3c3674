-- The lines of a listing, and what they count.
use Rattle.std.proofs.Common.{◌≡◌, ◌≢◌, codes, ℕ, zero, suc, ◌+◌, ◌<◌, ◌≤◌, List, [], ◌∷◌, ◌++◌, length}
use Rattle.std.proofs.Common.{nat_lt, true, false, Some, Result, Ok, Err, refl, sym, ◌∙◌, ap, append_assoc}
use Rattle.std.proofs.Common.{append-nil, length-append, add-one, arith}
use Rattle.std.specs.List.{flat_map}
use Rattle.std.proofs.lemmas.List.Sums.{sum_by-append}
use Rattle.web_pool.specs.Listing.{entry, entries_from, byte_strings, characters_in, shown_byte, quoted_byte}
use Rattle.web_pool.specs.Listing.{in_three_places, closing, closing_line, listing, listing_of}
use Rattle.web_pool.specs.PoolLines.{PoolRead, pool_place, read_pool}
use Rattle.web_pool.specs.declared.pool.TheConstants.{FIRST_NUMBER}
use Rattle.web_pool.specs.inner.PoolParts.{EndsAs, closing_by}
use Rattle.wb_base.specs.FaultAt.{limit_passed}
use Rattle.wb_base.specs.declared.faults.Fault.{Fault}
use Rattle.wb_base.specs.declared.faults.TheConstants.{FILE_LIMIT, LIMIT_FILE_BYTES}
use Rattle.std.proofs.lemmas.Bool.Decides.{nat_tests}

-- the lines of some strings and then of some more
pub entries_from-append : (number : ℕ) (texts more : List (List ℕ))
    → entries_from number (texts ++ more) ≡ entries_from number texts ++ entries_from (number + length texts) more
unfolding entries_from
entries_from-append number [] more = ap (λ (n : ℕ). entries_from n more) (omega arith)
entries_from-append number (text ∷ texts) more =
    ap (λ (l : List ℕ). entry number text ++ l) (entries_from-append (number + 1) texts more)
    ∙ sym (append_assoc (entry number text) (entries_from (number + 1) texts) _)
    ∙ ap (λ (n : ℕ). (entry number text ++ entries_from (number + 1) texts) ++ entries_from n more) (omega arith)

-- the line of one string
pub entries_from-one : (number : ℕ) (text : List ℕ) → entries_from number (text ∷ []) ≡ entry number text
unfolding entries_from
entries_from-one number text = append-nil (entry number text)

-- there are as many strings of one byte as codes
pub length-byte_strings : (code : ℕ) → length (byte_strings code) ≡ code
unfolding byte_strings
length-byte_strings zero = refl
length-byte_strings (suc code) =
    length-append (byte_strings code) _ ∙ ap (λ (n : ℕ). n + 1) (length-byte_strings code) ∙ omega arith

byte_strings-more : (code : ℕ) → byte_strings (code + 1) ≡ byte_strings code ++ (code ∷ []) ∷ []
unfolding byte_strings
byte_strings-more code = ap byte_strings (add-one code)

-- the first strings show 706 characters
pub first_characters : characters_in (byte_strings 256) ≡ 706
unfolding byte_strings
first_characters = refl

-- no bytes, no lines
pub entries_from-no_bytes : entries_from 0 (byte_strings 0) ≡ []
unfolding entries_from byte_strings
entries_from-no_bytes = refl

-- one byte more, and its line
pub entries_from-byte : (code : ℕ)
    → entries_from 0 (byte_strings (code + 1)) ≡ entries_from 0 (byte_strings code) ++ entry code (code ∷ [])
entries_from-byte code =
    ap (entries_from 0) (byte_strings-more code) ∙ entries_from-append 0 (byte_strings code) ((code ∷ []) ∷ [])
    ∙ ap (λ (l : List ℕ). entries_from 0 (byte_strings code) ++ l)
    (ap (λ (n : ℕ). entries_from n ((code ∷ []) ∷ [])) (omega (arith, length-byte_strings code))
    ∙ entries_from-one code (code ∷ []))

-- the lines of fewer bytes come first
pub entries_from-fewer : (code more : ℕ)
    → (rest : List ℕ) × (entries_from 0 (byte_strings (more + code)) ≡ entries_from 0 (byte_strings code) ++ rest)
entries_from-fewer code zero = ([], ap (λ (n : ℕ). entries_from 0 (byte_strings n)) (omega arith) ∙ sym (append-nil _))
entries_from-fewer code (suc more) =
    let before = entries_from-fewer code more in
    let next : suc more + code ≡ (more + code) + 1 = omega arith in (
      before.0 ++ entry (more + code) ((more + code) ∷ []),
      ap (λ (n : ℕ). entries_from 0 (byte_strings n)) next ∙ entries_from-byte (more + code)
          ∙ ap (λ (l : List ℕ). l ++ entry (more + code) ((more + code) ∷ [])) before.1
          ∙ append_assoc (entries_from 0 (byte_strings code)) before.0 _,
    )

pub entries_from-none : (number : ℕ) → entries_from number [] ≡ []
unfolding entries_from
entries_from-none number = refl

-- the line of one string more
pub entries_from-string : (number : ℕ) (done : List (List ℕ)) (text : List ℕ)
    → entries_from number (done ++ text ∷ []) ≡ entries_from number done ++ entry (number + length done) text
entries_from-string number done text =
    entries_from-append number done (text ∷ [])
    ∙ ap (λ (l : List ℕ). entries_from number done ++ l) (entries_from-one (number + length done) text)

-- the lines of some strings and of one more come first
pub entries_from-rest : (number : ℕ) (done : List (List ℕ)) (text : List ℕ) (rest : List (List ℕ))
    → entries_from number (done ++ (text ∷ rest))
    ≡ (entries_from number done ++ entry (number + length done) text) ++ entries_from
    (number + length (done ++ text ∷ [])) rest
entries_from-rest number done text rest =
    ap (entries_from number) (sym (append_assoc done (text ∷ []) rest))
    ∙ entries_from-append number (done ++ text ∷ []) rest
    ∙ ap (λ (l : List ℕ). l ++ entries_from (number + length (done ++ text ∷ [])) rest)
    (entries_from-string number done text)

-- the characters of one string more
pub characters_in-string : (before done : List (List ℕ)) (text : List ℕ)
    → characters_in (before ++ (done ++ text ∷ [])) ≡ characters_in (before ++ done) + length (flat_map shown_byte text)
characters_in-string before done text =
    let one : characters_in (text ∷ []) ≡ length (flat_map shown_byte text) = omega arith in
    ap characters_in (sym (append_assoc before done (text ∷ [])))
    ∙ sum_by-append (λ (t : List ℕ). length (flat_map shown_byte t)) (before ++ done) (text ∷ [])
    ∙ ap (λ n. characters_in (before ++ done) + n) one

-- the text of a listing, part by part
pub listing_of-text : (read : PoolRead) → (listing_of read).text
    ≡ (entries_from 0 (byte_strings 256) ++ entries_from FIRST_NUMBER read.strings)
    ++ closing read.fault (byte_strings 256 ++ read.strings)
listing_of-text read =
    let first : 0 + length (byte_strings 256) ≡ FIRST_NUMBER = omega (arith, length-byte_strings 256) in
    ap (λ (l : List ℕ). l ++ closing read.fault (byte_strings 256 ++ read.strings))
    (entries_from-append 0 (byte_strings 256) read.strings
    ∙ ap (λ (n : ℕ). entries_from 0 (byte_strings 256) ++ entries_from n read.strings) first)

-- its last line, by how the pool ended
pub closing-by : (read : PoolRead) (ended : Result ℕ Fault) → EndsAs read ended
    → closing read.fault (byte_strings 256 ++ read.strings) ≡ closing_by ended
closing-by read (Ok characters) ends =
    ap (λ fault. closing fault (byte_strings 256 ++ read.strings)) ends.0 ∙ ap closing_line (sym ends.1)
closing-by read (Err fault) ends = ap (λ fault. closing fault (byte_strings 256 ++ read.strings)) ends

-- the listing of a pool that has not too many bytes, and of one that has
pub listing-fits : (pool : List ℕ) → length pool ≤ FILE_LIMIT → listing pool ≡ listing_of (read_pool pool)
unfolding listing
listing-fits pool fits =
    let small : nat_lt FILE_LIMIT (length pool) ≡ false = grind (arith, nat_tests) in rw small

pub listing-too_long : (pool : List ℕ) → FILE_LIMIT < length pool
    → listing pool ≡ record { text = []; fault = Some (limit_passed LIMIT_FILE_BYTES (pool_place 0)) }
unfolding listing
listing-too_long pool long =
    let large : nat_lt FILE_LIMIT (length pool) ≡ true = grind (arith, nat_tests) in rw large

-- a listing prints something
entry-some : (number : ℕ) (text : List ℕ) → 0 < length (entry number text)
unfolding entry
entry-some number text =
    omega (arith, length-append (in_three_places number ++ codes ": \"" ++ flat_map quoted_byte text) (codes "\"\n"))

pub listing_of-some : (read : PoolRead) → (listing_of read).text ≢ []
listing_of-some read none =
    let bytes : 0 < length (entries_from 0 (byte_strings 256)) =
    omega (
      arith,
      ap length (entries_from-byte 255),
      length-append (entries_from 0 (byte_strings 255)) (entry 255 (255 ∷ [])),
      entry-some 255 (255 ∷ []),
    ) in
    let whole = ap length (sym (listing_of-text read) ∙ none) in
    omega (
      arith,
      bytes,
      whole,
      length-append (entries_from 0 (byte_strings 256) ++ entries_from FIRST_NUMBER read.strings)
          (closing read.fault (byte_strings 256 ++ read.strings)),
      length-append (entries_from 0 (byte_strings 256)) (entries_from FIRST_NUMBER read.strings),
    )
