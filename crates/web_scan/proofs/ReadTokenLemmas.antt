-- What holds of each token that is read: digits are decimal, and numbers and bytes of strings small.
use Rattle.std.proofs.Common.{◌≡◌, ℕ, suc, ◌+◌, ◌≤◌, ◌==◌, ◌&&◌, Bool, true, nat_lt, if◌then◌else◌, List, [], ◌∷◌}
use Rattle.std.proofs.Common.{length, take, drop, All, IsTrue, Option, Some, None, Result, Ok, Err, IfOk, arith}
use Rattle.std.specs.Prelude.{⊤}
use Rattle.std.specs.Char.{is_ascii_digit, is_ascii_alphabetic, is_ascii_graphic}
use Rattle.std.specs.List.{take_while}
use Rattle.std.specs.Str.{bytes_eq}
use Rattle.std.proofs.lemmas.Bool.Decides.{nat_tests}
use Rattle.std.proofs.lemmas.List.Elements.{All-nil, All-cons}
use Rattle.wb_base.specs.declared.places.Place.{Place}
use Rattle.wb_base.specs.declared.faults.Fault.{Fault}
use Rattle.wb_base.specs.declared.faults.TheConstants.{BAD_BYTE, AT_SIGN_NOT_DOUBLED, STRING_NOT_ENDED, STRAY_END}
use Rattle.wb_base.specs.declared.faults.TheConstants.{BAD_CONTROL_TEXT, VALUE_TOO_BIG, REAL_CONSTANT}
use Rattle.wb_base.specs.FaultAt.{fault_at}
use Rattle.wb_base.specs.Steps.{◌>>=◌}
use Rattle.web_lex.specs.declared.codes.Code.{Code}
use Rattle.web_lex.specs.declared.codes.Code.TheVariants as code
use Rattle.web_lex.specs.Raw.{PlacedByte, place_of, bytes_of_line}
use Rattle.web_lex.specs.Token.{Token, letter, digit, word, based, sign, quoted, pool, verbatim, LineToken, token_on}
use Rattle.web_lex.specs.Token.{greatest_value, quote, end_code, Part, single, doubled, ending, wrong, part_of}
use Rattle.web_lex.specs.Token.{inner_part, is_next, is_text_byte, is_word_byte, size_from, text_size, text_token}
use Rattle.web_lex.specs.Token.{string_on, number_of, value_in, coded_on, code_before, sign_on, sign_beside}
use Rattle.web_lex.specs.Token.{pair_table, word_on, is_octal_digit, is_hex_digit}
use Rattle.web_lex.specs.Gaps.{after_gaps}
use Rattle.web_lex.specs.Reading.{Read, Reading, read_first, first_token, token_at, begins_exponent, next_token}
use Rattle.web_lex.specs.Reading.{unless_met, after_token}
use Rattle.web_scan.proofs.AnswerLemmas.{IfOk-step, any_ok, choice}

-- the byte is at most the last that may stand in a string
abbrev pub IsVisible : ℕ → Type 0
IsVisible byte = byte ≤ 126

-- what holds of each token that is read
abbrev pub IsReadable : Token → Type 0
IsReadable (digit byte) = IsTrue (is_ascii_digit byte)
IsReadable (based value) = value ≤ greatest_value
IsReadable (pool bytes) = All IsVisible bytes
IsReadable other = ⊤

-- what the parts of a string in double quotes tell of its bytes
abbrev IsVisibleNext : Option ℕ → Type 0
IsVisibleNext None = ⊤
IsVisibleNext (Some next) = IsVisible next

abbrev IsPart : ℕ → Option ℕ → Part → Type 0
IsPart byte next single = IsVisible byte
IsPart byte next doubled = IsVisible byte × IsVisibleNext next
IsPart byte next ending = ⊤
IsPart byte next (wrong code) = ⊤

-- a byte is a doubled one where the next is the same
doubled_part : (mark byte : ℕ) (next : Option ℕ) → byte ≤ 126 → mark ≤ 126 → is_next mark next ≡ true
    → IsPart byte next doubled
doubled_part mark byte None small small_mark is = absurd cc
doubled_part mark byte (Some next) small small_mark is = (small, grind (arith, nat_tests))

text_byte-IsVisible : (byte : ℕ) → is_text_byte byte ≡ true → IsVisible byte
text_byte-IsVisible byte is = grind (arith, nat_tests)

inner_part-IsPart : (byte : ℕ) (next : Option ℕ) → IsPart byte next (inner_part byte next)
inner_part-IsPart byte next =
    choice (IsPart byte next) (byte == 64) (if is_next 64 next then doubled else wrong AT_SIGN_NOT_DOUBLED)
    (if is_text_byte byte then single else wrong BAD_BYTE)
    (λ at. choice (IsPart byte next) (is_next 64 next) doubled (wrong AT_SIGN_NOT_DOUBLED)
    (λ twice. doubled_part 64 byte next (grind (arith, nat_tests)) (omega arith) twice) (λ once. tt))
    (λ other. choice (IsPart byte next) (is_text_byte byte) single (wrong BAD_BYTE) (text_byte-IsVisible byte)
    (λ bad. tt))

part_of-IsPart : (byte : ℕ) (next : Option ℕ) → IsPart byte next (part_of (quote 34) byte next)
part_of-IsPart byte next =
    choice (IsPart byte next) (byte == 34) (if is_next 34 next then doubled else ending) (inner_part byte next)
    (λ mark. choice (IsPart byte next) (is_next 34 next) doubled ending
    (λ twice. doubled_part 34 byte next (grind (arith, nat_tests)) (omega arith) twice) (λ once. tt))
    (λ other. inner_part-IsPart byte next)

-- the bytes before the end of a string
abbrev AreVisible : List ℕ → ℕ → Type 0
AreVisible bytes size = All IsVisible (take size bytes)

first_visible : (byte : ℕ) (bytes : List ℕ) (size : ℕ) → IsVisible byte → AreVisible bytes size
    → AreVisible (byte ∷ bytes) (1 + size)
first_visible byte bytes size small rest =
    let size_is : 1 + size ≡ suc size = omega arith in
    rw size_is (All-cons IsVisible byte (take size bytes) small rest)

two_visible :
    (byte next : ℕ) (bytes : List ℕ) (size : ℕ) → IsVisible byte → IsVisible next → AreVisible bytes size
    → AreVisible (byte ∷ (next ∷ bytes)) (2 + size)
two_visible byte next bytes size small also_small rest =
    let size_is : 2 + size ≡ suc (suc size) = omega arith in
    rw size_is
    (All-cons IsVisible byte (next ∷ take size bytes) small
    (All-cons IsVisible next (take size bytes) also_small rest))

-- a string's bytes, from a part on
size_from-visible :
    (byte next : ℕ) (bytes : List ℕ) (part : Part) (one two : Result ℕ ℕ) → IsPart byte (Some next) part
    → IfOk one (AreVisible (next ∷ bytes)) → IfOk two (AreVisible bytes)
    → IfOk (size_from part one two) (AreVisible (byte ∷ (next ∷ bytes)))
size_from-visible byte next bytes single (Ok size) two part rest after =
    first_visible byte (next ∷ bytes) size part rest
size_from-visible byte next bytes single (Err code) two part rest after = tt
size_from-visible byte next bytes doubled one (Ok size) part rest after =
    two_visible byte next bytes size part.0 part.1 after
size_from-visible byte next bytes doubled one (Err code) part rest after = tt
size_from-visible byte next bytes ending one two part rest after = All-nil IsVisible
size_from-visible byte next bytes (wrong code) one two part rest after = tt

-- the last byte of a line may end a string
last_part-visible : (bytes : List ℕ) (part : Part) (code : ℕ)
    → IfOk (size_from part (Err code) (Err code)) (AreVisible bytes)
last_part-visible bytes single code = tt
last_part-visible bytes doubled code = tt
last_part-visible bytes ending code = All-nil IsVisible
last_part-visible bytes (wrong other) code = tt

text_size-visible : (bytes : List ℕ) → IfOk (text_size (quote 34) bytes) (AreVisible bytes)
text_size-visible [] = tt
text_size-visible (byte ∷ []) = last_part-visible (byte ∷ []) (part_of (quote 34) byte None) STRING_NOT_ENDED
text_size-visible (byte ∷ (next ∷ bytes)) =
    size_from-visible byte next bytes (part_of (quote 34) byte (Some next)) (text_size (quote 34) (next ∷ bytes))
    (text_size (quote 34) bytes)
    (part_of-IsPart byte (Some next)) (text_size-visible (next ∷ bytes)) (text_size-visible bytes)

-- the token of a line
abbrev IsReadableHere : LineToken → Type 0
IsReadableHere found = IsReadable found.token

-- a string in double quotes
pool-readable : (bytes : List ℕ) (size : Result ℕ ℕ) → IfOk size (AreVisible bytes)
    → IfOk (text_token pool 2 bytes size) IsReadableHere
pool-readable bytes (Ok size) visible = visible
pool-readable bytes (Err code) visible = tt

quoted-readable : (bytes : List ℕ) (size : Result ℕ ℕ) → IfOk (text_token quoted 2 bytes size) IsReadableHere
quoted-readable bytes (Ok size) = tt
quoted-readable bytes (Err code) = tt

verbatim-readable : (bytes : List ℕ) (size : Result ℕ ℕ) → IfOk (text_token verbatim 4 bytes size) IsReadableHere
verbatim-readable bytes (Ok size) = tt
verbatim-readable bytes (Err code) = tt

-- the number of an octal or hexadecimal number
number_of-readable : (base : ℕ) (digits : List ℕ) → IfOk (number_of base digits) IsReadableHere
number_of-readable base digits =
    let number : LineToken = record { token = based (value_in base digits); size = 2 + length digits } in
    let P : Result LineToken ℕ → Type 0 = λ answer. IfOk answer IsReadableHere in
    let big = nat_lt greatest_value (value_in base digits) in
    choice P (length digits == 0) (Err BAD_CONTROL_TEXT) (if big then Err VALUE_TOO_BIG else Ok number) (λ none. tt)
    (λ some. choice P big (Err VALUE_TOO_BIG) (Ok number) (λ past. tt) (λ small. grind (arith, nat_tests)))

coded_on-readable : (kind : Code) (bytes : List ℕ) → IfOk (coded_on kind bytes) IsReadableHere
coded_on-readable code.Octal bytes = number_of-readable 8 (take_while is_octal_digit bytes)
coded_on-readable code.Hex bytes = number_of-readable 16 (take_while is_hex_digit bytes)
coded_on-readable code.Verbatim bytes = verbatim-readable bytes (text_size end_code bytes)
coded_on-readable code.LeftOut bytes = tt
coded_on-readable code.Stray bytes = tt
coded_on-readable code.At bytes = tt
coded_on-readable other bytes = tt

-- a sign of one byte or two
abbrev AreReadable : List (List ℕ × Token) → Type 0
AreReadable [] = ⊤
AreReadable (row ∷ rows) = IsReadable row.1 × AreReadable rows

sign_beside-readable :
    (rows : List (List ℕ × Token)) (pair : List ℕ) (alone : LineToken) → AreReadable rows → IsReadableHere alone
    → IsReadableHere (sign_beside rows pair alone)
sign_beside-readable [] pair alone all here = here
sign_beside-readable (row ∷ rows) pair alone all here =
    choice IsReadableHere (bytes_eq row.0 pair) (record { token = row.1; size = 2 }) (sign_beside rows pair alone)
    (λ is. all.0) (λ other. sign_beside-readable rows pair alone all.1 here)

sign_on-readable : (first : ℕ) (after : List ℕ) → IsReadableHere (sign_on first after)
sign_on-readable first after =
    sign_beside-readable pair_table (first ∷ take 1 after) (record { token = sign first; size = 1 })
    (tt, (tt, (tt, (tt, (tt, (tt, (tt, (tt, (tt, (tt, tt)))))))))) tt

-- a word, or a letter alone
word_on-readable : (first : ℕ) (after : List ℕ) → IsReadableHere (word_on first after)
word_on-readable first after =
    let bytes = take_while is_word_byte after in
    choice IsReadable (length bytes == 0) (letter first) (word (first ∷ bytes)) (λ alone. tt) (λ longer. tt)

-- a token by its first byte
abbrev HasReadable : Result LineToken ℕ → Type 0
HasReadable answer = IfOk answer IsReadableHere

abbrev sign_answer : ℕ → List ℕ → Result LineToken ℕ
sign_answer first after =
    if first == 125 then Err STRAY_END else (if is_ascii_graphic first then Ok (sign_on first after) else Err BAD_BYTE)

abbrev marked_answer : ℕ → List ℕ → Result LineToken ℕ
marked_answer first after =
    if first == 39 then string_on quoted 39 after
    else (if first == 34 then string_on pool 34 after
    else (if first == 64 then coded_on (code_before after) (drop 1 after) else sign_answer first after))

sign_answer-readable : (first : ℕ) (after : List ℕ) → HasReadable (sign_answer first after)
sign_answer-readable first after =
    choice HasReadable (first == 125) (Err STRAY_END)
    (if is_ascii_graphic first then Ok (sign_on first after) else Err BAD_BYTE) (λ stray. tt)
    (λ other. choice HasReadable (is_ascii_graphic first) (Ok (sign_on first after)) (Err BAD_BYTE)
    (λ visible. sign_on-readable first after) (λ bad. tt))

marked_answer-readable : (first : ℕ) (after : List ℕ) → HasReadable (marked_answer first after)
marked_answer-readable first after =
    let coded = coded_on (code_before after) (drop 1 after) in
    choice HasReadable (first == 39) (string_on quoted 39 after)
    (if first == 34 then string_on pool 34 after else (if first == 64 then coded else sign_answer first after))
    (λ single. quoted-readable after (text_size (quote 39) after))
    (λ other. choice HasReadable (first == 34) (string_on pool 34 after)
    (if first == 64 then coded else sign_answer first after)
    (λ double. pool-readable after (text_size (quote 34) after) (text_size-visible after))
    (λ other. choice HasReadable (first == 64) coded (sign_answer first after)
    (λ at. coded_on-readable (code_before after) (drop 1 after)) (λ other. sign_answer-readable first after)))

token_on-readable : (first : ℕ) (after : List ℕ) → HasReadable (token_on first after)
token_on-readable first after =
    let digit_here : LineToken = record { token = digit first; size = 1 } in
    choice HasReadable (is_ascii_alphabetic first) (Ok (word_on first after))
    (if is_ascii_digit first then Ok digit_here else marked_answer first after)
    (λ letter. word_on-readable first after)
    (λ other. choice HasReadable (is_ascii_digit first) (Ok digit_here) (marked_answer first after) (λ is. is)
    (λ other. marked_answer-readable first after))

-- the next token of a text
abbrev IsReadableRead : Read → Type 0
IsReadableRead read = IsReadable read.token

read_first-readable :
    (place : Place) (bytes : List ℕ) (text : List PlacedByte) (answer : Result LineToken ℕ) → HasReadable answer
    → IfOk (read_first place bytes text answer) IsReadableRead
read_first-readable place bytes text (Ok found) readable = readable
read_first-readable place bytes text (Err code) readable = tt

first_token-readable : (end : Place) (text : List PlacedByte) → IfOk (first_token end text) IsReadableRead
first_token-readable end [] = tt
first_token-readable end (byte ∷ rest) =
    read_first-readable byte.place (byte.byte ∷ bytes_of_line rest) (byte ∷ rest)
    (token_on byte.byte (bytes_of_line rest))
    (token_on-readable byte.byte (bytes_of_line rest))

token_at-readable : (end : Place) (after_digit : Bool) (text : List PlacedByte)
    → IfOk (token_at end after_digit text) IsReadableRead
token_at-readable end after_digit text =
    choice (λ answer. IfOk answer IsReadableRead) (after_digit && begins_exponent text)
    (Err (fault_at REAL_CONSTANT (place_of end text)))
    (after_gaps (length text) end text >>= first_token end) (λ real. tt)
    (λ other. IfOk-step (λ rest. ⊤) IsReadableRead (after_gaps (length text) end text) (first_token end)
    (any_ok (after_gaps (length text) end text))
    (λ rest some. first_token-readable end rest))

unless_met-readable : (met : Option Fault) (answer : Result Read Fault) → IfOk answer IsReadableRead
    → IfOk (unless_met met answer) IsReadableRead
unless_met-readable None answer readable = readable
unless_met-readable (Some fault) answer readable = tt

pub next_token-readable : (reading : Reading) → IfOk (next_token reading) (λ read. IsReadable read.0)
next_token-readable reading =
    let answer = unless_met reading.fault (token_at reading.end reading.after_digit reading.rest) in
    IfOk-step IsReadableRead (λ read. IsReadable read.0) answer (λ read. Ok (read.token, after_token reading read))
    (unless_met-readable reading.fault (token_at reading.end reading.after_digit reading.rest)
    (token_at-readable reading.end reading.after_digit reading.rest))
    (λ read readable. readable)
