-- The tokens of Pascal text, each of which stands on one line, as TANGLE reads them (STAN-CS-83-980): the end of a line
-- counts as a space, which none goes past. Only an at sign at a line's end takes that space with it. The faults are
-- this project's own.
use Rattle.std.specs.Prelude.{ℕ, ◌+◌, ◌-◌, ◌*◌, ◌==◌, ◌&&◌, ◌||◌, nat_lt, Bool, true, false, if◌then◌else◌, List, []}
use Rattle.std.specs.Prelude.{◌∷◌, length, take, drop, fold, codes, slice_get, Option, Some, None, unwrap_or, Result}
use Rattle.std.specs.Prelude.{Ok, Err}
use Rattle.std.specs.List.{take_while}
use Rattle.std.specs.Char.{is_ascii_alphabetic, is_ascii_alphanumeric, is_ascii_digit, is_ascii_graphic}
use Rattle.std.specs.Int.{is_in_range}
use Rattle.std.specs.Str.{bytes_eq}
use Rattle.wb_base.specs.declared.tokens.Joined.{Joined}
use Rattle.wb_base.specs.declared.tokens.Joined.TheVariants as two
use Rattle.wb_base.specs.declared.faults.TheConstants.{BAD_BYTE, STRING_NOT_ENDED, AT_SIGN_NOT_DOUBLED, STRAY_END}
use Rattle.wb_base.specs.declared.faults.TheConstants.{BAD_CONTROL_TEXT, VALUE_TOO_BIG, CHECK_SUM_LEFT_OUT}
use Rattle.web_lex.specs.declared.codes.Code.{Code}
use Rattle.web_lex.specs.declared.codes.Code.TheVariants as code
use Rattle.web_lex.specs.declared.tokens.Lexed.{Lexed}
use Rattle.web_lex.specs.declared.tokens.Lexed.TheVariants as lexed
use Rattle.web_lex.specs.Codes.{code_of}

-- a token: the end of the input, a control code, a word of one letter, a decimal digit, a longer word, the value of an
-- octal or hexadecimal number, a sign, a sign of two bytes, or what stands in a string of either quotes or in a
-- verbatim text, with at signs and quotes still doubled
pub data Token : Type 0 where
  end_of_input : Token
  control : Code → Token
  letter : ℕ → Token
  digit : ℕ → Token
  word : List ℕ → Token
  based : ℕ → Token
  sign : ℕ → Token
  joined : Joined → Token
  quoted : List ℕ → Token
  pool : List ℕ → Token
  verbatim : List ℕ → Token

-- the token that the reader answers
abbrev pub token_of : Lexed → Token
token_of lexed.End = end_of_input
token_of (lexed.Code value) = control value
token_of (lexed.Letter byte) = letter byte
token_of (lexed.Digit byte) = digit byte
token_of (lexed.Word bytes) = word bytes.now
token_of (lexed.Based value) = based value
token_of (lexed.Sign byte) = sign byte
token_of (lexed.Joined value) = joined value
token_of (lexed.Quoted bytes) = quoted bytes.now
token_of (lexed.Pool bytes) = pool bytes.now
token_of (lexed.Verbatim bytes) = verbatim bytes.now

-- a token of a line, and how many bytes it takes from its first on; the end of the line counts as one
pub record LineToken : Type 0 where
  pub token : Token
  pub size : ℕ

-- a byte of a word after its first letter: a letter, a digit or an underline
abbrev pub is_word_byte : ℕ → Bool
is_word_byte byte = is_ascii_alphanumeric byte || byte == 95

-- a digit of an octal number
abbrev pub is_octal_digit : ℕ → Bool
is_octal_digit byte = is_in_range 48 55 byte

-- a digit of a hexadecimal number: 0 to 9 and A to F
abbrev pub is_hex_digit : ℕ → Bool
is_hex_digit byte = is_in_range 48 57 byte || is_in_range 65 70 byte

-- a byte that may stand in a string or a verbatim text: 32 to 126, and no tab
abbrev pub is_text_byte : ℕ → Bool
is_text_byte byte = byte == 32 || is_ascii_graphic byte

-- a letter and the longest run of word bytes after it; a letter alone is no word
abbrev pub word_on : ℕ → List ℕ → LineToken
word_on first after =
    let bytes = take_while is_word_byte after in record {
      token = if length bytes == 0 then letter first else word (first ∷ bytes);
      size = 1 + length bytes;
    }

-- the value of a digit: 0 to 9, and A to F from 10 on
abbrev pub value_of_digit : ℕ → ℕ
value_of_digit byte = if is_ascii_digit byte then byte - 48 else byte - 55

-- the value of digits in a base
abbrev pub value_in : ℕ → List ℕ → ℕ
value_in base digits = fold (λ value byte. value * base + value_of_digit byte) 0 digits

-- the greatest value of a constant
abbrev pub greatest_value : ℕ
greatest_value = 2147483647

-- the number of the longest run of digits directly after `@'` or `@"`, which are two bytes
abbrev pub number_of : ℕ → List ℕ → Result LineToken ℕ
number_of base digits =
    if length digits == 0 then Err BAD_CONTROL_TEXT
    else (if nat_lt greatest_value (value_in base digits) then Err VALUE_TOO_BIG
    else Ok (record { token = based (value_in base digits); size = 2 + length digits }))

-- what ends a text: this quote, or `@>`
pub data Delimiter : Type 0 where
  quote : ℕ → Delimiter
  end_code : Delimiter

-- what a byte is in a text: one byte of it, the first of two equal ones that belong to it, its end, or a fault of this
-- number
pub data Part : Type 0 where
  single : Part
  doubled : Part
  ending : Part
  wrong : ℕ → Part

-- whether there is a next byte and it is this one
abbrev pub is_next : ℕ → Option ℕ → Bool
is_next byte None = false
is_next byte (Some next) = next == byte

-- what a byte that ends no text is in one: two at signs stand for one, and no other at sign may stand there
abbrev pub inner_part : ℕ → Option ℕ → Part
inner_part byte next =
    if byte == 64 then (if is_next 64 next then doubled else wrong AT_SIGN_NOT_DOUBLED)
    else (if is_text_byte byte then single else wrong BAD_BYTE)

-- what a byte is in a text of this kind, by the byte after it, or none at the line's end. A quote ends a string, but
-- two of them stand for one; `@>` ends a verbatim text
abbrev pub part_of : Delimiter → ℕ → Option ℕ → Part
part_of (quote mark) byte next =
    if byte == mark then (if is_next mark next then doubled else ending) else inner_part byte next
part_of end_code byte next = if byte == 64 && is_next 62 next then ending else inner_part byte next

-- the fault of a text that does not end on its line
abbrev pub unended : Delimiter → ℕ
unended (quote mark) = STRING_NOT_ENDED
unended end_code = BAD_CONTROL_TEXT

-- a size that is greater by so much
abbrev pub longer : ℕ → Result ℕ ℕ → Result ℕ ℕ
longer more (Ok size) = Ok (more + size)
longer more (Err code) = Err code

-- the size of a text from a part on, where these are those from one and from two bytes after it
abbrev pub size_from : Part → Result ℕ ℕ → Result ℕ ℕ → Result ℕ ℕ
size_from single one two = longer 1 one
size_from doubled one two = longer 2 two
size_from ending one two = Ok 0
size_from (wrong code) one two = Err code

-- how many bytes of a line stand before the end of a text of this kind, or the number of the first fault
abbrev pub text_size : Delimiter → List ℕ → Result ℕ ℕ
text_size kind [] = Err (unended kind)
text_size kind (byte ∷ []) = size_from (part_of kind byte None) (Err (unended kind)) (Err (unended kind))
text_size kind (byte ∷ (next ∷ bytes)) =
    size_from (part_of kind byte (Some next)) (text_size kind (next ∷ bytes)) (text_size kind bytes)

-- the token of a text of this size, where so many bytes begin and end it
abbrev pub text_token : (List ℕ → Token) → ℕ → List ℕ → Result ℕ ℕ → Result LineToken ℕ
text_token make marks bytes (Ok size) = Ok (record { token = make (take size bytes); size = size + marks })
text_token make marks bytes (Err code) = Err code

-- a string in quotes of this kind, where these bytes of its line stand after the first
abbrev pub string_on : (List ℕ → Token) → ℕ → List ℕ → Result LineToken ℕ
string_on make mark bytes = text_token make 2 bytes (text_size (quote mark) bytes)

-- the token that an at sign begins, by its code and the bytes of its line after that; an ignored code or a control text
-- begins none, and has vanished before
abbrev pub coded_on : Code → List ℕ → Result LineToken ℕ
coded_on code.At bytes = Ok (record { token = sign 64; size = 2 })
coded_on code.Octal bytes = number_of 8 (take_while is_octal_digit bytes)
coded_on code.Hex bytes = number_of 16 (take_while is_hex_digit bytes)
coded_on code.LeftOut bytes = Err CHECK_SUM_LEFT_OUT
coded_on code.Verbatim bytes = text_token verbatim 4 bytes (text_size end_code bytes)
coded_on code.Stray bytes = Err STRAY_END
coded_on other bytes = Ok (record { token = control other; size = 2 })

-- the signs of two bytes
abbrev pub pair_table : List (List ℕ × Token)
pair_table =
    (codes "..", joined two.Dots)
    ∷ (codes ":=", joined two.Becomes)
    ∷ (codes "<=", joined two.NotMore)
    ∷ (codes ">=", joined two.NotLess)
    ∷ (codes "<>", joined two.Differs)
    ∷ (codes "==", joined two.Same)
    ∷ (codes "(*", control code.MetaOpen)
    ∷ (codes "*)", control code.MetaClose)
    ∷ (codes "(.", sign 91)
    ∷ (codes ".)", sign 93)
    ∷ []

-- the token of a pair of bytes in a table, or this one
abbrev pub sign_beside : List (List ℕ × Token) → List ℕ → LineToken → LineToken
sign_beside [] pair alone = alone
sign_beside (row ∷ rows) pair alone =
    if bytes_eq row.0 pair then record { token = row.1; size = 2 } else sign_beside rows pair alone

-- a sign of two bytes, or else of one
abbrev pub sign_on : ℕ → List ℕ → LineToken
sign_on first after = sign_beside pair_table (first ∷ take 1 after) (record { token = sign first; size = 1 })

-- the code of an at sign before these bytes of its line; the line's end counts as a space
abbrev pub code_before : List ℕ → Code
code_before after = code_of (unwrap_or (slice_get after 0) 32)

-- the token that begins with this byte, where these bytes of its line stand after it, or the number of its fault. The
-- byte is none with which something vanishes: no space, no tab and no `{`
abbrev pub token_on : ℕ → List ℕ → Result LineToken ℕ
token_on first after =
    if is_ascii_alphabetic first then Ok (word_on first after)
    else (if is_ascii_digit first then Ok (record { token = digit first; size = 1 })
    else (if first == 39 then string_on quoted 39 after
    else (if first == 34 then string_on pool 34 after
    else (if first == 64 then coded_on (code_before after) (drop 1 after)
    else (if first == 125 then Err STRAY_END
    else (if is_ascii_graphic first then Ok (sign_on first after) else Err BAD_BYTE))))))

-- whether there is this byte and it is a decimal digit
abbrev pub is_digit_there : Option ℕ → Bool
is_digit_there None = false
is_digit_there (Some byte) = is_ascii_digit byte

-- whether this token is a digit, or a number whose last byte this is and which is a decimal digit
abbrev pub ends_in_digit : Token → Option ℕ → Bool
ends_in_digit (digit byte) last = true
ends_in_digit (based value) last = is_digit_there last
ends_in_digit other last = false
