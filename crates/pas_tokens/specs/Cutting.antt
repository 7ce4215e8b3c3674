-- How the front of a Pascal text is cut off: what stands before a token, and one token (ISO 7185, 6.1). The faults are
-- this project's own.
use Rattle.std.specs.Prelude.{ℕ, ◌+◌, ◌-◌, ◌*◌, ◌==◌, ◌&&◌, ◌||◌, nat_lt, Bool, false, if◌then◌else◌}
use Rattle.std.specs.Prelude.{List, [], ◌∷◌, length, take, drop, fold, map, Option, Some, None, Result, Ok, Err}
use Rattle.std.specs.List.{take_while}
use Rattle.std.specs.Option.{option_map_or}
use Rattle.std.specs.Char.{is_ascii_alphabetic, is_ascii_alphanumeric, is_ascii_digit, is_ascii_graphic}
use Rattle.std.specs.Char.{to_ascii_lowercase}
use Rattle.wb_base.specs.declared.faults.TheConstants.{BAD_PASCAL_BYTE, BAD_PASCAL_TOKEN, PASCAL_LEFT_OUT, REAL_NUMBERS}
use Rattle.wb_base.specs.Bytes.{is_white}
use Rattle.pas_tokens.specs.declared.kinds.Kind.{Kind}
use Rattle.pas_tokens.specs.declared.kinds.Kind.TheVariants.{Name, Number, Text}
use Rattle.pas_tokens.specs.declared.limits.TheConstants.{NAME_LIMIT, GREATEST_NUMBER}
use Rattle.pas_tokens.specs.Spellings.{reserved_words, signs_of_two, signs_of_one, kind_in}

-- what a token says beside its kind: nothing, the value of a number, a name in small letters, or what stands between
-- the quotes of a string, with quotes in it doubled
pub data Payload : Type 0 where
  nothing : Payload
  value : ℕ → Payload
  spelling : List ℕ → Payload

-- a fault: its number, and which part of Pascal is left out, where it is that
pub record Wrong : Type 0 where
  pub code : ℕ
  pub which : ℕ

-- a fault that has no parts
abbrev pub wrong : ℕ → Wrong
wrong code = record { code = code; which = 0 }

-- a token at the front of a text, and what stands behind it
pub record Cut : Type 0 where
  pub kind : Kind
  pub payload : Payload
  pub rest : List ℕ

-- a byte of a name behind its first letter: a letter, a digit or an underline
abbrev pub is_name_byte : ℕ → Bool
is_name_byte byte = is_ascii_alphanumeric byte || byte == 95

-- a name or a reserved word, in small letters, before this rest
abbrev pub named : List ℕ → List ℕ → Cut
named word rest =
    option_map_or (λ kind. record { kind = kind; payload = nothing; rest = rest }) (kind_in reserved_words word)
    (record { kind = Name; payload = spelling word; rest = rest })

-- a text that begins with a letter: the longest run of name bytes is its name
abbrev pub name_cut : List ℕ → Result Cut Wrong
name_cut text =
    let word = take_while is_name_byte text in
    if nat_lt NAME_LIMIT (length word) then Err (wrong BAD_PASCAL_TOKEN)
    else Ok (named (map to_ascii_lowercase word) (drop (length word) text))

-- the value of decimal digits
abbrev pub value_of : List ℕ → ℕ
value_of digits = fold (λ value digit. value * 10 + (digit - 48)) 0 digits

-- whether a text begins with this byte and then one of these
abbrev pub begins : (ℕ → Bool) → (ℕ → Bool) → List ℕ → Bool
begins first second (byte ∷ (next ∷ rest)) = first byte && second next
begins first second text = false

abbrev pub is_sign : ℕ → Bool
is_sign byte = byte == 43 || byte == 45

-- whether what stands behind digits makes them a real number: a point and a digit, or an `e` and a digit or a sign
abbrev pub is_real_behind : List ℕ → Bool
is_real_behind rest =
    begins (λ byte. byte == 46) is_ascii_digit rest
    || begins (λ byte. byte == 101 || byte == 69) (λ next. is_ascii_digit next || is_sign next) rest

-- a text that begins with a digit: the longest run of digits is its number
abbrev pub number_cut : List ℕ → Result Cut Wrong
number_cut text =
    let digits = take_while is_ascii_digit text in
    let rest = drop (length digits) text in
    if nat_lt GREATEST_NUMBER (value_of digits) then Err (wrong BAD_PASCAL_TOKEN)
    else (if is_real_behind rest then Err (record { code = PASCAL_LEFT_OUT; which = REAL_NUMBERS })
    else Ok (record { kind = Number; payload = value (value_of digits); rest = rest }))

-- a byte that may stand in a string: 32 to 126
abbrev pub is_string_byte : ℕ → Bool
is_string_byte byte = byte == 32 || is_ascii_graphic byte

-- a size that is greater by so much, if there is one
abbrev pub longer : ℕ → Option ℕ → Option ℕ
longer more None = None
longer more (Some size) = Some (more + size)

-- the size of what stands in a string, which the text begins within, up to the quote that ends it; none where the
-- string does not end so. A doubled quote is one in the string
abbrev pub string_size : List ℕ → Option ℕ
string_size [] = None
string_size (byte ∷ []) = if byte == 39 then Some 0 else None
string_size (byte ∷ (next ∷ rest)) =
    if byte == 39 then (if next == 39 then longer 2 (string_size rest) else Some 0)
    else (if is_string_byte byte then longer 1 (string_size (next ∷ rest)) else None)

-- a string with this size between its quotes, if it has one, and is not empty
abbrev pub string_by : List ℕ → Option ℕ → Result Cut Wrong
string_by inside None = Err (wrong BAD_PASCAL_TOKEN)
string_by inside (Some size) =
    if size == 0 then Err (wrong BAD_PASCAL_TOKEN)
    else Ok (record { kind = Text; payload = spelling (take size inside); rest = drop (size + 1) inside })

-- a sign at the front of a text, which is the longest that stands there; every other byte begins no token
abbrev pub sign_cut : List ℕ → Result Cut Wrong
sign_cut text =
    option_map_or (λ kind. Ok (record { kind = kind; payload = nothing; rest = drop 2 text }))
    (kind_in signs_of_two (take 2 text))
    (option_map_or (λ kind. Ok (record { kind = kind; payload = nothing; rest = drop 1 text }))
    (kind_in signs_of_one (take 1 text)) (Err (wrong BAD_PASCAL_BYTE)))

-- the token at the front of a text that begins with this byte, where no blank and no comment stands before it
abbrev pub token_cut : ℕ → List ℕ → Result Cut Wrong
token_cut byte bytes =
    if is_ascii_alphabetic byte then name_cut (byte ∷ bytes)
    else (if is_ascii_digit byte then number_cut (byte ∷ bytes)
    else (if byte == 39 then string_by bytes (string_size bytes) else sign_cut (byte ∷ bytes)))

-- a blank: a space, a tab, a carriage return, or the end of a line
abbrev pub is_pascal_blank : ℕ → Bool
is_pascal_blank byte = is_white byte || byte == 10

-- what stands behind a comment that a text begins within, if it ends: the first `}` or `*)` ends it, whichever began it
abbrev pub behind_comment : List ℕ → Option (List ℕ)
behind_comment [] = None
behind_comment (byte ∷ []) = if byte == 125 then Some [] else None
behind_comment (byte ∷ (next ∷ rest)) =
    if byte == 125 then Some (next ∷ rest)
    else (if byte == 42 && next == 41 then Some rest else behind_comment (next ∷ rest))
