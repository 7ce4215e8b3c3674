-- The right sides of numeric definitions, and their values (STAN-CS-83-980). The faults and limits are this project's
-- own.
use Rattle.std.specs.Prelude.{ℕ, zero, suc, ℤ, pos, neg_ℤ, nat_abs, ◌+ℤ◌, ◌*ℤ◌, ◌+◌, ◌-◌, ◌*◌, ◌==◌, nat_lt}
use Rattle.std.specs.Prelude.{if◌then◌else◌, List, [], ◌∷◌, slice_get, Option, Some, None, Result, Ok, Err}
use Rattle.wb_base.specs.declared.faults.Fault.{Fault}
use Rattle.wb_base.specs.declared.faults.TheConstants.{BAD_NUMERIC_DEFINITION, VALUE_TOO_BIG}
use Rattle.wb_base.specs.declared.places.Place.{Place}
use Rattle.wb_base.specs.FaultAt.{fault_at}
use Rattle.wb_base.specs.Steps.{◌>>=◌}
use Rattle.web_lex.specs.declared.codes.Code.{Code}
use Rattle.web_lex.specs.declared.codes.Code.TheVariants as code
use Rattle.web_lex.specs.Token.{Token, digit, word, based, sign, pool, greatest_value}
use Rattle.web_names.specs.Identifiers.{Name, id_of, is_numeric}
use Rattle.web_pool.specs.Strings.{numbered}
use Rattle.web_scan.specs.Refusals.{string_number}
use Rattle.web_scan.specs.Scanned.{Scanned, Scanning, place_of_last, token_read}
use Rattle.web_scan.specs.Texts.{string_value, ending_code}

-- a part of a right side: a sign, a number of digits, to which a digit directly after it belongs, or the value of
-- another constant
pub data Term : Type 0 where
  plus : Term
  minus : Term
  digits : ℕ → Term
  constant : ℤ → Term

-- Right sides are lists of terms with the last one first.

-- the product of the signs directly before a constant
abbrev pub product_of_signs : List Term → ℤ
product_of_signs (plus ∷ terms) = product_of_signs terms
product_of_signs (minus ∷ terms) = neg_ℤ (product_of_signs terms)
product_of_signs terms = pos 1

-- the sum of the constants, each times the product of the signs since the constant before it; signs after the last
-- constant are ignored
abbrev pub sum_of : List Term → ℤ
sum_of [] = pos 0
sum_of (plus ∷ terms) = sum_of terms
sum_of (minus ∷ terms) = sum_of terms
sum_of (digits value ∷ terms) = (product_of_signs terms *ℤ pos value) +ℤ sum_of terms
sum_of (constant value ∷ terms) = (product_of_signs terms *ℤ value) +ℤ sum_of terms

-- the absolute value that a numeric macro's must be below
abbrev pub value_limit : ℕ
value_limit = 32768

-- the value of a right side, which is too big at the place of the name
abbrev pub value_of : Place → List Term → Result ℤ Fault
value_of at_name terms =
    if nat_lt (nat_abs (sum_of terms)) value_limit then Ok (sum_of terms) else Err (fault_at VALUE_TOO_BIG at_name)

-- the number that digits make with one more digit
abbrev pub longer_number : ℕ → ℕ → ℕ
longer_number value byte = value * 10 + (byte - 48)

-- a right side with a number, which is too big at its last digit
abbrev pub with_number : Place → ℕ → List Term → Result (List Term) Fault
with_number place value terms =
    if nat_lt greatest_value value then Err (fault_at VALUE_TOO_BIG place) else Ok (digits value ∷ terms)

-- a right side with one more digit
abbrev pub with_digit : Place → ℕ → List Term → Result (List Term) Fault
with_digit place byte (digits value ∷ terms) = with_number place (longer_number value byte) terms
with_digit place byte terms = with_number place (byte - 48) terms

-- the value of a name as a constant: that of a numeric macro, but not of the one that is being defined
abbrev pub name_value : ℕ → ℕ → Option Name → Option ℤ
name_value defining id None = None
name_value defining id (Some name) =
    if id == defining then None else (if is_numeric name.class then Some name.value else None)

-- the value of a word as a constant, while the macro with this id is being defined
abbrev pub word_value : ℕ → Option ℕ → List Name → Option ℤ
word_value defining None names = None
word_value defining (Some id) names = name_value defining id (slice_get names id)

-- a right side with a constant, if there is one
abbrev pub with_constant : Place → Option ℤ → List Term → Result (List Term) Fault
with_constant place None terms = Err (fault_at BAD_NUMERIC_DEFINITION place)
with_constant place (Some value) terms = Ok (constant value ∷ terms)

-- a right side with a sign
abbrev pub with_sign : Place → ℕ → List Term → Result (List Term) Fault
with_sign place byte terms =
    if byte == 43 then Ok (plus ∷ terms)
    else (if byte == 45 then Ok (minus ∷ terms) else Err (fault_at BAD_NUMERIC_DEFINITION place))

-- the same web with these terms
abbrev pub with_web : Scanned → Result (List Term) Fault → Result (List Term × Scanned) Fault
with_web web terms = terms >>= (λ terms. Ok (terms, web))

-- a right side with one more token, while the macro with this id is being defined, and the web after it. A string is
-- numbered; a word is not used
abbrev pub with_token : ℕ → Place → Token → List Term → Scanned → Result (List Term × Scanned) Fault
with_token defining place (sign byte) terms web = with_web web (with_sign place byte terms)
with_token defining place (digit byte) terms web = with_web web (with_digit place byte terms)
with_token defining place (based value) terms web = Ok (constant (pos value) ∷ terms, web)
with_token defining place (pool bytes) terms web =
    string_number place web (numbered (string_value bytes) web.strings)
    >>= (λ numbered. Ok (constant (pos numbered.0) ∷ terms, numbered.1))
with_token defining place (word bytes) terms web =
    let names = web.names.names in
    with_web web (with_constant place (word_value defining (id_of bytes names) names) terms)
with_token defining place other terms web = Err (fault_at BAD_NUMERIC_DEFINITION place)

-- the terms of a right side, the code that ends it, and the web after that
abbrev pub TermsRead : Type 0
TermsRead = Result (List Term × Code × Scanning) Fault

-- a right side from a token on: one that ends it, or one more of it and then what is read further
abbrev pub right_side_from :
    ℕ → List Term → Token → Scanning → (List Term → Scanning → TermsRead) → Option Code → TermsRead
right_side_from defining terms token scanning further (Some code) = Ok (terms, code, scanning)
right_side_from defining terms token scanning further None =
    with_token defining (place_of_last scanning) token terms scanning.web
    >>= (λ answer. further answer.0 (record scanning { web = answer.1 }))

-- the right side of the macro with this id, of which these terms were read and no more than this number of tokens is
-- left
unfoldable pub right_side : ℕ → ℕ → List Term → Scanning → TermsRead
right_side zero defining terms scanning = Ok (terms, code.End, scanning)
right_side (suc most) defining terms scanning =
    token_read scanning
    >>= (λ read. right_side_from defining terms read.0 read.1 (right_side most defining) (ending_code read.0))
